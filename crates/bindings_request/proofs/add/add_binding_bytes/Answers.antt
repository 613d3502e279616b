-- `bindings_request::add::add_binding_bytes` meets its contract: 12 of the binding, then what reading the request answers.
use mathlib.Core.Path.{◌≡◌, refl}
use Rattle.field.specs.Refusal.{number}
use Rattle.field.specs.declared.refusal.Refusal.{Refusal}
use Rattle.bindings_request.specs.Boundary.{own_number}
use Rattle.bindings_request.proofs.Adding.{add-above, read_asks, add_refused, add_to_asks, add_went}
use Rattle.std.proofs.lemmas.Result.{err_from_is_err_and}
use Rattle.request.proofs.Ways.{mapped, mapped_from}
use Rattle.bindings_request.proofs.add.add_binding_bytes.Goals as goal

abbrev own_as : Refusal → Refusal → Type 0
own_as e k = number k ≡ own_number (number e)

pub returns-then-b-ge-BINDINGS : goal.returns-then-b-ge-BINDINGS
returns-then-b-ge-BINDINGS c = rw c.into.ensures (add-above _ _ _ _ c.if-b-ge-BINDINGS.true)

pub read_request-read-requires : goal.read_request-read-requires
read_request-read-requires c =
    let q9 = read_asks c.requires.tables c.requires.parts_len.1 c.globals.ensures c.init.ensures.0 c.init.ensures.1 c.init.ensures.2 in
    record { good = q9.0; globals_le_absent = q9.1 }

pub add_to-requires : goal.add_to-requires
add_to-requires c =
    let q9 = add_to_asks c.args.file.now.bytes c.args.file.now.t _ _ c.if-b-ge-BINDINGS.false c.functions.ensures c.globals.ensures c.read_request-read.ensures (mapped own_as _ c.map_err.ensures.cases c.in_ok-q.was) c.requires.tables c.requires.parts_len.0 c.requires.parts_len.1 refl refl c.init.ensures.1 c.init.ensures.2 in
    record { tables = q9.0; good = q9.1.0; parts_len = q9.1.1.0; f_in_bounds = q9.1.1.1.0; b_lt_bindings = q9.1.1.1.1 }

pub returns-in_err-q : goal.returns-in_err-q
returns-in_err-q c =
    let p = err_from_is_err_and c.from_residual.result c.from_residual.ensures.1 in
    let e = mapped_from own_as _ c.map_err.ensures.cases c.in_err-q.was in
    rw (p.1, p.2)
    (add_refused c.args.file.now.bytes c.args.file.now.t _ _ c.if-b-ge-BINDINGS.false c.functions.ensures c.globals.ensures c.read_request-read.ensures e.0 _ e.1 e.2)

pub returns : goal.returns
returns c =
    add_went c.args.file.now.bytes c.args.file.now.t _ _ c.if-b-ge-BINDINGS.false c.functions.ensures c.globals.ensures c.read_request-read.ensures (mapped own_as _ c.map_err.ensures.cases c.in_ok-q.was) c.add_to.ensures
