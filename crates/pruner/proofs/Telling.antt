-- A lent buffer read as the definition reads it: nothing was asked yet, no record of totals stands there, or its body tells them.
use Prim.Native.Nat.{ℕ, zero, suc, ◌+◌, ◌≤◌}
use native.Mathlib.Omega.{arith}
use native.Mathlib.Numerals.{add-one}
use mathlib.Core.Path.{◌≡◌, refl, ap, sym, subst, ◌∙◌}
use mathlib.Core.Bool.{Bool, true, false}
use mathlib.Core.List.{List, []}
use mathlib.Core.Option.{Option, none as nothing}
use lib.ListN.{length, take, drop, length-drop, replicate, replicate-append-replicate}
use lib.Seq.{length-take-le}
use Rattle.std.specs.Prelude.{⊤, Option as Maybe, Some, None}
use Rattle.field.specs.Limits.{max_functions}
use Rattle.module.specs.Module.{Module}
use Rattle.module.specs.Decode.{tab}
use Rattle.module.specs.Tables.{max_items, module_of}
use Rattle.module.proofs.Tab.{tab-same}
use Rattle.request.specs.Fields.{fields, whole, refused, accepted}
use Rattle.request.proofs.Entries.{kept_same}
use Rattle.walk.specs.State.{FunctionReq, total_pieces}
use Rattle.walk.specs.Requests.{fresh}
use Rattle.memory.specs.Memory.{read}
use Rattle.marks.proofs.Placed.{few}
use Rattle.marks.specs.declared.totals.MarkTotals.{MarkTotals}
use Rattle.marks.specs.Report.{totals_of}
use Rattle.state.specs.State.{totals_sum}
use Rattle.block.specs.Standing.{total_in, functions_in}
use Rattle.pruner.specs.Form.{is_pruner, is_fresh, stated, answered, read_body, read_pruner}
use Rattle.pruner.specs.Stored.{pruner_in, HasTotals}
use Rattle.pruner.specs.Reading.{RoomBeside, NoTotals, FlagsCleared, BodyBy, BodyWasRead, Stands, RecordLength, Untold, PrunerBy, PrunerWasRead}
use Rattle.pruner.proofs.Read.{nothing-counts}
use Rattle.pruner.proofs.Flagged.{no_total}
use Rattle.pruner.proofs.Through.{Through, through_first}

tab-nothing : (n : ℕ) → tab {A = Option FunctionReq} n (λ i. nothing) ≡ replicate n nothing
unfolding tab
tab-nothing zero = refl
tab-nothing (suc n) = rw (tab-nothing n) (replicate-append-replicate n 1 nothing ∙ rw (add-one n) refl)

-- what a buffer means, by its header
module _ (m : Module) (b : List ℕ) where
  means_fresh : is_fresh b ≡ true → read_pruner m b ≡ accepted (fresh m)
  unfolding read_pruner
  means_fresh e = rw e refl

  module _ (asked : is_fresh b ≡ false) where
    means_none : is_pruner b ≡ false → read_pruner m b ≡ refused 19
    unfolding read_pruner
    means_none e = rw (asked, e) refl

    means_body : is_pruner b ≡ true → read_pruner m b ≡ answered (whole (read_body m (fields (drop 6 (stated b)))))
    unfolding read_pruner
    means_body e = rw (asked, e) refl

module _ {bytes t starts s rs : List ℕ} {totals : MarkTotals} (h : HasTotals bytes t starts s rs totals) (untold : Untold s rs) {n : ℕ} (is-n : n ≡ length (module_of bytes t).functions) where
  abbrev m : Module
  m = module_of bytes t

  pub flags_there : n ≤ length totals.flags
  flags_there = omega (arith, few bytes t h.was_read, h.flags_long)

  -- the flags are cleared, and the marks stay
  pub has_yet : {flags : List Bool} → FlagsCleared totals.flags n flags → HasTotals bytes t starts s rs (totals_of flags totals.marks)
  has_yet c = record {
    was_read = h.was_read;
    firsts = h.firsts;
    placed = h.placed;
    memory = h.memory;
    flags_long = omega (arith, c.long, h.flags_long);
    marks_long = h.marks_long;
  }

  -- the body of the record that stands there
  module _ (b : List ℕ) {asked : Bool} (is_asked : asked ≡ is_fresh b) (e : asked ≡ false) {found : Maybe ℕ} (there : RecordLength b found) where
    pub tells_none : {after : MarkTotals} → found ≡ None → PrunerWasRead bytes t s rs b s rs after None
    tells_none z = record {
      kept = kept_same h.memory.good;
      long = refl;
      by = means_none m b (sym is_asked ∙ e) (subst (RecordLength b) z there);
    }

    module _ {end : ℕ} (z : found ≡ Some end) where
      pub stands : Stands b end
      stands = subst (RecordLength b) z there

      pub body_there : 6 ≤ length (take end b)
      body_there = omega (arith, length-take-le end b stands.inside, stands.is)

      pub body_fits : RoomBeside s (drop 6 (take end b)) (max_items + max_functions)
      body_fits = omega (arith, length-drop 6 (take end b), length-take-le end b stands.inside, stands.small, stands.is, untold.room)

      means_this : read_pruner m b ≡ answered (whole (read_body m (fields (drop 6 (take end b)))))
      means_this = means_body m b (sym is_asked ∙ e) stands.there ∙ rw stands.is refl

      by_body : (u us : List ℕ) (after : MarkTotals) (r : Maybe ⊤) → BodyBy bytes t s rs (take end b) u us after r → PrunerBy bytes t s rs b u us after r
      by_body u us after (Some ok) k = record {
        is = means_this ∙ k.is;
        memory = k.memory;
        same = k.same;
        totals-sum = k.totals-sum;
        unwalked = k.unwalked;
      }
      by_body u us after None k = means_this ∙ k

      pub tells_body : {u us : List ℕ} {after : MarkTotals} {r : Maybe ⊤} → BodyWasRead bytes t s rs (take end b) u us after r → PrunerWasRead bytes t s rs b u us after r
      tells_body {u} {us} {after} {r} k = record { kept = k.kept; long = k.long; by = by_body u us after r k.by }

  module _ (cleared : MarkTotals) {before : List Bool} (c : FlagsCleared before n cleared.flags) where
    pub none_yet : NoTotals bytes t s rs cleared
    none_yet = record { flags = λ g l. c.flags g (omega arith); slots = untold.slots }

    first : Through bytes t s rs [] 0 s rs cleared 0 [] 0
    first = through_first h.was_read h.memory none_yet (omega arith)

    functions_none : functions_in m t (read s rs) cleared ≡ replicate (length (module_of bytes t).functions) nothing
    unfolding functions_in
    functions_none =
        tab-same (length (module_of bytes t).functions) (total_in m t (read s rs) cleared) (λ i. nothing) (λ i l. no_total m t (read s rs) cleared i (none_yet.flags i l))
        ∙ tab-nothing (length (module_of bytes t).functions)

    fresh_in : fresh m ≡ pruner_in bytes t s rs cleared
    unfolding fresh
    fresh_in = rw (untold.globals, functions_none) refl

    nothing_summed : total_pieces (functions_in m t (read s rs) cleared) ≡ totals_sum (read s rs)
    unfolding tab total_pieces
    nothing_summed = omega (arith, ap total_pieces functions_none, nothing-counts m (length (module_of bytes t).functions), first.weighed)

    pub tells_fresh : (b : List ℕ) {asked : Bool} → asked ≡ is_fresh b → asked ≡ true → PrunerWasRead bytes t s rs b s rs cleared (Some tt)
    tells_fresh b is_asked e = record {
      kept = kept_same h.memory.good;
      long = refl;
      by = record {
        is = means_fresh m b (sym is_asked ∙ e) ∙ ap accepted fresh_in;
        memory = h.memory;
        same = λ k ne out. refl;
        totals-sum = nothing_summed;
        unwalked = λ g l z. (first.later g (omega arith) l).1;
      };
    }
