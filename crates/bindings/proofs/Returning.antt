-- What the code makes of a function's result is what `output_from_bindings` and `add_binding` say: the returned value's entry by the table of
-- types, then 15 and 16 by the sizes of the sum, and the sum where it is within them.
use Prim.Native.Nat.{ℕ, ◌+◌, ◌<◌, ◌≤◌, min}
use native.Mathlib.Omega.{arith}
use native.Mathlib.Decide.{dec_lt}
use mathlib.Core.Path.{◌≡◌, refl, sym, ap, ◌∙◌, fun_ext}
use mathlib.Core.Bool.{Bool, true, false, cond, ◌||◌}
use lib.Dec.{ltb}
use mathlib.Core.List.{List}
use mathlib.Core.Option.{Option, some, none as nothing}
use lib.ListN.{length, get_or-eq_default}
use borrow.Author.Tests.{lt-ltb, le-ltb}
use Rattle.std.specs.Prelude.{Option as Optional, Some, None, ⊤, Result, Ok, Err}
use Rattle.std.proofs.lemmas.Bool.{ltb-false}
use Rattle.field.specs.Refusal.{number}
use Rattle.field.specs.declared.refusal.Refusal.{Refusal}
use Rattle.field.specs.Limits.{max_pieces}
use Rattle.field.specs.declared.refusal.Refusal.TheVariants.{PartLimit, PiecesLimit}
use Rattle.part.specs.PartReq.{PartReq, none, more, add, entries, over}
use Rattle.part.specs.StoreLimits.{entries_cap}
use Rattle.part.specs.Store.{top, part, Good, Made, Measures}
use Rattle.part.proofs.Pieces.{part-2}
use Rattle.part.proofs.Making.{kept_trans}
use Rattle.part.proofs.Write.{stay}
use Rattle.module.specs.Module.{TypeInner, Opaque, FunctionResult, Function}
use Rattle.access.specs.Access.{number_in, result_from as result_in}
use Rattle.access.specs.declared.whole.Bound.{Bound}
use Rattle.module.proofs.Knot.{knot-is, below-lt}
use Rattle.context.specs.Types.{types_of, type_count}
use Rattle.context.specs.RequiredContext.{RequiredContext, variable, pieces, return_entry}
use Rattle.context.proofs.Types.{length-tab}
use Rattle.bindings.specs.Bindings.{Bindings, single, own_binding}
use Rattle.bindings.specs.TypeBindings.{from_binding, inner_from, step_from, from_type_bindings}
use Rattle.bindings.specs.ContextBindings.{result_from, output_from_bindings, add_binding, Answer, refused, accepted, as_request}
use Rattle.bindings.specs.Rows.{BindingFits}
use Rattle.bindings.specs.Parts.{part_of, lower_part, optional, Chosen, Parts}
use Rattle.bindings.specs.Outputs.{BoundResult, request_context, within_limits, Asked}
use Rattle.bindings.proofs.Members.{past_part}

pub types_long : (tbl : List ℕ) → length (types_of tbl) ≡ type_count tbl
unfolding types_of
types_long tbl = length-tab _ _

-- a type that is not there has no part
past_type : (types : List TypeInner) (required : Bindings) (u : ℕ) → length types ≤ u → from_type_bindings types required u ≡ nothing
unfolding from_type_bindings step_from inner_from
past_type types required u h =
    knot-is (step_from types required) nothing u ∙ rw (get_or-eq_default types Opaque {n = u} h)

module _ {s t : List ℕ} {types : List TypeInner} {required : Bindings} {parts : List ℕ} {k : ℕ} (F : Parts s t types required parts k) where
  table_is : length parts ≡ length types → (u : ℕ) → lower_part t parts (length parts) u ≡ from_type_bindings types required u
  table_is e u =
      elim (dec_lt u (length parts)) [
        | yes h ↦ below-lt (part_of t parts) nothing (length parts) u h ∙ F.is u h
        | no h ↦
            let past : length parts ≤ u = omega arith in
            past_part parts (length parts) u past t ∙ sym (past_type types required u (omega arith))
      ]

  -- what the result comes to
  pub result-is : {n : ℕ} {q : Optional ℕ} (x : Bound) → length parts ≡ length types → n ≡ length parts → Chosen parts required n (number_in x.binding) x.ty.0 q → optional t q ≡ result_from types required (result_in (Some x))
  unfolding result_from
  result-is x e f C =
      C.is t ∙ rw f (ap (λ (w : ℕ → Option PartReq). from_binding w required (number_in x.binding) x.ty.0) (fun_ext (table_is e)))

pub bound_result : {o : Optional Bound} (x : Bound) → o ≡ Some x → BoundResult (result_in o) → BindingFits (number_in x.binding)
bound_result x e g = rw e at g

-- the returned value's entry, by the table of types and the result that a function declares
abbrev entry : (tbl : List ℕ) (required : Bindings) → Optional Bound → PartReq
entry tbl required o = return_entry (result_from (types_of tbl) required (result_in o))

pub no_result : (tbl : List ℕ) (required : Bindings) {s : List ℕ} {o : Optional Bound} (k : ℕ) → Good s → o ≡ None → Made s s (entry tbl required o) k 2
no_result tbl required {s} k g e =
    stay s _ k 2 g (omega (arith, g.base)) (part-2 s ∙ (unfold return_entry result_from in (rw e)))

module _ (tbl : List ℕ) (required : Bindings) {s t parts : List ℕ} {n k : ℕ} {q : Optional ℕ} {o : Optional Bound} (x : Bound) (F : Parts s t (types_of tbl) required parts k) (C : Chosen parts required n (number_in x.binding) x.ty.0 q) (same : n ≡ length parts) where
  module _ (h : o ≡ Some x) (l : length parts ≡ type_count tbl) where
    is_entry : return_entry (optional t q) ≡ entry tbl required o
    is_entry = rw h (ap return_entry (result-is F x (l ∙ sym (types_long tbl)) same C))

    pub entry_none : q ≡ None → Made s t (entry tbl required o) (k + 1) 2
    entry_none e =
        record {
          kept = F.kept;
          piece = omega (arith, F.kept.good.base);
          is = part-2 t ∙ (unfold return_entry in (rw e at is_entry));
          cost = omega (arith, F.cost);
        }

    pub entry_made : {u : List ℕ} {p m : ℕ} → q ≡ Some p → Made t u (more (variable 0) (part t p) (part t 2)) 1 m → Made s u (entry tbl required o) (k + 1) m
    entry_made e a =
        record {
          kept = kept_trans F.kept a.kept;
          piece = a.piece;
          is = a.is ∙ (rw (part-2 t) (unfold return_entry in (rw e at is_entry)));
          cost = omega (arith, F.cost, a.cost);
        }

-- 15 and 16: what the code finds by sizes is what the request is answered
unfoldable answered : RequiredContext → Result ⊤ Refusal → Answer RequiredContext
answered c (Err r) = refused (number r)
answered c (Ok u) = accepted c

module _ (new c : RequiredContext) where
  by_tests : (b d : Bool) → answered c (cond b (Err PartLimit) (cond d (Err PiecesLimit) (Ok tt))) ≡ cond b (refused 15) (cond d (refused 16) (accepted c))
  unfolding answered
  by_tests true d = refl
  by_tests false true = refl
  by_tests false false = refl

  limits_say : answered c (within_limits (over new.retval) (over c.retval) (pieces c)) ≡ as_request new c
  unfolding within_limits as_request
  limits_say = by_tests (over new.retval || over c.retval) (ltb max_pieces (pieces c))

few_by : (b d : Bool) {u : ⊤} → ◌≡◌ {A = Result ⊤ Refusal} (cond b (Err PartLimit) (cond d (Err PiecesLimit) (Ok tt))) (Ok u) → d ≡ false
few_by true d e = cc
few_by false true e = cc
few_by false false e = refl

few_in : (v w : Bool) (n : ℕ) {u : ⊤} → within_limits v w n ≡ Ok u → n ≤ max_pieces
unfolding within_limits
few_in v w n e = ltb-false max_pieces n (few_by (v || w) (ltb max_pieces n) e)

-- a count up to a cap that is above the limit says as much
same_limit : (v w : Bool) {n k : ℕ} → (max_pieces < n → max_pieces < k) → (n ≤ max_pieces → k ≤ max_pieces) → within_limits v w n ≡ within_limits v w k
unfolding within_limits
same_limit v w {n} {k} f g =
    elim (dec_lt max_pieces n) [
      | yes h ↦ rw (lt-ltb max_pieces n h, lt-ltb max_pieces k (f h))
      | no h ↦ let l : n ≤ max_pieces = omega arith in rw (le-ltb max_pieces n l, le-ltb max_pieces k (g l))
    ]

pieces_are : (globals retval : PartReq) → pieces (request_context globals retval) ≡ entries globals + entries retval
unfolding pieces entries
pieces_are globals retval = omega arith

module _ (types : List TypeInner) (required : Bindings) (declared : Option FunctionResult) {s t : List ℕ} {k n : ℕ} (m : Made s t (return_entry (result_from types required declared)) k n) where
  new_is : (f : Function) → f.result ≡ declared → output_from_bindings types required f ≡ request_context none (part t n)
  unfolding output_from_bindings
  new_is f e = rw (e, m.is)

  -- `output_from_bindings`
  abbrev answer : Function → Answer RequiredContext
  answer f = as_request (output_from_bindings types required f) (output_from_bindings types required f)

  module _ {e d w : ℕ} {o : Bool} (z : Measures (part t n) e d w o) {r : Result ⊤ Refusal} (R : r ≡ within_limits o o e) where
    abbrev out : RequiredContext
    out = request_context none (part t n)

    out_limits : r ≡ within_limits (over out.retval) (over out.retval) (pieces out)
    out_limits =
        let p = pieces_are none (part t n) in
        R ∙ rw z.over_is (same_limit (over out.retval) (over out.retval) (λ h. unfold entries in (omega (arith, z.entries_is))) (λ h. unfold entries in (omega (arith, z.entries_is))))

    pub output_refused : {x : Refusal} → r ≡ Err x → Asked s t declared none answer (Err x)
    unfolding answered
    output_refused {x} h =
        record {
          kept = m.kept;
          held = tt;
          is = λ f q. rw (new_is f q) (rw (← out_limits, h) at (limits_say out out));
        }

    pub output_within : {u : ⊤} → r ≡ Ok u → Asked s t declared none answer (Ok n)
    unfolding answered
    output_within h =
        let few = few_in (over out.retval) (over out.retval) (pieces out) (sym out_limits ∙ h) in
        record {
          kept = m.kept;
          held = (m.piece, omega (arith, pieces_are none (part t n), few));
          is = λ f q. rw (new_is f q) (rw (← out_limits, h) at (limits_say out out));
        }

-- `add_binding`
module _ (types : List TypeInner) (b : ℕ) {required : Bindings} (w : required ≡ own_binding (some b)) {s t : List ℕ} {k n : ℕ} (declared : Option FunctionResult) (globals retval : ℕ) (m : Made s t (return_entry (result_from types required declared)) k n) (held : (globals < top s) × (retval < top s)) where
  abbrev adds : Function → Answer RequiredContext
  adds f = as_request (output_from_bindings types (single b) f) (add_binding types b f (request_context (part s globals) (part s retval)))

  single_is : (f : Function) → f.result ≡ declared → output_from_bindings types (single b) f ≡ request_context none (part t n)
  unfolding own_binding
  single_is f e = rw w at (new_is types required declared m f e)

  abbrev added : RequiredContext
  added = request_context (part s globals) (add (part t retval) (part t n))

  added_is : (f : Function) → f.result ≡ declared → add_binding types b f (request_context (part s globals) (part s retval)) ≡ added
  unfolding add_binding
  added_is f e = rw (single_is f e, m.kept.same retval held.1)

  module _ {e d v g : ℕ} {o x : Bool} (z : Measures (add (part t retval) (part t n)) e d v o) (y : x ≡ over (part t n)) (c : g ≡ min entries_cap (entries (part t globals))) {r : Result ⊤ Refusal} (R : r ≡ within_limits x o (g + e)) where
    counted : entries (part t globals) ≡ entries (part s globals)
    counted = ap entries (m.kept.same globals held.0)

    sum_limits : r ≡ within_limits (over (part t n)) (over added.retval) (pieces added)
    sum_limits =
        let p = pieces_are (part s globals) (add (part t retval) (part t n)) in
        let q = counted in
        R ∙ rw (y, z.over_is) (same_limit (over (part t n)) (over added.retval) (λ h. omega (arith, z.entries_is)) (λ h. omega (arith, z.entries_is)))

    pub add_refused : {i : Refusal} → r ≡ Err i → Asked s t declared (part s globals) adds (Err i)
    unfolding answered
    add_refused {i} h =
        record {
          kept = m.kept;
          held = tt;
          is = λ f q. rw (single_is f q, added_is f q) (rw (← sum_limits, h) at (limits_say (request_context none (part t n)) added));
        }

    pub add_few : {u : ⊤} → r ≡ Ok u → entries (part s globals) + entries (add (part t retval) (part t n)) ≤ max_pieces
    add_few h =
        omega (arith, pieces_are (part s globals) (add (part t retval) (part t n)), few_in (over (part t n)) (over added.retval) (pieces added) (sym sum_limits ∙ h))

    pub add_within : {u : ⊤} {l : List ℕ} {i j : ℕ} → r ≡ Ok u → Made t l (add (part t retval) (part t n)) j i → Asked s l declared (part s globals) adds (Ok i)
    unfolding answered
    add_within h a =
        record {
          kept = kept_trans m.kept a.kept;
          held = (a.piece, rw a.is (add_few h));
          is = λ f q. rw (a.is, single_is f q, added_is f q) (rw (← sum_limits, h) at (limits_say (request_context none (part t n)) added));
        }
