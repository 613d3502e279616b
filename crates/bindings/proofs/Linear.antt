-- The work by tables is the plain recursion: a table has what the recursion gives at each number below its length, by one induction over
-- that length; and what is asked of all of a type needs nothing but what is asked of all of the types it names.
use Prim.Native.Nat.{ℕ, zero, suc, ◌<◌, ◌≤◌}
use native.Mathlib.Omega.{arith}
use native.Mathlib.Decide.{dec_lt, ℕ_discrete}
use mathlib.Core.Path.{◌≡◌, refl, sym, ap, ◌∙◌, fun_ext}
use mathlib.Core.List.{List, [], ◌∷◌}
use mathlib.Core.Option.{Option, none as nothing}
use lib.ListN.{length, get_or, length-append, get_or-append, get_or-eq_default}
use lib.Seq.{get_or-append_seam}
use borrow.Author.Tests.{le-ltb}
use Rattle.part.specs.PartReq.{PartReq, all, exist, none, more}
use Rattle.part.proofs.Equations.{get_subpart-all}
use Rattle.module.specs.Module.{TypeHandle, Member, TypeInner, Scalar, Vector, Matrix, Atomic, Pointer, Array, Struct, BindingArray, Opaque}
use Rattle.module.specs.Knot.{knot, below}
use Rattle.module.proofs.Knot.{knot-is, below-lt}
use Rattle.bindings.specs.Bindings.{Bindings, empty}
use Rattle.bindings.specs.TypeBindings.{member_bindings, members_bindings, inner_bindings, step_bindings, get_type_bindings, inner_from, step_from, from_type_bindings}
use Rattle.bindings.specs.Linear.{table, step_all, all_table, step_walk, walk_bindings, from_table}

-- a table of what a recursion gives
module _ {A : Type 0} (step : (ℕ → A) → ℕ → A) (d : A) where
  pub table-length : (n : ℕ) → length (table step d n) ≡ n
  unfolding table
  table-length zero = refl
  table-length (suc n) =
      length-append (table step d n) (step (λ u. get_or (table step d n) u d) n ∷ []) ∙ rw (table-length n) (omega arith)

  pub table-past : (n e : ℕ) → n ≤ e → get_or (table step d n) e d ≡ d
  table-past n e h = get_or-eq_default (table step d n) d (rw (table-length n) h)

  pub table_more : (n e : ℕ) → e < n → get_or (table step d (suc n)) e d ≡ get_or (table step d n) e d
  unfolding table
  table_more n e h = get_or-append (table step d n) (step (λ u. get_or (table step d n) u d) n ∷ []) d e (rw (table-length n) h)

  pub table-last : (n : ℕ) → get_or (table step d (suc n)) n d ≡ step (λ u. get_or (table step d n) u d) n
  unfolding table
  table-last n =
      let z = get_or-append_seam (table step d n) (step (λ u. get_or (table step d n) u d) n) [] d in rw (table-length n) at z

  -- in it stands what the recursion gives at the numbers below n
  pub table_is : (n e : ℕ) → get_or (table step d n) e d ≡ below (knot step d) d n e
  table_is zero e = unfold table below in rw (le-ltb e 0 (omega arith))
  table_is (suc n) e =
      elim (ℕ_discrete e n) [
        | yes h ↦
            rw h
            (table-last n
            ∙ ap (λ (w : ℕ → A). step w n) (fun_ext (table_is n))
            ∙ sym (knot-is step d n)
            ∙ sym (below-lt (knot step d) d (suc n) n (omega arith)))
        | no h ↦
            elim (dec_lt e n) [
              | yes l ↦ table_more n e l ∙ table_is n e ∙ below-lt (knot step d) d n e l ∙ sym (below-lt (knot step d) d (suc n) e (omega arith))
              | no l ↦
                  let past : suc n ≤ e = omega arith in
                  table-past (suc n) e past ∙ (unfold below in rw (le-ltb e (suc n) past))
            ]
      ]

  pub table_at : (n e : ℕ) → e < n → get_or (table step d n) e d ≡ knot step d e
  table_at n e h = table_is n e ∙ below-lt (knot step d) d n e h

  -- a table that is long enough has what the recursion gives everywhere
  table-whole : (n : ℕ) → ((w : ℕ → A) (e : ℕ) → n ≤ e → step w e ≡ d) → (e : ℕ) → get_or (table step d n) e d ≡ knot step d e
  table-whole n none-past e =
      elim (dec_lt e n) [
        | yes h ↦ table_at n e h
        | no h ↦
            let past : n ≤ e = omega arith in
            table-past n e past ∙ sym (knot-is step d e ∙ none-past (below (knot step d) d e) e past)
      ]

-- what does as each step of a recursion does is the recursion
module _ {A : Type 0} (step : (ℕ → A) → ℕ → A) (d : A) (g : ℕ → A) (h : (e : ℕ) → g e ≡ step (below g d e) e) where
  Same : ℕ → Type 0
  Same n = (e : ℕ) → e < n → g e ≡ knot step d e

  below-same : (n : ℕ) → Same n → (a : ℕ) → below g d n a ≡ below (knot step d) d n a
  unfolding Same
  below-same n ih a =
      elim (dec_lt a n) [
        | yes l ↦ below-lt g d n a l ∙ ih a l ∙ sym (below-lt (knot step d) d n a l)
        | no l ↦ let past : n ≤ a = omega arith in (unfold below in rw (le-ltb a n past))
      ]

  same_at : (n : ℕ) → Same n → g n ≡ knot step d n
  same_at n ih = h n ∙ ap (λ (w : ℕ → A). step w n) (fun_ext (below-same n ih)) ∙ sym (knot-is step d n)

  all_same : (n : ℕ) → Same n
  unfolding Same
  all_same zero e l = absurd (omega arith)
  all_same (suc n) e l =
      elim (ℕ_discrete e n) [
        | yes same ↦ rw same (same_at n (all_same n))
        | no other ↦ all_same n e (omega arith)
      ]

  knot-unique : (e : ℕ) → g e ≡ knot step d e
  knot-unique e = same_at e (all_same e)

below-through : {A B : Type 0} (f : A → B) (w : ℕ → A) (d : A) (n a : ℕ) → f (below w d n a) ≡ below (λ e. f (w e)) (f d) n a
below-through f w d n a =
    elim (dec_lt a n) [
      | yes l ↦ ap f (below-lt w d n a l) ∙ sym (below-lt (λ e. f (w e)) (f d) n a l)
      | no l ↦ let past : n ≤ a = omega arith in (unfold below in rw (le-ltb a n past))
    ]

-- where all is needed of a type, all is needed of the types that it names
module _ (get : TypeHandle → PartReq → Bindings) where
  members_all : (i : ℕ) (ms : List Member) → members_bindings get all i ms ≡ members_bindings (λ u p. get u all) all i ms
  unfolding members_bindings member_bindings
  members_all i [] = refl
  members_all i (m ∷ ms) = rw (get_subpart-all i, members_all (suc i) ms)

  pub inner_all : (t : TypeInner) → inner_bindings get t all ≡ inner_bindings (λ u p. get u all) t all
  unfolding inner_bindings
  inner_all Scalar = refl
  inner_all (Vector size) = refl
  inner_all (Matrix columns rows) = refl
  inner_all Atomic = refl
  inner_all (Pointer base) = refl
  inner_all (Array base count) = refl
  inner_all (Struct members) = members_all 0 members
  inner_all (BindingArray base) = refl
  inner_all Opaque = refl

module _ (types : List TypeInner) where
  -- what `get_type_bindings` does at each type
  plain : TypeHandle → PartReq → Bindings
  plain = knot (step_bindings types) (λ q. empty)

  plain_step : (t : TypeHandle) → plain t ≡ step_bindings types (below plain (λ q. empty) t) t
  unfolding plain
  plain_step t = knot-is (step_bindings types) (λ q. empty) t

  plain_all : (t : TypeHandle) → plain t all ≡ step_all types (below (λ u. plain u all) empty t) t
  unfolding step_bindings step_all
  plain_all t =
      ap (λ (g : PartReq → Bindings). g all) (plain_step t)
      ∙ inner_all (below plain (λ q. empty) t) (get_or types t Opaque)
      ∙ ap (λ (lower : TypeHandle → Bindings). inner_bindings (λ u p. lower u) (get_or types t Opaque) all)
      (fun_ext (below-through (λ (g : PartReq → Bindings). g all) plain (λ q. empty) t))

  -- no binding is below a type that is not there
  no_type : (w : TypeHandle → Bindings) (t : TypeHandle) → length types ≤ t → step_all types w t ≡ empty
  unfolding step_all inner_bindings
  no_type w t h = rw (get_or-eq_default types Opaque h)

  -- The table has for each type what `get_type_bindings` finds below it, where all is needed.
  pub all-table_is : (t : TypeHandle) → get_or (all_table types) t empty ≡ get_type_bindings types all t
  unfolding all_table get_type_bindings plain
  all-table_is t =
      table-whole (step_all types) empty (length types) no_type t
      ∙ sym (knot-unique (step_all types) empty (λ u. plain u all) plain_all t)

  plain_walk : (t : TypeHandle) (p : PartReq) → plain t p ≡ step_walk types (all_table types) (below plain (λ q. empty) t) t p
  unfolding step_walk plain get_type_bindings
  plain_walk t all = sym (all-table_is t)
  plain_walk t exist = ap (λ (g : PartReq → Bindings). g exist) (plain_step t)
  plain_walk t none = ap (λ (g : PartReq → Bindings). g none) (plain_step t)
  plain_walk t (more i p r) = ap (λ (g : PartReq → Bindings). g (more i p r)) (plain_step t)

  -- The walk that uses the table finds what `get_type_bindings` finds.
  pub walk_is : (p : PartReq) (t : TypeHandle) → walk_bindings types (all_table types) p t ≡ get_type_bindings types p t
  unfolding walk_bindings get_type_bindings plain
  walk_is p t =
      sym (ap (λ (g : PartReq → Bindings). g p) (knot-unique (step_walk types (all_table types)) (λ q. empty) plain (λ e. fun_ext (plain_walk e)) t))

  -- no part is made of a type that is not there
  no_part : (required : Bindings) (w : TypeHandle → Option PartReq) (t : TypeHandle) → length types ≤ t → step_from types required w t ≡ nothing
  unfolding step_from inner_from
  no_part required w t h = rw (get_or-eq_default types Opaque h)

  -- The table has for each type what `from_type_bindings` makes of it.
  pub from_table_is : (required : Bindings) (t : TypeHandle) → get_or (from_table types required) t nothing ≡ from_type_bindings types required t
  unfolding from_table from_type_bindings
  from_table_is required t = table-whole (step_from types required) nothing (length types) (no_part required) t
