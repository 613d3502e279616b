-- The walk's laws: what is found in a type that another names, in a member, and in the members from the last to the first; and the table
-- that grows by one type at a time.
use Prim.Native.Nat.{ℕ, zero, suc, ◌+◌, ◌-◌, ◌<◌, ◌≤◌}
use native.Mathlib.Omega.{arith}
use native.Mathlib.Decide.{dec_lt}
use native.Mathlib.Numerals.{add-one}
use mathlib.Core.Path.{◌≡◌, refl, sym, ap, ◌∙◌, fun_ext}
use mathlib.Core.Bool.{true, false, false≢true}
use mathlib.Core.List.{List, [], ◌∷◌, ◌++◌, append_assoc, append-nil}
use lib.Bits.{bit_or}
use lib.ListN.{length, get_or, drop, set, drop_of_length-le, get_or-append}
use lib.Seq.{drop-cons, set_at}
use borrow.Author.Tests.{le-ltb, ne_eqb}
use mathlib.Core.Logic.{◌⊎◌, inl, inr}
use Prim.Native.Nat.{min}
use Rattle.module.specs.KindNumbers.{type_number}
use Rattle.module.specs.declared.kinds.TypeKind.{TypeKind}
use Rattle.module.specs.declared.kinds.TypeKind.TheVariants.{Pointer, Array, BindingArray}
use Rattle.context.proofs.TypeKinds.{kind_known, kind_other}
use Rattle.part.specs.PartReq.{PartReq, all, exist, none, more, is_all, is_exist, Subpart, gone, there, get_subpart}
use Rattle.module.specs.Module.{TypeHandle, Member, TypeInner, Opaque}
use Rattle.module.specs.Knot.{below}
use Rattle.std.proofs.Math.Option.{Option}
use Rattle.module.proofs.Knot.{knot-is, below-lt}
use Rattle.context.specs.Types.{type_kind, types_of, type_word, type_count, row_type}
use Rattle.bindings.specs.Bindings.{Bindings, empty, own_binding}
use Rattle.bindings.specs.TypeBindings.{member_bindings, members_bindings, step_bindings}
use Rattle.bindings.specs.Linear.{table, step_all, all_table, step_walk, walk_bindings}
use Rattle.bindings.specs.Rows.{row_member, member_count, members_of, is_base, MemberIs}
use Rattle.bindings_request.specs.Walks.{lower}
use Rattle.context.proofs.Types.{length-tab}
use Rattle.request.specs.Fields.{fields}
use Rattle.request.specs.Part.{by_code, read_part}
use Rattle.context_bytes.specs.Found.{value_of, part_in, Readable}
use Rattle.bindings.proofs.Linear.{table-length, table-past, inner_all}
use Rattle.bindings.proofs.Rows.{base_step, members_step, members_long, members_at}

-- in a type that the type t names
module _ (types : List TypeInner) (sets : List Bindings) (t u : ℕ) where
  pub lower-past : (p : PartReq) → t ≤ u → 0 ≡ lower types sets t u p
  unfolding lower below
  lower-past p h = rw (le-ltb u t h)

  lower_is : (p : PartReq) → u < t → lower types sets t u p ≡ step_walk types sets (lower types sets u) u p
  unfolding lower walk_bindings
  lower_is p h =
      ap (λ (g : PartReq → Bindings). g p)
      (below-lt (λ v q. walk_bindings types sets q v) (λ q. empty) t u h ∙ knot-is (step_walk types sets) (λ q. empty) u)

  pub lower_all : (p : PartReq) → u < t → is_all p ≡ true → get_or sets u 0 ≡ lower types sets t u p
  lower_all all h e = sym (lower_is all h ∙ (unfold step_walk in refl))
  lower_all exist h e = absurd (false≢true e)
  lower_all none h e = absurd (false≢true e)
  lower_all (more i p r) h e = absurd (false≢true e)

  step_other : (p : PartReq) → is_all p ≡ false → step_walk types sets (lower types sets u) u p ≡ step_bindings types (lower types sets u) u p
  unfolding step_walk
  step_other all h = absurd (false≢true (sym h))
  step_other exist h = refl
  step_other none h = refl
  step_other (more i p r) h = refl

  pub lower-step : (p : PartReq) → u < t → is_all p ≡ false → step_bindings types (lower types sets u) u p ≡ lower types sets t u p
  lower-step p h e = sym (lower_is p h ∙ step_other p e)

-- in a member
module _ (get : TypeHandle → PartReq → Bindings) (m : Member) where
  pub member_gone : {sub : Subpart} → sub ≡ gone → 0 ≡ member_bindings get m sub
  unfolding member_bindings
  member_gone e = rw e

  exist_member : (p : PartReq) → is_exist p ≡ true → 0 ≡ member_bindings get m (there p)
  unfolding member_bindings
  exist_member all h = absurd (false≢true h)
  exist_member exist h = refl
  exist_member none h = absurd (false≢true h)
  exist_member (more i p r) h = absurd (false≢true h)

  pub member_exist : {p : PartReq} {sub : Subpart} → sub ≡ there p → is_exist p ≡ true → 0 ≡ member_bindings get m sub
  member_exist {p} e h = rw e (exist_member p h)

  needed_member : (p : PartReq) → is_exist p ≡ false → bit_or (own_binding m.binding) (get m.type p) ≡ member_bindings get m (there p)
  unfolding member_bindings
  needed_member all h = refl
  needed_member exist h = absurd (false≢true (sym h))
  needed_member none h = refl
  needed_member (more i p r) h = refl

pub member_needed : (get : TypeHandle → PartReq → Bindings) {tbl : List ℕ} {t i ty own found : ℕ} {b : Option ℕ} {p : PartReq} {sub : Subpart} → sub ≡ there p → is_exist p ≡ false → MemberIs tbl t i ty b → own ≡ own_binding b → found ≡ get ty p → bit_or own found ≡ member_bindings get (row_member tbl t i) sub
member_needed get {tbl} {t} {i} {p = p} e h M f g =
    rw (e, f, g, M.binding_is, M.type_is) (needed_member get (row_member tbl t i) p h)

-- whether a kind is of what is made of one type
pub base_by : (n : ℕ) {k : TypeKind} → type_number k ≡ min n 8 → (k ≡ Pointer) ⊎ ((k ≡ Array) ⊎ (k ≡ BindingArray)) → is_base n ≡ true
unfolding is_base
base_by n e (inl h) = rw (← kind_known e Pointer (omega arith) h) refl
base_by n e (inr (inl h)) = rw (← kind_known e Array (omega arith) h) refl
base_by n e (inr (inr h)) = rw (← kind_known e BindingArray (omega arith) h) refl

pub base_not : (n : ℕ) {k : TypeKind} → type_number k ≡ min n 8 → (k ≡ Pointer → ⊥) → (k ≡ Array → ⊥) → (k ≡ BindingArray → ⊥) → is_base n ≡ false
unfolding is_base
base_not n e p a b =
    rw (ne_eqb n 4 (kind_other e Pointer (omega arith) p), ne_eqb n 5 (kind_other e Array (omega arith) a), ne_eqb n 7 (kind_other e BindingArray (omega arith) b))

-- in the members from the index i on
pub record Left (get : TypeHandle → PartReq → Bindings) (tbl : List ℕ) (t : ℕ) (p : PartReq) (i r : ℕ) : Type 0 where
  pub low : i ≤ member_count tbl t
  pub is : r ≡ members_bindings get p i (drop i (members_of tbl t))

module _ (get : TypeHandle → PartReq → Bindings) (tbl : List ℕ) (t : ℕ) (p : PartReq) where
  pub left_none : {n : ℕ} → n ≡ member_count tbl t → Left get tbl t p n 0
  left_none {n} e =
      record {
        low = omega arith;
        is = rw (drop_of_length-le (members_of tbl t) {i = n} (rw (members_long tbl t) (omega arith))) (unfold members_bindings in refl);
      }

  members_cons : (i : ℕ) → i < member_count tbl t → members_bindings get p i (drop i (members_of tbl t)) ≡ bit_or (member_bindings get (row_member tbl t i) (get_subpart p i)) (members_bindings get p (suc i) (drop (suc i) (members_of tbl t)))
  members_cons i h =
      rw (drop-cons (members_of tbl t) i (row_member tbl t i) (rw (members_long tbl t) h), members_at tbl t (row_member tbl t i) i h)
      (unfold members_bindings in refl)

  pub left_more : {i r m : ℕ} → 0 < i → Left get tbl t p i r → m ≡ member_bindings get (row_member tbl t (i - 1)) (get_subpart p (i - 1)) → Left get tbl t p (i - 1) (bit_or m r)
  left_more {i = zero} h L e = absurd (omega arith)
  left_more {i = suc i} {r} {m} h L e =
      let same : suc i - 1 ≡ i = omega arith in
      let low : suc i ≤ member_count tbl t = L.low in
      let f : m ≡ member_bindings get (row_member tbl t i) (get_subpart p i) = rw same at e in
      rw same (record { low = omega arith; is = rw (f, L.is) (sym (members_cons i low)) })

  pub left_all : {i r : ℕ} → i ≤ 0 → Left get tbl t p i r → is_base (type_kind tbl t) ≡ false → r ≡ step_bindings (types_of tbl) get t p
  left_all {i = zero} h L b = L.is ∙ members_step tbl t get p refl b
  left_all {i = suc i} h L b = absurd (omega arith)

  pub base-found : {base r : ℕ} → is_base (type_kind tbl t) ≡ true → base ≡ type_word tbl t 1 → r ≡ get base p → r ≡ step_bindings (types_of tbl) get t p
  base-found h g found = found ∙ rw g (base_step tbl t get p refl h)

-- the table as far as the type t, and the rest as it was
pub record Grown (types : List TypeInner) (old sets : List Bindings) (t : ℕ) : Type 0 where
  pub low : t ≤ length old
  pub is : sets ≡ table (step_all types) empty t ++ drop t old

module _ (types : List TypeInner) (old : List Bindings) where
  done : ℕ → List Bindings
  done t = table (step_all types) empty t

  pub grown_none : Grown types old old 0
  unfolding table
  grown_none = record { low = omega arith; is = refl }

  module _ {sets : List Bindings} {t : ℕ} (G : Grown types old sets t) where
    lower-done : (u : ℕ) → lower types sets t u all ≡ get_or (done t) u empty
    unfolding done
    lower-done u =
        elim (dec_lt u t) [
          | yes h ↦
              lower_is types sets t u all h
              ∙ (unfold step_walk in (rw G.is (get_or-append (done t) (drop t old) 0 u (rw (table-length (step_all types) empty t) h))))
          | no h ↦
              let past : t ≤ u = omega arith in
              sym (lower-past types sets t u all past) ∙ sym (table-past (step_all types) empty t u past)
        ]

    joined : {r v : ℕ} → r ≡ v → done (suc t) ≡ done t ++ (v ∷ []) → done t ++ (r ∷ drop (suc t) old) ≡ table (step_all types) empty (t + 1) ++ drop (t + 1) old
    unfolding done
    joined {r} {v} new last =
        rw (add-one t, new, last) (sym (append_assoc (done t) (v ∷ []) (drop (suc t) old)))

    step_done : step_bindings types (lower types sets t) t all ≡ step_all types (λ u. get_or (done t) u empty) t
    unfolding step_bindings step_all
    step_done = inner_all (lower types sets t) (get_or types t Opaque) ∙ ap (λ (w : ℕ → ℕ). step_all types w t) (fun_ext lower-done)

    pub grown_more : {r : ℕ} → t < length old → r ≡ step_bindings types (lower types sets t) t all → Grown types old (set sets t r) (t + 1)
    grown_more {r} h f =
        let v = step_all types (λ u. get_or (done t) u empty) t in
        let rest = drop (suc t) old in
        let new : r ≡ v = f ∙ step_done in
        let here : sets ≡ done t ++ (get_or old t 0 ∷ rest) = G.is ∙ (unfold done in (rw (drop-cons old t 0 h))) in
        let long : length (done t) ≡ t = unfold done in (table-length (step_all types) empty t) in
        let last : done (suc t) ≡ done t ++ (v ∷ []) = unfold done table in refl in
        record {
          low = omega arith;
          is = ap (λ (l : List Bindings). set l t r) here ∙ set_at (done t) (get_or old t 0) rest r t long ∙ joined new last;
        }

    pub grown_all : (tbl : List ℕ) → types ≡ types_of tbl → length old ≡ type_count tbl → length old ≤ t → sets ≡ all_table types
    unfolding done all_table
    grown_all tbl e f h =
        let low : t ≤ length old = G.low in
        let many : length types ≡ type_count tbl = rw e (unfold types_of in (length-tab (row_type tbl) (type_count tbl))) in
        let same : length types ≡ t = omega arith in
        G.is ∙ rw (drop_of_length-le old h) (append-nil (done t) ∙ rw same)

-- the part of two bytes that are zero
pub zeros_read : Readable (0 ∷ 0 ∷ []) 0
unfolding read_part by_code fields
zeros_read = record { is = λ e. let z : ◌≡◌ {A = ℕ} 0 1 = cc in absurd (omega arith) }

pub zeros_all : part_in (0 ∷ 0 ∷ []) 0 ≡ all
unfolding value_of read_part by_code fields
zeros_all = refl
