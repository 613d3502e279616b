-- What the decoding of allowed fields gives is fine: kind by kind, each by what fits its shape.
use mathlib.Core.Path.{◌≡◌, refl, sym, ap, ◌∙◌, subst, fun_ext}
use mathlib.Core.Bool.{Bool, true, false, cond, false≢true, ◌||◌}
use mathlib.Core.Logic.{◌⊎◌, inl, inr}
use mathlib.Core.List.{[], ◌∷◌}
use mathlib.Core.Option.{some, none as nothing}
use Prim.Native.Nat.{ℕ, zero, suc, ◌+◌, ◌*◌, ◌<◌, ◌≤◌}
use native.Mathlib.Omega.{arith}
use lib.Dec.{ltb, leb, eqb}
use lib.ListN.{length, get_or}
use borrow.Author.Tests.{ltb-true, leb-true, not-true}
use Rattle.field.specs.Limits.{absent, max_members, max_components, max_arguments}
use Rattle.module.specs.Module.{Member, SwitchCase}
use Rattle.module.specs.Shape.{never, type_shapes, expression_shapes, statement_shapes, type_shape, expression_shape, statement_shape}
use Rattle.module.specs.Decode.{tab, option_of, member_of, level_handles, mode_handles, level_of, mode_of, case_of, type_inner_of, expression_of, statement_of}
use Rattle.module.specs.Operands.{Scope, elem, below, below_or_absent, two_to_four, bindings}
use Rattle.module.proofs.Each.{each}
use Rattle.module.proofs.Tab.{length-tab, get_d_tab}
use Rattle.valid.specs.Valid.{EachBelow, MaybeBelow, LevelBelow, ModeBelow, TypeFine, OperandsBelow, MembersWithin, ComponentsWithin, NamesBelow, CasesFine, UsesBelow, ArgumentsWithin}
use Rattle.valid.proofs.Fits.{Fits, and_left, and_right}
use Rattle.valid.proofs.Cases.{CasesRead}

maybe_cond : (n x : ℕ) (b : Bool) → (b || ltb x n) ≡ true → MaybeBelow n (cond b nothing (some x))
maybe_cond n x true h = tt
maybe_cond n x false h = ltb-true x n h

pub maybe : (n x : ℕ) → below_or_absent n x ≡ true → MaybeBelow n (option_of x)
unfolding option_of
maybe n x h = maybe_cond n x (eqb x absent) h

sized : (x : ℕ) → two_to_four x ≡ true → (2 ≤ x) × (x ≤ 4)
sized x h = (leb-true 2 x (and_left (leb 2 x) (leb x 4) h), leb-true x 4 (and_right (leb 2 x) (leb x 4) h))

each_tab : (n k : ℕ) (f : ℕ → ℕ) → ((i : ℕ) → i < k → ltb (f i) n ≡ true) → EachBelow n (tab k f)
each_tab n k f h i l =
    let m : i < k = rw length-tab at l in
    rw (get_d_tab k f i 0 m) (ltb-true (f i) n (h i m))

level_fine : (n code x y : ℕ) → (0 < get_or level_handles code 0 → ltb x n ≡ true) → (1 < get_or level_handles code 0 → ltb y n ≡ true) → LevelBelow n (level_of code x y)
unfolding level_of level_handles
level_fine n zero x y a b = tt
level_fine n (suc zero) x y a b = tt
level_fine n (suc (suc zero)) x y a b = ltb-true x n (a (omega arith))
level_fine n (suc (suc (suc zero))) x y a b = ltb-true x n (a (omega arith))
level_fine n (suc (suc (suc (suc zero)))) x y a b = (ltb-true x n (a (omega arith)), ltb-true y n (b (omega arith)))
level_fine n (suc (suc (suc (suc (suc code))))) x y a b = tt

mode_fine : (n code x : ℕ) → (0 < get_or mode_handles code 0 → ltb x n ≡ true) → ModeBelow n (mode_of code x)
unfolding mode_of mode_handles
mode_fine n zero x a = tt
mode_fine n (suc zero) x a = ltb-true x n (a (omega arith))
mode_fine n (suc (suc code)) x a = tt

module _ (s : Scope) (o : ℕ → ℕ) where
  members_fine : ((i : ℕ) → i < o 0 → (below s.types (o (1 + 2 * i)) ≡ true) × (below_or_absent bindings (o (2 + 2 * i)) ≡ true)) → (i : ℕ) (d : Member) → i < length (tab (o 0) (member_of o)) → ((get_or (tab (o 0) (member_of o)) i d).type < s.types) × MaybeBelow bindings (get_or (tab (o 0) (member_of o)) i d).binding
  unfolding member_of
  members_fine h i d l =
      let m : i < o 0 = rw length-tab at l in
      rw (get_d_tab (o 0) (member_of o) i d m) (ltb-true (o (1 + 2 * i)) s.types (h i m).0, maybe bindings (o (2 + 2 * i)) (h i m).1)

  pub type_fine : (kind : ℕ) → Fits (type_shape kind) s o → TypeFine s.types (type_inner_of kind o)
  unfolding type_inner_of type_shapes
  type_fine =
      each (λ k. Fits (get_or type_shapes k (never ∷ [])) s o → TypeFine s.types (type_inner_of k o)) 9
      (λ h. tt, (λ h. sized (o 0) h.0, (λ h. (sized (o 0) h.0, sized (o 1) h.1.0), (λ h. tt, (λ h. ltb-true (o 0) s.types h.0, (λ h. (ltb-true (o 0) s.types h.0, ltb-true (o 1) absent h.1.0), (λ h. members_fine h.0, (λ h. ltb-true (o 0) s.types h.0, (λ h. tt, tt)))))))))
      (λ k h. tt)

  swizzle_fine : Fits (expression_shape 7) s o → (o 0 < s.expressions) × ((2 ≤ length (tab (o 1) (λ i. o (2 + i)))) × (length (tab (o 1) (λ i. o (2 + i))) ≤ 4)) × EachBelow 4 (tab (o 1) (λ i. o (2 + i)))
  unfolding expression_shapes
  swizzle_fine h =
      let z = sized (o 1) h.1.0.0 in
      let e : (i : ℕ) → 1 + (1 + i) ≡ 2 + i = λ i. omega arith in
      (ltb-true (o 0) s.expressions h.0, rw length-tab z, each_tab 4 (o 1) (λ i. o (2 + i)) (λ i l. subst (λ (k : ℕ). ltb (o k) 4 ≡ true) (e i) (h.1.0.1 i l)))

  sample_fine : Fits (expression_shape 13) s o → (o 0 < s.expressions) × (o 1 < s.expressions) × (o 2 < s.expressions) × MaybeBelow s.expressions (option_of (o 3)) × LevelBelow s.expressions (level_of (o 4) (o 5) (o 6)) × MaybeBelow s.expressions (option_of (o (5 + get_or level_handles (o 4) 0)))
  unfolding expression_shapes
  sample_fine h =
      let n = s.expressions in
      let e : 1 + (1 + (1 + (1 + (1 + get_or level_handles (o 4) 0 + 0)))) ≡ 5 + get_or level_handles (o 4) 0 = omega arith in
      (ltb-true (o 0) n h.0, ltb-true (o 1) n h.1.0, ltb-true (o 2) n h.1.1.0, maybe n (o 3) h.1.1.1.0, level_fine n (o 4) (o 5) (o 6) (λ l. h.1.1.1.1.0.1 0 l) (λ l. h.1.1.1.1.0.1 1 l), maybe n (o (5 + get_or level_handles (o 4) 0)) (subst (λ (k : ℕ). below_or_absent n (o k) ≡ true) e h.1.1.1.1.1.0))

  switch_fine : Fits (statement_shape 3) s o → (o 0 < s.expressions) × CasesFine (tab (o 1) (case_of o))
  unfolding statement_shapes case_of elem
  switch_fine h = (ltb-true (o 0) s.expressions h.0, cases_fine (subst (CasesRead [] (o 1)) (fun_ext (λ i. ap o (e i))) h.1.0))
    where
      e : (i : ℕ) → 1 + (1 + 2 * i) ≡ 2 + 2 * i
      e i = omega arith

      value-at : (i : ℕ) (d : SwitchCase) → i < o 1 → (get_or (tab (o 1) (case_of o)) i d).value ≡ o (2 + 2 * i)
      value-at i d l = ap (λ (c : SwitchCase). c.value) (get_d_tab (o 1) (case_of o) i d l)

      long : length (tab (o 1) (case_of o)) ≡ o 1
      long = length-tab (o 1) (case_of o)

      default_fine : ((elem absent [] ≡ true) ⊎ ((i : ℕ) × ((i < o 1) × (o (2 + 2 * i) ≡ absent)))) → (i : ℕ) × ((i < o 1) × (o (2 + 2 * i) ≡ absent))
      default_fine (inl h) = absurd (false≢true h)
      default_fine (inr h) = h

      cases_fine : CasesRead [] (o 1) (λ i. o (2 + 2 * i)) → CasesFine (tab (o 1) (case_of o))
      cases_fine c =
          let one = default_fine c.default in
          record {
            distinct = λ i j d k l q.
                let m : j < o 1 = omega (arith, long) in
                c.distinct i j k m (sym (value-at i d (omega arith)) ∙ (q ∙ value-at j d m));
            default = one.0;
            default_there = omega (arith, long, one.1.0);
            default_is = λ d. value-at one.0 d one.1.0 ∙ one.1.1;
          }

  call_fine : Fits (statement_shape 14) s o → (get_or s.entries (o 0) true ≡ false) × EachBelow s.expressions (tab (o 1) (λ i. o (2 + i))) × MaybeBelow s.expressions (option_of (o (2 + o 1)))
  unfolding statement_shapes
  call_fine h =
      let n = s.expressions in
      let e : (i : ℕ) → 1 + (1 + i) ≡ 2 + i = λ i. omega arith in
      let g : 1 + (1 + o 1 + 0) ≡ 2 + o 1 = omega arith in
      (not-true (get_or s.entries (o 0) true) h.0, each_tab n (o 1) (λ i. o (2 + i)) (λ i l. subst (λ (k : ℕ). ltb (o k) n ≡ true) (e i) (h.1.0 i l)), maybe n (o (2 + o 1)) (subst (λ (k : ℕ). below_or_absent n (o k) ≡ true) g h.1.1.0))

  gather_fine : Fits (statement_shape 19) s o → ModeBelow s.expressions (mode_of (o 0) (o 1)) × (o (1 + get_or mode_handles (o 0) 0) < s.expressions) × (o (2 + get_or mode_handles (o 0) 0) < s.expressions)
  unfolding statement_shapes
  gather_fine h =
      let n = s.expressions in
      let w = get_or mode_handles (o 0) 0 in
      let e : 1 + get_or mode_handles (o 0) 0 + 0 ≡ 1 + get_or mode_handles (o 0) 0 = omega arith in
      let g : 1 + get_or mode_handles (o 0) 0 + (1 + 0) ≡ 2 + get_or mode_handles (o 0) 0 = omega arith in
      (mode_fine n (o 0) (o 1) (λ l. h.0.1 0 l), ltb-true (o (1 + w)) n (subst (λ (k : ℕ). ltb (o k) n ≡ true) e h.1.0), ltb-true (o (2 + w)) n (subst (λ (k : ℕ). ltb (o k) n ≡ true) g h.1.1.0))

  pub expression_fine : (kind : ℕ) → Fits (expression_shape kind) s o → OperandsBelow s.expressions (expression_of kind o)
  unfolding expression_of expression_shapes
  expression_fine =
      each (λ k. Fits (get_or expression_shapes k (never ∷ [])) s o → OperandsBelow s.expressions (expression_of k o)) 32
      (λ h. tt, (λ h. tt, (λ h. tt, (λ h. (ltb-true (o 0) s.expressions h.0, ltb-true (o 1) absent h.1.0), (λ h. (ltb-true (o 0) s.expressions h.0, ltb-true (o 1) s.expressions h.1.0), (λ h. tt, (λ h. ltb-true (o 0) s.expressions h.0, (λ h. swizzle_fine h, (λ h. each_tab s.expressions (o 0) (λ i. o (1 + i)) h.0, (λ h. tt, (λ h. tt, (λ h. tt, (λ h. ltb-true (o 0) s.expressions h.0, (λ h. sample_fine h, (λ h. (ltb-true (o 0) s.expressions h.0, ltb-true (o 1) s.expressions h.1.0, maybe s.expressions (o 2) h.1.1.0, maybe s.expressions (o 3) h.1.1.1.0, maybe s.expressions (o 4) h.1.1.1.1.0), (λ h. (ltb-true (o 0) s.expressions h.0, maybe s.expressions (o 1) h.1.0), (λ h. ltb-true (o 0) s.expressions h.0, (λ h. (ltb-true (o 0) s.expressions h.0, ltb-true (o 1) s.expressions h.1.0), (λ h. (ltb-true (o 0) s.expressions h.0, ltb-true (o 1) s.expressions h.1.0, ltb-true (o 2) s.expressions h.1.1.0), (λ h. ltb-true (o 0) s.expressions h.0, (λ h. ltb-true (o 0) s.expressions h.0, (λ h. (ltb-true (o 0) s.expressions h.0, maybe s.expressions (o 1) h.1.0, maybe s.expressions (o 2) h.1.1.0, maybe s.expressions (o 3) h.1.1.1.0), (λ h. ltb-true (o 0) s.expressions h.0, (λ h. tt, (λ h. tt, (λ h. ltb-true (o 0) s.expressions h.0, (λ h. tt, (λ h. ltb-true (o 0) s.expressions h.0, (λ h. tt, (λ h. tt, (λ h. tt, (λ h. tt, tt))))))))))))))))))))))))))))))))
      (λ k h. tt)

  pub names_fine : (kind : ℕ) → Fits (expression_shape kind) s o → NamesBelow s.globals s.arguments s.locals (expression_of kind o)
  unfolding expression_of expression_shapes
  names_fine =
      each (λ k. Fits (get_or expression_shapes k (never ∷ [])) s o → NamesBelow s.globals s.arguments s.locals (expression_of k o)) 32
      (λ h. tt, (λ h. tt, (λ h. tt, (λ h. tt, (λ h. tt, (λ h. tt, (λ h. tt, (λ h. tt, (λ h. tt, (λ h. ltb-true (o 0) s.arguments h.0, (λ h. ltb-true (o 0) s.globals h.0, (λ h. ltb-true (o 0) s.locals h.0, (λ h. tt, (λ h. tt, (λ h. tt, (λ h. tt, (λ h. tt, (λ h. tt, (λ h. tt, (λ h. tt, (λ h. tt, (λ h. tt, (λ h. tt, (λ h. tt, (λ h. tt, (λ h. tt, (λ h. tt, (λ h. tt, (λ h. tt, (λ h. tt, (λ h. tt, (λ h. tt, tt))))))))))))))))))))))))))))))))
      (λ k h. tt)

  pub statement_fine : (kind : ℕ) → Fits (statement_shape kind) s o → UsesBelow s.expressions s.entries (statement_of kind o)
  unfolding statement_of statement_shapes
  statement_fine =
      each (λ k. Fits (get_or statement_shapes k (never ∷ [])) s o → UsesBelow s.expressions s.entries (statement_of k o)) 21
      (λ h. (leb-true (o 0) (o 1) h.0.0, ltb-true (o 1) s.expressions h.0.1), (λ h. tt, (λ h. ltb-true (o 0) s.expressions h.0, (λ h. switch_fine h, (λ h. maybe s.expressions (o 2) h.1.1.0, (λ h. tt, (λ h. tt, (λ h. maybe s.expressions (o 0) h.0, (λ h. tt, (λ h. tt, (λ h. tt, (λ h. tt, (λ h. (ltb-true (o 0) s.expressions h.0, ltb-true (o 1) s.expressions h.1.0), (λ h. (ltb-true (o 0) s.expressions h.0, ltb-true (o 1) s.expressions h.1.0, maybe s.expressions (o 2) h.1.1.0), (λ h. call_fine h, (λ h. (ltb-true (o 0) s.expressions h.0, ltb-true (o 1) s.expressions h.1.0, maybe s.expressions (o 2) h.1.1.0, ltb-true (o 3) s.expressions h.1.1.1.0), (λ h. ltb-true (o 0) s.expressions h.0, (λ h. (ltb-true (o 0) s.expressions h.0, ltb-true (o 1) s.expressions h.1.0), (λ h. (ltb-true (o 0) s.expressions h.0, maybe s.expressions (o 1) h.1.0), (λ h. gather_fine h, (λ h. (ltb-true (o 0) s.expressions h.0, ltb-true (o 1) s.expressions h.1.0), tt)))))))))))))))))))))
      (λ k h. tt)

  -- 4 of the counts: of members, of components, of arguments
  pub members_within : (kind : ℕ) → (kind ≡ 6 → o 0 ≤ max_members) → MembersWithin (type_inner_of kind o)
  unfolding type_inner_of
  members_within =
      each (λ k. (k ≡ 6 → o 0 ≤ max_members) → MembersWithin (type_inner_of k o)) 9
      (λ h. tt, (λ h. tt, (λ h. tt, (λ h. tt, (λ h. tt, (λ h. tt, (λ h. rw length-tab (h refl), (λ h. tt, (λ h. tt, tt)))))))))
      (λ k h. tt)

  pub components_within : (kind : ℕ) → (kind ≡ 8 → o 0 ≤ max_components) → ComponentsWithin (expression_of kind o)
  unfolding expression_of
  components_within =
      each (λ k. (k ≡ 8 → o 0 ≤ max_components) → ComponentsWithin (expression_of k o)) 32
      (λ h. tt, (λ h. tt, (λ h. tt, (λ h. tt, (λ h. tt, (λ h. tt, (λ h. tt, (λ h. tt, (λ h. rw length-tab (h refl), (λ h. tt, (λ h. tt, (λ h. tt, (λ h. tt, (λ h. tt, (λ h. tt, (λ h. tt, (λ h. tt, (λ h. tt, (λ h. tt, (λ h. tt, (λ h. tt, (λ h. tt, (λ h. tt, (λ h. tt, (λ h. tt, (λ h. tt, (λ h. tt, (λ h. tt, (λ h. tt, (λ h. tt, (λ h. tt, (λ h. tt, tt))))))))))))))))))))))))))))))))
      (λ k h. tt)

  pub arguments_within : (kind : ℕ) → (kind ≡ 14 → o 1 ≤ max_arguments) → ArgumentsWithin (statement_of kind o)
  unfolding statement_of
  arguments_within =
      each (λ k. (k ≡ 14 → o 1 ≤ max_arguments) → ArgumentsWithin (statement_of k o)) 21
      (λ h. tt, (λ h. tt, (λ h. tt, (λ h. tt, (λ h. tt, (λ h. tt, (λ h. tt, (λ h. tt, (λ h. tt, (λ h. tt, (λ h. tt, (λ h. tt, (λ h. tt, (λ h. tt, (λ h. rw length-tab (h refl), (λ h. tt, (λ h. tt, (λ h. tt, (λ h. tt, (λ h. tt, (λ h. tt, tt)))))))))))))))))))))
      (λ k h. tt)
