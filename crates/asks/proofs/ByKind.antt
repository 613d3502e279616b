-- What the arm of each kind asks, where that follows its fields: `arm_asks` of the decoded expression is `field_asks` by the kind's ways. Kind by kind,
-- it computes; a sample by the code of its level.
use mathlib.Core.Path.{◌≡◌, refl}
use mathlib.Core.Bool.{Bool, true, false, cond, not}
use mathlib.Core.List.{List, [], ◌∷◌}
use mathlib.Core.Option.{some, none as nothing}
use Prim.Native.Nat.{ℕ, zero, suc, ◌+◌}
use native.Mathlib.Omega.{arith}
use lib.Dec.{eqb}
use lib.ListN.{get_or}
use borrow.Author.Tests.{ne_eqb}
use Rattle.field.specs.Limits.{absent}
use Rattle.part.specs.PartReq.{PartReq, all}
use Rattle.module.specs.Decode.{option_of, level_of, level_handles, expression_of}
use Rattle.module.proofs.Each.{past, each}
use Rattle.walk.specs.Expression.{Ask, of_operand, optional, leveled, arm_asks}
use Rattle.asks.specs.Ways.{asks_by, part_by, field_asks, fields, pack, kind_ways, sample_ways, ways_of, Plain}

-- an operand that may be absent
maybe_is : (x : ℕ) (rest : List Ask) → optional (option_of x) rest ≡ cond (not (eqb x absent)) (of_operand x all ∷ rest) rest
unfolding option_of optional
maybe_is x rest = go (eqb x absent)
  where
    go : (b : Bool) → optional (cond b nothing (some x)) rest ≡ cond (not b) (of_operand x all ∷ rest) rest
    go true = refl
    go false = refl

pub no_kind : (k code : ℕ) → ways_of (past 32 k) code ≡ 0
unfolding ways_of kind_ways
no_kind k code =
    let ne : past 32 k ≡ 13 → ⊥ = omega arith in
    rw (ne_eqb (past 32 k) 13 ne)

module _ (o : ℕ → ℕ) (p : PartReq) where
  -- the fields of a sample, with its level's code
  sample_is : (code : ℕ) → of_operand (o 0) all ∷ (of_operand (o 1) all ∷ (of_operand (o 2) all ∷ optional (option_of (o 3)) (leveled (level_of code (o 5) (o 6)) (optional (option_of (o (5 + get_or level_handles code 0))) [])))) ≡ field_asks fields (ways_of 13 code) o 0 p
  unfolding level_of level_handles leveled field_asks asks_by part_by ways_of kind_ways sample_ways pack
  sample_is zero = simp maybe_is
  sample_is (suc zero) = simp maybe_is
  sample_is (suc (suc zero)) = simp maybe_is
  sample_is (suc (suc (suc zero))) = simp maybe_is
  sample_is (suc (suc (suc (suc zero)))) = simp maybe_is
  sample_is (suc (suc (suc (suc (suc code))))) = simp maybe_is

  pub by_fields : (kind : ℕ) → Plain kind → arm_asks (expression_of kind o) p ≡ field_asks fields (ways_of kind (o 4)) o 0 p
  unfolding expression_of arm_asks field_asks asks_by part_by ways_of kind_ways pack
  by_fields =
      each (λ k. Plain k → arm_asks (expression_of k o) p ≡ field_asks fields (ways_of k (o 4)) o 0 p) 32
      (λ h. refl, (λ h. refl, (λ h. refl, (λ h. absurd (h.access_index refl), (λ h. refl, (λ h. absurd (h.constant refl), (λ h. refl, (λ h. absurd (h.swizzle refl), (λ h. absurd (h.compose refl), (λ h. absurd (h.argument refl), (λ h. absurd (h.global refl), (λ h. absurd (h.local refl), (λ h. refl, (λ h. sample_is (o 4), (λ h. simp maybe_is, (λ h. simp maybe_is, (λ h. refl, (λ h. refl, (λ h. refl, (λ h. refl, (λ h. refl, (λ h. simp maybe_is, (λ h. refl, (λ h. refl, (λ h. refl, (λ h. refl, (λ h. refl, (λ h. refl, (λ h. refl, (λ h. refl, (λ h. refl, (λ h. absurd (h.positions refl), tt))))))))))))))))))))))))))))))))
      (λ k h. rw (no_kind k (o 4)))
