-- What strays in a statement's tree, by the statement's kind and operands; marks and emitted expressions play no part.
use Prim.Native.Nat.{ℕ, zero, suc, ◌+◌, ◌-◌, ◌*◌, ◌<◌, ◌≤◌}
use native.Mathlib.Omega.{arith}
use mathlib.Core.Path.{◌≡◌, refl, ap, ◌∙◌}
use mathlib.Core.Bool.{Bool, true, false}
use mathlib.Core.List.{List, [], ◌∷◌, ◌++◌, map}
use lib.ListN.{length, get_or}
use lib.Dec.{ltb}
use borrow.Author.Tests.{ltb-true, ltb-false}
use Rattle.clearance.proofs.Small.{cases as by_test}
use Rattle.module.specs.Module.{ExpressionHandle, BlockHandle, SwitchCase, Function}
use Rattle.module.specs.Decode.{tab, case_of, statement_of}
use Rattle.module.proofs.Tab.{length-tab, get_d_tab, map-tab}
use Rattle.clearance.specs.Tree.{Tree, marked, by_mark, emits, case_at, statement}
use Rattle.clearance.specs.Needs.{Exit, broke, continued, returned, only_next, concat}
use Rattle.clearance.specs.Judged.{in_case, in_body, unless, strays}
use Rattle.module.proofs.Each.{past}

pub concat-same : (n : ℕ) (f g : ℕ → List ℕ) → ((i : ℕ) → i < n → f i ≡ g i) → concat n f ≡ concat n g
unfolding concat
concat-same zero f g h = refl
concat-same (suc n) f g h = rw (h n (omega arith), concat-same n f g (λ i l. h i (omega arith)))

-- A switch's cases: the i-th, and how many they are
case-at : (block : BlockHandle → Tree) (cs : List SwitchCase) (i : ℕ) (d : SwitchCase) → i < length cs → case_at block cs i ≡ block (get_or cs i d).body
unfolding case_at
case-at block [] i d l = absurd (omega arith)
case-at block (c ∷ cs) zero d l = refl
case-at block (c ∷ cs) (suc i) d l = case-at block cs i d (omega arith)

module _ (o : ℕ → ℕ) where
  abbrev pub cases_of : List SwitchCase
  cases_of = tab (o 1) (case_of o)

  pub values_long : length (map (λ (c : SwitchCase). c.value) cases_of) ≡ o 1
  values_long = ap length (map-tab (λ (c : SwitchCase). c.value) (o 1) (case_of o)) ∙ length-tab (o 1) _

  pub case_is : (block : BlockHandle → Tree) (i : ℕ) → i < o 1 → case_at block cases_of i ≡ block (o (3 + 2 * i))
  unfolding case_of
  case_is block i l =
      case-at block cases_of i (case_of o i) (rw length-tab l) ∙ ap (λ (c : SwitchCase). block c.body) (get_d_tab (o 1) (case_of o) i (case_of o i) l)

module _ (f : Function) (block : BlockHandle → Tree) (n : ℕ) (e : Exit → Bool) where
  marked-strays : (m : ℕ) (q : Bool) (a : Tree) → strays (marked n m q a) e ≡ strays a e
  unfolding marked strays
  marked-strays m true a = refl
  marked-strays m false a = refl

  by_strays : (i : ℕ) (a : Tree) → strays (by_mark f [] n i a) e ≡ strays a e
  unfolding by_mark
  by_strays i a = marked-strays _ _ a

  emits-strays : (first : ExpressionHandle) (i k : ℕ) → strays (emits f [] n first i k) e ≡ []
  unfolding emits strays
  emits-strays first i zero = refl
  emits-strays first i (suc k) = rw (by_strays i, emits-strays first (suc i) k)

  module _ (o : ℕ → ℕ) where
    abbrev of : ℕ → List ℕ
    of k = strays (statement f [] block n (statement_of k o)) e

    emit_of : of 0 ≡ []
    unfolding statement_of statement
    emit_of = emits-strays (o 0) 0 _

    pub block_of : of 1 ≡ strays (block (o 0)) e
    unfolding statement_of statement
    block_of = refl

    pub if_of : of 2 ≡ strays (block (o 1)) e ++ strays (block (o 2)) e
    unfolding statement_of statement strays
    if_of = by_strays 0 _

    pub switch_of : of 3 ≡ concat (o 1) (λ i. strays (block (o (3 + 2 * i))) (in_case e))
    unfolding statement_of statement strays
    switch_of =
        by_strays 0 _
        ∙ ap (λ (k : ℕ). concat k (λ i. strays (case_at block (cases_of o) i) (in_case e))) (values_long o)
        ∙ concat-same (o 1) _ _ (λ i l. ap (λ (a : Tree). strays a (in_case e)) (case_is o block i l))

    pub loop_of : of 4 ≡ strays (block (o 0)) (in_body e) ++ strays (block (o 1)) only_next
    unfolding statement_of statement strays
    loop_of = by_strays 0 _

    pub continue_of : of 6 ≡ unless (e continued) n
    unfolding statement_of statement strays
    continue_of = refl

    pub return_of : of 7 ≡ unless (e returned) n
    unfolding statement_of statement strays
    return_of = refl

    -- kinds that neither hold blocks nor leave
    quiet_of : (j : ℕ) → j ≤ 12 → of (past 8 j) ≡ []
    unfolding statement_of statement strays
    quiet_of zero l = refl
    quiet_of (suc zero) l = refl
    quiet_of (suc (suc zero)) l = refl
    quiet_of (suc (suc (suc zero))) l = refl
    quiet_of (suc (suc (suc (suc zero)))) l = by_strays 0 _
    quiet_of (suc (suc (suc (suc (suc zero))))) l = refl
    quiet_of (suc (suc (suc (suc (suc (suc zero)))))) l = refl
    quiet_of (suc (suc (suc (suc (suc (suc (suc zero))))))) l = refl
    quiet_of (suc (suc (suc (suc (suc (suc (suc (suc zero)))))))) l = refl
    quiet_of (suc (suc (suc (suc (suc (suc (suc (suc (suc zero))))))))) l = refl
    quiet_of (suc (suc (suc (suc (suc (suc (suc (suc (suc (suc zero)))))))))) l = refl
    quiet_of (suc (suc (suc (suc (suc (suc (suc (suc (suc (suc (suc zero))))))))))) l = refl
    quiet_of (suc (suc (suc (suc (suc (suc (suc (suc (suc (suc (suc (suc zero)))))))))))) l = refl
    quiet_of (suc (suc (suc (suc (suc (suc (suc (suc (suc (suc (suc (suc (suc j))))))))))))) l = absurd (omega arith)

    -- and an emit
    pub silent_of : (k : ℕ) → (0 < k → 7 < k) → k ≤ 20 → of k ≡ []
    silent_of zero h l = emit_of
    silent_of (suc k) h l =
        let z : suc k ≡ past 8 (suc k - 8) = omega (arith, h (omega arith)) in
        rw z (quiet_of (suc k - 8) (omega arith))

    past_of : (j : ℕ) → of (past 21 j) ≡ unless (e broke) n
    unfolding statement_of statement strays
    past_of j = refl

    breaks : of 5 ≡ unless (e broke) n
    unfolding statement_of statement strays
    breaks = refl

    -- a kind past the last is a break's
    pub break_of : (k : ℕ) → (k ≤ 20 → k ≡ 5) → of k ≡ unless (e broke) n
    break_of k h =
        by_test (ltb 20 k)
        (λ a. let z : k ≡ past 21 (k - 21) = omega (arith, ltb-true 20 k a) in rw z (past_of (k - 21)))
        (λ a. rw (h (ltb-false 20 k a)) breaks)
