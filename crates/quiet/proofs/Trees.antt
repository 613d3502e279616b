-- Whether a statement's tree is quiet, by the statement's kind and operands; marks play no part.
use Prim.Native.Nat.{ℕ, zero, suc, ◌+◌, ◌-◌, ◌*◌, ◌<◌, ◌≤◌}
use native.Mathlib.Numerals.{add-one}
use native.Mathlib.Omega.{arith}
use mathlib.Core.Path.{◌≡◌, refl, ap, fun_ext, ◌∙◌}
use mathlib.Core.Bool.{Bool, true, false, ◌&&◌}
use mathlib.Core.List.{List}
use lib.Dec.{ltb}
use borrow.Author.Tests.{ltb-true, ltb-false}
use Rattle.clearance.proofs.Small.{cases as by_test}
use Rattle.part.specs.PartReq.{PartReq}
use Rattle.module.specs.Module.{BlockHandle, Function}
use Rattle.module.specs.Decode.{statement_of}
use Rattle.clearance.specs.Scope.{Scope}
use Rattle.clearance.specs.Tree.{Tree, store, marked, by_mark, emits, case_at, statement}
use Rattle.clearance.specs.Needs.{Exit, next, broke, continued, returned, upon, out_break, out_continue, of_case, of_continuing, of_body, each, idle, quiet}
use Rattle.clearance.specs.Judged.{in_case, in_body}
use Rattle.module.proofs.Each.{past}
use Rattle.strays.proofs.Trees.{cases_of, values_long, case_is}
use Rattle.quiet.specs.Acts.{idle_from}

-- Exits: where the end is allowed, a case and a continuing block allow what has a target in a case, a loop's body what has one there
module _ (e : Exit → Bool) (h : e next ≡ true) where
  case_allows : (x : Exit) → of_case e x ≡ in_case e x
  unfolding of_case out_break in_case
  case_allows next = h
  case_allows broke = h
  case_allows continued = refl
  case_allows returned = refl

  continuing_allows : (x : Exit) → of_continuing true e x ≡ in_case e x
  unfolding of_continuing upon of_case out_break in_case
  continuing_allows next = refl
  continuing_allows broke = h
  continuing_allows continued = refl
  continuing_allows returned = refl

  body_allows : (x : Exit) → of_body true e x ≡ in_body e x
  unfolding of_body out_continue of_continuing upon of_case out_break in_body
  body_allows next = refl
  body_allows broke = h
  body_allows continued = refl
  body_allows returned = refl

pub each_same : (k : ℕ) (f g : ℕ → Bool) → ((i : ℕ) → i < k → f i ≡ g i) → each k f ≡ each k g
unfolding each
each_same zero f g h = refl
each_same (suc k) f g h = rw (h k (omega arith), each_same k f g (λ i l. h i (omega arith)))

module _ (S : Scope) (n : PartReq) (f : Function) (marks : List ℕ) (block : BlockHandle → Tree) (s : ℕ) (e : Exit → Bool) where
  marked-quiet : (m : ℕ) (q : Bool) (a : Tree) → quiet S n (marked s m q a) e ≡ quiet S n a e
  unfolding marked quiet
  marked-quiet m true a = refl
  marked-quiet m false a = refl

  pub by_quiet : (i : ℕ) (a : Tree) → quiet S n (by_mark f marks s i a) e ≡ quiet S n a e
  unfolding by_mark
  by_quiet i a = marked-quiet _ _ a

  emits-quiet : (first i k : ℕ) → quiet S n (emits f marks s first i k) e ≡ idle_from S n (first + i) k
  unfolding emits quiet idle_from
  emits-quiet first i zero = refl
  emits-quiet first i (suc k) =
      let z : first + suc i ≡ suc (first + i) = omega arith in
      rw (by_quiet i, emits-quiet first (suc i) k, z)

  module _ (o : ℕ → ℕ) where
    abbrev of : ℕ → Bool
    of k = quiet S n (statement f marks block s (statement_of k o)) e

    pub emit_of : of 0 ≡ idle_from S n (o 0) ((o 1 + 1) - o 0)
    unfolding statement_of statement
    emit_of =
        let z : o 0 + 0 ≡ o 0 = omega arith in
        emits-quiet (o 0) 0 (suc (o 1) - o 0) ∙ rw (z, add-one)

    pub block_of : of 1 ≡ quiet S n (block (o 0)) e
    unfolding statement_of statement
    block_of = refl

    pub if_of : of 2 ≡ quiet S n (block (o 1)) e && quiet S n (block (o 2)) e
    unfolding statement_of statement quiet
    if_of = by_quiet 0 _

    pub switch_of : e next ≡ true → of 3 ≡ each (o 1) (λ i. quiet S n (block (o (3 + 2 * i))) (in_case e))
    unfolding statement_of statement quiet
    switch_of h =
        by_quiet 0 _
        ∙ ap (λ (k : ℕ). each k (λ i. quiet S n (case_at block (cases_of o) i) (of_case e))) (values_long o)
        ∙ each_same (o 1) _ _ (λ i l. rw (case_is o block i l, fun_ext (case_allows e h)))

    pub loop_of : e next ≡ true → of 4 ≡ quiet S n (block (o 0)) (in_body e) && quiet S n (block (o 1)) (in_case e)
    unfolding statement_of statement quiet
    loop_of h = by_quiet 0 _ ∙ rw (fun_ext (body_allows e h), fun_ext (continuing_allows e h))

    pub continue_of : of 6 ≡ e continued
    unfolding statement_of statement quiet
    continue_of = refl

    pub return_of : of 7 ≡ e returned
    unfolding statement_of statement quiet
    return_of = refl

    pub store_of : of 12 ≡ idle S (store (o 0) (o 1)) n
    unfolding statement_of statement quiet
    store_of = by_quiet 0 _

    -- kinds that are not judged
    others : (j : ℕ) → j ≤ 12 → (j ≡ 4 → ⊥) → of (past 8 j) ≡ true
    unfolding statement_of statement quiet
    others zero l d = refl
    others (suc zero) l d = refl
    others (suc (suc zero)) l d = refl
    others (suc (suc (suc zero))) l d = refl
    others (suc (suc (suc (suc zero)))) l d = absurd (d refl)
    others (suc (suc (suc (suc (suc zero))))) l d = refl
    others (suc (suc (suc (suc (suc (suc zero)))))) l d = refl
    others (suc (suc (suc (suc (suc (suc (suc zero))))))) l d = refl
    others (suc (suc (suc (suc (suc (suc (suc (suc zero)))))))) l d = refl
    others (suc (suc (suc (suc (suc (suc (suc (suc (suc zero))))))))) l d = refl
    others (suc (suc (suc (suc (suc (suc (suc (suc (suc (suc zero)))))))))) l d = refl
    others (suc (suc (suc (suc (suc (suc (suc (suc (suc (suc (suc zero))))))))))) l d = refl
    others (suc (suc (suc (suc (suc (suc (suc (suc (suc (suc (suc (suc zero)))))))))))) l d = refl
    others (suc (suc (suc (suc (suc (suc (suc (suc (suc (suc (suc (suc (suc j))))))))))))) l d = absurd (omega arith)

    pub other_of : (k : ℕ) → 7 < k → k ≤ 20 → (k ≡ 12 → ⊥) → of k ≡ true
    other_of k l u d =
        let z : k ≡ past 8 (k - 8) = omega arith in
        rw z (others (k - 8) (omega arith) (λ q. d (omega arith)))

    past_of : (j : ℕ) → of (past 21 j) ≡ e broke
    unfolding statement_of statement quiet
    past_of j = refl

    breaks : of 5 ≡ e broke
    unfolding statement_of statement quiet
    breaks = refl

    -- a kind past the last is a break's
    pub break_of : (k : ℕ) → (k ≤ 20 → k ≡ 5) → of k ≡ e broke
    break_of k h =
        by_test (ltb 20 k)
        (λ a. let z : k ≡ past 21 (k - 21) = omega (arith, ltb-true 20 k a) in rw z (past_of (k - 21)))
        (λ a. rw (h (ltb-false 20 k a)) breaks)
