-- What is carried on after a statement, in the words of the definition, and that a pass's clauses come to it.
use Prim.Native.Nat.{ℕ}
use mathlib.Core.Path.{◌≡◌, ap, ◌∙◌}
use mathlib.Core.Bool.{cond}
use mathlib.Core.List.{List}
use mathlib.Core.Option.{Option}
use lib.ListN.{length}
use Rattle.part.specs.PartReq.{PartReq, over}
use Rattle.module.specs.Module.{ExpressionHandle}
use Rattle.clearance.specs.Tree.{Act, Tree, nop, seq, act, branch, switch, loop, break, continue, return, unmarked}
use Rattle.clearance.specs.Needs.{Exit, next, upon, of_case, through, obeys, after_continuing, Setting, walk, after_body, lacking, broken, stable, sweep, amid, somewhere}
use Rattle.pass.specs.Pass.{too_many, Carried, point, blame, enter}
use Rattle.pass.proofs.Carry.{carry, carry-nothing, carry-around, carry-unmarked, carry-enter, carry-both, carry-between, carry-through}

module _ (W : Setting) (r : ℕ → PartReq) where
  -- without the points before and after the statement, and with them
  unfoldable pub inner : Tree → (Exit → PartReq) → Carried → Carried
  inner a k = carry (sweep W r a k) (broken W r a k) (stable W r a k) (amid W r over a k) (amid W r too_many a k)

  unfoldable pub after : Tree → (Exit → PartReq) → Carried → Carried
  after a k = carry (sweep W r a k) (broken W r a k) (stable W r a k) (somewhere W r over a k) (somewhere W r too_many a k)

  pub after_is : (a : Tree) (k : Exit → PartReq) (c : Carried) → point (walk W r a k) (inner a k (point (k next) c)) ≡ after a k c
  unfolding inner after somewhere
  after_is a k c = carry-around _ _ _ _ _ (k next) (walk W r a k) c

  pub inner-nop : (k : Exit → PartReq) (c : Carried) → c ≡ inner nop k c
  unfolding inner sweep lacking stable amid
  inner-nop k c = carry-nothing c

  pub inner-seq : (a b : Tree) (k : Exit → PartReq) (c : Carried) →
      inner a (upon (walk W r b k) k) (point (walk W r b k) (inner b k c)) ≡ inner (seq a b) k c
  unfolding inner sweep lacking stable amid
  inner-seq a b k c = carry-between _ _ _ _ _ _ _ _ _ _ (walk W r b k) c

  pub inner-act : (x : Act) (k : Exit → PartReq) (c : Carried) → c ≡ inner (act x) k c
  unfolding inner sweep lacking stable amid
  inner-act x k c = carry-nothing c

  pub inner-branch : (x : ExpressionHandle) (a b : Tree) (k : Exit → PartReq) (c : Carried) → after a k (after b k c) ≡ inner (branch x a b) k c
  unfolding inner after sweep lacking stable amid somewhere
  inner-branch x a b k c = carry-both _ _ _ _ _ _ _ _ _ _ c

  pub inner-switch : (x : ExpressionHandle) (vs : List ℕ) (f : ℕ → Tree) (k : Exit → PartReq) (c : Carried) →
      through (length vs) (λ i. after (f i) (of_case k)) c ≡ inner (switch x vs f) k c
  unfolding inner after sweep lacking stable amid somewhere
  inner-switch x vs f k c = carry-through (length vs) _ _ _ _ _ c

  pub inner-loop : (n : ℕ) (a b : Tree) (x : Option ExpressionHandle) (k : Exit → PartReq) (c : Carried) →
      let w = walk W r a (after_body W r n b x k) in
      enter n (r n) w (after a (after_body W r n b x k) (after b (after_continuing W.scope (r n) x k) c)) ≡ inner (loop n a b x) k c
  unfolding inner after sweep lacking stable amid somewhere
  inner-loop n a b x k c =
      let w = walk W r a (after_body W r n b x k) in
      ap (enter n (r n) w) (carry-both _ _ _ _ _ _ _ _ _ _ c) ∙ carry-enter _ _ _ _ _ n (r n) w c

  pub inner-break : (n : ℕ) (k : Exit → PartReq) (c : Carried) → c ≡ inner (break n) k c
  unfolding inner sweep lacking stable amid
  inner-break n k c = carry-nothing c

  pub inner-continue : (n : ℕ) (k : Exit → PartReq) (c : Carried) → c ≡ inner (continue n) k c
  unfolding inner sweep lacking stable amid
  inner-continue n k c = carry-nothing c

  pub inner-return : (n : ℕ) (v : Option ExpressionHandle) (k : Exit → PartReq) (c : Carried) → c ≡ inner (return n v) k c
  unfolding inner sweep lacking stable amid
  inner-return n v k c = carry-nothing c

  pub inner-unmarked : (n mark : ℕ) (a : Tree) (k : Exit → PartReq) (c : Carried) →
      cond (obeys W.scope (k next) a) c (blame n (inner a k c)) ≡ inner (unmarked n mark a) k c
  unfolding inner sweep lacking stable amid
  inner-unmarked n mark a k c = carry-unmarked (sweep W r a k) (broken W r a k) _ _ _ (obeys W.scope (k next) a) n c
