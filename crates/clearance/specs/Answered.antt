-- When each answer is given, in 01's words: one constructor of `Reason` for each. proofs/Answers.antt shows that this is what `clearance` gives.
use Rattle.std.specs.Prelude.{ℕ, ◌<◌, ◌≤◌, ◌≡◌, true, false, List, [], ◌∷◌, ◌++◌, length}
use Rattle.std.proofs.Math.Option.{Option}
use Rattle.field.specs.Limits.{max_pieces}
use Rattle.part.specs.PartReq.{PartReq, contains, over}
use Rattle.module.specs.Module.{ExpressionHandle, Function}
use Rattle.module.specs.Marks.{marks_before}
use Rattle.clearance.specs.Shape.{cov, below}
use Rattle.clearance.specs.Scope.{Scope, slot, evaluated, variable, frame}
use Rattle.clearance.specs.Tree.{Tree, seq, branch, switch, loop, unmarked}
use Rattle.clearance.specs.Needs.{Exit, next, upon, of_case, after_continuing, by_statement, Setting, walk, after_body, stable}
use Rattle.clearance.specs.Verdict.{Request, Report, Answer, clear, at_statement, at_start, unjudged_expression, unjudged_statement, refused, ending, setting, body, pieces}
use Rattle.clearance.specs.Rules.{Obeys, Unbroken, Breaks, Member}
use Rattle.clearance.specs.IsNeed.{IsNeed}
use Rattle.clearance.specs.IsJudged.{FitExpression, IsJudged, ExpressionBlamed, StatementBlamed}

-- marks of the function's shape: as many as its statements have, each 0 or 1
pub record Shaped (f : Function) (marks : List ℕ) : Type 0 where
  pub count : length marks ≡ marks_before f.statements (length f.statements)
  pub bits : (b : ℕ) → Member b marks → b < 2

-- The needs m stand at a point of a walk: after a statement or before it, or at one inside it. Inside one that obeys its rule there is none; of
-- one that breaks its rule, only what is kept stands before it.
mutual
  pub data Point (W : Setting) (r : ℕ → PartReq) (m : PartReq) : Tree → (Exit → PartReq) → Type 0 where
    after : {a : Tree} {k : Exit → PartReq} → m ≡ k next → Point W r m a k
    before : {a : Tree} {k : Exit → PartReq} → m ≡ walk W r a k → Point W r m a k
    inside : {a : Tree} {k : Exit → PartReq} → Inside W r m a k → Point W r m a k

  pub data Inside (W : Setting) (r : ℕ → PartReq) (m : PartReq) : Tree → (Exit → PartReq) → Type 0 where
    between : {a b : Tree} {k : Exit → PartReq} → m ≡ walk W r b k → Inside W r m (seq a b) k
    in_first : {a b : Tree} {k : Exit → PartReq} → Inside W r m a (upon (walk W r b k) k) → Inside W r m (seq a b) k
    in_second : {a b : Tree} {k : Exit → PartReq} → Inside W r m b k → Inside W r m (seq a b) k
    in_accept : {c : ExpressionHandle} {a b : Tree} {k : Exit → PartReq} → Point W r m a k → Inside W r m (branch c a b) k
    in_reject : {c : ExpressionHandle} {a b : Tree} {k : Exit → PartReq} → Point W r m b k → Inside W r m (branch c a b) k
    in_case : {c : ExpressionHandle} {vs : List ℕ} {f : ℕ → Tree} {k : Exit → PartReq} (i : ℕ) → i < length vs → Point W r m (f i) (of_case k) → Inside W r m (switch c vs f) k
    in_body : {n : ℕ} {a b : Tree} {c : Option ExpressionHandle} {k : Exit → PartReq} → Point W r m a (after_body W r n b c k) → Inside W r m (loop n a b c) k
    in_continuing : {n : ℕ} {a b : Tree} {c : Option ExpressionHandle} {k : Exit → PartReq} → Point W r m b (after_continuing W.scope (r n) c k) → Inside W r m (loop n a b c) k
    in_broken : {n mark : ℕ} {a : Tree} {k : Exit → PartReq} → (Obeys W.scope (k next) a → ⊥) → Inside W r m a k → Inside W r m (unmarked n mark a) k

-- r are "the smallest needs before the body that hold on re-entry", of each loop: they hold, and whatever needs hold contain them
pub record Smallest (S : Scope) (R : Request) (P : Report) (r : ℕ → PartReq) : Type 0 where
  pub needs : (j : ℕ) → IsNeed (frame S) (r j)
  pub hold : stable (setting S R) r (body S P) (ending S R) ≡ true
  pub least : (q : ℕ → PartReq) → ((j : ℕ) → IsNeed (frame S) (q j)) → stable (setting S R) q (body S P) (ending S R) ≡ true → (j : ℕ) → contains (q j) (r j) ≡ true

-- the marks have the function's shape, it is judged, and r are the smallest needs of its loops
pub record Walked (S : Scope) (R : Request) (P : Report) (r : ℕ → PartReq) : Type 0 where
  pub shaped : Shaped S.function P.marks
  pub judged : IsJudged S
  pub smallest : Smallest S R P r

-- the points of the whole body, and the needs at its start, with r the loops' re-entry needs
abbrev pub AtPoint : Scope → Request → Report → (ℕ → PartReq) → PartReq → Type 0
AtPoint S R P r m = Point (setting S R) r m (body S P) (ending S R)

abbrev pub at_the_start : Scope → Request → Report → (ℕ → PartReq) → PartReq
at_the_start S R P r = walk (setting S R) r (body S P) (ending S R)

-- the needs at no point pass the limits of 15 and 16
pub record WithinLimits (S : Scope) (R : Request) (P : Report) (r : ℕ → PartReq) : Type 0 where
  pub shallow : (m : PartReq) → AtPoint S R P r m → over m ≡ false
  pub few : (m : PartReq) → AtPoint S R P r m → pieces m ≤ max_pieces

-- the statement n is the lowest that breaks its rule
pub record LowestBreak (S : Scope) (R : Request) (P : Report) (r : ℕ → PartReq) (n : ℕ) : Type 0 where
  pub breaks : Breaks (setting S R) r by_statement n (body S P) (ending S R)
  pub least : (m : ℕ) → Breaks (setting S R) r by_statement m (body S P) (ending S R) → n ≤ m

-- the start has what it must: no evaluated expression still needed, argument and global needs contained in the context
pub record StartMet (S : Scope) (R : Request) (P : Report) (r : ℕ → PartReq) : Type 0 where
  pub evaluations : (e : ExpressionHandle) (q : List ℕ) → cov (at_the_start S R P r) (slot (evaluated e) ++ q) ≡ false
  pub globals : contains P.globals (below (at_the_start S R P r) (variable 0 ∷ [])) ≡ true
  pub args : contains P.args (below (at_the_start S R P r) (variable 2 ∷ [])) ≡ true

abbrev pub NoBreak : Scope → Request → Report → (ℕ → PartReq) → Type 0
NoBreak S R P r = Unbroken (setting S R) r (body S P) (ending S R)

-- "Cleared: no rule broken, no evaluated expression still needed at the start, argument and global needs contained in the context", of a
-- function that is judged and whose needs pass no limit
pub record Cleared (S : Scope) (R : Request) (P : Report) (r : ℕ → PartReq) : Type 0 where
  pub walked : Walked S R P r
  pub within : WithinLimits S R P r
  pub rules : NoBreak S R P r
  pub start : StartMet S R P r

-- the reason for an answer
pub data Reason (S : Scope) (R : Request) (P : Report) : Answer → Type 0 where
  -- 21: "marks not of the function's shape"
  unshaped : (Shaped S.function P.marks → ⊥) → Reason S R P (refused 21)
  -- "Otherwise: not judged, with the lowest expression,
  expression : {e : ExpressionHandle} → Shaped S.function P.marks → ExpressionBlamed S e → Reason S R P (unjudged_expression e)
  -- else statement"
  statement : {n : ℕ} → Shaped S.function P.marks → ((e : ExpressionHandle) → e < length S.function.expressions → FitExpression S e) → StatementBlamed S n →
      Reason S R P (unjudged_statement n)
  -- "if judged, 15,
  deep : (r : ℕ → PartReq) → Walked S R P r → (m : PartReq) → AtPoint S R P r m → over m ≡ true → Reason S R P (refused 15)
  -- then 16, where needs at any point pass them"
  many : (r : ℕ → PartReq) → Walked S R P r → ((m : PartReq) → AtPoint S R P r m → over m ≡ false) → (m : PartReq) → AtPoint S R P r m → max_pieces < pieces m → Reason S R P (refused 16)
  -- "the answer names the lowest such statement,
  fault : {n : ℕ} (r : ℕ → PartReq) → Walked S R P r → WithinLimits S R P r → LowestBreak S R P r n → Reason S R P (at_statement n)
  -- or the start"
  unmet : (r : ℕ → PartReq) → Walked S R P r → WithinLimits S R P r → NoBreak S R P r → (StartMet S R P r → ⊥) → Reason S R P at_start
  -- "Cleared: no rule broken, .."
  cleared : (r : ℕ → PartReq) → Cleared S R P r → Reason S R P clear
