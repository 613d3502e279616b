-- When each answer is given: one theorem for each, read off `reasons` or proved in JudgedExactly. Marks and "judged" need no premise; the rest is of
-- a request whose indexes ascend, as one that was read has. r are the smallest needs of the loops (`Walked`).
use Prim.Native.Nat.{ℕ, ◌<◌}
use native.Mathlib.Omega.{arith}
use mathlib.Core.Path.{◌≡◌, refl}
use mathlib.Core.Bool.{true, false}
use mathlib.Core.Logic.{◌↔◌, ◌⊎◌, inl, inr}
use lib.ListN.{length}
use Rattle.field.specs.Limits.{max_pieces}
use Rattle.part.specs.PartReq.{PartReq, over}
use Rattle.part.proofs.Equations.{never}
use Rattle.module.specs.Module.{ExpressionHandle}
use Rattle.clearance.specs.Scope.{Scope}
use Rattle.clearance.specs.Verdict.{Request, Report, Answer, clear, at_statement, at_start, unjudged_expression, unjudged_statement, refused, pieces, clearance}
use Rattle.clearance.specs.IsNeed.{AscendingRequest}
use Rattle.clearance.specs.IsJudged.{FitExpression, ExpressionBlamed, StatementBlamed}
use Rattle.clearance.specs.Answered.{Shaped, AtPoint, Walked, WithinLimits, LowestBreak, StartMet, NoBreak, Cleared, Reason, unshaped, expression, statement, deep, many, fault, unmet, cleared}
use Rattle.clearance.proofs.JudgedExactly.{marks-exactly, unjudged_expression_exactly, unjudged_statement_exactly}
use Rattle.clearance.proofs.Reasons.{reasons}

module _ (S : Scope) (R : Request) (P : Report) where
  -- `refused 21`: the marks are not of the function's shape.
  pub answer_21 : (clearance S R P ≡ refused 21) ↔ (Shaped S.function P.marks → ⊥)
  answer_21 = marks-exactly S R P

  -- `unjudged expr e`: e is the lowest expression that breaks a clause.
  pub answer_expression : (e : ExpressionHandle) → (clearance S R P ≡ unjudged_expression e) ↔ (Shaped S.function P.marks × ExpressionBlamed S e)
  answer_expression = unjudged_expression_exactly S R P

  -- `unjudged stmt n`: no expression breaks a clause, and n is the lowest statement that does.
  pub answer_statement : (n : ℕ) → (clearance S R P ≡ unjudged_statement n) ↔
      (Shaped S.function P.marks × ((e : ExpressionHandle) → e < length S.function.expressions → FitExpression S e) × StatementBlamed S n)
  answer_statement = unjudged_statement_exactly S R P

  module _ (o : AscendingRequest R) where
    -- `refused 15`: judged, and the needs at some point pass depth or entries.
    pub answer_15 : (clearance S R P ≡ refused 15) ↔ ((r : ℕ → PartReq) × Walked S R P r × (m : PartReq) × AtPoint S R P r m × (over m ≡ true))
    answer_15 = ((λ e. go (refused 15) refl ((reasons S R P o (refused 15)).0 e)), (λ (r, w, m, p, h). (reasons S R P o _).1 (deep r w m p h)))
      where
        go : (a : Answer) → a ≡ refused 15 → Reason S R P a → (r : ℕ → PartReq) × Walked S R P r × (m : PartReq) × AtPoint S R P r m × (over m ≡ true)
        go a e (unshaped f) = let z : ◌≡◌ {A = ℕ} 21 15 = cc in absurd (omega arith)
        go a e (expression s b) = never cc
        go a e (statement s f b) = never cc
        go a e (deep r w m p h) = (r, w, m, p, h)
        go a e (many r w f m p h) = let z : ◌≡◌ {A = ℕ} 16 15 = cc in absurd (omega arith)
        go a e (fault r w l b) = never cc
        go a e (unmet r w l u f) = never cc
        go a e (cleared r c) = never cc

    -- `refused 16`: judged, the needs at no point pass 15's limits, and at some point they have too many pieces.
    pub answer_16 : (clearance S R P ≡ refused 16) ↔
        ((r : ℕ → PartReq) × Walked S R P r × ((m : PartReq) → AtPoint S R P r m → over m ≡ false) × (m : PartReq) × AtPoint S R P r m × (max_pieces < pieces m))
    answer_16 = ((λ e. go (refused 16) refl ((reasons S R P o (refused 16)).0 e)), (λ (r, w, f, m, p, h). (reasons S R P o _).1 (many r w f m p h)))
      where
        go : (a : Answer) → a ≡ refused 16 → Reason S R P a →
            (r : ℕ → PartReq) × Walked S R P r × ((m : PartReq) → AtPoint S R P r m → over m ≡ false) × (m : PartReq) × AtPoint S R P r m × (max_pieces < pieces m)
        go a e (unshaped f) = let z : ◌≡◌ {A = ℕ} 21 16 = cc in absurd (omega arith)
        go a e (expression s b) = never cc
        go a e (statement s f b) = never cc
        go a e (deep r w m p h) = let z : ◌≡◌ {A = ℕ} 15 16 = cc in absurd (omega arith)
        go a e (many r w f m p h) = (r, w, f, m, p, h)
        go a e (fault r w l b) = never cc
        go a e (unmet r w l u f) = never cc
        go a e (cleared r c) = never cc

    -- No other refusal is given.
    pub answer_refused : (n : ℕ) → clearance S R P ≡ refused n → (n ≡ 15) ⊎ ((n ≡ 16) ⊎ (n ≡ 21))
    answer_refused n e = go (refused n) refl ((reasons S R P o (refused n)).0 e)
      where
        go : (a : Answer) → a ≡ refused n → Reason S R P a → (n ≡ 15) ⊎ ((n ≡ 16) ⊎ (n ≡ 21))
        go a e (unshaped f) = inr (inr cc)
        go a e (expression s b) = never cc
        go a e (statement s f b) = never cc
        go a e (deep r w m p h) = inl cc
        go a e (many r w f m p h) = inr (inl cc)
        go a e (fault r w l b) = never cc
        go a e (unmet r w l u f) = never cc
        go a e (cleared r c) = never cc

    -- `stmt n`: judged and within the limits, and n is the lowest statement that breaks its rule.
    pub answer_stmt : (n : ℕ) → (clearance S R P ≡ at_statement n) ↔ ((r : ℕ → PartReq) × Walked S R P r × WithinLimits S R P r × LowestBreak S R P r n)
    answer_stmt n = ((λ e. go ((reasons S R P o _).0 e)), (λ (r, w, l, b). (reasons S R P o _).1 (fault r w l b)))
      where
        go : Reason S R P (at_statement n) → (r : ℕ → PartReq) × Walked S R P r × WithinLimits S R P r × LowestBreak S R P r n
        go (fault r w l b) = (r, w, l, b)

    -- `start`: judged and within the limits, no statement breaks its rule, and the start lacks something.
    pub answer_start : (clearance S R P ≡ at_start) ↔ ((r : ℕ → PartReq) × Walked S R P r × WithinLimits S R P r × NoBreak S R P r × (StartMet S R P r → ⊥))
    answer_start = ((λ e. go ((reasons S R P o _).0 e)), (λ (r, w, l, u, f). (reasons S R P o _).1 (unmet r w l u f)))
      where
        go : Reason S R P at_start → (r : ℕ → PartReq) × Walked S R P r × WithinLimits S R P r × NoBreak S R P r × (StartMet S R P r → ⊥)
        go (unmet r w l u f) = (r, w, l, u, f)

    -- `clear`: cleared, exactly as 01 says: judged and within the limits, no statement breaks its rule, and the start has what it must.
    pub exactly : (clearance S R P ≡ clear) ↔ ((r : ℕ → PartReq) × Cleared S R P r)
    exactly = ((λ e. go ((reasons S R P o _).0 e)), (λ (r, c). (reasons S R P o _).1 (cleared r c)))
      where
        go : Reason S R P clear → (r : ℕ → PartReq) × Cleared S R P r
        go (cleared r c) = (r, c)
