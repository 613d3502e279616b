-- The clearance by passes: each takes the former one's table, and the last one's outcome gives the answer.
use Rattle.std.specs.Prelude.{ℕ, zero, suc, ◌≡◌, true, false, cond, [], ◌∷◌, ◌⊎◌}
use Rattle.std.proofs.Math.Option.{Option, some, none as nothing}
use Rattle.part.specs.PartReq.{PartReq}
use Rattle.clearance.specs.Shape.{trim}
use Rattle.clearance.specs.Scope.{Scope, result_shape}
use Rattle.clearance.specs.Tree.{Tree}
use Rattle.clearance.specs.Needs.{Exit, next, returned, Setting, Table, reentry, settle}
use Rattle.clearance.specs.Judged.{blamed_expression, blamed_statement}
use Rattle.clearance.specs.Verdict.{Request, Report, Answer, unjudged_expression, unjudged_statement, refused, ending, setting, body, starts, verdict, has_shape}
use Rattle.pass.specs.Pass.{Carried, Passed, on, full, ◌>>=◌, within, pass}

-- as a pass begins
unfoldable pub fresh : Table → Carried
fresh t = record { table = t; fault = nothing; held = true; deep = false; wide = false }

-- the part that is asked of the value, within its type
unfoldable pub asked_of : Setting → PartReq
asked_of W = trim W.asked (result_shape W.scope W.scope.function.result)

-- A pass over a body. Kept aside: the part that is asked of the value, the needs at a return, since only a return leaves a body before its end, and the
-- table as it was.
unfoldable pub pass_once : Setting → Tree → (Exit → PartReq) → Table → Passed
pass_once W a k t =
    let aside = asked_of W ∷ k returned ∷ t in
    within aside (k next) (fresh t) >>= λ c _. pass W (reentry t) a aside k c

-- what is done with a pass's outcome: it is the last if each loop's needs held
unfoldable pub settled_by : Passed → (Table → Option Passed) → Option Passed
settled_by (on c m) again = cond c.held (some (on c m)) (again c.table)
settled_by full again = some full

-- passes until each loop's needs hold, at most so many
unfoldable pub settle_within : Setting → Tree → (Exit → PartReq) → ℕ → Table → Option Passed
settle_within W a k zero t = nothing
settle_within W a k (suc n) t = settled_by (pass_once W a k t) (settle_within W a k n)

-- The most rounds; past it the answer is 26. Our own (docs/DIFFERENCES.md).
abbrev pub max_rounds : ℕ
max_rounds = 65536

-- the last pass's outcome
unfoldable pub last_pass : Scope → Request → Report → Option Passed
last_pass S R P = settle_within (setting S R) (body S P) (ending S R) max_rounds []

-- 15, then 16, then the lowest fault, then the start; 26 where the working bound is passed, or the loops' needs have not settled
unfoldable pub answer_of : Report → Option Passed → Answer
answer_of P nothing = refused 26
answer_of P (some full) = refused 26
answer_of P (some (on c m)) = cond c.deep (refused 15) (cond c.wide (refused 16) (verdict c.fault (starts P m)))

unfoldable pub judge_by : Scope → Request → Report → Option ℕ → Option ℕ → Answer
judge_by S R P (some e) s = unjudged_expression e
judge_by S R P nothing (some n) = unjudged_statement n
judge_by S R P nothing nothing = answer_of P (last_pass S R P)

-- The clearance as it is computed.
unfoldable pub checked : Scope → Request → Report → Answer
checked S R P =
    elim (has_shape S.function P.marks) [
      | true ↦ judge_by S R P (blamed_expression S) (blamed_statement S (body S P))
      | false ↦ refused 21
    ]

-- what 26 says: a pass was past the working bound, or the rounds by definition have not settled within so many
pub data Beyond (S : Scope) (R : Request) (P : Report) : Type 0 where
  memory : last_pass S R P ≡ some full → Beyond S R P
  rounds : settle (setting S R) (body S P) (ending S R) max_rounds [] ≡ nothing → Beyond S R P

-- two answers are the same, or the first is 26, and one of the two bounds was passed
abbrev pub SameOrBeyond : Scope → Request → Report → Answer → Answer → Type 0
SameOrBeyond S R P a b = (a ≡ b) ⊎ ((a ≡ refused 26) × Beyond S R P)
