-- What a caller reads of an answer: the record AN (specs/Answer) at the front of a buffer. What follows the stated length is not looked at.
use Rattle.std.specs.Prelude.{ℕ, ◌+◌, ◌*◌, Bool, cond, List, [], ◌∷◌, leb, eqb, drop}
use Rattle.std.proofs.Math.Option.{Option, none as nothing}
use Rattle.field.specs.Field.{word_at}
use Rattle.context.specs.RequiredContext.{RequiredContext}
use Rattle.request.specs.Fields.{fields, framed, Read, malformed, got, ◌>>=◌, whole}
use Rattle.request.specs.Context.{read_context_body}
use Rattle.walk.specs.State.{Records}
use Rattle.walk.specs.Requests.{Report}
use Rattle.pruner.specs.Form.{read_records, stated}

pub record Answered : Type 0 where
  pub required : Bool
  pub visits : ℕ
  pub context : RequiredContext
  pub exprs : Records

-- what a report says beside its marks
abbrev pub answered_of : Report → Answered
answered_of r = record { required = r.required; visits = r.visits; context = r.context; exprs = r.exprs }

-- of a function that has n expressions
unfoldable pub read_body : (n : ℕ) → List ℕ → Read Answered
read_body n [] = malformed
read_body n (flag ∷ []) = malformed
read_body n (flag ∷ (low ∷ [])) = malformed
read_body n (flag ∷ (low ∷ (high ∷ fs))) =
    let rest : Read Answered =
    read_context_body fs >>= λ context gs. read_records n gs >>= λ exprs hs.
    got (record { required = eqb flag 1; visits = low + 65536 * high; context = context; exprs = exprs }) hs in
    cond (leb flag 1) rest malformed

-- whether the record AN (65, 78) stands at the front, whole
abbrev pub is_answer : List ℕ → Bool
is_answer s = framed 65 78 6 (word_at s 2) (stated s)

-- What a buffer means to the caller who asked for a function of n expressions, or nothing where it is malformed: too short for its mark, its header or its stated length, of another mark or an odd
-- length, with fields that end too early or are left over, with a flag other than 0 and 1, or a context or a record that is malformed.
unfoldable pub read_answer : (n : ℕ) → List ℕ → Option Answered
read_answer n s = let answered = whole (read_body n (fields (drop 6 (stated s)))) in cond (is_answer s) answered nothing
