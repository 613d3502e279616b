-- The numbers of an answer have room in its word: a statement or an expression that is named is one of the function's, of which a module that was read has at most 1,024, and a refusal
-- is one of 1 to 26. Read off the theorems on answers. So the word 0 says clear, and claims what clear does.
use Prim.Native.Nat.{ℕ, ◌<◌, ◌≤◌}
use native.Mathlib.Omega.{arith}
use mathlib.Core.Path.{◌≡◌, refl, sym, ap, ◌∙◌}
use mathlib.Core.List.{List}
use mathlib.Core.Option.{Option, some, none as nothing}
use mathlib.Core.Bool.{Bool, true, false, cond}
use mathlib.Core.Logic.{⊎_elim}
use lib.ListN.{length}
use Rattle.field.specs.Limits.{max_expressions, max_statements}
use Rattle.module.specs.Module.{Function, Module}
use Rattle.module.specs.File as file
use Rattle.valid.proofs.Accepted.{valid}
use Rattle.reading.proofs.Numbers.{refusal_number}
use Rattle.context.specs.RequiredContext.{RequiredContext}
use Rattle.request.specs.Request.{known}
use Rattle.request.specs.Request as asks
use Rattle.request.specs.Context.{known_context}
use Rattle.walk.specs.Resolve.{function_at}
use Rattle.clearance.specs.Scope.{Scope}
use Rattle.clearance.specs.Verdict.{Request, Report, Answer, clear, at_statement, at_start, unjudged_expression, unjudged_statement, refused, ending, setting, clearance}
use Rattle.clearance.specs.IsNeed.{AscendingRequest}
use Rattle.clearance.specs.Answered.{Reason, unshaped, expression, statement, deep, many, fault, unmet, cleared}
use Rattle.clearance.proofs.Reasons.{reasons}
use Rattle.pass.specs.Checked.{checked}
use Rattle.pass.proofs.Checked.{checked-is}
use Rattle.checking.specs.Check.{Meaning, unread, means, scope_of, asked_by, report_by, cut_short, on_buffer, meaning_of, meaning_by, on_module, meaning, answer_to, check}
use Rattle.checking.specs.Word.{check_word, Roomy, word_answer}
use Rattle.checking.specs.Claims.{CheckedClaims}
use Rattle.checking.proofs.Word.{word-answer}
use Rattle.checking.proofs.Broken.{break_low}
use Rattle.checking.proofs.Meaning.{Read, was_read, fine, ascends}
use Rattle.checking.proofs.Claims.{checked_claims}

-- what an answer names is there
abbrev pub Within : Function → Answer → Type 0
Within f clear = Unit {0}
Within f at_start = Unit {0}
Within f (at_statement n) = n < length f.statements
Within f (unjudged_expression e) = e < length f.expressions
Within f (unjudged_statement n) = n < length f.statements
Within f (refused n) = (0 < n) × (n ≤ 26)

module _ (S : Scope) (R : Request) (P : Report) (o : AscendingRequest R) where
  reason_within : (a : Answer) → Reason S R P a → Within S.function a
  reason_within a (unshaped f) = (omega arith, omega arith)
  reason_within a (expression s b) = b.one
  reason_within a (statement s f b) = b.one
  reason_within a (deep r w m p h) = (omega arith, omega arith)
  reason_within a (many r w f m p h) = (omega arith, omega arith)
  reason_within a (fault r w l b) = break_low S.function P.marks (setting S R) r _ (ending S R) b.breaks
  reason_within a (unmet r w l u f) = tt
  reason_within a (cleared r c) = tt

  pub checked-names : Within S.function (checked S R P)
  checked-names =
      ⊎_elim (λ e. rw e (reason_within (clearance S R P) ((reasons S R P o (clearance S R P)).0 refl))) (λ e. rw e.0 (omega arith, omega arith)) (checked-is S R P o)

-- of a function as reading leaves it
within_roomy : (f : Function) (a : Answer) → length f.statements ≤ max_statements → length f.expressions ≤ max_expressions → Within f a → Roomy a
within_roomy f clear s e h = tt
within_roomy f at_start s e h = tt
within_roomy f (at_statement n) s e h = omega arith
within_roomy f (unjudged_expression n) s e h = omega arith
within_roomy f (unjudged_statement n) s e h = omega arith
within_roomy f (refused n) s e h = (h.0, omega (arith, h.1))

module _ (s request report context : List ℕ) where
  -- a refusal before the clearance
  abbrev Few : Meaning → Type 0
  Few (unread n) = (0 < n) × (n ≤ 21)
  Few (means S R P) = Unit {0}

  either_few : (a b d : Bool) (S : Scope) (R : Request) (P : Report) → Few (cond a (cond b (cond d (unread 21) (means S R P)) (unread 11)) (unread 11))
  either_few true true true S R P = (omega arith, omega arith)
  either_few true true false S R P = tt
  either_few true false d S R P = (omega arith, omega arith)
  either_few false b d S R P = (omega arith, omega arith)

  records_few : (m : Module) (x : Option asks.Request) (y : Option RequiredContext) → Few (meaning_by m report x y)
  unfolding meaning_by meaning_of on_buffer
  records_few m nothing y = (omega arith, omega arith)
  records_few m (some q) nothing = (omega arith, omega arith)
  records_few m (some q) (some c) =
      either_few (known (length m.functions) (length m.globals) q)
      (known_context (length m.globals) (length (function_at m q.function).arguments) (length (function_at m q.function).locals) c)
      (cut_short m q.function report)
      (scope_of m q.function) (asked_by q) (report_by m q.function report c)

  module_few : (x : file.Answer) → file.read_module s ≡ x → Few (on_module x request report context)
  unfolding on_module
  module_few (file.refused n) h = let z = refusal_number s n h in (omega (arith, z.0), omega (arith, z.1))
  module_few (file.accepted m) h = records_few m _ _

  meaning-few : Few (meaning s request report context)
  unfolding meaning
  meaning-few = module_few (file.read_module s) refl

  -- the asked function is one of a module that was read
  names_roomy : (S : Scope) (R : Request) (P : Report) → Read s request report context S R P → Roomy (checked S R P)
  unfolding function_at
  names_roomy S R P was =
      let v = ((valid s was.program was.program_is).functions was.asking.function _ (fine was).function).parts in
      within_roomy S.function (checked S R P)
      (rw was.scope_is v.few_statements) (rw was.scope_is v.few_expressions) (checked-names S R P (ascends was))

  answer_roomy : (x : Meaning) → meaning s request report context ≡ x → Few x → Roomy (answer_to x)
  unfolding answer_to
  answer_roomy (unread n) e h = (h.0, omega (arith, h.1))
  answer_roomy (means S R P) e h = names_roomy S R P (was_read s request report context S R P e)

  -- The numbers of every answer have room, so its word determines it.
  pub check-roomy : Roomy (check s request report context)
  unfolding check
  check-roomy = answer_roomy (meaning s request report context) refl meaning-few

  -- Where the word is 0, the claim holds.
  pub word_claims : check_word (check s request report context) ≡ 0 → CheckedClaims s request report context
  unfolding word_answer
  word_claims e = checked_claims s request report context (sym (word-answer (check s request report context) check-roomy) ∙ ap word_answer e)
