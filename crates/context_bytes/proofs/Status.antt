-- What a status says, for those who call `check_context`: 0 that there is a context and it is accepted, another number that it is refused by it.
use Prim.Native.Nat.{ℕ, ◌<◌}
use native.Mathlib.Omega.{arith}
use mathlib.Core.Path.{◌≡◌, refl, ap, sym}
use mathlib.Core.Bool.{Bool, true, false, cond}
use mathlib.Core.Option.{Option, some, none as nothing}
use Rattle.field.specs.Refusal.{number}
use Rattle.field.specs.declared.refusal.Refusal.{Refusal}
use Rattle.field.specs.declared.refusal.Refusal.TheVariants.{ModuleTooLong, RecordCut, MarkMisplaced, ModuleLimit, ValueNotAllowed, NoSuch, Malformed, Panic, Unsettled, PartLimit, PiecesLimit, VisitsLimit, ReportTooShort, PrunerUnfit, AnswerTooShort, MarksUnfit, CheckBound}
use Rattle.context.specs.RequiredContext.{RequiredContext}
use Rattle.request.specs.Fields.{Answer, refused, accepted}
use Rattle.request.specs.Context.{known_context, judge_context}
use Rattle.context_bytes.specs.Checked.{status_of, without_function}

-- the context that was accepted
pub record Known (globals args locals : ℕ) (o : Option RequiredContext) : Type 0 where
  pub context : RequiredContext
  pub is : o ≡ some context
  pub judged : judge_context globals args locals o ≡ accepted context

chosen : (v : Bool) (c : RequiredContext) → 0 ≡ status_of (cond v (accepted c) (refused 11)) → v ≡ true
unfolding status_of
chosen true c e = refl
chosen false c e = absurd (omega arith)

pub status_known : (globals args locals : ℕ) (o : Option RequiredContext) → 0 ≡ status_of (judge_context globals args locals o) → Known globals args locals o
unfolding status_of judge_context
status_known globals args locals nothing e = absurd (omega arith)
status_known globals args locals (some c) e =
    let v = chosen (known_context globals args locals c) c e in
    record { context = c; is = refl; judged = rw v }

pub status_refused : {A : Type 0} (x : Answer A) {n : ℕ} → 0 < n → n ≡ status_of x → x ≡ refused n
unfolding status_of
status_refused (refused m) h e = ap refused (sym e)
status_refused (accepted x) h e = absurd (omega arith)

-- no refusal has the number 0
pub refused_above : (e : Refusal) → 0 < number e
refused_above ModuleTooLong = omega arith
refused_above RecordCut = omega arith
refused_above MarkMisplaced = omega arith
refused_above ModuleLimit = omega arith
refused_above ValueNotAllowed = omega arith
refused_above NoSuch = omega arith
refused_above Malformed = omega arith
refused_above Panic = omega arith
refused_above Unsettled = omega arith
refused_above PartLimit = omega arith
refused_above PiecesLimit = omega arith
refused_above VisitsLimit = omega arith
refused_above ReportTooShort = omega arith
refused_above PrunerUnfit = omega arith
refused_above AnswerTooShort = omega arith
refused_above MarksUnfit = omega arith
refused_above CheckBound = omega arith

-- a context of a function that is not there
pub without_accepted : (o : Option RequiredContext) → 0 ≡ status_of (judge_context 0 0 0 o) → 11 ≡ without_function o
unfolding status_of judge_context without_function
without_accepted nothing e = absurd (omega arith)
without_accepted (some c) e = refl

eleven : (v : Bool) (c : RequiredContext) {n : ℕ} → 0 < n → n ≡ status_of (cond v (accepted c) (refused 11)) → n ≡ 11
unfolding status_of
eleven true c h e = absurd (omega arith)
eleven false c h e = e

pub without_refused : (o : Option RequiredContext) {n : ℕ} → 0 < n → n ≡ status_of (judge_context 0 0 0 o) → n ≡ without_function o
unfolding status_of judge_context without_function
without_refused nothing h e = e
without_refused (some c) h e = eleven (known_context 0 0 0 c) c h e
