-- What is checked of a walk that was reported: no record is refused, and its marks and context are what the definition judges.
use Prim.Native.Nat.{ℕ, ◌+◌, ◌-◌}
use native.Mathlib.Omega.{arith}
use native.Mathlib.Nat.{sub-zero}
use mathlib.Core.Path.{◌≡◌, refl, ap, ◌∙◌}
use mathlib.Core.Bool.{Bool, true, false, cond}
use mathlib.Core.List.{List}
use mathlib.Core.Option.{Option, some, none as nothing}
use lib.Dec.{ltb}
use lib.ListN.{length, take}
use borrow.Author.Tests.{le-ltb}
use Rattle.field.specs.Limits.{min_report}
use Rattle.part.proofs.Equations.{never}
use Rattle.module.specs.Module.{Module}
use Rattle.module.specs.Tables.{module_of}
use Rattle.context.specs.RequiredContext.{RequiredContext}
use Rattle.request.specs.Fields.{refused, accepted}
use Rattle.request.specs.Request.{Request, request_of, known, judge}
use Rattle.request.specs.Context.{context_of}
use Rattle.request.proofs.Back.{context_of-write_context}
use Rattle.sound.proofs.Asked.{asked}
use Rattle.sound.proofs.Walks.{module_valid}
use Rattle.walk.specs.Marks.{stretch}
use Rattle.memory.specs.Memory.{read, context_at}
use Rattle.marks.specs.Places.{start_of}
use Rattle.pruner.proofs.Fine.{context_filed, context_known}
use Rattle.lines.specs.Reported.{report_in}
use Rattle.clearance.specs.Verdict as verdict
use Rattle.checking.specs.Check.{cut_short, on_buffer, meaning_of, meaning_by, on_module, meaning, answer_to, check}
use Rattle.checking.specs.Word.{said}
use Rattle.checking.specs.declared.words.Verdict.{Verdict}
use Rattle.checking.proofs.Counting.{end_small}
use Rattle.checking.proofs.Numbers.{check-roomy}
use Rattle.report_text.specs.Input.{check_of}
use Rattle.check_text.specs.Checked.{Recorded, Judging, Checks}

-- an accepted request was read, and names what is there
chosen : (o : Request) {q : Request} (a b : Bool) → cond a (cond b (refused 18) (accepted o)) (refused 11) ≡ accepted q → (a ≡ true) × (o ≡ q)
chosen o true false e = (refl, cc)
chosen o true true e = never cc
chosen o false b e = never cc

was_asked : (functions globals report : ℕ) (o : Option Request) {q : Request} → judge functions globals report o ≡ accepted q → (o ≡ some q) × (known functions globals q ≡ true)
unfolding judge
was_asked functions globals report nothing e = never cc
was_asked functions globals report (some p) e =
    let c = chosen p (known functions globals p) (ltb report min_report) e in
    (ap some c.1, rw c.1 at c.0)

module _ {bytes t s rs open_marks request : List ℕ} {k : ℕ} (J : Judging bytes t s rs open_marks k request) where
  abbrev m : Module
  m = module_of bytes t

  abbrev c : RequiredContext
  c = context_at (read s rs) k

  asks : (request_of request ≡ some J.q) × (known (length m.functions) (length m.globals) J.q ≡ true)
  asks = was_asked (length m.functions) (length m.globals) min_report (request_of request) J.asks

  whole : cut_short m J.q.function open_marks ≡ false
  unfolding cut_short
  whole =
      let there = (asked m min_report request J.q J.asks).function in
      le-ltb (length open_marks) (start_of m J.q.function + stretch m J.q.function)
      (omega (arith, J.long, end_small (record { read = J.was_read.module_is; there = there })))

  module _ {out : List ℕ} {n : ℕ} (R : Recorded out n c) where
    given : context_of (take n out) ≡ some c
    given = ap context_of R.is ∙ context_of-write_context c (context_filed m J.q.function c J.context (module_valid bytes m J.was_read.module_is))

    means : (required : Bool) → answer_to (meaning_by m open_marks (request_of request) (context_of (take n out))) ≡ check_of m J.q (report_in bytes t s rs open_marks J.q.function k required)
    unfolding meaning_by meaning_of on_buffer answer_to check_of
    means required = rw (asks.0, given, asks.1, context_known m J.q.function c J.context, whole)

    abbrev found : verdict.Answer
    found = answer_to (meaning_by m open_marks (request_of request) (context_of (take n out)))

    same_check : check bytes request open_marks (take n out) ≡ found
    unfolding check meaning on_module
    same_check = rw J.was_read.module_is

    -- by a front of the buffer
    pub checks : {v : Verdict} → said v ≡ answer_to (meaning_by m open_marks (request_of request) (context_of (take (n - 0) out))) → Checks bytes t s rs open_marks k request v
    checks {v} e =
        let says : said v ≡ found = rw (sub-zero n) at e in
        record {
          roomy = rw says (rw same_check at (check-roomy bytes request open_marks (take n out)));
          is = λ q read required. let same : J.q ≡ q = cc in says ∙ rw same at (means required);
        }
