-- A whole input: its module and its request are the parts that the code lends on, and the text is the definition's; written, it stands at the front of the buffer.
use Prim.Native.Nat.{ℕ, ◌+◌, ◌<◌, ◌≤◌}
use native.Mathlib.Omega.{arith}
use native.Mathlib.Nat.{zero-add}
use mathlib.Core.Path.{◌≡◌, sym, ap, ◌∙◌}
use mathlib.Core.Bool.{Bool}
use mathlib.Core.List.{List, ◌++◌}
use lib.ListN.{length, drop, length-append}
use lib.Seq.{sets-eq}
use Rattle.std.specs.Prelude.{Result, Ok, Err}
use Rattle.field.specs.Limits.{min_report}
use Rattle.field.specs.Refusal.{number}
use Rattle.field.specs.declared.refusal.Refusal.{Refusal}
use Rattle.module.specs.Tables.{module_of}
use Rattle.module.specs.declared.handles.FunctionHandle.{FunctionHandle as Handle}
use Rattle.request.specs.Request.{read_request}
use Rattle.reading.specs.Reads.{Reads}
use Rattle.memory.specs.Layout.{stack_slot}
use Rattle.access.specs.Laid.{WasRead}
use Rattle.marks.specs.declared.places.MarkPlaces.{MarkPlaces}
use Rattle.lines.specs.Reported.{report_in, text_in, max_text}
use Rattle.lines.specs.declared.text.Text.{Text}
use Rattle.lines.specs.Wrote.{longest, Writes, Begins}
use Rattle.lines.proofs.Writing.{writes_then, writes_first}
use Rattle.lines.proofs.ReportText.{text_long, reporting_in}
use Rattle.checking.specs.Word.{said, word, word_answer}
use Rattle.checking.proofs.Word.{word-answer}
use Rattle.checking.specs.declared.words.Verdict.{Verdict}
use Rattle.checking.specs.Line.{check_line}
use Rattle.report_text.specs.Split.{module_bytes, module_in, request_in}
use Rattle.report_text.specs.Input.{check_of, request_text, module_text, report_input}
use Rattle.check_text.specs.Checked.{max_line, Numbered, Checks}
use Rattle.check_text.proofs.Saying.{line_long}
use Rattle.report.specs.Outcome.{ShowsIn, TextIs, TextIn}
use Rattle.report.specs.declared.outcome.Reported.{Reported}
use Rattle.report_text.proofs.Cut.{within}
use Rattle.field.proofs.Refusals.{some_number}

module _ (input : List ℕ) {at : ℕ} (e : at ≡ module_bytes input 0) where
  pub split_inside : at ≤ length input
  split_inside = omega (arith, within input 0)

-- the request of a module that was read, both as the code has them
module _ (input : List ℕ) {b t asked : List ℕ} (e : b ≡ module_in input) (q : asked ≡ request_in input) where
  pub input-walked : {places : MarkPlaces} {s rs open_marks : List ℕ} {r : Result Reported Refusal} → WasRead b t
      → TextIs (request_text (module_of b t) (read_request (module_of b t) min_report asked)) b t asked places s rs open_marks r
      → TextIs (report_input input) b t (request_in input) places s rs open_marks r
  unfolding report_input module_text
  input-walked w T = rw (← e, w.module_is) (rw q at T)

pub input-refused : (input : List ℕ) {t b u : List ℕ} {places : MarkPlaces} {s rs open_marks : List ℕ} {e : Refusal} → Reads (module_in input) t (number e)
    → TextIs (report_input input) b u (request_in input) places s rs open_marks (Err e)
unfolding report_input module_text
input-refused input {e = e} R = record { by = rw (R.refuses (some_number e)) }

pub was_read : {bytes t : List ℕ} {n : ℕ} → Reads bytes t n → n ≡ 0 → WasRead bytes t
was_read R z = record { module_is = (R.accepts z).0; laid = (R.accepts z).1 }

-- the tables of a walk have what the text is written from
pub by_firsts : {text bytes t asked-bytes : List ℕ} (places : MarkPlaces) {s rs open_marks : List ℕ} (a : Result Reported Refusal) → TextIs text bytes t asked-bytes places s rs open_marks a
    → TextIn text bytes t asked-bytes places.firsts s rs open_marks a
by_firsts places (Err e) T = record { by = T.by }
by_firsts places (Ok a) T =
    let S = T.by in
    record { by = record { reporting = reporting_in S.reporting; q = S.q; asks = S.asks; function_is = S.function_is; is = S.is } }

-- the text is written
module _ {text bytes t asked-bytes firsts s rs open_marks : List ℕ} {a : Result Reported Refusal} (T : TextIn text bytes t asked-bytes firsts s rs open_marks a) where
  pub reported : {f : Handle} {required : Bool} → a ≡ Ok (record { function = f; required = required }) → ShowsIn text bytes t asked-bytes firsts s rs open_marks f.0 required
  reported e = rw e at T.by

-- a text behind a text
begins-then : {a b c : Text} {text more : List ℕ} → a.at ≡ 0 → Begins a b text → Writes b c more → length text + length more ≤ length a.out.now → Begins a c (text ++ more)
begins-then {a} {b} {c} {text} {more} z B W l =
    let F = B.front in
    let all = sets-eq text a.out.now 0 (omega arith) ∙ ap (λ (e : ℕ). text ++ drop e a.out.now) (zero-add (length text)) in
    let first : Writes a b text = record { same = B.same; wrote = record { is = F.is ∙ rw z (sym all); behind = omega (arith, F.behind, z) } } in
    writes_first z (writes_then first W) (omega (arith, length-append text more))

-- by what memory has, and its check
module _ {text bytes t asked-bytes firsts s rs open_marks : List ℕ} {f : ℕ} {required : Bool} (S : ShowsIn text bytes t asked-bytes firsts s rs open_marks f required) where
  module _ {v : Verdict} (C : Checks bytes t s rs open_marks (stack_slot + 4) asked-bytes v) where
    answers : said v ≡ check_of (module_of bytes t) S.q (report_in bytes t s rs open_marks f (stack_slot + 4) required)
    answers =
        C.is S.q S.asks required
        ∙ ap (λ (g : ℕ). check_of (module_of bytes t) S.q (report_in bytes t s rs open_marks g (stack_slot + 4) required)) S.function_is

    whole : text ≡ text_in bytes t s rs open_marks f (stack_slot + 4) required ++ check_line (said v)
    whole = S.is ∙ rw answers

    module _ {before between : Text} (B : Begins before between (text_in bytes t s rs open_marks f (stack_slot + 4) required)) where
      short : between.at ≤ max_text
      short = omega (arith, B.front.behind, text_long S.reporting required)

      pub line_asks : {w : ℕ} → w ≡ word v → Numbered w × (between.at + max_line < longest)
      line_asks e = (record { answer = said v; roomy = C.roomy; is = e }, omega (arith, short))

      pub begins_whole : {after : Text} {w : ℕ} → w ≡ word v → before.at ≡ 0 → max_text + max_line ≤ length before.out.now → Writes between after (check_line (word_answer w)) → Begins before after text
      begins_whole e z room W = rw whole (begins-then z B (rw (e, word-answer (said v) C.roomy) at W) (omega (arith, line_long (said v) C.roomy, text_long S.reporting required)))
