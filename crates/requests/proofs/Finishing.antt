-- The end of a request in code: what its calls ask, from the walk that has ended, and that the reply and the buffers are the definition's.
use Prim.Native.Nat.{ℕ, suc, ◌+◌, ◌-◌, ◌<◌, ◌≤◌}
use native.Mathlib.Omega.{arith}
use native.Mathlib.Nat.{le_refl, zero-add}
use mathlib.Core.Path.{◌≡◌, refl, sym, ap, ◌∙◌}
use mathlib.Core.Bool.{Bool}
use mathlib.Core.List.{List, [], ◌∷◌, ◌++◌}
use mathlib.Core.Option.{Option, some, none as nothing}
use lib.ListN.{length, set, drop}
use lib.Seq.{sets, sets-eq}
use Rattle.std.specs.Prelude.{Ok, Err}
use Rattle.field.specs.declared.refusal.Refusal.TheVariants.{PiecesLimit}
use Rattle.field.specs.Limits.{max_functions, max_expressions, max_pieces, min_report}
use Rattle.part.specs.StoreLimits.{entries_cap}
use Rattle.module.specs.Module.{FunctionHandle, Module}
use Rattle.module.specs.Tables.{row_at, expressions_from, module_of}
use Rattle.module.proofs.Tab.{get_d_tab}
use Rattle.context.specs.RequiredContext.{RequiredContext}
use Rattle.valid.proofs.Accepted.{valid}
use Rattle.walk.specs.State.{Records, record_pieces}
use Rattle.walk.specs.Marks.{write_marks}
use Rattle.walk.specs.Requests.{report_of, bytes_from}
use Rattle.walk.specs.Proper.{FinePruner}
use Rattle.sound.proofs.There.{function_valid}
use Rattle.memory.specs.Layout.{exprs_slot}
use Rattle.memory.specs.Memory.{read, context_at, Memory}
use Rattle.memory.proofs.Records.{records_pieces}
use Rattle.marks.specs.declared.places.MarkPlaces.{MarkPlaces}
use Rattle.marks.specs.declared.totals.MarkTotals.{MarkTotals}
use Rattle.marks.specs.Places.{places_of, AllInside}
use Rattle.marks.specs.Report.{marks_kept, Totals, report_in}
use Rattle.marks.specs.Report as report
use Rattle.marks.proofs.Buffers.{all_inside}
use Rattle.marks.proofs.Sums.{report_is}
use Rattle.state.specs.State.{records_in, unplaced}
use Rattle.state.proofs.Own.{fits, records_there}
use Rattle.leave.specs.Leave.{Placed, own_in}
use Rattle.block.specs.Standing.{total_of, total_in, functions_in, state_in, Standing}
use Rattle.pruner.specs.Form.{min_pruner, pruner_pieces, write_pruner}
use Rattle.pruner.specs.Stored.{pruner_in, HasTotals}
use Rattle.pruner.proofs.Room.{pruner_long}
use Rattle.requests.specs.Answer.{min_answer, Answering, answer_in}
use Rattle.requests.specs.Serve.{finish}
use Rattle.requests.specs.Finish.{Finishing, Finished}
use Rattle.requests.proofs.Answers.{answer_fits}
use Rattle.requests.proofs.Ends.{end-count, request-over, request-went}

-- marks are written one by one
marks_set : (xs : List ℕ) (at : ℕ) (bs : List ℕ) → write_marks xs at bs ≡ sets xs at bs
unfolding write_marks
marks_set xs at [] = refl
marks_set xs at (b ∷ bs) = marks_set (set xs at b) (suc at) bs

-- a total keeps the marks that it is made of
kept-marks : (o : Option (List ℕ)) (c : RequiredContext) (es : Records) → o ≡ marks_kept (total_of o c es)
unfolding total_of
kept-marks nothing c es = refl
kept-marks (some ms) c es = refl

-- as the walk stands at its end
module _ {bytes t types : List ℕ} {places : MarkPlaces} {s rs open_marks : List ℕ} {totals : MarkTotals} {f at held sum visits : ℕ} (S : Standing bytes t types places s rs open_marks totals f at held sum visits) where
  abbrev m : Module
  m = module_of bytes t

  abbrev records : Records
  records = records_in t exprs_slot f (read s rs)

  few_functions : length (module_of bytes t).functions ≤ max_functions
  few_functions = (valid bytes m S.ready.was_read.module_is).few_functions

  pub own-pieces : own_in t s rs f ≡ record_pieces records
  own-pieces =
      sym (records_pieces (read s rs) (exprs_slot + expressions_from (row_at t f)) (row_at t f).expressions (records_there t f (fits f S.ready.was_read S.ready.function) S.ready.memory))

  pub own_few : own_in t s rs f ≤ sum
  own_few = omega (arith, own-pieces, S.ready.sums)

  -- what the count of the records asks
  pub own_asks : sum ≤ entries_cap → (Memory s rs × Placed t rs f) × (own_in t s rs f ≤ entries_cap)
  own_asks few = (
    (
      S.ready.memory,
      record {
        few = omega (arith, few_functions, S.ready.function);
        records = fits f S.ready.was_read S.ready.function;
        slots = S.ready.memory.slots;
      },
    ),
    omega (arith, own_few),
  )

  totals_are : Totals m totals (functions_in m t (read s rs) totals)
  unfolding functions_in total_in
  totals_are g l =
      kept-marks (report.total_in m totals g) _ _
      ∙ ap marks_kept (sym (get_d_tab (length m.functions) (total_in m t (read s rs) totals) g nothing l))

  fine_pruner : FinePruner m (pruner_in bytes t s rs totals)
  fine_pruner = record { globals = S.proper.globals; functions = S.proper.functions }

  has_totals : max_functions ≤ length totals.flags → min_report ≤ length totals.marks → HasTotals bytes t places.starts s rs totals
  has_totals flags marks = record {
    was_read = S.ready.was_read;
    firsts = places.firsts;
    placed = S.placed;
    memory = S.ready.memory;
    flags_long = flags;
    marks_long = marks;
  }

  answering : Answering t s rs f at
  answering =
      let w = fits f S.ready.was_read S.ready.function in
      record {
        good = S.ready.memory.good;
        below = S.ready.memory.below;
        context_there = S.ready.high;
        records_there = omega (arith, S.ready.memory.slots);
      }

  few_records : length records ≤ max_expressions
  few_records =
      omega (arith, S.proper.exprs.long, (function_valid m (valid bytes m S.ready.was_read.module_is) f S.ready.function).parts.few_expressions)

  -- the report that is written is the definition's
  report_set : (buffer : List ℕ) (n : ℕ) → n ≡ length (module_of bytes t).functions
      → write_marks buffer 0 (report_in places.starts open_marks totals f n) ≡ sets buffer 0 (bytes_from m f (state_in bytes t s rs open_marks totals f at visits) 0 m.functions)
  report_set buffer n e =
      rw e
      (marks_set buffer 0 _
      ∙ ap (sets buffer 0) (report_is bytes t places S.ready.was_read S.placed totals open_marks f (state_in bytes t s rs open_marks totals f at visits) totals_are refl))

module _ {bytes t starts s rs open_marks : List ℕ} {totals : MarkTotals} {f : FunctionHandle} {base : ℕ} {required : Bool} {visits sum : ℕ} {pruner report answer : List ℕ}
    (F : Finishing bytes t starts s rs open_marks totals f base required visits sum pruner report answer) where
  pub finish_own : (Memory s rs × Placed t rs f) × (own_in t s rs f ≤ entries_cap)
  finish_own = own_asks F.ended.standing (omega (arith, F.ended.sum_few))

  pub finish_sub : own_in t s rs f ≤ sum
  finish_sub = own_few F.ended.standing

  pub finish_report : {n : ℕ} → n ≡ length (module_of bytes t).functions → AllInside starts n min_report × (min_report ≤ length open_marks) × (n ≤ max_functions) × (n ≤ length totals.flags) × (min_report ≤ length report) × (min_report ≤ length totals.marks)
  finish_report e =
      let S = F.ended.standing in
      rw e (all_inside bytes t (places_of starts F.firsts) S.ready.was_read S.placed min_report (le_refl min_report), S.open_long, few_functions S, omega (arith, few_functions S, F.flags_long), F.report_long, F.totals_long)

  pub finish_pruner : {own : ℕ} → own ≡ own_in t s rs f → sum - own ≤ max_pieces
      → HasTotals bytes t starts s rs totals × ((min_pruner ≤ length pruner) × (length (write_pruner (pruner_in bytes t s rs totals)) ≤ min_pruner))
  finish_pruner e l =
      let S = F.ended.standing in
      let few : pruner_pieces (pruner_in bytes t s rs totals) ≤ max_pieces = omega (arith, own-pieces S, S.ready.sums, S.totals-sum) in
      (has_totals S F.flags_long F.totals_long, (F.pruner_long, pruner_long (module_of bytes t) bytes S.ready.was_read.module_is (pruner_in bytes t s rs totals) (fine_pruner S) few))

  answer_few : length (answer_in t s rs f (base + 4) required visits) ≤ min_answer
  answer_few =
      let S = F.ended.standing in
      answer_fits required visits (context_at (read s rs) (base + 4)) (records_in t exprs_slot f (read s rs))
      (omega (arith, F.ended.few, S.ready.sums, F.ended.sum_few)) (few_records S)

  pub finish_answer : Answering t s rs f (base + 4) × (((visits < 4294967296) × (length (answer_in t s rs f (base + 4) required visits) ≤ length answer)) × (length (answer_in t s rs f (base + 4) required visits) ≤ min_answer))
  finish_answer =
      let l = answer_few in
      (answering F.ended.standing, ((omega (arith, F.ended.standing.proper.visits.few), omega (arith, F.answer_long)), l))

  -- 16 refuses
  pub finish_over : {own : ℕ} → own ≡ own_in t s rs f → max_pieces < sum - own → Finished bytes t starts s rs open_marks totals f base required visits sum pruner report answer (Err (unplaced PiecesLimit)) pruner report answer
  unfolding finish
  finish_over e l = record {
    by = λ types firsts u us o b p q same E.
        let count = end-count bytes t p q E in
        let own = own-pieces E.standing in
        let equal = ap (own_in t s rs) same in
        sym (ap (finish _) (request-over bytes t p q E (omega arith)));
  }

  -- all is written
  pub finish_went : {own n : ℕ} {pruner-after report-after answer-after : List ℕ} → own ≡ own_in t s rs f → sum - own ≤ max_pieces → n ≡ length (module_of bytes t).functions
      → report-after ≡ write_marks report 0 (report_in starts open_marks totals f n)
      → pruner-after ≡ write_pruner (pruner_in bytes t s rs totals) ++ drop (length (write_pruner (pruner_in bytes t s rs totals))) pruner
      → answer-after ≡ sets answer 0 (answer_in t s rs f (base + 4) required visits)
      → Finished bytes t starts s rs open_marks totals f base required visits sum pruner report answer (Ok visits) pruner-after report-after answer-after
  unfolding finish report_of
  finish_went {own} {n} {pruner-after} {report-after} {answer-after} e l count reported totalled answered = record {
    by = λ types firsts u us o b p q same E.
        let long = (finish_pruner e l).1.1 in
        let own-there = own-pieces E.standing in
        let equal = ap (own_in t s rs) same in
        let ends = end-count bytes t p q E in
        let to-report : report-after ≡ sets report 0 (bytes_from (module_of bytes t) q.function (state_in bytes t s rs open_marks totals q.function (base + 4) visits) 0 (module_of bytes t).functions) =
        reported ∙ ap (λ (g : ℕ). write_marks report 0 (report_in starts open_marks totals g n)) (sym same) ∙ report_set E.standing report n count in
        let to-pruner : pruner-after ≡ sets pruner 0 (write_pruner (pruner_in bytes t s rs totals)) =
        totalled
        ∙ ap (λ (k : ℕ). write_pruner (pruner_in bytes t s rs totals) ++ drop k pruner) (sym (zero-add (length (write_pruner (pruner_in bytes t s rs totals)))))
        ∙ sym (sets-eq (write_pruner (pruner_in bytes t s rs totals)) pruner 0 (omega (arith, F.pruner_long))) in
        let to-answer : answer-after ≡ sets answer 0 (answer_in t s rs q.function (base + 4) required visits) =
        answered ∙ ap (λ (g : ℕ). sets answer 0 (answer_in t s rs g (base + 4) required visits)) (sym same) in
        rw (to-report, to-pruner, to-answer) (sym (ap (finish _) (request-went bytes t p q E (omega arith))));
  }
