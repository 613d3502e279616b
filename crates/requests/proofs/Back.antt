-- What a request leaves in the answer's buffer is read back as its report, whatever stands behind it: for any module, request and buffers, of any bytes, where the reply is a number of visits. The
-- context and the records by the laws of their own forms; that they can be written, by what every walk keeps; that the answer fits, by what a walk holds at most.
use Prim.Native.Nat.{ℕ, ◌+◌, ◌*◌, ◌≤◌}
use native.Mathlib.Omega.{arith}
use native.Mathlib.Decide.{dec_lt}
use native.Mathlib.Nat.{mod-add-div}
use mathlib.Core.Path.{◌≡◌, refl, sym, ap, ◌∙◌}
use mathlib.Core.Bool.{Bool, true, false, cond}
use mathlib.Core.List.{List, [], ◌++◌, append-nil}
use mathlib.Core.Option.{some}
use lib.Dec.{ltb, leb, eqb}
use lib.ListN.{length, drop}
use lib.Seq.{sets-eq}
use borrow.Author.Tests.{ltb-false}
use Rattle.field.specs.Field.{Bytes}
use Rattle.field.specs.Limits.{absent, max_pieces}
use Rattle.module.specs.Module.{Module}
use Rattle.module.specs.File as file
use Rattle.context.specs.RequiredContext.{RequiredContext, return_entry}
use Rattle.request.specs.Fields as reading
use Rattle.request.specs.Fields.{got, whole}
use Rattle.request.specs.Filed.{FiledContext}
use Rattle.request.specs.Request.{Request, read_request}
use Rattle.request.proofs.Frame.{overlong}
use Rattle.request.proofs.Back.{context_body}
use Rattle.walk.specs.State.{Records, State, nowhere, Out, went, halt, sum_of, count}
use Rattle.walk.specs.StatementReq.{mark}
use Rattle.walk.specs.Resolve.{function_at}
use Rattle.walk.specs.Function.{entered}
use Rattle.walk.specs.Requests.{Pruner, Report, Answer, reported, end_count, ended, begun, walk_request, report_of, answered, request}
use Rattle.walk.specs.Proper.{EachRecord, ProperState}
use Rattle.walk.proofs.Ends as ends
use Rattle.walk.proofs.Counts.{record_pieces-replicate}
use Rattle.walk.proofs.Proper.{walk_proper}
use Rattle.walk.proofs.Room.{function_owns}
use Rattle.sound.proofs.Asked as sound
use Rattle.sound.proofs.There.{function_valid}
use Rattle.sound.proofs.Walks.{module_valid, module_sound}
use Rattle.pruner.specs.Form.{min_pruner, write_records, read_records, read_pruner}
use Rattle.pruner.proofs.Fine.{context_filed}
use Rattle.pruner.proofs.Framed.{wide_word, wide_stated, wide_framed, wide_fields}
use Rattle.pruner.proofs.Back.{records_back}
use Rattle.pruner.proofs.Read.{read_fine, read_few}
use Rattle.requests.specs.Answer.{min_answer, answer_body, write_answer}
use Rattle.requests.specs.ReadAnswer.{Answered, answered_of, read_body, read_answer}
use Rattle.requests.specs.Begin.{base_of}
use Rattle.requests.specs.Serve.{Lent, Reply, visited, refused_at, finish, lent_pruner, on_pruner, on_request, serve_read, on_module, serve}
use Rattle.requests.proofs.Answers.{answer_fits}
use Rattle.requests.proofs.Few.{base_few}
use Rattle.requests.proofs.Sequence as one
use Rattle.requests.proofs.Sequence.{Holds}

-- the form: a flag
flag_small : (b : Bool) → leb (mark b) 1 ≡ true
unfolding mark
flag_small true = refl
flag_small false = refl

flag_is : (b : Bool) → eqb (mark b) 1 ≡ b
unfolding mark
flag_is true = refl
flag_is false = refl

module _ (required : Bool) (visits : ℕ) (context : RequiredContext) (exprs : Records) (filed : FiledContext context) (each : EachRecord exprs) where
  abbrev told : Answered
  told = record { required = required; visits = visits; context = context; exprs = exprs }

  body_back : read_body (length exprs) (answer_body required visits context exprs) ≡ got told []
  unfolding read_body answer_body
  body_back =
      let records : read_records (length exprs) (write_records exprs) ≡ got exprs [] = ap (read_records (length exprs)) (sym (append-nil (write_records exprs))) ∙ records_back exprs [] each in
      rw (flag_small required, flag_is required, mod-add-div visits 65536, context_body context (write_records exprs) filed, records)

  -- An answer that is written is read back, whatever follows it, where a file can hold its parts.
  pub read_answer-write_answer : (rest : List ℕ) → read_answer (length exprs) (write_answer required visits context exprs ++ rest) ≡ some told
  unfolding read_answer write_answer whole
  read_answer-write_answer rest =
      let body = answer_body required visits context exprs in
      rw (wide_stated 65 78 body rest, wide_word 65 78 body rest, wide_framed 65 78 body, wide_fields 65 78 body, body_back)

short : (m : Module) (report : ℕ) (bytes : List ℕ) (q : Request) → Bytes bytes → read_request m report bytes ≡ reading.accepted q → length bytes ≤ 4 + absent
short m report bytes q h e =
    elim (dec_lt (4 + absent) (length bytes)) [
      | yes l ↦ let no = overlong m report bytes h l in let z : ◌≡◌ {A = ℕ} 0 1 = cc in absurd (omega arith)
      | no l ↦ omega arith
    ]

module _ (s : List ℕ) (m : Module) (read : file.read_module s ≡ file.accepted m) (totals bytes : List ℕ) (pruner : Pruner) (q : Request) (report : ℕ) (are : Bytes bytes)
    (before : read_pruner m totals ≡ reading.accepted pruner) (asks : read_request m report bytes ≡ reading.accepted q) where
  -- what the walk is entered with: the base context and the totals
  entered-few : count 0 (entered m q.function (base_of q) (begun pruner)) ≤ 3 * max_pieces
  unfolding entered begun count sum_of
  entered-few =
      omega (
        arith,
        base_few (length m.functions) (length m.globals) report bytes q asks (short m report bytes q are asks),
        record_pieces-replicate (length (function_at m q.function).expressions),
        read_few m totals pruner before,
      )

  -- what it leaves
  walk_owns : ends.Ends ends.Any (λ st b. count 0 st ≤ 6 * max_pieces) (walk_request m pruner q)
  unfolding walk_request
  walk_owns =
      ends.ends_then (λ st b. ended b st) (function_owns m q.function nowhere (3 * max_pieces) 0 q.globals (return_entry q.retval) (begun pruner) (omega arith) entered-few)
      (λ st b few. at_end st b (omega (arith, few)))
    where
      at_end : (st : State) (b : Bool) → count 0 st ≤ 6 * max_pieces → ends.Ends ends.Any (λ st b. count 0 st ≤ 6 * max_pieces) (ended b st)
      at_end st b few = unfold ended in go (ltb max_pieces (end_count st))
        where
          go : (over : Bool) → ends.Ends ends.Any (λ st b. count 0 st ≤ 6 * max_pieces) (cond over (halt 16 nowhere) (went st b))
          go true = ends.stops tt
          go false = ends.ends few

  module _ {st : State} {b : Bool} (e : walk_request m pruner q ≡ went st b) where
    abbrev report_left : Report
    report_left = report_of m q.function st b

    proper : ProperState m 0 q.function st
    proper = walk_proper m (module_sound s m read) pruner q st b (read_fine m totals pruner before) (sound.asked m report bytes q asks).fine e

    answer_few : length (write_answer b st.visits st.context st.exprs) ≤ min_answer
    unfolding count sum_of
    answer_few =
        answer_fits b st.visits st.context st.exprs (omega (arith, ends.ended walk_owns e))
        (omega (arith, proper.exprs.long, (function_valid m (module_valid s m read) q.function (sound.asked m report bytes q asks).function).parts.few_expressions))

    pub report_back : (rest : List ℕ) → read_answer (length (function_at m q.function).expressions) (write_answer b st.visits st.context st.exprs ++ rest) ≡ some (answered_of report_left)
    unfolding report_of
    report_back rest =
        rw (← proper.exprs.long)
        (read_answer-write_answer b st.visits st.context st.exprs (context_filed m q.function st.context proper.context (module_valid s m read)) proper.exprs.each rest)

-- A request that was answered by n visits: what the bytes mean, its report by definition, and that a caller reads the answer's buffer as that report.
pub record Reported (s bytes : List ℕ) (lent : Lent) (n : ℕ) : Type 0 where
  pub program : Module
  pub asks : Request
  pub before : Pruner
  pub report : Report
  pub module_is : file.read_module s ≡ file.accepted program
  pub request_is : read_request program (length lent.report) bytes ≡ reading.accepted asks
  pub pruner_is : read_pruner program lent.pruner ≡ reading.accepted before
  pub report_is : (request program before asks).0 ≡ reported report
  pub visits_are : report.visits ≡ n
  pub answer_is : read_answer (length (function_at program asks.function).expressions) (serve s bytes lent).1.answer ≡ some (answered_of report)

-- by what the reply leaves possible, from the walk outwards
module _ (s bytes : List ℕ) (lent : Lent) (n : ℕ) (are : Bytes bytes) where
  module _ (m : Module) (read : file.read_module s ≡ file.accepted m) (q : Request) (asks : read_request m (length lent.report) bytes ≡ reading.accepted q) where
    module _ (pruner : Pruner) (h : Holds m pruner (length lent.report) lent) where
      served : serve s bytes lent ≡ finish lent (request m pruner q)
      served = (one.served s m read (length lent.report) lent pruner h bytes).is ∙ rw asks

      by_walk : (x : Out Bool) → walk_request m pruner q ≡ x → (finish lent (answered m pruner q.function x)).0 ≡ visited n → Reported s bytes lent n
      unfolding finish request report_of
      by_walk (halt k at) e v = let z : ◌≡◌ {A = ℕ} 0 1 = cc in absurd (omega arith)
      by_walk (went st b) e v =
          let written = write_answer b st.visits st.context st.exprs in
          let is : request m pruner q ≡ answered m pruner q.function (went st b) = ap (answered m pruner q.function) e in
          let left : (serve s bytes lent).1.answer ≡ written ++ drop (0 + length written) lent.answer =
          ap (λ (x : Reply × Lent). x.1.answer) (served ∙ ap (finish lent) is)
          ∙ sets-eq written lent.answer 0 (omega (arith, h.answer_long, answer_few s m read lent.pruner bytes pruner q (length lent.report) are h.totals asks e)) in
          record {
            program = m;
            asks = q;
            before = pruner;
            report = report_of m q.function st b;
            module_is = read;
            request_is = asks;
            pruner_is = h.totals;
            report_is = ap (λ (x : Answer × Pruner). x.0) is;
            visits_are = cc;
            answer_is = rw left (report_back s m read lent.pruner bytes pruner q (length lent.report) are h.totals asks e _);
          }

    by_answer : (pruner : Pruner) → read_pruner m lent.pruner ≡ reading.accepted pruner → min_pruner ≤ length lent.pruner → (b : Bool) → ltb (length lent.answer) min_answer ≡ b
        → (cond b (refused_at 20 nowhere, lent) (finish lent (request m pruner q))).0 ≡ visited n → Reported s bytes lent n
    by_answer pruner totals long true e v = let z : ◌≡◌ {A = ℕ} 0 1 = cc in absurd (omega arith)
    by_answer pruner totals long false e v =
        by_walk pruner (record { totals = totals; pruner_long = long; report_is = refl; answer_long = ltb-false (length lent.answer) min_answer e }) (walk_request m pruner q) refl (unfold request in v)

    by_totals : min_pruner ≤ length lent.pruner → (x : reading.Answer Pruner) → read_pruner m lent.pruner ≡ x → (on_pruner m lent q x).0 ≡ visited n → Reported s bytes lent n
    unfolding on_pruner
    by_totals long (reading.refused k) e v = let z : ◌≡◌ {A = ℕ} 0 1 = cc in absurd (omega arith)
    by_totals long (reading.accepted pruner) e v = by_answer pruner e long (ltb (length lent.answer) min_answer) refl v

    by_length : (b : Bool) → ltb (length lent.pruner) min_pruner ≡ b → (on_pruner m lent q (cond b (reading.refused 19) (read_pruner m lent.pruner))).0 ≡ visited n → Reported s bytes lent n
    unfolding on_pruner
    by_length true e v = let z : ◌≡◌ {A = ℕ} 0 1 = cc in absurd (omega arith)
    by_length false e v = by_totals (ltb-false (length lent.pruner) min_pruner e) (read_pruner m lent.pruner) refl v

  by_request : (m : Module) → file.read_module s ≡ file.accepted m → (a : reading.Answer Request) → read_request m (length lent.report) bytes ≡ a → (on_request m lent a).0 ≡ visited n → Reported s bytes lent n
  unfolding on_request lent_pruner
  by_request m read (reading.refused k) e v = let z : ◌≡◌ {A = ℕ} 0 1 = cc in absurd (omega arith)
  by_request m read (reading.accepted q) e v = by_length m read q e (ltb (length lent.pruner) min_pruner) refl v

  by_module : (a : file.Answer) → file.read_module s ≡ a → (on_module a bytes lent).0 ≡ visited n → Reported s bytes lent n
  unfolding on_module serve_read
  by_module (file.refused k) e v = let z : ◌≡◌ {A = ℕ} 0 1 = cc in absurd (omega arith)
  by_module (file.accepted m) e v = by_request m e (read_request m (length lent.report) bytes) refl v

  pub answer_back : (serve s bytes lent).0 ≡ visited n → Reported s bytes lent n
  answer_back v = by_module (file.read_module s) refl (unfold serve in v)
