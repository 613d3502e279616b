-- The answer's record as the code writes it: the body field by field, then the header before it, which is the same as the header first. And its length: three fields for each piece, one
-- for each expression, and a few more.
use Prim.Native.Nat.{ℕ, ◌+◌, ◌-◌, ◌*◌, ◌/◌, ◌%◌, ◌<◌, ◌≤◌, ◌^◌}
use native.Mathlib.Omega.{arith}
use mathlib.Core.Path.{◌≡◌, refl, ◌∙◌}
use mathlib.Core.Bool.{Bool, true, false}
use mir.Val.{bool_byte}
use mathlib.Core.List.{List, [], ◌∷◌, ◌++◌}
use lib.ListN.{length, set, length-append}
use lib.Seq.{sets}
use Rattle.field.specs.Limits.{max_expressions, max_pieces}
use Rattle.field.specs.Field.{set_field, set_word}
use Rattle.module.specs.Module.{FunctionHandle}
use Rattle.module.specs.Tables.{row_at, expressions_from}
use Rattle.context.specs.RequiredContext.{RequiredContext, pieces}
use Rattle.request.specs.Fields.{bytes_of}
use Rattle.request.specs.Context.{write_context_body}
use Rattle.request.specs.declared.writer.Writer.{Writer}
use Rattle.request.specs.Written.{Fits, Written, HasRoom, Writes}
use Rattle.request.proofs.Bytes.{length-bytes_of}
use Rattle.request.proofs.Writing.{writes_then, written_long, room_then, room_first}
use Rattle.request.proofs.ContextBytes.{before_body}
use Rattle.walk.specs.State.{Records, record_pieces}
use Rattle.walk.specs.StatementReq.{mark}
use Rattle.memory.specs.Layout.{exprs_slot}
use Rattle.memory.specs.Memory.{read, records_of, context_at}
use Rattle.leave.specs.Leave.{RecordsAt}
use Rattle.leave.specs.declared.leave.Stretch.{Stretch}
use Rattle.pruner.specs.Form.{write_records}
use Rattle.pruner.proofs.Room.{lists_long, records_long}
use Rattle.requests.specs.Answer.{min_answer, answer_body, write_answer, answer_in}

abbrev verdict : Bool → ℕ → List ℕ
verdict required visits = mark required ∷ (visits % 65536 ∷ (visits / 65536 ∷ []))

-- whether it is required, as the code has it
flagged : (b : Bool) → bool_byte b ≡ mark b
unfolding mark
flagged true = refl
flagged false = refl

pub verdict_writes : {a b c : Writer} {k : ℕ} (required : Bool) (visits : ℕ) → k ≡ bool_byte required → Writes a b (k ∷ []) → Writes b c (visits % 65536 ∷ (visits / 65536 ∷ [])) → Writes a c (verdict required visits)
verdict_writes required visits e v w =
    writes_then (mark required ∷ []) (visits % 65536 ∷ (visits / 65536 ∷ [])) (rw (e ∙ flagged required) at v) w

pub visits_fit : {a b : Writer} {k : ℕ} (required : Bool) (visits : ℕ) → HasRoom a (verdict required visits) → Writes a b (k ∷ []) → HasRoom b (visits % 65536 ∷ (visits / 65536 ∷ []))
visits_fit {k = k} required visits room v = room_then (k ∷ []) (visits % 65536 ∷ (visits / 65536 ∷ [])) v room

answer_long : (required : Bool) (visits : ℕ) (c : RequiredContext) (es : Records) → length (write_answer required visits c es) ≡ 6 + 2 * length (answer_body required visits c es)
unfolding write_answer bytes_of
answer_long required visits c es = omega (arith, length-bytes_of (answer_body required visits c es))

module _ (t s rs o : List ℕ) (f : FunctionHandle) (at : ℕ) (required : Bool) (visits : ℕ) (room : length (answer_in t s rs f at required visits) ≤ length o) where
  abbrev lists : List ℕ
  lists = write_context_body (context_at (read s rs) at)

  abbrev records : List ℕ
  records = write_records (records_of (read s rs) (exprs_slot + expressions_from (row_at t f)) (row_at t f).expressions)

  abbrev body : List ℕ
  body = verdict required visits ++ (lists ++ records)

  long : length (answer_in t s rs f at required visits) ≡ 6 + 2 * length body
  unfolding answer_body
  long = answer_long required visits _ _

  body_room : Fits o 6 body
  body_room = omega (arith, long)

  pub verdict_room : Fits o 6 (verdict required visits)
  verdict_room = omega (arith, body_room, length-append (verdict required visits) (lists ++ records))

  module _ {a b : Writer} (o_is : a.out.now ≡ o) (at_is : a.at ≡ 6) (first : Writes a b (verdict required visits)) where
    after_verdict : HasRoom b (lists ++ records)
    after_verdict = room_then (verdict required visits) (lists ++ records) first (rw (o_is, at_is) body_room)

    pub lists_fit : HasRoom b lists
    lists_fit = room_first b lists records after_verdict

    module _ {c : Writer} (second : Writes b c lists) {own : Stretch} (at_own : RecordsAt t f own) where
      same : records_of (read s rs) (exprs_slot + own.from) own.n ≡ records_of (read s rs) (exprs_slot + expressions_from (row_at t f)) (row_at t f).expressions
      same = rw (at_own.from, at_own.n)

      pub records_fit : HasRoom c (write_records (records_of (read s rs) (exprs_slot + own.from) own.n))
      records_fit = rw same (room_then lists records second after_verdict)

      module _ {d : Writer} (third : Writes c d (write_records (records_of (read s rs) (exprs_slot + own.from) own.n))) where
        last : Writes c d records
        last = rw same at third

        body_written : Written o d.out.now 6 body d.at
        body_written = rw (o_is, at_is) at (writes_then (verdict required visits) (lists ++ records) first (writes_then lists records second last)).written

        pub head_room : length (answer_in t s rs f at required visits) ≤ min_answer → (6 ≤ d.at) × (d.at ≤ length d.out.now) × (d.at < 2 ^ 32)
        head_room few =
            let end = body_written.next_is in
            let size = written_long body_written in
            (omega (arith, end), omega (arith, end, size, body_room), omega (arith, end, long, few))

        pub answer_written : {w : List ℕ} → w ≡ set_word (set (set d.out.now 0 65) 1 78) 2 (d.at - 6) → w ≡ sets o 0 (answer_in t s rs f at required visits)
        unfolding write_answer answer_body set_word set_field bytes_of
        answer_written {w} e =
            let stated : d.at - 6 ≡ 2 * length body = omega (arith, body_written.next_is) in
            e ∙ rw (stated, body_written.is) (before_body o (bytes_of body) _ _ _ _ _ _)

-- the most that an answer can have: a context and records of six times the pieces that 16 allows, and a field for each expression
pub answer_fits : (required : Bool) (visits : ℕ) (c : RequiredContext) (es : Records) → pieces c + record_pieces es ≤ 6 * max_pieces → length es ≤ max_expressions
    → length (write_answer required visits c es) ≤ min_answer
unfolding answer_body
answer_fits required visits c es few many =
    omega (
      arith,
      answer_long required visits c es,
      length-append (verdict required visits) (write_context_body c ++ write_records es),
      length-append (write_context_body c) (write_records es),
      lists_long c,
      records_long es,
    )
