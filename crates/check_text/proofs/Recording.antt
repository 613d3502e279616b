-- The record of a context: it has room, and stands at the front of its buffer.
use Prim.Native.Nat.{ℕ, ◌+◌, ◌*◌, ◌<◌, ◌≤◌, ◌^◌}
use native.Mathlib.Omega.{arith}
use mathlib.Core.Path.{◌≡◌, ◌∙◌, ap}
use mathlib.Core.List.{List}
use lib.ListN.{length, take, drop}
use lib.Seq.{sets, sets-eq, length-sets, take-append_seam}
use Rattle.field.specs.Limits.{max_pieces}
use Rattle.context.specs.RequiredContext.{RequiredContext, pieces}
use Rattle.context.specs.Contexts.{context_of, HasContext}
use Rattle.request.specs.Context.{write_context}
use Rattle.request.proofs.Room.{context_long}
use Rattle.memory.specs.Memory.{read, context_at, Memory}
use Rattle.memory.specs.Stretches.{pieces_at}
use Rattle.lines.proofs.ReportText.{context_there}
use Rattle.check_text.specs.Checked.{max_record, Recorded}

fits : (c : RequiredContext) {n : ℕ} → pieces c ≤ 2 * max_pieces → max_record ≤ n → (length (write_context c) ≤ n) × (length (write_context c) < 2 ^ 32)
fits c few room = let long = context_long c in (omega arith, omega arith)

recorded : (c : RequiredContext) (o : List ℕ) {p : List ℕ} {n : ℕ} → length (write_context c) ≤ length o → p ≡ sets o 0 (write_context c) → n ≡ length (write_context c) → Recorded p n c
recorded c o {p} {n} room is long =
    let same : length p ≡ length o = ap length is ∙ length-sets o 0 (write_context c) in
    record {
      inside = omega arith;
      is =
          rw long
          (ap (take (length (write_context c))) (is ∙ sets-eq (write_context c) o 0 (omega arith))
          ∙ take-append_seam (write_context c) (drop (0 + length (write_context c)) o));
    }

-- in the four slots from k on
module _ {s rs : List ℕ} (M : Memory s rs) (k : ℕ) (high : k + 4 ≤ length rs) where
  same_context : context_at (read s rs) k ≡ context_of s (pieces_at rs k)
  same_context = context_there s rs k high

  pub has_record : HasContext s (pieces_at rs k)
  has_record = record {
    globals = M.below k (omega arith);
    locals = M.below (k + 1) (omega arith);
    args = M.below (k + 2) (omega arith);
    retval = M.below (k + 3) (omega arith);
  }

  module _ (few : pieces (context_at (read s rs) k) ≤ 2 * max_pieces) where
    pub record_fits : {n : ℕ} → max_record ≤ n → (length (write_context (context_of s (pieces_at rs k))) ≤ n) × (length (write_context (context_of s (pieces_at rs k))) < 2 ^ 32)
    record_fits room = rw same_context at (fits (context_at (read s rs) k) few room)

    pub record_written : (o : List ℕ) {p : List ℕ} {n : ℕ} → max_record ≤ length o → (p ≡ sets o 0 (write_context (context_of s (pieces_at rs k)))) × (n ≡ length (write_context (context_of s (pieces_at rs k)))) → Recorded p n (context_at (read s rs) k)
    record_written o room w = rw same_context (recorded (context_of s (pieces_at rs k)) o (record_fits room).0 w.0 w.1)
