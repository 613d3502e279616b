-- A request from bytes to bytes: what it answers, and what is left of the three buffers that are lent. Refusals come in 01's order: of the module (1 to 5), of the request (12, 11, 18),
-- of our own buffers (19, 20), and then those of the walk. A refusal leaves every buffer as it was.
use Rattle.std.specs.Prelude.{ℕ, ◌+◌, ◌*◌, ◌/◌, ◌%◌, cond, List, ltb, length}
use Rattle.std.proofs.lemmas.List.Edits.{sets}
use Rattle.module.specs.Module.{Module}
use Rattle.module.specs.File as file
use Rattle.request.specs.Fields as reading
use Rattle.request.specs.Request.{Request, read_request}
use Rattle.walk.specs.State.{Place, at_expression, at_statement, nowhere}
use Rattle.walk.specs.Requests.{Pruner, Answer, reported, refused, request}
use Rattle.pruner.specs.Form.{min_pruner, write_pruner, read_pruner}
use Rattle.requests.specs.Answer.{min_answer, write_answer}

-- the visits, or 01's number with its place
pub data Reply : Type 0 where
  visited : ℕ → Reply
  refused_at : ℕ → Place → Reply

-- the totals, the marks of every function, and the answer
pub record Lent : Type 0 where
  pub pruner : List ℕ
  pub report : List ℕ
  pub answer : List ℕ

-- what lies past the bytes that are written stays
unfoldable pub finish : Lent → Answer × Pruner → Reply × Lent
finish lent (reported r, totals) = (
  visited r.visits,
  record {
    pruner = sets lent.pruner 0 (write_pruner totals);
    report = sets lent.report 0 r.bytes;
    answer = sets lent.answer 0 (write_answer r.required r.visits r.context r.exprs);
  },
)
finish lent (refused n at, totals) = (refused_at n at, lent)

-- 19 also of a buffer in which totals may not fit
unfoldable pub lent_pruner : Module → List ℕ → reading.Answer Pruner
lent_pruner m s = cond (ltb (length s) min_pruner) (reading.refused 19) (read_pruner m s)

unfoldable pub on_pruner : Module → Lent → Request → reading.Answer Pruner → Reply × Lent
on_pruner m lent q (reading.refused n) = (refused_at n nowhere, lent)
on_pruner m lent q (reading.accepted pruner) = cond (ltb (length lent.answer) min_answer) (refused_at 20 nowhere, lent) (finish lent (request m pruner q))

unfoldable pub on_request : Module → Lent → reading.Answer Request → Reply × Lent
on_request m lent (reading.refused n) = (refused_at n nowhere, lent)
on_request m lent (reading.accepted q) = on_pruner m lent q (lent_pruner m lent.pruner)

-- of a module that was read
unfoldable pub serve_read : Module → (bytes : List ℕ) → Lent → Reply × Lent
serve_read m bytes lent = on_request m lent (read_request m (length lent.report) bytes)

unfoldable pub on_module : file.Answer → (bytes : List ℕ) → Lent → Reply × Lent
on_module (file.refused n) bytes lent = (refused_at n nowhere, lent)
on_module (file.accepted m) bytes lent = serve_read m bytes lent

-- of any bytes
unfoldable pub serve : (file bytes : List ℕ) → Lent → Reply × Lent
serve s bytes lent = on_module (file.read_module s) bytes lent

-- A place as a number of 32 bits: 0, or 2^30 for an expression and 2^31 for a statement, with the function's number in the 15 bits from 2^15 on and the expression's or the
-- statement's in those below.
unfoldable pub place_word : Place → ℕ
place_word nowhere = 0
place_word (at_expression f e) = 1073741824 + (32768 * (f % 32768) + e % 32768)
place_word (at_statement f s) = 2147483648 + (32768 * (f % 32768) + s % 32768)

-- the place that such a number means
unfoldable pub place_of_word : ℕ → Place
place_of_word w =
    let f = w / 32768 % 32768 in
    let n = w % 32768 in
    cond (ltb w 1073741824) nowhere (cond (ltb w 2147483648) (at_expression f n) (at_statement f n))

-- A reply as a number of 64 bits: the visits, which are below 2^32, or the refusal's number in the 16 bits from 2^32 on, and its place.
unfoldable pub reply_word : Reply → ℕ
reply_word (visited n) = n
reply_word (refused_at n at) = 4294967296 * (n % 65536) + place_word at

-- the reply that such a number means
unfoldable pub reply_of_word : ℕ → Reply
reply_of_word w = cond (ltb w 4294967296) (visited w) (refused_at (w / 4294967296) (place_of_word (w % 4294967296)))
