-- Which numbers a reply has: of a module that was read, a refusal has one of 1 to 20, and there are no more visits than 17 allows; so the word of a reply tells its number, by division by 2^32,
-- and is below 2^32 where the request was accepted.
use Prim.Native.Nat.{ℕ, ◌/◌, ◌<◌, ◌≤◌}
use native.Mathlib.Omega.{arith}
use mathlib.Core.Path.{◌≡◌, refl}
use mathlib.Core.Bool.{Bool, true, false, cond}
use mathlib.Core.List.{List}
use mathlib.Core.Option.{Option, some, none as nothing}
use lib.Dec.{ltb}
use lib.ListN.{length}
use Rattle.field.specs.Limits.{max_visits, min_report}
use Rattle.module.specs.Module.{Module}
use Rattle.request.specs.Fields as reading
use Rattle.request.specs.Request.{Request, request_of, known, judge, read_request}
use Rattle.walk.specs.State.{Place, at_expression, at_statement, nowhere}
use Rattle.walk.specs.Requests.{Pruner, Answer, reported, refused, request}
use Rattle.walk.proofs.Ends.{told_range}
use Rattle.walk.proofs.Numbers.{Heard, request-heard}
use Rattle.pruner.specs.Form.{min_pruner, read_pruner}
use Rattle.requests.specs.Answer.{min_answer}
use Rattle.requests.specs.Serve.{Lent, Reply, visited, refused_at, finish, lent_pruner, on_pruner, on_request, serve_read, place_word, reply_word}
use Rattle.requests.proofs.Serving.{Only19, either_19, pruner_19}

-- a reply within its numbers
abbrev pub Numbered : Reply → Type 0
Numbered (visited n) = n ≤ max_visits
Numbered (refused_at n at) = (1 ≤ n) × (n ≤ 20)

-- the number of a refusal, and 0 where there is none
abbrev pub refusal_of : Reply → ℕ
refusal_of (visited n) = 0
refusal_of (refused_at n at) = n

pub place_small : (at : Place) → place_word at < 4294967296
unfolding place_word
place_small nowhere = omega arith
place_small (at_expression f e) = omega arith
place_small (at_statement f s) = omega arith

-- what a caller takes for the refusal is the refusal
pub word_refusal : (r : Reply) → Numbered r → reply_word r / 4294967296 ≡ refusal_of r
unfolding reply_word
word_refusal (visited n) h = omega (arith, h)
word_refusal (refused_at n at) h = omega (arith, h.1, place_small at)

-- a request, refused by 11, 12 or 18
abbrev Within : {A : Type 0} → reading.Answer A → Type 0
Within (reading.refused n) = (1 ≤ n) × (n ≤ 20)
Within (reading.accepted a) = Unit {0}

judged : (functions globals report : ℕ) (o : Option Request) → Within (judge functions globals report o)
unfolding judge
judged functions globals report nothing = (omega arith, omega arith)
judged functions globals report (some q) = go (known functions globals q) (ltb report min_report)
  where
    go : (a b : Bool) → Within (cond a (cond b (reading.refused 18) (reading.accepted q)) (reading.refused 11))
    go true true = (omega arith, omega arith)
    go true false = tt
    go false b = (omega arith, omega arith)

module _ (m : Module) (lent : Lent) where
  finished : (x : Answer × Pruner) → Heard x.0 → Numbered (finish lent x).0
  unfolding finish
  finished (reported r, totals) h = h
  finished (refused n at, totals) h = let z = told_range n h in (omega (arith, z.0), omega (arith, z.1))

  on-pruner : (q : Request) (x : reading.Answer Pruner) → Only19 x → Numbered (on_pruner m lent q x).0
  unfolding on_pruner
  on-pruner q (reading.refused n) h = (omega (arith, h), omega (arith, h))
  on-pruner q (reading.accepted old) h = go (ltb (length lent.answer) min_answer)
    where
      go : (b : Bool) → Numbered (cond b (refused_at 20 nowhere, lent) (finish lent (request m old q))).0
      go true = (omega arith, omega arith)
      go false = finished (request m old q) (request-heard m old q)

  on-request : (x : reading.Answer Request) → Within x → Numbered (on_request m lent x).0
  unfolding on_request lent_pruner
  on-request (reading.refused n) h = h
  on-request (reading.accepted q) h =
      on-pruner q (lent_pruner m lent.pruner) (either_19 (ltb (length lent.pruner) min_pruner) (reading.refused 19) (read_pruner m lent.pruner) refl (pruner_19 m lent.pruner))

  pub read_numbered : (bytes : List ℕ) → Numbered (serve_read m bytes lent).0
  unfolding serve_read
  read_numbered bytes = on-request (read_request m (length lent.report) bytes) (judged (length m.functions) (length m.globals) (length lent.report) (request_of bytes))
