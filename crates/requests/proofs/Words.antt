-- The word of a reply loses nothing: a refusal's place is nowhere or in the module that was read (proofs/Places), so its numbers are below the limits, and the word's fields have room for them; and a
-- refusal has one of 1 to 20 (proofs/Numbers). So the reply is read back from its word.
use Prim.Native.Nat.{ℕ, ◌+◌, ◌*◌, ◌/◌, ◌%◌, ◌<◌}
use native.Mathlib.Omega.{arith}
use mathlib.Core.Path.{◌≡◌, refl}
use mathlib.Core.Bool.{Bool, true, false, cond}
use mathlib.Core.List.{List}
use lib.Dec.{ltb}
use lib.ListN.{length}
use borrow.Author.Tests.{lt-ltb, le-ltb}
use Rattle.module.specs.Module.{Module}
use Rattle.request.specs.Fields as reading
use Rattle.request.specs.Request.{Request, read_request}
use Rattle.valid.specs.Valid.{Valid}
use Rattle.walk.specs.State.{Place, at_expression, at_statement, nowhere}
use Rattle.walk.specs.Requests.{Pruner, Answer, reported, refused, request}
use Rattle.sound.proofs.There.{function_valid}
use Rattle.requests.specs.Answer.{min_answer}
use Rattle.requests.specs.Serve.{Lent, Reply, visited, refused_at, finish, lent_pruner, on_pruner, on_request, serve_read, place_word, place_of_word, reply_word, reply_of_word}
use Rattle.requests.proofs.Falls.{InModule}
use Rattle.requests.proofs.Places.{OnRefused, request-falls}
use Rattle.requests.proofs.Numbers.{Numbered, place_small}

-- a place whose numbers have room in a word
abbrev pub Narrow : Place → Type 0
Narrow nowhere = Unit {0}
Narrow (at_expression f e) = (f < 32768) × (e < 32768)
Narrow (at_statement f s) = (f < 32768) × (s < 32768)

pub in_narrow : (m : Module) → Valid m → (at : Place) → InModule m at → Narrow at
in_narrow m v nowhere h = tt
in_narrow m v (at_expression f e) h = (omega (arith, h.0, v.few_functions), omega (arith, h.1, (function_valid m v f h.0).parts.few_expressions))
in_narrow m v (at_statement f s) h = (omega (arith, h.0, v.few_functions), omega (arith, h.1, (function_valid m v f h.0).parts.few_statements))

module _ (f n : ℕ) (few : f < 32768) (low : n < 32768) where
  -- a word of the two numbers, with the bit of their kind above
  module _ (bit : ℕ) where
    function_back : (32768 * 32768 * bit + (32768 * (f % 32768) + n % 32768)) / 32768 % 32768 ≡ f
    function_back = omega arith

    number_back : (32768 * 32768 * bit + (32768 * (f % 32768) + n % 32768)) % 32768 ≡ n
    number_back = omega arith

pub place_back : (at : Place) → Narrow at → place_of_word (place_word at) ≡ at
unfolding place_of_word place_word
place_back nowhere h = refl
place_back (at_expression f e) h =
    let w = 1073741824 + (32768 * (f % 32768) + e % 32768) in
    rw (le-ltb w 1073741824 (omega arith), lt-ltb w 2147483648 (omega (arith, h.0, h.1)), function_back f e h.0 h.1 1, number_back f e h.0 h.1 1)
place_back (at_statement f s) h =
    let w = 2147483648 + (32768 * (f % 32768) + s % 32768) in
    rw (le-ltb w 1073741824 (omega arith), le-ltb w 2147483648 (omega arith), function_back f s h.0 h.1 2, number_back f s h.0 h.1 2)

-- a reply whose place has room
abbrev pub NarrowReply : Reply → Type 0
NarrowReply (visited n) = Unit {0}
NarrowReply (refused_at n at) = Narrow at

pub reply_back : (r : Reply) → Numbered r → NarrowReply r → reply_of_word (reply_word r) ≡ r
unfolding reply_of_word reply_word
reply_back (visited n) h k = rw (lt-ltb n 4294967296 (omega (arith, h)))
reply_back (refused_at n at) h k =
    let w = 4294967296 * (n % 65536) + place_word at in
    let number : w / 4294967296 ≡ n = omega (arith, h.0, h.1, place_small at) in
    let rest : w % 4294967296 ≡ place_word at = omega (arith, h.0, h.1, place_small at) in
    rw (le-ltb w 4294967296 (omega (arith, h.0, h.1)), number, rest, place_back at k)

-- the place of a reply's refusal
abbrev pub ReplyIn : Module → Reply → Type 0
ReplyIn m (visited n) = Unit {0}
ReplyIn m (refused_at n at) = InModule m at

module _ (m : Module) (v : Valid m) (lent : Lent) where
  finished_in : (x : Answer × Pruner) → OnRefused (InModule m) x.0 → ReplyIn m (finish lent x).0
  unfolding finish
  finished_in (reported r, totals) h = tt
  finished_in (refused n at, totals) h = h

  on-pruner : (q : Request) (x : reading.Answer Pruner) → ReplyIn m (on_pruner m lent q x).0
  unfolding on_pruner
  on-pruner q (reading.refused n) = tt
  on-pruner q (reading.accepted old) = go (ltb (length lent.answer) min_answer)
    where
      go : (b : Bool) → ReplyIn m (cond b (refused_at 20 nowhere, lent) (finish lent (request m old q))).0
      go true = tt
      go false = finished_in (request m old q) (request-falls m v old q)

  on-request : (x : reading.Answer Request) → ReplyIn m (on_request m lent x).0
  unfolding on_request
  on-request (reading.refused n) = tt
  on-request (reading.accepted q) = on-pruner q (lent_pruner m lent.pruner)

  -- Whatever is asked of a valid module, in whatever buffers: a refusal's place is nowhere, or the module's.
  pub read_in : (bytes : List ℕ) → ReplyIn m (serve_read m bytes lent).0
  unfolding serve_read
  read_in bytes = on-request (read_request m (length lent.report) bytes)
