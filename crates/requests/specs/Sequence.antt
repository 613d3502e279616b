-- A list of requests, of any bytes, in two ways: through the same lent buffers, each taking what the one before has left; and by the walk's definition over one pruner, each answer then written into
-- the buffers. Both give, for each request, its reply and the three buffers as it leaves them. (proofs/Sequence: they are the same.)
use Rattle.std.specs.Prelude.{ℕ, List, [], ◌∷◌}
use Rattle.module.specs.Module.{Module}
use Rattle.request.specs.Fields as reading
use Rattle.request.specs.Request.{Request, read_request}
use Rattle.walk.specs.State.{nowhere}
use Rattle.walk.specs.Requests.{Pruner, Answer, refused, request}
use Rattle.requests.specs.Serve.{Reply, Lent, finish, serve}

-- through the buffers
unfoldable pub serve_all : (file : List ℕ) → List (List ℕ) → Lent → List (Reply × Lent)
serve_all s [] lent = []
serve_all s (bytes ∷ rest) lent = let first = serve s bytes lent in first ∷ serve_all s rest first.1

-- one request over a pruner: its report or refusal, and the totals that it leaves. One that is malformed, or asks for what is not there, changes nothing.
abbrev pub answer_to : Module → Pruner → reading.Answer Request → Answer × Pruner
answer_to m pruner (reading.refused n) = (refused n nowhere, pruner)
answer_to m pruner (reading.accepted q) = request m pruner q

-- over one pruner, where the report buffer has this length (18)
abbrev pub ask_all : Module → (report : ℕ) → Pruner → List (List ℕ) → List (Answer × Pruner)
ask_all m report pruner [] = []
ask_all m report pruner (bytes ∷ rest) =
    let first = answer_to m pruner (read_request m report bytes) in
    first ∷ ask_all m report first.1 rest

-- each answer as a reply, with totals, marks and answer written; a refusal leaves the buffers as they were
abbrev pub finish_all : Lent → List (Answer × Pruner) → List (Reply × Lent)
finish_all lent [] = []
finish_all lent (answer ∷ rest) = let first = finish lent answer in first ∷ finish_all first.1 rest
