-- Where a file and a request on it are read, and the buffers are long enough, with nothing asked yet: what is served is what the walk answers with a fresh pruner.
use Prim.Native.Nat.{ℕ, ◌≤◌}
use native.Mathlib.Omega.{arith}
use mathlib.Core.Path.{◌≡◌}
use mathlib.Core.Bool.{true}
use mathlib.Core.List.{List}
use mathlib.Core.Option.{some}
use lib.ListN.{length, get_or}
use borrow.Author.Tests.{le-ltb, le-leb, eq-eqb}
use Rattle.field.specs.Limits.{min_report}
use Rattle.module.specs.Module.{Module}
use Rattle.module.specs.File as file
use Rattle.request.specs.Fields as reading
use Rattle.request.specs.Request.{Request, request_of, known, judge, read_request}
use Rattle.walk.specs.Requests.{fresh, request}
use Rattle.pruner.specs.Form.{min_pruner, is_fresh, read_pruner}
use Rattle.requests.specs.Answer.{min_answer}
use Rattle.requests.specs.Serve.{Lent, finish, lent_pruner, on_pruner, on_request, serve_read, on_module, serve}
use Rattle.cases.specs.Cases.{Ready}

asked : (m : Module) (q : Request) (bytes : List ℕ) (report : ℕ) → request_of bytes ≡ some q → known (length m.functions) (length m.globals) q ≡ true
    → min_report ≤ report → read_request m report bytes ≡ reading.accepted q
unfolding judge
asked m q bytes report means there long = rw (means, there, le-ltb report min_report long)

nothing_asked : (m : Module) (lent : Lent) → Ready lent → lent_pruner m lent.pruner ≡ reading.accepted (fresh m)
unfolding lent_pruner read_pruner is_fresh
nothing_asked m lent ready =
    rw (le-ltb (length lent.pruner) min_pruner ready.pruner_long, le-leb 2 (length lent.pruner) (omega arith), eq-eqb (get_or lent.pruner 0 0) 0 ready.first_zero, eq-eqb (get_or lent.pruner 1 0) 0 ready.second_zero)

pub served : (s bytes : List ℕ) (m : Module) (q : Request) (lent : Lent) → file.read_module s ≡ file.accepted m → request_of bytes ≡ some q
    → known (length m.functions) (length m.globals) q ≡ true → Ready lent → serve s bytes lent ≡ finish lent (request m (fresh m) q)
unfolding serve on_module serve_read on_request on_pruner
served s bytes m q lent is means there ready =
    rw (is, asked m q bytes (length lent.report) means there ready.report_long, nothing_asked m lent ready, le-ltb (length lent.answer) min_answer ready.answer_long)
