-- A request over totals that were read leaves totals that can be written and are read back: they are fine, and 16 at the request's end says how many pieces there are.
use Prim.Native.Nat.{ℕ, ◌≤◌}
use native.Mathlib.Omega.{arith}
use mathlib.Core.Path.{◌≡◌, refl}
use mathlib.Core.Bool.{Bool, true, false, cond}
use mathlib.Core.List.{List, [], ◌∷◌, ◌++◌}
use lib.Dec.{ltb}
use borrow.Author.Tests.{ltb-false}
use lib.ListN.{length}
use Rattle.field.specs.Limits.{max_pieces}
use Rattle.module.specs.Module.{FunctionHandle, Module}
use Rattle.module.specs.File as file
use Rattle.context.specs.RequiredContext.{return_entry}
use Rattle.request.specs.Fields.{accepted}
use Rattle.request.specs.Request.{Request}
use Rattle.walk.specs.State.{State, nowhere, Out, went, halt, ◌>>=◌}
use Rattle.walk.specs.Function.{add_function}
use Rattle.walk.specs.Requests as requests
use Rattle.walk.specs.Requests.{Pruner, Report, reported, end_count, ended, begun, walk_request, answered, request}
use Rattle.walk.specs.Proper.{FinePruner}
use Rattle.sound.specs.Asked.{WasRead}
use Rattle.sound.proofs.Walks.{module_valid, requests-fine}
use Rattle.pruner.specs.Form.{min_pruner, pruner_pieces, write_pruner, read_pruner}
use Rattle.pruner.proofs.Back.{read_pruner-write_pruner}
use Rattle.pruner.proofs.Read.{read_fine}
use Rattle.pruner.proofs.Room.{pruner_long}

-- 16 at the request's end
abbrev OnWent : (State → Type 0) → Out Bool → Type 0
OnWent P (went st r) = P st
OnWent P (halt n at) = Unit {0}

ended-few : (x : Out Bool) → OnWent (λ st. end_count st ≤ max_pieces) (x >>= λ st r. ended r st)
unfolding ended
ended-few (halt n at) = tt
ended-few (went st r) = go (ltb max_pieces (end_count st)) refl
  where
    go : (b : Bool) → ltb max_pieces (end_count st) ≡ b → OnWent (λ st. end_count st ≤ max_pieces) (cond b (halt 16 nowhere) (went st r))
    go true e = tt
    go false e = ltb-false max_pieces (end_count st) e

walk_few : (m : Module) (pruner : Pruner) (q : Request) → OnWent (λ st. end_count st ≤ max_pieces) (walk_request m pruner q)
unfolding walk_request
walk_few m pruner q = ended-few (add_function m q.function nowhere 0 q.globals (return_entry q.retval) (begun pruner))

answered-few : (m : Module) (pruner : Pruner) (f : FunctionHandle) (x : Out Bool) (r : Report) → OnWent (λ st. end_count st ≤ max_pieces) x
    → (answered m pruner f x).0 ≡ reported r → pruner_pieces (answered m pruner f x).1 ≤ max_pieces
unfolding end_count
answered-few m pruner f (went st b) r h e = h
answered-few m pruner f (halt n at) r h e = let z : ◌≡◌ {A = ℕ} 0 1 = cc in absurd (omega arith)

-- a report leaves totals that 16 allows
pub reported-few : (m : Module) (pruner : Pruner) (q : Request) (r : Report) → (request m pruner q).0 ≡ reported r → pruner_pieces (request m pruner q).1 ≤ max_pieces
unfolding request
reported-few m pruner q r e = answered-few m pruner q.function (walk_request m pruner q) r (walk_few m pruner q) e

module _ (bytes : List ℕ) (m : Module) (read : file.read_module bytes ≡ file.accepted m) where
  left_fine : (pruner : Pruner) (q : Request) → FinePruner m pruner → WasRead m q → FinePruner m (request m pruner q).1
  unfolding requests.requests
  left_fine pruner q h hq = requests-fine bytes m read pruner (q ∷ []) h (hq, tt)

  -- Any buffer s that is accepted, and any request over it that is reported: the totals that it leaves fit the least buffer, and the next request reads them.
  module _ (s : List ℕ) (pruner : Pruner) (q : Request) (r : Report) (before : read_pruner m s ≡ accepted pruner) (asked : WasRead m q)
      (answer : (request m pruner q).0 ≡ reported r) where
    abbrev totals : Pruner
    totals = (request m pruner q).1

    fine : FinePruner m totals
    fine = left_fine pruner q (read_fine m s pruner before) asked

    pub request_fits : length (write_pruner totals) ≤ min_pruner
    request_fits = pruner_long m bytes read totals fine (reported-few m pruner q r answer)

    pub request_back : (rest : List ℕ) → read_pruner m (write_pruner totals ++ rest) ≡ accepted totals
    request_back rest = read_pruner-write_pruner m (module_valid bytes m read) totals rest fine request_fits (reported-few m pruner q r answer)
