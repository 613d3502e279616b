-- Requests that were read, and what is known of one.
use Rattle.std.specs.Prelude.{◌≡◌, List, [], ◌∷◌, ℕ, ◌<◌, ◌≤◌, length}
use Rattle.field.specs.Limits.{min_report}
use Rattle.module.specs.Module.{Module}
use Rattle.request.specs.Fields.{accepted}
use Rattle.request.specs.Request.{Request, read_request}
use Rattle.walk.specs.Proper.{FineRequest}

pub record Asked (m : Module) (report : ℕ) (q : Request) : Type 0 where
  pub function : q.function < length m.functions
  pub fine : FineRequest m q
  pub room : min_report ≤ report

-- q is what some bytes mean
pub record WasRead (m : Module) (q : Request) : Type 0 where
  pub report : ℕ
  pub bytes : List ℕ
  pub is : read_request m report bytes ≡ accepted q

abbrev pub EachRead : Module → List Request → Type 0
EachRead m [] = Unit {0}
EachRead m (q ∷ qs) = WasRead m q × EachRead m qs
