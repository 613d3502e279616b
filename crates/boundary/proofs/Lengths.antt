-- A request that is longer than it says is none: 12.
use Prim.Native.Nat.{ℕ, ◌+◌, ◌<◌}
use mathlib.Core.Path.{◌≡◌, refl}
use mathlib.Core.Bool.{Bool, true, false, cond}
use mathlib.Core.List.{List}
use lib.Dec.{ltb}
use lib.ListN.{length}
use Rattle.field.specs.Field.{field_at}
use Rattle.module.specs.Module.{Module}
use Rattle.module.specs.Operands.{bindings}
use Rattle.request.specs.Request.{request_of, judge}
use Rattle.requests.proofs.Basing.{not_request}
use Rattle.bindings.specs.ContextBindings.{refused}
use Rattle.bindings_request.specs.Boundary.{own_number, on_read, add_bytes}

both-same : {A : Type 0} (b : Bool) (x : A) → cond b x x ≡ x
both-same true x = refl
both-same false x = refl

pub long_request : (m : Module) (room b : ℕ) (s : List ℕ) → 4 + field_at s 2 < length s → add_bytes m room b s ≡ refused 12
unfolding add_bytes on_read own_number judge request_of
long_request m room b s h = rw (not_request s h) (both-same (ltb b bindings) (refused 12))
