-- The marks of all functions of a module that was read fit the least report buffer: there are at most two for each record.
use mathlib.Core.Path.{◌≡◌, sym, ap, ◌∙◌}
use mathlib.Core.List.{List, [], ◌∷◌}
use Prim.Native.Nat.{ℕ, suc, ◌+◌, ◌*◌, ◌<◌, ◌≤◌}
use native.Mathlib.Omega.{arith}
use lib.ListN.{length, get_or}
use Rattle.field.specs.Limits.{min_report}
use Rattle.module.specs.Module.{FunctionHandle, Function, Module}
use Rattle.module.specs.File.{accepted, read_module}
use Rattle.walk.specs.Resolve.{function_at}
use Rattle.walk.specs.Marks.{stretch}
use Rattle.walk.specs.Requests.{stretches_from}
use Rattle.sound.specs.Sizes.{records_of, total}
use Rattle.sound.proofs.Sizes.{few_records}
use Rattle.sound.proofs.Emits.{marks_of, EachFew, each_few, function_marks}

-- the marks of a function, and of all from f on
pub stretch-few : (bytes : List ℕ) (m : Module) → read_module bytes ≡ accepted m → (f : FunctionHandle) → f < length m.functions → stretch m f ≤ 2 * length (function_at m f).statements + length (function_at m f).expressions
unfolding stretch function_at
stretch-few bytes m e f l = function_marks bytes m e f _ l

stretches_few : (m : Module) (f : FunctionHandle) (fs : List Function) (d : Function) → ((i : ℕ) → i < length fs → function_at m (f + i) ≡ get_or fs i d) → EachFew fs → stretches_from m f fs ≤ 2 * total records_of fs
unfolding stretches_from stretch total
stretches_few m f [] d h few = omega arith
stretches_few m f (x ∷ fs) d h few =
    let here : f + 0 ≡ f = omega arith in
    let one : marks_of (function_at m f) ≡ marks_of x = ap (λ (k : ℕ). marks_of (function_at m k)) (sym here) ∙ ap marks_of (h 0 (omega arith)) in
    let rest = stretches_few m (suc f) fs d (λ i l. ap (function_at m) (next i) ∙ h (suc i) (omega arith)) few.1 in
    omega (arith, few.0)
  where
    next : (i : ℕ) → suc f + i ≡ f + suc i
    next i = omega arith

pub few_bytes : (bytes : List ℕ) (m : Module) → read_module bytes ≡ accepted m → stretches_from m 0 m.functions ≤ min_report
unfolding function_at
few_bytes bytes m e =
    omega (arith, few_records bytes m e, stretches_few m 0 m.functions _ (λ i l. ap (function_at m) (zero-add i)) (each_few bytes m e))
  where
    zero-add : (i : ℕ) → 0 + i ≡ i
    zero-add i = omega arith
