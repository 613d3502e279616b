-- All marks of a module that was read have room in the least report: the functions' stretches, one behind the other, are the sum that crate `sound` bounds.
use mathlib.Core.Path.{◌≡◌, refl}
use mathlib.Core.List.{List, [], ◌∷◌}
use Prim.Native.Nat.{ℕ, suc, ◌+◌, ◌≤◌}
use native.Mathlib.Omega.{arith}
use lib.ListN.{length}
use Rattle.field.specs.Limits.{min_report}
use Rattle.module.specs.Module.{Function, Module}
use Rattle.module.specs.File.{accepted, read_module}
use Rattle.walk.specs.Marks.{stretch}
use Rattle.walk.specs.Requests.{stretches_from}
use Rattle.sound.proofs.Bytes.{few_bytes}
use Rattle.marks.specs.Places.{start_of}

pub start_suc : (m : Module) (f : ℕ) → start_of m (f + 1) ≡ start_of m f + stretch m f
unfolding start_of
start_suc m f = let y : f + 1 ≡ suc f = omega arith in rw y refl

start_zero : (m : Module) → start_of m 0 ≡ 0
unfolding start_of
start_zero m = refl

-- the sum of the stretches
pub stretches_are : (m : Module) (f : ℕ) (fs : List Function) → start_of m f + stretches_from m f fs ≡ start_of m (f + length fs)
unfolding stretches_from
stretches_are m f [] = let z : f + 0 ≡ f = omega arith in rw z (omega arith)
stretches_are m f (x ∷ fs) =
    let z : f + suc (length fs) ≡ f + 1 + length fs = omega arith in
    let y : suc f ≡ f + 1 = omega arith in
    rw (z, ← stretches_are m (f + 1) fs, y) (omega (arith, start_suc m f))

pub all_stretches : (m : Module) → start_of m (length m.functions) ≡ stretches_from m 0 m.functions
all_stretches m = let z : 0 + length m.functions ≡ length m.functions = omega arith in rw (← z, ← stretches_are m 0 m.functions, start_zero m) (omega arith)

pub marks_fit : (bytes : List ℕ) (m : Module) → read_module bytes ≡ accepted m → start_of m (length m.functions) ≤ min_report
marks_fit bytes m e = rw (all_stretches m) (few_bytes bytes m e)
