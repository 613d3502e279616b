-- The places that acts give: an emit's is a slot, a store's starts at a global or a local and has no more steps than its pointer's number, since each goes to a lower one.
use Prim.Native.Nat.{ℕ, ◌+◌, ◌/◌, ◌%◌, ◌<◌, ◌≤◌}
use native.Mathlib.Omega.{arith}
use mathlib.Core.Path.{◌≡◌, refl, ap, ◌∙◌}
use mathlib.Core.Bool.{Bool, true}
use mathlib.Core.List.{List, [], ◌∷◌, ◌++◌}
use lib.ListN.{length, length-append}
use Rattle.module.specs.Module.{TypeHandle, ExpressionHandle, Expression}
use Rattle.module.specs.Knot.{below}
use Rattle.module.specs.Tables.{function_of}
use Rattle.module.proofs.Knot.{knot-is, below-lt}
use Rattle.clearance.specs.Scope.{Scope, Step, at, by, Path, nowhere, further, step_from, variable, slot, evaluated, typed, path_of, front, target, is_path}
use Rattle.clearance.specs.IsJudged.{Declares, global as a_global, local as a_local, IndexOf, constant, dynamic, IsPath, ends, goes_on}
use Rattle.clearance.proofs.Relations.{path_exactly}
use Rattle.judge.specs.Given.{scope_at}
use Rattle.judge.proofs.PathSteps.{few}
use Rattle.framed.specs.Places.{Placed}
use Rattle.framed.proofs.Paths.{landed}
use Rattle.forms.specs.Frames.{Rooted}
use Rattle.standing.specs.World.{World}

-- where a path starts, and how long it is
record Runs (p : Path) (e : ℕ) : Type 0 where
  kind : ℕ
  number : ℕ
  low : kind < 2
  root : p.root ≡ variable kind ∷ variable number ∷ []
  short : length p.steps ≤ e

runs_further : (p : Path) (x : Step) (b e : ℕ) → b < e → Runs p b → Runs (further p x) e
unfolding further
runs_further p x b e l r =
    record {
      kind = r.kind;
      number = r.number;
      low = r.low;
      root = r.root;
      short = simp length-append (omega (arith, r.short));
    }

module _ (S : Scope) where
  path_step : (e : ExpressionHandle) (x : Expression) → (typed S e).expression ≡ x → path_of S e ≡ step_from (below (path_of S) nowhere e) x
  unfolding path_of
  path_step e x h = knot-is (λ path k. step_from path (typed S k).expression) nowhere e ∙ ap (step_from (below (path_of S) nowhere e)) h

  runs_root : (e : ExpressionHandle) (x : Expression) (t : TypeHandle) → (typed S e).expression ≡ x → Declares S x t → Runs (path_of S e) e
  unfolding step_from slot
  runs_root e x t h (a_global {g = g}) = rw (path_step e x h) record { kind = 0; number = g; low = omega arith; root = refl; short = omega arith }
  runs_root e x t h (a_local {l = l}) = rw (path_step e x h) record { kind = 1; number = l; low = omega arith; root = refl; short = omega arith }

  runs_index : (e b : ExpressionHandle) (x : Expression) → (typed S e).expression ≡ x → IndexOf b x → b < e → Runs (path_of S b) b → Runs (path_of S e) e
  unfolding step_from
  runs_index e b x h (constant {i = i}) l r = rw (path_step e x h, below-lt (path_of S) nowhere e b l) (runs_further (path_of S b) (at i) b e l r)
  runs_index e b x h (dynamic {i = i}) l r = rw (path_step e x h, below-lt (path_of S) nowhere e b l) (runs_further (path_of S b) (by i) b e l r)

  runs : (e : ExpressionHandle) → IsPath S e → Runs (path_of S e) e
  runs e (ends {t = t} d) = runs_root e _ t refl d
  runs e (goes_on {base = b} i l p) = runs_index e b _ refl i l (runs b p)

front-short : (xs : List Step) → length (front xs) ≤ length xs
unfolding front
front-short [] = omega arith
front-short (at i ∷ xs) = omega (arith, front-short xs)
front-short (by e ∷ xs) = omega arith

-- what a path names for sure
target_is : {p : Path} {e : ℕ} (r : Runs p e) → target p ≡ variable r.kind ∷ variable r.number ∷ front p.steps
unfolding target
target_is {p} r = ap (λ (l : List ℕ). l ++ front p.steps) r.root

rooted_at : (k v : ℕ) (q : List ℕ) → (k ≡ 2 → ⊥) → (k ≡ 3 → ⊥) → Rooted (variable k ∷ variable v ∷ q)
rooted_at k v q f g =
    record { long = omega arith; kind = omega arith; argument = λ z. f (omega arith); result = λ z. g (omega arith); number = omega arith }

pub target-rooted : (S : Scope) (e : ExpressionHandle) → is_path S e ≡ true → Rooted (target (path_of S e))
target-rooted S e h =
    let r = runs S e ((path_exactly S e).0 h) in
    rw (target_is r) (rooted_at r.kind r.number (front (path_of S e).steps) (λ z. omega (arith, r.low)) (λ z. omega (arith, r.low)))

pub target-short : (S : Scope) (e : ExpressionHandle) → is_path S e ≡ true → length (target (path_of S e)) ≤ 2 + e
target-short S e h =
    let r = runs S e ((path_exactly S e).0 h) in
    rw (target_is r) (omega (arith, front-short (path_of S e).steps, r.short))

-- an emit's
pub slot-rooted : (e : ℕ) → Rooted (slot (evaluated e))
unfolding slot
slot-rooted e = rooted_at (4 + e / 32) (e % 32) [] (λ z. omega arith) (λ z. omega arith)

module _ {bytes t : List ℕ} {f : ℕ} {types alike : List ℕ} {paths : List Bool} (w : World bytes t f types alike paths) where
  pub world_few : length (function_of bytes t f).expressions ≤ 1024
  world_few = few bytes t f w.given.of.read w.given.of.there

  pub target-placed : (e : ExpressionHandle) → e < length (function_of bytes t f).expressions → is_path (scope_at bytes t f) e ≡ true → Placed (scope_at bytes t f) (target (path_of (scope_at bytes t f) e))
  target-placed e l h = (landed (scope_at bytes t f) w.read w.judged e l h).place
