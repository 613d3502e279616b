-- A pointer's path by its row: a variable has no steps, and an index is one step further than its base. From the recursion's equation, since a base is lower.
use Prim.Native.Nat.{ℕ, ◌<◌}
use native.Mathlib.Omega.{arith}
use mathlib.Core.Path.{◌≡◌, refl, sym, ap, subst, ◌∙◌}
use mathlib.Core.Bool.{Bool, true, false}
use mathlib.Core.List.{List, [], ◌∷◌, ◌++◌}
use lib.Dec.{ltb}
use lib.ListN.{get_or}
use Rattle.module.specs.Module.{Typed}
use Rattle.module.specs.Knot.{below}
use Rattle.module.specs.Decode.{expression_of}
use Rattle.module.specs.Tables.{function_of}
use Rattle.module.proofs.Knot.{knot-is, below-lt}
use Rattle.access.specs.declared.kinded.Kinded.{Kinded}
use Rattle.access.specs.Access.{operand_at}
use Rattle.access.proofs.Access.{typed_is, expression-of}
use Rattle.valid.specs.Valid.{OperandsBelow}
use Rattle.clearance.specs.Scope.{Scope, Step, at, by, Path, Place, nowhere, further, step_from, slot, global, local, no_expression, typed, path_of, indexes, is_path}
use Rattle.judge.specs.Given.{scope_at}
use Rattle.judge.proofs.PathSteps.{function_valid}
use Rattle.place.specs.Target.{At}
use Rattle.module.proofs.Each.{each}

-- indexes of one step more
pub indexes-constant : (xs : List Step) (i : ℕ) → indexes (xs ++ (at i ∷ [])) ≡ indexes xs
unfolding indexes
indexes-constant [] i = refl
indexes-constant (at j ∷ xs) i = indexes-constant xs i
indexes-constant (by e ∷ xs) i = ap (λ (r : List ℕ). e ∷ r) (indexes-constant xs i)

pub indexes-dynamic : (xs : List Step) (e : ℕ) → indexes (xs ++ (by e ∷ [])) ≡ indexes xs ++ (e ∷ [])
unfolding indexes
indexes-dynamic [] e = refl
indexes-dynamic (at j ∷ xs) e = indexes-dynamic xs e
indexes-dynamic (by d ∷ xs) e = ap (λ (r : List ℕ). d ∷ r) (indexes-dynamic xs e)

-- whether a path leads somewhere
abbrev rooted : Path → Bool
rooted p = ltb 0 (get_or p.root 0 0)

-- the path of a variable
abbrev pub alone : Place → Path
alone place = record { root = place; steps = [] }

-- a kind that no path has
record Other (kind : ℕ) : Type 0 where
  index : kind ≡ 3 → ⊥
  value : kind ≡ 4 → ⊥
  global : kind ≡ 10 → ⊥
  local : kind ≡ 11 → ⊥

other_kind : (path : ℕ → Path) (o : ℕ → ℕ) (kind : ℕ) → Other kind → rooted (step_from path (expression_of kind o)) ≡ false
unfolding expression_of step_from
other_kind path o =
    each (λ k. Other k → rooted (step_from path (expression_of k o)) ≡ false) 32
    (λ h. refl, (λ h. refl, (λ h. refl, (λ h. absurd (h.index refl), (λ h. absurd (h.value refl), (λ h. refl, (λ h. refl, (λ h. refl, (λ h. refl, (λ h. refl, (λ h. absurd (h.global refl), (λ h. absurd (h.local refl), (λ h. refl, (λ h. refl, (λ h. refl, (λ h. refl, (λ h. refl, (λ h. refl, (λ h. refl, (λ h. refl, (λ h. refl, (λ h. refl, (λ h. refl, (λ h. refl, (λ h. refl, (λ h. refl, (λ h. refl, (λ h. refl, (λ h. refl, (λ h. refl, (λ h. refl, (λ h. refl, tt))))))))))))))))))))))))))))))))
    (λ k h. refl)

module _ {bytes t : List ℕ} {f e : ℕ} {row : Kinded} (R : At bytes t f e row) where
  abbrev pub S : Scope
  S = scope_at bytes t f

  abbrev pub o : ℕ → ℕ
  o = operand_at bytes row

  row_is : (k : ℕ) → row.kind ≡ k → (get_or (function_of bytes t f).expressions e no_expression).expression ≡ expression_of k o
  row_is k h = ap (λ (x : Typed). x.expression) (typed_is bytes t f e no_expression R.there) ∙ expression-of bytes t f e k row R.is h

  operands : (k : ℕ) → row.kind ≡ k → OperandsBelow e (expression_of k o)
  operands k h =
      subst (OperandsBelow e) (row_is k h) ((function_valid bytes t f R.read R.function).parts.each_expression e no_expression R.there).operands

  path-by : (k : ℕ) → row.kind ≡ k → path_of S e ≡ step_from (below (path_of S) nowhere e) (expression_of k o)
  unfolding path_of typed
  path-by k h =
      knot-is (λ path x. step_from path (get_or (function_of bytes t f).expressions x no_expression).expression) nowhere e
      ∙ ap (step_from (below (path_of S) nowhere e)) (row_is k h)

  pub constant_lower : row.kind ≡ 3 → o 0 < e
  unfolding expression_of
  constant_lower h = (operands 3 h).0

  pub dynamic_lower : row.kind ≡ 4 → (o 0 < e) × (o 1 < e)
  unfolding expression_of
  dynamic_lower h = operands 4 h

  pub path_constant : row.kind ≡ 3 → path_of S e ≡ further (path_of S (o 0)) (at (o 1))
  unfolding expression_of step_from
  path_constant h =
      path-by 3 h ∙ ap (λ (p : Path). further p (at (o 1))) (below-lt (path_of S) nowhere e (o 0) (constant_lower h))

  pub path_dynamic : row.kind ≡ 4 → path_of S e ≡ further (path_of S (o 0)) (by (o 1))
  unfolding expression_of step_from
  path_dynamic h =
      path-by 4 h ∙ ap (λ (p : Path). further p (by (o 1))) (below-lt (path_of S) nowhere e (o 0) (dynamic_lower h).0)

  pub path_global : row.kind ≡ 10 → path_of S e ≡ alone (slot (global (o 0)))
  unfolding expression_of step_from
  path_global h = path-by 10 h

  pub path_local : row.kind ≡ 11 → path_of S e ≡ alone (slot (local (o 0)))
  unfolding expression_of step_from
  path_local h = path-by 11 h

  -- the kinds that a path has
  pub no_other : is_path S e ≡ true → (row.kind ≡ 3 → ⊥) → (row.kind ≡ 4 → ⊥) → (row.kind ≡ 10 → ⊥) → (row.kind ≡ 11 → ⊥) → ⊥
  unfolding is_path
  no_other p a b c d =
      let z : false ≡ true = sym (other_kind (below (path_of S) nowhere e) o row.kind (record { index = a; value = b; global = c; local = d }))
      ∙ (ap rooted (sym (path-by row.kind refl)) ∙ p) in
      absurd (never z)
    where
      never : false ≡ true → ⊥
      never q = let z : ◌≡◌ {A = ℕ} 0 1 = cc in omega arith

  -- what stands below an index is a path too
  pub base_constant : row.kind ≡ 3 → is_path S (o 0) ≡ is_path S e
  unfolding is_path further
  base_constant h = ap rooted (sym (path_constant h))

  pub base_dynamic : row.kind ≡ 4 → is_path S (o 0) ≡ is_path S e
  unfolding is_path further
  base_dynamic h = ap rooted (sym (path_dynamic h))

  -- the dynamic indexes, from last to first
  pub indexes-of_constant : row.kind ≡ 3 → indexes (path_of S e).steps ≡ indexes (path_of S (o 0)).steps
  unfolding further
  indexes-of_constant h =
      ap (λ (p : Path). indexes p.steps) (path_constant h) ∙ indexes-constant (path_of S (o 0)).steps (o 1)

  pub indexes-of_dynamic : row.kind ≡ 4 → indexes (path_of S e).steps ≡ indexes (path_of S (o 0)).steps ++ (o 1 ∷ [])
  unfolding further
  indexes-of_dynamic h =
      ap (λ (p : Path). indexes p.steps) (path_dynamic h) ∙ indexes-dynamic (path_of S (o 0)).steps (o 1)
