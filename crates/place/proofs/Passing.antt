-- A path is written from its end downwards while the indexes of a pointer are passed: the last of them first, the variable last. What is left of the pointer and what
-- is written give the whole at each step, so in the end what is written is the target.
use Prim.Native.Nat.{ℕ, suc, ◌+◌, ◌-◌, ◌<◌, ◌≤◌}
use native.Mathlib.Omega.{arith}
use mathlib.Core.Path.{◌≡◌, refl, sym, ap, subst, ◌∙◌}
use mathlib.Core.Bool.{Bool, true, false, ◌||◌}
use mathlib.Core.List.{List, [], ◌∷◌, ◌++◌}
use lib.ListN.{length, set, length-set}
use lib.Seq.{drop-cons, get_or-set_same, drop-set-lt}
use Rattle.clearance.specs.Scope.{Scope, Step as Way, at, by, further, slot, variable, path_of, front, indexes, target, is_path}
use Rattle.module.specs.declared.handles.ExpressionHandle.{ExpressionHandle}
use Rattle.place.specs.declared.pointer.PointerExpression.{PointerExpression}
use Rattle.place.specs.declared.steps.Step.{Step}
use Rattle.place.specs.declared.steps.Step.TheVariants.{Global, Local, Constant, Dynamic}
use Rattle.place.specs.declared.target.Target.{Target}
use Rattle.place.specs.Steps.{scope_in, StepDown, VariableStep}
use Rattle.place.specs.Target.{any, part, TargetFound, front_then, Passed}
use Rattle.place.proofs.Paths.{indexes-constant, indexes-dynamic}

-- one step more
then_constant : (xs : List Way) (i : ℕ) (ys : List ℕ) → front_then (xs ++ (at i ∷ [])) ys ≡ front_then xs (i ∷ ys)
unfolding front_then
then_constant [] i ys = refl
then_constant (at j ∷ xs) i ys = ap (λ (r : List ℕ). j ∷ r) (then_constant xs i ys)
then_constant (by e ∷ xs) i ys = refl

then_dynamic : (xs : List Way) (e : ℕ) (ys : List ℕ) → front_then (xs ++ (by e ∷ [])) ys ≡ front_then xs []
unfolding front_then
then_dynamic [] e ys = refl
then_dynamic (at j ∷ xs) e ys = ap (λ (r : List ℕ). j ∷ r) (then_dynamic xs e ys)
then_dynamic (by d ∷ xs) e ys = refl

then_nothing : (xs : List Way) → front_then xs [] ≡ front xs
unfolding front_then front
then_nothing [] = refl
then_nothing (at j ∷ xs) = ap (λ (r : List ℕ). j ∷ r) (then_nothing xs)
then_nothing (by d ∷ xs) = refl

any_last : (xs : List ℕ) (e : ℕ) → any (xs ++ (e ∷ [])) ≡ true
any_last [] e = refl
any_last (x ∷ xs) e = refl

or-true : (b : Bool) → b || true ≡ true
or-true true = refl
or-true false = refl

or-false : (b : Bool) → b || false ≡ b
or-false true = refl
or-false false = refl

-- a word put in front of a part
part_none : (path : List ℕ) (n : ℕ) → part path n n ≡ []
part_none path n = let z : n - n ≡ 0 = omega arith in rw z

part-put : (path : List ℕ) (n to v : ℕ) → n < to → to ≤ length path → part (set path n v) n to ≡ v ∷ part path (suc n) to
part-put path n to v l m =
    let z : to - n ≡ suc (to - suc n) = omega arith in
    let there : n < length (set path n v) = simp length-set (omega arith) in
    rw (z, drop-cons (set path n v) n 0 there, get_or-set_same path n v 0 (omega arith), drop-set-lt (suc n) path n v (omega arith))

module _ (U : Scope) where
  -- before the first step
  pub none_passed : (e : ℕ) (path : List ℕ) → e < length U.function.expressions → length U.function.expressions + 2 ≤ length path → is_path U e ≡ true → Passed U e path e (length path) (length path) false
  unfolding target
  none_passed e path l m p =
      record {
        there = l;
        pointer = p;
        room = omega arith;
        low = omega arith;
        high = omega arith;
        rest = rw (part_none path (length path), then_nothing (path_of U e).steps);
        found = refl;
      }

  module _ {e h b from to : ℕ} {path : List ℕ} {d : Bool} (P : Passed U e path h from to d) (lower : b < h) (pointer : is_path U b ≡ true) where
    pub constant_passed : (w : ℕ) {next : ℕ} → next ≡ from - 1 → path_of U h ≡ further (path_of U b) (at w) → Passed U e (set path next w) b next to d
    unfolding further
    constant_passed w {next} down q =
        let before : from ≡ suc next = omega (arith, P.room) in
        record {
          there = omega (arith, P.there);
          pointer = pointer;
          room = omega (arith, P.room);
          low = omega (arith, P.low);
          high = simp length-set P.high;
          rest = rw (part-put path next to w (omega (arith, P.low, P.room)) P.high, ← then_constant (path_of U b).steps w (part path (suc next) to)) (rw (q, before) at P.rest);
          found = rw (← indexes-constant (path_of U b).steps w) (rw q at P.found);
        }

    pub dynamic_passed : (i : ℕ) → path_of U h ≡ further (path_of U b) (by i) → Passed U e path b from from true
    unfolding further
    dynamic_passed i q =
        record {
          there = omega (arith, P.there);
          pointer = pointer;
          room = omega (arith, P.room);
          low = omega arith;
          high = omega (arith, P.low, P.high);
          rest = rw (part_none path from, ← then_dynamic (path_of U b).steps i (part path from to)) (rw q at P.rest);
          found = sym (or-true d) ∙ (rw (← any_last (indexes (path_of U b).steps) i, ← indexes-dynamic (path_of U b).steps i) (rw q at P.found));
        }

  -- the variable's two words in front of the constant indexes
  module _ {e h from to : ℕ} {path : List ℕ} {d : Bool} (P : Passed U e path h from to d) {k v : ℕ} (root : (path_of U h).root ≡ k ∷ v ∷ []) (last : (path_of U h).steps ≡ []) where
    abbrev written : List ℕ
    written = set (set path (from - 2 + 1) v) (from - 2) k

    put_two : part written (from - 2) to ≡ k ∷ v ∷ part path from to
    put_two =
        let n = from - 2 in
        let z : n + 1 ≡ suc n = omega arith in
        let y : from ≡ suc (n + 1) = omega (arith, P.room) in
        let high : to ≤ length (set path (n + 1) v) = simp length-set P.high in
        part-put (set path (n + 1) v) n to k (omega (arith, P.low, P.room)) high
        ∙ ap (λ (r : List ℕ). k ∷ r) (rw (← z) (part-put path (n + 1) to v (omega (arith, P.low, P.room)) P.high ∙ ap (λ (m : ℕ). v ∷ part path m to) (sym y)))

    pub target_found : {start after : List ℕ} {r : Target} → after ≡ written → r ≡ record { from = from - 2; to = to; dynamic = d } → length path ≡ length start → TargetFound U e start after r
    unfolding front_then indexes
    target_found a q l =
        rw (a, q)
        (record {
          low = omega (arith, P.low, P.room);
          high = simp length-set P.high;
          is = put_two ∙ (rw (root, last) at P.rest);
          dynamic = sym (or-false d) ∙ (rw last at P.found);
          long = simp length-set l;
        })

-- the code's step down
module _ (p h : PointerExpression) (same : scope_in h ≡ scope_in p) {from to : ℕ} {path : List ℕ} {d : Bool} (P : Passed (scope_in p) p.e.0 path h.e.0 from to d) where
  pub next_constant : {x : Step} → StepDown h x → {base : PointerExpression} {w : ℕ} → x ≡ Constant base w → (scope_in base ≡ scope_in p) × Passed (scope_in p) p.e.0 (set path (from - 1) w) base.e.0 (from - 1) to d
  next_constant down {base} {w} e =
      let z = rw e at down in
      let b = z.below.scope ∙ same in
      (b, constant_passed (scope_in p) P z.below.lower (subst (λ (U : Scope). is_path U base.e.0 ≡ true) b base.pointer.path) w refl (subst (λ (U : Scope). path_of U h.e.0 ≡ further (path_of U base.e.0) (at w)) same z.path))

  pub next_dynamic : {x : Step} → StepDown h x → {base : PointerExpression} {i : ExpressionHandle} → x ≡ Dynamic base i → (scope_in base ≡ scope_in p) × Passed (scope_in p) p.e.0 path base.e.0 from from true
  next_dynamic down {base} {i} e =
      let z = rw e at down in
      let b = z.below.scope ∙ same in
      (b, dynamic_passed (scope_in p) P z.below.lower (subst (λ (U : Scope). is_path U base.e.0 ≡ true) b base.pointer.path) i.0 (subst (λ (U : Scope). path_of U h.e.0 ≡ further (path_of U base.e.0) (by i.0)) same z.path))

  module _ {start after : List ℕ} {r : Target} (t : r ≡ record { from = from - 2; to = to; dynamic = d }) (l : length path ≡ length start) {k v : ℕ} (a : after ≡ set (set path (from - 2 + 1) v) (from - 2) k) where
    found : VariableStep h (k ∷ v ∷ []) → TargetFound (scope_in p) p.e.0 start after r
    found z =
        target_found (scope_in p) P (subst (λ (U : Scope). (path_of U h.e.0).root ≡ k ∷ v ∷ []) same z.root) (subst (λ (U : Scope). (path_of U h.e.0).steps ≡ []) same z.alone) a t l

    pub found_global : {x : Step} → StepDown h x → {g : ℕ} → x ≡ Global g → k ≡ variable 0 → v ≡ variable g → TargetFound (scope_in p) p.e.0 start after r
    unfolding slot
    found_global down e i j = found (rw (i, j) (rw e at down))

    pub found_local : {x : Step} → StepDown h x → {g : ℕ} → x ≡ Local g → k ≡ variable 1 → v ≡ variable g → TargetFound (scope_in p) p.e.0 start after r
    unfolding slot
    found_local down e i j = found (rw (i, j) (rw e at down))
