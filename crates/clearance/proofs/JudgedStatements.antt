-- A statement passes the computed test, and is no stray, exactly where every clause of 01's holds of it: as for expressions.
use Prim.Native.Nat.{ℕ}
use native.Mathlib.Omega.{arith}
use mathlib.Core.Path.{◌≡◌, refl}
use mathlib.Core.Bool.{Bool, true, ◌||◌}
use mathlib.Core.Logic.{◌↔◌, inl, inr}
use mathlib.Core.Option.{Option, some, none as nothing}
use lib.Dec.{ltb, eqb}
use borrow.Author.Tests.{lt-ltb, eq-eqb}
use Rattle.part.proofs.Equations.{never}
use Rattle.module.specs.Module.{ExpressionHandle, FunctionResult, Statement}
use Rattle.module.specs.Module.{Emit, Block, If, Switch, Loop, Break, Continue, Return, Kill, ControlBarrier, MemoryBarrier, ImageAtomic, Store}
use Rattle.module.specs.Module.{AtomicStatement, Call, ImageStore, RayQuery, WorkGroupUniformLoad, SubgroupBallot, SubgroupGather, SubgroupCollectiveOperation}
use Rattle.clearance.specs.Scope.{Scope, alike, type_of, is_path}
use Rattle.clearance.specs.Tree.{Tree}
use Rattle.clearance.specs.Judged.{presently, is_value, fits_return, fits_statement, at_top, strays}
use Rattle.clearance.specs.Rules.{Member}
use Rattle.module.specs.Kinds.{statement_kind}
use Rattle.clearance.specs.IsJudged.{StatementKinds, IsValue, UsesValue, of_if, of_switch, of_loop, of_return, of_store, JudgedStatement}
use Rattle.clearance.proofs.Small.{both_true, both_are}
use Rattle.clearance.proofs.Relations.{either_left, either_right, path_exactly, value_exactly}
use Rattle.clearance.proofs.Strays.{stays_exactly}

kind_test : ℕ → Bool
kind_test k = ltb k 8 || eqb k 12

kind-test : (k : ℕ) → StatementKinds k → kind_test k ≡ true
unfolding kind_test
kind-test k (inl h) = either_left _ _ (lt-ltb k 8 (omega (arith, h.1)))
kind-test k (inr h) = either_right (ltb k 8) _ (eq-eqb k 12 h)

module _ (S : Scope) where
  -- From the test

  kind-of : (x : Statement) → fits_statement S x ≡ true → StatementKinds (statement_kind x)
  unfolding fits_statement statement_kind
  kind-of (Emit first last) h = inl (omega arith, omega arith)
  kind-of (Block b) h = inl (omega arith, omega arith)
  kind-of (If condition accept reject) h = inl (omega arith, omega arith)
  kind-of (Switch selector cases) h = inl (omega arith, omega arith)
  kind-of (Loop b continuing break_if) h = inl (omega arith, omega arith)
  kind-of Break h = inl (omega arith, omega arith)
  kind-of Continue h = inl (omega arith, omega arith)
  kind-of (Return value) h = inl (omega arith, omega arith)
  kind-of Kill h = never h
  kind-of ControlBarrier h = never h
  kind-of MemoryBarrier h = never h
  kind-of ImageAtomic h = never h
  kind-of (Store pointer value) h = inr refl
  kind-of (AtomicStatement pointer value result) h = never h
  kind-of (Call function arguments result) h = never h
  kind-of (ImageStore image coordinate array_index value) h = never h
  kind-of (RayQuery query) h = never h
  kind-of (WorkGroupUniformLoad pointer result) h = never h
  kind-of (SubgroupBallot result predicate) h = never h
  kind-of (SubgroupGather mode argument result) h = never h
  kind-of (SubgroupCollectiveOperation argument result) h = never h

  values_of : (x : Statement) → fits_statement S x ≡ true → (v : ExpressionHandle) → UsesValue v x → IsValue S v
  unfolding fits_statement presently
  values_of x h v of_if = (value_exactly S v).0 h
  values_of x h v of_switch = (value_exactly S v).0 h
  values_of x h v of_loop = (value_exactly S v).0 h
  values_of x h v of_return = (value_exactly S v).0 (both_true _ _ h).0
  values_of x h v of_store = (value_exactly S v).0 (both_true _ _ h).0

  abbrev Returns : Option FunctionResult → ExpressionHandle → Type 0
  Returns o v = (r : FunctionResult) × (o ≡ some r) × (alike S r.type (type_of S v) ≡ true)

  return_of : (o : Option FunctionResult) (v : ExpressionHandle) → fits_return S o v ≡ true → Returns o v
  unfolding fits_return
  return_of nothing v h = never h
  return_of (some r) v h = (r, refl, h)

  module _ (whole : Tree) (n : ℕ) where
    judged-of : (x : Statement) → fits_statement S x ≡ true → (Member n (strays whole at_top) → ⊥) → JudgedStatement S whole n x
    unfolding fits_statement presently
    judged-of x h g =
        let s = (stays_exactly n whole).0 g in
        record {
          kind = kind-of x h;
          stores_path = λ p v q. (path_exactly S p).0 (both_true (is_path S p) _ (both_true (is_value S v) _ (rw q at h)).1).0;
          values = values_of x h;
          store = λ p v q. (both_true (is_path S p) _ (both_true (is_value S v) _ (rw q at h)).1).1;
          returns = λ v q. return_of S.function.result v (both_true (is_value S v) _ (rw q at h)).1;
          break_target = s.0;
          continue_target = s.1;
          stays = s.2;
        }

    -- To the test

    value : (x : Statement) → JudgedStatement S whole n x → (v : ExpressionHandle) → UsesValue v x → is_value S v ≡ true
    value x j v u = (value_exactly S v).1 (j.values v u)

    return_fits : (o : Option FunctionResult) (v : ExpressionHandle) → Returns o v → fits_return S o v ≡ true
    unfolding fits_return
    return_fits o v z = rw (z.1, fits_return) z.2

    fits_from : (x : Statement) → JudgedStatement S whole n x → fits_statement S x ≡ true
    unfolding fits_statement presently statement_kind kind_test
    fits_from (Emit first last) j = refl
    fits_from (Block b) j = refl
    fits_from (If condition accept reject) j = value _ j condition of_if
    fits_from (Switch selector cases) j = value _ j selector of_switch
    fits_from (Loop b continuing nothing) j = refl
    fits_from (Loop b continuing (some v)) j = value _ j v of_loop
    fits_from Break j = refl
    fits_from Continue j = refl
    fits_from (Return nothing) j = refl
    fits_from (Return (some v)) j = both_are _ _ (value _ j v of_return) (return_fits _ v (j.returns v refl))
    fits_from Kill j = never (kind-test 8 j.kind)
    fits_from ControlBarrier j = never (kind-test 9 j.kind)
    fits_from MemoryBarrier j = never (kind-test 10 j.kind)
    fits_from ImageAtomic j = never (kind-test 11 j.kind)
    fits_from (Store p v) j = both_are _ _ (value _ j v of_store) (both_are _ _ ((path_exactly S p).1 (j.stores_path p v refl)) (j.store p v refl))
    fits_from (AtomicStatement pointer v result) j = never (kind-test 13 j.kind)
    fits_from (Call function arguments result) j = never (kind-test 14 j.kind)
    fits_from (ImageStore image coordinate array_index v) j = never (kind-test 15 j.kind)
    fits_from (RayQuery query) j = never (kind-test 16 j.kind)
    fits_from (WorkGroupUniformLoad pointer result) j = never (kind-test 17 j.kind)
    fits_from (SubgroupBallot result predicate) j = never (kind-test 18 j.kind)
    fits_from (SubgroupGather mode argument result) j = never (kind-test 19 j.kind)
    fits_from (SubgroupCollectiveOperation argument result) j = never (kind-test 20 j.kind)

    -- The test is true, and it does not stray, exactly where every clause holds.
    pub statement_exactly : (x : Statement) → ((fits_statement S x ≡ true) × (Member n (strays whole at_top) → ⊥)) ↔ JudgedStatement S whole n x
    statement_exactly x = (
      (λ z. judged-of x z.0 z.1),
      (λ j. (fits_from x j, (stays_exactly n whole).1 (j.break_target, j.continue_target, j.stays))),
    )
