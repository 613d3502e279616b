-- A statement that holds no block, by its kind: what its pass is given, and that what it comes to is the statement's.
use Prim.Native.Nat.{ℕ, suc, ◌+◌, ◌-◌, ◌<◌, ◌≤◌}
use native.Mathlib.Omega.{arith}
use mathlib.Core.Path.{◌≡◌, refl, ap, subst, ◌∙◌}
use mathlib.Core.Bool.{Bool, true}
use mathlib.Core.List.{List}
use lib.ListN.{length, get_or}
use Rattle.module.specs.Module.{Statement, Function, Kill, Store}
use Rattle.module.specs.Marks.{marks_before}
use Rattle.module.specs.Decode.{statement_of}
use Rattle.module.specs.Tables.{function_of, module_of}
use Rattle.access.specs.declared.kinded.Kinded.{Kinded}
use Rattle.access.specs.Access.{operand_at}
use Rattle.access.proofs.Access.{statement-of}
use Rattle.valid.specs.Valid.{UsesBelow, entries_below}
use Rattle.clearance.specs.Scope.{Scope}
use Rattle.clearance.specs.Tree.{store, act, mark_at, by_mark, emits, statement}
use Rattle.clearance.specs.Judged.{fits_statement}
use Rattle.judge.specs.Given.{scope_at}
use Rattle.judge.proofs.PathSteps.{function_valid}
use Rattle.strays.proofs.Found.{in_function, decoded}
use Rattle.standing.specs.Standing.{inside}
use Rattle.standing.specs.Passing.{Passing}
use Rattle.standing.specs.Exits.{Exits}
use Rattle.quiet.specs.Places.{statement_tree}
use Rattle.acts.specs.Acts.{StoreOf}
use Rattle.acts.specs.Marks.{PassGiven, ByMark, EmitsPassed}
use Rattle.acts.proofs.Marked.{walked_mark}
use Rattle.leaving.specs.Leaves.{LeaveGiven, Leaves}
use Rattle.backward.specs.Course.{Course, Passes, RowIn}

module _ {bytes t : List ℕ} {f : ℕ} {types alike : List ℕ} {paths : List Bool} {firsts s rs path : List ℕ} {n : ℕ} {x : Exits} {p : Passing} (g : Course bytes t f types alike paths firsts s rs path n x p) {b l : ℕ} {row : Kinded} (r : RowIn bytes t f b l row) where
  abbrev S : Scope
  S = scope_at bytes t f

  abbrev F : Function
  F = function_of bytes t f

  abbrev o : ℕ → ℕ
  o = operand_at bytes row

  -- What is given
  pub begin_there : l < length firsts
  begin_there = omega (arith, g.begins.long, in_function r.statement)

  pub begin_is : get_or firsts l 0 ≡ marks_before F.statements l
  begin_is = g.begins.each l (in_function r.statement)

  pub act_given : n + 12 ≤ length rs → PassGiven bytes t f types alike paths s rs path n p
  act_given h = record { world = g.world; ready = g.ready; going = g.going; spare = omega arith; room = g.long }

  pub leave_given : n + 12 ≤ length rs → LeaveGiven bytes t f types alike paths s rs n x p l row
  leave_given h = record { world = g.world; ready = g.ready; targets = g.targets; going = g.going; spare = omega arith; there = in_function r.statement; is = r.is }

  -- a store of the function uses expressions of the function, and fits
  pub store_given : row.kind ≡ 12 → {a v : ℕ} → a ≡ o 0 → v ≡ o 1 → StoreOf S a v
  unfolding statement_of
  store_given h y z =
      rw (y, z)
      record {
        pointer = uses.0;
        value = uses.1;
        fits = subst (λ (k : Statement). fits_statement S k ≡ true) (statement-of bytes t f l 12 row r.is h) (g.world.fit l (in_function r.statement));
      }
    where
      uses : UsesBelow (length F.expressions) (entries_below f (module_of bytes t).functions) (Store (o 0) (o 1))
      uses =
          subst (λ (k : Statement). UsesBelow (length F.expressions) (entries_below f (module_of bytes t).functions) k) (decoded r.statement r.is 12 h)
          ((function_valid bytes t f g.world.given.of.read g.world.given.of.there).parts.each_statement l Kill (in_function r.statement)).uses

  -- What it comes to
  module _ (marks : List ℕ) where
    module _ {first last : ℕ} (h : row.kind ≡ 0) (y : first ≡ o 0) (z : last ≡ o 1) where
      emit_is : statement_tree F marks b l ≡ emits F marks l first 0 ((last + 1) - first)
      unfolding statement_of statement
      emit_is = let k : suc (o 1) ≡ o 1 + 1 = omega arith in rw (decoded r.statement r.is 0 h, y, z, k)

      pub passes_emit : {u ws after : List ℕ} {q : Passing} → EmitsPassed S marks l first last s rs n p u ws path after q → Passes S (inside (statement_tree F marks b l)) s rs n x p u ws path after q
      passes_emit w = record { walked = rw emit_is (w.each x g.targets); long = w.long }

    module _ {a v : ℕ} (h : row.kind ≡ 12) (y : a ≡ o 0) (z : v ≡ o 1) where
      store_is : statement_tree F marks b l ≡ by_mark F marks l 0 (act (store a v))
      unfolding statement_of statement
      store_is = rw (decoded r.statement r.is 12 h, y, z)

      pub passes_store : {m : Bool} → m ≡ mark_at marks (get_or firsts l 0) → {u ws after : List ℕ} {q : Passing} → ByMark S l m (store a v) s rs n p u ws path after q →
          Passes S (inside (statement_tree F marks b l)) s rs n x p u ws path after q
      passes_store e w =
          let at : get_or firsts l 0 ≡ marks_before F.statements l + 0 = omega (arith, begin_is) in
          record { walked = rw store_is (walked_mark F marks l 0 (e ∙ ap (mark_at marks) at) w x g.targets); long = w.long }

    -- the lent path is as it was
    pub passes_leaving : {u ws : List ℕ} {q : Passing} → Leaves bytes t f s rs n x p l u ws q → Passes S (inside (statement_tree F marks b l)) s rs n x p u ws path path q
    passes_leaving w = record { walked = w.is marks _; long = refl }
