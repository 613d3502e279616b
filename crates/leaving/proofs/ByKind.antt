-- What a statement's tree is by its kind, and that taking an exit's slot for the needs at hand is its pass (standing's laws).
use Prim.Native.Nat.{ℕ, zero, suc, ◌-◌, ◌<◌, ◌≤◌}
use native.Mathlib.Omega.{arith}
use mathlib.Core.Path.{◌≡◌, refl, sym, ap, subst, ◌∙◌}
use mathlib.Core.Bool.{Bool, true, false}
use mathlib.Core.List.{List}
use mathlib.Core.Logic.{◌⊎◌, inl, inr}
use mathlib.Core.Option.{Option, some as present, none as nothing}
use lib.ListN.{length, get_or, set, length-set}
use Rattle.std.proofs.Common.{None, Some}
use Rattle.module.specs.Module.{BlockHandle, Statement, Return, Function, Kill}
use Rattle.module.specs.Decode.{option_of, statement_of}
use Rattle.module.specs.Tables.{function_of, module_of}
use Rattle.access.specs.declared.kinded.Kinded.{Kinded}
use Rattle.access.specs.Access.{operand_at, handle_in}
use Rattle.module.specs.declared.handles.ExpressionHandle.{ExpressionHandle}
use Rattle.access.proofs.Access.{statement_is, statement-of}
use Rattle.valid.specs.Valid.{UsesBelow, entries_below}
use Rattle.clearance.specs.Scope.{Scope}
use Rattle.clearance.specs.Tree.{Tree, nop, break, continue, return, statement}
use Rattle.clearance.specs.Judged.{fits_statement}
use Rattle.judge.specs.Given.{scope_at}
use Rattle.module.proofs.Each.{past}
use Rattle.judge.proofs.PathSteps.{function_valid}
use Rattle.asking.specs.Asks.{StepGiven}
use Rattle.standing.specs.Standing.{Valued, inside, Walked}
use Rattle.standing.specs.Passing.{Passing}
use Rattle.standing.specs.Exits.{Exits}
use Rattle.standing.proofs.Walks.{walked_nop}
use Rattle.standing.proofs.Taken.{taken_ready, walked_break, walked_continue, walked_return, walked_value, value_full}
use Rattle.leaving.specs.Leaves.{LeaveGiven, Leaves}

module _ (F : Function) (marks : List ℕ) (block : BlockHandle → Tree) (l : ℕ) (o : ℕ → ℕ) where
  abbrev of : ℕ → Tree
  of k = statement F marks block l (statement_of k o)

  break_of : of 5 ≡ break l
  unfolding statement_of statement
  break_of = refl

  continue_of : of 6 ≡ continue l
  unfolding statement_of statement
  continue_of = refl

  return_of : of 7 ≡ return l (option_of (o 0))
  unfolding statement_of statement
  return_of = refl

  -- kinds that are not judged
  other_of : (j : ℕ) → j ≤ 12 → (j ≡ 4 → ⊥) → of (past 8 j) ≡ nop
  unfolding statement_of statement
  other_of zero h d = refl
  other_of (suc zero) h d = refl
  other_of (suc (suc zero)) h d = refl
  other_of (suc (suc (suc zero))) h d = refl
  other_of (suc (suc (suc (suc zero)))) h d = absurd (d refl)
  other_of (suc (suc (suc (suc (suc zero))))) h d = refl
  other_of (suc (suc (suc (suc (suc (suc zero)))))) h d = refl
  other_of (suc (suc (suc (suc (suc (suc (suc zero))))))) h d = refl
  other_of (suc (suc (suc (suc (suc (suc (suc (suc zero)))))))) h d = refl
  other_of (suc (suc (suc (suc (suc (suc (suc (suc (suc zero))))))))) h d = refl
  other_of (suc (suc (suc (suc (suc (suc (suc (suc (suc (suc zero)))))))))) h d = refl
  other_of (suc (suc (suc (suc (suc (suc (suc (suc (suc (suc (suc zero))))))))))) h d = refl
  other_of (suc (suc (suc (suc (suc (suc (suc (suc (suc (suc (suc (suc zero)))))))))))) h d = refl
  other_of (suc (suc (suc (suc (suc (suc (suc (suc (suc (suc (suc (suc (suc j))))))))))))) h d = absurd (omega arith)

  past_of : (j : ℕ) → of (past 21 j) ≡ break l
  unfolding statement_of statement
  past_of j = refl

module _ {bytes t : List ℕ} {f : ℕ} {types alike : List ℕ} {paths : List Bool} {s rs : List ℕ} {n : ℕ} {x : Exits} {p : Passing} {l : ℕ} {row : Kinded} (g : LeaveGiven bytes t f types alike paths s rs n x p l row) where
  abbrev S : Scope
  S = scope_at bytes t f

  abbrev o : ℕ → ℕ
  o = operand_at bytes row

  decoded : (k : ℕ) → row.kind ≡ k → get_or (function_of bytes t f).statements l Kill ≡ statement_of k o
  decoded k h = statement_is bytes t f l Kill g.there ∙ statement-of bytes t f l k row g.is h

  -- by a tree that the statement is, whatever the marks
  by_tree : {u ws : List ℕ} {q : Passing} (a : Tree) → ((marks : List ℕ) (block : BlockHandle → Tree) → statement (function_of bytes t f) marks block l (get_or (function_of bytes t f).statements l Kill) ≡ a) →
      Walked S (inside a) s rs n x p u ws q → Leaves bytes t f s rs n x p l u ws q
  by_tree a e w = record { is = λ marks block. rw (e marks block) w }

  leaves_break : {ws : List ℕ} → row.kind ≡ 5 → ws ≡ set rs (n - 1) (get_or rs x.broke 0) → Leaves bytes t f s rs n x p l s ws p
  leaves_break h e = rw e (by_tree (break l) (λ marks block. rw (decoded 5 h) (break_of (function_of bytes t f) marks block l o)) (walked_break g.ready g.targets l g.going))

  leaves_past : {ws : List ℕ} → 20 < row.kind → ws ≡ set rs (n - 1) (get_or rs x.broke 0) → Leaves bytes t f s rs n x p l s ws p
  leaves_past h e =
      let z : row.kind ≡ past 21 (row.kind - 21) = omega arith in
      rw e (by_tree (break l) (λ marks block. rw (decoded (past 21 (row.kind - 21)) z) (past_of (function_of bytes t f) marks block l o (row.kind - 21))) (walked_break g.ready g.targets l g.going))

  -- a break, or a kind past the last
  pub leaves_broke : {ws : List ℕ} → (row.kind ≡ 5) ⊎ (20 < row.kind) → ws ≡ set rs (n - 1) (get_or rs x.broke 0) → Leaves bytes t f s rs n x p l s ws p
  leaves_broke (inl h) e = leaves_break h e
  leaves_broke (inr h) e = leaves_past h e

  pub leaves_continue : {ws : List ℕ} → row.kind ≡ 6 → ws ≡ set rs (n - 1) (get_or rs x.continued 0) → Leaves bytes t f s rs n x p l s ws p
  leaves_continue h e = rw e (by_tree (continue l) (λ marks block. rw (decoded 6 h) (continue_of (function_of bytes t f) marks block l o)) (walked_continue g.ready g.targets l g.going))

  pub leaves_nothing : 7 < row.kind → row.kind ≤ 20 → (row.kind ≡ 12 → ⊥) → Leaves bytes t f s rs n x p l s rs p
  leaves_nothing h m d =
      let z : row.kind ≡ past 8 (row.kind - 8) = omega arith in
      by_tree nop (λ marks block. rw (decoded (past 8 (row.kind - 8)) z) (other_of (function_of bytes t f) marks block l o (row.kind - 8) (omega arith) (λ q. d (omega arith))))
      (walked_nop g.ready g.going)

  -- a return
  module _ (h : row.kind ≡ 7) {ws : List ℕ} (d : ws ≡ set rs (n - 1) (get_or rs x.returned 0)) where
    return-tree : (w : Option ℕ) → w ≡ option_of (o 0) → (marks : List ℕ) (block : BlockHandle → Tree) →
        statement (function_of bytes t f) marks block l (get_or (function_of bytes t f).statements l Kill) ≡ return l w
    return-tree w i marks block = rw (decoded 7 h) (return_of (function_of bytes t f) marks block l o ∙ ap (return l) (sym i))

    pub leaves_return : handle_in None ≡ option_of (o 0) → Leaves bytes t f s rs n x p l s ws p
    unfolding handle_in
    leaves_return i = rw d (by_tree (return l nothing) (return-tree nothing i) (walked_return g.ready g.targets l g.going))

    module _ (v : ExpressionHandle) (i : handle_in (Some v) ≡ option_of (o 0)) where
      present-is : present v.0 ≡ option_of (o 0)
      unfolding handle_in
      present-is = i

      -- the value is an expression of the function, and fits
      uses : UsesBelow (length (function_of bytes t f).expressions) (entries_below f (module_of bytes t).functions) (statement_of 7 o)
      uses =
          subst (λ (z : Statement). UsesBelow (length (function_of bytes t f).expressions) (entries_below f (module_of bytes t).functions) z) (decoded 7 h)
          ((function_valid bytes t f g.world.given.of.read g.world.given.of.there).parts.each_statement l Kill g.there).uses

      pub value_fits : fits_statement S (Return (present v.0)) ≡ true
      unfolding statement_of
      value_fits =
          subst (λ (z : Statement). fits_statement S z ≡ true) (statement-of bytes t f l 7 row g.is h ∙ ap Return (sym present-is)) (g.world.fit l g.there)

      pub value_given : StepGiven S s ws n v.0
      unfolding statement_of
      value_given = record {
        read = g.world.read;
        judged = g.world.judged;
        ready = rw d (taken_ready g.ready g.targets x.returned g.targets.returned.0 g.targets.returned.1);
        spare = omega (arith, g.spare, long);
        there = rw (← present-is) at uses;
      }
        where
          long : length ws ≡ length rs
          long = ap length d ∙ length-set rs (n - 1) _

      pub leaves_value : {u vs : List ℕ} {b : Bool} → Valued S v.0 s ws n u vs b → b ≡ true → Leaves bytes t f s rs n x p l u vs p
      leaves_value w z = by_tree (return l (present v.0)) (return-tree (present v.0) present-is) (walked_value g.ready g.targets l v.0 (rw d at w) g.going z)

      pub leaves_full : {u vs : List ℕ} {b : Bool} {q : Passing} → Valued S v.0 s ws n u vs b → b ≡ false → q.full ≡ true → Leaves bytes t f s rs n x p l u vs q
      leaves_full w z k = by_tree (return l (present v.0)) (return-tree (present v.0) present-is) (value_full g.ready g.targets l v.0 (rw d at w) k z)
