-- More fuel changes nothing: a run that has ended stays as it is. So "ends" means that some fuel suffices, and it does not matter which.
use Prim.Native.Nat.{ℕ, zero, suc, ◌+◌}
use native.Mathlib.Omega.{arith}
use mathlib.Core.Path.{◌≡◌}
use mathlib.Core.Bool.{Bool, true, false, cond}
use mathlib.Core.Option.{Option, some, none as nothing}
use Rattle.module.specs.Module.{ExpressionHandle}
use Rattle.clearance.specs.Scope.{Scope}
use Rattle.clearance.specs.Tree.{Tree, nop, seq, act, branch, switch, loop, break, continue, return, unmarked}
use Rattle.clearance.specs.Needs.{Exit, next, broke, continued, returned, out_break, out_continue}
use Rattle.clearance.specs.Verdict.{Report, body}
use Rattle.clearance.specs.Run.{State, Operators, is_zero, number_of, Outcome, unended, ended, then, end_by, turns, pick, in_picked, Mode, everything, needed_only, passing, again, exec, begin, final, run}

data Stays : Outcome → Outcome → Type 0 where
  open' : {q : Outcome} → Stays unended q
  same : {q : Outcome} → Stays q q

stays_then : (r q : Outcome) (f g : State → Outcome) → Stays r q → ((s : State) → Stays (f s) (g s)) → Stays (then r f) (then q g)
unfolding then
stays_then r q f g open' h = open'
stays_then r q f g (same {q = unended}) h = open'
stays_then r q f g (same {q = ended next s}) h = h s
stays_then r q f g (same {q = ended broke s}) h = same
stays_then r q f g (same {q = ended continued s}) h = same
stays_then r q f g (same {q = ended returned s}) h = same

stays_end : (out : Exit → Exit) (r q : Outcome) → Stays r q → Stays (end_by out r) (end_by out q)
unfolding end_by
stays_end out r q open' = open'
stays_end out r q same = same

stays_cond : (b : Bool) (r q r' q' : Outcome) → Stays r q → Stays r' q' → Stays (cond b r r') (cond b q q')
stays_cond true r q r' q' h g = h
stays_cond false r q r' q' h g = g

stays_picked : (o : Option ℕ) (f g : ℕ → Outcome) → ((i : ℕ) → Stays (f i) (g i)) → Stays (in_picked o f) (in_picked o g)
unfolding in_picked
stays_picked nothing f g h = open'
stays_picked (some i) f g h = h i

stays_passing : (m : Mode) (r q s : Outcome) → Stays r q → Stays (passing m r s) (passing m q s)
unfolding passing
stays_passing everything r q s h = h
stays_passing needed_only r q s h = same

stays_turns : (f g : State → Outcome) → ((s : State) → Stays (f s) (g s)) → (n : ℕ) (s : State) → Stays (turns f n s) (turns g (suc n) s)
unfolding turns
stays_turns f g h zero s = open'
stays_turns f g h (suc n) s = stays_then _ _ _ _ (h s) (λ t. stays_turns f g h n t)

module _ (S : Scope) (ops : Operators) (mode : Mode) (n : ℕ) where
  stays_again : (c : Option ExpressionHandle) (s : State) → Stays (again S ops mode n c s) (again S ops mode (suc n) c s)
  unfolding again
  stays_again nothing s = same
  stays_again (some c) s = same

  stays : (a : Tree) (s : State) → Stays (exec S ops mode n a s) (exec S ops mode (suc n) a s)
  unfolding exec
  stays nop s = same
  stays (seq a b) s = stays_then _ _ _ _ (stays a s) (λ t. stays b t)
  stays (act x) s = same
  stays (branch c a b) s = stays_cond (is_zero S ops s c) _ _ _ _ (stays b s) (stays a s)
  stays (switch c vs f) s = stays_end out_break _ _ (stays_picked (pick vs (number_of S ops s c)) _ _ (λ i. stays (f i) s))
  stays (loop l a b c) s =
      stays_end out_break _ _
      (stays_turns _ _ (λ t. stays_then _ _ _ _ (stays_end out_continue _ _ (stays a t)) (λ u. stays_then _ _ _ _ (stays b u) (λ w. stays_again c w))) n s)
  stays (break l) s = same
  stays (continue l) s = same
  stays (return l v) s = same
  stays (unmarked l mark a) s = stays_passing mode _ _ _ (stays a s)

stays_final : (r q : Outcome) (s : State) → Stays r q → final r ≡ some s → final q ≡ some s
unfolding final
stays_final r q s open' e = cc
stays_final r q s same e = e

one_more : (S : Scope) (P : Report) (ops : Operators) (mode : Mode) (n : ℕ) (a s : State) → run S P ops mode n a ≡ some s → run S P ops mode (suc n) a ≡ some s
unfolding run
one_more S P ops mode n a s e = stays_final _ _ s (stays S ops mode n (body S P) (begin a)) e

pub more_fuel : (S : Scope) (P : Report) (ops : Operators) (mode : Mode) (n k : ℕ) (a s : State) → run S P ops mode n a ≡ some s → run S P ops mode (n + k) a ≡ some s
more_fuel S P ops mode n zero a s e = let z : n + zero ≡ n = omega arith in rw z e
more_fuel S P ops mode n (suc k) a s e =
    let z : n + suc k ≡ suc (n + k) = omega arith in
    rw z (one_more S P ops mode (n + k) a s (more_fuel S P ops mode n k a s e))
