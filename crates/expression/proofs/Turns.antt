-- The turns of a visit: what is left of the asks gives the whole (`Left`), and each way through a turn keeps that, or ends it. First the definition, one ask at
-- a time.
use Prim.Native.Nat.{ℕ, suc, ◌<◌, ◌≤◌}
use mathlib.Core.Path.{◌≡◌, sym, ap, ◌∙◌}
use mathlib.Core.List.{List, []}
use mathlib.Core.Option.{some, none as nothing}
use lib.ListN.{get_elem?, drop}
use Rattle.field.specs.Limits.{max_pieces, max_visits}
use Rattle.part.specs.PartReq.{PartReq, get_subpart}
use Rattle.module.specs.Module.{Module, FunctionHandle, ExpressionHandle}
use Rattle.valid.specs.Valid.{ComponentsWithin}
use Rattle.context.specs.RequiredContext.{variable}
use Rattle.walk.specs.State.{State, Out, at_expression, went, halt, ◌>>◌, ◌>>=◌, visited, count, counted}
use Rattle.walk.specs.Resolve.{expression_at}
use Rattle.walk.specs.Lower.{LowerExpression}
use Rattle.walk.specs.Expression.{Ask, of_operand, of_argument, of_global, of_local, refuse, arm_asks, ask_argument, ask_global, ask_local, add_ask, add_asks, recorded, add_expression}
use Rattle.walk.proofs.Bind.{next_then, next_next, next_self, next_same, counted-over, counted-under, visit-late, visit-begins}
use Rattle.walk.proofs.Equations.{add_expression-is, asks_next, asks_done}
use Rattle.expression.specs.Walks.{closing, ending_argument, ending_local, ending_global, asks_from}
use Rattle.expression.proofs.Arms.{arm}

module _ (m : Module) (f : FunctionHandle) (held : ℕ) (e : ExpressionHandle) (p : PartReq) where
  -- a visit, by its asks
  module _ (low : LowerExpression m f e) (st : State) where
    pub visit_17 : max_visits ≤ st.visits → halt 17 (at_expression f e) ≡ add_expression m f held e p st
    visit_17 h = sym (add_expression-is m f held e p st low ∙ visit-late held (at_expression f e) _ st h)

    module _ (h : st.visits < max_visits) where
      abbrev first : Out (Unit {0})
      first = add_asks (add_expression m f held) (at_expression f e) (arm_asks (expression_at m f e) p) (visited st)

      begins : add_expression m f held e p st ≡ (counted held (at_expression f e) (visited st) >> (λ begun. add_asks (add_expression m f held) (at_expression f e) (arm_asks (expression_at m f e) p) begun >> λ ended. went (recorded e p ended) tt) >>= λ ended a. counted held (at_expression f e) ended >> λ left. went left a)
      begins = add_expression-is m f held e p st low ∙ visit-begins held (at_expression f e) _ st h

      pub visit_16 : max_pieces < count held (visited st) → halt 16 (at_expression f e) ≡ add_expression m f held e p st
      visit_16 l = sym (begins ∙ rw (counted-over held (at_expression f e) (visited st) l))

      pub visit_asks : count held (visited st) ≤ max_pieces → asks_from m f held e p 0 (visited st) ≡ add_expression m f held e p st
      visit_asks l =
          sym
          (begins
          ∙ rw (counted-under held (at_expression f e) (visited st) l)
          (next_then first (λ ended. went (recorded e p ended) tt) (λ ended a. counted held (at_expression f e) ended >> λ left. went left a)
          ∙ next_same first (λ ended. counted held (at_expression f e) (recorded e p ended) >> λ left. went left tt) (closing f held e p) (λ ended. next_self (counted held (at_expression f e) (recorded e p ended)))))

  -- the j-th ask
  module _ (j : ℕ) (st : State) where
    turn : (a : Ask) → get_elem? (arm_asks (expression_at m f e) p) j ≡ some a
        → asks_from m f held e p j st ≡ (add_ask (add_expression m f held) (at_expression f e) a st >> asks_from m f held e p (suc j))
    turn a h =
        ap (λ (x : Out (Unit {0})). x >> closing f held e p) (asks_next (add_expression m f held) (at_expression f e) (arm_asks (expression_at m f e) p) j a st h)
        ∙ next_next (add_ask (add_expression m f held) (at_expression f e) a st) (add_asks (add_expression m f held) (at_expression f e) (drop (suc j) (arm_asks (expression_at m f e) p))) (closing f held e p)

    pub turn_operand : (h : ExpressionHandle) (q : PartReq) → get_elem? (arm_asks (expression_at m f e) p) j ≡ some (of_operand h q)
        → asks_from m f held e p j st ≡ (add_expression m f held h q st >> asks_from m f held e p (suc j))
    unfolding add_ask
    turn_operand h q is = turn (of_operand h q) is

    pub turn_refuse : (n : ℕ) → get_elem? (arm_asks (expression_at m f e) p) j ≡ some (refuse n) → halt n (at_expression f e) ≡ asks_from m f held e p j st
    unfolding add_ask
    turn_refuse n is = sym (turn (refuse n) is)

    pub turn_end : get_elem? (arm_asks (expression_at m f e) p) j ≡ nothing → closing f held e p st ≡ asks_from m f held e p j st
    turn_end is =
        sym (ap (λ (x : Out (Unit {0})). x >> closing f held e p) (asks_done (add_expression m f held) (at_expression f e) (arm_asks (expression_at m f e) p) j st is))

    -- a variable, after which nothing is asked
    module _ (v : ComponentsWithin (expression_at m f e)) where
      ends : (a : Ask) → get_elem? (arm_asks (expression_at m f e) p) j ≡ some a → drop (suc j) (arm_asks (expression_at m f e) p) ≡ []
          → (add_ask (add_expression m f held) (at_expression f e) a st >> closing f held e p) ≡ asks_from m f held e p j st
      unfolding add_asks
      ends a is last =
          sym
          (turn a is
          ∙ next_same (add_ask (add_expression m f held) (at_expression f e) a st) (asks_from m f held e p (suc j)) (closing f held e p)
          (λ ended. ap (λ (xs : List Ask). add_asks (add_expression m f held) (at_expression f e) xs ended >> closing f held e p) last))

      pub turn_argument : (i : ℕ) (q : PartReq) → get_elem? (arm_asks (expression_at m f e) p) j ≡ some (of_argument i q) → ending_argument f held e i p st ≡ asks_from m f held e p j st
      unfolding add_ask
      turn_argument i q is =
          let a = (arm (expression_at m f e) p v).each j (of_argument i q) is in
          ap (λ (r : PartReq). ask_argument (at_expression f e) i r st >> closing f held e p) (sym a.0) ∙ ends (of_argument i q) is a.1

      pub turn_local : (i : ℕ) (q : PartReq) → get_elem? (arm_asks (expression_at m f e) p) j ≡ some (of_local i q) → ending_local f held e i p st ≡ asks_from m f held e p j st
      unfolding add_ask
      turn_local i q is =
          let a = (arm (expression_at m f e) p v).each j (of_local i q) is in
          ap (λ (r : PartReq). ask_local (at_expression f e) i r st >> closing f held e p) (sym a.0) ∙ ends (of_local i q) is a.1

      pub turn_global : (i : ℕ) (q : PartReq) → get_elem? (arm_asks (expression_at m f e) p) j ≡ some (of_global i q) → ending_global f held e i p st ≡ asks_from m f held e p j st
      unfolding add_ask
      turn_global i q is =
          let a = (arm (expression_at m f e) p v).each j (of_global i q) is in
          ap (λ (r : PartReq). ask_global (at_expression f e) i r (get_subpart st.globals (variable i)) st >> closing f held e p) (sym a.0) ∙ ends (of_global i q) is a.1
