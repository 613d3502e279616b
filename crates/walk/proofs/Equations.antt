-- The recursions of the walk, one step each; and that an arm whose operands are below its expression walks them with the walk itself.
use mathlib.Core.Path.{◌≡◌, refl, sym, ap, ◌∙◌, fun_ext}
use mathlib.Core.List.{List, [], ◌∷◌, ◌++◌}
use mathlib.Core.Option.{some, none as nothing, none-ne-some, some-injective}
use lib.ListN.{get_elem?, drop}
use Rattle.walk.specs.Lower.{LowerExpression}
use Prim.Native.Nat.{ℕ, zero, suc}
use Rattle.part.specs.PartReq.{PartReq, get_subpart}
use Rattle.module.specs.Module.{Module, FunctionHandle, ExpressionHandle}
use Rattle.context.specs.RequiredContext.{variable}
use Rattle.module.specs.Knot.{knot, below}
use Rattle.walk.proofs.Bind.{next_same}
use Rattle.walk.specs.State.{State, Place, at_expression, went, Walk, ◌>>◌, visit}
use Rattle.walk.specs.Resolve.{function_at, expression_at, VarRefPart, unresolved, resolve_way, resolve_arm, resolve_var}
use Rattle.walk.specs.Expression.{Ask, of_operand, of_argument, of_global, of_local, refuse, arm_asks, ask_argument, ask_global, ask_local, add_ask, add_asks, recorded, step_expression, no_operand, add_expression}
use Rattle.module.proofs.Knot.{knot-is, below-lt}
use Rattle.module.specs.Way.{Way, constantly, dynamically, to_global, to_local, no_way, way_of}
use Rattle.valid.specs.Valid.{OperandsBelow}
use Rattle.valid.proofs.Ways.{WayBelow, way_below}
use Rattle.walk.proofs.Reach.{AllReach, arm_there}
use lib.ListN.{length}

-- where what is asked is there, calls by way of lower numbers are calls
module _ (globals arguments locals : ℕ) where
  asks-lower : (w : ExpressionHandle → PartReq → Walk (Unit {0})) (d : PartReq → Walk (Unit {0})) (e : ℕ) (here : Place) (asks : List Ask) → AllReach globals arguments locals e asks → (st : State) → add_asks (below w d e) here asks st ≡ add_asks w here asks st
  unfolding add_asks add_ask
  asks-lower w d e here [] h st = refl
  asks-lower w d e here (of_operand a p ∷ rest) h st =
      rw (below-lt w d e a h.0)
      (next_same (w a p st) (add_asks (below w d e) here rest) (add_asks w here rest) (asks-lower w d e here rest h.1))
  asks-lower w d e here (of_argument i p ∷ rest) h st =
      next_same (ask_argument here i p st) (add_asks (below w d e) here rest) (add_asks w here rest) (asks-lower w d e here rest h.1)
  asks-lower w d e here (of_global g p ∷ rest) h st =
      next_same (ask_global here g p (get_subpart st.globals (variable g)) st) (add_asks (below w d e) here rest) (add_asks w here rest) (asks-lower w d e here rest h.1)
  asks-lower w d e here (of_local l p ∷ rest) h st =
      next_same (ask_local here l p st) (add_asks (below w d e) here rest) (add_asks w here rest) (asks-lower w d e here rest h.1)
  asks-lower w d e here (refuse n ∷ rest) h st = refl

-- the asks from the j-th on: a loop over their numbers
pub asks_next : (w : ExpressionHandle → PartReq → Walk (Unit {0})) (here : Place) (asked : List Ask) (j : ℕ) (a : Ask) (st : State) → get_elem? asked j ≡ some a → add_asks w here (drop j asked) st ≡ (add_ask w here a st >> add_asks w here (drop (suc j) asked))
unfolding add_asks
asks_next w here [] j a st e = absurd (none-ne-some a e)
asks_next w here (x ∷ asked) zero a st e = ap (λ (y : Ask). add_ask w here y st >> add_asks w here asked) (some-injective x a e)
asks_next w here (x ∷ asked) (suc j) a st e = asks_next w here asked j a st e

pub asks_done : (w : ExpressionHandle → PartReq → Walk (Unit {0})) (here : Place) (asked : List Ask) (j : ℕ) (st : State) → get_elem? asked j ≡ nothing → add_asks w here (drop j asked) st ≡ went st tt
unfolding add_asks
asks_done w here [] zero st e = refl
asks_done w here [] (suc j) st e = refl
asks_done w here (x ∷ asked) zero st e = absurd (none-ne-some x (sym e))
asks_done w here (x ∷ asked) (suc j) st e = asks_done w here asked j st e

-- a visit of an expression
pub add_expression-is : (m : Module) (f : FunctionHandle) (held : ℕ) (e : ExpressionHandle) (p : PartReq) (st : State) → LowerExpression m f e → add_expression m f held e p st ≡ visit held (at_expression f e) (λ begun. add_asks (add_expression m f held) (at_expression f e) (arm_asks (expression_at m f e) p) begun >> λ ended. went (recorded e p ended) tt) st
unfolding add_expression step_expression
add_expression-is m f held e p st h =
    ap (λ (w : PartReq → Walk (Unit {0})). w p st) (knot-is (step_expression m f held) no_operand e)
    ∙ ap (λ (asked : Walk (Unit {0})). visit held (at_expression f e) (λ begun. asked begun >> λ ended. went (recorded e p ended) tt) st)
    (fun_ext (asks-lower (length m.globals) (length (function_at m f).arguments) (length (function_at m f).locals) (knot (step_expression m f held) no_operand) no_operand e (at_expression f e) (arm_asks (expression_at m f e) p) (arm_there (length m.globals) (length (function_at m f).arguments) (length (function_at m f).locals) e (expression_at m f e) p h.operands h.names)))

-- a path, one step each
module _ (m : Module) (f : FunctionHandle) (e : ExpressionHandle) where
  resolve_step : (indexes : List ℕ) → resolve_var m f e indexes ≡ resolve_arm (below (resolve_var m f) (λ indexes. unresolved) e) (expression_at m f e) indexes
  unfolding resolve_var
  resolve_step indexes =
      ap (λ (r : List ℕ → VarRefPart). r indexes) (knot-is (λ r e. resolve_arm r (expression_at m f e)) (λ indexes. unresolved) e)

  -- where the base of its way is lower
  way_same : (r : ExpressionHandle → List ℕ → VarRefPart) (d : List ℕ → VarRefPart) (w : Way) (indexes : List ℕ) → WayBelow e w → resolve_way (below r d e) w indexes ≡ resolve_way r w indexes
  way_same r d (constantly base index) indexes h = ap (λ (q : List ℕ → VarRefPart). q (indexes ++ (index ∷ []))) (below-lt r d e base h)
  way_same r d (dynamically base index) indexes h = ap (λ (q : List ℕ → VarRefPart). q []) (below-lt r d e base h)
  way_same r d (to_global gv) indexes h = refl
  way_same r d (to_local lv) indexes h = refl
  way_same r d no_way indexes h = refl

  pub resolve_is : (indexes : List ℕ) → OperandsBelow e (expression_at m f e) → resolve_var m f e indexes ≡ resolve_arm (resolve_var m f) (expression_at m f e) indexes
  unfolding resolve_arm
  resolve_is indexes h =
      resolve_step indexes
      ∙ way_same (resolve_var m f) (λ indexes. unresolved) (way_of (expression_at m f e)) indexes (way_below e (expression_at m f e) h)
