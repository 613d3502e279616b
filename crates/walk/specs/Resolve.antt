-- `resolve_var` and `store_required`: what a store's pointer names, and what is needed of that.
use Rattle.std.specs.Prelude.{ℕ, Bool, true, false, List, [], ◌∷◌, ◌++◌, get_or}
use Rattle.std.proofs.Math.Option.{none as nothing}
use Rattle.part.specs.PartReq.{PartReq, all, exist, none, more, Subpart, gone, there, get_subpart, from_indexes}
use Rattle.module.specs.Module.{ExpressionHandle, FunctionHandle, Function, Module, Expression, Literal}
use Rattle.module.specs.Way.{Way, constantly, dynamically, to_global, to_local, no_way, way_of}
use Rattle.context.specs.RequiredContext.{RequiredContext, VarRef, Global, Local, variable}
use Rattle.module.specs.Knot.{knot}

-- A function and an expression by number. A module that was read has every one that it names, so that what is given for others never shows.
unfoldable pub function_at : Module → FunctionHandle → Function
function_at m f =
    get_or m.functions f
    (record { entry = false; result = nothing; arguments = []; locals = []; expressions = []; statements = []; blocks = [] })

unfoldable pub expression_at : Module → FunctionHandle → ExpressionHandle → Expression
expression_at m f e = (get_or (function_at m f).expressions e (record { type = 0; expression = Literal })).expression

-- `VarRefPart`: the variable and its part that a pointer names; or the panic at a pointer that names none
pub data VarRefPart : Type 0 where
  resolved : VarRef → PartReq → VarRefPart
  unresolved : VarRefPart

-- 01's number of each: 0 where a variable is named
abbrev pub refusal : VarRefPart → ℕ
refusal (resolved var part) = 0
refusal unresolved = 13

-- with r what resolves a lower expression
abbrev pub resolve_way : (ExpressionHandle → List ℕ → VarRefPart) → Way → List ℕ → VarRefPart
resolve_way r (constantly base index) indexes = r base (indexes ++ (index ∷ []))
resolve_way r (dynamically base index) indexes = r base []
resolve_way r (to_global gv) indexes = resolved (Global gv) (from_indexes indexes)
resolve_way r (to_local lv) indexes = resolved (Local lv) (from_indexes indexes)
resolve_way r no_way indexes = unresolved

unfoldable pub resolve_arm : (ExpressionHandle → List ℕ → VarRefPart) → Expression → List ℕ → VarRefPart
resolve_arm r x indexes = resolve_way r (way_of x) indexes

-- `resolve_var`. (An operand is below its expression, so that the case of another number never shows.)
unfoldable pub resolve_var : Module → FunctionHandle → ExpressionHandle → List ℕ → VarRefPart
resolve_var m f = knot (λ r e. resolve_arm r (expression_at m f e)) (λ indexes. unresolved)

unfoldable pub is_there : Subpart → Bool
is_there gone = false
is_there (there p) = true

-- what is needed where the whole is assigned
unfoldable pub needed : Subpart → Subpart
needed gone = gone
needed (there all) = there all
needed (there exist) = gone
needed (there none) = there none
needed (there (more i p r)) = there (more i p r)

-- what is needed where the index j is assigned, with `sub` what is needed below it
unfoldable pub needed_at : ℕ → (Subpart → Subpart) → Subpart → Subpart
needed_at j sub gone = gone
needed_at j sub (there all) = there all
needed_at j sub (there exist) = gone
needed_at j sub (there none) = sub gone
needed_at j sub (there (more i p r)) = sub (get_subpart (more i p r) j)

-- `check_part`, the target first. (A path has one entry on each level: its assertion holds, and the empty part is none.)
unfoldable pub check_part : PartReq → Subpart → Subpart
check_part all = needed
check_part exist = λ required. gone
check_part none = λ required. gone
check_part (more j q s) = needed_at j (check_part q)

-- `store_required`
unfoldable pub store_required : RequiredContext → VarRef → PartReq → Subpart
store_required c (Global gv) part = check_part part (get_subpart c.globals (variable gv))
store_required c (Local lv) part = check_part part (get_subpart c.locals (variable lv))
