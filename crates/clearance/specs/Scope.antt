-- A function within its module: the shapes of its types, the places of its values, and what each of its expressions is to the
-- clearance and to a run.
use Rattle.std.specs.Prelude.{ℕ, zero, suc, ◌+◌, ◌-◌, ◌*◌, ◌/◌, ◌%◌, Bool, true, false, cond, ◌&&◌, ◌||◌, List, [], ◌∷◌, ◌++◌, map, ltb, eqb, length, get_or}
use Rattle.std.proofs.Math.Option.{Option, some, none as nothing}
use Rattle.part.specs.PartReq.{spine}
pub use Rattle.part.specs.PartReq.{variable}
use Rattle.module.specs.Module.{TypeHandle, TypeInner, Scalar, Vector, Matrix, Atomic, Pointer, Array, Struct, BindingArray, Opaque, Member}
use Rattle.module.specs.Module.{ExpressionHandle, Expression, Typed, Function, FunctionResult, FunctionArg, Module}
use Rattle.module.specs.Module.{Literal, ZeroValue, WorkGroupUniformLoadResult, AccessIndex, Access, Constant, Splat, Swizzle, Compose}
use Rattle.module.specs.Module.{FunctionArgument, GlobalVariable, LocalVariable, Load, ImageSample, ImageLoad, ImageQuery, Unary, Binary, Select}
use Rattle.module.specs.Module.{Derivative, Relational, Math, As, CallResult, AtomicResult, ArrayLength, RayQueryProceedResult}
use Rattle.module.specs.Module.{RayQueryGetIntersection, Override, SubgroupBallotResult, SubgroupOperationResult, RayQueryVertexPositions}
use Rattle.module.specs.Way.{Way, constantly, dynamically, to_global, to_local, no_way, way_of}
use Rattle.module.specs.Knot.{knot}
use Rattle.clearance.specs.Shape.{Shape, number, void, struct, array}

pub record Scope : Type 0 where
  pub program : Module
  pub function : Function

-- Types

unfoldable pub inner : Scope → TypeHandle → TypeInner
inner S t = get_or S.program.types t Opaque

unfoldable pub member_types : List Member → ℕ → TypeHandle
member_types [] j = 0
member_types (m ∷ ms) zero = m.type
member_types (m ∷ ms) (suc j) = member_types ms j

unfoldable pub vector_shape : ℕ → Shape
vector_shape n = struct 0 n (λ j. number)

-- No index is outside a run-sized or binding array: a file's indexes are below `spine`.
unfoldable pub elements : ℕ → ℕ
elements n = cond (eqb n 0) spine n

-- A type with the shapes of its own types in place. What has no parts is a number.
unfoldable pub unfold_type : (TypeHandle → Shape) → TypeInner → Shape
unfold_type shape Scalar = number
unfold_type shape (Vector n) = vector_shape n
unfold_type shape (Matrix columns rows) = struct 0 columns (λ j. vector_shape rows)
unfold_type shape Atomic = number
unfold_type shape (Pointer base) = number
unfold_type shape (Array base n) = array (elements n) (shape base)
unfold_type shape (Struct ms) = struct 0 (length ms) (λ j. shape (member_types ms j))
unfold_type shape (BindingArray base) = array spine (shape base)
unfold_type shape Opaque = number

unfoldable pub shape_of : Scope → TypeHandle → Shape
shape_of S t = knot (λ shape h. unfold_type shape (inner S h)) number t

-- a type's kind, with its sizes, as the files have them
unfoldable pub kind : TypeInner → List ℕ
kind Scalar = 0 ∷ []
kind (Vector n) = 1 ∷ n ∷ []
kind (Matrix columns rows) = 2 ∷ columns ∷ rows ∷ []
kind Atomic = 3 ∷ []
kind (Pointer base) = 4 ∷ []
kind (Array base n) = 5 ∷ n ∷ []
kind (Struct ms) = 6 ∷ []
kind (BindingArray base) = 7 ∷ []
kind Opaque = 8 ∷ []

-- the types that a type is made of
unfoldable pub bases : TypeInner → List TypeHandle
bases Scalar = []
bases (Vector n) = []
bases (Matrix columns rows) = []
bases Atomic = []
bases (Pointer base) = base ∷ []
bases (Array base n) = base ∷ []
bases (Struct ms) = map (λ m. m.type) ms
bases (BindingArray base) = base ∷ []
bases Opaque = []

unfoldable pub is_kind : ℕ → TypeInner → Bool
is_kind k i = eqb (get_or (kind i) 0 0) k

abbrev pub is_scalar : TypeInner → Bool
is_scalar = is_kind 0

abbrev pub is_vector : TypeInner → Bool
is_vector = is_kind 1

abbrev pub is_pointer : TypeInner → Bool
is_pointer = is_kind 4

-- whether two lists are as long and pairwise related
unfoldable pub pairwise : {A B : Type 0} → (A → B → Bool) → List A → List B → Bool
pairwise same [] [] = true
pairwise same [] (y ∷ ys) = false
pairwise same (x ∷ xs) [] = false
pairwise same (x ∷ xs) (y ∷ ys) = same x y && pairwise same xs ys

unfoldable pub alike_inner : (TypeHandle → TypeHandle → Bool) → TypeInner → TypeInner → Bool
alike_inner same i j = pairwise eqb (kind i) (kind j) && pairwise same (bases i) (bases j)

-- 01: types fit by shape. Whether two types have the same shape.
unfoldable pub alike : Scope → TypeHandle → TypeHandle → Bool
alike S t u = knot {A = TypeHandle → Bool} (λ same h g. alike_inner same (inner S h) (inner S g)) (λ g. false) t u

-- whether a type has the shape of one whose inside is given
unfoldable pub fits : Scope → TypeInner → TypeHandle → Bool
fits S i t = alike_inner (alike S) i (inner S t)

-- Places

-- where a value is: a global, a local, an argument, the returned value, an evaluated expression
pub data Slot : Type 0 where
  global : ℕ → Slot
  local : ℕ → Slot
  argument : ℕ → Slot
  result : Slot
  evaluated : ExpressionHandle → Slot

-- A place is a path: the slot's, and then one into its value.
abbrev pub Place : Type 0
Place = List ℕ

unfoldable pub slot : Slot → Place
slot (global g) = variable 0 ∷ variable g ∷ []
slot (local l) = variable 1 ∷ variable l ∷ []
slot (argument a) = variable 2 ∷ variable a ∷ []
slot result = variable 3 ∷ []
slot (evaluated e) = variable (4 + e / 32) ∷ variable (e % 32) ∷ []

abbrev pub expressions_of : Scope → List Typed
expressions_of S = S.function.expressions

abbrev pub no_expression : Typed
no_expression = record { type = 0; expression = Literal }

unfoldable pub typed : Scope → ExpressionHandle → Typed
typed S e = get_or (expressions_of S) e no_expression

unfoldable pub type_of : Scope → ExpressionHandle → TypeHandle
type_of S e = (typed S e).type

unfoldable pub inner_of : Scope → ExpressionHandle → TypeInner
inner_of S e = inner S (type_of S e)

unfoldable pub argument_type : List FunctionArg → ℕ → TypeHandle
argument_type [] a = 0
argument_type (x ∷ xs) zero = x.type
argument_type (x ∷ xs) (suc a) = argument_type xs a

unfoldable pub result_shape : Scope → Option FunctionResult → Shape
result_shape S nothing = void
result_shape S (some r) = shape_of S r.type

-- the shapes of n slots
unfoldable pub slots : ℕ → (ℕ → Shape) → Shape
slots n shape = struct spine n (λ j. shape (j - spine))

unfoldable pub kind_shape : Scope → ℕ → Shape
kind_shape S zero = slots (length S.program.globals) (λ g. shape_of S (get_or S.program.globals g 0))
kind_shape S (suc zero) = slots (length S.function.locals) (λ l. shape_of S (get_or S.function.locals l 0))
kind_shape S (suc (suc zero)) = slots (length S.function.arguments) (λ a. shape_of S (argument_type S.function.arguments a))
kind_shape S (suc (suc (suc zero))) = result_shape S S.function.result
kind_shape S (suc (suc (suc (suc b)))) = slots 32 (λ e. shape_of S (type_of S (32 * b + e)))

-- all that a run holds, as one shape
unfoldable pub frame : Scope → Shape
frame S = slots (5 + length (expressions_of S) / 32) (kind_shape S)

-- Paths

-- one step of a path: a constant index, or one by an expression
pub data Step : Type 0 where
  at : ℕ → Step
  by : ExpressionHandle → Step

-- A variable and the steps from it.
pub record Path : Type 0 where
  pub root : Place
  pub steps : List Step

-- what is no path leads nowhere: 0 is no slot's index, and those are above it
abbrev pub nowhere : Path
nowhere = record { root = 0 ∷ []; steps = [] }

unfoldable pub further : Path → Step → Path
further p x = record { root = p.root; steps = p.steps ++ (x ∷ []) }

-- a path by its expression's way, with `path` what lower ones give
abbrev pub step_way : (ExpressionHandle → Path) → Way → Path
step_way path (constantly base index) = further (path base) (at index)
step_way path (dynamically base index) = further (path base) (by index)
step_way path (to_global g) = record { root = slot (global g); steps = [] }
step_way path (to_local l) = record { root = slot (local l); steps = [] }
step_way path no_way = nowhere

unfoldable pub step_from : (ExpressionHandle → Path) → Expression → Path
step_from path x = step_way path (way_of x)

-- the path that a pointer is
unfoldable pub path_of : Scope → ExpressionHandle → Path
path_of S e = knot (λ path h. step_from path (typed S h).expression) nowhere e

-- the constant steps before the first dynamic index
unfoldable pub front : List Step → List ℕ
front [] = []
front (at i ∷ xs) = i ∷ front xs
front (by e ∷ xs) = []

-- the expressions of the dynamic indexes
unfoldable pub indexes : List Step → List ExpressionHandle
indexes [] = []
indexes (at i ∷ xs) = indexes xs
indexes (by e ∷ xs) = e ∷ indexes xs

-- the part of a variable that a path names for sure
unfoldable pub target : Path → Place
target p = p.root ++ front p.steps

-- Whether an expression is a path: a global or local variable, or an index of a path. Its type may be its variable's, or a pointer to it.
unfoldable pub is_path : Scope → ExpressionHandle → Bool
is_path S e = ltb 0 (get_or (path_of S e).root 0 0)

-- Expressions

-- how an operator uses an operand: all of it, or for each part of the result the same part
pub data Operand : Type 0 where
  whole : ExpressionHandle → Operand
  same : ExpressionHandle → Operand

-- What an expression is to the clearance and to a run. The first three need no emit, and one changes nothing.
pub data Arm : Type 0 where
  -- Literal, ZeroValue, Constant
  fixed : Arm
  argued : ℕ → Arm
  -- a path
  pointing : Arm
  operator : List Operand → Arm
  access_index : (base : ExpressionHandle) → (index : ℕ) → Arm
  access : (base index : ExpressionHandle) → Arm
  swizzle : (vector : ExpressionHandle) → (pattern : List ℕ) → Arm
  compose : (components : List ExpressionHandle) → Arm
  -- a vector built from vectors
  joined : (components : List ExpressionHandle) → Arm
  load : (pointer : ExpressionHandle) → Arm
  -- a kind that is not judged
  unjudged : Arm

-- Binary is by part if both operands have the result's type and it is scalar or vector.
unfoldable pub by_part : Scope → ExpressionHandle → ExpressionHandle → ExpressionHandle → Bool
by_part S e l r =
    (is_scalar (inner_of S e) || is_vector (inner_of S e)) && (alike S (type_of S l) (type_of S e) && alike S (type_of S r) (type_of S e))

unfoldable pub any_vector : Scope → List ExpressionHandle → Bool
any_vector S [] = false
any_vector S (c ∷ cs) = is_vector (inner_of S c) || any_vector S cs

unfoldable pub optional : Option ExpressionHandle → List Operand
optional nothing = []
optional (some e) = whole e ∷ []

unfoldable pub arm_of : Scope → ExpressionHandle → Expression → Arm
arm_of S e Literal = fixed
arm_of S e ZeroValue = fixed
arm_of S e WorkGroupUniformLoadResult = unjudged
arm_of S e (AccessIndex base index) = cond (is_path S e) pointing (access_index base index)
arm_of S e (Access base index) = cond (is_path S e) pointing (access base index)
arm_of S e Constant = fixed
arm_of S e (Splat value) = operator (whole value ∷ [])
arm_of S e (Swizzle vector pattern) = swizzle vector pattern
arm_of S e (Compose components) = cond (is_vector (inner_of S e) && any_vector S components) (joined components) (compose components)
arm_of S e (FunctionArgument index) = argued index
arm_of S e (GlobalVariable g) = pointing
arm_of S e (LocalVariable l) = pointing
arm_of S e (Load pointer) = load pointer
arm_of S e (ImageSample image sampler coordinate array_index level depth_ref) = unjudged
arm_of S e (ImageLoad image coordinate array_index sample level) = unjudged
arm_of S e (ImageQuery image level) = unjudged
arm_of S e (Unary x) = operator (same x ∷ [])
arm_of S e (Binary left right) = operator (cond (by_part S e left right) (same left ∷ same right ∷ []) (whole left ∷ whole right ∷ []))
arm_of S e (Select condition accept reject) = operator (whole condition ∷ same accept ∷ same reject ∷ [])
arm_of S e (Derivative x) = unjudged
arm_of S e (Relational x) = operator (whole x ∷ [])
arm_of S e (Math x x1 x2 x3) = operator (whole x ∷ optional x1 ++ (optional x2 ++ optional x3))
arm_of S e (As x) = operator (same x ∷ [])
arm_of S e CallResult = unjudged
arm_of S e AtomicResult = unjudged
arm_of S e (ArrayLength x) = unjudged
arm_of S e RayQueryProceedResult = unjudged
arm_of S e (RayQueryGetIntersection query) = unjudged
arm_of S e Override = unjudged
arm_of S e SubgroupBallotResult = unjudged
arm_of S e SubgroupOperationResult = unjudged
arm_of S e RayQueryVertexPositions = unjudged

unfoldable pub arm : Scope → ExpressionHandle → Arm
arm S e = arm_of S e (typed S e).expression

-- where an operand's value is: it is a fixed one, or stands at a place
pub data Source : Type 0 where
  given : Source
  from : Place → Source

unfoldable pub source_of : ExpressionHandle → Arm → Source
source_of e fixed = given
source_of e (argued a) = from (slot (argument a))
source_of e pointing = from (slot (evaluated e))
source_of e (operator xs) = from (slot (evaluated e))
source_of e (access_index base index) = from (slot (evaluated e))
source_of e (access base index) = from (slot (evaluated e))
source_of e (swizzle vector pattern) = from (slot (evaluated e))
source_of e (compose components) = from (slot (evaluated e))
source_of e (joined components) = from (slot (evaluated e))
source_of e (load pointer) = from (slot (evaluated e))
source_of e unjudged = from (slot (evaluated e))

unfoldable pub source : Scope → ExpressionHandle → Source
source S e = source_of e (arm S e)
