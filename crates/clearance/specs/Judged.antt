-- 01's "Judged": which functions the clearance judges, and otherwise the lowest expression, else the lowest statement, to blame.
use Rattle.std.specs.Prelude.{ℕ, suc, ◌+◌, Bool, true, false, cond, not, ◌&&◌, ◌||◌, List, [], ◌∷◌, ◌++◌, ltb, eqb, length, get_or}
use Rattle.std.proofs.Math.Option.{Option, some, none as nothing}
use Rattle.module.specs.Module.{TypeHandle, TypeInner, Scalar, Vector, Matrix, Atomic, Pointer, Array, Struct, BindingArray, Opaque}
use Rattle.module.specs.Module.{ExpressionHandle, Expression, FunctionResult, Statement}
use Rattle.module.specs.Module.{Literal, ZeroValue, WorkGroupUniformLoadResult, AccessIndex, Access, Constant, Splat, Swizzle, Compose}
use Rattle.module.specs.Module.{FunctionArgument, GlobalVariable, LocalVariable, Load, ImageSample, ImageLoad, ImageQuery, Unary, Binary, Select}
use Rattle.module.specs.Module.{Derivative, Relational, Math, As, CallResult, AtomicResult, ArrayLength, RayQueryProceedResult}
use Rattle.module.specs.Module.{RayQueryGetIntersection, Override, SubgroupBallotResult, SubgroupOperationResult, RayQueryVertexPositions}
use Rattle.module.specs.Module.{Emit, Block, If, Switch, Loop, Break, Continue, Return, Kill, ControlBarrier, MemoryBarrier, ImageAtomic, Store}
use Rattle.module.specs.Module.{AtomicStatement, Call, ImageStore, RayQuery, WorkGroupUniformLoad, SubgroupBallot, SubgroupGather, SubgroupCollectiveOperation}
use Rattle.module.specs.Knot.{knot}
use Rattle.clearance.specs.Scope.{Scope, inner, member_types, is_scalar, is_vector, pairwise, alike_inner, alike, fits, typed, type_of, inner_of, argument_type, is_pointer, is_path}
use Rattle.clearance.specs.Tree.{Tree, nop, seq, act, branch, switch, loop, break, continue, return, unmarked}
use Rattle.clearance.specs.Needs.{Exit, next, broke, continued, returned, only_next, concat}

-- Types

unfoldable pub every : {A : Type 0} → (A → Bool) → List A → Bool
every test [] = true
every test (x ∷ xs) = test x && every test xs

unfoldable pub presently : (ExpressionHandle → Bool) → Option ExpressionHandle → Bool
presently test nothing = true
presently test (some e) = test e

-- the part `index` of a value: a component, a column, an element, a member, where it is within its base
unfoldable pub part_type : Scope → TypeInner → ℕ → Option TypeInner
part_type S Scalar index = nothing
part_type S (Vector n) index = cond (ltb index n) (some Scalar) nothing
part_type S (Matrix columns rows) index = cond (ltb index columns) (some (Vector rows)) nothing
part_type S Atomic index = nothing
part_type S (Pointer base) index = nothing
part_type S (Array base n) index = cond (ltb index n) (some (inner S base)) nothing
part_type S (Struct ms) index = cond (ltb index (length ms)) (some (inner S (member_types ms index))) nothing
part_type S (BindingArray base) index = nothing
part_type S Opaque index = nothing

-- what a dynamic index gives
unfoldable pub element_type : Scope → TypeInner → Option TypeInner
element_type S Scalar = nothing
element_type S (Vector n) = some Scalar
element_type S (Matrix columns rows) = some (Vector rows)
element_type S Atomic = nothing
element_type S (Pointer base) = nothing
element_type S (Array base n) = some (inner S base)
element_type S (Struct ms) = nothing
element_type S (BindingArray base) = nothing
element_type S Opaque = nothing

unfoldable pub pointee_type : Scope → TypeInner → TypeInner
pointee_type S Scalar = Scalar
pointee_type S (Vector n) = Vector n
pointee_type S (Matrix columns rows) = Matrix columns rows
pointee_type S Atomic = Atomic
pointee_type S (Pointer base) = inner S base
pointee_type S (Array base n) = Array base n
pointee_type S (Struct ms) = Struct ms
pointee_type S (BindingArray base) = BindingArray base
pointee_type S Opaque = Opaque

-- what a path leads to: the base of its pointer type, or its type where that is no pointer
unfoldable pub pointee : Scope → ExpressionHandle → TypeInner
pointee S e = pointee_type S (inner_of S e)

unfoldable pub same : Scope → TypeInner → TypeInner → Bool
same S i j = alike_inner (alike S) i j

unfoldable pub same_part : Scope → Option TypeInner → TypeInner → Bool
same_part S nothing j = false
same_part S (some i) j = same S i j

-- a value: pointers serve only as paths
unfoldable pub is_value : Scope → ExpressionHandle → Bool
is_value S e = not (is_path S e) && not (is_pointer (inner_of S e))

-- whether a type holds an array of count 0 or a binding array; a pointer does not hold its pointee
unfoldable pub holds_in : (TypeHandle → Bool) → TypeInner → Bool
holds_in holds Scalar = false
holds_in holds (Vector n) = false
holds_in holds (Matrix columns rows) = false
holds_in holds Atomic = false
holds_in holds (Pointer base) = false
holds_in holds (Array base n) = eqb n 0 || holds base
holds_in holds (Struct ms) = not (every (λ m. not (holds m.type)) ms)
holds_in holds (BindingArray base) = true
holds_in holds Opaque = false

unfoldable pub holds_unsized : Scope → TypeHandle → Bool
holds_unsized S t = knot (λ holds h. holds_in holds (inner S h)) false t

-- of a pointer, whether its pointee does
unfoldable pub pointee_holds : (TypeHandle → Bool) → TypeInner → Bool
pointee_holds holds Scalar = false
pointee_holds holds (Vector n) = false
pointee_holds holds (Matrix columns rows) = false
pointee_holds holds Atomic = false
pointee_holds holds (Pointer base) = holds base
pointee_holds holds (Array base n) = false
pointee_holds holds (Struct ms) = false
pointee_holds holds (BindingArray base) = false
pointee_holds holds Opaque = false

-- the type or its pointee
unfoldable pub holds_either : Scope → TypeHandle → Bool
holds_either S t = holds_unsized S t || pointee_holds (holds_unsized S) (inner S t)

-- Expressions

-- index within its base: of a path what it leads to is indexed, of a value the value
unfoldable pub fits_index : Scope → (TypeInner → Option TypeInner) → ExpressionHandle → ExpressionHandle → Bool
fits_index S part base e =
    cond (is_path S base) (same_part S (part (pointee S base)) (pointee S e))
    (is_value S base && (is_value S e && same_part S (part (inner_of S base)) (inner_of S e)))

unfoldable pub has_vector_size : TypeInner → (ℕ → Bool) → Bool
has_vector_size Scalar f = false
has_vector_size (Vector n) f = f n
has_vector_size (Matrix columns rows) f = false
has_vector_size Atomic f = false
has_vector_size (Pointer base) f = false
has_vector_size (Array base n) f = false
has_vector_size (Struct ms) f = false
has_vector_size (BindingArray base) f = false
has_vector_size Opaque f = false

-- how many components a scalar or a vector gives
unfoldable pub component_count : TypeInner → ℕ
component_count Scalar = 1
component_count (Vector n) = n
component_count (Matrix columns rows) = 0
component_count Atomic = 0
component_count (Pointer base) = 0
component_count (Array base n) = 0
component_count (Struct ms) = 0
component_count (BindingArray base) = 0
component_count Opaque = 0

unfoldable pub count_components : Scope → List ExpressionHandle → ℕ
count_components S [] = 0
count_components S (c ∷ cs) = component_count (inner_of S c) + count_components S cs

unfoldable pub fits_compose : Scope → TypeInner → List ExpressionHandle → Bool
fits_compose S Scalar cs = false
fits_compose S (Vector n) cs = every (λ c. is_scalar (inner_of S c) || is_vector (inner_of S c)) cs && eqb (count_components S cs) n
fits_compose S (Matrix columns rows) cs = eqb (length cs) columns && every (λ c. fits S (Vector rows) (type_of S c)) cs
fits_compose S Atomic cs = false
fits_compose S (Pointer base) cs = false
fits_compose S (Array base n) cs = eqb (length cs) n && every (λ c. alike S base (type_of S c)) cs
fits_compose S (Struct ms) cs = pairwise (λ m c. alike S m.type (type_of S c)) ms cs
fits_compose S (BindingArray base) cs = false
fits_compose S Opaque cs = false

-- a variable as declared; one whose own type is a pointer is no end of a path
unfoldable pub fits_variable : Scope → ExpressionHandle → TypeHandle → Bool
fits_variable S e t = not (is_pointer (inner S t)) && same S (inner S t) (pointee S e)

unfoldable pub fits_expression : Scope → ExpressionHandle → Expression → Bool
fits_expression S e Literal = is_value S e
fits_expression S e ZeroValue = is_value S e
fits_expression S e WorkGroupUniformLoadResult = false
fits_expression S e (AccessIndex base index) = fits_index S (λ i. part_type S i index) base e
fits_expression S e (Access base index) = is_value S index && fits_index S (element_type S) base e
fits_expression S e Constant = is_value S e
fits_expression S e (Splat value) = is_value S value && (is_scalar (inner_of S value) && is_vector (inner_of S e))
fits_expression S e (Swizzle vector pattern) =
    is_value S vector && has_vector_size (inner_of S vector) (λ n. every (λ i. ltb i n) pattern && fits S (Vector (length pattern)) (type_of S e))
fits_expression S e (Compose components) = every (is_value S) components && fits_compose S (inner_of S e) components
fits_expression S e (FunctionArgument index) = is_value S e && alike S (argument_type S.function.arguments index) (type_of S e)
fits_expression S e (GlobalVariable g) = fits_variable S e (get_or S.program.globals g 0)
fits_expression S e (LocalVariable l) = fits_variable S e (get_or S.function.locals l 0)
fits_expression S e (Load pointer) = is_value S e && (is_path S pointer && same S (pointee S pointer) (inner_of S e))
fits_expression S e (ImageSample image sampler coordinate array_index level depth_ref) = false
fits_expression S e (ImageLoad image coordinate array_index sample level) = false
fits_expression S e (ImageQuery image level) = false
fits_expression S e (Unary x) = is_value S e && (is_value S x && alike S (type_of S x) (type_of S e))
fits_expression S e (Binary left right) = is_value S e && (is_value S left && is_value S right)
fits_expression S e (Select condition accept reject) =
    is_value S e && (every (is_value S) (condition ∷ accept ∷ reject ∷ [])
    && (alike S (type_of S accept) (type_of S e) && alike S (type_of S reject) (type_of S e)))
fits_expression S e (Derivative x) = false
fits_expression S e (Relational x) = is_value S e && is_value S x
fits_expression S e (Math x x1 x2 x3) =
    is_value S e && (is_value S x && (presently (is_value S) x1 && (presently (is_value S) x2 && presently (is_value S) x3)))
fits_expression S e (As x) = is_value S e && (is_value S x && alike S (type_of S x) (type_of S e))
fits_expression S e CallResult = false
fits_expression S e AtomicResult = false
fits_expression S e (ArrayLength x) = false
fits_expression S e RayQueryProceedResult = false
fits_expression S e (RayQueryGetIntersection query) = false
fits_expression S e Override = false
fits_expression S e SubgroupBallotResult = false
fits_expression S e SubgroupOperationResult = false
fits_expression S e RayQueryVertexPositions = false

unfoldable pub judged_expression : Scope → ExpressionHandle → Bool
judged_expression S e = fits_expression S e (typed S e).expression && not (holds_either S (type_of S e))

-- Statements

unfoldable pub fits_return : Scope → Option FunctionResult → ExpressionHandle → Bool
fits_return S nothing v = false
fits_return S (some r) v = alike S r.type (type_of S v)

unfoldable pub fits_statement : Scope → Statement → Bool
fits_statement S (Emit first last) = true
fits_statement S (Block b) = true
fits_statement S (If condition accept reject) = is_value S condition
fits_statement S (Switch selector cases) = is_value S selector
fits_statement S (Loop body continuing break_if) = presently (is_value S) break_if
fits_statement S Break = true
fits_statement S Continue = true
fits_statement S (Return value) = presently (λ v. is_value S v && fits_return S S.function.result v) value
fits_statement S Kill = false
fits_statement S ControlBarrier = false
fits_statement S MemoryBarrier = false
fits_statement S ImageAtomic = false
fits_statement S (Store pointer value) = is_value S value && (is_path S pointer && same S (pointee S pointer) (inner_of S value))
fits_statement S (AtomicStatement pointer value result) = false
fits_statement S (Call function arguments result) = false
fits_statement S (ImageStore image coordinate array_index value) = false
fits_statement S (RayQuery query) = false
fits_statement S (WorkGroupUniformLoad pointer result) = false
fits_statement S (SubgroupBallot result predicate) = false
fits_statement S (SubgroupGather mode argument result) = false
fits_statement S (SubgroupCollectiveOperation argument result) = false

-- which exits have a target: at the top a return; in a switch a break too; in a loop's body a break and a continue too
unfoldable pub at_top : Exit → Bool
at_top next = true
at_top broke = false
at_top continued = false
at_top returned = true

unfoldable pub in_case : (Exit → Bool) → Exit → Bool
in_case e next = true
in_case e broke = true
in_case e continued = e continued
in_case e returned = e returned

unfoldable pub in_body : (Exit → Bool) → Exit → Bool
in_body e next = true
in_body e broke = true
in_body e continued = true
in_body e returned = e returned

unfoldable pub unless : Bool → ℕ → List ℕ
unless true n = []
unless false n = n ∷ []

-- The statements that leave where e does not allow it: break and continue have a target; nothing leaves a continuing block.
unfoldable pub strays : Tree → (Exit → Bool) → List ℕ
strays nop e = []
strays (seq a b) e = strays a e ++ strays b e
strays (act x) e = []
strays (branch c a b) e = strays a e ++ strays b e
strays (switch c vs f) e = concat (length vs) (λ i. strays (f i) (in_case e))
strays (loop n a b c) e = strays a (in_body e) ++ strays b only_next
strays (break n) e = unless (e broke) n
strays (continue n) e = unless (e continued) n
strays (return n v) e = unless (e returned) n
strays (unmarked n mark a) e = strays a e

-- the numbers, from n on, of what fails a test
unfoldable pub failing : {A : Type 0} → (ℕ → A → Bool) → ℕ → List A → List ℕ
failing test n [] = []
failing test n (x ∷ xs) = unless (test n x) n ++ failing test (suc n) xs

unfoldable pub lower : ℕ → Option ℕ → Option ℕ
lower n nothing = some n
lower n (some m) = some (cond (ltb m n) m n)

unfoldable pub lowest : List ℕ → Option ℕ
lowest [] = nothing
lowest (n ∷ ns) = lower n (lowest ns)

-- the lowest expression, and the lowest statement, to blame
unfoldable pub blamed_expression : Scope → Option ℕ
blamed_expression S = lowest (failing (λ e x. judged_expression S e) 0 S.function.expressions)

unfoldable pub blamed_statement : Scope → Tree → Option ℕ
blamed_statement S body = lowest (failing (λ n x. fits_statement S x) 0 S.function.statements ++ strays body at_top)
