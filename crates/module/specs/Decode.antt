-- What the fields of a record mean, where they have been found to be allowed.
use Rattle.std.specs.Prelude.{ℕ, zero, suc, ◌+◌, ◌*◌, cond, List, [], ◌∷◌, ◌++◌, eqb, get_or}
use Rattle.std.proofs.Math.Option.{Option, some, none as nothing}
use Rattle.field.specs.Limits.{absent}
use Rattle.module.specs.Module.{Member, TypeInner, Scalar, Vector, Matrix, Atomic, Pointer, Array, Struct, BindingArray, Opaque, SampleLevel, Auto, Zero, Exact, Bias, Gradient, GatherMode, BroadcastFirst, Broadcast, Expression, Literal, ZeroValue, WorkGroupUniformLoadResult, AccessIndex, Access, Constant, Splat, Swizzle, Compose, FunctionArgument, GlobalVariable, LocalVariable, Load, ImageSample, ImageLoad, ImageQuery, Unary, Binary, Select, Derivative, Relational, Math, As, CallResult, AtomicResult, ArrayLength, RayQueryProceedResult, RayQueryGetIntersection, Override, SubgroupBallotResult, SubgroupOperationResult, RayQueryVertexPositions, SwitchCase, Statement, Emit, Block, If, Switch, Loop, Break, Continue, Return, Kill, ControlBarrier, MemoryBarrier, ImageAtomic, Store, AtomicStatement, Call, ImageStore, RayQuery, WorkGroupUniformLoad, SubgroupBallot, SubgroupGather, SubgroupCollectiveOperation, Typed, FunctionArg, FunctionResult}

-- what f gives at each number below n, in order
unfoldable pub tab {ℓ} : {A : Type ℓ} → ℕ → (ℕ → A) → List A
tab zero f = []
tab (suc n) f = tab n f ++ (f n ∷ [])

-- 65535 means absent
unfoldable pub option_of : ℕ → Option ℕ
option_of n = cond (eqb n absent) nothing (some n)

-- In these, `o` gives the operands' fields by number.
unfoldable pub member_of : (ℕ → ℕ) → ℕ → Member
member_of o i = record { type = o (1 + 2 * i); binding = option_of (o (2 + 2 * i)) }

-- a type by its kind
unfoldable pub type_inner_of : ℕ → (ℕ → ℕ) → TypeInner
type_inner_of kind o =
    get_or
    (Scalar
    ∷ Vector (o 0)
    ∷ Matrix (o 0) (o 1)
    ∷ Atomic
    ∷ Pointer (o 0)
    ∷ Array (o 0) (o 1)
    ∷ Struct (tab (o 0) (member_of o))
    ∷ BindingArray (o 0)
    ∷ Opaque
    ∷ [])
    kind
    Opaque

-- how many expressions a level's code and a mode's code have after them
unfoldable pub level_handles : List ℕ
level_handles = 0 ∷ 0 ∷ 1 ∷ 1 ∷ 2 ∷ []

unfoldable pub mode_handles : List ℕ
mode_handles = 0 ∷ 1 ∷ []

unfoldable pub level_of : ℕ → ℕ → ℕ → SampleLevel
level_of code x y = get_or (Auto ∷ Zero ∷ Exact x ∷ Bias x ∷ Gradient x y ∷ []) code Auto

unfoldable pub mode_of : ℕ → ℕ → GatherMode
mode_of code x = get_or (BroadcastFirst ∷ Broadcast x ∷ []) code BroadcastFirst

-- an expression by its kind
unfoldable pub expression_of : ℕ → (ℕ → ℕ) → Expression
expression_of kind o =
    get_or
    (Literal
    ∷ ZeroValue
    ∷ WorkGroupUniformLoadResult
    ∷ AccessIndex (o 0) (o 1)
    ∷ Access (o 0) (o 1)
    ∷ Constant
    ∷ Splat (o 0)
    ∷ Swizzle (o 0) (tab (o 1) (λ i. o (2 + i)))
    ∷ Compose (tab (o 0) (λ i. o (1 + i)))
    ∷ FunctionArgument (o 0)
    ∷ GlobalVariable (o 0)
    ∷ LocalVariable (o 0)
    ∷ Load (o 0)
    ∷ ImageSample (o 0) (o 1) (o 2) (option_of (o 3)) (level_of (o 4) (o 5) (o 6)) (option_of (o (5 + get_or level_handles (o 4) 0)))
    ∷ ImageLoad (o 0) (o 1) (option_of (o 2)) (option_of (o 3)) (option_of (o 4))
    ∷ ImageQuery (o 0) (option_of (o 1))
    ∷ Unary (o 0)
    ∷ Binary (o 0) (o 1)
    ∷ Select (o 0) (o 1) (o 2)
    ∷ Derivative (o 0)
    ∷ Relational (o 0)
    ∷ Math (o 0) (option_of (o 1)) (option_of (o 2)) (option_of (o 3))
    ∷ As (o 0)
    ∷ CallResult
    ∷ AtomicResult
    ∷ ArrayLength (o 0)
    ∷ RayQueryProceedResult
    ∷ RayQueryGetIntersection (o 0)
    ∷ Override
    ∷ SubgroupBallotResult
    ∷ SubgroupOperationResult
    ∷ RayQueryVertexPositions
    ∷ [])
    kind
    Literal

unfoldable pub case_of : (ℕ → ℕ) → ℕ → SwitchCase
case_of o i = record { value = o (2 + 2 * i); body = o (3 + 2 * i) }

-- a statement by its kind
unfoldable pub statement_of : ℕ → (ℕ → ℕ) → Statement
statement_of kind o =
    get_or
    (Emit (o 0) (o 1)
    ∷ Block (o 0)
    ∷ If (o 0) (o 1) (o 2)
    ∷ Switch (o 0) (tab (o 1) (case_of o))
    ∷ Loop (o 0) (o 1) (option_of (o 2))
    ∷ Break
    ∷ Continue
    ∷ Return (option_of (o 0))
    ∷ Kill
    ∷ ControlBarrier
    ∷ MemoryBarrier
    ∷ ImageAtomic
    ∷ Store (o 0) (o 1)
    ∷ AtomicStatement (o 0) (o 1) (option_of (o 2))
    ∷ Call (o 0) (tab (o 1) (λ i. o (2 + i))) (option_of (o (2 + o 1)))
    ∷ ImageStore (o 0) (o 1) (option_of (o 2)) (o 3)
    ∷ RayQuery (o 0)
    ∷ WorkGroupUniformLoad (o 0) (o 1)
    ∷ SubgroupBallot (o 0) (option_of (o 1))
    ∷ SubgroupGather (mode_of (o 0) (o 1)) (o (1 + get_or mode_handles (o 0) 0)) (o (2 + get_or mode_handles (o 0) 0))
    ∷ SubgroupCollectiveOperation (o 0) (o 1)
    ∷ [])
    kind
    Break

-- The records by their fields: TY, the result in FN, AR, EX, ST.
unfoldable pub type_of : List ℕ → TypeInner
type_of fs = type_inner_of (get_or fs 0 0) (λ j. get_or fs (1 + j) 0)

unfoldable pub result_of : List ℕ → Option FunctionResult
result_of fs = cond (eqb (get_or fs 1 0) absent) nothing (some (record { type = get_or fs 1 0; binding = option_of (get_or fs 2 0) }))

unfoldable pub arg_of : List ℕ → FunctionArg
arg_of fs = record { type = get_or fs 0 0; binding = option_of (get_or fs 1 0) }

unfoldable pub typed_of : List ℕ → Typed
typed_of fs = record { type = get_or fs 0 0; expression = expression_of (get_or fs 1 0) (λ j. get_or fs (2 + j) 0) }

unfoldable pub st_of : List ℕ → Statement
st_of fs = statement_of (get_or fs 0 0) (λ j. get_or fs (1 + j) 0)
