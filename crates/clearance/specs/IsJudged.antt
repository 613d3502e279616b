-- 01's "Judged" in its own words: of each expression and each statement one clause, a field, for each of the paragraph's. What the
-- clearance judges by (specs/Judged.antt) is shown to be exactly this in proofs/JudgedExactly.antt.
use Rattle.std.specs.Prelude.{ℕ, ◌+◌, ◌<◌, ◌≤◌, ◌≡◌, true, List, [], ◌∷◌, map, ◌⊎◌, length, get_or}
use Rattle.std.proofs.Math.Option.{Option, some}
use Rattle.module.specs.Module.{TypeHandle, TypeInner, Scalar, Vector, Matrix, Pointer, Array, Struct, BindingArray, Member as TypeMember}
use Rattle.module.specs.Module.{ExpressionHandle, BlockHandle, Expression, FunctionResult, Statement, SwitchCase}
use Rattle.module.specs.Module.{AccessIndex, Access, Splat, Swizzle, Compose}
use Rattle.module.specs.Module.{FunctionArgument, GlobalVariable, LocalVariable, Load, Unary, Binary, Select}
use Rattle.module.specs.Module.{Relational, Math, As}
use Rattle.module.specs.Module.{If, Switch, Loop, Return, Kill, Store}
use Rattle.module.specs.Kinds.{expression_kind, statement_kind}
use Rattle.clearance.specs.Scope.{Scope, inner, member_types, alike, typed, type_of, inner_of, argument_type}
use Rattle.clearance.specs.Tree.{Tree, seq, branch, switch, loop, unmarked, body_tree}
use Rattle.clearance.specs.Needs.{Exit, broke, continued}
use Rattle.clearance.specs.Judged.{pointee, same}
use Rattle.clearance.specs.Rules.{Leaves, Member}

-- Kinds, by 01's numbers

abbrev pub To : ℕ → ℕ → ℕ → Type 0
To from to k = (from ≤ k) × (k ≤ to)

abbrev pub ExpressionKinds : ℕ → Type 0
ExpressionKinds k = To 0 1 k ⊎ (To 3 12 k ⊎ (To 16 18 k ⊎ To 20 22 k))

abbrev pub StatementKinds : ℕ → Type 0
StatementKinds k = To 0 7 k ⊎ (k ≡ 12)

-- Paths and values

-- a variable, with its declared type
pub data Declares (S : Scope) : Expression → TypeHandle → Type 0 where
  global : {g : ℕ} → Declares S (GlobalVariable g) (get_or S.program.globals g 0)
  local : {l : ℕ} → Declares S (LocalVariable l) (get_or S.function.locals l 0)

pub data IndexOf (base : ExpressionHandle) : Expression → Type 0 where
  constant : {i : ℕ} → IndexOf base (AccessIndex base i)
  dynamic : {i : ExpressionHandle} → IndexOf base (Access base i)

-- A path: it ends in a variable, by way of indexes, each of an expression of a lower number (as all operands are).
pub data IsPath (S : Scope) : ExpressionHandle → Type 0 where
  ends : {e : ExpressionHandle} {t : TypeHandle} → Declares S (typed S e).expression t → IsPath S e
  goes_on : {e base : ExpressionHandle} → IndexOf base (typed S e).expression → base < e → IsPath S base → IsPath S e

-- what may have a pointer type: a variable, or an index of a path
pub data MayPoint (S : Scope) (x : Expression) : Type 0 where
  a_variable : {t : TypeHandle} → Declares S x t → MayPoint S x
  an_index : {base : ExpressionHandle} → IndexOf base x → IsPath S base → MayPoint S x

-- what serves as a value: neither a path nor of a pointer type
pub record IsValue (S : Scope) (e : ExpressionHandle) : Type 0 where
  pub no_path : IsPath S e → ⊥
  pub no_pointer : (t : TypeHandle) → inner_of S e ≡ Pointer t → ⊥

-- an expression has v for an operand that is a value
pub data TakesValue (v : ExpressionHandle) : Expression → Type 0 where
  as_index : {base : ExpressionHandle} → TakesValue v (Access base v)
  of_splat : TakesValue v (Splat v)
  of_swizzle : {pattern : List ℕ} → TakesValue v (Swizzle v pattern)
  of_compose : {components : List ExpressionHandle} → Member v components → TakesValue v (Compose components)
  of_unary : TakesValue v (Unary v)
  left : {r : ExpressionHandle} → TakesValue v (Binary v r)
  right : {l : ExpressionHandle} → TakesValue v (Binary l v)
  as_condition : {a r : ExpressionHandle} → TakesValue v (Select v a r)
  as_accept : {c r : ExpressionHandle} → TakesValue v (Select c v r)
  as_reject : {c a : ExpressionHandle} → TakesValue v (Select c a v)
  of_relational : TakesValue v (Relational v)
  of_math : {x1 x2 x3 : Option ExpressionHandle} → TakesValue v (Math v x1 x2 x3)
  of_math1 : {x : ExpressionHandle} {x2 x3 : Option ExpressionHandle} → TakesValue v (Math x (some v) x2 x3)
  of_math2 : {x : ExpressionHandle} {x1 x3 : Option ExpressionHandle} → TakesValue v (Math x x1 (some v) x3)
  of_math3 : {x : ExpressionHandle} {x1 x2 : Option ExpressionHandle} → TakesValue v (Math x x1 x2 (some v))
  of_as : TakesValue v (As v)

-- a statement has v for an operand that is a value
pub data UsesValue (v : ExpressionHandle) : Statement → Type 0 where
  of_if : {a r : BlockHandle} → UsesValue v (If v a r)
  of_switch : {cases : List SwitchCase} → UsesValue v (Switch v cases)
  of_loop : {b c : BlockHandle} → UsesValue v (Loop b c (some v))
  of_return : UsesValue v (Return (some v))
  of_store : {p : ExpressionHandle} → UsesValue v (Store p v)

-- Types by shape

-- the part `index` of a type, within it: a component, a column, an element, a member
pub data Part (S : Scope) : TypeInner → ℕ → TypeInner → Type 0 where
  component : {n i : ℕ} → i < n → Part S (Vector n) i Scalar
  column : {columns rows i : ℕ} → i < columns → Part S (Matrix columns rows) i (Vector rows)
  element : {base : TypeHandle} {n i : ℕ} → i < n → Part S (Array base n) i (inner S base)
  member : {ms : List TypeMember} {i : ℕ} → i < length ms → Part S (Struct ms) i (inner S (member_types ms i))

-- the parts of a type that has parts of one type: components, columns, elements
pub data Parts (S : Scope) : TypeInner → TypeInner → Type 0 where
  components : {n : ℕ} → Parts S (Vector n) Scalar
  columns : {c r : ℕ} → Parts S (Matrix c r) (Vector r)
  elements : {base : TypeHandle} {n : ℕ} → Parts S (Array base n) (inner S base)

-- what an index of something of the type i gives
pub data Indexes (S : Scope) (i : TypeInner) : Expression → TypeInner → Type 0 where
  at : {base : ExpressionHandle} {index : ℕ} {t : TypeInner} → Part S i index t → Indexes S i (AccessIndex base index) t
  by : {base index : ExpressionHandle} {t : TypeInner} → Parts S i t → Indexes S i (Access base index) t

-- scalars and vectors that have so many components together
pub data Components (S : Scope) : List ExpressionHandle → ℕ → Type 0 where
  none : Components S [] 0
  scalar : {c : ExpressionHandle} {cs : List ExpressionHandle} {n : ℕ} → inner_of S c ≡ Scalar → Components S cs n → Components S (c ∷ cs) (1 + n)
  vector : {c : ExpressionHandle} {cs : List ExpressionHandle} {m n : ℕ} → inner_of S c ≡ Vector m → Components S cs n → Components S (c ∷ cs) (m + n)

-- one of each member's type
pub data Members (S : Scope) : List TypeMember → List ExpressionHandle → Type 0 where
  none : Members S [] []
  one : {m : TypeMember} {ms : List TypeMember} {c : ExpressionHandle} {cs : List ExpressionHandle} →
      alike S m.type (type_of S c) ≡ true → Members S ms cs → Members S (m ∷ ms) (c ∷ cs)

-- what a type is composed of
pub data ComposedOf (S : Scope) (cs : List ExpressionHandle) : TypeInner → Type 0 where
  a_vector : {n : ℕ} → Components S cs n → ComposedOf S cs (Vector n)
  a_matrix : {columns rows : ℕ} → length cs ≡ columns → ((c : ExpressionHandle) → Member c cs → inner_of S c ≡ Vector rows) → ComposedOf S cs (Matrix columns rows)
  an_array : {base : TypeHandle} {n : ℕ} → length cs ≡ n → ((c : ExpressionHandle) → Member c cs → alike S base (type_of S c) ≡ true) → ComposedOf S cs (Array base n)
  a_struct : {ms : List TypeMember} → Members S ms cs → ComposedOf S cs (Struct ms)

-- a type is, or holds at any depth, an array of count 0 or a binding array: its elements and members have lower numbers, and a pointer holds
-- none
pub data HoldsUnsized (S : Scope) : TypeHandle → Type 0 where
  run_sized : {t base : TypeHandle} → inner S t ≡ Array base 0 → HoldsUnsized S t
  bindings : {t base : TypeHandle} → inner S t ≡ BindingArray base → HoldsUnsized S t
  of_element : {t u : TypeHandle} {n : ℕ} → inner S t ≡ Array u n → u < t → HoldsUnsized S u → HoldsUnsized S t
  of_member : {t u : TypeHandle} {ms : List TypeMember} → inner S t ≡ Struct ms → Member u (map (λ m. m.type) ms) → u < t → HoldsUnsized S u → HoldsUnsized S t

-- Control flow

-- b is the continuing block of a loop, at any depth
pub data ContinuingIn (b : Tree) : Tree → Type 0 where
  of_this : {n : ℕ} {a : Tree} {c : Option ExpressionHandle} → ContinuingIn b (loop n a b c)
  in_first : {x y : Tree} → ContinuingIn b x → ContinuingIn b (seq x y)
  in_second : {x y : Tree} → ContinuingIn b y → ContinuingIn b (seq x y)
  in_accept : {c : ExpressionHandle} {x y : Tree} → ContinuingIn b x → ContinuingIn b (branch c x y)
  in_reject : {c : ExpressionHandle} {x y : Tree} → ContinuingIn b y → ContinuingIn b (branch c x y)
  in_case : {c : ExpressionHandle} {vs : List ℕ} {f : ℕ → Tree} (i : ℕ) → i < length vs → ContinuingIn b (f i) → ContinuingIn b (switch c vs f)
  in_body : {n : ℕ} {x y : Tree} {c : Option ExpressionHandle} → ContinuingIn b x → ContinuingIn b (loop n x y c)
  in_continuing : {n : ℕ} {x y : Tree} {c : Option ExpressionHandle} → ContinuingIn b y → ContinuingIn b (loop n x y c)
  in_unmarked : {n mark : ℕ} {x : Tree} → ContinuingIn b x → ContinuingIn b (unmarked n mark x)

-- The clauses

-- of the expression e, which is x
pub record JudgedExpression (S : Scope) (e : ExpressionHandle) (x : Expression) : Type 0 where
  -- "expression kinds 0, 1, 3 to 12, 16 to 18, 20 to 22"
  pub kind : ExpressionKinds (expression_kind x)
  -- "paths end in a variable": what is loaded is a path, and what it ends in is declared as no pointer
  pub loads_path : (p : ExpressionHandle) → x ≡ Load p → IsPath S p
  pub path_end : (t : TypeHandle) → Declares S x t → (u : TypeHandle) → inner S t ≡ Pointer u → ⊥
  -- "pointers serve only as paths": only these have a pointer type, operands are values, and so is the base of an index that is no path
  pub points : (t : TypeHandle) → inner_of S e ≡ Pointer t → MayPoint S x
  pub values : (v : ExpressionHandle) → TakesValue v x → IsValue S v
  pub base : (b : ExpressionHandle) → IndexOf b x → IsPath S b ⊎ IsValue S b
  -- "variable .. as declared": or a pointer to that
  pub variable : (t : TypeHandle) → Declares S x t → same S (inner S t) (pointee S e) ≡ true
  -- "argument .. as declared"
  pub argument : (a : ℕ) → x ≡ FunctionArgument a → alike S (argument_type S.function.arguments a) (type_of S e) ≡ true
  -- "index as declared"
  pub index : (b : ExpressionHandle) → IndexOf b x → (t : TypeInner) → Indexes S (pointee S b) x t → same S t (pointee S e) ≡ true
  -- "index within its base"
  pub within : (b : ExpressionHandle) → IndexOf b x → (t : TypeInner) × Indexes S (pointee S b) x t
  -- "Load gives the pointee"
  pub load : (p : ExpressionHandle) → x ≡ Load p → same S (pointee S p) (inner_of S e) ≡ true
  -- "Unary, As and Select keep type"
  pub unary : (y : ExpressionHandle) → x ≡ Unary y → alike S (type_of S y) (type_of S e) ≡ true
  pub cast : (y : ExpressionHandle) → x ≡ As y → alike S (type_of S y) (type_of S e) ≡ true
  pub select : (c a r : ExpressionHandle) → x ≡ Select c a r → (alike S (type_of S a) (type_of S e) ≡ true) × (alike S (type_of S r) (type_of S e) ≡ true)
  -- "Swizzle .. agree": letters of its vector, and as many components as letters
  pub swizzle : (v : ExpressionHandle) (pattern : List ℕ) → x ≡ Swizzle v pattern →
      (n : ℕ) × (inner_of S v ≡ Vector n) × ((i : ℕ) → Member i pattern → i < n) × (inner_of S e ≡ Vector (length pattern))
  -- "Splat .. agree": a vector of a scalar
  pub splat : (v : ExpressionHandle) → x ≡ Splat v → (inner_of S v ≡ Scalar) × (n : ℕ) × (inner_of S e ≡ Vector n)
  -- "Compose .. agree"
  pub compose : (cs : List ExpressionHandle) → x ≡ Compose cs → ComposedOf S cs (inner_of S e)
  -- "no expression's type or pointee holds an array of count 0 or a binding array"
  pub sized : HoldsUnsized S (type_of S e) → ⊥
  pub pointee_sized : (t : TypeHandle) → inner_of S e ≡ Pointer t → HoldsUnsized S t → ⊥

-- of the statement n, which is x, of a function with this body
pub record JudgedStatement (S : Scope) (whole : Tree) (n : ℕ) (x : Statement) : Type 0 where
  -- "statement kinds 0 to 7 and 12"
  pub kind : StatementKinds (statement_kind x)
  -- "paths end in a variable"
  pub stores_path : (p v : ExpressionHandle) → x ≡ Store p v → IsPath S p
  -- "pointers serve only as paths"
  pub values : (v : ExpressionHandle) → UsesValue v x → IsValue S v
  -- "Store .. agree"
  pub store : (p v : ExpressionHandle) → x ≡ Store p v → same S (pointee S p) (inner_of S v) ≡ true
  -- "Return agree"
  pub returns : (v : ExpressionHandle) → x ≡ Return (some v) →
      (r : FunctionResult) × (S.function.result ≡ some r) × (alike S r.type (type_of S v) ≡ true)
  -- "break and continue have a target": none leaves the body
  pub break_target : Leaves n broke whole → ⊥
  pub continue_target : Leaves n continued whole → ⊥
  -- "nothing leaves a continuing block"
  pub stays : (b : Tree) → ContinuingIn b whole → (y : Exit) → Leaves n y b → ⊥

abbrev pub FitExpression : Scope → ExpressionHandle → Type 0
FitExpression S e = JudgedExpression S e (typed S e).expression

-- (the marks play no part: none is set here)
abbrev pub FitStatement : Scope → ℕ → Type 0
FitStatement S n = JudgedStatement S (body_tree S.function []) n (get_or S.function.statements n Kill)

-- Judged: every expression and every statement is.
pub record IsJudged (S : Scope) : Type 0 where
  pub expressions : (e : ExpressionHandle) → e < length S.function.expressions → FitExpression S e
  pub statements : (n : ℕ) → n < length S.function.statements → FitStatement S n

-- n is the lowest of so many of which something does not hold
pub record LowestNot (Holds : ℕ → Type 0) (count n : ℕ) : Type 0 where
  pub one : n < count
  pub fails : Holds n → ⊥
  pub lower : (m : ℕ) → m < n → Holds m

-- the lowest expression, and the lowest statement, that breaks a clause
abbrev pub ExpressionBlamed : Scope → ExpressionHandle → Type 0
ExpressionBlamed S = LowestNot (FitExpression S) (length S.function.expressions)

abbrev pub StatementBlamed : Scope → ℕ → Type 0
StatementBlamed S = LowestNot (FitStatement S) (length S.function.statements)
