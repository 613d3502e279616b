-- `is_path` is one step over its own answers for lower expressions: by the kind, a variable or an index of a path. So a table of the lower
-- expressions gives the next entry.
use Prim.Native.Nat.{ℕ, ◌<◌, ◌≤◌}
use native.Mathlib.Omega.{arith}
use native.Mathlib.Decide.{dec_lt}
use mathlib.Core.Logic.{◌⊎◌, inl, inr}
use mathlib.Core.Path.{◌≡◌, refl, sym, ap, subst, ◌∙◌}
use mathlib.Core.Bool.{Bool, true, false}
use mathlib.Core.List.{List}
use lib.Dec.{ltb}
use lib.ListN.{length, get_or, get_or-eq_default}
use Rattle.field.specs.Limits.{max_expressions}
use Rattle.module.specs.Module.{ExpressionHandle, Expression, Typed, Function}
use Rattle.module.specs.Knot.{knot, below}
use Rattle.module.specs.Way.{Way, constantly, dynamically, to_global, to_local, no_way, way_of}
use Rattle.module.specs.Decode.{expression_of}
use Rattle.module.specs.File.{accepted, read_module}
use Rattle.module.specs.Tables.{function_of, module_of}
use Rattle.module.proofs.Each.{each}
use Rattle.module.proofs.Knot.{knot-is, below-lt}
use Rattle.access.specs.declared.kinded.Kinded.{Kinded}
use Rattle.access.specs.Access.{typed_at, operand_at, expression_row}
use Rattle.access.proofs.Access.{function_is, typed_is, expression-of}
use Rattle.valid.specs.Valid.{OperandsBelow, FunctionValid, entries_below}
use Rattle.valid.proofs.Accepted.{valid}
use Rattle.valid.proofs.Ways.{WayBelow, way_below}
use Rattle.clearance.specs.Scope.{Scope, Path, nowhere, further, step_way, step_from, slot, no_expression, typed, path_of, is_path}
use Rattle.judge.specs.Marked.{marked}
use Rattle.judge.specs.Paths.{path_way, path_by, PathTable}
use Rattle.judge.proofs.Marked.{Marks}

-- whether a path leads somewhere
abbrev rooted : Path → Bool
rooted p = ltb 0 (get_or p.root 0 0)

rooted-way : (path : ℕ → Path) (w : Way) → rooted (step_way path w) ≡ path_way (λ b. rooted (path b)) w
unfolding further slot
rooted-way path (constantly base index) = refl
rooted-way path (dynamically base index) = refl
rooted-way path (to_global g) = refl
rooted-way path (to_local l) = refl
rooted-way path no_way = refl

rooted-by : (path : ℕ → Path) (x : Expression) → rooted (step_from path x) ≡ path_by (λ b. rooted (path b)) x
unfolding step_from path_by
rooted-by path x = rooted-way path (way_of x)

ways_agree : (e : ℕ) (path other : ℕ → Bool) (w : Way) → WayBelow e w → ((b : ℕ) → b < e → path b ≡ other b) → path_way path w ≡ path_way other w
ways_agree e path other (constantly base index) h f = f base h
ways_agree e path other (dynamically base index) h f = f base h
ways_agree e path other (to_global g) h f = refl
ways_agree e path other (to_local l) h f = refl
ways_agree e path other no_way h f = refl

paths_agree : (e : ℕ) (path other : ℕ → Bool) (x : Expression) → OperandsBelow e x → ((b : ℕ) → b < e → path b ≡ other b) → path_by path x ≡ path_by other x
unfolding path_by
paths_agree e path other x h f = ways_agree e path other (way_of x) (way_below e x h) f

-- `is_path`, which looks at a function's expressions alone
unfoldable pub path_among : List Typed → ℕ → Bool
path_among xs e = rooted (knot (λ path h. step_from path (get_or xs h no_expression).expression) nowhere e)

path-among : (S : Scope) (e : ExpressionHandle) → path_among S.function.expressions e ≡ is_path S e
unfolding path_among is_path path_of typed
path-among S e = refl

-- the operands of each expression are lower
abbrev OperandsLower : List Typed → Type 0
OperandsLower xs = (e : ℕ) → OperandsBelow e (get_or xs e no_expression).expression

path_is : (xs : List Typed) → OperandsLower xs → (e : ℕ) → path_among xs e ≡ path_by (path_among xs) (get_or xs e no_expression).expression
unfolding path_among
path_is xs L e =
    let paths = knot (λ path h. step_from path (get_or xs h no_expression).expression) nowhere in
    ap rooted (knot-is (λ path h. step_from path (get_or xs h no_expression).expression) nowhere e)
    ∙ (rooted-by (below paths nowhere e) (get_or xs e no_expression).expression
    ∙ paths_agree e (λ b. rooted (below paths nowhere e b)) (path_among xs) (get_or xs e no_expression).expression (L e)
    (λ b l. ap rooted (below-lt paths nowhere e b l)))

operands_lower : {types globals : ℕ} {entries : List Bool} (F : Function) → FunctionValid types globals entries F → OperandsLower F.expressions
operands_lower F v e =
    elim (dec_lt e (length F.expressions)) [
      | yes l ↦ (v.parts.each_expression e no_expression l).operands
      | no l ↦ subst (λ (x : Typed). OperandsBelow e x.expression) (sym (get_or-eq_default F.expressions no_expression {n = e} (omega arith))) tt
    ]

-- an entry, by the kind of the row
record Other (kind : ℕ) : Type 0 where
  index : kind ≡ 3 → ⊥
  value : kind ≡ 4 → ⊥
  global : kind ≡ 10 → ⊥
  local : kind ≡ 11 → ⊥

other_kind : (path : ℕ → Bool) (o : ℕ → ℕ) (kind : ℕ) → Other kind → false ≡ path_by path (expression_of kind o)
unfolding expression_of path_by
other_kind path o =
    each (λ k. Other k → false ≡ path_by path (expression_of k o)) 32
    (λ h. refl, (λ h. refl, (λ h. refl, (λ h. absurd (h.index refl), (λ h. absurd (h.value refl), (λ h. refl, (λ h. refl, (λ h. refl, (λ h. refl, (λ h. refl, (λ h. absurd (h.global refl), (λ h. absurd (h.local refl), (λ h. refl, (λ h. refl, (λ h. refl, (λ h. refl, (λ h. refl, (λ h. refl, (λ h. refl, (λ h. refl, (λ h. refl, (λ h. refl, (λ h. refl, (λ h. refl, (λ h. refl, (λ h. refl, (λ h. refl, (λ h. refl, (λ h. refl, (λ h. refl, (λ h. refl, (λ h. refl, tt))))))))))))))))))))))))))))))))
    (λ k h. refl)

module _ (bytes t : List ℕ) (f e : ℕ) (table : List Bool) {r : Kinded} (row : r ≡ expression_row bytes t f e) where
  abbrev said : Bool
  said = path_by (marked table) (typed_at bytes t f e).expression

  said-by : {k : ℕ} → r.kind ≡ k → path_by (marked table) (expression_of k (operand_at bytes r)) ≡ said
  said-by {k} h = ap (path_by (marked table)) (sym (expression-of bytes t f e k r row h))

  -- a global variable or a local
  pub entry_variable : (r.kind ≡ 10) ⊎ (r.kind ≡ 11) → true ≡ said
  unfolding expression_of path_by
  entry_variable (inl h) = said-by h
  entry_variable (inr h) = said-by h

  module _ {b : ℕ} {u : Bool} (o : b ≡ operand_at bytes r 0) (w : u ≡ marked table b) where
    base_marked : u ≡ marked table (operand_at bytes r 0)
    base_marked = w ∙ ap (marked table) o

    -- an index, constant or dynamic
    pub entry-index : (r.kind ≡ 3) ⊎ (r.kind ≡ 4) → u ≡ said
    unfolding expression_of path_by
    entry-index (inl h) = base_marked ∙ said-by h
    entry-index (inr h) = base_marked ∙ said-by h

  pub entry_other : (r.kind ≡ 3 → ⊥) → (r.kind ≡ 4 → ⊥) → (r.kind ≡ 10 → ⊥) → (r.kind ≡ 11 → ⊥) → false ≡ said
  entry_other a b c d =
      other_kind (marked table) (operand_at bytes r) r.kind (record { index = a; value = b; global = c; local = d }) ∙ said-by refl

-- a function of a module that was read
module _ (bytes t : List ℕ) (f : ℕ) (read : read_module bytes ≡ accepted (module_of bytes t)) (there : f < length (module_of bytes t).functions) where
  abbrev F : Function
  F = function_of bytes t f

  pub function_valid : FunctionValid (length (module_of bytes t).types) (length (module_of bytes t).globals) (entries_below f (module_of bytes t).functions) F
  function_valid = rw (function_is bytes t f F there) at ((valid bytes (module_of bytes t) read).functions f F there)

  pub few : length F.expressions ≤ max_expressions
  few = function_valid.parts.few_expressions

  pub entry_is : (table : List Bool) {e : ℕ} (r : Bool) → e < length F.expressions → Marks (path_among F.expressions) table e → r ≡ path_by (marked table) (typed_at bytes t f e).expression → r ≡ path_among F.expressions e
  entry_is table {e} r l M h =
      let x = (get_or F.expressions e no_expression).expression in
      let lower = operands_lower F function_valid in
      h ∙ (ap (λ (y : Typed). path_by (marked table) y.expression) (sym (typed_is bytes t f e no_expression l))
      ∙ (paths_agree e (marked table) (path_among F.expressions) x (lower e) M.each ∙ sym (path_is F.expressions lower e)))

-- the whole table
pub filled : (xs : List Typed) (table : List Bool) {n k : ℕ} → n ≡ length xs → length table ≡ n → n ≤ k → Marks (path_among xs) table k → PathTable xs table
filled xs table e f l M =
    record { long = f ∙ e; is = λ S s a h. M.each a (omega arith) ∙ (rw (← s) (path-among S a)) }
