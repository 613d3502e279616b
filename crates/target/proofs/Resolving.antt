-- `resolve_var`'s loop: what is left of the way gives the whole. Each turn is `resolve_var`'s equation in a module that was read, and one index more is one entry
-- around the part.
use Prim.Native.Nat.{ℕ, zero, suc, ◌+◌, ◌<◌, ◌≤◌}
use native.Mathlib.Omega.{arith}
use mathlib.Core.Path.{◌≡◌, refl, sym, ◌∙◌, subst}
use mathlib.Core.Bool.{false}
use mathlib.Core.List.{List, [], ◌∷◌, ◌++◌}
use lib.ListN.{length, length-append, get_or-append}
use lib.Seq.{get_or_at}
use Rattle.field.specs.Limits.{max_depth, max_expressions}
use Rattle.part.specs.PartReq.{PartReq, all, none, more, from_first, from_indexes, entries, over, spine}
use Rattle.part.specs.Limited.{Plain}
use Rattle.part.specs.Store.{top, part, Good, Kept, Made}
use Rattle.part.proofs.Pieces.{part-0, part-2}
use Rattle.part.proofs.Indexes.{from_indexes-path}
use Rattle.part.proofs.Sizes.{limited}
use Rattle.part.proofs.Making.{kept_trans}
use Rattle.part.proofs.Write.{stay}
use Rattle.module.specs.Module.{FunctionHandle, ExpressionHandle, Module, Function}
use Rattle.module.specs.declared.handles.GlobalHandle.{GlobalHandle}
use Rattle.module.specs.declared.handles.LocalHandle.{LocalHandle}
use Rattle.module.specs.Decode.{expression_of}
use Rattle.module.specs.File.{accepted, read_module}
use Rattle.module.specs.Tables.{function_of, module_of}
use Rattle.module.proofs.Each.{each}
use Rattle.access.specs.declared.kinded.Kinded.{Kinded}
use Rattle.access.specs.Access.{operand_at, expression_row}
use Rattle.access.proofs.Access.{function_is, expression-at}
use Rattle.valid.specs.Valid.{OperandsBelow, NamesBelow, Valid}
use Rattle.valid.proofs.Accepted.{valid}
use Rattle.context.specs.RequiredContext.{handle}
use Rattle.context.specs.Contexts.{variable_of}
use Rattle.context.specs.declared.required_context.VarRef.{VarRef as Variable}
use Rattle.context.specs.declared.required_context.VarRef.TheVariants.{Global, Local}
use Rattle.walk.specs.Resolve.{function_at, expression_at, VarRefPart, resolved, unresolved, resolve_arm, resolve_var}
use Rattle.sound.proofs.There.{has_expressions, function_valid, operands_below, names_below}
use Rattle.sound.proofs.Resolve.{resolve_is}
use Rattle.target.specs.Target.{Sees, Resolves}
use Rattle.std.specs.Prelude.{Some, None}

-- a kind that goes on to its base
pub data Accesses (kind : ℕ) : Type 0 where
  index : kind ≡ 3 → Accesses kind
  value : kind ≡ 4 → Accesses kind

-- One index more is one entry around the part.
first_same : (xs ys : List ℕ) (k : ℕ) → k ≤ length xs → from_first (xs ++ ys) k ≡ from_first xs k
unfolding from_first
first_same xs ys zero l = refl
first_same xs ys (suc k) l = rw (get_or-append xs ys 0 k l, first_same xs ys k (omega arith))

one_more : (xs : List ℕ) (i : ℕ) → from_indexes (xs ++ (i ∷ [])) ≡ more i (from_indexes xs) none
unfolding from_first
one_more xs i =
    let long : length (xs ++ (i ∷ [])) ≡ suc (length xs) = length-append xs (i ∷ []) ∙ omega arith in
    rw (long, get_or_at xs i [] 0 (length xs) refl, first_same xs (i ∷ []) (length xs) (omega arith))

-- a kind that is no access and no variable
pub record Other (kind : ℕ) : Type 0 where
  pub index : kind ≡ 3 → ⊥
  pub value : kind ≡ 4 → ⊥
  pub global : kind ≡ 10 → ⊥
  pub local : kind ≡ 11 → ⊥

other_unresolved : (r : ExpressionHandle → List ℕ → VarRefPart) (o : ℕ → ℕ) (indexes : List ℕ) (kind : ℕ) → Other kind → resolve_arm r (expression_of kind o) indexes ≡ unresolved
unfolding resolve_arm expression_of
other_unresolved r o indexes =
    each (λ k. Other k → resolve_arm r (expression_of k o) indexes ≡ unresolved) 32
    (λ h. refl, (λ h. refl, (λ h. refl, (λ h. absurd (h.index refl), (λ h. absurd (h.value refl), (λ h. refl, (λ h. refl, (λ h. refl, (λ h. refl, (λ h. refl, (λ h. absurd (h.global refl), (λ h. absurd (h.local refl), (λ h. refl, (λ h. refl, (λ h. refl, (λ h. refl, (λ h. refl, (λ h. refl, (λ h. refl, (λ h. refl, (λ h. refl, (λ h. refl, (λ h. refl, (λ h. refl, (λ h. refl, (λ h. refl, (λ h. refl, (λ h. refl, (λ h. refl, (λ h. refl, (λ h. refl, (λ h. refl, tt))))))))))))))))))))))))))))))))
    (λ k h. refl)

-- from s, t was left: of the way from `whole` the expression e is left, and n is the part's piece
pub record Resolving (m : Module) (f : FunctionHandle) (whole : ExpressionHandle) (s t : List ℕ) (e n : ℕ) : Type 0 where
  pub indexes : List ℕ
  pub kept : Kept s t
  pub piece : n < top t
  pub is : part t n ≡ from_indexes indexes
  pub plain : Plain (from_indexes indexes)
  pub cost : top t + e ≤ top s + whole
  pub few : whole < max_expressions
  pub there : e < length (function_at m f).expressions
  pub rest : resolve_var m f e indexes ≡ resolve_var m f whole []

pub resolving_start : {m : Module} → Valid m → (f : FunctionHandle) (e : ExpressionHandle) {s : List ℕ} → e < length (function_at m f).expressions → Good s → Resolving m f e s s e 0
unfolding from_first
resolving_start {m} v f e {s} l g =
    let few = (function_valid m v f (has_expressions m f e l)).parts.few_expressions in
    let here = stay s all 0 0 g (omega (arith, g.base)) (part-0 s) in
    record { indexes = []; kept = here.kept; piece = here.piece; is = here.is; plain = tt; cost = omega arith; few = omega arith; there = l; rest = refl }

-- A turn, at the expression e with the row r.
module _ (bytes words : List ℕ) (read : read_module bytes ≡ accepted (module_of bytes words)) {f : FunctionHandle} {whole : ExpressionHandle} {s t : List ℕ} {e n : ℕ} {r : Kinded} (a : Resolving (module_of bytes words) f whole s t e n) (row : r ≡ expression_row bytes words f e) where
  is_valid : Valid (module_of bytes words)
  is_valid = valid bytes (module_of bytes words) read

  expression_is : {k : ℕ} → r.kind ≡ k → expression_at (module_of bytes words) f e ≡ expression_of k (operand_at bytes r)
  unfolding function_at expression_at
  expression_is {k} q =
      let there = has_expressions (module_of bytes words) f e a.there in
      let l : e < length (function_of bytes words f).expressions = subst (λ (x : Function). e < length x.expressions) (function_is bytes words f _ there) a.there in
      expression-at bytes words f e k r _ _ there l row q

  step : {k : ℕ} → r.kind ≡ k → resolve_arm (resolve_var (module_of bytes words) f) (expression_of k (operand_at bytes r)) a.indexes ≡ resolve_var (module_of bytes words) f whole []
  step q = rw (← (expression_is q)) (sym (resolve_is (module_of bytes words) f e is_valid a.indexes) ∙ a.rest)

  operands : {k : ℕ} → r.kind ≡ k → OperandsBelow e (expression_of k (operand_at bytes r))
  operands q = rw (← (expression_is q)) (operands_below (module_of bytes words) is_valid f e)

  names : {k : ℕ} → r.kind ≡ k → NamesBelow (length (module_of bytes words).globals) (length (function_at (module_of bytes words) f).arguments) (length (function_at (module_of bytes words) f).locals) (expression_of k (operand_at bytes r))
  names q = rw (← (expression_is q)) (names_below (module_of bytes words) is_valid f e)

  within : top t ≤ top s + max_expressions
  within = omega (arith, a.cost, a.few)

  short : over (part t n) ≡ false → entries (part t n) ≤ max_depth
  short h =
      let path = from_indexes-path a.indexes in
      let within-limits = limited (from_indexes a.indexes) a.plain (rw a.is at h) in
      rw a.is (omega (arith, path.count, path.levels, within-limits.deep))

  -- the base is lower
  pub falls : {b : ℕ} → Accesses r.kind → b ≡ operand_at bytes r 0 → b < e
  unfolding expression_of
  falls h q = elim h [
    | index k ↦ rw q (operands k).0
    | value k ↦ rw q (operands k).0
  ]

  next : {u : List ℕ} {b k : ℕ} {p : PartReq} (indexes : List ℕ) → b < e → Made t u p 1 k → p ≡ from_indexes indexes → Plain (from_indexes indexes) → resolve_var (module_of bytes words) f b indexes ≡ resolve_var (module_of bytes words) f whole [] → Resolving (module_of bytes words) f whole s u b k
  next indexes l d same plain rest =
      record {
        indexes = indexes;
        kept = kept_trans a.kept d.kept;
        piece = d.piece;
        is = d.is ∙ same;
        plain = plain;
        cost = omega (arith, a.cost, d.cost);
        few = a.few;
        there = omega (arith, a.there);
        rest = rest;
      }

  pub again_index : {u : List ℕ} {b i k : ℕ} → r.kind ≡ 3 → b ≡ operand_at bytes r 0 → i ≡ operand_at bytes r 1 → Made t u (more i (part t n) (part t 2)) 1 k → Resolving (module_of bytes words) f whole s u b k
  unfolding expression_of resolve_arm from_first
  again_index h q g d =
      let around = one_more a.indexes (operand_at bytes r 1) in
      next (a.indexes ++ (operand_at bytes r 1 ∷ [])) (falls (index h) q) d (rw (g, part-2 t, a.is, around)) (rw around (omega (arith, (operands h).1), (a.plain, tt))) (rw q (step h))

  pub again_all : {b : ℕ} → r.kind ≡ 4 → b ≡ operand_at bytes r 0 → Resolving (module_of bytes words) f whole s t b 0
  unfolding expression_of resolve_arm from_first
  again_all h q = next [] (falls (value h) q) (stay t all 1 0 a.kept.good (omega (arith, a.kept.good.base)) (part-0 t)) refl tt (rw q (step h))

  -- the way ends
  found : (v : Variable) → Sees (module_of bytes words) f (variable_of v) → handle (variable_of v) < spine → resolved (variable_of v) (from_indexes a.indexes) ≡ resolve_var (module_of bytes words) f whole [] → Resolves (module_of bytes words) f whole s t (Some (record { var = v; part = n }))
  found v sees low is =
      record { kept = a.kept; has = record { piece = a.piece; sees = sees; low = low; short = short }; is = rw a.is is; cost = within }

  pub found_global : (g : GlobalHandle) → r.kind ≡ 10 → g.0 ≡ operand_at bytes r 0 → Resolves (module_of bytes words) f whole s t (Some (record { var = Global g; part = n }))
  unfolding expression_of resolve_arm
  found_global g k q =
      let there : g.0 < length (module_of bytes words).globals = rw q (names k) in
      found (Global g) there (omega (arith, is_valid.few_globals)) (rw q (step k))

  pub found_local : (l : LocalHandle) → r.kind ≡ 11 → l.0 ≡ operand_at bytes r 0 → Resolves (module_of bytes words) f whole s t (Some (record { var = Local l; part = n }))
  unfolding expression_of resolve_arm
  found_local l k q =
      let there : l.0 < length (function_at (module_of bytes words) f).locals = rw q (names k) in
      let few = (function_valid (module_of bytes words) is_valid f (has_expressions (module_of bytes words) f e a.there)).parts.few_locals in
      found (Local l) there (omega arith) (rw q (step k))

  pub found_none : Other r.kind → Resolves (module_of bytes words) f whole s t None
  found_none h =
      record {
        kept = a.kept;
        has = tt;
        is = sym (other_unresolved (resolve_var (module_of bytes words) f) (operand_at bytes r) a.indexes r.kind h) ∙ step refl;
        cost = within;
      }
