-- The rules in 01's words, as predicates.
use Rattle.std.specs.Prelude.{ℕ, ◌<◌, ◌≤◌, ◌≡◌, true, false, List, ◌∷◌, length}
use Rattle.std.proofs.Math.Option.{Option}
use Rattle.part.specs.PartReq.{PartReq, contains}
use Rattle.module.specs.Module.{ExpressionHandle}
use Rattle.clearance.specs.Shape.{some}
use Rattle.clearance.specs.Scope.{Scope}
use Rattle.clearance.specs.Tree.{Act, Tree, nop, seq, act, branch, switch, loop, break, continue, return, unmarked}
use Rattle.clearance.specs.Needs.{overlap, Exit, next, broke, continued, returned, upon, of_case, after_continuing, Setting, walk, after_body, Table, reentry}
use Rattle.clearance.specs.Verdict.{Request, Report, ending, setting, body, start_needs}

-- the store or emit x stands in a statement, at any depth
pub data StandsIn (x : Act) : Tree → Type 0 where
  itself : StandsIn x (act x)
  first : {a b : Tree} → StandsIn x a → StandsIn x (seq a b)
  second : {a b : Tree} → StandsIn x b → StandsIn x (seq a b)
  in_accept : {c : ExpressionHandle} {a b : Tree} → StandsIn x a → StandsIn x (branch c a b)
  in_reject : {c : ExpressionHandle} {a b : Tree} → StandsIn x b → StandsIn x (branch c a b)
  in_case : {c : ExpressionHandle} {vs : List ℕ} {f : ℕ → Tree} (i : ℕ) → i < length vs → StandsIn x (f i) → StandsIn x (switch c vs f)
  in_body : {n : ℕ} {a b : Tree} {c : Option ExpressionHandle} → StandsIn x a → StandsIn x (loop n a b c)
  in_continuing : {n : ℕ} {a b : Tree} {c : Option ExpressionHandle} → StandsIn x b → StandsIn x (loop n a b c)
  in_unmarked : {n mark : ℕ} {a : Tree} → StandsIn x a → StandsIn x (unmarked n mark a)

-- The break, continue or return with the number n leaves a statement. A break that stays in a switch or a loop, and a continue that stays in a
-- loop, does not.
pub data Leaves (n : ℕ) : Exit → Tree → Type 0 where
  by_break : Leaves n broke (break n)
  by_continue : Leaves n continued (continue n)
  by_return : {v : Option ExpressionHandle} → Leaves n returned (return n v)
  from_first : {x : Exit} {a b : Tree} → Leaves n x a → Leaves n x (seq a b)
  from_second : {x : Exit} {a b : Tree} → Leaves n x b → Leaves n x (seq a b)
  from_accept : {x : Exit} {c : ExpressionHandle} {a b : Tree} → Leaves n x a → Leaves n x (branch c a b)
  from_reject : {x : Exit} {c : ExpressionHandle} {a b : Tree} → Leaves n x b → Leaves n x (branch c a b)
  case_continues : {c : ExpressionHandle} {vs : List ℕ} {f : ℕ → Tree} (i : ℕ) → i < length vs → Leaves n continued (f i) → Leaves n continued (switch c vs f)
  case_returns : {c : ExpressionHandle} {vs : List ℕ} {f : ℕ → Tree} (i : ℕ) → i < length vs → Leaves n returned (f i) → Leaves n returned (switch c vs f)
  body_returns : {m : ℕ} {a b : Tree} {c : Option ExpressionHandle} → Leaves n returned a → Leaves n returned (loop m a b c)
  continuing_continues : {m : ℕ} {a b : Tree} {c : Option ExpressionHandle} → Leaves n continued b → Leaves n continued (loop m a b c)
  continuing_returns : {m : ℕ} {a b : Tree} {c : Option ExpressionHandle} → Leaves n returned b → Leaves n returned (loop m a b c)
  from_unmarked : {x : Exit} {m mark : ℕ} {a : Tree} → Leaves n x a → Leaves n x (unmarked m mark a)

-- The rule of an unmarked statement: no store inside may overlap the needs after it, no emit inside may give a needed expression, and
-- no return, break or continue may leave it. (Of an unmarked store or emit it says that it does not overlap them itself.)
pub record Obeys (S : Scope) (after : PartReq) (a : Tree) : Type 0 where
  pub nothing_needed : (x : Act) → StandsIn x a → some (overlap S x after) ≡ false
  pub nothing_leaves : (n : ℕ) (x : Exit) → Leaves n x a → ⊥

-- no rule broken: of every unmarked statement that is walked, with the needs that stand after it
abbrev pub Unbroken : (W : Setting) (r : ℕ → PartReq) → Tree → (Exit → PartReq) → Type 0
Unbroken W r nop k = Unit {0}
Unbroken W r (seq a b) k = Unbroken W r a (upon (walk W r b k) k) × Unbroken W r b k
Unbroken W r (act x) k = Unit {0}
Unbroken W r (branch c a b) k = Unbroken W r a k × Unbroken W r b k
Unbroken W r (switch c vs f) k = (i : ℕ) → i < length vs → Unbroken W r (f i) (of_case k)
Unbroken W r (loop n a b c) k = Unbroken W r a (after_body W r n b c k) × Unbroken W r b (after_continuing W.scope (r n) c k)
Unbroken W r (break n) k = Unit {0}
Unbroken W r (continue n) k = Unit {0}
Unbroken W r (return n v) k = Unit {0}
Unbroken W r (unmarked n mark a) k = Obeys W.scope (k next) a

-- What is named x breaks its rule: it is unmarked, stands somewhere in the walk, and does not obey with the needs that stand after it. Its name
-- is its statement's number (`by_statement`) or its mark's position (`by_position`).
-- (The inside of one that breaks its rule is walked on as if it were marked; that of one that obeys is not walked.)
pub data Breaks (W : Setting) (r : ℕ → PartReq) (name : ℕ → ℕ → ℕ) (x : ℕ) : Tree → (Exit → PartReq) → Type 0 where
  breaks_first : {a b : Tree} {k : Exit → PartReq} → Breaks W r name x a (upon (walk W r b k) k) → Breaks W r name x (seq a b) k
  breaks_second : {a b : Tree} {k : Exit → PartReq} → Breaks W r name x b k → Breaks W r name x (seq a b) k
  breaks_accept : {c : ExpressionHandle} {a b : Tree} {k : Exit → PartReq} → Breaks W r name x a k → Breaks W r name x (branch c a b) k
  breaks_reject : {c : ExpressionHandle} {a b : Tree} {k : Exit → PartReq} → Breaks W r name x b k → Breaks W r name x (branch c a b) k
  breaks_case : {c : ExpressionHandle} {vs : List ℕ} {f : ℕ → Tree} {k : Exit → PartReq} (i : ℕ) → i < length vs → Breaks W r name x (f i) (of_case k) → Breaks W r name x (switch c vs f) k
  breaks_body : {m : ℕ} {a b : Tree} {c : Option ExpressionHandle} {k : Exit → PartReq} → Breaks W r name x a (after_body W r m b c k) → Breaks W r name x (loop m a b c) k
  breaks_continuing : {m : ℕ} {a b : Tree} {c : Option ExpressionHandle} {k : Exit → PartReq} → Breaks W r name x b (after_continuing W.scope (r m) c k) → Breaks W r name x (loop m a b c) k
  breaks_itself : {n mark : ℕ} {a : Tree} {k : Exit → PartReq} → x ≡ name n mark → (Obeys W.scope (k next) a → ⊥) → Breaks W r name x (unmarked n mark a) k
  breaks_inside : {n mark : ℕ} {a : Tree} {k : Exit → PartReq} → (Obeys W.scope (k next) a → ⊥) → Breaks W r name x a k → Breaks W r name x (unmarked n mark a) k

-- What "smallest" says: a choice r of re-entry needs contains those of every loop, and the needs at the start that come of it contain
-- those at the start.
pub record Contained (S : Scope) (R : Request) (P : Report) (t : Table) (r : ℕ → PartReq) : Type 0 where
  pub loops : (j : ℕ) → contains (r j) (reentry t j) ≡ true
  pub start : contains (walk (setting S R) r (body S P) (ending S R)) (start_needs S R P t) ≡ true

-- What "the lowest" says: n is in the list, and nothing lower is.
pub data Member (n : ℕ) : List ℕ → Type 0 where
  here : {ns : List ℕ} → Member n (n ∷ ns)
  later : {m : ℕ} {ns : List ℕ} → Member n ns → Member n (m ∷ ns)

pub record Lowest (n : ℕ) (l : List ℕ) : Type 0 where
  pub member : Member n l
  pub least : (m : ℕ) → Member m l → n ≤ m
