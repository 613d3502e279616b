-- One pass over a body, last statement first: the needs as `walk` has them, and carried along what `sweep`, `broken`, `stable` and
-- `somewhere` say, with a working bound on the needs that are kept. What is kept is a list of needs, and counts by its cells, each once: so it does not
-- matter how often a need is kept, or by whom.
use Rattle.std.specs.Prelude.{ℕ, zero, suc, ◌≡◌, Bool, cond, ◌&&◌, ◌||◌, List, [], ◌∷◌, ◌++◌, map, ltb, length}
use Rattle.std.proofs.Math.Option.{Option, some as present, none as absent}
use Rattle.field.specs.Limits.{max_pieces}
use Rattle.part.specs.PartReq.{PartReq, none, add, contains, over}
use Rattle.part.specs.Collect.{cells_of}
use Rattle.module.specs.Module.{ExpressionHandle}
use Rattle.clearance.specs.Shape.{some, under, trim}
use Rattle.clearance.specs.Scope.{Scope, Source, given, from, source, Path, path_of, indexes, target, slot, evaluated, arm, frame}
use Rattle.clearance.specs.Tree.{Act, emit, store, Tree, nop, seq, act, branch, switch, loop, break, continue, return, unmarked}
use Rattle.clearance.specs.Needs.{Ask, of_value, of_place, ask_whole, asks, need, overlap, without}
use Rattle.clearance.specs.Needs.{Exit, next, broke, continued, returned, upon, of_case, of_body, obeys, kept}
use Rattle.clearance.specs.Needs.{after_continuing, Setting, Table, reentry, join_at, walk, broken, stable, sweep, somewhere}
use Rattle.clearance.specs.Judged.{lower}
use Rattle.clearance.specs.Verdict.{pieces}

-- The cells of all needs that are kept at once, each once; past it the answer is 26. Our own (docs/DIFFERENCES.md).
abbrev pub work_bound : ℕ
work_bound = 65536

-- whether the needs at a point have too many pieces
unfoldable pub too_many : PartReq → Bool
too_many n = ltb max_pieces (pieces n)

-- What a pass carries along.
pub record Carried : Type 0 where
  -- the new table
  pub table : Table
  -- the lowest statement so far that breaks its rule
  pub fault : Option ℕ
  -- whether each loop's needs held so far
  pub held : Bool
  -- whether the needs were past 15, and past 16, at some point
  pub deep : Bool
  pub wide : Bool

-- what is carried on, with the needs before; or the bound is passed
pub data Passed : Type 0 where
  on : Carried → PartReq → Passed
  full : Passed

abbrev pub ◌>>=◌ : Passed → (Carried → PartReq → Passed) → Passed
◌>>=◌ (on c n) f = f c n
◌>>=◌ full f = full

infixl 20 ◌>>=◌
-- with the needs n at a point
unfoldable pub point : PartReq → Carried → Carried
point n c = record { table = c.table; fault = c.fault; held = c.held; deep = over n || c.deep; wide = too_many n || c.wide }

-- with the statement n, which breaks its rule
unfoldable pub blame : ℕ → Carried → Carried
blame n c = record { table = c.table; fault = lower n c.fault; held = c.held; deep = c.deep; wide = c.wide }

-- with m before the body of the loop n, whose needs on re-entry were taken to be `again`
unfoldable pub enter : ℕ → PartReq → PartReq → Carried → Carried
enter n again m c =
    record { table = join_at n m c.table; fault = c.fault; held = contains again m && c.held; deep = c.deep; wide = c.wide }

-- a stretch f of a pass with the needs n after it, and the points after and before it
unfoldable pub pointed : PartReq → (Carried → Passed) → Carried → Passed
pointed n f c = f (point n c) >>= λ d m. on (point m d) m

-- whether the needs n, what is kept aside and the new table are past the bound
unfoldable pub too_large : (aside : List PartReq) → PartReq → Carried → Bool
too_large aside n c = ltb work_bound (cells_of (n ∷ (aside ++ c.table)))

-- the needs n, where they have room
unfoldable pub within : (aside : List PartReq) → PartReq → Carried → Passed
within aside n c = cond (too_large aside n c) full (on c n)

-- the sum of two needs; both are kept while it is made
unfoldable pub joining : (aside : List PartReq) → (m n : PartReq) → Carried → Passed
joining aside m n c = within (m ∷ n ∷ aside) (add m n) c

-- what an ask adds to the needs
unfoldable pub part_from : Scope → Source → PartReq → PartReq
part_from S given a = none
part_from S (from p) a = trim (under p a) (frame S)

unfoldable pub part_of : Scope → Ask → PartReq
part_of S (of_value e a) = part_from S (source S e) a
part_of S (of_place p a) = part_from S (from p) a

-- one ask, and a list of them, the last first
unfoldable pub asking : Scope → (aside : List PartReq) → Ask → PartReq → Carried → Passed
asking S aside x n c = within (part_of S x ∷ n ∷ aside) (need S x n) c

unfoldable pub asking_all : Scope → (aside : List PartReq) → List Ask → PartReq → Carried → Passed
asking_all S aside [] n c = on c n
asking_all S aside (x ∷ xs) n c = asking_all S aside xs n c >>= λ d m. asking S aside x m d

-- an act with the overlap a: what it asks, and the needs that it leaves
unfoldable pub store_asks : List ExpressionHandle → ExpressionHandle → PartReq → List Ask
store_asks [] v a = of_value v a ∷ []
store_asks (i ∷ is) v a = ask_whole v ∷ ask_whole i ∷ map ask_whole is

unfoldable pub store_leaves : Scope → Path → List ExpressionHandle → PartReq → PartReq
store_leaves S p [] n = without S (target p) n
store_leaves S p (i ∷ is) n = n

unfoldable pub act_asks : Scope → Act → PartReq → List Ask
act_asks S (emit e) a = asks S (arm S e) a
act_asks S (store p v) a = store_asks (indexes (path_of S p).steps) v a

unfoldable pub act_leaves : Scope → Act → PartReq → PartReq
act_leaves S (emit e) n = without S (slot (evaluated e)) n
act_leaves S (store p v) n = let q = path_of S p in store_leaves S q (indexes q.steps) n

-- The needs before an act, with n those after it, which are kept meanwhile: the overlap is a part of them.
unfoldable pub acting : Scope → (aside : List PartReq) → Act → PartReq → Carried → Passed
acting S aside x n c =
    cond (some (overlap S x n))
    (within (n ∷ aside) (act_leaves S x n) c >>= λ d m. asking_all S (n ∷ aside) (act_asks S x (overlap S x n)) m d)
    (on c n)

-- After continuing stand the re-entry needs, and with `break_if` also the exit needs and the condition whole.
unfoldable pub turning_on : Scope → (aside : List PartReq) → (again : PartReq) → Option ExpressionHandle → (exit : PartReq) → Carried → Passed
turning_on S aside again absent left c = within aside again c
turning_on S aside again (present x) left c = joining aside left again c >>= λ d m. asking S aside (ask_whole x) m d

-- a return's value
unfoldable pub valuing : Scope → (aside : List PartReq) → (asked : PartReq) → Option ExpressionHandle → PartReq → Carried → Passed
valuing S aside asked absent n c = within aside n c
valuing S aside asked (present v) n c = asking S aside (of_value v asked) n c

-- w before the body of the loop n: it is joined to the new table's needs of that loop
unfoldable pub entering : (aside : List PartReq) → ℕ → (again w : PartReq) → Carried → Passed
entering aside n again w c = within (add w (reentry c.table n) ∷ aside) w c >>= λ d m. on (enter n again m d) m

-- The first n cases of a switch, ascending, and the union of their needs. While a case is walked, the union so far is kept aside.
unfoldable pub pass_cases : ℕ → (ℕ → List PartReq → Carried → Passed) → (aside : List PartReq) → Carried → Passed
pass_cases zero f aside c = on c none
pass_cases (suc n) f aside c = pass_cases n f aside c >>= λ d u. f n (u ∷ aside) d >>= λ e m. joining aside m u e

-- The pass, with r the re-entry needs of each loop. `aside` lists what is kept elsewhere: not the needs at hand, k next, nor those of the new
-- table. Where all three are within the bound before a statement, they are after it.
module _ (W : Setting) (r : ℕ → PartReq) where
  -- a statement, without the points before and after it
  unfoldable pub pass_inside : Tree → (aside : List PartReq) → (Exit → PartReq) → Carried → Passed
  -- nothing is made
  pass_inside nop aside k c = on c (k next)
  -- b's needs are at hand while a is walked: nothing more is kept
  pass_inside (seq a b) aside k c = pass_inside b aside k c >>= λ d m. pass_inside a aside (upon m k) (point m d)
  pass_inside (act x) aside k c = acting W.scope aside x (k next) c
  -- kept: the needs after it while reject is walked, reject's while accept is
  pass_inside (branch x a b) aside k c =
      pointed (k next) (pass_inside b (k next ∷ aside) k) c >>= λ d m.
      pointed (k next) (pass_inside a (m ∷ aside) k) d >>= λ e n. joining aside n m e >>= λ g u. asking W.scope aside (ask_whole x) u g
  -- kept: the needs after it, which stand after each case and at a break, and the union so far
  pass_inside (switch x vs f) aside k c =
      pass_cases (length vs) (λ i aside'. pointed (of_case k next) (pass_inside (f i) aside' (of_case k))) (k next ∷ aside) c >>= λ e u.
      asking W.scope aside (ask_whole x) u e
  -- kept: the needs after it, which stand at a break; while the body is walked those before continuing too, which stand at a continue
  pass_inside (loop n a b x) aside k c =
      let l = after_continuing W.scope (r n) x k in
      turning_on W.scope (k next ∷ aside) (r n) x (k next) c >>= λ c' _.
      pointed (l next) (pass_inside b (k next ∷ aside) l) c' >>= λ d m.
      pointed (of_body m k next) (pass_inside a (m ∷ k next ∷ aside) (of_body m k)) d >>= λ e w. entering aside n (r n) w e
  pass_inside (break n) aside k c = within aside (k broke) c
  pass_inside (continue n) aside k c = within aside (k continued) c
  pass_inside (return n v) aside k c = valuing W.scope aside W.asked v (k returned) c
  -- One that obeys its rule is not walked, and nothing is made. Else kept: the needs after it.
  pass_inside (unmarked n mark a) aside k c =
      cond (obeys W.scope (k next) a) (on c (k next))
      (pass_inside a (k next ∷ aside) k c >>= λ d m. within (k next ∷ m ∷ aside) (kept a (k next) m) (blame n d))

  -- a statement, with the points before and after it
  unfoldable pub pass : Tree → (aside : List PartReq) → (Exit → PartReq) → Carried → Passed
  pass a aside k = pointed (k next) (pass_inside a aside k)

-- the lowest of a list and of what was known
unfoldable pub lowest_with : List ℕ → Option ℕ → Option ℕ
lowest_with [] o = o
lowest_with (n ∷ ns) o = lower n (lowest_with ns o)

-- what a pass comes to, in the words of the definition
pub record PassIs (W : Setting) (r : ℕ → PartReq) (a : Tree) (k : Exit → PartReq) (c d : Carried) (m : PartReq) : Type 0 where
  pub needs : m ≡ walk W r a k
  pub table : d.table ≡ sweep W r a k c.table
  pub fault : d.fault ≡ lowest_with (broken W r a k) c.fault
  pub held : d.held ≡ (stable W r a k && c.held)
  pub deep : d.deep ≡ (somewhere W r over a k || c.deep)
  pub wide : d.wide ≡ (somewhere W r too_many a k || c.wide)
