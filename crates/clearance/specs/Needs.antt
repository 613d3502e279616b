-- The needs of 01's clearance: a part of each global, local, argument and evaluated expression, kept as one requirement by place.
-- They are walked backward through the body; the loops' re-entry needs come by rounds.
use Rattle.std.specs.Prelude.{ℕ, zero, suc, ◌+◌, ◌*◌, max, Bool, true, false, cond, not, ◌&&◌, ◌||◌, List, [], ◌∷◌, ◌++◌, map, length, get_or}
use Rattle.std.proofs.Math.Option.{Option, some as present, none as nothing}
use Rattle.part.specs.PartReq.{PartReq, all, none, more, get_subpart, add, contains}
use Rattle.module.specs.Module.{ExpressionHandle}
use Rattle.clearance.specs.Shape.{or_none, under, some, trim, hit, take_out, size}
use Rattle.clearance.specs.Scope.{Scope, Place, slot, evaluated, frame, Operand, whole, same, Arm, fixed, argued, pointing, operator, access_index, access}
use Rattle.clearance.specs.Scope.{swizzle, compose, joined, load, unjudged, arm, Source, given, from, source, Path, path_of, indexes, target}
use Rattle.clearance.specs.Tree.{Act, emit, store, Tree, nop, seq, act, branch, switch, loop, break, continue, return, unmarked}

-- What is asked of an expression's value, or of what stands at a place.
pub data Ask : Type 0 where
  of_value : ExpressionHandle → PartReq → Ask
  of_place : Place → PartReq → Ask

unfoldable pub ask_operand : PartReq → Operand → Ask
ask_operand a (whole x) = of_value x all
ask_operand a (same x) = of_value x a

abbrev pub ask_whole : ExpressionHandle → Ask
ask_whole x = of_value x all

-- the components that a pattern picks, from the component k of the result on
unfoldable pub ask_picked : ExpressionHandle → List ℕ → ℕ → PartReq → List Ask
ask_picked v [] k a = []
ask_picked v (i ∷ is) k a = of_value v (more i (or_none (get_subpart a k)) none) ∷ ask_picked v is (suc k) a

unfoldable pub ask_components : List ExpressionHandle → ℕ → PartReq → List Ask
ask_components [] k a = []
ask_components (c ∷ cs) k a = of_value c (or_none (get_subpart a k)) ∷ ask_components cs (suc k) a

-- whole from the first dynamic index on, with those indexes whole
unfoldable pub ask_steps : Path → List ExpressionHandle → PartReq → List Ask
ask_steps p [] a = of_place (target p) a ∷ []
ask_steps p (i ∷ is) a = of_place (target p) all ∷ ask_whole i ∷ map ask_whole is

-- What the need a of an expression asks of its operands.
unfoldable pub asks : Scope → Arm → PartReq → List Ask
asks S fixed a = []
asks S (argued i) a = []
asks S pointing a = []
asks S (operator xs) a = map (ask_operand a) xs
asks S (access_index base i) a = of_value base (more i a none) ∷ []
asks S (access base index) a = of_value base all ∷ of_value index all ∷ []
asks S (swizzle v pattern) a = ask_picked v pattern 0 a
asks S (compose cs) a = ask_components cs 0 a
asks S (joined cs) a = map ask_whole cs
asks S (load p) a = let q = path_of S p in ask_steps q (indexes q.steps) a
asks S unjudged a = []

-- whether an emit gives the expression its value: literals, zero values, constants, arguments and paths need none, and one changes nothing
unfoldable pub gives : Arm → Bool
gives fixed = false
gives (argued i) = false
gives pointing = false
gives (operator xs) = true
gives (access_index base i) = true
gives (access base index) = true
gives (swizzle v pattern) = true
gives (compose cs) = true
gives (joined cs) = true
gives (load p) = true
gives unjudged = false

-- the needs n, and the part a of what stands at a place
unfoldable pub need_at : Scope → Place → PartReq → PartReq → PartReq
need_at S p a n = add (trim (under p a) (frame S)) n

unfoldable pub need_from : Scope → Source → PartReq → PartReq → PartReq
need_from S given a n = n
need_from S (from p) a n = need_at S p a n

unfoldable pub need : Scope → Ask → PartReq → PartReq
need S (of_value e a) n = need_from S (source S e) a n
need S (of_place p a) n = need_at S p a n

unfoldable pub needs : Scope → List Ask → PartReq → PartReq
needs S [] n = n
needs S (x ∷ xs) n = need S x (needs S xs n)

-- what is needed of what an act gives: of the expression, or of the part that the store's path names before its first dynamic index
unfoldable pub overlap : Scope → Act → PartReq → PartReq
overlap S (emit e) n = cond (gives (arm S e)) (hit (frame S) n (slot (evaluated e))) none
overlap S (store p v) n = hit (frame S) n (target (path_of S p))

unfoldable pub without : Scope → Place → PartReq → PartReq
without S p n = trim (take_out (frame S) n p) (frame S)

-- Store: the overlap a is taken out and needed of the value. With a dynamic index nothing is taken out; value and indexes are needed whole.
unfoldable pub storing : Scope → Path → List ExpressionHandle → ExpressionHandle → PartReq → PartReq → PartReq
storing S p [] v a n = needs S (of_value v a ∷ []) (without S (target p) n)
storing S p (i ∷ is) v a n = needs S (ask_whole v ∷ ask_whole i ∷ map ask_whole is) n

-- Emit: the need a moves to the operands.
unfoldable pub giving : Scope → Act → PartReq → PartReq → PartReq
giving S (emit e) a n = needs S (asks S (arm S e) a) (without S (slot (evaluated e)) n)
giving S (store p v) a n = let q = path_of S p in storing S q (indexes q.steps) v a n

-- the needs before an act, with n those after it
unfoldable pub before : Scope → Act → PartReq → PartReq
before S x n = cond (some (overlap S x n)) (giving S x (overlap S x n) n) n

-- whether an act gives nothing that is needed
unfoldable pub idle : Scope → Act → PartReq → Bool
idle S x n = not (some (overlap S x n))

-- an expression, whole, and the needs n
unfoldable pub wholly : Scope → ExpressionHandle → PartReq → PartReq
wholly S e n = needs S (ask_whole e ∷ []) n

-- how a statement is left: at its end, by a break, a continue or a return
pub data Exit : Type 0 where
  next : Exit
  broke : Exit
  continued : Exit
  returned : Exit

-- by exit, with m at the end
unfoldable pub upon : {A : Type 0} → A → (Exit → A) → Exit → A
upon m k next = m
upon m k broke = k broke
upon m k continued = k continued
upon m k returned = k returned

-- Break ends its target, the innermost loop or switch: how that one is left then
unfoldable pub out_break : Exit → Exit
out_break next = next
out_break broke = next
out_break continued = continued
out_break returned = returned

-- Continue goes to its loop's continuing block.
unfoldable pub out_continue : Exit → Exit
out_continue next = next
out_continue broke = broke
out_continue continued = next
out_continue returned = returned

-- what stands after a switch's case, with k what stands after the switch
unfoldable pub of_case : {A : Type 0} → (Exit → A) → Exit → A
of_case k x = k (out_break x)

-- after a loop's continuing block, with m at its end, and k after the loop
unfoldable pub of_continuing : {A : Type 0} → A → (Exit → A) → Exit → A
of_continuing m k = upon m (of_case k)

-- after a loop's body, with m before its continuing block
unfoldable pub of_body : {A : Type 0} → A → (Exit → A) → Exit → A
of_body m k x = of_continuing m k (out_continue x)

-- for each of the first n
unfoldable pub each : ℕ → (ℕ → Bool) → Bool
each zero f = true
each (suc n) f = f n && each n f

unfoldable pub union : ℕ → (ℕ → PartReq) → PartReq
union zero f = none
union (suc n) f = add (f n) (union n f)

unfoldable pub concat : ℕ → (ℕ → List ℕ) → List ℕ
concat zero f = []
concat (suc n) f = f n ++ concat n f

unfoldable pub through : {A : Type 0} → ℕ → (ℕ → A → A) → A → A
through zero f m = m
through (suc n) f m = f n (through n f m)

unfoldable pub most : ℕ → (ℕ → ℕ) → ℕ
most zero f = 0
most (suc n) f = max (f n) (most n f)

-- Whether nothing inside gives what m needs, at any depth and whatever its marks, and it is left only where e allows.
unfoldable pub quiet : Scope → PartReq → Tree → (Exit → Bool) → Bool
quiet S m nop e = true
quiet S m (seq a b) e = quiet S m a e && quiet S m b e
quiet S m (act x) e = idle S x m
quiet S m (branch c a b) e = quiet S m a e && quiet S m b e
quiet S m (switch c vs f) e = each (length vs) (λ i. quiet S m (f i) (of_case e))
quiet S m (loop n a b c) e = quiet S m a (of_body true e) && quiet S m b (of_continuing true e)
quiet S m (break n) e = e broke
quiet S m (continue n) e = e continued
quiet S m (return n v) e = e returned
quiet S m (unmarked n mark a) e = quiet S m a e

-- no return, break or continue may leave it
unfoldable pub only_next : Exit → Bool
only_next next = true
only_next broke = false
only_next continued = false
only_next returned = false

-- the rule of an unmarked statement, where m is needed after it
unfoldable pub obeys : Scope → PartReq → Tree → Bool
obeys S m a = quiet S m a only_next

-- A broken rule is walked on as if marked, an if, switch or loop then keeping the needs after it as well.
unfoldable pub kept : Tree → PartReq → PartReq → PartReq
kept nop after n = add after n
kept (seq a b) after n = add after n
kept (act x) after n = n
kept (branch c a b) after n = add after n
kept (switch c vs f) after n = add after n
kept (loop l a b c) after n = add after n
kept (break l) after n = add after n
kept (continue l) after n = add after n
kept (return l v) after n = add after n
kept (unmarked l mark a) after n = add after n

-- After continuing stand the re-entry needs, and with `break_if` also the exit needs and the condition whole.
unfoldable pub turning : Scope → PartReq → Option ExpressionHandle → PartReq → PartReq
turning S again nothing left = again
turning S again (present c) left = wholly S c (add left again)

-- a return's value: `asked` of it is needed
unfoldable pub valued : Scope → PartReq → Option ExpressionHandle → PartReq → PartReq
valued S asked nothing n = n
valued S asked (present v) n = needs S (of_value v asked ∷ []) n

-- what stands after a loop's continuing block, by exit, with `again` its re-entry needs
unfoldable pub after_continuing : Scope → PartReq → Option ExpressionHandle → (Exit → PartReq) → Exit → PartReq
after_continuing S again c k = of_continuing (turning S again c (k next)) k

-- whether a test holds of the needs after a statement, of those before it, or at a point inside it
unfoldable pub around : (PartReq → Bool) → (after before : PartReq) → (inside : Bool) → Bool
around test after before inside = test after || (test before || inside)

-- what breaks a rule, named by its statement, or by its mark's position
abbrev pub by_statement : ℕ → ℕ → ℕ
by_statement n mark = n

abbrev pub by_position : ℕ → ℕ → ℕ
by_position n mark = mark

-- what the walk knows throughout: the function, and the part that is asked of its value
pub record Setting : Type 0 where
  pub scope : Scope
  pub asked : PartReq

-- each loop's re-entry needs, by its number; at first none
abbrev pub Table : Type 0
Table = List PartReq

unfoldable pub reentry : Table → ℕ → PartReq
reentry t n = get_or t n none

unfoldable pub join_at : ℕ → PartReq → Table → Table
join_at zero m [] = add m none ∷ []
join_at (suc n) m [] = none ∷ join_at n m []
join_at zero m (x ∷ t) = add m x ∷ t
join_at (suc n) m (x ∷ t) = x ∷ join_at n m t

-- The walk, with r the re-entry needs of each loop.
module _ (W : Setting) (r : ℕ → PartReq) where
  -- the needs before a statement, with k those after it by exit
  unfoldable pub walk : Tree → (Exit → PartReq) → PartReq
  walk nop k = k next
  walk (seq a b) k = walk a (upon (walk b k) k)
  walk (act x) k = before W.scope x (k next)
  walk (branch c a b) k = wholly W.scope c (add (walk a k) (walk b k))
  walk (switch c vs f) k = wholly W.scope c (union (length vs) (λ i. walk (f i) (of_case k)))
  walk (loop n a b c) k = walk a (of_body (walk b (after_continuing W.scope (r n) c k)) k)
  walk (break n) k = k broke
  walk (continue n) k = k continued
  walk (return n v) k = valued W.scope W.asked v (k returned)
  walk (unmarked n mark a) k = cond (obeys W.scope (k next) a) (k next) (kept a (k next) (walk a k))

  -- what stands after a loop's body, by exit
  unfoldable pub after_body : ℕ → Tree → Option ExpressionHandle → (Exit → PartReq) → Exit → PartReq
  after_body n b c k = of_body (walk b (after_continuing W.scope (r n) c k)) k

  -- what breaks a rule, by a name made of the statement's number and its mark's position
  unfoldable pub lacking : (name : ℕ → ℕ → ℕ) → Tree → (Exit → PartReq) → List ℕ
  lacking name nop k = []
  lacking name (seq a b) k = lacking name a (upon (walk b k) k) ++ lacking name b k
  lacking name (act x) k = []
  lacking name (branch c a b) k = lacking name a k ++ lacking name b k
  lacking name (switch c vs f) k = concat (length vs) (λ i. lacking name (f i) (of_case k))
  lacking name (loop n a b c) k = lacking name a (after_body n b c k) ++ lacking name b (after_continuing W.scope (r n) c k)
  lacking name (break n) k = []
  lacking name (continue n) k = []
  lacking name (return n v) k = []
  lacking name (unmarked n mark a) k = cond (obeys W.scope (k next) a) [] (name n mark ∷ lacking name a k)

  -- the statements that break a rule
  abbrev pub broken : Tree → (Exit → PartReq) → List ℕ
  broken = lacking by_statement

  -- the positions of the marks whose lack breaks a rule
  abbrev pub missing : Tree → (Exit → PartReq) → List ℕ
  missing = lacking by_position

  -- whether the re-entry needs hold: what stands before each loop's body is in them
  unfoldable pub stable : Tree → (Exit → PartReq) → Bool
  stable nop k = true
  stable (seq a b) k = stable a (upon (walk b k) k) && stable b k
  stable (act x) k = true
  stable (branch c a b) k = stable a k && stable b k
  stable (switch c vs f) k = each (length vs) (λ i. stable (f i) (of_case k))
  stable (loop n a b c) k =
      contains (r n) (walk a (after_body n b c k))
      && (stable a (after_body n b c k) && stable b (after_continuing W.scope (r n) c k))
  stable (break n) k = true
  stable (continue n) k = true
  stable (return n v) k = true
  stable (unmarked n mark a) k = cond (obeys W.scope (k next) a) true (stable a k)

  -- what stands before each loop's body joined into a table
  unfoldable pub sweep : Tree → (Exit → PartReq) → Table → Table
  sweep nop k t = t
  sweep (seq a b) k t = sweep a (upon (walk b k) k) (sweep b k t)
  sweep (act x) k t = t
  sweep (branch c a b) k t = sweep a k (sweep b k t)
  sweep (switch c vs f) k t = through (length vs) (λ i. sweep (f i) (of_case k)) t
  sweep (loop n a b c) k t =
      join_at n (walk a (after_body n b c k)) (sweep a (after_body n b c k) (sweep b (after_continuing W.scope (r n) c k) t))
  sweep (break n) k t = t
  sweep (continue n) k t = t
  sweep (return n v) k t = t
  sweep (unmarked n mark a) k t = cond (obeys W.scope (k next) a) t (sweep a k t)

  -- whether a test holds of the needs at some point inside a statement: before and after each statement and each expression of an emit in
  -- it. The points before and after the statement itself are left out: before one that breaks its rule only what is kept stands.
  unfoldable pub amid : (PartReq → Bool) → Tree → (Exit → PartReq) → Bool
  amid test nop k = false
  amid test (seq a b) k = test (walk b k) || (amid test a (upon (walk b k) k) || amid test b k)
  amid test (act x) k = false
  amid test (branch c a b) k = around test (k next) (walk a k) (amid test a k) || around test (k next) (walk b k) (amid test b k)
  amid test (switch c vs f) k =
      not (each (length vs) (λ i. not (around test (of_case k next) (walk (f i) (of_case k)) (amid test (f i) (of_case k)))))
  amid test (loop n a b c) k =
      let l = after_body n b c k in
      let m = after_continuing W.scope (r n) c k in
      around test (l next) (walk a l) (amid test a l) || around test (m next) (walk b m) (amid test b m)
  amid test (break n) k = false
  amid test (continue n) k = false
  amid test (return n v) k = false
  amid test (unmarked n mark a) k = cond (obeys W.scope (k next) a) false (amid test a k)

  -- at some point: before and after each statement and each expression of an emit
  unfoldable pub somewhere : (PartReq → Bool) → Tree → (Exit → PartReq) → Bool
  somewhere test a k = around test (k next) (walk a k) (amid test a k)

-- Rounds

-- the loops have numbers below this
unfoldable pub loops : Tree → ℕ
loops nop = 0
loops (seq a b) = max (loops a) (loops b)
loops (act x) = 0
loops (branch c a b) = max (loops a) (loops b)
loops (switch c vs f) = most (length vs) (λ i. loops (f i))
loops (loop n a b c) = max (suc n) (max (loops a) (loops b))
loops (break n) = 0
loops (continue n) = 0
loops (return n v) = 0
loops (unmarked n mark a) = loops a

-- a round walks the body once with them and joins in what stands before each loop's body
unfoldable pub round : Setting → Tree → (Exit → PartReq) → Table → Table
round W a k t = sweep W (reentry t) a k t

-- rounds until nothing changes, at most so many
unfoldable pub settle : Setting → Tree → (Exit → PartReq) → ℕ → Table → Option Table
settle W a k zero t = nothing
settle W a k (suc n) t = elim (stable W (reentry t) a k) [ true ↦ present t | false ↦ settle W a k n (round W a k t) ]

-- Enough rounds: each that changes something covers one more part of one loop's needs.
unfoldable pub enough : Setting → Tree → ℕ
enough W a = 1 + loops a * size (frame W.scope)

-- The smallest needs of each loop that hold on re-entry.
unfoldable pub smallest : Setting → Tree → (Exit → PartReq) → Option Table
smallest W a k = settle W a k (enough W a) []
