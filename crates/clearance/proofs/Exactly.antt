-- The rules in 01's words are what the walk tests: an unmarked statement obeys, no rule is broken, and no evaluated expression is needed at the
-- start, each exactly where its test says so. By induction over the statement and over the needs.
use Prim.Native.Nat.{ℕ, zero, suc, ◌+◌, ◌-◌, ◌*◌, ◌/◌, ◌%◌, ◌<◌, ◌≤◌}
use native.Mathlib.Omega.{arith}
use mathlib.Core.Path.{◌≡◌, refl, sym, ap, ◌∙◌}
use mathlib.Core.Bool.{Bool, true, false, ◌||◌}
use mathlib.Core.List.{List, [], ◌∷◌, ◌++◌}
use mathlib.Core.Logic.{◌↔◌}
use mathlib.Core.Option.{Option}
use lib.Dec.{ltb}
use lib.ListN.{length}
use borrow.Author.Tests.{ltb-true, ltb-false, not-true}
use Rattle.part.specs.PartReq.{PartReq, all, exist, none, more, spine}
use Rattle.part.proofs.Equations.{never}
use Rattle.module.specs.Module.{ExpressionHandle}
use Rattle.clearance.specs.Shape.{Shape, struct, member, inside, cov, some}
use Rattle.clearance.specs.Scope.{Scope, slot, evaluated, variable, slots, kind_shape, frame}
use Rattle.clearance.specs.Tree.{Act, Tree, nop, seq, act, branch, switch, loop, break, continue, return, unmarked}
use Rattle.clearance.specs.Needs.{overlap, idle, Exit, next, broke, continued, returned, upon, out_break, out_continue, of_case, of_continuing, of_body, concat, quiet, only_next, obeys}
use Rattle.clearance.specs.Needs.{Setting, lacking}
use Rattle.clearance.specs.Verdict.{needs_expression}
use Rattle.clearance.specs.Rules.{StandsIn, itself, first, second, in_accept, in_reject, in_case, in_body, in_continuing, in_unmarked, Obeys, Unbroken}
use Rattle.clearance.specs.Rules.{Leaves, by_break, by_continue, by_return, from_first, from_second, from_accept, from_reject, case_continues, case_returns, body_returns, continuing_continues, continuing_returns, from_unmarked}
use Rattle.clearance.specs.IsNeed.{IsNeed}
use Rattle.clearance.proofs.Small.{cases, both_true, both_are, neither, unbroken, each_at, each_from, concat-at}
use Rattle.clearance.proofs.Cov.{cov-all, cov-none, cov-exist, cov-after, cov-here, cov-extend}
use Rattle.clearance.proofs.Count.{tidy_seen, struct-index, struct_at, later_need}

-- An unmarked statement

quiet-acts : (S : Scope) (x : Act) (a : Tree) (m : PartReq) (e : Exit → Bool) → StandsIn x a → quiet S m a e ≡ true → some (overlap S x m) ≡ false
unfolding quiet idle
quiet-acts S x a m e itself q = not-true _ q
quiet-acts S x a m e (first h) q = quiet-acts S x _ m e h (both_true _ _ q).0
quiet-acts S x a m e (second {a = b} h) q = quiet-acts S x _ m e h (both_true (quiet S m b e) _ q).1
quiet-acts S x a m e (in_accept h) q = quiet-acts S x _ m e h (both_true _ _ q).0
quiet-acts S x a m e (in_reject {a = b} h) q = quiet-acts S x _ m e h (both_true (quiet S m b e) _ q).1
quiet-acts S x a m e (in_case {vs = vs} {f = f} i l h) q = quiet-acts S x _ m (of_case e) h (each_at (length vs) (λ i. quiet S m (f i) (of_case e)) q i l)
quiet-acts S x a m e (in_body h) q = quiet-acts S x _ m _ h (both_true _ _ q).0
quiet-acts S x a m e (in_continuing {a = b} h) q = quiet-acts S x _ m _ h (both_true (quiet S m b (of_body true e)) _ q).1
quiet-acts S x a m e (in_unmarked h) q = quiet-acts S x _ m e h q

quiet-leaves : {n : ℕ} (S : Scope) (y : Exit) (a : Tree) (m : PartReq) (e : Exit → Bool) → Leaves n y a → quiet S m a e ≡ true → e y ≡ true
unfolding quiet of_case of_body of_continuing upon out_break out_continue
quiet-leaves S y a m e by_break q = q
quiet-leaves S y a m e by_continue q = q
quiet-leaves S y a m e by_return q = q
quiet-leaves S y a m e (from_first h) q = quiet-leaves S y _ m e h (both_true _ _ q).0
quiet-leaves S y a m e (from_second {a = b} h) q = quiet-leaves S y _ m e h (both_true (quiet S m b e) _ q).1
quiet-leaves S y a m e (from_accept h) q = quiet-leaves S y _ m e h (both_true _ _ q).0
quiet-leaves S y a m e (from_reject {a = b} h) q = quiet-leaves S y _ m e h (both_true (quiet S m b e) _ q).1
quiet-leaves S y a m e (case_continues {vs = vs} {f = f} i l h) q = quiet-leaves S continued _ m (of_case e) h (each_at (length vs) (λ i. quiet S m (f i) (of_case e)) q i l)
quiet-leaves S y a m e (case_returns {vs = vs} {f = f} i l h) q = quiet-leaves S returned _ m (of_case e) h (each_at (length vs) (λ i. quiet S m (f i) (of_case e)) q i l)
quiet-leaves S y a m e (body_returns h) q = quiet-leaves S returned _ m (of_body true e) h (both_true _ _ q).0
quiet-leaves S y a m e (continuing_continues {a = b} h) q = quiet-leaves S continued _ m (of_continuing true e) h (both_true (quiet S m b (of_body true e)) _ q).1
quiet-leaves S y a m e (continuing_returns {a = b} h) q = quiet-leaves S returned _ m (of_continuing true e) h (both_true (quiet S m b (of_body true e)) _ q).1
quiet-leaves S y a m e (from_unmarked h) q = quiet-leaves S y _ m e h q

-- a statement is never left at its end by a break, continue or return
pub no_next : {n : ℕ} (y : Exit) (a : Tree) → Leaves n y a → only_next y ≡ false
unfolding only_next
no_next y a by_break = refl
no_next y a by_continue = refl
no_next y a by_return = refl
no_next y a (from_first h) = no_next y _ h
no_next y a (from_second h) = no_next y _ h
no_next y a (from_accept h) = no_next y _ h
no_next y a (from_reject h) = no_next y _ h
no_next y a (case_continues i l h) = refl
no_next y a (case_returns i l h) = refl
no_next y a (body_returns h) = refl
no_next y a (continuing_continues h) = refl
no_next y a (continuing_returns h) = refl
no_next y a (from_unmarked h) = no_next y _ h

module _ (S : Scope) (m : PartReq) where
  abbrev Spared : Tree → Type 0
  Spared a = (x : Act) → StandsIn x a → some (overlap S x m) ≡ false

  abbrev Stays : Tree → (Exit → Bool) → Type 0
  Stays a e = (n : ℕ) (y : Exit) → Leaves n y a → e y ≡ true

  case_stays : (c : ExpressionHandle) (vs : List ℕ) (f : ℕ → Tree) (e : Exit → Bool) → e next ≡ true → Stays (switch c vs f) e → (i : ℕ) → i < length vs → Stays (f i) (of_case e)
  unfolding of_case out_break
  case_stays c vs f e z h i l o next g = z
  case_stays c vs f e z h i l o broke g = z
  case_stays c vs f e z h i l o continued g = h o continued (case_continues i l g)
  case_stays c vs f e z h i l o returned g = h o returned (case_returns i l g)

  body_stays : (n : ℕ) (a b : Tree) (c : Option ExpressionHandle) (e : Exit → Bool) → e next ≡ true → Stays (loop n a b c) e → Stays a (of_body true e)
  unfolding of_body of_continuing upon of_case out_break out_continue
  body_stays n a b c e z h o next g = refl
  body_stays n a b c e z h o broke g = z
  body_stays n a b c e z h o continued g = refl
  body_stays n a b c e z h o returned g = h o returned (body_returns g)

  continuing_stays : (n : ℕ) (a b : Tree) (c : Option ExpressionHandle) (e : Exit → Bool) → e next ≡ true → Stays (loop n a b c) e → Stays b (of_continuing true e)
  unfolding of_continuing upon of_case out_break
  continuing_stays n a b c e z h o next g = refl
  continuing_stays n a b c e z h o broke g = z
  continuing_stays n a b c e z h o continued g = h o continued (continuing_continues g)
  continuing_stays n a b c e z h o returned g = h o returned (continuing_returns g)

  quiet-from : (a : Tree) (e : Exit → Bool) → e next ≡ true → Spared a → Stays a e → quiet S m a e ≡ true
  unfolding quiet idle of_case of_body of_continuing upon out_break out_continue
  quiet-from nop e z h g = refl
  quiet-from (seq a b) e z h g =
      both_are _ _ (quiet-from a e z (λ x i. h x (first i)) (λ o y i. g o y (from_first i))) (quiet-from b e z (λ x i. h x (second i)) (λ o y i. g o y (from_second i)))
  quiet-from (act x) e z h g = rw (h x itself)
  quiet-from (branch c a b) e z h g =
      both_are _ _ (quiet-from a e z (λ x i. h x (in_accept i)) (λ o y i. g o y (from_accept i))) (quiet-from b e z (λ x i. h x (in_reject i)) (λ o y i. g o y (from_reject i)))
  quiet-from (switch c vs f) e z h g =
      each_from (length vs) _ (λ i l. quiet-from (f i) (of_case e) z (λ x j. h x (in_case i l j)) (case_stays c vs f e z g i l))
  quiet-from (loop n a b c) e z h g =
      both_are _ _ (quiet-from a (of_body true e) refl (λ x i. h x (in_body i)) (body_stays n a b c e z g))
      (quiet-from b (of_continuing true e) refl (λ x i. h x (in_continuing i)) (continuing_stays n a b c e z g))
  quiet-from (break n) e z h g = g n broke by_break
  quiet-from (continue n) e z h g = g n continued by_continue
  quiet-from (return n v) e z h g = g n returned by_return
  quiet-from (unmarked n mark a) e z h g = quiet-from a e z (λ x i. h x (in_unmarked i)) (λ o y i. g o y (from_unmarked i))

  pub obeys-exactly : (a : Tree) → (obeys S m a ≡ true) ↔ Obeys S m a
  unfolding obeys only_next
  obeys-exactly a = (
    (λ q. record {
      nothing_needed = λ x h. quiet-acts S x a m only_next h q;
      nothing_leaves = λ n y h. never' (sym (no_next y a h) ∙ quiet-leaves S y a m only_next h q);
    }),
    (λ o. quiet-from a only_next refl o.nothing_needed (λ n y h. absurd (o.nothing_leaves n y h))),
  )
    where
      never' : false ≡ true → ⊥
      never' e = never e

  pub disobeys : (a : Tree) → (Obeys S m a → ⊥) → obeys S m a ≡ false
  disobeys a o = cases (obeys S m a) (λ e. absurd (o ((obeys-exactly a).0 e))) (λ e. e)

-- All unmarked statements

nothing_of : (a b : List ℕ) → a ≡ [] → b ≡ [] → a ++ b ≡ []
nothing_of a b h g = rw h g

concat-from : (n : ℕ) (f : ℕ → List ℕ) → ((i : ℕ) → i < n → f i ≡ []) → concat n f ≡ []
unfolding concat
concat-from zero f h = refl
concat-from (suc n) f h = nothing_of (f n) _ (h n (omega arith)) (concat-from n f (λ i l. h i (omega arith)))

module _ (W : Setting) (r : ℕ → PartReq) (name : ℕ → ℕ → ℕ) where
  unbroken_of : (a : Tree) (k : Exit → PartReq) → lacking W r name a k ≡ [] → Unbroken W r a k
  unfolding lacking
  unbroken_of nop k h = tt
  unbroken_of (seq a b) k h = let z = neither _ _ h in (unbroken_of a _ z.0, unbroken_of b k z.1)
  unbroken_of (act x) k h = tt
  unbroken_of (branch c a b) k h = let z = neither _ _ h in (unbroken_of a k z.0, unbroken_of b k z.1)
  unbroken_of (switch c vs f) k h = λ i l. unbroken_of (f i) (of_case k) (concat-at (length vs) (λ i. lacking W r name (f i) (of_case k)) h i l)
  unbroken_of (loop n a b c) k h = let z = neither _ _ h in (unbroken_of a _ z.0, unbroken_of b _ z.1)
  unbroken_of (break n) k h = tt
  unbroken_of (continue n) k h = tt
  unbroken_of (return n v) k h = tt
  unbroken_of (unmarked n mark a) k h = (obeys-exactly W.scope (k next) a).0 (unbroken _ (name n mark) _ h)

  broken_none : (a : Tree) (k : Exit → PartReq) → Unbroken W r a k → lacking W r name a k ≡ []
  unfolding lacking
  broken_none nop k h = refl
  broken_none (seq a b) k h = nothing_of _ _ (broken_none a _ h.0) (broken_none b k h.1)
  broken_none (act x) k h = refl
  broken_none (branch c a b) k h = nothing_of _ _ (broken_none a k h.0) (broken_none b k h.1)
  broken_none (switch c vs f) k h = concat-from (length vs) _ (λ i l. broken_none (f i) (of_case k) (h i l))
  broken_none (loop n a b c) k h = nothing_of _ _ (broken_none a _ h.0) (broken_none b _ h.1)
  broken_none (break n) k h = refl
  broken_none (continue n) k h = refl
  broken_none (return n v) k h = refl
  broken_none (unmarked n mark a) k h = rw ((obeys-exactly W.scope (k next) a).1 h)

  pub broken_exactly : (a : Tree) (k : Exit → PartReq) → (lacking W r name a k ≡ []) ↔ Unbroken W r a k
  broken_exactly a k = (unbroken_of a k, broken_none a k)

-- The start

neither_of : (a b : Bool) → a || b ≡ false → (a ≡ false) × (b ≡ false)
neither_of true b h = (h, never (sym h))
neither_of false b h = (refl, h)

-- where no evaluated expression is needed, nothing from their first index on is covered
none_needed : (n : PartReq) (j : ℕ) (q : List ℕ) → needs_expression n ≡ false → variable 3 < j → cov n (j ∷ q) ≡ false
unfolding needs_expression
none_needed all j q h l = never (sym h)
none_needed exist j q h l = cov-exist (j ∷ q)
none_needed none j q h l = cov-none (j ∷ q)
none_needed (more i p r) j q h l =
    let z = neither_of (ltb (variable 3) i) (needs_expression r) h in
    let y = ltb-false (variable 3) i z.0 in
    cov-after i j p r q (omega arith) ∙ none_needed r j q z.1 l

pub evaluations_none : (n : PartReq) → needs_expression n ≡ false → (e : ExpressionHandle) (q : List ℕ) → cov n (slot (evaluated e) ++ q) ≡ false
unfolding slot
evaluations_none n h e q = none_needed n (variable (4 + e / 32)) _ h (omega arith)

-- the other way round: an entry from there on covers something of some expression
Evaluation : PartReq → Type 0
Evaluation n = (e : ExpressionHandle) × (q : List ℕ) × (cov n (slot (evaluated e) ++ q) ≡ true)

-- what lies in slots lies in one of them
slots-in : (n : ℕ) (f : ℕ → Shape) (i : ℕ) (q : List ℕ) → inside (member (slots n f) i) q ≡ true →
    (spine ≤ i) × (i < spine + n) × (inside (f (i - spine)) q ≡ true)
unfolding slots
slots-in n f i q h =
    let z = struct-index spine n (λ j. f (j - spine)) i q h in
    let e : i ≡ spine + (i - spine) = omega (arith, z.0) in
    let l : i - spine < n = omega (arith, z.0, z.1) in
    let y : member (struct spine n (λ j. f (j - spine))) i ≡ f (i - spine) =
    ap (member (struct spine n (λ j. f (j - spine)))) e ∙ struct_at spine n (λ j. f (j - spine)) (i - spine) l ∙ ap (λ j. f (j - spine)) (sym e) in
    (z.0, z.1, rw y at h)

frame-in : (S : Scope) (i : ℕ) (q : List ℕ) → inside (member (frame S) i) q ≡ true → variable 3 < i →
    (b : ℕ) × (i ≡ variable (4 + b)) × (inside (kind_shape S (suc (suc (suc (suc b))))) q ≡ true)
unfolding frame
frame-in S i q h l =
    let z = slots-in _ (kind_shape S) i q h in
    let b = i - spine - 4 in
    let e : i - spine ≡ suc (suc (suc (suc b))) = omega (arith, z.0) in
    (b, omega (arith, z.0), rw e at z.2)

-- a need of the expressions 32 b to 32 b + 31 is one of some expression
evaluation_in : (S : Scope) (b : ℕ) (p : PartReq) (q : List ℕ) → inside (kind_shape S (suc (suc (suc (suc b))))) q ≡ true → cov p q ≡ true →
    (c : ℕ) × (o : List ℕ) × (c < 32) × (cov p (variable c ∷ o) ≡ true)
unfolding kind_shape inside
evaluation_in S b p [] h c = (0, [], omega arith, cov-extend p [] (variable 0 ∷ []) c)
evaluation_in S b p (i ∷ q) h c =
    let z = slots-in 32 _ i q h in
    let e : i ≡ variable (i - spine) = omega (arith, z.0) in
    (i - spine, q, omega (arith, z.0, z.1), rw e at c)

expression-number : (b c : ℕ) → c < 32 → ((32 * b + c) / 32 ≡ b) × ((32 * b + c) % 32 ≡ c)
expression-number b c l = (omega arith, omega arith)

entry_evaluation : (S : Scope) (i : ℕ) (p r : PartReq) → IsNeed (frame S) (more i p r) → variable 3 < i → Evaluation (more i p r)
unfolding Evaluation slot
entry_evaluation S i p r f l =
    let y = tidy_seen p (member (frame S) i) f.tidy.1.0 f.tidy.0 in
    let x = frame-in S i y.0 y.1 l in
    let w = evaluation_in S x.0 p y.0 x.2 y.2 in
    let n = expression-number x.0 w.0 w.2 in
    (32 * x.0 + w.0, w.1, rw (n.0, n.1, ← x.1) (cov-here i i p r _ (omega arith) (omega arith) ∙ w.3))

later_evaluation : (i : ℕ) (p r : PartReq) → i ≤ variable 3 → Evaluation r → Evaluation (more i p r)
unfolding Evaluation slot
later_evaluation i p r l z = (z.0, z.1, cov-after i (variable (4 + z.0 / 32)) p r _ (omega arith) ∙ z.2)

some_evaluation : (S : Scope) (n : PartReq) → IsNeed (frame S) n → needs_expression n ≡ true → Evaluation n
unfolding needs_expression
some_evaluation S all f h = unfold Evaluation in (0, [], cov-all (slot (evaluated 0) ++ []))
some_evaluation S exist f h = never h
some_evaluation S none f h = never h
some_evaluation S (more i p r) f h =
    cases (ltb (variable 3) i)
    (λ e. entry_evaluation S i p r f (ltb-true (variable 3) i e))
    (λ e. later_evaluation i p r (ltb-false (variable 3) i e) (some_evaluation S r (later_need (frame S) i p r f) (rw e at h)))

pub no_evaluation : (S : Scope) (n : PartReq) → IsNeed (frame S) n → ((e : ExpressionHandle) (q : List ℕ) → cov n (slot (evaluated e) ++ q) ≡ false) → needs_expression n ≡ false
unfolding Evaluation
no_evaluation S n f h =
    cases (needs_expression n) (λ e. let z = some_evaluation S n f e in never (sym (h z.0 z.1) ∙ z.2)) (λ e. e)
