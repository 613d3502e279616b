-- The cells that requirements reach, each once (`cells_of`): no more than their entries in sum, nor than 16 counts for them. What reaches a cell reaches its child and its rest, so that a store whose cells are just those that are reached has as many.
use Prim.Native.Nat.{ℕ, zero, suc, ◌+◌, ◌<◌, ◌≤◌}
use native.Mathlib.Omega.{arith}
use native.Mathlib.Decide.{dec_lt, ℕ_discrete}
use mathlib.Core.Path.{◌≡◌, refl}
use mathlib.Core.Bool.{true, false, cond, ◌||◌}
use mathlib.Core.List.{List, [], ◌∷◌, ◌++◌, append_assoc, flat_map}
use lib.ListN.{length, get_or}
use Rattle.part.specs.PartReq.{PartReq, all, exist, none, more, entries, width}
use Rattle.part.specs.Store.{top, child, rest, part, Good}
use Rattle.part.specs.Count.{same, before, inside, parts, among, each_once, different, once, Held, nothing, ◌and◌, of_map, pieces}
use Rattle.part.specs.Summed.{sub}
use Rattle.part.specs.Collect.{cells_in, reached, cells_of, meant, Collected}
use Rattle.part.proofs.Pieces.{part-0, part-1, part-2}
use Rattle.part.proofs.Once.{formed, cell_means}
use Rattle.part.proofs.Counting.{same_refl, same_is, by_bool, lot, Stands, Stored, stored_append, once_lot}
use Rattle.part.proofs.Distinct.{or_left, or_right_true, or_cases, untrue, not_true_false, among-left, among-right, among_cases, Among, once_monotone, once_cons, once_append}

at_head : (q p : PartReq) (l : List PartReq) → q ≡ p → among q (p ∷ l) ≡ true
unfolding among
at_head q p l e = or_left (same q p) _ (rw e (same_refl p))

further : (q p : PartReq) (l : List PartReq) → among q l ≡ true → among q (p ∷ l) ≡ true
unfolding among
further q p l e = or_right_true (same q p) _ e

-- what a cell has: itself, and the cells of its child and of its rest
pub here : {i : ℕ} {p q r : PartReq} → q ≡ more i p r → among q (cells_in q) ≡ true
unfolding cells_in
here {i} {p} {q} {r} e = rw e (at_head (more i p r) (more i p r) _ refl)

in_child : (q p r : PartReq) (i : ℕ) → among q (cells_in p) ≡ true → among q (cells_in (more i p r)) ≡ true
unfolding cells_in
in_child q p r i e = further q (more i p r) _ (among-left q (cells_in p) (cells_in r) e)

in_rest : (q p r : PartReq) (i : ℕ) → among q (cells_in r) ≡ true → among q (cells_in (more i p r)) ≡ true
unfolding cells_in
in_rest q p r i e = further q (more i p r) _ (among-right q (cells_in p) (cells_in r) e)

cell_cases : (C : Type 0) (q p r : PartReq) (i : ℕ) → among q (cells_in (more i p r)) ≡ true
    → (q ≡ more i p r → C) → (among q (cells_in p) ≡ true → C) → (among q (cells_in r) ≡ true → C) → C
unfolding cells_in among
cell_cases C q p r i e f g h =
    or_cases C (same q (more i p r)) (among q (cells_in p ++ cells_in r)) e
    (λ z. f (same_is q (more i p r) z))
    (λ z. among_cases C q (cells_in p) (cells_in r) z g h)

-- the cells of a cell of p are cells of p
cells_among : (q p : PartReq) → among q (cells_in p) ≡ true → Among (cells_in q) (cells_in p)
cells_among q all e o z = untrue (unfold cells_in among in e)
cells_among q exist e o z = untrue (unfold cells_in among in e)
cells_among q none e o z = untrue (unfold cells_in among in e)
cells_among q (more i p r) e o z =
    cell_cases (among o (cells_in (more i p r)) ≡ true) q p r i e
    (λ y. rw y at z)
    (λ y. in_child o p r i (cells_among q p y o z))
    (λ y. in_rest o p r i (cells_among q r y o z))

reached-among : (q : PartReq) (l : List PartReq) → among q (reached l) ≡ true → Among (cells_in q) (reached l)
unfolding flat_map
reached-among q [] e o z = untrue (unfold among in e)
reached-among q (p ∷ l) e o z =
    among_cases (among o (cells_in p ++ reached l) ≡ true) q (cells_in p) (reached l) e
    (λ y. among-left o (cells_in p) (reached l) (cells_among q p y o z))
    (λ y. among-right o (cells_in p) (reached l) (reached-among q l y o z))

-- what reaches a cell reaches its child and its rest
module _ {q p r : PartReq} {i : ℕ} (e : q ≡ more i p r) (l : List PartReq) (h : among q (reached l) ≡ true) where
  pub reached-child : {j : ℕ} {a b : PartReq} → p ≡ more j a b → among p (reached l) ≡ true
  reached-child d = reached-among q l h p (rw e (in_child p p r i (here d)))

  pub reached-rest : {j : ℕ} {a b : PartReq} → r ≡ more j a b → among r (reached l) ≡ true
  reached-rest d = reached-among q l h r (rw e (in_rest r p r i (here d)))

-- a root that is a cell is reached
pub root_reached : (s rs : List ℕ) (j : ℕ) → j < length rs → {i : ℕ} {p r : PartReq} → part s (get_or rs j 0) ≡ more i p r → among (part s (get_or rs j 0)) (reached (meant s rs)) ≡ true
unfolding flat_map
root_reached s [] j h e = absurd (omega arith)
root_reached s (x ∷ rs) zero h e = among-left (part s x) (cells_in (part s x)) (reached (meant s rs)) (here e)
root_reached s (x ∷ rs) (suc j) h e = among-right _ (cells_in (part s x)) (reached (meant s rs)) (root_reached s rs j (omega arith) e)

-- more requirements reach more cells
from_one : (f : PartReq → List PartReq) (p : PartReq) (l : List PartReq) → among p l ≡ true → Among (f p) (flat_map f l)
unfolding flat_map
from_one f p [] e q z = untrue (unfold among in e)
from_one f p (o ∷ l) e q z =
    or_cases (among q (f o ++ flat_map f l) ≡ true) (same p o) (among p l) (unfold among in e)
    (λ y. among-left q (f o) (flat_map f l) (rw (same_is p o y) at z))
    (λ y. among-right q (f o) (flat_map f l) (from_one f p l y q z))

from_append : (f : PartReq → List PartReq) (l m : List PartReq) → flat_map f (l ++ m) ≡ flat_map f l ++ flat_map f m
unfolding flat_map
from_append f [] m = refl
from_append f (p ∷ l) m = rw (from_append f l m, append_assoc)

-- what stands in a requirement has no other cells
pub sub_cells : (p q : PartReq) → sub p q ≡ true → Among (cells_in p) (cells_in q)
unfolding sub
sub_cells p all e o z = rw (same_is p all e) at z
sub_cells p exist e o z = rw (same_is p exist e) at z
sub_cells p none e o z = rw (same_is p none e) at z
sub_cells p (more i a b) e o z =
    or_cases (among o (cells_in (more i a b)) ≡ true) (same p (more i a b)) (sub p a || sub p b) e
    (λ y. rw (same_is p (more i a b) y) at z)
    (λ y.
    or_cases (among o (cells_in (more i a b)) ≡ true) (sub p a) (sub p b) y
    (λ x. in_child o a b i (sub_cells p a x o z))
    (λ x. in_rest o a b i (sub_cells p b x o z)))

-- no more than the entries at every depth
cells_entries : (p : PartReq) → different (cells_in p) ≤ entries p
unfolding cells_in entries
cells_entries all = unfold each_once in omega arith
cells_entries exist = unfold each_once in omega arith
cells_entries none = unfold each_once in omega arith
cells_entries (more i p r) =
    let a = once_cons (λ p. 1) (more i p r) (cells_in p ++ cells_in r) in
    let b = once_append (λ p. 1) (cells_in p) (cells_in r) in
    let c = cells_entries p in
    let d = cells_entries r in
    omega arith

pub cells_cons : (p : PartReq) (l : List PartReq) → cells_of (p ∷ l) ≤ entries p + cells_of l
unfolding flat_map
cells_cons p l = let a = once_append (λ p. 1) (cells_in p) (reached l) in let b = cells_entries p in omega arith

-- the weights w of the first k of a list, in sum
unfoldable pub sum_of : (ℕ → ℕ) → List ℕ → ℕ → ℕ
sum_of w rs zero = 0
sum_of w rs (suc k) = sum_of w rs k + w (get_or rs k 0)

-- the entries of all the roots, in sum: each root by itself, what is shared counted again
abbrev pub total : List ℕ → List ℕ → ℕ
total s rs = sum_of (λ r. entries (part s r)) rs (length rs)

sum_first : (w : ℕ → ℕ) (r : ℕ) (rs : List ℕ) (k : ℕ) → sum_of w (r ∷ rs) (suc k) ≡ w r + sum_of w rs k
unfolding sum_of
sum_first w r rs zero = omega arith
sum_first w r rs (suc k) = let ih = sum_first w r rs k in omega arith

pub cells_total : (s rs : List ℕ) → cells_of (meant s rs) ≤ total s rs
cells_total s [] = unfold flat_map each_once in omega arith
cells_total s (r ∷ rs) =
    let a = cells_cons (part s r) (meant s rs) in
    let b = cells_total s rs in
    let c = sum_first (λ r. entries (part s r)) r rs (length rs) in
    omega arith

-- no more cells are in use after a collection than the roots have entries
pub collected_total : {s rs t us : List ℕ} → Collected s rs t us → top t ≤ 3 + total s rs
collected_total {s} {rs} d = let a = cells_total s rs in omega (arith, d.used)

-- a requirement and what follows each of its entries; of all the requirements of a list
tails_of : PartReq → List PartReq
tails_of all = []
tails_of exist = []
tails_of none = []
tails_of (more i p r) = more i p r ∷ tails_of r

abbrev tails_in : List PartReq → List PartReq
tails_in l = flat_map tails_of l

tails_before : (p : PartReq) (l : List PartReq) → tails_in (before p l) ≡ tails_of p ++ tails_in l
unfolding flat_map tails_of
tails_before all l = refl
tails_before exist l = refl
tails_before none l = refl
tails_before (more i p r) l = refl

tails_width : (p : PartReq) → different (tails_of p) ≤ width p
unfolding tails_of width
tails_width all = unfold each_once in omega arith
tails_width exist = unfold each_once in omega arith
tails_width none = unfold each_once in omega arith
tails_width (more i p r) = let a = once_cons (λ p. 1) (more i p r) (tails_of r) in let b = tails_width r in omega arith

-- the tails of parts are no more than the entries of each part once
tails_once : (l : List PartReq) → different (tails_in l) ≤ once l
unfolding flat_map each_once
tails_once [] = omega arith
tails_once (p ∷ l) =
    let ih = tails_once l in
    by_bool (λ b. different (tails_of p ++ tails_in l) ≤ cond b (once l) (width p + once l)) (among p l)
    (λ e.
    let a = once_monotone (λ p. 1) (tails_of p ++ tails_in l) (tails_in l)
    (λ q z. among_cases (among q (tails_in l) ≡ true) q (tails_of p) (tails_in l) z (λ y. from_one tails_of p l e q y) (λ y. y)) in
    omega arith)
    (λ e. let a = once_append (λ p. 1) (tails_of p) (tails_in l) in let b = tails_width p in omega arith)

-- a cell of a requirement is a tail of it, or of a part that it holds
cells_tails : (p : PartReq) → Among (cells_in p) (tails_of p ++ tails_in (inside p))
unfolding tails_of inside
cells_tails all q z = untrue (unfold cells_in among in z)
cells_tails exist q z = untrue (unfold cells_in among in z)
cells_tails none q z = untrue (unfold cells_in among in z)
cells_tails (more i p r) q z =
    rw (from_append tails_of (before p (inside p)) (inside r), tails_before p (inside p))
    (cell_cases (among q ((more i p r ∷ tails_of r) ++ ((tails_of p ++ tails_in (inside p)) ++ tails_in (inside r))) ≡ true) q p r i z
    (λ y. at_head q (more i p r) _ y)
    (λ y. among-right q (more i p r ∷ tails_of r) _ (among-left q (tails_of p ++ tails_in (inside p)) (tails_in (inside r)) (cells_tails p q y)))
    (λ y.
    among_cases (among q ((more i p r ∷ tails_of r) ++ ((tails_of p ++ tails_in (inside p)) ++ tails_in (inside r))) ≡ true) q (tails_of r) (tails_in (inside r)) (cells_tails r q y)
    (λ x. among-left q (more i p r ∷ tails_of r) _ (further q (more i p r) (tails_of r) x))
    (λ x. among-right q (more i p r ∷ tails_of r) _ (among-right q (tails_of p ++ tails_in (inside p)) _ x))))

-- the cells of a part are no more than 16 counts for it
pub cells_parts : (p : PartReq) → different (cells_in p) ≤ once (parts p)
cells_parts p =
    let a = once_monotone (λ p. 1) (cells_in p) (tails_in (parts p)) (λ q z. rw (tails_before p (inside p)) (cells_tails p q z)) in
    let b = tails_once (parts p) in
    omega arith

-- what is held where the requirements of a list are the maps of contexts and totals
unfoldable pub held_in : List PartReq → Held
held_in [] = nothing
held_in (p ∷ l) = of_map p and held_in l

held-tails : (l : List PartReq) → Among (reached l) (tails_in l ++ tails_in (held_in l).held)
unfolding flat_map held_in
held-tails [] q z = untrue (unfold among in z)
held-tails (p ∷ l) q z =
    rw (from_append tails_of (inside p) (held_in l).held)
    (among_cases (among q ((tails_of p ++ tails_in l) ++ (tails_in (inside p) ++ tails_in (held_in l).held)) ≡ true) q (cells_in p) (reached l) z
    (λ y. both q (tails_of p) (tails_in l) (tails_in (inside p)) (tails_in (held_in l).held) (cells_tails p q y))
    (λ y.
    among_cases (among q ((tails_of p ++ tails_in l) ++ (tails_in (inside p) ++ tails_in (held_in l).held)) ≡ true) q (tails_in l) (tails_in (held_in l).held) (held-tails l q y)
    (λ x. among-left q (tails_of p ++ tails_in l) _ (among-right q (tails_of p) (tails_in l) x))
    (λ x. among-right q (tails_of p ++ tails_in l) _ (among-right q (tails_in (inside p)) _ x))))
  where
    both : (q : PartReq) (a b c d : List PartReq) → among q (a ++ c) ≡ true → among q ((a ++ b) ++ (c ++ d)) ≡ true
    both q a b c d z =
        among_cases (among q ((a ++ b) ++ (c ++ d)) ≡ true) q a c z
        (λ y. among-left q (a ++ b) (c ++ d) (among-left q a b y))
        (λ y. among-right q (a ++ b) (c ++ d) (among-left q c d y))

held_widths : (l : List PartReq) → different (tails_in l) ≤ (held_in l).own
unfolding flat_map held_in
held_widths [] = unfold each_once in omega arith
held_widths (p ∷ l) =
    let a = once_append (λ p. 1) (tails_of p) (tails_in l) in
    let b = tails_width p in
    let c = held_widths l in
    omega arith

-- the cells that maps reach are no more than 16 counts for them
pub cells_pieces : (l : List PartReq) → cells_of l ≤ pieces (held_in l)
unfolding pieces
cells_pieces l =
    let a = once_monotone (λ p. 1) (reached l) (tails_in l ++ tails_in (held_in l).held) (held-tails l) in
    let b = once_append (λ p. 1) (tails_in l) (tails_in (held_in l).held) in
    let c = held_widths l in
    let d = tails_once (held_in l).held in
    omega arith

-- what is reached is a cell
self_cell : (q p : PartReq) → among q (cells_in p) ≡ true → among q (cells_in q) ≡ true
self_cell q all e = untrue (unfold cells_in among in e)
self_cell q exist e = untrue (unfold cells_in among in e)
self_cell q none e = untrue (unfold cells_in among in e)
self_cell q (more i p r) e = cell_cases (among q (cells_in q) ≡ true) q p r i e (λ y. here y) (λ y. self_cell q p y) (λ y. self_cell q r y)

self_reached : (q : PartReq) (l : List PartReq) → among q (reached l) ≡ true → among q (cells_in q) ≡ true
unfolding flat_map
self_reached q [] e = untrue (unfold among in e)
self_reached q (p ∷ l) e = among_cases (among q (cells_in q) ≡ true) q (cells_in p) (reached l) e (λ y. self_cell q p y) (λ y. self_reached q l y)

low_cells : (s : List ℕ) (n : ℕ) → n < 3 → cells_in (part s n) ≡ []
unfolding cells_in
low_cells s zero h = rw part-0
low_cells s (suc zero) h = rw part-1
low_cells s (suc (suc zero)) h = rw part-2
low_cells s (suc (suc (suc n))) h = absurd (omega arith)

cell_stored : (s : List ℕ) {q p r : PartReq} {i : ℕ} → q ≡ more i p r → Stands s q → Stored s (cells_in p) → Stored s (cells_in r) → Stored s (cells_in q)
unfolding cells_in
cell_stored s {q} {p} {r} e a c d = rw e (rw e at a, stored_append s (cells_in p) (cells_in r) c d)

-- in a store
module _ {s : List ℕ} (g : Good s) where
  -- every cell of a piece stands there
  cells_stored : (k n : ℕ) → n < k → n < top s → Stored s (cells_in (part s n))
  cells_stored zero n h l = absurd (omega arith)
  cells_stored (suc k) n h l =
      elim (dec_lt 2 n) [
        | no z ↦ rw (low_cells s n (omega arith)) tt
        | yes z ↦
            let a = g.sound n z l in
            let c = cells_stored k (child s n) (omega (arith, a.child_low)) (omega (arith, a.child_low)) in
            let r = cells_stored k (rest s n) (omega (arith, a.rest_low)) (omega (arith, a.rest_low)) in
            cell_stored s (cell_means (formed g) n z l) (record { number = n; low = l; is = refl }) c r
      ]

  pub reached-stored : (l : List PartReq) → ((j : ℕ) → j < length l → Stands s (get_or l j none)) → Stored s (reached l)
  unfolding flat_map
  reached-stored [] h = tt
  reached-stored (p ∷ l) h =
      let a = h 0 (omega arith) in
      stored_append s (cells_in p) (reached l)
      (rw a.is at (cells_stored (suc a.number) a.number (omega arith) a.low))
      (reached-stored l (λ j z. h (suc j) (omega arith)))

  module _ (l : List PartReq) (h : (k : ℕ) → 2 < k → k < top s → among (part s k) (reached l) ≡ true) where
    low_not : (k : ℕ) → k < 3 → among (part s k) (reached l) ≡ false
    unfolding among
    low_not k z = not_true_false (among (part s k) (reached l)) (λ e. untrue (rw (low_cells s k z) at (self_reached (part s k) l e)))

    count_up : (k : ℕ) → k ≤ top s → 3 ≤ k → k ≡ 3 + lot (λ p. 1) s (reached l) k
    unfolding lot
    count_up zero z y = absurd (omega arith)
    count_up (suc k) z y =
        elim (ℕ_discrete k 2) [
          | yes e ↦ rw (e, low_not 0 (omega arith), low_not 1 (omega arith), low_not 2 (omega arith)) refl
          | no ne ↦ let ih = count_up k (omega arith) (omega arith) in rw (h k (omega arith) (omega arith)) (omega arith)
        ]

    -- where the cells in use are just those that l reaches, they are as many
    pub in_use : Stored s (reached l) → top s ≡ 3 + cells_of l
    in_use a = let b = count_up (top s) (omega arith) g.base in let c = once_lot g (λ p. 1) (reached l) a in omega arith
