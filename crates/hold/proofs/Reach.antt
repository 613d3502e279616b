-- Lists of needs that reach the same cells (`Reach`): the cells of each need of the one are reached by the other, need by need (`each_in`).
use Prim.Native.Nat.{ℕ, zero, suc}
use mathlib.Core.Path.{◌≡◌}
use mathlib.Core.Bool.{true, cond}
use mathlib.Core.List.{List, [], ◌∷◌, ◌++◌, flat_map}
use lib.Dec.{ltb}
use lib.ListN.{get_or}
use Rattle.part.specs.PartReq.{PartReq, all, exist, none, more, gone, there, get_subpart}
use Rattle.part.specs.Count.{same, among}
use Rattle.part.specs.Collect.{cells_in, reached, cells_of}
use Rattle.part.specs.Summed.{sub}
use Rattle.part.proofs.Counting.{same_is, by_bool}
use Rattle.part.proofs.Distinct.{or_right_true, or_cases, untrue, among-left, among-right, among_cases, Among, once_set}
use Rattle.part.proofs.Reached.{sub_cells}
use Rattle.part.proofs.Summing.{sub_self}
use Rattle.clearance.specs.Shape.{or_none, below}
use Rattle.hold.specs.Hold.{Reach}

-- the cells of a need of a list
pub one_in : (p : PartReq) (l : List PartReq) → among p l ≡ true → Among (cells_in p) (reached l)
unfolding flat_map
one_in p [] e q z = untrue (unfold among in e)
one_in p (o ∷ l) e q z =
    or_cases (among q (cells_in o ++ reached l) ≡ true) (same p o) (among p l) (unfold among in e)
    (λ y. among-left q (cells_in o) (reached l) (rw (same_is p o y) at z))
    (λ y. among-right q (cells_in o) (reached l) (one_in p l y q z))

pub none_in : (l : List PartReq) → Among (cells_in none) l
none_in l q z = untrue (unfold cells_in among in z)

pub at_in : (l : List PartReq) (j : ℕ) → Among (cells_in (get_or l j none)) (reached l)
unfolding flat_map
at_in [] j q z = untrue (unfold cells_in among in z)
at_in (p ∷ l) zero q z = among-left q (cells_in p) (reached l) z
at_in (p ∷ l) (suc j) q z = among-right q (cells_in p) (reached l) (at_in l j q z)

pub each_in : (l m : List PartReq) → ((j : ℕ) → Among (cells_in (get_or l j none)) (reached m)) → Among (reached l) (reached m)
unfolding flat_map
each_in [] m h q z = untrue (unfold among in z)
each_in (p ∷ l) m h q z =
    among_cases (among q (reached m) ≡ true) q (cells_in p) (reached l) z (λ y. h 0 q y) (λ y. each_in l m (λ j. h (suc j)) q y)

-- two lists together
pub left_in : (l m : List PartReq) → Among (reached l) (reached (l ++ m))
unfolding flat_map
left_in [] m q z = untrue (unfold among in z)
left_in (p ∷ l) m q z =
    among_cases (among q (cells_in p ++ reached (l ++ m)) ≡ true) q (cells_in p) (reached l) z
    (λ y. among-left q (cells_in p) (reached (l ++ m)) y)
    (λ y. among-right q (cells_in p) (reached (l ++ m)) (left_in l m q y))

pub right_in : (l m : List PartReq) → Among (reached m) (reached (l ++ m))
unfolding flat_map
right_in [] m q z = z
right_in (p ∷ l) m q z = among-right q (cells_in p) (reached (l ++ m)) (right_in l m q z)

pub both_in : (l m k : List PartReq) → Among (reached l) (reached k) → Among (reached m) (reached k) → Among (reached (l ++ m)) (reached k)
unfolding flat_map
both_in [] m k f g q z = g q z
both_in (p ∷ l) m k f g q z =
    among_cases (among q (reached k) ≡ true) q (cells_in p) (reached (l ++ m)) z
    (λ y. f q (among-left q (cells_in p) (reached l) y))
    (λ y. both_in l m k (λ o x. f o (among-right o (cells_in p) (reached l) x)) g q y)

pub cons_in : (p : PartReq) (m k : List PartReq) → Among (cells_in p) (reached k) → Among (reached m) (reached k) → Among (reached (p ∷ m)) (reached k)
unfolding flat_map
cons_in p m k f g q z = among_cases (among q (reached k) ≡ true) q (cells_in p) (reached m) z (f q) (g q)

pub tail_in : (p : PartReq) (l : List PartReq) → Among (reached l) (reached (p ∷ l))
unfolding flat_map
tail_in p l q z = among-right q (cells_in p) (reached l) z

pub reach_refl : (l : List PartReq) → Reach l l
reach_refl l = record { into = λ q z. z; back = λ q z. z }

pub reach_is : {l m : List PartReq} → l ≡ m → Reach l m
reach_is {l} e = rw (← e) (reach_refl l)

pub reach_sym : {l m : List PartReq} → Reach l m → Reach m l
reach_sym a = record { into = a.back; back = a.into }

pub reach_trans : {l m k : List PartReq} → Reach l m → Reach m k → Reach l k
reach_trans a b = record { into = λ q z. b.into q (a.into q z); back = λ q z. a.back q (b.back q z) }

-- as many cells
pub reach_cells : {l m : List PartReq} → Reach l m → cells_of l ≡ cells_of m
reach_cells {l} {m} a = once_set (λ p. 1) (reached l) (reached m) a.into a.back

-- in longer lists
pub reach_append : {a b l m : List PartReq} → Reach a b → Reach l m → Reach (a ++ l) (b ++ m)
reach_append {a} {b} {l} {m} x y = record {
  into = both_in a l (b ++ m) (λ q z. left_in b m q (x.into q z)) (λ q z. right_in b m q (y.into q z));
  back = both_in b m (a ++ l) (λ q z. left_in a l q (x.back q z)) (λ q z. right_in a l q (y.back q z));
}

pub reach_left : (k : List PartReq) {l m : List PartReq} → Reach l m → Reach (k ++ l) (k ++ m)
reach_left k a = reach_append (reach_refl k) a

pub reach_right : {l m : List PartReq} → Reach l m → (k : List PartReq) → Reach (l ++ k) (m ++ k)
reach_right a k = reach_append a (reach_refl k)

pub reach_cons : (p : PartReq) {l m : List PartReq} → Reach l m → Reach (p ∷ l) (p ∷ m)
reach_cons p a = reach_left (p ∷ []) a

-- in another order
pub reach_swap : (l m : List PartReq) → Reach (l ++ m) (m ++ l)
reach_swap l m = record { into = both_in l m (m ++ l) (right_in m l) (left_in m l); back = both_in m l (l ++ m) (right_in l m) (left_in l m) }

pub reach_exchange : (p q : PartReq) (l : List PartReq) → Reach (p ∷ q ∷ l) (q ∷ p ∷ l)
reach_exchange p q l = reach_right (reach_swap (p ∷ []) (q ∷ [])) l

-- a need whose cells are reached already adds nothing
pub reach_again : (p : PartReq) (l : List PartReq) → Among (cells_in p) (reached l) → Reach (p ∷ l) l
reach_again p l h = record { into = cons_in p l l h (λ q z. z); back = tail_in p l }

pub reach_sub : (p q : PartReq) (l : List PartReq) → sub p q ≡ true → among q l ≡ true → Reach (p ∷ l) l
reach_sub p q l h e = reach_again p l (λ o z. one_in q l e o (sub_cells p q h o z))

pub reach_among : (p : PartReq) (l : List PartReq) → among p l ≡ true → Reach (p ∷ l) l
reach_among p l e = reach_sub p p l (sub_self p) e

-- a part at a path adds nothing to its need
cell_in : (i : ℕ) (p r : PartReq) → Among (cells_in p ++ cells_in r) (cells_in (more i p r))
unfolding cells_in among
cell_in i p r q z = or_right_true (same q (more i p r)) _ z

sub_in : (p : PartReq) (j : ℕ) → Among (cells_in (or_none (get_subpart p j))) (cells_in p)
unfolding get_subpart
sub_in all j q z = z
sub_in exist j q z = none_in (cells_in exist) q z
sub_in none j q z = z
sub_in (more i p r) j q z =
    by_bool (λ b. among q (cells_in (or_none (cond b (get_subpart r j) (cond (ltb j i) gone (there p))))) ≡ true → among q (cells_in (more i p r)) ≡ true) (ltb i j)
    (λ e y. cell_in i p r q (among-right q (cells_in p) (cells_in r) (sub_in r j q y)))
    (λ e y.
    by_bool (λ b. among q (cells_in (or_none (cond b gone (there p)))) ≡ true → among q (cells_in (more i p r)) ≡ true) (ltb j i)
    (λ d x. none_in (cells_in (more i p r)) q x)
    (λ d x. cell_in i p r q (among-left q (cells_in p) (cells_in r) x))
    y)
    z

below_in : (p : PartReq) (path : List ℕ) → Among (cells_in (below p path)) (cells_in p)
unfolding below
below_in p [] q z = z
below_in p (j ∷ path) q z = sub_in p j q (below_in (or_none (get_subpart p j)) path q z)

pub reach_below : (p : PartReq) (path : List ℕ) (l : List PartReq) → among p l ≡ true → Reach (below p path ∷ l) l
reach_below p path l e = reach_again (below p path) l (λ q z. one_in p l e q (below_in p path q z))

-- lists that agree at each index, the shorter one filled with none
pub reach_get_d : (l m : List PartReq) → ((j : ℕ) → get_or l j none ≡ get_or m j none) → Reach l m
reach_get_d l m h = record { into = each_in l m (λ j. rw (h j) (at_in m j)); back = each_in m l (λ j. rw (← h j) (at_in l j)) }
