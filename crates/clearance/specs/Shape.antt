-- Parts by type. A type is unfolded to its shape; a part of a value is a path, a list of indexes; a requirement covers the paths
-- that it has all at or above.
use Rattle.std.specs.Prelude.{ℕ, zero, suc, ◌+◌, ◌*◌, Bool, true, false, cond, not, ◌&&◌, List, [], ◌∷◌, ltb, eqb}
use Rattle.part.specs.PartReq.{PartReq, all, exist, none, more, Subpart, gone, there, get_subpart, is_all}
pub use Rattle.part.specs.Subparts.{or_none}

-- A number; nothing (what lies outside a type); members, components or columns with the indexes from `first` on; elements.
pub data Shape : Type 0 where
  number : Shape
  void : Shape
  struct : (first count : ℕ) → (ℕ → Shape) → Shape
  array : (count : ℕ) → Shape → Shape

-- the shape of the part j
unfoldable pub member : Shape → ℕ → Shape
member number j = void
member void j = void
member (struct b n f) j = cond (ltb j b) void (cond (ltb j (b + n)) (f j) void)
member (array n t) j = cond (ltb j n) t void

abbrev pub is_number : Shape → Bool
is_number number = true
is_number void = false
is_number (struct b n f) = false
is_number (array n t) = false

abbrev pub is_void : Shape → Bool
is_void number = false
is_void void = true
is_void (struct b n f) = false
is_void (array n t) = false

-- An array is taken out whole or not at all.
abbrev pub is_whole : Shape → Bool
is_whole number = false
is_whole void = false
is_whole (struct b n f) = false
is_whole (array n t) = true

-- how many parts a value has, one level down
unfoldable pub extent : Shape → ℕ
extent number = 0
extent void = 0
extent (struct b n f) = n
extent (array n t) = n

-- the shape at a path
unfoldable pub shape_at : Shape → List ℕ → Shape
shape_at t [] = t
shape_at t (j ∷ q) = shape_at (member t j) q

-- whether a path ends at a number
unfoldable pub leaf : Shape → List ℕ → Bool
leaf t [] = is_number t
leaf t (j ∷ q) = leaf (member t j) q

-- whether a path lies in the type
unfoldable pub inside : Shape → List ℕ → Bool
inside t [] = not (is_void t)
inside t (j ∷ q) = inside (member t j) q

abbrev pub with_part : Subpart → (PartReq → Bool) → Bool
with_part gone f = false
with_part (there p) f = f p

-- whether a requirement has all at or above a path
unfoldable pub cov : PartReq → List ℕ → Bool
cov p [] = is_all p
cov p (j ∷ q) = with_part (get_subpart p j) (λ c. cov c q)

-- what a requirement asks of the part at a path
unfoldable pub below : PartReq → List ℕ → PartReq
below p [] = p
below p (j ∷ q) = below (or_none (get_subpart p j)) q

-- a requirement, asked of the part at a path
unfoldable pub under : List ℕ → PartReq → PartReq
under [] p = p
under (j ∷ q) p = more j (under q p) none

-- whether anything is needed
abbrev pub some : PartReq → Bool
some all = true
some exist = false
some none = false
some (more i p r) = true

unfoldable pub keep : ℕ → PartReq → PartReq → PartReq
keep i all r = more i all r
keep i exist r = r
keep i none r = r
keep i (more j p s) r = more i (more j p s) r

-- What is left of a need in its type: never exist; an emptied need, or one outside its type, is dropped.
unfoldable pub trim : PartReq → Shape → PartReq
trim all t = cond (is_void t) none all
trim exist t = none
trim none t = none
trim (more i p r) t = keep i (trim p (member t i)) (trim r t)

-- what a need asks of the part at a path, within its type
unfoldable pub hit : Shape → PartReq → List ℕ → PartReq
hit t n p = trim (below n p) (shape_at t p)

-- all of each of n parts, from the index k on
unfoldable pub members : ℕ → ℕ → PartReq
members k zero = none
members k (suc n) = more k all (members (suc k) n)

-- all of a struct, vector or matrix as all of each of its members, components or columns
unfoldable pub split : Shape → PartReq → PartReq
split number p = p
split void p = p
split (struct b n f) all = members b n
split (struct b n f) exist = exist
split (struct b n f) none = none
split (struct b n f) (more i p r) = more i p r
split (array n t) p = p

-- the entry i as f leaves it
unfoldable pub alter : ℕ → (PartReq → PartReq) → PartReq → PartReq
alter i f all = all
alter i f exist = exist
alter i f none = none
alter i f (more j p r) = cond (ltb j i) (more j p (alter i f r)) (cond (ltb i j) (more j p r) (more j (f p) r))

-- What is left of a need when the part at a path is taken out: split along the path, one level at a time; an array on the way
-- stops it.
unfoldable pub take_out : Shape → PartReq → List ℕ → PartReq
take_out t p [] = none
take_out t p (i ∷ q) = cond (is_whole t) p (alter i (λ c. take_out (member t i) c q) (split t p))

-- whether the second path lies at or below the first, and what it has after it
unfoldable pub begins : List ℕ → List ℕ → Bool
begins [] q = true
begins (i ∷ p) [] = false
begins (i ∷ p) (j ∷ q) = eqb i j && begins p q

unfoldable pub after : List ℕ → List ℕ → List ℕ
after [] q = q
after (i ∷ p) [] = []
after (i ∷ p) (j ∷ q) = after p q

unfoldable pub sum : ℕ → (ℕ → ℕ) → ℕ
sum zero f = 0
sum (suc n) f = f n + sum n f

-- how many parts a value has, at every depth
unfoldable pub size : Shape → ℕ
size number = 1
size void = 0
size (struct b n f) = 1 + sum n (λ j. size (f (b + j)))
size (array n t) = 1 + n * size t
