-- A store of pieces: a list of words, seven to a cell. A number MEANS a requirement: 0 is all, 1 exist, 2 none, and n from 3 on
-- the cell at 7n: its index, the number of its child, that of its rest, then its sizes in three words, and a mark that only `collect` reads.
-- The first word of the list is the next free number. A cell names only lower numbers.
use Rattle.std.specs.Prelude.{ℕ, zero, suc, ◌+◌, ◌-◌, ◌*◌, ◌/◌, ◌%◌, ◌<◌, ◌≤◌, min, ◌≡◌, Bool, true, false, cond, ◌||◌, ◌&&◌, List, ltb, eqb, length, get_or, Option, Some, None}
use Rattle.part.specs.PartReq.{PartReq, all, exist, none, more, add, entries, depth, width, over, spine}
use Rattle.field.specs.Limits.{max_depth, max_entries}
use Rattle.part.specs.StoreLimits.{cell_words, store_words, entries_cap, buckets, memo_slots, table_words}

-- the word k of the piece n
abbrev pub word : List ℕ → ℕ → ℕ → ℕ
word s n k = get_or s (cell_words * n + k) 0

-- the next free number
abbrev pub top : List ℕ → ℕ
top s = get_or s 0 0

abbrev pub index : List ℕ → ℕ → ℕ
index s n = word s n 0

abbrev pub child : List ℕ → ℕ → ℕ
child s n = word s n 1

abbrev pub rest : List ℕ → ℕ → ℕ
rest s n = word s n 2

-- what the number n means, where `f` says what each number below n means
unfoldable pub means : List ℕ → ℕ → (ℕ → PartReq) → PartReq
means s n f =
    cond (ltb 2 n) (more (index s n) (f (child s n)) (f (rest s n)))
    (cond (eqb n 0) all (cond (eqb n 1) exist none))

-- what each number below k means
unfoldable pub below : List ℕ → ℕ → ℕ → PartReq
below s zero = λ n. none
below s (suc k) = λ n. cond (eqb n k) (means s k (below s k)) (below s k n)

-- the requirement that the piece n of the store s means
unfoldable pub part : List ℕ → ℕ → PartReq
part s n = means s n (below s n)

abbrev pub flag : Bool → ℕ
flag true = 1
flag false = 0

-- e, d, w and o are the sizes of p: its entries at every depth, as far as they are counted, its depth, its width, and whether it passes a limit
pub record Measures (p : PartReq) (e d w : ℕ) (o : Bool) : Type 0 where
  pub entries_is : e ≡ min entries_cap (entries p)
  pub depth_is : d ≡ depth p
  pub width_is : w ≡ width p
  pub over_is : o ≡ over p

-- o says whether a requirement with such a first entry passes a limit, where c and r say it of its child and of its rest
pub record Passes (i d w : ℕ) (c r o : Bool) : Type 0 where
  pub is : o ≡ (c || (r || (ltb i spine && (ltb max_depth d || ltb max_entries w))))

-- the last sizes are those of the requirement whose first entry is i, the first for its child, the second for its rest
pub record SizesOf (i pe pd pw : ℕ) (po : Bool) (re rd rv : ℕ) (ro : Bool) (e d w : ℕ) (o : Bool) : Type 0 where
  pub is : (p r : PartReq) → Measures p pe pd pw po → Measures r re rd rv ro → Measures (more i p r) e d w o

-- the cell n names lower numbers, and has the sizes of what it means: of its word 5 half is the width, and the rest says whether it passes a limit
pub record Sound (s : List ℕ) (n : ℕ) : Type 0 where
  pub child_low : child s n < n
  pub rest_low : rest s n < n
  pub sizes : Measures (part s n) (word s n 3) (word s n 4) (word s n 5 / 2) (eqb (word s n 5 % 2) 1)

-- the cells are well formed
pub record Formed (s : List ℕ) : Type 0 where
  pub base : 3 ≤ top s
  pub room : cell_words * top s + table_words ≤ length s
  pub fits : length s ≤ store_words
  pub sound : (n : ℕ) → 2 < n → n < top s → Sound s n

-- the chain that the cell i, c, r is in
unfoldable pub hash : ℕ → ℕ → ℕ → ℕ
hash i c r = ((i * 334214459 + c * 479001599) / 65536 + r) % buckets

abbrev pub hash_at : List ℕ → ℕ → ℕ
hash_at s n = hash (index s n) (child s n) (rest s n)

-- where the first number of a chain stands
abbrev pub head_at : List ℕ → ℕ → ℕ
head_at s h = (length s - table_words) + h

-- the first number of the chain h: a cell, or a number below 3 where the chain is empty
abbrev pub head : List ℕ → ℕ → ℕ
head s h = get_or s (head_at s h) 0

-- the number after the cell n in its chain (the word that `collect` uses for its marks)
abbrev pub next : List ℕ → ℕ → ℕ
next s n = word s n 6

-- the chains have the cells below k: each chain, from the highest number down, those with its hash
pub record Linked (s : List ℕ) (k : ℕ) : Type 0 where
  pub head_low : (h : ℕ) → h < buckets → head s h < k
  pub head_hash : (h : ℕ) → h < buckets → 2 < head s h → hash_at s (head s h) ≡ h
  pub head_all : (n : ℕ) → 2 < n → n < k → n ≤ head s (hash_at s n)
  pub next_low : (n : ℕ) → 2 < n → n < k → next s n < n
  pub next_hash : (n : ℕ) → 2 < n → n < k → 2 < next s n → hash_at s (next s n) ≡ hash_at s n
  pub next_all : (m n : ℕ) → 2 < m → m < n → n < k → hash_at s m ≡ hash_at s n → m ≤ next s n

-- the cell n is i, c, r
pub record CellIs (s : List ℕ) (n i c r : ℕ) : Type 0 where
  pub index_is : index s n ≡ i
  pub child_is : child s n ≡ c
  pub rest_is : rest s n ≡ r

-- no two cells below k are the same
abbrev pub Distinct : List ℕ → ℕ → Type 0
Distinct s k = (m n : ℕ) → 2 < m → m < n → n < k → CellIs s m (index s n) (child s n) (rest s n) → ⊥

-- Each cell stands once, and the look-up finds it. (No record: so no search through what is known of a store goes into it.)
pub data Unique (s : List ℕ) : Type 0 where
  unique : Linked s (top s) → Distinct s (top s) → Unique s

pub linked_in : {s : List ℕ} → Unique s → Linked s (top s)
linked_in (unique l d) = l

pub distinct_in : {s : List ℕ} → Unique s → Distinct s (top s)
distinct_in (unique l d) = d

-- the word j of the remembered sum k
abbrev pub note : List ℕ → ℕ → ℕ → ℕ
note s k j = head s (buckets + (3 * k + j))

-- r is the sum of a and b
pub record Known (s : List ℕ) (a b r : ℕ) : Type 0 where
  pub left : a < top s
  pub right : b < top s
  pub piece : r < top s
  pub is : part s r ≡ add (part s a) (part s b)

-- every sum that is remembered is right
abbrev pub Right : List ℕ → Type 0
Right s = (k : ℕ) → k < memo_slots → 2 < note s k 0 → Known s (note s k 0) (note s k 1) (note s k 2)

-- no sum is remembered
abbrev pub Blank : List ℕ → Type 0
Blank s = (x : ℕ) → buckets ≤ x → x < table_words → head s x ≡ 0

-- the store is well formed, each cell stands once, and what is remembered is right
pub record Good (s : List ℕ) : Type 0 where
  pub base : 3 ≤ top s
  pub room : cell_words * top s + table_words ≤ length s
  pub fits : length s ≤ store_words
  pub sound : (n : ℕ) → 2 < n → n < top s → Sound s n
  pub unique : Unique s
  pub right : Right s

-- the answer is the cell i, c, r; or there is none
abbrev pub Finds : List ℕ → (i c r : ℕ) → Option ℕ → Type 0
Finds s i c r (Some n) = (2 < n) × ((n < top s) × CellIs s n i c r)
Finds s i c r None = (m : ℕ) → 2 < m → m < top s → CellIs s m i c r → ⊥

-- t is s with the cell n put before the others of its chain
pub record Chained (s t : List ℕ) (n : ℕ) : Type 0 where
  pub long : length t ≡ length s
  pub others : (x : ℕ) → (x ≡ cell_words * n + 6 → ⊥) → (x ≡ head_at s (hash_at s n) → ⊥) → get_or t x 0 ≡ get_or s x 0
  pub next_is : next t n ≡ head s (hash_at s n)
  pub head_is : head t (hash_at s n) ≡ n

-- t is s with its first k chains empty
pub record Emptied (s t : List ℕ) (k : ℕ) : Type 0 where
  pub long : length t ≡ length s
  pub before : (x : ℕ) → x < length s - table_words → get_or t x 0 ≡ get_or s x 0
  pub none : (h : ℕ) → h < k → head t h ≡ 0

-- every piece of s means in t what it meant
pub record Kept (s t : List ℕ) : Type 0 where
  pub good : Good t
  pub long : length t ≡ length s
  pub tops : top s ≤ top t
  pub same : (n : ℕ) → n < top s → part t n ≡ part s n

-- k cells more fit
abbrev pub Room : List ℕ → ℕ → Type 0
Room s k = cell_words * (top s + k) + table_words ≤ length s

-- from s, t was left: the piece r means p there, and at most k cells more are used
pub record Made (s t : List ℕ) (p : PartReq) (k r : ℕ) : Type 0 where
  pub kept : Kept s t
  pub piece : r < top t
  pub is : part t r ≡ p
  pub cost : top t ≤ top s + k

-- Made, and a cell that is new is the piece itself
pub record Fresh (s t : List ℕ) (p : PartReq) (r : ℕ) : Type 0 where
  pub made : Made s t p 1 r
  pub new : (k : ℕ) → top s ≤ k → k < top t → k ≡ r

-- the piece n is the cell i, c, r
pub record Seen (s : List ℕ) (n i c r : ℕ) : Type 0 where
  pub child_low : c < n
  pub rest_low : r < n
  pub weight : entries (part s n) ≡ 1 + (entries (part s c) + entries (part s r))
  pub is : part s n ≡ more i (part s c) (part s r)
  pub child_is : c ≡ child s n
  pub rest_is : r ≡ rest s n
  pub index_is : i ≡ index s n

-- the piece n means the cell i, c, r
pub record Holds (s : List ℕ) (n i c r : ℕ) : Type 0 where
  pub piece : n < top s
  pub is : part s n ≡ more i (part s c) (part s r)

-- each number of the list is that of a piece below n
abbrev pub Below : List ℕ → ℕ → Type 0
Below rs n = (j : ℕ) → j < length rs → get_or rs j 0 < n

-- t is s with its chains made anew
pub record Rebuilt (s t : List ℕ) : Type 0 where
  pub good : Good t
  pub long : length t ≡ length s
  pub tops : top t ≡ top s
  pub same : (n : ℕ) → n < top s → part t n ≡ part s n

-- t is s with another cell n, but for its mark
pub record Put (s t : List ℕ) (n i c r e d w : ℕ) : Type 0 where
  pub long : length t ≡ length s
  pub before : (x : ℕ) → x < cell_words * n → get_or t x 0 ≡ get_or s x 0
  pub after : (x : ℕ) → cell_words * n + 6 ≤ x → get_or t x 0 ≡ get_or s x 0
  pub index_is : index t n ≡ i
  pub child_is : child t n ≡ c
  pub rest_is : rest t n ≡ r
  pub entries_is : word t n 3 ≡ e
  pub depth_is : word t n 4 ≡ d
  pub packed_is : word t n 5 ≡ w

-- of a, which is no cell, and another piece b, r is the sum, whichever stands first
pub record Plain (a b r : ℕ) : Type 0 where
  pub left : (s : List ℕ) → part s r ≡ add (part s a) (part s b)
  pub right : (s : List ℕ) → part s r ≡ add (part s b) (part s a)
  pub piece : (n : ℕ) → 3 ≤ n → b < n → r < n
