-- Reading a part, step by step: one law for each way through the code, and what an answer of the code leaves known.
use Prim.Native.Nat.{ℕ, zero, suc, ◌+◌, ◌-◌, ◌≤◌, ◌<◌}
use native.Mathlib.Omega.{arith}
use native.Mathlib.Numerals.{add-one}
use native.Mathlib.Nat.{zero-add}
use mathlib.Core.Path.{◌≡◌, refl, ap, sym, ◌∙◌}
use mathlib.Core.Bool.{Bool, true, false}
use mathlib.Core.List.{List, ◌∷◌}
use lib.Dec.{ltb}
use lib.ListN.{length}
use borrow.Author.Tests.{lt-ltb, le-leb, lt-leb, ne_eqb, ltb-true, ltb-false}
use Rattle.field.specs.Limits.{absent, max_entries}
use Rattle.part.specs.PartReq.{PartReq, all, exist, none, more}
use Rattle.part.specs.Store.{part, Good, Kept, Made}
use Rattle.std.specs.Prelude.{Option as Maybe, Some, None}
use Rattle.std.specs.Borrow.{Bor}
use Rattle.request.specs.Fields.{fields, Read, malformed, got, ◌>>=◌}
use Rattle.request.specs.Part.{read_entries, read_level, by_code, read_part}
use Rattle.request.specs.Answers.{Tail, Field, PartPlaced, PartWasRead}
use Rattle.request.proofs.Bytes.{no_field, tail_then}

module _ (part' : List ℕ → Read PartReq) (base low n : ℕ) where
  pub entries_none : (fs : List ℕ) → n ≡ 0 → read_entries part' base low n fs ≡ got none fs
  unfolding read_entries
  entries_none fs e = rw e

-- a part's code, and a level's count
module _ (b : List ℕ) where
  pub part_end : (d : ℕ) → length b < 2 → read_part d (fields b) ≡ malformed
  unfolding read_part by_code
  part_end zero h = rw (no_field b h)
  part_end (suc d) h = rw (no_field b h)

  pub level_end : (part' : List ℕ → Read PartReq) → length b < 2 → read_level part' (fields b) ≡ malformed
  unfolding read_level
  level_end part' h = rw (no_field b h)

module _ {b c : List ℕ} {i : ℕ} (f : Field b i c) where
  coded : (d : ℕ) → read_part d (fields b) ≡ read_part d (i ∷ fields c)
  coded d = ap (read_part d) f.is

  pub part_all : (d : ℕ) → i ≡ 0 → read_part d (fields b) ≡ got all (fields c)
  unfolding read_part by_code
  part_all zero e = rw (coded zero, e)
  part_all (suc d) e = rw (coded (suc d), e)

  pub part_exist : (d : ℕ) → i ≡ 1 → read_part d (fields b) ≡ got exist (fields c)
  unfolding read_part by_code
  part_exist zero e = rw (coded zero, e)
  part_exist (suc d) e = rw (coded (suc d), e)

  pub part_unknown : (d : ℕ) → (i ≡ 0 → ⊥) → (i ≡ 1 → ⊥) → (i ≡ 2 → ⊥) → read_part d (fields b) ≡ malformed
  unfolding read_part by_code
  part_unknown zero x y z = rw (coded zero, ne_eqb _ 0 x, ne_eqb _ 1 y, ne_eqb _ 2 z)
  part_unknown (suc d) x y z = rw (coded (suc d), ne_eqb _ 0 x, ne_eqb _ 1 y, ne_eqb _ 2 z)

  pub part_deep : (d : ℕ) → d ≡ 0 → i ≡ 2 → read_part d (fields b) ≡ malformed
  unfolding read_part by_code
  part_deep d z e = rw z (rw (coded zero, e))

  pub part_level : (d k : ℕ) → d ≡ suc k → i ≡ 2 → read_part d (fields b) ≡ read_level (read_part k) (fields c)
  unfolding read_part by_code
  part_level d k z e = rw z (rw (coded (suc k), e))

  pub level_wide : (part' : List ℕ → Read PartReq) → max_entries < i → read_level part' (fields b) ≡ malformed
  unfolding read_level
  level_wide part' h = rw (f.is, lt-leb i max_entries h)

  pub level_entries : (part' : List ℕ → Read PartReq) → i ≤ max_entries → read_level part' (fields b) ≡ read_entries part' 0 0 i (fields c)
  unfolding read_level
  level_entries part' h = rw (f.is, le-leb i max_entries h)

-- the store as it was
pub kept_same : {s : List ℕ} → Good s → Kept s s
kept_same g = record { good = g; long = refl; tops = omega arith; same = λ n h. refl }

pub kept_on : {s t u : List ℕ} → Kept s t → Kept t u → Kept s u
kept_on k l =
    record {
      good = l.good;
      long = l.long ∙ k.long;
      tops = omega arith;
      same = λ n h. l.same n (omega arith) ∙ k.same n h;
    }

-- what the code answers
pub refuse : {s t b : List ℕ} {k : ℕ} {r : Read PartReq} → Kept s t → r ≡ malformed → PartWasRead s t b k r None
refuse h e = record { kept = h; is = sym e; placed = tt }

pub answer : {s b : List ℕ} {k : ℕ} {r : Read PartReq} {c : Bor (List ℕ)} → Good s → (n : ℕ) → n < 3 → Tail b c.now → k + length c.now ≤ length b
    → r ≡ got (part s n) (fields c.now) → PartWasRead s s b k r (Some (n, c))
answer g n low tail inside e =
    record {
      kept = kept_same g;
      is = sym e;
      placed = (omega (arith, g.base), record { further = inside; cost = omega arith; tail = tail });
    }

-- an entry's index i, where n entries are to be read, k after this one: the bytes b begin with it, and c are left
pub record Index (b : List ℕ) (low n i k : ℕ) (c : List ℕ) : Type 0 where
  pub field : Field b i c
  pub more_left : n ≡ suc k
  pub high : low ≤ i
  pub known : i < absent

module _ {b c : List ℕ} {low n i k : ℕ} (x : Index b low n i k c) (base d : ℕ) where
  abbrev after_index : Read PartReq
  after_index = read_entries (read_part d) base low n (fields b)

  pub index_next : after_index ≡ (read_part d (fields c) >>= λ p gs. read_entries (read_part d) base (i + 1) k gs >>= λ r hs. got (more (base + i) p r) hs)
  unfolding read_entries
  index_next = rw (x.more_left, x.field.is, le-leb low i x.high, lt-ltb i absent x.known, add-one i)

  pub index_no_part : read_part d (fields c) ≡ malformed → after_index ≡ malformed
  index_no_part e = rw (index_next, e)

  module _ {p : PartReq} {gs : List ℕ} (e : read_part d (fields c) ≡ got p gs) where
    pub index_no_rest : read_entries (read_part d) base (i + 1) k gs ≡ malformed → after_index ≡ malformed
    index_no_rest h = rw (index_next, e, h)

    pub index_rest : {r : PartReq} {hs : List ℕ} → read_entries (read_part d) base (i + 1) k gs ≡ got r hs → after_index ≡ got (more (base + i) p r) hs
    index_rest h = rw (index_next, e, h)

-- an entry was read, with those after it, and its cell is made
module _ (d : ℕ) {s t u b c : List ℕ} {low n i k : ℕ} {y z : ℕ × Bor (List ℕ)} (x : Index b low n i k c)
    (first : PartWasRead s t c 2 (read_part d (fields c)) (Some y))
    (later : PartWasRead t u y.1.now 0 (read_entries (read_part d) 0 (i + 1) k (fields y.1.now)) (Some z)) where
  pub entry_made : {v : List ℕ} {m : ℕ} → Made u v (more i (part u y.0) (part u z.0)) 1 m
      → PartWasRead s v b 0 (read_entries (read_part d) 0 low n (fields b)) (Some (m, z.1))
  entry_made made =
      let held = first.placed in
      let also = later.placed in
      let same : part u y.0 ≡ part t y.0 = later.kept.same y.0 held.0 in
      let child : read_part d (fields c) ≡ got (part u y.0) (fields y.1.now) = sym first.is ∙ rw same in
      record {
        kept = kept_on first.kept (kept_on later.kept made.kept);
        is = rw made.is (sym (index_rest x 0 d child (sym later.is) ∙ rw (zero-add i)));
        placed = (
          made.piece,
          record {
            further = omega (arith, x.field, held.1, also.1);
            cost = omega (arith, x.field, held.1, also.1, made.cost);
            tail = tail_then x.field.tail (tail_then held.1.tail also.1.tail);
          },
        );
      }

-- the test whether a field is left
module _ (b : List ℕ) {r : Bool} (e : r ≡ ltb (length b) 2) where
  pub ended : r ≡ true → length b < 2
  ended h = ltb-true (length b) 2 (sym e ∙ h)

  pub goes_on : r ≡ false → 2 ≤ length b
  goes_on h = ltb-false (length b) 2 (sym e ∙ h)

pub pred_of : (n : ℕ) → (n ≡ 0 → ⊥) → n ≡ suc (n - 1)
pred_of n h = omega arith

-- the same part, where it stands behind four bytes
pub part_behind : {s t b c : List ℕ} {q r : Read PartReq} {a : Maybe (ℕ × Bor (List ℕ))} → r ≡ q → 4 + length c ≡ length b → Tail b c → PartWasRead s t c 0 q a → PartWasRead s t b 2 r a
part_behind {s} {t} {b} {c} {a = a} e long tail was = record { kept = was.kept; is = was.is ∙ sym e; placed = behind a was.placed }
  where
    behind : (x : Maybe (ℕ × Bor (List ℕ))) → PartPlaced s t c 0 x → PartPlaced s t b 2 x
    behind None h = tt
    behind (Some y) h = (h.0, record { further = omega (arith, h.1, long); cost = omega (arith, h.1, long); tail = tail_then tail h.1.tail })
