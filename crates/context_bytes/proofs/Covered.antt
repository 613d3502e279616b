-- Comparing a need with a part or a list in its bytes: one law for each way through the code. The loop's invariant says that what is left of both
-- gives the whole.
use Prim.Native.Nat.{ℕ, ◌+◌, ◌-◌, ◌≤◌, ◌<◌}
use native.Mathlib.Omega.{arith}
use native.Mathlib.Decide.{dec_lt}
use mathlib.Core.Path.{◌≡◌, refl, ap, sym, ◌∙◌}
use mathlib.Core.Bool.{cond}
use mathlib.Core.List.{List}
use mathlib.Core.Option.{Option, some, none as nothing}
use lib.Dec.{ltb, eqb}
use lib.ListN.{length}
use borrow.Author.Tests.{lt-ltb, le-ltb, eq-eqb, ne_eqb}
use Rattle.field.specs.Limits.{max_depth}
use Rattle.part.specs.PartReq.{PartReq, none, contains, is_exist, spine}
use Rattle.part.specs.Store.{top, part, Good, Seen}
use Rattle.part.proofs.Pieces.{part-0, part-1, part-2, part-cell, not_exist}
use Rattle.part.proofs.Equations.{contains-exist, contains-all, contains-none, all_contains, exist-contains, none-contains}
use Rattle.request.specs.Fields.{fields, malformed, got}
use Rattle.request.specs.Part.{read_part, read_entries, read_variables}
use Rattle.request.specs.Answers.{Tail, Field}
use Rattle.request.proofs.Bytes.{no_field, tail_all, tail_then}
use Rattle.request.proofs.Entries.{Index, index_next, entries_none}
use Rattle.std.specs.Prelude.{Option as Maybe, Some, None}
use Rattle.std.specs.Borrow.{Bor}
use Rattle.request.specs.declared.codes.Code.TheVariants.{All, Exist, Entries}
use Rattle.request.specs.Codes.{CodeWasRead}
use Rattle.context_bytes.specs.Checked.{SkipPlaced}
use Rattle.context_bytes.specs.Covered.{covers, each, asks, AsksPieces, Covers}
use Rattle.context_bytes.proofs.Lists.{variables_are}
use Rattle.context_bytes.proofs.Asking.{asks-before, asks_after, asks_at, covers-other, covers-not, covers-rest}

-- what a need asks of a first entry
module _ {s : List ℕ} {n : ℕ} (i : ℕ) (g : Good s) (inside : n < top s) where
  pub ask-all : n ≡ 0 → AsksPieces s n i None
  unfolding asks
  ask-all e = record { is = rw (e, part-0 s); placed = tt }

  plain : n < 3 → (n ≡ 0 → ⊥) → each (part s 1) (part s n) ≡ asks (part s n) i
  unfolding asks
  plain h z =
      elim (dec_lt n 2) [
        | yes l ↦ let e : n ≡ 1 = omega arith in rw (e, part-1 s)
        | no l ↦ let e : n ≡ 2 = omega arith in rw (e, part-1 s, part-2 s)
      ]

  pub ask_plain : n < 3 → (n ≡ 0 → ⊥) → AsksPieces s n i (Some (1, n))
  ask_plain h z = record { is = plain h z; placed = (omega (arith, g.base), inside) }

  module _ {j c r : ℕ} (seen : Seen s n j c r) where
    pub ask_later : i < j → AsksPieces s n i (Some (1, n))
    ask_later h =
        record {
          is = rw (part-1 s, seen.is) (sym (asks-before i j (part s c) (part s r) h));
          placed = (omega (arith, g.base), inside);
        }

    pub ask_passed : j < i → AsksPieces s n i None
    ask_passed h = record { is = rw seen.is (sym (asks_after i j (part s c) (part s r) h)); placed = tt }

    pub ask_here : j ≤ i → i ≤ j → AsksPieces s n i (Some (c, r))
    ask_here h l =
        record {
          is = rw seen.is (sym (asks_at i j (part s c) (part s r) (omega arith)));
          placed = (omega (arith, seen.child_low), omega (arith, seen.rest_low));
        }

is-exist : (s : List ℕ) (n : ℕ) → is_exist (part s n) ≡ eqb n 1
is-exist s n =
    elim (dec_lt n 1) [
      | yes l ↦ let ne : n ≡ 1 → ⊥ = λ e. omega arith in not_exist s n ne ∙ sym (ne_eqb n 1 ne)
      | no l ↦
          elim (dec_lt 1 n) [
            | yes k ↦ let ne : n ≡ 1 → ⊥ = λ e. omega arith in not_exist s n ne ∙ sym (ne_eqb n 1 ne)
            | no k ↦ let e : n ≡ 1 = omega arith in rw (e, part-1 s)
          ]
    ]

-- the same, where the bytes begin earlier
earlier : (b c : List ℕ) (a : Maybe (Bor (List ℕ))) → Tail b c → SkipPlaced c a → SkipPlaced b a
earlier b c None l h = tt
earlier b c (Some p) l h = tail_then l h

-- a part, by its code
module _ (s : List ℕ) (n : ℕ) {b : List ℕ} {d : ℕ} where
  pub part_no : CodeWasRead b d None → Covers b (covers (part s n) (read_part d (fields b))) None
  unfolding covers
  part_no was = record { is = sym (ap (covers (part s n)) was.is); placed = tt }

  module _ {c : Bor (List ℕ)} where
    pub part_all : CodeWasRead b d (Some (All, c)) → Covers b (covers (part s n) (read_part d (fields b))) (Some c)
    unfolding covers
    part_all was = record { is = sym (ap (covers (part s n)) was.is ∙ rw (all_contains (part s n))); placed = was.placed.1 }

    exist_covers : CodeWasRead b d (Some (Exist, c)) → covers (part s n) (read_part d (fields b)) ≡ cond (eqb n 1) (some (fields c.now)) nothing
    unfolding covers
    exist_covers was = ap (covers (part s n)) was.is ∙ rw (exist-contains (part s n), is-exist s n)

    pub part_exist : CodeWasRead b d (Some (Exist, c)) → n ≡ 1 → Covers b (covers (part s n) (read_part d (fields b))) (Some c)
    part_exist was e = record { is = sym (exist_covers was ∙ rw (eq-eqb n 1 e)); placed = was.placed.1 }

    pub part_more : CodeWasRead b d (Some (Exist, c)) → (n ≡ 1 → ⊥) → Covers b (covers (part s n) (read_part d (fields b))) None
    part_more was h = record { is = sym (exist_covers was ∙ rw (ne_eqb n 1 h)); placed = tt }

    pub part_listed : {k : ℕ} {a : Maybe (Bor (List ℕ))} → CodeWasRead b d (Some (Entries k, c))
        → Covers c.now (covers (part s n) (read_entries (read_part (d - 1)) 0 0 k (fields c.now))) a → Covers b (covers (part s n) (read_part d (fields b))) a
    part_listed {a = a} was entries =
        record { is = entries.is ∙ sym (ap (covers (part s n)) was.is); placed = earlier b c.now a was.placed.2 entries.placed }

-- entries
pub record Covering (s b : List ℕ) (n d base k : ℕ) (c : List ℕ) (low left m : ℕ) : Type 0 where
  pub piece : m < top s
  pub tail : Tail b c
  pub rest : covers (part s m) (read_entries (read_part d) base low left (fields c)) ≡ covers (part s n) (read_entries (read_part d) base 0 k (fields b))

pub cover_first : {s : List ℕ} (b : List ℕ) {n : ℕ} (d base k : ℕ) → n < top s → Covering s b n d base k b 0 k n
cover_first b d base k h = record { piece = h; tail = tail_all b; rest = refl }

module _ {s b c : List ℕ} {n d base k low left m : ℕ} (so : Covering s b n d base k c low left m) where
  abbrev total : Option (List ℕ)
  total = covers (part s n) (read_entries (read_part d) base 0 k (fields b))

  none_left : covers (part s m) (read_entries (read_part d) base low left (fields c)) ≡ nothing → Covers b total None
  none_left e = record { is = sym e ∙ so.rest; placed = tt }

  pub cover_stop : read_entries (read_part d) base low left (fields c) ≡ malformed → Covers b total None
  unfolding covers
  cover_stop e = none_left (rw e)

  module _ {e : List ℕ} {i j : ℕ} (x : Index c low left i j e) where
    pub cover_other : AsksPieces s m (base + i) None → Covers b total None
    cover_other was =
        none_left
        (ap (covers (part s m)) (index_next x base d)
        ∙ covers-other (part s m) (base + i) (read_part d (fields e)) (read_part d) base (i + 1) j (sym was.is))

    module _ {q r : ℕ} (was : AsksPieces s m (base + i) (Some (q, r))) where
      pub cover_not : Covers e (covers (part s q) (read_part d (fields e))) None → Covers b total None
      cover_not part-was =
          none_left
          (ap (covers (part s m)) (index_next x base d)
          ∙ covers-not (part s m) (base + i) (read_part d (fields e)) (read_part d) base (i + 1) j (sym was.is) (sym part-was.is))

      pub cover_again : {end : Bor (List ℕ)} → Covers e (covers (part s q) (read_part d (fields e))) (Some end)
          → Covering s b n d base k end.now (i + 1) j r
      cover_again part-was =
          record {
            piece = was.placed.1;
            tail = tail_then so.tail (tail_then x.field.tail part-was.placed);
            rest =
                sym
                (ap (covers (part s m)) (index_next x base d)
                ∙ covers-rest (part s m) (base + i) (read_part d (fields e)) (read_part d) base (i + 1) j (sym was.is) (sym part-was.is))
                ∙ so.rest;
          }

  module _ (done : left ≡ 0) where
    at_end : covers (part s m) (got none (fields c)) ≡ total
    at_end = sym (ap (covers (part s m)) (entries_none (read_part d) base low left (fields c) done)) ∙ so.rest

    pub cover_all : m ≡ 0 → Covers b total None
    unfolding covers
    cover_all e = record { is = sym (rw (e, part-0 s, contains-all none)) ∙ at_end; placed = tt }

    none_has : Good s → (m ≡ 0 → ⊥) → contains none (part s m) ≡ ltb m 3
    none_has g z =
        elim (dec_lt m 3) [
          | yes l ↦
              elim (dec_lt m 2) [
                | yes h ↦ let e : m ≡ 1 = omega arith in rw (e, part-1 s) (contains-exist none)
                | no h ↦ let e : m ≡ 2 = omega arith in rw (e, part-2 s) (contains-none none)
              ]
          | no l ↦
              let h : 2 < m = omega arith in
              let sound = g.sound m h so.piece in
              rw (part-cell s m h sound.child_low sound.rest_low, le-ltb m 3 (omega arith)) (none-contains _ _ _)
        ]

    pub cover_more : Good s → (m ≡ 0 → ⊥) → 3 ≤ m → Covers b total None
    unfolding covers
    cover_more g z h = record { is = sym (rw (none_has g z, le-ltb m 3 h)) ∙ at_end; placed = tt }

pub cover_done : {s b : List ℕ} {n d base k low left m : ℕ} {c : Bor (List ℕ)} (so : Covering s b n d base k c.now low left m) → left ≡ 0 → Good s → (m ≡ 0 → ⊥) → m < 3
    → Covers b (covers (part s n) (read_entries (read_part d) base 0 k (fields b))) (Some c)
unfolding covers
cover_done {m = m} so done g z h = record { is = sym (rw (none_has so done g z, lt-ltb m 3 h)) ∙ at_end so done; placed = so.tail }

-- a list of variables
pub list_short : (q : PartReq) (b : List ℕ) → length b < 2 → Covers b (covers q (read_variables (fields b))) None
unfolding read_variables covers
list_short q b h = record { is = rw (no_field b h); placed = tt }

pub list_covered : (q : PartReq) {b c : List ℕ} {n : ℕ} {a : Maybe (Bor (List ℕ))} → Field b n c
    → Covers c (covers q (read_entries (read_part max_depth) spine 0 n (fields c))) a → Covers b (covers q (read_variables (fields b))) a
list_covered q {b} {c} {n} {a} f was =
    record { is = was.is ∙ sym (ap (covers q) (variables_are f)); placed = earlier b c a f.tail was.placed }
