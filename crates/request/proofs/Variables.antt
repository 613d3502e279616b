-- Reading the return part and lists of variables: one law for each way through the code. What `sorted` says of a list whose first entry is there
-- is what it says of the others with that entry before them (`prepend`); of one whose first entry is not there, what `skimmed` says.
use Prim.Native.Nat.{ℕ, ◌+◌, ◌≤◌, ◌<◌}
use native.Mathlib.Omega.{arith}
use mathlib.Core.Path.{◌≡◌, refl, ap, sym, subst, ◌∙◌}
use mathlib.Core.Bool.{Bool, true, false, cond}
use mathlib.Core.List.{List}
use mathlib.Core.Option.{Option, some, none as nothing}
use lib.ListN.{length}
use borrow.Author.Tests.{lt-ltb, le-ltb, eq-eqb, ne_eqb}
use Rattle.field.specs.Limits.{max_depth}
use Rattle.part.specs.PartReq.{PartReq, more, spine}
use Rattle.part.specs.Store.{top, part, Good, Kept, Made}
use Rattle.part.proofs.Pieces.{part-2}
use Rattle.context.specs.RequiredContext.{variable, return_entry}
use Rattle.std.specs.Prelude.{Option as Maybe, Some, None}
use Rattle.std.specs.Borrow.{Bor}
use Rattle.request.specs.Fields.{fields, Read, malformed, got, ◌>>=◌}
use Rattle.request.specs.Part.{read_entries, read_part, read_return, read_variables}
use Rattle.request.specs.Request.{all_below}
use Rattle.request.specs.Answers.{Tail, Field, RoomFor, Spent, PartWasRead, optional, Held, option_read, OptionPlaced, OptionWasRead, sorted, skimmed}
use Rattle.request.proofs.Bytes.{no_field, tail_all, tail_then}
use Rattle.request.proofs.Entries.{Index, kept_same, kept_on, entries_none, index_next, index_no_part}

-- what the code answers
pub refuse_list : {s t b : List ℕ} {r : Read (Option PartReq)} → Kept s t → r ≡ malformed → OptionWasRead s t b r None
refuse_list k e = record { kept = k; is = sym e; placed = tt }

answer_list : {s t b : List ℕ} {r : Read (Option PartReq)} {o : Maybe ℕ} {c : Bor (List ℕ)} → Kept s t → Held t o → Spent s t b 0 c.now
    → r ≡ got (optional t o) (fields c.now) → OptionWasRead s t b r (Some (o, c))
answer_list k h p e = record { kept = k; is = sym e; placed = (h, p) }

stand : (s b c : List ℕ) → Tail b c → Spent s s b 0 c
stand s b c h = record { further = omega (arith, h.inside); cost = omega (arith, h.inside); tail = h }

-- the return part
pub return_end : (b : List ℕ) → length b < 2 → read_return (fields b) ≡ malformed
unfolding read_return
return_end b h = rw (no_field b h)

pub return-nothing : {s b : List ℕ} {i : ℕ} {c : Bor (List ℕ)} → Field b i c.now → Good s → i ≡ 3 → OptionWasRead s s b (read_return (fields b)) (Some (None, c))
unfolding read_return
return-nothing {s} {b} {i} {c} f g e = answer_list (kept_same g) tt (stand s b c.now f.tail) (rw (f.is, eq-eqb i 3 e))

module _ {b c : List ℕ} {i : ℕ} (f : Field b i c) (other : i ≡ 3 → ⊥) where
  return_part : read_return (fields b) ≡ (read_part max_depth (fields b) >>= λ p gs. got (some p) gs)
  unfolding read_return
  return_part = rw (f.is, ne_eqb i 3 other)

  pub return_refused : {s t : List ℕ} → PartWasRead s t b 2 (read_part max_depth (fields b)) None → OptionWasRead s t b (read_return (fields b)) None
  return_refused was = refuse_list was.kept (return_part ∙ rw (← was.is))

  pub return_got : {s t : List ℕ} {y : ℕ × Bor (List ℕ)} → PartWasRead s t b 2 (read_part max_depth (fields b)) (Some y) → OptionWasRead s t b (read_return (fields b)) (Some (Some y.0, y.1))
  return_got was =
      let h = was.placed in
      answer_list was.kept h.0 (record { further = omega (arith, h.1); cost = omega (arith, h.1); tail = h.1.tail }) (return_part ∙ rw (← was.is))

-- a list of which an entry is not there: what is left gives the whole
pub record Skimming (s t b : List ℕ) (total : Read (Option PartReq)) (c : List ℕ) (low left : ℕ) : Type 0 where
  pub kept : Kept s t
  pub spent : Spent s t b 0 c
  pub rest : skimmed (read_entries (read_part max_depth) spine low left (fields c)) ≡ total

pub skim_first : {s : List ℕ} (b : List ℕ) (low n : ℕ) → Good s → Skimming s s b (skimmed (read_entries (read_part max_depth) spine low n (fields b))) b low n
skim_first {s} b low n g = record { kept = kept_same g; spent = stand s b b (tail_all b); rest = refl }

skimmed-more : (y : Read PartReq) (j : ℕ) (p : PartReq) → skimmed (y >>= λ r hs. got (more j p r) hs) ≡ skimmed y
unfolding skimmed
skimmed-more malformed j p = refl
skimmed-more (got q hs) j p = refl

module _ {s t b c : List ℕ} {low left : ℕ} {total : Read (Option PartReq)} (so : Skimming s t b total c low left) where
  skim_refuse : {u : List ℕ} → Kept t u → read_entries (read_part max_depth) spine low left (fields c) ≡ malformed → OptionWasRead s u b total None
  unfolding skimmed
  skim_refuse k e = refuse_list (kept_on so.kept k) (sym so.rest ∙ rw e)

  pub skim_none : read_entries (read_part max_depth) spine low left (fields c) ≡ malformed → OptionWasRead s t b total None
  skim_none = skim_refuse (kept_same so.kept.good)

  module _ {d : List ℕ} {i k : ℕ} (x : Index c low left i k d) where
    pub skim_no_part : {u : List ℕ} → PartWasRead t u d 2 (read_part max_depth (fields d)) None → OptionWasRead s u b total None
    skim_no_part was = skim_refuse was.kept (index_no_part x spine max_depth (sym was.is))

    pub skim_room : RoomFor s b → RoomFor t d
    skim_room r = omega (arith, x.field)

    pub skim_again : {u : List ℕ} {y : ℕ × Bor (List ℕ)} → PartWasRead t u d 2 (read_part max_depth (fields d)) (Some y) → Skimming s u b total y.1.now (i + 1) k
    skim_again {u} {y} was =
        let h = was.placed in
        record {
          kept = kept_on so.kept was.kept;
          spent =
              record {
                further = omega (arith, so.spent, x.field, h.1);
                cost = omega (arith, so.spent, x.field, h.1);
                tail = tail_then so.spent.tail (tail_then x.field.tail h.1.tail);
              };
          rest =
              sym (skimmed-more _ (spine + i) (part u y.0)) ∙ sym (ap skimmed (index_next x spine max_depth ∙ rw (← was.is))) ∙ so.rest;
        }

pub skim_done : {s t b : List ℕ} {low left : ℕ} {total : Read (Option PartReq)} {c : Bor (List ℕ)} → Skimming s t b total c.now low left → left ≡ 0
    → OptionWasRead s t b total (Some (None, c))
unfolding skimmed
skim_done {low = low} {left = left} {c = c} so e =
    answer_list so.kept tt so.spent
    (sym so.rest ∙ ap skimmed (entries_none (read_part max_depth) spine low left (fields c.now) e))

-- an entry before a list of variables, where that is there
unfoldable prepend : ℕ → PartReq → Read (Option PartReq) → Read (Option PartReq)
prepend j p malformed = malformed
prepend j p (got nothing hs) = got nothing hs
prepend j p (got (some q) hs) = got (some (more j p q)) hs

module _ (limit j : ℕ) (p : PartReq) where
  chosen : (q : PartReq) (hs : List ℕ) (v : Bool) → got (cond v (some (more j p q)) nothing) hs ≡ prepend j p (got (cond v (some q) nothing) hs)
  unfolding prepend
  chosen q hs true = refl
  chosen q hs false = refl

  sorted_more : j < variable limit → (y : Read PartReq) → sorted limit (y >>= λ r hs. got (more j p r) hs) ≡ prepend j p (sorted limit y)
  unfolding sorted all_below prepend
  sorted_more h malformed = refl
  sorted_more h (got q hs) = rw (lt-ltb j (variable limit) h) (chosen q hs (all_below (variable limit) q))

  skim_more : variable limit ≤ j → (y : Read PartReq) → sorted limit (y >>= λ r hs. got (more j p r) hs) ≡ skimmed (y >>= λ r hs. got (more j p r) hs)
  unfolding sorted all_below skimmed
  skim_more h malformed = refl
  skim_more h (got q hs) = rw (le-ltb j (variable limit) h)

skim_entry : (limit j : ℕ) → variable limit ≤ j → (x : Read PartReq) (y : List ℕ → Read PartReq)
    → sorted limit (x >>= λ p gs. y gs >>= λ r hs. got (more j p r) hs) ≡ skimmed (x >>= λ p gs. y gs >>= λ r hs. got (more j p r) hs)
unfolding sorted skimmed
skim_entry limit j h malformed y = refl
skim_entry limit j h (got p gs) y = skim_more limit j p h (y gs)

-- a list whose first entry is not there
pub known_skimmed : (limit : ℕ) {b c : List ℕ} {low n i k : ℕ} → Index b low n i k c → limit ≤ i → {s t : List ℕ} {a : Maybe (Maybe ℕ × Bor (List ℕ))}
    → OptionWasRead s t b (skimmed (read_entries (read_part max_depth) spine low n (fields b))) a
    → OptionWasRead s t b (sorted limit (read_entries (read_part max_depth) spine low n (fields b))) a
known_skimmed limit {b} {c} {low} {n} {i} {k} x beyond was = record { kept = was.kept; is = was.is ∙ sym is_skimmed; placed = was.placed }
  where
    is_skimmed : sorted limit (read_entries (read_part max_depth) spine low n (fields b)) ≡ skimmed (read_entries (read_part max_depth) spine low n (fields b))
    is_skimmed =
        rw (index_next x spine max_depth)
        (skim_entry limit (spine + i) (omega arith) (read_part max_depth (fields c)) (read_entries (read_part max_depth) spine (i + 1) k))

-- a list that ends at once, or whose first entry is malformed
pub known_empty : {s : List ℕ} → Good s → (b : Bor (List ℕ)) (limit low n : ℕ) → n ≡ 0
    → OptionWasRead s s b.now (sorted limit (read_entries (read_part max_depth) spine low n (fields b.now))) (Some (Some 2, b))
unfolding sorted all_below
known_empty {s} g b limit low n e =
    answer_list (kept_same g) (omega (arith, g.base)) (stand s b.now b.now (tail_all b.now))
    (ap (sorted limit) (entries_none (read_part max_depth) spine low n (fields b.now) e) ∙ rw (part-2 s))

pub known_none : {s t b : List ℕ} (limit : ℕ) {r : Read PartReq} → Kept s t → r ≡ malformed → OptionWasRead s t b (sorted limit r) None
unfolding sorted
known_none limit k e = refuse_list k (ap (sorted limit) e)

-- a list whose first entry is there
module _ (limit : ℕ) {b d : List ℕ} {low n i k : ℕ} (x : Index b low n i k d) (there : i < limit) where
  abbrev list : Read (Option PartReq)
  list = sorted limit (read_entries (read_part max_depth) spine low n (fields b))

  pub known_no_part : {s t : List ℕ} → PartWasRead s t d 2 (read_part max_depth (fields d)) None → OptionWasRead s t b list None
  known_no_part first = known_none limit first.kept (index_no_part x spine max_depth (sym first.is))

  module _ {s t u : List ℕ} {y : ℕ × Bor (List ℕ)} {c : Maybe (Maybe ℕ × Bor (List ℕ))} (first : PartWasRead s t d 2 (read_part max_depth (fields d)) (Some y))
      (later : OptionWasRead t u y.1.now (sorted limit (read_entries (read_part max_depth) spine (i + 1) k (fields y.1.now))) c) where
    joined : list ≡ prepend (spine + i) (part t y.0) (option_read u c)
    joined =
        ap (sorted limit) (index_next x spine max_depth ∙ rw (← first.is))
        ∙ sorted_more limit (spine + i) (part t y.0) (omega arith) (read_entries (read_part max_depth) spine (i + 1) k (fields y.1.now))
        ∙ ap (prepend (spine + i) (part t y.0)) (sym later.is)

  pub known_no_rest : {s t u : List ℕ} {y : ℕ × Bor (List ℕ)} → PartWasRead s t d 2 (read_part max_depth (fields d)) (Some y)
      → OptionWasRead t u y.1.now (sorted limit (read_entries (read_part max_depth) spine (i + 1) k (fields y.1.now))) None → OptionWasRead s u b list None
  unfolding prepend
  known_no_rest first later = refuse_list (kept_on first.kept later.kept) (joined first later)

  module _ {s t u : List ℕ} {y : ℕ × Bor (List ℕ)} {z : Maybe ℕ × Bor (List ℕ)} (first : PartWasRead s t d 2 (read_part max_depth (fields d)) (Some y))
      (later : OptionWasRead t u y.1.now (sorted limit (read_entries (read_part max_depth) spine (i + 1) k (fields y.1.now))) (Some z)) where
    known_spent : Spent s u b 4 z.1.now
    known_spent =
        let h = first.placed in
        let l = later.placed in
        record {
          further = omega (arith, x.field, h.1, l.1);
          cost = omega (arith, x.field, h.1, l.1);
          tail = tail_then x.field.tail (tail_then h.1.tail l.1.tail);
        }

    pub known_nothing : z.0 ≡ None → OptionWasRead s u b list (Some (None, z.1))
    unfolding prepend
    known_nothing e =
        let l = known_spent in
        answer_list (kept_on first.kept later.kept) tt (record { further = omega (arith, l); cost = omega (arith, l); tail = l.tail }) (joined first later ∙ rw e)

    pub known_made : {v : List ℕ} {r m : ℕ} → z.0 ≡ Some r → Made u v (more (spine + i) (part u y.0) (part u r)) 1 m
        → OptionWasRead s v b list (Some (Some m, z.1))
    unfolding prepend
    known_made e made =
        let l = known_spent in
        let same : part u y.0 ≡ part t y.0 = later.kept.same y.0 first.placed.0 in
        answer_list (kept_on first.kept (kept_on later.kept made.kept)) made.piece (record { further = omega (arith, l); cost = omega (arith, l, made.cost); tail = l.tail })
        (joined first later ∙ rw (e, ← same, ← made.is))

-- a count and its list
pub variables_end : (limit : ℕ) (b : List ℕ) → length b < 2 → sorted limit (read_variables (fields b)) ≡ malformed
unfolding read_variables sorted
variables_end limit b h = rw (no_field b h)

pub variables_read : (limit : ℕ) {s t b c : List ℕ} {i : ℕ} {a : Maybe (Maybe ℕ × Bor (List ℕ))} → Field b i c
    → OptionWasRead s t c (sorted limit (read_entries (read_part max_depth) spine 0 i (fields c))) a
    → OptionWasRead s t b (sorted limit (read_variables (fields b))) a
unfolding read_variables
variables_read limit {s} {t} {b} {c} {i} {a} f was = record { kept = was.kept; is = was.is ∙ rw f.is; placed = behind a was.placed }
  where
    behind : (x : Maybe (Maybe ℕ × Bor (List ℕ))) → OptionPlaced s t c x → OptionPlaced s t b x
    behind None h = tt
    behind (Some z) h = (h.0, record { further = omega (arith, h.1, f.left); cost = omega (arith, h.1, f.left); tail = tail_then f.tail h.1.tail })

-- the returned value's entry
module _ {s : List ℕ} {o : Maybe ℕ} where
  pub returned_none : Good s → o ≡ None → Made s s (return_entry (optional s o)) 1 2
  unfolding return_entry
  returned_none g e =
      record { kept = kept_same g; piece = omega (arith, g.base); is = part-2 s ∙ rw e; cost = omega arith }

  pub returned_part : {t : List ℕ} {p m : ℕ} → o ≡ Some p → Made s t (more spine (part s p) (part s 2)) 1 m
      → Made s t (return_entry (optional s o)) 1 m
  unfolding return_entry
  returned_part e made =
      record { kept = made.kept; piece = made.piece; is = made.is ∙ rw (e, part-2 s); cost = made.cost }

pub held_piece : (s : List ℕ) {o : Maybe ℕ} {p : ℕ} → o ≡ Some p → Held s o → p < top s
held_piece s e h = subst (Held s) e h
