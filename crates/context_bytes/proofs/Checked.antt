-- Checking: one law for each way through the code. A loop's invariant says that what is left, with what is known so far, gives the whole.
use Prim.Native.Nat.{ℕ, ◌+◌, ◌-◌}
use native.Mathlib.Omega.{arith}
use native.Mathlib.Decide.{dec_lt}
use mathlib.Core.Path.{◌≡◌, refl, ap, sym, ◌∙◌}
use mathlib.Core.Bool.{Bool, true, false, ◌&&◌}
use mathlib.Core.List.{List}
use mathlib.Core.Option.{some, none as nothing}
use lib.Dec.{ltb}
use borrow.Author.Tests.{lt-ltb, le-ltb}
use Rattle.part.specs.PartReq.{PartReq, more}
use Rattle.request.specs.Fields.{fields, Read, malformed, got, ◌>>=◌}
use Rattle.request.specs.Part.{read_part, read_entries}
use Rattle.request.specs.Request.{all_below}
use Rattle.request.specs.Answers.{Tail}
use Rattle.request.proofs.Bytes.{tail_all, tail_then}
use Rattle.request.proofs.Entries.{Index, index_no_part, entries_none}
use Rattle.std.specs.Prelude.{Some, None}
use Rattle.std.specs.Borrow.{Bor}
use Rattle.request.specs.declared.codes.Code.TheVariants.{All, Exist, Entries}
use Rattle.request.specs.Codes.{CodeWasRead}
use Rattle.request.proofs.Steps.{index_then}
use Rattle.context_bytes.specs.Checked.{past, checked, Skips, EntriesChecked}

-- something was read, and these fields are left
pub record Passed {A : Type 0} (r : Read A) (fs : List ℕ) : Type 0 where
  pub value : A
  pub is : r ≡ got value fs

pub passed : {A : Type 0} (r : Read A) {fs : List ℕ} → some fs ≡ past r → Passed r fs
unfolding past
passed malformed e = let z : ◌≡◌ {A = ℕ} 0 1 = cc in absurd (omega arith)
passed (got x gs) e = record { value = x; is = cc }

pub stopped : {A : Type 0} (r : Read A) → nothing ≡ past r → r ≡ malformed
unfolding past
stopped malformed e = refl
stopped (got x gs) e = let z : ◌≡◌ {A = ℕ} 0 1 = cc in absurd (omega arith)

-- what a call answered
pub skip_refused : {A : Type 0} {b : List ℕ} {r : Read A} → Skips b r None → r ≡ malformed
skip_refused {r = r} was = stopped r was.is

pub skip_passed : {A : Type 0} {b : List ℕ} {c : Bor (List ℕ)} {r : Read A} → Skips b r (Some c) → Passed r (fields c.now)
skip_passed {r = r} was = passed r was.is

past-checked : (limit : ℕ) (r : Read PartReq) → past (checked limit r) ≡ past r
unfolding past checked
past-checked limit malformed = refl
past-checked limit (got q fs) = refl

-- a part, by its code
module _ {b : List ℕ} {d : ℕ} where
  pub part_refused : CodeWasRead b d None → Skips b (read_part d (fields b)) None
  unfolding past
  part_refused was = record { is = sym (ap past was.is); placed = tt }

  module _ {c : Bor (List ℕ)} where
    pub all_skipped : CodeWasRead b d (Some (All, c)) → Skips b (read_part d (fields b)) (Some c)
    unfolding past
    all_skipped was = record { is = sym (ap past was.is); placed = was.placed.1 }

    pub exist_skipped : CodeWasRead b d (Some (Exist, c)) → Skips b (read_part d (fields b)) (Some c)
    unfolding past
    exist_skipped was = record { is = sym (ap past was.is); placed = was.placed.1 }

    module _ {n limit : ℕ} (was : CodeWasRead b d (Some (Entries n, c))) where
      pub entries_refused : EntriesChecked c.now (d - 1) limit n None → Skips b (read_part d (fields b)) None
      unfolding past
      entries_refused entries =
          record { is = ap past (entries.checks 0).is ∙ past-checked (0 + limit) _ ∙ sym (ap past was.is); placed = tt }

      pub entries_skipped : {p : Bool × Bor (List ℕ)} → EntriesChecked c.now (d - 1) limit n (Some p) → Skips b (read_part d (fields b)) (Some p.1)
      unfolding past
      entries_skipped entries =
          let k = entries.checks 0 in
          record { is = ap past k.is ∙ past-checked (0 + limit) _ ∙ sym (ap past was.is); placed = tail_then was.placed.2 k.placed }

-- entries: the test of those before, and that of those after
unfoldable pub conj : Bool → Read Bool → Read Bool
conj k malformed = malformed
conj k (got x fs) = got (k && x) fs

conj-true : (r : Read Bool) → conj true r ≡ r
unfolding conj
conj-true malformed = refl
conj-true (got x fs) = refl

and-true : (a : Bool) → a && true ≡ a
and-true true = refl
and-true false = refl

and_assoc : (a b c : Bool) → (a && b) && c ≡ a && (b && c)
and_assoc true b c = refl
and_assoc false b c = refl

conj-conj : (k j : Bool) (r : Read Bool) → conj k (conj j r) ≡ conj (k && j) r
unfolding conj
conj-conj k j malformed = refl
conj-conj k j (got x fs) = rw (and_assoc k j x)

ltb-shift : (base i n : ℕ) → ltb (base + i) (base + n) ≡ ltb i n
ltb-shift base i n =
    elim (dec_lt i n) [
      | yes l ↦ lt-ltb (base + i) (base + n) (omega arith) ∙ sym (lt-ltb i n l)
      | no g ↦ le-ltb (base + i) (base + n) (omega arith) ∙ sym (le-ltb i n (omega arith))
    ]

checked-more : (base i limit : ℕ) (p : PartReq) (r : Read PartReq)
    → checked (base + limit) (r >>= λ q hs. got (more (base + i) p q) hs) ≡ conj (ltb i limit) (checked (base + limit) r)
unfolding checked conj all_below
checked-more base i limit p malformed = refl
checked-more base i limit p (got q hs) = rw (ltb-shift base i limit)

pub record Checking (b : List ℕ) (d limit n : ℕ) (c : List ℕ) (low left : ℕ) (known : Bool) : Type 0 where
  pub tail : Tail b c
  pub rest : (base : ℕ) → conj known (checked (base + limit) (read_entries (read_part d) base low left (fields c)))
      ≡ checked (base + limit) (read_entries (read_part d) base 0 n (fields b))

pub check_first : (b : List ℕ) (d limit n : ℕ) → Checking b d limit n b 0 n true
check_first b d limit n = record { tail = tail_all b; rest = λ base. conj-true _ }

pub check_done : {b : List ℕ} {d limit n low left : ℕ} {known : Bool} {c : Bor (List ℕ)} → Checking b d limit n c.now low left known → left ≡ 0
    → EntriesChecked b d limit n (Some (known, c))
unfolding checked conj all_below
check_done {d = d} {limit} {low = low} {left} {known} {c} so e =
    record {
      checks =
          λ base.
          record {
            is =
                rw (← and-true known)
                (sym (ap (λ x. conj known (checked (base + limit) x)) (entries_none (read_part d) base low left (fields c.now) e)) ∙ so.rest base);
            placed = so.tail;
          };
    }

module _ {b c : List ℕ} {d limit n low left : ℕ} {known : Bool} (so : Checking b d limit n c low left known) where
  pub check_stop : ((base : ℕ) → read_entries (read_part d) base low left (fields c) ≡ malformed) → EntriesChecked b d limit n None
  unfolding checked conj
  check_stop h = record { checks = λ base. record { is = sym (ap (λ x. conj known (checked (base + limit) x)) (h base)) ∙ so.rest base; placed = tt } }

  module _ {e : List ℕ} {i k : ℕ} (x : Index c low left i k e) where
    pub check_no_part : Skips e (read_part d (fields e)) None → EntriesChecked b d limit n None
    check_no_part was = check_stop (λ base. index_no_part x base d (skip_refused was))

    pub check_again : {end : Bor (List ℕ)} {known' : Bool} → Skips e (read_part d (fields e)) (Some end) → known' ≡ known && ltb i limit
        → Checking b d limit n end.now (i + 1) k known'
    check_again {end} {known'} was h =
        let p = skip_passed was in
        record {
          tail = tail_then so.tail (tail_then x.field.tail was.placed);
          rest =
              λ base.
              let y = checked (base + limit) (read_entries (read_part d) base (i + 1) k (fields end.now)) in
              ap (λ z. conj z y) h ∙ sym (conj-conj known (ltb i limit) y)
              ∙ ap (conj known) (sym (checked-more base i limit p.value _))
              ∙ sym (ap (λ z. conj known (checked (base + limit) z)) (index_then x base d p.is))
              ∙ so.rest base;
        }
