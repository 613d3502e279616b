-- Marks that are read: those before the k-th stand in their place, and what is left gives the whole.
use Prim.Native.Nat.{ℕ, suc, ◌+◌, ◌-◌, ◌*◌, ◌≤◌, ◌<◌}
use native.Mathlib.Omega.{arith}
use mathlib.Core.Path.{◌≡◌, refl, sym, ap, ◌∙◌}
use mathlib.Core.List.{List, [], ◌∷◌, ◌++◌, append_assoc, append-nil}
use borrow.Author.Tests.{le-leb, lt-leb}
use lib.ListN.{length, take, set, length-set}
use lib.Seq.{take-length}
use Rattle.std.specs.Prelude.{Some, None}
use Rattle.std.specs.Borrow.{Bor}
use Rattle.std.proofs.lemmas.List.{take_more_set}
use Rattle.request.specs.Fields.{fields, Read, malformed, got, ◌>>=◌}
use Rattle.request.specs.Answers.{Tail, Field}
use Rattle.request.proofs.Bytes.{no_field, tail_all, tail_then}
use Rattle.pruner.specs.Form.{read_marks}
use Rattle.pruner.specs.Reading.{MarksWereRead}

-- the first xs, and then those that are left
abbrev pub after : {A : Type 0} → List A → Read (List A) → Read (List A)
after xs malformed = malformed
after xs (got bs gs) = got (xs ++ bs) gs

-- the first k of n marks were read, and the bytes `next` are left
pub record Marking (b : List ℕ) (n : ℕ) (marks : List ℕ) (k : ℕ) (next : List ℕ) : Type 0 where
  pub few : k ≤ n
  pub long : length marks ≡ n
  pub left_is : 2 * k + length next ≡ length b
  pub tail : Tail b next
  pub rest : read_marks n (fields b) ≡ after (take k marks) (read_marks (n - k) (fields next))

pub after_none : {A : Type 0} (x : Read (List A)) → x ≡ after [] x
after_none malformed = refl
after_none (got bs gs) = refl

pub after_more : {A : Type 0} (xs : List A) (b : A) (x : Read (List A)) → after xs (x >>= λ bs gs. got (b ∷ bs) gs) ≡ after (xs ++ (b ∷ [])) x
after_more xs b malformed = refl
after_more xs b (got bs gs) = rw (append_assoc xs (b ∷ []) bs) refl

pub marking_first : (b marks : List ℕ) → Marking b (length marks) marks 0 b
marking_first b marks =
    let same : length marks - 0 ≡ length marks = omega arith in
    record { few = omega arith; long = refl; left_is = omega arith; tail = tail_all b; rest = rw same (after_none (read_marks (length marks) (fields b))) }

module _ {b : List ℕ} {n : ℕ} {marks : List ℕ} {k : ℕ} {next : List ℕ} (so : Marking b n marks k next) where
  module _ (l : k < n) where
    left : n - k ≡ suc (n - (k + 1))
    left = omega arith

    -- what is refused has the element of this turn back in its place
    pub marking_ends : {ms : List ℕ} → length ms ≡ length marks → length next < 2 → MarksWereRead b ms None
    unfolding read_marks
    marking_ends same h = record { are = rw (same, so.long) (so.rest ∙ rw (left, no_field next h) refl) }

    module _ {x : ℕ} {c : List ℕ} (x-is : Field next x c) where
      pub marking_other : {ms : List ℕ} → length ms ≡ length marks → 1 < x → MarksWereRead b ms None
      unfolding read_marks
      marking_other same o = record { are = rw (same, so.long) (so.rest ∙ rw (left, x-is.is, lt-leb x 1 o) refl) }

      one_mark : x ≤ 1 → after (take k marks) (read_marks (n - k) (fields next)) ≡ after (take k marks) (read_marks (n - (k + 1)) (fields c) >>= λ bs gs. got (x ∷ bs) gs)
      unfolding read_marks
      one_mark o = rw (left, x-is.is, le-leb x 1 o) refl

      pub marking_more : x ≤ 1 → Marking b n (set marks k x) (k + 1) c
      marking_more o =
          let room : k < length marks = omega (arith, so.long) in
          record {
            few = omega arith;
            long = length-set marks k x ∙ so.long;
            left_is = omega (arith, so.left_is, x-is.left);
            tail = tail_then so.tail x-is.tail;
            rest = so.rest ∙ one_mark o ∙ rw (take_more_set marks k x room) (after_more (take k marks) x (read_marks (n - (k + 1)) (fields c)));
          }

  pub marking_done : {c : Bor (List ℕ)} → c.now ≡ next → n ≤ k → MarksWereRead b marks (Some c)
  unfolding read_marks
  marking_done e h =
      let same : k ≡ n = omega (arith, so.few) in
      let none_left : n - k ≡ 0 = omega arith in
      let all : take k marks ≡ marks = ap (λ (j : ℕ). take j marks) (same ∙ sym so.long) ∙ take-length marks in
      record { are = rw (so.long, e) (so.rest ∙ rw (none_left, all, append-nil marks) refl, omega (arith, so.left_is), so.tail) }
