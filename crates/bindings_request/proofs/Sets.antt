-- A list of bindings read from the last to the first: the set of those behind what is left, which ascend to at most 63.
use Prim.Native.Nat.{ℕ, ◌≤◌, ◌<◌}
use native.Mathlib.Omega.{arith}
use mathlib.Core.Path.{◌≡◌, refl, sym, ◌∙◌}
use mathlib.Core.Bool.{Bool, true, false, ◌&&◌}
use mathlib.Core.List.{List, [], ◌∷◌, ◌++◌}
use lib.Bits.{bit_or}
use lib.Dec.{ltb}
use lib.ListN.{length}
use borrow.Author.Tests.{lt-ltb, le-ltb}
use Rattle.std.proofs.lemmas.List.{append_assoc, append-nil}
use Rattle.std.specs.List.{push}
use Rattle.module.specs.Operands.{bindings}
use Rattle.std.proofs.Math.Option.{some}
use Rattle.bindings.specs.Bindings.{own_binding, set_of}
use Rattle.bindings.specs.ContextBindings.{binding_after, are_bindings}

and-false : (x : Bool) → x && false ≡ false
and-false true = refl
and-false false = refl

not_behind : (front behind : List ℕ) → are_bindings behind ≡ false → are_bindings (front ++ behind) ≡ false
unfolding are_bindings
not_behind [] behind h = h
not_behind (c ∷ front) behind h = rw (not_behind front behind h) (and-false (ltb c (binding_after (front ++ behind))))

pub record Reading (bs front : List ℕ) (after s : ℕ) : Type 0 where
  pub behind : List ℕ
  pub whole : bs ≡ front ++ behind
  pub are : are_bindings behind ≡ true
  pub is : s ≡ set_of behind
  pub next : after ≡ binding_after behind
  pub few : after ≤ bindings

pub reading_none : {bs front : List ℕ} → front ≡ bs → Reading bs front bindings 0
unfolding are_bindings set_of binding_after
reading_none {bs} e = record { behind = []; whole = sym (rw e (append-nil bs)); are = refl; is = refl; next = refl; few = omega arith }

module _ {bs front : List ℕ} {after s : ℕ} (R : Reading bs front after s) (left : List ℕ) (x : ℕ) (step : front ≡ push left x) where
  grown : bs ≡ left ++ (x ∷ R.behind)
  grown = R.whole ∙ rw step (append_assoc left (x ∷ []) R.behind)

  pub reading_malformed : {b : ℕ} → b ≡ x → after ≤ b → are_bindings bs ≡ false
  unfolding are_bindings
  reading_malformed e l = rw grown (not_behind left (x ∷ R.behind) (rw (← R.next, le-ltb x after (rw e at l))))

  pub reading_more : {b own : ℕ} → b ≡ x → b < after → own ≡ own_binding (some b) → Reading bs left b (bit_or own s)
  unfolding are_bindings set_of binding_after own_binding
  reading_more {b} e l o =
      record {
        behind = x ∷ R.behind;
        whole = grown;
        are = rw (← e, ← R.next, lt-ltb b after l) R.are;
        is = rw (← e, o, R.is);
        next = e;
        few = omega (arith, R.few);
      }

pub reading_all : {bs front : List ℕ} {after s : ℕ} → Reading bs front after s → length front ≡ 0 → (are_bindings bs ≡ true) × (s ≡ set_of bs)
reading_all {front = []} R h = rw R.whole (R.are, R.is)
reading_all {front = c ∷ front} R h = absurd (omega arith)
