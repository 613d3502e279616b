-- A table whose word k of the row h is the field k of the type h stands for the types: a type of the sizes that a file may have looks
-- no further than its row.
use mathlib.Core.Path.{◌≡◌, refl, ap, ◌∙◌, subst}
use mathlib.Core.List.{List}
use Prim.Native.Nat.{ℕ, zero, suc, ◌+◌, ◌*◌, ◌/◌, ◌%◌, ◌<◌, ◌≤◌}
use native.Mathlib.Omega.{arith}
use native.Mathlib.Decide.{ℕ_discrete}
use lib.ListN.{length, get_or, set, length-set}
use lib.Seq.{get_or-set_same, get_or-set_other}
use Rattle.field.specs.Limits.{max_members}
use Rattle.module.specs.Module.{Struct, Opaque}
use Rattle.module.specs.Decode.{tab, member_of, type_inner_of, type_of}
use Rattle.module.specs.Tables.{word, head_at, type_body, module_of}
use Rattle.module.proofs.Tab.{length-tab, get_d_tab, tab-same}
use Rattle.context.specs.Types.{type_words, type_word, type_count, row_type, types_of, Sized, AllSized}

-- the word k of the table is the field that it stands for
pub record Filled (bytes t table : List ℕ) (n i : ℕ) : Type 0 where
  pub long : length table ≡ n
  pub upto : i ≤ n
  pub is : (k : ℕ) → k < i → get_or table k 0 ≡ get_or (type_body bytes t (k / type_words)) (k % type_words) 0

-- operands that agree within a row give the same type
members_agree : (o p : ℕ → ℕ) (n : ℕ) → ((j : ℕ) → 1 + j < type_words → o j ≡ p j) → n ≤ max_members → tab n (member_of o) ≡ tab n (member_of p)
unfolding member_of
members_agree o p n h l =
    tab-same n (member_of o) (member_of p) (λ i k. rw (h (1 + 2 * i) (omega arith), h (2 + 2 * i) (omega arith)))

agree : (kind : ℕ) (o p : ℕ → ℕ) → ((j : ℕ) → 1 + j < type_words → o j ≡ p j) → Sized (type_inner_of kind p) → type_inner_of kind o ≡ type_inner_of kind p
unfolding type_inner_of
agree zero o p h s = refl
agree (suc zero) o p h s = rw (h 0 (omega arith))
agree (suc (suc zero)) o p h s = rw (h 0 (omega arith), h 1 (omega arith))
agree (suc (suc (suc zero))) o p h s = refl
agree (suc (suc (suc (suc zero)))) o p h s = rw (h 0 (omega arith))
agree (suc (suc (suc (suc (suc zero))))) o p h s = rw (h 0 (omega arith), h 1 (omega arith))
agree (suc (suc (suc (suc (suc (suc zero)))))) o p h s =
    let l : p 0 ≤ max_members = rw length-tab at s in
    rw (h 0 (omega arith)) (ap Struct (members_agree o p (p 0) h l))
agree (suc (suc (suc (suc (suc (suc (suc zero))))))) o p h s = rw (h 0 (omega arith))
agree (suc (suc (suc (suc (suc (suc (suc (suc zero)))))))) o p h s = refl
agree (suc (suc (suc (suc (suc (suc (suc (suc (suc kind))))))))) o p h s = refl

module _ (bytes t table : List ℕ) (f : Filled bytes t table (length table) (length table)) (e : length table ≡ type_words * length (module_of bytes t).types) where
  row_word : (h k : ℕ) → h < length (module_of bytes t).types → k < type_words → type_word table h k ≡ get_or (type_body bytes t h) k 0
  row_word h k l m =
      let a : (type_words * h + k) / type_words ≡ h = omega arith in
      let b : (type_words * h + k) % type_words ≡ k = omega arith in
      f.is (type_words * h + k) (omega arith)
      ∙ (ap (λ (x : ℕ). get_or (type_body bytes t x) ((type_words * h + k) % type_words) 0) a ∙ ap (λ (x : ℕ). get_or (type_body bytes t h) x 0) b)

  row_type-is : (h : ℕ) → h < length (module_of bytes t).types → Sized (type_of (type_body bytes t h)) → row_type table h ≡ type_of (type_body bytes t h)
  unfolding type_of
  row_type-is h l s =
      ap (λ (k : ℕ). type_inner_of k (λ j. type_word table h (1 + j))) (row_word h 0 l (omega arith))
      ∙ agree (get_or (type_body bytes t h) 0 0) (λ j. type_word table h (1 + j)) (λ j. get_or (type_body bytes t h) (1 + j) 0)
      (λ j m. row_word h (1 + j) l m) s

  types-of : AllSized (module_of bytes t).types → types_of table ≡ (module_of bytes t).types
  unfolding types_of module_of
  types-of s =
      let n : length (module_of bytes t).types ≡ word t head_at = length-tab (word t head_at) _ in
      let c : type_count table ≡ word t head_at = omega arith in
      ap (λ (k : ℕ). tab k (row_type table)) c
      ∙ tab-same (word t head_at) (row_type table) (λ i. type_of (type_body bytes t i))
      (λ i l.
      row_type-is i (omega arith)
      (subst Sized (get_d_tab (word t head_at) (λ j. type_of (type_body bytes t j)) i Opaque l) (s.each i)))

-- before the first word, one word more, and all of them
pub fill_none : (bytes t table : List ℕ) → Filled bytes t table (length table) 0
fill_none bytes t table = record { long = refl; upto = omega arith; is = λ k l. absurd (omega arith) }

fill_word : (bytes t table : List ℕ) (n i v k : ℕ) → Filled bytes t table n i → i < n → v ≡ get_or (type_body bytes t (i / type_words)) (i % type_words) 0 → k < i + 1 → get_or (set table i v) k 0 ≡ get_or (type_body bytes t (k / type_words)) (k % type_words) 0
fill_word bytes t table n i v k f l e m =
    elim (ℕ_discrete k i) [
      | yes q ↦
          let r : i < length table = omega (arith, f.long) in
          rw q (get_or-set_same table i v 0 r ∙ e)
      | no q ↦
          get_or-set_other table i k v 0 q ∙ f.is k (next_less k i m q)
    ]
  where
    next_less : (a b : ℕ) → a < b + 1 → (a ≡ b → ⊥) → a < b
    next_less a b h g = omega arith

pub fill_next : (bytes t table : List ℕ) (n i v : ℕ) → Filled bytes t table n i → i < n → v ≡ get_or (type_body bytes t (i / type_words)) (i % type_words) 0 → Filled bytes t (set table i v) n (i + 1)
fill_next bytes t table n i v f l e =
    record {
      long = length-set table i v ∙ f.long;
      upto = omega arith;
      is = λ k m. fill_word bytes t table n i v k f l e m;
    }

pub fill_all : (bytes t table : List ℕ) (n i : ℕ) → Filled bytes t table n i → n ≤ i → n ≡ type_words * length (module_of bytes t).types → AllSized (module_of bytes t).types → types_of table ≡ (module_of bytes t).types
fill_all bytes t table n i f l e s =
    types-of bytes t table
    (record { long = refl; upto = omega arith; is = λ k m. f.is k (omega (arith, f.long, f.upto)) })
    (f.long ∙ e) s
