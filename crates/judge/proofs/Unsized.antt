-- `holds_unsized` is one step over its own answers for lower types: of the type itself, or, but for a pointer, of one of those that it is
-- made of. So a table of the lower types gives the next entry.
use Prim.Native.Nat.{ℕ, zero, suc, ◌+◌, ◌<◌, ◌≤◌}
use native.Mathlib.Omega.{arith}
use native.Mathlib.Decide.{ℕ_discrete}
use mathlib.Core.Path.{◌≡◌, refl, sym, ap, ap₂, ◌∙◌}
use mathlib.Core.Bool.{Bool, true, false, not, ◌&&◌, ◌||◌, and-false, or-false}
use mathlib.Core.List.{List, [], ◌∷◌, map}
use lib.Dec.{eqb}
use lib.ListN.{length, get_or}
use borrow.Author.Count.{below_more}
use Rattle.module.specs.Module.{Member, TypeInner, Scalar, Vector, Matrix, Atomic, Pointer, Array, Struct, BindingArray, Opaque}
use Rattle.module.specs.Knot.{knot, below}
use Rattle.module.specs.Decode.{type_inner_of}
use Rattle.module.proofs.Knot.{knot-is, below-lt}
use Rattle.context.specs.Types.{type_word, type_count, types_of}
use Rattle.bindings.proofs.Returning.{types_long}
use Rattle.clearance.specs.Scope.{Scope, inner, kind, bases}
use Rattle.clearance.specs.Judged.{every, holds_in, holds_unsized, pointee_holds, holds_either}
use Rattle.judge.specs.Alike.{Lower}
use Rattle.judge.specs.Marked.{marked}
use Rattle.judge.specs.Unsized.{UnsizedTable}
use Rattle.judge.proofs.Marked.{Marks}
use Rattle.judge.proofs.TypeRows.{number, row_is}

every-agree : (p q : ℕ → Bool) (xs : List ℕ) → ((i : ℕ) → i < length xs → p (get_or xs i 0) ≡ q (get_or xs i 0)) → every p xs ≡ every q xs
unfolding every
every-agree p q [] f = refl
every-agree p q (x ∷ xs) f = rw (f 0 (omega arith), every-agree p q xs (λ i l. f (suc i) (omega arith)))

every_true : (p : ℕ → Bool) (xs : List ℕ) → ((i : ℕ) → i < length xs → p (get_or xs i 0) ≡ true) → every p xs ≡ true
unfolding every
every_true p [] f = refl
every_true p (x ∷ xs) f = rw (f 0 (omega arith)) (every_true p xs (λ i l. f (suc i) (omega arith)))

every-false : (p : ℕ → Bool) (xs : List ℕ) (i : ℕ) → i < length xs → p (get_or xs i 0) ≡ false → every p xs ≡ false
unfolding every
every-false p [] i l h = absurd (omega arith)
every-false p (x ∷ xs) zero l h = rw h
every-false p (x ∷ xs) (suc i) l h = rw (every-false p xs i (omega arith) h) (and-false (p x))

every-member : (ms : List Member) → every (λ m. true) ms ≡ true
unfolding every
every-member [] = refl
every-member (m ∷ ms) = every-member ms

every-type : (p : ℕ → Bool) (ms : List Member) → every (λ m. p m.type) ms ≡ every p (map (λ m. m.type) ms)
unfolding every
every-type p [] = refl
every-type p (m ∷ ms) = rw (every-type p ms)

-- whether one of the types is held
abbrev some : (ℕ → Bool) → List ℕ → Bool
some holds xs = not (every (λ b. not (holds b)) xs)

-- the type itself, with nothing below it
abbrev itself : TypeInner → Bool
itself x = holds_in (λ b. false) x

only_one : (a b : Bool) → a || b ≡ (a || false) || not (not b && true)
only_one true b = refl
only_one false true = refl
only_one false false = refl

holds_parts : (holds : ℕ → Bool) (x : TypeInner) → (number x ≡ 4 → ⊥) → holds_in holds x ≡ itself x || some holds (bases x)
unfolding holds_in bases every kind
holds_parts holds Scalar n = refl
holds_parts holds (Vector size) n = refl
holds_parts holds (Matrix columns rows) n = refl
holds_parts holds Atomic n = refl
holds_parts holds (Pointer base) n = absurd (n refl)
holds_parts holds (Array base count) n = only_one (eqb count 0) (holds base)
holds_parts holds (Struct ms) n = rw (every-member ms, every-type (λ b. not (holds b)) ms)
holds_parts holds (BindingArray base) n = refl
holds_parts holds Opaque n = refl

pointer_holds : (holds : ℕ → Bool) (x : TypeInner) → number x ≡ 4 → holds_in holds x ≡ false
unfolding holds_in kind
pointer_holds holds Scalar h = refl
pointer_holds holds (Vector size) h = refl
pointer_holds holds (Matrix columns rows) h = refl
pointer_holds holds Atomic h = refl
pointer_holds holds (Pointer base) h = refl
pointer_holds holds (Array base count) h = absurd (omega arith)
pointer_holds holds (Struct ms) h = absurd (omega arith)
pointer_holds holds (BindingArray base) h = absurd (omega arith)
pointer_holds holds Opaque h = refl

holds_agree : (holds other : ℕ → Bool) (x : TypeInner) → ((i : ℕ) → i < length (bases x) → holds (get_or (bases x) i 0) ≡ other (get_or (bases x) i 0)) → holds_in holds x ≡ holds_in other x
holds_agree holds other x f =
    elim (ℕ_discrete (number x) 4) [
      | yes h ↦ pointer_holds holds x h ∙ sym (pointer_holds other x h)
      | no n ↦
          holds_parts holds x n
          ∙ (ap (λ (b : Bool). itself x || not b) (every-agree (λ b. not (holds b)) (λ b. not (other b)) (bases x) (λ i l. ap not (f i l)))
          ∙ sym (holds_parts other x n))
    ]

-- `holds_unsized`, which looks at a scope's types alone
unfoldable pub holds_among : List TypeInner → ℕ → Bool
holds_among types t = knot (λ holds h. holds_in holds (get_or types h Opaque)) false t

holds-among : (S : Scope) (t : ℕ) → holds_among S.program.types t ≡ holds_unsized S t
unfolding holds_among holds_unsized inner
holds-among S t = refl

module _ (types : List TypeInner) (L : Lower types) where
  holds_is : (t : ℕ) → holds_among types t ≡ holds_in (holds_among types) (get_or types t Opaque)
  unfolding holds_among
  holds_is t =
      knot-is (λ holds h. holds_in holds (get_or types h Opaque)) false t
      ∙ holds_agree (below (holds_among types) false t) (holds_among types) (get_or types t Opaque)
      (λ i l. below-lt (holds_among types) false t (get_or (bases (get_or types t Opaque)) i 0) (L.each t i l))

  pub entry_is : (table : List Bool) {n : ℕ} (r : Bool) → Marks (holds_among types) table n → r ≡ holds_in (marked table) (get_or types n Opaque) → r ≡ holds_among types n
  entry_is table {n} r M e =
      e ∙ (holds_agree (marked table) (holds_among types) (get_or types n Opaque) (λ i l. M.each (get_or (bases (get_or types n Opaque)) i 0) (L.each n i l)) ∙ sym (holds_is n))

-- the type itself, by its kind
itself-plain : (x : TypeInner) → (number x ≡ 5 → ⊥) → eqb (number x) 7 ≡ itself x
unfolding kind holds_in
itself-plain Scalar n = refl
itself-plain (Vector size) n = refl
itself-plain (Matrix columns rows) n = refl
itself-plain Atomic n = refl
itself-plain (Pointer base) n = refl
itself-plain (Array base count) n = absurd (n refl)
itself-plain (Struct ms) n = rw (every-member ms)
itself-plain (BindingArray base) n = refl
itself-plain Opaque n = refl

module _ (rows : List ℕ) (t : ℕ) {k : ℕ} (e : k ≡ number (get_or (types_of rows) t Opaque)) where
  pub itself-array : {r : ℕ} → k ≡ 5 → r ≡ type_word rows t 2 → eqb r 0 ≡ itself (get_or (types_of rows) t Opaque)
  itself-array {r} h w = sym (rw (row_is rows t 5 (omega arith) e h) (unfold type_inner_of holds_in in rw (← w) (or-false (eqb r 0))))

  pub itself-other : (k ≡ 5 → ⊥) → eqb k 7 ≡ itself (get_or (types_of rows) t Opaque)
  itself-other n = rw e (itself-plain (get_or (types_of rows) t Opaque) (λ q. n (e ∙ q)))

-- the table marks none of the first i types
pub record Unmarked (table : List Bool) (xs : List ℕ) (i : ℕ) : Type 0 where
  pub each : (k : ℕ) → k < i → marked table (get_or xs k 0) ≡ false

module _ (table : List Bool) (xs : List ℕ) where
  pub unmarked_none : Unmarked table xs 0
  unmarked_none = record { each = λ k l. absurd (omega arith) }

  -- the entry u of the type that stands at i
  module _ {i x : ℕ} {u : Bool} (l : i < length xs) (a : x ≡ get_or xs i 0) (e : u ≡ marked table x) where
    entry : u ≡ marked table (get_or xs i 0)
    entry = e ∙ ap (marked table) a

    pub some-found : u ≡ true → true ≡ some (marked table) xs
    some-found h = sym (ap not (every-false (λ b. not (marked table b)) xs i l (ap not (sym entry ∙ h))))

    pub unmarked_next : u ≡ false → Unmarked table xs i → Unmarked table xs (i + 1)
    unmarked_next n U =
        record { each = below_more (λ (k : ℕ). marked table (get_or xs k 0) ≡ false) i U.each (sym entry ∙ n) }

  pub unmarked_all : {n i : ℕ} → n ≡ length xs → n ≤ i → Unmarked table xs i → false ≡ some (marked table) xs
  unmarked_all e l U = sym (ap not (every_true (λ b. not (marked table b)) xs (λ k h. ap not (U.each k (omega arith)))))

-- an entry: a pointer's, and by both answers
pub entry_pointer : (table : List Bool) (x : TypeInner) {k : ℕ} → k ≡ number x → k ≡ 4 → false ≡ holds_in (marked table) x
entry_pointer table x e h = sym (pointer_holds (marked table) x (sym e ∙ h))

module _ (table : List Bool) (x : TypeInner) {k : ℕ} (q : k ≡ number x) (n : k ≡ 4 → ⊥) {a : Bool} (e : a ≡ itself x) where
  abbrev parts : holds_in (marked table) x ≡ itself x || some (marked table) (bases x)
  parts = holds_parts (marked table) x (λ z. n (q ∙ z))

  pub entry_itself : a ≡ true → true ≡ holds_in (marked table) x
  entry_itself h = sym (parts ∙ rw (← e, h))

  pub entry_some : {b : Bool} → a ≡ false → b ≡ some (marked table) (bases x) → b ≡ holds_in (marked table) x
  entry_some h f = sym (parts ∙ rw (← e, h, ← f))

-- the whole table
pub filled : (rows : List ℕ) (table : List Bool) {n k : ℕ} → n ≡ type_count rows → length table ≡ n → n ≤ k → Marks (holds_among (types_of rows)) table k → UnsizedTable (types_of rows) table
filled rows table {n} {k} e f l M =
    record {
      long = f ∙ (e ∙ sym (types_long rows));
      is = λ S s t h. M.each t (omega (arith, types_long rows)) ∙ (rw (← s) (holds-among S t));
    }

-- a type or its pointee
plain_pointee : (holds : ℕ → Bool) (x : TypeInner) → (number x ≡ 4 → ⊥) → pointee_holds holds x ≡ false
unfolding pointee_holds kind
plain_pointee holds Scalar n = refl
plain_pointee holds (Vector size) n = refl
plain_pointee holds (Matrix columns rows) n = refl
plain_pointee holds Atomic n = refl
plain_pointee holds (Pointer base) n = absurd (n refl)
plain_pointee holds (Array base count) n = refl
plain_pointee holds (Struct ms) n = refl
plain_pointee holds (BindingArray base) n = refl
plain_pointee holds Opaque n = refl

pointee_agree : (holds other : ℕ → Bool) (x : TypeInner) → ((i : ℕ) → i < length (bases x) → holds (get_or (bases x) i 0) ≡ other (get_or (bases x) i 0)) →
    pointee_holds holds x ≡ pointee_holds other x
unfolding pointee_holds bases
pointee_agree holds other Scalar f = refl
pointee_agree holds other (Vector size) f = refl
pointee_agree holds other (Matrix columns rows) f = refl
pointee_agree holds other Atomic f = refl
pointee_agree holds other (Pointer base) f = f 0 (omega arith)
pointee_agree holds other (Array base count) f = refl
pointee_agree holds other (Struct ms) f = refl
pointee_agree holds other (BindingArray base) f = refl
pointee_agree holds other Opaque f = refl

module _ (rows : List ℕ) (table : List Bool) (t : ℕ) {w : Bool} (entry : w ≡ marked table t) where
  abbrev Either : Bool → Type 0
  Either r = r ≡ marked table t || pointee_holds (marked table) (get_or (types_of rows) t Opaque)

  pub either_itself : w ≡ true → Either true
  either_itself h = sym (rw (← entry, h))

  module _ (n : w ≡ false) {k : ℕ} (e : k ≡ number (get_or (types_of rows) t Opaque)) where
    unmarked : marked table t ≡ false
    unmarked = sym entry ∙ n

    pub either_pointee : {b : ℕ} {u : Bool} → k ≡ 4 → b ≡ type_word rows t 1 → u ≡ marked table b → Either u
    either_pointee {b} h q v =
        sym (rw (unmarked, row_is rows t 4 (omega arith) e h) (unfold type_inner_of pointee_holds in rw (v, q)))

    pub either_none : (k ≡ 4 → ⊥) → Either false
    either_none h = sym (rw (unmarked, plain_pointee (marked table) (get_or (types_of rows) t Opaque) (λ z. h (e ∙ z))))

-- by the table, where types are made of lower ones
pub held_either : (types : List ℕ) (table : List Bool) → Lower (types_of types) → UnsizedTable (types_of types) table → (S : Scope) → S.program.types ≡ types_of types → (t : ℕ) → t < length (types_of types) →
    marked table t || pointee_holds (marked table) (get_or (types_of types) t Opaque) ≡ holds_either S t
unfolding holds_either inner
held_either types table L U S s t l =
    ap₂ (λ (a b : Bool). a || b) (U.is S s t l)
    (pointee_agree (marked table) (holds_unsized S) (get_or (types_of types) t Opaque)
    (λ i m. U.is S s (get_or (bases (get_or (types_of types) t Opaque)) i 0) (omega (arith, L.each t i m)))
    ∙ ap (λ (ts : List TypeInner). pointee_holds (holds_unsized S) (get_or ts t Opaque)) (sym s))
