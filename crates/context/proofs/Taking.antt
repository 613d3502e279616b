-- What the functions on types and pieces have made, step by step: each law takes what the calls have left and gives what is ensured.
use Prim.Native.Nat.{ℕ, zero, suc, ◌+◌, ◌-◌, ◌*◌, ◌<◌, ◌≤◌}
use native.Mathlib.Omega.{arith}
use mathlib.Core.Path.{◌≡◌, refl, sym, ◌∙◌}
use mathlib.Core.Bool.{false}
use mathlib.Core.List.{List}
use mathlib.Core.Option.{Option, some, none as nothing}
use lib.ListN.{get_or}
use Rattle.part.specs.PartReq.{PartReq, all, exist, none, more, is_all}
use Rattle.part.specs.Store.{top, part, Good, Made}
use Rattle.part.proofs.Pieces.{part-0, part-2, not_all}
use Rattle.part.proofs.Equations.{never}
use Rattle.part.proofs.Making.{kept_trans}
use Rattle.part.proofs.Write.{kept_self}
use Rattle.module.specs.Module.{TypeInner, Opaque}
use Rattle.module.specs.declared.handles.TypeHandle.{TypeHandle as Handle}
use Rattle.context.specs.Remove.{each, type_to_parts, split, subtypes_of}
use Rattle.context.specs.Types.{type_word, type_kind, types_of, AllSized, split_most}
use Rattle.context.specs.Reduced.{typed, subtype_at}
use Rattle.std.specs.Prelude.{Option as Maybe, Some, None}
use Rattle.context.proofs.Types.{vector_parts, matrix_parts, struct_parts, other_parts, vector_size, matrix_size, struct_size, no_members, member_gone, member_there}

-- nothing was made: the piece was there
pub stays : {s : List ℕ} {p : PartReq} {k n : ℕ} → Good s → n < top s → part s n ≡ p → Made s s p k n
stays g h e = record { kept = kept_self g; piece = h; is = e; cost = omega arith }

-- what was made is the same, and may cost more
pub made_as : {s t : List ℕ} {p q : PartReq} {k l n : ℕ} → Made s t p k n → p ≡ q → k ≤ l → Made s t q l n
made_as m e h = record { kept = m.kept; piece = m.piece; is = m.is ∙ e; cost = omega (arith, m.cost) }

pub made_then : {s t u : List ℕ} {p q : PartReq} {k l j n m : ℕ} → Made s t p k n → Made t u q l m → k + l ≤ j → Made s u q j m
made_then a b h = record { kept = kept_trans a.kept b.kept; piece = b.piece; is = b.is; cost = omega (arith, a.cost, b.cost) }

-- the entries of `each` from k on are made, with the child c of s
pub record Listed (s t : List ℕ) (n c k r : ℕ) : Type 0 where
  pub low : k ≤ n
  pub made : Made s t (each k (n - k) (part s c)) (n - k) r

pub listed_none : {s : List ℕ} (n c : ℕ) → Good s → Listed s s n c n 2
listed_none {s} n c g =
    let z : n - n ≡ 0 = omega arith in
    record { low = omega arith; made = rw z (unfold each in stays g (omega (arith, g.base)) (part-2 s)) }

each_suc : (k l n : ℕ) (p : PartReq) → k ≤ n → l ≡ k - 1 → 0 < k → each l (n - l) p ≡ more l p (each k (n - k) p)
each_suc zero l n p h e o = absurd (omega arith)
each_suc (suc k) l n p h e o =
    let z : l ≡ k = omega arith in
    let d : n - k ≡ suc (n - suc k) = omega arith in
    rw (z, d) (unfold each in refl)

pub listed_more : {s t u : List ℕ} {n c k r m : ℕ} → c < top s → 0 < k → Listed s t n c k r
    → Made t u (more (k - 1) (part t c) (part t r)) 1 m → Listed s u n c (k - 1) m
listed_more {s} {t} {u} {n} {c} {k} {r} {m} h o a b =
    record {
      low = omega (arith, a.low);
      made = record {
        kept = kept_trans a.made.kept b.kept;
        piece = b.piece;
        is = b.is ∙ rw (a.made.kept.same c h, a.made.is) (sym (each_suc k (k - 1) n (part s c) a.low refl o));
        cost = omega (arith, a.low, a.made.cost, b.cost);
      };
    }

pub listed_all : {s t : List ℕ} {n c k r : ℕ} → k ≡ 0 → Listed s t n c k r → Made s t (each 0 n (part s c)) n r
listed_all {s} {t} {n} {c} {k} {r} e a = let z : n - 0 ≡ n = omega arith in rw z at (rw e at a.made)

-- the parts of a type, by its kind
module _ {s t : List ℕ} (table : List ℕ) (h : ℕ) {k r : ℕ} (S : AllSized (types_of table)) (e : k ≡ type_kind table h) where
  pub vector_made : {n : ℕ} → k ≡ 1 → n ≡ type_word table h 1 → Made s t (each 0 n (part s 0)) n r
      → Made s t (type_to_parts (get_or (types_of table) h Opaque)) split_most r
  vector_made f w m = made_as m (rw (part-0, w) (vector_parts table h e f)) (omega (arith, vector_size table h S e f))

  pub struct_made : {n : ℕ} → k ≡ 6 → n ≡ type_word table h 1 → Made s t (each 0 n (part s 0)) n r
      → Made s t (type_to_parts (get_or (types_of table) h Opaque)) split_most r
  struct_made f w m = made_as m (rw (part-0, w) (struct_parts table h e f)) (omega (arith, struct_size table h S e f))

  pub matrix_made : {u : List ℕ} {n m c : ℕ} → k ≡ 2 → n ≡ type_word table h 1 → m ≡ type_word table h 2 → Made s u (each 0 m (part s 0)) m c
      → Made u t (each 0 n (part u c)) n r → Made s t (type_to_parts (get_or (types_of table) h Opaque)) split_most r
  matrix_made {n = n} {m = m} f w v a b =
      let z = matrix_size table h S e f in
      made_as {k = m + n} (made_then a b (omega arith)) (rw (a.is, part-0, w, v) (matrix_parts table h e f)) (omega arith)

pub other_made : {s : List ℕ} (table : List ℕ) (h : ℕ) {k : ℕ} → Good s → k ≡ type_kind table h → (k ≡ 1 → ⊥) → (k ≡ 2 → ⊥) → (k ≡ 6 → ⊥)
    → Made s s (type_to_parts (get_or (types_of table) h Opaque)) split_most 0
other_made {s} table h g e a b c = stays g (omega (arith, g.base)) (part-0 s ∙ other_parts table h e a b c)

not_all_split : (types : List TypeInner) (t : Option ℕ) (p : PartReq) → is_all p ≡ false → p ≡ split types t p
unfolding split
not_all_split types nothing p h = refl
not_all_split types (some t) all h = never (sym h)
not_all_split types (some t) exist h = refl
not_all_split types (some t) none h = refl
not_all_split types (some t) (more i p r) h = refl

-- all split, where it is all and its type is known
module _ (types : List TypeInner) {s : List ℕ} (x : Maybe Handle) where
  pub split-unknown : {p : ℕ} → x ≡ None → Good s → p < top s → Made s s (split types (typed x) (part s p)) split_most p
  split-unknown e g h = stays g h (rw e (unfold split in refl))

  pub split-known : (p : ℕ) → 0 < p → Good s → p < top s → Made s s (split types (typed x) (part s p)) split_most p
  split-known p o g h = stays g h (not_all_split types (typed x) (part s p) (not_all s p (omega arith)))

  pub split-all : {t : List ℕ} {p r : ℕ} {h : Handle} → x ≡ Some h → p ≡ 0 → Made s t (type_to_parts (get_or types h.0 Opaque)) split_most r
      → Made s t (split types (typed x) (part s p)) split_most r
  split-all e z m = rw (e, z, part-0) (unfold split in m)

-- the type of a subpart, by what is known of the whole
module _ (table : List ℕ) (i : ℕ) {x : Maybe Handle} where
  pub no_subtype : x ≡ None → some nothing ≡ subtype_at (subtypes_of (types_of table) (typed x)) i
  no_subtype e = rw e (unfold subtypes_of in refl)

  module _ {h : Handle} {k : ℕ} (e : x ≡ Some h) (f : k ≡ type_kind table h.0) where
    pub not_struct_subtype : (k ≡ 6 → ⊥) → some nothing ≡ subtype_at (subtypes_of (types_of table) (typed x)) i
    not_struct_subtype n = rw e (no_members table h.0 i f n)

    pub gone_subtype : {n : ℕ} → k ≡ 6 → n ≡ type_word table h.0 1 → n ≤ i → nothing ≡ subtype_at (subtypes_of (types_of table) (typed x)) i
    gone_subtype g w l = rw e (member_gone table h.0 f g (omega arith))

    pub member_subtype : {n m : ℕ} → k ≡ 6 → n ≡ type_word table h.0 1 → i < n → m ≡ type_word table h.0 (2 + 2 * i)
        → some (some m) ≡ subtype_at (subtypes_of (types_of table) (typed x)) i
    member_subtype g w l v = rw (e, v) (member_there table h.0 f g (omega arith))
