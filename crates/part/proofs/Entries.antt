-- What `contains_entry` finds along a map, and what `join_entry` makes: the sum with a map of one entry, by where that entry stands.
use Prim.Native.Nat.{ℕ, zero, suc, ◌+◌, ◌<◌, ◌≤◌}
use native.Mathlib.Omega.{arith}
use mathlib.Core.Path.{◌≡◌, refl, sym, ap, ◌∙◌}
use mathlib.Core.Bool.{Bool, true, false, not, ◌&&◌}
use mathlib.Core.Logic.{◌⊎◌, inl, inr}
use mathlib.Core.List.{List}
use lib.Dec.{eqb}
use Rattle.part.specs.PartReq.{none, more, contains, add, entries, is_exist}
use Rattle.part.specs.declared.store.Cell.{Cell}
use Rattle.part.specs.Store.{top, part, Good, Room, Made, Seen}
use Rattle.part.proofs.Equations.{all_contains, exist-contains, none-contains, contains-none, contains-lt, contains_gt, contains-eq, all_add, exist-add, none-add, add_none, add-lt, add_gt, add-eq}
use Rattle.part.proofs.Sum.{add-contained}
use Rattle.part.proofs.Sizes.{sum_small}
use Rattle.part.proofs.Pieces.{part-0, part-1, part-2, not_exist}
use Rattle.part.proofs.Write.{stay, holds_on}
use Rattle.part.proofs.Making.{JoinAsked, Joined, RemakeAsked, kept_trans, then, then_then, as_made}

-- where `contains_entry` stands along the map
pub record Passing (s : List ℕ) (m i p n : ℕ) : Type 0 where
  pub inside : n < top s
  pub is : contains (part s n) (more i (part s p) none) ≡ contains (part s m) (more i (part s p) none)

and_not : (b : Bool) → b && false ≡ false
and_not true = refl
and_not false = refl

and-true : (b : Bool) → b && true ≡ b
and-true true = refl
and-true false = refl

module _ {s : List ℕ} {m i p : ℕ} where
  pub passed_end : (n : ℕ) → n ≤ 2 → Passing s m i p n → eqb n 0 ≡ contains (part s m) (more i (part s p) none)
  passed_end n h g = sym (go n h) ∙ g.is
    where
      go : (k : ℕ) → k ≤ 2 → contains (part s k) (more i (part s p) none) ≡ eqb k 0
      go zero h = rw part-0 (all_contains _)
      go (suc zero) h = rw part-1 (exist-contains _)
      go (suc (suc zero)) h = rw part-2 (none-contains _ _ _)
      go (suc (suc (suc k))) h = absurd (omega arith)

  -- an entry below i is passed over
  pub passed_after : (n : ℕ) (x : Cell) → Seen s n x.index x.child x.rest → x.index < i → Passing s m i p n → Passing s m i p x.rest
  passed_after n x seen l g =
      record { inside = omega (arith, g.inside, seen.rest_low); is = sym (ap (λ q. contains q (more i (part s p) none)) seen.is ∙ contains-lt x.index i _ _ _ _ l) ∙ g.is }

  -- at the first entry that is not
  module _ {x : Cell} (at : (n : ℕ) × Seen s n x.index x.child x.rest × Passing s m i p n × (i ≤ x.index)) where
    pub passed_in : x.child < top s
    passed_in = omega (arith, at.2.inside, at.1.child_low)

    gives : x.index ≡ i → contains (part s at.0) (more i (part s p) none) ≡ contains (part s x.child) (part s p) && not (is_exist (part s x.rest))
    gives e = rw (at.1.is, contains-eq x.index i _ _ _ _ e, contains-none (part s x.rest))

    pub passed_bare : (i < x.index) ⊎ ((x.index ≤ i) × (x.rest ≡ 1)) → false ≡ contains (part s m) (more i (part s p) none)
    passed_bare (inl h) = sym (rw at.1.is (contains_gt x.index i _ _ _ _ h)) ∙ at.2.is
    passed_bare (inr h) =
        let bare : is_exist (part s x.rest) ≡ true = rw (h.1, part-1) in
        sym (gives (omega (arith, at.3, h.0)) ∙ ap (λ b. contains (part s x.child) (part s p) && not b) bare ∙ and_not _) ∙ at.2.is

    pub passed_at : x.index ≤ i → (x.rest ≡ 1 → ⊥) → {b : Bool} → b ≡ contains (part s x.child) (part s p) → b ≡ contains (part s m) (more i (part s p) none)
    passed_at h ne e = e ∙ sym (gives (omega (arith, at.3, h)) ∙ rw (not_exist s x.rest ne) (and-true _)) ∙ at.2.is

-- the sum
abbrev EntryAsked : List ℕ → (m p : ℕ) → Type 0
EntryAsked s m p = Good s × (((m < top s) × (p < top s)) × Room s (entries (part s m) + entries (part s p) + 1))

abbrev Entered : List ℕ → List ℕ → (m i p n : ℕ) → Type 0
Entered s t m i p n = Made s t (add (part s m) (more i (part s p) none)) (entries (part s m) + entries (part s p) + 1) n

module _ {s : List ℕ} {m p : ℕ} (P : EntryAsked s m p) where
  pub entry_there : (i : ℕ) → true ≡ contains (part s m) (more i (part s p) none) → Entered s s m i p m
  entry_there i h = stay s _ _ m P.0 P.1.0.0 (sym (add-contained _ _ (sym h)))

  pub entry_all : (i : ℕ) → m ≡ 0 → Entered s s m i p 0
  entry_all i e = stay s _ _ 0 P.0 (omega (arith, P.0.base)) (part-0 s ∙ rw (e, part-0) (sym (all_add _)))

  pub entry_end : {t : List ℕ} {i n : ℕ} → (m ≡ 0 → ⊥) → m < 3 → Made s t (more i (part s p) (part s 2)) 1 n → Entered s t m i p n
  entry_end {i = i} z h a = as_made a (rw part-2 (sym (go m z h))) (omega arith)
    where
      go : (k : ℕ) → (k ≡ 0 → ⊥) → k < 3 → add (part s k) (more i (part s p) none) ≡ more i (part s p) none
      go zero z h = absurd (z refl)
      go (suc zero) z h = rw part-1 (exist-add _)
      go (suc (suc zero)) z h = rw part-2 (none-add _ refl)
      go (suc (suc (suc k))) z h = absurd (omega arith)

  module _ {j c r : ℕ} (x : Seen s m j c r) where
    pub entry_before : {t : List ℕ} {i n : ℕ} → i < j → Made s t (more i (part s p) (part s m)) 1 n → Entered s t m i p n
    entry_before {i = i} h a =
        as_made a (rw x.is (sym (add_gt j i _ _ _ _ h ∙ ap (more i (part s p)) (add_none (more j (part s c) (part s r)) refl)))) (omega arith)

    pub entry_after : {t u : List ℕ} {i n l : ℕ} → j < i → Entered s t r i p n → Made t u (more j (part t c) (part t n)) 1 l → Entered s u m i p l
    entry_after {i = i} h a b = then a b (omega arith) (rw x.is (add-lt j i _ _ _ _ h)) (omega arith)

    pub entry_joins : JoinAsked s c p
    entry_joins = (P.0, ((omega arith, P.1.0.1), omega (arith, (sum_small (part s c) (part s p)).few)))

    module _ {t : List ℕ} {n : ℕ} (a : Joined s t c p n) where
      rest_is : add (part t r) (part t 2) ≡ add (part s r) none
      rest_is = let h : r < top s = omega arith in rw (a.kept.same r h, part-2)

      no_more : entries (add (part s r) none) ≤ entries (part s r)
      no_more = let z : entries none ≡ 0 = unfold entries in refl in omega (arith, (sum_small (part s r) none).few)

      pub entry_rests : JoinAsked t r 2
      entry_rests =
          let k = ap entries rest_is in
          (a.kept.good, ((omega arith, omega (arith, a.kept.good.base)), omega (arith, no_more, (sum_small (part s c) (part s p)).few)))

      module _ {u : List ℕ} {l : ℕ} (b : Joined t u r 2 l) where
        pub entry_remakes_at : RemakeAsked u m j c r n l
        entry_remakes_at =
            let k = ap entries rest_is in (
              b.kept.good,
              (omega (arith, no_more, (sum_small (part s c) (part s p)).few), ((omega (arith, a.piece, b.kept.tops), b.piece), holds_on x P.1.0.0 (kept_trans a.kept b.kept))),
            )

        pub entry_at : {v : List ℕ} {i k : ℕ} → i ≤ j → j ≤ i → Made u v (more j (part u n) (part u l)) 1 k → Entered s v m i p k
        entry_at {i = i} h g d =
            let e : j ≡ i = omega arith in
            let k = ap entries rest_is in
            then_then a b d (rw (x.is, add-eq j i (part s c) (part s p) (part s r) none e, rest_is)) (omega (arith, no_more, (sum_small (part s c) (part s p)).few))
