-- What the functions on needs make: an entry that is kept or dropped, the entries with one changed, the members of a split value, and what is left
-- without the part at a path. Each call has room: a level makes no more cells than its shape has parts.
use Prim.Native.Nat.{ℕ, zero, suc, ◌+◌, ◌-◌, ◌*◌, ◌<◌, ◌≤◌}
use native.Mathlib.Omega.{arith}
use mathlib.Core.Path.{◌≡◌, refl, sym, ap, ◌∙◌}
use mathlib.Core.Bool.{Bool, true, false}
use mathlib.Core.Logic.{◌⊎◌, inl, inr}
use mathlib.Core.List.{List, [], ◌∷◌}
use lib.ListN.{length}
use borrow.Author.Tests.{lt-ltb, eq-eqb, ne_eqb}
use Rattle.std.specs.Prelude.{Option, Some, None}
use Rattle.part.specs.PartReq.{PartReq, all, more, gone, there, get_subpart, width}
use Rattle.part.specs.Store.{means, top, part, Good, Room, Made, Seen}
use Rattle.part.specs.Found.{Got}
use Rattle.part.proofs.Pieces.{part-0, part-1, part-2, not_all}
use Rattle.part.proofs.Write.{stay}
use Rattle.part.proofs.Making.{kept_trans, then, MakeAsked, as_made}
use Rattle.clearance.specs.Shape.{Shape, member, is_whole, keep, members, split}
use Rattle.clearance.specs.IsNeed.{IsNeed}
use Rattle.needs.specs.Lean.{change, leaves}
use Rattle.forms.specs.ShapeBy.{Members, Parted}
use Rattle.std.specs.Prelude.{Option, Some, None}
use Rattle.forms.specs.Narrow.{level_cells, Narrow, or_all}
use Rattle.forms.proofs.Leaves.{change_before, change-at, change-after, members-put, leaves_none, leaves-whole, leaves-one, leaves-gone, leaves-there, leaves-members}
use Rattle.forms.proofs.Leaves.{narrow_member, narrow_members, need_width, need_entry}

-- `keep`
keep-piece : (s : List ℕ) (c i : ℕ) (r : PartReq) → (c ≡ 1 → ⊥) → (c ≡ 2 → ⊥) → keep i (part s c) r ≡ more i (part s c) r
unfolding part means keep
keep-piece s zero i r a b = refl
keep-piece s (suc zero) i r a b = absurd (a refl)
keep-piece s (suc (suc zero)) i r a b = absurd (b refl)
keep-piece s (suc (suc (suc c))) i r a b = let z : 2 < suc (suc (suc c)) = omega arith in simp (lt-ltb _ _ z)

module _ {s : List ℕ} {c r : ℕ} (P : MakeAsked s c r) (i : ℕ) where
  pub kept_less : (c ≡ 1) ⊎ (c ≡ 2) → Made s s (keep i (part s c) (part s r)) 1 r
  unfolding keep
  kept_less (inl e) = stay s _ 1 r P.0 P.1.1.1 (rw (e, part-1))
  kept_less (inr e) = stay s _ 1 r P.0 P.1.1.1 (rw (e, part-2))

  pub kept_more : {t : List ℕ} {n : ℕ} → (c ≡ 1 → ⊥) → (c ≡ 2 → ⊥) → Made s t (more i (part s c) (part s r)) 1 n → Made s t (keep i (part s c) (part s r)) 1 n
  kept_more a b m = as_made m (sym (keep-piece s c i (part s r) a b)) (omega arith)

-- `change_entry`
abbrev pub EntryAsked : List ℕ → ℕ → ℕ → Type 0
EntryAsked s p d = Good s × (((p < top s) × (d < top s)) × Room s (width (part s p)))

abbrev pub Changed : List ℕ → List ℕ → ℕ → ℕ → ℕ → ℕ → Type 0
Changed s t p i d n = Made s t (change i (λ c. part s d) (part s p)) (width (part s p)) n

change-low : (s : List ℕ) (p i : ℕ) (f : PartReq → PartReq) → p < 3 → change i f (part s p) ≡ part s p
unfolding change
change-low s zero i f h = rw part-0
change-low s (suc zero) i f h = rw part-1
change-low s (suc (suc zero)) i f h = rw part-2
change-low s (suc (suc (suc p))) i f h = absurd (omega arith)

module _ {s : List ℕ} {p d : ℕ} (P : EntryAsked s p d) (i : ℕ) where
  pub changed_low : p < 3 → Changed s s p i d p
  changed_low h = stay s _ _ p P.0 P.1.0.0 (sym (change-low s p i (λ c. part s d) h))

  module _ {j c r : ℕ} (x : Seen s p j c r) where
    wide : width (part s p) ≡ 1 + width (part s r)
    unfolding width
    wide = ap width x.is

    pub changed_before : i < j → Changed s s p i d p
    changed_before h = stay s _ _ p P.0 P.1.0.0 (rw x.is (sym (change_before i j (λ o. part s d) _ _ h)))

    pub keep_asks : MakeAsked s d r
    keep_asks = (P.0, (omega (arith, wide), (P.1.0.1, omega (arith, x.rest_low))))

    pub changed_at : {t : List ℕ} {n : ℕ} → i ≡ j → Made s t (keep j (part s d) (part s r)) 1 n → Changed s t p i d n
    changed_at h m = as_made m (rw x.is (sym (change-at i j (λ o. part s d) _ _ h))) (omega (arith, wide))

    pub change_call : {z : ℕ} → p ≡ z → (r < z) × EntryAsked s r d
    change_call e = (omega (arith, x.rest_low), (P.0, ((omega (arith, x.rest_low), P.1.0.1), omega (arith, wide))))

    pub change_makes : {t : List ℕ} {o : PartReq} {n : ℕ} → Made s t o (width (part s r)) n → MakeAsked t c n
    change_makes m =
        (m.kept.good, (omega (arith, wide, m.cost, m.kept.long), (omega (arith, x.child_low, m.kept.tops), m.piece)))

    pub changed_after : {t u : List ℕ} {n l : ℕ} → j ≤ i → (i ≡ j → ⊥) → Changed s t r i d n → Made t u (more j (part t c) (part t n)) 1 l → Changed s u p i d l
    changed_after h ne a b =
        let lt : j < i = omega arith in
        then a b (omega (arith, x.child_low)) (rw x.is (change-after i j (λ o. part s d) _ _ lt)) (omega (arith, wide))

-- the members of a split value
module _ {s t : List ℕ} {d r n : ℕ} (P : MakeAsked s d r) (k i : ℕ) where
  pub put_at : k ≡ i → Made s t (keep k (part s d) (part s r)) 1 n → Made s t (or_all k i (part s d) (part s r)) 1 n
  unfolding or_all
  put_at e m = as_made m (rw (eq-eqb k i e)) (omega arith)

  pub put_other : (k ≡ i → ⊥) → Made s t (more k (part s 0) (part s r)) 1 n → Made s t (or_all k i (part s d) (part s r)) 1 n
  unfolding or_all
  put_other e m = as_made m (rw (ne_eqb k i e, part-0)) (omega arith)

-- where `members_around` stands: the members from k on are there
pub record Placed (s t : List ℕ) (n i d k r : ℕ) : Type 0 where
  pub along : k ≤ n
  pub made : Made s t (change i (λ c. part s d) (members k (n - k))) (n - k) r

pub placed_start : {s : List ℕ} (n i d : ℕ) → Good s → Placed s s n i d n 2
unfolding members change
placed_start {s} n i d g =
    let z : n - n ≡ 0 = omega arith in
    record { along = omega arith; made = stay s _ _ 2 g (omega (arith, g.base)) (rw (z, part-2)) }

module _ {s t : List ℕ} {n i d k r : ℕ} (b : Placed s t n i d k r) (l : 0 < k) (h : Room s n × (d < top s)) where
  pub placed_more : {u : List ℕ} {j o : ℕ} → suc j ≡ k → Made t u (or_all j i (part t d) (part t r)) 1 o → Placed s u n i d j o
  placed_more {u} {j} {o} e m =
      let z : n - j ≡ suc (n - k) = omega (arith, b.along) in
      record {
        along = omega (arith, b.along);
        made = record {
          kept = kept_trans b.made.kept m.kept;
          piece = m.piece;
          is = m.is ∙ rw (b.made.kept.same d h.1, b.made.is, z) (sym (rw e at (members-put i j (n - k) (part s d))));
          cost = omega (arith, b.made.cost, m.cost, b.along);
        };
      }

-- what is left without the part at a path
abbrev pub Left : List ℕ → List ℕ → Shape → PartReq → List ℕ → ℕ → Type 0
Left s t v p q n = Made s t (leaves v p q) (level_cells * length q) n

left_end : {s : List ℕ} (v : Shape) (p : PartReq) → Good s → Left s s v p [] 2
left_end {s} v p g = stay s _ _ 2 g (omega (arith, g.base)) (rw part-2 (sym (leaves_none v p)))

abbrev AllAsked : List ℕ → Shape → List ℕ → Type 0
AllAsked s v path = Good s × (Narrow v × Room s (level_cells * length path))

module _ {s : List ℕ} (v : Shape) (path : List ℕ) (P : AllAsked s v path) where
  pub all_end : path ≡ [] → Left s s v all path 2
  all_end h = rw h (left_end v all P.0)

  module _ {i : ℕ} {q : List ℕ} (h : path ≡ i ∷ q) where
    pub all_one : split v all ≡ all → Left s s v all path 0
    all_one e = stay s _ _ 0 P.0 (omega (arith, P.0.base)) (rw (part-0, h) (sym (leaves-one v _ _ e)))

    module _ (m : Shape) (w : m ≡ member v i) where
      all_long : level_cells * length path ≡ level_cells + level_cells * length q
      all_long = rw h (omega arith)

      pub all_call : {z : ℕ} → length path ≡ z → (length q < z) × AllAsked s m q
      all_call z =
          (omega (arith, all_long), (P.0, (rw w (narrow_member v i P.1.0), omega (arith, all_long, P.1.1))))

      module _ {t : List ℕ} {n d : ℕ} (M : Members v n) (a : Left s t m all q d) where
        pub around_asks : Good t × (Room t n × (d < top t))
        around_asks =
            let l = narrow_members M P.1.0 in
            (a.kept.good, (omega (arith, all_long, P.1.1, a.cost, a.kept.long), a.piece))

        pub all_left : {u : List ℕ} {r : ℕ} → Made t u (change i (λ c. part t d) (members 0 n)) n r → Left s u v all path r
        all_left b =
            let l = narrow_members M P.1.0 in
            record {
              kept = kept_trans a.kept b.kept;
              piece = b.piece;
              is = b.is ∙ rw (a.is, w, h) (sym (leaves-members v i n q M));
              cost = omega (arith, all_long, a.cost, b.cost);
            }

abbrev pub OutAsked : List ℕ → Shape → ℕ → List ℕ → Type 0
OutAsked s v p path = Good s × (Narrow v × (((p < top s) × IsNeed v (part s p)) × Room s (level_cells * length path)))

-- what `split_of` and `get` found
pub parted_one : (v : Shape) (r : Option ℕ) → r ≡ None → Parted v r → split v all ≡ all
parted_one v r e h = rw e at h

pub parted_into : (v : Shape) (r : Option ℕ) {n : ℕ} → r ≡ Some n → Parted v r → Members v n
parted_into v r e h = rw e at h

pub got_gone : (s : List ℕ) (p : PartReq) (i : ℕ) (f : Option ℕ) → f ≡ None → Got s (get_subpart p i) f → get_subpart p i ≡ gone
got_gone s p i f e h = rw e at h

pub got_there : (s : List ℕ) (p : PartReq) (i : ℕ) (f : Option ℕ) {c : ℕ} → f ≡ Some c → Got s (get_subpart p i) f → (c < top s) × (get_subpart p i ≡ there (part s c))
got_there s p i f e h = rw e at h

module _ {s : List ℕ} (v : Shape) {p : ℕ} (path : List ℕ) (P : OutAsked s v p path) where
  pub out_end : path ≡ [] → Left s s v (part s p) path 2
  out_end h = rw h (left_end v (part s p) P.0)

  pub all_asks : AllAsked s v path
  all_asks = (P.0, (P.1.0, P.1.1.1))

  pub out_all : {t : List ℕ} {n : ℕ} → p ≡ 0 → Left s t v all path n → Left s t v (part s p) path n
  out_all e m = as_made m (rw (e, part-0)) (omega arith)

  module _ {i : ℕ} {q : List ℕ} (h : path ≡ i ∷ q) where
    pub out_whole : {b : Bool} → b ≡ is_whole v → b ≡ true → Left s s v (part s p) path p
    out_whole w b = stay s _ _ p P.0 P.1.1.0.0 (rw h (sym (leaves-whole v _ _ (part s p) (sym w ∙ b))))

    module _ {b : Bool} (w : b ≡ is_whole v) (no : b ≡ false) (z : p ≡ 0 → ⊥) where
      pub out_gone : (f : Option ℕ) → f ≡ None → Got s (get_subpart (part s p) i) f → Left s s v (part s p) path p
      out_gone f a g =
          stay s _ _ p P.0 P.1.1.0.0
          (rw h (sym (leaves-gone v i _ (part s p) (sym w ∙ no) (not_all s p z) (got_gone s (part s p) i f a g))))

      out_long : level_cells * length path ≡ level_cells + level_cells * length q
      out_long = rw h (omega arith)

      module _ (m : Shape) (o : m ≡ member v i) (f : Option ℕ) {c : ℕ} (a : f ≡ Some c) (g : Got s (get_subpart (part s p) i) f) where
        pub out_call : {y : ℕ} → length path ≡ y → (length q < y) × OutAsked s m c q
        out_call y =
            let x = got_there s (part s p) i f a g in (
              omega (arith, out_long),
              (
                P.0,
                (
                  rw o (narrow_member v i P.1.0),
                  (
                    (x.0, rw o (need_entry v (part s p) i (part s c) P.1.1.0.1 (not_all s p z) x.1).1),
                    omega (arith, out_long, P.1.1.1),
                  ),
                ),
              ),
            )

        module _ {t : List ℕ} {d : ℕ} (l : Left s t m (part s c) q d) where
          out_wide : width (part t p) ≤ level_cells
          out_wide = rw (l.kept.same p P.1.1.0.0) (need_width v (part s p) P.1.1.0.1 P.1.0 (sym w ∙ no))

          pub entry-asks : EntryAsked t p d
          entry-asks =
              (l.kept.good, ((omega (arith, l.kept.tops, P.1.1.0.0), l.piece), omega (arith, out_wide, out_long, P.1.1.1, l.cost, l.kept.long)))

          pub out_left : {u : List ℕ} {r : ℕ} → Changed t u p i d r → Left s u v (part s p) path r
          out_left n = record {
            kept = kept_trans l.kept n.kept;
            piece = n.piece;
            is = n.is ∙ rw (l.kept.same p P.1.1.0.0, l.is, o, h)
                (sym (leaves-there v i q (part s p) (sym w ∙ no) (not_all s p z) (part s c) (got_there s (part s p) i f a g).1));
            cost = omega (arith, out_wide, out_long, l.cost, n.cost);
          }
