-- The part at a path index by index, and a part put at one from its innermost index on: what is left of the path gives the whole.
use Prim.Native.Nat.{ℕ, suc, ◌+◌, ◌-◌, ◌<◌, ◌≤◌}
use native.Mathlib.Omega.{arith}
use native.Mathlib.Numerals.{add-one}
use mathlib.Core.Path.{◌≡◌, sym, ◌∙◌}
use mathlib.Core.List.{List}
use lib.ListN.{length, get_or, drop}
use lib.Seq.{drop-cons, drop-length}
use Rattle.part.specs.PartReq.{PartReq, none, more, get_subpart}
use Rattle.part.specs.Store.{top, part, Good, Made}
use Rattle.part.specs.Subparts.{or_none, Piece}
use Rattle.part.proofs.Pieces.{part-2}
use Rattle.part.proofs.Write.{stay}
use Rattle.part.proofs.Making.{kept_trans}
use Rattle.clearance.specs.Shape.{below, under}

-- where `below` stands: so much of the path is left
pub record Going (s : List ℕ) (n : ℕ) (path : List ℕ) (m k : ℕ) : Type 0 where
  pub inside : m < top s
  pub along : k ≤ length path
  pub is : below (part s m) (drop k path) ≡ below (part s n) path

next_index : (p : PartReq) (path : List ℕ) (k : ℕ) → k < length path → below p (drop k path) ≡ below (or_none (get_subpart p (get_or path k 0))) (drop (k + 1) path)
unfolding below
next_index p path k h = rw (drop-cons path k 0 h, add-one)

module _ {s : List ℕ} {n : ℕ} {path : List ℕ} {m k : ℕ} (g : Going s n path m k) where
  pub going_more : {x r : ℕ} → k < length path → x ≡ get_or path k 0 → Piece s (or_none (get_subpart (part s m) x)) r → Going s n path r (k + 1)
  going_more h e a =
      record {
        inside = a.piece;
        along = omega arith;
        is = rw (a.is, e) (sym (next_index (part s m) path k h)) ∙ g.is;
      }

  pub going_end : length path ≤ k → Piece s (below (part s n) path) m
  unfolding below
  going_end h =
      let e : k ≡ length path = omega (arith, g.along) in
      record { piece = g.inside; is = sym (sym g.is ∙ rw (e, drop-length path)) }

-- where `under` stands: the path from k on is around a
pub record Around (s t : List ℕ) (path : List ℕ) (a m k : ℕ) : Type 0 where
  pub along : k ≤ length path
  pub made : Made s t (under (drop k path) (part s a)) (length path - k) m

pub around_start : {s : List ℕ} {a : ℕ} (path : List ℕ) → Good s → a < top s → Around s s path a a (length path)
unfolding under
around_start {s} {a} path g h = record { along = omega arith; made = stay s _ _ a g h (rw (drop-length path)) }

at_index : (path : List ℕ) (j : ℕ) → j < length path → (p : PartReq) → under (drop j path) p ≡ more (get_or path j 0) (under (drop (suc j) path) p) none
unfolding under
at_index path j h p = rw (drop-cons path j 0 h)

module _ {s t path : List ℕ} {a m k j : ℕ} (b : Around s t path a m k) (e : suc j ≡ k) where
  pub around_more : {u : List ℕ} {x o : ℕ} → x ≡ get_or path j 0 → Made t u (more x (part t m) (part t 2)) 1 o → Around s u path a o j
  around_more {u} {x} {o} i d =
      let l : j < length path = omega (arith, b.along) in
      record {
        along = omega arith;
        made = record {
          kept = kept_trans b.made.kept d.kept;
          piece = d.piece;
          is = d.is ∙ rw (b.made.is, part-2, i, ← e) (sym (at_index path j l (part s a)));
          cost = omega (arith, b.made.cost, d.cost, b.along);
        };
      }
