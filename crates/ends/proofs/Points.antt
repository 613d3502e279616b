-- What a cell's sizes say at a point: whether the needs pass 15, and 16. Entries are counted up to a cap far above what 16 allows, and a need has fewer maps than that.
use Prim.Native.Nat.{ℕ, ◌+◌, ◌-◌, ◌<◌, ◌≤◌, min}
use native.Mathlib.Omega.{arith}
use native.Mathlib.Decide.{dec_le}
use mathlib.Core.Path.{◌≡◌, refl, sym, ap, ◌∙◌}
use mathlib.Core.Bool.{Bool, true, false, ◌||◌}
use mathlib.Core.List.{List}
use lib.Dec.{ltb}
use lib.ListN.{get_or}
use borrow.Author.Tests.{lt-ltb}
use Rattle.field.specs.Limits.{max_pieces}
use Rattle.part.specs.PartReq.{PartReq, entries, width}
use Rattle.part.specs.StoreLimits.{entries_cap}
use Rattle.part.specs.Store.{Measures}
use Rattle.part.proofs.Pieces.{part-low_sizes}
use Rattle.part.proofs.Counting.{entries-each}
use Rattle.clearance.specs.Verdict.{pieces}
use Rattle.pass.specs.Pass.{work_bound, too_many}
use Rattle.hold.specs.Hold.{in_slot, Live}

-- a need in a slot has fewer maps than the cap
pub narrow : {s rs : List ℕ} {n : ℕ} → Live s rs n → (j : ℕ) → j < n → width (in_slot s rs j) ≤ 4 + work_bound
narrow {s} {rs} d j h = let a = (part-low_sizes s (get_or rs j 0)).1 in let b = d.loose.pieces j h in omega (arith, d.slim)

pub width-less : {p : PartReq} {e d w : ℕ} {o : Bool} → Measures p e d w o → width p ≤ 4 + work_bound → w ≤ e
width-less {p} {e} {d} {w} h l =
    let a = entries-each p in
    elim (dec_le entries_cap (entries p)) [
      | yes z ↦ let m : min entries_cap (entries p) ≡ entries_cap = omega arith in omega (arith, h.entries_is, h.width_is)
      | no z ↦ let m : min entries_cap (entries p) ≡ entries p = omega arith in omega (arith, h.entries_is, h.width_is)
    ]

pub point_wide : {p : PartReq} {e d w : ℕ} {o : Bool} → Measures p e d w o → width p ≤ 4 + work_bound → ltb max_pieces (e - w) ≡ too_many p
unfolding too_many pieces
point_wide {p} {e} {d} {w} h l =
    elim (dec_le entries_cap (entries p)) [
      | yes z ↦
          let m : min entries_cap (entries p) ≡ entries_cap = omega arith in
          let a : max_pieces < e - w = omega (arith, h.entries_is, h.width_is) in
          let b : max_pieces < entries p - width p = omega arith in
          lt-ltb max_pieces (e - w) a ∙ sym (lt-ltb max_pieces (entries p - width p) b)
      | no z ↦
          let m : min entries_cap (entries p) ≡ entries p = omega arith in
          ap (ltb max_pieces) (ap (λ x. x - w) (h.entries_is ∙ m) ∙ ap (λ x. entries p - x) h.width_is)
    ]

-- one of two tests
pub either_first : {a c : Bool} (b : Bool) → a ≡ c → a ≡ true → a ≡ c || b
either_first b e h = rw (← e, h) refl

pub either_second : {a c : Bool} (b : Bool) → a ≡ c → a ≡ false → b ≡ c || b
either_second b e h = rw (← e, h) refl
