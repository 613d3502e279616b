-- The records: the slots of a stretch mean a list, by expression. A store into a slot is `set`, a slot read is `get_or`, the entries of the slots are what 16
-- counts of the records, and a copy of those that are there is `extend`. Each law is one induction along the slots.
use Prim.Native.Nat.{ℕ, zero, suc, ◌+◌, ◌<◌}
use native.Mathlib.Omega.{arith}
use mathlib.Core.Path.{◌≡◌, refl, ap, ◌∙◌}
use mathlib.Core.List.{List, ◌∷◌}
use mathlib.Core.Option.{Option, some, none as nothing}
use lib.ListN.{length, get_or, set, replicate}
use lib.Seq.{get_or-set_same, get_or-set_other}
use Rattle.part.specs.PartReq.{PartReq, none, more, entries}
use Rattle.walk.specs.State.{Records, record_pieces}
use Rattle.memory.specs.Memory.{sum_from, Recorded, missing, present, record_of, records_of}
use Rattle.memory.proofs.Slots.{sum_none, sum_suc, sum_split}

pub records_suc : (ps : List PartReq) (base n : ℕ) → records_of ps base (suc n) ≡ (record_of (get_or ps base none) ∷ records_of ps (suc base) n)
unfolding records_of
records_suc ps base n = refl

pub records_long : (ps : List PartReq) (base n : ℕ) → length (records_of ps base n) ≡ n
unfolding records_of
records_long ps base zero = refl
records_long ps base (suc n) = ap suc (records_long ps (suc base) n)

-- a slot read
pub records_at : (ps : List PartReq) (base n e : ℕ) → e < n → get_or (records_of ps base n) e nothing ≡ record_of (get_or ps (base + e) none)
unfolding records_of
records_at ps base zero e h = absurd (omega arith)
records_at ps base (suc n) zero h = let z : base + 0 ≡ base = omega arith in rw z
records_at ps base (suc n) (suc e) h = let z : base + suc e ≡ suc base + e = omega arith in rw z (records_at ps (suc base) n e (omega arith))

-- a slot written, outside and inside
pub records_outside : (ps : List PartReq) (base n k : ℕ) (q : PartReq) → ((e : ℕ) → e < n → base + e ≡ k → ⊥) → records_of (set ps k q) base n ≡ records_of ps base n
unfolding records_of
records_outside ps base zero k q h = refl
records_outside ps base (suc n) k q h =
    let ne : base ≡ k → ⊥ = λ z. h 0 (omega arith) (omega arith) in
    rw (get_or-set_other ps k base q none ne, records_outside ps (suc base) n k q (λ e l z. h (suc e) (omega arith) (omega arith)))

pub records_set : (ps : List PartReq) (base n e : ℕ) (q : PartReq) → base + e < length ps → e < n
    → records_of (set ps (base + e) q) base n ≡ set (records_of ps base n) e (record_of q)
unfolding records_of
records_set ps base zero e q l h = absurd (omega arith)
records_set ps base (suc n) zero q l h =
    let z : base + 0 ≡ base = omega arith in
    let b : base < length ps = omega arith in
    rw (z, get_or-set_same ps base q none b) (ap (λ (r : List (Option PartReq)). record_of q ∷ r) (ap (λ (k : ℕ). records_of (set ps k q) (suc base) n) z ∙ records_outside ps (suc base) n base q (λ e i x. omega arith)))
records_set ps base (suc n) (suc e) q l h =
    let z : base + suc e ≡ suc base + e = omega arith in
    let ne : base ≡ suc base + e → ⊥ = omega arith in
    rw (z, get_or-set_other ps (suc base + e) base q none ne)
    (ap (λ (r : List (Option PartReq)). record_of (get_or ps base none) ∷ r) (ap (λ (k : ℕ). records_of (set ps k q) (suc base) n) z ∙ records_set ps (suc base) n e q (omega arith) (omega arith)))

-- the record of a part
pub record_present : (p : PartReq) → record_of (more 0 p none) ≡ some p
unfolding record_of
record_present p = refl

-- nothing is recorded
pub records_none : (ps : List PartReq) (base n : ℕ) → ((e : ℕ) → e < n → get_or ps (base + e) none ≡ none) → records_of ps base n ≡ replicate n nothing
unfolding records_of record_of
records_none ps base zero h = refl
records_none ps base (suc n) h =
    let z : base + 0 ≡ base = omega arith in
    let y : get_or ps base none ≡ none = rw z at (h 0 (omega arith)) in
    rw (y, records_none ps (suc base) n (λ e l. let x : suc base + e ≡ base + suc e = omega arith in rw x (h (suc e) (omega arith))))

-- what 16 counts of them
record-pieces : {q : PartReq} → Recorded q → (es : Records) → record_pieces (record_of q ∷ es) ≡ entries q + record_pieces es
unfolding record_pieces record_of entries
record-pieces missing es = omega arith
record-pieces (present p) es = omega arith

pub records_pieces : (ps : List PartReq) (base n : ℕ) → ((e : ℕ) → e < n → Recorded (get_or ps (base + e) none)) → record_pieces (records_of ps base n) ≡ sum_from ps base n
records_pieces ps base zero h = unfold records_of record_pieces sum_from in refl
records_pieces ps base (suc n) h =
    let z : base + 0 ≡ base = omega arith in
    let y : suc n ≡ 1 + n = omega arith in
    let x : base + 1 ≡ suc base = omega arith in
    omega (
      arith,
      ap record_pieces (records_suc ps base n),
      record-pieces (rw z at (h 0 (omega arith))) (records_of ps (suc base) n),
      records_pieces ps (suc base) n (λ e l. let w : suc base + e ≡ base + suc e = omega arith in rw w (h (suc e) (omega arith))),
      ap (λ (k : ℕ). sum_from ps base k) y,
      sum_split ps base 1 n,
      sum_suc ps base 0,
      sum_none ps base,
      ap (λ (k : ℕ). entries (get_or ps k none)) z,
      ap (λ (k : ℕ). sum_from ps k n) x,
    )
