-- Stretches of slots: what they mean after a context was put there, after a function's records were copied over those of its total (which is `extend`),
-- and after records were forgotten. A store leaves the slots outside as they were, and a memory that is well formed stays so.
use Prim.Native.Nat.{ℕ, zero, suc, ◌+◌, ◌<◌, ◌≤◌}
use native.Mathlib.Omega.{arith}
use native.Mathlib.Numerals.{add-one}
use native.Mathlib.Decide.{ℕ_discrete, dec_lt}
use mathlib.Core.Path.{◌≡◌, refl, sym, ap, ◌∙◌}
use mathlib.Core.Bool.{true, false, cond}
use mathlib.Core.List.{List, [], ◌∷◌}
use mathlib.Core.Option.{Option, none as nothing}
use lib.Dec.{eqb}
use lib.ListN.{length, get_or, set, length-set, get_or-eq_default, replicate, length-replicate}
use lib.Seq.{get_or-set_same, get_or-set_other, ext_get_or, paste}
use Rattle.std.proofs.lemmas.List.Edits.{fill_from_more, paste_none}
use Rattle.std.proofs.lemmas.Slice.{put_mid-paste}
use borrow.Rule.Slice.PartMut.{put_mid}
use borrow.Author.Tests.{eq-eqb, ne_eqb}
use Rattle.part.specs.PartReq.{PartReq, none, more, entries, is_all, is_exist}
use Rattle.part.specs.Store.{top, part, Good}
use Rattle.part.proofs.Pieces.{part-0, part-1, part-2}
use Rattle.part.proofs.Write.{seen, kept_self}
use Rattle.context.specs.RequiredContext.{RequiredContext, pieces}
use Rattle.context.specs.Contexts.{context_of}
use Rattle.walk.specs.State.{Records}
use Rattle.walk.specs.Function.{latest, extend}
use Rattle.memory.specs.Layout.{globals_slot, exprs_slot, functions_slot}
use Rattle.memory.specs.Memory.{read, sum_from, Recorded, missing, present, record_of, records_of, context_at, with_context, Memory}
use Rattle.memory.specs.Stretches.{four_set, copied, forgotten}
use Rattle.memory.proofs.Slots.{read_at, read-long, read_set, sum_none, sum_suc, sum_set, set-memory}
use Rattle.memory.proofs.Records.{records_long, records_at}

-- a slot outside the four
module _ {A : Type 0} (xs : List A) (at : ℕ) (a b c d e : A) where
  pub four_outside : (k : ℕ) → ((j : ℕ) → j < 4 → at + j ≡ k → ⊥) → get_or (set (set (set (set xs at a) (at + 1) b) (at + 2) c) (at + 3) d) k e ≡ get_or xs k e
  four_outside k h =
      get_or-set_other (set (set (set xs at a) (at + 1) b) (at + 2) c) (at + 3) k d e (λ z. h 3 (omega arith) (omega arith))
      ∙ get_or-set_other (set (set xs at a) (at + 1) b) (at + 2) k c e (λ z. h 2 (omega arith) (omega arith))
      ∙ get_or-set_other (set xs at a) (at + 1) k b e (λ z. h 1 (omega arith) (omega arith))
      ∙ get_or-set_other xs at k a e (λ z. h 0 (omega arith) (omega arith))

pub four_long : {A : Type 0} (xs : List A) (at : ℕ) (a b c d : A) → length (set (set (set (set xs at a) (at + 1) b) (at + 2) c) (at + 3) d) ≡ length xs
four_long xs at a b c d =
    length-set (set (set (set xs at a) (at + 1) b) (at + 2) c) (at + 3) d
    ∙ length-set (set (set xs at a) (at + 1) b) (at + 2) c
    ∙ length-set (set xs at a) (at + 1) b
    ∙ length-set xs at a

-- a slot with the piece that it had
pub read-still : (s rs us : List ℕ) (k : ℕ) → length us ≡ length rs → get_or us k 0 ≡ get_or rs k 0 → get_or (read s us) k none ≡ get_or (read s rs) k none
read-still s rs us k l e =
    elim (dec_lt k (length rs)) [
      | yes h ↦
          let i : k < length us = omega arith in
          read_at s us k i ∙ rw e (sym (read_at s rs k h))
      | no h ↦
          get_or-eq_default (read s us) none (omega (arith, read-long s us)) ∙ sym (get_or-eq_default (read s rs) none (omega (arith, read-long s rs)))
    ]

-- slots that mean the same hold the same context and records
module _ (ps qs : List PartReq) where
  pub context_same : (at : ℕ) → ((i : ℕ) → i < 4 → get_or qs (at + i) none ≡ get_or ps (at + i) none) → context_at qs at ≡ context_at ps at
  context_same at h =
      let z : at + 0 ≡ at = omega arith in
      let y : get_or qs at none ≡ get_or ps at none = rw z at (h 0 (omega arith)) in
      rw (y, h 1 (omega arith), h 2 (omega arith), h 3 (omega arith))

  pub records_same : (base n : ℕ) → ((e : ℕ) → e < n → get_or qs (base + e) none ≡ get_or ps (base + e) none) → records_of qs base n ≡ records_of ps base n
  unfolding records_of
  records_same base zero h = refl
  records_same base (suc n) h =
      let z : base + 0 ≡ base = omega arith in
      let y : get_or qs base none ≡ get_or ps base none = rw z at (h 0 (omega arith)) in
      rw (y, records_same (suc base) n (λ e l. let x : suc base + e ≡ base + suc e = omega arith in rw x (h (suc e) (omega arith))))

-- the context that was put there
module _ (ps : List PartReq) (at : ℕ) (c : RequiredContext) (l : at + 4 ≤ length ps) where
  long_1 : length (set ps at c.globals) ≡ length ps
  long_1 = length-set ps at c.globals

  long_2 : length (set (set ps at c.globals) (at + 1) c.locals) ≡ length ps
  long_2 = length-set (set ps at c.globals) (at + 1) c.locals ∙ long_1

  long_3 : length (set (set (set ps at c.globals) (at + 1) c.locals) (at + 2) c.args) ≡ length ps
  long_3 = length-set (set (set ps at c.globals) (at + 1) c.locals) (at + 2) c.args ∙ long_2

  pub context_put : context_at (with_context ps at c) at ≡ c
  context_put =
      let l0 : at < length ps = omega arith in
      let l1 : at + 1 < length (set ps at c.globals) = omega (arith, long_1) in
      let l2 : at + 2 < length (set (set ps at c.globals) (at + 1) c.locals) = omega (arith, long_2) in
      let l3 : at + 3 < length (set (set (set ps at c.globals) (at + 1) c.locals) (at + 2) c.args) = omega (arith, long_3) in
      let e3 = get_or-set_same (set (set (set ps at c.globals) (at + 1) c.locals) (at + 2) c.args) (at + 3) c.retval none l3 in
      let e2 = get_or-set_other (set (set (set ps at c.globals) (at + 1) c.locals) (at + 2) c.args) (at + 3) (at + 2) c.retval none (omega arith)
      ∙ get_or-set_same (set (set ps at c.globals) (at + 1) c.locals) (at + 2) c.args none l2 in
      let e1 = get_or-set_other (set (set (set ps at c.globals) (at + 1) c.locals) (at + 2) c.args) (at + 3) (at + 1) c.retval none (omega arith)
      ∙ get_or-set_other (set (set ps at c.globals) (at + 1) c.locals) (at + 2) (at + 1) c.args none (omega arith)
      ∙ get_or-set_same (set ps at c.globals) (at + 1) c.locals none l1 in
      let e0 = get_or-set_other (set (set (set ps at c.globals) (at + 1) c.locals) (at + 2) c.args) (at + 3) at c.retval none (omega arith)
      ∙ get_or-set_other (set (set ps at c.globals) (at + 1) c.locals) (at + 2) at c.args none (omega arith)
      ∙ get_or-set_other (set ps at c.globals) (at + 1) at c.locals none (omega arith)
      ∙ get_or-set_same ps at c.globals none l0 in
      rw (e0, e1, e2, e3)

-- what 16 counts of it
pub context_pieces : (ps : List PartReq) (at : ℕ) → sum_from ps at 4 ≡ pieces (context_at ps at)
unfolding pieces
context_pieces ps at =
    let z : at + 0 ≡ at = omega arith in
    omega (arith, sum_suc ps at 3, sum_suc ps at 2, sum_suc ps at 1, sum_suc ps at 0, sum_none ps at, ap (λ (k : ℕ). entries (get_or ps k none)) z)

pub sum_context : (ps : List PartReq) (at : ℕ) (c : RequiredContext) (a n : ℕ) → at + 4 ≤ length ps → a ≤ at → at + 4 ≤ a + n
    → sum_from (with_context ps at c) a n + pieces (context_at ps at) ≡ sum_from ps a n + pieces c
unfolding pieces
sum_context ps at c a n l b h =
    let p1 = set ps at c.globals in
    let p2 = set p1 (at + 1) c.locals in
    let p3 = set p2 (at + 2) c.args in
    omega (
      arith,
      sum_set ps at c.globals a n (omega arith) b (omega arith),
      sum_set p1 (at + 1) c.locals a n (omega (arith, long_1 ps at c l)) (omega arith) (omega arith),
      sum_set p2 (at + 2) c.args a n (omega (arith, long_2 ps at c l)) (omega arith) (omega arith),
      sum_set p3 (at + 3) c.retval a n (omega (arith, long_3 ps at c l)) (omega arith) (omega arith),
      ap entries (get_or-set_other ps at (at + 1) c.globals none (omega arith)),
      ap entries (get_or-set_other p1 (at + 1) (at + 2) c.locals none (omega arith) ∙ get_or-set_other ps at (at + 2) c.globals none (omega arith)),
      ap entries (get_or-set_other p2 (at + 2) (at + 3) c.args none (omega arith) ∙ get_or-set_other p1 (at + 1) (at + 3) c.locals none (omega arith) ∙ get_or-set_other ps at (at + 3) c.globals none (omega arith)),
    )

-- a context saved, copied and cleared
pub four_read : (s rs : List ℕ) (at a b c d : ℕ) → read s (four_set rs at a b c d) ≡ with_context (read s rs) at (context_of s (record { globals = a; locals = b; args = c; retval = d }))
four_read s rs at a b c d =
    read_set s (set (set (set rs at a) (at + 1) b) (at + 2) c) (at + 3) d
    ∙ rw (read_set s (set (set rs at a) (at + 1) b) (at + 2) c, read_set s (set rs at a) (at + 1) b, read_set s rs at a)

pub copy_read : (s rs : List ℕ) (from to : ℕ) → from + 4 ≤ length rs
    → read s (four_set rs to (get_or rs from 0) (get_or rs (from + 1) 0) (get_or rs (from + 2) 0) (get_or rs (from + 3) 0)) ≡ with_context (read s rs) to (context_at (read s rs) from)
copy_read s rs from to l =
    four_read s rs to (get_or rs from 0) (get_or rs (from + 1) 0) (get_or rs (from + 2) 0) (get_or rs (from + 3) 0)
    ∙ sym
    (rw (
      read_at s rs from (omega arith),
      read_at s rs (from + 1) (omega arith),
      read_at s rs (from + 2) (omega arith),
      read_at s rs (from + 3) (omega arith),
    ))

pub clear_read : (s rs : List ℕ) (at : ℕ) → read s (four_set rs at 2 2 2 2) ≡ with_context (read s rs) at (record { globals = none; locals = none; args = none; retval = none })
clear_read s rs at = four_read s rs at 2 2 2 2 ∙ rw part-2

-- a slot past the records
set_past : {s rs : List ℕ} {k r : ℕ} → Memory s rs → functions_slot ≤ k → k < length rs → r < top s → Memory s (set rs k r)
set_past m l b h = set-memory m (kept_self m.good) h (omega arith) b (λ x y. absurd (omega arith))

pub four_memory : {s rs : List ℕ} (at a b c d : ℕ) → Memory s rs → functions_slot ≤ at → at + 4 ≤ length rs → (a < top s) × ((b < top s) × ((c < top s) × (d < top s)))
    → Memory s (four_set rs at a b c d)
four_memory {s} {rs} at a b c d m l n h =
    let m0 = set_past {k = at} {r = a} m l (omega arith) h.0 in
    let m1 = set_past {k = at + 1} {r = b} m0 (omega arith) (omega (arith, length-set rs at a)) h.1.0 in
    let m2 = set_past {k = at + 2} {r = c} m1 (omega arith) (omega (arith, length-set rs at a, length-set (set rs at a) (at + 1) b)) h.1.1.0 in
    set_past {k = at + 3} {r = d} m2 (omega arith)
    (omega (arith, length-set rs at a, length-set (set rs at a) (at + 1) b, length-set (set (set rs at a) (at + 1) b) (at + 2) c)) h.1.1.1

-- copies
copied-suc : (rs : List ℕ) (from to n : ℕ)
    → copied rs from to (n + 1) ≡ cond (eqb (get_or rs (from + n) 0) 2) (copied rs from to n) (set (copied rs from to n) (to + n) (get_or rs (from + n) 0))
unfolding copied
copied-suc rs from to n = rw add-one

pub copied_none : (rs : List ℕ) (from to : ℕ) → rs ≡ copied rs from to 0
unfolding copied
copied_none rs from to = refl

copied-skip : (rs : List ℕ) (from to n r : ℕ) → r ≡ get_or rs (from + n) 0 → r ≡ 2 → copied rs from to n ≡ copied rs from to (n + 1)
copied-skip rs from to n r e h = sym (copied-suc rs from to n ∙ rw (eq-eqb (get_or rs (from + n) 0) 2 (sym e ∙ h)))

copied_more : (rs : List ℕ) (from to n r : ℕ) → r ≡ get_or rs (from + n) 0 → (r ≡ 2 → ⊥) → set (copied rs from to n) (to + n) r ≡ copied rs from to (n + 1)
copied_more rs from to n r e h = sym (copied-suc rs from to n ∙ rw (ne_eqb (get_or rs (from + n) 0) 2 (λ z. h (e ∙ z)), ← e))

module _ (rs : List ℕ) (from to : ℕ) where
  pub copied-long : (n : ℕ) → length (copied rs from to n) ≡ length rs
  unfolding copied
  copied-long zero = refl
  copied-long (suc n) =
      elim (ℕ_discrete (get_or rs (from + n) 0) 2) [
        | yes e ↦ rw (eq-eqb (get_or rs (from + n) 0) 2 e) (copied-long n)
        | no ne ↦ rw (ne_eqb (get_or rs (from + n) 0) 2 ne) (length-set (copied rs from to n) (to + n) (get_or rs (from + n) 0) ∙ copied-long n)
      ]

  -- a slot that no copy goes to
  pub copied-outside : (n k : ℕ) → ((e : ℕ) → e < n → to + e ≡ k → ⊥) → get_or (copied rs from to n) k 0 ≡ get_or rs k 0
  unfolding copied
  copied-outside zero k h = refl
  copied-outside (suc n) k h =
      let ih = copied-outside n k (λ e l. h e (omega arith)) in
      let ne' : k ≡ to + n → ⊥ = λ z. h n (omega arith) (sym z) in
      elim (ℕ_discrete (get_or rs (from + n) 0) 2) [
        | yes e ↦ rw (eq-eqb (get_or rs (from + n) 0) 2 e) ih
        | no ne ↦ rw (ne_eqb (get_or rs (from + n) 0) 2 ne) (get_or-set_other (copied rs from to n) (to + n) k (get_or rs (from + n) 0) 0 ne' ∙ ih)
      ]

  module _ (n : ℕ) (b : to + n ≤ length rs) where
    pub copied_at : (m e : ℕ) → m ≤ n → e < m → get_or (copied rs from to m) (to + e) 0 ≡ cond (eqb (get_or rs (from + e) 0) 2) (get_or rs (to + e) 0) (get_or rs (from + e) 0)
    unfolding copied
    copied_at zero e l h = absurd (omega arith)
    copied_at (suc m) e l h =
        elim (ℕ_discrete e m) [
          | yes i ↦
              elim (ℕ_discrete (get_or rs (from + m) 0) 2) [
                | yes z ↦ rw (i, eq-eqb (get_or rs (from + m) 0) 2 z) (copied-outside m (to + m) (λ j x y. omega arith))
                | no z ↦
                    let k : to + m < length (copied rs from to m) = omega (arith, copied-long m) in
                    rw (i, ne_eqb (get_or rs (from + m) 0) 2 z) (get_or-set_same (copied rs from to m) (to + m) (get_or rs (from + m) 0) 0 k)
              ]
          | no i ↦
              let ne : to + e ≡ to + m → ⊥ = omega arith in
              let ih = copied_at m e (omega arith) (omega arith) in
              elim (ℕ_discrete (get_or rs (from + m) 0) 2) [
                | yes z ↦ rw (eq-eqb (get_or rs (from + m) 0) 2 z) ih
                | no z ↦ rw (ne_eqb (get_or rs (from + m) 0) 2 z) (get_or-set_other (copied rs from to m) (to + m) (to + e) (get_or rs (from + m) 0) 0 ne ∙ ih)
              ]
        ]

-- `extend` of lists, by expression
extend-long : (es news : Records) → length (extend es news) ≡ length es
unfolding extend
extend-long [] news = refl
extend-long (o ∷ es) [] = refl
extend-long (o ∷ es) (x ∷ news) = ap suc (extend-long es news)

extend-at : (es news : Records) (e : ℕ) → e < length es → e < length news → get_or (extend es news) e nothing ≡ latest (get_or es e nothing) (get_or news e nothing)
unfolding extend
extend-at [] news e h l = absurd (omega arith)
extend-at (o ∷ es) [] e h l = absurd (omega arith)
extend-at (o ∷ es) (x ∷ news) zero h l = refl
extend-at (o ∷ es) (x ∷ news) (suc e) h l = extend-at es news e (omega arith) (omega arith)

-- a record's number says whether there is one
latest-missing : (s : List ℕ) (old : Option PartReq) (x : ℕ) → x ≡ 2 → latest old (record_of (part s x)) ≡ old
unfolding latest record_of
latest-missing s old x e = rw (e, part-2)

latest-cell : (old : Option PartReq) (i : ℕ) (p r : PartReq) → latest old (record_of (more i p r)) ≡ record_of (more i p r)
unfolding latest record_of
latest-cell old i p r = refl

pub not_plain : {q : PartReq} → Recorded q → (is_all q ≡ false) × (is_exist q ≡ false)
not_plain missing = (refl, refl)
not_plain (present p) = (refl, refl)

latest-present : (s : List ℕ) (old : Option PartReq) (x : ℕ) → Good s → x < top s → (x ≡ 2 → ⊥) → Recorded (part s x) → latest old (record_of (part s x)) ≡ record_of (part s x)
latest-present s old zero g l ne h =
    let z : true ≡ false = ap is_all (sym (part-0 s)) ∙ (not_plain h).0 in
    let y : ◌≡◌ {A = ℕ} 0 1 = cc in
    absurd (omega arith)
latest-present s old (suc zero) g l ne h =
    let z : true ≡ false = ap is_exist (sym (part-1 s)) ∙ (not_plain h).1 in
    let y : ◌≡◌ {A = ℕ} 0 1 = cc in
    absurd (omega arith)
latest-present s old (suc (suc zero)) g l ne h = absurd (ne refl)
latest-present s old (suc (suc (suc x))) g l ne h = rw (seen s (suc (suc (suc x))) g (omega arith) l).is (latest-cell old _ _ _)

-- records copied within the slots of records
module _ {s rs : List ℕ} (m : Memory s rs) (from to n : ℕ) (a : exprs_slot ≤ from) (b : from + n ≤ to) (c : to + n ≤ functions_slot) where
  at_from : (e : ℕ) → e < n → (from + e < length rs) × (to + e < length rs)
  at_from e h = (omega (arith, m.slots), omega (arith, m.slots))

  record-at : (us : List ℕ) (k : ℕ) → k < length us → record_of (get_or (read s us) k none) ≡ record_of (part s (get_or us k 0))
  record-at us k h = ap record_of (read_at s us k h)

  pub copied-records : records_of (read s (copied rs from to n)) to n ≡ extend (records_of (read s rs) to n) (records_of (read s rs) from n)
  copied-records =
      ext_get_or nothing (records_of (read s (copied rs from to n)) to n) (extend (records_of (read s rs) to n) (records_of (read s rs) from n))
      (records_long (read s (copied rs from to n)) to n ∙ sym (extend-long (records_of (read s rs) to n) (records_of (read s rs) from n) ∙ records_long (read s rs) to n))
      (λ e l.
      let h : e < n = omega (arith, records_long (read s (copied rs from to n)) to n) in
      let i = at_from e h in
      let j : to + e < length (copied rs from to n) = omega (arith, copied-long rs from to n) in
      let right : get_or (extend (records_of (read s rs) to n) (records_of (read s rs) from n)) e nothing ≡ latest (record_of (part s (get_or rs (to + e) 0))) (record_of (part s (get_or rs (from + e) 0)))
      = extend-at (records_of (read s rs) to n) (records_of (read s rs) from n) e (omega (arith, records_long (read s rs) to n)) (omega (arith, records_long (read s rs) from n))
      ∙ rw (records_at (read s rs) to n e h, records_at (read s rs) from n e h, record-at rs (to + e) i.1, record-at rs (from + e) i.0) in
      let left : get_or (records_of (read s (copied rs from to n)) to n) e nothing ≡ record_of (part s (get_or (copied rs from to n) (to + e) 0))
      = records_at (read s (copied rs from to n)) to n e h ∙ record-at (copied rs from to n) (to + e) j in
      let at = copied_at rs from to n (omega (arith, m.slots)) n e (omega arith) h in
      left
      ∙ elim (ℕ_discrete (get_or rs (from + e) 0) 2) [
        | yes z ↦ rw (at, eq-eqb (get_or rs (from + e) 0) 2 z) (sym (latest-missing s (record_of (part s (get_or rs (to + e) 0))) (get_or rs (from + e) 0) z))
        | no z ↦ rw (at, ne_eqb (get_or rs (from + e) 0) 2 z)
            (sym (latest-present s (record_of (part s (get_or rs (to + e) 0))) (get_or rs (from + e) 0) m.good (m.below (from + e) i.0) z (m.records (from + e) (omega arith) (omega arith))))
      ]
      ∙ sym right)

  pub copied-memory : (k : ℕ) → k ≤ n → Memory s (copied rs from to k)
  copied-memory zero h = unfold copied in m
  copied-memory (suc k) h =
      let i = at_from k (omega arith) in
      let j : to + k < length (copied rs from to k) = omega (arith, copied-long rs from to k) in
      let e : k + 1 ≡ suc k = omega arith in
      let ih = copied-memory k (omega arith) in
      elim (ℕ_discrete (get_or rs (from + k) 0) 2) [
        | yes z ↦ rw (← e) (rw (← copied-skip rs from to k (get_or rs (from + k) 0) refl z) ih)
        | no z ↦ rw (← e)
            (rw (← copied_more rs from to k (get_or rs (from + k) 0) refl z)
            (set-memory ih (kept_self m.good) (m.below (from + k) i.0) (omega arith) j (λ x y. m.records (from + k) (omega arith) (omega arith))))
      ]

-- records forgotten
forgotten-more : (rs : List ℕ) (from n : ℕ) → set (forgotten rs from n) (from + n) 2 ≡ forgotten rs from (n + 1)
unfolding forgotten
forgotten-more rs from n = rw add-one

-- `forget` fills them at once
forgotten-filled : (rs : List ℕ) (from n : ℕ) → from + n ≤ length rs → paste rs from (replicate n 2) n ≡ forgotten rs from n
unfolding forgotten
forgotten-filled rs from zero h = sym (paste_none rs from (replicate 0 2))
forgotten-filled rs from (suc n) h =
    sym (rw add-one at (fill_from_more rs from n 2 (omega arith))) ∙ ap (λ (xs : List ℕ). set xs (from + n) 2) (forgotten-filled rs from n (omega arith))

pub forgotten-part : (rs ys : List ℕ) (from n : ℕ) {k m : ℕ} → ys ≡ replicate m 2 → m ≡ n → k ≡ n → from + n ≤ length rs → put_mid from k rs ys ≡ forgotten rs from n
forgotten-part rs ys from n {k} e f g h =
    put_mid-paste from k rs ys (replicate n 2) n (rw f at e) (sym g) (sym (length-replicate n 2)) ∙ forgotten-filled rs from n h

module _ (rs : List ℕ) (from : ℕ) where
  pub forgotten-long : (n : ℕ) → length (forgotten rs from n) ≡ length rs
  unfolding forgotten
  forgotten-long zero = refl
  forgotten-long (suc n) = length-set (forgotten rs from n) (from + n) 2 ∙ forgotten-long n

  pub forgotten-outside : (n k : ℕ) → ((e : ℕ) → e < n → from + e ≡ k → ⊥) → get_or (forgotten rs from n) k 0 ≡ get_or rs k 0
  unfolding forgotten
  forgotten-outside zero k h = refl
  forgotten-outside (suc n) k h =
      let ne : k ≡ from + n → ⊥ = λ z. h n (omega arith) (sym z) in
      get_or-set_other (forgotten rs from n) (from + n) k 2 0 ne ∙ forgotten-outside n k (λ e l. h e (omega arith))

pub forgotten-memory : {s rs : List ℕ} (from : ℕ) → Memory s rs → globals_slot ≤ from → (n : ℕ) → from + n ≤ length rs → Memory s (forgotten rs from n)
forgotten-memory from m a zero b = unfold forgotten in m
forgotten-memory {s} {rs} from m a (suc n) b =
    let e : n + 1 ≡ suc n = omega arith in
    let j : from + n < length (forgotten rs from n) = omega (arith, forgotten-long rs from n) in
    rw (← e)
    (rw (← forgotten-more rs from n)
    (set-memory (forgotten-memory from m a n (omega arith)) (kept_self m.good) (omega (arith, m.good.base)) (omega arith) j (λ x y. rw part-2 missing)))

-- a turn of `extend`
module _ (rs us : List ℕ) (from to n k : ℕ) (is : us ≡ copied rs from to k) (b : from + n ≤ to) (l : to + n ≤ length rs) (h : k < n) where
  as_it_was : get_or us (from + k) 0 ≡ get_or rs (from + k) 0
  as_it_was = rw is (copied-outside rs from to k (from + k) (λ e i z. omega arith))

  pub extend_skip : get_or us (from + k) 0 ≡ 2 → us ≡ copied rs from to (k + 1)
  extend_skip z = is ∙ copied-skip rs from to k (get_or us (from + k) 0) as_it_was z

  pub extend_more : (get_or us (from + k) 0 ≡ 2 → ⊥) → set us (to + k) (get_or us (from + k) 0) ≡ copied rs from to (k + 1)
  extend_more z = ap (λ (xs : List ℕ). set xs (to + k) (get_or us (from + k) 0)) is ∙ copied_more rs from to k (get_or us (from + k) 0) as_it_was z
