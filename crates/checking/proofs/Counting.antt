-- Marks counted statement by statement and function by function are those of the definition, and fit 32 bits, since all marks of a module that was read fit the least report; and the
-- table of each statement's first mark, filled on the way.
use Prim.Native.Nat.{ℕ, ◌+◌, ◌<◌, ◌≤◌}
use native.Mathlib.Numerals.{add-one}
use native.Mathlib.Nat.{eq-or-lt_of_le}
use native.Mathlib.Omega.{arith}
use mathlib.Core.Path.{◌≡◌, refl, sym, ap, ◌∙◌}
use mathlib.Core.List.{List}
use mathlib.Core.Logic.{⊎_elim}
use lib.ListN.{length, get_or, set}
use lib.Seq.{get_or-set_same, get_or-set_other}
use Rattle.field.specs.Limits.{min_report}
use Rattle.module.specs.Module.{Statement}
use Rattle.module.specs.Marks.{mark_count, marks_before}
use Rattle.module.specs.Tables.{function_of, module_of}
use Rattle.access.specs.Access.{statement_at}
use Rattle.access.proofs.Access.{function_is, statement_is}
use Rattle.valid.specs.There.{There}
use Rattle.walk.specs.Resolve.{function_at}
use Rattle.walk.specs.Marks.{stretch}
use Rattle.marks.specs.Places.{start_of}
use Rattle.marks.proofs.Fit.{marks_fit, start_suc}
use Rattle.marks.proofs.Placed.{marks_suc, marks_within, start_within}

-- the marks of the first s of n statements
pub record Counted (bytes t : List ℕ) (f n at s : ℕ) : Type 0 where
  pub few : s ≤ n
  pub is : at ≡ marks_before (function_of bytes t f).statements s

pub counted_none : {bytes t : List ℕ} {f n : ℕ} → Counted bytes t f n 0 0
unfolding marks_before
counted_none = record { few = omega arith; is = refl }

module _ {bytes t : List ℕ} {f : ℕ} (h : There bytes t f) where
  abbrev ss : List Statement
  ss = (function_of bytes t f).statements

  pub at_function : function_at (module_of bytes t) f ≡ function_of bytes t f
  unfolding function_at
  at_function = function_is bytes t f _ h.there

  pub stretch-is : stretch (module_of bytes t) f ≡ marks_before ss (length ss)
  unfolding stretch
  stretch-is = rw at_function

  pub end_small : start_of (module_of bytes t) f + stretch (module_of bytes t) f ≤ min_report
  end_small =
      let i = h.there in
      omega
      (arith, start_suc (module_of bytes t) f, start_within (module_of bytes t) (f + 1) (length (module_of bytes t).functions) (omega arith), marks_fit bytes (module_of bytes t) h.read)

  module _ {n at s k : ℕ} (so : Counted bytes t f n at s) (all : n ≡ length (function_of bytes t f).statements) (l : s < n) (own : k ≡ mark_count (statement_at bytes t f s)) where
    more : at + k ≡ marks_before ss (s + 1)
    more =
        let i : s < length ss = omega arith in
        let z = marks_suc ss s (statement_at bytes t f s) i in
        let y = ap mark_count (statement_is bytes t f s (statement_at bytes t f s) i) in
        rw (add-one s) (omega (arith, so.is))

    pub counted_small : at + k ≤ min_report
    counted_small = omega (arith, more, marks_within ss (s + 1) (omega arith), stretch-is, end_small)

    pub counted_more : Counted bytes t f n (at + k) (s + 1)
    counted_more = record { few = omega arith; is = more }

  pub counted_all : {n at s : ℕ} → Counted bytes t f n at s → n ≡ length (function_of bytes t f).statements → n ≤ s → at ≡ stretch (module_of bytes t) f
  counted_all {n} {at} {s} so all l =
      let z : s ≡ length ss = omega (arith, so.few) in
      so.is ∙ ap (marks_before ss) z ∙ sym stretch-is

-- a function before it
pub there_below : {bytes t : List ℕ} {f : ℕ} (g : ℕ) → There bytes t f → g < f → There bytes t g
there_below g h l = record { read = h.read; there = omega (arith, h.there) }

-- the marks of the functions before g
pub record Started (bytes t : List ℕ) (f at g : ℕ) : Type 0 where
  pub few : g ≤ f
  pub is : at ≡ start_of (module_of bytes t) g

pub started_none : {bytes t : List ℕ} {f : ℕ} → Started bytes t f 0 0
unfolding start_of
started_none = record { few = omega arith; is = refl }

module _ {bytes t : List ℕ} {f at g k : ℕ} (h : There bytes t f) (so : Started bytes t f at g) (l : g < f) (own : k ≡ stretch (module_of bytes t) g) where
  pub started_small : at + k ≤ min_report
  started_small = omega (arith, so.is, end_small (there_below g h l))

  pub started_more : Started bytes t f (at + k) (g + 1)
  started_more = record { few = omega arith; is = omega (arith, so.is, start_suc (module_of bytes t) g) }

-- Table

-- the entries of the statements below s are right
pub record FilledTo (ss : List Statement) (firsts : List ℕ) (s : ℕ) : Type 0 where
  pub each : (k : ℕ) → k < s → get_or firsts k 0 ≡ marks_before ss k

pub filled_none : {ss : List Statement} {firsts : List ℕ} → FilledTo ss firsts 0
filled_none = record { each = λ k l. absurd (omega arith) }

pub filled_more : {ss : List Statement} {firsts : List ℕ} {s at : ℕ} → s < length firsts → at ≡ marks_before ss s → FilledTo ss firsts s → FilledTo ss (set firsts s at) (s + 1)
filled_more {ss} {firsts} {s} {at} i e so =
    record {
      each = λ k l.
          let j : k ≤ s = omega arith in
          ⊎_elim (λ z. rw z (get_or-set_same firsts s at 0 i ∙ e))
          (λ b. let ne : k ≡ s → ⊥ = omega arith in get_or-set_other firsts s k at 0 ne ∙ so.each k b) (eq-or-lt_of_le j);
    }
