-- The totals of marks are those of the state, as one is kept or joined, and the report is that of the definition.
use mathlib.Core.Path.{◌≡◌, refl, sym, ap, ◌∙◌, subst}
use mathlib.Core.Bool.{Bool, true, false, cond}
use mathlib.Core.List.{List, [], ◌∷◌, ◌++◌, append_assoc, append-nil}
use mathlib.Core.Option.{Option, some, none as nothing, none-ne-some}
use Prim.Native.Nat.{ℕ, suc, ◌+◌, ◌<◌, ◌≤◌}
use native.Mathlib.Omega.{arith}
use lib.Dec.{eqb}
use lib.ListN.{length, get_or, replicate}
use lib.Seq.{get_or-set_same, get_or-set_other}
use borrow.Author.Tests.{eqb-true}
use Rattle.field.specs.Limits.{min_report}
use Rattle.module.specs.Module.{Function, Module}
use Rattle.module.specs.Tables.{module_of}
use Rattle.walk.specs.State.{FunctionReq, State}
use Rattle.walk.specs.Marks.{stretch, write_marks, add_marks}
use Rattle.walk.specs.Requests.{total_marks, bytes_from}
use Rattle.access.specs.Laid.{WasRead}
use Rattle.marks.specs.declared.places.MarkPlaces.{MarkPlaces}
use Rattle.marks.specs.Places.{slice, start_of, start_in, size_in, Places}
use Rattle.marks.specs.declared.totals.MarkTotals.{MarkTotals}
use Rattle.marks.specs.Report.{has_total, total_in, marks_kept, Totals, MarksKept, MarksJoined, part_in, report_in}
use Rattle.marks.proofs.Write.{slice-long, slice_written, add-long}
use Rattle.marks.proofs.Buffers.{slice-other, size_is, ends}

-- what the flag says
pub total_there : (m : Module) (totals : MarkTotals) (f : ℕ) → has_total totals f ≡ true → total_in m totals f ≡ some (slice totals.marks (start_of m f) (stretch m f))
unfolding total_in
total_there m totals f h = rw h

pub total_missing : (m : Module) (totals : MarkTotals) (f : ℕ) → has_total totals f ≡ false → total_in m totals f ≡ nothing
unfolding total_in
total_missing m totals f h = rw h

module _ (bytes t : List ℕ) (places : MarkPlaces) (was : WasRead bytes t) (p : Places bytes t places) where
  abbrev m : Module
  m = module_of bytes t

  abbrev count : ℕ
  count = length (module_of bytes t).functions

  -- The marks ys written as f's total, whose flag is set: f's total has them, and every other stays.
  module _ (totals after : MarkTotals) (ys : List ℕ) (f : ℕ) (hf : f < count) (long : length ys ≡ stretch m f) (is : after.marks ≡ write_marks totals.marks (start_in places.starts f) ys) where
    pub written_own : min_report ≤ length totals.marks → has_total after f ≡ true → total_in m after f ≡ some ys
    unfolding total_in
    written_own kept_long flag =
        let b = ends bytes t places was p f hf in
        rw (flag, is, p.starts f (omega arith), ← long, slice_written totals.marks (start_of m f) ys (omega arith))

    pub written_other : (g : ℕ) → (g ≡ f → ⊥) → has_total after g ≡ has_total totals g → total_in m after g ≡ total_in m totals g
    unfolding total_in
    written_other g ne flag =
        let z : 0 + start_of m g ≡ start_of m g = omega arith in
        let a = p.starts f (omega arith) in
        rw (flag, is, rw z at (slice-other m totals.marks ys 0 (start_in places.starts f) f g 0 ne (omega arith) (omega arith)))

  module _ (marks : List ℕ) (f : ℕ) (hf : f < count) where
    own_size : min_report ≤ length marks → length (slice marks (start_in places.starts f) (size_in places.starts f)) ≡ stretch m f
    own_size there =
        let a = p.starts f (omega arith) in
        let b = ends bytes t places was p f hf in
        let c = size_is bytes t places was p f hf in
        slice-long marks (start_in places.starts f) (size_in places.starts f) (omega arith) ∙ c

    own-marks : slice marks (start_in places.starts f) (size_in places.starts f) ≡ slice marks (start_of m f) (stretch m f)
    own-marks = rw (size_is bytes t places was p f hf, p.starts f (omega arith))

  module _ (totals after : MarkTotals) (marks : List ℕ) (f : ℕ) (hf : f < count) (there : min_report ≤ length marks) (kept_long : min_report ≤ length totals.marks) where
    -- the first total of f
    module _ (k : MarksKept places.starts marks totals f after) where
      pub kept-own : f < length totals.flags → total_in m after f ≡ some (slice marks (start_of m f) (stretch m f))
      kept-own i =
          written_own totals after _ f hf (own_size marks f hf there) k.marks_are kept_long (rw k.flags_are (get_or-set_same totals.flags f true false i))
          ∙ ap some (own-marks marks f hf)

      pub kept-other : (g : ℕ) → (g ≡ f → ⊥) → total_in m after g ≡ total_in m totals g
      kept-other g ne = written_other totals after _ f hf (own_size marks f hf there) k.marks_are g ne (rw k.flags_are (get_or-set_other totals.flags f g true false ne))

    -- a later one
    module _ (k : MarksJoined places.starts marks totals f after) where
      sum_size : length (add_marks (slice totals.marks (start_in places.starts f) (size_in places.starts f)) (slice marks (start_in places.starts f) (size_in places.starts f))) ≡ stretch m f
      sum_size =
          let a = p.starts f (omega arith) in
          let b = ends bytes t places was p f hf in
          let c = size_is bytes t places was p f hf in
          let old = slice-long totals.marks (start_in places.starts f) (size_in places.starts f) (omega arith) ∙ c in
          add-long (slice totals.marks (start_in places.starts f) (size_in places.starts f)) (slice marks (start_in places.starts f) (size_in places.starts f)) (old ∙ sym (own_size marks f hf there)) ∙ old

      pub added-own : has_total totals f ≡ true → total_in m after f ≡ some (add_marks (slice totals.marks (start_of m f) (stretch m f)) (slice marks (start_of m f) (stretch m f)))
      added-own flag = written_own totals after _ f hf sum_size k.marks_are kept_long (rw k.flags_are flag) ∙ rw (own-marks marks f hf, size_is bytes t places was p f hf, p.starts f (omega arith))

      pub added-other : (g : ℕ) → (g ≡ f → ⊥) → total_in m after g ≡ total_in m totals g
      added-other g ne = written_other totals after _ f hf sum_size k.marks_are g ne (rw k.flags_are)

  -- a function's part of the report
  module _ (totals : MarkTotals) (marks : List ℕ) (asked : ℕ) (st : State) (sums : Totals m totals st.functions) (own : st.marks ≡ slice marks (start_of m asked) (stretch m asked)) where
    total_part : (b : Bool) (f : ℕ) (o : Option FunctionReq) → f < count → cond b (some (slice totals.marks (start_of m f) (stretch m f))) nothing ≡ marks_kept o → cond b (slice totals.marks (start_in places.starts f) (size_in places.starts f)) (replicate (size_in places.starts f) 0) ≡ total_marks m f o
    unfolding total_marks
    total_part false f nothing hf h = rw (size_is bytes t places was p f hf)
    total_part false f (some total) hf h = absurd (none-ne-some total.marks h)
    total_part true f nothing hf h = absurd (none-ne-some _ (sym h))
    total_part true f (some total) hf h =
        let same : slice totals.marks (start_of m f) (stretch m f) ≡ total.marks = cc in
        rw (size_is bytes t places was p f hf, p.starts f (omega arith)) same

    part_is : (f : ℕ) → f < count → part_in places.starts marks totals asked f ≡ cond (eqb f asked) st.marks (total_marks m f (get_or st.functions f nothing))
    unfolding part_in total_in
    part_is f hf = go (eqb f asked) refl
      where
        go : (b : Bool) → eqb f asked ≡ b → cond b (slice marks (start_in places.starts f) (size_in places.starts f)) (cond (has_total totals f) (slice totals.marks (start_in places.starts f) (size_in places.starts f)) (replicate (size_in places.starts f) 0)) ≡ cond b st.marks (total_marks m f (get_or st.functions f nothing))
        go true e =
            rw (size_is bytes t places was p f hf, p.starts f (omega arith))
            (subst (λ (k : ℕ). slice marks (start_of m k) (stretch m k) ≡ st.marks) (sym (eqb-true f asked e)) (sym own))
        go false e = total_part (has_total totals f) f (get_or st.functions f nothing) hf (sums f hf)

    report_from : (f : ℕ) (fs : List Function) → f + length fs ≡ count → report_in places.starts marks totals asked f ++ bytes_from m asked st f fs ≡ report_in places.starts marks totals asked count
    unfolding bytes_from report_in
    report_from f [] e = let z : f ≡ count = omega arith in append-nil (report_in places.starts marks totals asked f) ∙ rw z
    report_from f (x ∷ fs) e =
        rw (← part_is f (omega arith), ← append_assoc (report_in places.starts marks totals asked f) (part_in places.starts marks totals asked f) (bytes_from m asked st (suc f) fs))
        (report_from (suc f) fs (omega arith))

    -- The report that is written is the definition's, and the bytes behind it stay.
    pub report_is : report_in places.starts marks totals asked count ≡ bytes_from m asked st 0 (module_of bytes t).functions
    unfolding report_in
    report_is = sym (report_from 0 (module_of bytes t).functions (omega arith))
