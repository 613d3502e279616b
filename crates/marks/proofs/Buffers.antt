-- What the buffer of marks means to the walk: each function's stretch of it is written alone, and an emit's marks say which expressions have a record.
use mathlib.Core.Path.{◌≡◌, refl, sym, ap, ◌∙◌, subst}
use mathlib.Core.Bool.{Bool, true, false, not}
use mathlib.Core.List.{List, ◌++◌, ◌∷◌, []}
use mathlib.Core.Option.{none as nothing}
use Prim.Native.Nat.{ℕ, zero, suc, ◌+◌, ◌-◌, ◌<◌, ◌≤◌}
use native.Mathlib.Decide.{dec_lt}
use native.Mathlib.Omega.{arith}
use lib.Dec.{eqb}
use lib.ListN.{length, get_or, replicate, length-replicate}
use borrow.Author.Tests.{ne_eqb}
use Rattle.field.specs.Limits.{min_report}
use Rattle.part.specs.PartReq.{is_all, is_exist}
use Rattle.part.specs.Store.{top, part, Good}
use Rattle.part.proofs.Pieces.{part-0, part-1, part-2}
use Rattle.part.proofs.Write.{seen}
use Rattle.module.specs.Module.{Kill, Function, Module}
use Rattle.module.specs.Marks.{mark_count, marks_before}
use Rattle.module.specs.Decode.{tab}
use Rattle.module.specs.Tables.{row_at, expressions_from, function_of, module_of}
use Rattle.access.specs.Access.{expression_number, statement_number}
use Rattle.walk.specs.State.{Records}
use Rattle.walk.specs.Resolve.{function_at, is_there}
use Rattle.walk.specs.Marks.{stretch, write_marks, statement_at}
use Rattle.walk.specs.Statement.{need_of, are_recorded}
use Rattle.memory.specs.Layout.{exprs_slot, functions_slot}
use Rattle.memory.specs.Memory.{read, Recorded, record_of, records_of, Memory}
use Rattle.memory.proofs.Slots.{read_at}
use Rattle.memory.proofs.Records.{records_at}
use Rattle.memory.proofs.Runs.{not_plain}
use Rattle.state.specs.State.{records_in}
use Rattle.access.specs.Laid.{WasRead}
use Rattle.marks.specs.declared.places.MarkPlaces.{MarkPlaces}
use Rattle.marks.specs.Places.{slice, start_of, mark_place, start_in, size_in, Places, Inside, AllInside, recorded_in}
use Rattle.marks.proofs.Write.{slice_inside, slice-behind, slice-before, slice_written}
use Rattle.marks.proofs.Fit.{start_suc}
use Rattle.marks.proofs.Placed.{marks_suc, marks_within, start_within, few, fit, at_function, within as items_within}

-- where a stretch ends, the next may begin
stretch-apart : (m : Module) (f g : ℕ) → f < g → start_of m f + stretch m f ≤ start_of m g
stretch-apart m f g h =
    let a = start_within m (f + 1) g (omega arith) in
    let b = start_suc m f in
    omega arith

-- What is written into f's stretch of a buffer in which the marks begin at `base` stays out of another's.
pub slice-other : (m : Module) (xs ys : List ℕ) (base at f g i : ℕ) → (g ≡ f → ⊥) → at ≡ base + (start_of m f + i) → i + length ys ≤ stretch m f → slice (write_marks xs at ys) (base + start_of m g) (stretch m g) ≡ slice xs (base + start_of m g) (stretch m g)
slice-other m xs ys base at f g i ne e h =
    elim (dec_lt f g) [
      | yes l ↦
          let a = stretch-apart m f g l in
          slice-behind xs (base + start_of m g) (stretch m g) at ys (omega arith)
      | no n ↦
          let a = stretch-apart m g f (omega arith) in
          let z : at ≡ base + start_of m g + (start_of m f + i - start_of m g) = omega arith in
          rw z (slice-before xs (base + start_of m g) (stretch m g) (start_of m f + i - start_of m g) ys (omega arith))
    ]

-- a statement's marks lie in the stretch
pub statement_inside : (m : Module) (f s : ℕ) → s < length (function_at m f).statements → marks_before (function_at m f).statements s + mark_count (statement_at m f s) ≤ stretch m f
unfolding stretch statement_at
statement_inside m f s h =
    let a = marks_suc (function_at m f).statements s Kill h in
    let b = marks_within (function_at m f).statements (suc s) (omega arith) in
    omega arith

module _ (bytes t : List ℕ) (places : MarkPlaces) (was : WasRead bytes t) (p : Places bytes t places) where
  abbrev m : Module
  m = module_of bytes t

  abbrev count : ℕ
  count = length (module_of bytes t).functions

  pub size_is : (f : ℕ) → f < count → size_in places.starts f ≡ stretch m f
  size_is f h =
      let a = p.starts f (omega arith) in
      let b = p.starts (f + 1) (omega arith) in
      let c = start_suc m f in
      omega arith

  pub ends : (f : ℕ) → f < count → start_of m f + stretch m f ≤ min_report
  ends f h =
      let a = start_within m (f + 1) count (omega arith) in
      let b = start_suc m f in
      let c = fit bytes t was in
      omega arith

  pub inside : (f top : ℕ) → f < count → min_report ≤ top → Inside places.starts f top
  inside f top h l =
      let a = p.starts f (omega arith) in
      let b = p.starts (f + 1) (omega arith) in
      let c = start_suc m f in
      let d = ends f h in
      record { entry = omega (arith, few bytes t was, p.long); ascends = omega arith; within = omega arith }

  pub all_inside : (top : ℕ) → min_report ≤ top → AllInside places.starts count top
  all_inside top l = record { first = first; each = λ f h. inside f top h l }
    where
      first : start_in places.starts 0 ≡ 0
      first = p.starts 0 (omega arith) ∙ unfold start_of in refl

  -- The statement's own marks, written where the table says.
  module _ (xs ys : List ℕ) (f s at : ℕ) (hf : f < count) (hs : s < length (function_of bytes t f).statements) (is : at ≡ get_or places.firsts (statement_number t f s) 0) (own : length ys ≡ mark_count (statement_at m f s)) where
    within : marks_before (function_at m f).statements s + length ys ≤ stretch m f
    within =
        let e = ap (λ (x : Function). length x.statements) (at_function bytes t was f hf) in
        omega (arith, statement_inside m f s (omega arith))

    at_place : at ≡ mark_place m f s
    at_place = is ∙ p.statements f s hf hs

    pub own_fits : at + length ys ≤ min_report
    own_fits =
        let a = ends f hf in
        let b = at_place in
        let c = within in
        omega arith

    pub own_written : slice (write_marks xs at ys) (start_of m f) (stretch m f) ≡ write_marks (slice xs (start_of m f) (stretch m f)) (marks_before (function_at m f).statements s) ys
    own_written = rw at_place (slice_inside xs (start_of m f) (stretch m f) (marks_before (function_at m f).statements s) ys within)

  -- all marks of f cleared
  module _ (xs : List ℕ) (f : ℕ) (hf : f < count) where
    pub cleared_own : min_report ≤ length xs → slice (write_marks xs (start_in places.starts f) (replicate (size_in places.starts f) 0)) (start_of m f) (stretch m f) ≡ replicate (stretch m f) 0
    cleared_own l =
        let a = length-replicate {A = ℕ} (stretch m f) 0 in
        let b = ends f hf in
        rw (size_is f hf, p.starts f (omega arith))
        (subst (λ (n : ℕ). slice (write_marks xs (start_of m f) (replicate (stretch m f) 0)) (start_of m f) n ≡ replicate (stretch m f) 0) a
        (slice_written xs (start_of m f) (replicate (stretch m f) 0) (omega arith)))

-- a slot's piece says whether there is a record
recorded_one : (s : List ℕ) (x : ℕ) → Good s → x < top s → Recorded (part s x) → not (eqb x 2) ≡ is_there (need_of (record_of (part s x)))
recorded_one s zero g l h =
    let z : true ≡ false = ap is_all (sym (part-0 s)) ∙ (not_plain h).0 in
    let y : ◌≡◌ {A = ℕ} 0 1 = cc in
    absurd (omega arith)
recorded_one s (suc zero) g l h =
    let z : true ≡ false = ap is_exist (sym (part-1 s)) ∙ (not_plain h).1 in
    let y : ◌≡◌ {A = ℕ} 0 1 = cc in
    absurd (omega arith)
recorded_one s (suc (suc zero)) g l h = unfold is_there need_of record_of in rw (part-2 s)
recorded_one s (suc (suc (suc x))) g l h =
    unfold is_there need_of record_of in
    let ne : suc (suc (suc x)) ≡ 2 → ⊥ = omega arith in
    rw ((seen s (suc (suc (suc x))) g (omega arith) l).is, ne_eqb (suc (suc (suc x))) 2 ne)

-- `are_recorded`, with the last expression last
recorded_last : (exprs : Records) (first n : ℕ) → are_recorded exprs first (suc n) ≡ are_recorded exprs first n ++ (is_there (need_of (get_or exprs (first + n) nothing)) ∷ [])
unfolding are_recorded
recorded_last exprs first zero = let z : first + 0 ≡ first = omega arith in rw z
recorded_last exprs first (suc n) =
    let z : first + suc n ≡ suc first + n = omega arith in
    ap (λ (r : List Bool). is_there (need_of (get_or exprs first nothing)) ∷ r) (rw z (recorded_last exprs (suc first) n))

-- the slots of the function's `all` records begin at `base`
recorded_are : (s slots : List ℕ) (base all first n : ℕ) → Memory s slots → exprs_slot ≤ base → base + all ≤ functions_slot → first + n ≤ all → recorded_in slots (base + first) n ≡ are_recorded (records_of (read s slots) base all) first n
unfolding recorded_in tab
recorded_are s slots base all first zero m low high h = unfold are_recorded in refl
recorded_are s slots base all first (suc n) m low high h =
    let i : base + (first + n) < length slots = omega (arith, m.slots) in
    let z : base + first + n ≡ base + (first + n) = omega arith in
    let one : not (eqb (get_or slots (base + first + n) 0) 2) ≡ is_there (need_of (get_or (records_of (read s slots) base all) (first + n) nothing)) =
    rw (z, records_at (read s slots) base all (first + n) (omega arith), read_at s slots (base + (first + n)) i)
    (recorded_one s (get_or slots (base + (first + n)) 0) m.good (m.below (base + (first + n)) i) (m.records (base + (first + n)) (omega arith) (omega arith))) in
    rw (recorded_are s slots base all first n m low high (omega arith), one, recorded_last (records_of (read s slots) base all) first n)

-- The marks of an emit are those of the definition.
pub emit_recorded : (bytes t s slots : List ℕ) (f first n : ℕ) → WasRead bytes t → f < length (module_of bytes t).functions → Memory s slots → first + n ≤ (row_at t f).expressions → recorded_in slots (exprs_slot + expression_number t f first) n ≡ are_recorded (records_in t exprs_slot f (read s slots)) first n
emit_recorded bytes t s slots f first n was hf memory h =
    let w = items_within bytes t was f hf in
    let z : exprs_slot + expression_number t f first ≡ exprs_slot + expressions_from (row_at t f) + first = omega arith in
    rw z (recorded_are s slots (exprs_slot + expressions_from (row_at t f)) (row_at t f).expressions first n memory (omega arith) (omega arith) h)
