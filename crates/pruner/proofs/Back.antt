-- What is written of a pruner is read back, whatever follows it in the buffer: field by field, each part by the law of its own form.
use Prim.Native.Nat.{ℕ, suc, ◌+◌, ◌*◌, ◌≤◌}
use native.Mathlib.Omega.{arith}
use native.Mathlib.Nat.{zero-add}
use mathlib.Core.Path.{◌≡◌, refl, ap, sym, subst, ◌∙◌}
use mathlib.Core.Bool.{Bool, true, false}
use mathlib.Core.List.{List, [], ◌∷◌, ◌++◌, append_assoc, append-nil}
use mathlib.Core.Option.{Option, some, none as nothing}
use lib.Dec.{leb}
use borrow.Author.Tests.{le-leb}
use lib.ListN.{length, get_or, drop}
use Rattle.field.specs.Limits.{max_pieces}
use Rattle.part.specs.PartReq.{PartReq, spine}
use Rattle.module.specs.Module.{FunctionHandle, Module}
use Rattle.context.specs.RequiredContext.{variable}
use Rattle.request.specs.Fields.{fields, got, whole, accepted}
use Rattle.request.specs.Part.{read_return, write_variables}
use Rattle.request.specs.Request.{all_below}
use Rattle.request.specs.Context.{write_context_body}
use Rattle.request.proofs.Back.{read_part-write_part, read_variables-write_variables, return_part, context_body}
use Rattle.valid.specs.Valid.{Valid}
use Rattle.walk.specs.State.{Records, FunctionReq}
use Rattle.walk.specs.Requests.{Pruner, fresh}
use Rattle.walk.specs.Proper.{FineRecord, EachRecord, EachMark, FineFunction, FinePruner}
use Rattle.pruner.specs.Form.{min_pruner, pruner_pieces, write_record, write_records, write_total, write_totals, write_body, write_pruner, only, read_marks, read_records, known_in, read_kept, read_total, read_totals, read_body, stated, is_pruner, is_fresh, read_pruner}
use Rattle.pruner.proofs.Framed.{wide_long, wide_word, wide_stated, wide_framed, wide_fields}
use Rattle.pruner.proofs.Fine.{FineTotal, part_filed, variables_filed, all-below, context_filed, context_known}

only-got : {A : Type 0} (holds : A → Bool) (a : A) (fs : List ℕ) → holds a ≡ true → only holds (got a fs) ≡ got a fs
unfolding only
only-got holds a fs h = rw h

marks_back : (bs fs : List ℕ) → EachMark bs → read_marks (length bs) (bs ++ fs) ≡ got bs fs
unfolding read_marks
marks_back [] fs h = refl
marks_back (b ∷ bs) fs h = rw (le-leb b 1 h.0, marks_back bs fs h.1)

record_back : (o : Option PartReq) (fs : List ℕ) → FineRecord o → read_return (write_record o ++ fs) ≡ got o fs
unfolding read_return write_record
record_back nothing fs h = refl
record_back (some p) fs h = return_part p fs ∙ rw (read_part-write_part p fs (part_filed p h))

pub records_back : (es : Records) (fs : List ℕ) → EachRecord es → read_records (length es) (write_records es ++ fs) ≡ got es fs
unfolding read_records write_records
records_back [] fs h = refl
records_back (o ∷ es) fs h =
    rw (append_assoc (write_record o) (write_records es) fs, record_back o (write_records es ++ fs) h.0, records_back es fs h.1)

module _ (m : Module) (v : Valid m) where
  kept_back : (f : FunctionHandle) (t : FunctionReq) (fs : List ℕ) → FineFunction m f t
      → read_kept m f (t.marks ++ (write_context_body t.context ++ (write_records t.exprs ++ fs))) ≡ got t fs
  unfolding read_kept
  kept_back f t fs h =
      let c = t.context in
      let gs = write_records t.exprs ++ fs in
      let marks = marks_back t.marks (write_context_body c ++ gs) h.marks.each in
      let lists = context_body c gs (context_filed m f c h.context v) in
      let known = only-got (known_in m f) c gs (context_known m f c h.context) in
      rw (← h.marks.long, marks, lists, known, ← h.exprs.long, records_back t.exprs fs h.exprs.each)

  total_back : (f : FunctionHandle) (o : Option FunctionReq) (fs : List ℕ) → FineTotal m f o → read_total m f (write_total o ++ fs) ≡ got o fs
  unfolding read_total write_total
  total_back f nothing fs h = refl
  total_back f (some t) fs h = simp append_assoc (rw (kept_back f t fs (h t refl)))

  totals_back : (f : FunctionHandle) (ts : List (Option FunctionReq)) (fs : List ℕ)
      → ((i : ℕ) → FineTotal m (i + f) (get_or ts i nothing)) → read_totals m f (length ts) (write_totals ts ++ fs) ≡ got ts fs
  unfolding read_totals write_totals
  totals_back f [] fs h = refl
  totals_back f (t ∷ ts) fs h =
      let first : FineTotal m f t = subst (λ (g : ℕ). FineTotal m g t) (zero-add f) (h 0) in
      let next : (i : ℕ) → suc i + f ≡ i + suc f = λ i. omega arith in
      let later : (i : ℕ) → FineTotal m (i + suc f) (get_or ts i nothing) = λ i. subst (λ (g : ℕ). FineTotal m g (get_or ts i nothing)) (next i) (h (suc i)) in
      rw (append_assoc (write_total t) (write_totals ts) fs, total_back f t (write_totals ts ++ fs) first, totals_back (suc f) ts fs later)

  body_back : (pruner : Pruner) (fs : List ℕ) → FinePruner m pruner → read_body m (write_body pruner ++ fs) ≡ got pruner fs
  unfolding read_body write_body
  body_back pruner fs h =
      let gs = pruner.globals in
      let ts = pruner.functions in
      let hs = write_totals ts ++ fs in
      let there : all_below (variable (length m.globals)) gs ≡ true = all-below _ spine gs h.globals in
      let same : (i : ℕ) → i ≡ i + 0 = λ i. omega arith in
      let each : (i : ℕ) → FineTotal m (i + 0) (get_or ts i nothing) = λ i. subst (λ (g : ℕ). FineTotal m g (get_or ts i nothing)) (same i) (h.functions.each i) in
      let globals = read_variables-write_variables gs hs (variables_filed (length m.globals) gs (omega (arith, v.few_globals)) h.globals) in
      rw (append_assoc (write_variables gs) (write_totals ts) fs, globals, only-got (all_below (variable (length m.globals))) gs hs there, ← h.functions.long, totals_back 0 ts fs each)

two : (n : ℕ) → leb 2 (suc (suc n)) ≡ true
two n = le-leb 2 (suc (suc n)) (omega arith)

-- the record that is written is found, whatever follows it
module _ (pruner : Pruner) (rest : List ℕ) where
  abbrev body : List ℕ
  body = write_body pruner

  pub written_long : length (write_pruner pruner) ≡ 6 + 2 * length (write_body pruner)
  unfolding write_pruner
  written_long = wide_long 80 78 body

  stated-back : stated (write_pruner pruner ++ rest) ≡ write_pruner pruner
  unfolding write_pruner
  stated-back = wide_stated 80 78 body rest

  pruner-back : length (write_pruner pruner) ≤ min_pruner → is_pruner (write_pruner pruner ++ rest) ≡ true
  unfolding write_pruner
  pruner-back h =
      let fits : leb (6 + 2 * length body) min_pruner ≡ true = le-leb (6 + 2 * length body) min_pruner (omega (arith, wide_long 80 78 body)) in
      rw (wide_stated 80 78 body rest, wide_word 80 78 body rest, wide_framed 80 78 body, fits)

  not_fresh : is_fresh (write_pruner pruner ++ rest) ≡ false
  unfolding is_fresh write_pruner
  not_fresh = rw two

  fields_back : fields (drop 6 (write_pruner pruner)) ≡ write_body pruner
  unfolding write_pruner
  fields_back = wide_fields 80 78 body

-- Totals that are written are read back, where they fit the least buffer and 16 allows them.
pub read_pruner-write_pruner : (m : Module) → Valid m → (pruner : Pruner) (rest : List ℕ) → FinePruner m pruner → length (write_pruner pruner) ≤ min_pruner
    → pruner_pieces pruner ≤ max_pieces → read_pruner m (write_pruner pruner ++ rest) ≡ accepted pruner
unfolding read_pruner whole
read_pruner-write_pruner m v pruner rest h fits few =
    let read : read_body m (write_body pruner) ≡ got pruner [] = ap (read_body m) (sym (append-nil (write_body pruner))) ∙ body_back m v pruner [] h in
    rw (not_fresh pruner rest, pruner-back pruner rest fits, stated-back pruner rest, fields_back pruner rest, read, le-leb (pruner_pieces pruner) max_pieces few)

-- Two bytes that are zero are the fresh pruner.
pub read_pruner-zero : (m : Module) (s : List ℕ) → read_pruner m (0 ∷ (0 ∷ s)) ≡ accepted (fresh m)
unfolding read_pruner is_fresh
read_pruner-zero m s = rw two
