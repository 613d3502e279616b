-- What is written of a pruner fits the least buffer: three fields for each piece, of which 16 allows few; one for each mark and each expression, of which a
-- file has few; and five for each function.
use Prim.Native.Nat.{ℕ, suc, ◌+◌, ◌*◌, ◌<◌, ◌≤◌}
use native.Mathlib.Omega.{arith}
use native.Mathlib.Nat.{zero-add, add-zero}
use mathlib.Core.Path.{◌≡◌, refl, ap, sym, subst, ◌∙◌}
use mathlib.Core.List.{List, [], ◌∷◌, ◌++◌}
use mathlib.Core.Option.{Option, some, none as nothing}
use lib.ListN.{length, get_or, length-append}
use Rattle.field.specs.Limits.{max_pieces}
use Rattle.part.specs.PartReq.{PartReq}
use Rattle.module.specs.Module.{FunctionHandle, Function, Module}
use Rattle.module.specs.File.{accepted, read_module}
use Rattle.context.specs.RequiredContext.{RequiredContext, pieces}
use Rattle.request.specs.Part.{write_variables}
use Rattle.request.specs.Context.{write_context_body}
use Rattle.request.proofs.ContextBytes.{length-context}
use Rattle.request.proofs.Room.{part_long, variables_long, context_long}
use Rattle.valid.proofs.Accepted.{valid}
use Rattle.walk.specs.State.{Records, FunctionReq, record_pieces, function_pieces, total_pieces}
use Rattle.walk.specs.Resolve.{function_at}
use Rattle.walk.specs.Marks.{stretch}
use Rattle.walk.specs.Requests.{Pruner}
use Rattle.walk.specs.Proper.{FinePruner}
use Rattle.sound.specs.Sizes.{records_of, total}
use Rattle.sound.proofs.Sizes.{few_records}
use Rattle.sound.proofs.Bytes.{stretch-few}
use Rattle.pruner.specs.Form.{min_pruner, pruner_pieces, write_record, write_records, write_total, write_totals, write_body, write_pruner}
use Rattle.pruner.proofs.Fine.{no_function, FineTotal}
use Rattle.pruner.proofs.Back.{written_long}

record_long : (o : Option PartReq) (es : Records) → length (write_record o) + 3 * record_pieces es ≤ 1 + 3 * record_pieces (o ∷ es)
unfolding write_record record_pieces
record_long nothing es = omega arith
record_long (some p) es = omega (arith, part_long p)

pub records_long : (es : Records) → length (write_records es) ≤ length es + 3 * record_pieces es
unfolding write_records
records_long [] = omega arith
records_long (o ∷ es) = omega (arith, length-append (write_record o) (write_records es), record_long o es, records_long es)

pub lists_long : (c : RequiredContext) → length (write_context_body c) ≤ 4 + 3 * pieces c
lists_long c = omega (arith, length-context c, context_long c)

module _ (m : Module) where
  -- the fields of a function's total that are no pieces
  abbrev room : FunctionHandle → ℕ
  room f = 5 + (stretch m f + length (function_at m f).expressions)

  total_long : (f : FunctionHandle) (o : Option FunctionReq) → FineTotal m f o → length (write_total o) ≤ room f + 3 * function_pieces o
  unfolding write_total function_pieces
  total_long f nothing h = omega arith
  total_long f (some t) h =
      let fine = h t refl in
      let lists = write_context_body t.context in
      let records = write_records t.exprs in
      omega (arith, length-append t.marks (lists ++ records), length-append lists records, lists_long t.context, records_long t.exprs, fine.marks.long, fine.exprs.long)

  -- fs are the functions from f on
  record Functions (d : Function) (f : FunctionHandle) (fs : List Function) : Type 0 where
    pub there : f + length fs ≤ length m.functions
    pub each : (i : ℕ) → i < length fs → function_at m (i + f) ≡ get_or fs i d

  next : (i f : ℕ) → i + suc f ≡ suc i + f
  next i f = omega arith

  functions_next : {d : Function} {f : FunctionHandle} {x : Function} {fs : List Function} → Functions d f (x ∷ fs) → Functions d (suc f) fs
  functions_next {d} {f} {x} {fs} h =
      record { there = omega (arith, h.there); each = λ i l. ap (function_at m) (next i f) ∙ h.each (suc i) (omega arith) }

  module _ (bytes : List ℕ) (read : read_module bytes ≡ accepted m) where
    room-few : {d : Function} {f : FunctionHandle} {x : Function} {fs : List Function} → Functions d f (x ∷ fs) → room f ≤ 5 + 2 * records_of x
    room-few {d} {f} {x} {fs} h =
        let here : function_at m f ≡ x = ap (function_at m) (sym (zero-add f)) ∙ h.each 0 (omega arith) in
        let few = stretch-few bytes m read f (omega (arith, h.there)) in
        let same : records_of (function_at m f) ≡ records_of x = ap records_of here in
        omega arith

    totals_long : {d : Function} (f : FunctionHandle) (fs : List Function) (ts : List (Option FunctionReq)) → Functions d f fs → length ts ≡ length fs
        → ((i : ℕ) → FineTotal m (i + f) (get_or ts i nothing)) → length (write_totals ts) ≤ 5 * length fs + 2 * total records_of fs + 3 * total_pieces ts
    unfolding write_totals total_pieces total
    totals_long f [] [] h e k = omega arith
    totals_long f [] (t ∷ ts) h e k = absurd (omega arith)
    totals_long f (x ∷ fs) [] h e k = absurd (omega arith)
    totals_long f (x ∷ fs) (t ∷ ts) h e k =
        let first : FineTotal m f t = subst (λ (g : ℕ). FineTotal m g t) (zero-add f) (k 0) in
        let later : (i : ℕ) → FineTotal m (i + suc f) (get_or ts i nothing) = λ i. subst (λ (g : ℕ). FineTotal m g (get_or ts i nothing)) (sym (next i f)) (k (suc i)) in
        let long : length ts ≡ length fs = omega arith in
        omega (arith, length-append (write_total t) (write_totals ts), total_long f t first, room-few h, totals_long (suc f) fs ts (functions_next h) long later)

    all_functions : Functions no_function 0 m.functions
    unfolding function_at
    all_functions = record { there = omega arith; each = λ i l. ap (function_at m) (add-zero i) }

    -- the totals that requests can leave
    pub pruner_long : (pruner : Pruner) → FinePruner m pruner → pruner_pieces pruner ≤ max_pieces → length (write_pruner pruner) ≤ min_pruner
    unfolding write_body
    pruner_long pruner h few =
        let ts = pruner.functions in
        let each : (i : ℕ) → FineTotal m (i + 0) (get_or ts i nothing) = λ i. subst (λ (g : ℕ). FineTotal m g (get_or ts i nothing)) (sym (add-zero i)) (h.functions.each i) in
        let totals = totals_long 0 m.functions ts all_functions h.functions.long each in
        let many = (valid bytes m read).few_functions in
        omega (arith, written_long pruner [], length-append (write_variables pruner.globals) (write_totals ts), variables_long pruner.globals, totals, few_records bytes m read, many)
