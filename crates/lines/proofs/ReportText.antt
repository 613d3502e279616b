-- The text of a report in four pieces; how long it can be, by what reading, 16 and the walk allow; and that it is the text of the walk's report. A refusal's text in three.
use Prim.Native.Nat.{ℕ, ◌+◌, ◌*◌, ◌<◌, ◌≤◌}
use mathlib.Core.Path.{◌≡◌, refl, sym, ap, ◌∙◌}
use mathlib.Core.Bool.{Bool}
use mathlib.Core.List.{List, [], ◌∷◌, ◌++◌, append-nil}
use mathlib.Core.Option.{Option}
use native.Mathlib.Omega.{arith}
use lib.ListN.{length, get_or, drop, length-take, length-append}
use Rattle.field.specs.Limits.{max_pieces}
use Rattle.module.specs.Module.{Module, FunctionHandle}
use Rattle.module.specs.File.{read_module, accepted}
use Rattle.module.specs.declared.tables.Row.{Row}
use Rattle.module.specs.Tables.{row_at, expressions_from, items_to, max_items, module_of}
use Rattle.context.specs.RequiredContext.{pieces}
use Rattle.context.specs.Contexts.{context_of}
use Rattle.valid.specs.Valid.{PartsValid, entries_below}
use Rattle.valid.proofs.Accepted.{valid}
use Rattle.walk.specs.State.{FunctionReq, record_pieces}
use Rattle.walk.specs.Resolve.{function_at}
use Rattle.walk.specs.Marks.{stretch}
use Rattle.walk.specs.Requests.{Report, report_of}
use Rattle.walk.specs.Proper.{FineContext, FineRecords}
use Rattle.sound.proofs.Bytes.{stretch-few}
use Rattle.memory.specs.Layout.{exprs_slot}
use Rattle.memory.specs.Memory.{read, records_of, context_at, Memory}
use Rattle.memory.proofs.Slots.{read_at}
use Rattle.state.specs.State.{records_in, state_of}
use Rattle.marks.specs.declared.places.MarkPlaces.{MarkPlaces}
use Rattle.marks.specs.Places.{slice, start_of}
use Rattle.marks.proofs.Placed.{within}
use Rattle.lines.specs.Text.{number, required_text, context_text, records_text, report_text, refused_word, refused_text}
use Rattle.lines.specs.Reported.{statements_in, report_in, text_in, max_text, Reporting, ReportingIn}
use Rattle.lines.specs.declared.text.Text.{Text}
use Rattle.lines.specs.Wrote.{longest, Writes, Begins}
use Rattle.lines.proofs.Writing.{texts, Rooms, rooms, writes_then, writes_as, writes_first}
use Rattle.lines.proofs.Long.{ten_long, FewOwn, report_long}
use Rattle.lines.proofs.StatementLines.{marked_in}

-- of the context in four slots
module _ (s rs : List ℕ) (k : ℕ) (high : k + 4 ≤ length rs) where
  pub context_there : context_at (read s rs) k ≡ context_of s (record { globals = get_or rs k 0; locals = get_or rs (k + 1) 0; args = get_or rs (k + 2) 0; retval = get_or rs (k + 3) 0 })
  context_there =
      rw (read_at s rs k (omega arith), read_at s rs (k + 1) (omega arith), read_at s rs (k + 2) (omega arith), read_at s rs (k + 3) (omega arith))

-- of the records of f, by its row
module _ (t : List ℕ) (f : ℕ) {r : Row} (row : r ≡ row_at t f) (items : items_to (row_at t f) ≤ max_items) where
  pub records_there : (s rs : List ℕ) → records_text 0 (records_in t exprs_slot f (read s rs)) ≡ records_text 0 (records_of (read s rs) (exprs_slot + expressions_from r) r.expressions)
  records_there s rs = rw row

  pub records_within : (s rs : List ℕ) → Memory s rs → (exprs_slot + expressions_from r + r.expressions ≤ length rs) × (r.expressions < longest)
  records_within s rs memory =
      let e = ap items_to row in
      (omega (arith, memory.slots), omega arith)

-- how long it can be
module _ (bytes : List ℕ) (m : Module) (was : read_module bytes ≡ accepted m) (f : FunctionHandle) (h : f < length m.functions) where
  parts : PartsValid (length m.types) (length m.globals) (entries_below f m.functions) (function_at m f).arguments (function_at m f).locals (function_at m f).expressions (function_at m f).statements
  unfolding function_at
  parts = ((valid bytes m was).functions f _ h).parts

  few_own : FewOwn m f
  few_own =
      record {
        globals = omega (arith, (valid bytes m was).few_globals);
        arguments = omega (arith, parts.few_arguments);
        locals = omega (arith, parts.few_locals);
        expressions = omega (arith, parts.few_expressions);
        statements = omega (arith, parts.few_statements);
      }

  pub text_few : (report : Report) → FineContext m f report.context → FineRecords m f report.exprs → length report.marks ≤ stretch m f
      → pieces report.context + record_pieces report.exprs ≤ 2 * max_pieces → length (report_text m f report) ≤ max_text
  text_few report context exprs marks few =
      omega (arith, report_long m f report few_own context exprs, stretch-few bytes m was f h, parts.few_expressions, parts.few_statements)

-- memory with a report has what its lines are written from
pub reporting_in : {bytes t : List ℕ} {places : MarkPlaces} {s rs marks : List ℕ} {f at : ℕ} → Reporting bytes t places s rs marks f at → ReportingIn bytes t places.firsts s rs marks f at
reporting_in R = record { marked = marked_in R.marked; memory = R.memory; high = R.high; context = R.context; exprs = R.exprs; few = R.few }

-- as memory has it
module _ {bytes t firsts s rs marks : List ℕ} {f at : ℕ} (h : ReportingIn bytes t firsts s rs marks f at) (required : Bool) where
  pub text_long : length (text_in bytes t s rs marks f at required) ≤ max_text
  unfolding text_in
  text_long =
      let m = module_of bytes t in
      let marked = h.marked in
      let short : length (slice marks (start_of m f) (stretch m f)) ≤ stretch m f = omega (arith, length-take (stretch m f) (drop (start_of m f) marks)) in
      text_few bytes m marked.was_read.module_is f marked.function (report_in bytes t s rs marks f at required) h.context h.exprs short h.few

  text_is : text_in bytes t s rs marks f at required ≡ required_text required ++ (context_text (context_at (read s rs) at) ++ (records_text 0 (records_in t exprs_slot f (read s rs)) ++ statements_in bytes t marks f))
  unfolding text_in report_text statements_in
  text_is = refl

  pub report_rooms : {n : ℕ} → n ≡ 0 → Rooms n (required_text required ∷ (context_text (context_at (read s rs) at) ∷ (records_text 0 (records_in t exprs_slot f (read s rs)) ∷ (statements_in bytes t marks f ∷ []))))
  unfolding texts
  report_rooms z =
      rooms (required_text required ∷ (context_text (context_at (read s rs) at) ∷ (records_text 0 (records_in t exprs_slot f (read s rs)) ∷ (statements_in bytes t marks f ∷ []))))
      (record { room = omega (arith, z, text_long) })
      (text_is ∙ rw (append-nil (statements_in bytes t marks f)))

  pub items_within : items_to (row_at t f) ≤ max_items
  items_within = within bytes t h.marked.was_read f h.marked.function

  pub report_begins : {u v w x y : Text} → u.at ≡ 0 → max_text ≤ length u.out.now → Writes u v (required_text required) → Writes v w (context_text (context_at (read s rs) at))
      → Writes w x (records_text 0 (records_in t exprs_slot f (read s rs))) → Writes x y (statements_in bytes t marks f) → Begins u y (text_in bytes t s rs marks f at required)
  report_begins z room a b c d =
      writes_first z (writes_as (sym text_is) (writes_then a (writes_then b (writes_then c d)))) (omega (arith, text_long))

-- of a refusal
module _ (n : ℕ) (h : n < longest) where
  refused_long : length (refused_text n) ≤ 19
  unfolding refused_text
  refused_long = omega (arith, length-append (number n) (10 ∷ []), ten_long n h)

  pub refused_rooms : {at : ℕ} → at ≡ 0 → Rooms at (refused_word ∷ (number n ∷ ((10 ∷ []) ∷ [])))
  unfolding texts refused_text
  refused_rooms z = rooms (refused_word ∷ (number n ∷ ((10 ∷ []) ∷ []))) (record { room = omega (arith, z, refused_long) }) refl

  pub refused_begins : {u v w x : Text} → u.at ≡ 0 → max_text ≤ length u.out.now → Writes u v refused_word → Writes v w (number n) → Writes w x (10 ∷ []) → Begins u x (refused_text n)
  unfolding refused_text
  refused_begins z room a b c = writes_first z (writes_then a (writes_then b c)) (omega (arith, refused_long))

-- it is the text of the walk's report
pub text_of : (bytes t s rs marks : List ℕ) (f at : ℕ) (required : Bool) (functions : List (Option FunctionReq)) (visits : ℕ)
    → report_text (module_of bytes t) f (report_of (module_of bytes t) f (state_of t f at (read s rs) (record { marks = slice marks (start_of (module_of bytes t) f) (stretch (module_of bytes t) f); functions = functions }) visits) required) ≡ text_in bytes t s rs marks f at required
unfolding text_in report_text report_of
text_of bytes t s rs marks f at required functions visits = refl
