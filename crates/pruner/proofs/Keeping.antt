-- A function's total read as the definition reads it: its marks, its context and its records, one after the other. Slots and marks of functions lie apart.
use Prim.Native.Nat.{ℕ, ◌+◌, ◌-◌, ◌*◌, ◌≤◌, ◌<◌}
use native.Mathlib.Omega.{arith}
use mathlib.Core.Path.{◌≡◌, refl, ap, sym, subst, ◌∙◌}
use mathlib.Core.Bool.{true, false}
use mathlib.Core.List.{List, ◌++◌}
use mathlib.Core.Option.{Option, some}
use lib.ListN.{length, take, drop, set}
use lib.Seq.{get_or-set_same, get_or-set_other}
use Rattle.field.specs.Limits.{max_pieces, min_report}
use Rattle.module.specs.Module.{FunctionHandle, Function, Module}
use Rattle.module.specs.Tables.{row_at, expressions_from, function_of, module_of}
use Rattle.access.proofs.Access.{expressions-are}
use Rattle.context.specs.RequiredContext.{RequiredContext, pieces}
use Rattle.request.specs.Fields.{fields, Read, malformed, got, ◌>>=◌}
use Rattle.request.specs.Context.{read_context_body, known_context}
use Rattle.request.specs.Answers.{Tail, Limits}
use Rattle.request.proofs.Bytes.{tail_then}
use Rattle.request.proofs.Entries.{kept_same, kept_on}
use Rattle.walk.specs.State.{Records, FunctionReq, record_pieces}
use Rattle.walk.specs.Resolve.{function_at}
use Rattle.walk.specs.Marks.{stretch, write_marks}
use Rattle.sound.proofs.There.{function_valid}
use Rattle.sound.proofs.Walks.{module_valid}
use Rattle.memory.specs.Layout.{totals_slot, functions_slot}
use Rattle.memory.specs.Memory.{read, context_at, Memory}
use Rattle.memory.proofs.Runs.{context_same}
use Rattle.marks.specs.declared.places.MarkPlaces.{MarkPlaces}
use Rattle.marks.specs.declared.totals.MarkTotals.{MarkTotals}
use Rattle.marks.specs.Places.{places_of, start_in, Inside}
use Rattle.marks.specs.Report.{has_total}
use Rattle.marks.specs.Report as report
use Rattle.marks.proofs.Placed.{few, at_function}
use Rattle.marks.proofs.Buffers.{inside, size_is}
use Rattle.marks.proofs.Stretches.{lent_long, lent_written}
use Rattle.marks.proofs.Sums.{written_own, written_other}
use Rattle.state.specs.State.{records_in}
use Rattle.state.proofs.Own.{fits}
use Rattle.leave.specs.Leave.{RecordsAt}
use Rattle.leave.specs.declared.leave.Stretch.{Stretch}
use Rattle.block.specs.Standing.{total_of, total_in}
use Rattle.pruner.specs.Form.{only, read_marks, read_records, known_in, read_kept}
use Rattle.pruner.specs.Stored.{HasTotals}
use Rattle.pruner.specs.Reading.{Next, RoomBeside, MarksAre, MarksWereRead, TooMany, RecordsBy, RecordsWereRead, ContextIs, ContextBy, ContextWasStored, kept_pieces, KeptBy, KeptWasRead}
use Rattle.std.specs.Prelude.{Option as Maybe, Some, None}
use Rattle.std.specs.Borrow.{Bor}

-- what counts for too much with more after it
module _ (marks : List ℕ) (sum : ℕ) where
  abbrev kept : RequiredContext → Records → FunctionReq
  kept c es = record { marks = marks; context = c; exprs = es }

  many_records : (c : RequiredContext) (x : Read Records) → max_pieces < sum + pieces c → TooMany kept_pieces sum (x >>= λ es ks. got (kept c es) ks)
  many_records c malformed h = tt
  many_records c (got es ks) h = omega arith

  many_context : (n : ℕ) (x : Read RequiredContext) → TooMany pieces sum x → TooMany kept_pieces sum (x >>= λ c hs. read_records n hs >>= λ es ks. got (kept c es) ks)
  many_context n malformed h = tt
  many_context n (got c hs) h = many_records c (read_records n hs) h

  many_last : (c : RequiredContext) (count : ℕ) (x : Read Records) → count ≡ sum + pieces c → TooMany record_pieces count x → TooMany kept_pieces sum (x >>= λ es ks. got (kept c es) ks)
  many_last c count malformed e h = tt
  many_last c count (got es ks) e h = omega arith

module _ {bytes t starts s rs : List ℕ} {totals : MarkTotals} (h : HasTotals bytes t starts s rs totals) (f : FunctionHandle) (there : f < length (module_of bytes t).functions) where
  abbrev m : Module
  m = module_of bytes t

  abbrev places : MarkPlaces
  places = places_of starts h.firsts

  lies : Inside starts f min_report
  lies = inside bytes t places h.was_read h.placed f min_report there (omega arith)

  at_f : function_at m f ≡ function_of bytes t f
  at_f = at_function bytes t h.was_read f there

  -- the numbers of variables and of records
  module _ {g x l : ℕ} (gs : g ≡ length (module_of bytes t).globals) (xs : x ≡ length (function_of bytes t f).arguments) (ls : l ≡ length (function_of bytes t f).locals) where
    pub limits : Limits g x l
    limits =
        let v = module_valid bytes m h.was_read.module_is in
        let parts = (function_valid m v f there).parts in
        let a : length (function_at m f).arguments ≡ length (function_of bytes t f).arguments = ap (λ y. length y.arguments) at_f in
        let b : length (function_at m f).locals ≡ length (function_of bytes t f).locals = ap (λ y. length y.locals) at_f in
        record {
          globals_fit = omega (arith, v.few_globals);
          args_fit = omega (arith, parts.few_arguments);
          locals_fit = omega (arith, parts.few_locals);
        }

    known_same : (fs : List ℕ) → only (known_context g x l) (read_context_body fs) ≡ only (known_in m f) (read_context_body fs)
    known_same fs =
        rw (gs, xs, ls)
        (ap (λ (y : Function). only (known_context (length (module_of bytes t).globals) (length y.arguments) (length y.locals)) (read_context_body fs)) (sym at_f))

  expressions-same : length (function_at m f).expressions ≡ (row_at t f).expressions
  expressions-same = ap (λ y. length y.expressions) at_f ∙ sym (expressions-are t f (row_at t f) refl bytes)

  -- the slots of the total
  pub context_inside : (functions_slot ≤ functions_slot + 4 * f) × (functions_slot + 4 * f + 4 ≤ length rs)
  context_inside = (omega arith, omega (arith, few bytes t h.was_read, h.memory.slots))

  module _ {from' to : ℕ} (a : from' ≡ start_in starts f) (a' : to ≡ start_in starts (f + 1)) where
    pub own_inside : (from' ≤ to) × (to ≤ length totals.marks)
    own_inside = (omega (arith, lies.ascends), omega (arith, lies.within, h.marks_long))

    lent-size : length (take (to - from') (drop from' totals.marks)) ≡ stretch m f
    lent-size = lent_long totals.marks starts f min_report from' to lies h.marks_long a a' ∙ size_is bytes t places h.was_read h.placed f there

    module _ (sum : ℕ) {b ys : List ℕ} {r : Maybe (Bor (List ℕ))} (marks : MarksWereRead b ys r) (same_long : length ys ≡ length (take (to - from') (drop from' totals.marks))) where
      size : length ys ≡ stretch m f
      size = same_long ∙ lent-size

      pub kept_no_marks : {after : MarkTotals} → Memory s rs → r ≡ None → KeptWasRead bytes t s rs totals b f sum s rs after None
      kept_no_marks mem e =
          let none-such : read_marks (stretch m f) (fields b) ≡ malformed = rw (← size) (subst (MarksAre b ys) e marks.are) in
          record { kept = kept_same mem.good; long = refl; by = rw (no_such none-such) tt }
        where
          no_such : read_marks (stretch m f) (fields b) ≡ malformed → read_kept m f (fields b) ≡ malformed
          no_such z = unfold read_kept in rw z refl

      module _ {rest : Bor (List ℕ)} (e : r ≡ Some rest) where
        abbrev lists : List ℕ
        lists = rest.now

        are : (read_marks (length ys) (fields b) ≡ got ys (fields lists)) × (2 * length ys + length lists ≡ length b) × Tail b lists
        are = subst (MarksAre b ys) e marks.are

        abbrev after_marks : Read FunctionReq
        after_marks =
            only (known_in m f) (read_context_body (fields lists)) >>= λ c hs.
            read_records (length (function_at m f).expressions) hs >>= λ es ks. got (record { marks = ys; context = c; exprs = es }) ks

        after-marks : read_kept m f (fields b) ≡ after_marks
        unfolding read_kept
        after-marks = let read_them : read_marks (stretch m f) (fields b) ≡ got ys (fields lists) = rw (← size) are.0 in rw read_them refl

        pub lists-room : RoomBeside s b (1 + (row_at t f).expressions) → RoomBeside s lists 1
        lists-room room = omega (arith, are.1)

        module _ {g x l : ℕ} (gs : g ≡ length (module_of bytes t).globals) (xs : x ≡ length (function_of bytes t f).arguments) (ls : l ≡ length (function_of bytes t f).locals)
            {v vs : List ℕ} {q : Next} (context : ContextWasStored s rs lists (functions_slot + 4 * f) sum (only (known_context g x l) (read_context_body (fields lists))) v vs q) where
          abbrev wanted : Read RequiredContext
          wanted = only (known_context g x l) (read_context_body (fields lists))

          pub kept_no_context : {after : MarkTotals} → q ≡ None → KeptWasRead bytes t s rs totals b f sum v vs after None
          kept_no_context z =
              let many : TooMany pieces sum wanted = subst (ContextBy s rs lists (functions_slot + 4 * f) sum wanted v vs) z context.by in
              record {
                kept = context.kept;
                long = context.long;
                by = rw (after-marks, ← known_same gs xs ls (fields lists)) (many_context ys sum (length (function_at m f).expressions) wanted many);
              }

          module _ {next : Bor (List ℕ)} {count : ℕ} (z : q ≡ Some (next, count)) where
            C : ContextIs s rs lists (functions_slot + 4 * f) sum wanted v vs next.now count
            C = subst (ContextBy s rs lists (functions_slot + 4 * f) sum wanted v vs) z context.by

            pub context_memory : Memory v vs
            context_memory = C.memory

            pub context_few : count ≤ max_pieces
            context_few = C.few

            pub records_room : RoomBeside s b (1 + (row_at t f).expressions) → RoomBeside v next.now (row_at t f).expressions
            records_room room = omega (arith, are.1, C.spent, context.kept.long)

            abbrev c : RequiredContext
            c = context_at (read v vs) (functions_slot + 4 * f)

            after_context : read_kept m f (fields b) ≡ (read_records (row_at t f).expressions (fields next.now) >>= λ es ks. got (record { marks = ys; context = c; exprs = es }) ks)
            after_context = after-marks ∙ rw (← known_same gs xs ls (fields lists), C.is, expressions-same) refl

            module _ {p : Stretch} (own : RecordsAt t f p) where
              pub base_inside : totals_slot + p.from + p.n ≤ functions_slot
              base_inside = omega (arith, fits f h.was_read there, own.from, own.n)

              module _ (u us : List ℕ) (after : MarkTotals) (flags : after.flags ≡ set totals.flags f true)
                  (lent : after.marks ≡ take from' totals.marks ++ (ys ++ drop (to - from') (drop from' totals.marks))) where
                written : after.marks ≡ write_marks totals.marks (start_in starts f) ys
                written = lent ∙ lent_written totals.marks starts f min_report from' to lies h.marks_long a a' ys ys refl (same_long ∙ lent_long totals.marks starts f min_report from' to lies h.marks_long a a')

                flag : has_total after f ≡ true
                flag =
                    let c = few bytes t h.was_read in
                    rw flags (get_or-set_same totals.flags f true false (omega (arith, h.flags_long)))

                own_total : report.total_in m after f ≡ some ys
                own_total = written_own bytes t places h.was_read h.placed totals after ys f there size written h.marks_long flag

                other_total : (g : ℕ) → g < length (module_of bytes t).functions → (g ≡ f → ⊥) → report.total_in m after g ≡ report.total_in m totals g
                other_total g l ne = written_other bytes t places h.was_read h.placed totals after ys f there size written g ne (rw flags (get_or-set_other totals.flags f g true false ne))

                kept_records : (w : Next) → RecordsBy v vs next.now (totals_slot + expressions_from (row_at t f)) (row_at t f).expressions count u us w → KeptBy bytes t s rs totals b f sum u us after w
                kept_records None many =
                    rw after_context (many_last ys sum c count (read_records (row_at t f).expressions (fields next.now)) C.sums many)
                kept_records (Some (end, total)) R =
                    let same_context : context_at (read u us) (functions_slot + 4 * f) ≡ c
                    = context_same (read v vs) (read u us) (functions_slot + 4 * f) (λ i k. R.same (functions_slot + 4 * f + i) (λ low high. omega (arith, fits f h.was_read there))) in
                    record {
                      is = ap (λ (y : Read FunctionReq). y >>= λ req gs. got (some req) gs) after_context ∙ rw R.is (found same_context);
                      sums = omega (arith, R.sums, C.sums, ap pieces same_context);
                      few = R.few;
                      memory = R.memory;
                      spent = record {
                        further = omega (arith, are.1, C.spent.further, R.spent.further);
                        cost = omega (arith, are.1, C.spent.cost, R.spent.cost);
                        tail = tail_then are.2 (tail_then C.spent.tail R.spent.tail);
                      };
                      same = λ k no_record no_context.
                          R.same k (λ low high. no_record (k - (totals_slot + expressions_from (row_at t f))) (omega arith) (omega arith))
                          ∙ C.same k (λ low high. no_context (k - (functions_slot + 4 * f)) (omega arith) (omega arith));
                      flagged = flag;
                      others = other_total;
                    }
                  where
                    found : context_at (read u us) (functions_slot + 4 * f) ≡ c
                        → ◌≡◌ {A = Read (Option FunctionReq)} (got (some (record { marks = ys; context = c; exprs = records_in t totals_slot f (read u us) })) (fields end.now)) (got (total_in m t (read u us) after f) (fields end.now))
                    found e = unfold total_in total_of in rw (own_total, e) refl

                pub kept_read : {w : Next} → RecordsWereRead v vs next.now (totals_slot + p.from) p.n count u us w → KeptWasRead bytes t s rs totals b f sum u us after w
                kept_read {w} records =
                    let by_row : RecordsBy v vs next.now (totals_slot + expressions_from (row_at t f)) (row_at t f).expressions count u us w = rw (← own.from, ← own.n) records.by in
                    record {
                      kept = kept_on context.kept records.kept;
                      long = records.long ∙ context.long;
                      by = kept_records w by_row;
                    }
