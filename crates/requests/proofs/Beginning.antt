-- How a request begins, in memory: the totals are read beside the request, the marks of the asked function are cleared, and room is made. From there the walk begins (`Loaded`).
use Prim.Native.Nat.{ℕ, ◌+◌, ◌-◌, ◌*◌, ◌<◌, ◌≤◌}
use native.Mathlib.Omega.{arith}
use mathlib.Core.Path.{◌≡◌, ap, ◌∙◌}
use mathlib.Core.List.{List}
use mathlib.Core.Option.{Option}
use lib.ListN.{length, get_or, replicate}
use Rattle.std.specs.Prelude.{⊤, Option as Maybe, Some, None, Result, Ok, Err}
use Rattle.field.specs.Refusal.{number}
use Rattle.field.specs.declared.refusal.Refusal.{Refusal}
use Rattle.field.specs.declared.refusal.Refusal.TheVariants.{PrunerUnfit}
use Rattle.field.specs.Limits.{absent, max_pieces, max_functions}
use Rattle.part.specs.PartReq.{none, entries}
use Rattle.part.specs.StoreLimits.{entries_cap}
use Rattle.module.specs.Module.{Module}
use Rattle.module.specs.Tables.{max_items, module_of}
use Rattle.module.specs.declared.handles.FunctionHandle.{FunctionHandle as Handle}
use Rattle.context.specs.RequiredContext.{pieces}
use Rattle.request.specs.Fields as reading
use Rattle.request.specs.Request.{Request, request_of, judge, read_request}
use Rattle.valid.proofs.Accepted.{valid}
use Rattle.walk.specs.Marks.{write_marks}
use Rattle.walk.specs.Requests.{Pruner}
use Rattle.sound.proofs.Asked as sound
use Rattle.memory.specs.Layout.{globals_slot, exprs_slot, totals_slot, stack_slot, most}
use Rattle.memory.specs.Memory.{read, sum_from, counted, context_at, Memory, Tidied}
use Rattle.memory.proofs.Slots.{read-long, sum_none, sum_suc, sum_split}
use Rattle.marks.specs.declared.totals.MarkTotals.{MarkTotals}
use Rattle.marks.specs.Places.{places_of, Inside, start_in, size_in}
use Rattle.marks.proofs.Buffers.{all_inside, cleared_own}
use Rattle.marks.proofs.Write.{write_long}
use Rattle.state.specs.State.{totals_sum}
use Rattle.pruner.specs.Form.{pruner_pieces, read_pruner}
use Rattle.pruner.specs.Stored.{pruner_in, HasTotals}
use Rattle.pruner.specs.Reading.{Untold, PrunerIs, PrunerWasRead}
use Rattle.pruner.proofs.Read.{read_fine, read_few}
use Rattle.requests.specs.Begin.{base_of, with_totals, after_request, Standing, RequestStands, RequestLoaded, Weighing, Beginning, Begins}
use Rattle.requests.proofs.Begins.{base_counts}

-- what the totals count for
module _ {s rs : List ℕ} (W : Weighing s rs) where
  one_slot : sum_from (read s rs) globals_slot 1 ≡ entries (get_or (read s rs) globals_slot none)
  one_slot = omega (arith, sum_suc (read s rs) globals_slot 0, sum_none (read s rs) globals_slot)

  slots_sum : sum_from (read s rs) totals_slot (stack_slot - totals_slot) ≡ totals_sum (read s rs)
  slots_sum = omega (arith, sum_split (read s rs) totals_slot max_items (4 * max_functions))

  pub weigh_globals : Memory s rs × ((globals_slot + 1 ≤ length rs) × (sum_from (read s rs) globals_slot 1 ≤ entries_cap))
  weigh_globals = (W.memory, (omega (arith, W.memory.slots), omega (arith, one_slot, W.few)))

  pub weigh_functions : Memory s rs × ((totals_slot + (stack_slot - totals_slot) ≤ length rs) × (sum_from (read s rs) totals_slot (stack_slot - totals_slot) ≤ entries_cap))
  weigh_functions = (W.memory, (omega (arith, W.memory.slots), omega (arith, slots_sum, W.few)))

  pub weighed : {a b : ℕ} → a ≡ sum_from (read s rs) globals_slot 1 → b ≡ sum_from (read s rs) totals_slot (stack_slot - totals_slot) → a + b ≡ entries (get_or (read s rs) globals_slot none) + totals_sum (read s rs)
  weighed x y = omega (arith, one_slot, slots_sum)

same_judge : {n g functions globals : ℕ} → n ≡ functions → g ≡ globals → (report : ℕ) (o : Option Request) {x : reading.Answer Request} → judge n g report o ≡ x → judge functions globals report o ≡ x
same_judge a b report o e = rw (← a, ← b) e

module _ {bytes t starts s rs open_marks : List ℕ} {totals : MarkTotals} (B : Beginning bytes t starts s rs open_marks totals) where
  abbrev m : Module
  m = module_of bytes t

  pub few_globals : length (module_of bytes t).globals ≤ absent
  few_globals = omega (arith, (valid bytes m B.was_read.module_is).few_globals)

  module _ (report : ℕ) (request pruner : List ℕ) {n g : ℕ} (functions : n ≡ length (module_of bytes t).functions) (globals : g ≡ length (module_of bytes t).globals) {u us : List ℕ} {a : Result Handle Refusal}
      (L : RequestLoaded n g report request u us a) where
    -- the request is refused
    pub begins_refused : {e : Refusal} → a ≡ Err e → Begins bytes t starts report request pruner u us open_marks totals (Err e)
    unfolding after_request
    begins_refused {e} z =
        let there : read_request m report request ≡ reading.refused (number e) = same_judge functions globals report (request_of request) (rw z at L.by) in
        record { by = rw there }

    module _ {f : Handle} (e : a ≡ Ok f) where
      stands : RequestStands n g report request u us f.0
      stands = rw e at L.by

      abbrev q : Request
      q = stands.q

      abbrev S : Standing u us q
      S = stands.standing

      is_read : read_request m report request ≡ reading.accepted q
      is_read = same_judge functions globals report (request_of request) stands.is

      pub has_totals : HasTotals bytes t starts u us totals
      has_totals = record {
        was_read = B.was_read;
        firsts = B.firsts;
        placed = B.placed;
        memory = S.memory;
        flags_long = B.flags_long;
        marks_long = B.totals_long;
      }

      pub untold : Untold u us
      untold = record {
        globals = S.below globals_slot (omega arith) (omega arith);
        slots = λ k a b. S.below k (omega arith) b;
        room = omega (arith, S.cost, S.memory.fits);
      }

      module _ {v vs : List ℕ} {after : MarkTotals} {r : Maybe ⊤} (P : PrunerWasRead bytes t u us pruner v vs after r) where
        -- the totals are refused
        pub begins_19 : r ≡ None → Begins bytes t starts report request pruner v vs open_marks after (Err PrunerUnfit)
        unfolding after_request with_totals
        begins_19 z =
            let is : read_pruner m pruner ≡ reading.refused 19 = rw z at P.by in
            record { by = rw (is_read, is) }

        module _ {ok : ⊤} (z : r ≡ Some ok) where
          told : PrunerIs bytes t u us pruner v vs after
          told = rw z at P.by

          abbrev old : Pruner
          old = pruner_in bytes t v vs after

          named : q.function < length (module_of bytes t).functions
          named = (sound.asked m report request q is_read).function

          pub clear_asks : Inside starts f.0 (length open_marks)
          clear_asks = rw (← stands.function_is) ((all_inside bytes t (places_of starts B.firsts) B.was_read B.placed (length open_marks) B.open_long).each q.function named)

          -- outside the totals memory has what it had
          base_is : context_at (read v vs) stack_slot ≡ base_of q
          base_is =
              rw (at 0 (omega arith), at 1 (omega arith), at 2 (omega arith), at 3 (omega arith)) S.base_is
            where
              at : (k : ℕ) → k < 4 → get_or (read v vs) (stack_slot + k) none ≡ get_or (read u us) (stack_slot + k) none
              at k h = told.same (stack_slot + k) (λ x. absurd (omega arith)) (λ x y. absurd (omega arith))

          no_records : (k : ℕ) → exprs_slot ≤ k → k < totals_slot → get_or (read v vs) k none ≡ none
          no_records k x y = told.same k (λ z. absurd (omega arith)) (λ z w. absurd (omega arith)) ∙ S.below k (omega arith) (omega arith)

          above : (k : ℕ) → stack_slot + 4 ≤ k → get_or (read v vs) k none ≡ none
          above k x = told.same k (λ z. absurd (omega arith)) (λ z w. absurd (omega arith)) ∙ S.above k x

          few : pruner_pieces old ≤ max_pieces
          few = read_few m pruner old told.is

          pub tidy_asks : length us ≡ length rs → Memory v vs × (counted (read v vs) ≤ most)
          tidy_asks l = (
            told.memory,
            omega (
              arith,
              base_counts (read v vs) (omega (arith, read-long v vs, P.long, B.slots_long)) no_records above,
              ap pieces base_is,
              S.base_few,
              few,
              told.totals-sum,
            ),
          )

          module _ {w ws : List ℕ} (T : Tidied v vs w ws) (l : length us ≡ length rs) where
            pub weighs : Weighing w ws
            weighs = record { memory = T.memory; few = rw T.same (omega (arith, few, told.totals-sum)) }

            pub begins : {cleared : List ℕ} {sum : ℕ} → cleared ≡ write_marks open_marks (start_in starts f.0) (replicate (size_in starts f.0) 0)
                → sum ≡ entries (get_or (read w ws) globals_slot none) + totals_sum (read w ws) → Begins bytes t starts report request pruner w ws cleared after (Ok (record { function = f; sum = sum }))
            unfolding after_request with_totals
            begins {cleared} {sum} marks count = record {
              by = record {
                q = q;
                old = old;
                is = rw (is_read, told.is);
                function_is = stands.function_is;
                sum_is = count ∙ rw T.same (omega (arith, told.totals-sum));
                firsts = B.firsts;
                placed = B.placed;
                loaded = λ types firsts typed placed. record {
                  was_read = B.was_read;
                  typed = typed;
                  placed = placed;
                  open_long = rw marks (omega (arith, write_long open_marks (start_in starts f.0) (replicate (size_in starts f.0) 0), B.open_long));
                  memory = T.memory;
                  slots_long = omega (arith, T.long, P.long, B.slots_long);
                  globals_are = rw T.same;
                  functions_are = rw T.same;
                  totals-sum = rw T.same told.totals-sum;
                  unwalked = λ g h e. rw T.same (told.unwalked g h e);
                  base_is = rw T.same base_is;
                  no_records = λ k x y. rw T.same (no_records k x y);
                  above = λ k x. rw T.same (above k x);
                  no_marks = rw (marks, stands.function_is) (cleared_own bytes t (places_of starts B.firsts) B.was_read B.placed open_marks f.0 (rw stands.function_is at named) B.open_long);
                  function = named;
                  fine = (sound.asked m report request q is_read).fine;
                  fine_pruner = read_fine m pruner old told.is;
                  few = few;
                  base_few = rw (T.same, base_is) S.base_few;
                  roomy = T.roomy;
                };
              };
            }
