-- The statements of a block, the last first: what is left of them gives the whole, each can be visited, and 16 was asked as the last visit ended.
use Prim.Native.Nat.{ℕ, suc, ◌+◌, ◌-◌, ◌<◌, ◌≤◌}
use native.Mathlib.Nat.{le_refl}
use native.Mathlib.Omega.{arith}
use mathlib.Core.Path.{◌≡◌, refl, sym, ap, ◌∙◌, subst}
use mathlib.Core.Bool.{Bool, false, ◌||◌}
use mathlib.Core.List.{List}
use lib.ListN.{length, get_or}
use Rattle.std.specs.Prelude.{Result, Ok, Err}
use Rattle.field.specs.Limits.{max_statements}
use Rattle.part.specs.Store.{Room}
use Rattle.part.specs.StoreLimits.{entries_cap}
use Rattle.module.specs.declared.handles.FunctionHandle.{FunctionHandle as Handle}
use Rattle.module.specs.Module.{BlockHandle, BlockRange}
use Rattle.module.specs.Tables.{row_at, module_of}
use Rattle.access.specs.Access.{range_at, range_from, statement_row}
use Rattle.module.specs.declared.access.BlockRange.{BlockRange as Range}
use Rattle.access.proofs.Access.{range_is, blocks-are}
use Rattle.context.specs.RequiredContext.{RequiredContext, pieces}
use Rattle.walk.specs.State.{State, Out, Walk}
use Rattle.walk.specs.State as walk
use Rattle.walk.specs.Marks.{block_at}
use Rattle.walk.specs.Statement.{visit_statement, add_statements, step_block}
use Rattle.walk.specs.Function.{add_function}
use Rattle.sound.proofs.Walks.{block_is}
use Rattle.memory.specs.Layout.{room}
use Rattle.memory.specs.Memory.{read, sum_from, context_at, Memory}
use Rattle.memory.specs.Stretches.{four_set}
use Rattle.memory.proofs.Runs.{context_pieces}
use Rattle.marks.specs.declared.places.MarkPlaces.{MarkPlaces}
use Rattle.marks.specs.declared.totals.MarkTotals.{MarkTotals}
use Rattle.marks.specs.Ray.{BlockOf, StatementIn}
use Rattle.marks.proofs.Rays.{statement_in, statement_small}
use Rattle.marks.proofs.Placed.{at_function}
use Rattle.state.specs.Frame.{frame_of}
use Rattle.state.specs.declared.answer.Tally.{Tally}
use Rattle.state.specs.declared.frame.Frame.{Frame}
use Rattle.state.specs.declared.answer.Halt.{Halt}
use Rattle.state.specs.declared.answer.Answer.{Answer}
use Rattle.block.specs.Standing.{state_in, Standing}
use Rattle.block.specs.Saved.{Saved}
use Rattle.block.specs.Blocks.{context_in, Entered, Beside, Settled, untouched, checked, BlockEnds}
use Rattle.block.specs.Visiting.{block_in, Visits, VisitEnded, VisitEnding, VisitEnds}
use Rattle.block.proofs.Saving.{saved_copy}
use Rattle.block.proofs.Tops.{put_below, saved_context, saved_state, saved_standing}
use Rattle.block.proofs.Steps.{beside_same, beside_then, beside_context}
use Rattle.block.proofs.Unroll.{statements_done, statements_again, statements_halt}
use Rattle.block.proofs.Answered.{block_anywhere}

-- a visit of a statement of the block
abbrev pub visit_one : (bytes t : List ℕ) → (f held : ℕ) → RequiredContext → ℕ → Bool → Walk Bool
visit_one bytes t f held base s r =
    visit_statement (module_of bytes t) (add_function (module_of bytes t)) (block_in bytes t f) (record { function = f; statement = s; held = held + pieces base; base = base; break_required = r })

-- n statements from `first` on are left; s, rs, open_marks and totals are what the first visit found, with a copy of the base for the current context
pub record StatementsLeft (bytes t types : List ℕ) (places : MarkPlaces) (s rs open_marks : List ℕ) (totals : MarkTotals) (f : ℕ) (b : BlockHandle) (base at held sum : ℕ) (total : Out Bool) (first inner v m : ℕ) (behind required : Bool) (n : ℕ) (u us open_after : List ℕ) (totals-after : MarkTotals) : Type 0 where
  pub holds : inner ≡ held + context_in s rs base
  pub within : (k : ℕ) → k < n → StatementIn bytes t f b (first + k)
  pub rest : add_statements (visit_one bytes t f held (context_at (read s rs) base)) first n behind required (state_in bytes t u us open_after totals-after f at v) ≡ total
  pub standing : Standing bytes t types places u us open_after totals-after f at inner m v
  pub settled : Settled held (context_at (read s rs) base) sum (context_at (read u us) at) m
  pub roomy : Room u room
  pub beside : Beside bytes t f at s rs open_marks u us open_after

module _ {bytes t types : List ℕ} {places : MarkPlaces} {s rs open_marks : List ℕ} {totals : MarkTotals} (f : Handle) {b : BlockHandle} {base at held sum visits : ℕ}
    (E : Entered bytes t types places s rs open_marks totals f.0 b base at held (held + context_in s rs base) sum visits) where
  -- the base can be counted and copied
  pub base-weighs : Memory s rs × ((base + 4 ≤ length rs) × (sum_from (read s rs) base 4 ≤ entries_cap))
  base-weighs =
      (E.standing.ready.memory, (omega (arith, E.base_below, E.standing.ready.high), omega (arith, E.few, context_pieces (read s rs) base)))

  pub base-small : {w : ℕ} → w ≡ sum_from (read s rs) base 4 → held + w ≤ entries_cap
  base-small i = omega (arith, i, E.few, context_pieces (read s rs) base)

  pub base-copies : (base + 4 ≤ length rs) × (at + 4 ≤ length rs)
  base-copies = (omega (arith, E.base_below, E.standing.ready.high), E.standing.ready.high)

  of_block : BlockOf bytes t f.0 b
  of_block = record {
    was = E.standing.ready.was_read;
    function = E.standing.ready.function;
    block = omega (arith, E.block, blocks-are t f.0 (row_at t f.0) refl bytes);
  }

  range : range_at t f.0 b ≡ block_at (module_of bytes t) f.0 b
  unfolding block_at
  range = sym (rw (at_function bytes t E.standing.ready.was_read f.0 E.standing.ready.function) (range_is bytes t f.0 b _ of_block.block))

  module _ (required : Bool) where
    abbrev start : State
    start = state_in bytes t s rs open_marks totals f.0 at visits

    abbrev whole : Out Bool
    whole = block_in bytes t f.0 b held (context_at (read s rs) base) required start

    -- the base is copied
    module _ {bs : List ℕ} (copy : bs ≡ four_set rs at (get_or rs base 0) (get_or rs (base + 1) 0) (get_or rs (base + 2) 0) (get_or rs (base + 3) 0)) where
      saved : Saved s rs at (context_at (read s rs) base) s bs
      saved = rw copy (saved_copy E.standing.ready.memory base at (omega (arith, E.standing.ready.low)) base-copies.0 base-copies.1)

      copied_beside : Beside bytes t f.0 at s rs open_marks s bs open_marks
      copied_beside = record {
        long = saved.long;
        stack = λ k x y. rw saved.reads (put_below (read s rs) at (context_at (read s rs) base) k y);
        records = λ k x y n. rw saved.reads (put_below (read s rs) at (context_at (read s rs) base) k (omega (arith, E.standing.ready.low)));
        marks_long = refl;
        marks = λ k x. refl;
      }

      base_kept : context_at (read s bs) base ≡ context_at (read s rs) base
      base_kept = beside_context copied_beside base E.base_low E.base_below

      copied_is : context_at (read s bs) at ≡ context_at (read s bs) base
      copied_is = saved_context E.standing saved ∙ sym base_kept

      abbrev begun : State
      begun = state_in bytes t s bs open_marks totals f.0 at visits

      abbrev Begun : Out Bool
      Begun = block_in bytes t f.0 b held (context_at (read s bs) base) required begun

      begun_is : Begun ≡ whole
      begun_is =
          rw (base_kept, saved_state E.standing saved)
          (block_anywhere E.standing.ready.was_read f.0 b held (context_at (read s rs) base) (context_at (read s rs) base) required start)

      unrolled : (g : Range) → range_from g ≡ range_at t f.0 b
          → add_statements (visit_one bytes t f.0 held (context_at (read s bs) base)) g.first g.count required false (walk.with_context (context_at (read s bs) base) begun) ≡ Begun
      unfolding step_block
      unrolled g e =
          let same = e ∙ range in
          let x : g.first ≡ (block_at (module_of bytes t) f.0 b).first = ap (λ (r : BlockRange). r.first) same in
          let y : g.count ≡ (block_at (module_of bytes t) f.0 b).count = ap (λ (r : BlockRange). r.count) same in
          rw (x, y)
          (sym (block_is bytes (module_of bytes t) E.standing.ready.was_read.module_is (add_function (module_of bytes t)) f.0 b held (context_at (read s bs) base) required begun))

      -- all statements are left
      pub all_left : (g : Range) → range_from g ≡ range_at t f.0 b → {w : ℕ} → w ≡ sum_from (read s rs) base 4
          → StatementsLeft bytes t types places s bs open_marks totals f.0 b base at held sum Begun g.first (held + w) visits sum required false g.count s bs open_marks totals
      all_left g e i = record {
        holds = ap (λ (n : ℕ). held + n) (i ∙ context_pieces (read s rs) base ∙ ap pieces (sym base_kept));
        within = λ k l. statement_in bytes t f.0 b of_block g.first g.count k e l;
        rest = ap (λ (c : RequiredContext). add_statements (visit_one bytes t f.0 held (context_at (read s bs) base)) g.first g.count required false (walk.with_context c begun)) copied_is ∙ unrolled g e;
        standing = rw (i, context_pieces (read s rs) base) (saved_standing E.standing saved E.base_fine (omega (arith, E.few, E.base_few)));
        settled = untouched copied_is refl;
        roomy = E.roomy;
        beside = beside_same refl refl;
      }

      module _ {first inner v m : ℕ} {behind needed : Bool} {n : ℕ} {u us open-1 : List ℕ} {totals-1 : MarkTotals}
          (L : StatementsLeft bytes t types places s bs open_marks totals f.0 b base at held sum Begun first inner v m behind needed n u us open-1 totals-1) where
        base_same : context_at (read u us) base ≡ context_at (read s rs) base
        base_same = beside_context L.beside base E.base_low E.base_below ∙ base_kept

        holds_base : inner ≡ held + context_in s rs base
        holds_base = L.holds ∙ ap (λ (c : RequiredContext). held + pieces c) base_kept

        abbrev visits_one : ℕ → Bool → Walk Bool
        visits_one = visit_one bytes t f.0 held (context_at (read s bs) base)

        abbrev now : State
        now = state_in bytes t u us open-1 totals-1 f.0 at v

        -- none is left
        pub none_left : n ≤ 0 → BlockEnds bytes t types places s rs open_marks totals f.0 base at held (held + context_in s rs base) sum whole (Ok (record { tally = (record { visits = v; sum = m }); required = needed })) u us open-1 totals-1
        none_left l =
            let z : n ≡ 0 = omega arith in
            record {
              by = record {
                is = sym (statements_done visits_one first behind needed now) ∙ (rw z at L.rest) ∙ begun_is;
                standing = rw (← holds_base) L.standing;
                settled = rw (← base_kept) L.settled;
                roomy = L.roomy;
                beside = beside_then at copied_beside L.beside (le_refl at);
              };
            }

        -- the next visit
        module _ (l : 0 < n) where
          abbrev frame : Frame
          frame = record { function = f; statement = first + (n - 1); base = base; at = at; held = inner; break_required = behind }

          there : StatementIn bytes t f.0 b (first + (n - 1))
          there = L.within (n - 1) (omega arith)

          pub statement_low : first + (n - 1) < max_statements
          statement_low = statement_small bytes t f.0 b (first + (n - 1)) there (statement_row bytes t f.0 (first + (n - 1))) refl

          pub statement_visits : Visits bytes t types places u us open-1 totals-1 frame b m v
          statement_visits = record {
            standing = L.standing;
            within = there;
            base_low = E.base_low;
            base_below = E.base_below;
            base_fine = rw base_same E.base_fine;
            base_held = omega (arith, holds_base, ap pieces base_same);
            deep = omega (arith, E.deep, L.beside.long, saved.long);
          }

          abbrev Visited : Out Bool
          Visited = visit_statement (module_of bytes t) (add_function (module_of bytes t)) (block_in bytes t f.0) (frame_of u us frame) now

          visited_is : Visited ≡ visits_one (first + (n - 1)) behind now
          visited_is = rw (L.holds, beside_context L.beside base E.base_low E.base_below)

          left_is : add_statements visits_one first (suc (n - 1)) behind needed now ≡ Begun
          left_is = let z : n ≡ suc (n - 1) = omega arith in subst (λ (k : ℕ). add_statements visits_one first k behind needed now ≡ Begun) z L.rest

          module _ {r : Result Answer Halt} {x xs open-2 : List ℕ} {totals-2 : MarkTotals} (R : VisitEnds bytes t types places u us open-1 totals-1 frame Visited r x xs open-2 totals-2) where
            pub statements_stop : {stop : Halt} → r ≡ Err stop
                → BlockEnds bytes t types places s rs open_marks totals f.0 base at held (held + context_in s rs base) sum whole (Err stop) x xs open-2 totals-2
            statements_stop e =
                let h = subst (λ (y : Result Answer Halt). VisitEnding bytes t types places u us open-1 totals-1 frame Visited y x xs open-2 totals-2) e R.by in
                record { by = sym (statements_halt visits_one first behind needed now (n - 1) (h ∙ visited_is)) ∙ left_is ∙ begun_is }

            module _ {tally : Tally} {q : Bool} (e : r ≡ Ok (record { tally = tally; required = q })) where
              ended : VisitEnded bytes t types places u us open-1 totals-1 frame Visited tally.visits tally.sum q x xs open-2 totals-2
              ended = subst (λ (y : Result Answer Halt). VisitEnding bytes t types places u us open-1 totals-1 frame Visited y x xs open-2 totals-2) e R.by

              pub statements_next : {o p : Bool} → o ≡ (behind || q) → p ≡ (needed || q)
                  → StatementsLeft bytes t types places s bs open_marks totals f.0 b base at held sum Begun first inner tally.visits tally.sum o p (n - 1) x xs open-2 totals-2
              statements_next eo ep = record {
                holds = L.holds;
                within = λ j h. L.within j (omega arith);
                rest = rw (eo, ep) (sym (statements_again visits_one first behind needed now (n - 1) (ended.is ∙ visited_is)) ∙ left_is);
                standing = ended.standing;
                settled = checked (omega (arith, ended.few, L.holds));
                roomy = ended.roomy;
                beside = beside_then at L.beside ended.beside (le_refl at);
              }
