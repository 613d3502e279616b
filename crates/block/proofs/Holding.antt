-- An expression asked in a context below two that are held (`break_if`): the state can be asked there, and afterwards stands with both above as they were.
use Prim.Native.Nat.{ℕ, ◌+◌, ◌<◌, ◌≤◌}
use native.Mathlib.Omega.{arith}
use mathlib.Core.Path.{◌≡◌, refl, sym, ap, ◌∙◌}
use mathlib.Core.List.{List}
use lib.ListN.{get_or}
use Rattle.part.specs.PartReq.{PartReq, none}
use Rattle.module.specs.Module.{Module, ExpressionHandle}
use Rattle.module.specs.Tables.{row_at, items_to, module_of}
use Rattle.context.specs.RequiredContext.{pieces}
use Rattle.walk.specs.State.{Out, went}
use Rattle.walk.specs.Expression.{add_expression}
use Rattle.walk.specs.Proper.{Fine, FineContext, ProperState}
use Rattle.walk.proofs.Proper.{expression_proper}
use Rattle.sound.proofs.Walks.{module_sound}
use Rattle.memory.specs.Layout.{exprs_slot, totals_slot, stack_slot}
use Rattle.memory.specs.Memory.{read, context_at}
use Rattle.memory.proofs.Runs.{context_same}
use Rattle.marks.specs.declared.places.MarkPlaces.{MarkPlaces}
use Rattle.marks.specs.declared.totals.MarkTotals.{MarkTotals}
use Rattle.state.specs.Ready.{Ready, Ended}
use Rattle.block.specs.Standing.{rest_in, state_in, Standing}
use Rattle.block.specs.Blocks.{context_in, Beside}
use Rattle.block.proofs.Same.{functions_same, sum_kept, unwalked_kept}
use Rattle.block.proofs.Steps.{items_within}

module _ {bytes t types : List ℕ} {places : MarkPlaces} {s rs open_marks : List ℕ} {totals : MarkTotals} {f sum visits : ℕ} (at held : ℕ)
    (S : Standing bytes t types places s rs open_marks totals f (at + 4 + 4) (held + context_in s rs at + context_in s rs (at + 4)) sum visits) (low : stack_slot ≤ at) where
  abbrev m : Module
  m = module_of bytes t

  -- what is held while the context at `at` is the current one
  abbrev pub both_held : ℕ
  both_held = held + (context_in s rs (at + 4) + context_in s rs (at + 4 + 4))

  pub holding_ready : Ready bytes t s rs f at both_held sum
  holding_ready = record {
    was_read = S.ready.was_read;
    function = S.ready.function;
    memory = S.ready.memory;
    low = low;
    high = omega (arith, S.ready.high);
    sums = S.ready.sums;
    owned = omega (arith, S.ready.owned);
    small = omega (arith, S.ready.small);
  }

  abbrev pub HeldAsks : ExpressionHandle → PartReq → Out (Unit {0})
  HeldAsks e p = add_expression m f both_held e p (state_in bytes t s rs open_marks totals f at visits)

  module _ (e : ExpressionHandle) (p : PartReq) {v n : ℕ} {u us : List ℕ} (E : Ended bytes t f at both_held s rs (rest_in m t f (read s rs) open_marks totals) (HeldAsks e p) v n u us) where
    items : exprs_slot + items_to (row_at t f) ≤ totals_slot
    items = items_within f S.ready.was_read S.ready.function

    totals_kept : (k : ℕ) → totals_slot ≤ k → k < stack_slot → get_or (read u us) k none ≡ get_or (read s rs) k none
    totals_kept k a b =
        let l = items in
        E.others.same k (record { no_total = omega arith; no_record = λ i x z. omega arith; no_context = λ i x z. omega arith })

    closed_kept : (k : ℕ) → exprs_slot ≤ k → k < exprs_slot + (row_at t f).items → get_or (read u us) k none ≡ get_or (read s rs) k none
    closed_kept k a b =
        let l = items in
        E.others.same k (record { no_total = omega arith; no_record = λ i x z. omega arith; no_context = λ i x z. omega arith })

    above_kept : (k : ℕ) → at + 4 ≤ k → get_or (read u us) k none ≡ get_or (read s rs) k none
    above_kept k a =
        let l = items in
        E.others.same k (record { no_total = omega arith; no_record = λ i x z. omega arith; no_context = λ i x z. omega arith })

    pub held_beside : Beside bytes t f at s rs open_marks u us open_marks
    held_beside =
        let l = items in
        record {
          long = E.others.long;
          stack = λ k a b. E.others.same k (record { no_total = omega arith; no_record = λ i x z. omega arith; no_context = λ i x z. omega arith });
          records = λ k a b n. E.others.same k (record { no_total = omega arith; no_record = λ i x z. n i x (sym z); no_context = λ i x z. omega arith });
          marks_long = refl;
          marks = λ k a. refl;
        }

    pub held_first : context_at (read u us) (at + 4) ≡ context_at (read s rs) (at + 4)
    held_first = context_same (read s rs) (read u us) (at + 4) (λ i x. above_kept (at + 4 + i) (omega arith))

    pub held_second : context_at (read u us) (at + 4 + 4) ≡ context_at (read s rs) (at + 4 + 4)
    held_second = context_same (read s rs) (read u us) (at + 4 + 4) (λ i x. above_kept (at + 4 + 4 + i) (omega arith))

    pub held_asked : went (state_in bytes t u us open_marks totals f at v) tt ≡ HeldAsks e p
    held_asked = rw (functions_same (read s rs) (read u us) S.ready.was_read totals_kept totals) E.is

    -- the context that was asked in is a fine one
    module _ (fine : Fine p) (below : FineContext m f (context_at (read s rs) at)) where
      pub held_proper : ProperState m 0 f (state_in bytes t u us open_marks totals f at v)
      held_proper =
          let before : ProperState m 0 f (state_in bytes t s rs open_marks totals f at visits) = record {
            context = below;
            exprs = S.proper.exprs;
            marks = S.proper.marks;
            globals = S.proper.globals;
            functions = S.proper.functions;
            visits = S.proper.visits;
          } in
          expression_proper m (module_sound bytes m S.ready.was_read.module_is) f both_held 0 e p (state_in bytes t s rs open_marks totals f at visits)
          (state_in bytes t u us open_marks totals f at v) tt fine before (sym held_asked)

      pub held-standing : Standing bytes t types places u us open_marks totals f (at + 4 + 4) (held + context_in u us at + context_in u us (at + 4)) n v
      held-standing =
          let w = S.ready.was_read in
          let a = ap pieces held_first in
          let b = ap pieces held_second in
          let left = held_proper in
          record {
            ready = record {
              was_read = w;
              function = S.ready.function;
              memory = E.ready.memory;
              low = S.ready.low;
              high = omega (arith, S.ready.high, E.others.long);
              sums = E.ready.sums;
              owned = omega (arith, E.ready.owned, a, b);
              small = omega (arith, E.ready.small, a, b);
            };
            typed = S.typed;
            placed = S.placed;
            open_long = S.open_long;
            totals-sum = sum_kept (read s rs) (read u us) w totals_kept totals S.totals-sum;
            unwalked = unwalked_kept (read s rs) (read u us) w totals_kept totals S.unwalked;
            proper = record {
              context = rw held_second S.proper.context;
              exprs = left.exprs;
              marks = left.marks;
              globals = left.globals;
              functions = left.functions;
              visits = left.visits;
            };
            closed = λ k x y. closed_kept k x y ∙ S.closed k x y;
            above = λ k x. above_kept k (omega arith) ∙ S.above k x;
          }
