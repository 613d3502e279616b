-- Two blocks one after the other, from one base: each can be entered, and what they leave is the definition's `add_pair`.
use Prim.Native.Nat.{ℕ, ◌+◌, ◌*◌, ◌≤◌}
use native.Mathlib.Nat.{le_refl}
use native.Mathlib.Omega.{arith}
use mathlib.Core.Path.{◌≡◌, sym, ap, ◌∙◌}
use mathlib.Core.Bool.{Bool, ◌||◌}
use mathlib.Core.List.{List}
use lib.ListN.{length}
use Rattle.std.specs.Prelude.{Result, Ok, Err}
use Rattle.field.specs.Limits.{max_pieces}
use Rattle.part.specs.StoreLimits.{entries_cap}
use Rattle.module.specs.Module.{FunctionHandle, BlockHandle}
use Rattle.context.specs.RequiredContext.{RequiredContext, empty_context, pieces}
use Rattle.walk.specs.State.{State, Place, Out, went, halt}
use Rattle.walk.specs.Statement.{BlockWalk}
use Rattle.memory.specs.Memory.{read, sum_from, context_at, Memory}
use Rattle.memory.proofs.Runs.{context_pieces}
use Rattle.marks.specs.declared.places.MarkPlaces.{MarkPlaces}
use Rattle.marks.specs.declared.totals.MarkTotals.{MarkTotals}
use Rattle.state.specs.declared.answer.Tally.{Tally}
use Rattle.state.specs.declared.answer.Halt.{Halt}
use Rattle.state.specs.declared.answer.Answer.{Answer}
use Rattle.block.specs.Standing.{state_in, Standing}
use Rattle.block.specs.Blocks.{context_in, Entered, BlockEnded, BlockEnds}
use Rattle.block.specs.Visiting.{block_in}
use Rattle.block.specs.Pairing.{add_pair, Paired, PairEnds}
use Rattle.block.proofs.Bounds.{settled_pieces, settled_sum}
use Rattle.block.proofs.Tops.{up_state}
use Rattle.block.proofs.Steps.{beside_then, beside_context, enters}
use Rattle.block.proofs.Tight.{enters_more, ends_less}
use Rattle.block.proofs.Answered.{block_went, block_halt, block_anywhere}

-- the definition, step by step
module _ (block : BlockWalk) (first second : BlockHandle) (held : ℕ) (base : RequiredContext) (required : Bool) (st : State) where
  pair_stops : {k : ℕ} {at : Place} → halt k at ≡ block first held base required st → add_pair block first second held base required st ≡ halt k at
  unfolding add_pair
  pair_stops e = rw (← e)

  module _ {walked : State} {a : Bool} (e : went walked a ≡ block first held base required st) where
    pair_stops_2 : {k : ℕ} {at : Place} → halt k at ≡ block second (held + pieces walked.context) base required walked → add_pair block first second held base required st ≡ halt k at
    unfolding add_pair
    pair_stops_2 g = rw (← e) (rw (← g))

    pair_is : {continued : State} {c : Bool} → went continued c ≡ block second (held + pieces walked.context) base required walked
        → add_pair block first second held base required st ≡ went continued (walked.context, a || c)
    unfolding add_pair
    pair_is g = rw (← e) (rw (← g))

-- the entries of a context that stands can be counted
pub weighs : {bytes t types : List ℕ} {places : MarkPlaces} {s rs open_marks : List ℕ} {totals : MarkTotals} {f at held sum visits : ℕ} → Standing bytes t types places s rs open_marks totals f at held sum visits
    → Memory s rs × ((at + 4 ≤ length rs) × (sum_from (read s rs) at 4 ≤ entries_cap))
weighs {s = s} {rs = rs} {at = at} S = (S.ready.memory, (S.ready.high, omega (arith, S.ready.small, context_pieces (read s rs) at)))

module _ {bytes t types : List ℕ} {places : MarkPlaces} {s rs open_marks : List ℕ} {totals : MarkTotals} {f : FunctionHandle} {b first second : BlockHandle} {base at held sum visits : ℕ}
    (P : Paired bytes t types places s rs open_marks totals f b first second base at held sum visits) where
  first-held : Entered bytes t types places s rs open_marks totals f first base at held held sum visits
  first-held = record {
    standing = P.standing;
    empty = P.empty;
    block = omega (arith, P.block, P.first_lower);
    base_low = P.base_low;
    base_below = P.base_below;
    base_fine = P.base_fine;
    base_few = P.base_few;
    few = omega (arith, P.few, P.base_few);
    deep = P.first_deep;
    roomy = P.roomy;
  }

  pub pair_first : Entered bytes t types places s rs open_marks totals f first base at held (held + context_in s rs base) sum visits
  pair_first = enters_more first-held (omega arith)

  -- the first block has ended
  module _ (required : Bool) where
    abbrev start : State
    start = state_in bytes t s rs open_marks totals f at visits

    abbrev whole : Out (RequiredContext × Bool)
    whole = add_pair (block_in bytes t f) first second held (context_at (read s rs) base) required start

    module _ {r : Result Answer Halt} {u us open-1 : List ℕ} {totals-1 : MarkTotals}
        (E : BlockEnds bytes t types places s rs open_marks totals f base at held (held + context_in s rs base) sum (block_in bytes t f first held (context_at (read s rs) base) required start) r u us open-1 totals-1) where
      pub pair_halt : {stop : Halt} → r ≡ Err stop
          → PairEnds bytes t types places s rs open_marks totals f base at held whole (Err stop) u us open-1 totals-1
      pair_halt e = record { by = sym (pair_stops (block_in bytes t f) first second held (context_at (read s rs) base) required start (block_halt E e)) }

      module _ {tally : Tally} {a : Bool} (e : r ≡ Ok (record { tally = tally; required = a })) where
        ended : BlockEnded bytes t types places s rs open_marks totals f base at held held sum (block_in bytes t f first held (context_at (read s rs) base) required start) tally.visits tally.sum a u us open-1 totals-1
        ended = ends_less first-held (omega arith) (block_went E e)

        base_same : context_at (read u us) base ≡ context_at (read s rs) base
        base_same = beside_context ended.beside base P.base_low P.base_below

        pub pair_weighs : Memory u us × ((at + 4 ≤ length us) × (sum_from (read u us) at 4 ≤ entries_cap))
        pair_weighs = weighs ended.standing

        second-held : Entered bytes t types places u us open-1 totals-1 f second base (at + 4) (held + context_in u us at) (held + context_in u us at) tally.sum tally.visits
        second-held =
            let same = ap pieces base_same in
            enters ended.standing second base (omega (arith, P.block, P.second_lower)) P.base_low (omega (arith, P.base_below)) (rw base_same P.base_fine)
            (omega (arith, P.base_few, same))
            (omega (
              arith,
              P.base_few,
              same,
              settled_pieces (2 * max_pieces) ended.settled P.base_few (omega arith),
              settled_sum held (3 * max_pieces) ended.settled (le_refl held) P.few (omega arith),
            ))
            (omega (arith, P.second_deep, ended.beside.long))
            ended.roomy

        -- the second block is the definition's
        abbrev Second : ℕ → Out Bool
        Second w = block_in bytes t f second (held + w) (context_at (read u us) base) required (state_in bytes t u us open-1 totals-1 f (at + 4) tally.visits)

        abbrev Walked : Out Bool
        Walked = block_in bytes t f second (held + context_in u us at) (context_at (read s rs) base) required (state_in bytes t u us open-1 totals-1 f at tally.visits)

        second_anywhere : Second (context_in u us at) ≡ Walked
        second_anywhere =
            rw base_same
            (ap (block_in bytes t f second (held + context_in u us at) (context_at (read s rs) base) required) (up_state ended.standing)
            ∙ block_anywhere P.standing.ready.was_read f second (held + context_in u us at) (context_at (read s rs) base) empty_context required
            (state_in bytes t u us open-1 totals-1 f at tally.visits))

        module _ {w : ℕ} (i : w ≡ sum_from (read u us) at 4) where
          weight : w ≡ context_in u us at
          weight = i ∙ context_pieces (read u us) at

          pub pair_small : held + w ≤ entries_cap
          pair_small = omega (arith, weight, ended.standing.ready.small)

          pub pair_second : Entered bytes t types places u us open-1 totals-1 f second base (at + 4) (held + w) (held + w + context_in u us base) tally.sum tally.visits
          pair_second = rw weight (enters_more second-held (omega arith))

          second_is : Second w ≡ Walked
          second_is = rw weight second_anywhere

          -- and the second
          module _ {q : Result Answer Halt} {v vs open-2 : List ℕ} {totals-2 : MarkTotals}
              (D : BlockEnds bytes t types places u us open-1 totals-1 f base (at + 4) (held + w) (held + w + context_in u us base) tally.sum (Second w) q v vs open-2 totals-2) where
            pub pair_halt_2 : {stop : Halt} → q ≡ Err stop
                → PairEnds bytes t types places s rs open_marks totals f base at held whole (Err stop) v vs open-2 totals-2
            pair_halt_2 g = record {
              by = sym (pair_stops_2 (block_in bytes t f) first second held (context_at (read s rs) base) required start ended.is (block_halt D g ∙ second_is));
            }

            module _ {left : Tally} {c : Bool} (g : q ≡ Ok (record { tally = left; required = c })) where
              continued : BlockEnded bytes t types places u us open-1 totals-1 f base (at + 4) (held + context_in u us at) (held + context_in u us at) tally.sum (Second (context_in u us at)) left.visits left.sum c v vs open-2 totals-2
              continued = ends_less second-held (omega arith) (rw weight at (block_went D g))

              first_same : context_at (read v vs) at ≡ context_at (read u us) at
              first_same = beside_context continued.beside at P.standing.ready.low (omega arith)

              pub pair_ends : {o : Bool} → o ≡ (a || c) → PairEnds bytes t types places s rs open_marks totals f base at held whole (Ok (record { tally = left; required = o })) v vs open-2 totals-2
              pair_ends h = record {
                by = record {
                  is = rw (first_same, h)
                      (sym (pair_is (block_in bytes t f) first second held (context_at (read s rs) base) required start ended.is (continued.is ∙ second_anywhere)));
                  standing = rw first_same continued.standing;
                  first_fine = rw first_same ended.standing.proper.context;
                  few = λ n l m. (
                    rw first_same (settled_pieces n ended.settled l m),
                    settled_pieces n continued.settled (rw base_same l) m,
                  );
                  sum_few = λ k n l h m. settled_sum k n continued.settled (omega arith) (settled_sum k n ended.settled l (omega (arith, P.standing.ready.sums)) m) m;
                  roomy = continued.roomy;
                  beside = beside_then (at + 4) ended.beside continued.beside (omega arith);
                };
              }
