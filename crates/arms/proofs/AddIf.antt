-- The arm of `If`: what its two blocks ask, and how it ends once they are walked. Both steps are the definition's `add_if`.
use Prim.Native.Nat.{ℕ, ◌+◌, ◌<◌, ◌≤◌}
use native.Mathlib.Nat.{le_refl}
use native.Mathlib.Omega.{arith}
use mathlib.Core.Path.{◌≡◌, refl, sym, ap, subst, ◌∙◌}
use mathlib.Core.Bool.{Bool, ◌||◌}
use mathlib.Core.List.{List}
use lib.ListN.{length}
use Rattle.std.specs.Prelude.{Result, Ok, Err}
use Rattle.field.specs.Refusal.{number}
use Rattle.field.specs.Limits.{max_pieces}
use Rattle.module.specs.Module.{Module, FunctionHandle, BlockHandle, ExpressionHandle, Statement, If}
use Rattle.module.specs.Decode.{statement_of}
use Rattle.module.specs.Tables.{module_of}
use Rattle.access.specs.Access.{operand_at}
use Rattle.access.specs.declared.kinded.Kinded.{Kinded}
use Rattle.context.specs.RequiredContext.{RequiredContext, empty_context, pieces}
use Rattle.walk.specs.State.{State, Out, went, halt, Walk, ◌>>=◌}
use Rattle.walk.specs.Resolve.{function_at}
use Rattle.walk.specs.StatementReq.{StatementReq}
use Rattle.walk.specs.Statement.{BlockWalk, end_if, add_if}
use Rattle.walk.specs.Statement as walk
use Rattle.walk.proofs.Bind.{then_went, then_halt, then_then}
use Rattle.memory.specs.Memory.{read, sum_from, context_at}
use Rattle.memory.proofs.Runs.{context_pieces}
use Rattle.state.specs.State.{place_of}
use Rattle.state.specs.Frame.{frame_of}
use Rattle.state.specs.declared.answer.Tally.{Tally}
use Rattle.state.specs.declared.frame.Frame.{Frame}
use Rattle.state.specs.declared.answer.Halt.{Halt}
use Rattle.state.specs.declared.answer.Answer.{Answer}
use Rattle.marks.specs.declared.places.MarkPlaces.{MarkPlaces}
use Rattle.marks.specs.declared.totals.MarkTotals.{MarkTotals}
use Rattle.marks.specs.Ray.{held_count, held_number}
use Rattle.marks.proofs.Rays.{held_block}
use Rattle.statement.proofs.Uses.{arm_uses}
use Rattle.block.specs.Standing.{state_in, Standing}
use Rattle.block.specs.Blocks.{context_in, StatementEnds}
use Rattle.block.specs.Visiting.{block_in, Arms}
use Rattle.block.specs.Pairing.{add_pair, Paired, PairEnded, PairEnding, PairEnds, Branched}
use Rattle.block.proofs.Tops.{up_state, up_empty, up}
use Rattle.block.proofs.Depth.{held_before}
use Rattle.block.proofs.Steps.{beside_context, ends_from}
use Rattle.block.proofs.Dropped.{beside_down}
use Rattle.block.proofs.Answered.{pair_anywhere}
use Rattle.arms.specs.Ifs.{IfAsked, end_in, IfEnds}

-- the definition in two steps: both blocks, and the end
abbrev together : Out Bool → (State → Out Bool) → Out (RequiredContext × Bool)
together x y = x >>= λ a r. y a >>= λ c q. went c (a.context, r || q)

both_then : (x : Out Bool) (y : State → Out Bool) (end : RequiredContext → Bool → Walk StatementReq)
    → (x >>= λ a r. y a >>= λ c q. end a.context (r || q) c) ≡ (together x y >>= λ c p. end p.0 p.1 c)
both_then (halt n at) y end = refl
both_then (went a r) y end = sym (then_then (y a) (λ c q. went c (a.context, r || q)) (λ c p. end p.0 p.1 c))

module _ (m : Module) (block : BlockWalk) (fr : walk.Frame) (condition : ExpressionHandle) (accept reject : BlockHandle) (st : State) where
  abbrev Both : Out (RequiredContext × Bool)
  Both = add_pair block accept reject (fr.held + pieces st.context) st.context fr.break_required st

  if_pair : add_if m block fr condition accept reject st ≡ (Both >>= λ left p. end_if m fr condition st.context p.0 p.1 left)
  unfolding add_if add_pair
  if_pair =
      both_then (block accept (fr.held + pieces st.context) st.context fr.break_required st)
      (λ a. block reject (fr.held + pieces st.context + pieces a.context) st.context fr.break_required a) (end_if m fr condition st.context)

module _ {bytes t types : List ℕ} {places : MarkPlaces} {s rs open_marks : List ℕ} {totals : MarkTotals} {fr : Frame} {b : BlockHandle} {row : Kinded} {sum visits : ℕ}
    (A : Arms bytes t types places s rs open_marks totals fr b row sum visits) (kind : row.kind ≡ 2) where
  abbrev m : Module
  m = module_of bytes t

  abbrev f : FunctionHandle
  f = fr.function.0

  abbrev at : ℕ
  at = fr.at

  abbrev outer : RequiredContext
  outer = context_at (read s rs) at

  -- the statement
  abbrev statement_is : Statement
  statement_is = If (operand_at bytes row 0) (operand_at bytes row 1) (operand_at bytes row 2)

  decoded : statement_of row.kind (operand_at bytes row) ≡ statement_is
  unfolding statement_of
  decoded = rw kind

  lower : (operand_at bytes row 1 < b) × (operand_at bytes row 2 < b)
  unfolding held_count held_number
  lower = (
    rw kind at (held_block bytes t f b fr.statement A.within row A.is 1 (rw kind (omega arith))).0,
    rw kind at (held_block bytes t f b fr.statement A.within row A.is 0 (rw kind (omega arith))).0,
  )

  module _ {n : ℕ} (counts : n ≡ sum_from (read s rs) at 4) where
    counted : n ≡ context_in s rs at
    counted = counts ∙ context_pieces (read s rs) at

    pub if_few : fr.held + n ≤ max_pieces
    if_few = omega (arith, counted, A.begins.begun.few)

    module _ {accept reject : BlockHandle} (accept-is : accept ≡ operand_at bytes row 1) (reject-is : reject ≡ operand_at bytes row 2) where
      pub if_paired : Paired bytes t types places s rs open_marks totals f b accept reject at (at + 4) (fr.held + n) sum visits
      if_paired =
          let G = A.begins in
          let few = G.begun.few in
          record {
            standing = rw counted (up G.standing (omega (arith, G.deep)));
            empty = up_empty G.standing;
            block = G.block;
            first_lower = rw accept-is lower.0;
            second_lower = rw reject-is lower.1;
            base_low = G.standing.ready.low;
            base_below = le_refl (at + 4);
            base_fine = G.begun.fine;
            base_few = omega (arith, few);
            few = omega (arith, few, counted);
            first_deep = rw accept-is (omega (arith, G.deep, held_before A.within (operand_at bytes row 1) lower.0));
            second_deep = rw reject-is (omega (arith, G.deep, held_before A.within (operand_at bytes row 2) lower.1));
            roomy = G.begun.roomy;
          }

      -- what both blocks come to
      abbrev Pair : Out (RequiredContext × Bool)
      Pair = add_pair (block_in bytes t f) accept reject (fr.held + n) outer fr.break_required (state_in bytes t s rs open_marks totals f (at + 4) visits)

      abbrev Whole : Out StatementReq
      Whole = add_if m (block_in bytes t f) (frame_of s rs fr) (operand_at bytes row 0) (operand_at bytes row 1) (operand_at bytes row 2) (state_in bytes t s rs open_marks totals f at visits)

      whole_is : Whole ≡ (Pair >>= λ left p. end_if m (frame_of s rs fr) (operand_at bytes row 0) outer p.0 p.1 left)
      whole_is =
          if_pair m (block_in bytes t f) (frame_of s rs fr) (operand_at bytes row 0) (operand_at bytes row 1) (operand_at bytes row 2) (state_in bytes t s rs open_marks totals f at visits)
          ∙ ap (λ (x : Out (RequiredContext × Bool)). x >>= λ left p. end_if m (frame_of s rs fr) (operand_at bytes row 0) outer p.0 p.1 left) pair_is
        where
          pair_is : add_pair (block_in bytes t f) (operand_at bytes row 1) (operand_at bytes row 2) (fr.held + context_in s rs at) outer fr.break_required (state_in bytes t s rs open_marks totals f at visits) ≡ Pair
          pair_is =
              rw (accept-is, reject-is, counted, up_state A.begins.standing)
              (sym (pair_anywhere A.begins.standing.ready.was_read f (operand_at bytes row 1) (operand_at bytes row 2) (fr.held + context_in s rs at) outer empty_context fr.break_required (state_in bytes t s rs open_marks totals f at visits)))

      module _ {r : Result Answer Halt} {u us open_after : List ℕ} {totals-after : MarkTotals}
          (E : PairEnds bytes t types places s rs open_marks totals f at (at + 4) (fr.held + n) Pair r u us open_after totals-after) where
        pub if_halts : {stop : Halt} → r ≡ Err stop
            → StatementEnds bytes t types places s rs open_marks totals fr Whole StatementReq.If (Err stop) u us open_after totals-after
        if_halts {stop} e =
            let h : halt (number stop.refusal) (place_of stop.place) ≡ Pair = subst (λ (x : Result Answer Halt). PairEnding bytes t types places s rs open_marks totals f at (at + 4) (fr.held + n) Pair x u us open_after totals-after) e E.by in
            record { by = sym (whole_is ∙ then_halt (λ left p. end_if m (frame_of s rs fr) (operand_at bytes row 0) outer p.0 p.1 left) (sym h)) }

        module _ {tally : Tally} {required : Bool} (e : r ≡ Ok (record { tally = tally; required = required })) where
          ended : PairEnded bytes t types places s rs open_marks totals f at (at + 4) (fr.held + n) Pair tally.visits tally.sum required u us open_after totals-after
          ended = subst (λ (x : Result Answer Halt). PairEnding bytes t types places s rs open_marks totals f at (at + 4) (fr.held + n) Pair x u us open_after totals-after) e E.by

          outer_same : context_at (read u us) at ≡ outer
          outer_same = beside_context ended.beside at A.begins.standing.ready.low (le_refl (at + 4))

          base_same : context_at (read u us) fr.base ≡ context_at (read s rs) fr.base
          base_same = beside_context ended.beside fr.base A.begins.begun.base_low (omega (arith, A.begins.begun.base_below))

          branched : Branched bytes t types places u us open_after totals-after fr tally.sum tally.visits
          branched =
              let few = A.begins.begun.few in
              let both = ended.few max_pieces (omega (arith, few)) (le_refl max_pieces) in
              let sum_few = ended.sum_few (fr.held + n) max_pieces (le_refl (fr.held + n)) (omega (arith, few, counted, A.begins.standing.ready.sums)) (le_refl max_pieces) in
              record {
                standing = subst (λ (k : ℕ). Standing bytes t types places u us open_after totals-after f (at + 4 + 4) (fr.held + k + context_in u us (at + 4)) tally.sum tally.visits) (counted ∙ ap pieces (sym outer_same)) ended.standing;
                low = A.begins.standing.ready.low;
                outer_fine = rw outer_same A.begins.begun.fine;
                first_fine = ended.first_fine;
                few = omega (arith, sum_few, counted, ap pieces outer_same);
                first_few = both.0;
                second_few = both.1;
                roomy = ended.roomy;
              }

          module _ {condition : ExpressionHandle} (condition-is : condition ≡ operand_at bytes row 0) where
            pub if_asked : IfAsked bytes t u us fr tally.sum tally.visits × (condition < length (function_at m f).expressions)
            if_asked = (
              record { types = types; places = places; open_marks = open_after; totals = totals-after; branched = branched },
              rw condition-is (arm_uses (record { begun = A.begins.begun; is = A.is }) statement_is decoded),
            )

            ending : end_in bytes t u us open_after totals-after fr condition required tally.visits ≡ Whole
            ending =
                rw (condition-is, outer_same, base_same)
                (sym (whole_is ∙ then_went (λ left p. end_if m (frame_of s rs fr) (operand_at bytes row 0) outer p.0 p.1 left) (sym ended.is)))

            pub if_ends : (q : Result Answer Halt) {v vs : List ℕ} → IfEnds bytes t u us fr condition required tally.sum tally.visits q v vs
                → StatementEnds bytes t types places s rs open_marks totals fr Whole StatementReq.If q v vs open_after totals-after
            if_ends q F = ends_from q (beside_down (omega arith) ended.beside) ending (F.by types places open_after totals-after branched)
