-- The turns of a loop, as `add_turns` goes through them: what a turn's blocks ask, what they leave for its end, and what is left of the turns after it.
use Prim.Native.Nat.{ℕ, zero, suc, ◌+◌, ◌-◌, ◌*◌, ◌<◌, ◌≤◌}
use native.Mathlib.Nat.{le_refl}
use native.Mathlib.Omega.{arith}
use mathlib.Core.Path.{◌≡◌, refl, sym, ap, subst, ◌∙◌}
use mathlib.Core.Bool.{Bool, true, false}
use mathlib.Core.List.{List}
use lib.ListN.{length, get_or}
use Rattle.std.specs.Prelude.{Result, Ok, Err}
use Rattle.field.specs.Limits.{max_pieces, max_turns}
use Rattle.field.specs.declared.refusal.Refusal.TheVariants.{PartLimit, Unsettled}
use Rattle.part.specs.PartReq.{PartReq, none}
use Rattle.part.specs.StoreLimits.{entries_cap}
use Rattle.module.specs.Module.{BlockHandle}
use Rattle.context.specs.RequiredContext.{RequiredContext, empty_context, merge_context, contains_context, pieces}
use Rattle.walk.specs.State.{State, Out, went, halt, with_context, limited_context}
use Rattle.walk.specs.StatementReq.{StatementReq}
use Rattle.walk.specs.Statement.{here, merged, end_turn}
use Rattle.memory.specs.Layout.{stack_slot}
use Rattle.memory.specs.Memory.{read, sum_from, context_at, Memory}
use Rattle.memory.specs.Memory as memory
use Rattle.memory.proofs.Runs.{context_pieces}
use Rattle.marks.specs.declared.places.MarkPlaces.{MarkPlaces}
use Rattle.marks.specs.declared.totals.MarkTotals.{MarkTotals}
use Rattle.state.specs.Frame.{frame_of}
use Rattle.state.specs.declared.answer.Place.TheVariants as place
use Rattle.state.specs.declared.answer.Tally.{Tally}
use Rattle.state.specs.declared.frame.Frame.{Frame}
use Rattle.state.specs.declared.answer.Halt.{Halt}
use Rattle.state.specs.declared.answer.Answer.{Answer}
use Rattle.block.specs.Standing.{state_in, Standing}
use Rattle.block.specs.Saved.{Popped, Dropped, Joined}
use Rattle.block.specs.Blocks.{context_in, Beside, StatementEnded, StatementEnds}
use Rattle.block.specs.Visiting.{block_in}
use Rattle.block.specs.Pairing.{add_pair, Paired, PairEnded, PairEnding, PairEnds}
use Rattle.block.proofs.Saving.{context_again}
use Rattle.block.proofs.Tops.{up, up_state, up_empty, put_below, popped_context, popped_state, popped_standing}
use Rattle.block.proofs.Steps.{beside_same, beside_then, beside_context, beside_popped}
use Rattle.block.proofs.Joining.{join-room, join_state, join_standing, join_beside}
use Rattle.block.proofs.Unroll.{turns-none, turn_settled, turn_again}
use Rattle.block.proofs.Answered.{pair_anywhere}
use Rattle.arms.specs.Loops.{Turning, turns_in, TurnsLeft, TurnWalked, TurnSettled, TurnAgain, turn_out, TurnEnding, TurnEnds}
use Rattle.arms.specs.declared.loops.Turn.{Turn}
use Rattle.arms.specs.declared.loops.Turn.TheVariants.{Over, Settled, Again}
use Rattle.arms.proofs.Tidies.{tidied_state, tidied_standing}
use Rattle.arms.proofs.Unrolled.{turn_halt, turn_over, turn_ends, turns-fresh}

-- the upper of two contexts is forgotten: all below it is as it was
beside_dropped : {bytes t : List ℕ} {f k : ℕ} {s rs open_marks u us : List ℕ} → stack_slot ≤ k → Popped s rs k (context_at (read s rs) k) u us
    → Beside bytes t f (k + 4) s rs open_marks u us open_marks
beside_dropped {k = k} {s = s} {rs = rs} {u = u} {us = us} low d = record {
  long = d.long;
  stack = λ j x y. below j y;
  records = λ j x y n. below j (omega arith);
  marks_long = refl;
  marks = λ j x. refl;
}
  where
    below : (j : ℕ) → j < k + 4 → get_or (read u us) j none ≡ get_or (read s rs) j none
    below j l =
        ap (λ (ps : List PartReq). get_or ps j none) (d.reads ∙ ap (λ (ps : List PartReq). memory.with_context ps (k + 4) empty_context) (context_again (read s rs) k))
        ∙ put_below (read s rs) (k + 4) empty_context j l

module _ {bytes t types : List ℕ} {places : MarkPlaces} {s rs open_marks : List ℕ} {totals : MarkTotals} {fr : Frame} {b body continuing : BlockHandle} {sum visits : ℕ}
    (T : Turning bytes t types places s rs open_marks totals fr b body continuing sum visits) where
  abbrev f : ℕ
  f = fr.function.0

  abbrev at : ℕ
  at = fr.at

  abbrev working : RequiredContext
  working = context_at (read s rs) (at + 4)

  abbrev Held : ℕ
  Held = fr.held + context_in s rs at + context_in s rs (at + 4)

  abbrev Total : Out StatementReq
  Total = turns_in bytes t s rs fr body continuing max_turns (state_in bytes t s rs open_marks totals f (at + 4) visits)

  pub turns_weigh : Memory s rs × ((at + 4 ≤ length rs) × (sum_from (read s rs) at 4 ≤ entries_cap))
  turns_weigh = (T.standing.ready.memory, (omega (arith, T.standing.ready.high), omega (arith, T.few, context_pieces (read s rs) at)))

  pub turns_begin : TurnsLeft bytes t types places s rs open_marks totals fr b body continuing visits max_turns visits sum s rs open_marks totals
  turns_begin = record { turning = T; beside = beside_same refl refl; rest = refl }

  pub turns_fit : {a : ℕ} → a ≡ sum_from (read s rs) at 4 → fr.held + a ≤ max_pieces
  turns_fit weighed = omega (arith, weighed, context_pieces (read s rs) at, T.few)

  module _ {a c : ℕ} (weighed : a ≡ sum_from (read s rs) at 4) (weighed-2 : c ≡ sum_from (read s rs) (at + 4) 4) where
    held_is : fr.held + a + c ≡ Held
    held_is = omega (arith, weighed, weighed-2, context_pieces (read s rs) at, context_pieces (read s rs) (at + 4))

    pub turns_fit_2 : fr.held + a + c ≤ 3 * max_pieces
    turns_fit_2 = omega (arith, held_is, T.few, T.working_few)

    -- a turn, where n are left
    module _ {n v k : ℕ} {u us open-1 : List ℕ} {totals-1 : MarkTotals} (L : TurnsLeft bytes t types places s rs open_marks totals fr b body continuing visits n v k u us open-1 totals-1) where
      low : stack_slot ≤ at + 4
      low = omega (arith, T.low)

      outer_same : context_at (read u us) at ≡ context_at (read s rs) at
      outer_same = beside_context L.beside at T.low (omega arith)

      working-same : context_at (read u us) (at + 4) ≡ working
      working-same = beside_context L.beside (at + 4) low (le_refl (at + 4 + 4))

      before_held : fr.held + context_in u us at + context_in u us (at + 4) ≡ fr.held + a + c
      before_held = omega (arith, held_is, ap pieces outer_same, ap pieces working-same)

      eight : at + 8 ≡ at + 4 + 4
      eight = omega arith

      paired : Paired bytes t types places u us open-1 totals-1 f b body continuing (at + 4) (at + 4 + 4) (fr.held + a + c) k v
      paired =
          let G = L.turning in
          record {
            standing = subst (λ (h : ℕ). Standing bytes t types places u us open-1 totals-1 f (at + 4 + 4) h k v) before_held (up G.standing (omega (arith, G.body_deep)));
            empty = up_empty G.standing;
            block = G.block;
            first_lower = G.body_lower;
            second_lower = G.continuing_lower;
            base_low = low;
            base_below = le_refl (at + 4 + 4);
            base_fine = G.standing.proper.context;
            base_few = G.working_few;
            few = omega (arith, before_held, G.few, G.working_few);
            first_deep = omega (arith, G.body_deep);
            second_deep = omega (arith, G.continuing_deep);
            roomy = G.roomy;
          }

      pub turn_paired : Paired bytes t types places u us open-1 totals-1 f b body continuing (at + 4) (at + 8) (fr.held + a + c) k v
      turn_paired = subst (λ (i : ℕ). Paired bytes t types places u us open-1 totals-1 f b body continuing (at + 4) i (fr.held + a + c) k v) (sym eight) paired

      pub turns_over : n ≤ 0 → StatementEnds bytes t types places s rs open_marks totals fr Total StatementReq.Loop (Err (record { refusal = Unsettled; place = place.Statement fr.function fr.statement })) u us open-1 totals-1
      turns_over z = record { by = by n z L.rest }
        where
          by : (n : ℕ) → n ≤ 0 → turns_in bytes t s rs fr body continuing n (state_in bytes t u us open-1 totals-1 f (at + 4) v) ≡ Total → halt 14 (here (frame_of s rs fr)) ≡ Total
          by zero z e = sym (turns-none (block_in bytes t f) (frame_of s rs fr) Held body continuing working (state_in bytes t u us open-1 totals-1 f (at + 4) v)) ∙ e
          by (suc n) z e = absurd (omega arith)

      -- its blocks are walked
      module _ (more : 0 < n) where
        abbrev start : State
        start = state_in bytes t u us open-1 totals-1 f (at + 4) v

        rest : turns_in bytes t s rs fr body continuing (suc (n - 1)) start ≡ Total
        rest = let e : suc (n - 1) ≡ n = omega arith in ap (λ (i : ℕ). turns_in bytes t s rs fr body continuing i start) e ∙ L.rest

        abbrev Pair : Out (RequiredContext × Bool)
        Pair = add_pair (block_in bytes t f) body continuing (fr.held + a + c) (context_at (read u us) (at + 4)) true (state_in bytes t u us open-1 totals-1 f (at + 8) v)

        pair_is : Pair ≡ add_pair (block_in bytes t f) body continuing Held working true start
        pair_is =
            ap (λ (i : ℕ). add_pair (block_in bytes t f) body continuing (fr.held + a + c) (context_at (read u us) (at + 4)) true (state_in bytes t u us open-1 totals-1 f i v)) eight
            ∙ ap (λ (z : State). add_pair (block_in bytes t f) body continuing (fr.held + a + c) (context_at (read u us) (at + 4)) true z) (up_state L.turning.standing)
            ∙ pair_anywhere T.standing.ready.was_read f body continuing (fr.held + a + c) (context_at (read u us) (at + 4)) empty_context true start
            ∙ ap (λ (h : ℕ). add_pair (block_in bytes t f) body continuing h (context_at (read u us) (at + 4)) true start) held_is
            ∙ ap (λ (d : RequiredContext). add_pair (block_in bytes t f) body continuing Held d true start) working-same

        module _ {r : Result Answer Halt} {w ws open-2 : List ℕ} {totals-2 : MarkTotals} (E : PairEnds bytes t types places u us open-1 totals-1 f (at + 4) (at + 8) (fr.held + a + c) Pair r w ws open-2 totals-2) where
          ending : {q : Result Answer Halt} → r ≡ q → PairEnding bytes t types places u us open-1 totals-1 f (at + 4) (at + 8) (fr.held + a + c) Pair q w ws open-2 totals-2
          ending is = subst (λ (q : Result Answer Halt). PairEnding bytes t types places u us open-1 totals-1 f (at + 4) (at + 8) (fr.held + a + c) Pair q w ws open-2 totals-2) is E.by

          pub turn_halts : {stop : Halt} → r ≡ Err stop → StatementEnds bytes t types places s rs open_marks totals fr Total StatementReq.Loop (Err stop) w ws open-2 totals-2
          turn_halts is = record { by = sym (turn_halt (block_in bytes t f) (frame_of s rs fr) Held body continuing working (n - 1) start (ending is ∙ pair_is)) ∙ rest }

          module _ {tally : Tally} {d : Bool} (is : r ≡ Ok (record { tally = tally; required = d })) where
            walked : PairEnded bytes t types places u us open-1 totals-1 f (at + 4) (at + 4 + 4) (fr.held + a + c) Pair tally.visits tally.sum d w ws open-2 totals-2
            walked = subst (λ (i : ℕ). PairEnded bytes t types places u us open-1 totals-1 f (at + 4) i (fr.held + a + c) Pair tally.visits tally.sum d w ws open-2 totals-2) eight (ending is)

            high : stack_slot ≤ at + 4 + 4
            high = omega (arith, T.low)

            -- 16 allows what is held and the statement's context with the sum, as before the turn
            allowed : fr.held + (context_in s rs at + tally.sum) ≤ max_pieces
            allowed =
                let G = L.turning in
                omega (
                  arith,
                  walked.sum_few (fr.held + context_in s rs at) max_pieces (omega (arith, held_is)) (omega (arith, G.standing.ready.sums, G.few, ap pieces outer_same)) (le_refl max_pieces),
                )

            pub turn_walked : TurnWalked w ws at
            turn_walked =
                let P = walked in
                let both = P.few (2 * max_pieces) L.turning.working_few (omega arith) in
                record {
                  memory = P.standing.ready.memory;
                  low = T.low;
                  high = omega (arith, P.standing.ready.high);
                  roomy = join-room w ws (at + 4 + 4) P.roomy both.0 both.1;
                  few = omega (arith, P.standing.ready.owned, held_is, allowed, T.working_few);
                }

            abbrev joint : RequiredContext
            joint = merge_context (context_at (read w ws) (at + 4 + 4)) (context_at (read w ws) (at + 4 + 4 + 4))

            abbrev continued : State
            continued = state_in bytes t w ws open-2 totals-2 f (at + 4 + 4 + 4) tally.visits

            -- joined, and the join forgotten
            module _ {x xs ys : List ℕ} (J : Joined w ws (at + 4 + 4) false x xs) (D : Dropped xs (at + 4) ys) where
              up_standing : Standing bytes t types places x xs open-2 totals-2 f (at + 4 + 4) (fr.held + a + c) tally.sum tally.visits
              up_standing = join_standing walked.standing high J (fr.held + a + c) refl walked.first_fine refl

              up_beside : Beside bytes t f (at + 4 + 4) s rs open_marks x xs open-2
              up_beside =
                  beside_then (at + 4 + 4) (beside_then (at + 4 + 4) L.beside walked.beside (le_refl (at + 4 + 4))) (join_beside walked.standing high J) (le_refl (at + 4 + 4))

              up_working : context_at (read x xs) (at + 4) ≡ working
              up_working = beside_context up_beside (at + 4) low (le_refl (at + 4 + 4))

              alone : Popped x xs (at + 4) (context_at (read x xs) (at + 4)) x ys
              alone = D.is x up_standing.ready.memory low

              down_beside : Beside bytes t f (at + 4 + 4) s rs open_marks x ys open-2
              down_beside = beside_then (at + 4 + 4) up_beside (beside_dropped low alone) (le_refl (at + 4 + 4))

              down_outer : context_at (read x ys) at ≡ context_at (read s rs) at
              down_outer = beside_context down_beside at T.low (omega arith)

              down_working : context_at (read x ys) (at + 4) ≡ working
              down_working = beside_context down_beside (at + 4) low (le_refl (at + 4 + 4))

              down_standing : Standing bytes t types places x ys open-2 totals-2 f (at + 4) (fr.held + context_in s rs at) tally.sum tally.visits
              down_standing =
                  popped_standing up_standing alone low (fr.held + context_in s rs at) (omega (arith, held_is, ap pieces up_working)) (rw up_working T.standing.proper.context)
                  (omega (arith, ap pieces up_working, allowed, T.working_few))

              -- the state is that of the definition but for its context
              down_state : state_in bytes t x ys open-2 totals-2 f (at + 4) tally.visits ≡ with_context working (with_context joint continued)
              down_state =
                  popped_state up_standing alone low
                  ∙ ap (λ (z : State). with_context (context_at (read x xs) (at + 4)) z) (join_state walked.standing high J)
                  ∙ ap (λ (e : RequiredContext). with_context e continued) up_working

              turn_is : {q : Bool} → q ≡ contains_context (context_at (read x xs) (at + 4)) (context_at (read x xs) (at + 4 + 4))
                  → Total ≡ end_turn working (turns_in bytes t s rs fr body continuing (n - 1)) q (with_context joint continued)
              turn_is e =
                  let up : context_at (read x xs) (at + 4 + 4) ≡ joint = popped_context walked.standing J.popped high in
                  sym rest
                  ∙ turn_ends (block_in bytes t f) (frame_of s rs fr) Held body continuing working (n - 1) start (walked.is ∙ pair_is) J.over
                  (e ∙ ap (λ (z : RequiredContext). contains_context z (context_at (read x xs) (at + 4 + 4))) up_working ∙ ap (λ (z : RequiredContext). contains_context working z) up)

            settles : {x xs : List ℕ} → TurnSettled w ws at x xs
                → StatementEnded bytes t types places s rs open_marks totals fr Total StatementReq.Loop tally.visits tally.sum true x xs open-2 totals-2
            settles {x} {xs} K =
                let J = K.joined in
                let D = K.dropped in
                let S = down_standing J D in
                let l = K.lowered.is x S.ready.memory T.low in
                let under = beside_popped S l T.low in
                let down = down_beside J D in
                record {
                  is = ap (λ (z : State). went z (StatementReq.Loop true))
                      (popped_state S l T.low
                      ∙ ap (λ (z : State). with_context (context_at (read x K.alone) (at + 4)) z) (down_state J D)
                      ∙ ap (λ (z : RequiredContext). with_context z continued) (down_working J D))
                      ∙ sym (turn_is J D K.contains ∙ turn_settled working (turns_in bytes t s rs fr body continuing (n - 1)) (with_context joint continued));
                  standing = popped_standing S l T.low fr.held (ap (λ (z : RequiredContext). fr.held + pieces z) (sym (down_outer J D))) S.proper.context (omega (arith, S.ready.small));
                  beside = record {
                    long = under.long ∙ down.long;
                    stack = λ j p q. under.stack j p q ∙ down.stack j p (omega arith);
                    records = λ j p q z. under.records j p q z ∙ down.records j p q z;
                    marks_long = down.marks_long;
                    marks = down.marks;
                  };
                }

            goes_on : {x xs : List ℕ} → TurnAgain w ws at x xs
                → TurnsLeft bytes t types places s rs open_marks totals fr b body continuing visits (n - 1) tally.visits tally.sum x xs open-2 totals-2
            goes_on {x} {xs} K =
                let J = K.joined in
                let D = K.dropped in
                let S = down_standing J D in
                let beside : Beside bytes t f (at + 4 + 4) s rs open_marks x xs open-2 = beside_then (at + 4 + 4) (down_beside J D) (beside_same K.tidied.long K.tidied.same) (le_refl (at + 4 + 4)) in
                let outer : context_at (read x xs) at ≡ context_at (read s rs) at = beside_context beside at T.low (omega arith) in
                let above : context_at (read x xs) (at + 4) ≡ working = beside_context beside (at + 4) low (le_refl (at + 4 + 4)) in
                let h : fr.held + context_in s rs at ≡ fr.held + context_in x xs at = ap (λ (z : RequiredContext). fr.held + pieces z) (sym outer) in
                let fresh : (z : RequiredContext) → turns_in bytes t s rs fr body continuing (n - 1) (with_context z continued) ≡ turns_in bytes t s rs fr body continuing (n - 1) continued =
                λ z. turns-fresh T.standing.ready.was_read f (frame_of s rs fr) Held body continuing working (n - 1) z continued in
                record {
                  turning = record {
                    standing = subst (λ (i : ℕ). Standing bytes t types places x xs open-2 totals-2 f (at + 4) i tally.sum tally.visits) h (tidied_standing S K.tidied);
                    low = T.low;
                    block = T.block;
                    body_lower = T.body_lower;
                    continuing_lower = T.continuing_lower;
                    working_few = omega (arith, ap pieces above, T.working_few);
                    few = omega (arith, h, allowed);
                    body_deep = omega (arith, T.body_deep, beside.long);
                    continuing_deep = omega (arith, T.continuing_deep, beside.long);
                    roomy = K.tidied.roomy;
                  };
                  beside = beside;
                  rest = ap (turns_in bytes t s rs fr body continuing (n - 1)) (tidied_state S K.tidied tally.visits ∙ down_state J D)
                      ∙ fresh working
                      ∙ sym (fresh joint)
                      ∙ sym (turn_is J D K.contains ∙ turn_again working (turns_in bytes t s rs fr body continuing (n - 1)) (with_context joint continued));
                }

            -- its end
            module _ {q : Turn} {x xs : List ℕ} (K : TurnEnds w ws at q x xs) where
              ended : {p : Turn} → q ≡ p → TurnEnding w ws at p x xs
              ended e = subst (λ (p : Turn). TurnEnding w ws at p x xs) e K.by

              pub turn_limits : q ≡ Over
                  → StatementEnds bytes t types places s rs open_marks totals fr Total StatementReq.Loop (Err (record { refusal = PartLimit; place = place.Statement fr.function fr.statement })) x xs open-2 totals-2
              unfolding merged
              turn_limits e =
                  let at-loop = here (frame_of s rs fr) in
                  let told : halt 15 at-loop ≡ limited_context at-loop joint (with_context joint continued) =
                  subst (λ (p : Turn). turn_out p at-loop (with_context joint continued) ≡ limited_context at-loop joint (with_context joint continued)) e (K.is at-loop (with_context joint continued)) in
                  record { by = sym (turn_over (block_in bytes t f) (frame_of s rs fr) Held body continuing working (n - 1) start (walked.is ∙ pair_is) told) ∙ rest }

              pub turn_settles : q ≡ Settled
                  → StatementEnds bytes t types places s rs open_marks totals fr Total StatementReq.Loop (Ok (record { tally = (record { visits = tally.visits; sum = tally.sum }); required = true })) x xs open-2 totals-2
              turn_settles e = record { by = settles (ended e) }

              pub turn_goes_on : q ≡ Again
                  → TurnsLeft bytes t types places s rs open_marks totals fr b body continuing visits (n - 1) tally.visits tally.sum x xs open-2 totals-2
              turn_goes_on e = goes_on (ended e)
