-- The walk of a request of a fresh pruner: what it is refused by, or that memory has its report, with the text that the definition says.
use Prim.Native.Nat.{ℕ, ◌+◌, ◌-◌, ◌*◌, ◌<◌, ◌≤◌}
use native.Mathlib.Omega.{arith}
use mathlib.Core.Path.{◌≡◌, refl, sym, ap, ◌∙◌}
use mathlib.Core.Bool.{Bool}
use mathlib.Core.List.{List, ◌++◌}
use Rattle.std.specs.Prelude.{Result, Ok, Err}
use Rattle.field.specs.declared.refusal.Refusal.TheVariants.{PiecesLimit}
use Rattle.field.specs.Limits.{max_pieces, min_report}
use Rattle.part.specs.PartReq.{none}
use Rattle.part.specs.StoreLimits.{entries_cap}
use Rattle.module.specs.Tables.{module_of}
use Rattle.module.specs.declared.handles.FunctionHandle.{FunctionHandle as Handle}
use Rattle.context.specs.RequiredContext.{pieces, return_entry}
use Rattle.request.specs.Fields.{accepted}
use Rattle.request.specs.Request.{Request, read_request}
use Rattle.walk.specs.State.{nowhere}
use Rattle.walk.specs.Requests.{Answer, Pruner, fresh, request, end_count, report_of}
use Rattle.walk.proofs.Ends.{ended}
use Rattle.memory.specs.Layout.{stack_slot}
use Rattle.memory.specs.Memory.{read, Memory}
use Rattle.marks.specs.declared.places.MarkPlaces.{MarkPlaces}
use Rattle.marks.specs.declared.totals.MarkTotals.{MarkTotals}
use Rattle.state.specs.declared.answer.Tally.{Tally}
use Rattle.state.specs.declared.answer.Halt.{Halt}
use Rattle.state.specs.declared.answer.Answer as walked
use Rattle.leave.specs.Leave.{Placed, own_in}
use Rattle.block.specs.Standing.{state_in, functions_in}
use Rattle.block.specs.Functions.{FunctionEntered, FunctionEnded, FunctionEnds}
use Rattle.requests.specs.Loaded.{Loaded}
use Rattle.requests.proofs.Begins.{enters}
use Rattle.requests.proofs.Ends.{walks, request-halts, end-count, request-over, request-went}
use Rattle.requests.proofs.Finishing.{own-pieces, own_few, own_asks}
use Rattle.requests.proofs.Serving.{walk_in, walk_is}
use Rattle.lines.specs.Reported.{Reporting, report_in, text_in}
use Rattle.lines.proofs.ReportText.{text_of}
use Rattle.checking.specs.Line.{check_line}
use Rattle.report_text.specs.Input.{check_of, answer_text}
use Rattle.report.specs.Outcome.{Shows, Asked, Walked}
use Rattle.report.proofs.Shown.{shows as shown, fresh-shows}

-- the walk of the request q has ended
module _ {bytes t types : List ℕ} {places : MarkPlaces} {s rs open_marks : List ℕ} {totals : MarkTotals} {q : Request} (L : Loaded bytes t types places s rs open_marks totals q (fresh (module_of bytes t)))
    {visits sum : ℕ} {b : Bool} {u us open_after : List ℕ} {totals-after : MarkTotals}
    (E : FunctionEnded bytes t types places s rs open_marks totals q.function stack_slot 0 (walks bytes t (fresh (module_of bytes t)) q) visits sum b u us open_after totals-after) where
  base_few : pieces (record { globals = q.globals; locals = none; args = none; retval = return_entry q.retval }) ≤ 2 * max_pieces
  base_few = omega (arith, L.base_few, ap pieces L.base_is)

  few : shown (state_in bytes t u us open_after totals-after q.function (stack_slot + 4) visits) ≤ 2 * max_pieces
  few = ended (fresh-shows bytes (module_of bytes t) L.was_read.module_is q.function nowhere (2 * max_pieces) 0 q.globals (return_entry q.retval) (omega arith) base_few) (sym E.is)

  reporting : Reporting bytes t places u us open_after q.function (stack_slot + 4)
  reporting =
      let S = E.standing in
      record {
        marked = record { was_read = S.ready.was_read; function = S.ready.function; placed = S.placed; long = S.open_long };
        memory = S.ready.memory;
        high = S.ready.high;
        context = S.proper.context;
        exprs = S.proper.exprs;
        few = few;
      }

  -- nothing that is checked is left out of what memory has
  checked_of : check_of (module_of bytes t) q (report_of (module_of bytes t) q.function (state_in bytes t u us open_after totals-after q.function (stack_slot + 4) visits) b) ≡ check_of (module_of bytes t) q (report_in bytes t u us open_after q.function (stack_slot + 4) b)
  unfolding check_of report_of
  checked_of = refl

  text : end_count (state_in bytes t u us open_after totals-after q.function (stack_slot + 4) visits) ≤ max_pieces
      → answer_text (module_of bytes t) q (request (module_of bytes t) (fresh (module_of bytes t)) q).0 ≡ text_in bytes t u us open_after q.function (stack_slot + 4) b ++ check_line (check_of (module_of bytes t) q (report_in bytes t u us open_after q.function (stack_slot + 4) b))
  unfolding answer_text
  text l =
      ap (λ (x : Answer × Pruner). answer_text (module_of bytes t) q x.0) (request-went bytes t (fresh (module_of bytes t)) q E l)
      ∙ rw (checked_of, text_of bytes t u us open_after q.function (stack_slot + 4) b (functions_in (module_of bytes t) t (read u us) totals-after) visits)

  module _ (asked-bytes : List ℕ) (asks : read_request (module_of bytes t) min_report asked-bytes ≡ accepted q) where
    shows : end_count (state_in bytes t u us open_after totals-after q.function (stack_slot + 4) visits) ≤ max_pieces
        → Shows (answer_text (module_of bytes t) q (request (module_of bytes t) (fresh (module_of bytes t)) q).0) bytes t asked-bytes places u us open_after q.function b
    shows l = record { reporting = reporting; q = q; asks = asks; function_is = refl; is = text l }

module _ {bytes t types : List ℕ} {places : MarkPlaces} {s rs open_marks : List ℕ} {totals : MarkTotals} {h : Handle} {sum : ℕ} (A : Asked bytes t types places s rs open_marks totals h.0 sum) where
  pub walk_enters : FunctionEntered bytes t types places s rs open_marks totals h.0 stack_slot 0 sum 0
  walk_enters = rw (← A.function_is, A.sum_is) (enters A.loaded)

  module _ {a : Result walked.Answer Halt} {u us open_after : List ℕ} {totals-after : MarkTotals}
      (E : FunctionEnds bytes t types places s rs open_marks totals h.0 stack_slot 0 (walk_in bytes t s rs open_marks totals h.0) a u us open_after totals-after) where
    pub walk_halted : {stop : Halt} → a ≡ Err stop → Walked bytes t types places s rs open_marks totals h.0 u us open_after (Err stop.refusal)
    unfolding answer_text
    walk_halted e = record {
      by = λ asked-bytes q asks named L. record {
        by = ap (λ (x : Answer × Pruner). answer_text (module_of bytes t) q x.0) (request-halts bytes t (fresh (module_of bytes t)) q ((rw e at E.by) ∙ walk_is L named));
      };
    }

    module _ {tally : Tally} {required : Bool} (e : a ≡ Ok (record { tally = tally; required = required })) where
      went : FunctionEnded bytes t types places s rs open_marks totals h.0 stack_slot 0 (walk_in bytes t s rs open_marks totals h.0) tally.visits tally.sum required u us open_after totals-after
      went = rw e at E.by

      pub walk_own : (Memory u us × Placed t us h.0) × (own_in t u us h.0 ≤ entries_cap)
      walk_own = own_asks went.standing (omega (arith, went.sum_few))

      pub walk_sub : own_in t u us h.0 ≤ tally.sum
      walk_sub = own_few went.standing

      module _ {own : ℕ} (o : own ≡ own_in t u us h.0) where
        module _ (q : Request) (named : q.function ≡ h.0) (L : Loaded bytes t types places s rs open_marks totals q (fresh (module_of bytes t))) where
          asked_went : FunctionEnded bytes t types places s rs open_marks totals q.function stack_slot 0 (walks bytes t (fresh (module_of bytes t)) q) tally.visits tally.sum required u us open_after totals-after
          asked_went = rw (← walk_is L named, named) went

          left : end_count (state_in bytes t u us open_after totals-after q.function (stack_slot + 4) tally.visits) + own ≡ tally.sum
          left =
              let count = end-count bytes t (fresh (module_of bytes t)) q asked_went in
              let equal = ap (own_in t u us) named in
              omega (arith, own-pieces asked_went.standing)

        pub walk_over : max_pieces < tally.sum - own → Walked bytes t types places s rs open_marks totals h.0 u us open_after (Err PiecesLimit)
        unfolding answer_text
        walk_over l = record {
          by = λ asked-bytes q asks named L. record {
            by =
                let counts = left q named L in
                ap (λ (x : Answer × Pruner). answer_text (module_of bytes t) q x.0) (request-over bytes t (fresh (module_of bytes t)) q (asked_went q named L) (omega arith));
          };
        }

        pub walk_went : tally.sum - own ≤ max_pieces → Walked bytes t types places s rs open_marks totals h.0 u us open_after (Ok (record { function = h; required = required }))
        walk_went l = record {
          by = λ asked-bytes q asks named L. record {
            by = let counts = left q named L in rw (← named) (shows L (asked_went q named L) asked-bytes asks (omega arith));
          };
        }
