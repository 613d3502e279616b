-- The beginning of a call: what each step asks stands, and the called function's base is put above the caller's context.
use Prim.Native.Nat.{ℕ, zero, suc, ◌+◌, ◌<◌, ◌≤◌}
use native.Mathlib.Omega.{arith}
use mathlib.Core.Path.{◌≡◌, refl, sym, ap, subst, ◌∙◌}
use mathlib.Core.List.{List, [], ◌∷◌}
use mathlib.Core.Option.{Option, some, none as nothing}
use lib.ListN.{length, get_or, replicate}
use Rattle.std.specs.Prelude.{Option as Found, Some, None}
use Rattle.field.specs.Limits.{max_pieces, max_arguments}
use Rattle.part.specs.PartReq.{PartReq, Subpart, entries}
use Rattle.part.specs.Store.{top, Good, Room, Made}
use Rattle.part.specs.StoreLimits.{entries_cap}
use Rattle.part.specs.Found.{Got}
use Rattle.module.specs.Module.{ExpressionHandle}
use Rattle.module.specs.Decode.{option_of}
use Rattle.module.specs.Tables.{module_of, row_at, expressions_from}
use Rattle.access.specs.Access.{operand_at}
use Rattle.access.specs.declared.kinded.Kinded.{Kinded}
use Rattle.valid.proofs.Accepted.{valid}
use Rattle.context.specs.RequiredContext.{RequiredContext, pieces, return_entry}
use Rattle.request.specs.Answers.{optional, Held}
use Rattle.walk.specs.State.{Records, record_pieces}
use Rattle.walk.specs.Marks.{write_marks}
use Rattle.walk.specs.Statement.{need_of, record_of, retval_of}
use Rattle.memory.specs.Layout.{exprs_slot, most}
use Rattle.memory.specs.Memory.{read, sum_from, counted, context_at, Memory, Tidied}
use Rattle.memory.specs.Stretches.{four_set}
use Rattle.memory.proofs.Slots.{read-long, kept_read, kept_memory}
use Rattle.memory.proofs.Records.{records_pieces}
use Rattle.memory.proofs.Runs.{context_pieces}
use Rattle.marks.specs.declared.places.MarkPlaces.{MarkPlaces}
use Rattle.marks.specs.Places.{places_of, start_in, size_in, Inside}
use Rattle.marks.proofs.Buffers.{inside}
use Rattle.state.specs.State.{records_in}
use Rattle.state.specs.Ready.{Ready}
use Rattle.state.specs.declared.frame.Frame.{Frame}
use Rattle.state.proofs.Own.{fits, records_there}
use Rattle.statement.specs.Aside.{Loading}
use Rattle.call.proofs.Rows.{few_arguments, result_there}
use Rattle.leave.specs.Leave.{Placed, own_in}
use Rattle.block.specs.Standing.{Standing}
use Rattle.block.specs.Saved.{Saved}
use Rattle.block.proofs.Saving.{saved_base}
use Rattle.block.proofs.Tops.{counted-put}
use Rattle.arms.specs.Calls.{result_need, found_part, called_context, CallBegins, CallBegan}
use Rattle.arms.proofs.CallRows.{callee_there, arm_row}

-- what was found
pub got_piece : (s : List ℕ) (p : Subpart) (found : Found ℕ) → Got s p found → (n : ℕ) → found ≡ Some n → n < top s
got_piece s p found g n e = (rw e at g).0

pub got_part : (s : List ℕ) (p : Subpart) (found : Found ℕ) → Got s p found → p ≡ found_part s found
got_part s p None g = g
got_part s p (Some n) g = g.1

-- what is asked of the returned value
entry_is : (s : List ℕ) (found : Found ℕ) → return_entry (optional s found) ≡ retval_of (found_part s found)
unfolding return_entry retval_of
entry_is s None = refl
entry_is s (Some n) = refl

pub asked_made : {s u : List ℕ} {r : ℕ} (found : Found ℕ) → Made s u (return_entry (optional s found)) 1 r → Made s u (retval_of (found_part s found)) 1 r
asked_made {s} {u} {r} found M = subst (λ (p : PartReq). Made s u p 1 r) (entry_is s found) M

found_held : (s : List ℕ) (found : Found ℕ) → ((n : ℕ) → found ≡ Some n → n < top s) → Held s found
found_held s None h = tt
found_held s (Some n) h = h n refl

-- it counts for no more than the records
record_few : (es : Records) (e : ℕ) → entries (retval_of (need_of (get_or es e nothing))) ≤ record_pieces es
unfolding need_of retval_of entries record_pieces
record_few [] e = omega arith
record_few (nothing ∷ es) zero = omega arith
record_few (some p ∷ es) zero = omega arith
record_few (nothing ∷ es) (suc e) = record_few es e
record_few (some p ∷ es) (suc e) = let h = record_few es e in omega arith

pub retval_few : (es : Records) (o : Option ExpressionHandle) → entries (retval_of (record_of es o)) ≤ record_pieces es
unfolding record_of
retval_few es nothing = unfold retval_of entries in omega arith
retval_few es (some e) = record_few es e

pub called_few : (bytes t s rs : List ℕ) (f at : ℕ) (row : Kinded)
    → pieces (called_context bytes t s rs f at row) ≤ pieces (context_at (read s rs) at) + record_pieces (records_in t exprs_slot f (read s rs))
unfolding pieces entries
called_few bytes t s rs f at row = omega (arith, retval_few (records_in t exprs_slot f (read s rs)) (option_of (operand_at bytes row (2 + operand_at bytes row 1))))

module _ {bytes t starts s rs open_marks : List ℕ} {fr : Frame} {row : Kinded} {sum : ℕ} (q : CallBegins bytes t starts s rs open_marks fr row sum) where
  abbrev f : ℕ
  f = fr.function.0

  abbrev at : ℕ
  at = fr.at

  abbrev places : MarkPlaces
  places = places_of starts q.firsts

  abbrev records : Records
  records = records_in t exprs_slot f (read s rs)

  abbrev base : RequiredContext
  base = called_context bytes t s rs f at row

  standing : Standing bytes t q.types places s rs open_marks q.totals f at fr.held sum q.visits
  standing = q.arms.begins.standing

  ready : Ready bytes t s rs f at fr.held sum
  ready = standing.ready

  few : fr.held + (pieces (context_at (read s rs) at) + sum) ≤ max_pieces
  few = q.arms.begins.begun.few

  high : at + 12 ≤ length rs
  high = omega (arith, q.arms.begins.deep)

  own-pieces : own_in t s rs f ≡ record_pieces records
  own-pieces =
      sym (records_pieces (read s rs) (exprs_slot + expressions_from (row_at t f)) (row_at t f).expressions (records_there t f (fits f ready.was_read ready.function) ready.memory))

  own_few : record_pieces records ≤ sum
  own_few = omega (arith, ready.sums)

  pub begin_few : operand_at bytes row 1 ≤ max_arguments
  begin_few = few_arguments (arm_row q.arms q.kind)

  pub begin_own : (Memory s rs × Placed t rs f) × (own_in t s rs f ≤ entries_cap)
  begin_own =
      let l = ready.function in (
        (
          ready.memory,
          record {
            few = omega (arith, (valid bytes (module_of bytes t) ready.was_read.module_is).few_functions);
            records = fits f ready.was_read l;
            slots = ready.memory.slots;
          },
        ),
        omega (arith, own-pieces, own_few, few),
      )

  pub begin_held : fr.held + sum_from (read s rs) at 4 + own_in t s rs f ≤ max_pieces
  begin_held = omega (arith, context_pieces (read s rs) at, few, own-pieces, own_few)

  module _ {n : ℕ} {d : Option ℕ} (count : n ≡ operand_at bytes row 1) (field : d ≡ option_of (operand_at bytes row (2 + n))) where
    pub begin_loads : Loading bytes t s rs fr d
    begin_loads = record {
      sum = sum;
      ready = ready;
      below = rw (field, count) (result_there (arm_row q.arms q.kind));
    }

    module _ (found : Found ℕ) (got : Got s (record_of records d) found) where
      pub begin_asks : Good s × (Room s 1 × Held s found)
      begin_asks = (ready.memory.good, (omega (arith, q.arms.begins.begun.roomy), found_held s found (got_piece s _ found got)))

      need-is : found_part s found ≡ result_need bytes t s rs f row
      need-is = sym (got_part s _ found got) ∙ rw (field, count)

      module _ {g : ℕ} (callee : g ≡ operand_at bytes row 0) where
        pub begin_enters : (at + 8 ≤ length rs) × Inside starts g (length open_marks)
        begin_enters = (
          omega (arith, high),
          inside bytes t places ready.was_read standing.placed g (length open_marks)
              (rw callee (callee_there (arm_row q.arms q.kind))) standing.open_long,
        )

        module _ {u us : List ℕ} {r : ℕ} (made : Made s u (retval_of (found_part s found)) 1 r) (slots : us ≡ four_set rs (at + 4) (get_or rs at 0) 2 2 r) where
          begin_saved : Saved s rs (at + 4) base u us
          begin_saved =
              let d = saved_base (kept_memory ready.memory made.kept) ready.low (omega (arith, high)) made.piece slots in
              record { memory = d.memory; reads = d.reads ∙ rw (kept_read rs made.kept ready.memory.below, made.is, need-is); long = d.long }

          pub begin_tidies : Memory u us × (counted (read u us) ≤ most)
          begin_tidies = (
            begin_saved.memory,
            omega (
              arith,
              ap counted begin_saved.reads,
              counted-put (read s rs) (at + 4) base (omega (arith, ready.low)) (omega (arith, high, read-long s rs)),
              called_few bytes t s rs f at row,
              own_few,
              few,
              ready.owned,
            ),
          )

          pub call_begun : {w own : ℕ} {v vs open_after : List ℕ} → own ≡ own_in t s rs f → w ≡ sum_from (read s rs) at 4
              → open_after ≡ write_marks open_marks (start_in starts g) (replicate (size_in starts g) 0) → Tidied u us v vs
              → CallBegan bytes t starts s rs open_marks fr row (fr.held + w + own) own v vs open_after
          call_begun {w} {own} o c marks d = record {
            own_is = o ∙ own-pieces;
            held_is = rw (o, c, own-pieces, context_pieces (read s rs) at);
            saved = record { memory = d.memory; reads = d.same ∙ begin_saved.reads; long = d.long ∙ begin_saved.long };
            marks = rw callee at marks;
            roomy = d.roomy;
          }
