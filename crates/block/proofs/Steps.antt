-- Steps of the walk of blocks over a state that stands: a block begins, an arm without blocks ends, and what each step leaves of the slots below and of other functions.
use Prim.Native.Nat.{ℕ, ◌+◌, ◌*◌, ◌<◌, ◌≤◌}
use native.Mathlib.Nat.{le_refl}
use native.Mathlib.Omega.{arith}
use mathlib.Core.Path.{◌≡◌, refl, sym, ap, ◌∙◌}
use mathlib.Core.Bool.{Bool}
use mathlib.Core.List.{List}
use lib.ListN.{length, get_or}
use Rattle.std.specs.Prelude.{Result, Ok, Err}
use Rattle.field.specs.Limits.{max_pieces}
use Rattle.part.specs.PartReq.{PartReq, none}
use Rattle.part.specs.Store.{Room}
use Rattle.module.specs.Module.{FunctionHandle, BlockHandle}
use Rattle.module.specs.Tables.{row_at, expressions_from, items_to, module_of}
use Rattle.access.proofs.Access.{functions_are}
use Rattle.context.specs.RequiredContext.{RequiredContext}
use Rattle.walk.specs.Proper.{FineContext, ProperState}
use Rattle.walk.specs.State.{Out}
use Rattle.memory.specs.Layout.{exprs_slot, totals_slot, stack_slot, room}
use Rattle.memory.specs.Memory.{read, context_at}
use Rattle.memory.proofs.Runs.{context_same}
use Rattle.marks.specs.declared.places.MarkPlaces.{MarkPlaces}
use Rattle.marks.specs.declared.totals.MarkTotals.{MarkTotals}
use Rattle.state.specs.State.{state_of}
use Rattle.state.specs.Ready.{Ready}
use Rattle.access.specs.Laid.{WasRead}
use Rattle.state.specs.Frame.{Apart}
use Rattle.state.specs.declared.frame.Frame.{Frame}
use Rattle.state.specs.declared.answer.Halt.{Halt}
use Rattle.state.specs.declared.answer.Answer.{Answer}
use Rattle.block.specs.Standing.{rest_in, state_in, Standing}
use Rattle.block.specs.Saved.{Popped}
use Rattle.block.specs.Blocks.{context_in, Deep, Entered, Beside, StatementEnds}
use Rattle.block.proofs.Same.{functions_same, sum_kept, unwalked_kept}
use Rattle.block.proofs.Tops.{up, up_empty, popped_below}

-- all items of a function have numbers
pub items_within : {bytes t : List ℕ} (f : FunctionHandle) → WasRead bytes t → f < length (module_of bytes t).functions → exprs_slot + items_to (row_at t f) ≤ totals_slot
items_within {bytes} {t} f w l = let h = w.laid.within f (rw (functions_are t bytes) l) in omega arith

-- what is the same afterwards
module _ {bytes t : List ℕ} {f : FunctionHandle} where
  pub beside_same : {at : ℕ} {s rs u us open_marks : List ℕ} → length us ≡ length rs → read u us ≡ read s rs → Beside bytes t f at s rs open_marks u us open_marks
  beside_same l e = record {
    long = l;
    stack = λ k a b. ap (λ (ps : List PartReq). get_or ps k none) e;
    records = λ k a b n. ap (λ (ps : List PartReq). get_or ps k none) e;
    marks_long = refl;
    marks = λ k a. refl;
  }

  pub beside_then : {at : ℕ} (to : ℕ) {s rs open_marks u us open_after v vs open-last : List ℕ} → Beside bytes t f at s rs open_marks u us open_after
      → Beside bytes t f to u us open_after v vs open-last → at ≤ to → Beside bytes t f at s rs open_marks v vs open-last
  beside_then to a b l = record {
    long = b.long ∙ a.long;
    stack = λ k x y. b.stack k x (omega arith) ∙ a.stack k x y;
    records = λ k x y n. b.records k x y n ∙ a.records k x y n;
    marks_long = b.marks_long ∙ a.marks_long;
    marks = λ k x. b.marks k x ∙ a.marks k x;
  }

  -- a context below is as it was
  pub beside_context : {at : ℕ} {s rs open_marks u us open_after : List ℕ} → Beside bytes t f at s rs open_marks u us open_after → (k : ℕ) → stack_slot ≤ k → k + 4 ≤ at
      → context_at (read u us) k ≡ context_at (read s rs) k
  beside_context {s = s} {rs = rs} {u = u} {us = us} b k l h = context_same (read s rs) (read u us) k (λ i x. b.stack (k + i) (omega arith) (omega arith))

-- a statement's end, as one of a statement that began before
pub ends_from : {A : Type 0} {bytes t types : List ℕ} {places : MarkPlaces} {s rs open_marks : List ℕ} {totals : MarkTotals} {u us open-1 : List ℕ} {totals-1 : MarkTotals} {fr : Frame} {first total : Out A} {answer : Bool → A} (r : Result Answer Halt) {x xs open-2 : List ℕ} {totals-2 : MarkTotals}
    → Beside bytes t fr.function.0 fr.at s rs open_marks u us open-1 → first ≡ total
    → StatementEnds bytes t types places u us open-1 totals-1 fr first answer r x xs open-2 totals-2
    → StatementEnds bytes t types places s rs open_marks totals fr total answer r x xs open-2 totals-2
ends_from {fr = fr} (Ok a) k e E = record {
  by = record { is = E.by.is ∙ e; standing = E.by.standing; beside = beside_then fr.at k E.by.beside (le_refl fr.at) };
}
ends_from (Err stop) k e E = record { by = E.by ∙ e }

-- the two contexts at the top made one, where k is the lower of them
pub beside_popped : {bytes t types : List ℕ} {places : MarkPlaces} {s rs open_marks : List ℕ} {totals : MarkTotals} {f k outer sum visits : ℕ} {c : RequiredContext} {u us : List ℕ}
    → Standing bytes t types places s rs open_marks totals f (k + 4) outer sum visits → Popped s rs k c u us → stack_slot ≤ k → Beside bytes t f k s rs open_marks u us open_marks
beside_popped S d low = record {
  long = d.long;
  stack = λ j a b. popped_below S d low j b;
  records = λ j a b n. popped_below S d low j (omega arith);
  marks_long = refl;
  marks = λ j a. refl;
}

module _ {bytes t types : List ℕ} {places : MarkPlaces} {s rs open_marks : List ℕ} {totals : MarkTotals} {f at held sum visits : ℕ} (S : Standing bytes t types places s rs open_marks totals f at held sum visits) where
  -- a block whose context is to be above the current one
  pub enters : (b : BlockHandle) (base : ℕ) → b < (row_at t f).blocks → stack_slot ≤ base → base ≤ at → FineContext (module_of bytes t) f (context_at (read s rs) base)
      → context_in s rs base ≤ 2 * max_pieces → held + context_in s rs at + (context_in s rs base + sum) ≤ 8 * max_pieces → Deep bytes t rs f b (at + 4) → Room s room
      → Entered bytes t types places s rs open_marks totals f b base (at + 4) (held + context_in s rs at) (held + context_in s rs at) sum visits
  enters b base there low below fine base_few few deep roomy = record {
    standing = up S (omega arith);
    empty = up_empty S;
    block = there;
    base_low = low;
    base_below = omega arith;
    base_fine = fine;
    base_few = base_few;
    few = few;
    deep = deep;
    roomy = roomy;
  }

  -- an arm without blocks
  module _ {u us : List ℕ} (a : Apart t f at s rs u us) where
    totals_kept : (k : ℕ) → totals_slot ≤ k → k < stack_slot → get_or (read u us) k none ≡ get_or (read s rs) k none
    totals_kept k x y =
        let l = items_within f S.ready.was_read S.ready.function in
        let low = S.ready.low in
        a.same k (omega arith) (record { no_total = omega arith; no_record = λ e i z. omega arith; no_context = λ i j z. omega arith })

    pub apart_state : (v : ℕ) → state_of t f at (read u us) (rest_in (module_of bytes t) t f (read s rs) open_marks totals) v ≡ state_in bytes t u us open_marks totals f at v
    apart_state v = rw (functions_same (read s rs) (read u us) S.ready.was_read totals_kept totals)

    pub apart_standing : {m v : ℕ} → Ready bytes t u us f at held m → ProperState (module_of bytes t) 0 f (state_in bytes t u us open_marks totals f at v)
        → Standing bytes t types places u us open_marks totals f at held m v
    apart_standing r p =
        let w = S.ready.was_read in
        let l = items_within f w S.ready.function in
        let low = S.ready.low in
        record {
          ready = r;
          typed = S.typed;
          placed = S.placed;
          open_long = S.open_long;
          totals-sum = sum_kept (read s rs) (read u us) w totals_kept totals S.totals-sum;
          unwalked = unwalked_kept (read s rs) (read u us) w totals_kept totals S.unwalked;
          proper = p;
          closed = λ k x y.
              a.same k (omega arith) (record { no_total = omega arith; no_record = λ e i z. omega arith; no_context = λ i j z. omega arith })
              ∙ S.closed k x y;
          above = λ k x.
              a.same k (omega arith) (record { no_total = omega arith; no_record = λ e i z. omega arith; no_context = λ i j z. omega arith })
              ∙ S.above k x;
        }

    pub beside_apart : Beside bytes t f at s rs open_marks u us open_marks
    beside_apart =
        let low = S.ready.low in
        record {
          long = a.long;
          stack = λ k x y. a.same k (omega arith) (record { no_total = omega arith; no_record = λ e i z. no_stack k e x i z; no_context = λ i j z. omega arith });
          records = λ k x y n. a.same k (omega arith) (record { no_total = omega arith; no_record = λ e i z. n e i (sym z); no_context = λ i j z. omega arith });
          marks_long = refl;
          marks = λ k x. refl;
        }
      where
        no_stack : (k e : ℕ) → stack_slot ≤ k → e < (row_at t f).expressions → k ≡ exprs_slot + expressions_from (row_at t f) + e → ⊥
        no_stack k e x i z = let l = items_within f S.ready.was_read S.ready.function in omega arith
