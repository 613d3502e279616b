-- The stack of contexts of a state that stands: going up to an empty place, a context put at the top, and the two at the top made one. All else stays as it was, so
-- that only the current context changes; what the slots count for changes by what is put and what is cleared.
use Prim.Native.Nat.{ℕ, zero, suc, ◌+◌, ◌-◌, ◌<◌, ◌≤◌}
use native.Mathlib.Omega.{arith}
use mathlib.Core.Path.{◌≡◌, refl, sym, ap, ◌∙◌}
use mathlib.Core.Bool.{Bool, true, false}
use mathlib.Core.List.{List}
use lib.Dec.{ltb}
use lib.ListN.{length, get_or}
use borrow.Author.Tests.{ltb-true, ltb-false}
use Rattle.part.specs.PartReq.{PartReq, none, entries}
use Rattle.part.specs.StoreLimits.{entries_cap}
use Rattle.module.specs.Module.{Module, FunctionHandle}
use Rattle.module.specs.Tables.{module_of}
use Rattle.access.proofs.Access.{functions_are}
use Rattle.context.specs.RequiredContext.{RequiredContext, empty_context, pieces}
use Rattle.walk.specs.State as walk
use Rattle.walk.specs.Proper.{FineContext}
use Rattle.memory.specs.Layout.{globals_slot, totals_slot, stack_slot}
use Rattle.memory.specs.Memory.{read, sum_from, counted, context_at, with_context, Memory}
use Rattle.memory.proofs.Slots.{read-long}
use Rattle.memory.proofs.Runs.{four_outside, context_put, sum_context, four_long, context_same}
use Rattle.marks.specs.declared.places.MarkPlaces.{MarkPlaces}
use Rattle.marks.specs.declared.totals.MarkTotals.{MarkTotals}
use Rattle.block.specs.Standing.{state_in, Standing}
use Rattle.block.specs.Saved.{Saved, Popped}
use Rattle.block.proofs.Same.{own_sum, state_same, sum_kept, unwalked_kept}

-- the empty context
pub empty_fine : (m : Module) (f : FunctionHandle) → FineContext m f empty_context
empty_fine m f = record { globals = tt; locals = tt; args = tt; retval = tt }

pub empty_pieces : pieces empty_context ≡ 0
unfolding pieces entries
empty_pieces = refl

pub empty_slots : (ps : List PartReq) (k i : ℕ) → context_at ps k ≡ empty_context → i < 4 → get_or ps (k + i) none ≡ none
empty_slots ps k zero e l = let z : k + 0 ≡ k = omega arith in rw z (ap (λ (c : RequiredContext). c.globals) e)
empty_slots ps k (suc zero) e l = ap (λ (c : RequiredContext). c.locals) e
empty_slots ps k (suc (suc zero)) e l = ap (λ (c : RequiredContext). c.args) e
empty_slots ps k (suc (suc (suc zero))) e l = ap (λ (c : RequiredContext). c.retval) e
empty_slots ps k (suc (suc (suc (suc i)))) e l = absurd (omega arith)

-- a context put into four slots
module _ (ps : List PartReq) (k : ℕ) (c : RequiredContext) where
  pub put_long : length (with_context ps k c) ≡ length ps
  put_long = four_long ps k c.globals c.locals c.args c.retval

  pub put_below : (j : ℕ) → j < k → get_or (with_context ps k c) j none ≡ get_or ps j none
  put_below j l = four_outside ps k c.globals c.locals c.args c.retval none j (λ i b e. omega arith)

  pub put_above : (j : ℕ) → k + 4 ≤ j → get_or (with_context ps k c) j none ≡ get_or ps j none
  put_above j l = four_outside ps k c.globals c.locals c.args c.retval none j (λ i b e. omega arith)

  pub counted-put : globals_slot ≤ k → k + 4 ≤ length ps → counted (with_context ps k c) + pieces (context_at ps k) ≡ counted ps + pieces c
  counted-put a b =
      omega (
        arith,
        sum_context ps k c globals_slot (length ps - globals_slot) b a (omega arith),
        ap (λ (n : ℕ). sum_from (with_context ps k c) globals_slot (n - globals_slot)) put_long,
      )

-- the two at the top made one
abbrev after : List PartReq → ℕ → RequiredContext → List PartReq
after ps k c = with_context (with_context ps k c) (k + 4) empty_context

module _ (ps : List PartReq) (k : ℕ) (c : RequiredContext) (high : k + 8 ≤ length ps) where
  pub one_context : context_at (after ps k c) k ≡ c
  one_context =
      context_same (with_context ps k c) (after ps k c) k (λ i l. put_below (with_context ps k c) (k + 4) empty_context (k + i) (omega arith))
      ∙ context_put ps k c (omega arith)

  pub one_cleared : context_at (after ps k c) (k + 4) ≡ empty_context
  one_cleared = context_put (with_context ps k c) (k + 4) empty_context (omega (arith, put_long ps k c))

  pub one_below : (j : ℕ) → j < k → get_or (after ps k c) j none ≡ get_or ps j none
  one_below j l = put_below (with_context ps k c) (k + 4) empty_context j (omega arith) ∙ put_below ps k c j l

  pub one_above : (j : ℕ) → k + 8 ≤ j → get_or (after ps k c) j none ≡ get_or ps j none
  one_above j l = put_above (with_context ps k c) (k + 4) empty_context j (omega arith) ∙ put_above ps k c j (omega arith)

  pub one_counted : globals_slot ≤ k → counted (after ps k c) + (pieces (context_at ps k) + pieces (context_at ps (k + 4))) ≡ counted ps + pieces c
  one_counted a =
      omega (
        arith,
        counted-put (with_context ps k c) (k + 4) empty_context (omega arith) (omega (arith, put_long ps k c)),
        counted-put ps k c a (omega arith),
        ap pieces (context_same ps (with_context ps k c) (k + 4) (λ i l. put_above ps k c (k + 4 + i) (omega arith))),
        empty_pieces,
      )

-- what a step on the stack leaves
record Moved (s rs u us : List ℕ) : Type 0 where
  pub memory : Memory u us
  pub long : length us ≡ length rs
  pub same : (k : ℕ) → globals_slot ≤ k → k < stack_slot → get_or (read u us) k none ≡ get_or (read s rs) k none

module _ {bytes t types : List ℕ} {places : MarkPlaces} {s rs open_marks : List ℕ} {totals : MarkTotals} {f at held sum visits : ℕ} (S : Standing bytes t types places s rs open_marks totals f at held sum visits) where
  module _ {u us : List ℕ} (M : Moved s rs u us) where
    moved_state : (to : ℕ) → state_in bytes t u us open_marks totals f to visits ≡ walk.with_context (context_at (read u us) to) (state_in bytes t s rs open_marks totals f at visits)
    moved_state to = state_same (read s rs) (read u us) S.ready.was_read f S.ready.function M.same to visits open_marks totals

    moved : (to h : ℕ) → stack_slot ≤ to → to + 4 ≤ length rs → FineContext (module_of bytes t) f (context_at (read u us) to)
        → ((k : ℕ) → to + 4 ≤ k → get_or (read u us) k none ≡ none)
        → counted (read u us) ≤ h + (pieces (context_at (read u us) to) + sum)
        → h + (pieces (context_at (read u us) to) + sum) ≤ entries_cap
        → Standing bytes t types places u us open_marks totals f to h sum visits
    moved to h low high fine above owned small =
        let w = S.ready.was_read in
        let totals_kept : (k : ℕ) → totals_slot ≤ k → k < stack_slot → get_or (read u us) k none ≡ get_or (read s rs) k none = λ k a b. M.same k (omega arith) b in
        let within = w.laid.within f (rw (functions_are t bytes) S.ready.function) in
        record {
          ready = record {
            was_read = w;
            function = S.ready.function;
            memory = M.memory;
            low = low;
            high = omega (arith, M.long);
            sums = S.ready.sums ∙ sym (own_sum (read s rs) (read u us) w f S.ready.function M.same);
            owned = owned;
            small = small;
          };
          typed = S.typed;
          placed = S.placed;
          open_long = S.open_long;
          totals-sum = sum_kept (read s rs) (read u us) w totals_kept totals S.totals-sum;
          unwalked = unwalked_kept (read s rs) (read u us) w totals_kept totals S.unwalked;
          proper = rw (moved_state to)
              (record {
                context = fine;
                exprs = S.proper.exprs;
                marks = S.proper.marks;
                globals = S.proper.globals;
                functions = S.proper.functions;
                visits = S.proper.visits;
              });
          closed = λ k a b. M.same k (omega arith) (omega arith) ∙ S.closed k a b;
          above = above;
        }

  still : Moved s rs s rs
  still = record { memory = S.ready.memory; long = refl; same = λ k a b. refl }

  above_empty : context_at (read s rs) (at + 4) ≡ empty_context
  above_empty =
      rw (S.above (at + 4) (omega arith), S.above (at + 4 + 1) (omega arith), S.above (at + 4 + 2) (omega arith), S.above (at + 4 + 3) (omega arith))

  -- the empty place above the current context
  pub up_state : state_in bytes t s rs open_marks totals f (at + 4) visits ≡ walk.with_context empty_context (state_in bytes t s rs open_marks totals f at visits)
  up_state = moved_state still (at + 4) ∙ rw above_empty

  pub up_empty : pieces (context_at (read s rs) (at + 4)) ≡ 0
  up_empty = ap pieces above_empty ∙ empty_pieces

  pub up : at + 8 ≤ length rs → Standing bytes t types places s rs open_marks totals f (at + 4) (held + pieces (context_at (read s rs) at)) sum visits
  up high =
      let e = up_empty in
      moved still (at + 4) (held + pieces (context_at (read s rs) at)) (omega (arith, S.ready.low)) (omega arith)
      (rw above_empty (empty_fine (module_of bytes t) f)) (λ k l. S.above k (omega arith)) (omega (arith, S.ready.owned)) (omega (arith, S.ready.small))

  -- a context put at the top
  module _ {u us : List ℕ} {c : RequiredContext} (d : Saved s rs at c u us) where
    saved_moved : Moved s rs u us
    saved_moved = record {
      memory = d.memory;
      long = d.long;
      same = λ k a b. rw d.reads (put_below (read s rs) at c k (omega (arith, S.ready.low)));
    }

    pub saved_context : context_at (read u us) at ≡ c
    saved_context = rw d.reads (context_put (read s rs) at c (omega (arith, S.ready.high, read-long s rs)))

    pub saved_state : state_in bytes t u us open_marks totals f at visits ≡ walk.with_context c (state_in bytes t s rs open_marks totals f at visits)
    saved_state = moved_state saved_moved at ∙ rw saved_context

    pub saved_standing : FineContext (module_of bytes t) f c → held + (pieces c + sum) ≤ entries_cap → Standing bytes t types places u us open_marks totals f at held sum visits
    saved_standing fine small =
        let e = ap pieces saved_context in
        let n = ap counted d.reads in
        moved saved_moved at held S.ready.low S.ready.high (rw saved_context fine)
        (λ k l. rw d.reads (put_above (read s rs) at c k l) ∙ S.above k l)
        (omega (arith, S.ready.owned, counted-put (read s rs) at c (omega (arith, S.ready.low)) (omega (arith, S.ready.high, read-long s rs))))
        (omega arith)

-- the two at the top made one: k is the lower of them
module _ {bytes t types : List ℕ} {places : MarkPlaces} {s rs open_marks : List ℕ} {totals : MarkTotals} {f k outer sum visits : ℕ} {c : RequiredContext} {u us : List ℕ}
    (S : Standing bytes t types places s rs open_marks totals f (k + 4) outer sum visits) (d : Popped s rs k c u us) (low : stack_slot ≤ k) where
  high : k + 8 ≤ length (read s rs)
  high = omega (arith, S.ready.high, read-long s rs)

  pub popped_below : (j : ℕ) → j < k → get_or (read u us) j none ≡ get_or (read s rs) j none
  popped_below j l = rw d.reads (one_below (read s rs) k c high j l)

  popped_moved : Moved s rs u us
  popped_moved = record { memory = d.memory; long = d.long; same = λ j a b. popped_below j (omega arith) }

  pub popped_context : context_at (read u us) k ≡ c
  popped_context = rw d.reads (one_context (read s rs) k c high)

  pub popped_state : state_in bytes t u us open_marks totals f k visits ≡ walk.with_context c (state_in bytes t s rs open_marks totals f (k + 4) visits)
  popped_state = moved_state S popped_moved k ∙ rw popped_context

  popped_above : (j : ℕ) → k + 4 ≤ j → get_or (read u us) j none ≡ none
  popped_above j l = rw d.reads (by (ltb j (k + 8)) refl)
    where
      by : (b : Bool) → ltb j (k + 8) ≡ b → get_or (after (read s rs) k c) j none ≡ none
      by true e =
          let b = ltb-true j (k + 8) e in
          let i : j ≡ k + 4 + (j - (k + 4)) = omega arith in
          rw i (empty_slots (after (read s rs) k c) (k + 4) (j - (k + 4)) (one_cleared (read s rs) k c high) (omega arith))
      by false e = one_above (read s rs) k c high j (ltb-false j (k + 8) e) ∙ S.above j (omega (arith, ltb-false j (k + 8) e))

  pub popped_standing : (held : ℕ) → outer ≡ held + pieces (context_at (read s rs) k) → FineContext (module_of bytes t) f c → held + (pieces c + sum) ≤ entries_cap
      → Standing bytes t types places u us open_marks totals f k held sum visits
  popped_standing held is fine small =
      let e = ap pieces popped_context in
      let n = ap counted d.reads in
      moved S popped_moved k held low (omega (arith, S.ready.high)) (rw popped_context fine) popped_above
      (omega (arith, S.ready.owned, one_counted (read s rs) k c high (omega arith)))
      (omega arith)
