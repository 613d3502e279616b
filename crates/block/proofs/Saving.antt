-- A context copied, cleared and put into four slots, and the two at the top of the stack made one: what the slots mean then. By the laws of stretches.
use Prim.Native.Nat.{ℕ, ◌+◌, ◌<◌, ◌≤◌}
use native.Mathlib.Omega.{arith}
use native.Mathlib.Decide.{ℕ_discrete}
use mathlib.Core.Path.{◌≡◌, refl, sym, ap, ◌∙◌}
use mathlib.Core.Bool.{Bool, true, false, not}
use mathlib.Core.List.{List}
use lib.ListN.{length, get_or, set, length-set}
use lib.Seq.{get_or-set_same, get_or-set_other, ext_get_or}
use Rattle.std.specs.Prelude.{⊤, Option}
use Rattle.std.specs.Bool.{then_some}
use Rattle.std.specs.Option.{is_none}
use Rattle.part.specs.PartReq.{PartReq, none}
use Rattle.part.specs.Store.{top, part, Good, Room}
use Rattle.part.proofs.Pieces.{part-2}
use Rattle.context.specs.RequiredContext.{RequiredContext, empty_context, merge_context, contains_context, over_context, pieces}
use Rattle.context.specs.Contexts.{context_of, HasContext, MadeContext}
use Rattle.context.specs.declared.required_context.RequiredContext.{RequiredContext as Pieces}
use Rattle.memory.specs.Layout.{functions_slot, stack_slot}
use Rattle.memory.specs.Memory.{read, context_at, with_context, Memory}
use Rattle.memory.specs.Stretches.{four_set, pieces_at}
use Rattle.memory.proofs.Slots.{read_at, kept_memory, kept_read}
use Rattle.memory.proofs.Runs.{four_read, copy_read, clear_read, four_memory, four_long}
use Rattle.block.specs.Saved.{Saved, Popped, Loaded, Lowered, Dropped, Joined}

-- whether a limit is passed, as the code answers it
pub none_over : (b : Bool) {r : Option ⊤} → r ≡ then_some (not b) tt → is_none r ≡ b
none_over true e = rw e refl
none_over false e = rw e refl

set-again : (ps : List PartReq) (k : ℕ) → set ps k (get_or ps k none) ≡ ps
set-again ps k =
    ext_get_or none (set ps k (get_or ps k none)) ps (length-set ps k (get_or ps k none))
    (λ j l.
    elim (ℕ_discrete j k) [
      | yes e ↦ let b : k < length ps = omega (arith, length-set ps k (get_or ps k none)) in rw (e, get_or-set_same ps k (get_or ps k none) none b)
      | no ne ↦ get_or-set_other ps k j (get_or ps k none) none ne
    ])

-- a context put where it stands
pub context_again : (ps : List PartReq) (k : ℕ) → with_context ps k (context_at ps k) ≡ ps
context_again ps k = rw (set-again ps k, set-again ps (k + 1), set-again ps (k + 2), set-again ps (k + 3))

-- the pieces of a context that was loaded
pub loaded : {rs : List ℕ} {k : ℕ} {c : Pieces} → c ≡ pieces_at rs k → Loaded rs k c
loaded e = record {
  globals = ap (λ (x : Pieces). x.globals) e;
  locals = ap (λ (x : Pieces). x.locals) e;
  args = ap (λ (x : Pieces). x.args) e;
  retval = ap (λ (x : Pieces). x.retval) e;
}

module _ {s rs : List ℕ} {k : ℕ} {c : Pieces} (m : Memory s rs) (l : k + 4 ≤ length rs) (h : Loaded rs k c) where
  pub loaded_is : context_of s c ≡ context_at (read s rs) k
  loaded_is =
      rw (
        h.globals,
        h.locals,
        h.args,
        h.retval,
        read_at s rs k (omega arith),
        read_at s rs (k + 1) (omega arith),
        read_at s rs (k + 2) (omega arith),
        read_at s rs (k + 3) (omega arith),
      )

  pub loaded_has : HasContext s c
  loaded_has = record {
    globals = rw h.globals (m.below k (omega arith));
    locals = rw h.locals (m.below (k + 1) (omega arith));
    args = rw h.args (m.below (k + 2) (omega arith));
    retval = rw h.retval (m.below (k + 3) (omega arith));
  }

module _ {s rs : List ℕ} (m : Memory s rs) where
  pub saved_copy : (from to : ℕ) → functions_slot ≤ to → from + 4 ≤ length rs → to + 4 ≤ length rs
      → Saved s rs to (context_at (read s rs) from) s (four_set rs to (get_or rs from 0) (get_or rs (from + 1) 0) (get_or rs (from + 2) 0) (get_or rs (from + 3) 0))
  saved_copy from to a b c = record {
    memory = four_memory to _ _ _ _ m (omega arith) c (m.below from (omega arith), (m.below (from + 1) (omega arith), (m.below (from + 2) (omega arith), m.below (from + 3) (omega arith))));
    reads = copy_read s rs from to b;
    long = four_long rs to _ _ _ _;
  }

  pub saved_clear : (k : ℕ) → functions_slot ≤ k → k + 4 ≤ length rs → Saved s rs k empty_context s (four_set rs k 2 2 2 2)
  saved_clear k a b =
      let l : 2 < top s = omega (arith, m.good.base) in
      record { memory = four_memory k 2 2 2 2 m (omega arith) b (l, (l, (l, l))); reads = clear_read s rs k; long = four_long rs k 2 2 2 2 }

  pub saved_made : (k : ℕ) {t : List ℕ} {d : RequiredContext} {n : ℕ} {c : Pieces} → functions_slot ≤ k → k + 4 ≤ length rs → MadeContext s t d n c
      → Saved s rs k d t (four_set rs k c.globals c.locals c.args c.retval)
  saved_made k {t} {d} {n} {c} a b h = record {
    memory = four_memory k _ _ _ _ (kept_memory m h.kept) (omega arith) b (h.has.globals, (h.has.locals, (h.has.args, h.has.retval)));
    reads = four_read t rs k c.globals c.locals c.args c.retval ∙ rw (kept_read rs h.kept m.below, ← h.is);
    long = four_long rs k _ _ _ _;
  }

-- the base context of a called function
pub saved_base : {s rs us : List ℕ} {at r : ℕ} → Memory s rs → stack_slot ≤ at → at + 8 ≤ length rs → r < top s → us ≡ four_set rs (at + 4) (get_or rs at 0) 2 2 r
    → Saved s rs (at + 4) (record { globals = (context_at (read s rs) at).globals; locals = none; args = none; retval = part s r }) s us
saved_base {s} {rs} {us} {at} {r} m l h b e =
    let two : 2 < top s = omega (arith, m.good.base) in
    record {
      memory = rw e (four_memory (at + 4) (get_or rs at 0) 2 2 r m (omega arith) (omega arith) (m.below at (omega arith), (two, (two, b))));
      reads = rw e (four_read s rs (at + 4) (get_or rs at 0) 2 2 r ∙ rw (part-2 s, read_at s rs at (omega arith)));
      long = rw e (four_long rs (at + 4) (get_or rs at 0) 2 2 r);
    }

pub popped_by : {s rs t vs u us : List ℕ} {k : ℕ} {c : RequiredContext} → Saved s rs k c t vs → Saved t vs (k + 4) empty_context u us → Popped s rs k c u us
popped_by {k = k} a b = record {
  memory = b.memory;
  reads = b.reads ∙ ap (λ (ps : List PartReq). with_context ps (k + 4) empty_context) a.reads;
  long = b.long ∙ a.long;
}

-- the upper context in the place of the lower one
pub lowered : {rs vs us : List ℕ} (k : ℕ) → k + 8 ≤ length rs
    → vs ≡ four_set rs k (get_or rs (k + 4) 0) (get_or rs (k + 4 + 1) 0) (get_or rs (k + 4 + 2) 0) (get_or rs (k + 4 + 3) 0)
    → us ≡ four_set vs (k + 4) 2 2 2 2
    → Lowered rs k us
lowered {rs} {vs} {us} k l e f = record {
  is = λ s m a.
      let first : Saved s rs k (context_at (read s rs) (k + 4)) s vs = rw e (saved_copy m (k + 4) k (omega arith) (omega arith) (omega arith)) in
      let second : Saved s vs (k + 4) empty_context s us = rw f (saved_clear first.memory (k + 4) (omega arith) (omega (arith, first.long))) in
      popped_by first second;
}

pub dropped : {rs us : List ℕ} (k : ℕ) → k + 8 ≤ length rs → us ≡ four_set rs (k + 4) 2 2 2 2 → Dropped rs k us
dropped {rs} {us} k l f = record {
  is = λ s m a.
      let first : Saved s rs k (context_at (read s rs) k) s rs = record { memory = m; reads = sym (context_again (read s rs) k); long = refl } in
      let second : Saved s rs (k + 4) empty_context s us = rw f (saved_clear m (k + 4) (omega arith) (omega arith)) in
      popped_by first second;
}

-- the two contexts at the top
module _ {s rs : List ℕ} {k : ℕ} {c d : Pieces} (m : Memory s rs) (l : k + 8 ≤ length rs) (hc : Loaded rs k c) (hd : Loaded rs (k + 4) d) where
  pub both_asked : Good s × (HasContext s c × HasContext s d)
  both_asked = (m.good, (loaded_has m (omega arith) hc, loaded_has m (omega arith) hd))

  pub settled_is : {r : Bool} → r ≡ contains_context (context_of s c) (context_of s d) → r ≡ contains_context (context_at (read s rs) k) (context_at (read s rs) (k + 4))
  settled_is e = rw (← loaded_is m (omega arith) hc, ← loaded_is m (omega arith) hd) e

  pub join-asked : Room s (pieces (context_at (read s rs) k) + pieces (context_at (read s rs) (k + 4))) → Good s × ((HasContext s c × HasContext s d) × Room s (pieces (context_of s c) + pieces (context_of s d)))
  join-asked r = (m.good, (both_asked.1, omega (arith, ap pieces (loaded_is m (omega arith) hc), ap pieces (loaded_is m (omega arith) hd))))

  module _ {vs : List ℕ} (n : Pieces) (is : vs ≡ four_set rs k n.globals n.locals n.args n.retval) where
    pub join_clears : k + 4 + 4 ≤ length vs
    join_clears = rw is (omega (arith, four_long rs k n.globals n.locals n.args n.retval))

    pub joined_is : {t us : List ℕ} {r : Bool} → stack_slot ≤ k → MadeContext s t (merge_context (context_of s c) (context_of s d)) (pieces (context_of s c) + pieces (context_of s d)) n
        → us ≡ four_set vs (k + 4) 2 2 2 2 → r ≡ over_context (context_of t n) → Joined s rs k r t us
    joined_is {t} {us} {r} a h e o =
        let lower = loaded_is m (omega arith) hc in
        let upper = loaded_is m (omega arith) hd in
        let first : Saved s rs k (merge_context (context_of s c) (context_of s d)) t vs = rw is (saved_made m k (omega arith) (omega arith) h) in
        let second : Saved t vs (k + 4) empty_context t us = rw e (saved_clear first.memory (k + 4) (omega arith) join_clears) in
        record {
          popped = rw (← lower, ← upper) (popped_by first second);
          over = o ∙ rw (h.is, lower, upper);
          spent = omega (arith, h.cost, ap pieces lower, ap pieces upper);
        }
