-- How much contexts may count for: one that a block leaves is its base or was counted by 16 as the block's last visit ended; one that is joined with what it contains stays
-- as it is. So every join has room, and its result can be counted.
use Prim.Native.Nat.{ℕ, ◌+◌, ◌≤◌}
use native.Mathlib.Omega.{arith}
use mathlib.Core.Path.{◌≡◌}
use mathlib.Core.Bool.{Bool, true, ◌&&◌}
use Rattle.field.specs.Limits.{max_pieces}
use Rattle.part.specs.PartReq.{contains, add}
use Rattle.part.proofs.Order.{reflexive, transitive}
use Rattle.part.proofs.Sum.{sum_left, add-contained}
use Rattle.context.specs.RequiredContext.{RequiredContext, contains_context, merge_context, pieces}
use Rattle.walk.proofs.Bind.{and_left, and_right}
use Rattle.walk.proofs.Room.{pieces-merge}
use Rattle.block.specs.Blocks.{Settled, untouched, checked}

-- `contains` of contexts, map by map
record Has (c d : RequiredContext) : Type 0 where
  pub globals : contains c.globals d.globals ≡ true
  pub locals : contains c.locals d.locals ≡ true
  pub args : contains c.args d.args ≡ true
  pub retval : contains c.retval d.retval ≡ true

four_true : (a b c d : Bool) → a ≡ true → b ≡ true → c ≡ true → d ≡ true → (a && b && c && d) ≡ true
four_true a b c d p q r s = rw (p, q, r, s)

has_contains : (c d : RequiredContext) → Has c d → contains_context c d ≡ true
unfolding contains_context
has_contains c d h =
    four_true (contains c.globals d.globals) (contains c.locals d.locals) (contains c.args d.args) (contains c.retval d.retval)
    h.globals h.locals h.args h.retval

contains_has : (c d : RequiredContext) → contains_context c d ≡ true → Has c d
unfolding contains_context
contains_has c d h =
    let g = contains c.globals d.globals in
    let l = contains c.locals d.locals in
    let a = contains c.args d.args in
    let r = contains c.retval d.retval in
    let three = and_left (g && l && a) r h in
    let two = and_left (g && l) a three in
    record { globals = and_left g l two; locals = and_right g l two; args = and_right (g && l) a three; retval = and_right (g && l && a) r h }

pub contains_itself : (c : RequiredContext) → contains_context c c ≡ true
contains_itself c =
    has_contains c c (record { globals = reflexive c.globals; locals = reflexive c.locals; args = reflexive c.args; retval = reflexive c.retval })

-- what is contained stays so as more is joined
pub contains_more : (c d e : RequiredContext) → contains_context c e ≡ true → contains_context (merge_context c d) e ≡ true
unfolding merge_context
contains_more c d e h =
    let x = contains_has c e h in
    has_contains (merge_context c d) e
    (record {
      globals = transitive (add c.globals d.globals) c.globals e.globals (sum_left c.globals d.globals) x.globals;
      locals = transitive (add c.locals d.locals) c.locals e.locals (sum_left c.locals d.locals) x.locals;
      args = transitive (add c.args d.args) c.args e.args (sum_left c.args d.args) x.args;
      retval = transitive (add c.retval d.retval) c.retval e.retval (sum_left c.retval d.retval) x.retval;
    })

pub merge_contained : (c d : RequiredContext) → contains_context c d ≡ true → merge_context c d ≡ c
unfolding merge_context
merge_contained c d h =
    let x = contains_has c d h in
    rw (
      add-contained c.globals d.globals x.globals,
      add-contained c.locals d.locals x.locals,
      add-contained c.args d.args x.args,
      add-contained c.retval d.retval x.retval,
    )

-- what a block has left
module _ {held : ℕ} {base : RequiredContext} {before : ℕ} {context : RequiredContext} {sum : ℕ} where
  pub settled_pieces : (n : ℕ) → Settled held base before context sum → pieces base ≤ n → max_pieces ≤ n → pieces context ≤ n
  settled_pieces n (untouched e f) a b = rw e a
  settled_pieces n (checked h) a b = omega arith

  -- with k of what it held
  pub settled_sum : (k n : ℕ) → Settled held base before context sum → k ≤ held → k + before ≤ n → max_pieces ≤ n → k + sum ≤ n
  settled_sum k n (untouched e f) l a b = rw f a
  settled_sum k n (checked h) l a b = omega arith

-- a case of a switch, from the context `outer`, joined to what contains that
pub case_few : {held : ℕ} {outer : RequiredContext} {before : ℕ} {walked : RequiredContext} {sum : ℕ} (joined : RequiredContext)
    → Settled held outer before walked sum → pieces joined ≤ held → contains_context joined outer ≡ true → pieces joined ≤ max_pieces
    → pieces (merge_context joined walked) ≤ max_pieces
case_few {outer = outer} joined (untouched e f) l h few = rw (e, merge_contained joined outer h) few
case_few {walked = walked} joined (checked k) l h few = omega (arith, pieces-merge joined walked)
