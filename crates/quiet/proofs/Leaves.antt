-- Statements that hold no blocks: an emit's expressions one by one, a store, and what leaves.
use Prim.Native.Nat.{ℕ, suc, ◌+◌, ◌-◌, ◌<◌, ◌≤◌}
use native.Mathlib.Omega.{arith}
use mathlib.Core.Path.{◌≡◌, refl, sym, subst, ◌∙◌}
use mathlib.Core.Bool.{Bool, true, false, ◌&&◌}
use mathlib.Core.List.{List}
use lib.ListN.{length, get_or}
use Rattle.part.specs.PartReq.{PartReq}
use Rattle.module.specs.Module.{BlockHandle, Statement, Kill}
use Rattle.module.specs.Decode.{statement_of}
use Rattle.module.specs.Tables.{function_of, module_of}
use Rattle.access.specs.declared.kinded.Kinded.{Kinded}
use Rattle.access.specs.Access.{operand_at, statement_row}
use Rattle.access.proofs.Access.{statement_is, statement-of}
use Rattle.valid.specs.Valid.{UsesBelow, entries_below}
use Rattle.clearance.specs.Scope.{Scope, is_path}
use Rattle.clearance.specs.Tree.{Tree, emit, store, statement}
use Rattle.clearance.specs.Needs.{idle, quiet}
use Rattle.clearance.specs.Judged.{is_value, fits_statement}
use Rattle.clearance.proofs.Small.{both_true}
use Rattle.judge.specs.Given.{scope_at}
use Rattle.judge.proofs.PathSteps.{function_valid}
use Rattle.standing.specs.World.{World}
use Rattle.place.specs.Target.{Pointer}
use Rattle.strays.specs.declared.exits.Exits.{Exits}
use Rattle.strays.specs.Exits.{exits_of}
use Rattle.quiet.specs.Acts.{Idle, idle_from, IdleFrom}
use Rattle.quiet.specs.Places.{quiet_statement, Says}
use Rattle.quiet.proofs.Trees.{emit_of, store_of, break_of, continue_of, return_of, other_of}

-- An emit's expressions

-- those up to e give nothing that is needed: what is left says the whole
pub record Passed (S : Scope) (n : PartReq) (first k e left : ℕ) (before after : List ℕ) : Type 0 where
  pub is : idle_from S n first k ≡ idle_from S n e left
  pub long : length after ≡ length before

module _ (S : Scope) (n : PartReq) (first last : ℕ) where
  abbrev count : ℕ
  count = (last + 1) - first

  module _ {e : ℕ} (l : e ≤ last) {before now after : List ℕ} (p : Passed S n first count e ((last + 1) - e) before now) {r : Bool} (i : Idle S (emit e) n now after r) where
    first_of : idle_from S n e ((last + 1) - e) ≡ idle S (emit e) n && idle_from S n (suc e) ((last + 1) - suc e)
    unfolding idle_from
    first_of = let z : (last + 1) - e ≡ suc ((last + 1) - suc e) = omega arith in rw z

    pub emits_stop : r ≡ false → IdleFrom S n first count before after false
    emits_stop h =
        let z : idle S (emit e) n ≡ false = sym i.is ∙ h in
        record { is = sym (p.is ∙ first_of ∙ rw z); long = i.long ∙ p.long }

    pub emits_next : r ≡ true → Passed S n first count (e + 1) ((last + 1) - (e + 1)) before after
    emits_next h =
        let z : idle S (emit e) n ≡ true = sym i.is ∙ h in
        let y : suc e ≡ e + 1 = omega arith in
        record { is = p.is ∙ first_of ∙ rw (z, y); long = i.long ∙ p.long }

  pub emits_end : {e : ℕ} → last < e → {before after : List ℕ} → Passed S n first count e ((last + 1) - e) before after → IdleFrom S n first count before after true
  unfolding idle_from
  emits_end {e} l p =
      let z : (last + 1) - e ≡ 0 = omega arith in
      record { is = sym (p.is ∙ rw z); long = p.long }

-- A statement, by its row
module _ {bytes t : List ℕ} {f : ℕ} {types alike : List ℕ} {paths : List Bool} (w : World bytes t f types alike paths) {s : ℕ} (l : s < length (function_of bytes t f).statements) {row : Kinded} (is : row ≡ statement_row bytes t f s) where
  abbrev S : Scope
  S = scope_at bytes t f

  abbrev o : ℕ → ℕ
  o = operand_at bytes row

  decoded : (k : ℕ) → row.kind ≡ k → get_or S.function.statements s Kill ≡ statement_of k o
  decoded k h = statement_is bytes t f s Kill l ∙ statement-of bytes t f s k row is h

  uses : (k : ℕ) → row.kind ≡ k → UsesBelow (length (function_of bytes t f).expressions) (entries_below f (module_of bytes t).functions) (statement_of k o)
  uses k h =
      subst (λ (x : Statement). UsesBelow (length (function_of bytes t f).expressions) (entries_below f (module_of bytes t).functions) x) (decoded k h)
      ((function_valid bytes t f w.given.of.read w.given.of.there).parts.each_statement s Kill l).uses

  pub last-there : {last : ℕ} → row.kind ≡ 0 → last ≡ o 1 → last < length (function_of bytes t f).expressions
  unfolding statement_of
  last-there h q = rw q (uses 0 h).1

  -- a store that fits has a path for its pointer
  pub stored_pointer : row.kind ≡ 12 → {x : ℕ} → x ≡ o 0 → Pointer bytes t f x
  unfolding statement_of fits_statement
  stored_pointer h q =
      let fits : fits_statement S (statement_of 12 o) ≡ true = subst (λ (x : Statement). fits_statement S x ≡ true) (statement-of bytes t f s 12 row is h) (w.fit s l) in
      rw q
      record {
        read = w.given.of.read;
        function = w.given.of.there;
        there = (uses 12 h).0;
        path = (both_true (is_path S (o 0)) _ (both_true (is_value S (o 1)) _ fits).1).0;
      }

  module _ (n : PartReq) (e : Exits Bool) {before after : List ℕ} {r : Bool} where
    pub quiet_emit : {first last : ℕ} → row.kind ≡ 0 → first ≡ o 0 → last ≡ o 1 → IdleFrom S n first ((last + 1) - first) before after r → (b : ℕ) →
        Says (quiet_statement S n b s (exits_of e)) before after r
    quiet_emit h x y i b =
        record {
          is = λ marks. i.is ∙ rw (x, y, decoded 0 h) (sym (emit_of S n (function_of bytes t f) marks _ s (exits_of e) o));
          long = i.long;
        }

    pub quiet_store : {q : ℕ} → row.kind ≡ 12 → q ≡ o 0 → ((v : ℕ) → Idle S (store q v) n before after r) → (b : ℕ) → Says (quiet_statement S n b s (exits_of e)) before after r
    quiet_store h x i b =
        record {
          is = λ marks. (i (o 1)).is ∙ rw (x, decoded 12 h) (sym (store_of S n (function_of bytes t f) marks _ s (exits_of e) o));
          long = (i 0).long;
        }

  -- what has no act: the lent path is as it was
  module _ (n : PartReq) (e : Exits Bool) (path : List ℕ) where
    by-kind : (k : ℕ) → row.kind ≡ k → {r : Bool} → ((marks : List ℕ) (block : BlockHandle → Tree) → quiet S n (statement (function_of bytes t f) marks block s (statement_of k o)) (exits_of e) ≡ r) → (b : ℕ) →
        Says (quiet_statement S n b s (exits_of e)) path path r
    by-kind k h z b = record { is = λ marks. sym (rw (decoded k h) (z marks _)); long = refl }

    pub quiet_break : (row.kind ≤ 20 → row.kind ≡ 5) → (b : ℕ) → Says (quiet_statement S n b s (exits_of e)) path path e.broke
    unfolding exits_of
    quiet_break h = by-kind row.kind refl (λ marks block. break_of S n (function_of bytes t f) marks block s (exits_of e) o row.kind h)

    pub quiet_continue : row.kind ≡ 6 → (b : ℕ) → Says (quiet_statement S n b s (exits_of e)) path path e.continued
    unfolding exits_of
    quiet_continue h = by-kind 6 h (λ marks block. continue_of S n (function_of bytes t f) marks block s (exits_of e) o)

    pub quiet_return : row.kind ≡ 7 → (b : ℕ) → Says (quiet_statement S n b s (exits_of e)) path path e.returned
    unfolding exits_of
    quiet_return h = by-kind 7 h (λ marks block. return_of S n (function_of bytes t f) marks block s (exits_of e) o)

    pub quiet_other : 7 < row.kind → row.kind ≤ 20 → (row.kind ≡ 12 → ⊥) → (b : ℕ) → Says (quiet_statement S n b s (exits_of e)) path path true
    quiet_other l u d = by-kind row.kind refl (λ marks block. other_of S n (function_of bytes t f) marks block s (exits_of e) o row.kind l u d)
