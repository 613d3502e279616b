-- What the optional handle of an operand says of its number: absent, or the number of the expression; and what a number says of what is
-- read from it. By the test of `option_of`.
use Rattle.std.proofs.Common.{refl, ◌≡◌, ℕ, Bool, true, false, eqb, cond}
use Rattle.std.proofs.Math.Option.{Option, some, none as nothing, some-injective, none-ne-some, some-ne-none}
use Rattle.std.proofs.lemmas.Bool.{eqb-true, eqb-false, ne_eqb}
use borrow.Author.Tests.{eq-eqb}
use Rattle.std.specs.Prelude.{Option as Optional, Some, None}
use Rattle.module.specs.declared.handles.ExpressionHandle.{ExpressionHandle as Handle}
use Rattle.access.specs.Access.{handle_in}
use Rattle.field.specs.Limits.{absent}
use Rattle.module.specs.Decode.{option_of}

module _ (n : ℕ) where
  pub none_by : n ≡ absent → option_of n ≡ nothing
  unfolding option_of
  none_by e = rw (eq-eqb n absent e)

  pub some_by : (n ≡ absent → ⊥) → option_of n ≡ some n
  unfolding option_of
  some_by e = rw (ne_eqb n absent e)

  absent_by : (b : Bool) → eqb n absent ≡ b → ◌≡◌ {A = Option ℕ} nothing (cond b nothing (some n)) → n ≡ absent
  absent_by true e p = eqb-true n absent e
  absent_by false e p = absurd (none-ne-some n p)

  pub absent_of : ◌≡◌ {A = Option ℕ} nothing (option_of n) → n ≡ absent
  unfolding option_of
  absent_of = absent_by (eqb n absent) refl

  given_by : {k : ℕ} (b : Bool) → eqb n absent ≡ b → ◌≡◌ {A = Option ℕ} (some k) (cond b nothing (some n)) → (k ≡ n) × (n ≡ absent → ⊥)
  given_by true e p = absurd (some-ne-none _ p)
  given_by false e p = (some-injective _ n p, eqb-false n absent e)

  pub given_of : {k : ℕ} → ◌≡◌ {A = Option ℕ} (some k) (option_of n) → (k ≡ n) × (n ≡ absent → ⊥)
  unfolding option_of
  given_of = given_by (eqb n absent) refl

-- what the code's Option is
module _ {h : Optional Handle} where
  pub no_handle : h ≡ None → handle_in h ≡ nothing
  unfolding handle_in
  no_handle e = rw e

  pub handle_is : {e : Handle} → h ≡ Some e → handle_in h ≡ some e.0
  unfolding handle_in
  handle_is e = rw e
