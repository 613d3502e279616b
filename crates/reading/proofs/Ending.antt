-- The end of a function: what the code finds there is the definition's.
use mathlib.Core.Path.{◌≡◌, refl, sym, ◌∙◌}
use mathlib.Core.Bool.{Bool, true, false}
use mathlib.Core.List.{List}
use Prim.Native.Nat.{ℕ, ◌<◌, ◌≤◌}
use borrow.Author.Tests.{le-leb, lt-leb}
use Rattle.module.specs.declared.tables.Counts.{Counts}
use Rattle.module.specs.Reading.{in_arguments}
use Rattle.module.specs.Tables.{set_row}
use Rattle.std.specs.Prelude.{Ok, Err}
use Rattle.field.specs.declared.refusal.Refusal.TheVariants.{ValueNotAllowed}
use Rattle.reading.specs.Ends.{one_more, rule_of, step_ended, table_ended}

module _ (bytes t : List ℕ) (c : Counts) where
  pub none_open : c.stage < in_arguments → (Ok c ≡ step_ended bytes t c) × (t ≡ table_ended bytes t c)
  unfolding step_ended table_ended
  none_open h = rw (lt-leb in_arguments c.stage h) (refl, refl)

  module _ (r : Bool) (h : in_arguments ≤ c.stage) (is : r ≡ rule_of bytes t c) where
    pub refused : r ≡ false → (Err ValueNotAllowed ≡ step_ended bytes t c) × (t ≡ table_ended bytes t c)
    unfolding step_ended table_ended
    refused e = rw (le-leb in_arguments c.stage h, sym is ∙ e) (refl, refl)

    pub taken : (u : List ℕ) → r ≡ true → u ≡ set_row t c.functions c.row → (Ok (one_more c) ≡ step_ended bytes t c) × (u ≡ table_ended bytes t c)
    unfolding step_ended table_ended
    taken u e w = rw (le-leb in_arguments c.stage h, sym is ∙ e) (refl, w)
