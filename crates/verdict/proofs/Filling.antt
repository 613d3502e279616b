-- The tables of a function, of a module that was read: what filling them asks, and that they serve; and what is not judged.
use Prim.Native.Nat.{ℕ, ◌*◌, ◌≤◌}
use native.Mathlib.Omega.{arith}
use mathlib.Core.Path.{◌≡◌, sym, ◌∙◌}
use mathlib.Core.Bool.{Bool}
use mathlib.Core.List.{List}
use lib.ListN.{length}
use Rattle.std.specs.Prelude.{Option, Some, None}
use Rattle.field.specs.Limits.{max_types}
use Rattle.module.specs.Tables.{function_of, module_of}
use Rattle.valid.specs.There.{There}
use Rattle.valid.proofs.Accepted.{valid}
use Rattle.context.specs.Types.{type_words, type_count, types_of, AllSized}
use Rattle.type_table.proofs.AllSized.{all_sized}
use Rattle.bindings.proofs.Returning.{types_long}
use Rattle.clearance.specs.Tree.{body_tree}
use Rattle.clearance.specs.Judged.{blamed_expression, blamed_statement}
use Rattle.judge.specs.Alike.{Lower, AlikeTable}
use Rattle.judge.specs.Unsized.{UnsizedTable}
use Rattle.judge.specs.Paths.{PathTable}
use Rattle.judge.specs.Given.{scope_at}
use Rattle.judge.specs.Blamed.{blamed}
use Rattle.judge.proofs.Equivalence.{lower_types}
use Rattle.checking.specs.declared.words.Verdict.TheVariants.{UnjudgedExpression, UnjudgedStatement}
use Rattle.verdict.specs.Tables.{Tables, unjudged, Judges}

module _ {bytes t : List ℕ} {f : ℕ} (T : There bytes t f) where
  pub few_types : length (module_of bytes t).types ≤ max_types
  few_types = (valid bytes (module_of bytes t) T.read).few_types

  pub rows_asked : {l : ℕ} → l ≡ type_words * length (module_of bytes t).types → (l ≡ type_words * length (module_of bytes t).types) × ((l ≤ type_words * max_types) × AllSized (module_of bytes t).types)
  rows_asked e = (e, (omega (arith, few_types, e), all_sized (module_of bytes t) (valid bytes (module_of bytes t) T.read)))

  module _ (types : List ℕ) (rows : types_of types ≡ (module_of bytes t).types) where
    lower : Lower (types_of types)
    lower = rw rows (lower_types (module_of bytes t) (valid bytes (module_of bytes t) T.read))

    pub words_asked : {l : ℕ} → l ≡ length (module_of bytes t).types → Lower (types_of types) × ((l ≡ type_count types) × (l ≤ max_types))
    words_asked e = (lower, (e ∙ rw (← rows) (types_long types), omega (arith, few_types, e)))

    pub filled : {alike : List ℕ} {held paths : List Bool} → AlikeTable (types_of types) alike → UnsizedTable (types_of types) held → PathTable (function_of bytes t f).expressions paths → Tables bytes t f types alike held paths
    filled A U P = record {
      given = record {
        of = T;
        values = record { same = sym rows; table = P };
        shapes = record { lower = lower; table = A };
      };
      unsized = U;
    }

-- what is not judged
module _ (bytes t : List ℕ) (f : ℕ) {b : Option ℕ} (B : blamed b ≡ blamed_expression (scope_at bytes t f)) where
  pub at-expression : {e : ℕ} → b ≡ Some e → Judges bytes t f (Some (UnjudgedExpression e))
  unfolding unjudged
  at-expression h = record { is = λ marks. rw (← B, h) }

  module _ (none : b ≡ None) {d : Option ℕ} (D : (marks : List ℕ) → blamed d ≡ blamed_statement (scope_at bytes t f) (body_tree (function_of bytes t f) marks)) where
    pub at-statement : {n : ℕ} → d ≡ Some n → Judges bytes t f (Some (UnjudgedStatement n))
    unfolding unjudged
    at-statement h = record { is = λ marks. rw (← B, none, ← D marks, h) }

    pub all_judged : d ≡ None → Judges bytes t f None
    unfolding unjudged
    all_judged h = record { is = λ marks. rw (← B, none, ← D marks, h) }
