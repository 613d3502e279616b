-- From the row of an expression to its arm: the row's kind gives the constructor, and so what the arm asks; what it asks is there, since the module
-- that was read is valid.
use mathlib.Core.Path.{◌≡◌, refl}
use mathlib.Core.List.{List, [], ◌∷◌}
use mathlib.Core.Option.{some}
use Prim.Native.Nat.{ℕ, zero, suc, ◌+◌, ◌<◌}
use lib.ListN.{length, get_or}
use Rattle.field.specs.declared.refusal.Refusal.TheVariants.{Panic}
use Rattle.part.specs.PartReq.{none, more}
use Rattle.module.specs.Module.{Literal}
use Rattle.module.specs.declared.handles.GlobalHandle as global-handles
use Rattle.module.specs.declared.handles.LocalHandle as local-handles
use Rattle.module.specs.Decode.{tab, expression_of}
use Rattle.module.specs.Tables.{function_of, module_of}
use Rattle.access.specs.declared.kinded.Kinded.{Kinded}
use Rattle.access.specs.Access.{operand_at, expression_row}
use Rattle.access.proofs.Access.{function_is, expression-at}
use Rattle.context.specs.Swizzle.{swizzled}
use Rattle.walk.specs.Resolve.{function_at, expression_at}
use Rattle.walk.specs.Expression.{Ask, formed, constant_asks, swizzle_asks, compose_asks, arm_asks}
use Rattle.valid.specs.Valid.{EachBelow, OperandsBelow, NamesBelow, ExpressionValid, FunctionValid, entries_below}
use Rattle.valid.proofs.Accepted.{valid}
use Rattle.memory.specs.declared.want.Want.{Want}
use Rattle.memory.specs.Want.{asked}
use Rattle.asks.specs.Asks.{said, HasWant, only_of, Only, Told, There, Asks}
use Rattle.asks.specs.Ways.{field_asks, fields, ways_of, Plain}
use Rattle.std.specs.Prelude.{Option as Optional, Some}
use Rattle.asks.specs.declared.what.Ask as declared
use Rattle.asks.specs.declared.what.Ask.TheVariants.{Argument, Global, Local, Refuse}
use Rattle.asks.proofs.ByKind.{by_fields}
use Rattle.asks.proofs.Reach.{arm_within}

-- an arm that does one thing
pub only_first : (what : declared.Ask) (j : ℕ) → j ≡ 0 → Only what j (Some what)
only_first what j e = record { is = rw e }

only_told : {s rs : List ℕ} {w : Want} {what : declared.Ask} {a : Ask} {j : ℕ} {r : Optional declared.Ask} → HasWant s rs (Some what) → Only what j r → some a ≡ said s rs w (Some what) → Told s rs w (a ∷ []) j r
only_told {s} {rs} {w} {what} {a} {j} q d e = rw d.is (go j)
  where
    go : (j : ℕ) → Told s rs w (a ∷ []) j (only_of what j)
    go zero = record { wants = q; is = e }
    go (suc j) = record { wants = tt; is = refl }

module _ {bytes t : List ℕ} {f e : ℕ} (h : There bytes t f e) where
  same_function : function_at (module_of bytes t) f ≡ function_of bytes t f
  unfolding function_at
  same_function = function_is bytes t f _ h.function

  function_valid : FunctionValid (length (module_of bytes t).types) (length (module_of bytes t).globals) (entries_below f (module_of bytes t).functions) (function_at (module_of bytes t) f)
  unfolding function_at
  function_valid = (valid bytes (module_of bytes t) h.was_read.module_is).functions f _ h.function

  expression_valid : ExpressionValid (length (module_of bytes t).types) (length (module_of bytes t).globals) (length (function_at (module_of bytes t) f).arguments) (length (function_at (module_of bytes t) f).locals) e (get_or (function_at (module_of bytes t) f).expressions e (record { type = 0; expression = Literal }))
  expression_valid = function_valid.parts.each_expression e (record { type = 0; expression = Literal }) h.expression

  operands_below : OperandsBelow e (expression_at (module_of bytes t) f e)
  unfolding expression_at
  operands_below = expression_valid.operands

  names_below : NamesBelow (length (module_of bytes t).globals) (length (function_at (module_of bytes t) f).arguments) (length (function_at (module_of bytes t) f).locals) (expression_at (module_of bytes t) f e)
  unfolding expression_at
  names_below = expression_valid.names

  module _ {row : Kinded} (r : row ≡ expression_row bytes t f e) where
    arm_is : (k : ℕ) → row.kind ≡ k → expression_at (module_of bytes t) f e ≡ expression_of k (operand_at bytes row)
    unfolding expression_at function_at
    arm_is k q =
        let l : e < length (function_of bytes t f).expressions = rw same_function at h.expression in
        expression-at bytes t f e k row _ _ h.function l r q

    pub letters-below : row.kind ≡ 7 → EachBelow 4 (tab (operand_at bytes row 1) (λ k. operand_at bytes row (2 + k)))
    unfolding expression_of
    letters-below q = (rw (arm_is 7 q) at operands_below).2

    module _ {s rs : List ℕ} {w : Want} {j : ℕ} {a : Optional declared.Ask} where
      asks_by_arm : (k : ℕ) → row.kind ≡ k → Told s rs w (arm_asks (expression_of k (operand_at bytes row)) (asked s rs w)) j a → Asks (module_of bytes t) f e s rs w j a
      asks_by_arm k q b =
          let told : Told s rs w (arm_asks (expression_at (module_of bytes t) f e) (asked s rs w)) j a = rw (arm_is k q) b in
          record {
            told = told;
            within =
                arm_within (length (module_of bytes t).globals) (length (function_at (module_of bytes t) f).arguments) (length (function_at (module_of bytes t) f).locals) e
                (valid bytes (module_of bytes t) h.was_read.module_is).few_globals
                function_valid.parts.few_arguments
                function_valid.parts.few_locals
                (expression_at (module_of bytes t) f e)
                (asked s rs w)
                operands_below
                names_below
                told;
          }

      pub asks_index : row.kind ≡ 3 → Told s rs w (formed (operand_at bytes row 0) (more (operand_at bytes row 1) (asked s rs w) none)) j a → Asks (module_of bytes t) f e s rs w j a
      unfolding expression_of arm_asks
      asks_index q b = asks_by_arm 3 q b

      pub asks_constant : row.kind ≡ 5 → Told s rs w (constant_asks (asked s rs w)) j a → Asks (module_of bytes t) f e s rs w j a
      unfolding expression_of arm_asks
      asks_constant q b = asks_by_arm 5 q b

      pub asks_swizzle : row.kind ≡ 7 → Told s rs w (swizzle_asks (operand_at bytes row 0) (swizzled (tab (operand_at bytes row 1) (λ k. operand_at bytes row (2 + k))) (asked s rs w))) j a → Asks (module_of bytes t) f e s rs w j a
      unfolding expression_of arm_asks
      asks_swizzle q b = asks_by_arm 7 q b

      pub asks_compose : row.kind ≡ 8 → Told s rs w (compose_asks (tab (operand_at bytes row 0) (λ k. operand_at bytes row (1 + k))) (asked s rs w)) j a → Asks (module_of bytes t) f e s rs w j a
      unfolding expression_of arm_asks
      asks_compose q b = asks_by_arm 8 q b

      pub asks_argument : {x : ℕ} → row.kind ≡ 9 → x ≡ operand_at bytes row 0 → Only (Argument x) j a → Asks (module_of bytes t) f e s rs w j a
      unfolding expression_of arm_asks
      asks_argument q d b = asks_by_arm 9 q (only_told tt b (rw d))

      pub asks_global : {x : global-handles.GlobalHandle} → row.kind ≡ 10 → x.0 ≡ operand_at bytes row 0 → Only (Global x) j a → Asks (module_of bytes t) f e s rs w j a
      unfolding expression_of arm_asks
      asks_global q d b = asks_by_arm 10 q (only_told tt b (rw d))

      pub asks_local : {x : local-handles.LocalHandle} → row.kind ≡ 11 → x.0 ≡ operand_at bytes row 0 → Only (Local x) j a → Asks (module_of bytes t) f e s rs w j a
      unfolding expression_of arm_asks
      asks_local q d b = asks_by_arm 11 q (only_told tt b (rw d))

      pub asks_positions : row.kind ≡ 31 → Only (Refuse Panic) j a → Asks (module_of bytes t) f e s rs w j a
      unfolding expression_of arm_asks
      asks_positions q b = asks_by_arm 31 q (only_told tt b refl)

      pub asks_fields : Plain row.kind → Told s rs w (field_asks fields (ways_of row.kind (operand_at bytes row 4)) (operand_at bytes row) 0 (asked s rs w)) j a → Asks (module_of bytes t) f e s rs w j a
      asks_fields p b = asks_by_arm row.kind refl (rw (by_fields (operand_at bytes row) (asked s rs w) row.kind p) b)
