-- A function's arguments, filled in from the first to the last.
use Rattle.std.proofs.Common.{◌≡◌, sym, ap, ◌∙◌, ℕ, ◌+◌, ◌<◌, ◌≤◌, List, length, get_or, set, arith}
use native.Mathlib.Decide.{ℕ_discrete}
use Rattle.std.proofs.lemmas.List.{length-map, get_or-map, ext_get_or, length-set, get_or-set_same, get_or-set_other}
use Rattle.module.specs.Module.{FunctionArg}
use Rattle.module.specs.Tables.{function_of, module_of}
use Rattle.access.specs.Access.{argument_at, arg_from}
use Rattle.access.specs.declared.whole.Bound.{Bound}
use Rattle.access.proofs.Access.{argument_is}
use Rattle.bindings.specs.Rows.{BoundArgs, args_of}
use Rattle.bindings_request.specs.Boundary.{Tables}
use Rattle.bindings_request.proofs.Modules.{argument_bound, arguments-few}

pub record Filled (bytes t : List ℕ) (f : ℕ) (old args : List Bound) (i : ℕ) : Type 0 where
  pub long : length args ≡ length old
  pub is : (j : ℕ) (d : Bound) → j < i → arg_from (get_or args j d) ≡ argument_at bytes t f j

module _ {bytes t : List ℕ} {f : ℕ} {old args : List Bound} {i : ℕ} (F : Filled bytes t f old args i) where
  pub filled_more : (x : Bound) → i < length old → arg_from x ≡ argument_at bytes t f i → Filled bytes t f old (set args i x) (i + 1)
  filled_more x h e =
      record {
        long = length-set args i x ∙ F.long;
        is = λ j d l.
            elim (ℕ_discrete j i) [
              | yes same ↦ rw (same, get_or-set_same args i x d (omega (arith, F.long))) e
              | no other ↦ rw (get_or-set_other args i j x d other) (F.is j d (omega arith))
            ];
      }

  pub filled_all : (x : Bound) → length old ≡ length (function_of bytes t f).arguments → length old ≤ i → args_of args ≡ (function_of bytes t f).arguments
  filled_all x e h =
      let d : FunctionArg = argument_at bytes t f 0 in
      let long : length (args_of args) ≡ length (function_of bytes t f).arguments = length-map args arg_from ∙ (F.long ∙ e) in
      ext_get_or d (args_of args) (function_of bytes t f).arguments long
      (λ j l.
      let k : j < length args = rw length-map at l in
      let n : length args ≡ length old = F.long in
      get_or-map arg_from args j x d k ∙ (F.is j x (omega arith) ∙ sym (argument_is bytes t f j d (omega arith))))

-- the arguments' bindings are those that a file may have
pub args_bound : {bytes t types : List ℕ} {f : ℕ} {args : List Bound} → Tables bytes t types → f < length (module_of bytes t).functions → args_of args ≡ (function_of bytes t f).arguments → BoundArgs args
args_bound {bytes} {t} {f = f} {args} T h e =
    let long : length args ≡ length (function_of bytes t f).arguments = sym (length-map args arg_from) ∙ ap length e in
    record {
      few = omega (arith, arguments-few T f h);
      each = λ i d k.
          rw (← e, get_or-map arg_from args i d (arg_from d) k) at (argument_bound T f h i (arg_from d) (omega arith));
    }
