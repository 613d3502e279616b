-- What the bytes of a context come to, as far as its return part: 12, or what its lists come to. By unfolding the definition.
use Prim.Native.Nat.{ℕ, ◌≤◌}
use mathlib.Core.Path.{◌≡◌, sym, ◌∙◌}
use mathlib.Core.Bool.{Bool, true, false}
use mathlib.Core.List.{List}
use mathlib.Core.Option.{Option}
use lib.ListN.{length, drop}
use Rattle.part.specs.PartReq.{PartReq}
use Rattle.request.specs.Fields.{fields, malformed, got, whole, refused}
use Rattle.request.specs.Part.{read_return}
use Rattle.request.specs.Context.{read_context_body, is_context, context_of, judge_context, finish_context}
use Rattle.request.proofs.Frame.{frame_inside}

-- the record of a context
module _ (globals args locals : ℕ) (b : List ℕ) {r : Bool} (e : r ≡ is_context b) where
  pub not_context : r ≡ false → judge_context globals args locals (context_of b) ≡ refused 12
  unfolding context_of judge_context
  not_context h = rw (sym e ∙ h)

  module _ (h : r ≡ true) where
    pub context_inside : 6 ≤ length b
    context_inside = frame_inside 67 88 6 _ b (sym e ∙ h)

    pub context_no_return : read_return (fields (drop 6 b)) ≡ malformed → judge_context globals args locals (context_of b) ≡ refused 12
    unfolding context_of judge_context read_context_body whole
    context_no_return z = rw (sym e ∙ h, z)

    pub context_finish : {p : Option PartReq} {gs : List ℕ} → read_return (fields (drop 6 b)) ≡ got p gs
        → judge_context globals args locals (context_of b) ≡ finish_context globals args locals p gs
    unfolding context_of read_context_body finish_context
    context_finish z = rw (sym e ∙ h, z)
