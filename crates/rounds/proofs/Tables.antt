-- The slots of both tables as they are cleared.
use Prim.Native.Nat.{ℕ, ◌+◌, ◌-◌, ◌≤◌}
use native.Mathlib.Omega.{arith}
use mathlib.Core.Path.{◌≡◌, ap, ◌∙◌}
use mathlib.Core.List.{List, ◌++◌}
use lib.ListN.{length, get_or, take, drop, replicate, length-take, length-drop, length-append, length-replicate}
use Rattle.std.proofs.lemmas.List.{get_or-replicate, get_or-drop, get_or_append_left, get_or-append_right}
use Rattle.standing.specs.Slots.{asked_slot}
use Rattle.rounds.specs.Rounds.{Cleared}

module _ (rs ys : List ℕ) (h : asked_slot ≤ length rs) (e : ys ≡ replicate (length (take asked_slot rs)) 2) where
  front : length (take asked_slot rs) ≡ asked_slot
  front = simp length-take (omega (arith, h))

  filled : ys ≡ replicate asked_slot 2
  filled = e ∙ rw front

  front_long : length ys ≡ asked_slot
  front_long = rw filled (length-replicate {A = ℕ} asked_slot 2)

  -- a front that is filled, before what was there
  pub cleared : Cleared rs (ys ++ drop asked_slot rs)
  cleared = record {
    long = simp (length-append, length-drop) (omega (arith, h, front_long));
    none = λ j l. get_or_append_left ys (drop asked_slot rs) 0 j (omega (arith, l, front_long)) ∙ rw filled (get_or-replicate asked_slot j 2 0 l);
    others = λ j l.
        let z : asked_slot + (j - asked_slot) ≡ j = omega (arith, l) in
        get_or-append_right ys (drop asked_slot rs) asked_slot j 0 front_long l ∙ get_or-drop asked_slot rs (j - asked_slot) 0 ∙ ap (λ (i : ℕ). get_or rs i 0) z;
  }
