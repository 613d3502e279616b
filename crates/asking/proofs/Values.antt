-- The ask of a place and of a value, as a part at a path: `part_of` trims nothing of what lies within its type. A value's path is its source's.
use Prim.Native.Nat.{ℕ}
use native.Mathlib.Omega.{arith}
use mathlib.Core.Path.{◌≡◌, refl, sym, ap, ◌∙◌}
use mathlib.Core.Bool.{Bool, true, cond}
use mathlib.Core.List.{List, [], ◌∷◌}
use lib.ListN.{length, take}
use Rattle.part.specs.PartReq.{PartReq, none}
use Rattle.part.specs.Store.{part}
use Rattle.part.specs.Ascending.{Ascending}
use Rattle.clearance.specs.Scope.{Scope, Source, given, from, source}
use Rattle.clearance.specs.Needs.{of_value, of_place}
use Rattle.pass.specs.Pass.{part_from, part_of}
use Rattle.asked.specs.Within.{wanted, Within, placed, plain_part}
use Rattle.asked.proofs.Plain.{part_plain}
use Rattle.framed.specs.Given.{Read, Judged}
use Rattle.framed.specs.Kept.{Deep}
use Rattle.place.specs.declared.sources.Source as answer
use Rattle.place.specs.Sources.{source_by}
use Rattle.place.specs.Slots.{Written}
use Rattle.asking.specs.Asks.{Asks, step_of, Adds, AsksAt, ValueGiven}
use Rattle.asking.proofs.Steps.{asks_idle}

pub place_adds : (S : Scope) → Read S → Judged S → (q : List ℕ) (p : PartReq) → Within S (of_place q p) → Deep q → Ascending p → Adds S (of_place q p) q p
unfolding plain_part
place_adds S R J q p w d f = record { is = part_plain S R J (of_place q p) w; fine = (d, f) }

-- a path of two words, written to two
two_taken : (p : List ℕ) → length p ≡ 2 → take 2 p ≡ p
two_taken [] h = absurd (omega arith)
two_taken (x ∷ []) h = absurd (omega arith)
two_taken (x ∷ y ∷ []) h = refl
two_taken (x ∷ y ∷ z ∷ p) h = absurd (omega arith)

module _ {S : Scope} {s rs : List ℕ} {n v a : ℕ} (g : ValueGiven S s rs n v a) where
  -- where the value stands, by the answer's case
  pub source_is : {r o : answer.Source} → source_by r v ≡ source S v → r ≡ o → source S v ≡ source_by o v
  source_is e h = sym e ∙ ap (λ (r : answer.Source). source_by r v) h

  -- what is fixed asks for nothing
  pub given-asks : source S v ≡ given → Asks S (step_of S (of_value v (part s a))) s rs n s rs true
  unfolding part_of part_from
  given-asks e = asks_idle S (of_value v (part s a)) g.live g.need (ap (λ (o : Source). part_from S o (part s a)) e)

  module _ {q : List ℕ} (e : source S v ≡ from q) where
    value_adds : Adds S (of_value v (part s a)) q (part s a)
    unfolding plain_part placed
    value_adds = record {
      is = part_plain S g.read g.judged (of_value v (part s a)) g.within ∙ ap (λ (o : Source). cond (wanted (part s a)) (placed o (part s a)) none) e;
      fine = g.ascends;
    }

    module _ {before after : List ℕ} (w : Written q before after) (two : length before ≡ 2) where
      path_is : after ≡ q
      path_is = sym (two_taken after (w.long ∙ two)) ∙ w.is

      pub value_asks : {t us : List ℕ} {r : Bool} → AsksAt after (part s a) s rs n t us r → Asks S (step_of S (of_value v (part s a))) s rs n t us r
      value_asks {t} {us} {r} d = (rw path_is at d).each S (of_value v (part s a)) value_adds g.need
