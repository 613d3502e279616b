-- A part of a value's part, asked at a path that is one index longer: it adds the same, since what lies within the value's type is trimmed nowhere.
use Prim.Native.Nat.{ℕ}
use native.Mathlib.Omega.{arith}
use mathlib.Core.Path.{◌≡◌, refl, sym, ap, ◌∙◌}
use mathlib.Core.Bool.{Bool, true, false}
use mathlib.Core.List.{List, [], ◌∷◌, ◌++◌}
use lib.ListN.{drop, take-append-drop}
use Rattle.part.specs.PartReq.{PartReq, all, exist, none, more}
use Rattle.part.proofs.Distinct.{untrue}
use Rattle.clearance.specs.Shape.{Shape, member, some, under}
use Rattle.clearance.specs.Scope.{Scope, Source, given, from, source}
use Rattle.clearance.specs.Needs.{Ask, of_value}
use Rattle.pass.specs.Pass.{part_from, part_of}
use Rattle.asked.specs.Within.{Asked, something, nothing, emptied, wanted, placed, plain_part}
use Rattle.asked.proofs.Plain.{tidy_wanted, part_plain}
use Rattle.place.specs.declared.sources.Source as answer
use Rattle.place.specs.Sources.{source_by}
use Rattle.place.specs.Slots.{Written}
use Rattle.asking.specs.Asks.{Adds, AsksAt}
use Rattle.asking.proofs.Steps.{asks_idle}
use Rattle.operands.specs.AsksAll.{ListGiven, AsksAll}
use Rattle.operands.proofs.Lists.{all_one}

under-on : (q : List ℕ) (i : ℕ) (p : PartReq) → under (q ++ (i ∷ [])) p ≡ under q (more i p none)
unfolding under
under-on [] i p = refl
under-on (j ∷ q) i p = ap (λ (x : PartReq). more j x none) (under-on q i p)

-- what is asked of one part
plain_none : (p : PartReq) → some p ≡ false → wanted p ≡ some p
plain_none all h = untrue (sym h)
plain_none exist h = refl
plain_none none h = refl
plain_none (more i p r) h = untrue (sym h)

asked_plain : {t : Shape} {q : PartReq} (i : ℕ) (p : PartReq) → Asked t q → q ≡ more i p none → wanted p ≡ some p
asked_plain {t} i p (something s h) e = tidy_wanted p (member t i) (rw e at h).1.0
asked_plain i p (nothing s) e = untrue (sym s ∙ ap some e)
asked_plain i p (emptied {p = o} s) e = let z : o ≡ p = cc in plain_none p (rw z at s)

-- a path of two words, and one more
longer : {q before after : List ℕ} {i : ℕ} → Written q before after → drop 2 before ≡ i ∷ [] → after ≡ q ++ (i ∷ [])
longer {after = after} w d = sym (take-append-drop 2 after) ∙ rw (w.is, w.rest, d)

module _ {S : Scope} {s rs : List ℕ} {n v i : ℕ} {p : PartReq} (g : ListGiven S (of_value v (more i p none) ∷ []) s rs n) where
  abbrev ask : Ask
  ask = of_value v (more i p none)

  -- where the value stands, by the answer's case
  pub member_source : {r o : answer.Source} → source_by r v ≡ source S v → r ≡ o → source S v ≡ source_by o v
  member_source e h = sym e ∙ ap (λ (r : answer.Source). source_by r v) h

  -- what is fixed asks for nothing
  pub member_given : source S v ≡ given → AsksAll S (ask ∷ []) s rs n s rs true
  unfolding part_of part_from
  member_given e = all_one g (asks_idle S ask g.live g.need (ap (λ (o : Source). part_from S o (more i p none)) e))

  module _ {q : List ℕ} (e : source S v ≡ from q) where
    member_adds : Adds S ask (q ++ (i ∷ [])) p
    unfolding plain_part placed
    member_adds =
        let w = g.within.each 0 ask (omega arith) in
        record {
          is = part_plain S g.read g.judged ask w ∙ rw (e, asked_plain i p w.1 refl, under-on q i p);
          fine = g.fine.0;
        }

    module _ {before after : List ℕ} (w : Written q before after) where
      pub member_all : {t us : List ℕ} {r : Bool} → drop 2 before ≡ i ∷ [] → AsksAt after p s rs n t us r → AsksAll S (ask ∷ []) s rs n t us r
      member_all d h = all_one g ((rw (longer w d) at h).each S ask member_adds g.need)
