-- What is asked stands trimmed, neither table has needs, and memory is ready for the first round.
use Prim.Native.Nat.{ℕ, ◌+◌, ◌<◌}
use native.Mathlib.Omega.{arith}
use native.Mathlib.Decide.{dec_lt, ℕ_discrete}
use mathlib.Core.Path.{◌≡◌, refl, sym, ap, ◌∙◌}
use mathlib.Core.List.{List, []}
use lib.ListN.{length, get_or, set, length-set}
use lib.Seq.{get_or-set_same, get_or-set_other}
use Rattle.part.specs.PartReq.{none, entries}
use Rattle.part.specs.Store.{top, part, Made}
use Rattle.part.proofs.Pieces.{part-2}
use Rattle.module.specs.Tables.{function_of, module_of}
use Rattle.context.specs.Types.{types_of}
use Rattle.clearance.specs.Shape.{trim}
use Rattle.clearance.specs.Scope.{Scope, result_shape}
use Rattle.clearance.specs.Needs.{next, reentry}
use Rattle.clearance.specs.Verdict.{Request, setting, ending}
use Rattle.clearance.specs.IsNeed.{IsNeed}
use Rattle.clearance.proofs.Ascending.{trim-need}
use Rattle.pass.specs.Checked.{asked_of}
use Rattle.judge.specs.Given.{scope_at}
use Rattle.framed.specs.Kept.{Kept}
use Rattle.framed.proofs.Kept.{kept_none, kept_ending}
use Rattle.hold.specs.Hold.{in_slot, Live}
use Rattle.forms.specs.Frames.{trim_globals}
use Rattle.forms.proofs.Trimming.{ending_is}
use Rattle.standing.specs.Slots.{table_size, asked_slot, end_slot, stack_slot}
use Rattle.rounds.specs.Settling.{asked_by}
use Rattle.rounds.specs.Rounds.{Between, Cleared, Asked, Begins}

-- the slots as the first round finds them: v of the value, e at the end
record Laid (rs ws : List ℕ) (v e : ℕ) : Type 0 where
  long : length ws ≡ length rs
  tables : (j : ℕ) → j < asked_slot → get_or ws j 0 ≡ 2
  asked : get_or ws asked_slot 0 ≡ v
  end : get_or ws end_slot 0 ≡ e
  hand : get_or ws stack_slot 0 ≡ e

abbrev laid : List ℕ → ℕ → ℕ → List ℕ
laid us v e = set (set (set us asked_slot v) end_slot e) stack_slot e

laid-is : {rs us : List ℕ} (v e : ℕ) → stack_slot < length rs → Cleared rs us → Laid rs (laid us v e) v e
laid-is {rs} {us} v e h c =
    let one : length (set us asked_slot v) ≡ length us = length-set us asked_slot v in
    let two : length (set (set us asked_slot v) end_slot e) ≡ length (set us asked_slot v) = length-set (set us asked_slot v) end_slot e in
    record {
      long = length-set (set (set us asked_slot v) end_slot e) stack_slot e ∙ two ∙ one ∙ c.long;
      tables = λ j l.
          get_or-set_other (set (set us asked_slot v) end_slot e) stack_slot j e 0 (λ i. omega arith)
          ∙ get_or-set_other (set us asked_slot v) end_slot j e 0 (λ i. omega arith)
          ∙ get_or-set_other us asked_slot j v 0 (λ i. omega arith)
          ∙ c.none j l;
      asked =
          get_or-set_other (set (set us asked_slot v) end_slot e) stack_slot asked_slot e 0 (λ i. omega arith)
          ∙ get_or-set_other (set us asked_slot v) end_slot asked_slot e 0 (λ i. omega arith)
          ∙ get_or-set_same us asked_slot v 0 (omega (arith, c.long));
      end =
          get_or-set_other (set (set us asked_slot v) end_slot e) stack_slot end_slot e 0 (λ i. omega arith)
          ∙ get_or-set_same (set us asked_slot v) end_slot e 0 (omega (arith, c.long));
      hand = get_or-set_same (set (set us asked_slot v) end_slot e) stack_slot e 0 (omega (arith, c.long));
    }

-- by the slot's use
by_slot : (P : ℕ → Type 0) → ((j : ℕ) → j < asked_slot → P j) → P asked_slot → P end_slot → P stack_slot → (j : ℕ) → j < stack_slot + 1 → P j
by_slot P low asked end hand j l =
    elim (dec_lt j asked_slot) [
      | yes h ↦ low j h
      | no h ↦
          elim (ℕ_discrete j asked_slot) [
            | yes e ↦ rw e asked
            | no e ↦
                elim (ℕ_discrete j end_slot) [
                  | yes i ↦ rw i end
                  | no i ↦ let o : j ≡ stack_slot = omega arith in rw o hand
                ]
          ]
    ]

empty_none : (j : ℕ) → reentry [] j ≡ none
unfolding reentry
empty_none j = refl

-- from such slots
module _ {S : Scope} (R : Request) {s rs ws : List ℕ} {v e : ℕ} (live : Live s ws (stack_slot + 1)) (l : Laid rs ws v e) (value : part s v ≡ asked_of (setting S R)) (end : part s e ≡ ending S R next)
    (need : IsNeed (result_shape S S.function.result) (asked_of (setting S R))) (kept : Kept S (ending S R next)) where
  none_in : (j : ℕ) → j < asked_slot → in_slot s ws j ≡ none
  none_in j h = ap (part s) (l.tables j h) ∙ part-2 s

  laid_needs : (j : ℕ) → j < stack_slot + 1 → (j ≡ asked_slot → ⊥) → Kept S (in_slot s ws j)
  laid_needs =
      by_slot (λ j. (j ≡ asked_slot → ⊥) → Kept S (in_slot s ws j))
      (λ j h _. rw (none_in j h) (kept_none S))
      (λ h. absurd (h refl))
      (λ _. rw (l.end, end) kept)
      (λ _. rw (l.hand, end) kept)

  laid_between : Between S R [] s ws
  laid_between = record {
    ready = record { live = live; high = omega arith; needs = laid_needs; asked = rw (l.asked, value) need };
    value = rw l.asked value;
    end = rw l.end end;
    hand = rw l.hand end;
    old = λ j h. none_in j (omega arith) ∙ sym (empty_none j);
    new = λ j h. none_in (table_size + j) (omega arith) ∙ sym (empty_none j);
    short = omega arith;
  }

module _ (bytes t types : List ℕ) (f : ℕ) {s rs : List ℕ} {g v : ℕ} (same : (module_of bytes t).types ≡ types_of types) (a : Asked s rs g v) where
  abbrev S : Scope
  S = scope_at bytes t f

  abbrev R : Request
  R = asked_by s g v

  module _ {u : List ℕ} {x : ℕ} (m : Made s u (trim (part s v) (result_shape S (function_of bytes t f).result)) (entries (part s v)) x) where
    globals_same : part u g ≡ part s g
    globals_same = m.kept.same g a.there.0

    module _ {w us : List ℕ} {y : ℕ} (n : Made u w (trim_globals bytes t types (part u g)) (1 + entries (part u g)) y) (c : Cleared rs us) where
      begun_slots : Laid rs (laid us x y) x y
      begun_slots = laid-is x y a.slots c

      begun_live : Live w (laid us x y) (stack_slot + 1)
      begun_live = record {
        loose = record {
          good = n.kept.good;
          few = omega (arith, a.slots, begun_slots.long);
          pieces =
              by_slot (λ j. get_or (laid us x y) j 0 < top w)
              (λ j h. rw (begun_slots.tables j h) (omega (arith, n.kept.good.base)))
              (rw begun_slots.asked (omega (arith, m.piece, n.kept.tops)))
              (rw begun_slots.end n.piece)
              (rw begun_slots.hand n.piece);
          long = omega (arith, a.long, m.kept.long, n.kept.long);
        };
        slim = omega (arith, a.slim, m.cost, n.cost, ap entries globals_same);
      }

      begun_value : part w x ≡ asked_of (setting S R)
      unfolding asked_of
      begun_value = n.kept.same x m.piece ∙ m.is

      begun_end : part w y ≡ ending S R next
      unfolding ending
      begun_end = n.is ∙ ap (trim_globals bytes t types) globals_same ∙ sym (ending_is bytes t types f same (part s g))

      asked_need : IsNeed (result_shape S S.function.result) (asked_of (setting S R))
      unfolding asked_of
      asked_need = trim-need (result_shape S S.function.result) (part s v) a.ascends.value

      pub begun : Begins S R s rs w (laid us x y)
      begun = record {
        cells = n.kept.long ∙ m.kept.long;
        slots = begun_slots.long;
        between = laid_between R begun_live begun_slots begun_value begun_end asked_need (kept_ending S R next a.listed a.ascends);
      }
