-- Answers: what an answer with its constructor says of the definition's outcome, and that an answer from a later memory is one from an earlier.
use mathlib.Core.Path.{◌≡◌, ap, subst, ◌∙◌}
use mathlib.Core.List.{List}
use Prim.Native.Nat.{ℕ}
use Rattle.std.specs.Prelude.{Result, Ok, Err, IsErrAnd}
use Rattle.field.specs.Refusal.{number}
use Rattle.walk.specs.State.{Out, halt}
use Rattle.state.specs.declared.answer.Tally.{Tally}
use Rattle.state.specs.declared.answer.Halt.{Halt}
use Rattle.state.specs.State.{Rest, place_of}
use Rattle.state.specs.Ready.{Others, Ended, Ending, Ends}
use Rattle.state.proofs.Others.{others_trans}

module _ {bytes t : List ℕ} {f at held : ℕ} {s rs : List ℕ} {rest : Rest} {total : Out (Unit {0})} {u us : List ℕ} where
  pub ends_went : {r : Result Tally Halt} {tally : Tally} → Ends bytes t f at held s rs rest total r u us → r ≡ Ok tally
      → Ended bytes t f at held s rs rest total tally.visits tally.sum u us
  ends_went h e = subst (λ (r : Result Tally Halt). Ending bytes t f at held s rs rest total r u us) e h.by

  pub ends_halt : {r : Result Tally Halt} {h : Halt} → Ends bytes t f at held s rs rest total r u us → r ≡ Err h → halt (number h.refusal) (place_of h.place) ≡ total
  ends_halt h e = subst (λ (r : Result Tally Halt). Ending bytes t f at held s rs rest total r u us) e h.by

  pub goes : {tally : Tally} → Ended bytes t f at held s rs rest total tally.visits tally.sum u us → Ends bytes t f at held s rs rest total (Ok tally) u us
  goes x = record { by = x }

  pub halts : {h : Halt} → halt (number h.refusal) (place_of h.place) ≡ total → Ends bytes t f at held s rs rest total (Err h) u us
  halts x = record { by = x }

-- what a `?` passes on
pub passed : {T : Type 0} {r : Result T Halt} {h : Halt} → IsErrAnd r (λ k. k ≡ h) → r ≡ Err h
passed {r = Ok x} e = absurd e
passed {r = Err k} e = ap (λ (i : Halt). Err i) e

pub ends_after : {bytes t : List ℕ} {f at held : ℕ} {s rs s' rs' : List ℕ} {rest : Rest} {first total : Out (Unit {0})} {r : Result Tally Halt} {u us : List ℕ} → Others t f at s rs s' rs'
    → first ≡ total → Ends bytes t f at held s' rs' rest first r u us → Ends bytes t f at held s rs rest total r u us
ends_after {bytes} {t} {f} {at} {held} {s} {rs} {s'} {rs'} {rest} {first} {total} {r} {u} {us} o e x = record { by = ending r x.by }
  where
    ending : (r : Result Tally Halt) → Ending bytes t f at held s' rs' rest first r u us → Ending bytes t f at held s rs rest total r u us
    ending (Ok tally) x = record { is = x.is ∙ e; ready = x.ready; few = x.few; roomy = x.roomy; others = others_trans o x.others }
    ending (Err h) x = x ∙ e
