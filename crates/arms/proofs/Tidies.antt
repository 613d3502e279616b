-- A collection changes nothing of a state that stands.
use Prim.Native.Nat.{ℕ}
use mathlib.Core.Path.{◌≡◌}
use mathlib.Core.List.{List}
use Rattle.memory.specs.Memory.{Tidied}
use Rattle.marks.specs.declared.places.MarkPlaces.{MarkPlaces}
use Rattle.marks.specs.declared.totals.MarkTotals.{MarkTotals}
use Rattle.state.proofs.Others.{ready_tidied}
use Rattle.block.specs.Standing.{state_in, Standing}

module _ {bytes t types : List ℕ} {places : MarkPlaces} {s rs open_marks : List ℕ} {totals : MarkTotals} {f at held sum visits : ℕ} (S : Standing bytes t types places s rs open_marks totals f at held sum visits)
    {u us : List ℕ} (T : Tidied s rs u us) where
  pub tidied_state : (v : ℕ) → state_in bytes t u us open_marks totals f at v ≡ state_in bytes t s rs open_marks totals f at v
  tidied_state v = rw T.same

  pub tidied_standing : Standing bytes t types places u us open_marks totals f at held sum visits
  tidied_standing = record {
    ready = ready_tidied S.ready T;
    typed = S.typed;
    placed = S.placed;
    open_long = S.open_long;
    totals-sum = rw T.same S.totals-sum;
    unwalked = λ g l n. rw T.same (S.unwalked g l n);
    proper = rw T.same S.proper;
    closed = λ k a b. rw T.same (S.closed k a b);
    above = λ k a. rw T.same (S.above k a);
  }
