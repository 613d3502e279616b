-- An expression asked from a state that stands: what is left stands too, and the marks, the totals and the slots below are as they were.
use Prim.Native.Nat.{ℕ}
use mathlib.Core.Path.{◌≡◌, sym, ap, ◌∙◌}
use mathlib.Core.List.{List}
use Rattle.part.specs.PartReq.{PartReq}
use Rattle.module.specs.Module.{Module, ExpressionHandle}
use Rattle.module.specs.Tables.{module_of}
use Rattle.walk.specs.State.{State, Out, went}
use Rattle.walk.specs.Expression.{add_expression}
use Rattle.walk.specs.Proper.{Fine}
use Rattle.walk.proofs.Proper.{expression_proper}
use Rattle.sound.proofs.Walks.{module_sound}
use Rattle.memory.specs.Memory.{read}
use Rattle.marks.specs.declared.places.MarkPlaces.{MarkPlaces}
use Rattle.marks.specs.declared.totals.MarkTotals.{MarkTotals}
use Rattle.state.specs.Ready.{Ended}
use Rattle.state.specs.Frame.{Apart}
use Rattle.block.specs.Standing.{rest_in, state_in, Standing}
use Rattle.block.specs.Blocks.{Beside}
use Rattle.block.proofs.Steps.{apart_state, apart_standing, beside_apart}

module _ {bytes t types : List ℕ} {places : MarkPlaces} {s rs open_marks : List ℕ} {totals : MarkTotals} {f at held sum visits : ℕ} (S : Standing bytes t types places s rs open_marks totals f at held sum visits) where
  abbrev m : Module
  m = module_of bytes t

  abbrev pub Asks : ExpressionHandle → PartReq → Out (Unit {0})
  Asks e p = add_expression m f held e p (state_in bytes t s rs open_marks totals f at visits)

  module _ (e : ExpressionHandle) (p : PartReq) {v n : ℕ} {u us : List ℕ} (E : Ended bytes t f at held s rs (rest_in m t f (read s rs) open_marks totals) (Asks e p) v n u us) where
    apart : Apart t f at s rs u us
    apart = record { long = E.others.long; same = λ k l x. E.others.same k x }

    pub asked_state : went (state_in bytes t u us open_marks totals f at v) tt ≡ Asks e p
    asked_state = ap (λ (st : State). went st tt) (sym (apart_state S apart v)) ∙ E.is

    pub asked_standing : Fine p → Standing bytes t types places u us open_marks totals f at held n v
    asked_standing fine =
        apart_standing S apart E.ready
        (expression_proper m (module_sound bytes m S.ready.was_read.module_is) f held 0 e p (state_in bytes t s rs open_marks totals f at visits)
        (state_in bytes t u us open_marks totals f at v) tt fine S.proper (sym asked_state))

    pub asked_beside : Beside bytes t f at s rs open_marks u us open_marks
    asked_beside = beside_apart S apart
