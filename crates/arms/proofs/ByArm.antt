-- The arm of a statement by its kind: what each asks, and that what it answers is the definition's, with the statement's marks.
use mathlib.Core.Path.{◌≡◌, sym, ap, subst, ◌∙◌}
use mathlib.Core.Bool.{Bool}
use mathlib.Core.List.{List}
use Prim.Native.Nat.{ℕ, ◌≤◌}
use lib.ListN.{length}
use Rattle.std.specs.Prelude.{Result, Ok, Err}
use Rattle.field.specs.Limits.{min_report}
use Rattle.module.specs.Module.{Module, BlockHandle}
use Rattle.module.specs.Decode.{tab, option_of, case_of, statement_of}
use Rattle.module.specs.Tables.{module_of}
use Rattle.access.specs.Access.{operand_at}
use Rattle.access.specs.declared.kinded.Kinded.{Kinded}
use Rattle.walk.specs.State.{State, Out, went}
use Rattle.walk.specs.StatementReq.{StatementReq}
use Rattle.walk.specs.Statement.{add_statement, add_nested, add_if, add_switch, add_loop}
use Rattle.walk.specs.Function.{add_function}
use Rattle.walk.specs.Proper.{ProperState}
use Rattle.walk.proofs.Ends.{ended}
use Rattle.walk.proofs.Proper.{proper, good, state, fine_context}
use Rattle.walk.proofs.Statements.{statement_goes, block_keeps}
use Rattle.walk.proofs.Functions.{function_keeps}
use Rattle.sound.proofs.Walks.{module_sound}
use Rattle.memory.specs.Memory.{read}
use Rattle.marks.specs.declared.places.MarkPlaces.{MarkPlaces}
use Rattle.marks.specs.declared.totals.MarkTotals.{MarkTotals}
use Rattle.state.specs.Frame.{frame_of, ArmEnded, ArmEnding}
use Rattle.state.specs.declared.frame.Frame.{Frame}
use Rattle.state.specs.declared.answer.Halt.{Halt}
use Rattle.state.specs.declared.answer.Answer.{Answer}
use Rattle.statement.specs.Leaf.{leaf_req, Arm, Leaves}
use Rattle.block.specs.Standing.{rest_in, state_in}
use Rattle.block.specs.Blocks.{StatementEnded, StatementEnds}
use Rattle.block.specs.Visiting.{block_in, marked, Arms}
use Rattle.block.proofs.Steps.{apart_state, apart_standing, beside_apart}
use Rattle.arms.specs.Visit.{MarkAsked, MarkEnds}

-- the kinds of those that hold blocks
module _ {bytes t types : List ℕ} {places : MarkPlaces} {s rs open_marks : List ℕ} {totals : MarkTotals} {fr : Frame} {b : BlockHandle} {row : Kinded} {sum visits : ℕ} (A : Arms bytes t types places s rs open_marks totals fr b row sum visits) where
  abbrev m : Module
  m = module_of bytes t

  abbrev f : ℕ
  f = fr.function.0

  abbrev o : ℕ → ℕ
  o = operand_at bytes row

  abbrev st : State
  st = state_in bytes t s rs open_marks totals f fr.at visits

  abbrev arm_of : ℕ → Out StatementReq
  arm_of k = add_statement m (add_function m) (block_in bytes t f) (frame_of s rs fr) (statement_of k o) st

  abbrev Ends : {B : Type 0} → Out B → (Bool → B) → Result Answer Halt → (u us open_after : List ℕ) (totals-after : MarkTotals) → Type 0
  Ends total answer r u us open_after totals-after = StatementEnds bytes t types places s rs open_marks totals fr total answer r u us open_after totals-after

  arm : Arm bytes t s rs fr row sum
  arm = record { begun = A.begins.begun; is = A.is }

  leaf_proper : (u us : List ℕ) {v : ℕ} {a : StatementReq} → went (state_in bytes t u us open_marks totals f fr.at v) a ≡ arm_of row.kind → ProperState m 0 f (state_in bytes t u us open_marks totals f fr.at v)
  leaf_proper u us {v} is =
      let sound = module_sound bytes m A.begins.standing.ready.was_read.module_is in
      state m sound 0 f (state_in bytes t u us open_marks totals f fr.at v)
      (ended
      (statement_goes (proper m sound 0) (add_function m) (block_in bytes t f) (frame_of s rs fr) (statement_of row.kind o) st (function_keeps (proper m sound 0))
      (block_keeps (proper m sound 0) (add_function m) f (function_keeps (proper m sound 0)))
      (fine_context m sound 0 f (frame_of s rs fr).base A.begins.begun.base_fine)
      (good m sound 0 f st A.begins.standing.proper))
      (sym is))

  leaf_ended : {v n : ℕ} {c : Bool} {u us : List ℕ} → ArmEnded bytes t s rs fr (rest_in m t f (read s rs) open_marks totals) (arm_of row.kind) (leaf_req (statement_of row.kind o)) v n c u us
      → StatementEnded bytes t types places s rs open_marks totals fr (arm_of row.kind) (leaf_req (statement_of row.kind o)) v n c u us open_marks totals
  leaf_ended {v} {n} {c} {u} {us} E =
      let is : went (state_in bytes t u us open_marks totals f fr.at v) (leaf_req (statement_of row.kind o) c) ≡ arm_of row.kind =
      ap (λ (x : State). went x (leaf_req (statement_of row.kind o) c)) (sym (apart_state A.begins.standing E.apart v)) ∙ E.is in
      record {
        is = is;
        standing = apart_standing A.begins.standing E.apart E.ready (leaf_proper u us is);
        beside = beside_apart A.begins.standing E.apart;
      }

  leaf_ending : (r : Result Answer Halt) {u us : List ℕ} → ArmEnding bytes t s rs fr (rest_in m t f (read s rs) open_marks totals) (arm_of row.kind) (leaf_req (statement_of row.kind o)) r u us
      → Ends (arm_of row.kind) (leaf_req (statement_of row.kind o)) r u us open_marks totals
  leaf_ending (Ok a) E = record { by = leaf_ended E }
  leaf_ending (Err stop) E = record { by = E }

  pub leaf_ends : (r : Result Answer Halt) {u us : List ℕ} → Leaves bytes t s rs fr (statement_of row.kind o) visits r u us → Ends (arm_of row.kind) (leaf_req (statement_of row.kind o)) r u us open_marks totals
  leaf_ends r L =
      leaf_ending r (L.by (add_function m) (block_in bytes t f) (rest_in m t f (read s rs) open_marks totals) A.begins.standing.totals-sum).by

  -- the marks of a leaf or a holder
  pub mark_asks : (r : Result Answer Halt) {open_after : List ℕ} → min_report ≤ length open_after → MarkAsked t places.firsts open_after fr row r
  mark_asks (Ok a) long = record {
    by = record {
      bytes = bytes;
      starts = places.starts;
      was_read = A.begins.standing.ready.was_read;
      placed = A.begins.standing.placed;
      function = A.begins.standing.ready.function;
      statement = A.begins.begun.statement;
      is = A.is;
      long = long;
    };
  }
  mark_asks (Err stop) long = record { by = tt }

  pub mark_ends : {r q : Result Answer Halt} {u us open_after open-last : List ℕ} {totals-after : MarkTotals} → MarkEnds t places.firsts open_after fr row r q open-last
      → Ends (arm_of row.kind) (leaf_req (statement_of row.kind o)) r u us open_after totals-after → Ends (marked m (frame_of s rs fr) (arm_of row.kind)) (λ b. b) q u us open-last totals-after
  mark_ends {u = u} {us = us} {totals-after = totals-after} M E = M.by bytes types places.starts s rs open_marks totals u us totals-after (arm_of row.kind) A.begins.begun.statement A.is E

  abbrev As : ℕ → Result Answer Halt → (u us open_after : List ℕ) (totals-after : MarkTotals) → Type 0
  As k r u us open_after totals-after = Ends (arm_of k) (leaf_req (statement_of k o)) r u us open_after totals-after

  -- the holders
  module _ {r : Result Answer Halt} {u us open_after : List ℕ} {totals-after : MarkTotals} where
    pub nested_arm : row.kind ≡ 1 → Ends (add_nested (block_in bytes t f) (frame_of s rs fr) (o 0) st) StatementReq.BlockStmt r u us open_after totals-after → As row.kind r u us open_after totals-after
    unfolding statement_of add_statement leaf_req
    nested_arm e E = subst (λ (k : ℕ). As k r u us open_after totals-after) (sym e) E

    pub if_arm : row.kind ≡ 2 → Ends (add_if m (block_in bytes t f) (frame_of s rs fr) (o 0) (o 1) (o 2) st) StatementReq.If r u us open_after totals-after → As row.kind r u us open_after totals-after
    unfolding statement_of add_statement leaf_req
    if_arm e E = subst (λ (k : ℕ). As k r u us open_after totals-after) (sym e) E

    pub switch_arm : row.kind ≡ 3 → Ends (add_switch m (block_in bytes t f) (frame_of s rs fr) (o 0) (tab (o 1) (case_of o)) st) StatementReq.Switch r u us open_after totals-after → As row.kind r u us open_after totals-after
    unfolding statement_of add_statement leaf_req
    switch_arm e E = subst (λ (k : ℕ). As k r u us open_after totals-after) (sym e) E

    pub loop_arm : row.kind ≡ 4 → Ends (add_loop m (block_in bytes t f) (frame_of s rs fr) (o 0) (o 1) (option_of (o 2)) st) StatementReq.Loop r u us open_after totals-after → As row.kind r u us open_after totals-after
    unfolding statement_of add_statement leaf_req
    loop_arm e E = subst (λ (k : ℕ). As k r u us open_after totals-after) (sym e) E
