-- The definition of a loop by its pairs of blocks: the first pass and each turn are two blocks one after the other, and what follows them. What a block starts from is its
-- base, whatever the context before it.
use Prim.Native.Nat.{ℕ, zero, suc, ◌+◌}
use mathlib.Core.Path.{◌≡◌, refl, sym, ◌∙◌}
use mathlib.Core.Bool.{Bool, true, false, ◌||◌}
use mathlib.Core.List.{List}
use mathlib.Core.Option.{Option, some, none as nothing}
use Rattle.field.specs.Limits.{max_turns}
use Rattle.part.specs.PartReq.{PartReq, all}
use Rattle.module.specs.Module.{Module, ExpressionHandle, FunctionHandle, BlockHandle}
use Rattle.context.specs.RequiredContext.{RequiredContext, merge_context, contains_context, pieces}
use Rattle.context.specs.RequiredContext as context
use Rattle.walk.specs.State.{State, Place, Out, went, halt, ◌>>=◌, ◌>>◌, with_context}
use Rattle.walk.specs.StatementReq.{StatementReq}
use Rattle.walk.specs.Expression.{add_expression}
use Rattle.walk.specs.Statement.{BlockWalk, Frame, here, holding, ask_optional, merged, end_turn, turns, start_turns, end_loop, add_loop}
use Rattle.walk.proofs.Bind.{then_then}
use Rattle.access.specs.Laid.{WasRead}
use Rattle.block.specs.Visiting.{block_in}
use Rattle.block.specs.Pairing.{add_pair}
use Rattle.block.proofs.Unroll.{merged-within, merged-over}
use Rattle.block.proofs.Answered.{block_anywhere}
use Rattle.arms.specs.Loops.{end_pass}

abbrev both : RequiredContext → Bool → RequiredContext × Bool
both c b = (c, b)

-- what goes on from both blocks
pair_then : {B : Type 0} (x : Out Bool) (y : State → Out Bool) (k : State → RequiredContext → Bool → Out B)
    → ((x >>= λ walked a. y walked >>= λ continued c. went continued (both walked.context (a || c))) >>= λ continued p. k continued p.0 p.1)
    ≡ (x >>= λ walked a. y walked >>= λ continued c. k continued walked.context (a || c))
pair_then (went st a) y k = then_then (y st) (λ continued c. went continued (both st.context (a || c))) (λ continued p. k continued p.0 p.1)
pair_then (halt n at) y k = refl

-- a turn
module _ (block : BlockWalk) (fr : Frame) (held : ℕ) (body continuing : BlockHandle) (working : RequiredContext) (n : ℕ) (st : State) where
  abbrev Pair : Out (RequiredContext × Bool)
  Pair = add_pair block body continuing held working true st

  abbrev after : State → RequiredContext → Out StatementReq
  after continued walked =
      merged fr walked continued.context continued >> λ joined.
      end_turn working (turns block fr held body continuing working n) (contains_context working joined.context) joined

  turn_pair : turns block fr held body continuing working (suc n) st ≡ (Pair >>= λ continued p. after continued p.0)
  unfolding turns add_pair
  turn_pair =
      sym (pair_then (block body held working true st) (λ walked. block continuing (held + pieces walked.context) working true walked) (λ continued walked b. after continued walked))

  pub turn_halt : {k : ℕ} {at : Place} → halt k at ≡ Pair → turns block fr held body continuing working (suc n) st ≡ halt k at
  turn_halt e = turn_pair ∙ rw (← e)

  module _ {continued : State} {walked : RequiredContext} {b : Bool} (e : went continued (both walked b) ≡ Pair) where
    turn_went : turns block fr held body continuing working (suc n) st ≡ after continued walked
    turn_went = turn_pair ∙ rw (← e)

    pub turn_over : halt 15 (here fr) ≡ merged fr walked continued.context continued → turns block fr held body continuing working (suc n) st ≡ halt 15 (here fr)
    turn_over o = turn_went ∙ rw (← o)

    pub turn_ends : {r : Bool} → false ≡ context.over_context (merge_context walked continued.context) → r ≡ contains_context working (merge_context walked continued.context)
        → turns block fr held body continuing working (suc n) st
        ≡ end_turn working (turns block fr held body continuing working n) r (with_context (merge_context walked continued.context) continued)
    turn_ends o g = turn_went ∙ rw (← merged-within fr walked continued.context continued o, ← g)

-- the first pass
module _ (m : Module) (block : BlockWalk) (fr : Frame) (body continuing : BlockHandle) (break_if : Option ExpressionHandle) (st : State) where
  abbrev First : Out (RequiredContext × Bool)
  First = add_pair block body continuing (fr.held + pieces st.context) st.context false st

  loop_pair : add_loop m block fr body continuing break_if st
      ≡ (First >>= λ continued p. end_loop m block fr body continuing break_if st.context p.0 p.1 continued)
  unfolding add_loop add_pair
  loop_pair =
      sym
      (pair_then (block body (fr.held + pieces st.context) st.context false st)
      (λ walked. block continuing (fr.held + pieces st.context + pieces walked.context) st.context false walked)
      (λ continued walked b. end_loop m block fr body continuing break_if st.context walked b continued))

  pub loop_halt : {k : ℕ} {at : Place} → halt k at ≡ First → add_loop m block fr body continuing break_if st ≡ halt k at
  loop_halt e = loop_pair ∙ rw (← e)

  pub loop_went : {continued : State} {walked : RequiredContext} {b : Bool} → went continued (both walked b) ≡ First
      → add_loop m block fr body continuing break_if st ≡ end_loop m block fr body continuing break_if st.context walked b continued
  loop_went e = loop_pair ∙ rw (← e)

-- its end
module _ (m : Module) (fr : Frame) (break_if : Option ExpressionHandle) (before walked : RequiredContext) (st : State) where
  abbrev BreakIf : Out (Unit {0})
  BreakIf = ask_optional m (holding (pieces walked + pieces st.context) fr) break_if all (with_context before st)

  pub pass_halt : {k : ℕ} {at : Place} → halt k at ≡ BreakIf → halt k at ≡ end_pass m fr break_if before walked st
  unfolding end_pass
  pass_halt e = rw (← e)

  module _ {asked : State} {u : Unit {0}} (e : went asked u ≡ BreakIf) where
    pub pass_over : true ≡ context.over_context (merge_context walked st.context) → halt 15 (here fr) ≡ end_pass m fr break_if before walked st
    unfolding end_pass
    pass_over o = rw (← e) (rw (← merged-over fr walked st.context asked o))

    pub pass_within : false ≡ context.over_context (merge_context walked st.context)
        → went (with_context (merge_context walked st.context) asked) asked.context ≡ end_pass m fr break_if before walked st
    unfolding end_pass
    pass_within o = rw (← e) (rw (← merged-within fr walked st.context asked o))

  module _ (block : BlockWalk) (body continuing : BlockHandle) where
    end_is : end_loop m block fr body continuing break_if before walked true st
        ≡ (end_pass m fr break_if before walked st >>= λ joined c. start_turns block fr (pieces c) body continuing joined)
    unfolding end_loop end_pass
    end_is = by BreakIf
      where
        by : (x : Out (Unit {0}))
            → (x >> λ asked. merged fr walked st.context asked >> start_turns block fr (pieces asked.context) body continuing)
            ≡ ((x >> λ asked. merged fr walked st.context asked >> λ joined. went joined asked.context) >>= λ joined c. start_turns block fr (pieces c) body continuing joined)
        by (went asked a) = within (merged fr walked st.context asked) asked.context
          where
            within : (x : Out (Unit {0})) (c : RequiredContext)
                → (x >> start_turns block fr (pieces c) body continuing)
                ≡ ((x >> λ joined. went joined c) >>= λ joined c. start_turns block fr (pieces c) body continuing joined)
            within (went joined b) c = refl
            within (halt k at) c = refl
        by (halt k at) = refl

    pub end_halt : {k : ℕ} {at : Place} → halt k at ≡ end_pass m fr break_if before walked st → end_loop m block fr body continuing break_if before walked true st ≡ halt k at
    end_halt e = end_is ∙ rw (← e)

    pub end_turns : {joined : State} {c : RequiredContext} → went joined c ≡ end_pass m fr break_if before walked st
        → end_loop m block fr body continuing break_if before walked true st
        ≡ turns block fr (fr.held + pieces c + pieces joined.context) body continuing joined.context max_turns joined
    unfolding start_turns
    end_turns e = end_is ∙ rw (← e)

-- `break_if`, where there is one
module _ (m : Module) (fr : Frame) {break_if : Option ExpressionHandle} (p : PartReq) (st : State) where
  pub optional_absent : break_if ≡ nothing → ask_optional m fr break_if p st ≡ went st tt
  unfolding ask_optional
  optional_absent h = rw h

  pub optional_there : {e : ExpressionHandle} → break_if ≡ some e → ask_optional m fr break_if p st ≡ add_expression m fr.function fr.held e p st
  unfolding ask_optional
  optional_there h = rw h

-- the context before a turn is of no account
module _ {bytes t : List ℕ} (w : WasRead bytes t) (f : FunctionHandle) where
  pub turns-fresh : (fr : Frame) (held : ℕ) (body continuing : BlockHandle) (working : RequiredContext) (n : ℕ) (c : RequiredContext) (st : State)
      → turns (block_in bytes t f) fr held body continuing working n (with_context c st) ≡ turns (block_in bytes t f) fr held body continuing working n st
  unfolding turns
  turns-fresh fr held body continuing working zero c st = refl
  turns-fresh fr held body continuing working (suc n) c st = rw (block_anywhere w f body held working c true st)
