-- In a module whose blocks hold lower blocks and whose functions call lower functions, the walks of blocks and functions are steps of themselves: the
-- fixed cases of the recursions never show. Arm by arm, then by induction on the numbers.
use mathlib.Core.Path.{◌≡◌, refl, ap, ◌∙◌, fun_ext}
use mathlib.Core.Bool.{Bool, true, false, ◌||◌}
use mathlib.Core.List.{List, [], ◌∷◌, map}
use mathlib.Core.Option.{Option, none as nothing}
use Prim.Native.Nat.{ℕ, zero, suc, ◌+◌, ◌<◌}
use native.Mathlib.Omega.{arith}
use lib.Dec.{ltb}
use lib.ListN.{length, get_or}
use borrow.Author.Tests.{ltb-true}
use Rattle.part.specs.PartReq.{PartReq, all}
use Rattle.module.specs.Module.{ExpressionHandle, FunctionHandle, BlockHandle, Module, SwitchCase, Statement, Emit, Block, If, Switch, Loop, Break, Continue, Return, Kill, ControlBarrier, MemoryBarrier, ImageAtomic, Store, AtomicStatement, Call, ImageStore, RayQuery, WorkGroupUniformLoad, SubgroupBallot, SubgroupGather, SubgroupCollectiveOperation}
use Rattle.module.specs.Blocks.{held, all_below}
use Rattle.module.specs.Knot.{knot, below}
use Rattle.module.proofs.Knot.{knot-is, below-lt}
use Rattle.context.specs.RequiredContext.{RequiredContext, pieces, contains_context}
use Rattle.walk.specs.Lower.{CallsBelow, LowerBlock}
use Rattle.walk.proofs.Bind.{and_left, and_right, then_same, next_same}
use Rattle.walk.specs.State.{State, Place, Walk, ◌>>=◌, ◌>>◌, with_context}
use Rattle.walk.specs.StatementReq.{StatementReq}
use Rattle.walk.specs.Marks.{statement_at, block_at, ray_of_cases, ray_of, ray_from, first_ray}
use Rattle.walk.specs.Statement.{BlockWalk, FunctionWalk, Frame, holding, ask_optional, merged, add_nested, add_if, add_cases, add_switch, end_turn, turns, start_turns, end_loop, add_loop, add_call, add_statement, visit_statement, add_statements, step_block, no_block, add_block}
use Rattle.walk.specs.Function.{step_function, no_function, add_function}

module _ (m : Module) (block block' : BlockWalk) (fr : Frame) where
  nested_same : (b : BlockHandle) (st : State) → block b ≡ block' b → add_nested block fr b st ≡ add_nested block' fr b st
  unfolding add_nested
  nested_same b st h = rw h

  if_same : (e : ExpressionHandle) (a r : BlockHandle) (st : State) → block a ≡ block' a → block r ≡ block' r → add_if m block fr e a r st ≡ add_if m block' fr e a r st
  unfolding add_if
  if_same e a r st ha hr = rw (ha, hr)

module _ (m : Module) (block block' : BlockWalk) (fr : Frame) where
  cases_same : (outer : RequiredContext) (cases : List SwitchCase) (n : ℕ) (any : Bool) (st : State) → ((k : ℕ) → k < n → block (get_or cases k (record { value = 0; body = 0 })).body ≡ block' (get_or cases k (record { value = 0; body = 0 })).body) → add_cases block fr outer cases n any st ≡ add_cases block' fr outer cases n any st
  unfolding add_cases
  cases_same outer cases zero any st h = refl
  cases_same outer cases (suc n) any st h =
      rw (h n (omega arith))
      (then_same (block' (get_or cases n (record { value = 0; body = 0 })).body (fr.held + pieces outer + pieces st.context) outer false st)
      (λ walked r. merged fr st.context walked.context walked >> add_cases block fr outer cases n (any || r))
      (λ walked r. merged fr st.context walked.context walked >> add_cases block' fr outer cases n (any || r))
      (λ walked r.
      next_same (merged fr st.context walked.context walked) (add_cases block fr outer cases n (any || r)) (add_cases block' fr outer cases n (any || r))
      (λ joined. cases_same outer cases n (any || r) joined (λ k l. h k (omega arith)))))

  switch_same : (e : ExpressionHandle) (cases : List SwitchCase) (st : State) → ((k : ℕ) → k < length cases → block (get_or cases k (record { value = 0; body = 0 })).body ≡ block' (get_or cases k (record { value = 0; body = 0 })).body) → add_switch m block fr e cases st ≡ add_switch m block' fr e cases st
  unfolding add_switch
  switch_same e cases st h = rw (cases_same st.context cases (length cases) false st h)

  turn_same : (working : RequiredContext) (again again' : Walk StatementReq) (r : Bool) (st : State) → ((s : State) → again s ≡ again' s) → end_turn working again r st ≡ end_turn working again' r st
  unfolding end_turn
  turn_same working again again' true st h = refl
  turn_same working again again' false st h = h st

  turns_same : (outside : ℕ) (body continuing : BlockHandle) (working : RequiredContext) (n : ℕ) (st : State) → block body ≡ block' body → block continuing ≡ block' continuing → turns block fr outside body continuing working n st ≡ turns block' fr outside body continuing working n st
  unfolding turns
  turns_same outside body continuing working zero st hb hc = refl
  turns_same outside body continuing working (suc n) st hb hc =
      rw (hb, hc)
      (then_same (block' body outside working true st)
      (λ walked a.
      block' continuing (outside + pieces walked.context) working true walked >>= λ continued r.
      merged fr walked.context continued.context continued >> λ joined.
      end_turn working (turns block fr outside body continuing working n) (contains_context working joined.context) joined)
      (λ walked a.
      block' continuing (outside + pieces walked.context) working true walked >>= λ continued r.
      merged fr walked.context continued.context continued >> λ joined.
      end_turn working (turns block' fr outside body continuing working n) (contains_context working joined.context) joined)
      (λ walked a.
      then_same (block' continuing (outside + pieces walked.context) working true walked)
      (λ continued r.
      merged fr walked.context continued.context continued >> λ joined.
      end_turn working (turns block fr outside body continuing working n) (contains_context working joined.context) joined)
      (λ continued r.
      merged fr walked.context continued.context continued >> λ joined.
      end_turn working (turns block' fr outside body continuing working n) (contains_context working joined.context) joined)
      (λ continued r.
      next_same (merged fr walked.context continued.context continued)
      (λ joined. end_turn working (turns block fr outside body continuing working n) (contains_context working joined.context) joined)
      (λ joined. end_turn working (turns block' fr outside body continuing working n) (contains_context working joined.context) joined)
      (λ joined.
      turn_same working (turns block fr outside body continuing working n) (turns block' fr outside body continuing working n)
      (contains_context working joined.context) joined (λ s. turns_same outside body continuing working n s hb hc)))))

  start_same : (n : ℕ) (body continuing : BlockHandle) (st : State) → block body ≡ block' body → block continuing ≡ block' continuing → start_turns block fr n body continuing st ≡ start_turns block' fr n body continuing st
  unfolding start_turns
  start_same n body continuing st hb hc = turns_same _ body continuing st.context _ st hb hc

  loop_end_same : (body continuing : BlockHandle) (o : Option ExpressionHandle) (before walked : RequiredContext) (r : Bool) (st : State) → block body ≡ block' body → block continuing ≡ block' continuing → end_loop m block fr body continuing o before walked r st ≡ end_loop m block' fr body continuing o before walked r st
  unfolding end_loop
  loop_end_same body continuing o before walked true st hb hc =
      next_same (ask_optional m (holding (pieces walked + pieces st.context) fr) o all (with_context before st))
      (λ asked. merged fr walked st.context asked >> start_turns block fr (pieces asked.context) body continuing)
      (λ asked. merged fr walked st.context asked >> start_turns block' fr (pieces asked.context) body continuing)
      (λ asked.
      next_same (merged fr walked st.context asked) (start_turns block fr (pieces asked.context) body continuing)
      (start_turns block' fr (pieces asked.context) body continuing) (λ joined. start_same (pieces asked.context) body continuing joined hb hc))
  loop_end_same body continuing o before walked false st hb hc = refl

  loop_same : (body continuing : BlockHandle) (o : Option ExpressionHandle) (st : State) → block body ≡ block' body → block continuing ≡ block' continuing → add_loop m block fr body continuing o st ≡ add_loop m block' fr body continuing o st
  unfolding add_loop
  loop_same body continuing o st hb hc =
      let outside = fr.held + pieces st.context in
      rw (hb, hc)
      (then_same (block' body outside st.context false st)
      (λ walked a.
      block' continuing (outside + pieces walked.context) st.context false walked >>= λ continued r.
      end_loop m block fr body continuing o st.context walked.context (a || r) continued)
      (λ walked a.
      block' continuing (outside + pieces walked.context) st.context false walked >>= λ continued r.
      end_loop m block' fr body continuing o st.context walked.context (a || r) continued)
      (λ walked a.
      then_same (block' continuing (outside + pieces walked.context) st.context false walked)
      (λ continued r. end_loop m block fr body continuing o st.context walked.context (a || r) continued)
      (λ continued r. end_loop m block' fr body continuing o st.context walked.context (a || r) continued)
      (λ continued r. loop_end_same body continuing o st.context walked.context (a || r) continued hb hc)))

call_same : (m : Module) (call call' : FunctionWalk) (fr : Frame) (g : FunctionHandle) (es : List ExpressionHandle) (o : Option ExpressionHandle) (st : State) → call g ≡ call' g → add_call m call fr g es o st ≡ add_call m call' fr g es o st
unfolding add_call
call_same m call call' fr g es o st h = rw h

first_below : (b h : ℕ) (hs : List BlockHandle) → all_below b (h ∷ hs) ≡ true → h < b
unfolding all_below
first_below b h hs e = ltb-true h b (and_left (ltb h b) (all_below b hs) e)

rest_below : (b h : ℕ) (hs : List BlockHandle) → all_below b (h ∷ hs) ≡ true → all_below b hs ≡ true
unfolding all_below
rest_below b h hs e = and_right (ltb h b) (all_below b hs) e

case_below : (b : ℕ) (cases : List SwitchCase) (k : ℕ) → all_below b (map (λ c. c.body) cases) ≡ true → k < length cases → (get_or cases k (record { value = 0; body = 0 })).body < b
case_below b [] k e l = absurd (omega arith)
case_below b (c ∷ cases) zero e l = first_below b c.body (map (λ c. c.body) cases) e
case_below b (c ∷ cases) (suc k) e l = case_below b cases k (rest_below b c.body (map (λ c. c.body) cases) e) (omega arith)

-- a statement that holds blocks below b and calls functions below f walks alike where walks agree there
statement_same : (m : Module) (call call' : FunctionWalk) (block block' : BlockWalk) (fr : Frame) (f b : ℕ) (s : Statement) (st : State) → ((g : FunctionHandle) → g < f → call g ≡ call' g) → ((a : BlockHandle) → a < b → block a ≡ block' a) → CallsBelow f s → all_below b (held s) ≡ true → add_statement m call block fr s st ≡ add_statement m call' block' fr s st
unfolding add_statement held
statement_same m call call' block block' fr f b (Emit first last) st hc hb c h = refl
statement_same m call call' block block' fr f b (Block a) st hc hb c h = nested_same m block block' fr a st (hb a (first_below b a [] h))
statement_same m call call' block block' fr f b (If condition accept reject) st hc hb c h =
    if_same m block block' fr condition accept reject st (hb accept (first_below b accept (reject ∷ []) h))
    (hb reject (first_below b reject [] (rest_below b accept (reject ∷ []) h)))
statement_same m call call' block block' fr f b (Switch selector cases) st hc hb c h =
    switch_same m block block' fr selector cases st (λ k l. hb (get_or cases k (record { value = 0; body = 0 })).body (case_below b cases k h l))
statement_same m call call' block block' fr f b (Loop body continuing break_if) st hc hb c h =
    loop_same m block block' fr body continuing break_if st (hb body (first_below b body (continuing ∷ []) h))
    (hb continuing (first_below b continuing [] (rest_below b body (continuing ∷ []) h)))
statement_same m call call' block block' fr f b Break st hc hb c h = refl
statement_same m call call' block block' fr f b Continue st hc hb c h = refl
statement_same m call call' block block' fr f b (Return value) st hc hb c h = refl
statement_same m call call' block block' fr f b Kill st hc hb c h = refl
statement_same m call call' block block' fr f b ControlBarrier st hc hb c h = refl
statement_same m call call' block block' fr f b MemoryBarrier st hc hb c h = refl
statement_same m call call' block block' fr f b ImageAtomic st hc hb c h = refl
statement_same m call call' block block' fr f b (Store pointer value) st hc hb c h = refl
statement_same m call call' block block' fr f b (AtomicStatement pointer value result) st hc hb c h = refl
statement_same m call call' block block' fr f b (Call function arguments result) st hc hb c h =
    call_same m call call' fr function arguments result st (hc function (c function arguments result refl))
statement_same m call call' block block' fr f b (ImageStore image coordinate array_index value) st hc hb c h = refl
statement_same m call call' block block' fr f b (RayQuery query) st hc hb c h = refl
statement_same m call call' block block' fr f b (WorkGroupUniformLoad pointer result) st hc hb c h = refl
statement_same m call call' block block' fr f b (SubgroupBallot result predicate) st hc hb c h = refl
statement_same m call call' block block' fr f b (SubgroupGather mode argument result) st hc hb c h = refl
statement_same m call call' block block' fr f b (SubgroupCollectiveOperation argument result) st hc hb c h = refl

visit_same : (m : Module) (call call' : FunctionWalk) (block block' : BlockWalk) (fr : Frame) (f b : ℕ) (st : State) → ((g : FunctionHandle) → g < f → call g ≡ call' g) → ((a : BlockHandle) → a < b → block a ≡ block' a) → CallsBelow f (statement_at m fr.function fr.statement) → all_below b (held (statement_at m fr.function fr.statement)) ≡ true → visit_statement m call block fr st ≡ visit_statement m call' block' fr st
unfolding visit_statement
visit_same m call call' block block' fr f b st hc hb c h =
    let same : add_statement m call block fr (statement_at m fr.function fr.statement) ≡ add_statement m call' block' fr (statement_at m fr.function fr.statement) =
    fun_ext (λ s. statement_same m call call' block block' fr f b (statement_at m fr.function fr.statement) s hc hb c h) in
    rw same

statements_same : (one two : ℕ → Bool → Walk Bool) (first n : ℕ) (b r : Bool) (st : State) → ((k : ℕ) (q : Bool) (s : State) → k < n → one (first + k) q s ≡ two (first + k) q s) → add_statements one first n b r st ≡ add_statements two first n b r st
unfolding add_statements
statements_same one two first zero b r st h = refl
statements_same one two first (suc n) b r st h =
    rw (h n b st (omega arith))
    (then_same (two (first + n) b st) (λ left q. add_statements one first n (b || q) (r || q) left) (λ left q. add_statements two first n (b || q) (r || q) left)
    (λ left q. statements_same one two first n (b || q) (r || q) left (λ k p s l. h k p s (omega arith))))

step_same : (m : Module) (call call' : FunctionWalk) (f : FunctionHandle) (block block' : BlockWalk) (b : BlockHandle) → LowerBlock m f b → ((g : FunctionHandle) → g < f → call g ≡ call' g) → ((a : BlockHandle) → a < b → block a ≡ block' a) → (outside : ℕ) (base : RequiredContext) (r : Bool) (st : State) → step_block m call f block b outside base r st ≡ step_block m call' f block' b outside base r st
unfolding step_block
step_same m call call' f block block' b low hc hb outside base r st =
    let frame : ℕ → Bool → Frame = λ s q. record { function = f; statement = s; held = outside + pieces base; base = base; break_required = q } in
    statements_same (λ s q. visit_statement m call block (frame s q)) (λ s q. visit_statement m call' block' (frame s q))
    (block_at m f b).first (block_at m f b).count r false (with_context base st)
    (λ k q s l. visit_same m call call' block block' (frame ((block_at m f b).first + k) q) f b s hc hb (low.calls k l) (low.holds k l))

-- The walk of a block is a step of itself.
pub block_is : (m : Module) (call : FunctionWalk) (f : FunctionHandle) (b : BlockHandle) → LowerBlock m f b → (outside : ℕ) (base : RequiredContext) (r : Bool) (st : State) → add_block m call f b outside base r st ≡ step_block m call f (add_block m call f) b outside base r st
unfolding add_block
block_is m call f b low outside base r st =
    ap (λ (w : (held : ℕ) → RequiredContext → Bool → Walk Bool). w outside base r st) (knot-is (step_block m call f) no_block b)
    ∙ step_same m call call f (below (knot (step_block m call f) no_block) no_block b) (knot (step_block m call f) no_block) b low (λ g l. refl)
    (λ a l. below-lt (knot (step_block m call f) no_block) no_block b a l) outside base r st

lower_calls : (m : Module) (call call' : FunctionWalk) (f : FunctionHandle) → ((b : BlockHandle) → LowerBlock m f b) → ((g : FunctionHandle) → g < f → call g ≡ call' g) → add_block m call f ≡ add_block m call' f
unfolding add_block
lower_calls m call call' f low hc =
    let same : step_block m call f ≡ step_block m call' f =
    fun_ext (λ block. fun_ext (λ b. fun_ext (λ outside. fun_ext (λ base. fun_ext (λ r. fun_ext (λ st.
    step_same m call call' f block block b (low b) hc (λ a l. refl) outside base r st)))))) in
    ap (λ (step : BlockWalk → BlockWalk). knot step no_block) same

-- The walk of a function is a step of itself.
pub function_is : (m : Module) (f : FunctionHandle) → ((b : BlockHandle) → LowerBlock m f b) → (at : Place) (outside : ℕ) (globals retval : PartReq) (st : State) → add_function m f at outside globals retval st ≡ step_function m (add_function m) f at outside globals retval st
unfolding add_function step_function
function_is m f low at outside globals retval st =
    ap (λ (w : Place → (held : ℕ) → (globals retval : PartReq) → Walk Bool). w at outside globals retval st) (knot-is (step_function m) no_function f)
    ∙ rw (lower_calls m (below (knot (step_function m) no_function) no_function f) (knot (step_function m) no_function) f low (below-lt (knot (step_function m) no_function) no_function f))

-- the first RayQuery of a block, likewise
ray_cases_same : (w w' : BlockHandle → Option ℕ) (b : ℕ) (cases : List SwitchCase) → ((a : BlockHandle) → a < b → w a ≡ w' a) → all_below b (map (λ c. c.body) cases) ≡ true → ray_of_cases w cases ≡ ray_of_cases w' cases
unfolding ray_of_cases
ray_cases_same w w' b [] hw h = refl
ray_cases_same w w' b (c ∷ cases) hw h =
    rw (ray_cases_same w w' b cases hw (rest_below b c.body (map (λ c. c.body) cases) h), hw c.body (first_below b c.body (map (λ c. c.body) cases) h))

ray_same : (w w' : BlockHandle → Option ℕ) (b s : ℕ) (x : Statement) → ((a : BlockHandle) → a < b → w a ≡ w' a) → all_below b (held x) ≡ true → ray_of w s x ≡ ray_of w' s x
unfolding ray_of held
ray_same w w' b s (Emit first last) hw h = refl
ray_same w w' b s (Block a) hw h = hw a (first_below b a [] h)
ray_same w w' b s (If condition accept reject) hw h =
    rw (hw accept (first_below b accept (reject ∷ []) h), hw reject (first_below b reject [] (rest_below b accept (reject ∷ []) h)))
ray_same w w' b s (Switch selector cases) hw h = ray_cases_same w w' b cases hw h
ray_same w w' b s (Loop body continuing break_if) hw h =
    rw (hw body (first_below b body (continuing ∷ []) h), hw continuing (first_below b continuing [] (rest_below b body (continuing ∷ []) h)))
ray_same w w' b s Break hw h = refl
ray_same w w' b s Continue hw h = refl
ray_same w w' b s (Return value) hw h = refl
ray_same w w' b s Kill hw h = refl
ray_same w w' b s ControlBarrier hw h = refl
ray_same w w' b s MemoryBarrier hw h = refl
ray_same w w' b s ImageAtomic hw h = refl
ray_same w w' b s (Store pointer value) hw h = refl
ray_same w w' b s (AtomicStatement pointer value result) hw h = refl
ray_same w w' b s (Call function arguments result) hw h = refl
ray_same w w' b s (ImageStore image coordinate array_index value) hw h = refl
ray_same w w' b s (RayQuery query) hw h = refl
ray_same w w' b s (WorkGroupUniformLoad pointer result) hw h = refl
ray_same w w' b s (SubgroupBallot result predicate) hw h = refl
ray_same w w' b s (SubgroupGather mode argument result) hw h = refl
ray_same w w' b s (SubgroupCollectiveOperation argument result) hw h = refl

ray_from_same : (m : Module) (f : FunctionHandle) (w w' : BlockHandle → Option ℕ) (b s n : ℕ) → ((a : BlockHandle) → a < b → w a ≡ w' a) → ((k : ℕ) → k < n → all_below b (held (statement_at m f (s + k))) ≡ true) → ray_from m f w s n ≡ ray_from m f w' s n
unfolding ray_from
ray_from_same m f w w' b s zero hw h = refl
ray_from_same m f w w' b s (suc n) hw h =
    let z : s + 0 ≡ s = omega arith in
    let one = ray_same w w' b s (statement_at m f s) hw (rw z at (h 0 (omega arith))) in
    rw (one, ray_from_same m f w w' b (suc s) n hw (λ k l. let z : s + suc k ≡ suc s + k = omega arith in rw z at (h (suc k) (omega arith))))

pub first_ray-is : (m : Module) (f : FunctionHandle) (b : BlockHandle) → LowerBlock m f b → first_ray m f b ≡ ray_from m f (first_ray m f) (block_at m f b).first (block_at m f b).count
unfolding first_ray
first_ray-is m f b low =
    let step : (BlockHandle → Option ℕ) → BlockHandle → Option ℕ = λ w b. ray_from m f w (block_at m f b).first (block_at m f b).count in
    knot-is step nothing b
    ∙ ray_from_same m f (below (knot step nothing) nothing b) (knot step nothing) b (block_at m f b).first (block_at m f b).count
    (below-lt (knot step nothing) nothing b) low.holds
