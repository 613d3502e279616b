-- Where the refusal of a request falls, in a module that was read: at no place, or at an expression or a statement of the module. Statement by statement (proofs/Falls), then by induction over blocks
-- and functions: a block's statements are the function's, and so is the RayQuery that the end of a function names.
use mathlib.Core.Bool.{Bool, false, ◌||◌}
use mathlib.Core.List.{List, [], ◌∷◌}
use mathlib.Core.Option.{Option, some, none as nothing}
use Prim.Native.Nat.{ℕ, zero, suc, ◌+◌, ◌<◌}
use native.Mathlib.Omega.{arith}
use lib.Dec.{ltb}
use lib.ListN.{length, get_or}
use Rattle.field.specs.Limits.{max_pieces}
use Rattle.part.specs.PartReq.{PartReq}
use Rattle.module.specs.Module.{FunctionHandle, BlockHandle, Module, SwitchCase, Statement, Emit, Block, If, Switch, Loop, Break, Continue, Return, Kill, ControlBarrier, MemoryBarrier, ImageAtomic, Store, AtomicStatement, Call, ImageStore, RayQuery, WorkGroupUniformLoad, SubgroupBallot, SubgroupGather, SubgroupCollectiveOperation}
use Rattle.module.proofs.Knot.{knot-all}
use Rattle.context.specs.RequiredContext.{RequiredContext, pieces, return_entry}
use Rattle.request.specs.Request.{Request}
use Rattle.valid.specs.Valid.{entries_below, Valid}
use Rattle.walk.specs.State.{FunctionReq, State, Place, at_statement, nowhere, Out, went, halt, Walk, with_context}
use Rattle.walk.specs.Resolve.{function_at}
use Rattle.walk.specs.Marks.{statement_at, block_at, body_of, or_else, ray_of_cases, ray_of, ray_from, first_ray}
use Rattle.walk.specs.Statement.{FunctionWalk, BlockWalk, add_statements, step_block, no_block, add_block}
use Rattle.walk.specs.Function.{join_total, add_total, step_function, no_function, add_function}
use Rattle.walk.specs.Requests.{Pruner, Answer, reported, refused, end_count, ended, begun, walk_request, answered, request}
use Rattle.sound.proofs.There.{has_statements, block_there, uses_below}
use Rattle.sound.proofs.Lower.{statements-there}
use Rattle.sound.proofs.Asked.{OnSome}
use Rattle.requests.proofs.Falls.{InModule, Falls, goes, falls, falls_then, falls_next, falls_when, context_falls, visited_falls}

-- the place of a refusal, where a request is refused
abbrev pub OnRefused : (Place → Type 0) → Answer → Type 0
OnRefused P (reported r) = Unit {0}
OnRefused P (refused n at) = P at

statements_fall : {P : Place → Type 0} (visit_one : ℕ → Bool → Walk Bool) (first n : ℕ) (b r : Bool) (st : State) → ((i : ℕ) → i < n → (q : Bool) (u : State) → Falls P (visit_one (first + i) q u)) → Falls P (add_statements visit_one first n b r st)
unfolding add_statements
statements_fall visit_one first zero b r st h = goes
statements_fall visit_one first (suc n) b r st h =
    falls_then (λ left q. add_statements visit_one first n (b || q) (r || q) left) (h n (omega arith) b st)
    (λ left q. statements_fall visit_one first n (b || q) (r || q) left (λ i l. h i (omega arith)))

module _ (m : Module) (v : Valid m) where
  -- a statement of a block is the function's
  statement_there : (f : FunctionHandle) (b : BlockHandle) (i : ℕ) → i < (block_at m f b).count → (block_at m f b).first + i < length (function_at m f).statements
  statement_there f b i l = omega (arith, statements-there m v f b (block_there m f b i l))

  -- the walk of a block, where calls fall in the module
  block_falls : (call : FunctionWalk) (f : FunctionHandle) → ((g : FunctionHandle) (at : Place) (held : ℕ) (globals retval : PartReq) (st : State) → InModule m at → Falls (InModule m) (call g at held globals retval st))
      → (b : BlockHandle) (held : ℕ) (base : RequiredContext) (r : Bool) (st : State) → Falls (InModule m) (add_block m call f b held base r st)
  unfolding add_block step_block
  block_falls call f hc =
      knot-all (λ b w. (held : ℕ) (base : RequiredContext) (r : Bool) (st : State) → Falls (InModule m) (w held base r st)) (step_block m call f) no_block (λ b held base r st. falls tt) step
    where
      step : (block : BlockWalk) (b : BlockHandle) → ((a : BlockHandle) (held : ℕ) (base : RequiredContext) (r : Bool) (st : State) → Falls (InModule m) (block a held base r st)) → (held : ℕ) (base : RequiredContext) (r : Bool) (st : State) → Falls (InModule m) (step_block m call f block b held base r st)
      step block b hb held base r st =
          statements_fall _ (block_at m f b).first (block_at m f b).count r false (with_context base st)
          (λ i l q u.
          let s = (block_at m f b).first + i in
          let inside = statement_there f b i l in
          visited_falls m (record { function = f; statement = s; held = held + pieces base; base = base; break_required = q }) (has_statements m f s inside, inside) call block hc hb (entries_below f m.functions) u (uses_below m v f s))

  -- the statement whose marks do not join
  module _ (f : FunctionHandle) where
    abbrev There : Option ℕ → Type 0
    There o = OnSome (λ s. s < length (function_at m f).statements) o

    either : (a b : Option ℕ) → There a → There b → There (or_else a b)
    either nothing b ha hb = hb
    either (some s) b ha hb = ha

    module _ (w : BlockHandle → Option ℕ) (hw : (b : BlockHandle) → There (w b)) where
      cases_there : (cs : List SwitchCase) → There (ray_of_cases w cs)
      unfolding ray_of_cases
      cases_there [] = tt
      cases_there (c ∷ cs) = either (ray_of_cases w cs) (w c.body) (cases_there cs) (hw c.body)

      ray_there : (s : ℕ) (x : Statement) → s < length (function_at m f).statements → There (ray_of w s x)
      unfolding ray_of
      ray_there s (Emit first last) l = tt
      ray_there s (Block b) l = hw b
      ray_there s (If condition accept reject) l = either (w accept) (w reject) (hw accept) (hw reject)
      ray_there s (Switch selector cases) l = cases_there cases
      ray_there s (Loop body continuing break_if) l = either (w body) (w continuing) (hw body) (hw continuing)
      ray_there s Break l = tt
      ray_there s Continue l = tt
      ray_there s (Return value) l = tt
      ray_there s Kill l = tt
      ray_there s ControlBarrier l = tt
      ray_there s MemoryBarrier l = tt
      ray_there s ImageAtomic l = tt
      ray_there s (Store pointer value) l = tt
      ray_there s (AtomicStatement pointer value result) l = tt
      ray_there s (Call g arguments result) l = tt
      ray_there s (ImageStore image coordinate array_index value) l = tt
      ray_there s (RayQuery query) l = l
      ray_there s (WorkGroupUniformLoad pointer result) l = l
      ray_there s (SubgroupBallot result predicate) l = l
      ray_there s (SubgroupGather mode argument result) l = l
      ray_there s (SubgroupCollectiveOperation argument result) l = l

      rays_there : (s n : ℕ) → ((i : ℕ) → i < n → s + i < length (function_at m f).statements) → There (ray_from m f w s n)
      unfolding ray_from
      rays_there s zero l = tt
      rays_there s (suc n) l =
          either (ray_of w s (statement_at m f s)) (ray_from m f w (suc s) n) (ray_there s (statement_at m f s) (omega (arith, l 0 (omega arith))))
          (rays_there (suc s) n (λ i k. omega (arith, l (suc i) (omega arith))))

    first_there : (b : BlockHandle) → There (first_ray m f b)
    unfolding first_ray
    first_there =
        knot-all (λ b o. There o) (λ w b. ray_from m f w (block_at m f b).first (block_at m f b).count) nothing (λ b. tt)
        (λ w b hw. rays_there w hw (block_at m f b).first (block_at m f b).count (statement_there f b))

    -- a function's end
    join_falls : (at : Place) (total : FunctionReq) (o : Option ℕ) (st : State) → InModule m at → There o → Falls (InModule m) (join_total f at total o st)
    unfolding join_total
    join_falls at total (some s) st h l = falls {at = at_statement f s} (has_statements m f s l, l)
    join_falls at total nothing st h l = falls_next _ (context_falls at h _ st) (λ left. goes)

    total_falls : (at : Place) (o : Option FunctionReq) (st : State) → InModule m at → Falls (InModule m) (add_total m f at o st)
    unfolding add_total
    total_falls at nothing st h = goes
    total_falls at (some total) st h = join_falls at total (first_ray m f (body_of m f)) st h (first_there (body_of m f))

  -- the walk of a function
  function_falls : (f : FunctionHandle) (at : Place) (held : ℕ) (globals retval : PartReq) (st : State) → InModule m at → Falls (InModule m) (add_function m f at held globals retval st)
  unfolding add_function step_function
  function_falls =
      knot-all (λ f w. (at : Place) (held : ℕ) (globals retval : PartReq) (st : State) → InModule m at → Falls (InModule m) (w at held globals retval st)) (step_function m) no_function
      (λ f at held globals retval st h. falls tt) step
    where
      step : (call : FunctionWalk) (f : FunctionHandle) → ((g : FunctionHandle) (at : Place) (held : ℕ) (globals retval : PartReq) (st : State) → InModule m at → Falls (InModule m) (call g at held globals retval st)) → (at : Place) (held : ℕ) (globals retval : PartReq) (st : State) → InModule m at → Falls (InModule m) (step_function m call f at held globals retval st)
      step call f hc at held globals retval st h =
          falls_then _ (block_falls call f hc (body_of m f) held _ false _)
          (λ left r. falls_next (λ kept. went kept r) (total_falls f at (get_or left.functions f nothing) left h) (λ kept. goes))

  walk_falls : (pruner : Pruner) (q : Request) → Falls (InModule m) (walk_request m pruner q)
  unfolding walk_request ended
  walk_falls pruner q =
      falls_then _ (function_falls q.function nowhere 0 q.globals (return_entry q.retval) (begun pruner) tt) (λ st r. falls_when (ltb max_pieces (end_count st)) 16 nowhere st r tt)

  answered-falls : (pruner : Pruner) (f : FunctionHandle) (x : Out Bool) → Falls (InModule m) x → OnRefused (InModule m) (answered m pruner f x).0
  answered-falls pruner f (went st r) goes = tt
  answered-falls pruner f (halt n at) (falls h) = h

  -- Whatever is asked of a valid module, over any pruner: a refusal's place is the module's.
  pub request-falls : (pruner : Pruner) (q : Request) → OnRefused (InModule m) (request m pruner q).0
  unfolding request
  request-falls pruner q = answered-falls pruner q.function (walk_request m pruner q) (walk_falls pruner q)
