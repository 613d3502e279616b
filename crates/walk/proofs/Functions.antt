-- What single changes keep, the walk of any function keeps, and any list of requests: by induction on the function's number, and over the list.
use mathlib.Core.Path.{◌≡◌, refl, subst}
use mathlib.Core.Bool.{Bool, true, false, cond}
use mathlib.Core.List.{List, [], ◌∷◌}
use mathlib.Core.Option.{Option, some, none as nothing}
use Prim.Native.Nat.{ℕ}
use lib.Dec.{ltb}
use lib.ListN.{get_or, set}
use Rattle.field.specs.Limits.{max_pieces}
use Rattle.part.specs.PartReq.{none}
use Rattle.module.specs.Module.{FunctionHandle, Module}
use Rattle.context.specs.RequiredContext.{RequiredContext, merge_context, return_entry}
use Rattle.walk.specs.State.{FunctionReq, State, Place, nowhere, Out, went, halt, ◌>>◌, with_functions}
use Rattle.walk.specs.Marks.{add_marks, body_of, first_ray}
use Rattle.walk.specs.Statement.{FunctionWalk}
use Rattle.walk.specs.Function.{extend, walked, keep, join_total, add_total, entered, step_function, no_function, add_function}
use Rattle.request.specs.Request.{Request}
use Rattle.walk.specs.Requests.{Pruner, end_count, ended, begun, walk_request, answered, request, requests, Answer, reported, refused}
use Rattle.module.proofs.Knot.{knot-all}
use Rattle.walk.proofs.Ends.{ends, stops, ends_then, ends_next, ends_limited_context}
use Rattle.walk.proofs.Keeps.{Kept, Good, Goes}
use Rattle.walk.proofs.Statements.{Totals, Calls, block_keeps}

module _ {m : Module} (K : Kept m) where
  good_kept : (f : FunctionHandle) (fs : List (Option FunctionReq)) (st : State) → Good K f st → K.Functions fs → Good K f (with_functions fs st)
  good_kept f fs st h hf =
      record { context = h.context; exprs = h.exprs; marks = h.marks; globals = h.globals; functions = hf; visits = h.visits }

  join_goes : (f : FunctionHandle) (at : Place) (total : FunctionReq) (ray : Option ℕ) (st : State) → get_or st.functions f nothing ≡ some total → Good K f st → Goes K f (join_total f at total ray st)
  unfolding join_total
  join_goes f at total (some s) st there h = stops refl
  join_goes f at total nothing st there h =
      let context = merge_context total.context st.context in
      let joined : State → FunctionReq = λ left. record { marks = add_marks total.marks left.marks; context = context; exprs = extend total.exprs left.exprs } in
      ends_next {P = λ left u. Good K f (keep f (joined left) left)} (λ left. went (keep f (joined left) left) tt)
      (ends_limited_context at context st
      (λ o. good_kept f (set st.functions f (some (joined st))) st h
      (K.total_extended st.functions f total st.marks st.context st.exprs h.functions there h.marks h.context h.exprs o)))
      (λ left hl. ends hl)

  total_goes : (f : FunctionHandle) (at : Place) (o : Option FunctionReq) (st : State) → get_or st.functions f nothing ≡ o → Good K f st → Goes K f (add_total m f at o st)
  unfolding add_total
  total_goes f at nothing st there h =
      ends (good_kept f (set st.functions f (some (walked st))) st h
      (K.total_kept st.functions f st.marks st.context st.exprs h.functions h.marks h.context h.exprs))
  total_goes f at (some total) st there h = join_goes f at total (first_ray m f (body_of m f)) st there h

  good_entered : (f : FunctionHandle) (base : RequiredContext) (st : State) → K.Context f base → Totals K st → Good K f (entered m f base st)
  unfolding entered
  good_entered f base st hb h =
      record { context = hb; exprs = K.exprs_fresh f; marks = K.marks_fresh f; globals = h.globals; functions = h.functions; visits = h.visits }

  function_step : (call : FunctionWalk) (f : FunctionHandle) → ((g : FunctionHandle) → Calls K g (call g)) → Calls K f (step_function m call f)
  unfolding step_function
  function_step call f hc at held globals retval st hb h =
      let base : RequiredContext = record { globals = globals; locals = none; args = none; retval = retval } in
      ends_then (λ ended r. add_total m f at (get_or ended.functions f nothing) ended >> λ left. went left r)
      (block_keeps K call f hc (body_of m f) held base false (entered m f base st) hb (good_entered f base st hb h))
      (λ ended r he. ends_next (λ left. went left r) (total_goes f at (get_or ended.functions f nothing) ended refl he) (λ left hl. ends hl))

  -- the walk of a function keeps what single changes keep
  pub function_keeps : (f : FunctionHandle) → Calls K f (add_function m f)
  unfolding add_function
  function_keeps f = knot-all (Calls K) (step_function m) no_function (λ g at held globals retval st hb h. stops refl) function_step f

  -- the properties of a pruner, for a request that begins with no visits
  pub record Keeping (pruner : Pruner) : Type 0 where
    pub globals : K.Globals pruner.globals
    pub functions : K.Functions pruner.functions

  -- what a request asks has the property
  abbrev pub Asking : Request → Type 0
  Asking q = K.Context q.function (record { globals = q.globals; locals = none; args = none; retval = return_entry q.retval })

  end_goes : (f : FunctionHandle) (r : Bool) (st : State) → Good K f st → Goes K f (ended r st)
  unfolding ended
  end_goes f r st h = go (ltb max_pieces (end_count st))
    where
      go : (b : Bool) → Goes K f (cond b (halt 16 nowhere) (went st r))
      go true = stops refl
      go false = ends h

  pub walk_keeps : (pruner : Pruner) (q : Request) → K.Visits 0 → Keeping pruner → Asking q → Goes K q.function (walk_request m pruner q)
  unfolding walk_request begun
  walk_keeps pruner q none_yet h ha =
      ends_then (λ st required. ended required st)
      (function_keeps q.function nowhere 0 q.globals (return_entry q.retval) (begun pruner) ha
      (record { globals = h.globals; functions = h.functions; visits = none_yet }))
      (λ st r good. end_goes q.function r st good)

  answer_keeps : (pruner : Pruner) (f : FunctionHandle) (x : Out Bool) → Keeping pruner → Goes K f x → Keeping (answered m pruner f x).1
  answer_keeps pruner f (went st r) h (ends good) = record { globals = good.globals; functions = good.functions }
  answer_keeps pruner f (halt n at) h (stops t) = h

  -- a request keeps the properties of the pruner
  request-keeps : (pruner : Pruner) (q : Request) → K.Visits 0 → Keeping pruner → Asking q → Keeping (request m pruner q).1
  unfolding request
  request-keeps pruner q none_yet h ha = answer_keeps pruner q.function (walk_request m pruner q) h (walk_keeps pruner q none_yet h ha)

  abbrev pub AskingAll : List Request → Type 0
  AskingAll [] = Unit {0}
  AskingAll (q ∷ qs) = Asking q × AskingAll qs

  pub requests-keep : (pruner : Pruner) (qs : List Request) → K.Visits 0 → Keeping pruner → AskingAll qs → Keeping (requests m pruner qs).1
  unfolding requests
  requests-keep pruner [] none_yet h ha = h
  requests-keep pruner (q ∷ qs) none_yet h ha = requests-keep (request m pruner q).1 qs none_yet (request-keeps pruner q none_yet h ha.0) ha.1

-- A refused request changes nothing.
abbrev IsReported : Answer → Type 0
IsReported (reported r) = Unit {0}
IsReported (refused n at) = ⊥

answered-refused : (m : Module) (pruner : Pruner) (f : FunctionHandle) (x : Out Bool) (n : ℕ) (at : Place) → (answered m pruner f x).0 ≡ refused n at → (answered m pruner f x).1 ≡ pruner
answered-refused m pruner f (went st r) n at e = absurd (subst IsReported e tt)
answered-refused m pruner f (halt k place) n at e = refl

pub refused-same : (m : Module) (pruner : Pruner) (q : Request) (n : ℕ) (at : Place) → (request m pruner q).0 ≡ refused n at → (request m pruner q).1 ≡ pruner
unfolding request
refused-same m pruner q n at e = answered-refused m pruner q.function (walk_request m pruner q) n at e
