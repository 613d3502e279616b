-- The walk of a function, beside `add_function_ref`, `add_function` and `add_entrypoint`.
use Rattle.std.specs.Prelude.{ℕ, Bool, false, [], ◌∷◌, length, get_or, set, replicate}
use Rattle.std.proofs.Math.Option.{Option, some, none as nothing}
use Rattle.part.specs.PartReq.{PartReq, none}
use Rattle.module.specs.Module.{FunctionHandle, Module}
use Rattle.context.specs.RequiredContext.{RequiredContext, merge_context}
use Rattle.module.specs.Knot.{knot}
use Rattle.walk.specs.State.{Records, FunctionReq, State, Place, at_statement, nowhere, went, halt, Walk, ◌>>=◌, ◌>>◌, with_functions, limited_context}
use Rattle.walk.specs.Resolve.{function_at}
use Rattle.walk.specs.Marks.{stretch, add_marks, body_of, first_ray}
use Rattle.walk.specs.Statement.{FunctionWalk, add_block}

-- `extend`: the later record where there is one
unfoldable pub latest : Option PartReq → Option PartReq → Option PartReq
latest old nothing = old
latest old (some p) = some p

unfoldable pub extend : Records → Records → Records
extend [] es = []
extend (old ∷ olds) [] = old ∷ olds
extend (old ∷ olds) (new ∷ news) = latest old new ∷ extend olds news

-- what the walk of a function has left
abbrev pub walked : State → FunctionReq
walked st = record { marks = st.marks; context = st.context; exprs = st.exprs }

-- a function's total
abbrev pub keep : FunctionHandle → FunctionReq → State → State
keep f req st = with_functions (set st.functions f (some req)) st

-- The walk just done joined to a total: first the marks, 13 where two RayQuery meet, then the contexts, 15, then the records.
unfoldable pub join_total : FunctionHandle → Place → FunctionReq → (ray : Option ℕ) → Walk (Unit {0})
join_total f here total (some s) st = halt 13 (at_statement f s)
join_total f here total nothing st =
    let context = merge_context total.context st.context in
    limited_context here context st >> λ left.
    went (keep f (record { marks = add_marks total.marks left.marks; context = context; exprs = extend total.exprs left.exprs }) left) tt

unfoldable pub add_total : Module → FunctionHandle → Place → Option FunctionReq → Walk (Unit {0})
add_total m f here nothing st = went (keep f (walked st) st) tt
add_total m f here (some total) st = join_total f here total (first_ray m f (body_of m f)) st

-- `add_function_ref`'s context and requirements to begin with
unfoldable pub entered : Module → FunctionHandle → RequiredContext → State → State
entered m f base st =
    record {
      context = base;
      exprs = replicate (length (function_at m f).expressions) nothing;
      marks = replicate (stretch m f) 0;
      globals = st.globals;
      functions = st.functions;
      visits = st.visits;
    }

unfoldable pub step_function : Module → FunctionWalk → FunctionWalk
step_function m call f here held globals retval st =
    let base : RequiredContext = record { globals = globals; locals = none; args = none; retval = retval } in
    add_block m call f (body_of m f) held base false (entered m f base st) >>= λ ended is_required.
    add_total m f here (get_or ended.functions f nothing) ended >> λ left. went left is_required

-- a called function that is not below its caller: no module that was read has one
abbrev pub no_function : Place → (held : ℕ) → (globals retval : PartReq) → Walk Bool
no_function here held globals retval st = halt 5 nowhere

-- `add_function`. An entry is never called, so that one list has the totals of functions and of entry points.
unfoldable pub add_function : Module → FunctionWalk
add_function m = knot (step_function m) no_function
