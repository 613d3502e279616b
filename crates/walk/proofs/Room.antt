-- How much the state holds between one check of 16 and the next: a block leaves what a visit may leave or what it was entered with, and a function's end
-- at most doubles it.
use mathlib.Core.Path.{◌≡◌, refl}
use mathlib.Core.Bool.{Bool, false, ◌||◌}
use mathlib.Core.List.{List, [], ◌∷◌}
use mathlib.Core.Option.{Option, some, none as nothing, none-ne-some}
use Prim.Native.Nat.{ℕ, zero, suc, ◌+◌, ◌≤◌}
use native.Mathlib.Omega.{arith}
use lib.ListN.{get_or, set}
use Rattle.field.specs.Limits.{max_pieces}
use Rattle.part.specs.PartReq.{PartReq, none}
use Rattle.part.proofs.Sizes.{sum_small}
use Rattle.module.specs.Module.{FunctionHandle, BlockHandle, Module}
use Rattle.module.proofs.Knot.{knot-all}
use Rattle.context.specs.RequiredContext.{RequiredContext, merge_context, pieces}
use Rattle.walk.specs.State.{FunctionReq, State, Place, Out, went, Walk, ◌>>◌, with_context, with_functions, function_pieces, total_pieces, sum_of, count}
use Rattle.walk.specs.Marks.{add_marks, block_at, body_of, first_ray}
use Rattle.walk.specs.Statement.{FunctionWalk, BlockWalk, Frame, visit_statement, add_statements, step_block, no_block, add_block}
use Rattle.walk.specs.Function.{extend, walked, keep, join_total, add_total, entered, step_function, no_function, add_function}
use Rattle.walk.proofs.Counts.{own, count_held, record_pieces-extend}
use Rattle.walk.proofs.Ends.{Ends, ends, stops, Any, ends_weaker, ends_then, ends_next, ends_limited_context}
use Rattle.walk.proofs.Limits.{statement_counted}

-- at most n pieces of its own
abbrev pub Owns : {A : Type 0} → ℕ → Out A → Type 0
Owns n x = Ends Any (λ left a. own left ≤ n) x

statement_owns : (m : Module) (call : FunctionWalk) (block : BlockWalk) (fr : Frame) (st : State) → Owns max_pieces (visit_statement m call block fr st)
statement_owns m call block fr st =
    ends_weaker (statement_counted m call block fr st) (λ n t. t) (λ left r h. let e = count_held fr.held left in omega (arith, h))

statements_own : (n : ℕ) (visit_one : ℕ → Bool → Walk Bool) (first k : ℕ) (b r : Bool) (st : State) → max_pieces ≤ n → ((s : ℕ) (q : Bool) (u : State) → Owns max_pieces (visit_one s q u)) → own st ≤ n → Owns n (add_statements visit_one first k b r st)
unfolding add_statements
statements_own n visit_one first zero b r st l hv h = ends h
statements_own n visit_one first (suc k) b r st l hv h =
    ends_then (λ left q. add_statements visit_one first k (b || q) (r || q) left) (hv (first + k) b st)
    (λ left q few. statements_own n visit_one first k (b || q) (r || q) left l hv (omega (arith, few)))

-- a block, entered with at most n
pub block_owns : (m : Module) (call : FunctionWalk) (f : FunctionHandle) (b : BlockHandle) (n held : ℕ) (base : RequiredContext) (r : Bool) (st : State) → max_pieces ≤ n → own (with_context base st) ≤ n → Owns n (add_block m call f b held base r st)
unfolding add_block
block_owns m call f b n held base r st l h =
    knot-all (λ a w. (held : ℕ) (base : RequiredContext) (r : Bool) (st : State) → own (with_context base st) ≤ n → Owns n (w held base r st))
    (step_block m call f) no_block (λ a held base r st h. stops tt) step b held base r st h
  where
    step : (block : BlockWalk) (b : BlockHandle) → ((a : BlockHandle) (held : ℕ) (base : RequiredContext) (r : Bool) (st : State) → own (with_context base st) ≤ n → Owns n (block a held base r st)) → (held : ℕ) (base : RequiredContext) (r : Bool) (st : State) → own (with_context base st) ≤ n → Owns n (step_block m call f block b held base r st)
    step block b hb held base r st h =
        unfold step_block in
        statements_own n
        (λ s q. visit_statement m call block (record { function = f; statement = s; held = held + pieces base; base = base; break_required = q }))
        (block_at m f b).first (block_at m f b).count r false (with_context base st) l
        (λ s q u. statement_owns m call block (record { function = f; statement = s; held = held + pieces base; base = base; break_required = q }) u) h

-- contexts joined count for no more than both
pub pieces-merge : (c d : RequiredContext) → pieces (merge_context c d) ≤ pieces c + pieces d
unfolding pieces merge_context
pieces-merge c d =
    let a = (sum_small c.globals d.globals).few in
    let b = (sum_small c.locals d.locals).few in
    let e = (sum_small c.args d.args).few in
    let f = (sum_small c.retval d.retval).few in
    omega arith

-- a total put in, and one put in the place of another
total_put : (fs : List (Option FunctionReq)) (f : ℕ) (o : Option FunctionReq) → total_pieces (set fs f o) ≤ total_pieces fs + function_pieces o
unfolding total_pieces
total_put [] f o = omega arith
total_put (x ∷ fs) zero o = omega arith
total_put (x ∷ fs) (suc f) o = let ih = total_put fs f o in omega arith

total_replaced : (fs : List (Option FunctionReq)) (f : ℕ) (t : FunctionReq) (o : Option FunctionReq) → get_or fs f nothing ≡ some t → total_pieces (set fs f o) + function_pieces (some t) ≡ total_pieces fs + function_pieces o
unfolding total_pieces
total_replaced [] f t o e = absurd (none-ne-some t e)
total_replaced (x ∷ fs) zero t o e = rw e (omega arith)
total_replaced (x ∷ fs) (suc f) t o e = let ih = total_replaced fs f t o e in omega arith

-- what the walk of a function has left, within its own
walked-own : (st : State) → function_pieces (some (walked st)) ≤ own st
unfolding function_pieces count sum_of
walked-own st = omega arith

-- the totals changed by at most what the state owns
own-kept : (fs : List (Option FunctionReq)) (st : State) → total_pieces fs ≤ total_pieces st.functions + function_pieces (some (walked st)) → own (with_functions fs st) ≤ own st + own st
unfolding count sum_of
own-kept fs st h = let w = walked-own st in go w
  where
    go : function_pieces (some (walked st)) ≤ own st → own (with_functions fs st) ≤ own st + own st
    go w = omega arith

joined_pieces : (total : FunctionReq) (st : State) → function_pieces (some (record { marks = add_marks total.marks st.marks; context = merge_context total.context st.context; exprs = extend total.exprs st.exprs })) ≤ function_pieces (some total) + function_pieces (some (walked st))
unfolding function_pieces
joined_pieces total st =
    let a = record_pieces-extend total.exprs st.exprs in
    let b = pieces-merge total.context st.context in
    omega arith

join_owns : (f : FunctionHandle) (at : Place) (total : FunctionReq) (ray : Option ℕ) (n : ℕ) (st : State) → get_or st.functions f nothing ≡ some total → own st ≤ n → Owns (n + n) (join_total f at total ray st)
unfolding join_total
join_owns f at total (some s) n st there h = stops tt
join_owns f at total nothing n st there h =
    let context = merge_context total.context st.context in
    let joined : State → FunctionReq = λ left. record { marks = add_marks total.marks left.marks; context = context; exprs = extend total.exprs left.exprs } in
    ends_next {P = λ left u. own (keep f (joined left) left) ≤ n + n} (λ left. went (keep f (joined left) left) tt)
    (ends_weaker
    (ends_limited_context at context st
    (λ o.
    let same = total_replaced st.functions f total (some (joined st)) there in
    let few = joined_pieces total st in
    let grown = own-kept (set st.functions f (some (joined st))) st (omega (arith, same, few)) in
    omega (arith, grown)))
    (λ n t. tt) (λ left u few. few))
    (λ left hl. ends hl)

total_owns : (m : Module) (f : FunctionHandle) (at : Place) (o : Option FunctionReq) (n : ℕ) (st : State) → get_or st.functions f nothing ≡ o → own st ≤ n → Owns (n + n) (add_total m f at o st)
unfolding add_total
total_owns m f at nothing n st there h =
    let grown = own-kept (set st.functions f (some (walked st))) st (total_put st.functions f (some (walked st))) in
    let few : own (keep f (walked st) st) ≤ n + n = omega (arith, grown) in
    ends few
total_owns m f at (some total) n st there h = join_owns f at total (first_ray m f (body_of m f)) n st there h

-- a function, entered with at most n: its end at most doubles that
pub function_owns : (m : Module) (f : FunctionHandle) (at : Place) (n held : ℕ) (globals retval : PartReq) (st : State) → max_pieces ≤ n → own (entered m f (record { globals = globals; locals = none; args = none; retval = retval }) st) ≤ n → Owns (n + n) (add_function m f at held globals retval st)
unfolding add_function entered
function_owns m f at n held globals retval st l h =
    knot-all
    (λ g w. (at : Place) (held : ℕ) (globals retval : PartReq) (st : State) → own (entered m g (record { globals = globals; locals = none; args = none; retval = retval }) st) ≤ n → Owns (n + n) (w at held globals retval st))
    (step_function m) no_function (λ g at held globals retval st h. stops tt) step f at held globals retval st h
  where
    step : (call : FunctionWalk) (g : FunctionHandle) → ((a : FunctionHandle) (at : Place) (held : ℕ) (globals retval : PartReq) (st : State) → own (entered m a (record { globals = globals; locals = none; args = none; retval = retval }) st) ≤ n → Owns (n + n) (call a at held globals retval st)) → (at : Place) (held : ℕ) (globals retval : PartReq) (st : State) → own (entered m g (record { globals = globals; locals = none; args = none; retval = retval }) st) ≤ n → Owns (n + n) (step_function m call g at held globals retval st)
    step call g hc at held globals retval st h =
        unfold step_function in
        let base : RequiredContext = record { globals = globals; locals = none; args = none; retval = retval } in
        ends_then (λ ended r. add_total m g at (get_or ended.functions g nothing) ended >> λ left. went left r)
        (block_owns m call g (body_of m g) n held base false (entered m g base st) l h)
        (λ ended r few.
        ends_next (λ left. went left r) (total_owns m g at (get_or ended.functions g nothing) n ended refl few) (λ left hl. ends hl))
