-- Every walk keeps a state proper: the properties of specs/Proper, change by change.
use mathlib.Core.Path.{◌≡◌, refl, sym, ap, subst, ◌∙◌}
use mathlib.Core.Bool.{Bool, true, false, ◌||◌}
use mathlib.Core.List.{List, [], ◌∷◌}
use mathlib.Core.Option.{Option, some, none as nothing, some-injective, none-ne-some}
use Prim.Native.Nat.{ℕ, zero, suc, ◌≤◌}
use native.Mathlib.Omega.{arith}
use lib.ListN.{length, get_or, set, replicate, length-set, length-replicate}
use Rattle.part.specs.PartReq.{PartReq, none, more, Subpart, gone, there, get_subpart, over, spine}
use Rattle.part.proofs.Equations.{never}
use Rattle.module.specs.Module.{ExpressionHandle, FunctionHandle, Module}
use Rattle.context.specs.RequiredContext.{RequiredContext, merge_context, variable, over_context, VarRef, Global, Local, RemovedContext, left_context, panic_context, alter, remove_var, return_entry}
use Rattle.context.specs.Remove.{Removed, left, panic, remove}
use Rattle.context.proofs.Removal.{Left}
use Rattle.walk.specs.State.{Records, FunctionReq}
use Rattle.walk.specs.Resolve.{function_at, store_required}
use Rattle.walk.specs.StatementReq.{StatementReq, mark, marks_of, own_marks}
use Rattle.walk.specs.Marks.{stretch, write_marks, add_mark, add_marks}
use Rattle.walk.specs.Statement.{retval_of}
use Rattle.walk.specs.Function.{latest, extend}
use Rattle.walk.specs.Proper.{Sound, Fine, Variables, FineContext, FineRecord, EachRecord, FineRecords, EachMark, FineMarks, FineFunction, FineTotals, FineVisits, ProperState, FinePruner, FineRequest, EachRequest}
use Rattle.walk.specs.State.{State, went}
use Rattle.walk.specs.Expression.{add_expression}
use Rattle.request.specs.Request.{Request}
use Rattle.walk.specs.Requests.{Pruner, fresh, walk_request, requests}
use Rattle.walk.proofs.Ends.{ended}
use Rattle.walk.proofs.Keeps.{Needs, Kept, Good, expression_keeps}
use Rattle.walk.proofs.Functions.{Asking, AskingAll, walk_keeps, requests-keep}
use Rattle.walk.proofs.Parts.{fine_all, fine_exist, fine_entries, fine_index, fine_swizzled, fine_removed, check_fine, variables_add, variables_one, variables_subpart, variables_insert, variables_alter}

-- records
each_set : (es : Records) (e : ℕ) (p : PartReq) → EachRecord es → Fine p → EachRecord (set es e (some p))
each_set [] e p h q = tt
each_set (o ∷ es) zero p h q = (q, h.1)
each_set (o ∷ es) (suc e) p h q = (h.0, each_set es e p h.1 q)

record_need : (es : Records) (e : ℕ) → EachRecord es → FineRecord (get_or es e nothing)
record_need [] e h = tt
record_need (o ∷ es) zero h = h.0
record_need (o ∷ es) (suc e) h = record_need es e h.1

each_fresh : (n : ℕ) → EachRecord (replicate n nothing)
each_fresh zero = tt
each_fresh (suc n) = (tt, each_fresh n)

latest-fine : (old new : Option PartReq) → FineRecord old → FineRecord new → FineRecord (latest old new)
unfolding latest
latest-fine old nothing h g = h
latest-fine old (some p) h g = g

each_extend : (es news : Records) → EachRecord es → EachRecord news → EachRecord (extend es news)
unfolding extend
each_extend [] news h g = tt
each_extend (o ∷ es) [] h g = h
each_extend (o ∷ es) (n ∷ news) h g = (latest-fine o n h.0 g.0, each_extend es news h.1 g.1)

length-extend : (es news : Records) → length (extend es news) ≡ length es
unfolding extend
length-extend [] news = refl
length-extend (o ∷ es) [] = refl
length-extend (o ∷ es) (n ∷ news) = ap suc (length-extend es news)

-- marks
each_mark_set : (ms : List ℕ) (i b : ℕ) → EachMark ms → b ≤ 1 → EachMark (set ms i b)
each_mark_set [] i b h l = tt
each_mark_set (x ∷ ms) zero b h l = (l, h.1)
each_mark_set (x ∷ ms) (suc i) b h l = (h.0, each_mark_set ms i b h.1 l)

each_written : (ms : List ℕ) (from : ℕ) (bs : List ℕ) → EachMark ms → EachMark bs → EachMark (write_marks ms from bs)
unfolding write_marks
each_written ms from [] h g = h
each_written ms from (b ∷ bs) h g = each_written (set ms from b) (suc from) bs (each_mark_set ms from b h g.0) g.1

length-written : (ms : List ℕ) (from : ℕ) (bs : List ℕ) → length (write_marks ms from bs) ≡ length ms
unfolding write_marks
length-written ms from [] = refl
length-written ms from (b ∷ bs) = length-written (set ms from b) (suc from) bs ∙ length-set ms from b

mark-bit : (b : Bool) → mark b ≤ 1
unfolding mark
mark-bit true = omega arith
mark-bit false = omega arith

marks_bits : (bs : List Bool) → EachMark (marks_of bs)
unfolding marks_of
marks_bits [] = tt
marks_bits (b ∷ bs) = (mark-bit b, marks_bits bs)

own_bits : (r : StatementReq) → EachMark (own_marks r)
unfolding own_marks
own_bits (StatementReq.Emit vr) = marks_bits vr
own_bits (StatementReq.BlockStmt b) = tt
own_bits (StatementReq.If b) = (mark-bit b, tt)
own_bits (StatementReq.Switch b) = (mark-bit b, tt)
own_bits (StatementReq.Loop b) = (mark-bit b, tt)
own_bits (StatementReq.Break b) = (mark-bit b, tt)
own_bits (StatementReq.Continue b) = (mark-bit b, tt)
own_bits (StatementReq.Return b) = (mark-bit b, tt)
own_bits StatementReq.Kill = tt
own_bits StatementReq.Barrier = tt
own_bits (StatementReq.Store b) = (mark-bit b, tt)
own_bits (StatementReq.ImageStore b) = (mark-bit b, tt)
own_bits (StatementReq.Atomic b) = (mark-bit b, tt)
own_bits (StatementReq.Call b c) = (mark-bit b, (mark-bit c, tt))
own_bits (StatementReq.RayQuery b) = (mark-bit b, tt)

each_zero : (n : ℕ) → EachMark (replicate n 0)
each_zero zero = tt
each_zero (suc n) = (omega arith, each_zero n)

add_mark-bit : (a b : ℕ) → b ≤ 1 → add_mark a b ≤ 1
unfolding add_mark
add_mark-bit zero b h = h
add_mark-bit (suc a) b h = omega arith

each_added : (xs ys : List ℕ) → EachMark ys → EachMark (add_marks xs ys)
unfolding add_marks
each_added [] ys h = tt
each_added (x ∷ xs) [] h = tt
each_added (x ∷ xs) (y ∷ ys) h = (add_mark-bit x y h.0, each_added xs ys h.1)

length-added : (xs ys : List ℕ) → length xs ≡ length ys → length (add_marks xs ys) ≡ length xs
unfolding add_marks
length-added [] ys e = refl
length-added (x ∷ xs) [] e = absurd (omega arith)
length-added (x ∷ xs) (y ∷ ys) e = let l : length xs ≡ length ys = omega arith in ap suc (length-added xs ys l)

-- contexts
neither : (x y : Bool) → (x || y) ≡ false → (x ≡ false) × (y ≡ false)
neither true y h = never (sym h)
neither false y h = (refl, h)

-- a context within the limits, map by map
record Within (c : RequiredContext) : Type 0 where
  globals : over c.globals ≡ false
  locals : over c.locals ≡ false
  args : over c.args ≡ false
  retval : over c.retval ≡ false

within : (c : RequiredContext) → over_context c ≡ false → Within c
unfolding over_context
within c h =
    let a = neither (over c.globals || over c.locals || over c.args) (over c.retval) h in
    let b = neither (over c.globals || over c.locals) (over c.args) a.0 in
    let d = neither (over c.globals) (over c.locals) b.0 in
    record { globals = d.0; locals = d.1; args = b.1; retval = a.1 }

merged_fine : (m : Module) (f : FunctionHandle) (c d : RequiredContext) → FineContext m f c → FineContext m f d → over_context (merge_context c d) ≡ false → FineContext m f (merge_context c d)
unfolding merge_context
merged_fine m f c d h g o =
    let w = within (merge_context c d) o in
    record {
      globals = variables_add (length m.globals) c.globals d.globals h.globals g.globals w.globals;
      locals = variables_add (length (function_at m f).locals) c.locals d.locals h.locals g.locals w.locals;
      args = variables_add (length (function_at m f).arguments) c.args d.args h.args g.args w.args;
      retval = variables_add 1 c.retval d.retval h.retval g.retval w.retval;
    }

store_fine : (m : Module) (f : FunctionHandle) (c : RequiredContext) (var : VarRef) (part : PartReq) → FineContext m f c → Needs Fine (store_required c var part)
unfolding store_required
store_fine m f c (Global g) part h =
    check_fine part (get_subpart c.globals (variable g)) (variables_subpart (length m.globals) spine (variable g) c.globals h.globals)
store_fine m f c (Local l) part h =
    check_fine part (get_subpart c.locals (variable l)) (variables_subpart (length (function_at m f).locals) spine (variable l) c.locals h.locals)

retval_fine : (need : Subpart) → Needs Fine need → Variables 1 (retval_of need)
unfolding retval_of
retval_fine gone h = tt
retval_fine (there p) h = variables_one 1 0 p (omega arith) h

-- what is left of a context, where something is
abbrev LeftContext : (RequiredContext → Type 0) → RemovedContext → Type 0
LeftContext P (left_context c) = P c
LeftContext P panic_context = Unit {0}

globals_left : (m : Module) (f : FunctionHandle) (c : RequiredContext) (x : Removed) → FineContext m f c → Left (λ q. over q ≡ false → Variables (length m.globals) q) x → LeftContext (λ d. over_context d ≡ false → FineContext m f d) (Rattle.context.specs.RequiredContext.with_globals c x)
unfolding Rattle.context.specs.RequiredContext.with_globals
globals_left m f c (left p) h l = λ o. record { globals = l (within _ o).globals; locals = h.locals; args = h.args; retval = h.retval }
globals_left m f c panic h l = tt

locals-left : (m : Module) (f : FunctionHandle) (c : RequiredContext) (x : Removed) → FineContext m f c → Left (λ q. over q ≡ false → Variables (length (function_at m f).locals) q) x → LeftContext (λ d. over_context d ≡ false → FineContext m f d) (Rattle.context.specs.RequiredContext.with_locals c x)
unfolding Rattle.context.specs.RequiredContext.with_locals
locals-left m f c (left p) h l = λ o. record { globals = h.globals; locals = l (within _ o).locals; args = h.args; retval = h.retval }
locals-left m f c panic h l = tt

taken_fine : (m : Module) → Sound m → (f : FunctionHandle) (c : RequiredContext) (var : VarRef) (part : PartReq) → FineContext m f c → LeftContext (λ d. over_context d ≡ false → FineContext m f d) (remove_var m (function_at m f) c var part)
unfolding remove_var
taken_fine m s f c (Global g) part h =
    let t = some (get_or m.globals g 0) in
    globals_left m f c (alter (variable g) (λ p. remove m.types p part t) c.globals) h
    (variables_alter (length m.globals) spine (variable g) (λ p. remove m.types p part t) c.globals
    (λ p q fine e o. fine_removed m.types s.parts p part t q e fine o) h.globals)
taken_fine m s f c (Local l) part h =
    let t = some (get_or (function_at m f).locals l 0) in
    locals-left m f c (alter (variable l) (λ p. remove m.types p part t) c.locals) h
    (variables_alter (length (function_at m f).locals) spine (variable l) (λ p. remove m.types p part t) c.locals
    (λ p q fine e o. fine_removed m.types s.parts p part t q e fine o) h.locals)

-- totals
each-total : (P : FunctionHandle → FunctionReq → Type 0) (fs : List (Option FunctionReq)) (f : FunctionHandle) (x : FunctionReq) → ((g : FunctionHandle) (t : FunctionReq) → get_or fs g nothing ≡ some t → P g t) → P f x → (g : FunctionHandle) (t : FunctionReq) → get_or (set fs f (some x)) g nothing ≡ some t → P g t
each-total P [] f x h hx g t e = h g t e
each-total P (o ∷ fs) zero x h hx zero t e = subst (P 0) (some-injective x t e) hx
each-total P (o ∷ fs) zero x h hx (suc g) t e = h (suc g) t e
each-total P (o ∷ fs) (suc f) x h hx zero t e = h zero t e
each-total P (o ∷ fs) (suc f) x h hx (suc g) t e = each-total (λ a. P (suc a)) fs f x (λ a. h (suc a)) hx g t e

total_fine : (m : Module) (fs : List (Option FunctionReq)) (f : FunctionHandle) (x : FunctionReq) → FineTotals m fs → FineFunction m f x → FineTotals m (set fs f (some x))
total_fine m fs f x h hx =
    record { long = length-set fs f (some x) ∙ h.long; each = each-total (FineFunction m) fs f x h.each hx }

-- the properties, and that each change keeps them; v is a count of visits that no walk falls below
pub proper : (m : Module) → Sound m → (v : ℕ) → Kept m
proper m s v = record {
  Asked = Fine;
  Context = FineContext m;
  Exprs = FineRecords m;
  Marks = FineMarks m;
  Globals = Variables (length m.globals);
  Functions = FineTotals m;
  Visits = FineVisits v;
  all_asked = fine_all;
  exist_asked = fine_exist;
  index_asked = λ f e base i p is h o. fine_index i p (s.index f e base i is) h o;
  swizzle_asked = λ f e vector pattern p q is h picked o. fine_swizzled pattern p q (λ k. s.letter f e vector pattern k is) h picked o;
  entries_asked = fine_entries;
  visits_more = λ n h l. record { more = omega (arith, h.more); few = l };
  exprs_set = λ f es e p h q. record { long = length-set es e (some p) ∙ h.long; each = each_set es e p h.each q };
  exprs_need = λ f es e p h is. subst FineRecord is (record_need es e h.each);
  argument_joined = λ f e c i p is h q o. record {
    globals = h.globals;
    locals = h.locals;
    args = variables_add (length (function_at m f).arguments) c.args (more (variable i) p none) h.args (variables_one (length (function_at m f).arguments) i p (s.argument f e i is) q) o;
    retval = h.retval;
  };
  local_joined = λ f e c l p is h q o. record {
    globals = h.globals;
    locals = variables_add (length (function_at m f).locals) c.locals (more (variable l) p none) h.locals (variables_one (length (function_at m f).locals) l p (s.local f e l is) q) o;
    args = h.args;
    retval = h.retval;
  };
  global_put = λ f e c g p is h q. record {
    globals = variables_insert (length m.globals) spine g p c.globals h.globals (omega arith) (s.global f e g is) q;
    locals = h.locals;
    args = h.args;
    retval = h.retval;
  };
  total_put = λ f e gs g p is h q. variables_insert (length m.globals) spine g p gs h (omega arith) (s.global f e g is) q;
  total_joined = λ f e gs g p is h q o. variables_add (length m.globals) gs (more (variable g) p none) h (variables_one (length m.globals) g p (s.global f e g is) q) o;
  context_merged = merged_fine m;
  retval_need = λ f c h. variables_subpart 1 spine (variable 0) c.retval h.retval;
  args_need = λ f c i h. variables_subpart (length (function_at m f).arguments) spine (variable i) c.args h.args;
  store_need = store_fine m;
  context_taken = λ f e c d var part h path is o. taken f c d var part h is o;
  context_called = λ f g c need h q. record { globals = h.globals; locals = tt; args = tt; retval = retval_fine need q };
  marks_written = λ f ms from r h. record { long = length-written ms from (own_marks r) ∙ h.long; each = each_written ms from (own_marks r) h.each (own_bits r) };
  exprs_fresh = λ f. record { long = length-replicate (length (function_at m f).expressions) nothing; each = each_fresh (length (function_at m f).expressions) };
  marks_fresh = λ f. record { long = length-replicate (stretch m f) 0; each = each_zero (stretch m f) };
  total_kept = λ fs f ms c es h hm hc he. total_fine m fs f (record { marks = ms; context = c; exprs = es }) h (record { marks = hm; context = hc; exprs = he });
  total_extended = λ fs f total ms c es h is hm hc he o.
      let old = h.each f total is in
      total_fine m fs f (record { marks = add_marks total.marks ms; context = merge_context total.context c; exprs = extend total.exprs es }) h
      (record {
        marks = record { long = length-added total.marks ms (old.marks.long ∙ sym hm.long) ∙ old.marks.long; each = each_added total.marks ms hm.each };
        context = merged_fine m f total.context c old.context hc o;
        exprs = record { long = length-extend total.exprs es ∙ old.exprs.long; each = each_extend total.exprs es old.exprs.each he.each };
      });
}
  where
    taken : (f : FunctionHandle) (c d : RequiredContext) (var : VarRef) (part : PartReq) → FineContext m f c → remove_var m (function_at m f) c var part ≡ left_context d → over_context d ≡ false → FineContext m f d
    taken f c d var part h is o = (subst (LeftContext (λ d. over_context d ≡ false → FineContext m f d)) is (taken_fine m s f c var part h)) o

-- a proper state has the properties, and the other way round
pub good : (m : Module) (s : Sound m) (v : ℕ) (f : FunctionHandle) (st : State) → ProperState m v f st → Good (proper m s v) f st
unfolding proper
good m s v f st h =
    record { context = h.context; exprs = h.exprs; marks = h.marks; globals = h.globals; functions = h.functions; visits = h.visits }

pub state : (m : Module) (s : Sound m) (v : ℕ) (f : FunctionHandle) (st : State) → Good (proper m s v) f st → ProperState m v f st
unfolding proper
state m s v f st h =
    record { context = h.context; exprs = h.exprs; marks = h.marks; globals = h.globals; functions = h.functions; visits = h.visits }

-- the same of a part and of a context by itself
module _ (m : Module) (s : Sound m) (v : ℕ) where
  pub asked_fine : (p : PartReq) → (proper m s v).Asked p → Fine p
  unfolding proper
  asked_fine p h = h

  pub fine_context : (f : FunctionHandle) (c : RequiredContext) → FineContext m f c → (proper m s v).Context f c
  unfolding proper
  fine_context f c h = h

  pub context_fine : (f : FunctionHandle) (c : RequiredContext) → (proper m s v).Context f c → FineContext m f c
  unfolding proper
  context_fine f c h = h

-- The walk of an expression leaves a proper state; visits never fall.
pub expression_proper : (m : Module) → Sound m → (f : FunctionHandle) (held v : ℕ) (e : ExpressionHandle) (p : PartReq) (st final : State) (u : Unit {0}) → Fine p → ProperState m v f st → add_expression m f held e p st ≡ went final u → ProperState m v f final
unfolding proper
expression_proper m s f held v e p st final u q h is =
    state m s v f final (ended (expression_keeps (proper m s v) f held e p st q (good m s v f st h)) is)

-- requests
no_total : {A : Type 0} (n f : ℕ) (t : FunctionReq) → get_or (replicate n nothing) f nothing ≡ some t → A
no_total zero f t e = absurd (none-ne-some t e)
no_total (suc n) zero t e = absurd (none-ne-some t e)
no_total (suc n) (suc f) t e = no_total n f t e

-- a fresh pruner is fine
pub fresh-fine : (m : Module) → FinePruner m (fresh m)
unfolding fresh
fresh-fine m =
    record {
      globals = tt;
      functions = record { long = length-replicate (length m.functions) nothing; each = λ f t e. no_total (length m.functions) f t e };
    }

pub retval_asked : (o : Option PartReq) → FineRecord o → Variables 1 (return_entry o)
unfolding return_entry
retval_asked nothing h = tt
retval_asked (some p) h = variables_one 1 0 p (omega arith) h

asking : (m : Module) (s : Sound m) (q : Request) → FineRequest m q → Asking (proper m s 0) q
unfolding proper
asking m s q h = record { globals = h.globals; locals = tt; args = tt; retval = retval_asked q.retval h.retval }

asking-all : (m : Module) (s : Sound m) (qs : List Request) → EachRequest m qs → AskingAll (proper m s 0) qs
asking-all m s [] h = tt
asking-all m s (q ∷ qs) h = (asking m s q h.0, asking-all m s qs h.1)

no_visits : FineVisits 0 0
no_visits = record { more = omega arith; few = omega arith }

-- The state in which a request ends is proper.
pub walk_proper : (m : Module) → Sound m → (pruner : Pruner) (q : Request) (st : State) (r : Bool) → FinePruner m pruner → FineRequest m q → walk_request m pruner q ≡ went st r → ProperState m 0 q.function st
unfolding proper
walk_proper m s pruner q st r h hq e =
    state m s 0 q.function st
    (ended (walk_keeps (proper m s 0) pruner q no_visits (record { globals = h.globals; functions = h.functions }) (asking m s q hq)) e)

-- Any list of requests leaves fine totals.
pub requests-fine : (m : Module) → Sound m → (pruner : Pruner) (qs : List Request) → FinePruner m pruner → EachRequest m qs → FinePruner m (requests m pruner qs).1
unfolding proper
requests-fine m s pruner qs h hq =
    let kept = requests-keep (proper m s 0) pruner qs no_visits (record { globals = h.globals; functions = h.functions }) (asking-all m s qs hq) in
    record { globals = kept.globals; functions = kept.functions }
