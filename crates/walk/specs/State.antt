-- What a walk changes, what it gives, and what it counts.
use Rattle.std.specs.Prelude.{ℕ, suc, ◌+◌, Bool, true, false, cond, List, [], ◌∷◌, ltb}
use Rattle.std.proofs.Math.Option.{Option, some, none as nothing}
use Rattle.field.specs.Limits.{max_pieces, max_visits}
use Rattle.part.specs.PartReq.{PartReq, entries, over}
use Rattle.module.specs.Module.{FunctionHandle, ExpressionHandle}
use Rattle.context.specs.RequiredContext.{RequiredContext, pieces, over_context}

-- the records of a function, by expression: the last part that was asked of it, if any was
abbrev pub Records : Type 0
Records = List (Option PartReq)

-- `FunctionReq`: what is kept of a walk of a function. Its marks stand by statement, in the order of the report buffer, 0 or 1 each; the context is
-- that of its body.
pub record FunctionReq : Type 0 where
  pub marks : List ℕ
  pub context : RequiredContext
  pub exprs : Records

-- The open function's current context, records and marks; the pruner's totals of globals and of each function; and the visits so far.
pub record State : Type 0 where
  pub context : RequiredContext
  pub exprs : Records
  pub marks : List ℕ
  pub globals : PartReq
  pub functions : List (Option FunctionReq)
  pub visits : ℕ

-- Where a refusal falls: at the innermost open visit, or at none. 17 names the visit that does not begin.
pub data Place : Type 0 where
  at_expression : FunctionHandle → ExpressionHandle → Place
  at_statement : FunctionHandle → (statement : ℕ) → Place
  nowhere : Place

-- a state with an answer, or a refusal with 01's number and its place
pub data Out (A : Type 0) : Type 0 where
  went : State → A → Out A
  halt : ℕ → Place → Out A

abbrev pub Walk : Type 0 → Type 0
Walk A = State → Out A

abbrev pub ◌>>=◌ : {A B : Type 0} → Out A → (State → A → Out B) → Out B
◌>>=◌ (went st a) k = k st a
◌>>=◌ (halt n at) k = halt n at

infixl 20 ◌>>=◌
-- the next walk, where the first has no answer of its own
abbrev pub ◌>>◌ : {B : Type 0} → Out (Unit {0}) → Walk B → Out B
◌>>◌ (went st a) k = k st
◌>>◌ (halt n at) k = halt n at

infixl 20 ◌>>◌
abbrev pub with_context : RequiredContext → State → State
with_context c st =
    record { context = c; exprs = st.exprs; marks = st.marks; globals = st.globals; functions = st.functions; visits = st.visits }

abbrev pub with_exprs : Records → State → State
with_exprs es st =
    record { context = st.context; exprs = es; marks = st.marks; globals = st.globals; functions = st.functions; visits = st.visits }

abbrev pub with_marks : List ℕ → State → State
with_marks ms st =
    record { context = st.context; exprs = st.exprs; marks = ms; globals = st.globals; functions = st.functions; visits = st.visits }

abbrev pub with_globals : PartReq → State → State
with_globals gs st =
    record { context = st.context; exprs = st.exprs; marks = st.marks; globals = gs; functions = st.functions; visits = st.visits }

abbrev pub with_functions : List (Option FunctionReq) → State → State
with_functions fs st =
    record { context = st.context; exprs = st.exprs; marks = st.marks; globals = st.globals; functions = fs; visits = st.visits }

abbrev pub visited : State → State
visited st =
    record { context = st.context; exprs = st.exprs; marks = st.marks; globals = st.globals; functions = st.functions; visits = suc st.visits }

-- one for each record, and its part's entries
unfoldable pub record_pieces : Records → ℕ
record_pieces [] = 0
record_pieces (nothing ∷ es) = record_pieces es
record_pieces (some p ∷ es) = suc (entries p) + record_pieces es

unfoldable pub function_pieces : Option FunctionReq → ℕ
function_pieces nothing = 0
function_pieces (some f) = record_pieces f.exprs + pieces f.context

unfoldable pub total_pieces : List (Option FunctionReq) → ℕ
total_pieces [] = 0
total_pieces (f ∷ fs) = function_pieces f + total_pieces fs

-- what a state counts for beside its context: the open function's records and all totals
unfoldable pub sum_of : State → ℕ
sum_of st = record_pieces st.exprs + (entries st.globals + total_pieces st.functions)

-- What 16 counts: 01's pieces. `held` is what the frames outside hold: the base and current contexts of open blocks but the current context of
-- the innermost, contexts that wait to be joined or compared, and the records of callers.
unfoldable pub count : (held : ℕ) → State → ℕ
count held st = held + (pieces st.context + sum_of st)

-- 16
unfoldable pub counted : (held : ℕ) → Place → Walk (Unit {0})
counted held here st = cond (ltb max_pieces (count held st)) (halt 16 here) (went st tt)

-- 15, of what is formed
unfoldable pub limited : Place → PartReq → Walk (Unit {0})
limited here p st = cond (over p) (halt 15 here) (went st tt)

unfoldable pub limited_context : Place → RequiredContext → Walk (Unit {0})
limited_context here c st = cond (over_context c) (halt 15 here) (went st tt)

-- a visit that the limit of visits allows, and one that it does not
unfoldable pub visit_when : {A : Type 0} → Bool → (held : ℕ) → Place → Walk A → Walk A
visit_when true held here arm st =
    counted held here (visited st) >> arm >>= λ ended a. counted held here ended >> λ left. went left a
visit_when false held here arm st = halt 17 here

-- A visit: 17 before it is counted, then 16, then the arm, and 16 again as it ends.
abbrev pub visit : {A : Type 0} → (held : ℕ) → Place → Walk A → Walk A
visit held here arm st = visit_when (ltb st.visits max_visits) held here arm st
