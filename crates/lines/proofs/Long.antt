-- How long the lines can be: for each entry of a part twelve bytes, with the line of a variable or record nineteen; for each statement twenty-two, and four for each mark.
use Prim.Native.Nat.{ℕ, suc, ◌+◌, ◌-◌, ◌*◌, ◌/◌, ◌%◌, ◌<◌, ◌≤◌}
use mathlib.Core.Path.{◌≡◌, sym, ap, ◌∙◌}
use mathlib.Core.Logic.{⊎_elim}
use mathlib.Core.Bool.{Bool, true, false, cond}
use mathlib.Core.List.{List, [], ◌∷◌, ◌++◌}
use mathlib.Core.Option.{some, none as nothing}
use native.Mathlib.Nat.{eq-zero-or-pos}
use native.Mathlib.Omega.{arith}
use lib.Dec.{eqb}
use lib.ListN.{length, take, drop, length-append, take-append-drop}
use Rattle.part.specs.PartReq.{PartReq, all, exist, none, more, entries, spine}
use Rattle.part.specs.Limited.{Plain}
use Rattle.context.specs.RequiredContext.{RequiredContext, pieces}
use Rattle.module.specs.Module.{Module, FunctionHandle, Statement, Emit, Block, If, Switch, Loop, Break, Continue, Return, Kill, ControlBarrier, MemoryBarrier, ImageAtomic, Store, AtomicStatement, Call, ImageStore, RayQuery, WorkGroupUniformLoad, SubgroupBallot, SubgroupGather, SubgroupCollectiveOperation}
use Rattle.module.specs.Marks.{mark_count}
use Rattle.walk.specs.State.{Records, record_pieces}
use Rattle.walk.specs.Resolve.{function_at}
use Rattle.walk.specs.Requests.{Report}
use Rattle.walk.specs.Proper.{VariablesFrom, FineContext, FineRecords, EachRecord}
use Rattle.lines.specs.Text.{number, no_word, yes_word, required_text, global_word, arg_word, local_word, expr_word, stmt_word, text_from, part_text, line_text, variables_text, retval_word, retval_text, context_text, record_text, records_text, name_of, mark_text, marks_text, statement_text, statements_text, report_text}
use Rattle.lines.specs.Wrote.{longest}
use Rattle.lines.proofs.Numbers.{number-digit, number_more}

-- numbers below 65536 have at most five digits
number-one : (n : ℕ) → n < 10 → length (number n) ≤ 1
number-one n h = rw (number-digit n h) (omega arith)

number-next : (d k : ℕ) → ((n : ℕ) → n < d → length (number n) ≤ k) → 1 ≤ k → (n : ℕ) → n < 10 * d → length (number n) ≤ k + 1
number-next d k few one n h =
    ⊎_elim
    (λ l. let short = number-one n (omega arith) in omega arith)
    (λ l.
    let tenth = few (n / 10) (omega arith) in
    rw (number_more n (omega arith)) (omega (arith, length-append (number (n / 10)) ((48 + n % 10) ∷ []))))
    (eq-zero-or-pos (n - 9))

five_long : (n : ℕ) → n < 100000 → length (number n) ≤ 5
five_long =
    number-next 10000 4
    (number-next 1000 3 (number-next 100 2 (number-next 10 1 number-one (omega arith)) (omega arith)) (omega arith))
    (omega arith)

pub number-long : (n : ℕ) → n < spine → length (number n) ≤ 5
number-long n h = five_long n (omega arith)

-- those of 32 bits at most ten
pub ten_long : (n : ℕ) → n < longest → length (number n) ≤ 10
ten_long n h =
    number-next 1000000000 9
    (number-next 100000000 8 (number-next 10000000 7 (number-next 1000000 6 (number-next 100000 5 five_long (omega arith)) (omega arith)) (omega arith)) (omega arith))
    (omega arith)
    n
    (omega arith)

-- a requirement, as a whole and behind an entry
part_long : (p : PartReq) → Plain p → (length (text_from p true) ≤ 5 + 12 * entries p) × (length (text_from p false) ≤ 1 + 12 * entries p)
unfolding text_from entries
part_long all h = (omega arith, omega arith)
part_long exist h = (omega arith, omega arith)
part_long none h = (omega arith, omega arith)
part_long (more i p r) h =
    let child = part_long p h.1.0 in
    let rest = part_long r h.1.1 in
    let index = number-long i (omega (arith, h.0)) in
    let inner = length-append (number i) ((58 ∷ []) ++ (text_from p true ++ text_from r false)) in
    let both = length-append (text_from p true) (text_from r false) in
    (omega (arith, child.0, rest.1), omega (arith, child.0, rest.1))

line_long : (word : List ℕ) (n : ℕ) (p : PartReq) → n < spine → Plain p → length (line_text word n p) ≤ length word + 12 + 12 * entries p
line_long word n p h plain =
    let part = (part_long p plain).0 in
    let digits = number-long n h in
    omega (arith, length-append word (number n ++ ((32 ∷ []) ++ (part_text p ++ (10 ∷ [])))), length-append (number n) ((32 ∷ []) ++ (part_text p ++ (10 ∷ []))), length-append (part_text p) (10 ∷ []))

-- the lines of a context
variables_long : (word : List ℕ) (n k : ℕ) (q : PartReq) → length word ≤ 7 → n ≤ spine → VariablesFrom n k q → length (variables_text word q) ≤ 19 * entries q
unfolding variables_text entries
variables_long word n k all w few h = omega arith
variables_long word n k exist w few h = omega arith
variables_long word n k none w few h = omega arith
variables_long word n k (more i p r) w few h =
    let high = h.1 in
    let line = line_long word (i - spine) p (omega arith) h.2.plain in
    let rest = variables_long word n (suc i) r w few h.3 in
    omega (arith, length-append (line_text word (i - spine) p) (variables_text word r))

retval_long : (n k : ℕ) (q : PartReq) → VariablesFrom n k q → length (retval_text q) ≤ 19 * entries q
unfolding retval_text entries
retval_long n k all h = omega arith
retval_long n k exist h = omega arith
retval_long n k none h = omega arith
retval_long n k (more i p r) h =
    let part = (part_long p h.2.plain).0 in
    omega (arith, length-append retval_word (part_text p ++ (10 ∷ [])), length-append (part_text p) (10 ∷ []))

context_long : (m : Module) (f : FunctionHandle) (c : RequiredContext) → FineContext m f c → length m.globals ≤ spine → length (function_at m f).arguments ≤ spine → length (function_at m f).locals ≤ spine → length (context_text c) ≤ 19 * pieces c
unfolding context_text pieces
context_long m f c fine g a l =
    let globals = variables_long global_word _ _ c.globals (omega arith) g fine.globals in
    let retval = retval_long 1 spine c.retval fine.retval in
    let args = variables_long arg_word _ _ c.args (omega arith) a fine.args in
    let locals = variables_long local_word _ _ c.locals (omega arith) l fine.locals in
    let first = length-append (variables_text global_word c.globals) (retval_text c.retval ++ (variables_text arg_word c.args ++ variables_text local_word c.locals)) in
    let second = length-append (retval_text c.retval) (variables_text arg_word c.args ++ variables_text local_word c.locals) in
    let third = length-append (variables_text arg_word c.args) (variables_text local_word c.locals) in
    omega (arith, first, second, third, globals, retval, args, locals)

-- those of records
records_long : (k : ℕ) (es : Records) → EachRecord es → k + length es ≤ spine → length (records_text k es) ≤ 19 * record_pieces es
unfolding records_text record_text record_pieces
records_long k [] each few = omega arith
records_long k (nothing ∷ es) each few = let rest = records_long (suc k) es each.1 (omega arith) in omega arith
records_long k (some p ∷ es) each few =
    let line = line_long expr_word k p (omega arith) each.0.plain in
    let rest = records_long (suc k) es each.1 (omega arith) in
    omega (arith, length-append (line_text expr_word k p) (records_text (suc k) es))

-- those of statements
name_long : (s : Statement) → length (name_of s) ≤ 10
unfolding name_of
name_long (Emit first last) = omega arith
name_long (Block b) = omega arith
name_long (If condition accept reject) = omega arith
name_long (Switch selector cases) = omega arith
name_long (Loop body continuing break_if) = omega arith
name_long Break = omega arith
name_long Continue = omega arith
name_long (Return value) = omega arith
name_long Kill = omega arith
name_long ControlBarrier = omega arith
name_long MemoryBarrier = omega arith
name_long ImageAtomic = omega arith
name_long (Store pointer value) = omega arith
name_long (AtomicStatement pointer value result) = omega arith
name_long (Call function arguments result) = omega arith
name_long (ImageStore image coordinate array_index value) = omega arith
name_long (RayQuery query) = omega arith
name_long (WorkGroupUniformLoad pointer result) = omega arith
name_long (SubgroupBallot result predicate) = omega arith
name_long (SubgroupGather mode argument result) = omega arith
name_long (SubgroupCollectiveOperation argument result) = omega arith

word_long : (b : Bool) → length (cond b no_word yes_word) ≤ 4
word_long true = omega arith
word_long false = omega arith

marks_long : (ms : List ℕ) → length (marks_text ms) ≤ 4 * length ms
unfolding marks_text mark_text
marks_long [] = omega arith
marks_long (b ∷ ms) = omega (arith, length-append (mark_text b) (marks_text ms), word_long (eqb b 0), marks_long ms)

statement_long : (n : ℕ) (s : Statement) (ms : List ℕ) → n < spine → length (statement_text n s ms) ≤ 22 + 4 * length (take (mark_count s) ms)
statement_long n s ms h =
    let marks = marks_text (take (mark_count s) ms) in
    let first = length-append stmt_word (number n ++ ((32 ∷ []) ++ (name_of s ++ (marks ++ (10 ∷ []))))) in
    let second = length-append (number n) ((32 ∷ []) ++ (name_of s ++ (marks ++ (10 ∷ [])))) in
    let third = length-append (name_of s) (marks ++ (10 ∷ [])) in
    let fourth = length-append marks (10 ∷ []) in
    omega (arith, first, second, third, fourth, number-long n h, name_long s, marks_long (take (mark_count s) ms))

statements_long : (k : ℕ) (ss : List Statement) (ms : List ℕ) → k + length ss ≤ spine → length (statements_text k ss ms) ≤ 22 * length ss + 4 * length ms
unfolding statements_text
statements_long k [] ms few = omega arith
statements_long k (s ∷ ss) ms few =
    let own = take (mark_count s) ms in
    let others = drop (mark_count s) ms in
    let both : length own + length others ≡ length ms = sym (length-append own others) ∙ ap length (take-append-drop (mark_count s) ms) in
    let line = statement_long k s ms (omega arith) in
    let rest = statements_long (suc k) ss others (omega arith) in
    omega (arith, length-append (statement_text k s ms) (statements_text (suc k) ss others), both, line, rest)

required_long : (b : Bool) → length (required_text b) ≤ 13
unfolding required_text
required_long true = omega arith
required_long false = omega arith

-- the report on f, where the function's own numbers are few
pub record FewOwn (m : Module) (f : FunctionHandle) : Type 0 where
  pub globals : length m.globals ≤ spine
  pub arguments : length (function_at m f).arguments ≤ spine
  pub locals : length (function_at m f).locals ≤ spine
  pub expressions : length (function_at m f).expressions ≤ spine
  pub statements : length (function_at m f).statements ≤ spine

pub report_long : (m : Module) (f : FunctionHandle) (report : Report) → FewOwn m f → FineContext m f report.context → FineRecords m f report.exprs
    → length (report_text m f report) ≤ 13 + 19 * (pieces report.context + record_pieces report.exprs) + 22 * length (function_at m f).statements + 4 * length report.marks
unfolding report_text
report_long m f report few fine exprs =
    let required = required_text report.required in
    let context = context_text report.context in
    let records = records_text 0 report.exprs in
    let statements = statements_text 0 (function_at m f).statements report.marks in
    let a = required_long report.required in
    let b = context_long m f report.context fine few.globals few.arguments few.locals in
    let c = records_long 0 report.exprs exprs.each (omega (arith, exprs.long, few.expressions)) in
    let d = statements_long 0 (function_at m f).statements report.marks (omega (arith, few.statements)) in
    omega (arith, length-append required (context ++ (records ++ statements)), length-append context (records ++ statements), length-append records statements, a, b, c, d)
