-- The lines that the program `report` prints, as bytes: those for an accepted request, all but the last, `check`; and the one for a refusal.
use Rattle.std.specs.Prelude.{ℕ, suc, ◌+◌, ◌-◌, ◌/◌, ◌%◌, Bool, true, false, cond, List, [], ◌∷◌, ◌++◌, ltb, eqb, get_or, take, drop}
use Rattle.std.proofs.Math.Option.{Option, some, none as nothing}
use Rattle.part.specs.PartReq.{PartReq, all, exist, none, more, spine}
use Rattle.context.specs.RequiredContext.{RequiredContext}
use Rattle.module.specs.Knot.{knot}
use Rattle.module.specs.Marks.{mark_count}
use Rattle.module.specs.Module.{FunctionHandle, Module, Statement, Emit, Block, If, Switch, Loop, Break, Continue, Return, Kill, ControlBarrier, MemoryBarrier, ImageAtomic, Store, AtomicStatement, Call, ImageStore, RayQuery, WorkGroupUniformLoad, SubgroupBallot, SubgroupGather, SubgroupCollectiveOperation}
use Rattle.walk.specs.State.{Records}
use Rattle.walk.specs.Resolve.{function_at}
use Rattle.walk.specs.Requests.{Report}

-- a decimal number, of its tenth and its last digit
unfoldable pub digits : (ℕ → List ℕ) → ℕ → List ℕ
digits tenth n = cond (ltb n 10) ((48 + n) ∷ []) (tenth (n / 10) ++ ((48 + n % 10) ∷ []))

unfoldable pub number : ℕ → List ℕ
number = knot digits []

abbrev pub all_word : List ℕ
all_word = 97 ∷ 108 ∷ 108 ∷ []

abbrev pub exist_word : List ℕ
exist_word = 101 ∷ 120 ∷ 105 ∷ 115 ∷ 116 ∷ []

abbrev pub required_word : List ℕ
required_word = 114 ∷ 101 ∷ 113 ∷ 117 ∷ 105 ∷ 114 ∷ 101 ∷ 100 ∷ []

abbrev pub yes_word : List ℕ
yes_word = 32 ∷ 121 ∷ 101 ∷ 115 ∷ []

abbrev pub no_word : List ℕ
no_word = 32 ∷ 110 ∷ 111 ∷ []

abbrev pub refused_word : List ℕ
refused_word = 114 ∷ 101 ∷ 102 ∷ 117 ∷ 115 ∷ 101 ∷ 100 ∷ 32 ∷ []

abbrev pub global_word : List ℕ
global_word = 103 ∷ 108 ∷ 111 ∷ 98 ∷ 97 ∷ 108 ∷ 32 ∷ []

abbrev pub retval_word : List ℕ
retval_word = 114 ∷ 101 ∷ 116 ∷ 118 ∷ 97 ∷ 108 ∷ 32 ∷ []

abbrev pub arg_word : List ℕ
arg_word = 97 ∷ 114 ∷ 103 ∷ 32 ∷ []

abbrev pub local_word : List ℕ
local_word = 108 ∷ 111 ∷ 99 ∷ 97 ∷ 108 ∷ 32 ∷ []

abbrev pub expr_word : List ℕ
expr_word = 101 ∷ 120 ∷ 112 ∷ 114 ∷ 32 ∷ []

abbrev pub stmt_word : List ℕ
stmt_word = 115 ∷ 116 ∷ 109 ∷ 116 ∷ 32 ∷ []

-- A requirement, as a whole or as what stands behind an entry: {0:all,1:{2:exist}}. (Where a list ends in `all` or `exist` it stands for no map; it closes too.)
unfoldable pub text_from : PartReq → (whole : Bool) → List ℕ
text_from all = λ whole. cond whole all_word (125 ∷ [])
text_from exist = λ whole. cond whole exist_word (125 ∷ [])
text_from none = λ whole. cond whole (123 ∷ 125 ∷ []) (125 ∷ [])
text_from (more i p r) = λ whole. (cond whole 123 44 ∷ []) ++ (number i ++ ((58 ∷ []) ++ (text_from p true ++ text_from r false)))

-- the texts of the numbers below 3 of a store: all, exist and the empty part
unfoldable pub whole_text : ℕ → List ℕ
whole_text n = cond (eqb n 0) all_word (cond (eqb n 1) exist_word (123 ∷ 125 ∷ []))

unfoldable pub plain_text : ℕ → (whole : Bool) → List ℕ
plain_text n whole = cond whole (whole_text n) (125 ∷ [])

abbrev pub part_text : PartReq → List ℕ
part_text p = text_from p true

-- a line of a number and its requirement
abbrev pub line_text : (word : List ℕ) → (n : ℕ) → PartReq → List ℕ
line_text word n p = word ++ (number n ++ ((32 ∷ []) ++ (part_text p ++ (10 ∷ []))))

-- a line for each variable of a context's map
unfoldable pub variables_text : (word : List ℕ) → PartReq → List ℕ
variables_text word all = []
variables_text word exist = []
variables_text word none = []
variables_text word (more i p r) = line_text word (i - spine) p ++ variables_text word r

unfoldable pub retval_text : PartReq → List ℕ
retval_text all = []
retval_text exist = []
retval_text none = []
retval_text (more i p r) = retval_word ++ (part_text p ++ (10 ∷ []))

unfoldable pub context_text : RequiredContext → List ℕ
context_text c =
    variables_text global_word c.globals ++ (retval_text c.retval ++ (variables_text arg_word c.args ++ variables_text local_word c.locals))

unfoldable pub record_text : (n : ℕ) → Option PartReq → List ℕ
record_text n nothing = []
record_text n (some p) = line_text expr_word n p

-- a line for each record, from expression n on
unfoldable pub records_text : (n : ℕ) → Records → List ℕ
records_text n [] = []
records_text n (e ∷ es) = record_text n e ++ records_text (suc n) es

abbrev pub emit_name : List ℕ
emit_name = 101 ∷ 109 ∷ 105 ∷ 116 ∷ []

abbrev pub blockstmt_name : List ℕ
blockstmt_name = 98 ∷ 108 ∷ 111 ∷ 99 ∷ 107 ∷ 115 ∷ 116 ∷ 109 ∷ 116 ∷ []

abbrev pub if_name : List ℕ
if_name = 105 ∷ 102 ∷ []

abbrev pub switch_name : List ℕ
switch_name = 115 ∷ 119 ∷ 105 ∷ 116 ∷ 99 ∷ 104 ∷ []

abbrev pub loop_name : List ℕ
loop_name = 108 ∷ 111 ∷ 111 ∷ 112 ∷ []

abbrev pub break_name : List ℕ
break_name = 98 ∷ 114 ∷ 101 ∷ 97 ∷ 107 ∷ []

abbrev pub continue_name : List ℕ
continue_name = 99 ∷ 111 ∷ 110 ∷ 116 ∷ 105 ∷ 110 ∷ 117 ∷ 101 ∷ []

abbrev pub return_name : List ℕ
return_name = 114 ∷ 101 ∷ 116 ∷ 117 ∷ 114 ∷ 110 ∷ []

abbrev pub kill_name : List ℕ
kill_name = 107 ∷ 105 ∷ 108 ∷ 108 ∷ []

abbrev pub barrier_name : List ℕ
barrier_name = 98 ∷ 97 ∷ 114 ∷ 114 ∷ 105 ∷ 101 ∷ 114 ∷ []

abbrev pub store_name : List ℕ
store_name = 115 ∷ 116 ∷ 111 ∷ 114 ∷ 101 ∷ []

abbrev pub imagestore_name : List ℕ
imagestore_name = 105 ∷ 109 ∷ 97 ∷ 103 ∷ 101 ∷ 115 ∷ 116 ∷ 111 ∷ 114 ∷ 101 ∷ []

abbrev pub atomic_name : List ℕ
atomic_name = 97 ∷ 116 ∷ 111 ∷ 109 ∷ 105 ∷ 99 ∷ []

abbrev pub call_name : List ℕ
call_name = 99 ∷ 97 ∷ 108 ∷ 108 ∷ []

abbrev pub rayquery_name : List ℕ
rayquery_name = 114 ∷ 97 ∷ 121 ∷ 113 ∷ 117 ∷ 101 ∷ 114 ∷ 121 ∷ []

-- `StatementReq`'s name in lower case; of an ImageAtomic there is none: the walk refuses it
unfoldable pub name_of : Statement → List ℕ
name_of (Emit first last) = emit_name
name_of (Block b) = blockstmt_name
name_of (If condition accept reject) = if_name
name_of (Switch selector cases) = switch_name
name_of (Loop body continuing break_if) = loop_name
name_of Break = break_name
name_of Continue = continue_name
name_of (Return value) = return_name
name_of Kill = kill_name
name_of ControlBarrier = barrier_name
name_of MemoryBarrier = barrier_name
name_of ImageAtomic = []
name_of (Store pointer value) = store_name
name_of (AtomicStatement pointer value result) = atomic_name
name_of (Call function arguments result) = call_name
name_of (ImageStore image coordinate array_index value) = imagestore_name
name_of (RayQuery query) = rayquery_name
name_of (WorkGroupUniformLoad pointer result) = rayquery_name
name_of (SubgroupBallot result predicate) = rayquery_name
name_of (SubgroupGather mode argument result) = rayquery_name
name_of (SubgroupCollectiveOperation argument result) = rayquery_name

-- the names by the statement's kind; another kind is decoded as a break
abbrev pub names : List (List ℕ)
names =
    emit_name
    ∷ blockstmt_name
    ∷ if_name
    ∷ switch_name
    ∷ loop_name
    ∷ break_name
    ∷ continue_name
    ∷ return_name
    ∷ kill_name
    ∷ barrier_name
    ∷ barrier_name
    ∷ []
    ∷ store_name
    ∷ atomic_name
    ∷ call_name
    ∷ imagestore_name
    ∷ rayquery_name
    ∷ rayquery_name
    ∷ rayquery_name
    ∷ rayquery_name
    ∷ rayquery_name
    ∷ []

unfoldable pub kind_name : (kind : ℕ) → List ℕ
kind_name kind = get_or names kind break_name

unfoldable pub mark_text : ℕ → List ℕ
mark_text b = cond (eqb b 0) no_word yes_word

unfoldable pub marks_text : List ℕ → List ℕ
marks_text [] = []
marks_text (b ∷ bs) = mark_text b ++ marks_text bs

-- the line of statement n with its own marks, the first of `marks`
abbrev pub statement_text : (n : ℕ) → Statement → (marks : List ℕ) → List ℕ
statement_text n s marks =
    stmt_word ++ (number n ++ ((32 ∷ []) ++ (name_of s ++ (marks_text (take (mark_count s) marks) ++ (10 ∷ [])))))

-- a line for each statement, from statement n on
unfoldable pub statements_text : (n : ℕ) → List Statement → (marks : List ℕ) → List ℕ
statements_text n [] marks = []
statements_text n (s ∷ ss) marks = statement_text n s marks ++ statements_text (suc n) ss (drop (mark_count s) marks)

unfoldable pub required_text : Bool → List ℕ
required_text required = required_word ++ (cond required yes_word no_word ++ (10 ∷ []))

-- the lines of a report on the function f
unfoldable pub report_text : Module → FunctionHandle → Report → List ℕ
report_text m f report =
    required_text report.required
    ++ (context_text report.context ++ (records_text 0 report.exprs ++ statements_text 0 (function_at m f).statements report.marks))

-- of a refusal
unfoldable pub refused_text : (n : ℕ) → List ℕ
refused_text n = refused_word ++ (number n ++ (10 ∷ []))
