-- What the program `report` prints, for any bytes: the lines for one request of a fresh pruner, the last of them that of the check, or the line of its refusal. Refusals come in 01's order: of the
-- module (1 to 5), of the request (12, 11), of the walk. Where there is no request, no bytes stand behind the module: 12. There is no report buffer that could be short (18).
use Rattle.std.specs.Prelude.{ℕ, ◌+◌, List, ◌++◌}
use Rattle.field.specs.Limits.{max_bytes, min_report}
use Rattle.module.specs.Module.{Module}
use Rattle.module.specs.File as file
use Rattle.request.specs.Fields as reading
use Rattle.request.specs.Request.{Request, read_request}
use Rattle.walk.specs.Requests.{Answer, Report, reported, refused, fresh, request}
use Rattle.lines.specs.Text.{report_text, refused_text}
use Rattle.clearance.specs.Verdict as verdict
use Rattle.pass.specs.Checked.{checked}
use Rattle.checking.specs.Check.{scope_of, asked_by}
use Rattle.checking.specs.Line.{check_line}
use Rattle.report_text.specs.Split.{module_in, request_in}

-- what the clearance judges of a report: its marks, and its context's globals and arguments
abbrev pub judged_of : Report → verdict.Report
judged_of r = record { marks = r.marks; globals = r.context.globals; args = r.context.args }

-- the check of the report on the request q
unfoldable pub check_of : Module → Request → Report → verdict.Answer
check_of m q r = checked (scope_of m q.function) (asked_by q) (judged_of r)

unfoldable pub answer_text : Module → Request → Answer → List ℕ
answer_text m q (reported r) = report_text m q.function r ++ check_line (check_of m q r)
answer_text m q (refused n at) = refused_text n

unfoldable pub request_text : Module → reading.Answer Request → List ℕ
request_text m (reading.refused n) = refused_text n
request_text m (reading.accepted q) = answer_text m q (request m (fresh m) q).0

unfoldable pub module_text : file.Answer → (bytes : List ℕ) → List ℕ
module_text (file.refused n) bytes = refused_text n
module_text (file.accepted m) bytes = request_text m (read_request m min_report bytes)

unfoldable pub report_input : List ℕ → List ℕ
report_input s = module_text (file.read_module (module_in s)) (request_in s)

-- So much of its input the program reads: a module, the header and the longest body of a request, and a byte behind it. More changes no answer (proofs/Longer).
abbrev pub max_input : ℕ
max_input = max_bytes + 4 + 65535 + 1
