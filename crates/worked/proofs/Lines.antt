-- Cases A and J of 01: the lines that their reports (proofs/Walk) come to, against 01's. Case I is refused.
use mathlib.Core.Path.{◌≡◌, refl}
use mathlib.Core.Bool.{true}
use mathlib.Core.List.{[], ◌∷◌, ◌++◌}
use mathlib.Core.Option.{some, none as nothing}
use Rattle.part.specs.PartReq.{all, exist, none, more}
use Rattle.programs.specs.Programs.{module_a, module_j}
use Rattle.context.specs.RequiredContext.{variable}
use Rattle.module.specs.Knot.{tie, knot}
use Rattle.module.specs.Marks.{mark_count}
use Rattle.walk.specs.Resolve.{function_at}
use Rattle.walk.specs.Requests.{Report, reported, fresh, requests}
use Rattle.worked.proofs.Walk.{case_a, case_j}
use Rattle.lines.specs.Text.{digits, number, text_from, variables_text, retval_text, context_text, record_text, records_text, name_of, mark_text, marks_text, statements_text, required_text, report_text, refused_text}

abbrev report_a : Report
report_a =
    record {
      required = true;
      context = record {
        globals = none;
        locals = more (variable 0) exist none;
        args = more (variable 0) (more 1 all none) none;
        retval = more (variable 0) all none;
      };
      exprs = some (more 1 all none) ∷ (some exist ∷ (some (more 1 all none) ∷ (some all ∷ [])));
      marks = 1 ∷ (1 ∷ (1 ∷ (1 ∷ [])));
      visits = 8;
      bytes = 1 ∷ (1 ∷ (1 ∷ (1 ∷ [])));
    }

pub reported_a : (requests module_a (fresh module_a) (record { function = 0; retval = some all; globals = none } ∷ [])).0 ≡ (reported report_a ∷ [])
reported_a = case_a

-- a line to a row: from `required yes` to `stmt 2 return yes`
pub lines_a : report_text module_a 0 report_a ≡ (
    (114 ∷ 101 ∷ 113 ∷ 117 ∷ 105 ∷ 114 ∷ 101 ∷ 100 ∷ 32 ∷ 121 ∷ 101 ∷ 115 ∷ 10 ∷ []) ++ (
    (114 ∷ 101 ∷ 116 ∷ 118 ∷ 97 ∷ 108 ∷ 32 ∷ 97 ∷ 108 ∷ 108 ∷ 10 ∷ []) ++ (
    (97 ∷ 114 ∷ 103 ∷ 32 ∷ 48 ∷ 32 ∷ 123 ∷ 49 ∷ 58 ∷ 97 ∷ 108 ∷ 108 ∷ 125 ∷ 10 ∷ []) ++ (
    (108 ∷ 111 ∷ 99 ∷ 97 ∷ 108 ∷ 32 ∷ 48 ∷ 32 ∷ 101 ∷ 120 ∷ 105 ∷ 115 ∷ 116 ∷ 10 ∷ []) ++ (
    (101 ∷ 120 ∷ 112 ∷ 114 ∷ 32 ∷ 48 ∷ 32 ∷ 123 ∷ 49 ∷ 58 ∷ 97 ∷ 108 ∷ 108 ∷ 125 ∷ 10 ∷ []) ++ (
    (101 ∷ 120 ∷ 112 ∷ 114 ∷ 32 ∷ 49 ∷ 32 ∷ 101 ∷ 120 ∷ 105 ∷ 115 ∷ 116 ∷ 10 ∷ []) ++ (
    (101 ∷ 120 ∷ 112 ∷ 114 ∷ 32 ∷ 50 ∷ 32 ∷ 123 ∷ 49 ∷ 58 ∷ 97 ∷ 108 ∷ 108 ∷ 125 ∷ 10 ∷ []) ++ (
    (101 ∷ 120 ∷ 112 ∷ 114 ∷ 32 ∷ 51 ∷ 32 ∷ 97 ∷ 108 ∷ 108 ∷ 10 ∷ []) ++ (
    (115 ∷ 116 ∷ 109 ∷ 116 ∷ 32 ∷ 48 ∷ 32 ∷ 115 ∷ 116 ∷ 111 ∷ 114 ∷ 101 ∷ 32 ∷ 121 ∷ 101 ∷ 115 ∷ 10 ∷ []) ++ (
    (115 ∷ 116 ∷ 109 ∷ 116 ∷ 32 ∷ 49 ∷ 32 ∷ 101 ∷ 109 ∷ 105 ∷ 116 ∷ 32 ∷ 121 ∷ 101 ∷ 115 ∷ 32 ∷ 121 ∷ 101 ∷ 115 ∷ 10 ∷ []) ++ (
    (115 ∷ 116 ∷ 109 ∷ 116 ∷ 32 ∷ 50 ∷ 32 ∷ 114 ∷ 101 ∷ 116 ∷ 117 ∷ 114 ∷ 110 ∷ 32 ∷ 121 ∷ 101 ∷ 115 ∷ 10 ∷ []))))))))))))
unfolding number digits knot tie text_from variables_text retval_text context_text record_text records_text name_of mark_text marks_text statements_text required_text report_text function_at mark_count
lines_a = refl

abbrev report_j : Report
report_j =
    record {
      required = true;
      context = record { globals = more (variable 0) exist none; locals = none; args = more (variable 1) all (more (variable 2) all none); retval = none };
      exprs = nothing ∷ (some all ∷ (some all ∷ (some exist ∷ [])));
      marks = 1 ∷ (0 ∷ (1 ∷ (1 ∷ [])));
      visits = 7;
      bytes = 1 ∷ (0 ∷ (1 ∷ (1 ∷ [])));
    }

pub reported_j : (requests module_j (fresh module_j) (record { function = 0; retval = nothing; globals = more (variable 0) all none } ∷ [])).0 ≡ (reported report_j ∷ [])
reported_j = case_j

-- from `required yes` and `global 0 exist` to `stmt 1 store no`, `stmt 2 if yes` and `stmt 3 store yes`
pub lines_j : report_text module_j 0 report_j ≡ (
    (114 ∷ 101 ∷ 113 ∷ 117 ∷ 105 ∷ 114 ∷ 101 ∷ 100 ∷ 32 ∷ 121 ∷ 101 ∷ 115 ∷ 10 ∷ []) ++ (
    (103 ∷ 108 ∷ 111 ∷ 98 ∷ 97 ∷ 108 ∷ 32 ∷ 48 ∷ 32 ∷ 101 ∷ 120 ∷ 105 ∷ 115 ∷ 116 ∷ 10 ∷ []) ++ (
    (97 ∷ 114 ∷ 103 ∷ 32 ∷ 49 ∷ 32 ∷ 97 ∷ 108 ∷ 108 ∷ 10 ∷ []) ++ (
    (97 ∷ 114 ∷ 103 ∷ 32 ∷ 50 ∷ 32 ∷ 97 ∷ 108 ∷ 108 ∷ 10 ∷ []) ++ (
    (101 ∷ 120 ∷ 112 ∷ 114 ∷ 32 ∷ 49 ∷ 32 ∷ 97 ∷ 108 ∷ 108 ∷ 10 ∷ []) ++ (
    (101 ∷ 120 ∷ 112 ∷ 114 ∷ 32 ∷ 50 ∷ 32 ∷ 97 ∷ 108 ∷ 108 ∷ 10 ∷ []) ++ (
    (101 ∷ 120 ∷ 112 ∷ 114 ∷ 32 ∷ 51 ∷ 32 ∷ 101 ∷ 120 ∷ 105 ∷ 115 ∷ 116 ∷ 10 ∷ []) ++ (
    (115 ∷ 116 ∷ 109 ∷ 116 ∷ 32 ∷ 48 ∷ 32 ∷ 114 ∷ 101 ∷ 116 ∷ 117 ∷ 114 ∷ 110 ∷ 32 ∷ 121 ∷ 101 ∷ 115 ∷ 10 ∷ []) ++ (
    (115 ∷ 116 ∷ 109 ∷ 116 ∷ 32 ∷ 49 ∷ 32 ∷ 115 ∷ 116 ∷ 111 ∷ 114 ∷ 101 ∷ 32 ∷ 110 ∷ 111 ∷ 10 ∷ []) ++ (
    (115 ∷ 116 ∷ 109 ∷ 116 ∷ 32 ∷ 50 ∷ 32 ∷ 105 ∷ 102 ∷ 32 ∷ 121 ∷ 101 ∷ 115 ∷ 10 ∷ []) ++ (
    (115 ∷ 116 ∷ 109 ∷ 116 ∷ 32 ∷ 51 ∷ 32 ∷ 115 ∷ 116 ∷ 111 ∷ 114 ∷ 101 ∷ 32 ∷ 121 ∷ 101 ∷ 115 ∷ 10 ∷ []))))))))))))
unfolding number digits knot tie text_from variables_text retval_text context_text record_text records_text name_of mark_text marks_text statements_text required_text report_text function_at mark_count
lines_j = refl

-- an entry with two indexes, one of them a part, and a number of two digits
pub part_two : text_from (more 0 all (more 12 (more 2 exist none) none)) true ≡ (123 ∷ 48 ∷ 58 ∷ 97 ∷ 108 ∷ 108 ∷ 44 ∷ 49 ∷ 50 ∷ 58 ∷ 123 ∷ 50 ∷ 58 ∷ 101 ∷ 120 ∷ 105 ∷ 115 ∷ 116 ∷ 125 ∷ 125 ∷ [])
unfolding number digits knot tie text_from
part_two = refl

-- `refused 14`
pub refused_i : refused_text 14 ≡ (114 ∷ 101 ∷ 102 ∷ 117 ∷ 115 ∷ 101 ∷ 100 ∷ 32 ∷ 49 ∷ 52 ∷ 10 ∷ [])
unfolding number digits knot tie refused_text
refused_i = refl
