-- The definition of the walk, opened whole, so that worked cases compute; and short forms for writing requests and reports.
use mathlib.Core.Bool.{Bool}
use mathlib.Core.List.{List}
use mathlib.Core.Option.{Option}
use Prim.Native.Nat.{ℕ}
use Rattle.part.specs.PartReq.{PartReq, get_subpart, has, within, contains, merge, on_none, add, from_first, entries, width, depth, over}
use Rattle.module.specs.Module.{Module}
use Rattle.context.specs.RequiredContext.{RequiredContext, contains_context, merge_context, pieces, over_context, alter, with_globals, with_locals, remove_var, return_entry}
use Rattle.walk.specs.State.{Records, record_pieces, function_pieces, total_pieces, sum_of, count, counted, limited, limited_context, visit_when}
use Rattle.request.specs.Request.{Request}
use Rattle.walk.specs.Requests.{Answer, reported, fresh, requests, end_count, ended, begun, walk_request, total_marks, bytes_from, report_of, request}
use Rattle.part.specs.Insert.{insert}
use Rattle.module.specs.Knot.{tie, knot}
use Rattle.module.specs.Marks.{mark_count, marks_before}
use Rattle.context.specs.Remove.{each, type_to_parts, subtypes, member_at, at_member, at_subtype, split, subtypes_of, take_out, take_entry, take_entries, remove}
use Rattle.context.specs.Swizzle.{is_flat, collected, swizzled}
use Rattle.walk.specs.Expression.{optional, leveled, formed, constant_asks, swizzle_asks, all_of_each, component_ask, entry_asks, compose_asks, arm_asks, ask_argument, ask_global, ask_local, add_ask, add_asks, step_expression, add_expression}
use Rattle.walk.specs.Function.{latest, extend, join_total, add_total, entered, step_function, add_function}
use Rattle.walk.specs.Marks.{stretch, write_marks, add_mark, add_marks, statement_at, block_at, body_of, ray_of_cases, ray_of, ray_from, first_ray}
use Rattle.walk.specs.Resolve.{function_at, expression_at, resolve_arm, resolve_var, is_there, needed, needed_at, check_part, store_required}
use Rattle.walk.specs.Statement.{ask_optional, ask_needed, need_of, record_of, ask_result, are_recorded, merged, add_nested, end_if, add_if, add_cases, end_switch, add_switch, end_turn, turns, start_turns, end_loop, add_loop, add_return, target_of, taken_out, add_store, add_atomic, ask_arguments, retval_of, end_call, add_call, when_needed, ask_mode, add_statement, visit_statement, add_statements, step_block, add_block}
use Rattle.walk.specs.StatementReq.{any, required, mark, marks_of, own_marks}

-- the answers of requests over a fresh pruner; to unfold it is to unfold all that they compute with
unfoldable pub answers : Module → List Request → List Answer
unfolding insert get_subpart has within contains merge on_none add from_first entries width depth over tie knot mark_count marks_before each
    type_to_parts subtypes member_at at_member at_subtype split subtypes_of take_out take_entry take_entries remove contains_context merge_context pieces alter
    with_globals with_locals remove_var return_entry is_flat collected swizzled optional leveled formed constant_asks swizzle_asks
    all_of_each component_ask entry_asks compose_asks arm_asks ask_argument ask_global ask_local add_ask add_asks step_expression add_expression latest extend
    join_total add_total entered step_function add_function stretch write_marks add_mark add_marks statement_at block_at body_of ray_of_cases ray_of ray_from first_ray
    fresh end_count ended begun walk_request total_marks bytes_from report_of request requests function_at expression_at resolve_arm resolve_var is_there needed
    needed_at check_part store_required record_pieces function_pieces total_pieces sum_of count counted limited over_context limited_context visit_when ask_optional
    ask_needed need_of record_of ask_result are_recorded merged add_nested end_if add_if add_cases end_switch add_switch end_turn turns start_turns end_loop add_loop
    add_return target_of taken_out add_store add_atomic ask_arguments retval_of end_call add_call when_needed ask_mode add_statement visit_statement add_statements
    step_block add_block any required mark marks_of own_marks
answers m qs = (requests m (fresh m) qs).0

abbrev pub ask : ℕ → Option PartReq → PartReq → Request
ask f retval globals = record { function = f; retval = retval; globals = globals }

abbrev pub context : (globals locals args retval : PartReq) → RequiredContext
context globals locals args retval = record { globals = globals; locals = locals; args = args; retval = retval }

abbrev pub report : Bool → RequiredContext → Records → (marks : List ℕ) → (visits : ℕ) → (bytes : List ℕ) → Answer
report required c exprs marks visits bytes =
    reported (record { required = required; context = c; exprs = exprs; marks = marks; visits = visits; bytes = bytes })
