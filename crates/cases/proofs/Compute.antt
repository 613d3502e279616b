-- The definitions of reading, of a report's text and of what is written into the lent buffers, opened whole, so that worked cases compute; the walk's and the check's with them.
use Prim.Native.Nat.{ℕ}
use mathlib.Core.List.{List}
use Rattle.module.specs.Module.{Module}
use Rattle.request.specs.Request.{Request}
use Rattle.walk.specs.Requests.{Report}
use Rattle.clearance.specs.Verdict.{Answer}
use Rattle.field.specs.Field.{field_at, word_at}
use Rattle.part.specs.PartReq.{width}
use Rattle.module.specs.Record.{fields_to, body_at, mark_of}
use Rattle.module.specs.Shape.{type_shapes, expression_shapes, statement_shapes}
use Rattle.module.specs.Decode.{tab, option_of, member_of, type_inner_of, level_handles, mode_handles, level_of, mode_of, expression_of, case_of, statement_of, type_of, result_of, arg_of, typed_of, st_of}
use Rattle.module.specs.Operands.{one, many, counted, pairs, elem, cases_after, unemitted, range_in, result_in, pattern_after, code_after, taken, operands}
use Rattle.module.specs.Reading.{scope_of, emit, emit_by, opened, grown, stage_of, types_with, globals_with, added, range_of, closed}
use Rattle.module.specs.Blocks.{held, held_from, all_below, holders_above, held_in_all, times, each_once, block_rule}
use Rattle.module.specs.File.{placed, over, fine, ended, ended_at, body_next, mark_next, record_next, read_from, start, read_module}
use Rattle.request.specs.Fields.{fields, bytes_of, framed, whole}
use Rattle.request.specs.Part.{read_entries, read_level, by_code, read_part, read_return, read_variables, with_code, write_entries, write_part, write_return, write_variables}
use Rattle.request.specs.Context.{read_lists, read_context_body, write_context_body}
use Rattle.request.specs.Request.{read_body, request_of, known, judge}
use Rattle.walk.proofs.Compute.{answers}
use Rattle.pruner.specs.Form.{write_record, write_records, write_total, write_totals, write_pruner, read_records}
use Rattle.lines.specs.Text.{digits, number, text_from, variables_text, retval_text, context_text, record_text, records_text, name_of, mark_text, marks_text, statements_text, required_text, report_text, refused_text}
use Rattle.requests.specs.Answer.{answer_body, write_answer}
use Rattle.requests.specs.ReadAnswer.{read_answer}
use Rattle.requests.specs.Serve.{finish}
use Rattle.part.specs.PartReq.{get_subpart, has, within as in_part, contains, merge, on_none, add, entries, depth, over as over_part}
use Rattle.part.specs.Count.{same as equal, among, each_once as each_part}
use Rattle.part.specs.Collect.{cells_in}
use mathlib.Core.List.{flat_map}
use Rattle.module.specs.Knot.{tie, knot}
use Rattle.module.specs.Marks.{mark_count, marks_before}
use Rattle.clearance.specs.Shape.{member, extent, shape_at, leaf, inside, cov, below, under, keep, trim, hit, members, split, alter}
use Rattle.clearance.specs.Shape.{take_out, sum, size}
use Rattle.clearance.specs.Scope.{inner, member_types, vector_shape, elements, unfold_type, shape_of, kind, bases, is_kind, pairwise, alike_inner, alike, fits, slot}
use Rattle.clearance.specs.Scope.{typed, type_of as type_in, inner_of, argument_type, result_shape, slots, kind_shape, frame, is_path, by_part, any_vector, optional, arm_of, arm}
use Rattle.clearance.specs.Scope.{source_of, source, further, step_from, path_of, front, indexes, target}
use Rattle.clearance.specs.Tree.{marked, mark_at, by_mark, emits, case_at, statement, statements_from, block_tree, body_tree}
use Rattle.clearance.specs.Needs.{ask_operand, ask_picked, ask_components, ask_steps, asks, gives, need_at, need_from, need, needs, overlap, without, storing, giving}
use Rattle.clearance.specs.Needs.{before, idle, wholly, upon, out_break, out_continue, of_case, of_continuing, of_body, each, union, most, quiet, only_next}
use Rattle.clearance.specs.Needs.{obeys, kept, turning, valued, after_continuing, loops, reentry, join_at, enough}
use Rattle.clearance.specs.Judged.{every, presently, part_type, element_type, pointee_type, pointee, same, same_part, is_value, holds_in, holds_either, pointee_holds, holds_unsized, fits_index, has_vector_size, component_count}
use Rattle.clearance.specs.Judged.{count_components, fits_compose, fits_variable, fits_expression, judged_expression, fits_return, fits_statement, at_top, in_case, in_body, unless, strays, failing, lower, lowest}
use Rattle.clearance.specs.Judged.{blamed_expression, blamed_statement}
use Rattle.clearance.specs.Verdict.{ending, needs_expression, starts, verdict, pieces, has_shape}
use Rattle.pass.specs.Pass.{too_many, point, blame, enter, pointed, too_large, within, joining, part_from, part_of, asking, asking_all, store_asks, store_leaves, act_asks, act_leaves}
use Rattle.pass.specs.Pass.{acting, turning_on, valuing, entering, pass_cases, pass_inside, pass}
use Rattle.pass.specs.Checked.{fresh, asked_of, pass_once, settled_by, settle_within, last_pass, answer_of, judge_by, checked}
use Rattle.checking.specs.Check.{value_of}
use Rattle.checking.specs.Line.{answer_text as check_text, check_line}
use Rattle.report_text.specs.Split.{heads_request, module_bytes}
use Rattle.report_text.specs.Input.{check_of, answer_text, request_text, module_text, report_input}

-- what is answered, with all that the check computes with
unfoldable pub check : Module → Request → Report → Answer
unfolding tie knot member extent shape_at leaf inside cov below under keep trim hit members split alter take_out sum size inner member_types
    vector_shape elements unfold_type shape_of kind bases is_kind pairwise alike_inner alike fits slot typed type_in inner_of argument_type result_shape
    slots kind_shape frame is_path by_part any_vector optional arm_of arm source_of source further step_from path_of front indexes target mark_count
    marks_before marked mark_at by_mark emits case_at statement statements_from block_tree body_tree ask_operand ask_picked ask_components ask_steps asks
    gives need_at need_from need needs overlap without storing giving before idle wholly upon out_break out_continue of_case of_continuing of_body each
    union most quiet only_next obeys kept turning valued after_continuing loops reentry join_at enough every presently part_type element_type
    pointee_type pointee same same_part is_value holds_in holds_either pointee_holds holds_unsized fits_index has_vector_size component_count count_components fits_compose
    fits_variable fits_expression judged_expression fits_return fits_statement at_top in_case in_body unless strays failing lower lowest
    blamed_expression blamed_statement ending needs_expression starts verdict pieces has_shape get_subpart has in_part contains merge on_none add
    entries width depth over_part equal among each_part cells_in flat_map joining part_from part_of asking asking_all store_asks store_leaves act_asks
    act_leaves acting turning_on valuing entering too_large too_many point blame enter within pointed pass_cases pass_inside pass fresh asked_of
    pass_once settled_by settle_within last_pass answer_of judge_by checked value_of check_of
check m q r = check_of m q r

-- what is printed; to unfold it is to unfold all that these compute with
unfoldable pub print : List ℕ → List ℕ
unfolding field_at width fields_to body_at mark_of type_shapes expression_shapes statement_shapes tab option_of member_of type_inner_of level_handles
    mode_handles level_of mode_of expression_of case_of statement_of type_of result_of arg_of typed_of st_of one many counted pairs elem cases_after
    unemitted range_in result_in pattern_after code_after taken operands scope_of emit emit_by opened grown stage_of types_with globals_with added
    range_of closed held held_from all_below holders_above held_in_all times each_once block_rule placed over fine ended ended_at body_next mark_next
    record_next read_from start read_module fields bytes_of framed whole read_entries read_level by_code read_part read_return read_variables with_code
    write_entries write_part write_return write_variables write_context_body read_body request_of Rattle.request.specs.Request.all_below known judge
    answers write_record write_records write_total write_totals Rattle.pruner.specs.Form.write_body write_pruner digits number text_from variables_text
    retval_text context_text record_text records_text name_of mark_text marks_text statements_text required_text report_text refused_text answer_body
    write_answer word_at Rattle.context.specs.RequiredContext.return_entry read_lists read_context_body read_records Rattle.requests.specs.ReadAnswer.read_body read_answer finish check check_text check_line heads_request module_bytes answer_text request_text module_text report_input
print s = report_input s
