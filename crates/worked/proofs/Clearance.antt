-- Cases A and J of 01: what the definition of the clearance computes.
use mathlib.Core.Path.{◌≡◌, refl}
use mathlib.Core.List.{[], ◌∷◌}
use Rattle.part.specs.PartReq.{all, exist, none, more, get_subpart, has, within, contains, merge, on_none, add, entries, width, depth}
use Rattle.part.specs.PartReq.{over}
use Rattle.module.specs.Knot.{tie, knot}
use Rattle.programs.specs.Programs.{module_a, function_a, pointer_a, module_j, function_j}
use Rattle.clearance.specs.Shape.{member, extent, shape_at, leaf, inside, cov, below, under, keep, trim, hit, members, split, alter, take_out, sum}
use Rattle.clearance.specs.Shape.{size}
use Rattle.clearance.specs.Scope.{inner, member_types, vector_shape, elements, unfold_type, shape_of, kind, bases, is_kind, pairwise, alike_inner}
use Rattle.clearance.specs.Scope.{alike, fits, slot, typed, type_of, inner_of, argument_type, result_shape, slots, kind_shape, frame, is_path, by_part}
use Rattle.clearance.specs.Scope.{any_vector, optional, arm_of, arm, source_of, source, further, step_from, path_of, front, indexes, target}
use Rattle.module.specs.Marks.{mark_count, marks_before}
use Rattle.clearance.specs.Tree.{marked, mark_at, by_mark, emits, case_at, statement, statements_from, block_tree, body_tree}
use Rattle.clearance.specs.Needs.{ask_operand, ask_picked, ask_components, ask_steps, asks, gives, need_at, need_from, need, needs, overlap, without}
use Rattle.clearance.specs.Needs.{storing, giving, before, idle, wholly, upon, out_break, out_continue, of_case, of_continuing, of_body, each, union, concat, through, most}
use Rattle.clearance.specs.Needs.{quiet, only_next, obeys, kept, turning, valued, after_continuing, walk, after_body, lacking, stable, sweep}
use Rattle.clearance.specs.Needs.{around, amid, somewhere, loops, reentry, join_at, round, settle, enough, smallest}
use Rattle.clearance.specs.Judged.{every, presently, part_type, element_type, pointee_type, pointee, same, same_part, is_value, holds_in, holds_unsized, pointee_holds, holds_either}
use Rattle.clearance.specs.Judged.{fits_index, has_vector_size, component_count, count_components, fits_compose, fits_variable, fits_expression, judged_expression}
use Rattle.clearance.specs.Judged.{fits_return, fits_statement, at_top, in_case, in_body, unless, strays, failing, lower, lowest, blamed_expression}
use Rattle.clearance.specs.Judged.{blamed_statement}
use Rattle.clearance.specs.Verdict.{ending, start_needs, faults, needs_expression, starts, verdict, pieces, at_point, limited, answer_by, judge, has_shape}
use Rattle.clearance.specs.Verdict.{clearance}
use Rattle.clearance.specs.Scope.{variable}
use Rattle.clearance.specs.Verdict.{Request, Report, clear, at_statement}

abbrev pub asked_a : Request
asked_a = record { globals = none; value = all }

abbrev pub report_a : Report
report_a = record { marks = 1 ∷ 1 ∷ 1 ∷ 1 ∷ []; globals = none; args = more (variable 0) (more 1 all none) none }

pub case_a : clearance (record { program = module_a; function = function_a 1 }) asked_a report_a ≡ clear
unfolding tie knot member extent shape_at leaf inside cov below under keep trim hit members split alter take_out sum size inner member_types vector_shape elements unfold_type shape_of kind bases is_kind pairwise alike_inner alike fits slot typed type_of inner_of argument_type result_shape slots kind_shape frame is_path by_part any_vector optional arm_of arm source_of source further step_from path_of front indexes target mark_count marks_before marked mark_at by_mark emits case_at statement statements_from block_tree body_tree ask_operand ask_picked ask_components ask_steps asks gives need_at need_from need needs overlap without storing giving before idle wholly upon out_break out_continue of_case of_continuing of_body each union concat through most quiet only_next obeys kept turning valued after_continuing walk after_body lacking stable sweep around amid somewhere loops reentry join_at round settle enough smallest every presently part_type element_type pointee_type pointee same same_part is_value holds_in holds_unsized pointee_holds holds_either fits_index has_vector_size component_count count_components fits_compose fits_variable fits_expression judged_expression fits_return fits_statement at_top in_case in_body unless strays failing lower lowest blamed_expression blamed_statement ending start_needs faults needs_expression starts verdict pieces at_point limited answer_by judge has_shape clearance get_subpart has within contains merge on_none add entries width depth over
case_a = refl

pub case_a' : clearance (record { program = pointer_a; function = function_a 2 }) asked_a report_a ≡ clear
unfolding tie knot member extent shape_at leaf inside cov below under keep trim hit members split alter take_out sum size inner member_types vector_shape elements unfold_type shape_of kind bases is_kind pairwise alike_inner alike fits slot typed type_of inner_of argument_type result_shape slots kind_shape frame is_path by_part any_vector optional arm_of arm source_of source further step_from path_of front indexes target mark_count marks_before marked mark_at by_mark emits case_at statement statements_from block_tree body_tree ask_operand ask_picked ask_components ask_steps asks gives need_at need_from need needs overlap without storing giving before idle wholly upon out_break out_continue of_case of_continuing of_body each union concat through most quiet only_next obeys kept turning valued after_continuing walk after_body lacking stable sweep around amid somewhere loops reentry join_at round settle enough smallest every presently part_type element_type pointee_type pointee same same_part is_value holds_in holds_unsized pointee_holds holds_either fits_index has_vector_size component_count count_components fits_compose fits_variable fits_expression judged_expression fits_return fits_statement at_top in_case in_body unless strays failing lower lowest blamed_expression blamed_statement ending start_needs faults needs_expression starts verdict pieces at_point limited answer_by judge has_shape clearance get_subpart has within contains merge on_none add entries width depth over
case_a' = refl

-- case J: mark 1 is no
pub case_j : clearance (record { program = module_j; function = function_j }) (record { globals = more (variable 0) all none; value = none })
    (record { marks = 1 ∷ 0 ∷ 1 ∷ 1 ∷ []; globals = more (variable 0) exist none; args = more (variable 1) all (more (variable 2) all none) })
    ≡ at_statement 1
unfolding tie knot member extent shape_at leaf inside cov below under keep trim hit members split alter take_out sum size inner member_types vector_shape elements unfold_type shape_of kind bases is_kind pairwise alike_inner alike fits slot typed type_of inner_of argument_type result_shape slots kind_shape frame is_path by_part any_vector optional arm_of arm source_of source further step_from path_of front indexes target mark_count marks_before marked mark_at by_mark emits case_at statement statements_from block_tree body_tree ask_operand ask_picked ask_components ask_steps asks gives need_at need_from need needs overlap without storing giving before idle wholly upon out_break out_continue of_case of_continuing of_body each union concat through most quiet only_next obeys kept turning valued after_continuing walk after_body lacking stable sweep around amid somewhere loops reentry join_at round settle enough smallest every presently part_type element_type pointee_type pointee same same_part is_value holds_in holds_unsized pointee_holds holds_either fits_index has_vector_size component_count count_components fits_compose fits_variable fits_expression judged_expression fits_return fits_statement at_top in_case in_body unless strays failing lower lowest blamed_expression blamed_statement ending start_needs faults needs_expression starts verdict pieces at_point limited answer_by judge has_shape clearance get_subpart has within contains merge on_none add entries width depth over
case_j = refl
