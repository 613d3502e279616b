-- The claim is not empty: a function of ten statements, with an if, a loop and a dynamic index, that is cleared, with unneeded inputs and
-- runs of it; and what two runs do where a mark or an entry of the context is missing, which the clearance finds.
use Prim.Native.Nat.{ℕ, ◌+◌}
use mathlib.Core.Path.{◌≡◌, refl}
use mathlib.Core.Bool.{Bool, true, cond}
use mathlib.Core.List.{List, [], ◌∷◌, ◌++◌}
use mathlib.Core.Option.{Option, some as present, none as nothing}
use lib.Dec.{ltb, eqb}
use Rattle.part.specs.PartReq.{PartReq, all, none, more, get_subpart, has, within, contains, merge, on_none, add, entries, width, depth}
use Rattle.part.specs.PartReq.{over}
use Rattle.module.specs.Module.{Scalar, Vector, Array, Pointer, Literal, FunctionArgument, LocalVariable, GlobalVariable}
use Rattle.module.specs.Module.{Load, AccessIndex, Access, Binary, Emit, Store, Return, If, Loop, Function, Module}
use Rattle.module.specs.Knot.{tie, knot}
use Rattle.clearance.specs.Shape.{member, extent, shape_at, leaf, inside, cov, below, under, keep, trim, hit, members, split, alter, take_out}
use Rattle.clearance.specs.Shape.{begins, after, sum, size}
use Rattle.clearance.specs.Scope.{inner, member_types, vector_shape, elements, unfold_type, shape_of, kind, bases, is_kind, pairwise, alike_inner}
use Rattle.clearance.specs.Scope.{alike, fits, slot, typed, type_of, inner_of, argument_type, result_shape, slots, kind_shape, frame, is_path, by_part}
use Rattle.clearance.specs.Scope.{any_vector, optional, arm_of, arm, source_of, source, further, step_from, path_of, front, indexes, target, Scope}
use Rattle.clearance.specs.Scope.{global, argument, result, variable, Place}
use Rattle.module.specs.Marks.{mark_count, marks_before}
use Rattle.clearance.specs.Tree.{marked, mark_at, by_mark, emits, case_at, statement, statements_from, block_tree, body_tree}
use Rattle.clearance.specs.Needs.{ask_operand, ask_picked, ask_components, ask_steps, asks, gives, need_at, need_from, need, needs, overlap, without}
use Rattle.clearance.specs.Needs.{storing, giving, before, idle, wholly, upon, out_break, out_continue, of_case, of_continuing, of_body, each, union}
use Rattle.clearance.specs.Needs.{concat, through, most, quiet, only_next, obeys, kept, turning, valued, after_continuing, walk, after_body, lacking}
use Rattle.clearance.specs.Needs.{stable, sweep, around, amid, somewhere, loops, reentry, join_at, round, settle, enough, smallest, Table}
use Rattle.clearance.specs.Judged.{every, presently, part_type, element_type, pointee_type, pointee, same, same_part, is_value, holds_in, holds_unsized, pointee_holds, holds_either}
use Rattle.clearance.specs.Judged.{fits_index, has_vector_size, component_count, count_components, fits_compose, fits_variable, fits_expression, judged_expression}
use Rattle.clearance.specs.Judged.{fits_return, fits_statement, at_top, in_case, in_body, unless, strays, failing, lower, lowest, blamed_expression}
use Rattle.clearance.specs.Judged.{blamed_statement}
use Rattle.clearance.specs.Verdict.{ending, start_needs, faults, missing_marks, needs_expression, starts, verdict, pieces, at_point, limited, answer_by, judge}
use Rattle.clearance.specs.Verdict.{has_shape, clearance, Request, Report, clear, at_statement, at_start, setting, body}
use Rattle.clearance.specs.Run.{look, put, element, onward, part_of, picked, zero_in, number_in, value_from, value, is_zero, number_of, element_by, value_operand, composed, concatenated}
use Rattle.clearance.specs.Run.{follow, place, loaded, evaluate, stored, perform, give_back, then, end_by, turns, position, or_else, pick}
use Rattle.clearance.specs.Run.{in_picked, passing, again, exec, keeps, begin, final, run, State, Mode, everything}
use Rattle.clearance.specs.Run.{needed_only}
use Rattle.clearance.specs.Claim.{context, entry_at, entries_at, bare, asked, Unneeded, Changed}
use Rattle.clearance.specs.Claim.{unchanged, changed, Required}
use Rattle.clearance.proofs.Operators.{numberwise, numberwise-by_component}
use Rattle.clearance.proofs.Top.{demand3}

-- Of a three-vector the component 1 is stored, by an index that is given, into an array of four, in a loop that counts; the array's
-- element is returned. An if that stores into the global is not needed.
unfoldable program : Module
program = record {
  types = Scalar ∷ Vector 3 ∷ Array 0 4 ∷ Pointer 1 ∷ Pointer 2 ∷ Pointer 0 ∷ [];
  globals = 1 ∷ [];
  functions = [];
}

unfoldable function : Function
function = record {
  entry = true;
  result = present (record { type = 0; binding = nothing });
  arguments = record { type = 1; binding = nothing } ∷ record { type = 0; binding = nothing } ∷ record { type = 0; binding = nothing } ∷ [];
  locals = 2 ∷ 0 ∷ [];
  expressions =
      -- 0 to 2: the vector, how often, the index; 3 to 5: the array, the counter, the global
      record { type = 1; expression = FunctionArgument 0 } ∷ record { type = 0; expression = FunctionArgument 1 }
      ∷ record { type = 0; expression = FunctionArgument 2 } ∷ record { type = 4; expression = LocalVariable 0 }
      ∷ record { type = 5; expression = LocalVariable 1 } ∷ record { type = 3; expression = GlobalVariable 0 }
      -- 6, 7: the array's element, the global's component 1; 8: the vector's component 1
      ∷ record { type = 5; expression = Access 3 2 } ∷ record { type = 5; expression = AccessIndex 5 1 }
      ∷ record { type = 0; expression = AccessIndex 0 1 }
      -- 9 to 11: the counter and one more; 12: the element; 13: whether that is enough
      ∷ record { type = 0; expression = Load 4 } ∷ record { type = 0; expression = Literal } ∷ record { type = 0; expression = Binary 9 10 }
      ∷ record { type = 0; expression = Load 6 } ∷ record { type = 0; expression = Binary 11 1 } ∷ [];
  statements =
      -- the loop's body, and its continuing block
      Emit 8 8 ∷ Store 6 8 ∷ Emit 9 11 ∷ Store 4 11 ∷ Emit 13 13
      -- the if's first block
      ∷ Store 7 10
      -- the body
      ∷ If 1 2 3 ∷ Loop 0 1 (present 13) ∷ Emit 12 12 ∷ Return (present 12) ∷ [];
  blocks =
      record { first = 0; count = 2 } ∷ record { first = 2; count = 3 } ∷ record { first = 5; count = 1 } ∷ record { first = 6; count = 0 }
      ∷ record { first = 6; count = 4 } ∷ [];
}

abbrev scope : Scope
scope = record { program = program; function = function }

-- asked: the returned value
abbrev request : Request
request = record { globals = none; value = all }

-- of the vector the component 1 is needed, and the two numbers
abbrev needed : PartReq
needed = more (variable 0) (more 1 all none) (more (variable 1) all (more (variable 2) all none))

abbrev report : Report
report = record { marks = 1 ∷ 1 ∷ 1 ∷ 0 ∷ 1 ∷ 1 ∷ 1 ∷ 0 ∷ 0 ∷ 1 ∷ 1 ∷ 1 ∷ []; globals = none; args = needed }

-- it is cleared
is_clear : clearance scope request report ≡ clear
unfolding program function tie knot member extent shape_at leaf inside cov below under keep trim hit members split alter take_out begins after sum size inner member_types vector_shape elements unfold_type shape_of kind bases is_kind pairwise alike_inner alike fits slot typed type_of inner_of argument_type result_shape slots kind_shape frame is_path by_part any_vector optional arm_of arm source_of source further step_from path_of front indexes target mark_count marks_before marked mark_at by_mark emits case_at statement statements_from block_tree body_tree ask_operand ask_picked ask_components ask_steps asks gives need_at need_from need needs overlap without storing giving before idle wholly upon out_break out_continue of_case of_continuing of_body each union concat through most quiet only_next obeys kept turning valued after_continuing walk after_body lacking stable sweep around amid somewhere loops reentry join_at round settle enough smallest every presently part_type element_type pointee_type pointee same same_part is_value holds_in holds_unsized pointee_holds holds_either fits_index has_vector_size component_count count_components fits_compose fits_variable fits_expression judged_expression fits_return fits_statement at_top in_case in_body unless strays failing lower lowest blamed_expression blamed_statement ending start_needs faults needs_expression starts verdict pieces at_point limited answer_by judge has_shape clearance get_subpart has within contains merge on_none add entries width depth over
is_clear = refl

-- sums; and whether the first is at least the second
unfoldable operate : ℕ → List ℕ → ℕ
operate e [] = 1
operate e (x ∷ []) = x
operate e (x ∷ y ∷ ns) = cond (eqb e 13) (cond (ltb x y) 0 1) (x + y)

-- 5, 6, 7; two turns; the element 3
unfoldable start : State
start q =
    cond (begins (slot (argument 0)) q) (cond (ends 0 q) 5 (cond (ends 1 q) 6 7))
    (cond (begins (slot (argument 1)) q) 2 (cond (begins (slot (argument 2)) q) 3 0))
  where
    ends : ℕ → Place → Bool
    ends i p = begins (slot (argument 0) ++ (i ∷ [])) p

-- the vector's component 0 and the global are changed: they are unneeded
unfoldable start' : State
start' = put (slot (argument 0) ++ (0 ∷ [])) (λ q. 9) (put (slot (global 0) ++ []) (λ q. 8) start)

component_unneeded : Unneeded report (argument 0) (0 ∷ [])
component_unneeded = record { input = refl; above = unfold cov context slot get_subpart in refl; beneath = unfold bare entries_at entry_at context slot get_subpart in refl }

global-unneeded : Unneeded report (global 0) []
global-unneeded = record { input = refl; above = unfold cov context slot get_subpart in refl; beneath = unfold bare entries_at entry_at context slot get_subpart in refl }

starts_differ : Changed report start start'
unfolding start'
starts_differ = changed (argument 0) (0 ∷ []) (λ q. 9) component_unneeded (changed (global 0) [] (λ q. 8) global-unneeded unchanged)

-- the number that a run returns, where it ends
unfoldable returns : Option State → Option ℕ
returns nothing = nothing
returns (present s) = present (s (slot result))

runs : Mode → ℕ → State → Option ℕ
runs mode fuel s = returns (run scope report (numberwise operate) mode fuel s)

-- two turns suffice, one does not; both starts give 6 in both ways of running
runs-end : (runs everything 1 start ≡ nothing) × (runs everything 2 start ≡ present 6) × (runs needed_only 2 start ≡ present 6) × (runs everything 2 start' ≡ present 6) × (runs needed_only 2 start' ≡ present 6)
unfolding runs returns start start' operate numberwise program function tie knot member extent shape_at leaf inside cov below under keep trim hit members split alter take_out begins after sum size inner member_types vector_shape elements unfold_type shape_of kind bases is_kind pairwise alike_inner alike fits slot typed type_of inner_of argument_type result_shape slots kind_shape frame is_path by_part any_vector optional arm_of arm source_of source further step_from path_of front indexes target mark_count marks_before marked mark_at by_mark emits case_at statement statements_from block_tree body_tree ask_operand ask_picked ask_components ask_steps asks gives need_at need_from need needs overlap without storing giving before idle wholly upon out_break out_continue of_case of_continuing of_body each union concat through most quiet only_next obeys kept turning valued after_continuing walk after_body lacking stable sweep around amid somewhere loops reentry join_at round settle enough smallest every presently part_type element_type pointee_type pointee same same_part is_value holds_in holds_unsized pointee_holds holds_either fits_index has_vector_size component_count count_components fits_compose fits_variable fits_expression judged_expression fits_return fits_statement at_top in_case in_body unless strays failing lower lowest blamed_expression blamed_statement ending start_needs faults needs_expression starts verdict pieces at_point limited answer_by judge has_shape clearance get_subpart has within contains merge on_none add entries width depth over look put element onward part_of picked zero_in number_in value_from value is_zero number_of element_by value_operand composed concatenated follow place loaded evaluate stored perform give_back then end_by turns position or_else pick in_picked passing again exec keeps begin final run
runs-end = (refl, refl, refl, refl, refl)

-- and so they do however they run, by the claim
result-required : Required scope request (slot result)
result-required = record { exists = unfold program function tie knot member extent shape_at leaf inside cov below under keep trim hit members split alter take_out begins after sum size inner member_types vector_shape elements unfold_type shape_of kind bases is_kind pairwise alike_inner alike fits slot typed type_of inner_of argument_type result_shape slots kind_shape frame is_path by_part any_vector optional arm_of arm source_of source further step_from path_of front indexes target mark_count marks_before marked mark_at by_mark emits case_at statement statements_from block_tree body_tree ask_operand ask_picked ask_components ask_steps asks gives need_at need_from need needs overlap without storing giving before idle wholly upon out_break out_continue of_case of_continuing of_body each union concat through most quiet only_next obeys kept turning valued after_continuing walk after_body lacking stable sweep around amid somewhere loops reentry join_at round settle enough smallest every presently part_type element_type pointee_type pointee same same_part is_value holds_in holds_unsized pointee_holds holds_either fits_index has_vector_size component_count count_components fits_compose fits_variable fits_expression judged_expression fits_return fits_statement at_top in_case in_body unless strays failing lower lowest blamed_expression blamed_statement ending start_needs faults needs_expression starts verdict pieces at_point limited answer_by judge has_shape clearance get_subpart has within contains merge on_none add entries width depth over in refl; wanted = unfold cov asked slot get_subpart in refl }

same_results : (one other : Mode) (m n : ℕ) (s t : State) → run scope report (numberwise operate) one m start ≡ present s →
    run scope report (numberwise operate) other n start' ≡ present t → s (slot result) ≡ t (slot result)
same_results one other m n s t e f =
    demand3.holds scope request report is_clear (numberwise operate) (numberwise-by_component scope operate) start start' starts_differ one other m n s t e f (slot result) result-required

-- Without the mark of the store into the array it is not clear, at that store; and the run that leaves it out returns something else.
abbrev unmarked_report : Report
unmarked_report = record { marks = 1 ∷ 0 ∷ 1 ∷ 0 ∷ 1 ∷ 1 ∷ 1 ∷ 0 ∷ 0 ∷ 1 ∷ 1 ∷ 1 ∷ []; globals = none; args = needed }

mark_missing : clearance scope request unmarked_report ≡ at_statement 1
unfolding program function tie knot member extent shape_at leaf inside cov below under keep trim hit members split alter take_out begins after sum size inner member_types vector_shape elements unfold_type shape_of kind bases is_kind pairwise alike_inner alike fits slot typed type_of inner_of argument_type result_shape slots kind_shape frame is_path by_part any_vector optional arm_of arm source_of source further step_from path_of front indexes target mark_count marks_before marked mark_at by_mark emits case_at statement statements_from block_tree body_tree ask_operand ask_picked ask_components ask_steps asks gives need_at need_from need needs overlap without storing giving before idle wholly upon out_break out_continue of_case of_continuing of_body each union concat through most quiet only_next obeys kept turning valued after_continuing walk after_body lacking stable sweep around amid somewhere loops reentry join_at round settle enough smallest every presently part_type element_type pointee_type pointee same same_part is_value holds_in holds_unsized pointee_holds holds_either fits_index has_vector_size component_count count_components fits_compose fits_variable fits_expression judged_expression fits_return fits_statement at_top in_case in_body unless strays failing lower lowest blamed_expression blamed_statement ending start_needs faults needs_expression starts verdict pieces at_point limited answer_by judge has_shape clearance get_subpart has within contains merge on_none add entries width depth over
mark_missing = refl

unmarked_runs : Mode → State → Option ℕ
unmarked_runs mode s = returns (run scope unmarked_report (numberwise operate) mode 2 s)

mark_matters : (unmarked_runs everything start ≡ present 6) × (unmarked_runs needed_only start ≡ present 0)
unfolding unmarked_runs returns start operate numberwise program function tie knot member extent shape_at leaf inside cov below under keep trim hit members split alter take_out begins after sum size inner member_types vector_shape elements unfold_type shape_of kind bases is_kind pairwise alike_inner alike fits slot typed type_of inner_of argument_type result_shape slots kind_shape frame is_path by_part any_vector optional arm_of arm source_of source further step_from path_of front indexes target mark_count marks_before marked mark_at by_mark emits case_at statement statements_from block_tree body_tree ask_operand ask_picked ask_components ask_steps asks gives need_at need_from need needs overlap without storing giving before idle wholly upon out_break out_continue of_case of_continuing of_body each union concat through most quiet only_next obeys kept turning valued after_continuing walk after_body lacking stable sweep around amid somewhere loops reentry join_at round settle enough smallest every presently part_type element_type pointee_type pointee same same_part is_value holds_in holds_unsized pointee_holds holds_either fits_index has_vector_size component_count count_components fits_compose fits_variable fits_expression judged_expression fits_return fits_statement at_top in_case in_body unless strays failing lower lowest blamed_expression blamed_statement ending start_needs faults needs_expression starts verdict pieces at_point limited answer_by judge has_shape clearance get_subpart has within contains merge on_none add entries width depth over look put element onward part_of picked zero_in number_in value_from value is_zero number_of element_by value_operand composed concatenated follow place loaded evaluate stored perform give_back then end_by turns position or_else pick in_picked passing again exec keeps begin final run
mark_matters = (refl, refl)

-- Which mark is missing is told by its position: the emit of 9 to 11 has three, the positions 2 to 4, and here it lacks the last.
abbrev emit_report : Report
emit_report = record { marks = 1 ∷ 1 ∷ 1 ∷ 0 ∷ 0 ∷ 1 ∷ 1 ∷ 0 ∷ 0 ∷ 1 ∷ 1 ∷ 1 ∷ []; globals = none; args = needed }

settled : (Table → List ℕ) → Option Table → List ℕ
settled f nothing = []
settled f (present t) = f t

emit_missing : let t = smallest (setting scope request) (body scope emit_report) (ending scope request) in
    (settled (faults scope request emit_report) t ≡ 2 ∷ []) × (settled (missing_marks scope request emit_report) t ≡ 4 ∷ [])
unfolding settled missing_marks program function tie knot member extent shape_at leaf inside cov below under keep trim hit members split alter take_out begins after sum size inner member_types vector_shape elements unfold_type shape_of kind bases is_kind pairwise alike_inner alike fits slot typed type_of inner_of argument_type result_shape slots kind_shape frame is_path by_part any_vector optional arm_of arm source_of source further step_from path_of front indexes target mark_count marks_before marked mark_at by_mark emits case_at statement statements_from block_tree body_tree ask_operand ask_picked ask_components ask_steps asks gives need_at need_from need needs overlap without storing giving before idle wholly upon out_break out_continue of_case of_continuing of_body each union concat through most quiet only_next obeys kept turning valued after_continuing walk after_body lacking stable sweep around amid somewhere loops reentry join_at round settle enough smallest every presently part_type element_type pointee_type pointee same same_part is_value holds_in holds_unsized pointee_holds holds_either fits_index has_vector_size component_count count_components fits_compose fits_variable fits_expression judged_expression fits_return fits_statement at_top in_case in_body unless strays failing lower lowest blamed_expression blamed_statement ending start_needs faults needs_expression starts verdict pieces at_point limited answer_by judge has_shape clearance get_subpart has within contains merge on_none add entries width depth over
emit_missing = (refl, refl)

-- Without the vector in the context it is not clear, at the start; and a change that this context calls unneeded changes what is returned.
abbrev shorter_report : Report
shorter_report = record { marks = report.marks; globals = none; args = more (variable 1) all (more (variable 2) all none) }

entry_missing : clearance scope request shorter_report ≡ at_start
unfolding program function tie knot member extent shape_at leaf inside cov below under keep trim hit members split alter take_out begins after sum size inner member_types vector_shape elements unfold_type shape_of kind bases is_kind pairwise alike_inner alike fits slot typed type_of inner_of argument_type result_shape slots kind_shape frame is_path by_part any_vector optional arm_of arm source_of source further step_from path_of front indexes target mark_count marks_before marked mark_at by_mark emits case_at statement statements_from block_tree body_tree ask_operand ask_picked ask_components ask_steps asks gives need_at need_from need needs overlap without storing giving before idle wholly upon out_break out_continue of_case of_continuing of_body each union concat through most quiet only_next obeys kept turning valued after_continuing walk after_body lacking stable sweep around amid somewhere loops reentry join_at round settle enough smallest every presently part_type element_type pointee_type pointee same same_part is_value holds_in holds_unsized pointee_holds holds_either fits_index has_vector_size component_count count_components fits_compose fits_variable fits_expression judged_expression fits_return fits_statement at_top in_case in_body unless strays failing lower lowest blamed_expression blamed_statement ending start_needs faults needs_expression starts verdict pieces at_point limited answer_by judge has_shape clearance get_subpart has within contains merge on_none add entries width depth over
entry_missing = refl

unfoldable start'' : State
start'' = put (slot (argument 0) ++ (1 ∷ [])) (λ q. 4) start

called_unneeded : Changed shorter_report start start''
unfolding start'' cov context slot get_subpart bare entries_at entry_at
called_unneeded = changed (argument 0) (1 ∷ []) (λ q. 4) (record { input = refl; above = refl; beneath = refl }) unchanged

shorter_runs : State → Option ℕ
shorter_runs s = returns (run scope shorter_report (numberwise operate) everything 2 s)

entry_matters : (shorter_runs start ≡ present 6) × (shorter_runs start'' ≡ present 4)
unfolding shorter_runs returns start start'' operate numberwise program function tie knot member extent shape_at leaf inside cov below under keep trim hit members split alter take_out begins after sum size inner member_types vector_shape elements unfold_type shape_of kind bases is_kind pairwise alike_inner alike fits slot typed type_of inner_of argument_type result_shape slots kind_shape frame is_path by_part any_vector optional arm_of arm source_of source further step_from path_of front indexes target mark_count marks_before marked mark_at by_mark emits case_at statement statements_from block_tree body_tree ask_operand ask_picked ask_components ask_steps asks gives need_at need_from need needs overlap without storing giving before idle wholly upon out_break out_continue of_case of_continuing of_body each union concat through most quiet only_next obeys kept turning valued after_continuing walk after_body lacking stable sweep around amid somewhere loops reentry join_at round settle enough smallest every presently part_type element_type pointee_type pointee same same_part is_value holds_in holds_unsized pointee_holds holds_either fits_index has_vector_size component_count count_components fits_compose fits_variable fits_expression judged_expression fits_return fits_statement at_top in_case in_body unless strays failing lower lowest blamed_expression blamed_statement ending start_needs faults needs_expression starts verdict pieces at_point limited answer_by judge has_shape clearance get_subpart has within contains merge on_none add entries width depth over look put element onward part_of picked zero_in number_in value_from value is_zero number_of element_by value_operand composed concatenated follow place loaded evaluate stored perform give_back then end_by turns position or_else pick in_picked passing again exec keeps begin final run
entry_matters = (refl, refl)
