-- What is checked of a small function, computed: in a loop stands an if that breaks. Where its condition is needed there are two rounds. So the bound
-- is not passed always.
use Prim.Native.Nat.{ℕ}
use mathlib.Core.Path.{◌≡◌, refl}
use mathlib.Core.Bool.{true}
use mathlib.Core.List.{List, [], ◌∷◌}
use Rattle.module.specs.Module.{Scalar, FunctionArgument, Break, If, Loop, Function, Module}
use Rattle.part.specs.PartReq.{PartReq, all, none, more, get_subpart, has, within as in_part, contains, merge, on_none, add, entries, width, depth, over}
use Rattle.module.specs.Knot.{tie, knot}
use Rattle.clearance.specs.Shape.{member, extent, shape_at, leaf, inside, cov, below, under, keep, trim, hit, members, split, alter}
use Rattle.clearance.specs.Shape.{take_out, sum, size}
use Rattle.clearance.specs.Scope.{inner, member_types, vector_shape, elements, unfold_type, shape_of, kind, bases, is_kind, pairwise, alike_inner, alike, fits, slot}
use Rattle.clearance.specs.Scope.{typed, type_of, inner_of, argument_type, result_shape, slots, kind_shape, frame, is_path, by_part, any_vector, optional, arm_of, arm}
use Rattle.clearance.specs.Scope.{source_of, source, further, step_from, path_of, front, indexes, target, variable}
use Rattle.module.specs.Marks.{mark_count, marks_before}
use Rattle.clearance.specs.Tree.{marked, mark_at, by_mark, emits, case_at, statement, statements_from, block_tree, body_tree}
use Rattle.clearance.specs.Needs.{ask_operand, ask_picked, ask_components, ask_steps, asks, gives, need_at, need_from, need, needs, overlap, without, storing, giving}
use Rattle.clearance.specs.Needs.{before, idle, wholly, upon, out_break, out_continue, of_case, of_continuing, of_body, each, union, most, quiet, only_next}
use Rattle.clearance.specs.Needs.{obeys, kept, turning, valued, after_continuing, loops, reentry, join_at, enough}
use Rattle.clearance.specs.Judged.{every, presently, part_type, element_type, pointee_type, pointee, same, same_part, is_value, holds_in, holds_unsized, pointee_holds, holds_either, fits_index, has_vector_size, component_count}
use Rattle.clearance.specs.Judged.{count_components, fits_compose, fits_variable, fits_expression, judged_expression, fits_return, fits_statement, at_top, in_case, in_body, unless, strays, failing, lower, lowest}
use Rattle.clearance.specs.Judged.{blamed_expression, blamed_statement}
use Rattle.clearance.specs.Verdict.{ending, needs_expression, starts, verdict, pieces, has_shape}
use Rattle.clearance.specs.Verdict.{Answer, clear, at_start, at_statement}
use Rattle.pass.specs.Pass.{too_many, point, blame, enter, pointed, too_large, within, joining, part_from, part_of, asking, asking_all, store_asks, store_leaves, act_asks, act_leaves}
use Rattle.pass.specs.Pass.{acting, turning_on, valuing, entering, pass_cases, pass_inside, pass}
use Rattle.part.specs.Count.{same as equal, among, each_once}
use Rattle.part.specs.Collect.{cells_in}
use mathlib.Core.List.{flat_map}
use mathlib.Core.Option.{none as nothing}
use Rattle.pass.specs.Checked.{fresh, asked_of, pass_once, settled_by, settle_within, last_pass, answer_of, judge_by, checked}

program : Module
program = record { types = Scalar ∷ []; globals = []; functions = [] }

-- of one number; its blocks: the if's two, the loop's two, and the body
function : Function
function = record {
  entry = true;
  result = nothing;
  arguments = record { type = 0; binding = nothing } ∷ [];
  locals = [];
  expressions = record { type = 0; expression = FunctionArgument 0 } ∷ [];
  statements = Break ∷ If 0 0 1 ∷ Loop 2 3 nothing ∷ [];
  blocks =
      record { first = 0; count = 1 } ∷ record { first = 1; count = 0 } ∷ record { first = 1; count = 1 } ∷ record { first = 2; count = 0 }
      ∷ record { first = 2; count = 1 } ∷ [];
}

-- with its marks and the context's arguments; nothing is asked
answer : List ℕ → PartReq → Answer
answer marks args =
    checked (record { program = program; function = function }) (record { globals = none; value = none })
    (record { marks = marks; globals = none; args = args })

-- marked, the if needs its condition; the context must have it; unmarked, it must not be left by a break, unless the loop is unmarked too
examples :
    answer (1 ∷ 1 ∷ 1 ∷ []) (more (variable 0) all none) ∷ answer (1 ∷ 1 ∷ 1 ∷ []) none ∷ answer (1 ∷ 0 ∷ 1 ∷ []) none ∷ answer (1 ∷ 0 ∷ 0 ∷ []) none ∷ []
    ≡ clear ∷ at_start ∷ at_statement 1 ∷ clear ∷ []
unfolding answer function program tie knot member extent shape_at leaf inside cov below under keep trim hit members split alter take_out sum size inner member_types vector_shape elements unfold_type shape_of kind bases is_kind pairwise alike_inner alike fits slot typed type_of inner_of argument_type result_shape slots kind_shape frame is_path by_part any_vector optional arm_of arm source_of source further step_from path_of front indexes target mark_count marks_before marked mark_at by_mark emits case_at statement statements_from block_tree body_tree ask_operand ask_picked ask_components ask_steps asks gives need_at need_from need needs overlap without storing giving before idle wholly upon out_break out_continue of_case of_continuing of_body each union most quiet only_next obeys kept turning valued after_continuing loops reentry join_at enough every presently part_type element_type pointee_type pointee same same_part is_value holds_in holds_unsized pointee_holds holds_either fits_index has_vector_size component_count count_components fits_compose fits_variable fits_expression judged_expression fits_return fits_statement at_top in_case in_body unless strays failing lower lowest blamed_expression blamed_statement ending needs_expression starts verdict pieces has_shape get_subpart has in_part contains merge on_none add entries width depth over equal among each_once cells_in flat_map joining part_from part_of asking asking_all store_asks store_leaves act_asks act_leaves acting turning_on valuing entering too_large too_many point blame enter within pointed pass_cases pass_inside pass fresh asked_of pass_once settled_by settle_within last_pass answer_of judge_by checked
examples = refl
