-- The points of 15 and 16 at an if that breaks its rule: before it stands what is kept, the union of its branches and the needs after it. The
-- union alone is no point; before the same if, marked, it is.
use Prim.Native.Nat.{ℕ}
use mathlib.Core.Path.{◌≡◌, refl}
use mathlib.Core.Bool.{Bool, true, false, not, ◌&&◌}
use mathlib.Core.List.{[], ◌∷◌}
use mathlib.Core.Option.{none as nothing}
use Rattle.part.specs.PartReq.{PartReq, all, none, more, get_subpart, has, within, contains, merge, on_none, add, entries, width, depth}
use Rattle.part.specs.PartReq.{over}
use Rattle.module.specs.Module.{Scalar, FunctionArgument, GlobalVariable, Store, If, Function, Module}
use Rattle.module.specs.Knot.{tie, knot}
use Rattle.module.specs.Marks.{mark_count, marks_before}
use Rattle.clearance.specs.Shape.{member, extent, shape_at, leaf, inside, cov, below, under, keep, trim, hit, members, split, alter, take_out}
use Rattle.clearance.specs.Shape.{begins, after, sum, size}
use Rattle.clearance.specs.Scope.{inner, member_types, vector_shape, elements, unfold_type, shape_of, kind, bases, is_kind, pairwise, alike_inner}
use Rattle.clearance.specs.Scope.{alike, fits, slot, typed, type_of, inner_of, argument_type, result_shape, slots, kind_shape, frame, is_path, by_part}
use Rattle.clearance.specs.Scope.{any_vector, optional, arm_of, arm, source_of, source, further, step_from, path_of, front, indexes, target}
use Rattle.clearance.specs.Scope.{variable}
use Rattle.clearance.specs.Tree.{marked, mark_at, by_mark, emits, case_at, statement, statements_from, block_tree, body_tree}
use Rattle.clearance.specs.Needs.{ask_operand, ask_picked, ask_components, ask_steps, asks, gives, need_at, need_from, need, needs, overlap, without}
use Rattle.clearance.specs.Needs.{storing, giving, before, idle, wholly, upon, out_break, out_continue, of_case, of_continuing, of_body, each, union}
use Rattle.clearance.specs.Needs.{concat, through, most, quiet, only_next, obeys, kept, turning, valued, after_continuing, walk, after_body, lacking}
use Rattle.clearance.specs.Needs.{stable, sweep, around, amid, somewhere, loops, reentry, join_at, round, settle, enough, smallest}
use Rattle.clearance.specs.Judged.{every, presently, part_type, element_type, pointee_type, pointee, same, same_part, is_value, holds_in, holds_unsized, pointee_holds, holds_either}
use Rattle.clearance.specs.Judged.{fits_index, has_vector_size, component_count, count_components, fits_compose, fits_variable, fits_expression, judged_expression}
use Rattle.clearance.specs.Judged.{fits_return, fits_statement, at_top, in_case, in_body, unless, strays, failing, lower, lowest, blamed_expression}
use Rattle.clearance.specs.Judged.{blamed_statement}
use Rattle.clearance.specs.Verdict.{ending, start_needs, faults, needs_expression, starts, verdict, pieces, at_point, limited, answer_by, judge}
use Rattle.clearance.specs.Verdict.{has_shape, clearance}

program : Module
program = record { types = Scalar ∷ []; globals = 0 ∷ []; functions = [] }

-- of three numbers: by the last, the first or the second is stored into the global
function : Function
function = record {
  entry = true;
  result = nothing;
  arguments = record { type = 0; binding = nothing } ∷ record { type = 0; binding = nothing } ∷ record { type = 0; binding = nothing } ∷ [];
  locals = [];
  expressions =
      record { type = 0; expression = FunctionArgument 0 } ∷ record { type = 0; expression = FunctionArgument 1 }
      ∷ record { type = 0; expression = FunctionArgument 2 } ∷ record { type = 0; expression = GlobalVariable 0 } ∷ [];
  statements = Store 3 0 ∷ Store 3 1 ∷ If 2 0 1 ∷ [];
  blocks = record { first = 0; count = 1 } ∷ record { first = 1; count = 1 } ∷ record { first = 2; count = 1 } ∷ [];
}

needs_both : PartReq → Bool
needs_both n = contains n (more (variable 2) (more (variable 0) all (more (variable 1) all none)) none)

needs_global : PartReq → Bool
needs_global n = contains n (more (variable 0) (more (variable 0) all none) none)

-- whether a test holds at some point, with the mark of the if; asked is the global
at-point : ℕ → (PartReq → Bool) → Bool
at-point mark test =
    at_point (record { program = program; function = function }) (record { globals = more (variable 0) all none; value = none })
    (record { marks = 1 ∷ 1 ∷ mark ∷ []; globals = none; args = none }) [] test

-- both numbers are needed without the global before the marked if alone, and with it before the unmarked one alone
examples :
    at-point 1 (λ n. needs_both n && not (needs_global n)) ∷ at-point 1 (λ n. needs_both n && needs_global n)
    ∷ at-point 0 (λ n. needs_both n && not (needs_global n)) ∷ at-point 0 (λ n. needs_both n && needs_global n) ∷ []
    ≡ true ∷ false ∷ false ∷ true ∷ []
unfolding at-point needs_both needs_global program function tie knot member extent shape_at leaf inside cov below under keep trim hit members split alter take_out begins after sum size inner member_types vector_shape elements unfold_type shape_of kind bases is_kind pairwise alike_inner alike fits slot typed type_of inner_of argument_type result_shape slots kind_shape frame is_path by_part any_vector optional arm_of arm source_of source further step_from path_of front indexes target mark_count marks_before marked mark_at by_mark emits case_at statement statements_from block_tree body_tree ask_operand ask_picked ask_components ask_steps asks gives need_at need_from need needs overlap without storing giving before idle wholly upon out_break out_continue of_case of_continuing of_body each union concat through most quiet only_next obeys kept turning valued after_continuing walk after_body lacking stable sweep around amid somewhere loops reentry join_at round settle enough smallest every presently part_type element_type pointee_type pointee same same_part is_value holds_in holds_unsized pointee_holds holds_either fits_index has_vector_size component_count count_components fits_compose fits_variable fits_expression judged_expression fits_return fits_statement at_top in_case in_body unless strays failing lower lowest blamed_expression blamed_statement ending start_needs faults needs_expression starts verdict pieces at_point limited answer_by judge has_shape clearance get_subpart has within contains merge on_none add entries width depth over
examples = refl
