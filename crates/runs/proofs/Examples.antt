-- What the clearance answers on small functions: one line of the table for each rule that only reading 01 can check.
use Prim.Native.Nat.{ℕ}
use mathlib.Core.Path.{◌≡◌, refl}
use mathlib.Core.Bool.{true}
use mathlib.Core.List.{List, [], ◌∷◌}
use mathlib.Core.Option.{some as present, none as nothing}
use Rattle.part.specs.PartReq.{PartReq, all, none, more, get_subpart, has, within, contains, merge, on_none, add, entries, width, depth}
use Rattle.part.specs.PartReq.{over}
use Rattle.module.specs.Module.{Expression, Literal, Typed, Statement, BlockRange, Scalar, Vector, Pointer, Unary, Swizzle, Compose, Array, Struct, Matrix, Kill, Break, Loop, FunctionArgument, LocalVariable, GlobalVariable, AccessIndex}
use Rattle.module.specs.Module.{Emit, Store, Return, If, Function, Module}
use Rattle.module.specs.Knot.{tie, knot}
use Rattle.clearance.specs.Shape.{member, extent, shape_at, leaf, inside, cov, below, under, keep, trim, hit, members, split, alter, take_out, sum}
use Rattle.clearance.specs.Shape.{size}
use Rattle.clearance.specs.Scope.{inner, member_types, vector_shape, elements, unfold_type, shape_of, kind, bases, is_kind, pairwise, alike_inner}
use Rattle.clearance.specs.Scope.{alike, fits, slot, typed, type_of, inner_of, argument_type, result_shape, slots, kind_shape, frame, is_path, by_part}
use Rattle.clearance.specs.Scope.{any_vector, optional, arm_of, arm, source_of, source, further, step_from, path_of, front, indexes, target}
use Rattle.module.specs.Marks.{mark_count, marks_before}
use Rattle.clearance.specs.Tree.{marked, mark_at, by_mark, emits, case_at, statement, statements_from, block_tree, body_tree}
use Rattle.clearance.specs.Needs.{ask_operand, ask_picked, ask_components, ask_steps, asks, gives, need_at, need_from, need, needs, overlap, without}
use Rattle.clearance.specs.Needs.{storing, giving, before, idle, wholly, upon, out_break, out_continue, of_case, of_continuing, of_body, each, union, concat, through, most}
use Rattle.clearance.specs.Needs.{quiet, only_next, obeys, kept, turning, valued, after_continuing, walk, after_body, lacking, stable, sweep}
use Rattle.clearance.specs.Needs.{around, amid, somewhere, loops, reentry, join_at, round, settle, enough, smallest}
use Rattle.clearance.specs.Judged.{every, presently, part_type, element_type, pointee_type, pointee, same, same_part, is_value, holds_in, holds_unsized, pointee_holds, holds_either}
use Rattle.clearance.specs.Judged.{fits_index, has_vector_size, component_count, count_components, fits_compose, fits_variable, fits_expression, judged_expression}
use Rattle.clearance.specs.Judged.{fits_return, fits_statement, at_top, in_case, in_body, unless, strays, failing, lower, lowest, blamed_expression}
use Rattle.clearance.specs.Judged.{blamed_statement}
use Rattle.clearance.specs.Verdict.{ending, start_needs, faults, needs_expression, starts, verdict, pieces, at_point, limited, answer_by, judge, has_shape}
use Rattle.clearance.specs.Verdict.{clearance}
use Rattle.clearance.specs.Scope.{variable}
use Rattle.clearance.specs.Verdict.{Answer, unjudged_expression, unjudged_statement, at_start, refused, clear, at_statement}

program : Module
program = record {
  types =
      -- 0, 1: a number, a vector, and 2, 3 pointers to them; 4, 5: an array; 6, 7: a struct; 8, 9: a run-sized array; 10, 11: a matrix; 13: a
      -- struct with a pointer to the run-sized array
      Scalar ∷ Vector 3 ∷ Pointer 0 ∷ Pointer 1 ∷ Array 0 4 ∷ Pointer 4
      ∷ Struct (record { type = 0; binding = nothing } ∷ record { type = 1; binding = nothing } ∷ []) ∷ Pointer 6 ∷ Array 0 0 ∷ Pointer 8
      ∷ Matrix 2 3 ∷ Pointer 10 ∷ Vector 2 ∷ Struct (record { type = 9; binding = nothing } ∷ []) ∷ [];
  globals = 6 ∷ 8 ∷ 10 ∷ 4 ∷ [];
  functions = [];
}

-- a function of a number, a vector, a number and that struct, that returns a number
function : List Typed → List Statement → List BlockRange → Function
function es ss bs = record {
  entry = true;
  result = present (record { type = 0; binding = nothing });
  arguments =
      record { type = 0; binding = nothing } ∷ record { type = 1; binding = nothing } ∷ record { type = 0; binding = nothing }
      ∷ record { type = 13; binding = nothing } ∷ [];
  locals = 0 ∷ 0 ∷ [];
  expressions = es;
  statements = ss;
  blocks = bs;
}

-- with its marks, the asked globals and value, and the context's globals and arguments
answer : List Typed → List Statement → List BlockRange → List ℕ → PartReq → PartReq → PartReq → PartReq → Answer
answer es ss bs marks asked_globals asked_value globals args =
    clearance (record { program = program; function = function es ss bs }) (record { globals = asked_globals; value = asked_value })
    (record { marks = marks; globals = globals; args = args })

-- an expression with its type, a block, a variable's need before others
ex : ℕ → Expression → Typed
ex t x = record { type = t; expression = x }

bk : ℕ → ℕ → BlockRange
bk first count = record { first = first; count = count }

v : ℕ → PartReq → PartReq → PartReq
v n p r = more (variable n) p r

answers : List Answer
answers =
    -- a pointer that is used as a value names its user
    answer (ex 2 (LocalVariable 0) ∷ ex 0 (Unary 0) ∷ []) [] (bk 0 0 ∷ []) [] none none none none
    -- also where it has its variable's type
    ∷ answer (ex 0 (LocalVariable 0) ∷ ex 0 (Unary 0) ∷ []) [] (bk 0 0 ∷ []) [] none none none none
    -- a pointer that is no path names itself
    ∷ answer (ex 2 Literal ∷ []) [] (bk 0 0 ∷ []) [] none none none none
    -- a path of its variable's type, indexed and stored into
    ∷ answer (ex 1 (FunctionArgument 1) ∷ ex 6 (GlobalVariable 0) ∷ ex 1 (AccessIndex 1 1) ∷ []) (Store 2 0 ∷ []) (bk 0 1 ∷ []) (1 ∷ []) (v 0 all none) none (v 0 (more 0 all none) none) (v 1 all none)
    -- a run-sized array is not judged
    ∷ answer (ex 9 (GlobalVariable 1) ∷ []) [] (bk 0 0 ∷ []) [] none none none none
    -- what has a pointer to one does not hold it
    ∷ answer (ex 13 (FunctionArgument 3) ∷ []) [] (bk 0 0 ∷ []) [] none none none none
    -- a break without a target
    ∷ answer [] (Break ∷ []) (bk 0 1 ∷ []) (1 ∷ []) none none none none
    -- marks of another shape
    ∷ answer [] (Break ∷ []) (bk 0 1 ∷ []) (1 ∷ 1 ∷ []) none none none none
    -- a kind that is not judged
    ∷ answer [] (Kill ∷ []) (bk 0 1 ∷ []) [] none none none none
    -- a store into a member of a struct that is asked whole: the other member stays needed
    ∷ answer (ex 1 (FunctionArgument 1) ∷ ex 7 (GlobalVariable 0) ∷ ex 3 (AccessIndex 1 1) ∷ []) (Store 2 0 ∷ []) (bk 0 1 ∷ []) (1 ∷ []) (v 0 all none) none (v 0 (more 0 all none) none) (v 1 all none)
    -- and the context must have it
    ∷ answer (ex 1 (FunctionArgument 1) ∷ ex 7 (GlobalVariable 0) ∷ ex 3 (AccessIndex 1 1) ∷ []) (Store 2 0 ∷ []) (bk 0 1 ∷ []) (1 ∷ []) (v 0 all none) none none (v 1 all none)
    -- such a store must be marked
    ∷ answer (ex 1 (FunctionArgument 1) ∷ ex 7 (GlobalVariable 0) ∷ ex 3 (AccessIndex 1 1) ∷ []) (Store 2 0 ∷ []) (bk 0 1 ∷ []) (0 ∷ []) (v 0 all none) none (v 0 all none) (v 1 all none)
    -- one that overlaps no need need not
    ∷ answer (ex 1 (FunctionArgument 1) ∷ ex 7 (GlobalVariable 0) ∷ ex 3 (AccessIndex 1 1) ∷ []) (Store 2 0 ∷ []) (bk 0 1 ∷ []) (0 ∷ []) (v 0 (more 0 all none) none) none (v 0 (more 0 all none) none) none
    -- a store into an element leaves the whole array needed
    ∷ answer (ex 0 (FunctionArgument 0) ∷ ex 5 (GlobalVariable 3) ∷ ex 2 (AccessIndex 1 1) ∷ []) (Store 2 0 ∷ []) (bk 0 1 ∷ []) (1 ∷ []) (v 3 all none) none (v 3 all none) (v 0 all none)
    -- and the context must have all of it
    ∷ answer (ex 0 (FunctionArgument 0) ∷ ex 5 (GlobalVariable 3) ∷ ex 2 (AccessIndex 1 1) ∷ []) (Store 2 0 ∷ []) (bk 0 1 ∷ []) (1 ∷ []) (v 3 all none) none (v 3 (more 0 all none) none) (v 0 all none)
    -- an index outside its base
    ∷ answer (ex 0 (FunctionArgument 0) ∷ ex 5 (GlobalVariable 3) ∷ ex 2 (AccessIndex 1 4) ∷ []) (Store 2 0 ∷ []) (bk 0 1 ∷ []) (1 ∷ []) (v 3 all none) none none none
    -- a column that is stored leaves the other
    ∷ answer (ex 1 (FunctionArgument 1) ∷ ex 11 (GlobalVariable 2) ∷ ex 3 (AccessIndex 1 1) ∷ []) (Store 2 0 ∷ []) (bk 0 1 ∷ []) (1 ∷ []) (v 2 all none) none (v 2 (more 0 all none) none) (v 1 all none)
    -- a swizzle needs what its pattern picks
    ∷ answer (ex 1 (FunctionArgument 1) ∷ ex 12 (Swizzle 0 (2 ∷ 0 ∷ [])) ∷ ex 0 (AccessIndex 1 1) ∷ []) (Emit 1 2 ∷ Return (present 2) ∷ []) (bk 0 2 ∷ []) (1 ∷ 1 ∷ 1 ∷ []) none all none (v 1 (more 0 all none) none)
    -- and nothing else will do
    ∷ answer (ex 1 (FunctionArgument 1) ∷ ex 12 (Swizzle 0 (2 ∷ 0 ∷ [])) ∷ ex 0 (AccessIndex 1 1) ∷ []) (Emit 1 2 ∷ Return (present 2) ∷ []) (bk 0 2 ∷ []) (1 ∷ 1 ∷ 1 ∷ []) none all none (v 1 (more 2 all none) none)
    -- a letter outside the vector
    ∷ answer (ex 1 (FunctionArgument 1) ∷ ex 12 (Swizzle 0 (3 ∷ 0 ∷ [])) ∷ []) [] (bk 0 0 ∷ []) [] none all none none
    -- an expression with a need must be marked
    ∷ answer (ex 1 (FunctionArgument 1) ∷ ex 12 (Swizzle 0 (2 ∷ 0 ∷ [])) ∷ ex 0 (AccessIndex 1 1) ∷ []) (Emit 1 2 ∷ Return (present 2) ∷ []) (bk 0 2 ∷ []) (0 ∷ 1 ∷ 1 ∷ []) none all none (v 1 all none)
    -- one that no emit gives is needed at the start
    ∷ answer (ex 1 (FunctionArgument 1) ∷ ex 12 (Swizzle 0 (2 ∷ 0 ∷ [])) ∷ ex 0 (AccessIndex 1 1) ∷ []) (Emit 2 2 ∷ Return (present 2) ∷ []) (bk 0 2 ∷ []) (1 ∷ 1 ∷ []) none all none (v 1 all none)
    -- a vector from scalars goes by component
    ∷ answer (ex 0 (FunctionArgument 0) ∷ ex 0 (FunctionArgument 2) ∷ ex 1 (Compose (0 ∷ 1 ∷ 0 ∷ [])) ∷ ex 0 (AccessIndex 2 1) ∷ []) (Emit 2 3 ∷ Return (present 3) ∷ []) (bk 0 2 ∷ []) (1 ∷ 1 ∷ 1 ∷ []) none all none (v 2 all none)
    -- one from vectors needs all of them whole
    ∷ answer (ex 0 (FunctionArgument 0) ∷ ex 1 (FunctionArgument 1) ∷ ex 12 (Swizzle 1 (0 ∷ 0 ∷ [])) ∷ ex 1 (Compose (2 ∷ 0 ∷ [])) ∷ ex 0 (AccessIndex 3 2) ∷ []) (Emit 2 4 ∷ Return (present 4) ∷ []) (bk 0 2 ∷ []) (1 ∷ 1 ∷ 1 ∷ 1 ∷ []) none all none (v 0 all (v 1 (more 0 all none) none))
    -- the vector among them too
    ∷ answer (ex 0 (FunctionArgument 0) ∷ ex 1 (FunctionArgument 1) ∷ ex 12 (Swizzle 1 (0 ∷ 0 ∷ [])) ∷ ex 1 (Compose (2 ∷ 0 ∷ [])) ∷ ex 0 (AccessIndex 3 2) ∷ []) (Emit 2 4 ∷ Return (present 4) ∷ []) (bk 0 2 ∷ []) (1 ∷ 1 ∷ 1 ∷ 1 ∷ []) none all none (v 0 all none)
    -- a return leaves a continuing block
    ∷ answer (ex 0 (FunctionArgument 0) ∷ []) (Return nothing ∷ Loop 0 1 nothing ∷ []) (bk 0 0 ∷ bk 0 1 ∷ bk 1 1 ∷ []) (1 ∷ 1 ∷ []) none none none none
    -- a break leaves a continuing block
    ∷ answer (ex 0 (FunctionArgument 0) ∷ []) (Break ∷ Loop 0 1 nothing ∷ []) (bk 0 0 ∷ bk 0 1 ∷ bk 1 1 ∷ []) (1 ∷ 1 ∷ []) none none none none
    -- a break leaves an unmarked if
    ∷ answer (ex 0 (FunctionArgument 0) ∷ []) (Break ∷ If 0 0 1 ∷ Loop 2 3 nothing ∷ []) (bk 0 1 ∷ bk 1 0 ∷ bk 1 1 ∷ bk 2 0 ∷ bk 2 1 ∷ []) (1 ∷ 0 ∷ 1 ∷ []) none none none none
    -- marked, it needs its condition
    ∷ answer (ex 0 (FunctionArgument 0) ∷ []) (Break ∷ If 0 0 1 ∷ Loop 2 3 nothing ∷ []) (bk 0 1 ∷ bk 1 0 ∷ bk 1 1 ∷ bk 2 0 ∷ bk 2 1 ∷ []) (1 ∷ 1 ∷ 1 ∷ []) none none none (v 0 all none)
    -- inside an unmarked loop it stays
    ∷ answer (ex 0 (FunctionArgument 0) ∷ []) (Break ∷ If 0 0 1 ∷ Loop 2 3 nothing ∷ []) (bk 0 1 ∷ bk 1 0 ∷ bk 1 1 ∷ bk 2 0 ∷ bk 2 1 ∷ []) (1 ∷ 0 ∷ 0 ∷ []) none none none none
    -- a returned value of another type
    ∷ answer (ex 1 (FunctionArgument 1) ∷ []) (Return (present 0) ∷ []) (bk 0 1 ∷ []) (1 ∷ []) none all none none
    -- no index is outside a run-sized array
    ∷ answer [] [] (bk 0 0 ∷ []) [] (v 1 (more 60000 all none) none) none (v 1 (more 60000 all none) none) none
    -- a need outside its type is dropped
    ∷ answer [] [] (bk 0 0 ∷ []) [] (v 0 (more 7 all none) none) none none none
    ∷ []

examples :
    answers
    ≡ unjudged_expression 1 ∷ unjudged_expression 1 ∷ unjudged_expression 0 ∷ clear ∷ unjudged_expression 0 ∷ clear ∷ unjudged_statement 0 ∷ refused 21 ∷ unjudged_statement 0 ∷ clear ∷ at_start ∷ at_statement 0 ∷ clear ∷ clear ∷ at_start ∷ unjudged_expression 2 ∷ clear ∷ clear ∷ at_start ∷ unjudged_expression 1 ∷ at_statement 0 ∷ at_start ∷ clear ∷ clear ∷ at_start ∷ unjudged_statement 0 ∷ unjudged_statement 0 ∷ at_statement 1 ∷ clear ∷ clear ∷ unjudged_statement 0 ∷ clear ∷ clear ∷ []
unfolding answers answer function program v ex bk tie knot member extent shape_at leaf inside cov below under keep trim hit members split alter take_out sum size inner member_types vector_shape elements unfold_type shape_of kind bases is_kind pairwise alike_inner alike fits slot typed type_of inner_of argument_type result_shape slots kind_shape frame is_path by_part any_vector optional arm_of arm source_of source further step_from path_of front indexes target mark_count marks_before marked mark_at by_mark emits case_at statement statements_from block_tree body_tree ask_operand ask_picked ask_components ask_steps asks gives need_at need_from need needs overlap without storing giving before idle wholly upon out_break out_continue of_case of_continuing of_body each union concat through most quiet only_next obeys kept turning valued after_continuing walk after_body lacking stable sweep around amid somewhere loops reentry join_at round settle enough smallest every presently part_type element_type pointee_type pointee same same_part is_value holds_in holds_unsized pointee_holds holds_either fits_index has_vector_size component_count count_components fits_compose fits_variable fits_expression judged_expression fits_return fits_statement at_top in_case in_body unless strays failing lower lowest blamed_expression blamed_statement ending start_needs faults needs_expression starts verdict pieces at_point limited answer_by judge has_shape clearance get_subpart has within contains merge on_none add entries width depth over
examples = refl
