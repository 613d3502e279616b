-- Conditions, selectors and indexes that are no scalars, run: a vector is zero where all its components are; as a selector it equals no case,
-- as an index it is out of range.
use Prim.Native.Nat.{ℕ}
use mathlib.Core.Path.{◌≡◌, refl}
use mathlib.Core.Bool.{true, cond}
use mathlib.Core.List.{List, [], ◌∷◌, ◌++◌}
use mathlib.Core.Option.{Option, some as present, none as nothing}
use Rattle.part.specs.PartReq.{none}
use Rattle.module.specs.Module.{Scalar, Vector, Atomic, Statement, FunctionArgument, Access, Emit, Return, If, Switch, Store, LocalVariable, Load, Array, Pointer, Function, Module}
use Rattle.module.specs.Knot.{tie, knot}
use Rattle.module.specs.Marks.{mark_count, marks_before}
use Rattle.clearance.specs.Shape.{member, extent, shape_at, leaf, begins, after}
use Rattle.clearance.specs.Scope.{inner, member_types, vector_shape, elements, unfold_type, shape_of, kind, bases, is_kind, pairwise, alike_inner, alike, slot, typed, type_of, inner_of}
use Rattle.clearance.specs.Scope.{argument_type, result_shape, slots, kind_shape, frame, is_path, by_part, any_vector, optional, arm_of, arm, source_of, source, further, step_from, path_of}
use Rattle.clearance.specs.Scope.{argument, result, local}
use Rattle.clearance.specs.Tree.{marked, mark_at, by_mark, emits, case_at, statement, statements_from, block_tree, body_tree}
use Rattle.clearance.specs.Needs.{gives, out_break, out_continue, each}
use Rattle.clearance.specs.Run.{look, put, element, onward, part_of, picked, zero_in, number_in, value_from, value, is_zero, number_of, element_by, value_operand, composed, concatenated}
use Rattle.clearance.specs.Run.{follow, place, loaded, evaluate, stored, perform, give_back, then, end_by, turns, position, or_else, pick}
use Rattle.clearance.specs.Run.{in_picked, passing, again, exec, keeps, begin, final, run, State, everything}
use Rattle.clearance.proofs.Operators.{numberwise}

-- 0: a number; 1: a two-vector; 2: an array of two numbers; 3, 4: pointers to a number and to the array; 5: an atomic number
program : Module
program = record { types = Scalar ∷ Vector 2 ∷ Array 0 2 ∷ Pointer 0 ∷ Pointer 2 ∷ Atomic ∷ []; globals = []; functions = [] }

-- Of a vector, two numbers and an atomic one. Blocks: the statement 0, the statement 1, and the rest.
function : List Statement → ℕ → Function
function ss rest = record {
  entry = true;
  result = present (record { type = 0; binding = nothing });
  arguments =
      record { type = 1; binding = nothing } ∷ record { type = 0; binding = nothing } ∷ record { type = 0; binding = nothing }
      ∷ record { type = 5; binding = nothing } ∷ [];
  locals = 2 ∷ [];
  expressions =
      -- 0 to 2: the arguments; 3, 4: the vector by itself, and by the first number
      record { type = 1; expression = FunctionArgument 0 } ∷ record { type = 0; expression = FunctionArgument 1 }
      ∷ record { type = 0; expression = FunctionArgument 2 } ∷ record { type = 0; expression = Access 0 0 }
      ∷ record { type = 0; expression = Access 0 1 }
      -- 5: the array; 6, 8: its element by the vector, and by the first number; 7, 9: those loaded
      ∷ record { type = 4; expression = LocalVariable 0 } ∷ record { type = 3; expression = Access 5 0 }
      ∷ record { type = 0; expression = Load 6 } ∷ record { type = 3; expression = Access 5 1 }
      ∷ record { type = 0; expression = Load 8 }
      -- 10: the atomic number; 11: the vector by it
      ∷ record { type = 5; expression = FunctionArgument 3 } ∷ record { type = 0; expression = Access 0 10 } ∷ [];
  statements = ss;
  blocks = record { first = 0; count = 1 } ∷ record { first = 1; count = 1 } ∷ record { first = 2; count = rest } ∷ [];
}

-- the vector (x, y), the numbers 1 and 2, the atomic 0; the array's elements are 3
start : ℕ → ℕ → State
start x y q =
    cond (begins (slot (argument 0) ++ (0 ∷ [])) q) x
    (cond (begins (slot (argument 0) ++ (1 ∷ [])) q) y
    (cond (begins (slot (argument 1)) q) 1 (cond (begins (slot (argument 2)) q) 2 (cond (begins (slot (local 0)) q) 3 0))))

returns : Option State → Option ℕ
returns nothing = nothing
returns (present s) = present (s (slot result))

-- what the run returns: the number 1 in the statement 0, 2 in the statement 1
returned : List Statement → ℕ → ℕ → ℕ → Option ℕ
returned ss rest x y =
    returns
    (run (record { program = program; function = function (Return (present 1) ∷ Return (present 2) ∷ ss) rest })
    (record { marks = 1 ∷ 1 ∷ 1 ∷ 1 ∷ 1 ∷ []; globals = none; args = none }) (numberwise (λ e ns. 0)) everything 1 (start x y))

on_vector : ℕ → ℕ → Option ℕ
on_vector x y = returned (If 0 0 1 ∷ []) 1 x y

-- a case for x, and the default
switched : ℕ → ℕ → ℕ → Option ℕ
switched selector x y = returned (Switch selector (record { value = x; body = 0 } ∷ record { value = 65535; body = 1 } ∷ []) ∷ []) 1 x y

-- the value of an expression
indexed : ℕ → ℕ → ℕ → Option ℕ
indexed e x y = returned (Emit e e ∷ Return (present e) ∷ []) 2 x y

-- the array's element 1 after a store of the second number
stored_by : ℕ → Option ℕ
stored_by path = returned (Store path 2 ∷ Emit 9 9 ∷ Return (present 9) ∷ []) 3 0 0

answers : List (Option ℕ)
answers =
    -- the first block unless both components are zero
    on_vector 1 1 ∷ on_vector 0 1 ∷ on_vector 1 0 ∷ on_vector 0 0
    -- a vector equals no case; a number does
    ∷ switched 0 0 0 ∷ switched 1 1 0
    -- a vector is no element; a number is
    ∷ indexed 3 5 6 ∷ indexed 4 5 6 ∷ indexed 7 0 0 ∷ indexed 9 0 0
    -- and such a store does nothing
    ∷ stored_by 6 ∷ stored_by 8
    -- an atomic number equals no case, and is no element
    ∷ switched 10 0 0 ∷ indexed 11 5 6 ∷ []

examples :
    answers
    ≡ present 1 ∷ present 1 ∷ present 1 ∷ present 2 ∷ present 2 ∷ present 1 ∷ present 0 ∷ present 6 ∷ present 0 ∷ present 3 ∷ present 3 ∷ present 2 ∷ present 2 ∷ present 0 ∷ []
unfolding answers on_vector switched indexed stored_by returned returns start function program tie knot member extent shape_at leaf begins after inner member_types vector_shape elements unfold_type shape_of kind bases is_kind pairwise alike_inner alike slot typed type_of inner_of argument_type result_shape slots kind_shape frame is_path by_part any_vector optional arm_of arm source_of source further step_from path_of mark_count marks_before marked mark_at by_mark emits case_at statement statements_from block_tree body_tree gives out_break out_continue each look put element onward part_of picked zero_in number_in value_from value is_zero number_of element_by value_operand composed concatenated follow place loaded evaluate stored perform give_back then end_by turns position or_else pick in_picked passing again exec keeps begin final run numberwise
examples = refl
