-- The modules of 01's cases A, I and J.
use Rattle.std.specs.Prelude.{true, false, [], ◌∷◌}
use Rattle.std.proofs.Math.Option.{Option, some, none as nothing}
use Rattle.module.specs.Module.{TypeHandle, Scalar, Vector, Pointer, FunctionResult, Function, Module}
use Rattle.module.specs.Module.{AccessIndex, FunctionArgument, GlobalVariable, LocalVariable, Load}
use Rattle.module.specs.Module.{Emit, If, Loop, Return, Store}
use Rattle.module.specs.Short.{typed, range, argument_of}

-- a scalar is returned
abbrev pub scalar_result : Option FunctionResult
scalar_result = some (record { type = 0; binding = nothing })

-- Case A: local 0 is a three-vector, argument 0 likewise; expressions 0 argument 0, 1 local 0, 2 load of 1, 3 index 1 of 2; body: store 0
-- into 1, emit 2 to 3, return 3. With t the type that the file gives to expression 1.
abbrev pub function_a : TypeHandle → Function
function_a t =
    record {
      entry = false;
      result = scalar_result;
      arguments = argument_of 1 ∷ [];
      locals = 1 ∷ [];
      expressions = typed 1 (FunctionArgument 0) ∷ typed t (LocalVariable 0) ∷ typed 1 (Load 1) ∷ typed 0 (AccessIndex 2 1) ∷ [];
      statements = Store 1 0 ∷ Emit 2 3 ∷ Return (some 3) ∷ [];
      blocks = range 0 3 ∷ [];
    }

-- with the types that 01 names
abbrev pub module_a : Module
module_a = record { types = Scalar ∷ Vector 3 ∷ []; globals = []; functions = function_a 1 ∷ [] }

-- and with a pointer to the three-vector, as naga has it
abbrev pub pointer_a : Module
pointer_a = record { types = Scalar ∷ Vector 3 ∷ Pointer 1 ∷ []; globals = []; functions = function_a 2 ∷ [] }

-- Case I: loop body a=b; b=c, all locals, a returned.
abbrev pub module_i : Module
module_i =
    record {
      types = Scalar ∷ [];
      globals = [];
      functions =
          record {
            entry = false;
            result = scalar_result;
            arguments = [];
            locals = 0 ∷ 0 ∷ 0 ∷ [];
            expressions =
                typed 0 (LocalVariable 0) ∷ typed 0 (LocalVariable 1) ∷ typed 0 (LocalVariable 2) ∷ typed 0 (Load 1) ∷ typed 0 (Load 2)
                ∷ typed 0 (Load 0) ∷ [];
            statements =
                Emit 3 3 ∷ Store 0 3 ∷ Emit 4 4 ∷ Store 1 4 ∷ Loop 0 1 nothing ∷ Emit 5 5 ∷ Return (some 5) ∷ [];
            blocks = range 0 4 ∷ range 4 0 ∷ range 4 3 ∷ [];
          }
          ∷ [];
    }

-- Case J: 0 return (in the if); body: 1 store argument 0 into global 0, 2 if argument 1, 3 store argument 2 into it.
abbrev pub function_j : Function
function_j =
    record {
      entry = true;
      result = nothing;
      arguments = argument_of 0 ∷ argument_of 0 ∷ argument_of 0 ∷ [];
      locals = [];
      expressions =
          typed 0 (FunctionArgument 0) ∷ typed 0 (FunctionArgument 1) ∷ typed 0 (FunctionArgument 2) ∷ typed 0 (GlobalVariable 0) ∷ [];
      statements = Return nothing ∷ Store 3 0 ∷ If 1 0 1 ∷ Store 3 2 ∷ [];
      blocks = range 0 1 ∷ range 1 0 ∷ range 1 3 ∷ [];
    }

abbrev pub module_j : Module
module_j = record { types = Scalar ∷ []; globals = 0 ∷ []; functions = function_j ∷ [] }
