-- What has been read of a module, while it is read.
use Rattle.std.specs.Prelude.{ℕ, zero, suc, ◌-◌, Bool, true, false, cond, List, [], ◌∷◌, ◌++◌, map, eqb, length, get_or, set}
use Rattle.std.proofs.Math.Option.{Option}
use Rattle.module.specs.Module.{TypeHandle, TypeInner, Statement, Typed, BlockRange, FunctionArg, FunctionResult, Function}
use Rattle.module.specs.declared.record.Mark.{Mark}
use Rattle.module.specs.declared.record.Mark.TheVariants.{TY, GV, FN, AR, LV, EX, BK, ST}
use Rattle.module.specs.Decode.{tab, type_of, result_of, arg_of, typed_of, st_of}
use Rattle.module.specs.Operands.{Scope}

-- How far a file has come: the last record was of types (or there is none yet), globals, a function's head or arguments, locals,
-- expressions, blocks and statements.
abbrev pub in_types : ℕ
in_types = 0

abbrev pub in_globals : ℕ
in_globals = 1

abbrev pub in_arguments : ℕ
in_arguments = 2

abbrev pub in_locals : ℕ
in_locals = 3

abbrev pub in_expressions : ℕ
in_expressions = 4

abbrev pub in_blocks : ℕ
in_blocks = 5

-- A function while it is read. Of each block it has the number of its first statement.
pub record Open : Type 0 where
  pub entry : Bool
  pub result : Option FunctionResult
  pub arguments : List FunctionArg
  pub locals : List TypeHandle
  pub expressions : List Typed
  pub emitted : List Bool
  pub statements : List Statement
  pub starts : List ℕ

-- What has been read: of functions those that have ended, and the one that is open (from `in_arguments` on).
pub record Reading : Type 0 where
  pub stage : ℕ
  pub types : List TypeInner
  pub globals : List TypeHandle
  pub functions : List Function
  pub open_one : Open

-- what the next record may refer to
unfoldable pub scope_of : Reading → Scope
scope_of r =
    record {
      types = length r.types;
      globals = length r.globals;
      functions = length r.functions;
      arguments = length r.open_one.arguments;
      locals = length r.open_one.locals;
      expressions = length r.open_one.expressions;
      statements = length r.open_one.statements;
      entries = map (λ f. f.entry) r.functions;
      emitted = r.open_one.emitted;
    }

-- the flags with n of them set, from e on
unfoldable pub emit : List Bool → ℕ → ℕ → List Bool
emit emitted e zero = emitted
emit emitted e (suc n) = emit (set emitted e true) (suc e) n

-- the flags after a statement: an emit, of kind 0, sets them from its first to its last
unfoldable pub emit_by : List ℕ → List Bool → List Bool
emit_by fs emitted = cond (eqb (get_or fs 0 0) 0) (emit emitted (get_or fs 1 0) (suc (get_or fs 2 0) - get_or fs 1 0)) emitted

-- a function with its head alone
unfoldable pub opened : List ℕ → Open
opened fs =
    record {
      entry = eqb (get_or fs 0 0) 1;
      result = result_of fs;
      arguments = [];
      locals = [];
      expressions = [];
      emitted = [];
      statements = [];
      starts = [];
    }

-- the open function with one record more
unfoldable pub grown : Mark → List ℕ → Open → Open
grown TY fs f = f
grown GV fs f = f
grown FN fs f = opened fs
grown AR fs f =
    record {
      entry = f.entry;
      result = f.result;
      arguments = f.arguments ++ (arg_of fs ∷ []);
      locals = f.locals;
      expressions = f.expressions;
      emitted = f.emitted;
      statements = f.statements;
      starts = f.starts;
    }
grown LV fs f =
    record {
      entry = f.entry;
      result = f.result;
      arguments = f.arguments;
      locals = f.locals ++ (get_or fs 0 0 ∷ []);
      expressions = f.expressions;
      emitted = f.emitted;
      statements = f.statements;
      starts = f.starts;
    }
grown EX fs f =
    record {
      entry = f.entry;
      result = f.result;
      arguments = f.arguments;
      locals = f.locals;
      expressions = f.expressions ++ (typed_of fs ∷ []);
      emitted = f.emitted ++ (false ∷ []);
      statements = f.statements;
      starts = f.starts;
    }
grown BK fs f =
    record {
      entry = f.entry;
      result = f.result;
      arguments = f.arguments;
      locals = f.locals;
      expressions = f.expressions;
      emitted = f.emitted;
      statements = f.statements;
      starts = f.starts ++ (length f.statements ∷ []);
    }
grown ST fs f =
    record {
      entry = f.entry;
      result = f.result;
      arguments = f.arguments;
      locals = f.locals;
      expressions = f.expressions;
      emitted = emit_by fs f.emitted;
      statements = f.statements ++ (st_of fs ∷ []);
      starts = f.starts;
    }

unfoldable pub stage_of : Mark → ℕ
stage_of TY = in_types
stage_of GV = in_globals
stage_of FN = in_arguments
stage_of AR = in_arguments
stage_of LV = in_locals
stage_of EX = in_expressions
stage_of BK = in_blocks
stage_of ST = in_blocks

unfoldable pub types_with : Mark → List ℕ → List TypeInner → List TypeInner
types_with TY fs types = types ++ (type_of fs ∷ [])
types_with GV fs types = types
types_with FN fs types = types
types_with AR fs types = types
types_with LV fs types = types
types_with EX fs types = types
types_with BK fs types = types
types_with ST fs types = types

unfoldable pub globals_with : Mark → List ℕ → List TypeHandle → List TypeHandle
globals_with TY fs globals = globals
globals_with GV fs globals = globals ++ (get_or fs 0 0 ∷ [])
globals_with FN fs globals = globals
globals_with AR fs globals = globals
globals_with LV fs globals = globals
globals_with EX fs globals = globals
globals_with BK fs globals = globals
globals_with ST fs globals = globals

-- what has been read, with one record more
unfoldable pub added : Mark → List ℕ → Reading → Reading
added mark fs r =
    record {
      stage = stage_of mark;
      types = types_with mark fs r.types;
      globals = globals_with mark fs r.globals;
      functions = r.functions;
      open_one = grown mark fs r.open_one;
    }

-- a block has the statements up to the next block's first, or to the function's end
unfoldable pub range_of : List ℕ → ℕ → ℕ → BlockRange
range_of starts statements b =
    record { first = get_or starts b 0; count = get_or starts (suc b) statements - get_or starts b 0 }

unfoldable pub closed : Open → Function
closed f =
    record {
      entry = f.entry;
      result = f.result;
      arguments = f.arguments;
      locals = f.locals;
      expressions = f.expressions;
      statements = f.statements;
      blocks = tab (length f.starts) (range_of f.starts (length f.statements));
    }
