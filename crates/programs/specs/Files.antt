-- Cases A, I and J of 01 as files: the bytes of their modules (Programs.antt), a record to a row with its line of the listing, and of the requests on them.
use Rattle.std.specs.Prelude.{ℕ, List, [], ◌∷◌}

-- case A from its function on, with t the type that the file gives to expression 1
abbrev pub bytes_a : (t : ℕ) → List ℕ
bytes_a t =
    70 ∷ 78 ∷ 6 ∷ 0 ∷ 0 ∷ 0 ∷ 0 ∷ 0 ∷ 255 ∷ 255  -- fn 0: function 0 -
    ∷ 65 ∷ 82 ∷ 4 ∷ 0 ∷ 1 ∷ 0 ∷ 255 ∷ 255  -- arg 0: 1 -
    ∷ 76 ∷ 86 ∷ 2 ∷ 0 ∷ 1 ∷ 0  -- local 0: 1
    ∷ 69 ∷ 88 ∷ 6 ∷ 0 ∷ 1 ∷ 0 ∷ 9 ∷ 0 ∷ 0 ∷ 0  -- expr 0: 1 FunctionArgument 0
    ∷ 69 ∷ 88 ∷ 6 ∷ 0 ∷ t ∷ 0 ∷ 11 ∷ 0 ∷ 0 ∷ 0  -- expr 1: t LocalVariable 0
    ∷ 69 ∷ 88 ∷ 6 ∷ 0 ∷ 1 ∷ 0 ∷ 12 ∷ 0 ∷ 1 ∷ 0  -- expr 2: 1 Load 1
    ∷ 69 ∷ 88 ∷ 8 ∷ 0 ∷ 0 ∷ 0 ∷ 3 ∷ 0 ∷ 2 ∷ 0 ∷ 1 ∷ 0  -- expr 3: 0 AccessIndex 2 1
    ∷ 66 ∷ 75 ∷ 0 ∷ 0  -- block 0:
    ∷ 83 ∷ 84 ∷ 6 ∷ 0 ∷ 12 ∷ 0 ∷ 1 ∷ 0 ∷ 0 ∷ 0  -- stmt 0: Store 1 0
    ∷ 83 ∷ 84 ∷ 6 ∷ 0 ∷ 0 ∷ 0 ∷ 2 ∷ 0 ∷ 3 ∷ 0  -- stmt 1: Emit 2 3
    ∷ 83 ∷ 84 ∷ 4 ∷ 0 ∷ 7 ∷ 0 ∷ 3 ∷ 0  -- stmt 2: Return 3
    ∷ []

-- with the types that 01 names
abbrev pub file_a : List ℕ
file_a =
    84 ∷ 89 ∷ 2 ∷ 0 ∷ 0 ∷ 0  -- type 0: Scalar
    ∷ 84 ∷ 89 ∷ 4 ∷ 0 ∷ 1 ∷ 0 ∷ 3 ∷ 0  -- type 1: Vector 3
    ∷ bytes_a 1

-- and with a pointer to the three-vector, as naga has it: examples/case-a.txt
abbrev pub pointer_file_a : List ℕ
pointer_file_a =
    84 ∷ 89 ∷ 2 ∷ 0 ∷ 0 ∷ 0  -- type 0: Scalar
    ∷ 84 ∷ 89 ∷ 4 ∷ 0 ∷ 1 ∷ 0 ∷ 3 ∷ 0  -- type 1: Vector 3
    ∷ 84 ∷ 89 ∷ 4 ∷ 0 ∷ 4 ∷ 0 ∷ 1 ∷ 0  -- type 2: Pointer 1
    ∷ bytes_a 2

abbrev pub file_i : List ℕ
file_i =
    84 ∷ 89 ∷ 2 ∷ 0 ∷ 0 ∷ 0  -- type 0: Scalar
    ∷ 70 ∷ 78 ∷ 6 ∷ 0 ∷ 0 ∷ 0 ∷ 0 ∷ 0 ∷ 255 ∷ 255  -- fn 0: function 0 -
    ∷ 76 ∷ 86 ∷ 2 ∷ 0 ∷ 0 ∷ 0  -- local 0: 0
    ∷ 76 ∷ 86 ∷ 2 ∷ 0 ∷ 0 ∷ 0  -- local 1: 0
    ∷ 76 ∷ 86 ∷ 2 ∷ 0 ∷ 0 ∷ 0  -- local 2: 0
    ∷ 69 ∷ 88 ∷ 6 ∷ 0 ∷ 0 ∷ 0 ∷ 11 ∷ 0 ∷ 0 ∷ 0  -- expr 0: 0 LocalVariable 0
    ∷ 69 ∷ 88 ∷ 6 ∷ 0 ∷ 0 ∷ 0 ∷ 11 ∷ 0 ∷ 1 ∷ 0  -- expr 1: 0 LocalVariable 1
    ∷ 69 ∷ 88 ∷ 6 ∷ 0 ∷ 0 ∷ 0 ∷ 11 ∷ 0 ∷ 2 ∷ 0  -- expr 2: 0 LocalVariable 2
    ∷ 69 ∷ 88 ∷ 6 ∷ 0 ∷ 0 ∷ 0 ∷ 12 ∷ 0 ∷ 1 ∷ 0  -- expr 3: 0 Load 1
    ∷ 69 ∷ 88 ∷ 6 ∷ 0 ∷ 0 ∷ 0 ∷ 12 ∷ 0 ∷ 2 ∷ 0  -- expr 4: 0 Load 2
    ∷ 69 ∷ 88 ∷ 6 ∷ 0 ∷ 0 ∷ 0 ∷ 12 ∷ 0 ∷ 0 ∷ 0  -- expr 5: 0 Load 0
    ∷ 66 ∷ 75 ∷ 0 ∷ 0  -- block 0:
    ∷ 83 ∷ 84 ∷ 6 ∷ 0 ∷ 0 ∷ 0 ∷ 3 ∷ 0 ∷ 3 ∷ 0  -- stmt 0: Emit 3 3
    ∷ 83 ∷ 84 ∷ 6 ∷ 0 ∷ 12 ∷ 0 ∷ 0 ∷ 0 ∷ 3 ∷ 0  -- stmt 1: Store 0 3
    ∷ 83 ∷ 84 ∷ 6 ∷ 0 ∷ 0 ∷ 0 ∷ 4 ∷ 0 ∷ 4 ∷ 0  -- stmt 2: Emit 4 4
    ∷ 83 ∷ 84 ∷ 6 ∷ 0 ∷ 12 ∷ 0 ∷ 1 ∷ 0 ∷ 4 ∷ 0  -- stmt 3: Store 1 4
    ∷ 66 ∷ 75 ∷ 0 ∷ 0  -- block 1:
    ∷ 66 ∷ 75 ∷ 0 ∷ 0  -- block 2:
    ∷ 83 ∷ 84 ∷ 8 ∷ 0 ∷ 4 ∷ 0 ∷ 0 ∷ 0 ∷ 1 ∷ 0 ∷ 255 ∷ 255  -- stmt 4: Loop 0 1 -
    ∷ 83 ∷ 84 ∷ 6 ∷ 0 ∷ 0 ∷ 0 ∷ 5 ∷ 0 ∷ 5 ∷ 0  -- stmt 5: Emit 5 5
    ∷ 83 ∷ 84 ∷ 4 ∷ 0 ∷ 7 ∷ 0 ∷ 5 ∷ 0  -- stmt 6: Return 5
    ∷ []

abbrev pub file_j : List ℕ
file_j =
    84 ∷ 89 ∷ 2 ∷ 0 ∷ 0 ∷ 0  -- type 0: Scalar
    ∷ 71 ∷ 86 ∷ 2 ∷ 0 ∷ 0 ∷ 0  -- global 0: 0
    ∷ 70 ∷ 78 ∷ 6 ∷ 0 ∷ 1 ∷ 0 ∷ 255 ∷ 255 ∷ 255 ∷ 255  -- fn 0: entry - -
    ∷ 65 ∷ 82 ∷ 4 ∷ 0 ∷ 0 ∷ 0 ∷ 255 ∷ 255  -- arg 0: 0 -
    ∷ 65 ∷ 82 ∷ 4 ∷ 0 ∷ 0 ∷ 0 ∷ 255 ∷ 255  -- arg 1: 0 -
    ∷ 65 ∷ 82 ∷ 4 ∷ 0 ∷ 0 ∷ 0 ∷ 255 ∷ 255  -- arg 2: 0 -
    ∷ 69 ∷ 88 ∷ 6 ∷ 0 ∷ 0 ∷ 0 ∷ 9 ∷ 0 ∷ 0 ∷ 0  -- expr 0: 0 FunctionArgument 0
    ∷ 69 ∷ 88 ∷ 6 ∷ 0 ∷ 0 ∷ 0 ∷ 9 ∷ 0 ∷ 1 ∷ 0  -- expr 1: 0 FunctionArgument 1
    ∷ 69 ∷ 88 ∷ 6 ∷ 0 ∷ 0 ∷ 0 ∷ 9 ∷ 0 ∷ 2 ∷ 0  -- expr 2: 0 FunctionArgument 2
    ∷ 69 ∷ 88 ∷ 6 ∷ 0 ∷ 0 ∷ 0 ∷ 10 ∷ 0 ∷ 0 ∷ 0  -- expr 3: 0 GlobalVariable 0
    ∷ 66 ∷ 75 ∷ 0 ∷ 0  -- block 0:
    ∷ 83 ∷ 84 ∷ 4 ∷ 0 ∷ 7 ∷ 0 ∷ 255 ∷ 255  -- stmt 0: Return -
    ∷ 66 ∷ 75 ∷ 0 ∷ 0  -- block 1:
    ∷ 66 ∷ 75 ∷ 0 ∷ 0  -- block 2:
    ∷ 83 ∷ 84 ∷ 6 ∷ 0 ∷ 12 ∷ 0 ∷ 3 ∷ 0 ∷ 0 ∷ 0  -- stmt 1: Store 3 0
    ∷ 83 ∷ 84 ∷ 8 ∷ 0 ∷ 2 ∷ 0 ∷ 1 ∷ 0 ∷ 0 ∷ 0 ∷ 1 ∷ 0  -- stmt 2: If 1 0 1
    ∷ 83 ∷ 84 ∷ 6 ∷ 0 ∷ 12 ∷ 0 ∷ 3 ∷ 0 ∷ 2 ∷ 0  -- stmt 3: Store 3 2
    ∷ []

-- of A and I the return value is asked, all
abbrev pub return_all : List ℕ
return_all =
    82 ∷ 81 ∷ 6 ∷ 0 ∷ 0 ∷ 0 ∷ 0 ∷ 0 ∷ 0 ∷ 0  -- request 0: 0 all
    ∷ []

-- of J global 0, all
abbrev pub global_all : List ℕ
global_all =
    82 ∷ 81 ∷ 10 ∷ 0 ∷ 0 ∷ 0 ∷ 3 ∷ 0 ∷ 1 ∷ 0 ∷ 0 ∷ 0 ∷ 0 ∷ 0  -- request 0: 0 none 0=all
    ∷ []
