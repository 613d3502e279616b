-- What `report` prints in cases A, I and J, all but the line `check`: a text to a line.
use Rattle.std.specs.Prelude.{ℕ, List, [], ◌∷◌, ◌++◌}
use Prim.Native.Char.{code}
use Prim.Native.String.{String, [] as empty, ◌∷◌ as char}

-- a text as bytes, where each of its characters is one
abbrev pub ascii : String → List ℕ
ascii empty = []
ascii (char c s) = code c ∷ ascii s

-- each with its end of line
abbrev pub lines : List String → List ℕ
lines [] = []
lines (s ∷ ss) = ascii s ++ (10 ∷ lines ss)

-- as 01 has it
abbrev pub text_a : List ℕ
text_a =
    lines
    ("required yes"
    ∷ "retval all"
    ∷ "arg 0 {1:all}"
    ∷ "local 0 exist"
    ∷ "expr 0 {1:all}"
    ∷ "expr 1 exist"
    ∷ "expr 2 {1:all}"
    ∷ "expr 3 all"
    ∷ "stmt 0 store yes"
    ∷ "stmt 1 emit yes yes"
    ∷ "stmt 2 return yes"
    ∷ [])

abbrev pub text_i : List ℕ
text_i = lines ("refused 14" ∷ [])

abbrev pub text_j : List ℕ
text_j =
    lines
    ("required yes"
    ∷ "global 0 exist"
    ∷ "arg 1 all"
    ∷ "arg 2 all"
    ∷ "expr 1 all"
    ∷ "expr 2 all"
    ∷ "expr 3 exist"
    ∷ "stmt 0 return yes"
    ∷ "stmt 1 store no"
    ∷ "stmt 2 if yes"
    ∷ "stmt 3 store yes"
    ∷ [])
