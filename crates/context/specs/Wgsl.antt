-- What a vector, a matrix and a swizzle consist of, after the WGSL specification ("WebGPU Shading Language"), whose section names are cited.
use Rattle.std.specs.Prelude.{ℕ, zero, suc, ◌<◌, ◌≡◌, List, [], ◌∷◌}

-- "Scalar Types"; "Vector Types": a grouped sequence of 2, 3 or 4 scalar components; "Matrix Types": a grouped sequence of
-- 2, 3 or 4 vectors, its columns, which have a component for each of its rows
pub data Shape : Type 0 where
  scalar : Shape
  vec : (size : ℕ) → Shape
  mat : (columns rows : ℕ) → Shape

-- The scalars of a value, each with the indexes that lead to it, the first outermost.
pub data Component : Shape → List ℕ → Type 0 where
  itself : Component scalar []
  -- "Vector Access Expression", "Vector Single Component Selection": e[i] is the component i, of which the first has the index 0
  component : {size i : ℕ} → i < size → Component (vec size) (i ∷ [])
  -- "Matrix Access Expression": e[c] is the column vector c, of which the first has the index 0
  column : {columns rows c : ℕ} {path : List ℕ} → c < columns → Component (vec rows) path → Component (mat columns rows) (c ∷ path)

-- "Vector Access Expression": the convenience letters of the components, in one of two sets
pub data Letter : Type 0 where
  x y z w : Letter
  r g b a : Letter

-- x and r name the first component, and so on
abbrev pub named : Letter → ℕ
named x = 0
named y = 1
named z = 2
named w = 3
named r = 0
named g = 1
named b = 2
named a = 3

-- "Vector Multiple Component Selection": the component i of a swizzle is the component c of its vector that the letter i names.
-- A letter may stand more than once.
pub data Picks : List Letter → ℕ → ℕ → Type 0 where
  first : {l : Letter} {ls : List Letter} {c : ℕ} → named l ≡ c → Picks (l ∷ ls) zero c
  later : {l : Letter} {ls : List Letter} {i c : ℕ} → Picks ls i c → Picks (l ∷ ls) (suc i) c
