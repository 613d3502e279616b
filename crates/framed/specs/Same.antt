-- Shapes that are the same at every path. Two types that fit have such shapes, though not equal ones: a shape says something of indexes past its last too,
-- which no one asks, and that differs between an empty struct of number 0 and another.
use Rattle.std.specs.Prelude.{ℕ, ◌≡◌, List}
use Rattle.clearance.specs.Shape.{Shape, number, void, struct, array, shape_at}

-- what a shape is at its top
pub data Head : Type 0 where
  number_head : Head
  void_head : Head
  struct_head : (first count : ℕ) → Head
  array_head : (count : ℕ) → Head

abbrev pub head : Shape → Head
head number = number_head
head void = void_head
head (struct b n f) = struct_head b n
head (array n t) = array_head n

pub record SameShape (s t : Shape) : Type 0 where
  pub each : (q : List ℕ) → head (shape_at s q) ≡ head (shape_at t q)
