-- A part of a list that a loop goes along: where its elements stand in the whole, and how many there are.
use Prim.Native.Nat.{ℕ, ◌+◌, ◌<◌, ◌≤◌}
use native.Mathlib.Omega.{arith}
use mathlib.Core.Path.{◌≡◌, ◌∙◌}
use mathlib.Core.List.{List}
use lib.ListN.{length, get_or, take, drop}
use Rattle.std.proofs.lemmas.List.{length-take, length-drop, get_or-take, get_or-drop}

module _ (xs : List ℕ) (a n : ℕ) where
  pub cut-low : {k : ℕ} → k < length (take n (drop a xs)) → k < n
  cut-low h = omega (arith, h, length-take n (drop a xs))

  pub cut-at : {k : ℕ} → k < length (take n (drop a xs)) → get_or (take n (drop a xs)) k 0 ≡ get_or xs (a + k) 0
  cut-at {k} h = get_or-take n (drop a xs) k 0 (cut-low h) ∙ get_or-drop a xs k 0

  pub cut-all : {k : ℕ} → a + n ≤ length xs → k ≤ length (take n (drop a xs)) → length (take n (drop a xs)) ≤ k → k ≡ n
  cut-all h l m = omega (arith, h, l, m, length-take n (drop a xs), length-drop a xs)
