-- What one act is given in memory and what it leaves there, by the definition's `acting`; and its parts.
use Rattle.std.specs.Prelude.{ℕ, ◌+◌, ◌-◌, ◌<◌, ◌≤◌, ◌≡◌, Bool, true, not, List, ◌∷◌, ltb, length}
use Rattle.part.specs.PartReq.{PartReq}
use Rattle.part.specs.Ascending.{Ascending}
use Rattle.part.specs.Subparts.{Piece}
use Rattle.part.specs.Collect.{cells_of}
use Rattle.module.specs.Module.{ExpressionHandle, Store}
use Rattle.module.specs.Tables.{function_of}
use Rattle.clearance.specs.Shape.{below}
use Rattle.clearance.specs.Scope.{Scope, Place, expressions_of}
use Rattle.clearance.specs.Tree.{Act}
use Rattle.clearance.specs.Needs.{Ask, of_value, without}
use Rattle.clearance.specs.Judged.{fits_statement}
use Rattle.pass.specs.Pass.{work_bound, Carried, Passed, ◌>>=◌, within, asking_all, acting}
use Rattle.judge.specs.Given.{scope_at}
use Rattle.asked.specs.Within.{Within}
use Rattle.framed.specs.Given.{Read, Judged}
use Rattle.framed.specs.Places.{Placed}
use Rattle.hold.specs.Hold.{held_by, in_slot, Live}
use Rattle.forms.specs.Frames.{Rooted}
use Rattle.standing.specs.Slots.{Ready}
use Rattle.standing.specs.Standing.{Stepped}
use Rattle.standing.specs.World.{World}
use Rattle.judge.specs.declared.subject.Subject.{Subject}

-- what an act is given: slots for what it asks, and a path that its place fits
pub record ActGiven (bytes t : List ℕ) (f : ℕ) (types alike : List ℕ) (paths : List Bool) (s rs path : List ℕ) (n : ℕ) : Type 0 where
  pub world : World bytes t f types alike paths
  pub ready : Ready (scope_at bytes t f) s rs n
  pub spare : n + 6 ≤ length rs
  pub room : length (function_of bytes t f).expressions + 2 ≤ length path

abbrev pub ActGivenOf : Subject → List ℕ → List ℕ → List ℕ → ℕ → Type 0
ActGivenOf j s rs path n = ActGiven j.file.now.bytes j.file.now.t j.f.0 j.types.now j.alike.now j.paths.now s rs path n

-- a store of the function that fits
pub record StoreOf (S : Scope) (p v : ExpressionHandle) : Type 0 where
  pub pointer : p < length (expressions_of S)
  pub value : v < length (expressions_of S)
  pub fits : fits_statement S (Store p v) ≡ true

-- an act, as a step from the needs at hand
abbrev pub act_of : Scope → Act → List PartReq → PartReq → Carried → Passed
act_of S x aside m c = acting S aside x m c

-- what an act does that gives something needed: it leaves the needs l and asks xs, while those after it are kept
unfoldable pub leaving : Scope → (l : PartReq) → List Ask → List PartReq → PartReq → Carried → Passed
leaving S l xs aside m c = within (m ∷ aside) l c >>= λ d i. asking_all S (m ∷ aside) xs i d

-- the act x was done; a lent path is as long as it was
pub record Acted (S : Scope) (x : Act) (s rs : List ℕ) (n : ℕ) (t us before after : List ℕ) (r : Bool) : Type 0 where
  pub step : Stepped S (act_of S x) s rs n t us r
  pub long : length after ≡ length before

-- what is given where the place q, of which the piece a is needed, is taken out
pub record TakeGiven (bytes t : List ℕ) (f : ℕ) (s rs : List ℕ) (n : ℕ) (q : Place) (a : ℕ) : Type 0 where
  pub ready : Ready (scope_at bytes t f) s rs n
  pub spare : n + 6 ≤ length rs
  pub piece : Piece s (below (in_slot s rs (n - 1)) q) a
  pub rooted : Rooted q
  pub placed : Placed (scope_at bytes t f) q
  pub short : length q ≤ 1026

-- The slot n has what the needs at hand ask of the place q, and the next one what they leave without it; or r is false, and the bound was passed.
pub record TakenOut (S : Scope) (q : Place) (s rs : List ℕ) (n : ℕ) (t us : List ℕ) (r : Bool) : Type 0 where
  pub cells : length t ≡ length s
  pub slots : length us ≡ length rs
  pub live : r ≡ true → Live t us (n + 2)
  pub kept : r ≡ true → (j : ℕ) → j < n → in_slot t us j ≡ in_slot s rs j
  pub part : r ≡ true → in_slot t us n ≡ below (in_slot s rs (n - 1)) q
  pub hand : r ≡ true → in_slot t us (n + 1) ≡ without S q (in_slot s rs (n - 1))
  pub is : r ≡ not (ltb work_bound (cells_of (without S q (in_slot s rs (n - 1)) ∷ held_by s rs n)))

-- what is given where what is needed of the place q is asked of the value v
pub record PlaceGiven (bytes t : List ℕ) (f : ℕ) (s rs : List ℕ) (n : ℕ) (q : Place) (a v : ℕ) : Type 0 where
  pub take : TakeGiven bytes t f s rs n q a
  pub read : Read (scope_at bytes t f)
  pub judged : Judged (scope_at bytes t f)
  pub ascends : Ascending (below (in_slot s rs (n - 1)) q)
  pub within : Within (scope_at bytes t f) (of_value v (below (in_slot s rs (n - 1)) q))

abbrev pub PlaceGivenOf : Subject → List ℕ → List ℕ → ℕ → Place → ℕ → ℕ → Type 0
PlaceGivenOf j s rs n q a v = PlaceGiven j.file.now.bytes j.file.now.t j.f.0 s rs n q a v

-- what is given where a pointer has a dynamic index
pub record SomewhereGiven (S : Scope) (s rs : List ℕ) (n v : ℕ) : Type 0 where
  pub read : Read S
  pub judged : Judged S
  pub ready : Ready S s rs n
  pub spare : n + 6 ≤ length rs
  pub value : v < length (expressions_of S)
