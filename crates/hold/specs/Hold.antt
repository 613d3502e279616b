-- The memory of a pass: a store of pieces, and slots that are its roots. What the first n slots mean is the list of needs that are kept. It counts by the
-- cells that it reaches, each once, against the working bound.
use Rattle.std.specs.Prelude.{ℕ, ◌+◌, ◌*◌, ◌<◌, ◌≤◌, ◌≡◌, Bool, true, not, List, ◌∷◌, ltb, length, get_or, take}
use Rattle.part.specs.PartReq.{PartReq}
use Rattle.part.specs.StoreLimits.{cell_words, table_words}
use Rattle.part.specs.Store.{top, part, Good}
use Rattle.part.specs.Count.{among}
use Rattle.part.specs.Collect.{reached, cells_of, meant}
use Rattle.pass.specs.Pass.{work_bound}

-- the cells that one step may make beside what is kept
abbrev pub slack : ℕ
slack = 16700

-- what the first n slots mean
abbrev pub held_by : List ℕ → List ℕ → ℕ → List PartReq
held_by s rs n = meant s (take n rs)

-- what the slot j means
abbrev pub in_slot : List ℕ → List ℕ → ℕ → PartReq
in_slot s rs j = part s (get_or rs j 0)

-- the first n slots have pieces, and the store has room for the bound and for a step
pub record Loose (s rs : List ℕ) (n : ℕ) : Type 0 where
  pub good : Good s
  pub few : n ≤ length rs
  pub pieces : (j : ℕ) → j < n → get_or rs j 0 < top s
  pub long : cell_words * (3 + (work_bound + slack)) + table_words ≤ length s

-- and no more cells are in use than the bound allows: so there is room for a step
pub record Live (s rs : List ℕ) (n : ℕ) : Type 0 where
  pub loose : Loose s rs n
  pub slim : top s ≤ 3 + work_bound

-- from s and rs, t and us were left: the first n slots mean what they meant, and just the cells that they reach are in use
pub record Cleaned (s rs : List ℕ) (n : ℕ) (t us : List ℕ) : Type 0 where
  pub cells : length t ≡ length s
  pub slots : length us ≡ length rs
  pub loose : Loose t us n
  pub same : (j : ℕ) → j < n → in_slot t us j ≡ in_slot s rs j
  pub used : top t ≡ 3 + cells_of (held_by s rs n)

-- from s and rs, t and us were left: the slot n means p and those before it what they meant; or r is false, and the bound was passed
pub record Pushed (s rs : List ℕ) (n : ℕ) (p : PartReq) (t us : List ℕ) (r : Bool) : Type 0 where
  pub cells : length t ≡ length s
  pub slots : length us ≡ length rs
  pub live : r ≡ true → Live t us (n + 1)
  pub kept : r ≡ true → (j : ℕ) → j < n → in_slot t us j ≡ in_slot s rs j
  pub here : r ≡ true → in_slot t us n ≡ p
  pub is : r ≡ not (ltb work_bound (cells_of (p ∷ held_by s rs n)))

-- two lists of needs reach the same cells
pub record Reach (l m : List PartReq) : Type 0 where
  pub into : (q : PartReq) → among q (reached l) ≡ true → among q (reached m) ≡ true
  pub back : (q : PartReq) → among q (reached m) ≡ true → among q (reached l) ≡ true
