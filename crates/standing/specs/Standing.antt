-- What a pass finds in memory, and what it leaves there, by the definition's `pass_inside`: for whatever is kept aside, as long as it reaches the cells that the
-- slots reach.
use Rattle.std.specs.Prelude.{ℕ, ◌+◌, ◌-◌, ◌<◌, ◌≤◌, ◌≡◌, Bool, true, false, not, ◌&&◌, ◌||◌, List, ◌∷◌, ◌++◌, length}
use Rattle.std.proofs.Math.Option.{Option}
use Rattle.part.specs.PartReq.{PartReq, add, contains, over}
use Rattle.module.specs.Module.{ExpressionHandle}
use Rattle.clearance.specs.Scope.{Scope}
use Rattle.clearance.specs.Tree.{Tree}
use Rattle.clearance.specs.Needs.{of_value, Exit, next, broke, continued, returned, upon, Setting, reentry}
use Rattle.clearance.specs.Judged.{lower}
use Rattle.judge.specs.Blamed.{blamed}
use Rattle.pass.specs.Pass.{Carried, Passed, on, full, too_many, pointed, asking, turning_on, pass_cases, within, pass_inside}
use Rattle.pass.specs.Checked.{asked_of}
use Rattle.hold.specs.Hold.{held_by, in_slot, Reach}
use Rattle.standing.specs.Slots.{table_size, asked_slot, end_slot, aside_of, Beside, Ready}
use Rattle.standing.specs.Passing.{Passing}
use Rattle.standing.specs.Exits.{Exits}

-- the setting of a function of which v is asked
abbrev pub setting_of : Scope → PartReq → Setting
setting_of S v = record { scope = S; asked = v }

-- what is carried along, as the code has it
pub record Carries (p : Passing) (c : Carried) : Type 0 where
  pub fault : blamed p.fault ≡ c.fault
  pub held : p.held ≡ c.held
  pub deep : p.deep ≡ c.deep
  pub wide : p.wide ≡ c.wide

-- the new table is the carried one
pub record TableIn (s rs : List ℕ) (c : Carried) : Type 0 where
  pub is : (j : ℕ) → j < table_size → in_slot s rs (table_size + j) ≡ reentry c.table j
  pub short : length c.table ≤ table_size

-- the slots of the exits lie below the last one, and have no table's needs
pub record Targets (n : ℕ) (x : Exits) : Type 0 where
  pub broke : (end_slot ≤ x.broke) × (x.broke + 1 < n)
  pub continued : (end_slot ≤ x.continued) × (x.continued + 1 < n)
  pub returned : (end_slot ≤ x.returned) × (x.returned + 1 < n)

-- What stands in memory: v is asked of the value, r are the loops' re-entry needs, `aside` is kept elsewhere, k stands after the statement by exit, and c is carried.
pub record Stands (S : Scope) (v : PartReq) (r : ℕ → PartReq) (aside : List PartReq) (k : Exit → PartReq) (c : Carried) (s rs : List ℕ) (n : ℕ) (x : Exits) (p : Passing) :
    Type 0 where
  pub value : in_slot s rs asked_slot ≡ asked_of (setting_of S v)
  pub old : (j : ℕ) → j < table_size → in_slot s rs j ≡ r j
  pub new : TableIn s rs c
  pub hand : in_slot s rs (n - 1) ≡ k next
  pub broke : in_slot s rs x.broke ≡ k broke
  pub continued : in_slot s rs x.continued ≡ k continued
  pub returned : in_slot s rs x.returned ≡ k returned
  pub apart : Reach (aside_of s rs (n - 1)) aside
  pub carries : Carries p c

-- what a pass came to where it went on: the needs at hand, and what is carried
pub record Went (o : Passed) (t us : List ℕ) (n : ℕ) (q : Passing) : Type 0 where
  pub carried : Carried
  pub is : o ≡ on carried (in_slot t us (n - 1))
  pub carries : Carries q carried
  pub new : TableIn t us carried

-- what a pass came to
pub record Came (o : Passed) (t us : List ℕ) (n : ℕ) (q : Passing) : Type 0 where
  pub full : q.full ≡ true → o ≡ full
  pub on : q.full ≡ false → Went o t us n q

-- the slots below the last of n that are no new table's mean what they meant
pub record Keeps (s rs t us : List ℕ) (n : ℕ) : Type 0 where
  pub is : (j : ℕ) → j + 1 < n → Beside j → in_slot t us j ≡ in_slot s rs j

-- what is walked: a statement or a block, without the points before and after it or with them; so many cases of a switch, with the needs after it where a break
-- leads; or a step from the needs at hand, which changes no table
pub data Stretch : Type 0 where
  inside : Tree → Stretch
  around : Tree → Stretch
  cases : ℕ → (ℕ → Tree) → Stretch
  step : (List PartReq → PartReq → Carried → Passed) → Stretch

-- what that comes to by definition
abbrev pub outcome : Scope → Stretch → (v : PartReq) → (r : ℕ → PartReq) → (aside : List PartReq) → (Exit → PartReq) → Carried → Passed
outcome S (inside a) v r aside k c = pass_inside (setting_of S v) r a aside k c
outcome S (around a) v r aside k c = pointed (k next) (pass_inside (setting_of S v) r a aside k) c
outcome S (cases i f) v r aside k c = pass_cases i (λ j aside'. pointed (k broke) (pass_inside (setting_of S v) r (f j) aside' (upon (k broke) k))) aside c
outcome S (step f) v r aside k c = f aside (k next) c

-- The memory s, rs became t, us: the slots below the last that are no new table's mean what they meant, and the last one has the needs at hand.
pub record Walked (S : Scope) (o : Stretch) (s rs : List ℕ) (n : ℕ) (x : Exits)
    (p : Passing) (t us : List ℕ) (q : Passing) : Type 0 where
  pub cells : length t ≡ length s
  pub slots : length us ≡ length rs
  pub ready : q.full ≡ false → Ready S t us n
  pub kept : q.full ≡ false → Keeps s rs t us n
  pub is : (v : PartReq) (r : ℕ → PartReq) (aside : List PartReq) (k : Exit → PartReq) (c : Carried) → Stands S v r aside k c s rs n x p → Came (outcome S o v r aside k c) t us n q

-- what is carried on with the needs m, or the bound is passed
abbrev pub passed_by : Bool → Carried → PartReq → Passed
passed_by true c m = on c m
passed_by false c m = full

-- A step from the needs at hand, which changes no table: `step aside n c` by definition, where the slots below reach just what is kept aside and the table.
pub record Stepped (S : Scope) (step : List PartReq → PartReq → Carried → Passed) (s rs : List ℕ) (n : ℕ) (t us : List ℕ) (r : Bool) : Type 0 where
  pub cells : length t ≡ length s
  pub slots : length us ≡ length rs
  pub ready : r ≡ true → Ready S t us n
  pub kept : r ≡ true → (j : ℕ) → j + 1 < n → in_slot t us j ≡ in_slot s rs j
  pub is : (aside : List PartReq) (c : Carried) → Reach (held_by s rs (n - 1)) (aside ++ c.table) →
      step aside (in_slot s rs (n - 1)) c ≡ passed_by r c (in_slot t us (n - 1))

-- q is p at a point with the needs m
pub record Noted (m : PartReq) (p q : Passing) : Type 0 where
  pub full : q.full ≡ p.full
  pub fault : q.fault ≡ p.fault
  pub held : q.held ≡ p.held
  pub deep : q.deep ≡ over m || p.deep
  pub wide : q.wide ≡ too_many m || p.wide

-- The last two of n + 1 slots become one: `f aside m a c` by definition, with m in the former of them and a, the needs at hand, in the latter.
pub record Closed (S : Scope) (f : List PartReq → PartReq → PartReq → Carried → Passed) (s rs : List ℕ) (n : ℕ) (t us : List ℕ) (r : Bool) : Type 0 where
  pub cells : length t ≡ length s
  pub slots : length us ≡ length rs
  pub ready : r ≡ true → Ready S t us n
  pub kept : r ≡ true → (j : ℕ) → j + 1 < n → in_slot t us j ≡ in_slot s rs j
  pub is : (aside : List PartReq) (c : Carried) → Reach (held_by s rs (n - 1)) (aside ++ c.table) →
      f aside (in_slot s rs (n - 1)) (in_slot s rs n) c ≡ passed_by r c (in_slot t us (n - 1))

-- q is p with the statement l, which breaks its rule
pub record Blames (l : ℕ) (p q : Passing) : Type 0 where
  pub full : q.full ≡ p.full
  pub fault : blamed q.fault ≡ lower l (blamed p.fault)
  pub held : q.held ≡ p.held
  pub deep : q.deep ≡ p.deep
  pub wide : q.wide ≡ p.wide

-- a step that needs what is asked of the value e, for whatever was asked
pub record Valued (S : Scope) (e : ExpressionHandle) (s rs : List ℕ) (n : ℕ) (t us : List ℕ) (r : Bool) : Type 0 where
  pub cells : length t ≡ length s
  pub slots : length us ≡ length rs
  pub ready : r ≡ true → Ready S t us n
  pub kept : r ≡ true → (j : ℕ) → j + 1 < n → in_slot t us j ≡ in_slot s rs j
  pub is : (v : PartReq) → in_slot s rs asked_slot ≡ asked_of (setting_of S v) →
      (aside : List PartReq) (c : Carried) → Reach (held_by s rs (n - 1)) (aside ++ c.table) →
      asking S aside (of_value e v) (in_slot s rs (n - 1)) c ≡ passed_by r c (in_slot t us (n - 1))

-- The loop l begins: the slot n has what stands after its continuing block.
pub record Begun (S : Scope) (l : ℕ) (break_if : Option ExpressionHandle) (s rs : List ℕ) (n : ℕ) (t us : List ℕ) (r : Bool) : Type 0 where
  pub cells : length t ≡ length s
  pub slots : length us ≡ length rs
  pub ready : r ≡ true → Ready S t us (n + 1)
  pub kept : r ≡ true → (j : ℕ) → j < n → in_slot t us j ≡ in_slot s rs j
  pub is : (aside : List PartReq) (c : Carried) → Reach (held_by s rs (n - 1)) (aside ++ c.table) →
      turning_on S (in_slot s rs (n - 1) ∷ aside) (in_slot s rs l) break_if (in_slot s rs (n - 1)) c ≡ passed_by r c (in_slot t us n)

-- The loop l ends: what stands before its body, in the slot n + 1, is at hand, and is joined to the new table.
pub record Entered (S : Scope) (l : ℕ) (s rs : List ℕ) (n : ℕ) (p : Passing) (t us : List ℕ) (q : Passing) : Type 0 where
  pub cells : length t ≡ length s
  pub slots : length us ≡ length rs
  pub ready : q.full ≡ false → Ready S t us n
  pub kept : q.full ≡ false → Keeps s rs t us n
  pub hand : q.full ≡ false → in_slot t us (n - 1) ≡ in_slot s rs (n + 1)
  pub joined : q.full ≡ false → in_slot t us (table_size + l) ≡ add (in_slot s rs (n + 1)) (in_slot s rs (table_size + l))
  pub others : q.full ≡ false → (j : ℕ) → j < table_size → (j ≡ l → ⊥) → in_slot t us (table_size + j) ≡ in_slot s rs (table_size + j)
  pub fault : q.full ≡ false → q.fault ≡ p.fault
  pub held : q.full ≡ false → q.held ≡ contains (in_slot s rs l) (in_slot s rs (n + 1)) && p.held
  pub deep : q.full ≡ false → q.deep ≡ p.deep
  pub wide : q.full ≡ false → q.wide ≡ p.wide
  pub is : (aside : List PartReq) (c : Carried) → Reach (aside_of s rs (n - 1)) aside → TableIn s rs c →
      within (add (in_slot s rs (n + 1)) (in_slot s rs (table_size + l)) ∷ aside) (in_slot s rs (n + 1)) c ≡ passed_by (not q.full) c (in_slot s rs (n + 1))
