-- What the code of the rule of unmarked statements is given, and what an act gives that is needed.
use Rattle.std.specs.Prelude.{ℕ, zero, suc, ◌<◌, ◌≡◌, Bool, true, ◌&&◌, List, Option, None, length, is_some, IfSome}
use Rattle.part.specs.PartReq.{PartReq, none}
use Rattle.part.specs.Store.{top, part, Good}
use Rattle.part.specs.Subparts.{Piece}
use Rattle.module.specs.Module.{ExpressionHandle}
use Rattle.clearance.specs.Shape.{some}
use Rattle.clearance.specs.Scope.{Scope}
use Rattle.clearance.specs.Tree.{Act, emit}
use Rattle.clearance.specs.Needs.{overlap, idle}
use Rattle.judge.specs.Given.{scope_at}
use Rattle.framed.specs.Kept.{Kept}
use Rattle.standing.specs.World.{World}
use Rattle.quiet.specs.declared.need.Need.{Need}

-- a need, as the piece m of a store
pub record Needing (bytes t : List ℕ) (f : ℕ) (types alike : List ℕ) (paths : List Bool) (cells : List ℕ) (m : ℕ) : Type 0 where
  pub world : World bytes t f types alike paths
  pub store : Good cells
  pub there : m < top cells
  pub kept : Kept (scope_at bytes t f) (part cells m)

abbrev pub NeedingOf : Need → Type 0
NeedingOf n = Needing n.subject.now.file.now.bytes n.subject.now.file.now.t n.subject.now.f.0 n.subject.now.types.now n.subject.now.alike.now n.subject.now.paths.now n.cells.now n.piece

-- what is needed, as the piece means it
abbrev pub needed_by : Need → PartReq
needed_by n = part n.cells.now n.piece

-- r is the piece p, if that is something, whatever the store
pub record Something (p : ℕ) (r : Option ℕ) : Type 0 where
  pub is : (s : List ℕ) → is_some r ≡ some (part s p)
  pub piece : IfSome r (λ q. q ≡ p)

-- whether what is needed of what an act gives is something, and its piece r in the store s; else it is none. A lent path is as long as it was.
pub record Overlap (S : Scope) (x : Act) (s : List ℕ) (n : PartReq) (before after : List ℕ) (r : Option ℕ) : Type 0 where
  pub is : is_some r ≡ some (overlap S x n)
  pub piece : IfSome r (λ p. Piece s (overlap S x n) p)
  pub nothing : r ≡ None → overlap S x n ≡ none
  pub long : length after ≡ length before

-- r says whether an act gives nothing that is needed
pub record Idle (S : Scope) (x : Act) (n : PartReq) (before after : List ℕ) (r : Bool) : Type 0 where
  pub is : r ≡ idle S x n
  pub long : length after ≡ length before

-- whether none of k emitted expressions from e on gives anything that is needed
unfoldable pub idle_from : Scope → PartReq → ExpressionHandle → ℕ → Bool
idle_from S n e zero = true
idle_from S n e (suc k) = idle S (emit e) n && idle_from S n (suc e) k

-- r says it of those from the first to the last
pub record IdleFrom (S : Scope) (n : PartReq) (e k : ℕ) (before after : List ℕ) (r : Bool) : Type 0 where
  pub is : r ≡ idle_from S n e k
  pub long : length after ≡ length before
