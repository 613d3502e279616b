-- What is said of a statement, beside `StatementReq` and `BlockReq`.
use Rattle.std.specs.Prelude.{ℕ, Bool, true, false, ◌||◌, List, [], ◌∷◌}

-- `StatementReq` with the statement's own marks. Those of the blocks that it holds stand among the marks of the function, so that of a `BlockReq`
-- only `is_required` is left.
pub data StatementReq : Type 0 where
  Emit : List Bool → StatementReq
  BlockStmt : (is_required : Bool) → StatementReq
  If : (condition : Bool) → StatementReq
  Switch : (selector : Bool) → StatementReq
  Loop : (required : Bool) → StatementReq
  Break : Bool → StatementReq
  Continue : Bool → StatementReq
  Return : Bool → StatementReq
  Kill : StatementReq
  Barrier : StatementReq
  Store : Bool → StatementReq
  ImageStore : Bool → StatementReq
  Atomic : Bool → StatementReq
  Call : (call_required result_required : Bool) → StatementReq
  RayQuery : Bool → StatementReq

unfoldable pub any : List Bool → Bool
any [] = false
any (b ∷ bs) = b || any bs

-- `required`
unfoldable pub required : StatementReq → Bool
required (StatementReq.Emit vr) = any vr
required (StatementReq.BlockStmt b) = b
required (StatementReq.If condition) = condition
required (StatementReq.Switch selector) = selector
required (StatementReq.Loop r) = r
required (StatementReq.Break r) = r
required (StatementReq.Continue r) = r
required (StatementReq.Return r) = r
required StatementReq.Kill = true
required StatementReq.Barrier = false
required (StatementReq.Store r) = r
required (StatementReq.ImageStore r) = r
required (StatementReq.Atomic r) = r
required (StatementReq.Call call_required result_required) = call_required
required (StatementReq.RayQuery r) = r

-- a mark as a byte
unfoldable pub mark : Bool → ℕ
mark true = 1
mark false = 0

unfoldable pub marks_of : List Bool → List ℕ
marks_of [] = []
marks_of (b ∷ bs) = mark b ∷ marks_of bs

-- a statement's own marks
unfoldable pub own_marks : StatementReq → List ℕ
own_marks (StatementReq.Emit vr) = marks_of vr
own_marks (StatementReq.BlockStmt b) = []
own_marks (StatementReq.If condition) = mark condition ∷ []
own_marks (StatementReq.Switch selector) = mark selector ∷ []
own_marks (StatementReq.Loop r) = mark r ∷ []
own_marks (StatementReq.Break r) = mark r ∷ []
own_marks (StatementReq.Continue r) = mark r ∷ []
own_marks (StatementReq.Return r) = mark r ∷ []
own_marks StatementReq.Kill = []
own_marks StatementReq.Barrier = []
own_marks (StatementReq.Store r) = mark r ∷ []
own_marks (StatementReq.ImageStore r) = mark r ∷ []
own_marks (StatementReq.Atomic r) = mark r ∷ []
own_marks (StatementReq.Call call_required result_required) = mark call_required ∷ (mark result_required ∷ [])
own_marks (StatementReq.RayQuery r) = mark r ∷ []
