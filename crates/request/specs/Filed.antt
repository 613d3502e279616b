-- What a file can hold.
use Rattle.std.specs.Prelude.{◌≡◌, false}
use Rattle.field.specs.Limits.{absent}
use Rattle.part.specs.PartReq.{PartReq, all, exist, none, more, over}
use Rattle.part.specs.Ascending.{Ascending, From}
use Rattle.part.specs.Limited.{Indexed, Plain}
use Rattle.context.specs.RequiredContext.{RequiredContext, variable}

-- a requirement: no index is absent, they ascend, and no limit is passed
pub record Filed (p : PartReq) : Type 0 where
  pub ascends : Ascending p
  pub indexed : Plain p
  pub within : over p ≡ false

-- the entries of variables: no variable is absent, they ascend, and their parts pass no limit
pub record FiledVariables (q : PartReq) : Type 0 where
  pub ascends : From (variable 0) q
  pub indexed : Indexed (variable absent) q
  pub within : over q ≡ false

-- the returned value's entry, where it is there
abbrev pub FiledReturn : PartReq → Type 0
FiledReturn all = ⊥
FiledReturn exist = ⊥
FiledReturn none = Unit {0}
FiledReturn (more i p r) = (i ≡ variable 0) × (r ≡ none) × Filed p

-- a context
pub record FiledContext (c : RequiredContext) : Type 0 where
  pub globals : FiledVariables c.globals
  pub args : FiledVariables c.args
  pub locals : FiledVariables c.locals
  pub retval : FiledReturn c.retval
