-- What the arm of `Swizzle` asks of its vector, beside `add_expression` of src/prune/mod.rs.
use Rattle.std.specs.Prelude.{ℕ, Bool, true, false, cond, ◌&&◌, List, ltb, get_or}
use Rattle.part.specs.PartReq.{PartReq, all, exist, none, more}
use Rattle.part.specs.Insert.{insert}

-- what is asked, or the panic: at an index that the four letters do not have, and at a part below a component
pub data Swizzled : Type 0 where
  asks : PartReq → Swizzled
  panics : Swizzled

-- what the assertion asks: all or exist
unfoldable pub is_flat : PartReq → Bool
is_flat all = true
is_flat exist = true
is_flat none = false
is_flat (more i p r) = false

-- The entries, lowest index first, collected into the map `picked`: each goes to the component that its letter names, so that
-- the last of two with one letter stays. A pattern of fewer than 4 letters is filled up with 0.
unfoldable pub collected : List ℕ → PartReq → PartReq → Swizzled
collected pattern all picked = asks picked
collected pattern exist picked = asks picked
collected pattern none picked = asks picked
collected pattern (more i q r) picked =
    cond (ltb i 4 && is_flat q) (collected pattern r (insert picked (get_or pattern i 0) q)) panics

-- `swizzled_req`
unfoldable pub swizzled : List ℕ → PartReq → Swizzled
swizzled pattern all = asks all
swizzled pattern exist = asks exist
swizzled pattern none = asks none
swizzled pattern (more i q r) = collected pattern (more i q r) none
