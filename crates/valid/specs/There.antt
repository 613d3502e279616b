-- The function f of a module that was read.
use Rattle.std.specs.Prelude.{ℕ, ◌<◌, ◌≡◌, List, length}
use Rattle.module.specs.File.{accepted, read_module}
use Rattle.module.specs.Tables.{module_of}

pub record There (bytes t : List ℕ) (f : ℕ) : Type 0 where
  pub read : read_module bytes ≡ accepted (module_of bytes t)
  pub there : f < length (module_of bytes t).functions
