-- What a table says of a number; of one past its end, that it is not marked.
use Rattle.std.specs.Prelude.{ℕ, Bool, false, List, get_or}

unfoldable pub marked : List Bool → ℕ → Bool
marked table n = get_or table n false
