-- What a writer leaves in a lent buffer. A buffer that is too short takes what fits: nothing is written behind its end, and the position goes on.
use Rattle.std.specs.Prelude.{ℕ, ◌+◌, ◌<◌, ◌≤◌, ◌≡◌, List, ◌++◌, length, drop}
use Rattle.std.proofs.lemmas.List.Edits.{sets}
use Rattle.lines.specs.declared.text.Text.{Text}

-- positions stay below
abbrev pub longest : ℕ
longest = 4294967296

-- a text that can be written from the position `from` on
pub record Fits (from : ℕ) (text : List ℕ) : Type 0 where
  pub room : from + length text < longest

-- From xs, ys was left: the text stands in it from the position `from` on, as far as the buffer goes, and all else is as it was; `next` is the position behind it.
pub record Wrote (xs ys : List ℕ) (from : ℕ) (text : List ℕ) (next : ℕ) : Type 0 where
  pub is : ys ≡ sets xs from text
  pub behind : next ≡ from + length text

-- The whole text stands at the buffer's begin, and all behind it is as it was.
pub record Front (xs ys text : List ℕ) (next : ℕ) : Type 0 where
  pub is : ys ≡ text ++ drop (length text) xs
  pub behind : next ≡ length text
  pub within : next ≤ length xs

-- of a text: it goes on in its buffer
pub record Writes (old new : Text) (text : List ℕ) : Type 0 where
  pub same : new.out.ghost_name ≡ old.out.ghost_name
  pub wrote : Wrote old.out.now new.out.now old.at text new.at

pub record Begins (old new : Text) (text : List ℕ) : Type 0 where
  pub same : new.out.ghost_name ≡ old.out.ghost_name
  pub front : Front old.out.now new.out.now text new.at
