-- What came of writing a text.
use Rattle.std.specs.Prelude.{ℕ, ◌≤◌, ◌≡◌, Bool, true, List, Option, length, take}
use Rattle.std.specs.Io.KnownBytes.{Appends}

-- What a writer was handed of a text, where its bytes are known: the front of it, and all where that is said.
pub record Hands (before after : Option (List ℕ)) (text : List ℕ) (whole : Bool) : Type 0 where
  pub count : ℕ
  pub inside : count ≤ length text
  pub front : Appends before after (take count text)
  pub all : whole ≡ true → count ≡ length text
