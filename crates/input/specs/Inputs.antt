-- An input as it is read, in pieces. What a reader hands over is any list of bytes, so each piece is some list: the statements say that there is
-- one, and that the pieces are the reader's bytes where these are known. The statements of crate `program` then hold of the pieces put together.
-- `held` alone serves the proofs.
use Rattle.std.specs.Prelude.{ℕ, ◌≡◌, Bool, true, false, cond, List, [], ℤ, Option, Some, None, Result, Ok, Err, IfOk, IfSome, is_err, take, ⊤}
use Rattle.std.specs.Io.KnownBytes.{Consumes}
use Rattle.std.specs.declared.io.Error.{Error}
use Rattle.program.specs.Outcomes.{printed_for}
use Rattle.program.specs.Runs.{Between}
use Rattle.text.specs.Text.{joined}
use Rattle.program.specs.Statements.{fed_run, whole_run, has_room, whole_count, whole_output, whole_table}
use Rattle.program.specs.declared.Format.{Format}
use Rattle.program.specs.declared.Run.{Run}

-- a run, its table, and the bytes that are kept at the front of a buffer
abbrev pub held : Run → List ℤ → ℕ → List ℕ → Between
held r t kept buf = record { progress = record { run = r; table = t }; kept = take kept buf }

-- Run and table are those of some pieces of an input: of the whole, or, where reading failed, of what came before that.
abbrev pub PlayedTo : Result ⊤ Error → Run → List ℤ → List ℤ → List (List ℕ) → Type 0
PlayedTo (Ok n) r u t pieces = record { run = r; table = u } ≡ whole_run t pieces
PlayedTo (Err e) r u t pieces = record { run = r; table = u } ≡ (fed_run t pieces).progress

-- The pieces of a reader's bytes, where these are known before and after: all that it had, or, where reading failed, those that it has no more. A refused run reads no
-- further, and no byte that is left would change it.
pub record OfReader (before after : Option (List ℕ)) (failed : Bool) (pieces : List (List ℕ)) : Type 0 where
  pub whole : failed ≡ false → IfSome before (λ s. s ≡ joined pieces)
  pub front : failed ≡ true → Consumes before after (joined pieces)

pub record OfInput (before after : Option (List ℕ)) (t : List ℤ) (r : Run) (a : Result ⊤ Error) (u : List ℤ) : Type 0 where
  pub pieces : List (List ℕ)
  pub from : OfReader before after (is_err a) pieces
  pub same : PlayedTo a r u t pieces

-- Where reading did not fail, length, table and output are those that `program::print_whole` leaves for the pieces put together. Otherwise the output stays,
-- and the output had room, since nothing is read before that is known.
pub record PrintsInput (f : Format) (before after : Option (List ℕ)) (t : List ℤ) (out : List ℕ) (r : Result (Option ℕ) Error) (u : List ℤ) (written : List ℕ) : Type 0 where
  pub pieces : List (List ℕ)
  pub from : OfReader before after (is_err r) pieces
  pub room : is_err r ≡ true → has_room f t out ≡ true
  pub length : IfOk r (λ n. n ≡ whole_count f (joined pieces) t out)
  pub table : u ≡ cond (is_err r) (fed_run t pieces).progress.table (whole_table f (joined pieces) t out)
  pub output : written ≡ cond (is_err r) out (whole_output f (joined pieces) t out)

-- what is printed stands at the front of the output; nothing where the output has not the room, or reading failed
abbrev pub front_of : Result (Option ℕ) Error → List ℕ → List ℕ
front_of (Ok (Some n)) out = take n out
front_of (Ok None) out = []
front_of (Err e) out = []

-- the text that the program of a format prints for a whole input, with a table of so many rows
pub record Printout (f : Format) (room : ℕ) (text : List ℕ) : Type 0 where
  pub pieces : List (List ℕ)
  pub same : text ≡ printed_for f room (joined pieces)
