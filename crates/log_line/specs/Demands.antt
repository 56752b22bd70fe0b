-- What is claimed of a line of the log: demand 1 of the request, that the limit of 64 bytes turns no line back, and that what is written is read back; no proof
-- stands here. proofs/Demands.antt and proofs/ReadBack.antt prove it.
use Rattle.std.specs.Prelude.{ℕ, ◌+◌, ◌<◌, ◌≡◌, ◌⊎◌, true, List, [], ◌∷◌, ◌++◌, length, Some}
use Rattle.log_line.specs.declared.Call.{Call}
use Rattle.log_line.specs.Log.{line_answer, calls_of, has_line, line_of}

-- Demand 1: "every call ... refuses by a listed number what it cannot take"
pub record Demand1 : Type 0 where
  -- "7 a log line not of its form, a code above 255"
  pub numbers : (s : List ℕ) → ((line_answer s).refusal ≡ 0) ⊎ ((line_answer s).refusal ≡ 7)
  -- "A line refused with 7 yields the number alone."
  pub alone : (s : List ℕ) → (line_answer s).refusal ≡ 7 → (line_answer s).asked ≡ []

-- "at most 64 bytes with it": every line that is taken has less, with its byte 10
abbrev pub LinesFit : Type 0
LinesFit = (s : List ℕ) → (line_answer s).refusal ≡ 0 → length s + 1 < 64

-- a line that was written, in front of any others, is read as its call
abbrev pub LinesReadBack : Type 0
LinesReadBack = (c : Call) → has_line c ≡ true → (rest : List ℕ) → calls_of (line_of c ++ rest) ≡ Some c ∷ calls_of rest
