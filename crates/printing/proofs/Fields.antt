-- Texts written one behind the other, and how many bytes the spelling of a number takes at most.
use Rattle.std.proofs.Common.{◌≡◌, ℕ, ◌+◌, ◌<◌, ◌≤◌, ◌^◌, List, ◌++◌, length, length-append, add_assoc, arith}
use Rattle.std.proofs.lemmas.Grind.{common_steps}
use Rattle.std.proofs.lemmas.Int.{ints}
use Rattle.std.proofs.lemmas.List.Edits.{sets}
use Rattle.text.proofs.Written.{sets_append}
use Rattle.decimal.specs.Spelling.{spelled_number}
use Rattle.decimal.proofs.Laws.{number_digits_most, wide_digits_most, integer_length_most}
use Rattle.decimal.proofs.Tenths.{written_instant_few}

-- what a call tells that wrote s from place n of the output l on: the place k behind it, and the output o
abbrev pub Told : List ℕ → List ℕ → ℕ → ℕ → List ℕ → Type 0
Told s l n k o = (k ≡ n + length s) × (o ≡ sets l n s)

-- and of t behind it
pub behind : (s t l : List ℕ) (n : ℕ) {k m : ℕ} {o p : List ℕ} → Told s l n k o → Told t o k m p → Told (s ++ t) l n m p
behind s t l n f g = (omega (arith, f.0, g.0, length-append s t), rw (g.1, f.1, f.0, sets_append l n s t))

-- the number of a refusal
pub short_digits_most : (n : ℕ) → n < 2 ^ 32 → length (spelled_number n) ≤ 10
short_digits_most n h = number_digits_most 9 n (omega arith)

-- for a row, and for the other lines
pub ruleset few_bytes = (ints, wide_digits_most, integer_length_most, written_instant_few)

pub ruleset fields = (common_steps, sets_append, short_digits_most, wide_digits_most)
