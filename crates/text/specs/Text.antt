-- Lines and fields. Document 01, "Chart and log on paper": "One record a line, fields parted by one tab, each line ended by byte 10
-- and at most 64 bytes with it."
use Rattle.std.specs.Prelude.{ℕ, suc, ◌+◌, Bool, true, false, cond, ◌&&◌, List, [], ◌∷◌, ◌++◌, eqb, ltb, length, take, Option, Some, None}

-- the place of the first x, or the length where there is none
unfoldable pub index_of : ℕ → List ℕ → ℕ
index_of x [] = 0
index_of x (b ∷ s) = cond (eqb b x) 0 (suc (index_of x s))

-- that place, where there is an x
unfoldable pub found_at : ℕ → List ℕ → Option ℕ
found_at x s = cond (ltb (index_of x s) (length s)) (Some (index_of x s)) None

abbrev pub in_front : ℕ → List (List ℕ) → List (List ℕ)
in_front b [] = []
in_front b (p ∷ ps) = (b ∷ p) ∷ ps

-- the parts of s between its x, one more than there are x
unfoldable pub split : ℕ → List ℕ → List (List ℕ)
split x [] = [] ∷ []
split x (b ∷ s) = cond (eqb b x) ([] ∷ split x s) (in_front b (split x s))

-- "fields parted by one tab"
abbrev pub fields : List ℕ → List (List ℕ)
fields = split 9

-- a line without its byte 10, and whether it has one
pub record Line : Type 0 where
  pub bytes : List ℕ
  pub ended : Bool

abbrev pub whole : List ℕ → Line
whole s = record { bytes = s; ended = true }

abbrev pub broken : List ℕ → Line
broken s = record { bytes = s; ended = false }

-- "each line ended by byte 10": what follows the last byte 10 is a line that lacks it, or nothing
abbrev pub ended : List (List ℕ) → List Line
ended [] = []
ended ([] ∷ []) = []
ended ((b ∷ p) ∷ []) = broken (b ∷ p) ∷ []
ended (p ∷ q ∷ ps) = whole p ∷ ended (q ∷ ps)

unfoldable pub lines : List ℕ → List Line
unfolding split
lines s = ended (split 10 s)

-- "ended by byte 10 and at most 64 bytes with it"
abbrev pub is_record : Line → Bool
is_record l = l.ended && ltb (length l.bytes) 64

-- how many bytes the first line has with its byte 10, where that is among the first 64 bytes
unfoldable pub line_size : List ℕ → Option ℕ
line_size s = cond (ltb (index_of 10 (take 64 s)) (length (take 64 s))) (Some (index_of 10 (take 64 s) + 1)) None

-- an input that comes in pieces: the pieces put together
unfoldable pub joined : List (List ℕ) → List ℕ
joined [] = []
joined (s ∷ ss) = s ++ joined ss
