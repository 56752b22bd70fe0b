-- What is claimed of lengths and instants on paper; no proof stands here. proofs/Tenths.antt proves it.
use Rattle.std.specs.Prelude.{ℕ, ◌*◌, ◌<◌, ◌≤◌, ◌^◌, ◌≡◌, ◌⊎◌, List, [], ◌∷◌, ◌++◌, pos, neg_ℤ, nat_abs, length, Some}
use Rattle.decimal.specs.Spelling.{number_of, length_of, instant_of, spelled_length, spelled_instant}

-- `.0`
abbrev pub point_zero : List ℕ
point_zero = 46 ∷ 48 ∷ []

-- Of one kind of number: which spellings are read as which number, which numbers paper has room for, and how each is written.
pub record SpellingsHold {A : Type 0} (Reads : List ℕ → A → Type 0) (HasRoom : A → Type 0) (written : A → List ℕ) : Type 0 where
  -- reading what was written gives the number back, so that the written spelling is a sound one
  pub read_back : (x : A) → HasRoom x → Reads (written x) x
  -- every sound spelling of a number but the written one is the same without its `.0`
  pub spellings : (s : List ℕ) (x : A) → Reads s x → (s ≡ written x) ⊎ (s ++ point_zero ≡ written x)
  -- and that one is sound
  pub without_point : (s : List ℕ) (x : A) → HasRoom x → s ++ point_zero ≡ written x → Reads s x
  -- no other number is read
  pub has_room : (s : List ℕ) (x : A) → Reads s x → HasRoom x

-- "1 to 9 digits of an instant or length stand before the point": ten digits with the one behind it
abbrev pub LengthsHold : Type 0
LengthsHold = SpellingsHold (λ s n. length_of s ≡ Some n) (λ n. n < 10 ^ 10) spelled_length

abbrev pub InstantsHold : Type 0
InstantsHold = SpellingsHold (λ s z. instant_of s ≡ Some z) (λ z. nat_abs z < 10 ^ 10) spelled_instant

-- "without a point they are whole milliseconds": what was a sound number of at most 9 digits before request N11 is a length and an instant still
pub record WholeHolds (s : List ℕ) (n : ℕ) : Type 0 where
  pub length : length_of s ≡ Some (n * 10)
  pub instant : instant_of s ≡ Some (pos (n * 10))
  pub before : 0 < n → instant_of (45 ∷ s) ≡ Some (neg_ℤ (pos (n * 10)))

abbrev pub WholesHold : Type 0
WholesHold = (s : List ℕ) (n : ℕ) → length s ≤ 9 → number_of s ≡ Some n → WholeHolds s n
