-- Numbers on paper: which number a spelling is, and how a number is spelled. Document 01, "Chart and log on paper": "Numbers have
-- no leading zero, 1 to 10 digits; an instant may carry a minus, never before 0." Request N11: "Instants and lengths on paper may have a
-- point and one digit, as `-0.5`; without a point they are whole milliseconds." Their values are tenths of a millisecond. A spelling is a
-- list of bytes; the bytes 48 to 57 are the digits, 45 is the minus, 46 the point.
use Rattle.std.specs.Prelude.{ℕ, zero, suc, ◌+◌, ◌*◌, ◌-◌, ◌/◌, ◌%◌, Bool, true, not, cond, ◌&&◌, List, [], ◌∷◌, ◌++◌, eqb, leb, ltb, ℤ, pos, negsuc, neg_ℤ, length, get_or, take, drop, Option, Some, None}

-- whether a byte is a digit
unfoldable pub is_digit : ℕ → Bool
is_digit b = leb 48 b && leb b 57

-- whether all bytes are digits
unfoldable pub all_digits : List ℕ → Bool
all_digits [] = true
all_digits (b ∷ s) = is_digit b && all_digits s

-- the number that digits spell behind digits of value n, most significant first
unfoldable pub value_from : ℕ → List ℕ → ℕ
value_from n [] = n
value_from n (b ∷ s) = value_from (n * 10 + (b - 48)) s

-- the number that digits spell
abbrev pub digits_value : List ℕ → ℕ
digits_value s = value_from 0 s

-- a leading zero: the digit 0 with more behind it
unfoldable pub has_leading_zero : List ℕ → Bool
has_leading_zero s = ltb 1 (length s) && eqb (get_or s 0 0) 48

-- "Numbers have no leading zero, 1 to 10 digits"
unfoldable pub is_number : List ℕ → Bool
is_number s = ltb 0 (length s) && (leb (length s) 10 && (not (has_leading_zero s) && all_digits s))

-- the number that a spelling is
unfoldable pub number_of : List ℕ → Option ℕ
number_of s = cond (is_number s) (Some (digits_value s)) None

-- "1 to 9 digits of an instant or length stand before the point, or alone": the whole milliseconds
unfoldable pub milliseconds_of : List ℕ → Option ℕ
milliseconds_of s = cond (leb (length s) 9) (number_of s) None

-- whole milliseconds and the byte behind their point, in tenths
unfoldable pub in_tenths : Option ℕ → ℕ → Option ℕ
in_tenths (Some n) b = cond (is_digit b) (Some (n * 10 + (b - 48))) None
in_tenths None b = None

-- "a point and one digit": the last byte but one is a point
unfoldable pub has_point : List ℕ → Bool
has_point s = ltb 1 (length s) && eqb (get_or s (length s - 2) 0) 46

-- the length that a spelling is, in tenths: "without a point they are whole milliseconds", as if `.0` stood behind them
unfoldable pub length_of : List ℕ → Option ℕ
length_of s =
    let pointed = in_tenths (milliseconds_of (take (length s - 2) s)) (get_or s (length s - 1) 0) in
    cond (has_point s) pointed (in_tenths (milliseconds_of s) 48)

-- the instant of a length that carries no minus
unfoldable pub without_minus : Option ℕ → Option ℤ
without_minus (Some n) = Some (pos n)
without_minus None = None

-- the instant of a length that carries a minus: "A minus on the value zero stays malformed in every spelling."
unfoldable pub with_minus : Option ℕ → Option ℤ
with_minus (Some n) = cond (eqb n 0) None (Some (neg_ℤ (pos n)))
with_minus None = None

-- the instant that a spelling is, in tenths: "an instant may carry a minus"
unfoldable pub instant_of : List ℕ → Option ℤ
instant_of s = cond (eqb (get_or s 0 0) 45) (with_minus (length_of (drop 1 s))) (without_minus (length_of s))

-- the byte of a digit
abbrev pub digit : ℕ → ℕ
digit d = 48 + d

-- the digits of a number n of at most f: one digit, or those of its tens and the last one
unfoldable pub digits_within : ℕ → ℕ → List ℕ
digits_within zero n = digit n ∷ []
digits_within (suc f) n =
    let longer = digits_within f (n / 10) ++ (digit (n % 10) ∷ []) in
    cond (ltb n 10) (digit n ∷ []) longer

-- the spelling of a number
unfoldable pub spelled_number : ℕ → List ℕ
spelled_number n = digits_within n n

-- a length in tenths as it is written: "one digit after" the point, always
unfoldable pub spelled_length : ℕ → List ℕ
spelled_length n = spelled_number (n / 10) ++ (46 ∷ digit (n % 10) ∷ [])

-- a number below 0: a minus and its absolute value, which is spelled by f
unfoldable pub signed : (ℕ → List ℕ) → ℤ → List ℕ
signed f (pos n) = f n
signed f (negsuc n) = 45 ∷ f (suc n)

-- the spelling of a whole number
abbrev pub spelled : ℤ → List ℕ
spelled z = signed spelled_number z

-- an instant in tenths as it is written
abbrev pub spelled_instant : ℤ → List ℕ
spelled_instant z = signed spelled_length z

-- how many bytes of a spelling are written: all, where the output is not too short
unfoldable pub written : List ℕ → List ℕ → Option ℕ
written s out = cond (leb (length s) (length out)) (Some (length s)) None

-- the same with 0 where it is too short, as C has it
unfoldable pub written_length : List ℕ → List ℕ → ℕ
written_length s out = cond (leb (length s) (length out)) (length s) 0

-- the output then: the spelling at its front and the rest as before, or all as before
unfoldable pub written_output : List ℕ → List ℕ → List ℕ
written_output s out = cond (leb (length s) (length out)) (s ++ drop (length s) out) out
