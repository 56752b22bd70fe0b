-- The definitions of specs/Spelling.antt at the edges of the rules, computed.
use mathlib.Core.Path.{◌≡◌, refl}
use mathlib.Core.List.{[], ◌∷◌, map}
use lib.IntN.{pos, negsuc}
use lib.ListN.{replicate}
use Rattle.std.proofs.Common.{Some, None}
use Rattle.text.specs.Quoted.{bytes}
use Rattle.decimal.specs.Spelling.{is_digit, all_digits, value_from, has_leading_zero, is_number, number_of, milliseconds_of, in_tenths, has_point, length_of, without_minus, with_minus, instant_of, digits_within, spelled_number, spelled_length, signed, spelled, spelled_instant}

-- "Numbers have no leading zero, 1 to 10 digits"
numbers : map (λ s. number_of (bytes s)) ("0" ∷ "9999999999" ∷ [])
    ≡ Some 0 ∷ Some 9999999999 ∷ []
unfolding bytes is_digit all_digits value_from has_leading_zero is_number number_of
numbers = refl

no_numbers : map (λ s. number_of (bytes s)) ("" ∷ "07" ∷ "00" ∷ "10000000000" ∷ "1:" ∷ "-1" ∷ "1.5" ∷ "1.0" ∷ [])
    ≡ replicate 8 None
unfolding bytes is_digit all_digits value_from has_leading_zero is_number number_of
no_numbers = refl

-- "Instants and lengths on paper may have a point and one digit ...; without a point they are whole milliseconds", "so the widest instant on paper is
-- 100000000.0": in tenths
lengths : map (λ s. length_of (bytes s)) ("0" ∷ "0.0" ∷ "0.5" ∷ "7" ∷ "7.0" ∷ "10.3" ∷ "100000000.0" ∷ "999999999" ∷ "999999999.9" ∷ [])
    ≡ map Some (0 ∷ 0 ∷ 5 ∷ 70 ∷ 70 ∷ 103 ∷ 1000000000 ∷ 9999999990 ∷ 9999999999 ∷ [])
unfolding bytes is_digit all_digits value_from has_leading_zero is_number number_of milliseconds_of in_tenths has_point length_of
lengths = refl

-- "1 to 9 digits of an instant or length stand before the point, or alone"
no_lengths : map (λ s. length_of (bytes s)) (
    "" ∷ "1000000000" ∷ "1000000000.0" ∷ "07" ∷ "00.5" ∷ ".5" ∷ "." ∷
    "5." ∷ "1.55" ∷ "0.50" ∷ "1.5.5" ∷ "0.:" ∷ "0./" ∷ "0,5" ∷
    "-1" ∷ "1e.5" ∷ "1 " ∷ " 1" ∷ "1.-" ∷ "+1" ∷ [])
    ≡ replicate 20 None
unfolding bytes is_digit all_digits value_from has_leading_zero is_number number_of milliseconds_of in_tenths has_point length_of
no_lengths = refl

-- "as `-0.5`"; P1's opening in both spellings; the widest instants and the widest spelling
instants : map (λ s. instant_of (bytes s)) ("0" ∷ "0.0" ∷ "-0.5" ∷ "-2" ∷ "-2.0" ∷ "100000000.0" ∷ "-100000000" ∷ "-999999999.9" ∷ [])
    ≡ map Some (pos 0 ∷ pos 0 ∷ negsuc 4 ∷ negsuc 19 ∷ negsuc 19 ∷ pos 1000000000 ∷ negsuc 999999999 ∷ negsuc 9999999998 ∷ [])
unfolding bytes is_digit all_digits value_from has_leading_zero is_number number_of milliseconds_of in_tenths has_point length_of without_minus with_minus instant_of
instants = refl

-- "A minus on the value zero stays malformed in every spelling."
no_instants : map (λ s. instant_of (bytes s)) (
    "-0" ∷ "-0.0" ∷ "" ∷ "-" ∷ "--2" ∷ "-02" ∷ "-.5" ∷
    "-00.5" ∷ "-2." ∷ "-1000000000" ∷ "0.-5" ∷ "+1" ∷ "-0.00" ∷ "2-" ∷ [])
    ≡ replicate 14 None
unfolding bytes is_digit all_digits value_from has_leading_zero is_number number_of milliseconds_of in_tenths has_point length_of without_minus with_minus instant_of
no_instants = refl

-- the least number that an i32 holds, and 0
spellings : map spelled (negsuc 2147483647 ∷ pos 0 ∷ []) ≡ map bytes ("-2147483648" ∷ "0" ∷ [])
unfolding bytes digits_within spelled_number signed
spellings = refl

-- "Listings and merged logs print one digit after it: P1's `-2` becomes `-2.0`."
written : map spelled_instant (negsuc 19 ∷ negsuc 4 ∷ pos 0 ∷ negsuc 0 ∷ pos 9 ∷ pos 10 ∷ pos 1000000000 ∷ negsuc 2147483647 ∷ [])
    ≡ map bytes ("-2.0" ∷ "-0.5" ∷ "0.0" ∷ "-0.1" ∷ "0.9" ∷ "1.0" ∷ "100000000.0" ∷ "-214748364.8" ∷ [])
unfolding bytes digits_within spelled_number spelled_length signed
written = refl
