-- Instants and lengths on paper as C gets them, computed: what is well formed has 1 and its tenths, what is malformed 0 and 0.
use mathlib.Core.Path.{◌≡◌, refl}
use mathlib.Core.List.{[], ◌∷◌, map}
use lib.IntN.{pos, negsuc}
use Rattle.text.specs.Quoted.{bytes}
use Rattle.decimal.specs.Spelling.{is_digit, all_digits, value_from, has_leading_zero, is_number, number_of, milliseconds_of, in_tenths, has_point, length_of, without_minus, with_minus, instant_of}
use Rattle.host.specs.Tenths.{tenths_of}

instants : map (λ s. tenths_of (instant_of (bytes s))) ("-0.5" ∷ "0" ∷ "-999999999.9" ∷ "-0.0" ∷ "" ∷ [])
    ≡
    record { formed = 1; tenths = negsuc 4 } ∷
    record { formed = 1; tenths = pos 0 } ∷
    record { formed = 1; tenths = negsuc 9999999998 } ∷
    record { formed = 0; tenths = pos 0 } ∷
    record { formed = 0; tenths = pos 0 } ∷ []
unfolding bytes is_digit all_digits value_from has_leading_zero is_number number_of milliseconds_of in_tenths has_point length_of without_minus with_minus instant_of
instants = refl

-- a length has no minus
lengths : map (λ s. tenths_of (without_minus (length_of (bytes s)))) ("0.5" ∷ "7" ∷ "-0.5" ∷ [])
    ≡ record { formed = 1; tenths = pos 5 } ∷ record { formed = 1; tenths = pos 70 } ∷ record { formed = 0; tenths = pos 0 } ∷ []
unfolding bytes is_digit all_digits value_from has_leading_zero is_number number_of milliseconds_of in_tenths has_point length_of without_minus
lengths = refl
