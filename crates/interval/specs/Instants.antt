-- Instants, lengths, which clock marks and forgets are refused, the least start and the greatest end. Document 01, "Instants, events, rows". Request N11: "Inside and in
-- the row ranges one unit is now a tenth, the numeric ranges being as before": a tenth of a millisecond.
use Rattle.std.specs.Prelude.{ℕ, Bool, false, cond, not, ◌&&◌, ◌||◌, eqb, leb, ℤ, pos, negsuc}
use Rattle.std.specs.Int.Signed.{lt_z, le_z}

-- "An instant is a signed whole number from -1,000,000,000 to 1,000,000,000."
unfoldable pub is_instant : ℤ → Bool
is_instant z = le_z (negsuc 999999999) z && le_z z (pos 1000000000)

-- "A length is 0 to 2,000,000,000."
unfoldable pub is_length : ℕ → Bool
is_length d = leb d 2000000000

-- "a floor (at first -1,000,000,000)"
unfoldable pub first_floor : ℤ
first_floor = negsuc 999999999

-- "8 ... a clock mark out of range or not after the open instant"
unfoldable pub is_mark_refused : ℤ → ℤ → Bool
is_mark_refused opened x = not (is_instant x) || le_z x opened

-- "11 a forget below the floor, above the open instant or out of range"
unfoldable pub is_forget_refused : ℤ → ℤ → ℤ → Bool
is_forget_refused floor opened f = lt_z f floor || (lt_z opened f || not (is_instant f))

-- two whole numbers are equal
abbrev pub eq_z : ℤ → ℤ → Bool
eq_z (pos a) (pos b) = eqb a b
eq_z (pos a) (negsuc b) = false
eq_z (negsuc a) (pos b) = false
eq_z (negsuc a) (negsuc b) = eqb a b

-- "Start and end are the least start and the greatest end of the rows referred to."
abbrev pub least : ℤ → ℤ → ℤ
least a b = cond (le_z a b) a b

abbrev pub greatest : ℤ → ℤ → ℤ
greatest a b = cond (le_z a b) b a
