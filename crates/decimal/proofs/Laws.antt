-- Laws of specs/Spelling.antt for plain numbers and for signs: a number is read back from its spelling, it has no other spelling, how large both can be,
-- and what is written of a spelling. Lengths and instants are in Tenths.antt.
use mathlib.Core.Path.{◌≡◌, refl, sym, ap, ◌∙◌}
use mathlib.Core.Bool.{Bool, true, false, not, cond, ◌&&◌, and-false}
use mathlib.Core.List.{List, [], ◌∷◌, ◌++◌, append-nil}
use mathlib.Core.Logic.{⊎_elim}
use Rattle.std.proofs.Common.{Some, None}
use Rattle.std.specs.Option.{unwrap_or}
use Prim.Native.Nat.{ℕ, zero, suc, ◌+◌, ◌*◌, ◌-◌, ◌/◌, ◌%◌, ◌^◌, ◌<◌, ◌≤◌}
use native.Mathlib.Omega.{arith}
use native.Mathlib.Nat.{zero-add, lt_of_lt_of_le, pow-le-pow_right}
use lib.Dec.{eqb, leb, ltb}
use lib.Signed.{nat_abs-le}
use lib.IntN.{ℤ, pos, negsuc, nat_abs}
use lib.ListN.{length, get_or, drop}
use lib.Seq.{append_snoc}
use mir.Syntax.{w32}
use mir.Val.{SFits}
use borrow.Author.Tests.{lt-ltb, le-leb, lt-leb, ne_eqb, ltb-true, leb-true, eqb-false, not-true}
use Rattle.interval.proofs.Signed.{and_first, and_second}
use Rattle.text.proofs.Laws.{lt_or_le, lacks}
use Rattle.decimal.specs.Spelling.{is_digit, all_digits, value_from, digits_value, has_leading_zero, is_number, number_of, digit, spelled_number, signed, spelled, written, written_length, written_output}
use Rattle.decimal.proofs.Digits.{digit_least, digit_most, digits_lack, spelled_small, spelled_large, spelled_value, spelled_digits, spelled_nonempty, spelled_first, length_most, value_below}

-- What a number's spelling tells.
record Numeral (s : List ℕ) (n : ℕ) : Type 0 where
  some_bytes : 0 < length s
  few_bytes : length s ≤ 10
  first : has_leading_zero s ≡ false
  digits : all_digits s ≡ true
  value : digits_value s ≡ n

numeral : (s : List ℕ) (n : ℕ) → number_of s ≡ Some n → Numeral s n
unfolding number_of is_number
numeral s n e = at (is_number s) refl e
  where
    at : (t : Bool) → is_number s ≡ t → cond t (Some (digits_value s)) None ≡ Some n → Numeral s n
    at true p q =
        let rest = leb (length s) 10 && (not (has_leading_zero s) && all_digits s) in
        let p₁ = and_second (ltb 0 (length s)) rest p in
        let p₂ = and_second (leb (length s) 10) (not (has_leading_zero s) && all_digits s) p₁ in
        record {
          some_bytes = ltb-true 0 (length s) (and_first (ltb 0 (length s)) rest p);
          few_bytes = leb-true (length s) 10 (and_first (leb (length s) 10) (not (has_leading_zero s) && all_digits s) p₁);
          first = not-true (has_leading_zero s) (and_first (not (has_leading_zero s)) (all_digits s) p₂);
          digits = and_second (not (has_leading_zero s)) (all_digits s) p₂;
          value = cc;
        }
    at false p q = cc

-- The number of a spelling is below the power of ten of its length, and so below the tenth.
pub number_below_length : (s : List ℕ) (n : ℕ) → number_of s ≡ Some n → n < 10 ^ length s
number_below_length s n e =
    let f = numeral s n e in
    let below : digits_value s < 10 ^ length s = rw zero-add at (value_below 0 0 s (omega arith) f.digits) in
    rw (← f.value) below

pub number_below : (s : List ℕ) (n : ℕ) → number_of s ≡ Some n → n < 10 ^ 10
number_below s n e = lt_of_lt_of_le (number_below_length s n e) (pow-le-pow_right {n = 10} (omega arith) (numeral s n e).few_bytes)

-- It has 1 to 10 bytes, and lacks every byte below the digits.
pub number_some : (s : List ℕ) (n : ℕ) → number_of s ≡ Some n → 1 ≤ length s
number_some s n e = (numeral s n e).some_bytes

pub number_few : (s : List ℕ) (n : ℕ) → number_of s ≡ Some n → length s ≤ 10
number_few s n e = (numeral s n e).few_bytes

pub number_digits : (s : List ℕ) (n : ℕ) → number_of s ≡ Some n → all_digits s ≡ true
number_digits s n e = (numeral s n e).digits

pub number_lacks : (x : ℕ) → x < 48 → (s : List ℕ) (n : ℕ) → number_of s ≡ Some n → lacks x s ≡ true
number_lacks x h s n e = digits_lack x s h (number_digits s n e)

-- A number of at most ten digits is read back from its spelling.
leading : (n : ℕ) → has_leading_zero (spelled_number n) ≡ false
unfolding has_leading_zero
leading zero = rw (spelled_small 0 (omega arith))
leading (suc n) = rw (ne_eqb (get_or (spelled_number (suc n)) 0 0) 48 (λ e. omega (arith, spelled_first (suc n) (omega arith)))) (and-false (ltb 1 (length (spelled_number (suc n)))))

pub number_read_back : (n : ℕ) → n < 10 ^ 10 → number_of (spelled_number n) ≡ Some n
unfolding number_of is_number
number_read_back n h =
    simp (lt-ltb 0 (length (spelled_number n)) (spelled_nonempty n), le-leb (length (spelled_number n)) 10 (length_most 9 n h), leading n, spelled_digits n, spelled_value n)

-- A number has one spelling.
more_digit : (m b : ℕ) → 0 < m → is_digit b ≡ true → spelled_number (m * 10 + (b - 48)) ≡ spelled_number m ++ (b ∷ [])
more_digit m b h e =
    let l = digit_least b e in
    let g = digit_most b e in
    let tens : (m * 10 + (b - 48)) / 10 ≡ m = omega arith in
    let last : digit ((m * 10 + (b - 48)) % 10) ≡ b = omega arith in
    spelled_large (m * 10 + (b - 48)) (omega arith) ∙ rw (tens, last)

from_digits : (m : ℕ) (s : List ℕ) → 0 < m → all_digits s ≡ true → spelled_number (value_from m s) ≡ spelled_number m ++ s
unfolding value_from all_digits
from_digits m [] h e = sym (append-nil (spelled_number m))
from_digits m (b ∷ s) h e =
    from_digits (m * 10 + (b - 48)) s (omega arith) (and_second (is_digit b) (all_digits s) e)
    ∙ rw (more_digit m b h (and_first (is_digit b) (all_digits s) e)) (append_snoc (spelled_number m) b s)

one_digit : (b : ℕ) → is_digit b ≡ true → spelled_number (0 * 10 + (b - 48)) ≡ b ∷ []
one_digit b e =
    let l = digit_least b e in
    let g = digit_most b e in
    let same : digit (0 * 10 + (b - 48)) ≡ b = omega arith in
    spelled_small (0 * 10 + (b - 48)) (omega arith) ∙ rw same

spelled_again : (s : List ℕ) → 0 < length s → has_leading_zero s ≡ false → all_digits s ≡ true → spelled_number (digits_value s) ≡ s
unfolding value_from all_digits has_leading_zero
spelled_again [] h f e = absurd (omega arith)
spelled_again (b ∷ []) h f e = one_digit b (and_first (is_digit b) true e)
spelled_again (b ∷ a ∷ s) h f e =
    let d = and_first (is_digit b) (is_digit a && all_digits s) e in
    let l = digit_least b d in
    let f₁ : eqb b 48 ≡ false = rw (lt-ltb 1 (suc (suc (length s))) (omega arith)) at f in
    let z : 0 < 0 * 10 + (b - 48) = omega (arith, eqb-false b 48 f₁) in
    from_digits (0 * 10 + (b - 48)) (a ∷ s) z (and_second (is_digit b) (is_digit a && all_digits s) e) ∙ rw (one_digit b d)

pub number_one_spelling : (s : List ℕ) (n : ℕ) → number_of s ≡ Some n → s ≡ spelled_number n
number_one_spelling s n e =
    let f = numeral s n e in
    sym (spelled_again s f.some_bytes f.first f.digits) ∙ ap spelled_number f.value

-- The sign apart: a number below 0 has a minus and then its absolute value, however that is spelled.
module _ (f : ℕ → List ℕ) where
  pub signed_least : (k : ℕ) → ((n : ℕ) → k ≤ length (f n)) → (z : ℤ) → k ≤ length (signed f z)
  unfolding signed
  signed_least k h (pos n) = h n
  signed_least k h (negsuc n) = omega (arith, h (suc n))

  pub signed_most : (k : ℕ) (z : ℤ) → length (f (nat_abs z)) ≤ k → length (signed f z) ≤ suc k
  unfolding signed
  signed_most k (pos n) h = omega arith
  signed_most k (negsuc n) h = omega arith

  pub signed_lacks : (x : ℕ) → x < 45 → ((n : ℕ) → lacks x (f n) ≡ true) → (z : ℤ) → lacks x (signed f z) ≡ true
  unfolding signed
  signed_lacks x h l (pos n) = l n
  signed_lacks x h l (negsuc n) = rw (ne_eqb 45 x (λ e. omega arith)) (l (suc n))

-- The spelling of a number: at most k + 1 bytes below the (k + 1)th power of ten, and so at most 20 for what a u64 holds.
pub number_digits_most : (k n : ℕ) → n < 10 ^ suc k → length (spelled_number n) ≤ suc k
number_digits_most k n h = length_most k n h

pub wide_digits_most : (n : ℕ) → n < 2 ^ 64 → length (spelled_number n) ≤ 20
wide_digits_most n h = length_most 19 n (omega arith)

pub spelled_number_lacks : (x : ℕ) → x < 48 → (n : ℕ) → lacks x (spelled_number n) ≡ true
spelled_number_lacks x h n = digits_lack x (spelled_number n) h (spelled_digits n)

-- What an i32 holds has at most ten digits.
pub fits_below : (z : ℤ) → SFits w32 z → nat_abs z < 10 ^ 10
fits_below z f = omega (arith, nat_abs-le z f.sfits)

-- The spelling of a whole number: at least 1 byte, at most 11 of an i32, and neither a tab nor the end of a line among them.
pub spelled_length_least : (z : ℤ) → 1 ≤ length (spelled z)
spelled_length_least z = signed_least spelled_number 1 spelled_nonempty z

pub integer_length_most : (z : ℤ) → SFits w32 z → length (spelled z) ≤ 11
integer_length_most z f = signed_most spelled_number 10 z (length_most 9 (nat_abs z) (fits_below z f))

pub spelled_lacks : (x : ℕ) → x < 45 → (z : ℤ) → lacks x (spelled z) ≡ true
spelled_lacks x h z = signed_lacks spelled_number x h (spelled_number_lacks x (omega arith)) z

-- What is written of a spelling: all of it where the output has room, else nothing.
module _ (s out : List ℕ) where
  pub written_length_all : length s ≤ length out → written_length s out ≡ length s
  unfolding written_length
  written_length_all h = rw (le-leb (length s) (length out) h)

  pub written_output_all : length s ≤ length out → written_output s out ≡ s ++ drop (length s) out
  unfolding written_output
  written_output_all h = rw (le-leb (length s) (length out) h)

  pub written_none : length out < length s → (0 ≡ written_length s out) × (out ≡ written_output s out)
  unfolding written_length written_output
  written_none h = rw (lt-leb (length s) (length out) h) (refl, refl)

  pub written_length_most : written_length s out ≤ length out
  written_length_most =
      ⊎_elim (λ h. omega (arith, (written_none h).0)) (λ h. omega (arith, written_length_all h)) (lt_or_le (length out) (length s))

  pub was_short : 1 ≤ length s → written_length s out ≡ 0 → length out < length s
  was_short l e = ⊎_elim (λ h. h) (λ h. absurd (omega (arith, written_length_all h))) (lt_or_le (length out) (length s))

  pub had_room : (written_length s out ≡ 0 → ⊥) → length s ≤ length out
  had_room e = ⊎_elim (λ h. absurd (e (sym (written_none h).0))) (λ h. h) (lt_or_le (length out) (length s))

-- What C is told of what is written: 0 where nothing is.
pub written_or_none : (s out : List ℕ) → unwrap_or (written s out) 0 ≡ written_length s out
unfolding written written_length
written_or_none s out = elim (leb (length s) (length out)) as (λ t. unwrap_or (cond t (Some (length s)) None) 0 ≡ cond t (length s) 0) [ true ↦ refl | false ↦ refl ]
