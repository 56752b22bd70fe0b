-- Digits and the spelling of a number: its unfolding by tens, its value, its bytes, its first byte and its length.
use mathlib.Core.Path.{◌≡◌, refl, sym, ap, ◌∙◌}
use mathlib.Core.Bool.{Bool, true, false, cond}
use mathlib.Core.List.{List, [], ◌∷◌, ◌++◌}
use Prim.Native.Nat.{ℕ, zero, suc, ◌+◌, ◌*◌, ◌-◌, ◌/◌, ◌%◌, ◌^◌, ◌<◌, ◌≤◌, max}
use native.Mathlib.Omega.{arith}
use native.Mathlib.Nat.{add-zero, add-suc, suc-add, pow-suc, one-le-pow}
use lib.Dec.{leb, ltb}
use lib.ListN.{length, get_or, drop, length-append, get_or-append, drop_of_length-le}
use lib.Seq.{drop-cons}
use native.Mathlib.Numerals.{add-one}
use Rattle.std.proofs.Common.{Option, Some, None}
use borrow.Author.Tests.{lt-ltb, le-ltb, le-leb, ne_eqb, ltb-true, ltb-false, leb-true}
use Rattle.interval.proofs.Signed.{and_first, and_second}
use Rattle.text.proofs.Laws.{lacks}
use Rattle.decimal.specs.Spelling.{is_digit, all_digits, value_from, digits_value, digit, digits_within, spelled_number}

-- The spelling of a number, unfolded: one digit, or the spelling of its tens and the last digit.
small_within : (f n : ℕ) → n < 10 → digits_within f n ≡ digit n ∷ []
unfolding digits_within
small_within zero n h = refl
small_within (suc f) n h = rw (lt-ltb n 10 h)

large_within : (f n : ℕ) → 10 ≤ n → digits_within (suc f) n ≡ digits_within f (n / 10) ++ (digit (n % 10) ∷ [])
unfolding digits_within
large_within f n h = rw (le-ltb n 10 h)

within : (f g n : ℕ) → n ≤ f → n ≤ g → digits_within f n ≡ digits_within g n
within zero g n h k = small_within zero n (omega arith) ∙ sym (small_within g n (omega arith))
within (suc f) zero n h k = small_within (suc f) n (omega arith) ∙ sym (small_within zero n (omega arith))
within (suc f) (suc g) n h k = at (ltb n 10) refl (within f g (n / 10) (omega arith) (omega arith))
  where
    at : (t : Bool) → ltb n 10 ≡ t → digits_within f (n / 10) ≡ digits_within g (n / 10) → digits_within (suc f) n ≡ digits_within (suc g) n
    at true e ih = small_within (suc f) n (ltb-true n 10 e) ∙ sym (small_within (suc g) n (ltb-true n 10 e))
    at false e ih =
        let l = ltb-false n 10 e in
        large_within f n l ∙ ap (λ (s : List ℕ). s ++ (digit (n % 10) ∷ [])) ih ∙ sym (large_within g n l)

pub spelled_small : (n : ℕ) → n < 10 → spelled_number n ≡ digit n ∷ []
unfolding spelled_number
spelled_small n h = small_within n n h

pub spelled_large : (n : ℕ) → 10 ≤ n → spelled_number n ≡ spelled_number (n / 10) ++ (digit (n % 10) ∷ [])
unfolding spelled_number
spelled_large zero h = absurd (omega arith)
spelled_large (suc m) h =
    large_within m (suc m) h ∙ ap (λ (s : List ℕ). s ++ (digit (suc m % 10) ∷ [])) (within m (suc m / 10) (suc m / 10) (omega arith) (omega arith))

-- What holds of every one_digit number and, if it holds of a number's tens, of the number, holds of every number.
by_tens : (P : ℕ → Type 0) → ((n : ℕ) → n < 10 → P n) → ((n : ℕ) → 10 ≤ n → P (n / 10) → P n) → (n : ℕ) → P n
by_tens P one more n = go n n (omega arith)
  where
    step : (m : ℕ) → P (m / 10) → (t : Bool) → ltb m 10 ≡ t → P m
    step m ih true e = one m (ltb-true m 10 e)
    step m ih false e = more m (ltb-false m 10 e) ih

    go : (f m : ℕ) → m ≤ f → P m
    go zero m h = one m (omega arith)
    go (suc f) m h = step m (go f (m / 10) (omega arith)) (ltb m 10) refl

pub digit_is : (d : ℕ) → d < 10 → is_digit (digit d) ≡ true
unfolding is_digit
digit_is d h = rw (le-leb 48 (digit d) (omega arith), le-leb (digit d) 57 (omega arith))

pub digit_least : (b : ℕ) → is_digit b ≡ true → 48 ≤ b
unfolding is_digit
digit_least b e = leb-true 48 b (and_first (leb 48 b) (leb b 57) e)

pub digit_most : (b : ℕ) → is_digit b ≡ true → b ≤ 57
unfolding is_digit
digit_most b e = leb-true b 57 (and_second (leb 48 b) (leb b 57) e)

-- What digits after a value n give: a byte that is no digit, one digit more, and none left.
abbrev pub carried : ℕ → List ℕ → Option ℕ
carried n s = cond (all_digits s) (Some (value_from n s)) None

module _ (s : List ℕ) (i n : ℕ) (h : i < length s) where
  pub carried_none : is_digit (get_or s i 0) ≡ false → carried n (drop i s) ≡ None
  unfolding all_digits
  carried_none e = rw (drop-cons s i 0 h, e)

  pub carried_more : is_digit (get_or s i 0) ≡ true → carried n (drop i s) ≡ carried (n * 10 + (get_or s i 0 - 48)) (drop (i + 1) s)
  unfolding all_digits value_from
  carried_more e = rw (add-one i, drop-cons s i 0 h, e)

pub carried_all : (s : List ℕ) (i n : ℕ) → length s ≤ i → carried n (drop i s) ≡ Some n
unfolding all_digits value_from
carried_all s i n h = rw (drop_of_length-le s h)

-- One digit more at the end.
value_more : (n : ℕ) (s : List ℕ) (b : ℕ) → value_from n (s ++ (b ∷ [])) ≡ value_from n s * 10 + (b - 48)
unfolding value_from
value_more n [] b = refl
value_more n (a ∷ s) b = value_more (n * 10 + (a - 48)) s b

digits_more : (s : List ℕ) (b : ℕ) → all_digits s ≡ true → is_digit b ≡ true → all_digits (s ++ (b ∷ [])) ≡ true
unfolding all_digits
digits_more [] b e d = rw d
digits_more (a ∷ s) b e d = rw (and_first (is_digit a) (all_digits s) e, digits_more s b (and_second (is_digit a) (all_digits s) e) d)

-- A spelling's value, its bytes, its first byte and its length.
pub spelled_value : (n : ℕ) → digits_value (spelled_number n) ≡ n
unfolding value_from
spelled_value = by_tens (λ n. digits_value (spelled_number n) ≡ n) one more
  where
    one : (n : ℕ) → n < 10 → digits_value (spelled_number n) ≡ n
    one n h = rw (spelled_small n h) (omega arith)

    more : (n : ℕ) → 10 ≤ n → digits_value (spelled_number (n / 10)) ≡ n / 10 → digits_value (spelled_number n) ≡ n
    more n h ih = rw (spelled_large n h, value_more 0 (spelled_number (n / 10)) (digit (n % 10)), ih) (omega arith)

pub spelled_digits : (n : ℕ) → all_digits (spelled_number n) ≡ true
unfolding all_digits
spelled_digits = by_tens (λ n. all_digits (spelled_number n) ≡ true) one more
  where
    one : (n : ℕ) → n < 10 → all_digits (spelled_number n) ≡ true
    one n h = rw (spelled_small n h, digit_is n h)

    more : (n : ℕ) → 10 ≤ n → all_digits (spelled_number (n / 10)) ≡ true → all_digits (spelled_number n) ≡ true
    more n h ih = rw (spelled_large n h) (digits_more (spelled_number (n / 10)) (digit (n % 10)) ih (digit_is (n % 10) (omega arith)))

pub length_large : (n : ℕ) → 10 ≤ n → length (spelled_number n) ≡ length (spelled_number (n / 10)) + 1
length_large n h = rw (spelled_large n h, length-append)

pub spelled_nonempty : (n : ℕ) → 1 ≤ length (spelled_number n)
spelled_nonempty = by_tens (λ n. 1 ≤ length (spelled_number n)) (λ n h. rw (spelled_small n h) (omega arith)) (λ n h ih. omega (arith, length_large n h))

pub spelled_first : (n : ℕ) → 0 < n → 48 < get_or (spelled_number n) 0 0
spelled_first = by_tens (λ n. 0 < n → 48 < get_or (spelled_number n) 0 0) one more
  where
    one : (n : ℕ) → n < 10 → 0 < n → 48 < get_or (spelled_number n) 0 0
    one n h p = rw (spelled_small n h) (omega arith)

    more : (n : ℕ) → 10 ≤ n → (0 < n / 10 → 48 < get_or (spelled_number (n / 10)) 0 0) → 0 < n → 48 < get_or (spelled_number n) 0 0
    more n h ih p =
        rw (spelled_large n h, get_or-append (spelled_number (n / 10)) (digit (n % 10) ∷ []) 0 0 (spelled_nonempty (n / 10)))
        (ih (omega arith))

-- A number below the (k + 1)th power of ten has at most k + 1 digits, one from the kth power on at least k + 1.
pub length_most : (k n : ℕ) → n < 10 ^ suc k → length (spelled_number n) ≤ suc k
length_most zero n h = rw (spelled_small n h) (omega arith)
length_most (suc k) n h = at (ltb n 10) refl (length_most k (n / 10) (omega (arith, pow-suc 10 (suc k))))
  where
    at : (t : Bool) → ltb n 10 ≡ t → length (spelled_number (n / 10)) ≤ suc k → length (spelled_number n) ≤ suc (suc k)
    at true e ih = rw (spelled_small n (ltb-true n 10 e)) (omega arith)
    at false e ih = omega (arith, length_large n (ltb-false n 10 e))

pub length_least : (k n : ℕ) → 10 ^ k ≤ n → suc k ≤ length (spelled_number n)
length_least zero n h = spelled_nonempty n
length_least (suc k) n h =
    let l : 10 ≤ n = omega (arith, pow-suc 10 k, one-le-pow k 10 (omega arith)) in
    omega (arith, length_large n l, length_least k (n / 10) (omega (arith, pow-suc 10 k)))

pub length_between : (k n : ℕ) → 10 ^ k ≤ max n 1 → max n 1 < 10 * 10 ^ k → k + 1 ≡ length (spelled_number n)
length_between zero n h l = omega (arith, spelled_nonempty n, length_most 0 n (omega arith))
length_between (suc k) n h l =
    let more : 10 ^ suc k ≤ n = omega (arith, pow-suc 10 k, one-le-pow k 10 (omega arith)) in
    omega (arith, length_least (suc k) n more, length_most (suc k) n (omega (arith, pow-suc 10 (suc k))))

pub one_digit_below : (n : ℕ) → length (spelled_number n) ≤ 1 → n < 10
one_digit_below n h = grind (arith, length_least 1 n)

pub more_digits_least : (n : ℕ) → 1 < length (spelled_number n) → 10 ≤ n
more_digits_least n h = grind (arith, length_most 0 n)

-- Digits keep a value below the power of ten of their number.
pub digit_below : (i m d : ℕ) → m < 10 ^ i → d < 10 → m * 10 + d < 10 ^ suc i
digit_below i m d h k = omega (arith, pow-suc 10 i)

pub value_below : (i m : ℕ) (s : List ℕ) → m < 10 ^ i → all_digits s ≡ true → value_from m s < 10 ^ (i + length s)
unfolding value_from all_digits
value_below i m [] h e = rw add-zero h
value_below i m (b ∷ s) h e =
    let d = digit_most b (and_first (is_digit b) (all_digits s) e) in
    rw (add-suc i (length s), ← suc-add i (length s))
    (value_below (suc i) (m * 10 + (b - 48)) s (digit_below i m (b - 48) h (omega arith)) (and_second (is_digit b) (all_digits s) e))

-- Digits lack every byte below the digits.
pub digits_lack : (x : ℕ) (s : List ℕ) → x < 48 → all_digits s ≡ true → lacks x s ≡ true
unfolding all_digits
digits_lack x [] h e = refl
digits_lack x (b ∷ s) h e =
    let d = digit_least b (and_first (is_digit b) (all_digits s) e) in
    rw (ne_eqb b x (λ q. omega arith)) (digits_lack x s h (and_second (is_digit b) (all_digits s) e))

-- Each byte of digits is a digit.
pub digits_byte : (s : List ℕ) (i : ℕ) → all_digits s ≡ true → i < length s → is_digit (get_or s i 0) ≡ true
unfolding all_digits
digits_byte [] i e h = absurd (omega arith)
digits_byte (b ∷ s) zero e h = and_first (is_digit b) (all_digits s) e
digits_byte (b ∷ s) (suc i) e h = digits_byte s i (and_second (is_digit b) (all_digits s) e) (omega arith)
