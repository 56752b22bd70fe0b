-- Laws of specs/Spelling.antt for lengths and instants, in tenths, and the proof of specs/Statements.antt: each is read back from its written form; its
-- spellings are that form and, where it ends in `.0`, the one without it; how large both can be.
use mathlib.Core.Path.{◌≡◌, refl, sym, ap, ◌∙◌, subst}
use mathlib.Core.Bool.{Bool, true, false, cond, ◌&&◌}
use mathlib.Core.List.{List, [], ◌∷◌, ◌++◌}
use mathlib.Core.Logic.{◌⊎◌, inl, inr, ⊎_elim}
use Rattle.std.proofs.Common.{Option, Some, None}
use Prim.Native.Nat.{ℕ, zero, suc, ◌+◌, ◌*◌, ◌-◌, ◌/◌, ◌%◌, ◌^◌, ◌<◌, ◌≤◌}
use native.Mathlib.Omega.{arith}
use native.Mathlib.Nat.{lt_of_lt_of_le, pow-le-pow_right}
use lib.Dec.{eqb, leb, ltb, eqb-suc-zero}
use lib.IntN.{ℤ, pos, negsuc, neg_ℤ, nat_abs}
use lib.ListN.{length, get_or, take, drop, length-append, take-append-drop, drop_of_length-le, get_or-append}
use lib.Seq.{take-append_seam, drop-append_seam, drop-cons, get_or_at, take_at, drop_at, get_or-append-add}
use mir.Syntax.{w32}
use mir.Val.{SFits}
use borrow.Author.Tests.{lt-ltb, le-leb, ne_eqb, ltb-true, leb-true, eqb-true}
use Rattle.interval.proofs.Signed.{and_first, and_second}
use Rattle.text.proofs.Laws.{lacks, lacks_append, lacks_front}
use Rattle.decimal.specs.Spelling.{is_digit, all_digits, number_of, milliseconds_of, in_tenths, has_point, length_of, without_minus, with_minus, instant_of, digit, spelled_number, spelled_length, signed, spelled_instant}
use Rattle.decimal.specs.Statements.{point_zero, LengthsHold, InstantsHold, WholesHold}
use Rattle.decimal.proofs.Digits.{digit_is, digit_least, digit_most, digits_byte, digits_lack, spelled_nonempty, length_most}
use Rattle.decimal.proofs.Laws.{number_read_back, number_one_spelling, number_below_length, number_some, number_digits, fits_below, signed_most, signed_lacks, spelled_number_lacks}

no_value : {P : Type 0} {n : ℕ} → None ≡ Some n → P
no_value e = cc

-- A spelling that ends in a point and one byte more, and one whose last byte but one is a point.
abbrev pointed : List ℕ → ℕ → List ℕ
pointed w b = w ++ (46 ∷ b ∷ [])

with_point : (w : List ℕ) (b : ℕ) → length_of (pointed w b) ≡ in_tenths (milliseconds_of w) b
unfolding length_of has_point
with_point w b =
    let s = pointed w b in
    let size : length s ≡ length w + 2 = length-append w (46 ∷ b ∷ []) in
    let front : length s - 2 ≡ length w = omega (arith, size) in
    let last : length s - 1 ≡ length w + 1 = omega (arith, size) in
    simp (lt-ltb 1 (length s) (omega (arith, size)), front, last, get_or_at w 46 (b ∷ []) 0 (length w) refl, get_or-append-add w (46 ∷ b ∷ []) 1 0, take-append_seam w (46 ∷ b ∷ []))

pub two_bytes : (s : List ℕ) → has_point s ≡ true → 1 < length s
unfolding has_point
two_bytes s e = ltb-true 1 (length s) (and_first (ltb 1 (length s)) (eqb (get_or s (length s - 2) 0) 46) e)

taken_apart : (s : List ℕ) → has_point s ≡ true → s ≡ pointed (take (length s - 2) s) (get_or s (length s - 1) 0)
unfolding has_point
taken_apart s e =
    let l = two_bytes s e in
    let p = eqb-true (get_or s (length s - 2) 0) 46 (and_second (ltb 1 (length s)) (eqb (get_or s (length s - 2) 0) 46) e) in
    let j = length s - 2 in
    let e₁ : suc j ≡ length s - 1 = omega arith in
    let e₂ : suc (length s - 1) ≡ length s = omega arith in
    let end : drop (length s) s ≡ [] = drop_of_length-le s {i = length s} (omega arith) in
    let back : drop j s ≡ 46 ∷ get_or s (length s - 1) 0 ∷ [] = rw (drop-cons s j 0 (omega arith), p, e₁, drop-cons s (length s - 1) 0 (omega arith), e₂, end) in
    sym (take-append-drop j s) ∙ ap (λ t. take j s ++ t) back

-- Digits alone.
digits_no_point : (s : List ℕ) → all_digits s ≡ true → has_point s ≡ false
unfolding has_point
digits_no_point s e = at (ltb 1 (length s)) refl
  where
    at : (t : Bool) → ltb 1 (length s) ≡ t → (t && eqb (get_or s (length s - 2) 0) 46) ≡ false
    at true p =
        let l = ltb-true 1 (length s) p in
        ne_eqb (get_or s (length s - 2) 0) 46 (λ q. omega (arith, digit_least (get_or s (length s - 2) 0) (digits_byte s (length s - 2) e (omega arith))))
    at false p = refl

-- What whole milliseconds tell.
pub milliseconds_short : (s : List ℕ) → length s ≤ 9 → milliseconds_of s ≡ number_of s
unfolding milliseconds_of
milliseconds_short s h = rw (le-leb (length s) 9 h)

whole_short : (s : List ℕ) (n : ℕ) → milliseconds_of s ≡ Some n → length s ≤ 9
unfolding milliseconds_of
whole_short s n e = at (leb (length s) 9) refl e
  where
    at : (t : Bool) → leb (length s) 9 ≡ t → cond t (number_of s) None ≡ Some n → length s ≤ 9
    at true p q = leb-true (length s) 9 p
    at false p q = no_value q

whole_number : (s : List ℕ) (n : ℕ) → milliseconds_of s ≡ Some n → number_of s ≡ Some n
whole_number s n e = sym (milliseconds_short s (whole_short s n e)) ∙ e

whole_below : (s : List ℕ) (n : ℕ) → milliseconds_of s ≡ Some n → n < 10 ^ 9
whole_below s n e = lt_of_lt_of_le (number_below_length s n (whole_number s n e)) (pow-le-pow_right {n = 10} (omega arith) (whole_short s n e))

whole_read_back : (n : ℕ) → n < 10 ^ 9 → milliseconds_of (spelled_number n) ≡ Some n
whole_read_back n h = milliseconds_short (spelled_number n) (length_most 8 n h) ∙ number_read_back n (omega arith)

-- What a length's spelling tells: whole milliseconds alone, or with a point and a digit.
data Sound : List ℕ → ℕ → Type 0 where
  alone : (s : List ℕ) (n : ℕ) → milliseconds_of s ≡ Some n → Sound s (n * 10)
  tenth : (s : List ℕ) (n b : ℕ) → milliseconds_of s ≡ Some n → is_digit b ≡ true → Sound (pointed s b) (n * 10 + (b - 48))

alone_is : (s : List ℕ) (n : ℕ) (r : Option ℕ) → milliseconds_of s ≡ r → in_tenths r 48 ≡ Some n → Sound s n
unfolding in_tenths is_digit
alone_is s n (Some m) p e =
    let same : m * 10 + (48 - 48) ≡ n = cc in
    let same₁ : m * 10 ≡ n = omega arith in
    subst (λ k. Sound s k) same₁ (alone s m p)
alone_is s n None p e = no_value e

tenth_is : (s : List ℕ) (b n : ℕ) (r : Option ℕ) → milliseconds_of s ≡ r → in_tenths r b ≡ Some n → Sound (pointed s b) n
unfolding in_tenths
tenth_is s b n (Some m) p e = at (is_digit b) refl e
  where
    at : (t : Bool) → is_digit b ≡ t → cond t (Some (m * 10 + (b - 48))) None ≡ Some n → Sound (pointed s b) n
    at true d q =
        let same : m * 10 + (b - 48) ≡ n = cc in
        subst (λ k. Sound (pointed s b) k) same (tenth s m b p d)
    at false d q = no_value q
tenth_is s b n None p e = no_value e

sound : (s : List ℕ) (n : ℕ) → length_of s ≡ Some n → Sound s n
unfolding length_of
sound s n e = at (has_point s) refl e
  where
    w : List ℕ
    w = take (length s - 2) s

    b : ℕ
    b = get_or s (length s - 1) 0

    at : (t : Bool) → has_point s ≡ t → cond t (in_tenths (milliseconds_of w) b) (in_tenths (milliseconds_of s) 48) ≡ Some n → Sound s n
    at true p q = subst (λ l. Sound l n) (sym (taken_apart s p)) (tenth_is w b n (milliseconds_of w) refl q)
    at false p q = alone_is s n (milliseconds_of s) refl q

-- A length as an instant without a minus, for callers.
pub length_instant : (s : List ℕ) (n : ℕ) → length_of s ≡ Some n → without_minus (length_of s) ≡ Some (pos n)
unfolding without_minus
length_instant s n e = ap without_minus e

pub no_length_instant : (s : List ℕ) → length_of s ≡ None → without_minus (length_of s) ≡ None
unfolding without_minus
no_length_instant s e = ap without_minus e

-- A length is below the tenth power of ten.
pub length_below : (s : List ℕ) (n : ℕ) → length_of s ≡ Some n → n < 10 ^ 10
length_below s n e = at (sound s n e)
  where
    at : {s : List ℕ} {n : ℕ} → Sound s n → n < 10 ^ 10
    at (alone t m p) = omega (arith, whole_below t m p)
    at (tenth t m b p d) = omega (arith, whole_below t m p, digit_least b d, digit_most b d)

-- It is read back from its written form, and from whole milliseconds alone.
length_read_back : (n : ℕ) → n < 10 ^ 10 → length_of (spelled_length n) ≡ Some n
unfolding spelled_length in_tenths
length_read_back n h =
    let same : n / 10 * 10 + (digit (n % 10) - 48) ≡ n = omega arith in
    with_point (spelled_number (n / 10)) (digit (n % 10)) ∙ simp (whole_read_back (n / 10) (omega arith), digit_is (n % 10) (omega arith), same)

whole_length : (s : List ℕ) (n : ℕ) → length s ≤ 9 → number_of s ≡ Some n → length_of s ≡ Some (n * 10)
unfolding length_of in_tenths is_digit
whole_length s n h e =
    let same : n * 10 + (48 - 48) ≡ n * 10 = omega arith in
    simp (digits_no_point s (number_digits s n e), milliseconds_short s h ∙ e, same)

-- Its spellings are the written form and, where this ends in `.0`, the one without it.
length_spellings : (s : List ℕ) (n : ℕ) → length_of s ≡ Some n → (s ≡ spelled_length n) ⊎ (s ++ point_zero ≡ spelled_length n)
unfolding spelled_length
length_spellings s n e = at (sound s n e)
  where
    at : {s : List ℕ} {n : ℕ} → Sound s n → (s ≡ spelled_length n) ⊎ (s ++ point_zero ≡ spelled_length n)
    at (alone t m p) =
        let tens : m * 10 / 10 ≡ m = omega arith in
        let last : m * 10 % 10 ≡ 0 = omega arith in
        inr (rw (tens, last) (ap (λ l. l ++ point_zero) (number_one_spelling t m (whole_number t m p))))
    at (tenth t m b p d) =
        let l = digit_least b d in
        let g = digit_most b d in
        let tens : (m * 10 + (b - 48)) / 10 ≡ m = omega arith in
        let last : digit ((m * 10 + (b - 48)) % 10) ≡ b = omega arith in
        inl (rw (tens, last) (ap (λ l. pointed l b) (number_one_spelling t m (whole_number t m p))))

length_without_point : (s : List ℕ) (n : ℕ) → n < 10 ^ 10 → s ++ point_zero ≡ spelled_length n → length_of s ≡ Some n
unfolding spelled_length
length_without_point s n h e =
    let w = spelled_number (n / 10) in
    let d = digit (n % 10) in
    let size : length s ≡ length w = omega (arith, ap length e, length-append s point_zero, length-append w (46 ∷ d ∷ [])) in
    let front : s ≡ w = sym (take_at s point_zero (length w) size) ∙ ap (take (length w)) e ∙ take-append_seam w (46 ∷ d ∷ []) in
    let back : point_zero ≡ 46 ∷ d ∷ [] = sym (drop_at s point_zero (length w) size) ∙ ap (drop (length w)) e ∙ drop-append_seam w (46 ∷ d ∷ []) in
    let zero_last : 48 ≡ d = ap (λ l. get_or l 1 0) back in
    let same : n / 10 * 10 ≡ n = omega arith in
    ap length_of front ∙ whole_length w (n / 10) (length_most 8 (n / 10) (omega arith)) (number_read_back (n / 10) (omega arith)) ∙ ap Some same

pub lengths_hold : LengthsHold
lengths_hold = record {
  read_back = length_read_back;
  spellings = length_spellings;
  without_point = length_without_point;
  has_room = length_below;
}

-- The written form's size, which is that of the whole milliseconds and two, and its bytes.
pub length_size : (n : ℕ) → length (spelled_length n) ≡ length (spelled_number (n / 10)) + 2
unfolding spelled_length
length_size n = length-append (spelled_number (n / 10)) (46 ∷ digit (n % 10) ∷ [])

length_least : (n : ℕ) → 3 ≤ length (spelled_length n)
length_least n = omega (arith, length_size n, spelled_nonempty (n / 10))

length_size_most : (n : ℕ) → n < 10 ^ 10 → length (spelled_length n) ≤ 11
length_size_most n h = omega (arith, length_size n, length_most 8 (n / 10) (omega arith))

length_lacks : (x : ℕ) → x < 45 → (n : ℕ) → lacks x (spelled_length n) ≡ true
unfolding spelled_length all_digits
length_lacks x h n =
    let d = digit (n % 10) in
    let end : lacks x (46 ∷ d ∷ []) ≡ true = rw (ne_eqb 46 x (λ e. omega arith)) (digits_lack x (d ∷ []) (omega arith) (rw (digit_is (n % 10) (omega arith)))) in
    lacks_append x (spelled_number (n / 10)) (46 ∷ d ∷ []) (spelled_number_lacks x (omega arith) (n / 10)) end

-- What an instant's spelling tells: it is a length's, or has a minus in front of that of a length other than 0.
data Signed : List ℕ → ℤ → Type 0 where
  without_minus_lem : {s : List ℕ} {n : ℕ} → length_of s ≡ Some n → Signed s (pos n)
  with_minus_lem : {s : List ℕ} {n : ℕ} → length_of s ≡ Some (suc n) → Signed (45 ∷ s) (negsuc n)

signed_plain : (s : List ℕ) (z : ℤ) (r : Option ℕ) → length_of s ≡ r → without_minus r ≡ Some z → Signed s z
unfolding without_minus
signed_plain s z (Some n) p q = let e : pos n ≡ z = cc in subst (λ x. Signed s x) e (without_minus_lem p)
signed_plain s z None p q = cc

signed_minus : (s : List ℕ) (z : ℤ) (r : Option ℕ) → length_of s ≡ r → with_minus r ≡ Some z → Signed (45 ∷ s) z
unfolding with_minus
signed_minus s z (Some zero) p q = cc
signed_minus s z (Some (suc n)) p q =
    let q₁ : Some (negsuc n) ≡ Some z = rw (eqb-suc-zero n) at q in
    let e : negsuc n ≡ z = cc in
    subst (λ x. Signed (45 ∷ s) x) e (with_minus_lem p)
signed_minus s z None p q = cc

signed_is : (s : List ℕ) (z : ℤ) → instant_of s ≡ Some z → Signed s z
unfolding instant_of
signed_is [] z e = signed_plain [] z (length_of []) refl e
signed_is (b ∷ s) z e = at (eqb b 45) refl e
  where
    at : (t : Bool) → eqb b 45 ≡ t → cond t (with_minus (length_of s)) (without_minus (length_of (b ∷ s))) ≡ Some z → Signed (b ∷ s) z
    at true p q = rw (eqb-true b 45 p) (signed_minus s z (length_of s) refl q)
    at false p q = signed_plain (b ∷ s) z (length_of (b ∷ s)) refl q

-- An instant has at most ten digits too.
pub instant_below : (s : List ℕ) (z : ℤ) → instant_of s ≡ Some z → nat_abs z < 10 ^ 10
instant_below s z e = at (signed_is s z e)
  where
    at : {s : List ℕ} {z : ℤ} → Signed s z → nat_abs z < 10 ^ 10
    at (without_minus_lem {s = t} {n = n} p) = length_below t n p
    at (with_minus_lem {s = t} {n = n} p) = length_below t (suc n) p

-- A length does not begin with a minus, so it is the instant too, and behind a minus it is the opposite one.
whole_first : (s : List ℕ) (n : ℕ) → milliseconds_of s ≡ Some n → eqb (get_or s 0 0) 45 ≡ false
whole_first s n e =
    let f = whole_number s n e in
    ne_eqb (get_or s 0 0) 45 (λ q. omega (arith, digit_least (get_or s 0 0) (digits_byte s 0 (number_digits s n f) (number_some s n f))))

length_first : (s : List ℕ) (n : ℕ) → length_of s ≡ Some n → eqb (get_or s 0 0) 45 ≡ false
length_first s n e = at (sound s n e)
  where
    at : {s : List ℕ} {n : ℕ} → Sound s n → eqb (get_or s 0 0) 45 ≡ false
    at (alone t m p) = whole_first t m p
    at (tenth t m b p d) = rw (get_or-append t (46 ∷ b ∷ []) 0 0 (number_some t m (whole_number t m p))) (whole_first t m p)

instant_plain : (s : List ℕ) (n : ℕ) → length_of s ≡ Some n → instant_of s ≡ Some (pos n)
unfolding instant_of without_minus
instant_plain s n e = rw (length_first s n e, e)

instant_minus : (s : List ℕ) (n : ℕ) → length_of s ≡ Some (suc n) → instant_of (45 ∷ s) ≡ Some (negsuc n)
unfolding instant_of with_minus
instant_minus s n e = rw (e, eqb-suc-zero n)

pub wholes_hold : WholesHold
wholes_hold s n h e = record { length = whole_length s n h e; instant = instant_plain s (n * 10) (whole_length s n h e); before = minus n (whole_length s n h e) }
  where
    minus : (m : ℕ) → length_of s ≡ Some (m * 10) → 0 < m → instant_of (45 ∷ s) ≡ Some (neg_ℤ (pos (m * 10)))
    minus zero q g = absurd (omega arith)
    minus (suc m) q g =
        let some : suc m * 10 ≡ suc (m * 10 + 9) = omega arith in
        rw some (instant_minus s (m * 10 + 9) (q ∙ ap Some some))

instant_read_back : (z : ℤ) → nat_abs z < 10 ^ 10 → instant_of (spelled_instant z) ≡ Some z
unfolding signed
instant_read_back (pos n) h = instant_plain (spelled_length n) n (length_read_back n h)
instant_read_back (negsuc n) h = instant_minus (spelled_length (suc n)) n (length_read_back (suc n) h)

instant_spellings : (s : List ℕ) (z : ℤ) → instant_of s ≡ Some z → (s ≡ spelled_instant z) ⊎ (s ++ point_zero ≡ spelled_instant z)
unfolding signed
instant_spellings s z e = at (signed_is s z e)
  where
    at : {s : List ℕ} {z : ℤ} → Signed s z → (s ≡ spelled_instant z) ⊎ (s ++ point_zero ≡ spelled_instant z)
    at (without_minus_lem {s = t} {n = n} p) = length_spellings t n p
    at (with_minus_lem {s = t} {n = n} p) =
        ⊎_elim (λ f. inl (ap (λ l. 45 ∷ l) f)) (λ f. inr (ap (λ l. 45 ∷ l) f)) (length_spellings t (suc n) p)

instant_without_point : (s : List ℕ) (z : ℤ) → nat_abs z < 10 ^ 10 → s ++ point_zero ≡ spelled_instant z → instant_of s ≡ Some z
unfolding signed
instant_without_point s (pos n) h e = instant_plain s n (length_without_point s n h e)
instant_without_point [] (negsuc n) h e = let z : ◌≡◌ {A = ℕ} 46 45 = ap (λ l. get_or l 0 0) e in absurd (omega arith)
instant_without_point (b ∷ s) (negsuc n) h e =
    let first : b ≡ 45 = ap (λ l. get_or l 0 0) e in
    rw first (instant_minus s n (length_without_point s (suc n) h (ap (drop 1) e)))

pub instants_hold : InstantsHold
instants_hold = record {
  read_back = instant_read_back;
  spellings = instant_spellings;
  without_point = instant_without_point;
  has_room = instant_below;
}

-- The written form of an instant: at least 3 bytes, at most 12 of one that was read or that an i32 holds, and neither a tab nor the end of a line among them.
spelled_most : (z : ℤ) → nat_abs z < 10 ^ 10 → length (spelled_instant z) ≤ 12
spelled_most z h = signed_most spelled_length 11 z (length_size_most (nat_abs z) h)

pub written_instant_few : (z : ℤ) → SFits w32 z → length (spelled_instant z) ≤ 12
written_instant_few z f = spelled_most z (fits_below z f)

pub written_instant_lacks : (x : ℕ) → x < 45 → (z : ℤ) → lacks x (spelled_instant z) ≡ true
written_instant_lacks x h z = signed_lacks spelled_length x h (length_lacks x h) z

-- So it is with every spelling of an instant, and of a length.
pub instant_few : (s : List ℕ) (z : ℤ) → instant_of s ≡ Some z → length s ≤ 12
instant_few s z e =
    let l = spelled_most z (instant_below s z e) in
    ⊎_elim (λ f. omega (arith, ap length f)) (λ f. omega (arith, ap length f, length-append s point_zero)) (instant_spellings s z e)

pub instant_lacks : (x : ℕ) → x < 45 → (s : List ℕ) (z : ℤ) → instant_of s ≡ Some z → lacks x s ≡ true
instant_lacks x h s z e =
    let l = written_instant_lacks x h z in
    ⊎_elim (λ f. rw f l) (λ f. lacks_front x s point_zero (rw f l)) (instant_spellings s z e)

pub length_few : (s : List ℕ) (n : ℕ) → length_of s ≡ Some n → length s ≤ 11
length_few s n e =
    let l = length_size_most n (length_below s n e) in
    ⊎_elim (λ f. omega (arith, ap length f)) (λ f. omega (arith, ap length f, length-append s point_zero)) (length_spellings s n e)
