-- The order of the whole numbers said of natural numbers, so that `omega` reads it: z is its positive part less its negative part.
-- `a ≤ᶻ b` and `a <ᶻ b` are read with no rule; Boolean tests are read by the rules `signed`, as `omega (arith, signed)`.
use Prim.Native.Nat.{ℕ, zero, suc, ◌+◌, ◌<◌, ◌≤◌}
use native.Mathlib.Omega.{arith}
use mathlib.Core.Path.{◌≡◌, refl, sym, ap, ◌∙◌, subst}
use mathlib.Core.Logic.{◌⊎◌, inl, inr}
use mathlib.Core.Bool.{Bool, true, false, cond, not, ◌&&◌}
use borrow.Author.Tests.{ltb-true, ltb-false, leb-true, leb-false, lt-ltb, le-ltb, le-leb, lt-leb, eqb-true, eq-eqb}
use lib.Dec.{T, ltb}
use lib.IntN.{ℤ, pos, negsuc, ◌+ℤ◌, ◌-ℤ◌, neg_ℤ, sub_ℕ}
use lib.Signed.{lt_z, le_z}
use Rattle.interval.specs.Instants.{is_instant, eq_z, least, greatest}

abbrev pub pos_part : ℤ → ℕ
pos_part (pos n) = n
pos_part (negsuc n) = 0

abbrev pub neg_part : ℤ → ℕ
neg_part (pos n) = 0
neg_part (negsuc n) = suc n

infix 50 ◌≤ᶻ◌ ◌<ᶻ◌
abbrev pub ◌≤ᶻ◌ : ℤ → ℤ → Type 0
a ≤ᶻ b = pos_part a + neg_part b ≤ pos_part b + neg_part a

abbrev pub ◌<ᶻ◌ : ℤ → ℤ → Type 0
a <ᶻ b = pos_part a + neg_part b < pos_part b + neg_part a

-- Booleans
pub never : {P : Type 0} → false ≡ true → P
never e = absurd (subst T (sym e) tt)

pub holds→ : (b : Bool) → T b → b ≡ true
holds→ true h = refl
holds→ false h = absurd h

pub →holds : (b : Bool) → b ≡ true → T b
→holds true e = tt
→holds false e = never e

pub fails→ : (b : Bool) → T (not b) → b ≡ false
fails→ true h = absurd h
fails→ false h = refl

pub and_first : (a b : Bool) → (a && b) ≡ true → a ≡ true
and_first true b e = refl
and_first false b e = e

pub and_second : (a b : Bool) → (a && b) ≡ true → b ≡ true
and_second true b e = e
and_second false b e = never e

-- what a Boolean test of two whole numbers tells, and how it is met
pub lt_true : (a b : ℤ) → lt_z a b ≡ true → a <ᶻ b
lt_true (pos a) (pos b) e = omega (arith, ltb-true a b e)
lt_true (pos a) (negsuc b) e = never e
lt_true (negsuc a) (pos b) e = omega arith
lt_true (negsuc a) (negsuc b) e = omega (arith, ltb-true b a e)

pub lt_false : (a b : ℤ) → lt_z a b ≡ false → b ≤ᶻ a
lt_false (pos a) (pos b) e = omega (arith, ltb-false a b e)
lt_false (pos a) (negsuc b) e = omega arith
lt_false (negsuc a) (pos b) e = never (sym e)
lt_false (negsuc a) (negsuc b) e = omega (arith, ltb-false b a e)

pub le_true : (a b : ℤ) → le_z a b ≡ true → a ≤ᶻ b
le_true (pos a) (pos b) e = omega (arith, leb-true a b e)
le_true (pos a) (negsuc b) e = never e
le_true (negsuc a) (pos b) e = omega arith
le_true (negsuc a) (negsuc b) e = omega (arith, leb-true b a e)

pub le_false : (a b : ℤ) → le_z a b ≡ false → b <ᶻ a
le_false (pos a) (pos b) e = omega (arith, leb-false a b e)
le_false (pos a) (negsuc b) e = omega arith
le_false (negsuc a) (pos b) e = never (sym e)
le_false (negsuc a) (negsuc b) e = omega (arith, leb-false b a e)

pub is_lt : (a b : ℤ) → a <ᶻ b → lt_z a b ≡ true
is_lt (pos a) (pos b) h = lt-ltb a b (omega arith)
is_lt (pos a) (negsuc b) h = absurd (omega arith)
is_lt (negsuc a) (pos b) h = refl
is_lt (negsuc a) (negsuc b) h = lt-ltb b a (omega arith)

pub not_lt : (a b : ℤ) → b ≤ᶻ a → lt_z a b ≡ false
not_lt (pos a) (pos b) h = le-ltb a b (omega arith)
not_lt (pos a) (negsuc b) h = refl
not_lt (negsuc a) (pos b) h = absurd (omega arith)
not_lt (negsuc a) (negsuc b) h = le-ltb b a (omega arith)

pub is_le : (a b : ℤ) → a ≤ᶻ b → le_z a b ≡ true
is_le (pos a) (pos b) h = le-leb a b (omega arith)
is_le (pos a) (negsuc b) h = absurd (omega arith)
is_le (negsuc a) (pos b) h = refl
is_le (negsuc a) (negsuc b) h = le-leb b a (omega arith)

pub not_le : (a b : ℤ) → b <ᶻ a → le_z a b ≡ false
not_le (pos a) (pos b) h = lt-leb a b (omega arith)
not_le (pos a) (negsuc b) h = refl
not_le (negsuc a) (pos b) h = absurd (omega arith)
not_le (negsuc a) (negsuc b) h = lt-leb b a (omega arith)

pub antisym : (a b : ℤ) → a ≤ᶻ b → b ≤ᶻ a → a ≡ b
antisym (pos a) (pos b) h k = ap pos (omega arith)
antisym (pos a) (negsuc b) h k = absurd (omega arith)
antisym (negsuc a) (pos b) h k = absurd (omega arith)
antisym (negsuc a) (negsuc b) h k = ap negsuc (omega arith)

pub eq_fact : {a b : ℤ} → a ≡ b → pos_part a + neg_part b ≡ pos_part b + neg_part a
eq_fact {a} {b} e =
    let p : pos_part a ≡ pos_part b = ap pos_part e in
    let q : neg_part a ≡ neg_part b = ap neg_part e in
    omega arith

pub eq_true : (a b : ℤ) → eq_z a b ≡ true → a ≡ b
eq_true (pos a) (pos b) e = ap pos (eqb-true a b e)
eq_true (pos a) (negsuc b) e = never e
eq_true (negsuc a) (pos b) e = never e
eq_true (negsuc a) (negsuc b) e = ap negsuc (eqb-true a b e)

pub eq_same : (a : ℤ) → eq_z a a ≡ true
eq_same (pos a) = eq-eqb a a refl
eq_same (negsuc a) = eq-eqb a a refl

pub eq_false : (a b : ℤ) → eq_z a b ≡ false → a ≡ b → ⊥
eq_false a b e p = never (sym e ∙ (rw p (eq_same b)))

pub not_eq : (a b : ℤ) → (a ≡ b → ⊥) → eq_z a b ≡ false
not_eq a b d = go (eq_z a b) refl
  where
    go : (c : Bool) → eq_z a b ≡ c → c ≡ false
    go true p = absurd (d (eq_true a b p))
    go false p = refl

pub eq_told : (a b : ℤ) → eq_z a b ≡ true → pos_part a + neg_part b ≡ pos_part b + neg_part a
eq_told a b e = eq_fact (eq_true a b e)

pub is_eq : (a b : ℤ) → pos_part a + neg_part b ≡ pos_part b + neg_part a → eq_z a b ≡ true
is_eq a b h = rw (antisym a b (omega arith) (omega arith)) (eq_same b)

pub instant_told : (z : ℤ) → is_instant z ≡ true → pos_part z + neg_part z ≤ 1000000000
unfolding is_instant
instant_told (pos n) e = omega (arith, leb-true n 1000000000 e)
instant_told (negsuc n) e = omega (arith, leb-true n 999999999 (and_first _ true e))

pub is_instant_lem : (z : ℤ) → pos_part z + neg_part z ≤ 1000000000 → is_instant z ≡ true
unfolding is_instant
is_instant_lem (pos n) h = le-leb n 1000000000 (omega arith)
is_instant_lem (negsuc n) h = rw (le-leb n 999999999 (omega arith))

pub ruleset signed = (lt_true, lt_false, le_true, le_false, eq_told, is_lt, not_lt, is_le, not_le, is_eq, instant_told, is_instant_lem)

-- the same for tests that are said by `T`
pub lt_z→ : (a b : ℤ) → T (lt_z a b) → a <ᶻ b
lt_z→ a b h = lt_true a b (holds→ _ h)

pub →lt_z : (a b : ℤ) → a <ᶻ b → T (lt_z a b)
→lt_z a b h = →holds _ (is_lt a b h)

pub nlt_z→ : (a b : ℤ) → T (not (lt_z a b)) → b ≤ᶻ a
nlt_z→ a b h = lt_false a b (fails→ _ h)

pub le_z→ : (a b : ℤ) → T (le_z a b) → a ≤ᶻ b
le_z→ a b h = le_true a b (holds→ _ h)

pub →le_z : (a b : ℤ) → a ≤ᶻ b → T (le_z a b)
→le_z a b h = →holds _ (is_le a b h)

pub nle_z→ : (a b : ℤ) → T (not (le_z a b)) → b <ᶻ a
nle_z→ a b h = le_false a b (fails→ _ h)

pub eq_z→ : (a b : ℤ) → T (eq_z a b) → a ≡ b
eq_z→ a b h = eq_true a b (holds→ _ h)

pub eq_z_refl : (a : ℤ) → T (eq_z a a)
eq_z_refl a = →holds _ (eq_same a)

-- the least and the greatest of two
pub record Least (a b m : ℤ) : Type 0 where
  pub left : m ≤ᶻ a
  pub right : m ≤ᶻ b

pub record Greatest (a b m : ℤ) : Type 0 where
  pub left : a ≤ᶻ m
  pub right : b ≤ᶻ m

pub least_is : (a b : ℤ) → Least a b (least a b)
least_is a b = go (le_z a b) refl
  where
    go : (c : Bool) → le_z a b ≡ c → Least a b (cond c a b)
    go true e = record { left = omega arith; right = omega (arith, signed) }
    go false e = record { left = omega (arith, signed); right = omega arith }

pub greatest_is : (a b : ℤ) → Greatest a b (greatest a b)
greatest_is a b = go (le_z a b) refl
  where
    go : (c : Bool) → le_z a b ≡ c → Greatest a b (cond c b a)
    go true e = record { left = omega (arith, signed); right = omega arith }
    go false e = record { left = omega arith; right = omega (arith, signed) }

-- each is one of the two
one_of : (P : ℤ → Type 0) (a b : ℤ) (c : Bool) → P a → P b → P (cond c a b)
one_of P a b true p q = p
one_of P a b false p q = q

pub least_most : (P : ℤ → Type 0) (a b : ℤ) → P a → P b → P (least a b)
least_most P a b p q = one_of P a b (le_z a b) p q

pub greatest_most : (P : ℤ → Type 0) (a b : ℤ) → P a → P b → P (greatest a b)
greatest_most P a b p q = one_of P b a (le_z a b) q p

pub le_cases : (a b : ℤ) → a ≤ᶻ b → (a <ᶻ b) ⊎ (a ≡ b)
le_cases a b h = go (lt_z a b) refl
  where
    go : (c : Bool) → lt_z a b ≡ c → (a <ᶻ b) ⊎ (a ≡ b)
    go true e = inl (lt_true a b e)
    go false e = inr (antisym a b h (lt_false a b e))

-- sums and differences
module _ (a b : ℕ) where
  sub_at : (t : Bool) → ltb a b ≡ t → pos_part (sub_ℕ a b) + b ≡ neg_part (sub_ℕ a b) + a
  sub_at true e = rw e (omega (arith, ltb-true a b e))
  sub_at false e = rw e (omega (arith, ltb-false a b e))

sub_nat : (a b : ℕ) → pos_part (sub_ℕ a b) + b ≡ neg_part (sub_ℕ a b) + a
sub_nat a b = sub_at a b (ltb a b) refl

pub add_fact : (a b : ℤ) → pos_part (a +ℤ b) + (neg_part a + neg_part b) ≡ neg_part (a +ℤ b) + (pos_part a + pos_part b)
add_fact (pos a) (pos b) = omega arith
add_fact (pos a) (negsuc b) = omega (arith, sub_nat a (suc b))
add_fact (negsuc a) (pos b) = omega (arith, sub_nat b (suc a))
add_fact (negsuc a) (negsuc b) = omega arith

pub neg_pos : (b : ℤ) → pos_part (neg_ℤ b) ≡ neg_part b
neg_pos (pos zero) = refl
neg_pos (pos (suc n)) = refl
neg_pos (negsuc n) = refl

pub neg_neg : (b : ℤ) → neg_part (neg_ℤ b) ≡ pos_part b
neg_neg (pos zero) = refl
neg_neg (pos (suc n)) = refl
neg_neg (negsuc n) = refl

pub sub_fact : (a b : ℤ) → pos_part (a -ℤ b) + (neg_part a + pos_part b) ≡ neg_part (a -ℤ b) + (pos_part a + neg_part b)
sub_fact a b = omega (arith, add_fact a (neg_ℤ b), neg_pos b, neg_neg b)

-- negation turns the order round
pub neg_turns : (a b : ℤ) → b <ᶻ a → neg_ℤ a <ᶻ neg_ℤ b
neg_turns a b h = omega (arith, neg_pos a, neg_neg a, neg_pos b, neg_neg b)

pub neg_lt : (a b : ℤ) → lt_z (neg_ℤ a) (neg_ℤ b) ≡ lt_z b a
neg_lt a b = go (lt_z b a) refl
  where
    go : (c : Bool) → lt_z b a ≡ c → lt_z (neg_ℤ a) (neg_ℤ b) ≡ c
    go true e = is_lt (neg_ℤ a) (neg_ℤ b) (neg_turns a b (lt_true b a e))
    go false e = not_lt (neg_ℤ a) (neg_ℤ b) (omega (arith, lt_false b a e, neg_pos a, neg_neg a, neg_pos b, neg_neg b))

pub neg_eq : (a b : ℤ) → eq_z (neg_ℤ a) (neg_ℤ b) ≡ eq_z b a
neg_eq a b = go (eq_z (neg_ℤ a) (neg_ℤ b)) (eq_z b a) refl refl
  where
    at : pos_part (neg_ℤ a) + neg_part (neg_ℤ b) ≡ pos_part (neg_ℤ b) + neg_part (neg_ℤ a) → b ≡ a
    at h = antisym b a (omega (arith, neg_pos a, neg_neg a, neg_pos b, neg_neg b)) (omega (arith, neg_pos a, neg_neg a, neg_pos b, neg_neg b))

    go : (c d : Bool) → eq_z (neg_ℤ a) (neg_ℤ b) ≡ c → eq_z b a ≡ d → c ≡ d
    go true true p q = refl
    go true false p q = absurd (eq_false b a q (at (eq_told (neg_ℤ a) (neg_ℤ b) p)))
    go false true p q = absurd (eq_false (neg_ℤ a) (neg_ℤ b) p (ap neg_ℤ (sym (eq_true b a q))))
    go false false p q = refl

-- a sum with a natural number is no less
pub add_most : (a : ℤ) (d : ℕ) → a ≤ᶻ (a +ℤ pos d)
add_most a d = omega (arith, add_fact a (pos d))

pub add_none : (a : ℤ) → a +ℤ pos 0 ≡ a
add_none a = antisym (a +ℤ pos 0) a (omega (arith, add_fact a (pos 0))) (omega (arith, add_fact a (pos 0)))

pub add_one_more : (a : ℤ) (n : ℕ) → a +ℤ pos 1 +ℤ pos n ≡ a +ℤ pos (suc n)
add_one_more a n =
    let p = add_fact a (pos 1) in
    let q = add_fact (a +ℤ pos 1) (pos n) in
    let r = add_fact a (pos (suc n)) in
    antisym (a +ℤ pos 1 +ℤ pos n) (a +ℤ pos (suc n)) (omega arith) (omega arith)
