-- Signed machine numbers: what a signed variable holds is read back as it is, `==` tests equality, a cast keeps the number.
use Prim.Native.Nat.{ℕ, ◌+◌, ◌<◌, ◌≤◌, ◌^◌}
use native.Mathlib.Omega.{arith}
use mathlib.Core.Path.{◌≡◌, refl, sym, ap, ◌∙◌}
use mathlib.Core.Bool.{Bool, true, false}
use borrow.Author.Tests.{eqb-true, eqb-false, eq-eqb, ne_eqb}
use lib.Dec.{T, eqb}
use lib.IntN.{ℤ, pos, negsuc, nat_abs, ◌+ℤ◌, ◌-ℤ◌}
use lib.Signed.{le_z, mag, non_neg}
use mir.Syntax.{Width, w32, w64}
use mir.Val.{SFits, Fits, to_z, of_z}
use mir.ValLaws.{to_z-of_z}
use Rattle.interval.specs.Instants.{is_instant, eq_z}
use Rattle.interval.proofs.Signed.{pos_part, neg_part, never, instant_told, eq_true, eq_false, add_fact, sub_fact}

-- a bound on the sum is one on both, since one of the two is 0
fits32' : (z : ℤ) → mag z < 2 ^ 31 → pos_part z + neg_part z ≤ 2 ^ 31
fits32' (pos n) h = omega arith
fits32' (negsuc n) h = omega arith

pub fits32 : (z : ℤ) → SFits w32 z → pos_part z + neg_part z ≤ 2 ^ 31
fits32 z f = fits32' z f.sfits

-- nothing above is one
pub most32 : (z : ℤ) → SFits w32 z → pos_part z < neg_part z + 2 ^ 31
most32 (pos n) f = omega (arith, f.sfits)
most32 (negsuc n) f = omega arith

pub is_fit32 : (z : ℤ) → (pos_part z < neg_part z + 2 ^ 31) × (neg_part z ≤ pos_part z + 2 ^ 31) → SFits w32 z
is_fit32 (pos n) h = record { sfits = omega arith }
is_fit32 (negsuc n) h = record { sfits = omega arith }

pub is_fit64 : (z : ℤ) → (pos_part z < neg_part z + 2 ^ 63) × (neg_part z ≤ pos_part z + 2 ^ 63) → SFits w64 z
is_fit64 (pos n) h = record { sfits = omega arith }
is_fit64 (negsuc n) h = record { sfits = omega arith }

-- an instant is an i32
pub instant_fits : (z : ℤ) → is_instant z ≡ true → SFits w32 z
instant_fits z e = is_fit32 z (omega (arith, instant_told z e))

pub same32 : (z : ℤ) → SFits w32 z → to_z w32 (of_z w32 z) ≡ z
same32 z f = to_z-of_z w32 z f

pub same64 : (z : ℤ) → SFits w64 z → to_z w64 (of_z w64 z) ≡ z
same64 z f = to_z-of_z w64 z f

pub widened : (z : ℤ) → SFits w32 z → SFits w64 z
widened z f = is_fit64 z (omega (arith, fits32 z f))

-- the difference of two i32 is an i64
pub difference_fits : (a b : ℤ) → SFits w32 a → SFits w32 b → SFits w64 (a -ℤ b)
difference_fits a b f g = is_fit64 _ (omega (arith, sub_fact a b, fits32 a f, fits32 b g))

-- `==` of two signed numbers is a test of their bits, and of the numbers
bits_eq : (w : Width) (a b : ℤ) → SFits w a → SFits w b → of_z w a ≡ of_z w b → a ≡ b
bits_eq w a b f g e = sym (to_z-of_z w a f) ∙ ap (to_z w) e ∙ to_z-of_z w b g

from_eqb : (w : Width) (a b : ℤ) → SFits w a → SFits w b → (t u : Bool) → eqb (of_z w a) (of_z w b) ≡ t → eq_z a b ≡ u → t ≡ u
from_eqb w a b f g true true e d = refl
from_eqb w a b f g true false e d = absurd (eq_false a b d (bits_eq w a b f g (eqb-true (of_z w a) (of_z w b) e)))
from_eqb w a b f g false true e d = absurd (eqb-false (of_z w a) (of_z w b) e (ap (of_z w) (eq_true a b d)))
from_eqb w a b f g false false e d = refl

pub eq_bits : (w : Width) (a b : ℤ) → SFits w a → SFits w b → eqb (of_z w a) (of_z w b) ≡ eq_z a b
eq_bits w a b f g = from_eqb w a b f g (eqb (of_z w a) (of_z w b)) (eq_z a b) refl refl

-- what a branch on `==` of two i32 leaves
pub eq_z_yes : (a b : ℤ) → SFits w32 a → SFits w32 b → of_z w32 a ≡ of_z w32 b → eq_z a b ≡ true
eq_z_yes a b f g e = sym (eq_bits w32 a b f g) ∙ eq-eqb (of_z w32 a) (of_z w32 b) e

pub eq_z_no : (a b : ℤ) → SFits w32 a → SFits w32 b → (of_z w32 a ≡ of_z w32 b → ⊥) → eq_z a b ≡ false
eq_z_no a b f g e = sym (eq_bits w32 a b f g) ∙ ne_eqb (of_z w32 a) (of_z w32 b) e

-- `z as usize` of an i32 that is not negative
pub cast_up : (z : ℤ) → SFits w32 z → le_z (pos 0) z ≡ true → T (non_neg z) × Fits w64 (nat_abs z)
cast_up (pos n) f e = (tt, record { fits = omega (arith, f.sfits) })
cast_up (negsuc n) f e = never e

pub pos_of : (z : ℤ) → le_z (pos 0) z ≡ true → pos (nat_abs z) ≡ z
pos_of (pos n) e = refl
pos_of (negsuc n) e = never e

-- the sum of an i32 and a u32 is an i64, and so is their difference
pub delayed_fits : (a : ℤ) (d : ℕ) → SFits w32 a → d < 2 ^ 32 → SFits w64 (a +ℤ pos d)
delayed_fits a d f g = is_fit64 _ (omega (arith, add_fact a (pos d), fits32 a f))

pub earlier_fits : (a : ℤ) (d : ℕ) → SFits w32 a → d < 2 ^ 32 → SFits w64 (a -ℤ pos d)
earlier_fits a d f g = is_fit64 _ (omega (arith, sub_fact a (pos d), fits32 a f))
