-- A row's bytes written piece by piece into an output, and -1 as one byte.
use Prim.Native.Nat.{ℕ, ◌+◌}
use native.Mathlib.Omega.{arith}
use mathlib.Core.Path.{◌≡◌, refl}
use mathlib.Core.Bool.{true}
use mathlib.Core.List.{List, [], ◌∷◌}
use lib.IntN.{ℤ, pos, negsuc}
use lib.ListN.{length, set}
use lib.Seq.{sets}
use lib.Signed.{lt_z}
use borrow.Author.Tests.{ltb-true}
use Rattle.text.proofs.Written.{Remaining, remaining_all, remaining_less, remaining_none}
use Rattle.tree.specs.Tree.{reference_bytes, tree_over}

-- one byte
module _ {out₀ : List ℕ} {at : ℕ} {b out : List ℕ} {place x : ℕ} {rest : List ℕ} where
  pub byte_written : Remaining out₀ at b out place (x ∷ rest) → Remaining out₀ at b (set out place x) (place + 1) rest
  byte_written w = remaining_less w (x ∷ []) rest refl refl refl

-- the first byte
pub row_opened : (out : List ℕ) (at : ℕ) (b : List ℕ) (x : ℕ) (rest : List ℕ) → b ≡ x ∷ rest → Remaining out at b (set out at x) (at + 1) rest
row_opened out at b x rest is = remaining_less (remaining_all out at b) (x ∷ []) rest is refl refl

-- and the last
pub row_closed : {out₀ : List ℕ} {at : ℕ} {b out : List ℕ} {place : ℕ} → Remaining out₀ at b out place (62 ∷ []) → (place + 1 ≡ at + length b) × (set out place 62 ≡ sets out₀ at b)
row_closed w = remaining_none (byte_written w) refl

-- -1 is written as one byte
pub none_written : (arities : List ℕ) (t : List ℤ) (out : List ℕ) (at : ℕ) (z : ℤ) → lt_z z (pos 0) ≡ true → (at + 1 ≡ at + length (reference_bytes (tree_over arities t) z)) × (set out at 95 ≡ sets out at (reference_bytes (tree_over arities t) z))
unfolding reference_bytes
none_written arities t out at (pos n) e = absurd (omega (arith, ltb-true n 0 e))
none_written arities t out at (negsuc n) e = (refl, refl)
