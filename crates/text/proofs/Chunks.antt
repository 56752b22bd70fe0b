-- A list in pieces of n, as `as_chunks` lends it.
use Prim.Native.Nat.{ℕ, zero, suc, ◌+◌, ◌*◌, ◌<◌}
use native.Mathlib.Omega.{arith}
use mathlib.Core.Path.{◌≡◌, refl, ap, ap₂, ◌∙◌}
use mathlib.Core.List.{List, ◌∷◌}
use lib.ListN.{length, get_or, take, drop}
use lib.Seq.{drop-drop, take-take}
use Rattle.std.proofs.lemmas.List.{drop-take}
use Rattle.std.specs.Simd.{first_chunks}

module _ {X : Type 0} (n : ℕ) where
  pub length-chunks : (k : ℕ) (xs : List X) → length (first_chunks n k xs) ≡ k
  length-chunks zero xs = refl
  length-chunks (suc k) xs = ap suc (length-chunks k (drop n xs))

  -- piece i
  pub chunk_at : (k : ℕ) (xs : List X) (i : ℕ) (d : List X) → i < k → get_or (first_chunks n k xs) i d ≡ take n (drop (i * n) xs)
  chunk_at zero xs i d h = absurd (omega arith)
  chunk_at (suc k) xs zero d h = let e : 0 ≡ 0 * n = omega arith in ap (λ m. take n (drop m xs)) e
  chunk_at (suc k) xs (suc i) d h =
      let e : n + i * n ≡ suc i * n = omega arith in
      chunk_at k (drop n xs) i d (omega arith) ∙ ap (take n) (drop-drop (i * n) n xs ∙ ap (λ m. drop m xs) e)

  -- the first k pieces, of the numbers that they have
  pub chunks_front : (k : ℕ) (xs : List X) → first_chunks n k (take (k * n) xs) ≡ first_chunks n k xs
  chunks_front zero xs = refl
  chunks_front (suc k) xs =
      let e : suc k * n ≡ n + k * n = omega arith in
      rw e (ap₂ (λ p ps. p ∷ ps) (take-take n (n + k * n) xs (omega arith)) (ap (first_chunks n k) (drop-take n (k * n) xs) ∙ chunks_front k (drop n xs)))
