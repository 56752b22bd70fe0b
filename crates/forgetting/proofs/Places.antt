-- Where a row goes: as many rows are kept before it. One row more, and a row that keeps its number. No code here.
use Prim.Native.Nat.{ℕ, ◌+◌, ◌-◌, ◌≤◌, ◌<◌}
use native.Mathlib.Omega.{arith}
use native.Mathlib.Numerals.{add-one}
use mathlib.Core.Path.{◌≡◌, ap, ◌∙◌}
use mathlib.Core.Bool.{Bool, true, false}
use mathlib.Core.List.{List, [], ◌∷◌, ◌++◌, append-nil}
use lib.ListN.{length, take, drop, length-append, length-take}
use lib.Seq.{take-suc, take-add}
use Rattle.model.specs.Lists.{keep}
use Rattle.model.specs.Order.{Row}
use Rattle.model.specs.RowSteps.{row_at, placed}
use Rattle.model.proofs.Sorted.{keep_append}
use Rattle.model.proofs.History.{keep_length}

-- where a row goes
module _ (test : Row → Bool) (rs : List Row) where
  keep_more : (i : ℕ) → i < length rs → keep test (take (i + 1) rs) ≡ keep test (take i rs) ++ keep test (row_at rs i ∷ [])
  keep_more i h =
      let e : take (i + 1) rs ≡ take i rs ++ (row_at rs i ∷ []) = ap (λ k. take k rs) (add-one i) ∙ take-suc rs i _ h in
      rw e (keep_append test (take i rs) (row_at rs i ∷ []))

  pub keep_pass : (i : ℕ) → i < length rs → test (row_at rs i) ≡ true → keep test (take (i + 1) rs) ≡ keep test (take i rs) ++ (row_at rs i ∷ [])
  keep_pass i h e = keep_more i h ∙ rw e

  pub keep_fail : (i : ℕ) → i < length rs → test (row_at rs i) ≡ false → keep test (take (i + 1) rs) ≡ keep test (take i rs)
  keep_fail i h e = keep_more i h ∙ rw e (append-nil (keep test (take i rs)))

  pub placed_pass : (i : ℕ) → i < length rs → test (row_at rs i) ≡ true → placed test rs (i + 1) ≡ placed test rs i + 1
  placed_pass i h e = ap length (keep_pass i h e) ∙ length-append (keep test (take i rs)) (row_at rs i ∷ [])

  pub placed_fail : (i : ℕ) → i < length rs → test (row_at rs i) ≡ false → placed test rs (i + 1) ≡ placed test rs i
  placed_fail i h e = ap length (keep_fail i h e)

  pub placed_le : (i : ℕ) → placed test rs i ≤ i
  placed_le i = omega (arith, keep_length test (take i rs), length-take i rs)

  placed_add : (j k : ℕ) → placed test rs (j + k) ≡ placed test rs j + length (keep test (take k (drop j rs)))
  placed_add j k = ap (λ l. length (keep test l)) (take-add j k rs) ∙ ap length (keep_append test (take j rs) (take k (drop j rs))) ∙ length-append (keep test (take j rs)) (keep test (take k (drop j rs)))

  -- a later row goes no lower
  pub placed_grows : (i j : ℕ) → j ≤ i → placed test rs j ≤ placed test rs i
  placed_grows i j h =
      let s : i ≡ j + (i - j) = omega arith in
      omega (arith, placed_add j (i - j), ap (placed test rs) s)

  -- where a row stays, so do those before it
  pub placed_still : (i j : ℕ) → j ≤ i → placed test rs i ≡ i → placed test rs j ≡ j
  placed_still i j h e =
      let s : i ≡ j + (i - j) = omega arith in
      omega (arith, placed_add j (i - j), keep_length test (take (i - j) (drop j rs)), length-take (i - j) (drop j rs), placed_le j, ap (placed test rs) s)
