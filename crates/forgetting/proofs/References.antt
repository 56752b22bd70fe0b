-- Laws of references: -1 stays, and another goes where its row went. No code here.
use Prim.Native.Nat.{ℕ, ◌+◌, ◌*◌, ◌<◌}
use native.Mathlib.Omega.{arith}
use mathlib.Core.Path.{◌≡◌, refl, sym, ap}
use mathlib.Core.Logic.{inl, inr}
use mathlib.Core.Bool.{Bool, true, false}
use mathlib.Core.List.{List}
use borrow.Author.Tests.{ltb-true}
use lib.IntN.{ℤ, pos, negsuc, nat_abs}
use lib.Signed.{lt_z}
use Rattle.interval.proofs.Signed.{never}
use Rattle.model.specs.Order.{Row, row}
use Rattle.model.specs.RowSteps.{renumber}
use Rattle.table.specs.declared.Row as stored
use Rattle.table.specs.Table.{stored_row}
use Rattle.table.specs.Ready.{Refers}
use Rattle.forgetting.specs.Walk.{shift_at, place_at, with_references, moved_row}

-- by the sign, as the code goes
pub renumber_none : (g : ℕ → ℕ) (z : ℤ) → lt_z z (pos 0) ≡ true → z ≡ renumber g z
renumber_none g (pos n) e = absurd (omega (arith, ltb-true n 0 e))
renumber_none g (negsuc n) e = refl

pub renumber_some : (g : ℕ → ℕ) (z : ℤ) → lt_z z (pos 0) ≡ false → pos (g (nat_abs z)) ≡ renumber g z
renumber_some g (pos n) e = refl
renumber_some g (negsuc n) e = never (sym e)

-- two numberings that agree below i
renumber_same : (g h : ℕ → ℕ) (i : ℕ) (z : ℤ) → Refers i z → ((j : ℕ) → j < i → g j ≡ h j) → renumber g z ≡ renumber h z
renumber_same g h i (negsuc n) r same = refl
renumber_same g h i (pos n) (inl e) same = let z : ◌≡◌ {A = ℕ} 0 1 = cc in absurd (omega arith)
renumber_same g h i (pos n) (inr r) same = ap pos (same n r.1)

renumber_id : (z : ℤ) → renumber (λ j. j) z ≡ z
renumber_id (pos n) = refl
renumber_id (negsuc n) = refl

pub references_same : (event : Bool) (g h : ℕ → ℕ) (i : ℕ) (r : Row) → (event ≡ false → Refers i r.left) → Refers i r.right → ((j : ℕ) → j < i → g j ≡ h j) → with_references event g r ≡ with_references event h r
references_same true g h i r x y same = refl
references_same false g h i r x y same = rw (renumber_same g h i r.left (x refl) same, renumber_same g h i r.right y same)

pub references_id : (event : Bool) (r : Row) → with_references event (λ j. j) r ≡ r
references_id true r = refl
references_id false r = rw (renumber_id r.left, renumber_id r.right)

-- one row as the code puts it together: r is the row read, and z its entry with the mark
module _ (event : Bool) (i p e : ℕ) (t : List ℤ) (r : stored.Row) (read : r ≡ stored_row t i) (z : ℤ) (mark : z ≡ pos (e + shift_at t p * 32)) where
  pub moved_event : event ≡ true → row (nat_abs z) r.left r.right r.start r.end ≡ moved_row event i p e t
  moved_event q = rw (read, mark, q)

  pub moved_other : (a b : ℤ) → event ≡ false → a ≡ renumber (place_at t) r.left → b ≡ renumber (place_at t) r.right → row (nat_abs z) a b r.start r.end ≡ moved_row event i p e t
  moved_other a b q x y = rw (x, y, read, mark, q)
