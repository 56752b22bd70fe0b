-- A table while an instant is closed, and what a test of row numbers makes of pairs of its rows.
use Prim.Native.Nat.{ℕ, ◌≤◌, ◌<◌}
use native.Mathlib.Omega.{arith}
use mathlib.Core.Path.{◌≡◌, refl, ap, ◌∙◌}
use mathlib.Core.Logic.{◌⊎◌, inl, inr}
use mathlib.Core.Bool.{Bool, true, false, cond, ◌&&◌}
use mathlib.Core.List.{List, [], map}
use borrow.Author.Tests.{leb-true, leb-false}
use lib.Dec.{eqb, leb}
use lib.IntN.{ℤ, pos, negsuc, nat_abs}
use lib.ListN.{length}
use lib.Signed.{le_z}
use Rattle.interval.specs.Instants.{eq_z, least, greatest}
use Rattle.interval.proofs.Signed.{◌≤ᶻ◌, ◌<ᶻ◌, never, eq_same, eq_fact, is_le, greatest_is, greatest_most, antisym}
use Rattle.model.specs.Lists.{keep, each, numbers}
use Rattle.model.specs.Order.{Row, row}
use Rattle.model.specs.RowSteps.{Node, pair, pairs, of, row_at, places, node_row}
use Rattle.table.specs.Table.{cell, rows_in}
use Rattle.table.specs.Ends.{Ordered}
use Rattle.table.proofs.Rows.{length_rows, row_at_lem}
use Rattle.closing.specs.Added.{when}
use Rattle.closing.proofs.Spans.{each_same, keep_keep, kept_ones, kept_each, each_nothing}

-- a row's end is the instant: what the model's test of a new row asks besides its start
abbrev pub ends_here : ℤ → ℤ → ℤ → Bool
ends_here o s e = eq_z e o

-- a table while the instant o is closed: m rows from before, which end before o; the others of its n rows end at o
pub record Grown (o : ℤ) (m n : ℕ) (t : List ℤ) : Type 0 where
  pub few : m ≤ n
  pub old : (i : ℕ) → i < m → cell t i 4 <ᶻ o
  pub new : (i : ℕ) → m ≤ i → i < n → cell t i 4 ≡ o
  pub proper : (i : ℕ) → i < n → cell t i 3 ≤ᶻ cell t i 4
  pub ordered : (i j : ℕ) → i ≤ j → j < m → cell t i 4 ≤ᶻ cell t j 4
  pub above : (i : ℕ) → i < n → le_z (pos 0) (cell t i 0) ≡ true

-- an entry's number, read as it stands
pub eq_entry : (z : ℤ) (a : ℕ) → le_z (pos 0) z ≡ true → eqb (nat_abs z) a ≡ eq_z z (pos a)
eq_entry (pos z) a h = refl
eq_entry (negsuc z) a h = never h

module _ {o : ℤ} {m n : ℕ} {t : List ℤ} (g : Grown o m n t) where
  -- no row ends later than the instant
  pub ends : (i : ℕ) → i < n → cell t i 4 ≤ᶻ o
  ends i h = go (leb m i) refl
    where
      go : (b : Bool) → leb m i ≡ b → cell t i 4 ≤ᶻ o
      go true e = omega (arith, eq_fact (g.new i (leb-true m i e) h))
      go false e = omega (arith, g.old i (leb-false m i e))

  -- the ends of all rows do not fall
  pub ends_ordered : (i j : ℕ) → i ≤ j → j < n → cell t i 4 ≤ᶻ cell t j 4
  ends_ordered i j h k = go (leb m j) refl
    where
      go : (d : Bool) → leb m j ≡ d → cell t i 4 ≤ᶻ cell t j 4
      go true p = omega (arith, eq_fact (g.new j (leb-true m j p) k), ends i (omega arith))
      go false p = g.ordered i j h (leb-false m j p)

  pub all_ordered : Ordered n t
  all_ordered i j h k = is_le (cell t i 4) (cell t j 4) (ends_ordered i j h k)

module _ {o : ℤ} {m n : ℕ} {t : List ℤ} (g : Grown o m n t) (entry : ℕ) where
  -- whether row i is one of entry a
  pub of_entry : (a i : ℕ) → i < n → eqb (row_at (rows_in n t) i).entry a ≡ eq_z (cell t i 0) (pos a)
  of_entry a i h = rw (row_at_lem n i t h) (eq_entry (cell t i 0) a (g.above i h))

  abbrev pub derived : List (Node ℕ) → List Row
  derived xs = keep (λ r. ends_here o r.start r.end) (map (node_row (rows_in n t) entry) xs)

  pub old_not : (i : ℕ) → i < m → cell t i 4 ≡ o → ⊥
  old_not i h e = omega (arith, g.old i h, eq_fact e)

  -- two operands
  abbrev pub pair_at : ℕ → ℕ → Row
  pair_at r s = row entry (pos r) (pos s) (least (cell t r 3) (cell t s 3)) (greatest (cell t r 4) (cell t s 4))

  -- a pair with a new row ends at the instant
  pub pair_ends : (r s : ℕ) → r < n → s < n → (m ≤ r) ⊎ (m ≤ s) → eq_z (greatest (cell t r 4) (cell t s 4)) o ≡ true
  pair_ends r s h k w = rw (antisym (greatest (cell t r 4) (cell t s 4)) o (greatest_most (λ z. z ≤ᶻ o) (cell t r 4) (cell t s 4) (ends g r h) (ends g s k)) (go w)) (eq_same o)
    where
      go : (m ≤ r) ⊎ (m ≤ s) → o ≤ᶻ greatest (cell t r 4) (cell t s 4)
      go (inl z) = let v = greatest_is (cell t r 4) (cell t s 4) in omega (arith, v.left, eq_fact (g.new r z h))
      go (inr z) = let v = greatest_is (cell t r 4) (cell t s 4) in omega (arith, v.right, eq_fact (g.new s z k))

  -- pairs that pass a test: the row of one, if it ends at the instant; those of row r; and all of them, row by row
  module _ (p : ℕ → ℕ → Bool) (a b : ℕ) where
    abbrev pub paired : ℕ → ℕ → List Row
    paired r s = cond (eqb (row_at (rows_in n t) s).entry b && p r s) (when (eq_z (node_row (rows_in n t) entry (pair r s)).end o) (node_row (rows_in n t) entry (pair r s))) []

    pub paired_is : (r s : ℕ) → r < n → s < n → paired r s ≡ cond (eq_z (cell t s 0) (pos b) && p r s) (when (eq_z (greatest (cell t r 4) (cell t s 4)) o) (pair_at r s)) []
    paired_is r s h k = rw (of_entry b s k, row_at_lem n r t h, row_at_lem n s t k)

    abbrev pub pairs_by : ℕ → List Row
    pairs_by r = cond (eqb (row_at (rows_in n t) r).entry a) (each (paired r) (numbers 0 n)) []

    pub pairs_made : derived (pairs p (of (places (rows_in n t)) a (numbers 0 (length (rows_in n t)))) (of (places (rows_in n t)) b (numbers 0 (length (rows_in n t))))) ≡ each pairs_by (numbers 0 n)
    pairs_made =
        let v = places (rows_in n t) in
        let xs = numbers 0 (length (rows_in n t)) in
        let q : ℕ → Bool = λ s. eqb (v.entry s) b in
        let one : (r : ℕ) → derived (map (pair r) (keep (p r) (of v b xs))) ≡ each (paired r) (numbers 0 n) = λ r.
        ap (λ l. derived (map (pair r) l)) (keep_keep (p r) q xs)
        ∙ ap (λ k. derived (map (pair r) (keep (λ s. q s && p r s) (numbers 0 k)))) (length_rows n t)
        ∙ kept_ones (λ x. ends_here o x.start x.end) (node_row (rows_in n t) entry) (pair r) (λ s. q s && p r s) (numbers 0 n) in
        kept_each (λ x. ends_here o x.start x.end) (node_row (rows_in n t) entry) (λ r. map (pair r) (keep (p r) (of v b xs))) (λ r. eqb (v.entry r) a) xs
        ∙ ap (λ k. each (λ r. cond (eqb (v.entry r) a) (derived (map (pair r) (keep (p r) (of v b xs)))) []) (numbers 0 k)) (length_rows n t)
        ∙ each_same (λ r. cond (eqb (v.entry r) a) (derived (map (pair r) (keep (p r) (of v b xs)))) []) pairs_by 0 n (λ r k h. ap (λ l. cond (eqb (v.entry r) a) l []) (one r))

    -- a row none of whose pairs ends at the instant
    pub pairs_none : (r : ℕ) → ((s : ℕ) → s < n → paired r s ≡ []) → pairs_by r ≡ []
    pairs_none r f = rw (each_nothing (paired r) n f) (go (eqb (row_at (rows_in n t) r).entry a))
      where
        go : (x : Bool) → ◌≡◌ {A = List Row} (cond x [] []) []
        go true = refl
        go false = refl
