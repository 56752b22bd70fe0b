-- What a table that is consistent with its chart tells the functions that close an instant, forget and read: one fact a line. Nothing here has to
-- be believed: only contracts of inner functions cite this file.
use Rattle.std.specs.Prelude.{ℕ, ◌*◌, ◌≤◌, ◌<◌, ◌≡◌, ◌⊎◌, true, false, List, ℤ, pos, nat_abs, length}
use Rattle.std.specs.Int.Signed.{le_z, lt_z}
use Rattle.chart.specs.Charts.{is_usable}
use Rattle.chart.specs.declared.Chart.{Chart}
use Rattle.model.specs.Capacity.{capacity}
use Rattle.model.specs.Order.{none}
use Rattle.model.specs.RowSteps.{is_event_at}
use Rattle.table.specs.Table.{cell, are_zeros}
use Rattle.table.specs.Operators.{operators_of}

-- -1, or the number of a row lower than i
abbrev pub Refers : ℕ → ℤ → Type 0
Refers i z = (z ≡ none) ⊎ ((le_z (pos 0) z ≡ true) × (nat_abs z < i))

-- the first rows of the table t, as many as there are in use
pub record Ready (chart : Chart) (rows : ℕ) (t : List ℤ) : Type 0 where
  pub usable : is_usable chart ≡ true
  pub fit : rows ≤ capacity (length t)
  pub entry_above : (i : ℕ) → i < rows → le_z (pos 0) (cell t i 0) ≡ true
  pub entry_below : (i : ℕ) → i < rows → nat_abs (cell t i 0) < chart.count
  pub proper : (i : ℕ) → i < rows → le_z (cell t i 3) (cell t i 4) ≡ true
  pub ordered : (i j : ℕ) → i ≤ j → j < rows → le_z (cell t i 4) (cell t j 4) ≡ true
  pub left : (i : ℕ) → i < rows → is_event_at (operators_of chart) (nat_abs (cell t i 0)) ≡ false → Refers i (cell t i 1)
  pub right : (i : ℕ) → i < rows → Refers i (cell t i 2)
  pub zeros : are_zeros (rows * 5) (capacity (length t) * 5) t ≡ true

-- every row ends before the instant o
abbrev pub EndBefore : ℤ → ℕ → List ℤ → Type 0
EndBefore o rows t = (i : ℕ) → i < rows → lt_z (cell t i 4) o ≡ true
