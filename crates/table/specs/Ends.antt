-- How many rows end before an instant. Document 01, "Order of rows": "by end"; "Reading": "The rows with a given end are handed back as
-- that part of the caller's table".
-- `ending_before` and `ending_by` have to be believed; the others serve the proofs.
use Rattle.std.specs.Prelude.{ℕ, ◌≤◌, ◌<◌, ◌≡◌, Bool, true, cond, List, ℤ, length}
use Rattle.std.specs.Int.Signed.{lt_z, le_z}
use Rattle.model.specs.Lists.{keep}
use Rattle.table.specs.Table.{cell, rows_in}

-- the ends of the rows do not fall
abbrev pub Ordered : ℕ → List ℤ → Type 0
Ordered rows t = (i j : ℕ) → i ≤ j → j < rows → le_z (cell t i 4) (cell t j 4) ≡ true

-- the rows that end before e, and those that end at e or before
abbrev pub ending_before : ℕ → ℤ → List ℤ → ℕ
ending_before rows e t = length (keep (λ x. lt_z x.end e) (rows_in rows t))

abbrev pub ending_by : ℕ → ℤ → List ℤ → ℕ
ending_by rows e t = length (keep (λ x. le_z x.end e) (rows_in rows t))

-- the two as one, by whether e itself is included
abbrev pub ends_before : Bool → ℤ → ℤ → Bool
ends_before included e end = cond included (le_z end e) (lt_z end e)

abbrev pub count_ending : Bool → ℕ → ℤ → List ℤ → ℕ
count_ending included rows e t = length (keep (λ x. ends_before included e x.end) (rows_in rows t))
