-- The walk over the rows that forgetting is: one row, the rows kept, and what the walk asks of a table. Nothing here has to be believed: only
-- contracts of inner functions cite this file. During the walk the entry column of row j holds an entry and, 32 times, how far the row that stood
-- there at first moves.
use Rattle.std.specs.Prelude.{ℕ, ◌*◌, ◌+◌, ◌-◌, ◌/◌, ◌%◌, ◌≤◌, ◌<◌, ◌≡◌, Bool, true, false, cond, List, map, eqb, ℤ, pos, nat_abs, length, get_or, set, drop}
use Rattle.std.specs.Int.Signed.{le_z}
use Rattle.model.specs.Lists.{keep}
use Rattle.model.specs.Order.{Row, row}
use Rattle.model.specs.RowSteps.{is_late, moved, renumber}
use Rattle.table.specs.Table.{cell, rows_in}
use Rattle.table.specs.Ready.{Refers}

-- whether entry n is an event's: its rows are written with no reference
abbrev pub event_in : List ℕ → ℕ → Bool
event_in arities n = eqb (get_or arities n 0) 0

-- how far the row moves that stood at place j at first, and where to
abbrev pub shift_at : List ℤ → ℕ → ℕ
shift_at t j = nat_abs (cell t j 0) / 32

abbrev pub place_at : List ℤ → ℕ → ℕ
place_at t j = j - shift_at t j

-- a row without the mark, and the first n rows so
abbrev pub plain : Row → Row
plain r = row (r.entry % 32) r.left r.right r.start r.end

abbrev pub plain_rows : ℕ → List ℤ → List Row
plain_rows n t = map plain (rows_in n t)

-- the table with this mark at row i, beside its entry
abbrev pub marked : ℕ → ℕ → List ℤ → List ℤ
marked i m t = set t (i * 5) (pos (nat_abs (cell t i 0) + m))

-- a row with its references renumbered by g; the left number of an event's row is a serial
abbrev pub with_references : Bool → (ℕ → ℕ) → Row → Row
with_references event g r = cond event r (row r.entry (renumber g r.left) (renumber g r.right) r.start r.end)

-- row i, of entry e, as it is written at place p, which keeps its mark
abbrev pub moved_row : Bool → ℕ → ℕ → ℕ → List ℤ → Row
moved_row event i p e t = with_references event (place_at t) (row (e + shift_at t p * 32) (cell t i 1) (cell t i 2) (cell t i 3) (cell t i 4))

-- the rows kept, entries being told by a test
unfoldable pub kept_by : (ℕ → Bool) → ℤ → List Row → List Row
kept_by event floor rs = map (λ r. with_references (event r.entry) (moved floor rs) r) (keep (is_late floor) rs)

-- row i has an entry of a chart, and references to lower rows or none
pub record RowReady (event : ℕ → Bool) (i : ℕ) (t : List ℤ) : Type 0 where
  pub above : le_z (pos 0) (cell t i 0) ≡ true
  pub below : nat_abs (cell t i 0) < 32
  pub left : event (nat_abs (cell t i 0)) ≡ false → Refers i (cell t i 1)
  pub right : Refers i (cell t i 2)

-- the first rows of the table are so
pub record RowsReady (event : ℕ → Bool) (rows : ℕ) (t : List ℤ) : Type 0 where
  pub few : rows ≤ 65535
  pub fit : rows * 5 ≤ length t
  pub each : (i : ℕ) → i < rows → RowReady event i t

-- the first n rows start at the floor or later
abbrev pub AllLate : ℤ → ℕ → List ℤ → Type 0
AllLate floor n t = (j : ℕ) → j < n → le_z floor (cell t j 3) ≡ true

-- row j is in the table, and its entry column holds no negative number
pub record HasEntry (t : List ℤ) (j : ℕ) : Type 0 where
  pub few : j < 65535
  pub fit : j * 5 + 5 ≤ length t
  pub above : le_z (pos 0) (cell t j 0) ≡ true

-- what marking row i asks
pub record Markable (i m : ℕ) (t : List ℤ) : Type 0 where
  pub entry : HasEntry t i
  pub most : m ≤ i * 32
  pub below : nat_abs (cell t i 0) < 32

-- row j has its mark
pub record HasMark (t : List ℤ) (j : ℕ) : Type 0 where
  pub entry : HasEntry t j
  pub lower : shift_at t j ≤ j

-- what moving row i, of entry e, to place p asks
pub record Movable (event : Bool) (i p e : ℕ) (t : List ℤ) : Type 0 where
  pub few : i < 65535
  pub fit : i * 5 + 5 ≤ length t
  pub lower : p ≤ i
  pub small : e < 32
  pub left : event ≡ false → Refers i (cell t i 1)
  pub right : Refers i (cell t i 2)
  pub marks : (j : ℕ) → j < i + 1 → HasMark t j

-- what taking the marks off the rows from first to before n asks: the rows before have none
pub record Restorable (first n : ℕ) (t : List ℤ) : Type 0 where
  pub low : first ≤ n
  pub few : n ≤ 65535
  pub fit : n * 5 ≤ length t
  pub above : (j : ℕ) → j < n → le_z (pos 0) (cell t j 0) ≡ true
  pub plain : (j : ℕ) → j < first → nat_abs (cell t j 0) < 32

-- n rows are kept of the first rows of the table t, and u is the table with them, still marked
pub record Sifted (event : ℕ → Bool) (floor : ℤ) (first rows : ℕ) (t : List ℤ) (n : ℕ) (u : List ℤ) : Type 0 where
  pub most : n ≤ rows
  pub kept : plain_rows n u ≡ kept_by event floor (rows_in rows t)
  pub rest : drop (rows * 5) u ≡ drop (rows * 5) t
  pub ready : Restorable first n u
