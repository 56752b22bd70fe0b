-- The caller's table. Document 01, "Instants, events, rows": "A row is five signed 32-bit numbers: entry, left, right, start, end.
-- Rows are numbered from 0."
-- `Filled`, `filled`, `fill` and `count_in` alone serve the proofs.
use Rattle.std.specs.Prelude.{ℕ, suc, ◌+◌, ◌*◌, ◌-◌, Bool, cond, List, [], ◌∷◌, ◌++◌, map, ltb, ℤ, pos, nat_abs, length, get_or, take, drop, replicate, Option, Some, None}
use Rattle.std.proofs.lemmas.List.Edits.{sets}
use Rattle.std.proofs.Math.Seq.{slice}
use Rattle.interval.specs.Instants.{eq_z}
use Rattle.model.specs.Capacity.{capacity}
use Rattle.model.specs.Lists.{every, each, numbers}
use Rattle.model.specs.Order.{Row, row}
use Rattle.table.specs.declared.Row as stored

-- how many rows it can hold
abbrev pub room_in : List ℤ → ℕ
room_in t = capacity (length t)

-- column k of row i
abbrev pub cell : List ℤ → ℕ → ℕ → ℤ
cell t i k = get_or t (i * 5 + k) (pos 0)

-- row i as the code has it
abbrev pub stored_row : List ℤ → ℕ → stored.Row
stored_row t i = record { entry = cell t i 0; left = cell t i 1; right = cell t i 2; start = cell t i 3; end = cell t i 4 }

-- as the model has it; an entry is no negative number in a table that is consistent
abbrev pub model_row : stored.Row → Row
model_row r = row (nat_abs r.entry) r.left r.right r.start r.end

abbrev pub table_row : List ℤ → ℕ → Row
table_row t i = model_row (stored_row t i)

-- the first n rows
unfoldable pub rows_in : ℕ → List ℤ → List Row
rows_in n t = map (table_row t) (numbers 0 n)

-- a row's five numbers, and those of a list of rows
abbrev pub cells_of : Row → List ℤ
cells_of r = pos r.entry ∷ r.left ∷ r.right ∷ r.start ∷ r.end ∷ []

unfoldable pub flat : List Row → List ℤ
flat rs = each cells_of rs

-- the table with row r at place i, and with the rows rs from place n on
unfoldable pub put_row : ℕ → Row → List ℤ → List ℤ
put_row i r t = sets t (i * 5) (cells_of r)

unfoldable pub put_rows : ℕ → List Row → List ℤ → List ℤ
put_rows n [] t = t
put_rows n (r ∷ rs) t = put_rows (suc n) rs (put_row n r t)

-- a table being filled: how many rows it has, one more than it holds where a row found no room
pub record Filled : Type 0 where
  pub count : ℕ
  pub table : List ℤ

abbrev pub filled : ℕ → List ℤ → Filled
filled n t = record { count = n; table = t }

-- the rows rs appended to n rows, as long as there is room
unfoldable pub fill : ℕ → ℕ → List Row → List ℤ → Filled
fill room n [] t = filled n t
fill room n (r ∷ rs) t = cond (ltb n room) (fill room (suc n) rs (put_row n r t)) (filled (suc room) t)

-- the count by what code answers: the rows there are, or nothing where a row found no room
abbrev pub count_in : ℕ → Option ℕ → ℕ
count_in room (Some n) = n
count_in room None = suc room

-- the numbers from index a to before index e, and the table with zeros there
abbrev pub part : ℕ → ℕ → List ℤ → List ℤ
part a e t = slice a e t

unfoldable pub are_zeros : ℕ → ℕ → List ℤ → Bool
are_zeros a e t = every (λ z. eq_z z (pos 0)) (part a e t)

unfoldable pub zeroed : ℕ → ℕ → List ℤ → List ℤ
zeroed a e t = take a t ++ (replicate (e - a) (pos 0) ++ drop e t)

-- a table with these rows, of so many that it can hold, zeros for the others, and this tail
abbrev pub table_of : ℕ → List ℤ → List Row → List ℤ
table_of room tail rs = flat rs ++ (replicate ((room - length rs) * 5) (pos 0) ++ tail)
