-- Tallies (request N3): how many rows each entry has, and the report that hands them back.
use Rattle.std.specs.Prelude.{ℕ, ◌+◌, ◌-◌, List, [], ◌∷◌, ◌++◌, map, eqb, length, replicate}
use Rattle.model.specs.Lists.{keep, numbers}
use Rattle.model.specs.Order.{Row}
use Rattle.tally.specs.declared.Report.{Report}

-- "entry and number of rows": the rows of an entry are those that are kept of all
unfoldable pub tally : ℕ → List Row → ℕ
tally e rs = length (keep (λ r. eqb r.entry e) rs)

-- "one line per entry": of a chart of n entries, from entry 0 on
unfoldable pub tallies : ℕ → List Row → List ℕ
tallies n rs = map (λ e. tally e rs) (numbers 0 n)

-- the same in an array of 32: zeros follow
unfoldable pub counts : ℕ → List Row → List ℕ
counts n rs = tallies n rs ++ replicate (32 - n) 0

-- "the sum of the lines"
unfoldable pub sum : List ℕ → ℕ
sum [] = 0
sum (x ∷ xs) = x + sum xs

-- "the number of rows in use", and "how many rows it read, those read for 13 apart, which is the number in use, whatever the number of entries": each row
-- one time
unfoldable pub report_of : ℕ → List Row → Report
report_of n rs = record { refusal = 0; entries = n; rows = length rs; read = length rs; tallies = counts n rs }

-- "Refused (14, 13), the library's report gives only the number"
unfoldable pub refused_report : ℕ → Report
refused_report number = record { refusal = number; entries = 0; rows = 0; read = 0; tallies = replicate 32 0 }
