-- Reports computed by the definitions alone: of P1's eight rows, of the three that P3 leaves of them, under the five entries of their chart, and of no row.
use Prim.Native.Nat.{ℕ}
use mathlib.Core.Path.{◌≡◌, refl}
use mathlib.Core.List.{List, [], ◌∷◌, ◌++◌, map}
use lib.IntN.{pos, negsuc}
use lib.ListN.{replicate}
use Rattle.model.specs.Order.{Row, row}
use Rattle.tally.specs.Tally.{tally, tallies, counts, sum, report_of, refused_report}
use Rattle.tally.specs.declared.Report.{Report}

-- rows of these entries: their other numbers do not matter
abbrev of_entries : List ℕ → List Row
of_entries es = map (λ e. row e (pos 1) (negsuc 0) (pos 0) (pos 0)) es

abbrev report : ℕ → ℕ → ℕ → List ℕ → Report
report entries rows read tallies = record { refusal = 0; entries = entries; rows = rows; read = read; tallies = tallies }

pub of_P1 : report_of 5 (of_entries (0 ∷ 1 ∷ 3 ∷ 4 ∷ 1 ∷ 2 ∷ 3 ∷ 4 ∷ [])) ≡ report 5 8 8 (1 ∷ 2 ∷ 1 ∷ 2 ∷ 2 ∷ replicate 27 0)
unfolding report_of counts tallies tally
of_P1 = refl

pub of_P3 : report_of 5 (of_entries (1 ∷ 1 ∷ 2 ∷ [])) ≡ report 5 3 3 (0 ∷ 2 ∷ 1 ∷ replicate 29 0)
unfolding report_of counts tallies tally
of_P3 = refl

-- a chart of 32 entries, of which the last has rows
pub of_last : report_of 32 (of_entries (31 ∷ 0 ∷ 31 ∷ [])) ≡ report 32 3 3 (1 ∷ replicate 30 0 ++ 2 ∷ [])
unfolding report_of counts tallies tally
of_last = refl

pub of_none : report_of 2 [] ≡ report 2 0 0 (replicate 32 0)
unfolding report_of counts tallies tally
of_none = refl

-- "The total equals ... the sum of the lines"
pub sum_of_P1 : sum (1 ∷ 2 ∷ 1 ∷ 2 ∷ 2 ∷ replicate 27 0) ≡ 8
unfolding sum
sum_of_P1 = refl

-- "Refused (14, 13), the library's report gives only the number"
pub when_refused : refused_report 13 ≡ record { refusal = 13; entries = 0; rows = 0; read = 0; tallies = replicate 32 0 }
unfolding refused_report
when_refused = refl
