use Rattle.std.proofs.Common.{◌≡◌, true}
use Rattle.chart.specs.Charts.{all_below}
use Rattle.consistency.specs.Consistency.{is_table_row_consistent}
use Rattle.consistency.specs.Rows.{last_end}
use Rattle.consistency.proofs.are_rows_consistent.Given as goal

-- the rows passed are consistent
abbrev pub invariant-loop-i : goal.invariant-loop-i
invariant-loop-i l = (all_below l.i (is_table_row_consistent l.chart l.state l.t) ≡ true) × (l.last ≡ last_end l.t l.i)
