use mathlib.Core.Path.{◌≡◌}
use Rattle.table.specs.Table.{rows_in}
use Rattle.tally.specs.Tally.{counts}
use Rattle.tally.proofs.count_rows.Given as goal

abbrev pub invariant-loop-i : goal.invariant-loop-i
invariant-loop-i l = (l.read ≡ l.i) × (l.tallies ≡ counts l.chart.count (rows_in l.i l.table))
