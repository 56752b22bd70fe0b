-- Forgetting on the caller's table. Document 01, "Instants, events, rows": "A forget f raises the floor to f, drops every row that
-- starts before f, moves the others down in order, renumbers their references and fills the freed rows with zeros."
use Rattle.std.specs.Prelude.{◌*◌, List, ℤ, length}
use Rattle.chart.specs.declared.Chart.{Chart}
use Rattle.state.specs.declared.WatchState.{WatchState}
use Rattle.model.specs.Order.{Row}
use Rattle.model.specs.RowSteps.{forget_rows}
use Rattle.table.specs.Table.{rows_in, put_rows, zeroed}
use Rattle.table.specs.Operators.{operators_of}

-- the rows of the watch that are kept
unfoldable pub kept_rows : Chart → WatchState → List ℤ → ℤ → List Row
kept_rows chart w t f = forget_rows (operators_of chart) f (rows_in w.rows t)

-- the table with these, and zeros in the freed rows
unfoldable pub forgotten_table : Chart → WatchState → List ℤ → ℤ → List ℤ
forgotten_table chart w t f = zeroed (length (kept_rows chart w t f) * 5) (w.rows * 5) (put_rows 0 (kept_rows chart w t f) t)
