-- When watch and table are consistent with a chart: the contrary of document 01's "Out of joint". Each test here is a cause of that paragraph, negated.
use Rattle.std.specs.Prelude.{ℕ, ◌*◌, Bool, ◌&&◌, List, eqb, leb, ℤ, pos, length}
use Rattle.std.specs.Int.Signed.{le_z}
use Rattle.interval.specs.Instants.{is_instant, first_floor}
use Rattle.chart.specs.Charts.{all_below}
use Rattle.chart.specs.declared.Chart.{Chart}
use Rattle.state.specs.State.{entry_since}
use Rattle.state.specs.declared.WatchState.{WatchState}
use Rattle.model.specs.Capacity.{capacity}
use Rattle.model.specs.Consistency.{is_row_consistent, is_rising}
use Rattle.table.specs.Table.{cell, rows_in, are_zeros}
use Rattle.table.specs.Operators.{operators_of}

-- "open instant or floor out of range; floor above open"
abbrev pub are_instants_in_range : ℤ → ℤ → Bool
are_instants_in_range instant floor = is_instant instant && (is_instant floor && le_z floor instant)

-- "over 64 pending events, more pending than counted, or a count above 1,000,000"
abbrev pub are_counts_in_range : ℕ → ℕ → Bool
are_counts_in_range pending events = leb pending 64 && (leb pending events && leb events 1000000)

-- "A watch with another number of entries than the chart is out of joint"; "that instant may not fall from one entry to the next, nor lie below
-- -1,000,000,000 or above the open instant" (request N13)
abbrev pub are_entries_in_range : ℕ → WatchState → Bool
are_entries_in_range count w = eqb w.entries count && is_rising first_floor w.instant (entry_since w)

-- count: how many entries the chart has
unfoldable pub is_watch_in_range : ℕ → WatchState → Bool
is_watch_in_range count w = are_instants_in_range w.instant w.floor && (are_counts_in_range w.pending w.events && are_entries_in_range count w)

-- "or a row whose entry is not in the chart, ..." An entry number is never negative; the rest is said of the rows.
unfoldable pub is_table_row_consistent : Chart → WatchState → List ℤ → ℕ → Bool
is_table_row_consistent chart w t i =
    le_z (pos 0) (cell t i 0) && is_row_consistent (operators_of chart) (entry_since w) w.floor w.instant w.events (rows_in w.rows t) i

-- "more rows than fit; an unused row that is not all zeros; or a row ..."
unfoldable pub are_consistent : Chart → WatchState → List ℤ → Bool
are_consistent chart w t =
    is_watch_in_range chart.count w
    && (leb w.rows (capacity (length t))
    && (are_zeros (w.rows * 5) (capacity (length t) * 5) t
    && all_below w.rows (is_table_row_consistent chart w t)))
