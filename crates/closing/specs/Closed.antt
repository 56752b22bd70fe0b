-- What closing instants leaves: how many rows there are, and the table.
-- `closed_rows` has to be believed: the clock call cites it. `closed_count`, `closed_table` and `Closable` serve the proofs.
use Rattle.std.specs.Prelude.{ℕ, suc, ◌-◌, ◌≤◌, ◌≡◌, true, cond, List, leb, ℤ, length, take, drop, Option, None, Some}
use Rattle.std.specs.Int.Signed.{lt_z}
use Rattle.chart.specs.declared.Chart.{Chart}
use Rattle.model.specs.Order.{Row}
use Rattle.model.specs.RowSteps.{numbered, close_instants, instants_to}
use Rattle.state.specs.declared.WatchState.{WatchState}
use Rattle.table.specs.Operators.{operators_of}
use Rattle.table.specs.Ready.{Ready, EndBefore}
use Rattle.table.specs.Table.{rows_in, put_rows, room_in}

-- the rows after every instant from the open one to before x is closed: "entry by entry", over the events of the open instant, each entry's from the
-- instant on from which it counts
unfoldable pub closed_rows : Chart → WatchState → ℤ → List ℤ → List Row
closed_rows chart w x t = close_instants (instants_to w.instant x) w.instant (numbered w.instant (suc (w.events - w.pending)) (take w.pending w.codes)) (operators_of chart) w.since (rows_in w.rows t)

-- "12 table full: the due rows, old and new together, exceed the rows the table can hold": then there is no number, and the table is as it was.
-- "Closing alters only the new rows"
unfoldable pub closed_count : Chart → WatchState → ℤ → List ℤ → Option ℕ
closed_count chart w x t = cond (leb (length (closed_rows chart w x t)) (room_in t)) (Some (length (closed_rows chart w x t))) None

unfoldable pub closed_table : Chart → WatchState → ℤ → List ℤ → List ℤ
closed_table chart w x t = cond (leb (length (closed_rows chart w x t)) (room_in t)) (put_rows w.rows (drop w.rows (closed_rows chart w x t)) t) t

-- what closing up to x asks: rows that are consistent with the chart and end before the open instant, counts that are in range, and an x after
-- the open instant
pub record Closable (chart : Chart) (w : WatchState) (x : ℤ) (t : List ℤ) : Type 0 where
  pub ready : Ready chart w.rows t
  pub ended : EndBefore w.instant w.rows t
  pub few : w.pending ≤ 64
  pub counted : w.pending ≤ w.events
  pub most : w.events ≤ 1000000
  pub later : lt_z w.instant x ≡ true
