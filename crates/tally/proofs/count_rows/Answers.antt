-- `count_rows` meets its contract: each turn reads one row, and raises the tally of its entry.
use Prim.Native.Nat.{◌+◌, ◌<◌}
use native.Mathlib.Omega.{arith}
use native.Mathlib.Numerals.{add-one}
use mathlib.Core.Path.{◌≡◌, refl, sym, ap, ◌∙◌}
use lib.IntN.{nat_abs}
use lib.ListN.{length}
use mir.Syntax.{w32}
use mir.Val.{SFits, to_z, of_z}
use Rattle.interval.proofs.Machine.{same32}
use Rattle.chart.proofs.Usable.{usable_few}
use Rattle.model.proofs.Capacity.{capacity_fits}
use Rattle.table.specs.Table.{rows_in, cell, table_row}
use Rattle.table.proofs.Rows.{rows_none, rows_snoc, length_rows}
use Rattle.tally.specs.Tally.{counts, report_of}
use Rattle.tally.proofs.Laws.{counts_none, counts_more, counts_most}
use Rattle.tally.proofs.count_rows.Goals.{After-row_at-row}
use Rattle.tally.proofs.count_rows.Goals as goal

-- the entry that was read, of a row in use: one of the chart's
module _ (c : After-row_at-row) where
  read_is : to_z w32 (of_z w32 c.row_at-row.result.entry) ≡ cell c.args.table.now c.loop-i.i 0
  read_is = let f : SFits w32 c.row_at-row.result.entry = record { sfits = omega arith } in same32 _ f ∙ ap (λ q. q.entry) c.row_at-row.ensures

  few : nat_abs (to_z w32 (of_z w32 c.row_at-row.result.entry)) < 32
  few = rw read_is (omega (arith, c.requires.entry_below c.loop-i.i c.loop-i-test.true, usable_few _ c.requires.usable))

pub loop-i-init : goal.loop-i-init
loop-i-init c = (refl, sym (ap (counts c.args.chart.count) (rows_none c.args.table.now) ∙ counts_none c.args.chart.count (usable_few _ c.requires.usable)))

pub row_at-row-requires : goal.row_at-row-requires
row_at-row-requires c = omega (arith, capacity_fits (length c.args.table.now), c.requires.fit, c.loop-i-test.true)

pub bounds-tallies-row : goal.bounds-tallies-row
bounds-tallies-row c = few (goal.at.bounds-tallies-row c).After-row_at-row

pub overflow_add-tallies : goal.overflow_add-tallies
overflow_add-tallies c =
    let t = c.args.table.now in
    let most = counts_most c.args.chart.count (rows_in c.loop-i.i t) (nat_abs (to_z w32 (of_z w32 c.row_at-row.result.entry))) in
    record { fits = rw c.loop-i.invariant.1 (omega (arith, most, length_rows c.loop-i.i t, c.loop-i-test.true, c.ranges.rows.fits)) }

pub bounds-tallies-row-in-loop-i : goal.bounds-tallies-row-in-loop-i
bounds-tallies-row-in-loop-i c = few (goal.at.bounds-tallies-row-in-loop-i c).After-row_at-row

pub loop-i-preserved : goal.loop-i-preserved
loop-i-preserved c =
    let n = c.args.chart.count in
    let t = c.args.table.now in
    let i = c.loop-i.i in
    let more = counts_more n (rows_in i t) (table_row t i) (c.requires.entry_below i c.loop-i-test.true) in
    (ap (λ k. k + 1) c.loop-i.invariant.0, rw (c.loop-i.invariant.1, read_is (goal.at.loop-i-preserved c).After-row_at-row, add-one i) (sym (ap (counts n) (rows_snoc i t) ∙ more)))

pub returns : goal.returns
unfolding report_of
returns c =
    let all : c.loop-i.i ≡ c.args.rows = omega (arith, c.loop-i.auto.i-end, c.loop-i-test.false) in
    rw (c.loop-i.invariant.0, c.loop-i.invariant.1, all, length_rows c.args.rows c.args.table.now)
