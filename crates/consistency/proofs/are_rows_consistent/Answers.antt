-- `are_rows_consistent` meets its contract: the rows passed are consistent, and one that is not ends the walk.
use Rattle.std.proofs.Common.{rules, ◌≡◌, ◌∙◌, sym, ap, ℕ, ◌+◌, ◌*◌, ◌<◌, ◌≤◌, List, length, ℤ, arith, w32, to_z, of_z, Some, None}
use Rattle.chart.proofs.Below.{at_place, none_below, one_more, not_all}
use Rattle.model.specs.Capacity.{capacity}
use Rattle.model.specs.Order.{since_of}
use Rattle.model.proofs.Capacity.{capacity_fits}
use Rattle.table.specs.Table.{stored_row}
use Rattle.consistency.specs.Consistency.{is_table_row_consistent}
use Rattle.consistency.specs.Rows.{last_end, entry_of}
use Rattle.consistency.proofs.Rows.{last_next, row_above, row_unknown, row_is}
use Rattle.consistency.proofs.are_rows_consistent.Goals.{After-is_row_of}
use Rattle.consistency.proofs.are_rows_consistent.Goals as goal

-- a row in use lies in the table
room : (rows i : ℕ) (t : List ℤ) → rows ≤ capacity (length t) → i < rows → i * 5 + 5 ≤ length t
room rows i t fit h = omega (arith, capacity_fits (length t), fit, h)

pub loop-i-init : goal.loop-i-init
unfolding last_end
loop-i-init c = (none_below _, search rules)

pub returns-in_default : goal.returns-in_default
returns-in_default c =
    let g = c.args in
    let none : entry_of (stored_row g.t.now c.loop-i.i) g.state.entries ≡ None = rw c.row_at-row.ensures at (sym c.entry_of.ensures.value ∙ c.in_default.is) in
    sym (not_all g.state.rows _ c.loop-i.i c.loop-i-test.true (row_unknown g.chart g.state g.t.now c.loop-i.i c.loop-i-test.true c.requires.same none))

pub slice_bounds-is_row_of-end : goal.slice_bounds-is_row_of-end
slice_bounds-is_row_of-end c = let h = room c.args.state.rows c.loop-i.i c.args.t.now c.requires.fit c.loop-i-test.true in search rules

-- the test that was made of the row
tested : (c : After-is_row_of) → let g = c.args in c.is_row_of.result ≡ is_table_row_consistent g.chart g.state g.t.now c.loop-i.i
tested c =
    let w = c.args.state in
    let t = c.args.t.now in
    let i = c.loop-i.i in
    let n = c.in-Some.n in
    let low : i * 5 ≤ length t = let h = room w.rows i t c.requires.fit c.loop-i-test.true in omega arith in
    let some : entry_of (stored_row t i) w.entries ≡ Some n = rw c.row_at-row.ensures at (sym c.entry_of.ensures.value ∙ c.in-Some.is) in
    let instant : to_z w32 (of_z w32 w.instant) ≡ w.instant = search rules in
    let floor : to_z w32 (of_z w32 w.floor) ≡ w.floor = search rules in
    let since : to_z w32 (of_z w32 (since_of w.since n)) ≡ since_of w.since n = search rules in
    let last : to_z w32 c.loop-i.last-bits ≡ last_end t i = c.loop-i.invariant.1 in
    rw (instant, floor, since, last, c.row_at-row.ensures) at c.is_row_of.ensures
    ∙ sym (row_is c.args.chart w t i c.loop-i-test.true c.requires.usable c.requires.same (search rules) low (λ j k. row_above c.args.chart w t j (at_place i _ c.loop-i.invariant.0 j k)) n some)

pub returns-then-not-is_row_of : goal.returns-then-not-is_row_of
returns-then-not-is_row_of c =
    sym (not_all c.args.state.rows _ c.loop-i.i c.loop-i-test.true (sym (tested (goal.at.returns-then-not-is_row_of c).After-is_row_of) ∙ c.if-not-is_row_of.true))

pub loop-i-preserved : goal.loop-i-preserved
loop-i-preserved c =
    let i = c.loop-i.i in
    let end : to_z w32 (of_z w32 c.row_at-row.result.end) ≡ c.row_at-row.result.end = search rules in (
      one_more i _ c.loop-i.invariant.0 (sym (tested (goal.at.loop-i-preserved c).After-is_row_of) ∙ c.if-not-is_row_of.false),
      end ∙ ap (λ q. q.end) c.row_at-row.ensures ∙ sym (last_next c.args.t.now i),
    )
