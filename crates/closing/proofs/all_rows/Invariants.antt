use Prim.Native.Nat.{◌-◌, ◌≤◌}
use mathlib.Core.Path.{◌≡◌}
use lib.IntN.{ℤ, pos, ◌+ℤ◌}
use Rattle.model.specs.Statements.{NextDue}
use Rattle.table.specs.Table.{rows_in}
use Rattle.closing.specs.Added.{events_at}
use Rattle.closing.proofs.Grown.{Grown}
use Rattle.closing.proofs.Entries.{Closing, left_rows}
use Rattle.closing.proofs.Waits.{entry_ends}
use Rattle.closing.proofs.all_rows.Given as goal

abbrev pub invariant-loop-i : goal.invariant-loop-i
invariant-loop-i l =
    let o : ℤ = l.jump.instant in
    (l.i ≤ l.chart.count) ×
    (l.count ≡ l.chart.count) ×
    Grown o l.rows l.n l.t ×
    Closing l.jump.room l.rows (left_rows l.chart l.since o (events_at o l.p l.codes) 0 l.rows l.initial.t) l.initial.t l.n (left_rows l.chart l.since o (events_at o l.p l.codes) l.i l.n l.t) l.t ×
    NextDue (entry_ends l.chart l.since (rows_in l.n l.t) l.i) (o +ℤ pos 1) l.jump.mark l.next

abbrev pub decreases-loop-i : goal.decreases-loop-i
decreases-loop-i l = l.chart.count - l.i
