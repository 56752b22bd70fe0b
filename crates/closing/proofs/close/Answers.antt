-- `close` meets its contract: where all fit, they are there; where not, zeros take their place again.
use native.Mathlib.Omega.{arith}
use mathlib.Core.Path.{◌≡◌, ◌∙◌}
use lib.ListN.{length}
use Rattle.interval.proofs.Machine.{same32}
use Rattle.model.proofs.Capacity.{capacity_most, capacity_fits}
use Rattle.closing.proofs.Entries.{closed_fits, closed_full}
use Rattle.closing.proofs.close.Goals as goal

pub returns-then-n-room : goal.returns-then-n-room
returns-then-n-room c =
    let g = c.args in
    let room = c.rows_that_fit-room.ensures in
    closed_fits g.chart g.state g.mark g.table.now c.requires.ready c.due_rows-n.result c.due_rows-n.new.t (simp (room, same32 _ c.ranges.mark) at c.due_rows-n.ensures) (rw room at c.if-n-room.true)

pub overflow_mul-state : goal.overflow_mul-state
overflow_mul-state c = omega (arith, c.requires.ready.fit, capacity_most (length c.args.table.now))

pub overflow_mul-room : goal.overflow_mul-room
overflow_mul-room c = omega (arith, c.rows_that_fit-room.ensures, capacity_most (length c.args.table.now))

pub zero_part-requires : goal.zero_part-requires
zero_part-requires c =
    let room = c.rows_that_fit-room.ensures in
    let size : length c.due_rows-n.new.t ≡ length c.args.table.now = c.due_rows-n.auto.t in
    (omega (arith, room, c.requires.ready.fit), omega (arith, room, capacity_fits (length c.args.table.now)))

pub returns : goal.returns
returns c =
    let g = c.args in
    let room = c.rows_that_fit-room.ensures in
    let w = closed_full g.chart g.state g.mark g.table.now c.requires.ready c.due_rows-n.result c.due_rows-n.new.t (simp (room, same32 _ c.ranges.mark) at c.due_rows-n.ensures) (rw room at c.if-n-room.false) in
    (w.0, rw room at c.zero_part.ensures ∙ w.1)
