-- `is_taken` meets its contract: the tests one by one.
use mir.Syntax.{w32}
use mir.Val.{SFits}
use Rattle.std.proofs.Common.{rules}
use Rattle.interval.proofs.Machine.{same32, eq_z_yes, eq_z_no}
use Rattle.closing.proofs.is_taken.Goals as goal

pub returns-then-row-a : goal.returns-then-row-a
returns-then-row-a c = let entry : SFits w32 c.args.row.entry = search rules in simp (eq_z_no _ _ entry c.ranges.a c.if-row-a.true)

pub returns-in-All : goal.returns-in-All
returns-in-All c = let entry : SFits w32 c.args.row.entry = search rules in simp (eq_z_yes _ _ entry c.ranges.a c.if-row-a.false, c.in-All.is)

pub returns-in-Lasting : goal.returns-in-Lasting
returns-in-Lasting c =
    let r = c.args.row in
    let entry : SFits w32 r.entry = search rules in
    let start : SFits w32 r.start = search rules in
    let end : SFits w32 r.end = search rules in
    simp (eq_z_yes _ _ entry c.ranges.a c.if-row-a.false, c.in-Lasting.is) (simp (same32, start, end) at c.has_length.ensures)
