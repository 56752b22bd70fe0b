-- `is_later_row` meets its contract: the tests one by one.
use mir.Syntax.{w32}
use mir.Val.{SFits}
use Rattle.std.proofs.Common.{rules}
use Rattle.interval.proofs.Machine.{same32, eq_z_yes, eq_z_no}
use Rattle.closing.proofs.is_later_row.Goals as goal

pub returns-then-row-a : goal.returns-then-row-a
returns-then-row-a c = let entry : SFits w32 c.args.row.entry = search rules in simp (eq_z_no _ _ entry c.ranges.a c.if-row-a.true)

pub returns-then-r-row : goal.returns-then-r-row
returns-then-r-row c =
    let g = c.args in
    let entry : SFits w32 g.row.entry = search rules in
    let rs : SFits w32 g.r.start = search rules in
    let re : SFits w32 g.r.end = search rules in
    let qs : SFits w32 g.row.start = search rules in
    let qe : SFits w32 g.row.end = search rules in
    simp (eq_z_yes _ _ entry c.ranges.a c.if-row-a.false, simp (same32, rs, qs) at c.if-r-row.true) (simp (same32, re, qe))

pub returns-else-r-row : goal.returns-else-r-row
returns-else-r-row c =
    let g = c.args in
    let entry : SFits w32 g.row.entry = search rules in
    let rs : SFits w32 g.r.start = search rules in
    let qs : SFits w32 g.row.start = search rules in
    simp (eq_z_yes _ _ entry c.ranges.a c.if-row-a.false, simp (same32, rs, qs) at c.if-r-row.false) c.if-r-row.false
