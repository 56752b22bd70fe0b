-- `is_forbidding_row` meets its contract: the tests one by one.
use mir.Syntax.{w32}
use mir.Val.{SFits}
use Rattle.std.proofs.Common.{rules}
use Rattle.interval.proofs.Machine.{same32, eq_z_yes, eq_z_no}
use Rattle.closing.specs.Added.{forbids}
use Rattle.closing.proofs.is_forbidding_row.Goals as goal

pub returns-then-s-b : goal.returns-then-s-b
unfolding forbids
returns-then-s-b c =
    let entry : SFits w32 c.row_at-s.result.entry = search rules in
    simp (simp c.row_at-s.ensures at (eq_z_no _ _ entry c.ranges.b c.if-s-b.true))

pub returns : goal.returns
unfolding forbids
returns c =
    let g = c.args in
    let entry : SFits w32 c.row_at-s.result.entry = search rules in
    let rs : SFits w32 g.r.start = search rules in
    let re : SFits w32 g.r.end = search rules in
    let ss : SFits w32 c.row_at-s.result.start = search rules in
    let se : SFits w32 c.row_at-s.result.end = search rules in
    simp (simp c.row_at-s.ensures at (eq_z_yes _ _ entry c.ranges.b c.if-s-b.false)) (simp c.row_at-s.ensures at (simp (same32, rs, re, ss, se) at c.is_forbidding.ensures))
