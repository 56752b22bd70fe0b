-- `is_wanted` meets its contract: the tests one by one.
use mir.Syntax.{w32}
use mir.Val.{SFits}
use Rattle.std.proofs.Common.{rules}
use Rattle.interval.proofs.Machine.{same32, eq_z_yes, eq_z_no}
use Rattle.closing.proofs.is_wanted.Goals as goal

pub returns-then-s-w : goal.returns-then-s-w
returns-then-s-w c =
    let entry : SFits w32 c.args.s.entry = search rules in
    let operand : SFits w32 c.args.w.operand = search rules in
    simp (eq_z_no _ _ entry operand c.if-s-w.true)

pub returns : goal.returns
returns c =
    let g = c.args in
    let entry : SFits w32 g.s.entry = search rules in
    let operand : SFits w32 g.w.operand = search rules in
    let rs : SFits w32 g.w.start = search rules in
    let re : SFits w32 g.w.end = search rules in
    let ss : SFits w32 g.s.start = search rules in
    let se : SFits w32 g.s.end = search rules in
    simp (eq_z_yes _ _ entry operand c.if-s-w.false) (simp (same32, rs, re, ss, se) at c.is_related.ensures)
