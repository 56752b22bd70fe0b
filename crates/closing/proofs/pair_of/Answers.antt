-- `pair_of` meets its contract: the numbers one by one.
use native.Mathlib.Omega.{arith}
use mir.Syntax.{w32}
use mir.Val.{SFits}
use mir.ValLaws.{to_z_pos}
use Rattle.std.proofs.Common.{rules}
use Rattle.interval.proofs.Machine.{same32}
use Rattle.closing.proofs.pair_of.Goals as goal

pub returns : goal.returns
returns c =
    let g = c.args in
    let entry : SFits w32 g.f.entry = search rules in
    let rs : SFits w32 g.w.start = search rules in
    let ss : SFits w32 g.s.start = search rules in
    let re : SFits w32 g.w.end = search rules in
    let se : SFits w32 g.s.end = search rules in
    let start : SFits w32 c.least_start.result = search rules in
    let end : SFits w32 c.greatest_end.result = search rules in
    simp (same32, entry, start, end, to_z_pos w32 g.w.left (omega arith), to_z_pos w32 g.i (omega arith)) (simp (simp (same32, rs, ss) at c.least_start.ensures, simp (same32, re, se) at c.greatest_end.ensures))
