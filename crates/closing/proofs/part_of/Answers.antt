-- `part_of` meets its contract: the numbers one by one.
use native.Mathlib.Omega.{arith}
use mir.Syntax.{w32}
use mir.Val.{SFits}
use mir.ValLaws.{to_z_pos}
use Rattle.std.proofs.Common.{rules}
use Rattle.interval.proofs.Machine.{same32}
use Rattle.closing.proofs.part_of.Goals as goal

pub returns-then-second : goal.returns-then-second
returns-then-second c =
    let entry : SFits w32 c.args.f.entry = search rules in
    let instant : SFits w32 c.args.f.instant = search rules in
    simp (c.if-second.true, same32 _ entry, same32 _ instant, to_z_pos w32 c.args.i (omega arith))

pub returns : goal.returns
returns c =
    let entry : SFits w32 c.args.f.entry = search rules in
    let instant : SFits w32 c.args.f.instant = search rules in
    simp (c.if-second.false, same32 _ entry, same32 _ instant, to_z_pos w32 c.args.i (omega arith))
