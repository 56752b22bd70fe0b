-- `push_event` meets its contract: the row is the event's.
use native.Mathlib.Omega.{arith}
use mir.Syntax.{w32}
use mir.Val.{SFits}
use mir.ValLaws.{to_z_pos}
use Rattle.std.proofs.Common.{rules}
use Rattle.interval.proofs.Machine.{same32}
use Rattle.closing.proofs.push_event.Goals as goal

pub returns : goal.returns
returns c =
    let f : SFits w32 c.args.f.entry = search rules in
    let o : SFits w32 c.args.f.instant = search rules in
    simp (same32, f, o, to_z_pos w32 c.args.serial (omega arith)) at c.push_counted.ensures
