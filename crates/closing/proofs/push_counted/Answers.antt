-- `push_counted` meets its contract where the row does not count: nothing is appended.
use mathlib.Core.Path.{◌≡◌, refl}
use mathlib.Core.Bool.{false}
use lib.Signed.{le_z}
use mir.Syntax.{w32}
use mir.Val.{SFits}
use Rattle.std.proofs.Common.{rules}
use Rattle.interval.proofs.Machine.{same32}
use Rattle.table.proofs.Fill.{fill_none}
use Rattle.closing.proofs.push_counted.Goals as goal

pub returns : goal.returns
returns c =
    let since : SFits w32 c.args.f.since = search rules in
    let start : SFits w32 c.args.row.start = search rules in
    let late : le_z c.args.f.since c.args.row.start ≡ false = simp (same32, since, start) at c.if-f-row.false in
    rw (late, fill_none) (refl, refl)
