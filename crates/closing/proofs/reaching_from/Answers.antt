-- `reaching_from` meets its contract: the rows before the first that ends at the least start or later.
use native.Mathlib.Omega.{arith}
use mir.Syntax.{w32}
use mir.Val.{SFits}
use Rattle.std.proofs.Common.{rules}
use Rattle.interval.proofs.Machine.{same32}
use Rattle.closing.proofs.reaching_from.Goals as goal

pub least_start-least-requires : goal.least_start-least-requires
least_start-least-requires c = (omega arith, omega arith)

pub ending_before-requires : goal.ending_before-requires
ending_before-requires c = (omega arith, c.requires.3)

pub returns : goal.returns
returns c =
    let f : SFits w32 c.least_start-least.result = search rules in
    simp (simp (same32 _ c.ranges.b) at c.least_start-least.ensures) at (simp (same32 _ f) at c.ending_before.ensures)
