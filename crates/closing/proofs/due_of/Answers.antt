-- `due_of` meets its contract.
use mathlib.Core.Path.{ap, ◌∙◌}
use mir.Syntax.{w32}
use mir.Val.{SFits}
use lib.IntN.{pos, ◌+ℤ◌}
use Rattle.std.proofs.Common.{rules}
use Rattle.interval.specs.Instants.{least}
use Rattle.interval.proofs.Machine.{same32}
use Rattle.closing.proofs.due_of.Goals as goal

pub returns : goal.returns
returns c =
    let g = c.args in
    let f : SFits w32 c.row_at-row.result.end = search rules in
    let fit : SFits w32 c.least_delayed.result = search rules in
    same32 _ fit ∙ simp (same32 _ f, same32 _ c.ranges.limit) at c.least_delayed.ensures ∙ ap (λ x. least (x.end +ℤ pos g.d) g.limit) c.row_at-row.ensures
