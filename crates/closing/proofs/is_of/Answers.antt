-- `is_of` meets its contract: the test of the bits is that of the numbers.
use mathlib.Core.Path.{ap, ◌∙◌}
use mir.Syntax.{w32}
use mir.Val.{SFits}
use Rattle.std.proofs.Common.{rules}
use Rattle.interval.specs.Instants.{eq_z}
use Rattle.interval.proofs.Machine.{eq_bits}
use Rattle.closing.proofs.is_of.Goals as goal

pub returns : goal.returns
returns c =
    let f : SFits w32 c.row_at-row.result.entry = search rules in
    eq_bits w32 _ _ f c.ranges.a ∙ ap (λ x. eq_z x.entry c.args.a) c.row_at-row.ensures
