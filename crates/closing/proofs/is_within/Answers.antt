-- `is_within` meets its contract: the row before place j, if there is one.
use mathlib.Core.Path.{sym, ap, ◌∙◌}
use lib.Signed.{le_z}
use mir.Syntax.{w32}
use mir.Val.{SFits}
use Rattle.std.proofs.Common.{rules}
use Rattle.interval.proofs.Machine.{same32}
use Rattle.closing.specs.Added.{is_within}
use Rattle.closing.proofs.Laws.{within_at}
use Rattle.closing.proofs.is_within.Goals as goal

pub returns-then-j-eq0 : goal.returns-then-j-eq0
unfolding is_within
returns-then-j-eq0 c = simp c.if-j-eq0.true

pub returns : goal.returns
returns c =
    let f : SFits w32 c.row_at-row.result.end = search rules in
    simp (same32, f, c.ranges.start) (ap (λ r. le_z c.args.start r.end) c.row_at-row.ensures ∙ sym (within_at c.args.start c.args.t.now c.args.j c.if-j-eq0.false))
