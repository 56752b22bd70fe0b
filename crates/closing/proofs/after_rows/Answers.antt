-- `after_rows` meets its contract: the next end, and the rows.
use native.Mathlib.Omega.{arith}
use mir.Syntax.{w32}
use mir.Val.{SFits}
use Rattle.std.proofs.Common.{rules}
use Rattle.interval.proofs.Machine.{same32}
use Rattle.closing.proofs.after_rows.Goals as goal

pub next_end-requires : goal.next_end-requires
next_end-requires c =
    let p = c.requires in
    let instant : SFits w32 c.args.f.instant = search rules in
    simp (same32 _ instant, same32 _ c.ranges.next, same32 _ c.ranges.a) (p.1, omega (arith, p.0.held, p.0.fit), p.2, p.3)

pub returns : goal.returns
returns c =
    let since : SFits w32 c.args.f.since = search rules in
    let instant : SFits w32 c.args.f.instant = search rules in
    let f : SFits w32 c.next_end.result = search rules in
    simp (same32 _ f) (
      simp (same32 _ c.ranges.a) at c.delayed_rows.ensures,
      simp (same32 _ since, same32 _ instant, same32 _ c.ranges.next, same32 _ c.ranges.a) at c.next_end.ensures,
    )
