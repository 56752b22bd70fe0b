-- `delayed_rows` meets its contract: the two searches find the rows that ended so long before, and all of them that are of the operand are taken.
use Prim.Native.Nat.{◌≤◌}
use native.Mathlib.Omega.{arith}
use mathlib.Core.Path.{◌≡◌}
use mir.Syntax.{w32}
use mir.Val.{SFits}
use lib.IntN.{pos, ◌-ℤ◌}
use Rattle.std.proofs.Common.{rules}
use Rattle.interval.proofs.Machine.{same32, same64, earlier_fits}
use Rattle.table.proofs.EndParts.{ends_low, ends_few}
use Rattle.closing.specs.Added.{waited_from, waited_to, delayed_rows}
use Rattle.closing.proofs.delayed_rows.Goals.{After-ending_by}
use Rattle.closing.proofs.delayed_rows.Goals as goal

-- where the rows begin whose wait ends at the instant, and where they end
first : (c : After-ending_by) → let g = c.args in c.ending_before.result ≡ waited_from g.f.instant g.d g.f.end g.t.now
first c =
    let g = c.args in
    let instant : SFits w32 g.f.instant = search rules in
    let from : c.earlier_by-from.result ≡ g.f.instant -ℤ pos g.d = simp (same32 _ instant) at c.earlier_by-from.ensures in
    simp (from, same64 _ (earlier_fits _ g.d instant (omega arith))) at c.ending_before.ensures

past : (c : After-ending_by) → let g = c.args in c.ending_by.result ≡ waited_to g.f.instant g.d g.f.end g.t.now
past c =
    let g = c.args in
    let instant : SFits w32 g.f.instant = search rules in
    let from : c.earlier_by-from.result ≡ g.f.instant -ℤ pos g.d = simp (same32 _ instant) at c.earlier_by-from.ensures in
    simp (from, same64 _ (earlier_fits _ g.d instant (omega arith))) at c.ending_by.ensures

pub taken_rows-requires : goal.taken_rows-requires
taken_rows-requires c =
    let y = (goal.at.taken_rows-requires c).After-ending_by in
    let g = c.args in
    let a = c.requires in
    let o = g.f.instant -ℤ pos g.d in
    let entry : SFits w32 g.f.entry = search rules in
    let instant : SFits w32 g.f.instant = search rules in
    let few : waited_to g.f.instant g.d g.f.end g.t.now ≤ g.f.end = ends_few o g.f.end g.t.now in
    simp (first y, past y, same32 _ entry, same32 _ instant) (
    record {
      fit = a.fit;
      most = a.most;
      held = a.held;
      above = a.above;
      low = a.low;
      few = ends_low o g.f.end g.t.now;
      inside = omega (arith, a.inside);
      ordered = λ i j h k. a.ordered i j h (omega arith);
    }
    )

pub returns : goal.returns
unfolding delayed_rows
returns c =
    let y = (goal.at.returns c).After-ending_by in
    let entry : SFits w32 c.args.f.entry = search rules in
    let instant : SFits w32 c.args.f.instant = search rules in
    let since : SFits w32 c.args.f.since = search rules in
    simp (first y, past y, same32 _ entry, same32 _ instant, same32 _ since, same32 _ c.ranges.a) at c.taken_rows.ensures
