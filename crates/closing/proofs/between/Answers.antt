-- `between` meets its contract: the two latest starts, and the rows that end before each.
use Prim.Native.Nat.{◌≤◌}
use native.Mathlib.Omega.{arith}
use mathlib.Core.Path.{◌≡◌, ap, ◌∙◌}
use mir.Syntax.{w32}
use mir.Val.{SFits}
use Rattle.std.proofs.Common.{rules}
use Rattle.interval.proofs.Machine.{same32}
use Rattle.table.specs.Table.{cell}
use Rattle.table.specs.Ends.{ending_before}
use Rattle.closing.specs.Added.{top_of, next_row, latest_start, near_from, near_to}
use Rattle.closing.proofs.Laws.{top_le, read_back}
use Rattle.closing.proofs.between.Goals.{After-latest_start-new, After-latest_start-old}
use Rattle.closing.proofs.between.Goals as goal

-- of the old rows and of the new ones
old : (c : After-latest_start-old) → let g = c.args in c.latest_start-old.result ≡ latest_start g.b (cell g.t.now 0 4) 0 (top_of g.b g.f.first g.t.now) g.t.now
old c =
    let top = simp (same32 _ c.ranges.b) at c.top_of-top.ensures in
    let end : SFits w32 c.row_at-earliest.result.end = search rules in
    let x = read_back _ _ end (ap (λ q. q.end) c.row_at-earliest.ensures) in
    simp (same32 _ c.ranges.b, x, top) at c.latest_start-old.ensures

new : (c : After-latest_start-new) → let g = c.args in c.latest_start-new.result ≡ latest_start g.b (cell g.t.now (next_row g.b g.f.first g.f.end g.t.now) 3) (next_row g.b g.f.first g.f.end g.t.now) g.f.end g.t.now
new c =
    let g = c.args in
    let start : SFits w32 c.row_at-first.result.start = search rules in
    let x = read_back _ _ start (ap (λ q. q.start) c.row_at-first.ensures) in
    (simp (same32 _ c.ranges.b, x) at c.latest_start-new.ensures) ∙ ap (λ i. latest_start g.b (cell g.t.now i 3) i g.f.end g.t.now) c.requires.0

pub latest_start-old-requires : goal.latest_start-old-requires
latest_start-old-requires c =
    let g = c.args in
    let top = simp (same32 _ c.ranges.b) at c.top_of-top.ensures in
    let most : c.top_of-top.result ≤ g.f.end = omega (arith, top, top_le g.b g.t.now g.f.first) in
    (omega arith, omega arith, (λ i j h k. c.requires.4 i j h (omega arith)), (λ i h. c.requires.5 i (omega arith)))

pub ending_before-requires : goal.ending_before-requires
ending_before-requires c = (omega arith, λ i j h k. c.requires.4 i j h (omega arith))

pub ending_before-requires-2 : goal.ending_before-requires-2
ending_before-requires-2 c = (omega arith, λ i j h k. c.requires.4 i j h (omega arith))

pub returns : goal.returns
unfolding near_from near_to
returns c =
    let g = c.args in
    let f : SFits w32 c.latest_start-old.result = search rules in
    let h : SFits w32 c.latest_start-new.result = search rules in
    (c.ending_before.ensures ∙ ap (λ z. ending_before g.f.first z g.t.now) (read_back _ _ f (old (goal.at.returns c).After-latest_start-old)), c.ending_before-2.ensures ∙ ap (λ z. ending_before g.f.first z g.t.now) (read_back _ _ h (new (goal.at.returns c).After-latest_start-new)))
