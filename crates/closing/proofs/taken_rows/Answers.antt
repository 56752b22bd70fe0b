-- `taken_rows` meets its contract: what the rows left append is what all were to append.
use native.Mathlib.Omega.{arith}
use mathlib.Core.Path.{◌∙◌}
use Rattle.interval.proofs.Machine.{same32}
use Rattle.closing.specs.Added.{taken_rows}
use Rattle.closing.proofs.Filling.{begin, turn, stop, over, appendable}
use Rattle.closing.proofs.Laws.{taken_same}
use Rattle.closing.proofs.taken_rows.Goals as goal

pub loop-i-init : goal.loop-i-init
loop-i-init c = begin _ _ _ _ _ c.requires.fit

pub push_taken-count-requires : goal.push_taken-count-requires
push_taken-count-requires c =
    let a = c.requires in
    (appendable a c.loop-i.invariant, omega (arith, a.inside, c.loop-i.invariant.least))

pub shape_of-t-then-room-count : goal.shape_of-t-then-room-count
shape_of-t-then-room-count c =
    c.push_taken-count.auto.t ∙ c.loop-i.invariant.size

pub returns-then-room-count : goal.returns-then-room-count
unfolding taken_rows
returns-then-room-count c =
    let g = c.args in
    simp (same32, c.ranges.a) at (stop _ c.loop-i.i g.f.end c.loop-i.invariant (omega arith) (taken_same g.n c.loop-i.t g.t.now c.loop-i.invariant.kept _ _ _ _ _ c.loop-i.i (omega (arith, c.requires.inside))) c.push_taken-count.ensures c.if-room-count.true)

pub loop-i-preserved : goal.loop-i-preserved
loop-i-preserved c =
    let g = c.args in
    turn _ c.loop-i.i g.f.end c.loop-i.invariant (omega arith) (taken_same g.n c.loop-i.t g.t.now c.loop-i.invariant.kept _ _ _ _ _ c.loop-i.i (omega (arith, c.requires.inside))) c.push_taken-count.ensures c.if-room-count.false

pub shape_of-t : goal.shape_of-t
shape_of-t c = c.loop-i.invariant.size

pub returns : goal.returns
unfolding taken_rows
returns c =
    simp (same32, c.ranges.a) at (over _ c.loop-i.i c.args.f.end c.loop-i.invariant (omega arith))
