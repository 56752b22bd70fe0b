-- `pairs_with` meets its contract: what the rows s left append is what all were to append.
use native.Mathlib.Omega.{arith}
use mathlib.Core.Path.{◌≡◌, sym, ◌∙◌}
use mir.Syntax.{w32}
use mir.Val.{SFits, to_z, of_z}
use lib.IntN.{nat_abs}
use Rattle.std.proofs.Common.{rules}
use Rattle.interval.proofs.Machine.{same32}
use Rattle.model.specs.Lists.{each}
use Rattle.closing.specs.Added.{span, pair_row, pairs_of}
use Rattle.closing.proofs.Filling.{nothing, begin, turn, stop, over, appendable}
use Rattle.closing.proofs.Laws.{pair_same, pair_other}
use Rattle.closing.proofs.pairs_with.Goals.{After-right_from-s}
use Rattle.closing.proofs.pairs_with.Goals as goal

-- what was to be appended, by the numbers of row r
whole : (c : After-right_from-s) → let g = c.args in let z = c.row_at-left.result in each (pair_row g.c (nat_abs g.f.entry) (to_z w32 (of_z w32 g.b)) g.r (to_z w32 (of_z w32 z.start)) (to_z w32 (of_z w32 z.end)) g.t.now) (span c.right_from-s.result g.f.end) ≡ pairs_of g.c (nat_abs g.f.entry) g.b g.f.first g.f.end g.t.now g.r
unfolding pairs_of
whole c =
    let start : SFits w32 c.row_at-left.result.start = search rules in
    let end : SFits w32 c.row_at-left.result.end = search rules in
    simp (same32 _ c.ranges.b, same32 _ start, same32 _ end) (simp (c.row_at-left.ensures, c.right_from-s.ensures))

pub row_at-left-requires : goal.row_at-left-requires
row_at-left-requires c = omega (arith, c.requires.0.held, c.requires.0.inside, c.requires.0.fit)

pub loop-s-init : goal.loop-s-init
loop-s-init c = begin _ _ _ _ _ c.requires.0.fit

pub row_at-row-requires : goal.row_at-row-requires
row_at-row-requires c = let a = c.requires.0 in omega (arith, c.loop-s-test.true, c.loop-s.invariant.size, a.held, a.inside, a.fit)

pub push_pair-count-requires : goal.push_pair-count-requires
push_pair-count-requires c =
    let a = c.requires.0 in
    (appendable a c.loop-s.invariant, omega (arith, a.inside, c.loop-s.invariant.least), omega (arith, a.inside, c.loop-s.invariant.least), sym (simp c.row_at-row.ensures at c.is_wanted.ensures) ∙ c.if-is_wanted.true)

pub shape_of-t-then-room-count : goal.shape_of-t-then-room-count
shape_of-t-then-room-count c =
    c.push_pair-count.auto.t ∙ c.loop-s.invariant.size

pub returns-then-room-count : goal.returns-then-room-count
returns-then-room-count c =
    let g = c.args in
    simp (whole (goal.at.returns-then-room-count c).After-right_from-s) at (stop _ c.loop-s.s g.f.end c.loop-s.invariant c.loop-s-test.true (pair_same g.n c.loop-s.t g.t.now c.loop-s.invariant.kept _ _ _ _ _ _ c.loop-s.s (omega (arith, c.requires.0.inside))) c.push_pair-count.ensures c.if-room-count.true)

pub loop-s-preserved-else-room-count : goal.loop-s-preserved-else-room-count
loop-s-preserved-else-room-count c =
    let g = c.args in
    turn _ c.loop-s.s g.f.end c.loop-s.invariant c.loop-s-test.true (pair_same g.n c.loop-s.t g.t.now c.loop-s.invariant.kept _ _ _ _ _ _ c.loop-s.s (omega (arith, c.requires.0.inside))) c.push_pair-count.ensures c.if-room-count.false

pub loop-s-preserved : goal.loop-s-preserved
loop-s-preserved c =
    let g = c.args in
    let no = sym (simp c.row_at-row.ensures at c.is_wanted.ensures) ∙ c.if-is_wanted.false in
    turn _ c.loop-s.s g.f.end c.loop-s.invariant (omega arith) (pair_same g.n c.loop-s.t g.t.now c.loop-s.invariant.kept _ _ _ _ _ _ c.loop-s.s (omega (arith, c.requires.0.inside))) (nothing _ g.f.since _ _ _ (pair_other _ _ c.loop-s.t c.loop-s.s no)) c.loop-s.invariant.most

pub shape_of-t : goal.shape_of-t
shape_of-t c = c.loop-s.invariant.size

pub returns : goal.returns
returns c =
    simp (whole (goal.at.returns c).After-right_from-s) at (over _ c.loop-s.s c.args.f.end c.loop-s.invariant (omega arith))
