-- `or_rows` meets its contract: the left arm, and then the right arm over the rows there were before.
use mathlib.Core.Path.{refl}
use lib.IntN.{nat_abs}
use Rattle.model.specs.Recognitions.{left, right}
use Rattle.interval.proofs.Machine.{same32}
use Rattle.closing.specs.declared.Taken.TheVariants.{All}
use Rattle.closing.specs.Added.{taken_rows, or_rows}
use Rattle.closing.proofs.Filling.{Filling, begin, next, full, last, appendable}
use Rattle.closing.proofs.Laws.{takens_same}
use Rattle.closing.proofs.or_rows.Goals.{Else-f-count}
use Rattle.closing.proofs.or_rows.Goals as goal

-- the left arm is done, and there was room
halfway : (c : Else-f-count) → let d = c.before.before.before in let g = d.args in Filling g.f.room g.f.since g.n (or_rows (nat_abs g.f.entry) g.f.instant g.a g.b g.f.first g.f.end g.t.now) g.t.now d.taken_rows-count.result (taken_rows right (nat_abs g.f.entry) g.f.instant g.b All g.f.first g.f.end g.t.now) d.taken_rows-count.new.t
unfolding or_rows
halfway c =
    let g = c.args in
    next (begin g.f.room g.f.since g.n _ g.t.now c.requires.fit) (taken_rows left (nat_abs g.f.entry) g.f.instant g.a All g.f.first g.f.end g.t.now) _ _ _ refl (simp (same32, c.ranges.a) at c.taken_rows-count.ensures) c.if-f-count.false

pub returns-then-f-count : goal.returns-then-f-count
unfolding or_rows
returns-then-f-count c =
    let g = c.args in
    full (begin g.f.room g.f.since g.n _ g.t.now c.requires.fit) (taken_rows left (nat_abs g.f.entry) g.f.instant g.a All g.f.first g.f.end g.t.now) (taken_rows right (nat_abs g.f.entry) g.f.instant g.b All g.f.first g.f.end g.t.now) _ _ refl (simp (same32, c.ranges.a) at c.taken_rows-count.ensures) c.if-f-count.true

pub taken_rows-requires : goal.taken_rows-requires
taken_rows-requires c = appendable c.requires (halfway (goal.at.taken_rows-requires c).Else-f-count)

pub returns : goal.returns
returns c =
    let y = (goal.at.returns c).Else-f-count in
    let g = y.args in
    let f = halfway y in
    last f (simp (same32, y.ranges.b, takens_same g.n y.taken_rows-count.new.t g.t.now f.kept (nat_abs g.f.entry) g.f.instant right g.b All g.f.first g.f.end y.requires.inside) at c.taken_rows.ensures)
