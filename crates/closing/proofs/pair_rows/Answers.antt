-- `pair_rows` meets its contract: what the rows r left append is what all were to append.
use Prim.Native.Nat.{ℕ, ◌+◌, ◌*◌, ◌≤◌, ◌<◌}
use native.Mathlib.Omega.{arith}
use mathlib.Core.Path.{◌≡◌, ◌∙◌}
use mathlib.Core.Bool.{true}
use mathlib.Core.List.{List}
use lib.IntN.{ℤ, nat_abs}
use lib.ListN.{length}
use mir.Syntax.{w32}
use mir.Val.{to_z, of_z}
use Rattle.interval.specs.Conditions.{ending_of}
use Rattle.interval.specs.Instants.{eq_z}
use Rattle.interval.specs.declared.Relation.{Relation}
use Rattle.interval.proofs.Machine.{same32}
use Rattle.model.specs.Lists.{each}
use Rattle.table.specs.Table.{cell}
use Rattle.closing.specs.Added.{span, pairs_of, pairs_with, pair_rows}
use Rattle.closing.proofs.Filling.{Kept, Filling, begin, turn, stop, over, appendable}
use Rattle.closing.proofs.Searches.{next_least}
use Rattle.closing.proofs.Visits.{visit}
use Rattle.closing.proofs.Laws.{pairs_same, pairs_with_lem, pairs_none, left_le}
use Rattle.closing.proofs.pair_rows.Goals.{After-left_from-first, Else-room-count, Start}
use Rattle.closing.proofs.pair_rows.Goals as goal

-- the table is as long as its rows
held : (c : Start) → c.args.f.end * 5 ≤ length c.args.t.now
held c = let a = c.requires in omega (arith, a.held, a.fit, a.inside)

from_least : (c : After-left_from-first) → c.left_from-first.result ≤ c.args.f.end
from_least c = omega (arith, c.left_from-first.ensures, left_le (ending_of c.args.c) (to_z w32 (of_z w32 c.args.b)) c.args.f.first c.args.f.end c.args.t.now c.requires.few)

-- the pairs of row r of the table t, as the definition has them, while the one before this loop was t₀
same : (n m e r : ℕ) (t t₀ : List ℤ) (c : Relation) (entry : ℕ) (a b : ℤ) → Kept n t t₀ → r < e → e ≤ n → eq_z (cell t₀ r 0) a ≡ true → pairs_of c entry b m e t r ≡ pairs_with c entry a b m e t₀ r
same n m e r t t₀ c entry a b kept l h of = pairs_same n t t₀ kept _ _ _ _ _ r (omega arith) h ∙ pairs_with_lem _ _ a _ _ _ t₀ r of

-- what was to be appended
whole : (c : After-left_from-first) → let g = c.args in each (pairs_with g.c (nat_abs g.f.entry) (to_z w32 (of_z w32 g.a)) (to_z w32 (of_z w32 g.b)) g.f.first g.f.end g.t.now) (span c.left_from-first.result g.f.end) ≡ pair_rows g.c (nat_abs g.f.entry) g.a g.b g.f.first g.f.end g.t.now
unfolding pair_rows
whole c =
    simp (same32 _ c.ranges.a, same32 _ c.ranges.b) (simp (simp (same32 _ c.ranges.b) at c.left_from-first.ensures))

-- a turn
turned : (c : Else-room-count) → let g = c.args in let rows = pairs_with g.c (nat_abs g.f.entry) (to_z w32 (of_z w32 g.a)) (to_z w32 (of_z w32 g.b)) g.f.first g.f.end g.t.now in Filling g.f.room g.f.since g.n (each rows (span c.left_from-first.result g.f.end)) g.t.now c.pairs_with-count.result (each rows (span (c.loop-r.r + 1) g.f.end)) c.pairs_with-count.new.t
turned c =
    let g = c.args in
    let v = c.loop-r.invariant in
    turn _ c.loop-r.r g.f.end v.1 c.loop-r-test.true (same g.n _ _ c.loop-r.r _ g.t.now _ _ _ _ v.1.kept c.loop-r-test.true c.requires.inside (v.0 c.loop-r-test.true)) c.pairs_with-count.ensures c.if-room-count.false

pub left_from-first-requires : goal.left_from-first-requires
left_from-first-requires c = let s = c.requires in (s.few, held (goal.at.left_from-first-requires c).Start, λ i j h k. s.ordered i j h (omega (arith, s.few)))

pub next_of-r-requires : goal.next_of-r-requires
next_of-r-requires c = (from_least (goal.at.next_of-r-requires c).After-left_from-first, held (goal.at.next_of-r-requires c).Start)

pub loop-r-init : goal.loop-r-init
loop-r-init c =
    let g = c.args in
    visit _ _ _ g.f.end (begin _ _ _ _ _ c.requires.fit) (pairs_none g.c _ _ _ _ _ g.t.now) (from_least (goal.at.loop-r-init c).After-left_from-first) c.requires.inside _ c.next_of-r.ensures

pub pairs_with-count-requires : goal.pairs_with-count-requires
pairs_with-count-requires c = (appendable c.requires c.loop-r.invariant.1, omega arith)

pub shape_of-t-then-room-count : goal.shape_of-t-then-room-count
shape_of-t-then-room-count c = c.pairs_with-count.auto.t ∙ c.loop-r.invariant.1.size

pub returns-then-room-count : goal.returns-then-room-count
returns-then-room-count c =
    let g = c.args in
    let v = c.loop-r.invariant in
    simp (whole (goal.at.returns-then-room-count c).After-left_from-first) at (stop _ c.loop-r.r g.f.end v.1 c.loop-r-test.true (same g.n _ _ c.loop-r.r _ g.t.now _ _ _ _ v.1.kept c.loop-r-test.true c.requires.inside (v.0 c.loop-r-test.true)) c.pairs_with-count.ensures c.if-room-count.true)

pub next_of-r-requires-in-loop-r : goal.next_of-r-requires-in-loop-r
next_of-r-requires-in-loop-r c =
    (omega arith, omega (arith, held (goal.at.next_of-r-requires-in-loop-r c).Start, (turned (goal.at.next_of-r-requires-in-loop-r c).Else-room-count).size))

pub loop-r-smaller : goal.loop-r-smaller
loop-r-smaller c =
    let g = c.args in
    omega (arith, c.next_of-r-in-loop-r.ensures, next_least (to_z w32 (of_z w32 g.a)) c.pairs_with-count.new.t (c.loop-r.r + 1) g.f.end)

pub loop-r-preserved : goal.loop-r-preserved
loop-r-preserved c =
    let g = c.args in
    visit _ _ (c.loop-r.r + 1) g.f.end (turned (goal.at.loop-r-preserved c).Else-room-count) (pairs_none g.c _ _ _ _ _ g.t.now) (omega arith) c.requires.inside _ c.next_of-r-in-loop-r.ensures

pub shape_of-t : goal.shape_of-t
shape_of-t c = c.loop-r.invariant.1.size

pub returns : goal.returns
returns c =
    simp (whole (goal.at.returns c).After-left_from-first) at (over _ c.loop-r.r c.args.f.end c.loop-r.invariant.1 (omega arith))
