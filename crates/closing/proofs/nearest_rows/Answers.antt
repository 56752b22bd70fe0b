-- `nearest_rows` meets its contract: what the rows r left append is what all were to append.
use Prim.Native.Nat.{ℕ, ◌+◌, ◌*◌, ◌≤◌, ◌<◌}
use native.Mathlib.Omega.{arith}
use mathlib.Core.Path.{◌≡◌, refl, ap, ◌∙◌}
use mathlib.Core.Bool.{true}
use mathlib.Core.List.{List}
use lib.IntN.{ℤ, nat_abs}
use lib.ListN.{length}
use mir.Syntax.{w32}
use mir.Val.{to_z, of_z}
use Rattle.interval.specs.Instants.{eq_z}
use Rattle.interval.proofs.Machine.{same32}
use Rattle.model.specs.Lists.{each}
use Rattle.table.specs.Table.{cell}
use Rattle.closing.specs.declared.Sought.{Sought}
use Rattle.closing.specs.Added.{span, next_row, near_from, sought_by, nearest_of, nearest_with, nearest_rows}
use Rattle.closing.proofs.Filling.{Kept, Filling, nothing, begin, turn, stop, over, appendable}
use Rattle.closing.proofs.Searches.{next_least}
use Rattle.closing.proofs.Visits.{visit}
use Rattle.closing.proofs.Laws.{nearest_of_same, nearest_with_lem, nearest_none, near_le, nearest_new, nearest_old}
use Rattle.closing.proofs.nearest_rows.Goals.{After-between-rows, Else-room-count, Start}
use Rattle.closing.proofs.nearest_rows.Goals as goal

-- the table is as long as its rows
held : (c : Start) → c.args.f.end * 5 ≤ length c.args.t.now
held c = let a = c.requires.0 in omega (arith, a.held, a.fit, a.inside)

-- where the search for r ends
low : (c : After-between-rows) → c.between-rows.result.to ≤ c.args.f.end
low c = let g = c.args in omega (arith, c.between-rows.ensures.1, near_le (to_z w32 (of_z w32 g.b)) g.f.first g.f.end g.t.now, c.requires.0.few)

-- what was to be appended
whole : (c : After-between-rows) → let g = c.args in let a = to_z w32 (of_z w32 g.a) in let b = to_z w32 (of_z w32 g.b) in let to = c.between-rows.result.to in each (nearest_with (sought_by g.c a b to) (nat_abs g.f.entry) g.f.instant g.f.first g.f.end g.t.now) (span (near_from b g.f.first g.t.now) to) ≡ nearest_rows g.c (nat_abs g.f.entry) g.f.instant g.a g.b g.f.first g.f.end g.t.now
whole c =
    let g = c.args in
    let e = simp (same32 _ c.ranges.b) at c.between-rows.ensures.1 in
    let h = simp (same32 _ c.ranges.b) at c.first_of-s.ensures in
    simp (same32 _ c.ranges.a, same32 _ c.ranges.b) (simp e (nearest_new g.c (nat_abs g.f.entry) g.f.instant g.a g.b g.f.first g.f.end g.t.now (omega (arith, c.if-end-s.false, h))))

-- the pairs of row r of the table t, as the definition has them, while the one before this loop was t₀
same : (n m e r : ℕ) (t t₀ : List ℤ) (k : Sought) (entry : ℕ) (o : ℤ) → Kept n t t₀ → r < k.to → k.to ≤ n → e ≤ n → eq_z (cell t₀ r 0) k.a ≡ true → nearest_of k entry o m e t r ≡ nearest_with k entry o m e t₀ r
same n m e r t t₀ k entry o kept l h w of = nearest_of_same n t t₀ kept entry k o m e r (omega arith) h w ∙ nearest_with_lem k entry o m e t₀ r of

-- a turn
turned : (c : Else-room-count) → let g = c.args in let a = to_z w32 (of_z w32 g.a) in let b = to_z w32 (of_z w32 g.b) in let to = c.between-rows.result.to in let rows = nearest_with (sought_by g.c a b to) (nat_abs g.f.entry) g.f.instant g.f.first g.f.end g.t.now in Filling g.f.room g.f.since g.n (each rows (span (near_from b g.f.first g.t.now) to)) g.t.now c.nearest_with-count.result (each rows (span (c.loop-r.r + 1) to)) c.nearest_with-count.new.t
turned c =
    let g = c.args in
    let v = c.loop-r.invariant in
    let low : c.between-rows.result.to ≤ g.n = omega (arith, c.between-rows.ensures.1, near_le (to_z w32 (of_z w32 g.b)) g.f.first g.f.end g.t.now, c.requires.0.few, c.requires.0.inside) in
    turn _ c.loop-r.r c.between-rows.result.to v.1 c.loop-r-test.true (same g.n _ _ c.loop-r.r _ g.t.now _ _ _ v.1.kept c.loop-r-test.true low c.requires.0.inside (v.0 c.loop-r-test.true)) c.nearest_with-count.ensures c.if-room-count.false

pub first_of-s-requires : goal.first_of-s-requires
first_of-s-requires c = (c.requires.0.few, held (goal.at.first_of-s-requires c).Start)

pub shape_of-t-then-end-s : goal.shape_of-t-then-end-s
shape_of-t-then-end-s c = refl

pub returns-then-end-s : goal.returns-then-end-s
returns-then-end-s c =
    let g = c.args in
    nothing _ g.f.since _ _ g.t.now (nearest_old g.c _ _ g.a g.b _ _ g.t.now (omega (arith, c.if-end-s.true, simp (same32 _ c.ranges.b) at c.first_of-s.ensures)))

pub between-rows-requires : goal.between-rows-requires
between-rows-requires c =
    (c.first_of-s.ensures, omega arith, c.requires.0.few, held (goal.at.between-rows-requires c).Start, c.requires.0.ordered, c.requires.1)

pub shape_of-t-then-to-rows : goal.shape_of-t-then-to-rows
shape_of-t-then-to-rows c = refl

pub returns-then-to-rows : goal.returns-then-to-rows
returns-then-to-rows c =
    let g = c.args in
    simp (whole (goal.at.returns-then-to-rows c).After-between-rows) at (over (nearest_with (sought_by g.c (to_z w32 (of_z w32 g.a)) (to_z w32 (of_z w32 g.b)) c.between-rows.result.to) (nat_abs g.f.entry) g.f.instant g.f.first g.f.end g.t.now) (near_from (to_z w32 (of_z w32 g.b)) g.f.first g.t.now) c.between-rows.result.to (begin _ g.f.since _ _ g.t.now c.requires.0.fit) (omega (arith, c.if-to-rows.true, c.between-rows.ensures.0)))

pub first_of-r-requires : goal.first_of-r-requires
first_of-r-requires c = (omega (arith, c.if-to-rows.false), omega (arith, low (goal.at.first_of-r-requires c).After-between-rows, held (goal.at.first_of-r-requires c).Start))

-- the loop comes to the next row of a
pub loop-r-init : goal.loop-r-init
loop-r-init c =
    let g = c.args in
    let a = to_z w32 (of_z w32 g.a) in
    let to = c.between-rows.result.to in
    visit a _ _ to (begin _ g.f.since _ _ g.t.now c.requires.0.fit) (nearest_none (sought_by g.c a (to_z w32 (of_z w32 g.b)) to) (nat_abs g.f.entry) g.f.instant g.f.first g.f.end g.t.now) (omega (arith, c.if-to-rows.false, c.between-rows.ensures.0)) (omega (arith, low (goal.at.loop-r-init c).After-between-rows, c.requires.0.inside)) c.first_of-r.result (c.first_of-r.ensures ∙ ap (λ i. next_row a i to g.t.now) c.between-rows.ensures.0)

pub nearest_with-count-requires : goal.nearest_with-count-requires
nearest_with-count-requires c =
    let l = low (goal.at.nearest_with-count-requires c).After-between-rows in
    (appendable c.requires.0 c.loop-r.invariant.1, omega (arith, l, c.loop-r-test.true), l)

pub shape_of-t-then-room-count : goal.shape_of-t-then-room-count
shape_of-t-then-room-count c = c.nearest_with-count.auto.t ∙ c.loop-r.invariant.1.size

pub returns-then-room-count : goal.returns-then-room-count
returns-then-room-count c =
    let g = c.args in
    let v = c.loop-r.invariant in
    let low : c.between-rows.result.to ≤ g.n = omega (arith, low (goal.at.returns-then-room-count c).After-between-rows, c.requires.0.inside) in
    simp (whole (goal.at.returns-then-room-count c).After-between-rows) at (stop _ c.loop-r.r c.between-rows.result.to v.1 c.loop-r-test.true (same g.n _ _ c.loop-r.r _ g.t.now _ _ _ v.1.kept c.loop-r-test.true low c.requires.0.inside (v.0 c.loop-r-test.true)) c.nearest_with-count.ensures c.if-room-count.true)

pub first_of-r-requires-in-loop-r : goal.first_of-r-requires-in-loop-r
first_of-r-requires-in-loop-r c =
    let e = goal.at.first_of-r-requires-in-loop-r c in
    (omega (arith, c.loop-r-test.true), omega (arith, low e.After-between-rows, held e.Start, (turned e.Else-room-count).size))

pub loop-r-smaller : goal.loop-r-smaller
loop-r-smaller c =
    omega (arith, c.loop-r-test.true, c.first_of-r-in-loop-r.ensures, next_least (to_z w32 (of_z w32 c.args.a)) c.nearest_with-count.new.t (c.loop-r.r + 1) c.between-rows.result.to)

pub loop-r-preserved : goal.loop-r-preserved
loop-r-preserved c =
    let g = c.args in
    let e = goal.at.loop-r-preserved c in
    let a = to_z w32 (of_z w32 g.a) in
    let to = c.between-rows.result.to in
    visit a _ (c.loop-r.r + 1) to (turned e.Else-room-count) (nearest_none (sought_by g.c a (to_z w32 (of_z w32 g.b)) to) (nat_abs g.f.entry) g.f.instant g.f.first g.f.end g.t.now) (omega (arith, c.loop-r-test.true)) (omega (arith, low e.After-between-rows, c.requires.0.inside)) c.first_of-r-in-loop-r.result c.first_of-r-in-loop-r.ensures

pub shape_of-t : goal.shape_of-t
shape_of-t c = c.loop-r.invariant.1.size

pub returns : goal.returns
returns c =
    simp (whole (goal.at.returns c).After-between-rows) at (over _ c.loop-r.r c.between-rows.result.to c.loop-r.invariant.1 c.loop-r-test.false)
