-- `absence_rows` meets its contract: what the candidates left append is what all were to append; inside, whether a row that is left
-- forbids the candidate is whether any does.
use Prim.Native.Nat.{ℕ, ◌*◌, ◌≤◌, ◌<◌}
use mathlib.Core.Path.{◌≡◌, refl, sym, ap, ◌∙◌}
use mathlib.Core.Bool.{Bool, true, false}
use mathlib.Core.List.{List, [], ◌∷◌}
use lib.IntN.{ℤ, nat_abs}
use lib.ListN.{length}
use native.Mathlib.Omega.{arith}
use mir.Syntax.{w32}
use mir.Val.{SFits, to_z, of_z}
use Rattle.std.proofs.Common.{rules}
use Rattle.interval.specs.Instants.{eq_z}
use Rattle.interval.specs.declared.Edges.{Edges}
use Rattle.interval.proofs.Machine.{same32}
use Rattle.model.specs.Lists.{each}
use Rattle.model.specs.Recognitions.{left}
use Rattle.table.specs.Table.{cell, stored_row}
use Rattle.table.specs.declared.Row as stored
use Rattle.closing.specs.Added.{span, part_row, is_within, is_forbidden, absence_row, absence_rows, top_of}
use Rattle.closing.proofs.Laws.{within_some, forbidden_one, forbidden_on, forbidden_end, absence_same, absence_other, absence_forbidden, absence_stands, top_le}
use Rattle.closing.proofs.Filling.{Kept, begin, turn, stop, skip, past, over, appendable}
use Rattle.closing.proofs.Searches.{Found, found}
use Rattle.closing.proofs.absence_rows.Goals.{After-first_of-i, After-is_within, After-top_of-top, Start}
use Rattle.closing.proofs.absence_rows.Goals as goal

-- the table is as long as its rows
held : (c : Start) → c.args.f.end * 5 ≤ length c.args.t.now
held c = let a = c.requires in omega (arith, a.held, a.fit, a.inside)

-- the first candidate
first : (c : After-first_of-i) → let g = c.args in Found (to_z w32 (of_z w32 g.a)) g.f.first g.f.end g.t.now c.first_of-i.result
first c =
    let g = c.args in
    found g.n g.t.now g.t.now (λ i k p q. refl) _ g.f.first g.f.end c.first_of-i.result c.requires.few c.requires.inside c.first_of-i.ensures

-- the place where each search begins
top_below : (c : After-top_of-top) → c.top_of-top.result ≤ c.args.f.end
top_below c = let g = c.args in omega (arith, c.top_of-top.ensures, top_le (to_z w32 (of_z w32 g.b)) g.t.now g.f.end)

-- row i of the table t, while the one before this closing was t₀
module _ (n : ℕ) (t t₀ : List ℤ) (kept : Kept n t t₀) (entry : ℕ) (o : ℤ) (e : Edges) (a b : ℤ) (top i : ℕ) (few : top ≤ n) (low : i < n) where
  same : absence_row e entry o a b top t i ≡ absence_row e entry o a b top t₀ i
  same = absence_same n t t₀ kept entry o e a b top i few low

  module _ (x : Bool) (of : x ≡ eq_z (cell t i 0) a) where
    other : x ≡ false → absence_row e entry o a b top t₀ i ≡ []
    other h = sym same ∙ absence_other e entry o a b top t i (sym of ∙ h)

    -- a candidate
    module _ (r : stored.Row) (is : r ≡ stored_row t i) (h : x ≡ true) where
      barred : is_forbidden e b r.start r.end t top ≡ true → absence_row e entry o a b top t₀ i ≡ []
      barred g = sym same ∙ absence_forbidden e entry o a b top t i _ _ (ap (λ q. q.start) is) (ap (λ q. q.end) is) (sym of ∙ h) g

      stands : is_forbidden e b r.start r.end t top ≡ false → part_row left entry o t i ∷ [] ≡ absence_row e entry o a b top t₀ i
      stands g = absence_stands e entry o a b top t i _ _ (ap (λ q. q.start) is) (ap (λ q. q.end) is) (sym of ∙ h) g ∙ same

-- the row before place j is within the candidate
within : (c : After-is_within) → c.is_within.result ≡ is_within c.row_at-row.result.start c.candidates.t c.loop-row.j
within c =
    let f : SFits w32 c.row_at-row.result.start = search rules in
    simp (same32 _ f) at c.is_within.ensures

-- what was to be appended
whole : (c : After-top_of-top) → let g = c.args in each (absence_row g.edges (nat_abs g.f.entry) g.f.instant (to_z w32 (of_z w32 g.a)) (to_z w32 (of_z w32 g.b)) c.top_of-top.result g.t.now) (span g.f.first g.f.end) ≡ absence_rows g.edges (nat_abs g.f.entry) g.f.instant g.a g.b g.f.first g.f.end g.t.now
unfolding absence_rows
whole c =
    simp (same32 _ c.ranges.a, same32 _ c.ranges.b) (simp (simp (same32 _ c.ranges.b) at c.top_of-top.ensures))

pub first_of-i-requires : goal.first_of-i-requires
first_of-i-requires c = (c.requires.few, held (goal.at.first_of-i-requires c).Start)

pub shape_of-t-then-end-i : goal.shape_of-t-then-end-i
shape_of-t-then-end-i c = refl

pub returns-then-end-i : goal.returns-then-end-i
unfolding absence_rows
returns-then-end-i c =
    let g = c.args in
    let f = first (goal.at.returns-then-end-i c).After-first_of-i in
    simp (same32 _ c.ranges.a) at (over _ c.first_of-i.result g.f.end (past _ _ _ (begin _ g.f.since _ _ g.t.now c.requires.fit) _ f.least f.most (λ j p q. absence_other g.edges (nat_abs g.f.entry) g.f.instant _ g.b (top_of g.b g.f.end g.t.now) g.t.now j (f.none j p q))) c.if-end-i.true)

pub top_of-top-requires : goal.top_of-top-requires
top_of-top-requires c = held (goal.at.top_of-top-requires c).Start

pub candidates-init : goal.candidates-init
candidates-init c =
    let g = c.args in
    let f = first (goal.at.candidates-init c).After-first_of-i in
    past _ _ _ (begin _ _ _ _ _ c.requires.fit) _ f.least f.most (λ j p q. absence_other g.edges (nat_abs g.f.entry) g.f.instant _ _ c.top_of-top.result g.t.now j (f.none j p q))

pub is_of-requires : goal.is_of-requires
is_of-requires c = omega (arith, held (goal.at.is_of-requires c).Start, c.candidates.invariant.size)

pub row_at-row-requires : goal.row_at-row-requires
row_at-row-requires c = omega (arith, held (goal.at.row_at-row-requires c).Start, c.candidates.invariant.size)

pub loop-row-init : goal.loop-row-init
loop-row-init c = (omega arith, refl)

pub is_within-requires : goal.is_within-requires
is_within-requires c =
    let d = goal.at.is_within-requires c in
    omega (arith, held d.Start, c.candidates.invariant.size, top_below d.After-top_of-top, c.loop-row.invariant.0)

pub overflow_sub-j : goal.overflow_sub-j
overflow_sub-j c =
    let g = c.args in
    omega (arith, within_some g.edges (to_z w32 (of_z w32 g.b)) c.row_at-row.result.start c.row_at-row.result.end c.candidates.t c.loop-row.j (sym (within (goal.at.overflow_sub-j c).After-is_within) ∙ c.loop-row-test.true))

pub is_forbidding_row-requires : goal.is_forbidding_row-requires
is_forbidding_row-requires c =
    let g = c.args in
    let d = goal.at.is_forbidding_row-requires c in
    let some = within_some g.edges (to_z w32 (of_z w32 g.b)) c.row_at-row.result.start c.row_at-row.result.end c.candidates.t c.loop-row.j (sym (within d.After-is_within) ∙ c.loop-row-test.true) in
    omega (arith, some, held d.Start, c.candidates.invariant.size, top_below d.After-top_of-top, c.loop-row.invariant.0)

pub candidates-smaller-then-is_forbidding_row : goal.candidates-smaller-then-is_forbidding_row
candidates-smaller-then-is_forbidding_row c = omega (arith, c.candidates-test.true)

-- a candidate that is forbidden
pub candidates-preserved-then-is_forbidding_row : goal.candidates-preserved-then-is_forbidding_row
candidates-preserved-then-is_forbidding_row c =
    let g = c.args in
    let d = goal.at.candidates-preserved-then-is_forbidding_row c in
    let v = c.candidates.invariant in
    let hit = forbidden_one g.edges (to_z w32 (of_z w32 g.b)) c.row_at-row.result.start c.row_at-row.result.end c.candidates.t c.loop-row.j (sym (within d.After-is_within) ∙ c.loop-row-test.true) (sym c.is_forbidding_row.ensures ∙ c.if-is_forbidding_row.true) in
    skip _ c.candidates.i g.f.end v c.candidates-test.true (barred g.n c.candidates.t g.t.now v.kept (nat_abs g.f.entry) g.f.instant g.edges (to_z w32 (of_z w32 g.a)) (to_z w32 (of_z w32 g.b)) c.top_of-top.result c.candidates.i (omega (arith, top_below d.After-top_of-top, c.requires.inside)) (omega (arith, c.candidates-test.true, c.requires.inside)) _ c.is_of.ensures _ c.row_at-row.ensures c.if-is_of.true (sym c.loop-row.invariant.1 ∙ hit))

pub loop-row-smaller : goal.loop-row-smaller
loop-row-smaller c =
    let g = c.args in
    omega (arith, within_some g.edges (to_z w32 (of_z w32 g.b)) c.row_at-row.result.start c.row_at-row.result.end c.candidates.t c.loop-row.j (sym (within (goal.at.loop-row-smaller c).After-is_within) ∙ c.loop-row-test.true))

pub loop-row-preserved : goal.loop-row-preserved
loop-row-preserved c =
    let g = c.args in
    let on = forbidden_on g.edges (to_z w32 (of_z w32 g.b)) c.row_at-row.result.start c.row_at-row.result.end c.candidates.t c.loop-row.j (sym (within (goal.at.loop-row-preserved c).After-is_within) ∙ c.loop-row-test.true) (sym c.is_forbidding_row.ensures ∙ c.if-is_forbidding_row.false) in
    (omega (arith, c.loop-row.invariant.0), sym on ∙ c.loop-row.invariant.1)

pub push_part-count-requires : goal.push_part-count-requires
push_part-count-requires c =
    let v = c.candidates.invariant in
    (appendable c.requires v, omega (arith, c.candidates-test.true, c.requires.inside, v.least))

pub shape_of-t-then-room-count : goal.shape_of-t-then-room-count
shape_of-t-then-room-count c = c.push_part-count.auto.t ∙ c.candidates.invariant.size

pub returns-then-room-count : goal.returns-then-room-count
returns-then-room-count c =
    let g = c.args in
    let d = goal.at.returns-then-room-count c in
    let v = c.candidates.invariant in
    let free = sym c.loop-row.invariant.1 ∙ forbidden_end g.edges (to_z w32 (of_z w32 g.b)) c.row_at-row.result.start c.row_at-row.result.end c.candidates.t c.loop-row.j (sym (within d.After-is_within) ∙ c.loop-row-test.false) in
    simp (whole d.After-top_of-top) at (stop _ c.candidates.i g.f.end v c.candidates-test.true (stands g.n c.candidates.t g.t.now v.kept (nat_abs g.f.entry) g.f.instant g.edges (to_z w32 (of_z w32 g.a)) (to_z w32 (of_z w32 g.b)) c.top_of-top.result c.candidates.i (omega (arith, top_below d.After-top_of-top, c.requires.inside)) (omega (arith, c.candidates-test.true, c.requires.inside)) _ c.is_of.ensures _ c.row_at-row.ensures c.if-is_of.true free) c.push_part-count.ensures c.if-room-count.true)

pub candidates-smaller-else-room-count : goal.candidates-smaller-else-room-count
candidates-smaller-else-room-count c = omega (arith, c.candidates-test.true)

-- a candidate that is appended
pub candidates-preserved-else-room-count : goal.candidates-preserved-else-room-count
candidates-preserved-else-room-count c =
    let g = c.args in
    let d = goal.at.candidates-preserved-else-room-count c in
    let v = c.candidates.invariant in
    let free = sym c.loop-row.invariant.1 ∙ forbidden_end g.edges (to_z w32 (of_z w32 g.b)) c.row_at-row.result.start c.row_at-row.result.end c.candidates.t c.loop-row.j (sym (within d.After-is_within) ∙ c.loop-row-test.false) in
    turn _ c.candidates.i g.f.end v c.candidates-test.true (stands g.n c.candidates.t g.t.now v.kept (nat_abs g.f.entry) g.f.instant g.edges (to_z w32 (of_z w32 g.a)) (to_z w32 (of_z w32 g.b)) c.top_of-top.result c.candidates.i (omega (arith, top_below d.After-top_of-top, c.requires.inside)) (omega (arith, c.candidates-test.true, c.requires.inside)) _ c.is_of.ensures _ c.row_at-row.ensures c.if-is_of.true free) c.push_part-count.ensures c.if-room-count.false

pub candidates-smaller : goal.candidates-smaller
candidates-smaller c = omega (arith, c.candidates-test.true)

-- a row that is no candidate
pub candidates-preserved : goal.candidates-preserved
candidates-preserved c =
    let g = c.args in
    let d = goal.at.candidates-preserved c in
    let v = c.candidates.invariant in
    skip _ c.candidates.i g.f.end v c.candidates-test.true (other g.n c.candidates.t g.t.now v.kept (nat_abs g.f.entry) g.f.instant g.edges (to_z w32 (of_z w32 g.a)) (to_z w32 (of_z w32 g.b)) c.top_of-top.result c.candidates.i (omega (arith, top_below d.After-top_of-top, c.requires.inside)) (omega (arith, c.candidates-test.true, c.requires.inside)) _ c.is_of.ensures c.if-is_of.false)

pub shape_of-t : goal.shape_of-t
shape_of-t c = c.candidates.invariant.size

pub returns : goal.returns
returns c =
    simp (whole (goal.at.returns c).After-top_of-top) at (over _ c.candidates.i c.args.f.end c.candidates.invariant (omega arith))
