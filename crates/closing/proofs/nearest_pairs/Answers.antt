-- `nearest_pairs` meets its contract: what the rows s left append is what all were to append.
use Prim.Native.Nat.{ℕ}
use native.Mathlib.Omega.{arith}
use mathlib.Core.Path.{◌≡◌, sym, ◌∙◌}
use mathlib.Core.Bool.{Bool, true, false}
use mathlib.Core.List.{List, []}
use lib.IntN.{ℤ, nat_abs}
use lib.Signed.{le_z}
use mir.Syntax.{w32}
use mir.Val.{SFits, to_z, of_z}
use Rattle.std.proofs.Common.{rules}
use Rattle.interval.proofs.Machine.{same32}
use Rattle.model.specs.Lists.{each}
use Rattle.model.specs.Order.{Row}
use Rattle.table.specs.Table.{cell}
use Rattle.closing.specs.Added.{span, pair_row, nearest_row, nearest_pairs}
use Rattle.closing.proofs.Filling.{begin, turn, stop, skip, over, appendable}
use Rattle.closing.proofs.Laws.{nearest_same, nearest_in, nearest_late, pair_other}
use Rattle.closing.proofs.nearest_pairs.Goals.{After-row_at-row, Start}
use Rattle.closing.proofs.nearest_pairs.Goals as goal

-- what row s, at which this turn looks, appends by the table as it was before the loop, and whether it starts at the limit or before
module _ (c : After-row_at-row) where
  abbrev limit : ℤ
  limit = to_z w32 (of_z w32 c.args.limit)

  abbrev t : List ℤ
  t = c.loop-s.t

  abbrev s : ℕ
  s = c.loop-s.s

  abbrev rows : ℕ → List Row
  rows = nearest_row (nat_abs c.args.f.entry) c.args.w limit c.args.t.now

  same : nearest_row (nat_abs c.args.f.entry) c.args.w limit t s ≡ rows s
  same = nearest_same c.args.n t c.args.t.now c.loop-s.invariant.kept (nat_abs c.args.f.entry) c.args.w limit s (omega (arith, c.loop-s-test.true, c.requires.0.inside))

  started : (b : Bool) → le_z (to_z w32 (of_z w32 c.row_at-row.result.start)) limit ≡ b → le_z (cell t s 3) limit ≡ b
  started b h =
      let f : SFits w32 c.row_at-row.result.start = search rules in
      simp c.row_at-row.ensures at (simp (same32 _ f) at h)

  late : le_z (to_z w32 (of_z w32 c.row_at-row.result.start)) limit ≡ false → rows s ≡ []
  late h = sym same ∙ nearest_late (nat_abs c.args.f.entry) c.args.w t s limit (started false h)

  paired : le_z (to_z w32 (of_z w32 c.row_at-row.result.start)) limit ≡ true → pair_row c.args.w.relation (nat_abs c.args.f.entry) c.args.w.operand c.args.w.left c.args.w.start c.args.w.end t s ≡ rows s
  paired h = nearest_in (nat_abs c.args.f.entry) c.args.w t s limit (started true h) ∙ same

-- what was to be appended
whole : (c : Start) → let g = c.args in each (nearest_row (nat_abs g.f.entry) g.w (to_z w32 (of_z w32 g.limit)) g.t.now) (span g.f.first g.f.end) ≡ nearest_pairs (nat_abs g.f.entry) g.w g.limit g.f.first g.f.end g.t.now
unfolding nearest_pairs
whole c = simp (same32 _ c.ranges.limit)

pub loop-s-init : goal.loop-s-init
loop-s-init c = begin _ _ _ _ _ c.requires.0.fit

pub row_at-row-requires : goal.row_at-row-requires
row_at-row-requires c = let a = c.requires.0 in omega (arith, c.loop-s-test.true, c.loop-s.invariant.size, a.held, a.inside, a.fit)

pub push_pair-count-requires : goal.push_pair-count-requires
push_pair-count-requires c =
    let a = c.requires.0 in
    let v = c.loop-s.invariant in
    (appendable a v, omega (arith, c.requires.1, v.least), omega (arith, c.loop-s-test.true, a.inside, v.least), sym (simp c.row_at-row.ensures at c.is_wanted.ensures) ∙ c.if-is_wanted.true)

pub shape_of-t-then-room-count : goal.shape_of-t-then-room-count
shape_of-t-then-room-count c = c.push_pair-count.auto.t ∙ c.loop-s.invariant.size

pub returns-then-room-count : goal.returns-then-room-count
returns-then-room-count c =
    let g = c.args in
    let pair = paired (goal.at.returns-then-room-count c).After-row_at-row c.if-row-limit.true in
    simp (whole (goal.at.returns-then-room-count c).Start) at (stop _ c.loop-s.s g.f.end c.loop-s.invariant c.loop-s-test.true pair c.push_pair-count.ensures c.if-room-count.true)

pub loop-s-preserved-else-room-count : goal.loop-s-preserved-else-room-count
loop-s-preserved-else-room-count c =
    let g = c.args in
    let pair = paired (goal.at.loop-s-preserved-else-room-count c).After-row_at-row c.if-row-limit.true in
    turn _ c.loop-s.s g.f.end c.loop-s.invariant c.loop-s-test.true pair c.push_pair-count.ensures c.if-room-count.false

pub loop-s-preserved-else-is_wanted : goal.loop-s-preserved-else-is_wanted
loop-s-preserved-else-is_wanted c =
    let g = c.args in
    let pair = paired (goal.at.loop-s-preserved-else-is_wanted c).After-row_at-row c.if-row-limit.true in
    skip _ c.loop-s.s g.f.end c.loop-s.invariant c.loop-s-test.true (sym pair ∙ pair_other (nat_abs g.f.entry) g.w c.loop-s.t c.loop-s.s (sym (simp c.row_at-row.ensures at c.is_wanted.ensures) ∙ c.if-is_wanted.false))

pub loop-s-preserved : goal.loop-s-preserved
loop-s-preserved c =
    skip _ c.loop-s.s c.args.f.end c.loop-s.invariant c.loop-s-test.true (late (goal.at.loop-s-preserved c).After-row_at-row c.if-row-limit.false)

pub shape_of-t : goal.shape_of-t
shape_of-t c = c.loop-s.invariant.size

pub returns : goal.returns
returns c =
    simp (whole (goal.at.returns c).Start) at (over _ c.loop-s.s c.args.f.end c.loop-s.invariant (omega arith))
