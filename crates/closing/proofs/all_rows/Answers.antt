-- `all_rows` meets its contract: what the entries left append is what all were to append; the limit is the next due end of the entries so far.
use Prim.Native.Nat.{ℕ, ◌+◌, ◌*◌, ◌-◌, ◌≤◌, ◌<◌}
use native.Mathlib.Omega.{arith}
use mathlib.Core.Path.{◌≡◌, refl, sym, ap, ◌∙◌, subst}
use mathlib.Core.List.{List}
use lib.IntN.{ℤ, pos, ◌+ℤ◌}
use lib.ListN.{length, drop}
use mir.Syntax.{w32}
use mir.Val.{SFits, to_z, of_z}
use mir.ValLaws.{to_z_pos}
use Rattle.std.proofs.Common.{rules}
use Rattle.interval.proofs.Machine.{same32}
use Rattle.interval.proofs.Signed.{lt_true, is_lt, is_le, le_z→, add_fact}
use Rattle.chart.specs.Charts.{entry_at}
use Rattle.chart.proofs.Usable.{usable_few, usable_fits}
use Rattle.model.proofs.Capacity.{capacity_most, capacity_fits}
use Rattle.model.proofs.Due.{next_none, next_more}
use Rattle.model.specs.Capacity.{capacity}
use Rattle.model.specs.Order.{since_of}
use Rattle.model.specs.RowSteps.{close_rows, delayed_ends}
use Rattle.model.specs.Statements.{NextDue}
use Rattle.table.specs.Table.{rows_in}
use Rattle.table.specs.Operators.{operators_of, entry_operator}
use Rattle.ordering.specs.Ordered.{ordered}
use Rattle.ordering.proofs.Appended.{alike_behind}
use Rattle.ordering.proofs.Steps.{ordered_few}
use Rattle.closing.specs.Added.{FilledBy, counted, events_at, added_rows}
use Rattle.closing.proofs.Grown.{all_ordered}
use Rattle.closing.proofs.Growth.{grown_none, grown_settled}
use Rattle.closing.proofs.Entries.{closing_none, same_size, least, closing_ended, left_rows, left_first, left_last, Entered, entered}
use Rattle.closing.proofs.Waits.{entry_ends, ends_all, ends_more}
use Rattle.closing.proofs.all_rows.Goals.{After-entry_rows-made, In-loop-i, Start}
use Rattle.closing.proofs.all_rows.Goals as goal

-- the table is long enough
held : (c : Start) → c.args.jump.room * 5 ≤ length c.args.t.now
held c = let room : c.args.jump.room ≡ capacity (length c.args.t.now) = c.requires.3 in omega (arith, capacity_fits (length c.args.t.now))

-- an entry's number
number : (c : In-loop-i) → (c.loop-i.i < 32) × (to_z w32 c.loop-i.i ≡ pos c.loop-i.i)
number c =
    let few = usable_few c.args.chart c.requires.0 in
    let low : c.loop-i.i < 32 = omega arith in
    (low, to_z_pos w32 c.loop-i.i (omega arith))

whole : (c : Start) → let g = c.args in let o = g.jump.instant in left_rows g.chart g.since.now o (events_at o g.p g.codes.now) 0 g.rows g.t.now ≡ drop g.rows (close_rows o (events_at o g.p g.codes.now) (operators_of g.chart) g.since.now (rows_in g.rows g.t.now))
whole c = let g = c.args in left_first g.chart g.since.now g.jump.instant (events_at g.jump.instant g.p g.codes.now) g.rows g.t.now

-- what is known once the entry's rows were appended
module _ (d : After-entry_rows-made) where
  abbrev o : ℤ
  o = d.args.jump.instant

  abbrev i : ℕ
  i = d.loop-i.i

  below : i < d.args.chart.count
  below = omega arith

  room : d.args.jump.room * 5 ≤ length d.loop-i.t
  room =
      let room : d.args.jump.room ≡ capacity (length d.args.t.now) = d.requires.3 in
      omega (arith, capacity_fits (length d.args.t.now), same_size d.loop-i.invariant.3)

  -- the entry's number, the instant, and the one from which the entry counts, as they are read
  read : to_z w32 i ≡ pos i
  read = let few = usable_few d.args.chart d.requires.0 in to_z_pos w32 i (omega arith)

  instant : SFits w32 o
  instant = search rules

  counts : SFits w32 (since_of d.args.since.now i)
  counts = search rules

  told : let x = d.loop-i in let g = d.args in let op = entry_operator (entry_at g.chart i) in
      FilledBy g.jump.room x.n (counted (since_of g.since.now i) (added_rows op i o g.p g.codes.now g.rows x.n x.t)) x.t d.entry_rows-made.result.rows d.entry_rows-made.new.t
  told = simp (read, same32 _ instant, same32 _ counts) at d.entry_rows-made.ensures.0

  next_told : let x = d.loop-i in let g = d.args in NextDue (delayed_ends (since_of g.since.now i) (rows_in x.n x.t) (entry_operator (entry_at g.chart i))) (o +ℤ pos 1) (to_z w32 x.next-bits) d.entry_rows-made.result.next
  next_told = simp (same32 _ instant, same32 _ counts) at d.entry_rows-made.ensures.1

  known : let x = d.loop-i in let g = d.args in
      Entered g.chart g.since.now o g.p.first g.p.count g.codes.now d.requires.5 g.rows i x.n x.t x.invariant.2 below x.invariant.3 room told
  known = entered _ _ _ _ _ _ _ _ _ _ _ _ _ _ _ _

  -- a turn, once the entry's rows stand in order in the table v: the limit is the next due end of one entry more
  turned : (l : d.entry_rows-made.result.rows ≤ d.args.jump.room) (v : List ℤ) → v ≡ ordered d.loop-i.n (d.entry_rows-made.result.rows - d.loop-i.n) d.entry_rows-made.new.t → NextDue (entry_ends d.args.chart d.args.since.now (rows_in d.entry_rows-made.result.rows v) (i + 1)) (o +ℤ pos 1) d.args.jump.mark (to_z w32 (of_z w32 d.entry_rows-made.result.next))
  turned l v z =
      let g = d.args in
      let x = d.loop-i in
      let next : SFits w32 d.entry_rows-made.result.next = search rules in
      let m = known.more l v z in
      let due = next_more _ _ (o +ℤ pos 1) g.jump.mark (to_z w32 x.next-bits) d.entry_rows-made.result.next x.invariant.4 next_told in
      rw (same32 _ next, m.0, ends_more g.chart g.since.now d.requires.0 (rows_in x.n x.t) _ i below m.1) due

pub loop-i-init : goal.loop-i-init
loop-i-init c =
    let g = c.args in
    let o = g.jump.instant in
    let x = g.jump.mark in
    let f : SFits w32 x = search rules in (
      omega arith,
      refl,
      grown_none o g.rows g.t.now c.requires.1,
      closing_none _ _ _ _ c.requires.2,
      rw (same32 _ f) (next_none (o +ℤ pos 1) x (omega (arith, lt_true o x c.requires.6, add_fact o (pos 1)))),
    )

pub offset_bounds-chart-i : goal.offset_bounds-chart-i
offset_bounds-chart-i c = omega (arith, (number c).0)

pub bounds-chart-i : goal.bounds-chart-i
bounds-chart-i c = (number c).0

pub overflow_cast-f : goal.overflow_cast-f
overflow_cast-f c = record { sfits = omega (arith, (number (goal.at.overflow_cast-f c).In-loop-i).0) }

pub offset_bounds-since-i : goal.offset_bounds-since-i
offset_bounds-since-i c = omega (arith, (number (goal.at.offset_bounds-since-i c).In-loop-i).0)

pub bounds-since-i : goal.bounds-since-i
bounds-since-i c = (number (goal.at.bounds-since-i c).In-loop-i).0

pub entry_rows-made-requires : goal.entry_rows-made-requires
entry_rows-made-requires c =
    let g = c.args in
    let o = g.jump.instant in
    let x = c.loop-i in
    let f = x.invariant.3 in
    let n = number (goal.at.entry_rows-made-requires c).In-loop-i in
    let instant : SFits w32 o = search rules in
    let room : g.jump.room ≡ capacity (length g.t.now) = c.requires.3 in
    simp (n.1, same32 _ instant) (
      record {
        fit = f.most;
        most = omega (arith, capacity_most (length g.t.now));
        held = omega (arith, held (goal.at.entry_rows-made-requires c).Start, same_size f);
        above = is_le (pos 0) (pos x.i) (omega arith);
        low = n.0;
        few = least f;
        inside = omega arith;
        ordered = all_ordered x.invariant.2;
      },
      c.requires.4,
      usable_fits g.chart c.requires.0 x.i (omega arith),
      grown_settled o g.rows x.n x.t x.invariant.2,
      is_lt o (to_z w32 x.next-bits) (omega (arith, le_z→ (o +ℤ pos 1) (to_z w32 x.next-bits) x.invariant.4.from, add_fact o (pos 1))),
    )

pub shape_of-t-then-room-n : goal.shape_of-t-then-room-n
shape_of-t-then-room-n c = c.entry_rows-made.auto.t ∙ same_size c.loop-i.invariant.3

pub returns-then-room-n : goal.returns-then-room-n
returns-then-room-n c =
    let e = goal.at.returns-then-room-n c in
    (simp (whole e.Start) at ((known e.After-entry_rows-made).full c.if-room-n.true), λ h. absurd (omega (arith, c.if-room-n.true)))

pub later_start_first-requires : goal.later_start_first-requires
later_start_first-requires c =
    let f = c.if-room-n.false in
    let e = (goal.at.later_start_first-requires c).After-entry_rows-made in
    let size : length c.entry_rows-made.new.t ≡ length c.loop-i.t = c.entry_rows-made.auto.t in
    (omega (arith, room e), alike_behind ((known e).alike f) (omega (arith, (known e).grows f)))

pub loop-i-preserved-then-first-n : goal.loop-i-preserved-then-first-n
loop-i-preserved-then-first-n c =
    let f = c.if-room-n.false in
    let e = (goal.at.loop-i-preserved-then-first-n c).After-entry_rows-made in
    let w = (known e).next f c.later_start_first.new.t c.later_start_first.ensures in
    (omega (arith, below e), refl, w.1, w.0, turned e f c.later_start_first.new.t c.later_start_first.ensures)

-- nothing was appended, and nothing is in order
pub loop-i-preserved : goal.loop-i-preserved
loop-i-preserved c =
    let e = (goal.at.loop-i-preserved c).After-entry_rows-made in
    let f : c.entry_rows-made.result.rows ≤ c.args.jump.room = omega (arith, c.loop-i.invariant.3.most) in
    let z = sym (ordered_few c.loop-i.n (c.entry_rows-made.result.rows - c.loop-i.n) c.entry_rows-made.new.t (omega arith) (λ j p q. absurd (omega arith))) in
    let w = (known e).next f c.entry_rows-made.new.t z in
    (omega (arith, below e), refl, w.1, w.0, turned e f c.entry_rows-made.new.t z)

pub shape_of-t : goal.shape_of-t
shape_of-t c = same_size c.loop-i.invariant.3

pub returns : goal.returns
returns c =
    let g = c.args in
    let o = g.jump.instant in
    let x = c.loop-i in
    let z : x.i ≡ g.chart.count = omega (arith, x.invariant.0, x.invariant.1, c.loop-i-test.false) in (
      simp (whole (goal.at.returns c).Start) at (closing_ended x.invariant.3 (left_last g.chart g.since.now o (events_at o g.p g.codes.now) x.i x.n x.t (omega arith))),
      λ h. (grown_settled o g.rows x.n x.t x.invariant.2, subst (λ y. NextDue y (o +ℤ pos 1) g.jump.mark (to_z w32 x.next-bits)) (ap (entry_ends g.chart g.since.now (rows_in x.n x.t)) z ∙ ends_all g.chart g.since.now (rows_in x.n x.t)) x.invariant.4),
    )
