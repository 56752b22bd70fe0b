-- `due_rows` meets its contract: what the instants left append is what all were to append; the next due one is later, and no later than the mark.
use Prim.Native.Nat.{ℕ, ◌+◌, ◌*◌, ◌-◌, ◌≤◌}
use native.Mathlib.Omega.{arith}
use native.Mathlib.Numerals.{add-one}
use mathlib.Core.Path.{◌≡◌, sym, ap, ◌∙◌, subst}
use mathlib.Core.List.{[]}
use lib.IntN.{ℤ, pos, ◌+ℤ◌}
use lib.ListN.{length, take, drop}
use mir.Syntax.{w32}
use mir.Val.{SFits, to_z, of_z}
use Rattle.std.proofs.Common.{rules}
use Rattle.interval.proofs.Machine.{same32}
use Rattle.interval.proofs.Signed.{◌≤ᶻ◌, ◌<ᶻ◌, lt_true, lt_false, is_lt, le_z→}
use Rattle.model.specs.RowSteps.{due_ends}
use Rattle.model.specs.Statements.{NextDue}
use Rattle.model.specs.Capacity.{capacity}
use Rattle.model.proofs.Capacity.{capacity_fits}
use Rattle.table.specs.Table.{rows_in}
use Rattle.table.specs.Operators.{operators_of}
use Rattle.closing.specs.Added.{Settled, Tried}
use Rattle.closing.specs.Closed.{closed_rows}
use Rattle.closing.proofs.Growth.{settled_later}
use Rattle.closing.proofs.Entries.{closing_none, same_size, closing_ended}
use Rattle.closing.proofs.Instants.{instants_first, instants_ended, instants_fewer, turn_full, turn_next}
use Rattle.closing.proofs.due_rows.Goals.{After-all_rows-closed, At-loop-instant, Start}
use Rattle.closing.proofs.due_rows.Invariants.{left}
use Rattle.closing.proofs.due_rows.Goals as goal

-- what was to be appended
whole : (c : Start) → let g = c.args in let w = g.state in
    left g.chart g.since (to_z w32 (of_z w32 w.instant)) (to_z w32 (of_z w32 g.mark)) (w.events - w.pending + 1) w.pending g.codes w.rows g.t.now ≡ drop w.rows (closed_rows g.chart w g.mark g.t.now)
whole c =
    let g = c.args in
    let opened : SFits w32 g.state.instant = search rules in
    simp (same32 _ opened, same32 _ c.ranges.mark, add-one, c.requires.1, c.requires.2) (instants_first g.chart g.state g.mark g.t.now)

-- the table as the loop has it
size : (c : At-loop-instant) → length c.loop-instant.t ≡ length c.args.t.now
size c = same_size c.loop-instant.invariant.3

-- the rows of the instant were appended, or found no room
module _ (d : After-all_rows-closed) where
  -- the instant and the mark, as the loop has them, and the next due instant
  abbrev instant : ℤ
  instant = to_z w32 d.loop-instant.instant-bits

  abbrev mark : ℤ
  mark = to_z w32 (of_z w32 d.args.mark)

  abbrev first : ℕ
  first = d.args.state.events - d.args.state.pending + 1

  abbrev next : ℤ
  next = d.all_rows-closed.result.next

  held : d.args.room * 5 ≤ length d.loop-instant.t
  held = let r : d.args.room ≡ capacity (length d.args.t.now) = d.requires.3 in omega (arith, same_size d.loop-instant.invariant.3, capacity_fits (length d.args.t.now))

  -- the instant is before the mark
  early : instant <ᶻ mark
  early = lt_true instant mark d.loop-instant-test.true

  fit : SFits w32 next
  fit = search rules

  module _ (h : d.all_rows-closed.result.rows ≤ d.args.room) where
    settled : Settled (instant +ℤ pos 1) d.all_rows-closed.result.rows d.all_rows-closed.new.t
    settled = (d.all_rows-closed.ensures.1 h).0

    due : NextDue (due_ends [] (operators_of d.args.chart) d.args.since (rows_in d.all_rows-closed.result.rows d.all_rows-closed.new.t)) (instant +ℤ pos 1) mark next
    due = (d.all_rows-closed.ensures.1 h).1

    from : (instant +ℤ pos 1) ≤ᶻ next
    from = le_z→ (instant +ℤ pos 1) next due.from

    most : next ≤ᶻ mark
    most = le_z→ next mark due.most

pub overflow_sub-first : goal.overflow_sub-first
overflow_sub-first c = omega (arith, c.requires.0.counted)

pub overflow_add-first : goal.overflow_add-first
overflow_add-first c = omega (arith, c.requires.0.most)

pub loop-instant-init : goal.loop-instant-init
loop-instant-init c =
    let g = c.args in
    let p = c.requires.0 in
    let o = g.state.instant in
    let opened : SFits w32 o = search rules in
    let settled : Settled o g.state.rows g.t.now = record { above = p.ready.entry_above; proper = p.ready.proper; ordered = p.ready.ordered; ended = p.ended } in
    let early : o <ᶻ g.mark = lt_true o g.mark p.later in
    simp (same32 _ opened, same32 _ c.ranges.mark) (omega arith, omega arith, settled, closing_none _ _ _ _ (rw c.requires.3 p.ready.fit))

pub all_rows-closed-requires : goal.all_rows-closed-requires
all_rows-closed-requires c =
    let l = (goal.at.all_rows-closed-requires c).At-loop-instant in
    let p = c.requires.0 in
    let i = c.loop-instant.invariant in
    let instant = to_z w32 c.loop-instant.instant-bits in
    let mark = to_z w32 (of_z w32 c.args.mark) in (
      p.ready.usable,
      i.2,
      i.3.most,
      c.requires.3 ∙ ap capacity (sym (size l)),
      record { few = omega (arith, p.few); most = omega (arith, p.counted, p.most) },
      omega (arith, p.few),
      is_lt instant mark (lt_true instant mark c.loop-instant-test.true),
    )

pub shape_of-t-then-room-n : goal.shape_of-t-then-room-n
shape_of-t-then-room-n c = c.all_rows-closed.auto.t ∙ same_size c.loop-instant.invariant.3

pub returns-then-room-n : goal.returns-then-room-n
returns-then-room-n c =
    let g = c.args in
    let x = c.loop-instant in
    let d = (goal.at.returns-then-room-n c).After-all_rows-closed in
    subst (λ z. Tried g.room g.state.rows z g.t.now c.all_rows-closed.result.rows c.all_rows-closed.new.t) (whole (goal.at.returns-then-room-n c).Start) (turn_full g.chart g.since (instant d) (mark d) (early d) (first d) (take x.pending g.codes) x.n x.t x.invariant.3 (held d) c.all_rows-closed.ensures.0 c.if-room-n.true)

pub loop-instant-smaller : goal.loop-instant-smaller
loop-instant-smaller c =
    let d = (goal.at.loop-instant-smaller c).After-all_rows-closed in
    let h = c.if-room-n.false in
    rw (same32 _ (fit d)) (instants_fewer (instant d) (next d) (mark d) (from d h) (most d h))

pub loop-instant-preserved : goal.loop-instant-preserved
loop-instant-preserved c =
    let g = c.args in
    let x = c.loop-instant in
    let d = (goal.at.loop-instant-preserved c).After-all_rows-closed in
    let h = c.if-room-n.false in
    rw (same32 _ (fit d)) (
      most d h,
      omega arith,
      settled_later (instant d +ℤ pos 1) (next d) c.all_rows-closed.result.rows c.all_rows-closed.new.t (settled d h) (from d h),
      turn_next g.chart g.since (instant d) (mark d) (early d) (first d) (take x.pending g.codes) x.n x.t x.invariant.3 (held d) c.all_rows-closed.ensures.0 h (settled d h) (next d) (due d h),
    )

pub shape_of-t : goal.shape_of-t
shape_of-t c = same_size c.loop-instant.invariant.3

pub returns : goal.returns
returns c =
    let g = c.args in
    let x = c.loop-instant in
    let instant = to_z w32 x.instant-bits in
    let mark = to_z w32 (of_z w32 g.mark) in
    let late = lt_false instant mark c.loop-instant-test.false in
    subst (λ z. Tried g.room g.state.rows z g.t.now x.n x.t) (whole (goal.at.returns c).Start) (closing_ended x.invariant.3 (instants_ended g.chart g.since instant mark _ x.n x.t x.invariant.0 late))
