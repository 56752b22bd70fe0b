-- `feed` meets its contract: each turn plays one line, and what is left to read gives the whole answer.
use Rattle.std.proofs.Common.{◌≡◌, ◌+◌, ◌<◌, ◌≤◌, false, Some, None, length, drop, arith, sym, subst, ◌∙◌}
use Rattle.interval.proofs.Signed.{never}
use Rattle.text.specs.Text.{line_size}
use Rattle.text.proofs.Laws.{part_from}
use Rattle.program.specs.Runs.{is_refused}
use Rattle.program.proofs.Reaching.{reached_few}
use Rattle.program.proofs.Reading.{next_some, next_inside, next_short, read_next, lines_left, Settled, settled_as}
use Rattle.program.proofs.Run.feed.Goals.{In-Some, in-Some+then-is_refused, in_default}
use Rattle.program.proofs.Run.feed.Goals as goal

-- the line that is played
line : (c : In-Some) → line_size (drop c.loop-size.at c.args.s.now) ≡ Some c.in-Some.size
line c = sym (simp part_from at c.in-Some.ensures)

some : (c : In-Some) → 0 < c.in-Some.size
some c = next_some _ _ _ _ _ c.loop-size.invariant.1 (line c)

inside : (c : In-Some) → c.loop-size.at + c.in-Some.size ≤ length c.args.s.now
inside c = next_inside _ _ _ _ _ c.loop-size.invariant.1 (line c)

pub overflow_add-at : goal.overflow_add-at
overflow_add-at c = omega (arith, inside (goal.at.overflow_add-at c).In-Some, c.well_formed.1.1.0)

pub overflow_sub-at : goal.overflow_sub-at
overflow_sub-at c = omega (arith, some (goal.at.overflow_sub-at c).In-Some)

pub slice_bounds-play_line-count : goal.slice_bounds-play_line-count
slice_bounds-play_line-count c = omega (arith, some (goal.at.slice_bounds-play_line-count c).In-Some)

pub slice_bounds-play_line-start : goal.slice_bounds-play_line-start
slice_bounds-play_line-start c = omega (arith, some (goal.at.slice_bounds-play_line-start c).In-Some)

pub slice_bounds-play_line-end : goal.slice_bounds-play_line-end
slice_bounds-play_line-end c = omega (arith, inside (goal.at.slice_bounds-play_line-end c).In-Some)

pub play_line-requires : goal.play_line-requires
play_line-requires c =
    let d = (goal.at.play_line-requires c).In-Some in
    let h = c.loop-size.invariant.1 in
    (h.reached, lines_left _ _ _ 1 _ _ h (omega (arith, inside d)) c.requires.1, next_short _ _ _ _ _ h (line d))

pub loop-size-smaller : goal.loop-size-smaller
loop-size-smaller c = let d = (goal.at.loop-size-smaller c).In-Some in omega (arith, some d, inside d)

pub loop-size-preserved : goal.loop-size-preserved
loop-size-preserved c =
    (c.play_line.auto.table ∙ c.loop-size.invariant.0, read_next _ _ _ _ _ c.loop-size.invariant.1 (line (goal.at.loop-size-preserved c).In-Some) _ c.play_line.ensures)

pub settled-requires : goal.settled-requires
settled-requires c =
    let h = c.loop-size.invariant.1 in
    (h.inside, lines_left _ _ _ 1 _ _ h (omega (arith, h.inside)) c.requires.1, reached_few _ h.reached)

pub returns : goal.returns
returns c =
    let g = c.args in
    let y = subst (λ f. Settled (record { run = g.self; table = g.table.now }) c.loop-size.table f g.s.now) (sym c.settled.ensures) (settled_as _ _ _ _ c.loop-size.invariant.1 none) in
    (y.all, y.inside, y.kept)
  where
    none : is_refused c.loop-size.run.stage ≡ false → line_size (drop c.loop-size.at c.args.s.now) ≡ None
    none z = elim c.match-line_size.branch [
      | in-Some+then-is_refused w ↦ never (sym z ∙ sym w.is_refused.ensures ∙ w.if-is_refused.true)
      | in_default w ↦ sym (simp part_from at w.in_default.ensures)
    ]
