-- `merge_some` meets its contract: each turn takes one step, and what is left to do gives the whole answer.
use native.Mathlib.Omega.{arith}
use mathlib.Core.Path.{sym, ◌∙◌}
use mir.Syntax.{w64}
use mir.Val.{SFits}
use borrow.Author.Rules.{rules}
use Rattle.interval.proofs.Machine.{same64}
use Rattle.text.proofs.Laws.{part_from}
use Rattle.merging.specs.Turns.{call_text}
use Rattle.merging.proofs.Turning.{turning_start, turning_full, turning_stop, part_written, part_inside, turning_length, first_there, second_there, turning_next, turning_less}
use Rattle.merging.proofs.merge_some.Goals as goal

pub loop-out-init : goal.loop-out-init
loop-out-init c = simp (same64 _ c.ranges.instant) (turning_start _ _ _ _ _)

pub overflow_add-turn : goal.overflow_add-turn
overflow_add-turn c =
    let now : SFits w64 c.loop-out.turn.instant = search rules in
    let step = sym (simp (part_from, same64 _ now) at c.one_step.ensures) ∙ c.in-Ok.is in
    let inside = first_there _ _ _ _ _ _ _ c.loop-out.invariant c.loop-out-test.true _ step in
    record { fits = omega (arith, inside, c.well_formed.1.1.0) }

pub overflow_add-turn-in-Ok : goal.overflow_add-turn-in-Ok
overflow_add-turn-in-Ok c =
    let now : SFits w64 c.loop-out.turn.instant = search rules in
    let step = sym (simp (part_from, same64 _ now) at c.one_step.ensures) ∙ c.in-Ok.is in
    let inside = second_there _ _ _ _ _ _ _ c.loop-out.invariant c.loop-out-test.true _ step in
    record { fits = omega (arith, inside, c.well_formed.1.1.1.0) }

pub overflow_add-turn-in-Ok-2 : goal.overflow_add-turn-in-Ok-2
overflow_add-turn-in-Ok-2 c =
    let inside = part_inside c.loop-out.out c.loop-out.turn.written c.write_text.ensures.2 (omega (arith, c.loop-out-test.true)) in
    record { fits = omega (arith, inside, c.loop-out.invariant.room, turning_length _ _ _ _ _ _ _ c.loop-out.invariant) }

pub loop-out-smaller : goal.loop-out-smaller
loop-out-smaller c =
    let now : SFits w64 c.loop-out.turn.instant = search rules in
    let step = sym (simp (part_from, same64 _ now) at c.one_step.ensures) ∙ c.in-Ok.is in
    turning_less _ _ _ _ _ _ _ c.loop-out.invariant c.loop-out-test.true _ step

pub loop-out-preserved : goal.loop-out-preserved
loop-out-preserved c =
    let now : SFits w64 c.loop-out.turn.instant = search rules in
    let then : SFits w64 c.in-Ok.step.instant = search rules in
    let step = sym (simp (part_from, same64 _ now) at c.one_step.ensures) ∙ c.in-Ok.is in
    let wrote = c.write_text.ensures in
    let inside = part_inside c.loop-out.out c.loop-out.turn.written wrote.2 (omega (arith, c.loop-out-test.true)) in
    simp (same64 _ then)
    (turning_next _ _ _ _ _ _ _ c.loop-out.invariant c.loop-out-test.true _ step _ _ wrote.0 (omega (arith, inside, c.loop-out-test.true)) (part_written c.loop-out.out (call_text c.in-Ok.step.call) c.loop-out.turn.written (omega (arith, wrote.0, inside, c.loop-out-test.true)) wrote.1))

pub returns-in-Err : goal.returns-in-Err
returns-in-Err c =
    let now : SFits w64 c.loop-out.turn.instant = search rules in
    let step = sym (simp (part_from, same64 _ now) at c.one_step.ensures) ∙ c.in-Err.is in
    simp (same64 _ now) (simp (same64 _ c.ranges.instant) at (turning_stop _ _ _ _ _ _ _ c.loop-out.invariant c.loop-out-test.true _ step))

pub returns : goal.returns
returns c = simp (same64 _ c.ranges.instant) at (turning_full _ _ _ _ _ _ _ c.loop-out.invariant c.loop-out-test.false)
