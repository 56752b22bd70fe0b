-- `open_line` meets its contract: the opening that the line asks for, at its number narrowed.
use Rattle.std.proofs.Common.{ap, ◌∙◌, arith, w32, w64}
use mir.Val.{SFits}
use Rattle.interval.proofs.Machine.{same32, same64}
use Rattle.watch.specs.Steps.{opening_step}
use Rattle.program.specs.Runs.{open_step}
use Rattle.program.proofs.Lines.{step_is, narrowed_open}
use Rattle.program.proofs.open_line.Goals as goal

pub returns-in-Some-Open : goal.returns-in-Some-Open
unfolding open_step
returns-in-Some-Open c =
    let g = c.args in
    let o : SFits w64 c.in-Some-Open.o = record { sfits = omega arith } in
    let n : SFits w32 c.narrowed.result = record { sfits = c.narrowed.type_inv } in
    let is = ap (opening_step g.chart g.table.now) (same32 _ n ∙ simp (same64 _ o) at c.narrowed.ensures) ∙ narrowed_open g.chart g.table.now c.in-Some-Open.o in
    rw (← c.in-Some-Open.ensures.0, c.in-Some-Open.field-0-is) (step_is _ _ _ _ c.opening.ensures is)
