-- `opening_line` meets its contract: the watch that the line opens is taken over.
use Rattle.std.proofs.Common.{◌≡◌, ap, subst, ◌∙◌, Ok, Err, pos}
use Rattle.state.specs.State.{empty_state}
use Rattle.log_line.specs.Log.{call_of}
use Rattle.watch.specs.Answers.{answer_of}
use Rattle.program.specs.Runs.{open_step}
use Rattle.program.proofs.Lines.{answered_by, opened_by, first_line}
use Rattle.program.proofs.Run.opening_line.Goals as goal

pub returns-in-Ok : goal.returns-in-Ok
returns-in-Ok c =
    let u = c.open_line.new.table in
    let opened = subst (λ o. record { answer = answer_of (empty_state (pos 0)) o; table = u } ≡ open_step c.args.self.now.chart c.args.table.now (call_of c.args.s.now)) c.in-Ok.is c.open_line.ensures in
    ap (λ x. record { run = x; table = u }) (c.step.ensures ∙ opened_by c.args.self.now c.in-Ok.watch) ∙ first_line _ _ _ _ (Ok c.in-Ok.watch) c.requires.0 c.requires.2 opened

pub returns-in-Err : goal.returns-in-Err
returns-in-Err c =
    let u = c.open_line.new.table in
    let refused = subst (λ o. record { answer = answer_of (empty_state (pos 0)) o; table = u } ≡ open_step c.args.self.now.chart c.args.table.now (call_of c.args.s.now)) c.in-Err.is c.open_line.ensures in
    ap (λ x. record { run = x; table = u }) (c.step-in-Err.ensures ∙ answered_by _ _ (Err c.in-Err.refusal)) ∙ first_line _ _ _ _ (Err c.in-Err.refusal) c.requires.0 c.requires.2 refused
