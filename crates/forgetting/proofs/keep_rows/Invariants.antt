use Rattle.forgetting.specs.Walk.{event_in}
use Rattle.forgetting.proofs.Walk.{Walked}
use Rattle.forgetting.proofs.keep_rows.Given as goal

abbrev pub invariant-loop-i : goal.invariant-loop-i
invariant-loop-i l = Walked (event_in l.arities) l.floor l.rows l.initial.table l.i l.kept l.table
