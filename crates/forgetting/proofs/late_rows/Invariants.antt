use Rattle.forgetting.specs.Walk.{AllLate}
use Rattle.forgetting.proofs.late_rows.Given as goal

abbrev pub invariant-loop-i : goal.invariant-loop-i
invariant-loop-i l = AllLate l.floor l.i l.table
