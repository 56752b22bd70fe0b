use Rattle.table.proofs.Arities.{Filled}
use Rattle.table.proofs.arities_of.Given as goal

abbrev pub invariant-loop-n : goal.invariant-loop-n
invariant-loop-n l = Filled l.chart l.n l.arities
