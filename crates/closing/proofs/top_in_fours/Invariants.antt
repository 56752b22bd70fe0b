use Rattle.closing.specs.Added.{SameTop}
use Rattle.closing.proofs.top_in_fours.Given as goal

abbrev pub invariant-loop-j : goal.invariant-loop-j
invariant-loop-j l = SameTop l.b l.n l.t l.j

abbrev pub decreases-loop-j : goal.decreases-loop-j
decreases-loop-j l = l.j
