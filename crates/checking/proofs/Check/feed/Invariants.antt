use lib.ListN.{length}
use Rattle.checking.proofs.Checking.{Feeding}
use Rattle.checking.proofs.Check.feed.Given as goal

abbrev pub invariant-loop-size : goal.invariant-loop-size
invariant-loop-size l = Feeding l.fn.self l.s l.check l.rest

abbrev pub decreases-loop-size : goal.decreases-loop-size
decreases-loop-size l = length l.rest
