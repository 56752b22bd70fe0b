use Rattle.std.proofs.Common.{◌≡◌, drop}
use Rattle.model.specs.Consistency.{is_rising}
use Rattle.consistency.proofs.is_rising.Given as goal

-- what is left to look at decides as the whole does
abbrev pub invariant-loop-x : goal.invariant-loop-x
invariant-loop-x l = is_rising l.last l.end (drop l.x-index l.instants) ≡ is_rising l.first l.end l.instants
