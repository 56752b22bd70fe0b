use Rattle.std.proofs.Common.{◌≡◌, ◌-◌, length}
use Rattle.program.specs.Runs.{Read}
use Rattle.program.proofs.Run.feed.Given as goal

abbrev pub invariant-loop-size : goal.invariant-loop-size
invariant-loop-size l = (length l.table ≡ length l.initial.table) × Read (record { run = l.initial.run; table = l.initial.table }) (record { run = l.run; table = l.table }) l.at l.s

abbrev pub decreases-loop-size : goal.decreases-loop-size
decreases-loop-size l = length l.s - l.at
