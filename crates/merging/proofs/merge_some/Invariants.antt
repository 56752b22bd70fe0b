use Prim.Native.Nat.{◌+◌, ◌-◌}
use lib.ListN.{length}
use Rattle.merging.proofs.Turning.{Turning}
use Rattle.merging.proofs.merge_some.Given as goal

abbrev pub invariant-loop-out : goal.invariant-loop-out
invariant-loop-out l = Turning l.instant l.ended l.a l.b l.initial.out l.out l.turn

abbrev pub decreases-loop-out : goal.decreases-loop-out
decreases-loop-out l = (length l.a - l.turn.first) + (length l.b - l.turn.second)
