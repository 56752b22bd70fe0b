use Prim.Native.Nat.{◌-◌, ◌≤◌}
use Rattle.closing.proofs.Searches.{Unwaited}
use Rattle.closing.proofs.next_waited.Given as goal

abbrev pub invariant-loop-j : goal.invariant-loop-j
invariant-loop-j l = (l.i ≤ l.j) × (l.j ≤ l.e) × Unwaited l.w.since l.w.operand l.t l.i l.j

abbrev pub decreases-loop-j : goal.decreases-loop-j
decreases-loop-j l = l.e - l.j
