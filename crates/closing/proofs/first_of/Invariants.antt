use Prim.Native.Nat.{◌-◌}
use Rattle.closing.specs.Added.{Passed}
use Rattle.closing.proofs.first_of.Given as goal

abbrev pub invariant-loop-r : goal.invariant-loop-r
invariant-loop-r l = Passed l.a l.i l.n l.t l.r

abbrev pub decreases-loop-r : goal.decreases-loop-r
decreases-loop-r l = l.n - l.r
