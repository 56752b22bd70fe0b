use Prim.Native.Nat.{◌-◌}
use mathlib.Core.Path.{◌≡◌}
use Rattle.closing.specs.Added.{rival_end}
use Rattle.closing.proofs.rival_end.Given as goal

abbrev pub invariant-loop-j : goal.invariant-loop-j
invariant-loop-j l = rival_end l.a l.r l.x l.j l.e l.t ≡ rival_end l.a l.r l.x l.i l.e l.t

abbrev pub decreases-loop-j : goal.decreases-loop-j
decreases-loop-j l = l.e - l.j
