use Prim.Native.Nat.{◌-◌, ◌≤◌}
use mathlib.Core.Path.{◌≡◌}
use Rattle.closing.specs.Added.{least_from, least_start}
use Rattle.closing.proofs.least_start.Given as goal

abbrev pub invariant-loop-i : goal.invariant-loop-i
invariant-loop-i l = (l.s ≤ l.i) × (l.i ≤ l.n) × (least_from l.b l.t l.least l.i (l.n - l.i) ≡ least_start l.b l.s l.n l.t)

abbrev pub decreases-loop-i : goal.decreases-loop-i
decreases-loop-i l = l.n - l.i
