use Prim.Native.Nat.{◌-◌, ◌≤◌}
use mathlib.Core.Path.{◌≡◌}
use Rattle.closing.specs.Added.{latest_from, latest_start}
use Rattle.closing.proofs.latest_start.Given as goal

abbrev pub invariant-loop-j : goal.invariant-loop-j
invariant-loop-j l = (l.i ≤ l.j) × (l.j ≤ l.e) × (latest_from l.b l.t l.i l.latest (l.j - l.i) ≡ latest_start l.b l.x l.i l.e l.t)

abbrev pub decreases-loop-j : goal.decreases-loop-j
decreases-loop-j l = l.j
