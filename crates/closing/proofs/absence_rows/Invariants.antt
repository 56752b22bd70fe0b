use Prim.Native.Nat.{◌-◌, ◌≤◌}
use mathlib.Core.Path.{◌≡◌}
use lib.IntN.{nat_abs}
use Rattle.model.specs.Lists.{each}
use Rattle.closing.specs.Added.{span, is_forbidden, absence_row}
use Rattle.closing.proofs.Filling.{Filling}
use Rattle.closing.proofs.absence_rows.Given as goal

abbrev pub invariant-loop-row : goal.invariant-loop-row
invariant-loop-row l = (l.j ≤ l.top) × (is_forbidden l.edges l.b l.row.start l.row.end l.t l.j ≡ is_forbidden l.edges l.b l.row.start l.row.end l.t l.top)

abbrev pub decreases-loop-row : goal.decreases-loop-row
decreases-loop-row l = l.j

abbrev pub invariant-candidates : goal.invariant-candidates
invariant-candidates l =
    let rows = absence_row l.edges (nat_abs l.f.entry) l.f.instant l.a l.b l.top l.initial.t in
    Filling l.f.room l.f.since l.n (each rows (span l.f.first l.f.end)) l.initial.t l.count (each rows (span l.i l.f.end)) l.t

abbrev pub decreases-candidates : goal.decreases-candidates
decreases-candidates l = l.f.end - l.i
