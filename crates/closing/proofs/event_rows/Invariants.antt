use Prim.Native.Nat.{◌+◌, ◌-◌, ◌≤◌}
use lib.IntN.{nat_abs}
use lib.ListN.{get_or}
use Rattle.model.specs.Lists.{each}
use Rattle.closing.specs.Added.{span, event_row, event_rows}
use Rattle.closing.proofs.Filling.{Filling}
use Rattle.closing.proofs.event_rows.Given as goal

abbrev pub invariant-loop-j : goal.invariant-loop-j
invariant-loop-j l =
    (l.j ≤ l.p.count) ×
    Filling l.f.room l.f.since l.n (event_rows (nat_abs l.f.entry) l.f.instant l.k l.p l.codes) l.initial.t l.count (each (λ i. event_row (nat_abs l.f.entry) l.k l.f.instant (get_or l.codes i 0) (l.p.first + i)) (span l.j l.p.count)) l.t

abbrev pub decreases-loop-j : goal.decreases-loop-j
decreases-loop-j l = l.p.count - l.j
