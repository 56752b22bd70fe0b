use Prim.Native.Nat.{◌-◌}
use lib.IntN.{nat_abs}
use Rattle.model.specs.Lists.{each}
use Rattle.closing.specs.Added.{span, near_from, nearest_with}
use Rattle.closing.proofs.Visits.{Visiting}
use Rattle.closing.proofs.nearest_rows.Given as goal

abbrev pub invariant-loop-r : goal.invariant-loop-r
invariant-loop-r l =
    let rows = nearest_with l.k (nat_abs l.f.entry) l.f.instant l.f.first l.f.end l.initial.t in
    Visiting l.k.a l.f.room l.f.since l.n (each rows (span (near_from l.k.b l.f.first l.initial.t) l.k.to)) l.initial.t rows l.k.to l.count l.t l.r

abbrev pub decreases-loop-r : goal.decreases-loop-r
decreases-loop-r l = l.k.to - l.r
