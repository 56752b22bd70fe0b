use Prim.Native.Nat.{◌-◌}
use lib.IntN.{nat_abs}
use Rattle.model.specs.Lists.{each}
use Rattle.closing.specs.Added.{span, pairs_with}
use Rattle.closing.proofs.Visits.{Visiting}
use Rattle.closing.proofs.pair_rows.Given as goal

abbrev pub invariant-loop-r : goal.invariant-loop-r
invariant-loop-r l =
    let rows = pairs_with l.c (nat_abs l.f.entry) l.a l.b l.f.first l.f.end l.initial.t in
    Visiting l.a l.f.room l.f.since l.n (each rows (span l.first l.f.end)) l.initial.t rows l.f.end l.count l.t l.r

abbrev pub decreases-loop-r : goal.decreases-loop-r
decreases-loop-r l = l.f.end - l.r
