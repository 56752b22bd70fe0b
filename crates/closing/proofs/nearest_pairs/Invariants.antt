use Prim.Native.Nat.{◌-◌}
use lib.IntN.{nat_abs}
use Rattle.model.specs.Lists.{each}
use Rattle.closing.specs.Added.{span, nearest_row}
use Rattle.closing.proofs.Filling.{Filling}
use Rattle.closing.proofs.nearest_pairs.Given as goal

abbrev pub invariant-loop-s : goal.invariant-loop-s
invariant-loop-s l =
    let rows = nearest_row (nat_abs l.f.entry) l.w l.limit l.initial.t in
    Filling l.f.room l.f.since l.n (each rows (span l.f.first l.f.end)) l.initial.t l.count (each rows (span l.s l.f.end)) l.t

abbrev pub decreases-loop-s : goal.decreases-loop-s
decreases-loop-s l = l.f.end - l.s
