use Prim.Native.Nat.{◌-◌}
use lib.IntN.{nat_abs}
use Rattle.model.specs.Lists.{each}
use Rattle.closing.specs.Added.{span, arm_of, taken_row}
use Rattle.closing.proofs.Filling.{Filling}
use Rattle.closing.proofs.taken_rows.Given as goal

abbrev pub invariant-loop-i : goal.invariant-loop-i
invariant-loop-i l =
    let rows = taken_row (arm_of l.second) (nat_abs l.f.entry) l.f.instant l.a l.taken l.initial.t in
    Filling l.f.room l.f.since l.n (each rows (span l.f.first l.f.end)) l.initial.t l.count (each rows (span l.i l.f.end)) l.t

abbrev pub decreases-loop-i : goal.decreases-loop-i
decreases-loop-i l = l.f.end - l.i
