use Prim.Native.Nat.{◌-◌}
use lib.IntN.{nat_abs}
use Rattle.model.specs.Lists.{each}
use Rattle.closing.specs.Added.{span, pair_row}
use Rattle.closing.proofs.Filling.{Filling}
use Rattle.closing.proofs.pairs_with.Given as goal

abbrev pub invariant-loop-s : goal.invariant-loop-s
invariant-loop-s l =
    let rows = pair_row l.w.relation (nat_abs l.f.entry) l.w.operand l.w.left l.w.start l.w.end l.initial.t in
    Filling l.f.room l.f.since l.n (each rows (span l.initial.s l.f.end)) l.initial.t l.count (each rows (span l.s l.f.end)) l.t

abbrev pub decreases-loop-s : goal.decreases-loop-s
decreases-loop-s l = l.f.end - l.s
