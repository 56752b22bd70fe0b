use Prim.Native.Nat.{ℕ, ◌≤◌}
use mathlib.Core.List.{List}
use lib.IntN.{ℤ}
use Rattle.interval.proofs.Signed.{◌≤ᶻ◌}
use Rattle.chart.specs.declared.Chart.{Chart}
use Rattle.model.specs.Order.{Row}
use Rattle.model.specs.RowSteps.{instants_to}
use Rattle.closing.specs.Added.{Settled, pending_from, events_at}
use Rattle.closing.proofs.Entries.{Closing}
use Rattle.closing.proofs.Instants.{left_instants}
use Rattle.closing.proofs.due_rows.Given as goal

-- what is left to append from the instant o on, to which k events belong
abbrev pub left : Chart → List ℤ → ℤ → ℤ → ℕ → ℕ → List ℕ → ℕ → List ℤ → List Row
left chart since o x first k codes n t = left_instants chart since o x (events_at o (pending_from first k) codes) n t

abbrev pub invariant-loop-instant : goal.invariant-loop-instant
invariant-loop-instant l =
    let o : ℤ = l.instant in
    let x : ℤ = l.mark in
    (o ≤ᶻ x) ×
    (l.pending ≤ l.initial.pending) ×
    Settled o l.n l.t ×
    Closing l.room l.initial.n (left l.chart l.since l.initial.instant x l.first l.initial.pending l.codes l.initial.n l.initial.t) l.initial.t l.n (left l.chart l.since o x l.first l.pending l.codes l.n l.t) l.t

abbrev pub decreases-loop-instant : goal.decreases-loop-instant
decreases-loop-instant l = instants_to l.instant l.mark
