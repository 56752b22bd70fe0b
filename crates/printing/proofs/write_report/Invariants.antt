use Rattle.std.proofs.Common.{◌*◌, ◌≤◌, drop}
use Rattle.text.proofs.Written.{Remaining}
use Rattle.printing.specs.Report.{tally_texts, tally_size}
use Rattle.printing.proofs.write_report.Given as goal

abbrev pub invariant-loop-e : goal.invariant-loop-e
invariant-loop-e l =
    (l.at ≤ l.e * tally_size) × Remaining l.fn.out 0 (tally_texts 0 l.tallies) l.out l.at (tally_texts l.e (drop l.e l.tallies))
