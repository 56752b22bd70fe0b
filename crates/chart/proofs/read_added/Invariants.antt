use Rattle.std.proofs.Common.{◌+◌, ◌≤◌, ◌<◌, ◌≡◌, length}
use Rattle.text.specs.Text.{lines}
use Rattle.chart.specs.Charts.{read_added}
use Rattle.chart.proofs.Added.{goes_on}
use Rattle.chart.proofs.read_added.Given as goal

-- the chart so far has its 32 places, and after a line at most 32 entries; what is left to read gives the whole answer
abbrev pub invariant-loop-rest : goal.invariant-loop-rest
invariant-loop-rest l = record {
  size : length l.longer.entries ≡ 32;
  few : length l.rest < length l.fn.s → l.longer.count ≤ 32;
  line : l.line + l.fn.chart.count ≡ l.longer.count + 1;
  goes : goes_on l.fn.chart l.longer l.line (lines l.rest) ≡ read_added l.fn.chart l.fn.s;
}

abbrev pub decreases-loop-rest : goal.decreases-loop-rest
decreases-loop-rest l = length l.rest
