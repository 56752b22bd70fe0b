-- `add_lines` meets its contract: a longer chart has at least the entries that there were and at most 32, and the watch has as many as the chart given.
use Rattle.std.proofs.Common.{rules, ◌≡◌, ℕ, ◌+◌, ◌-◌, ◌≤◌, List, length, arith, sym, ap, ◌∙◌}
use Rattle.text.specs.Text.{lines}
use Rattle.chart.specs.Charts.{entries_of, read_added, taken_chart}
use Rattle.chart.specs.declared.Chart.{Chart}
use Rattle.chart.specs.declared.ChartAnswer.{ChartAnswer}
use Rattle.chart.proofs.Added.{added_number, added_taken, added_few}
use Rattle.chart.proofs.Entries.{added_count}
use Rattle.watch.specs.Steps.{check_number}
use Rattle.watch.proofs.Calls.{told}
use Rattle.watch.proofs.Watch.add_lines.Goals as goal

-- the chart with added lines: how many entries there are then
module _ (chart longer : Chart) (s : List ℕ) (e : taken_chart longer ≡ read_added chart s) where
  none : (read_added chart s).refusal ≡ 0
  none = sym (ap (λ (x : ChartAnswer). x.refusal) e)

  many : longer.count ≡ chart.count + length (entries_of chart.count (lines s))
  many =
      ap (λ (x : ChartAnswer). x.chart.count) e ∙ ap (λ (x : ChartAnswer). x.chart.count) (added_taken chart s none) ∙ added_count chart (entries_of chart.count (lines s))

  few : chart.count + length (entries_of chart.count (lines s)) ≤ 32
  few = added_few chart.count (lines s) (sym (added_number chart s) ∙ none)

pub overflow_sub-longer : goal.overflow_sub-longer
overflow_sub-longer c = omega (arith, many c.args.chart c.in_ok-longer.longer c.args.s.now c.in_ok-longer.ensures)

pub extended-state-requires : goal.extended-state-requires
extended-state-requires c =
    let g = c.args in
    let e = c.in_ok-longer.ensures in
    let z : check_number g.chart g.self.state g.table.now ≡ 0 = search rules in
    omega (arith, many g.chart c.in_ok-longer.longer g.s.now e, few g.chart c.in_ok-longer.longer g.s.now e, (told g.chart g.self.state g.table.now z).entries)
