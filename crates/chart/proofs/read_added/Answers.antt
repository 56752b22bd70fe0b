-- `read_added` meets its contract: each turn reads one line, and what is left to read gives the whole answer.
use Rattle.std.proofs.Common.{rules, ◌<◌, ◌≡◌, ◌∙◌, sym, ap, length, length-drop, length-set, arith}
use Rattle.std.specs.Prelude.{Ok}
use Rattle.std.proofs.lemmas.List.{nil_from_length}
use Rattle.text.specs.Text.{lines}
use Rattle.text.proofs.Laws.{part_from}
use Rattle.chart.specs.Records.{first_answer}
use Rattle.chart.specs.Charts.{with_entry}
use Rattle.chart.proofs.Added.{goes_on, Step, step_taken, on_start, on_end, added_empty}
use Rattle.chart.proofs.read_added.Goals.{In_ok-entry}
use Rattle.chart.proofs.read_added.Goals as goal

-- a line that is taken
step : (c : In_ok-entry) → Step c.args.chart c.loop-rest.longer c.loop-rest.line c.loop-rest.rest.now c.in_ok-entry.entry c.in_ok-entry.size
step c =
    let g : 0 < length c.loop-rest.rest.now = search rules in
    let e : first_answer c.loop-rest.longer.count c.loop-rest.rest.now ≡ Ok (c.in_ok-entry.entry, c.in_ok-entry.size) = search rules in
    step_taken _ _ _ _ g _ _ e

pub returns-then-is_empty : goal.returns-then-is_empty
returns-then-is_empty c = sym (added_empty _ _ (search rules))

pub loop-rest-init : goal.loop-rest-init
loop-rest-init c = record {
  size = search rules;
  few = λ h. absurd (omega arith);
  line = omega arith;
  goes = on_start _ _ (search rules);
}

pub push-requires : goal.push-requires
push-requires c = (step (goal.at.push-requires c).In_ok-entry).room

pub overflow_add-line : goal.overflow_add-line
overflow_add-line c = let s = step (goal.at.overflow_add-line c).In_ok-entry in omega (arith, s.room)

pub slice_bounds-rest-count : goal.slice_bounds-rest-count
slice_bounds-rest-count c = (step (goal.at.slice_bounds-rest-count c).In_ok-entry).inside

pub slice_bounds-rest-start : goal.slice_bounds-rest-start
slice_bounds-rest-start c = (step (goal.at.slice_bounds-rest-start c).In_ok-entry).inside

pub loop-rest-smaller : goal.loop-rest-smaller
loop-rest-smaller c = let s = step (goal.at.loop-rest-smaller c).In_ok-entry in rw part_from (omega (arith, s.some, s.inside, length-drop c.in_ok-entry.size c.loop-rest.rest.now))

pub loop-rest-preserved : goal.loop-rest-preserved
unfolding with_entry
loop-rest-preserved c =
    let s = step (goal.at.loop-rest-preserved c).In_ok-entry in
    rw (part_from, c.push.ensures)
    (record {
      size = simp length-set c.loop-rest.invariant.size;
      few = λ h. omega (arith, s.room);
      line = omega arith;
      goes = sym (s.goes (omega (arith, s.room))) ∙ c.loop-rest.invariant.goes;
    })

pub returns : goal.returns
returns c =
    let none : length c.loop-rest.rest.now ≡ 0 = search rules in
    let some : 0 < length c.args.s.now = search rules in
    sym (on_end _ c.loop-rest.longer c.loop-rest.line (omega (arith, c.loop-rest.invariant.few (omega arith)))) ∙ ap (λ x. goes_on c.args.chart c.loop-rest.longer c.loop-rest.line (lines x)) (sym (nil_from_length _ none)) ∙ c.loop-rest.invariant.goes
