-- `read_fields` meets its contract: at each exit the fields so far, and what each of them is read as, tell what the definition says.
use Rattle.std.proofs.Common.{rules, tests, ◌≡◌, ◌∙◌, sym, ap, ◌∷◌}
use Rattle.std.specs.Slice.Iter.{split_done, split_rest}
use Rattle.text.specs.Text.{fields}
use Rattle.chart.specs.Records.{parsed_line, numbered, operator_line, by_operator}
use Rattle.chart.proofs.Records.{left, some_left, none_left, ended, one_more, no_operand, no_first, event_read, event_more, no_second, second_bad, both_read, both_more}
use Rattle.chart.proofs.record.read_fields.Goals.{In_ok-next, In_ok-next-2, In_ok-next-3, then-op-eq0, else-op-eq0+in_ok-next-4+in_ok-b}
use Rattle.chart.proofs.record.read_fields.Goals as goal

-- the fields once one, two and three of them are handed out
one : (c : In_ok-next) → fields c.args.s.now ≡ c.in_ok-next.field-0.now ∷ left c.next.new.self.done c.next.new.self.rest.now
one c = (rw (← c.split-fields.ensures.rest, c.split-fields.ensures.done)) ∙ some_left _ _ _ _ c.next.ensures.steps _ c.in_ok-next.was (λ x b q k. search (rules, tests))

two : (c : In_ok-next-2) → fields c.args.s.now ≡ c.in_ok-next.field-0.now ∷ c.in_ok-next-2.field-0.now ∷ left c.next-2.new.self.done c.next-2.new.self.rest.now
two c =
    (rw (← c.split-fields.ensures.rest, c.split-fields.ensures.done))
    ∙ some_left _ _ _ _ c.next.ensures.steps _ c.in_ok-next.was (λ x b q k. search (rules, tests))
    ∙ ap (λ fs. c.in_ok-next.field-0.now ∷ fs) (some_left _ _ _ _ c.next-2.ensures.steps _ c.in_ok-next-2.was (λ x b q k. search (rules, tests)))

three : (c : In_ok-next-3) → fields c.args.s.now ≡ c.in_ok-next.field-0.now ∷ c.in_ok-next-2.field-0.now ∷ c.in_ok-next-3.field-0.now ∷ left c.next-3.new.self.done c.next-3.new.self.rest.now
three c =
    (rw (← c.split-fields.ensures.rest, c.split-fields.ensures.done))
    ∙ some_left _ _ _ _ c.next.ensures.steps _ c.in_ok-next.was (λ x b q k. search (rules, tests))
    ∙ ap (λ fs. c.in_ok-next.field-0.now ∷ fs)
    (some_left _ _ _ _ c.next-2.ensures.steps _ c.in_ok-next-2.was (λ x b q k. search (rules, tests))
    ∙ ap (λ fs. c.in_ok-next-2.field-0.now ∷ fs) (some_left _ _ _ _ c.next-3.ensures.steps _ c.in_ok-next-3.was (λ x b q k. search (rules, tests))))

pub returns-in_err-number : goal.returns-in_err-number
unfolding parsed_line numbered
returns-in_err-number c = rw (c.from_residual-in_err-number.ensures, one (goal.at.returns-in_err-number c).In_ok-next, ← c.in_err-number.ensures)

pub returns-in_err-next-2 : goal.returns-in_err-next-2
unfolding parsed_line numbered operator_line
returns-in_err-next-2 c =
    let end = none_left _ _ _ _ c.next-2.ensures.steps c.in_err-next-2.was in
    rw (c.from_residual-in_err-next-2.ensures, one (goal.at.returns-in_err-next-2 c).In_ok-next, end, ← c.in_ok-number.ensures)

pub returns-in_err-op : goal.returns-in_err-op
unfolding parsed_line numbered operator_line by_operator
returns-in_err-op c = rw (c.from_residual-in_err-op.ensures, two (goal.at.returns-in_err-op c).In_ok-next-2, ← c.in_ok-number.ensures, ← c.in_err-op.ensures)

pub returns-in_err-next-3 : goal.returns-in_err-next-3
returns-in_err-next-3 c =
    let end = none_left _ _ _ _ c.next-3.ensures.steps c.in_err-next-3.was in
    rw (c.from_residual-in_err-next-3.ensures, two (goal.at.returns-in_err-next-3 c).In_ok-next-2, end) (sym (no_operand _ _ c.in_ok-number.ensures c.in_ok-op.ensures))

pub returns-in_err-a : goal.returns-in_err-a
returns-in_err-a c =
    rw (c.from_residual-in_err-a.ensures, three (goal.at.returns-in_err-a c).In_ok-next-3) (sym (no_first _ _ c.in_ok-number.ensures c.in_ok-op.ensures _ _ c.in_err-a.ensures))

pub returns-in_err-next-4 : goal.returns-in_err-next-4
returns-in_err-next-4 c =
    let end = none_left _ _ _ _ c.next-else-op-eq0.ensures.steps c.in_err-next-4.was in
    rw (c.from_residual-in_err-next-4.ensures, three (goal.at.returns-in_err-next-4 c).In_ok-next-3, end) (sym (no_second _ _ c.in_ok-number.ensures c.in_ok-op.ensures _ c.in_ok-a.ensures c.if-op-eq0.false))

pub returns-in_err-b : goal.returns-in_err-b
returns-in_err-b c =
    let fourth = some_left _ _ _ _ c.next-else-op-eq0.ensures.steps _ c.in_ok-next-4.was (λ x b q k. search (rules, tests)) in
    let bad = rw c.kind_of.ensures at c.in_err-b.ensures in
    rw (c.from_residual-in_err-b.ensures, three (goal.at.returns-in_err-b c).In_ok-next-3, fourth) (sym (second_bad _ _ c.in_ok-number.ensures c.in_ok-op.ensures _ c.in_ok-a.ensures c.if-op-eq0.false _ _ bad))

pub returns-then-is_some : goal.returns-then-is_some
returns-then-is_some c =
    let more = one_more _ _ _ _ c.next-4.ensures.steps (sym c.if-is_some.ensures) (λ x b q k. search (rules, tests)) in
    rw (three (goal.at.returns-then-is_some c).In_ok-next-3)
    (elim c.if-op-eq0.branch [
      | then-op-eq0 w ↦ rw (ap (λ z. left (split_done z) (split_rest z)) (sym w.fields-is) ∙ more.2) (sym (event_more _ _ c.in_ok-number.ensures c.in_ok-op.ensures _ c.in_ok-a.ensures _ _ w.if-op-eq0.true))
      | else-op-eq0+in_ok-next-4+in_ok-b w ↦
          let fourth = some_left _ _ _ _ w.next-else-op-eq0.ensures.steps _ w.in_ok-next-4.was (λ x b q k. search (rules, tests)) in
          rw (fourth, ap (λ z. left (split_done z) (split_rest z)) (sym w.fields-is) ∙ more.2) (sym (both_more _ _ c.in_ok-number.ensures c.in_ok-op.ensures _ c.in_ok-a.ensures w.if-op-eq0.false _ _ _))
    ])

pub returns : goal.returns
returns c =
    let end = ended _ _ _ _ c.next-4.ensures.steps (sym c.if-is_some.ensures) in
    rw (three (goal.at.returns c).In_ok-next-3)
    (elim c.if-op-eq0.branch [
      | then-op-eq0 w ↦ rw (ap (λ z. left (split_done z) (split_rest z)) (sym w.fields-is) ∙ end, w.b-is) (sym (event_read _ _ c.in_ok-number.ensures c.in_ok-op.ensures _ c.in_ok-a.ensures w.if-op-eq0.true))
      | else-op-eq0+in_ok-next-4+in_ok-b w ↦
          let fourth = some_left _ _ _ _ w.next-else-op-eq0.ensures.steps _ w.in_ok-next-4.was (λ x b q k. search (rules, tests)) in
          let read = rw w.kind_of.ensures at w.in_ok-b.ensures in
          rw (fourth, ap (λ z. left (split_done z) (split_rest z)) (sym w.fields-is) ∙ end, w.b-is) (sym (both_read _ _ c.in_ok-number.ensures c.in_ok-op.ensures _ c.in_ok-a.ensures w.if-op-eq0.false _ read))
    ])
