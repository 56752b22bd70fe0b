-- `forget` meets its contract: the rows before the first dropped one, the walk, the marks taken off, the zeros.
use native.Mathlib.Omega.{arith}
use Rattle.interval.proofs.Machine.{same32}
use Rattle.forgetting.specs.Walk.{event_in, RowsReady}
use Rattle.forgetting.proofs.Forgetting.{ready_rows, forgotten_count, forgotten_table_lem}
use Rattle.forgetting.proofs.forget.Goals.{After-arities_of-arities}
use Rattle.forgetting.proofs.forget.Goals as goal

-- what the walk is given
asks : (c : After-arities_of-arities) → RowsReady (event_in c.arities_of-arities.result) c.args.state.rows c.args.table.now
asks c = ready_rows _ c.args.state _ c.args.floor c.requires _ c.arities_of-arities.ensures

pub late_rows-first-requires : goal.late_rows-first-requires
late_rows-first-requires c = let a = asks (goal.at.late_rows-first-requires c).After-arities_of-arities in (a.few, a.fit)

pub keep_rows-kept-requires : goal.keep_rows-kept-requires
keep_rows-kept-requires c =
    (asks (goal.at.keep_rows-kept-requires c).After-arities_of-arities, c.late_rows-first.ensures.0, c.late_rows-first.ensures.1)

pub overflow_mul-rows : goal.overflow_mul-rows
overflow_mul-rows c = omega (arith, (asks (goal.at.overflow_mul-rows c).After-arities_of-arities).few)

pub zero_part-requires : goal.zero_part-requires
zero_part-requires c =
    omega (arith, (asks (goal.at.zero_part-requires c).After-arities_of-arities).fit, c.keep_rows-kept.ensures.most, c.keep_rows-kept.auto.table, c.restore.auto.table)

pub returns : goal.returns
returns c =
    let s = c.args.state in
    let a = c.arities_of-arities.ensures in
    let f = c.ranges.floor in
    let w = simp (same32, f) at c.keep_rows-kept.ensures in
    (forgotten_count _ s _ _ c.requires _ a _ _ _ w, forgotten_table_lem _ s _ _ c.requires _ a _ _ _ w _ _ c.keep_rows-kept.auto.table c.restore.ensures c.zero_part.ensures)
