-- `ending_by` meets its contract: the rows that pass stand before those that do not.
use Rattle.std.proofs.Common.{rules, of_calls, true}
use Rattle.std.proofs.lemmas.List.Sorted.{IsPartitionPoint-from_clause}
use Rattle.table.proofs.Ends.{row_passes, rows_parted, search_counts}
use Rattle.table.proofs.ending_by.Goals as goal

pub returns : goal.returns
returns g c =
    let n = c.args.rows in
    let e = g.T.Tenths.tenths c.args.e in
    let t = c.args.table.now in
    search_counts true n e t _ (rw c.stored_rows.ensures at c.partition_point.ensures.bound)
    (IsPartitionPoint-from_clause (row_passes true n e t) _ _ (rw c.stored_rows.ensures at c.partition_point.ensures.partitioned) (rows_parted true n e t c.requires.1)
    (λ a r f k. let same = c.tenths-e.ensures in search (rules, of_calls)))
