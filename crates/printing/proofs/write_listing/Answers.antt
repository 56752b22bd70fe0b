-- `write_listing` meets its contract: the rows from the ith on are left to write, and none took more bytes than a row may.
use Rattle.std.proofs.Common.{◌+◌, ◌*◌, ◌≤◌, length, arith}
use Rattle.table.specs.Table.{stored_row}
use Rattle.text.proofs.Written.{remaining_less, remaining_none}
use Rattle.printing.specs.Listing.{row_text, table_text, title_size, row_size}
use Rattle.printing.proofs.Laws.{listing_fits_lem, all_written, rows_from, rows_more, rows_done}
use Rattle.printing.proofs.write_listing.Goals as goal

pub loop-i-preserved : goal.loop-i-preserved
loop-i-preserved c =
    let i = c.loop-i.i in
    let rows = c.args.rows in
    let t = c.args.table.now in
    let e = rw c.row_at.ensures at c.write_row-at.ensures in
    (omega (arith, e.2), remaining_less c.loop-i.invariant.1 (row_text i (stored_row t i)) (rows_from rows t (i + 1)) (rows_more rows t i c.loop-i-test.true) e.0 e.1)

pub returns : goal.returns
returns c =
    let rows = c.args.rows in
    let t = c.args.table.now in
    let out = c.args.out.now in
    let room : title_size + rows * row_size ≤ length out = grind arith in
    let done = remaining_none c.loop-i.invariant.1 (rows_done rows t c.loop-i.i c.loop-i-test.false) in
    all_written (table_text rows t) out (listing_fits_lem rows t out (omega arith) room) (omega (arith, done.0)) done
