use Rattle.std.proofs.Common.{◌+◌, ◌*◌, ◌≤◌}
use Rattle.text.proofs.Written.{Remaining}
use Rattle.printing.specs.Listing.{title_size, row_size, table_text}
use Rattle.printing.proofs.Laws.{rows_from}
use Rattle.printing.proofs.write_listing.Given as goal

abbrev pub invariant-loop-i : goal.invariant-loop-i
invariant-loop-i l =
    (l.at ≤ title_size + l.i * row_size) × Remaining l.fn.out 0 (table_text l.rows l.table) l.out l.at (rows_from l.rows l.table l.i)
