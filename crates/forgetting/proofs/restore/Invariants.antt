use Rattle.std.proofs.Common.{◌≡◌}
use Rattle.table.specs.Table.{put_rows}
use Rattle.forgetting.specs.Walk.{plain_rows}
use Rattle.forgetting.proofs.restore.Given as goal

abbrev pub invariant-loop-i : goal.invariant-loop-i
invariant-loop-i l = l.table ≡ put_rows 0 (plain_rows l.i l.initial.table) l.initial.table
