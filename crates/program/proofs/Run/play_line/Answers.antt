-- `play_line` meets its contract: what holds of a run at its stage is what the line asks.
use Rattle.std.proofs.Common.{ap}
use Rattle.program.specs.Runs.{HasLines, HasFew, is_refused}
use Rattle.program.proofs.Reaching.{reached_few, reached_checked}
use Rattle.program.proofs.Run.play_line.Goals as goal

pub entries_line-requires : goal.entries_line-requires
unfolding HasLines HasFew is_refused
entries_line-requires c = let goes = ap is_refused c.in-Entries.is in (c.requires.1 goes, reached_few _ c.requires.0 goes, c.in-Entries.is)

pub call_line-requires : goal.call_line-requires
unfolding HasLines is_refused
call_line-requires c = (reached_checked _ _ c.in-Calls.is c.requires.0, c.requires.1 (ap is_refused c.in-Calls.is))

pub opening_line-requires : goal.opening_line-requires
unfolding HasLines is_refused
opening_line-requires c = (c.in-Opening.is, c.requires.1 (ap is_refused c.in-Opening.is), c.requires.2)
