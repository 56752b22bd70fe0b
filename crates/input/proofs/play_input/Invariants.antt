-- What `play_input` has after each reading is what some pieces come to, which were the reader's; there is a line number for each of their bytes.
use Rattle.std.proofs.Common.{◌≡◌, false, ◌*◌, ◌≤◌, ◌<◌, length}
use Rattle.program.specs.Runs.{Reached, is_refused}
use Rattle.input.specs.Inputs.{held}
use Rattle.input.proofs.Laws.{Fed}
use Rattle.input.proofs.play_input.Given as goal

abbrev pub invariant-loop : goal.invariant-loop
invariant-loop g l = record {
  whole : length l.buf ≡ 65536;
  reached : Reached (record { run = l.run; table = l.table });
  goes : is_refused l.run.stage ≡ false;
  lines : l.run.line ≤ l.counter * 65536;
  few : l.kept < 64;
  fed : Fed (g.R.Read.remaining l.fn.reader) (g.R.Read.remaining l.reader) l.fn.table (held l.run l.table l.kept l.buf);
}
