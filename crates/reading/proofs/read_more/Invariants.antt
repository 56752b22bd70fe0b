-- Each reading before took nothing of the reader's bytes, and left those that are kept.
use Rattle.std.proofs.Common.{◌≡◌, take}
use Rattle.std.specs.Io.KnownBytes.{Keeps}
use Rattle.reading.proofs.read_more.Given as goal

abbrev pub invariant-loop : goal.invariant-loop
invariant-loop g l = record {
  same : take l.kept l.buf ≡ take l.kept l.initial.buf;
  bytes : Keeps (g.R.Read.remaining l.initial.reader) (g.R.Read.remaining l.reader);
}
