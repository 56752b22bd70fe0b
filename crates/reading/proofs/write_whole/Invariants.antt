-- `write_whole` has handed over the front of the text, up to what is left of it.
use Rattle.reading.proofs.Laws.{Written}
use Rattle.reading.proofs.write_whole.Given as goal

abbrev pub invariant-loop : goal.invariant-loop
invariant-loop g l = Written (g.W.Write.contents l.initial.writer) (g.W.Write.contents l.writer) l.text l.rest
