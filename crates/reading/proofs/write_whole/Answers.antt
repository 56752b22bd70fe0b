-- `write_whole` meets its contract: each writing hands over more of the front.
use Rattle.std.proofs.Common.{ap}
use Rattle.reading.proofs.Laws.{written_more, written_kept, written_hands, part_from}
use Rattle.reading.proofs.write_whole.Goals.{in-Ok, in-Err}
use Rattle.reading.proofs.write_whole.Goals as goal

pub returns-in-Ok-eq0 : goal.returns-in-Ok-eq0
returns-in-Ok-eq0 g c = written_hands (written_more c.loop.invariant _ c.in-Ok-eq0.field-0 (rw c.in-Ok-eq0.is at c.write.ensures.bytes)) _ (λ e. cc)

pub returns-in-Err-2 : goal.returns-in-Err-2
returns-in-Err-2 g c = written_hands (written_kept c.loop.invariant _ c.in-Err-2.ensures.bytes) _ (λ e. cc)

pub returns : goal.returns
returns g c = written_hands c.loop.invariant _ (λ e. cc)

pub loop-preserved : goal.loop-preserved
loop-preserved g c =
    elim c.match-write.branch [
      | in-Ok w ↦ rw (simp part_from at (ap (λ r. r.now) w.rest-is)) (written_more c.loop.invariant _ w.in-Ok.n w.in-Ok.ensures.bytes)
      | in-Err w ↦ rw w.rest-is (written_kept c.loop.invariant _ w.in-Err.ensures.bytes)
    ]
