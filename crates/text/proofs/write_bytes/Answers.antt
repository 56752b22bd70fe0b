-- `write_bytes` meets its contract: the bytes are put in the place of as many.
use Rattle.std.proofs.Common.{refl, arith}
use Rattle.text.proofs.Written.{put_sets}
use Rattle.text.proofs.write_bytes.Goals as goal

pub returns : goal.returns
returns c = (refl, rw c.copy_from_slice.ensures.after (put_sets _ _ _ _ (omega arith) c.requires))
