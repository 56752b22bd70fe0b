-- `decimal::write_at` meets its contract: the spelling is written into the part of the output from the place on.
use Rattle.std.proofs.Common.{arith}
use Rattle.std.proofs.lemmas.Grind.{common_steps}
use Rattle.std.proofs.lemmas.List.Edits.{sets-eq}
use Rattle.decimal.specs.Spelling.{written, written_output}
use Rattle.decimal.proofs.write_at.Goals as goal

pub returns : goal.returns
unfolding written written_output
returns g c = grind (arith, common_steps, sets-eq)
