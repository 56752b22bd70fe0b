-- `write_line` meets its contract: three pieces written one behind another are one text.
use Rattle.std.proofs.Common.{arith}
use Rattle.std.proofs.lemmas.Grind.{common_steps}
use Rattle.text.proofs.Written.{sets_append}
use Rattle.log_line.proofs.write_line.Goals as goal

pub returns : goal.returns
returns g c = grind (arith, common_steps, sets_append)
