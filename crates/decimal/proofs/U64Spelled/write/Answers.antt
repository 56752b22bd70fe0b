-- The write of a number meets its contract. The loop's invariant: the spelling of what is left of the number, followed by the output from
-- place k on, is the whole spelling followed by the old rest of the output; k is the number of digits left.
use Rattle.std.proofs.Common.{arith}
use Rattle.std.proofs.lemmas.Grind.{common_steps}
use Rattle.decimal.specs.Spelling.{written, written_output}
use Rattle.decimal.proofs.Digits.{spelled_small, spelled_large, spelled_nonempty, length_large, one_digit_below, more_digits_least}
use Rattle.decimal.proofs.U64Spelled.write.Goals as goal

pub loop-k-preserved : goal.loop-k-preserved
loop-k-preserved c = grind (arith, common_steps, more_digits_least, length_large, spelled_large)

pub overflow_cast-out-2 : goal.overflow_cast-out-2
overflow_cast-out-2 c = omega (arith, one_digit_below c.loop-k.rest)

pub overflow_add-out-2 : goal.overflow_add-out-2
overflow_add-out-2 c = omega (arith, one_digit_below c.loop-k.rest)

pub bounds-out-0 : goal.bounds-out-0
bounds-out-0 c = omega (arith, spelled_nonempty c.args.self)

pub returns : goal.returns
unfolding written written_output
returns c = grind (arith, common_steps, one_digit_below, spelled_small)
