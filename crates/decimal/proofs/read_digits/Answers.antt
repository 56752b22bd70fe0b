-- `decimal::read_digits` meets its contract. The loop's invariant: the value so far, carried on over the bytes that are left, is the
-- answer for the whole slice; i digits keep the value below the ith power of ten.
use Rattle.std.proofs.Common.{arith}
use Rattle.std.proofs.lemmas.Grind.{common_steps}
use Rattle.decimal.proofs.Digits.{carried_none, carried_more, carried_all, digit_below, digit_most}
use Rattle.decimal.proofs.read_digits.Goals as goal

pub returns-in_err-value : goal.returns-in_err-value
returns-in_err-value c = grind (arith, common_steps, carried_none)

pub loop-b-preserved : goal.loop-b-preserved
loop-b-preserved c = grind (arith, common_steps, carried_more, digit_below, digit_most)

pub returns : goal.returns
returns c = grind (arith, carried_all)
