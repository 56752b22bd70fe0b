-- `decimal::digit_count` meets its contract: a number from a power of ten on and below the next has one digit more than the power has zeros.
use Rattle.std.proofs.Common.{arith}
use Rattle.decimal.proofs.Digits.{length_between}
use Rattle.decimal.proofs.digit_count.Goals as goal

pub returns : goal.returns
returns c = length_between _ _ (omega arith) (omega arith)
