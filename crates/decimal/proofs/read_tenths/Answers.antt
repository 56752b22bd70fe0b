-- `decimal::read_tenths` meets its contract: ten times a number on paper, and a digit, fit.
use Rattle.std.proofs.Common.{sym, arith}
use Rattle.std.proofs.lemmas.Option.{cond_some}
use Rattle.decimal.proofs.Laws.{number_below}
use Rattle.decimal.proofs.read_tenths.Goals as goal

pub overflow_mul-result : goal.overflow_mul-result
overflow_mul-result c = omega (arith, number_below _ _ (sym c.in_ok-read_number.ensures))

pub overflow_add-result : goal.overflow_add-result
overflow_add-result c = omega (arith, number_below _ _ (sym c.in_ok-read_number.ensures), cond_some _ _ _ (sym c.in_ok-digit_of.ensures))
