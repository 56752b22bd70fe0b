-- `decimal::read_instant` meets its contract: a length on paper fits an i64.
use Rattle.std.proofs.Common.{sym, arith, ◌<◌, ◌^◌}
use Rattle.std.proofs.lemmas.Int.{ints}
use Rattle.std.proofs.lemmas.Grind.{common_steps}
use Rattle.decimal.specs.Spelling.{instant_of, without_minus, with_minus}
use Rattle.decimal.proofs.Tenths.{length_below}
use Rattle.decimal.proofs.read_instant.Goals as goal

pub overflow_cast-result : goal.overflow_cast-result
overflow_cast-result c = omega (arith, ints, length_below _ _ (sym c.in_ok-n-in-45.ensures))

pub overflow_sub-result : goal.overflow_sub-result
overflow_sub-result c = omega (arith, ints, length_below _ _ (sym c.in_ok-n-in-45.ensures))

pub overflow_cast-result-in_default : goal.overflow_cast-result-in_default
overflow_cast-result-in_default c = omega (arith, ints, length_below _ _ (sym c.in_ok-read_length-in_default.ensures))

pub returns-in_default-2 : goal.returns-in_default-2
unfolding instant_of with_minus
returns-in_default-2 c =
    let small : c.in_ok-n-in-45.n < 10 ^ 10 = length_below _ _ (sym c.in_ok-n-in-45.ensures) in
    grind (arith, ints, common_steps)

pub returns-in_ok-read_length-in_default : goal.returns-in_ok-read_length-in_default
unfolding instant_of without_minus
returns-in_ok-read_length-in_default c =
    let small : c.in_ok-read_length-in_default.field-0 < 10 ^ 10 = length_below _ _ (sym c.in_ok-read_length-in_default.ensures) in
    grind (arith, ints, common_steps)
