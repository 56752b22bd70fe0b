-- An instant or a length on paper as the C header's struct has it. "Where an answer is an enum, a definition gives this paper's number and values for each case of
-- the enum."
use Rattle.std.specs.Prelude.{Option, Some, None, ℤ, pos}
use Rattle.host.specs.declared.TenthsAnswer.{TenthsAnswer}

abbrev pub tenths_of : Option ℤ → TenthsAnswer
tenths_of (Some z) = record { formed = 1; tenths = z }
tenths_of None = record { formed = 0; tenths = pos 0 }
