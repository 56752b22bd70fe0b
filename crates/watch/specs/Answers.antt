-- What a call comes to, taken or refused, as the C interface's answer. "Where an answer is an enum, a definition gives this paper's number and values for each case of
-- the enum."
use Rattle.std.specs.Prelude.{ℕ, Result, Ok, Err}
use Rattle.refusal.specs.Numbers.{number_of}
use Rattle.refusal.specs.declared.Refusal.{Refusal}
use Rattle.chart.specs.declared.Chart.{Chart}
use Rattle.chart.specs.declared.Fault.{Fault}
use Rattle.state.specs.declared.WatchState.{WatchState}
use Rattle.tally.specs.Tally.{refused_report}
use Rattle.tally.specs.declared.Report.{Report}
use Rattle.watch.specs.declared.Watch.{Watch}
use Rattle.watch.specs.declared.Answer.{Answer}
use Rattle.watch.specs.declared.Addition.{Addition}
use Rattle.watch.specs.declared.Extended.{Extended}
use Rattle.watch.specs.declared.TreeAnswer.{TreeAnswer}
use Rattle.watch.specs.Steps.{answered, addition}

-- "the refusal's number, 0 for none"
abbrev pub number_in : Result (Unit {0}) Refusal → ℕ
number_in (Ok u) = 0
number_in (Err r) = number_of r

-- "Every other refusal from 8 on returns the watch given"
abbrev pub answer_of : WatchState → Result Watch Refusal → Answer
answer_of given (Ok w) = record { refusal = 0; watch = w }
answer_of given (Err r) = answered (number_of r) given

-- of an addition "the old chart and watch stay" (request N13)
abbrev pub addition_of : WatchState → Chart → Result Extended Fault → Addition
addition_of given old (Ok e) = record { refusal = 0; line = 0; watch = e.watch; chart = e.chart }
addition_of given old (Err f) = addition (number_of f.refusal) f.line given old

-- "a refused tree returns the number and length 0"
abbrev pub tree_answer_of : Result ℕ Refusal → TreeAnswer
tree_answer_of (Ok n) = record { refusal = 0; length = n }
tree_answer_of (Err r) = record { refusal = number_of r; length = 0 }

-- "Refused (14, 13), the library's report gives only the number" (request N3)
abbrev pub reported : Result Report Refusal → Report
reported (Ok p) = p
reported (Err r) = refused_report (number_of r)
