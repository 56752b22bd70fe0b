-- The numbers of the refusals. Document 01, "Who can be turned back, and with which number"; 17 and 18 by request N6.

use Rattle.std.specs.Prelude.{ℕ}
use Rattle.refusal.specs.declared.Refusal.{Refusal}
use Rattle.refusal.specs.declared.Refusal.TheVariants.{NoLine, ChartTooLong, MalformedEntry, EntryNotNext, OperandNotLower, OperandOutOfRange, MalformedCall, InstantRefused, TooManyPending, TooManyEvents, ForgetRefused, TableFull, Inconsistent, UnusableChart, NoSuchRow, TreeTooLong, ForgetMerged, OpeningsDiffer}

-- "1 no line; 2 a 33rd line; 3 a line not of the form above; 4 entry number not the next; 5 operand not lower; 6 code or length out of range";
-- 7 the log's own; "8 ... a clock mark out of range or not after the open instant"; 9 over 64 events at an instant; 10 over 1,000,000 events;
-- "11 a forget below the floor, above the open instant or out of range"; "12 table full"; 13 watch or table not consistent with the chart;
-- "14 a chart of no entries, of over 32, or with an entry breaking the operator table"; "15 row number not in use; 16 tree longer than the output
-- lent"; of two logs that are merged 17 a forget, 18 openings at two instants
abbrev pub number_of : Refusal → ℕ
number_of NoLine = 1
number_of ChartTooLong = 2
number_of MalformedEntry = 3
number_of EntryNotNext = 4
number_of OperandNotLower = 5
number_of OperandOutOfRange = 6
number_of MalformedCall = 7
number_of InstantRefused = 8
number_of TooManyPending = 9
number_of TooManyEvents = 10
number_of ForgetRefused = 11
number_of TableFull = 12
number_of Inconsistent = 13
number_of UnusableChart = 14
number_of NoSuchRow = 15
number_of TreeTooLong = 16
number_of ForgetMerged = 17
number_of OpeningsDiffer = 18
