-- What the listing program and the report program print, by the reference model alone: no watch and no table appears here. Document 01, "The listing program": "It reads a
-- chart, an empty line and a log from standard input, uses a table of 3,000 rows, and prints the table at the end. A refusal prints only one line:
-- `refused`, number, line of the whole input (one past the last if a line is missing), parted by tabs. The first empty line ends the chart."
-- "A report program, with the listing program's input, table and refusals" (request N3): the two differ in what they print of a run that is not refused.
use Rattle.std.specs.Prelude.{Option, Some, None, ℕ, suc, ◌-◌, Bool, cond, ◌&&◌, List, [], ◌∷◌, eqb, pos, length}
use Rattle.interval.specs.Instants.{first_floor}
use Rattle.text.specs.Text.{Line, lines, is_record}
use Rattle.chart.specs.Charts.{or_no_line}
use Rattle.model.specs.Order.{Row}
use Rattle.model.specs.Recognitions.{Operator}
use Rattle.model.specs.Reference as model
use Rattle.model.specs.Reference.{Model, Answer, rows_of}
use Rattle.table.specs.Operators.{operators_of}
use Rattle.log_line.specs.Log.{call_of, answer_of}
use Rattle.log_line.specs.declared.Call.{Call}
use Rattle.log_line.specs.declared.Call.TheVariants as log
use Rattle.tally.specs.Tally.{tallies}
use Rattle.printing.specs.Listing.{listing_text, refusal_text}
use Rattle.printing.specs.Report.{report_text}
use Rattle.program.specs.declared.Format.{Format}
use Rattle.program.specs.declared.Format.TheVariants.{Listing, Report}

-- what a run comes to: how many entries the chart has and the rows of the table at the end, or a refusal's number and line
pub data Outcome : Type 0 where
  listed : ℕ → List Row → Outcome
  refused : ℕ → ℕ → Outcome

-- a log line, no call where it lacks its byte 10 or has over 64 bytes
unfoldable pub call_in : Line → Option Call
call_in l = cond (is_record l) (call_of l.bytes) None

-- a model of no entries, as a refused opening leaves it
abbrev no_model : Model
no_model = model.model (pos 0) first_floor [] [] []

-- the first log line: its own refusal, or "7 ... `open` missing"
unfoldable pub opening_answer : List Operator → Option Call → Answer Model
opening_answer ops (Some (log.Open o)) = model.opening ops o
opening_answer ops None = model.refused (answer_of None).refusal no_model
opening_answer ops (Some (log.Event k)) = model.refused 7 no_model
opening_answer ops (Some (log.Clock x)) = model.refused 7 no_model
opening_answer ops (Some (log.Forget f)) = model.refused 7 no_model

-- every other log line: its own refusal, "7 ... `open` ... repeated", or what the reference model answers. No line of a log adds entries.
unfoldable pub call_answer : ℕ → Model → Option Call → Answer Model
call_answer room m None = model.refused (answer_of None).refusal m
call_answer room m (Some (log.Open o)) = model.refused 7 m
call_answer room m (Some (log.Event k)) = model.event_step m k
call_answer room m (Some (log.Clock x)) = model.clock_step room m x
call_answer room m (Some (log.Forget f)) = model.forget_step m f

-- the log lines after the opening, from line n of the input on; the first refusal ends the run
unfoldable pub play_calls : ℕ → Model → ℕ → List Line → Outcome
play_calls room m n [] = listed (length m.chart) (rows_of m)
play_calls room m n (l ∷ ls) =
    let a = call_answer room m (call_in l) in
    cond (eqb a.number 0) (play_calls room a.state (suc n) ls) (refused a.number n)

-- the log, from line n of the input on, which is one past the last where there is no log line
unfoldable pub play_log : List Operator → ℕ → ℕ → List Line → Outcome
play_log ops room n [] = refused 7 n
play_log ops room n (l ∷ ls) =
    let a = opening_answer ops (call_in l) in
    cond (eqb a.number 0) (play_calls room a.state (suc n) ls) (refused a.number n)

-- "The first empty line ends the chart."
abbrev pub is_empty : Line → Bool
is_empty l = l.ended && eqb (length l.bytes) 0

unfoldable pub chart_lines : List Line → List Line
chart_lines [] = []
chart_lines (l ∷ ls) = cond (is_empty l) [] (l ∷ chart_lines ls)

unfoldable pub log_lines : List Line → List Line
log_lines [] = []
log_lines (l ∷ ls) = cond (is_empty l) ls (log_lines ls)

unfoldable pub play_lines : ℕ → List Line → Outcome
play_lines room ls =
    let a = or_no_line (chart_lines ls) in
    cond (eqb a.refusal 0) (play_log (operators_of a.chart) room (suc (length ls - length (log_lines ls))) (log_lines ls)) (refused a.refusal a.line)

-- the bytes printed: the listing, "row" by row, or the report, "one line per entry" and the total; of a refusal the same line
unfoldable pub outcome_text : Format → Outcome → List ℕ
outcome_text Listing (listed n rs) = listing_text rs
outcome_text Report (listed n rs) = report_text (tallies n rs) (length rs)
outcome_text f (refused n line) = refusal_text n line

unfoldable pub printed_for : Format → ℕ → List ℕ → List ℕ
printed_for f room input = outcome_text f (play_lines room (lines input))
