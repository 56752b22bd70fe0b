-- A run of the program as the code goes through it: line by line, on watch and table, and what is kept of an input that comes in pieces.
-- It has to be believed, since the statements cite it, but for `narrowed`, `unformed_run`, `OfHistory`, `Holds`, `Reached`, `outcome_of`,
-- `result_of`, `HasLines`, `HasFew`, `Read`, `settled_run`, `finished_run` and `Printable`, which serve the proofs.
use Rattle.std.specs.Prelude.{Option, Some, None, ◌||◌, ℕ, ◌+◌, ◌-◌, ◌≤◌, ◌<◌, ◌^◌, ◌≡◌, Bool, true, false, cond, List, [], ◌∷◌, ◌++◌, eqb, leb, ℤ, pos, length, take, drop}
use Rattle.text.specs.Text.{Line, whole, broken, split}
use Rattle.interval.specs.Instants.{is_instant}
use Rattle.chart.specs.Charts.{is_usable, read_lines, no_entries, taken_chart}
use Rattle.chart.specs.declared.Chart.{Chart}
use Rattle.chart.specs.declared.ChartAnswer.{ChartAnswer}
use Rattle.table.specs.Table.{rows_in}
use Rattle.state.specs.State.{empty_state}
use Rattle.watch.specs.declared.Answer.{Answer}
use Rattle.watch.specs.Steps.{Step, opening_step, check_number, event_step, clock_step, forget_step, refused_step, empty_watch}
use Rattle.watch.specs.Histories as watch
use Rattle.watch.specs.Histories.{State}
use Rattle.watch.specs.Demands.{history}
use Rattle.watch.specs.declared.Watch.{Watch}
use Rattle.log_line.specs.declared.Call.{Call}
use Rattle.log_line.specs.declared.Call.TheVariants as log
use Rattle.tally.specs.Tally.{report_of}
use Rattle.tally.specs.declared.Report as tally
use Rattle.printing.specs.Listing.{listing_length, listing_output, refusal_length, refusal_output}
use Rattle.printing.specs.Report.{report_length, report_output}
use Rattle.program.specs.Outcomes.{Outcome, listed, refused, call_in, is_empty}
use Rattle.program.specs.declared.Format.{Format}
use Rattle.program.specs.declared.Format.TheVariants.{Listing, Report}
use Rattle.program.specs.declared.Stage.{Stage}
use Rattle.program.specs.declared.Stage.TheVariants.{Entries, Opening, Calls, Refused}
use Rattle.program.specs.declared.Run.{Run}
use Rattle.program.specs.declared.Fed.{Fed}

-- a run and the table it has so far
pub record Progress : Type 0 where
  pub run : Run
  pub table : List ℤ

abbrev pub progress : Stage → ℕ → Chart → Watch → List ℤ → Progress
progress s line c w t = record { run = record { stage = s; line = line; chart = c; watch = w }; table = t }

-- before the first byte
unfoldable pub start_run : Run
start_run = record { stage = Entries; line = 0; chart = no_entries; watch = empty_watch (pos 0) }

-- refused at a line: the chart and the watch stay as they were
unfoldable pub refused_run : Run → ℕ → ℕ → Run
refused_run r n line = record { stage = Refused n; line = line; chart = r.chart; watch = r.watch }

-- the next stage
unfoldable pub next_run : Run → Stage → Chart → Watch → Run
next_run r s c w = record { stage = s; line = r.line + 1; chart = c; watch = w }

-- a line of the chart that is not empty
unfoldable pub entry_run : Run → ChartAnswer → Run
entry_run r a = cond (eqb a.refusal 0) (next_run r Entries a.chart r.watch) (refused_run r a.refusal a.line)

-- the empty line: "1 no line"
unfoldable pub chart_end : Run → Run
chart_end r = cond (eqb r.chart.count 0) (refused_run r 1 1) (next_run r Opening r.chart r.watch)

-- what a step of the watch makes of a run
unfoldable pub answered_run : Run → Answer → Run
answered_run r a = cond (eqb a.refusal 0) (next_run r Calls r.chart a.watch) (refused_run r a.refusal (r.line + 1))

abbrev pub stepped : Run → Step → Progress
stepped r s = record { run = answered_run r s.answer; table = s.table }

-- the first log line: "7 ... `open` missing"
unfoldable pub open_step : Chart → List ℤ → Option Call → Step
open_step chart t (Some (log.Open o)) = opening_step chart t o
open_step chart t (Some (log.Event k)) = refused_step 7 (empty_state (pos 0)) t
open_step chart t (Some (log.Clock x)) = refused_step 7 (empty_state (pos 0)) t
open_step chart t (Some (log.Forget f)) = refused_step 7 (empty_state (pos 0)) t
open_step chart t None = refused_step 7 (empty_state (pos 0)) t

-- every other log line
abbrev pub state_of : Run → List ℤ → State
state_of r t = record { watch = r.watch.state; table = t; chart = r.chart }

unfoldable pub call_step : State → Option Call → Step
call_step s None = refused_step 7 s.watch s.table
call_step s (Some (log.Open o)) = refused_step 7 s.watch s.table
call_step s (Some (log.Event k)) = event_step s.chart s.watch s.table k
call_step s (Some (log.Clock x)) = clock_step s.chart s.watch s.table x
call_step s (Some (log.Forget f)) = forget_step s.chart s.watch s.table f

-- a number of the log as an i32: itself where it is an instant, otherwise one that is none
unfoldable pub narrowed : ℤ → ℤ
narrowed x = cond (is_instant x) x (pos 2000000000)

-- a line that lacks its byte 10 or has over 64 bytes
unfoldable pub unformed_run : Stage → Run → Run
unformed_run Entries r = refused_run r (cond (leb 32 r.chart.count) 2 3) (r.chart.count + 1)
unformed_run Opening r = refused_run r 7 (r.line + 1)
unformed_run Calls r = refused_run r 7 (r.line + 1)
unformed_run (Refused n) r = r

-- one line, by the stage; a run that was refused takes no further line
unfoldable pub line_step : Stage → Run → List ℤ → Line → Progress
line_step Entries r t l = record { run = cond (is_empty l) (chart_end r) (entry_run r (read_lines r.chart (l ∷ []))); table = t }
line_step Opening r t l = stepped r (open_step r.chart t (call_in l))
line_step Calls r t l = stepped r (call_step (state_of r t) (call_in l))
line_step (Refused n) r t l = record { run = r; table = t }

abbrev pub after_line : Progress → Line → Progress
after_line p l = line_step p.run.stage p.run p.table l

-- Bytes as they come, cut at each byte 10. What follows the last one is no line yet; it is one that is refused as soon as it has 64 bytes.
unfoldable pub after_parts : Progress → List (List ℕ) → Progress
after_parts p [] = p
after_parts p (s ∷ []) = cond (leb 64 (length s)) (after_line p (broken s)) p
after_parts p (s ∷ q ∷ qs) = after_parts (after_line p (whole s)) (q ∷ qs)

unfoldable pub after_bytes : Progress → List ℕ → Progress
after_bytes p s = after_parts p (split 10 s)

-- what follows the last byte 10
unfoldable pub last_part : List (List ℕ) → List ℕ
last_part [] = []
last_part (s ∷ []) = s
last_part (s ∷ q ∷ qs) = last_part (q ∷ qs)

unfoldable pub is_refused : Stage → Bool
is_refused Entries = false
is_refused Opening = false
is_refused Calls = false
is_refused (Refused n) = true

-- the bytes to keep until more come: none where the run was refused
unfoldable pub kept_of : Progress → List ℕ → List ℕ
kept_of p s = cond (is_refused p.run.stage) [] (last_part (split 10 s))

-- watch, table and chart are those of a history: an opening of the chart at some instant in range, and some calls
pub record OfHistory (c : Chart) (s : State) : Type 0 where
  pub before : List ℤ
  pub opened : ℤ
  pub in_range : is_instant opened ≡ true
  pub calls : List watch.Call
  pub same : s ≡ history c before opened calls

-- What holds of a run at each stage: its chart was read from some lines; a watch may use it; watch and table are those of a history.
unfoldable pub Holds : Stage → Run → List ℤ → Type 0
Holds Entries r t = (ls : List Line) × (read_lines no_entries ls ≡ taken_chart r.chart)
Holds Opening r t = is_usable r.chart ≡ true
Holds Calls r t = (is_usable r.chart ≡ true) × OfHistory r.chart (state_of r t)
Holds (Refused n) r t = Unit {0}

abbrev pub Reached : Progress → Type 0
Reached p = Holds p.run.stage p.run p.table

-- no more bytes come: "7 ... `open` missing", "one past the last if a line is missing"
unfoldable pub end_run : Stage → Run → Run
end_run Entries r = cond (eqb r.chart.count 0) (refused_run r 1 1) (refused_run r 7 (r.line + 1))
end_run Opening r = refused_run r 7 (r.line + 1)
end_run Calls r = r
end_run (Refused n) r = r

-- the end of the input with so many bytes kept: they are a line that lacks its byte 10
unfoldable pub finished : Progress → List ℕ → Progress
finished p [] = record { run = end_run p.run.stage p.run; table = p.table }
finished p (b ∷ s) = after_line p (broken (b ∷ s))

-- pieces of an input, one after another, and what is kept between them
pub record Between : Type 0 where
  pub progress : Progress
  pub kept : List ℕ

unfoldable pub fed : Between → List ℕ → Between
fed b piece =
    let p = after_bytes b.progress (b.kept ++ piece) in
    record { progress = p; kept = kept_of p (b.kept ++ piece) }

unfoldable pub fed_all : Between → List (List ℕ) → Between
fed_all b [] = b
fed_all b (piece ∷ pieces) = fed_all (fed b piece) pieces

-- what a finished run comes to
unfoldable pub outcome_of : Stage → Run → List ℤ → Outcome
outcome_of (Refused n) r t = refused n r.line
outcome_of Entries r t = listed r.chart.count (rows_in r.watch.state.rows t)
outcome_of Opening r t = listed r.chart.count (rows_in r.watch.state.rows t)
outcome_of Calls r t = listed r.chart.count (rows_in r.watch.state.rows t)

abbrev pub result_of : Progress → Outcome
result_of p = outcome_of p.run.stage p.run p.table

-- What the code goes by, part by part.

-- a run that goes on has room for the numbers of so many more lines
unfoldable pub HasLines : Run → ℕ → Type 0
HasLines r n = is_refused r.stage ≡ false → r.line + n < 2 ^ 64

-- and no more entries than a chart can have
unfoldable pub HasFew : Run → Type 0
HasFew r = is_refused r.stage ≡ false → r.chart.count ≤ 32

-- How far bytes have been read: what is to do from there is what was to do, and the bytes to keep are the same.
pub record Read (p q : Progress) (used : ℕ) (s : List ℕ) : Type 0 where
  pub inside : used ≤ length s
  pub after : after_bytes p s ≡ after_bytes q (drop used s)
  pub last : last_part (split 10 s) ≡ last_part (split 10 (drop used s))
  pub goes : is_refused q.run.stage ≡ false → is_refused p.run.stage ≡ false
  pub lines : is_refused q.run.stage ≡ false → q.run.line ≤ p.run.line + used
  pub reached : Reached q

-- what is left behind the last whole line
unfoldable pub settled_run : Run → ℕ → ℕ → Fed
settled_run r used n = cond (is_refused r.stage || leb 64 (n - used)) (record { run = unformed_run r.stage r; used = n }) (record { run = r; used = used })

-- the end of the input with so many bytes kept
unfoldable pub finished_run : Run → ℕ → Run
finished_run r kept = cond (eqb kept 0) (end_run r.stage r) (unformed_run r.stage r)

-- A listing asks nothing of a run, a report that the check lets watch and table through where the run is not refused.
abbrev pub Printable : Format → Run → List ℤ → Type 0
Printable Listing r t = Unit {0}
Printable Report r t = is_refused r.stage ≡ false → check_number r.chart r.watch.state t ≡ 0

-- what is printed of a report: its tallies, as many as there are entries, and the rows in use
abbrev pub reported_length : tally.Report → List ℕ → Option ℕ
reported_length p out = report_length (take p.entries p.tallies) p.rows out

abbrev pub reported_output : tally.Report → List ℕ → List ℕ
reported_output p out = report_output (take p.entries p.tallies) p.rows out

-- what is printed of watch and table: the listing of the rows in use, or the report on them
unfoldable pub table_length : Format → Run → List ℤ → List ℕ → Option ℕ
table_length Listing r t out = listing_length r.watch.state.rows t out
table_length Report r t out = reported_length (report_of r.chart.count (rows_in r.watch.state.rows t)) out

unfoldable pub table_output : Format → Run → List ℤ → List ℕ → List ℕ
table_output Listing r t out = listing_output r.watch.state.rows t out
table_output Report r t out = reported_output (report_of r.chart.count (rows_in r.watch.state.rows t)) out

-- what a run prints, and how many bytes
unfoldable pub length_at : Format → Stage → Run → List ℤ → List ℕ → Option ℕ
length_at f (Refused n) r t out = refusal_length n r.line out
length_at f Entries r t out = table_length f r t out
length_at f Opening r t out = table_length f r t out
length_at f Calls r t out = table_length f r t out

unfoldable pub output_at : Format → Stage → Run → List ℤ → List ℕ → List ℕ
output_at f (Refused n) r t out = refusal_output n r.line out
output_at f Entries r t out = table_output f r t out
output_at f Opening r t out = table_output f r t out
output_at f Calls r t out = table_output f r t out

abbrev pub printed_length : Format → Run → List ℤ → List ℕ → Option ℕ
printed_length f r t out = length_at f r.stage r t out

abbrev pub printed_output : Format → Run → List ℤ → List ℕ → List ℕ
printed_output f r t out = output_at f r.stage r t out
