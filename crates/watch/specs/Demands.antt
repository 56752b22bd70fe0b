-- The three demands of the request, said of the step definitions; no proof stands here. proofs/Demands.antt proves each.
-- The step definitions are what the contracts of the calls cite, so that what is said here holds of the code.
use Rattle.std.specs.Prelude.{ℕ, ◌*◌, ◌-◌, ◌≤◌, ◌≡◌, Bool, true, false, not, ◌&&◌, ◌⊎◌, ◌↔◌, List, [], ◌∷◌, ◌++◌, map, T, eqb, ℤ, pos, length, take, drop, replicate}
use Rattle.std.specs.Int.Signed.{le_z, lt_z}
use Rattle.interval.specs.Instants.{is_instant, eq_z}
use Rattle.chart.specs.Charts.{is_usable, no_entries, add_line, read_chart, read_added}
use Rattle.chart.specs.declared.Chart.{Chart}
use Rattle.chart.specs.declared.ChartAnswer.{ChartAnswer}
use Rattle.model.specs.Lists.{keep}
use Rattle.model.specs.Recognitions.{Recognition, entry_of, start_of, end_of}
use Rattle.model.specs.Order.{before, since_of, listing, as_rows}
use Rattle.model.specs.Reference.{Model, opening, step, run, numbers_of, rows_of, is_at}
use Rattle.model.specs.Statements.{◌∈◌, Sorted, IsRecognition, Reads}
use Rattle.model.specs.Reference as ref
use Rattle.table.specs.Table.{rows_in, flat, room_in, table_of}
use Rattle.table.specs.Operators.{operators_of, reading_of}
use Rattle.tree.specs.Tree.{recognition_bytes}
use Rattle.tally.specs.Tally.{sum, report_of, refused_report}
use Rattle.tally.specs.declared.Report.{Report}
use Rattle.watch.specs.Steps.{empty_watch, opening_step, check_number, add_step, end_part, end_rows, row_part, taken_tree, tree_step, report_step}
use Rattle.watch.specs.Histories.{Call, State, call, after, answers, opened}
use Rattle.state.specs.declared.WatchState.{WatchState}
use Rattle.watch.specs.declared.Addition.{Addition}

-- A history: an opening of this chart, table and instant, and then these calls. Watch, table and chart after it; and the reference model, document 01's
-- book, which is fed the chart, the calls and the number of rows the table can hold.
abbrev pub history : Chart → List ℤ → ℤ → List Call → State
history chart t o calls = after (opened chart t o) calls

abbrev pub model_after : Chart → List ℤ → ℤ → List Call → Model
model_after chart t o calls = run (step reading_of (room_in t)) (opening (operators_of chart) o).state calls

-- the recognitions that the model's rows are written from, in the order of rows
abbrev pub listed : Model → List Recognition
listed m = listing m.chart m.since m.events m.floor m.open_instant

-- "After every such list, the empty one too, the watch has the book's open instant, floor, count of events, number of rows and events of the open
-- instant in their order. The rows in use are the book's, number for number; the others are zeros; the numbers after the last row the table can
-- hold are those from before the opening. A row's references, followed down, give its recognition's own tree." And a call for the tree of a row
-- writes that recognition's bytes, where the output lent is long enough: "Its length is handed back and the output past it stays." "The one chart of a history
-- is the opened one with its additions", and the book "keeps each entry's instant as the watch does" (request N13): behind the entries' the watch has
-- zeros. A report gives for each entry the number of the book's rows of that entry, and their number for the rows in use and the rows read (request N3).
pub record FollowsModel (t : List ℤ) (s : State) (m : Model) : Type 0 where
  pub instant : s.watch.instant ≡ m.open_instant
  pub floor : s.watch.floor ≡ m.floor
  pub chart : operators_of s.chart ≡ m.chart
  pub entries : s.watch.entries ≡ length m.chart
  pub since : s.watch.since ≡ m.since ++ replicate (32 - length m.chart) (pos 0)
  pub events : s.watch.events ≡ length m.events
  pub rows : s.watch.rows ≡ length (rows_of m)
  pub pending : take s.watch.pending s.watch.codes ≡ map (λ e. e.code) (keep (is_at m.open_instant) m.events)
  pub pending_count : s.watch.pending ≡ length (keep (is_at m.open_instant) m.events)
  pub table : s.table ≡ table_of (room_in t) (drop (room_in t * 5) t) (rows_of m)
  pub trees : (us vs : List Recognition) (u : Recognition) → listed m ≡ us ++ u ∷ vs → Reads (rows_in s.watch.rows s.table) (length us) u
  pub bytes : (us vs : List Recognition) (u : Recognition) (out : List ℕ) → listed m ≡ us ++ u ∷ vs → length (recognition_bytes u) ≤ length out → tree_step s.chart s.watch s.table (length us) out ≡ taken_tree (recognition_bytes u) out
  pub report : report_step s.chart s.watch s.table ≡ report_of (length m.chart) (rows_of m)

-- of a history: its opening is accepted, its state follows the model; "Each call was accepted, or refused with a number, as in the book."
pub record HistoryFollows (chart : Chart) (t : List ℤ) (o : ℤ) (calls : List Call) : Type 0 where
  pub accepted : (opening_step chart t o).answer.refusal ≡ 0
  pub follows : FollowsModel t (history chart t o calls) (model_after chart t o calls)
  pub numbers : answers (opened chart t o) calls ≡ numbers_of (step reading_of (room_in t)) (opening (operators_of chart) o).state calls

-- Demand 3, for every chart that 14 lets through, every table, every opening instant in range and every list of calls
abbrev pub Demand3 : Type 0
Demand3 = (chart : Chart) → is_usable chart ≡ true → (t : List ℤ) (o : ℤ) → is_instant o ≡ true → (calls : List Call) → HistoryFollows chart t o calls

-- The numbers that each call is refused with. "A refused opening (14, then 8)"
abbrev pub opening_numbers : List ℕ
opening_numbers = 14 ∷ 8 ∷ []

-- "Calls on a watch check 14, 13, then their own: 10 before 9, 8 before 12, 15 before 16."; "11 a forget below the floor, above the open instant or
-- out of range"
abbrev pub check_numbers : List ℕ
check_numbers = 14 ∷ 13 ∷ []

-- "1 no line; 2 a 33rd line; 3 a line not of the form above; 4 entry number not the next; 5 operand not lower; 6 code or length out of range";
-- "in a line 2, 3, 4, 6, 5"
abbrev pub line_numbers : List ℕ
line_numbers = 2 ∷ 3 ∷ 4 ∷ 6 ∷ 5 ∷ []

abbrev pub chart_numbers : List ℕ
chart_numbers = 1 ∷ line_numbers

abbrev pub call_numbers : Call → List ℕ
call_numbers (ref.event k) = check_numbers ++ 10 ∷ 9 ∷ []
call_numbers (ref.clock x) = check_numbers ++ 8 ∷ 12 ∷ []
call_numbers (ref.forget f) = check_numbers ++ 11 ∷ []
call_numbers (ref.add lines) = check_numbers ++ chart_numbers

abbrev pub tree_numbers : List ℕ
tree_numbers = check_numbers ++ 15 ∷ 16 ∷ []

-- "Returned: the number, the line counted from 1 (line 1 for refusal 1) and a chart of no entries"; "refusal number and line out, both 0 for a chart
-- taken"; of added lines "the old chart" (request N13): `kept` is the chart that a refusal hands back
pub record ChartAnswered (numbers : List ℕ) (kept : Chart) (a : ChartAnswer) : Type 0 where
  pub number : a.refusal ∈ (0 ∷ numbers)
  pub together : (a.refusal ≡ 0) ↔ (a.line ≡ 0)
  pub none : (a.refusal ≡ 0 → ⊥) → a.chart ≡ kept

-- "After 14 and 13, whose line is 0, bad lines, or none, give the chart reader's number and line": the line is 0 where the check refuses, or nothing does
abbrev pub LineHolds : ℕ → Addition → Type 0
LineHolds check x = (x.line ≡ 0) ↔ ((x.refusal ≡ 0) ⊎ (check ≡ 0 → ⊥))

-- Demand 1: "every call ... refuses by a listed number what it cannot take; a refused event, mark or forget hands back the watch it got, and no refusal
-- alters a lent byte". A read cannot alter the table it is lent. Crate log has the demand for a line of the log.
pub record Demand1 : Type 0 where
  -- 0, or a number that the call is refused with
  pub calls_numbered : (s : State) (c : Call) → (call s c).number ∈ (0 ∷ call_numbers c)
  pub openings_numbered : (chart : Chart) (t : List ℤ) (o : ℤ) → (opening_step chart t o).answer.refusal ∈ (0 ∷ opening_numbers)
  pub checks_numbered : (chart : Chart) (w : WatchState) (t : List ℤ) → check_number chart w t ∈ (0 ∷ check_numbers)
  pub trees_numbered : (chart : Chart) (w : WatchState) (t : List ℤ) (i : ℕ) (out : List ℕ) → (tree_step chart w t i out).answer.refusal ∈ (0 ∷ tree_numbers)
  pub reports_numbered : (chart : Chart) (w : WatchState) (t : List ℤ) → (report_step chart w t).refusal ∈ (0 ∷ check_numbers)
  pub charts : (s : List ℕ) → ChartAnswered chart_numbers no_entries (read_chart s)
  pub chart_lines : (c : Chart) (s : List ℕ) → ChartAnswered line_numbers no_entries (add_line c s)
  pub added_lines : (c : Chart) (s : List ℕ) → ChartAnswered chart_numbers c (read_added c s)
  pub addition_lines : (chart : Chart) (w : WatchState) (t : List ℤ) (s : List ℕ) → LineHolds (check_number chart w t) (add_step chart w t s)
  -- "Every other refusal from 8 on returns the watch given. After a refusal all lent memory holds what it held before." Of an addition "the old chart and watch
  -- stay"
  pub calls : (s : State) (c : Call) → ((call s c).number ≡ 0 → ⊥) → (call s c).state ≡ s
  -- "A refused opening (14, then 8) returns an empty watch at instant 0"
  pub openings : (chart : Chart) (t : List ℤ) (o : ℤ) → ((opening_step chart t o).answer.refusal ≡ 0 → ⊥) → ((opening_step chart t o).answer.watch ≡ empty_watch (pos 0)) × ((opening_step chart t o).table ≡ t)
  -- "A refused read returns an empty part, and a check call beside it gives the number"
  pub reads : (chart : Chart) (w : WatchState) (t : List ℤ) (e : ℤ) → (check_number chart w t ≡ 0 → ⊥) → (end_part chart w t e ≡ []) × (end_rows chart w t e ≡ row_part 0 0)
  -- "a refused tree returns the number and length 0"
  pub trees : (chart : Chart) (w : WatchState) (t : List ℤ) (i : ℕ) (out : List ℕ) → ((tree_step chart w t i out).answer.refusal ≡ 0 → ⊥) → ((tree_step chart w t i out).answer.length ≡ 0) × ((tree_step chart w t i out).out ≡ out)
  -- "Refused (14, 13), the library's report gives only the number" (request N3): that of the check
  pub reports : (chart : Chart) (w : WatchState) (t : List ℤ) → ((report_step chart w t).refusal ≡ 0 → ⊥) → report_step chart w t ≡ refused_report (check_number chart w t)

-- "The total equals ... the sum of the lines"; "how many rows it read, those read for 13 apart, which is the number in use, whatever the number of entries"
-- (request N3): of every report that is not refused. Crate program has the rest of the sentence, "and the rows that a listing prints".
pub record ReportAdds (w : WatchState) (r : Report) : Type 0 where
  pub sum : sum r.tallies ≡ r.rows
  pub total : r.rows ≡ w.rows
  pub read : r.read ≡ w.rows

abbrev pub ReportHolds : Type 0
ReportHolds = (chart : Chart) (w : WatchState) (t : List ℤ) → check_number chart w t ≡ 0 → ReportAdds w (report_step chart w t)

-- "The rows with a given end are handed back as that part of the caller's table": where the read is not refused the part has each row with that
-- end, none besides, in their order.
abbrev pub EndPartHolds : Type 0
EndPartHolds = (chart : Chart) (w : WatchState) (t : List ℤ) (e : ℤ) → check_number chart w t ≡ 0 → end_part chart w t e ≡ flat (keep (λ r. eq_z r.end e) (rows_in w.rows t))

-- nothing has been forgotten: no forget of the list was accepted
abbrev pub is_forget : Call → Bool
is_forget (ref.event k) = false
is_forget (ref.clock x) = false
is_forget (ref.forget f) = true
is_forget (ref.add lines) = false

unfoldable pub nothing_forgotten : State → List Call → Bool
nothing_forgotten s [] = true
nothing_forgotten s (c ∷ cs) = not (is_forget c && eqb (call s c).number 0) && nothing_forgotten (call s c).state cs

-- the rows in use are as many as ts has, and are its rows; ts has each recognition over the closed instants, those before the open one, that starts no earlier
-- than its entry counts, one time, none besides, in the order of rows
pub record HoldsRecognitions (s : State) (m : Model) : Type 0 where
  pub ts : List Recognition
  pub rows : s.watch.rows ≡ length ts
  pub in_use : take (s.watch.rows * 5) s.table ≡ flat (as_rows ts)
  pub increasing : Sorted before ts
  pub members : (u : Recognition) → (u ∈ ts) ↔ (IsRecognition (operators_of s.chart) m.events u × T (le_z (since_of m.since (entry_of u)) (start_of u)) × T (lt_z (end_of u) s.watch.instant))

-- Demand 2: "While nothing has been forgotten, in a history as 3 has it, the table after each accepted clock mark holds, for each chart entry, the
-- recognitions that the published definition gives for the closed instants: each of them one time, none besides, in the stated order." It is so
-- after every call, an accepted clock mark among them, which makes its instant the open one. "A recognition belongs to the table if it starts no earlier than
-- that and the floor; demands 2 and 3 ask for these and bar the earlier ones" (request N13): those that start before their entry's instant.
abbrev pub Demand2 : Type 0
Demand2 = (chart : Chart) → is_usable chart ≡ true → (t : List ℤ) (o : ℤ) → is_instant o ≡ true → (calls : List Call) → nothing_forgotten (opened chart t o) calls ≡ true → HoldsRecognitions (history chart t o calls) (model_after chart t o calls)
