-- What each call on a watch answers, and what the lent memory holds after it, for every watch, chart, table and argument. Document 01,
-- "Instants, events, rows", "Who can be turned back, and with which number" and "Reading".
use Rattle.std.specs.Prelude.{ℕ, ◌*◌, ◌-◌, cond, List, [], ◌++◌, ltb, leb, eqb, ℤ, pos, length, drop}
use Rattle.interval.specs.Instants.{is_instant, is_mark_refused, is_forget_refused}
use Rattle.chart.specs.Charts.{is_usable, read_added}
use Rattle.chart.specs.declared.Chart.{Chart}
use Rattle.state.specs.State.{empty_state, open_state, extended, with_event, marked, raised}
use Rattle.state.specs.declared.WatchState.{WatchState}
use Rattle.table.specs.Table.{rows_in, put_rows, zeroed, part, room_in}
use Rattle.table.specs.Operators.{operators_of}
use Rattle.table.specs.Ends.{ending_before, ending_by}
use Rattle.consistency.specs.Consistency.{are_consistent}
use Rattle.closing.specs.Closed.{closed_rows}
use Rattle.forgetting.specs.Forgetting.{kept_rows, forgotten_table}
use Rattle.tree.specs.Tree.{tree_bytes}
use Rattle.tally.specs.Tally.{report_of, refused_report}
use Rattle.tally.specs.declared.Report.{Report}
use Rattle.watch.specs.declared.Watch.{Watch}
use Rattle.watch.specs.declared.Answer.{Answer}
use Rattle.watch.specs.declared.Addition.{Addition}
use Rattle.watch.specs.declared.Part.{Part}
use Rattle.watch.specs.declared.TreeAnswer.{TreeAnswer}

-- the answer of a call and the table after it
pub record Step : Type 0 where
  pub answer : Answer
  pub table : List ℤ

-- a watch that holds these numbers
abbrev pub holding : WatchState → Watch
holding w = record { state = w }

abbrev pub answered : ℕ → WatchState → Answer
answered n w = record { refusal = n; watch = holding w }

-- "Every other refusal from 8 on returns the watch given. After a refusal all lent memory holds what it held before."
abbrev pub refused_step : ℕ → WatchState → List ℤ → Step
refused_step n w t = record { answer = answered n w; table = t }

abbrev pub taken_step : WatchState → List ℤ → Step
taken_step w t = record { answer = answered 0 w; table = t }

-- "an empty watch ...: floor -1,000,000,000, counts 0, no events"
abbrev pub empty_watch : ℤ → Watch
empty_watch o = holding (empty_state o)

-- "Opening a watch fills all rows with zeros"; each entry counts from "the opening floor" (request N13). "A refused opening (14, then 8) returns an empty watch at instant 0"
unfoldable pub opening_step : Chart → List ℤ → ℤ → Step
opening_step chart t o =
    cond (is_usable chart)
    (cond (is_instant o) (taken_step (open_state chart.count o) (zeroed 0 (room_in t * 5) t)) (refused_step 8 (empty_state (pos 0)) t))
    (refused_step 14 (empty_state (pos 0)) t)

-- "Calls on a watch check 14, 13, then their own"
unfoldable pub check_number : Chart → WatchState → List ℤ → ℕ
check_number chart w t = cond (is_usable chart) (cond (are_consistent chart w t) 0 13) 14

unfoldable pub checked : Chart → WatchState → List ℤ → Step → Step
checked chart w t own = cond (is_usable chart) (cond (are_consistent chart w t) own (refused_step 13 w t)) (refused_step 14 w t)

-- "10 before 9"
unfoldable pub event_own : WatchState → ℕ → Answer
event_own w k = cond (leb 1000000 w.events) (answered 10 w) (cond (leb 64 w.pending) (answered 9 w) (answered 0 (with_event w k)))

unfoldable pub event_step : Chart → WatchState → List ℤ → ℕ → Step
event_step chart w t k = checked chart w t (record { answer = event_own w k; table = t })

-- "8 ... a clock mark out of range or not after the open instant; 12 table full"
unfoldable pub clock_own : Chart → WatchState → List ℤ → ℤ → Step
clock_own chart w t x =
    cond (is_mark_refused w.instant x) (refused_step 8 w t)
    (cond (ltb (room_in t) (length (closed_rows chart w x t))) (refused_step 12 w t)
    (taken_step (marked w x (length (closed_rows chart w x t))) (put_rows w.rows (drop w.rows (closed_rows chart w x t)) t)))

unfoldable pub clock_step : Chart → WatchState → List ℤ → ℤ → Step
clock_step chart w t x = checked chart w t (clock_own chart w t x)

-- "11 a forget below the floor, above the open instant or out of range"
unfoldable pub forget_own : Chart → WatchState → List ℤ → ℤ → Step
forget_own chart w t f =
    cond (is_forget_refused w.floor w.instant f) (refused_step 11 w t)
    (taken_step (raised w f (length (kept_rows chart w t f))) (forgotten_table chart w t f))

unfoldable pub forget_step : Chart → WatchState → List ℤ → ℤ → Step
forget_step chart w t f = checked chart w t (forget_own chart w t f)

-- what an addition answers; it alters no table
abbrev pub addition : ℕ → ℕ → WatchState → Chart → Addition
addition n line w chart = record { refusal = n; line = line; watch = holding w; chart = chart }

-- "bad lines, or none, give the chart reader's number and line, counted from the first added line, ..., and the old chart and watch stay"; the entries
-- of the others count from "the open instant" (request N13)
unfoldable pub add_own : Chart → WatchState → List ℕ → Addition
add_own chart w s =
    let a = read_added chart s in
    cond (eqb a.refusal 0) (addition 0 0 (extended w (a.chart.count - chart.count)) a.chart) (addition a.refusal a.line w chart)

-- "After 14 and 13, whose line is 0"
unfoldable pub add_step : Chart → WatchState → List ℤ → List ℕ → Addition
add_step chart w t s = cond (eqb (check_number chart w t) 0) (add_own chart w s) (addition (check_number chart w t) 0 w chart)

-- "The rows with a given end are handed back as that part of the caller's table; it may be empty." "A refused read returns an empty part, and
-- a check call beside it gives the number". Rows stand by end, so that they are the ones from the first that does not end before e.
unfoldable pub end_part : Chart → WatchState → List ℤ → ℤ → List ℤ
end_part chart w t e = cond (eqb (check_number chart w t) 0) (part (ending_before w.rows e t * 5) (ending_by w.rows e t * 5) t) []

-- the same as row numbers: the first row of the part and how many it has
abbrev pub row_part : ℕ → ℕ → Part
row_part first count = record { first = first; count = count }

unfoldable pub end_rows : Chart → WatchState → List ℤ → ℤ → Part
end_rows chart w t e = cond (eqb (check_number chart w t) 0) (row_part (ending_before w.rows e t) (ending_by w.rows e t - ending_before w.rows e t)) (row_part 0 0)

-- what a call for a tree answers and the output after it
pub record TreeStep : Type 0 where
  pub answer : TreeAnswer
  pub out : List ℕ

-- "a refused tree returns the number and length 0"; "After a refusal all lent memory holds what it held before."
abbrev pub refused_tree : ℕ → List ℕ → TreeStep
refused_tree n out = record { answer = record { refusal = n; length = 0 }; out = out }

-- "Its length is handed back and the output past it stays."
abbrev pub taken_tree : List ℕ → List ℕ → TreeStep
taken_tree bytes out = record { answer = record { refusal = 0; length = length bytes }; out = bytes ++ drop (length bytes) out }

-- "15 row number not in use; 16 tree longer than the output lent"; "15 before 16"
unfoldable pub tree_own : Chart → WatchState → List ℤ → ℕ → List ℕ → TreeStep
tree_own chart w t i out =
    cond (leb w.rows i) (refused_tree 15 out)
    (cond (ltb (length out) (length (tree_bytes (operators_of chart) t i))) (refused_tree 16 out)
    (taken_tree (tree_bytes (operators_of chart) t i) out))

unfoldable pub tree_step : Chart → WatchState → List ℤ → ℕ → List ℕ → TreeStep
tree_step chart w t i out = cond (eqb (check_number chart w t) 0) (tree_own chart w t i out) (refused_tree (check_number chart w t) out)

-- "Refused (14, 13), the library's report gives only the number." (request N3) Otherwise it is that of the rows in use under the chart's entries.
unfoldable pub report_step : Chart → WatchState → List ℤ → Report
report_step chart w t = cond (eqb (check_number chart w t) 0) (report_of chart.count (rows_in w.rows t)) (refused_report (check_number chart w t))
