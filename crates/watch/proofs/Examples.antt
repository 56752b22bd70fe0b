-- The calls on a watch, computed: which number comes first where two could be given, and what each call hands back. One list of cases and one
-- theorem for each kind of answer. What must come out was found by hand from document 01. No contract says as much, since the code and its contract share the definitions.
use Prim.Native.Nat.{ℕ, ◌-◌}
use Prim.Native.String.{String}
use mathlib.Core.Path.{◌≡◌, refl}
use mathlib.Core.Bool.{cond}
use mathlib.Core.List.{List, [], ◌∷◌, ◌++◌, map}
use lib.IntN.{ℤ, pos}
use lib.ListN.{length, replicate}
use Rattle.interval.specs.Instants.{is_instant, is_length, first_floor, is_mark_refused, is_forget_refused}
use Rattle.interval.specs.Conditions.{is_related, is_forbidding, has_length}
use Rattle.text.specs.Text.{split, lines}
use Rattle.text.specs.Quoted.{bytes, tabbed, unended, text}
use Rattle.decimal.specs.Spelling.{is_digit, all_digits, value_from, has_leading_zero, is_number, number_of, milliseconds_of, in_tenths, has_point, length_of, digits_within, spelled_number, signed}
use Rattle.chart.specs.Operators.{words, place_of, operator_of, edges_of, relation_of, length_test_of, kind_of, in_range, are_lower}
use Rattle.chart.specs.Records.{entry, with_code, event_line, with_operands, second_of, second_operand, operands_line, by_operator, operator_line, numbered, parsed_line, checked_entry, checked_line, answer_to}
use Rattle.chart.specs.Charts.{no_entries, with_entry, refused_chart, read_lines, or_no_line, read_chart, fault_in, entries_of, added_verdict, with_entries, read_added, entry_fits, all_below, is_usable}
use Rattle.chart.specs.declared.Chart.{Chart}
use Rattle.chart.specs.declared.Entry.{Entry}
use Rattle.model.specs.Capacity.{capacity}
use Rattle.model.specs.Reference.{event, clock, forget}
use Rattle.model.specs.Consistency.{is_rising}
use Rattle.model.specs.RowSteps.{extend_rows, close_rows, close_instants, keep_rows, forget_rows}
use Rattle.table.specs.Table.{rows_in, put_row, put_rows, are_zeros, zeroed}
use Rattle.table.specs.Operators.{operator_by, operators_of, arity_of}
use Rattle.consistency.specs.Consistency.{is_watch_in_range, is_table_row_consistent, are_consistent}
use Rattle.consistency.proofs.Examples as consistency
use Rattle.consistency.proofs.Examples.{chart_of, table, minus}
use Rattle.tree.specs.Tree.{row_bytes, reference_bytes, tree_within, tree_bytes}
use Rattle.tally.specs.Tally.{tally, tallies, counts, report_of, refused_report}
use Rattle.tally.specs.declared.Report.{Report}
use Rattle.closing.specs.Closed.{closed_rows}
use Rattle.forgetting.specs.Forgetting.{kept_rows, forgotten_table}
use Rattle.watch.specs.Steps.{Step, TreeStep, opening_step, check_number, checked, event_own, event_step, clock_own, clock_step, forget_own, forget_step, add_own, add_step, end_part, end_rows, tree_own, tree_step, report_step}
use Rattle.watch.specs.Histories as histories
use Rattle.watch.specs.Histories.{Call, call}
use Rattle.state.specs.declared.WatchState.{WatchState}
use Rattle.watch.specs.declared.Addition.{Addition}
use Rattle.watch.specs.declared.Part.{Part}

-- a watch: open instant, floor, count of events, count of rows, and the codes of the pending events; it has no entries
abbrev watch : ℤ → ℤ → ℕ → ℕ → List ℕ → WatchState
watch o f events rows ks = record { instant = o; floor = f; events = events; rows = rows; pending = length ks; codes = ks ++ replicate (64 - length ks) 0; entries = 0; since = replicate 32 (pos 0) }

-- the same with entries that count from these instants
abbrev counting : List ℤ → WatchState → WatchState
counting since w = record { instant = w.instant; floor = w.floor; events = w.events; rows = w.rows; pending = w.pending; codes = w.codes; entries = length since; since = since ++ replicate (32 - length since) (pos 0) }

-- the same with the chart's entries, which count from "the opening floor"
abbrev on : Chart → WatchState → WatchState
on chart w = counting (replicate chart.count (minus 1000000000)) w

-- "an empty watch ...: floor -1,000,000,000, counts 0, no events"; "an empty watch has none" of the entries
abbrev empty_at : ℤ → WatchState
empty_at o = watch o (minus 1000000000) 0 0 []

abbrev one_entry : Chart
one_entry = chart_of ("0 event 1" ∷ [])

abbrev no_entry : Chart
no_entry = chart_of []

-- Check calls: chart, watch and table, and the number that every call on them is refused with first, 0 for none.
pub record Check : Type 0 where
  pub chart : Chart
  pub watch : WatchState
  pub table : List ℤ
  pub number : ℕ

abbrev check : Chart → WatchState → List ℤ → ℕ → Check
check chart w t n = record { chart = chart; watch = w; table = t; number = n }

-- "14 a chart of no entries, of over 32, or with an entry breaking the operator table". An operator's code is its place in that table: 0 is event,
-- 1 seq, 14 lasts, and 18 is none.
abbrev charts : List Check
charts =
    of 0 [] 14 ∷
    of 1 (entry 0 255 0 ∷ []) 0 ∷
    of 1 (entry 0 256 0 ∷ []) 14 ∷
    of 1 (entry 0 1 1 ∷ []) 14 ∷
    of 1 (entry 18 0 0 ∷ []) 14 ∷
    of 2 (entry 0 1 0 ∷ entry 1 0 0 ∷ []) 0 ∷
    of 2 (entry 0 1 0 ∷ entry 1 1 0 ∷ []) 14 ∷
    of 2 (entry 0 1 0 ∷ entry 1 0 1 ∷ []) 14 ∷
    of 2 (entry 0 1 0 ∷ entry 14 0 2000000000 ∷ []) 0 ∷
    of 2 (entry 0 1 0 ∷ entry 14 0 2000000001 ∷ []) 14 ∷
    of 32 (replicate 32 (entry 0 1 0)) 0 ∷
    of 33 (replicate 32 (entry 0 1 0)) 14 ∷ []
  where
    of : ℕ → List Entry → ℕ → Check
    of count es n =
        let chart : Chart = record { count = count; entries = es ++ replicate (32 - length es) (entry 0 0 0) } in
        check chart (on chart (empty_at (pos 0))) [] n

-- "Calls on a watch check 14, 13": the chart has no entry, and the floor is above the open instant
abbrev first_chart : List Check
first_chart = check no_entry (watch (pos 0) (pos 1) 0 0 []) [] 14 ∷ check one_entry (on one_entry (watch (pos 0) (pos 1) 0 0 [])) [] 13 ∷ []

-- "13 watch or table out of joint": the cases of crate `consistency`. The codes of pending events are not looked at.
abbrev out_of_joint : List Check
out_of_joint = map as_check consistency.cases
  where
    as_check : consistency.Case → Check
    as_check c = check c.chart c.state c.table (cond c.consistent 0 13)

pub check_cases : List Check
check_cases = charts ++ first_chart ++ out_of_joint

pub checks : map (λ (c : Check). check_number c.chart c.watch c.table) check_cases ≡ map (λ (c : Check). c.number) check_cases
unfolding check_cases consistency.cases is_instant first_floor is_length is_related has_length split lines bytes tabbed unended text is_digit all_digits value_from has_leading_zero is_number number_of milliseconds_of in_tenths has_point length_of words place_of operator_of edges_of relation_of length_test_of kind_of in_range are_lower with_code event_line with_operands second_of second_operand operands_line by_operator operator_line numbered parsed_line checked_entry checked_line answer_to no_entries with_entry refused_chart read_lines or_no_line read_chart entry_fits all_below is_usable capacity rows_in are_zeros operator_by operators_of is_rising is_watch_in_range is_table_row_consistent are_consistent check_number
checks = refl

-- What a call hands back: its number, the watch and the table after it.
pub record Outcome : Type 0 where
  pub number : ℕ
  pub watch : WatchState
  pub table : List ℤ

abbrev outcome : ℕ → WatchState → List ℤ → Outcome
outcome n w t = record { number = n; watch = w; table = t }

abbrev pub of_step : Step → Outcome
of_step s = outcome s.answer.refusal s.answer.watch.state s.table

abbrev of_call : histories.Called → Outcome
of_call s = outcome s.number s.state.watch s.state.table

-- Openings: chart, table and instant, and what is handed back.
pub record Opening : Type 0 where
  pub chart : Chart
  pub table : List ℤ
  pub instant : ℤ
  pub expected : Outcome

abbrev opens : Chart → List ℤ → ℤ → Outcome → Opening
opens chart t o expected = record { chart = chart; table = t; instant = o; expected = expected }

-- two rows, and three numbers after the last row
abbrev used : List ℤ
used = table ("0 1 -1 0 0" ∷ "0 2 -1 3 3" ∷ "7 8 9" ∷ [])

abbrev cleared : List ℤ
cleared = table ("0 0 0 0 0" ∷ "0 0 0 0 0" ∷ "7 8 9" ∷ [])

pub opening_cases : List Opening
opening_cases =
    -- "Opening a watch fills all rows with zeros"; "Numbers after the last row the table can hold are never altered."
    opens one_entry used (pos 5) (outcome 0 (on one_entry (empty_at (pos 5))) cleared) ∷
    opens one_entry used (minus 1000000000) (outcome 0 (on one_entry (empty_at (minus 1000000000))) cleared) ∷
    opens one_entry used (pos 1000000000) (outcome 0 (on one_entry (empty_at (pos 1000000000))) cleared) ∷
    -- "A refused opening (14, then 8) returns an empty watch at instant 0: floor -1,000,000,000, counts 0, no events."
    opens one_entry used (minus 1000000001) (outcome 8 (empty_at (pos 0)) used) ∷
    opens one_entry used (pos 1000000001) (outcome 8 (empty_at (pos 0)) used) ∷
    opens no_entry used (pos 5) (outcome 14 (empty_at (pos 0)) used) ∷
    opens no_entry used (pos 1000000001) (outcome 14 (empty_at (pos 0)) used) ∷ []

pub openings : map (λ (c : Opening). of_step (opening_step c.chart c.table c.instant)) opening_cases ≡ map (λ (c : Opening). c.expected) opening_cases
unfolding opening_cases is_instant first_floor split lines bytes tabbed unended text is_digit all_digits value_from has_leading_zero is_number number_of milliseconds_of in_tenths has_point length_of words place_of operator_of kind_of in_range are_lower with_code event_line by_operator operator_line numbered parsed_line checked_entry checked_line answer_to no_entries with_entry refused_chart read_lines or_no_line read_chart entry_fits all_below is_usable capacity zeroed opening_step
openings = refl

-- Events, clock marks and forgets: chart, watch, table and call, and what is handed back.
pub record Called : Type 0 where
  pub chart : Chart
  pub watch : WatchState
  pub table : List ℤ
  pub call : Call
  pub expected : Outcome

abbrev takes : Chart → WatchState → List ℤ → Call → WatchState → List ℤ → Called
takes chart w t c w' t' = record { chart = chart; watch = on chart w; table = t; call = c; expected = outcome 0 (on chart w') t' }

-- "Every other refusal from 8 on returns the watch given. After a refusal all lent memory holds what it held before."
abbrev refuses : Chart → WatchState → List ℤ → Call → ℕ → Called
refuses chart w t c n = record { chart = chart; watch = on chart w; table = t; call = c; expected = outcome n (on chart w) t }

-- "Calls on a watch check 14, 13, then their own": the floor is above the open instant; there are as many events and as many of the open instant as may
-- be, and the mark and the forget are out of range
abbrev first_checks : List Called
first_checks =
    refuses no_entry inconsistent [] (event 1) 14 ∷ refuses one_entry inconsistent [] (event 1) 13 ∷ refuses one_entry consistent [] (event 1) 10 ∷
    refuses no_entry inconsistent [] (clock (pos 1000000001)) 14 ∷ refuses one_entry inconsistent [] (clock (pos 1000000001)) 13 ∷ refuses one_entry consistent [] (clock (pos 1000000001)) 8 ∷
    refuses no_entry inconsistent [] (forget (pos 1000000001)) 14 ∷ refuses one_entry inconsistent [] (forget (pos 1000000001)) 13 ∷ refuses one_entry consistent [] (forget (pos 1000000001)) 11 ∷ []
  where
    inconsistent : WatchState
    inconsistent = watch (pos 0) (pos 1) 1000000 0 (replicate 64 1)

    consistent : WatchState
    consistent = watch (pos 0) (pos 0) 1000000 0 (replicate 64 1)

-- "10 before 9"
abbrev event_calls : List Called
event_calls =
    refuses one_entry (watch (pos 0) (pos 0) 1000000 0 (replicate 64 1)) [] (event 1) 10 ∷
    refuses one_entry (watch (pos 0) (pos 0) 1000000 0 []) [] (event 1) 10 ∷
    refuses one_entry (watch (pos 0) (pos 0) 999999 0 (replicate 64 1)) [] (event 1) 9 ∷
    takes one_entry (watch (pos 0) (pos 0) 999999 0 (replicate 63 1)) [] (event 255) (watch (pos 0) (pos 0) 1000000 0 (replicate 63 1 ++ 255 ∷ [])) [] ∷ []

-- "8 before 12": one event of code 1 is pending, and there is room for no row
abbrev mark_order : List Called
mark_order =
    refuses one_entry pending_one [] (clock (pos 1000000001)) 8 ∷
    refuses one_entry pending_one [] (clock (minus 1000000001)) 8 ∷
    refuses one_entry pending_one [] (clock (pos 3)) 8 ∷
    refuses one_entry (pending_at (pos 999999999)) [] (clock (pos 1000000000)) 12 ∷
    refuses one_entry pending_one [] (clock (pos 4)) 12 ∷ []
  where
    pending_at : ℤ → WatchState
    pending_at o = watch o (pos 0) 1 0 (1 ∷ [])

    pending_one : WatchState
    pending_one = pending_at (pos 3)

-- Two events in sequence. Events of code 1 came at 1 and at 3; one of code 2, at 5, brings three rows more, of those in sequence the later start first
-- (request N7).
abbrev in_sequence : Chart
in_sequence = chart_of ("0 event 1" ∷ "1 event 2" ∷ "2 seq 0 1" ∷ [])

abbrev two_rows : List String
two_rows = "0 1 -1 1 1" ∷ "0 2 -1 3 3" ∷ []

abbrev five_rows : List String
five_rows = two_rows ++ "1 3 -1 5 5" ∷ "2 1 2 3 5" ∷ "2 0 2 1 5" ∷ []

-- "12 table full: the due rows, old and new together, exceed the rows the table can hold"; "Closing alters only the new rows."
abbrev marks : List Called
marks =
    takes in_sequence before (table (two_rows ++ replicate 3 "0 0 0 0 0" ++ "7 8 9" ∷ [])) (clock (pos 6)) (watch (pos 6) (pos 0) 3 5 []) (table (five_rows ++ "7 8 9" ∷ [])) ∷
    refuses in_sequence before (table (two_rows ++ replicate 2 "0 0 0 0 0" ++ "7 8 9" ∷ [])) (clock (pos 6)) 12 ∷
    takes in_sequence_short (watch (pos 5) (pos 0) 4 3 (2 ∷ [])) (table (three_rows ++ replicate 7 "0 0 0 0 0")) (clock (pos 6)) (watch (pos 6) (pos 0) 4 10 []) (table (three_rows ++ "1 4 -1 5 5" ∷ more_rows)) ∷
    refuses in_sequence_short (watch (pos 5) (pos 0) 4 3 (2 ∷ [])) (table (three_rows ++ replicate 6 "0 0 0 0 0")) (clock (pos 6)) 12 ∷ []
  where
    before : WatchState
    before = watch (pos 5) (pos 0) 3 2 (2 ∷ [])

    -- The same with two events at 3, and an entry that refers to the rows in sequence: of two that start alike, the one with the lower left row stands first.
    in_sequence_short : Chart
    in_sequence_short = chart_of ("0 event 1" ∷ "1 event 2" ∷ "2 seq 0 1" ∷ "3 atmost 2 0.4" ∷ [])

    three_rows : List String
    three_rows = "0 1 -1 1 1" ∷ "0 2 -1 3 3" ∷ "0 3 -1 3 3" ∷ []

    more_rows : List String
    more_rows = "2 1 3 3 5" ∷ "2 2 3 3 5" ∷ "2 0 3 1 5" ∷ "3 4 -1 3 5" ∷ "3 5 -1 3 5" ∷ "3 6 -1 1 5" ∷ []

-- A mark closes every instant before it (request N1): an event at 0, 2 later its delayed row, 3 later the one delayed again. That one is not due while
-- its end is the mark; on a table with room for two rows nothing of the jump stays.
abbrev jumps : List Called
jumps =
    takes delays opened (table (replicate 3 "0 0 0 0 0" ++ "7 8 9" ∷ [])) (clock (pos 6)) (watch (pos 6) (pos 0) 1 3 []) (table ("0 1 -1 0 0" ∷ "1 0 -1 0 2" ∷ "2 1 -1 0 5" ∷ "7 8 9" ∷ [])) ∷
    takes delays opened (table (replicate 3 "0 0 0 0 0")) (clock (pos 5)) (watch (pos 5) (pos 0) 1 2 []) (table ("0 1 -1 0 0" ∷ "1 0 -1 0 2" ∷ "0 0 0 0 0" ∷ [])) ∷
    refuses delays opened (table (replicate 2 "0 0 0 0 0" ++ "7 8 9" ∷ [])) (clock (pos 6)) 12 ∷
    takes delays (watch (pos 1) (pos 0) 1 1 []) (table ("0 1 -1 0 0" ∷ replicate 2 "0 0 0 0 0")) (clock (pos 6)) (watch (pos 6) (pos 0) 1 3 []) (table ("0 1 -1 0 0" ∷ "1 0 -1 0 2" ∷ "2 1 -1 0 5" ∷ [])) ∷ []
  where
    delays : Chart
    delays = chart_of ("0 event 1" ∷ "1 after 0 0.2" ∷ "2 after 1 0.3" ∷ [])

    opened : WatchState
    opened = watch (pos 0) (pos 0) 1 0 (1 ∷ [])

-- the watch after the mark that left five rows, with this floor and this many rows, and an event pending
abbrev five : ℤ → ℕ → WatchState
five floor n = watch (pos 6) floor 4 n (9 ∷ [])

-- "A forget f raises the floor to f, drops every row that starts before f, moves the others down in order, renumbers their references and fills the freed
-- rows with zeros."; "11 a forget below the floor, above the open instant or out of range"
abbrev forgets : List Called
forgets =
    takes in_sequence (five (pos 1) 5) (table five_rows) (forget (pos 1)) (five (pos 1) 5) (table five_rows) ∷
    takes in_sequence (five (pos 1) 5) (table (five_rows ++ "7 8 9" ∷ [])) (forget (pos 2)) (five (pos 2) 3) (table ("0 2 -1 3 3" ∷ "1 3 -1 5 5" ∷ "2 0 1 3 5" ∷ "0 0 0 0 0" ∷ "0 0 0 0 0" ∷ "7 8 9" ∷ [])) ∷
    takes in_sequence (five (pos 1) 5) (table five_rows) (forget (pos 6)) (five (pos 6) 0) (table (replicate 5 "0 0 0 0 0")) ∷
    refuses in_sequence (five (pos 1) 5) (table five_rows) (forget (pos 0)) 11 ∷
    refuses in_sequence (five (pos 1) 5) (table five_rows) (forget (pos 7)) 11 ∷
    refuses in_sequence (five (pos 1) 5) (table five_rows) (forget (minus 1000000001)) 11 ∷ []

-- "A recognition belongs to the table if it starts no earlier than that and the floor" (request N13): two entries, `seq` of the event with itself, of which the
-- second counts from 3. Events came at 1 and 3, and one comes at 5: the second gets the pair that starts at 3 alone. "fullness ... use[s] the entry's own
-- instant": there is room for these rows and no more. A row that starts before its entry's instant is out of joint.
abbrev later_entries : List Called
later_entries =
    at (table (two_rows ++ "1 0 1 1 3" ∷ replicate 4 "0 0 0 0 0")) (outcome 0 (after 7) (table (old ++ "0 3 -1 5 5" ∷ "1 1 3 3 5" ∷ "1 0 3 1 5" ∷ "2 1 3 3 5" ∷ []))) ∷
    at (table (old ++ replicate 3 "0 0 0 0 0")) (outcome 12 before (table (old ++ replicate 3 "0 0 0 0 0"))) ∷
    at (table ("0 1 -1 1 1" ∷ "0 2 -1 3 3" ∷ "2 0 1 1 3" ∷ replicate 4 "0 0 0 0 0")) (outcome 13 before (table ("0 1 -1 1 1" ∷ "0 2 -1 3 3" ∷ "2 0 1 1 3" ∷ replicate 4 "0 0 0 0 0"))) ∷ []
  where
    chart : Chart
    chart = chart_of ("0 event 1" ∷ "1 seq 0 0" ∷ "2 seq 0 0" ∷ [])

    old : List String
    old = two_rows ++ "1 0 1 1 3" ∷ []

    since : WatchState → WatchState
    since w = counting (minus 1000000000 ∷ minus 1000000000 ∷ pos 3 ∷ []) w

    before : WatchState
    before = since (watch (pos 5) (pos 0) 3 3 (1 ∷ []))

    after : ℕ → WatchState
    after n = since (watch (pos 6) (pos 0) 3 n [])

    at : List ℤ → Outcome → Called
    at t expected = record { chart = chart; watch = before; table = t; call = clock (pos 6); expected = expected }

pub call_cases : List Called
call_cases = first_checks ++ event_calls ++ mark_order ++ marks ++ jumps ++ forgets ++ later_entries

pub calls : map (λ (c : Called). of_call (call (record { watch = c.watch; table = c.table; chart = c.chart }) c.call)) call_cases ≡ map (λ (c : Called). c.expected) call_cases
unfolding call_cases is_instant first_floor is_length is_mark_refused is_forget_refused is_related is_forbidding has_length split lines bytes tabbed unended text is_digit all_digits value_from has_leading_zero is_number number_of milliseconds_of in_tenths has_point length_of words place_of operator_of length_test_of kind_of in_range are_lower with_code event_line with_operands second_of second_operand operands_line by_operator operator_line numbered parsed_line checked_entry checked_line answer_to no_entries with_entry refused_chart read_lines or_no_line read_chart entry_fits all_below is_usable capacity extend_rows close_rows close_instants keep_rows forget_rows rows_in put_row put_rows are_zeros zeroed operator_by operators_of is_rising is_watch_in_range is_table_row_consistent are_consistent checked event_own event_step closed_rows clock_own clock_step kept_rows forgotten_table forget_own forget_step call
calls = refl

-- Additions (request N13): chart, watch, table and lines, and the whole answer.
pub record Adding : Type 0 where
  pub chart : Chart
  pub watch : WatchState
  pub table : List ℤ
  pub lines : List ℕ
  pub expected : Addition

abbrev answer : ℕ → ℕ → WatchState → Chart → Addition
answer n line w chart = record { refusal = n; line = line; watch = record { state = w }; chart = chart }

-- "After 14 and 13, whose line is 0, bad lines, or none, give the chart reader's number and line, counted from the first added line, ..., and the old chart
-- and watch stay."
abbrev turns_back : Chart → WatchState → List String → ℕ → ℕ → Adding
turns_back chart w ls n line = record { chart = chart; watch = w; table = []; lines = text ls; expected = answer n line w chart }

-- "numbered on from the last entry"; "the open instant for added ones"
abbrev adds : List String → List ℤ → List String → List ℤ → Adding
adds before since ls since' = record { chart = chart_of before; watch = counting since now; table = []; lines = text ls; expected = answer 0 0 (counting since' now) (chart_of (before ++ ls)) }
  where
    now : WatchState
    now = watch (pos 5) (pos 2) 9 0 (1 ∷ 7 ∷ [])

abbrev thirty_two : Chart
thirty_two = record { count = 32; entries = replicate 32 (entry 0 1 0) }

pub adding_cases : List Adding
adding_cases =
    adds ("0 event 1" ∷ []) (minus 1000000000 ∷ []) ("1 event 2" ∷ "2 seq 0 1" ∷ []) (minus 1000000000 ∷ pos 5 ∷ pos 5 ∷ []) ∷
    adds ("0 event 1" ∷ "1 or 0 0" ∷ []) (minus 1000000000 ∷ pos 3 ∷ []) ("2 after 1 0.4" ∷ []) (minus 1000000000 ∷ pos 3 ∷ pos 5 ∷ []) ∷
    -- "1 at line 1 for none"; the second line bad, and the chart's own line before it is not counted
    turns_back one_entry (on one_entry (empty_at (pos 5))) [] 1 1 ∷
    turns_back one_entry (on one_entry (empty_at (pos 5))) ("1 event 2" ∷ "1 event 2" ∷ []) 4 2 ∷
    turns_back one_entry (on one_entry (empty_at (pos 5))) ("0 event 2" ∷ []) 4 1 ∷
    turns_back thirty_two (on thirty_two (empty_at (pos 5))) ("bad" ∷ []) 2 1 ∷
    -- 14 before 13 before the lines; "A watch with another number of entries than the chart is out of joint"
    turns_back no_entry (watch (pos 0) (pos 1) 0 0 []) ("bad" ∷ []) 14 0 ∷
    turns_back one_entry (on one_entry (watch (pos 0) (pos 1) 0 0 [])) ("bad" ∷ []) 13 0 ∷
    turns_back one_entry (counting (minus 1000000000 ∷ minus 1000000000 ∷ []) (empty_at (pos 5))) ("1 event 2" ∷ []) 13 0 ∷
    turns_back one_entry (empty_at (pos 5)) ("1 event 2" ∷ []) 13 0 ∷ []

pub additions : map (λ (c : Adding). add_step c.chart c.watch c.table c.lines) adding_cases ≡ map (λ (c : Adding). c.expected) adding_cases
unfolding adding_cases is_instant first_floor is_length split lines bytes tabbed unended text is_digit all_digits value_from has_leading_zero is_number number_of milliseconds_of in_tenths has_point length_of words place_of operator_of edges_of relation_of length_test_of kind_of in_range are_lower with_code event_line with_operands second_of second_operand operands_line by_operator operator_line numbered parsed_line checked_entry checked_line answer_to no_entries with_entry refused_chart read_lines or_no_line read_chart fault_in entries_of added_verdict with_entries read_added entry_fits all_below is_usable capacity rows_in are_zeros operator_by operators_of is_rising is_watch_in_range is_table_row_consistent are_consistent check_number add_own add_step
additions = refl

-- Trees of the five rows: chart, watch, row and output lent; the number, the length and the output after it.
pub record Written : Type 0 where
  pub number : ℕ
  pub length : ℕ
  pub out : List ℕ

abbrev written : ℕ → ℕ → String → Written
written n l s = record { number = n; length = l; out = bytes s }

abbrev pub of_tree : TreeStep → Written
of_tree s = record { number = s.answer.refusal; length = s.answer.length; out = s.out }

pub record Tree : Type 0 where
  pub chart : Chart
  pub watch : WatchState
  pub row : ℕ
  pub out : List ℕ
  pub expected : Written

abbrev tree : Chart → WatchState → ℕ → String → Written → Tree
tree chart w i out expected = record { chart = chart; watch = on chart w; row = i; out = bytes out; expected = expected }

pub tree_cases : List Tree
tree_cases =
    -- "A tree is written `e` and serial for an event; `<L,R>` for two"; "Its length is handed back and the output past it stays."
    tree in_sequence (five (pos 0) 5) 0 "....." (written 0 2 "e1...") ∷
    tree in_sequence (five (pos 0) 5) 3 "........." (written 0 7 "<e2,e3>..") ∷
    tree in_sequence (five (pos 0) 5) 4 "......." (written 0 7 "<e1,e3>") ∷
    -- "a refused tree returns the number and length 0"; "After a refusal all lent memory holds what it held before."
    tree in_sequence (five (pos 0) 5) 4 "......" (written 16 0 "......") ∷
    tree in_sequence (five (pos 0) 5) 5 "........." (written 15 0 ".........") ∷
    -- "14, 13, then their own: ... 15 before 16"
    tree in_sequence (five (pos 0) 5) 5 "" (written 15 0 "") ∷
    tree in_sequence (five (pos 7) 5) 5 "" (written 13 0 "") ∷
    tree no_entry (five (pos 7) 5) 5 "" (written 14 0 "") ∷ []

pub trees : map (λ (c : Tree). of_tree (tree_step c.chart c.watch (table five_rows) c.row c.out)) tree_cases ≡ map (λ (c : Tree). c.expected) tree_cases
unfolding tree_cases is_instant first_floor is_related split lines bytes tabbed unended text is_digit all_digits value_from has_leading_zero is_number number_of milliseconds_of in_tenths has_point length_of digits_within spelled_number signed words place_of operator_of kind_of in_range are_lower with_code event_line with_operands second_of second_operand operands_line by_operator operator_line numbered parsed_line checked_entry checked_line answer_to no_entries with_entry refused_chart read_lines or_no_line read_chart entry_fits all_below is_usable capacity rows_in are_zeros operator_by operators_of is_rising is_watch_in_range is_table_row_consistent are_consistent arity_of row_bytes reference_bytes tree_within tree_bytes check_number tree_own tree_step
trees = refl

-- Reads of the five rows: chart, watch and end; the first row of the part, how many rows it has, and the part.
pub record Found : Type 0 where
  pub rows : Part
  pub part : List ℤ

abbrev found : ℕ → ℕ → List String → Found
found first count rs = record { rows = record { first = first; count = count }; part = table rs }

pub record Read : Type 0 where
  pub chart : Chart
  pub watch : WatchState
  pub end : ℤ
  pub expected : Found

abbrev reads : Chart → WatchState → ℤ → Found → Read
reads chart w e expected = record { chart = chart; watch = on chart w; end = e; expected = expected }

pub read_cases : List Read
read_cases =
    -- "The rows with a given end are handed back as that part of the caller's table; it may be empty."
    reads in_sequence (five (pos 0) 5) (pos 1) (found 0 1 ("0 1 -1 1 1" ∷ [])) ∷
    reads in_sequence (five (pos 0) 5) (pos 5) (found 2 3 ("1 3 -1 5 5" ∷ "2 1 2 3 5" ∷ "2 0 2 1 5" ∷ [])) ∷
    reads in_sequence (five (pos 0) 5) (pos 4) (found 2 0 []) ∷
    reads in_sequence (five (pos 0) 5) (pos 6) (found 5 0 []) ∷
    -- "A refused read returns an empty part"
    reads in_sequence (five (pos 7) 5) (pos 5) (found 0 0 []) ∷
    reads no_entry (five (pos 0) 5) (pos 5) (found 0 0 []) ∷ []

pub parts : map (λ (c : Read). record { rows = end_rows c.chart c.watch (table five_rows) c.end; part = end_part c.chart c.watch (table five_rows) c.end }) read_cases ≡ map (λ (c : Read). c.expected) read_cases
unfolding read_cases is_instant first_floor is_related split lines bytes tabbed unended text is_digit all_digits value_from has_leading_zero is_number number_of milliseconds_of in_tenths has_point length_of words place_of operator_of kind_of in_range are_lower with_code event_line with_operands second_of second_operand operands_line by_operator operator_line numbered parsed_line checked_entry checked_line answer_to no_entries with_entry refused_chart read_lines or_no_line read_chart entry_fits all_below is_usable capacity rows_in are_zeros operator_by operators_of is_rising is_watch_in_range is_table_row_consistent are_consistent check_number end_part end_rows
parts = refl

-- Reports on the five rows (request N3): chart and watch; the report.
pub record Reporting : Type 0 where
  pub chart : Chart
  pub watch : WatchState
  pub expected : Report

abbrev reports : Chart → WatchState → Report → Reporting
reports chart w expected = record { chart = chart; watch = on chart w; expected = expected }

abbrev report : ℕ → ℕ → ℕ → List ℕ → Report
report entries rows read tallies = record { refusal = 0; entries = entries; rows = rows; read = read; tallies = tallies ++ replicate (32 - length tallies) 0 }

abbrev only_number : ℕ → Report
only_number n = record { refusal = n; entries = 0; rows = 0; read = 0; tallies = replicate 32 0 }

pub report_cases : List Reporting
report_cases =
    -- each entry's number of rows, the rows in use, and the rows read
    reports in_sequence (five (pos 0) 5) (report 3 5 5 (2 ∷ 1 ∷ 2 ∷ [])) ∷
    -- an entry without rows; as many rows are read for four entries as for three
    reports (chart_of ("0 event 1" ∷ "1 event 2" ∷ "2 seq 0 1" ∷ "3 event 9" ∷ [])) (five (pos 0) 5) (report 4 5 5 (2 ∷ 1 ∷ 2 ∷ 0 ∷ [])) ∷
    -- "Refused (14, 13), the library's report gives only the number": the floor is above the open instant; the chart has no entry
    reports in_sequence (five (pos 7) 5) (only_number 13) ∷
    reports no_entry (five (pos 7) 5) (only_number 14) ∷ []

pub reported : map (λ (c : Reporting). report_step c.chart c.watch (table five_rows)) report_cases ≡ map (λ (c : Reporting). c.expected) report_cases
unfolding report_cases is_instant first_floor is_related split lines bytes tabbed unended text is_digit all_digits value_from has_leading_zero is_number number_of milliseconds_of in_tenths has_point length_of words place_of operator_of kind_of in_range are_lower with_code event_line with_operands second_of second_operand operands_line by_operator operator_line numbered parsed_line checked_entry checked_line answer_to no_entries with_entry refused_chart read_lines or_no_line read_chart entry_fits all_below is_usable capacity rows_in are_zeros operator_by operators_of is_rising is_watch_in_range is_table_row_consistent are_consistent check_number tally tallies counts report_of refused_report report_step
reported = refl
