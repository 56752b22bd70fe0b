-- Watches and tables, each cause of document 01's paragraph "Out of joint" beside its nearest neighbour that is none. One list of cases, one
-- theorem that the checker computes. What must come out was found by hand from document 01 and requests N1, N5 and N13. No contract says as much,
-- since the code and its contract share the definitions. Crate `watch` has the same list answered with 13 and 0.
use Prim.Native.Nat.{ℕ, ◌-◌}
use Prim.Native.String.{String}
use mathlib.Core.Path.{◌≡◌, refl}
use mathlib.Core.Bool.{Bool, true, false, cond}
use mathlib.Core.List.{List, [], ◌∷◌, ◌++◌, map}
use Rattle.std.specs.Prelude.{Option, Some, None}
use lib.IntN.{ℤ, pos, neg_ℤ}
use lib.Dec.{eqb}
use lib.ListN.{length, get_or, drop, replicate}
use Rattle.interval.specs.Instants.{is_instant, is_length, first_floor}
use Rattle.interval.specs.Conditions.{is_related, has_length}
use Rattle.text.specs.Text.{split, lines}
use Rattle.text.specs.Quoted.{bytes, tabbed, unended, text}
use Rattle.decimal.specs.Spelling.{is_digit, all_digits, value_from, has_leading_zero, is_number, number_of, milliseconds_of, in_tenths, has_point, length_of}
use Rattle.chart.specs.Operators.{words, place_of, operator_of, edges_of, relation_of, length_test_of, kind_of, in_range, are_lower}
use Rattle.chart.specs.Records.{with_code, event_line, with_operands, second_of, second_operand, operands_line, by_operator, operator_line, numbered, parsed_line, checked_entry, checked_line, answer_to}
use Rattle.chart.specs.Charts.{no_entries, with_entry, refused_chart, read_lines, or_no_line, read_chart, all_below}
use Rattle.chart.specs.declared.Chart.{Chart}
use Rattle.state.specs.declared.WatchState.{WatchState}
use Rattle.model.specs.Lists.{each}
use Rattle.model.specs.Capacity.{capacity}
use Rattle.model.specs.Consistency.{is_rising}
use Rattle.table.specs.Table.{rows_in, are_zeros}
use Rattle.table.specs.Operators.{operator_by, operators_of}
use Rattle.consistency.specs.Consistency.{is_watch_in_range, is_table_row_consistent, are_consistent}

-- a chart, from its lines
abbrev pub chart_of : List String → Chart
chart_of ls = (read_chart (text ls)).chart

-- a table, from its rows' numbers, of which start and end are tenths
abbrev pub number_in : Option ℕ → ℤ
number_in (Some n) = pos n
number_in None = pos 0

abbrev pub integer_in : List ℕ → ℤ
integer_in s = cond (eqb (get_or s 0 0) 45) (neg_ℤ (number_in (number_of (drop 1 s)))) (number_in (number_of s))

abbrev pub table : List String → List ℤ
table rs = each (λ (r : String). map integer_in (split 9 (unended r))) rs

abbrev pub minus : ℕ → ℤ
minus n = neg_ℤ (pos n)

-- open instant, floor, counts of events, rows and pending events, whose codes are not looked at; how many entries, and their instants
abbrev state_of : ℤ → ℤ → ℕ → ℕ → ℕ → ℕ → List ℤ → WatchState
state_of o f events rows pending entries since = record { instant = o; floor = f; events = events; rows = rows; pending = pending; codes = replicate 64 0; entries = entries; since = since ++ replicate (32 - length since) (pos 0) }

-- n entries that count from the opening floor
abbrev old : ℕ → List ℤ
old n = replicate n (minus 1000000000)

-- chart, watch and table, and whether they are consistent
pub record Case : Type 0 where
  pub chart : Chart
  pub state : WatchState
  pub table : List ℤ
  pub consistent : Bool

-- "open instant or floor out of range; floor above open; over 64 pending events, more pending than counted, or a count above 1,000,000". An open
-- instant below the range has its floor below the range or above it.
abbrev watches : List Case
watches =
    -- open instant, floor, events, pending events
    watch (pos 1000000000) (pos 0) 0 0 true ∷
    watch (pos 1000000001) (pos 0) 0 0 false ∷
    watch (minus 1000000000) (minus 1000000000) 0 0 true ∷
    watch (minus 1000000001) (minus 1000000000) 0 0 false ∷
    watch (minus 1000000001) (minus 1000000001) 0 0 false ∷
    watch (pos 0) (minus 1000000000) 0 0 true ∷
    watch (pos 0) (minus 1000000001) 0 0 false ∷
    watch (pos 1000000001) (pos 1000000001) 0 0 false ∷
    watch (pos 3) (pos 3) 0 0 true ∷
    watch (pos 3) (pos 4) 0 0 false ∷
    watch (pos 0) (pos 0) 65 64 true ∷
    watch (pos 0) (pos 0) 65 65 false ∷
    watch (pos 0) (pos 0) 2 2 true ∷
    watch (pos 0) (pos 0) 1 2 false ∷
    watch (pos 0) (pos 0) 1000000 0 true ∷
    watch (pos 0) (pos 0) 1000001 0 false ∷ []
  where
    watch : ℤ → ℤ → ℕ → ℕ → Bool → Case
    watch o f events pending b = record { chart = chart_of ("0 event 1" ∷ []); state = state_of o f events 0 pending 1 (old 1); table = table ("0 0 0 0 0" ∷ []); consistent = b }

-- "more rows than fit; an unused row that is not all zeros". One row is in use. The numbers after the last row that the table can hold are not looked at.
abbrev sizes : List Case
sizes =
    size ("0 1 -1 0 0" ∷ []) true ∷
    size ("0 1 -1 0" ∷ []) false ∷
    size ("0 1 -1 0 0" ∷ "0 0 0 0 0" ∷ "0 0 0 0 0" ∷ []) true ∷
    size ("0 1 -1 0 0" ∷ "1 0 0 0 0" ∷ "0 0 0 0 0" ∷ []) false ∷
    size ("0 1 -1 0 0" ∷ "0 0 0 0 -1" ∷ "0 0 0 0 0" ∷ []) false ∷
    size ("0 1 -1 0 0" ∷ "0 0 0 0 0" ∷ "1 0 0 0 0" ∷ []) false ∷
    size ("0 1 -1 0 0" ∷ "0 0 0 0 0" ∷ "0 0 0 0 1" ∷ []) false ∷
    size ("0 1 -1 0 0" ∷ "0 0 0 0 0" ∷ "1 2 3 4" ∷ []) true ∷ []
  where
    size : List String → Bool → Case
    size rs b = record { chart = chart_of ("0 event 1" ∷ []); state = state_of (pos 1) (pos 0) 1 1 0 1 (old 1); table = table rs; consistent = b }

-- "A watch with another number of entries than the chart is out of joint"; "that instant may not fall from one entry to the next, nor lie below
-- -1,000,000,000 or above the open instant" (request N13). The chart has three entries, and 3 is the open instant.
abbrev entries : List Case
entries =
    -- how many, and their instants; numbers behind those in use are not looked at
    counting 3 "0 1 2" true ∷ counting 2 "0 1 2" false ∷ counting 4 "0 1 2 3" false ∷ counting 0 "0 1 2" false ∷
    counting 3 "-1000000000 1 2" true ∷ counting 3 "-1000000001 1 2" false ∷
    counting 3 "0 1 3" true ∷ counting 3 "0 1 4" false ∷
    counting 3 "1 1 1" true ∷ counting 3 "2 1 1" false ∷ counting 3 "1 2 1" false ∷
    counting 3 "0 1 2 1 -2147483648 2147483647" true ∷ []
  where
    counting : ℕ → String → Bool → Case
    counting n s b = record { chart = chart_of ("0 event 1" ∷ "1 event 2" ∷ "2 seq 0 1" ∷ []); state = state_of (pos 3) (pos 0) 0 0 0 n (table (s ∷ [])); table = []; consistent = b }

-- Rows. Instants and lengths are in tenths. There are four events, of codes 1 and 2 at 0 and again at 5; the floor is -1 and the open instant 7. Five rows stand in front of the one that is
-- looked at: four of events, and one of `seq`, from 0 to 5. Behind it is an unused one.
abbrev chart12 : Chart
chart12 = chart_of (
    "0 event 1" ∷
    "1 event 2" ∷
    "2 seq 0 1" ∷
    "3 or 0 1" ∷
    "4 -[] 2 1" ∷
    "5 atmost 2 0.5" ∷
    "6 atmost 2 0.4" ∷
    "7 after 2 0" ∷
    "8 after 2 0.1" ∷
    "9 after 0 0.5" ∷
    "10 cut 0 1" ∷
    "11 change 0 1" ∷ [])

abbrev rows5 : List String
rows5 =
    "0 1 -1 0 0" ∷
    "1 2 -1 0 0" ∷
    "0 3 -1 5 5" ∷
    "1 4 -1 5 5" ∷
    "2 0 3 0 5" ∷ []

-- the entries from n on count from x
abbrev table_from : ℕ → ℤ → List String → Bool → Case
table_from n x rs b = record { chart = chart12; state = state_of (pos 7) (minus 1) 4 (length rs) 0 12 (old n ++ replicate (12 - n) x); table = table (rs ++ "0 0 0 0 0" ∷ []); consistent = b }

abbrev table_of : List String → Bool → Case
table_of = table_from 12 (pos 0)

abbrev good : String → Case
good r = table_of (rows5 ++ r ∷ []) true

abbrev bad : String → Case
bad r = table_of (rows5 ++ r ∷ []) false

abbrev rows : List Case
rows =
    -- "a row whose entry is not in the chart"; 5 without the minus would do
    good "5 4 -1 0 5" ∷ bad "12 4 -1 0 5" ∷ bad "-5 4 -1 0 5" ∷
    -- "start is below the floor": the first row of a table
    table_of ("0 1 -1 -1 -1" ∷ []) true ∷ table_of ("0 1 -1 -2 -2" ∷ []) false ∷
    -- a row that starts before the instant from which its entry counts (request N13): rows of events, of two parts, of an arm, of one part and of `after`; the
    -- instants of other entries are not asked
    table_from 0 (pos 0) rows5 true ∷ table_from 0 (pos 1) rows5 false ∷ table_from 1 (pos 0) rows5 true ∷ table_from 1 (pos 1) rows5 false ∷
    table_from 2 (pos 0) rows5 true ∷ table_from 2 (pos 1) rows5 false ∷ table_from 3 (pos 1) rows5 true ∷
    table_from 3 (pos 5) (rows5 ++ "3 2 -1 5 5" ∷ []) true ∷ table_from 3 (pos 6) (rows5 ++ "3 2 -1 5 5" ∷ []) false ∷
    table_from 5 (pos 0) (rows5 ++ "5 4 -1 0 5" ∷ []) true ∷ table_from 5 (pos 1) (rows5 ++ "5 4 -1 0 5" ∷ []) false ∷ table_from 6 (pos 1) (rows5 ++ "5 4 -1 0 5" ∷ []) true ∷
    table_from 8 (pos 0) (rows5 ++ "8 4 -1 0 6" ∷ []) true ∷ table_from 8 (pos 1) (rows5 ++ "8 4 -1 0 6" ∷ []) false ∷
    -- "end is not before the open instant or is before its predecessor's end"
    good "0 4 -1 6 6" ∷ bad "0 4 -1 7 7" ∷ good "0 4 -1 5 5" ∷ bad "0 4 -1 4 4" ∷
    -- "references aren't lower rows": row 5 refers to itself, to row 6 behind it, which is of the right entry, and to an unused row, all of whose
    -- numbers would do
    table_of (rows5 ++ "2 0 3 0 5" ∷ "1 4 -1 5 5" ∷ []) true ∷ table_of (rows5 ++ "2 0 6 0 5" ∷ "1 4 -1 5 5" ∷ []) false ∷ bad "2 0 5 0 5" ∷ bad "2 6 3 0 5" ∷
    -- "of the operand entries": all else would do
    good "2 0 3 0 5" ∷ bad "2 1 3 0 5" ∷ bad "2 0 2 0 5" ∷
    good "3 2 -1 5 5" ∷ bad "3 3 -1 5 5" ∷
    good "3 -1 3 5 5" ∷ bad "3 -1 2 5 5" ∷
    good "4 4 -1 0 5" ∷ bad "4 2 -1 5 5" ∷
    good "5 4 -1 0 5" ∷ bad "5 2 -1 5 5" ∷
    -- "with -1 just where the operator table has it": event, two parts, or with both arms and with none, absence, length test; and no other number
    -- below 0
    bad "0 4 0 5 5" ∷ bad "0 4 -2 5 5" ∷
    bad "2 -1 3 0 5" ∷ bad "2 0 -1 0 5" ∷
    bad "3 2 3 5 5" ∷ bad "3 -1 -1 5 5" ∷ bad "3 2 -2 5 5" ∷ bad "3 -2 3 5 5" ∷
    bad "4 4 3 0 5" ∷ bad "4 -1 4 0 5" ∷ bad "4 4 -2 0 5" ∷
    bad "5 4 3 0 5" ∷ bad "5 -1 4 0 5" ∷ bad "5 4 -2 0 5" ∷
    -- "whose start, end ... disagrees with them"; an end before that of a part is before its predecessor's
    bad "2 0 3 1 5" ∷ bad "2 0 3 -1 5" ∷ bad "2 0 3 0 6" ∷
    bad "3 2 -1 4 5" ∷ bad "3 2 -1 5 6" ∷ bad "3 -1 3 4 5" ∷ bad "3 -1 3 5 6" ∷
    bad "4 4 -1 1 5" ∷ bad "4 4 -1 0 6" ∷
    bad "5 4 -1 1 5" ∷ bad "5 4 -1 0 6" ∷
    -- "or non-absence condition disagrees with them": of a relation, 5 < 5; of a length test, 5 <= 4. In "4 4 -1 0 5", taken above, rows 1 and 3 forbid row 4.
    bad "2 2 3 5 5" ∷ bad "6 4 -1 0 5" ∷
    -- "An event row's serial is 1 to the count, start and end equal."
    good "0 1 -1 5 5" ∷ bad "0 0 -1 5 5" ∷ bad "0 -1 -1 5 5" ∷ good "0 4 -1 5 5" ∷ bad "0 5 -1 5 5" ∷ bad "0 4 -1 4 5" ∷ bad "0 4 -1 5 6" ∷
    -- "left r, right -1, the same start and end = end r + d" (request N1): d is 0 and 1 with row 4, from 0 to 5, for r, and 5 with row 0, from 0 to 0.
    -- Each end is beside one that is off by one; where d is 1, that is the end of r
    good "7 4 -1 0 5" ∷ bad "7 4 -1 0 6" ∷ good "8 4 -1 0 6" ∷ bad "8 4 -1 0 5" ∷ good "9 0 -1 0 5" ∷ bad "9 0 -1 0 6" ∷
    -- another start, then another right; on the left none, a row of another entry, and row 6 behind it, which is of the right entry
    bad "8 4 -1 1 6" ∷ bad "8 4 -1 -1 6" ∷ bad "8 4 3 0 6" ∷ bad "8 4 -2 0 6" ∷
    bad "8 -1 -1 0 6" ∷ bad "8 -1 4 0 6" ∷ bad "9 1 -1 0 5" ∷
    table_of (rows5 ++ "7 4 -1 0 5" ∷ "2 0 3 0 5" ∷ []) true ∷ table_of (rows5 ++ "7 6 -1 0 5" ∷ "2 0 3 0 5" ∷ []) false ∷
    -- "For both, the out-of-joint rule checks only end r < start s" (request N5), with references, start and end: for s at 5 an r at 0 will do and one at 5
    -- will not
    good "10 0 3 0 5" ∷ bad "10 2 3 5 5" ∷ bad "10 1 3 0 5" ∷ bad "10 0 2 0 5" ∷ bad "10 -1 3 0 5" ∷ bad "10 0 -1 0 5" ∷ bad "10 0 6 0 5" ∷
    bad "10 0 3 1 5" ∷ bad "10 0 3 -1 5" ∷ bad "10 0 3 0 6" ∷
    good "11 0 3 0 5" ∷ bad "11 2 3 5 5" ∷ bad "11 1 3 0 5" ∷ bad "11 0 2 0 5" ∷ bad "11 -1 3 0 5" ∷ bad "11 0 -1 0 5" ∷ bad "11 0 6 0 5" ∷
    bad "11 0 3 1 5" ∷ bad "11 0 3 -1 5" ∷ bad "11 0 3 0 6" ∷
    -- and no rival is looked for: there is an s' at 2, and an r' at 3; but an r at 3 does not end before an s at 2 starts
    rivals ("1 4 -1 5 5" ∷ "10 0 3 0 5" ∷ []) true ∷ rivals ("1 4 -1 5 5" ∷ "11 0 3 0 5" ∷ []) true ∷ rivals ("10 2 1 2 3" ∷ []) false ∷ rivals ("11 2 1 2 3" ∷ []) false ∷ []
  where
    rivals : List String → Bool → Case
    rivals rs b = table_of ("0 1 -1 0 0" ∷ "1 2 -1 2 2" ∷ "0 3 -1 3 3" ∷ rs) b

unfoldable pub cases : List Case
cases = watches ++ sizes ++ entries ++ rows

pub examples : map (λ (c : Case). are_consistent c.chart c.state c.table) cases ≡ map (λ (c : Case). c.consistent) cases
unfolding cases is_instant is_length first_floor is_related has_length split lines bytes tabbed unended text is_digit all_digits value_from has_leading_zero is_number number_of milliseconds_of in_tenths has_point length_of words place_of operator_of edges_of relation_of length_test_of kind_of in_range are_lower with_code event_line with_operands second_of second_operand operands_line by_operator operator_line numbered parsed_line checked_entry checked_line answer_to no_entries with_entry refused_chart read_lines or_no_line read_chart all_below capacity is_rising rows_in are_zeros operator_by operators_of is_watch_in_range is_table_row_consistent are_consistent
examples = refl
