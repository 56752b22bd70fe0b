-- What the listing program and the report program print, from text to text: P1 to P8, the four absences, the tightest match first, delays, first after and last before, tenths,
-- the ends of the range of instants, and refusals. One list of cases, one theorem that the checker computes by the definition alone. What must be printed stands in document
-- 01 or request N2 or was found by hand from them and requests N7, N1, N5 and
-- N11: all of them print instants with one digit after the point. P1 to P8 stand here only; behind the list is the tree of P1's row 7.
use Prim.Native.Nat.{ℕ}
use Prim.Native.String.{String}
use mathlib.Core.Path.{◌≡◌, refl}
use mathlib.Core.List.{List, [], ◌∷◌, ◌++◌, map}
use lib.ListN.{replicate}
use Rattle.interval.specs.Instants.{is_instant, is_length, first_floor, is_mark_refused, is_forget_refused}
use Rattle.interval.specs.Conditions.{is_related, is_forbidding, has_length, is_rival_of_second, is_rival_of_first}
use Rattle.text.specs.Text.{split, lines}
use Rattle.text.specs.Quoted.{bytes, tabbed, unended, text}
use Rattle.decimal.specs.Spelling.{is_digit, all_digits, value_from, has_leading_zero, is_number, number_of, milliseconds_of, in_tenths, has_point, length_of, without_minus, with_minus, instant_of, digits_within, spelled_number, spelled_length, signed}
use Rattle.chart.specs.Operators.{words, place_of, operator_of, edges_of, relation_of, length_test_of, kind_of, in_range, are_lower}
use Rattle.chart.specs.Records.{with_code, event_line, with_operands, second_of, second_operand, operands_line, by_operator, operator_line, numbered, parsed_line, checked_entry, checked_line, answer_to}
use Rattle.chart.specs.Charts.{no_entries, with_entry, refused_chart, read_lines, or_no_line}
use Rattle.model.specs.Recognitions.{Operator, recognitions_of, with_entries, recognitions}
use Rattle.model.specs.Order.{compare, listing}
use Rattle.model.specs.Reference.{opening, event_step, clock_step, forget_step}
use Rattle.table.specs.Table.{flat}
use Rattle.table.specs.Operators.{operator_by, operators_of, arity_of}
use Rattle.tree.specs.Tree.{row_bytes, reference_bytes, tree_within, tree_bytes}
use Rattle.log_line.specs.Log.{call_words, event_call, instant_call, word_call, fields_call, call_of}
use Rattle.tally.specs.Tally.{tally, tallies}
use Rattle.printing.specs.Listing.{row_texts}
use Rattle.printing.specs.Report.{tally_texts}
use Rattle.program.specs.declared.Format.{Format}
use Rattle.program.specs.declared.Format.TheVariants.{Listing, Report}
use Rattle.program.specs.Outcomes.{Outcome, listed, refused, call_in, opening_answer, call_answer, play_calls, play_log, chart_lines, log_lines, play_lines, outcome_text, printed_for}

-- which program, how many rows the table can hold, the input, and what must be printed
pub record Case : Type 0 where
  pub format : Format
  pub room : ℕ
  pub input : List ℕ
  pub printed : List ℕ

-- A chart, an empty line and a log, and the lines that must be printed. "tabs shown as spaces"
abbrev prints : ℕ → List String → List String → List String → Case
prints room chart log printed = record { format = Listing; room = room; input = text (chart ++ "" ∷ log); printed = text printed }

-- the listing has these rows
abbrev lists : ℕ → List String → List String → List String → Case
lists room chart log rows = prints room chart log ("row entry left right start end" ∷ rows)

-- "Given chart .. and log .., it prints:"; the chart has its last line here from outside, since P2 changes it
abbrev chart1 : String → List String
chart1 last =
    "0 event 1" ∷
    "1 event 2" ∷
    "2 event 3" ∷
    "3 seq 0 1" ∷
    last ∷ []

abbrev log1 : List String
log1 =
    "open -2" ∷
    "event 1" ∷
    "clock 0" ∷
    "event 2" ∷
    "clock 3" ∷
    "event 3" ∷
    "event 2" ∷
    "clock 4" ∷ []

abbrev rows1_7 : List String
rows1_7 =
    "0 0 1 -1 -2.0 -2.0" ∷
    "1 1 2 -1 0.0 0.0" ∷
    "2 3 0 1 -2.0 0.0" ∷
    "3 4 2 -1 -2.0 0.0" ∷
    "4 1 4 -1 3.0 3.0" ∷
    "5 2 3 -1 3.0 3.0" ∷
    "6 3 0 4 -2.0 3.0" ∷ []

abbrev rows1 : List String
rows1 = rows1_7 ++ "7 4 6 -1 -2.0 3.0" ∷ []

abbrev P1-P8 : List Case
P1-P8 =
    -- "P1 this listing"
    lists 3000 (chart1 "4 -[[ 3 2") log1 rows1 ∷
    -- "P2 with `-[]` row 7 is gone"
    lists 3000 (chart1 "4 -[] 3 2") log1 rows1_7 ∷
    -- "P3 with `forget 0` last, three rows stay: `1 2 -1 0 0`, `1 4 -1 3 3`, `2 3 -1 3 3`"
    lists 3000 (chart1 "4 -[[ 3 2") (log1 ++ "forget 0" ∷ []) ("0 1 2 -1 0.0 0.0" ∷ "1 1 4 -1 3.0 3.0" ∷ "2 2 3 -1 3.0 3.0" ∷ []) ∷
    -- "P4 `meets 0 0` on one event gives a row"
    lists 3000 ("0 event 1" ∷ "1 meets 0 0" ∷ []) ("open 0" ∷ "event 1" ∷ "clock 1" ∷ []) ("0 0 1 -1 0.0 0.0" ∷ "1 1 0 0 0.0 0.0" ∷ []) ∷
    -- "P5 `seq 0 0` on two events of one instant gives none"
    lists 3000 ("0 event 1" ∷ "1 seq 0 0" ∷ []) ("open 0" ∷ "event 1" ∷ "event 1" ∷ "clock 1" ∷ []) ("0 0 1 -1 0.0 0.0" ∷ "1 0 2 -1 0.0 0.0" ∷ []) ∷
    -- "P6 `or 0 0` gives two per event"
    lists 3000 ("0 event 1" ∷ "1 or 0 0" ∷ []) ("open 0" ∷ "event 1" ∷ "clock 1" ∷ []) ("0 0 1 -1 0.0 0.0" ∷ "1 1 0 -1 0.0 0.0" ∷ "2 1 -1 0 0.0 0.0" ∷ []) ∷
    -- "P7 turns round: length 5 stays" (request N2). Of lengths 4, 5 and 6 `atmost` 5 keeps 4 and 5, `atleast` 5 keeps 5 and 6
    lists 3000 ("0 event 1" ∷ "1 event 2" ∷ "2 seq 0 1" ∷ "3 atmost 2 5" ∷ "4 atleast 2 5" ∷ [])
    ("open 0" ∷ "event 1" ∷ "clock 4" ∷ "event 2" ∷ "clock 5" ∷ "event 2" ∷ "clock 6" ∷ "event 2" ∷ "clock 7" ∷ [])
    ("0 0 1 -1 0.0 0.0" ∷
    "1 1 2 -1 4.0 4.0" ∷ "2 2 0 1 0.0 4.0" ∷ "3 3 2 -1 0.0 4.0" ∷
    "4 1 3 -1 5.0 5.0" ∷ "5 2 0 4 0.0 5.0" ∷ "6 3 5 -1 0.0 5.0" ∷ "7 4 5 -1 0.0 5.0" ∷
    "8 1 4 -1 6.0 6.0" ∷ "9 2 0 8 0.0 6.0" ∷ "10 4 9 -1 0.0 6.0" ∷ []) ∷
    -- "P8 a table of 7 rows refuses P1's last mark with 12, one of 8 takes it"
    prints 7 (chart1 "4 -[[ 3 2") log1 ("refused 12 14" ∷ []) ∷
    lists 8 (chart1 "4 -[[ 3 2") log1 rows1 ∷ []

-- P1 to P8 do not tell -][ from -[[, nor -]] from -[]. Here s, of entry 1, is at 2, and the rows r of entry 2 are from 1 to 2, where s is at the late
-- edge, from 1 to 3, where it is inside, and from 2 to 3, where it is at the early edge.
abbrev absences : List Case
absences =
    -- the edges included: s forbids each r
    edges "3 -[] 2 1" ("0 0 1 -1 1.0 1.0" ∷ "1 0 2 -1 2.0 2.0" ∷ "2 1 3 -1 2.0 2.0" ∷ "3 2 0 1 1.0 2.0" ∷ "4 0 4 -1 3.0 3.0" ∷ "5 2 1 4 2.0 3.0" ∷ "6 2 0 4 1.0 3.0" ∷ []) ∷
    -- neither edge: it forbids only the r from 1 to 3
    edges "3 -][ 2 1" ("0 0 1 -1 1.0 1.0" ∷ "1 0 2 -1 2.0 2.0" ∷ "2 1 3 -1 2.0 2.0" ∷ "3 2 0 1 1.0 2.0" ∷ "4 3 3 -1 1.0 2.0" ∷ "5 0 4 -1 3.0 3.0" ∷ "6 2 1 5 2.0 3.0" ∷ "7 2 0 5 1.0 3.0" ∷ "8 3 6 -1 2.0 3.0" ∷ []) ∷
    -- the early edge only: the r from 1 to 2 stays
    edges "3 -[[ 2 1" ("0 0 1 -1 1.0 1.0" ∷ "1 0 2 -1 2.0 2.0" ∷ "2 1 3 -1 2.0 2.0" ∷ "3 2 0 1 1.0 2.0" ∷ "4 3 3 -1 1.0 2.0" ∷ "5 0 4 -1 3.0 3.0" ∷ "6 2 1 5 2.0 3.0" ∷ "7 2 0 5 1.0 3.0" ∷ []) ∷
    -- the late edge only: the r from 2 to 3 stays
    edges "3 -]] 2 1" ("0 0 1 -1 1.0 1.0" ∷ "1 0 2 -1 2.0 2.0" ∷ "2 1 3 -1 2.0 2.0" ∷ "3 2 0 1 1.0 2.0" ∷ "4 0 4 -1 3.0 3.0" ∷ "5 2 1 4 2.0 3.0" ∷ "6 2 0 4 1.0 3.0" ∷ "7 3 5 -1 2.0 3.0" ∷ []) ∷ []
  where
    edges : String → List String → Case
    edges last rows = lists 3000 ("0 event 1" ∷ "1 event 2" ∷ "2 seq 0 0" ∷ last ∷ []) ("open 1" ∷ "event 1" ∷ "clock 2" ∷ "event 1" ∷ "event 2" ∷ "clock 3" ∷ "event 1" ∷ "clock 4" ∷ []) rows

-- "Among rows of equal end and entry the order becomes: later start first, then the order of document 01. Listings are compared in the new order, after a
-- forget too." (request N7): three recognitions of one end, of which two start alike, and two arms that refer to them
abbrev tightest : List Case
tightest =
    lists 3000 chart7 log7
    ("0 0 1 -1 0.0 0.0" ∷ "1 0 2 -1 1.0 1.0" ∷ "2 0 3 -1 1.0 1.0" ∷ "3 1 4 -1 2.0 2.0" ∷ "4 2 1 3 1.0 2.0" ∷ "5 2 2 3 1.0 2.0" ∷ "6 2 0 3 0.0 2.0" ∷
    "7 3 4 -1 1.0 2.0" ∷ "8 3 5 -1 1.0 2.0" ∷ "9 3 -1 4 1.0 2.0" ∷ "10 3 -1 5 1.0 2.0" ∷ "11 3 6 -1 0.0 2.0" ∷ "12 3 -1 6 0.0 2.0" ∷ []) ∷
    lists 3000 chart7 (log7 ++ "forget 1" ∷ [])
    ("0 0 2 -1 1.0 1.0" ∷ "1 0 3 -1 1.0 1.0" ∷ "2 1 4 -1 2.0 2.0" ∷ "3 2 0 2 1.0 2.0" ∷ "4 2 1 2 1.0 2.0" ∷ "5 3 3 -1 1.0 2.0" ∷ "6 3 4 -1 1.0 2.0" ∷ "7 3 -1 3 1.0 2.0" ∷ "8 3 -1 4 1.0 2.0" ∷ []) ∷ []
  where
    chart7 : List String
    chart7 = "0 event 1" ∷ "1 event 2" ∷ "2 seq 0 1" ∷ "3 or 2 2" ∷ []

    log7 : List String
    log7 = "open 0" ∷ "event 1" ∷ "clock 1" ∷ "event 1" ∷ "event 1" ∷ "clock 2" ∷ "event 2" ∷ "clock 3" ∷ []

-- "for each row r of a, a row with left r, right -1, the same start and end = end r + d"; "a clock mark t closes every instant from the open one to
-- t-1" (request N1)
abbrev delays : List Case
delays =
    -- "two seconds after the stage stopped": 1 is a stop, 2 a move, 3 the shutter. Entry 4 is the wait without a move in it. The move at 900 spoils the waits
    -- from 0 and from 500; all three end in one jump of the clock.
    lists 3000 ("0 event 1" ∷ "1 event 2" ∷ "2 event 3" ∷ "3 after 0 2000" ∷ "4 -[] 3 1" ∷ "5 seq 4 2" ∷ [])
    ("open 0" ∷ "event 1" ∷ "clock 500" ∷ "event 1" ∷ "clock 900" ∷ "event 2" ∷ "clock 1000" ∷ "event 1" ∷ "clock 4000" ∷ "event 3" ∷ "clock 4001" ∷ [])
    ("0 0 1 -1 0.0 0.0" ∷ "1 0 2 -1 500.0 500.0" ∷ "2 1 3 -1 900.0 900.0" ∷ "3 0 4 -1 1000.0 1000.0" ∷ "4 3 0 -1 0.0 2000.0" ∷ "5 3 1 -1 500.0 2500.0" ∷
    "6 3 3 -1 1000.0 3000.0" ∷ "7 4 6 -1 1000.0 3000.0" ∷ "8 2 5 -1 4000.0 4000.0" ∷ "9 5 7 8 1000.0 4000.0" ∷ []) ∷
    -- "The table must be complete across a jump over several due ends, each in order of end, delays of delays included"; a delay of 0
    lists 3000 ("0 event 1" ∷ "1 after 0 2" ∷ "2 after 1 3" ∷ "3 after 0 0" ∷ []) ("open 0" ∷ "event 1" ∷ "clock 1" ∷ "event 1" ∷ "clock 10" ∷ [])
    ("0 0 1 -1 0.0 0.0" ∷ "1 3 0 -1 0.0 0.0" ∷ "2 0 2 -1 1.0 1.0" ∷ "3 3 2 -1 1.0 1.0" ∷ "4 1 0 -1 0.0 2.0" ∷ "5 1 2 -1 1.0 3.0" ∷ "6 2 4 -1 0.0 5.0" ∷ "7 2 5 -1 1.0 6.0" ∷ []) ∷
    -- "An end at 1,000,000,000 or later is never closed"; on paper 100000000.0
    lists 3000 ("0 event 1" ∷ "1 after 0 0.9" ∷ "2 after 0 1" ∷ "3 after 0 200000000" ∷ []) ("open 99999999" ∷ "event 1" ∷ "clock 100000000" ∷ [])
    ("0 0 1 -1 99999999.0 99999999.0" ∷ "1 1 0 -1 99999999.0 99999999.9" ∷ []) ∷
    -- 12 counts all that the jump makes due; an end at the mark is not
    prints 2 again ("open 0" ∷ "event 1" ∷ "clock 6" ∷ []) ("refused 12 7" ∷ []) ∷
    lists 2 again ("open 0" ∷ "event 1" ∷ "clock 5" ∷ []) ("0 0 1 -1 0.0 0.0" ∷ "1 1 0 -1 0.0 2.0" ∷ []) ∷
    -- what is forgotten takes its delayed row along
    lists 3000 again ("open 0" ∷ "event 1" ∷ "clock 1" ∷ "event 1" ∷ "forget 1" ∷ "clock 4" ∷ []) ("0 0 2 -1 1.0 1.0" ∷ "1 1 0 -1 1.0 3.0" ∷ []) ∷ []
  where
    again : List String
    again = "0 event 1" ∷ "1 after 0 2" ∷ "2 after 1 3" ∷ []

-- "r and s with end r < start s, where no other row s' of b starts after end r and ends before end s"; "change also requires that no r' of a has
-- start r' >= start r and end r < end r' < start s" (request N5)
abbrev nearests : List Case
nearests =
    -- "the first exposure after a settling", for each settling, and the last settling before an exposure: 1 is a settling, 2 an exposure
    lists 3000 nearest ("open 0" ∷ "event 1" ∷ "clock 400" ∷ "event 1" ∷ "clock 900" ∷ "event 2" ∷ "clock 1300" ∷ "event 2" ∷ "clock 1301" ∷ [])
    ("0 0 1 -1 0.0 0.0" ∷ "1 0 2 -1 400.0 400.0" ∷ "2 1 3 -1 900.0 900.0" ∷ "3 2 1 2 400.0 900.0" ∷ "4 2 0 2 0.0 900.0" ∷ "5 3 1 2 400.0 900.0" ∷ "6 1 4 -1 1300.0 1300.0" ∷ []) ∷
    -- "Document 003 ranks the first by start, which lets a late arrival withdraw a row already shown": row 4 stands at 3, and stays
    lists 3000 ("0 event 1" ∷ "1 event 2" ∷ "2 event 3" ∷ "3 event 4" ∷ "4 seq 1 3" ∷ "5 or 4 2" ∷ "6 cut 0 5" ∷ [])
    ("open 1" ∷ "event 1" ∷ "clock 2" ∷ "event 2" ∷ "clock 3" ∷ "event 3" ∷ "clock 4" ∷ "event 4" ∷ "clock 5" ∷ [])
    ("0 0 1 -1 1.0 1.0" ∷ "1 1 2 -1 2.0 2.0" ∷ "2 2 3 -1 3.0 3.0" ∷ "3 5 -1 2 3.0 3.0" ∷ "4 6 0 3 1.0 3.0" ∷ "5 3 4 -1 4.0 4.0" ∷ "6 4 1 5 2.0 4.0" ∷ "7 5 6 -1 2.0 4.0" ∷ []) ∷
    -- "ties all count"; a floor between two settlings
    lists 3000 nearest ("open 0" ∷ "event 1" ∷ "clock 5" ∷ "event 1" ∷ "clock 9" ∷ "event 2" ∷ "event 2" ∷ "forget 5" ∷ "clock 10" ∷ [])
    ("0 0 2 -1 5.0 5.0" ∷ "1 1 3 -1 9.0 9.0" ∷ "2 1 4 -1 9.0 9.0" ∷ "3 2 0 1 5.0 9.0" ∷ "4 2 0 2 5.0 9.0" ∷ "5 3 0 1 5.0 9.0" ∷ "6 3 0 2 5.0 9.0" ∷ []) ∷
    -- one entry as both operands: from each event to the next
    lists 3000 ("0 event 1" ∷ "1 cut 0 0" ∷ "2 change 0 0" ∷ []) ("open 0" ∷ "event 1" ∷ "clock 1" ∷ "event 1" ∷ "clock 2" ∷ "event 1" ∷ "clock 3" ∷ [])
    ("0 0 1 -1 0.0 0.0" ∷ "1 0 2 -1 1.0 1.0" ∷ "2 1 0 1 0.0 1.0" ∷ "3 2 0 1 0.0 1.0" ∷ "4 0 3 -1 2.0 2.0" ∷ "5 1 1 4 1.0 2.0" ∷ "6 2 1 4 1.0 2.0" ∷ []) ∷ []
  where
    nearest : List String
    nearest = "0 event 1" ∷ "1 event 2" ∷ "2 cut 0 1" ∷ "3 change 0 1" ∷ []

-- "Instants and lengths on paper may have a point and one digit, as `-0.5`; without a point they are whole milliseconds"; "Listings ... print one digit after it"
-- (request N11). The recognition of half a millisecond stays under `atmost` 0.5, that of 0.6 does not; the wait of 0.3 ends before the trigger. The same log in
-- other spellings gives the same listing.
abbrev tenths : List Case
tenths =
    lists 3000 ("0 event 1" ∷ "1 event 2" ∷ "2 seq 0 1" ∷ "3 atmost 2 0.5" ∷ "4 after 0 0.3" ∷ [])
    ("open -0.5" ∷ "event 1" ∷ "clock 0" ∷ "event 2" ∷ "clock 0.1" ∷ "event 2" ∷ "clock 1" ∷ []) halves ∷
    lists 3000 ("0 event 1" ∷ "1 event 2" ∷ "2 seq 0 1" ∷ "3 atmost 2 0.5" ∷ "4 after 0 0.3" ∷ [])
    ("open -0.5" ∷ "event 1" ∷ "clock 0.0" ∷ "event 2" ∷ "clock 0.1" ∷ "event 2" ∷ "clock 1.0" ∷ []) halves ∷ []
  where
    halves : List String
    halves =
        "0 0 1 -1 -0.5 -0.5" ∷ "1 4 0 -1 -0.5 -0.2" ∷ "2 1 2 -1 0.0 0.0" ∷ "3 2 0 2 -0.5 0.0" ∷ "4 3 3 -1 -0.5 0.0" ∷
        "5 1 3 -1 0.1 0.1" ∷ "6 2 0 5 -0.5 0.1" ∷ []

-- the first and the last instant; a log that has only its opening; a table of no rows
abbrev ends : List Case
ends =
    lists 3000 ("0 event 255" ∷ []) ("open -100000000" ∷ "event 255" ∷ "clock 100000000.0" ∷ []) ("0 0 1 -1 -100000000.0 -100000000.0" ∷ []) ∷
    lists 3000 ("0 event 1" ∷ []) ("open 0" ∷ []) [] ∷
    lists 0 ("0 event 1" ∷ []) ("open 0" ∷ "event 0" ∷ "clock 1" ∷ []) [] ∷ []

-- "A refusal prints only one line: `refused`, number, line of the whole input (one past the last if a line is missing)". An input, the number and the line
abbrev refusals : List Case
refusals =
    -- empty input; an empty line and nothing else: 1
    input [] "refused 1 1" ∷
    input (text ("" ∷ [])) "refused 1 1" ∷
    input (text ("" ∷ "open 0" ∷ [])) "refused 1 1" ∷
    -- the empty line is missing: the log is read as chart, 3; or there is no log, 7, one past the last line
    input (text ("0 event 1" ∷ "open 0" ∷ "clock 1" ∷ [])) "refused 3 2" ∷
    input (text ("0 event 1" ∷ [])) "refused 7 2" ∷
    input (text ("0 event 1" ∷ "" ∷ [])) "refused 7 3" ∷
    -- the last line has no byte 10: in the chart, in the log, first of the log, and "The first empty line ends the chart": a second one is a log line
    input (unended "0 event 1") "refused 3 1" ∷
    input (text ("0 event 1" ∷ "" ∷ "open 0" ∷ []) ++ unended "clock 1") "refused 7 4" ∷
    input (text ("0 event 1" ∷ "" ∷ []) ++ unended "open 0") "refused 7 3" ∷
    input (text ("0 event 1" ∷ "" ∷ "" ∷ "open 0" ∷ [])) "refused 7 3" ∷
    -- the chart's own
    prints 3000 ("0 event 1" ∷ "2 event 1" ∷ []) ("x" ∷ []) ("refused 4 2" ∷ []) ∷
    prints 3000 ("0 event 1" ∷ "1 seq 0 1" ∷ []) ("open 0" ∷ []) ("refused 5 2" ∷ []) ∷
    prints 3000 ("0 event 256" ∷ []) ("open 0" ∷ []) ("refused 6 1" ∷ []) ∷
    -- "7 a log line not of its form, a code above 255, `open` missing or repeated"; the first refusal ends the run
    log ("open 0" ∷ "event 1 " ∷ "x" ∷ []) "refused 7 4" ∷
    log ("open 0" ∷ "event 256" ∷ []) "refused 7 4" ∷
    log ("clock 0" ∷ []) "refused 7 3" ∷
    log ("open 0" ∷ "open 1" ∷ []) "refused 7 4" ∷
    log ("open -0" ∷ []) "refused 7 3" ∷
    log ("open -0.0" ∷ []) "refused 7 3" ∷
    log ("open 1000000000" ∷ []) "refused 7 3" ∷
    log ("open 0" ∷ "clock 1.55" ∷ []) "refused 7 4" ∷
    -- "8 an opening instant out of range, or a clock mark out of range or not after the open instant"
    log ("open -100000000.1" ∷ []) "refused 8 3" ∷
    log ("open 999999999" ∷ []) "refused 8 3" ∷
    log ("open 0" ∷ "clock 0" ∷ []) "refused 8 4" ∷
    log ("open 0" ∷ "clock 100000000.1" ∷ []) "refused 8 4" ∷
    -- "9 a 65th event in one instant"
    log ("open 0" ∷ replicate 65 "event 1") "refused 9 68" ∷
    -- "11 a forget below the floor, above the open instant or out of range"
    log ("open 0" ∷ "forget -1" ∷ "forget -2" ∷ []) "refused 11 5" ∷
    log ("open 0" ∷ "forget 1" ∷ []) "refused 11 4" ∷
    log ("open 0" ∷ "forget -100000000.1" ∷ []) "refused 11 4" ∷
    -- "8 before 12": on a table too full a mark in range is refused with 12, one out of range or not after the open instant with 8
    prints 0 ("0 event 1" ∷ []) ("open 0" ∷ "event 1" ∷ "clock 100000000" ∷ []) ("refused 12 5" ∷ []) ∷
    prints 0 ("0 event 1" ∷ []) ("open 0" ∷ "event 1" ∷ "clock 100000001" ∷ []) ("refused 8 5" ∷ []) ∷
    prints 0 ("0 event 1" ∷ []) ("open 0" ∷ "event 1" ∷ "clock 0" ∷ []) ("refused 8 5" ∷ []) ∷ []
  where
    input : List ℕ → String → Case
    input s line = record { format = Listing; room = 3000; input = s; printed = text (line ∷ []) }

    log : List String → String → Case
    log calls line = prints 3000 ("0 event 1" ∷ []) calls (line ∷ [])

-- "prints one line per entry, entry and number of rows parted by a tab, and then likewise `total` and the number of rows in use" (request N3): P1, P2 and P3, where
-- entries have no row, no row at all, and the refusal of P8
abbrev reports : List Case
reports =
    report 3000 (chart1 "4 -[[ 3 2") log1 ("0 1" ∷ "1 2" ∷ "2 1" ∷ "3 2" ∷ "4 2" ∷ "total 8" ∷ []) ∷
    report 3000 (chart1 "4 -[] 3 2") log1 ("0 1" ∷ "1 2" ∷ "2 1" ∷ "3 2" ∷ "4 1" ∷ "total 7" ∷ []) ∷
    report 3000 (chart1 "4 -[[ 3 2") (log1 ++ "forget 0" ∷ []) ("0 0" ∷ "1 2" ∷ "2 1" ∷ "3 0" ∷ "4 0" ∷ "total 3" ∷ []) ∷
    report 3000 ("0 event 1" ∷ "1 or 0 0" ∷ []) ("open 0" ∷ []) ("0 0" ∷ "1 0" ∷ "total 0" ∷ []) ∷
    report 7 (chart1 "4 -[[ 3 2") log1 ("refused 12 14" ∷ []) ∷ []
  where
    report : ℕ → List String → List String → List String → Case
    report room chart log printed = record { format = Report; room = room; input = text (chart ++ "" ∷ log); printed = text printed }

pub cases : List Case
cases = P1-P8 ++ absences ++ tightest ++ delays ++ nearests ++ tenths ++ ends ++ refusals ++ reports

pub examples : map (λ (c : Case). printed_for c.format c.room c.input) cases ≡ map (λ (c : Case). c.printed) cases
unfolding cases bytes tabbed unended text split lines is_instant is_length first_floor is_mark_refused is_forget_refused is_related is_forbidding has_length is_rival_of_second is_rival_of_first is_digit all_digits value_from has_leading_zero is_number number_of milliseconds_of in_tenths has_point length_of without_minus with_minus instant_of digits_within spelled_number spelled_length signed words place_of operator_of edges_of relation_of length_test_of kind_of in_range are_lower with_code event_line with_operands second_of second_operand operands_line by_operator operator_line numbered parsed_line checked_entry checked_line answer_to no_entries with_entry refused_chart read_lines or_no_line recognitions_of with_entries recognitions compare listing opening event_step clock_step forget_step operator_by operators_of call_words event_call instant_call word_call fields_call call_of tally tallies row_texts tally_texts call_in opening_answer call_answer play_calls play_log chart_lines log_lines play_lines outcome_text printed_for
examples = refl

-- the tree of row i of those that an input comes to, its references followed down
abbrev row_tree : List Operator → Outcome → ℕ → List ℕ
row_tree ops (listed n rs) i = tree_bytes ops (flat rs) i
row_tree ops (refused n line) i = []

abbrev tree_for : ℕ → List ℕ → ℕ → List ℕ
tree_for room input i = row_tree (operators_of (or_no_line (chart_lines (lines input))).chart) (play_lines room (lines input)) i

-- "Row 7's tree is `<<e1,e4>>`."
pub tree_of_row_7 : tree_for 3000 (text (chart1 "4 -[[ 3 2" ++ "" ∷ log1)) 7 ≡ bytes "<<e1,e4>>"
unfolding bytes tabbed unended text split lines is_instant is_length first_floor is_mark_refused is_forget_refused is_related is_forbidding is_digit all_digits value_from has_leading_zero is_number number_of milliseconds_of in_tenths has_point length_of without_minus with_minus instant_of digits_within spelled_number spelled_length signed words place_of operator_of edges_of relation_of length_test_of kind_of in_range are_lower with_code event_line with_operands second_of second_operand operands_line by_operator operator_line numbered parsed_line checked_entry checked_line answer_to no_entries with_entry refused_chart read_lines or_no_line recognitions_of with_entries recognitions compare listing opening event_step clock_step operator_by operators_of call_words event_call instant_call word_call fields_call call_of call_in opening_answer call_answer play_calls play_log chart_lines log_lines play_lines flat arity_of row_bytes reference_bytes tree_within tree_bytes
tree_of_row_7 = refl
