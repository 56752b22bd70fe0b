-- Charts as text: what each operator word means, each refusal, and the order of refusals in a line. One list of cases, one theorem that the
-- checker computes; the same for lines added to a chart; then the code of each word. What must come out was found by hand from document 01 and requests
-- N1, N5, N11 and N13. No contract says as much of the words, since the code and its contract share the list of them.
use Prim.Native.Nat.{ℕ}
use Prim.Native.String.{String}
use mathlib.Core.Path.{◌≡◌, refl}
use mathlib.Core.List.{List, [], ◌∷◌, ◌++◌, map}
use lib.ListN.{take, replicate}
use Rattle.std.specs.Prelude.{None, Some}
use Rattle.interval.specs.Instants.{is_length}
use Rattle.interval.specs.declared.Relation.TheVariants.{Seq, And, Meets, Overlaps, Starts, During, Finishes, Equals}
use Rattle.interval.specs.declared.Edges.TheVariants.{ClosedClosed, OpenOpen, ClosedOpen, OpenClosed}
use Rattle.interval.specs.declared.LengthTest.TheVariants.{Lasts, AtMost, AtLeast}
use Rattle.interval.specs.declared.Nearest.TheVariants.{Cut, Change}
use Rattle.text.specs.Text.{split, lines}
use Rattle.text.specs.Quoted.{bytes, tabbed, unended, text}
use Rattle.decimal.specs.Spelling.{is_digit, all_digits, value_from, has_leading_zero, is_number, number_of, milliseconds_of, in_tenths, has_point, length_of}
use Rattle.chart.specs.Operators.{words, same_bytes, place_of, operator_of, edges_of, relation_of, length_test_of, kind_of, shape_of, in_range, are_lower}
use Rattle.chart.specs.Records.{entry, with_code, event_line, with_operands, second_of, second_operand, operands_line, by_operator, operator_line, numbered, parsed_line, checked_entry, checked_line, answer_to}
use Rattle.chart.specs.Charts.{no_entries, with_entry, refused_chart, read_lines, or_no_line, read_chart, fault_in, entries_of, added_verdict, with_entries, read_added}
use Rattle.chart.specs.declared.Entry.{Entry}
use Rattle.chart.specs.declared.ChartAnswer.{ChartAnswer}
use Rattle.chart.specs.declared.operator.Kind.{Kind}
use Rattle.chart.specs.declared.operator.Kind.TheVariants.{Event, Or, Pair, Absence, Length, After, Nearest}
use Rattle.chart.specs.declared.operator.Shape.{Shape}
use Rattle.chart.specs.declared.operator.Shape.TheVariants.{Leaf, Single, Arms, Double, Delayed}

-- what an entry means: its operator, how its rows refer to others, and its operands
pub record Meaning : Type 0 where
  pub kind : Kind
  pub shape : Shape
  pub a : ℕ
  pub b : ℕ

abbrev means : Kind → Shape → ℕ → ℕ → Meaning
means k f a b = record { kind = k; shape = f; a = a; b = b }

-- what a chart is answered with: refusal and line, both 0 where it is taken, and what its entries mean
pub record Reading : Type 0 where
  pub refusal : ℕ
  pub line : ℕ
  pub entries : List Meaning

abbrev reading_of : ChartAnswer → Reading
reading_of r =
    record { refusal = r.refusal; line = r.line; entries = map (λ (e : Entry). means (kind_of e.op) (shape_of (kind_of e.op)) e.a e.b) (take r.chart.count r.chart.entries) }

abbrev pub reading : List ℕ → Reading
reading s = reading_of (read_chart s)

pub record Case : Type 0 where
  pub chart : List ℕ
  pub expected : Reading

abbrev taken : List ℕ → List Meaning → Case
taken s ms = record { chart = s; expected = record { refusal = 0; line = 0; entries = ms } }

-- "the number, the line counted from 1 (line 1 for refusal 1) and a chart of no entries"
abbrev refused : List ℕ → ℕ → ℕ → Case
refused s n line = record { chart = s; expected = record { refusal = n; line = line; entries = [] } }

-- a line of a chart, and what it means
record Written : Type 0 where
  line : String
  meaning : Meaning

infix 80 ◌⇒◌
abbrev ◌⇒◌ : String → Meaning → Written
l ⇒ m = record { line = l; meaning = m }

-- the 17 words, in the order of the operator table, then `after` (request N1), `cut` and `change` (request N5). In an absence "the first sign is the
-- early edge and the second the late one": `[` early and `]` late are closed, `]` early and `[` late are open. A length is in tenths: with a point and one
-- digit, or in whole milliseconds (request N11).
abbrev operator_table : List Written
operator_table =
    "0 event 0" ⇒ means Event Leaf 0 0 ∷
    "1 event 255" ⇒ means Event Leaf 255 0 ∷
    "2 seq 0 1" ⇒ means (Pair Seq) Double 0 1 ∷
    "3 or 2 1" ⇒ means Or Arms 2 1 ∷
    "4 and 3 3" ⇒ means (Pair And) Double 3 3 ∷
    "5 -[] 0 1" ⇒ means (Absence ClosedClosed) Single 0 1 ∷
    "6 -][ 0 1" ⇒ means (Absence OpenOpen) Single 0 1 ∷
    "7 -[[ 0 1" ⇒ means (Absence ClosedOpen) Single 0 1 ∷
    "8 -]] 0 1" ⇒ means (Absence OpenClosed) Single 0 1 ∷
    "9 meets 0 8" ⇒ means (Pair Meets) Double 0 8 ∷
    "10 overlaps 0 9" ⇒ means (Pair Overlaps) Double 0 9 ∷
    "11 starts 10 0" ⇒ means (Pair Starts) Double 10 0 ∷
    "12 during 0 1" ⇒ means (Pair During) Double 0 1 ∷
    "13 finishes 0 1" ⇒ means (Pair Finishes) Double 0 1 ∷
    "14 equals 0 1" ⇒ means (Pair Equals) Double 0 1 ∷
    "15 lasts 14 0" ⇒ means (Length Lasts) Single 14 0 ∷
    "16 atmost 15 200000000" ⇒ means (Length AtMost) Single 15 2000000000 ∷
    "17 atleast 0 17" ⇒ means (Length AtLeast) Single 0 170 ∷
    "18 after 17 0.0" ⇒ means After Delayed 17 0 ∷
    "19 after 18 200000000.0" ⇒ means After Delayed 18 2000000000 ∷
    "20 cut 0 19" ⇒ means (Nearest Cut) Double 0 19 ∷
    "21 change 20 1" ⇒ means (Nearest Change) Double 20 1 ∷
    "22 cut 21 21" ⇒ means (Nearest Cut) Double 21 21 ∷
    "23 change 22 22" ⇒ means (Nearest Change) Double 22 22 ∷
    "24 lasts 0 0.5" ⇒ means (Length Lasts) Single 0 5 ∷
    "25 atmost 0 17.0" ⇒ means (Length AtMost) Single 0 170 ∷
    "26 atleast 0 1.7" ⇒ means (Length AtLeast) Single 0 17 ∷ []

abbrev table_of_words : List Case
table_of_words = taken (text (map (λ (w : Written). w.line) operator_table)) (map (λ (w : Written). w.meaning) operator_table) ∷ []

-- 31 lines, one less than a chart takes
abbrev lines31 : List String
lines31 =
    "0 event 1" ∷ "1 event 1" ∷ "2 event 1" ∷ "3 event 1" ∷ "4 event 1" ∷ "5 event 1" ∷ "6 event 1" ∷ "7 event 1" ∷
    "8 event 1" ∷ "9 event 1" ∷ "10 event 1" ∷ "11 event 1" ∷ "12 event 1" ∷ "13 event 1" ∷ "14 event 1" ∷ "15 event 1" ∷
    "16 event 1" ∷ "17 event 1" ∷ "18 event 1" ∷ "19 event 1" ∷ "20 event 1" ∷ "21 event 1" ∷ "22 event 1" ∷ "23 event 1" ∷
    "24 event 1" ∷ "25 event 1" ∷ "26 event 1" ∷ "27 event 1" ∷ "28 event 1" ∷ "29 event 1" ∷ "30 event 1" ∷ []

abbrev lines32 : List String
lines32 = lines31 ++ "31 event 1" ∷ []

abbrev full : List ℕ
full = text lines32

-- "1 no line; 2 a 33rd line": 32 lines are taken
abbrev too_few_or_many : List Case
too_few_or_many =
    refused (text []) 1 1 ∷
    taken full (replicate 32 (means Event Leaf 1 0)) ∷
    refused (full ++ text ("32 event 1" ∷ [])) 2 33 ∷ []

-- "3 a line not of the form above": an empty line; no operand, one too few, one too many; a word that is none, with a letter too few or too many, in
-- capitals; no entry number; two tabs; a tab in front or behind; a space for a tab; a leading zero; a minus; no digit; 11 digits, and 10 of a length; a
-- point in what is no length; no digit before the point, none behind it, and two; no byte 10, a byte 13
abbrev not_of_the_form : List Case
not_of_the_form = map (λ (s : List ℕ). refused (text ("0 event 1" ∷ []) ++ s) 3 2) (
    text ("" ∷ []) ∷
    text ("1 event" ∷ []) ∷
    text ("1 seq 0" ∷ []) ∷
    text ("1 event 1 0" ∷ []) ∷
    text ("1 seq 0 0 0" ∷ []) ∷
    text ("1 -[ 0 0" ∷ []) ∷
    text ("1 -[]] 0 0" ∷ []) ∷
    text ("1 SEQ 0 0" ∷ []) ∷
    text ("1 after 0" ∷ []) ∷
    text ("1 after 0 0 0" ∷ []) ∷
    text ("1 afte 0 0" ∷ []) ∷
    text ("1 afters 0 0" ∷ []) ∷
    text ("1 cut 0" ∷ []) ∷
    text ("1 cut 0 0 0" ∷ []) ∷
    text ("1 cu 0 0" ∷ []) ∷
    text ("1 cuts 0 0" ∷ []) ∷
    text ("1 change 0" ∷ []) ∷
    text ("1 change 0 0 0" ∷ []) ∷
    text ("1 chang 0 0" ∷ []) ∷
    text ("1 changes 0 0" ∷ []) ∷
    text ("event 1" ∷ []) ∷
    text ("1 event  1" ∷ []) ∷
    text (" 1 event 1" ∷ []) ∷
    text ("1 event 1 " ∷ []) ∷
    bytes "1\tevent 1\n" ∷
    text ("01 event 1" ∷ []) ∷
    text ("1 event 01" ∷ []) ∷
    text ("1 event -1" ∷ []) ∷
    text ("1 lasts 0 -1" ∷ []) ∷
    text ("1 after 0 -1" ∷ []) ∷
    text ("1 seq 0 x" ∷ []) ∷
    text ("1 seq 0 10000000000" ∷ []) ∷
    text ("1 lasts 0 1000000000" ∷ []) ∷
    text ("1 after 0 1000000000.0" ∷ []) ∷
    text ("1.0 event 1" ∷ []) ∷
    text ("1 event 1.0" ∷ []) ∷
    text ("1 seq 0.0 0" ∷ []) ∷
    text ("1 seq 0 0.0" ∷ []) ∷
    text ("1 -[] 0 0.0" ∷ []) ∷
    text ("1 or 0 0.0" ∷ []) ∷
    text ("1 cut 0 0.0" ∷ []) ∷
    text ("1 lasts 0.0 0" ∷ []) ∷
    text ("1 after 0 .5" ∷ []) ∷
    text ("1 atmost 0 5." ∷ []) ∷
    text ("1 atleast 0 1.55" ∷ []) ∷
    unended "1 event 1" ∷
    bytes "1\tevent\t1\r\n" ∷ [])

-- "4 entry number not the next; 5 operand not lower; 6 code or length out of range"
abbrev not_of_the_table : List Case
not_of_the_table =
    refused (text ("1 event 1" ∷ [])) 4 1 ∷
    refused (text ("0 event 1" ∷ "0 event 1" ∷ [])) 4 2 ∷
    refused (text ("0 event 1" ∷ "2 event 1" ∷ [])) 4 2 ∷
    refused (text ("0 event 1" ∷ "1 seq 0 1" ∷ [])) 5 2 ∷
    refused (text ("0 event 1" ∷ "1 or 1 0" ∷ [])) 5 2 ∷
    refused (text ("0 event 1" ∷ "1 -[] 0 1" ∷ [])) 5 2 ∷
    refused (text ("0 event 1" ∷ "1 lasts 1 0" ∷ [])) 5 2 ∷
    refused (text ("0 event 1" ∷ "1 after 1 0" ∷ [])) 5 2 ∷
    refused (text ("0 event 1" ∷ "1 cut 1 0" ∷ [])) 5 2 ∷
    refused (text ("0 event 1" ∷ "1 cut 0 1" ∷ [])) 5 2 ∷
    refused (text ("0 event 1" ∷ "1 change 1 0" ∷ [])) 5 2 ∷
    refused (text ("0 event 1" ∷ "1 change 0 1" ∷ [])) 5 2 ∷
    refused (text ("0 event 256" ∷ [])) 6 1 ∷
    refused (text ("0 event 1" ∷ "1 atmost 0 200000001" ∷ [])) 6 2 ∷
    refused (text ("0 event 1" ∷ "1 after 0 200000000.1" ∷ [])) 6 2 ∷
    refused (text ("0 event 1" ∷ "1 lasts 0 999999999.9" ∷ [])) 6 2 ∷ []

-- "in a line 2, 3, 4, 6, 5": each line refused has a fault that comes later in this order, too
abbrev in_a_line : List Case
in_a_line =
    -- 2 before 3, 4, 6 and 5
    refused (full ++ text ("x" ∷ [])) 2 33 ∷
    refused (full ++ text ("33 event 1" ∷ [])) 2 33 ∷
    refused (full ++ text ("32 event 256" ∷ [])) 2 33 ∷
    refused (full ++ text ("32 seq 32 32" ∷ [])) 2 33 ∷
    refused (full ++ unended "0 seq 40 40") 2 33 ∷
    -- 3 before 4, 6 and 5
    refused (text ("1 event" ∷ [])) 3 1 ∷
    refused (text ("0 event 256 0" ∷ [])) 3 1 ∷
    refused (text ("0 seq 0" ∷ [])) 3 1 ∷
    refused (unended "1 lasts 1 200000000.1") 3 1 ∷
    -- 4 before 6 and 5
    refused (text ("1 event 256" ∷ [])) 4 1 ∷
    refused (text ("1 seq 1 1" ∷ [])) 4 1 ∷
    refused (text ("1 lasts 1 200000000.1" ∷ [])) 4 1 ∷
    -- 6 before 5, and 5 alone
    refused (text ("0 lasts 0 200000000.1" ∷ [])) 6 1 ∷
    refused (text ("0 lasts 0 200000000.0" ∷ [])) 5 1 ∷
    refused (text ("0 after 0 200000000.1" ∷ [])) 6 1 ∷
    refused (text ("0 after 0 200000000.0" ∷ [])) 5 1 ∷
    refused (text ("0 cut 0 2000000001" ∷ [])) 5 1 ∷
    refused (text ("0 change 0 2000000001" ∷ [])) 5 1 ∷ []

-- "lines from the first": the first fault of a chart is reported, whatever its number. The later line has the fault that comes first in a line.
abbrev from_the_first : List Case
from_the_first =
    refused (text (lines31 ++ "31 seq 31 31" ∷ "32 event 1" ∷ [])) 5 32 ∷
    refused (text ("0 event 1" ∷ "1 seq 1 1" ∷ "2 lasts 0 200000000.1" ∷ "x" ∷ [])) 5 2 ∷
    refused (text ("0 event 256" ∷ "2 event 1" ∷ [])) 6 1 ∷
    refused (text ("0 event 1" ∷ "2 event 1" ∷ "x" ∷ [])) 4 2 ∷
    refused (text ("0 event 1" ∷ "x" ∷ [] ++ lines31)) 3 2 ∷ []

pub cases : List Case
cases = table_of_words ++ too_few_or_many ++ not_of_the_form ++ not_of_the_table ++ in_a_line ++ from_the_first

pub examples : map (λ (c : Case). reading c.chart) cases ≡ map (λ (c : Case). c.expected) cases
unfolding cases bytes tabbed unended text split lines is_length is_digit all_digits value_from has_leading_zero is_number number_of milliseconds_of in_tenths has_point length_of words same_bytes place_of operator_of edges_of relation_of length_test_of kind_of in_range are_lower with_code event_line with_operands second_of second_operand operands_line by_operator operator_line numbered parsed_line checked_entry checked_line answer_to no_entries with_entry refused_chart read_lines or_no_line read_chart
examples = refl

-- Lines added to a chart (request N13): those of the chart, the bytes added, and what must come out. "Lines may be added to the chart ..., numbered on from
-- the last entry"; "bad lines, or none, give the chart reader's number and line, counted from the first added line, 2 now being a 33rd entry, and the old
-- chart ... stay".
pub record Addition : Type 0 where
  pub lines : List String
  pub added : List ℕ
  pub expected : Reading

-- to a chart of two entries
abbrev two_lines : List String
two_lines = "0 event 1" ∷ "1 event 2" ∷ []

abbrev two_entries : List Meaning
two_entries = means Event Leaf 1 0 ∷ means Event Leaf 2 0 ∷ []

abbrev added_to2 : List ℕ → List Meaning → Addition
added_to2 s ms = record { lines = two_lines; added = s; expected = record { refusal = 0; line = 0; entries = two_entries ++ ms } }

abbrev refused_to2 : List ℕ → ℕ → ℕ → Addition
refused_to2 s n line = record { lines = two_lines; added = s; expected = record { refusal = n; line = line; entries = two_entries } }

-- to a chart of many entries, all of which are events of code 1; k is how many the chart answered has
abbrev events_to : List String → List ℕ → ℕ → ℕ → ℕ → Addition
events_to ls s n line k = record { lines = ls; added = s; expected = record { refusal = n; line = line; entries = replicate k (means Event Leaf 1 0) } }

pub additions : List Addition
additions =
    -- taken: one line, and two of which the second refers to the first
    added_to2 (text ("2 seq 0 1" ∷ [])) (means (Pair Seq) Double 0 1 ∷ []) ∷
    added_to2 (text ("2 seq 1 0" ∷ "3 lasts 2 500" ∷ [])) (means (Pair Seq) Double 1 0 ∷ means (Length Lasts) Single 2 5000 ∷ []) ∷
    -- none
    refused_to2 (text []) 1 1 ∷
    -- the second added line is line 2, though it asks for entry 3 and would be line 4 of the chart
    refused_to2 (text ("2 seq 0 1" ∷ "3 seq 0" ∷ [])) 3 2 ∷
    refused_to2 (text ("2 seq 0 1" ∷ []) ++ unended "3 event 3") 3 2 ∷
    refused_to2 (text ("2 seq 0 1" ∷ "0 event 3" ∷ [])) 4 2 ∷
    refused_to2 (text ("2 seq 0 1" ∷ "2 event 3" ∷ [])) 4 2 ∷
    refused_to2 (text ("2 seq 0 1" ∷ "3 and 2 3" ∷ [])) 5 2 ∷
    refused_to2 (text ("2 seq 0 1" ∷ "3 event 256" ∷ [])) 6 2 ∷
    -- the first one is line 1; numbers that begin at 0 again are not the next
    refused_to2 (text ("0 event 3" ∷ "1 event 4" ∷ [])) 4 1 ∷
    refused_to2 (text ("2 seq 1 2" ∷ "x" ∷ [])) 5 1 ∷
    -- in a line 3, 4, 6, 5
    refused_to2 (text ("3 lasts 3" ∷ [])) 3 1 ∷
    refused_to2 (text ("3 lasts 3 200000000.1" ∷ [])) 4 1 ∷
    refused_to2 (text ("2 lasts 2 200000000.1" ∷ [])) 6 1 ∷
    refused_to2 (text ("2 lasts 2 200000000.0" ∷ [])) 5 1 ∷
    -- a 32nd entry is taken, a 33rd is not, whatever stands in its line
    events_to lines31 (text ("31 event 1" ∷ [])) 0 0 32 ∷
    events_to lines31 (text ("31 event 1" ∷ "32 event 1" ∷ [])) 2 2 31 ∷
    events_to lines31 (text ("31 event 1" ∷ "x" ∷ [])) 2 2 31 ∷
    events_to lines31 (text ("31 seq 31 31" ∷ "32 event 1" ∷ [])) 5 1 31 ∷
    events_to lines32 (text ("32 event 1" ∷ [])) 2 1 32 ∷
    events_to lines32 (text ("0 seq 40" ∷ [])) 2 1 32 ∷
    events_to lines32 (unended "32") 2 1 32 ∷
    events_to lines32 (text []) 1 1 32 ∷ []

pub additions_read : map (λ (a : Addition). reading_of (read_added (read_chart (text a.lines)).chart a.added)) additions ≡ map (λ (a : Addition). a.expected) additions
unfolding additions bytes tabbed unended text split lines is_length is_digit all_digits value_from has_leading_zero is_number number_of milliseconds_of in_tenths has_point length_of words same_bytes place_of operator_of length_test_of kind_of in_range are_lower with_code event_line with_operands second_of second_operand operands_line by_operator operator_line numbered parsed_line checked_entry checked_line answer_to no_entries with_entry refused_chart read_lines or_no_line read_chart fault_in entries_of added_verdict with_entries read_added
additions_read = refl

-- a chart that counts over 32 entries, which no reader makes, takes no line
pub added_to_33 : (read_added (record { count = 33; entries = replicate 32 (entry 0 1 0) }) (text ("33 event 1" ∷ []))) ≡ record { refusal = 2; line = 1; chart = record { count = 33; entries = replicate 32 (entry 0 1 0) } }
unfolding bytes tabbed unended text split lines answer_to fault_in entries_of added_verdict with_entries read_added
added_to_33 = refl

-- the codes, which stay, since a host holds charts: the order of the operator table, then the words behind it; the last is none of them
abbrev words_by_code : List String
words_by_code =
    "event" ∷ "seq" ∷ "or" ∷ "and" ∷ "-[]" ∷ "-][" ∷ "-[[" ∷ "-]]" ∷ "meets" ∷ "overlaps" ∷ "starts" ∷ "during" ∷
    "finishes" ∷ "equals" ∷ "lasts" ∷ "atmost" ∷ "atleast" ∷ "after" ∷ "cut" ∷ "change" ∷ "none" ∷ []

pub codes :
    map (λ (w : String). operator_of (bytes w)) words_by_code
    ≡ map Some (0 ∷ 1 ∷ 2 ∷ 3 ∷ 4 ∷ 5 ∷ 6 ∷ 7 ∷ 8 ∷ 9 ∷ 10 ∷ 11 ∷ 12 ∷ 13 ∷ 14 ∷ 15 ∷ 16 ∷ 17 ∷ 18 ∷ 19 ∷ []) ++ None ∷ []
unfolding bytes words same_bytes place_of operator_of
codes = refl
