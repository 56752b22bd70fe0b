-- A line of the log. Document 01, "Chart and log on paper": "Log lines: `open` instant (first line only), `event` code, `clock`
-- instant, `forget` instant"; "fields parted by one tab". A line of this form has at most 20 bytes with its byte 10, so that the
-- limit of 64 asks nothing more (`LinesFit`).
use Rattle.std.specs.Prelude.{ℕ, ◌+◌, Bool, cond, ◌&&◌, List, [], ◌∷◌, ◌++◌, map, eqb, leb, ℤ, pos, length, Option, Some, None}
use Rattle.interval.specs.Instants.{is_instant}
use Rattle.text.specs.Text.{Line, lines, is_record, fields}
use Rattle.text.specs.Output.{output_where}
use Rattle.decimal.specs.Spelling.{number_of, instant_of, spelled_number, spelled_instant}
use Rattle.chart.specs.Operators.{place_of}
use Rattle.log_line.specs.declared.Call.{Call}

abbrev pub open_word : List ℕ
open_word = 111 ∷ 112 ∷ 101 ∷ 110 ∷ []

abbrev pub event_word : List ℕ
event_word = 101 ∷ 118 ∷ 101 ∷ 110 ∷ 116 ∷ []

abbrev pub clock_word : List ℕ
clock_word = 99 ∷ 108 ∷ 111 ∷ 99 ∷ 107 ∷ []

abbrev pub forget_word : List ℕ
forget_word = 102 ∷ 111 ∷ 114 ∷ 103 ∷ 101 ∷ 116 ∷ []

unfoldable pub call_words : List (List ℕ)
call_words = open_word ∷ event_word ∷ clock_word ∷ forget_word ∷ []

-- "7 a log line not of its form, a code above 255": such a line asks for no call
unfoldable pub event_call : Option ℕ → Option Call
event_call (Some k) = cond (leb k 255) (Some (Call.Event k)) None
event_call None = None

-- the call that an instant makes, in its range or not
unfoldable pub instant_call : (ℤ → Call) → Option ℤ → Option Call
instant_call make (Some z) = Some (make z)
instant_call make None = None

-- the call of the word at place w of the words, with the field x behind it
unfoldable pub word_call : ℕ → List ℕ → Option Call
word_call w x =
    cond (eqb w 0) (instant_call Call.Open (instant_of x))
    (cond (eqb w 1) (event_call (number_of x))
    (cond (eqb w 2) (instant_call Call.Clock (instant_of x))
    (cond (eqb w 3) (instant_call Call.Forget (instant_of x)) None)))

-- a word and one field behind it
unfoldable pub fields_call : List (List ℕ) → Option Call
fields_call [] = None
fields_call (w ∷ []) = None
fields_call (w ∷ x ∷ []) = word_call (place_of w call_words) x
fields_call (w ∷ x ∷ y ∷ ys) = None

-- the call of a line without its byte 10
unfoldable pub call_of : List ℕ → Option Call
call_of s = fields_call (fields s)

-- a line of a whole log: none where it lacks its byte 10 or has over 64 bytes
unfoldable pub call_in : Line → Option Call
call_in l = cond (is_record l) (call_of l.bytes) None

-- the lines of a whole log
abbrev pub calls_of : List ℕ → List (Option Call)
calls_of s = map call_in (lines s)

-- What a line hands over: the place of its word among the words, and the code or instant behind the word.
pub record Asked : Type 0 where
  pub word : ℕ
  pub value : ℤ

-- A line's answer: the refusal's number, 0 for none, and what the line hands over. "A line refused with 7 yields the number alone."
pub record LineAnswer : Type 0 where
  pub refusal : ℕ
  pub asked : List Asked

abbrev pub refused_line : LineAnswer
refused_line = record { refusal = 7; asked = [] }

abbrev pub taken_line : ℕ → ℤ → LineAnswer
taken_line w z = record { refusal = 0; asked = record { word = w; value = z } ∷ [] }

-- "Where an answer is an enum, a definition gives this paper's number and values for each case of the enum."
abbrev pub answer_of : Option Call → LineAnswer
answer_of None = refused_line
answer_of (Some (Call.Open o)) = taken_line 0 o
answer_of (Some (Call.Event k)) = taken_line 1 (pos k)
answer_of (Some (Call.Clock x)) = taken_line 2 x
answer_of (Some (Call.Forget f)) = taken_line 3 f

-- The answer from the line alone, with no enum of calls: 7 unless it is one of the words, a tab, and behind `event` a code to 255, behind each other
-- word an instant, as they are spelled.
unfoldable pub code_answer : Option ℕ → LineAnswer
code_answer (Some k) = cond (leb k 255) (taken_line 1 (pos k)) refused_line
code_answer None = refused_line

unfoldable pub instant_answer : ℕ → Option ℤ → LineAnswer
instant_answer w (Some z) = taken_line w z
instant_answer w None = refused_line

unfoldable pub word_answer : ℕ → List ℕ → LineAnswer
word_answer w x = cond (eqb w (length call_words)) refused_line (cond (eqb w 1) (code_answer (number_of x)) (instant_answer w (instant_of x)))

unfoldable pub fields_answer : List (List ℕ) → LineAnswer
fields_answer [] = refused_line
fields_answer (w ∷ []) = refused_line
fields_answer (w ∷ x ∷ []) = word_answer (place_of w call_words) x
fields_answer (w ∷ x ∷ y ∷ ys) = refused_line

unfoldable pub line_answer : List ℕ → LineAnswer
line_answer s = fields_answer (fields s)

-- A line as it is written, with its byte 10: a word, a tab, a number.
abbrev pub word_line : List ℕ → List ℕ → List ℕ
word_line word number = (word ++ (9 ∷ [])) ++ (number ++ (10 ∷ []))

-- an instant with "one digit after" the point (request N11); a number that is no instant has no line
unfoldable pub instant_line : List ℕ → ℤ → List ℕ
instant_line word t = cond (is_instant t) (word_line word (spelled_instant t)) []

-- the calls that have a line: a code to 255, an instant in range
unfoldable pub has_line : Call → Bool
has_line (Call.Open o) = is_instant o
has_line (Call.Event k) = leb k 255
has_line (Call.Clock x) = is_instant x
has_line (Call.Forget f) = is_instant f

-- the line of a call
unfoldable pub line_of : Call → List ℕ
line_of (Call.Open o) = instant_line open_word o
line_of (Call.Event k) = word_line event_word (spelled_number k)
line_of (Call.Clock x) = instant_line clock_word x
line_of (Call.Forget f) = instant_line forget_word f

-- the most bytes that such a line takes: 6 for the longest word, 12 for an instant, and the tab and the end
abbrev pub line_most : ℕ
line_most = 6 + 1 + 12 + 1

-- It is written where the output has room for the longest: how many bytes, or none where it is not written.
abbrev pub call_length : Call → List ℕ → Option ℕ
call_length c out = cond (leb line_most (length out) && has_line c) (Some (length (line_of c))) None

abbrev pub call_output : Call → List ℕ → List ℕ
call_output c out = output_where (leb line_most (length out)) (line_of c) out

-- of what a line asks for: where it asks for no call there is nothing to write
abbrev pub asked_length : Option Call → List ℕ → Option ℕ
asked_length None out = None
asked_length (Some c) out = call_length c out

abbrev pub asked_output : Option Call → List ℕ → List ℕ
asked_output None out = out
asked_output (Some c) out = call_output c out
