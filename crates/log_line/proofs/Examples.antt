-- Log lines as text, without their byte 10: the call that each asks for, and what is written of it, computed. What must come out was found by hand from
-- document 01 and request N11.
use Prim.Native.Nat.{ℕ}
use mathlib.Core.Path.{◌≡◌, refl}
use mathlib.Core.List.{List, [], ◌∷◌, ◌++◌, map}
use lib.IntN.{pos, negsuc}
use lib.ListN.{replicate}
use Rattle.interval.specs.Instants.{is_instant}
use Rattle.std.specs.Prelude.{Option, Some, None}
use Rattle.text.specs.Text.{split}
use Rattle.text.specs.Output.{output_where}
use Rattle.text.specs.Quoted.{bytes, tabbed, unended, text}
use Rattle.decimal.specs.Spelling.{is_digit, all_digits, value_from, has_leading_zero, is_number, number_of, milliseconds_of, in_tenths, has_point, length_of, without_minus, with_minus, instant_of, digits_within, spelled_number, spelled_length, signed}
use Rattle.chart.specs.Operators.{place_of}
use Rattle.log_line.specs.declared.Call.{Call}
use Rattle.log_line.specs.declared.Call.TheVariants.{Open, Event, Clock, Forget}
use Rattle.log_line.specs.Log.{call_words, event_call, instant_call, word_call, fields_call, call_of, instant_line, has_line, line_of, asked_length, asked_output}

-- a line, and the call that it asks for, or none
record Case : Type 0 where
  line : List ℕ
  call : Option Call

infix 80 ◌⇒◌
abbrev ◌⇒◌ : List ℕ → Option Call → Case
l ⇒ c = record { line = l; call = c }

-- "Log lines: `open` instant (first line only), `event` code, `clock` instant, `forget` instant".
-- An instant is in tenths: with a point and one digit, or in whole milliseconds. One out of range is refused by the call, with 8 or 11.
abbrev taken : List Case
taken =
    unended "open -2" ⇒ Some (Open (negsuc 19)) ∷
    unended "open -0.5" ⇒ Some (Open (negsuc 4)) ∷
    unended "event 0" ⇒ Some (Event 0) ∷
    unended "event 255" ⇒ Some (Event 255) ∷
    unended "clock 999999999" ⇒ Some (Clock (pos 9999999990)) ∷
    unended "clock 999999999.9" ⇒ Some (Clock (pos 9999999999)) ∷
    unended "clock -999999999.9" ⇒ Some (Clock (negsuc 9999999998)) ∷
    unended "forget 0" ⇒ Some (Forget (pos 0)) ∷
    unended "forget 0.0" ⇒ Some (Forget (pos 0)) ∷ []

-- "7 a log line not of its form, a code above 255"
abbrev malformed : List Case
malformed =
    -- code
    unended "event 256" ⇒ None ∷
    unended "event -1" ⇒ None ∷
    unended "event 01" ⇒ None ∷
    unended "event 1.0" ⇒ None ∷
    -- instant: a minus before 0, two of them, a leading zero behind it, a plus, 10 digits; no digit before the point, none behind it, and two
    unended "clock -0" ⇒ None ∷
    unended "clock -0.0" ⇒ None ∷
    unended "clock --1" ⇒ None ∷
    unended "clock -01" ⇒ None ∷
    unended "clock +1" ⇒ None ∷
    unended "clock 1000000000" ⇒ None ∷
    unended "clock -1000000000.0" ⇒ None ∷
    unended "clock .5" ⇒ None ∷
    unended "clock 1." ⇒ None ∷
    unended "clock 1.55" ⇒ None ∷
    -- fields: a tab behind, in front, two of them, a space for a tab, one field too many, too few, none
    unended "clock 1 " ⇒ None ∷
    unended " open 1" ⇒ None ∷
    unended "forget  1" ⇒ None ∷
    bytes "open 1" ⇒ None ∷
    unended "event 1 1" ⇒ None ∷
    unended "open" ⇒ None ∷
    unended "" ⇒ None ∷
    -- word: none, in capitals, with a letter too many
    unended "close 1" ⇒ None ∷
    unended "Event 1" ⇒ None ∷
    unended "events 1" ⇒ None ∷ []

cases : List Case
cases = taken ++ malformed

examples : map (λ (c : Case). call_of c.line) cases ≡ map (λ (c : Case). c.call) cases
unfolding cases bytes tabbed unended split is_digit all_digits value_from has_leading_zero is_number number_of milliseconds_of in_tenths has_point length_of without_minus with_minus instant_of place_of call_words event_call instant_call word_call fields_call call_of
examples = refl

-- what a line asks for, written into an output of so many bytes 0
record Written : Type 0 where
  line : List ℕ
  room : ℕ
  length : Option ℕ
  output : List ℕ

abbrev zeros : ℕ → List ℕ
zeros n = replicate n 0

-- Of a line that is not of its form nothing is written, nor of an instant out of range, nor into an output of 19 bytes.
written : List Written
written =
    record { line = unended "event 7"; room = 20; length = Some 8; output = text ("event 7" ∷ []) ++ zeros 12 } ∷
    record { line = unended "clock -2"; room = 21; length = Some 11; output = text ("clock -2.0" ∷ []) ++ zeros 10 } ∷
    record { line = unended "event 256"; room = 20; length = None; output = zeros 20 } ∷
    record { line = unended "forget"; room = 20; length = None; output = zeros 20 } ∷
    record { line = []; room = 20; length = None; output = zeros 20 } ∷
    record { line = unended "clock 999999999.9"; room = 20; length = None; output = zeros 20 } ∷
    record { line = unended "open 1"; room = 19; length = None; output = zeros 19 } ∷ []

abbrev lengths_written : List Written → List (Option ℕ)
lengths_written cs = map (λ (w : Written). asked_length (call_of w.line) (zeros w.room)) cs

abbrev outputs_written : List Written → List (List ℕ)
outputs_written cs = map (λ (w : Written). asked_output (call_of w.line) (zeros w.room)) cs

examples_written : (lengths_written written ≡ map (λ (w : Written). w.length) written) × (outputs_written written ≡ map (λ (w : Written). w.output) written)
unfolding written bytes tabbed unended text split is_instant is_digit all_digits value_from has_leading_zero is_number number_of milliseconds_of in_tenths has_point length_of without_minus with_minus instant_of place_of call_words event_call instant_call word_call fields_call call_of digits_within spelled_number spelled_length signed instant_line has_line line_of output_where
examples_written = (refl, refl)
