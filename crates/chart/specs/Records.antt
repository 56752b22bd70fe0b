-- A line of a chart. Document 01, "Chart and log on paper": "Chart line: entry number, operator word, operands."
-- `first_answer` alone serves the proofs.
use Rattle.std.specs.Prelude.{ℕ, ◌-◌, cond, List, [], ◌∷◌, eqb, leb, take, Option, None, Some, Result, Ok, Err}
use Rattle.refusal.specs.declared.Refusal.{Refusal}
use Rattle.refusal.specs.declared.Refusal.TheVariants.{ChartTooLong, MalformedEntry, EntryNotNext, OperandNotLower, OperandOutOfRange}
use Rattle.decimal.specs.Spelling.{number_of, length_of}
use Rattle.text.specs.Text.{Line, is_record, fields, line_size}
use Rattle.chart.specs.Operators.{operator_of, kind_of, takes_length, in_range, are_lower}
use Rattle.chart.specs.declared.Entry.{Entry}
use Rattle.chart.specs.declared.operator.Kind.{Kind}
use Rattle.chart.specs.declared.record.Fields.{Fields}

abbrev pub entry : ℕ → ℕ → ℕ → Entry
entry op a b = record { op = op; a = a; b = b }

-- what stands in a line: entry number, operator code, operands; of a line that is not of the form, nothing
abbrev pub line_of : ℕ → ℕ → ℕ → ℕ → Fields
line_of e op a b = record { number = e; op = op; a = a; b = b }

-- an event has one operand, its code
unfoldable pub with_code : ℕ → Option ℕ → Option Fields
with_code e (Some k) = Some (line_of e 0 k 0)
with_code e None = None

unfoldable pub event_line : ℕ → List (List ℕ) → Option Fields
event_line e [] = None
event_line e (k ∷ []) = with_code e (number_of k)
event_line e (k ∷ l ∷ ls) = None

-- every other operator has two
unfoldable pub with_operands : ℕ → ℕ → Option ℕ → Option ℕ → Option Fields
with_operands e op (Some a) (Some b) = Some (line_of e op a b)
with_operands e op (Some a) None = None
with_operands e op None y = None

-- a second operand on paper: a length, which may have a point (request N11), or the number of an entry
unfoldable pub second_of : Kind → List ℕ → Option ℕ
second_of k y = cond (takes_length k) (length_of y) (number_of y)

unfoldable pub second_operand : ℕ → ℕ → Option ℕ → List (List ℕ) → Option Fields
second_operand e op x [] = None
second_operand e op x (y ∷ []) = with_operands e op x (second_of (kind_of op) y)
second_operand e op x (y ∷ z ∷ zs) = None

unfoldable pub operands_line : ℕ → ℕ → List (List ℕ) → Option Fields
operands_line e op [] = None
operands_line e op (x ∷ fs) = second_operand e op (number_of x) fs

unfoldable pub by_operator : ℕ → Option ℕ → List (List ℕ) → Option Fields
by_operator e (Some op) fs = cond (eqb op 0) (event_line e fs) (operands_line e op fs)
by_operator e None fs = None

unfoldable pub operator_line : ℕ → List (List ℕ) → Option Fields
operator_line e [] = None
operator_line e (w ∷ fs) = by_operator e (operator_of w) fs

unfoldable pub numbered : Option ℕ → List (List ℕ) → Option Fields
numbered (Some e) fs = operator_line e fs
numbered None fs = None

-- "entry number, operator word, operands"
unfoldable pub parsed_line : List (List ℕ) → Option Fields
parsed_line [] = None
parsed_line (n ∷ fs) = numbered (number_of n) fs

-- "4 entry number not the next; 5 operand not lower; 6 code or length out of range"; "in a line 2, 3, 4, 6, 5"; n is the next entry
unfoldable pub checked_entry : ℕ → Fields → Result Entry Refusal
checked_entry n l =
    cond (eqb l.number n)
    (cond (in_range (kind_of l.op) l.a l.b)
    (cond (are_lower (kind_of l.op) n l.a l.b) (Ok (entry l.op l.a l.b)) (Err OperandNotLower))
    (Err OperandOutOfRange))
    (Err EntryNotNext)

unfoldable pub checked_line : ℕ → Option Fields → Result Entry Refusal
checked_line n None = Err MalformedEntry
checked_line n (Some l) = checked_entry n l

-- "2 a 33rd line; 3 a line not of the form above"; of lines added to a chart (request N13) "2 now being a 33rd entry"
unfoldable pub answer_to : ℕ → Line → Result Entry Refusal
answer_to n l = cond (leb 32 n) (Err ChartTooLong) (cond (is_record l) (checked_line n (parsed_line (fields l.bytes))) (Err MalformedEntry))

-- The same as the code finds it, from the size of the first line, which it hands back
unfoldable pub with_size : ℕ → Result Entry Refusal → Result (Entry × ℕ) Refusal
with_size k (Ok e) = Ok (e, k)
with_size k (Err r) = Err r

unfoldable pub sized_answer : ℕ → Option ℕ → List ℕ → Result (Entry × ℕ) Refusal
sized_answer n (Some k) s = with_size k (checked_line n (parsed_line (fields (take (k - 1) s))))
sized_answer n None s = Err MalformedEntry

unfoldable pub first_answer : ℕ → List ℕ → Result (Entry × ℕ) Refusal
first_answer n s = cond (leb 32 n) (Err ChartTooLong) (sized_answer n (line_size s) s)
