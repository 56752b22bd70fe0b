-- Charts. Document 01, "Operators of a chart" and "Who can be turned back, and with which number"; lines added to a chart by request N13.
use Rattle.std.specs.Prelude.{ℕ, zero, suc, ◌+◌, Bool, true, cond, ◌&&◌, List, [], ◌∷◌, ◌++◌, eqb, leb, length, get_or, set, take, drop, replicate, Result, Ok, Err}
use Rattle.refusal.specs.Numbers.{number_of}
use Rattle.refusal.specs.declared.Refusal.{Refusal}
use Rattle.text.specs.Text.{Line, lines, whole}
use Rattle.chart.specs.Operators.{kind_of, in_range, are_lower}
use Rattle.chart.specs.Records.{entry, answer_to}
use Rattle.chart.specs.declared.Entry.{Entry}
use Rattle.chart.specs.declared.Chart.{Chart}
use Rattle.chart.specs.declared.Fault.{Fault}
use Rattle.chart.specs.declared.ChartAnswer.{ChartAnswer}
use Rattle.chart.specs.declared.Verdict.{Verdict}

-- a chart of no entries
unfoldable pub no_entries : Chart
no_entries = record { count = 0; entries = replicate 32 (entry 0 0 0) }

unfoldable pub with_entry : Chart → Entry → Chart
with_entry c e = record { count = c.count + 1; entries = set c.entries c.count e }

-- "Returned: the number, the line counted from 1 (line 1 for refusal 1) and a chart of no entries."
unfoldable pub refused_chart : ℕ → ℕ → ChartAnswer
refused_chart n line = record { refusal = n; line = line; chart = no_entries }

abbrev pub taken_chart : Chart → ChartAnswer
taken_chart c = record { refusal = 0; line = 0; chart = c }

-- the chart that is taken, or the number and the line of the refusal
abbrev pub read_answer : Result Chart Fault → ChartAnswer
read_answer (Ok c) = taken_chart c
read_answer (Err f) = refused_chart (number_of f.refusal) f.line

-- what follows a line that is taken, or its refusal
abbrev pub by_answer : {A : Type 0} → Result Entry Refusal → (Entry → A) → (ℕ → A) → A
by_answer (Ok e) taken refused = taken e
by_answer (Err r) taken refused = refused (number_of r)

-- "Order: lines from the first"
unfoldable pub read_lines : Chart → List Line → ChartAnswer
read_lines c [] = taken_chart c
read_lines c (l ∷ ls) = by_answer (answer_to c.count l) (λ e. read_lines (with_entry c e) ls) (λ n. refused_chart n (c.count + 1))

-- the chart with the entry of one more line, which has its byte 10; a chart of 32 or more takes none: "2 a 33rd line"
unfoldable pub add_line : Chart → List ℕ → ChartAnswer
add_line c s = cond (leb 32 c.count) (refused_chart 2 33) (read_lines c (whole s ∷ []))

-- "1 no line"
unfoldable pub or_no_line : List Line → ChartAnswer
or_no_line [] = refused_chart 1 1
or_no_line (l ∷ ls) = read_lines no_entries (l ∷ ls)

-- a chart on paper
unfoldable pub read_chart : List ℕ → ChartAnswer
read_chart s = or_no_line (lines s)

abbrev pub verdict : ℕ → ℕ → Verdict
verdict n line = record { refusal = n; line = line }

-- number and line of the first fault in lines, of which the first is line k and asks for entry n; 0 and 0 if there is none
unfoldable pub fault_in : ℕ → ℕ → List Line → Verdict
fault_in n k [] = verdict 0 0
fault_in n k (l ∷ ls) = by_answer (answer_to n l) (λ e. fault_in (n + 1) (k + 1) ls) (λ m. verdict m k)

-- the entry that a line asks for, blank where it is refused
abbrev pub entry_of : Result Entry Refusal → Entry
entry_of (Ok e) = e
entry_of (Err r) = entry 0 0 0

-- the entries that lines ask for: "numbered on from the last entry", so that the first is entry n
unfoldable pub entries_of : ℕ → List Line → List Entry
entries_of n [] = []
entries_of n (l ∷ ls) = entry_of (answer_to n l) ∷ entries_of (n + 1) ls

-- "bad lines, or none, give the chart reader's number and line, counted from the first added line": none are 1 at line 1
unfoldable pub added_verdict : ℕ → List Line → Verdict
added_verdict n [] = verdict 1 1
added_verdict n (l ∷ ls) = fault_in n 1 (l ∷ ls)

-- the chart's entries, blank where its list is too short, then the added ones; what stood behind those stays
unfoldable pub with_entries : Chart → List Entry → Chart
with_entries c es = record {
  count = c.count + length es;
  entries = take c.count (c.entries ++ replicate c.count (entry 0 0 0)) ++ es ++ drop (c.count + length es) c.entries;
}

-- "Lines may be added to the chart"; where they are refused "the old chart" stays
unfoldable pub read_added : Chart → List ℕ → ChartAnswer
read_added c s =
    let v = added_verdict c.count (lines s) in
    record { refusal = v.refusal; line = v.line; chart = cond (eqb v.refusal 0) (with_entries c (entries_of c.count (lines s))) c }

-- the longer chart, or the number and the line of the refusal and the chart given
abbrev pub added_answer : Chart → Result Chart Fault → ChartAnswer
added_answer c (Ok d) = taken_chart d
added_answer c (Err f) = record { refusal = number_of f.refusal; line = f.line; chart = c }

-- "refusal number and line out, both 0 for a chart taken"
abbrev pub verdict_of : ChartAnswer → Verdict
verdict_of a = record { refusal = a.refusal; line = a.line }

-- entry n is as the operator table has it
unfoldable pub entry_fits : ℕ → Entry → Bool
entry_fits n e = in_range (kind_of e.op) e.a e.b && are_lower (kind_of e.op) n e.a e.b

-- p holds of every number below n
unfoldable pub all_below : ℕ → (ℕ → Bool) → Bool
all_below zero p = true
all_below (suc n) p = p n && all_below n p

abbrev pub entry_at : Chart → ℕ → Entry
entry_at c n = get_or c.entries n (entry 0 0 0)

-- not "14 a chart of no entries, of over 32, or with an entry breaking the operator table"
unfoldable pub is_usable : Chart → Bool
is_usable c = leb 1 c.count && (leb c.count 32 && all_below c.count (λ n. entry_fits n (entry_at c n)))
