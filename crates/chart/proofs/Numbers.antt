-- The numbers of the answers to a line, to a chart and to lines added: they are taken, or refused with one of the numbers at a line.
use Rattle.std.proofs.Common.{ℕ, zero, suc, ◌+◌, ◌<◌, ◌≡◌, refl, Bool, true, false, cond, eqb, leb, List, [], ◌∷◌, length, get_or, arith}
use mathlib.Core.List.{Memᴰ}
use borrow.Author.Tests.{ne_eqb}
use Rattle.std.specs.Prelude.{Option, None, Some, Result, Ok, Err}
use Rattle.refusal.specs.Numbers.{number_of}
use Rattle.refusal.specs.declared.Refusal.{Refusal}
use Rattle.refusal.specs.declared.Refusal.TheVariants.{ChartTooLong, MalformedEntry, EntryNotNext, OperandNotLower, OperandOutOfRange}
use Rattle.text.specs.Text.{Line, lines, whole, is_record, fields}
use Rattle.chart.specs.Operators.{kind_of, in_range, are_lower}
use Rattle.chart.specs.Records.{entry, parsed_line, checked_entry, checked_line, answer_to}
use Rattle.chart.specs.Charts.{no_entries, with_entry, by_answer, refused_chart, taken_chart, read_lines, add_line, or_no_line, read_chart, verdict, fault_in, entries_of, added_verdict, with_entries, read_added}
use Rattle.chart.specs.declared.Entry.{Entry}
use Rattle.chart.specs.declared.Chart.{Chart}
use Rattle.chart.specs.declared.ChartAnswer.{ChartAnswer}
use Rattle.chart.specs.declared.record.Fields.{Fields}
use Rattle.chart.proofs.Charts.{number_some}
use Rattle.chart.proofs.Added.{answer_by}

-- number i of a list stands in it
pub nth : (i : ℕ) (ns : List ℕ) → i < length ns → Memᴰ (get_or ns i 0) ns
nth i [] h = absurd (omega arith)
nth zero (n ∷ ns) h = Memᴰ.head refl
nth (suc i) (n ∷ ns) h = Memᴰ.tail (nth i ns (omega arith))

-- what holds of both holds of either
pub cond_holds : {A : Type 0} (P : A → Type 0) (b : Bool) (x y : A) → P x → P y → P (cond b x y)
cond_holds P true x y p q = p
cond_holds P false x y p q = q

-- so if both have a number of the list
pub either : {A : Type 0} (f : A → ℕ) (ns : List ℕ) (b : Bool) (x y : A) → Memᴰ (f x) ns → Memᴰ (f y) ns → Memᴰ (f (cond b x y)) ns
either f ns = cond_holds (λ x. Memᴰ (f x) ns)

-- "in a line 2, 3, 4, 6, 5"
abbrev line_numbers : List ℕ
line_numbers = 2 ∷ 3 ∷ 4 ∷ 6 ∷ 5 ∷ []

-- a line is taken, or refused with one of these
Numbered : Result Entry Refusal → Type 0
Numbered (Ok e) = Unit {0}
Numbered (Err r) = Memᴰ (number_of r) line_numbers

entry_numbered : (n : ℕ) (l : Fields) → Numbered (checked_entry n l)
unfolding checked_entry Numbered
entry_numbered n l =
    let own = cond (are_lower (kind_of l.op) n l.a l.b) (Ok (entry l.op l.a l.b)) (Err OperandNotLower) in
    let ranged = cond (in_range (kind_of l.op) l.a l.b) own (Err OperandOutOfRange) in
    cond_holds Numbered (eqb l.number n) ranged (Err EntryNotNext)
    (cond_holds Numbered (in_range (kind_of l.op) l.a l.b) own (Err OperandOutOfRange) (cond_holds Numbered (are_lower (kind_of l.op) n l.a l.b) (Ok (entry l.op l.a l.b)) (Err OperandNotLower) tt (nth 4 line_numbers (omega arith))) (nth 3 line_numbers (omega arith)))
    (nth 2 line_numbers (omega arith))

parsed_numbered : (n : ℕ) (p : Option Fields) → Numbered (checked_line n p)
unfolding checked_line Numbered
parsed_numbered n None = nth 1 line_numbers (omega arith)
parsed_numbered n (Some l) = entry_numbered n l

line_numbered : (n : ℕ) (l : Line) → Numbered (answer_to n l)
unfolding answer_to Numbered
line_numbered n l =
    let own = checked_line n (parsed_line (fields l.bytes)) in
    cond_holds Numbered (leb 32 n) (Err ChartTooLong) (cond (is_record l) own (Err MalformedEntry)) (nth 0 line_numbers (omega arith))
    (cond_holds Numbered (is_record l) own (Err MalformedEntry) (parsed_numbered n (parsed_line (fields l.bytes))) (nth 1 line_numbers (omega arith)))

-- a chart that is taken, or refused with one of the numbers at a line counted from 1 and with the chart handed back
pub data Answered (ns : List ℕ) (back : Chart) : ChartAnswer → Type 0 where
  taken : (c : Chart) → Answered ns back (taken_chart c)
  refused : (n line : ℕ) → Memᴰ n (0 ∷ ns) → (n ≡ 0 → ⊥) → Answered ns back (record { refusal = n; line = line + 1; chart = back })

refused_answered : (ns : List ℕ) (n line : ℕ) → Memᴰ n (0 ∷ ns) → (n ≡ 0 → ⊥) → Answered ns no_entries (refused_chart n (line + 1))
unfolding refused_chart
refused_answered ns n line h d = refused n line h d

lines_read : (c : Chart) (ls : List Line) → Answered line_numbers no_entries (read_lines c ls)
unfolding read_lines Numbered
lines_read c [] = taken c
lines_read c (l ∷ ls) = go (answer_to c.count l) (line_numbered c.count l) (λ e. lines_read (with_entry c e) ls)
  where
    go : (r : Result Entry Refusal) → Numbered r → ((e : Entry) → Answered line_numbers no_entries (read_lines (with_entry c e) ls)) → Answered line_numbers no_entries (by_answer r (λ e. read_lines (with_entry c e) ls) (λ n. refused_chart n (c.count + 1)))
    go (Ok e) m h = h e
    go (Err r) m h = refused_answered line_numbers (number_of r) c.count (Memᴰ.tail m) (number_some r)

pub line_answered : (c : Chart) (s : List ℕ) → Answered line_numbers no_entries (add_line c s)
unfolding add_line
line_answered c s = cond_holds (Answered line_numbers no_entries) (leb 32 c.count) (refused_chart 2 33) (read_lines c (whole s ∷ [])) (refused_answered line_numbers 2 32 (nth 1 (0 ∷ line_numbers) (omega arith)) (λ e. omega arith)) (lines_read c (whole s ∷ []))

-- with "1 no line" besides
with_none : {back : Chart} {a : ChartAnswer} → Answered line_numbers back a → Answered (1 ∷ line_numbers) back a
with_none (taken c) = taken c
with_none (refused n line h d) = refused n line (go h) d
  where
    go : {n : ℕ} → Memᴰ n (0 ∷ line_numbers) → Memᴰ n (0 ∷ 1 ∷ line_numbers)
    go (Memᴰ.head e) = Memᴰ.head e
    go (Memᴰ.tail m) = Memᴰ.tail (Memᴰ.tail m)

pub some_answered : (ls : List Line) → Answered (1 ∷ line_numbers) no_entries (or_no_line ls)
unfolding or_no_line
some_answered [] = refused_answered (1 ∷ line_numbers) 1 0 (nth 1 (0 ∷ 1 ∷ line_numbers) (omega arith)) (λ e. omega arith)
some_answered (l ∷ ls) = with_none (lines_read no_entries (l ∷ ls))

pub chart_answered : (s : List ℕ) → Answered (1 ∷ line_numbers) no_entries (read_chart s)
unfolding read_chart
chart_answered s = some_answered (lines s)

-- lines added: a refusal hands back the chart given
fault_answered : (longer given : Chart) (n k : ℕ) (ls : List Line) → Answered line_numbers given (answer_by (fault_in n (k + 1) ls) longer given)
unfolding fault_in Numbered
fault_answered longer given n k [] = taken longer
fault_answered longer given n k (l ∷ ls) = go (answer_to n l) (line_numbered n l) (fault_answered longer given (n + 1) (k + 1) ls)
  where
    go : (r : Result Entry Refusal) → Numbered r → Answered line_numbers given (answer_by (fault_in (n + 1) (k + 1 + 1) ls) longer given) → Answered line_numbers given (answer_by (by_answer r (λ e. fault_in (n + 1) (k + 1 + 1) ls) (λ m. verdict m (k + 1))) longer given)
    go (Ok e) m h = h
    go (Err r) m h = rw (ne_eqb _ _ (number_some r)) (refused (number_of r) k (Memᴰ.tail m) (number_some r))

pub added_answered : (c : Chart) (s : List ℕ) → Answered (1 ∷ line_numbers) c (read_added c s)
unfolding read_added added_verdict
added_answered c s = go (lines s)
  where
    go : (ls : List Line) → Answered (1 ∷ line_numbers) c (answer_by (added_verdict c.count ls) (with_entries c (entries_of c.count ls)) c)
    go [] = refused 1 0 (nth 1 (0 ∷ 1 ∷ line_numbers) (omega arith)) (λ e. omega arith)
    go (l ∷ ls) = with_none (fault_answered _ c c.count 0 (l ∷ ls))
