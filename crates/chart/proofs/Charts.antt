-- The first line of a text as the code finds it, the reader line by line, and the check behind refusal 14.
use Rattle.std.proofs.Common.{ℕ, suc, ◌+◌, ◌-◌, ◌≤◌, ◌<◌, ◌≡◌, refl, ap, subst, ◌∙◌, Bool, true, false, cond, ltb, leb, List, [], ◌∷◌, length, get_or, take, drop, get_or-take, length-take, length-take-le, arith}
use borrow.Author.Tests.{lt-ltb, le-leb, lt-leb}
use Rattle.std.specs.Prelude.{Option, None, Some, Result, Ok, Err}
use Rattle.std.specs.List.{list_all, enumerate_from}
use Rattle.std.proofs.lemmas.Bool.{and_right}
use Rattle.refusal.specs.Numbers.{number_of}
use Rattle.refusal.specs.declared.Refusal.{Refusal}
use Rattle.refusal.specs.declared.Refusal.TheVariants.{NoLine, ChartTooLong, MalformedEntry, EntryNotNext, OperandNotLower, OperandOutOfRange, MalformedCall, InstantRefused, TooManyPending, TooManyEvents, ForgetRefused, TableFull, Inconsistent, UnusableChart, NoSuchRow, TreeTooLong, ForgetMerged, OpeningsDiffer}
use Rattle.text.specs.Text.{Line, lines, index_of, whole, line_size, fields}
use Rattle.text.proofs.Laws.{first_whole, first_broken, no_line, size_told, size_le}
use Rattle.chart.specs.Records.{entry, parsed_line, checked_line, answer_to, with_size, sized_answer, first_answer}
use Rattle.chart.specs.Charts.{read_lines, add_line, taken_chart, with_entry, by_answer, refused_chart, is_usable, all_below, entry_fits, entry_at}
use Rattle.chart.specs.declared.Entry.{Entry}
use Rattle.chart.specs.declared.Chart.{Chart}
use Rattle.chart.specs.declared.ChartAnswer.{ChartAnswer}
use Rattle.chart.proofs.Below.{test, each_below, same_below}

-- a refusal's number is not 0
pub number_some : (r : Refusal) → number_of r ≡ 0 → ⊥
number_some NoLine e = omega arith
number_some ChartTooLong e = omega arith
number_some MalformedEntry e = omega arith
number_some EntryNotNext e = omega arith
number_some OperandNotLower e = omega arith
number_some OperandOutOfRange e = omega arith
number_some MalformedCall e = omega arith
number_some InstantRefused e = omega arith
number_some TooManyPending e = omega arith
number_some TooManyEvents e = omega arith
number_some ForgetRefused e = omega arith
number_some TableFull e = omega arith
number_some Inconsistent e = omega arith
number_some UnusableChart e = omega arith
number_some NoSuchRow e = omega arith
number_some TreeTooLong e = omega arith
number_some ForgetMerged e = omega arith
number_some OpeningsDiffer e = omega arith

-- the first line of a text as the code finds it: its answer, and where it is taken its size and what follows it
pub record First (n : ℕ) (s : List ℕ) : Type 0 where
  pub line : Line
  pub rest : List Line
  pub size : ℕ
  pub cut : lines s ≡ line ∷ rest
  pub answer : first_answer n s ≡ with_size size (answer_to n line)
  pub some : (e : Entry) → answer_to n line ≡ Ok e → 0 < size
  pub inside : (e : Entry) → answer_to n line ≡ Ok e → size ≤ length s
  pub next : (e : Entry) → answer_to n line ≡ Ok e → rest ≡ lines (drop size s)

first_found : (n : ℕ) (s : List ℕ) (k : ℕ) → line_size s ≡ Some k → First n s
unfolding answer_to first_answer sized_answer with_size
first_found n s k size =
    let i = index_of 10 (take 64 s) in
    let t = size_told s k size in
    let body : length (take i s) ≡ i = length-take-le i s (omega (arith, t.0, t.1, length-take 64 s)) in
    let few : ltb (length (take i s)) 64 ≡ true = lt-ltb (length (take i s)) 64 (omega (arith, t.0, t.1, length-take 64 s)) in
    let less : k - 1 ≡ i = omega (arith, t.0) in
    let more : suc i ≡ k = omega (arith, t.0) in
    record {
      line = whole (take i s);
      rest = lines (drop (suc i) s);
      size = k;
      cut = first_whole s (omega (arith, t.0, t.1));
      answer = simp (size, few, less) (go (leb 32 n) (checked_line n (parsed_line (fields (take i s)))));
      some = λ e h. omega (arith, t.0);
      inside = λ e h. size_le s k size;
      next = λ e h. rw more;
    }
  where
    go : (t : Bool) (a : Result Entry Refusal) → cond t (Err ChartTooLong) (with_size k a) ≡ with_size k (cond t (Err ChartTooLong) a)
    go true a = refl
    go false a = refl

first_none : (n : ℕ) (s : List ℕ) → 0 < length s → line_size s ≡ None → First n s
unfolding answer_to first_answer sized_answer with_size
first_none n s g size =
    let b = first_broken s g (no_line s size) in
    record {
      line = b.0;
      rest = b.1;
      size = 0;
      cut = b.2;
      answer = simp (size, b.3) (go (leb 32 n));
      some = λ e h. absurd (never (leb 32 n) e (simp b.3 at h));
      inside = λ e h. absurd (never (leb 32 n) e (simp b.3 at h));
      next = λ e h. absurd (never (leb 32 n) e (simp b.3 at h));
    }
  where
    go : (t : Bool) → cond {A = Result (Entry × ℕ) Refusal} t (Err ChartTooLong) (Err MalformedEntry) ≡ with_size 0 (cond t (Err ChartTooLong) (Err MalformedEntry))
    go true = refl
    go false = refl

    never : (t : Bool) (e : Entry) → cond {A = Result Entry Refusal} t (Err ChartTooLong) (Err MalformedEntry) ≡ Ok e → ⊥
    never true e h = cc
    never false e h = cc

pub first_line : (n : ℕ) (s : List ℕ) → 0 < length s → First n s
first_line n s g = go (line_size s) refl
  where
    go : (o : Option ℕ) → line_size s ≡ o → First n s
    go (Some k) e = first_found n s k e
    go None e = first_none n s g e

-- the answer without the size
pub sized_ok : (k : ℕ) (r : Result Entry Refusal) (e : Entry) (j : ℕ) → with_size k r ≡ Ok (e, j) → (r ≡ Ok e) × (k ≡ j)
unfolding with_size
sized_ok k (Ok d) e j h = let p : ◌≡◌ {A = Entry × ℕ} (d, k) (e, j) = cc in (ap (λ q. Ok q.0) p, ap (λ q. q.1) p)
sized_ok k (Err r) e j h = absurd (cc)

pub sized_err : (k : ℕ) (r : Result Entry Refusal) (x : Refusal) → with_size k r ≡ Err x → r ≡ Err x
unfolding with_size
sized_err k (Ok d) x h = absurd (cc)
sized_err k (Err r) x h = cc

-- one more line: where the chart is full, where the line is refused and where it is taken
module _ (c : Chart) (s : List ℕ) where
  pub add_full : 32 ≤ c.count → add_line c s ≡ refused_chart 2 33
  unfolding add_line
  add_full h = simp (le-leb _ _ h)

  pub add_refused : (r : Refusal) → c.count < 32 → answer_to c.count (whole s) ≡ Err r → add_line c s ≡ refused_chart (number_of r) (c.count + 1)
  unfolding add_line read_lines
  add_refused r h z = simp (lt-leb _ _ h, z)

  pub add_taken : (e : Entry) → c.count < 32 → answer_to c.count (whole s) ≡ Ok e → add_line c s ≡ taken_chart (with_entry c e)
  unfolding add_line read_lines
  add_taken e h z = simp (lt-leb _ _ h, z)

-- a chart taken, by its first line
pub taken_first : (c d : Chart) (l : Line) (ls : List Line) → read_lines c (l ∷ ls) ≡ taken_chart d → (e : Entry) × (answer_to c.count l ≡ Ok e) × (read_lines (with_entry c e) ls ≡ taken_chart d)
unfolding read_lines refused_chart
taken_first c d l ls h = go (answer_to c.count l) refl h
  where
    go : (r : Result Entry Refusal) → answer_to c.count l ≡ r → by_answer r (λ e. read_lines (with_entry c e) ls) (λ n. refused_chart n (c.count + 1)) ≡ taken_chart d → (e : Entry) × (answer_to c.count l ≡ Ok e) × (read_lines (with_entry c e) ls ≡ taken_chart d)
    go (Ok e) p z = (e, p, z)
    go (Err r) p z = absurd (number_some r (ap (λ x. x.refusal) z))

-- what each line that is taken keeps, all lines keep
pub lines_kept : (P : Chart → Type 0) → ((c : Chart) (l : Line) (e : Entry) → answer_to c.count l ≡ Ok e → P c → P (with_entry c e)) → (c d : Chart) (ls : List Line) → read_lines c ls ≡ taken_chart d → P c → P d
unfolding read_lines
lines_kept P step c d [] e p = subst P (ap (λ a. a.chart) e) p
lines_kept P step c d (l ∷ ls) e p =
    let h = taken_first c d l ls e in
    lines_kept P step (with_entry c h.0) d ls h.2 (step c l h.0 h.1 p)

-- an answer with number 0 is a chart taken
abbrev IsTaken : ChartAnswer → Type 0
IsTaken a = a.refusal ≡ 0 → a ≡ taken_chart a.chart

pub all_taken : (c : Chart) (ls : List Line) → IsTaken (read_lines c ls)
unfolding read_lines refused_chart
all_taken c [] z = refl
all_taken c (l ∷ ls) z = go (answer_to c.count l) (λ e. all_taken (with_entry c e) ls) z
  where
    go : (r : Result Entry Refusal) → ((e : Entry) → IsTaken (read_lines (with_entry c e) ls)) → IsTaken (by_answer r (λ e. read_lines (with_entry c e) ls) (λ n. refused_chart n (c.count + 1)))
    go (Ok e) f = f e
    go (Err r) f = λ y. absurd (number_some r y)

-- the check behind refusal 14
module _ (c : Chart) where
  pub usable_none : c.count ≡ 0 → is_usable c ≡ false
  unfolding is_usable
  usable_none e = simp e

  pub usable_over : 32 < c.count → is_usable c ≡ false
  unfolding is_usable
  usable_over h = simp (lt-leb _ _ h) (and_right _ _ refl)

  pub usable : 1 ≤ c.count → c.count ≤ 32 → all_below c.count (λ n. entry_fits n (entry_at c n)) ≡ true → is_usable c ≡ true
  unfolding is_usable
  usable h g e = simp (le-leb _ _ h, le-leb _ _ g, e)

  -- each entry up to the count, with its number
  pub usable_listed : (es : List Entry) → es ≡ take c.count c.entries → 1 ≤ c.count → c.count ≤ 32 → c.count ≤ length c.entries → list_all (test entry_fits es (entry 0 0 0)) (enumerate_from 0 es) ≡ is_usable c
  unfolding is_usable
  usable_listed es is h g room =
      let size : length es ≡ c.count = ap length is ∙ length-take-le c.count c.entries room in
      let here : (i : ℕ) → i < c.count → entry_fits i (get_or es i (entry 0 0 0)) ≡ entry_fits i (entry_at c i) = λ i k. rw is (ap (entry_fits i) (get_or-take c.count c.entries i (entry 0 0 0) k)) in
      rw (le-leb _ _ h, le-leb _ _ g) (each_below entry_fits es (entry 0 0 0) ∙ ap (λ n. all_below n (λ i. entry_fits i (get_or es i (entry 0 0 0)))) size ∙ same_below c.count (λ i. entry_fits i (get_or es i (entry 0 0 0))) (λ i. entry_fits i (entry_at c i)) here)
