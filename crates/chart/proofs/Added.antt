-- Lines added to a chart: what the answer is, that the entries fit and so that a chart which a watch may use stays one, and what is left to answer
-- behind a line.
use Rattle.std.proofs.Common.{ℕ, zero, suc, ◌+◌, ◌-◌, ◌≤◌, ◌<◌, ◌≡◌, refl, sym, ap, ◌∙◌, true, cond, eqb, List, [], ◌∷◌, length, get_or, drop, arith}
use mathlib.Core.Path.{ap₂}
use mathlib.Core.Logic.{⊎_elim}
use borrow.Author.Tests.{ne_eqb}
use Rattle.std.specs.Prelude.{Result, Ok, Err}
use Rattle.refusal.specs.Numbers.{number_of}
use Rattle.refusal.specs.declared.Refusal.{Refusal}
use Rattle.text.specs.Text.{Line, lines}
use Rattle.text.proofs.Laws.{lines_none, lt_or_le}
use Rattle.chart.specs.Records.{entry, answer_to, first_answer}
use Rattle.chart.specs.Charts.{taken_chart, with_entry, verdict, fault_in, entries_of, added_verdict, with_entries, read_added, entry_fits, entry_at, is_usable}
use Rattle.chart.specs.declared.Entry.{Entry}
use Rattle.chart.specs.declared.Chart.{Chart}
use Rattle.chart.specs.declared.ChartAnswer.{ChartAnswer}
use Rattle.chart.specs.declared.Verdict.{Verdict}
use Rattle.chart.proofs.Below.{all_below_lem}
use Rattle.chart.proofs.Charts.{number_some, first_line, sized_ok, sized_err, usable}
use Rattle.chart.proofs.Usable.{answer_fits, usable_fits}
use Rattle.chart.proofs.Entries.{added_count, entry_kept, entry_added, added_none, added_one, added_twice}

-- the verdict of lines by the first of them: where that is taken, and where it is refused
module _ (n k : ℕ) (l : Line) (ls : List Line) where
  pub fault_on : (e : Entry) → answer_to n l ≡ Ok e → fault_in n k (l ∷ ls) ≡ fault_in (n + 1) (k + 1) ls
  unfolding fault_in
  fault_on e z = rw z

  pub fault_here : (r : Refusal) → answer_to n l ≡ Err r → fault_in n k (l ∷ ls) ≡ verdict (number_of r) k
  unfolding fault_in
  fault_here r z = rw z

  pub fault_first : (fault_in n k (l ∷ ls)).refusal ≡ 0 → (e : Entry) × (answer_to n l ≡ Ok e) × ((fault_in (n + 1) (k + 1) ls).refusal ≡ 0)
  fault_first z = go (answer_to n l) refl
    where
      go : (r : Result Entry Refusal) → answer_to n l ≡ r → (e : Entry) × (answer_to n l ≡ Ok e) × ((fault_in (n + 1) (k + 1) ls).refusal ≡ 0)
      go (Ok e) h = (e, h, ap (λ v. v.refusal) (sym (fault_on e h)) ∙ z)
      go (Err r) h = absurd (number_some r (ap (λ v. v.refusal) (sym (fault_here r h)) ∙ z))

pub fault_end : (n k : ℕ) → fault_in n k [] ≡ verdict 0 0
unfolding fault_in
fault_end n k = refl

-- without a fault: the line is 0, the entries fit, and no 33rd is among them
fault_none : (n k : ℕ) (ls : List Line) → (fault_in n k ls).refusal ≡ 0 → fault_in n k ls ≡ verdict 0 0
fault_none n k [] z = fault_end n k
fault_none n k (l ∷ ls) z = let f = fault_first n k l ls z in fault_on n k l ls f.0 f.1 ∙ fault_none (n + 1) (k + 1) ls f.2

fault_fits : (n k : ℕ) (ls : List Line) → (fault_in n k ls).refusal ≡ 0 → (i : ℕ) → i < length (entries_of n ls) → entry_fits (n + i) (get_or (entries_of n ls) i (entry 0 0 0)) ≡ true
unfolding entries_of
fault_fits n k [] z i h = absurd (omega arith)
fault_fits n k (l ∷ ls) z zero h =
    let f = fault_first n k l ls z in
    let e : n + 0 ≡ n = omega arith in
    rw (e, f.1) (answer_fits n l f.0 f.1).1
fault_fits n k (l ∷ ls) z (suc i) h =
    let e : n + suc i ≡ n + 1 + i = omega arith in
    rw e (fault_fits (n + 1) (k + 1) ls (fault_first n k l ls z).2 i (omega arith))

fault_few : (n k : ℕ) (ls : List Line) → 0 < length ls → (fault_in n k ls).refusal ≡ 0 → n + length ls ≤ 32
fault_few n k [] h z = absurd (omega arith)
fault_few n k (l ∷ []) h z = let f = fault_first n k l [] z in omega (arith, (answer_fits n l f.0 f.1).0)
fault_few n k (l ∷ m ∷ ls) h z = omega (arith, fault_few (n + 1) (k + 1) (m ∷ ls) (omega arith) (fault_first n k l (m ∷ ls) z).2)

pub entries_length : (n : ℕ) (ls : List Line) → length (entries_of n ls) ≡ length ls
unfolding entries_of
entries_length n [] = refl
entries_length n (l ∷ ls) = ap suc (entries_length (n + 1) ls)

-- there is a line
verdict_lines : (n : ℕ) (ls : List Line) → 0 < length ls → added_verdict n ls ≡ fault_in n 1 ls
unfolding added_verdict
verdict_lines n [] h = absurd (omega arith)
verdict_lines n (l ∷ ls) h = refl

verdict_some : (n : ℕ) (ls : List Line) → (added_verdict n ls).refusal ≡ 0 → 0 < length ls
unfolding added_verdict
verdict_some n [] z = absurd (omega arith)
verdict_some n (l ∷ ls) z = omega arith

module _ (n : ℕ) (ls : List Line) (z : (added_verdict n ls).refusal ≡ 0) where
  verdict_fault : (fault_in n 1 ls).refusal ≡ 0
  verdict_fault = ap (λ v. v.refusal) (sym (verdict_lines n ls (verdict_some n ls z))) ∙ z

  pub added_some : 0 < length (entries_of n ls)
  added_some = omega (arith, verdict_some n ls z, entries_length n ls)

  pub added_fits : (i : ℕ) → i < length (entries_of n ls) → entry_fits (n + i) (get_or (entries_of n ls) i (entry 0 0 0)) ≡ true
  added_fits = fault_fits n 1 ls verdict_fault

  pub added_few : n + length (entries_of n ls) ≤ 32
  added_few = omega (arith, fault_few n 1 ls (verdict_some n ls z) verdict_fault, entries_length n ls)

-- the answer by its verdict: the longer chart, or the one given
abbrev pub answer_by : Verdict → Chart → Chart → ChartAnswer
answer_by v longer given = record { refusal = v.refusal; line = v.line; chart = cond (eqb v.refusal 0) longer given }

module _ (c : Chart) (s : List ℕ) where
  pub added_number : (read_added c s).refusal ≡ (added_verdict c.count (lines s)).refusal
  unfolding read_added
  added_number = refl

  pub added_line : (read_added c s).line ≡ (added_verdict c.count (lines s)).line
  unfolding read_added
  added_line = refl

  -- refused: "the old chart" stays
  pub added_refused : ((read_added c s).refusal ≡ 0 → ⊥) → (read_added c s).chart ≡ c
  unfolding read_added
  added_refused d = rw (ne_eqb _ _ d)

  pub added_taken : (read_added c s).refusal ≡ 0 → read_added c s ≡ taken_chart (with_entries c (entries_of c.count (lines s)))
  unfolding read_added
  added_taken z =
      let v : added_verdict c.count (lines s) ≡ verdict 0 0 = verdict_lines _ _ (verdict_some _ _ z) ∙ fault_none _ 1 _ (verdict_fault _ _ z) in
      ap (λ v. answer_by v (with_entries c (entries_of c.count (lines s))) c) v

  -- a chart that a watch may use stays one
  pub added_usable : is_usable c ≡ true → (read_added c s).refusal ≡ 0 → is_usable (read_added c s).chart ≡ true
  added_usable u z = ap (λ a. is_usable a.chart) (added_taken z) ∙ usable d (omega (arith, count, added_some n ls y)) (omega (arith, count, added_few n ls y)) (all_below_lem d.count (λ i. entry_fits i (entry_at d i)) fits)
    where
      n : ℕ
      n = c.count

      ls : List Line
      ls = lines s

      es : List Entry
      es = entries_of n ls

      d : Chart
      d = with_entries c es

      count : d.count ≡ n + length es
      count = added_count c es

      y : (added_verdict n ls).refusal ≡ 0
      y = sym added_number ∙ z

      fits : (i : ℕ) → i < d.count → entry_fits i (entry_at d i) ≡ true
      fits i h = ⊎_elim own new (lt_or_le i n)
        where
          own : i < n → entry_fits i (entry_at d i) ≡ true
          own g = ap (entry_fits i) (entry_kept c es i g) ∙ usable_fits c u i g

          new : n ≤ i → entry_fits i (entry_at d i) ≡ true
          new g =
              let k : n + (i - n) ≡ i = omega arith in
              let few : i - n < length es = omega (arith, count) in
              ap (λ j. entry_fits j (entry_at d j)) (sym k) ∙ ap (entry_fits (n + (i - n))) (entry_added c es (i - n) few) ∙ added_fits n ls y (i - n) few

-- what is answered behind the lines read so far: c is the chart given, d the chart with their entries, and line k is the first that is left
abbrev pub goes_on : Chart → Chart → ℕ → List Line → ChartAnswer
goes_on c d k ls = answer_by (fault_in d.count k ls) (with_entries d (entries_of d.count ls)) c

module _ (c d : Chart) (k : ℕ) where
  pub on_none : d.count ≤ length d.entries → goes_on c d k [] ≡ taken_chart d
  unfolding entries_of
  on_none h = rw (fault_end d.count k, added_none d h)

  module _ (l : Line) (ls : List Line) where
    pub on_taken : (e : Entry) → answer_to d.count l ≡ Ok e → d.count < length d.entries → goes_on c d k (l ∷ ls) ≡ goes_on c (with_entry d e) (k + 1) ls
    unfolding entries_of with_entry
    on_taken e z h =
        let es = entries_of (d.count + 1) ls in
        rw z (ap₂ (λ v x. answer_by v x c) (fault_on d.count k l ls e z) (sym (added_twice d (e ∷ []) es) ∙ ap (λ x. with_entries x es) (added_one d e h)))

    pub on_refused : (r : Refusal) → answer_to d.count l ≡ Err r → goes_on c d k (l ∷ ls) ≡ record { refusal = number_of r; line = k; chart = c }
    on_refused r z = rw (fault_here d.count k l ls r z, ne_eqb _ _ (number_some r))

-- the same of a text, by its first line as the code finds it
module _ (c d : Chart) (k : ℕ) (s : List ℕ) where
  pub record Step (e : Entry) (j : ℕ) : Type 0 where
    pub room : d.count < 32
    pub some : 0 < j
    pub inside : j ≤ length s
    pub goes : d.count < length d.entries → goes_on c d k (lines s) ≡ goes_on c (with_entry d e) (k + 1) (lines (drop j s))

  pub step_taken : 0 < length s → (e : Entry) (j : ℕ) → first_answer d.count s ≡ Ok (e, j) → Step e j
  step_taken g e j z =
      let f = first_line d.count s g in
      let a = sized_ok f.size (answer_to d.count f.line) e j (sym f.answer ∙ z) in
      record {
        room = (answer_fits d.count f.line e a.0).0;
        some = omega (arith, f.some e a.0, a.1);
        inside = omega (arith, f.inside e a.0, a.1);
        goes = λ h. ap (goes_on c d k) f.cut ∙ on_taken c d k f.line f.rest e a.0 h ∙ ap (goes_on c (with_entry d e) (k + 1)) (f.next e a.0 ∙ ap (λ i. lines (drop i s)) a.1);
      }

  pub step_refused : 0 < length s → (r : Refusal) → first_answer d.count s ≡ Err r → goes_on c d k (lines s) ≡ record { refusal = number_of r; line = k; chart = c }
  step_refused g r z =
      let f = first_line d.count s g in
      ap (goes_on c d k) f.cut ∙ on_refused c d k f.line f.rest r (sized_err f.size (answer_to d.count f.line) r (sym f.answer ∙ z))

lines_some : (s : List ℕ) → 0 < length s → 0 < length (lines s)
lines_some s h = let f = first_line 0 s h in omega (arith, ap length f.cut)

-- all lines are left at first, and none at the end
pub on_start : (c : Chart) (s : List ℕ) → 0 < length s → goes_on c c 1 (lines s) ≡ read_added c s
unfolding read_added
on_start c s h = rw (verdict_lines c.count (lines s) (lines_some s h))

pub on_end : (c d : Chart) (k : ℕ) → d.count ≤ length d.entries → goes_on c d k (lines []) ≡ taken_chart d
on_end c d k h = ap (goes_on c d k) lines_none ∙ on_none c d k h

-- no line
pub added_empty : (c : Chart) (s : List ℕ) → length s ≡ 0 → read_added c s ≡ record { refusal = 1; line = 1; chart = c }
unfolding read_added added_verdict
added_empty c [] e = simp lines_none
added_empty c (b ∷ s) e = absurd (omega arith)
