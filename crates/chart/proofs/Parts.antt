-- A chart read whole is its lines added to a chart of no entries, and lines added in two parts are lines added at once: the statements of
-- specs/Statements.antt.
use Rattle.std.proofs.Common.{ℕ, suc, ◌+◌, ◌≡◌, refl, sym, ap, ◌∙◌, Bool, true, false, cond, eqb, List, [], ◌∷◌, ◌++◌, length, length-append, arith}
use mathlib.Core.Path.{ap₂}
use native.Mathlib.Nat.{add-zero}
use native.Mathlib.Decide.{ℕ_discrete}
use borrow.Author.Tests.{ne_eqb}
use Rattle.std.specs.Prelude.{Result, Ok, Err}
use Rattle.refusal.specs.declared.Refusal.{Refusal}
use Rattle.text.specs.Text.{Line, lines}
use Rattle.text.proofs.Laws.{lines_append}
use Rattle.chart.specs.Records.{answer_to}
use Rattle.chart.specs.Charts.{no_entries, with_entry, by_answer, refused_chart, taken_chart, verdict, fault_in, entry_of, entries_of, added_verdict, with_entries, read_lines, or_no_line, read_chart, read_added, read_answer, added_answer}
use Rattle.chart.specs.Statements.{ReadWhole, in_parts, ReadInParts}
use Rattle.chart.specs.declared.Entry.{Entry}
use Rattle.chart.specs.declared.Chart.{Chart}
use Rattle.chart.specs.declared.Fault.{Fault}
use Rattle.chart.specs.declared.ChartAnswer.{ChartAnswer}
use Rattle.chart.specs.declared.Verdict.{Verdict}
use Rattle.chart.proofs.Charts.{number_some}
use Rattle.chart.proofs.Usable.{Good, good_none, good_line, answer_fits}
use Rattle.chart.proofs.Entries.{added_count, added_twice}
use Rattle.chart.proofs.Added.{fault_on, fault_here, fault_end, fault_first, entries_length, answer_by, goes_on, on_none, on_taken, on_refused, on_start, added_taken}

-- the chart's lines one by one, from an entry on
lines_on : (d : Chart) (ls : List Line) → Good d → read_lines d ls ≡ goes_on no_entries d (d.count + 1) ls
unfolding read_lines with_entry refused_chart
lines_on d [] g = sym (on_none no_entries d (d.count + 1) (omega (arith, g.size, g.few)))
lines_on d (l ∷ ls) g = go (answer_to d.count l) refl (λ e. lines_on (with_entry d e) ls)
  where
    go : (r : Result Entry Refusal) → answer_to d.count l ≡ r → ((e : Entry) → Good (with_entry d e) → read_lines (with_entry d e) ls ≡ goes_on no_entries (with_entry d e) (d.count + 1 + 1) ls) → by_answer r (λ e. read_lines (with_entry d e) ls) (λ n. refused_chart n (d.count + 1)) ≡ goes_on no_entries d (d.count + 1) (l ∷ ls)
    go (Ok e) z f =
        let h = answer_fits d.count l e z in
        f e (good_line d l e z g) ∙ sym (on_taken no_entries d (d.count + 1) l ls e z (omega (arith, h.0, g.size)))
    go (Err r) z f = sym (on_refused no_entries d (d.count + 1) l ls r z)

pub read_whole : ReadWhole
unfolding read_chart read_added or_no_line refused_chart added_verdict no_entries
read_whole s = go (lines s)
  where
    go : (ls : List Line) → or_no_line ls ≡ answer_by (added_verdict 0 ls) (with_entries no_entries (entries_of 0 ls)) no_entries
    go [] = refl
    go (l ∷ ls) = lines_on no_entries (l ∷ ls) good_none

-- and so are the answers
pub answer_whole : (r : Result Chart Fault) → added_answer no_entries r ≡ read_answer r
unfolding refused_chart
answer_whole (Ok c) = refl
answer_whole (Err f) = refl

-- the lines behind a first part: their entries, their verdict where the first part has no fault and where it has one
entries_append : (n : ℕ) (ls ms : List Line) → entries_of n (ls ++ ms) ≡ entries_of n ls ++ entries_of (n + length ls) ms
unfolding entries_of
entries_append n [] ms = ap (λ m. entries_of m ms) (sym (add-zero n))
entries_append n (l ∷ ls) ms =
    let e : n + 1 + length ls ≡ n + suc (length ls) = omega arith in
    ap (λ es. entry_of (answer_to n l) ∷ es) (entries_append (n + 1) ls ms ∙ ap (λ m. entries_of (n + 1) ls ++ entries_of m ms) e)

fault_append : (n k : ℕ) (ls ms : List Line) → (fault_in n k ls).refusal ≡ 0 → fault_in n k (ls ++ ms) ≡ fault_in (n + length ls) (k + length ls) ms
fault_append n k [] ms z = ap₂ (λ m j. fault_in m j ms) (sym (add-zero n)) (sym (add-zero k))
fault_append n k (l ∷ ls) ms z =
    let f = fault_first n k l ls z in
    let d : n + 1 + length ls ≡ n + suc (length ls) = omega arith in
    let e : k + 1 + length ls ≡ k + suc (length ls) = omega arith in
    fault_on n k l (ls ++ ms) f.0 f.1 ∙ fault_append (n + 1) (k + 1) ls ms f.2 ∙ ap₂ (λ m j. fault_in m j ms) d e

fault_before : (n k : ℕ) (ls ms : List Line) → ((fault_in n k ls).refusal ≡ 0 → ⊥) → fault_in n k (ls ++ ms) ≡ fault_in n k ls
fault_before n k [] ms d = absurd (d (ap (λ v. v.refusal) (fault_end n k)))
fault_before n k (l ∷ ls) ms d = go (answer_to n l) refl (fault_before (n + 1) (k + 1) ls ms)
  where
    go : (r : Result Entry Refusal) → answer_to n l ≡ r → (((fault_in (n + 1) (k + 1) ls).refusal ≡ 0 → ⊥) → fault_in (n + 1) (k + 1) (ls ++ ms) ≡ fault_in (n + 1) (k + 1) ls) → fault_in n k (l ∷ ls ++ ms) ≡ fault_in n k (l ∷ ls)
    go (Ok e) z f = fault_on n k l (ls ++ ms) e z ∙ f (λ y. d (ap (λ v. v.refusal) (fault_on n k l ls e z) ∙ y)) ∙ sym (fault_on n k l ls e z)
    go (Err r) z f = fault_here n k l (ls ++ ms) r z ∙ sym (fault_here n k l ls r z)

-- j lines further down
abbrev later : ℕ → Verdict → Verdict
later j v = cond (eqb v.refusal 0) v (verdict v.refusal (j + v.line))

fault_later : (n k j : ℕ) (ls : List Line) → fault_in n (j + k) ls ≡ later j (fault_in n k ls)
fault_later n k j [] = rw (fault_end n (j + k), fault_end n k)
fault_later n k j (l ∷ ls) = go (answer_to n l) refl (fault_later (n + 1) (k + 1) j ls)
  where
    go : (r : Result Entry Refusal) → answer_to n l ≡ r → fault_in (n + 1) (j + (k + 1)) ls ≡ later j (fault_in (n + 1) (k + 1) ls) → fault_in n (j + k) (l ∷ ls) ≡ later j (fault_in n k (l ∷ ls))
    go (Ok d) z f =
        let e : j + k + 1 ≡ j + (k + 1) = omega arith in
        fault_on n (j + k) l ls d z ∙ ap (λ i. fault_in (n + 1) i ls) e ∙ f ∙ ap (later j) (sym (fault_on n k l ls d z))
    go (Err r) z f = rw (fault_here n (j + k) l ls r z, fault_here n k l ls r z, ne_eqb _ _ (number_some r))

-- a refusal hands back the chart given, whatever the longer one would be
refused_by : (v : Verdict) (d c : Chart) → (v.refusal ≡ 0 → ⊥) → answer_by v d c ≡ record { refusal = v.refusal; line = v.line; chart = c }
refused_by v d c z = rw (ne_eqb _ _ z)

-- the two answers of `in_parts` made one
abbrev joined : Chart → ℕ → ChartAnswer → ChartAnswer → ChartAnswer
joined c j a b = cond (eqb a.refusal 0) (cond (eqb b.refusal 0) b (record { refusal = b.refusal; line = j + b.line; chart = c })) a

second_by : (v : Verdict) (j : ℕ) (d c e : Chart) → answer_by (later j v) d c ≡ joined c j (taken_chart e) (answer_by v d e)
second_by v j d c e = go (eqb v.refusal 0) refl
  where
    go : (b : Bool) → eqb v.refusal 0 ≡ b → answer_by (later j v) d c ≡ joined c j (taken_chart e) (answer_by v d e)
    go true q = rw (q, q)
    go false q = rw (q, q)

pub read_in_parts : ReadInParts
unfolding in_parts
read_in_parts c p q h =
    sym (on_start c (front ++ q) (omega (arith, length-append front q))) ∙ ap (goes_on c c 1) (lines_append p q) ∙ go (ℕ_discrete a.refusal 0)
  where
    front : List ℕ
    front = p ++ 10 ∷ []

    ls : List Line
    ls = lines front

    ms : List Line
    ms = lines q

    a : ChartAnswer
    a = read_added c front

    d : Chart
    d = with_entries c (entries_of c.count ls)

    first : goes_on c c 1 ls ≡ a
    first = on_start c front (omega (arith, length-append p (10 ∷ [])))

    count : c.count + length ls ≡ d.count
    count = omega (arith, added_count c (entries_of c.count ls), entries_length c.count ls)

    -- the second part goes on from the entries of the first
    verdict_on : a.refusal ≡ 0 → fault_in c.count 1 (ls ++ ms) ≡ later (length ls) (fault_in d.count 1 ms)
    verdict_on z =
        let k : 1 + length ls ≡ length ls + 1 = omega arith in
        fault_append c.count 1 ls ms (ap (λ x. x.refusal) first ∙ z) ∙ ap₂ (λ n j. fault_in n j ms) count k ∙ fault_later d.count 1 (length ls) ms

    entries_on : with_entries c (entries_of c.count (ls ++ ms)) ≡ with_entries d (entries_of d.count ms)
    entries_on =
        ap (with_entries c) (entries_append c.count ls ms ∙ ap (λ n. entries_of c.count ls ++ entries_of n ms) count)
        ∙ sym (added_twice c (entries_of c.count ls) (entries_of d.count ms))

    go : Dec (a.refusal ≡ 0) → goes_on c c 1 (ls ++ ms) ≡ joined c (length ls) a (read_added a.chart q)
    go (yes z) =
        ap₂ (λ v x. answer_by v x c) (verdict_on z) entries_on
        ∙ second_by (fault_in d.count 1 ms) (length ls) _ c d
        ∙ ap (joined c (length ls) (taken_chart d)) (on_start d q h)
        ∙ ap (λ x. joined c (length ls) x (read_added x.chart q)) (sym (added_taken c front z))
    go (no z) =
        let v = fault_in c.count 1 ls in
        let y : v.refusal ≡ 0 → ⊥ = λ e. z (ap (λ x. x.refusal) (sym first) ∙ e) in
        let is : joined c (length ls) a (read_added a.chart q) ≡ a = rw (ne_eqb _ _ z) in
        ap (λ x. answer_by x (with_entries c (entries_of c.count (ls ++ ms))) c) (fault_before c.count 1 ls ms y)
        ∙ refused_by v _ c y ∙ sym (refused_by v _ c y) ∙ first ∙ sym is
