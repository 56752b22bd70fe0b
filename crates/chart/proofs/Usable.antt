-- A chart that was read is one a watch may use: `read_usable`, and line by line `good_none`, `good_line`, `good_usable`.
use Rattle.std.proofs.Common.{ℕ, ◌≤◌, ◌<◌, ◌≡◌, refl, ap, subst, ◌∙◌, Bool, true, false, cond, ◌&&◌, eqb, leb, ltb, List, [], ◌∷◌, length, get_or, set, length-set, get_or-set_same, get_or-set_other, arith}
use borrow.Author.Tests.{leb-true, leb-false, ltb-true}
use Rattle.std.specs.Prelude.{Option, None, Some, Ok, Err}
use Rattle.std.proofs.lemmas.Bool.{and_parts}
use Rattle.std.proofs.lemmas.List.{length-replicate}
use Rattle.refusal.specs.declared.Refusal.TheVariants.{ChartTooLong, MalformedEntry, EntryNotNext, OperandNotLower, OperandOutOfRange}
use Rattle.text.specs.Text.{Line, lines, is_record, fields}
use Rattle.chart.specs.Operators.{kind_of, in_range, are_lower}
use Rattle.chart.specs.Records.{entry, answer_to, checked_entry, checked_line, parsed_line}
use Rattle.chart.specs.Charts.{read_chart, or_no_line, no_entries, with_entry, refused_chart, is_usable, all_below, entry_fits, entry_at}
use Rattle.chart.specs.declared.Entry.{Entry}
use Rattle.chart.specs.declared.Chart.{Chart}
use Rattle.chart.specs.declared.operator.Kind.{Kind}
use Rattle.chart.specs.declared.operator.Kind.TheVariants.{Event, Or, Pair, Absence, Length, After, Nearest, Unknown}
use Rattle.chart.specs.declared.record.Fields.{Fields}
use Rattle.chart.proofs.Below.{none_below, one_more, same_below, at_place}
use Rattle.chart.proofs.Charts.{usable, taken_first, lines_kept, all_taken}

-- a chart so far: at most 32 entries, all of which fit.
pub record Good (c : Chart) : Type 0 where
  pub size : length c.entries ≡ 32
  pub few : c.count ≤ 32
  pub fits : all_below c.count (λ n. entry_fits n (entry_at c n)) ≡ true

pub good_none : Good no_entries
unfolding no_entries
good_none = record { size = length-replicate 32 (entry 0 0 0); few = omega arith; fits = none_below _ }

-- a line that is taken has an entry that fits
entry_fits_lem : (n : ℕ) (l : Fields) (r : Entry) → checked_entry n l ≡ Ok r → entry_fits n r ≡ true
unfolding checked_entry entry_fits
entry_fits_lem n l r z = go (eqb l.number n) (in_range (kind_of l.op) l.a l.b) refl (are_lower (kind_of l.op) n l.a l.b) refl z
  where
    go : (t u : Bool) → in_range (kind_of l.op) l.a l.b ≡ u → (v : Bool) → are_lower (kind_of l.op) n l.a l.b ≡ v → cond t (cond u (cond v (Ok (entry l.op l.a l.b)) (Err OperandNotLower)) (Err OperandOutOfRange)) (Err EntryNotNext) ≡ Ok r → (in_range (kind_of r.op) r.a r.b && are_lower (kind_of r.op) n r.a r.b) ≡ true
    go true true p true q y = let e : entry l.op l.a l.b ≡ r = cc in subst (λ x. (in_range (kind_of x.op) x.a x.b && are_lower (kind_of x.op) n x.a x.b) ≡ true) e (simp (p, q))
    go true true p false q y = absurd (cc)
    go true false p v q y = absurd (cc)
    go false u p v q y = absurd (cc)

line_fits : (n : ℕ) (p : Option Fields) (r : Entry) → checked_line n p ≡ Ok r → entry_fits n r ≡ true
unfolding checked_line
line_fits n None r z = absurd (cc)
line_fits n (Some l) r z = entry_fits_lem n l r z

pub answer_fits : (n : ℕ) (l : Line) (r : Entry) → answer_to n l ≡ Ok r → (n < 32) × (entry_fits n r ≡ true)
unfolding answer_to
answer_fits n l r z = go (leb 32 n) refl (is_record l) z
  where
    p : Option Fields
    p = parsed_line (fields l.bytes)

    go : (t : Bool) → leb 32 n ≡ t → (u : Bool) → cond t (Err ChartTooLong) (cond u (checked_line n p) (Err MalformedEntry)) ≡ Ok r → (n < 32) × (entry_fits n r ≡ true)
    go true e u y = absurd (cc)
    go false e true y = (leb-false 32 n e, line_fits n p r y)
    go false e false y = absurd (cc)

pub good_more : (c : Chart) (e : Entry) → Good c → c.count < 32 → entry_fits c.count e ≡ true → Good (with_entry c e)
unfolding with_entry
good_more c e g d h = record {
  size = length-set c.entries c.count e ∙ g.size;
  few = omega (arith, g.few);
  fits = one_more c.count (λ n. entry_fits n (get_or (set c.entries c.count e) n (entry 0 0 0))) (same_below c.count (λ n. entry_fits n (get_or (set c.entries c.count e) n (entry 0 0 0))) (λ n. entry_fits n (entry_at c n)) (λ i k. ap (entry_fits i) (get_or-set_other c.entries c.count i e (entry 0 0 0) (λ p. omega arith))) ∙ g.fits) (ap (entry_fits c.count) (get_or-set_same c.entries c.count e (entry 0 0 0) (omega (arith, g.size, g.few))) ∙ h);
}

-- a line that is taken keeps a good chart good; with an entry, it is one a watch may use
pub good_line : (c : Chart) (l : Line) (e : Entry) → answer_to c.count l ≡ Ok e → Good c → Good (with_entry c e)
good_line c l e z g = let f = answer_fits c.count l e z in good_more c e g f.0 f.1

pub good_usable : (c : Chart) → Good c → 1 ≤ c.count → is_usable c ≡ true
good_usable c g h = usable c h g.few g.fits

longer : (c : Chart) (e : Entry) → 1 ≤ (with_entry c e).count
unfolding with_entry
longer c e = omega arith

-- the reader's charts are those a watch may use
pub read_usable : (s : List ℕ) → (read_chart s).refusal ≡ 0 → is_usable (read_chart s).chart ≡ true
unfolding read_chart or_no_line refused_chart
read_usable s z = go (lines s) z
  where
    go : (ls : List Line) → (or_no_line ls).refusal ≡ 0 → is_usable (or_no_line ls).chart ≡ true
    go [] y = absurd (omega arith)
    go (l ∷ ls) y =
        let e = all_taken no_entries (l ∷ ls) y in
        let h = taken_first no_entries _ l ls e in
        good_usable _ (lines_kept Good good_line no_entries _ (l ∷ ls) e good_none) (lines_kept (λ c. 1 ≤ c.count) (λ c k r z g. longer c r) _ _ ls h.2 (longer no_entries h.0))

-- a chart that a watch may use has at most 32 entries, all of which fit
module _ (c : Chart) (u : is_usable c ≡ true) where
  pub usable_few : c.count ≤ 32
  unfolding is_usable
  usable_few = leb-true c.count 32 (and_parts _ _ (and_parts _ _ u).1).0

  pub usable_fits : (i : ℕ) → i < c.count → entry_fits i (entry_at c i) ≡ true
  unfolding is_usable
  usable_fits i h = at_place c.count (λ n. entry_fits n (entry_at c n)) (and_parts _ _ (and_parts _ _ u).1).1 i h

-- what an entry that fits tells of its operands, by its kind
abbrev pub Lower : Kind → ℕ → ℕ → ℕ → Type 0
Lower Event n a b = Unit {0}
Lower Or n a b = (a < n) × (b < n)
Lower (Pair c) n a b = (a < n) × (b < n)
Lower (Absence e) n a b = (a < n) × (b < n)
Lower (Length t) n a b = a < n
Lower After n a b = a < n
Lower (Nearest c) n a b = (a < n) × (b < n)
Lower Unknown n a b = ⊥

both_lower : (n a b : ℕ) → (ltb a n && ltb b n) ≡ true → (a < n) × (b < n)
both_lower n a b h = let p = and_parts _ _ h in (ltb-true a n p.0, ltb-true b n p.1)

lower_told : (k : Kind) (n a b : ℕ) → are_lower k n a b ≡ true → Lower k n a b
unfolding are_lower
lower_told Event n a b h = tt
lower_told Or n a b h = both_lower n a b h
lower_told (Pair c) n a b h = both_lower n a b h
lower_told (Absence e) n a b h = both_lower n a b h
lower_told (Length t) n a b h = ltb-true a n h
lower_told After n a b h = ltb-true a n h
lower_told (Nearest c) n a b h = both_lower n a b h
lower_told Unknown n a b h = absurd (cc)

pub fits_lower : (n : ℕ) (e : Entry) (k : Kind) → entry_fits n e ≡ true → kind_of e.op ≡ k → Lower k n e.a e.b
unfolding entry_fits
fits_lower n e k f h = lower_told k n e.a e.b (and_parts _ _ (rw h at f)).1

pub fits_range : (n : ℕ) (e : Entry) → entry_fits n e ≡ true → in_range (kind_of e.op) e.a e.b ≡ true
unfolding entry_fits
fits_range n e f = (and_parts _ _ f).0

pub range_unknown : (a b : ℕ) → in_range Unknown a b ≡ false
unfolding in_range
range_unknown a b = refl
