-- A chart that a watch may use has lower operands, as the reference model asks.
use Prim.Native.Nat.{ℕ, zero, suc, ◌+◌, ◌<◌}
use native.Mathlib.Omega.{arith}
use native.Mathlib.Nat.{add-zero, zero-add}
use mathlib.Core.Path.{◌≡◌, refl, sym, ap, ◌∙◌}
use mathlib.Core.Bool.{true}
use mathlib.Core.List.{List, [], ◌∷◌, map}
use borrow.Author.Tests.{lt-ltb}
use lib.Dec.{T}
use lib.ListN.{length, get_or}
use Rattle.interval.proofs.Signed.{→holds}
use Rattle.text.specs.Text.{Line, lines}
use Rattle.chart.specs.Operators.{kind_of}
use Rattle.chart.specs.Records.{entry}
use Rattle.chart.specs.Charts.{entries_of, added_verdict, entry_fits, entry_at, is_usable}
use Rattle.chart.specs.declared.Entry.{Entry}
use Rattle.chart.specs.declared.Chart.{Chart}
use Rattle.chart.specs.declared.operator.Kind.{Kind}
use Rattle.chart.specs.declared.operator.Kind.TheVariants.{Event, Or, Pair, Absence, Length, After, Nearest, Unknown}
use Rattle.chart.proofs.Usable.{Lower, usable_fits, fits_lower}
use Rattle.chart.proofs.Added.{added_fits}
use Rattle.model.specs.Lists.{numbers}
use Rattle.model.specs.Recognitions as model
use Rattle.model.specs.Statements.{IsReader}
use Rattle.table.specs.Operators.{entry_operator, operators_of, reading_of}
use Rattle.table.proofs.Operators.{IsOperator, entry_operator_lem, operators_all}

lower_kind : (k : Kind) (n a b : ℕ) (o : model.Operator) → IsOperator k a b o → Lower k n a b → model.is_lower n o ≡ true
lower_kind Event n a b o e h = rw e
lower_kind Or n a b o e h = rw (e, lt-ltb a n h.0, lt-ltb b n h.1)
lower_kind (Pair c) n a b o e h = rw (e, lt-ltb a n h.0, lt-ltb b n h.1)
lower_kind (Absence c) n a b o e h = rw (e, lt-ltb a n h.0, lt-ltb b n h.1)
lower_kind (Length t) n a b o e h = rw (e, lt-ltb a n h)
lower_kind After n a b o e h = rw (e, lt-ltb a n h)
lower_kind (Nearest c) n a b o e h = rw (e, lt-ltb a n h.0, lt-ltb b n h.1)
lower_kind Unknown n a b o e h = absurd h

-- the operator of an entry that fits
lower_fits : (n : ℕ) (e : Entry) → entry_fits n e ≡ true → model.is_lower n (entry_operator e) ≡ true
lower_fits n e f = lower_kind (kind_of e.op) n e.a e.b (entry_operator e) (entry_operator_lem e (kind_of e.op) refl) (fits_lower n e (kind_of e.op) f refl)

pub lower_entry : (c : Chart) → is_usable c ≡ true → (i : ℕ) → i < c.count → model.is_lower i (entry_operator (entry_at c i)) ≡ true
lower_entry c u i h = lower_fits i (entry_at c i) (usable_fits c u i h)

lower_from : (f : ℕ → model.Operator) (k n : ℕ) → ((i : ℕ) → i < k → model.is_lower (n + i) (f (n + i)) ≡ true) → model.are_lower n (map f (numbers n k)) ≡ true
lower_from f zero n h = refl
lower_from f (suc k) n h =
    let e : model.is_lower n (f n) ≡ true = ap (λ i. model.is_lower i (f i)) (sym (add-zero n)) ∙ h 0 (omega arith) in
    rw (e, lower_from f k (suc n) (λ i g. let p : suc n + i ≡ n + suc i = omega arith in ap (λ j. model.is_lower j (f j)) p ∙ h (suc i) (omega arith)))

pub usable_lower : (c : Chart) → is_usable c ≡ true → T (model.are_lower 0 (operators_of c))
usable_lower c u = rw (operators_all c) (→holds _ (lower_from (λ n. entry_operator (entry_at c n)) c.count 0 (λ i g. ap (λ j. model.is_lower j (entry_operator (entry_at c j))) (zero-add i) ∙ lower_entry c u i g)))

-- and so have lines that may be added to a chart of n entries
lower_each : (n : ℕ) (es : List Entry) → ((i : ℕ) → i < length es → entry_fits (n + i) (get_or es i (entry 0 0 0)) ≡ true) → model.are_lower n (map entry_operator es) ≡ true
lower_each n [] h = refl
lower_each n (e ∷ es) h =
    let f : model.is_lower n (entry_operator e) ≡ true = lower_fits n e (ap (λ m. entry_fits m e) (sym (add-zero n)) ∙ h 0 (omega arith)) in
    rw (f, lower_each (suc n) es (λ i g. let p : suc n + i ≡ n + suc i = omega arith in ap (λ m. entry_fits m (get_or es i (entry 0 0 0))) p ∙ h (suc i) (omega arith)))

pub added_lower : (n : ℕ) (ls : List Line) → (added_verdict n ls).refusal ≡ 0 → T (model.are_lower n (map entry_operator (entries_of n ls)))
added_lower n ls z = →holds _ (lower_each n (entries_of n ls) (added_fits n ls z))

-- what the reader of added lines takes, the model may add
pub reading_lower : IsReader reading_of
unfolding reading_of
reading_lower n s z = added_lower n (lines s) z
