-- The next due end of one delay: that of the first row that it waits for whose wait has not ended; and the ends that the delays of several entries make.
use Prim.Native.Nat.{ℕ, zero, suc, ◌+◌, ◌≤◌, ◌<◌}
use native.Mathlib.Omega.{arith}
use mathlib.Core.Path.{◌≡◌, refl, sym, ap, ◌∙◌, subst}
use mathlib.Core.Bool.{Bool, true, false, ◌&&◌}
use mathlib.Core.List.Memᴰ
use mathlib.Core.List.{List, [], ◌++◌, map, Memᴰ}
use borrow.Author.Tests.{leb-true, leb-false}
use lib.Dec.{T, eqb, leb}
use lib.IntN.{ℤ, pos, nat_abs, ◌+ℤ◌, ◌-ℤ◌}
use lib.Signed.{le_z}
use Rattle.interval.specs.Instants.{eq_z, least}
use Rattle.interval.proofs.Signed.{◌≤ᶻ◌, ◌<ᶻ◌, never, eq_fact, holds→, →holds, lt_false, le_true, le_false, lt_z→, →le_z, le_z→, least_is, least_most, add_fact, sub_fact}
use Rattle.interval.proofs.Machine.{pos_of}
use Rattle.chart.specs.Charts.{entry_at, is_usable}
use Rattle.chart.specs.declared.Chart.{Chart}
use Rattle.model.specs.Lists.{keep, each, numbers}
use Rattle.model.specs.Recognitions.{Operator, after}
use Rattle.model.specs.Order.{Row, since_of}
use Rattle.model.specs.RowSteps.{is_waiting, delayed_ends, delays_from, due_ends}
use Rattle.model.specs.Statements.{NextDue}
use Rattle.model.proofs.Sorted.{keep_mem, mem_keep}
use Rattle.model.proofs.Due.{due_delayed, delayed_kept}
use Rattle.table.specs.Table.{cell, rows_in}
use Rattle.table.specs.Ends.{count_ending}
use Rattle.table.specs.Operators.{operators_of, entry_operator}
use Rattle.table.proofs.Operators.{operators_all}
use Rattle.table.proofs.Lower.{lower_entry}
use Rattle.table.proofs.Rows.{rows_mem, mem_rows}
use Rattle.table.proofs.Ends.{counted_passes, counted_fails}
use Rattle.table.proofs.EndParts.{ends_low, ends_few}
use Rattle.closing.specs.Added.{Settled, is_waited, FirstWaited}
use Rattle.closing.proofs.Spans.{each_same, each_last}
use Rattle.closing.proofs.Grown.{eq_entry}

module _ (x last limit a : ℤ) (d n : ℕ) (t : List ℤ) (s : Settled (last +ℤ pos 1) n t) (h : last <ᶻ limit) (above : le_z (pos 0) a ≡ true) where
  -- the rows at whose ends a wait would end behind `last` and before the limit
  abbrev first : ℕ
  first = count_ending true n (last -ℤ pos d) t

  abbrev end : ℕ
  end = count_ending false n (limit -ℤ pos d) t

  abbrev ends : List ℤ
  ends = delayed_ends x (rows_in n t) (after (nat_abs a) d)

  -- the end of the wait that row j began
  abbrev due : ℕ → ℤ
  due j = cell t j 4 +ℤ pos d

  is_of : (j : ℕ) → j < n → (eqb (nat_abs (cell t j 0)) (nat_abs a) && le_z x (cell t j 3)) ≡ is_waited x a t j
  is_of j l = ap (λ b. b && le_z x (cell t j 3)) (eq_entry (cell t j 0) (nat_abs a) (s.above j l) ∙ ap (eq_z (cell t j 0)) (pos_of a above))

  row_due : (z : ℤ) → Memᴰ z ends → (j : ℕ) × (j < n) × (is_waited x a t j ≡ true) × (due j ≡ z)
  row_due z m =
      let p = Memᴰ.of_map (λ r. r.end +ℤ pos d) (keep (is_waiting x (nat_abs a)) (rows_in n t)) m in
      let k = keep_mem (is_waiting x (nat_abs a)) (rows_in n t) p.1 in
      let q = rows_mem n t p.0 k.0 in
      (q.0, q.1, sym (is_of q.0 q.1) ∙ holds→ _ (subst (λ r. T (is_waiting x (nat_abs a) r)) q.2 k.1), ap (λ r. r.end +ℤ pos d) (sym q.2) ∙ p.2)

  due_row : (j : ℕ) → j < n → is_waited x a t j ≡ true → Memᴰ (due j) ends
  due_row j l e = Memᴰ.map (λ r. r.end +ℤ pos d) (mem_keep (is_waiting x (nat_abs a)) (rows_in n t) (mem_rows n t j l) (→holds _ (is_of j l ∙ e)))

  -- a wait that begins with row `first` or a later one ends behind `last`, and one that begins with row `end` or a later one, at the limit or later
  due_behind : (j : ℕ) → first ≤ j → j < n → last <ᶻ due j
  due_behind j g l = omega (arith, le_false (cell t j 4) (last -ℤ pos d) (counted_fails true n (last -ℤ pos d) t s.ordered j g l), add_fact (cell t j 4) (pos d), sub_fact last (pos d))

  due_limit : (j : ℕ) → end ≤ j → j < n → limit ≤ᶻ due j
  due_limit j g l = omega (arith, lt_false (cell t j 4) (limit -ℤ pos d) (counted_fails false n (limit -ℤ pos d) t s.ordered j g l), add_fact (cell t j 4) (pos d), sub_fact limit (pos d))

  pub inside : end ≤ n
  inside = let low : end ≤ count_ending true n (limit -ℤ pos d) t = ends_low (limit -ℤ pos d) n t in omega (arith, ends_few (limit -ℤ pos d) n t)

  pub few : first ≤ end
  few = go (leb first end) refl
    where
      go : (c : Bool) → leb first end ≡ c → first ≤ end
      go true p = leb-true first end p
      go false p =
          let l : end < first = leb-false first end p in
          absurd (omega (arith, due_limit end (omega arith) (omega (arith, ends_few (last -ℤ pos d) n t)), le_true (cell t end 4) (last -ℤ pos d) (counted_passes true n (last -ℤ pos d) t s.ordered end l), add_fact (cell t end 4) (pos d), sub_fact last (pos d)))

  -- from `first` to before i no row is waited for
  module _ (i : ℕ) (from : first ≤ i) (skipped : (j : ℕ) → first ≤ j → j < i → is_waited x a t j ≡ false) where
    -- so a row whose wait ends behind `last` is no earlier than row i
    none_earlier : (j : ℕ) → j < n → is_waited x a t j ≡ true → (last +ℤ pos 1) ≤ᶻ due j → i ≤ j
    none_earlier j l e w = go (leb first j) refl (leb i j) refl
      where
        go : (c : Bool) → leb first j ≡ c → (y : Bool) → leb i j ≡ y → i ≤ j
        go c p true q = leb-true i j q
        go true p false q = never (sym (skipped j (leb-true first j p) (leb-false i j q)) ∙ e)
        go false p false q = absurd (omega (arith, le_true (cell t j 4) (last -ℤ pos d) (counted_passes true n (last -ℤ pos d) t s.ordered j (leb-false first j p)), add_fact (cell t j 4) (pos d), sub_fact last (pos d), add_fact last (pos 1)))

    -- nor does its wait end earlier than that of row i would
    none_before : (z : ℤ) → Memᴰ z ends → T (le_z (last +ℤ pos 1) z) → (i < n) × (due i ≤ᶻ z)
    none_before z m e =
        let p = row_due z m in
        let k : i ≤ p.0 = none_earlier p.0 p.1 p.2 (omega (arith, le_z→ (last +ℤ pos 1) z e, eq_fact p.3)) in
        (omega (arith, p.1), omega (arith, eq_fact p.3, le_true (cell t i 4) (cell t p.0 4) (s.ordered i p.0 k p.1), add_fact (cell t i 4) (pos d), add_fact (cell t p.0 4) (pos d)))

    -- row i is the next one
    pub some_due : i < n → is_waited x a t i ≡ true → NextDue ends (last +ℤ pos 1) limit (least (due i) limit)
    some_due l of =
        let w = least_is (due i) limit in
        let behind : last <ᶻ due i = due_behind i from l in
        record {
          from = →le_z (last +ℤ pos 1) (least (due i) limit) (least_most (λ z. (last +ℤ pos 1) ≤ᶻ z) (due i) limit (omega (arith, add_fact last (pos 1))) (omega (arith, add_fact last (pos 1))));
          most = →le_z (least (due i) limit) limit (omega (arith, w));
          none = λ z m e. →le_z (least (due i) limit) z (omega (arith, w, (none_before z m e).1));
          due = λ e. least_most (λ z. z <ᶻ limit → Memᴰ z ends) (due i) limit (λ z. due_row i l of) (λ z. absurd (omega arith)) (lt_z→ (least (due i) limit) limit e);
        }

    -- there is no row i, or it would wait to the limit
    pub none_due : (i < n → limit ≤ᶻ due i) → NextDue ends (last +ℤ pos 1) limit limit
    none_due long = record {
      from = →le_z (last +ℤ pos 1) limit (omega (arith, add_fact last (pos 1)));
      most = →le_z limit limit (omega arith);
      none = λ z m e. let k = none_before z m e in →le_z limit z (omega (arith, k.1, long k.0));
      due = λ e. absurd (let z : limit <ᶻ limit = lt_z→ limit limit e in omega arith);
    }

  -- for row `first` itself, and for the first one from there to before `end`
  none : (j : ℕ) → first ≤ j → j < first → is_waited x a t j ≡ false
  none j p q = absurd (omega arith)

  pub first_due : first < n → is_waited x a t first ≡ true → NextDue ends (last +ℤ pos 1) limit (least (due first) limit)
  first_due = some_due first (omega arith) none

  pub first_long : (first < n → limit ≤ᶻ due first) → NextDue ends (last +ℤ pos 1) limit limit
  first_long = none_due first (omega arith) none

  module _ (i : ℕ) (w : FirstWaited x a first end t i) where
    pub found_due : i < end → NextDue ends (last +ℤ pos 1) limit (least (due i) limit)
    found_due l = some_due i w.least w.none (omega (arith, inside)) (w.is l)

    pub none_found : end ≤ i → NextDue ends (last +ℤ pos 1) limit limit
    none_found l = none_due i w.least w.none (due_limit i l)

-- the ends that the first k entries make
abbrev pub entry_ends : Chart → List ℤ → List Row → ℕ → List ℤ
entry_ends chart since rs k = each (λ j. delayed_ends (since_of since j) rs (entry_operator (entry_at chart j))) (numbers 0 k)

from_each : (since : List ℤ) (rs : List Row) (f : ℕ → Operator) (n k : ℕ) → delays_from n (map f (numbers n k)) since rs ≡ each (λ j. delayed_ends (since_of since j) rs (f j)) (numbers n k)
from_each since rs f n zero = refl
from_each since rs f n (suc k) = ap (λ l. delayed_ends (since_of since n) rs (f n) ++ l) (from_each since rs f (suc n) k)

pub ends_all : (chart : Chart) (since : List ℤ) (rs : List Row) → entry_ends chart since rs chart.count ≡ due_ends [] (operators_of chart) since rs
ends_all chart since rs = sym (due_delayed (operators_of chart) since rs ∙ ap (λ ops. delays_from 0 ops since rs) (operators_all chart) ∙ from_each since rs (λ n. entry_operator (entry_at chart n)) 0 chart.count)

-- one entry more, whose rows were then appended: they change nothing of this
module _ (chart : Chart) (since : List ℤ) (usable : is_usable chart ≡ true) (rs news : List Row) (i : ℕ) (h : i < chart.count) (of : (r : Row) → Memᴰ r news → r.entry ≡ i) where
  kept : (j : ℕ) → j ≤ i → delayed_ends (since_of since j) (rs ++ news) (entry_operator (entry_at chart j)) ≡ delayed_ends (since_of since j) rs (entry_operator (entry_at chart j))
  kept j l = delayed_kept (since_of since j) rs news i j (entry_operator (entry_at chart j)) (lower_entry chart usable j (omega arith)) l of

  pub ends_more : entry_ends chart since (rs ++ news) (i + 1) ≡ entry_ends chart since rs i ++ delayed_ends (since_of since i) rs (entry_operator (entry_at chart i))
  ends_more = each_same (λ j. delayed_ends (since_of since j) (rs ++ news) (entry_operator (entry_at chart j))) (λ j. delayed_ends (since_of since j) rs (entry_operator (entry_at chart j))) 0 (i + 1) (λ j p q. kept j (omega arith)) ∙ each_last (λ j. delayed_ends (since_of since j) rs (entry_operator (entry_at chart j))) i
