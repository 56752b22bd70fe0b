-- What a check that is passed tells, and that a watch of the model whose rows stand in the table passes it. No code stands here.
use Prim.Native.Nat.{ℕ, zero, suc, ◌*◌, ◌<◌, ◌≤◌}
use native.Mathlib.Omega.{arith}
use native.Mathlib.Decide.{ℕ_discrete}
use mathlib.Core.Path.{◌≡◌, refl, sym, ◌∙◌, subst}
use mathlib.Core.Bool.{Bool, true, false, ◌&&◌}
use mathlib.Core.List.{List, ◌++◌}
use borrow.Author.Tests.{leb-true, ltb-true, ltb-false, eqb-true}
use lib.Dec.{T, eqb, leb, ltb}
use lib.IntN.{ℤ, pos, nat_abs}
use lib.ListN.{length}
use lib.Seq.{take-append_seam}
use lib.Signed.{le_z, lt_z}
use Rattle.interval.specs.Instants.{is_instant, first_floor}
use Rattle.interval.proofs.Signed.{◌≤ᶻ◌, signed, never, and_first, and_second, holds→, is_le}
use Rattle.interval.proofs.Laws.{le_trans}
use Rattle.chart.specs.Charts.{is_usable, all_below}
use Rattle.chart.specs.declared.Chart.{Chart}
use Rattle.chart.proofs.Below.{at_place, all_below_lem}
use Rattle.state.specs.State.{entry_since}
use Rattle.state.specs.declared.WatchState.{WatchState}
use Rattle.model.specs.Order.{since_of, Row}
use Rattle.model.specs.Capacity.{capacity}
use Rattle.model.specs.RowSteps.{is_event_at, Watch}
use Rattle.model.specs.Consistency.{agrees_at, is_rising, is_consistent}
use Rattle.model.proofs.Steps.{all4, all6, consistent_told}
use Rattle.table.specs.Table.{cell, table_row, rows_in, are_zeros}
use Rattle.table.specs.Operators.{operators_of}
use Rattle.table.specs.Ready.{Ready, EndBefore}
use Rattle.table.proofs.Rows.{row_at_lem}
use Rattle.table.proofs.Operators.{length_operators}
use Rattle.consistency.specs.Consistency.{are_instants_in_range, are_counts_in_range, are_entries_in_range, is_watch_in_range, is_table_row_consistent, are_consistent}
use Rattle.consistency.proofs.Rows.{is_after_last, and_group, no_operator, row_told}
use Rattle.consistency.proofs.Ready.{Shape, shape_at}

le_same : (a : ℤ) → le_z a a ≡ true
le_same a = omega (arith, signed)

-- one row of a table that is consistent
module _ (chart : Chart) (w : WatchState) (t : List ℤ) where
  abbrev rs : List Row
  rs = rows_in w.rows t

  record Told (i : ℕ) : Type 0 where
    entry : le_z (pos 0) (cell t i 0) ≡ true
    started : le_z (since_of (entry_since w) (nat_abs (cell t i 0))) (cell t i 3) ≡ true
    ended : lt_z (cell t i 4) w.instant ≡ true
    after : is_after_last t i (cell t i 4) ≡ true
    agreed : agrees_at w.events rs i (table_row t i) (operators_of chart) (nat_abs (cell t i 0)) ≡ true

  module _ (all : all_below w.rows (is_table_row_consistent chart w t) ≡ true) where
    told : (i : ℕ) → i < w.rows → Told i
    unfolding is_table_row_consistent
    told i h =
        let e = at_place w.rows (is_table_row_consistent chart w t) all i h in
        let a = le_z (pos 0) (cell t i 0) in
        let n = nat_abs (cell t i 0) in
        let q = all6 a (le_z w.floor (cell t i 3)) (le_z (since_of (entry_since w) n) (cell t i 3)) (lt_z (cell t i 4) w.instant) (is_after_last t i (cell t i 4)) (agrees_at w.events rs i (table_row t i) (operators_of chart) n) (rw (row_told chart w t i h) at e) in
        record { entry = q.0; started = q.2; ended = q.3; after = q.4; agreed = q.5 }

    shape : (i : ℕ) → i < w.rows → Shape rs i (table_row t i) (is_event_at (operators_of chart) (nat_abs (cell t i 0)))
    shape i h = shape_at w.events rs i (table_row t i) (operators_of chart) (nat_abs (cell t i 0)) (told i h).agreed

    entry_below_lem : (i : ℕ) → i < w.rows → nat_abs (cell t i 0) < chart.count
    entry_below_lem i h = go (ltb n chart.count) refl
      where
        n : ℕ
        n = nat_abs (cell t i 0)

        go : (b : Bool) → ltb n chart.count ≡ b → n < chart.count
        go true e = ltb-true n chart.count e
        go false e = never (sym (no_operator chart w.events rs i (table_row t i) n (ltb-false n chart.count e)) ∙ (told i h).agreed)

    -- by the row's number: a row takes start and end from lower rows
    proper_below : (k : ℕ) → k ≤ w.rows → (i : ℕ) → i < k → cell t i 3 ≤ᶻ cell t i 4
    proper_below zero g i h = absurd (omega arith)
    proper_below (suc k) g i h = go (ℕ_discrete i k) (proper_below k (omega arith))
      where
        go : Dec (i ≡ k) → ((j : ℕ) → j < k → cell t j 3 ≤ᶻ cell t j 4) → cell t i 3 ≤ᶻ cell t i 4
        go (yes e) f = (shape i (omega arith)).proper (λ j l. subst (λ q. q.start ≤ᶻ q.end) (sym (row_at_lem w.rows j t (omega arith))) (f j (omega arith)))
        go (no d) f = f i (omega arith)

    ordered_up : (i j : ℕ) → i ≤ j → j < w.rows → le_z (cell t i 4) (cell t j 4) ≡ true
    unfolding is_after_last
    ordered_up i zero g h = let e : i ≡ 0 = omega arith in rw e (le_same (cell t 0 4))
    ordered_up i (suc j) g h = go (ℕ_discrete i (suc j)) (ordered_up i j)
      where
        go : Dec (i ≡ suc j) → (i ≤ j → j < w.rows → le_z (cell t i 4) (cell t j 4) ≡ true) → le_z (cell t i 4) (cell t (suc j) 4) ≡ true
        go (yes e) f = rw e (le_same (cell t (suc j) 4))
        go (no d) f = le_trans (cell t i 4) (cell t j 4) (cell t (suc j) 4) (f (omega arith) (omega arith)) (told (suc j) h).after

-- what is told of the entries
pub entries_told : (count : ℕ) (w : WatchState) → is_watch_in_range count w ≡ true → (w.entries ≡ count) × (is_rising first_floor w.instant (entry_since w) ≡ true)
unfolding is_watch_in_range
entries_told count w e =
    let a = are_instants_in_range w.instant w.floor in
    let b = are_counts_in_range w.pending w.events in
    let n = eqb w.entries count in
    let s = is_rising first_floor w.instant (entry_since w) in
    let h = and_second b (n && s) (and_second a (b && (n && s)) e) in
    (eqb-true w.entries count (and_first n s h), and_second n s h)

-- what the check tells the calls that go on
pub record Consistent (chart : Chart) (w : WatchState) (t : List ℤ) : Type 0 where
  pub ready : Ready chart w.rows t
  pub ended : EndBefore w.instant w.rows t
  pub started : (i : ℕ) → i < w.rows → le_z (since_of (entry_since w) (nat_abs (cell t i 0))) (cell t i 3) ≡ true
  pub open_range : is_instant w.instant ≡ true
  pub floor_range : is_instant w.floor ≡ true
  pub floor_low : le_z w.floor w.instant ≡ true
  pub few : w.pending ≤ 64
  pub counted : w.pending ≤ w.events
  pub most : w.events ≤ 1000000
  pub entries : w.entries ≡ chart.count
  pub rising : is_rising first_floor w.instant (entry_since w) ≡ true

pub consistent_ready : (chart : Chart) (w : WatchState) (t : List ℤ) → is_usable chart ≡ true → are_consistent chart w t ≡ true → Consistent chart w t
unfolding are_consistent is_watch_in_range
consistent_ready chart w t u e =
    let q = all4 (is_watch_in_range chart.count w) (leb w.rows (capacity (length t))) (are_zeros (w.rows * 5) (capacity (length t) * 5) t) (all_below w.rows (is_table_row_consistent chart w t)) e in
    let n = are_entries_in_range chart.count w in
    let f = all6 (is_instant w.instant) (is_instant w.floor) (le_z w.floor w.instant) (leb w.pending 64) (leb w.pending w.events) (leb w.events 1000000 && n) (simp and_group at q.0) in
    let g = entries_told chart.count w q.0 in
    record {
      ready = record {
        usable = u;
        fit = leb-true w.rows (capacity (length t)) q.1;
        entry_above = λ i h. (told chart w t q.3 i h).entry;
        entry_below = entry_below_lem chart w t q.3;
        proper = λ i h. is_le (cell t i 3) (cell t i 4) (proper_below chart w t q.3 w.rows (omega arith) i h);
        ordered = ordered_up chart w t q.3;
        left = λ i h. (shape chart w t q.3 i h).left;
        right = λ i h. (shape chart w t q.3 i h).right;
        zeros = q.2;
      };
      ended = λ i h. (told chart w t q.3 i h).ended;
      started = λ i h. (told chart w t q.3 i h).started;
      open_range = f.0;
      floor_range = f.1;
      floor_low = f.2;
      few = leb-true w.pending 64 f.3;
      counted = leb-true w.pending w.events f.4;
      most = leb-true w.events 1000000 (and_first (leb w.events 1000000) n f.5);
      entries = g.0;
      rising = g.1;
    }

-- a watch of the model with these codes of pending events, and with this behind the instants of the entries
abbrev pub state_with : Watch → List ℕ → List ℤ → WatchState
state_with m codes rest = record { instant = m.open_instant; floor = m.floor; events = m.count; rows = length m.rows; pending = length m.pending; codes = codes; entries = length m.since; since = m.since ++ rest }

-- a watch that the model has consistent, its chart being this one and its rows those of the table
pub model_consistent : (chart : Chart) (m : Watch) (codes : List ℕ) (rest : List ℤ) (t : List ℤ) → m.chart ≡ operators_of chart → T (is_consistent (capacity (length t)) m) → rows_in (length m.rows) t ≡ m.rows → ((i : ℕ) → i < length m.rows → le_z (pos 0) (cell t i 0) ≡ true) → are_zeros (length m.rows * 5) (capacity (length t) * 5) t ≡ true → are_consistent chart (state_with m codes rest) t ≡ true
unfolding are_consistent is_watch_in_range is_table_row_consistent
model_consistent chart m codes rest t ops j same above zeros =
    let p = consistent_told (capacity (length t)) m (holds→ _ j) in
    let front = take-append_seam m.since rest in
    let rows : all_below (length m.rows) (is_table_row_consistent chart (state_with m codes rest) t) ≡ true = all_below_lem (length m.rows) _ (λ i h. rw (above i h, same, front, ← ops) (p.each i h)) in
    let entries : eqb (length m.since) chart.count ≡ true = rw (← length_operators chart, ← ops) p.entries in
    simp (p.open_range, p.floor_range, p.floor_low, p.short, p.counted, p.most, entries, front, p.rising, p.fit, rows, zeros)
