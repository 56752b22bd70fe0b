-- From the walk to forgetting: what a consistent table gives the walk, and what the walk and the zeros leave. No code here.
use Prim.Native.Nat.{ℕ, zero, suc, ◌+◌, ◌*◌, ◌≤◌, ◌<◌}
use native.Mathlib.Omega.{arith}
use mathlib.Core.Path.{◌≡◌, refl, sym, ap, ◌∙◌}
use mathlib.Core.Bool.{Bool, true, false, cond}
use mathlib.Core.List.{List, [], ◌∷◌, ◌++◌, map, map-append}
use lib.IntN.{ℤ, nat_abs}
use lib.ListN.{length, take, drop, length-map}
use lib.Seq.{take_at}
use Rattle.chart.specs.declared.Chart.{Chart}
use Rattle.state.specs.declared.WatchState.{WatchState}
use Rattle.model.specs.Lists.{keep}
use Rattle.model.specs.Order.{Row}
use Rattle.model.specs.RowSteps.{is_late, moved, is_event_at, forget_rows}
use Rattle.model.proofs.Capacity.{capacity_most, capacity_fits}
use Rattle.model.proofs.Steps.{forget_kept}
use Rattle.model.proofs.Sorted.{keep_append}
use Rattle.table.specs.Table.{cell, table_row, rows_in, flat, put_rows, zeroed}
use Rattle.table.specs.Operators.{operators_of, arities_of}
use Rattle.table.specs.Ready.{Ready}
use Rattle.table.proofs.Laws.{zeroed_same}
use Rattle.table.proofs.Arities.{event_arity}
use Rattle.table.proofs.Ready.{entry_low}
use Rattle.table.proofs.Rows.{rows_none, rows_snoc, length_rows, length_flat, puts_flat, drop_puts}
use Rattle.forgetting.specs.Forgetting.{kept_rows, forgotten_table}
use Rattle.forgetting.specs.Walk.{event_in, plain, plain_rows, with_references, kept_by, RowsReady, Sifted}

-- rows put from place 0 on, and zeros behind them: what stood there does not matter
take_flat : (rs : List Row) (t : List ℤ) → length rs * 5 ≤ length t → take (length rs * 5) (put_rows 0 rs t) ≡ flat rs
take_flat rs t h =
    let k : (0 + length rs) * 5 ≤ length t = omega arith in
    ap (take (length rs * 5)) (puts_flat 0 rs t k) ∙ take_at (flat rs) (drop ((0 + length rs) * 5) t) (length rs * 5) (length_flat rs)

zeroed_puts : (e : ℕ) (rs : List Row) (s t : List ℤ) → length rs * 5 ≤ e → e ≤ length s → e ≤ length t → drop e s ≡ drop e t → zeroed (length rs * 5) e (put_rows 0 rs s) ≡ zeroed (length rs * 5) e (put_rows 0 rs t)
zeroed_puts e rs s t h x y q =
    let before = take_flat rs s (omega arith) ∙ sym (take_flat rs t (omega arith)) in
    let behind = drop_puts 0 e rs s (omega arith) ∙ q ∙ sym (drop_puts 0 e rs t (omega arith)) in
    zeroed_same (length rs * 5) e (put_rows 0 rs s) (put_rows 0 rs t) before behind

-- two functions that agree on the rows of a table, on those kept
module _ (F G : Row → Row) (test : Row → Bool) (t : List ℤ) where
  same_kept : (n : ℕ) → ((i : ℕ) → i < n → F (table_row t i) ≡ G (table_row t i)) → map F (keep test (rows_in n t)) ≡ map G (keep test (rows_in n t))
  same_kept zero h = rw (rows_none t)
  same_kept (suc n) h =
      let ks = keep test (rows_in n t) in
      let k = keep test (table_row t n ∷ []) in
      rw (rows_snoc n t, keep_append test (rows_in n t) (table_row t n ∷ []), map-append F ks k, map-append G ks k, same_kept n (λ i g. h i (omega arith))) (go (test (table_row t n)))
    where
      go : (b : Bool) → map G (keep test (rows_in n t)) ++ map F (cond b (table_row t n ∷ []) []) ≡ map G (keep test (rows_in n t)) ++ map G (cond b (table_row t n ∷ []) [])
      go true = rw (h n (omega arith))
      go false = refl

module _ (chart : Chart) (w : WatchState) (t : List ℤ) (f : ℤ) (ready : Ready chart w.rows t) (arities : List ℕ) (are : arities ≡ arities_of chart) where
  is_event : (i : ℕ) → i < w.rows → event_in arities (nat_abs (cell t i 0)) ≡ is_event_at (operators_of chart) (nat_abs (cell t i 0))
  is_event i h = rw are (sym (event_arity chart (nat_abs (cell t i 0)) (ready.entry_below i h)))

  pub ready_rows : RowsReady (event_in arities) w.rows t
  ready_rows = record {
    few = omega (arith, ready.fit, capacity_most (length t));
    fit = omega (arith, ready.fit, capacity_fits (length t));
    each = λ i h. record { above = ready.entry_above i h; below = entry_low ready i h; left = λ e. ready.left i h (sym (is_event i h) ∙ e); right = ready.right i h };
  }

  kept_same : kept_by (event_in arities) f (rows_in w.rows t) ≡ kept_rows chart w t f
  unfolding kept_by kept_rows
  kept_same =
      same_kept _ _ (is_late f) t w.rows (λ i h. ap (λ b. with_references b (moved f (rows_in w.rows t)) (table_row t i)) (is_event i h))
      ∙ sym (forget_kept (operators_of chart) f (rows_in w.rows t))

  -- what the walk leaves
  module _ (first n : ℕ) (u : List ℤ) (s : Sifted (event_in arities) f first w.rows t n u) where
    rows_kept : plain_rows n u ≡ kept_rows chart w t f
    rows_kept = s.kept ∙ kept_same

    pub forgotten_count : n ≡ length (kept_rows chart w t f)
    forgotten_count = sym (length_rows n u) ∙ sym (length-map (rows_in n u) plain) ∙ ap length rows_kept

    pub forgotten_table_lem : (v z : List ℤ) → length u ≡ length t → v ≡ put_rows 0 (plain_rows n u) u → z ≡ zeroed (n * 5) (w.rows * 5) v → z ≡ forgotten_table chart w t f
    unfolding forgotten_table
    forgotten_table_lem v z size p q =
        let fit = ready_rows.fit in
        q
        ∙ rw (p, rows_kept, forgotten_count)
        (zeroed_puts (w.rows * 5) (kept_rows chart w t f) u t (omega (arith, s.most, forgotten_count)) (omega arith) fit s.rest)

-- For callers: the rows kept, and the table with them
module _ (chart : Chart) (w : WatchState) (t : List ℤ) (f : ℤ) where
  pub kept_is : kept_rows chart w t f ≡ forget_rows (operators_of chart) f (rows_in w.rows t)
  unfolding kept_rows
  kept_is = refl

  pub forgotten_is : forgotten_table chart w t f ≡ zeroed (length (kept_rows chart w t f) * 5) (w.rows * 5) (put_rows 0 (kept_rows chart w t f) t)
  unfolding forgotten_table
  forgotten_is = refl
