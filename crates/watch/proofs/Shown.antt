-- The watch and table that show a watch on rows: its rows number for number, zeros behind them, and what lay after the last row.
use Prim.Native.Nat.{ℕ, suc, ◌+◌, ◌-◌, ◌≤◌, ◌<◌}
use native.Mathlib.Omega.{arith}
use mathlib.Core.Path.{◌≡◌, refl, sym, ap, ◌∙◌}
use mathlib.Core.Bool.{true}
use mathlib.Core.List.{List, [], ◌∷◌, ◌++◌, append_assoc}
use lib.IntN.{ℤ, pos}
use lib.ListN.{length, take, drop, set, replicate, length-append, length-replicate, replicate-append-replicate}
use lib.Seq.{set_at, sets, sets-eq, take_at, drop_at, drop-drop}
use Rattle.chart.specs.Charts.{is_usable}
use Rattle.model.specs.RowSteps as rows
use Rattle.state.specs.declared.WatchState.{WatchState}
use Rattle.table.specs.Table.{table_of}
use Rattle.table.specs.Operators.{operators_of}
use Rattle.watch.specs.Histories.{State}

abbrev pub watch_of : rows.Watch → WatchState
watch_of m = record {
  instant = m.open_instant;
  floor = m.floor;
  events = m.count;
  rows = length m.rows;
  pending = length m.pending;
  codes = m.pending ++ replicate (64 - length m.pending) 0;
  entries = length m.since;
  since = m.since ++ replicate (32 - length m.since) (pos 0);
}

-- watch, table and chart show it; what stands behind the chart's entries is not asked
pub record Shows (room : ℕ) (tail : List ℤ) (s : State) (m : rows.Watch) : Type 0 where
  pub usable : is_usable s.chart ≡ true
  pub operators : operators_of s.chart ≡ m.chart
  pub watch : s.watch ≡ watch_of m
  pub table : s.table ≡ table_of room tail m.rows

-- one event more
pub codes_more : (p : List ℕ) (k : ℕ) → length p < 64 → set (p ++ replicate (64 - length p) 0) (length p) k ≡ (p ++ k ∷ []) ++ replicate (64 - length (p ++ k ∷ [])) 0
codes_more p k h =
    let n = length p in
    let e : 64 - n ≡ suc (63 - n) = omega arith in
    let ys : List ℕ = replicate (63 - n) 0 in
    let size : length (p ++ k ∷ []) ≡ n + 1 = length-append p (k ∷ []) in
    let f : 63 - n ≡ 64 - length (p ++ k ∷ []) = omega arith in
    ap (λ m. set (p ++ replicate m 0) n k) e ∙ set_at p 0 ys k n refl ∙ sym (append_assoc p (k ∷ []) ys) ∙ ap (λ m. (p ++ k ∷ []) ++ replicate m 0) f

-- k entries more, which count from x
pub since_more : (p : List ℤ) (k : ℕ) (x : ℤ) → length p + k ≤ 32 → sets (p ++ replicate (32 - length p) (pos 0)) (length p) (replicate k x) ≡ (p ++ replicate k x) ++ replicate (32 - length (p ++ replicate k x)) (pos 0)
since_more p k x h =
    let n = length p in
    let zs : ℕ → List ℤ = λ i. replicate i (pos 0) in
    let l : List ℤ = p ++ zs (32 - n) in
    let size : length (replicate k x) ≡ k = length-replicate k x in
    let long : length l ≡ n + (32 - n) = length-append p (zs (32 - n)) ∙ ap (λ i. n + i) (length-replicate (32 - n) (pos 0)) in
    let both : length (p ++ replicate k x) ≡ n + k = length-append p (replicate k x) ∙ ap (λ i. n + i) size in
    let left : 32 - n ≡ k + (32 - (n + k)) = omega arith in
    let rest : drop (n + k) l ≡ zs (32 - (n + k)) =
    sym (drop-drop k n l)
    ∙ ap (drop k) (drop_at p (zs (32 - n)) n refl ∙ ap zs left ∙ sym (replicate-append-replicate k (32 - (n + k)) (pos 0)))
    ∙ drop_at (zs k) (zs (32 - (n + k))) k (length-replicate k (pos 0)) in
    sets-eq (replicate k x) l n (omega (arith, size, long))
    ∙ ap (λ i. take n l ++ replicate k x ++ drop (n + i) l) size
    ∙ ap (λ a. a ++ replicate k x ++ drop (n + k) l) (take_at p (zs (32 - n)) n refl)
    ∙ ap (λ a. p ++ replicate k x ++ a) rest
    ∙ ap (λ i. (p ++ replicate k x) ++ zs (32 - i)) (sym both)
