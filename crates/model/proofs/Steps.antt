-- Laws of the steps on rows and of consistent watches that other crates go by.
use Prim.Native.Nat.{ℕ, zero, suc, ◌+◌, ◌<◌}
use native.Mathlib.Omega.{arith}
use native.Mathlib.Nat.{add-zero, zero-add}
use mathlib.Core.Path.{◌≡◌, refl, sym, ◌∙◌, subst}
use mathlib.Core.Bool.{Bool, true, false, ◌&&◌}
use mathlib.Core.List.{List, [], ◌∷◌, ◌++◌, map, append_assoc, append-nil}
use lib.Dec.{eqb, leb}
use lib.IntN.{ℤ}
use lib.ListN.{length}
use lib.Signed.{le_z}
use Rattle.interval.specs.Instants.{is_instant, first_floor}
use Rattle.interval.proofs.Signed.{never, and_first, and_second}
use Rattle.model.specs.Lists.{every, keep, numbers}
use Rattle.model.specs.Recognitions.{Event, Operator}
use Rattle.model.specs.Order.{Row}
use Rattle.model.specs.RowSteps.{Rule, rules, derived_rows, extend_rows, ends_at, close_rows, keep_rows, renumbered_by, is_late, forget_rows, Watch}
use Rattle.model.specs.Consistency.{is_row_consistent, are_rows_consistent, is_rising, is_consistent}

-- several tests at once, each of them passed
pub all4 : (a b c d : Bool) → (a && (b && (c && d))) ≡ true → (a ≡ true) × (b ≡ true) × (c ≡ true) × (d ≡ true)
all4 true true true true e = (refl, refl, refl, refl)
all4 true true true false e = never e
all4 true true false d e = never e
all4 true false c d e = never e
all4 false b c d e = never e

pub all6 : (a b c d e f : Bool) → (a && (b && (c && (d && (e && f))))) ≡ true → (a ≡ true) × (b ≡ true) × (c ≡ true) × (d ≡ true) × (e ≡ true) × (f ≡ true)
all6 true true true d e f h = let q = all4 true d e f h in (refl, refl, refl, q.1, q.2, q.3)
all6 true true false d e f h = never h
all6 true false c d e f h = never h
all6 false b c d e f h = never h

-- the rules one after another; they only append
module _ (es : List Event) where
  pub extend_none : (rs : List Row) → extend_rows es [] rs ≡ rs
  unfolding extend_rows
  extend_none rs = refl

  pub extend_on : (j : Rule) (js : List Rule) (rs : List Row) → extend_rows es (j ∷ js) rs ≡ extend_rows es js (rs ++ derived_rows j es rs)
  unfolding extend_rows
  extend_on j js rs = refl

  pub extend_more : (js : List Rule) (rs : List Row) → (ys : List Row) × (extend_rows es js rs ≡ rs ++ ys)
  extend_more [] rs = ([], extend_none rs ∙ sym (append-nil rs))
  extend_more (j ∷ js) rs =
      let p = extend_more js (rs ++ derived_rows j es rs) in
      (derived_rows j es rs ++ p.0, extend_on j js rs ∙ p.1 ∙ append_assoc rs (derived_rows j es rs) p.0)

module _ (o : ℤ) (es : List Event) (chart : List Operator) (since : List ℤ) (rs : List Row) where
  pub close_rules : close_rows o es chart since rs ≡ extend_rows es (rules (ends_at since o) 0 chart) rs
  unfolding close_rows
  close_rules = refl

  pub close_more : (ys : List Row) × (close_rows o es chart since rs ≡ rs ++ ys)
  close_more = let p = extend_more es (rules (ends_at since o) 0 chart) rs in (p.0, close_rules ∙ p.1)

-- the rows that a forget keeps
pub forget_kept : (chart : List Operator) (f : ℤ) (rs : List Row) → forget_rows chart f rs ≡ map (renumbered_by chart (is_late f) rs) (keep (is_late f) rs)
unfolding forget_rows keep_rows
forget_kept chart f rs = refl

-- every test of numbers, at one of them
every_at : (p : ℕ → Bool) (s n : ℕ) → every p (numbers s n) ≡ true → (i : ℕ) → i < n → p (s + i) ≡ true
every_at p s zero e i h = absurd (omega arith)
every_at p s (suc n) e zero h = rw (add-zero s) (and_first (p s) (every p (numbers (suc s) n)) e)
every_at p s (suc n) e (suc i) h =
    let q : suc s + i ≡ s + suc i = omega arith in
    subst (λ k. p k ≡ true) q (every_at p (suc s) n (and_second (p s) (every p (numbers (suc s) n)) e) i (omega arith))

rows_told : (chart : List Operator) (since : List ℤ) (f o : ℤ) (count : ℕ) (rs : List Row) → are_rows_consistent chart since f o count rs ≡ true → (i : ℕ) → i < length rs → is_row_consistent chart since f o count rs i ≡ true
unfolding are_rows_consistent
rows_told chart since f o count rs e i h = rw (zero-add i) at (every_at (is_row_consistent chart since f o count rs) 0 (length rs) e i h)

-- what a consistent watch tells, one test a line
pub record ConsistentWatch (capacity : ℕ) (w : Watch) : Type 0 where
  pub open_range : is_instant w.open_instant ≡ true
  pub floor_range : is_instant w.floor ≡ true
  pub floor_low : le_z w.floor w.open_instant ≡ true
  pub entries : eqb (length w.since) (length w.chart) ≡ true
  pub rising : is_rising first_floor w.open_instant w.since ≡ true
  pub short : leb (length w.pending) 64 ≡ true
  pub counted : leb (length w.pending) w.count ≡ true
  pub most : leb w.count 1000000 ≡ true
  pub fit : leb (length w.rows) capacity ≡ true
  pub each : (i : ℕ) → i < length w.rows → is_row_consistent w.chart w.since w.floor w.open_instant w.count w.rows i ≡ true

pub consistent_told : (capacity : ℕ) (w : Watch) → is_consistent capacity w ≡ true → ConsistentWatch capacity w
unfolding is_consistent
consistent_told capacity w e =
    let b = leb (length w.pending) 64 in
    let c = leb (length w.pending) w.count in
    let f = leb w.count 1000000 in
    let g = leb (length w.rows) capacity in
    let h = are_rows_consistent w.chart w.since w.floor w.open_instant w.count w.rows in
    let p = all6 (is_instant w.open_instant) (is_instant w.floor) (le_z w.floor w.open_instant) (eqb (length w.since) (length w.chart)) (is_rising first_floor w.open_instant w.since) (b && (c && (f && (g && h)))) e in
    let q = all6 true b c f g h p.5 in
    record {
      open_range = p.0;
      floor_range = p.1;
      floor_low = p.2;
      entries = p.3;
      rising = p.4;
      short = q.1;
      counted = q.2;
      most = q.3;
      fit = q.4;
      each = rows_told w.chart w.since w.floor w.open_instant w.count w.rows q.5;
    }
