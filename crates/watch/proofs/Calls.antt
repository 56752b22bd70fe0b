-- The steps of the calls, by the tests that lead to each answer.
use Prim.Native.Nat.{ℕ, ◌*◌, ◌-◌, ◌≤◌, ◌<◌}
use native.Mathlib.Omega.{arith}
use mathlib.Core.Path.{◌≡◌, refl, sym, ap, ◌∙◌}
use mathlib.Core.Bool.{Bool, true, false, cond}
use borrow.Author.Tests.{eq-eqb, ne_eqb, leb-true, leb-false, lt-ltb, le-ltb}
use lib.Dec.{leb}
use lib.ListN.{length}
use mathlib.Core.List.{List}
use lib.IntN.{ℤ, pos}
use Rattle.interval.specs.Instants.{is_instant, is_mark_refused, is_forget_refused}
use Rattle.chart.specs.Charts.{is_usable, read_added}
use Rattle.chart.specs.declared.Chart.{Chart}
use Rattle.model.proofs.Capacity.{capacity_fits}
use Rattle.table.specs.Ends.{Ordered}
use Rattle.table.specs.Ready.{Ready}
use Rattle.table.specs.Table.{zeroed, room_in}
use Rattle.consistency.proofs.Theorems as consistency
use Rattle.state.specs.State.{empty_state, open_state, extended, marked, raised}
use Rattle.consistency.specs.Consistency.{are_consistent}
use Rattle.closing.specs.Closed.{Closable, closed_rows, closed_count, closed_table}
use Rattle.interval.proofs.Signed.{is_lt}
use Rattle.interval.proofs.Laws.{mark_taken}
use Rattle.forgetting.specs.Forgetting.{kept_rows, forgotten_table}
use Rattle.refusal.specs.declared.Refusal.{Refusal}
use Rattle.std.specs.Option.{ok_or}
use Rattle.std.specs.Prelude.{Option, Some, None, Result, Err}
use Rattle.watch.specs.Steps.{Step, refused_step, taken_step, opening_step, check_number, checked, clock_own, forget_own, addition, add_own, add_step}
use Rattle.state.specs.declared.WatchState.{WatchState}

module _ (chart : Chart) (t : List ℤ) (o : ℤ) where
  pub opening_14 : is_usable chart ≡ false → opening_step chart t o ≡ refused_step 14 (empty_state (pos 0)) t
  unfolding opening_step
  opening_14 e = rw e

  pub opening_8 : is_usable chart ≡ true → is_instant o ≡ false → opening_step chart t o ≡ refused_step 8 (empty_state (pos 0)) t
  unfolding opening_step
  opening_8 e d = rw (e, d)

  pub opening_taken : is_usable chart ≡ true → is_instant o ≡ true → opening_step chart t o ≡ taken_step (open_state chart.count o) (zeroed 0 (room_in t * 5) t)
  unfolding opening_step
  opening_taken e d = rw (e, d)

-- the check before each call
module _ (chart : Chart) (w : WatchState) (t : List ℤ) where
  pub check_0 : is_usable chart ≡ true → are_consistent chart w t ≡ true → check_number chart w t ≡ 0
  unfolding check_number
  check_0 e d = rw (e, d)

  -- what it tells
  pub record Consistent : Type 0 where
    pub usable : is_usable chart ≡ true
    pub consistent : are_consistent chart w t ≡ true

  pub check_told : check_number chart w t ≡ 0 → Consistent
  unfolding check_number
  check_told e = go (is_usable chart) refl (are_consistent chart w t) refl e
    where
      go : (a : Bool) → is_usable chart ≡ a → (b : Bool) → are_consistent chart w t ≡ b → ◌≡◌ {A = ℕ} (cond a (cond b 0 13) 14) 0 → Consistent
      go true p true q z = record { usable = p; consistent = q }
      go true p false q z = absurd (omega arith)
      go false p b q z = absurd (omega arith)

  pub check_passed : (own : Step) → check_number chart w t ≡ 0 → checked chart w t own ≡ own
  unfolding checked
  check_passed own z = let j = check_told z in rw (j.usable, j.consistent)

-- the refusal of a None that is given one
pub refused_with : {A : Type 0} (n : Option A) (e f : Refusal) → ◌≡◌ {A = Result A Refusal} (Err f) (ok_or n e) → f ≡ e
refused_with None e f h = cc
refused_with (Some x) e f h = absurd cc

-- what an equation of steps says of answer and table
pub parts : {x y : Step} → x ≡ y → (y.answer ≡ x.answer) × (y.table ≡ x.table)
parts e = (sym (ap (λ (s : Step). s.answer) e), sym (ap (λ (s : Step). s.table) e))

-- what the check tells the calls that go on
pub told : (chart : Chart) (w : WatchState) (t : List ℤ) → check_number chart w t ≡ 0 → consistency.Consistent chart w t
told chart w t z = let j = check_told chart w t z in consistency.consistent_ready chart w t j.usable j.consistent

pub ready : (chart : Chart) (w : WatchState) (t : List ℤ) → check_number chart w t ≡ 0 → Ready chart w.rows t
ready chart w t z = (told chart w t z).ready

-- the rows in use lie in the table, in the order of their ends
pub readable : (chart : Chart) (w : WatchState) (t : List ℤ) → check_number chart w t ≡ 0 → (w.rows * 5 ≤ length t) × Ordered w.rows t
readable chart w t z = let r = ready chart w t z in (omega (arith, r.fit, capacity_fits (length t)), r.ordered)

-- a clock mark, by the tests that lead to its answer
module _ (chart : Chart) (w : WatchState) (t : List ℤ) (x : ℤ) where
  abbrev pub early : Bool
  early = is_mark_refused w.instant x

  -- what closing asks
  pub closable : check_number chart w t ≡ 0 → early ≡ false → Closable chart w x t
  closable z e =
      let j = told chart w t z in
      record { ready = j.ready; ended = j.ended; few = j.few; counted = j.counted; most = j.most; later = is_lt w.instant x (mark_taken w.instant x e).later }

  pub clock_8 : early ≡ true → clock_own chart w t x ≡ refused_step 8 w t
  unfolding clock_own
  clock_8 e = rw e

  abbrev size : ℕ
  size = length (closed_rows chart w x t)

  pub clock_12 : early ≡ false → closed_count chart w x t ≡ None → (clock_own chart w t x ≡ refused_step 12 w t) × (closed_table chart w x t ≡ t)
  unfolding clock_own closed_count closed_table
  clock_12 e n = go (leb size (room_in t)) refl n
    where
      go : (b : Bool) → leb size (room_in t) ≡ b → cond b (Some size) None ≡ None → (clock_own chart w t x ≡ refused_step 12 w t) × (closed_table chart w x t ≡ t)
      go true p q = absurd cc
      go false p q = (rw (e, lt-ltb (room_in t) size (leb-false size (room_in t) p)), rw p)

  pub clock_taken : (k : ℕ) → early ≡ false → closed_count chart w x t ≡ Some k → clock_own chart w t x ≡ taken_step (marked w x k) (closed_table chart w x t)
  unfolding clock_own closed_count closed_table
  clock_taken k e n = go (leb size (room_in t)) refl n
    where
      go : (b : Bool) → leb size (room_in t) ≡ b → cond b (Some size) None ≡ Some k → clock_own chart w t x ≡ taken_step (marked w x k) (closed_table chart w x t)
      go true p q = let z : size ≡ k = cc in rw (e, le-ltb (room_in t) size (leb-true size (room_in t) p), p, z)
      go false p q = absurd cc

-- a forget
module _ (chart : Chart) (w : WatchState) (t : List ℤ) (f : ℤ) where
  abbrev pub barred : Bool
  barred = is_forget_refused w.floor w.instant f

  pub forget_11 : barred ≡ true → forget_own chart w t f ≡ refused_step 11 w t
  unfolding forget_own
  forget_11 e = rw e

  pub forget_taken : barred ≡ false → forget_own chart w t f ≡ taken_step (raised w f (length (kept_rows chart w t f))) (forgotten_table chart w t f)
  unfolding forget_own
  forget_taken e = rw e

-- an addition
module _ (chart : Chart) (w : WatchState) (t : List ℤ) (s : List ℕ) where
  pub add_passed : check_number chart w t ≡ 0 → add_step chart w t s ≡ add_own chart w s
  unfolding add_step
  add_passed z = rw (eq-eqb (check_number chart w t) 0 z)

  pub add_refused : (check_number chart w t ≡ 0 → ⊥) → add_step chart w t s ≡ addition (check_number chart w t) 0 w chart
  unfolding add_step
  add_refused d = rw (ne_eqb (check_number chart w t) 0 d)

  pub lines_refused : ((read_added chart s).refusal ≡ 0 → ⊥) → add_own chart w s ≡ addition (read_added chart s).refusal (read_added chart s).line w chart
  unfolding add_own
  lines_refused d = rw (ne_eqb (read_added chart s).refusal 0 d)

  pub lines_taken : (read_added chart s).refusal ≡ 0 → add_own chart w s ≡ addition 0 0 (extended w ((read_added chart s).chart.count - chart.count)) (read_added chart s).chart
  unfolding add_own
  lines_taken z = rw (eq-eqb (read_added chart s).refusal 0 z)
