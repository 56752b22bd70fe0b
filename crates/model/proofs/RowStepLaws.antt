-- Laws of the calls on a watch on rows and of the rows that read a recognition, that other crates go by.
use Prim.Native.Nat.{ℕ, suc, ◌<◌}
use mathlib.Core.Path.{◌≡◌, refl}
use mathlib.Core.Bool.{true, false}
use mathlib.Core.List.{List, [], ◌∷◌, ◌++◌, map}
use lib.Dec.{eqb, ltb, leb}
use lib.IntN.{ℤ, pos}
use lib.ListN.{length, replicate}
use Rattle.interval.specs.Instants.{is_instant, first_floor, is_mark_refused, is_forget_refused}
use Rattle.model.specs.Lists.{keep}
use Rattle.model.specs.Recognitions.{Operator, Arm, Recognition, of_event, of_one, of_two, start_of, end_of}
use Rattle.model.specs.Order.{Row, row, none, left_of, right_of}
use Rattle.model.specs.Reference.{Model, Reading, accepted, refused, is_at, rows_of}
use Rattle.model.specs.RowSteps.{row_at, forget_rows, Watch, watch, closed_rows, watch_opening, watch_event, watch_clock, watch_forget, watch_added, watch_add, shown}
use Rattle.model.specs.Statements.{Reads}

-- the calls, by the tests that lead to each answer
pub opening_taken : (chart : List Operator) (o : ℤ) → is_instant o ≡ true → watch_opening chart o ≡ accepted (watch o first_floor chart (replicate (length chart) first_floor) 0 [] [])
unfolding watch_opening
opening_taken chart o e = rw e

module _ (w : Watch) (k : ℕ) where
  pub event_10 : leb 1000000 w.count ≡ true → watch_event w k ≡ refused 10 w
  unfolding watch_event
  event_10 e = rw e

  pub event_9 : leb 1000000 w.count ≡ false → leb 64 (length w.pending) ≡ true → watch_event w k ≡ refused 9 w
  unfolding watch_event
  event_9 e d = rw (e, d)

  pub event_taken : leb 1000000 w.count ≡ false → leb 64 (length w.pending) ≡ false → watch_event w k ≡ accepted (watch w.open_instant w.floor w.chart w.since (suc w.count) (w.pending ++ k ∷ []) w.rows)
  unfolding watch_event
  event_taken e d = rw (e, d)

module _ (capacity : ℕ) (w : Watch) (t : ℤ) where
  pub clock_8 : is_mark_refused w.open_instant t ≡ true → watch_clock capacity w t ≡ refused 8 w
  unfolding watch_clock
  clock_8 e = rw e

  pub clock_12 : is_mark_refused w.open_instant t ≡ false → ltb capacity (length (closed_rows w t)) ≡ true → watch_clock capacity w t ≡ refused 12 w
  unfolding watch_clock
  clock_12 e d = rw (e, d)

  pub clock_taken : is_mark_refused w.open_instant t ≡ false → ltb capacity (length (closed_rows w t)) ≡ false → watch_clock capacity w t ≡ accepted (watch t w.floor w.chart w.since w.count [] (closed_rows w t))
  unfolding watch_clock
  clock_taken e d = rw (e, d)

module _ (w : Watch) (f : ℤ) where
  pub forget_11 : is_forget_refused w.floor w.open_instant f ≡ true → watch_forget w f ≡ refused 11 w
  unfolding watch_forget
  forget_11 e = rw e

  pub forget_taken : is_forget_refused w.floor w.open_instant f ≡ false → watch_forget w f ≡ accepted (watch w.open_instant f w.chart w.since w.count w.pending (forget_rows w.chart f w.rows))
  unfolding watch_forget
  forget_taken e = rw e

-- an addition, by what the reader says of its lines
module _ {L : Type 0} (read : ℕ → L → Reading) (w : Watch) (lines : L) where
  pub add_refused : eqb (read (length w.chart) lines).number 0 ≡ false → watch_add read w lines ≡ refused (read (length w.chart) lines).number w
  unfolding watch_add
  add_refused e = rw e

  pub add_taken : eqb (read (length w.chart) lines).number 0 ≡ true → watch_add read w lines ≡ accepted (watch_added w (read (length w.chart) lines).operators)
  unfolding watch_add
  add_taken e = rw e

-- the fields of the watch that shows a state of the reference model
pub shown_is : (m : Model) → shown m ≡ watch m.open_instant m.floor m.chart m.since (length m.events) (map (λ e. e.code) (keep (is_at m.open_instant) m.events)) (rows_of m)
unfolding shown
shown_is m = refl

-- the row that reads a recognition, and the earlier ones that read its parts
module _ (rs : List Row) (i : ℕ) where
  pub reads_event : (n s : ℕ) (x : ℤ) → Reads rs i (of_event n s x) → row_at rs i ≡ row n (pos s) none x x
  unfolding Reads
  reads_event n s x h = h

  pub reads_one : (n : ℕ) (m : Arm) (r : Recognition) → Reads rs i (of_one n m r) → (j : ℕ) × (j < i) × (row_at rs i ≡ row n (left_of m j) (right_of m j) (start_of (of_one n m r)) (end_of (of_one n m r))) × Reads rs j r
  unfolding Reads
  reads_one n m r h = h

  pub reads_two : (n : ℕ) (r s : Recognition) → Reads rs i (of_two n r s) → (j : ℕ) × (k : ℕ) × (j < i) × (k < i) × (row_at rs i ≡ row n (pos j) (pos k) (start_of (of_two n r s)) (end_of (of_two n r s))) × Reads rs j r × Reads rs k s
  unfolding Reads
  reads_two n r s h = h
