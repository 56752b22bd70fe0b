-- The reference model, which document 01 calls the book: "fed the chart, the code or instant of each call and the number of rows the
-- table can hold; no answer, and nothing out of watch or table".
use Rattle.std.specs.Prelude.{ℕ, suc, Bool, cond, List, [], ◌∷◌, ◌++◌, eqb, ltb, leb, ℤ, pos, length, replicate}
use Rattle.interval.specs.Instants.{is_instant, first_floor, is_mark_refused, is_forget_refused, eq_z}
use Rattle.model.specs.Lists.{keep}
use Rattle.model.specs.Recognitions.{Event, Operator}
use Rattle.model.specs.Order.{Row, listing, as_rows}

-- "It has an open instant, a floor and a list of events, the nth with serial n", the chart as the last addition left it, and "it keeps each
-- entry's instant", that from which the entry counts (request N13).
pub record Model : Type 0 where
  pub open_instant : ℤ
  pub floor : ℤ
  pub chart : List Operator
  pub since : List ℤ
  pub events : List Event

abbrev pub model : ℤ → ℤ → List Operator → List ℤ → List Event → Model
model o f chart since es = record { open_instant = o; floor = f; chart = chart; since = since; events = es }

-- What a call answers: the number of the refusal, 0 for none, and the state after it. "A call turned back changes nothing."
pub record Answer (S : Type 0) : Type 0 where
  pub number : ℕ
  pub state : S

abbrev pub accepted : {S : Type 0} → S → Answer S
accepted s = record { number = 0; state = s }

abbrev pub refused : {S : Type 0} → ℕ → S → Answer S
refused n s = record { number = n; state = s }

-- "Accepted opening at o: open instant o, floor -1,000,000,000, no events"; each entry counts from "the opening floor".
-- Refused, 8, "an opening instant out of range": "an empty watch at instant 0: floor -1,000,000,000, counts 0, no events"; "an empty watch has
-- none" of the entries.
unfoldable pub opening : List Operator → ℤ → Answer Model
opening chart o =
    cond (is_instant o) (accepted (model o first_floor chart (replicate (length chart) first_floor) []))
    (refused 8 (model (pos 0) first_floor [] [] []))

-- the calls after the opening; an addition has lines, of any type
pub data Call (L : Type 0) : Type 0 where
  event : ℕ → Call L
  clock : ℤ → Call L
  forget : ℤ → Call L
  add : L → Call L

-- What a reader of lines says of them, the first being numbered so: "the chart reader's number", 0 for lines taken, and their operators.
pub record Reading : Type 0 where
  pub number : ℕ
  pub operators : List Operator

abbrev pub is_at : ℤ → Event → Bool
is_at o e = eq_z e.instant o

-- "Event k: 10 if there are 1,000,000 events; else 9 if 64 of them are at the open instant; else k is added at the open instant."
unfoldable pub event_step : Model → ℕ → Answer Model
event_step m k =
    cond (leb 1000000 (length m.events)) (refused 10 m)
    (cond (leb 64 (length (keep (is_at m.open_instant) m.events))) (refused 9 m)
    (accepted (model m.open_instant m.floor m.chart m.since (m.events ++ record { serial = suc (length m.events); code = k; instant = m.open_instant } ∷ []))))

-- "Clock mark t: 8 if out of range or not after the open instant; else 12 if the recognitions that end before t and start at the floor
-- or later are more than the rows the table can hold; else t is the open instant." It heeds each entry's instant with the floor.
unfoldable pub clock_step : ℕ → Model → ℤ → Answer Model
clock_step capacity m t =
    cond (is_mark_refused m.open_instant t) (refused 8 m)
    (cond (ltb capacity (length (listing m.chart m.since m.events m.floor t))) (refused 12 m)
    (accepted (model t m.floor m.chart m.since m.events)))

-- "Forget f: 11 if below the floor, above the open instant or out of range; else f is the floor."
unfoldable pub forget_step : Model → ℤ → Answer Model
forget_step m f =
    cond (is_forget_refused m.floor m.open_instant f) (refused 11 m)
    (accepted (model m.open_instant f m.chart m.since m.events))

-- entries "numbered on from the last entry", which count from "the open instant"
abbrev pub with_added : Model → List Operator → Model
with_added m new = model m.open_instant m.floor (m.chart ++ new) (m.since ++ replicate (length new) m.open_instant) m.events

-- "the book turns one back when its lines are bad or none, by the chart reader's number, and otherwise takes it"
unfoldable pub add_step : {L : Type 0} → (ℕ → L → Reading) → Model → L → Answer Model
add_step read m lines =
    let r : Reading = read (length m.chart) lines in
    cond (eqb r.number 0) (accepted (with_added m r.operators)) (refused r.number m)

abbrev pub step : {L : Type 0} → (ℕ → L → Reading) → ℕ → Model → Call L → Answer Model
step read capacity m (event k) = event_step m k
step read capacity m (clock t) = clock_step capacity m t
step read capacity m (forget f) = forget_step m f
step read capacity m (add lines) = add_step read m lines

-- A whole list of calls: the state after it, and the number that each was answered with.
module _ {S L : Type 0} (step : S → Call L → Answer S) where
  unfoldable pub run : S → List (Call L) → S
  run s [] = s
  run s (c ∷ cs) = run (step s c).state cs

  unfoldable pub numbers_of : S → List (Call L) → List ℕ
  numbers_of s [] = []
  numbers_of s (c ∷ cs) = (step s c).number ∷ numbers_of (step s c).state cs

-- "The book's rows": those of the listing at its floor and open instant
abbrev pub rows_of : Model → List Row
rows_of m = as_rows (listing m.chart m.since m.events m.floor m.open_instant)
