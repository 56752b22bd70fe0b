-- Each operator at its boundary, the misreadings that document 01 forbids, and each refusal: one list of cases, one theorem that the checker
-- computes. What must come out was found by hand from document 01 and request N2; where request N7 changes it, and for requests N1 and N5, by a plain
-- set-building program, and in `floors` by hand. P1 to P8 are computed from text in crate `program`.
use Prim.Native.Nat.{ℕ, suc, ◌<◌, ◌≤◌}
use mathlib.Core.Path.{◌≡◌, refl}
use mathlib.Core.List.{List, [], ◌∷◌, ◌++◌, map}
use borrow.Author.Tests.{le-leb, lt-leb}
use lib.IntN.{ℤ, pos, negsuc}
use lib.ListN.{length, replicate}
use Rattle.interval.specs.Instants.{is_instant, first_floor, is_mark_refused, is_forget_refused}
use Rattle.interval.specs.Conditions.{is_related, is_forbidding, has_length, is_rival_of_second, is_rival_of_first}
use Rattle.interval.specs.declared.Relation.TheVariants.{Seq, And, Meets, Overlaps, Starts, During, Finishes, Equals}
use Rattle.interval.specs.declared.Edges.{Edges}
use Rattle.interval.specs.declared.Edges.TheVariants.{ClosedClosed, OpenOpen, ClosedOpen, OpenClosed}
use Rattle.interval.specs.declared.Nearest.TheVariants.{Cut, Change}
use Rattle.interval.specs.declared.LengthTest.{LengthTest}
use Rattle.interval.specs.declared.LengthTest.TheVariants.{Lasts, AtMost, AtLeast}
use Rattle.model.specs.Lists.{keep}
use Rattle.model.specs.Recognitions as R
use Rattle.model.specs.Recognitions.{Operator, related, or, absence, lasting, after, nearest, recognitions_of, with_entries, recognitions}
use Rattle.model.specs.Capacity.{capacity}
use Rattle.model.specs.Order.{compare, listing, Row, row, none}
use Rattle.model.specs.RowSteps.{extend_rows, close_rows, due_ends, next_due, close_due}
use Rattle.model.specs.Reference.{Model, opening, Call, event, clock, forget, add, Reading, is_at, event_step, clock_step, forget_step, add_step, step, run, numbers_of, rows_of}

-- Here the lines of an addition are what the reader of lines says of them.
abbrev as_read : ℕ → Reading → Reading
as_read n lines = lines

-- A chart, the number of rows the table can hold, the opening instant and the calls; what must come out: the number that the opening and
-- each call is answered with, and the rows at the end.
pub record Case : Type 0 where
  pub chart : List Operator
  pub capacity : ℕ
  pub open_at : ℤ
  pub calls : List (Call Reading)
  pub answers : List ℕ
  pub rows : List Row

abbrev pub case : List Operator → ℕ → ℤ → List (Call Reading) → List ℕ → List Row → Case
case chart capacity o calls answers rows = record { chart = chart; capacity = capacity; open_at = o; calls = calls; answers = answers; rows = rows }

pub record Outcome : Type 0 where
  pub answers : List ℕ
  pub rows : List Row

abbrev pub outcome : Case → Outcome
outcome c =
    let a = opening c.chart c.open_at in
    record { answers = a.number ∷ numbers_of (step as_read c.capacity) a.state c.calls; rows = rows_of (run (step as_read c.capacity) a.state c.calls) }

abbrev pub expected : Case → Outcome
expected c = record { answers = c.answers; rows = c.rows }

-- an addition of these entries, and one that the reader of lines turns back
abbrev adding : List Operator → Call Reading
adding ops = add (record { number = 0; operators = ops })

abbrev misread : ℕ → Call Reading
misread n = add (record { number = n; operators = [] })

-- all accepted: the opening and n calls
abbrev taken : ℕ → List ℕ
taken n = replicate (suc n) 0

-- rows of instants from 0 on: with a left, with a left and a right, with a right reference
abbrev row_l : ℕ → ℕ → ℕ → ℕ → Row
row_l n l s e = row n (pos l) none (pos s) (pos e)

abbrev row_lr : ℕ → ℕ → ℕ → ℕ → ℕ → Row
row_lr n l r s e = row n (pos l) (pos r) (pos s) (pos e)

abbrev row_r : ℕ → ℕ → ℕ → ℕ → Row
row_r n r s e = row n none (pos r) (pos s) (pos e)

-- Row 1, of entry 0, is r, from 1 to 1; the rows of entry 3 are s: from 0 to 1, from 1 to 1, from 0 to 2, from 1 to 2. Entry 4 is looked at.
abbrev near_point : Operator → List Row → Case
near_point op rows = case (R.event 1 ∷ R.event 2 ∷ R.event 3 ∷ related And 1 2 ∷ op ∷ []) 3000 (pos 0) (event 2 ∷ clock (pos 1) ∷ event 1 ∷ event 2 ∷ event 3 ∷ clock (pos 2) ∷ event 3 ∷ clock (pos 3) ∷ []) (taken 8) rows

-- seq and a second meets go by the events of entries 1 and 2: at 0 and 1, at 1 and 2
abbrev relations : List Case
relations =
    near_point (related Seq 1 2) (row_l 1 1 0 0 ∷ row_l 0 2 1 1 ∷ row_l 1 3 1 1 ∷ row_l 2 4 1 1 ∷ row_lr 3 2 3 1 1 ∷ row_lr 3 0 3 0 1 ∷ row_lr 4 0 3 0 1 ∷ row_l 2 5 2 2 ∷ row_lr 3 2 7 1 2 ∷ row_lr 3 0 7 0 2 ∷ row_lr 4 2 7 1 2 ∷ row_lr 4 0 7 0 2 ∷ []) ∷
    near_point (related And 0 3) (row_l 1 1 0 0 ∷ row_l 0 2 1 1 ∷ row_l 1 3 1 1 ∷ row_l 2 4 1 1 ∷ row_lr 3 2 3 1 1 ∷ row_lr 3 0 3 0 1 ∷ row_lr 4 1 4 1 1 ∷ row_lr 4 1 5 0 1 ∷ row_l 2 5 2 2 ∷ row_lr 3 2 8 1 2 ∷ row_lr 3 0 8 0 2 ∷ row_lr 4 1 9 1 2 ∷ row_lr 4 1 10 0 2 ∷ []) ∷
    near_point (or 0 3) (row_l 1 1 0 0 ∷ row_l 0 2 1 1 ∷ row_l 1 3 1 1 ∷ row_l 2 4 1 1 ∷ row_lr 3 2 3 1 1 ∷ row_lr 3 0 3 0 1 ∷ row_l 4 1 1 1 ∷ row_r 4 4 1 1 ∷ row_r 4 5 0 1 ∷ row_l 2 5 2 2 ∷ row_lr 3 2 9 1 2 ∷ row_lr 3 0 9 0 2 ∷ row_r 4 10 1 2 ∷ row_r 4 11 0 2 ∷ []) ∷
    near_point (related Meets 0 3) (row_l 1 1 0 0 ∷ row_l 0 2 1 1 ∷ row_l 1 3 1 1 ∷ row_l 2 4 1 1 ∷ row_lr 3 2 3 1 1 ∷ row_lr 3 0 3 0 1 ∷ row_lr 4 1 4 1 1 ∷ row_l 2 5 2 2 ∷ row_lr 3 2 7 1 2 ∷ row_lr 3 0 7 0 2 ∷ row_lr 4 1 8 1 2 ∷ []) ∷
    near_point (related Meets 1 2) (row_l 1 1 0 0 ∷ row_l 0 2 1 1 ∷ row_l 1 3 1 1 ∷ row_l 2 4 1 1 ∷ row_lr 3 2 3 1 1 ∷ row_lr 3 0 3 0 1 ∷ row_lr 4 2 3 1 1 ∷ row_l 2 5 2 2 ∷ row_lr 3 2 7 1 2 ∷ row_lr 3 0 7 0 2 ∷ []) ∷
    near_point (related Starts 0 3) (row_l 1 1 0 0 ∷ row_l 0 2 1 1 ∷ row_l 1 3 1 1 ∷ row_l 2 4 1 1 ∷ row_lr 3 2 3 1 1 ∷ row_lr 3 0 3 0 1 ∷ row_l 2 5 2 2 ∷ row_lr 3 2 6 1 2 ∷ row_lr 3 0 6 0 2 ∷ row_lr 4 1 7 1 2 ∷ []) ∷
    near_point (related During 0 3) (row_l 1 1 0 0 ∷ row_l 0 2 1 1 ∷ row_l 1 3 1 1 ∷ row_l 2 4 1 1 ∷ row_lr 3 2 3 1 1 ∷ row_lr 3 0 3 0 1 ∷ row_l 2 5 2 2 ∷ row_lr 3 2 6 1 2 ∷ row_lr 3 0 6 0 2 ∷ row_lr 4 1 8 0 2 ∷ []) ∷
    near_point (related Finishes 0 3) (row_l 1 1 0 0 ∷ row_l 0 2 1 1 ∷ row_l 1 3 1 1 ∷ row_l 2 4 1 1 ∷ row_lr 3 2 3 1 1 ∷ row_lr 3 0 3 0 1 ∷ row_lr 4 1 5 0 1 ∷ row_l 2 5 2 2 ∷ row_lr 3 2 7 1 2 ∷ row_lr 3 0 7 0 2 ∷ []) ∷
    near_point (related Equals 0 3) (row_l 1 1 0 0 ∷ row_l 0 2 1 1 ∷ row_l 1 3 1 1 ∷ row_l 2 4 1 1 ∷ row_lr 3 2 3 1 1 ∷ row_lr 3 0 3 0 1 ∷ row_lr 4 1 4 1 1 ∷ row_l 2 5 2 2 ∷ row_lr 3 2 7 1 2 ∷ row_lr 3 0 7 0 2 ∷ []) ∷ []

-- overlaps: r, 6, from 0 to 2; of s, from 0, 1, 2 to 2 and from 0, 1, 2 to 3, only the one from 1 to 3
abbrev overlaps : List Case
overlaps =
    case (R.event 1 ∷ R.event 2 ∷ R.event 3 ∷ related Seq 0 0 ∷ related And 1 2 ∷ related Overlaps 3 4 ∷ []) 3000 (pos 0) (event 1 ∷ event 2 ∷ clock (pos 1) ∷ event 2 ∷ clock (pos 2) ∷ event 1 ∷ event 2 ∷ event 3 ∷ clock (pos 3) ∷ event 3 ∷ clock (pos 4) ∷ []) (taken 11)
    (row_l 0 1 0 0 ∷ row_l 1 2 0 0 ∷ row_l 1 3 1 1 ∷ row_l 0 4 2 2 ∷ row_l 1 5 2 2 ∷ row_l 2 6 2 2 ∷ row_lr 3 0 3 0 2 ∷ row_lr 4 4 5 2 2 ∷ row_lr 4 2 5 1 2 ∷ row_lr 4 1 5 0 2 ∷ row_l 2 7 3 3 ∷ row_lr 4 4 10 2 3 ∷ row_lr 4 2 10 1 3 ∷ row_lr 4 1 10 0 3 ∷ row_lr 5 6 12 0 3 ∷ []) ∷ []

-- Absences: s at 2; r from 1 to 2, where s is at the late edge; from 1 to 3, inside; from 2 to 3, at the early edge.
abbrev near_edges : Edges → List Row → Case
near_edges edges rows = case (R.event 1 ∷ R.event 2 ∷ related Seq 0 0 ∷ absence edges 2 1 ∷ []) 3000 (pos 1) (event 1 ∷ clock (pos 2) ∷ event 1 ∷ event 2 ∷ clock (pos 3) ∷ event 1 ∷ clock (pos 4) ∷ []) (taken 7) rows

-- in the last case -[] with s just before and just after r, from 1 to 3
abbrev absences : List Case
absences =
    near_edges ClosedClosed (row_l 0 1 1 1 ∷ row_l 0 2 2 2 ∷ row_l 1 3 2 2 ∷ row_lr 2 0 1 1 2 ∷ row_l 0 4 3 3 ∷ row_lr 2 1 4 2 3 ∷ row_lr 2 0 4 1 3 ∷ []) ∷
    near_edges OpenOpen (row_l 0 1 1 1 ∷ row_l 0 2 2 2 ∷ row_l 1 3 2 2 ∷ row_lr 2 0 1 1 2 ∷ row_l 3 3 1 2 ∷ row_l 0 4 3 3 ∷ row_lr 2 1 5 2 3 ∷ row_lr 2 0 5 1 3 ∷ row_l 3 6 2 3 ∷ []) ∷
    near_edges ClosedOpen (row_l 0 1 1 1 ∷ row_l 0 2 2 2 ∷ row_l 1 3 2 2 ∷ row_lr 2 0 1 1 2 ∷ row_l 3 3 1 2 ∷ row_l 0 4 3 3 ∷ row_lr 2 1 5 2 3 ∷ row_lr 2 0 5 1 3 ∷ []) ∷
    near_edges OpenClosed (row_l 0 1 1 1 ∷ row_l 0 2 2 2 ∷ row_l 1 3 2 2 ∷ row_lr 2 0 1 1 2 ∷ row_l 0 4 3 3 ∷ row_lr 2 1 4 2 3 ∷ row_lr 2 0 4 1 3 ∷ row_l 3 5 2 3 ∷ []) ∷
    case (R.event 1 ∷ R.event 2 ∷ related Seq 0 0 ∷ absence ClosedClosed 2 1 ∷ []) 3000 (pos 0) (event 2 ∷ clock (pos 1) ∷ event 1 ∷ clock (pos 3) ∷ event 1 ∷ clock (pos 4) ∷ event 2 ∷ clock (pos 5) ∷ []) (taken 8)
    (row_l 1 1 0 0 ∷ row_l 0 2 1 1 ∷ row_l 0 3 3 3 ∷ row_lr 2 1 2 1 3 ∷ row_l 3 3 1 3 ∷ row_l 1 4 4 4 ∷ []) ∷ []

-- lasts, atmost and atleast 5 on lengths 4, 5 and 6, the limit included (request N2)
abbrev lengths : List Case
lengths =
    tested Lasts (row_l 0 1 0 0 ∷ row_l 1 2 4 4 ∷ row_lr 2 0 1 0 4 ∷ row_l 1 3 5 5 ∷ row_lr 2 0 3 0 5 ∷ row_l 3 4 0 5 ∷ row_l 1 4 6 6 ∷ row_lr 2 0 6 0 6 ∷ []) ∷
    tested AtMost (row_l 0 1 0 0 ∷ row_l 1 2 4 4 ∷ row_lr 2 0 1 0 4 ∷ row_l 3 2 0 4 ∷ row_l 1 3 5 5 ∷ row_lr 2 0 4 0 5 ∷ row_l 3 5 0 5 ∷ row_l 1 4 6 6 ∷ row_lr 2 0 7 0 6 ∷ []) ∷
    tested AtLeast (row_l 0 1 0 0 ∷ row_l 1 2 4 4 ∷ row_lr 2 0 1 0 4 ∷ row_l 1 3 5 5 ∷ row_lr 2 0 3 0 5 ∷ row_l 3 4 0 5 ∷ row_l 1 4 6 6 ∷ row_lr 2 0 6 0 6 ∷ row_l 3 7 0 6 ∷ []) ∷ []
  where
    tested : LengthTest → List Row → Case
    tested t rows = case (R.event 1 ∷ R.event 2 ∷ related Seq 0 1 ∷ lasting t 2 5 ∷ []) 3000 (pos 0) (event 1 ∷ clock (pos 4) ∷ event 2 ∷ clock (pos 5) ∷ event 2 ∷ clock (pos 6) ∷ event 2 ∷ clock (pos 7) ∷ []) (taken 8) rows

-- event 1 on events of codes 0, 1 and 2, and an `and` and an `or` that lack their right operand. No entry names codes 0 and 2, and they
-- have their serials all the same.
abbrev codes : List Case
codes = case (R.event 1 ∷ R.event 3 ∷ related And 0 1 ∷ or 0 1 ∷ []) 3000 (pos 0) (event 0 ∷ event 1 ∷ event 2 ∷ clock (pos 1) ∷ []) (taken 4) (row_l 0 2 0 0 ∷ row_l 3 0 0 0 ∷ []) ∷ []

-- One entry's rows of one end: left row, then right row; the left arm first, each arm by row. The two arms would fall together in trees flattened to
-- sets of events. And one row may be both r and s: -[] 0 0 keeps none, -][ 0 0 each row of length 0.
abbrev orders : List Case
orders =
    twice (related And 0 0) (row_lr 1 0 0 0 0 ∷ row_lr 1 0 1 0 0 ∷ row_lr 1 1 0 0 0 ∷ row_lr 1 1 1 0 0 ∷ []) ∷
    twice (or 0 0) (row_l 1 0 0 0 ∷ row_l 1 1 0 0 ∷ row_r 1 0 0 0 ∷ row_r 1 1 0 0 ∷ []) ∷
    twice (absence ClosedClosed 0 0) [] ∷
    twice (absence OpenOpen 0 0) (row_l 1 0 0 0 ∷ row_l 1 1 0 0 ∷ []) ∷ []
  where
    twice : Operator → List Row → Case
    twice op rows = case (R.event 1 ∷ op ∷ []) 3000 (pos 0) (event 1 ∷ event 1 ∷ clock (pos 1) ∷ []) (taken 3) (row_l 0 1 0 0 ∷ row_l 0 2 0 0 ∷ rows)

-- "The tightest match first" (request N7): one entry's rows of one end, the later start first, then as document 01 has it; rows that refer to
-- them follow the new order; "after a forget too"
abbrev tightest : List Case
tightest =
    case chart7 3000 (pos 0) log7 (taken 7)
    (row_l 0 1 0 0 ∷ row_l 0 2 1 1 ∷ row_l 0 3 1 1 ∷ row_l 1 4 2 2 ∷ row_lr 2 1 3 1 2 ∷ row_lr 2 2 3 1 2 ∷ row_lr 2 0 3 0 2 ∷ row_l 3 4 1 2 ∷ row_l 3 5 1 2 ∷ row_r 3 4 1 2 ∷ row_r 3 5 1 2 ∷ row_l 3 6 0 2 ∷ row_r 3 6 0 2 ∷ []) ∷
    case chart7 3000 (pos 0) (log7 ++ forget (pos 1) ∷ []) (taken 8)
    (row_l 0 2 1 1 ∷ row_l 0 3 1 1 ∷ row_l 1 4 2 2 ∷ row_lr 2 0 2 1 2 ∷ row_lr 2 1 2 1 2 ∷ row_l 3 3 1 2 ∷ row_l 3 4 1 2 ∷ row_r 3 3 1 2 ∷ row_r 3 4 1 2 ∷ []) ∷ []
  where
    chart7 : List Operator
    chart7 = R.event 1 ∷ R.event 2 ∷ related Seq 0 1 ∷ or 2 2 ∷ []

    log7 : List (Call Reading)
    log7 = event 1 ∷ clock (pos 1) ∷ event 1 ∷ event 1 ∷ clock (pos 2) ∷ event 2 ∷ clock (pos 3) ∷ []

-- "A delay operator" (request N1): a jump over several due ends, each in order of end, a delay of a delay and one of 0; not due at its own
-- end, due after it; an event at a delayed end; what happens during the wait forbids; an end at 1,000,000,000 or later; a table full by
-- what a jump makes due; a wait begun before the floor
abbrev delays : List Case
delays =
    case (R.event 1 ∷ after 0 2 ∷ after 1 3 ∷ after 0 0 ∷ []) 3000 (pos 0) (event 1 ∷ clock (pos 1) ∷ event 1 ∷ clock (pos 10) ∷ []) (taken 4)
    (row_l 0 1 0 0 ∷ row_l 3 0 0 0 ∷ row_l 0 2 1 1 ∷ row_l 3 2 1 1 ∷ row_l 1 0 0 2 ∷ row_l 1 2 1 3 ∷ row_l 2 4 0 5 ∷ row_l 2 5 1 6 ∷ []) ∷
    case (R.event 1 ∷ after 0 5 ∷ []) 3000 (pos 0) (event 1 ∷ clock (pos 5) ∷ []) (taken 2)
    (row_l 0 1 0 0 ∷ []) ∷
    case (R.event 1 ∷ after 0 5 ∷ []) 3000 (pos 0) (event 1 ∷ clock (pos 5) ∷ clock (pos 6) ∷ []) (taken 3)
    (row_l 0 1 0 0 ∷ row_l 1 0 0 5 ∷ []) ∷
    case (R.event 1 ∷ R.event 2 ∷ after 0 2 ∷ related Finishes 1 2 ∷ related Seq 2 1 ∷ []) 3000 (pos 0) (event 1 ∷ clock (pos 2) ∷ event 2 ∷ clock (pos 3) ∷ event 2 ∷ clock (pos 4) ∷ []) (taken 6)
    (row_l 0 1 0 0 ∷ row_l 1 2 2 2 ∷ row_l 2 0 0 2 ∷ row_lr 3 1 2 0 2 ∷ row_l 1 3 3 3 ∷ row_lr 4 2 4 0 3 ∷ []) ∷
    case (R.event 1 ∷ R.event 2 ∷ after 0 5 ∷ absence ClosedClosed 2 1 ∷ []) 3000 (pos 0) (event 1 ∷ clock (pos 1) ∷ event 1 ∷ event 2 ∷ clock (pos 2) ∷ event 1 ∷ clock (pos 9) ∷ []) (taken 7)
    (row_l 0 1 0 0 ∷ row_l 0 2 1 1 ∷ row_l 1 3 1 1 ∷ row_l 0 4 2 2 ∷ row_l 2 0 0 5 ∷ row_l 2 1 1 6 ∷ row_l 2 3 2 7 ∷ row_l 3 6 2 7 ∷ []) ∷
    case (R.event 1 ∷ after 0 9 ∷ after 0 10 ∷ after 0 2000000000 ∷ []) 3000 (pos 999999990) (event 1 ∷ clock (pos 1000000000) ∷ []) (taken 2)
    (row_l 0 1 999999990 999999990 ∷ row_l 1 0 999999990 999999999 ∷ []) ∷
    case (R.event 1 ∷ after 0 2 ∷ after 1 3 ∷ []) 2 (pos 0) (event 1 ∷ clock (pos 5) ∷ clock (pos 6) ∷ []) (0 ∷ 0 ∷ 0 ∷ 12 ∷ [])
    (row_l 0 1 0 0 ∷ row_l 1 0 0 2 ∷ []) ∷
    case (R.event 1 ∷ after 0 2 ∷ []) 3000 (pos 0) (event 1 ∷ clock (pos 1) ∷ event 1 ∷ forget (pos 1) ∷ clock (pos 9) ∷ []) (taken 5)
    (row_l 0 2 1 1 ∷ row_l 1 0 1 3 ∷ []) ∷ []

-- "First after, last before" (request N5): ties of s all count, a later s does not, and change takes the last r only; r and s of one instant; s' that end
-- with s; an s' that starts at end r, which is a rival for an earlier r; document 003's A!((B D)||F), with a at 1, b at 2, f at 3 and d at 4: F, the
-- first by end, is taken at 3, and at 4 (B D), the first by start, withdraws nothing and makes nothing; document 003's A!(B D E) and (A B)!!D, each
-- recognized twice (remark 5); an r' that starts with r; an r' that starts earlier; an r' that ends where s starts; one entry as both operands; a floor between
-- two r; behind a delay; change in cut in an absence
abbrev nearests : List Case
nearests =
    case (R.event 1 ∷ R.event 2 ∷ nearest Cut 0 1 ∷ nearest Change 0 1 ∷ []) 3000 (pos 0) (event 1 ∷ clock (pos 1) ∷ event 1 ∷ clock (pos 3) ∷ event 2 ∷ event 2 ∷ clock (pos 4) ∷ event 2 ∷ clock (pos 5) ∷ []) (taken 9)
    (row_l 0 1 0 0 ∷ row_l 0 2 1 1 ∷ row_l 1 3 3 3 ∷ row_l 1 4 3 3 ∷ row_lr 2 1 2 1 3 ∷ row_lr 2 1 3 1 3 ∷ row_lr 2 0 2 0 3 ∷ row_lr 2 0 3 0 3 ∷ row_lr 3 1 2 1 3 ∷ row_lr 3 1 3 1 3 ∷ row_l 1 5 4 4 ∷ []) ∷
    case (R.event 1 ∷ R.event 2 ∷ nearest Cut 0 1 ∷ nearest Change 0 1 ∷ []) 3000 (pos 0) (event 1 ∷ event 2 ∷ clock (pos 1) ∷ []) (taken 3)
    (row_l 0 1 0 0 ∷ row_l 1 2 0 0 ∷ []) ∷
    case (R.event 1 ∷ R.event 2 ∷ R.event 3 ∷ related Seq 1 2 ∷ nearest Cut 0 3 ∷ []) 3000 (pos 0) (event 1 ∷ clock (pos 1) ∷ event 2 ∷ clock (pos 2) ∷ event 2 ∷ clock (pos 3) ∷ event 3 ∷ clock (pos 4) ∷ event 3 ∷ clock (pos 5) ∷ []) (taken 10)
    (row_l 0 1 0 0 ∷ row_l 1 2 1 1 ∷ row_l 1 3 2 2 ∷ row_l 2 4 3 3 ∷ row_lr 3 2 3 2 3 ∷ row_lr 3 1 3 1 3 ∷ row_lr 4 0 4 0 3 ∷ row_lr 4 0 5 0 3 ∷ row_l 2 5 4 4 ∷ row_lr 3 2 8 2 4 ∷ row_lr 3 1 8 1 4 ∷ []) ∷
    case (R.event 1 ∷ R.event 2 ∷ R.event 3 ∷ R.event 4 ∷ R.event 5 ∷ related Seq 1 2 ∷ related Seq 3 4 ∷ or 5 6 ∷ nearest Cut 0 7 ∷ []) 3000 (pos 0) (event 1 ∷ clock (pos 1) ∷ event 1 ∷ event 2 ∷ clock (pos 2) ∷ event 4 ∷ clock (pos 3) ∷ event 3 ∷ clock (pos 4) ∷ event 5 ∷ clock (pos 5) ∷ []) (taken 11)
    (row_l 0 1 0 0 ∷ row_l 0 2 1 1 ∷ row_l 1 3 1 1 ∷ row_l 3 4 2 2 ∷ row_l 2 5 3 3 ∷ row_lr 5 2 4 1 3 ∷ row_l 7 5 1 3 ∷ row_lr 8 0 6 0 3 ∷ row_l 4 6 4 4 ∷ row_lr 6 3 8 2 4 ∷ row_r 7 9 2 4 ∷ row_lr 8 1 10 1 4 ∷ []) ∷
    case (R.event 1 ∷ R.event 2 ∷ R.event 3 ∷ R.event 4 ∷ related Seq 1 3 ∷ or 4 2 ∷ nearest Cut 0 5 ∷ []) 3000 (pos 1) (event 1 ∷ clock (pos 2) ∷ event 2 ∷ clock (pos 3) ∷ event 3 ∷ clock (pos 4) ∷ event 4 ∷ clock (pos 5) ∷ []) (taken 8)
    (row_l 0 1 1 1 ∷ row_l 1 2 2 2 ∷ row_l 2 3 3 3 ∷ row_r 5 2 3 3 ∷ row_lr 6 0 3 1 3 ∷ row_l 3 4 4 4 ∷ row_lr 4 1 5 2 4 ∷ row_l 5 6 2 4 ∷ []) ∷
    case (R.event 1 ∷ R.event 2 ∷ R.event 3 ∷ R.event 4 ∷ related Seq 1 2 ∷ related Seq 4 3 ∷ nearest Cut 0 5 ∷ []) 3000 (pos 1) (event 1 ∷ clock (pos 2) ∷ event 2 ∷ clock (pos 3) ∷ event 3 ∷ clock (pos 4) ∷ event 3 ∷ clock (pos 5) ∷ event 4 ∷ clock (pos 6) ∷ event 4 ∷ clock (pos 7) ∷ []) (taken 12)
    (row_l 0 1 1 1 ∷ row_l 1 2 2 2 ∷ row_l 2 3 3 3 ∷ row_lr 4 1 2 2 3 ∷ row_l 2 4 4 4 ∷ row_lr 4 1 4 2 4 ∷ row_l 3 5 5 5 ∷ row_lr 5 3 6 2 5 ∷ row_lr 5 5 6 2 5 ∷ row_lr 6 0 7 1 5 ∷ row_lr 6 0 8 1 5 ∷ row_l 3 6 6 6 ∷ row_lr 5 3 11 2 6 ∷ row_lr 5 5 11 2 6 ∷ []) ∷
    case (R.event 1 ∷ R.event 2 ∷ R.event 3 ∷ related Seq 0 1 ∷ nearest Change 3 2 ∷ []) 3000 (pos 1) (event 1 ∷ clock (pos 2) ∷ event 1 ∷ clock (pos 3) ∷ event 2 ∷ clock (pos 4) ∷ event 3 ∷ clock (pos 5) ∷ event 3 ∷ clock (pos 6) ∷ []) (taken 10)
    (row_l 0 1 1 1 ∷ row_l 0 2 2 2 ∷ row_l 1 3 3 3 ∷ row_lr 3 1 2 2 3 ∷ row_lr 3 0 2 1 3 ∷ row_l 2 4 4 4 ∷ row_lr 4 3 5 2 4 ∷ row_lr 4 4 5 1 4 ∷ row_l 2 5 5 5 ∷ []) ∷
    case (R.event 1 ∷ R.event 2 ∷ R.event 3 ∷ related Seq 0 1 ∷ nearest Cut 3 2 ∷ nearest Change 3 2 ∷ []) 3000 (pos 0) (event 1 ∷ clock (pos 1) ∷ event 2 ∷ clock (pos 2) ∷ event 2 ∷ clock (pos 3) ∷ event 3 ∷ clock (pos 4) ∷ []) (taken 8)
    (row_l 0 1 0 0 ∷ row_l 1 2 1 1 ∷ row_lr 3 0 1 0 1 ∷ row_l 1 3 2 2 ∷ row_lr 3 0 3 0 2 ∷ row_l 2 4 3 3 ∷ row_lr 4 2 5 0 3 ∷ row_lr 4 4 5 0 3 ∷ row_lr 5 4 5 0 3 ∷ []) ∷
    case (R.event 1 ∷ R.event 2 ∷ R.event 3 ∷ R.event 4 ∷ R.event 5 ∷ related Seq 0 1 ∷ related Seq 2 3 ∷ or 5 6 ∷ nearest Change 7 4 ∷ []) 3000 (pos 1) (event 1 ∷ clock (pos 2) ∷ event 3 ∷ clock (pos 3) ∷ event 4 ∷ clock (pos 4) ∷ event 2 ∷ clock (pos 5) ∷ event 5 ∷ clock (pos 6) ∷ []) (taken 10)
    (row_l 0 1 1 1 ∷ row_l 2 2 2 2 ∷ row_l 3 3 3 3 ∷ row_lr 6 1 2 2 3 ∷ row_r 7 3 2 3 ∷ row_l 1 4 4 4 ∷ row_lr 5 0 5 1 4 ∷ row_l 7 6 1 4 ∷ row_l 4 5 5 5 ∷ row_lr 8 4 8 2 5 ∷ row_lr 8 7 8 1 5 ∷ []) ∷
    case (R.event 1 ∷ R.event 2 ∷ nearest Change 0 1 ∷ []) 3000 (pos 0) (event 1 ∷ clock (pos 1) ∷ event 1 ∷ event 2 ∷ clock (pos 2) ∷ event 2 ∷ clock (pos 3) ∷ []) (taken 7)
    (row_l 0 1 0 0 ∷ row_l 0 2 1 1 ∷ row_l 1 3 1 1 ∷ row_lr 2 0 2 0 1 ∷ row_l 1 4 2 2 ∷ row_lr 2 1 4 1 2 ∷ []) ∷
    case (R.event 1 ∷ nearest Cut 0 0 ∷ nearest Change 0 0 ∷ []) 3000 (pos 0) (event 1 ∷ clock (pos 1) ∷ event 1 ∷ clock (pos 2) ∷ event 1 ∷ clock (pos 3) ∷ []) (taken 6)
    (row_l 0 1 0 0 ∷ row_l 0 2 1 1 ∷ row_lr 1 0 1 0 1 ∷ row_lr 2 0 1 0 1 ∷ row_l 0 3 2 2 ∷ row_lr 1 1 4 1 2 ∷ row_lr 2 1 4 1 2 ∷ []) ∷
    case (R.event 1 ∷ R.event 2 ∷ nearest Cut 0 1 ∷ nearest Change 0 1 ∷ []) 3000 (pos 0) (event 1 ∷ clock (pos 1) ∷ event 1 ∷ clock (pos 2) ∷ forget (pos 1) ∷ event 2 ∷ clock (pos 3) ∷ []) (taken 7)
    (row_l 0 2 1 1 ∷ row_l 1 3 2 2 ∷ row_lr 2 0 1 1 2 ∷ row_lr 3 0 1 1 2 ∷ []) ∷
    case (R.event 1 ∷ R.event 2 ∷ after 0 2 ∷ nearest Cut 2 1 ∷ []) 3000 (pos 0) (event 1 ∷ clock (pos 1) ∷ event 2 ∷ clock (pos 2) ∷ event 2 ∷ clock (pos 3) ∷ event 2 ∷ clock (pos 4) ∷ event 2 ∷ clock (pos 5) ∷ []) (taken 10)
    (row_l 0 1 0 0 ∷ row_l 1 2 1 1 ∷ row_l 1 3 2 2 ∷ row_l 2 0 0 2 ∷ row_l 1 4 3 3 ∷ row_lr 3 3 4 0 3 ∷ row_l 1 5 4 4 ∷ []) ∷
    case (R.event 1 ∷ R.event 2 ∷ R.event 3 ∷ nearest Change 0 1 ∷ nearest Cut 3 2 ∷ absence ClosedClosed 4 1 ∷ []) 3000 (pos 0) (event 1 ∷ clock (pos 1) ∷ event 1 ∷ clock (pos 2) ∷ event 2 ∷ clock (pos 3) ∷ event 3 ∷ clock (pos 4) ∷ event 2 ∷ clock (pos 5) ∷ event 3 ∷ clock (pos 6) ∷ []) (taken 12)
    (row_l 0 1 0 0 ∷ row_l 0 2 1 1 ∷ row_l 1 3 2 2 ∷ row_lr 3 1 2 1 2 ∷ row_l 2 4 3 3 ∷ row_lr 4 3 4 1 3 ∷ row_l 1 5 4 4 ∷ row_l 2 6 5 5 ∷ []) ∷ []

-- "New entries on a running bench" (request N13): pending events count and earlier ones do not; an addition turned back; two additions, each
-- from its own instant; a wait begun before the addition and one begun after it; an absence and a cut, and a floor; what does not count takes
-- no room
abbrev additions : List Case
additions =
    case (R.event 1 ∷ []) 3000 (pos 0) (event 1 ∷ clock (pos 2) ∷ event 1 ∷ adding (R.event 1 ∷ related And 0 0 ∷ related Seq 0 0 ∷ []) ∷ event 1 ∷ clock (pos 3) ∷ event 1 ∷ clock (pos 4) ∷ []) (taken 8)
    (row_l 0 1 0 0 ∷ row_l 0 2 2 2 ∷ row_l 0 3 2 2 ∷ row_l 1 2 2 2 ∷ row_l 1 3 2 2 ∷ row_lr 2 1 1 2 2 ∷ row_lr 2 1 2 2 2 ∷ row_lr 2 2 1 2 2 ∷ row_lr 2 2 2 2 2 ∷ row_l 0 4 3 3 ∷ row_l 1 4 3 3 ∷ row_lr 2 9 9 3 3 ∷ row_lr 2 1 9 2 3 ∷ row_lr 2 2 9 2 3 ∷ row_lr 2 9 1 2 3 ∷ row_lr 2 9 2 2 3 ∷ row_lr 3 1 9 2 3 ∷ row_lr 3 2 9 2 3 ∷ []) ∷
    case (R.event 1 ∷ []) 3000 (pos 0) (event 1 ∷ misread 3 ∷ misread 1 ∷ clock (pos 1) ∷ misread 2 ∷ []) (0 ∷ 0 ∷ 3 ∷ 1 ∷ 0 ∷ 2 ∷ [])
    (row_l 0 1 0 0 ∷ []) ∷
    case (R.event 1 ∷ []) 3000 (pos 0) (event 1 ∷ clock (pos 1) ∷ event 1 ∷ adding (or 0 0 ∷ []) ∷ clock (pos 2) ∷ event 1 ∷ adding (related Meets 0 1 ∷ []) ∷ clock (pos 3) ∷ event 1 ∷ clock (pos 4) ∷ []) (taken 10)
    (row_l 0 1 0 0 ∷ row_l 0 2 1 1 ∷ row_l 1 1 1 1 ∷ row_r 1 1 1 1 ∷ row_l 0 3 2 2 ∷ row_l 1 4 2 2 ∷ row_r 1 4 2 2 ∷ row_lr 2 4 5 2 2 ∷ row_lr 2 4 6 2 2 ∷ row_l 0 4 3 3 ∷ row_l 1 9 3 3 ∷ row_r 1 9 3 3 ∷ row_lr 2 9 10 3 3 ∷ row_lr 2 9 11 3 3 ∷ []) ∷
    case (R.event 1 ∷ []) 3000 (pos 0) (event 1 ∷ clock (pos 3) ∷ adding (after 0 5 ∷ []) ∷ event 1 ∷ clock (pos 20) ∷ []) (taken 5)
    (row_l 0 1 0 0 ∷ row_l 0 2 3 3 ∷ row_l 1 1 3 8 ∷ []) ∷
    case (R.event 1 ∷ R.event 2 ∷ []) 3000 (pos 0) (event 1 ∷ event 2 ∷ clock (pos 1) ∷ adding (absence ClosedClosed 0 1 ∷ nearest Cut 0 1 ∷ []) ∷ event 1 ∷ clock (pos 2) ∷ event 1 ∷ forget (pos 2) ∷ clock (pos 3) ∷ event 2 ∷ clock (pos 4) ∷ []) (taken 11)
    (row_l 0 4 2 2 ∷ row_l 2 0 2 2 ∷ row_l 1 5 3 3 ∷ row_lr 3 0 2 2 3 ∷ []) ∷
    case (R.event 1 ∷ []) 3 (pos 0) (event 1 ∷ clock (pos 1) ∷ adding (related And 0 0 ∷ []) ∷ event 1 ∷ clock (pos 2) ∷ event 1 ∷ clock (pos 3) ∷ []) (0 ∷ 0 ∷ 0 ∷ 0 ∷ 0 ∷ 0 ∷ 0 ∷ 12 ∷ [])
    (row_l 0 1 0 0 ∷ row_l 0 2 1 1 ∷ row_lr 1 1 1 1 1 ∷ []) ∷ []

-- An absence is not decided while its last instant is open: nothing stands there yet; a forbidding event may still come; once the
-- instant is closed none comes too late.
abbrev open_instants : List Case
open_instants =
    waiting (event 1 ∷ []) 1 [] ∷
    waiting (event 1 ∷ event 2 ∷ clock (pos 1) ∷ []) 3 (row_l 0 1 0 0 ∷ row_l 1 2 0 0 ∷ []) ∷
    waiting (event 1 ∷ clock (pos 1) ∷ event 2 ∷ clock (pos 2) ∷ []) 4 (row_l 0 1 0 0 ∷ row_l 2 0 0 0 ∷ row_l 1 2 1 1 ∷ []) ∷ []
  where
    waiting : List (Call Reading) → ℕ → List Row → Case
    waiting calls n rows = case (R.event 1 ∷ R.event 2 ∷ absence ClosedClosed 0 1 ∷ []) 3000 (pos 0) calls (taken n) rows

-- "A forget f raises the floor to f, drops every row that starts before f, moves the others down in order, renumbers their references": not those that
-- end before f. There are events at 0, 2 and 4.
abbrev floors : List Case
floors =
    forgotten (pos 0) (row_l 0 1 0 0 ∷ row_l 0 2 2 2 ∷ row_lr 1 0 1 0 2 ∷ row_l 0 3 4 4 ∷ row_lr 1 1 3 2 4 ∷ row_lr 1 0 3 0 4 ∷ []) ∷
    forgotten (pos 1) (row_l 0 2 2 2 ∷ row_l 0 3 4 4 ∷ row_lr 1 0 1 2 4 ∷ []) ∷
    forgotten (pos 2) (row_l 0 2 2 2 ∷ row_l 0 3 4 4 ∷ row_lr 1 0 1 2 4 ∷ []) ∷
    forgotten (pos 3) (row_l 0 3 4 4 ∷ []) ∷ []
  where
    forgotten : ℤ → List Row → Case
    forgotten f rows = case (R.event 1 ∷ related Seq 0 0 ∷ []) 3000 (pos 0) (event 1 ∷ clock (pos 2) ∷ event 1 ∷ clock (pos 4) ∷ event 1 ∷ clock (pos 5) ∷ forget f ∷ []) (taken 7) rows

-- "12 table full: the due rows, old and new together, exceed the rows the table can hold": one row fits, two do not; after a forget the second
-- one fits. "8 before 12": where a mark in range is refused with 12, one out of range or not after the open instant is refused with 8.
abbrev full_tables : List Case
full_tables =
    case (R.event 1 ∷ []) 1 (pos 0) (event 1 ∷ clock (pos 1) ∷ event 1 ∷ clock (pos 2) ∷ forget (pos 1) ∷ clock (pos 2) ∷ []) (0 ∷ 0 ∷ 0 ∷ 0 ∷ 12 ∷ 0 ∷ 0 ∷ []) (row_l 0 2 1 1 ∷ []) ∷
    case (R.event 1 ∷ []) 0 (pos 0) (event 1 ∷ clock (pos 1) ∷ clock (pos 1000000001) ∷ clock (pos 0) ∷ clock (pos 1000000000) ∷ []) (0 ∷ 0 ∷ 12 ∷ 8 ∷ 8 ∷ 12 ∷ []) [] ∷ []

-- Refusals. 8: an opening out of range; a clock mark not after the open instant or out of range.
-- 9: a 65th event in one instant. 11: a forget above the open instant, below the floor or out of range; at the open instant and at the floor it is
-- taken, and the pending event stays.
abbrev refusals : List Case
refusals =
    case (R.event 1 ∷ []) 3000 (pos 1000000001) [] (8 ∷ []) [] ∷
    case (R.event 1 ∷ []) 3000 (negsuc 1000000000) [] (8 ∷ []) [] ∷
    case (R.event 1 ∷ []) 3000 (negsuc 999999999) (clock (negsuc 999999999) ∷ clock (negsuc 1000000000) ∷ clock (negsuc 999999998) ∷ clock (pos 1000000001) ∷ clock (pos 1000000000) ∷ []) (0 ∷ 8 ∷ 8 ∷ 0 ∷ 8 ∷ 0 ∷ []) [] ∷
    case (R.event 2 ∷ []) 0 (pos 0) (replicate 65 (event 1) ++ clock (pos 1) ∷ event 1 ∷ []) (taken 64 ++ 9 ∷ 0 ∷ 0 ∷ []) [] ∷
    case (R.event 1 ∷ []) 3000 (pos 0) (event 1 ∷ forget (negsuc 1000000000) ∷ forget (negsuc 999999999) ∷ forget (pos 1) ∷ forget (pos 0) ∷ forget (pos 0) ∷ forget (negsuc 0) ∷ clock (pos 1) ∷ []) (0 ∷ 0 ∷ 11 ∷ 0 ∷ 11 ∷ 0 ∷ 0 ∷ 11 ∷ 0 ∷ []) (row_l 0 1 0 0 ∷ []) ∷ []

pub cases : List Case
cases = relations ++ overlaps ++ absences ++ lengths ++ codes ++ orders ++ tightest ++ delays ++ nearests ++ additions ++ open_instants ++ floors ++ full_tables ++ refusals

pub examples : map outcome cases ≡ map expected cases
unfolding cases opening event_step clock_step forget_step add_step run numbers_of listing compare recognitions with_entries recognitions_of is_instant first_floor is_mark_refused is_forget_refused is_related is_forbidding has_length is_rival_of_second is_rival_of_first
examples = refl

-- "length divided by 5 rows, rounded down, and never more than 65,535"
pub capacities : map capacity (0 ∷ 4 ∷ 5 ∷ 9 ∷ 10 ∷ 327674 ∷ 327675 ∷ 327680 ∷ []) ≡ 0 ∷ 0 ∷ 1 ∷ 1 ∷ 2 ∷ 65534 ∷ 65535 ∷ 65535 ∷ []
unfolding capacity
capacities = refl

-- 10: "if there are 1,000,000 events; else 9"
pub serials_spent : (m : Model) (k : ℕ) → 1000000 ≤ length m.events → (event_step m k).number ≡ 10
unfolding event_step
serials_spent m k h = rw (le-leb 1000000 (length m.events) h)

pub serials_left : (m : Model) (k : ℕ) → length m.events < 1000000 → length (keep (is_at m.open_instant) m.events) < 64 → (event_step m k).number ≡ 0
unfolding event_step
serials_left m k h l = rw (lt-leb 1000000 (length m.events) h, lt-leb 64 (length (keep (is_at m.open_instant) m.events)) l)

-- a jump over 1,000,000,000 instants closes four of them
pub long_jump : close_due 9 (pos 0) (pos 1000000000) (record { serial = 1; code = 1; instant = pos 0 } ∷ []) (R.event 1 ∷ after 0 2 ∷ after 1 3 ∷ after 0 999999999 ∷ after 0 1000000000 ∷ []) (replicate 5 first_floor) [] ≡
    row_l 0 1 0 0 ∷ row_l 1 0 0 2 ∷ row_l 2 1 0 5 ∷ row_l 3 0 0 999999999 ∷ []
unfolding close_due next_due due_ends close_rows extend_rows first_floor
long_jump = refl
