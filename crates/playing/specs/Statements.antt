-- What playing a merged log gives, against the reference model; proofs/Theorems.antt proves it. No proof stands here. Request N6: "The merged log, where playing it
-- meets no refusal, gives a table for exactly the events of both before its last mark."
use Rattle.std.specs.Prelude.{ℕ, suc, ◌≡◌, Bool, List, [], ◌∷◌, T, ℤ, pos, length, replicate}
use Rattle.std.specs.Int.Signed.{lt_z}
use Rattle.interval.specs.Instants.{first_floor}
use Rattle.text.specs.Text.{lines}
use Rattle.model.specs.Lists.{keep}
use Rattle.model.specs.Recognitions.{Event, Operator, are_lower}
use Rattle.model.specs.Order.{Row}
use Rattle.model.specs.Reference.{model, rows_of}
use Rattle.program.specs.Outcomes.{listed, play_log}
use Rattle.log_line.specs.Log.{calls_of}
use Rattle.logs.specs.Logs.{Group, log_of, merged_for}
use Rattle.logs.specs.Statements.{Timed, events_in, Mingled, Together, merged_log}

-- the events of a log with the serials that playing gives them, from n + 1 on
unfoldable pub numbered : ℕ → List Timed → List Event
numbered n [] = []
numbered n (e ∷ es) = record { serial = suc n; code = e.code; instant = e.instant } ∷ numbered (suc n) es

-- the last mark of a log, or its opening where it has none
unfoldable pub last_from : ℤ → List Group → ℤ
last_from t [] = t
last_from t (g ∷ gs) = last_from g.instant gs

unfoldable pub last_mark : List Group → ℤ
last_mark [] = pos 0
last_mark (g ∷ gs) = last_from g.instant gs

abbrev pub is_before : ℤ → Event → Bool
is_before t e = lt_z e.instant t

-- the rows of the reference model for these events, all entries counting from the opening floor, at open instant t
abbrev pub rows_for : List Operator → ℤ → List Event → List Row
rows_for ops t es = rows_of (model t first_floor ops (replicate (length ops) first_floor) es)

-- Two logs x and y, played as one under a chart: the events are those of both, each log's in its order, and the rows are the reference model's for those before the
-- last mark.
pub record GivesTable (ops : List Operator) (x y : List ℕ) (rows : List Row) : Type 0 where
  pub events : Mingled (events_in (log_of (calls_of x))) (events_in (log_of (calls_of y))) (events_in (merged_log x y))
  pub table : rows ≡ rows_for ops (last_mark (merged_log x y)) (keep (is_before (last_mark (merged_log x y))) (numbered 0 (events_in (merged_log x y))))

-- for every chart, every number of rows that the table can hold, and wherever the log begins in the input
abbrev pub PlayingHolds : Type 0
PlayingHolds =
    (ops : List Operator) → T (are_lower 0 ops) → (room n : ℕ) (x y : List ℕ) → Together x y → (entries : ℕ) (rows : List Row) →
    play_log ops room n (lines (merged_for x y)) ≡ listed entries rows → GivesTable ops x y rows
