-- What is claimed of merging in pieces; proofs/Theorems.antt proves it. No proof stands here.
use Rattle.std.specs.Prelude.{ℕ, ◌+◌, ◌≤◌, ◌<◌, ◌≡◌, Bool, true, false, cond, List, [], ◌++◌, eqb, ℤ, length, drop}
use Rattle.interval.specs.Instants.{eq_z}
use Rattle.log_line.specs.Log.{calls_of, line_of, line_most}
use Rattle.log_line.specs.declared.Call.TheVariants as log
use Rattle.logs.specs.Logs.{log_refusal, opened_in, merged_for}
use Rattle.logs.specs.Statements.{Together}
use Rattle.printing.specs.Listing.{refusal_text}
use Rattle.merging.specs.Merging.{rest_for}
use Rattle.merging.specs.Turns.{Steps, steps_of}
use Rattle.merging.specs.declared.Ended.{Ended}
use Rattle.merging.specs.declared.Want.{Want}

-- no more bytes come of a log that has ended
abbrev pub Comes : Bool → List ℕ → Type 0
Comes ended later = ended ≡ true → later ≡ []

-- Where one turn stops, with the bytes a and b there and room for so many in the output:
pub record TurnStops (ended : Ended) (a b : List ℕ) (room : ℕ) (r : Steps) : Type 0 where
  -- where nothing is wanted, nothing is left to print, whatever bytes come later
  pub over : r.want ≡ Want.Nothing → (x y : List ℕ) → Comes ended.first x → Comes ended.second y → rest_for r.instant (drop r.first a ++ x) (drop r.second b ++ y) ≡ []
  -- more of a log is wanted only where it has not ended and less than a whole line is left of it
  pub lacks_first : r.want ≡ Want.First → (ended.first ≡ false) × (length (drop r.first a) < 64)
  pub lacks_second : r.want ≡ Want.Second → (ended.second ≡ false) × (length (drop r.second b) < 64)
  -- room is wanted only where there is none for the longest line
  pub full : r.want ≡ Want.Room → room < length r.text + line_most
  pub in_first : r.first ≤ length a
  pub in_second : r.second ≤ length b

-- From instant now on, whatever bytes come later: what is written, and what is left to print then, are what was left to print.
pub record TurnHolds (ended : Ended) (a b : List ℕ) (now : ℤ) (room : ℕ) (r : Steps) : Type 0 where
  pub goes : (x y : List ℕ) → Comes ended.first x → Comes ended.second y → rest_for now (a ++ x) (b ++ y) ≡ r.text ++ rest_for r.instant (drop r.first a ++ x) (drop r.second b ++ y)
  pub stops : TurnStops ended a b room r

abbrev pub TurnsHold : Type 0
TurnsHold = (ended : Ended) (a b : List ℕ) (now : ℤ) (room : ℕ) → TurnHolds ended a b now room (steps_of ended a b room now)

-- What is printed for two logs that hold x and y while they are checked, and u and v while they are merged.
unfoldable pub printed_for : List ℕ → List ℕ → List ℕ → List ℕ → List ℕ
printed_for x y u v =
    cond (eqb (log_refusal (calls_of x)).number 0)
    (cond (eqb (log_refusal (calls_of y)).number 0)
    (cond (eq_z (opened_in (calls_of x)) (opened_in (calls_of y))) (line_of (log.Open (opened_in (calls_of x))) ++ rest_for (opened_in (calls_of x)) u v)
    (refusal_text 18 1))
    (refusal_text (log_refusal (calls_of y)).number (log_refusal (calls_of y)).line))
    (refusal_text (log_refusal (calls_of x)).number (log_refusal (calls_of x)).line)

-- Where the logs do not change in between, that is what the definition gives for them.
abbrev pub PrintsMerged : Type 0
PrintsMerged = (x y : List ℕ) → printed_for x y x y ≡ merged_for x y

-- Whatever they hold while they are merged, what is printed is a log that is taken.
abbrev pub AlwaysTaken : Type 0
AlwaysTaken = (x y u v : List ℕ) → Together x y → (log_refusal (calls_of (printed_for x y u v))).number ≡ 0
