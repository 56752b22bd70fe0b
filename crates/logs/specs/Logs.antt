-- Whole logs: what a log is turned away for, what one is that is taken, and two of them in one. Request N6: "prints one: instants ascending, each event at
-- its own instant, at equal instants the first log's events before the second's, each log's own order preserved. The opening instant is the common
-- one. Every instant after the opening with an event or a mark in either log gets one mark."
use Rattle.std.specs.Prelude.{ℕ, suc, cond, List, [], ◌∷◌, ◌++◌, map, eqb, ℤ, pos, Option, Some, None}
use Rattle.std.specs.Int.Signed.{lt_z}
use Rattle.interval.specs.Instants.{is_instant, is_mark_refused, eq_z}
use Rattle.log_line.specs.Log.{calls_of, line_of}
use Rattle.log_line.specs.declared.Call.{Call}
use Rattle.log_line.specs.declared.Call.TheVariants as log
use Rattle.printing.specs.Listing.{refusal_text}

-- What a log is turned away for, its number and its line; both are 0 where it is taken.
pub record Refusal : Type 0 where
  pub number : ℕ
  pub line : ℕ

abbrev pub refusal : ℕ → ℕ → Refusal
refusal n line = record { number = n; line = line }

-- the first line: "7 ... `open` missing", "8 an opening instant out of range"
unfoldable pub opening_refusal : Option Call → ℕ
opening_refusal (Some (log.Open o)) = cond (is_instant o) 0 8
opening_refusal None = 7
opening_refusal (Some (log.Event k)) = 7
opening_refusal (Some (log.Clock t)) = 7
opening_refusal (Some (log.Forget f)) = 7

-- every other line, at open instant t: "7 a log line not of its form ..., `open` ... repeated"; "17 a line that is a forget, in each line after 7 and
-- before 8"; "8 ... a clock mark out of range or not after the open instant". "7, 17 and 8 alone": neither 9 nor 10.
unfoldable pub line_refusal : ℤ → Option Call → ℕ
line_refusal t None = 7
line_refusal t (Some (log.Open o)) = 7
line_refusal t (Some (log.Forget f)) = 17
line_refusal t (Some (log.Event k)) = 0
line_refusal t (Some (log.Clock u)) = cond (is_mark_refused t u) 8 0

-- the open instant after a line that is taken
unfoldable pub instant_after : ℤ → Option Call → ℤ
instant_after t None = t
instant_after t (Some (log.Open o)) = t
instant_after t (Some (log.Forget f)) = t
instant_after t (Some (log.Event k)) = t
instant_after t (Some (log.Clock u)) = u

-- the lines behind the opening, from line n on
unfoldable pub lines_refusal : ℤ → ℕ → List (Option Call) → Refusal
lines_refusal t n [] = refusal 0 0
lines_refusal t n (c ∷ cs) = cond (eqb (line_refusal t c) 0) (lines_refusal (instant_after t c) (suc n) cs) (refusal (line_refusal t c) n)

-- the instant of the opening
unfoldable pub opened_by : Option Call → ℤ
opened_by (Some (log.Open o)) = o
opened_by None = pos 0
opened_by (Some (log.Event k)) = pos 0
opened_by (Some (log.Clock t)) = pos 0
opened_by (Some (log.Forget f)) = pos 0

unfoldable pub opened_in : List (Option Call) → ℤ
opened_in [] = pos 0
opened_in (c ∷ cs) = opened_by c

-- a whole log; an empty one lacks its first line
unfoldable pub log_refusal : List (Option Call) → Refusal
log_refusal [] = refusal 7 1
log_refusal (c ∷ cs) = cond (eqb (opening_refusal c) 0) (lines_refusal (opened_by c) 2 cs) (refusal (opening_refusal c) 1)

-- What stands behind the opening of a log: codes and marks. Opening lines are passed over; a line that is turned away ends it.
pub data Item : Type 0 where
  code : ℕ → Item
  mark : ℤ → Item

unfoldable pub items_of : List (Option Call) → List Item
items_of [] = []
items_of (Some (log.Open o) ∷ cs) = items_of cs
items_of (Some (log.Event k) ∷ cs) = code k ∷ items_of cs
items_of (Some (log.Clock t) ∷ cs) = mark t ∷ items_of cs
items_of (None ∷ cs) = []
items_of (Some (log.Forget f) ∷ cs) = []

-- the calls of their lines
unfoldable pub call_for : Item → Call
call_for (code k) = log.Event k
call_for (mark t) = log.Clock t

-- A log that is taken: its opening instant and then the instants of its marks, each with the codes of the events there.
pub record Group : Type 0 where
  pub instant : ℤ
  pub codes : List ℕ

abbrev pub group : ℤ → List ℕ → Group
group t ks = record { instant = t; codes = ks }

-- the codes before the first mark, and the groups from there on
unfoldable pub codes_first : List Item → List ℕ
codes_first [] = []
codes_first (code k ∷ is) = k ∷ codes_first is
codes_first (mark t ∷ is) = []

unfoldable pub groups_after : List Item → List Group
groups_after [] = []
groups_after (code k ∷ is) = groups_after is
groups_after (mark t ∷ is) = group t (codes_first is) ∷ groups_after is

abbrev pub groups_from : ℤ → List Item → List Group
groups_from o is = group o (codes_first is) ∷ groups_after is

unfoldable pub log_of : List (Option Call) → List Group
log_of cs = groups_from (opened_in cs) (items_of cs)

-- Two ascending lists of groups in one: the earlier group first, and of equal instants one group, the first list's codes before the second's.
-- `merge_with a rest` puts a in its place among those of the second list; rest merges what follows a in the first.
unfoldable pub merge_with : Group → (List Group → List Group) → List Group → List Group
merge_with a rest [] = a ∷ rest []
merge_with a rest (b ∷ bs) =
    cond (lt_z a.instant b.instant) (a ∷ rest (b ∷ bs))
    (cond (lt_z b.instant a.instant) (b ∷ merge_with a rest bs)
    (group a.instant (a.codes ++ b.codes) ∷ rest bs))

unfoldable pub merge : List Group → List Group → List Group
merge [] bs = bs
merge (a ∷ rest) bs = merge_with a (merge rest) bs

-- A log as the calls of its lines, and its text.
unfoldable pub marks_calls : List Group → List Call
marks_calls [] = []
marks_calls (g ∷ gs) = log.Clock g.instant ∷ map log.Event g.codes ++ marks_calls gs

unfoldable pub log_calls : List Group → List Call
log_calls [] = []
log_calls (g ∷ gs) = log.Open g.instant ∷ map log.Event g.codes ++ marks_calls gs

unfoldable pub text_of : List Call → List ℕ
text_of [] = []
text_of (c ∷ cs) = line_of c ++ text_of cs

abbrev pub log_text : List Group → List ℕ
log_text gs = text_of (log_calls gs)

-- "The first log is checked wholly before the second, each for 7, 17 and 8 alone"; "18 opening instants that differ, checked after all lines",
-- "1 for 18"
pub data Outcome : Type 0 where
  merged : List Group → Outcome
  refused : Refusal → Outcome

unfoldable pub outcome_of : List (Option Call) → List (Option Call) → Outcome
outcome_of a b =
    cond (eqb (log_refusal a).number 0)
    (cond (eqb (log_refusal b).number 0)
    (cond (eq_z (opened_in a) (opened_in b)) (merged (merge (log_of a) (log_of b)))
    (refused (refusal 18 1)))
    (refused (log_refusal b)))
    (refused (log_refusal a))

-- "A refusal prints only the `refused` line, with the line counted in its own log"
unfoldable pub outcome_text : Outcome → List ℕ
outcome_text (merged gs) = log_text gs
outcome_text (refused r) = refusal_text r.number r.line

-- the bytes printed for two whole logs
unfoldable pub merged_for : List ℕ → List ℕ → List ℕ
merged_for x y = outcome_text (outcome_of (calls_of x) (calls_of y))
