-- The numbers of all refusals, computed by the checker. What must come out stands in document 01, "Who can be turned back, and with which number", and for
-- 17 and 18 in request N6. No contract says as much, since the code and its contract share the numbers.
use Rattle.std.proofs.Common.{◌≡◌, refl, List, [], ◌∷◌, map}
use Rattle.refusal.specs.Numbers.{number_of}
use Rattle.refusal.specs.declared.Refusal.TheVariants.{NoLine, ChartTooLong, MalformedEntry, EntryNotNext, OperandNotLower, OperandOutOfRange, MalformedCall, InstantRefused, TooManyPending, TooManyEvents, ForgetRefused, TableFull, Inconsistent, UnusableChart, NoSuchRow, TreeTooLong, ForgetMerged, OpeningsDiffer}

-- the chart's
chart : map number_of (NoLine ∷ ChartTooLong ∷ MalformedEntry ∷ EntryNotNext ∷ OperandNotLower ∷ OperandOutOfRange ∷ []) ≡ 1 ∷ 2 ∷ 3 ∷ 4 ∷ 5 ∷ 6 ∷ []
chart = refl

-- the log's, forgetting and the table
log : map number_of (MalformedCall ∷ InstantRefused ∷ TooManyPending ∷ TooManyEvents ∷ ForgetRefused ∷ TableFull ∷ []) ≡ 7 ∷ 8 ∷ 9 ∷ 10 ∷ 11 ∷ 12 ∷ []
log = refl

-- host programs'
host : map number_of (Inconsistent ∷ UnusableChart ∷ NoSuchRow ∷ TreeTooLong ∷ []) ≡ 13 ∷ 14 ∷ 15 ∷ 16 ∷ []
host = refl

-- the merge program's
merge : map number_of (ForgetMerged ∷ OpeningsDiffer ∷ []) ≡ 17 ∷ 18 ∷ []
merge = refl
