-- What the theorems say; proofs/Theorems.antt proves each statement. No proof stands here. `T b` says that the test b is true.
use Rattle.std.specs.Prelude.{ℕ, zero, suc, ◌<◌, ◌≤◌, ◌≡◌, ◌⊎◌, ◌↔◌, Bool, T, ℤ, pos, length, replicate}
use mathlib.Core.List.{List, [], ◌∷◌, ◌++◌, map, Memᴰ}
use Rattle.std.specs.Int.Signed.{lt_z, le_z}
use Rattle.interval.specs.Instants.{first_floor}
use Rattle.interval.specs.declared.Relation.TheVariants.{Seq}
use Rattle.interval.specs.declared.Nearest.{Nearest}
use Rattle.model.specs.Lists.{keep, numbers}
use Rattle.model.specs.Recognitions.{Event, Operator, event, related, or, absence, lasting, after, nearest, are_lower, only, left, right, delayed, Recognition, of_event, of_one, of_two, entry_of, start_of, end_of, are_related, forbids, rivals_second, rivals_first, is_lasting, are_nearest, of_entry, recognitions}
use Rattle.model.specs.Order.{before, since_of, listing, Row, row, none, left_of, right_of, as_rows}
use Rattle.model.specs.Reference.{Model, Call, Reading, opening, step, run, numbers_of}
use Rattle.model.specs.RowSteps.{row_at, close_rows, close_instants, instants_to, due_ends, next_due, close_due, Watch, watch_opening, watch_step, shown}
use Rattle.model.specs.Consistency.{is_rising, is_consistent}

-- x stands in the list
infix 50 ◌∈◌
abbrev pub ◌∈◌ : {A : Type 0} → A → List A → Type 0
x ∈ xs = Memᴰ x xs

-- each element is before every later one
module _ {A : Type 0} (before : A → A → Bool) where
  abbrev pub Sorted : List A → Type 0
  Sorted [] = Unit {0}
  Sorted (x ∷ xs) = ((y : A) → y ∈ xs → T (before x y)) × Sorted xs

-- op is the operator of entry n
abbrev pub OperatorAt : List Operator → ℕ → Operator → Type 0
OperatorAt [] n op = ⊥
OperatorAt (o ∷ os) zero op = o ≡ op
OperatorAt (o ∷ os) (suc n) op = OperatorAt os n op

-- r is one of R, and of entry a
abbrev pub Of : (Recognition → Type 0) → ℕ → Recognition → Type 0
Of R a r = R r × (entry_of r ≡ a)

-- What an operator's line of the table asks of a tree t, R being the recognitions; said without lists of recognitions.
abbrev pub Asks : Operator → List Event → (Recognition → Type 0) → Recognition → Type 0
Asks (event k) es R t = (e : Event) × e ∈ es × (e.code ≡ k) × (t ≡ of_event (entry_of t) e.serial e.instant)
Asks (related c a b) es R t = (r : Recognition) × (s : Recognition) × Of R a r × Of R b s × T (are_related c r s) × (t ≡ of_two (entry_of t) r s)
Asks (or a b) es R t = ((r : Recognition) × Of R a r × (t ≡ of_one (entry_of t) left r)) ⊎ ((s : Recognition) × Of R b s × (t ≡ of_one (entry_of t) right s))
Asks (absence c a b) es R t = (r : Recognition) × Of R a r × ((s : Recognition) → Of R b s → T (forbids c s r) → ⊥) × (t ≡ of_one (entry_of t) only r)
Asks (lasting c a d) es R t = (r : Recognition) × Of R a r × T (is_lasting c d r) × (t ≡ of_one (entry_of t) only r)
Asks (after a d) es R t = (r : Recognition) × Of R a r × (t ≡ of_one (entry_of t) (delayed d) r)
Asks (nearest c a b) es R t =
    (r : Recognition) × (s : Recognition) × Of R a r × Of R b s × T (are_related Seq r s) × ((s' : Recognition) → Of R b s' → T (rivals_second r s s') → ⊥)
    × ((r' : Recognition) → Of R a r' → T (rivals_first c r s r') → ⊥) × (t ≡ of_two (entry_of t) r s)

-- what the line of its own entry asks of t
abbrev pub Line : List Operator → List Event → (Recognition → Type 0) → Recognition → Type 0
Line chart es R t = (op : Operator) × OperatorAt chart (entry_of t) op × Asks op es R t

-- A recognition, by the table's line for its entry, of recognitions; m bounds how deep the parts go. Operands are lower entries, so
-- that the number of entries bounds it.
abbrev pub IsWithin : ℕ → List Operator → List Event → Recognition → Type 0
IsWithin zero chart es t = ⊥
IsWithin (suc m) chart es t = Line chart es (IsWithin m chart es) t

abbrev pub IsRecognition : List Operator → List Event → Recognition → Type 0
IsRecognition chart es t = IsWithin (length chart) chart es t

-- The depth aside: a tree is a recognition exactly when the line of its entry asks it of recognitions ...
abbrev pub RecognitionHolds : Type 0
RecognitionHolds = (chart : List Operator) → T (are_lower 0 chart) → (es : List Event) (t : Recognition) → IsRecognition chart es t ↔ Line chart es (IsRecognition chart es) t

-- ... and no other set of trees has this property.
abbrev pub RecognitionUnique : Type 1
RecognitionUnique = (chart : List Operator) → T (are_lower 0 chart) → (es : List Event) (R : Recognition → Type 0) → ((t : Recognition) → R t ↔ Line chart es R t) → (t : Recognition) → R t ↔ IsRecognition chart es t

-- The order of rows is a strict order of all trees, any two of which it tells apart.
pub record StrictOrder (before : Recognition → Recognition → Bool) : Type 0 where
  pub irreflexive : (t : Recognition) → T (before t t) → ⊥
  pub transitive : (t u v : Recognition) → T (before t u) → T (before u v) → T (before t v)
  pub total : (t u : Recognition) → T (before t u) ⊎ (t ≡ u) ⊎ T (before u t)

-- What a listing is, said without an algorithm: strictly increasing in the order of rows, and a tree is in it exactly when it is a
-- recognition that starts at the floor or later, and no earlier than its entry counts, and ends before the open instant. So each once, none
-- besides.
pub record IsListing (chart : List Operator) (since : List ℤ) (es : List Event) (floor open_instant : ℤ) (ts : List Recognition) : Type 0 where
  pub increasing : Sorted before ts
  pub members : (t : Recognition) → (t ∈ ts) ↔ (IsRecognition chart es t × T (le_z floor (start_of t)) × T (le_z (since_of since (entry_of t)) (start_of t)) × T (lt_z (end_of t) open_instant))

abbrev pub ListingHolds : Type 0
ListingHolds = (chart : List Operator) → T (are_lower 0 chart) → (since : List ℤ) (es : List Event) (floor open_instant : ℤ) → IsListing chart since es floor open_instant (listing chart since es floor open_instant)

abbrev pub ListingUnique : Type 0
ListingUnique = (chart : List Operator) (since : List ℤ) (es : List Event) (floor open_instant : ℤ) (ts us : List Recognition) → IsListing chart since es floor open_instant ts → IsListing chart since es floor open_instant us → ts ≡ us

-- "The events of a recognition that starts at the floor or later are all at the floor or later, and so are those that could forbid it":
-- leaving out the events before the floor leaves the listing as it is. Events keep their serials.
abbrev pub FloorHolds : Type 0
FloorHolds = (chart : List Operator) → T (are_lower 0 chart) → (since : List ℤ) (es : List Event) (floor open_instant : ℤ) → listing chart since (keep (λ e. le_z floor e.instant) es) floor open_instant ≡ listing chart since es floor open_instant

-- "Existing rows are unchanged by the addition": entries that count from the open instant on add nothing to the listing before it.
abbrev pub AdditionHolds : Type 0
AdditionHolds = (chart new : List Operator) (since : List ℤ) → length since ≡ length chart → (es : List Event) (floor open_instant : ℤ) → listing (chart ++ new) (since ++ replicate (length new) open_instant) es floor open_instant ≡ listing chart since es floor open_instant

-- An event added at the open instant, or later, changes no recognition that ends before it.
abbrev pub LaterEventHolds : Type 0
LaterEventHolds = (chart : List Operator) → T (are_lower 0 chart) → (es : List Event) (e : Event) (open_instant : ℤ) → T (le_z open_instant e.instant) → (t : Recognition) → T (lt_z (end_of t) open_instant) → IsRecognition chart (es ++ e ∷ []) t ↔ IsRecognition chart es t

-- Rivals from before the floor, or that come later, decide nothing (request N5): of a pair that starts at the floor or later, and no earlier than its operands count,
-- the recognitions that do so too, and have ended before s ends, decide as all recognitions do. They are what the table holds while the instant is open at which s
-- ends.
abbrev pub RivalsHold : Type 0
RivalsHold = (chart : List Operator) → T (are_lower 0 chart) → (since : List ℤ) (es : List Event) (floor : ℤ) (c : Nearest) (a b : ℕ) (r s : Recognition) → IsRecognition chart es r → IsRecognition chart es s → T (le_z floor (start_of r)) → T (le_z (since_of since a) (start_of r)) → T (le_z (since_of since b) (start_of r)) →
    let held : List Recognition = listing chart since es floor (end_of s) in
    let all : List Recognition = recognitions chart es in
    are_nearest c (of_entry a held) (of_entry b held) r s ≡ are_nearest c (of_entry a all) (of_entry b all) r s

-- row i, its references followed down, gives the recognition's own tree; "a reference is the operand's place in that order, always an earlier one"
unfoldable pub Reads : List Row → ℕ → Recognition → Type 0
Reads rs i (of_event n s x) = row_at rs i ≡ row n (pos s) none x x
Reads rs i (of_one n m r) = (j : ℕ) × (j < i) × (row_at rs i ≡ row n (left_of m j) (right_of m j) (start_of (of_one n m r)) (end_of (of_one n m r))) × Reads rs j r
Reads rs i (of_two n r s) = (j : ℕ) × (k : ℕ) × (j < i) × (k < i) × (row_at rs i ≡ row n (pos j) (pos k) (start_of (of_two n r s)) (end_of (of_two n r s))) × Reads rs j r × Reads rs k s

-- The row of t, which stands where as many recognitions stand before it, reads t.
abbrev pub ReferencesHold : Type 0
ReferencesHold = (chart : List Operator) → T (are_lower 0 chart) → (since : List ℤ) → length since ≡ length chart → (es : List Event) (floor open_instant : ℤ) → T (is_rising first_floor open_instant since) → (us vs : List Recognition) (t : Recognition) → listing chart since es floor open_instant ≡ us ++ t ∷ vs → Reads (as_rows (listing chart since es floor open_instant)) (length us) t

-- a reader of lines: what it takes refers to lower entries only
abbrev pub IsReader : {L : Type 0} → (ℕ → L → Reading) → Type 0
IsReader {L} read = (n : ℕ) (lines : L) → (read n lines).number ≡ 0 → T (are_lower n (read n lines).operators)

-- A history: a reader of lines, the chart opened, the number of rows that the table can hold, the opening instant, and the calls.
pub record Played : Type 1 where
  pub Lines : Type 0
  pub read : ℕ → Lines → Reading
  pub reader : IsReader read
  pub chart : List Operator
  pub lower : T (are_lower 0 chart)
  pub capacity : ℕ
  pub open_at : ℤ
  pub calls : List (Call Lines)

-- the reference model and the watch on rows after it
abbrev pub model_of : Played → Model
model_of p = run (step p.read p.capacity) (opening p.chart p.open_at).state p.calls

abbrev pub watch_of : Played → Watch
watch_of p = run (watch_step p.read p.capacity) (watch_opening p.chart p.open_at).state p.calls

-- After every history the operands of the model's chart are lower entries; "it keeps each entry's instant", and that "may not fall from one entry to the
-- next, nor lie below -1,000,000,000 or above the open instant" (request N13).
pub record Entries (m : Model) : Type 0 where
  pub lower : T (are_lower 0 m.chart)
  pub many : length m.since ≡ length m.chart
  pub rising : T (is_rising first_floor m.open_instant m.since)

abbrev pub EntriesHold : Type 1
EntriesHold = (p : Played) → Entries (model_of p)

-- "a list of events, the nth with serial n", after every history
abbrev pub SerialsHold : Type 1
SerialsHold = (p : Played) → map (λ e. e.serial) (model_of p).events ≡ numbers 1 (length (model_of p).events)

-- After every opening and list of calls the watch on rows shows the reference model, and each call was answered with its number.
pub record History (p : Played) : Type 0 where
  pub opened : (watch_opening p.chart p.open_at).number ≡ (opening p.chart p.open_at).number
  pub state : watch_of p ≡ shown (model_of p)
  pub answers : numbers_of (watch_step p.read p.capacity) (watch_opening p.chart p.open_at).state p.calls ≡ numbers_of (step p.read p.capacity) (opening p.chart p.open_at).state p.calls

abbrev pub HistoryHolds : Type 1
HistoryHolds = (p : Played) → History p

-- An instant at which nothing is due changes no row: no event happens at it, no delayed end falls on it, and nothing ends at it.
abbrev pub IdleHolds : Type 0
IdleHolds = (chart : List Operator) (since : List ℤ) (es : List Event) (rs : List Row) (o : ℤ) → (o ∈ due_ends es chart since rs → ⊥) → ((r : Row) → r ∈ rs → r.end ≡ o → ⊥) → close_rows o es chart since rs ≡ rs

-- The next due instant from o on: none is due before it, and it is due, unless it is t.
pub record NextDue (ds : List ℤ) (o t e : ℤ) : Type 0 where
  pub from : T (le_z o e)
  pub most : T (le_z e t)
  pub none : (d : ℤ) → d ∈ ds → T (le_z o d) → T (le_z e d)
  pub due : T (lt_z e t) → e ∈ ds

abbrev pub NextDueHolds : Type 0
NextDueHolds = (chart : List Operator) (since : List ℤ) (es : List Event) (rs : List Row) (o t : ℤ) → T (le_z o t) → NextDue (due_ends es chart since rs) o t (next_due o t es chart since rs)

-- So finding the next due instant before t and closing it, as long as there is one, closes every instant from o to t-1.
abbrev pub JumpHolds : Type 0
JumpHolds = (chart : List Operator) (since : List ℤ) (es : List Event) (rs : List Row) (o t : ℤ) → ((r : Row) → r ∈ rs → T (lt_z r.end o)) → T (le_z o t) → (n : ℕ) → instants_to o t ≤ n → close_due n o t es chart since rs ≡ close_instants (instants_to o t) o es chart since rs

-- A delayed end brings a row: so the rows that a table can hold bound how many of them a mark closes, however far away it is.
abbrev pub GrowthHolds : Type 0
GrowthHolds = (chart : List Operator) (since : List ℤ) (es : List Event) (rs : List Row) (e : ℤ) → e ∈ due_ends [] chart since rs → length rs < length (close_rows e es chart since rs)

-- The watch on rows of every history is consistent.
abbrev pub ConsistencyHolds : Type 1
ConsistencyHolds = (p : Played) → T (is_consistent p.capacity (watch_of p))
