-- What each operator's function appends, read off the table as the function reads it: m is the number of rows from before this
-- closing, n that of all rows, a and b are operands. Nothing here has to be believed: the theorems of proofs/Derived.antt say that
-- these are the rows that the reference model's step makes, before it puts them in order.
use Rattle.std.specs.Prelude.{ℕ, zero, suc, ◌+◌, ◌*◌, ◌-◌, ◌≤◌, ◌<◌, ◌≡◌, ◌⊎◌, Bool, true, false, cond, not, ◌&&◌, ◌||◌, List, [], ◌∷◌, ◌++◌, eqb, leb, ltb, ℤ, pos, nat_abs, ◌-ℤ◌, length, get_or, take, drop}
use Rattle.std.specs.Int.Signed.{le_z, lt_z}
use Rattle.interval.specs.Instants.{eq_z, least, greatest}
use Rattle.interval.specs.Conditions.{is_related, ending_of, is_forbidding, has_length}
use Rattle.interval.specs.declared.Relation.{Relation}
use Rattle.interval.specs.declared.Relation.TheVariants.{Seq}
use Rattle.interval.specs.declared.Ending.{Ending}
use Rattle.interval.specs.declared.Ending.TheVariants.{Before, Within, Together, Either}
use Rattle.interval.specs.declared.Edges.{Edges}
use Rattle.interval.specs.declared.Nearest.{Nearest}
use Rattle.interval.specs.declared.Nearest.TheVariants.{Cut, Change}
use Rattle.model.specs.Lists.{keep, each, numbers}
use Rattle.model.specs.Recognitions.{Event, Operator, event, related, or, absence, lasting, after, nearest, Arm, left, right}
use Rattle.model.specs.Order.{Row, row, none, left_of, right_of}
use Rattle.table.specs.Table.{cell, stored_row, fill, put_rows}
use Rattle.model.specs.RowSteps.{numbered}
use Rattle.table.specs.Ends.{Ordered, ending_before, count_ending}
use Rattle.table.specs.Ready.{EndBefore}
use Rattle.table.specs.declared.Row as stored
use Rattle.closing.specs.declared.Frame.{Frame}
use Rattle.closing.specs.declared.Pending.{Pending}
use Rattle.closing.specs.declared.Wanted.{Wanted}
use Rattle.closing.specs.declared.Sought.{Sought}
use Rattle.closing.specs.declared.Taken.{Taken}
use Rattle.closing.specs.declared.Taken.TheVariants.{All, Lasting}

-- n rows in a table with room for so many, of which the frame says what they are: what a function that appends rows asks
pub record Appendable (f : Frame) (n : ℕ) (t : List ℤ) : Type 0 where
  pub fit : n ≤ f.room
  pub most : f.room ≤ 65535
  pub held : f.room * 5 ≤ length t
  pub above : le_z (pos 0) f.entry ≡ true
  pub low : nat_abs f.entry < 32
  pub few : f.first ≤ f.end
  pub inside : f.end ≤ n
  pub ordered : Ordered f.end t

-- the first n rows start no later than they end
abbrev pub Proper : ℕ → List ℤ → Type 0
Proper n t = (i : ℕ) → i < n → le_z (cell t i 3) (cell t i 4) ≡ true

-- n rows that end before o, in the order of their ends: what closing o asks of them
pub record Settled (o : ℤ) (n : ℕ) (t : List ℤ) : Type 0 where
  pub above : (i : ℕ) → i < n → le_z (pos 0) (cell t i 0) ≡ true
  pub proper : Proper n t
  pub ordered : Ordered n t
  pub ended : EndBefore o n t

-- the rows rs were appended to the n rows of the table t, as far as there was room: the count k and the table u after it
abbrev pub FilledBy : ℕ → ℕ → List Row → List ℤ → ℕ → List ℤ → Type 0
FilledBy room n rs t k u = (k ≡ (fill room n rs t).count) × (u ≡ (fill room n rs t).table)

-- the rows rs were to be appended to the n rows of t: they were, or there is no room for them, and nothing but the rows behind was altered
abbrev pub Tried : ℕ → ℕ → List Row → List ℤ → ℕ → List ℤ → Type 0
Tried room n rs t k u =
    ((n + length rs ≤ room) × (k ≡ n + length rs) × (u ≡ put_rows n rs t)) ⊎
    ((room < n + length rs) × (k ≡ suc room) × (take (n * 5) u ≡ take (n * 5) t) × (drop (room * 5) u ≡ drop (room * 5) t))

-- the rows that start at x or later, from which their entry counts
abbrev pub counted : ℤ → List Row → List Row
counted x rs = keep (λ r. le_z x r.start) rs

abbrev pub Appended : Frame → ℕ → List Row → List ℤ → ℕ → List ℤ → Type 0
Appended f n rs t k u = FilledBy f.room n (counted f.since rs) t k u

-- the numbers from a to before e
abbrev pub span : ℕ → ℕ → List ℕ
span a e = numbers a (e - a)

-- a row if the test holds
abbrev pub when : Bool → Row → List Row
when p r = cond p (r ∷ []) []

-- an event
pub record SerialsFit (p : Pending) : Type 0 where
  pub few : p.count ≤ 64
  pub most : p.first + p.count ≤ 1000001

abbrev pub pending_from : ℕ → ℕ → Pending
pending_from first count = record { first = first; count = count }

abbrev pub events_at : ℤ → Pending → List ℕ → List Event
events_at o p codes = numbered o p.first (take p.count codes)

abbrev pub serial_row : ℕ → ℤ → ℕ → Row
serial_row entry o serial = row entry (pos serial) none o o

unfoldable pub event_row : ℕ → ℕ → ℤ → ℕ → ℕ → List Row
event_row entry k o code serial = when (eqb code k) (serial_row entry o serial)

unfoldable pub event_rows : ℕ → ℤ → ℕ → Pending → List ℕ → List Row
event_rows entry o k p codes = each (λ j. event_row entry k o (get_or codes j 0) (p.first + j)) (span 0 p.count)

-- a row that refers to row i alone; it ends at the instant o
abbrev pub arm_of : Bool → Arm
arm_of true = right
arm_of false = left

abbrev pub part_of : Arm → Frame → stored.Row → ℕ → stored.Row
part_of m f r i = record { entry = f.entry; left = left_of m i; right = right_of m i; start = r.start; end = f.instant }

unfoldable pub part_row : Arm → ℕ → ℤ → List ℤ → ℕ → Row
part_row m entry o t i = row entry (left_of m i) (right_of m i) (cell t i 3) o

-- an arm of or, a length test, a delay: the rows from m to before n that are taken
abbrev pub is_long : Taken → ℤ → ℤ → Bool
is_long All s e = true
is_long (Lasting c d) s e = has_length c d s e

abbrev pub is_taken : ℤ → Taken → stored.Row → Bool
is_taken a k r = eq_z r.entry a && is_long k r.start r.end

unfoldable pub taken_row : Arm → ℕ → ℤ → ℤ → Taken → List ℤ → ℕ → List Row
taken_row side entry o a k t i = when (is_taken a k (stored_row t i)) (part_row side entry o t i)

unfoldable pub taken_rows : Arm → ℕ → ℤ → ℤ → Taken → ℕ → ℕ → List ℤ → List Row
taken_rows side entry o a k m n t = each (taken_row side entry o a k t) (span m n)

unfoldable pub or_rows : ℕ → ℤ → ℤ → ℤ → ℕ → ℕ → List ℤ → List Row
or_rows entry o a b m n t = taken_rows left entry o a All m n t ++ taken_rows right entry o b All m n t

-- a delay: of all n rows those of a that end d before the instant
abbrev pub waited_from : ℤ → ℕ → ℕ → List ℤ → ℕ
waited_from o d n t = count_ending false n (o -ℤ pos d) t

abbrev pub waited_to : ℤ → ℕ → ℕ → List ℤ → ℕ
waited_to o d n t = count_ending true n (o -ℤ pos d) t

unfoldable pub delayed_rows : ℕ → ℤ → ℤ → ℕ → ℕ → List ℤ → List Row
delayed_rows entry o a d n t = taken_rows left entry o a All (waited_from o d n t) (waited_to o d n t) t

-- whether row j is one of a that starts at x or later; k is the first such row from row i on to before row n, or n or more where there is none
abbrev pub is_waited : ℤ → ℤ → List ℤ → ℕ → Bool
is_waited x a t j = eq_z (cell t j 0) a && le_z x (cell t j 3)

pub record FirstWaited (x a : ℤ) (i n : ℕ) (t : List ℤ) (k : ℕ) : Type 0 where
  pub least : i ≤ k
  pub none : (j : ℕ) → i ≤ j → j < k → is_waited x a t j ≡ false
  pub is : k < n → is_waited x a t k ≡ true

-- an absence: whether row j forbids an interval; whether the row before place j is there and ends at `start` or later; and whether one of
-- the rows before place j forbids the interval, searched backwards as long as they end at its start or later
unfoldable pub forbids : Edges → ℤ → ℤ → ℤ → List ℤ → ℕ → Bool
forbids e b start end t j = eq_z (cell t j 0) b && is_forbidding e start end (cell t j 3) (cell t j 4)

unfoldable pub is_within : ℤ → List ℤ → ℕ → Bool
is_within start t zero = false
is_within start t (suc j) = le_z start (cell t j 4)

unfoldable pub is_forbidden : Edges → ℤ → ℤ → ℤ → List ℤ → ℕ → Bool
is_forbidden e b start end t zero = false
is_forbidden e b start end t (suc j) = is_within start t (suc j) && (forbids e b start end t j || is_forbidden e b start end t j)

-- the place behind the last of the first n rows that is one of b, or 0: the search begins there
unfoldable pub top_of : ℤ → ℕ → List ℤ → ℕ
top_of b zero t = 0
top_of b (suc j) t = cond (eq_z (cell t j 0) b) (suc j) (top_of b j t)

-- the search from place k on finds what the one from place n on finds
pub record SameTop (b : ℤ) (n : ℕ) (t : List ℤ) (k : ℕ) : Type 0 where
  pub most : k ≤ n
  pub same : top_of b k t ≡ top_of b n t

unfoldable pub absence_row : Edges → ℕ → ℤ → ℤ → ℤ → ℕ → List ℤ → ℕ → List Row
absence_row e entry o a b top t i = when (eq_z (cell t i 0) a && not (is_forbidden e b (cell t i 3) (cell t i 4) t top)) (part_row left entry o t i)

unfoldable pub absence_rows : Edges → ℕ → ℤ → ℤ → ℤ → ℕ → ℕ → List ℤ → List Row
absence_rows e entry o a b m n t = each (absence_row e entry o a b (top_of b n t) t) (span m n)

-- two operands: the pairs in which one row or both end at the instant
abbrev pub is_wanted : Wanted → stored.Row → Bool
is_wanted w s = eq_z s.entry w.operand && is_related w.relation w.start w.end s.start s.end

abbrev pub pair_of : Frame → Wanted → stored.Row → ℕ → stored.Row
pair_of f w s i = record { entry = f.entry; left = pos w.left; right = pos i; start = least w.start s.start; end = greatest w.end s.end }

unfoldable pub pair_row : Relation → ℕ → ℤ → ℕ → ℤ → ℤ → List ℤ → ℕ → List Row
pair_row c entry b r start end t s =
    when (eq_z (cell t s 0) b && is_related c start end (cell t s 3) (cell t s 4))
    (row entry (pos r) (pos s) (least start (cell t s 3)) (greatest end (cell t s 4)))

-- where the search for s begins, given r: a row that ends before the pair does is from before this closing
abbrev pub right_by : Ending → ℕ → ℕ → ℕ
right_by Before m r = m
right_by Within m r = m
right_by Together m r = m
right_by Either m r = cond (leb m r) 0 m

abbrev pub right_from : Relation → ℕ → ℕ → ℕ
right_from c m r = right_by (ending_of c) m r

unfoldable pub pairs_of : Relation → ℕ → ℤ → ℕ → ℕ → List ℤ → ℕ → List Row
pairs_of c entry b m n t r = each (pair_row c entry b r (cell t r 3) (cell t r 4) t) (span (right_from c m r) n)

unfoldable pub pairs_with : Relation → ℕ → ℤ → ℤ → ℕ → ℕ → List ℤ → ℕ → List Row
pairs_with c entry a b m n t r = cond (eq_z (cell t r 0) a) (pairs_of c entry b m n t r) []

-- the first row of entry a from row i on, k rows further at most; and from row i on to before row n
unfoldable pub next_from : ℤ → List ℤ → ℕ → ℕ → ℕ
next_from a t i zero = i
next_from a t i (suc k) = cond (eq_z (cell t i 0) a) i (next_from a t (suc i) k)

abbrev pub next_row : ℤ → ℕ → ℕ → List ℤ → ℕ
next_row a i n t = next_from a t i (n - i)

-- the search from row k on finds what the one from row i on finds
pub record Passed (a : ℤ) (i n : ℕ) (t : List ℤ) (k : ℕ) : Type 0 where
  pub least : i ≤ k
  pub most : k ≤ n
  pub same : next_row a k n t ≡ next_row a i n t

-- the least of x and the starts of the rows of b among the k rows from row i on; and of those from row s, which is one, to before row n
unfoldable pub least_from : ℤ → List ℤ → ℤ → ℕ → ℕ → ℤ
least_from b t x i zero = x
least_from b t x i (suc k) = least_from b t (cond (eq_z (cell t i 0) b) (least x (cell t i 3)) x) (suc i) k

abbrev pub least_start : ℤ → ℕ → ℕ → List ℤ → ℤ
least_start b s n t = least_from b t (cell t s 3) s (n - s)

-- where the search for r begins, by whether there is a new s and where r and s end
abbrev pub left_by : Ending → Bool → ℤ → ℕ → ℕ → List ℤ → ℕ
left_by Before new b m n t = cond new 0 n
left_by Within new b m n t = cond new (ending_before m (least_start b (next_row b m n t) n t) t) n
left_by Together new b m n t = cond new m n
left_by Either new b m n t = cond new 0 m

unfoldable pub left_from : Ending → ℤ → ℕ → ℕ → List ℤ → ℕ
left_from e b m n t = left_by e (ltb (next_row b m n t) n) b m n t

unfoldable pub pair_rows : Relation → ℕ → ℤ → ℤ → ℕ → ℕ → List ℤ → List Row
pair_rows c entry a b m n t = each (pairs_with c entry a b m n t) (span (left_from (ending_of c) b m n t) n)

-- cut, change: the latest of x and the starts of the rows of b among the k rows from row i on, the last of them first; and of those from row i to
-- before row e
unfoldable pub latest_from : ℤ → List ℤ → ℕ → ℤ → ℕ → ℤ
latest_from b t i x zero = x
latest_from b t i x (suc k) = latest_from b t i (cond (eq_z (cell t (i + k) 0) b) (greatest x (cell t (i + k) 3)) x) k

abbrev pub latest_start : ℤ → ℤ → ℕ → ℕ → List ℤ → ℤ
latest_start b x i e t = latest_from b t i x (e - i)

-- where the search for r begins and ends: at the first row that does not end before the latest start of the old rows of b, among which all rivals of a
-- new s are; and at the first that does not end before the latest start of the new ones. No row ends before row 0 does, so that its end excludes none
unfoldable pub near_from : ℤ → ℕ → List ℤ → ℕ
near_from b m t = ending_before m (latest_start b (cell t 0 4) 0 (top_of b m t) t) t

unfoldable pub near_to : ℤ → ℕ → ℕ → List ℤ → ℕ
near_to b m n t = ending_before m (latest_start b (cell t (next_row b m n t) 3) (next_row b m n t) n t) t

-- whether row q is one of a that starts no earlier than r and ends later: a rival of r for every s that starts after q ends
abbrev pub is_later_row : ℤ → stored.Row → stored.Row → Bool
is_later_row a r q = eq_z q.entry a && (le_z r.start q.start && lt_z r.end q.end)

-- the end of the first such row of the k rows from row i on, or x if there is none; and from row i to before row e
unfoldable pub rival_from : ℤ → stored.Row → List ℤ → ℤ → ℕ → ℕ → ℤ
rival_from a r t x i zero = x
rival_from a r t x i (suc k) = cond (is_later_row a r (stored_row t i)) (cell t i 4) (rival_from a r t x (suc i) k)

abbrev pub rival_end : ℤ → stored.Row → ℤ → ℕ → ℕ → List ℤ → ℤ
rival_end a r x i e t = rival_from a r t x i (e - i)

-- up to where s may start, given r: the instant o, and for change no later than the first rival of r ends
abbrev pub limit_by : Nearest → ℤ → ℤ → ℕ → List ℤ → ℕ → ℤ
limit_by Cut o a to t r = o
limit_by Change o a to t r = rival_end a (stored_row t r) o (r + 1) to t

-- the pair with row s, if that starts at the limit or before; the pairs with the new rows
unfoldable pub nearest_row : ℕ → Wanted → ℤ → List ℤ → ℕ → List Row
nearest_row entry w limit t s = cond (le_z (cell t s 3) limit) (pair_row w.relation entry w.operand w.left w.start w.end t s) []

unfoldable pub nearest_pairs : ℕ → Wanted → ℤ → ℕ → ℕ → List ℤ → List Row
nearest_pairs entry w limit m n t = each (nearest_row entry w limit t) (span m n)

-- the pairs of row r, and those of a row that may be none of a
abbrev pub wanted_by : ℤ → List ℤ → ℕ → Wanted
wanted_by b t r = record { relation = Seq; operand = b; left = r; start = cell t r 3; end = cell t r 4 }

unfoldable pub nearest_of : Sought → ℕ → ℤ → ℕ → ℕ → List ℤ → ℕ → List Row
nearest_of k entry o m n t r = nearest_pairs entry (wanted_by k.b t r) (limit_by k.nearest o k.a k.to t r) m n t

unfoldable pub nearest_with : Sought → ℕ → ℤ → ℕ → ℕ → List ℤ → ℕ → List Row
nearest_with k entry o m n t r = cond (eq_z (cell t r 0) k.a) (nearest_of k entry o m n t r) []

-- all pairs; without a new row of b there is none
abbrev pub sought_by : Nearest → ℤ → ℤ → ℕ → Sought
sought_by c a b to = record { nearest = c; a = a; b = b; to = to }

unfoldable pub nearest_rows : Nearest → ℕ → ℤ → ℤ → ℤ → ℕ → ℕ → List ℤ → List Row
nearest_rows c entry o a b m n t =
    cond (ltb (next_row b m n t) n)
    (each (nearest_with (sought_by c a b (near_to b m n t)) entry o m n t) (span (near_from b m t) (near_to b m n t)))
    []

-- by the operator, o being the instant that is closed
unfoldable pub added_rows : Operator → ℕ → ℤ → Pending → List ℕ → ℕ → ℕ → List ℤ → List Row
added_rows (event k) entry o p codes m n t = event_rows entry o k p codes
added_rows (related c a b) entry o p codes m n t = pair_rows c entry (pos a) (pos b) m n t
added_rows (or a b) entry o p codes m n t = or_rows entry o (pos a) (pos b) m n t
added_rows (absence e a b) entry o p codes m n t = absence_rows e entry o (pos a) (pos b) m n t
added_rows (lasting c a d) entry o p codes m n t = taken_rows left entry o (pos a) (Lasting c d) m n t
added_rows (after a d) entry o p codes m n t = delayed_rows entry o (pos a) d n t
added_rows (nearest c a b) entry o p codes m n t = nearest_rows c entry o (pos a) (pos b) m n t
