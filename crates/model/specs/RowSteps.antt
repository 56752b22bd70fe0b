-- What the watch does on rows: opening, an event, closing instants, forgetting, adding entries. Nothing here has to be believed for the reference
-- model; the theorems say that these steps give the reference model's rows and numbers. The contracts of the watch cite them, for tables that no
-- history left; `node_start`, `node_end` and `moved` alone serve the proofs.
use Rattle.std.specs.Prelude.{ℕ, zero, suc, ◌-◌, Bool, true, false, cond, not, ◌&&◌, List, [], ◌∷◌, ◌++◌, map, eqb, ltb, leb, ℤ, pos, negsuc, nat_abs, ◌+ℤ◌, ◌-ℤ◌, length, get_or, take, replicate}
use Rattle.std.specs.Int.Signed.{lt_z, le_z}
use Rattle.interval.specs.Instants.{is_instant, first_floor, is_mark_refused, is_forget_refused, eq_z, least, greatest}
use Rattle.interval.specs.Conditions.{is_related, is_forbidding, has_length, is_rival_of_second, is_rival_of_first}
use Rattle.interval.specs.declared.Relation.{Relation}
use Rattle.interval.specs.declared.Relation.TheVariants.{Seq}
use Rattle.interval.specs.declared.Edges.{Edges}
use Rattle.interval.specs.declared.Nearest.{Nearest}
use Rattle.model.specs.Lists.{keep, some, each, numbers, sort_stably}
use Rattle.model.specs.Recognitions.{Event, Operator, event, related, or, absence, lasting, after, nearest, Arm, only, left, right, delayed, end_by}
use Rattle.model.specs.Order.{since_of, Row, row, none, left_of, right_of}
use Rattle.model.specs.Reference.{Model, Answer, accepted, refused, Call, Reading, is_at, rows_of}

-- One step of a recognition over parts of any kind, recognitions or row numbers: an event's serial and instant; a part with its arm; two parts.
pub data Node (A : Type 0) : Type 0 where
  leaf : ℕ → ℤ → Node A
  part : Arm → A → Node A
  pair : A → A → Node A

-- the entry, start and end of a part
pub record View (A : Type 0) : Type 0 where
  pub entry : A → ℕ
  pub start : A → ℤ
  pub end : A → ℤ

abbrev pub leaves : {A : Type 0} → ℕ → List Event → List (Node A)
leaves k es = map (λ e. leaf e.serial e.instant) (keep (λ e. eqb e.code k) es)

-- each r with each s that passes the test
abbrev pub pairs : {A : Type 0} → (A → A → Bool) → List A → List A → List (Node A)
pairs p rs ss = each (λ r. map (pair r) (keep (p r) ss)) rs

module _ {A : Type 0} (v : View A) where
  abbrev pub of : ℕ → List A → List A
  of a xs = keep (λ x. eqb (v.entry x) a) xs

  abbrev pub fits : Relation → A → A → Bool
  fits c r s = is_related c (v.start r) (v.end r) (v.start s) (v.end s)

  abbrev pub forbidden : Edges → List A → A → Bool
  forbidden c ss r = some (λ s. is_forbidding c (v.start r) (v.end r) (v.start s) (v.end s)) ss

  abbrev pub rival_of_second : A → A → A → Bool
  rival_of_second r s s' = is_rival_of_second (v.end r) (v.end s) (v.start s') (v.end s')

  abbrev pub rival_of_first : Nearest → A → A → A → Bool
  rival_of_first c r s r' = is_rival_of_first c (v.start r) (v.end r) (v.start s) (v.start r') (v.end r')

  abbrev pub near : Nearest → List A → List A → A → A → Bool
  near c rs ss r s = fits Seq r s && (not (some (rival_of_second r s) ss) && not (some (rival_of_first c r s) rs))

  -- what an operator makes of the events and the parts there are, in the order of rows, end, entry and start aside
  abbrev pub make : Operator → List Event → List A → List (Node A)
  make (event k) es xs = leaves k es
  make (related c a b) es xs = pairs (fits c) (of a xs) (of b xs)
  make (or a b) es xs = map (part left) (of a xs) ++ map (part right) (of b xs)
  make (absence c a b) es xs = map (part only) (keep (λ r. not (forbidden c (of b xs) r)) (of a xs))
  make (lasting c a d) es xs = map (part only) (keep (λ r. has_length c d (v.start r) (v.end r)) (of a xs))
  make (after a d) es xs = map (part (delayed d)) (of a xs)
  make (nearest c a b) es xs = pairs (near c (of a xs) (of b xs)) (of a xs) (of b xs)

  abbrev pub node_start : Node A → ℤ
  node_start (leaf s i) = i
  node_start (part m r) = v.start r
  node_start (pair r s) = least (v.start r) (v.start s)

  abbrev pub node_end : Node A → ℤ
  node_end (leaf s i) = i
  node_end (part m r) = end_by m (v.end r)
  node_end (pair r s) = greatest (v.end r) (v.end s)

-- what an entry's operator makes, as far as its start and end pass the test
pub record Rule : Type 0 where
  pub entry : ℕ
  pub operator : Operator
  pub test : ℤ → ℤ → Bool

-- a rule for each entry from n on
abbrev pub rules : (ℕ → ℤ → ℤ → Bool) → ℕ → List Operator → List Rule
rules p n [] = []
rules p n (op ∷ ops) = record { entry = n; operator = op; test = p n } ∷ rules p (suc n) ops

-- row i of a table, and a row number seen as a part
abbrev pub row_at : List Row → ℕ → Row
row_at rs i = get_or rs i (row 0 (pos 0) (pos 0) (pos 0) (pos 0))

abbrev pub places : List Row → View ℕ
places rs = record { entry = λ i. (row_at rs i).entry; start = λ i. (row_at rs i).start; end = λ i. (row_at rs i).end }

abbrev pub node_row : List Row → ℕ → Node ℕ → Row
node_row rs n (leaf s i) = row n (pos s) none i i
node_row rs n (part m i) = row n (left_of m i) (right_of m i) (row_at rs i).start (end_by m (row_at rs i).end)
node_row rs n (pair i j) = row n (pos i) (pos j) (least (row_at rs i).start (row_at rs j).start) (greatest (row_at rs i).end (row_at rs j).end)

-- "later start first"
abbrev pub starts_later : Row → Row → Bool
starts_later r q = lt_z q.start r.start

-- the rows that a rule makes of those there are; the same, the later start first; the rules one after another, each over what the earlier ones left
abbrev pub made_rows : Rule → List Event → List Row → List Row
made_rows j es rs = keep (λ r. j.test r.start r.end) (map (node_row rs j.entry) (make (places rs) j.operator es (numbers 0 (length rs))))

abbrev pub derived_rows : Rule → List Event → List Row → List Row
derived_rows j es rs = sort_stably starts_later (made_rows j es rs)

unfoldable pub extend_rows : List Event → List Rule → List Row → List Row
extend_rows es [] rs = rs
extend_rows es (j ∷ js) rs = extend_rows es js (rs ++ derived_rows j es rs)

-- Closing the instant o: entry by entry, the rows that end at o, and start no earlier than the instant from which the entry counts, are appended. Of the
-- events es only those at o count. These rows are the *due* rows of document 01 that are not in the table yet.
abbrev pub ends_at : List ℤ → ℤ → ℕ → ℤ → ℤ → Bool
ends_at since o n s e = le_z (since_of since n) s && eq_z e o

unfoldable pub close_rows : ℤ → List Event → List Operator → List ℤ → List Row → List Row
close_rows o es chart since rs = extend_rows es (rules (ends_at since o) 0 chart) rs

-- "a clock mark t closes every instant from the open one to t-1" (request N1): n instants one after another, the first of them o
unfoldable pub close_instants : ℕ → ℤ → List Event → List Operator → List ℤ → List Row → List Row
close_instants zero o es chart since rs = rs
close_instants (suc n) o es chart since rs = close_instants n (o +ℤ pos 1) es chart since (close_rows o es chart since rs)

-- how many instants are from o to t-1
abbrev pub instants_to : ℤ → ℤ → ℕ
instants_to o t = nat_abs (t -ℤ o)

-- The instants at which something is due: those of the events, and for every `after a d` those of the rows of a, d later, that start no earlier
-- than x, from which the entry counts.
abbrev pub is_waiting : ℤ → ℕ → Row → Bool
is_waiting x a r = eqb r.entry a && le_z x r.start

abbrev pub delayed_ends : ℤ → List Row → Operator → List ℤ
delayed_ends x rs (event k) = []
delayed_ends x rs (related c a b) = []
delayed_ends x rs (or a b) = []
delayed_ends x rs (absence c a b) = []
delayed_ends x rs (lasting c a d) = []
delayed_ends x rs (nearest c a b) = []
delayed_ends x rs (after a d) = map (λ r. r.end +ℤ pos d) (keep (is_waiting x a) rs)

-- those of the operators from entry n on
abbrev pub delays_from : ℕ → List Operator → List ℤ → List Row → List ℤ
delays_from n [] since rs = []
delays_from n (op ∷ ops) since rs = delayed_ends (since_of since n) rs op ++ delays_from (suc n) ops since rs

unfoldable pub due_ends : List Event → List Operator → List ℤ → List Row → List ℤ
due_ends es chart since rs = map (λ e. e.instant) es ++ delays_from 0 chart since rs

-- the first of these instants from o on, and t if none is before t
abbrev pub first_from : ℤ → ℤ → List ℤ → ℤ
first_from o t [] = t
first_from o t (e ∷ es) = cond (le_z o e) (least e (first_from o t es)) (first_from o t es)

unfoldable pub next_due : ℤ → ℤ → List Event → List Operator → List ℤ → List Row → ℤ
next_due o t es chart since rs = first_from o t (due_ends es chart since rs)

-- The instants from o to t-1 closed, where only those count at which something is due: at most n of them.
unfoldable pub close_due : ℕ → ℤ → ℤ → List Event → List Operator → List ℤ → List Row → List Row
close_due zero o t es chart since rs = rs
close_due (suc n) o t es chart since rs =
    let e : ℤ = next_due o t es chart since rs in
    cond (lt_z e t) (close_due n (e +ℤ pos 1) t es chart since (close_rows e es chart since rs)) rs

-- Keeping the rows that pass a test: they stay in their order, and their references are renumbered. Where row i goes: as many rows are
-- kept before it.
abbrev pub placed : (Row → Bool) → List Row → ℕ → ℕ
placed test rs i = length (keep test (take i rs))

abbrev pub renumber : (ℕ → ℕ) → ℤ → ℤ
renumber g (pos i) = pos (g i)
renumber g (negsuc i) = negsuc i

-- whether entry n is an event's: the left number of its rows is a serial and no reference
abbrev pub is_event : Operator → Bool
is_event (event k) = true
is_event (related c a b) = false
is_event (or a b) = false
is_event (absence c a b) = false
is_event (lasting c a d) = false
is_event (after a d) = false
is_event (nearest c a b) = false

abbrev pub is_event_at : List Operator → ℕ → Bool
is_event_at [] n = false
is_event_at (op ∷ ops) zero = is_event op
is_event_at (op ∷ ops) (suc n) = is_event_at ops n

abbrev pub renumbered_by : List Operator → (Row → Bool) → List Row → Row → Row
renumbered_by chart test rs r = cond (is_event_at chart r.entry) r (row r.entry (renumber (placed test rs) r.left) (renumber (placed test rs) r.right) r.start r.end)

unfoldable pub keep_rows : List Operator → (Row → Bool) → List Row → List Row
keep_rows chart test rs = map (renumbered_by chart test rs) (keep test rs)

-- Forgetting at f: the rows that start at f or later are kept.
abbrev pub is_late : ℤ → Row → Bool
is_late f r = le_z f r.start

abbrev pub moved : ℤ → List Row → ℕ → ℕ
moved f rs i = placed (is_late f) rs i

unfoldable pub forget_rows : List Operator → ℤ → List Row → List Row
forget_rows chart f rs = keep_rows chart (is_late f) rs

-- "A watch has an open instant, a floor, a count of events, a count of rows and the events of the open instant": the codes of
-- these, and the rows themselves. "The watch now holds, for each entry, the instant from which it counts" (request N13). And the chart that
-- each call is handed: "as the last addition left it".
pub record Watch : Type 0 where
  pub open_instant : ℤ
  pub floor : ℤ
  pub chart : List Operator
  pub since : List ℤ
  pub count : ℕ
  pub pending : List ℕ
  pub rows : List Row

abbrev pub watch : ℤ → ℤ → List Operator → List ℤ → ℕ → List ℕ → List Row → Watch
watch o f chart since n ks rs = record { open_instant = o; floor = f; chart = chart; since = since; count = n; pending = ks; rows = rs }

-- events of these codes at the instant o, the first with serial s
abbrev pub numbered : ℤ → ℕ → List ℕ → List Event
numbered o s [] = []
numbered o s (k ∷ ks) = record { serial = s; code = k; instant = o } ∷ numbered o (suc s) ks

abbrev pub pending_events : Watch → List Event
pending_events w = numbered w.open_instant (suc (w.count - length w.pending)) w.pending

abbrev pub closed_rows : Watch → ℤ → List Row
closed_rows w t = close_instants (instants_to w.open_instant t) w.open_instant (pending_events w) w.chart w.since w.rows

unfoldable pub watch_opening : List Operator → ℤ → Answer Watch
watch_opening chart o =
    cond (is_instant o) (accepted (watch o first_floor chart (replicate (length chart) first_floor) 0 [] []))
    (refused 8 (watch (pos 0) first_floor [] [] 0 [] []))

unfoldable pub watch_event : Watch → ℕ → Answer Watch
watch_event w k =
    cond (leb 1000000 w.count) (refused 10 w)
    (cond (leb 64 (length w.pending)) (refused 9 w)
    (accepted (watch w.open_instant w.floor w.chart w.since (suc w.count) (w.pending ++ k ∷ []) w.rows)))

unfoldable pub watch_clock : ℕ → Watch → ℤ → Answer Watch
watch_clock capacity w t =
    cond (is_mark_refused w.open_instant t) (refused 8 w)
    (cond (ltb capacity (length (closed_rows w t))) (refused 12 w)
    (accepted (watch t w.floor w.chart w.since w.count [] (closed_rows w t))))

unfoldable pub watch_forget : Watch → ℤ → Answer Watch
watch_forget w f =
    cond (is_forget_refused w.floor w.open_instant f) (refused 11 w)
    (accepted (watch w.open_instant f w.chart w.since w.count w.pending (forget_rows w.chart f w.rows)))

-- "Existing rows are unchanged by the addition"
abbrev pub watch_added : Watch → List Operator → Watch
watch_added w new = watch w.open_instant w.floor (w.chart ++ new) (w.since ++ replicate (length new) w.open_instant) w.count w.pending w.rows

unfoldable pub watch_add : {L : Type 0} → (ℕ → L → Reading) → Watch → L → Answer Watch
watch_add read w lines =
    let r : Reading = read (length w.chart) lines in
    cond (eqb r.number 0) (accepted (watch_added w r.operators)) (refused r.number w)

abbrev pub watch_step : {L : Type 0} → (ℕ → L → Reading) → ℕ → Watch → Call L → Answer Watch
watch_step read capacity w (Call.event k) = watch_event w k
watch_step read capacity w (Call.clock t) = watch_clock capacity w t
watch_step read capacity w (Call.forget f) = watch_forget w f
watch_step read capacity w (Call.add lines) = watch_add read w lines

-- the watch that shows a state of the reference model
unfoldable pub shown : Model → Watch
shown m = watch m.open_instant m.floor m.chart m.since (length m.events) (map (λ e. e.code) (keep (is_at m.open_instant) m.events)) (rows_of m)
