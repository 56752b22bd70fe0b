-- Charts, events and recognitions. Document 01, "Operators of a chart" and "The book behind demand 3"; document 003, section 2.3.2, definition 16.
use Rattle.std.specs.Prelude.{ℕ, suc, Bool, true, not, ◌&&◌, List, [], ◌∷◌, ◌++◌, map, eqb, ltb, ℤ, pos, ◌+ℤ◌}
use Rattle.interval.specs.Instants.{least, greatest}
use Rattle.interval.specs.Conditions.{is_related, is_forbidding, is_rival_of_second, is_rival_of_first, has_length}
use Rattle.interval.specs.declared.Relation.{Relation}
use Rattle.interval.specs.declared.Relation.TheVariants.{Seq}
use Rattle.interval.specs.declared.Edges.{Edges}
use Rattle.interval.specs.declared.Nearest.{Nearest}
use Rattle.interval.specs.declared.LengthTest.{LengthTest}
use Rattle.model.specs.Lists.{keep, some, each}

-- "An event has a code 0 to 255 and happens at the open instant. Accepted events get serials 1, 2, 3 and so on, up to 1,000,000. Two
-- events of equal code and instant are two events."
pub record Event : Type 0 where
  pub serial : ℕ
  pub code : ℕ
  pub instant : ℤ

-- "Operators of a chart": event k; seq, and, meets, overlaps, starts, during, finishes, equals a b; or a b; -[] -][ -[[ -]] a b;
-- lasts, atmost, atleast a d; after a d (request N1); cut, change a b (request N5). Here a and b are entry numbers, k is a code and d a length.
-- A chart is the list of its entries' operators: "A chart has 1 to 32 entries, numbered from 0".
pub data Operator : Type 0 where
  event : ℕ → Operator
  related : Relation → ℕ → ℕ → Operator
  or : ℕ → ℕ → Operator
  absence : Edges → ℕ → ℕ → Operator
  lasting : LengthTest → ℕ → ℕ → Operator
  after : ℕ → ℕ → Operator
  nearest : Nearest → ℕ → ℕ → Operator

-- "operands a and b are lower entry numbers and may be equal": of entry n, and of a chart's entries from n on
abbrev pub is_lower : ℕ → Operator → Bool
is_lower n (event k) = true
is_lower n (related c a b) = ltb a n && ltb b n
is_lower n (or a b) = ltb a n && ltb b n
is_lower n (absence c a b) = ltb a n && ltb b n
is_lower n (lasting c a d) = ltb a n
is_lower n (after a d) = ltb a n
is_lower n (nearest c a b) = ltb a n && ltb b n

abbrev pub are_lower : ℕ → List Operator → Bool
are_lower n [] = true
are_lower n (op ∷ ops) = is_lower n op && are_lower (suc n) ops

-- How a recognition holds its one part: an `or` has a left and a right arm; an absence and a length test have one operand's recognition
-- only; a delay has it for so long.
pub data Arm : Type 0 where
  only left right : Arm
  delayed : ℕ → Arm

-- "A recognition of an entry, over a list of events, is a tree ... Another entry, arm, event or part makes another recognition."
-- Each has its entry first; then an event's serial and instant, or the arm and the part, or the two parts.
pub data Recognition : Type 0 where
  of_event : ℕ → ℕ → ℤ → Recognition
  of_one : ℕ → Arm → Recognition → Recognition
  of_two : ℕ → Recognition → Recognition → Recognition

abbrev pub entry_of : Recognition → ℕ
entry_of (of_event n s i) = n
entry_of (of_one n m r) = n
entry_of (of_two n r s) = n

-- "Start and end are the least start and the greatest end of the rows referred to; an event's are its instant."
abbrev pub start_of : Recognition → ℤ
start_of (of_event n s i) = i
start_of (of_one n m r) = start_of r
start_of (of_two n r s) = least (start_of r) (start_of s)

-- "the same start and end = end r + d"
abbrev pub end_by : Arm → ℤ → ℤ
end_by only e = e
end_by left e = e
end_by right e = e
end_by (delayed d) e = e +ℤ pos d

abbrev pub end_of : Recognition → ℤ
end_of (of_event n s i) = i
end_of (of_one n m r) = end_by m (end_of r)
end_of (of_two n r s) = greatest (end_of r) (end_of s)

-- The conditions of the table on recognitions: those of crate `interval` on their starts and ends.
abbrev pub are_related : Relation → Recognition → Recognition → Bool
are_related c r s = is_related c (start_of r) (end_of r) (start_of s) (end_of s)

-- "s forbids r"
abbrev pub forbids : Edges → Recognition → Recognition → Bool
forbids c s r = is_forbidding c (start_of r) (end_of r) (start_of s) (end_of s)

abbrev pub is_lasting : LengthTest → ℕ → Recognition → Bool
is_lasting c d r = has_length c d (start_of r) (end_of r)

-- cut, change: s' is a rival of s, and r' one of r
abbrev pub rivals_second : Recognition → Recognition → Recognition → Bool
rivals_second r s s' = is_rival_of_second (end_of r) (end_of s) (start_of s') (end_of s')

abbrev pub rivals_first : Nearest → Recognition → Recognition → Recognition → Bool
rivals_first c r s r' = is_rival_of_first c (start_of r) (end_of r) (start_of s) (start_of r') (end_of r')

-- "r and s with end r < start s, where no other row s' of b starts after end r and ends before end s. change also requires that no r' of a has
-- start r' >= start r and end r < end r' < start s"; rs and ss are the recognitions of a and of b
abbrev pub are_nearest : Nearest → List Recognition → List Recognition → Recognition → Recognition → Bool
are_nearest c rs ss r s = are_related Seq r s && (not (some (rivals_second r s) ss) && not (some (rivals_first c r s) rs))

-- those of a list that are recognitions of entry a
abbrev pub of_entry : ℕ → List Recognition → List Recognition
of_entry a ts = keep (λ t. eqb (entry_of t) a) ts

-- "for `event k` one event of code k; for every other operator what its line of the table asks, r and s now being recognitions of
-- a and b, no floor heeded": the recognitions of entry n, which has this operator, over the events es; ts holds those of the lower entries.
unfoldable pub recognitions_of : ℕ → Operator → List Event → List Recognition → List Recognition
-- event k: "each event of code k"
recognitions_of n (event k) es ts = map (λ e. of_event n e.serial e.instant) (keep (λ e. eqb e.code k) es)
-- seq, and, meets, overlaps, starts, during, finishes, equals a b: each r with each s that is related to it
recognitions_of n (related c a b) es ts = each (λ r. map (of_two n r) (keep (λ s. are_related c r s) (of_entry b ts))) (of_entry a ts)
-- or a b: "each r; each s"
recognitions_of n (or a b) es ts = map (of_one n left) (of_entry a ts) ++ map (of_one n right) (of_entry b ts)
-- -[] -][ -[[ -]] a b: "each r with no forbidding s"
recognitions_of n (absence c a b) es ts = map (of_one n only) (keep (λ r. not (some (λ s. forbids c s r) (of_entry b ts))) (of_entry a ts))
-- lasts, atmost, atleast a d: each r that lasts so long
recognitions_of n (lasting c a d) es ts = map (of_one n only) (keep (λ r. is_lasting c d r) (of_entry a ts))
-- after a d: "for each row r of a"
recognitions_of n (after a d) es ts = map (of_one n (delayed d)) (of_entry a ts)
-- cut, change a b: each r with each s that is nearest to it
recognitions_of n (nearest c a b) es ts = each (λ r. map (of_two n r) (keep (λ s. are_nearest c (of_entry a ts) (of_entry b ts) r s) (of_entry b ts))) (of_entry a ts)

-- to the recognitions of the entries below n, those of the entries from n on
unfoldable pub with_entries : ℕ → List Operator → List Event → List Recognition → List Recognition
with_entries n [] es ts = ts
with_entries n (op ∷ ops) es ts = with_entries (suc n) ops es (ts ++ recognitions_of n op es ts)

-- the recognitions of all entries of a chart over a list of events
unfoldable pub recognitions : List Operator → List Event → List Recognition
recognitions chart es = with_entries 0 chart es []
