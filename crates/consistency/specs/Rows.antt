-- The tests of one row as the code makes them, over the numbers of the table. Nothing here has to be believed: proofs/Rows.antt shows
-- that they are the model's tests of that row.
-- r is the row and `lower` the part of the table before it; k is its entry's kind, a and b are the entry's operands.
use Rattle.std.specs.Prelude.{ℕ, zero, suc, ◌+◌, ◌*◌, Bool, true, false, cond, ◌&&◌, ◌||◌, Option, Some, None, List, ltb, leb, ℤ, pos, negsuc, nat_abs, ◌+ℤ◌, length}
use Rattle.std.specs.Option.{option_map_or}
use Rattle.std.specs.Int.Signed.{le_z, lt_z}
use Rattle.interval.specs.Instants.{eq_z, least, greatest}
use Rattle.interval.specs.Conditions.{is_related, has_length}
use Rattle.interval.specs.declared.Relation.TheVariants.{Seq}
use Rattle.chart.specs.Operators.{kind_of, shape_of}
use Rattle.chart.specs.declared.Entry.{Entry}
use Rattle.chart.specs.declared.operator.Kind.{Kind}
use Rattle.chart.specs.declared.operator.Kind.TheVariants.{Event, Or, Pair, Absence, Length, After, Nearest, Unknown}
use Rattle.chart.specs.declared.operator.Shape.{Shape}
use Rattle.chart.specs.declared.operator.Shape.TheVariants.{Leaf, Single, Arms, Double, Delayed}
use Rattle.state.specs.declared.WatchState.{WatchState}
use Rattle.model.specs.Order.{none}
use Rattle.table.specs.Table.{cell, stored_row}
use Rattle.table.specs.declared.Row.{Row}
use Rattle.consistency.specs.declared.Limits.{Limits}

abbrev pub least_number : ℤ
least_number = negsuc 2147483647

-- the end of the row before row i; before row 0, no end is less
unfoldable pub last_end : List ℤ → ℕ → ℤ
last_end t zero = least_number
last_end t (suc i) = cell t i 4

-- for a row whose entry counts from `since`, after one that ends at `last`
abbrev pub limits_of : WatchState → ℤ → ℤ → Limits
limits_of w since last = record { instant = w.instant; floor = w.floor; since = since; last = last; events = w.events }

abbrev pub exchanged : Row → Row
exchanged r = record { entry = r.entry; left = r.right; right = r.left; start = r.start; end = r.end }

-- the entry of a row, where it is one of so many
unfoldable pub entry_of : Row → ℕ → Option ℕ
entry_of r count = cond (le_z (pos 0) r.entry && ltb (nat_abs r.entry) count) (Some (nat_abs r.entry)) None

-- the row that z refers to, where that is one of the rows before and of entry a
unfoldable pub part_at : List ℤ → ℤ → ℕ → Option Row
part_at lower z a = cond (le_z (pos 0) z && (leb (nat_abs z * 5 + 5) (length lower) && eq_z (cell lower (nat_abs z) 0) (pos a))) (Some (stored_row lower (nat_abs z))) None

unfoldable pub is_within : Limits → Row → Bool
is_within l r = le_z l.floor r.start && le_z l.since r.start && lt_z r.end l.instant && le_z l.last r.end

unfoldable pub is_event_row : ℕ → Row → Bool
is_event_row events r = le_z (pos 1) r.left && (leb (nat_abs r.left) events && (eq_z r.right none && eq_z r.start r.end))

-- the condition on the parts p and q; "For both, the out-of-joint rule checks only end r < start s" (request N5)
unfoldable pub meets_condition : Kind → ℕ → Row → Row → Bool
meets_condition Event b p q = true
meets_condition Or b p q = true
meets_condition (Pair c) b p q = is_related c p.start p.end q.start q.end
meets_condition (Absence e) b p q = true
meets_condition (Length c) b p q = has_length c b p.start p.end
meets_condition After b p q = true
meets_condition (Nearest c) b p q = is_related Seq p.start p.end q.start q.end
meets_condition Unknown b p q = true

-- start and end are those of the one part p; or the end is d later
abbrev pub spans_part : Row → Row → Bool
spans_part r p = eq_z r.start p.start && eq_z r.end p.end

abbrev pub waits_for : ℕ → Row → Row → Bool
waits_for d r p = eq_z r.start p.start && eq_z r.end (p.end +ℤ pos d)

-- start and end are those of p and q together
abbrev pub spans_parts : Row → Row → Row → Bool
spans_parts r p q = eq_z r.start (least p.start q.start) && eq_z r.end (greatest p.end q.end)

-- a row of one part, on the left and of entry a, of which f holds
abbrev pub has_one : (Row → Bool) → ℕ → List ℤ → Row → Bool
has_one f a lower r = eq_z r.right none && option_map_or f (part_at lower r.left a) false

unfoldable pub is_left_row : ℕ → List ℤ → Row → Bool
is_left_row a lower r = has_one (spans_part r) a lower r

unfoldable pub is_single_row : Kind → ℕ → ℕ → List ℤ → Row → Bool
is_single_row k a b lower r = meets_condition k b r r && is_left_row a lower r

unfoldable pub is_delayed_row : ℕ → ℕ → List ℤ → Row → Bool
is_delayed_row a d lower r = has_one (waits_for d r) a lower r

unfoldable pub is_arm_row : ℕ → ℕ → List ℤ → Row → Bool
is_arm_row a b lower r = is_left_row a lower r || is_left_row b lower (exchanged r)

unfoldable pub is_pair_row : Kind → ℕ → ℕ → List ℤ → Row → Bool
is_pair_row k a b lower r =
    option_map_or (λ p. option_map_or (λ q. spans_parts r p q && meets_condition k b p q) (part_at lower r.right b) false) (part_at lower r.left a) false

unfoldable pub agrees_by : Shape → Kind → ℕ → ℕ → ℕ → List ℤ → Row → Bool
agrees_by Leaf k a b events lower r = is_event_row events r
agrees_by Single k a b events lower r = is_single_row k a b lower r
agrees_by Arms k a b events lower r = is_arm_row a b lower r
agrees_by Double k a b events lower r = is_pair_row k a b lower r
agrees_by Delayed k a b events lower r = is_delayed_row a b lower r

unfoldable pub is_row_of : Entry → Limits → List ℤ → Row → Bool
is_row_of e l lower r = is_within l r && agrees_by (shape_of (kind_of e.op)) (kind_of e.op) e.a e.b l.events lower r
