-- When rows are consistent: the contrary of document 01's "Out of joint", the part of that paragraph that speaks of the rows in use. Nothing here has to
-- be believed for the reference model; it says what refusal 13 is.
use Rattle.std.specs.Prelude.{ℕ, zero, suc, Bool, true, false, ◌&&◌, ◌||◌, List, [], ◌∷◌, ltb, leb, eqb, ℤ, pos, negsuc, length}
use Rattle.std.specs.Int.Signed.{lt_z, le_z}
use Rattle.interval.specs.Instants.{is_instant, first_floor, eq_z, least, greatest}
use Rattle.interval.specs.Conditions.{is_related, has_length}
use Rattle.interval.specs.declared.Relation.{Relation}
use Rattle.interval.specs.declared.Relation.TheVariants.{Seq}
use Rattle.model.specs.Lists.{every, numbers}
use Rattle.model.specs.Recognitions.{Operator, event, related, or, absence, lasting, after, nearest, Arm, only, left, right, delayed, end_by}
use Rattle.model.specs.Order.{since_of, Row, none}
use Rattle.model.specs.RowSteps.{row_at, Watch}

abbrev pub is_none : ℤ → Bool
is_none z = eq_z z none

-- row i, which is r, of a table with this count of events
module _ (count : ℕ) (rs : List Row) (i : ℕ) (r : Row) where
  -- "references aren't lower rows of the operand entries": z is the number of a lower row of entry a, and p holds of that row
  abbrev pub refers : ℤ → ℕ → (Row → Bool) → Bool
  refers (pos j) a p = ltb j i && (eqb (row_at rs j).entry a && p (row_at rs j))
  refers (negsuc j) a p = false

  -- "start, end or non-absence condition disagrees with them"
  abbrev pub spans_one : Arm → Row → Bool
  spans_one m q = eq_z r.start q.start && eq_z r.end (end_by m q.end)

  abbrev pub spans_two : Relation → Row → Row → Bool
  spans_two c p q = eq_z r.start (least p.start q.start) && (eq_z r.end (greatest p.end q.end) && is_related c p.start p.end q.start q.end)

  -- "An event row's serial is 1 to the count"
  abbrev pub is_serial : ℤ → Bool
  is_serial (pos n) = leb 1 n && leb n count
  is_serial (negsuc n) = false

  -- "with -1 just where the operator table has it"; an absence's condition is not asked, and of cut and change only
  -- "end r < start s"
  abbrev pub agrees : Operator → Bool
  agrees (event k) = is_serial r.left && (is_none r.right && eq_z r.start r.end)
  agrees (related c a b) = refers r.left a (λ p. refers r.right b (spans_two c p))
  agrees (or a b) = (refers r.left a (spans_one left) && is_none r.right) || (is_none r.left && refers r.right b (spans_one right))
  agrees (absence c a b) = refers r.left a (spans_one only) && is_none r.right
  agrees (lasting c a d) = refers r.left a (λ q. spans_one only q && has_length c d q.start q.end) && is_none r.right
  agrees (after a d) = refers r.left a (spans_one (delayed d)) && is_none r.right
  agrees (nearest c a b) = refers r.left a (λ p. refers r.right b (spans_two Seq p))

  -- "a row whose entry is not in the chart"
  abbrev pub agrees_at : List Operator → ℕ → Bool
  agrees_at [] n = false
  agrees_at (op ∷ ops) zero = agrees op
  agrees_at (op ∷ ops) (suc n) = agrees_at ops n

-- "end ... is before its predecessor's end"
abbrev pub is_ordered : List Row → ℕ → Bool
is_ordered rs zero = true
is_ordered rs (suc i) = le_z (row_at rs i).end (row_at rs (suc i)).end

-- "start is below the floor, end is not before the open instant"; "the out-of-joint rule use[s] the entry's own instant"
abbrev pub is_row_consistent : List Operator → List ℤ → ℤ → ℤ → ℕ → List Row → ℕ → Bool
is_row_consistent chart since f o count rs i =
    le_z f (row_at rs i).start && (le_z (since_of since (row_at rs i).entry) (row_at rs i).start
    && (lt_z (row_at rs i).end o && (is_ordered rs i && agrees_at count rs i (row_at rs i) chart (row_at rs i).entry)))

unfoldable pub are_rows_consistent : List Operator → List ℤ → ℤ → ℤ → ℕ → List Row → Bool
are_rows_consistent chart since f o count rs = every (is_row_consistent chart since f o count rs) (numbers 0 (length rs))

-- "that instant may not fall from one entry to the next, nor lie below -1,000,000,000 or above the open instant": from a on to o
unfoldable pub is_rising : ℤ → ℤ → List ℤ → Bool
is_rising a o [] = le_z a o
is_rising a o (s ∷ ss) = le_z a s && is_rising s o ss

-- "Out of joint: open instant or floor out of range; floor above open; over 64 pending events, more pending than counted, or a count
-- above 1,000,000; more rows than fit; ... or a row ...". "A watch with another number of entries than the chart is out of joint." That an
-- unused row is all zeros is left to the table of numbers.
unfoldable pub is_consistent : ℕ → Watch → Bool
is_consistent capacity w =
    is_instant w.open_instant && (is_instant w.floor && (le_z w.floor w.open_instant
    && (eqb (length w.since) (length w.chart) && (is_rising first_floor w.open_instant w.since
    && (leb (length w.pending) 64 && (leb (length w.pending) w.count && (leb w.count 1000000
    && (leb (length w.rows) capacity && are_rows_consistent w.chart w.since w.floor w.open_instant w.count w.rows))))))))
