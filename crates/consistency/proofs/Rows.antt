-- The tests of one row over the numbers of the table are the model's tests of that row.
use Prim.Native.Nat.{ℕ, zero, suc, ◌+◌, ◌*◌, ◌<◌, ◌≤◌}
use native.Mathlib.Omega.{arith}
use mathlib.Core.Path.{◌≡◌, refl, sym, ap, ap₂, ◌∙◌}
use mathlib.Core.Bool.{Bool, true, false, cond, ◌&&◌, ◌||◌}
use mathlib.Core.List.{List}
use Rattle.std.specs.Prelude.{Option, Some, None}
use Rattle.std.specs.Option.{option_map_or}
use borrow.Author.Tests.{ltb-true, ltb-false, le-leb, lt-leb}
use lib.Dec.{eqb, ltb, leb}
use lib.IntN.{ℤ, pos, negsuc, nat_abs}
use lib.ListN.{length, take}
use lib.Seq.{get_or-take, length-take-le}
use lib.Signed.{lt_z, le_z}
use mir.Syntax.{w32}
use mir.Val.{SFits}
use Rattle.interval.specs.Instants.{eq_z, least, greatest}
use Rattle.interval.specs.Conditions.{is_related, has_length}
use Rattle.interval.specs.declared.Relation.{Relation}
use Rattle.interval.specs.declared.Relation.TheVariants.{Seq}
use Rattle.interval.specs.declared.LengthTest.{LengthTest}
use Rattle.interval.proofs.Signed.{signed, never, and_first, eq_true}
use Rattle.interval.proofs.Machine.{fits32}
use Rattle.chart.specs.Operators.{kind_of, shape_of, in_range}
use Rattle.chart.specs.Charts.{is_usable, entry_at}
use Rattle.chart.specs.declared.Chart.{Chart}
use Rattle.chart.specs.declared.operator.Kind.{Kind}
use Rattle.chart.specs.declared.operator.Kind.TheVariants.{Event, Or, Pair, Absence, Length, After, Nearest, Unknown}
use Rattle.chart.proofs.Usable.{usable_fits, fits_range, range_unknown}
use Rattle.state.specs.State.{entry_since}
use Rattle.state.specs.declared.WatchState.{WatchState}
use Rattle.model.specs.Order.{since_of, Row}
use Rattle.model.specs.Recognitions.{Arm, only, left, right, delayed}
use Rattle.model.specs.RowSteps.{row_at}
use Rattle.model.specs.Consistency.{is_none, refers, spans_one, spans_two, is_serial, agrees, agrees_at, is_ordered, is_row_consistent}
use Rattle.table.specs.Table.{cell, stored_row, model_row, table_row, rows_in}
use Rattle.table.specs.Operators.{operator_by, entry_operator, operators_of}
use Rattle.table.specs.declared.Row as stored
use Rattle.table.proofs.Rows.{row_at_lem, row_same}
use Rattle.table.proofs.Operators.{operator_is, Lookup, operator_at, operator_past}
use Rattle.consistency.specs.Consistency.{is_table_row_consistent}
use Rattle.consistency.specs.Rows.{limits_of, exchanged, entry_of, part_at, last_end, is_within, is_event_row, meets_condition, spans_part, waits_for, spans_parts, has_one, is_left_row, is_single_row, is_delayed_row, is_arm_row, is_pair_row, agrees_by, is_row_of}

-- row i is not before the row before it; the same by the number the code holds
unfoldable pub is_after_last : List ℤ → ℕ → ℤ → Bool
is_after_last t zero e = true
is_after_last t (suc i) e = le_z (cell t i 4) e

pub after_last : (t : List ℤ) (i : ℕ) (e : ℤ) → SFits w32 e → le_z (last_end t i) e ≡ is_after_last t i e
unfolding last_end is_after_last
after_last t zero e f = omega (arith, signed, fits32 e f)
after_last t (suc i) e f = refl

pub last_next : (t : List ℤ) (i : ℕ) → last_end t (i + 1) ≡ cell t i 4
unfolding last_end
last_next t i = let p : i + 1 ≡ suc i = omega arith in rw p

-- Booleans
and_false : (a : Bool) → (a && false) ≡ false
and_false true = refl
and_false false = refl

and_same : (a : Bool) → a ≡ (a && true)
and_same true = refl
and_same false = refl

and_swap : (a b : Bool) → (a && b) ≡ (b && a)
and_swap true b = and_same b
and_swap false b = sym (and_false b)

pub and_group : (a b c : Bool) → ((a && b) && c) ≡ (a && (b && c))
and_group true b c = refl
and_group false b c = refl

-- a part that is asked f and c, and a right that is none: first c, then the right, then the part
one_is : (f g : stored.Row → Bool) (c n : Bool) → ((q : stored.Row) → g q ≡ (f q && c)) → (o : Option stored.Row) → (option_map_or g o false && n) ≡ (c && (n && option_map_or f o false))
one_is f g c n h None = sym (simp and_false)
one_is f g c n h (Some q) = rw (h q) (turn (f q) c n)
  where
    turn : (a b d : Bool) → ((a && b) && d) ≡ (b && (d && a))
    turn true true d = and_same d
    turn true false d = refl
    turn false b d = sym (simp and_false)

-- a length test of a part is one of the row, where they start and end alike
same_length : (c : LengthTest) (d : ℕ) (s e s' e' : ℤ) → ((eq_z s s' && eq_z e e') && has_length c d s' e') ≡ ((eq_z s s' && eq_z e e') && has_length c d s e)
same_length c d s e s' e' = go (eq_z s s') refl (eq_z e e') refl
  where
    go : (a : Bool) → eq_z s s' ≡ a → (b : Bool) → eq_z e e' ≡ b → ((a && b) && has_length c d s' e') ≡ ((a && b) && has_length c d s e)
    go true p true q = ap₂ (has_length c d) (sym (eq_true s s' p)) (sym (eq_true e e' q))
    go true p false q = refl
    go false p b q = refl

-- `lower` are the numbers of i rows, those of rs, and their entries are no negative numbers
record Below (rs : List Row) (lower : List ℤ) (i : ℕ) : Type 0 where
  size : length lower ≡ i * 5
  same : (j : ℕ) → j < i → row_at rs j ≡ table_row lower j
  above : (j : ℕ) → j < i → le_z (pos 0) (cell lower j 0) ≡ true

-- the entry of a lower row, which is no negative number
entry_is : (z : ℤ) (a : ℕ) → le_z (pos 0) z ≡ true → eqb (nat_abs z) a ≡ eq_z z (pos a)
entry_is (pos n) a e = refl
entry_is (negsuc n) a e = never e

-- row i, which is r; rs are rows of which those before row i are those of `lower`
module _ (count : ℕ) (rs : List Row) (lower : List ℤ) (i : ℕ) (below : Below rs lower i) (r : stored.Row) where
  refers_is : (z : ℤ) (a : ℕ) (p : Row → Bool) → refers count rs i (model_row r) z a p ≡ option_map_or (λ q. p (model_row q)) (part_at lower z a) false
  unfolding part_at
  refers_is (pos j) a p = go (ltb j i) refl
    where
      found : (e : Bool) → (e && p (table_row lower j)) ≡ option_map_or (λ q. p (model_row q)) (cond e (Some (stored_row lower j)) None) false
      found true = refl
      found false = refl

      go : (b : Bool) → ltb j i ≡ b → refers count rs i (model_row r) (pos j) a p ≡ option_map_or (λ q. p (model_row q)) (part_at lower (pos j) a) false
      go true h =
          let l : j < i = ltb-true j i h in
          simp (le-leb 0 j (omega arith), le-leb (j * 5 + 5) (length lower) (omega (arith, below.size)), h, below.same j l, entry_is (cell lower j 0) a (below.above j l)) (found (eq_z (cell lower j 0) (pos a)))
      go false h = simp (le-leb 0 j (omega arith), lt-leb (j * 5 + 5) (length lower) (omega (arith, ltb-false j i h, below.size)), h)
  refers_is (negsuc j) a p = refl

  event_is : (z : ℤ) (x : Bool) → (is_serial count rs i (model_row r) z && x) ≡ (le_z (pos 1) z && (leb (nat_abs z) count && x))
  event_is (pos k) x = and_group (leb 1 k) (leb k count) x
  event_is (negsuc k) x = refl

  -- one part, of which f is asked, and c of the row itself
  part_is : (f : stored.Row → Bool) (c : Bool) (a : ℕ) (p : Row → Bool) → ((q : stored.Row) → p (model_row q) ≡ (f q && c)) → (refers count rs i (model_row r) r.left a p && is_none r.right) ≡ (c && has_one f a lower r)
  part_is f c a p h = ap (λ x. x && is_none r.right) (refers_is r.left a p) ∙ one_is f (λ q. p (model_row q)) c (is_none r.right) h (part_at lower r.left a)

module _ (count : ℕ) (rs : List Row) (lower : List ℤ) (i : ℕ) (below : Below rs lower i) (r : stored.Row) where
  -- a part of which nothing but start and end is asked
  abbrev alike : Arm → Row → Bool
  alike = spans_one count rs i (model_row r)

  -- two parts, of which c is asked
  two_is : (c : Relation) (k : Kind) (a b : ℕ) → ((p q : stored.Row) → meets_condition k b p q ≡ is_related c p.start p.end q.start q.end) → refers count rs i (model_row r) r.left a (λ p. refers count rs i (model_row r) r.right b (spans_two count rs i (model_row r) c p)) ≡ is_pair_row k a b lower r
  unfolding is_pair_row
  two_is c k a b e = refers_is count rs lower i below r r.left a (λ p. refers count rs i (model_row r) r.right b (spans_two count rs i (model_row r) c p)) ∙ go (part_at lower r.left a)
    where
      second : (p : stored.Row) (o : Option stored.Row) → option_map_or (λ q. spans_two count rs i (model_row r) c (model_row p) (model_row q)) o false ≡ option_map_or (λ q. spans_parts r p q && meets_condition k b p q) o false
      second p None = refl
      second p (Some q) = rw (e p q) (sym (and_group (eq_z r.start (least p.start q.start)) (eq_z r.end (greatest p.end q.end)) (is_related c p.start p.end q.start q.end)))

      go : (o : Option stored.Row) → option_map_or (λ p. refers count rs i (model_row r) r.right b (spans_two count rs i (model_row r) c (model_row p))) o false ≡ option_map_or (λ p. option_map_or (λ q. spans_parts r p q && meets_condition k b p q) (part_at lower r.right b) false) o false
      go None = refl
      go (Some p) = refers_is count rs lower i below r r.right b (spans_two count rs i (model_row r) c (model_row p)) ∙ second p (part_at lower r.right b)

  agrees_is : (k : Kind) (a b : ℕ) → in_range k a b ≡ true → agrees count rs i (model_row r) (operator_by k a b) ≡ agrees_by (shape_of k) k a b count lower r
  unfolding agrees_by is_event_row is_left_row is_single_row is_delayed_row is_arm_row meets_condition
  agrees_is Event a b h = ap (agrees count rs i (model_row r)) (operator_is Event a b) ∙ event_is count rs lower i below r r.left (is_none r.right && eq_z r.start r.end)
  agrees_is Or a b h =
      ap (agrees count rs i (model_row r)) (operator_is Or a b)
      ∙ ap₂ ◌||◌
      (part_is count rs lower i below r (spans_part r) true a (alike left) (λ q. and_same (alike left (model_row q))))
      (and_swap (is_none r.left) (refers count rs i (model_row r) r.right b (alike right)) ∙ part_is count rs lower i below (exchanged r) (spans_part r) true b (alike right) (λ q. and_same (alike right (model_row q))))
  agrees_is (Pair c) a b h = ap (agrees count rs i (model_row r)) (operator_is (Pair c) a b) ∙ two_is c (Pair c) a b (λ p q. refl)
  agrees_is (Absence c) a b h = ap (agrees count rs i (model_row r)) (operator_is (Absence c) a b) ∙ part_is count rs lower i below r (spans_part r) true a (alike only) (λ q. and_same (alike only (model_row q)))
  agrees_is (Length c) a b h = ap (agrees count rs i (model_row r)) (operator_is (Length c) a b) ∙ part_is count rs lower i below r (spans_part r) (has_length c b r.start r.end) a (λ q. alike only q && has_length c b q.start q.end) (λ q. same_length c b r.start r.end q.start q.end)
  agrees_is After a b h = ap (agrees count rs i (model_row r)) (operator_is After a b) ∙ part_is count rs lower i below r (waits_for b r) true a (alike (delayed b)) (λ q. and_same (alike (delayed b) (model_row q)))
  agrees_is (Nearest c) a b h = ap (agrees count rs i (model_row r)) (operator_is (Nearest c) a b) ∙ two_is Seq (Nearest c) a b (λ p q. refl)
  agrees_is Unknown a b h = never (sym (range_unknown a b) ∙ h)

-- the operator of an entry, in a list of as many as there are entries
module _ (chart : Chart) (count : ℕ) (rs : List Row) (i : ℕ) (r : Row) where
  lookup : Lookup (agrees_at count rs i r) (agrees count rs i r) false
  lookup = record { none = λ n. refl; first = λ op ops. refl; later = λ op ops n. refl }

  at_entry : (n : ℕ) → n < chart.count → agrees_at count rs i r (operators_of chart) n ≡ agrees count rs i r (entry_operator (entry_at chart n))
  at_entry = operator_at (agrees_at count rs i r) (agrees count rs i r) false lookup chart

  pub no_operator : (n : ℕ) → chart.count ≤ n → agrees_at count rs i r (operators_of chart) n ≡ false
  no_operator = operator_past (agrees_at count rs i r) (agrees count rs i r) false lookup chart

-- the rows of a table
ordered_is : (rows : ℕ) (t : List ℤ) (i : ℕ) → i < rows → is_ordered (rows_in rows t) i ≡ is_after_last t i (cell t i 4)
unfolding is_after_last
ordered_is rows t zero h = refl
ordered_is rows t (suc i) h = ap₂ (λ p q. le_z p.end q.end) (row_at_lem rows i t (omega arith)) (row_at_lem rows (suc i) t h)

-- the rows before row i
module _ (rows : ℕ) (t : List ℤ) (i : ℕ) where
  lower_cell : (j k : ℕ) → j < i → k < 5 → cell (take (i * 5) t) j k ≡ cell t j k
  lower_cell j k l m = get_or-take (i * 5) t (j * 5 + k) (pos 0) (omega arith)

  below_is : i < rows → i * 5 ≤ length t → ((j : ℕ) → j < i → le_z (pos 0) (cell t j 0) ≡ true) → Below (rows_in rows t) (take (i * 5) t) i
  below_is here fit above = record {
    size = length-take-le (i * 5) t fit;
    same = λ j l. row_at_lem rows j t (omega arith) ∙ sym (row_same (take (i * 5) t) t j (λ k m. lower_cell j k l m));
    above = λ j l. rw (lower_cell j 0 l (omega arith)) (above j l);
  }

-- the entry that a row has, where it is one of so many
record Found (t : List ℤ) (i count n : ℕ) : Type 0 where
  above : le_z (pos 0) (cell t i 0) ≡ true
  is : nat_abs (cell t i 0) ≡ n
  few : n < count

found : (t : List ℤ) (i count n : ℕ) → entry_of (stored_row t i) count ≡ Some n → Found t i count n
unfolding entry_of
found t i count n = go (le_z (pos 0) (cell t i 0)) refl (ltb (nat_abs (cell t i 0)) count) refl
  where
    go : (a : Bool) → le_z (pos 0) (cell t i 0) ≡ a → (b : Bool) → ltb (nat_abs (cell t i 0)) count ≡ b → cond (a && b) (Some (nat_abs (cell t i 0))) None ≡ Some n → Found t i count n
    go true p true q e = let is : nat_abs (cell t i 0) ≡ n = cc in record { above = p; is = is; few = rw (← is) (ltb-true _ _ q) }
    go true p false q e = cc
    go false p b q e = cc

module _ (chart : Chart) (w : WatchState) (t : List ℤ) (i : ℕ) where
  pub row_above : is_table_row_consistent chart w t i ≡ true → le_z (pos 0) (cell t i 0) ≡ true
  unfolding is_table_row_consistent
  row_above e = and_first (le_z (pos 0) (cell t i 0)) (is_row_consistent (operators_of chart) (entry_since w) w.floor w.instant w.events (rows_in w.rows t) i) e

  module _ (here : i < w.rows) where
    -- the same over the row's numbers
    pub row_told : is_row_consistent (operators_of chart) (entry_since w) w.floor w.instant w.events (rows_in w.rows t) i ≡ (le_z w.floor (cell t i 3) && (le_z (since_of (entry_since w) (nat_abs (cell t i 0))) (cell t i 3) && (lt_z (cell t i 4) w.instant && (is_after_last t i (cell t i 4) && agrees_at w.events (rows_in w.rows t) i (table_row t i) (operators_of chart) (nat_abs (cell t i 0))))))
    row_told = simp (row_at_lem w.rows i t here, ordered_is w.rows t i here)

    -- a row whose entry is not in the chart
    pub row_unknown : w.entries ≡ chart.count → entry_of (stored_row t i) w.entries ≡ None → is_table_row_consistent chart w t i ≡ false
    unfolding entry_of is_table_row_consistent
    row_unknown s = go (le_z (pos 0) (cell t i 0)) refl (ltb (nat_abs (cell t i 0)) w.entries) refl
      where
        go : (a : Bool) → le_z (pos 0) (cell t i 0) ≡ a → (b : Bool) → ltb (nat_abs (cell t i 0)) w.entries ≡ b → cond (a && b) (Some (nat_abs (cell t i 0))) None ≡ None → (le_z (pos 0) (cell t i 0) && is_row_consistent (operators_of chart) (entry_since w) w.floor w.instant w.events (rows_in w.rows t) i) ≡ false
        go true p true q e = cc
        go true p false q e = simp (row_told, no_operator chart w.events (rows_in w.rows t) i (table_row t i) (nat_abs (cell t i 0)) (omega (arith, s, ltb-false (nat_abs (cell t i 0)) w.entries q)), and_false)
        go false p b q e = rw p refl

    pub row_is : is_usable chart ≡ true → w.entries ≡ chart.count → SFits w32 (cell t i 4) → i * 5 ≤ length t → ((j : ℕ) → j < i → le_z (pos 0) (cell t j 0) ≡ true) → (n : ℕ) → entry_of (stored_row t i) w.entries ≡ Some n → is_table_row_consistent chart w t i ≡ is_row_of (entry_at chart n) (limits_of w (since_of w.since n) (last_end t i)) (take (i * 5) t) (stored_row t i)
    unfolding is_table_row_consistent is_row_of is_within
    row_is u s f fit above n e =
        let h = found t i w.entries n e in
        let m = entry_at chart n in
        let rs = rows_in w.rows t in
        let known : n < chart.count = omega (arith, h.few, s) in
        let fits : in_range (kind_of m.op) m.a m.b ≡ true = fits_range n m (usable_fits chart u n known) in
        simp (h.above, row_told, h.is, get_or-take w.entries w.since n (pos 0) h.few, after_last t i (cell t i 4) f, at_entry chart w.events rs i (table_row t i) n known, agrees_is w.events rs (take (i * 5) t) i (below_is w.rows t i here fit above) (stored_row t i) (kind_of m.op) m.a m.b fits, and_group)
