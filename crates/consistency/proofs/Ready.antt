-- What the model's test of a row tells of it: references to lower rows, and a start that is no later than the end.
use Prim.Native.Nat.{ℕ, zero, suc, ◌<◌}
use native.Mathlib.Omega.{arith}
use mathlib.Core.Path.{◌≡◌, refl, sym}
use mathlib.Core.Logic.{◌⊎◌, inl, inr}
use mathlib.Core.Bool.{Bool, true, false, ◌&&◌, ◌||◌}
use mathlib.Core.List.{List, [], ◌∷◌}
use borrow.Author.Tests.{ltb-true}
use lib.Dec.{eqb, ltb}
use lib.IntN.{ℤ, pos, negsuc, nat_abs}
use lib.Signed.{le_z}
use Rattle.interval.specs.Instants.{eq_z, least, greatest}
use Rattle.interval.specs.Conditions.{is_related, has_length}
use Rattle.interval.specs.declared.Relation.{Relation}
use Rattle.interval.specs.declared.Relation.TheVariants.{Seq}
use Rattle.interval.proofs.Signed.{◌≤ᶻ◌, signed, never, and_first, and_second, eq_true, eq_told}
use Rattle.interval.proofs.Laws.{start_le_end}
use Rattle.model.specs.Order.{Row, none}
use Rattle.model.specs.Recognitions.{Operator, event, related, or, absence, lasting, after, nearest, Arm, only, left, right, delayed, end_by}
use Rattle.model.specs.RowSteps.{row_at, is_event, is_event_at}
use Rattle.model.specs.Consistency.{is_none, refers, spans_one, spans_two, is_serial, agrees, agrees_at}
use Rattle.model.proofs.Trees.{end_by_lem}
use Rattle.table.specs.Ready.{Refers}

or_cases : (a b : Bool) → (a || b) ≡ true → (a ≡ true) ⊎ (b ≡ true)
or_cases true b e = inl refl
or_cases false b e = inr e

-- z is the number of a lower row, of which p holds
record Referred (rs : List Row) (i : ℕ) (z : ℤ) (p : Row → Bool) : Type 0 where
  number : le_z (pos 0) z ≡ true
  lower : nat_abs z < i
  holds : p (row_at rs (nat_abs z)) ≡ true

-- what is told of row i, which is r; `b`: it is an event's
pub record Shape (rs : List Row) (i : ℕ) (r : Row) (b : Bool) : Type 0 where
  pub left : b ≡ false → Refers i r.left
  pub right : Refers i r.right
  pub proper : ((j : ℕ) → j < i → (row_at rs j).start ≤ᶻ (row_at rs j).end) → r.start ≤ᶻ r.end

module _ (count : ℕ) (rs : List Row) (i : ℕ) (r : Row) where
  abbrev alike : Arm → Row → Bool
  alike = spans_one count rs i r

  referred : (z : ℤ) (a : ℕ) (p : Row → Bool) → refers count rs i r z a p ≡ true → Referred rs i z p
  referred (pos j) a p e =
      let q = row_at rs j in
      record {
        number = omega (arith, signed);
        lower = ltb-true j i (and_first (ltb j i) (eqb q.entry a && p q) e);
        holds = and_second (eqb q.entry a) (p q) (and_second (ltb j i) (eqb q.entry a && p q) e);
      }
  referred (negsuc j) a p e = never e

  lower_row : (z : ℤ) (p : Row → Bool) → Referred rs i z p → Refers i z
  lower_row z p h = inr (h.number, h.lower)

  no_row : (z : ℤ) → is_none z ≡ true → Refers i z
  no_row z e = inl (eq_true z none e)

  event_shape : (is_serial count rs i r r.left && (is_none r.right && eq_z r.start r.end)) ≡ true → Shape rs i r true
  event_shape e =
      let n = is_none r.right in
      let s = eq_z r.start r.end in
      let h = and_second (is_serial count rs i r r.left) (n && s) e in
      record { left = λ d. never (sym d); right = no_row r.right (and_first n s h); proper = λ before. omega (arith, eq_told r.start r.end (and_second n s h)) }

  -- one part, on either side
  single_shape : (m : Arm) (z : ℤ) → Referred rs i z (alike m) → Refers i r.left → Refers i r.right → Shape rs i r false
  single_shape m z h x y =
      let q = row_at rs (nat_abs z) in
      let s = eq_z r.start q.start in
      let e = eq_z r.end (end_by m q.end) in
      record { left = λ d. x; right = y; proper = λ before. omega (arith, eq_told r.start q.start (and_first s e h.holds), eq_told r.end (end_by m q.end) (and_second s e h.holds), end_by_lem m q.end, before (nat_abs z) h.lower) }

  left_shape : (m : Arm) → Referred rs i r.left (alike m) → is_none r.right ≡ true → Shape rs i r false
  left_shape m h n = single_shape m r.left h (lower_row r.left (alike m) h) (no_row r.right n)

  -- of entry a, with nothing asked of it but start and end
  plain_shape : (m : Arm) (a : ℕ) → (refers count rs i r r.left a (alike m) && is_none r.right) ≡ true → Shape rs i r false
  plain_shape m a e =
      let x = refers count rs i r r.left a (alike m) in
      left_shape m (referred r.left a (alike m) (and_first x (is_none r.right) e)) (and_second x (is_none r.right) e)

  right_shape : (a : ℕ) → (is_none r.left && refers count rs i r r.right a (alike right)) ≡ true → Shape rs i r false
  right_shape a e =
      let x = refers count rs i r r.right a (alike right) in
      let h = referred r.right a (alike right) (and_second (is_none r.left) x e) in
      single_shape right r.right h (no_row r.left (and_first (is_none r.left) x e)) (lower_row r.right (alike right) h)

  -- two parts, of which k is asked
  double_shape : (k : Relation) (a b : ℕ) → refers count rs i r r.left a (λ p. refers count rs i r r.right b (spans_two count rs i r k p)) ≡ true → Shape rs i r false
  double_shape k a b e =
      let f : Row → Bool = λ p. refers count rs i r r.right b (spans_two count rs i r k p) in
      let x = referred r.left a f e in
      let p = row_at rs (nat_abs r.left) in
      let y = referred r.right b (spans_two count rs i r k p) x.holds in
      let q = row_at rs (nat_abs r.right) in
      let s = eq_z r.start (least p.start q.start) in
      let d = eq_z r.end (greatest p.end q.end) in
      let c = is_related k p.start p.end q.start q.end in
      record {
        left = λ n. lower_row r.left f x;
        right = lower_row r.right (spans_two count rs i r k p) y;
        proper = λ before. omega (arith, eq_told r.start (least p.start q.start) (and_first s (d && c) y.holds), eq_told r.end (greatest p.end q.end) (and_first d c (and_second s (d && c) y.holds)), start_le_end p.start p.end q.start q.end (before (nat_abs r.left) x.lower) (before (nat_abs r.right) y.lower));
      }

  shape : (op : Operator) → agrees count rs i r op ≡ true → Shape rs i r (is_event op)
  shape (event k) e = event_shape e
  shape (related k a b) e = double_shape k a b e
  shape (nearest c a b) e = double_shape Seq a b e
  shape (or a b) e =
      let x = refers count rs i r r.left a (alike left) in
      let y = refers count rs i r r.right b (alike right) in
      elim (or_cases (x && is_none r.right) (is_none r.left && y) e) [ inl h ↦ plain_shape left a h | inr h ↦ right_shape b h ]
  shape (absence c a b) e = plain_shape only a e
  shape (lasting c a d) e =
      let p : Row → Bool = λ q. alike only q && has_length c d q.start q.end in
      let x = refers count rs i r r.left a p in
      let h = referred r.left a p (and_first x (is_none r.right) e) in
      let q = row_at rs (nat_abs r.left) in
      left_shape only (record { number = h.number; lower = h.lower; holds = and_first (alike only q) (has_length c d q.start q.end) h.holds }) (and_second x (is_none r.right) e)
  shape (after a d) e = plain_shape (delayed d) a e

  -- by the operator of the row's entry
  pub shape_at : (ops : List Operator) (n : ℕ) → agrees_at count rs i r ops n ≡ true → Shape rs i r (is_event_at ops n)
  shape_at [] n e = never e
  shape_at (op ∷ ops) zero e = shape op e
  shape_at (op ∷ ops) (suc n) e = shape_at ops n e
