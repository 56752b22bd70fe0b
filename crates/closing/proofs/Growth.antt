-- The table grows: the rows appended for an entry end at the instant and start no later, and the table with them is one in which the
-- next entry's rows may be derived.
use Prim.Native.Nat.{ℕ, suc, ◌+◌, ◌*◌, ◌≤◌, ◌<◌}
use native.Mathlib.Omega.{arith}
use native.Mathlib.Nat.{add-zero}
use native.Mathlib.Decide.{ℕ_discrete}
use mathlib.Core.Path.{◌≡◌, refl, sym, ap, ◌∙◌, subst}
use mathlib.Core.List.Memᴰ
use mathlib.Core.List.{List, [], ◌∷◌, map, Memᴰ}
use lib.IntN.{ℤ, pos, ◌+ℤ◌}
use lib.ListN.{length, take}
use Rattle.interval.proofs.Signed.{◌≤ᶻ◌, lt_true, is_lt, le_true, is_le, eq_z→, add_fact}
use Rattle.interval.proofs.Laws.{start_le_end}
use Rattle.model.specs.Lists.{numbers}
use Rattle.model.specs.Recognitions.{Operator}
use Rattle.model.specs.Order.{Row}
use Rattle.model.specs.RowSteps.{Node, leaf, part, pair, numbered, make, row_at, places, node_row}
use Rattle.model.proofs.Sorted.{keep_mem}
use Rattle.model.proofs.Trees.{end_by_lem}
use Rattle.model.proofs.Made.{make_made, made_all}
use Rattle.model.proofs.Leaves.{leaves_mem}
use Rattle.model.proofs.Rows.{numbers_mem}
use Rattle.table.specs.Table.{cell, rows_in, put_row, put_rows}
use Rattle.table.proofs.Rows.{length_rows, row_at_lem, length_put, cell_other, cell_put, row_put, puts_none, puts_on}
use Rattle.closing.specs.Added.{Settled, pending_from, added_rows}
use Rattle.closing.proofs.Derived.{made_is}
use Rattle.closing.proofs.Grown.{Grown, ends, all_ordered, ends_here}

-- before the first entry
pub grown_none : (o : ℤ) (n : ℕ) (t : List ℤ) → Settled o n t → Grown o n n t
grown_none o n t r = record {
  few = omega arith;
  old = λ i h. lt_true (cell t i 4) o (r.ended i h);
  new = λ i h k. absurd (omega arith);
  proper = λ i h. le_true (cell t i 3) (cell t i 4) (r.proper i h);
  ordered = λ i j h k. le_true (cell t i 4) (cell t j 4) (r.ordered i j h k);
  above = r.above;
}

-- after the last
pub grown_settled : (o : ℤ) (m n : ℕ) (t : List ℤ) → Grown o m n t → Settled (o +ℤ pos 1) n t
grown_settled o m n t g = record {
  above = g.above;
  proper = λ i h. is_le (cell t i 3) (cell t i 4) (g.proper i h);
  ordered = all_ordered g;
  ended = λ i h. is_lt (cell t i 4) (o +ℤ pos 1) (omega (arith, ends g i h, add_fact o (pos 1)));
}

-- rows that end before an instant end before every later one
pub settled_later : (o e : ℤ) (n : ℕ) (t : List ℤ) → Settled o n t → o ≤ᶻ e → Settled e n t
settled_later o e n t s h = record {
  above = s.above;
  proper = s.proper;
  ordered = s.ordered;
  ended = λ i k. is_lt (cell t i 4) e (omega (arith, lt_true (cell t i 4) o (s.ended i k)));
}

-- a row that ends at the instant and starts no later
pub record Ending (o : ℤ) (r : Row) : Type 0 where
  pub at : r.end ≡ o
  pub proper : r.start ≤ᶻ r.end

grown_one : (o : ℤ) (m n : ℕ) (t : List ℤ) (r : Row) → Grown o m n t → Ending o r → n * 5 + 5 ≤ length t → Grown o m (suc n) (put_row n r t)
grown_one o m n t r g e h =
    let u = put_row n r t in
    let w = row_put n r t h in
    let w₃ : cell u n 3 ≡ r.start = ap (λ (x : Row). x.start) w in
    let w₄ : cell u n 4 ≡ r.end = ap (λ (x : Row). x.end) w in
    let same : (i k : ℕ) → i < n → k < 5 → cell u i k ≡ cell t i k = λ i k p q. cell_other n i k r t q (λ z. omega arith) in
    record {
      few = omega (arith, g.few);
      old = λ i p. rw (same i 4 (omega (arith, g.few)) (omega arith)) (g.old i p);
      new = λ i p q. at_last (ℕ_discrete i n) (λ z. rw z (w₄ ∙ e.at)) (λ z. same i 4 (omega arith) (omega arith) ∙ g.new i p (omega arith));
      proper = λ i q. at_last (ℕ_discrete i n) (λ z. rw (z, w₃, w₄) e.proper) (λ z. rw (same i 3 (omega arith) (omega arith), same i 4 (omega arith) (omega arith)) (g.proper i (omega arith)));
      ordered = λ i j p q. rw (same i 4 (omega (arith, g.few)) (omega arith), same j 4 (omega (arith, g.few)) (omega arith)) (g.ordered i j p q);
      above = λ i q. at_last (ℕ_discrete i n) (λ z. rw (z, cell_put n 0 r t (omega arith) h) (is_le (pos 0) (pos r.entry) (omega arith))) (λ z. rw (same i 0 (omega arith) (omega arith)) (g.above i (omega arith)));
    }
  where
    at_last : {P Q : Type 0} → Dec P → (P → Q) → ((P → ⊥) → Q) → Q
    at_last (yes p) f g' = f p
    at_last (no p) f g' = g' p

pub grown_more : (o : ℤ) (m n : ℕ) (t : List ℤ) (rs : List Row) → Grown o m n t → ((r : Row) → Memᴰ r rs → Ending o r) → (n + length rs) * 5 ≤ length t → Grown o m (n + length rs) (put_rows n rs t)
grown_more o m n t [] g e h = rw (add-zero n, puts_none) g
grown_more o m n t (r ∷ rs) g e h =
    let z : suc n + length rs ≡ n + suc (length rs) = omega arith in
    rw puts_on (subst (λ k. Grown o m k (put_rows (suc n) rs (put_row n r t))) z (grown_more o m (suc n) (put_row n r t) rs (grown_one o m n t r g (e r (Memᴰ.head refl)) (omega arith)) (λ q k. e q (Memᴰ.tail k)) (omega (arith, length_put n r t))))

-- a row is of the entry that makes it
node_entry : (rs : List Row) (n : ℕ) (x : Node ℕ) → (node_row rs n x).entry ≡ n
node_entry rs n (leaf s i) = refl
node_entry rs n (part m i) = refl
node_entry rs n (pair i j) = refl

-- the rows that an entry adds
module _ (o : ℤ) (m n : ℕ) (t : List ℤ) (g : Grown o m n t) (entry : ℕ) where
  abbrev nodes : Operator → ℕ → ℕ → List ℕ → List (Node ℕ)
  nodes op first pending codes = make (places (rows_in n t)) op (numbered o first (take pending codes)) (numbers 0 (length (rows_in n t)))

  -- a row that is made of rows which start no later than they end does so too
  abbrev Starts : Row → Type 0
  Starts r = r.start ≤ᶻ r.end

  row_starts : (i : ℕ) → Memᴰ i (numbers 0 (length (rows_in n t))) → Starts (row_at (rows_in n t) i)
  row_starts i k = let h : i < n = omega (arith, numbers_mem 0 (length (rows_in n t)) i k, length_rows n t) in rw (row_at_lem n i t h) (g.proper i h)

  node_starts : (op : Operator) (first pending : ℕ) (codes : List ℕ) (x : Node ℕ) → Memᴰ x (nodes op first pending codes) → Starts (node_row (rows_in n t) entry x)
  node_starts op first pending codes x k =
      let rs = rows_in n t in
      let es = numbered o first (take pending codes) in
      made_all (places rs) (λ i. Starts (row_at rs i)) (λ y. Starts (node_row rs entry y)) (numbers 0 (length rs)) row_starts
      (λ side i h. omega (arith, end_by_lem side (row_at rs i).end))
      (λ i j h l. start_le_end (row_at rs i).start (row_at rs i).end (row_at rs j).start (row_at rs j).end h l)
      op es x (λ c w. subst (λ y. Starts (node_row rs entry y)) (sym (leaves_mem c es x w).is) (omega arith)) (make_made (places rs) op es (numbers 0 (length rs)) x k)

  -- what an entry adds is what it makes of the rows there are
  added_made : (op : Operator) (first pending : ℕ) (codes : List ℕ) → pending ≤ length codes → (r : Row) → Memᴰ r (added_rows op entry o (pending_from first pending) codes m n t) → Memᴰ r (map (node_row (rows_in n t) entry) (nodes op first pending codes)) × (r.end ≡ o)
  added_made op first pending codes h r w =
      let k = keep_mem (λ x. ends_here o x.start x.end) (map (node_row (rows_in n t) entry) (nodes op first pending codes)) (subst (Memᴰ r) (sym (made_is o m n t g entry op first pending codes h)) w) in
      (k.0, eq_z→ r.end o k.1)

  pub added_entry : (op : Operator) (first pending : ℕ) (codes : List ℕ) → pending ≤ length codes → (r : Row) → Memᴰ r (added_rows op entry o (pending_from first pending) codes m n t) → r.entry ≡ entry
  added_entry op first pending codes h r w =
      let q = Memᴰ.of_map (node_row (rows_in n t) entry) (nodes op first pending codes) (added_made op first pending codes h r w).0 in
      sym (ap (λ x. x.entry) q.2) ∙ node_entry (rows_in n t) entry q.0

  pub added_ending : (op : Operator) (first pending : ℕ) (codes : List ℕ) → pending ≤ length codes → (r : Row) → Memᴰ r (added_rows op entry o (pending_from first pending) codes m n t) → Ending o r
  added_ending op first pending codes h r w =
      let k = added_made op first pending codes h r w in
      let q = Memᴰ.of_map (node_row (rows_in n t) entry) (nodes op first pending codes) k.0 in
      record { at = k.1; proper = subst Starts q.2 (node_starts op first pending codes q.0 q.1) }
