-- The bytes of a row's tree are those of the recognition that the row reads.
use Prim.Native.Nat.{ℕ, zero, suc, ◌<◌}
use native.Mathlib.Omega.{arith}
use mathlib.Core.Path.{◌≡◌, sym, ap, ◌∙◌, subst}
use mathlib.Core.Logic.{inl, inr}
use mathlib.Core.List.{List, [], ◌∷◌, map}
use lib.IntN.{ℤ, pos, nat_abs}
use lib.ListN.{length, get_or}
use Rattle.model.specs.Order.{Row, row, none, left_of, right_of}
use Rattle.model.specs.Recognitions.{Event, Operator, event, related, or, absence, lasting, after, nearest, Arm, only, left, right, delayed, Recognition, of_event, of_one, of_two, entry_of}
use Rattle.model.specs.RowSteps.{row_at}
use Rattle.model.specs.Statements.{OperatorAt, Asks, IsWithin, Reads}
use Rattle.model.proofs.RowStepLaws.{reads_event, reads_one, reads_two}
use Rattle.table.specs.Table.{cell, table_row, rows_in}
use Rattle.table.specs.Operators.{arity_of}
use Rattle.table.proofs.Rows.{row_at_lem}
use Rattle.table.proofs.Arities.{arity_event, arity_related, arity_or, arity_absence, arity_lasting, arity_after, arity_nearest}
use Rattle.tree.specs.Tree.{recognition_bytes, row_bytes, reference_bytes, tree_within, tree_bytes, TreeHolds}

arity_told : (ops : List Operator) (n : ℕ) (op : Operator) → OperatorAt ops n op → get_or (map arity_of ops) n 0 ≡ arity_of op
arity_told [] n op h = absurd h
arity_told (o ∷ ops) zero op h = ap arity_of h
arity_told (o ∷ ops) (suc n) op h = arity_told ops n op h

-- how many references a recognition with one part is written with
abbrev arm_arity : Arm → ℕ
arm_arity only = 1
arm_arity left = 2
arm_arity right = 2
arm_arity (delayed d) = 1

-- and its bytes, from those of the row j that it refers to
arm_bytes : (tree : ℕ → List ℕ) (n : ℕ) (m : Arm) (j : ℕ) (u : Recognition) → tree j ≡ recognition_bytes u → row_bytes (arm_arity m) (left_of m j) (reference_bytes tree (left_of m j)) (reference_bytes tree (right_of m j)) ≡ recognition_bytes (of_one n m u)
unfolding recognition_bytes row_bytes reference_bytes
arm_bytes tree n only j u e = rw e
arm_bytes tree n left j u e = rw e
arm_bytes tree n right j u e = rw e
arm_bytes tree n (delayed d) j u e = rw e

-- one step down from row i, of which the parts' bytes are known
module _ (arities : List ℕ) (rows : ℕ) (t : List ℤ) (f i : ℕ) (low : i < rows) (P : Recognition → Type 0) (below : (j : ℕ) (v : Recognition) → j < i → P v → Reads (rows_in rows t) j v → tree_within arities t f j ≡ recognition_bytes v) where
  bytes_by : (n : ℕ) (l r s e : ℤ) → row_at (rows_in rows t) i ≡ row n l r s e → (k : ℕ) → get_or arities n 0 ≡ k → tree_within arities t (suc f) i ≡ row_bytes k l (reference_bytes (tree_within arities t f) l) (reference_bytes (tree_within arities t f) r)
  unfolding tree_within
  bytes_by n l r s e p k q =
      let w : table_row t i ≡ row n l r s e = sym (row_at_lem rows i t low) ∙ p in
      let a : nat_abs (cell t i 0) ≡ n = ap (λ (x : Row). x.entry) w in
      let b : cell t i 1 ≡ l = ap (λ (x : Row). x.left) w in
      let c : cell t i 2 ≡ r = ap (λ (x : Row). x.right) w in
      rw (a, b, c, q)

  of_event_lem : (n s : ℕ) (x : ℤ) → get_or arities n 0 ≡ 0 → Reads (rows_in rows t) i (of_event n s x) → tree_within arities t (suc f) i ≡ recognition_bytes (of_event n s x)
  unfolding recognition_bytes row_bytes
  of_event_lem n s x q r = bytes_by n (pos s) none x x (reads_event (rows_in rows t) i n s x r) _ q

  of_one_lem : (n : ℕ) (m : Arm) (u : Recognition) → get_or arities n 0 ≡ arm_arity m → P u → Reads (rows_in rows t) i (of_one n m u) → tree_within arities t (suc f) i ≡ recognition_bytes (of_one n m u)
  of_one_lem n m u q p h =
      let r = reads_one (rows_in rows t) i n m u h in
      bytes_by n _ _ _ _ r.2 (arm_arity m) q ∙ arm_bytes (tree_within arities t f) n m r.0 u (below r.0 u r.1 p r.3)

  of_two_lem : (n : ℕ) (u v : Recognition) → get_or arities n 0 ≡ 2 → P u → P v → Reads (rows_in rows t) i (of_two n u v) → tree_within arities t (suc f) i ≡ recognition_bytes (of_two n u v)
  unfolding recognition_bytes row_bytes reference_bytes
  of_two_lem n u v q p p' h =
      let r = reads_two (rows_in rows t) i n u v h in
      bytes_by n _ _ _ _ r.4 _ q ∙ rw (below r.0 u r.2 p r.5, below r.1 v r.3 p' r.6)

  abbrev Written : Recognition → Type 0
  Written u = Reads (rows_in rows t) i u → tree_within arities t (suc f) i ≡ recognition_bytes u

  by_operator_lem : (es : List Event) (op : Operator) (u : Recognition) → get_or arities (entry_of u) 0 ≡ arity_of op → Asks op es P u → Written u
  by_operator_lem es (event k) u q h = subst Written (sym h.3) (of_event_lem (entry_of u) _ _ (q ∙ arity_event k))
  by_operator_lem es (related c a b) u q h = subst Written (sym h.5) (of_two_lem (entry_of u) h.0 h.1 (q ∙ arity_related c a b) h.2.0 h.3.0)
  by_operator_lem es (or a b) u q (inl h) = subst Written (sym h.2) (of_one_lem (entry_of u) left h.0 (q ∙ arity_or a b) h.1.0)
  by_operator_lem es (or a b) u q (inr h) = subst Written (sym h.2) (of_one_lem (entry_of u) right h.0 (q ∙ arity_or a b) h.1.0)
  by_operator_lem es (absence c a b) u q h = subst Written (sym h.3) (of_one_lem (entry_of u) only h.0 (q ∙ arity_absence c a b) h.1.0)
  by_operator_lem es (lasting c a d) u q h = subst Written (sym h.3) (of_one_lem (entry_of u) only h.0 (q ∙ arity_lasting c a d) h.1.0)
  by_operator_lem es (after a d) u q h = subst Written (sym h.2) (of_one_lem (entry_of u) (delayed d) h.0 (q ∙ arity_after a d) h.1.0)
  by_operator_lem es (nearest c a b) u q h = subst Written (sym h.7) (of_two_lem (entry_of u) h.0 h.1 (q ∙ arity_nearest c a b) h.2.0 h.3.0)

bytes_within : (ops : List Operator) (es : List Event) (rows : ℕ) (t : List ℤ) (m f i : ℕ) (u : Recognition) → i < rows → i < f → IsWithin m ops es u → Reads (rows_in rows t) i u → tree_within (map arity_of ops) t f i ≡ recognition_bytes u
bytes_within ops es rows t zero f i u h k w r = absurd w
bytes_within ops es rows t (suc m) zero i u h k w r = absurd (omega arith)
bytes_within ops es rows t (suc m) (suc f) i u h k w r =
    by_operator_lem (map arity_of ops) rows t f i h (IsWithin m ops es) (λ j v l p q. bytes_within ops es rows t m f j v (omega arith) (omega arith) p q) es w.0 u (arity_told ops (entry_of u) w.0 w.1) w.2 r

pub tree_holds : TreeHolds
unfolding tree_bytes
tree_holds ops es rows t i u h w r = bytes_within ops es rows t (length ops) (suc i) i u h (omega arith) w r
