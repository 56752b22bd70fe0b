-- References and the rows they name: they are lower, and a row's bytes are made of those of its references.
use Prim.Native.Nat.{ℕ, zero, suc, ◌≤◌, ◌<◌}
use native.Mathlib.Omega.{arith}
use mathlib.Core.Path.{◌≡◌, refl, ◌∙◌}
use mathlib.Core.Bool.{true, false}
use mathlib.Core.List.{List, [], ◌∷◌, ◌++◌, map}
use lib.IntN.{ℤ, pos, negsuc, nat_abs}
use lib.ListN.{length}
use lib.Signed.{le_z, lt_z}
use borrow.Author.Tests.{le-ltb, ne_eqb}
use mir.Syntax.{w32}
use mir.Val.{SFits, to_z, of_z}
use Rattle.interval.proofs.Signed.{never, signed}
use Rattle.interval.proofs.Machine.{same32, pos_of}
use Rattle.chart.specs.declared.Chart.{Chart}
use Rattle.model.proofs.Capacity.{capacity_most, capacity_fits}
use Rattle.table.specs.Table.{cell}
use Rattle.table.specs.Operators.{operators_of, arity_of, arities_of}
use Rattle.table.specs.Ready.{Ready, Refers}
use Rattle.table.proofs.Arities.{same_arity, event_arity}
use Rattle.table.proofs.Ready.{entry_low, refers_below}
use Rattle.decimal.specs.Spelling.{spelled}
use Rattle.tree.specs.declared.Node.{Node}
use Rattle.tree.specs.declared.Node.TheVariants.{Event, One, Two}
use Rattle.tree.specs.Tree.{arity_at, row_bytes, reference_bytes, tree_within, tree_over, tree_bytes}
use Rattle.tree.specs.Following.{node_by, node_at, rows_to, Followable}

-- references
refers_lower : (i : ℕ) (z : ℤ) → Refers i z → rows_to z ≤ i
refers_lower i (pos j) r = refers_below i (pos j) r (le-ltb j 0 (omega arith))
refers_lower i (negsuc n) r = omega arith

pub rows_to_lem : (z : ℤ) → le_z (pos 0) z ≡ true → rows_to z ≡ suc (nat_abs z)
rows_to_lem (pos i) e = refl
rows_to_lem (negsuc n) e = never e

same_reference : (S T : ℕ → List ℕ) (i : ℕ) (z : ℤ) → rows_to z ≤ i → ((j : ℕ) → j < i → S j ≡ T j) → reference_bytes S z ≡ reference_bytes T z
unfolding reference_bytes
same_reference S T i (pos j) h same = same j (omega arith)
same_reference S T i (negsuc n) h same = refl

-- trees by two lists of arities that agree at the rows up to z
module _ (arities others : List ℕ) (t : List ℤ) (z : ℤ) (w : Followable arities t z) (agree : (i : ℕ) → i < rows_to z → arity_at arities t i ≡ arity_at others t i) where
  same_row :
      (S T : ℕ → List ℕ) (i : ℕ) → i < rows_to z → ((j : ℕ) → j < i → S j ≡ T j) →
      (a : ℕ) → arity_at arities t i ≡ a → (s : ℤ) →
      row_bytes a s (reference_bytes S (cell t i 1)) (reference_bytes S (cell t i 2)) ≡ row_bytes a s (reference_bytes T (cell t i 1)) (reference_bytes T (cell t i 2))
  unfolding row_bytes
  same_row S T i h same zero e s = refl
  same_row S T i h same (suc zero) e s = rw (same_reference S T i (cell t i 1) (w.left i h (λ q. omega arith)) same)
  same_row S T i h same (suc (suc a)) e s =
      rw (same_reference S T i (cell t i 1) (w.left i h (λ q. omega arith)) same, same_reference S T i (cell t i 2) (w.right i h) same)

  -- a number above the row is as good as another
  pub same_trees : (f g i : ℕ) → i < rows_to z → i < f → i < g → tree_within arities t f i ≡ tree_within others t g i
  unfolding tree_within
  same_trees zero g i h k l = absurd (omega arith)
  same_trees (suc f) zero i h k l = absurd (omega arith)
  same_trees (suc f) (suc g) i h k l =
      rw (agree i h) (same_row (tree_within arities t f) (tree_within others t g) i h (λ j m. same_trees f g j (omega arith) (omega arith) (omega arith)) (arity_at others t i) (agree i h) (cell t i 1))

-- a row's bytes by those of its references
row_bytes_lem : (arities : List ℕ) (t : List ℤ) (z : ℤ) → Followable arities t z → (i : ℕ) → i < rows_to z → let R = reference_bytes (tree_over arities t) in tree_over arities t i ≡ row_bytes (arity_at arities t i) (cell t i 1) (R (cell t i 1)) (R (cell t i 2))
unfolding tree_within
row_bytes_lem arities t z w i h =
    same_row arities arities t z w (λ j l. refl) (tree_within arities t i) (tree_over arities t) i h (λ j m. same_trees arities arities t z w (λ k l. refl) i (suc j) j (omega arith) (omega arith) (omega arith)) (arity_at arities t i) refl (cell t i 1)

-- a row in use, as a reference
module _ (chart : Chart) (rows : ℕ) (t : List ℤ) (ready : Ready chart rows t) (i : ℕ) (low : i < rows) where
  pub row_fits : SFits w32 (pos i)
  row_fits = record { sfits = omega (arith, ready.fit, capacity_most (length t)) }

  followable : Followable (arities_of chart) t (pos i)
  followable = record {
    fit = omega (arith, ready.fit, capacity_fits (length t));
    entry_above = λ j h. ready.entry_above j (omega arith);
    entry_below = λ j h. entry_low ready j (omega arith);
    left = λ j h d. refers_lower j (cell t j 1) (ready.left j (omega arith) (event_arity chart (nat_abs (cell t j 0)) (ready.entry_below j (omega arith)) ∙ ne_eqb _ 0 d));
    right = λ j h. refers_lower j (cell t j 2) (ready.right j (omega arith));
  }

  -- by the arities of the chart's entries, and its number held as a 32-bit number
  pub row_reference : (arities : List ℕ) → arities ≡ arities_of chart → Followable arities t (to_z w32 i) × (reference_bytes (tree_over arities t) (to_z w32 i) ≡ tree_bytes (operators_of chart) t i)
  unfolding reference_bytes tree_bytes
  row_reference arities e =
      rw (e, same32 (pos i) row_fits) (followable, same_trees (arities_of chart) (map arity_of (operators_of chart)) t (pos i) followable (λ j h. same_arity chart (nat_abs (cell t j 0))) (suc i) (suc i) i (omega arith) (omega arith) (omega arith))

-- l is lower than z, and may be followed
abbrev pub Follows : List ℕ → List ℤ → ℤ → ℤ → Type 0
Follows arities t z l = (rows_to l < rows_to z) × Followable arities t l

-- What is known of a reference z to a row that is made of `node`: its bytes, by those of its references, which may be followed.
abbrev pub Known : List ℕ → List ℤ → ℤ → Node → Type 0
Known arities t z (Event s) = reference_bytes (tree_over arities t) z ≡ 101 ∷ spelled s
Known arities t z (One l) = let R = reference_bytes (tree_over arities t) in (R z ≡ 60 ∷ R l ++ 62 ∷ []) × Follows arities t z l
Known arities t z (Two l r) = let R = reference_bytes (tree_over arities t) in (R z ≡ 60 ∷ R l ++ (44 ∷ R r ++ 62 ∷ [])) × Follows arities t z l × Follows arities t z r

module _ (arities : List ℕ) (t : List ℤ) (z : ℤ) (w : Followable arities t z) (up : le_z (pos 0) z ≡ true) where
  abbrev R : ℤ → List ℕ
  R = reference_bytes (tree_over arities t)

  abbrev i : ℕ
  i = nat_abs z

  low : i < rows_to z
  low = omega (arith, rows_to_lem z up)

  lower : (l : ℤ) → rows_to l ≤ i → Follows arities t z l
  lower l h = (
    omega (arith, low),
    record {
      fit = omega (arith, w.fit, low);
      entry_above = λ j k. w.entry_above j (omega (arith, low));
      entry_below = λ j k. w.entry_below j (omega (arith, low));
      left = λ j k. w.left j (omega (arith, low));
      right = λ j k. w.right j (omega (arith, low));
    },
  )

  bytes : R z ≡ row_bytes (arity_at arities t i) (cell t i 1) (R (cell t i 1)) (R (cell t i 2))
  unfolding reference_bytes
  bytes = rw (← pos_of z up) (row_bytes_lem arities t z w i low)

  known_by : (a : ℕ) → arity_at arities t i ≡ a → Known arities t z (node_by a (cell t i 1) (cell t i 2))
  unfolding row_bytes
  known_by zero e = rw e at bytes
  known_by (suc zero) e = (rw e at bytes, lower (cell t i 1) (w.left i low (λ q. omega (arith, e, q))))
  known_by (suc (suc a)) e = (rw e at bytes, lower (cell t i 1) (w.left i low (λ q. omega (arith, e, q))), lower (cell t i 2) (w.right i low))

-- the same as the code looks at it, which holds z as a 32-bit number
pub known : (arities : List ℕ) (t : List ℤ) (z : ℤ) → Followable arities t z → SFits w32 z → lt_z (to_z w32 (of_z w32 z)) (pos 0) ≡ false → (node : Node) → node ≡ node_at arities t (nat_abs (to_z w32 (of_z w32 z))) → Known arities t z node
unfolding node_at
known arities t z w fits test node is =
    let up : le_z (pos 0) z ≡ true = let e = rw (same32 z fits) at test in omega (arith, signed) in
    rw (is, same32 z fits) (known_by arities t z w up (arity_at arities t (nat_abs z)) refl)
