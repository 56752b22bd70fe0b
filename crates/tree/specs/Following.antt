-- What the functions that follow references are lent and ask. Nothing here has to be believed: only contracts of inner functions cite this file.
use Rattle.std.specs.Prelude.{ℕ, zero, suc, ◌*◌, ◌-◌, ◌≤◌, ◌<◌, ◌≡◌, true, cond, Option, Some, None, List, leb, ℤ, pos, negsuc, nat_abs, length}
use Rattle.std.specs.Int.Signed.{le_z}
use Rattle.table.specs.Table.{cell}
use Rattle.tree.specs.Tree.{arity_at}
use Rattle.tree.specs.declared.Node.{Node}
use Rattle.tree.specs.declared.Node.TheVariants.{Event, One, Two}

-- what row i's tree is made of, by how many references it is written with
abbrev pub node_by : ℕ → ℤ → ℤ → Node
node_by zero l r = Event l
node_by (suc zero) l r = One l
node_by (suc (suc n)) l r = Two l r

unfoldable pub node_at : List ℕ → List ℤ → ℕ → Node
node_at arities t i = node_by (arity_at arities t i) (cell t i 1) (cell t i 2)

-- what is left of a limit behind n bytes, where they are no more
abbrev pub rest_of : ℕ → ℕ → Option ℕ
rest_of limit n = cond (leb n limit) (Some (limit - n)) None

-- how many rows there are up to the one that a reference names
abbrev pub rows_to : ℤ → ℕ
rows_to (pos i) = suc i
rows_to (negsuc n) = 0

-- The reference z can be followed down: the rows up to it are in the table, their entries among the 32, and their references lower.
pub record Followable (arities : List ℕ) (t : List ℤ) (z : ℤ) : Type 0 where
  pub fit : rows_to z * 5 ≤ length t
  pub entry_above : (i : ℕ) → i < rows_to z → le_z (pos 0) (cell t i 0) ≡ true
  pub entry_below : (i : ℕ) → i < rows_to z → nat_abs (cell t i 0) < 32
  pub left : (i : ℕ) → i < rows_to z → (arity_at arities t i ≡ 0 → ⊥) → rows_to (cell t i 1) ≤ i
  pub right : (i : ℕ) → i < rows_to z → rows_to (cell t i 2) ≤ i
