-- A loop that appends at each row of an entry, going from one to the next by a search.
use Prim.Native.Nat.{ℕ, ◌≤◌, ◌<◌}
use mathlib.Core.Path.{◌≡◌}
use mathlib.Core.Bool.{true, false}
use mathlib.Core.List.{List, []}
use lib.IntN.{ℤ}
use Rattle.interval.specs.Instants.{eq_z}
use Rattle.model.specs.Lists.{each}
use Rattle.model.specs.Order.{Row}
use Rattle.table.specs.Table.{cell}
use Rattle.closing.specs.Added.{span, next_row}
use Rattle.closing.proofs.Filling.{Filling, past}
use Rattle.closing.proofs.Searches.{found}

-- the loop is at row r, which is one of a or the end, and is to append h at each row from there on
abbrev pub Visiting : ℤ → ℕ → ℤ → ℕ → List Row → List ℤ → (ℕ → List Row) → ℕ → ℕ → List ℤ → ℕ → Type 0
Visiting a room x n₀ all t₀ h e n t r = (r < e → eq_z (cell t₀ r 0) a ≡ true) × Filling room x n₀ all t₀ n (each h (span r e)) t

-- the search from row i on finds row r; at rows that are none of a nothing is to be appended
pub visit : {room : ℕ} {x : ℤ} {n₀ : ℕ} {all : List Row} {t₀ : List ℤ} {n : ℕ} {t : List ℤ} (a : ℤ) (h : ℕ → List Row) (i e : ℕ) → Filling room x n₀ all t₀ n (each h (span i e)) t → ((j : ℕ) → eq_z (cell t₀ j 0) a ≡ false → h j ≡ []) → i ≤ e → e ≤ n₀ → (r : ℕ) → r ≡ next_row a i e t → Visiting a room x n₀ all t₀ h e n t r
visit {room} {x} {n₀} {all} {t₀} {n} {t} a h i e w none l g r s =
    let f = found n₀ t t₀ w.kept a i e r l g s in
    (f.is, past h i e w r f.least f.most (λ j p q. none j (f.none j p q)))
