-- Laws of marks: a row's mark beside its entry, a mark set, a marked row put. No code here.
use Prim.Native.Nat.{ℕ, ◌+◌, ◌*◌, ◌/◌, ◌%◌, ◌≤◌, ◌<◌}
use native.Mathlib.Omega.{arith}
use native.Mathlib.Nat.{add-zero}
use native.Mathlib.Decide.{ℕ_discrete}
use mathlib.Core.Path.{◌≡◌, refl, ap, ◌∙◌}
use mathlib.Core.Bool.{Bool, true, false}
use mathlib.Core.List.{List}
use lib.IntN.{ℤ, pos}
use lib.ListN.{length, get_or, set}
use lib.Seq.{get_or-set_same, get_or-set_other}
use lib.Signed.{le_z}
use Rattle.interval.proofs.Signed.{signed}
use Rattle.model.specs.Order.{Row}
use Rattle.table.specs.Table.{cell, rows_in, put_row}
use Rattle.table.proofs.Rows.{cell_other, cell_put, rows_same, row_same}
use Rattle.forgetting.specs.Walk.{shift_at, plain, with_references}

-- a mark beside an entry
pub low_of : (e s : ℕ) → e < 32 → (e + s * 32) % 32 ≡ e
low_of e s h = omega arith

pub shift_of : (e s : ℕ) → e < 32 → (e + s * 32) / 32 ≡ s
shift_of e s h = omega arith

pub plain_low : (r : Row) → r.entry < 32 → plain r ≡ r
plain_low r h = let e : r.entry % 32 ≡ r.entry = omega arith in rw e

-- references stay what they are without the mark
pub plain_references : (event : Bool) (g : ℕ → ℕ) (r : Row) → plain (with_references event g r) ≡ with_references event g (plain r)
plain_references true g r = refl
plain_references false g r = refl

-- no natural number is below 0
pub pos_above : (n : ℕ) → le_z (pos 0) (pos n) ≡ true
pos_above n = omega (arith, signed)

-- a number stored in the entry column of row i: the row's own numbers, and the other rows
module _ (t : List ℤ) (i : ℕ) (v : ℤ) where
  pub set_head : i * 5 < length t → cell (set t (i * 5) v) i 0 ≡ v
  set_head h = ap (λ k. get_or (set t (i * 5) v) k (pos 0)) (add-zero (i * 5)) ∙ get_or-set_same t (i * 5) v (pos 0) h

  pub set_own : (k : ℕ) → 0 < k → cell (set t (i * 5) v) i k ≡ cell t i k
  set_own k h = get_or-set_other t (i * 5) (i * 5 + k) v (pos 0) (λ e. omega arith)

  pub set_cell : (j k : ℕ) → k < 5 → (j ≡ i → ⊥) → cell (set t (i * 5) v) j k ≡ cell t j k
  set_cell j k l d = get_or-set_other t (i * 5) (j * 5 + k) v (pos 0) (λ e. d (omega arith))

  pub set_rows : (n : ℕ) → n ≤ i → rows_in n (set t (i * 5) v) ≡ rows_in n t
  set_rows n h = rows_same n (set t (i * 5) v) t (λ j g. row_same (set t (i * 5) v) t j (λ k l. set_cell j k l (λ e. omega arith)))

-- row j has a mark that says it goes to place n
abbrev pub Goes : List ℤ → ℕ → ℕ → Type 0
Goes t j n = (le_z (pos 0) (cell t j 0) ≡ true) × (shift_at t j + n ≡ j)

-- a row put with the mark that stood there: the marks of all rows stay
pub put_marks : (t : List ℤ) (p : ℕ) (r : Row) (e : ℕ) → e < 32 → r.entry ≡ e + shift_at t p * 32 → p * 5 + 5 ≤ length t → (j n : ℕ) → Goes t j n → Goes (put_row p r t) j n
put_marks t p r e small is fit j n g = go (ℕ_discrete j p)
  where
    head : cell (put_row p r t) p 0 ≡ pos (e + shift_at t p * 32)
    head = cell_put p 0 r t (omega arith) fit ∙ ap pos is

    go : Dec (j ≡ p) → Goes (put_row p r t) j n
    go (yes q) = rw (q, head) (pos_above (e + shift_at t p * 32), rw (shift_of e (shift_at t p) small) (rw q at g.1))
    go (no d) = rw (cell_other p j 0 r t (omega arith) d) g
