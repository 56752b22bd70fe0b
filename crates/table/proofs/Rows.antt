-- Laws of rows in a table: the rows read, one row put, rows put one after another.
use Prim.Native.Nat.{ℕ, zero, suc, ◌+◌, ◌*◌, ◌≤◌, ◌<◌}
use native.Mathlib.Omega.{arith}
use native.Mathlib.Nat.{add-zero, zero-add}
use native.Mathlib.Numerals.{add-one, towards_suc}
use native.Mathlib.Decide.{ℕ_discrete}
use mathlib.Core.Path.{◌≡◌, refl, sym, ap, ap₂, ◌∙◌, subst}
use mathlib.Core.Logic.{◌⊎◌, inl, inr}
use mathlib.Core.Bool.{Bool, true, false}
use borrow.Author.Tests.{le-leb, ltb-true, ltb-false}
use lib.Dec.{ltb}
use mathlib.Core.List.Memᴰ
use mathlib.Core.List.{List, [], ◌∷◌, ◌++◌, map, map-append, append_assoc, append-nil, Memᴰ}
use lib.IntN.{ℤ, pos, nat_abs}
use lib.ListN.{length, get_or, take, drop, set, length-append, length-set, length-take, take-append-drop, get_or-append}
use lib.Seq.{sets, sets-eq, length-sets, set-get_or, set-set, get_or-set_same, get_or-set_other, get_or-append_seam, drop-set-lt, take_at, length-take-le}
use lib.Signed.{le_z}
use Rattle.interval.proofs.Machine.{pos_of}
use Rattle.model.specs.Lists.{numbers}
use Rattle.model.specs.Order.{Row}
use Rattle.model.specs.RowSteps.{row_at}
use Rattle.model.proofs.History.{numbers_snoc}
use Rattle.model.proofs.Place.{get_d_mem}
use Rattle.model.proofs.Rows.{numbers_mem}
use Rattle.table.specs.Table.{cell, table_row, rows_in, cells_of, flat, put_row, put_rows}

-- the rows read
pub rows_none : (t : List ℤ) → rows_in 0 t ≡ []
unfolding rows_in
rows_none t = refl

pub rows_numbers : (n : ℕ) (t : List ℤ) → rows_in n t ≡ map (table_row t) (numbers 0 n)
unfolding rows_in
rows_numbers n t = refl

pub rows_snoc : (n : ℕ) (t : List ℤ) → rows_in (suc n) t ≡ rows_in n t ++ table_row t n ∷ []
unfolding rows_in
rows_snoc n t = ap (map (table_row t)) (numbers_snoc 0 n) ∙ map-append (table_row t) (numbers 0 n) ((0 + n) ∷ []) ∙ ap (λ k. map (table_row t) (numbers 0 n) ++ table_row t k ∷ []) (zero-add n)

pub length_rows : (n : ℕ) (t : List ℤ) → length (rows_in n t) ≡ n
length_rows zero t = ap length (rows_none t)
length_rows (suc n) t = ap length (rows_snoc n t) ∙ length-append (rows_in n t) (table_row t n ∷ []) ∙ ap (λ k. k + 1) (length_rows n t) ∙ add-one n

pub row_at_lem : (n i : ℕ) (t : List ℤ) → i < n → row_at (rows_in n t) i ≡ table_row t i
row_at_lem zero i t h = absurd (omega arith)
row_at_lem (suc n) i t h = ap (λ l. row_at l i) (rows_snoc n t) ∙ go (ℕ_discrete i n) (row_at_lem n i t)
  where
    size : length (rows_in n t) ≡ n
    size = length_rows n t

    go : Dec (i ≡ n) → (i < n → row_at (rows_in n t) i ≡ table_row t i) → row_at (rows_in n t ++ table_row t n ∷ []) i ≡ table_row t i
    go (yes e) f = ap (λ k. row_at (rows_in n t ++ table_row t n ∷ []) k) (e ∙ sym size) ∙ get_or-append_seam (rows_in n t) (table_row t n) [] _ ∙ ap (table_row t) (sym e)
    go (no d) f = get_or-append (rows_in n t) (table_row t n ∷ []) _ i (omega (arith, size)) ∙ f (omega arith)

-- a row that is one of the table's
pub rows_mem : (n : ℕ) (t : List ℤ) (r : Row) → Memᴰ r (rows_in n t) → (j : ℕ) × (j < n) × (r ≡ table_row t j)
rows_mem n t r m =
    let p = Memᴰ.of_map (table_row t) (numbers 0 n) (subst (Memᴰ r) (rows_numbers n t) m) in
    let l : p.0 < 0 + n = numbers_mem 0 n p.0 p.1 in
    (p.0, omega arith, sym p.2)

pub mem_rows : (n : ℕ) (t : List ℤ) (j : ℕ) → j < n → Memᴰ (table_row t j) (rows_in n t)
mem_rows n t j h = subst (λ r. Memᴰ r (rows_in n t)) (row_at_lem n j t h) (get_d_mem _ (rows_in n t) j (omega (arith, length_rows n t)))

-- a run of numbers stored: elsewhere, and there
get_d_sets_other : (vs t : List ℤ) (i m : ℕ) → (m < i) ⊎ (i + length vs ≤ m) → get_or (sets t i vs) m (pos 0) ≡ get_or t m (pos 0)
get_d_sets_other [] t i m h = refl
get_d_sets_other (v ∷ vs) t i m (inl h) = get_d_sets_other vs (set t i v) (suc i) m (inl (omega arith)) ∙ get_or-set_other t i m v (pos 0) (λ e. omega arith)
get_d_sets_other (v ∷ vs) t i m (inr h) = get_d_sets_other vs (set t i v) (suc i) m (inr (omega arith)) ∙ get_or-set_other t i m v (pos 0) (λ e. omega arith)

get_d_sets : (vs t : List ℤ) (i k : ℕ) → k < length vs → i + length vs ≤ length t → get_or (sets t i vs) (i + k) (pos 0) ≡ get_or vs k (pos 0)
get_d_sets [] t i k h g = absurd (omega arith)
get_d_sets (v ∷ vs) t i zero h g =
    ap (λ m. get_or (sets (set t i v) (suc i) vs) m (pos 0)) (add-zero i) ∙ get_d_sets_other vs (set t i v) (suc i) i (inl (omega arith)) ∙ get_or-set_same t i v (pos 0) (omega arith)
get_d_sets (v ∷ vs) t i (suc k) h g =
    let e : i + suc k ≡ suc i + k = omega arith in
    ap (λ m. get_or (sets (set t i v) (suc i) vs) m (pos 0)) e ∙ get_d_sets vs (set t i v) (suc i) k (omega arith) (omega (arith, length-set t i v))

-- one row put: its cells and the others'
pub length_put : (i : ℕ) (r : Row) (t : List ℤ) → length (put_row i r t) ≡ length t
unfolding put_row
length_put i r t = length-sets t (i * 5) (cells_of r)

pub cell_other : (i j k : ℕ) (r : Row) (t : List ℤ) → k < 5 → (j ≡ i → ⊥) → cell (put_row i r t) j k ≡ cell t j k
unfolding put_row
cell_other i j k r t h d = get_d_sets_other (cells_of r) t (i * 5) (j * 5 + k) (go (ltb j i) refl)
  where
    go : (b : Bool) → ltb j i ≡ b → (j * 5 + k < i * 5) ⊎ (i * 5 + length (cells_of r) ≤ j * 5 + k)
    go true e = inl (omega (arith, ltb-true j i e))
    go false e = inr (omega (arith, ltb-false j i e))

pub cell_put : (i k : ℕ) (r : Row) (t : List ℤ) → k < 5 → i * 5 + 5 ≤ length t → cell (put_row i r t) i k ≡ get_or (cells_of r) k (pos 0)
unfolding put_row
cell_put i k r t l h = get_d_sets (cells_of r) t (i * 5) k (omega arith) h

pub row_other : (i j : ℕ) (r : Row) (t : List ℤ) → (j ≡ i → ⊥) → table_row (put_row i r t) j ≡ table_row t j
row_other i j r t d =
    rw (cell_other i j 0 r t (omega arith) d, cell_other i j 1 r t (omega arith) d, cell_other i j 2 r t (omega arith) d, cell_other i j 3 r t (omega arith) d, cell_other i j 4 r t (omega arith) d)

pub row_put : (i : ℕ) (r : Row) (t : List ℤ) → i * 5 + 5 ≤ length t → table_row (put_row i r t) i ≡ r
row_put i r t h =
    rw (cell_put i 0 r t (omega arith) h, cell_put i 1 r t (omega arith) h, cell_put i 2 r t (omega arith) h, cell_put i 3 r t (omega arith) h, cell_put i 4 r t (omega arith) h)

-- rows are the same where their numbers are
pub row_same : (s t : List ℤ) (i : ℕ) → ((k : ℕ) → k < 5 → cell s i k ≡ cell t i k) → table_row s i ≡ table_row t i
row_same s t i same = rw (same 0 (omega arith), same 1 (omega arith), same 2 (omega arith), same 3 (omega arith), same 4 (omega arith))

-- a row put where it stands already, and one put over another first number
pub own_row : (t : List ℤ) (i : ℕ) → le_z (pos 0) (cell t i 0) ≡ true → put_row i (table_row t i) t ≡ t
unfolding put_row
own_row t i h =
    let e : pos (nat_abs (get_or t (i * 5) (pos 0))) ≡ get_or t (i * 5) (pos 0) = simp towards_suc at (pos_of (cell t i 0) h) in
    simp (towards_suc, e, set-get_or)

pub put_over : (n : ℕ) (r : Row) (v : ℤ) (t : List ℤ) → put_row n r (set t (n * 5) v) ≡ put_row n r t
unfolding put_row
put_over n r v t = rw set-set

-- rows that agree are read alike
pub rows_same : (n : ℕ) (t u : List ℤ) → ((i : ℕ) → i < n → table_row t i ≡ table_row u i) → rows_in n t ≡ rows_in n u
rows_same zero t u h = rows_none t ∙ sym (rows_none u)
rows_same (suc n) t u h = rows_snoc n t ∙ ap₂ (λ l r. l ++ r ∷ []) (rows_same n t u (λ i g. h i (omega arith))) (h n (omega arith)) ∙ sym (rows_snoc n u)

-- the rows after one is put behind them
pub rows_put : (n : ℕ) (r : Row) (t : List ℤ) → n * 5 + 5 ≤ length t → rows_in (suc n) (put_row n r t) ≡ rows_in n t ++ r ∷ []
rows_put n r t h = rows_snoc n (put_row n r t) ∙ ap₂ (λ l q. l ++ q ∷ []) (rows_same n (put_row n r t) t (λ i g. row_other n i r t (λ e. omega arith))) (row_put n r t h)

-- rows put one after another
pub puts_none : (n : ℕ) (t : List ℤ) → put_rows n [] t ≡ t
unfolding put_rows
puts_none n t = refl

pub puts_on : (n : ℕ) (r : Row) (rs : List Row) (t : List ℤ) → put_rows n (r ∷ rs) t ≡ put_rows (suc n) rs (put_row n r t)
unfolding put_rows
puts_on n r rs t = refl

pub length_puts : (n : ℕ) (rs : List Row) (t : List ℤ) → length (put_rows n rs t) ≡ length t
unfolding put_rows
length_puts n [] t = refl
length_puts n (r ∷ rs) t = length_puts (suc n) rs (put_row n r t) ∙ length_put n r t

pub row_before : (n j : ℕ) (rs : List Row) (t : List ℤ) → j < n → table_row (put_rows n rs t) j ≡ table_row t j
unfolding put_rows
row_before n j [] t h = refl
row_before n j (r ∷ rs) t h = row_before (suc n) j rs (put_row n r t) (omega arith) ∙ row_other n j r t (λ e. omega arith)

pub rows_puts : (n : ℕ) (rs : List Row) (t : List ℤ) → (n + length rs) * 5 ≤ length t → rows_in (n + length rs) (put_rows n rs t) ≡ rows_in n t ++ rs
unfolding put_rows
rows_puts n [] t h = ap (λ k. rows_in k t) (add-zero n) ∙ sym (append-nil (rows_in n t))
rows_puts n (r ∷ rs) t h =
    let e : n + suc (length rs) ≡ suc n + length rs = omega arith in
    ap (λ k. rows_in k (put_rows (suc n) rs (put_row n r t))) e
    ∙ rows_puts (suc n) rs (put_row n r t) (omega (arith, length_put n r t))
    ∙ ap (λ l. l ++ rs) (rows_put n r t (omega arith))
    ∙ append_assoc (rows_in n t) (r ∷ []) rs

pub puts_append : (n : ℕ) (rs qs : List Row) (t : List ℤ) → put_rows n (rs ++ qs) t ≡ put_rows (n + length rs) qs (put_rows n rs t)
unfolding put_rows
puts_append n [] qs t = ap (λ k. put_rows k qs t) (sym (add-zero n))
puts_append n (r ∷ rs) qs t =
    let e : suc n + length rs ≡ n + suc (length rs) = omega arith in
    puts_append (suc n) rs qs (put_row n r t) ∙ ap (λ k. put_rows k qs (put_rows (suc n) rs (put_row n r t))) e

pub puts_snoc : (n : ℕ) (rs : List Row) (r : Row) (t : List ℤ) → put_rows n (rs ++ r ∷ []) t ≡ put_row (n + length rs) r (put_rows n rs t)
unfolding put_rows
puts_snoc n rs r t = puts_append n rs (r ∷ []) t

-- a row behind the rows put is as it was
pub cell_behind : (n : ℕ) (rs : List Row) (t : List ℤ) (i k : ℕ) → n + length rs ≤ i → k < 5 → cell (put_rows n rs t) i k ≡ cell t i k
unfolding put_rows
cell_behind n [] t i k h g = refl
cell_behind n (r ∷ rs) t i k h g = cell_behind (suc n) rs (put_row n r t) i k (omega arith) g ∙ cell_other n i k r t g (λ e. omega arith)

-- a table with rows put, written out
pub length_flat : (rs : List Row) → length (flat rs) ≡ length rs * 5
unfolding flat
length_flat [] = refl
length_flat (r ∷ rs) = let h = length_flat rs in omega arith

pub flat_none : flat [] ≡ []
unfolding flat
flat_none = refl

pub flat_on : (r : Row) (rs : List Row) → flat (r ∷ rs) ≡ cells_of r ++ flat rs
unfolding flat
flat_on r rs = refl

pub flat_append : (rs qs : List Row) → flat (rs ++ qs) ≡ flat rs ++ flat qs
unfolding flat
flat_append [] qs = refl
flat_append (r ∷ rs) qs = ap (λ l. cells_of r ++ l) (flat_append rs qs)

pub flat_snoc : (rs : List Row) (r : Row) → flat (rs ++ r ∷ []) ≡ flat rs ++ cells_of r
unfolding flat
flat_snoc rs r = flat_append rs (r ∷ []) ∙ ap (λ l. flat rs ++ l) (append-nil (cells_of r))

pub entry_flat : (rs : List Row) (u : List ℤ) (i : ℕ) → i < length rs → le_z (pos 0) (cell (flat rs ++ u) i 0) ≡ true
unfolding flat
entry_flat [] u i h = absurd (omega arith)
entry_flat (r ∷ rs) u zero h = le-leb 0 r.entry (omega arith)
entry_flat (r ∷ rs) u (suc i) h =
    let e : suc i * 5 + 0 ≡ suc (suc (suc (suc (suc (i * 5 + 0))))) = omega arith in
    rw e (entry_flat rs u i (omega arith))

-- what lies behind the numbers stored
drop_sets : (vs t : List ℤ) (i m : ℕ) → i + length vs ≤ m → drop m (sets t i vs) ≡ drop m t
drop_sets [] t i m h = refl
drop_sets (v ∷ vs) t i m h = drop_sets vs (set t i v) (suc i) m (omega arith) ∙ drop-set-lt m t i v (omega arith)

take_put : (n : ℕ) (r : Row) (t : List ℤ) → n * 5 + 5 ≤ length t → take (suc n * 5) (put_row n r t) ≡ take (n * 5) t ++ cells_of r
unfolding put_row
take_put n r t h =
    let p = take (n * 5) t ++ cells_of r in
    let size : length p ≡ suc n * 5 = simp (length-append, length-take) (omega arith) in
    ap (take (suc n * 5)) (sets-eq (cells_of r) t (n * 5) h) ∙ take_at p (drop (n * 5 + 5) t) (suc n * 5) size

pub drop_put : (n m : ℕ) (r : Row) (t : List ℤ) → n * 5 + 5 ≤ m → drop m (put_row n r t) ≡ drop m t
unfolding put_row
drop_put n m r t h = drop_sets (cells_of r) t (n * 5) m h

pub puts_flat : (n : ℕ) (rs : List Row) (t : List ℤ) → (n + length rs) * 5 ≤ length t → put_rows n rs t ≡ take (n * 5) t ++ (flat rs ++ drop ((n + length rs) * 5) t)
unfolding put_rows flat
puts_flat n [] t h = let e : (n + 0) * 5 ≡ n * 5 = omega arith in rw e (sym (take-append-drop (n * 5) t))
puts_flat n (r ∷ rs) t h =
    let e : suc n + length rs ≡ n + suc (length rs) = omega arith in
    let u = put_row n r t in
    puts_flat (suc n) rs u (omega (arith, length_put n r t))
    ∙ ap₂ (λ x y. x ++ (flat rs ++ y)) (take_put n r t (omega arith)) (drop_put n ((suc n + length rs) * 5) r t (omega arith) ∙ ap (λ k. drop (k * 5) t) e)
    ∙ append_assoc (take (n * 5) t) (cells_of r) (flat rs ++ drop ((n + suc (length rs)) * 5) t)

-- what lies before and behind the rows put
pub take_puts : (n : ℕ) (rs : List Row) (t : List ℤ) → (n + length rs) * 5 ≤ length t → take (n * 5) (put_rows n rs t) ≡ take (n * 5) t
take_puts n rs t h = ap (take (n * 5)) (puts_flat n rs t h) ∙ take_at (take (n * 5) t) (flat rs ++ drop ((n + length rs) * 5) t) (n * 5) (length-take-le (n * 5) t (omega arith))

pub drop_puts : (n m : ℕ) (rs : List Row) (t : List ℤ) → (n + length rs) * 5 ≤ m → drop m (put_rows n rs t) ≡ drop m t
unfolding put_rows
drop_puts n m [] t h = refl
drop_puts n m (r ∷ rs) t h = drop_puts (suc n) m rs (put_row n r t) (omega arith) ∙ drop_put n m r t (omega arith)
