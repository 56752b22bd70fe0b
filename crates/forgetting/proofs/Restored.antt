-- The marks taken off, row by row: before the first, one row more. No code here.
use Prim.Native.Nat.{ℕ, zero, suc, ◌+◌, ◌*◌, ◌%◌, ◌≤◌, ◌<◌}
use native.Mathlib.Omega.{arith}
use native.Mathlib.Numerals.{add-one}
use mathlib.Core.Path.{◌≡◌, sym, ap, ◌∙◌}
use mathlib.Core.Bool.{true}
use mathlib.Core.List.{List, [], ◌∷◌, map-append}
use lib.IntN.{ℤ, pos, nat_abs}
use lib.ListN.{length, set, length-map}
use lib.Signed.{le_z}
use Rattle.table.specs.Table.{cell, table_row, rows_in, put_row, put_rows}
use Rattle.table.proofs.Rows.{rows_none, rows_snoc, length_rows, row_same, own_row, put_over, puts_none, puts_snoc, cell_behind}
use Rattle.forgetting.specs.Walk.{plain, plain_rows}
use Rattle.forgetting.proofs.Marks.{plain_low, pos_above, set_head, set_own}

-- the first n rows of t, without marks, put over t
abbrev restored : ℕ → List ℤ → List ℤ
restored n t = put_rows 0 (plain_rows n t) t

length_plain : (n : ℕ) (t : List ℤ) → length (plain_rows n t) ≡ n
length_plain n t = length-map (rows_in n t) plain ∙ length_rows n t

-- one row more
restored_more : (n : ℕ) (t : List ℤ) → restored (n + 1) t ≡ put_row n (plain (table_row t n)) (restored n t)
restored_more n t =
    let e : 0 + length (plain_rows n t) ≡ n = omega (arith, length_plain n t) in
    rw (add-one, rows_snoc n t, map-append plain (rows_in n t) (table_row t n ∷ [])) (puts_snoc 0 (plain_rows n t) (plain (table_row t n)) t ∙ ap (λ k. put_row k (plain (table_row t n)) (restored n t)) e)

-- rows that have no marks
pub restored_none : (n : ℕ) (t : List ℤ) → ((j : ℕ) → j < n → le_z (pos 0) (cell t j 0) ≡ true) → ((j : ℕ) → j < n → nat_abs (cell t j 0) < 32) → t ≡ restored n t
restored_none zero t above low = rw (rows_none t) (sym (puts_none 0 t))
restored_none (suc n) t above low =
    let own : put_row n (table_row t n) t ≡ t = own_row t n (above n (omega arith)) in
    let same : plain (table_row t n) ≡ table_row t n = plain_low (table_row t n) (low n (omega arith)) in
    let rest : t ≡ restored n t = restored_none n t (λ j h. above j (omega arith)) (λ j h. low j (omega arith)) in
    sym own ∙ ap (λ r. put_row n r t) (sym same) ∙ ap (put_row n (plain (table_row t n))) rest ∙ sym (restored_more n t) ∙ ap (λ k. restored k t) (add-one n)

-- the row put is the one that stands there, but for the mark
put_plain : (n : ℕ) (t : List ℤ) → n * 5 + 5 ≤ length t → set t (n * 5) (pos (nat_abs (cell t n 0) % 32)) ≡ put_row n (plain (table_row t n)) t
put_plain n t h =
    let v = pos (nat_abs (cell t n 0) % 32) in
    let u = set t (n * 5) v in
    let head : cell u n 0 ≡ v = set_head t n v (omega arith) in
    let same : table_row u n ≡ plain (table_row t n) = rw (head, set_own t n v 1 (omega arith), set_own t n v 2 (omega arith), set_own t n v 3 (omega arith), set_own t n v 4 (omega arith)) in
    let own : put_row n (table_row u n) u ≡ u = own_row u n (rw head (pos_above (nat_abs (cell t n 0) % 32))) in
    sym own ∙ ap (λ r. put_row n r u) same ∙ put_over n (plain (table_row t n)) v t

pub restored_step : (n : ℕ) (t u : List ℤ) → u ≡ restored n t → n * 5 + 5 ≤ length u → set u (n * 5) (pos (nat_abs (cell u n 0) % 32)) ≡ restored (n + 1) t
restored_step n t u e h =
    let same : table_row u n ≡ table_row t n = row_same u t n (λ k l. rw e (cell_behind 0 (plain_rows n t) t n k (omega (arith, length_plain n t)) l)) in
    put_plain n u h ∙ ap (λ r. put_row n (plain r) u) same ∙ ap (put_row n (plain (table_row t n))) e ∙ sym (restored_more n t)

pub restored_cell : (n m : ℕ) (t u : List ℤ) → u ≡ restored n t → n ≤ m → cell u m 0 ≡ cell t m 0
restored_cell n m t u e h = rw e (cell_behind 0 (plain_rows n t) t m 0 (omega (arith, length_plain n t)) (omega arith))
