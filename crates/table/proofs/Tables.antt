-- A table with these rows, zeros behind them and a tail: its length, its rows, and rows appended or dropped.
use Prim.Native.Nat.{ℕ, ◌+◌, ◌*◌, ◌-◌, ◌≤◌}
use native.Mathlib.Omega.{arith}
use native.Mathlib.Nat.{zero-add}
use mathlib.Core.Path.{◌≡◌, sym, ap, ap₂, ◌∙◌}
use mathlib.Core.Bool.{true}
use mathlib.Core.List.{List, ◌++◌, append_assoc}
use lib.IntN.{ℤ, pos}
use lib.ListN.{length, take, drop, replicate, length-append, length-replicate, replicate-append-replicate}
use lib.Seq.{slice, take_at, drop_at, drop-drop, drop-append-add}
use Rattle.model.specs.Order.{Row}
use Rattle.table.specs.Table.{rows_in, flat, put_rows, are_zeros, zeroed, table_of}
use Rattle.table.proofs.Laws.{zeros_part, zeroed_is}
use Rattle.table.proofs.Rows.{rows_none, rows_puts, puts_flat, length_flat, flat_append}

abbrev zeros : ℕ → List ℤ
zeros n = replicate n (pos 0)

-- rows written out
flat_front : (rs : List Row) (u : List ℤ) → flat rs ++ u ≡ put_rows 0 rs (zeros (length rs * 5) ++ u)
flat_front rs u =
    let z = zeros (length rs * 5) in
    let fits : (0 + length rs) * 5 ≤ length (z ++ u) = simp (length-append, length-replicate) (omega arith) in
    let e : (0 + length rs) * 5 ≡ length rs * 5 = omega arith in
    let d : drop ((0 + length rs) * 5) (z ++ u) ≡ u = ap (λ k. drop k (z ++ u)) e ∙ drop_at z u (length rs * 5) (length-replicate (length rs * 5) (pos 0)) in
    ap (λ v. flat rs ++ v) (sym d) ∙ sym (puts_flat 0 rs (z ++ u) fits)

pub rows_flat : (rs : List Row) (u : List ℤ) → rows_in (length rs) (flat rs ++ u) ≡ rs
rows_flat rs u =
    let t = zeros (length rs * 5) ++ u in
    let fits : (0 + length rs) * 5 ≤ length t = simp (length-append, length-replicate) (omega arith) in
    ap (rows_in (length rs)) (flat_front rs u) ∙ ap (λ n. rows_in n (put_rows 0 rs t)) (sym (zero-add (length rs))) ∙ rows_puts 0 rs t fits ∙ ap (λ l. l ++ rs) (rows_none t)

-- the table's length, and the zeros behind its rows
pub length_table : (room : ℕ) (tail : List ℤ) (rs : List Row) → length rs ≤ room → length (table_of room tail rs) ≡ room * 5 + length tail
length_table room tail rs h = simp (length-append, length-replicate, length_flat) (omega arith)

pub zeros_behind : (room : ℕ) (tail : List ℤ) (rs : List Row) → length rs ≤ room → are_zeros (length rs * 5) (room * 5) (table_of room tail rs) ≡ true
zeros_behind room tail rs h =
    let z = zeros ((room - length rs) * 5) in
    let p : take (room * 5) (table_of room tail rs) ≡ flat rs ++ z = ap (take (room * 5)) (sym (append_assoc (flat rs) z tail)) ∙ take_at (flat rs ++ z) tail (room * 5) (simp (length-append, length-replicate, length_flat) (omega arith)) in
    let q : slice (length rs * 5) (room * 5) (table_of room tail rs) ≡ z = ap (drop (length rs * 5)) p ∙ drop_at (flat rs) z (length rs * 5) (length_flat rs) in
    zeros_part (length rs * 5) (room * 5) ((room - length rs) * 5) (table_of room tail rs) q

-- numbers further back
pub drop_table : (room : ℕ) (tail : List ℤ) (rs : List Row) (n : ℕ) → length rs ≤ n → n ≤ room → drop (n * 5) (table_of room tail rs) ≡ zeros ((room - n) * 5) ++ tail
drop_table room tail rs n h g =
    let a = zeros ((n - length rs) * 5) in
    let b = zeros ((room - n) * 5) in
    let w : (room - length rs) * 5 ≡ (n - length rs) * 5 + (room - n) * 5 = omega arith in
    let split : zeros ((room - length rs) * 5) ≡ a ++ b = ap zeros w ∙ sym (replicate-append-replicate ((n - length rs) * 5) ((room - n) * 5) (pos 0)) in
    let p : table_of room tail rs ≡ (flat rs ++ a) ++ (b ++ tail) = ap (λ z. flat rs ++ (z ++ tail)) split ∙ ap (λ l. flat rs ++ l) (append_assoc a b tail) ∙ sym (append_assoc (flat rs) a (b ++ tail)) in
    ap (drop (n * 5)) p ∙ drop_at (flat rs ++ a) (b ++ tail) (n * 5) (simp (length-append, length-replicate, length_flat) (omega arith))

-- rows appended
pub table_more : (room : ℕ) (tail : List ℤ) (rs qs : List Row) → length (rs ++ qs) ≤ room → put_rows (length rs) qs (table_of room tail rs) ≡ table_of room tail (rs ++ qs)
table_more room tail rs qs h =
    let n = length rs in
    let k = length qs in
    let size : length (rs ++ qs) ≡ n + k = length-append rs qs in
    let t = table_of room tail rs in
    let z = zeros ((room - (n + k)) * 5) ++ tail in
    puts_flat n qs t (omega (arith, length_table room tail rs (omega arith)))
    ∙ ap₂ (λ x y. x ++ (flat qs ++ y)) (take_at (flat rs) (zeros ((room - n) * 5) ++ tail) (n * 5) (length_flat rs)) (drop_table room tail rs (n + k) (omega arith) (omega arith))
    ∙ sym (append_assoc (flat rs) (flat qs) z)
    ∙ ap₂ (λ x m. x ++ (zeros ((room - m) * 5) ++ tail)) (sym (flat_append rs qs)) (sym size)

-- rows dropped
pub table_less : (room : ℕ) (tail : List ℤ) (rs qs : List Row) → length rs ≤ room → length qs ≤ length rs → zeroed (length qs * 5) (length rs * 5) (put_rows 0 qs (table_of room tail rs)) ≡ table_of room tail qs
table_less room tail rs qs h g =
    let n = length rs in
    let k = length qs in
    let t = table_of room tail rs in
    let size : length t ≡ room * 5 + length tail = length_table room tail rs h in
    let v = flat qs ++ drop (k * 5) t in
    let put : put_rows 0 qs t ≡ v = puts_flat 0 qs t (omega (arith, size)) ∙ ap (λ m. flat qs ++ drop (m * 5) t) (zero-add k) in
    let front : take (k * 5) v ≡ flat qs = take_at (flat qs) (drop (k * 5) t) (k * 5) (length_flat qs) in
    let far : n * 5 ≡ length (flat qs) + (n - k) * 5 = omega (arith, length_flat qs) in
    let sum : k * 5 + (n - k) * 5 ≡ n * 5 = omega arith in
    let back : drop (n * 5) v ≡ zeros ((room - n) * 5) ++ tail = ap (λ m. drop m v) far ∙ drop-append-add (flat qs) (drop (k * 5) t) ((n - k) * 5) ∙ drop-drop ((n - k) * 5) (k * 5) t ∙ ap (λ m. drop m t) sum ∙ drop_table room tail rs n (omega arith) h in
    let w : (room - k) * 5 ≡ (n * 5 - k * 5) + (room - n) * 5 = omega arith in
    let all : zeros (n * 5 - k * 5) ++ (zeros ((room - n) * 5) ++ tail) ≡ zeros ((room - k) * 5) ++ tail = sym (append_assoc (zeros (n * 5 - k * 5)) (zeros ((room - n) * 5)) tail) ∙ ap (λ l. l ++ tail) (replicate-append-replicate (n * 5 - k * 5) ((room - n) * 5) (pos 0) ∙ ap zeros (sym w)) in
    ap (zeroed (k * 5) (n * 5)) put ∙ zeroed_is (k * 5) (n * 5) v ∙ ap₂ (λ x y. x ++ (zeros (n * 5 - k * 5) ++ y)) front back ∙ ap (λ l. flat qs ++ l) all
