-- The lines of a listing: a heading, and one for each row.
use Prim.Native.Nat.{ℕ, zero, suc}
use native.Mathlib.Omega.{arith}
use mathlib.Core.Path.{◌≡◌, refl, sym, ap, ◌∙◌}
use mathlib.Core.Bool.{true}
use mathlib.Core.List.{List, [], ◌∷◌, ◌++◌}
use lib.IntN.{ℤ}
use lib.ListN.{length, take, drop}
use Rattle.text.specs.Text.{whole, split, ended, lines}
use Rattle.text.proofs.Laws.{lacks, lacks_append, index_lacks, split_empty, split_word, lines_parts, lines_append, lines_none}
use Rattle.decimal.specs.Spelling.{spelled_number, spelled, spelled_instant}
use Rattle.decimal.proofs.Laws.{spelled_number_lacks, spelled_lacks}
use Rattle.decimal.proofs.Tenths.{written_instant_lacks}
use Rattle.model.specs.Order.{Row}
use Rattle.table.specs.Table.{stored_row, flat}
use Rattle.table.specs.declared.Row as stored
use Rattle.printing.specs.Listing.{title, row_fields, row_text, listing_text, table_rows, table_text, rows_listed}
use Rattle.printing.proofs.Laws.{table_listing}

-- one line and what follows it
one_line : (s t : List ℕ) → lacks 10 s ≡ true → lines ((s ++ 10 ∷ []) ++ t) ≡ whole s ∷ lines t
one_line s t h =
    let word : split 10 (s ++ 10 ∷ []) ≡ s ∷ [] ∷ [] = split_word 10 s [] (index_lacks 10 s h) ∙ ap (◌∷◌ s) (split_empty 10) in
    lines_append s t ∙ ap (λ ls. ls ++ lines t) (lines_parts (s ++ 10 ∷ []) ∙ ap ended word)

-- the line of a row
fields_lack : (n : ℕ) (r : stored.Row) → lacks 10 (row_fields n r) ≡ true
fields_lack n r =
    lacks_append 10 (spelled_number n) _ (spelled_number_lacks 10 (omega arith) n)
    (lacks_append 10 (9 ∷ spelled r.entry) _ (spelled_lacks 10 (omega arith) r.entry)
    (lacks_append 10 (9 ∷ spelled r.left) _ (spelled_lacks 10 (omega arith) r.left)
    (lacks_append 10 (9 ∷ spelled r.right) _ (spelled_lacks 10 (omega arith) r.right)
    (lacks_append 10 (9 ∷ spelled_instant r.start) _ (written_instant_lacks 10 (omega arith) r.start) (written_instant_lacks 10 (omega arith) r.end)))))

row_line : (n : ℕ) (r : stored.Row) (t : List ℕ) → lines (row_text n r ++ t) ≡ whole (row_fields n r) ∷ lines t
row_line n r t = one_line (row_fields n r) t (fields_lack n r)

-- each row is one line
rows_lines : (n k : ℕ) (t : List ℤ) → length (lines (table_rows n k t)) ≡ k
unfolding table_rows
rows_lines n zero t = ap length lines_none
rows_lines n (suc k) t = ap length (row_line n (stored_row t 0) (table_rows (suc n) k (drop 5 t))) ∙ ap suc (rows_lines (suc n) k (drop 5 t))

pub table_lists : (rows : ℕ) (t : List ℤ) → rows_listed (table_text rows t) ≡ rows
table_lists rows t = ap (λ ls. length (drop 1 ls)) (one_line (take 30 title) (table_rows 0 rows t) refl) ∙ rows_lines 0 rows t

pub listing_lists : (rs : List Row) → rows_listed (listing_text rs) ≡ length rs
listing_lists rs = ap rows_listed (sym (table_listing rs [])) ∙ table_lists (length rs) (flat rs ++ [])
