-- Laws of specs/Listing.antt and specs/Report.antt: the listing of a table is the listing of its rows, when there is room for a text, and what is left of a text
-- after its first piece.
use Prim.Native.Nat.{ℕ, suc, ◌+◌, ◌*◌, ◌-◌, ◌^◌, ◌≤◌, ◌<◌}
use native.Mathlib.Omega.{arith}
use native.Mathlib.Numerals.{add-one}
use native.Mathlib.Nat.{zero-add}
use Rattle.std.proofs.Common.{Some}
use Rattle.std.proofs.lemmas.List.Edits.{sets}
use Rattle.text.specs.Output.{output_where}
use Rattle.text.proofs.Written.{front_written}
use mathlib.Core.Path.{◌≡◌, refl, ap, ◌∙◌}
use mathlib.Core.Bool.{Bool, true, false}
use mathlib.Core.List.{List, [], ◌∷◌, ◌++◌}
use lib.IntN.{ℤ}
use lib.ListN.{length, get_or, drop, length-append, drop_of_length-le}
use lib.Seq.{drop-cons, drop-drop, get_or-drop}
use borrow.Author.Tests.{le-leb}
use Rattle.decimal.specs.Spelling.{spelled_number}
use Rattle.decimal.proofs.Laws.{wide_digits_most}
use Rattle.model.specs.Order.{Row}
use Rattle.table.specs.Table.{stored_row, flat}
use Rattle.table.proofs.Rows.{flat_on}
use Rattle.printing.specs.Listing.{title, row_text, stored_of, row_texts, listing_text, table_rows, table_text, last_field, title_size, row_size, refusal_size, written_where, listing_fits, refusal_fits}
use Rattle.printing.specs.Report.{tally_texts, tally_size, total_size, report_fits}

-- For callers. The rows of a table, and numbers behind them that are not printed.
table_rows_lem : (n : ℕ) (rs : List Row) (u : List ℤ) → table_rows n (length rs) (flat rs ++ u) ≡ row_texts n rs
unfolding table_rows row_texts
table_rows_lem n [] u = refl
table_rows_lem n (r ∷ rs) u = rw (flat_on r rs) (ap (λ (l : List ℕ). row_text n (stored_of r) ++ l) (table_rows_lem (suc n) rs u))

pub table_listing : (rs : List Row) (u : List ℤ) → table_text (length rs) (flat rs ++ u) ≡ listing_text rs
table_listing rs u = ap (λ (l : List ℕ). title ++ l) (table_rows_lem _ rs u)

-- When there is room.
pub listing_fits_lem : (rows : ℕ) (t : List ℤ) (out : List ℕ) → rows * 5 ≤ length t → title_size + rows * row_size ≤ length out → listing_fits rows t out ≡ true
unfolding listing_fits
listing_fits_lem rows t out h k = rw (le-leb (rows * 5) (length t) h, le-leb (title_size + rows * row_size) (length out) k)

pub refusal_fits_lem : (out : List ℕ) → refusal_size ≤ length out → refusal_fits out ≡ true
unfolding refusal_fits
refusal_fits_lem out h = le-leb refusal_size (length out) h

pub report_fits_lem : (tallies out : List ℕ) → total_size + length tallies * tally_size ≤ length out → report_fits tallies out ≡ true
unfolding report_fits
report_fits_lem tallies out h = le-leb (total_size + length tallies * tally_size) (length out) h

-- A text that was written at the front of an output that has room for it.
pub all_written : {room : Bool} (s out : List ℕ) {k : ℕ} {o : List ℕ} → room ≡ true → length s ≤ length out → (k ≡ 0 + length s) × (o ≡ sets out 0 s) → (Some k ≡ written_where room s) × (o ≡ output_where room s out)
unfolding written_where output_where
all_written s out e h w = rw (e, w.0, zero-add, w.1, front_written out s h) (refl, refl)

-- a number of 64 bits that ends its line
pub last_field_most : (n : ℕ) → n < 2 ^ 64 → length (last_field n) ≤ 22
last_field_most n h = omega (arith, wide_digits_most n h, length-append (9 ∷ spelled_number n) (10 ∷ []))

-- What is left of the entries of a report from entry e on
pub tallies_more : (ns : List ℕ) (e : ℕ) → e < length ns → tally_texts e (drop e ns) ≡ (spelled_number e ++ last_field (get_or ns e 0)) ++ tally_texts (e + 1) (drop (e + 1) ns)
unfolding tally_texts
tallies_more ns e h = rw (add-one e, drop-cons ns e 0 h)

pub tallies_done : (ns : List ℕ) (e : ℕ) → length ns ≤ e → tally_texts e (drop e ns) ≡ []
unfolding tally_texts
tallies_done ns e h = rw (drop_of_length-le ns h)

-- What is left of the rows of a table from row i on.
module _ (rows : ℕ) (t : List ℤ) (i : ℕ) where
  -- the lines of the rows from row i on
  abbrev pub rows_from : List ℕ
  rows_from = table_rows i (rows - i) (drop (i * 5) t)

rows_step : (n m k : ℕ) (t : List ℤ) (a : ℕ) → m ≡ suc k → table_rows n m (drop a t) ≡ row_text n (stored_row (drop a t) 0) ++ table_rows (suc n) k (drop (a + 5) t)
unfolding table_rows
rows_step n m k t a e = rw (e, ← drop-drop 5 a t)

row_there : (t : List ℤ) (i : ℕ) → stored_row (drop (i * 5) t) 0 ≡ stored_row t i
row_there t i = simp get_or-drop

pub rows_more : (rows : ℕ) (t : List ℤ) (i : ℕ) → i < rows → rows_from rows t i ≡ row_text i (stored_row t i) ++ rows_from rows t (i + 1)
rows_more rows t i h =
    let next : i * 5 + 5 ≡ suc i * 5 = omega arith in
    rows_step i (rows - i) (rows - suc i) t (i * 5) (omega arith)
    ∙ rw (next, add-one i) (ap (λ r. row_text i r ++ table_rows (suc i) (rows - suc i) (drop (suc i * 5) t)) (row_there t i))

rows_none : (n m : ℕ) (t : List ℤ) → m ≡ 0 → table_rows n m t ≡ []
unfolding table_rows
rows_none n m t e = rw e

pub rows_done : (rows : ℕ) (t : List ℤ) (i : ℕ) → rows ≤ i → rows_from rows t i ≡ []
rows_done rows t i h = rows_none i (rows - i) (drop (i * 5) t) (omega arith)
