-- What the listing program prints. Document 01, "The listing program": it "prints the table at the end. A refusal prints only one
-- line: `refused`, number, line of the whole input ..., parted by tabs." A text is a list of bytes; 9 is the tab, 10 ends a line.
use Rattle.std.specs.Prelude.{ℕ, zero, suc, ◌+◌, ◌*◌, Bool, cond, ◌&&◌, List, [], ◌∷◌, ◌++◌, leb, ℤ, pos, length, drop, Option, Some, None}
use Rattle.text.specs.Text.{lines}
use Rattle.text.specs.Output.{output_where}
use Rattle.decimal.specs.Spelling.{spelled_number, spelled, spelled_instant}
use Rattle.model.specs.Order.{Row}
use Rattle.table.specs.Table.{stored_row}
use Rattle.table.specs.declared.Row as stored

-- the first line: `row`, `entry`, `left`, `right`, `start`, `end`
abbrev pub title : List ℕ
title =
    114 ∷ 111 ∷ 119 ∷ 9 ∷
    101 ∷ 110 ∷ 116 ∷ 114 ∷ 121 ∷ 9 ∷
    108 ∷ 101 ∷ 102 ∷ 116 ∷ 9 ∷
    114 ∷ 105 ∷ 103 ∷ 104 ∷ 116 ∷ 9 ∷
    115 ∷ 116 ∷ 97 ∷ 114 ∷ 116 ∷ 9 ∷
    101 ∷ 110 ∷ 100 ∷ 10 ∷ []

-- the fields of a row: its number; entry, left and right, whole numbers; start and end, instants with "one digit after" the point (request N11)
abbrev pub row_fields : ℕ → stored.Row → List ℕ
row_fields n r =
    spelled_number n ++
    ((9 ∷ spelled r.entry) ++
    ((9 ∷ spelled r.left) ++
    ((9 ∷ spelled r.right) ++
    ((9 ∷ spelled_instant r.start) ++
    (9 ∷ spelled_instant r.end)))))

-- its line
abbrev pub row_text : ℕ → stored.Row → List ℕ
row_text n r = row_fields n r ++ (10 ∷ [])

-- a row of the model as a table has it
abbrev pub stored_of : Row → stored.Row
stored_of r = record { entry = pos r.entry; left = r.left; right = r.right; start = r.start; end = r.end }

-- the lines of rows, numbered from n on
unfoldable pub row_texts : ℕ → List Row → List ℕ
row_texts n [] = []
row_texts n (r ∷ rs) = row_text n (stored_of r) ++ row_texts (suc n) rs

-- the listing of rows
abbrev pub listing_text : List Row → List ℕ
listing_text rs = title ++ row_texts 0 rs

-- The same from a table: the lines of its first k rows, numbered from n on, and the listing of its first rows.
unfoldable pub table_rows : ℕ → ℕ → List ℤ → List ℕ
table_rows n zero t = []
table_rows n (suc k) t = row_text n (stored_row t 0) ++ table_rows (suc n) k (drop 5 t)

abbrev pub table_text : ℕ → List ℤ → List ℕ
table_text rows t = title ++ table_rows 0 rows t

-- how many rows a text lists: the lines behind its first
abbrev pub rows_listed : List ℕ → ℕ
rows_listed s = length (drop 1 (lines s))

-- `refused`
abbrev pub refused_word : List ℕ
refused_word = 114 ∷ 101 ∷ 102 ∷ 117 ∷ 115 ∷ 101 ∷ 100 ∷ []

-- a number that ends its line, with its tab before it
abbrev pub last_field : ℕ → List ℕ
last_field n = (9 ∷ spelled_number n) ++ (10 ∷ [])

-- "`refused`, number, line of the whole input ..., parted by tabs"
abbrev pub refusal_text : ℕ → ℕ → List ℕ
refusal_text number line = refused_word ++ ((9 ∷ spelled_number number) ++ last_field line)

-- The most bytes that a line takes, however large its numbers are: the first line; a row, of which its number takes 20, each of the three whole numbers 12 with
-- its tab, each of the two instants 13, and the end of the line 1; and the line of a refusal, 7 for the word, 11 for the number and 21 for the line with their
-- tabs, and 1 for its end.
abbrev pub title_size : ℕ
title_size = 31

abbrev pub row_size : ℕ
row_size = 20 + 3 * 12 + 2 * 13 + 1

abbrev pub refusal_size : ℕ
refusal_size = 7 + 11 + 21 + 1

-- how many bytes are written of a text that is written where there is room
unfoldable pub written_where : Bool → List ℕ → Option ℕ
written_where room s = cond room (Some (length s)) None

-- A listing is written where the table has the rows and the output has room for the longest of as many.
unfoldable pub listing_fits : ℕ → List ℤ → List ℕ → Bool
listing_fits rows t out = leb (rows * 5) (length t) && leb (title_size + rows * row_size) (length out)

abbrev pub listing_length : ℕ → List ℤ → List ℕ → Option ℕ
listing_length rows t out = written_where (listing_fits rows t out) (table_text rows t)

abbrev pub listing_output : ℕ → List ℤ → List ℕ → List ℕ
listing_output rows t out = output_where (listing_fits rows t out) (table_text rows t) out

-- A refusal is written where the output has room for the longest.
unfoldable pub refusal_fits : List ℕ → Bool
refusal_fits out = leb refusal_size (length out)

abbrev pub refusal_length : ℕ → ℕ → List ℕ → Option ℕ
refusal_length number line out = written_where (refusal_fits out) (refusal_text number line)

abbrev pub refusal_output : ℕ → ℕ → List ℕ → List ℕ
refusal_output number line out = output_where (refusal_fits out) (refusal_text number line) out
