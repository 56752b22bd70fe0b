-- What is printed, computed: the listing of rows, the lines of a report and the line of a refusal; and how long they can be. That the listing of a table is that of its rows is a law (Laws.antt);
-- document 01's own listing is computed from its input in crate `program`.
use Prim.Native.Nat.{ℕ}
use mathlib.Core.Path.{◌≡◌, refl}
use mathlib.Core.List.{List, [], ◌∷◌, ◌++◌}
use lib.IntN.{ℤ, pos, negsuc}
use lib.ListN.{length}
use Rattle.text.specs.Quoted.{bytes, tabbed, unended, text}
use Rattle.decimal.specs.Spelling.{digits_within, spelled_number, spelled_length, signed}
use Rattle.model.specs.Order.{Row, row, none}
use Rattle.text.specs.Text.{split, lines}
use Rattle.printing.specs.Listing.{title, row_text, row_texts, listing_text, rows_listed, last_field, refusal_text, title_size, row_size, refusal_size}
use Rattle.printing.specs.Report.{tally_texts, total_word, report_text, tally_size, total_size}

-- an event, the first and the last instant, an `or` with its right arm, and half a millisecond on either side of the trigger
abbrev rows : List Row
rows =
    row 0 (pos 1) none (negsuc 19) (negsuc 19) ∷
    row 31 (pos 1000000) none (negsuc 999999999) (pos 1000000000) ∷
    row 5 none (pos 65534) (pos 0) (pos 10) ∷
    row 6 (pos 0) (pos 1) (negsuc 4) (pos 5) ∷ []

-- "tabs shown as spaces"
abbrev printed : List ℕ
printed = text (
    "row entry left right start end" ∷
    "0 0 1 -1 -2.0 -2.0" ∷
    "1 31 1000000 -1 -100000000.0 100000000.0" ∷
    "2 5 -1 65534 0.0 1.0" ∷
    "3 6 0 1 -0.5 0.5" ∷ [])

-- "P1's `-2` becomes `-2.0`"
listing : listing_text rows ∷ listing_text [] ∷ [] ≡ printed ∷ text ("row entry left right start end" ∷ []) ∷ []
unfolding bytes tabbed unended text digits_within spelled_number spelled_length signed row_texts
listing = refl

-- "`refused`, number, line of the whole input"
refusal : refusal_text 12 13 ∷ refusal_text 1 1 ∷ [] ≡ text ("refused 12 13" ∷ []) ∷ text ("refused 1 1" ∷ []) ∷ []
unfolding bytes tabbed unended text digits_within spelled_number
refusal = refl

-- "one line per entry, entry and number of rows parted by a tab, and then likewise `total` and the number of rows in use" (request N3): three entries, of which
-- one has no row; and the most that there can be of one
report : report_text (2 ∷ 0 ∷ 65535 ∷ []) 65537 ∷ report_text (0 ∷ []) 0 ∷ [] ≡ text ("0 2" ∷ "1 0" ∷ "2 65535" ∷ "total 65537" ∷ []) ∷ text ("0 0" ∷ "total 0" ∷ []) ∷ []
unfolding bytes tabbed unended text digits_within spelled_number tally_texts
report = refl

-- "the rows that a listing prints": the first line is none of them
listed : rows_listed printed ∷ rows_listed (text ("row entry left right start end" ∷ [])) ∷ [] ≡ 4 ∷ 0 ∷ []
unfolding bytes tabbed unended text split lines
listed = refl

-- The sizes are those of the longest lines: with the least number of 32 bits and the greatest of 32 and 64
abbrev least32 : ℤ
least32 = negsuc 2147483647

abbrev greatest64 : ℕ
greatest64 = 18446744073709551615

longest :
    length title ∷
    length (row_text greatest64 (record { entry = least32; left = least32; right = least32; start = least32; end = least32 })) ∷
    length (refusal_text 4294967295 greatest64) ∷
    length (spelled_number greatest64 ++ last_field greatest64) ∷
    length (total_word ++ last_field greatest64) ∷ []
    ≡ title_size ∷ row_size ∷ refusal_size ∷ tally_size ∷ total_size ∷ []
unfolding digits_within spelled_number spelled_length signed
longest = refl
