-- What the report program prints (request N3): it "prints one line per entry, entry and number of rows parted by a tab, and then likewise `total` and the
-- number of rows in use."
use Rattle.std.specs.Prelude.{ℕ, suc, ◌+◌, ◌*◌, Bool, List, [], ◌∷◌, ◌++◌, leb, length, Option}
use Rattle.decimal.specs.Spelling.{spelled_number}
use Rattle.text.specs.Output.{output_where}
use Rattle.printing.specs.Listing.{last_field, written_where}

-- the lines of entries, numbered from e on, that have so many rows each
unfoldable pub tally_texts : ℕ → List ℕ → List ℕ
tally_texts e [] = []
tally_texts e (n ∷ ns) = (spelled_number e ++ last_field n) ++ tally_texts (suc e) ns

-- `total`
abbrev pub total_word : List ℕ
total_word = 116 ∷ 111 ∷ 116 ∷ 97 ∷ 108 ∷ []

abbrev pub report_text : List ℕ → ℕ → List ℕ
report_text tallies total = tally_texts 0 tallies ++ (total_word ++ last_field total)

-- The most bytes that a line takes: of an entry, its number 20, its rows' 21 with the tab and the end of the line 1; of the total 5 for the word, 21 and 1.
abbrev pub tally_size : ℕ
tally_size = 20 + 21 + 1

abbrev pub total_size : ℕ
total_size = 5 + 21 + 1

-- A report is written where the output has room for the longest of as many entries.
unfoldable pub report_fits : List ℕ → List ℕ → Bool
report_fits tallies out = leb (total_size + length tallies * tally_size) (length out)

abbrev pub report_length : List ℕ → ℕ → List ℕ → Option ℕ
report_length tallies total out = written_where (report_fits tallies out) (report_text tallies total)

abbrev pub report_output : List ℕ → ℕ → List ℕ → List ℕ
report_output tallies total out = output_where (report_fits tallies out) (report_text tallies total) out
