-- The end-to-end statement; proofs/Theorems.antt proves it. No proof stands here.
use Rattle.std.specs.Prelude.{Option, Some, ℕ, ◌+◌, ◌*◌, ◌≤◌, ◌≡◌, Bool, cond, List, [], ◌∷◌, ◌++◌, leb, ℤ, length, drop}
use Rattle.text.specs.Text.{joined}
use Rattle.text.specs.Output.{length_where, output_where}
use Rattle.printing.specs.Listing.{written_where, row_size, refusal_size}
use Rattle.printing.specs.Report.{tally_size}
use Rattle.table.specs.Table.{room_in}
use Rattle.program.specs.declared.Format.{Format}
use Rattle.program.specs.declared.Format.TheVariants.{Listing, Report}
use Rattle.program.specs.Outcomes.{printed_for}
use Rattle.program.specs.Runs.{Progress, Between, start_run, fed_all, finished, printed_length, printed_output}

-- the run of an input that comes in pieces, with this table: before its end, and at it
abbrev pub fed_run : List ℤ → List (List ℕ) → Between
fed_run t pieces = fed_all (record { progress = record { run = start_run; table = t }; kept = [] }) pieces

abbrev pub whole_run : List ℤ → List (List ℕ) → Progress
whole_run t pieces = finished (fed_run t pieces).progress (fed_run t pieces).kept

-- an output with room for every refusal, and besides for the longest listing of so many rows, or for the longest report on the 32 entries that a chart may
-- have; the heading of a listing and the total of a report are shorter than a refusal
abbrev pub bytes_for : Format → ℕ → ℕ
bytes_for Listing rows = refusal_size + rows * row_size
bytes_for Report rows = refusal_size + 32 * tally_size

unfoldable pub has_room : Format → List ℤ → List ℕ → Bool
has_room f t out = leb (bytes_for f (room_in t)) (length out)

-- For every table and every input, however it is cut into pieces: what the run prints is what the reference model gives for the input's chart and
-- calls, the listing of its rows, the report on them or its refusal.
pub record PrintsModel (f : Format) (t : List ℤ) (pieces : List (List ℕ)) (out : List ℕ) : Type 0 where
  pub bytes : printed_length f (whole_run t pieces).run (whole_run t pieces).table out ≡ Some (length (printed_for f (room_in t) (joined pieces)))
  pub output : printed_output f (whole_run t pieces).run (whole_run t pieces).table out ≡ printed_for f (room_in t) (joined pieces) ++ drop (length (printed_for f (room_in t) (joined pieces))) out

abbrev pub ProgramHolds : Type 0
ProgramHolds = (f : Format) (t : List ℤ) (pieces : List (List ℕ)) (out : List ℕ) → bytes_for f (room_in t) ≤ length out → PrintsModel f t pieces out

-- a whole input in one piece: nothing is done where the output has not that room
unfoldable pub whole_count : Format → List ℕ → List ℤ → List ℕ → Option ℕ
whole_count f input t out = written_where (has_room f t out) (printed_for f (room_in t) input)

-- the same as a number, 0 where nothing is done
unfoldable pub whole_length : Format → List ℕ → List ℤ → List ℕ → ℕ
whole_length f input t out = length_where (has_room f t out) (printed_for f (room_in t) input)

unfoldable pub whole_output : Format → List ℕ → List ℤ → List ℕ → List ℕ
whole_output f input t out = output_where (has_room f t out) (printed_for f (room_in t) input) out

unfoldable pub whole_table : Format → List ℕ → List ℤ → List ℕ → List ℤ
whole_table f input t out = cond (has_room f t out) (whole_run t (input ∷ [])).table t
