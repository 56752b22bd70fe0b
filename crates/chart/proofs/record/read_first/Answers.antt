-- `read_first` slices the first line off within the text.
use Rattle.std.proofs.Common.{◌≡◌, sym, arith, length-take-le}
use Rattle.std.specs.Prelude.{Some}
use Rattle.text.specs.Text.{line_size}
use Rattle.text.proofs.Laws.{FirstPart, first_part}
use Rattle.chart.proofs.record.read_first.Goals.{In_ok-size}
use Rattle.chart.proofs.record.read_first.Goals as goal

cut : (c : In_ok-size) → FirstPart c.args.s.now c.in_ok-size.size
cut c = let e : line_size c.args.s.now ≡ Some c.in_ok-size.size = grind arith in first_part _ _ e

pub slice_bounds-read_entry-count : goal.slice_bounds-read_entry-count
slice_bounds-read_entry-count c = (cut (goal.at.slice_bounds-read_entry-count c).In_ok-size).some

pub slice_bounds-read_entry-length : goal.slice_bounds-read_entry-length
slice_bounds-read_entry-length c = sym (length-take-le _ _ (omega (arith, (cut (goal.at.slice_bounds-read_entry-length c).In_ok-size).inside)))
