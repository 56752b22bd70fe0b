-- `next_line` reads no further than the bytes that are there.
use native.Mathlib.Omega.{arith}
use mathlib.Core.Path.{sym, ◌∙◌}
use lib.Seq.{length-take-le}
use Rattle.text.proofs.Laws.{first_part}
use Rattle.merging.proofs.next_line.Goals as goal

pub slice_bounds-read_call-count : goal.slice_bounds-read_call-count
slice_bounds-read_call-count c = (first_part _ _ (sym c.line_size.ensures ∙ c.in-Some.is)).some

pub slice_bounds-read_call-length : goal.slice_bounds-read_call-length
slice_bounds-read_call-length c =
    let line = first_part _ _ (sym c.line_size.ensures ∙ c.in-Some.is) in
    sym (length-take-le _ _ (omega (arith, line.inside)))
