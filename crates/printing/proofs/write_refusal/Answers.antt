-- `write_refusal` meets its contract: the word, the number and the line are written one behind the other.
use Rattle.std.proofs.Common.{◌≤◌, length, ◌∷◌, ◌++◌, arith, length-append}
use Rattle.decimal.specs.Spelling.{spelled_number}
use Rattle.printing.specs.Listing.{refused_word, refusal_text, last_field}
use Rattle.printing.proofs.Fields.{behind, short_digits_most}
use Rattle.printing.proofs.Laws.{refusal_fits_lem, last_field_most, all_written}
use Rattle.printing.proofs.write_refusal.Goals as goal

pub returns : goal.returns
returns c =
    let g = c.args in
    let out = g.out.now in
    let number = 9 ∷ spelled_number g.number in
    let line = last_field g.line in
    let done = behind refused_word (number ++ line) out 0 c.write_bytes-word.ensures (behind number line _ _ (rw c.from.ensures at c.write_field-number.ensures) c.write_last_field.ensures) in
    let few : length (refusal_text g.number g.line) ≤ length out = omega (arith, short_digits_most g.number c.ranges.number.fits, last_field_most g.line c.ranges.line.fits, length-append number line) in
    all_written (refusal_text g.number g.line) out (refusal_fits_lem out c.if-out-lt-REFUSAL_SIZE.false) few done
