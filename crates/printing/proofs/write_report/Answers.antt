-- `write_report` meets its contract: the entries from the one at hand on are left to write, and none took more bytes than it may; then the total.
use Rattle.std.proofs.Common.{◌+◌, ◌*◌, ◌≤◌, ◌++◌, length, get_or, drop, arith, length-append}
use Rattle.decimal.specs.Spelling.{spelled_number}
use Rattle.text.proofs.Written.{remaining_less, remaining_none}
use Rattle.printing.specs.Listing.{last_field}
use Rattle.printing.specs.Report.{tally_texts, tally_size, total_size, total_word, report_text}
use Rattle.printing.proofs.Fields.{behind}
use Rattle.printing.proofs.Laws.{report_fits_lem, all_written, tallies_more, tallies_done, last_field_most}
use Rattle.printing.proofs.write_report.Goals.{After-loop-e}
use Rattle.printing.proofs.write_report.Goals as goal

room : (c : After-loop-e) → total_size + length c.args.tallies.now * tally_size ≤ length c.args.out.now
room c = grind arith

pub loop-e-preserved : goal.loop-e-preserved
loop-e-preserved c =
    let ns = c.args.tallies.now in
    let e = c.loop-e.e in
    let w = c.write_tally-at.ensures in
    (omega arith, remaining_less c.loop-e.invariant.1 (spelled_number e ++ last_field (get_or ns e 0)) (tally_texts (e + 1) (drop (e + 1) ns)) (tallies_more ns e c.loop-e-test.true) w.0 w.1)

pub write_last_field-requires : goal.write_last_field-requires
write_last_field-requires c =
    omega (arith, room (goal.at.write_last_field-requires c).After-loop-e, last_field_most c.args.total c.ranges.total.fits)

pub returns : goal.returns
returns c =
    let g = c.args in
    let texts = tally_texts 0 g.tallies.now in
    let total = last_field g.total in
    let entries = remaining_none c.loop-e.invariant.1 (tallies_done g.tallies.now c.loop-e.e c.loop-e-test.false) in
    let done = behind texts (total_word ++ total) g.out.now 0 entries (behind total_word total _ _ c.write_bytes-word.ensures c.write_last_field.ensures) in
    let fit = room (goal.at.returns c).After-loop-e in
    let few : length (report_text g.tallies.now g.total) ≤ length g.out.now = omega (arith, fit, entries.0, last_field_most g.total c.ranges.total.fits, length-append texts (total_word ++ total), length-append total_word total) in
    all_written (report_text g.tallies.now g.total) g.out.now (report_fits_lem g.tallies.now g.out.now fit) few done
