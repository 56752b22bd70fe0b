-- `print_input` meets its contract: what the run of an input prints is what `program::print_whole` answers for it.
use Rattle.std.proofs.Common.{arith}
use Rattle.std.proofs.lemmas.Grind.{common_steps}
use Rattle.input.proofs.Laws.{played_printable, no_room, not_printed, is_printed}
use Rattle.input.proofs.print_input.Goals as goal

pub returns-then-out-bytes_for : goal.returns-then-out-bytes_for
returns-then-out-bytes_for g c = no_room _ _ _ _ _ (rw (← c.bytes_for.ensures) c.if-out-bytes_for.true)

pub returns-in_err-play_input : goal.returns-in_err-play_input
returns-in_err-play_input g c = not_printed _ _ _ _ _ (rw (← c.bytes_for.ensures) c.if-out-bytes_for.false) _ _ _ _ c.play_input.ensures (grind (arith, common_steps)) (grind (arith, common_steps))

pub print-requires : goal.print-requires
print-requires g c =
    let h = played_printable c.args.format _ _ _ _ _ _ c.play_input.ensures (grind (arith, common_steps)) in
    search h

pub returns : goal.returns
returns g c =
    let p = c.print.ensures in
    is_printed c.args.format _ _ _ _ (rw (← c.bytes_for.ensures) c.if-out-bytes_for.false) _ _ _ _ _ c.play_input.ensures (grind (arith, common_steps)) p.0 p.1
