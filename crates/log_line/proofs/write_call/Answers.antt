-- `write_call` meets its contract: the line of each kind of call; where there is no call, the rules say it.
use Prim.Native.Nat.{◌^◌, ◌<◌}
use mir.Syntax.{w64}
use mir.Val.{SFits}
use Rattle.std.proofs.Common.{arith, ap}
use Rattle.interval.proofs.Machine.{same64}
use Rattle.log_line.specs.Log.{open_word, clock_word, forget_word, has_line, line_of}
use Rattle.log_line.proofs.Writing.{no_room, event_written, instant_written}
use Rattle.log_line.proofs.write_call.Goals as goal

pub returns-then-out-lt-LINE_SIZE : goal.returns-then-out-lt-LINE_SIZE
returns-then-out-lt-LINE_SIZE c = rw c.in_ok-call.was (no_room c.in_ok-call.call _ c.if-out-lt-LINE_SIZE.true)

pub returns-in-Event : goal.returns-in-Event
returns-in-Event c =
    let few : c.in-Event.code < 2 ^ 8 = omega arith in
    rw c.in_ok-call.was (event_written c.in_ok-call.call _ c.if-out-lt-LINE_SIZE.false c.in-Event.code c.in-Event.is few (rw c.from.ensures at c.write_line.ensures))

pub returns-in-Open : goal.returns-in-Open
unfolding has_line line_of
returns-in-Open c =
    let fits : SFits w64 c.in-Open.t = record { sfits = omega arith } in
    rw c.in_ok-call.was (instant_written c.in_ok-call.call _ c.if-out-lt-LINE_SIZE.false open_word _ (omega arith) (ap has_line c.in-Open.is) (ap line_of c.in-Open.is) (simp (same64 _ fits) at c.write_instant.ensures))

pub returns-in-Clock : goal.returns-in-Clock
unfolding has_line line_of
returns-in-Clock c =
    let fits : SFits w64 c.in-Clock.t = record { sfits = omega arith } in
    rw c.in_ok-call.was (instant_written c.in_ok-call.call _ c.if-out-lt-LINE_SIZE.false clock_word _ (omega arith) (ap has_line c.in-Clock.is) (ap line_of c.in-Clock.is) (simp (same64 _ fits) at c.write_instant-in-Clock.ensures))

pub returns-in-Forget : goal.returns-in-Forget
unfolding has_line line_of
returns-in-Forget c =
    let fits : SFits w64 c.in-Forget.t = record { sfits = omega arith } in
    rw c.in_ok-call.was (instant_written c.in_ok-call.call _ c.if-out-lt-LINE_SIZE.false forget_word _ (omega arith) (ap has_line c.in-Forget.is) (ap line_of c.in-Forget.is) (simp (same64 _ fits) at c.write_instant-in-Forget.ensures))
