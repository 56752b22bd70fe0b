-- Merging two logs that come in pieces, as the code does it: the next line of each log as far as its bytes are there, one step, and steps as long as
-- there are bytes and room.
use Rattle.std.specs.Prelude.{ℕ, zero, suc, ◌+◌, ◌-◌, Bool, cond, List, [], ◌++◌, leb, ℤ, length, take, drop, Option, Some, None, Result, Ok, Err}
use Rattle.std.specs.Option.{option_map, option_map_or}
use Rattle.std.specs.Int.Signed.{lt_z}
use Rattle.interval.specs.Instants.{is_mark_refused}
use Rattle.text.specs.Text.{line_size}
use Rattle.log_line.specs.Log.{call_of, line_of, line_most}
use Rattle.log_line.specs.declared.Call.{Call}
use Rattle.log_line.specs.declared.Call.TheVariants as log
use Rattle.merging.specs.declared.Ended.{Ended}
use Rattle.merging.specs.declared.Mark.{Mark}
use Rattle.merging.specs.declared.Next.{Next}
use Rattle.merging.specs.declared.Want.{Want}
use Rattle.merging.specs.declared.Step.{Step}
use Rattle.merging.specs.declared.Turn.{Turn}

-- The next line of a log by the bytes that are there, none where more are needed: an opening, passed over; an event; or a stop, at a mark that may follow or,
-- with none, at the end. Each comes with the size of its line.
abbrev pub end_stop : Option Next
end_stop = Some (Next.Stop None)

abbrev pub mark_next : ℤ → ℕ → ℤ → Option Next
mark_next now size t = cond (is_mark_refused now t) end_stop (Some (Next.Stop (Some (record { size = size; instant = t }))))

abbrev pub call_next : ℤ → ℕ → Option Call → Option Next
call_next now size (Some (log.Open o)) = Some (Next.Line size None)
call_next now size (Some (log.Event k)) = Some (Next.Line size (Some k))
call_next now size (Some (log.Clock t)) = mark_next now size t
call_next now size (Some (log.Forget f)) = end_stop
call_next now size None = end_stop

-- no whole line is there
abbrev pub no_next_of : ℕ → Bool → Option Next
no_next_of n ended = cond ended end_stop (cond (leb 64 n) end_stop None)

abbrev pub next_of : ℤ → List ℕ → Bool → Option Next
next_of now s ended =
    option_map_or (λ n. call_next now n (call_of (take (n - 1) s))) (line_size s) (no_next_of (length s) ended)

-- One step: how many bytes of each log are used, the call whose line is written, if any, and the instant then; or what is wanted in place of one.
abbrev pub step_to : ℕ → ℕ → Option Call → ℤ → Result Step Want
step_to first second call t = Ok (record { first = first; second = second; call = call; instant = t })

abbrev pub mark_to : ℕ → ℕ → ℤ → Result Step Want
mark_to first second t = step_to first second (Some (log.Clock t)) t

-- both logs are stopped: the earlier mark, or one for both, or the end
abbrev pub step_marks : Option Mark → Option Mark → Result Step Want
step_marks None None = Err Want.Nothing
step_marks (Some s) None = mark_to s.size 0 s.instant
step_marks None (Some t) = mark_to 0 t.size t.instant
step_marks (Some s) (Some t) =
    cond (lt_z s.instant t.instant) (mark_to s.size 0 s.instant)
    (cond (lt_z t.instant s.instant) (mark_to 0 t.size t.instant)
    (mark_to s.size t.size s.instant))

-- the first log is stopped
abbrev pub step_second : ℤ → Option Mark → Option Next → Result Step Want
step_second now s None = Err Want.Second
step_second now s (Some (Next.Line m k)) = step_to 0 m (option_map log.Event k) now
step_second now s (Some (Next.Stop t)) = step_marks s t

abbrev pub step_first : ℤ → Option Next → Option Next → Result Step Want
step_first now None q = Err Want.First
step_first now (Some (Next.Line n k)) q = step_to n 0 (option_map log.Event k) now
step_first now (Some (Next.Stop s)) q = step_second now s q

unfoldable pub step_of : ℤ → Ended → List ℕ → List ℕ → Result Step Want
step_of now ended a b = step_first now (next_of now a ended.first) (next_of now b ended.second)

-- what a step writes
abbrev pub call_text : Option Call → List ℕ
call_text None = []
call_text (Some c) = line_of c

-- Steps, with so many bytes used and this text written so far, as long as there is room for the longest line: where there is not, room is wanted.
pub record Steps : Type 0 where
  pub want : Want
  pub first : ℕ
  pub second : ℕ
  pub text : List ℕ
  pub instant : ℤ

abbrev pub steps_to : Want → ℕ → ℕ → List ℕ → ℤ → Steps
steps_to w first second text now = record { want = w; first = first; second = second; text = text; instant = now }

-- what follows a step, or what was wanted in place of it
abbrev pub after_step : (Step → Steps) → (Want → Steps) → Result Step Want → Steps
after_step goes stops (Ok st) = goes st
after_step goes stops (Err w) = stops w

module _ (ended : Ended) (a b : List ℕ) (room : ℕ) where
  unfoldable pub steps_from : ℕ → ℤ → ℕ → ℕ → List ℕ → Steps
  steps_from zero now first second text = steps_to Want.Room first second text now
  steps_from (suc m) now first second text =
      cond (leb (length text + line_most) room)
      (after_step
      (λ st. steps_from m st.instant (first + st.first) (second + st.second) (text ++ call_text st.call))
      (λ w. steps_to w first second text now)
      (step_of now ended (drop first a) (drop second b)))
      (steps_to Want.Room first second text now)

  unfoldable pub steps_of : ℤ → Steps
  steps_of now = steps_from (suc (length a + length b)) now 0 0 []

-- what is answered, and the output
abbrev pub turn_of : Steps → Turn
turn_of r = record { want = r.want; first = r.first; second = r.second; written = length r.text; instant = r.instant }

abbrev pub output_of : Steps → List ℕ → List ℕ
output_of r out = r.text ++ drop (length r.text) out
