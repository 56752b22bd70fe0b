-- Checking a log that comes in pieces, as the code does it: line by line, with what is left of the bytes kept for the next piece.
use Rattle.std.specs.Prelude.{ℕ, zero, suc, ◌+◌, ◌-◌, cond, List, [], ◌∷◌, ◌++◌, eqb, leb, ℤ, length, take, drop, Option, Some, None, Result, Ok, Err}
use Rattle.std.specs.Option.{option_map_or}
use Rattle.interval.specs.Instants.{is_instant, is_mark_refused}
use Rattle.refusal.specs.Numbers.{number_of}
use Rattle.refusal.specs.declared.Refusal as why
use Rattle.refusal.specs.declared.Refusal.TheVariants.{MalformedCall, InstantRefused, ForgetMerged}
use Rattle.text.specs.Text.{line_size}
use Rattle.log_line.specs.Log.{call_of}
use Rattle.log_line.specs.declared.Call.{Call}
use Rattle.log_line.specs.declared.Call.TheVariants as log
use Rattle.logs.specs.Logs.{Refusal, refusal}
use Rattle.checking.specs.declared.Instants.{Instants}
use Rattle.checking.specs.declared.Refused.{Refused}
use Rattle.checking.specs.declared.Check.{Check}
use Rattle.checking.specs.declared.Fed.{Fed}

-- a log's instants, none before its first line, or why it was refused, with the instants up to that line
abbrev pub State : Type 0
State = Result (Option Instants) Refused

abbrev pub refused_by : why.Refusal → Option Instants → State
refused_by r i = Err (record { refusal = r; instants = i })

abbrev pub check_of : ℕ → State → Check
check_of line state = record { line = line; state = state }

-- before the first line
abbrev pub start_check : Check
start_check = check_of 0 (Ok None)

-- the first line
abbrev pub opened_check : ℤ → Result Instants why.Refusal
opened_check o = cond (is_instant o) (Ok (record { opened = o; reached = o })) (Err InstantRefused)

abbrev pub first_check : Option Call → Result Instants why.Refusal
first_check (Some (log.Open o)) = opened_check o
first_check None = Err MalformedCall
first_check (Some (log.Event k)) = Err MalformedCall
first_check (Some (log.Clock t)) = Err MalformedCall
first_check (Some (log.Forget f)) = Err MalformedCall

-- every other line
abbrev pub mark_check : Instants → ℤ → Result Instants why.Refusal
mark_check i t = cond (is_mark_refused i.reached t) (Err InstantRefused) (Ok (record { opened = i.opened; reached = t }))

abbrev pub later_check : Instants → Option Call → Result Instants why.Refusal
later_check i (Some (log.Open o)) = Err MalformedCall
later_check i None = Err MalformedCall
later_check i (Some (log.Event k)) = Ok i
later_check i (Some (log.Clock t)) = mark_check i t
later_check i (Some (log.Forget f)) = Err ForgetMerged

-- a line; a log that was refused stays so
abbrev pub state_after : Option Instants → Option Call → Result Instants why.Refusal
state_after None d = first_check d
state_after (Some i) d = later_check i d

-- a line that is refused leaves the instants as they were
abbrev pub begun : Option Instants → Result Instants why.Refusal → State
begun i (Ok j) = Ok (Some j)
begun i (Err r) = refused_by r i

abbrev pub call_checked : ℕ → State → Option Call → Check
call_checked line (Ok i) d = check_of (line + 1) (begun i (state_after i d))
call_checked line (Err r) d = check_of line (Err r)

abbrev pub check_call : Check → Option Call → Check
check_call c d = call_checked c.line c.state d

unfoldable pub check_calls : Check → List (Option Call) → Check
check_calls c [] = c
check_calls c (d ∷ ds) = check_calls (check_call c d) ds

-- no line comes any more
abbrev pub ended_at : ℕ → State → Check
ended_at line (Ok None) = check_of (line + 1) (refused_by MalformedCall None)
ended_at line (Ok (Some i)) = check_of line (Ok (Some i))
ended_at line (Err r) = check_of line (Err r)

abbrev pub end_check : Check → Check
end_check c = ended_at c.line c.state

-- Bytes as they come: each whole line; what is left when none is, kept, or refused where it has 64 bytes. The first number bounds the lines.
abbrev pub fed_to : Check → ℕ → Fed
fed_to c used = record { check = c; used = used }

unfoldable pub fed_rest : Check → ℕ → List ℕ → Fed
fed_rest c used s = cond (leb 64 (length s)) (fed_to (check_call c None) (used + length s)) (fed_to c used)

unfoldable pub fed_from : ℕ → Check → ℕ → List ℕ → Fed
fed_from zero c used s = fed_to c used
fed_from (suc m) c used s =
    option_map_or (λ n. fed_from m (check_call c (call_of (take (n - 1) s))) (used + n) (drop n s)) (line_size s)
    (fed_rest c used s)

unfoldable pub fed_check : Check → List ℕ → Fed
fed_check c s = fed_from (suc (length s)) c 0 s

-- the end of the log with so many bytes kept: they are a line that lacks its byte 10
abbrev pub finished_check : Check → ℕ → Check
finished_check c kept = cond (eqb kept 0) (end_check c) (check_call c None)

-- A log that comes in pieces: what is kept between them, and the end.
unfoldable pub fed_all : Check → List ℕ → List (List ℕ) → Check
fed_all c kept [] = finished_check c (length kept)
fed_all c kept (piece ∷ pieces) =
    let f = fed_check c (kept ++ piece) in
    fed_all f.check (drop f.used (kept ++ piece)) pieces

-- what a log that has ended was turned away for
abbrev pub turned_away : ℕ → State → Refusal
turned_away line (Ok i) = refusal 0 0
turned_away line (Err r) = refusal (number_of r.refusal) line

abbrev pub verdict_of : Check → Refusal
verdict_of c = turned_away c.line c.state

-- the opening instant of a log that is open
abbrev pub opened_of : State → Option ℤ
opened_of (Ok None) = None
opened_of (Ok (Some i)) = Some i.opened
opened_of (Err r) = None
