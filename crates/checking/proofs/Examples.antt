-- Logs checked call by call, and what is known of each at its end, computed. What must come out was found by hand from request N6 and document 01.
use Prim.Native.Nat.{ℕ}
use mathlib.Core.Path.{◌≡◌, refl}
use mathlib.Core.List.{List, [], ◌∷◌, map}
use lib.IntN.{ℤ, pos}
use Rattle.std.specs.Prelude.{Option, Some, None, Ok, Err}
use Rattle.interval.specs.Instants.{is_instant, is_mark_refused}
use Rattle.refusal.specs.declared.Refusal.{Refusal}
use Rattle.refusal.specs.declared.Refusal.TheVariants.{MalformedCall, InstantRefused, ForgetMerged}
use Rattle.log_line.specs.declared.Call.{Call}
use Rattle.log_line.specs.declared.Call.TheVariants.{Open, Event, Clock, Forget}
use Rattle.checking.specs.declared.Instants.{Instants}
use Rattle.checking.specs.declared.Check.{Check}
use Rattle.checking.specs.Checks.{start_check, check_calls, end_check}

-- the calls of a log, and the check of it
record Case : Type 0 where
  log : List (Option Call)
  check : Check

infix 80 ◌⇒◌
abbrev ◌⇒◌ : List (Option Call) → Check → Case
l ⇒ c = record { log = l; check = c }

abbrev instants : ℤ → ℤ → Option Instants
instants o t = Some (record { opened = o; reached = t })

-- the check of a log that stands, or that is refused, with so many lines
abbrev stands : ℕ → Option Instants → Check
stands n i = record { line = n; state = Ok i }

abbrev refused : ℕ → Refusal → Option Instants → Check
refused n r i = record { line = n; state = Err (record { refusal = r; instants = i }) }

-- opened at 5 ms, a mark at 7 ms
abbrev marked : List (Option Call) → List (Option Call)
marked behind = Some (Open (pos 50)) ∷ Some (Event 1) ∷ Some (Clock (pos 70)) ∷ behind

-- A log that is refused, at the line of the refusal, has the instants up to that line.
cases : List Case
cases =
    marked [] ⇒ stands 3 (instants (pos 50) (pos 70)) ∷
    marked (Some (Forget (pos 0)) ∷ []) ⇒ refused 4 ForgetMerged (instants (pos 50) (pos 70)) ∷
    marked (Some (Clock (pos 70)) ∷ Some (Event 1) ∷ []) ⇒ refused 4 InstantRefused (instants (pos 50) (pos 70)) ∷
    marked (None ∷ Some (Clock (pos 80)) ∷ []) ⇒ refused 4 MalformedCall (instants (pos 50) (pos 70)) ∷
    -- in the first line, or without one
    (Some (Event 1) ∷ Some (Open (pos 50)) ∷ []) ⇒ refused 1 MalformedCall None ∷
    (Some (Open (pos 10000000000)) ∷ []) ⇒ refused 1 InstantRefused None ∷
    [] ⇒ refused 1 MalformedCall None ∷ []

examples : map (λ (c : Case). end_check (check_calls start_check c.log)) cases ≡ map (λ (c : Case). c.check) cases
unfolding cases is_instant is_mark_refused check_calls
examples = refl
