-- What specs/Demands.antt states.
use Prim.Native.Nat.{ℕ, suc, ◌-◌, ◌≤◌}
use native.Mathlib.Omega.{arith}
use mathlib.Core.Path.{◌≡◌, refl, sym, ◌∙◌, subst}
use mathlib.Core.Logic.{◌⊎◌, inl, inr}
use mathlib.Core.Bool.{Bool, true, false, cond}
use mathlib.Core.List.Memᴰ
use mathlib.Core.List.{List, [], ◌∷◌}
use borrow.Author.Tests.{eqb-false}
use lib.Dec.{eqb}
use lib.ListN.{length}
use Rattle.text.specs.Text.{Line, lines}
use Rattle.chart.specs.Charts.{or_no_line}
use Rattle.chart.specs.declared.ChartAnswer.{ChartAnswer}
use Rattle.model.specs.Recognitions.{Operator}
use Rattle.model.specs.Reference.{Model, Answer}
use Rattle.model.specs.Statements.{◌∈◌}
use Rattle.model.proofs.ReferenceLaws.{opening_number, event_number, clock_number, forget_number}
use Rattle.table.specs.Operators.{operators_of}
use Rattle.table.specs.Table.{room_in}
use Rattle.tally.specs.Tally.{tallies}
use Rattle.printing.proofs.Lines.{table_lists, listing_lists}
use Rattle.watch.specs.Demands.{chart_numbers}
use Rattle.watch.proofs.Numbers.{some_answered}
use Rattle.watch.proofs.Demands as watch
use Rattle.std.specs.Prelude.{Option, Some, None}
use Rattle.log_line.specs.declared.Call.{Call}
use Rattle.log_line.specs.declared.Call.TheVariants as log
use Rattle.log_line.proofs.Demands as line
use Rattle.program.specs.Outcomes.{Outcome, listed, refused, call_in, opening_answer, call_answer, play_calls, play_log, chart_lines, log_lines, play_lines, outcome_text, printed_for}
use Rattle.program.specs.Runs.{Progress, start_run}
use Rattle.program.specs.Demands.{Shows, Refuses, Demand1, ReportTotals, Agree, ReportAgrees}
use Rattle.program.specs.declared.Format.{Format}
use Rattle.program.specs.declared.Format.TheVariants.{Listing, Report}
use Rattle.program.proofs.Pieces.{after_lines}
use Rattle.program.proofs.Playing.{lines_play}
use Rattle.program.proofs.Reaching.{start_reached}
use Rattle.program.proofs.Printing.{lines_on, Added, end_added}

-- a listing, or a refusal by one of 1 to 12
Numbered : Outcome → Type 0
Numbered (listed n rs) = Unit {0}
Numbered (refused n line) = (1 ≤ n) × (n ≤ 12)

module _ (ops : List Operator) (room : ℕ) where
  call_number : (m : Model) (c : Option Call) → (call_answer room m c).number ≤ 12
  unfolding call_answer
  call_number m None = omega arith
  call_number m (Some (log.Open o)) = omega arith
  call_number m (Some (log.Event k)) = event_number m k
  call_number m (Some (log.Clock x)) = clock_number room m x
  call_number m (Some (log.Forget f)) = forget_number m f

  -- an answer goes on or ends the run by its number
  goes_on_lem : (a : Answer Model) (n : ℕ) (on : Outcome) → a.number ≤ 12 → Numbered on → Numbered (cond (eqb a.number 0) on (refused a.number n))
  unfolding Numbered
  goes_on_lem a n on h k = go (eqb a.number 0) refl
    where
      go : (b : Bool) → eqb a.number 0 ≡ b → Numbered (cond b on (refused a.number n))
      go true e = k
      go false e = let d = eqb-false a.number 0 e in (omega (arith, d), h)

  calls_numbered_lem : (m : Model) (n : ℕ) (ls : List Line) → Numbered (play_calls room m n ls)
  unfolding play_calls Numbered
  calls_numbered_lem m n [] = tt
  calls_numbered_lem m n (l ∷ ls) =
      let a = call_answer room m (call_in l) in
      goes_on_lem a n (play_calls room a.state (suc n) ls) (call_number m (call_in l)) (calls_numbered_lem a.state (suc n) ls)

  first_number : (c : Option Call) → (opening_answer ops c).number ≤ 12
  unfolding opening_answer
  first_number (Some (log.Open o)) = opening_number ops o
  first_number None = omega arith
  first_number (Some (log.Event k)) = omega arith
  first_number (Some (log.Clock x)) = omega arith
  first_number (Some (log.Forget f)) = omega arith

  log_numbered : (n : ℕ) (ls : List Line) → Numbered (play_log ops room n ls)
  unfolding play_log Numbered
  log_numbered n [] = (omega arith, omega arith)
  log_numbered n (l ∷ ls) =
      let a = opening_answer ops (call_in l) in
      goes_on_lem a n (play_calls room a.state (suc n) ls) (first_number (call_in l)) (calls_numbered_lem a.state (suc n) ls)

-- a number of the chart reader
chart_number : {n : ℕ} → n ∈ (0 ∷ chart_numbers) → n ≤ 6
chart_number (Memᴰ.head e) = omega arith
chart_number (Memᴰ.tail (Memᴰ.head e)) = omega arith
chart_number (Memᴰ.tail (Memᴰ.tail (Memᴰ.head e))) = omega arith
chart_number (Memᴰ.tail (Memᴰ.tail (Memᴰ.tail (Memᴰ.head e)))) = omega arith
chart_number (Memᴰ.tail (Memᴰ.tail (Memᴰ.tail (Memᴰ.tail (Memᴰ.head e))))) = omega arith
chart_number (Memᴰ.tail (Memᴰ.tail (Memᴰ.tail (Memᴰ.tail (Memᴰ.tail (Memᴰ.head e)))))) = omega arith
chart_number (Memᴰ.tail (Memᴰ.tail (Memᴰ.tail (Memᴰ.tail (Memᴰ.tail (Memᴰ.tail (Memᴰ.head e))))))) = omega arith
chart_number (Memᴰ.tail (Memᴰ.tail (Memᴰ.tail (Memᴰ.tail (Memᴰ.tail (Memᴰ.tail (Memᴰ.tail m))))))) = absurd (Memᴰ.not-nil m)

lines_numbered : (room : ℕ) (ls : List Line) → Numbered (play_lines room ls)
unfolding play_lines Numbered
lines_numbered room ls = go (eqb a.refusal 0) refl
  where
    a : ChartAnswer
    a = or_no_line (chart_lines ls)

    on : Outcome
    on = play_log (operators_of a.chart) room (suc (length ls - length (log_lines ls))) (log_lines ls)

    go : (b : Bool) → eqb a.refusal 0 ≡ b → Numbered (cond b on (refused a.refusal a.line))
    go true e = log_numbered (operators_of a.chart) room (suc (length ls - length (log_lines ls))) (log_lines ls)
    go false e =
        let d = eqb-false a.refusal 0 e in
        let h = chart_number (some_answered (chart_lines ls)).number in
        (omega (arith, d), omega arith)

outcome_printed : (f : Format) (o : Outcome) → Numbered o → Shows f (outcome_text f o) ⊎ Refuses (outcome_text f o)
unfolding outcome_text Numbered
outcome_printed Listing (listed n rs) h = inl (record { rows = rs; text = refl })
outcome_printed Report (listed n rs) h = inl (record { entries = n; rows = rs; text = refl })
outcome_printed Listing (refused n line) h = inr (record { number = n; line = line; least = h.0; greatest = h.1; text = refl })
outcome_printed Report (refused n line) h = inr (record { number = n; line = line; least = h.0; greatest = h.1; text = refl })

pub demand_1 : Demand1
unfolding printed_for
demand_1 = record {
  watch = watch.demand_1;
  log = line.demand_1;
  printed = λ f room input. outcome_printed f (play_lines room (lines input)) (lines_numbered room (lines input));
}

-- the number of rows that a listing prints is the total
pub report_totals : ReportTotals
report_totals chart w t z = table_lists w.rows t ∙ sym (watch.report_holds chart w t z).total

outcome_agrees : (o : Outcome) → Numbered o → Added o → (Refuses (outcome_text Listing o) × (outcome_text Report o ≡ outcome_text Listing o)) ⊎ Agree (outcome_text Listing o) (outcome_text Report o)
unfolding outcome_text Numbered Added
outcome_agrees (listed n rs) h a = inr (record { tallies = tallies n rs; total = length rs; text = refl; sum = a; rows = listing_lists rs })
outcome_agrees (refused n line) h a = inl (record { number = n; line = line; least = h.0; greatest = h.1; text = refl }, refl)

pub report_agrees : ReportAgrees
unfolding printed_for
report_agrees t input =
    let ls = lines input in
    let p : Progress = record { run = start_run; table = t } in
    outcome_agrees (play_lines (room_in t) ls) (lines_numbered (room_in t) ls) (subst Added (lines_play t ls) (end_added (after_lines p ls) (lines_on p ls (start_reached t))))
