-- Numbers of the log as the code hands them to the calls, and a line of the log in an input.
use Prim.Native.Nat.{ℕ, ◌≤◌, ◌<◌}
use Rattle.std.proofs.Common.{Result, Ok, Err}
use borrow.Author.Tests.{ne_eqb, lt-ltb}
use mathlib.Core.Path.{◌≡◌, refl, sym, ap, ap₂, ◌∙◌}
use mathlib.Core.Logic.{inl}
use mathlib.Core.Bool.{true, false, cond, Bool}
use mathlib.Core.List.{List, [], ◌∷◌, map}
use lib.IntN.{ℤ, pos}
use lib.ListN.{length}
use Rattle.interval.specs.Instants.{is_instant}
use Rattle.interval.proofs.Laws.{refuses_mark, refuses_forget, out_of_range}
use Rattle.text.specs.Text.{Line, whole}
use Rattle.chart.specs.Charts.{is_usable, read_answer, add_line, read_lines}
use Rattle.chart.specs.declared.Fault.{Fault}
use Rattle.chart.proofs.Lines.{line_added, refused_number, refused_line}
use Rattle.chart.proofs.Charts.{number_some}
use Rattle.refusal.specs.Numbers.{number_of}
use Rattle.chart.specs.declared.Chart.{Chart}
use Rattle.state.specs.State.{empty_state}
use Rattle.state.specs.declared.WatchState.{WatchState}
use Rattle.log_line.specs.Log.{call_of}
use Rattle.log_line.specs.Log as whole_log
use Rattle.watch.specs.declared.Answer.{Answer}
use Rattle.watch.specs.Steps.{Step, refused_step, opening_step, clock_own, forget_own}
use Rattle.watch.proofs.Calls.{clock_8, forget_11, opening_8, opening_14}
use Rattle.program.specs.Outcomes.{call_in}
use Rattle.watch.specs.Answers.{answer_of}
use Rattle.watch.specs.declared.Watch.{Watch}
use Rattle.refusal.specs.declared.Refusal.{Refusal}
use Rattle.program.specs.Runs.{answered_run, next_run, narrowed, entry_run, refused_run, open_step, line_step, after_line, stepped}
use Rattle.program.specs.declared.Run.{Run}
use Rattle.program.specs.declared.Stage.TheVariants.{Opening}

-- a line of the chart that is refused
pub entry_refused : (r : Run) (s : List ℕ) (f : Fault) → r.chart.count ≤ 32 → read_answer (Err f) ≡ add_line r.chart s → entry_run r (read_lines r.chart (whole s ∷ [])) ≡ refused_run r (number_of f.refusal) f.line
unfolding entry_run
entry_refused r s f few e = rw (← line_added r.chart s few, ← e, refused_number, refused_line, ne_eqb (number_of f.refusal) 0 (number_some f.refusal))

-- a step by its answer and its table
pub step_is : (a : Answer) (t : List ℤ) (s u : Step) → (a ≡ s.answer) × (t ≡ s.table) → s ≡ u → record { answer = a; table = t } ≡ u
step_is a t s u h e = ap₂ (λ x y. record { answer = x; table = y }) h.0 h.1 ∙ e

-- what the outcome of a call makes of a run, whatever watch the call had
pub answered_by : (r : Run) (w : WatchState) (o : Result Watch Refusal) → answered_run r (answer_of w o) ≡ answered_run r (answer_of (empty_state (pos 0)) o)
unfolding answered_run
answered_by r w (Ok x) = refl
answered_by r w (Err e) = rw (ne_eqb (number_of e) 0 (number_some e))

-- the watch that the log's first line opens, taken over with its entries before the line is counted
pub opened_by : (r : Run) (v : Watch) → answered_run (record { stage = r.stage; line = r.line; chart = r.chart; watch = v }) (answer_of v.state (Ok v)) ≡ answered_run r (answer_of (empty_state (pos 0)) (Ok v))
unfolding answered_run next_run
opened_by r v = refl

pub first_line : (r : Run) (t u : List ℤ) (s : List ℕ) (o : Result Watch Refusal) → r.stage ≡ Opening → length s < 64 → record { answer = answer_of (empty_state (pos 0)) o; table = u } ≡ open_step r.chart t (call_of s) → record { run = answered_run r (answer_of (empty_state (pos 0)) o); table = u } ≡ after_line (record { run = r; table = t }) (whole s)
unfolding line_step call_in
first_line r t u s o e short h = opened ∙ ap (λ x. line_step x r t (whole s)) (sym e)
  where
    opened : record { run = answered_run r (answer_of (empty_state (pos 0)) o); table = u } ≡ line_step Opening r t (whole s)
    opened = rw (lt-ltb (length s) 64 short) (ap (stepped r) h)

no_instant : is_instant (pos 2000000000) ≡ false
unfolding is_instant
no_instant = refl

-- a call by the number narrowed, where one that is no instant is refused whichever it is
narrowed_same : {A : Type 0} (own : ℤ → A) (s : A) → ((x : ℤ) → is_instant x ≡ false → own x ≡ s) → (x : ℤ) → own (narrowed x) ≡ own x
unfolding narrowed
narrowed_same own s h x = go (is_instant x) refl
  where
    go : (b : Bool) → is_instant x ≡ b → own (cond b x (pos 2000000000)) ≡ own x
    go true e = refl
    go false e = h (pos 2000000000) no_instant ∙ sym (h x e)

-- the calls on a consistent watch and table
module _ (chart : Chart) (w : WatchState) (t : List ℤ) where
  pub narrowed_clock : (x : ℤ) → clock_own chart w t (narrowed x) ≡ clock_own chart w t x
  narrowed_clock x = narrowed_same (clock_own chart w t) (refused_step 8 w t) (λ y q. clock_8 chart w t y (refuses_mark w.instant y (inl q))) x

  pub narrowed_forget : (f : ℤ) → forget_own chart w t (narrowed f) ≡ forget_own chart w t f
  narrowed_forget f = narrowed_same (forget_own chart w t) (refused_step 11 w t) (λ y q. forget_11 chart w t y (refuses_forget w.floor w.instant y (out_of_range q))) f

pub narrowed_open : (chart : Chart) (t : List ℤ) (o : ℤ) → opening_step chart t (narrowed o) ≡ opening_step chart t o
narrowed_open chart t o = go (is_usable chart) refl
  where
    go : (b : Bool) → is_usable chart ≡ b → opening_step chart t (narrowed o) ≡ opening_step chart t o
    go true e = narrowed_same (opening_step chart t) (refused_step 8 (empty_state (pos 0)) t) (λ y q. opening_8 chart t y e q) o
    go false e = opening_14 chart t (narrowed o) e ∙ sym (opening_14 chart t o e)

-- A line of the log in an input is read as a line of a whole log is.
pub call_in_log : (l : Line) → call_in l ≡ whole_log.call_in l
unfolding call_in whole_log.call_in
call_in_log l = refl

pub calls_in_log : (ls : List Line) → map call_in ls ≡ map whole_log.call_in ls
calls_in_log [] = refl
calls_in_log (l ∷ ls) = ap₂ (λ c cs. c ∷ cs) (call_in_log l) (calls_in_log ls)
