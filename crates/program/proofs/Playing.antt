-- A run line by line comes to what the reference model gives for the same lines.
use Prim.Native.Nat.{ℕ, suc, ◌+◌, ◌-◌, ◌≤◌}
use native.Mathlib.Omega.{arith}
use native.Mathlib.Nat.{zero-add}
use native.Mathlib.Numerals.{add-one}
use mathlib.Core.Path.{◌≡◌, refl, sym, ap, ap₂, ◌∙◌}
use mathlib.Core.Bool.{Bool, true, false, cond, ◌&&◌}
use mathlib.Core.List.{List, [], ◌∷◌, ◌++◌}
use borrow.Author.Tests.{eqb-false, ne_eqb}
use lib.Dec.{eqb}
use lib.IntN.{ℤ, pos}
use lib.ListN.{length}
use Rattle.interval.specs.Instants.{is_instant}
use Rattle.text.specs.Text.{Line}
use Rattle.chart.specs.Charts.{by_answer, is_usable, read_lines, or_no_line, no_entries, with_entry, refused_chart}
use Rattle.chart.proofs.Charts.{number_some}
use Rattle.chart.specs.Records.{answer_to}
use Rattle.refusal.specs.Numbers.{number_of}
use Rattle.refusal.specs.declared.Refusal.{Refusal}
use Rattle.std.specs.Prelude.{Option, Some, None, Result, Ok, Err}
use Rattle.chart.specs.declared.Chart.{Chart}
use Rattle.chart.specs.declared.ChartAnswer.{ChartAnswer}
use Rattle.chart.specs.declared.Entry.{Entry}
use Rattle.chart.proofs.Lines.{no_entries_count, with_entry_count, refused_number, refused_line, or_none, or_some, read_none, read_more}
use Rattle.chart.proofs.Usable.{Good, good_none, good_line, good_usable}
use Rattle.model.specs.Recognitions.{Operator}
use Rattle.model.specs.Reference as ref
use Rattle.model.specs.Reference.{Model, rows_of}
use Rattle.model.proofs.ReferenceLaws.{run_none, run_more, numbers_more, opening_accepted, opening_refused}
use Rattle.table.specs.Operators.{operators_of, reading_of}
use Rattle.table.specs.Table.{rows_in, room_in}
use Rattle.watch.specs.Steps.{Step, holding, empty_watch, opening_step, event_step, clock_step, forget_step}
use Rattle.watch.specs.Histories as watch
use Rattle.watch.specs.Histories.{State, call, answers, opened}
use Rattle.watch.specs.Demands.{history, model_after}
use Rattle.watch.specs.declared.Watch.{Watch}
use Rattle.watch.proofs.Calls.{opening_8, opening_taken}
use Rattle.watch.proofs.Demands.{demand_3}
use Rattle.watch.proofs.Steps.{event_call, clock_call, forget_call}
use Rattle.table.proofs.Operators.{length_operators}
use Rattle.table.proofs.Tables as tables
use Rattle.log_line.specs.declared.Call.{Call}
use Rattle.log_line.specs.declared.Call.TheVariants as log
use Rattle.program.specs.Outcomes.{Outcome, listed, refused, call_in, opening_answer, call_answer, play_calls, play_log, is_empty, chart_lines, log_lines, play_lines}
use Rattle.program.specs.Runs.{Progress, progress, start_run, refused_run, next_run, entry_run, chart_end, answered_run, stepped, open_step, call_step, line_step, end_run, outcome_of, result_of}
use Rattle.program.specs.declared.Run.{Run}
use Rattle.program.specs.declared.Stage.TheVariants.{Entries, Opening, Calls}
use Rattle.program.proofs.Pieces.{at_end, after_lines}

-- what a run comes to after these lines and the end of the input
abbrev pub comes_to : Progress → List Line → Outcome
comes_to p ls = result_of (at_end (after_lines p ls))

-- a refused run
comes_refused : (r : Run) (t : List ℤ) (n line : ℕ) (ls : List Line) → comes_to (record { run = refused_run r n line; table = t }) ls ≡ refused n line
unfolding after_lines end_run outcome_of refused_run line_step
comes_refused r t n line [] = refl
comes_refused r t n line (l ∷ ls) = comes_refused r t n line ls

-- the last of a list of numbers
last_of : List ℕ → ℕ
last_of [] = 0
last_of (n ∷ []) = n
last_of (n ∷ k ∷ ks) = last_of (k ∷ ks)

last_is : (ns : List ℕ) (n : ℕ) → last_of (ns ++ n ∷ []) ≡ n
unfolding last_of
last_is [] n = refl
last_is (k ∷ []) n = refl
last_is (k ∷ j ∷ ks) n = last_is (j ∷ ks) n

module _ (chart : Chart) (usable : is_usable chart ≡ true) (t : List ℤ) (o : ℤ) (in_range : is_instant o ≡ true) where
  abbrev ops : List Operator
  ops = operators_of chart

  abbrev step : Model → watch.Call → ref.Answer Model
  step = ref.step reading_of (room_in t)

  -- each call is answered as in the reference model
  same_number : (cs : List watch.Call) (c : watch.Call) → (call (history chart t o cs) c).number ≡ (step (model_after chart t o cs) c).number
  same_number cs c =
      let before = opened chart t o in
      let m = (ref.opening ops o).state in
      let e = sym (numbers_more call before cs c) ∙ (demand_3 chart usable t o in_range (cs ++ c ∷ [])).numbers ∙ numbers_more step m cs c in
      sym (last_is (answers before cs) _) ∙ ap last_of e ∙ last_is (ref.numbers_of step m cs) _

  -- the rows are its rows
  same_rows : (cs : List watch.Call) → rows_in (history chart t o cs).watch.rows (history chart t o cs).table ≡ rows_of (model_after chart t o cs)
  same_rows cs = let d = (demand_3 chart usable t o in_range cs).follows in ap₂ rows_in d.rows d.table ∙ tables.rows_flat (rows_of (model_after chart t o cs)) _

  -- a run after the opening and these calls
  abbrev playing : ℕ → List watch.Call → Progress
  playing line cs = progress Calls line chart (holding (history chart t o cs).watch) (history chart t o cs).table

  -- a line with a call of the reference model, which leaves the chart: the step x
  one_call : (line : ℕ) (cs : List watch.Call) (c : watch.Call) (x : Step) → call (history chart t o cs) c ≡ watch.stepped chart x → (ls : List Line) → comes_to (playing (line + 1) (cs ++ c ∷ [])) ls ≡ play_calls (room_in t) (model_after chart t o (cs ++ c ∷ [])) (suc (line + 1)) ls → comes_to (stepped (playing line cs).run x) ls ≡ cond (eqb (step (model_after chart t o cs) c).number 0) (play_calls (room_in t) (step (model_after chart t o cs) c).state (suc (suc line)) ls) (refused (step (model_after chart t o cs) c).number (suc line))
  unfolding answered_run next_run
  one_call line cs c x e ls on = rw (← same_number cs c, ap (λ y. y.number) e) (go (eqb x.answer.refusal 0))
    where
      r : Run
      r = (playing line cs).run

      more : history chart t o (cs ++ c ∷ []) ≡ (watch.stepped chart x).state
      more = run_more call (opened chart t o) cs c ∙ ap (λ y. y.state) e

      go : (b : Bool) → comes_to (record { run = cond b (next_run r Calls chart x.answer.watch) (refused_run r x.answer.refusal (line + 1)); table = x.table }) ls ≡ cond b (play_calls (room_in t) (step (model_after chart t o cs) c).state (suc (suc line)) ls) (refused x.answer.refusal (suc line))
      go true = ap (λ s. comes_to (progress Calls (line + 1) chart (holding s.watch) s.table) ls) (sym more) ∙ on ∙ ap₂ (λ m k. play_calls (room_in t) m (suc k) ls) (run_more step (ref.opening (operators_of chart) o).state cs c) (add-one line)
      go false = comes_refused r x.table x.answer.refusal (line + 1) ls ∙ ap (refused x.answer.refusal) (add-one line)

  -- no line of a log adds entries
  pub calls_play : (line : ℕ) (cs : List watch.Call) → (history chart t o cs).chart ≡ chart → (ls : List Line) → comes_to (playing line cs) ls ≡ play_calls (room_in t) (model_after chart t o cs) (suc line) ls
  unfolding after_lines end_run outcome_of play_calls line_step call_step call_answer answered_run
  calls_play line cs same [] =
      let count = sym (length_operators chart) ∙ ap (λ c. length (operators_of c)) (sym same) ∙ ap length (demand_3 chart usable t o in_range cs).follows.chart in
      ap₂ listed count (same_rows cs)
  calls_play line cs same (l ∷ ls) = go (call_in l) (λ c x e. one_call line cs c x e ls (calls_play (line + 1) (cs ++ c ∷ []) (ap (λ s. s.chart) (run_more call (opened chart t o) cs c ∙ ap (λ y. y.state) e)) ls))
    where
      s : State
      s = history chart t o cs

      m : Model
      m = model_after chart t o cs

      r : Run
      r = (playing line cs).run

      go : (c : Option Call) → ((d : watch.Call) (x : Step) → call s d ≡ watch.stepped chart x → comes_to (stepped r x) ls ≡ cond (eqb (step m d).number 0) (play_calls (room_in t) (step m d).state (suc (suc line)) ls) (refused (step m d).number (suc line))) → comes_to (stepped r (call_step (record { watch = s.watch; table = s.table; chart = chart }) c)) ls ≡ cond (eqb (call_answer (room_in t) m c).number 0) (play_calls (room_in t) (call_answer (room_in t) m c).state (suc (suc line)) ls) (refused (call_answer (room_in t) m c).number (suc line))
      go None on = comes_refused r s.table 7 (line + 1) ls ∙ ap (refused 7) (add-one line)
      go (Some (log.Open x)) on = comes_refused r s.table 7 (line + 1) ls ∙ ap (refused 7) (add-one line)
      go (Some (log.Event k)) on = on (ref.event k) (event_step chart s.watch s.table k) (event_call s k ∙ ap (λ c. watch.stepped c (event_step c s.watch s.table k)) same)
      go (Some (log.Clock x)) on = on (ref.clock x) (clock_step chart s.watch s.table x) (clock_call s x ∙ ap (λ c. watch.stepped c (clock_step c s.watch s.table x)) same)
      go (Some (log.Forget f)) on = on (ref.forget f) (forget_step chart s.watch s.table f) (forget_call s f ∙ ap (λ c. watch.stepped c (forget_step c s.watch s.table f)) same)

-- the log of a chart that a watch may use
log_plays : (chart : Chart) → is_usable chart ≡ true → (line : ℕ) (w : Watch) (t : List ℤ) (ls : List Line) → comes_to (progress Opening line chart w t) ls ≡ play_log (operators_of chart) (room_in t) (suc line) ls
unfolding after_lines end_run outcome_of play_log line_step open_step opening_answer refused_run answered_run next_run
log_plays chart usable line w t [] = ap (refused 7) (add-one line)
log_plays chart usable line w t (l ∷ ls) = go (call_in l)
  where
    r : Run
    r = (progress Opening line chart w t).run

    opens : (o : ℤ) (b : Bool) → is_instant o ≡ b → comes_to (stepped r (opening_step chart t o)) ls ≡ cond (eqb (ref.opening (operators_of chart) o).number 0) (play_calls (room_in t) (ref.opening (operators_of chart) o).state (suc (suc line)) ls) (refused (ref.opening (operators_of chart) o).number (suc line))
    opens o true e =
        let h = opening_taken chart t o usable e in
        ap (λ x. comes_to (stepped r x) ls) h ∙ ap (λ x. comes_to (progress Calls (line + 1) chart x.answer.watch x.table) ls) (sym h) ∙ ap (λ s. comes_to (progress Calls (line + 1) chart (holding s.watch) s.table) ls) (sym (run_none call (opened chart t o))) ∙ calls_play chart usable t o e (line + 1) [] (ap (λ s. s.chart) (run_none call (opened chart t o))) ls ∙ rw (run_none (ref.step reading_of (room_in t)) (ref.opening (operators_of chart) o).state, opening_accepted (operators_of chart) o e, add-one line)
    opens o false e = ap (λ x. comes_to (stepped r x) ls) (opening_8 chart t o usable e) ∙ comes_refused r t 8 (line + 1) ls ∙ rw (opening_refused (operators_of chart) o e, add-one line)

    go : (c : Option Call) → comes_to (stepped r (open_step r.chart t c)) ls ≡ cond (eqb (opening_answer (operators_of chart) c).number 0) (play_calls (room_in t) (opening_answer (operators_of chart) c).state (suc (suc line)) ls) (refused (opening_answer (operators_of chart) c).number (suc line))
    go (Some (log.Open o)) = opens o (is_instant o) refl
    go None = comes_refused r t 7 (line + 1) ls ∙ ap (refused 7) (add-one line)
    go (Some (log.Event k)) = comes_refused r t 7 (line + 1) ls ∙ ap (refused 7) (add-one line)
    go (Some (log.Clock x)) = comes_refused r t 7 (line + 1) ls ∙ ap (refused 7) (add-one line)
    go (Some (log.Forget f)) = comes_refused r t 7 (line + 1) ls ∙ ap (refused 7) (add-one line)

-- The chart's lines that are left to read. Where none was read and none is left, it has no line.
none_left : List Line → Bool
none_left [] = true
none_left (l ∷ ls) = false

chart_from : Chart → List Line → ChartAnswer
chart_from c ls = cond (eqb c.count 0 && none_left ls) (refused_chart 1 1) (read_lines c ls)

-- the outcome from a chart answer on
from : ℕ → ChartAnswer → ℕ → List Line → Outcome
from room a line ls = cond (eqb a.refusal 0) (play_log (operators_of a.chart) room line ls) (refused a.refusal a.line)

from_refused : (room n k line : ℕ) (ls : List Line) → (n ≡ 0 → ⊥) → from room (refused_chart n k) line ls ≡ refused n k
unfolding from
from_refused room n k line ls h = rw (refused_number, refused_line, ne_eqb n 0 h)

from_taken : (room : ℕ) (c : Chart) (line : ℕ) (ls : List Line) → from room (read_lines c []) line ls ≡ play_log (operators_of c) room line ls
unfolding from
from_taken room c line ls = rw (read_none c)

log_fewer : (ls : List Line) → length (log_lines ls) ≤ length ls
unfolding log_lines
log_fewer [] = omega arith
log_fewer (l ∷ ls) = go (is_empty l) (log_fewer ls)
  where
    go : (b : Bool) → length (log_lines ls) ≤ length ls → length (cond b ls (log_lines ls)) ≤ suc (length ls)
    go true h = omega arith
    go false h = omega arith

and_no : (b : Bool) → (b && false) ≡ false
and_no true = refl
and_no false = refl

-- the empty line that ends the chart
end_plays : (c : Chart) → Good c → (w : Watch) (t : List ℤ) (ls : List Line) → comes_to (record { run = chart_end (progress Entries c.count c w t).run; table = t }) ls ≡ from (room_in t) (chart_from c []) (suc (c.count + (suc (length ls) - length ls))) ls
unfolding chart_end next_run chart_from none_left
end_plays c g w t ls = go (eqb c.count 0) refl
  where
    r : Run
    r = (progress Entries c.count c w t).run

    go : (b : Bool) → eqb c.count 0 ≡ b → comes_to (record { run = cond b (refused_run r 1 1) (next_run r Opening c w); table = t }) ls ≡ from (room_in t) (cond (b && true) (refused_chart 1 1) (read_lines c [])) (suc (c.count + (suc (length ls) - length ls))) ls
    go true e = comes_refused r t 1 1 ls ∙ sym (from_refused (room_in t) 1 1 _ ls (λ z. omega arith))
    go false e =
        let h : suc (c.count + 1) ≡ suc (c.count + (suc (length ls) - length ls)) = omega arith in
        log_plays c (good_usable c g (let k = eqb-false c.count 0 e in omega (arith, k))) (c.count + 1) w t ls ∙ ap (λ k. play_log (operators_of c) (room_in t) k ls) h ∙ sym (from_taken (room_in t) c _ ls)

chart_plays : (c : Chart) → Good c → (w : Watch) (t : List ℤ) (ls : List Line) → comes_to (progress Entries c.count c w t) ls ≡ from (room_in t) (chart_from c (chart_lines ls)) (suc (c.count + (length ls - length (log_lines ls)))) (log_lines ls)
unfolding after_lines end_run outcome_of refused_run line_step chart_lines log_lines from chart_from none_left play_log entry_run next_run
chart_plays c g w t [] = go (eqb c.count 0)
  where
    r : Run
    r = (progress Entries c.count c w t).run

    go : (b : Bool) → result_of (record { run = cond b (refused_run r 1 1) (refused_run r 7 (c.count + 1)); table = t }) ≡ from (room_in t) (cond (b && true) (refused_chart 1 1) (read_lines c [])) (suc (c.count + (0 - 0))) []
    go true = sym (from_refused (room_in t) 1 1 _ [] (λ z. omega arith))
    go false = ap (refused 7) (omega arith) ∙ sym (from_taken (room_in t) c _ [])
chart_plays c g w t (l ∷ ls) = go (is_empty l) (λ d h. chart_plays d h w t ls)
  where
    r : Run
    r = (progress Entries c.count c w t).run

    Left : Chart → Type 0
    Left d = comes_to (progress Entries d.count d w t) ls ≡ from (room_in t) (chart_from d (chart_lines ls)) (suc (d.count + (length ls - length (log_lines ls)))) (log_lines ls)

    -- what the line's entry or refusal makes of the lines behind it
    read : Result Entry Refusal → List Line → ChartAnswer
    read a ms = by_answer a (λ e. read_lines (with_entry c e) ms) (λ n. refused_chart n (c.count + 1))

    entry_plays : (a : Result Entry Refusal) → answer_to c.count l ≡ a → ((d : Chart) → Good d → Left d) → comes_to (record { run = entry_run r (read a []); table = t }) ls ≡ from (room_in t) (read a (chart_lines ls)) (suc (c.count + (suc (length ls) - length (log_lines ls)))) (log_lines ls)
    entry_plays (Ok e) q on =
        let d = with_entry c e in
        let k : suc (c.count + 1 + (length ls - length (log_lines ls))) ≡ suc (c.count + (suc (length ls) - length (log_lines ls))) = omega (arith, log_fewer ls) in
        let some : eqb (c.count + 1) 0 ≡ false = ne_eqb (c.count + 1) 0 (λ z. omega arith) in
        let size : d.count ≡ c.count + 1 = with_entry_count c e in
        rw (read_none d) (ap (λ m. comes_to (progress Entries m d w t) ls) (sym size) ∙ on d (good_line c l e q g) ∙ rw (size, some, k))
    entry_plays (Err x) q on = rw (refused_number, refused_line, ne_eqb (number_of x) 0 (number_some x)) (comes_refused r t (number_of x) (c.count + 1) ls)

    go : (b : Bool) → ((d : Chart) → Good d → Left d) → comes_to (record { run = cond b (chart_end r) (entry_run r (read_lines c (l ∷ []))); table = t }) ls ≡ from (room_in t) (chart_from c (cond b [] (l ∷ chart_lines ls))) (suc (c.count + (suc (length ls) - length (cond b ls (log_lines ls))))) (cond b ls (log_lines ls))
    go true on = end_plays c g w t ls
    go false on = rw (and_no (eqb c.count 0), read_more c l [], read_more c l (chart_lines ls)) (entry_plays (answer_to c.count l) refl on)

from_start : (ls : List Line) → chart_from no_entries ls ≡ or_no_line ls
unfolding chart_from none_left
from_start [] = rw (no_entries_count, or_none)
from_start (l ∷ ls) = rw (and_no (eqb no_entries.count 0), or_some l ls)

pub lines_play : (t : List ℤ) (ls : List Line) → comes_to (record { run = start_run; table = t }) ls ≡ play_lines (room_in t) ls
unfolding start_run play_lines from
lines_play t ls = ap (λ n. comes_to (progress Entries n no_entries (empty_watch (pos 0)) t) ls) (sym no_entries_count) ∙ chart_plays no_entries good_none (empty_watch (pos 0)) t ls ∙ rw (from_start (chart_lines ls), no_entries_count, zero-add (length ls - length (log_lines ls)))
