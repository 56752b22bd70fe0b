-- What holds of a run at its stage holds after every further line and byte.
use Prim.Native.Nat.{ℕ, suc, ◌+◌, ◌≤◌, ◌<◌, ◌^◌}
use native.Mathlib.Omega.{arith}
use mathlib.Core.Path.{◌≡◌, refl, sym, ap, ◌∙◌, subst}
use mathlib.Core.Bool.{Bool, true, false, cond}
use mathlib.Core.List.{List, [], ◌∷◌, ◌++◌}
use borrow.Author.Tests.{eqb-true, eqb-false}
use lib.Dec.{eqb, leb}
use lib.IntN.{ℤ}
use lib.ListN.{length}
use Rattle.interval.specs.Instants.{is_instant}
use Rattle.interval.proofs.Signed.{never}
use Rattle.text.specs.Text.{Line, whole, broken, split}
use Rattle.text.proofs.Laws.{split_some, split_few}
use Rattle.chart.specs.Charts.{is_usable, read_lines, no_entries, taken_chart}
use Rattle.chart.specs.declared.Chart.{Chart}
use Rattle.chart.specs.declared.ChartAnswer.{ChartAnswer}
use Rattle.chart.proofs.Lines.{read_none, read_taken, lines_good, lines_more}
use Rattle.chart.proofs.Usable.{Good, good_none, good_usable, usable_few}
use Rattle.model.specs.Reference as ref
use Rattle.watch.specs.Steps.{Step, opening_step, check_number, refused_step, event_step, clock_step, forget_step}
use Rattle.watch.specs.Histories as watch
use Rattle.watch.specs.Histories.{State, call, opened}
use Rattle.watch.specs.declared.Watch.{Watch}
use Rattle.watch.proofs.Calls.{opening_8}
use Rattle.watch.proofs.History.{history_consistent}
use Rattle.model.proofs.ReferenceLaws.{run_none, run_more}
use Rattle.watch.proofs.Steps.{event_call, clock_call, forget_call}
use Rattle.log_line.specs.declared.Call.{Call}
use Rattle.log_line.specs.declared.Call.TheVariants as log
use Rattle.std.specs.Prelude.{Option, Some, None}
use Rattle.program.specs.Outcomes.{call_in, is_empty}
use Rattle.program.specs.Runs.{Progress, refused_run, next_run, entry_run, chart_end, answered_run, stepped, open_step, state_of, call_step, line_step, after_line, after_parts, after_bytes, is_refused, Holds, Reached, OfHistory, HasFew, HasLines, start_run}
use Rattle.program.specs.declared.Run.{Run}
use Rattle.program.specs.declared.Stage.{Stage}
use Rattle.program.specs.declared.Stage.TheVariants.{Entries, Opening, Calls, Refused}
use Rattle.program.proofs.Pieces.{parts_stopped, bytes_stopped, broken_stopped}

-- a chart read from lines is one whose entries fit so far
pub read_good : (c : Chart) → (ls : List Line) × (read_lines no_entries ls ≡ taken_chart c) → Good c
read_good c (ls, e) = lines_good no_entries c ls good_none e

-- a run that goes on has no more entries than a chart can have
pub reached_few : (p : Progress) → Reached p → HasFew p.run
unfolding HasFew Holds is_refused
reached_few p h = go p.run.stage h
  where
    go : (s : Stage) → Holds s p.run p.table → is_refused s ≡ false → p.run.chart.count ≤ 32
    go Entries k z = (read_good p.run.chart k).few
    go Opening k z = usable_few p.run.chart k
    go Calls k z = usable_few p.run.chart k.0
    go (Refused n) k z = never (sym z)

-- each stage goes on to one of which it holds
entries_on : (r : Run) (t : List ℤ) (l : Line) → Holds Entries r t → Reached (record { run = cond (is_empty l) (chart_end r) (entry_run r (read_lines r.chart (l ∷ []))); table = t })
unfolding Holds chart_end entry_run next_run refused_run
entries_on r t l h = go (is_empty l)
  where
    a : ChartAnswer
    a = read_lines r.chart (l ∷ [])

    ends : (b : Bool) → eqb r.chart.count 0 ≡ b → Reached (record { run = cond b (refused_run r 1 1) (next_run r Opening r.chart r.watch); table = t })
    ends true e = tt
    ends false e = good_usable r.chart (read_good r.chart h) (let k = eqb-false r.chart.count 0 e in omega (arith, k))

    more : (b : Bool) → eqb a.refusal 0 ≡ b → Reached (record { run = cond b (next_run r Entries a.chart r.watch) (refused_run r a.refusal a.line); table = t })
    more true e = (h.0 ++ l ∷ [], lines_more no_entries r.chart h.0 l h.1 ∙ read_taken r.chart l (eqb-true a.refusal 0 e))
    more false e = tt

    go : (b : Bool) → Reached (record { run = cond b (chart_end r) (entry_run r a); table = t })
    go true = ends (eqb r.chart.count 0) refl
    go false = more (eqb a.refusal 0) refl

-- a step of the watch that ends in a history
stepped_on : (r : Run) (x : Step) → is_usable r.chart ≡ true → (x.answer.refusal ≡ 0 → OfHistory r.chart (watch.stepped r.chart x).state) → Reached (stepped r x)
unfolding Holds answered_run next_run refused_run
stepped_on r x usable h = go (eqb x.answer.refusal 0) refl
  where
    go : (b : Bool) → eqb x.answer.refusal 0 ≡ b → Reached (record { run = cond b (next_run r Calls r.chart x.answer.watch) (refused_run r x.answer.refusal (r.line + 1)); table = x.table })
    go true e = (usable, h (eqb-true x.answer.refusal 0 e))
    go false e = tt

opening_on : (r : Run) (t : List ℤ) (c : Option Call) → Holds Opening r t → Reached (stepped r (open_step r.chart t c))
unfolding open_step Holds answered_run refused_run
opening_on r t (Some (log.Open o)) usable = stepped_on r (opening_step r.chart t o) usable (λ z. go z (is_instant o) refl)
  where
    go : (opening_step r.chart t o).answer.refusal ≡ 0 → (b : Bool) → is_instant o ≡ b → OfHistory r.chart (watch.stepped r.chart (opening_step r.chart t o)).state
    go z true e = record { before = t; opened = o; in_range = e; calls = []; same = sym (run_none call (opened r.chart t o)) }
    go z false e = absurd (let k : (opening_step r.chart t o).answer.refusal ≡ 8 = ap (λ x. x.answer.refusal) (opening_8 r.chart t o usable e) in omega (arith, k, z))
opening_on r t (Some (log.Event k)) usable = tt
opening_on r t (Some (log.Clock x)) usable = tt
opening_on r t (Some (log.Forget f)) usable = tt
opening_on r t None usable = tt

-- one call more, which leaves the chart: the step x
pub history_on : (chart : Chart) (s : State) (c : watch.Call) (x : Step) → call s c ≡ watch.stepped chart x → OfHistory chart s → OfHistory chart (watch.stepped chart x).state
history_on chart s c x e h = record {
  before = h.before;
  opened = h.opened;
  in_range = h.in_range;
  calls = h.calls ++ c ∷ [];
  same = sym (ap (λ y. y.state) e) ∙ ap (λ y. (call y c).state) h.same ∙ sym (run_more call (opened chart h.before h.opened) h.calls c);
}

-- no call on it is refused by the check
pub history_checked : (chart : Chart) → is_usable chart ≡ true → (s : State) → OfHistory chart s → check_number s.chart s.watch s.table ≡ 0
history_checked chart usable s h = ap (λ x. check_number x.chart x.watch x.table) h.same ∙ history_consistent chart usable h.before h.opened h.in_range h.calls

pub reached_checked : (r : Run) (t : List ℤ) → r.stage ≡ Calls → Reached (record { run = r; table = t }) → check_number r.chart r.watch.state t ≡ 0
unfolding Holds
reached_checked r t e h = let k : Holds Calls r t = subst (λ s. Holds s r t) e h in history_checked r.chart k.0 (state_of r t) k.1

pub history_before : (chart : Chart) (s : State) (c : watch.Call) (x : Step) (e : call s c ≡ watch.stepped chart x) (h : OfHistory chart s) → (history_on chart s c x e h).before ≡ h.before
unfolding history_on
history_before chart s c x e h = refl

calls_on : (r : Run) (t : List ℤ) (c : Option Call) → Holds Calls r t → Reached (stepped r (call_step (state_of r t) c))
unfolding call_step Holds
calls_on r t None (usable, h) = stepped_on r (refused_step 7 r.watch.state t) usable (λ y. h)
calls_on r t (Some (log.Open x)) (usable, h) = stepped_on r (refused_step 7 r.watch.state t) usable (λ y. h)
calls_on r t (Some (log.Event k)) (usable, h) = stepped_on r (event_step r.chart r.watch.state t k) usable (λ y. history_on r.chart (state_of r t) (ref.event k) _ (event_call (state_of r t) k) h)
calls_on r t (Some (log.Clock x)) (usable, h) = stepped_on r (clock_step r.chart r.watch.state t x) usable (λ y. history_on r.chart (state_of r t) (ref.clock x) _ (clock_call (state_of r t) x) h)
calls_on r t (Some (log.Forget f)) (usable, h) = stepped_on r (forget_step r.chart r.watch.state t f) usable (λ y. history_on r.chart (state_of r t) (ref.forget f) _ (forget_call (state_of r t) f) h)

pub line_on : (p : Progress) (l : Line) → Reached p → Reached (after_line p l)
unfolding line_step
line_on p l h = go p.run.stage refl h
  where
    go : (s : Stage) → p.run.stage ≡ s → Holds s p.run p.table → Reached (line_step s p.run p.table l)
    go Entries e k = entries_on p.run p.table l k
    go Opening e k = opening_on p.run p.table (call_in l) k
    go Calls e k = calls_on p.run p.table (call_in l) k
    go (Refused n) e k = subst (λ s. Holds s p.run p.table) (sym e) k

parts_on : (p : Progress) (ps : List (List ℕ)) → Reached p → Reached (after_parts p ps)
unfolding after_parts
parts_on p [] h = h
parts_on p (s ∷ []) h = go (leb 64 (length s))
  where
    go : (b : Bool) → Reached (cond b (after_line p (broken s)) p)
    go true = line_on p (broken s) h
    go false = h
parts_on p (s ∷ q ∷ qs) h = parts_on (after_line p (whole s)) (q ∷ qs) (line_on p (whole s) h)

pub bytes_on : (p : Progress) (s : List ℕ) → Reached p → Reached (after_bytes p s)
unfolding after_bytes
bytes_on p s h = parts_on p (split 10 s) h

pub start_reached : (t : List ℤ) → Reached (record { run = start_run; table = t })
unfolding start_run Holds
start_reached t = ([], read_none no_entries)

pub start_goes : is_refused start_run.stage ≡ false
unfolding start_run is_refused
start_goes = refl

pub start_line : start_run.line ≡ 0
unfolding start_run
start_line = refl

-- a line that is taken is counted, and there are no more lines than bytes
Counted : Run → Run → Type 0
Counted r q = is_refused q.stage ≡ false → q.line ≤ r.line + 1

next_counted : (r : Run) (s : Stage) (c : Chart) (w : Watch) → Counted r (next_run r s c w)
unfolding Counted next_run
next_counted r s c w z = omega arith

refused_counted : (r : Run) (n k : ℕ) → Counted r (refused_run r n k)
unfolding Counted refused_run is_refused
refused_counted r n k z = never (sym z)

either_counted : (r : Run) (b : Bool) (x y : Run) → Counted r x → Counted r y → Counted r (cond b x y)
either_counted r true x y p q = p
either_counted r false x y p q = q

step_counted : (r : Run) (x : Step) → Counted r (stepped r x).run
unfolding answered_run
step_counted r x = either_counted r (eqb x.answer.refusal 0) (next_run r Calls r.chart x.answer.watch) (refused_run r x.answer.refusal (r.line + 1)) (next_counted r Calls r.chart x.answer.watch) (refused_counted r x.answer.refusal (r.line + 1))

pub line_counted : (p : Progress) (l : Line) → is_refused (after_line p l).run.stage ≡ false → (after_line p l).run.line ≤ p.run.line + 1
unfolding Counted line_step entry_run chart_end
line_counted p l = go p.run.stage
  where
    r : Run
    r = p.run

    a : ChartAnswer
    a = read_lines r.chart (l ∷ [])

    go : (s : Stage) → Counted r (line_step s r p.table l).run
    go Entries = either_counted r (is_empty l) (chart_end r) (entry_run r a) (either_counted r (eqb r.chart.count 0) (refused_run r 1 1) (next_run r Opening r.chart r.watch) (refused_counted r 1 1) (next_counted r Opening r.chart r.watch)) (either_counted r (eqb a.refusal 0) (next_run r Entries a.chart r.watch) (refused_run r a.refusal a.line) (next_counted r Entries a.chart r.watch) (refused_counted r a.refusal a.line))
    go Opening = step_counted r (open_step r.chart p.table (call_in l))
    go Calls = step_counted r (call_step (state_of r p.table) (call_in l))
    go (Refused n) = λ z. omega arith

parts_counted : (p : Progress) (s : List ℕ) (ss : List (List ℕ)) → is_refused (after_parts p (s ∷ ss)).run.stage ≡ false → (after_parts p (s ∷ ss)).run.line ≤ p.run.line + length ss
unfolding after_parts
parts_counted p s [] z = go (leb 64 (length s)) z
  where
    go : (b : Bool) → is_refused (cond b (after_line p (broken s)) p).run.stage ≡ false → (cond b (after_line p (broken s)) p).run.line ≤ p.run.line + 0
    go true y = never (sym y ∙ broken_stopped p s)
    go false y = omega arith
parts_counted p s (q ∷ qs) z = go (is_refused p₁.run.stage) refl (parts_counted p₁ q qs z)
  where
    p₁ : Progress
    p₁ = after_line p (whole s)

    go : (b : Bool) → is_refused p₁.run.stage ≡ b → (after_parts p₁ (q ∷ qs)).run.line ≤ p₁.run.line + length qs → (after_parts p₁ (q ∷ qs)).run.line ≤ p.run.line + suc (length qs)
    go true e h = never (sym z ∙ ap (λ x. is_refused x.run.stage) (parts_stopped p₁ (q ∷ qs) e) ∙ e)
    go false e h = omega (arith, h, line_counted p (whole s) e)

pub bytes_counted : (p : Progress) (s : List ℕ) → is_refused (after_bytes p s).run.stage ≡ false → (after_bytes p s).run.line ≤ p.run.line + length s
unfolding after_bytes
bytes_counted p s = go (split_some 10 s)
  where
    go : (q : List ℕ) × (qs : List (List ℕ)) × (split 10 s ≡ q ∷ qs) → is_refused (after_parts p (split 10 s)).run.stage ≡ false → (after_parts p (split 10 s)).run.line ≤ p.run.line + length s
    go (q, qs, e) z =
        let few : suc (length qs) ≤ suc (length s) = rw e at (split_few 10 s) in
        let y : is_refused (after_parts p (q ∷ qs)).run.stage ≡ false = rw e at z in
        rw e (omega (arith, few, parts_counted p q qs y))

-- after some bytes there is still room for the number of one line more
pub bytes_lines : (p q : Progress) (s : List ℕ) → HasLines p.run (length s + 1) → q ≡ after_bytes p s → HasLines q.run 1
unfolding HasLines
bytes_lines p q s h e z =
    let y : is_refused (after_bytes p s).run.stage ≡ false = ap (λ x. is_refused x.run.stage) (sym e) ∙ z in
    let n : q.run.line ≡ (after_bytes p s).run.line = ap (λ x. x.run.line) e in
    omega (arith, n, bytes_counted p s y, h (goes (is_refused p.run.stage) refl y))
  where
    goes : (b : Bool) → is_refused p.run.stage ≡ b → is_refused (after_bytes p s).run.stage ≡ false → is_refused p.run.stage ≡ false
    goes true d y = never (sym y ∙ ap (λ x. is_refused x.run.stage) (bytes_stopped p s d) ∙ d)
    goes false d y = d

pub bytes_few : (p q : Progress) (s : List ℕ) → Reached p → q ≡ after_bytes p s → HasFew q.run
bytes_few p q s h e = subst (λ x. HasFew x.run) (sym e) (reached_few (after_bytes p s) (bytes_on p s h))

pub start_lines : (n : ℕ) → n < 2 ^ 64 → HasLines start_run n
unfolding HasLines
start_lines n h z = omega (arith, h, start_line)
