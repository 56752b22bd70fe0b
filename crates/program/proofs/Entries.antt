-- No line of a log alters the entries of a watch, so that the code leaves them where they are.
use Prim.Native.Nat.{ℕ}
use Rattle.std.proofs.Common.{Result, Ok, Err, Option, Some, None, IfOk}
use mathlib.Core.Path.{◌≡◌, refl, sym, ap, ◌∙◌, subst}
use mathlib.Core.Bool.{Bool, true, false, cond}
use mathlib.Core.List.{List}
use lib.Dec.{leb, ltb}
use lib.IntN.{ℤ}
use lib.ListN.{length}
use Rattle.interval.specs.Instants.{is_mark_refused, is_forget_refused}
use Rattle.chart.specs.Charts.{is_usable}
use Rattle.refusal.specs.declared.Refusal.{Refusal}
use Rattle.state.specs.State.{with_event}
use Rattle.state.specs.declared.WatchState.{WatchState}
use Rattle.table.specs.Table.{room_in}
use Rattle.consistency.specs.Consistency.{are_consistent}
use Rattle.closing.specs.Closed.{closed_rows}
use Rattle.watch.specs.Answers.{answer_of}
use Rattle.watch.specs.Steps.{Step, check_number, answered, refused_step, checked, event_own, event_step, clock_own, clock_step, forget_own, forget_step}
use Rattle.watch.specs.Histories.{State}
use Rattle.watch.specs.declared.Watch.{Watch}
use Rattle.log_line.specs.declared.Call.{Call}
use Rattle.log_line.specs.declared.Call.TheVariants as log
use Rattle.watch.proofs.Steps.{event_passed, clock_passed, forget_passed}
use Rattle.program.specs.Runs.{state_of, call_step, answered_run, stepped, narrowed}
use Rattle.program.specs.declared.Run.{Run}
use Rattle.program.proofs.Lines.{step_is, narrowed_clock, narrowed_forget}

-- a watch after a line, with the entries that it had before
abbrev pub with_old_entries : WatchState → WatchState → WatchState
with_old_entries w v = record { instant = v.instant; floor = v.floor; events = v.events; rows = v.rows; pending = v.pending; codes = v.codes; entries = w.entries; since = w.since }

abbrev SameEntries : WatchState → Step → Type 0
SameEntries w q = with_old_entries w q.answer.watch.state ≡ q.answer.watch.state

module _ (s : State) where
  abbrev w : WatchState
  w = s.watch

  checked_same : (own : Step) → SameEntries w own → SameEntries w (checked s.chart w s.table own)
  unfolding checked
  checked_same own h = go (is_usable s.chart) (are_consistent s.chart w s.table)
    where
      go : (u v : Bool) → SameEntries w (cond u (cond v own (refused_step 13 w s.table)) (refused_step 14 w s.table))
      go true true = h
      go true false = refl
      go false v = refl

  own_same : (n m : ℕ) (q : Step) → SameEntries w q → (u v : Bool) → SameEntries w (cond u (refused_step n w s.table) (cond v (refused_step m w s.table) q))
  own_same n m q h true v = refl
  own_same n m q h false true = refl
  own_same n m q h false false = h

  event_same : (k : ℕ) (u v : Bool) → with_old_entries w (cond u (answered 10 w) (cond v (answered 9 w) (answered 0 (with_event w k)))).watch.state ≡ (cond u (answered 10 w) (cond v (answered 9 w) (answered 0 (with_event w k)))).watch.state
  event_same k true v = refl
  event_same k false true = refl
  event_same k false false = refl

  forget_same : (q : Step) → SameEntries w q → (u : Bool) → SameEntries w (cond u (refused_step 11 w s.table) q)
  forget_same q h true = refl
  forget_same q h false = h

  pub entries_same : (c : Option Call) → SameEntries w (call_step s c)
  unfolding call_step event_step clock_step forget_step event_own clock_own forget_own
  entries_same None = refl
  entries_same (Some (log.Open o)) = refl
  entries_same (Some (log.Event k)) = checked_same _ (event_same k (leb 1000000 w.events) (leb 64 w.pending))
  entries_same (Some (log.Clock x)) = checked_same _ (own_same 8 12 _ refl (is_mark_refused w.instant x) (ltb (room_in s.table) (length (closed_rows s.chart w x s.table))))
  entries_same (Some (log.Forget f)) = checked_same _ (forget_same _ refl (is_forget_refused w.floor w.instant f))

  -- of a line's outcome
  pub outcome_entries : (c : Option Call) (o : Result Watch Refusal) (u : List ℤ) → record { answer = answer_of w o; table = u } ≡ call_step s c → IfOk o (λ v. (v.state.entries ≡ w.entries) × (v.state.since ≡ w.since))
  outcome_entries c (Err e) u h = tt
  outcome_entries c (Ok v) u h =
      let same : SameEntries w (record { answer = answer_of w (Ok v); table = u }) = subst (SameEntries w) (sym h) (entries_same c) in
      (sym (ap (λ x. x.entries) same), sym (ap (λ x. x.since) same))

-- What the outcome of a call makes of a run: the entries are those that it had, and it goes on with the call's step.
pub record Made (r : Run) (t : List ℤ) (d : Option Call) (o : Result Watch Refusal) (u : List ℤ) : Type 0 where
  pub kept : IfOk o (λ v. (v.state.entries ≡ r.watch.state.entries) × (v.state.since ≡ r.watch.state.since))
  pub goes : record { run = answered_run r (answer_of r.watch.state o); table = u } ≡ stepped r (call_step (state_of r t) d)

module _ (r : Run) (t : List ℤ) where
  abbrev given : WatchState
  given = r.watch.state

  made : (d : Option Call) {o : Result Watch Refusal} {u : List ℤ} → record { answer = answer_of given o; table = u } ≡ call_step (state_of r t) d → Made r t d o u
  made d {o} {u} h = record { kept = outcome_entries (state_of r t) d o u h; goes = ap (stepped r) h }

  -- on a watch and table that are consistent, a mark and a forget at their number narrowed
  module _ (z : check_number r.chart given t ≡ 0) where
    pub event_made : (k : ℕ) {o : Result Watch Refusal} → answer_of given o ≡ event_own given k → Made r t (Some (log.Event k)) o t
    unfolding call_step
    event_made k h = made (Some (log.Event k)) (ap (λ a. record { answer = a; table = t }) h ∙ sym (event_passed r.chart given t z k))

    pub clock_made : (x : ℤ) {n : ℤ} {o : Result Watch Refusal} {u : List ℤ} → n ≡ narrowed x → (answer_of given o ≡ (clock_own r.chart given t n).answer) × (u ≡ (clock_own r.chart given t n).table) → Made r t (Some (log.Clock x)) o u
    unfolding call_step
    clock_made x e h = made (Some (log.Clock x)) (step_is _ _ _ _ h (ap (clock_own r.chart given t) e ∙ narrowed_clock r.chart given t x ∙ sym (clock_passed r.chart given t z x)))

    pub forget_made : (f : ℤ) {n : ℤ} {o : Result Watch Refusal} {u : List ℤ} → n ≡ narrowed f → (answer_of given o ≡ (forget_own r.chart given t n).answer) × (u ≡ (forget_own r.chart given t n).table) → Made r t (Some (log.Forget f)) o u
    unfolding call_step
    forget_made f e h = made (Some (log.Forget f)) (step_is _ _ _ _ h (ap (forget_own r.chart given t) e ∙ narrowed_forget r.chart given t f ∙ sym (forget_passed r.chart given t z f)))
