-- The numbers of the answers: each is 0 or one of its call's.
use Prim.Native.Nat.{ℕ, ◌*◌, ◌-◌}
use native.Mathlib.Omega.{arith}
use mathlib.Core.Path.{◌≡◌, refl}
use mathlib.Core.Logic.{inl, inr}
use mathlib.Core.Bool.{Bool, true, false, cond}
use mathlib.Core.List.Memᴰ
use mathlib.Core.List.{List, [], ◌∷◌, ◌++◌}
use borrow.Author.Tests.{eqb-true, eqb-false}
use lib.Dec.{eqb, leb, ltb}
use lib.IntN.{ℤ, pos}
use lib.ListN.{length, drop}
use Rattle.text.specs.Text.{Line}
use Rattle.chart.specs.Charts.{is_usable, no_entries, add_line, or_no_line, read_chart, read_added}
use Rattle.chart.specs.declared.Chart.{Chart}
use Rattle.chart.specs.declared.ChartAnswer.{ChartAnswer}
use Rattle.chart.proofs.Numbers as chart
use Rattle.chart.proofs.Numbers.{nth, either, Answered, taken, refused, line_answered, chart_answered, added_answered}
use Rattle.interval.specs.Instants.{is_instant}
use Rattle.model.specs.Reference as ref
use Rattle.model.specs.Statements.{◌∈◌}
use Rattle.table.specs.Table.{put_rows, zeroed, room_in}
use Rattle.table.specs.Operators.{operators_of}
use Rattle.tree.specs.Tree.{tree_bytes}
use Rattle.state.specs.State.{empty_state, open_state, extended, with_event, marked, raised}
use Rattle.consistency.specs.Consistency.{are_consistent}
use Rattle.closing.specs.Closed.{closed_rows}
use Rattle.forgetting.specs.Forgetting.{kept_rows, forgotten_table}
use Rattle.watch.specs.Steps.{Step, answered, refused_step, taken_step, opening_step, check_number, checked, event_own, event_step, clock_own, clock_step, forget_own, forget_step, addition, add_own, add_step, TreeStep, refused_tree, taken_tree, tree_own, tree_step}
use Rattle.watch.specs.Histories.{Call, State, call}
use Rattle.watch.specs.Demands.{opening_numbers, check_numbers, call_numbers, tree_numbers, line_numbers, chart_numbers, ChartAnswered, LineHolds}
use Rattle.state.specs.declared.WatchState.{WatchState}
use Rattle.watch.specs.declared.Answer.{Answer}
use Rattle.watch.specs.declared.Addition.{Addition}
use Rattle.watch.proofs.Calls.{early, barred, add_passed, add_refused, lines_taken, lines_refused}

abbrev step_number : Step → ℕ
step_number s = s.answer.refusal

pub openings_numbered_lem : (chart : Chart) (t : List ℤ) (o : ℤ) → step_number (opening_step chart t o) ∈ (0 ∷ opening_numbers)
unfolding opening_step
openings_numbered_lem chart t o =
    let ns : List ℕ = 0 ∷ opening_numbers in
    let w = empty_state (pos 0) in
    let taken = taken_step (open_state chart.count o) (zeroed 0 (room_in t * 5) t) in
    either step_number ns (is_usable chart) (cond (is_instant o) taken (refused_step 8 w t)) (refused_step 14 w t)
    (either step_number ns (is_instant o) taken (refused_step 8 w t) (nth 0 ns (omega arith)) (nth 2 ns (omega arith)))
    (nth 1 ns (omega arith))

pub checks_numbered_lem : (chart : Chart) (w : WatchState) (t : List ℤ) → check_number chart w t ∈ (0 ∷ check_numbers)
unfolding check_number
checks_numbered_lem chart w t =
    let ns : List ℕ = 0 ∷ check_numbers in
    let consistent = are_consistent chart w t in
    either (λ n. n) ns (is_usable chart) (cond consistent 0 13) 14 (either (λ n. n) ns consistent 0 13 (nth 0 ns (omega arith)) (nth 2 ns (omega arith))) (nth 1 ns (omega arith))

module _ (chart : Chart) (w : WatchState) (t : List ℤ) where
  -- a call's own numbers stand behind those of the check
  checked_numbered : (own : Step) (more : List ℕ) → step_number own ∈ (0 ∷ check_numbers ++ more) → step_number (checked chart w t own) ∈ (0 ∷ check_numbers ++ more)
  unfolding checked
  checked_numbered own more h =
      let ns : List ℕ = 0 ∷ check_numbers ++ more in
      let consistent = are_consistent chart w t in
      either step_number ns (is_usable chart) (cond consistent own (refused_step 13 w t)) (refused_step 14 w t)
      (either step_number ns consistent own (refused_step 13 w t) h (nth 2 ns (omega arith)))
      (nth 1 ns (omega arith))

  event_numbered : (k : ℕ) → (event_own w k).refusal ∈ (0 ∷ call_numbers (ref.event k))
  unfolding event_own
  event_numbered k =
      let ns : List ℕ = 0 ∷ call_numbers (ref.event k) in
      let number : Answer → ℕ = λ a. a.refusal in
      let full = leb 64 w.pending in
      let taken = answered 0 (with_event w k) in
      either number ns (leb 1000000 w.events) (answered 10 w) (cond full (answered 9 w) taken) (nth 3 ns (omega arith))
      (either number ns full (answered 9 w) taken (nth 4 ns (omega arith)) (nth 0 ns (omega arith)))

  clock_numbered : (x : ℤ) → step_number (clock_own chart w t x) ∈ (0 ∷ call_numbers (ref.clock x))
  unfolding clock_own
  clock_numbered x =
      let ns : List ℕ = 0 ∷ call_numbers (ref.clock x) in
      let rs = closed_rows chart w x t in
      let full = ltb (room_in t) (length rs) in
      let taken = taken_step (marked w x (length rs)) (put_rows w.rows (drop w.rows rs) t) in
      either step_number ns (early chart w t x) (refused_step 8 w t) (cond full (refused_step 12 w t) taken) (nth 3 ns (omega arith))
      (either step_number ns full (refused_step 12 w t) taken (nth 4 ns (omega arith)) (nth 0 ns (omega arith)))

  forget_numbered : (f : ℤ) → step_number (forget_own chart w t f) ∈ (0 ∷ call_numbers (ref.forget f))
  unfolding forget_own
  forget_numbered f =
      let ns : List ℕ = 0 ∷ call_numbers (ref.forget f) in
      let taken = taken_step (raised w f (length (kept_rows chart w t f))) (forgotten_table chart w t f) in
      either step_number ns (barred chart w t f) (refused_step 11 w t) taken (nth 3 ns (omega arith)) (nth 0 ns (omega arith))

-- the numbers of an addition: the check's, then the chart reader's
adds_numbered : (chart : Chart) (w : WatchState) (t : List ℤ) (lines : List ℕ) → (add_step chart w t lines).refusal ∈ (0 ∷ call_numbers (ref.add lines))
unfolding add_step add_own
adds_numbered chart w t lines =
    let ns : List ℕ = 0 ∷ call_numbers (ref.add lines) in
    let number : Addition → ℕ = λ x. x.refusal in
    let a = read_added chart lines in
    let taken = addition 0 0 (extended w (a.chart.count - chart.count)) a.chart in
    let refused = addition a.refusal a.line w chart in
    let n = check_number chart w t in
    either number ns (eqb n 0) (cond (eqb a.refusal 0) taken refused) (addition n 0 w chart)
    (either number ns (eqb a.refusal 0) taken refused (nth 0 ns (omega arith)) (behind (number_in (added_answered chart lines))))
    (Memᴰ.append_left chart_numbers (checks_numbered_lem chart w t))
  where
    number_in : {ns : List ℕ} {c : Chart} {x : ChartAnswer} → Answered ns c x → x.refusal ∈ (0 ∷ ns)
    number_in (taken d) = Memᴰ.head refl
    number_in (refused n line h d) = h

    behind : {n : ℕ} → n ∈ (0 ∷ chart_numbers) → n ∈ (0 ∷ check_numbers ++ chart_numbers)
    behind h = elim (Memᴰ.cases_cons h) [ inl e ↦ Memᴰ.head e | inr k ↦ Memᴰ.tail (Memᴰ.append_right check_numbers k) ]

pub calls_numbered_lem : (s : State) (c : Call) → (call s c).number ∈ (0 ∷ call_numbers c)
unfolding call event_step clock_step forget_step
calls_numbered_lem s (ref.event k) = checked_numbered s.chart s.watch s.table (record { answer = event_own s.watch k; table = s.table }) (10 ∷ 9 ∷ []) (event_numbered s.chart s.watch s.table k)
calls_numbered_lem s (ref.clock x) = checked_numbered s.chart s.watch s.table (clock_own s.chart s.watch s.table x) (8 ∷ 12 ∷ []) (clock_numbered s.chart s.watch s.table x)
calls_numbered_lem s (ref.forget f) = checked_numbered s.chart s.watch s.table (forget_own s.chart s.watch s.table f) (11 ∷ []) (forget_numbered s.chart s.watch s.table f)
calls_numbered_lem s (ref.add lines) = adds_numbered s.chart s.watch s.table lines

abbrev tree_number : TreeStep → ℕ
tree_number s = s.answer.refusal

pub trees_numbered_lem : (chart : Chart) (w : WatchState) (t : List ℤ) (i : ℕ) (out : List ℕ) → tree_number (tree_step chart w t i out) ∈ (0 ∷ tree_numbers)
unfolding tree_step tree_own
trees_numbered_lem chart w t i out =
    let ns : List ℕ = 0 ∷ tree_numbers in
    let bytes = tree_bytes (operators_of chart) t i in
    let long = ltb (length out) (length bytes) in
    let own = cond long (refused_tree 16 out) (taken_tree bytes out) in
    let n = check_number chart w t in
    either tree_number ns (eqb n 0) (cond (leb w.rows i) (refused_tree 15 out) own) (refused_tree n out)
    (either tree_number ns (leb w.rows i) (refused_tree 15 out) own (nth 3 ns (omega arith)) (either tree_number ns long (refused_tree 16 out) (taken_tree bytes out) (nth 4 ns (omega arith)) (nth 0 ns (omega arith))))
    (Memᴰ.append_left (15 ∷ 16 ∷ []) (checks_numbered_lem chart w t))

-- charts and their lines
answered_so : {ns : List ℕ} {kept : Chart} {a : ChartAnswer} → Answered ns kept a → ChartAnswered ns kept a
answered_so (taken c) = record { number = Memᴰ.head refl; together = (λ e. refl, λ e. refl); none = λ d. absurd (d refl) }
answered_so (refused n line h d) = record { number = h; together = (λ e. absurd (d e), λ e. absurd (omega arith)); none = λ z. refl }

pub lines_answered : (c : Chart) (s : List ℕ) → ChartAnswered line_numbers no_entries (add_line c s)
lines_answered c s = answered_so (line_answered c s)

pub some_answered : (ls : List Line) → ChartAnswered chart_numbers no_entries (or_no_line ls)
some_answered ls = answered_so (chart.some_answered ls)

pub charts_answered : (s : List ℕ) → ChartAnswered chart_numbers no_entries (read_chart s)
charts_answered s = answered_so (chart_answered s)

pub added_lines_lem : (c : Chart) (s : List ℕ) → ChartAnswered chart_numbers c (read_added c s)
added_lines_lem c s = answered_so (added_answered c s)

-- the line of an addition
pub addition_lines_lem : (chart : Chart) (w : WatchState) (t : List ℤ) (s : List ℕ) → LineHolds (check_number chart w t) (add_step chart w t s)
addition_lines_lem chart w t s = go (eqb n 0) refl (eqb a.refusal 0) refl
  where
    n : ℕ
    n = check_number chart w t

    a : ChartAnswer
    a = read_added chart s

    go : (b : Bool) → eqb n 0 ≡ b → (d : Bool) → eqb a.refusal 0 ≡ d → LineHolds n (add_step chart w t s)
    go false e d q = let k = eqb-false n 0 e in rw (add_refused chart w t s k) (λ z. inr k, λ z. refl)
    go true e true q = rw (add_passed chart w t s (eqb-true n 0 e), lines_taken chart w t s (eqb-true a.refusal 0 q)) (λ z. inl refl, λ z. refl)
    go true e false q =
        let k = eqb-false a.refusal 0 q in
        let h = (added_lines_lem chart s).together in
        rw (add_passed chart w t s (eqb-true n 0 e), lines_refused chart w t s k) (λ z. inl (h.1 z), λ z. elim z [ inl y ↦ h.0 y | inr y ↦ absurd (y (eqb-true n 0 e)) ])
