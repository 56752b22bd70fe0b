-- The demands of specs/Demands.antt.
use Prim.Native.Nat.{ℕ, suc, ◌+◌, ◌*◌, ◌-◌, ◌≤◌, ◌<◌}
use native.Mathlib.Omega.{arith}
use mathlib.Core.Path.{◌≡◌, refl, sym, ap, ap₂, ◌∙◌, subst}
use mathlib.Core.Bool.{Bool, true, false, cond, not, ◌&&◌}
use mathlib.Core.List.Memᴰ
use mathlib.Core.List.{List, [], ◌∷◌, ◌++◌, map, Memᴰ}
use lib.Dec.{T, leb, ltb, eqb}
use lib.IntN.{ℤ, pos}
use lib.ListN.{length, take, drop, replicate, length-map, length-append}
use lib.Seq.{take_at}
use lib.Signed.{lt_z, le_z}
use Rattle.interval.specs.Instants.{is_instant, first_floor, is_mark_refused, is_forget_refused}
use Rattle.interval.proofs.Signed.{never, and_first, and_second}
use Rattle.chart.specs.Charts.{is_usable, read_added}
use Rattle.chart.specs.declared.Chart.{Chart}
use Rattle.chart.specs.declared.ChartAnswer.{ChartAnswer}
use Rattle.chart.proofs.Numbers.{cond_holds}
use Rattle.model.specs.Lists.{keep}
use Rattle.model.specs.Order.{Row, as_row, as_rows}
use Rattle.model.specs.Recognitions.{Operator, Recognition, start_of, end_of}
use Rattle.model.specs.Reference as ref
use Rattle.model.specs.Reference.{rows_of, is_at}
use Rattle.model.specs.RowSteps.{watch}
use Rattle.model.specs.Statements.{◌∈◌, Reads, IsRecognition, Played, Entries}
use Rattle.model.proofs.Theorems as model
use Rattle.model.proofs.RowStepLaws.{shown_is}
use Rattle.model.proofs.ReferenceLaws.{run_none, run_on}
use Rattle.model.proofs.Range.{starts_in_range}
use Rattle.table.specs.Operators.{operators_of}
use Rattle.table.specs.Table.{rows_in, flat, put_rows, zeroed, room_in}
use Rattle.table.proofs.Rows.{length_rows, rows_mem, length_flat}
use Rattle.table.proofs.Operators.{length_operators}
use Rattle.tree.specs.Tree.{recognition_bytes, tree_bytes}
use Rattle.tree.proofs.Meaning.{tree_holds}
use Rattle.tally.specs.Tally.{sum, report_of, refused_report}
use Rattle.tally.proofs.Laws.{report_rows, report_read, report_sum}
use Rattle.state.specs.State.{empty_state, open_state, extended, with_event, marked, raised}
use Rattle.consistency.specs.Consistency.{are_consistent}
use Rattle.closing.specs.Closed.{closed_rows}
use Rattle.forgetting.specs.Forgetting.{kept_rows, forgotten_table}
use Rattle.watch.specs.Steps.{Step, empty_watch, opening_step, refused_step, taken_step, checked, answered, event_own, event_step, clock_own, clock_step, forget_own, forget_step, addition, add_own, add_step, check_number, TreeStep, refused_tree, taken_tree, tree_own, tree_step, report_step}
use Rattle.watch.specs.Histories.{Call, State, Called, stepped, added, call, after, opened}
use Rattle.state.specs.declared.WatchState.{WatchState}
use Rattle.watch.specs.declared.Addition.{Addition}
use Rattle.watch.specs.Demands.{history, model_after, listed, FollowsModel, check_numbers, is_forget, nothing_forgotten, HoldsRecognitions, EndPartHolds, ReportHolds, Demand1, Demand2, Demand3}
use Rattle.table.proofs.Tables.{rows_flat}
use Rattle.watch.proofs.Shown.{Shows}
use Rattle.watch.proofs.History.{played, history_shown, history_consistent}
use Rattle.watch.proofs.Calls.{told, opening_taken}
use Rattle.table.proofs.EndParts.{end_part}
use Rattle.watch.proofs.Numbers.{calls_numbered_lem, openings_numbered_lem, checks_numbered_lem, trees_numbered_lem, charts_answered, lines_answered, added_lines_lem, addition_lines_lem}
use Rattle.watch.proofs.Reading.{rows_fit, part_read, part_refused, rows_refused, tree_taken, tree_passed, report_passed, report_refused, report_number}

-- a call that is refused leaves what it got, or it is taken with number 0
Given : State → Called → Type 0
Given s x = (x.number ≡ 0 → ⊥) → x.state ≡ s

module _ (s : State) where
  abbrev w : WatchState
  w = s.watch

  abbrev t : List ℤ
  t = s.table

  -- a step, on this chart
  Kept : Step → Type 0
  Kept x = Given s (stepped s.chart x)

  given_refused : (n : ℕ) → Kept (refused_step n w t)
  unfolding Kept Given
  given_refused n d = refl

  given_taken : (v : WatchState) (u : List ℤ) → Kept (taken_step v u)
  unfolding Kept Given
  given_taken v u d = absurd (d refl)

  given_checked : (own : Step) → Kept own → Kept (checked s.chart w t own)
  unfolding checked
  given_checked own g =
      let consistent = are_consistent s.chart w t in
      cond_holds Kept (is_usable s.chart) (cond consistent own (refused_step 13 w t)) (refused_step 14 w t) (cond_holds Kept consistent own (refused_step 13 w t) g (given_refused 13)) (given_refused 14)

  given_event : (k : ℕ) → Kept (record { answer = event_own w k; table = t })
  unfolding event_own Kept Given
  given_event k = go (leb 1000000 w.events) (leb 64 w.pending)
    where
      go : (a b : Bool) → ((cond a (answered 10 w) (cond b (answered 9 w) (answered 0 (with_event w k)))).refusal ≡ 0 → ⊥) → record { watch = (cond a (answered 10 w) (cond b (answered 9 w) (answered 0 (with_event w k)))).watch.state; table = t; chart = s.chart } ≡ s
      go true b d = refl
      go false true d = refl
      go false false d = absurd (d refl)

  given_clock : (x : ℤ) → Kept (clock_own s.chart w t x)
  unfolding clock_own
  given_clock x =
      let rs = closed_rows s.chart w x t in
      let full = ltb (room_in t) (length rs) in
      let taken = taken_step (marked w x (length rs)) (put_rows w.rows (drop w.rows rs) t) in
      cond_holds Kept (is_mark_refused w.instant x) (refused_step 8 w t) (cond full (refused_step 12 w t) taken) (given_refused 8)
      (cond_holds Kept full (refused_step 12 w t) taken (given_refused 12) (given_taken (marked w x (length rs)) (put_rows w.rows (drop w.rows rs) t)))

  given_forget : (f : ℤ) → Kept (forget_own s.chart w t f)
  unfolding forget_own
  given_forget f =
      let n = length (kept_rows s.chart w t f) in
      let u = forgotten_table s.chart w t f in
      cond_holds Kept (is_forget_refused w.floor w.instant f) (refused_step 11 w t) (taken_step (raised w f n) u) (given_refused 11) (given_taken (raised w f n) u)

  given_add : (lines : List ℕ) → Given s (added t (add_step s.chart w t lines))
  unfolding add_step add_own Given
  given_add lines = go (eqb (check_number s.chart w t) 0) (eqb a.refusal 0)
    where
      a : ChartAnswer
      a = read_added s.chart lines

      taken : Addition
      taken = addition 0 0 (extended w (a.chart.count - s.chart.count)) a.chart

      own : Bool → Addition
      own d = cond d taken (addition a.refusal a.line w s.chart)

      go : (b d : Bool) → ((added t (cond b (own d) (addition (check_number s.chart w t) 0 w s.chart))).number ≡ 0 → ⊥) → (added t (cond b (own d) (addition (check_number s.chart w t) 0 w s.chart))).state ≡ s
      go false d n = refl
      go true false n = refl
      go true true n = absurd (n refl)

  -- a refused call hands back what it got
  refused_call : (c : Call) → ((call s c).number ≡ 0 → ⊥) → (call s c).state ≡ s
  unfolding call event_step clock_step forget_step Kept Given
  refused_call (ref.event k) = given_checked (record { answer = event_own w k; table = t }) (given_event k)
  refused_call (ref.clock x) = given_checked (clock_own s.chart w t x) (given_clock x)
  refused_call (ref.forget f) = given_checked (forget_own s.chart w t f) (given_forget f)
  refused_call (ref.add lines) = given_add lines

-- a refused opening hands back the empty watch
refused_opening : (chart : Chart) (t : List ℤ) (o : ℤ) → ((opening_step chart t o).answer.refusal ≡ 0 → ⊥) → ((opening_step chart t o).answer.watch ≡ empty_watch (pos 0)) × ((opening_step chart t o).table ≡ t)
unfolding opening_step
refused_opening chart t o =
    let w = empty_state (pos 0) in
    let kept : Step → Type 0 = λ x. (x.answer.refusal ≡ 0 → ⊥) → (x.answer.watch ≡ empty_watch (pos 0)) × (x.table ≡ t) in
    let taken = taken_step (open_state chart.count o) (zeroed 0 (room_in t * 5) t) in
    cond_holds kept (is_usable chart) (cond (is_instant o) taken (refused_step 8 w t)) (refused_step 14 w t) (cond_holds kept (is_instant o) taken (refused_step 8 w t) (λ d. absurd (d refl)) (λ d. (refl, refl))) (λ d. (refl, refl))

-- a tree that is refused leaves the output, or it is taken with number 0
OutputKept : List ℕ → TreeStep → Type 0
OutputKept out x = (x.answer.refusal ≡ 0 → ⊥) → (x.answer.length ≡ 0) × (x.out ≡ out)

kept_refused : (n : ℕ) (out : List ℕ) → OutputKept out (refused_tree n out)
unfolding OutputKept
kept_refused n out d = (refl, refl)

kept_taken : (s out : List ℕ) → OutputKept out (taken_tree s out)
unfolding OutputKept
kept_taken s out d = absurd (d refl)

kept_tree : (chart : Chart) (w : WatchState) (t : List ℤ) (i : ℕ) (out : List ℕ) → OutputKept out (tree_step chart w t i out)
unfolding tree_step tree_own
kept_tree chart w t i out =
    let s = tree_bytes (operators_of chart) t i in
    let long = ltb (length out) (length s) in
    let own = cond long (refused_tree 16 out) (taken_tree s out) in
    let n = check_number chart w t in
    cond_holds (OutputKept out) (eqb n 0) (cond (leb w.rows i) (refused_tree 15 out) own) (refused_tree n out)
    (cond_holds (OutputKept out) (leb w.rows i) (refused_tree 15 out) own (kept_refused 15 out) (cond_holds (OutputKept out) long (refused_tree 16 out) (taken_tree s out) (kept_refused 16 out) (kept_taken s out)))
    (kept_refused n out)

-- a refused report is that of the check's number
refused_report_lem : (chart : Chart) (w : WatchState) (t : List ℤ) → ((report_step chart w t).refusal ≡ 0 → ⊥) → report_step chart w t ≡ refused_report (check_number chart w t)
refused_report_lem chart w t d = report_refused chart w t (λ z. d (report_number chart w t ∙ z))

pub demand_1 : Demand1
unfolding OutputKept
demand_1 = record {
  calls_numbered = calls_numbered_lem;
  openings_numbered = openings_numbered_lem;
  checks_numbered = checks_numbered_lem;
  trees_numbered = trees_numbered_lem;
  reports_numbered = λ chart w t. subst (λ n. n ∈ (0 ∷ check_numbers)) (sym (report_number chart w t)) (checks_numbered_lem chart w t);
  charts = charts_answered;
  chart_lines = lines_answered;
  added_lines = added_lines_lem;
  addition_lines = addition_lines_lem;
  calls = refused_call;
  openings = refused_opening;
  reads = λ chart w t e d. (part_refused chart w t e d, rows_refused chart w t e d);
  trees = kept_tree;
  reports = refused_report_lem;
}

pub end_part_holds : EndPartHolds
end_part_holds chart w t e z =
    let r = (told chart w t z).ready in
    part_read chart w t e z ∙ end_part e w.rows t (rows_fit chart w t z) r.ordered r.entry_above

pub report_holds : ReportHolds
report_holds chart w t z =
    let rs = rows_in w.rows t in
    let ready = (told chart w t z).ready in
    let entries : (r : Row) → Memᴰ r rs → r.entry < chart.count = λ r m. let q = rows_mem w.rows t r m in subst (λ x. x.entry < chart.count) (sym q.2) (ready.entry_below q.0 q.1) in
    let passed = report_passed chart w t z in
    let rows = ap (λ r. r.rows) passed ∙ report_rows chart.count rs in
    record {
      sum = ap (λ r. sum r.tallies) passed ∙ report_sum chart.count rs entries ∙ sym rows;
      total = rows ∙ length_rows w.rows t;
      read = ap (λ r. r.read) passed ∙ report_read chart.count rs ∙ length_rows w.rows t;
    }

-- the floor is kept by all calls but an accepted forget
floor_checked : (chart : Chart) (w : WatchState) (t : List ℤ) (own : Step) → own.answer.watch.state.floor ≡ w.floor → (checked chart w t own).answer.watch.state.floor ≡ w.floor
unfolding checked
floor_checked chart w t own p =
    let consistent = are_consistent chart w t in
    let same : Step → Type 0 = λ x. x.answer.watch.state.floor ≡ w.floor in
    cond_holds same (is_usable chart) (cond consistent own (refused_step 13 w t)) (refused_step 14 w t) (cond_holds same consistent own (refused_step 13 w t) p refl) refl

floor_event : (w : WatchState) (k : ℕ) → (event_own w k).watch.state.floor ≡ w.floor
unfolding event_own
floor_event w k = go (leb 1000000 w.events) (leb 64 w.pending)
  where
    go : (a b : Bool) → (cond a (answered 10 w) (cond b (answered 9 w) (answered 0 (with_event w k)))).watch.state.floor ≡ w.floor
    go true b = refl
    go false true = refl
    go false false = refl

floor_clock : (chart : Chart) (w : WatchState) (t : List ℤ) (x : ℤ) → (clock_own chart w t x).answer.watch.state.floor ≡ w.floor
unfolding clock_own
floor_clock chart w t x = go (is_mark_refused w.instant x) (ltb (room_in t) (length (closed_rows chart w x t)))
  where
    go : (a b : Bool) → (cond a (refused_step 8 w t) (cond b (refused_step 12 w t) (taken_step (marked w x (length (closed_rows chart w x t))) (put_rows w.rows (drop w.rows (closed_rows chart w x t)) t)))).answer.watch.state.floor ≡ w.floor
    go true b = refl
    go false true = refl
    go false false = refl

floor_add : (chart : Chart) (w : WatchState) (t : List ℤ) (lines : List ℕ) → (add_step chart w t lines).watch.state.floor ≡ w.floor
unfolding add_step add_own
floor_add chart w t lines = go (eqb (check_number chart w t) 0) (eqb (read_added chart lines).refusal 0)
  where
    a : ChartAnswer
    a = read_added chart lines

    go : (b d : Bool) → (cond b (cond d (addition 0 0 (extended w (a.chart.count - chart.count)) a.chart) (addition a.refusal a.line w chart)) (addition (check_number chart w t) 0 w chart)).watch.state.floor ≡ w.floor
    go true true = refl
    go true false = refl
    go false d = refl

not_both : (n : ℕ) → not (true && eqb n 0) ≡ true → n ≡ 0 → ⊥
not_both n e z = never (sym (ap (λ k. not (true && eqb k 0)) z) ∙ e)

floor_call : (s : State) (c : Call) → not (is_forget c && eqb (call s c).number 0) ≡ true → (call s c).state.watch.floor ≡ s.watch.floor
unfolding call event_step clock_step
floor_call s (ref.event k) e = floor_checked s.chart s.watch s.table (record { answer = event_own s.watch k; table = s.table }) (floor_event s.watch k)
floor_call s (ref.clock x) e = floor_checked s.chart s.watch s.table (clock_own s.chart s.watch s.table x) (floor_clock s.chart s.watch s.table x)
floor_call s (ref.forget f) e = ap (λ z. z.watch.floor) (refused_call s (ref.forget f) (not_both (call s (ref.forget f)).number e))
floor_call s (ref.add lines) e = floor_add s.chart s.watch s.table lines

floor_kept : (s : State) (calls : List Call) → nothing_forgotten s calls ≡ true → (after s calls).watch.floor ≡ s.watch.floor
unfolding nothing_forgotten
floor_kept s [] e = ap (λ x. x.watch.floor) (run_none call s)
floor_kept s (c ∷ cs) e =
    let p = not (is_forget c && eqb (call s c).number 0) in
    let q = nothing_forgotten (call s c).state cs in
    ap (λ x. x.watch.floor) (run_on call s c cs) ∙ floor_kept (call s c).state cs (and_second p q e) ∙ floor_call s c (and_first p q e)

floor_opened : (chart : Chart) (t : List ℤ) (o : ℤ) → (opened chart t o).watch.floor ≡ first_floor
unfolding opening_step
floor_opened chart t o = go (is_usable chart) (is_instant o)
  where
    go : (a b : Bool) → (cond a (cond b (taken_step (open_state chart.count o) (zeroed 0 (room_in t * 5) t)) (refused_step 8 (empty_state (pos 0)) t)) (refused_step 14 (empty_state (pos 0)) t)).answer.watch.state.floor ≡ first_floor
    go true true = refl
    go true false = refl
    go false b = refl

module _ (chart : Chart) (usable : is_usable chart ≡ true) (t : List ℤ) (o : ℤ) (in_range : is_instant o ≡ true) (calls : List Call) where
  abbrev p : Played
  p = played chart usable t o in_range calls

  abbrev b : ref.Model
  b = model_after chart t o calls

  abbrev rs : List Row
  rs = rows_of b

  abbrev tail : List ℤ
  tail = drop (room_in t * 5) t

  abbrev ts : List Recognition
  ts = listed b

  abbrev s : State
  s = history chart t o calls

  -- the state shows the reference model
  is_shown : Shows (room_in t) tail s (watch b.open_instant b.floor b.chart b.since (length b.events) (map (λ e. e.code) (keep (is_at b.open_instant) b.events)) rs)
  is_shown = subst (Shows (room_in t) tail s) ((model.history p).state ∙ shown_is b) (history_shown chart usable t o in_range calls).0

  good : Entries b
  good = model.entries p

  -- the row of a recognition u: it is in use, reads u, and its tree is written as u is
  module _ (us vs : List Recognition) (u : Recognition) (e : ts ≡ us ++ u ∷ vs) where
    in_use_lem : length us < s.watch.rows
    in_use_lem =
        let p : length (as_rows ts) ≡ length us + suc (length vs) = length-map ts (as_row ts) ∙ ap length e ∙ length-append us (u ∷ vs) in
        omega (arith, ap (λ x. x.rows) is_shown.watch, p)

    is_recognition : IsRecognition b.chart b.events u
    is_recognition = (((model.listing_is b.chart good.lower b.since b.events b.floor b.open_instant).members u).0 (subst (Memᴰ u) (sym e) (Memᴰ.append_right us (Memᴰ.head refl)))).0

    reads_it : Reads (rows_in s.watch.rows s.table) (length us) u
    reads_it = subst (λ l. Reads l (length us) u) (sym (ap₂ (λ w u. rows_in w.rows u) is_shown.watch is_shown.table ∙ rows_flat rs _)) (model.references b.chart good.lower b.since good.many b.events b.floor b.open_instant good.rising us vs u e)

    tree_written : (out : List ℕ) → length (recognition_bytes u) ≤ length out → tree_step s.chart s.watch s.table (length us) out ≡ taken_tree (recognition_bytes u) out
    tree_written out h =
        let q = ap (λ ops. tree_bytes ops s.table (length us)) is_shown.operators ∙ tree_holds b.chart b.events s.watch.rows s.table (length us) u in_use_lem is_recognition reads_it in
        tree_passed s.chart s.watch s.table (length us) out (history_consistent chart usable t o in_range calls)
        ∙ tree_taken s.chart s.watch s.table (length us) out in_use_lem (rw q h)
        ∙ ap (λ l. taken_tree l out) q

  report_shown : report_step s.chart s.watch s.table ≡ report_of (length b.chart) rs
  report_shown =
      report_passed s.chart s.watch s.table (history_consistent chart usable t o in_range calls)
      ∙ ap₂ report_of (sym (length_operators s.chart) ∙ ap length is_shown.operators) (ap₂ (λ w u. rows_in w.rows u) is_shown.watch is_shown.table ∙ rows_flat rs _)

  follows : FollowsModel t s b
  follows = record {
    instant = ap (λ w. w.instant) is_shown.watch;
    floor = ap (λ w. w.floor) is_shown.watch;
    chart = is_shown.operators;
    entries = ap (λ w. w.entries) is_shown.watch ∙ good.many;
    since = ap (λ w. w.since) is_shown.watch ∙ ap (λ n. b.since ++ replicate (32 - n) (pos 0)) good.many;
    events = ap (λ w. w.events) is_shown.watch;
    rows = ap (λ w. w.rows) is_shown.watch;
    pending = ap (λ w. take w.pending w.codes) is_shown.watch ∙ take_at codes (replicate (64 - length codes) 0) (length codes) refl;
    pending_count = ap (λ w. w.pending) is_shown.watch ∙ length-map (keep (is_at b.open_instant) b.events) (λ e. e.code);
    table = is_shown.table;
    trees = reads_it;
    bytes = λ us vs u out e h. tree_written us vs u e out h;
    report = report_shown;
  }
    where
      codes : List ℕ
      codes = map (λ e. e.code) (keep (is_at b.open_instant) b.events)

  -- with nothing forgotten the floor leaves out nothing
  holds : nothing_forgotten (opened chart t o) calls ≡ true → HoldsRecognitions s b
  holds none =
      let f = follows in
      let low : b.floor ≡ first_floor = sym f.floor ∙ floor_kept (opened chart t o) calls none ∙ floor_opened chart t o in
      let l = model.listing_is b.chart good.lower b.since b.events b.floor b.open_instant in
      let size : s.watch.rows ≡ length ts = f.rows ∙ length-map ts (as_row ts) in
      let of : Recognition → List Operator → Type 0 = λ u ops. IsRecognition ops b.events u in
      record {
        ts = ts;
        rows = size;
        in_use = ap₂ (λ n u. take (n * 5) u) f.rows f.table ∙ take_at (flat rs) _ (length rs * 5) (length_flat rs);
        increasing = l.increasing;
        members = λ u. (
          λ i. let m = (l.members u).0 i in (subst (of u) (sym f.chart) m.0, m.2, subst (λ z. T (lt_z (end_of u) z)) (sym f.instant) m.3),
          λ i. let r = subst (of u) f.chart i.0 in (l.members u).1 (r, subst (λ z. T (le_z z (start_of u))) (sym low) (starts_in_range p in_range u r), i.1, subst (λ z. T (lt_z (end_of u) z)) f.instant i.2),
        );
      }

pub demand_2 : Demand2
demand_2 chart usable t o in_range calls none = holds chart usable t o in_range calls none

pub demand_3 : Demand3
demand_3 chart usable t o in_range calls = record {
  accepted = ap (λ x. x.answer.refusal) (opening_taken chart t o usable in_range);
  follows = follows chart usable t o in_range calls;
  numbers = (history_shown chart usable t o in_range calls).1 ∙ (model.history (played chart usable t o in_range calls)).answers;
}
