-- One call on a watch and table that show a watch on rows gives those that show its next state, with the same number.
use Prim.Native.Nat.{ℕ, suc, ◌+◌, ◌*◌, ◌-◌, ◌≤◌, ◌<◌}
use native.Mathlib.Omega.{arith}
use native.Mathlib.Numerals.{add-one}
use mathlib.Core.Path.{◌≡◌, refl, sym, ap, ap₂, ◌∙◌}
use mathlib.Core.Bool.{Bool, true, false}
use mathlib.Core.List.{List, [], ◌∷◌, ◌++◌, map}
use borrow.Author.Tests.{eqb-true, eqb-false, leb-false, ltb-false}
use lib.Dec.{eqb, leb, ltb}
use lib.IntN.{ℤ, pos}
use lib.ListN.{length, drop, replicate, length-append, length-map, length-replicate, get_or-append}
use lib.Seq.{take_at, drop_at}
use Rattle.interval.specs.Instants.{is_mark_refused, is_forget_refused}
use Rattle.text.specs.Text.{lines}
use Rattle.chart.specs.Charts.{is_usable, entries_of, with_entries, read_added}
use Rattle.chart.specs.declared.Entry.{Entry}
use Rattle.chart.proofs.Added.{added_number, added_taken, added_usable, added_few}
use Rattle.chart.proofs.Entries.{added_count}
use Rattle.chart.specs.declared.Chart.{Chart}
use Rattle.model.specs.Capacity.{capacity}
use Rattle.model.specs.Lists.{keep}
use Rattle.model.specs.Order.{since_of, Row}
use Rattle.model.specs.Recognitions.{Operator, Event}
use Rattle.model.specs.Reference as ref
use Rattle.model.specs.RowSteps as rows
use Rattle.model.specs.RowSteps.{close_instants, instants_to, forget_rows, is_late, renumbered_by, numbered}
use Rattle.model.proofs.History.{keep_length}
use Rattle.model.proofs.RowStepLaws as laws
use Rattle.model.proofs.Steps.{forget_kept}
use Rattle.model.proofs.Due.{instants_more, instants_since}
use Rattle.table.specs.Table.{put_rows, room_in, table_of}
use Rattle.table.specs.Operators.{entry_operator, operators_of, reading_of}
use Rattle.table.proofs.Operators.{length_operators, operators_added}
use Rattle.consistency.specs.Consistency.{are_consistent}
use Rattle.state.specs.State.{extended, with_event, marked, raised}
use Rattle.closing.specs.Closed.{closed_rows}
use Rattle.forgetting.specs.Forgetting.{kept_rows}
use Rattle.watch.specs.Steps.{Step, taken_step, answered, addition, add_own, add_step, checked, event_own, event_step, clock_own, clock_step, forget_own, forget_step}
use Rattle.closing.proofs.Entries.{closed_is}
use Rattle.forgetting.proofs.Forgetting.{kept_is, forgotten_is}
use Rattle.watch.specs.Histories.{Call, Called, stepped, added, call}
use Rattle.table.proofs.Tables.{rows_flat, length_table, table_more, table_less}
use Rattle.watch.proofs.Calls.{check_0, add_passed, lines_taken, lines_refused}
use Rattle.watch.proofs.Shown.{watch_of, Shows, codes_more, since_more}

-- what being consistent tells of the numbers of rows, pending events and entries
pub record Bounds (room : ℕ) (m : rows.Watch) : Type 0 where
  pub few : length m.rows ≤ room
  pub short : length m.pending ≤ 64
  pub entries : length m.since ≡ length m.chart

-- closing appends to the rows there are
instants_append : (ops : List Operator) (since : List ℤ) (es : List Event) (n : ℕ) (o : ℤ) (rs : List Row) → close_instants n o es ops since rs ≡ rs ++ drop (length rs) (close_instants n o es ops since rs)
instants_append ops since es n o rs =
    let p = instants_more ops since es n o rs in
    p.1 ∙ ap (λ x. rs ++ x) (sym (ap (drop (length rs)) p.1 ∙ drop_at rs p.0 (length rs) refl))

kept_few : (ops : List Operator) (f : ℤ) (rs : List Row) → length (forget_rows ops f rs) ≤ length rs
kept_few ops f rs = rw (forget_kept ops f rs, length-map (keep (is_late f) rs) (renumbered_by ops (is_late f) rs)) (keep_length (is_late f) rs)

-- what the next state shows
abbrev step_of : ℕ → List ℤ → ref.Answer rows.Watch → Step
step_of room tail a = record { answer = answered a.number (watch_of a.state); table = table_of room tail a.state.rows }

-- what a call leaves, and its number, are those of the watch on rows
pub record Follows (room : ℕ) (tail : List ℤ) (x : Called) (a : ref.Answer rows.Watch) : Type 0 where
  pub number : x.number ≡ a.number
  pub state : Shows room tail x.state a.state

module _ (chart : Chart) (usable : is_usable chart ≡ true) (room : ℕ) (tail : List ℤ) (fits : capacity (room * 5 + length tail) ≡ room) (m : rows.Watch) (same : operators_of chart ≡ m.chart) (consistent : are_consistent chart (watch_of m) (table_of room tail m.rows) ≡ true) (b : Bounds room m) where
  abbrev t : List ℤ
  t = table_of room tail m.rows

  passes : (own : Step) → checked chart (watch_of m) t own ≡ own
  unfolding checked
  passes own = rw (usable, consistent)

  room_is : room_in t ≡ room
  room_is = ap capacity (length_table room tail m.rows b.few) ∙ fits

  -- a step that leaves the chart
  stepped_shown : (a : ref.Answer rows.Watch) (x : Step) → x ≡ step_of room tail a → a.state.chart ≡ m.chart → Follows room tail (stepped chart x) a
  stepped_shown a x e c = record {
    number = ap (λ y. y.answer.refusal) e;
    state = record { usable = usable; operators = same ∙ sym c; watch = ap (λ y. y.answer.watch.state) e; table = ap (λ y. y.table) e };
  }

  one_more : (k : ℕ) → length m.pending < 64 → with_event (watch_of m) k ≡ watch_of (rows.watch m.open_instant m.floor m.chart m.since (suc m.count) (m.pending ++ k ∷ []) m.rows)
  one_more k h = rw (add-one m.count, codes_more m.pending k h, ← length-append m.pending (k ∷ []))

  event_shown : (k : ℕ) → Follows room tail (stepped chart (event_step chart (watch_of m) t k)) (rows.watch_event m k)
  unfolding event_step event_own
  event_shown k = go (leb 1000000 m.count) refl (leb 64 (length m.pending)) refl
    where
      own : Step
      own = record { answer = event_own (watch_of m) k; table = t }

      go : (d : Bool) → leb 1000000 m.count ≡ d → (e : Bool) → leb 64 (length m.pending) ≡ e → Follows room tail (stepped chart (event_step chart (watch_of m) t k)) (rows.watch_event m k)
      go true p e q = rw (laws.event_10 m k p) (stepped_shown _ _ (passes own ∙ rw p) refl)
      go false p true q = rw (laws.event_9 m k p q) (stepped_shown _ _ (passes own ∙ rw (p, q)) refl)
      go false p false q = rw (laws.event_taken m k p q) (stepped_shown _ _ (passes own ∙ rw (p, q) (ap (λ w. record { answer = answered 0 w; table = t }) (one_more k (leb-false 64 (length m.pending) q)))) refl)

  -- the instants from which the entries count, zeros behind them or not
  since_same : (k : ℕ) → k < length m.chart → since_of (watch_of m).since k ≡ since_of m.since k
  since_same k h = get_or-append m.since _ (pos 0) k (omega (arith, b.entries))

  -- the rows after closing are those of the watch on rows
  closed_same : (x : ℤ) → closed_rows chart (watch_of m) x t ≡ rows.closed_rows m x
  closed_same x =
      closed_is chart (watch_of m) x t
      ∙ ap₂ (λ p rs. close_instants (instants_to m.open_instant x) m.open_instant (numbered m.open_instant (suc (m.count - length m.pending)) p) (operators_of chart) (watch_of m).since rs)
      (take_at m.pending (replicate (64 - length m.pending) 0) (length m.pending) refl)
      (rows_flat m.rows _)
      ∙ ap (λ ops. close_instants (instants_to m.open_instant x) m.open_instant (rows.pending_events m) ops (watch_of m).since m.rows) same
      ∙ instants_since m.chart (watch_of m).since m.since since_same (rows.pending_events m) (instants_to m.open_instant x) m.open_instant m.rows

  closed_table : (x : ℤ) → length (rows.closed_rows m x) ≤ room → put_rows (length m.rows) (drop (length m.rows) (rows.closed_rows m x)) t ≡ table_of room tail (rows.closed_rows m x)
  closed_table x h =
      let rs = rows.closed_rows m x in
      let qs = drop (length m.rows) rs in
      let e : rs ≡ m.rows ++ qs = instants_append m.chart m.since (rows.pending_events m) (instants_to m.open_instant x) m.open_instant m.rows in
      table_more room tail m.rows qs (rw (← e) h) ∙ ap (table_of room tail) (sym e)

  clock_shown : (x : ℤ) → Follows room tail (stepped chart (clock_step chart (watch_of m) t x)) (rows.watch_clock room m x)
  unfolding clock_step clock_own
  clock_shown x = go (is_mark_refused m.open_instant x) refl (ltb room (length rs)) refl
    where
      rs : List Row
      rs = rows.closed_rows m x

      own : Step
      own = clock_own chart (watch_of m) t x

      go : (d : Bool) → is_mark_refused m.open_instant x ≡ d → (e : Bool) → ltb room (length rs) ≡ e → Follows room tail (stepped chart (clock_step chart (watch_of m) t x)) (rows.watch_clock room m x)
      go true p e q = rw (laws.clock_8 room m x p) (stepped_shown _ _ (passes own ∙ rw p) refl)
      go false p true q = rw (laws.clock_12 room m x p q) (stepped_shown _ _ (passes own ∙ rw (closed_same x, room_is, p, q)) refl)
      go false p false q = rw (laws.clock_taken room m x p q) (stepped_shown _ _ (passes own ∙ rw (closed_same x, room_is, p, q) (ap (λ u. taken_step (marked (watch_of m) x (length rs)) u) (closed_table x (ltb-false room (length rs) q)))) refl)

  forget_shown : (f : ℤ) → Follows room tail (stepped chart (forget_step chart (watch_of m) t f)) (rows.watch_forget m f)
  unfolding forget_step forget_own
  forget_shown f = go (is_forget_refused m.floor m.open_instant f) refl
    where
      rs : List Row
      rs = forget_rows m.chart f m.rows

      own : Step
      own = forget_own chart (watch_of m) t f

      kept : kept_rows chart (watch_of m) t f ≡ rs
      kept = kept_is chart (watch_of m) t f ∙ ap₂ (λ ops qs. forget_rows ops f qs) same (rows_flat m.rows _)

      go : (d : Bool) → is_forget_refused m.floor m.open_instant f ≡ d → Follows room tail (stepped chart (forget_step chart (watch_of m) t f)) (rows.watch_forget m f)
      go true p = rw (laws.forget_11 m f p) (stepped_shown _ _ (passes own ∙ rw p) refl)
      go false p = rw (laws.forget_taken m f p) (stepped_shown _ _ (passes own ∙ rw (forgotten_is chart (watch_of m) t f, kept, p) (ap (λ u. taken_step (raised (watch_of m) f (length rs)) u) (table_less room tail m.rows rs b.few (kept_few m.chart f m.rows)))) refl)

  -- lines added to the chart
  module _ (s : List ℕ) where
    abbrev r : ref.Reading
    r = reading_of (length m.chart) s

    abbrev es : List Entry
    es = entries_of chart.count (lines s)

    size : length m.chart ≡ chart.count
    size = ap length (sym same) ∙ length_operators chart

    reading_is : r ≡ record { number = (read_added chart s).refusal; operators = map entry_operator es }
    unfolding reading_of
    reading_is = rw size (ap (λ n. record { number = n; operators = map entry_operator es }) (sym (added_number chart s)))

    passed : add_step chart (watch_of m) t s ≡ add_own chart (watch_of m) s
    passed = add_passed chart (watch_of m) t s (check_0 chart (watch_of m) t usable consistent)

    module _ (z : (read_added chart s).refusal ≡ 0) where
      chart_is : (read_added chart s).chart ≡ with_entries chart es
      chart_is = ap (λ x. x.chart) (added_taken chart s z)

      many : (read_added chart s).chart.count - chart.count ≡ length (map entry_operator es)
      many = omega (arith, ap (λ x. x.count) chart_is, added_count chart es, length-map es entry_operator)

      few : length m.since + length (map entry_operator es) ≤ 32
      few = omega (arith, b.entries, size, length-map es entry_operator, added_few chart.count (lines s) (sym (added_number chart s) ∙ z))

      longer : extended (watch_of m) ((read_added chart s).chart.count - chart.count) ≡ watch_of (rows.watch_added m (map entry_operator es))
      longer =
          ap (extended (watch_of m)) many
          ∙ ap₂ (λ n l. record { instant = m.open_instant; floor = m.floor; events = m.count; rows = length m.rows; pending = length m.pending; codes = (watch_of m).codes; entries = n; since = l })
          (sym (length-append m.since _ ∙ ap (λ n. length m.since + n) (length-replicate (length (map entry_operator es)) m.open_instant)))
          (since_more m.since (length (map entry_operator es)) m.open_instant few)

      taken_shown : Follows room tail (added t (addition 0 0 (extended (watch_of m) ((read_added chart s).chart.count - chart.count)) (read_added chart s).chart)) (ref.accepted (rows.watch_added m (map entry_operator es)))
      taken_shown = record {
        number = refl;
        state = record {
          usable = added_usable chart s usable z;
          operators = ap operators_of chart_is ∙ operators_added chart es ∙ ap (λ ops. ops ++ map entry_operator es) same;
          watch = longer;
          table = refl;
        };
      }

    add_shown : Follows room tail (added t (add_step chart (watch_of m) t s)) (rows.watch_add reading_of m s)
    add_shown = go (eqb (read_added chart s).refusal 0) refl
      where
        number : r.number ≡ (read_added chart s).refusal
        number = ap (λ x. x.number) reading_is

        operators : r.operators ≡ map entry_operator es
        operators = ap (λ x. x.operators) reading_is

        go : (d : Bool) → eqb (read_added chart s).refusal 0 ≡ d → Follows room tail (added t (add_step chart (watch_of m) t s)) (rows.watch_add reading_of m s)
        go true e =
            let z = eqb-true (read_added chart s).refusal 0 e in
            rw (passed ∙ lines_taken chart (watch_of m) t s z, laws.add_taken reading_of m s (ap (λ n. eqb n 0) number ∙ e), operators) (taken_shown z)
        go false e =
            let d = eqb-false (read_added chart s).refusal 0 e in
            rw (passed ∙ lines_refused chart (watch_of m) t s d, laws.add_refused reading_of m s (ap (λ n. eqb n 0) number ∙ e), number)
            (record { number = refl; state = record { usable = usable; operators = same; watch = refl; table = refl } })

  pub call_shown : (c : Call) → Follows room tail (call (record { watch = watch_of m; table = t; chart = chart }) c) (rows.watch_step reading_of room m c)
  unfolding call
  call_shown (ref.event k) = event_shown k
  call_shown (ref.clock x) = clock_shown x
  call_shown (ref.forget f) = forget_shown f
  call_shown (ref.add lines) = add_shown lines
