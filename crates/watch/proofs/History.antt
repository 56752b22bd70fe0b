-- The history theorem on watch and table: after every list of calls they show the watch on rows, and so the reference model.
use Prim.Native.Nat.{ℕ, ◌+◌, ◌*◌, ◌-◌, ◌≤◌}
use native.Mathlib.Omega.{arith}
use native.Mathlib.Nat.{zero-add}
use mathlib.Core.Path.{◌≡◌, refl, sym, ap, ap₂, ◌∙◌, subst, subst₂}
use mathlib.Core.Bool.{true}
use mathlib.Core.List.{List, [], ◌∷◌, ◌++◌}
use borrow.Author.Tests.{eqb-true, leb-true}
use lib.Dec.{T}
use lib.IntN.{ℤ, pos}
use lib.ListN.{length, drop, replicate, length-drop, length-replicate}
use Rattle.interval.specs.Instants.{is_instant, first_floor}
use Rattle.interval.proofs.Signed.{holds→}
use Rattle.chart.specs.Charts.{is_usable}
use Rattle.chart.specs.declared.Chart.{Chart}
use Rattle.chart.proofs.Usable.{usable_few}
use Rattle.model.specs.Recognitions.{Operator}
use Rattle.state.specs.State.{open_state}
use Rattle.table.proofs.Operators.{length_operators}
use Rattle.model.specs.Capacity.{capacity}
use Rattle.model.specs.Reference as ref
use Rattle.model.specs.RowSteps as rows
use Rattle.model.specs.Consistency.{is_consistent}
use Rattle.model.proofs.Capacity.{capacity_fits}
use Rattle.model.proofs.RowStepLaws as laws
use Rattle.model.proofs.ReferenceLaws.{run_none, run_on, run_more, numbers_none, numbers_on}
use Rattle.model.proofs.Steps.{consistent_told}
use Rattle.model.specs.Statements as model
use Rattle.model.specs.Statements.{Played}
use Rattle.model.proofs.Theorems as theorems
use Rattle.table.specs.Operators.{operators_of, reading_of}
use Rattle.table.specs.Table.{are_zeros, zeroed, room_in, table_of}
use Rattle.table.proofs.Laws.{zeroed_is}
use Rattle.table.proofs.Rows.{flat_none, entry_flat}
use Rattle.consistency.proofs.Theorems.{model_consistent}
use Rattle.consistency.specs.Consistency.{are_consistent}
use Rattle.watch.specs.Steps.{check_number}
use Rattle.watch.specs.Histories.{Call, State, call, after, answers, opened}
use Rattle.table.proofs.Tables.{rows_flat, length_table, zeros_behind}
use Rattle.watch.proofs.Shown.{watch_of, Shows, since_more}
use Rattle.watch.proofs.Stepping.{Bounds, Follows, call_shown}
use Rattle.table.proofs.Lower.{usable_lower, reading_lower}
use Rattle.watch.proofs.Calls.{opening_taken, check_0}

pub bounds : (room : ℕ) (m : rows.Watch) → is_consistent room m ≡ true → Bounds room m
bounds room m e =
    let w = consistent_told room m e in
    record { few = leb-true (length m.rows) room w.fit; short = leb-true (length m.pending) 64 w.short; entries = eqb-true (length m.since) (length m.chart) w.entries }

-- a watch on rows that is consistent is shown consistent
consistent_shown : (chart : Chart) (room : ℕ) (tail : List ℤ) → capacity (room * 5 + length tail) ≡ room → (m : rows.Watch) → operators_of chart ≡ m.chart → T (is_consistent room m) → are_consistent chart (watch_of m) (table_of room tail m.rows) ≡ true
consistent_shown chart room tail fits m same j =
    let t = table_of room tail m.rows in
    let few = (bounds room m (holds→ _ j)).few in
    let e : capacity (length t) ≡ room = ap capacity (length_table room tail m.rows few) ∙ fits in
    model_consistent chart m (watch_of m).codes (replicate (32 - length m.since) (pos 0)) t (sym same) (subst (λ n. T (is_consistent n m)) (sym e) j) (rows_flat m.rows _) (entry_flat m.rows _) (ap (λ n. are_zeros (length m.rows * 5) (n * 5) t) e ∙ zeros_behind room tail m.rows few)

-- the state after an opening
opened_is : (ops : List Operator) (n : ℕ) (o : ℤ) → length ops ≡ n → n ≤ 32 → open_state n o ≡ watch_of (rows.watch o first_floor ops (replicate (length ops) first_floor) 0 [] [])
opened_is ops n o e h =
    ap (λ k. open_state k o) (sym e)
    ∙ ap₂ (λ k l. record { instant = o; floor = first_floor; events = 0; rows = 0; pending = 0; codes = replicate 64 0; entries = k; since = l })
    (zero-add (length ops) ∙ sym (length-replicate (length ops) first_floor))
    (since_more [] (length ops) first_floor (omega arith))

module _ (chart : Chart) (usable : is_usable chart ≡ true) (t : List ℤ) (o : ℤ) (in_range : is_instant o ≡ true) where
  abbrev room : ℕ
  room = room_in t

  abbrev tail : List ℤ
  tail = drop (room * 5) t

  fits : capacity (room * 5 + length tail) ≡ room
  fits = let h = capacity_fits (length t) in ap capacity (let e : room * 5 + length tail ≡ length t = omega (arith, length-drop (room * 5) t) in e)

  -- the history with these calls, as the model has it
  abbrev pub played : List Call → Played
  played calls = record { Lines = List ℕ; read = reading_of; reader = reading_lower; chart = operators_of chart; lower = usable_lower chart usable; capacity = room; open_at = o; calls = calls }

  abbrev step : rows.Watch → Call → ref.Answer rows.Watch
  step = rows.watch_step reading_of room

  -- the watch on rows after these calls
  abbrev pub reached : List Call → rows.Watch
  reached calls = model.watch_of (played calls)

  -- one call on a state that shows it
  one_call : (ds : List Call) (s : State) → Shows room tail s (reached ds) → (c : Call) → Follows room tail (call s c) (step (reached ds) c)
  one_call ds s w c =
      let m = reached ds in
      let j = theorems.consistent (played ds) in
      let z : s ≡ record { watch = watch_of m; table = table_of room tail m.rows; chart = s.chart } = λ i. record { watch = w.watch i; table = w.table i; chart = s.chart } in
      subst (λ x. Follows room tail (call x c) (step m c)) (sym z) (call_shown s.chart w.usable room tail fits m w.operators (consistent_shown s.chart room tail fits m w.operators j) (bounds room m (holds→ _ j)) c)

  -- watch, table and chart show it from there on
  goes_on_lem : (cs ds : List Call) (s : State) → Shows room tail s (reached ds) → Shows room tail (after s cs) (ref.run step (reached ds) cs) × (answers s cs ≡ ref.numbers_of step (reached ds) cs)
  goes_on_lem [] ds s w = (subst₂ (λ x m. Shows room tail x m) (sym (run_none call s)) (sym (run_none step (reached ds))) w, numbers_none call s ∙ sym (numbers_none step (reached ds)))
  goes_on_lem (c ∷ cs) ds s w =
      let m = reached ds in
      let f = one_call ds s w c in
      let n : reached (ds ++ c ∷ []) ≡ (step m c).state = run_more step (rows.watch_opening (operators_of chart) o).state ds c in
      let g = goes_on_lem cs (ds ++ c ∷ []) (call s c).state (subst (Shows room tail (call s c).state) (sym n) f.state) in (
        subst₂ (λ x m. Shows room tail x m) (sym (run_on call s c cs)) (ap (λ x. ref.run step x cs) n ∙ sym (run_on step m c cs)) g.0,
        numbers_on call s c cs ∙ ap₂ (λ x l. x ∷ l) f.number (g.1 ∙ ap (λ x. ref.numbers_of step x cs) n) ∙ sym (numbers_on step m c cs),
      )

  opening_shown : Shows room tail (opened chart t o) (reached [])
  opening_shown =
      let e : room * 5 - 0 ≡ (room - 0) * 5 = omega arith in
      let table : zeroed 0 (room * 5) t ≡ table_of room tail [] = zeroed_is 0 (room * 5) t ∙ rw (e, flat_none) in
      let x = opening_taken chart t o usable in_range in
      let m : reached [] ≡ rows.watch o first_floor (operators_of chart) (replicate (length (operators_of chart)) first_floor) 0 [] [] = run_none step _ ∙ ap (λ a. a.state) (laws.opening_taken (operators_of chart) o in_range) in
      subst (Shows room tail (opened chart t o)) (sym m) (record {
        usable = usable;
        operators = refl;
        watch = ap (λ y. y.answer.watch.state) x ∙ opened_is (operators_of chart) chart.count o (length_operators chart) (usable_few chart usable);
        table = ap (λ y. y.table) x ∙ table;
      })

  pub history_shown : (calls : List Call) → Shows room tail (after (opened chart t o) calls) (reached calls) × (answers (opened chart t o) calls ≡ ref.numbers_of step (rows.watch_opening (operators_of chart) o).state calls)
  history_shown calls = subst (λ m. Shows room tail (after (opened chart t o) calls) (ref.run step m calls) × (answers (opened chart t o) calls ≡ ref.numbers_of step m calls)) (run_none step (rows.watch_opening (operators_of chart) o).state) (goes_on_lem calls [] (opened chart t o) opening_shown)

  -- so no call after it is refused by the check
  pub history_consistent : (calls : List Call) → let s = after (opened chart t o) calls in check_number s.chart s.watch s.table ≡ 0
  history_consistent calls =
      let m = reached calls in
      let s = after (opened chart t o) calls in
      let w = (history_shown calls).0 in
      let j = consistent_shown s.chart room tail fits m w.operators (theorems.consistent (played calls)) in
      ap₂ (λ x u. check_number s.chart x u) w.watch w.table ∙ check_0 s.chart (watch_of m) (table_of room tail m.rows) w.usable j
