-- What a finished run prints is what it comes to.
use Prim.Native.Nat.{ℕ, ◌+◌, ◌*◌, ◌≤◌}
use native.Mathlib.Omega.{arith}
use mathlib.Core.Path.{◌≡◌, refl, sym, ap, ap₂, ◌∙◌, subst}
use mathlib.Core.Bool.{Bool, true, false, cond}
use mathlib.Core.List.{List, [], ◌∷◌, ◌++◌}
use lib.Dec.{eqb}
use lib.IntN.{ℤ}
use lib.ListN.{length, take, drop, length-drop}
use Rattle.interval.proofs.Signed.{holds→, never}
use Rattle.text.specs.Text.{Line}
use Rattle.chart.specs.Charts.{is_usable}
use Rattle.chart.specs.declared.Chart.{Chart}
use Rattle.chart.proofs.Usable.{usable_few}
use Rattle.tally.specs.Tally.{tallies, sum, report_of}
use Rattle.tally.proofs.Laws.{length_tallies, same_sum, report_rows, report_tallies}
use Rattle.model.specs.Capacity.{capacity}
use Rattle.model.specs.Reference as ref
use Rattle.model.specs.RowSteps as rows
use Rattle.model.proofs.Capacity.{capacity_fits}
use Rattle.model.proofs.Theorems as model
use Rattle.table.specs.Table.{rows_in, room_in}
use Rattle.watch.specs.Steps.{Step}
use Rattle.watch.specs.Histories as histories
use Rattle.watch.specs.Histories.{State, call}
use Rattle.state.specs.declared.WatchState.{WatchState}
use Rattle.watch.proofs.History.{bounds, played, reached, history_shown}
use Rattle.watch.proofs.Reading.{report_passed}
use Rattle.watch.proofs.Demands.{report_holds}
use Rattle.table.proofs.Rows.{length_rows}
use Rattle.table.proofs.Tables as tables
use Rattle.watch.proofs.Shown.{Shows}
use Rattle.watch.proofs.Steps.{opening_length, event_call, clock_call, forget_call}
use Rattle.log_line.specs.declared.Call.{Call}
use Rattle.log_line.specs.declared.Call.TheVariants as log
use Rattle.std.specs.Prelude.{Option, Some, None, IfSome}
use Rattle.text.specs.Output.{output_where, length_where}
use Rattle.printing.specs.Listing.{written_where, listing_text, table_text, refusal_text, refusal_size, refusal_length, refusal_output, listing_fits, refusal_fits}
use Rattle.printing.specs.Report.{report_text, report_fits}
use Rattle.printing.proofs.Laws as printing
use Rattle.text.proofs.Written.{front_within}
use Rattle.printing.proofs.Laws.{report_fits_lem, table_listing, refusal_fits_lem}
use Rattle.program.specs.Outcomes.{Outcome, listed, refused, call_in, outcome_text}
use Rattle.program.specs.Runs.{Progress, refused_run, open_step, state_of, call_step, line_step, after_line, end_run, result_of, outcome_of, OfHistory, Holds, Reached, is_refused, Printable, table_length, table_output, length_at, output_at, printed_length, printed_output}
use Rattle.program.specs.Statements.{bytes_for}
use Rattle.program.specs.declared.Format.{Format}
use Rattle.program.specs.declared.Format.TheVariants.{Listing, Report}
use Rattle.program.specs.declared.Run.{Run}
use Rattle.program.specs.declared.Stage.{Stage}
use Rattle.program.specs.declared.Stage.TheVariants.{Entries, Opening, Calls, Refused}
use Rattle.program.proofs.Pieces.{at_end, after_lines}
use Rattle.program.proofs.Reaching.{line_on, history_on, history_checked, history_before}

-- watch and table of a history
module _ (chart : Chart) (usable : is_usable chart ≡ true) (s : State) (h : OfHistory chart s) where
  abbrev room : ℕ
  room = room_in h.before

  abbrev tail : List ℤ
  tail = drop (room * 5) h.before

  -- the rows that it shows
  abbrev m : rows.Watch
  m = reached chart usable h.before h.opened h.in_range h.calls

  is_shown : Shows room tail s m
  is_shown = subst (λ x. Shows room tail x m) (sym h.same) (history_shown chart usable h.before h.opened h.in_range h.calls).0

  few : length m.rows ≤ room
  few = (bounds room m (holds→ _ (model.consistent (played chart usable h.before h.opened h.in_range h.calls)))).few

  same_length : length s.table ≡ length h.before
  same_length =
      let g = capacity_fits (length h.before) in
      ap length is_shown.table ∙ tables.length_table room tail m.rows few ∙ omega (arith, g, length-drop (room * 5) h.before)

  rows_few : s.watch.rows ≤ room_in s.table
  rows_few = subst (λ n. s.watch.rows ≤ capacity n) (sym same_length) (subst (λ w. w.rows ≤ room) (sym is_shown.watch) few)

  -- its listing, from the table's numbers and from its rows
  pub same_listing : table_text s.watch.rows s.table ≡ listing_text (rows_in s.watch.rows s.table)
  same_listing =
      ap₂ (λ w u. table_text w.rows u) is_shown.watch is_shown.table
      ∙ table_listing m.rows _
      ∙ ap listing_text (sym (ap₂ (λ w u. rows_in w.rows u) is_shown.watch is_shown.table ∙ tables.rows_flat m.rows _))

  pub listing_fits_lem : (out : List ℕ) → bytes_for Listing (room_in s.table) ≤ length out → listing_fits s.watch.rows s.table out ≡ true
  listing_fits_lem out g =
      let c = capacity_fits (length s.table) in
      let r = rows_few in
      printing.listing_fits_lem s.watch.rows s.table out (omega (arith, c, r)) (omega (arith, r, g))

-- The line of a refusal is the same in each format.
refused_text : (f : Format) (n line : ℕ) → outcome_text f (refused n line) ≡ refusal_text n line
unfolding outcome_text
refused_text Listing n line = refl
refused_text Report n line = refl

-- The length of the table stays.
call_length : (chart : Chart) → is_usable chart ≡ true → (w : WatchState) (t : List ℤ) → OfHistory chart (record { watch = w; table = t; chart = chart }) → (c : Option Call) → length (call_step (record { watch = w; table = t; chart = chart }) c).table ≡ length t
unfolding call_step
call_length chart usable w t h c = go c
  where
    s : State
    s = record { watch = w; table = t; chart = chart }

    one : (d : histories.Call) (x : Step) → call s d ≡ histories.stepped chart x → length x.table ≡ length t
    one d x e = same_length chart usable (histories.stepped chart x).state (history_on chart s d x e h) ∙ ap length (history_before chart s d x e h) ∙ sym (same_length chart usable s h)

    go : (k : Option Call) → length (call_step s k).table ≡ length t
    go None = refl
    go (Some (log.Open o)) = refl
    go (Some (log.Event k)) = one (ref.event k) _ (event_call s k)
    go (Some (log.Clock x)) = one (ref.clock x) _ (clock_call s x)
    go (Some (log.Forget f)) = one (ref.forget f) _ (forget_call s f)

line_length : (p : Progress) (l : Line) → Reached p → length (after_line p l).table ≡ length p.table
unfolding line_step Holds open_step
line_length p l h = go p.run.stage h
  where
    r : Run
    r = p.run

    opens : (c : Option Call) → length (open_step r.chart p.table c).table ≡ length p.table
    opens (Some (log.Open o)) = opening_length r.chart p.table o
    opens (Some (log.Event k)) = refl
    opens (Some (log.Clock x)) = refl
    opens (Some (log.Forget f)) = refl
    opens None = refl

    go : (s : Stage) → Holds s r p.table → length (line_step s r p.table l).table ≡ length p.table
    go Entries k = refl
    go Opening k = opens (call_in l)
    go Calls k = call_length r.chart k.0 r.watch.state p.table k.1 (call_in l)
    go (Refused n) k = refl

pub lines_length : (p : Progress) (ls : List Line) → Reached p → length (after_lines p ls).table ≡ length p.table
unfolding after_lines
lines_length p [] h = refl
lines_length p (l ∷ ls) h = lines_length (after_line p l) ls (line_on p l h) ∙ line_length p l h

pub lines_on : (p : Progress) (ls : List Line) → Reached p → Reached (after_lines p ls)
unfolding after_lines
lines_on p [] h = h
lines_on p (l ∷ ls) h = lines_on (after_line p l) ls (line_on p l h)

-- the bytes that a run prints
abbrev pub Prints : Format → Progress → List ℕ → List ℕ → Type 0
Prints f q out text = (printed_length f q.run q.table out ≡ Some (length text)) × (printed_output f q.run q.table out ≡ text ++ drop (length text) out)

-- a text that there is room for
fits_front : (room : Bool) (s out : List ℕ) → room ≡ true → (written_where room s ≡ Some (length s)) × (output_where room s out ≡ s ++ drop (length s) out)
unfolding written_where output_where
fits_front room s out fits = rw fits (refl, refl)

refusal_front : (n line : ℕ) (out : List ℕ) → refusal_size ≤ length out → (refusal_length n line out ≡ Some (length (refusal_text n line))) × (refusal_output n line out ≡ refusal_text n line ++ drop (length (refusal_text n line)) out)
refusal_front n line out h = fits_front (refusal_fits out) (refusal_text n line) out (refusal_fits_lem out h)

-- in each format there is room for a refusal
refusal_room : (f : Format) (rows : ℕ) (out : List ℕ) → bytes_for f rows ≤ length out → refusal_size ≤ length out
refusal_room Listing rows out h = omega (arith, h)
refusal_room Report rows out h = omega (arith, h)

refusal_prints : (f : Format) (r : Run) (t : List ℤ) (n line : ℕ) (out : List ℕ) → refusal_size ≤ length out → Prints f (record { run = refused_run r n line; table = t }) out (outcome_text f (result_of (record { run = refused_run r n line; table = t })))
unfolding refused_run length_at output_at outcome_of
refusal_prints f r t n line out h = rw (refused_text f n line) (refusal_front n line out h)

-- what is printed of watch and table of a history
table_prints : (f : Format) (r : Run) (t : List ℤ) → is_usable r.chart ≡ true → OfHistory r.chart (state_of r t) → (out : List ℕ) → bytes_for f (room_in t) ≤ length out → let text = outcome_text f (listed r.chart.count (rows_in r.watch.state.rows t)) in (table_length f r t out ≡ Some (length text)) × (table_output f r t out ≡ text ++ drop (length text) out)
unfolding table_length table_output outcome_text
table_prints Listing r t usable h out g =
    let same = same_listing r.chart usable (state_of r t) h in
    let front = fits_front (listing_fits r.watch.state.rows t out) (table_text r.watch.state.rows t) out (listing_fits_lem r.chart usable (state_of r t) h out g) in
    (front.0 ∙ ap (λ x. Some (length x)) same, front.1 ∙ ap (λ x. x ++ drop (length x) out) same)
table_prints Report r t usable h out g =
    let rs = rows_in r.watch.state.rows t in
    let n = r.chart.count in
    let p = report_of n rs in
    let lines = report_tallies n rs in
    let text : report_text (take p.entries p.tallies) p.rows ≡ report_text (tallies n rs) (length rs) = ap₂ report_text lines (report_rows n rs) in
    let few : length (take p.entries p.tallies) ≤ 32 = rw (lines, length_tallies n rs) (usable_few r.chart usable) in
    let front = fits_front (report_fits (take p.entries p.tallies) out) (report_text (take p.entries p.tallies) p.rows) out (report_fits_lem (take p.entries p.tallies) out (omega (arith, few, g))) in
    (front.0 ∙ ap (λ x. Some (length x)) text, front.1 ∙ ap (λ x. x ++ drop (length x) out) text)

pub end_prints : (f : Format) (p : Progress) (out : List ℕ) → Reached p → bytes_for f (room_in p.table) ≤ length out → Prints f (at_end p) out (outcome_text f (result_of (at_end p)))
unfolding end_run Holds length_at output_at outcome_of
end_prints f p out h g = go p.run.stage refl h
  where
    r : Run
    r = p.run

    t : List ℤ
    t = p.table

    room : refusal_size ≤ length out
    room = refusal_room f (room_in p.table) out g

    at_once : (b : Bool) (n line k below : ℕ) → Prints f (record { run = cond b (refused_run r n line) (refused_run r k below); table = t }) out (outcome_text f (result_of (record { run = cond b (refused_run r n line) (refused_run r k below); table = t })))
    at_once true n line k below = refusal_prints f r t n line out room
    at_once false n line k below = refusal_prints f r t k below out room

    go : (s : Stage) → r.stage ≡ s → Holds s r t → Prints f (record { run = end_run s r; table = t }) out (outcome_text f (result_of (record { run = end_run s r; table = t })))
    go Entries e k = at_once (eqb r.chart.count 0) 1 1 7 (r.line + 1)
    go Opening e k = refusal_prints f r t 7 (r.line + 1) out room
    go Calls e k =
        let front = table_prints f r t k.0 k.1 out g in
        let o : outcome_of r.stage r t ≡ outcome_of Calls r t = ap (λ s. outcome_of s r t) e in
        (ap (λ s. length_at f s r t out) e ∙ front.0 ∙ ap (λ x. Some (length (outcome_text f x))) (sym o), ap (λ s. output_at f s r t out) e ∙ front.1 ∙ ap (λ x. outcome_text f x ++ drop (length (outcome_text f x)) out) (sym o))
    go (Refused n) e k = let front = refusal_front n r.line out room in (rw (e, refused_text f n r.line) front.0, rw (e, refused_text f n r.line) front.1)

-- what is printed is in the output
text_within : (room : Bool) (s out : List ℕ) → length (output_where room s out) ≡ length out → IfSome (written_where room s) (λ n. n ≤ length out)
unfolding written_where output_where length_where
text_within true s out e = front_within true s out e
text_within false s out e = tt

table_within : (f : Format) (r : Run) (t : List ℤ) (out : List ℕ) → length (table_output f r t out) ≡ length out → IfSome (table_length f r t out) (λ n. n ≤ length out)
unfolding table_length table_output
table_within Listing r t out h = text_within (listing_fits r.watch.state.rows t out) (table_text r.watch.state.rows t) out h
table_within Report r t out h =
    let p = report_of r.chart.count (rows_in r.watch.state.rows t) in
    text_within (report_fits (take p.entries p.tallies) out) (report_text (take p.entries p.tallies) p.rows) out h

pub printed_within : (f : Format) (r : Run) (t : List ℤ) (out : List ℕ) → length (printed_output f r t out) ≡ length out → IfSome (printed_length f r t out) (λ n. n ≤ length out)
unfolding length_at output_at
printed_within f r t out e = go r.stage e
  where
    go : (s : Stage) → length (output_at f s r t out) ≡ length out → IfSome (length_at f s r t out) (λ n. n ≤ length out)
    go Entries h = table_within f r t out h
    go Opening h = table_within f r t out h
    go Calls h = table_within f r t out h
    go (Refused n) h = text_within (refusal_fits out) (refusal_text n r.line) out h

-- a run at its end, if not refused, has what a report asks
end_reports : (p : Progress) → Reached p → Printable Report (at_end p).run (at_end p).table
unfolding end_run Holds refused_run is_refused
end_reports p h = go p.run.stage refl h
  where
    r : Run
    r = p.run

    at_once : (b : Bool) (n line k below : ℕ) → Printable Report (cond b (refused_run r n line) (refused_run r k below)) p.table
    at_once true n line k below z = never (sym z)
    at_once false n line k below z = never (sym z)

    go : (s : Stage) → r.stage ≡ s → Holds s r p.table → Printable Report (end_run s r) p.table
    go Entries e k z = at_once (eqb r.chart.count 0) 1 1 7 (r.line + 1) z
    go Opening e k z = never (sym z)
    go Calls e k z = history_checked r.chart k.0 (state_of r p.table) k.1
    go (Refused n) e k z = never (sym z ∙ ap is_refused e)

pub end_printable : (f : Format) (p : Progress) → Reached p → Printable f (at_end p).run (at_end p).table
end_printable Listing p h = tt
end_printable Report p h = end_reports p h

-- the sum of what a report prints for the entries is the number of all rows
unfoldable pub Added : Outcome → Type 0
Added (listed n rs) = sum (tallies n rs) ≡ length rs
Added (refused n line) = Unit {0}

pub end_added : (p : Progress) → Reached p → Added (result_of (at_end p))
unfolding end_run Holds outcome_of refused_run Added
end_added p h = go p.run.stage refl h
  where
    r : Run
    r = p.run

    t : List ℤ
    t = p.table

    at_once : (b : Bool) (n line k below : ℕ) → Added (result_of (record { run = cond b (refused_run r n line) (refused_run r k below); table = t }))
    at_once true n line k below = tt
    at_once false n line k below = tt

    table_added : is_usable r.chart ≡ true → OfHistory r.chart (state_of r t) → Added (outcome_of Calls r t)
    table_added usable k =
        let w = r.watch.state in
        let rs = rows_in w.rows t in
        let z = history_checked r.chart usable (state_of r t) k in
        let adds = report_holds r.chart w t z in
        sym (ap (λ x. sum x.tallies) (report_passed r.chart w t z) ∙ same_sum r.chart.count rs) ∙ adds.sum ∙ adds.total ∙ sym (length_rows w.rows t)

    go : (s : Stage) → r.stage ≡ s → Holds s r t → Added (result_of (record { run = end_run s r; table = t }))
    go Entries e k = at_once (eqb r.chart.count 0) 1 1 7 (r.line + 1)
    go Opening e k = tt
    go Calls e k = subst Added (ap (λ s. outcome_of s r t) (sym e)) (table_added k.0 k.1)
    go (Refused n) e k = subst Added (ap (λ s. outcome_of s r t) (sym e)) tt
