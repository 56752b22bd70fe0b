-- The statement of specs/Statements.antt: a merged log that is played without a refusal leaves the rows for its events before the last mark.
use Prim.Native.Nat.{ℕ, suc, ◌+◌}
use native.Mathlib.Omega.{arith}
use mathlib.Core.Path.{◌≡◌, refl, sym, ap, ◌∙◌, subst}
use mathlib.Core.Bool.{Bool, true, false, cond}
use mathlib.Core.List.{List, [], ◌∷◌, ◌++◌, append_assoc, append-nil, map}
use borrow.Author.Tests.{eqb-true, eq-eqb}
use lib.Dec.{eqb, ltb, leb}
use lib.IntN.{ℤ}
use lib.ListN.{length, replicate, length-append}
use lib.Signed.{lt_z}
use Rattle.std.specs.Prelude.{Option, Some}
use Rattle.interval.specs.Instants.{first_floor, is_mark_refused, eq_z}
use Rattle.interval.proofs.Laws.{mark_taken}
use Rattle.interval.proofs.Signed.{◌≤ᶻ◌, eq_same, is_lt, not_lt}
use Rattle.text.specs.Text.{Line, lines}
use Rattle.model.specs.Lists.{keep}
use Rattle.model.specs.Recognitions.{Event, Operator}
use Rattle.model.specs.Order.{Row, listing, as_rows}
use Rattle.model.specs.Reference as model
use Rattle.model.specs.Reference.{Model, Answer, is_at, event_step, clock_step, rows_of}
use Rattle.model.proofs.Sorted.{keep_append}
use Rattle.model.proofs.Local.{Chart, chart_lower}
use Rattle.model.proofs.Listing.{listing_event}
use Rattle.model.proofs.ReferenceLaws.{opening_accepted}
use Rattle.log_line.specs.Log.{calls_of}
use Rattle.log_line.specs.declared.Call.{Call}
use Rattle.log_line.specs.declared.Call.TheVariants as log
use Rattle.program.specs.Outcomes.{Outcome, listed, refused, call_in, opening_answer, call_answer, play_calls, play_log}
use Rattle.program.proofs.Lines.{calls_in_log}
use Rattle.logs.specs.Logs.{Group, opened_in, marks_calls, log_calls, log_text, outcome_of, outcome_text, merged_for}
use Rattle.logs.specs.Statements.{Timed, timed_at, events_in, Follow, IsLog, Together, merged_log}
use Rattle.logs.proofs.Texts.{log_read}
use Rattle.logs.proofs.Theorems.{merge_holds}
use Rattle.playing.specs.Statements.{numbered, last_from, last_mark, is_before, rows_for, PlayingHolds}

-- the text of two logs that open together
merged_text : (x y : List ℕ) → Together x y → merged_for x y ≡ log_text (merged_log x y)
unfolding merged_for outcome_of outcome_text
merged_text x y t =
    let same : eq_z (opened_in (calls_of x)) (opened_in (calls_of y)) ≡ true = ap (eq_z (opened_in (calls_of x))) (sym t.opened) ∙ eq_same (opened_in (calls_of x)) in
    rw (eq-eqb _ 0 t.first, eq-eqb _ 0 t.second, same)

-- numbered events: in two parts, and how many they are
numbered_append : (n : ℕ) (xs ys : List Timed) → numbered n (xs ++ ys) ≡ numbered n xs ++ numbered (n + length xs) ys
unfolding numbered
numbered_append n [] ys = let e : n ≡ n + 0 = omega arith in ap (λ k. numbered k ys) e
numbered_append n (x ∷ xs) ys =
    let e : suc n + length xs ≡ n + suc (length xs) = omega arith in
    ap (λ l. record { serial = suc n; code = x.code; instant = x.instant } ∷ l) (numbered_append (suc n) xs ys ∙ ap (λ k. numbered (suc n) xs ++ numbered k ys) e)

numbered_length : (n : ℕ) (xs : List Timed) → length (numbered n xs) ≡ length xs
unfolding numbered
numbered_length n [] = refl
numbered_length n (x ∷ xs) = ap suc (numbered_length (suc n) xs)

-- events that are numbered on from those before them
numbered_on : (es : List Event) (xs ys : List Timed) → let new = es ++ numbered (length es) xs in new ++ numbered (length new) ys ≡ es ++ numbered (length es) (xs ++ ys)
numbered_on es xs ys =
    let here = numbered (length es) xs in
    let size : length (es ++ here) ≡ length es + length xs = length-append es here ∙ ap (λ i. length es + i) (numbered_length (length es) xs) in
    append_assoc es here _ ∙ ap (λ i. es ++ (here ++ numbered i ys)) size ∙ ap (λ l. es ++ l) (sym (numbered_append (length es) xs ys))

-- the events of one instant are all before another, or none is
codes_kept : (t o : ℤ) (b : Bool) → lt_z o t ≡ b → (n : ℕ) (ks : List ℕ) → keep (is_before t) (numbered n (timed_at o ks)) ≡ cond b (numbered n (timed_at o ks)) []
unfolding timed_at numbered
codes_kept t o true h n [] = refl
codes_kept t o true h n (k ∷ ks) = rw h (ap (λ l. record { serial = suc n; code = k; instant = o } ∷ l) (codes_kept t o true h (suc n) ks))
codes_kept t o false h n [] = refl
codes_kept t o false h n (k ∷ ks) = rw h (codes_kept t o false h (suc n) ks)

-- a call of two tests that was accepted
accepted_state : (p q : Bool) (a b : ℕ) (m new : Model) → let r = cond p (model.refused (suc a) m) (cond q (model.refused (suc b) m) (model.accepted new)) in r.number ≡ 0 → r.state ≡ new
accepted_state true q a b m new z = absurd (omega arith)
accepted_state false true a b m new z = absurd (omega arith)
accepted_state false false a b m new z = refl

-- a line that did not end the run
accepted_line : (a : Answer Model) (o : Outcome) (n k : ℕ) (rows : List Row) → cond (eqb a.number 0) o (refused a.number n) ≡ listed k rows → (a.number ≡ 0) × (o ≡ listed k rows)
accepted_line a o n k rows e = go (eqb a.number 0) refl e
  where
    go : (b : Bool) → eqb a.number 0 ≡ b → cond b o (refused a.number n) ≡ listed k rows → (a.number ≡ 0) × (o ≡ listed k rows)
    go true d f = (eqb-true a.number 0 d, f)
    go false d f = let z : ◌≡◌ {A = ℕ} 0 1 = cc in absurd (omega arith)

module _ (room : ℕ) (rows : List Row) where
  -- these calls are accepted one after another, and leave these rows
  Plays : Model → List (Option Call) → Type 0
  Plays m [] = rows ≡ rows_of m
  Plays m (c ∷ cs) = ((call_answer room m c).number ≡ 0) × Plays (call_answer room m c).state cs

  calls_accepted : (m : Model) (n k : ℕ) (ls : List Line) → play_calls room m n ls ≡ listed k rows → Plays m (map call_in ls)
  unfolding play_calls Plays
  calls_accepted m n k [] e = cc
  calls_accepted m n k (l ∷ ls) e =
      let a = call_answer room m (call_in l) in
      let h = accepted_line a (play_calls room a.state (suc n) ls) n k rows e in
      (h.0, calls_accepted a.state (suc n) k ls h.1)

  -- the same with the opening
  Opens : List Operator → List (Option Call) → Type 0
  Opens ops [] = ⊥
  Opens ops (c ∷ cs) = Plays (opening_answer ops c).state cs

  log_accepted : (ops : List Operator) (n k : ℕ) (ls : List Line) → play_log ops room n ls ≡ listed k rows → Opens ops (map call_in ls)
  unfolding play_log Opens
  log_accepted ops n k [] e = let z : ◌≡◌ {A = ℕ} 0 1 = cc in absurd (omega arith)
  log_accepted ops n k (l ∷ ls) e =
      let a = opening_answer ops (call_in l) in
      calls_accepted a.state (suc n) k ls (accepted_line a (play_calls room a.state (suc n) ls) n k rows e).1

module _ (ops : List Operator) (lower : Chart 0 ops) (room : ℕ) (rows : List Row) where
  abbrev at : ℤ → List Event → Model
  at t es = model.model t first_floor ops (replicate (length ops) first_floor) es

  -- the codes of one instant
  codes_played : (o : ℤ) (es : List Event) (ks : List ℕ) (rest : List Call) → Plays room rows (at o es) (map Some (map log.Event ks ++ rest)) → Plays room rows (at o (es ++ numbered (length es) (timed_at o ks))) (map Some rest)
  unfolding Plays call_answer event_step timed_at numbered
  codes_played o es [] rest h = rw (append-nil es) h
  codes_played o es (k ∷ ks) rest h =
      let e : Event = record { serial = suc (length es); code = k; instant = o } in
      let new = es ++ e ∷ [] in
      let s = accepted_state (leb 1000000 (length es)) (leb 64 (length (keep (is_at o) es))) 9 8 (at o es) (at o new) h.0 in
      let size : length new ≡ suc (length es) = length-append es (e ∷ []) ∙ omega arith in
      let same : new ++ numbered (length new) (timed_at o ks) ≡ es ++ (e ∷ numbered (suc (length es)) (timed_at o ks)) = ap (λ i. new ++ numbered i (timed_at o ks)) size ∙ append_assoc es (e ∷ []) (numbered (suc (length es)) (timed_at o ks)) in
      subst (λ l. Plays room rows (at o l) (map Some rest)) same (codes_played o new ks rest (subst (λ m. Plays room rows m (map Some (map log.Event ks ++ rest))) s h.1))

  -- they change no row while their instant is open
  codes_same : (o : ℤ) (es : List Event) (n : ℕ) (ks : List ℕ) → rows_for ops o (es ++ numbered n (timed_at o ks)) ≡ rows_for ops o es
  unfolding timed_at numbered
  codes_same o es n [] = ap (rows_for ops o) (append-nil es)
  codes_same o es n (k ∷ ks) =
      let e : Event = record { serial = suc n; code = k; instant = o } in
      ap (rows_for ops o) (sym (append_assoc es (e ∷ []) (numbered (suc n) (timed_at o ks)))) ∙ codes_same o (es ++ e ∷ []) (suc n) ks ∙ ap as_rows (listing_event ops lower (replicate (length ops) first_floor) es first_floor o e refl)

  -- all of these events are before o: whatever comes no earlier than o keeps them
  abbrev AreBefore : ℤ → List Event → Type 0
  AreBefore o es = (t : ℤ) → o ≤ᶻ t → keep (is_before t) es ≡ es

  -- the codes at the open instant, and the marks behind them with theirs
  marks_played : (o : ℤ) (es : List Event) (ks : List ℕ) (gs : List Group) → AreBefore o es → Follow o gs → Plays room rows (at o es) (map Some (map log.Event ks ++ marks_calls gs)) →
      let t = last_from o gs in rows ≡ rows_for ops t (keep (is_before t) (es ++ numbered (length es) (timed_at o ks ++ events_in gs)))
  unfolding Plays call_answer clock_step Follow marks_calls events_in last_from
  marks_played o es ks [] b f h =
      let here = numbered (length es) (timed_at o ks) in
      let kept : keep (is_before o) (es ++ here) ≡ es = keep_append (is_before o) es here ∙ rw (b o (omega arith), codes_kept o o false (not_lt o o (omega arith)) (length es) ks) (append-nil es) in
      rw (append-nil (timed_at o ks), kept) (codes_played o es ks [] h ∙ codes_same o es (length es) ks)
  marks_played o es ks (g ∷ gs) b f h =
      let here = numbered (length es) (timed_at o ks) in
      let new = es ++ here in
      let u = g.instant in
      let t = last_from u gs in
      let later = (mark_taken o u f.0).later in
      let p = codes_played o es ks (marks_calls (g ∷ gs)) h in
      let s = accepted_state (is_mark_refused o u) (ltb room (length (listing ops (replicate (length ops) first_floor) new first_floor u))) 7 11 (at o new) (at u new) p.0 in
      let before : AreBefore u new = λ v l. keep_append (is_before v) es here ∙ rw (b v (omega arith), codes_kept v o true (is_lt o v (omega arith)) (length es) ks) in
      marks_played u new g.codes gs before f.2 (subst (λ m. Plays room rows m (map Some (map log.Event g.codes ++ marks_calls gs))) s p.1) ∙ ap (λ l. rows_for ops t (keep (is_before t) l)) (numbered_on es (timed_at o ks) (timed_at u g.codes ++ events_in gs))

  -- a whole log
  log_played : (n k : ℕ) (gs : List Group) → IsLog gs → play_log ops room n (lines (log_text gs)) ≡ listed k rows → rows ≡ rows_for ops (last_mark gs) (keep (is_before (last_mark gs)) (numbered 0 (events_in gs)))
  unfolding IsLog Opens log_calls opening_answer last_mark events_in
  log_played n k [] f e = absurd f
  log_played n k (g ∷ gs) f e =
      let p : Opens room rows ops (map Some (log_calls (g ∷ gs))) = subst (Opens room rows ops) (calls_in_log (lines (log_text (g ∷ gs))) ∙ log_read (g ∷ gs) f) (log_accepted room rows ops n k (lines (log_text (g ∷ gs))) e) in
      let opened = ap (λ a. a.state) (opening_accepted ops g.instant f.0) in
      marks_played g.instant [] g.codes gs (λ t l. refl) f.2 (subst (λ m. Plays room rows m (map Some (map log.Event g.codes ++ marks_calls gs))) opened p)

pub playing_holds : PlayingHolds
playing_holds ops lower room n x y t k rows e =
    let m = merge_holds x y t in
    record { events = m.events; table = log_played ops (chart_lower 0 ops lower) room rows n k (merged_log x y) m.log (ap (λ s. play_log ops room n (lines s)) (sym (merged_text x y t)) ∙ e) }
