-- After every list of calls the watch on rows shows the reference model, and the numbers are the reference model's.
use Prim.Native.Nat.{ℕ, zero, suc, ◌+◌, ◌-◌, ◌<◌, ◌≤◌}
use native.Mathlib.Omega.{arith}
use mathlib.Core.Path.{◌≡◌, refl, sym, ap, ap₂, ◌∙◌, subst}
use mathlib.Core.Logic.{◌⊎◌, inl, inr}
use mathlib.Core.Bool.{Bool, true, false, cond, not}
use mathlib.Core.List.Memᴰ
use mathlib.Core.List.{List, [], ◌∷◌, ◌++◌, map, map-append, append_assoc, append-nil, Memᴰ}
use lib.Dec.{T, eqb, ltb, leb, eqb→eq, nltb→le, nleb→lt}
use lib.IntN.{ℤ, pos, negsuc, nat_abs, ◌+ℤ◌, ◌-ℤ◌}
use lib.ListN.{length, replicate, length-map, length-append, length-replicate}
use Rattle.interval.specs.Instants.{is_instant, first_floor, is_mark_refused, is_forget_refused, eq_z}
use Rattle.interval.proofs.Signed.{pos_part, neg_part, ◌≤ᶻ◌, ◌<ᶻ◌, eq_fact, eq_z→, eq_z_refl, holds→, →holds, fails→, is_instant_lem, add_fact, sub_fact, antisym}
use Rattle.interval.proofs.Laws.{floor_instant, floor_least, mark_taken, forget_taken}
use Rattle.model.specs.Lists.{keep, numbers}
use Rattle.model.specs.Recognitions.{Event, Operator, are_lower, Recognition}
use Rattle.model.specs.Order.{Row, listing, as_row, as_rows}
use Rattle.model.specs.Reference.{Model, model, Answer, accepted, refused, opening, Call, event, clock, forget, add, Reading, is_at, event_step, clock_step, forget_step, with_added, add_step, step, run, numbers_of, rows_of}
use Rattle.model.specs.RowSteps.{close_instants, instants_to, keep_rows, is_late, forget_rows, Watch, watch, numbered, closed_rows, watch_opening, watch_event, watch_clock, watch_forget, watch_added, watch_add, watch_step, shown}
use Rattle.model.specs.Consistency.{is_rising}
use Rattle.model.specs.Statements.{IsReader}
use Rattle.model.proofs.Sorted.{cond_T, keep_append}
use Rattle.model.proofs.Local.{Chart, chart_lower, chart_append}
use Rattle.model.proofs.Place.{keep_none}
use Rattle.model.proofs.Since.{rising_at, rising_more, rising_start, rising_add}
use Rattle.model.proofs.Closing.{Rises}
use Rattle.model.proofs.Listing.{listing_forget, listing_event, listing_add, listing_clock, listing_empty, numbered_mem}

-- numbered events
keep_now : (o : ℤ) (s : ℕ) (ks : List ℕ) → keep (is_at o) (numbered o s ks) ≡ numbered o s ks
keep_now o s [] = refl
keep_now o s (k ∷ ks) =
    let e : Event = record { serial = s; code = k; instant = o } in
    cond_T (eq_z o o) (e ∷ keep (is_at o) (numbered o (suc s) ks)) (keep (is_at o) (numbered o (suc s) ks)) (eq_z_refl o) ∙ ap (◌∷◌ e) (keep_now o (suc s) ks)

numbered_codes : (o : ℤ) (s : ℕ) (ks : List ℕ) → map (λ e. e.code) (numbered o s ks) ≡ ks
numbered_codes o s [] = refl
numbered_codes o s (k ∷ ks) = ap (◌∷◌ k) (numbered_codes o (suc s) ks)

numbered_length : (o : ℤ) (s : ℕ) (ks : List ℕ) → length (numbered o s ks) ≡ length ks
numbered_length o s [] = refl
numbered_length o s (k ∷ ks) = ap suc (numbered_length o (suc s) ks)

numbered_snoc : (o : ℤ) (s : ℕ) (ks : List ℕ) (k : ℕ) → numbered o s (ks ++ k ∷ []) ≡ numbered o s ks ++ record { serial = s + length ks; code = k; instant = o } ∷ []
numbered_snoc o s [] k = ap (λ i. record { serial = i; code = k; instant = o } ∷ []) (omega arith)
numbered_snoc o s (x ∷ ks) k = ap (◌∷◌ (record { serial = s; code = x; instant = o })) (numbered_snoc o (suc s) ks k ∙ ap (λ i. numbered o (suc s) ks ++ record { serial = i; code = k; instant = o } ∷ []) (omega arith))

pub numbers_snoc : (a n : ℕ) → numbers a (suc n) ≡ numbers a n ++ (a + n) ∷ []
numbers_snoc a zero = ap (λ i. i ∷ []) (omega arith)
numbers_snoc a (suc n) = ap (◌∷◌ a) (numbers_snoc (suc a) n ∙ ap (λ i. numbers (suc a) n ++ i ∷ []) (omega arith))

pub keep_length : {A : Type 0} (p : A → Bool) (xs : List A) → length (keep p xs) ≤ length xs
keep_length p [] = omega arith
keep_length {A} p (x ∷ xs) = go (p x) (keep_length p xs)
  where
    go : (b : Bool) → length (keep p xs) ≤ length xs → length (cond b (x ∷ keep p xs) (keep p xs)) ≤ suc (length xs)
    go true h = omega arith
    go false h = omega arith

-- what holds of the reference model after every list of calls: its events are those before the open instant, then those at it; the
-- nth has serial n; open instant and floor are in range and in order; operands are lower entries; each entry has an instant from which it
-- counts, and these do not fall; nothing is more than it may be
pub record Good (capacity : ℕ) (m : Model) : Type 0 where
  pub lower : Chart 0 m.chart
  pub entries : length m.since ≡ length m.chart
  pub rising : T (is_rising first_floor m.open_instant m.since)
  pub old : List Event
  pub pending : List ℕ
  pub is : m.events ≡ old ++ numbered m.open_instant (suc (length old)) pending
  pub past : (e : Event) → Memᴰ e old → e.instant <ᶻ m.open_instant
  pub serials : map (λ e. e.serial) m.events ≡ numbers 1 (length m.events)
  pub low : m.floor ≤ᶻ m.open_instant
  pub open_range : T (is_instant m.open_instant)
  pub floor_range : T (is_instant m.floor)
  pub count : length m.events ≤ 1000000
  pub few : length (keep (is_at m.open_instant) m.events) ≤ 64
  pub fits : length (listing m.chart m.since m.events m.floor m.open_instant) ≤ capacity

module _ {capacity : ℕ} {m : Model} (g : Good capacity m) where
  pub good_rises : Rises m.chart m.since
  good_rises a n l k = rising_at first_floor m.open_instant m.since g.rising a n l (let e = g.entries in omega arith)

  at_open : keep (is_at m.open_instant) m.events ≡ numbered m.open_instant (suc (length g.old)) g.pending
  at_open = ap (keep (is_at m.open_instant)) g.is ∙ keep_append (is_at m.open_instant) g.old (numbered m.open_instant (suc (length g.old)) g.pending) ∙ ap₂ ◌++◌ (keep_none (is_at m.open_instant) g.old (λ e n t. let p : e.instant <ᶻ m.open_instant = g.past e n in omega (arith, eq_fact (eq_z→ e.instant m.open_instant t)))) (keep_now m.open_instant (suc (length g.old)) g.pending)

  pub pending_is : map (λ e. e.code) (keep (is_at m.open_instant) m.events) ≡ g.pending
  pending_is = ap (map (λ e. e.code)) at_open ∙ numbered_codes m.open_instant (suc (length g.old)) g.pending

  pub count_is : length m.events ≡ length g.old + length g.pending
  count_is = ap length g.is ∙ length-append g.old (numbered m.open_instant (suc (length g.old)) g.pending) ∙ ap (λ z. length g.old + z) (numbered_length m.open_instant (suc (length g.old)) g.pending)

  sooner : (t : ℤ) → m.open_instant <ᶻ t → (e : Event) → Memᴰ e m.events → e.instant <ᶻ t
  sooner t lt e n = go (Memᴰ.append_cases g.old (subst (Memᴰ e) g.is n))
    where
      go : Memᴰ e g.old ⊎ Memᴰ e (numbered m.open_instant (suc (length g.old)) g.pending) → e.instant <ᶻ t
      go (inl k) = let p : e.instant <ᶻ m.open_instant = g.past e k in omega arith
      go (inr k) = let p = numbered_mem m.open_instant (suc (length g.old)) g.pending e k in omega (arith, eq_fact p.0)

  later : (t : ℤ) → m.open_instant <ᶻ t → keep (is_at t) m.events ≡ []
  later t lt = keep_none (is_at t) m.events (λ e n h. let p : e.instant <ᶻ t = sooner t lt e n in omega (arith, eq_fact (eq_z→ e.instant t h)))

-- both steps take the same way through a test
abbrev lift : Answer Model → Answer Watch
lift a = record { number = a.number; state = shown a.state }

cond_lift : (b b' : Bool) (x y : Answer Model) (x' y' : Answer Watch) → b' ≡ b → x' ≡ lift x → (T (not b) → y' ≡ lift y) → cond b' x' y' ≡ lift (cond b x y)
cond_lift b b' x y x' y' e f h = ap (λ z. cond z x' y') e ∙ go b h
  where
    go : (d : Bool) → (T (not d) → y' ≡ lift y) → cond d x' y' ≡ lift (cond d x y)
    go true k = f
    go false k = k tt

cond_state : (P : Model → Type 0) (b : Bool) (x y : Answer Model) → (T b → P x.state) → (T (not b) → P y.state) → P (cond b x y).state
cond_state P true x y p q = p tt
cond_state P false x y p q = q tt

watch_path : (o f : ℤ) (chart : List Operator) (since : List ℤ) {n n' : ℕ} {ks ks' : List ℕ} {rs rs' : List Row} → n ≡ n' → ks ≡ ks' → rs ≡ rs' → watch o f chart since n ks rs ≡ watch o f chart since n' ks' rs'
watch_path o f chart since p q r = λ j. watch o f chart since (p j) (q j) (r j)

abbrev new_event : Model → ℕ → Event
new_event m k = record { serial = suc (length m.events); code = k; instant = m.open_instant }

keep_new : (m : Model) (k : ℕ) → keep (is_at m.open_instant) (m.events ++ new_event m k ∷ []) ≡ keep (is_at m.open_instant) m.events ++ new_event m k ∷ []
keep_new m k = keep_append (is_at m.open_instant) m.events (new_event m k ∷ []) ∙ ap (λ z. keep (is_at m.open_instant) m.events ++ z) (cond_T (eq_z m.open_instant m.open_instant) (new_event m k ∷ []) [] (eq_z_refl m.open_instant))

rows_length : (ts : List Recognition) → length (as_rows ts) ≡ length ts
rows_length ts = length-map ts (as_row ts)

abbrev listed : Model → ℤ → ℤ → List Recognition
listed m f o = listing m.chart m.since m.events f o

-- o and the instants from o to t-1 make t
pub instants_to_lem : (o t : ℤ) → o ≤ᶻ t → o +ℤ pos (instants_to o t) ≡ t
instants_to_lem o t h = go (t -ℤ o) (sub_fact t o)
  where
    go : (z : ℤ) → pos_part z + (neg_part t + pos_part o) ≡ neg_part z + (pos_part t + neg_part o) → o +ℤ pos (nat_abs z) ≡ t
    go (pos n) e = let p = add_fact o (pos n) in antisym (o +ℤ pos n) t (omega arith) (omega arith)
    go (negsuc n) e = absurd (omega arith)

-- closing the instants from the open one to t-1
pub closed_is : {capacity : ℕ} (m : Model) → Good capacity m → (t : ℤ) → m.open_instant <ᶻ t → closed_rows (shown m) t ≡ as_rows (listed m m.floor t)
unfolding shown
closed_is m g t lt =
    ap₂ (λ n ks. close_instants many m.open_instant (numbered m.open_instant (suc n) ks) m.chart m.since (rows_of m)) count_old (pending_is g)
    ∙ ap (λ es. close_instants many m.open_instant now m.chart m.since (as_rows (listing m.chart m.since es m.floor m.open_instant))) g.is
    ∙ listing_clock m.chart g.lower m.since (good_rises g) g.old (suc (length g.old)) g.pending m.floor m.open_instant g.low g.past many m.open_instant t (omega arith) (instants_to_lem m.open_instant t (omega arith))
    ∙ ap (λ es. as_rows (listing m.chart m.since es m.floor t)) (sym g.is)
  where
    many : ℕ
    many = instants_to m.open_instant t

    now : List Event
    now = numbered m.open_instant (suc (length g.old)) g.pending

    count_old : length m.events - length (map (λ e. e.code) (keep (is_at m.open_instant) m.events)) ≡ length g.old
    count_old =
        let p = count_is g in
        let q : length (map (λ e. e.code) (keep (is_at m.open_instant) m.events)) ≡ length g.pending = ap length (pending_is g) in
        omega arith

-- an addition
add_shown : {capacity : ℕ} (m : Model) → Good capacity m → (a : Reading) → cond (eqb a.number 0) (accepted (watch_added (shown m) a.operators)) (refused a.number (shown m)) ≡ lift (cond (eqb a.number 0) (accepted (with_added m a.operators)) (refused a.number m))
unfolding shown
add_shown m g a = cond_lift (eqb a.number 0) (eqb a.number 0) (accepted (with_added m a.operators)) (refused a.number m) _ _ refl
    (ap accepted (watch_path m.open_instant m.floor (m.chart ++ a.operators) (m.since ++ replicate (length a.operators) m.open_instant) refl refl (ap as_rows (sym (listing_add m.chart a.operators m.since g.entries m.events m.floor m.open_instant)))))
    (λ h. refl)

module _ {L : Type 0} (read : ℕ → L → Reading) (reader : IsReader read) (capacity : ℕ) where
  -- one call
  pub step_shown : (m : Model) → Good capacity m → (call : Call L) → watch_step read capacity (shown m) call ≡ lift (step read capacity m call)
  unfolding shown event_step clock_step forget_step add_step watch_event watch_clock watch_forget watch_add
  step_shown m g (event k) =
      cond_lift (leb 1000000 (length m.events)) (leb 1000000 (length m.events)) _ _ _ _ refl refl (λ h.
      cond_lift (leb 64 (length (keep (is_at m.open_instant) m.events))) _ _ _ _ _ (ap (leb 64) (length-map (keep (is_at m.open_instant) m.events) (λ e. e.code))) refl (λ h'.
      ap accepted (watch_path m.open_instant m.floor m.chart m.since (simp length-append (omega arith)) (sym (ap (map (λ e. e.code)) (keep_new m k) ∙ map-append (λ e. e.code) (keep (is_at m.open_instant) m.events) (new_event m k ∷ []))) (ap as_rows (sym (listing_event m.chart g.lower m.since m.events m.floor m.open_instant (new_event m k) refl))))))
  step_shown m g (clock t) =
      cond_lift (is_mark_refused m.open_instant t) (is_mark_refused m.open_instant t) _ _ _ _ refl refl (λ h.
      let lt : m.open_instant <ᶻ t = (mark_taken m.open_instant t (fails→ _ h)).later in
      let e : closed_rows (shown m) t ≡ as_rows (listed m m.floor t) = closed_is m g t lt in
      cond_lift (ltb capacity (length (listed m m.floor t))) _ _ _ _ _ (ap (ltb capacity) (ap length e ∙ rows_length (listed m m.floor t))) refl (λ h'.
      ap accepted (watch_path t m.floor m.chart m.since refl (sym (ap (map (λ e. e.code)) (later g t lt))) e)))
  step_shown m g (forget f) =
      cond_lift (is_forget_refused m.floor m.open_instant f) (is_forget_refused m.floor m.open_instant f) _ _ _ _ refl refl (λ h.
      ap accepted (watch_path m.open_instant f m.chart m.since refl refl (listing_forget m.chart g.lower m.since (good_rises g) m.events m.floor f m.open_instant (forget_taken m.floor m.open_instant f (fails→ _ h)).above)))
  step_shown m g (add lines) = add_shown m g (read (length m.chart) lines)

  good_event : (m : Model) → Good capacity m → (k : ℕ) → length m.events < 1000000 → length (keep (is_at m.open_instant) m.events) < 64 → Good capacity (model m.open_instant m.floor m.chart m.since (m.events ++ new_event m k ∷ []))
  good_event m g k l l' = record {
    lower = g.lower;
    entries = g.entries;
    rising = g.rising;
    old = g.old;
    pending = g.pending ++ k ∷ [];
    is = ap₂ (λ es i. es ++ record { serial = i; code = k; instant = m.open_instant } ∷ []) g.is serial_is ∙ append_assoc g.old now _ ∙ ap (λ z. g.old ++ z) (sym (numbered_snoc m.open_instant (suc (length g.old)) g.pending k));
    past = g.past;
    serials = map-append (λ e. e.serial) m.events (new_event m k ∷ []) ∙ ap (λ z. z ++ suc (length m.events) ∷ []) g.serials ∙ ap (λ i. numbers 1 (length m.events) ++ i ∷ []) (omega arith) ∙ sym (numbers_snoc 1 (length m.events)) ∙ ap (numbers 1) one_more;
    low = g.low;
    open_range = g.open_range;
    floor_range = g.floor_range;
    count = simp length-append (omega arith);
    few = rw (keep_new m k) (simp length-append (omega arith));
    fits = rw (listing_event m.chart g.lower m.since m.events m.floor m.open_instant (new_event m k) refl) g.fits;
  }
    where
      now : List Event
      now = numbered m.open_instant (suc (length g.old)) g.pending

      one_more : suc (length m.events) ≡ length (m.events ++ new_event m k ∷ [])
      one_more = simp length-append (omega arith)

      serial_is : suc (length m.events) ≡ suc (length g.old) + length g.pending
      serial_is = let p = count_is g in omega arith

  good_clock : (m : Model) → Good capacity m → (t : ℤ) → T (is_instant t) → m.open_instant <ᶻ t → length (listed m m.floor t) ≤ capacity → Good capacity (model t m.floor m.chart m.since m.events)
  good_clock m g t r lt l =
      let lo : m.floor ≤ᶻ m.open_instant = g.low in
      record {
        lower = g.lower;
        entries = g.entries;
        rising = rising_more first_floor m.open_instant t m.since (omega arith) g.rising;
        old = m.events;
        pending = [];
        is = sym (append-nil m.events);
        past = sooner g t lt;
        serials = g.serials;
        low = omega arith;
        open_range = r;
        floor_range = g.floor_range;
        count = g.count;
        few = rw (later g t lt) (omega arith);
        fits = l;
      }

  good_forget : (m : Model) → Good capacity m → (f : ℤ) → T (is_instant f) → m.floor ≤ᶻ f → f ≤ᶻ m.open_instant → Good capacity (model m.open_instant f m.chart m.since m.events)
  unfolding forget_rows keep_rows
  good_forget m g f r lo hi = record { lower = g.lower; entries = g.entries; rising = g.rising; old = g.old; pending = g.pending; is = g.is; past = g.past; serials = g.serials; low = hi; open_range = g.open_range; floor_range = r; count = g.count; few = g.few; fits = shorter }
    where
      shorter : length (listed m f m.open_instant) ≤ capacity
      shorter =
          let p : length (forget_rows m.chart f (rows_of m)) ≡ length (listed m f m.open_instant) = ap length (listing_forget m.chart g.lower m.since (good_rises g) m.events m.floor f m.open_instant lo) ∙ rows_length (listed m f m.open_instant) in
          let q : length (forget_rows m.chart f (rows_of m)) ≡ length (keep (is_late f) (rows_of m)) = length-map (keep (is_late f) (rows_of m)) _ in
          let r : length (keep (is_late f) (rows_of m)) ≤ length (rows_of m) = keep_length (is_late f) (rows_of m) in
          let s : length (rows_of m) ≡ length (listed m m.floor m.open_instant) = rows_length (listed m m.floor m.open_instant) in
          let t : length (listed m m.floor m.open_instant) ≤ capacity = g.fits in
          omega arith

  good_add : (m : Model) → Good capacity m → (new : List Operator) → T (are_lower (length m.chart) new) → Good capacity (with_added m new)
  good_add m g new lo = record {
    lower = chart_append 0 m.chart new g.lower (subst (λ i. Chart i new) (omega arith) (chart_lower (length m.chart) new lo));
    entries = simp (length-append, length-replicate) (let e = g.entries in omega arith);
    rising = rising_add first_floor m.open_instant m.since (length new) g.rising;
    old = g.old;
    pending = g.pending;
    is = g.is;
    past = g.past;
    serials = g.serials;
    low = g.low;
    open_range = g.open_range;
    floor_range = g.floor_range;
    count = g.count;
    few = g.few;
    fits = rw (listing_add m.chart new m.since g.entries m.events m.floor m.open_instant) g.fits;
  }

  pub good_step : (m : Model) → Good capacity m → (call : Call L) → Good capacity (step read capacity m call).state
  unfolding event_step clock_step forget_step add_step
  good_step m g (event k) =
      cond_state (Good capacity) (leb 1000000 (length m.events)) _ _ (λ h. g) (λ h.
      cond_state (Good capacity) (leb 64 (length (keep (is_at m.open_instant) m.events))) _ _ (λ h. g) (λ h'.
      good_event m g k (nleb→lt 1000000 (length m.events) h) (nleb→lt 64 (length (keep (is_at m.open_instant) m.events)) h')))
  good_step m g (clock t) =
      cond_state (Good capacity) (is_mark_refused m.open_instant t) _ _ (λ h. g) (λ h.
      let p = mark_taken m.open_instant t (fails→ _ h) in
      cond_state (Good capacity) (ltb capacity (length (listed m m.floor t))) _ _ (λ h. g) (λ h'.
      good_clock m g t (→holds (is_instant t) p.in_range) p.later (nltb→le capacity (length (listed m m.floor t)) h')))
  good_step m g (forget f) =
      cond_state (Good capacity) (is_forget_refused m.floor m.open_instant f) _ _ (λ h. g) (λ h.
      let p = forget_taken m.floor m.open_instant f (fails→ _ h) in
      good_forget m g f (→holds (is_instant f) p.in_range) p.above p.below)
  good_step m g (add lines) =
      let a = read (length m.chart) lines in
      cond_state (Good capacity) (eqb a.number 0) _ _ (λ h. good_add m g a.operators (reader (length m.chart) lines (eqb→eq a.number 0 h))) (λ h. g)

  pub good_run : (calls : List (Call L)) (m : Model) → Good capacity m → Good capacity (run (step read capacity) m calls)
  unfolding run
  good_run [] m g = g
  good_run (call ∷ calls) m g = good_run calls (step read capacity m call).state (good_step m g call)

  -- all calls
  pub history_from : (calls : List (Call L)) (m : Model) → Good capacity m → (run (watch_step read capacity) (shown m) calls ≡ shown (run (step read capacity) m calls)) × (numbers_of (watch_step read capacity) (shown m) calls ≡ numbers_of (step read capacity) m calls)
  unfolding run numbers_of
  history_from [] m g = (refl, refl)
  history_from (call ∷ calls) m g =
      let e = step_shown m g call in
      let r = history_from calls (step read capacity m call).state (good_step m g call) in
      (ap (λ a. run (watch_step read capacity) a.state calls) e ∙ r.0, ap (λ a. a.number ∷ numbers_of (watch_step read capacity) a.state calls) e ∙ ap (◌∷◌ (step read capacity m call).number) r.1)

-- the opening
abbrev start : List Operator → ℤ → Model
start chart o = model o first_floor chart (replicate (length chart) first_floor) []

good_start : (capacity : ℕ) (chart : List Operator) → Chart 0 chart → (o : ℤ) → T (is_instant o) → Good capacity (start chart o)
good_start capacity chart c o r = record {
  lower = c;
  entries = length-replicate (length chart) first_floor;
  rising = rising_start first_floor o (length chart) (floor_least o (holds→ (is_instant o) r));
  old = [];
  pending = [];
  is = refl;
  past = λ e n. absurd (Memᴰ.not-nil n);
  serials = refl;
  low = floor_least o (holds→ (is_instant o) r);
  open_range = r;
  floor_range = →holds (is_instant first_floor) floor_instant;
  count = omega arith;
  few = omega arith;
  fits = rw (listing_empty chart (replicate (length chart) first_floor) first_floor o) (omega arith);
}

start_shown : (chart : List Operator) (o : ℤ) → shown (start chart o) ≡ watch o first_floor chart (replicate (length chart) first_floor) 0 [] []
unfolding shown
start_shown chart o = watch_path o first_floor chart (replicate (length chart) first_floor) refl refl (ap as_rows (listing_empty chart (replicate (length chart) first_floor) first_floor o))

pub good_opening : (capacity : ℕ) (chart : List Operator) → Chart 0 chart → (o : ℤ) → Good capacity (opening chart o).state
unfolding opening
good_opening capacity chart c o = go (is_instant o) (λ h. h)
  where
    go : (b : Bool) → (T b → T (is_instant o)) → Good capacity (cond b (accepted (start chart o)) (refused 8 (start [] (pos 0)))).state
    go true f = good_start capacity chart c o (f tt)
    go false f = good_start capacity [] tt (pos 0) (→holds (is_instant (pos 0)) (is_instant_lem (pos 0) (omega arith)))

pub opening_shown : (chart : List Operator) (o : ℤ) → watch_opening chart o ≡ lift (opening chart o)
unfolding opening watch_opening
opening_shown chart o = cond_lift (is_instant o) (is_instant o) _ _ _ _ refl (ap accepted (sym (start_shown chart o))) (λ h. ap (refused 8) (sym (start_shown [] (pos 0))))
