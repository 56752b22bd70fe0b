-- The entries of a chart one after another: what is left to append before an entry is that entry's rows and then what is left after it;
-- and what the caller gets when all fit, or not.
use Prim.Native.Nat.{ℕ, suc, ◌+◌, ◌*◌, ◌-◌, ◌≤◌, ◌<◌}
use native.Mathlib.Omega.{arith}
use native.Mathlib.Nat.{sub-zero}
use native.Mathlib.Numerals.{add-one}
use mathlib.Core.Path.{◌≡◌, refl, sym, ap, ◌∙◌, subst}
use mathlib.Core.Logic.{inl, inr}
use mathlib.Core.Bool.{Bool, true, false}
use mathlib.Core.List.{List, [], ◌++◌, append_assoc, append-nil, Memᴰ}
use borrow.Author.Tests.{leb-true, leb-false, le-leb, lt-leb}
use lib.Dec.{leb}
use lib.IntN.{ℤ, pos}
use lib.ListN.{length, take, drop, length-append, drop_of_length-le}
use lib.Seq.{drop_at, take-take, length-take-le}
use lib.Signed.{le_z}
use Rattle.chart.specs.Charts.{entry_at}
use Rattle.chart.specs.declared.Chart.{Chart}
use mir.Syntax.{w32}
use mir.Val.{SFits}
use Rattle.std.specs.Prelude.{None, Some}
use Rattle.model.specs.Lists.{sort_stably}
use Rattle.model.specs.Recognitions.{Event}
use Rattle.model.specs.Order.{Row, since_of}
use Rattle.model.proofs.Capacity.{capacity_fits}
use Rattle.model.proofs.Sorted.{keep_mem, stably_mem}
use Rattle.model.proofs.Steps.{extend_none, extend_on, extend_more, close_rules}
use Rattle.model.proofs.Due.{instants_more}
use Rattle.model.specs.RowSteps.{Rule, rules, starts_later, extend_rows, close_rows, close_instants, instants_to, ends_at, numbered}
use Rattle.state.specs.declared.WatchState.{WatchState}
use Rattle.table.specs.Table.{rows_in, put_rows, zeroed, room_in}
use Rattle.table.specs.Operators.{operators_of, entry_operator}
use Rattle.table.specs.Ready.{Ready}
use Rattle.table.proofs.Laws.{zeroed_same, zeroed_again}
use Rattle.table.proofs.Rows.{length_rows, puts_none, length_puts, puts_append, rows_puts, take_puts, drop_puts}
use Rattle.table.proofs.Operators.{operators_from, operators_all}
use Rattle.table.proofs.Fill.{fill_fits, fill_full}
use Rattle.ordering.specs.Ordered.{ordered, Alike}
use Rattle.ordering.proofs.Sorting.{length_sorted}
use Rattle.ordering.proofs.Appended.{rows_alike, rows_ordered}
use Rattle.closing.specs.Added.{pending_from, FilledBy, counted, Tried, added_rows}
use Rattle.closing.specs.Closed.{closed_rows, closed_count, closed_table}
use Rattle.closing.proofs.Derived.{counted_is}
use Rattle.closing.proofs.Grown.{Grown}
use Rattle.closing.proofs.Growth.{Ending, grown_more, added_entry, added_ending}

-- an operand is a small number
pub small : (a n : ℕ) → a < n → n < 32 → SFits w32 (pos a)
small a n h k = record { sfits = omega arith }

-- all were appended
pub fits_told : (room n : ℕ) (rs : List Row) (t : List ℤ) (k : ℕ) (u : List ℤ) → FilledBy room n rs t k u → n ≤ room → k ≤ room → (n + length rs ≤ room) × (k ≡ n + length rs) × (u ≡ put_rows n rs t)
fits_told room n rs t k u d l h = go (leb (n + length rs) room) refl
  where
    go : (b : Bool) → leb (n + length rs) room ≡ b → (n + length rs ≤ room) × (k ≡ n + length rs) × (u ≡ put_rows n rs t)
    go true e =
        let p = leb-true (n + length rs) room e in
        let f = fill_fits room n rs t p in
        (p, d.0 ∙ ap (λ x. x.count) f, d.1 ∙ ap (λ x. x.table) f)
    go false e =
        let f = fill_full room n rs t l (leb-false (n + length rs) room e) in
        let c : k ≡ suc room = d.0 ∙ ap (λ x. x.count) f in
        absurd (omega arith)

pub full_told : (room n : ℕ) (rs : List Row) (t : List ℤ) (k : ℕ) (u : List ℤ) → FilledBy room n rs t k u → n ≤ room → room < k → (room < n + length rs) × (k ≡ suc room) × (u ≡ put_rows n (take (room - n) rs) t)
full_told room n rs t k u d l h = go (leb (n + length rs) room) refl
  where
    go : (b : Bool) → leb (n + length rs) room ≡ b → (room < n + length rs) × (k ≡ suc room) × (u ≡ put_rows n (take (room - n) rs) t)
    go true e =
        let p = leb-true (n + length rs) room e in
        let f = fill_fits room n rs t p in
        let c : k ≡ n + length rs = d.0 ∙ ap (λ x. x.count) f in
        absurd (omega arith)
    go false e =
        let p = leb-false (n + length rs) room e in
        let f = fill_full room n rs t l p in
        (p, d.0 ∙ ap (λ x. x.count) f, d.1 ∙ ap (λ x. x.table) f)

-- all so far found room: `done` was appended to the n₀ rows of t₀, and `rest` is left of `all`
pub record Closing (room n₀ : ℕ) (all : List Row) (t₀ : List ℤ) (n : ℕ) (rest : List Row) (t : List ℤ) : Type 0 where
  pub done : List Row
  pub is : all ≡ done ++ rest
  pub count : n ≡ n₀ + length done
  pub table : t ≡ put_rows n₀ done t₀
  pub most : n ≤ room

pub closing_none : (room n : ℕ) (all : List Row) (t : List ℤ) → n ≤ room → Closing room n all t n all t
closing_none room n all t h = record { done = []; is = refl; count = omega arith; table = sym (puts_none n t); most = h }

module _ {room n₀ : ℕ} {all : List Row} {t₀ : List ℤ} {n : ℕ} {rest : List Row} {t : List ℤ} (f : Closing room n₀ all t₀ n rest t) where
  pub same_size : length t ≡ length t₀
  same_size = ap length f.table ∙ length_puts n₀ f.done t₀

  pub least : n₀ ≤ n
  least = omega (arith, f.count)

  -- more rows put behind those
  put_more : (rs : List Row) → put_rows n rs t ≡ put_rows n₀ (f.done ++ rs) t₀
  put_more rs = ap (λ k. put_rows k rs t) f.count ∙ ap (put_rows (n₀ + length f.done) rs) f.table ∙ sym (puts_append n₀ f.done rs t₀)

  -- some found room
  pub closing_next : (rs qs : List Row) (k : ℕ) (u : List ℤ) → rest ≡ rs ++ qs → k ≡ n + length rs → k ≤ room → u ≡ put_rows n rs t → Closing room n₀ all t₀ k qs u
  closing_next rs qs k u e c l d = record {
    done = f.done ++ rs;
    is = f.is ∙ ap (λ x. f.done ++ x) e ∙ sym (append_assoc f.done rs qs);
    count = c ∙ ap (λ x. x + length rs) f.count ∙ omega (arith, length-append f.done rs);
    table = d ∙ put_more rs;
    most = l;
  }

  -- they found none, and nothing but the rows behind was altered
  pub closing_full : (rs qs : List Row) (k : ℕ) (u : List ℤ) → rest ≡ rs ++ qs → room * 5 ≤ length t → room < n + length rs → k ≡ suc room → take (n * 5) u ≡ take (n * 5) t → drop (room * 5) u ≡ drop (room * 5) t → Tried room n₀ all t₀ k u
  closing_full rs qs k u e h l c p q =
      let size : length all ≡ length f.done + (length rs + length qs) = ap length (f.is ∙ ap (λ x. f.done ++ x) e) ∙ length-append f.done (rs ++ qs) ∙ ap (λ x. length f.done + x) (length-append rs qs) in
      let old : n₀ * 5 ≤ n * 5 = omega (arith, least) in
      let first : take (n₀ * 5) u ≡ take (n₀ * 5) t = sym (take-take (n₀ * 5) (n * 5) u old) ∙ ap (take (n₀ * 5)) p ∙ take-take (n₀ * 5) (n * 5) t old in
      inr (
        omega (arith, f.count),
        c,
        first ∙ ap (take (n₀ * 5)) f.table ∙ take_puts n₀ f.done t₀ (omega (arith, f.count, f.most, same_size)),
        q ∙ ap (drop (room * 5)) f.table ∙ drop_puts n₀ (room * 5) f.done t₀ (omega (arith, f.count, f.most)),
      )

  -- nothing is left
  pub closing_ended : rest ≡ [] → Tried room n₀ all t₀ n t
  closing_ended e =
      let w : all ≡ f.done = f.is ∙ ap (λ x. f.done ++ x) e ∙ append-nil f.done in
      let c : n ≡ n₀ + length all = f.count ∙ ap (λ x. n₀ + length x) (sym w) in
      inl (omega (arith, f.most), c, f.table ∙ ap (λ x. put_rows n₀ x t₀) (sym w))

-- the rows left to append from entry i on, to the n rows of t
abbrev pub rules_from : Chart → List ℤ → ℤ → ℕ → List Rule
rules_from chart since o i = rules (ends_at since o) i (operators_from chart i (chart.count - i))

unfoldable pub left_rows : Chart → List ℤ → ℤ → List Event → ℕ → ℕ → List ℤ → List Row
left_rows chart since o es i n t = drop n (extend_rows es (rules_from chart since o i) (rows_in n t))

pub left_first : (chart : Chart) (since : List ℤ) (o : ℤ) (es : List Event) (n : ℕ) (t : List ℤ) → left_rows chart since o es 0 n t ≡ drop n (close_rows o es (operators_of chart) since (rows_in n t))
unfolding left_rows
left_first chart since o es n t = rw (sub-zero chart.count, close_rules, operators_all chart)

pub left_last : (chart : Chart) (since : List ℤ) (o : ℤ) (es : List Event) (i n : ℕ) (t : List ℤ) → chart.count ≤ i → left_rows chart since o es i n t ≡ []
unfolding left_rows
left_last chart since o es i n t h =
    let z : chart.count - i ≡ 0 = omega arith in
    rw (z, extend_none) (drop_of_length-le (rows_in n t) {i = n} (omega (arith, length_rows n t)))

module _ (chart : Chart) (since : List ℤ) (o : ℤ) (first pending : ℕ) (codes : List ℕ) (few : pending ≤ length codes) (m i n : ℕ) (t : List ℤ) (g : Grown o m n t) (h : i < chart.count) where
  abbrev events : List Event
  events = numbered o first (take pending codes)

  -- what the entry's operator makes, and what of it counts
  abbrev made : List Row
  made = added_rows (entry_operator (entry_at chart i)) i o (pending_from first pending) codes m n t

  abbrev added : List Row
  added = counted (since_of since i) made

  -- the same, the later start first
  abbrev sorted : List Row
  sorted = sort_stably starts_later added

  abbrev later : List Row
  later = extend_rows events (rules_from chart since o (i + 1)) (rows_in n t ++ sorted)

  first_rule : extend_rows events (rules_from chart since o i) (rows_in n t) ≡ later
  first_rule =
      let z : chart.count - i ≡ suc (chart.count - (i + 1)) = omega arith in
      rw (z, add-one) (extend_on events _ _ (rows_in n t) ∙ ap (λ l. extend_rows events (rules_from chart since o (suc i)) (rows_in n t ++ sort_stably starts_later l)) (counted_is o m n t g i since (entry_operator (entry_at chart i)) first pending codes few))

  left_cut : left_rows chart since o events i n t ≡ sorted ++ drop (n + length sorted) later
  unfolding left_rows
  left_cut =
      let p = extend_more events (rules_from chart since o (i + 1)) (rows_in n t ++ sorted) in
      let size : length (rows_in n t ++ sorted) ≡ n + length sorted = length-append (rows_in n t) sorted ∙ ap (λ k. k + length sorted) (length_rows n t) in
      let rest : drop (n + length sorted) later ≡ p.0 = ap (drop (n + length sorted)) p.1 ∙ drop_at (rows_in n t ++ sorted) p.0 (n + length sorted) size in
      ap (drop n) (first_rule ∙ p.1 ∙ append_assoc (rows_in n t) sorted p.0) ∙ drop_at (rows_in n t) (sorted ++ p.0) n (length_rows n t) ∙ ap (λ l. sorted ++ l) (sym rest)

  is_made : {r : Row} → Memᴰ r added → Memᴰ r made
  is_made h = (keep_mem (λ r. le_z (since_of since i) r.start) made h).0

  entry_of : (r : Row) → Memᴰ r added → r.entry ≡ i
  entry_of r h = added_entry o m n t g i (entry_operator (entry_at chart i)) first pending codes few r (is_made h)

  ending : (r : Row) → Memᴰ r added → Ending o r
  ending r h = added_ending o m n t g i (entry_operator (entry_at chart i)) first pending codes few r (is_made h)

  module _ {room n₀ : ℕ} {all : List Row} {t₀ : List ℤ} {k : ℕ} {u : List ℤ} (f : Closing room n₀ all t₀ n (left_rows chart since o events i n t) t) (held : room * 5 ≤ length t) (d : FilledBy room n added t k u) where
    -- what is known once the entry's rows were appended: they did not fit; or they did, may be put in order, and then the next entry's are derived
    pub record Entered : Type 0 where
      pub full : room < k → Tried room n₀ all t₀ k u
      pub grows : k ≤ room → n ≤ k
      pub alike : k ≤ room → Alike n k u
      pub more : k ≤ room → (v : List ℤ) → v ≡ ordered n (k - n) u → (rows_in k v ≡ rows_in n t ++ sorted) × ((r : Row) → Memᴰ r sorted → r.entry ≡ i)
      pub next : k ≤ room → (v : List ℤ) → v ≡ ordered n (k - n) u → Closing room n₀ all t₀ k (left_rows chart since o events (i + 1) k v) v × Grown o m k v

    entry_full : room < k → Tried room n₀ all t₀ k u
    entry_full h =
        let w = full_told room n added t k u d f.most h in
        let ps : List Row = take (room - n) added in
        let size : n + length ps ≤ room = omega (arith, f.most, length-take-le (room - n) added (omega (arith, w.0))) in
        closing_full f sorted (drop (n + length sorted) later) k u left_cut held (omega (arith, w.0, length_sorted added)) w.1 (ap (take (n * 5)) w.2 ∙ take_puts n ps t (omega arith)) (ap (drop (room * 5)) w.2 ∙ drop_puts n (room * 5) ps t (omega arith))

    module _ (l : k ≤ room) where
      fits : (n + length added ≤ room) × (k ≡ n + length added) × (u ≡ put_rows n added t)
      fits = fits_told room n added t k u d f.most l

      entry_alike : Alike n k u
      entry_alike =
          let w = fits in
          rw (w.1, w.2) (rows_alike i o n added t (λ r h. (entry_of r h, (ending r h).at)) (omega (arith, w.0)))

      entry_more : (v : List ℤ) → v ≡ ordered n (k - n) u → (k ≡ n + length sorted) × (v ≡ put_rows n sorted t) × (rows_in k v ≡ rows_in n t ++ sorted)
      entry_more v z =
          let w = fits in
          let c : k ≡ n + length sorted = w.1 ∙ ap (λ x. n + x) (sym (length_sorted added)) in
          let many : k - n ≡ length added = omega (arith, w.1) in
          let size : (n + length sorted) * 5 ≤ length t = omega (arith, w.0, length_sorted added) in
          let q : v ≡ put_rows n sorted t = z ∙ ap (λ x. ordered n x u) many ∙ ap (ordered n (length added)) w.2 ∙ rows_ordered n added t (omega (arith, w.0)) in
          (c, q, rw (c, q) (rows_puts n sorted t size))

      entry_next : (v : List ℤ) → v ≡ ordered n (k - n) u → Closing room n₀ all t₀ k (left_rows chart since o events (i + 1) k v) v × Grown o m k v
      unfolding left_rows
      entry_next v z =
          let w = entry_more v z in
          let c : k ≡ n + length sorted = w.0 in
          let q : v ≡ put_rows n sorted t = w.1 in
          let rows : rows_in k v ≡ rows_in n t ++ sorted = w.2 in
          let size : (n + length sorted) * 5 ≤ length t = omega (arith, fits.0, length_sorted added) in
          let rest : left_rows chart since o events (i + 1) k v ≡ drop (n + length sorted) later = rw (rows, c) in (
            subst (λ x. Closing room n₀ all t₀ k x v) (sym rest) (closing_next f sorted (drop (n + length sorted) later) k v left_cut c l q),
            rw (c, q) (grown_more o m n t sorted g (λ r h. ending r (stably_mem starts_later added h)) size),
          )

    pub entered : Entered
    entered = record { full = entry_full; grows = λ l. omega (arith, (fits l).1); alike = entry_alike; more = λ l v z. ((entry_more l v z).2, λ r h. entry_of r (stably_mem starts_later added h)); next = entry_next }

-- the events of the open instant
abbrev pub events_in : WatchState → List Event
events_in w = numbered w.instant (suc (w.events - w.pending)) (take w.pending w.codes)

-- the rows after the closing: those before it, and those that were to be appended
module _ (chart : Chart) (w : WatchState) (x : ℤ) (t : List ℤ) where
  abbrev n : ℕ
  n = w.rows

  abbrev closed : List Row
  closed = closed_rows chart w x t

  closed_length : length closed ≡ n + length (drop n closed)
  unfolding closed_rows
  closed_length =
      let p = instants_more (operators_of chart) w.since (events_in w) (instants_to w.instant x) w.instant (rows_in n t) in
      rw (p.1, drop_at (rows_in n t) p.0 n (length_rows n t), length-append, length_rows)

  module _ (ready : Ready chart n t) (k : ℕ) (u : List ℤ) where
    abbrev Closed : Type 0
    Closed = (Some k ≡ closed_count chart w x t) × (u ≡ closed_table chart w x t)

    abbrev Restored : Type 0
    Restored = (None ≡ closed_count chart w x t) × (zeroed (n * 5) (room_in t * 5) u ≡ closed_table chart w x t)

    -- all fit
    pub closed_fits : Tried (room_in t) n (drop n closed) t k u → k ≤ room_in t → Closed
    unfolding closed_count closed_table
    closed_fits (inl f) h =
        let l : leb (length closed) (room_in t) ≡ true = le-leb (length closed) (room_in t) (omega (arith, f.0, closed_length)) in
        rw l (ap Some (f.1 ∙ sym closed_length), f.2)
    closed_fits (inr f) h = absurd (omega (arith, f.1))

    -- not all fit
    pub closed_full : Tried (room_in t) n (drop n closed) t k u → room_in t < k → Restored
    unfolding closed_count closed_table
    closed_full (inl f) h = absurd (omega (arith, f.0, f.1))
    closed_full (inr f) h =
        let room = room_in t in
        let l : leb (length closed) room ≡ false = lt-leb (length closed) room (omega (arith, f.0, closed_length)) in
        rw l (refl, zeroed_same (n * 5) (room * 5) u t f.2 f.3 ∙ zeroed_again (n * 5) (room * 5) t (omega (arith, ready.fit)) (capacity_fits (length t)) ready.zeros)

-- For callers: the rows after the closing, and the count and the table by whether they fit
module _ (chart : Chart) (w : WatchState) (x : ℤ) (t : List ℤ) where
  pub closed_is : closed_rows chart w x t ≡ close_instants (instants_to w.instant x) w.instant (events_in w) (operators_of chart) w.since (rows_in w.rows t)
  unfolding closed_rows
  closed_is = refl

  pub count_fits : length (closed_rows chart w x t) ≤ room_in t → (closed_count chart w x t ≡ Some (length (closed_rows chart w x t))) × (closed_table chart w x t ≡ put_rows w.rows (drop w.rows (closed_rows chart w x t)) t)
  unfolding closed_count closed_table
  count_fits h = rw (le-leb (length (closed_rows chart w x t)) (room_in t) h) (refl, refl)

  pub count_over : room_in t < length (closed_rows chart w x t) → (closed_count chart w x t ≡ None) × (closed_table chart w x t ≡ t)
  unfolding closed_count closed_table
  count_over h = rw (lt-leb (length (closed_rows chart w x t)) (room_in t) h) (refl, refl)
