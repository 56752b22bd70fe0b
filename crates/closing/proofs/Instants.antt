-- Instants one after another: what is left to append before an instant is that instant's rows and then what is left from the next due one on.
use Prim.Native.Nat.{ℕ, ◌+◌, ◌*◌, ◌≤◌, ◌<◌}
use native.Mathlib.Omega.{arith}
use mathlib.Core.Path.{◌≡◌, sym, ap, ◌∙◌, subst}
use mathlib.Core.Logic.{inl, inr}
use mathlib.Core.List.{List, [], ◌++◌, append_assoc}
use lib.IntN.{ℤ, pos, ◌+ℤ◌}
use lib.ListN.{length, drop, length-append, drop_of_length-le}
use lib.Seq.{drop_at}
use Rattle.interval.proofs.Signed.{◌≤ᶻ◌, ◌<ᶻ◌, eq_fact, lt_true, antisym, add_fact}
use Rattle.chart.specs.declared.Chart.{Chart}
use Rattle.model.specs.Recognitions.{Event}
use Rattle.model.specs.Order.{Row}
use Rattle.model.specs.RowSteps.{close_rows, close_instants, instants_to, due_ends, numbered}
use Rattle.model.specs.Statements.{NextDue}
use Rattle.model.proofs.Steps.{close_more}
use Rattle.model.proofs.Listing.{numbered_mem}
use Rattle.model.proofs.History.{instants_to_lem}
use Rattle.model.proofs.Jump.{EndBefore}
use Rattle.model.proofs.Due.{instants_none, instants_on, instants_more, instants_without, instants_skip}
use Rattle.state.specs.declared.WatchState.{WatchState}
use Rattle.table.specs.Table.{cell, rows_in}
use Rattle.table.specs.Operators.{operators_of}
use Rattle.table.proofs.Rows.{length_rows, rows_mem, rows_puts}
use Rattle.closing.specs.Added.{Settled, Tried}
use Rattle.closing.specs.Closed.{closed_rows}
use Rattle.closing.proofs.Entries.{Closing, closing_next, closing_full, events_in, closed_is}

-- the rows left to append from the instant o on to before x, to the n rows of t
unfoldable pub left_instants : Chart → List ℤ → ℤ → ℤ → List Event → ℕ → List ℤ → List Row
left_instants chart since o x es n t = drop n (close_instants (instants_to o x) o es (operators_of chart) since (rows_in n t))

pub instants_first : (chart : Chart) (w : WatchState) (x : ℤ) (t : List ℤ) → left_instants chart w.since w.instant x (events_in w) w.rows t ≡ drop w.rows (closed_rows chart w x t)
unfolding left_instants
instants_first chart w x t = ap (drop w.rows) (sym (closed_is chart w x t))

pub instants_ended : (chart : Chart) (since : List ℤ) (o x : ℤ) (es : List Event) (n : ℕ) (t : List ℤ) → o ≤ᶻ x → x ≤ᶻ o → left_instants chart since o x es n t ≡ []
unfolding left_instants
instants_ended chart since o x es n t h g =
    ap (λ z. drop n (close_instants (instants_to o z) o es (operators_of chart) since (rows_in n t))) (antisym x o g h)
    ∙ ap (drop n) (instants_none (operators_of chart) since es o (rows_in n t))
    ∙ drop_of_length-le (rows_in n t) {i = n} (omega (arith, length_rows n t))

-- a later instant has fewer before x
pub instants_fewer : (o e x : ℤ) → (o +ℤ pos 1) ≤ᶻ e → e ≤ᶻ x → instants_to e x < instants_to o x
instants_fewer o e x h g =
    let a = instants_to_lem o x (omega (arith, add_fact o (pos 1))) in
    let b = instants_to_lem e x g in
    omega (arith, eq_fact a, eq_fact b, add_fact o (pos 1), add_fact o (pos (instants_to o x)), add_fact e (pos (instants_to e x)))

-- rows that are settled, as the model has them
rows_end : (o : ℤ) (n : ℕ) (t : List ℤ) → Settled o n t → EndBefore o (rows_in n t)
rows_end o n t s r m =
    let p = rows_mem n t r m in
    subst (λ z. z.end <ᶻ o) (sym p.2) (lt_true (cell t p.0 4) o (s.ended p.0 p.1))

module _ (chart : Chart) (since : List ℤ) (o x : ℤ) (h : o <ᶻ x) (first : ℕ) (codes : List ℕ) (n : ℕ) (t : List ℤ) where
  abbrev es : List Event
  es = numbered o first codes

  abbrev closed : List Row
  closed = close_rows o es (operators_of chart) since (rows_in n t)

  -- the rows of this instant, and those of the later ones
  abbrev new : List Row
  new = drop n closed

  abbrev all : List Row
  all = close_instants (instants_to (o +ℤ pos 1) x) (o +ℤ pos 1) es (operators_of chart) since closed

  closed_new : closed ≡ rows_in n t ++ new
  closed_new =
      let p = close_more o es (operators_of chart) since (rows_in n t) in
      p.1 ∙ ap (λ z. rows_in n t ++ z) (sym (ap (drop n) p.1 ∙ drop_at (rows_in n t) p.0 n (length_rows n t)))

  size : length closed ≡ n + length new
  size = ap length closed_new ∙ length-append (rows_in n t) new ∙ ap (λ z. z + length new) (length_rows n t)

  left_cut : left_instants chart since o x es n t ≡ new ++ drop (n + length new) all
  unfolding left_instants
  left_cut =
      let p = instants_more (operators_of chart) since es (instants_to (o +ℤ pos 1) x) (o +ℤ pos 1) closed in
      let rest : drop (n + length new) all ≡ p.0 = ap (drop (n + length new)) p.1 ∙ drop_at closed p.0 (n + length new) size in
      ap (drop n) (instants_on (operators_of chart) since es o x (rows_in n t) h ∙ p.1 ∙ ap (λ z. z ++ p.0) closed_new ∙ append_assoc (rows_in n t) new p.0)
      ∙ drop_at (rows_in n t) (new ++ p.0) n (length_rows n t) ∙ ap (λ l. new ++ l) (sym rest)

  module _ {room n₀ : ℕ} {whole : List Row} {t₀ : List ℤ} {k : ℕ} {u : List ℤ} (f : Closing room n₀ whole t₀ n (left_instants chart since o x es n t) t) (held : room * 5 ≤ length t) (d : Tried room n new t k u) where
    -- the rows of this instant found no room
    pub turn_full : room < k → Tried room n₀ whole t₀ k u
    turn_full l = go d
      where
        go : Tried room n new t k u → Tried room n₀ whole t₀ k u
        go (inl w) = absurd (omega (arith, w.0, w.1))
        go (inr w) = closing_full f new (drop (n + length new) all) k u left_cut held w.0 w.1 w.2 w.3

    -- they did, and e is the next due instant
    pub turn_next : k ≤ room → Settled (o +ℤ pos 1) k u → (e : ℤ) → NextDue (due_ends [] (operators_of chart) since (rows_in k u)) (o +ℤ pos 1) x e → Closing room n₀ whole t₀ k (left_instants chart since e x [] k u) u
    unfolding left_instants
    turn_next l s e due = go d
      where
        go : Tried room n new t k u → Closing room n₀ whole t₀ k (left_instants chart since e x [] k u) u
        go (inr w) = absurd (omega (arith, w.1))
        go (inl w) =
            let rows : rows_in k u ≡ closed = rw (w.1, w.2) (rows_puts n new t (omega (arith, w.0))) ∙ sym closed_new in
            let rest : left_instants chart since e x [] k u ≡ drop (n + length new) all =
            ap (drop k) (sym (instants_skip (operators_of chart) since [] (o +ℤ pos 1) x e (rows_in k u) (rows_end (o +ℤ pos 1) k u s) due))
            ∙ ap (λ z. drop k (close_instants (instants_to (o +ℤ pos 1) x) (o +ℤ pos 1) [] (operators_of chart) since z)) rows
            ∙ ap (drop k) (sym (instants_without (operators_of chart) since es (instants_to (o +ℤ pos 1) x) (o +ℤ pos 1) closed (λ v m. omega (arith, eq_fact (numbered_mem o first codes v m).0, add_fact o (pos 1)))))
            ∙ ap (λ z. drop z all) w.1 in
            subst (λ z. Closing room n₀ whole t₀ k z u) (sym rest) (closing_next f new (drop (n + length new) all) k u left_cut w.1 l w.2)
