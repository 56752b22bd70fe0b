-- What each operator's function appends is what the reference model's step makes, before it is put in order: the rows that the searches leave out
-- make nothing that ends at the instant.
use Prim.Native.Nat.{ℕ, zero, suc, ◌+◌, ◌≤◌, ◌<◌}
use native.Mathlib.Omega.{arith}
use native.Mathlib.Nat.{zero-add, sub-zero}
use mathlib.Core.Path.{◌≡◌, refl, sym, ap, ap₂, ◌∙◌}
use mathlib.Core.Logic.{◌⊎◌, inl, inr}
use mathlib.Core.Bool.{Bool, true, false, cond, not, ◌&&◌, ◌||◌}
use mathlib.Core.List.{List, [], ◌∷◌, ◌++◌, map, map-append}
use borrow.Author.Tests.{leb-true, leb-false, ltb-false}
use lib.Dec.{eqb, leb, ltb}
use lib.IntN.{ℤ, pos, ◌+ℤ◌, ◌-ℤ◌}
use lib.ListN.{length, get_or, take}
use lib.Seq.{length-take-le, get_or-take}
use lib.Signed.{le_z}
use Rattle.interval.specs.Instants.{eq_z, greatest}
use Rattle.interval.specs.Conditions.{is_related, ending_of, is_forbidding}
use Rattle.interval.specs.declared.Relation.{Relation}
use Rattle.interval.specs.declared.Ending.{Ending}
use Rattle.interval.specs.declared.Ending.TheVariants.{Before, Within, Together, Either}
use Rattle.interval.specs.declared.Edges.{Edges}
use Rattle.interval.specs.declared.LengthTest.{LengthTest}
use Rattle.interval.proofs.Signed.{◌≤ᶻ◌, never, and_second, eq_true, eq_same, eq_fact, not_eq, lt_true, lt_false, le_true, is_le, le_false, antisym, add_fact, sub_fact}
use Rattle.interval.proofs.Laws.{Ends, related_ends, forbidding_inside}
use Rattle.model.specs.Lists.{keep, some, each, numbers}
use Rattle.model.specs.Recognitions.{Event, Operator, event, related, or, absence, lasting, after, nearest, Arm, only, left, right, delayed, end_by}
use Rattle.model.specs.Order.{since_of, Row, row, none}
use Rattle.model.specs.RowSteps.{leaves, leaf, part, of, fits, forbidden, make, row_at, places, node_row, made_rows, ends_at, numbered}
use Rattle.model.proofs.Sorted.{keep_append}
use Rattle.table.specs.Table.{cell, rows_in}
use Rattle.table.specs.Ends.{ending_before}
use Rattle.table.proofs.Rows.{length_rows, row_at_lem}
use Rattle.table.proofs.Ends.{counted_passes, counted_fails}
use Rattle.table.proofs.EndParts.{ends_low, ends_few}
use Rattle.closing.specs.declared.Taken.{Taken}
use Rattle.closing.specs.declared.Taken.TheVariants.{All, Lasting}
use Rattle.closing.specs.Added.{counted, pending_from, span, when, event_row, event_rows, part_row, is_long, taken_row, taken_rows, or_rows, waited_from, waited_to, delayed_rows, forbids, is_within, is_forbidden, absence_row, absence_rows, top_of, pair_row, right_by, right_from, pairs_of, pairs_with, next_row, least_start, left_by, left_from, pair_rows, added_rows}
use Rattle.closing.proofs.Spans.{each_same, some_same, each_numbered, some_snoc, some_none, each_from, each_upto, span_same, keep_keep, keep_all, some_keep, kept_ones, some_front}
use Rattle.closing.proofs.Grown.{Grown, ends_ordered, all_ordered, of_entry, derived, old_not, pair_at, pair_ends, paired, paired_is, pairs_by, pairs_made, pairs_none, ends_here}
use Rattle.closing.proofs.Nearest.{nearest_derived}
use Rattle.closing.proofs.Searches.{next_none, least_start_lem}
use Rattle.closing.proofs.Laws.{top_le, top_rest}

-- the rows that pass the model's test are those that end at o, as far as they count
counted_made : (x o : ℤ) (rs : List Row) → keep (λ r. le_z x r.start && eq_z r.end o) rs ≡ counted x (keep (λ r. eq_z r.end o) rs)
counted_made x o [] = refl
counted_made x o (r ∷ rs) = go (le_z x r.start) refl (eq_z r.end o) (counted_made x o rs)
  where
    kept : List Row
    kept = keep (λ r. eq_z r.end o) rs

    both : List Row
    both = keep (λ r. le_z x r.start && eq_z r.end o) rs

    go : (b : Bool) → le_z x r.start ≡ b → (d : Bool) → both ≡ counted x kept → cond (b && d) (r ∷ both) both ≡ counted x (cond d (r ∷ kept) kept)
    go true e true h = rw e (ap (◌∷◌ r) h)
    go true e false h = h
    go false e true h = rw e h
    go false e false h = h

module _ (o : ℤ) (m n : ℕ) (t : List ℤ) (g : Grown o m n t) (entry : ℕ) where
  -- the rows from k to before l, and no others, make a row that refers to them alone and ends at the instant
  record Spanned (side : Arm) (k l : ℕ) : Type 0 where
    apart : k ≤ l
    within : l ≤ n
    before : (i : ℕ) → i < k → end_by side (cell t i 4) ≡ o → ⊥
    at : (i : ℕ) → k ≤ i → i < l → end_by side (cell t i 4) ≡ o
    behind : (i : ℕ) → l ≤ i → i < n → end_by side (cell t i 4) ≡ o → ⊥

  -- the new ones, where the row ends as its part does
  new_ones : (side : Arm) → ((e : ℤ) → end_by side e ≡ e) → Spanned side m n
  new_ones side same = record {
    apart = g.few;
    within = omega arith;
    before = λ i h e. omega (arith, g.old i h, eq_fact (sym (same (cell t i 4)) ∙ e));
    at = λ i h k. same (cell t i 4) ∙ g.new i h k;
    behind = λ i h k. absurd (omega arith);
  }

  -- the rows that refer to one row alone, as far as it passes a test
  module _ (side : Arm) (q q' : ℕ → Bool) (same : (i : ℕ) → i < n → q i ≡ q' i) (k l : ℕ) (s : Spanned side k l) where
    abbrev one : ℕ → List Row
    one i = cond (q i) (when (eq_z (node_row (rows_in n t) entry (part side i)).end o) (node_row (rows_in n t) entry (part side i))) []

    one_is : (i : ℕ) → i < n → end_by side (cell t i 4) ≡ o → one i ≡ when (q' i) (part_row side entry o t i)
    unfolding part_row
    one_is i h e = rw (same i h, row_at_lem n i t h, e, eq_same o)

    none_else : (i : ℕ) → i < n → (end_by side (cell t i 4) ≡ o → ⊥) → one i ≡ []
    none_else i h e = rw (row_at_lem n i t h, not_eq (end_by side (cell t i 4)) o e) (go (q i))
      where
        go : (b : Bool) → ◌≡◌ {A = List Row} (cond b [] []) []
        go true = refl
        go false = refl

    parts : keep (λ r. ends_here o r.start r.end) (map (node_row (rows_in n t) entry) (map (part side) (keep q (numbers 0 (length (rows_in n t)))))) ≡ each (λ i. when (q' i) (part_row side entry o t i)) (span k l)
    parts =
        ap (λ x. keep (λ r. ends_here o r.start r.end) (map (node_row (rows_in n t) entry) (map (part side) (keep q (numbers 0 x))))) (length_rows n t)
        ∙ kept_ones (λ r. ends_here o r.start r.end) (node_row (rows_in n t) entry) (part side) q (numbers 0 n)
        ∙ each_from one k n (omega (arith, s.apart, s.within)) (λ i h. none_else i (omega (arith, s.apart, s.within)) (s.before i h))
        ∙ each_upto one k l n s.apart s.within (λ i h j. none_else i j (s.behind i h j))
        ∙ span_same one (λ i. when (q' i) (part_row side entry o t i)) k l (λ i p h. one_is i (omega (arith, s.within)) (s.at i p h))

  taken_derived : (side : Arm) (a : ℕ) (k : Taken) (i j : ℕ) → Spanned side i j → derived g entry (map (part side) (keep (λ i. is_long k (row_at (rows_in n t) i).start (row_at (rows_in n t) i).end) (of (places (rows_in n t)) a (numbers 0 (length (rows_in n t)))))) ≡ taken_rows side entry o (pos a) k i j t
  unfolding taken_rows taken_row
  taken_derived side a k i j s =
      let q : ℕ → Bool = λ i. eqb (row_at (rows_in n t) i).entry a in
      let p : ℕ → Bool = λ i. is_long k (row_at (rows_in n t) i).start (row_at (rows_in n t) i).end in
      ap (λ l. derived g entry (map (part side) l)) (keep_keep p q (numbers 0 (length (rows_in n t))))
      ∙ parts side (λ i. q i && p i) (λ i. eq_z (cell t i 0) (pos a) && is_long k (cell t i 3) (cell t i 4)) (λ i h. ap₂ ◌&&◌ (of_entry g entry a i h) (rw (row_at_lem n i t h))) i j s

  all_derived : (side : Arm) (a i j : ℕ) → Spanned side i j → derived g entry (map (part side) (of (places (rows_in n t)) a (numbers 0 (length (rows_in n t))))) ≡ taken_rows side entry o (pos a) All i j t
  all_derived side a i j s = ap (λ l. derived g entry (map (part side) l)) (sym (keep_all (of (places (rows_in n t)) a (numbers 0 (length (rows_in n t)))))) ∙ taken_derived side a All i j s

  or_derived : (a b : ℕ) → derived g entry (map (part left) (of (places (rows_in n t)) a (numbers 0 (length (rows_in n t)))) ++ map (part right) (of (places (rows_in n t)) b (numbers 0 (length (rows_in n t))))) ≡ or_rows entry o (pos a) (pos b) m n t
  unfolding or_rows
  or_derived a b =
      let xs = map (part left) (of (places (rows_in n t)) a (numbers 0 (length (rows_in n t)))) in
      let ys = map (part right) (of (places (rows_in n t)) b (numbers 0 (length (rows_in n t)))) in
      ap (keep (λ r. ends_here o r.start r.end)) (map-append (node_row (rows_in n t) entry) xs ys)
      ∙ keep_append (λ r. ends_here o r.start r.end) (map (node_row (rows_in n t) entry) xs) (map (node_row (rows_in n t) entry) ys)
      ∙ ap₂ ◌++◌ (all_derived left a m n (new_ones left (λ e. refl))) (all_derived right b m n (new_ones right (λ e. refl)))

  length_derived : (c : LengthTest) (a d : ℕ) → derived g entry (make (places (rows_in n t)) (lasting c a d) [] (numbers 0 (length (rows_in n t)))) ≡ taken_rows left entry o (pos a) (Lasting c d) m n t
  unfolding taken_rows taken_row part_row
  length_derived c a d = taken_derived only a (Lasting c d) m n (new_ones only (λ e. refl))

  -- a delay: the rows that ended d before, found by two searches
  waited : (d : ℕ) → Spanned (delayed d) (waited_from o d n t) (waited_to o d n t)
  waited d =
      let e = o -ℤ pos d in
      let w = sub_fact o (pos d) in
      let f : (i : ℕ) → _ = λ i. add_fact (cell t i 4) (pos d) in
      record {
        apart = ends_low e n t;
        within = ends_few e n t;
        before = λ i h z. omega (arith, lt_true (cell t i 4) e (counted_passes false n e t (all_ordered g) i h), eq_fact z, w, f i);
        at = λ i h k. antisym (cell t i 4 +ℤ pos d) o (omega (arith, le_true (cell t i 4) e (counted_passes true n e t (all_ordered g) i k), w, f i)) (omega (arith, lt_false (cell t i 4) e (counted_fails false n e t (all_ordered g) i h (omega (arith, ends_few e n t))), w, f i));
        behind = λ i h k z. omega (arith, le_false (cell t i 4) e (counted_fails true n e t (all_ordered g) i h k), eq_fact z, w, f i);
      }

  delay_derived : (a d : ℕ) → derived g entry (make (places (rows_in n t)) (after a d) [] (numbers 0 (length (rows_in n t)))) ≡ delayed_rows entry o (pos a) d n t
  unfolding delayed_rows taken_rows taken_row part_row
  delay_derived a d = all_derived (delayed d) a (waited_from o d n t) (waited_to o d n t) (waited d)

  -- the backward search: the rows that it does not look at forbid nothing
  module _ (e : Edges) (b r : ℕ) (hr : r < n) where
    forbids_at : ℕ → Bool
    forbids_at j = forbids e (pos b) (cell t r 3) (cell t r 4) t j

    forbids_late : (j : ℕ) → j < n → forbids_at j ≡ true → cell t r 3 ≤ᶻ cell t j 4
    unfolding forbids_at forbids
    forbids_late j h p =
        let w = forbidding_inside e (cell t r 3) (cell t r 4) (cell t j 3) (cell t j 4) (and_second (eq_z (cell t j 0) (pos b)) _ p) in
        omega (arith, w.start, g.proper j h)

    not_forbidding : (i k : ℕ) → i ≤ k → k < n → le_z (cell t r 3) (cell t k 4) ≡ false → forbids_at i ≡ false
    not_forbidding i k h q w = go (forbids_at i) refl
      where
        go : (d : Bool) → forbids_at i ≡ d → d ≡ false
        go true p = absurd (omega (arith, forbids_late i (omega arith) p, ends_ordered g i k h q, le_false (cell t r 3) (cell t k 4) w))
        go false p = refl

    search_whole : (k : ℕ) → k ≤ n → is_forbidden e (pos b) (cell t r 3) (cell t r 4) t k ≡ some forbids_at (numbers 0 k)
    unfolding is_forbidden is_within forbids_at
    search_whole zero h = refl
    search_whole (suc k) h = go (le_z (cell t r 3) (cell t k 4)) refl (search_whole k (omega arith)) ∙ sym (some_snoc forbids_at 0 k ∙ rw (zero-add k))
      where
        go : (d : Bool) → le_z (cell t r 3) (cell t k 4) ≡ d → is_forbidden e (pos b) (cell t r 3) (cell t r 4) t k ≡ some forbids_at (numbers 0 k) → (d && (forbids_at k || is_forbidden e (pos b) (cell t r 3) (cell t r 4) t k)) ≡ (forbids_at k || some forbids_at (numbers 0 k))
        go true p f = rw f
        go false p f = rw (not_forbidding k k (omega arith) (omega arith) p) (sym (some_none forbids_at 0 k (λ i a z. not_forbidding i k (omega arith) (omega arith) p)))

    forbidden_is : forbidden (places (rows_in n t)) e (of (places (rows_in n t)) b (numbers 0 (length (rows_in n t)))) r ≡ is_forbidden e (pos b) (cell t r 3) (cell t r 4) t (top_of (pos b) n t)
    unfolding forbids_at forbids
    forbidden_is =
        let v = places (rows_in n t) in
        let p : ℕ → Bool = λ s. is_forbidding e (v.start r) (v.end r) (v.start s) (v.end s) in
        let q : ℕ → Bool = λ s. eqb (v.entry s) b in
        some_keep p q (numbers 0 (length (rows_in n t)))
        ∙ ap (λ k. some (λ s. q s && p s) (numbers 0 k)) (length_rows n t)
        ∙ some_same (λ s. q s && p s) forbids_at 0 n (λ s l h. ap₂ ◌&&◌ (of_entry g entry b s (omega arith)) (rw (row_at_lem n r t hr, row_at_lem n s t (omega arith))))
        ∙ some_front forbids_at (top_of (pos b) n t) n (top_le (pos b) t n) (λ i h g. rw (top_rest (pos b) t n i h g))
        ∙ sym (search_whole (top_of (pos b) n t) (top_le (pos b) t n))

  absence_derived : (e : Edges) (a b : ℕ) → derived g entry (make (places (rows_in n t)) (absence e a b) [] (numbers 0 (length (rows_in n t)))) ≡ absence_rows e entry o (pos a) (pos b) m n t
  unfolding absence_rows absence_row part_row
  absence_derived e a b =
      let v = places (rows_in n t) in
      let xs = numbers 0 (length (rows_in n t)) in
      let q : ℕ → Bool = λ i. eqb (v.entry i) a in
      let p : ℕ → Bool = λ i. not (forbidden v e (of v b xs) i) in
      ap (λ l. derived g entry (map (part only) l)) (keep_keep p q xs)
      ∙ parts only (λ i. q i && p i) (λ i. eq_z (cell t i 0) (pos a) && not (is_forbidden e (pos b) (cell t i 3) (cell t i 4) t (top_of (pos b) n t))) (λ i h. ap₂ ◌&&◌ (of_entry g entry a i h) (ap not (forbidden_is e b i h))) m n (new_ones only (λ e. refl))

  -- the events
  event_derived : (k first pending : ℕ) (codes : List ℕ) → pending ≤ length codes → derived g entry (leaves k (numbered o first (take pending codes))) ≡ event_rows entry o k (pending_from first pending) codes
  unfolding event_rows event_row
  event_derived k first pending codes h =
      rw (sub-zero pending)
      (let one : Event → List Row = λ e. cond (eqb e.code k) (when (eq_z e.instant o) (row entry (pos e.serial) none e.instant e.instant)) [] in
      kept_ones (λ r. ends_here o r.start r.end) (node_row (rows_in n t) entry) (λ e. leaf e.serial e.instant) (λ e. eqb e.code k) (numbered o first (take pending codes))
      ∙ each_numbered one o first (take pending codes)
      ∙ ap (λ l. each (λ j. one (record { serial = first + j; code = get_or (take pending codes) j 0; instant = o })) (numbers 0 l)) (length-take-le pending codes h)
      ∙ each_same (λ j. one (record { serial = first + j; code = get_or (take pending codes) j 0; instant = o })) (λ j. when (eqb (get_or codes j 0) k) (row entry (pos (first + j)) none o o)) 0 pending (λ j p q. rw (get_or-take pending codes j 0 (omega arith), eq_same o)))

  -- two operands
  module _ (c : Relation) (a b : ℕ) where
    abbrev fit : ℕ → ℕ → Bool
    fit = fits (places (rows_in n t)) c

    fit_is : (r s : ℕ) → r < n → s < n → fit r s ≡ is_related c (cell t r 3) (cell t r 4) (cell t s 3) (cell t s 4)
    fit_is r s h k = rw (row_at_lem n r t h, row_at_lem n s t k)

    -- where the rows r and s end if they are a pair that ends at the instant
    abbrev EndsBy : Ending → ℕ → ℕ → Type 0
    EndsBy v r s = Ends v (cell t r 4) (cell t s 3) (cell t s 4) o

    -- a pair that is none, or ends elsewhere
    paired_none : (r s : ℕ) → r < n → s < n → (eq_z (cell t s 0) (pos b) ≡ true → EndsBy (ending_of c) r s → ⊥) → paired g entry fit a b r s ≡ []
    paired_none r s h k f = paired_is g entry fit a b r s h k ∙ go (eq_z (cell t s 0) (pos b)) refl (fit r s) refl (eq_z (greatest (cell t r 4) (cell t s 4)) o) refl
      where
        go : (x : Bool) → eq_z (cell t s 0) (pos b) ≡ x → (y : Bool) → fit r s ≡ y → (z : Bool) → eq_z (greatest (cell t r 4) (cell t s 4)) o ≡ z → cond (x && y) (when z (pair_at g entry r s)) [] ≡ []
        go true p true q true e = absurd (f p (related_ends c (cell t r 3) (cell t r 4) (cell t s 3) (cell t s 4) o (g.proper r h) (g.proper s k) (sym (fit_is r s h k) ∙ q) (eq_true (greatest (cell t r 4) (cell t s 4)) o e)))
        go true p true q false e = refl
        go true p false q z e = refl
        go false p y q z e = refl

    paired_new : (r s : ℕ) → r < n → s < n → (m ≤ r) ⊎ (m ≤ s) → paired g entry fit a b r s ≡ pair_row c entry (pos b) r (cell t r 3) (cell t r 4) t s
    unfolding pair_row
    paired_new r s h k w = paired_is g entry fit a b r s h k ∙ rw (fit_is r s h k, pair_ends g entry r s h k w)

    -- where the search for s begins
    record Right (v : Ending) (r k : ℕ) : Type 0 where
      within : k ≤ n
      before : (s : ℕ) → s < k → EndsBy v r s → ⊥
      from : (s : ℕ) → k ≤ s → (m ≤ r) ⊎ (m ≤ s)

    new_only : (v : Ending) (r : ℕ) → ((s : ℕ) → s < m → EndsBy v r s → ⊥) → Right v r m
    new_only v r f = record { within = g.few; before = f; from = λ s h. inr h }

    either_old : {r s : ℕ} → r < m → s < m → (cell t r 4 ≡ o) ⊎ (cell t s 4 ≡ o) → ⊥
    either_old h k (inl e) = old_not g entry _ h e
    either_old h k (inr e) = old_not g entry _ k e

    right_from_lem : (v : Ending) (r : ℕ) → Right v r (right_by v m r)
    right_from_lem Before r = new_only Before r (λ s h w. old_not g entry s h w.0)
    right_from_lem Within r = new_only Within r (λ s h w. old_not g entry s h w.0)
    right_from_lem Together r = new_only Together r (λ s h w. old_not g entry s h w.1)
    right_from_lem Either r = go (leb m r) refl
      where
        go : (x : Bool) → leb m r ≡ x → Right Either r (cond x 0 m)
        go true q = record { within = omega arith; before = λ s h. absurd (omega arith); from = λ s h. inl (leb-true m r q) }
        go false q = new_only Either r (λ s h w. either_old (leb-false m r q) h w)

    inner : (r : ℕ) → r < n → each (paired g entry fit a b r) (numbers 0 n) ≡ pairs_of c entry (pos b) m n t r
    unfolding pairs_of
    inner r h =
        let w = right_from_lem (ending_of c) r in
        each_from (paired g entry fit a b r) (right_from c m r) n w.within (λ s k. paired_none r s h (omega (arith, w.within)) (λ e v. w.before s k v))
        ∙ span_same (paired g entry fit a b r) (pair_row c entry (pos b) r (cell t r 3) (cell t r 4) t) (right_from c m r) n (λ s k l. paired_new r s h l (w.from s k))

    -- where the search for r begins
    record Left (v : Ending) (k : ℕ) : Type 0 where
      within : k ≤ n
      before : (r s : ℕ) → r < k → s < n → eq_z (cell t s 0) (pos b) ≡ true → EndsBy v r s → ⊥

    abbrev first : ℕ
    first = next_row (pos b) m n t

    -- a row of b that ends at the instant is new, and none stands before the first new one
    new_row : (s : ℕ) → s < n → eq_z (cell t s 0) (pos b) ≡ true → cell t s 4 ≡ o → first ≤ s
    new_row s h e w = go (leb m s) refl (leb first s) refl
      where
        go : (x : Bool) → leb m s ≡ x → (y : Bool) → leb first s ≡ y → first ≤ s
        go true p true q = leb-true first s q
        go true p false q = never (sym (next_none (pos b) t m n s (leb-true m s p) (leb-false first s q)) ∙ e)
        go false p y q = absurd (old_not g entry s (leb-false m s p) w)

    none_before : (v : Ending) → Left v 0
    none_before v = record { within = omega arith; before = λ r s h. absurd (omega arith) }

    -- no row r before the first that ends at the start of a new s or later
    reaching : Left Within (ending_before m (least_start (pos b) first n t) t)
    reaching = record {
      within = omega (arith, ends_low (least_start (pos b) first n t) m t, ends_few (least_start (pos b) first n t) m t, g.few);
      before = λ r s h k e w. omega (arith, lt_true (cell t r 4) (least_start (pos b) first n t) (counted_passes false m (least_start (pos b) first n t) t (λ i j p q. is_le (cell t i 4) (cell t j 4) (g.ordered i j p q)) r h), least_start_lem (pos b) t first n s (new_row s k e w.0) k e, w.1);
    }

    left_from_lem : (v : Ending) → Left v (left_from v (pos b) m n t)
    unfolding left_from
    left_from_lem v = go v (ltb first n) refl
      where
        late : ltb first n ≡ false → (s : ℕ) → s < n → eq_z (cell t s 0) (pos b) ≡ true → cell t s 4 ≡ o → ⊥
        late p s k e w = omega (arith, ltb-false first n p, new_row s k e w)

        all : (v : Ending) → ((r s : ℕ) → s < n → eq_z (cell t s 0) (pos b) ≡ true → EndsBy v r s → ⊥) → Left v n
        all v f = record { within = omega arith; before = λ r s h k e w. f r s k e w }

        old : (v : Ending) → ((r s : ℕ) → r < m → s < n → eq_z (cell t s 0) (pos b) ≡ true → EndsBy v r s → ⊥) → Left v m
        old v f = record { within = g.few; before = f }

        either : ltb first n ≡ false → {r s : ℕ} → r < m → s < n → eq_z (cell t s 0) (pos b) ≡ true → (cell t r 4 ≡ o) ⊎ (cell t s 4 ≡ o) → ⊥
        either p h k e (inl w) = old_not g entry _ h w
        either p h k e (inr w) = late p _ k e w

        go : (v : Ending) (x : Bool) → ltb first n ≡ x → Left v (left_by v x (pos b) m n t)
        go Before true p = none_before Before
        go Before false p = all Before (λ r s k e w. late p s k e w.0)
        go Within true p = reaching
        go Within false p = all Within (λ r s k e w. late p s k e w.0)
        go Together true p = old Together (λ r s h k e w. old_not g entry r h w.0)
        go Together false p = all Together (λ r s k e w. late p s k e w.1)
        go Either true p = none_before Either
        go Either false p = old Either (λ r s h k e w. either p h k e w)

    abbrev made : ℕ → List Row
    made = pairs_by g entry fit a b

    pairs_old : (r : ℕ) → r < left_from (ending_of c) (pos b) m n t → made r ≡ []
    pairs_old r h =
        let w = left_from_lem (ending_of c) in
        pairs_none g entry fit a b r (λ s k. paired_none r s (omega (arith, w.within)) k (w.before r s h k))

    pairs_new : (r : ℕ) → r < n → made r ≡ pairs_with c entry (pos a) (pos b) m n t r
    unfolding pairs_with
    pairs_new r h = rw (of_entry g entry a r h, inner r h)

    pair_derived : derived g entry (make (places (rows_in n t)) (related c a b) [] (numbers 0 (length (rows_in n t)))) ≡ pair_rows c entry (pos a) (pos b) m n t
    unfolding pair_rows
    pair_derived =
        pairs_made g entry fit a b
        ∙ each_from made (left_from (ending_of c) (pos b) m n t) n (left_from_lem (ending_of c)).within pairs_old
        ∙ span_same made (pairs_with c entry (pos a) (pos b) m n t) (left_from (ending_of c) (pos b) m n t) n (λ r k h. pairs_new r h)

  -- what an entry makes, before it is put in order
  pub made_is : (op : Operator) (first pending : ℕ) (codes : List ℕ) → pending ≤ length codes → made_rows (record { entry = entry; operator = op; test = ends_here o }) (numbered o first (take pending codes)) (rows_in n t) ≡ added_rows op entry o (pending_from first pending) codes m n t
  unfolding added_rows
  made_is (event k) serial pending codes h = event_derived k serial pending codes h
  made_is (related c a b) _ _ _ _ = pair_derived c a b
  made_is (or a b) _ _ _ _ = or_derived a b
  made_is (absence e a b) _ _ _ _ = absence_derived e a b
  made_is (lasting c a d) _ _ _ _ = length_derived c a d
  made_is (after a d) _ _ _ _ = delay_derived a d
  made_is (nearest c a b) _ _ _ _ = nearest_derived g entry b c a

  -- and what of it counts
  pub counted_is : (since : List ℤ) (op : Operator) (first pending : ℕ) (codes : List ℕ) → pending ≤ length codes → made_rows (record { entry = entry; operator = op; test = ends_at since o entry }) (numbered o first (take pending codes)) (rows_in n t) ≡ counted (since_of since entry) (added_rows op entry o (pending_from first pending) codes m n t)
  counted_is since op first pending codes h =
      counted_made (since_of since entry) o (map (node_row (rows_in n t) entry) (make (places (rows_in n t)) op (numbered o first (take pending codes)) (numbers 0 (length (rows_in n t)))))
      ∙ ap (counted (since_of since entry)) (made_is op first pending codes h)
