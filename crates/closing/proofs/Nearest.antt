-- What `nearest_rows` appends is what the reference model makes of cut and change: a pair whose r ends before the latest start of the old rows of b has a
-- rival of s, no other has one; and no pair of change has a rival of r whose s starts before the first rival of r ends.
use Prim.Native.Nat.{ℕ, ◌+◌, ◌≤◌, ◌<◌}
use native.Mathlib.Omega.{arith}
use mathlib.Core.Path.{◌≡◌, refl, sym, ap, ◌∙◌}
use mathlib.Core.Logic.{◌⊎◌, inl, inr}
use mathlib.Core.Bool.{Bool, true, false, cond, not, ◌&&◌}
use mathlib.Core.List.{List, [], ◌∷◌}
use borrow.Author.Tests.{leb-true, leb-false, ltb-true, ltb-false}
use lib.Dec.{eqb, leb, ltb}
use lib.IntN.{ℤ, pos}
use lib.ListN.{length}
use lib.Signed.{le_z, lt_z}
use Rattle.interval.specs.Instants.{eq_z, greatest}
use Rattle.interval.specs.Conditions.{is_related, is_rival_of_second, is_rival_of_first}
use Rattle.interval.specs.declared.Relation.TheVariants.{Seq}
use Rattle.interval.specs.declared.Nearest.{Nearest}
use Rattle.interval.specs.declared.Nearest.TheVariants.{Cut, Change}
use Rattle.interval.proofs.Signed.{◌≤ᶻ◌, ◌<ᶻ◌, never, and_first, and_second, eq_true, eq_fact, lt_true, lt_false, le_true, le_false, is_lt, is_le}
use Rattle.interval.proofs.Laws as laws
use Rattle.interval.proofs.Laws.{seq_ends, second_told, is_second, first_told, is_first, none_first}
use Rattle.model.specs.Lists.{some, each, numbers}
use Rattle.model.specs.Order.{Row}
use Rattle.model.specs.RowSteps.{of, rival_of_second, rival_of_first, near, pairs, places}
use Rattle.table.specs.Table.{cell, stored_row, rows_in}
use Rattle.table.specs.Ends.{Ordered, ending_before}
use Rattle.table.proofs.Rows.{length_rows, row_at_lem}
use Rattle.table.proofs.Ends.{counted_passes, counted_fails}
use Rattle.table.proofs.EndParts.{ends_low, ends_few}
use Rattle.closing.specs.Added.{span, when, is_later_row, pair_row, top_of, next_row, latest_start, near_from, near_to, limit_by, wanted_by, nearest_row, nearest_pairs, nearest_of, nearest_with, sought_by, nearest_rows}
use Rattle.closing.proofs.Spans.{some_keep, some_same, some_none, none_at, each_from, each_upto, each_none, each_nothing, span_same}
use Rattle.closing.proofs.Grown.{Grown, ends_ordered, derived, of_entry, pair_at, pair_ends, paired, paired_is, pairs_by, pairs_made, pairs_none}
use Rattle.closing.proofs.Searches.{next_none, latest_each, StartsAt, latest_found, NoRival, FirstRival, rival_found}
use Rattle.closing.proofs.Laws.{top_le, top_rest}

module _ {o : ℤ} {m n : ℕ} {t : List ℤ} (g : Grown o m n t) (entry : ℕ) where
  -- the rows of entry k that pass a test: there is one, or none
  abbrev ones : ℕ → List ℕ
  ones k = of (places (rows_in n t)) k (numbers 0 (length (rows_in n t)))

  some_ones : (p : ℕ → Bool) (k : ℕ) → some p (ones k) ≡ some (λ j. eq_z (cell t j 0) (pos k) && p j) (numbers 0 n)
  some_ones p k =
      let q : ℕ → Bool = λ j. eqb ((places (rows_in n t)).entry j) k in
      some_keep p q (numbers 0 (length (rows_in n t)))
      ∙ ap (λ l. some (λ j. q j && p j) (numbers 0 l)) (length_rows n t)
      ∙ some_same (λ j. q j && p j) (λ j. eq_z (cell t j 0) (pos k) && p j) 0 n (λ j l h. ap (λ x. x && p j) (of_entry g entry k j (omega arith)))

  none_there : (p : ℕ → Bool) (k : ℕ) → ((j : ℕ) → j < n → eq_z (cell t j 0) (pos k) ≡ true → p j ≡ true → ⊥) → some p (ones k) ≡ false
  none_there p k f = some_ones p k ∙ some_none (λ j. eq_z (cell t j 0) (pos k) && p j) 0 n (λ j l h. go j (omega arith) (eq_z (cell t j 0) (pos k)) refl (p j) refl)
    where
      go : (j : ℕ) → j < n → (x : Bool) → eq_z (cell t j 0) (pos k) ≡ x → (y : Bool) → p j ≡ y → (x && y) ≡ false
      go j h true e true d = absurd (f j h e d)
      go j h true e false d = refl
      go j h false e y d = refl

  one_there : (p : ℕ → Bool) (k j : ℕ) → j < n → eq_z (cell t j 0) (pos k) ≡ true → p j ≡ true → some p (ones k) ≡ true
  one_there p k j h e d = some_ones p k ∙ go (some (λ j. eq_z (cell t j 0) (pos k) && p j) (numbers 0 n)) refl
    where
      go : (x : Bool) → some (λ j. eq_z (cell t j 0) (pos k) && p j) (numbers 0 n) ≡ x → x ≡ true
      go true z = refl
      go false z = never (sym (none_at (λ j. eq_z (cell t j 0) (pos k) && p j) 0 n z j (omega arith) (omega arith)) ∙ rw (e, d))

  -- a row that ends at the instant is new, and one that ends before it is old
  new_row : (i : ℕ) → cell t i 4 ≡ o → m ≤ i
  new_row i e = go (leb m i) refl
    where
      go : (x : Bool) → leb m i ≡ x → m ≤ i
      go true p = leb-true m i p
      go false p = absurd (omega (arith, g.old i (leb-false m i p), eq_fact e))

  old_row : (i : ℕ) → i < n → cell t i 4 <ᶻ o → i < m
  old_row i h l = go (leb m i) refl
    where
      go : (x : Bool) → leb m i ≡ x → i < m
      go true p = absurd (omega (arith, eq_fact (g.new i (leb-true m i p) h)))
      go false p = leb-false m i p

  olds : Ordered m t
  olds i j h k = is_le (cell t i 4) (cell t j 4) (g.ordered i j h k)

  -- a row that ends later than another stands behind it
  behind : (i j : ℕ) → i < n → j < n → cell t j 4 <ᶻ cell t i 4 → j < i
  behind i j h k l = go (leb i j) refl
    where
      go : (x : Bool) → leb i j ≡ x → j < i
      go true p = absurd (omega (arith, ends_ordered g i j (leb-true i j p) k))
      go false p = leb-false i j p

  module _ (b : ℕ) where
    abbrev first : ℕ
    first = next_row (pos b) m n t

    -- the latest starts of the old rows of b and of the new ones
    abbrev old : ℤ
    old = latest_start (pos b) (cell t 0 4) 0 (top_of (pos b) m t) t

    abbrev new : ℤ
    new = latest_start (pos b) (cell t first 3) first n t

    abbrev from : ℕ
    from = ending_before m old t

    abbrev to : ℕ
    to = ending_before m new t

    few : (e : ℤ) → ending_before m e t ≤ m
    few e = omega (arith, ends_low e m t, ends_few e m t)

    -- an old row of b starts no later than `old`, a new one no later than `new`
    starts_old : (j : ℕ) → j < m → eq_z (cell t j 0) (pos b) ≡ true → cell t j 3 ≤ᶻ old
    starts_old j h e = go (ltb j (top_of (pos b) m t)) refl
      where
        go : (x : Bool) → ltb j (top_of (pos b) m t) ≡ x → cell t j 3 ≤ᶻ old
        go true p = latest_each (pos b) t 0 (cell t 0 4) (top_of (pos b) m t) j (omega arith) (ltb-true j (top_of (pos b) m t) p) e
        go false p = never (sym (top_rest (pos b) t m j (ltb-false j (top_of (pos b) m t) p) h) ∙ e)

    starts_new : (s : ℕ) → m ≤ s → s < n → eq_z (cell t s 0) (pos b) ≡ true → cell t s 3 ≤ᶻ new
    starts_new s h k e = go (leb first s) refl
      where
        go : (x : Bool) → leb first s ≡ x → cell t s 3 ≤ᶻ new
        go true p = latest_each (pos b) t first (cell t first 3) n s (leb-true first s p) k e
        go false p = never (sym (next_none (pos b) t m n s h (leb-false first s p)) ∙ e)

    second_is : (r s j : ℕ) → r < n → s < n → j < n → rival_of_second (places (rows_in n t)) r s j ≡ is_rival_of_second (cell t r 4) (cell t s 4) (cell t j 3) (cell t j 4)
    second_is r s j h k l = rw (row_at_lem n r t h, row_at_lem n s t k, row_at_lem n j t l)

    -- a row that ends before an s that ends at the instant starts
    before_to : (j s : ℕ) → j < n → m ≤ s → s < n → eq_z (cell t s 0) (pos b) ≡ true → cell t j 4 <ᶻ cell t s 3 → j < to
    before_to j s h w k e l = go (ltb j to) refl
      where
        go : (x : Bool) → ltb j to ≡ x → j < to
        go true p = ltb-true j to p
        go false p = absurd (omega (arith, lt_false (cell t j 4) new (counted_fails false m new t olds j (ltb-false j to p) (old_row j h (omega (arith, g.proper s k, eq_fact (g.new s w k))))), starts_new s w k e))

    -- a row j of a is a rival of r: it is a later row, and ends before s starts
    is_later_lem : (a r j : ℕ) → eq_z (cell t j 0) (pos a) ≡ true → cell t r 3 ≤ᶻ cell t j 3 → cell t r 4 <ᶻ cell t j 4 → is_later_row (pos a) (stored_row t r) (stored_row t j) ≡ true
    is_later_lem a r j e p q = rw (e, is_le (cell t r 3) (cell t j 3) p) (is_lt (cell t r 4) (cell t j 4) q)

    rival_is : (c : Nearest) (r s j : ℕ) → r < n → s < n → j < n → rival_of_first (places (rows_in n t)) c r s j ≡ is_rival_of_first c (cell t r 3) (cell t r 4) (cell t s 3) (cell t j 3) (cell t j 4)
    rival_is c r s j h k l = rw (row_at_lem n r t h, row_at_lem n s t k, row_at_lem n j t l)

    -- no rival of r stands where the search for the first found none, or before the first one that it found
    module _ (a r s : ℕ) (hr : r < n) (new-s : m ≤ s) (hs : s < n) (of_b : eq_z (cell t s 0) (pos b) ≡ true) where
      abbrev later : ℕ → Bool
      later j = is_later_row (pos a) (stored_row t r) (stored_row t j)

      no_first : ((j : ℕ) → r + 1 ≤ j → j < to → cell t j 4 <ᶻ cell t s 3 → later j ≡ true → ⊥) → some (rival_of_first (places (rows_in n t)) Change r s) (ones a) ≡ false
      no_first f = none_there (rival_of_first (places (rows_in n t)) Change r s) a (λ j i e d. go j i e (first_told (cell t r 3) (cell t r 4) (cell t s 3) (cell t j 3) (cell t j 4) (sym (rival_is Change r s j hr hs i) ∙ d)))
        where
          go : (j : ℕ) → j < n → eq_z (cell t j 0) (pos a) ≡ true → laws.FirstRival (cell t r 3) (cell t r 4) (cell t s 3) (cell t j 3) (cell t j 4) → ⊥
          go j i e q = f j (omega (arith, behind j r i hr q.later)) (before_to j s i new-s hs of_b q.before) q.before (is_later_lem a r j e q.from q.later)

      a_first : (j : ℕ) → j < n → later j ≡ true → cell t j 4 <ᶻ cell t s 3 → some (rival_of_first (places (rows_in n t)) Change r s) (ones a) ≡ true
      a_first j i p l =
          let e = and_first (eq_z (cell t j 0) (pos a)) (le_z (cell t r 3) (cell t j 3) && lt_z (cell t r 4) (cell t j 4)) p in
          let q = and_second (eq_z (cell t j 0) (pos a)) (le_z (cell t r 3) (cell t j 3) && lt_z (cell t r 4) (cell t j 4)) p in
          one_there (rival_of_first (places (rows_in n t)) Change r s) a j i e
          (rival_is Change r s j hr hs i ∙ is_first (cell t r 3) (cell t r 4) (cell t s 3) (cell t j 3) (cell t j 4) (record { from = le_true (cell t r 3) (cell t j 3) (and_first (le_z (cell t r 3) (cell t j 3)) (lt_z (cell t r 4) (cell t j 4)) q); later = lt_true (cell t r 4) (cell t j 4) (and_second (le_z (cell t r 3) (cell t j 3)) (lt_z (cell t r 4) (cell t j 4)) q); before = l }))

      in_time : le_z (cell t s 3) o ≡ true
      in_time = is_le (cell t s 3) o (omega (arith, g.proper s hs, eq_fact (g.new s new-s hs)))

      -- so s has no rival of r just where it starts no later than the limit
      free : (c : Nearest) → not (some (rival_of_first (places (rows_in n t)) c r s) (ones a)) ≡ le_z (cell t s 3) (limit_by c o (pos a) to t r)
      free Cut = ap not (none_there (rival_of_first (places (rows_in n t)) Cut r s) a (λ j i e d. never (sym (none_first (cell t r 3) (cell t r 4) (cell t s 3) (cell t j 3) (cell t j 4)) ∙ sym (rival_is Cut r s j hr hs i) ∙ d))) ∙ sym in_time
      free Change = go (rival_found (pos a) (stored_row t r) t o (r + 1) to)
        where
          stands : (f : FirstRival (pos a) (stored_row t r) t (r + 1) to (limit_by Change o (pos a) to t r)) (x : Bool) → le_z (cell t s 3) (cell t f.at 4) ≡ x → not (some (rival_of_first (places (rows_in n t)) Change r s) (ones a)) ≡ x
          stands f true p = ap not (no_first (λ j i l d q. never (sym (f.none j i (behind f.at j (omega (arith, f.most, few new, g.few)) (omega (arith, few new, g.few)) (omega (arith, le_true (cell t s 3) (cell t f.at 4) p)))) ∙ q)))
          stands f false p = ap not (a_first f.at (omega (arith, f.most, few new, g.few)) f.is (le_false (cell t s 3) (cell t f.at 4) p))

          go : ((limit_by Change o (pos a) to t r ≡ o) × NoRival (pos a) (stored_row t r) t (r + 1) to) ⊎ FirstRival (pos a) (stored_row t r) t (r + 1) to (limit_by Change o (pos a) to t r) → not (some (rival_of_first (places (rows_in n t)) Change r s) (ones a)) ≡ le_z (cell t s 3) (limit_by Change o (pos a) to t r)
          go (inl f) = ap not (no_first (λ j i l d q. never (sym (f.1 j i l) ∙ q))) ∙ sym (ap (le_z (cell t s 3)) f.0 ∙ in_time)
          go (inr f) = stands f (le_z (cell t s 3) (cell t f.at 4)) refl ∙ ap (le_z (cell t s 3)) f.end

    -- a pair of r and s, by the numbers of the table
    module _ (c : Nearest) (a : ℕ) where
      abbrev is_near : ℕ → ℕ → Bool
      is_near = near (places (rows_in n t)) c (ones a) (ones b)

      abbrev fit : ℕ → ℕ → Bool
      fit r s = is_related Seq (cell t r 3) (cell t r 4) (cell t s 3) (cell t s 4)

      near_is : (r s : ℕ) → r < n → s < n → is_near r s ≡ (fit r s && (not (some (rival_of_second (places (rows_in n t)) r s) (ones b)) && not (some (rival_of_first (places (rows_in n t)) c r s) (ones a))))
      near_is r s h k = rw (row_at_lem n r t h, row_at_lem n s t k)

      -- a pair that is none, ends elsewhere or has a rival
      made_none : (r s : ℕ) → r < n → s < n → (eq_z (cell t s 0) (pos b) ≡ true → cell t s 4 ≡ o → cell t r 4 <ᶻ cell t s 3 → some (rival_of_second (places (rows_in n t)) r s) (ones b) ≡ false → ⊥) → paired g entry is_near a b r s ≡ []
      made_none r s h k f = paired_is g entry is_near a b r s h k ∙ rw (near_is r s h k) (go (eq_z (cell t s 0) (pos b)) refl (fit r s) refl (some (rival_of_second (places (rows_in n t)) r s) (ones b)) refl (eq_z (greatest (cell t r 4) (cell t s 4)) o) refl)
        where
          rest : Bool
          rest = not (some (rival_of_first (places (rows_in n t)) c r s) (ones a))

          last : (x z : Bool) → (z ≡ true → ⊥) → cond x (when z (pair_at g entry r s)) [] ≡ []
          last x true w = absurd (w refl)
          last true false w = refl
          last false false w = refl

          go : (x : Bool) → eq_z (cell t s 0) (pos b) ≡ x → (y : Bool) → fit r s ≡ y → (w : Bool) → some (rival_of_second (places (rows_in n t)) r s) (ones b) ≡ w → (z : Bool) → eq_z (greatest (cell t r 4) (cell t s 4)) o ≡ z → cond (x && (y && (not w && rest))) (when z (pair_at g entry r s)) [] ≡ []
          go true p true q false u z e = last rest z (λ v. let i = seq_ends (cell t r 3) (cell t r 4) (cell t s 3) (cell t s 4) o (g.proper s k) q (eq_true (greatest (cell t r 4) (cell t s 4)) o (e ∙ v)) in f p i.0 i.1 u)
          go true p true q true u z e = refl
          go true p false q w u z e = refl
          go false p y q w u z e = refl

      -- an r that ends before `old` has a rival of every s that ends at the instant
      made_early : (r s : ℕ) → r < from → s < n → paired g entry is_near a b r s ≡ []
      made_early r s h k = made_none r s (omega (arith, few old, g.few)) k (λ e w l u. go u w (latest_found (pos b) t 0 (cell t 0 4) (top_of (pos b) m t)))
        where
          ended : cell t r 4 <ᶻ old
          ended = lt_true (cell t r 4) old (counted_passes false m old t olds r h)

          go : some (rival_of_second (places (rows_in n t)) r s) (ones b) ≡ false → cell t s 4 ≡ o → (old ≡ cell t 0 4) ⊎ StartsAt (pos b) t 0 (top_of (pos b) m t) old → ⊥
          go u w (inl p) = omega (arith, eq_fact p, ended, g.ordered 0 r (omega arith) (omega (arith, few old)))
          go u w (inr (j, i, l, q, p)) =
              let low : j < m = omega (arith, top_le (pos b) t m) in
              let d : is_rival_of_second (cell t r 4) (cell t s 4) (cell t j 3) (cell t j 4) ≡ true = is_second (cell t r 4) (cell t s 4) (cell t j 3) (cell t j 4) (record { after = omega (arith, eq_fact p, ended); sooner = omega (arith, eq_fact w, g.old j low) }) in
              never (sym u ∙ one_there (rival_of_second (places (rows_in n t)) r s) b j (omega (arith, g.few)) q (second_is r s j (omega (arith, few old, g.few)) k (omega (arith, g.few)) ∙ d))

      -- an r that does not end before `new` ends before no s that ends at the instant
      made_late : (r s : ℕ) → to ≤ r → r < n → s < n → paired g entry is_near a b r s ≡ []
      made_late r s h l k = made_none r s l k (λ e w z u. go e w z (leb m r) refl)
        where
          go : eq_z (cell t s 0) (pos b) ≡ true → cell t s 4 ≡ o → cell t r 4 <ᶻ cell t s 3 → (x : Bool) → leb m r ≡ x → ⊥
          go e w z true p = omega (arith, eq_fact (g.new r (leb-true m r p) l), eq_fact w, g.proper s k)
          go e w z false p = omega (arith, lt_false (cell t r 4) new (counted_fails false m new t olds r h (leb-false m r p)), starts_new s (new_row s w) k e)

      -- an r between the two places has no rival of an s that ends at the instant
      no_second : (r s : ℕ) → from ≤ r → r < m → s < n → cell t s 4 ≡ o → some (rival_of_second (places (rows_in n t)) r s) (ones b) ≡ false
      no_second r s h l k w = none_there (rival_of_second (places (rows_in n t)) r s) b (λ j i e d. go j i e (second_told (cell t r 4) (cell t s 4) (cell t j 3) (cell t j 4) (sym (second_is r s j (omega (arith, g.few)) k i) ∙ d)))
        where
          go : (j : ℕ) → j < n → eq_z (cell t j 0) (pos b) ≡ true → laws.SecondRival (cell t r 4) (cell t s 4) (cell t j 3) (cell t j 4) → ⊥
          go j i e q =
              let z = q.after in
              let y = q.sooner in
              omega (arith, starts_old j (old_row j i (omega (arith, eq_fact w))) e, lt_false (cell t r 4) old (counted_fails false m old t olds r h l))

      -- the pairs of r with an s that ends at the instant, as the definition has them
      one_is : (r s : ℕ) → from ≤ r → r < m → m ≤ s → s < n → paired g entry is_near a b r s ≡ nearest_row entry (wanted_by (pos b) t r) (limit_by c o (pos a) to t r) t s
      unfolding nearest_row pair_row
      one_is r s h l w k =
          let hr : r < n = omega (arith, g.few) in
          paired_is g entry is_near a b r s hr k
          ∙ rw (near_is r s hr k, pair_ends g entry r s hr k (inr w), no_second r s h l k (g.new s w k))
          (go (eq_z (cell t s 0) (pos b)) refl (fit r s) (not (some (rival_of_first (places (rows_in n t)) c r s) (ones a))) (le_z (cell t s 3) (limit_by c o (pos a) to t r)) (λ e. free a r s hr w k e c))
        where
          go : (x : Bool) → eq_z (cell t s 0) (pos b) ≡ x → (y u v : Bool) → (eq_z (cell t s 0) (pos b) ≡ true → u ≡ v) → cond (x && (y && u)) (pair_at g entry r s ∷ []) [] ≡ cond v (when (x && y) (pair_at g entry r s)) []
          go true e true u true f = rw (f e)
          go true e true u false f = rw (f e)
          go true e false u true f = refl
          go true e false u false f = refl
          go false e y u true f = refl
          go false e y u false f = refl

      old_none : (r s : ℕ) → r < n → s < m → paired g entry is_near a b r s ≡ []
      old_none r s h k = made_none r s h (omega (arith, g.few)) (λ e w l u. omega (arith, g.old s k, eq_fact w))

      between : (r : ℕ) → from ≤ r → r < to → pairs_by g entry is_near a b r ≡ nearest_with (sought_by c (pos a) (pos b) to) entry o m n t r
      unfolding nearest_with nearest_of nearest_pairs
      between r h l =
          let low : r < m = omega (arith, few new) in
          let hr : r < n = omega (arith, g.few) in
          let inner : each (paired g entry is_near a b r) (numbers 0 n) ≡ each (nearest_row entry (wanted_by (pos b) t r) (limit_by c o (pos a) to t r) t) (span m n) =
          each_from (paired g entry is_near a b r) m n g.few (λ s k. old_none r s hr k)
          ∙ span_same (paired g entry is_near a b r) (nearest_row entry (wanted_by (pos b) t r) (limit_by c o (pos a) to t r) t) m n (λ s w k. one_is r s h low w k) in
          rw (of_entry g entry a r hr, inner)

      abbrev made : ℕ → List Row
      made = pairs_by g entry is_near a b

      early : (r : ℕ) → r < from → made r ≡ []
      early r h = pairs_none g entry is_near a b r (λ s k. made_early r s h k)

      late : (r : ℕ) → to ≤ r → r < n → made r ≡ []
      late r h l = pairs_none g entry is_near a b r (λ s k. made_late r s h l k)

      all_made : each made (numbers 0 n) ≡ each (nearest_with (sought_by c (pos a) (pos b) to) entry o m n t) (span from to)
      all_made = go (leb to from) refl
        where
          go : (x : Bool) → leb to from ≡ x → each made (numbers 0 n) ≡ each (nearest_with (sought_by c (pos a) (pos b) to) entry o m n t) (span from to)
          go true p = each_nothing made n (λ r h. one r h (ltb r from) refl) ∙ sym (each_none (nearest_with (sought_by c (pos a) (pos b) to) entry o m n t) from to (leb-true to from p))
            where
              one : (r : ℕ) → r < n → (y : Bool) → ltb r from ≡ y → made r ≡ []
              one r h true q = early r (ltb-true r from q)
              one r h false q = late r (omega (arith, ltb-false r from q, leb-true to from p)) h
          go false p =
              each_from made from n (omega (arith, few old, g.few)) early
              ∙ each_upto made from to n (omega (arith, leb-false to from p)) (omega (arith, few new, g.few)) (λ r h k. late r h k)
              ∙ span_same made (nearest_with (sought_by c (pos a) (pos b) to) entry o m n t) from to (λ r h l. between r h l)

      -- without a new row of b no pair ends at the instant
      none_new : ltb first n ≡ false → each made (numbers 0 n) ≡ []
      none_new p = each_nothing made n (λ r h. pairs_none g entry is_near a b r (λ s k. made_none r s h k (λ e w l u. never (sym (next_none (pos b) t m n s (new_row s w) (omega (arith, ltb-false first n p))) ∙ e))))

      pub nearest_derived : derived g entry (pairs is_near (ones a) (ones b)) ≡ nearest_rows c entry o (pos a) (pos b) m n t
      unfolding nearest_rows near_from near_to
      nearest_derived = pairs_made g entry is_near a b ∙ go (ltb first n) refl
        where
          go : (x : Bool) → ltb first n ≡ x → each made (numbers 0 n) ≡ cond x (each (nearest_with (sought_by c (pos a) (pos b) to) entry o m n t) (span from to)) []
          go true p = all_made
          go false p = none_new p
