-- What a test that the code made tells of the table's numbers, and a turn of each loop over plain variables.
use Prim.Native.Nat.{ℕ, zero, suc, ◌+◌, ◌-◌, ◌≤◌, ◌<◌}
use native.Mathlib.Omega.{arith}
use native.Mathlib.Decide.{ℕ_discrete}
use borrow.Author.Tests.{lt-ltb, le-ltb}
use mathlib.Core.Path.{◌≡◌, refl, sym, ap, ◌∙◌}
use mathlib.Core.Bool.{Bool, true, false, cond}
use mathlib.Core.List.{List, [], ◌∷◌}
use lib.Dec.{ltb}
use lib.IntN.{ℤ}
use lib.Signed.{le_z}
use mir.Syntax.{w32}
use mir.Val.{SFits, to_z, of_z}
use Rattle.interval.proofs.Machine.{same32}
use Rattle.interval.specs.Instants.{eq_z}
use Rattle.interval.proofs.Signed.{never}
use Rattle.interval.specs.declared.Nearest.{Nearest}
use Rattle.interval.specs.declared.Nearest.TheVariants.{Cut, Change}
use Rattle.interval.specs.declared.Relation.{Relation}
use Rattle.interval.specs.declared.Edges.{Edges}
use Rattle.interval.specs.declared.Ending.{Ending}
use Rattle.interval.specs.declared.Ending.TheVariants.{Before, Within, Together, Either}
use Rattle.model.specs.Lists.{each}
use Rattle.model.specs.Recognitions.{Arm, left}
use Rattle.table.specs.Table.{cell, stored_row}
use Rattle.table.specs.declared.Row as stored
use Rattle.table.proofs.EndParts.{ends_low, ends_few}
use Rattle.closing.specs.declared.Sought.{Sought}
use Rattle.closing.specs.declared.Taken.{Taken}
use Rattle.closing.specs.declared.Wanted.{Wanted}
use Rattle.closing.specs.Added.{span, part_row, taken_row, taken_rows, forbids, is_within, is_forbidden, absence_row, top_of, SameTop, is_wanted, pair_row, right_from, pairs_of, pairs_with, next_row, least_start, left_by, left_from, latest_start, near_from, near_to, rival_from, limit_by, nearest_row, nearest_pairs, wanted_by, nearest_of, nearest_with, sought_by, nearest_rows}
use Rattle.closing.proofs.Spans.{span_same}
use Rattle.closing.proofs.Filling.{Kept}

pub within_at : (start : ℤ) (t : List ℤ) (j : ℕ) → (j ≡ 0 → ⊥) → is_within start t j ≡ le_z start (cell t (j - 1) 4)
unfolding is_within
within_at start t zero h = absurd (h refl)
within_at start t (suc j) h = let e : suc j - 1 ≡ j = omega arith in rw e

-- tables whose first n rows agree: each of them makes the same
module _ (n : ℕ) (t u : List ℤ) (k : Kept n t u) (entry : ℕ) where
  pub taken_same : (o : ℤ) (side : Arm) (a : ℤ) (c : Taken) (i : ℕ) → i < n → taken_row side entry o a c t i ≡ taken_row side entry o a c u i
  unfolding taken_row part_row
  taken_same o side a c i h = rw (k i 0 h (omega arith), k i 3 h (omega arith), k i 4 h (omega arith))

  pub takens_same : (o : ℤ) (side : Arm) (a : ℤ) (c : Taken) (m e : ℕ) → e ≤ n → taken_rows side entry o a c m e t ≡ taken_rows side entry o a c m e u
  unfolding taken_rows
  takens_same o side a c m e h = span_same (taken_row side entry o a c t) (taken_row side entry o a c u) m e (λ i p q. taken_same o side a c i (omega arith))

  pub forbids_same : (e : Edges) (b start end : ℤ) (j : ℕ) → j < n → forbids e b start end t j ≡ forbids e b start end u j
  unfolding forbids
  forbids_same e b start end j h = rw (k j 0 h (omega arith), k j 3 h (omega arith), k j 4 h (omega arith))

  pub forbidden_same : (e : Edges) (b start end : ℤ) (j : ℕ) → j ≤ n → is_forbidden e b start end t j ≡ is_forbidden e b start end u j
  unfolding is_forbidden is_within
  forbidden_same e b start end zero h = refl
  forbidden_same e b start end (suc j) h = rw (k j 4 (omega arith) (omega arith), forbids_same e b start end j (omega arith), forbidden_same e b start end j (omega arith))

  pub absence_same : (o : ℤ) (e : Edges) (a b : ℤ) (top i : ℕ) → top ≤ n → i < n → absence_row e entry o a b top t i ≡ absence_row e entry o a b top u i
  unfolding absence_row part_row
  absence_same o e a b top i g h = rw (k i 0 h (omega arith), k i 3 h (omega arith), k i 4 h (omega arith), forbidden_same e b (cell u i 3) (cell u i 4) top g)

  pub pair_same : (c : Relation) (b : ℤ) (r : ℕ) (start end : ℤ) (s : ℕ) → s < n → pair_row c entry b r start end t s ≡ pair_row c entry b r start end u s
  unfolding pair_row
  pair_same c b r start end s h = rw (k s 0 h (omega arith), k s 3 h (omega arith), k s 4 h (omega arith))

  pub pairs_same : (c : Relation) (b : ℤ) (m e r : ℕ) → r < n → e ≤ n → pairs_of c entry b m e t r ≡ pairs_of c entry b m e u r
  unfolding pairs_of
  pairs_same c b m e r h g =
      rw (k r 3 h (omega arith), k r 4 h (omega arith), span_same (pair_row c entry b r (cell u r 3) (cell u r 4) t) (pair_row c entry b r (cell u r 3) (cell u r 4) u) (right_from c m r) e (λ s p q. pair_same c b r (cell u r 3) (cell u r 4) s (omega arith)))

  pub nearest_same : (w : Wanted) (limit : ℤ) (s : ℕ) → s < n → nearest_row entry w limit t s ≡ nearest_row entry w limit u s
  unfolding nearest_row
  nearest_same w limit s h = rw (k s 3 h (omega arith), pair_same w.relation w.operand w.left w.start w.end s h)

  nearests_same : (w : Wanted) (limit : ℤ) (m e : ℕ) → e ≤ n → nearest_pairs entry w limit m e t ≡ nearest_pairs entry w limit m e u
  unfolding nearest_pairs
  nearests_same w limit m e g = span_same (nearest_row entry w limit t) (nearest_row entry w limit u) m e (λ s p q. nearest_same w limit s (omega arith))

  rival_same : (a : ℤ) (r : stored.Row) (x : ℤ) (i j : ℕ) → i + j ≤ n → rival_from a r t x i j ≡ rival_from a r u x i j
  unfolding rival_from
  rival_same a r x i zero h = refl
  rival_same a r x i (suc j) h = rw (k i 0 (omega arith) (omega arith), k i 3 (omega arith) (omega arith), k i 4 (omega arith) (omega arith), rival_same a r x (suc i) j (omega arith))

  limit_same : (c : Nearest) (o a : ℤ) (to r : ℕ) → r < n → to ≤ n → limit_by c o a to t r ≡ limit_by c o a to u r
  limit_same Cut o a to r h g = refl
  limit_same Change o a to r h g = rw (k r 0 h (omega arith), k r 1 h (omega arith), k r 2 h (omega arith), k r 3 h (omega arith), k r 4 h (omega arith)) (rival_same a (stored_row u r) o (r + 1) (to - (r + 1)) (omega arith))

  pub nearest_of_same : (c : Sought) (o : ℤ) (m e r : ℕ) → r < n → c.to ≤ n → e ≤ n → nearest_of c entry o m e t r ≡ nearest_of c entry o m e u r
  unfolding nearest_of
  nearest_of_same c o m e r h g l = rw (k r 3 h (omega arith), k r 4 h (omega arith), limit_same c.nearest o c.a c.to r h g, nearests_same (wanted_by c.b u r) (limit_by c.nearest o c.a c.to u r) m e l)

-- the pairs of a row that is one of a, and of one that is not
module _ (c : Relation) (entry : ℕ) (a b : ℤ) (m n : ℕ) (t : List ℤ) (r : ℕ) where
  pub pairs_with_lem : eq_z (cell t r 0) a ≡ true → pairs_of c entry b m n t r ≡ pairs_with c entry a b m n t r
  unfolding pairs_with
  pairs_with_lem e = rw e

  pub pairs_none : eq_z (cell t r 0) a ≡ false → pairs_with c entry a b m n t r ≡ []
  unfolding pairs_with
  pairs_none e = rw e

-- a row s that is not wanted; one that starts at the limit or before, and one that starts later
module _ (entry : ℕ) (w : Wanted) (t : List ℤ) (s : ℕ) where
  pub pair_other : is_wanted w (stored_row t s) ≡ false → pair_row w.relation entry w.operand w.left w.start w.end t s ≡ []
  unfolding pair_row
  pair_other e = rw e

  module _ (limit : ℤ) where
    pub nearest_in : le_z (cell t s 3) limit ≡ true → pair_row w.relation entry w.operand w.left w.start w.end t s ≡ nearest_row entry w limit t s
    unfolding nearest_row
    nearest_in e = rw e

    pub nearest_late : le_z (cell t s 3) limit ≡ false → nearest_row entry w limit t s ≡ []
    unfolding nearest_row
    nearest_late e = rw e

-- the nearest pairs of a row that is one of a, and of one that is not
module _ (c : Sought) (entry : ℕ) (o : ℤ) (m n : ℕ) (t : List ℤ) (r : ℕ) where
  pub nearest_with_lem : eq_z (cell t r 0) c.a ≡ true → nearest_of c entry o m n t r ≡ nearest_with c entry o m n t r
  unfolding nearest_with
  nearest_with_lem e = rw e

  pub nearest_none : eq_z (cell t r 0) c.a ≡ false → nearest_with c entry o m n t r ≡ []
  unfolding nearest_with
  nearest_none e = rw e

-- all nearest pairs: where a row of b is new, and where none is
module _ (c : Nearest) (entry : ℕ) (o a b : ℤ) (m n : ℕ) (t : List ℤ) where
  pub nearest_new : next_row b m n t < n → each (nearest_with (sought_by c a b (near_to b m n t)) entry o m n t) (span (near_from b m t) (near_to b m n t)) ≡ nearest_rows c entry o a b m n t
  unfolding nearest_rows
  nearest_new h = rw (lt-ltb (next_row b m n t) n h)

  pub nearest_old : n ≤ next_row b m n t → nearest_rows c entry o a b m n t ≡ []
  unfolding nearest_rows
  nearest_old h = rw (le-ltb (next_row b m n t) n h)

-- where the search for r in nearest pairs ends
pub near_le : (b : ℤ) (m n : ℕ) (t : List ℤ) → near_to b m n t ≤ m
unfolding near_to
near_le b m n t = let e = latest_start b (cell t (next_row b m n t) 3) (next_row b m n t) n t in omega (arith, ends_low e m t, ends_few e m t)

-- where the search for r begins
pub left_le : (v : Ending) (b : ℤ) (m n : ℕ) (t : List ℤ) → m ≤ n → left_from v b m n t ≤ n
unfolding left_from
left_le v b m n t h = go v (ltb (next_row b m n t) n)
  where
    go : (v : Ending) (x : Bool) → left_by v x b m n t ≤ n
    go Before true = omega arith
    go Before false = omega arith
    go Within true = let e = least_start b (next_row b m n t) n t in omega (arith, ends_low e m t, ends_few e m t)
    go Within false = omega arith
    go Together true = omega arith
    go Together false = omega arith
    go Either true = omega arith
    go Either false = omega arith

-- the place behind the last row of b
module _ (b : ℤ) (t : List ℤ) where
  pub top_le : (n : ℕ) → top_of b n t ≤ n
  unfolding top_of
  top_le zero = omega arith
  top_le (suc n) = go (eq_z (cell t n 0) b) (top_le n)
    where
      go : (x : Bool) → top_of b n t ≤ n → cond x (suc n) (top_of b n t) ≤ suc n
      go true h = omega arith
      go false h = omega arith

  pub top_rest : (n i : ℕ) → top_of b n t ≤ i → i < n → eq_z (cell t i 0) b ≡ false
  unfolding top_of
  top_rest zero i h g = absurd (omega arith)
  top_rest (suc n) i h g = go (eq_z (cell t n 0) b) refl (top_rest n i) h
    where
      go : (x : Bool) → eq_z (cell t n 0) b ≡ x → (top_of b n t ≤ i → i < n → eq_z (cell t i 0) b ≡ false) → cond x (suc n) (top_of b n t) ≤ i → eq_z (cell t i 0) b ≡ false
      go true e f k = absurd (omega arith)
      go false e f k = last (ℕ_discrete i n)
        where
          last : Dec (i ≡ n) → eq_z (cell t i 0) b ≡ false
          last (yes q) = rw q e
          last (no q) = f k (omega arith)

  pub top_here : (j : ℕ) → 0 < j → eq_z (cell t (j - 1) 0) b ≡ true → top_of b j t ≡ j
  unfolding top_of
  top_here zero h e = absurd (omega arith)
  top_here (suc j) h e = let z : suc j - 1 ≡ j = omega arith in rw (rw z at e)

  -- a row passed
  top_lower : (j : ℕ) → 0 < j → eq_z (cell t (j - 1) 0) b ≡ false → top_of b (j - 1) t ≡ top_of b j t
  unfolding top_of
  top_lower zero h e = absurd (omega arith)
  top_lower (suc j) h e = let z : suc j - 1 ≡ j = omega arith in rw (rw z at e, z)

  pub same_top : (n j k : ℕ) → SameTop b n t j → 0 < j → k ≡ j - 1 → eq_z (cell t k 0) b ≡ false → SameTop b n t k
  same_top n j k f h s e = record { most = omega (arith, f.most); same = ap (λ x. top_of b x t) s ∙ top_lower j h (ap (λ x. eq_z (cell t x 0) b) (sym s) ∙ e) ∙ f.same }

  pub top_none : (j : ℕ) → j ≤ 0 → top_of b j t ≡ j
  unfolding top_of
  top_none zero h = refl
  top_none (suc j) h = absurd (omega arith)

-- a start or an end that was read from the table
pub read_back : (z w : ℤ) → SFits w32 z → z ≡ w → to_z w32 (of_z w32 z) ≡ w
read_back z w f e = same32 z f ∙ e

-- the search for a forbidding row: one found, one passed, none left
module _ (e : Edges) (b start end : ℤ) (t : List ℤ) where
  pub within_some : (j : ℕ) → is_within start t j ≡ true → 0 < j
  unfolding is_within
  within_some zero h = never h
  within_some (suc j) h = omega arith

  pub forbidden_one : (j : ℕ) → is_within start t j ≡ true → forbids e b start end t (j - 1) ≡ true → is_forbidden e b start end t j ≡ true
  unfolding is_forbidden
  forbidden_one zero h g = absurd (omega (arith, within_some 0 h))
  forbidden_one (suc j) h g = let z : suc j - 1 ≡ j = omega arith in rw (h, rw z at g)

  pub forbidden_on : (j : ℕ) → is_within start t j ≡ true → forbids e b start end t (j - 1) ≡ false → is_forbidden e b start end t j ≡ is_forbidden e b start end t (j - 1)
  unfolding is_forbidden
  forbidden_on zero h g = absurd (omega (arith, within_some 0 h))
  forbidden_on (suc j) h g = let z : suc j - 1 ≡ j = omega arith in rw (h, rw z at g, z)

  pub forbidden_end : (j : ℕ) → is_within start t j ≡ false → is_forbidden e b start end t j ≡ false
  unfolding is_forbidden
  forbidden_end zero h = refl
  forbidden_end (suc j) h = rw h

-- a candidate i that is none of a, is forbidden, or stands
module _ (e : Edges) (entry : ℕ) (o a b : ℤ) (n : ℕ) (t : List ℤ) (i : ℕ) where
  pub absence_other : eq_z (cell t i 0) a ≡ false → absence_row e entry o a b n t i ≡ []
  unfolding absence_row
  absence_other h = rw h

  module _ (start end : ℤ) (s : start ≡ cell t i 3) (z : end ≡ cell t i 4) (h : eq_z (cell t i 0) a ≡ true) where
    pub absence_forbidden : is_forbidden e b start end t n ≡ true → absence_row e entry o a b n t i ≡ []
    unfolding absence_row
    absence_forbidden g = rw (h, rw (s, z) at g)

    pub absence_stands : is_forbidden e b start end t n ≡ false → part_row left entry o t i ∷ [] ≡ absence_row e entry o a b n t i
    unfolding absence_row
    absence_stands g = rw (h, rw (s, z) at g)
