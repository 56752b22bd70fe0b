-- The walk over the rows: before the first, one row more, past the last. No code here.
use Prim.Native.Nat.{ℕ, zero, suc, ◌+◌, ◌-◌, ◌*◌, ◌%◌, ◌≤◌, ◌<◌}
use native.Mathlib.Omega.{arith}
use native.Mathlib.Decide.{ℕ_discrete}
use native.Mathlib.Numerals.{add-one}
use mathlib.Core.Path.{◌≡◌, refl, sym, ap, ◌∙◌}
use mathlib.Core.Bool.{Bool, true, false}
use mathlib.Core.List.{List, [], ◌∷◌, ◌++◌, map, map-append}
use lib.IntN.{ℤ, pos, nat_abs}
use lib.ListN.{length, get_or, take, drop, length-set}
use lib.Seq.{take_all, get_or-drop, drop-drop, drop-set-lt}
use lib.Signed.{lt_z, le_z}
use Rattle.interval.proofs.Signed.{signed}
use Rattle.model.specs.Lists.{keep}
use Rattle.model.specs.Order.{Row, row}
use Rattle.model.specs.RowSteps.{row_at, is_late, moved}
use Rattle.table.specs.Table.{cell, table_row, rows_in, put_row}
use Rattle.table.proofs.Rows.{rows_none, rows_snoc, length_rows, row_at_lem, length_put, rows_put, drop_put}
use Rattle.forgetting.specs.Walk.{shift_at, place_at, plain, plain_rows, marked, with_references, moved_row, kept_by, RowsReady, AllLate, Movable, Sifted}
use Rattle.forgetting.proofs.References.{references_same, references_id}
use Rattle.forgetting.proofs.Places.{keep_pass, keep_fail, placed_pass, placed_fail, placed_le, placed_grows, placed_still}
use Rattle.forgetting.proofs.Marks.{low_of, plain_low, plain_references, pos_above, set_head, set_own, set_cell, set_rows, Goes, put_marks}

-- a row as forgetting writes it, and the rows written before row i is looked at
abbrev written : (ℕ → Bool) → ℤ → List Row → Row → Row
written event f rs r = with_references (event r.entry) (moved f rs) r

abbrev pub done_rows : (ℕ → Bool) → ℤ → List Row → ℕ → List Row
done_rows event f rs i = map (written event f rs) (keep (is_late f) (take i rs))

-- the walk at row i: p rows are kept; which rows these are, what lies behind, and the marks of the rows passed
pub record Walked (event : ℕ → Bool) (f : ℤ) (rows : ℕ) (t₀ : List ℤ) (i p : ℕ) (t : List ℤ) : Type 0 where
  pub within : i ≤ rows
  pub low : p ≤ i
  pub count : p ≡ moved f (rows_in rows t₀) i
  pub size : length t ≡ length t₀
  pub done : plain_rows p t ≡ done_rows event f (rows_in rows t₀) i
  pub behind : drop (i * 5) t ≡ drop (i * 5) t₀
  pub marks : (j : ℕ) → j < i → Goes t j (moved f (rows_in rows t₀) j)

-- what lies behind one row more
drop_more : (i : ℕ) (s t : List ℤ) → drop (i * 5) s ≡ drop (i * 5) t → drop ((i + 1) * 5) s ≡ drop ((i + 1) * 5) t
drop_more i s t e =
    let q : (i + 1) * 5 ≡ i * 5 + 5 = omega arith in
    rw q (sym (drop-drop 5 (i * 5) s) ∙ ap (drop 5) e ∙ drop-drop 5 (i * 5) t)

module _ {event : ℕ → Bool} (f : ℤ) {rows : ℕ} {t₀ : List ℤ} (ok : RowsReady event rows t₀) where
  abbrev moves : Row → Row
  moves = written event f (rows_in rows t₀)

  module _ (i : ℕ) (h : i < rows) where
    row_now : row_at (rows_in rows t₀) i ≡ table_row t₀ i
    row_now = row_at_lem rows i t₀ h

    inside : i < length (rows_in rows t₀)
    inside = rw (length_rows rows t₀) h

    start : (b : Bool) → le_z f (cell t₀ i 3) ≡ b → is_late f (row_at (rows_in rows t₀) i) ≡ b
    start b e = ap (is_late f) row_now ∙ e

    done_late : le_z f (cell t₀ i 3) ≡ true → done_rows event f (rows_in rows t₀) (i + 1) ≡ done_rows event f (rows_in rows t₀) i ++ (moves (table_row t₀ i) ∷ [])
    done_late e =
        ap (map moves) (keep_pass (is_late f) (rows_in rows t₀) i inside (start true e) ∙ ap (λ r. keep (is_late f) (take i (rows_in rows t₀)) ++ (r ∷ [])) row_now)
        ∙ map-append moves (keep (is_late f) (take i (rows_in rows t₀))) (table_row t₀ i ∷ [])

    done_early : le_z f (cell t₀ i 3) ≡ false → done_rows event f (rows_in rows t₀) (i + 1) ≡ done_rows event f (rows_in rows t₀) i
    done_early e = ap (map moves) (keep_fail (is_late f) (rows_in rows t₀) i inside (start false e))

    -- a row that keeps its number, as do those before it
    moves_still : ((j : ℕ) → j < i → moved f (rows_in rows t₀) j ≡ j) → moves (table_row t₀ i) ≡ table_row t₀ i
    moves_still still =
        let r = table_row t₀ i in
        references_same (event r.entry) (moved f (rows_in rows t₀)) (λ j. j) i r (ok.each i h).left (ok.each i h).right still
        ∙ references_id (event r.entry) r

    walk_still : Walked event f rows t₀ i i t₀ → le_z f (cell t₀ i 3) ≡ true → Walked event f rows t₀ (i + 1) (i + 1) t₀
    walk_still w e =
        let rs = rows_in rows t₀ in
        let r = table_row t₀ i in
        let still : (j : ℕ) → j ≤ i → moved f rs j ≡ j = λ j l. placed_still (is_late f) rs i j l (sym w.count) in
        record {
          within = omega arith;
          low = omega arith;
          count = omega (arith, w.count, placed_pass (is_late f) rs i inside (start true e));
          size = refl;
          done = rw (add-one i, rows_snoc i t₀, map-append plain (rows_in i t₀) (r ∷ []), ← add-one i, done_late e, w.done, moves_still (λ j l. still j (omega arith)), plain_low r (ok.each i h).below);
          behind = refl;
          marks = λ j l. ((ok.each j (omega arith)).above, omega (arith, still j (omega arith), (ok.each j (omega arith)).below));
        }

  -- before the first row that is dropped
  pub walk_holds : (n : ℕ) → n ≤ rows → AllLate f n t₀ → Walked event f rows t₀ n n t₀
  walk_holds zero h late = record { within = h; low = omega arith; count = refl; size = refl; done = ap (map plain) (rows_none t₀); behind = refl; marks = λ j g. absurd (omega arith) }
  walk_holds (suc n) h late = rw (add-one n) at (walk_still n (omega arith) (walk_holds n (omega arith) (λ j g. late j (omega arith))) (late n (omega arith)))

  module _ {i p : ℕ} {t : List ℤ} (w : Walked event f rows t₀ i p t) (h : i < rows) where
    -- row i is as it was
    cells : (k : ℕ) → cell t i k ≡ cell t₀ i k
    cells k = sym (get_or-drop (i * 5) t k (pos 0)) ∙ ap (λ l. get_or l k (pos 0)) w.behind ∙ get_or-drop (i * 5) t₀ k (pos 0)

    small : nat_abs (cell t i 0) < 32
    small = rw (cells 0) (ok.each i h).below

    -- the mark, 32 times the rows dropped, and the table with it
    abbrev m : ℕ
    m = (i - p) * 32

    abbrev mark : ℤ
    mark = pos (nat_abs (cell t i 0) + m)

    abbrev after : List ℤ
    after = marked i m t

    own_mark : cell after i 0 ≡ mark
    own_mark = set_head t i mark (omega (arith, ok.fit, w.size))

    own : (k : ℕ) → 0 < k → cell after i k ≡ cell t₀ i k
    own k l = set_own t i mark k l ∙ cells k

    marks_all : (j : ℕ) → j < i + 1 → Goes after j (moved f (rows_in rows t₀) j)
    marks_all j l = go (ℕ_discrete j i)
      where
        go : Dec (j ≡ i) → Goes after j (moved f (rows_in rows t₀) j)
        go (yes q) = rw (q, own_mark) (pos_above (nat_abs (cell t i 0) + m), omega (arith, w.count, w.low, small))
        go (no d) = rw (set_cell t i mark j 0 (omega arith) d) (w.marks j (omega arith))

    pub walk_small : (e : ℕ) → e ≡ nat_abs (cell t i 0) → e < 32
    walk_small e x = rw x small

    pub walk_asks : (e : ℕ) (b : Bool) (u : List ℤ) → e ≡ nat_abs (cell t i 0) → b ≡ event e → u ≡ after → Movable b i p e u
    walk_asks e b u x q y = rw (q, x, y) (record {
      few = omega (arith, ok.few);
      fit = omega (arith, ok.fit, w.size, length-set t (i * 5) mark);
      lower = w.low;
      small = small;
      left = λ q. rw (own 1 (omega arith)) ((ok.each i h).left (ap (λ z. event (nat_abs z)) (sym (cells 0)) ∙ q));
      right = rw (own 2 (omega arith)) (ok.each i h).right;
      marks = λ j l. record {
        entry = record { few = omega (arith, ok.few); fit = omega (arith, ok.fit, w.size, length-set t (i * 5) mark); above = (marks_all j l).0 };
        lower = omega (arith, (marks_all j l).1);
      };
    })

    abbrev put : Row
    put = moved_row (event (nat_abs (cell t i 0))) i p (nat_abs (cell t i 0)) after

    -- the row as it is written is the one that forgetting asks for, but for the mark
    row_moved : plain put ≡ moves (table_row t₀ i)
    row_moved =
        let e = nat_abs (cell t i 0) in
        let g = place_at after in
        let r = table_row t₀ i in
        let same : e ≡ r.entry = ap nat_abs (cells 0) in
        let is : row ((e + shift_at after p * 32) % 32) (cell after i 1) (cell after i 2) (cell after i 3) (cell after i 4) ≡ r = rw (low_of e (shift_at after p) small, own 1 (omega arith), own 2 (omega arith), own 3 (omega arith), own 4 (omega arith), same) in
        plain_references (event e) g (row (e + shift_at after p * 32) (cell after i 1) (cell after i 2) (cell after i 3) (cell after i 4))
        ∙ ap (with_references (event e) g) is
        ∙ ap (λ k. with_references (event k) g r) same
        ∙ references_same (event r.entry) g (moved f (rows_in rows t₀)) i r (ok.each i h).left (ok.each i h).right (λ j l. omega (arith, (marks_all j (omega arith)).1))

    put_is : put.entry ≡ nat_abs (cell t i 0) + shift_at after p * 32
    put_is = go (event (nat_abs (cell t i 0)))
      where
        go : (b : Bool) → (with_references b (place_at after) (row (nat_abs (cell t i 0) + shift_at after p * 32) (cell after i 1) (cell after i 2) (cell after i 3) (cell after i 4))).entry ≡ nat_abs (cell t i 0) + shift_at after p * 32
        go true = refl
        go false = refl

    room : p * 5 + 5 ≤ length after
    room = omega (arith, ok.fit, w.size, length-set t (i * 5) mark, w.low)

    behind_mark : drop ((i + 1) * 5) after ≡ drop ((i + 1) * 5) t₀
    behind_mark = drop-set-lt ((i + 1) * 5) t (i * 5) mark (omega arith) ∙ drop_more i t t₀ w.behind

    -- one row more: kept
    walk_late : le_z f (cell after i 3) ≡ true → Walked event f rows t₀ (i + 1) (p + 1) (put_row p put after)
    walk_late q =
        let rs = rows_in rows t₀ in
        let e = nat_abs (cell t i 0) in
        let late : le_z f (cell t₀ i 3) ≡ true = rw (own 3 (omega arith)) at q in
        record {
          within = omega arith;
          low = omega (arith, w.low);
          count = omega (arith, w.count, placed_pass (is_late f) rs i (inside i h) (start i h true late));
          size = length_put p put after ∙ length-set t (i * 5) mark ∙ w.size;
          done =
              ap (λ k. plain_rows k (put_row p put after)) (add-one p)
              ∙ ap (map plain) (rows_put p put after room)
              ∙ map-append plain (rows_in p after) (put ∷ [])
              ∙ rw (set_rows t i mark p w.low, w.done, row_moved) (sym (done_late i h late));
          behind = drop_put p ((i + 1) * 5) put after (omega (arith, w.low)) ∙ behind_mark;
          marks = λ j l. put_marks after p put e small put_is room j _ (marks_all j l);
        }

    -- or dropped
    walk_early : le_z f (cell after i 3) ≡ false → Walked event f rows t₀ (i + 1) p after
    walk_early q =
        let rs = rows_in rows t₀ in
        let early : le_z f (cell t₀ i 3) ≡ false = rw (own 3 (omega arith)) at q in
        record {
          within = omega arith;
          low = omega (arith, w.low);
          count = w.count ∙ sym (placed_fail (is_late f) rs i (inside i h) (start i h false early));
          size = length-set t (i * 5) mark ∙ w.size;
          done = ap (map plain) (set_rows t i mark p w.low) ∙ w.done ∙ sym (done_early i h early);
          behind = behind_mark;
          marks = marks_all;
        }

    pub walk_kept : (e : ℕ) (b : Bool) (u v : List ℤ) → e ≡ nat_abs (cell t i 0) → b ≡ event e → u ≡ after → lt_z (cell u i 3) f ≡ false → v ≡ put_row p (moved_row b i p e u) u → Walked event f rows t₀ (i + 1) (p + 1) v
    walk_kept e b u v x d y q z =
        let late : le_z f (cell after i 3) ≡ true = rw (← y) (omega (arith, signed)) in
        rw (z, d, x, y) (walk_late late)

    pub walk_dropped : (u : List ℤ) → u ≡ after → lt_z (cell u i 3) f ≡ true → Walked event f rows t₀ (i + 1) p u
    walk_dropped u y q =
        let early : le_z f (cell after i 3) ≡ false = rw (← y) (omega (arith, signed)) in
        rw y (walk_early early)

  -- past the last row
  module _ {first i p : ℕ} {t : List ℤ} (w : Walked event f rows t₀ i p t) (e : i ≡ rows) (few : first ≤ rows) (late : AllLate f first t₀) where
    all_done : done_rows event f (rows_in rows t₀) i ≡ kept_by event f (rows_in rows t₀)
    unfolding kept_by
    all_done = rw (take_all i (rows_in rows t₀) (omega (arith, length_rows rows t₀)))

    pub walk_ends : Sifted event f first rows t₀ p t
    walk_ends =
        let rs = rows_in rows t₀ in
        let start = (walk_holds first few late).count in
        record {
          most = omega (arith, w.count, placed_le (is_late f) rs i);
          kept = w.done ∙ all_done;
          rest = rw (← e) w.behind;
          ready = record {
            low = omega (arith, w.count, placed_grows (is_late f) rs i first (omega arith), start);
            few = omega (arith, w.count, placed_le (is_late f) rs i, ok.few);
            fit = omega (arith, w.count, placed_le (is_late f) rs i, ok.fit, w.size);
            above = λ j l. (w.marks j (omega (arith, w.count, placed_le (is_late f) rs i))).0;
            plain = λ j l. omega (arith, (w.marks j (omega arith)).1, placed_still (is_late f) rs first j (omega arith) (sym start));
          };
        }
