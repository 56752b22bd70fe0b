-- Rows stand by end, so that those with one end are a part of the table. No code here.
use Prim.Native.Nat.{ℕ, zero, suc, ◌+◌, ◌*◌, ◌≤◌, ◌<◌}
use native.Mathlib.Omega.{arith}
use mathlib.Core.Path.{◌≡◌, refl, sym, ap, ap₂, ◌∙◌}
use mathlib.Core.Bool.{Bool, true, false, cond}
use mathlib.Core.List.{List, [], ◌∷◌, ◌++◌, map, append_assoc}
use lib.IntN.{ℤ, pos}
use lib.ListN.{length, take, drop, take-append-drop}
use lib.Seq.{slice, take_at, drop_at, drop-cons, length-take-le}
use lib.Signed.{le_z, lt_z}
use Rattle.interval.specs.Instants.{eq_z}
use Rattle.interval.proofs.Signed.{◌<ᶻ◌, signed, is_lt, not_le, not_eq, eq_fact}
use Rattle.interval.proofs.Machine.{pos_of}
use Rattle.model.specs.Lists.{keep, numbers}
use Rattle.model.specs.Order.{Row}
use Rattle.model.proofs.History.{keep_length}
use Rattle.table.specs.Table.{cell, table_row, rows_in, cells_of, flat, part}
use Rattle.table.proofs.Rows.{rows_none, rows_numbers, rows_snoc, length_rows, length_flat, flat_none, flat_append, flat_snoc}
use Rattle.table.specs.Ends.{Ordered, ending_before, ending_by}

-- each end is z or later, and none is before the one in front of it
Rising : ℤ → List Row → Type 0
Rising z [] = Unit {0}
Rising z (r ∷ rs) = (le_z z r.end ≡ true) × Rising r.end rs

-- rows by how their end stands to e
module _ (e : ℤ) where
  abbrev earlier : Row → Bool
  earlier r = lt_z r.end e

  abbrev not_later : Row → Bool
  not_later r = le_z r.end e

  abbrev at_end : Row → Bool
  at_end r = eq_z r.end e

  -- a row that ends before e ends at e or before
  keep_fewer : (rs : List Row) → length (keep earlier rs) ≤ length (keep not_later rs)
  keep_fewer [] = omega arith
  keep_fewer (r ∷ rs) = go (lt_z r.end e) refl (le_z r.end e) refl (keep_fewer rs)
    where
      go : (a : Bool) → lt_z r.end e ≡ a → (b : Bool) → le_z r.end e ≡ b → length (keep earlier rs) ≤ length (keep not_later rs) → length (cond a (r ∷ keep earlier rs) (keep earlier rs)) ≤ length (cond b (r ∷ keep not_later rs) (keep not_later rs))
      go true p true q h = omega arith
      go true p false q h = absurd (omega (arith, signed))
      go false p true q h = omega arith
      go false p false q h = h

  -- from a row that ends at e or later on none ends before e, and from one that ends later on none ends at e
  none_earlier : (z : ℤ) (rs : List Row) → Rising z rs → le_z e z ≡ true → keep earlier rs ≡ []
  unfolding Rising
  none_earlier z [] h g = refl
  none_earlier z (r ∷ rs) h g =
      let a : le_z z r.end ≡ true = h.0 in
      let b : lt_z r.end e ≡ false = omega (arith, signed) in
      rw b (none_earlier r.end rs h.1 (omega (arith, signed)))

  none_at : (z : ℤ) (rs : List Row) → Rising z rs → lt_z e z ≡ true → (keep not_later rs ≡ []) × (keep at_end rs ≡ [])
  unfolding Rising
  none_at z [] h g = (refl, refl)
  none_at z (r ∷ rs) h g =
      let a : le_z z r.end ≡ true = h.0 in
      let past : e <ᶻ r.end = omega (arith, signed) in
      let p = none_at r.end rs h.1 (is_lt e r.end past) in
      (rw (not_le r.end e past) p.0, rw (not_eq r.end e (λ q. omega (arith, eq_fact q))) p.1)

  -- so those that end at e are consecutive
  consecutive : (z : ℤ) (rs : List Row) → Rising z rs → slice (length (keep earlier rs)) (length (keep not_later rs)) rs ≡ keep at_end rs
  unfolding Rising
  consecutive z [] h = refl
  consecutive z (r ∷ rs) h = go (lt_z r.end e) refl (le_z r.end e) refl (consecutive r.end rs h.1)
    where
      go : (a : Bool) → lt_z r.end e ≡ a → (b : Bool) → le_z r.end e ≡ b → slice (length (keep earlier rs)) (length (keep not_later rs)) rs ≡ keep at_end rs → slice (length (cond a (r ∷ keep earlier rs) (keep earlier rs))) (length (cond b (r ∷ keep not_later rs) (keep not_later rs))) (r ∷ rs) ≡ keep at_end (r ∷ rs)
      go true p true q g = rw (not_eq r.end e (λ m. omega (arith, signed, eq_fact m))) g
      go true p false q g = absurd (omega (arith, signed))
      go false p true q g =
          let n = none_earlier r.end rs h.1 (omega (arith, signed)) in
          let s : eq_z r.end e ≡ true = omega (arith, signed) in
          rw (n, s) (ap (λ l. r ∷ l) (rw n at g))
      go false p false q g =
          let m : lt_z e r.end ≡ true = omega (arith, signed) in
          let k = none_at r.end rs h.1 m in
          let n = none_earlier r.end rs h.1 (omega (arith, signed)) in
          rw (n, k.0, k.1, not_eq r.end e (λ d. omega (arith, signed, eq_fact d)))

-- the rows of a table that is consistent are so
rising_from : (rows : ℕ) (t : List ℤ) → Ordered rows t → (n s : ℕ) (z : ℤ) → s + n ≤ rows → (0 < n → le_z z (cell t s 4) ≡ true) → Rising z (map (table_row t) (numbers s n))
unfolding Rising
rising_from rows t o zero s z h g = tt
rising_from rows t o (suc n) s z h g = (g (omega arith), rising_from rows t o n (suc s) (cell t s 4) (omega arith) (λ k. o s (suc s) (omega arith) (omega arith)))

rows_rise : (rows : ℕ) (t : List ℤ) → Ordered rows t → Rising (cell t 0 4) (rows_in rows t)
rows_rise rows t o = rw (rows_numbers rows t) (rising_from rows t o rows 0 (cell t 0 4) (omega arith) (λ k. omega (arith, signed)))

-- a table is the numbers of its rows, and what follows them
next_cell : (n k : ℕ) (t : List ℤ) → n * 5 + k < length t → drop (n * 5 + k) t ≡ cell t n k ∷ drop (n * 5 + (k + 1)) t
next_cell n k t h =
    let e : suc (n * 5 + k) ≡ n * 5 + (k + 1) = omega arith in
    drop-cons t (n * 5 + k) (pos 0) h ∙ ap (λ m. cell t n k ∷ drop m t) e

one_row : (n : ℕ) (t : List ℤ) → n * 5 + 5 ≤ length t → le_z (pos 0) (cell t n 0) ≡ true → cells_of (table_row t n) ++ drop (n * 5 + 5) t ≡ drop (n * 5) t
one_row n t h e =
    let z : n * 5 ≡ n * 5 + 0 = omega arith in
    let a = next_cell n 0 t (omega arith) in
    let b = next_cell n 1 t (omega arith) in
    let c = next_cell n 2 t (omega arith) in
    let d = next_cell n 3 t (omega arith) in
    let f = next_cell n 4 t (omega arith) in
    ap (λ y. y ∷ cell t n 1 ∷ cell t n 2 ∷ cell t n 3 ∷ cell t n 4 ∷ drop (n * 5 + 5) t) (pos_of (cell t n 0) e)
    ∙ sym (ap (λ m. drop m t) z ∙ a ∙ ap (λ l. cell t n 0 ∷ l) (b ∙ ap (λ l. cell t n 1 ∷ l) (c ∙ ap (λ l. cell t n 2 ∷ l) (d ∙ ap (λ l. cell t n 3 ∷ l) f))))

rows_flat_out : (n : ℕ) (t : List ℤ) → n * 5 ≤ length t → ((i : ℕ) → i < n → le_z (pos 0) (cell t i 0) ≡ true) → flat (rows_in n t) ++ drop (n * 5) t ≡ t
rows_flat_out zero t h e = rw (rows_none t, flat_none)
rows_flat_out (suc n) t h e =
    let r = table_row t n in
    let w : suc n * 5 ≡ n * 5 + 5 = omega arith in
    ap₂ (λ l k. flat l ++ drop k t) (rows_snoc n t) w
    ∙ ap (λ l. l ++ drop (n * 5 + 5) t) (flat_snoc (rows_in n t) r)
    ∙ append_assoc (flat (rows_in n t)) (cells_of r) (drop (n * 5 + 5) t)
    ∙ ap (λ l. flat (rows_in n t) ++ l) (one_row n t (omega arith) (e n (omega arith)))
    ∙ rows_flat_out n t (omega arith) (λ i g. e i (omega arith))

-- a part of the rows is that part of their numbers
slice_flat : (rs : List Row) (u : List ℤ) (a b : ℕ) → a ≤ b → b ≤ length rs → slice (a * 5) (b * 5) (flat rs ++ u) ≡ flat (slice a b rs)
slice_flat rs u a b h g =
    let p = take b rs in
    let size : length p ≡ b = length-take-le b rs g in
    let first : take (b * 5) (flat rs ++ u) ≡ flat p = ap (λ l. take (b * 5) (l ++ u)) (ap flat (sym (take-append-drop b rs)) ∙ flat_append p (drop b rs)) ∙ ap (take (b * 5)) (append_assoc (flat p) (flat (drop b rs)) u) ∙ take_at (flat p) (flat (drop b rs) ++ u) (b * 5) (length_flat p ∙ ap (λ n. n * 5) size) in
    let q = take a p in
    let less : length q ≡ a = length-take-le a p (omega arith) in
    ap (drop (a * 5)) (first ∙ ap flat (sym (take-append-drop a p)) ∙ flat_append q (drop a p)) ∙ drop_at (flat q) (flat (drop a p)) (a * 5) (length_flat q ∙ ap (λ n. n * 5) less)

-- the rows that end at e, as a part of the table
module _ (e : ℤ) (rows : ℕ) (t : List ℤ) where
  pub ends_low : ending_before rows e t ≤ ending_by rows e t
  ends_low = keep_fewer e (rows_in rows t)

  pub ends_few : ending_by rows e t ≤ rows
  ends_few = omega (arith, keep_length (not_later e) (rows_in rows t), length_rows rows t)

  pub end_part : rows * 5 ≤ length t → Ordered rows t → ((i : ℕ) → i < rows → le_z (pos 0) (cell t i 0) ≡ true) → part (ending_before rows e t * 5) (ending_by rows e t * 5) t ≡ flat (keep (at_end e) (rows_in rows t))
  end_part h o above =
      let a = ending_before rows e t in
      let b = ending_by rows e t in
      let rs = rows_in rows t in
      ap (slice (a * 5) (b * 5)) (sym (rows_flat_out rows t h above)) ∙ slice_flat rs (drop (rows * 5) t) a b ends_low (omega (arith, ends_few, length_rows rows t)) ∙ ap flat (consecutive e (cell t 0 4) rs (rows_rise rows t o))
