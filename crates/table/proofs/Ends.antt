-- Laws of the binary search by end: what passes at a row passes before it, and how many pass. No code here.
use Prim.Native.Nat.{ℕ, zero, suc, ◌+◌, ◌*◌, ◌≤◌, ◌<◌, min}
use native.Mathlib.Omega.{arith}
use native.Mathlib.Decide.{dec_lt}
use mathlib.Core.Path.{◌≡◌, refl, sym, ap, ◌∙◌}
use mathlib.Core.Bool.{Bool, true, false}
use mathlib.Core.List.{List, [], ◌∷◌}
use lib.IntN.{ℤ, pos}
use lib.ListN.{length, get_or, drop, length-append}
use Rattle.std.proofs.lemmas.List.{get_or-take, get_or-drop}
use Rattle.std.specs.List.Sorted.{IsPartitionedBy, IsPartitionPoint}
use Rattle.std.specs.Simd.{first_chunks}
use lib.Signed.{le_z}
use Rattle.interval.proofs.Signed.{never, signed}
use Rattle.text.proofs.Chunks.{length-chunks, chunk_at}
use Rattle.model.specs.Lists.{keep}
use Rattle.model.specs.Order.{Row}
use Rattle.model.proofs.Sorted.{keep_append}
use Rattle.model.proofs.History.{keep_length}
use Rattle.table.specs.Table.{cell, table_row, rows_in}
use Rattle.table.proofs.Rows.{rows_none, rows_snoc}
use Rattle.table.specs.Ends.{Ordered, ends_before, count_ending}

-- an earlier end passes where a later one does
earlier_passes : (included : Bool) (e a b : ℤ) → le_z a b ≡ true → ends_before included e b ≡ true → ends_before included e a ≡ true
earlier_passes true e a b h p = omega (arith, signed)
earlier_passes false e a b h p = omega (arith, signed)

-- the end of a row that is lent as five numbers
abbrev pub row_end : List ℤ → ℤ
row_end row = get_or row 4 (pos 0)

chunk_end : (rows i : ℕ) (t d : List ℤ) → i < rows → row_end (get_or (first_chunks 5 rows t) i d) ≡ cell t i 4
chunk_end rows i t d h = ap row_end (chunk_at 5 rows t i d h) ∙ get_or-take 5 (drop (i * 5) t) 4 (pos 0) (omega arith) ∙ get_or-drop (i * 5) t 4 (pos 0)

module _ (included : Bool) (rows : ℕ) (e : ℤ) (t : List ℤ) where
  -- how many of the first n rows pass
  abbrev passes : Row → Bool
  passes x = ends_before included e x.end

  count_snoc : (n : ℕ) → length (keep passes (rows_in (suc n) t)) ≡ length (keep passes (rows_in n t)) + length (keep passes (table_row t n ∷ []))
  count_snoc n = ap (λ l. length (keep passes l)) (rows_snoc n t) ∙ ap length (keep_append passes (rows_in n t) (table_row t n ∷ [])) ∙ length-append (keep passes (rows_in n t)) (keep passes (table_row t n ∷ []))

  count_none : length (keep passes (rows_in 0 t)) ≡ 0
  count_none = ap (λ l. length (keep passes l)) (rows_none t)

  -- a search by std finds it: the rows below n pass, those from n on do not
  abbrev pub row_passes : List ℤ → Bool
  row_passes row = ends_before included e (row_end row)

  module _ (n : ℕ) (h : n ≤ rows) (p : IsPartitionPoint (λ row. row_passes row ≡ true) (λ row. row_passes row ≡ false) (first_chunks 5 rows t) n) where
    passes_below : (k : ℕ) → k < n → ends_before included e (cell t k 4) ≡ true
    passes_below k g = ap (ends_before included e) (sym (chunk_end rows k t [] (omega arith))) ∙ p.0 k [] (omega arith) g

    fails_above : (k : ℕ) → n ≤ k → k < rows → ends_before included e (cell t k 4) ≡ false
    fails_above k g i = ap (ends_before included e) (sym (chunk_end rows k t [] i)) ∙ p.1 k [] g (rw (length-chunks 5 rows t) i)

    count_first : (m : ℕ) → m ≤ rows → length (keep passes (rows_in m t)) ≡ min m n
    count_first zero g = count_none ∙ omega arith
    count_first (suc m) g = count_snoc m ∙ go (dec_lt m n) (count_first m (omega arith))
      where
        go : Dec (m < n) → length (keep passes (rows_in m t)) ≡ min m n → length (keep passes (rows_in m t)) + length (keep passes (table_row t m ∷ [])) ≡ min (suc m) n
        go (yes l) r = rw (passes_below m l) (omega arith)
        go (no l) r = rw (fails_above m (omega arith) (omega arith)) (omega arith)

  pub rows_parted : Ordered rows t → IsPartitionedBy row_passes (first_chunks 5 rows t)
  rows_parted o i j d h g p =
      let q : j < rows = rw (length-chunks 5 rows t) at g in
      let f = ends_before included e in
      ap f (chunk_end rows i t d (omega arith)) ∙ earlier_passes included e (cell t i 4) (cell t j 4) (o i j h q) (ap f (sym (chunk_end rows j t d q)) ∙ p)

  pub search_counts : (n : ℕ) → n ≤ length (first_chunks 5 rows t) → IsPartitionPoint (λ row. row_passes row ≡ true) (λ row. row_passes row ≡ false) (first_chunks 5 rows t) n → n ≡ count_ending included rows e t
  search_counts n h p =
      let few : n ≤ rows = rw (length-chunks 5 rows t) at h in
      omega (arith, count_first n few p rows (omega arith))

  -- those that pass are the first ones: no more do than stand before one that does not
  module _ (o : Ordered rows t) (j : ℕ) (f : ends_before included e (cell t j 4) ≡ false) where
    later_fails : (n : ℕ) → j ≤ n → n < rows → ends_before included e (cell t n 4) ≡ false
    later_fails n h g = go (ends_before included e (cell t n 4)) refl
      where
        go : (b : Bool) → ends_before included e (cell t n 4) ≡ b → b ≡ false
        go true p = never (sym f ∙ earlier_passes included e (cell t j 4) (cell t n 4) (o j n h g) p)
        go false p = refl

    count_most : (n : ℕ) → n ≤ rows → length (keep passes (rows_in n t)) ≤ min n j
    count_most zero h = omega (arith, count_none)
    count_most (suc n) h = go (dec_lt n j) (count_most n (omega arith))
      where
        go : Dec (n < j) → length (keep passes (rows_in n t)) ≤ min n j → length (keep passes (rows_in (suc n) t)) ≤ min (suc n) j
        go (yes l) r = omega (arith, count_snoc n, keep_length passes (table_row t n ∷ []))
        go (no l) r = rw (count_snoc n, later_fails n (omega arith) (omega arith)) (omega arith)

  pub counted_passes : Ordered rows t → (j : ℕ) → j < count_ending included rows e t → ends_before included e (cell t j 4) ≡ true
  counted_passes o j g = go (ends_before included e (cell t j 4)) refl
    where
      go : (b : Bool) → ends_before included e (cell t j 4) ≡ b → b ≡ true
      go true p = refl
      go false p = absurd (omega (arith, count_most o j p rows (omega arith)))

  -- and as many do as stand up to one that does
  module _ (o : Ordered rows t) (j : ℕ) (h : j < rows) (p : ends_before included e (cell t j 4) ≡ true) where
    count_least : (n : ℕ) → n ≤ rows → min n (suc j) ≤ length (keep passes (rows_in n t))
    count_least zero g = omega arith
    count_least (suc n) g = go (dec_lt n (suc j)) (count_least n (omega arith))
      where
        go : Dec (n < suc j) → min n (suc j) ≤ length (keep passes (rows_in n t)) → min (suc n) (suc j) ≤ length (keep passes (rows_in (suc n) t))
        go (yes l) r = rw (count_snoc n, earlier_passes included e (cell t n 4) (cell t j 4) (o n j (omega arith) h) p) (omega arith)
        go (no l) r = omega (arith, count_snoc n)

  pub counted_fails : Ordered rows t → (j : ℕ) → count_ending included rows e t ≤ j → j < rows → ends_before included e (cell t j 4) ≡ false
  counted_fails o j g h = go (ends_before included e (cell t j 4)) refl
    where
      go : (b : Bool) → ends_before included e (cell t j 4) ≡ b → b ≡ false
      go true p = absurd (omega (arith, count_least o j h p rows (omega arith)))
      go false p = refl
