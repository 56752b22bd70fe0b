-- Laws of a table being filled: one row, one list after another, where all fit and where not.
use Prim.Native.Nat.{ℕ, suc, ◌+◌, ◌-◌, ◌≤◌, ◌<◌}
use native.Mathlib.Omega.{arith}
use native.Mathlib.Nat.{add-zero}
use mathlib.Core.Path.{◌≡◌, refl, sym, ap, ◌∙◌}
use mathlib.Core.Bool.{Bool, true, false, cond}
use mathlib.Core.List.{List, [], ◌∷◌, ◌++◌}
use borrow.Author.Tests.{lt-ltb, le-ltb, ltb-true, ltb-false}
use lib.Dec.{ltb}
use lib.IntN.{ℤ}
use lib.ListN.{length, take}
use Rattle.model.specs.Order.{Row}
use Rattle.table.specs.Table.{cell, filled, fill, put_row, put_rows}
use Rattle.table.proofs.Rows.{length_put, cell_other}

-- nothing to append; one row with room; one row without
pub fill_none : (room n : ℕ) (t : List ℤ) → fill room n [] t ≡ filled n t
unfolding fill
fill_none room n t = refl

pub fill_room : (room n : ℕ) (r : Row) (rs : List Row) (t : List ℤ) → n < room → fill room n (r ∷ rs) t ≡ fill room (suc n) rs (put_row n r t)
unfolding fill
fill_room room n r rs t h = rw (lt-ltb n room h)

pub fill_over : (room n : ℕ) (r : Row) (rs : List Row) (t : List ℤ) → room ≤ n → fill room n (r ∷ rs) t ≡ filled (suc room) t
unfolding fill
fill_over room n r rs t h = rw (le-ltb n room h)

-- all fit
pub fill_fits : (room n : ℕ) (rs : List Row) (t : List ℤ) → n + length rs ≤ room → fill room n rs t ≡ filled (n + length rs) (put_rows n rs t)
unfolding fill put_rows
fill_fits room n [] t h = ap (λ k. filled k t) (sym (add-zero n))
fill_fits room n (r ∷ rs) t h =
    let e : suc n + length rs ≡ n + suc (length rs) = omega arith in
    rw (lt-ltb n room (omega arith)) (fill_fits room (suc n) rs (put_row n r t) (omega arith) ∙ ap (λ k. filled k (put_rows (suc n) rs (put_row n r t))) e)

-- not all fit: those that do are there
pub fill_full : (room n : ℕ) (rs : List Row) (t : List ℤ) → n ≤ room → room < n + length rs → fill room n rs t ≡ filled (suc room) (put_rows n (take (room - n) rs) t)
unfolding fill put_rows
fill_full room n [] t g h = absurd (omega arith)
fill_full room n (r ∷ rs) t g h = go (ltb n room) refl (fill_full room (suc n) rs (put_row n r t))
  where
    go : (b : Bool) → ltb n room ≡ b → (suc n ≤ room → room < suc n + length rs → fill room (suc n) rs (put_row n r t) ≡ filled (suc room) (put_rows (suc n) (take (room - suc n) rs) (put_row n r t))) → cond b (fill room (suc n) rs (put_row n r t)) (filled (suc room) t) ≡ filled (suc room) (put_rows n (take (room - n) (r ∷ rs)) t)
    go true e f =
        let p = ltb-true n room e in
        let q : room - n ≡ suc (room - suc n) = omega arith in
        rw q (f (omega arith) (omega arith))
    go false e f =
        let p = ltb-false n room e in
        let q : room - n ≡ 0 = omega arith in
        rw q

-- how many rows there are then
pub fill_count_least : (room n : ℕ) (rs : List Row) (t : List ℤ) → n ≤ room → n ≤ (fill room n rs t).count
unfolding fill
fill_count_least room n [] t g = omega arith
fill_count_least room n (r ∷ rs) t g = go (ltb n room) refl (fill_count_least room (suc n) rs (put_row n r t))
  where
    go : (b : Bool) → ltb n room ≡ b → (suc n ≤ room → suc n ≤ (fill room (suc n) rs (put_row n r t)).count) → n ≤ (cond b (fill room (suc n) rs (put_row n r t)) (filled (suc room) t)).count
    go true e f = let p = f (omega (arith, ltb-true n room e)) in omega arith
    go false e f = omega arith

pub fill_count_most : (room n : ℕ) (rs : List Row) (t : List ℤ) → n ≤ room → (fill room n rs t).count ≤ suc room
unfolding fill
fill_count_most room n [] t g = omega arith
fill_count_most room n (r ∷ rs) t g = go (ltb n room) refl (fill_count_most room (suc n) rs (put_row n r t))
  where
    go : (b : Bool) → ltb n room ≡ b → (suc n ≤ room → (fill room (suc n) rs (put_row n r t)).count ≤ suc room) → (cond b (fill room (suc n) rs (put_row n r t)) (filled (suc room) t)).count ≤ suc room
    go true e f = f (omega (arith, ltb-true n room e))
    go false e f = omega arith

-- one list and then another, as long as the first fits
pub fill_append : (room n : ℕ) (rs qs : List Row) (t : List ℤ) → n ≤ room → (fill room n rs t).count ≤ room → fill room n (rs ++ qs) t ≡ fill room (fill room n rs t).count qs (fill room n rs t).table
unfolding fill
fill_append room n [] qs t g h = refl
fill_append room n (r ∷ rs) qs t g h = go (ltb n room) refl (fill_append room (suc n) rs qs (put_row n r t)) h
  where
    go : (b : Bool) → ltb n room ≡ b → (suc n ≤ room → (fill room (suc n) rs (put_row n r t)).count ≤ room → fill room (suc n) (rs ++ qs) (put_row n r t) ≡ fill room (fill room (suc n) rs (put_row n r t)).count qs (fill room (suc n) rs (put_row n r t)).table) → (cond b (fill room (suc n) rs (put_row n r t)) (filled (suc room) t)).count ≤ room → cond b (fill room (suc n) (rs ++ qs) (put_row n r t)) (filled (suc room) t) ≡ (let f = cond b (fill room (suc n) rs (put_row n r t)) (filled (suc room) t) in fill room f.count qs f.table)
    go true e f k = f (omega (arith, ltb-true n room e)) k
    go false e f k = absurd (omega arith)

pub fill_append_full : (room n : ℕ) (rs qs : List Row) (t : List ℤ) → n ≤ room → room < (fill room n rs t).count → fill room n (rs ++ qs) t ≡ fill room n rs t
unfolding fill
fill_append_full room n [] qs t g h = absurd (omega arith)
fill_append_full room n (r ∷ rs) qs t g h = go (ltb n room) refl (fill_append_full room (suc n) rs qs (put_row n r t)) h
  where
    go : (b : Bool) → ltb n room ≡ b → (suc n ≤ room → room < (fill room (suc n) rs (put_row n r t)).count → fill room (suc n) (rs ++ qs) (put_row n r t) ≡ fill room (suc n) rs (put_row n r t)) → room < (cond b (fill room (suc n) rs (put_row n r t)) (filled (suc room) t)).count → cond b (fill room (suc n) (rs ++ qs) (put_row n r t)) (filled (suc room) t) ≡ cond b (fill room (suc n) rs (put_row n r t)) (filled (suc room) t)
    go true e f k = f (omega (arith, ltb-true n room e)) k
    go false e f k = refl

-- filling keeps the rows there were, and the length
pub fill_kept : (room n : ℕ) (rs : List Row) (t : List ℤ) (i k : ℕ) → i < n → k < 5 → cell (fill room n rs t).table i k ≡ cell t i k
unfolding fill
fill_kept room n [] t i k h g = refl
fill_kept room n (r ∷ rs) t i k h g = go (ltb n room) (fill_kept room (suc n) rs (put_row n r t) i k (omega arith) g)
  where
    go : (b : Bool) → cell (fill room (suc n) rs (put_row n r t)).table i k ≡ cell (put_row n r t) i k → cell (cond b (fill room (suc n) rs (put_row n r t)) (filled (suc room) t)).table i k ≡ cell t i k
    go true e = e ∙ cell_other n i k r t g (λ p. omega arith)
    go false e = refl

pub fill_length : (room n : ℕ) (rs : List Row) (t : List ℤ) → length (fill room n rs t).table ≡ length t
unfolding fill
fill_length room n [] t = refl
fill_length room n (r ∷ rs) t = go (ltb n room) (fill_length room (suc n) rs (put_row n r t))
  where
    go : (b : Bool) → length (fill room (suc n) rs (put_row n r t)).table ≡ length (put_row n r t) → length (cond b (fill room (suc n) rs (put_row n r t)) (filled (suc room) t)).table ≡ length t
    go true e = e ∙ length_put n r t
    go false e = refl
