-- Laws of the table: zeros, rows read, rows put, rows appended.
use Prim.Native.Nat.{ℕ, zero, suc, ◌+◌, ◌-◌, ◌≤◌, ◌<◌}
use native.Mathlib.Omega.{arith}
use native.Mathlib.Nat.{sub_self}
use native.Mathlib.Numerals.{add-one}
use mathlib.Core.Path.{◌≡◌, refl, sym, ap, ap₂, ◌∙◌}
use mathlib.Core.Bool.{true, false}
use mathlib.Core.List.{List, [], ◌∷◌, ◌++◌, append_assoc}
use lib.IntN.{ℤ, pos}
use lib.ListN.{length, get_or, take, drop, set, replicate, length-append, length-take, length-drop, length-replicate, take-append-drop, replicate-append-replicate}
use lib.Seq.{slice, slice-cons, slice_empty, length-slice, take-take, drop-cons, set_at}
use Rattle.interval.specs.Instants.{eq_z}
use Rattle.interval.proofs.Signed.{and_first, and_second, eq_true}
use Rattle.model.specs.Lists.{every}
use Rattle.table.specs.Table.{are_zeros, zeroed}

-- zeros from a to before e
pub zeros_on : (a e : ℕ) (t : List ℤ) → a < e → e ≤ length t → eq_z (get_or t a (pos 0)) (pos 0) ≡ true → are_zeros a e t ≡ are_zeros (a + 1) e t
unfolding are_zeros
zeros_on a e t h g z = rw (add-one, slice-cons a e t (pos 0) h g, z)

pub zeros_not : (a e : ℕ) (t : List ℤ) → a < e → e ≤ length t → eq_z (get_or t a (pos 0)) (pos 0) ≡ false → are_zeros a e t ≡ false
unfolding are_zeros
zeros_not a e t h g z = rw (slice-cons a e t (pos 0) h g, z)

pub zeros_end : (e : ℕ) (t : List ℤ) → are_zeros e e t ≡ true
unfolding are_zeros
zeros_end e t = rw (slice_empty e t)

every_zero : (n : ℕ) → every (λ z. eq_z z (pos 0)) (replicate n (pos 0)) ≡ true
every_zero zero = refl
every_zero (suc n) = every_zero n

pub zeros_part : (a e n : ℕ) (t : List ℤ) → slice a e t ≡ replicate n (pos 0) → are_zeros a e t ≡ true
unfolding are_zeros
zeros_part a e n t h = ap (every (λ z. eq_z z (pos 0))) h ∙ every_zero n

pub zeroed_is : (a e : ℕ) (t : List ℤ) → zeroed a e t ≡ take a t ++ (replicate (e - a) (pos 0) ++ drop e t)
unfolding zeroed
zeroed_is a e t = refl

pub zero_none : (a : ℕ) (t : List ℤ) → a ≤ length t → zeroed a a t ≡ t
unfolding zeroed
zero_none a t h = rw (sub_self a) (take-append-drop a t)

pub zero_step : (a i : ℕ) (t : List ℤ) → a ≤ i → i < length t → set (zeroed a i t) i (pos 0) ≡ zeroed a (i + 1) t
unfolding zeroed
zero_step a i t h g =
    let z = pos 0 in
    let zs = replicate (i - a) z in
    let p = take a t ++ zs in
    let ys = drop (suc i) t in
    let size : length p ≡ i = simp (length-append, length-take, length-replicate) (omega arith) in
    let one : i + 1 - a ≡ i - a + 1 = omega arith in
    let cut : take a t ++ (zs ++ drop i t) ≡ p ++ get_or t i z ∷ ys = rw (drop-cons t i z g) (sym (append_assoc (take a t) zs (get_or t i z ∷ ys))) in
    let more : zs ++ z ∷ ys ≡ replicate (i + 1 - a) z ++ ys = rw (one, ← replicate-append-replicate (i - a) 1 z) (sym (append_assoc zs (z ∷ []) ys)) in
    ap (λ l. set l i z) cut ∙ set_at p (get_or t i z) ys z i size ∙ append_assoc (take a t) zs (z ∷ ys) ∙ rw (more, add-one)

pub length_zeroed : (a e : ℕ) (t : List ℤ) → a ≤ e → e ≤ length t → length (zeroed a e t) ≡ length t
unfolding zeroed
length_zeroed a e t h g = simp (length-append, length-take, length-drop, length-replicate) (omega arith)

-- zeros in two tables that agree before and behind them
pub zeroed_same : (a e : ℕ) (s t : List ℤ) → take a s ≡ take a t → drop e s ≡ drop e t → zeroed a e s ≡ zeroed a e t
unfolding zeroed
zeroed_same a e s t p q = rw (p, q)

-- zeros where there are zeros already
all_zeros : (xs : List ℤ) → every (λ z. eq_z z (pos 0)) xs ≡ true → xs ≡ replicate (length xs) (pos 0)
all_zeros [] h = refl
all_zeros (x ∷ xs) h = ap₂ ◌∷◌ (eq_true x (pos 0) (and_first (eq_z x (pos 0)) (every (λ z. eq_z z (pos 0)) xs) h)) (all_zeros xs (and_second (eq_z x (pos 0)) (every (λ z. eq_z z (pos 0)) xs) h))

pub zeroed_again : (a e : ℕ) (t : List ℤ) → a ≤ e → e ≤ length t → are_zeros a e t ≡ true → zeroed a e t ≡ t
unfolding are_zeros zeroed
zeroed_again a e t h k z =
    let zeros : slice a e t ≡ replicate (e - a) (pos 0) = rw (length-slice a e t k) at (all_zeros (slice a e t) z) in
    let front : take a t ++ slice a e t ≡ take e t = ap (λ l. l ++ slice a e t) (sym (take-take a e t h)) ∙ take-append-drop a (take e t) in
    rw (← zeros) (sym (append_assoc (take a t) (slice a e t) (drop e t)) ∙ ap (λ l. l ++ drop e t) front ∙ take-append-drop e t)
