-- The instants from which the entries count: they do not fall, and stay so when the open instant rises and when entries are added.
use Prim.Native.Nat.{ℕ, zero, suc, ◌+◌, ◌<◌, ◌≤◌}
use native.Mathlib.Omega.{arith}
use mathlib.Core.Path.{◌≡◌, refl}
use mathlib.Core.List.{List, [], ◌∷◌, ◌++◌}
use lib.Dec.{T}
use lib.IntN.{ℤ, pos}
use lib.ListN.{length, replicate, get_or-append}
use lib.Signed.{le_z}
use Rattle.interval.proofs.Signed.{◌≤ᶻ◌, le_z→, →le_z}
use Rattle.model.specs.Order.{since_of}
use Rattle.model.specs.Consistency.{is_rising}
use Rattle.model.proofs.Sorted.{T_and, and_T}

pub since_old : (since more : List ℤ) (n : ℕ) → n < length since → since_of (since ++ more) n ≡ since_of since n
since_old since more n l = get_or-append since more (pos 0) n l

pub since_new : (since : List ℤ) (k : ℕ) (o : ℤ) (n : ℕ) → length since ≤ n → n < length since + k → since_of (since ++ replicate k o) n ≡ o
since_new [] zero o n a b = absurd (omega arith)
since_new [] (suc k) o zero a b = refl
since_new [] (suc k) o (suc n) a b = since_new [] k o n (omega arith) (omega arith)
since_new (s ∷ since) k o zero a b = absurd (omega arith)
since_new (s ∷ since) k o (suc n) a b = since_new since k o n (omega arith) (omega arith)

pub rising_least : (a o : ℤ) (ss : List ℤ) → T (is_rising a o ss) → (n : ℕ) → n < length ss → a ≤ᶻ since_of ss n
unfolding is_rising
rising_least a o [] h n l = absurd (omega arith)
rising_least a o (s ∷ ss) h zero l = le_z→ a s (T_and (le_z a s) (is_rising s o ss) h).0
rising_least a o (s ∷ ss) h (suc n) l =
    let p = T_and (le_z a s) (is_rising s o ss) h in
    omega (arith, le_z→ a s p.0, rising_least s o ss p.1 n (omega arith))

pub rising_at : (a o : ℤ) (ss : List ℤ) → T (is_rising a o ss) → (k n : ℕ) → k < n → n < length ss → since_of ss k ≤ᶻ since_of ss n
unfolding is_rising
rising_at a o [] h k n l m = absurd (omega arith)
rising_at a o (s ∷ ss) h k zero l m = absurd (omega arith)
rising_at a o (s ∷ ss) h zero (suc n) l m = rising_least s o ss (T_and (le_z a s) (is_rising s o ss) h).1 n (omega arith)
rising_at a o (s ∷ ss) h (suc k) (suc n) l m = rising_at s o ss (T_and (le_z a s) (is_rising s o ss) h).1 k n (omega arith) (omega arith)

pub rising_more : (a o t : ℤ) (ss : List ℤ) → o ≤ᶻ t → T (is_rising a o ss) → T (is_rising a t ss)
unfolding is_rising
rising_more a o t [] l h = →le_z a t (omega (arith, le_z→ a o h))
rising_more a o t (s ∷ ss) l h = let p = T_and (le_z a s) (is_rising s o ss) h in and_T (le_z a s) (is_rising s t ss) p.0 (rising_more s o t ss l p.1)

pub rising_start : (a o : ℤ) (k : ℕ) → a ≤ᶻ o → T (is_rising a o (replicate k a))
unfolding is_rising
rising_start a o zero l = →le_z a o l
rising_start a o (suc k) l = and_T (le_z a a) (is_rising a o (replicate k a)) (→le_z a a (omega arith)) (rising_start a o k l)

pub rising_add : (a o : ℤ) (ss : List ℤ) (k : ℕ) → T (is_rising a o ss) → T (is_rising a o (ss ++ replicate k o))
unfolding is_rising
rising_add a o [] zero h = h
rising_add a o [] (suc k) h = and_T (le_z a o) (is_rising o o (replicate k o)) h (rising_start o o k (omega arith))
rising_add a o (s ∷ ss) k h = let p = T_and (le_z a s) (is_rising s o ss) h in and_T (le_z a s) (is_rising s o (ss ++ replicate k o)) p.0 (rising_add s o ss k p.1)
