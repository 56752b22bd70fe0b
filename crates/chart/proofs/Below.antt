-- A test of all numbers below a bound: at one of them, one more, and one that fails.
use Rattle.std.proofs.Common.{ℕ, zero, suc, ◌+◌, ◌<◌, ◌≡◌, refl, Bool, true, false, List, length, get_or, arith, add-one}
use native.Mathlib.Decide.{ℕ_discrete}
use Rattle.std.specs.List.{list_all, enumerate_from}
use Rattle.std.proofs.lemmas.Bool.{and_parts, false_from_ne_true, both_ways}
use Rattle.std.proofs.lemmas.Bool.Decides.{same_from_decides}
use Rattle.std.proofs.lemmas.List.FromFn.{length-enumerate_from, get_or-enumerate_from}
use Rattle.std.proofs.lemmas.List.Recursion.{and_at, and_from_places}
use Rattle.chart.specs.Charts.{all_below}

pub at_place : (n : ℕ) (p : ℕ → Bool) → all_below n p ≡ true → (i : ℕ) → i < n → p i ≡ true
unfolding all_below
at_place zero p e i h = absurd (omega arith)
at_place (suc n) p e i h = go (ℕ_discrete i n) (at_place n p (and_parts _ _ e).1 i)
  where
    go : Dec (i ≡ n) → (i < n → p i ≡ true) → p i ≡ true
    go (yes q) f = rw q (and_parts _ _ e).0
    go (no q) f = f (omega arith)

pub none_below : (p : ℕ → Bool) → all_below 0 p ≡ true
unfolding all_below
none_below p = refl

pub one_more : (n : ℕ) (p : ℕ → Bool) → all_below n p ≡ true → p n ≡ true → all_below (n + 1) p ≡ true
unfolding all_below
one_more n p e h = rw (add-one, h, e)

pub all_below_lem : (n : ℕ) (p : ℕ → Bool) → ((i : ℕ) → i < n → p i ≡ true) → all_below n p ≡ true
unfolding all_below
all_below_lem zero p h = refl
all_below_lem (suc n) p h = rw (h n (omega arith), all_below_lem n p (λ i g. h i (omega arith)))

-- one fails
pub not_all : (n : ℕ) (p : ℕ → Bool) (i : ℕ) → i < n → p i ≡ false → all_below n p ≡ false
not_all n p i h e = false_from_ne_true _ (λ q. both_ways _ e (at_place n p q i h))

-- the same test, said otherwise
pub same_below : (n : ℕ) (p q : ℕ → Bool) → ((i : ℕ) → i < n → p i ≡ q i) → all_below n p ≡ all_below n q
unfolding all_below
same_below zero p q h = refl
same_below (suc n) p q h = rw (h n (omega arith), same_below n p q (λ i g. h i (omega arith)))

-- a test of the elements of a list, each with its place
module _ {X : Type 0} (q : ℕ → X → Bool) (xs : List X) (d : X) where
  abbrev pub test : ℕ × X → Bool
  test p = q p.0 p.1

  pub each_below : list_all test (enumerate_from 0 xs) ≡ all_below (length xs) (λ i. q i (get_or xs i d))
  each_below = same_from_decides _ _ (listed, λ f. and_from_places (list_all test) test refl (λ _ _. refl) (enumerate_from 0 xs) (0, d) (unlisted f)) (λ e i h. at_place (length xs) (λ i. q i (get_or xs i d)) e i h, λ f. all_below_lem (length xs) (λ i. q i (get_or xs i d)) f)
    where
      listed : list_all test (enumerate_from 0 xs) ≡ true → (i : ℕ) → i < length xs → q i (get_or xs i d) ≡ true
      listed e i h =
          let p = and_at (list_all test) test refl (λ _ _. refl) (enumerate_from 0 xs) i (0, d) (omega (arith, length-enumerate_from 0 xs)) e in
          let z : 0 + i ≡ i = omega arith in
          rw (get_or-enumerate_from 0 xs i (0, d) h, z) at p

      unlisted : ((i : ℕ) → i < length xs → q i (get_or xs i d) ≡ true) → (i : ℕ) → i < length (enumerate_from 0 xs) → test (get_or (enumerate_from 0 xs) i (0, d)) ≡ true
      unlisted f i h =
          let g : i < length xs = omega (arith, length-enumerate_from 0 xs) in
          let z : 0 + i ≡ i = omega arith in
          rw (get_or-enumerate_from 0 xs i (0, d) g, z) (f i g)
