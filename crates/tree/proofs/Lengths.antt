-- How many bytes a row has, and what a length within a limit and what is left of a limit say.
use Prim.Native.Nat.{ℕ, zero, suc, ◌+◌, ◌-◌, ◌≤◌, ◌<◌}
use native.Mathlib.Omega.{arith}
use mathlib.Core.Path.{◌≡◌, refl, sym, ◌∙◌}
use mathlib.Core.Bool.{Bool, true, false, cond}
use mathlib.Core.List.{List, [], ◌∷◌, ◌++◌, map}
use Rattle.std.specs.Prelude.{Option, Some, None}
use Rattle.std.specs.Option.{SomeIff}
use lib.Dec.{leb}
use lib.IntN.{ℤ, pos, negsuc}
use lib.ListN.{length, length-append}
use lib.Signed.{lt_z}
use borrow.Author.Tests.{ltb-true, leb-true, leb-false, le-leb, lt-leb}
use Rattle.decimal.proofs.Laws.{spelled_length_least}
use Rattle.model.specs.Recognitions.{Operator}
use Rattle.table.specs.Table.{cell}
use Rattle.table.specs.Operators.{arity_of}
use Rattle.tree.specs.Tree.{arity_at, row_bytes, reference_bytes, tree_within, tree_over, tree_bytes, length_within}
use Rattle.tree.specs.Following.{rest_of}

row_some : (a : ℕ) (s : ℤ) (l r : List ℕ) → 2 ≤ length (row_bytes a s l r)
unfolding row_bytes
row_some zero s l r = omega (arith, spelled_length_least s)
row_some (suc zero) s l r = simp length-append (omega arith)
row_some (suc (suc a)) s l r = simp length-append (omega arith)

-- a tree has at least two bytes, and so a reference one
over_some : (arities : List ℕ) (t : List ℤ) (i : ℕ) → 2 ≤ length (tree_over arities t i)
unfolding tree_within
over_some arities t i = row_some (arity_at arities t i) (cell t i 1) _ _

pub tree_some : (ops : List Operator) (t : List ℤ) (i : ℕ) → 2 ≤ length (tree_bytes ops t i)
unfolding tree_bytes
tree_some ops t i = over_some (map arity_of ops) t i

pub reference_some : (arities : List ℕ) (t : List ℤ) (z : ℤ) → 1 ≤ length (reference_bytes (tree_over arities t) z)
unfolding reference_bytes
reference_some arities t (pos i) = omega (arith, over_some arities t i)
reference_some arities t (negsuc n) = omega arith

-- -1, a row of one reference, and one of two
pub minus_length : (arities : List ℕ) (t : List ℤ) (z : ℤ) → lt_z z (pos 0) ≡ true → length (reference_bytes (tree_over arities t) z) ≡ 1
unfolding reference_bytes
minus_length arities t (pos n) e = absurd (omega (arith, ltb-true n 0 e))
minus_length arities t (negsuc n) e = refl

pub one_length : (l : List ℕ) → length (60 ∷ l ++ 62 ∷ []) ≡ 2 + length l
one_length l = omega (arith, length-append l (62 ∷ []))

pub two_length : (l r : List ℕ) → length (60 ∷ l ++ (44 ∷ r ++ 62 ∷ [])) ≡ 3 + length l + length r
two_length l r = omega (arith, length-append l (44 ∷ r ++ 62 ∷ []), length-append r (62 ∷ []))

-- A length within a limit.
module _ (limit : ℕ) (s : List ℕ) where
  pub is_over : limit < length s → length_within limit s ≡ None
  unfolding length_within
  is_over h = rw (lt-leb (length s) limit h)

  pub is_within_lem : length s ≤ limit → length_within limit s ≡ Some (length s)
  unfolding length_within
  is_within_lem h = rw (le-leb (length s) limit h)

-- What is left of a limit behind n bytes.
module _ (limit n : ℕ) where
  pub rest_none : limit < n → rest_of limit n ≡ None
  rest_none h = rw (lt-leb n limit h)

  pub rest_some : n ≤ limit → rest_of limit n ≡ Some (limit - n)
  rest_some h = rw (le-leb n limit h)

  pub none_told : rest_of limit n ≡ None → limit < n
  none_told = go (leb n limit) refl
    where
      go : (b : Bool) → leb n limit ≡ b → cond b (Some (limit - n)) None ≡ None → limit < n
      go true e h = cc
      go false e h = leb-false n limit e

  pub some_told : (k : ℕ) → rest_of limit n ≡ Some k → (n + k ≡ limit)
  some_told k = go (leb n limit) refl
    where
      go : (b : Bool) → leb n limit ≡ b → cond b (Some (limit - n)) None ≡ Some k → n + k ≡ limit
      go true e h = let q : limit - n ≡ k = cc in omega (arith, leb-true n limit e)
      go false e h = cc

  -- as `checked_sub` answers it
  pub rest_is : (r : Option ℕ) → SomeIff r (n ≤ limit) (limit - n) → r ≡ rest_of limit n
  rest_is None h = sym (rest_none (omega arith))
  rest_is (Some k) h = rw h.1 (sym (rest_some h.0))

-- behind n bytes and m more
pub rest_more : (limit n m k : ℕ) → n + k ≡ limit → rest_of k m ≡ rest_of limit (n + m)
rest_more limit n m k e = go (leb m k) refl
  where
    go : (b : Bool) → leb m k ≡ b → rest_of k m ≡ rest_of limit (n + m)
    go true h =
        let l = leb-true m k h in
        let same : k - m ≡ limit - (n + m) = omega arith in
        rest_some k m l ∙ rw same (sym (rest_some limit (n + m) (omega arith)))
    go false h = let l = leb-false m k h in rest_none k m l ∙ sym (rest_none limit (n + m) (omega arith))
