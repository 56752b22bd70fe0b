-- Laws of the search of a word in a list of words that other crates go by.
use Prim.Native.Nat.{ℕ, suc, ◌≤◌, ◌<◌}
use native.Mathlib.Omega.{arith}
use mathlib.Core.Path.{◌≡◌, refl}
use mathlib.Core.Bool.{Bool, true, false, cond, ◌&&◌}
use mathlib.Core.List.{List, [], ◌∷◌}
use borrow.Author.Tests.{leb-true}
use lib.Dec.{leb}
use lib.ListN.{length}
use Rattle.std.proofs.lemmas.Bool.{and_parts}
use Rattle.std.proofs.lemmas.Slice.Eq.{bytes_eq-Decides}
use Rattle.chart.specs.Operators.{same_bytes, place_of}
use Rattle.chart.proofs.Words.{same_eq}

pub same_self : (s : List ℕ) → same_bytes s s ≡ true
same_self s = (bytes_eq-Decides s s).1 refl

-- a word's place is at most the number of words
pub place_le : (w : List ℕ) (ws : List (List ℕ)) → place_of w ws ≤ length ws
unfolding place_of
place_le w [] = omega arith
place_le w (v ∷ ws) = go (same_bytes w v) (place_le w ws)
  where
    go : (b : Bool) → place_of w ws ≤ length ws → cond b 0 (suc (place_of w ws)) ≤ suc (length ws)
    go true h = omega arith
    go false h = omega arith

-- a word among words of at most k bytes each, which a test finds that computes
abbrev pub are_short : ℕ → List (List ℕ) → Bool
are_short k [] = true
are_short k (v ∷ ws) = leb (length v) k && are_short k ws

pub place_short : (k : ℕ) (w : List ℕ) (ws : List (List ℕ)) → are_short k ws ≡ true → place_of w ws < length ws → length w ≤ k
unfolding place_of
place_short k w [] e h = absurd (omega arith)
place_short k w (v ∷ ws) e h = go (same_bytes w v) refl h (place_short k w ws (and_parts _ _ e).1)
  where
    short : length v ≤ k
    short = leb-true (length v) k (and_parts _ _ e).0

    go : (b : Bool) → same_bytes w v ≡ b → cond b 0 (suc (place_of w ws)) < suc (length ws) → (place_of w ws < length ws → length w ≤ k) → length w ≤ k
    go true p g f = rw (same_eq w v p) short
    go false p g f = f (omega arith)
