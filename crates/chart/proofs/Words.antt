-- Laws of the operator words: equal lists of bytes, and how a search of a word goes on.
use Rattle.std.proofs.Common.{ℕ, suc, ◌+◌, ◌≤◌, ◌<◌, ◌≡◌, refl, sym, ap, ◌∙◌, true, false, cond, ltb, List, [], map, length, get_or, drop, drop_of_length-le, drop-cons, add-one, arith}
use Rattle.std.specs.Prelude.{None, Some}
use Rattle.std.specs.List.{position_or_len}
use Rattle.std.proofs.lemmas.List.{length-map}
use Rattle.std.proofs.lemmas.List.Recursion.{is_position_or_len}
use Rattle.std.proofs.lemmas.Slice.Eq.{bytes_eq-Decides}
use Rattle.chart.specs.Operators.{words, same_bytes, place_of, operator_of}

pub same_eq : (s t : List ℕ) → same_bytes s t ≡ true → s ≡ t
same_eq s t e = (bytes_eq-Decides s t).0 e

-- a search of a word goes on at place i
module _ (s : List ℕ) (ws : List (List ℕ)) (i : ℕ) where
  pub place_hit : i < length ws → same_bytes s (get_or ws i []) ≡ true → place_of s (drop i ws) ≡ 0
  unfolding place_of
  place_hit h e = rw (drop-cons ws i [] h, e)

  pub place_on : i < length ws → same_bytes s (get_or ws i []) ≡ false → place_of s (drop i ws) ≡ suc (place_of s (drop (i + 1) ws))
  unfolding place_of
  place_on h e = rw (drop-cons ws i [] h, e, add-one)

  pub place_none : length ws ≤ i → place_of s (drop i ws) ≡ 0
  unfolding place_of
  place_none h = rw (drop_of_length-le ws h)

-- the place of a word by std's words, among values that stand for words
module _ {X : Type 0} (v : X → List ℕ) (s : List ℕ) where
  pub place_is : (xs : List X) → position_or_len (λ x. same_bytes s (v x)) xs ≡ place_of s (map v xs)
  unfolding place_of
  place_is xs = sym (is_position_or_len (λ ys. place_of s (map v ys)) (λ x. same_bytes s (v x)) refl (λ x ys. ap (cond (same_bytes s (v x)) 0) (omega arith)) xs)

  -- the code of the operator by a search among the table's words
  pub code_is : (xs : List X) → map v xs ≡ words → let n = position_or_len (λ x. same_bytes s (v x)) xs in cond (ltb n (length xs)) (Some n) None ≡ operator_of s
  unfolding operator_of
  code_is xs e =
      let size : length xs ≡ length words = sym (length-map xs v) ∙ ap length e in
      rw (place_is xs, e, size)
