-- What is left of an input, moved to the front of its buffer.
use Prim.Native.Nat.{ℕ, suc, ◌+◌, ◌-◌, ◌≤◌, ◌<◌}
use native.Mathlib.Omega.{arith}
use mathlib.Core.Path.{◌≡◌, refl, sym, ap, ◌∙◌}
use mathlib.Core.List.{List, [], ◌∷◌, ◌++◌}
use borrow.Author.Tests.{le-leb, lt-leb}
use lib.ListN.{length, take, drop, set, get_or, length-append, length-drop}
use lib.Seq.{length-take-le, take-add, take_at, drop_at, take-suc, drop-cons, append_snoc, set_at, get_or-append-add, get_or-drop}
use Rattle.std.specs.List.{copy_within}
use Rattle.text.specs.Output.{rest_length, rest_moved}

-- the bytes from one place of a buffer on, so many of them, at its front
abbrev pub moved_to : ℕ → ℕ → List ℕ → List ℕ
moved_to from n s = take n (drop from s) ++ drop n s

module _ (from n : ℕ) (s : List ℕ) where
  front : from + n ≤ length s → length (take n (drop from s)) ≡ n
  front h = length-take-le n (drop from s) (omega (arith, length-drop from s))

  pub moved_length : from + n ≤ length s → length (moved_to from n s) ≡ length s
  moved_length h = length-append (take n (drop from s)) (drop n s) ∙ omega (arith, front h, length-drop n s)

  -- the byte to move is where it was
  moved_same : from + n ≤ length s → get_or (moved_to from n s) (from + n) 0 ≡ get_or (drop from s) n 0
  moved_same h =
      let p = take n (drop from s) in
      let at : from + n ≡ length p + from = omega (arith, front h) in
      let back : n + from ≡ from + n = omega arith in
      ap (λ i. get_or (moved_to from n s) i 0) at ∙ get_or-append-add p (drop n s) from 0 ∙ get_or-drop n s from 0 ∙ ap (λ i. get_or s i 0) back ∙ sym (get_or-drop from s n 0)

  pub moved_more : from + n < length s → set (moved_to from n s) n (get_or (moved_to from n s) (from + n) 0) ≡ moved_to from (n + 1) s
  moved_more h =
      let p = take n (drop from s) in
      let b = get_or (drop from s) n 0 in
      let rest : drop n s ≡ get_or s n 0 ∷ drop (suc n) s = drop-cons s n 0 (omega arith) in
      let more : take (suc n) (drop from s) ≡ p ++ (b ∷ []) = take-suc (drop from s) n 0 (omega (arith, length-drop from s)) in
      let next : suc n ≡ n + 1 = omega arith in
      ap (set (moved_to from n s) n) (moved_same (omega arith))
      ∙ ap (λ x. set (p ++ x) n b) rest
      ∙ set_at p (get_or s n 0) (drop (suc n) s) b n (front (omega arith))
      ∙ sym (append_snoc p b (drop (suc n) s))
      ∙ ap (λ x. x ++ drop (suc n) s) (sym more)
      ∙ ap (λ m. moved_to from m s) next

-- as std copies them
pub copied_is : (from to : ℕ) (s : List ℕ) → copy_within s from to 0 ≡ moved_to from (to - from) s
copied_is from to s = let e : 0 + (to - from) ≡ to - from = omega arith in ap (λ n. take (to - from) (drop from s) ++ drop n s) e

-- the results of `keep_rest`
module _ (from to : ℕ) (s : List ℕ) where
  pub rest_outside : length s < to → (0 ≡ rest_length from to s) × (s ≡ rest_moved from to s)
  unfolding rest_length rest_moved
  rest_outside h = let e = lt-leb to (length s) h in (rw e, rw e)

  pub rest_none : to ≤ length s → to ≤ from → (0 ≡ rest_length from to s) × (s ≡ rest_moved from to s)
  unfolding rest_length rest_moved
  rest_none h k =
      let e = le-leb to (length s) h in
      let z : to - from ≡ 0 = omega arith in
      (rw (e, z), rw (e, z))

  pub rest_moved_lem : (buf : List ℕ) → to ≤ length s → buf ≡ moved_to from (to - from) s → (to - from ≡ rest_length from to s) × (buf ≡ rest_moved from to s)
  unfolding rest_length rest_moved
  rest_moved_lem buf h k = let e = le-leb to (length s) h in (rw e, rw e k)

-- the front of the buffer then: of its first bytes those that were not used
pub rest_front : (buf : List ℕ) (end : ℕ) → end ≤ length buf → (used : ℕ) → used ≤ length (take end buf) → take (rest_length used end buf) (rest_moved used end buf) ≡ drop used (take end buf)
rest_front buf end h used g =
    let m = end - used in
    let size = length-take-le end buf h in
    let sum : used + m ≡ end = omega (arith, g, size) in
    let moved : take m (take m (drop used buf) ++ drop m buf) ≡ take m (drop used buf) = take_at (take m (drop used buf)) (drop m buf) m (length-take-le m (drop used buf) (omega (arith, length-drop used buf, sum, h))) in
    let cut : drop used (take (used + m) buf) ≡ take m (drop used buf) = ap (drop used) (take-add used m buf) ∙ drop_at (take used buf) (take m (drop used buf)) used (length-take-le used buf (omega (arith, sum, h))) in
    let e = rest_moved_lem used end buf (moved_to used m buf) h refl in
    rw (← e.0, ← e.1) (moved ∙ sym cut ∙ ap (λ x. drop used (take x buf)) sum)
