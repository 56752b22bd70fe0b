-- Laws of lines and fields: the first byte 10 or tab cuts off the first line or field. Upper crates go by these and open no definition.
use Prim.Native.Nat.{ℕ, zero, suc, ◌+◌, ◌-◌, ◌≤◌, ◌<◌, min}
use native.Mathlib.Omega.{arith}
use native.Mathlib.Numerals.{add-one}
use mathlib.Core.Path.{◌≡◌, refl, sym, ap, ap₂, ◌∙◌}
use mathlib.Core.Bool.{Bool, true, false, cond}
use mathlib.Core.Logic.{◌⊎◌, inl, inr, ⊎_elim}
use mathlib.Core.List.{List, [], ◌∷◌, ◌++◌, append-nil, append_assoc}
use borrow.Author.Tests.{eq-eqb, ne_eqb, eqb-true, lt-ltb, le-ltb, ltb-true}
use lib.Dec.{eqb}
use lib.ListN.{length, take, drop, get_or, drop_of_length-le, length-take, length-drop}
use lib.Seq.{drop-cons, take_all, length-take-le, drop-drop}
use Rattle.std.specs.Prelude.{Option, Some, None}
pub use Rattle.std.proofs.lemmas.Bool.{cases_lt as lt_or_le}
use Rattle.std.proofs.lemmas.List.{take_rest}
use Rattle.std.proofs.lemmas.Option.{cond_some, none-some}
use Rattle.std.specs.List.{position, position_or_len}
use Rattle.std.proofs.lemmas.List.Recursion.{is_position_or_len}
use Rattle.text.specs.Text.{index_of, found_at, split, in_front, Line, whole, broken, ended, lines, is_record, line_size}

-- the search goes on from place i
pub index_hit : (x : ℕ) (s : List ℕ) (i : ℕ) → i < length s → get_or s i 0 ≡ x → index_of x (drop i s) ≡ 0
unfolding index_of
index_hit x s i h e = rw (drop-cons s i 0 h, eq-eqb _ _ e)

pub index_on : (x : ℕ) (s : List ℕ) (i : ℕ) → i < length s → (get_or s i 0 ≡ x → ⊥) → index_of x (drop i s) ≡ suc (index_of x (drop (i + 1) s))
unfolding index_of
index_on x s i h e = rw (drop-cons s i 0 h, ne_eqb _ _ e, add-one)

-- what was passed and what is left make the whole, also one byte on
pub index_step : (x : ℕ) (s : List ℕ) (i k : ℕ) → i + index_of x (drop i s) ≡ index_of x s → k ≡ i + 1 → i < length s → (get_or s i 0 ≡ x → ⊥) → k + index_of x (drop k s) ≡ index_of x s
index_step x s i k p q h e = rw q (omega (arith, index_on x s i h e))

pub index_none : (x : ℕ) (s : List ℕ) (i : ℕ) → length s ≤ i → index_of x (drop i s) ≡ 0
unfolding index_of
index_none x s i h = rw (drop_of_length-le s h)

-- a search goes no further than the length, and is the same in a part at the front where it finds something there
pub index_le : (x : ℕ) (s : List ℕ) → index_of x s ≤ length s
unfolding index_of
index_le x [] = omega arith
index_le x (b ∷ s) = go (eqb b x) (index_le x s)
  where
    go : (t : Bool) → index_of x s ≤ length s → cond t 0 (suc (index_of x s)) ≤ suc (length s)
    go true h = omega arith
    go false h = omega arith

-- the part up to the first x, and what follows it
module _ (x : ℕ) where
  index_front : (n : ℕ) (s : List ℕ) → index_of x (take n s) < length (take n s) → index_of x s ≡ index_of x (take n s)
  unfolding index_of
  index_front zero s h = absurd (omega arith)
  index_front (suc n) [] h = absurd (omega arith)
  index_front (suc n) (b ∷ s) h = go (eqb b x) (index_front n s) h
    where
      go : (t : Bool) → (index_of x (take n s) < length (take n s) → index_of x s ≡ index_of x (take n s)) → cond t 0 (suc (index_of x (take n s))) < suc (length (take n s)) → cond t 0 (suc (index_of x s)) ≡ cond t 0 (suc (index_of x (take n s)))
      go true f g = refl
      go false f g = ap suc (f (omega arith))

  -- a front part without x
  index_past : (n : ℕ) (s : List ℕ) → index_of x (take n s) ≡ length (take n s) → length (take n s) ≤ index_of x s
  unfolding index_of
  index_past zero s h = omega arith
  index_past (suc n) [] h = omega arith
  index_past (suc n) (b ∷ s) h = go (eqb b x) (index_past n s) h
    where
      go : (t : Bool) → (index_of x (take n s) ≡ length (take n s) → length (take n s) ≤ index_of x s) → cond t 0 (suc (index_of x (take n s))) ≡ suc (length (take n s)) → suc (length (take n s)) ≤ cond t 0 (suc (index_of x s))
      go true f g = absurd (omega arith)
      go false f g = let p : length (take n s) ≤ index_of x s = f (omega arith) in omega arith

  -- a front part without x is passed over
  index_skip : (n : ℕ) (s : List ℕ) → n ≤ length s → index_of x (take n s) ≡ length (take n s) → index_of x s ≡ n + index_of x (drop n s)
  unfolding index_of
  index_skip zero s h e = omega arith
  index_skip (suc n) [] h e = absurd (omega arith)
  index_skip (suc n) (b ∷ s) h e = go (eqb b x) (index_skip n s (omega arith)) e
    where
      go : (t : Bool) → (index_of x (take n s) ≡ length (take n s) → index_of x s ≡ n + index_of x (drop n s)) → cond t 0 (suc (index_of x (take n s))) ≡ suc (length (take n s)) → cond t 0 (suc (index_of x s)) ≡ suc n + index_of x (drop n s)
      go true f g = absurd (omega arith)
      go false f g = omega (arith, f (omega arith))

-- the first x ends the first part
module _ (x : ℕ) where
  pub split_cut : (s : List ℕ) → index_of x s < length s → split x s ≡ take (index_of x s) s ∷ split x (drop (suc (index_of x s)) s)
  unfolding index_of split
  split_cut [] h = absurd (omega arith)
  split_cut (b ∷ s) h = go (eqb b x) (split_cut s) h
    where
      go : (t : Bool) → (index_of x s < length s → split x s ≡ take (index_of x s) s ∷ split x (drop (suc (index_of x s)) s)) → cond t 0 (suc (index_of x s)) < suc (length s) → cond t ([] ∷ split x s) (in_front b (split x s)) ≡ take (cond t 0 (suc (index_of x s))) (b ∷ s) ∷ split x (drop (suc (cond t 0 (suc (index_of x s)))) (b ∷ s))
      go true f g = refl
      go false f g = rw (f (omega arith))

  -- without x there is one part
  pub split_none : (s : List ℕ) → index_of x s ≡ length s → split x s ≡ s ∷ []
  unfolding index_of split
  split_none [] h = refl
  split_none (b ∷ s) h = go (eqb b x) (split_none s) h
    where
      go : (t : Bool) → (index_of x s ≡ length s → split x s ≡ s ∷ []) → cond t 0 (suc (index_of x s)) ≡ suc (length s) → cond t ([] ∷ split x s) (in_front b (split x s)) ≡ (b ∷ s) ∷ []
      go true f e = absurd (omega arith)
      go false f e = rw (f (omega arith))

  -- there is always a first part
  pub split_some : (s : List ℕ) → (p : List ℕ) × (ps : List (List ℕ)) × (split x s ≡ p ∷ ps)
  unfolding split
  split_some [] = ([], [], refl)
  split_some (b ∷ s) = go (eqb b x) (split_some s)
    where
      go : (t : Bool) → (p : List ℕ) × (ps : List (List ℕ)) × (split x s ≡ p ∷ ps) → (p : List ℕ) × (ps : List (List ℕ)) × (cond t ([] ∷ split x s) (in_front b (split x s)) ≡ p ∷ ps)
      go true f = ([], split x s, refl)
      go false (p, ps, e) = (b ∷ p, ps, rw e)

  -- the sizes of the parts, each with one byte behind it, are that of the text with one byte more
  abbrev pub sizes : List (List ℕ) → ℕ
  sizes [] = 0
  sizes (p ∷ ps) = suc (length p) + sizes ps

  pub split_sizes : (s : List ℕ) → sizes (split x s) ≡ suc (length s)
  unfolding split
  split_sizes [] = refl
  split_sizes (b ∷ s) = go (eqb b x) (split_some s) (split_sizes s)
    where
      go : (t : Bool) → (p : List ℕ) × (ps : List (List ℕ)) × (split x s ≡ p ∷ ps) → sizes (split x s) ≡ suc (length s) → sizes (cond t ([] ∷ split x s) (in_front b (split x s))) ≡ suc (suc (length s))
      go true f h = omega arith
      go false (p, ps, e) h = let h₁ = rw e at h in rw e (omega arith)

-- where x is
module _ (x : ℕ) where
  -- a text with no x, by a test that computes
  abbrev pub lacks : List ℕ → Bool
  lacks [] = true
  lacks (b ∷ s) = cond (eqb b x) false (lacks s)

  pub index_lacks : (s : List ℕ) → lacks s ≡ true → index_of x s ≡ length s
  unfolding index_of
  index_lacks [] e = refl
  index_lacks (b ∷ s) e = go (eqb b x) e (index_lacks s)
    where
      go : (t : Bool) → cond t false (lacks s) ≡ true → (lacks s ≡ true → index_of x s ≡ length s) → cond t 0 (suc (index_of x s)) ≡ suc (length s)
      go true d f = let z : ◌≡◌ {A = ℕ} 0 1 = cc in absurd (omega arith)
      go false d f = ap suc (f d)

  -- two texts one behind the other
  lacks_more : (u : Bool) {r t : Bool} → cond u false r ≡ true → (r ≡ true → t ≡ true) → cond u false t ≡ true
  lacks_more true e f = e
  lacks_more false e f = f e

  pub lacks_append : (s t : List ℕ) → lacks s ≡ true → lacks t ≡ true → lacks (s ++ t) ≡ true
  lacks_append [] t a b = b
  lacks_append (y ∷ s) t a b = lacks_more (eqb y x) a (λ e. lacks_append s t e b)

  pub lacks_front : (s t : List ℕ) → lacks (s ++ t) ≡ true → lacks s ≡ true
  lacks_front [] t a = refl
  lacks_front (y ∷ s) t a = lacks_more (eqb y x) a (lacks_front s t)

  -- the byte at the place of the first x is x
  pub index_cut : (s : List ℕ) → index_of x s < length s → s ≡ take (index_of x s) s ++ (x ∷ drop (suc (index_of x s)) s)
  unfolding index_of
  index_cut [] h = absurd (omega arith)
  index_cut (b ∷ s) h = go (eqb b x) refl (index_cut s) h
    where
      go : (t : Bool) → eqb b x ≡ t → (index_of x s < length s → s ≡ take (index_of x s) s ++ (x ∷ drop (suc (index_of x s)) s)) → cond t 0 (suc (index_of x s)) < suc (length s) → b ∷ s ≡ take (cond t 0 (suc (index_of x s))) (b ∷ s) ++ (x ∷ drop (suc (cond t 0 (suc (index_of x s)))) (b ∷ s))
      go true e f g = ap (λ c. c ∷ s) (eqb-true b x e)
      go false e f g = ap (λ l. b ∷ l) (f (omega arith))

-- parts put together: the last of the first and the first of the second become one
abbrev pub glued : List (List ℕ) → List (List ℕ) → List (List ℕ)
glued [] qs = qs
glued (s ∷ []) [] = s ∷ []
glued (s ∷ []) (q ∷ qs) = (s ++ q) ∷ qs
glued (s ∷ r ∷ rs) qs = s ∷ glued (r ∷ rs) qs

front_glued : (b : ℕ) (p : List ℕ) (ps : List (List ℕ)) (q : List ℕ) (qs : List (List ℕ)) → in_front b (glued (p ∷ ps) (q ∷ qs)) ≡ glued ((b ∷ p) ∷ ps) (q ∷ qs)
front_glued b p [] q qs = refl
front_glued b p (r ∷ rs) q qs = refl

-- the parts of a text byte by byte, and of a text put together of two
module _ (x : ℕ) where
  pub split_empty : split x [] ≡ [] ∷ []
  unfolding split
  split_empty = refl

  pub split_byte : (b : ℕ) (s : List ℕ) → split x (b ∷ s) ≡ cond (eqb b x) ([] ∷ split x s) (in_front b (split x s))
  unfolding split
  split_byte b s = refl

  -- the last part of the first goes on with the first part of the second
  pub split_append : (s t : List ℕ) → split x (s ++ t) ≡ glued (split x s) (split x t)
  unfolding split
  split_append [] t = go (split_some x t)
    where
      go : (q : List ℕ) × (qs : List (List ℕ)) × (split x t ≡ q ∷ qs) → split x t ≡ glued ([] ∷ []) (split x t)
      go (q, qs, e) = rw e
  split_append (b ∷ s) t = go (eqb b x) (split_append s t) (split_some x s) (split_some x t)
    where
      go : (y : Bool) → split x (s ++ t) ≡ glued (split x s) (split x t) → (p : List ℕ) × (ps : List (List ℕ)) × (split x s ≡ p ∷ ps) → (q : List ℕ) × (qs : List (List ℕ)) × (split x t ≡ q ∷ qs) → cond y ([] ∷ split x (s ++ t)) (in_front b (split x (s ++ t))) ≡ glued (cond y ([] ∷ split x s) (in_front b (split x s))) (split x t)
      go true f (p, ps, e) (q, qs, d) = rw (f, e)
      go false f (p, ps, e) (q, qs, d) = rw (f, e, d) (front_glued b p ps q qs)

  -- a word and the x behind it are cut off
  pub split_word : (w t : List ℕ) → index_of x w ≡ length w → split x (w ++ (x ∷ t)) ≡ w ∷ split x t
  split_word w t e = rw (split_append w (x ∷ t), split_none x w e, split_byte x t, eq-eqb x x refl) (ap (λ p. p ∷ split x t) (append-nil w))

  -- no more parts than one for each byte and one
  pub split_few : (s : List ℕ) → length (split x s) ≤ suc (length s)
  unfolding split
  split_few [] = omega arith
  split_few (b ∷ s) = go (eqb b x) (split_some x s) (split_few s)
    where
      go : (t : Bool) → (p : List ℕ) × (ps : List (List ℕ)) × (split x s ≡ p ∷ ps) → length (split x s) ≤ suc (length s) → length (cond t ([] ∷ split x s) (in_front b (split x s))) ≤ suc (suc (length s))
      go true (p, ps, e) h = omega (arith, h)
      go false (p, ps, e) h = rw e (let k : suc (length ps) ≤ suc (length s) = rw e at h in omega (arith, k))

pub lines_parts : (s : List ℕ) → lines s ≡ ended (split 10 s)
unfolding lines
lines_parts s = refl

-- a text that ends with byte 10 has its lines, and what follows it has its own
ended_append : (p : List ℕ) (ps : List (List ℕ)) (q : List ℕ) (qs : List (List ℕ)) → ended (glued (p ∷ ps) ([] ∷ q ∷ qs)) ≡ ended (glued (p ∷ ps) ([] ∷ [] ∷ [])) ++ ended (q ∷ qs)
ended_append p [] q qs = refl
ended_append p (r ∷ []) q qs = ap (λ ls. whole p ∷ ls) (ended_append r [] q qs)
ended_append p (r ∷ u ∷ us) q qs = ap (λ ls. whole p ∷ ls) (ended_append r (u ∷ us) q qs)

pub lines_append : (s t : List ℕ) → lines ((s ++ 10 ∷ []) ++ t) ≡ lines (s ++ 10 ∷ []) ++ lines t
unfolding lines split
lines_append s t = go (split_some 10 s) (split_some 10 t)
  where
    go : (p : List ℕ) × (ps : List (List ℕ)) × (split 10 s ≡ p ∷ ps) → (q : List ℕ) × (qs : List (List ℕ)) × (split 10 t ≡ q ∷ qs) → ended (split 10 ((s ++ 10 ∷ []) ++ t)) ≡ ended (split 10 (s ++ 10 ∷ [])) ++ ended (split 10 t)
    go (p, ps, e) (q, qs, d) = rw (append_assoc s (10 ∷ []) t, split_append 10 s (10 ∷ t), split_append 10 s (10 ∷ []), e, d) (ended_append p ps q qs)

-- the first byte 10 ends the first line
pub lines_cut : (s : List ℕ) → index_of 10 s < length s → lines s ≡ whole (take (index_of 10 s) s) ∷ lines (drop (suc (index_of 10 s)) s)
unfolding lines
lines_cut s h = go (split_some 10 (drop (suc (index_of 10 s)) s))
  where
    go : (p : List ℕ) × (ps : List (List ℕ)) × (split 10 (drop (suc (index_of 10 s)) s) ≡ p ∷ ps) → ended (split 10 s) ≡ whole (take (index_of 10 s) s) ∷ ended (split 10 (drop (suc (index_of 10 s)) s))
    go (p, ps, e) = rw (split_cut 10 s h, e)

-- a text without byte 10 is one line that lacks it
pub lines_last : (b : ℕ) (s : List ℕ) → index_of 10 (b ∷ s) ≡ suc (length s) → lines (b ∷ s) ≡ broken (b ∷ s) ∷ []
unfolding lines
lines_last b s h = rw (split_none 10 (b ∷ s) h)

pub lines_none : lines [] ≡ []
unfolding lines split
lines_none = refl

-- what the first 64 bytes tell of the first line
pub first_whole : (s : List ℕ) → index_of 10 (take 64 s) < length (take 64 s) → lines s ≡ whole (take (index_of 10 (take 64 s)) s) ∷ lines (drop (suc (index_of 10 (take 64 s))) s)
first_whole s h = rw (← index_front 10 64 s h) (lines_cut s (omega (arith, index_front 10 64 s h, length-take 64 s)))

pub first_broken : (s : List ℕ) → 0 < length s → index_of 10 (take 64 s) ≡ length (take 64 s) → (l : Line) × (ls : List Line) × (lines s ≡ l ∷ ls) × (is_record l ≡ false)
first_broken [] h e = absurd (omega arith)
first_broken (b ∷ s) h e = go (lt_or_le m (suc (length s)))
  where
    m : ℕ
    m = index_of 10 (b ∷ s)

    go : (m < suc (length s)) ⊎ (suc (length s) ≤ m) → (l : Line) × (ls : List Line) × (lines (b ∷ s) ≡ l ∷ ls) × (is_record l ≡ false)
    go (inl q) =
        let w : length (take m (b ∷ s)) ≡ m = length-take-le m (b ∷ s) (omega arith) in
        let past : 64 ≤ m = omega (arith, index_past 10 64 (b ∷ s) e, length-take 64 (b ∷ s)) in
        (whole (take m (b ∷ s)), lines (drop (suc m) (b ∷ s)), lines_cut (b ∷ s) q, rw (w, le-ltb m 64 past))
    go (inr q) = (broken (b ∷ s), [], lines_last b s (omega (arith, index_le 10 (b ∷ s))), refl)

-- the part of a slice from k on, as code lends it
pub part_from : (k : ℕ) (s : List ℕ) → take (length s - k) (drop k s) ≡ drop k s
part_from k s = take_rest s k

-- the first x by std's words
pub index_position : (x : ℕ) (s : List ℕ) → index_of x s ≡ position_or_len (λ b. eqb b x) s
unfolding index_of
index_position x s = is_position_or_len (index_of x) (λ b. eqb b x) refl (λ b l. let e : suc (index_of x l) ≡ 1 + index_of x l = omega arith in ap (cond (eqb b x) 0) e) s

-- what a search finds
module _ (x : ℕ) (s : List ℕ) where
  pub found_some : index_of x s < length s → found_at x s ≡ Some (index_of x s)
  unfolding found_at
  found_some h = simp (lt-ltb _ _ h)

  pub found_none : length s ≤ index_of x s → found_at x s ≡ None
  unfolding found_at
  found_none h = simp (le-ltb _ _ h)

  pub found_told : (i : ℕ) → found_at x s ≡ Some i → (index_of x s ≡ i) × (i < length s)
  unfolding found_at
  found_told i e = let t = cond_some _ _ _ e in (t.1, omega (arith, t.1, ltb-true _ _ t.0))

  pub none_told : found_at x s ≡ None → index_of x s ≡ length s
  none_told e = ⊎_elim (λ h. absurd (none-some _ (sym e ∙ found_some h))) (λ h. omega (arith, h, index_le x s)) (lt_or_le (index_of x s) (length s))

-- a search piece by piece: p, from place `at` on, is looked at by std's `position`
module _ (x : ℕ) (s : List ℕ) (at n : ℕ) (passed : at + index_of x (drop at s) ≡ index_of x s) (h : at + n ≤ length s) {p : List ℕ} (e : p ≡ take n (drop at s)) {r : Option ℕ} (d : r ≡ position (λ b. eqb b x) p) where
  searched : r ≡ found_at x (take n (drop at s))
  unfolding found_at
  searched = rw (index_position, ← e) d

  size : length (take n (drop at s)) ≡ n
  size = length-take-le n (drop at s) (omega (arith, length-drop at s))

  pub piece_some : (k : ℕ) → r ≡ Some k → Some (at + k) ≡ found_at x s
  piece_some k f =
      let t = found_told x (take n (drop at s)) k (sym searched ∙ f) in
      let g : index_of x (drop at s) ≡ k = index_front x n (drop at s) (omega (arith, t.0, t.1)) ∙ t.0 in
      let i : index_of x s ≡ at + k = omega (arith, g, passed) in
      ap Some (sym i) ∙ sym (found_some x s (omega (arith, i, t.1, size)))

  pub piece_none : r ≡ None → at + n + index_of x (drop (at + n) s) ≡ index_of x s
  piece_none f =
      let g : index_of x (drop at s) ≡ n + index_of x (drop n (drop at s)) = index_skip x n (drop at s) (omega (arith, length-drop at s)) (none_told x (take n (drop at s)) (sym searched ∙ f)) in
      rw (← passed, g, drop-drop n at s) (omega arith)

  pub piece_last : at + n ≡ length s → r ≡ None → None ≡ found_at x s
  piece_last all f = sym (found_none x s (omega (arith, piece_none f)))

-- the first line's size, where its byte 10 is among the first 64 bytes and where not
pub size_found : (s : List ℕ) → index_of 10 (take 64 s) < length (take 64 s) → line_size s ≡ Some (index_of 10 (take 64 s) + 1)
unfolding line_size
size_found s h = simp (lt-ltb _ _ h)

pub size_none : (s : List ℕ) → length (take 64 s) ≤ index_of 10 (take 64 s) → line_size s ≡ None
unfolding line_size
size_none s h = simp (le-ltb _ _ h)

pub size_told : (s : List ℕ) (n : ℕ) → line_size s ≡ Some n → (index_of 10 (take 64 s) + 1 ≡ n) × (n ≤ length (take 64 s))
unfolding line_size
size_told s n e = let t = cond_some _ _ _ e in (t.1, omega (arith, t.1, ltb-true _ _ t.0))

-- the window of at most 64 bytes
pub window_is : (s : List ℕ) → take (min 64 (length s)) s ≡ take 64 s
window_is s =
    ⊎_elim
    (λ h. take_all (min 64 (length s)) s (omega arith) ∙ sym (take_all 64 s (omega arith)))
    (λ h. let m : min 64 (length s) ≡ 64 = omega arith in ap (λ n. take n s) m)
    (lt_or_le (length s) 64)

-- a search in the window of at most 64 bytes tells it
module _ (s : List ℕ) {n : ℕ} {r : Option ℕ} (m : n ≡ min (length s) 64) (e : r ≡ found_at 10 (take n s)) where
  windowed : r ≡ found_at 10 (take 64 s)
  windowed =
      e ∙ ap (found_at 10)
      (⊎_elim
      (λ h. take_all n s (omega arith) ∙ sym (take_all 64 s (omega arith)))
      (λ h. let k : n ≡ 64 = omega arith in ap (λ n. take n s) k)
      (lt_or_le (length s) 64))

  pub window_some : (i : ℕ) → r ≡ Some i → (i < 64) × (Some (i + 1) ≡ line_size s)
  window_some i d =
      let t = found_told 10 (take 64 s) i (sym windowed ∙ d) in
      (omega (arith, t.1, length-take 64 s), ap (λ n. Some (n + 1)) (sym t.0) ∙ sym (size_found s (omega (arith, t.0, t.1))))

  pub window_none : r ≡ None → None ≡ line_size s
  window_none d = sym (size_none s (omega (arith, none_told 10 (take 64 s) (sym windowed ∙ d))))

-- byte 10 is among the first 64 bytes or not
early : (s : List ℕ) → (index_of 10 (take 64 s) < length (take 64 s)) ⊎ (length (take 64 s) ≤ index_of 10 (take 64 s))
early s = lt_or_le (index_of 10 (take 64 s)) (length (take 64 s))

pub size_le : (s : List ℕ) (n : ℕ) → line_size s ≡ Some n → n ≤ length s
size_le s n e = omega (arith, (size_told s n e).1, length-take 64 s)

-- a first line of at most 64 bytes cuts off the first part
pub record FirstPart (s : List ℕ) (n : ℕ) : Type 0 where
  pub some : 0 < n
  pub short : n ≤ 64
  pub inside : n ≤ length s
  pub parts : split 10 s ≡ take (n - 1) s ∷ split 10 (drop n s)

pub first_part : (s : List ℕ) (n : ℕ) → line_size s ≡ Some n → FirstPart s n
first_part s n e =
    let i = index_of 10 (take 64 s) in
    let t = size_told s n e in
    let f : index_of 10 s ≡ i = index_front 10 64 s (omega (arith, t.0, t.1)) in
    let x : index_of 10 s ≡ n - 1 = omega (arith, f, t.0) in
    let y : suc (index_of 10 s) ≡ n = omega (arith, f, t.0) in
    record {
      some = omega (arith, t.0);
      short = omega (arith, t.1, length-take 64 s);
      inside = size_le s n e;
      parts = split_cut 10 s (omega (arith, y, size_le s n e)) ∙ ap₂ (λ m k. take m s ∷ split 10 (drop k s)) x y;
    }

-- without one the first byte 10, if there is any, comes after the first 64 bytes
pub no_line : (s : List ℕ) → line_size s ≡ None → index_of 10 (take 64 s) ≡ length (take 64 s)
no_line s z = ⊎_elim (λ h. absurd (none-some _ (sym z ∙ size_found s h))) (λ h. omega (arith, h, index_le 10 (take 64 s))) (early s)

pub none_early : (s : List ℕ) → line_size s ≡ None → length (take 64 s) ≤ index_of 10 s
none_early s z = index_past 10 64 s (no_line s z)
