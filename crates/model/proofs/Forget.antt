-- Keeping on rows by a test writes what keeping on trees keeps; forgetting is the case of late starts.
use Prim.Native.Nat.{ℕ, zero, suc}
use mathlib.Core.Path.{◌≡◌, refl, sym, ap, ◌∙◌, subst, fun_ext}
use mathlib.Core.Bool.{Bool, true, false, cond, not}
use mathlib.Core.List.{List, [], ◌∷◌, map, Memᴰ}
use lib.Dec.{T}
use lib.ListN.{length, get_or, take, length-map}
use lib.IntN.{ℤ, pos}
use lib.Signed.{le_z}
use Rattle.model.specs.Lists.{keep}
use Rattle.model.specs.Recognitions.{Operator, Arm, only, left, right, delayed, Recognition, of_event, of_one, of_two, start_of}
use Rattle.model.specs.Order.{Row, before, row, none, place, left_of, right_of, as_row, as_rows}
use Rattle.model.specs.RowSteps.{placed, renumber, is_event_at, renumbered_by, keep_rows, is_late, forget_rows}
use Rattle.model.specs.Statements.{Sorted}
use Rattle.model.proofs.Sorted.{cond_T, cond_F, keep_map, keep_mem, mem_keep}
use Rattle.model.proofs.Trees.{map_map}
use Rattle.model.proofs.Place.{place_at, keep_before, At, mem_get_d}
use Rattle.model.proofs.Rows.{Parts, Closed, map_same, row_start, nil, row_path}

module _ {A : Type 0} where
  keep_comm : (p q : A → Bool) (xs : List A) → keep p (keep q xs) ≡ keep q (keep p xs)
  keep_comm p q [] = refl
  keep_comm p q (x ∷ xs) = go (p x) (q x) refl refl (keep_comm p q xs)
    where
      go : (b c : Bool) → b ≡ p x → c ≡ q x → keep p (keep q xs) ≡ keep q (keep p xs) → keep p (cond c (x ∷ keep q xs) (keep q xs)) ≡ keep q (cond b (x ∷ keep p xs) (keep p xs))
      go true true e e' h = ap (λ u. cond u (x ∷ keep p (keep q xs)) (keep p (keep q xs))) (sym e) ∙ ap (◌∷◌ x) h ∙ ap (λ u. cond u (x ∷ keep q (keep p xs)) (keep q (keep p xs))) e'
      go true false e e' h = h ∙ ap (λ u. cond u (x ∷ keep q (keep p xs)) (keep q (keep p xs))) e'
      go false true e e' h = ap (λ u. cond u (x ∷ keep p (keep q xs)) (keep p (keep q xs))) (sym e) ∙ h
      go false false e e' h = h

take_map : {A B : Type 0} (f : A → B) (i : ℕ) (xs : List A) → take i (map f xs) ≡ map f (take i xs)
take_map f zero [] = refl
take_map f zero (x ∷ xs) = refl
take_map f (suc i) [] = refl
take_map f (suc i) (x ∷ xs) = ap (◌∷◌ (f x)) (take_map f i xs)

renumber_left : (g : ℕ → ℕ) (m : Arm) (i : ℕ) → renumber g (left_of m i) ≡ left_of m (g i)
renumber_left g only i = refl
renumber_left g left i = refl
renumber_left g right i = refl
renumber_left g (delayed d) i = refl

renumber_right : (g : ℕ → ℕ) (m : Arm) (i : ℕ) → renumber g (right_of m i) ≡ right_of m (g i)
renumber_right g only i = refl
renumber_right g left i = refl
renumber_right g right i = refl
renumber_right g (delayed d) i = refl

abbrev pub late_tree : ℤ → Recognition → Bool
late_tree f t = le_z f (start_of t)

-- leaves stand at events' entries, and nothing else does
abbrev pub Shape : List Operator → Recognition → Type 0
Shape ops (of_event n s i) = T (is_event_at ops n)
Shape ops (of_one n m t) = T (not (is_event_at ops n))
Shape ops (of_two n l r) = T (not (is_event_at ops n))

abbrev pub Shaped : List Operator → List Recognition → Type 0
Shaped ops ts = (t : Recognition) → Memᴰ t ts → Shape ops t

-- a test of rows that is one of trees
module _ (ops : List Operator) (ts : List Recognition) (h : Sorted before ts) (c : Closed ts) (sh : Shaped ops ts) (test : Row → Bool) (passes : Recognition → Bool) (alike : (t : Recognition) → test (as_row ts t) ≡ passes t) where
  kept : (q : List Recognition) → keep test (map (as_row ts) q) ≡ map (as_row ts) (keep passes q)
  kept q = keep_map test (as_row ts) q ∙ ap (λ p. map (as_row ts) (keep p q)) (fun_ext alike)

  placed_place : (u : Recognition) → Memᴰ u ts → placed test (as_rows ts) (place ts u) ≡ place (keep passes ts) u
  placed_place u m = go (mem_get_d nil ts u m)
    where
      go : At nil ts u → placed test (as_rows ts) (place ts u) ≡ place (keep passes ts) u
      go a = subst (λ z. placed test (as_rows ts) (place ts z) ≡ place (keep passes ts) z) a.is
          (ap (placed test (as_rows ts)) (place_at nil ts a.i h a.low)
          ∙ ap length (ap (keep test) (take_map (as_row ts) a.i ts) ∙ kept (take a.i ts))
          ∙ length-map (keep passes (take a.i ts)) (as_row ts)
          ∙ ap (λ z. length (keep passes z)) (sym (keep_before nil ts a.i h a.low))
          ∙ ap length (keep_comm passes (λ v. before v (get_or ts a.i nil)) ts))

  row_moved : (t : Recognition) → Shape ops t → Parts (λ u. Memᴰ u ts) t → renumbered_by ops test (as_rows ts) (as_row ts t) ≡ as_row (keep passes ts) t
  row_moved (of_event n s i) k p = cond_T (is_event_at ops n) (row n (pos s) none i i) _ k
  row_moved (of_one n m t) k p = cond_F (is_event_at ops n) (as_row ts (of_one n m t)) _ k ∙ row_path n (renumber_left (placed test (as_rows ts)) m (place ts t) ∙ ap (left_of m) (placed_place t p)) (renumber_right (placed test (as_rows ts)) m (place ts t) ∙ ap (right_of m) (placed_place t p)) refl refl
  row_moved (of_two n l r) k p = cond_F (is_event_at ops n) (as_row ts (of_two n l r)) _ k ∙ row_path n (ap pos (placed_place l p.0)) (ap pos (placed_place r p.1)) refl refl

  -- keeping on rows writes what keeping on trees keeps
  pub keep_writes : keep_rows ops test (as_rows ts) ≡ as_rows (keep passes ts)
  unfolding keep_rows
  keep_writes = ap (map (renumbered_by ops test (as_rows ts))) (kept ts) ∙ map_map (renumbered_by ops test (as_rows ts)) (as_row ts) (keep passes ts) ∙ map_same (λ t. renumbered_by ops test (as_rows ts) (as_row ts t)) (as_row (keep passes ts)) (keep passes ts) (λ t m. let k = keep_mem passes ts m in row_moved t (sh t k.0) (c t k.0))

-- where a kept tree's parts are kept, each kept row's references are to its parts' rows
pub keep_closed : (ts : List Recognition) (passes : Recognition → Bool) → Closed ts → ((t : Recognition) → Memᴰ t ts → T (passes t) → Parts (λ u. T (passes u)) t) → Closed (keep passes ts)
keep_closed ts passes c down t m = let k = keep_mem passes ts m in go t (c t k.0) (down t k.0 k.1)
  where
    go : (t : Recognition) → Parts (λ u. Memᴰ u ts) t → Parts (λ u. T (passes u)) t → Parts (λ u. Memᴰ u (keep passes ts)) t
    go (of_event n s i) x y = tt
    go (of_one n a t) x y = mem_keep passes ts x y
    go (of_two n l r) x y = (mem_keep passes ts x.0 y.0, mem_keep passes ts x.1 y.1)

-- forgetting on rows
pub forget_writes : (ops : List Operator) (f : ℤ) (ts : List Recognition) → Sorted before ts → Closed ts → Shaped ops ts → forget_rows ops f (as_rows ts) ≡ as_rows (keep (late_tree f) ts)
unfolding forget_rows
forget_writes ops f ts h c sh = keep_writes ops ts h c sh (is_late f) (late_tree f) (λ t. ap (le_z f) (row_start ts t))
