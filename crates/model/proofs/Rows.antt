-- The step on rows writes what the step on trees makes.
use Prim.Native.Nat.{ℕ, zero, suc, ◌+◌, ◌<◌}
use native.Mathlib.Omega.{arith}
use mathlib.Core.Path.{◌≡◌, refl, sym, ap, ap₂, ◌∙◌, subst, fun_ext}
use mathlib.Core.Logic.{◌⊎◌, inl, inr}
use mathlib.Core.Bool.{Bool, not, ◌&&◌, ◌||◌}
use mathlib.Core.List.Memᴰ
use mathlib.Core.List.{List, [], ◌∷◌, ◌++◌, map, map-append, Memᴰ}
use lib.Dec.{eqb}
use lib.ListN.{length, get_or, get_or-append, length-append, length-map}
use lib.IntN.{ℤ, pos}
use lib.Signed.{lt_z}
use Rattle.interval.specs.Instants.{least, greatest}
use Rattle.interval.specs.Conditions.{is_forbidding, has_length}
use Rattle.interval.specs.declared.Relation.TheVariants.{Seq}
use Rattle.model.specs.Lists.{keep, some, each, numbers, sort_stably}
use Rattle.model.specs.Recognitions.{Event, Operator, event, related, or, absence, lasting, after, nearest, Arm, only, left, right, delayed, Recognition, of_event, of_one, of_two, entry_of, start_of, end_by, end_of}
use Rattle.model.specs.Order.{before, Row, row, place, left_of, right_of, as_row, as_rows}
use Rattle.model.specs.RowSteps.{Node, leaf, part, pair, View, leaves, pairs, make, of, fits, forbidden, rival_of_second, rival_of_first, near, Rule, row_at, places, node_row, starts_later, derived_rows, extend_rows}
use Rattle.model.specs.Statements.{Sorted}
use Rattle.model.proofs.Sorted.{keep_map, sorted_front, map_stably}
use Rattle.model.proofs.Trees.{tree, trees, map_map}
use Rattle.model.proofs.Made.{make_made, made_all}
use Rattle.model.proofs.Extend.{derived, extend, New, new}
use Rattle.model.proofs.Leaves.{leaves_mem}
use Rattle.model.proofs.Place.{place_at, place_append}
use Rattle.model.proofs.Rank.{later_tree, arranged, arranged_new, append}

module _ {A B : Type 0} (g : A → B) where
  abbrev pub node : Node A → Node B
  node (leaf s i) = leaf s i
  node (part m a) = part m (g a)
  node (pair a b) = pair (g a) (g b)

  abbrev pub pull : View B → View A
  pull v = record { entry = λ a. v.entry (g a); start = λ a. v.start (g a); end = λ a. v.end (g a) }

  leaves_node : (k : ℕ) (es : List Event) → leaves {A = B} k es ≡ map node (leaves k es)
  leaves_node k es = sym (map_map node (λ e. leaf e.serial e.instant) (keep (λ e. eqb e.code k) es))

  map_node : (f : B → Node B) (h : A → Node A) → ((a : A) → f (g a) ≡ node (h a)) → (xs : List A) → map f (map g xs) ≡ map node (map h xs)
  map_node f h p [] = refl
  map_node f h p (x ∷ xs) = ap₂ ◌∷◌ (p x) (map_node f h p xs)

  some_map : (p : B → Bool) (xs : List A) → some p (map g xs) ≡ some (λ a. p (g a)) xs
  some_map p [] = refl
  some_map p (x ∷ xs) = ap (λ z. p (g x) || z) (some_map p xs)

  each_node : (f : B → List (Node B)) (h : A → List (Node A)) → ((a : A) → f (g a) ≡ map node (h a)) → (xs : List A) → each f (map g xs) ≡ map node (each h xs)
  each_node f h p [] = refl
  each_node f h p (x ∷ xs) = ap₂ ◌++◌ (p x) (each_node f h p xs) ∙ sym (map-append node (h x) (each h xs))

  module _ (v : View B) (xs : List A) where
    of_map : (a : ℕ) → of v a (map g xs) ≡ map g (of (pull v) a xs)
    of_map a = keep_map (λ x. eqb (v.entry x) a) g xs

    arm : (m : Arm) (a : ℕ) → map (part m) (of v a (map g xs)) ≡ map node (map (part m) (of (pull v) a xs))
    arm m a = ap (map (part m)) (of_map a) ∙ map_node (part m) (part m) (λ x. refl) (of (pull v) a xs)

    pairs_node : (p : B → B → Bool) (p' : A → A → Bool) → ((x y : A) → p (g x) (g y) ≡ p' x y) → (a b : ℕ) → pairs p (of v a (map g xs)) (of v b (map g xs)) ≡ map node (pairs p' (of (pull v) a xs) (of (pull v) b xs))
    pairs_node p p' same a b = ap (each with_p) (of_map a) ∙ each_node with_p (λ l. map (pair l) (keep (p' l) (of (pull v) b xs))) each_pair (of (pull v) a xs)
      where
        with_p : B → List (Node B)
        with_p l = map (pair l) (keep (p l) (of v b (map g xs)))

        each_pair : (x : A) → with_p (g x) ≡ map node (map (pair x) (keep (p' x) (of (pull v) b xs)))
        each_pair x = ap (λ z. map (pair (g x)) (keep (p (g x)) z)) (of_map b) ∙ ap (map (pair (g x))) (keep_map (p (g x)) g (of (pull v) b xs) ∙ ap (λ q. map g (keep q (of (pull v) b xs))) (fun_ext (same x))) ∙ map_node (pair (g x)) (pair x) (λ y. refl) (keep (p' x) (of (pull v) b xs))

    some_of : (p : B → Bool) (a : ℕ) → some p (of v a (map g xs)) ≡ some (λ r. p (g r)) (of (pull v) a xs)
    some_of p a = ap (some p) (of_map a) ∙ some_map p (of (pull v) a xs)

    make_node : (op : Operator) (es : List Event) → make v op es (map g xs) ≡ map node (make (pull v) op es xs)
    make_node (event k) es = leaves_node k es
    make_node (related c a b) es = pairs_node (fits v c) (fits (pull v) c) (λ x y. refl) a b
    make_node (or a b) es = ap₂ ◌++◌ (arm left a) (arm right b) ∙ sym (map-append node (map (part left) (of (pull v) a xs)) (map (part right) (of (pull v) b xs)))
    make_node (absence c a b) es = ap (λ z. map (part only) (keep test z)) (of_map a) ∙ ap (map (part only)) (keep_map test g (of (pull v) a xs) ∙ ap (λ z. map g (keep z (of (pull v) a xs))) (fun_ext same_test)) ∙ map_node (part only) (part only) (λ x. refl) (keep test' (of (pull v) a xs))
      where
        test : B → Bool
        test r = not (forbidden v c (of v b (map g xs)) r)

        test' : A → Bool
        test' r = not (forbidden (pull v) c (of (pull v) b xs) r)

        same_test : (r : A) → test (g r) ≡ test' r
        same_test r = ap not (some_of (λ s. is_forbidding c (v.start (g r)) (v.end (g r)) (v.start s) (v.end s)) b)
    make_node (nearest c a b) es = pairs_node (near v c (of v a (map g xs)) (of v b (map g xs))) (near (pull v) c (of (pull v) a xs) (of (pull v) b xs)) (λ x y.
        ap₂ (λ p q. fits v Seq (g x) (g y) && (not p && not q)) (some_of (rival_of_second v (g x) (g y)) b) (some_of (rival_of_first v c (g x) (g y)) a)) a b
    make_node (after a d) es = arm (delayed d) a
    make_node (lasting c a d) es = ap (λ z. map (part only) (keep (λ r. has_length c d (v.start r) (v.end r)) z)) (of_map a) ∙ ap (map (part only)) (keep_map (λ r. has_length c d (v.start r) (v.end r)) g (of (pull v) a xs)) ∙ map_node (part only) (part only) (λ x. refl) (keep (λ r. has_length c d (v.start (g r)) (v.end (g r))) (of (pull v) a xs))

-- reading a table by places
pub map_same : {A B : Type 0} (f h : A → B) (xs : List A) → ((x : A) → Memᴰ x xs → f x ≡ h x) → map f xs ≡ map h xs
map_same f h [] p = refl
map_same f h (x ∷ xs) p = ap₂ ◌∷◌ (p x (Memᴰ.head refl)) (map_same f h xs (λ y m. p y (Memᴰ.tail m)))

map_shift : {A : Type 0} (f : ℕ → A) (a n : ℕ) → map f (numbers (suc a) n) ≡ map (λ i. f (suc i)) (numbers a n)
map_shift f a zero = refl
map_shift f a (suc n) = ap (◌∷◌ (f (suc a))) (map_shift f (suc a) n)

pub map_numbers : {A : Type 0} (d : A) (xs : List A) → map (λ i. get_or xs i d) (numbers 0 (length xs)) ≡ xs
map_numbers d [] = refl
map_numbers d (x ∷ xs) = ap (◌∷◌ x) (map_shift (λ i. get_or (x ∷ xs) i d) 0 (length xs) ∙ map_numbers d xs)

pub numbers_mem : (a n i : ℕ) → Memᴰ i (numbers a n) → i < a + n
numbers_mem a zero i m = absurd (Memᴰ.not-nil m)
numbers_mem a (suc n) i m = elim (Memᴰ.cases_cons m) [ inl e ↦ omega arith | inr k ↦ (let l : i < suc a + n = numbers_mem (suc a) n i k in omega arith) ]

pub at_map : {A B C : Type 0} (f : B → C) (h : A → B) (z : B) (d : A) → f z ≡ f (h d) → (xs : List A) (i : ℕ) → f (get_or (map h xs) i z) ≡ f (h (get_or xs i d))
at_map f h z d e [] i = e
at_map f h z d e (x ∷ xs) zero = refl
at_map f h z d e (x ∷ xs) (suc i) = at_map f h z d e xs i

pub row_entry : (ts : List Recognition) (t : Recognition) → (as_row ts t).entry ≡ entry_of t
row_entry ts (of_event n s i) = refl
row_entry ts (of_one n m t) = refl
row_entry ts (of_two n l r) = refl

pub row_start : (ts : List Recognition) (t : Recognition) → (as_row ts t).start ≡ start_of t
row_start ts (of_event n s i) = refl
row_start ts (of_one n m t) = refl
row_start ts (of_two n l r) = refl

pub row_end : (ts : List Recognition) (t : Recognition) → (as_row ts t).end ≡ end_of t
row_end ts (of_event n s i) = refl
row_end ts (of_one n m t) = refl
row_end ts (of_two n l r) = refl

abbrev pub nil : Recognition
nil = of_event 0 0 (pos 0)

abbrev pub nth : List Recognition → ℕ → Recognition
nth ts i = get_or ts i nil

row_at_entry : (ts : List Recognition) (i : ℕ) → (row_at (as_rows ts) i).entry ≡ entry_of (nth ts i)
row_at_entry ts i = at_map (λ r. r.entry) (as_row ts) (row 0 (pos 0) (pos 0) (pos 0) (pos 0)) nil refl ts i ∙ row_entry ts (nth ts i)

pub row_at_start : (ts : List Recognition) (i : ℕ) → (row_at (as_rows ts) i).start ≡ start_of (nth ts i)
row_at_start ts i = at_map (λ r. r.start) (as_row ts) (row 0 (pos 0) (pos 0) (pos 0) (pos 0)) nil refl ts i ∙ row_start ts (nth ts i)

row_at_end : (ts : List Recognition) (i : ℕ) → (row_at (as_rows ts) i).end ≡ end_of (nth ts i)
row_at_end ts i = at_map (λ r. r.end) (as_row ts) (row 0 (pos 0) (pos 0) (pos 0) (pos 0)) nil refl ts i ∙ row_end ts (nth ts i)

views : (ts : List Recognition) → places (as_rows ts) ≡ pull (nth ts) trees
views ts = λ j. record { entry = λ i. row_at_entry ts i j; start = λ i. row_at_start ts i j; end = λ i. row_at_end ts i j }

-- a list that holds the parts of what it holds
abbrev pub Parts : (Recognition → Type 0) → Recognition → Type 0
Parts P (of_event n s i) = Unit {0}
Parts P (of_one n m t) = P t
Parts P (of_two n l r) = P l × P r

abbrev pub Closed : List Recognition → Type 0
Closed ts = (t : Recognition) → Memᴰ t ts → Parts (λ u. Memᴰ u ts) t

parts_more : {P Q : Recognition → Type 0} (t : Recognition) → ((u : Recognition) → P u → Q u) → Parts P t → Parts Q t
parts_more (of_event n s i) f h = tt
parts_more (of_one n m t) f h = f t h
parts_more (of_two n l r) f h = (f l h.0, f r h.1)

pub parts_leaf : (P : Recognition → Type 0) (n k : ℕ) (es : List Event) (x : Node Recognition) → Memᴰ x (leaves k es) → Parts P (tree n x)
parts_leaf P n k es x m = let q = leaves_mem k es x m in subst (λ z. Parts P (tree n z)) (sym q.is) tt

-- what a rule derives of a closed list is made of its members
new_closed : (j : Rule) (es : List Event) (ts us : List Recognition) → Closed ts → ((t : Recognition) → Memᴰ t us → New j es ts t) → Closed (ts ++ us)
new_closed j es ts us c fresh t m = go (Memᴰ.append_cases ts m)
  where
    more : (u : Recognition) → Memᴰ u ts → Memᴰ u (ts ++ us)
    more u k = Memᴰ.append_left us k

    parts : New j es ts t → Parts (λ u. Memᴰ u ts) t
    parts k = subst (Parts (λ u. Memᴰ u ts)) (sym k.is) (made_all trees (λ u. Memᴰ u ts) (λ x. Parts (λ u. Memᴰ u ts) (tree j.entry x)) ts (λ r h. h) (λ i r h. h) (λ l r h h'. (h, h')) j.operator es k.x (λ i. parts_leaf (λ u. Memᴰ u ts) j.entry i es k.x) k.made)

    go : Memᴰ t ts ⊎ Memᴰ t us → Parts (λ u. Memᴰ u (ts ++ us)) t
    go (inl k) = parts_more t more (c t k)
    go (inr k) = parts_more t more (parts (fresh t k))

pub extend_closed : (es : List Event) (js : List Rule) (ts : List Recognition) → Closed ts → Closed (extend es js ts)
unfolding extend
extend_closed es [] ts c = c
extend_closed es (j ∷ js) ts c = extend_closed es js (ts ++ derived j es ts) (new_closed j es ts (derived j es ts) c (new j es ts))

pub append_front : (es : List Event) (js : List Rule) (ts : List Recognition) → Sorted before (append es js ts) → Sorted before ts
unfolding append
append_front es [] ts h = h
append_front es (j ∷ js) ts h = sorted_front before ts (arranged j es ts) (append_front es js (ts ++ arranged j es ts) h)

-- the rows of what was there stay
row_more : (ts us : List Recognition) (t : Recognition) → Sorted before ts → Sorted before (ts ++ us) → Parts (λ u. Memᴰ u ts) t → as_row (ts ++ us) t ≡ as_row ts t
row_more ts us (of_event n s i) h k c = refl
row_more ts us (of_one n m t) h k c = ap (λ z. row n (left_of m z) (right_of m z) (start_of t) (end_by m (end_of t))) (place_append ts us t h k c)
row_more ts us (of_two n l r) h k c = ap₂ (λ y z. row n (pos y) (pos z) (least (start_of l) (start_of r)) (greatest (end_of l) (end_of r))) (place_append ts us l h k c.0) (place_append ts us r h k c.1)

pub row_path : (n : ℕ) {l l' r r' s s' e e' : ℤ} → l ≡ l' → r ≡ r' → s ≡ s' → e ≡ e' → row n l r s e ≡ row n l' r' s' e'
row_path n p q u v = λ j. row n (p j) (q j) (u j) (v j)

module _ (j : Rule) (es : List Event) (ts : List Recognition) (c : Closed ts) where
  abbrev n : ℕ
  n = j.entry

  abbrev news : List Recognition
  news = arranged j es ts

  abbrev nums : List ℕ
  nums = numbers 0 (length (as_rows ts))

  abbrev made : List (Node ℕ)
  made = make (places (as_rows ts)) j.operator es nums

  abbrev test : Row → Bool
  test r = j.test r.start r.end

  made_trees : make trees j.operator es ts ≡ map (node (nth ts)) made
  made_trees = ap (make trees j.operator es) (sym (map_numbers nil ts)) ∙ make_node (nth ts) trees (numbers 0 (length ts)) j.operator es ∙ ap₂ (λ v k. map (node (nth ts)) (make v j.operator es (numbers 0 k))) (sym (views ts)) (sym (length-map ts (as_row ts)))

  module _ (h : Sorted before (ts ++ news)) where
    there : (i : ℕ) → i < length ts → place (ts ++ news) (nth ts i) ≡ i
    there i l = subst (λ z. place (ts ++ news) z ≡ i) (get_or-append ts news nil i l) (place_at nil (ts ++ news) i h (simp length-append (omega arith)))

    row_is : (x : Node ℕ) → Memᴰ x made → as_row (ts ++ news) (tree n (node (nth ts) x)) ≡ node_row (as_rows ts) n x
    row_is x m = made_all (places (as_rows ts)) (λ i. i < length ts) (λ y. as_row (ts ++ news) (tree n (node (nth ts) y)) ≡ node_row (as_rows ts) n y) nums
        (λ i k. let l : i < 0 + length (as_rows ts) = numbers_mem 0 (length (as_rows ts)) i k in let e : length (as_rows ts) ≡ length ts = length-map ts (as_row ts) in omega arith)
        (λ a i l. row_path n (ap (left_of a) (there i l)) (ap (right_of a) (there i l)) (sym (row_at_start ts i)) (ap (end_by a) (sym (row_at_end ts i))))
        (λ i k l l'. row_path n (ap pos (there i l)) (ap pos (there k l')) (ap₂ least (sym (row_at_start ts i)) (sym (row_at_start ts k))) (ap₂ greatest (sym (row_at_end ts i)) (sym (row_at_end ts k))))
        j.operator es x (λ k q. let e = leaves_mem k es x q in subst (λ y. as_row (ts ++ news) (tree n (node (nth ts) y)) ≡ node_row (as_rows ts) n y) (sym e.is) refl) (make_made (places (as_rows ts)) j.operator es nums x m)

    rows_step : as_rows (ts ++ news) ≡ as_rows ts ++ derived_rows j es (as_rows ts)
    rows_step = map-append (as_row (ts ++ news)) ts news ∙ ap₂ ◌++◌ (map_same (as_row (ts ++ news)) (as_row ts) ts (λ t m. row_more ts news t (sorted_front before ts news h) h (c t m))) new_rows
      where
        made_rows : map (as_row (ts ++ news)) (derived j es ts) ≡ keep test (map (node_row (as_rows ts) n) made)
        made_rows =
            sym (keep_map test (as_row (ts ++ news)) (map (tree n) (make trees j.operator es ts)) ∙ ap (λ p. map (as_row (ts ++ news)) (keep p (map (tree n) (make trees j.operator es ts)))) (fun_ext (λ t. ap₂ j.test (row_start (ts ++ news) t) (row_end (ts ++ news) t))))
            ∙ ap (keep test) (ap (λ z. map (as_row (ts ++ news)) (map (tree n) z)) made_trees ∙ ap (map (as_row (ts ++ news))) (map_map (tree n) (node (nth ts)) made) ∙ map_map (as_row (ts ++ news)) (λ x. tree n (node (nth ts) x)) made ∙ map_same (λ x. as_row (ts ++ news) (tree n (node (nth ts) x))) (node_row (as_rows ts) n) made row_is)

        new_rows : map (as_row (ts ++ news)) news ≡ derived_rows j es (as_rows ts)
        new_rows = map_stably (as_row (ts ++ news)) later_tree starts_later (λ t u. ap₂ lt_z (sym (row_start (ts ++ news) u)) (sym (row_start (ts ++ news) t))) (derived j es ts) ∙ ap (sort_stably starts_later) made_rows

-- the rules on rows write what the rules on trees append
pub append_writes : (es : List Event) (js : List Rule) (ts : List Recognition) → Closed ts → Sorted before (append es js ts) → extend_rows es js (as_rows ts) ≡ as_rows (append es js ts)
unfolding append extend_rows
append_writes es [] ts c h = refl
append_writes es (j ∷ js) ts c h =
    ap (extend_rows es js) (sym (rows_step j es ts c (append_front es js (ts ++ arranged j es ts) h)))
    ∙ append_writes es js (ts ++ arranged j es ts) (new_closed j es ts (arranged j es ts) c (arranged_new j es ts)) h
