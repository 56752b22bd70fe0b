-- What an operator makes stands in order, end, entry and start aside; sorted by later start, it stands in the order of rows.
use Prim.Native.Nat.{ℕ, ◌<◌}
use native.Mathlib.Omega.{arith}
use mathlib.Core.Path.{◌≡◌, refl, sym, ap, ◌∙◌, subst, subst₂}
use mathlib.Core.Logic.{inl, inr}
use mathlib.Core.Bool.{Bool, not}
use mathlib.Core.List.Memᴰ
use mathlib.Core.List.{List, [], ◌∷◌, ◌++◌, map, Memᴰ}
use lib.Dec.{T, ltb, eqb, ltb→lt}
use lib.IntN.{ℤ, pos, neg_ℤ}
use lib.Signed.{lt_z}
use Rattle.interval.specs.Conditions.{has_length}
use Rattle.interval.proofs.Signed.{◌≤ᶻ◌, ◌<ᶻ◌, eq_fact, lt_z→, nlt_z→, neg_turns, le_cases}
use Rattle.model.specs.Lists.{keep, each, sort_stably}
use Rattle.model.specs.Recognitions.{Event, Operator, event, related, or, absence, lasting, after, nearest, Arm, only, left, right, delayed, Recognition, entry_of, start_of, end_of}
use Rattle.model.specs.Order.{arm_number, before}
use Rattle.model.specs.RowSteps.{Node, leaf, part, pair, leaves, pairs, make, of, fits, forbidden, near, node_start, node_end, Rule}
use Rattle.model.specs.Statements.{Sorted}
use Rattle.model.proofs.Sorted.{sorted_append, sorted_keep, each_mem, keep_mem, keep_map, stably_mem, mem_stably, Decides, sorted_stably}
use Rattle.model.proofs.Order.{lex, lex_lt, lex_eq, lex_behind, key, before→lex, lex→before, before_trans, before_append}
use Rattle.model.proofs.Trees.{tree, trees, tree_start, tree_end}
use Rattle.model.proofs.Extend.{derived, New, new, add}

-- order carried over
module _ {A B : Type 0} (R : A → A → Bool) (S : B → B → Bool) where
  pub sorted_map : (f : A → B) (xs : List A) → ((x y : A) → Memᴰ x xs → Memᴰ y xs → T (R x y) → T (S (f x) (f y))) → Sorted R xs → Sorted S (map f xs)
  sorted_map f [] h s = tt
  sorted_map f (x ∷ xs) h s = (λ y m. let p = Memᴰ.of_map f xs m in subst (λ z. T (S (f x) z)) p.2 (h x p.0 (Memᴰ.head refl) (Memᴰ.tail p.1) (s.0 p.0 p.1)), sorted_map f xs (λ a b m n. h a b (Memᴰ.tail m) (Memᴰ.tail n)) s.1)

  pub sorted_each : (f : A → List B) (xs : List A) → ((x : A) → Sorted S (f x)) → ((x y : A) (a b : B) → T (R x y) → Memᴰ a (f x) → Memᴰ b (f y) → T (S a b)) → Sorted R xs → Sorted S (each f xs)
  sorted_each f [] g h s = tt
  sorted_each f (x ∷ xs) g h s = sorted_append S (f x) (g x) (sorted_each f xs g h s.1) (λ a b m n. let p = each_mem f xs n in h x p.0 a b (s.0 p.0 p.1) m p.2)

abbrev pub tail : Node Recognition → List ℤ
tail (leaf s i) = pos 0 ∷ pos s ∷ []
tail (part m t) = pos 1 ∷ pos (arm_number m) ∷ key t
tail (pair l r) = pos 2 ∷ (key l ++ key r)

pub key_tree : (n : ℕ) (x : Node Recognition) → key (tree n x) ≡ node_end trees x ∷ pos n ∷ neg_ℤ (node_start trees x) ∷ tail x
key_tree n (leaf s i) = refl
key_tree n (part m t) = refl
key_tree n (pair l r) = refl

abbrev pub ranked : Node Recognition → Node Recognition → Bool
ranked x y = lex (tail x) (tail y)

-- events by serial
abbrev pub by_serial : Event → Event → Bool
by_serial e f = ltb e.serial f.serial

sorted_leaves : (k : ℕ) (es : List Event) → Sorted by_serial es → Sorted ranked (leaves k es)
sorted_leaves k es h = sorted_map by_serial ranked (λ e. leaf e.serial e.instant) (keep (λ e. eqb e.code k) es) first (sorted_keep by_serial (λ e. eqb e.code k) es h)
  where
    first : (e f : Event) → Memᴰ e (keep (λ e. eqb e.code k) es) → Memᴰ f (keep (λ e. eqb e.code k) es) → T (by_serial e f) → T (ranked (leaf e.serial e.instant) (leaf f.serial f.instant))
    first e f m n l =
        let q : e.serial < f.serial = ltb→lt e.serial f.serial l in
        lex_eq (pos 0) (pos 0) (pos e.serial ∷ []) (pos f.serial ∷ []) refl (lex_lt (pos e.serial) (pos f.serial) [] [] (omega arith))

part_ranked : (m : Arm) (t u : Recognition) → T (before t u) → T (ranked (part m t) (part m u))
part_ranked m t u h = lex_eq (pos 1) (pos 1) (pos (arm_number m) ∷ key t) (pos (arm_number m) ∷ key u) refl (lex_eq (pos (arm_number m)) (pos (arm_number m)) (key t) (key u) refl (before→lex t u h))

pair_ranked : (l r r' : Recognition) → T (before r r') → T (ranked (pair l r) (pair l r'))
pair_ranked l r r' h = lex_eq (pos 2) (pos 2) (key l ++ key r) (key l ++ key r') refl (lex_behind (key l) (key r) (key r') (before→lex r r' h))

pairs_ranked : (l l' r r' : Recognition) → T (before l l') → T (ranked (pair l r) (pair l' r'))
pairs_ranked l l' r r' h = lex_eq (pos 2) (pos 2) (key l ++ key r) (key l' ++ key r') refl (before_append l l' (key r) (key r') h)

arms_ranked : (t u : Recognition) → T (ranked (part left t) (part right u))
arms_ranked t u = lex_eq (pos 1) (pos 1) (pos 1 ∷ key t) (pos 2 ∷ key u) refl (lex_lt (pos 1) (pos 2) (key t) (key u) (omega arith))

sorted_pairs : (p : Recognition → Recognition → Bool) (a b : ℕ) (ts : List Recognition) → Sorted before ts → Sorted ranked (pairs p (of trees a ts) (of trees b ts))
sorted_pairs p a b ts h =
    sorted_each before ranked (λ l. map (pair l) (keep (p l) (of trees b ts))) (of trees a ts)
    (λ l. sorted_map before ranked (pair l) (keep (p l) (of trees b ts)) (λ r r' m m'. pair_ranked l r r') (sorted_keep before (p l) (of trees b ts) (sorted_keep before (λ x. eqb (entry_of x) b) ts h)))
    (λ l l' x x' q m m'.
    let w = Memᴰ.of_map (pair l) (keep (p l) (of trees b ts)) m in
    let w' = Memᴰ.of_map (pair l') (keep (p l') (of trees b ts)) m' in
    subst₂ (λ y z. T (ranked y z)) w.2 w'.2 (pairs_ranked l l' w.0 w'.0 q))
    (sorted_keep before (λ x. eqb (entry_of x) a) ts h)

pub make_ranked : (op : Operator) (es : List Event) (ts : List Recognition) → Sorted by_serial es → Sorted before ts → Sorted ranked (make trees op es ts)
make_ranked (event k) es ts g h = sorted_leaves k es g
make_ranked (related c a b) es ts g h = sorted_pairs (fits trees c) a b ts h
make_ranked (or a b) es ts g h =
    sorted_append ranked (map (part left) (of trees a ts)) (arm left a) (arm right b) (λ x y m n.
    let q = Memᴰ.of_map (part left) (of trees a ts) m in
    let q' = Memᴰ.of_map (part right) (of trees b ts) n in
    subst₂ (λ y z. T (ranked y z)) q.2 q'.2 (arms_ranked q.0 q'.0))
  where
    arm : (m : Arm) (c : ℕ) → Sorted ranked (map (part m) (of trees c ts))
    arm m c = sorted_map before ranked (part m) (of trees c ts) (λ t u m' n. part_ranked m t u) (sorted_keep before (λ x. eqb (entry_of x) c) ts h)
make_ranked (absence c a b) es ts g h = sorted_map before ranked (part only) (keep (λ r. not (forbidden trees c (of trees b ts) r)) (of trees a ts)) (λ t u m n. part_ranked only t u) (sorted_keep before (λ r. not (forbidden trees c (of trees b ts) r)) (of trees a ts) (sorted_keep before (λ x. eqb (entry_of x) a) ts h))
make_ranked (nearest c a b) es ts g h = sorted_pairs (near trees c (of trees a ts) (of trees b ts)) a b ts h
make_ranked (after a d) es ts g h = sorted_map before ranked (part (delayed d)) (of trees a ts) (λ t u m n. part_ranked (delayed d) t u) (sorted_keep before (λ x. eqb (entry_of x) a) ts h)
make_ranked (lasting c a d) es ts g h = sorted_map before ranked (part only) (keep (λ r. has_length c d (start_of r) (end_of r)) (of trees a ts)) (λ t u m n. part_ranked only t u) (sorted_keep before (λ r. has_length c d (start_of r) (end_of r)) (of trees a ts) (sorted_keep before (λ x. eqb (entry_of x) a) ts h))

-- trees of one entry and end: the later start is before; where neither is later, as they are ranked
abbrev pub later_tree : Recognition → Recognition → Bool
later_tree t u = lt_z (start_of u) (start_of t)

tree_before : (n : ℕ) (x y : Node Recognition) → node_end trees x ≡ node_end trees y → T (lex (neg_ℤ (node_start trees x) ∷ tail x) (neg_ℤ (node_start trees y) ∷ tail y)) → T (before (tree n x) (tree n y))
tree_before n x y e h = lex→before (tree n x) (tree n y) (subst₂ (λ a b. T (lex a b)) (sym (key_tree n x)) (sym (key_tree n y)) (lex_eq (node_end trees x) (node_end trees y) (pos n ∷ neg_ℤ (node_start trees x) ∷ tail x) (pos n ∷ neg_ℤ (node_start trees y) ∷ tail y) e (lex_eq (pos n) (pos n) (neg_ℤ (node_start trees x) ∷ tail x) (neg_ℤ (node_start trees y) ∷ tail y) refl h)))

later_before : (n : ℕ) (x y : Node Recognition) → node_end trees x ≡ node_end trees y → node_start trees y <ᶻ node_start trees x → T (before (tree n x) (tree n y))
later_before n x y e h = tree_before n x y e (lex_lt (neg_ℤ (node_start trees x)) (neg_ℤ (node_start trees y)) (tail x) (tail y) (neg_turns (node_start trees x) (node_start trees y) h))

ranked_before : (n : ℕ) (x y : Node Recognition) → node_end trees x ≡ node_end trees y → node_start trees y ≤ᶻ node_start trees x → T (ranked x y) → T (before (tree n x) (tree n y))
ranked_before n x y e h r = elim (le_cases (node_start trees y) (node_start trees x) h) as (λ z. T (before (tree n x) (tree n y)))
    [ inl l ↦ later_before n x y e l | inr q ↦ tree_before n x y e (lex_eq (neg_ℤ (node_start trees x)) (neg_ℤ (node_start trees y)) (tail x) (tail y) (ap neg_ℤ (sym q)) r) ]

-- what a rule derives, the later start first
abbrev pub arranged : Rule → List Event → List Recognition → List Recognition
arranged j es ts = sort_stably later_tree (derived j es ts)

pub arranged_new : (j : Rule) (es : List Event) (ts : List Recognition) (t : Recognition) → Memᴰ t (arranged j es ts) → New j es ts t
arranged_new j es ts t m = new j es ts t (stably_mem later_tree (derived j es ts) m)

pub new_arranged : (j : Rule) (es : List Event) (ts : List Recognition) (t : Recognition) → New j es ts t → Memᴰ t (arranged j es ts)
new_arranged j es ts t k = mem_stably later_tree (derived j es ts) (add j es ts t k)

-- the rules one after another, each over what the earlier ones left
unfoldable pub append : List Event → List Rule → List Recognition → List Recognition
append es [] ts = ts
append es (j ∷ js) ts = append es js (ts ++ arranged j es ts)

-- where the test of a rule fixes the end, what it derives stands in order
pub arranged_sorted : (j : Rule) (es : List Event) (ts : List Recognition)
    → ((t u : Recognition) → T (j.test (start_of t) (end_of t)) → T (j.test (start_of u) (end_of u)) → end_of t ≡ end_of u)
    → Sorted by_serial es → Sorted before ts → Sorted before (arranged j es ts)
arranged_sorted j es ts fixes g h = subst (λ z. Sorted before (sort_stably later_tree z)) (sym (keep_map (λ t. j.test (start_of t) (end_of t)) (tree n) (make trees j.operator es ts))) (sorted_stably ranked later_tree before before_trans (tree n) xs decides (sorted_keep ranked test (make trees j.operator es ts) (make_ranked j.operator es ts g h)))
  where
    n : ℕ
    n = j.entry

    test : Node Recognition → Bool
    test x = j.test (start_of (tree n x)) (end_of (tree n x))

    xs : List (Node Recognition)
    xs = keep test (make trees j.operator es ts)

    ends : (x y : Node Recognition) → Memᴰ x xs → Memᴰ y xs → node_end trees x ≡ node_end trees y
    ends x y m k = sym (tree_end n x) ∙ fixes (tree n x) (tree n y) (keep_mem test (make trees j.operator es ts) m).1 (keep_mem test (make trees j.operator es ts) k).1 ∙ tree_end n y

    decides : (x y : Node Recognition) → Memᴰ x xs → Memᴰ y xs → T (ranked x y) → Decides ranked later_tree before before_trans (tree n) (tree n x) (tree n y)
    decides x y m k r = (
      λ l. later_before n y x (ends y x k m) (omega (arith, lt_z→ (start_of (tree n x)) (start_of (tree n y)) l, eq_fact (tree_start n x), eq_fact (tree_start n y))),
      λ l. ranked_before n x y (ends x y m k) (omega (arith, nlt_z→ (start_of (tree n x)) (start_of (tree n y)) l, eq_fact (tree_start n x), eq_fact (tree_start n y))) r,
    )
