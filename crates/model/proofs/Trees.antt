-- Recognitions as parts: what an operator makes of them are the recognitions that the definition has.
use Prim.Native.Nat.{ℕ}
use mathlib.Core.Path.{◌≡◌, refl, ap, ap₂, ◌∙◌}
use mathlib.Core.Bool.{Bool, not}
use mathlib.Core.List.{List, [], ◌∷◌, ◌++◌, map, map-append}
use native.Mathlib.Omega.{arith}
use lib.Dec.{eqb}
use lib.IntN.{ℤ}
use Rattle.interval.specs.Conditions.{has_length}
use Rattle.interval.proofs.Signed.{◌≤ᶻ◌, add_most}
use Rattle.model.specs.Lists.{keep, each}
use Rattle.model.specs.Recognitions.{Event, Operator, event, related, or, absence, lasting, after, nearest, Arm, only, left, right, delayed, Recognition, of_event, of_one, of_two, entry_of, start_of, end_by, end_of, recognitions_of}
use Rattle.model.specs.RowSteps.{Node, leaf, part, pair, View, pairs, make, of, fits, forbidden, near, node_start, node_end}

-- a whole ends no earlier than its one part
pub end_by_lem : (m : Arm) (e : ℤ) → e ≤ᶻ end_by m e
end_by_lem only e = omega arith
end_by_lem left e = omega arith
end_by_lem right e = omega arith
end_by_lem (delayed d) e = omega (arith, add_most e d)

abbrev pub trees : View Recognition
trees = record { entry = entry_of; start = start_of; end = end_of }

abbrev pub tree : ℕ → Node Recognition → Recognition
tree n (leaf s i) = of_event n s i
tree n (part m r) = of_one n m r
tree n (pair r s) = of_two n r s

pub tree_entry : (n : ℕ) (x : Node Recognition) → entry_of (tree n x) ≡ n
tree_entry n (leaf s i) = refl
tree_entry n (part m r) = refl
tree_entry n (pair r s) = refl

pub tree_start : (n : ℕ) (x : Node Recognition) → start_of (tree n x) ≡ node_start trees x
tree_start n (leaf s i) = refl
tree_start n (part m r) = refl
tree_start n (pair r s) = refl

pub tree_end : (n : ℕ) (x : Node Recognition) → end_of (tree n x) ≡ node_end trees x
tree_end n (leaf s i) = refl
tree_end n (part m r) = refl
tree_end n (pair r s) = refl

pub map_map : {A B C : Type 0} (f : B → C) (h : A → B) (xs : List A) → map f (map h xs) ≡ map (λ x. f (h x)) xs
map_map f h [] = refl
map_map f h (x ∷ xs) = ap (◌∷◌ (f (h x))) (map_map f h xs)

map_each : {A B C : Type 0} (f : B → C) (g : A → List B) (h : A → List C) → ((x : A) → map f (g x) ≡ h x) → (xs : List A) → map f (each g xs) ≡ each h xs
map_each f g h e [] = refl
map_each f g h e (x ∷ xs) = map-append f (g x) (each g xs) ∙ ap₂ ◌++◌ (e x) (map_each f g h e xs)

pairs_trees : (n : ℕ) (p : Recognition → Recognition → Bool) (rs ss : List Recognition) → map (tree n) (pairs p rs ss) ≡ each (λ r. map (of_two n r) (keep (p r) ss)) rs
pairs_trees n p rs ss = map_each (tree n) (λ r. map (pair r) (keep (p r) ss)) (λ r. map (of_two n r) (keep (p r) ss)) (λ r. map_map (tree n) (pair r) (keep (p r) ss)) rs

pub make_recognitions : (n : ℕ) (op : Operator) (es : List Event) (ts : List Recognition) → map (tree n) (make trees op es ts) ≡ recognitions_of n op es ts
unfolding recognitions_of
make_recognitions n (event k) es ts = map_map (tree n) (λ e. leaf e.serial e.instant) (keep (λ e. eqb e.code k) es)
make_recognitions n (related c a b) es ts = pairs_trees n (fits trees c) (of trees a ts) (of trees b ts)
make_recognitions n (or a b) es ts = map-append (tree n) (map (part left) (of trees a ts)) (map (part right) (of trees b ts)) ∙ ap₂ ◌++◌ (map_map (tree n) (part left) (of trees a ts)) (map_map (tree n) (part right) (of trees b ts))
make_recognitions n (absence c a b) es ts = map_map (tree n) (part only) (keep (λ r. not (forbidden trees c (of trees b ts) r)) (of trees a ts))
make_recognitions n (nearest c a b) es ts = pairs_trees n (near trees c (of trees a ts) (of trees b ts)) (of trees a ts) (of trees b ts)
make_recognitions n (after a d) es ts = map_map (tree n) (part (delayed d)) (of trees a ts)
make_recognitions n (lasting c a d) es ts = map_map (tree n) (part only) (keep (λ r. has_length c d (start_of r) (end_of r)) (of trees a ts))
