-- Sets of recognitions closed under parts, under what could forbid them and under their rivals: those that lie inside one, those that end before an instant,
-- those that start at an instant or later. So later events change no earlier recognition, and events before a floor none from the floor on.
use Prim.Native.Nat.{ℕ, suc}
use native.Mathlib.Omega.{arith}
use mathlib.Core.Path.{◌≡◌, sym, ap, ◌∙◌, subst}
use mathlib.Core.Logic.{◌⊎◌, inl, inr, ◌↔◌}
use mathlib.Core.List.Memᴰ
use mathlib.Core.List.{List, [], ◌∷◌, ◌++◌, Memᴰ}
use lib.Dec.{T}
use lib.IntN.{ℤ}
use lib.Signed.{le_z}
use Rattle.interval.specs.Conditions.{is_forbidding}
use Rattle.interval.specs.declared.Edges.{Edges}
use Rattle.interval.proofs.Signed.{◌≤ᶻ◌, ◌<ᶻ◌, eq_fact, →le_z, least_is, greatest_is, holds→}
use Rattle.interval.proofs.Laws as Laws
use Rattle.interval.proofs.Laws.{forbidding_inside, second_between, first_between}
use Rattle.model.specs.Lists.{keep}
use Rattle.model.specs.Recognitions.{Event, Operator, Recognition, of_one, of_two, entry_of, start_of, end_of, recognitions}
use Rattle.model.specs.RowSteps.{Node, leaves, node_start, node_end}
use Rattle.model.proofs.Sorted.{keep_mem, mem_keep}
use Rattle.model.proofs.Trees.{end_by_lem, tree, trees, tree_start, tree_end}
use Rattle.model.proofs.Local.{Chart, Proper, Window}
use Rattle.model.proofs.Leaves.{IsLeaf, leaves_append, leaves_mem, mem_leaves}
use Rattle.model.proofs.Extend.{within}

-- u lies inside t
abbrev pub Inside : Recognition → Recognition → Type 0
Inside t u = (start_of t ≤ᶻ start_of u) × (end_of u ≤ᶻ end_of t)

forbids_in : (c : Edges) (r s : Recognition) → T (is_forbidding c (start_of r) (end_of r) (start_of s) (end_of s)) → Inside r s
forbids_in c r s h = let p = forbidding_inside c (start_of r) (end_of r) (start_of s) (end_of s) (holds→ _ h) in (p.start, p.end)

rival_in : (n : ℕ) (r s u : Recognition) → Laws.Between (start_of r) (end_of s) (start_of u) (end_of u) → Inside (of_two n r s) u
rival_in n r s u p =
    let a = p.start in
    let b = p.end in
    omega (arith, least_is (start_of r) (start_of s), greatest_is (end_of r) (end_of s))

-- what holds of a recognition and so of all that lies inside it
pub window : {W : Recognition → Type 0} → ((t u : Recognition) → Inside t u → W t → W u) → Window Proper W
window f = record {
  one = λ n m t. f (of_one n m t) t (omega (arith, end_by_lem m (end_of t)));
  fst = λ n l r. f (of_two n l r) l (omega (arith, least_is (start_of l) (start_of r), greatest_is (end_of l) (end_of r)));
  snd = λ n l r. f (of_two n l r) r (omega (arith, least_is (start_of l) (start_of r), greatest_is (end_of l) (end_of r)));
  bar = λ c r s t. f r s (forbids_in c r s t);
  second_rival = λ n r s u p t. f (of_two n r s) u (rival_in n r s u (second_between (start_of r) (end_of r) (end_of s) (start_of u) (end_of u) p (holds→ _ t)));
  first_rival = λ c n r s u p t. f (of_two n r s) u (rival_in n r s u (first_between c (start_of r) (end_of r) (start_of s) (end_of s) (start_of u) (end_of u) p (holds→ _ t)));
}

pub inside : (t : Recognition) → Window Proper (Inside t)
inside t = window (λ u v h k. omega arith)

abbrev pub EndsBefore : ℤ → Recognition → Type 0
EndsBefore o t = end_of t <ᶻ o

pub earlier : (o : ℤ) → Window Proper (EndsBefore o)
earlier o = window (λ t u h k. omega arith)

abbrev pub StartsFrom : ℤ → Recognition → Type 0
StartsFrom f t = f ≤ᶻ start_of t

pub later : (f : ℤ) → Window Proper (StartsFrom f)
later f = window (λ t u h k. omega arith)

-- an event at o or later changes no recognition that ends before o
module _ (ops : List Operator) (chart : Chart 0 ops) (es : List Event) (e : Event) (o : ℤ) (late : o ≤ᶻ e.instant) where
  old : (n k : ℕ) (x : Node Recognition) → EndsBefore o (tree n x) → Memᴰ x (leaves k (es ++ e ∷ [])) → Memᴰ x (leaves k es)
  old n k x h m = go (Memᴰ.append_cases (leaves k es) (subst (Memᴰ x) (leaves_append k es (e ∷ [])) m))
    where
      last : IsLeaf k (e ∷ []) x → ⊥
      last q =
          let p : end_of (tree n x) ≡ q.e.instant = tree_end n x ∙ ap (node_end trees) q.is in
          let r : q.e.instant ≡ e.instant = ap (λ z. z.instant) (Memᴰ.eq_of_singleton q.there) in
          omega (arith, eq_fact (p ∙ r))

      go : Memᴰ x (leaves k es) ⊎ Memᴰ x (leaves k (e ∷ [])) → Memᴰ x (leaves k es)
      go (inl p) = p
      go (inr p) = absurd (last (leaves_mem k (e ∷ []) x p))

  new : (n k : ℕ) (x : Node Recognition) → EndsBefore o (tree n x) → Memᴰ x (leaves k es) → Memᴰ x (leaves k (es ++ e ∷ []))
  new n k x h m = subst (Memᴰ x) (sym (leaves_append k es (e ∷ []))) (Memᴰ.append_left (leaves k (e ∷ [])) m)

  pub event_same : (t : Recognition) → EndsBefore o t → Memᴰ t (recognitions ops es) ↔ Memᴰ t (recognitions ops (es ++ e ∷ []))
  event_same t = within (earlier o) ops chart es (es ++ e ∷ []) new old (suc (entry_of t)) t (omega arith)

-- the events from f on, and the recognitions that start at f or later
abbrev pub events_from : ℤ → List Event → List Event
events_from f es = keep (λ e. le_z f e.instant) es

module _ (ops : List Operator) (chart : Chart 0 ops) (es : List Event) (f : ℤ) where
  kept : (n k : ℕ) (x : Node Recognition) → StartsFrom f (tree n x) → Memᴰ x (leaves k es) → Memᴰ x (leaves k (events_from f es))
  kept n k x h m =
      let q = leaves_mem k es x m in
      let p : start_of (tree n x) ≡ q.e.instant = tree_start n x ∙ ap (node_start trees) q.is in
      mem_leaves k (events_from f es) x (record { e = q.e; is = q.is; code = q.code; there = mem_keep (λ e. le_z f e.instant) es q.there (→le_z f q.e.instant (omega (arith, eq_fact p))) })

  whole : (n k : ℕ) (x : Node Recognition) → StartsFrom f (tree n x) → Memᴰ x (leaves k (events_from f es)) → Memᴰ x (leaves k es)
  whole n k x h m =
      let q = leaves_mem k (events_from f es) x m in
      mem_leaves k es x (record { e = q.e; is = q.is; code = q.code; there = (keep_mem (λ e. le_z f e.instant) es q.there).0 })

  pub floor_same : (t : Recognition) → StartsFrom f t → Memᴰ t (recognitions ops es) ↔ Memᴰ t (recognitions ops (events_from f es))
  floor_same t = within (later f) ops chart es (events_from f es) kept whole (suc (entry_of t)) t (omega arith)
