-- The recognitions, rule by rule; a tree is one just where its entry's operator makes it of others.
use Prim.Native.Nat.{ℕ, zero, suc, ◌+◌, ◌<◌, ◌≤◌}
use native.Mathlib.Omega.{arith}
use mathlib.Core.Path.{◌≡◌, refl, sym, ap, ◌∙◌, subst}
use mathlib.Core.Logic.{◌⊎◌, inl, inr}
use mathlib.Core.Bool.{Bool, true}
use mathlib.Core.List.{List, [], ◌∷◌, ◌++◌, map, Memᴰ}
use lib.Dec.{T}
use lib.IntN.{ℤ}
use lib.ListN.{length}
use Rattle.interval.proofs.Laws.{start_le_end}
use Rattle.model.specs.Lists.{keep}
use Rattle.model.specs.Recognitions.{Event, Operator, Arm, Recognition, of_one, of_two, entry_of, start_of, end_of, with_entries, recognitions}
use Rattle.model.specs.RowSteps.{Node, part, pair, leaves, make, Rule, rules}
use Rattle.model.specs.Statements.{OperatorAt}
use Rattle.model.proofs.Sorted.{keep_mem, mem_keep}
use Rattle.model.proofs.Trees.{end_by_lem, tree, trees, tree_entry, make_recognitions}
use Rattle.model.proofs.Made.{Made, make_made, made_make, made_all}
use Rattle.model.proofs.Leaves.{leaves_mem}
use Rattle.model.proofs.Local.{Lower, Chart, Proper, Window, local}

-- what a rule derives, on trees, and the rules one after another
abbrev pub derived : Rule → List Event → List Recognition → List Recognition
derived j es ts = keep (λ t. j.test (start_of t) (end_of t)) (map (tree j.entry) (make trees j.operator es ts))

unfoldable pub extend : List Event → List Rule → List Recognition → List Recognition
extend es [] ts = ts
extend es (j ∷ js) ts = extend es js (ts ++ derived j es ts)

-- the rules that leave nothing out
abbrev pub always : ℕ → ℤ → ℤ → Bool
always n s e = true

keep_all : (ts : List Recognition) → keep (λ t. true) ts ≡ ts
keep_all [] = refl
keep_all (t ∷ ts) = ap (◌∷◌ t) (keep_all ts)

with_entries_lem : (n : ℕ) (ops : List Operator) (es : List Event) (ts : List Recognition) → with_entries n ops es ts ≡ extend es (rules always n ops) ts
unfolding with_entries extend
with_entries_lem n [] es ts = refl
with_entries_lem n (op ∷ ops) es ts =
    ap (λ us. with_entries (suc n) ops es (ts ++ us)) (sym (make_recognitions n op es ts) ∙ sym (keep_all (map (tree n) (make trees op es ts))))
    ∙ with_entries_lem (suc n) ops es (ts ++ keep (λ t. true) (map (tree n) (make trees op es ts)))

pub recognitions_extend : (ops : List Operator) (es : List Event) → recognitions ops es ≡ extend es (rules always 0 ops) []
unfolding recognitions
recognitions_extend ops es = with_entries_lem 0 ops es []

-- what stands in what a rule derives
pub record New (j : Rule) (es : List Event) (ts : List Recognition) (t : Recognition) : Type 0 where
  pub x : Node Recognition
  pub is : t ≡ tree j.entry x
  pub made : Made trees j.operator es ts x
  pub ok : T (j.test (start_of t) (end_of t))

pub new : (j : Rule) (es : List Event) (ts : List Recognition) (t : Recognition) → Memᴰ t (derived j es ts) → New j es ts t
new j es ts t m =
    let k = keep_mem (λ t. j.test (start_of t) (end_of t)) (map (tree j.entry) (make trees j.operator es ts)) m in
    let q = mathlib.Core.List.Memᴰ.of_map (tree j.entry) (make trees j.operator es ts) k.0 in
    record { x = q.0; is = sym q.2; made = make_made trees j.operator es ts q.0 q.1; ok = k.1 }

pub add : (j : Rule) (es : List Event) (ts : List Recognition) (t : Recognition) → New j es ts t → Memᴰ t (derived j es ts)
add j es ts t h = mem_keep (λ t. j.test (start_of t) (end_of t)) (map (tree j.entry) (make trees j.operator es ts)) (mathlib.Core.List.Memᴰ.cast h.is (mathlib.Core.List.Memᴰ.map (tree j.entry) (made_make trees j.operator es ts h.x h.made))) h.ok

pub new_entry : {j : Rule} {es : List Event} {ts : List Recognition} {t : Recognition} → New j es ts t → entry_of t ≡ j.entry
new_entry {j} h = ap entry_of h.is ∙ tree_entry j.entry h.x

-- what every derived tree has, all have
pub extend_all : (P : Recognition → Type 0) (es : List Event)
    → ((n : ℕ) (x : Node Recognition) (k : ℕ) → Memᴰ x (leaves k es) → P (tree n x)) → ((n : ℕ) (m : Arm) (r : Recognition) → P r → P (tree n (part m r))) → ((n : ℕ) (l r : Recognition) → P l → P r → P (tree n (pair l r)))
    → (js : List Rule) (ts : List Recognition) → ((t : Recognition) → Memᴰ t ts → P t) → (t : Recognition) → Memᴰ t (extend es js ts) → P t
unfolding extend
extend_all P es a b c [] ts h t m = h t m
extend_all P es a b c (j ∷ js) ts h t m = extend_all P es a b c js (ts ++ derived j es ts) (λ u k. go u (mathlib.Core.List.Memᴰ.append_cases ts k)) t m
  where
    go : (u : Recognition) → Memᴰ u ts ⊎ Memᴰ u (derived j es ts) → P u
    go u (inl k) = h u k
    go u (inr k) = let w = new j es ts u k in subst P (sym w.is) (made_all trees P (λ x. P (tree j.entry x)) ts h (b j.entry) (c j.entry) j.operator es w.x (a j.entry w.x) w.made)

-- what every event has, and with its parts every whole, every recognition has
pub recs_all : (P : Recognition → Type 0) (ops : List Operator) (es : List Event) → ((n : ℕ) (x : Node Recognition) (k : ℕ) → Memᴰ x (leaves k es) → P (tree n x)) → ((n : ℕ) (m : Arm) (r : Recognition) → P r → P (of_one n m r)) → ((n : ℕ) (l r : Recognition) → P l → P r → P (of_two n l r)) → (t : Recognition) → Memᴰ t (recognitions ops es) → P t
recs_all P ops es a b c t m = extend_all P es a b c (rules always 0 ops) [] (λ u k. absurd (mathlib.Core.List.Memᴰ.not-nil k)) t (subst (Memᴰ t) (recognitions_extend ops es) m)

pub recs_proper : (ops : List Operator) (es : List Event) (t : Recognition) → Memᴰ t (recognitions ops es) → Proper t
recs_proper ops es = recs_all Proper ops es (λ n x k m. subst (λ z. Proper (tree n z)) (sym (leaves_mem k es x m).is) (omega arith)) (λ n m r h. omega (arith, end_by_lem m (end_of r))) (λ n l r h k. start_le_end (start_of l) (end_of l) (start_of r) (end_of r) h k)

-- an entry with an operator is one of the chart
pub op_low : (ops : List Operator) (n : ℕ) (op : Operator) → OperatorAt ops n op → n < length ops
op_low [] n op a = absurd a
op_low (p ∷ ops) zero op a = omega arith
op_low (p ∷ ops) (suc n) op a = let l : n < length ops = op_low ops n op a in omega arith

-- t is made of members of `all` by the operator of its entry
pub record From (ops : List Operator) (es : List Event) (all : List Recognition) (t : Recognition) : Type 0 where
  pub operator : Operator
  pub at : OperatorAt ops (entry_of t) operator
  pub lower : Lower (entry_of t) operator
  pub x : Node Recognition
  pub is : t ≡ tree (entry_of t) x
  pub made : Made trees operator es all x

plus_suc : (n k : ℕ) → n + suc k ≡ suc n + k
plus_suc n k = omega arith

everything : Window (λ t. Unit {0}) (λ t. Unit {0})
everything = record { one = λ n m t h. tt; fst = λ n l r h. tt; snd = λ n l r h. tt; bar = λ c r s t h. tt; second_rival = λ n r s u p t h. tt; first_rival = λ c n r s u p t h. tt }

module _ (ops : List Operator) (es : List Event) where
  abbrev rule_of : ℕ → Operator → Rule
  rule_of n o = record { entry = n; operator = o; test = always n }

  abbrev G : List Operator → ℕ → List Recognition → List Recognition
  G os n us = extend es (rules always n os) us

  extend_more : (os : List Operator) (n : ℕ) (us : List Recognition) (t : Recognition) → Memᴰ t us → Memᴰ t (G os n us)
  unfolding extend
  extend_more [] n us t m = m
  extend_more (o ∷ os) n us t m = extend_more os (suc n) (us ++ derived (rule_of n o) es us) t (mathlib.Core.List.Memᴰ.append_left (derived (rule_of n o) es us) m)

  extend_new : (os : List Operator) (n : ℕ) (us : List Recognition) (t : Recognition) → Memᴰ t (G os n us) → Memᴰ t us ⊎ (n ≤ entry_of t)
  unfolding extend
  extend_new [] n us t m = inl m
  extend_new (o ∷ os) n us t m = go (extend_new os (suc n) (us ++ derived (rule_of n o) es us) t m)
    where
      old : Memᴰ t us ⊎ Memᴰ t (derived (rule_of n o) es us) → Memᴰ t us ⊎ (n ≤ entry_of t)
      old (inl h) = inl h
      old (inr h) =
          let e : entry_of t ≡ n = new_entry (new (rule_of n o) es us t h) in
          inr (omega arith)

      go : Memᴰ t (us ++ derived (rule_of n o) es us) ⊎ (suc n ≤ entry_of t) → Memᴰ t us ⊎ (n ≤ entry_of t)
      go (inl h) = old (mathlib.Core.List.Memᴰ.append_cases us h)
      go (inr h) = inr (omega arith)

  extend_below : (os : List Operator) (n : ℕ) (us : List Recognition) (t : Recognition) → Memᴰ t (G os n us) → Memᴰ t us ⊎ (entry_of t < n + length os)
  unfolding extend
  extend_below [] n us t m = inl m
  extend_below (o ∷ os) n us t m = go (extend_below os (suc n) (us ++ derived (rule_of n o) es us) t m)
    where
      old : Memᴰ t us ⊎ Memᴰ t (derived (rule_of n o) es us) → Memᴰ t us ⊎ (entry_of t < n + length (o ∷ os))
      old (inl h) = inl h
      old (inr h) =
          let e : entry_of t ≡ n = new_entry (new (rule_of n o) es us t h) in
          inr (omega arith)

      go : Memᴰ t (us ++ derived (rule_of n o) es us) ⊎ (entry_of t < suc n + length os) → Memᴰ t us ⊎ (entry_of t < n + length (o ∷ os))
      go (inl h) = old (mathlib.Core.List.Memᴰ.append_cases us h)
      go (inr h) = inr (omega arith)

  -- operands of entry n: in the list so far just where they are among all
  module _ (n : ℕ) (us all : List Recognition) (f : (t : Recognition) → Memᴰ t us → Memᴰ t all) (g : (t : Recognition) → entry_of t < n → Memᴰ t all → Memᴰ t us) where
    wide : (o : Operator) → Lower n o → (x : Node Recognition) → Made trees o es us x → Made trees o es all x
    wide o lo x = local everything n es es us all (λ t l h. f t) (λ t l h. g t l) (λ t m. tt) o lo x tt (λ k m. m)

    narrow : (o : Operator) → Lower n o → (x : Node Recognition) → Made trees o es all x → Made trees o es us x
    narrow o lo x = local everything n es es all us (λ t l h. g t l) (λ t l h. f t) (λ t m. tt) o lo x tt (λ k m. m)

  fall : (os : List Operator) (n : ℕ) (us : List Recognition) (t : Recognition) → entry_of t < n → Memᴰ t (G os n us) → Memᴰ t us
  fall os n us t l m = elim (extend_new os n us t m) [ inl k ↦ k | inr k ↦ absurd (omega arith) ]

  extend_from : (os : List Operator) (n : ℕ) (us : List Recognition) → Chart n os → ((k : ℕ) (o : Operator) → OperatorAt os k o → OperatorAt ops (n + k) o) → ((t : Recognition) → Memᴰ t us → From ops es (G os n us) t) → (t : Recognition) → Memᴰ t (G os n us) → From ops es (G os n us) t
  unfolding extend
  extend_from [] n us c a h t m = h t m
  extend_from (o ∷ os) n us c a h t m = extend_from os (suc n) (us ++ derived (rule_of n o) es us) c.1 (λ k p q. subst (λ i. OperatorAt ops i p) (plus_suc n k) (a (suc k) p q)) (λ u k. go u (mathlib.Core.List.Memᴰ.append_cases us k)) t m
    where
      go : (u : Recognition) → Memᴰ u us ⊎ Memᴰ u (derived (rule_of n o) es us) → From ops es (G (o ∷ os) n us) u
      go u (inl k) = h u k
      go u (inr k) =
          let w = new (rule_of n o) es us u k in
          let e : entry_of u ≡ n = new_entry w in
          record { operator = o; at = subst (λ i. OperatorAt ops i o) (omega arith) (a 0 o refl); lower = subst (λ i. Lower i o) (sym e) c.0; x = w.x; is = w.is ∙ ap (λ i. tree i w.x) (sym e); made = wide n us (G (o ∷ os) n us) (extend_more (o ∷ os) n us) (fall (o ∷ os) n us) o c.0 w.x w.made }

  from_extend : (os : List Operator) (n : ℕ) (us : List Recognition) → Chart n os → (k : ℕ) (o : Operator) → OperatorAt os k o → (x : Node Recognition) → Made trees o es (G os n us) x → Memᴰ (tree (n + k) x) (G os n us)
  unfolding extend
  from_extend [] n us c k o a x m = absurd a
  from_extend (p ∷ os) n us c zero o a x m =
      let b : Made trees p es us x = narrow n us (G (p ∷ os) n us) (extend_more (p ∷ os) n us) (fall (p ∷ os) n us) p c.0 x (subst (λ z. Made trees z es (G (p ∷ os) n us) x) (sym a) m) in
      extend_more os (suc n) (us ++ derived (rule_of n p) es us) (tree (n + 0) x) (mathlib.Core.List.Memᴰ.append_right us (add (rule_of n p) es us (tree (n + 0) x) (record { x = x; is = ap (λ i. tree i x) (omega arith); made = b; ok = tt })))
  from_extend (p ∷ os) n us c (suc k) o a x m = mathlib.Core.List.Memᴰ.cast (ap (λ i. tree i x) (plus_suc n k)) (from_extend os (suc n) (us ++ derived (rule_of n p) es us) c.1 k o a x m)

-- entries added: the recognitions of the others stay
rules_append : (p : ℕ → ℤ → ℤ → Bool) (n : ℕ) (ops new : List Operator) → rules p n (ops ++ new) ≡ rules p n ops ++ rules p (n + length ops) new
rules_append p n [] new = ap (λ i. rules p i new) (omega arith)
rules_append p n (op ∷ ops) new = ap (◌∷◌ (record { entry = n; operator = op; test = p n })) (rules_append p (suc n) ops new ∙ ap (λ i. rules p (suc n) ops ++ rules p i new) (omega arith))

extend_append : (es : List Event) (js ks : List Rule) (ts : List Recognition) → extend es (js ++ ks) ts ≡ extend es ks (extend es js ts)
unfolding extend
extend_append es [] ks ts = refl
extend_append es (j ∷ js) ks ts = extend_append es js ks (ts ++ derived j es ts)

pub recs_low : (ops : List Operator) (es : List Event) (t : Recognition) → Memᴰ t (recognitions ops es) → entry_of t < length ops
recs_low ops es t m = elim (extend_below ops es ops 0 [] t (subst (Memᴰ t) (recognitions_extend ops es) m)) as (λ z. entry_of t < length ops) [ inl k ↦ absurd (mathlib.Core.List.Memᴰ.not-nil k) | inr k ↦ omega arith ]

pub recs_added : (ops new : List Operator) (es : List Event) (t : Recognition) → (Memᴰ t (recognitions ops es) → Memᴰ t (recognitions (ops ++ new) es)) × (entry_of t < length ops → Memᴰ t (recognitions (ops ++ new) es) → Memᴰ t (recognitions ops es))
recs_added ops new es t = (λ m. subst (Memᴰ t) (sym split) (extend_more ops es new (0 + length ops) (recognitions ops es) t m), λ l m. fall ops es new (0 + length ops) (recognitions ops es) t (omega arith) (subst (Memᴰ t) split m))
  where
    split : recognitions (ops ++ new) es ≡ extend es (rules always (0 + length ops) new) (recognitions ops es)
    split = recognitions_extend (ops ++ new) es ∙ ap (λ js. extend es js []) (rules_append always 0 ops new) ∙ extend_append es (rules always 0 ops) (rules always (0 + length ops) new) [] ∙ ap (extend es (rules always (0 + length ops) new)) (sym (recognitions_extend ops es))

-- the recognitions are what the operators make of recognitions
pub recs_from : (ops : List Operator) → Chart 0 ops → (es : List Event) (t : Recognition) → Memᴰ t (recognitions ops es) → From ops es (recognitions ops es) t
recs_from ops c es t m = subst (λ all. From ops es all t) (sym (recognitions_extend ops es)) (extend_from ops es ops 0 [] c (λ k o a. subst (λ i. OperatorAt ops i o) (omega arith) a) (λ u k. absurd (mathlib.Core.List.Memᴰ.not-nil k)) t (subst (Memᴰ t) (recognitions_extend ops es) m))

pub from_recs : (ops : List Operator) → Chart 0 ops → (es : List Event) (t : Recognition) → From ops es (recognitions ops es) t → Memᴰ t (recognitions ops es)
from_recs ops c es t g = subst (Memᴰ t) (sym (recognitions_extend ops es)) (go (subst (λ all. From ops es all t) (recognitions_extend ops es) g))
  where
    go : From ops es (extend es (rules always 0 ops) []) t → Memᴰ t (extend es (rules always 0 ops) [])
    go h = mathlib.Core.List.Memᴰ.cast (h.is ∙ ap (λ i. tree i h.x) (omega arith)) (from_extend ops es ops 0 [] c (entry_of t) h.operator h.at h.x h.made)

-- inside a window the recognitions are those of the events inside it
module _ {W : Recognition → Type 0} (w : Window Proper W) (ops : List Operator) (c : Chart 0 ops) (es es' : List Event)
    (e : (n k : ℕ) (x : Node Recognition) → W (tree n x) → Memᴰ x (leaves k es) → Memᴰ x (leaves k es'))
    (e' : (n k : ℕ) (x : Node Recognition) → W (tree n x) → Memᴰ x (leaves k es') → Memᴰ x (leaves k es)) where
  abbrev Same : Recognition → Type 0
  Same t = (Memᴰ t (recognitions ops es) → Memᴰ t (recognitions ops es')) × (Memᴰ t (recognitions ops es') → Memᴰ t (recognitions ops es))

  one_more : (t : Recognition) → W t → ((u : Recognition) → entry_of u < entry_of t → W u → Same u) → Same t
  one_more t h below = (λ m. there (recs_from ops c es t m), λ m. back (recs_from ops c es' t m))
    where
      there : From ops es (recognitions ops es) t → Memᴰ t (recognitions ops es')
      there q = let h' : W (tree (entry_of t) q.x) = subst W q.is h in from_recs ops c es' t (record { operator = q.operator; at = q.at; lower = q.lower; x = q.x; is = q.is; made = local w (entry_of t) es es' (recognitions ops es) (recognitions ops es') (λ u k z. (below u k z).0) (λ u k z. (below u k z).1) (recs_proper ops es) q.operator q.lower q.x h' (λ k. e (entry_of t) k q.x h') q.made })

      back : From ops es' (recognitions ops es') t → Memᴰ t (recognitions ops es)
      back q = let h' : W (tree (entry_of t) q.x) = subst W q.is h in from_recs ops c es t (record { operator = q.operator; at = q.at; lower = q.lower; x = q.x; is = q.is; made = local w (entry_of t) es' es (recognitions ops es') (recognitions ops es) (λ u k z. (below u k z).1) (λ u k z. (below u k z).0) (recs_proper ops es') q.operator q.lower q.x h' (λ k. e' (entry_of t) k q.x h') q.made })

  pub within : (n : ℕ) (t : Recognition) → entry_of t < n → W t → Same t
  within zero t l h = absurd (omega arith)
  within (suc n) t l h = one_more t h (λ u k. within n u (omega arith))
