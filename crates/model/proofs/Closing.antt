-- Closing an instant makes the listing up to it from the listing before it.
use Prim.Native.Nat.{ℕ, zero, suc, ◌+◌, ◌<◌}
use native.Mathlib.Omega.{arith}
use native.Mathlib.Nat.{eq-or-lt_of_le}
use lib.ListN.{length}
use mathlib.Core.Path.{◌≡◌, refl, sym, ap, ◌∙◌, subst, subst₂}
use mathlib.Core.Logic.{◌⊎◌, inl, inr}
use mathlib.Core.Bool.{◌&&◌}
use mathlib.Core.List.Memᴰ
use mathlib.Core.List.{List, [], ◌∷◌, ◌++◌, Memᴰ}
use lib.Dec.{T}
use lib.IntN.{ℤ, pos, neg_ℤ}
use lib.Signed.{lt_z, le_z}
use Rattle.interval.specs.Instants.{eq_z, least}
use Rattle.interval.proofs.Signed.{◌≤ᶻ◌, ◌<ᶻ◌, eq_fact, lt_z→, →lt_z, le_z→, →le_z, eq_z→, eq_z_refl, least_most, le_cases}
use Rattle.model.specs.Lists.{keep}
use Rattle.model.specs.Recognitions.{Event, Operator, Arm, Recognition, of_event, of_one, of_two, entry_of, start_of, end_of, recognitions}
use Rattle.model.specs.Order.{arm_number, before, since_of, is_listed, listing}
use Rattle.model.specs.RowSteps.{Node, leaves, node_start, node_end, Rule, rules, ends_at}
use Rattle.model.specs.Statements.{Sorted, OperatorAt}
use Rattle.model.proofs.Sorted.{sorted_append, keep_mem, mem_keep, same, sort_mem, mem_sort, sorted_sort, T_and, and_T}
use Rattle.model.proofs.Order.{lex, lex_lt, lex_eq, key, lex→before, before_irrefl, before_trans, before_total}
use Rattle.model.proofs.Trees.{tree, trees, tree_start, tree_end}
use Rattle.model.proofs.Made.{Made, made_all}
use Rattle.model.proofs.Local.{Lower, Chart, local}
use Rattle.model.proofs.Extend.{New, new_entry, op_low, recs_proper, recs_low, recs_from, from_recs}
use Rattle.model.proofs.Leaves.{leaves_mem}
use Rattle.model.proofs.Windows.{Inside, inside}
use Rattle.model.proofs.Rank.{arranged, arranged_sorted, arranged_new, new_arranged, append, by_serial}

-- a list in order that holds just those members of `all` for which P holds
pub record Lists (P : Recognition → Type 0) (ts all : List Recognition) : Type 0 where
  pub sorted : Sorted before ts
  pub sound : (t : Recognition) → Memᴰ t ts → Memᴰ t all
  pub holds : (t : Recognition) → Memᴰ t ts → P t
  pub full : (t : Recognition) → Memᴰ t all → P t → Memᴰ t ts

pub lists_same : (P Q : Recognition → Type 0) (ts us all all' : List Recognition) → Lists P ts all → Lists Q us all' → ((t : Recognition) → Memᴰ t all → P t → Memᴰ t all' × Q t) → ((t : Recognition) → Memᴰ t all' → Q t → Memᴰ t all × P t) → ts ≡ us
lists_same P Q ts us all all' h k f g = same before before_irrefl before_trans ts us h.sorted k.sorted (λ t m. let r = f t (h.sound t m) (h.holds t m) in k.full t r.0 r.1) (λ t m. let r = g t (k.sound t m) (k.holds t m) in h.full t r.0 r.1)

-- from the floor f on, no earlier than its entry counts, and ended before o
abbrev pub Due : List ℤ → ℤ → ℤ → Recognition → Type 0
Due since f o t = (f ≤ᶻ start_of t) × (since_of since (entry_of t) ≤ᶻ start_of t) × (end_of t <ᶻ o)

pub listing_lists : (ops : List Operator) (since : List ℤ) (es : List Event) (f o : ℤ) → Lists (Due since f o) (listing ops since es f o) (recognitions ops es)
unfolding listing
listing_lists ops since es f o = record {
  sorted = sorted_sort before before_irrefl before_trans kept;
  sound = λ t m. (keep_mem (is_listed since f o) (recognitions ops es) (sort_mem before before_irrefl before_trans kept m)).0;
  holds = λ t m.
      let p = T_and (le_z f (start_of t)) (le_z (since_of since (entry_of t)) (start_of t) && lt_z (end_of t) o) (keep_mem (is_listed since f o) (recognitions ops es) (sort_mem before before_irrefl before_trans kept m)).1 in
      let q = T_and (le_z (since_of since (entry_of t)) (start_of t)) (lt_z (end_of t) o) p.1 in
      (le_z→ f (start_of t) p.0, le_z→ (since_of since (entry_of t)) (start_of t) q.0, lt_z→ (end_of t) o q.1);
  full = λ t m h. mem_sort before before_irrefl before_trans before_total kept (mem_keep (is_listed since f o) (recognitions ops es) m (and_T (le_z f (start_of t)) _ (→le_z f (start_of t) h.0) (and_T (le_z (since_of since (entry_of t)) (start_of t)) (lt_z (end_of t) o) (→le_z (since_of since (entry_of t)) (start_of t) h.1) (→lt_z (end_of t) o h.2))));
}
  where
    kept : List Recognition
    kept = keep (is_listed since f o) (recognitions ops es)

-- the instants from which the entries count do not fall
abbrev pub Rises : List Operator → List ℤ → Type 0
Rises ops since = (a n : ℕ) → a < n → n < length ops → since_of since a ≤ᶻ since_of since n

-- the operator of an entry is one
op_same : (ops : List Operator) (n : ℕ) (o p : Operator) → OperatorAt ops n o → OperatorAt ops n p → o ≡ p
op_same [] n o p a b = absurd a
op_same (q ∷ ops) zero o p a b = sym a ∙ b
op_same (q ∷ ops) (suc n) o p a b = op_same ops n o p a b

abbrev pub Passes : Rule → Recognition → Type 0
Passes j t = T (j.test (start_of t) (end_of t))

-- what a rule must have, to take a list of those with P to a list of those with Q.
-- pe: the events that it is handed; es: all events
pub record Phase (ops : List Operator) (pe es : List Event) (j : Rule) (F P Q : Recognition → Type 0) : Type 0 where
  pub at : OperatorAt ops j.entry j.operator
  pub lower : Lower j.entry j.operator
  pub serials : Sorted by_serial pe
  pub news : (k : ℕ) (x : Node Recognition) → Passes j (tree j.entry x) → Memᴰ x (leaves k pe) → Memᴰ x (leaves k es)
  pub olds : (k : ℕ) (x : Node Recognition) → Passes j (tree j.entry x) → Memᴰ x (leaves k es) → Memᴰ x (leaves k pe)
  -- F: what holds of the parts, and so of the whole
  pub given : (t : Recognition) → P t → F t
  pub leaf : (k : ℕ) (x : Node Recognition) → Passes j (tree j.entry x) → Memᴰ x (leaves k pe) → F (tree j.entry x)
  pub part : (m : Arm) (t : Recognition) → F t → F (of_one j.entry m t)
  pub pair : (l r : Recognition) → F l → F r → F (of_two j.entry l r)
  -- Q is P and what passes
  pub keeps : (t : Recognition) → P t → Q t
  pub takes : (t : Recognition) → F t → entry_of t ≡ j.entry → Passes j t → Q t
  pub splits : (t : Recognition) → Q t → P t ⊎ ((entry_of t ≡ j.entry) × Passes j t)
  -- what lies inside has been done before
  pub reach : (t u : Recognition) → Q t → Passes j t → Inside t u → entry_of u < j.entry → P u
  -- the order
  pub apart : (t u : Recognition) → P t → entry_of u ≡ j.entry → Passes j u → T (before t u)
  pub alike : (t u : Recognition) → Passes j t → Passes j u → end_of t ≡ end_of u

module _ (ops : List Operator) (c : Chart 0 ops) (pe es : List Event) where
  pub phase : (j : Rule) (F P Q : Recognition → Type 0) → Phase ops pe es j F P Q → (ts : List Recognition) → Lists P ts (recognitions ops es) → Lists Q (ts ++ arranged j pe ts) (recognitions ops es)
  phase j F P Q ph ts h = record {
    sorted = sorted_append before ts h.sorted (arranged_sorted j pe ts ph.alike ph.serials h.sorted) (λ t u m k. let w = arranged_new j pe ts u k in ph.apart t u (h.holds t m) (new_entry w) w.ok);
    sound = λ t m. sound' t (Memᴰ.append_cases ts m);
    holds = λ t m. holds' t (Memᴰ.append_cases ts m);
    full = λ t m q. full' t m q (ph.splits t q);
  }
    where
      n : ℕ
      n = j.entry

      floor : (t : Recognition) → New j pe ts t → F t
      floor t k = subst F (sym k.is) (made_all trees F (λ x. F (tree n x)) ts (λ r m. ph.given r (h.holds r m)) ph.part ph.pair j.operator pe k.x (λ i m. ph.leaf i k.x (subst (Passes j) k.is k.ok) m) k.made)

      done : (t : Recognition) → New j pe ts t → Q t
      done t k = ph.takes t (floor t k) (new_entry k) k.ok

      sound' : (t : Recognition) → Memᴰ t ts ⊎ Memᴰ t (arranged j pe ts) → Memᴰ t (recognitions ops es)
      sound' t (inl m) = h.sound t m
      sound' t (inr m) =
          let k = arranged_new j pe ts t m in
          let e : entry_of t ≡ n = new_entry k in
          from_recs ops c es t (record {
            operator = j.operator;
            at = subst (λ i. OperatorAt ops i j.operator) (sym e) ph.at;
            lower = subst (λ i. Lower i j.operator) (sym e) ph.lower;
            x = k.x;
            is = k.is ∙ ap (λ i. tree i k.x) (sym e);
            made = local (inside t) n pe es ts (recognitions ops es) (λ u l z. h.sound u) (λ u l z r. h.full u r (ph.reach t u (done t k) k.ok z l)) (λ u m. recs_proper ops es u (h.sound u m)) j.operator ph.lower k.x (subst (Inside t) k.is (omega arith)) (λ i. ph.news i k.x (subst (Passes j) k.is k.ok)) k.made;
          })

      holds' : (t : Recognition) → Memᴰ t ts ⊎ Memᴰ t (arranged j pe ts) → Q t
      holds' t (inl m) = ph.keeps t (h.holds t m)
      holds' t (inr m) = done t (arranged_new j pe ts t m)

      full' : (t : Recognition) → Memᴰ t (recognitions ops es) → Q t → P t ⊎ ((entry_of t ≡ n) × Passes j t) → Memᴰ t (ts ++ arranged j pe ts)
      full' t m q (inl p) = Memᴰ.append_left (arranged j pe ts) (h.full t m p)
      full' t m q (inr p) =
          let k = recs_from ops c es t m in
          let e : entry_of t ≡ n = p.0 in
          let o : k.operator ≡ j.operator = op_same ops n k.operator j.operator (subst (λ i. OperatorAt ops i k.operator) e k.at) ph.at in
          let i : t ≡ tree n k.x = k.is ∙ ap (λ i. tree i k.x) e in
          Memᴰ.append_right ts (new_arranged j pe ts t (record {
            x = k.x;
            is = i;
            ok = p.1;
            made = local (inside t) n es pe (recognitions ops es) ts (λ u l z r. h.full u r (ph.reach t u q p.1 z l)) (λ u l z. h.sound u) (recs_proper ops es) j.operator ph.lower k.x (subst (Inside t) i (omega arith)) (λ a. ph.olds a k.x (subst (Passes j) i p.1)) (subst (λ z. Made trees z es (recognitions ops es) k.x) o k.made);
          }))

-- half way through the closing of o: also those that end at o, of the entries below n
abbrev pub Stage : List ℤ → ℤ → ℤ → ℕ → Recognition → Type 0
Stage since f o n t = (f ≤ᶻ start_of t) × (since_of since (entry_of t) ≤ᶻ start_of t) × ((end_of t <ᶻ o) ⊎ ((end_of t ≡ o) × (entry_of t < n)))

pub key_front : (t : Recognition) → (z : List ℤ) × (key t ≡ end_of t ∷ pos (entry_of t) ∷ z)
key_front (of_event n s i) = (neg_ℤ i ∷ pos 0 ∷ pos s ∷ [], refl)
key_front (of_one n m t) = (neg_ℤ (start_of t) ∷ pos 1 ∷ pos (arm_number m) ∷ key t, refl)
key_front (of_two n l r) = (neg_ℤ (least (start_of l) (start_of r)) ∷ pos 2 ∷ (key l ++ key r), refl)

pub earlier_before : (t u : Recognition) → (end_of t <ᶻ end_of u) ⊎ ((end_of t ≡ end_of u) × (entry_of t < entry_of u)) → T (before t u)
earlier_before t u h = lex→before t u (subst₂ (λ a b. T (lex a b)) (sym (key_front t).1) (sym (key_front u).1) (go h))
  where
    go : (end_of t <ᶻ end_of u) ⊎ ((end_of t ≡ end_of u) × (entry_of t < entry_of u)) → T (lex (end_of t ∷ pos (entry_of t) ∷ (key_front t).0) (end_of u ∷ pos (entry_of u) ∷ (key_front u).0))
    go (inl l) = lex_lt (end_of t) (end_of u) (pos (entry_of t) ∷ (key_front t).0) (pos (entry_of u) ∷ (key_front u).0) l
    go (inr l) = lex_eq (end_of t) (end_of u) (pos (entry_of t) ∷ (key_front t).0) (pos (entry_of u) ∷ (key_front u).0) l.0 (lex_lt (pos (entry_of t)) (pos (entry_of u)) (key_front t).0 (key_front u).0 (omega arith))

abbrev pub Past : List ℤ → ℤ → ℤ → Recognition → Type 0
Past since f o t = (f ≤ᶻ start_of t) × (since_of since (entry_of t) ≤ᶻ start_of t) × (end_of t ≤ᶻ o)

abbrev pub ending : List ℤ → ℤ → ℕ → Operator → Rule
ending since o n op = record { entry = n; operator = op; test = ends_at since o n }

module _ (ops : List Operator) (c : Chart 0 ops) (since : List ℤ) (rises : Rises ops since) (f o : ℤ) (pe es : List Event) (fo : f ≤ᶻ o) (ser : Sorted by_serial pe)
    (olds : (k : ℕ) (x : Node Recognition) → node_end trees x ≡ o → Memᴰ x (leaves k es) → Memᴰ x (leaves k pe))
    (news : (k : ℕ) (x : Node Recognition) → node_end trees x ≡ o → Memᴰ x (leaves k pe) → Memᴰ x (leaves k es)) where
  ending_phase : (n : ℕ) (op : Operator) → OperatorAt ops n op → Lower n op → Phase ops pe es (ending since o n op) (λ t. f ≤ᶻ start_of t) (Stage since f o n) (Stage since f o (suc n))
  ending_phase n op at lo = record {
    at = at;
    lower = lo;
    serials = ser;
    news = λ k x p. news k x (end_is x p);
    olds = λ k x p. olds k x (end_is x p);
    given = λ t p. p.0;
    leaf = λ k x p m. let q = leaves_mem k pe x m in omega (arith, eq_fact (tree_start n x ∙ ap (node_start trees) q.is ∙ sym (ap (node_end trees) q.is) ∙ end_is x p));
    part = λ m t h. h;
    pair = λ l r h k. least_most (λ z. f ≤ᶻ z) (start_of l) (start_of r) h k;
    keeps = λ t p. (p.0, p.1, elim p.2 as (λ z. (end_of t <ᶻ o) ⊎ ((end_of t ≡ o) × (entry_of t < suc n))) [ inl k ↦ inl k | inr k ↦ inr (k.0, omega arith) ]);
    takes = λ t h e p. (h, subst (λ i. since_of since i ≤ᶻ start_of t) (sym e) (passed t p).0, inr ((passed t p).1, omega arith));
    splits = λ t q. split t q.0 q.1 q.2;
    reach = λ t u q p z l. (omega (arith, q.0), omega (arith, (passed t p).0, rises (entry_of u) n l (op_low ops n op at)), reached u l (le_cases (end_of u) o (omega (arith, eq_fact (passed t p).1))));
    apart = λ t u p e q. earlier_before t u (across t u p.2 e (passed u q).1);
    alike = λ t u p q. (passed t p).1 ∙ sym (passed u q).1;
  }
    where
      passed : (t : Recognition) → T (le_z (since_of since n) (start_of t) && eq_z (end_of t) o) → (since_of since n ≤ᶻ start_of t) × (end_of t ≡ o)
      passed t p = let q = T_and (le_z (since_of since n) (start_of t)) (eq_z (end_of t) o) p in (le_z→ (since_of since n) (start_of t) q.0, eq_z→ (end_of t) o q.1)

      end_is : (x : Node Recognition) → T (le_z (since_of since n) (start_of (tree n x)) && eq_z (end_of (tree n x)) o) → node_end trees x ≡ o
      end_is x p = sym (tree_end n x) ∙ (passed (tree n x) p).1

      at_n : (t : Recognition) → f ≤ᶻ start_of t → since_of since (entry_of t) ≤ᶻ start_of t → end_of t ≡ o → (entry_of t ≡ n) ⊎ (entry_of t < n) → Stage since f o n t ⊎ ((entry_of t ≡ n) × Passes (ending since o n op) t)
      at_n t h s e (inl k) = inr (k, and_T (le_z (since_of since n) (start_of t)) (eq_z (end_of t) o) (→le_z (since_of since n) (start_of t) (subst (λ i. since_of since i ≤ᶻ start_of t) k s)) (subst (λ z. T (eq_z (end_of t) z)) e (eq_z_refl (end_of t))))
      at_n t h s e (inr k) = inl (h, s, inr (e, k))

      split : (t : Recognition) → f ≤ᶻ start_of t → since_of since (entry_of t) ≤ᶻ start_of t → (end_of t <ᶻ o) ⊎ ((end_of t ≡ o) × (entry_of t < suc n)) → Stage since f o n t ⊎ ((entry_of t ≡ n) × Passes (ending since o n op) t)
      split t h s (inl k) = inl (h, s, inl k)
      split t h s (inr k) = at_n t h s k.0 (eq-or-lt_of_le (omega arith))

      reached : (u : Recognition) → entry_of u < n → (end_of u <ᶻ o) ⊎ (end_of u ≡ o) → (end_of u <ᶻ o) ⊎ ((end_of u ≡ o) × (entry_of u < n))
      reached u l (inl k) = inl k
      reached u l (inr k) = inr (k, l)

      across : (t u : Recognition) → (end_of t <ᶻ o) ⊎ ((end_of t ≡ o) × (entry_of t < n)) → entry_of u ≡ n → end_of u ≡ o → (end_of t <ᶻ end_of u) ⊎ ((end_of t ≡ end_of u) × (entry_of t < entry_of u))
      across t u (inl k) e q = inl (omega (arith, eq_fact q))
      across t u (inr k) e q = inr (k.0 ∙ sym q, omega arith)

  entries : (os : List Operator) (n : ℕ) (ts : List Recognition) → Chart n os → ((k : ℕ) (op : Operator) → OperatorAt os k op → OperatorAt ops (n + k) op) → Lists (Stage since f o n) ts (recognitions ops es) → Lists (Stage since f o (n + length os)) (append pe (rules (ends_at since o) n os) ts) (recognitions ops es)
  unfolding append
  entries [] n ts d a h = subst (λ i. Lists (Stage since f o i) ts (recognitions ops es)) (omega arith) h
  entries (op ∷ os) n ts d a h = subst (λ i. Lists (Stage since f o i) (append pe (rules (ends_at since o) n (op ∷ os)) ts) (recognitions ops es)) (omega arith)
      (entries os (suc n) (ts ++ arranged (ending since o n op) pe ts) d.1 (λ k p q. subst (λ i. OperatorAt ops i p) (omega arith) (a (suc k) p q))
      (phase ops c pe es (ending since o n op) (λ t. f ≤ᶻ start_of t) (Stage since f o n) (Stage since f o (suc n)) (ending_phase n op (subst (λ i. OperatorAt ops i op) (omega arith) (a 0 op refl)) d.0) ts h))

  -- from the recognitions that ended before o, those that end at o or before
  pub closing : (ts : List Recognition) → Lists (Due since f o) ts (recognitions ops es) → Lists (Past since f o) (append pe (rules (ends_at since o) 0 ops) ts) (recognitions ops es)
  closing ts l = record {
    sorted = h.sorted;
    sound = h.sound;
    holds = λ t m. let s = h.holds t m in (s.0, s.1, elim s.2 as (λ z. end_of t ≤ᶻ o) [ inl k ↦ omega arith | inr k ↦ omega (arith, eq_fact k.0) ]);
    full = λ t m d. h.full t m (d.0, d.1, elim (le_cases (end_of t) o d.2) as (λ z. (end_of t <ᶻ o) ⊎ ((end_of t ≡ o) × (entry_of t < 0 + length ops))) [ inl k ↦ inl k | inr k ↦ inr (k, let l : entry_of t < length ops = recs_low ops es t m in omega arith) ]);
  }
    where
      h : Lists (Stage since f o (0 + length ops)) (append pe (rules (ends_at since o) 0 ops) ts) (recognitions ops es)
      h = entries ops 0 ts c (λ k op a. subst (λ i. OperatorAt ops i op) (omega arith) a) (record {
        sorted = l.sorted;
        sound = l.sound;
        holds = λ t m. let d = l.holds t m in (d.0, d.1, inl d.2);
        full = λ t m d. l.full t m (d.0, d.1, elim d.2 as (λ z. end_of t <ᶻ o) [ inl k ↦ k | inr k ↦ absurd (omega arith) ]);
      })
