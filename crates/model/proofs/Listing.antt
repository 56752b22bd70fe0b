-- The listing: its parts, its shape; closing, forgetting and events in terms of it.
use Prim.Native.Nat.{ℕ, zero, suc, ◌+◌, ◌<◌, ◌≤◌}
use native.Mathlib.Omega.{arith}
use mathlib.Core.Path.{◌≡◌, refl, sym, ap, ◌∙◌, subst}
use mathlib.Core.Logic.{◌⊎◌, inl, inr}
use mathlib.Core.Bool.{not}
use mathlib.Core.List.Memᴰ
use mathlib.Core.List.{List, [], ◌∷◌, ◌++◌, Memᴰ}
use lib.Dec.{T, ltb, ltb→lt, nltb→le, lt→ltb}
use lib.ListN.{length, replicate, length-append}
use lib.IntN.{ℤ, pos, ◌+ℤ◌}
use Rattle.interval.proofs.Signed.{◌≤ᶻ◌, ◌<ᶻ◌, eq_fact, le_z→, →le_z, least_is, greatest_is, least_most, add_fact, add_none, add_one_more}
use Rattle.model.specs.Lists.{keep}
use Rattle.model.specs.Recognitions.{Event, Operator, event, related, or, absence, lasting, after, nearest, Recognition, of_event, of_one, of_two, entry_of, start_of, end_of, recognitions}
use Rattle.model.specs.Order.{before, since_of, listing, as_rows}
use Rattle.model.specs.RowSteps.{Node, leaves, node_start, node_end, rules, ends_at, close_rows, close_instants, is_event, is_event_at, forget_rows, numbered}
use Rattle.model.specs.Statements.{Sorted, OperatorAt}
use Rattle.model.proofs.Sorted.{T-em, sorted_keep, keep_mem, mem_keep}
use Rattle.model.proofs.Trees.{end_by_lem, tree, trees, tree_start}
use Rattle.model.proofs.Made.{Made}
use Rattle.model.proofs.Local.{Lower, Chart}
use Rattle.model.proofs.Extend.{always, recognitions_extend, recs_all, recs_proper, recs_low, recs_added, recs_from}
use Rattle.model.proofs.Leaves.{IsLeaf, leaves_mem, leaves_append}
use Rattle.model.proofs.Windows.{events_from, event_same, floor_same}
use Rattle.model.proofs.Rank.{by_serial, append}
use Rattle.model.proofs.Rows.{Parts, parts_leaf, Closed, extend_closed, append_writes}
use Rattle.model.proofs.Closing.{Lists, lists_same, Due, Rises, Past, listing_lists, closing}
use Rattle.model.proofs.Since.{since_old, since_new}
use Rattle.model.proofs.Forget.{Shape, Shaped, late_tree, forget_writes}

-- no recognition starts before the first event
pub recs_start : (ops : List Operator) (es : List Event) (f : ℤ) → ((e : Event) → Memᴰ e es → f ≤ᶻ e.instant) → (t : Recognition) → Memᴰ t (recognitions ops es) → f ≤ᶻ start_of t
recs_start ops es f h = recs_all (λ t. f ≤ᶻ start_of t) ops es (λ n x k m. let q = leaves_mem k es x m in let e : start_of (tree n x) ≡ q.e.instant = tree_start n x ∙ ap (node_start trees) q.is in let l : f ≤ᶻ q.e.instant = h q.e q.there in omega (arith, eq_fact e)) (λ n m r l. l) (λ n l r p q. least_most (λ z. f ≤ᶻ z) (start_of l) (start_of r) p q)

-- leaves stand at events' entries
made_shape : (all : List Operator) (n : ℕ) (op : Operator) (es : List Event) (ts : List Recognition) (x : Node Recognition) → is_event_at all n ≡ is_event op → Made trees op es ts x → Shape all (tree n x)
made_shape all n (event k) es ts x e m = let q = leaves_mem k es x m in subst (λ z. Shape all (tree n z)) (sym q.is) (subst T (sym e) tt)
made_shape all n (related c a b) es ts x e m = subst (λ z. Shape all (tree n z)) (sym m.is) (subst (λ z. T (not z)) (sym e) tt)
made_shape all n (nearest c a b) es ts x e m = subst (λ z. Shape all (tree n z)) (sym m.two.is) (subst (λ z. T (not z)) (sym e) tt)
made_shape all n (or a b) es ts x e (inl m) = subst (λ z. Shape all (tree n z)) (sym m.is) (subst (λ z. T (not z)) (sym e) tt)
made_shape all n (or a b) es ts x e (inr m) = subst (λ z. Shape all (tree n z)) (sym m.is) (subst (λ z. T (not z)) (sym e) tt)
made_shape all n (absence c a b) es ts x e m = subst (λ z. Shape all (tree n z)) (sym m.is) (subst (λ z. T (not z)) (sym e) tt)
made_shape all n (after a d) es ts x e m = subst (λ z. Shape all (tree n z)) (sym m.is) (subst (λ z. T (not z)) (sym e) tt)
made_shape all n (lasting c a d) es ts x e m = subst (λ z. Shape all (tree n z)) (sym m.is) (subst (λ z. T (not z)) (sym e) tt)

event_at : (ops : List Operator) (n : ℕ) (op : Operator) → OperatorAt ops n op → is_event_at ops n ≡ is_event op
event_at [] n op a = absurd a
event_at (o ∷ ops) zero op a = ap is_event a
event_at (o ∷ ops) (suc n) op a = event_at ops n op a

pub recs_shaped : (ops : List Operator) → Chart 0 ops → (es : List Event) → Shaped ops (recognitions ops es)
recs_shaped ops c es t m = let w = recs_from ops c es t m in subst (Shape ops) (sym w.is) (made_shape ops (entry_of t) w.operator es (recognitions ops es) w.x (event_at ops (entry_of t) w.operator w.at) w.made)

pub recs_closed : (ops : List Operator) (es : List Event) → Closed (recognitions ops es)
recs_closed ops es = subst Closed (sym (recognitions_extend ops es)) (extend_closed es (rules always 0 ops) [] (λ t m. absurd (Memᴰ.not-nil m)))

-- parts are of lower entries
made_lower : (n : ℕ) (op : Operator) (es : List Event) (ts : List Recognition) (x : Node Recognition) → Lower n op → Made trees op es ts x → Parts (λ u. entry_of u < n) (tree n x)
made_lower n (event k) es ts x l m = parts_leaf (λ u. entry_of u < n) n k es x m
made_lower n (related c a b) es ts x l m = subst (λ z. Parts (λ u. entry_of u < n) (tree n z)) (sym m.is) (subst (λ z. z < n) (sym m.hasl.entry) l.0, subst (λ z. z < n) (sym m.hasr.entry) l.1)
made_lower n (or a b) es ts x l (inl m) = subst (λ z. Parts (λ u. entry_of u < n) (tree n z)) (sym m.is) (subst (λ z. z < n) (sym m.hasr.entry) l.0)
made_lower n (or a b) es ts x l (inr m) = subst (λ z. Parts (λ u. entry_of u < n) (tree n z)) (sym m.is) (subst (λ z. z < n) (sym m.hasr.entry) l.1)
made_lower n (absence c a b) es ts x l m = subst (λ z. Parts (λ u. entry_of u < n) (tree n z)) (sym m.is) (subst (λ z. z < n) (sym m.hasr.entry) l.0)
made_lower n (nearest c a b) es ts x l m = subst (λ z. Parts (λ u. entry_of u < n) (tree n z)) (sym m.two.is) (subst (λ z. z < n) (sym m.two.hasl.entry) l.0, subst (λ z. z < n) (sym m.two.hasr.entry) l.1)
made_lower n (after a d) es ts x l m = subst (λ z. Parts (λ u. entry_of u < n) (tree n z)) (sym m.is) (subst (λ z. z < n) (sym m.hasr.entry) l)
made_lower n (lasting c a d) es ts x l m = subst (λ z. Parts (λ u. entry_of u < n) (tree n z)) (sym m.is) (subst (λ z. z < n) (sym m.hasr.entry) l)

pub recs_lower : (ops : List Operator) → Chart 0 ops → (es : List Event) (t : Recognition) → Memᴰ t (recognitions ops es) → Parts (λ u. entry_of u < entry_of t) t
recs_lower ops c es t m = let w = recs_from ops c es t m in subst (Parts (λ u. entry_of u < entry_of t)) (sym w.is) (made_lower (entry_of t) w.operator es (recognitions ops es) w.x w.lower w.made)

-- the listing, where the instants from which the entries count do not fall
module _ (ops : List Operator) (c : Chart 0 ops) (since : List ℤ) (rises : Rises ops since) (es : List Event) where
  pub listing_closed : (f o : ℤ) → Closed (listing ops since es f o)
  listing_closed f o t m = go t (l.holds t m) (recs_low ops es t (l.sound t m)) (recs_lower ops c es t (l.sound t m)) (recs_closed ops es t (l.sound t m))
    where
      l : Lists (Due since f o) (listing ops since es f o) (recognitions ops es)
      l = listing_lists ops since es f o

      go : (u : Recognition) → Due since f o u → entry_of u < length ops → Parts (λ v. entry_of v < entry_of u) u → Parts (λ v. Memᴰ v (recognitions ops es)) u → Parts (λ v. Memᴰ v (listing ops since es f o)) u
      go (of_event n s i) d k q p = tt
      go (of_one n a u) d k q p = l.full u p (omega (arith, end_by_lem a (end_of u), rises (entry_of u) n q k))
      go (of_two n a b) d k q p = (
        l.full a p.0 (omega (arith, least_is (start_of a) (start_of b), greatest_is (end_of a) (end_of b), rises (entry_of a) n q.0 k)),
        l.full b p.1 (omega (arith, least_is (start_of a) (start_of b), greatest_is (end_of a) (end_of b), rises (entry_of b) n q.1 k)),
      )

  pub listing_shaped : (f o : ℤ) → Shaped ops (listing ops since es f o)
  listing_shaped f o t m = recs_shaped ops c es t ((listing_lists ops since es f o).sound t m)

  -- a higher floor
  pub listing_forget : (f f' o : ℤ) → f ≤ᶻ f' → forget_rows ops f' (as_rows (listing ops since es f o)) ≡ as_rows (listing ops since es f' o)
  listing_forget f f' o le = forget_writes ops f' (listing ops since es f o) l.sorted (listing_closed f o) (listing_shaped f o) ∙ ap as_rows (lists_same (Due since f' o) (Due since f' o) (keep (late_tree f') (listing ops since es f o)) (listing ops since es f' o) (recognitions ops es) (recognitions ops es) fewer (listing_lists ops since es f' o) (λ t m d. (m, d)) (λ t m d. (m, d)))
    where
      l : Lists (Due since f o) (listing ops since es f o) (recognitions ops es)
      l = listing_lists ops since es f o

      fewer : Lists (Due since f' o) (keep (late_tree f') (listing ops since es f o)) (recognitions ops es)
      fewer = record {
        sorted = sorted_keep before (late_tree f') (listing ops since es f o) l.sorted;
        sound = λ t m. l.sound t (keep_mem (late_tree f') (listing ops since es f o) m).0;
        holds = λ t m. let k = keep_mem (late_tree f') (listing ops since es f o) m in (le_z→ f' (start_of t) k.1, (l.holds t k.0).1, (l.holds t k.0).2);
        full = λ t m d. mem_keep (late_tree f') (listing ops since es f o) (l.full t m (omega arith)) (→le_z f' (start_of t) d.0);
      }

-- leaving out the events before the floor
pub listing_floor : (ops : List Operator) → Chart 0 ops → (since : List ℤ) (es : List Event) (f o : ℤ) → listing ops since (events_from f es) f o ≡ listing ops since es f o
listing_floor ops c since es f o = lists_same (Due since f o) (Due since f o) _ _ (recognitions ops (events_from f es)) (recognitions ops es) (listing_lists ops since (events_from f es) f o) (listing_lists ops since es f o) (λ t m d. ((floor_same ops c es f t d.0).1 m, d)) (λ t m d. ((floor_same ops c es f t d.0).0 m, d))

-- an event at the open instant
pub listing_event : (ops : List Operator) → Chart 0 ops → (since : List ℤ) (es : List Event) (f o : ℤ) (e : Event) → e.instant ≡ o → listing ops since (es ++ e ∷ []) f o ≡ listing ops since es f o
listing_event ops c since es f o e i = lists_same (Due since f o) (Due since f o) _ _ (recognitions ops (es ++ e ∷ [])) (recognitions ops es) (listing_lists ops since (es ++ e ∷ []) f o) (listing_lists ops since es f o) (λ t m d. ((event_same ops c es e o (omega (arith, eq_fact i)) t d.2).1 m, d)) (λ t m d. ((event_same ops c es e o (omega (arith, eq_fact i)) t d.2).0 m, d))

-- entries added that count from the open instant on
pub listing_add : (ops new : List Operator) (since : List ℤ) → length since ≡ length ops → (es : List Event) (f o : ℤ) → listing (ops ++ new) (since ++ replicate (length new) o) es f o ≡ listing ops since es f o
listing_add ops new since e es f o = lists_same (Due more f o) (Due since f o) _ _ (recognitions (ops ++ new) es) (recognitions ops es) (listing_lists (ops ++ new) more es f o) (listing_lists ops since es f o)
    (λ t m d. old t m d (T-em (ltb (entry_of t) (length ops))))
    (λ t m d. let l : entry_of t < length ops = recs_low ops es t m in ((recs_added ops new es t).0 m, (d.0, subst (λ z. z ≤ᶻ start_of t) (sym (since_old since (replicate (length new) o) (entry_of t) (omega arith))) d.1, d.2)))
  where
    more : List ℤ
    more = since ++ replicate (length new) o

    old : (t : Recognition) → Memᴰ t (recognitions (ops ++ new) es) → Due more f o t → T (ltb (entry_of t) (length ops)) ⊎ T (not (ltb (entry_of t) (length ops))) → Memᴰ t (recognitions ops es) × Due since f o t
    old t m d (inl h) =
        let l : entry_of t < length ops = ltb→lt (entry_of t) (length ops) h in
        ((recs_added ops new es t).1 l m, (d.0, subst (λ z. z ≤ᶻ start_of t) (since_old since (replicate (length new) o) (entry_of t) (omega arith)) d.1, d.2))
    old t m d (inr h) =
        let l : length ops ≤ entry_of t = nltb→le (entry_of t) (length ops) h in
        let k : entry_of t < length (ops ++ new) = recs_low (ops ++ new) es t m in
        let w : length (ops ++ new) ≡ length ops + length new = length-append ops new in
        let p : start_of t ≤ᶻ end_of t = recs_proper (ops ++ new) es t m in
        let q : since_of more (entry_of t) ≡ o = since_new since (length new) o (entry_of t) (omega arith) (omega arith) in
        absurd (omega (arith, eq_fact q))

-- numbered events: at their instant, and by serial
pub numbered_mem : (o : ℤ) (s : ℕ) (ks : List ℕ) (e : Event) → Memᴰ e (numbered o s ks) → (e.instant ≡ o) × (s ≤ e.serial) × (e.serial < s + length ks)
numbered_mem o s [] e m = absurd (Memᴰ.not-nil m)
numbered_mem o s (k ∷ ks) e m = go (numbered_mem o (suc s) ks e) (Memᴰ.cases_cons m)
  where
    go : (Memᴰ e (numbered o (suc s) ks) → (e.instant ≡ o) × (suc s ≤ e.serial) × (e.serial < suc s + length ks)) → (e ≡ record { serial = s; code = k; instant = o }) ⊎ Memᴰ e (numbered o (suc s) ks) → (e.instant ≡ o) × (s ≤ e.serial) × (e.serial < s + length (k ∷ ks))
    go ih (inl q) =
        let p : e.serial ≡ s = ap (λ z. z.serial) q in
        (ap (λ z. z.instant) q, omega arith, omega arith)
    go ih (inr n) = let q = ih n in (q.0, omega (arith, q.1), omega (arith, q.2))

numbered_sorted : (o : ℤ) (s : ℕ) (ks : List ℕ) → Sorted by_serial (numbered o s ks)
numbered_sorted o s [] = tt
numbered_sorted o s (k ∷ ks) = (λ e m. let q = numbered_mem o (suc s) ks e m in lt→ltb s e.serial (omega (arith, q.1)), numbered_sorted o (suc s) ks)

-- a clock mark: the instants from the open one on, one after another
module _ (ops : List Operator) (c : Chart 0 ops) (since : List ℤ) (rises : Rises ops since) (old : List Event) (s : ℕ) (ks : List ℕ) (f o : ℤ) (fo : f ≤ᶻ o) (past : (e : Event) → Memᴰ e old → e.instant <ᶻ o) where
  abbrev now : List Event
  now = numbered o s ks

  abbrev all : List Event
  all = old ++ now

  module _ (i : ℤ) (oi : o ≤ᶻ i) where
    of_now : (k : ℕ) (x : Node Recognition) → node_end trees x ≡ i → Memᴰ x (leaves k now) → Memᴰ x (leaves k all)
    of_now k x e m = subst (Memᴰ x) (sym (leaves_append k old now)) (Memᴰ.append_right (leaves k old) m)

    in_now : (k : ℕ) (x : Node Recognition) → node_end trees x ≡ i → Memᴰ x (leaves k all) → Memᴰ x (leaves k now)
    in_now k x e m = go (Memᴰ.append_cases (leaves k old) (subst (Memᴰ x) (leaves_append k old now) m))
      where
        gone : IsLeaf k old x → ⊥
        gone q =
            let a : q.e.instant <ᶻ o = past q.e q.there in
            let b : node_end trees x ≡ q.e.instant = ap (node_end trees) q.is in
            omega (arith, eq_fact (sym b ∙ e))

        go : Memᴰ x (leaves k old) ⊎ Memᴰ x (leaves k now) → Memᴰ x (leaves k now)
        go (inl h) = absurd (gone (leaves_mem k old x h))
        go (inr h) = h

    done : Lists (Past since f i) (append now (rules (ends_at since i) 0 ops) (listing ops since all f i)) (recognitions ops all)
    done = closing ops c since rises f i now all (omega arith) (numbered_sorted o s ks) in_now of_now (listing ops since all f i) (listing_lists ops since all f i)

    listing_close : close_rows i now ops since (as_rows (listing ops since all f i)) ≡ as_rows (listing ops since all f (i +ℤ pos 1))
    unfolding close_rows
    listing_close = append_writes now (rules (ends_at since i) 0 ops) (listing ops since all f i) (listing_closed ops c since rises all f i) done.sorted ∙ ap as_rows (lists_same (Past since f i) (Due since f (i +ℤ pos 1)) _ _ (recognitions ops all) (recognitions ops all) done (listing_lists ops since all f (i +ℤ pos 1)) (λ u m d. (m, omega (arith, add_fact i (pos 1)))) (λ u m d. (m, omega (arith, add_fact i (pos 1)))))

  pub listing_clock : (n : ℕ) (i t : ℤ) → o ≤ᶻ i → i +ℤ pos n ≡ t → close_instants n i now ops since (as_rows (listing ops since all f i)) ≡ as_rows (listing ops since all f t)
  unfolding close_instants
  listing_clock zero i t oi e = ap (λ z. as_rows (listing ops since all f z)) (sym (add_none i) ∙ e)
  listing_clock (suc n) i t oi e = ap (close_instants n (i +ℤ pos 1) now ops since) (listing_close i oi) ∙ listing_clock n (i +ℤ pos 1) t (omega (arith, add_fact i (pos 1))) (add_one_more i n ∙ e)

-- with no events there are no recognitions
empty : (ts : List Recognition) → ((t : Recognition) → Memᴰ t ts → ⊥) → ts ≡ []
empty [] h = refl
empty (t ∷ ts) h = absurd (h t (Memᴰ.head refl))

pub listing_empty : (ops : List Operator) (since : List ℤ) (f o : ℤ) → listing ops since [] f o ≡ []
listing_empty ops since f o = empty (listing ops since [] f o) (λ t m. recs_all (λ u. ⊥) ops [] (λ n x k h. Memᴰ.not-nil h) (λ n a r h. h) (λ n l r h k. h) t ((listing_lists ops since [] f o).sound t m))
