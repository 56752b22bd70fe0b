-- What stands in `make`, said without lists.
use Prim.Native.Nat.{ℕ}
use mathlib.Core.Path.{◌≡◌, sym, subst}
use mathlib.Core.Logic.{◌⊎◌, inl, inr}
use mathlib.Core.Bool.{Bool, not, ◌&&◌}
use mathlib.Core.List.Memᴰ
use mathlib.Core.List.{List, map, Memᴰ}
use lib.Dec.{T, eqb, eqb→eq, eqb_refl, T_not, not_T}
use Rattle.interval.specs.Conditions.{is_forbidding, has_length}
use Rattle.interval.specs.declared.Relation.TheVariants.{Seq}
use Rattle.interval.specs.declared.Edges.{Edges}
use Rattle.interval.specs.declared.Nearest.{Nearest}
use Rattle.interval.specs.declared.LengthTest.{LengthTest}
use Rattle.model.specs.Lists.{keep, some}
use Rattle.model.specs.Recognitions.{Event, Operator, event, related, or, absence, lasting, after, nearest, Arm, only, left, right, delayed}
use Rattle.model.specs.RowSteps.{Node, part, pair, View, leaves, pairs, make, of, fits, forbidden, rival_of_second, rival_of_first, near}
use Rattle.model.proofs.Sorted.{T_and, and_T, keep_mem, mem_keep, some_mem, mem_some, each_mem, mem_each}

module _ {A : Type 0} (v : View A) where
  -- r stands in the list and is of entry a
  pub record Has (xs : List A) (a : ℕ) (r : A) : Type 0 where
    pub there : Memᴰ r xs
    pub entry : v.entry r ≡ a

  pub has : (xs : List A) (a : ℕ) {r : A} → Memᴰ r (of v a xs) → Has xs a r
  has xs a {r} m = let p = keep_mem (λ x. eqb (v.entry x) a) xs m in record { there = p.0; entry = eqb→eq (v.entry r) a p.1 }

  pub had : (xs : List A) (a : ℕ) {r : A} → Has xs a r → Memᴰ r (of v a xs)
  had xs a {r} h = mem_keep (λ x. eqb (v.entry x) a) xs h.there (subst (λ k. T (eqb (v.entry r) k)) h.entry (eqb_refl (v.entry r)))

  pub record Two (p : A → A → Bool) (a b : ℕ) (xs : List A) (x : Node A) : Type 0 where
    pub l : A
    pub r : A
    pub is : x ≡ pair l r
    pub hasl : Has xs a l
    pub hasr : Has xs b r
    pub ok : T (p l r)

  pub record One (m : Arm) (a : ℕ) (xs : List A) (x : Node A) : Type 0 where
    pub r : A
    pub is : x ≡ part m r
    pub hasr : Has xs a r

  pub record Less (c : Edges) (a b : ℕ) (xs : List A) (x : Node A) : Type 0 where
    pub r : A
    pub is : x ≡ part only r
    pub hasr : Has xs a r
    pub ok : (s : A) → Has xs b s → T (is_forbidding c (v.start r) (v.end r) (v.start s) (v.end s)) → ⊥

  pub record Long (c : LengthTest) (a d : ℕ) (xs : List A) (x : Node A) : Type 0 where
    pub r : A
    pub is : x ≡ part only r
    pub hasr : Has xs a r
    pub ok : T (has_length c d (v.start r) (v.end r))

  pub record Near (c : Nearest) (a b : ℕ) (xs : List A) (x : Node A) : Type 0 where
    pub two : Two (fits v Seq) a b xs x
    pub first : (s : A) → Has xs b s → T (rival_of_second v two.l two.r s) → ⊥
    pub last : (r : A) → Has xs a r → T (rival_of_first v c two.l two.r r) → ⊥

  abbrev pub Made : Operator → List Event → List A → Node A → Type 0
  Made (event k) es xs x = Memᴰ x (leaves {A = A} k es)
  Made (related c a b) es xs x = Two (fits v c) a b xs x
  Made (or a b) es xs x = One left a xs x ⊎ One right b xs x
  Made (absence c a b) es xs x = Less c a b xs x
  Made (lasting c a d) es xs x = Long c a d xs x
  Made (after a d) es xs x = One (delayed d) a xs x
  Made (nearest c a b) es xs x = Near c a b xs x

  one_made : (m : Arm) (a : ℕ) (xs : List A) {x : Node A} → Memᴰ x (map (part m) (of v a xs)) → One m a xs x
  one_made m a xs h = let p = Memᴰ.of_map (part m) (of v a xs) h in record { r = p.0; is = sym p.2; hasr = has xs a p.1 }

  made_one : (m : Arm) (a : ℕ) (xs : List A) {x : Node A} → One m a xs x → Memᴰ x (map (part m) (of v a xs))
  made_one m a xs h = Memᴰ.cast h.is (Memᴰ.map (part m) (had xs a h.hasr))

  pairs_made : (p : A → A → Bool) (a b : ℕ) (xs : List A) {x : Node A} → Memᴰ x (pairs p (of v a xs) (of v b xs)) → Two p a b xs x
  pairs_made p a b xs m =
      let q = each_mem (λ l. map (pair l) (keep (p l) (of v b xs))) (of v a xs) m in
      let w = Memᴰ.of_map (pair q.0) (keep (p q.0) (of v b xs)) q.2 in
      let k = keep_mem (p q.0) (of v b xs) w.1 in
      record { l = q.0; r = w.0; is = sym w.2; hasl = has xs a q.1; hasr = has xs b k.0; ok = k.1 }

  made_pairs : (p : A → A → Bool) (a b : ℕ) (xs : List A) {x : Node A} → Two p a b xs x → Memᴰ x (pairs p (of v a xs) (of v b xs))
  made_pairs p a b xs h = mem_each (λ l. map (pair l) (keep (p l) (of v b xs))) (of v a xs) (had xs a h.hasl) (Memᴰ.cast h.is (Memᴰ.map (pair h.l) (mem_keep (p h.l) (of v b xs) (had xs b h.hasr) h.ok)))

  -- no element of an entry passes the test
  none_of : (p : A → Bool) (a : ℕ) (xs : List A) → T (not (some p (of v a xs))) → (r : A) → Has xs a r → T (p r) → ⊥
  none_of p a xs h r k t = T_not (some p (of v a xs)) h (mem_some p (of v a xs) (had xs a k) t)

  of_none : (p : A → Bool) (a : ℕ) (xs : List A) → ((r : A) → Has xs a r → T (p r) → ⊥) → T (not (some p (of v a xs)))
  of_none p a xs h = not_T (some p (of v a xs)) (λ t. let q = some_mem p (of v a xs) t in h q.0 (has xs a q.1) q.2)

  pub make_made : (op : Operator) (es : List Event) (xs : List A) (x : Node A) → Memᴰ x (make v op es xs) → Made op es xs x
  make_made (event k) es xs x m = m
  make_made (related c a b) es xs x m = pairs_made (fits v c) a b xs m
  make_made (or a b) es xs x m = elim (Memᴰ.append_cases (map (part left) (of v a xs)) m) [ inl h ↦ inl (one_made left a xs h) | inr h ↦ inr (one_made right b xs h) ]
  make_made (absence c a b) es xs x m =
      let p = Memᴰ.of_map (part only) (keep (λ r. not (forbidden v c (of v b xs) r)) (of v a xs)) m in
      let k = keep_mem (λ r. not (forbidden v c (of v b xs) r)) (of v a xs) p.1 in
      record { r = p.0; is = sym p.2; hasr = has xs a k.0; ok = none_of (λ z. is_forbidding c (v.start p.0) (v.end p.0) (v.start z) (v.end z)) b xs k.1 }
  make_made (lasting c a d) es xs x m =
      let p = Memᴰ.of_map (part only) (keep (λ r. has_length c d (v.start r) (v.end r)) (of v a xs)) m in
      let k = keep_mem (λ r. has_length c d (v.start r) (v.end r)) (of v a xs) p.1 in
      record { r = p.0; is = sym p.2; hasr = has xs a k.0; ok = k.1 }
  make_made (after a d) es xs x m = one_made (delayed d) a xs m
  make_made (nearest c a b) es xs x m =
      let q = pairs_made (near v c (of v a xs) (of v b xs)) a b xs m in
      let n : Bool = not (some (rival_of_second v q.l q.r) (of v b xs)) in
      let k : Bool = not (some (rival_of_first v c q.l q.r) (of v a xs)) in
      let t = T_and (fits v Seq q.l q.r) (n && k) q.ok in
      let u = T_and n k t.1 in
      record { two = record { l = q.l; r = q.r; is = q.is; hasl = q.hasl; hasr = q.hasr; ok = t.0 }; first = none_of (rival_of_second v q.l q.r) b xs u.0; last = none_of (rival_of_first v c q.l q.r) a xs u.1 }

  pub made_make : (op : Operator) (es : List Event) (xs : List A) (x : Node A) → Made op es xs x → Memᴰ x (make v op es xs)
  made_make (event k) es xs x m = m
  made_make (related c a b) es xs x h = made_pairs (fits v c) a b xs h
  made_make (or a b) es xs x (inl h) = Memᴰ.append_left (map (part right) (of v b xs)) (made_one left a xs h)
  made_make (or a b) es xs x (inr h) = Memᴰ.append_right (map (part left) (of v a xs)) (made_one right b xs h)
  made_make (absence c a b) es xs x h =
      Memᴰ.cast h.is (Memᴰ.map (part only) (mem_keep (λ r. not (forbidden v c (of v b xs) r)) (of v a xs) (had xs a h.hasr) (of_none (λ z. is_forbidding c (v.start h.r) (v.end h.r) (v.start z) (v.end z)) b xs h.ok)))
  made_make (lasting c a d) es xs x h = Memᴰ.cast h.is (Memᴰ.map (part only) (mem_keep (λ r. has_length c d (v.start r) (v.end r)) (of v a xs) (had xs a h.hasr) h.ok))
  made_make (after a d) es xs x h = made_one (delayed d) a xs h
  made_make (nearest c a b) es xs x h =
      let q = h.two in
      let n : Bool = not (some (rival_of_second v q.l q.r) (of v b xs)) in
      let k : Bool = not (some (rival_of_first v c q.l q.r) (of v a xs)) in
      made_pairs (near v c (of v a xs) (of v b xs)) a b xs (record { l = q.l; r = q.r; is = q.is; hasl = q.hasl; hasr = q.hasr; ok = and_T (fits v Seq q.l q.r) (n && k) q.ok (and_T n k (of_none (rival_of_second v q.l q.r) b xs h.first) (of_none (rival_of_first v c q.l q.r) a xs h.last)) })

  -- what holds of each part, and so of what is made
  pub made_all : (P : A → Type 0) (Q : Node A → Type 0) (xs : List A) → ((r : A) → Memᴰ r xs → P r) → ((m : Arm) (r : A) → P r → Q (part m r)) → ((l r : A) → P l → P r → Q (pair l r))
      → (op : Operator) (es : List Event) (x : Node A) → ((k : ℕ) → Memᴰ x (leaves k es) → Q x) → Made op es xs x → Q x
  made_all P Q xs h f g (event k) es x e m = e k m
  made_all P Q xs h f g (related c a b) es x e m = subst Q (sym m.is) (g m.l m.r (h m.l m.hasl.there) (h m.r m.hasr.there))
  made_all P Q xs h f g (or a b) es x e (inl m) = subst Q (sym m.is) (f left m.r (h m.r m.hasr.there))
  made_all P Q xs h f g (or a b) es x e (inr m) = subst Q (sym m.is) (f right m.r (h m.r m.hasr.there))
  made_all P Q xs h f g (absence c a b) es x e m = subst Q (sym m.is) (f only m.r (h m.r m.hasr.there))
  made_all P Q xs h f g (lasting c a d) es x e m = subst Q (sym m.is) (f only m.r (h m.r m.hasr.there))
  made_all P Q xs h f g (after a d) es x e m = subst Q (sym m.is) (f (delayed d) m.r (h m.r m.hasr.there))
  made_all P Q xs h f g (nearest c a b) es x e m = subst Q (sym m.two.is) (g m.two.l m.two.r (h m.two.l m.two.hasl.there) (h m.two.r m.two.hasr.there))
