-- The dictionary order is strict and total; the key of a tree can be read back, so the order of rows is strict and total too.
use Prim.Native.Nat.{ℕ}
use native.Mathlib.Omega.{arith}
use mathlib.Core.Path.{◌≡◌, refl, sym, ap, ap₂, ◌∙◌, subst}
use mathlib.Core.Logic.{◌⊎◌, inl, inr}
use mathlib.Core.Bool.{Bool, true, false, cond, not, ◌&&◌, ◌||◌}
use mathlib.Core.List.{List, [], ◌∷◌, ◌++◌, append_assoc, append-nil, head-eq_of_cons-eq, tail-eq_of_cons-eq}
use lib.Dec.{T, T_not, not_T}
use lib.IntN.{ℤ, pos, neg_ℤ}
use lib.Signed.{lt_z}
use Rattle.interval.specs.Instants.{eq_z, least, greatest}
use Rattle.interval.proofs.Signed.{pos_part, ◌<ᶻ◌, eq_fact, lt_z→, →lt_z, eq_z→, eq_z_refl, antisym, neg_lt, neg_eq}
use Rattle.model.specs.Recognitions.{Arm, only, left, right, delayed, Recognition, of_event, of_one, of_two, entry_of, start_of, end_by, end_of}
use Rattle.model.specs.Order.{Comparison, less, equal, greater, ◌then◌, compare_z, compare_n, arm_number, by_end_entry_and_start, compare, is_less, before}
use Rattle.model.proofs.Sorted.{T-or, or_T, T_and, and_T}

-- the dictionary order
abbrev pub lex : List ℤ → List ℤ → Bool
lex [] [] = false
lex [] (y ∷ ys) = true
lex (x ∷ xs) [] = false
lex (x ∷ xs) (y ∷ ys) = lt_z x y || (eq_z x y && lex xs ys)

-- `lex` at two lists that are not empty, as a fact
pub lex_cases : (x y : ℤ) (xs ys : List ℤ) → T (lex (x ∷ xs) (y ∷ ys)) → (x <ᶻ y) ⊎ ((x ≡ y) × T (lex xs ys))
lex_cases x y xs ys h = go (T-or (lt_z x y) (eq_z x y && lex xs ys) h)
  where
    go : T (lt_z x y) ⊎ T (eq_z x y && lex xs ys) → (x <ᶻ y) ⊎ ((x ≡ y) × T (lex xs ys))
    go (inl t) = inl (lt_z→ x y t)
    go (inr t) = let r = T_and (eq_z x y) (lex xs ys) t in inr (eq_z→ x y r.0, r.1)

pub lex_lt : (x y : ℤ) (xs ys : List ℤ) → x <ᶻ y → T (lex (x ∷ xs) (y ∷ ys))
lex_lt x y xs ys h = or_T (lt_z x y) (eq_z x y && lex xs ys) (inl (→lt_z x y h))

pub lex_eq : (x y : ℤ) (xs ys : List ℤ) → x ≡ y → T (lex xs ys) → T (lex (x ∷ xs) (y ∷ ys))
lex_eq x y xs ys e h = or_T (lt_z x y) (eq_z x y && lex xs ys) (inr (and_T (eq_z x y) (lex xs ys) (subst (λ z. T (eq_z x z)) e (eq_z_refl x)) h))

pub lex_irrefl : (xs : List ℤ) → T (lex xs xs) → ⊥
lex_irrefl [] h = h
lex_irrefl (x ∷ xs) h = elim (lex_cases x x xs xs h) [ inl l ↦ omega arith | inr r ↦ lex_irrefl xs r.1 ]

pub lex_trans : (xs ys zs : List ℤ) → T (lex xs ys) → T (lex ys zs) → T (lex xs zs)
lex_trans [] [] zs h k = absurd h
lex_trans [] (y ∷ ys) [] h k = absurd k
lex_trans [] (y ∷ ys) (z ∷ zs) h k = tt
lex_trans (x ∷ xs) [] zs h k = absurd h
lex_trans (x ∷ xs) (y ∷ ys) [] h k = absurd k
lex_trans (x ∷ xs) (y ∷ ys) (z ∷ zs) h k = go (lex_trans xs ys zs) (lex_cases x y xs ys h) (lex_cases y z ys zs k)
  where
    go : (T (lex xs ys) → T (lex ys zs) → T (lex xs zs)) → (x <ᶻ y) ⊎ ((x ≡ y) × T (lex xs ys)) → (y <ᶻ z) ⊎ ((y ≡ z) × T (lex ys zs)) → T (lex (x ∷ xs) (z ∷ zs))
    go ih (inl a) (inl b) = lex_lt x z xs zs (omega arith)
    go ih (inl a) (inr b) = lex_lt x z xs zs (omega (arith, eq_fact b.0))
    go ih (inr a) (inl b) = lex_lt x z xs zs (omega (arith, eq_fact a.0))
    go ih (inr a) (inr b) = lex_eq x z xs zs (a.0 ∙ b.0) (ih a.1 b.1)

pub lex_total : (xs ys : List ℤ) → T (not (lex xs ys)) → T (not (lex ys xs)) → xs ≡ ys
lex_total [] [] h k = refl
lex_total [] (y ∷ ys) h k = absurd h
lex_total (x ∷ xs) [] h k = absurd k
lex_total (x ∷ xs) (y ∷ ys) h k = ap₂ ◌∷◌ e (lex_total xs ys (down xs ys x y e h) (down ys xs y x (sym e) k))
  where
    below : (us vs : List ℤ) (a b : ℤ) → T (not (lex (a ∷ us) (b ∷ vs))) → a <ᶻ b → ⊥
    below us vs a b n l = T_not (lex (a ∷ us) (b ∷ vs)) n (lex_lt a b us vs l)

    down : (us vs : List ℤ) (a b : ℤ) → a ≡ b → T (not (lex (a ∷ us) (b ∷ vs))) → T (not (lex us vs))
    down us vs a b p n = not_T (lex us vs) (λ t. T_not (lex (a ∷ us) (b ∷ vs)) n (lex_eq a b us vs p t))

    e : x ≡ y
    e =
        let p : ¬ (x <ᶻ y) = below xs ys x y h in
        let q : ¬ (y <ᶻ x) = below ys xs y x k in
        antisym x y (omega arith) (omega arith)

-- what is before another stays so with more behind both, unless it is the beginning of the other
pub lex_append : (xs ys : List ℤ) → T (lex xs ys) → ((z : List ℤ) × (ys ≡ xs ++ z)) ⊎ ((us vs : List ℤ) → T (lex (xs ++ us) (ys ++ vs)))
lex_append [] ys h = inl (ys, refl)
lex_append (x ∷ xs) [] h = absurd h
lex_append (x ∷ xs) (y ∷ ys) h = go (lex_append xs ys) (lex_cases x y xs ys h)
  where
    more : x ≡ y → ((z : List ℤ) × (ys ≡ xs ++ z)) ⊎ ((us vs : List ℤ) → T (lex (xs ++ us) (ys ++ vs))) → ((z : List ℤ) × (y ∷ ys ≡ x ∷ xs ++ z)) ⊎ ((us vs : List ℤ) → T (lex (x ∷ xs ++ us) (y ∷ ys ++ vs)))
    more e (inl r) = inl (r.0, ap₂ ◌∷◌ (sym e) r.1)
    more e (inr f) = inr (λ us vs. lex_eq x y (xs ++ us) (ys ++ vs) e (f us vs))

    go : (T (lex xs ys) → ((z : List ℤ) × (ys ≡ xs ++ z)) ⊎ ((us vs : List ℤ) → T (lex (xs ++ us) (ys ++ vs)))) → (x <ᶻ y) ⊎ ((x ≡ y) × T (lex xs ys)) → ((z : List ℤ) × (y ∷ ys ≡ x ∷ xs ++ z)) ⊎ ((us vs : List ℤ) → T (lex (x ∷ xs ++ us) (y ∷ ys ++ vs)))
    go ih (inl l) = inr (λ us vs. lex_lt x y (xs ++ us) (ys ++ vs) l)
    go ih (inr r) = more r.0 (ih r.1)

pub lex_behind : (xs us vs : List ℤ) → T (lex us vs) → T (lex (xs ++ us) (xs ++ vs))
lex_behind [] us vs h = h
lex_behind (x ∷ xs) us vs h = lex_eq x x (xs ++ us) (xs ++ vs) refl (lex_behind xs us vs h)

-- the numbers by which a recognition is compared, one after another; the start counts backwards
abbrev pub key : Recognition → List ℤ
key (of_event n s i) = i ∷ pos n ∷ neg_ℤ i ∷ pos 0 ∷ pos s ∷ []
key (of_one n m r) = end_by m (end_of r) ∷ pos n ∷ neg_ℤ (start_of r) ∷ pos 1 ∷ pos (arm_number m) ∷ key r
key (of_two n r s) = greatest (end_of r) (end_of s) ∷ pos n ∷ neg_ℤ (least (start_of r) (start_of s)) ∷ pos 2 ∷ (key r ++ key s)

-- the order of rows is the dictionary order of the keys
abbrev compare_lists : List ℤ → List ℤ → Comparison
compare_lists [] [] = equal
compare_lists [] (y ∷ ys) = less
compare_lists (x ∷ xs) [] = greater
compare_lists (x ∷ xs) (y ∷ ys) = compare_z x y then compare_lists xs ys

then_equal : (c : Comparison) → (c then equal) ≡ c
then_equal less = refl
then_equal equal = refl
then_equal greater = refl

then_assoc : (a b c : Comparison) → ((a then b) then c) ≡ (a then b then c)
then_assoc less b c = refl
then_assoc equal b c = refl
then_assoc greater b c = refl

compare_neg : (a b : ℤ) → compare_z (neg_ℤ a) (neg_ℤ b) ≡ compare_z b a
compare_neg a b = ap₂ (λ p q. cond p less (cond q equal greater)) (neg_lt a b) (neg_eq a b)

-- the front of two keys: end, entry and start
abbrev compare_fronts : Recognition → Recognition → Comparison → Comparison
compare_fronts t u c = compare_z (end_of t) (end_of u) then compare_n (entry_of t) (entry_of u) then compare_z (neg_ℤ (start_of t)) (neg_ℤ (start_of u)) then c

compare_front : (t u : Recognition) (c d : Comparison) → compare_fronts t u (c then d) ≡ ((by_end_entry_and_start t u then c) then d)
compare_front t u c d =
    let e : Comparison = compare_z (end_of t) (end_of u) in
    let n : Comparison = compare_n (entry_of t) (entry_of u) in
    let s : Comparison = compare_z (start_of u) (start_of t) in
    ap (λ z. e then n then z then c then d) (compare_neg (start_of t) (start_of u)) ∙ sym (then_assoc (e then n then s) c d ∙ then_assoc e (n then s) (c then d) ∙ ap (λ z. e then z) (then_assoc n s (c then d)))

compare_key : (t u : Recognition) (x y : List ℤ) → compare_lists (key t ++ x) (key u ++ y) ≡ (compare t u then compare_lists x y)
unfolding compare
compare_key (of_event n s i) (of_event n' s' i') x y = compare_front (of_event n s i) (of_event n' s' i') (compare_n s s') (compare_lists x y)
compare_key (of_one n m r) (of_one n' m' r') x y =
    let a : Comparison = compare_n (arm_number m) (arm_number m') in
    ap (compare_fronts (of_one n m r) (of_one n' m' r')) (ap (λ c. a then c) (compare_key r r' x y) ∙ sym (then_assoc a (compare r r') (compare_lists x y)))
    ∙ compare_front (of_one n m r) (of_one n' m' r') (a then compare r r') (compare_lists x y)
compare_key (of_two n r s) (of_two n' r' s') x y =
    ap (compare_fronts (of_two n r s) (of_two n' r' s')) (ap₂ compare_lists (append_assoc (key r) (key s) x) (append_assoc (key r') (key s') y)
    ∙ compare_key r r' (key s ++ x) (key s' ++ y) ∙ ap (λ c. compare r r' then c) (compare_key s s' x y) ∙ sym (then_assoc (compare r r') (compare s s') (compare_lists x y)))
    ∙ compare_front (of_two n r s) (of_two n' r' s') (compare r r' then compare s s') (compare_lists x y)
compare_key (of_event n s i) (of_one n' m' r') x y = compare_front (of_event n s i) (of_one n' m' r') less (compare_lists x y)
compare_key (of_event n s i) (of_two n' r' s') x y = compare_front (of_event n s i) (of_two n' r' s') less (compare_lists x y)
compare_key (of_one n m r) (of_event n' s' i') x y = compare_front (of_one n m r) (of_event n' s' i') greater (compare_lists x y)
compare_key (of_one n m r) (of_two n' r' s') x y = compare_front (of_one n m r) (of_two n' r' s') less (compare_lists x y)
compare_key (of_two n r s) (of_event n' s' i') x y = compare_front (of_two n r s) (of_event n' s' i') greater (compare_lists x y)
compare_key (of_two n r s) (of_one n' m' r') x y = compare_front (of_two n r s) (of_one n' m' r') greater (compare_lists x y)

is_less_lex : (xs ys : List ℤ) → is_less (compare_lists xs ys) ≡ lex xs ys
is_less_lex [] [] = refl
is_less_lex [] (y ∷ ys) = refl
is_less_lex (x ∷ xs) [] = refl
is_less_lex (x ∷ xs) (y ∷ ys) = go (lt_z x y) (eq_z x y) ∙ ap (λ b. lt_z x y || (eq_z x y && b)) (is_less_lex xs ys)
  where
    go : (a b : Bool) → is_less (cond a less (cond b equal greater) then compare_lists xs ys) ≡ (a || (b && is_less (compare_lists xs ys)))
    go true b = refl
    go false true = refl
    go false false = refl

pub before_key : (t u : Recognition) → before t u ≡ lex (key t) (key u)
before_key t u = ap is_less (sym (then_equal (compare t u)) ∙ sym (compare_key t u [] []) ∙ ap₂ compare_lists (append-nil (key t)) (append-nil (key u))) ∙ is_less_lex (key t) (key u)

pub before→lex : (t u : Recognition) → T (before t u) → T (lex (key t) (key u))
before→lex t u = subst T (before_key t u)

pub lex→before : (t u : Recognition) → T (lex (key t) (key u)) → T (before t u)
lex→before t u = subst T (sym (before_key t u))

-- the key of a tree can be read back, whatever stands behind it; its start says nothing new
front : {a c b a' c' b' : ℤ} {xs xs' : List ℤ} → Path (List ℤ) (a ∷ c ∷ b ∷ xs) (a' ∷ c' ∷ b' ∷ xs') → (a ≡ a') × (c ≡ c') × (xs ≡ xs')
front e = let p = tail-eq_of_cons-eq e in (head-eq_of_cons-eq e, head-eq_of_cons-eq p, tail-eq_of_cons-eq (tail-eq_of_cons-eq p))

pos_inj : {m n : ℕ} → pos m ≡ pos n → m ≡ n
pos_inj e = ap pos_part e

tags : {m n : ℕ} {xs ys : List ℤ} → Path (List ℤ) (pos m ∷ xs) (pos n ∷ ys) → m ≡ n
tags e = pos_inj (head-eq_of_cons-eq e)

arm_inj : (m m' : Arm) → arm_number m ≡ arm_number m' → m ≡ m'
arm_inj only only e = refl
arm_inj only left e = absurd (omega arith)
arm_inj only right e = absurd (omega arith)
arm_inj only (delayed d') e = absurd (omega arith)
arm_inj left only e = absurd (omega arith)
arm_inj left left e = refl
arm_inj left right e = absurd (omega arith)
arm_inj left (delayed d') e = absurd (omega arith)
arm_inj right only e = absurd (omega arith)
arm_inj right left e = absurd (omega arith)
arm_inj right right e = refl
arm_inj right (delayed d') e = absurd (omega arith)
arm_inj (delayed d) only e = absurd (omega arith)
arm_inj (delayed d) left e = absurd (omega arith)
arm_inj (delayed d) right e = absurd (omega arith)
arm_inj (delayed d) (delayed d') e = ap delayed (omega arith)

pub key_back : (t u : Recognition) (x y : List ℤ) → key t ++ x ≡ key u ++ y → (t ≡ u) × (x ≡ y)
key_back (of_event n s i) (of_event n' s' i') x y e =
    let p = front e in
    let q = tail-eq_of_cons-eq p.2 in
    (λ j. of_event (pos_inj p.1 j) (tags q j) (p.0 j), tail-eq_of_cons-eq q)
key_back (of_event n s i) (of_one n' m' t') x y e = let z : ◌≡◌ {A = ℕ} 0 1 = tags (front e).2 in absurd (omega arith)
key_back (of_event n s i) (of_two n' l' r') x y e = let z : ◌≡◌ {A = ℕ} 0 2 = tags (front e).2 in absurd (omega arith)
key_back (of_one n m t) (of_event n' s' i') x y e = let z : ◌≡◌ {A = ℕ} 1 0 = tags (front e).2 in absurd (omega arith)
key_back (of_one n m t) (of_one n' m' t') x y e =
    let p = front e in
    let q = tail-eq_of_cons-eq p.2 in
    let h = key_back t t' x y (tail-eq_of_cons-eq q) in
    (λ j. of_one (pos_inj p.1 j) (arm_inj m m' (tags q) j) (h.0 j), h.1)
key_back (of_one n m t) (of_two n' l' r') x y e = let z : ◌≡◌ {A = ℕ} 1 2 = tags (front e).2 in absurd (omega arith)
key_back (of_two n l r) (of_event n' s' i') x y e = let z : ◌≡◌ {A = ℕ} 2 0 = tags (front e).2 in absurd (omega arith)
key_back (of_two n l r) (of_one n' m' t') x y e = let z : ◌≡◌ {A = ℕ} 2 1 = tags (front e).2 in absurd (omega arith)
key_back (of_two n l r) (of_two n' l' r') x y e =
    let p = front e in
    let h = key_back l l' (key r ++ x) (key r' ++ y) (sym (append_assoc (key l) (key r) x) ∙ tail-eq_of_cons-eq p.2 ∙ append_assoc (key l') (key r') y) in
    let k = key_back r r' x y h.1 in
    (λ j. of_two (pos_inj p.1 j) (h.0 j) (k.0 j), k.1)

pub before_irrefl : (t : Recognition) → T (before t t) → ⊥
before_irrefl t h = lex_irrefl (key t) (before→lex t t h)

pub before_trans : (t u v : Recognition) → T (before t u) → T (before u v) → T (before t v)
before_trans t u v h k = lex→before t v (lex_trans (key t) (key u) (key v) (before→lex t u h) (before→lex u v k))

pub before_total : (t u : Recognition) → T (not (before t u)) → T (not (before u t)) → t ≡ u
before_total t u h k = (key_back t u [] [] (ap (λ l. l ++ []) (lex_total (key t) (key u) (subst (λ b. T (not b)) (before_key t u) h) (subst (λ b. T (not b)) (before_key u t) k)))).0

-- where a recognition is before another, so is its key with anything behind both keys
pub before_append : (t u : Recognition) (x y : List ℤ) → T (before t u) → T (lex (key t ++ x) (key u ++ y))
before_append t u x y h = go (lex_append (key t) (key u) (before→lex t u h))
  where
    go : ((z : List ℤ) × (key u ≡ key t ++ z)) ⊎ ((us vs : List ℤ) → T (lex (key t ++ us) (key u ++ vs))) → T (lex (key t ++ x) (key u ++ y))
    go (inl r) = absurd (before_irrefl t (subst (λ w. T (before t w)) (key_back u t [] r.0 (append-nil (key u) ∙ r.1)).0 h))
    go (inr f) = f x y
