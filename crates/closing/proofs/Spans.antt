-- Lists made over numbers: a list for each number of a span, with its first number taken off, with those left out that make nothing, and
-- what a test keeps of it.
use Prim.Native.Nat.{ℕ, zero, suc, ◌+◌, ◌-◌, ◌≤◌, ◌<◌}
use native.Mathlib.Omega.{arith}
use native.Mathlib.Nat.{zero-add, add-zero}
use native.Mathlib.Numerals.{add-one}
use mathlib.Core.Path.{◌≡◌, refl, sym, ap, ap₂, ◌∙◌}
use mathlib.Core.Bool.{Bool, true, false, cond, ◌&&◌, ◌||◌}
use mathlib.Core.List.{List, [], ◌∷◌, ◌++◌, map, map-append, append_assoc, append-nil}
use native.Mathlib.Decide.{ℕ_discrete}
use lib.IntN.{ℤ}
use lib.ListN.{length, get_or}
use Rattle.interval.proofs.Signed.{never}
use Rattle.model.specs.Recognitions.{Event}
use Rattle.model.specs.RowSteps.{numbered}
use Rattle.model.specs.Lists.{keep, some, each, numbers}
use Rattle.model.proofs.Sorted.{keep_append}
use Rattle.closing.specs.Added.{span}

module _ {B : Type 0} where
  pub each_same : (f g : ℕ → List B) (a k : ℕ) → ((i : ℕ) → a ≤ i → i < a + k → f i ≡ g i) → each f (numbers a k) ≡ each g (numbers a k)
  each_same f g a zero h = refl
  each_same f g a (suc k) h = ap₂ ◌++◌ (h a (omega arith) (omega arith)) (each_same f g (suc a) k (λ i p q. h i (omega arith) (omega arith)))

  each_empty : (f : ℕ → List B) (a k : ℕ) → ((i : ℕ) → a ≤ i → i < a + k → f i ≡ []) → each f (numbers a k) ≡ []
  each_empty f a zero h = refl
  each_empty f a (suc k) h = rw (h a (omega arith) (omega arith)) (each_empty f (suc a) k (λ i p q. h i (omega arith) (omega arith)))

  each_cut : (f : ℕ → List B) (a k l : ℕ) → each f (numbers a (k + l)) ≡ each f (numbers a k) ++ each f (numbers (a + k) l)
  each_cut f a zero l = let e : 0 + l ≡ l = omega arith in rw (e, add-zero a)
  each_cut f a (suc k) l =
      let e : suc k + l ≡ suc (k + l) = omega arith in
      let d : suc a + k ≡ a + suc k = omega arith in
      rw e (ap (λ x. f a ++ x) (each_cut f (suc a) k l ∙ rw d) ∙ sym (append_assoc (f a) (each f (numbers (suc a) k)) (each f (numbers (a + suc k) l))))

  pub each_last : (f : ℕ → List B) (k : ℕ) → each f (numbers 0 (k + 1)) ≡ each f (numbers 0 k) ++ f k
  each_last f k = each_cut f 0 k 1 ∙ rw (zero-add k) (ap (λ x. each f (numbers 0 k) ++ x) (append-nil (f k)))

  -- a span with nothing in it; its first number taken off
  pub each_none : (f : ℕ → List B) (i e : ℕ) → e ≤ i → each f (span i e) ≡ []
  each_none f i e h = let z : e - i ≡ 0 = omega arith in rw z

  pub each_on : (f : ℕ → List B) (i e : ℕ) → i < e → each f (span i e) ≡ f i ++ each f (span (i + 1) e)
  each_on f i e h = let z : e - i ≡ suc (e - (i + 1)) = omega arith in rw (z, add-one)

  pub span_same : (f g : ℕ → List B) (a e : ℕ) → ((i : ℕ) → a ≤ i → i < e → f i ≡ g i) → each f (span a e) ≡ each g (span a e)
  span_same f g a e h = each_same f g a (e - a) (λ i p q. h i p (omega arith))

  -- what is left out makes nothing
  pub each_from : (f : ℕ → List B) (k n : ℕ) → k ≤ n → ((i : ℕ) → i < k → f i ≡ []) → each f (numbers 0 n) ≡ each f (span k n)
  each_from f k n h z =
      let e : n ≡ k + (n - k) = omega arith in
      ap (λ x. each f (numbers 0 x)) e ∙ each_cut f 0 k (n - k) ∙ rw (each_empty f 0 k (λ i p q. z i (omega arith)), zero-add)

  pub each_none_of : (f : ℕ → List B) (i n : ℕ) → ((j : ℕ) → i ≤ j → j < n → f j ≡ []) → each f (span i n) ≡ []
  each_none_of f i n z = each_empty f i (n - i) (λ j p q. z j p (omega arith))

  pub each_past : (f : ℕ → List B) (i k n : ℕ) → i ≤ k → k ≤ n → ((j : ℕ) → i ≤ j → j < k → f j ≡ []) → each f (span i n) ≡ each f (span k n)
  each_past f i k n h g z =
      let e : n - i ≡ (k - i) + (n - k) = omega arith in
      let d : i + (k - i) ≡ k = omega arith in
      rw e (each_cut f i (k - i) (n - k) ∙ rw (each_empty f i (k - i) (λ j p q. z j p (omega arith)), d))

  pub each_upto : (f : ℕ → List B) (i k n : ℕ) → i ≤ k → k ≤ n → ((j : ℕ) → k ≤ j → j < n → f j ≡ []) → each f (span i n) ≡ each f (span i k)
  each_upto f i k n h g z =
      let e : n - i ≡ (k - i) + (n - k) = omega arith in
      let d : i + (k - i) ≡ k = omega arith in
      rw e (each_cut f i (k - i) (n - k) ∙ rw (d, each_none_of f k n z) (append-nil (each f (span i k))))

  pub each_nothing : (f : ℕ → List B) (n : ℕ) → ((i : ℕ) → i < n → f i ≡ []) → each f (numbers 0 n) ≡ []
  each_nothing f n z = each_empty f 0 n (λ i p q. z i (omega arith))

module _ {A : Type 0} where
  pub keep_keep : (p q : A → Bool) (xs : List A) → keep p (keep q xs) ≡ keep (λ x. q x && p x) xs
  keep_keep p q [] = refl
  keep_keep p q (x ∷ xs) = go (q x) (keep_keep p q xs)
    where
      go : (b : Bool) → keep p (keep q xs) ≡ keep (λ y. q y && p y) xs → keep p (cond b (x ∷ keep q xs) (keep q xs)) ≡ cond (b && p x) (x ∷ keep (λ y. q y && p y) xs) (keep (λ y. q y && p y) xs)
      go true h = rw h
      go false h = h

  pub keep_all : (xs : List A) → keep (λ x. true) xs ≡ xs
  keep_all [] = refl
  keep_all (x ∷ xs) = ap (λ l. x ∷ l) (keep_all xs)

  pub some_keep : (p q : A → Bool) (xs : List A) → some p (keep q xs) ≡ some (λ x. q x && p x) xs
  some_keep p q [] = refl
  some_keep p q (x ∷ xs) = go (q x) (some_keep p q xs)
    where
      go : (b : Bool) → some p (keep q xs) ≡ some (λ y. q y && p y) xs → some p (cond b (x ∷ keep q xs) (keep q xs)) ≡ ((b && p x) || some (λ y. q y && p y) xs)
      go true h = rw h
      go false h = h

pub some_none : (p : ℕ → Bool) (a k : ℕ) → ((i : ℕ) → a ≤ i → i < a + k → p i ≡ false) → some p (numbers a k) ≡ false
some_none p a zero h = refl
some_none p a (suc k) h = rw (h a (omega arith) (omega arith)) (some_none p (suc a) k (λ i c d. h i (omega arith) (omega arith)))

pub some_same : (p q : ℕ → Bool) (a k : ℕ) → ((i : ℕ) → a ≤ i → i < a + k → p i ≡ q i) → some p (numbers a k) ≡ some q (numbers a k)
some_same p q a zero h = refl
some_same p q a (suc k) h = ap₂ ◌||◌ (h a (omega arith) (omega arith)) (some_same p q (suc a) k (λ i c d. h i (omega arith) (omega arith)))

-- where none passes, none does
pub none_at : (p : ℕ → Bool) (a k : ℕ) → some p (numbers a k) ≡ false → (i : ℕ) → a ≤ i → i < a + k → p i ≡ false
none_at p a zero h i c d = absurd (omega arith)
none_at p a (suc k) h i c d = go (p a) refl (ℕ_discrete i a) h (λ e. none_at p (suc a) k e i)
  where
    go : (x : Bool) → p a ≡ x → Dec (i ≡ a) → (x || some p (numbers (suc a) k)) ≡ false → (some p (numbers (suc a) k) ≡ false → suc a ≤ i → i < suc a + k → p i ≡ false) → p i ≡ false
    go true e w z f = never (sym z)
    go false e (yes w) z f = rw w e
    go false e (no w) z f = f z (omega arith) (omega arith)

pub some_snoc : (p : ℕ → Bool) (a k : ℕ) → some p (numbers a (suc k)) ≡ (p (a + k) || some p (numbers a k))
some_snoc p a zero = rw add-zero
some_snoc p a (suc k) = let e : suc a + k ≡ a + suc k = omega arith in rw (some_snoc p (suc a) k, e) (swap (p a) (p (a + suc k)))
  where
    rest : Bool
    rest = some p (numbers (suc a) k)

    swap : (x y : Bool) → (x || (y || rest)) ≡ (y || (x || rest))
    swap true true = refl
    swap true false = refl
    swap false true = refl
    swap false false = refl

pub some_front : (p : ℕ → Bool) (k n : ℕ) → k ≤ n → ((i : ℕ) → k ≤ i → i < n → p i ≡ false) → some p (numbers 0 n) ≡ some p (numbers 0 k)
some_front p k zero h z = let e : k ≡ 0 = omega arith in rw e
some_front p k (suc n) h z = go (ℕ_discrete k (suc n)) (λ g. some_front p k n g (λ i a b. z i a (omega arith)))
  where
    go : Dec (k ≡ suc n) → (k ≤ n → some p (numbers 0 n) ≡ some p (numbers 0 k)) → some p (numbers 0 (suc n)) ≡ some p (numbers 0 k)
    go (yes e) f = rw e
    go (no e) f = some_snoc p 0 n ∙ rw (zero-add n, z n (omega arith) (omega arith)) (f (omega arith))

-- a list for each event of an instant
each_shift : {B : Type 0} (f : ℕ → List B) (a k : ℕ) → each f (numbers (suc a) k) ≡ each (λ i. f (suc i)) (numbers a k)
each_shift f a zero = refl
each_shift f a (suc k) = ap (λ x. f (suc a) ++ x) (each_shift f (suc a) k)

pub each_numbered : {B : Type 0} (f : Event → List B) (o : ℤ) (s : ℕ) (ks : List ℕ) → each f (numbered o s ks) ≡ each (λ j. f (record { serial = s + j; code = get_or ks j 0; instant = o })) (numbers 0 (length ks))
each_numbered f o s [] = refl
each_numbered f o s (k ∷ ks) =
    let g : ℕ → List _ = λ j. f (record { serial = s + j; code = get_or (k ∷ ks) j 0; instant = o }) in
    let first : f (record { serial = s; code = k; instant = o }) ≡ g 0 = rw add-zero in
    let rest : each f (numbered o (suc s) ks) ≡ each g (numbers 1 (length ks)) = each_numbered f o (suc s) ks ∙ each_same (λ j. f (record { serial = suc s + j; code = get_or ks j 0; instant = o })) (λ j. g (suc j)) 0 (length ks) (λ j p q. let e : suc s + j ≡ s + suc j = omega arith in rw e) ∙ sym (each_shift g 0 (length ks)) in
    ap₂ ◌++◌ first rest

-- what a test keeps of rows, each made of an element that another test kept
module _ {A B C : Type 0} (p : C → Bool) (f : B → C) where
  pub kept_ones : (g : A → B) (q : A → Bool) (xs : List A) → keep p (map f (map g (keep q xs))) ≡ each (λ x. cond (q x) (cond (p (f (g x))) (f (g x) ∷ []) []) []) xs
  kept_ones g q [] = refl
  kept_ones g q (x ∷ xs) = go (q x) (p (f (g x))) refl (kept_ones g q xs)
    where
      go : (b d : Bool) → p (f (g x)) ≡ d → keep p (map f (map g (keep q xs))) ≡ each (λ y. cond (q y) (cond (p (f (g y))) (f (g y) ∷ []) []) []) xs → keep p (map f (map g (cond b (x ∷ keep q xs) (keep q xs)))) ≡ cond b (cond d (f (g x) ∷ []) []) [] ++ each (λ y. cond (q y) (cond (p (f (g y))) (f (g y) ∷ []) []) []) xs
      go true true e h = rw (e, h)
      go true false e h = rw e h
      go false d e h = h

  pub kept_each : (g : A → List B) (q : A → Bool) (xs : List A) → keep p (map f (each g (keep q xs))) ≡ each (λ x. cond (q x) (keep p (map f (g x))) []) xs
  kept_each g q [] = refl
  kept_each g q (x ∷ xs) = go (q x) (kept_each g q xs)
    where
      go : (b : Bool) → keep p (map f (each g (keep q xs))) ≡ each (λ y. cond (q y) (keep p (map f (g y))) []) xs → keep p (map f (each g (cond b (x ∷ keep q xs) (keep q xs)))) ≡ cond b (keep p (map f (g x))) [] ++ each (λ y. cond (q y) (keep p (map f (g y))) []) xs
      go true h = ap (keep p) (map-append f (g x) (each g (keep q xs))) ∙ keep_append p (map f (g x)) (map f (each g (keep q xs))) ∙ ap (λ l. keep p (map f (g x)) ++ l) h
      go false h = h
