-- The searches for a row of an entry, for the least start and the latest start of such rows, and for a rival of a row: a turn of each, and what
-- they find.
use Prim.Native.Nat.{ℕ, zero, suc, ◌+◌, ◌-◌, ◌≤◌, ◌<◌}
use native.Mathlib.Omega.{arith}
use native.Mathlib.Numerals.{add-one}
use native.Mathlib.Decide.{ℕ_discrete}
use mathlib.Core.Path.{◌≡◌, refl, sym, ap, ◌∙◌, subst}
use mathlib.Core.Logic.{◌⊎◌, inl, inr}
use mathlib.Core.Bool.{Bool, true, false, cond, ◌&&◌}
use mathlib.Core.List.{List}
use borrow.Author.Tests.{leb-true, leb-false}
use lib.Dec.{leb}
use lib.IntN.{ℤ}
use lib.Signed.{le_z}
use Rattle.interval.specs.Instants.{eq_z, least, greatest}
use Rattle.interval.proofs.Signed.{◌≤ᶻ◌, never, le_true, antisym, least_is, greatest_is}
use Rattle.table.specs.Table.{cell, stored_row}
use Rattle.table.specs.Ends.{Ordered}
use Rattle.table.specs.declared.Row as stored
use Rattle.closing.proofs.Filling.{Kept}
use Rattle.closing.specs.Added.{is_waited, next_from, next_row, Passed, least_from, least_start, Proper, latest_from, latest_start, is_later_row, rival_from, rival_end}

-- the next row of a
module _ (a : ℤ) (t : List ℤ) where
  -- it is the first of k rows, or the search goes on behind that
  from_least : (i k : ℕ) → i ≤ next_from a t i k
  unfolding next_from
  from_least i zero = omega arith
  from_least i (suc k) = go (eq_z (cell t i 0) a) (from_least (suc i) k)
    where
      go : (b : Bool) → suc i ≤ next_from a t (suc i) k → i ≤ cond b i (next_from a t (suc i) k)
      go true h = omega arith
      go false h = omega arith

  from_most : (i k : ℕ) → next_from a t i k ≤ i + k
  unfolding next_from
  from_most i zero = omega arith
  from_most i (suc k) = go (eq_z (cell t i 0) a) (from_most (suc i) k)
    where
      go : (b : Bool) → next_from a t (suc i) k ≤ suc i + k → cond b i (next_from a t (suc i) k) ≤ i + suc k
      go true h = omega arith
      go false h = omega arith

  from_none : (i k j : ℕ) → i ≤ j → j < next_from a t i k → eq_z (cell t j 0) a ≡ false
  unfolding next_from
  from_none i zero j h g = absurd (omega arith)
  from_none i (suc k) j h g = go (eq_z (cell t i 0) a) refl (ℕ_discrete j i) g (from_none (suc i) k j)
    where
      go : (b : Bool) → eq_z (cell t i 0) a ≡ b → Dec (j ≡ i) → j < cond b i (next_from a t (suc i) k) → (suc i ≤ j → j < next_from a t (suc i) k → eq_z (cell t j 0) a ≡ false) → eq_z (cell t j 0) a ≡ false
      go true e d l f = absurd (omega arith)
      go false e (yes d) l f = rw d e
      go false e (no d) l f = f (omega arith) l

  from_is : (i k : ℕ) → next_from a t i k < i + k → eq_z (cell t (next_from a t i k) 0) a ≡ true
  unfolding next_from
  from_is i zero h = absurd (omega arith)
  from_is i (suc k) h = go (eq_z (cell t i 0) a) refl (from_is (suc i) k) h
    where
      go : (b : Bool) → eq_z (cell t i 0) a ≡ b → (next_from a t (suc i) k < suc i + k → eq_z (cell t (next_from a t (suc i) k) 0) a ≡ true) → cond b i (next_from a t (suc i) k) < i + suc k → eq_z (cell t (cond b i (next_from a t (suc i) k)) 0) a ≡ true
      go true e f l = e
      go false e f l = f (omega arith)

  module _ (i n : ℕ) where
    pub next_least : i ≤ next_row a i n t
    next_least = from_least i (n - i)

    pub next_most : i ≤ n → next_row a i n t ≤ n
    next_most h = omega (arith, from_most i (n - i))

    pub next_none : (j : ℕ) → i ≤ j → j < next_row a i n t → eq_z (cell t j 0) a ≡ false
    next_none = from_none i (n - i)

    pub next_is : i ≤ n → next_row a i n t < n → eq_z (cell t (next_row a i n t) 0) a ≡ true
    next_is h g = from_is i (n - i) (omega arith)

    -- one found, one passed, none left
    pub next_here : i < n → eq_z (cell t i 0) a ≡ true → i ≡ next_row a i n t
    unfolding next_from
    next_here h e = let z : n - i ≡ suc (n - (i + 1)) = omega arith in rw (z, e)

    pub next_on : i < n → eq_z (cell t i 0) a ≡ false → next_row a (i + 1) n t ≡ next_row a i n t
    unfolding next_from
    next_on h e = let z : n - i ≡ suc (n - (i + 1)) = omega arith in rw (z, e, add-one)

    pub next_end : n ≤ i → i ≡ next_row a i n t
    unfolding next_from
    next_end h = let z : n - i ≡ 0 = omega arith in rw z

    pub passed_none : i ≤ n → Passed a i n t i
    passed_none h = record { least = omega arith; most = h; same = refl }

  pub passed_one : (i n r k : ℕ) → Passed a i n t r → r < n → k ≡ r + 1 → eq_z (cell t r 0) a ≡ false → Passed a i n t k
  passed_one i n r k f h s e = record { least = omega (arith, f.least); most = omega arith; same = ap (λ x. next_row a x n t) s ∙ next_on r n h e ∙ f.same }

-- rows that are passed in the search for one that starts at x or later: those from i to before j, row j, and those up to the next one of a
module _ (x a : ℤ) (t : List ℤ) where
  abbrev pub Unwaited : ℕ → ℕ → Type 0
  Unwaited i j = (k : ℕ) → i ≤ k → k < j → is_waited x a t k ≡ false

  pub unwaited_next : (i e r : ℕ) → r ≡ next_row a i e t → Unwaited i r
  unwaited_next i e r s k h g = ap (λ b. b && le_z x (cell t k 3)) (next_none a t i e k h (omega arith))

  pub unwaited_on : (i j e r : ℕ) → Unwaited i j → is_waited x a t j ≡ false → r ≡ next_row a (j + 1) e t → Unwaited i r
  unwaited_on i j e r u here s k h g = go (leb j k) refl (ℕ_discrete k j)
    where
      go : (b : Bool) → leb j k ≡ b → Dec (k ≡ j) → is_waited x a t k ≡ false
      go b p (yes q) = subst (λ z. is_waited x a t z ≡ false) (sym q) here
      go true p (no q) = unwaited_next (j + 1) e r s k (omega (arith, leb-true j k p)) g
      go false p (no q) = u k h (leb-false j k p)

-- what a search found, said of a table whose first rows are those of the one searched
pub record Found (a : ℤ) (i n : ℕ) (t : List ℤ) (k : ℕ) : Type 0 where
  pub least : i ≤ k
  pub most : k ≤ n
  pub none : (j : ℕ) → i ≤ j → j < k → eq_z (cell t j 0) a ≡ false
  pub is : k < n → eq_z (cell t k 0) a ≡ true

pub found : (m : ℕ) (u t : List ℤ) → Kept m u t → (a : ℤ) (i n k : ℕ) → i ≤ n → n ≤ m → k ≡ next_row a i n u → Found a i n t k
found m u t w a i n k h g e =
    let most = next_most a u i n h in
    record {
      least = omega (arith, next_least a u i n);
      most = omega arith;
      none = λ j p q. ap (λ z. eq_z z a) (sym (w j 0 (omega arith) (omega arith))) ∙ next_none a u i n j p (omega arith);
      is = λ p. ap (λ z. eq_z z a) (sym (w k 0 (omega arith) (omega arith))) ∙ ap (λ z. eq_z (cell u z 0) a) e ∙ next_is a u i n h (omega arith);
    }

-- the least start of the rows of b
module _ (b : ℤ) (t : List ℤ) where
  least_first : (x : ℤ) (i k : ℕ) → least_from b t x i k ≤ᶻ x
  unfolding least_from
  least_first x i zero = omega arith
  least_first x i (suc k) = go (eq_z (cell t i 0) b) (least_first (cond (eq_z (cell t i 0) b) (least x (cell t i 3)) x) (suc i) k)
    where
      go : (c : Bool) → least_from b t (cond c (least x (cell t i 3)) x) (suc i) k ≤ᶻ cond c (least x (cell t i 3)) x → least_from b t (cond c (least x (cell t i 3)) x) (suc i) k ≤ᶻ x
      go true h = omega (arith, least_is x (cell t i 3))
      go false h = h

  least_each : (x : ℤ) (i k j : ℕ) → i ≤ j → j < i + k → eq_z (cell t j 0) b ≡ true → least_from b t x i k ≤ᶻ cell t j 3
  unfolding least_from
  least_each x i zero j h g e = absurd (omega arith)
  least_each x i (suc k) j h g e = go (ℕ_discrete j i) (eq_z (cell t i 0) b) refl (λ y. least_first y (suc i) k) (λ y. least_each y (suc i) k j)
    where
      go : Dec (j ≡ i) → (c : Bool) → eq_z (cell t i 0) b ≡ c → ((y : ℤ) → least_from b t y (suc i) k ≤ᶻ y) → ((y : ℤ) → suc i ≤ j → j < suc i + k → eq_z (cell t j 0) b ≡ true → least_from b t y (suc i) k ≤ᶻ cell t j 3) → least_from b t (cond c (least x (cell t i 3)) x) (suc i) k ≤ᶻ cell t j 3
      go (yes d) true p l f = rw d (omega (arith, l (least x (cell t i 3)), least_is x (cell t i 3)))
      go (yes d) false p l f = never (sym p ∙ ap (λ z. eq_z (cell t z 0) b) (sym d) ∙ e)
      go (no d) c p l f = f (cond c (least x (cell t i 3)) x) (omega arith) (omega arith) e

  pub least_start_lem : (s n j : ℕ) → s ≤ j → j < n → eq_z (cell t j 0) b ≡ true → least_start b s n t ≤ᶻ cell t j 3
  least_start_lem s n j h g e = least_each (cell t s 3) s (n - s) j h (omega arith) e

  -- one row more; none left
  least_step : (x : ℤ) (i k : ℕ) → least_from b t x i (suc k) ≡ least_from b t (cond (eq_z (cell t i 0) b) (least x (cell t i 3)) x) (suc i) k
  unfolding least_from
  least_step x i k = refl

  pub least_on : (x : ℤ) (i n : ℕ) (c : Bool) → i < n → eq_z (cell t i 0) b ≡ c → least_from b t (cond c (least x (cell t i 3)) x) (i + 1) (n - (i + 1)) ≡ least_from b t x i (n - i)
  least_on x i n c h e =
      let z : n - i ≡ suc (n - (i + 1)) = omega arith in
      ap (λ j. least_from b t (cond c (least x (cell t i 3)) x) j (n - (i + 1))) (add-one i)
      ∙ sym (ap (least_from b t x i) z ∙ least_step x i (n - (i + 1)) ∙ ap (λ d. least_from b t (cond d (least x (cell t i 3)) x) (suc i) (n - (i + 1))) e)

  pub least_end : (x : ℤ) (i n : ℕ) → n ≤ i → x ≡ least_from b t x i (n - i)
  unfolding least_from
  least_end x i n h = let z : n - i ≡ 0 = omega arith in rw z

-- the latest of x and the starts of the rows of b
module _ (b : ℤ) (t : List ℤ) (i : ℕ) where
  -- x with the start of row j, if that is one of b
  abbrev later : ℤ → ℕ → Bool → ℤ
  later x j c = cond c (greatest x (cell t j 3)) x

  later_least : (x : ℤ) (j : ℕ) (c : Bool) → x ≤ᶻ later x j c
  later_least x j true = (greatest_is x (cell t j 3)).left
  later_least x j false = omega arith

  latest_step : (x : ℤ) (k : ℕ) → latest_from b t i x (suc k) ≡ latest_from b t i (later x (i + k) (eq_z (cell t (i + k) 0) b)) k
  unfolding latest_from
  latest_step x k = refl

  -- it is no less than x, nor than any of the starts
  from_x : (x : ℤ) (k : ℕ) → x ≤ᶻ latest_from b t i x k
  unfolding latest_from
  from_x x zero = omega arith
  from_x x (suc k) = let y = later x (i + k) (eq_z (cell t (i + k) 0) b) in omega (arith, from_x y k, later_least x (i + k) (eq_z (cell t (i + k) 0) b))

  from_each : (x : ℤ) (k j : ℕ) → i ≤ j → j < i + k → eq_z (cell t j 0) b ≡ true → cell t j 3 ≤ᶻ latest_from b t i x k
  unfolding latest_from
  from_each x zero j h g e = absurd (omega arith)
  from_each x (suc k) j h g e = go (ℕ_discrete j (i + k)) (eq_z (cell t (i + k) 0) b) refl (λ y. from_x y k) (λ y. from_each y k j)
    where
      go : Dec (j ≡ i + k) → (c : Bool) → eq_z (cell t (i + k) 0) b ≡ c → ((y : ℤ) → y ≤ᶻ latest_from b t i y k) → ((y : ℤ) → i ≤ j → j < i + k → eq_z (cell t j 0) b ≡ true → cell t j 3 ≤ᶻ latest_from b t i y k) → cell t j 3 ≤ᶻ latest_from b t i (later x (i + k) c) k
      go (yes d) true p l f = rw d (omega (arith, l (greatest x (cell t (i + k) 3)), greatest_is x (cell t (i + k) 3)))
      go (yes d) false p l f = never (sym p ∙ ap (λ z. eq_z (cell t z 0) b) (sym d) ∙ e)
      go (no d) c p l f = f (later x (i + k) c) h (omega arith) e

  -- it is x or one of the starts
  abbrev pub StartsAt : ℕ → ℤ → Type 0
  StartsAt e z = (j : ℕ) × (i ≤ j) × (j < e) × (eq_z (cell t j 0) b ≡ true) × (cell t j 3 ≡ z)

  from_found : (x : ℤ) (k : ℕ) → (latest_from b t i x k ≡ x) ⊎ StartsAt (i + k) (latest_from b t i x k)
  unfolding latest_from
  from_found x zero = inl refl
  from_found x (suc k) = go (eq_z (cell t (i + k) 0) b) refl (from_found (later x (i + k) (eq_z (cell t (i + k) 0) b)) k)
    where
      one : (c : Bool) → eq_z (cell t (i + k) 0) b ≡ true → (z : ℤ) → z ≡ cond c (cell t (i + k) 3) x → (z ≡ x) ⊎ StartsAt (i + suc k) z
      one true p z e = inr (i + k, omega arith, omega arith, p, sym e)
      one false p z e = inl e

      go : (c : Bool) → eq_z (cell t (i + k) 0) b ≡ c → (latest_from b t i (later x (i + k) c) k ≡ later x (i + k) c) ⊎ StartsAt (i + k) (latest_from b t i (later x (i + k) c) k) → (latest_from b t i (later x (i + k) c) k ≡ x) ⊎ StartsAt (i + suc k) (latest_from b t i (later x (i + k) c) k)
      go true p (inl e) = one (le_z x (cell t (i + k) 3)) p _ e
      go false p (inl e) = inl e
      go c p (inr (j, h, g, q, e)) = inr (j, h, omega arith, q, e)

  module _ (x : ℤ) (e : ℕ) where
    pub latest_least : x ≤ᶻ latest_start b x i e t
    latest_least = from_x x (e - i)

    pub latest_each : (j : ℕ) → i ≤ j → j < e → eq_z (cell t j 0) b ≡ true → cell t j 3 ≤ᶻ latest_start b x i e t
    latest_each j h g = from_each x (e - i) j h (omega arith)

    pub latest_found : (latest_start b x i e t ≡ x) ⊎ StartsAt e (latest_start b x i e t)
    latest_found = go (from_found x (e - i))
      where
        go : (latest_start b x i e t ≡ x) ⊎ StartsAt (i + (e - i)) (latest_start b x i e t) → (latest_start b x i e t ≡ x) ⊎ StartsAt e (latest_start b x i e t)
        go (inl p) = inl p
        go (inr (j, h, g, q, p)) = inr (j, h, omega arith, q, p)

  -- one row more
  pub latest_on : (x : ℤ) (j k : ℕ) (c : Bool) → i < j → k ≡ j - 1 → eq_z (cell t k 0) b ≡ c → latest_from b t i (later x k c) (k - i) ≡ latest_from b t i x (j - i)
  latest_on x j k c h s e =
      let z : j - i ≡ suc (k - i) = omega arith in
      let y : i + (k - i) ≡ k = omega arith in
      sym (ap (latest_from b t i x) z ∙ latest_step x (k - i) ∙ ap (λ n. latest_from b t i (later x n (eq_z (cell t n 0) b)) (k - i)) y ∙ ap (λ d. latest_from b t i (later x k d) (k - i)) e)

  -- no row left, or none that starts later than x
  pub latest_end : (x : ℤ) (j : ℕ) → j ≤ i → x ≡ latest_from b t i x (j - i)
  unfolding latest_from
  latest_end x j h = let z : j - i ≡ 0 = omega arith in rw z

  later_none : (x : ℤ) (j : ℕ) → cell t j 3 ≤ᶻ x → (c : Bool) → later x j c ≡ x
  later_none x j h true = go (le_z x (cell t j 3)) refl
    where
      go : (c : Bool) → le_z x (cell t j 3) ≡ c → cond c (cell t j 3) x ≡ x
      go true e = antisym (cell t j 3) x h (le_true x (cell t j 3) e)
      go false e = refl
  later_none x j h false = refl

  latest_none : (x : ℤ) (k : ℕ) → ((j : ℕ) → i ≤ j → j < i + k → cell t j 3 ≤ᶻ x) → latest_from b t i x k ≡ x
  unfolding latest_from
  latest_none x zero f = refl
  latest_none x (suc k) f = ap (λ y. latest_from b t i y k) (later_none x (i + k) (f (i + k) (omega arith) (omega arith)) (eq_z (cell t (i + k) 0) b)) ∙ latest_none x k (λ j h g. f j h (omega arith))

  -- row k is the next and ends no later than x, so that neither it nor a row before it starts later
  pub latest_stop : (x : ℤ) (e j k : ℕ) → Ordered e t → Proper e t → j ≤ e → i < j → k ≡ j - 1 → le_z (cell t k 4) x ≡ true → x ≡ latest_from b t i x (j - i)
  latest_stop x e j k o p m h s l = sym (latest_none x (j - i) starts)
    where
      starts : (n : ℕ) → i ≤ n → n < i + (j - i) → cell t n 3 ≤ᶻ x
      starts n f g = omega (arith, le_true (cell t n 3) (cell t n 4) (p n (omega arith)), le_true (cell t n 4) (cell t k 4) (o n k (omega arith) (omega arith)), le_true (cell t k 4) x l)

-- the first rival of a row r of a
module _ (a : ℤ) (r : stored.Row) (t : List ℤ) where
  -- of the rows from row i to before row e none is one
  abbrev pub NoRival : ℕ → ℕ → Type 0
  NoRival i e = (j : ℕ) → i ≤ j → j < e → is_later_row a r (stored_row t j) ≡ false

  -- one of them is the first, and ends at z
  pub record FirstRival (i e : ℕ) (z : ℤ) : Type 0 where
    pub at : ℕ
    pub least : i ≤ at
    pub most : at < e
    pub is : is_later_row a r (stored_row t at) ≡ true
    pub end : cell t at 4 ≡ z
    pub none : NoRival i at

  no_rival : (i e : ℕ) → is_later_row a r (stored_row t i) ≡ false → NoRival (suc i) e → NoRival i e
  no_rival i e p f j h g = go (ℕ_discrete j i)
    where
      go : Dec (j ≡ i) → is_later_row a r (stored_row t j) ≡ false
      go (yes d) = ap (λ z. is_later_row a r (stored_row t z)) d ∙ p
      go (no d) = f j (omega arith) g

  rival_from_lem : (x : ℤ) (i k : ℕ) → ((rival_from a r t x i k ≡ x) × NoRival i (i + k)) ⊎ FirstRival i (i + k) (rival_from a r t x i k)
  unfolding rival_from
  rival_from_lem x i zero = inl (refl, λ j h g. absurd (omega arith))
  rival_from_lem x i (suc k) = go (is_later_row a r (stored_row t i)) refl (rival_from_lem x (suc i) k)
    where
      go : (c : Bool) → is_later_row a r (stored_row t i) ≡ c → ((rival_from a r t x (suc i) k ≡ x) × NoRival (suc i) (suc i + k)) ⊎ FirstRival (suc i) (suc i + k) (rival_from a r t x (suc i) k) → let z = cond c (cell t i 4) (rival_from a r t x (suc i) k) in ((z ≡ x) × NoRival i (i + suc k)) ⊎ FirstRival i (i + suc k) z
      go true p f = inr (record { at = i; least = omega arith; most = omega arith; is = p; end = refl; none = λ j h g. absurd (omega arith) })
      go false p (inl f) = inl (f.0, no_rival i (i + suc k) p (λ j h g. f.1 j h (omega arith)))
      go false p (inr f) = inr (record { at = f.at; least = omega (arith, f.least); most = omega (arith, f.most); is = f.is; end = f.end; none = no_rival i f.at p f.none })

  pub rival_found : (x : ℤ) (i e : ℕ) → ((rival_end a r x i e t ≡ x) × NoRival i e) ⊎ FirstRival i e (rival_end a r x i e t)
  rival_found x i e = go (rival_from_lem x i (e - i))
    where
      go : ((rival_end a r x i e t ≡ x) × NoRival i (i + (e - i))) ⊎ FirstRival i (i + (e - i)) (rival_end a r x i e t) → ((rival_end a r x i e t ≡ x) × NoRival i e) ⊎ FirstRival i e (rival_end a r x i e t)
      go (inl f) = inl (f.0, λ j h g. f.1 j h (omega arith))
      go (inr f) = inr (record { at = f.at; least = f.least; most = omega (arith, f.least, f.most); is = f.is; end = f.end; none = f.none })

  -- one found, one passed, none left
  module _ (x : ℤ) (i e : ℕ) where
    pub rival_here : i < e → is_later_row a r (stored_row t i) ≡ true → cell t i 4 ≡ rival_end a r x i e t
    unfolding rival_from
    rival_here h p = let z : e - i ≡ suc (e - (i + 1)) = omega arith in rw (z, p)

    pub rival_on : i < e → is_later_row a r (stored_row t i) ≡ false → rival_end a r x (i + 1) e t ≡ rival_end a r x i e t
    unfolding rival_from
    rival_on h p = let z : e - i ≡ suc (e - (i + 1)) = omega arith in rw (z, p, add-one)

    pub rival_end_lem : e ≤ i → x ≡ rival_end a r x i e t
    unfolding rival_from
    rival_end_lem h = let z : e - i ≡ 0 = omega arith in rw z
