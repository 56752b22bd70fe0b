-- The place of a tree: how many stand before it, which in a list in order is where it stands.
use Prim.Native.Nat.{ℕ, zero, suc, ◌<◌}
use native.Mathlib.Omega.{arith}
use mathlib.Core.Path.{◌≡◌, refl, sym, ap, ◌∙◌, subst}
use mathlib.Core.Logic.{◌⊎◌, inl, inr}
use mathlib.Core.Bool.{Bool}
use mathlib.Core.List.Memᴰ
use mathlib.Core.List.{List, [], ◌∷◌, ◌++◌, Memᴰ}
use lib.IntN.{pos}
use lib.Dec.{T, not_T}
use lib.ListN.{length, get_or, take, get_or-append, length-append}
use lib.Seq.{length-take-le}
use Rattle.model.specs.Lists.{keep}
use Rattle.model.specs.Recognitions.{Recognition, of_event}
use Rattle.model.specs.Order.{before, place}
use Rattle.model.specs.Statements.{Sorted}
use Rattle.model.proofs.Sorted.{cond_T, cond_F}
use Rattle.model.proofs.Order.{before_irrefl, before_trans}

module _ {A : Type 0} where
  pub keep_none : (p : A → Bool) (xs : List A) → ((t : A) → Memᴰ t xs → T (p t) → ⊥) → keep p xs ≡ []
  keep_none p [] h = refl
  keep_none p (x ∷ xs) h = cond_F (p x) (x ∷ keep p xs) (keep p xs) (not_T (p x) (h x (Memᴰ.head refl))) ∙ keep_none p xs (λ t m. h t (Memᴰ.tail m))

  pub get_d_mem : (d : A) (xs : List A) (i : ℕ) → i < length xs → Memᴰ (get_or xs i d) xs
  get_d_mem d [] i h = absurd (omega arith)
  get_d_mem d (x ∷ xs) zero h = Memᴰ.head refl
  get_d_mem d (x ∷ xs) (suc i) h = Memᴰ.tail (get_d_mem d xs i (omega arith))

  pub record At (d : A) (xs : List A) (u : A) : Type 0 where
    pub i : ℕ
    pub low : i < length xs
    pub is : get_or xs i d ≡ u

  pub mem_get_d : (d : A) (xs : List A) (u : A) → Memᴰ u xs → At d xs u
  mem_get_d d [] u m = absurd (Memᴰ.not-nil m)
  mem_get_d d (x ∷ xs) u m = go (mem_get_d d xs u) (Memᴰ.cases_cons m)
    where
      go : (Memᴰ u xs → At d xs u) → (u ≡ x) ⊎ Memᴰ u xs → At d (x ∷ xs) u
      go ih (inl e) = record { i = 0; low = omega arith; is = sym e }
      go ih (inr k) =
          let r = ih k in
          let l : r.i < length xs = r.low in
          record { i = suc r.i; low = omega arith; is = r.is }

-- those before the tree at i are the first i
pub keep_before : (d : Recognition) (ts : List Recognition) (i : ℕ) → Sorted before ts → i < length ts → keep (λ u. before u (get_or ts i d)) ts ≡ take i ts
keep_before d [] i s h = absurd (omega arith)
keep_before d (t ∷ ts) zero s h = cond_F (before t t) (t ∷ keep (λ u. before u t) ts) (keep (λ u. before u t) ts) (not_T (before t t) (before_irrefl t)) ∙ keep_none (λ u. before u t) ts (λ u m b. before_irrefl t (before_trans t u t (s.0 u m) b))
keep_before d (t ∷ ts) (suc i) s h =
    let l : i < length ts = omega arith in
    cond_T (before t (get_or ts i d)) (t ∷ keep (λ u. before u (get_or ts i d)) ts) (keep (λ u. before u (get_or ts i d)) ts) (s.0 (get_or ts i d) (get_d_mem d ts i l)) ∙ ap (◌∷◌ t) (keep_before d ts i s.1 l)

pub place_at : (d : Recognition) (ts : List Recognition) (i : ℕ) → Sorted before ts → i < length ts → place ts (get_or ts i d) ≡ i
place_at d ts i s h = ap length (keep_before d ts i s h) ∙ length-take-le i ts (omega arith)

pub place_append : (ts us : List Recognition) (t : Recognition) → Sorted before ts → Sorted before (ts ++ us) → Memᴰ t ts → place (ts ++ us) t ≡ place ts t
place_append ts us t s s' m =
    let a = mem_get_d (of_event 0 0 (pos 0)) ts t m in
    let l : a.i < length ts = a.low in
    let p : place ts t ≡ a.i = subst (λ z. place ts z ≡ a.i) a.is (place_at (of_event 0 0 (pos 0)) ts a.i s l) in
    let q : place (ts ++ us) t ≡ a.i = subst (λ z. place (ts ++ us) z ≡ a.i) (get_or-append ts us (of_event 0 0 (pos 0)) a.i l ∙ a.is) (place_at (of_event 0 0 (pos 0)) (ts ++ us) a.i s' (simp length-append (omega arith))) in
    q ∙ sym p
