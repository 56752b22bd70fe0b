-- A row's references, followed down, give its recognition's own tree.
use Prim.Native.Nat.{ℕ, zero, suc, ◌<◌}
use native.Mathlib.Omega.{arith}
use native.Mathlib.Nat.{eq-or-lt_of_le}
use mathlib.Core.Path.{◌≡◌, refl, sym, ap, ◌∙◌, subst, subst₂}
use mathlib.Core.Logic.{◌⊎◌, inl, inr}
use mathlib.Core.List.{List, [], ◌∷◌, map, Memᴰ}
use lib.Dec.{T, ltb, ltb→lt, nltb→le}
use lib.IntN.{ℤ, pos}
use lib.ListN.{length, get_or}
use Rattle.interval.proofs.Signed.{◌<ᶻ◌, least_is, greatest_is, le_cases}
use Rattle.model.specs.Recognitions.{Event, Operator, Recognition, of_event, of_one, of_two, entry_of, start_of, end_of}
use Rattle.model.specs.Order.{before, listing, row, place, as_row, as_rows}
use Rattle.model.specs.RowSteps.{row_at}
use Rattle.model.specs.Statements.{Sorted, Reads}
use Rattle.model.proofs.Sorted.{T-em}
use Rattle.model.proofs.Order.{before_irrefl, before_trans}
use Rattle.model.proofs.Trees.{end_by_lem}
use Rattle.model.proofs.Local.{Chart}
use Rattle.model.proofs.Windows.{Inside}
use Rattle.model.proofs.Place.{place_at, At, mem_get_d, get_d_mem}
use Rattle.model.proofs.Rows.{Parts, nil}
use Rattle.model.proofs.Closing.{Rises, listing_lists, earlier_before}
use Rattle.model.proofs.Listing.{recs_lower, listing_closed}

pub map_at : {A B : Type 0} (f : A → B) (z : B) (d : A) (xs : List A) (i : ℕ) → i < length xs → get_or (map f xs) i z ≡ f (get_or xs i d)
map_at f z d [] i h = absurd (omega arith)
map_at f z d (x ∷ xs) zero h = refl
map_at f z d (x ∷ xs) (suc i) h = map_at f z d xs i (omega arith)

pub sorted_at : (d : Recognition) (ts : List Recognition) (i k : ℕ) → Sorted before ts → i < k → k < length ts → T (before (get_or ts i d) (get_or ts k d))
sorted_at d [] i k s l h = absurd (omega arith)
sorted_at d (t ∷ ts) i zero s l h = absurd (omega arith)
sorted_at d (t ∷ ts) zero (suc k) s l h = s.0 (get_or ts k d) (get_d_mem d ts k (omega arith))
sorted_at d (t ∷ ts) (suc i) (suc k) s l h = sorted_at d ts i k s.1 (omega arith) (omega arith)

pub place_less : (ts : List Recognition) (t u : Recognition) → Sorted before ts → Memᴰ t ts → Memᴰ u ts → T (before u t) → place ts u < place ts t
place_less ts t u s m n b = go (mem_get_d nil ts t m) (mem_get_d nil ts u n)
  where
    go : At nil ts t → At nil ts u → place ts u < place ts t
    go a c =
        let p : place ts t ≡ a.i = subst (λ z. place ts z ≡ a.i) a.is (place_at nil ts a.i s a.low) in
        let q : place ts u ≡ c.i = subst (λ z. place ts z ≡ c.i) c.is (place_at nil ts c.i s c.low) in
        let w : c.i < a.i = elim (T-em (ltb c.i a.i)) [ inl h ↦ ltb→lt c.i a.i h | inr h ↦ absurd (late (eq-or-lt_of_le (nltb→le c.i a.i h))) ] in
        omega arith
      where
        late : (a.i ≡ c.i) ⊎ (a.i < c.i) → ⊥
        late (inl e) = before_irrefl t (subst (λ z. T (before z t)) (sym c.is ∙ ap (λ i. get_or ts i nil) (sym e) ∙ a.is) b)
        late (inr l) = before_irrefl t (before_trans t u t (subst₂ (λ x y. T (before x y)) a.is c.is (sorted_at nil ts a.i c.i s l c.low)) b)

-- a part is before the whole
pub part_before : (t u : Recognition) → Inside t u → entry_of u < entry_of t → T (before u t)
part_before t u h l = earlier_before u t (elim (le_cases (end_of u) (end_of t) h.1) as (λ z. (end_of u <ᶻ end_of t) ⊎ ((end_of u ≡ end_of t) × (entry_of u < entry_of t))) [ inl k ↦ inl k | inr k ↦ inr (k, l) ])

module _ (ops : List Operator) (c : Chart 0 ops) (since : List ℤ) (rises : Rises ops since) (es : List Event) (f o : ℤ) where
  abbrev L : List Recognition
  L = listing ops since es f o

  pub row_at_lem : (t : Recognition) → Memᴰ t L → row_at (as_rows L) (place L t) ≡ as_row L t
  row_at_lem t m = go (mem_get_d nil L t m)
    where
      go : At nil L t → row_at (as_rows L) (place L t) ≡ as_row L t
      go a = subst (λ z. row_at (as_rows L) (place L z) ≡ as_row L z) a.is (ap (row_at (as_rows L)) (place_at nil L a.i (listing_lists ops since es f o).sorted a.low) ∙ map_at (as_row L) (row 0 (pos 0) (pos 0) (pos 0) (pos 0)) nil L a.i a.low)

  -- the parts stand earlier
  pub parts_earlier : (t : Recognition) → Memᴰ t L → Parts (λ u. Memᴰ u L × (place L u < place L t)) t
  parts_earlier (of_event n s x) m = tt
  parts_earlier (of_one n a t) m =
      let k : Memᴰ t L = listing_closed ops c since rises es f o (of_one n a t) m in
      (k, place_less L (of_one n a t) t (listing_lists ops since es f o).sorted m k (part_before (of_one n a t) t (omega (arith, end_by_lem a (end_of t))) (recs_lower ops c es (of_one n a t) ((listing_lists ops since es f o).sound (of_one n a t) m))))
  parts_earlier (of_two n l r) m =
      let k = listing_closed ops c since rises es f o (of_two n l r) m in
      let w = recs_lower ops c es (of_two n l r) ((listing_lists ops since es f o).sound (of_two n l r) m) in
      ((k.0, place_less L (of_two n l r) l (listing_lists ops since es f o).sorted m k.0 (part_before (of_two n l r) l (omega (arith, least_is (start_of l) (start_of r), greatest_is (end_of l) (end_of r))) w.0)), (k.1, place_less L (of_two n l r) r (listing_lists ops since es f o).sorted m k.1 (part_before (of_two n l r) r (omega (arith, least_is (start_of l) (start_of r), greatest_is (end_of l) (end_of r))) w.1)))

  pub reads : (t : Recognition) → Memᴰ t L → Reads (as_rows L) (place L t) t
  unfolding Reads
  reads (of_event n s x) m = row_at_lem (of_event n s x) m
  reads (of_one n a t) m = let p = parts_earlier (of_one n a t) m in (place L t, p.1, row_at_lem (of_one n a t) m, reads t p.0)
  reads (of_two n l r) m = let p = parts_earlier (of_two n l r) m in (place L l, place L r, p.0.1, p.1.1, row_at_lem (of_two n l r) m, reads l p.0.0, reads r p.1.0)
