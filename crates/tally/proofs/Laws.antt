-- Laws of tallies: none for no row, one more for the entry of one row more, and their sum.
use Prim.Native.Nat.{ℕ, zero, suc, ◌+◌, ◌-◌, ◌≤◌, ◌<◌}
use native.Mathlib.Omega.{arith}
use native.Mathlib.Nat.{add-zero}
use mathlib.Core.Path.{◌≡◌, refl, sym, ap, ap₂, ◌∙◌}
use mathlib.Core.Bool.{Bool, true, false, cond}
use mathlib.Core.List.{List, [], ◌∷◌, ◌++◌, map, append-nil, Memᴰ}
use borrow.Author.Tests.{eq-eqb, ne_eqb}
use lib.Dec.{eqb}
use lib.Seq.{take_at}
use lib.ListN.{length, get_or, take, set, replicate, length-append, length-map, length-replicate, replicate-append-replicate}
use Rattle.model.specs.Lists.{keep, numbers}
use Rattle.model.specs.Order.{Row}
use Rattle.model.proofs.History.{keep_length}
use Rattle.model.proofs.Sorted.{keep_append}
use Rattle.tally.specs.Tally.{tally, tallies, counts, sum, report_of, refused_report}

-- a list with its number at place e one higher
abbrev pub raised : List ℕ → ℕ → List ℕ
raised xs e = set xs e (get_or xs e 0 + 1)

-- two functions on the numbers from a on, where they agree, and where they agree but for one number
module _ (f g : ℕ → ℕ) where
  alike : (a n : ℕ) → ((k : ℕ) → a ≤ k → g k ≡ f k) → map g (numbers a n) ≡ map f (numbers a n)
  alike a zero same = refl
  alike a (suc n) same = ap₂ ◌∷◌ (same a (omega arith)) (alike (suc a) n (λ k h. same k (omega arith)))

  one_higher : (zs : List ℕ) (a n e x : ℕ) → e < n → x ≡ a + e → g x ≡ f x + 1 → ((k : ℕ) → (k ≡ x → ⊥) → g k ≡ f k) → map g (numbers a n) ++ zs ≡ raised (map f (numbers a n) ++ zs) e
  one_higher zs a zero e x h d one others = absurd (omega arith)
  one_higher zs a (suc n) zero x h d one others =
      let here : x ≡ a = omega (arith, d) in
      ap₂ (λ y ys. y ∷ ys ++ zs) (rw here at one) (alike (suc a) n (λ k l. others k (λ q. omega (arith, q, here))))
  one_higher zs a (suc n) (suc e) x h d one others =
      ap₂ ◌∷◌ (others a (λ q. omega (arith, q, d))) (one_higher zs (suc a) n e x (omega arith) (omega (arith, d)) one others)

-- no number of a list that is filled up with zeros is over m, where none was
all_most : (f : ℕ → ℕ) (m : ℕ) → ((e : ℕ) → f e ≤ m) → (a n z k : ℕ) → get_or (map f (numbers a n) ++ replicate z 0) k 0 ≤ m
all_most f m h a zero zero k = omega arith
all_most f m h a zero (suc z) zero = omega arith
all_most f m h a zero (suc z) (suc k) = all_most f m h a zero z k
all_most f m h a (suc n) z zero = h a
all_most f m h a (suc n) z (suc k) = all_most f m h (suc a) n z k

-- sums: of one number more, of zeros, and of a list with one number raised
sum_append : (xs ys : List ℕ) → sum (xs ++ ys) ≡ sum xs + sum ys
unfolding sum
sum_append [] ys = omega arith
sum_append (x ∷ xs) ys = ap (◌+◌ x) (sum_append xs ys) ∙ omega arith

sum_zeros : (n : ℕ) → sum (replicate n 0) ≡ 0
unfolding sum
sum_zeros zero = refl
sum_zeros (suc n) = omega (arith, sum_zeros n)

sum_raised : (xs : List ℕ) (e : ℕ) → e < length xs → sum (raised xs e) ≡ sum xs + 1
unfolding sum
sum_raised [] e h = absurd (omega arith)
sum_raised (x ∷ xs) zero h = omega arith
sum_raised (x ∷ xs) (suc e) h = let d = sum_raised xs e (omega arith) in ap (◌+◌ x) d ∙ omega arith

length_numbers : (a n : ℕ) → length (numbers a n) ≡ n
length_numbers a zero = refl
length_numbers a (suc n) = ap suc (length_numbers (suc a) n)

-- the tally of one row more, behind the others or before them
of_entry : (e : ℕ) (r : Row) → tally e (r ∷ []) ≡ cond (eqb r.entry e) 1 0
unfolding tally
of_entry e r = go (eqb r.entry e)
  where
    go : (b : Bool) → length (cond b (r ∷ []) []) ≡ cond b 1 0
    go true = refl
    go false = refl

tally_append : (e : ℕ) (rs qs : List Row) → tally e (rs ++ qs) ≡ tally e rs + tally e qs
unfolding tally
tally_append e rs qs = ap length (keep_append _ rs qs) ∙ length-append (keep _ rs) (keep _ qs)

own : (r : Row) → tally r.entry (r ∷ []) ≡ 1
own r = of_entry r.entry r ∙ rw (eq-eqb r.entry r.entry refl)

other : (e : ℕ) (r : Row) → (e ≡ r.entry → ⊥) → tally e (r ∷ []) ≡ 0
other e r d = of_entry e r ∙ rw (ne_eqb r.entry e (λ q. d (sym q)))

-- the counts of a chart of n entries
module _ (n : ℕ) where
  no_tallies : (a m : ℕ) → map (λ e. tally e []) (numbers a m) ≡ replicate m 0
  unfolding tally
  no_tallies a zero = refl
  no_tallies a (suc m) = ap (◌∷◌ 0) (no_tallies (suc a) m)

  pub counts_none : n ≤ 32 → counts n [] ≡ replicate 32 0
  unfolding counts tallies
  counts_none h =
      let e : n + (32 - n) ≡ 32 = omega arith in
      ap (λ l. l ++ replicate (32 - n) 0) (no_tallies 0 n) ∙ replicate-append-replicate n (32 - n) 0 ∙ ap (λ k. replicate k 0) e

  pub counts_more : (rs : List Row) (r : Row) → r.entry < n → counts n (rs ++ r ∷ []) ≡ raised (counts n rs) r.entry
  unfolding counts tallies
  counts_more rs r h =
      one_higher (λ e. tally e rs) (λ e. tally e (rs ++ r ∷ [])) (replicate (32 - n) 0) 0 n r.entry r.entry h (omega arith)
      (tally_append r.entry rs (r ∷ []) ∙ ap (◌+◌ (tally r.entry rs)) (own r))
      (λ k d. tally_append k rs (r ∷ []) ∙ ap (◌+◌ (tally k rs)) (other k r d) ∙ add-zero (tally k rs))

  pub length_tallies : (rs : List Row) → length (tallies n rs) ≡ n
  unfolding tallies
  length_tallies rs = length-map (numbers 0 n) (λ e. tally e rs) ∙ length_numbers 0 n

  length_counts : (rs : List Row) → n ≤ 32 → length (counts n rs) ≡ 32
  unfolding counts
  length_counts rs h = length-append (tallies n rs) (replicate (32 - n) 0) ∙ omega (arith, length_tallies rs, length-replicate (32 - n) zero)

  -- an entry has no more rows than there are
  pub counts_most : (rs : List Row) (k : ℕ) → get_or (counts n rs) k 0 ≤ length rs
  unfolding counts tallies tally
  counts_most rs k = all_most (λ e. tally e rs) (length rs) (λ e. keep_length _ rs) 0 n (32 - n) k

  -- "The total equals ... the sum of the lines": where every row is of an entry of the chart
  tallies_sum : (rs : List Row) → ((r : Row) → Memᴰ r rs → r.entry < n) → sum (tallies n rs) ≡ length rs
  unfolding tallies
  tallies_sum [] h = ap sum (no_tallies 0 n) ∙ sum_zeros n
  tallies_sum (r ∷ rs) h =
      let k = h r (Memᴰ.head refl) in
      let more = one_higher (λ e. tally e rs) (λ e. tally e (r ∷ rs)) [] 0 n r.entry r.entry k (omega arith)
      (tally_append r.entry (r ∷ []) rs ∙ omega (arith, own r))
      (λ j d. tally_append j (r ∷ []) rs ∙ omega (arith, other j r d)) in
      ap sum (sym (append-nil _) ∙ more)
      ∙ sum_raised (tallies n rs ++ []) r.entry (omega (arith, k, length-append (tallies n rs) [], length_tallies rs))
      ∙ ap (λ xs. sum xs + 1) (append-nil (tallies n rs))
      ∙ omega (arith, tallies_sum rs (λ q m. h q (Memᴰ.tail m)))

  -- what a report has
  module _ (rs : List Row) where
    pub report_taken : (report_of n rs).refusal ≡ 0
    unfolding report_of
    report_taken = refl

    pub report_entries : (report_of n rs).entries ≡ n
    unfolding report_of
    report_entries = refl

    pub report_rows : (report_of n rs).rows ≡ length rs
    unfolding report_of
    report_rows = refl

    pub report_read : (report_of n rs).read ≡ length rs
    unfolding report_of
    report_read = refl

    pub report_long : n ≤ 32 → length (report_of n rs).tallies ≡ 32
    unfolding report_of
    report_long h = length_counts rs h

    -- the tallies of the entries stand first
    pub report_tallies : take (report_of n rs).entries (report_of n rs).tallies ≡ tallies n rs
    unfolding report_of counts
    report_tallies = take_at (tallies n rs) (replicate (32 - n) 0) n (length_tallies rs)

    -- the zeros behind them add nothing
    pub same_sum : sum (report_of n rs).tallies ≡ sum (tallies n rs)
    unfolding report_of counts
    same_sum = sum_append (tallies n rs) (replicate (32 - n) 0) ∙ omega (arith, sum_zeros (32 - n))

    pub report_sum : ((r : Row) → Memᴰ r rs → r.entry < n) → sum (report_of n rs).tallies ≡ length rs
    report_sum h = same_sum ∙ tallies_sum rs h

pub refused_number : (n : ℕ) → (refused_report n).refusal ≡ n
unfolding refused_report
refused_number n = refl

pub refused_entries : (n : ℕ) → (refused_report n).entries ≡ 0
unfolding refused_report
refused_entries n = refl
