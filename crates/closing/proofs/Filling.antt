-- A table that a loop fills: what is left to append, appended, gives what was asked for. A turn of a loop, a full table, the end.
use Prim.Native.Nat.{ℕ, ◌+◌, ◌≤◌, ◌<◌}
use native.Mathlib.Omega.{arith}
use mathlib.Core.Path.{◌≡◌, refl, sym, ap, ◌∙◌}
use mathlib.Core.List.{List, [], ◌++◌}
use lib.IntN.{ℤ}
use lib.ListN.{length}
use lib.Signed.{le_z}
use Rattle.model.specs.Lists.{each}
use Rattle.model.specs.Order.{Row}
use Rattle.model.proofs.Sorted.{keep_append}
use Rattle.table.specs.Table.{cell, Filled, filled, fill}
use Rattle.table.proofs.Fill.{fill_none, fill_count_least, fill_append, fill_append_full, fill_kept, fill_length}
use Rattle.closing.specs.declared.Frame.{Frame}
use Rattle.closing.specs.Added.{Appendable, FilledBy, counted, span}
use Rattle.closing.proofs.Spans.{each_on, each_none, each_past}

-- the first n rows of t are those of u
abbrev pub Kept : ℕ → List ℤ → List ℤ → Type 0
Kept n t u = (i k : ℕ) → i < n → k < 5 → cell t i k ≡ cell u i k

-- n rows in the table t and `rest` left to append, where `all` was to be appended to the n₀ rows of t₀; of both only what starts at x or later
pub record Filling (room : ℕ) (x : ℤ) (n₀ : ℕ) (all : List Row) (t₀ : List ℤ) (n : ℕ) (rest : List Row) (t : List ℤ) : Type 0 where
  pub least : n₀ ≤ n
  pub most : n ≤ room
  pub size : length t ≡ length t₀
  pub kept : Kept n₀ t t₀
  pub on : fill room n (counted x rest) t ≡ fill room n₀ (counted x all) t₀

-- nothing is to be appended
pub nothing : (room : ℕ) (x : ℤ) (n : ℕ) (all : List Row) (t : List ℤ) → all ≡ [] → FilledBy room n (counted x all) t n t
nothing room x n all t e =
    let z : filled n t ≡ fill room n (counted x all) t = sym (fill_none room n t) ∙ ap (λ l. fill room n (counted x l) t) (sym e) in
    (ap (λ (y : Filled). y.count) z, ap (λ (y : Filled). y.table) z)

pub begin : (room : ℕ) (x : ℤ) (n : ℕ) (all : List Row) (t : List ℤ) → n ≤ room → Filling room x n all t n all t
begin room x n all t h = record { least = omega arith; most = h; size = refl; kept = λ i k p q. refl; on = refl }

module _ {room : ℕ} {x : ℤ} {n₀ : ℕ} {all : List Row} {t₀ : List ℤ} {n : ℕ} {rest : List Row} {t : List ℤ} (f : Filling room x n₀ all t₀ n rest t) where
  -- what counts of two parts
  cut : (rs qs : List Row) → rest ≡ rs ++ qs → counted x rest ≡ counted x rs ++ counted x qs
  cut rs qs e = ap (counted x) e ∙ keep_append (λ r. le_z x r.start) rs qs

  -- some were appended, and there was room for them
  pub next : (rs qs : List Row) (k : ℕ) (u : List ℤ) → rest ≡ rs ++ qs → FilledBy room n (counted x rs) t k u → k ≤ room → Filling room x n₀ all t₀ k qs u
  next rs qs k u e d h =
      let c : k ≡ (fill room n (counted x rs) t).count = d.0 in
      let l : n ≤ (fill room n (counted x rs) t).count = fill_count_least room n (counted x rs) t f.most in
      let w : (fill room n (counted x rs) t).count ≤ room = omega arith in
      record {
        least = omega (arith, f.least);
        most = h;
        size = ap length d.1 ∙ fill_length room n (counted x rs) t ∙ f.size;
        kept = λ i j p q. ap (λ y. cell y i j) d.1 ∙ fill_kept room n (counted x rs) t i j (omega (arith, f.least)) q ∙ f.kept i j p q;
        on = rw (c, d.1) (sym (fill_append room n (counted x rs) (counted x qs) t f.most w)) ∙ ap (λ l. fill room n l t) (sym (cut rs qs e)) ∙ f.on;
      }

  -- there was no room
  pub full : (rs qs : List Row) (k : ℕ) (u : List ℤ) → rest ≡ rs ++ qs → FilledBy room n (counted x rs) t k u → room < k → FilledBy room n₀ (counted x all) t₀ k u
  full rs qs k u e d h =
      let c : k ≡ (fill room n (counted x rs) t).count = d.0 in
      let w : room < (fill room n (counted x rs) t).count = omega arith in
      let z : fill room n (counted x rs) t ≡ fill room n₀ (counted x all) t₀ = sym (fill_append_full room n (counted x rs) (counted x qs) t f.most w) ∙ ap (λ l. fill room n l t) (sym (cut rs qs e)) ∙ f.on in
      (d.0 ∙ ap (λ (y : Filled). y.count) z, d.1 ∙ ap (λ (y : Filled). y.table) z)

  -- all that was left was appended
  pub last : {k : ℕ} {u : List ℤ} → FilledBy room n (counted x rest) t k u → FilledBy room n₀ (counted x all) t₀ k u
  last d = (d.0 ∙ ap (λ (y : Filled). y.count) f.on, d.1 ∙ ap (λ (y : Filled). y.table) f.on)

  -- nothing is left
  pub ended : rest ≡ [] → FilledBy room n₀ (counted x all) t₀ n t
  ended e = last (nothing room x n rest t e)

-- a loop that appends h i at each number i from one on to before e
module _ {room : ℕ} {x : ℤ} {n₀ : ℕ} {all : List Row} {t₀ : List ℤ} {n : ℕ} {t : List ℤ} (h : ℕ → List Row) (i e : ℕ) (f : Filling room x n₀ all t₀ n (each h (span i e)) t) where
  module _ {rs : List Row} {k : ℕ} {u : List ℤ} (l : i < e) (same : rs ≡ h i) (d : FilledBy room n (counted x rs) t k u) where
    pub turn : k ≤ room → Filling room x n₀ all t₀ k (each h (span (i + 1) e)) u
    turn = next f rs (each h (span (i + 1) e)) k u (each_on h i e l ∙ ap (λ y. y ++ each h (span (i + 1) e)) (sym same)) d

    pub stop : room < k → FilledBy room n₀ (counted x all) t₀ k u
    stop = full f rs (each h (span (i + 1) e)) k u (each_on h i e l ∙ ap (λ y. y ++ each h (span (i + 1) e)) (sym same)) d

  -- a number at which nothing is to be appended
  pub skip : i < e → h i ≡ [] → Filling room x n₀ all t₀ n (each h (span (i + 1) e)) t
  skip l z = record {
    least = f.least;
    most = f.most;
    size = f.size;
    kept = f.kept;
    on = ap (λ y. fill room n (counted x y) t) (sym (each_on h i e l ∙ ap (λ y. y ++ each h (span (i + 1) e)) z)) ∙ f.on;
  }

  -- and several of them
  pub past : (k : ℕ) → i ≤ k → k ≤ e → ((j : ℕ) → i ≤ j → j < k → h j ≡ []) → Filling room x n₀ all t₀ n (each h (span k e)) t
  past k l g z = record {
    least = f.least;
    most = f.most;
    size = f.size;
    kept = f.kept;
    on = ap (λ y. fill room n (counted x y) t) (sym (each_past h i k e l g z)) ∙ f.on;
  }

  pub over : e ≤ i → FilledBy room n₀ (counted x all) t₀ n t
  over l = ended f (each_none h i e l)

-- what a function that appends asks, in the middle of a loop
pub appendable : {f : Frame} {n₀ : ℕ} {all : List Row} {t₀ : List ℤ} {n : ℕ} {rest : List Row} {t : List ℤ} → Appendable f n₀ t₀ → Filling f.room f.since n₀ all t₀ n rest t → Appendable f n t
appendable {f} {n₀} {all} {t₀} {n} {rest} {t} a w =
    let old : (i : ℕ) → i < f.end → cell t i 4 ≡ cell t₀ i 4 = λ i h. w.kept i 4 (omega (arith, a.inside)) (omega arith) in
    record {
      fit = w.most;
      most = a.most;
      held = omega (arith, a.held, w.size);
      above = a.above;
      low = a.low;
      few = a.few;
      inside = omega (arith, a.inside, w.least);
      ordered = λ i j h k. rw (old i (omega arith), old j k) (a.ordered i j h k);
    }
