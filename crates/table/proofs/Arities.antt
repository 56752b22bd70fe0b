-- The arities of a chart's entries: filled entry by entry, they are those of its operators, and an event's is 0.
use Prim.Native.Nat.{ℕ, zero, suc, ◌+◌, ◌-◌, ◌≤◌, ◌<◌}
use native.Mathlib.Omega.{arith}
use native.Mathlib.Nat.{sub-zero}
use native.Mathlib.Numerals.{add-one}
use mathlib.Core.Path.{◌≡◌, refl, sym, ap, ◌∙◌}
use mathlib.Core.Bool.{true}
use mathlib.Core.List.{List, [], ◌∷◌, ◌++◌, map}
use lib.Dec.{eqb}
use lib.ListN.{length, get_or, set, replicate, length-append, length-map, length-replicate, replicate-append-replicate}
use lib.Seq.{sets, sets-eq, drop_at}
use Rattle.chart.specs.Charts.{is_usable, entry_at}
use Rattle.chart.specs.declared.Chart.{Chart}
use Rattle.chart.proofs.Usable.{usable_few}
use Rattle.interval.specs.declared.Relation.{Relation}
use Rattle.interval.specs.declared.Edges.{Edges}
use Rattle.interval.specs.declared.LengthTest.{LengthTest}
use Rattle.interval.specs.declared.Nearest.{Nearest}
use Rattle.model.specs.Recognitions.{Operator, event, related, or, absence, lasting, after, nearest}
use Rattle.model.specs.RowSteps.{is_event, is_event_at}
use Rattle.table.specs.Operators.{entry_operator, operators_of, arity_of, arities_of}
use Rattle.table.proofs.Operators.{operators_from, operators_all, length_operators}

-- the zeros behind tell nothing of an entry
padded_at : (l : List ℕ) (n k : ℕ) → get_or (l ++ replicate n 0) k 0 ≡ get_or l k 0
padded_at [] zero k = refl
padded_at [] (suc n) zero = refl
padded_at [] (suc n) (suc k) = padded_at [] n k
padded_at (x ∷ l) n zero = refl
padded_at (x ∷ l) n (suc k) = padded_at l n k

pub same_arity : (chart : Chart) (k : ℕ) → get_or (arities_of chart) k 0 ≡ get_or (map arity_of (operators_of chart)) k 0
unfolding arities_of
same_arity chart k = padded_at (map arity_of (operators_of chart)) (32 - chart.count) k

-- an event's row is written with no reference, and no other is so
pub arity_event : (k : ℕ) → arity_of (event k) ≡ 0
unfolding arity_of
arity_event k = refl

pub event_none : (o : Operator) → is_event o ≡ eqb (arity_of o) 0
unfolding arity_of
event_none (event k) = refl
event_none (related c a b) = refl
event_none (or a b) = refl
event_none (absence c a b) = refl
event_none (lasting c a d) = refl
event_none (after a d) = refl
event_none (nearest c a b) = refl

-- and how many each of the others has, for those who write a tree
pub arity_related : (c : Relation) (a b : ℕ) → arity_of (related c a b) ≡ 2
unfolding arity_of
arity_related c a b = refl

pub arity_or : (a b : ℕ) → arity_of (or a b) ≡ 2
unfolding arity_of
arity_or a b = refl

pub arity_absence : (c : Edges) (a b : ℕ) → arity_of (absence c a b) ≡ 1
unfolding arity_of
arity_absence c a b = refl

pub arity_lasting : (c : LengthTest) (a d : ℕ) → arity_of (lasting c a d) ≡ 1
unfolding arity_of
arity_lasting c a d = refl

pub arity_after : (a d : ℕ) → arity_of (after a d) ≡ 1
unfolding arity_of
arity_after a d = refl

pub arity_nearest : (c : Nearest) (a b : ℕ) → arity_of (nearest c a b) ≡ 2
unfolding arity_of
arity_nearest c a b = refl

event_at : (ops : List Operator) (n : ℕ) → n < length ops → is_event_at ops n ≡ eqb (get_or (map arity_of ops) n 0) 0
event_at [] n h = absurd (omega arith)
event_at (o ∷ ops) zero h = event_none o
event_at (o ∷ ops) (suc n) h = event_at ops n (omega arith)

pub event_arity : (chart : Chart) (n : ℕ) → n < chart.count → is_event_at (operators_of chart) n ≡ eqb (get_or (arities_of chart) n 0) 0
event_arity chart n h = event_at (operators_of chart) n (rw (length_operators chart) h) ∙ ap (λ a. eqb a 0) (sym (same_arity chart n))

-- the arities from entry n on, and an array that is filled up to there
abbrev pub arities_from : Chart → ℕ → List ℕ
arities_from chart n = map arity_of (operators_from chart n (chart.count - n))

abbrev pub Filled : Chart → ℕ → List ℕ → Type 0
Filled chart n arities = sets arities n (arities_from chart n) ≡ arities_of chart

sets_zeros : (l : List ℕ) (k n : ℕ) → length l + k ≡ n → sets (replicate n 0) 0 l ≡ l ++ replicate k 0
sets_zeros l k n e =
    let zs = replicate (length l) zero in
    rw (← e, ← replicate-append-replicate (length l) k zero) (
    sets-eq l (zs ++ replicate k 0) 0 (simp (length-append, length-replicate) (omega arith))
    ∙ ap (◌++◌ l) (drop_at zs (replicate k 0) (0 + length l) (simp length-replicate (omega arith))))

module _ (chart : Chart) where
  pub filled_none : is_usable chart ≡ true → Filled chart 0 (replicate 32 0)
  unfolding arities_of
  filled_none u =
      rw (sub-zero chart.count, ← operators_all chart) (sets_zeros (map arity_of (operators_of chart)) (32 - chart.count) 32 (omega (arith, usable_few chart u, length-map (operators_of chart) arity_of, length_operators chart)))

  module _ (n : ℕ) (arities : List ℕ) (w : Filled chart n arities) where
    pub filled_more : n < chart.count → (a : ℕ) → a ≡ arity_of (entry_operator (entry_at chart n)) → Filled chart (n + 1) (set arities n a)
    filled_more h a e =
        let k : chart.count - n ≡ suc (chart.count - suc n) = omega arith in
        rw (add-one n, e) (rw k at w)

    pub filled_all : chart.count ≤ n → arities ≡ arities_of chart
    filled_all h =
        let k : chart.count - n ≡ 0 = omega arith in
        rw k at w
