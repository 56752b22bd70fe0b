-- Laws of a chart value's operators: what the operator of each kind is, and what is looked up of an entry's.
use Prim.Native.Nat.{ℕ, zero, suc, ◌+◌, ◌-◌, ◌≤◌, ◌<◌}
use native.Mathlib.Omega.{arith}
use native.Mathlib.Nat.{add-zero, zero-add}
use mathlib.Core.Path.{◌≡◌, refl, sym, ap, subst, ◌∙◌}
use mathlib.Core.Logic.{⊎_elim}
use mathlib.Core.List.{List, [], ◌∷◌, ◌++◌, map}
use lib.ListN.{length, get_or, length-append, length-map, get_or-append, get_or-map}
use lib.Seq.{get_or-append-add, ext_get_or}
use Rattle.std.proofs.lemmas.Bool.{cases_lt}
use Rattle.chart.specs.Operators.{kind_of, shape_of}
use Rattle.chart.specs.Records.{entry}
use Rattle.chart.specs.Charts.{entry_at, with_entries}
use Rattle.chart.specs.declared.Chart.{Chart}
use Rattle.chart.specs.declared.Entry.{Entry}
use Rattle.chart.specs.declared.operator.Kind.{Kind}
use Rattle.chart.specs.declared.operator.Kind.TheVariants.{Event, Or, Pair, Absence, Length, After, Nearest, Unknown}
use Rattle.chart.specs.declared.operator.Shape.{Shape}
use Rattle.chart.specs.declared.operator.Shape.TheVariants.{Leaf, Single, Arms, Double, Delayed}
use Rattle.chart.proofs.Entries.{added_count, entry_kept, entry_added}
use Rattle.model.specs.Lists.{numbers}
use Rattle.model.specs.Recognitions.{Operator, event, related, or, absence, lasting, after, nearest}
use Rattle.table.specs.Operators.{operator_by, entry_operator, operators_of, arity_of}

-- o is the operator of this kind with the operands a and b
abbrev pub IsOperator : Kind → ℕ → ℕ → Operator → Type 0
IsOperator Event a b o = o ≡ event a
IsOperator Or a b o = o ≡ or a b
IsOperator (Pair c) a b o = o ≡ related c a b
IsOperator (Absence e) a b o = o ≡ absence e a b
IsOperator (Length t) a b o = o ≡ lasting t a b
IsOperator After a b o = o ≡ after a b
IsOperator (Nearest c) a b o = o ≡ nearest c a b
IsOperator Unknown a b o = o ≡ after a b

pub operator_is : (k : Kind) (a b : ℕ) → IsOperator k a b (operator_by k a b)
unfolding operator_by
operator_is Event a b = refl
operator_is Or a b = refl
operator_is (Pair c) a b = refl
operator_is (Absence e) a b = refl
operator_is (Length t) a b = refl
operator_is After a b = refl
operator_is (Nearest c) a b = refl
operator_is Unknown a b = refl

-- the same of an entry whose kind is known
pub entry_operator_lem : (e : Entry) (k : Kind) → kind_of e.op ≡ k → IsOperator k e.a e.b (entry_operator e)
entry_operator_lem e k h = rw h (operator_is k e.a e.b)

-- how many references a row of this shape is written with, and so one of an entry's operator
abbrev pub arity_by : Shape → ℕ
arity_by Leaf = 0
arity_by Single = 1
arity_by Arms = 2
arity_by Double = 2
arity_by Delayed = 1

pub shape_arity : (k : Kind) (a b : ℕ) → arity_of (operator_by k a b) ≡ arity_by (shape_of k)
unfolding operator_by arity_of
shape_arity Event a b = refl
shape_arity Or a b = refl
shape_arity (Pair c) a b = refl
shape_arity (Absence e) a b = refl
shape_arity (Length t) a b = refl
shape_arity After a b = refl
shape_arity (Nearest c) a b = refl
shape_arity Unknown a b = refl

-- k operators, from that of entry i on
abbrev pub operators_from : Chart → ℕ → ℕ → List Operator
operators_from c i k = map (λ n. entry_operator (entry_at c n)) (numbers i k)

pub operators_all : (c : Chart) → operators_of c ≡ operators_from c 0 c.count
unfolding operators_of
operators_all c = refl

length_from : (c : Chart) (i k : ℕ) → length (operators_from c i k) ≡ k
length_from c i zero = refl
length_from c i (suc k) = ap suc (length_from c (suc i) k)

pub length_operators : (c : Chart) → length (operators_of c) ≡ c.count
length_operators c = ap length (operators_all c) ∙ length_from c 0 c.count

-- `look` looks up operator n of a list and hands back `of` it, or `past` where there is none
pub record Lookup {A : Type 0} (look : List Operator → ℕ → A) (of : Operator → A) (past : A) : Type 0 where
  pub none : (n : ℕ) → look [] n ≡ past
  pub first : (op : Operator) (ops : List Operator) → look (op ∷ ops) 0 ≡ of op
  pub later : (op : Operator) (ops : List Operator) (n : ℕ) → look (op ∷ ops) (suc n) ≡ look ops n

module _ {A : Type 0} (look : List Operator → ℕ → A) (of : Operator → A) (past : A) (l : Lookup look of past) (chart : Chart) where
  from_at : (i k n : ℕ) → n < k → look (operators_from chart i k) n ≡ of (entry_operator (entry_at chart (i + n)))
  from_at i zero n h = absurd (omega arith)
  from_at i (suc k) zero h = l.first _ _ ∙ ap (λ m. of (entry_operator (entry_at chart m))) (sym (add-zero i))
  from_at i (suc k) (suc n) h =
      let e : suc i + n ≡ i + suc n = omega arith in
      l.later _ _ n ∙ from_at (suc i) k n (omega arith) ∙ ap (λ m. of (entry_operator (entry_at chart m))) e

  from_past : (i k n : ℕ) → k ≤ n → look (operators_from chart i k) n ≡ past
  from_past i zero n h = l.none n
  from_past i (suc k) zero h = absurd (omega arith)
  from_past i (suc k) (suc n) h = l.later _ _ n ∙ from_past (suc i) k n (omega arith)

  pub operator_at : (n : ℕ) → n < chart.count → look (operators_of chart) n ≡ of (entry_operator (entry_at chart n))
  operator_at n h =
      ap (λ ops. look ops n) (operators_all chart)
      ∙ from_at 0 chart.count n h
      ∙ ap (λ m. of (entry_operator (entry_at chart m))) (zero-add n)

  pub operator_past : (n : ℕ) → chart.count ≤ n → look (operators_of chart) n ≡ past
  operator_past n h = ap (λ ops. look ops n) (operators_all chart) ∙ from_past 0 chart.count n h

-- entries added to a chart: its own operators stay, and the added ones follow
module _ (c : Chart) (es : List Entry) where
  abbrev past : Operator
  past = entry_operator (entry 0 0 0)

  at_place : (d : Chart) (n : ℕ) → n < d.count → get_or (operators_of d) n past ≡ entry_operator (entry_at d n)
  at_place d = operator_at (λ ops n. get_or ops n past) (λ op. op) past (record { none = λ n. refl; first = λ op ops. refl; later = λ op ops n. refl }) d

  own_place : (i : ℕ) → i < c.count → get_or (operators_of (with_entries c es)) i past ≡ get_or (operators_of c ++ map entry_operator es) i past
  own_place i h =
      at_place (with_entries c es) i (omega (arith, added_count c es))
      ∙ ap entry_operator (entry_kept c es i h)
      ∙ sym (at_place c i h)
      ∙ sym (get_or-append (operators_of c) (map entry_operator es) past i (omega (arith, length_operators c)))

  added_place : (i : ℕ) → i < length es → get_or (operators_of (with_entries c es)) (c.count + i) past ≡ get_or (operators_of c ++ map entry_operator es) (c.count + i) past
  added_place i h =
      at_place (with_entries c es) (c.count + i) (omega (arith, added_count c es))
      ∙ ap entry_operator (entry_added c es i h)
      ∙ sym (get_or-map entry_operator es i (entry 0 0 0))
      ∙ sym (get_or-append-add (operators_of c) (map entry_operator es) i past)
      ∙ ap (λ n. get_or (operators_of c ++ map entry_operator es) (n + i) past) (length_operators c)

  pub operators_added : operators_of (with_entries c es) ≡ operators_of c ++ map entry_operator es
  operators_added = ext_get_or past _ _ (length_operators (with_entries c es) ∙ lengths) at
    where
      lengths : (with_entries c es).count ≡ length (operators_of c ++ map entry_operator es)
      lengths = omega (arith, added_count c es, length-append (operators_of c) (map entry_operator es), length_operators c, length-map es entry_operator)

      at : (i : ℕ) → i < length (operators_of (with_entries c es)) → get_or (operators_of (with_entries c es)) i past ≡ get_or (operators_of c ++ map entry_operator es) i past
      at i h = ⊎_elim (own_place i) added (cases_lt i c.count)
        where
          added : c.count ≤ i → get_or (operators_of (with_entries c es)) i past ≡ get_or (operators_of c ++ map entry_operator es) i past
          added g =
              let k : c.count + (i - c.count) ≡ i = omega arith in
              subst (λ n. get_or (operators_of (with_entries c es)) n past ≡ get_or (operators_of c ++ map entry_operator es) n past) k (added_place (i - c.count) (omega (arith, length_operators (with_entries c es), added_count c es)))
