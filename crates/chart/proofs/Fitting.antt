-- No line of the form is longer than 64 bytes: the sizes of its fields, each with the tab or the byte 10 behind it.
use Rattle.std.proofs.Common.{ℕ, ◌≤◌, ◌≡◌, refl, ap, Bool, true, false, cond, eqb, List, [], ◌∷◌, length, arith}
use borrow.Author.Tests.{ltb-true}
use Rattle.std.specs.Prelude.{Option, None, Some}
use Rattle.std.proofs.lemmas.Option.{cond_some}
use Rattle.text.specs.Text.{fields}
use Rattle.text.proofs.Laws.{sizes, split_sizes}
use Rattle.decimal.specs.Spelling.{number_of, length_of}
use Rattle.decimal.proofs.Laws.{number_few}
use Rattle.decimal.proofs.Tenths.{length_few}
use Rattle.chart.specs.Operators.{words, operator_of, kind_of, takes_length}
use Rattle.chart.specs.Records.{parsed_line, numbered, operator_line, by_operator, event_line, with_code, operands_line, second_of, second_operand, with_operands}
use Rattle.chart.specs.Statements.{LinesFit}
use Rattle.chart.specs.declared.operator.Kind.{Kind}
use Rattle.chart.proofs.Places.{place_short}

-- a number that is read has at most 10 bytes, a second operand at most 11
number_fits : (y : List ℕ) (r : Option ℕ) → number_of y ≡ r → (r ≡ None → ⊥) → length y ≤ 10
number_fits y (Some n) e d = number_few y n e
number_fits y None e d = absurd (d refl)

second_fits : (k : Kind) (y : List ℕ) → (second_of k y ≡ None → ⊥) → length y ≤ 11
unfolding second_of
second_fits k y d = go (takes_length k) (length_of y) refl d
  where
    go : (t : Bool) (r : Option ℕ) → length_of y ≡ r → (cond t r (number_of y) ≡ None → ⊥) → length y ≤ 11
    go true (Some n) e g = length_few y n e
    go true None e g = absurd (g refl)
    go false r e g = omega (arith, number_fits y (number_of y) refl g)

-- an operator's word has at most 8
word_fits : (w : List ℕ) (op : ℕ) → operator_of w ≡ Some op → length w ≤ 8
unfolding operator_of words
word_fits w op e = place_short 8 w words refl (ltb-true _ _ (cond_some _ _ _ e).0)

-- the fields behind the operator
event_fits : (e : ℕ) (fs : List (List ℕ)) → (event_line e fs ≡ None → ⊥) → sizes 9 fs ≤ 11
unfolding event_line with_code
event_fits e [] d = absurd (d refl)
event_fits e (k ∷ []) d = omega (arith, number_fits k (number_of k) refl (λ q. d (ap (with_code e) q)))
event_fits e (k ∷ l ∷ ls) d = absurd (d refl)

operands_fit : (e op : ℕ) (fs : List (List ℕ)) → (operands_line e op fs ≡ None → ⊥) → sizes 9 fs ≤ 23
unfolding operands_line second_operand with_operands
operands_fit e op [] d = absurd (d refl)
operands_fit e op (x ∷ []) d = absurd (d refl)
operands_fit e op (x ∷ y ∷ []) d = go (number_of x) refl d
  where
    second : (a : ℕ) → (with_operands e op (Some a) (second_of (kind_of op) y) ≡ None → ⊥) → length y ≤ 11
    second a g = second_fits (kind_of op) y (λ q. g (ap (with_operands e op (Some a)) q))

    go : (r : Option ℕ) → number_of x ≡ r → (with_operands e op r (second_of (kind_of op) y) ≡ None → ⊥) → sizes 9 (x ∷ y ∷ []) ≤ 23
    go (Some a) q g = omega (arith, number_few x a q, second a g)
    go None q g = absurd (g refl)
operands_fit e op (x ∷ y ∷ z ∷ zs) d = absurd (d refl)

operator_fits : (e : ℕ) (fs : List (List ℕ)) → (operator_line e fs ≡ None → ⊥) → sizes 9 fs ≤ 32
unfolding operator_line by_operator
operator_fits e [] d = absurd (d refl)
operator_fits e (w ∷ fs) d = go (operator_of w) refl d
  where
    two : (op : ℕ) → operator_of w ≡ Some op → (t : Bool) → (cond t (event_line e fs) (operands_line e op fs) ≡ None → ⊥) → sizes 9 (w ∷ fs) ≤ 32
    two op p true g = omega (arith, word_fits w op p, event_fits e fs g)
    two op p false g = omega (arith, word_fits w op p, operands_fit e op fs g)

    go : (r : Option ℕ) → operator_of w ≡ r → (by_operator e r fs ≡ None → ⊥) → sizes 9 (w ∷ fs) ≤ 32
    go (Some op) p g = two op p (eqb op 0) g
    go None p g = absurd (g refl)

parsed_fits : (fs : List (List ℕ)) → (parsed_line fs ≡ None → ⊥) → sizes 9 fs ≤ 43
unfolding parsed_line numbered
parsed_fits [] d = absurd (d refl)
parsed_fits (n ∷ fs) d = go (number_of n) refl d
  where
    go : (r : Option ℕ) → number_of n ≡ r → (numbered r fs ≡ None → ⊥) → sizes 9 (n ∷ fs) ≤ 43
    go (Some e) q g = omega (arith, number_few n e q, operator_fits e fs g)
    go None q g = absurd (g refl)

pub lines_fit : LinesFit
lines_fit s d = omega (arith, parsed_fits (fields s) d, split_sizes 9 s)
