-- The claims of specs/Demands.antt.
use Prim.Native.Nat.{ℕ, ◌≤◌}
use native.Mathlib.Omega.{arith}
use mathlib.Core.Path.{◌≡◌, refl}
use mathlib.Core.Logic.{◌⊎◌, inl, inr}
use mathlib.Core.Bool.{Bool, true, false, cond}
use mathlib.Core.List.{List, [], ◌∷◌}
use borrow.Author.Tests.{eqb-false}
use lib.Dec.{eqb, leb}
use lib.IntN.{ℤ, pos}
use lib.ListN.{length}
use Rattle.std.specs.Prelude.{Option, Some, None}
use Rattle.text.specs.Text.{fields}
use Rattle.text.proofs.Laws.{sizes, split_sizes}
use Rattle.decimal.specs.Spelling.{number_of, instant_of}
use Rattle.decimal.proofs.Laws.{number_few}
use Rattle.decimal.proofs.Tenths.{instant_few}
use Rattle.chart.specs.Operators.{place_of}
use Rattle.chart.proofs.Places.{place_le, place_short}
use Rattle.log_line.specs.Log.{call_words, LineAnswer, refused_line, taken_line, code_answer, instant_answer, word_answer, fields_answer, line_answer}
use Rattle.log_line.specs.Demands.{Demand1, LinesFit}

-- what the demand says of an answer
pub record Listed (a : LineAnswer) : Type 0 where
  pub number : (a.refusal ≡ 0) ⊎ (a.refusal ≡ 7)
  pub alone : a.refusal ≡ 7 → a.asked ≡ []

refused : Listed refused_line
refused = record { number = inr refl; alone = λ e. refl }

taken : (w : ℕ) (z : ℤ) → Listed (taken_line w z)
taken w z = record { number = inl refl; alone = λ e. absurd (omega arith) }

either : (b : Bool) (x y : LineAnswer) → Listed x → Listed y → Listed (cond b x y)
either true x y p q = p
either false x y p q = q

code_listed : (n : Option ℕ) → Listed (code_answer n)
unfolding code_answer
code_listed None = refused
code_listed (Some k) = either (leb k 255) (taken_line 1 (pos k)) refused_line (taken 1 (pos k)) refused

instant_listed : (w : ℕ) (i : Option ℤ) → Listed (instant_answer w i)
unfolding instant_answer
instant_listed w None = refused
instant_listed w (Some z) = taken w z

word_listed : (w : ℕ) (x : List ℕ) → Listed (word_answer w x)
unfolding word_answer
word_listed w x =
    let code = code_answer (number_of x) in
    let instant = instant_answer w (instant_of x) in
    either (eqb w (length call_words)) refused_line (cond (eqb w 1) code instant) refused (either (eqb w 1) code instant (code_listed (number_of x)) (instant_listed w (instant_of x)))

fields_listed : (fs : List (List ℕ)) → Listed (fields_answer fs)
unfolding fields_answer
fields_listed [] = refused
fields_listed (w ∷ []) = refused
fields_listed (w ∷ x ∷ []) = word_listed (place_of w call_words) x
fields_listed (w ∷ x ∷ y ∷ ys) = refused

line_listed : (s : List ℕ) → Listed (line_answer s)
unfolding line_answer
line_listed s = fields_listed (fields s)

pub demand_1 : Demand1
demand_1 = record { numbers = λ s. (line_listed s).number; alone = λ s. (line_listed s).alone }

-- A line that is taken: a word of at most 6 bytes and a field of at most 12.
code_fits : (x : List ℕ) (n : Option ℕ) → number_of x ≡ n → (code_answer n).refusal ≡ 0 → length x ≤ 10
unfolding code_answer
code_fits x (Some k) e h = number_few x k e
code_fits x None e h = absurd (omega arith)

instant_fits : (w : ℕ) (x : List ℕ) (i : Option ℤ) → instant_of x ≡ i → (instant_answer w i).refusal ≡ 0 → length x ≤ 12
unfolding instant_answer
instant_fits w x (Some z) e h = instant_few x z e
instant_fits w x None e h = absurd (omega arith)

word_fits : (w : ℕ) (x : List ℕ) → (word_answer w x).refusal ≡ 0 → (w ≡ length call_words → ⊥) × (length x ≤ 12)
unfolding word_answer
word_fits w x h = go (eqb w (length call_words)) refl (eqb w 1) h
  where
    go : (t : Bool) → eqb w (length call_words) ≡ t → (u : Bool) → (cond t refused_line (cond u (code_answer (number_of x)) (instant_answer w (instant_of x)))).refusal ≡ 0 → (w ≡ length call_words → ⊥) × (length x ≤ 12)
    go true p u g = absurd (omega arith)
    go false p true g = (eqb-false w (length call_words) p, omega (arith, code_fits x (number_of x) refl g))
    go false p false g = (eqb-false w (length call_words) p, instant_fits w x (instant_of x) refl g)

fields_fit : (fs : List (List ℕ)) → (fields_answer fs).refusal ≡ 0 → sizes 9 fs ≤ 20
unfolding fields_answer call_words
fields_fit [] h = absurd (omega arith)
fields_fit (w ∷ []) h = absurd (omega arith)
fields_fit (w ∷ x ∷ []) h =
    let f = word_fits (place_of w call_words) x h in
    let d = f.0 in
    let short = place_short 6 w call_words refl (omega (arith, place_le w call_words, d)) in
    omega (arith, short, f.1)
fields_fit (w ∷ x ∷ y ∷ ys) h = absurd (omega arith)

pub lines_fit : LinesFit
unfolding line_answer
lines_fit s h = omega (arith, fields_fit (fields s) h, split_sizes 9 s)
