-- The first line of some bytes, whatever comes behind them.
use Prim.Native.Nat.{ℕ, ◌-◌, ◌≤◌, ◌<◌}
use native.Mathlib.Omega.{arith}
use mathlib.Core.Path.{◌≡◌, sym, ap, ◌∙◌}
use mathlib.Core.List.{List, ◌∷◌, ◌++◌}
use lib.ListN.{length, take, drop, length-append}
use lib.Seq.{take-append-le}
use Rattle.std.specs.Prelude.{false, Some, None}
use Rattle.text.specs.Text.{Line, whole, split, ended, lines, is_record, index_of, line_size}
use Rattle.text.proofs.Laws.{glued, split_some, split_append, split_word, lines_parts, first_broken, first_part, no_line}

-- a part in front of others is a whole line
parts_first : (s p r : List ℕ) → split 10 s ≡ p ∷ split 10 r → lines s ≡ whole p ∷ lines r
parts_first s p r e = go (split_some 10 r)
  where
    go : (q : List ℕ) × (qs : List (List ℕ)) × (split 10 r ≡ q ∷ qs) → lines s ≡ whole p ∷ lines r
    go (q, qs, d) = lines_parts s ∙ ap ended (e ∙ ap (λ l. p ∷ l) d) ∙ ap (λ l. whole p ∷ l) (sym (lines_parts r ∙ ap ended d))

-- a line in front of a text
pub line_front : (s r : List ℕ) → index_of 10 s ≡ length s → lines (s ++ (10 ∷ r)) ≡ whole s ∷ lines r
line_front s r plain = parts_first (s ++ (10 ∷ r)) s r (split_word 10 s r plain)

-- a whole line in front, and bytes that come later
pub lines_first : (s later : List ℕ) (n : ℕ) → line_size s ≡ Some n → lines (s ++ later) ≡ whole (take (n - 1) s) ∷ lines (drop n s ++ later)
lines_first s later n e = parts_first (s ++ later) p (r ++ later) (go (split_some 10 r))
  where
    p : List ℕ
    p = take (n - 1) s

    r : List ℕ
    r = drop n s

    go : (q : List ℕ) × (qs : List (List ℕ)) × (split 10 r ≡ q ∷ qs) → split 10 (s ++ later) ≡ p ∷ split 10 (r ++ later)
    go (q, qs, d) =
        let f = first_part s n e in
        split_append 10 s later ∙ ap (λ l. glued l (split 10 later)) (f.parts ∙ ap (λ l. p ∷ l) d) ∙ ap (λ l. p ∷ glued l (split 10 later)) (sym d) ∙ ap (λ l. p ∷ l) (sym (split_append 10 r later))

-- bytes without one: a line that is no record, where they are too many or no more come
pub record Unformed (s : List ℕ) : Type 0 where
  pub line : Line
  pub behind : List Line
  pub first : lines s ≡ line ∷ behind
  pub bad : is_record line ≡ false

unformed : (s : List ℕ) → 0 < length s → index_of 10 (take 64 s) ≡ length (take 64 s) → Unformed s
unformed s h e = let f = first_broken s h e in record { line = f.0; behind = f.1; first = f.2; bad = f.3 }

pub long_line : (s later : List ℕ) → line_size s ≡ None → 64 ≤ length s → Unformed (s ++ later)
long_line s later z h =
    let w : take 64 (s ++ later) ≡ take 64 s = take-append-le 64 s later h in
    unformed (s ++ later) (omega (arith, length-append s later)) (ap (index_of 10) w ∙ no_line s z ∙ ap length (sym w))

pub last_line : (s : List ℕ) → line_size s ≡ None → 0 < length s → Unformed s
last_line s z h = unformed s h (no_line s z)
