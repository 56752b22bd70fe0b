-- The turns of `feed`: what is to do from where it has come is what was to do.
use Prim.Native.Nat.{ℕ, suc, ◌+◌, ◌-◌, ◌≤◌, ◌<◌}
use native.Mathlib.Omega.{arith}
use mathlib.Core.Path.{◌≡◌, sym, ap, ◌∙◌}
use mathlib.Core.List.{List}
use borrow.Author.Tests.{le-leb, lt-leb}
use lib.ListN.{length, take, drop, length-drop}
use Rattle.std.specs.Prelude.{Option, Some, None, Ok, Err}
use Rattle.text.specs.Text.{line_size}
use Rattle.text.proofs.Laws.{first_part}
use Rattle.log_line.specs.Log.{call_of}
use Rattle.log_line.specs.declared.Call.{Call}
use Rattle.checking.specs.Checks.{State, call_checked, check_call, fed_to, fed_rest, fed_from, fed_check}
use Rattle.checking.specs.declared.Check.{Check}

-- a line adds at most one to the count
pub line_counted : (c : Check) (d : Option Call) → (check_call c d).line ≤ c.line + 1
line_counted c d = go c.state
  where
    go : (s : State) → (call_checked c.line s d).line ≤ c.line + 1
    go (Ok i) = omega arith
    go (Err r) = omega arith

module _ (m : ℕ) (c : Check) (used : ℕ) (s : List ℕ) where
  pub fed_line : (n : ℕ) → line_size s ≡ Some n → fed_from (suc m) c used s ≡ fed_from m (check_call c (call_of (take (n - 1) s))) (used + n) (drop n s)
  unfolding fed_from
  fed_line n e = rw e

  pub fed_none : line_size s ≡ None → fed_from (suc m) c used s ≡ fed_rest c used s
  unfolding fed_from
  fed_none e = rw e

pub record Feeding (first : Check) (s : List ℕ) (c : Check) (rest : List ℕ) : Type 0 where
  pub inside : length rest ≤ length s
  pub lines : c.line + length rest ≤ first.line + length s
  pub fuel : ℕ
  pub enough : length rest ≤ fuel
  pub same : fed_from (suc fuel) c (length s - length rest) rest ≡ fed_check first s

pub feeding_start : (c : Check) (s : List ℕ) → Feeding c s c s
unfolding fed_check
feeding_start c s =
    let none : length s - length s ≡ 0 = omega arith in
    record { inside = omega arith; lines = omega arith; fuel = length s; enough = omega arith; same = ap (λ n. fed_from (suc (length s)) c n s) none }

module _ (first : Check) (s : List ℕ) (c : Check) (rest : List ℕ) (h : Feeding first s c rest) where
  pub feeding_next : (n : ℕ) → line_size rest ≡ Some n → Feeding first s (check_call c (call_of (take (n - 1) rest))) (drop n rest)
  feeding_next n e =
      let d = call_of (take (n - 1) rest) in
      let line = first_part rest n e in
      let one : h.fuel ≡ suc (h.fuel - 1) = omega (arith, line.some, line.inside, h.enough) in
      let size : length (drop n rest) ≡ length rest - n = length-drop n rest in
      let used : length s - length (drop n rest) ≡ length s - length rest + n = omega (arith, size, line.inside, h.inside) in
      record {
        inside = omega (arith, size, h.inside);
        lines = omega (arith, size, line.some, line.inside, h.lines, line_counted c d);
        fuel = h.fuel - 1;
        enough = omega (arith, size, line.some, h.enough);
        same = ap (λ k. fed_from k (check_call c d) (length s - length (drop n rest)) (drop n rest)) (sym one) ∙ ap (λ k. fed_from h.fuel (check_call c d) k (drop n rest)) used ∙ sym (fed_line h.fuel c (length s - length rest) rest n e) ∙ h.same;
      }

  module _ (none : line_size rest ≡ None) where
    pub feeding_long : 64 ≤ length rest → fed_to (check_call c None) (length s) ≡ fed_check first s
    unfolding fed_rest
    feeding_long g =
        let all : length s - length rest + length rest ≡ length s = omega (arith, h.inside) in
        rw (← all) (sym (rw (le-leb 64 (length rest) g)) ∙ sym (fed_none h.fuel c (length s - length rest) rest none) ∙ h.same)

    pub feeding_short : length rest < 64 → fed_to c (length s - length rest) ≡ fed_check first s
    unfolding fed_rest
    feeding_short g = sym (rw (lt-leb 64 (length rest) g)) ∙ sym (fed_none h.fuel c (length s - length rest) rest none) ∙ h.same
