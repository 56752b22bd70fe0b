-- A piece has no more lines than bytes.
use Prim.Native.Nat.{ℕ, zero, suc, ◌+◌, ◌-◌, ◌≤◌}
use native.Mathlib.Omega.{arith}
use mathlib.Core.Path.{◌≡◌, refl, ap}
use mathlib.Core.Bool.{Bool, true, false, cond}
use mathlib.Core.List.{List}
use borrow.Author.Tests.{leb-true}
use lib.Dec.{leb}
use lib.ListN.{length, take, drop, length-drop}
use Rattle.std.specs.Prelude.{Option, Some, None}
use Rattle.text.specs.Text.{line_size}
use Rattle.text.proofs.Laws.{size_le, first_part}
use Rattle.log_line.specs.Log.{call_of}
use Rattle.checking.specs.Checks.{check_call, fed_to, fed_rest, fed_from, fed_check}
use Rattle.checking.specs.declared.Check.{Check}
use Rattle.checking.proofs.Checking.{line_counted, fed_line, fed_none}

rest_counted : (c : Check) (used : ℕ) (s : List ℕ) → (fed_rest c used s).check.line ≤ c.line + length s
unfolding fed_rest
rest_counted c used s = go (leb 64 (length s)) refl
  where
    go : (b : Bool) → leb 64 (length s) ≡ b → (cond b (fed_to (check_call c None) (used + length s)) (fed_to c used)).check.line ≤ c.line + length s
    go true e = omega (arith, leb-true 64 (length s) e, line_counted c None)
    go false e = omega arith

from_counted : (m : ℕ) (c : Check) (used : ℕ) (s : List ℕ) → (fed_from m c used s).check.line ≤ c.line + length s
unfolding fed_from
from_counted zero c used s = omega arith
from_counted (suc m) c used s = go (line_size s) refl (λ n. from_counted m (check_call c (call_of (take (n - 1) s))) (used + n) (drop n s))
  where
    next : ℕ → Check
    next n = check_call c (call_of (take (n - 1) s))

    go : (o : Option ℕ) → line_size s ≡ o → ((n : ℕ) → (fed_from m (next n) (used + n) (drop n s)).check.line ≤ (next n).line + length (drop n s)) → (fed_from (suc m) c used s).check.line ≤ c.line + length s
    go None e f = omega (arith, ap (λ r. r.check.line) (fed_none m c used s e), rest_counted c used s)
    go (Some n) e f =
        omega (arith, ap (λ r. r.check.line) (fed_line m c used s n e), f n, (first_part s n e).some, size_le s n e, length-drop n s, line_counted c (call_of (take (n - 1) s)))

pub fed_counted : (c : Check) (s : List ℕ) → (fed_check c s).check.line ≤ c.line + length s
unfolding fed_check
fed_counted c s = from_counted (suc (length s)) c 0 s
