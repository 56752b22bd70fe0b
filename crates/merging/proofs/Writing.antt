-- The line of a call as merging writes it: where there is room for the longest, it is there.
use Prim.Native.Nat.{ℕ, ◌≤◌, ◌<◌}
use native.Mathlib.Omega.{arith}
use mathlib.Core.Path.{◌≡◌, refl, sym, ap, ◌∙◌}
use mathlib.Core.Bool.{Bool, true, false, cond}
use mathlib.Core.List.{List, [], ◌++◌}
use borrow.Author.Tests.{le-leb, leb-false}
use lib.Dec.{leb}
use lib.ListN.{length, drop, length-append}
use lib.Seq.{sets}
use Rattle.std.specs.Prelude.{Option, Some, None}
use Rattle.std.specs.Option.{unwrap_or}
use Rattle.text.proofs.Written.{front_written, output_room}
use Rattle.log_line.specs.Log.{open_word, clock_word, forget_word, has_line, line_of, line_most, call_length, call_output, asked_length, asked_output}
use Rattle.log_line.specs.declared.Call.{Call}
use Rattle.log_line.specs.declared.Call.TheVariants as log
use Rattle.log_line.proofs.Writing.{line_none}
use Rattle.merging.specs.Turns.{call_text}

-- a byte's code, of what may be a call
abbrev pub IsByte : Option Call → Type 0
IsByte d = (k : ℕ) → d ≡ Some (log.Event k) → k < 256

no_line : (c : Call) → IsByte (Some c) → has_line c ≡ false → line_of c ≡ []
unfolding has_line line_of
no_line (log.Open o) f e = line_none open_word o e
no_line (log.Clock t) f e = line_none clock_word t e
no_line (log.Forget x) f e = line_none forget_word x e
no_line (log.Event k) f e = absurd (omega (arith, f k refl, leb-false k 255 e))

pub line_written : (c : Call) (out : List ℕ) {r : Option ℕ} {n : ℕ} {p : List ℕ} → IsByte (Some c) → line_most ≤ length out → length p ≡ length out → (r ≡ call_length c out) × (p ≡ call_output c out) → n ≡ unwrap_or r 0 → (n ≡ length (line_of c)) × (p ≡ sets out 0 (line_of c)) × (n ≤ length out)
line_written c out {r} {n} {p} byte room same told is =
    let fits : leb line_most (length out) ≡ true = le-leb line_most (length out) room in
    let bytes : p ≡ line_of c ++ drop (length (line_of c)) out = told.1 ∙ output_room _ (line_of c) out fits in
    let inside : length (line_of c) ≤ length out = omega (arith, same, ap length bytes, length-append (line_of c) (drop (length (line_of c)) out)) in
    let count : n ≡ length (line_of c) = is ∙ ap (λ o. unwrap_or o 0) told.0 ∙ rw fits (go (has_line c) refl) in
    (count, bytes ∙ sym (front_written out (line_of c) inside), omega (arith, count, inside))
  where
    go : (b : Bool) → has_line c ≡ b → unwrap_or (cond b (Some (length (line_of c))) None) 0 ≡ length (line_of c)
    go true e = refl
    go false e = sym (ap length (no_line c byte e))

-- what asks for no call has no text
pub text_written : (d : Option Call) (out : List ℕ) {r : Option ℕ} {n : ℕ} {p : List ℕ} → IsByte d → line_most ≤ length out → length p ≡ length out → (r ≡ asked_length d out) × (p ≡ asked_output d out) → n ≡ unwrap_or r 0 → (n ≡ length (call_text d)) × (p ≡ sets out 0 (call_text d)) × (n ≤ length out)
text_written (Some c) out byte room same told is = line_written c out byte room same told is
text_written None out byte room same told is =
    let count = is ∙ ap (λ o. unwrap_or o 0) told.0 in
    (count, told.1, omega (arith, count))
