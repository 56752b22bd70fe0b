-- What the line of a call is, by the tests of the code.
use Prim.Native.Nat.{ℕ, ◌+◌, ◌^◌, ◌≤◌, ◌<◌}
use native.Mathlib.Omega.{arith}
use mathlib.Core.Path.{◌≡◌, refl, sym, ap, ◌∙◌}
use borrow.Author.Tests.{le-leb, lt-leb}
use lib.Dec.{leb}
use lib.Seq.{sets}
use Rattle.std.specs.Prelude.{Option, Some, None}
use Rattle.text.proofs.Written.{front_written, output_room, output_no_room}
use Rattle.log_line.specs.declared.Call.{Call}
use mathlib.Core.Bool.{Bool, true, false, cond}
use mathlib.Core.List.{List, [], ◌∷◌, ◌++◌}
use lib.IntN.{ℤ}
use lib.ListN.{length, length-append}
use Rattle.interval.specs.Instants.{is_instant}
use Rattle.interval.proofs.Machine.{instant_fits}
use Rattle.decimal.specs.Spelling.{spelled_number, spelled_instant}
use Rattle.decimal.proofs.Laws.{number_digits_most}
use Rattle.decimal.proofs.Tenths.{written_instant_few}
use Rattle.log_line.specs.Log.{event_word, word_line, instant_line, has_line, line_of, line_most, call_length, call_output}

pub line_instant : (w : List ℕ) (t : ℤ) → is_instant t ≡ true → instant_line w t ≡ word_line w (spelled_instant t)
unfolding instant_line
line_instant w t e = rw e

pub line_none : (w : List ℕ) (t : ℤ) → is_instant t ≡ false → instant_line w t ≡ []
unfolding instant_line
line_none w t e = rw e

-- how long they are
word_line_size : (w n : List ℕ) → length (word_line w n) ≡ length w + length n + 2
word_line_size w n = omega (arith, length-append (w ++ (9 ∷ [])) (n ++ (10 ∷ [])), length-append w (9 ∷ []), length-append n (10 ∷ []))

pub event_few : (k : ℕ) → k < 2 ^ 8 → length (spelled_number k) ≤ 3
event_few k h = number_digits_most 2 k (omega arith)

pub event_line_few : (k : ℕ) → k < 2 ^ 8 → length (word_line event_word (spelled_number k)) ≤ line_most
event_line_few k h = omega (arith, word_line_size event_word (spelled_number k), event_few k h)

pub instant_line_few : (w : List ℕ) (t : ℤ) → length w ≤ 6 → length (instant_line w t) ≤ line_most
unfolding instant_line
instant_line_few w t h = go (is_instant t) refl
  where
    go : (b : Bool) → is_instant t ≡ b → length (cond b (word_line w (spelled_instant t)) []) ≤ line_most
    go true e = omega (arith, word_line_size w (spelled_instant t), written_instant_few t (instant_fits t e))
    go false e = omega arith

-- what `write_call` answers: nothing is written, or the line
module _ (c : Call) (out : List ℕ) where
  pub no_room : length out < line_most → (None ≡ call_length c out) × (out ≡ call_output c out)
  no_room h = let n = lt-leb line_most (length out) h in (rw n, sym (output_no_room (leb line_most (length out)) (line_of c) out n))

  module _ (room : line_most ≤ length out) where
    written : {r : ℕ} {l s : List ℕ} → has_line c ≡ true → line_of c ≡ s → length s ≤ line_most → (r ≡ length s) × (l ≡ sets out 0 s) → (Some r ≡ call_length c out) × (l ≡ call_output c out)
    written {s = s} h e few w =
        let y = le-leb line_most (length out) room in
        (rw (y, h, e) (ap Some w.0), w.1 ∙ front_written out s (omega (arith, few, room)) ∙ sym (output_room (leb line_most (length out)) s out y) ∙ rw e)

    pub event_written : (k : ℕ) → c ≡ Call.Event k → k < 2 ^ 8 → {r : ℕ} {l : List ℕ} → (r ≡ length (word_line event_word (spelled_number k))) × (l ≡ sets out 0 (word_line event_word (spelled_number k))) → (Some r ≡ call_length c out) × (l ≡ call_output c out)
    unfolding line_of has_line
    event_written k is fits w = written (ap has_line is ∙ le-leb k 255 (omega arith)) (ap line_of is) (event_line_few k fits) w

    -- a call that has an instant, by its word
    pub instant_written : (word : List ℕ) (t : ℤ) → length word ≤ 6 → has_line c ≡ is_instant t → line_of c ≡ instant_line word t → {r : Option ℕ} {l : List ℕ} → (r ≡ cond (is_instant t) (Some (length (word_line word (spelled_instant t)))) None) × (l ≡ cond (is_instant t) (sets out 0 (word_line word (spelled_instant t))) out) → (r ≡ call_length c out) × (l ≡ call_output c out)
    instant_written word t few has line {r} {l} w = go (is_instant t) refl w
      where
        go : (b : Bool) → is_instant t ≡ b → (r ≡ cond b (Some (length (word_line word (spelled_instant t)))) None) × (l ≡ cond b (sets out 0 (word_line word (spelled_instant t))) out) → (r ≡ call_length c out) × (l ≡ call_output c out)
        go true y d =
            let same = line_instant word t y in
            let e = written {l = l} (has ∙ y) (line ∙ same) (omega (arith, instant_line_few word t few, ap length same)) (refl, d.1) in
            (d.0 ∙ e.0, e.1)
        go false y d =
            let room_is = le-leb line_most (length out) room in
            let none : line_of c ≡ [] = line ∙ line_none word t y in
            (d.0 ∙ rw (room_is, has ∙ y), d.1 ∙ sym (output_room (leb line_most (length out)) (line_of c) out room_is ∙ rw none))
