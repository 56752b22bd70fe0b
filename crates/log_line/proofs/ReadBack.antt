-- Whole logs line by line: the first line of some bytes, whatever comes behind them, and a line that was written.
use Prim.Native.Nat.{ℕ, ◌+◌, ◌-◌, ◌≤◌, ◌<◌}
use native.Mathlib.Omega.{arith}
use mathlib.Core.Path.{◌≡◌, refl, sym, ap, ◌∙◌, subst}
use mathlib.Core.Bool.{Bool, true, false, cond}
use mathlib.Core.List.{List, [], ◌∷◌, ◌++◌, append_assoc, map}
use borrow.Author.Tests.{lt-ltb, leb-true}
use lib.Dec.{eqb, leb}
use lib.IntN.{ℤ}
use lib.ListN.{length, take, drop, length-append, length-take}
use Rattle.interval.specs.Instants.{is_instant}
use Rattle.std.specs.Prelude.{Option, Some, None, IfSome}
use Rattle.interval.proofs.Machine.{instant_fits}
use Rattle.text.specs.Text.{Line, whole, is_record, line_size, fields}
use Rattle.text.proofs.Laws.{lacks, index_lacks, lacks_append, first_part}
use Rattle.text.proofs.FirstLine.{line_front, lines_first, Unformed, long_line, last_line}
use Rattle.decimal.specs.Spelling.{number_of, instant_of, spelled_number, spelled_instant}
use Rattle.decimal.proofs.Laws.{number_read_back, spelled_number_lacks, fits_below}
use Rattle.decimal.proofs.Tenths.{instants_hold, written_instant_lacks}
use Rattle.chart.specs.Operators.{place_of}
use Rattle.log_line.specs.declared.Call.{Call}
use Rattle.log_line.specs.Log.{open_word, event_word, clock_word, forget_word, call_words, event_call, instant_call, word_call, fields_call, call_of, call_in, calls_of, word_line, instant_line, has_line, line_of, line_most}
use Rattle.log_line.specs.Demands.{LinesReadBack}
use Rattle.log_line.proofs.Laws.{WordAt, open_word_lem, event_word_lem, clock_word_lem, forget_word_lem, word_call_lem}
use Rattle.log_line.proofs.Writing.{event_line_few, instant_line_few, line_instant}

call_whole : (s : List ℕ) → length s < 64 → call_in (whole s) ≡ call_of s
unfolding call_in
call_whole s h = rw (lt-ltb (length s) 64 h)

-- bytes with a whole line in front, and what comes behind them later
pub calls_first : (s later : List ℕ) (n : ℕ) → line_size s ≡ Some n → calls_of (s ++ later) ≡ call_of (take (n - 1) s) ∷ calls_of (drop n s ++ later)
calls_first s later n e =
    let f = first_part s n e in
    ap (map call_in) (lines_first s later n e) ∙ ap (λ c. c ∷ calls_of (drop n s ++ later)) (call_whole (take (n - 1) s) (omega (arith, f.some, f.short, length-take (n - 1) s)))

-- bytes without one: a line that is malformed, where they are too many or no more come
pub record BadLine (s : List ℕ) : Type 0 where
  pub behind : List (Option Call)
  pub calls : calls_of s ≡ None ∷ behind

bad_line : (s : List ℕ) → Unformed s → BadLine s
unfolding call_in
bad_line s u =
    let bad : call_in u.line ≡ None = rw u.bad in
    record { behind = map call_in u.behind; calls = ap (map call_in) u.first ∙ ap (λ c. c ∷ map call_in u.behind) bad }

pub calls_long : (s later : List ℕ) → line_size s ≡ None → 64 ≤ length s → BadLine (s ++ later)
calls_long s later z h = bad_line (s ++ later) (long_line s later z h)

pub calls_last : (s : List ℕ) → line_size s ≡ None → 0 < length s → BadLine s
calls_last s z h = bad_line s (last_line s z h)

-- the code of an event that was read is at most 255
unfoldable pub CodeFits : Call → Type 0
CodeFits (Call.Open o) = Unit {0}
CodeFits (Call.Event k) = leb k 255 ≡ true
CodeFits (Call.Clock x) = Unit {0}
CodeFits (Call.Forget f) = Unit {0}

abbrev Fits : Option Call → Type 0
Fits r = IfSome r CodeFits

event_fits : (n : Option ℕ) → Fits (event_call n)
unfolding CodeFits event_call
event_fits (Some m) = go (leb m 255) refl
  where
    go : (b : Bool) → leb m 255 ≡ b → Fits (cond b (Some (Call.Event m)) None)
    go true d = d
    go false d = tt
event_fits None = tt

instant_fits_too : (make : ℤ → Call) → ((z : ℤ) → CodeFits (make z)) → (i : Option ℤ) → Fits (instant_call make i)
unfolding instant_call
instant_fits_too make f (Some z) = f z
instant_fits_too make f None = tt

word_fits : (w : ℕ) (x : List ℕ) → Fits (word_call w x)
unfolding CodeFits word_call
word_fits w x = go (eqb w 0) (eqb w 1) (eqb w 2) (eqb w 3)
  where
    go : (p q r s : Bool) → Fits (cond p (instant_call Call.Open (instant_of x)) (cond q (event_call (number_of x)) (cond r (instant_call Call.Clock (instant_of x)) (cond s (instant_call Call.Forget (instant_of x)) None))))
    go true q r s = instant_fits_too Call.Open (λ z. tt) (instant_of x)
    go false true r s = event_fits (number_of x)
    go false false true s = instant_fits_too Call.Clock (λ z. tt) (instant_of x)
    go false false false true = instant_fits_too Call.Forget (λ z. tt) (instant_of x)
    go false false false false = tt

fields_fits : (fs : List (List ℕ)) → Fits (fields_call fs)
unfolding fields_call
fields_fits [] = tt
fields_fits (w ∷ []) = tt
fields_fits (w ∷ x ∷ []) = word_fits (place_of w call_words) x
fields_fits (w ∷ x ∷ y ∷ ys) = tt

line_fits : (l : Line) → Fits (call_in l)
unfolding call_in call_of
line_fits l = go (is_record l)
  where
    go : (b : Bool) → Fits (cond b (call_of l.bytes) None)
    go true = fields_fits (fields l.bytes)
    go false = tt

pub call_fits : (l : Line) (c : Call) → call_in l ≡ Some c → CodeFits c
call_fits l c e = subst Fits e (line_fits l)

-- a word, a number and the end of the line, in front of others
word_first : (w n rest : List ℕ) → lacks 10 w ≡ true → lacks 10 n ≡ true → length (word_line w n) ≤ line_most → calls_of (word_line w n ++ rest) ≡ call_of (w ++ (9 ∷ n)) ∷ calls_of rest
word_first w n rest p q h =
    let s = w ++ (9 ∷ n) in
    let same : word_line w n ++ rest ≡ s ++ (10 ∷ rest) = append_assoc (w ++ (9 ∷ [])) (n ++ (10 ∷ [])) rest ∙ ap (λ l. (w ++ (9 ∷ [])) ++ l) (append_assoc n (10 ∷ []) rest) ∙ append_assoc w (9 ∷ []) (n ++ (10 ∷ rest)) ∙ sym (append_assoc w (9 ∷ n) (10 ∷ rest)) in
    let plain = index_lacks 10 s (lacks_append 10 w (9 ∷ n) p q) in
    let size : length (word_line w n) ≡ length s + 1 = omega (arith, length-append (w ++ (9 ∷ [])) (n ++ (10 ∷ [])), length-append w (9 ∷ []), length-append n (10 ∷ []), length-append w (9 ∷ n)) in
    ap calls_of same ∙ ap (map call_in) (line_front s rest plain) ∙ ap (λ c. c ∷ calls_of rest) (call_whole s (omega (arith, size, h)))

instant_first : (w : List ℕ) (i : ℕ) (make : ℤ → Call) → WordAt i w → lacks 10 w ≡ true → length w ≤ 6 → ((x : List ℕ) → word_call i x ≡ instant_call make (instant_of x)) → (t : ℤ) → is_instant t ≡ true → (rest : List ℕ) → calls_of (instant_line w t ++ rest) ≡ Some (make t) ∷ calls_of rest
unfolding instant_call
instant_first w i make at p few by t e rest =
    let fit = instant_fits t e in
    let line = line_instant w t e in
    let n = spelled_instant t in
    let read : instant_of n ≡ Some t = instants_hold.read_back t (fits_below t fit) in
    let size = instant_line_few w t few in
    ap (λ l. calls_of (l ++ rest)) line ∙ word_first w n rest p (written_instant_lacks 10 (omega arith) t) (omega (arith, ap length line, size)) ∙ ap (λ c. c ∷ calls_of rest) (word_call_lem at n ∙ by n ∙ ap (instant_call make) read)

taken : (k : ℕ) → leb k 255 ≡ true → event_call (Some k) ≡ Some (Call.Event k)
unfolding event_call
taken k e = rw e

pub lines_read_back : LinesReadBack
unfolding has_line line_of word_call
lines_read_back (Call.Open o) e rest = instant_first open_word 0 Call.Open open_word_lem refl (omega arith) (λ x. refl) o e rest
lines_read_back (Call.Clock x) e rest = instant_first clock_word 2 Call.Clock clock_word_lem refl (omega arith) (λ y. refl) x e rest
lines_read_back (Call.Forget f) e rest = instant_first forget_word 3 Call.Forget forget_word_lem refl (omega arith) (λ x. refl) f e rest
lines_read_back (Call.Event k) e rest =
    let h = leb-true k 255 e in
    let n = spelled_number k in
    let read : number_of n ≡ Some k = number_read_back k (omega arith) in
    word_first event_word n rest refl (spelled_number_lacks 10 (omega arith) k) (event_line_few k (omega arith)) ∙ ap (λ c. c ∷ calls_of rest) (word_call_lem event_word_lem n ∙ ap event_call read ∙ taken k e)
