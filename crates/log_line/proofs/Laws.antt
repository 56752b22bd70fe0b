-- Laws of a line of the log: what has a tab is no number, a text that starts with a word and its tab is that word's call, and any
-- other is malformed.
use Prim.Native.Nat.{ℕ, zero, suc, ◌+◌, ◌≤◌, ◌<◌}
use native.Mathlib.Omega.{arith}
use mathlib.Core.Path.{◌≡◌, refl, sym, ap, ◌∙◌}
use mathlib.Core.Bool.{Bool, true, false, cond, true≢false}
use mathlib.Core.List.{List, [], ◌∷◌, ◌++◌, append_assoc}
use mathlib.Core.Logic.{◌≢◌}
use borrow.Author.Tests.{eqb-true, eqb-false}
use lib.Dec.{eqb, leb}
use lib.IntN.{ℤ, pos}
use lib.ListN.{length, take, drop, take-append-drop}
use lib.Seq.{take-append_seam}
use Rattle.std.specs.Str.{bytes_eq}
use Rattle.std.proofs.lemmas.Slice.Eq.{bytes_eq-Decides}
use Rattle.std.specs.Prelude.{Option, Some, None, MatchOption, IsSomeAnd}
use Rattle.text.specs.Text.{index_of, fields}
use Rattle.text.proofs.Laws.{index_le, lacks, index_lacks, index_cut, split_some, split_word}
use Rattle.decimal.specs.Spelling.{number_of, instant_of}
use Rattle.decimal.proofs.Laws.{number_lacks}
use Rattle.decimal.proofs.Tenths.{instant_lacks}
use Rattle.chart.specs.Operators.{same_bytes, place_of}
use Rattle.chart.proofs.Records.{one_field, cut_field}
use Rattle.chart.proofs.Words.{same_eq}
use Rattle.chart.proofs.Places.{place_le}
use Rattle.log_line.specs.declared.Call.{Call}
use Rattle.log_line.specs.Log.{open_word, event_word, clock_word, forget_word, call_words, event_call, instant_call, word_call, fields_call, call_of, answer_of, taken_line, refused_line, code_answer, instant_answer, word_answer, fields_answer, line_answer}

-- what has a tab is no number and no instant
module _ (s : List ℕ) (tab : index_of 9 s ≡ length s → ⊥) where
  number_tab : number_of s ≡ None
  number_tab = go (number_of s) refl
    where
      go : (r : Option ℕ) → number_of s ≡ r → r ≡ None
      go (Some n) e = absurd (tab (index_lacks 9 s (number_lacks 9 (omega arith) s n e)))
      go None e = refl

  instant_tab : instant_of s ≡ None
  instant_tab = go (instant_of s) refl
    where
      go : (r : Option ℤ) → instant_of s ≡ r → r ≡ None
      go (Some z) e = absurd (tab (index_lacks 9 s (instant_lacks 9 (omega arith) s z e)))
      go None e = refl

  word_tab : (w : ℕ) → word_call w s ≡ None
  unfolding word_call event_call instant_call
  word_tab w = rw (number_tab, instant_tab) (go (eqb w 0) (eqb w 1) (eqb w 2) (eqb w 3))
    where
      go : (t u v x : Bool) → cond {A = Option Call} t None (cond u None (cond v None (cond x None None))) ≡ None
      go true u v x = refl
      go false true v x = refl
      go false false true x = refl
      go false false false true = refl
      go false false false false = refl

-- the fields behind the word need no count, since what has a tab is malformed anyway
behind_word : (w t : List ℕ) → fields_call (w ∷ fields t) ≡ word_call (place_of w call_words) t
unfolding fields_call
behind_word w t = go (eqb (index_of 9 t) (length t)) refl
  where
    go : (b : Bool) → eqb (index_of 9 t) (length t) ≡ b → fields_call (w ∷ fields t) ≡ word_call (place_of w call_words) t
    go true e = rw (one_field t (eqb-true (index_of 9 t) (length t) e))
    go false e =
        let d = eqb-false (index_of 9 t) (length t) e in
        let q = split_some 9 (drop (index_of 9 t + 1) t) in
        rw (cut_field t d, q.2) (sym (word_tab t d (place_of w call_words)))

-- a word and its tab in front
abbrev pub tabbed : List ℕ → List ℕ
tabbed w = w ++ (9 ∷ [])

-- the words of the log: no tab, and a place
pub record WordAt (n : ℕ) (w : List ℕ) : Type 0 where
  untabbed : lacks 9 w ≡ true
  place : place_of w call_words ≡ n

pub open_word_lem : WordAt 0 open_word
unfolding call_words place_of
open_word_lem = record { untabbed = refl; place = refl }

pub event_word_lem : WordAt 1 event_word
unfolding call_words place_of
event_word_lem = record { untabbed = refl; place = refl }

pub clock_word_lem : WordAt 2 clock_word
unfolding call_words place_of
clock_word_lem = record { untabbed = refl; place = refl }

pub forget_word_lem : WordAt 3 forget_word
unfolding call_words place_of
forget_word_lem = record { untabbed = refl; place = refl }

-- a text that does not begin with w and a tab has another first field
other_field : (s w : List ℕ) → index_of 9 s < length s → ((rest : List ℕ) → s ≢ tabbed w ++ rest) → same_bytes (take (index_of 9 s) s) w ≡ false
other_field s w h none = go (same_bytes (take (index_of 9 s) s) w) refl
  where
    go : (t : Bool) → same_bytes (take (index_of 9 s) s) w ≡ t → t ≡ false
    go true q =
        let rest = drop (suc (index_of 9 s)) s in
        absurd (none rest (index_cut 9 s h ∙ ap (λ v. v ++ 9 ∷ rest) (same_eq (take (index_of 9 s) s) w q) ∙ sym (append_assoc w (9 ∷ []) rest)))
    go false q = refl

-- the enum's answer is that of the line
code_answer_lem : (n : Option ℕ) → answer_of (event_call n) ≡ code_answer n
unfolding event_call code_answer
code_answer_lem None = refl
code_answer_lem (Some k) = go (leb k 255)
  where
    go : (b : Bool) → answer_of (cond b (Some (Call.Event k)) None) ≡ cond b (taken_line 1 (pos k)) refused_line
    go true = refl
    go false = refl

instant_answer_lem : (w : ℕ) (make : ℤ → Call) → ((z : ℤ) → answer_of (Some (make z)) ≡ taken_line w z) → (i : Option ℤ) → answer_of (instant_call make i) ≡ instant_answer w i
unfolding instant_call instant_answer
instant_answer_lem w make h None = refl
instant_answer_lem w make h (Some z) = h z

word_answer_lem : (w : ℕ) (x : List ℕ) → w ≤ 4 → answer_of (word_call w x) ≡ word_answer w x
unfolding word_call word_answer call_words
word_answer_lem zero x h = instant_answer_lem 0 Call.Open (λ z. refl) (instant_of x)
word_answer_lem (suc zero) x h = code_answer_lem (number_of x)
word_answer_lem (suc (suc zero)) x h = instant_answer_lem 2 Call.Clock (λ z. refl) (instant_of x)
word_answer_lem (suc (suc (suc zero))) x h = instant_answer_lem 3 Call.Forget (λ z. refl) (instant_of x)
word_answer_lem (suc (suc (suc (suc zero)))) x h = refl
word_answer_lem (suc (suc (suc (suc (suc n))))) x h = absurd (omega arith)

fields_answer_lem : (fs : List (List ℕ)) → answer_of (fields_call fs) ≡ fields_answer fs
unfolding fields_call fields_answer call_words
fields_answer_lem [] = refl
fields_answer_lem (w ∷ []) = refl
fields_answer_lem (w ∷ x ∷ []) = word_answer_lem (place_of w call_words) x (place_le w call_words)
fields_answer_lem (w ∷ x ∷ y ∷ ys) = refl

pub answered : (s : List ℕ) (r : Option Call) → call_of s ≡ r → (r ≡ call_of s) × (answer_of r ≡ line_answer s)
unfolding call_of line_answer
answered s r e = (sym e, sym (ap answer_of e) ∙ fields_answer_lem (fields s))

-- a word, its tab and a field behind them
pub word_call_lem : {n : ℕ} {w : List ℕ} → WordAt n w → (t : List ℕ) → call_of (w ++ 9 ∷ t) ≡ word_call n t
unfolding call_of
word_call_lem {n} {w} p t = ap fields_call (split_word 9 w t (index_lacks 9 w p.untabbed)) ∙ behind_word w t ∙ ap (λ k. word_call k t) p.place

-- a line that begins with a word and its tab, and what is behind them
pub word_found : {n : ℕ} {w : List ℕ} → WordAt n w → (s rest : List ℕ) → bytes_eq (take (length (tabbed w)) s) (tabbed w) ≡ true → rest ≡ drop (length (tabbed w)) s → call_of s ≡ word_call n rest
word_found {n} {w} p s rest e d =
    let front = (bytes_eq-Decides (take (length (tabbed w)) s) (tabbed w)).0 e in
    let cut : s ≡ w ++ 9 ∷ rest = sym (take-append-drop (length (tabbed w)) s) ∙ ap (λ l. l ++ drop (length (tabbed w)) s) front ∙ ap (λ l. tabbed w ++ l) (sym d) ∙ append_assoc w (9 ∷ []) rest in
    ap call_of cut ∙ word_call_lem p rest

-- and one that does not
pub word_missed : (s w : List ℕ) → bytes_eq (take (length (tabbed w)) s) (tabbed w) ≡ false → (rest : List ℕ) → s ≢ tabbed w ++ rest
word_missed s w e rest d = true≢false (sym ((bytes_eq-Decides (take (length (tabbed w)) s) (tabbed w)).1 (ap (take (length (tabbed w))) d ∙ take-append_seam (tabbed w) rest)) ∙ e)

-- what `map` makes of an instant that was read
pub instant_mapped : (make : ℤ → Call) (i : Option ℤ) {r : Option Call} → MatchOption i (r ≡ None) (λ z. IsSomeAnd r (λ c. c ≡ make z)) → instant_call make i ≡ r
unfolding instant_call
instant_mapped make None h = sym h
instant_mapped make (Some z) {r} h = go r h
  where
    go : (r : Option Call) → IsSomeAnd r (λ c. c ≡ make z) → Some (make z) ≡ r
    go (Some c) e = ap Some (sym e)
    go None e = absurd e

-- a line with no word and tab in front
pub no_call : (s : List ℕ) → ((rest : List ℕ) → s ≢ tabbed open_word ++ rest) → ((rest : List ℕ) → s ≢ tabbed event_word ++ rest) → ((rest : List ℕ) → s ≢ tabbed clock_word ++ rest) → ((rest : List ℕ) → s ≢ tabbed forget_word ++ rest) → call_of s ≡ None
unfolding call_of fields_call call_words word_call place_of
no_call s o e c f = go (eqb (index_of 9 s) (length s)) refl
  where
    go : (b : Bool) → eqb (index_of 9 s) (length s) ≡ b → fields_call (fields s) ≡ None
    go true q = rw (one_field s (eqb-true (index_of 9 s) (length s) q))
    go false q =
        let d = eqb-false (index_of 9 s) (length s) q in
        let h : index_of 9 s < length s = omega (arith, index_le 9 s) in
        let w = take (index_of 9 s) s in
        let place : place_of w call_words ≡ 4 = rw (other_field s open_word h o, other_field s event_word h e, other_field s clock_word h c, other_field s forget_word h f) in
        rw (cut_field s d) (behind_word w (drop (index_of 9 s + 1) s) ∙ ap (λ k. word_call k (drop (index_of 9 s + 1) s)) place)
