-- What a writer has of a text that is handed over in parts.
use Rattle.std.proofs.Common.{ℕ, ◌≡◌, Bool, true, List, ◌++◌, ◌-◌, length, take, drop, Option, sym, ap, ◌∙◌, subst, arith, append_assoc, length-append, length-drop, take-append-drop}
use Rattle.std.proofs.lemmas.Grind.{common_steps}
use lib.Seq.{take-append_seam, take_all}
use Rattle.std.specs.Io.KnownBytes.{Keeps, Appends}
use Rattle.reading.specs.Readings.{Hands}

-- What a writer has of a text: the front of it, and what is left.
pub record Written (a b : Option (List ℕ)) (text rest : List ℕ) : Type 0 where
  pub front : List ℕ
  pub cut : text ≡ front ++ rest
  pub has : Appends a b front

module _ {a b : Option (List ℕ)} {text rest : List ℕ} (w : Written a b text rest) (c : Option (List ℕ)) where
  pub written_more : (n : ℕ) → Appends b c (take n rest) → Written a c text (drop n rest)
  written_more n h = record {
    front = w.front ++ take n rest;
    cut = w.cut ∙ ap (λ s. w.front ++ s) (sym (take-append-drop n rest)) ∙ sym (append_assoc w.front (take n rest) (drop n rest));
    has = let k = w.has in grind (arith, common_steps);
  }

  pub written_kept : Keeps b c → Written a c text rest
  written_kept h = record { front = w.front; cut = w.cut; has = let k = w.has in grind (arith, common_steps) }

-- no more is written
pub written_hands : {a b : Option (List ℕ)} {text rest : List ℕ} → Written a b text rest → (whole : Bool) → (whole ≡ true → length rest ≡ 0) → Hands a b text whole
written_hands {a} {b} {text} {rest} w whole none = record {
  count = length w.front;
  inside = omega (arith, ap length w.cut, length-append w.front rest);
  front = subst (λ s. Appends a b s) (sym (ap (take (length w.front)) w.cut ∙ take-append_seam w.front rest)) w.has;
  all = λ e. omega (arith, ap length w.cut, length-append w.front rest, none e);
}

-- the part from an index on, as code lends it
pub part_from : (s : List ℕ) (n : ℕ) → take (length s - n) (drop n s) ≡ drop n s
part_from s n = take_all _ _ (omega (arith, length-drop n s))
