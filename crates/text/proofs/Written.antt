-- Bytes written one after another into an output, each piece behind the one before it; and a text at its front.
use Prim.Native.Nat.{ℕ, suc, ◌+◌, ◌-◌, ◌≤◌}
use native.Mathlib.Omega.{arith}
use native.Mathlib.Nat.{add-zero, le_of_eq}
use mathlib.Core.Path.{◌≡◌, refl, sym, ap, ◌∙◌}
use mathlib.Core.Bool.{Bool, true, false}
use mathlib.Core.List.{List, [], ◌∷◌, ◌++◌, append-nil, append_assoc}
use lib.ListN.{length, set, take, drop, length-append, length-drop, drop_of_length-le}
use lib.Seq.{sets, sets-eq, length-sets, take-append_seam}
use borrow.Rule.Slice.PartMut.{put_mid}
use Rattle.std.proofs.lemmas.Slice.{put_mid-paste}
use Rattle.std.proofs.lemmas.List.Edits.{paste_all}
use Rattle.text.specs.Output.{length_where, output_where}

pub sets_append : (out : List ℕ) (at : ℕ) (l r : List ℕ) → sets out at (l ++ r) ≡ sets (sets out at l) (at + length l) r
sets_append out at [] r = rw (add-zero at)
sets_append out at (b ∷ l) r =
    let e : suc at + length l ≡ at + suc (length l) = omega arith in
    sets_append (set out at b) (suc at) l r ∙ rw e

-- a part put in the place of as many
pub put_sets : {X : Type 0} (out s : List X) (at k : ℕ) → k ≡ length s → at + length s ≤ length out → put_mid at k out s ≡ sets out at s
put_sets out s at k e h = put_mid-paste at k out s s (length s) refl (sym e) refl ∙ paste_all out at s (length s) refl ∙ sym (append_assoc (take at out) s (drop (at + length s) out)) ∙ sym (sets-eq s out at h)

-- at the front of the output
pub front_written : (out b : List ℕ) → length b ≤ length out → sets out 0 b ≡ b ++ drop (length b) out
front_written out b h =
    let e : 0 + length b ≡ length b = omega arith in
    sets-eq b out 0 (omega arith) ∙ rw e

-- the part of an output from place n on, as code lends it, and the output with p in the place of that part
abbrev pub part : List ℕ → ℕ → List ℕ
part l n = take (length l - n) (drop n l)

abbrev pub with_part : List ℕ → ℕ → List ℕ → List ℕ
with_part l n p = take n l ++ (p ++ drop (length l - n) (drop n l))

pub with_part_lem : (l : List ℕ) (n : ℕ) (p : List ℕ) → with_part l n p ≡ take n l ++ p
with_part_lem l n p = rw (drop_of_length-le (drop n l) (le_of_eq (length-drop n l)), append-nil)

-- What is left to write: the output `out` with `rest` written at `place` is the output `out₀` with `whole` written at `at`.
pub record Remaining (out₀ : List ℕ) (at : ℕ) (whole out : List ℕ) (place : ℕ) (rest : List ℕ) : Type 0 where
  pub same : length out ≡ length out₀
  pub ends : place + length rest ≡ at + length whole
  pub output : sets out place rest ≡ sets out₀ at whole

pub remaining_all : (out : List ℕ) (at : ℕ) (whole : List ℕ) → Remaining out at whole out at whole
remaining_all out at whole = record { same = refl; ends = refl; output = refl }

module _ {out₀ : List ℕ} {at : ℕ} {whole out : List ℕ} {place : ℕ} {rest : List ℕ} (r : Remaining out₀ at whole out place rest) where
  -- one piece more was written
  pub remaining_less : (piece rest₁ : List ℕ) {out₁ : List ℕ} {place₁ : ℕ} → rest ≡ piece ++ rest₁ → place₁ ≡ place + length piece → out₁ ≡ sets out place piece → Remaining out₀ at whole out₁ place₁ rest₁
  remaining_less piece rest₁ e g f =
      let sizes : length rest ≡ length piece + length rest₁ = ap length e ∙ length-append piece rest₁ in
      record {
        same = ap length f ∙ length-sets out place piece ∙ r.same;
        ends = omega (arith, r.ends, sizes);
        output = rw (f, g) (sym (sets_append out place piece rest₁)) ∙ ap (λ (l : List ℕ). sets out place l) (sym e) ∙ r.output;
      }

  -- all that was left was written
  pub remaining_last : {out₁ : List ℕ} {place₁ : ℕ} → place₁ ≡ place + length rest → out₁ ≡ sets out place rest → (place₁ ≡ at + length whole) × (out₁ ≡ sets out₀ at whole)
  remaining_last g f = (g ∙ r.ends, f ∙ r.output)

  -- nothing is left
  pub remaining_none : rest ≡ [] → (place ≡ at + length whole) × (out ≡ sets out₀ at whole)
  remaining_none e = remaining_last (rw e (omega arith)) (rw e)

-- A text that there is room for is the front of the output, of the length answered; where there is no room nothing is.
module _ (room : Bool) (s out : List ℕ) where
  pub length_room : room ≡ true → length_where room s ≡ length s
  unfolding length_where
  length_room e = rw e

  pub output_room : room ≡ true → output_where room s out ≡ s ++ drop (length s) out
  unfolding output_where
  output_room e = rw e

  pub front_is_text : room ≡ true → take (length_where room s) (output_where room s out) ≡ s
  front_is_text e = rw (length_room e, output_room e) (take-append_seam s (drop (length s) out))

  pub length_no_room : room ≡ false → length_where room s ≡ 0
  unfolding length_where
  length_no_room e = rw e

  pub output_no_room : room ≡ false → output_where room s out ≡ out
  unfolding output_where
  output_no_room e = rw e

-- The same as the code answers it: nothing written, and the text written at the front.
pub none_where : {room : Bool} (s out : List ℕ) → room ≡ false → (0 ≡ length_where room s) × (out ≡ output_where room s out)
none_where {room} s out e = (sym (length_no_room room s out e), sym (output_no_room room s out e))

pub text_where : {room : Bool} (s out : List ℕ) {r : ℕ} {l : List ℕ} → room ≡ true → length s ≤ length out → (r ≡ 0 + length s) × (l ≡ sets out 0 s) → (r ≡ length_where room s) × (l ≡ output_where room s out)
text_where {room} s out e h w = (omega (arith, w.0, length_room room s out e), w.1 ∙ front_written out s h ∙ sym (output_room room s out e))

-- An output that keeps its length has room for what is answered.
pub front_within : (room : Bool) (s out : List ℕ) → length (output_where room s out) ≡ length out → length_where room s ≤ length out
unfolding length_where output_where
front_within true s out e = omega (arith, e, length-append s (drop (length s) out))
front_within false s out e = omega arith
