-- The write of a length meets its contract: the whole milliseconds are written where two bytes are left behind them, and then those two.
use Rattle.std.proofs.Common.{◌≡◌, ℕ, suc, ◌+◌, ◌≤◌, List, [], ◌∷◌, ◌++◌, length, take, drop, set, arith, refl, ap, take-append-drop, add-one, append_assoc, length-drop}
use Rattle.std.proofs.lemmas.List.{drop-drop}
use Rattle.std.proofs.lemmas.Grind.{common_steps}
use Rattle.decimal.specs.Spelling.{written, written_output, spelled_length}
use Rattle.decimal.proofs.LengthSpelled.write.Goals as goal

-- what the whole milliseconds left of the output, as if it had been written to its end
rest_back : (out : List ℕ) (n k : ℕ) → n ≤ k → k ≤ length out → drop n (take k out) ++ drop k out ≡ drop n out
rest_back out n k h l = grind (arith, common_steps, take-append-drop k out)

-- two bytes behind w
two_set : (w out : List ℕ) (b d : ℕ) → 2 ≤ length out → set (set (w ++ out) (length w) b) (suc (length w)) d ≡ w ++ (b ∷ d ∷ drop 2 out)
two_set [] [] b d h = absurd (omega arith)
two_set [] (x ∷ []) b d h = absurd (omega arith)
two_set [] (x ∷ y ∷ out) b d h = refl
two_set (x ∷ w) out b d h = ap (λ l. x ∷ l) (two_set w out b d h)

point_written : (w out : List ℕ) (d n k : ℕ) → n ≡ length w → n ≤ k → k + 2 ≡ length out →
    set (set ((w ++ drop n (take k out)) ++ drop k out) n 46) (n + 1) d ≡ (w ++ 46 ∷ d ∷ []) ++ drop (n + 2) out
point_written w out d n k e h l =
    let fit : k ≤ length out = omega arith in
    let two : 2 ≤ length (drop n out) = simp length-drop (omega arith) in
    rw (append_assoc w (drop n (take k out)) (drop k out), rest_back out n k h fit, append_assoc w, ← drop-drop, add-one, e)
    (rw e at (two_set w (drop n out) 46 d two))

pub returns : goal.returns
unfolding written written_output spelled_length
returns c = grind (arith, common_steps, point_written)
