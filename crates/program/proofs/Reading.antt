-- What the first 64 bytes tell of the bytes that are left to read.
use Prim.Native.Nat.{ℕ, suc, ◌+◌, ◌-◌, ◌≤◌, ◌<◌, ◌^◌}
use native.Mathlib.Omega.{arith}
use mathlib.Core.Path.{◌≡◌, refl, sym, ap, ◌∙◌, subst}
use mathlib.Core.Bool.{Bool, true, false, cond}
use mathlib.Core.List.{List, [], ◌∷◌}
use borrow.Author.Tests.{ltb-true, ltb-false, le-leb, lt-leb, le-ltb, leb-true, leb-false, ne_eqb}
use lib.Dec.{leb, ltb}
use lib.IntN.{ℤ}
use lib.ListN.{length, take, drop, length-take, length-drop, drop_of_length-le}
use lib.Seq.{length-take-le, drop-drop}
use Rattle.interval.proofs.Signed.{never}
use Rattle.text.specs.Text.{Line, whole, broken, split, index_of, is_record, line_size}
use Rattle.text.specs.Output.{rest_length}
use Rattle.std.specs.Prelude.{Some, None, ◌||◌}
use Rattle.text.proofs.Laws.{split_some, split_cut, split_none, index_le, size_le, FirstPart, first_part, none_early}
use Rattle.program.specs.Runs.{Progress, unformed_run, after_line, after_parts, after_bytes, last_part, is_refused, kept_of, Reached, Read, HasLines, settled_run, finished, finished_run}
use Rattle.program.specs.declared.Run.{Run}
use Rattle.program.specs.declared.Fed.{Fed}
use Rattle.program.proofs.Reaching.{line_on, line_counted}
use Rattle.program.proofs.Pieces.{broken_stopped, line_stopped, parts_stopped, bytes_stopped, same_unformed, unformed, unformed_run_lem, unformed_stopped}

-- a line that lacks its byte 10 or has over 64 bytes
pub line_unformed : (p : Progress) (l : Line) → is_record l ≡ false → after_line p l ≡ record { run = unformed_run p.run.stage p.run; table = p.table }
line_unformed p l e = same_unformed p l e ∙ unformed_run_lem p

-- a whole line in front
pub line_first : (p : Progress) (s : List ℕ) (n : ℕ) → line_size s ≡ Some n → (after_bytes p s ≡ after_bytes (after_line p (whole (take (n - 1) s))) (drop n s)) × (last_part (split 10 s) ≡ last_part (split 10 (drop n s)))
unfolding after_bytes after_parts last_part
line_first p s n h = go (split_some 10 (drop n s))
  where
    f : FirstPart s n
    f = first_part s n h

    go : (q : List ℕ) × (qs : List (List ℕ)) × (split 10 (drop n s) ≡ q ∷ qs) → (after_parts p (split 10 s) ≡ after_parts (after_line p (whole (take (n - 1) s))) (split 10 (drop n s))) × (last_part (split 10 s) ≡ last_part (split 10 (drop n s)))
    go (q, qs, e) = (rw (f.parts, e), rw (f.parts, e))

-- none, and less than 64 bytes
pub rest_short : (p : Progress) (s : List ℕ) → line_size s ≡ None → length s < 64 → (after_bytes p s ≡ p) × (last_part (split 10 s) ≡ s)
unfolding after_bytes after_parts last_part
rest_short p s z h =
    let e : split 10 s ≡ s ∷ [] = split_none 10 s (omega (arith, none_early s z, length-take 64 s, index_le 10 s)) in
    let few : leb 64 (length s) ≡ false = lt-leb 64 (length s) h in
    (rw (e, few), rw e)

-- none in 64 bytes or more: a line that is too long, whether its end is there or not
pub rest_long : (p : Progress) (s : List ℕ) → line_size s ≡ None → 64 ≤ length s → after_bytes p s ≡ record { run = unformed_run p.run.stage p.run; table = p.table }
unfolding after_bytes after_parts
rest_long p s z h = go (ltb (index_of 10 s) (length s)) refl (split_some 10 (drop (suc (index_of 10 s)) s)) ∙ unformed_run_lem p
  where
    q : Progress
    q = after_line p unformed

    long : List ℕ
    long = take (index_of 10 s) s

    far : index_of 10 s < length s → is_record (whole long) ≡ false
    far small = le-ltb (length long) 64 (omega (arith, none_early s z, length-take 64 s, length-take-le (index_of 10 s) s (omega (arith, small))))

    go : (b : Bool) → ltb (index_of 10 s) (length s) ≡ b → (r : List ℕ) × (rs : List (List ℕ)) × (split 10 (drop (suc (index_of 10 s)) s) ≡ r ∷ rs) → after_parts p (split 10 s) ≡ q
    go true e (r, rs, d) =
        let small : index_of 10 s < length s = ltb-true (index_of 10 s) (length s) e in
        rw (split_cut 10 s small, d) (ap (λ x. after_parts x (r ∷ rs)) (same_unformed p (whole long) (far small)) ∙ parts_stopped q (r ∷ rs) (unformed_stopped p))
    go false e d =
        let n : split 10 s ≡ s ∷ [] = split_none 10 s (omega (arith, ltb-false (index_of 10 s) (length s) e, index_le 10 s)) in
        rw (n, le-leb 64 (length s) h) (same_unformed p (broken s) refl)

-- reading on
pub read_none : (p : Progress) (s : List ℕ) → Reached p → Read p p 0 s
read_none p s h = record { inside = omega arith; after = refl; last = refl; goes = λ z. z; lines = λ z. omega arith; reached = h }

-- one line further
pub read_line : (p q : Progress) (used n : ℕ) (s : List ℕ) → Read p q used s → line_size (drop used s) ≡ Some n → Read p (after_line q (whole (take (n - 1) (drop used s)))) (used + n) s
read_line p q used n s h e =
    let f = line_first q (drop used s) n e in
    let behind : drop n (drop used s) ≡ drop (used + n) s = drop-drop n used s in
    record {
      inside = omega (arith, h.inside, size_le (drop used s) n e, length-drop used s);
      after = h.after ∙ f.0 ∙ ap (after_bytes (after_line q l₀)) behind;
      last = h.last ∙ f.1 ∙ ap (λ x. last_part (split 10 x)) behind;
      goes = λ z. h.goes (going (is_refused q.run.stage) refl z);
      lines = λ z. counted (is_refused q.run.stage) refl z;
      reached = line_on q l₀ h.reached;
    }
  where
    l₀ : Line
    l₀ = whole (take (n - 1) (drop used s))

    going : (b : Bool) → is_refused q.run.stage ≡ b → is_refused (after_line q l₀).run.stage ≡ false → is_refused q.run.stage ≡ false
    going true d z = never (sym z ∙ ap (λ x. is_refused x.run.stage) (line_stopped q l₀ d) ∙ d)
    going false d z = d

    counted : (b : Bool) → is_refused q.run.stage ≡ b → is_refused (after_line q l₀).run.stage ≡ false → (after_line q l₀).run.line ≤ p.run.line + (used + n)
    counted true d z = never (sym z ∙ ap (λ x. is_refused x.run.stage) (line_stopped q l₀ d) ∙ d)
    counted false d z = omega (arith, line_counted q l₀ z, h.lines d, (first_part (drop used s) n e).some)

-- the same as a loop has it: the line as a part of the slice
module _ (p q : Progress) (used n : ℕ) (s : List ℕ) (h : Read p q used s) (e : line_size (drop used s) ≡ Some n) where
  pub next_some : 0 < n
  next_some = (first_part (drop used s) n e).some

  pub next_inside : used + n ≤ length s
  next_inside = omega (arith, h.inside, size_le (drop used s) n e, length-drop used s)

  pub next_short : length (take (used + n - 1 - used) (drop used s)) < 64
  next_short = omega (arith, first_part (drop used s) n e, length-take (used + n - 1 - used) (drop used s))

  pub read_next : (r : Progress) → r ≡ after_line q (whole (take (used + n - 1 - used) (drop used s))) → Read p r (used + n) s
  read_next r d =
      let k : used + n - 1 - used ≡ n - 1 = omega arith in
      let f : after_line q (whole (take (n - 1) (drop used s))) ≡ r = ap (λ m. after_line q (whole (take m (drop used s)))) (sym k) ∙ sym d in
      subst (λ x. Read p x (used + n) s) f (read_line p q used n s h e)

-- room for the lines that are left
pub lines_left : (p q : Progress) (used n m : ℕ) (s : List ℕ) → Read p q used s → used + n ≤ m → HasLines p.run m → HasLines q.run n
unfolding HasLines
lines_left p q used n m s h g k z = omega (arith, k (h.goes z), h.lines z, g)

pub lines_of : (r : Run) (n : ℕ) → (is_refused r.stage ≡ false → r.line + n < 2 ^ 64) → HasLines r n
unfolding HasLines
lines_of r n h = h

pub lines_fewer : (r : Run) (n m : ℕ) → n ≤ m → HasLines r m → HasLines r n
unfolding HasLines
lines_fewer r n m g k z = omega (arith, k z, g)

-- what is left when no whole line is
pub record Settled (p : Progress) (t : List ℤ) (f : Fed) (s : List ℕ) : Type 0 where
  pub all : record { run = f.run; table = t } ≡ after_bytes p s
  pub inside : f.used ≤ length s
  pub kept : drop f.used s ≡ kept_of (after_bytes p s) s

drop_all : (s : List ℕ) → drop (length s) s ≡ []
drop_all s = drop_of_length-le s {i = length s} (omega arith)

pub settled_as : (p q : Progress) (used : ℕ) (s : List ℕ) → Read p q used s → (is_refused q.run.stage ≡ false → line_size (drop used s) ≡ None) → Settled p q.table (settled_run q.run used (length s)) s
unfolding settled_run kept_of
settled_as p q used s h none = go (is_refused q.run.stage) refl (leb 64 (length s - used)) refl
  where
    size : length (drop used s) ≡ length s - used
    size = length-drop used s

    u : Progress
    u = record { run = unformed_run q.run.stage q.run; table = q.table }

    stopped : is_refused u.run.stage ≡ true
    stopped = ap (λ x. is_refused x.run.stage) (sym (unformed_run_lem q)) ∙ unformed_stopped q

    all : after_bytes p s ≡ u → Settled p q.table (record { run = u.run; used = length s }) s
    all a = record { all = sym a; inside = omega arith; kept = drop_all s ∙ sym (rw (a, stopped)) }

    go : (c : Bool) → is_refused q.run.stage ≡ c → (b : Bool) → leb 64 (length s - used) ≡ b → Settled p q.table (cond (c || b) (record { run = u.run; used = length s }) (record { run = q.run; used = used })) s
    go true e b g = all (h.after ∙ bytes_stopped q (drop used s) e ∙ sym (line_stopped q unformed e) ∙ unformed_run_lem q)
    go false e true g = all (h.after ∙ rest_long q (drop used s) (none e) (omega (arith, leb-true 64 (length s - used) g, size)))
    go false e false g =
        let b = rest_short q (drop used s) (none e) (omega (arith, leb-false 64 (length s - used) g, size)) in
        let a : after_bytes p s ≡ q = h.after ∙ b.0 in
        record { all = sym a; inside = h.inside; kept = sym (rw (a, e) (h.last ∙ b.1)) }

-- what is kept is short
parts_kept : (p : Progress) (ps : List (List ℕ)) → is_refused (after_parts p ps).run.stage ≡ false → length (last_part ps) < 64
unfolding after_parts last_part
parts_kept p [] z = omega arith
parts_kept p (s ∷ []) z = go (leb 64 (length s)) refl z
  where
    go : (b : Bool) → leb 64 (length s) ≡ b → is_refused (cond b (after_line p (broken s)) p).run.stage ≡ false → length s < 64
    go true e y = never (sym y ∙ broken_stopped p s)
    go false e y = leb-false 64 (length s) e
parts_kept p (s ∷ q ∷ qs) z = parts_kept (after_line p (whole s)) (q ∷ qs) z

pub kept_short : (p : Progress) (s : List ℕ) → length (kept_of (after_bytes p s) s) < 64
unfolding kept_of after_bytes
kept_short p s = go (is_refused (after_parts p (split 10 s)).run.stage) refl
  where
    go : (b : Bool) → is_refused (after_parts p (split 10 s)).run.stage ≡ b → length (cond b [] (last_part (split 10 s))) < 64
    go true e = omega arith
    go false e = parts_kept p (split 10 s) e

-- the end of the input, by the number of bytes kept
pub finished_run_lem : (p : Progress) (k : List ℕ) → finished p k ≡ record { run = finished_run p.run (length k); table = p.table }
unfolding finished finished_run
finished_run_lem p [] = refl
finished_run_lem p (b ∷ s) = line_unformed p (broken (b ∷ s)) refl ∙ rw (ne_eqb (suc (length s)) 0 (λ e. omega arith))

-- what a buffer keeps of the bytes it was filled with
pub rest_few : (p : Progress) (buf : List ℕ) (used end : ℕ) → drop used (take end buf) ≡ kept_of (after_bytes p (take end buf)) (take end buf) → end ≤ length buf → rest_length used end buf < 64
unfolding rest_length
rest_few p buf used end e h =
    let n : length (drop used (take end buf)) ≡ length (kept_of (after_bytes p (take end buf)) (take end buf)) = ap length e in
    rw (le-leb end (length buf) h) (omega (arith, n, kept_short p (take end buf), length-drop used (take end buf), length-take-le end buf h))
