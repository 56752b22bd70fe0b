-- An input that comes in pieces gives the run of the whole input, line by line.
use Prim.Native.Nat.{ℕ, zero, suc, ◌+◌, ◌≤◌}
use native.Mathlib.Omega.{arith}
use mathlib.Core.Path.{◌≡◌, refl, sym, ap, ◌∙◌}
use mathlib.Core.Bool.{Bool, true, false, cond, ◌&&◌}
use mathlib.Core.List.{List, [], ◌∷◌, ◌++◌, append_assoc, append-nil}
use borrow.Author.Tests.{ne_eqb, le-leb, le-ltb, leb-true}
use lib.Dec.{eqb, leb, ltb}
use lib.ListN.{length, length-append}
use Rattle.interval.proofs.Signed.{never}
use Rattle.text.specs.Text.{Line, whole, broken, in_front, split, ended, lines, is_record, joined}
use Rattle.text.proofs.Laws.{split_some, split_empty, split_byte, glued, split_append, lines_parts}
use Rattle.chart.specs.Charts.{read_lines}
use Rattle.chart.proofs.Lines.{refused_number, refused_line, read_unformed}
use Rattle.program.specs.Outcomes.{call_in, is_empty}
use Rattle.program.specs.Runs.{Progress, refused_run, unformed_run, entry_run, answered_run, open_step, call_step, line_step, after_line, after_parts, after_bytes, last_part, is_refused, kept_of, end_run, finished, Between, fed, fed_all}
use Rattle.program.specs.declared.Run.{Run}
use Rattle.program.specs.declared.Stage.{Stage}
use Rattle.program.specs.declared.Stage.TheVariants.{Entries, Opening, Calls, Refused}

-- a run that was refused stays as it is
abbrev pub Stopped : Progress → Type 0
Stopped p = is_refused p.run.stage ≡ true

pub line_stopped : (p : Progress) (l : Line) → Stopped p → after_line p l ≡ p
unfolding is_refused line_step
line_stopped p l e = go p.run.stage e
  where
    go : (s : Stage) → is_refused s ≡ true → line_step s p.run p.table l ≡ p
    go Entries d = never d
    go Opening d = never d
    go Calls d = never d
    go (Refused n) d = refl

pub parts_stopped : (p : Progress) (ps : List (List ℕ)) → Stopped p → after_parts p ps ≡ p
unfolding after_parts
parts_stopped p [] e = refl
parts_stopped p (s ∷ []) e = go (leb 64 (length s))
  where
    go : (b : Bool) → cond b (after_line p (broken s)) p ≡ p
    go true = line_stopped p (broken s) e
    go false = refl
parts_stopped p (s ∷ q ∷ qs) e = ap (λ x. after_parts x (q ∷ qs)) (line_stopped p (whole s) e) ∙ parts_stopped p (q ∷ qs) e

-- the end of the input for a run
abbrev pub at_end : Progress → Progress
at_end p = record { run = end_run p.run.stage p.run; table = p.table }

pub end_stopped : (p : Progress) → Stopped p → at_end p ≡ p
unfolding is_refused end_run
end_stopped p e = ap (λ r. record { run = r; table = p.table }) (go p.run.stage e)
  where
    go : (s : Stage) → is_refused s ≡ true → end_run s p.run ≡ p.run
    go Entries d = never d
    go Opening d = never d
    go Calls d = never d
    go (Refused n) d = refl

-- A line that lacks its byte 10 or has over 64 bytes is refused, whatever it has besides.
abbrev pub unformed : Line
unformed = broken []

not_empty : (l : Line) → is_record l ≡ false → is_empty l ≡ false
not_empty l e = go l.ended (length l.bytes) e
  where
    go : (b : Bool) (n : ℕ) → (b && ltb n 64) ≡ false → (b && eqb n 0) ≡ false
    go true zero d = never (sym d)
    go true (suc n) d = ne_eqb (suc n) 0 (λ q. omega arith)
    go false n d = refl

pub same_unformed : (p : Progress) (l : Line) → is_record l ≡ false → after_line p l ≡ after_line p unformed
unfolding line_step call_in
same_unformed p l e = go p.run.stage
  where
    go : (s : Stage) → line_step s p.run p.table l ≡ line_step s p.run p.table unformed
    go Entries = rw (not_empty l e, read_unformed p.run.chart l [] e, read_unformed p.run.chart unformed [] refl)
    go Opening = rw e
    go Calls = rw e
    go (Refused n) = refl

-- what it makes of a run
unformed_entry : (r : Run) → entry_run r (read_lines r.chart (unformed ∷ [])) ≡ refused_run r (cond (leb 32 r.chart.count) 2 3) (r.chart.count + 1)
unfolding entry_run
unformed_entry r = rw (read_unformed r.chart unformed [] refl, refused_number, refused_line) (go (leb 32 r.chart.count) _ (λ n. refused_run r n (r.chart.count + 1)))
  where
    go : (b : Bool) (x : Run) (f : ℕ → Run) → cond (eqb (cond b 2 3) 0) x (f (cond b 2 3)) ≡ f (cond b 2 3)
    go true x f = refl
    go false x f = refl

pub unformed_run_lem : (p : Progress) → after_line p unformed ≡ record { run = unformed_run p.run.stage p.run; table = p.table }
unfolding line_step call_in open_step call_step answered_run unformed_run
unformed_run_lem p = go p.run.stage
  where
    go : (s : Stage) → line_step s p.run p.table unformed ≡ record { run = unformed_run s p.run; table = p.table }
    go Entries = ap (λ x. record { run = x; table = p.table }) (unformed_entry p.run)
    go Opening = refl
    go Calls = refl
    go (Refused n) = refl

pub unformed_stopped : (p : Progress) → Stopped (after_line p unformed)
unfolding is_refused unformed_run refused_run
unformed_stopped p = ap (λ x. is_refused x.run.stage) (unformed_run_lem p) ∙ go p.run.stage refl
  where
    go : (s : Stage) → p.run.stage ≡ s → is_refused (unformed_run s p.run).stage ≡ true
    go Entries e = refl
    go Opening e = refl
    go Calls e = refl
    go (Refused n) e = ap is_refused e

-- a long one is such a line, with its byte 10 or without
long : (s : List ℕ) → 64 ≤ length s → (is_record (whole s) ≡ false) × (is_record (broken s) ≡ false)
long s h = (le-ltb (length s) 64 h, refl)

pub broken_stopped : (p : Progress) (s : List ℕ) → Stopped (after_line p (broken s))
broken_stopped p s = ap (λ x. is_refused x.run.stage) (same_unformed p (broken s) refl) ∙ unformed_stopped p

pub whole_long : (p : Progress) (s u : List ℕ) → 64 ≤ length s → after_line p (whole s) ≡ after_line p (broken u)
whole_long p s u h = same_unformed p (whole s) (le-ltb (length s) 64 h) ∙ sym (same_unformed p (broken u) refl)

-- what follows the last byte 10 has none
split_last : (x : List ℕ) → split 10 (last_part (split 10 x)) ≡ last_part (split 10 x) ∷ []
unfolding last_part
split_last [] = rw (split_empty 10) (split_empty 10)
split_last (b ∷ x) = rw (split_byte 10 b x) (go (eqb b 10) refl (split_some 10 x) (split_last x))
  where
    longer : (p : List ℕ) (ps : List (List ℕ)) → eqb b 10 ≡ false → split 10 (last_part (p ∷ ps)) ≡ last_part (p ∷ ps) ∷ [] → split 10 (last_part ((b ∷ p) ∷ ps)) ≡ last_part ((b ∷ p) ∷ ps) ∷ []
    longer p [] e f = rw (split_byte 10 b p, e, f)
    longer p (r ∷ rs) e f = f

    go : (t : Bool) → eqb b 10 ≡ t → (p : List ℕ) × (ps : List (List ℕ)) × (split 10 x ≡ p ∷ ps) → split 10 (last_part (split 10 x)) ≡ last_part (split 10 x) ∷ [] → split 10 (last_part (cond t ([] ∷ split 10 x) (in_front b (split 10 x)))) ≡ last_part (cond t ([] ∷ split 10 x) (in_front b (split 10 x))) ∷ []
    go true e (p, ps, d) f = rw d (rw d at f)
    go false e (p, ps, d) f = rw d (longer p ps e (rw d at f))

-- The last part is all that is kept: bytes that come later go on from it.
last_glued : (p : List ℕ) (ps : List (List ℕ)) (q : List ℕ) (qs : List (List ℕ)) → last_part (glued (p ∷ ps) (q ∷ qs)) ≡ last_part (glued (last_part (p ∷ ps) ∷ []) (q ∷ qs))
unfolding last_part
last_glued p [] q qs = refl
last_glued p (r ∷ []) q qs = refl
last_glued p (r ∷ u ∷ us) q qs = last_glued r (u ∷ us) q qs

-- a run over parts goes on from what is kept of them
abbrev kept_parts : Progress → List (List ℕ) → List (List ℕ)
kept_parts p ps = cond (is_refused p.run.stage) [] (last_part ps) ∷ []

parts_last : (p : Progress) (s q : List ℕ) (qs : List (List ℕ)) → after_parts p ((s ++ q) ∷ qs) ≡ after_parts (after_parts p (s ∷ [])) (glued (kept_parts (after_parts p (s ∷ [])) (s ∷ [])) (q ∷ qs))
unfolding after_parts last_part
parts_last p s q qs = go (leb 64 (length s)) refl (is_refused p.run.stage) refl
  where
    cut : (rs : List (List ℕ)) → 64 ≤ length s → after_parts p ((s ++ q) ∷ rs) ≡ after_line p (broken s)
    cut [] h = rw (le-leb 64 (length (s ++ q)) (omega (arith, length-append s q))) (same_unformed p (broken (s ++ q)) refl ∙ sym (same_unformed p (broken s) refl))
    cut (r ∷ rs) h = ap (λ x. after_parts x (r ∷ rs)) (whole_long p (s ++ q) s (omega (arith, length-append s q))) ∙ parts_stopped (after_line p (broken s)) (r ∷ rs) (broken_stopped p s)

    go : (b : Bool) → leb 64 (length s) ≡ b → (c : Bool) → is_refused p.run.stage ≡ c → after_parts p ((s ++ q) ∷ qs) ≡ after_parts (cond b (after_line p (broken s)) p) (glued (kept_parts (cond b (after_line p (broken s)) p) (s ∷ [])) (q ∷ qs))
    go true e c d = cut qs (leb-true 64 (length s) e) ∙ sym (parts_stopped (after_line p (broken s)) (glued (kept_parts (after_line p (broken s)) (s ∷ [])) (q ∷ qs)) (broken_stopped p s))
    go false e true d = parts_stopped p ((s ++ q) ∷ qs) d ∙ sym (parts_stopped p (glued (kept_parts p (s ∷ [])) (q ∷ qs)) d)
    go false e false d = ap (λ c. after_parts p (glued (cond c [] s ∷ []) (q ∷ qs))) (sym d)

parts_glued : (p : Progress) (s : List ℕ) (ss : List (List ℕ)) (q : List ℕ) (qs : List (List ℕ)) → after_parts p (glued (s ∷ ss) (q ∷ qs)) ≡ after_parts (after_parts p (s ∷ ss)) (glued (kept_parts (after_parts p (s ∷ ss)) (s ∷ ss)) (q ∷ qs))
unfolding after_parts last_part
parts_glued p s [] q qs = parts_last p s q qs
parts_glued p s (r ∷ []) q qs = parts_glued (after_line p (whole s)) r [] q qs
parts_glued p s (r ∷ u ∷ us) q qs = parts_glued (after_line p (whole s)) r (u ∷ us) q qs

-- bytes that come later go on from what is kept
kept_split : (p : Progress) (x : List ℕ) → split 10 (kept_of p x) ≡ kept_parts p (split 10 x)
unfolding kept_of
kept_split p x = go (is_refused p.run.stage)
  where
    go : (b : Bool) → split 10 (cond b [] (last_part (split 10 x))) ≡ cond b [] (last_part (split 10 x)) ∷ []
    go true = split_empty 10
    go false = split_last x

bytes_append : (p : Progress) (x y : List ℕ) → after_bytes p (x ++ y) ≡ after_bytes (after_bytes p x) (kept_of (after_bytes p x) x ++ y)
unfolding after_bytes
bytes_append p x y = go (split_some 10 x) (split_some 10 y)
  where
    k : List ℕ
    k = kept_of (after_bytes p x) x

    go : (s : List ℕ) × (ss : List (List ℕ)) × (split 10 x ≡ s ∷ ss) → (q : List ℕ) × (qs : List (List ℕ)) × (split 10 y ≡ q ∷ qs) → after_parts p (split 10 (x ++ y)) ≡ after_parts (after_parts p (split 10 x)) (split 10 (k ++ y))
    go (s, ss, e) (q, qs, d) = rw (split_append 10 x y, split_append 10 k y, kept_split (after_bytes p x) x, e, d) (parts_glued p s ss q qs)

pub bytes_stopped : (p : Progress) (y : List ℕ) → Stopped p → after_bytes p y ≡ p
unfolding after_bytes
bytes_stopped p y e = parts_stopped p (split 10 y) e

pub last_append : (x y : List ℕ) → last_part (split 10 (last_part (split 10 x) ++ y)) ≡ last_part (split 10 (x ++ y))
last_append x y = go (split_some 10 x) (split_some 10 y)
  where
    go : (s : List ℕ) × (ss : List (List ℕ)) × (split 10 x ≡ s ∷ ss) → (q : List ℕ) × (qs : List (List ℕ)) × (split 10 y ≡ q ∷ qs) → last_part (split 10 (last_part (split 10 x) ++ y)) ≡ last_part (split 10 (x ++ y))
    go (s, ss, e) (q, qs, d) = rw (split_append 10 (last_part (split 10 x)) y, split_append 10 x y, split_last x, e, d) (sym (last_glued s ss q qs))

kept_append : (p : Progress) (x y : List ℕ) → kept_of (after_bytes p (x ++ y)) (kept_of (after_bytes p x) x ++ y) ≡ kept_of (after_bytes p (x ++ y)) (x ++ y)
unfolding kept_of
kept_append p x y = go (is_refused (after_bytes p (x ++ y)).run.stage) refl (is_refused (after_bytes p x).run.stage) refl
  where
    go : (b : Bool) → is_refused (after_bytes p (x ++ y)).run.stage ≡ b → (c : Bool) → is_refused (after_bytes p x).run.stage ≡ c → cond b [] (last_part (split 10 (cond c [] (last_part (split 10 x)) ++ y))) ≡ cond b [] (last_part (split 10 (x ++ y)))
    go true e c d = refl
    go false e true d = never (sym e ∙ ap (λ u. is_refused u.run.stage) (bytes_append p x y ∙ bytes_stopped (after_bytes p x) (kept_of (after_bytes p x) x ++ y) d) ∙ d)
    go false e false d = last_append x y

-- all pieces
abbrev pub between : Progress → List ℕ → Between
between p x = record { progress = after_bytes p x; kept = kept_of (after_bytes p x) x }

fed_is : (p : Progress) (x piece : List ℕ) → fed (between p x) piece ≡ between p (x ++ piece)
unfolding fed
fed_is p x piece =
    let e : after_bytes (after_bytes p x) (kept_of (after_bytes p x) x ++ piece) ≡ after_bytes p (x ++ piece) = sym (bytes_append p x piece) in
    rw e (ap (λ k. record { progress = after_bytes p (x ++ piece); kept = k }) (kept_append p x piece))

fed_all_lem : (p : Progress) (x : List ℕ) (pieces : List (List ℕ)) → fed_all (between p x) pieces ≡ between p (x ++ joined pieces)
unfolding fed_all joined
fed_all_lem p x [] = ap (between p) (sym (append-nil x))
fed_all_lem p x (s ∷ ss) = ap (λ b. fed_all b ss) (fed_is p x s) ∙ fed_all_lem p (x ++ s) ss ∙ ap (between p) (append_assoc x s (joined ss))

nothing_yet : (p : Progress) → between p [] ≡ record { progress = p; kept = [] }
unfolding after_bytes kept_of after_parts last_part
nothing_yet p = rw (split_empty 10) (ap (λ k. record { progress = p; kept = k }) (go (is_refused p.run.stage)))
  where
    go : (b : Bool) → cond {A = List ℕ} b [] [] ≡ []
    go true = refl
    go false = refl

pub pieces_joined : (p : Progress) (pieces : List (List ℕ)) → fed_all (record { progress = p; kept = [] }) pieces ≡ between p (joined pieces)
pieces_joined p pieces = ap (λ b. fed_all b pieces) (sym (nothing_yet p)) ∙ fed_all_lem p [] pieces

-- line by line
unfoldable pub after_lines : Progress → List Line → Progress
after_lines p [] = p
after_lines p (l ∷ ls) = after_lines (after_line p l) ls

finished_last : (p : Progress) (b : ℕ) (s : List ℕ) → finished (after_parts p ((b ∷ s) ∷ [])) (cond (is_refused (after_parts p ((b ∷ s) ∷ [])).run.stage) [] (b ∷ s)) ≡ at_end (after_line p (broken (b ∷ s)))
unfolding after_parts finished
finished_last p b s = go (leb 64 (suc (length s))) (is_refused p.run.stage) refl ∙ sym (end_stopped q (broken_stopped p (b ∷ s)))
  where
    q : Progress
    q = after_line p (broken (b ∷ s))

    stopped : is_refused q.run.stage ≡ true
    stopped = broken_stopped p (b ∷ s)

    go : (t c : Bool) → is_refused p.run.stage ≡ c → finished (cond t q p) (cond (is_refused (cond t q p).run.stage) [] (b ∷ s)) ≡ q
    go true c e = rw stopped (end_stopped q (broken_stopped p (b ∷ s)))
    go false true e = rw e (end_stopped p e ∙ sym (line_stopped p (broken (b ∷ s)) e))
    go false false e = rw e

finished_parts : (p : Progress) (s : List ℕ) (ss : List (List ℕ)) → finished (after_parts p (s ∷ ss)) (cond (is_refused (after_parts p (s ∷ ss)).run.stage) [] (last_part (s ∷ ss))) ≡ at_end (after_lines p (ended (s ∷ ss)))
unfolding after_parts finished last_part after_lines
finished_parts p [] [] = go (is_refused p.run.stage)
  where
    go : (b : Bool) → finished p (cond b [] []) ≡ at_end p
    go true = refl
    go false = refl
finished_parts p (b ∷ s) [] = finished_last p b s
finished_parts p s (r ∷ rs) = finished_parts (after_line p (whole s)) r rs

pub finished_lines : (p : Progress) (x : List ℕ) → finished (after_bytes p x) (kept_of (after_bytes p x) x) ≡ at_end (after_lines p (lines x))
unfolding after_bytes kept_of
finished_lines p x = rw (lines_parts x) (go (split_some 10 x))
  where
    go : (s : List ℕ) × (ss : List (List ℕ)) × (split 10 x ≡ s ∷ ss) → finished (after_parts p (split 10 x)) (cond (is_refused (after_parts p (split 10 x)).run.stage) [] (last_part (split 10 x))) ≡ at_end (after_lines p (ended (split 10 x)))
    go (s, ss, e) = rw e (finished_parts p s ss)

-- no piece, one piece, and a piece more
pub fed_nothing : (b : Between) → fed_all b [] ≡ b
unfolding fed_all
fed_nothing b = refl

pub fed_one : (b : Between) (piece : List ℕ) → fed b piece ≡ between b.progress (b.kept ++ piece)
unfolding fed
fed_one b piece = refl

pub fed_more : (b : Between) (pieces : List (List ℕ)) (piece : List ℕ) → fed_all b (pieces ++ (piece ∷ [])) ≡ fed (fed_all b pieces) piece
unfolding fed_all
fed_more b [] piece = refl
fed_more b (s ∷ ss) piece = fed_more (fed b s) ss piece
