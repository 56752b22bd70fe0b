-- A log that comes in pieces is checked as a whole.
use Prim.Native.Nat.{ℕ, zero, suc, ◌+◌, ◌-◌, ◌≤◌, ◌<◌}
use native.Mathlib.Omega.{arith}
use mathlib.Core.Path.{◌≡◌, refl, sym, ap, ◌∙◌, subst}
use mathlib.Core.Bool.{Bool, true, false, cond}
use mathlib.Core.List.{List, [], ◌∷◌, ◌++◌, append_assoc, append-nil, map}
use borrow.Author.Tests.{ne_eqb, leb-true, leb-false}
use lib.Dec.{eqb, leb}
use lib.IntN.{ℤ}
use lib.ListN.{length, take, drop, length-drop}
use lib.Seq.{drop-drop, drop-length}
use Rattle.std.specs.Prelude.{Option, Some, None, Ok, Err, is_ok}
use Rattle.interval.specs.Instants.{is_instant, is_mark_refused}
use Rattle.refusal.specs.Numbers.{number_of}
use Rattle.text.specs.Text.{index_of, line_size, joined}
use Rattle.text.proofs.Laws.{size_le, lines_none, first_part}
use Rattle.log_line.specs.Log.{call_of, call_in, calls_of}
use Rattle.log_line.specs.declared.Call.{Call}
use Rattle.log_line.specs.declared.Call.TheVariants as log
use Rattle.logs.specs.Logs.{refusal, opening_refusal, line_refusal, instant_after, lines_refusal, opened_by, opened_in, log_refusal}
use Rattle.checking.specs.Checks.{State, check_of, start_check, call_checked, check_call, check_calls, ended_at, end_check, fed_to, fed_rest, fed_from, fed_check, finished_check, fed_all, verdict_of, opened_of}
use Rattle.checking.specs.Statements.{ChecksHold}
use Rattle.checking.specs.declared.Refused.{Refused}
use Rattle.checking.specs.declared.Check.{Check}
use Rattle.checking.specs.declared.Fed.{Fed}
use Rattle.log_line.proofs.ReadBack.{calls_first, calls_long, calls_last}
use Rattle.checking.proofs.Checking.{fed_line, fed_none}

-- a log that was refused stays as it is
abbrev pub Stopped : State → Type 0
Stopped (Ok i) = ⊥
Stopped (Err r) = Unit {0}

stopped_call : (c : Check) (d : Option Call) → Stopped c.state → check_call c d ≡ c
stopped_call c d h = go c.state h
  where
    go : (s : State) → Stopped s → call_checked c.line s d ≡ check_of c.line s
    go (Ok i) h = absurd h
    go (Err r) h = refl

stopped_calls : (c : Check) (ds : List (Option Call)) → Stopped c.state → check_calls c ds ≡ c
unfolding check_calls
stopped_calls c [] h = refl
stopped_calls c (d ∷ ds) h = ap (λ x. check_calls x ds) (stopped_call c d h) ∙ stopped_calls c ds h

one_call : (c : Check) (d : Option Call) (ds : List (Option Call)) → check_calls c (d ∷ ds) ≡ check_calls (check_call c d) ds
unfolding check_calls
one_call c d ds = refl

stopped_end : (c : Check) → Stopped c.state → end_check c ≡ c
stopped_end c h = go c.state h
  where
    go : (s : State) → Stopped s → ended_at c.line s ≡ check_of c.line s
    go (Ok i) h = absurd h
    go (Err r) h = refl

malformed_stopped : (c : Check) → Stopped (check_call c None).state
malformed_stopped c = go c.state
  where
    go : (s : State) → Stopped (call_checked c.line s None).state
    go (Ok None) = tt
    go (Ok (Some i)) = tt
    go (Err r) = tt

-- a malformed line in front decides
malformed_first : (c : Check) (s : List ℕ) (behind : List (Option Call)) → calls_of s ≡ None ∷ behind → check_calls c (calls_of s) ≡ check_call c None
unfolding check_calls
malformed_first c s behind e = ap (check_calls c) e ∙ stopped_calls (check_call c None) behind (malformed_stopped c)

-- What `feed` leaves: the same to check, whatever comes later; no whole line, and few bytes.
pub record FedWell (c : Check) (used : ℕ) (s : List ℕ) (r : Fed) : Type 0 where
  pub calls : (later : List ℕ) → check_calls c (calls_of (drop used s ++ later)) ≡ check_calls r.check (calls_of (drop r.used s ++ later))
  pub none : line_size (drop r.used s) ≡ None
  pub short : length (drop r.used s) < 64
  pub inside : r.used ≤ length s

pub size_nil : line_size [] ≡ None
unfolding line_size index_of
size_nil = refl

rest_well : (c : Check) (used : ℕ) (s : List ℕ) → used ≤ length s → line_size (drop used s) ≡ None → FedWell c used s (fed_rest c used (drop used s))
unfolding fed_rest
rest_well c used s h z = go (leb 64 (length u)) refl
  where
    u : List ℕ
    u = drop used s

    size : length u ≡ length s - used
    size = length-drop used s

    all : used + length u ≡ length s
    all = omega (arith, size)

    gone : drop (used + length u) s ≡ []
    gone = ap (λ n. drop n s) all ∙ drop-length s

    go : (b : Bool) → leb 64 (length u) ≡ b → FedWell c used s (cond b (fed_to (check_call c None) (used + length u)) (fed_to c used))
    go true e = record {
      calls = λ later. let k = calls_long u later z (leb-true 64 (length u) e) in malformed_first c (u ++ later) k.behind k.calls ∙ sym (stopped_calls (check_call c None) (calls_of (drop (used + length u) s ++ later)) (malformed_stopped c));
      none = ap line_size gone ∙ size_nil;
      short = let n = ap length gone in omega (arith, n);
      inside = omega (arith, all);
    }
    go false e = record { calls = λ later. refl; none = z; short = leb-false 64 (length u) e; inside = h }

none_well : (m : ℕ) (c : Check) (used : ℕ) (s : List ℕ) → used ≤ length s → line_size (drop used s) ≡ None → FedWell c used s (fed_from (suc m) c used (drop used s))
none_well m c used s h z = subst (FedWell c used s) (sym (fed_none m c used (drop used s) z)) (rest_well c used s h z)

from_well : (m : ℕ) (c : Check) (used : ℕ) (s : List ℕ) → used ≤ length s → length s ≤ used + m → FedWell c used s (fed_from (suc m) c used (drop used s))
from_well zero c used s h g = at_end (line_size (drop used s)) refl
  where
    at_end : (o : Option ℕ) → line_size (drop used s) ≡ o → FedWell c used s (fed_from 1 c used (drop used s))
    at_end None z = none_well zero c used s h z
    at_end (Some n) e = absurd (omega (arith, (first_part (drop used s) n e).some, size_le (drop used s) n e, length-drop used s))
from_well (suc m) c used s h g = go (line_size (drop used s)) refl (λ x n a b. from_well m x n s a b)
  where
    u : List ℕ
    u = drop used s

    go : (o : Option ℕ) → line_size u ≡ o → ((x : Check) (n : ℕ) → n ≤ length s → length s ≤ n + m → FedWell x n s (fed_from (suc m) x n (drop n s))) → FedWell c used s (fed_from (suc (suc m)) c used u)
    go None z f = none_well (suc m) c used s h z
    go (Some n) e f =
        let d = call_of (take (n - 1) u) in
        let behind : drop n u ≡ drop (used + n) s = drop-drop n used s in
        let k = f (check_call c d) (used + n) (omega (arith, size_le u n e, length-drop used s)) (omega (arith, (first_part u n e).some)) in
        let r : fed_from (suc (suc m)) c used u ≡ fed_from (suc m) (check_call c d) (used + n) (drop (used + n) s) = fed_line (suc m) c used u n e ∙ ap (fed_from (suc m) (check_call c d) (used + n)) behind in
        subst (FedWell c used s) (sym r) (record {
          calls = λ later. ap (check_calls c) (calls_first u later n e) ∙ one_call c d (calls_of (drop n u ++ later)) ∙ ap (λ x. check_calls (check_call c d) (calls_of (x ++ later))) behind ∙ k.calls later;
          none = k.none;
          short = k.short;
          inside = k.inside;
        })

pub fed_well : (c : Check) (s : List ℕ) → FedWell c 0 s (fed_check c s)
unfolding fed_check
fed_well c s = from_well (length s) c 0 s (omega arith) (omega arith)

-- the end of the log
pub end_well : (c : Check) (kept : List ℕ) → line_size kept ≡ None → finished_check c (length kept) ≡ end_check (check_calls c (calls_of kept))
unfolding check_calls
end_well c [] z = sym (ap (λ x. end_check (check_calls c (map call_in x))) lines_none)
end_well c (b ∷ s) z =
    let k = calls_last (b ∷ s) z (omega arith) in
    let e = malformed_first c (b ∷ s) k.behind k.calls in
    rw (ne_eqb (suc (length s)) 0 (λ q. omega arith)) (sym (ap end_check e ∙ stopped_end (check_call c None) (malformed_stopped c)))

-- all pieces
pub pieces_well : (c : Check) (kept : List ℕ) (pieces : List (List ℕ)) → line_size kept ≡ None → fed_all c kept pieces ≡ end_check (check_calls c (calls_of (kept ++ joined pieces)))
unfolding fed_all joined
pieces_well c kept [] z = end_well c kept z ∙ ap (λ x. end_check (check_calls c (calls_of x))) (sym (append-nil kept))
pieces_well c kept (p ∷ ps) z =
    let s = kept ++ p in
    let w = fed_well c s in
    pieces_well (fed_check c s).check (drop (fed_check c s).used s) ps w.none ∙ ap end_check (sym (w.calls (joined ps))) ∙ ap (λ x. end_check (check_calls c (calls_of x))) (append_assoc kept p (joined ps))

-- The lines checked one by one are refused as the definition says.
abbrev going : ℕ → ℤ → ℤ → Check
going line o t = check_of line (Ok (Some (record { opened = o; reached = t })))

stopped_verdict : (line : ℕ) (r : Refused) (ds : List (Option Call)) → verdict_of (end_check (check_calls (check_of line (Err r)) ds)) ≡ refusal (number_of r.refusal) line
stopped_verdict line r ds = ap (λ c. verdict_of (end_check c)) (stopped_calls (check_of line (Err r)) ds tt)

lines_verdict : (line : ℕ) (o t : ℤ) (ds : List (Option Call)) → verdict_of (end_check (check_calls (going line o t) ds)) ≡ lines_refusal t (line + 1) ds
unfolding check_calls lines_refusal line_refusal instant_after
lines_verdict line o t [] = refl
lines_verdict line o t (d ∷ ds) = go d (λ u. lines_verdict (line + 1) o u ds)
  where
    next : suc (line + 1) ≡ line + 1 + 1
    next = omega arith

    go : (d : Option Call) → ((u : ℤ) → verdict_of (end_check (check_calls (going (line + 1) o u) ds)) ≡ lines_refusal u (line + 1 + 1) ds) → verdict_of (end_check (check_calls (check_call (going line o t) d) ds)) ≡ cond (eqb (line_refusal t d) 0) (lines_refusal (instant_after t d) (suc (line + 1)) ds) (refusal (line_refusal t d) (line + 1))
    go (Some (log.Open x)) f = stopped_verdict (line + 1) _ ds
    go None f = stopped_verdict (line + 1) _ ds
    go (Some (log.Event k)) f = f t ∙ ap (λ n. lines_refusal t n ds) (sym next)
    go (Some (log.Forget x)) f = stopped_verdict (line + 1) _ ds
    go (Some (log.Clock u)) f = marked (is_mark_refused t u) refl
      where
        marked : (b : Bool) → is_mark_refused t u ≡ b → verdict_of (end_check (check_calls (check_call (going line o t) (Some (log.Clock u))) ds)) ≡ cond (eqb (cond b 8 0) 0) (lines_refusal u (suc (line + 1)) ds) (refusal (cond b 8 0) (line + 1))
        marked false e = rw e (f u ∙ ap (λ n. lines_refusal u n ds) (sym next))
        marked true e = rw e (stopped_verdict (line + 1) _ ds)

log_verdict : (ds : List (Option Call)) → verdict_of (end_check (check_calls start_check ds)) ≡ log_refusal ds
unfolding check_calls log_refusal opening_refusal opened_by
log_verdict [] = refl
log_verdict (Some (log.Open o) ∷ ds) = opened (is_instant o) refl
  where
    opened : (b : Bool) → is_instant o ≡ b → verdict_of (end_check (check_calls (check_call start_check (Some (log.Open o))) ds)) ≡ cond (eqb (cond b 0 8) 0) (lines_refusal o 2 ds) (refusal (cond b 0 8) 1)
    opened true e = rw e (lines_verdict 1 o o ds)
    opened false e = rw e (stopped_verdict 1 _ ds)
log_verdict (None ∷ ds) = stopped_verdict 1 _ ds
log_verdict (Some (log.Event k) ∷ ds) = stopped_verdict 1 _ ds
log_verdict (Some (log.Clock t) ∷ ds) = stopped_verdict 1 _ ds
log_verdict (Some (log.Forget f) ∷ ds) = stopped_verdict 1 _ ds

-- the opening instant stays
abbrev Stays : ℤ → State → Type 0
Stays o (Ok None) = ⊥
Stays o (Ok (Some i)) = i.opened ≡ o
Stays o (Err r) = Unit {0}

call_stays : (c : Check) (d : Option Call) (o : ℤ) → Stays o c.state → Stays o (check_call c d).state
call_stays c d o h = go c.state d h
  where
    go : (s : State) (d : Option Call) → Stays o s → Stays o (call_checked c.line s d).state
    go (Ok None) d h = absurd h
    go (Err r) d h = tt
    go (Ok (Some i)) None h = tt
    go (Ok (Some i)) (Some (log.Open x)) h = tt
    go (Ok (Some i)) (Some (log.Event k)) h = h
    go (Ok (Some i)) (Some (log.Forget f)) h = tt
    go (Ok (Some i)) (Some (log.Clock t)) h = marked (is_mark_refused i.reached t) refl
      where
        marked : (b : Bool) → is_mark_refused i.reached t ≡ b → Stays o (call_checked c.line (Ok (Some i)) (Some (log.Clock t))).state
        marked true e = rw e tt
        marked false e = rw e h

calls_stay : (c : Check) (ds : List (Option Call)) (o : ℤ) → Stays o c.state → Stays o (check_calls c ds).state
unfolding check_calls
calls_stay c [] o h = h
calls_stay c (d ∷ ds) o h = calls_stay (check_call c d) ds o (call_stays c d o h)

stays_opened : (c : Check) (o : ℤ) → Stays o c.state → is_ok (end_check c).state ≡ true → opened_of (end_check c).state ≡ Some o
stays_opened c o h = go c.state h
  where
    go : (s : State) → Stays o s → is_ok (ended_at c.line s).state ≡ true → opened_of (ended_at c.line s).state ≡ Some o
    go (Ok None) h z = absurd h
    go (Ok (Some i)) h z = ap Some h
    go (Err r) h z = cc

stopped_opened : {P : Type 0} (line : ℕ) (r : Refused) (ds : List (Option Call)) → is_ok (end_check (check_calls (check_of line (Err r)) ds)).state ≡ true → P
stopped_opened line r ds z = let e = ap (λ c. is_ok (end_check c).state) (stopped_calls (check_of line (Err r)) ds tt) in cc

log_opened : (ds : List (Option Call)) → is_ok (end_check (check_calls start_check ds)).state ≡ true → opened_of (end_check (check_calls start_check ds)).state ≡ Some (opened_in ds)
unfolding check_calls opened_by opened_in
log_opened [] z = cc
log_opened (Some (log.Open o) ∷ ds) z = opened (is_instant o) refl z
  where
    opened : (b : Bool) → is_instant o ≡ b → is_ok (end_check (check_calls (check_call start_check (Some (log.Open o))) ds)).state ≡ true → opened_of (end_check (check_calls (check_call start_check (Some (log.Open o))) ds)).state ≡ Some o
    opened true e = rw e (stays_opened (check_calls (going 1 o o) ds) o (calls_stay (going 1 o o) ds o refl))
    opened false e = rw e (stopped_opened 1 _ ds)
log_opened (None ∷ ds) z = stopped_opened 1 _ ds z
log_opened (Some (log.Event k) ∷ ds) z = stopped_opened 1 _ ds z
log_opened (Some (log.Clock t) ∷ ds) z = stopped_opened 1 _ ds z
log_opened (Some (log.Forget f) ∷ ds) z = stopped_opened 1 _ ds z

pub checks_hold : ChecksHold
checks_hold pieces =
    let e = pieces_well start_check [] pieces size_nil in
    record {
      verdict = ap verdict_of e ∙ log_verdict (calls_of (joined pieces));
      opened = λ z. ap (λ x. opened_of x.state) e ∙ log_opened (calls_of (joined pieces)) (ap (λ x. is_ok x.state) (sym e) ∙ z);
    }

-- a log that was refused stays so, whatever pieces come
pub stopped_all : (c : Check) (kept : List ℕ) (pieces : List (List ℕ)) → line_size kept ≡ None → Stopped c.state → fed_all c kept pieces ≡ c
stopped_all c kept pieces z h = pieces_well c kept pieces z ∙ ap end_check (stopped_calls c (calls_of (kept ++ joined pieces)) h) ∙ stopped_end c h
