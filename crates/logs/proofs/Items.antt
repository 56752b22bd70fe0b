-- Codes and marks of a log that is taken: they ascend, and are its groups.
use Prim.Native.Nat.{ℕ, suc}
use native.Mathlib.Omega.{arith}
use mathlib.Core.Path.{◌≡◌, refl}
use mathlib.Core.Bool.{Bool, true, false, cond}
use mathlib.Core.List.{List, [], ◌∷◌, map}
use lib.Dec.{eqb, leb}
use lib.IntN.{ℤ}
use Rattle.std.specs.Prelude.{Option, Some, None}
use Rattle.interval.specs.Instants.{is_instant, is_mark_refused}
use Rattle.text.specs.Text.{Line, lines}
use Rattle.log_line.specs.Log.{call_in, calls_of}
use Rattle.log_line.specs.declared.Call.{Call}
use Rattle.log_line.specs.declared.Call.TheVariants as log
use Rattle.log_line.proofs.ReadBack.{CodeFits, call_fits}
use Rattle.logs.specs.Logs.{Item, code, mark, items_of, opening_refusal, opened_by, opened_in, line_refusal, instant_after, lines_refusal, log_refusal, refusal, codes_first, groups_after, groups_from, log_of}
use Rattle.logs.specs.Statements.{AreCodes, Follow, IsLog}

-- codes, and marks that ascend from t
unfoldable pub Rising : ℤ → List Item → Type 0
Rising t [] = Unit {0}
Rising t (code k ∷ is) = (leb k 255 ≡ true) × Rising t is
Rising t (mark u ∷ is) = (is_mark_refused t u ≡ false) × Rising u is

-- codes alone
unfoldable pub Coded : List Item → Type 0
Coded [] = Unit {0}
Coded (code k ∷ is) = (leb k 255 ≡ true) × Coded is
Coded (mark u ∷ is) = Coded is

pub rising_coded : (t : ℤ) (is : List Item) → Rising t is → Coded is
unfolding Rising Coded
rising_coded t [] f = tt
rising_coded t (code k ∷ is) f = (f.0, rising_coded t is f.1)
rising_coded t (mark u ∷ is) f = rising_coded u is f.1

-- the groups of ascending items ascend
first_codes : (t : ℤ) (is : List Item) → Rising t is → AreCodes (codes_first is)
unfolding Rising codes_first AreCodes
first_codes t [] f = tt
first_codes t (code k ∷ is) f = (f.0, first_codes t is f.1)
first_codes t (mark u ∷ is) f = tt

after_follow : (t : ℤ) (is : List Item) → Rising t is → Follow t (groups_after is)
unfolding Rising groups_after Follow
after_follow t [] f = tt
after_follow t (code k ∷ is) f = after_follow t is f.1
after_follow t (mark u ∷ is) f = (f.0, first_codes u is f.1, after_follow u is f.1)

pub from_log : (o : ℤ) (is : List Item) → is_instant o ≡ true → Rising o is → IsLog (groups_from o is)
unfolding IsLog
from_log o is e f = (e, first_codes o is f, after_follow o is f)

-- every code that was read is one
items_coded : (ls : List Line) → Coded (items_of (map call_in ls))
unfolding Coded items_of CodeFits
items_coded [] = tt
items_coded (l ∷ ls) = go (call_in l) refl (items_coded ls)
  where
    go : (c : Option Call) → call_in l ≡ c → Coded (items_of (map call_in ls)) → Coded (items_of (c ∷ map call_in ls))
    go (Some (log.Open o)) e f = f
    go (Some (log.Event k)) e f = (call_fits l (log.Event k) e, f)
    go (Some (log.Clock t)) e f = f
    go None e f = tt
    go (Some (log.Forget t)) e f = tt

pub bytes_coded : (s : List ℕ) → Coded (items_of (calls_of s))
bytes_coded s = items_coded (lines s)

-- the items behind the opening of a log that is taken ascend
lines_rising : (t : ℤ) (n : ℕ) (ls : List Line) → (lines_refusal t n (map call_in ls)).number ≡ 0 → Rising t (items_of (map call_in ls))
unfolding Rising items_of lines_refusal line_refusal instant_after CodeFits
lines_rising t n [] z = tt
lines_rising t n (l ∷ ls) z = go (call_in l) refl z (λ u y. lines_rising u (suc n) ls y)
  where
    go : (c : Option Call) → call_in l ≡ c → (cond (eqb (line_refusal t c) 0) (lines_refusal (instant_after t c) (suc n) (map call_in ls)) (refusal (line_refusal t c) n)).number ≡ 0 → ((u : ℤ) → (lines_refusal u (suc n) (map call_in ls)).number ≡ 0 → Rising u (items_of (map call_in ls))) → Rising t (items_of (c ∷ map call_in ls))
    go (Some (log.Open o)) e y f = absurd (omega arith)
    go (Some (log.Event k)) e y f = (call_fits l (log.Event k) e, f t y)
    go (Some (log.Clock u)) e y f = next (is_mark_refused t u) refl y
      where
        next : (b : Bool) → is_mark_refused t u ≡ b → (cond (eqb (cond b 8 0) 0) (lines_refusal u (suc n) (map call_in ls)) (refusal (cond b 8 0) n)).number ≡ 0 → (is_mark_refused t u ≡ false) × Rising u (items_of (map call_in ls))
        next false d x = (d, f u x)
        next true d x = absurd (omega arith)
    go None e y f = absurd (omega arith)
    go (Some (log.Forget x)) e y f = absurd (omega arith)

-- what holds of a log that is taken
pub record Taken (x : List ℕ) : Type 0 where
  pub range : is_instant (opened_in (calls_of x)) ≡ true
  pub rising : Rising (opened_in (calls_of x)) (items_of (calls_of x))

pub taken_log : (x : List ℕ) → (log_refusal (calls_of x)).number ≡ 0 → Taken x
unfolding log_refusal opening_refusal opened_by opened_in items_of
taken_log x z = let k = go (lines x) z in record { range = k.0; rising = k.1 }
  where
    opened : (o : ℤ) (ls : List Line) (b : Bool) → is_instant o ≡ b → (cond (eqb (cond b 0 8) 0) (lines_refusal o 2 (map call_in ls)) (refusal (cond b 0 8) 1)).number ≡ 0 → (is_instant o ≡ true) × Rising o (items_of (map call_in ls))
    opened o ls true e y = (e, lines_rising o 2 ls y)
    opened o ls false e y = absurd (omega arith)

    first : (c : Option Call) (ls : List Line) → (log_refusal (c ∷ map call_in ls)).number ≡ 0 → (is_instant (opened_by c) ≡ true) × Rising (opened_by c) (items_of (c ∷ map call_in ls))
    first (Some (log.Open o)) ls y = opened o ls (is_instant o) refl y
    first None ls y = absurd (omega arith)
    first (Some (log.Event k)) ls y = absurd (omega arith)
    first (Some (log.Clock t)) ls y = absurd (omega arith)
    first (Some (log.Forget f)) ls y = absurd (omega arith)

    go : (ls : List Line) → (log_refusal (map call_in ls)).number ≡ 0 → (is_instant (opened_in (map call_in ls)) ≡ true) × Rising (opened_in (map call_in ls)) (items_of (map call_in ls))
    go [] y = absurd (omega arith)
    go (l ∷ ls) y = first (call_in l) ls y

pub taken_is_log : (x : List ℕ) → Taken x → IsLog (log_of (calls_of x))
unfolding log_of
taken_is_log x t = from_log (opened_in (calls_of x)) (items_of (calls_of x)) t.range t.rising
