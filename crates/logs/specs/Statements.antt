-- What is claimed of two logs in one; proofs/Theorems.antt proves it. No proof stands here.
use Rattle.std.specs.Prelude.{ℕ, ◌≡◌, Bool, true, false, cond, ◌||◌, List, [], ◌∷◌, ◌++◌, leb, ℤ}
use Rattle.interval.specs.Instants.{is_instant, is_mark_refused, eq_z}
use Rattle.log_line.specs.Log.{calls_of}
use Rattle.logs.specs.Logs.{Group, merge, log_refusal, opened_in, log_of, log_text}

-- codes of events
unfoldable pub AreCodes : List ℕ → Type 0
AreCodes [] = Unit {0}
AreCodes (k ∷ ks) = (leb k 255 ≡ true) × AreCodes ks

-- groups whose instants ascend from t, all in range
unfoldable pub Follow : ℤ → List Group → Type 0
Follow t [] = Unit {0}
Follow t (g ∷ gs) = (is_mark_refused t g.instant ≡ false) × AreCodes g.codes × Follow g.instant gs

-- a log: an opening instant in range, and strictly ascending marks
unfoldable pub IsLog : List Group → Type 0
IsLog [] = ⊥
IsLog (g ∷ gs) = (is_instant g.instant ≡ true) × AreCodes g.codes × Follow g.instant gs

-- the codes at an instant, in their order, and whether a log has a group there
unfoldable pub codes_at : ℤ → List Group → List ℕ
codes_at t [] = []
codes_at t (g ∷ gs) = cond (eq_z g.instant t) g.codes [] ++ codes_at t gs

unfoldable pub has_instant : ℤ → List Group → Bool
has_instant t [] = false
has_instant t (g ∷ gs) = eq_z g.instant t || has_instant t gs

-- the events of a log, in its order
pub record Timed : Type 0 where
  pub code : ℕ
  pub instant : ℤ

unfoldable pub timed_at : ℤ → List ℕ → List Timed
timed_at t [] = []
timed_at t (k ∷ ks) = record { code = k; instant = t } ∷ timed_at t ks

unfoldable pub events_in : List Group → List Timed
events_in [] = []
events_in (g ∷ gs) = timed_at g.instant g.codes ++ events_in gs

-- the third list has the elements of the first and of the second, those of each in their order, and no others
pub data Mingled : List Timed → List Timed → List Timed → Type 0 where
  none : Mingled [] [] []
  left : {e : Timed} {xs ys zs : List Timed} → Mingled xs ys zs → Mingled (e ∷ xs) ys (e ∷ zs)
  right : {e : Timed} {xs ys zs : List Timed} → Mingled xs ys zs → Mingled xs (e ∷ ys) (e ∷ zs)

-- Of two logs a and b and their merged log m:
pub record MergesLogs (a b m : List Group) : Type 0 where
  -- "instants ascending"
  pub log : IsLog m
  -- "each event at its own instant, at equal instants the first log's events before the second's, each log's own order preserved"
  pub codes : (t : ℤ) → codes_at t m ≡ codes_at t a ++ codes_at t b
  -- "Every instant after the opening with an event or a mark in either log gets one mark": the instants of both, and no others
  pub instants : (t : ℤ) → has_instant t m ≡ (has_instant t a || has_instant t b)
  -- the events of both, those of each log in its order, and no others
  pub events : Mingled (events_in a) (events_in b) (events_in m)
  -- its text is taken, and reads as itself
  pub taken : (log_refusal (calls_of (log_text m))).number ≡ 0
  pub read : log_of (calls_of (log_text m)) ≡ m

-- two logs that are taken and open together
pub record Together (x y : List ℕ) : Type 0 where
  pub first : (log_refusal (calls_of x)).number ≡ 0
  pub second : (log_refusal (calls_of y)).number ≡ 0
  pub opened : opened_in (calls_of x) ≡ opened_in (calls_of y)

abbrev pub merged_log : List ℕ → List ℕ → List Group
merged_log x y = merge (log_of (calls_of x)) (log_of (calls_of y))

abbrev pub MergeHolds : Type 0
MergeHolds = (x y : List ℕ) → Together x y → MergesLogs (log_of (calls_of x)) (log_of (calls_of y)) (merged_log x y)
