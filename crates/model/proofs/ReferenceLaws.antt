-- Laws of the reference model's steps and of lists of calls that other crates go by.
use Prim.Native.Nat.{ℕ, suc, ◌≤◌}
use native.Mathlib.Omega.{arith}
use mathlib.Core.Path.{◌≡◌, refl, ap}
use mathlib.Core.Bool.{Bool, true, false, cond}
use mathlib.Core.List.{List, [], ◌∷◌, ◌++◌}
use lib.Dec.{ltb, leb}
use lib.IntN.{ℤ, pos}
use lib.ListN.{length, replicate}
use Rattle.interval.specs.Instants.{is_instant, first_floor, is_mark_refused, is_forget_refused}
use Rattle.model.specs.Lists.{keep}
use Rattle.model.specs.Order.{listing}
use Rattle.model.specs.Recognitions.{Operator}
use Rattle.model.specs.Reference.{Model, model, Answer, accepted, refused, opening, Call, is_at, event_step, clock_step, forget_step, run, numbers_of}

-- no call, one call and the others, and one call more at the end
module _ {S L : Type 0} (step : S → Call L → Answer S) where
  pub run_none : (s : S) → run step s [] ≡ s
  unfolding run
  run_none s = refl

  pub run_on : (s : S) (c : Call L) (cs : List (Call L)) → run step s (c ∷ cs) ≡ run step (step s c).state cs
  unfolding run
  run_on s c cs = refl

  pub run_more : (s : S) (cs : List (Call L)) (c : Call L) → run step s (cs ++ c ∷ []) ≡ (step (run step s cs) c).state
  unfolding run
  run_more s [] c = refl
  run_more s (d ∷ cs) c = run_more (step s d).state cs c

  pub numbers_none : (s : S) → numbers_of step s [] ≡ []
  unfolding numbers_of
  numbers_none s = refl

  pub numbers_on : (s : S) (c : Call L) (cs : List (Call L)) → numbers_of step s (c ∷ cs) ≡ (step s c).number ∷ numbers_of step (step s c).state cs
  unfolding numbers_of
  numbers_on s c cs = refl

  pub numbers_more : (s : S) (cs : List (Call L)) (c : Call L) → numbers_of step s (cs ++ c ∷ []) ≡ numbers_of step s cs ++ (step (run step s cs) c).number ∷ []
  unfolding numbers_of run
  numbers_more s [] c = refl
  numbers_more s (d ∷ cs) c = ap (◌∷◌ (step s d).number) (numbers_more (step s d).state cs c)

module _ (chart : List Operator) (o : ℤ) where
  pub opening_accepted : is_instant o ≡ true → opening chart o ≡ accepted (model o first_floor chart (replicate (length chart) first_floor) [])
  unfolding opening
  opening_accepted e = rw e

  pub opening_refused : is_instant o ≡ false → opening chart o ≡ refused 8 (model (pos 0) first_floor [] [] [])
  unfolding opening
  opening_refused e = rw e

-- the numbers that the reference model answers are at most 12, but for an addition, whose number is the reader's
either : (b : Bool) (x y : Answer Model) → x.number ≤ 12 → y.number ≤ 12 → (cond b x y).number ≤ 12
either true x y p q = p
either false x y p q = q

pub opening_number : (chart : List Operator) (o : ℤ) → (opening chart o).number ≤ 12
unfolding opening
opening_number chart o = either (is_instant o) (accepted (model o first_floor chart (replicate (length chart) first_floor) [])) (refused 8 (model (pos 0) first_floor [] [] [])) (omega arith) (omega arith)

pub event_number : (m : Model) (k : ℕ) → (event_step m k).number ≤ 12
unfolding event_step
event_number m k =
    let full = leb 64 (length (keep (is_at m.open_instant) m.events)) in
    let taken = accepted (model m.open_instant m.floor m.chart m.since (m.events ++ record { serial = suc (length m.events); code = k; instant = m.open_instant } ∷ [])) in
    either (leb 1000000 (length m.events)) (refused 10 m) (cond full (refused 9 m) taken) (omega arith) (either full (refused 9 m) taken (omega arith) (omega arith))

pub clock_number : (room : ℕ) (m : Model) (x : ℤ) → (clock_step room m x).number ≤ 12
unfolding clock_step
clock_number room m x =
    let full = ltb room (length (listing m.chart m.since m.events m.floor x)) in
    let taken = accepted (model x m.floor m.chart m.since m.events) in
    either (is_mark_refused m.open_instant x) (refused 8 m) (cond full (refused 12 m) taken) (omega arith) (either full (refused 12 m) taken (omega arith) (omega arith))

pub forget_number : (m : Model) (f : ℤ) → (forget_step m f).number ≤ 12
unfolding forget_step
forget_number m f = either (is_forget_refused m.floor m.open_instant f) (refused 11 m) (accepted (model m.open_instant f m.chart m.since m.events)) (omega arith) (omega arith)
