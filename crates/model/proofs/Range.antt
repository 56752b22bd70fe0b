-- After every opening in range and list of calls no event is before the first floor, and so no recognition starts before it.
use native.Mathlib.Omega.{arith}
use Prim.Native.Nat.{ℕ, suc}
use mathlib.Core.Path.{◌≡◌, refl, ap}
use mathlib.Core.Logic.{◌⊎◌, inl, inr}
use mathlib.Core.Bool.{Bool, true, false, cond}
use mathlib.Core.List.Memᴰ
use mathlib.Core.List.{List, [], ◌∷◌, ◌++◌, Memᴰ}
use lib.Dec.{T, eqb, leb, ltb}
use lib.IntN.{ℤ}
use lib.ListN.{length}
use lib.Signed.{le_z}
use Rattle.interval.specs.Instants.{is_instant, first_floor, is_mark_refused, is_forget_refused}
use Rattle.interval.proofs.Signed.{◌≤ᶻ◌, eq_fact, →le_z}
use Rattle.interval.proofs.Laws.{floor_least, mark_taken}
use Rattle.model.specs.Lists.{keep}
use Rattle.model.specs.Recognitions.{Event, Operator, Recognition, start_of}
use Rattle.model.specs.Order.{listing}
use Rattle.model.specs.Reference.{Model, model, Answer, refused, opening, Call, event, clock, forget, add, Reading, is_at, event_step, clock_step, forget_step, add_step, step, run}
use Rattle.model.specs.Statements.{IsRecognition, Played, model_of}
use Rattle.model.proofs.Local.{chart_lower}
use Rattle.model.proofs.Listing.{recs_start}
use Rattle.model.proofs.History.{good_run, good_opening}
use Rattle.model.proofs.Meaning.{recognition_listed}

record InRange (m : Model) : Type 0 where
  past : (e : Event) → Memᴰ e m.events → first_floor ≤ᶻ e.instant
  now : first_floor ≤ᶻ m.open_instant

cond_range : (b : Bool) (x y : Answer Model) → InRange x.state → (b ≡ false → InRange y.state) → InRange (cond b x y).state
cond_range true x y p q = p
cond_range false x y p q = q refl

one_more : (m : Model) (k : ℕ) → InRange m → InRange (model m.open_instant m.floor m.chart m.since (m.events ++ record { serial = suc (length m.events); code = k; instant = m.open_instant } ∷ []))
one_more m k r = record { past = λ e i. go e (Memᴰ.append_cases m.events i); now = r.now }
  where
    go : (e : Event) → Memᴰ e m.events ⊎ Memᴰ e (record { serial = suc (length m.events); code = k; instant = m.open_instant } ∷ []) → first_floor ≤ᶻ e.instant
    go e (inl i) = r.past e i
    go e (inr i) = let p = r.now in omega (arith, eq_fact (ap (λ x. x.instant) (Memᴰ.eq_of_singleton i)))

module _ {L : Type 0} (read : ℕ → L → Reading) (capacity : ℕ) where
  step_range : (m : Model) (c : Call L) → InRange m → InRange (step read capacity m c).state
  unfolding event_step clock_step forget_step add_step
  step_range m (event k) r = cond_range (leb 1000000 (length m.events)) (refused 10 m) _ r (λ a. cond_range (leb 64 (length (keep (is_at m.open_instant) m.events))) (refused 9 m) _ r (λ b. one_more m k r))
  step_range m (clock t) r =
      cond_range (is_mark_refused m.open_instant t) (refused 8 m) _ r
      (λ a. cond_range (ltb capacity (length (listing m.chart m.since m.events m.floor t))) (refused 12 m) _ r
      (λ b. record { past = r.past; now = (let p = r.now in omega (arith, (mark_taken m.open_instant t a).later)) }))
  step_range m (forget f) r = cond_range (is_forget_refused m.floor m.open_instant f) (refused 11 m) _ r (λ a. record { past = r.past; now = r.now })
  step_range m (add lines) r = cond_range (eqb (read (length m.chart) lines).number 0) _ _ (record { past = r.past; now = r.now }) (λ a. r)

  run_range : (calls : List (Call L)) (m : Model) → InRange m → InRange (run (step read capacity) m calls)
  unfolding run
  run_range [] m r = r
  run_range (c ∷ cs) m r = run_range cs (step read capacity m c).state (step_range m c r)

opening_range : (chart : List Operator) (o : ℤ) → is_instant o ≡ true → InRange (opening chart o).state
unfolding opening
opening_range chart o e = rw e (record { past = λ x i. absurd (Memᴰ.not-nil i); now = floor_least o e })

-- "the recognitions that the published definition gives": none of them starts before the first floor
pub starts_in_range : (p : Played) → is_instant p.open_at ≡ true → (u : Recognition) → IsRecognition (model_of p).chart (model_of p).events u → T (le_z first_floor (start_of u))
starts_in_range p e u i =
    let r = run_range p.read p.capacity p.calls (opening p.chart p.open_at).state (opening_range p.chart p.open_at e) in
    let g = good_run p.read p.reader p.capacity p.calls (opening p.chart p.open_at).state (good_opening p.capacity p.chart (chart_lower 0 p.chart p.lower) p.open_at) in
    →le_z first_floor (start_of u) (recs_start (model_of p).chart (model_of p).events first_floor r.past u ((recognition_listed (model_of p).chart g.lower (model_of p).events u).0 i))
