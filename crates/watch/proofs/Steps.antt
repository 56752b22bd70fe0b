-- Laws of the calls on a watch and of histories that other crates go by.
use Prim.Native.Nat.{ℕ, ◌*◌}
use native.Mathlib.Omega.{arith}
use mathlib.Core.Path.{◌≡◌, refl}
use mathlib.Core.Bool.{Bool, true, false, cond}
use mathlib.Core.List.{List}
use lib.IntN.{ℤ, pos}
use lib.ListN.{length}
use Rattle.interval.specs.Instants.{is_instant}
use Rattle.chart.specs.Charts.{is_usable}
use Rattle.chart.specs.declared.Chart.{Chart}
use Rattle.model.specs.Reference.{event, clock, forget}
use Rattle.model.proofs.Capacity.{capacity_fits}
use Rattle.table.specs.Table.{zeroed, room_in}
use Rattle.table.proofs.Laws.{length_zeroed}
use Rattle.state.specs.State.{empty_state, open_state}
use Rattle.watch.specs.Steps.{refused_step, taken_step, opening_step, check_number, event_own, event_step, clock_own, clock_step, forget_own, forget_step}
use Rattle.watch.specs.Histories.{State, stepped, call}
use Rattle.state.specs.declared.WatchState.{WatchState}
use Rattle.watch.proofs.Calls.{check_passed}

module _ (s : State) where
  -- which step a call is
  pub event_call : (k : ℕ) → call s (event k) ≡ stepped s.chart (event_step s.chart s.watch s.table k)
  unfolding call
  event_call k = refl

  pub clock_call : (x : ℤ) → call s (clock x) ≡ stepped s.chart (clock_step s.chart s.watch s.table x)
  unfolding call
  clock_call x = refl

  pub forget_call : (f : ℤ) → call s (forget f) ≡ stepped s.chart (forget_step s.chart s.watch s.table f)
  unfolding call
  forget_call f = refl

-- the calls on a consistent watch and table
module _ (chart : Chart) (w : WatchState) (t : List ℤ) (z : check_number chart w t ≡ 0) where
  pub event_passed : (k : ℕ) → event_step chart w t k ≡ record { answer = event_own w k; table = t }
  unfolding event_step
  event_passed k = check_passed chart w t (record { answer = event_own w k; table = t }) z

  pub clock_passed : (x : ℤ) → clock_step chart w t x ≡ clock_own chart w t x
  unfolding clock_step
  clock_passed x = check_passed chart w t (clock_own chart w t x) z

  pub forget_passed : (f : ℤ) → forget_step chart w t f ≡ forget_own chart w t f
  unfolding forget_step
  forget_passed f = check_passed chart w t (forget_own chart w t f) z

-- an opening keeps the length of the table
pub opening_length : (chart : Chart) (t : List ℤ) (o : ℤ) → length (opening_step chart t o).table ≡ length t
unfolding opening_step
opening_length chart t o = go (is_usable chart) (is_instant o)
  where
    go : (a b : Bool) → length (cond a (cond b (taken_step (open_state chart.count o) (zeroed 0 (room_in t * 5) t)) (refused_step 8 (empty_state (pos 0)) t)) (refused_step 14 (empty_state (pos 0)) t)).table ≡ length t
    go true true = length_zeroed 0 (room_in t * 5) t (omega arith) (omega (arith, capacity_fits (length t)))
    go true false = refl
    go false b = refl
