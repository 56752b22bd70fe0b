-- A history: an accepted opening and then any list of events, clock marks, forgets and additions, refused ones included, watch, table and chart handed in
-- as the last call left them: "each call getting it", the chart, "as the last addition left it" (request N13).
use Rattle.std.specs.Prelude.{ℕ, List, ℤ}
use Rattle.chart.specs.declared.Chart.{Chart}
use Rattle.model.specs.Reference as ref
use Rattle.model.specs.Reference.{event, clock, forget, add}
use Rattle.watch.specs.Steps.{Step, opening_step, event_step, clock_step, forget_step, add_step}
use Rattle.state.specs.declared.WatchState.{WatchState}
use Rattle.watch.specs.declared.Addition.{Addition}

-- a call of a history; an addition has the bytes of its lines
abbrev pub Call : Type 0
Call = ref.Call (List ℕ)

-- what a call hands back to the next one
pub record State : Type 0 where
  pub watch : WatchState
  pub table : List ℤ
  pub chart : Chart

-- what a call answered and left: most leave the chart as it was, an addition leaves the table
abbrev pub Called : Type 0
Called = ref.Answer State

abbrev pub stepped : Chart → Step → Called
stepped chart x = record { number = x.answer.refusal; state = record { watch = x.answer.watch.state; table = x.table; chart = chart } }

abbrev pub added : List ℤ → Addition → Called
added t x = record { number = x.refusal; state = record { watch = x.watch.state; table = t; chart = x.chart } }

-- one call
unfoldable pub call : State → Call → Called
call s (event k) = stepped s.chart (event_step s.chart s.watch s.table k)
call s (clock x) = stepped s.chart (clock_step s.chart s.watch s.table x)
call s (forget f) = stepped s.chart (forget_step s.chart s.watch s.table f)
call s (add lines) = added s.table (add_step s.chart s.watch s.table lines)

-- all of them, one after another: the last state, and the number of each answer
abbrev pub after : State → List Call → State
after s calls = ref.run call s calls

abbrev pub answers : State → List Call → List ℕ
answers s calls = ref.numbers_of call s calls

-- after the opening
abbrev pub opened : Chart → List ℤ → ℤ → State
opened chart t o = (stepped chart (opening_step chart t o)).state
