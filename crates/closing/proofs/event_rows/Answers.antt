-- `event_rows` meets its contract: what the events left append is what all were to append.
use Prim.Native.Nat.{◌+◌}
use native.Mathlib.Nat.{sub-zero}
use native.Mathlib.Omega.{arith}
use mathlib.Core.Path.{◌≡◌, sym, ◌∙◌}
use mathlib.Core.List.{[], ◌∷◌}
use lib.IntN.{nat_abs}
use lib.ListN.{get_or}
use Rattle.closing.specs.Added.{serial_row, event_row, event_rows}
use Rattle.closing.proofs.Filling.{begin, turn, stop, skip, over, appendable}
use Rattle.closing.proofs.event_rows.Goals.{Else-has_code, Then-has_code}
use Rattle.closing.proofs.event_rows.Goals as goal

-- an event of the code, and one of another
taken : (c : Then-has_code) → let g = c.args in serial_row (nat_abs g.f.entry) g.f.instant (g.p.first + c.loop-j.j) ∷ [] ≡ event_row (nat_abs g.f.entry) g.k g.f.instant (get_or g.codes.now c.loop-j.j 0) (g.p.first + c.loop-j.j)
unfolding event_row
taken c = simp (sym c.has_code.ensures ∙ c.if-has_code.true)

other : (c : Else-has_code) → let g = c.args in event_row (nat_abs g.f.entry) g.k g.f.instant (get_or g.codes.now c.loop-j.j 0) (g.p.first + c.loop-j.j) ≡ []
unfolding event_row
other c = simp (sym c.has_code.ensures ∙ c.if-has_code.false)

pub loop-j-init : goal.loop-j-init
unfolding event_rows
loop-j-init c = (omega arith, rw sub-zero (begin _ _ _ _ _ c.requires.0.fit))

pub bounds-codes-at : goal.bounds-codes-at
bounds-codes-at c = omega (arith, c.requires.1.few)

pub has_code-requires : goal.has_code-requires
has_code-requires c = tt

pub overflow_add-p : goal.overflow_add-p
overflow_add-p c = omega (arith, c.requires.1.most)

pub push_event-count-requires : goal.push_event-count-requires
push_event-count-requires c =
    (appendable c.requires.0 c.loop-j.invariant.1, omega (arith, c.requires.1.most))

pub shape_of-t-then-room-count : goal.shape_of-t-then-room-count
shape_of-t-then-room-count c =
    c.push_event-count.auto.t ∙ c.loop-j.invariant.1.size

pub returns-then-room-count : goal.returns-then-room-count
returns-then-room-count c =
    stop _ c.loop-j.j c.args.p.count c.loop-j.invariant.1 (omega arith) (taken (goal.at.returns-then-room-count c).Then-has_code) c.push_event-count.ensures c.if-room-count.true

pub loop-j-preserved-else-room-count : goal.loop-j-preserved-else-room-count
loop-j-preserved-else-room-count c =
    (omega arith, turn _ c.loop-j.j c.args.p.count c.loop-j.invariant.1 (omega arith) (taken (goal.at.loop-j-preserved-else-room-count c).Then-has_code) c.push_event-count.ensures c.if-room-count.false)

pub loop-j-preserved : goal.loop-j-preserved
loop-j-preserved c =
    (omega arith, skip _ c.loop-j.j c.args.p.count c.loop-j.invariant.1 (omega arith) (other (goal.at.loop-j-preserved c).Else-has_code))

pub shape_of-t : goal.shape_of-t
shape_of-t c = c.loop-j.invariant.1.size

pub returns : goal.returns
returns c = over _ c.loop-j.j c.args.p.count c.loop-j.invariant.1 (omega arith)
