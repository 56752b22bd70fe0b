-- `next_waited` meets its contract: no row before the one reached is waited for.
use Prim.Native.Nat.{◌+◌}
use native.Mathlib.Omega.{arith}
use mathlib.Core.Path.{◌≡◌, sym, ◌∙◌}
use mir.Syntax.{w32}
use mir.Val.{SFits}
use Rattle.std.proofs.Common.{rules}
use Rattle.interval.proofs.Machine.{same32}
use Rattle.closing.specs.Added.{next_row}
use Rattle.closing.proofs.Searches.{next_least, next_most, unwaited_next, unwaited_on}
use Rattle.closing.proofs.next_waited.Goals as goal

pub loop-j-init : goal.loop-j-init
loop-j-init c =
    let g = c.args in
    let operand : SFits w32 g.w.operand = search rules in
    let e : c.next_of-j.result ≡ next_row g.w.operand g.i g.e g.t.now = simp (same32 _ operand) at c.next_of-j.ensures in
    (omega (arith, next_least g.w.operand g.t.now g.i g.e), omega (arith, next_most g.w.operand g.t.now g.i g.e c.requires.0), unwaited_next g.w.since g.w.operand g.t.now g.i g.e _ e)

pub returns-then-is_waited : goal.returns-then-is_waited
returns-then-is_waited c =
    record { least = c.loop-j.invariant.0; none = c.loop-j.invariant.2; is = λ h. sym c.is_waited.ensures ∙ c.if-is_waited.true }

pub next_of-j-requires-in-loop-j : goal.next_of-j-requires-in-loop-j
next_of-j-requires-in-loop-j c = (omega arith, c.requires.1)

pub loop-j-smaller : goal.loop-j-smaller
loop-j-smaller c =
    let g = c.args in
    let operand : SFits w32 g.w.operand = search rules in
    let next : c.next_of-j-in-loop-j.result ≡ next_row g.w.operand (c.loop-j.j + 1) g.e g.t.now = simp (same32 _ operand) at c.next_of-j-in-loop-j.ensures in
    omega (arith, next_least g.w.operand g.t.now (c.loop-j.j + 1) g.e, next_most g.w.operand g.t.now (c.loop-j.j + 1) g.e (omega arith))

pub loop-j-preserved : goal.loop-j-preserved
loop-j-preserved c =
    let g = c.args in
    let operand : SFits w32 g.w.operand = search rules in
    let next : c.next_of-j-in-loop-j.result ≡ next_row g.w.operand (c.loop-j.j + 1) g.e g.t.now = simp (same32 _ operand) at c.next_of-j-in-loop-j.ensures in
    (omega (arith, next_least g.w.operand g.t.now (c.loop-j.j + 1) g.e), omega (arith, next_most g.w.operand g.t.now (c.loop-j.j + 1) g.e (omega arith)), unwaited_on g.w.since g.w.operand g.t.now g.i c.loop-j.j g.e _ c.loop-j.invariant.2 (sym c.is_waited.ensures ∙ c.if-is_waited.false) next)

pub returns : goal.returns
returns c = record { least = c.loop-j.invariant.0; none = c.loop-j.invariant.2; is = λ h. absurd (omega arith) }
