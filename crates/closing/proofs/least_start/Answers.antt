-- `least_start` meets its contract: the least of what was found and of what is left is the least of all.
use Prim.Native.Nat.{◌+◌, ◌-◌}
use native.Mathlib.Omega.{arith}
use mathlib.Core.Path.{◌≡◌, ap, ◌∙◌}
use mathlib.Core.Bool.{true, false}
use mir.Syntax.{w32}
use mir.Val.{SFits, to_z, of_z}
use Rattle.std.proofs.Common.{rules}
use Rattle.interval.specs.Instants.{eq_z}
use Rattle.interval.proofs.Machine.{same32, eq_z_yes, eq_z_no}
use Rattle.table.specs.Table.{cell}
use Rattle.closing.specs.Added.{least_from}
use Rattle.closing.proofs.Searches.{least_on, least_end}
use Rattle.closing.proofs.least_start.Goals as goal

pub loop-i-init : goal.loop-i-init
loop-i-init c =
    let g = c.args in
    let start : SFits w32 c.row_at-first.result.start = search rules in
    (omega arith, omega arith, ap (λ x. least_from (to_z w32 (of_z w32 g.b)) g.t.now x g.s (g.n - g.s)) (same32 _ start ∙ ap (λ x. x.start) c.row_at-first.ensures))

pub loop-i-preserved-then-row-b : goal.loop-i-preserved-then-row-b
loop-i-preserved-then-row-b c =
    let g = c.args in
    let b = to_z w32 (of_z w32 g.b) in
    let entry : SFits w32 c.row_at-row.result.entry = search rules in
    let start : SFits w32 c.row_at-row.result.start = search rules in
    let f : SFits w32 c.least_start-least.result = search rules in
    let is : eq_z (cell g.t.now c.loop-i.i 0) b ≡ true = ap (eq_z (cell g.t.now c.loop-i.i 0)) (same32 _ c.ranges.b) ∙ (simp c.row_at-row.ensures at (eq_z_yes _ _ entry c.ranges.b c.if-row-b.true)) in
    let least = same32 _ f ∙ simp c.row_at-row.ensures at (simp (same32 _ start) at c.least_start-least.ensures) in
    (omega arith, omega arith, ap (λ x. least_from b g.t.now x (c.loop-i.i + 1) (g.n - (c.loop-i.i + 1))) least ∙ least_on b g.t.now (to_z w32 c.loop-i.least-bits) c.loop-i.i g.n true (omega arith) is ∙ c.loop-i.invariant.2)

pub loop-i-preserved : goal.loop-i-preserved
loop-i-preserved c =
    let g = c.args in
    let b = to_z w32 (of_z w32 g.b) in
    let entry : SFits w32 c.row_at-row.result.entry = search rules in
    let no : eq_z (cell g.t.now c.loop-i.i 0) b ≡ false = ap (eq_z (cell g.t.now c.loop-i.i 0)) (same32 _ c.ranges.b) ∙ (simp c.row_at-row.ensures at (eq_z_no _ _ entry c.ranges.b c.if-row-b.false)) in
    (omega arith, omega arith, least_on b g.t.now (to_z w32 c.loop-i.least-bits) c.loop-i.i g.n false (omega arith) no ∙ c.loop-i.invariant.2)

pub returns : goal.returns
returns c =
    let g = c.args in
    simp (same32 _ c.ranges.b) at (least_end (to_z w32 (of_z w32 g.b)) g.t.now (to_z w32 c.loop-i.least-bits) c.loop-i.i g.n (omega arith) ∙ c.loop-i.invariant.2)
