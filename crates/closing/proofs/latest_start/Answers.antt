-- `latest_start` meets its contract: the latest of what was found and of what is left is the latest of all.
use Prim.Native.Nat.{◌-◌}
use native.Mathlib.Omega.{arith}
use mathlib.Core.Path.{◌≡◌, refl, ap, ◌∙◌}
use mathlib.Core.Bool.{true, false}
use mir.Syntax.{w32}
use mir.Val.{SFits, to_z, of_z}
use lib.Signed.{le_z}
use Rattle.std.proofs.Common.{rules}
use Rattle.interval.specs.Instants.{eq_z}
use Rattle.interval.proofs.Machine.{same32, eq_z_yes, eq_z_no}
use Rattle.table.specs.Table.{cell}
use Rattle.closing.specs.Added.{latest_from}
use Rattle.closing.proofs.Searches.{latest_on, latest_end, latest_stop}
use Rattle.closing.proofs.latest_start.Goals as goal

pub loop-j-init : goal.loop-j-init
loop-j-init c = (c.requires.0, omega arith, refl)

-- the row ends no later than the latest start so far
pub returns-then-row-latest : goal.returns-then-row-latest
returns-then-row-latest c =
    let g = c.args in
    let end : SFits w32 c.row_at-row.result.end = search rules in
    let no_later : le_z (cell g.t.now (c.loop-j.j - 1) 4) (to_z w32 c.loop-j.latest-bits) ≡ true = simp c.row_at-row.ensures at (simp (same32 _ end) at c.if-row-latest.true) in
    simp (same32, c.ranges.b, c.ranges.x) at (latest_stop (to_z w32 (of_z w32 g.b)) g.t.now g.i (to_z w32 c.loop-j.latest-bits) g.e c.loop-j.j (c.loop-j.j - 1) c.requires.2 c.requires.3 (omega arith) (omega arith) refl no_later ∙ c.loop-j.invariant.2)

-- the row is one of b
pub loop-j-preserved-then-row-b : goal.loop-j-preserved-then-row-b
loop-j-preserved-then-row-b c =
    let g = c.args in
    let b = to_z w32 (of_z w32 g.b) in
    let k = c.loop-j.j - 1 in
    let entry : SFits w32 c.row_at-row.result.entry = search rules in
    let first : SFits w32 c.row_at-row.result.start = search rules in
    let f : SFits w32 c.greatest_end-latest.result = search rules in
    let is : eq_z (cell g.t.now k 0) b ≡ true = ap (eq_z (cell g.t.now k 0)) (same32 _ c.ranges.b) ∙ (simp c.row_at-row.ensures at (eq_z_yes _ _ entry c.ranges.b c.if-row-b.true)) in
    let latest = same32 _ f ∙ simp c.row_at-row.ensures at (simp (same32 _ first) at c.greatest_end-latest.ensures) in
    (omega arith, omega arith, ap (λ z. latest_from b g.t.now g.i z (k - g.i)) latest ∙ latest_on b g.t.now g.i (to_z w32 c.loop-j.latest-bits) c.loop-j.j k true (omega arith) refl is ∙ c.loop-j.invariant.2)

pub loop-j-preserved : goal.loop-j-preserved
loop-j-preserved c =
    let g = c.args in
    let b = to_z w32 (of_z w32 g.b) in
    let k = c.loop-j.j - 1 in
    let entry : SFits w32 c.row_at-row.result.entry = search rules in
    let no : eq_z (cell g.t.now k 0) b ≡ false = ap (eq_z (cell g.t.now k 0)) (same32 _ c.ranges.b) ∙ (simp c.row_at-row.ensures at (eq_z_no _ _ entry c.ranges.b c.if-row-b.false)) in
    (omega arith, omega arith, latest_on b g.t.now g.i (to_z w32 c.loop-j.latest-bits) c.loop-j.j k false (omega arith) refl no ∙ c.loop-j.invariant.2)

pub returns : goal.returns
returns c =
    let g = c.args in
    simp (same32, c.ranges.b, c.ranges.x) at (latest_end (to_z w32 (of_z w32 g.b)) g.t.now g.i (to_z w32 c.loop-j.latest-bits) c.loop-j.j (omega arith) ∙ c.loop-j.invariant.2)
