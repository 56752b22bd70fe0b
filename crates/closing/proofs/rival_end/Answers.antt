-- `rival_end` meets its contract: the search from the row reached finds what the whole search finds.
use native.Mathlib.Omega.{arith}
use mathlib.Core.Path.{◌≡◌, refl, sym, ap, ◌∙◌}
use mir.Syntax.{w32}
use mir.Val.{SFits, to_z, of_z}
use Rattle.std.proofs.Common.{rules}
use Rattle.interval.proofs.Machine.{same32}
use Rattle.table.specs.Table.{stored_row}
use Rattle.closing.specs.Added.{is_later_row}
use Rattle.closing.proofs.Searches.{rival_here, rival_on, rival_end_lem}
use Rattle.closing.proofs.rival_end.Goals as goal

pub loop-j-init : goal.loop-j-init
loop-j-init c = refl

pub returns-then-is_later_row : goal.returns-then-is_later_row
returns-then-is_later_row c =
    let g = c.args in
    let a = to_z w32 (of_z w32 g.a) in
    let end : SFits w32 c.row_at-row.result.end = search rules in
    let tested : c.is_later_row.result ≡ is_later_row a g.r (stored_row g.t.now c.loop-j.j) = c.is_later_row.ensures ∙ ap (is_later_row a g.r) c.row_at-row.ensures in
    simp (same32, c.ranges.a, c.ranges.x) at (same32 _ end ∙ ap (λ q. q.end) c.row_at-row.ensures ∙ rival_here a g.r g.t.now (to_z w32 (of_z w32 g.x)) c.loop-j.j g.e (omega arith) (sym tested ∙ c.if-is_later_row.true) ∙ c.loop-j.invariant)

pub loop-j-preserved : goal.loop-j-preserved
loop-j-preserved c =
    let g = c.args in
    let a = to_z w32 (of_z w32 g.a) in
    let tested : c.is_later_row.result ≡ is_later_row a g.r (stored_row g.t.now c.loop-j.j) = c.is_later_row.ensures ∙ ap (is_later_row a g.r) c.row_at-row.ensures in
    rival_on _ _ _ _ _ _ (omega arith) (sym tested ∙ c.if-is_later_row.false) ∙ c.loop-j.invariant

pub returns : goal.returns
returns c =
    let g = c.args in
    same32 _ c.ranges.x ∙ simp (same32, c.ranges.a, c.ranges.x) at (rival_end_lem (to_z w32 (of_z w32 g.a)) g.r g.t.now (to_z w32 (of_z w32 g.x)) c.loop-j.j g.e (omega arith) ∙ c.loop-j.invariant)
