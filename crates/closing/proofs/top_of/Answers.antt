-- `top_of` meets its contract: the rows left have the same last row of the entry as all.
use native.Mathlib.Omega.{arith}
use mathlib.Core.Path.{refl, sym, ◌∙◌}
use mir.Syntax.{w32}
use mir.Val.{to_z, of_z}
use Rattle.interval.proofs.Machine.{same32}
use Rattle.closing.proofs.Laws.{top_here, same_top, top_none}
use Rattle.closing.proofs.top_of.Goals as goal

pub top_in_fours-j-requires : goal.top_in_fours-j-requires
top_in_fours-j-requires c = c.requires

pub loop-j-init : goal.loop-j-init
loop-j-init c = c.top_in_fours-j.ensures

pub is_of-requires : goal.is_of-requires
is_of-requires c = omega (arith, c.loop-j.invariant.most)

pub returns-then-is_of : goal.returns-then-is_of
returns-then-is_of c =
    simp (same32, c.ranges.b) at (sym (top_here (to_z w32 (of_z w32 c.args.b)) c.args.t.now c.loop-j.j (omega arith) (sym c.is_of.ensures ∙ c.if-is_of.true)) ∙ c.loop-j.invariant.same)

pub loop-j-preserved : goal.loop-j-preserved
loop-j-preserved c = same_top _ _ _ _ _ c.loop-j.invariant (omega arith) refl (sym c.is_of.ensures ∙ c.if-is_of.false)

pub returns : goal.returns
returns c =
    simp (same32, c.ranges.b) at (sym (top_none (to_z w32 (of_z w32 c.args.b)) c.args.t.now c.loop-j.j (omega arith)) ∙ c.loop-j.invariant.same)
