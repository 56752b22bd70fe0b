-- `first_of` meets its contract: the search from the row reached finds what the whole search finds.
use native.Mathlib.Omega.{arith}
use mathlib.Core.Path.{refl, sym, ◌∙◌}
use mir.Syntax.{w32}
use mir.Val.{to_z, of_z}
use Rattle.interval.proofs.Machine.{same32}
use Rattle.closing.proofs.Searches.{next_here, next_end, passed_none, passed_one}
use Rattle.closing.proofs.first_of.Goals as goal

pub loop-r-init : goal.loop-r-init
loop-r-init c = passed_none _ _ _ _ c.requires.0

pub returns-then-is_of : goal.returns-then-is_of
returns-then-is_of c =
    simp (same32, c.ranges.a) at (next_here (to_z w32 (of_z w32 c.args.a)) c.args.t.now c.loop-r.r c.args.n (omega arith) (sym c.is_of.ensures ∙ c.if-is_of.true) ∙ c.loop-r.invariant.same)

pub loop-r-preserved : goal.loop-r-preserved
loop-r-preserved c = passed_one _ _ _ _ _ _ c.loop-r.invariant (omega arith) refl (sym c.is_of.ensures ∙ c.if-is_of.false)

pub returns : goal.returns
returns c =
    simp (same32, c.ranges.a) at (next_end (to_z w32 (of_z w32 c.args.a)) c.args.t.now c.loop-r.r c.args.n (omega arith) ∙ c.loop-r.invariant.same)
