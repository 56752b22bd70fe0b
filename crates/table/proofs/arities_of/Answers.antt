-- `arities_of` meets its contract: each turn puts the arity of one entry where it belongs.
use Rattle.table.proofs.Arities.{filled_none, filled_more, filled_all}
use Rattle.table.proofs.arities_of.Goals as goal

pub loop-n-init : goal.loop-n-init
loop-n-init c = filled_none _ c.requires

pub loop-n-preserved : goal.loop-n-preserved
loop-n-preserved c = filled_more _ _ _ c.loop-n.invariant c.loop-n-test.true _ c.arity_of.ensures

pub returns : goal.returns
returns c = filled_all _ _ _ c.loop-n.invariant c.loop-n-test.false
