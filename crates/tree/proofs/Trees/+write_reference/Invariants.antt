use Rattle.tree.specs.Following.{rows_to}
use Rattle.tree.proofs.Trees.+write_reference.Given as goal

-- how many rows there are up to the one that is named
abbrev pub decreases-write_reference : goal.decreases-write_reference
decreases-write_reference l = rows_to l.z
