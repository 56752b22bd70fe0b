use Rattle.tree.specs.Following.{rows_to}
use Rattle.tree.proofs.Trees.+rest_behind.Given as goal

-- how many rows there are up to the one that is named
abbrev pub decreases-rest_behind : goal.decreases-rest_behind
decreases-rest_behind l = rows_to l.z
