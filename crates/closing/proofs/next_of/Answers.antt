-- `next_of` meets its contract: the search from the row that `pass_fours` reached finds what the whole search finds.
use mathlib.Core.Path.{◌∙◌}
use Rattle.interval.proofs.Machine.{same32}
use Rattle.closing.proofs.Searches.{next_end}
use Rattle.closing.proofs.next_of.Goals as goal

pub returns-then-n-i : goal.returns-then-n-i
returns-then-n-i c = next_end _ _ _ _ c.if-n-i.true

pub pass_fours-r-requires : goal.pass_fours-r-requires
pass_fours-r-requires c = c.requires

pub first_of-requires : goal.first_of-requires
first_of-requires c = (c.pass_fours-r.ensures.most, c.requires.1)

pub returns : goal.returns
returns c = simp (same32, c.ranges.a) at (c.first_of.ensures ∙ c.pass_fours-r.ensures.same)
