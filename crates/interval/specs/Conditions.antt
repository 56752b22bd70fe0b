-- The conditions of document 01's operator table, a line for each operator. rs and re are the start and end of r, ss and se those of s.
use Rattle.std.specs.Prelude.{ℕ, Bool, true, false, ◌&&◌, ℤ, pos, ◌-ℤ◌}
use Rattle.std.specs.Int.Signed.{lt_z, le_z}
use Rattle.interval.specs.Instants.{eq_z}
use Rattle.interval.specs.declared.Relation.{Relation}
use Rattle.interval.specs.declared.Relation.TheVariants.{Seq, And, Meets, Overlaps, Starts, During, Finishes, Equals}
use Rattle.interval.specs.declared.Ending.{Ending}
use Rattle.interval.specs.declared.Ending.TheVariants.{Before, Within, Together, Either}
use Rattle.interval.specs.declared.Edges.{Edges}
use Rattle.interval.specs.declared.Edges.TheVariants.{ClosedClosed, OpenOpen, ClosedOpen, OpenClosed}
use Rattle.interval.specs.declared.Nearest.{Nearest}
use Rattle.interval.specs.declared.Nearest.TheVariants.{Cut, Change}
use Rattle.interval.specs.declared.LengthTest.{LengthTest}
use Rattle.interval.specs.declared.LengthTest.TheVariants.{Lasts, AtMost, AtLeast}

-- seq: end r < start s; and: each pair; meets: end r = start s; overlaps: start r < start s < end r < end s;
-- starts: starts equal, end r < end s; during: start r > start s, end r < end s; finishes: start r > start s, ends equal;
-- equals: starts equal, ends equal
unfoldable pub is_related : Relation → ℤ → ℤ → ℤ → ℤ → Bool
is_related Seq rs re ss se = lt_z re ss
is_related And rs re ss se = true
is_related Meets rs re ss se = eq_z re ss
is_related Overlaps rs re ss se = lt_z rs ss && (lt_z ss re && lt_z re se)
is_related Starts rs re ss se = eq_z rs ss && lt_z re se
is_related During rs re ss se = lt_z ss rs && lt_z re se
is_related Finishes rs re ss se = lt_z ss rs && eq_z re se
is_related Equals rs re ss se = eq_z rs ss && eq_z re se

-- Where r and s end if they are related. The whole ends at "the greatest end of the rows referred to": for seq s ends there, and r ends before
-- s starts; for meets, overlaps, starts and during s ends there, and r ends when s starts or later; for finishes and equals both end there;
-- for and one of them does
unfoldable pub ending_of : Relation → Ending
ending_of Seq = Before
ending_of And = Either
ending_of Meets = Within
ending_of Overlaps = Within
ending_of Starts = Within
ending_of During = Within
ending_of Finishes = Together
ending_of Equals = Together

-- "s forbids r when start r <= start s (early `[`) or start r < start s (early `]`), and end s <= end r (late `]`) or end s < end r (late `[`)."
-- The edges are, in this order, -[] -][ -[[ -]]
unfoldable pub is_forbidding : Edges → ℤ → ℤ → ℤ → ℤ → Bool
is_forbidding ClosedClosed rs re ss se = le_z rs ss && le_z se re
is_forbidding OpenOpen rs re ss se = lt_z rs ss && lt_z se re
is_forbidding ClosedOpen rs re ss se = le_z rs ss && lt_z se re
is_forbidding OpenClosed rs re ss se = lt_z rs ss && le_z se re

-- lasts: end r - start r = d; atmost: end r - start r <= d; atleast: end r - start r >= d (request N2; document 01 had < d and > d)
unfoldable pub has_length : LengthTest → ℕ → ℤ → ℤ → Bool
has_length Lasts d rs re = eq_z (re -ℤ rs) (pos d)
has_length AtMost d rs re = le_z (re -ℤ rs) (pos d)
has_length AtLeast d rs re = le_z (pos d) (re -ℤ rs)

-- cut, change: "no other row s' of b starts after end r and ends before end s" (request N5): s', from ts to te, is a rival of s
unfoldable pub is_rival_of_second : ℤ → ℤ → ℤ → ℤ → Bool
is_rival_of_second re se ts te = lt_z re ts && lt_z te se

-- change "also requires that no r' of a has start r' >= start r and end r < end r' < start s" (request N5): r', from ts to te, is a rival of r
unfoldable pub is_rival_of_first : Nearest → ℤ → ℤ → ℤ → ℤ → ℤ → Bool
is_rival_of_first Cut rs re ss ts te = false
is_rival_of_first Change rs re ss ts te = le_z rs ts && (lt_z re te && lt_z te ss)
