-- Trees as text, computed from the rows of a table: each form of document 01's "Reading", a delay of a delay (request N1), and a change of a cut (request N5).
use mathlib.Core.Path.{◌≡◌, refl}
use mathlib.Core.List.{List, [], ◌∷◌, ◌++◌, map}
use lib.IntN.{ℤ, pos}
use Rattle.text.specs.Quoted.{bytes}
use Rattle.decimal.specs.Spelling.{signed, spelled_number, digits_within}
use Rattle.interval.specs.declared.Relation.{Relation}
use Rattle.interval.specs.declared.Edges.{Edges}
use Rattle.interval.specs.declared.LengthTest.{LengthTest}
use Rattle.interval.specs.declared.Nearest.{Nearest}
use Rattle.model.specs.Lists.{numbers}
use Rattle.model.specs.Order.{none}
use Rattle.model.specs.Recognitions.{Operator, event, related, or, absence, lasting, after, nearest}
use Rattle.table.specs.Operators.{arity_of}
use Rattle.tree.specs.Tree.{row_bytes, reference_bytes, tree_within, tree_bytes}

ops : List Operator
ops = event 1 ∷ related Relation.Seq 0 0 ∷ absence Edges.ClosedOpen 1 0 ∷ lasting LengthTest.Lasts 1 5 ∷ or 2 0 ∷ after 1 7 ∷ after 5 0 ∷ nearest Nearest.Cut 0 2 ∷ nearest Nearest.Change 7 0 ∷ []

-- entry, left and right of a row; start and end are not looked at
row : ℤ → ℤ → ℤ → List ℤ
row n l r = n ∷ l ∷ r ∷ pos 0 ∷ pos 0 ∷ []

table : List ℤ
table =
    row (pos 0) (pos 1) none ++
    row (pos 0) (pos 1000000) none ++
    row (pos 1) (pos 0) (pos 1) ++
    row (pos 2) (pos 2) none ++
    row (pos 3) (pos 2) none ++
    row (pos 4) (pos 3) none ++
    row (pos 4) none (pos 0) ++
    row (pos 5) (pos 2) none ++
    row (pos 6) (pos 7) none ++
    row (pos 7) (pos 1) (pos 3) ++
    row (pos 8) (pos 9) (pos 0)

-- "A tree is written `e` and serial for an event; `<L,R>` for two; `<L,_>` or `<_,R>` for or; `<L>` for one."
trees : map (tree_bytes ops table) (numbers 0 11) ≡
    bytes "e1" ∷
    bytes "e1000000" ∷
    bytes "<e1,e1000000>" ∷
    bytes "<<e1,e1000000>>" ∷
    bytes "<<e1,e1000000>>" ∷
    bytes "<<<e1,e1000000>>,_>" ∷
    bytes "<_,e1>" ∷
    bytes "<<e1,e1000000>>" ∷
    bytes "<<<e1,e1000000>>>" ∷
    bytes "<e1000000,<<e1,e1000000>>>" ∷
    bytes "<<e1000000,<<e1,e1000000>>>,e1>" ∷ []
unfolding bytes ops row table arity_of row_bytes reference_bytes tree_within tree_bytes signed spelled_number digits_within
trees = refl
