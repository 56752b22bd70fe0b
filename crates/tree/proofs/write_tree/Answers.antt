-- `write_tree` meets its contract: a row number is a reference to the row, which is written at the front.
use native.Mathlib.Omega.{arith}
use mathlib.Core.Path.{◌∙◌}
use Rattle.text.proofs.Written.{front_written}
use Rattle.table.specs.Operators.{operators_of}
use Rattle.tree.specs.Tree.{tree_bytes}
use Rattle.tree.proofs.References.{row_fits, row_reference}
use Rattle.tree.proofs.write_tree.Goals as goal

pub overflow_cast-i : goal.overflow_cast-i
overflow_cast-i c = let s = c in row_fits _ _ _ s.requires.0 _ s.requires.1

pub write_reference-requires : goal.write_reference-requires
write_reference-requires c =
    let a = c in
    let s = a in
    let w = row_reference _ _ _ s.requires.0 _ s.requires.1 _ a.arities_of-arities.ensures in
    (w.0, rw w.1 (omega (arith, s.requires.2)))

pub returns : goal.returns
returns c =
    let a = c in
    let s = a in
    let w = rw (row_reference _ _ _ s.requires.0 _ s.requires.1 _ a.arities_of-arities.ensures).1 at c.write_reference.ensures in
    (w.0 ∙ omega arith, w.1 ∙ front_written s.args.out.now (tree_bytes (operators_of s.args.chart) s.args.table.now s.args.i) s.requires.2)
