-- `tree_length` meets its contract: a row number is a reference to the row, and the tree by the entries' arities is the row's.
use Rattle.std.proofs.Common.{◌≡◌, ◌∙◌, sym, ap, ◌-◌, arith, length, Some}
use Rattle.table.specs.Operators.{operators_of}
use Rattle.tree.specs.Tree.{tree_bytes}
use Rattle.tree.proofs.References.{row_fits, row_reference}
use Rattle.tree.proofs.Lengths.{is_over, is_within_lem, none_told, some_told}
use Rattle.tree.proofs.tree_length.Goals as goal

pub overflow_cast-i : goal.overflow_cast-i
overflow_cast-i c = row_fits _ _ _ c.requires.0 _ c.requires.1

pub rest_behind-requires : goal.rest_behind-requires
rest_behind-requires c = (row_reference _ _ _ c.requires.0 _ c.requires.1 _ c.arities_of-arities.ensures).0

pub returns-in_err-rest : goal.returns-in_err-rest
returns-in_err-rest c =
    let same = (row_reference _ _ _ c.requires.0 _ c.requires.1 _ c.arities_of-arities.ensures).1 in
    c.from_residual.ensures ∙ sym (is_over c.args.limit _ (none_told _ _ (sym (rw same at c.in_err-rest.ensures))))

pub returns : goal.returns
returns c =
    let s = tree_bytes (operators_of c.args.chart) c.args.table.now c.args.i in
    let same = (row_reference _ _ _ c.requires.0 _ c.requires.1 _ c.arities_of-arities.ensures).1 in
    let all = some_told c.args.limit (length s) c.in_ok-rest.rest (sym (rw same at c.in_ok-rest.ensures)) in
    let size : c.args.limit - c.in_ok-rest.rest ≡ length s = omega arith in
    ap Some size ∙ sym (is_within_lem c.args.limit s (omega arith))
