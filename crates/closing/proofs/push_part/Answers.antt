-- `push_part` meets its contract: the row has the start and the end of the row that it refers to.
use mathlib.Core.Path.{◌≡◌, ap, ◌∙◌}
use Rattle.closing.specs.Added.{arm_of, part_of, part_row}
use Rattle.table.specs.Table.{stored_row}
use Rattle.closing.proofs.push_part.Goals as goal

pub push_counted-requires : goal.push_counted-requires
push_counted-requires c =
    let g = c.args in
    let row : c.part_of-row.result ≡ part_of (arm_of g.second) g.f (stored_row g.t.now g.i) g.i = c.part_of-row.ensures ∙ ap (λ x. part_of (arm_of g.second) g.f x g.i) c.row_at-part.ensures in
    (c.requires.0, simp row c.requires.0.above)

pub returns : goal.returns
unfolding part_row
returns c =
    let g = c.args in
    let row : c.part_of-row.result ≡ part_of (arm_of g.second) g.f (stored_row g.t.now g.i) g.i = c.part_of-row.ensures ∙ ap (λ x. part_of (arm_of g.second) g.f x g.i) c.row_at-part.ensures in
    simp row at c.push_counted.ensures
