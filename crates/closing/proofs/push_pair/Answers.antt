-- `push_pair` meets its contract: the row of the pair is appended.
use mathlib.Core.Path.{◌≡◌, ap, ◌∙◌}
use Rattle.table.specs.Table.{stored_row}
use Rattle.closing.specs.Added.{pair_of, pair_row}
use Rattle.closing.proofs.push_pair.Goals as goal

pub push_counted-requires : goal.push_counted-requires
push_counted-requires c =
    let g = c.args in
    let row : c.pair_of-row.result ≡ pair_of g.f g.w (stored_row g.t.now g.i) g.i = c.pair_of-row.ensures ∙ ap (λ x. pair_of g.f g.w x g.i) c.row_at-s.ensures in
    (c.requires.0, simp row c.requires.0.above)

pub returns : goal.returns
unfolding pair_row
returns c =
    let g = c.args in
    let row : c.pair_of-row.result ≡ pair_of g.f g.w (stored_row g.t.now g.i) g.i = c.pair_of-row.ensures ∙ ap (λ x. pair_of g.f g.w x g.i) c.row_at-s.ensures in
    simp c.requires.3 (simp row at c.push_counted.ensures)
