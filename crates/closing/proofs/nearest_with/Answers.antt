-- `nearest_with` meets its contract: the limit is the definition's, by the operator.
use mathlib.Core.Path.{◌≡◌, ◌∙◌}
use mir.Syntax.{w32}
use mir.Val.{SFits, to_z}
use Rattle.std.proofs.Common.{rules}
use Rattle.interval.proofs.Machine.{same32}
use Rattle.closing.specs.Added.{limit_by, nearest_of}
use Rattle.closing.proofs.nearest_with.Goals.{in-Cut, in-Change}
use Rattle.closing.proofs.nearest_with.Goals as goal

pub returns : goal.returns
unfolding nearest_of
returns c =
    let g = c.args in
    let a : SFits w32 g.k.a = search rules in
    let b : SFits w32 g.k.b = search rules in
    let o : SFits w32 g.f.instant = search rules in
    let start : SFits w32 c.row_at-left.result.start = search rules in
    let end : SFits w32 c.row_at-left.result.end = search rules in
    -- the limit of cut, and that of change
    let limit : to_z w32 c.match-nearest.limit-bits ≡ limit_by g.k.nearest g.f.instant g.k.a g.k.to g.t.now g.r =
    elim c.match-nearest.branch [
      | in-Cut w ↦ w.limit-is ∙ rw w.in-Cut.is (same32 _ o)
      | in-Change w ↦ let e : SFits w32 w.rival_end-limit.result = search rules in w.limit-is ∙ rw w.in-Change.is (same32 _ e ∙ simp (same32 _ a, same32 _ o, c.row_at-left.ensures) at w.rival_end-limit.ensures)
    ] in
    simp (limit, c.row_at-left.ensures) at (simp (same32 _ b, same32 _ start, same32 _ end) at c.nearest_pairs.ensures)
