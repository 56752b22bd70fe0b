-- `push_taken` meets its contract: a row is appended if the row is taken.
use mathlib.Core.Path.{◌≡◌, sym, ap, ◌∙◌}
use mathlib.Core.Bool.{Bool}
use lib.IntN.{ℤ, nat_abs}
use Rattle.interval.proofs.Machine.{same32}
use Rattle.table.specs.declared.Row.{Row}
use Rattle.closing.specs.declared.Taken.{Taken}
use Rattle.closing.specs.Added.{arm_of, is_taken, taken_row}
use Rattle.closing.proofs.Filling.{nothing}
use Rattle.closing.proofs.push_taken.Goals as goal

-- the test of the row that was read
tested : (a : ℤ) (k : Taken) (r s : Row) (t b : Bool) → r ≡ s → t ≡ is_taken a k r → t ≡ b → is_taken a k s ≡ b
tested a k r s t b read is h = sym (ap (is_taken a k) read) ∙ sym is ∙ h

pub returns-then-is_taken : goal.returns-then-is_taken
unfolding taken_row
returns-then-is_taken c =
    simp (tested _ _ _ _ _ _ c.row_at-row.ensures (simp (same32 _ c.ranges.a) at c.is_taken.ensures) c.if-is_taken.true) c.push_part.ensures

pub returns : goal.returns
unfolding taken_row
returns c =
    let g = c.args in
    nothing _ g.f.since _ (taken_row (arm_of g.second) (nat_abs g.f.entry) g.f.instant g.a g.taken g.t.now g.i) _
    (simp (tested _ _ _ _ _ _ c.row_at-row.ensures (simp (same32 _ c.ranges.a) at c.is_taken.ensures) c.if-is_taken.false))
