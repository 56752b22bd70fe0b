-- `top_in_fours` meets its contract: the rows left have the same last row of the entry as all.
use Prim.Native.Nat.{ℕ, ◌-◌, ◌≤◌}
use native.Mathlib.Omega.{arith}
use mathlib.Core.Path.{◌≡◌, refl, sym, ◌∙◌}
use mathlib.Core.Bool.{false}
use mathlib.Core.List.{List}
use lib.IntN.{ℤ}
use Rattle.interval.specs.Instants.{eq_z}
use Rattle.interval.proofs.Machine.{same32}
use Rattle.table.specs.Table.{cell}
use Rattle.closing.specs.Added.{SameTop}
use Rattle.closing.proofs.Laws.{same_top}
use Rattle.closing.proofs.top_in_fours.Goals as goal

-- one, two, three and four of the four rows are passed
module _ (b : ℤ) (n : ℕ) (t : List ℤ) (j : ℕ) (fit : 4 ≤ j) (f : SameTop b n t j) where
  one : eq_z (cell t (j - 1) 0) b ≡ false → SameTop b n t (j - 1)
  one h = same_top _ _ _ _ _ f (omega arith) refl h

  two : eq_z (cell t (j - 1) 0) b ≡ false → eq_z (cell t (j - 2) 0) b ≡ false → SameTop b n t (j - 2)
  two h k = same_top _ _ _ _ _ (one h) (omega arith) (omega arith) k

  three : eq_z (cell t (j - 1) 0) b ≡ false → eq_z (cell t (j - 2) 0) b ≡ false → eq_z (cell t (j - 3) 0) b ≡ false → SameTop b n t (j - 3)
  three h k l = same_top _ _ _ _ _ (two h k) (omega arith) (omega arith) l

  four : eq_z (cell t (j - 1) 0) b ≡ false → eq_z (cell t (j - 2) 0) b ≡ false → eq_z (cell t (j - 3) 0) b ≡ false → eq_z (cell t (j - 4) 0) b ≡ false → SameTop b n t (j - 4)
  four h k l m = same_top _ _ _ _ _ (three h k l) (omega arith) (omega arith) m

pub loop-j-init : goal.loop-j-init
loop-j-init c = record { most = omega arith; same = refl }

pub is_of-requires : goal.is_of-requires
is_of-requires c = omega (arith, c.loop-j.invariant.most)

pub returns-then-is_of : goal.returns-then-is_of
returns-then-is_of c = simp (same32, c.ranges.b) at c.loop-j.invariant

pub is_of-requires-in-loop-j : goal.is_of-requires-in-loop-j
is_of-requires-in-loop-j c = omega (arith, c.loop-j.invariant.most)

pub returns-then-is_of-2 : goal.returns-then-is_of-2
returns-then-is_of-2 c =
    simp (same32, c.ranges.b) at (
    one _ _ _ _ (omega arith) c.loop-j.invariant
    (sym c.is_of.ensures ∙ c.if-is_of.false)
    )

pub is_of-requires-in-loop-j-2 : goal.is_of-requires-in-loop-j-2
is_of-requires-in-loop-j-2 c = omega (arith, c.loop-j.invariant.most)

pub returns-then-is_of-3 : goal.returns-then-is_of-3
returns-then-is_of-3 c =
    simp (same32, c.ranges.b) at (
    two _ _ _ _ (omega arith) c.loop-j.invariant
    (sym c.is_of.ensures ∙ c.if-is_of.false)
    (sym c.is_of-in-loop-j.ensures ∙ c.if-is_of-2.false)
    )

pub is_of-requires-in-loop-j-3 : goal.is_of-requires-in-loop-j-3
is_of-requires-in-loop-j-3 c = omega (arith, c.loop-j.invariant.most)

pub returns-then-is_of-4 : goal.returns-then-is_of-4
returns-then-is_of-4 c =
    simp (same32, c.ranges.b) at (
    three _ _ _ _ (omega arith) c.loop-j.invariant
    (sym c.is_of.ensures ∙ c.if-is_of.false)
    (sym c.is_of-in-loop-j.ensures ∙ c.if-is_of-2.false)
    (sym c.is_of-in-loop-j-2.ensures ∙ c.if-is_of-3.false)
    )

pub loop-j-preserved : goal.loop-j-preserved
loop-j-preserved c =
    four _ _ _ _ (omega arith) c.loop-j.invariant
    (sym c.is_of.ensures ∙ c.if-is_of.false)
    (sym c.is_of-in-loop-j.ensures ∙ c.if-is_of-2.false)
    (sym c.is_of-in-loop-j-2.ensures ∙ c.if-is_of-3.false)
    (sym c.is_of-in-loop-j-3.ensures ∙ c.if-is_of-4.false)

pub returns : goal.returns
returns c = simp (same32, c.ranges.b) at c.loop-j.invariant
