-- `pass_fours` meets its contract: the search from the row reached finds what the whole search finds.
use Prim.Native.Nat.{ℕ, ◌+◌, ◌≤◌}
use native.Mathlib.Omega.{arith}
use mathlib.Core.Path.{◌≡◌, refl, sym, ◌∙◌}
use mathlib.Core.Bool.{false}
use mathlib.Core.List.{List}
use lib.IntN.{ℤ}
use Rattle.interval.specs.Instants.{eq_z}
use Rattle.interval.proofs.Machine.{same32}
use Rattle.table.specs.Table.{cell}
use Rattle.closing.specs.Added.{Passed}
use Rattle.closing.proofs.Searches.{passed_none, passed_one}
use Rattle.closing.proofs.pass_fours.Goals as goal

-- one, two, three and four of the four rows are passed
module _ (a : ℤ) (i n : ℕ) (t : List ℤ) (r : ℕ) (fit : r + 4 ≤ n) (f : Passed a i n t r) where
  one : eq_z (cell t r 0) a ≡ false → Passed a i n t (r + 1)
  one h = passed_one _ _ _ _ _ _ f (omega arith) refl h

  two : eq_z (cell t r 0) a ≡ false → eq_z (cell t (r + 1) 0) a ≡ false → Passed a i n t (r + 2)
  two h k = passed_one _ _ _ _ _ _ (one h) (omega arith) (omega arith) k

  three : eq_z (cell t r 0) a ≡ false → eq_z (cell t (r + 1) 0) a ≡ false → eq_z (cell t (r + 2) 0) a ≡ false → Passed a i n t (r + 3)
  three h k l = passed_one _ _ _ _ _ _ (two h k) (omega arith) (omega arith) l

  four : eq_z (cell t r 0) a ≡ false → eq_z (cell t (r + 1) 0) a ≡ false → eq_z (cell t (r + 2) 0) a ≡ false → eq_z (cell t (r + 3) 0) a ≡ false → Passed a i n t (r + 4)
  four h k l m = passed_one _ _ _ _ _ _ (three h k l) (omega arith) (omega arith) m

pub loop-r-init : goal.loop-r-init
loop-r-init c = passed_none _ _ _ _ c.requires.0

pub overflow_add-r : goal.overflow_add-r
overflow_add-r c = omega (arith, c.loop-r.invariant.most)

pub returns-then-is_of : goal.returns-then-is_of
returns-then-is_of c = simp (same32, c.ranges.a) at c.loop-r.invariant

pub returns-then-is_of-2 : goal.returns-then-is_of-2
returns-then-is_of-2 c =
    simp (same32, c.ranges.a) at (
    one _ _ _ _ _ (omega arith) c.loop-r.invariant
    (sym c.is_of.ensures ∙ c.if-is_of.false)
    )

pub returns-then-is_of-3 : goal.returns-then-is_of-3
returns-then-is_of-3 c =
    simp (same32, c.ranges.a) at (
    two _ _ _ _ _ (omega arith) c.loop-r.invariant
    (sym c.is_of.ensures ∙ c.if-is_of.false)
    (sym c.is_of-in-loop-r.ensures ∙ c.if-is_of-2.false)
    )

pub returns-then-is_of-4 : goal.returns-then-is_of-4
returns-then-is_of-4 c =
    simp (same32, c.ranges.a) at (
    three _ _ _ _ _ (omega arith) c.loop-r.invariant
    (sym c.is_of.ensures ∙ c.if-is_of.false)
    (sym c.is_of-in-loop-r.ensures ∙ c.if-is_of-2.false)
    (sym c.is_of-in-loop-r-2.ensures ∙ c.if-is_of-3.false)
    )

pub loop-r-preserved : goal.loop-r-preserved
loop-r-preserved c =
    four _ _ _ _ _ (omega arith) c.loop-r.invariant
    (sym c.is_of.ensures ∙ c.if-is_of.false)
    (sym c.is_of-in-loop-r.ensures ∙ c.if-is_of-2.false)
    (sym c.is_of-in-loop-r-2.ensures ∙ c.if-is_of-3.false)
    (sym c.is_of-in-loop-r-3.ensures ∙ c.if-is_of-4.false)

pub returns : goal.returns
returns c = simp (same32, c.ranges.a) at c.loop-r.invariant
