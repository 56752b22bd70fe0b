-- `left_from` meets its contract: each way out is a case of the definition.
use Prim.Native.Nat.{ℕ}
use native.Mathlib.Omega.{arith}
use borrow.Author.Tests.{lt-ltb, le-ltb}
use mathlib.Core.Path.{◌≡◌, sym, ap, ap₂, ◌∙◌}
use mathlib.Core.Bool.{Bool}
use mathlib.Core.List.{List}
use lib.Dec.{ltb}
use lib.IntN.{ℤ}
use Rattle.interval.proofs.Machine.{same32}
use Rattle.interval.specs.declared.Ending.{Ending}
use Rattle.closing.specs.Added.{next_row, left_by, left_from}
use Rattle.closing.proofs.left_from.Goals as goal

-- by the first new row of b, which is row s
by_ending : (b : ℤ) (m n s : ℕ) (t : List ℤ) (e k v : Ending) (new : Bool) → s ≡ next_row b m n t → k ≡ e → k ≡ v → ltb s n ≡ new → left_by v new b m n t ≡ left_from e b m n t
unfolding left_from
by_ending b m n s t e k v new first of is h = ap₂ (λ x y. left_by x y b m n t) (sym is ∙ of) (sym h ∙ ap (λ x. ltb x n) first)

pub reaching_from-requires : goal.reaching_from-requires
reaching_from-requires c = (omega arith, c.requires.0, c.requires.1, c.requires.2)

pub returns-then-s-end : goal.returns-then-s-end
returns-then-s-end c = by_ending _ _ _ _ _ _ _ _ _ (simp (same32 _ c.ranges.b) at c.next_of-s.ensures) c.ending_of-ending.ensures c.in-Before.is (lt-ltb _ _ c.if-s-end.true)

pub returns-else-s-end : goal.returns-else-s-end
returns-else-s-end c = by_ending _ _ _ _ _ _ _ _ _ (simp (same32 _ c.ranges.b) at c.next_of-s.ensures) c.ending_of-ending.ensures c.in-Before.is (le-ltb _ _ c.if-s-end.false)

pub returns-then-s-end-2 : goal.returns-then-s-end-2
returns-then-s-end-2 c =
    let g = c.args in
    let first : c.next_of-s.result ≡ next_row g.b g.f.first g.f.end g.t.now = simp (same32 _ c.ranges.b) at c.next_of-s.ensures in
    simp (first, same32 _ c.ranges.b) at c.reaching_from.ensures ∙ by_ending _ _ _ _ _ _ _ _ _ first c.ending_of-ending.ensures c.in-Within.is (lt-ltb _ _ c.if-s-end-2.true)

pub returns-else-s-end-2 : goal.returns-else-s-end-2
returns-else-s-end-2 c = by_ending _ _ _ _ _ _ _ _ _ (simp (same32 _ c.ranges.b) at c.next_of-s.ensures) c.ending_of-ending.ensures c.in-Within.is (le-ltb _ _ c.if-s-end-2.false)

pub returns-then-s-end-3 : goal.returns-then-s-end-3
returns-then-s-end-3 c = by_ending _ _ _ _ _ _ _ _ _ (simp (same32 _ c.ranges.b) at c.next_of-s.ensures) c.ending_of-ending.ensures c.in-Together.is (lt-ltb _ _ c.if-s-end-3.true)

pub returns-else-s-end-3 : goal.returns-else-s-end-3
returns-else-s-end-3 c = by_ending _ _ _ _ _ _ _ _ _ (simp (same32 _ c.ranges.b) at c.next_of-s.ensures) c.ending_of-ending.ensures c.in-Together.is (le-ltb _ _ c.if-s-end-3.false)

pub returns-then-s-end-4 : goal.returns-then-s-end-4
returns-then-s-end-4 c = by_ending _ _ _ _ _ _ _ _ _ (simp (same32 _ c.ranges.b) at c.next_of-s.ensures) c.ending_of-ending.ensures c.in-Either.is (lt-ltb _ _ c.if-s-end-4.true)

pub returns-else-s-end-4 : goal.returns-else-s-end-4
returns-else-s-end-4 c = by_ending _ _ _ _ _ _ _ _ _ (simp (same32 _ c.ranges.b) at c.next_of-s.ensures) c.ending_of-ending.ensures c.in-Either.is (le-ltb _ _ c.if-s-end-4.false)
