-- `right_from` meets its contract: each way out is a case of the definition.
use borrow.Author.Tests.{le-leb, lt-leb}
use mathlib.Core.Path.{◌≡◌, sym, ap, ◌∙◌}
use Prim.Native.Nat.{ℕ}
use Rattle.interval.specs.declared.Ending.{Ending}
use Rattle.interval.specs.declared.Relation.{Relation}
use Rattle.interval.specs.Conditions.{ending_of}
use Rattle.closing.specs.Added.{right_by, right_from}
use Rattle.closing.proofs.right_from.Goals as goal

by_ending : (k : Relation) (m r : ℕ) (e v : Ending) → e ≡ ending_of k → e ≡ v → right_by v m r ≡ right_from k m r
by_ending k m r e v of is = ap (λ x. right_by x m r) (sym is ∙ of)

pub returns-in-Before : goal.returns-in-Before
returns-in-Before c = by_ending _ _ c.args.r _ _ c.ending_of-ending.ensures c.in-Before.is

pub returns-in-Within : goal.returns-in-Within
returns-in-Within c = by_ending _ _ c.args.r _ _ c.ending_of-ending.ensures c.in-Within.is

pub returns-in-Together : goal.returns-in-Together
returns-in-Together c = by_ending _ _ c.args.r _ _ c.ending_of-ending.ensures c.in-Together.is

pub returns-then-first-r : goal.returns-then-first-r
returns-then-first-r c = simp (le-leb _ _ c.if-first-r.true) at (by_ending _ c.args.first c.args.r _ _ c.ending_of-ending.ensures c.in-Either.is)

pub returns-else-first-r : goal.returns-else-first-r
returns-else-first-r c = simp (lt-leb _ _ c.if-first-r.false) at (by_ending _ c.args.first c.args.r _ _ c.ending_of-ending.ensures c.in-Either.is)
