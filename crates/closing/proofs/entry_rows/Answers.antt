-- `entry_rows` meets its contract: each arm appends what the definition has for the operator.
use Prim.Native.Nat.{ℕ, ◌<◌}
use native.Mathlib.Omega.{arith}
use mathlib.Core.Path.{◌≡◌, sym, ◌∙◌}
use mathlib.Core.List.{[]}
use lib.IntN.{pos, nat_abs, ◌+ℤ◌}
use mir.Syntax.{w32}
use mir.Val.{SFits}
use Rattle.interval.proofs.Machine.{same32}
use Rattle.interval.proofs.Signed.{lt_true, is_le, add_fact}
use Rattle.chart.specs.declared.operator.Kind.{Kind}
use Rattle.chart.proofs.Usable.{Lower, fits_lower}
use Rattle.model.specs.Statements.{NextDue}
use Rattle.model.proofs.Due.{next_none}
use Rattle.table.specs.Operators.{entry_operator}
use Rattle.table.proofs.Operators.{IsOperator, entry_operator_lem}
use Rattle.closing.specs.Added.{added_rows}
use Rattle.closing.proofs.Entries.{small}
use Rattle.closing.proofs.entry_rows.Goals.{After-kind_of-kind}
use Rattle.closing.proofs.entry_rows.Goals as goal

-- what the entry's operator is, and its operands, by its kind
module _ (c : After-kind_of-kind) where
  module _ (k : Kind) (h : c.kind_of-kind.result ≡ k) where
    operator : let e = c.args.e in IsOperator k e.a e.b (entry_operator e)
    operator = entry_operator_lem c.args.e k (sym c.kind_of-kind.ensures ∙ h)

    lower : Lower k (nat_abs c.args.f.entry) c.args.e.a c.args.e.b
    lower = fits_lower (nat_abs c.args.f.entry) c.args.e k c.requires.2 (sym c.kind_of-kind.ensures ∙ h)

  -- no end behind the instant
  none : let g = c.args in NextDue [] (g.f.instant +ℤ pos 1) g.next g.next
  none =
      let o = c.args.f.instant in
      next_none (o +ℤ pos 1) c.args.next (omega (arith, lt_true o c.args.next c.requires.4, add_fact o (pos 1)))

  -- the operands are small numbers
  fits : {a : ℕ} → a < nat_abs c.args.f.entry → SFits w32 (pos a)
  fits {a} h = small a _ h c.requires.0.low

  both_fit : {a b : ℕ} → (a < nat_abs c.args.f.entry) × (b < nat_abs c.args.f.entry) → SFits w32 (pos a) × SFits w32 (pos b)
  both_fit l = (fits l.0, fits l.1)

pub overflow_cast-a : goal.overflow_cast-a
overflow_cast-a c = let k = (goal.at.overflow_cast-a c).After-kind_of-kind in (both_fit k (lower k _ c.in-Or.is)).0

pub overflow_cast-b : goal.overflow_cast-b
overflow_cast-b c = let k = (goal.at.overflow_cast-b c).After-kind_of-kind in (both_fit k (lower k _ c.in-Or.is)).1

pub overflow_cast-a-in-Pair : goal.overflow_cast-a-in-Pair
overflow_cast-a-in-Pair c = let k = (goal.at.overflow_cast-a-in-Pair c).After-kind_of-kind in (both_fit k (lower k _ c.in-Pair.is)).0

pub overflow_cast-b-in-Pair : goal.overflow_cast-b-in-Pair
overflow_cast-b-in-Pair c = let k = (goal.at.overflow_cast-b-in-Pair c).After-kind_of-kind in (both_fit k (lower k _ c.in-Pair.is)).1

pub overflow_cast-a-in-Absence : goal.overflow_cast-a-in-Absence
overflow_cast-a-in-Absence c = let k = (goal.at.overflow_cast-a-in-Absence c).After-kind_of-kind in (both_fit k (lower k _ c.in-Absence.is)).0

pub overflow_cast-b-in-Absence : goal.overflow_cast-b-in-Absence
overflow_cast-b-in-Absence c = let k = (goal.at.overflow_cast-b-in-Absence c).After-kind_of-kind in (both_fit k (lower k _ c.in-Absence.is)).1

pub overflow_cast-a-in-Length : goal.overflow_cast-a-in-Length
overflow_cast-a-in-Length c = let k = (goal.at.overflow_cast-a-in-Length c).After-kind_of-kind in fits k (lower k _ c.in-Length.is)

pub overflow_cast-a-in-After : goal.overflow_cast-a-in-After
overflow_cast-a-in-After c = let k = (goal.at.overflow_cast-a-in-After c).After-kind_of-kind in fits k (lower k _ c.in-After.is)

-- what the rows of a delay ask and tell
pub after_rows-requires : goal.after_rows-requires
after_rows-requires c =
    let k = (goal.at.after_rows-requires c).After-kind_of-kind in
    let p = c.requires in
    simp (same32 _ c.ranges.next, same32 _ (fits k (lower k _ c.in-After.is))) (p.0, p.3, p.4, is_le (pos 0) (pos c.args.e.a) (omega arith))

pub overflow_cast-a-in-Nearest : goal.overflow_cast-a-in-Nearest
overflow_cast-a-in-Nearest c = let k = (goal.at.overflow_cast-a-in-Nearest c).After-kind_of-kind in (both_fit k (lower k _ c.in-Nearest.is)).0

pub overflow_cast-b-in-Nearest : goal.overflow_cast-b-in-Nearest
overflow_cast-b-in-Nearest c = let k = (goal.at.overflow_cast-b-in-Nearest c).After-kind_of-kind in (both_fit k (lower k _ c.in-Nearest.is)).1

-- the rows appended by each
pub returns-in-Event : goal.returns-in-Event
unfolding added_rows
returns-in-Event c =
    let k = (goal.at.returns-in-Event c).After-kind_of-kind in
    simp (operator k _ c.in-Event.is, same32 _ c.ranges.next) (c.event_rows.ensures, none k)

pub returns-in-Or : goal.returns-in-Or
unfolding added_rows
returns-in-Or c =
    let k = (goal.at.returns-in-Or c).After-kind_of-kind in
    let f = both_fit k (lower k _ c.in-Or.is) in
    simp (operator k _ c.in-Or.is, same32 _ c.ranges.next) (simp (same32, f.0, f.1) at c.or_rows.ensures, none k)

pub returns-in-Pair : goal.returns-in-Pair
unfolding added_rows
returns-in-Pair c =
    let k = (goal.at.returns-in-Pair c).After-kind_of-kind in
    let f = both_fit k (lower k _ c.in-Pair.is) in
    simp (operator k _ c.in-Pair.is, same32 _ c.ranges.next) (simp (same32, f.0, f.1) at c.pair_rows.ensures, none k)

pub returns-in-Absence : goal.returns-in-Absence
unfolding added_rows
returns-in-Absence c =
    let k = (goal.at.returns-in-Absence c).After-kind_of-kind in
    let f = both_fit k (lower k _ c.in-Absence.is) in
    simp (operator k _ c.in-Absence.is, same32 _ c.ranges.next) (simp (same32, f.0, f.1) at c.absence_rows.ensures, none k)

pub returns-in-Length : goal.returns-in-Length
unfolding added_rows
returns-in-Length c =
    let k = (goal.at.returns-in-Length c).After-kind_of-kind in
    simp (operator k _ c.in-Length.is, same32 _ c.ranges.next) (simp (same32, fits k (lower k _ c.in-Length.is)) at c.taken_rows.ensures, none k)

pub returns-in-After : goal.returns-in-After
unfolding added_rows
returns-in-After c =
    let k = (goal.at.returns-in-After c).After-kind_of-kind in
    simp (operator k _ c.in-After.is) (simp (same32, fits k (lower k _ c.in-After.is), c.ranges.next) at c.after_rows.ensures)

pub returns-in-Nearest : goal.returns-in-Nearest
unfolding added_rows
returns-in-Nearest c =
    let k = (goal.at.returns-in-Nearest c).After-kind_of-kind in
    let f = both_fit k (lower k _ c.in-Nearest.is) in
    simp (operator k _ c.in-Nearest.is, same32 _ c.ranges.next) (simp (same32, f.0, f.1) at c.nearest_rows.ensures, none k)

pub returns-in-Unknown : goal.returns-in-Unknown
returns-in-Unknown c = absurd (lower (goal.at.returns-in-Unknown c).After-kind_of-kind _ c.in-Unknown.is)
