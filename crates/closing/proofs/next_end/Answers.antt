-- `next_end` meets its contract: the first of the operand among the rows at whose ends a wait would end behind `last` and before the limit.
use Prim.Native.Nat.{ℕ, ◌≤◌, ◌<◌, ◌^◌}
use native.Mathlib.Omega.{arith}
use mathlib.Core.Path.{◌≡◌, sym, ◌∙◌, subst}
use mathlib.Core.Bool.{Bool, true, false}
use mathlib.Core.List.{List}
use mir.Syntax.{w32, w64}
use mir.Val.{SFits, to_z, of_z}
use lib.IntN.{ℤ, pos, ◌+ℤ◌, ◌-ℤ◌}
use Rattle.std.proofs.Common.{rules}
use Rattle.interval.specs.Instants.{least}
use Rattle.interval.proofs.Signed.{◌<ᶻ◌, eq_fact, eq_told, lt_true, least_is}
use Rattle.interval.proofs.Machine.{same32, same64, earlier_fits, eq_z_yes}
use Rattle.model.specs.Statements.{NextDue}
use Rattle.table.specs.Table.{cell}
use Rattle.table.specs.Ends.{count_ending}
use Rattle.closing.proofs.Waits.{few, inside, first_due, first_long, found_due, none_found}
use Rattle.closing.proofs.next_end.Goals.{After-ending_before-end, After-ending_by-first, Start}
use Rattle.closing.proofs.next_end.Goals as goal

before : (c : Start) → c.args.last <ᶻ c.args.limit
before c = lt_true c.args.last c.args.limit c.requires.2

-- row k ends a search for the rows that end d before x
searched : (by : Bool) (n d k : ℕ) (x from : ℤ) (t : List ℤ) → SFits w32 x → d < 2 ^ 32 → from ≡ to_z w32 (of_z w32 x) -ℤ pos d → k ≡ count_ending by n (to_z w64 (of_z w64 from)) t → k ≡ count_ending by n (x -ℤ pos d) t
searched by n d k x from t f h e s =
    let z : from ≡ x -ℤ pos d = simp (same32 _ f) at e in
    simp (z, same64 _ (earlier_fits _ d f h)) at s

-- the rows that are searched
first : (c : After-ending_by-first) → let g = c.args in c.ending_by-first.result ≡ count_ending true g.n (g.last -ℤ pos g.w.length) g.t.now
first c = searched true c.args.n c.args.w.length _ _ _ c.args.t.now c.ranges.last (omega arith) c.earlier_by.ensures c.ending_by-first.ensures

-- and where the search of them ends
end : (c : After-ending_before-end) → let g = c.args in c.ending_before-end.result ≡ count_ending false g.n (g.limit -ℤ pos g.w.length) g.t.now
end c = searched false c.args.n c.args.w.length _ _ _ c.args.t.now c.ranges.limit (omega arith) c.earlier_by-2.ensures c.ending_before-end.ensures

pub returns-then-n-first : goal.returns-then-n-first
returns-then-n-first c =
    let g = c.args in
    simp (same32 _ c.ranges.limit) (first_long g.w.since g.last g.limit g.w.operand g.w.length g.n g.t.now c.requires.0 (before (goal.at.returns-then-n-first c).Start) c.requires.3 (λ l. absurd (omega (arith, first (goal.at.returns-then-n-first c).After-ending_by-first, c.if-n-first.true))))

pub due_of-due-requires : goal.due_of-due-requires
due_of-due-requires c = omega (arith, c.if-n-first.false, c.requires.1)

pub is_waited-requires : goal.is_waited-requires
is_waited-requires c = omega (arith, c.if-n-first.false, c.requires.1)

pub returns-then-is_waited : goal.returns-then-is_waited
returns-then-is_waited c =
    let g = c.args in
    let k = first (goal.at.returns-then-is_waited c).After-ending_by-first in
    let of = sym (simp k at c.is_waited.ensures) ∙ c.if-is_waited.true in
    let fit : SFits w32 c.due_of-due.result = search rules in
    let due : c.due_of-due.result ≡ least (cell g.t.now (count_ending true g.n (g.last -ℤ pos g.w.length) g.t.now) 4 +ℤ pos g.w.length) g.limit = simp (same32 _ c.ranges.limit, k) at c.due_of-due.ensures in
    let some = simp k at c.if-n-first.false in
    subst (NextDue _ _ _) (sym (same32 _ fit ∙ due)) (first_due g.w.since g.last g.limit g.w.operand g.w.length g.n g.t.now c.requires.0 (before (goal.at.returns-then-is_waited c).Start) c.requires.3 some of)

pub returns-then-due-limit : goal.returns-then-due-limit
returns-then-due-limit c =
    let g = c.args in
    let k = first (goal.at.returns-then-due-limit c).After-ending_by-first in
    let fit : SFits w32 c.due_of-due.result = search rules in
    let due : c.due_of-due.result ≡ least (cell g.t.now (count_ending true g.n (g.last -ℤ pos g.w.length) g.t.now) 4 +ℤ pos g.w.length) g.limit = simp (same32 _ c.ranges.limit, k) at c.due_of-due.ensures in
    let same = eq_told c.due_of-due.result g.limit (eq_z_yes _ _ fit c.ranges.limit c.if-due-limit.true) in
    simp (same32 _ c.ranges.limit) (first_long g.w.since g.last g.limit g.w.operand g.w.length g.n g.t.now c.requires.0 (before (goal.at.returns-then-due-limit c).Start) c.requires.3 (λ l. omega (arith, same, eq_fact due, least_is (cell g.t.now (count_ending true g.n (g.last -ℤ pos g.w.length) g.t.now) 4 +ℤ pos g.w.length) g.limit)))

pub next_waited-i-requires : goal.next_waited-i-requires
next_waited-i-requires c =
    let g = c.args in
    let s = before (goal.at.next_waited-i-requires c).Start in
    let e = end (goal.at.next_waited-i-requires c).After-ending_before-end in
    let all : c.ending_before-end.result ≤ g.n = simp e (inside g.w.since g.last g.limit g.w.operand g.w.length g.n g.t.now c.requires.0 s c.requires.3) in
    (simp (first (goal.at.next_waited-i-requires c).After-ending_by-first, e) (few g.w.since g.last g.limit g.w.operand g.w.length g.n g.t.now c.requires.0 s c.requires.3), omega (arith, c.requires.1, all))

pub returns-then-end-i : goal.returns-then-end-i
returns-then-end-i c =
    let g = c.args in
    let e = end (goal.at.returns-then-end-i c).After-ending_before-end in
    let next = simp (first (goal.at.returns-then-end-i c).After-ending_by-first, e) at c.next_waited-i.ensures in
    simp (same32 _ c.ranges.limit) (none_found g.w.since g.last g.limit g.w.operand g.w.length g.n g.t.now c.requires.0 (before (goal.at.returns-then-end-i c).Start) c.requires.3 _ next (simp e at c.if-end-i.true))

pub due_of-requires : goal.due_of-requires
due_of-requires c =
    let g = c.args in
    let all : c.ending_before-end.result ≤ g.n = simp (end (goal.at.due_of-requires c).After-ending_before-end) (inside g.w.since g.last g.limit g.w.operand g.w.length g.n g.t.now c.requires.0 (before (goal.at.due_of-requires c).Start) c.requires.3) in
    omega (arith, c.if-end-i.false, all, c.requires.1)

pub returns : goal.returns
returns c =
    let g = c.args in
    let e = end (goal.at.returns c).After-ending_before-end in
    let next = simp (first (goal.at.returns c).After-ending_by-first, e) at c.next_waited-i.ensures in
    let value = simp (same32 _ c.ranges.limit) at c.due_of.ensures in
    let fit : SFits w32 c.due_of.result = search rules in
    subst (NextDue _ _ _) (sym (same32 _ fit ∙ value)) (found_due g.w.since g.last g.limit g.w.operand g.w.length g.n g.t.now c.requires.0 (before (goal.at.returns c).Start) c.requires.3 _ next (simp e at c.if-end-i.false))
