-- `print_whole` meets its contract: the run of one piece.
use Prim.Native.Nat.{◌+◌}
use mathlib.Core.Path.{◌≡◌, sym, ap, ◌∙◌, subst}
use mathlib.Core.List.{[], ◌∷◌}
use native.Mathlib.Omega.{arith}
use lib.ListN.{length}
use Rattle.program.specs.Runs.{Reached, HasLines, Printable, after_bytes, kept_of}
use Rattle.program.specs.Statements.{whole_run}
use Rattle.program.proofs.Theorems.{whole_printable}
use Rattle.program.proofs.Reaching.{start_reached, start_lines, bytes_lines, bytes_few}
use Rattle.program.proofs.Whole.{one_piece, whole_none, whole_all}
use Rattle.program.proofs.print_whole.Goals.{After-finish-last, After-start}
use Rattle.program.proofs.print_whole.Goals as goal

-- the run before the first byte
ready : (c : After-start) → Reached (record { run = c.start.result; table = c.args.table.now }) × HasLines c.start.result (length c.args.input.now + 1)
ready c =
    let e = sym c.start.ensures in
    (subst (λ r. Reached (record { run = r; table = c.args.table.now })) e (start_reached c.args.table.now), subst (λ r. HasLines r (length c.args.input.now + 1)) e (start_lines _ (omega (arith, c.well_formed.1.0))))

-- the run of the whole input
run_is : (c : After-finish-last) → whole_run c.args.table.now (c.args.input.now ∷ []) ≡ record { run = c.finish-last.result; table = c.feed-fed.new.table }
run_is c =
    let t = c.args.table.now in
    let x = c.args.input.now in
    let e = c.feed-fed.ensures.0 ∙ ap (λ r. after_bytes (record { run = r; table = t }) x) c.start.ensures in
    let k = c.feed-fed.ensures.2 ∙ ap (λ r. kept_of (after_bytes (record { run = r; table = t }) x) x) c.start.ensures in
    one_piece x t _ _ _ e k ∙ ap (λ r. record { run = r; table = c.feed-fed.new.table }) (sym c.finish-last.ensures)

pub returns-then-out-bytes_for : goal.returns-then-out-bytes_for
returns-then-out-bytes_for c = whole_none _ _ _ _ (rw (← c.bytes_for.ensures) c.if-out-bytes_for.true)

pub feed-fed-requires : goal.feed-fed-requires
feed-fed-requires c = ready (goal.at.feed-fed-requires c).After-start

pub finish-last-requires : goal.finish-last-requires
finish-last-requires c =
    let k = ready (goal.at.finish-last-requires c).After-start in
    let e = c.feed-fed.ensures.0 in
    (bytes_lines _ _ _ k.1 e, bytes_few _ _ _ k.0 e)

pub print-requires : goal.print-requires
print-requires c = subst (λ x. Printable c.args.format x.run x.table) (run_is (goal.at.print-requires c).After-finish-last) (whole_printable c.args.table.now (c.args.input.now ∷ []) c.args.format)

pub returns : goal.returns
returns c =
    let g = c.args in
    let p = c.print.ensures in
    let w = whole_all g.input.now g.table.now g.format g.out.now (rw (← c.bytes_for.ensures) c.if-out-bytes_for.false) _ (run_is (goal.at.returns c).After-finish-last) in
    (p.0 ∙ w.0, w.1, p.1 ∙ w.2)
