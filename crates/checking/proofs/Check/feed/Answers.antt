-- `feed` meets its contract: each turn checks one line, and what is left to do gives the whole answer.
use native.Mathlib.Omega.{arith}
use mathlib.Core.Path.{sym, ◌∙◌}
use lib.ListN.{length-drop}
use lib.Seq.{length-take-le}
use Rattle.text.proofs.Laws.{part_from, first_part}
use Rattle.checking.proofs.Checking.{feeding_start, feeding_next, feeding_long, feeding_short}
use Rattle.checking.proofs.Check.feed.Goals as goal

pub loop-size-init : goal.loop-size-init
loop-size-init c = feeding_start _ _

pub slice_bounds-read_call-count : goal.slice_bounds-read_call-count
slice_bounds-read_call-count c = (first_part _ _ (sym c.line_size.ensures ∙ c.in-Some.is)).some

pub slice_bounds-read_call-length : goal.slice_bounds-read_call-length
slice_bounds-read_call-length c =
    let e = sym c.line_size.ensures ∙ c.in-Some.is in
    sym (length-take-le _ _ (omega (arith, (first_part _ _ e).inside)))

pub slice_bounds-rest-count : goal.slice_bounds-rest-count
slice_bounds-rest-count c = (first_part _ _ (sym c.line_size.ensures ∙ c.in-Some.is)).inside

pub slice_bounds-rest-start : goal.slice_bounds-rest-start
slice_bounds-rest-start c = (first_part _ _ (sym c.line_size.ensures ∙ c.in-Some.is)).inside

pub loop-size-smaller : goal.loop-size-smaller
loop-size-smaller c =
    let e = sym c.line_size.ensures ∙ c.in-Some.is in
    simp part_from (omega (arith, length-drop c.in-Some.size c.loop-size.rest.now, (first_part _ _ e).some, (first_part _ _ e).inside))

pub loop-size-preserved : goal.loop-size-preserved
loop-size-preserved c =
    let e = sym c.line_size.ensures ∙ c.in-Some.is in
    simp (part_from, c.after-check.ensures, c.read_call.ensures.0) (feeding_next _ _ _ _ c.loop-size.invariant _ e)

pub returns-then-rest-ge64 : goal.returns-then-rest-ge64
returns-then-rest-ge64 c =
    let none = sym c.line_size.ensures ∙ c.in_default.is in
    rw c.after.ensures (feeding_long _ _ _ _ c.loop-size.invariant none c.if-rest-ge64.true)

pub returns : goal.returns
returns c =
    let none = sym c.line_size.ensures ∙ c.in_default.is in
    feeding_short _ _ _ _ c.loop-size.invariant none c.if-rest-ge64.false
