-- `clock_unchecked` meets its contract: 8, then 12, in the definition's order.
use Rattle.std.proofs.Common.{◌≡◌, false, Err, sym, ap, ap₂, ◌∙◌}
use Rattle.refusal.specs.declared.Refusal.TheVariants.{TableFull}
use Rattle.watch.specs.Answers.{answer_of}
use Rattle.watch.specs.Steps.{answered}
use Rattle.std.proofs.lemmas.Result.{err_from_is_err_and}
use Rattle.interval.specs.Instants.{is_mark_refused}
use Rattle.interval.proofs.Machine.{instant_fits, same32}
use Rattle.watch.proofs.Calls.{told, closable, clock_12, clock_taken, refused_with, parts}
use Rattle.watch.proofs.Watch.clock_unchecked.Goals.{Else-is_mark_refused}
use Rattle.watch.proofs.Watch.clock_unchecked.Goals as goal

in_time : (c : Else-is_mark_refused) → let g = c.args in is_mark_refused g.self.state.instant g.instant ≡ false
in_time c =
    let now = instant_fits _ (told c.args.chart c.args.self.state c.args.table.now c.requires).open_range in
    sym (c.is_mark_refused.ensures ∙ ap₂ is_mark_refused (same32 _ now) (same32 _ c.ranges.instant)) ∙ c.if-is_mark_refused.false

pub close-requires : goal.close-requires
close-requires c = simp (same32 _ c.ranges.instant) (closable _ _ _ _ c.requires (in_time (goal.at.close-requires c).Else-is_mark_refused))

pub returns-in_err-rows : goal.returns-in_err-rows
returns-in_err-rows c =
    let own = simp (same32 _ c.ranges.instant) at c.close.ensures in
    let late = in_time (goal.at.returns-in_err-rows c).Else-is_mark_refused in
    let q = clock_12 _ _ _ _ late (sym own.0 ∙ c.in_err-rows.ensures.ok_part) in
    let p = err_from_is_err_and c.from_residual.result c.from_residual.ensures.1 in
    let full = refused_with c.close.result TableFull c.in_err-rows.field-0.0 c.in_err-rows.ensures.value in
    let e = parts q.0 in
    (ap (answer_of c.args.self.state) (p.1 ∙ ap Err (p.2 ∙ full)) ∙ e.0, own.1 ∙ q.1 ∙ e.1)

pub returns : goal.returns
returns c =
    let own = simp (same32 _ c.ranges.instant) at c.close.ensures in
    let late = in_time (goal.at.returns c).Else-is_mark_refused in
    let q = parts (clock_taken _ _ _ _ _ late (sym own.0 ∙ c.in_ok-rows.ensures.ok_part)) in
    (ap (answered 0) (simp (same32 _ c.ranges.instant) at c.marked.ensures) ∙ q.0, own.1 ∙ q.1)
