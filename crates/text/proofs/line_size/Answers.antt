-- `line_size` meets its contract: the search in the window of at most 64 bytes is that of the definition.
use Rattle.std.proofs.Common.{arith, ◌∙◌}
use Rattle.text.proofs.Laws.{window_some, window_none}
use Rattle.text.proofs.line_size.Goals as goal

pub returns-in_err-end : goal.returns-in_err-end
returns-in_err-end c = c.from_residual.ensures ∙ window_none _ c.min.ensures c.find.ensures c.in_err-end.was

pub overflow_add-result : goal.overflow_add-result
overflow_add-result c = record { fits = omega (arith, (window_some _ c.min.ensures c.find.ensures _ c.in_ok-end.was).0) }

pub returns : goal.returns
returns c = (window_some _ c.min.ensures c.find.ensures _ c.in_ok-end.was).1
