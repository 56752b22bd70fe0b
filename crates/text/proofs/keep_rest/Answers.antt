-- `keep_rest` meets its contract: `copy_within` moves the bytes.
use Rattle.std.proofs.Common.{◌∙◌}
use Rattle.text.proofs.Moved.{copied_is, rest_outside, rest_none, rest_moved_lem}
use Rattle.text.proofs.keep_rest.Goals.{then-buf-to-via-then-buf-to, then-buf-to-via-else-buf-to+then-to-from}
use Rattle.text.proofs.keep_rest.Goals as goal

pub returns-then-buf-to : goal.returns-then-buf-to
returns-then-buf-to c =
    elim c.then-buf-to.branch [
      | then-buf-to-via-then-buf-to w ↦ rest_outside _ _ _ w.if-buf-to.true
      | then-buf-to-via-else-buf-to+then-to-from w ↦ rest_none _ _ _ w.if-buf-to.false w.if-to-from.true
    ]

pub returns : goal.returns
returns c = rest_moved_lem _ _ _ _ c.if-buf-to.false (c.copy_within.ensures.after ∙ copied_is c.args.from c.args.to c.args.buf.now)
