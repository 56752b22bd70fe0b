-- `restore` meets its contract: each turn takes the mark off one row.
use Rattle.std.proofs.Common.{◌∙◌, ap, ◌*◌, ◌%◌, set, pos, arith}
use Rattle.forgetting.proofs.Restored.{restored_none, restored_step, restored_cell}
use Rattle.forgetting.proofs.restore.Goals as goal

pub loop-i-init : goal.loop-i-init
loop-i-init c = restored_none c.args.first c.args.table.now (λ j h. c.requires.above j (omega (arith, c.requires.low))) c.requires.plain

pub entry_at-entry-requires : goal.entry_at-entry-requires
entry_at-entry-requires c =
    let l = c.loop-i in
    record {
      few = omega (arith, c.requires.few);
      fit = omega (arith, c.requires.fit);
      above = rw (restored_cell l.i l.i c.args.table.now l.table l.invariant (omega arith)) (c.requires.above l.i (omega arith));
    }

pub loop-i-preserved : goal.loop-i-preserved
loop-i-preserved c =
    let l = c.loop-i in
    c.put_entry.ensures ∙ ap (λ n. set l.table (l.i * 5) (pos (n % 32))) c.entry_at-entry.ensures ∙ restored_step l.i c.args.table.now l.table l.invariant (omega (arith, c.requires.fit))
