-- `keep_rows` meets its contract: each turn marks one row, and keeps or drops it.
use Rattle.std.proofs.Common.{refl, sym, ◌∙◌, arith}
use Rattle.interval.proofs.Machine.{same32}
use Rattle.forgetting.proofs.Walk.{walk_holds, walk_small, walk_asks, walk_kept, walk_dropped, walk_ends}
use Rattle.forgetting.proofs.keep_rows.Goals.{then-not-is_early, else-not-is_early}
use Rattle.forgetting.proofs.keep_rows.Goals as goal

pub loop-i-init : goal.loop-i-init
loop-i-init c = let f = c.ranges.floor in simp (same32, f) (walk_holds _ c.requires.0 _ c.requires.1 c.requires.2)

pub bounds-arities-entry : goal.bounds-arities-entry
bounds-arities-entry c = walk_small _ c.requires.0 c.loop-i.invariant c.loop-i-test.true _ c.mark_row-entry.ensures.0

pub move_row-requires : goal.move_row-requires
move_row-requires c = walk_asks _ c.requires.0 c.loop-i.invariant c.loop-i-test.true _ _ _ c.mark_row-entry.ensures.0 refl c.mark_row-entry.ensures.1

pub loop-i-preserved : goal.loop-i-preserved
loop-i-preserved c =
    elim c.if-not-is_early.branch [
      | then-not-is_early w ↦
          rw (w.table-is, w.kept-is) (walk_kept _ c.requires.0 c.loop-i.invariant c.loop-i-test.true _ _ _ _ c.mark_row-entry.ensures.0 refl c.mark_row-entry.ensures.1 (sym c.is_early.ensures ∙ w.if-not-is_early.true) w.move_row.ensures)
      | else-not-is_early w ↦
          rw (w.table-is, w.kept-is) (walk_dropped _ c.requires.0 c.loop-i.invariant c.loop-i-test.true _ c.mark_row-entry.ensures.1 (sym c.is_early.ensures ∙ w.if-not-is_early.false))
    ]

pub returns : goal.returns
returns c =
    let f = c.ranges.floor in
    walk_ends _ c.requires.0 (simp (same32, f) at c.loop-i.invariant) (omega (arith, c.loop-i.invariant.within)) c.requires.1 c.requires.2
