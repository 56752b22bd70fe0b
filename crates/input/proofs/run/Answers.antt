-- `run` meets its contract: what is handed over is what is printed for an input.
use Rattle.std.proofs.Common.{arith, rules, sym}
use Rattle.std.proofs.lemmas.Grind.{common_steps}
use lib.Seq.{length-take-le}
use Rattle.input.proofs.Laws.{counted_3000, shown_3000, handed_3000}
use Rattle.input.proofs.run.Goals as goal

pub slice_bounds-write-end : goal.slice_bounds-write-end
slice_bounds-write-end g c =
    let n = counted_3000 _ _ _ _ _ _ _ _ c.in-Ok.ensures c.requires.0 c.requires.1 in
    (shown_3000 _ _ _ _ _ _ _ _ c.in-Ok.ensures c.requires.0 c.requires.1 _ (grind (arith, common_steps, n))).0

pub slice_bounds-write-end-in-Ok : goal.slice_bounds-write-end-in-Ok
slice_bounds-write-end-in-Ok g c =
    let n = counted_3000 _ _ _ _ _ _ _ _ c.in-Ok.ensures c.requires.0 c.requires.1 in
    sym (length-take-le _ _ (shown_3000 _ _ _ _ _ _ _ _ c.in-Ok.ensures c.requires.0 c.requires.1 _ (grind (arith, common_steps, n))).0)

pub write-requires : goal.write-requires
write-requires g c =
    let n = counted_3000 _ _ _ _ _ _ _ _ c.in-Ok.ensures c.requires.0 c.requires.1 in
    (shown_3000 _ _ _ _ _ _ _ _ c.in-Ok.ensures c.requires.0 c.requires.1 _ (grind (arith, common_steps, n))).1

pub returns-in-Ok-clause-whole : goal.returns-in-Ok-clause-whole
returns-in-Ok-clause-whole g c =
    let n = counted_3000 _ _ _ _ _ _ _ _ c.in-Ok.ensures c.requires.0 c.requires.1 in
    λ z. handed_3000 _ _ _ _ _ _ _ _ c.in-Ok.ensures c.requires.0 c.requires.1 _ (grind (arith, common_steps, n)) _ _ (rw z at c.write.ensures.handed)

pub unwrap-requires : goal.unwrap-requires
unwrap-requires g c = rw (counted_3000 _ _ _ _ _ _ _ _ c.in-Ok.ensures c.requires.0 c.requires.1) (search rules)
