-- `put_row` meets its contract: five stores in a row.
use native.Mathlib.Omega.{arith}
use native.Mathlib.Numerals.{towards_suc}
use mir.Syntax.{w32}
use mir.Val.{SFits}
use Rattle.interval.proofs.Machine.{same32, pos_of}
use Rattle.table.specs.Table.{put_row}
use Rattle.table.proofs.put_row.Goals as goal

pub returns : goal.returns
unfolding put_row
returns c =
    let r = c.args.row in
    let entry : SFits w32 r.entry = record { sfits = omega arith } in
    let left : SFits w32 r.left = record { sfits = omega arith } in
    let right : SFits w32 r.right = record { sfits = omega arith } in
    let start : SFits w32 r.start = record { sfits = omega arith } in
    let end : SFits w32 r.end = record { sfits = omega arith } in
    simp (towards_suc, same32 _ entry, same32 _ left, same32 _ right, same32 _ start, same32 _ end, pos_of r.entry c.requires.1)
