-- `node_at` meets its contract: the row is in the table, and its entry among the 32.
use Rattle.std.proofs.Common.{rules, ◌≡◌, nat_abs, w32, to_z, of_z}
use Rattle.table.specs.Table.{stored_row}
use Rattle.tree.specs.Following.{node_at}
use Rattle.tree.proofs.Trees.node_at.Goals as goal

pub returns : goal.returns
unfolding node_at
returns c =
    let r = c.row_at-row.result in
    let z : to_z w32 (of_z w32 c.args.z) ≡ c.args.z = search rules in
    let read : r ≡ stored_row c.args.self.now.table.now (nat_abs c.args.z) = rw z at c.row_at-row.ensures in
    let entry : to_z w32 (of_z w32 r.entry) ≡ r.entry = search rules in
    let left : to_z w32 (of_z w32 r.left) ≡ r.left = search rules in
    let right : to_z w32 (of_z w32 r.right) ≡ r.right = search rules in
    rw (entry, left, right, read) at c.node_by.ensures
