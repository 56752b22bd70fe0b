-- `is_pair_row` meets its contract, by the two rows found.
use Rattle.std.proofs.Common.{rules, ◌≡◌, ◌∙◌, sym, Some, w32, to_z, of_z}
use Rattle.consistency.specs.Rows.{part_at, is_pair_row}
use Rattle.consistency.proofs.is_pair_row.Goals as goal

pub returns-then-spans_parts : goal.returns-then-spans_parts
unfolding is_pair_row
returns-then-spans_parts c =
    let left : to_z w32 (of_z w32 c.args.row.left) ≡ c.args.row.left = search rules in
    let right : to_z w32 (of_z w32 c.args.row.right) ≡ c.args.row.right = search rules in
    let p : part_at c.args.lower.now c.args.row.left c.args.a ≡ Some c.in-Some.p = rw left at (sym c.part_at.ensures ∙ c.in-Some.is) in
    let q : part_at c.args.lower.now c.args.row.right c.args.b ≡ Some c.in-Some-part_at.q = rw right at (sym c.part_at-2.ensures ∙ c.in-Some-part_at.is) in
    rw (p, q, sym c.spans_parts.ensures ∙ c.if-spans_parts.true) c.meets_condition.ensures

pub returns-else-spans_parts : goal.returns-else-spans_parts
unfolding is_pair_row
returns-else-spans_parts c =
    let left : to_z w32 (of_z w32 c.args.row.left) ≡ c.args.row.left = search rules in
    let right : to_z w32 (of_z w32 c.args.row.right) ≡ c.args.row.right = search rules in
    let p : part_at c.args.lower.now c.args.row.left c.args.a ≡ Some c.in-Some.p = rw left at (sym c.part_at.ensures ∙ c.in-Some.is) in
    let q : part_at c.args.lower.now c.args.row.right c.args.b ≡ Some c.in-Some-part_at.q = rw right at (sym c.part_at-2.ensures ∙ c.in-Some-part_at.is) in
    rw (p, q, sym c.spans_parts.ensures ∙ c.if-spans_parts.false) c.if-spans_parts.false
