-- `rest_behind` meets its contract: the references of a row are lower, so that the row's number falls; what is left behind a row is what is left behind its
-- delimiters and its references.
use Rattle.std.proofs.Common.{rules, ◌≡◌, ◌∙◌, sym, ap, ℕ, ◌+◌, List, length, ℤ, arith, w32, to_z, of_z}
use Rattle.decimal.specs.Spelling.{spelled}
use Rattle.tree.specs.Tree.{reference_bytes, tree_over}
use Rattle.tree.specs.Following.{rest_of}
use Rattle.tree.proofs.References.{known}
use Rattle.tree.proofs.Lengths.{one_length, two_length, none_told, some_told, rest_none, rest_is, rest_more, minus_length}
use Rattle.tree.proofs.Trees.+rest_behind.Goals as goal

pub returns-then-z-lt0 : goal.returns-then-z-lt0
returns-then-z-lt0 t c =
    let z : to_z w32 (of_z w32 c.args.z) ≡ c.args.z = search rules in
    rw (minus_length c.args.self.now.arities.now c.args.self.now.table.now c.args.z (rw z at c.if-z-lt0.true)) (rest_is c.args.limit 1 _ c.checked_sub.ensures)

pub returns-in-Event : goal.returns-in-Event
returns-in-Event t c =
    let serial : to_z w32 (of_z w32 c.in-Event.serial) ≡ c.in-Event.serial = search rules in
    let event = known _ _ _ c.requires c.ranges.z c.if-z-lt0.false _ c.in-Event.ensures in
    rest_is c.args.limit _ _ c.checked_sub-in-Event.ensures ∙ ap (rest_of c.args.limit) (omega (arith, ap (λ s. length (spelled s)) serial, ap length event))

pub returns-in_err-checked_sub-in-One : goal.returns-in_err-checked_sub-in-One
returns-in_err-checked_sub-in-One t c =
    let R : ℤ → List ℕ = reference_bytes (tree_over c.args.self.now.arities.now c.args.self.now.table.now) in
    let one = known _ _ _ c.requires c.ranges.z c.if-z-lt0.false _ c.in-One.ensures in
    c.from_residual.ensures ∙ sym (rest_none _ _ (omega (arith, ap length one.0, one_length (R c.in-One.part), c.in_err-checked_sub-in-One.ensures)))

pub rest_behind-requires : goal.rest_behind-requires
rest_behind-requires t c =
    let part : to_z w32 (of_z w32 c.in-One.part) ≡ c.in-One.part = search rules in
    let one = known _ _ _ c.requires c.ranges.z c.if-z-lt0.false _ c.in-One.ensures in
    rw part (omega (arith, one.1.0, c.decreases), one.1.1)

pub returns-in_ok-checked_sub-in-One : goal.returns-in_ok-checked_sub-in-One
returns-in_ok-checked_sub-in-One t c =
    let part : to_z w32 (of_z w32 c.in-One.part) ≡ c.in-One.part = search rules in
    let one = known _ _ _ c.requires c.ranges.z c.if-z-lt0.false _ c.in-One.ensures in
    rw part at c.rest_behind.ensures ∙ rest_more c.args.limit 2 _ _ (omega (arith, c.in_ok-checked_sub-in-One.ensures)) ∙ ap (rest_of c.args.limit) (sym (ap length one.0 ∙ one_length _))

pub returns-in_err-checked_sub-in-Two : goal.returns-in_err-checked_sub-in-Two
returns-in_err-checked_sub-in-Two t c =
    let R : ℤ → List ℕ = reference_bytes (tree_over c.args.self.now.arities.now c.args.self.now.table.now) in
    let two = known _ _ _ c.requires c.ranges.z c.if-z-lt0.false _ c.in-Two.ensures in
    c.from_residual-in_err-checked_sub-in-Two.ensures ∙ sym (rest_none _ _ (omega (arith, ap length two.0, two_length (R c.in-Two.left) (R c.in-Two.right), c.in_err-checked_sub-in-Two.ensures)))

pub rest_behind-requires-in-Two : goal.rest_behind-requires-in-Two
rest_behind-requires-in-Two t c =
    let left : to_z w32 (of_z w32 c.in-Two.left) ≡ c.in-Two.left = search rules in
    let two = known _ _ _ c.requires c.ranges.z c.if-z-lt0.false _ c.in-Two.ensures in
    rw left (omega (arith, two.1.0, c.decreases), two.1.1)

pub returns-in_err-rest-in-Two : goal.returns-in_err-rest-in-Two
returns-in_err-rest-in-Two t c =
    let R : ℤ → List ℕ = reference_bytes (tree_over c.args.self.now.arities.now c.args.self.now.table.now) in
    let left : to_z w32 (of_z w32 c.in-Two.left) ≡ c.in-Two.left = search rules in
    let two = known _ _ _ c.requires c.ranges.z c.if-z-lt0.false _ c.in-Two.ensures in
    let over = none_told _ _ (sym (rw left at c.in_err-rest-in-Two.ensures)) in
    c.from_residual-in_err-rest-in-Two.ensures ∙ sym (rest_none _ _ (omega (arith, ap length two.0, two_length (R c.in-Two.left) (R c.in-Two.right), c.in_ok-checked_sub-in-Two.ensures, over)))

pub rest_behind-requires-in-Two-2 : goal.rest_behind-requires-in-Two-2
rest_behind-requires-in-Two-2 t c =
    let right : to_z w32 (of_z w32 c.in-Two.right) ≡ c.in-Two.right = search rules in
    let two = known _ _ _ c.requires c.ranges.z c.if-z-lt0.false _ c.in-Two.ensures in
    rw right (omega (arith, two.2.0, c.decreases), two.2.1)

pub returns-in_ok-rest-in-Two : goal.returns-in_ok-rest-in-Two
returns-in_ok-rest-in-Two t c =
    let left : to_z w32 (of_z w32 c.in-Two.left) ≡ c.in-Two.left = search rules in
    let right : to_z w32 (of_z w32 c.in-Two.right) ≡ c.in-Two.right = search rules in
    let two = known _ _ _ c.requires c.ranges.z c.if-z-lt0.false _ c.in-Two.ensures in
    let first = some_told _ _ c.in_ok-rest-in-Two.rest (sym (rw left at c.in_ok-rest-in-Two.ensures)) in
    rw right at c.rest_behind-in-Two-2.ensures ∙ rest_more c.args.limit _ _ _ (omega (arith, first, c.in_ok-checked_sub-in-Two.ensures)) ∙ ap (rest_of c.args.limit) (sym (ap length two.0 ∙ two_length _ _))
