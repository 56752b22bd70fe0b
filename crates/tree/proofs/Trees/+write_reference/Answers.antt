-- `write_reference` meets its contract: the references of a row are lower, so that the row's number falls; the pieces of a row are
-- written one behind another.
use Rattle.std.proofs.Common.{rules, ◌≡◌, ap, refl, ℕ, List, [], ◌∷◌, ◌++◌, length, ℤ, arith, w32, to_z, of_z}
use Rattle.std.proofs.Math.ListN.{length-append}
use Rattle.text.proofs.Written.{Remaining, remaining_less, remaining_last}
use Rattle.tree.specs.Tree.{reference_bytes, tree_over}
use Rattle.tree.proofs.References.{known}
use Rattle.tree.proofs.Lengths.{reference_some, one_length, two_length}
use Rattle.tree.proofs.Written.{byte_written, row_opened, row_closed, none_written}
use Rattle.tree.proofs.Trees.+write_reference.Goals.{After-write_reference-n, After-write_reference-n-in-Two, After-write_reference-m}
use Rattle.tree.proofs.Trees.+write_reference.Goals as goal

-- what is left to write behind the reference of a row of one
one_left : (t : ℕ) (c : After-write_reference-n t) → Remaining c.args.out.now c.args.at (reference_bytes (tree_over c.args.self.now.arities.now c.args.self.now.table.now) c.args.z) c.write_reference-n.new.out c.write_reference-n.result (62 ∷ [])
one_left t c =
    let part : to_z w32 (of_z w32 c.in-One.part) ≡ c.in-One.part = search rules in
    let one = known _ _ _ c.requires.0 c.ranges.z c.if-z-lt0.false _ c.in-One.ensures in
    let e = rw part at c.write_reference-n.ensures in
    remaining_less (row_opened c.args.out.now c.args.at _ _ _ one.0) _ _ refl e.0 e.1

-- behind the first reference of a row of two, and behind the second
first_left :
    (t : ℕ) (c : After-write_reference-n-in-Two t) → let R = reference_bytes (tree_over c.args.self.now.arities.now c.args.self.now.table.now) in
    Remaining c.args.out.now c.args.at (R c.args.z) c.write_reference-n-in-Two.new.out c.write_reference-n-in-Two.result (44 ∷ R c.in-Two.right ++ 62 ∷ [])
first_left t c =
    let left : to_z w32 (of_z w32 c.in-Two.left) ≡ c.in-Two.left = search rules in
    let two = known _ _ _ c.requires.0 c.ranges.z c.if-z-lt0.false _ c.in-Two.ensures in
    let e = rw left at c.write_reference-n-in-Two.ensures in
    remaining_less (row_opened c.args.out.now c.args.at _ _ _ two.0) _ _ refl e.0 e.1

second_left :
    (t : ℕ) (c : After-write_reference-m t) → let R = reference_bytes (tree_over c.args.self.now.arities.now c.args.self.now.table.now) in
    Remaining c.args.out.now c.args.at (R c.args.z) c.write_reference-n-in-Two.new.out c.write_reference-n-in-Two.result (44 ∷ R c.in-Two.right ++ 62 ∷ []) →
    Remaining c.args.out.now c.args.at (R c.args.z) c.write_reference-m.new.out c.write_reference-m.result (62 ∷ [])
second_left t c w =
    let right : to_z w32 (of_z w32 c.in-Two.right) ≡ c.in-Two.right = search rules in
    let e = rw right at c.write_reference-m.ensures in
    remaining_less (byte_written w) _ _ refl e.0 e.1

-- a reference has a byte, and there is room for it
pub bounds-out-at : goal.bounds-out-at
bounds-out-at t c = omega (arith, reference_some c.args.self.now.arities.now c.args.self.now.table.now c.args.z)

pub returns-then-z-lt0 : goal.returns-then-z-lt0
returns-then-z-lt0 t c =
    let z : to_z w32 (of_z w32 c.args.z) ≡ c.args.z = search rules in
    none_written _ _ _ _ c.args.z (rw z at c.if-z-lt0.true)

pub bounds-out-at-in-Event : goal.bounds-out-at-in-Event
bounds-out-at-in-Event t c = omega (arith, reference_some c.args.self.now.arities.now c.args.self.now.table.now c.args.z)

pub write_at-requires : goal.write_at-requires
write_at-requires t c =
    let serial : to_z w32 (of_z w32 c.in-Event.serial) ≡ c.in-Event.serial = search rules in
    let w = row_opened c.args.out.now c.args.at _ _ _ (known _ _ _ c.requires.0 c.ranges.z c.if-z-lt0.false _ c.in-Event.ensures) in
    rw serial (omega (arith, w.same, w.ends))

pub returns-in-Event : goal.returns-in-Event
returns-in-Event t c =
    let serial : to_z w32 (of_z w32 c.in-Event.serial) ≡ c.in-Event.serial = search rules in
    let w = row_opened c.args.out.now c.args.at _ _ _ (known _ _ _ c.requires.0 c.ranges.z c.if-z-lt0.false _ c.in-Event.ensures) in
    let e = rw serial at c.write_at.ensures in
    remaining_last w e.0 e.1

pub bounds-out-at-in-One : goal.bounds-out-at-in-One
bounds-out-at-in-One t c = omega (arith, reference_some c.args.self.now.arities.now c.args.self.now.table.now c.args.z)

pub write_reference-n-requires : goal.write_reference-n-requires
write_reference-n-requires t c =
    let part : to_z w32 (of_z w32 c.in-One.part) ≡ c.in-One.part = search rules in
    let one = known _ _ _ c.requires.0 c.ranges.z c.if-z-lt0.false _ c.in-One.ensures in
    let w = row_opened c.args.out.now c.args.at _ _ _ one.0 in
    let R : ℤ → List ℕ = reference_bytes (tree_over c.args.self.now.arities.now c.args.self.now.table.now) in
    rw part (omega (arith, one.1.0, c.decreases), (one.1.1, omega (arith, w.same, ap length one.0, one_length (R c.in-One.part))))

pub bounds-out-n : goal.bounds-out-n
bounds-out-n t c = let w = one_left t (goal.at.bounds-out-n t c).After-write_reference-n in omega (arith, w.same, w.ends)

pub overflow_add-result-in-One : goal.overflow_add-result-in-One
overflow_add-result-in-One t c = let w = one_left t (goal.at.overflow_add-result-in-One t c).After-write_reference-n in omega (arith, w.same, w.ends)

pub returns-in-One : goal.returns-in-One
returns-in-One t c = row_closed (one_left t (goal.at.returns-in-One t c).After-write_reference-n)

pub bounds-out-at-in-Two : goal.bounds-out-at-in-Two
bounds-out-at-in-Two t c = omega (arith, reference_some c.args.self.now.arities.now c.args.self.now.table.now c.args.z)

pub write_reference-n-requires-in-Two : goal.write_reference-n-requires-in-Two
write_reference-n-requires-in-Two t c =
    let left : to_z w32 (of_z w32 c.in-Two.left) ≡ c.in-Two.left = search rules in
    let two = known _ _ _ c.requires.0 c.ranges.z c.if-z-lt0.false _ c.in-Two.ensures in
    let w = row_opened c.args.out.now c.args.at _ _ _ two.0 in
    let R : ℤ → List ℕ = reference_bytes (tree_over c.args.self.now.arities.now c.args.self.now.table.now) in
    rw left (omega (arith, two.1.0, c.decreases), (two.1.1, omega (arith, w.same, ap length two.0, two_length (R c.in-Two.left) (R c.in-Two.right))))

pub bounds-out-n-in-Two : goal.bounds-out-n-in-Two
bounds-out-n-in-Two t c = let w = first_left t (goal.at.bounds-out-n-in-Two t c).After-write_reference-n-in-Two in omega (arith, w.same, w.ends)

pub overflow_add-n : goal.overflow_add-n
overflow_add-n t c = let w = first_left t (goal.at.overflow_add-n t c).After-write_reference-n-in-Two in omega (arith, w.same, w.ends)

pub write_reference-m-requires : goal.write_reference-m-requires
write_reference-m-requires t c =
    let right : to_z w32 (of_z w32 c.in-Two.right) ≡ c.in-Two.right = search rules in
    let two = known _ _ _ c.requires.0 c.ranges.z c.if-z-lt0.false _ c.in-Two.ensures in
    let w = byte_written (first_left t (goal.at.write_reference-m-requires t c).After-write_reference-n-in-Two) in
    let R : ℤ → List ℕ = reference_bytes (tree_over c.args.self.now.arities.now c.args.self.now.table.now) in
    rw right (omega (arith, two.2.0, c.decreases), (two.2.1, omega (arith, w.same, w.ends, length-append (R c.in-Two.right) (62 ∷ []))))

pub bounds-out-m : goal.bounds-out-m
bounds-out-m t c = let w = second_left t (goal.at.bounds-out-m t c).After-write_reference-m (first_left t (goal.at.bounds-out-m t c).After-write_reference-n-in-Two) in omega (arith, w.same, w.ends)

pub overflow_add-result-in-Two : goal.overflow_add-result-in-Two
overflow_add-result-in-Two t c = let w = second_left t (goal.at.overflow_add-result-in-Two t c).After-write_reference-m (first_left t (goal.at.overflow_add-result-in-Two t c).After-write_reference-n-in-Two) in omega (arith, w.same, w.ends)

pub returns-in-Two : goal.returns-in-Two
returns-in-Two t c = row_closed (second_left t (goal.at.returns-in-Two t c).After-write_reference-m (first_left t (goal.at.returns-in-Two t c).After-write_reference-n-in-Two))
