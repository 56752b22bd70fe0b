-- `move_row` meets its contract: the row written is the row read, with its references renumbered unless it is an event's.
use Rattle.std.proofs.Common.{rules, ◌≡◌, ◌∙◌, ℕ, ◌+◌, ◌*◌, false, Bool, List, ap, pos, nat_abs, ℤ, arith, w32, to_z, of_z}
use Rattle.std.specs.Int.Signed.{lt_z}
use Rattle.std.proofs.Math.Facts.{to_z_pos}
use Rattle.table.specs.declared.Row.{Row}
use Rattle.table.specs.Ready.{Refers}
use Rattle.table.proofs.Ready.{refers_below}
use Rattle.forgetting.specs.Walk.{moved_row, HasMark, Movable}
use Rattle.table.specs.Table.{model_row, put_row}
use Rattle.forgetting.proofs.Marks.{pos_above}
use Rattle.forgetting.proofs.References.{moved_event, moved_other}
use Rattle.forgetting.proofs.move_row.Goals.{then-not-event, else-not-event}
use Rattle.forgetting.proofs.move_row.Goals as goal

-- the row that a reference is to has its mark
there : {event : Bool} {i p e : ℕ} {t : List ℤ} → Movable event i p e t → (z y : ℤ) → to_z w32 (of_z w32 z) ≡ z → z ≡ y → Refers i y → lt_z (to_z w32 (of_z w32 z)) (pos 0) ≡ false → HasMark t (nat_abs (to_z w32 (of_z w32 z)))
there {i} m z y f e r = rw (f, e) (λ q. m.marks (nat_abs y) (omega (arith, refers_below i y r q)))

pub place_of-requires : goal.place_of-requires
place_of-requires c =
    there c.requires _ _ (search rules) (ap (λ (r : Row). r.left) c.row_at-row.ensures) (c.requires.left c.if-not-event.true)

pub place_of-requires-then-not-event : goal.place_of-requires-then-not-event
place_of-requires-then-not-event c = there c.requires _ _ (search rules) (ap (λ (r : Row). r.right) c.row_at-row.ensures) c.requires.right

pub put_row-requires : goal.put_row-requires
put_row-requires c =
    let few = (c.requires.marks c.args.p (omega (arith, c.requires.lower))).lower in
    let entry = to_z_pos w32 {n = c.args.entry + c.shift_at.result * 32} (omega (arith, c.requires.small, c.requires.few, c.requires.lower, few, c.shift_at.ensures)) in (
      omega (arith, c.requires.fit, c.requires.lower),
      elim c.if-not-event.branch [ then-not-event w ↦ rw (w.row-is, entry) (pos_above _) | else-not-event w ↦ rw (w.row-is, entry) (pos_above _) ],
    )

pub returns : goal.returns
returns c =
    let t = c.args.table.now in
    let r = c.row_at-row.result in
    let few = (c.requires.marks c.args.p (omega (arith, c.requires.lower))).lower in
    let entry = to_z_pos w32 {n = c.args.entry + c.shift_at.result * 32} (omega (arith, c.requires.small, c.requires.few, c.requires.lower, few, c.shift_at.ensures)) ∙ ap (λ n. pos (c.args.entry + n * 32)) c.shift_at.ensures in
    let left : to_z w32 (of_z w32 r.left) ≡ r.left = search rules in
    let right : to_z w32 (of_z w32 r.right) ≡ r.right = search rules in
    let same : model_row c.if-not-event.row ≡ moved_row c.args.event c.args.i c.args.p c.args.entry t = elim c.if-not-event.branch [
      | then-not-event w ↦
          let a : to_z w32 (of_z w32 w.place_of.result) ≡ w.place_of.result = search rules in
          let b : to_z w32 (of_z w32 w.place_of-then-not-event.result) ≡ w.place_of-then-not-event.result = search rules in
          rw (w.row-is, a, b) (moved_other _ c.args.i c.args.p c.args.entry t r c.row_at-row.ensures _ entry _ _ w.if-not-event.true (rw left at w.place_of.ensures) (rw right at w.place_of-then-not-event.ensures))
      | else-not-event w ↦ rw w.row-is (moved_event _ c.args.i c.args.p c.args.entry t r c.row_at-row.ensures _ entry w.if-not-event.false)
    ] in
    c.put_row.ensures ∙ ap (λ q. put_row c.args.p q t) same
