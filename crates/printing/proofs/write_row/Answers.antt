-- `write_row` meets its contract: the fields are written one behind the other, and then the end of the line.
use Rattle.std.proofs.Common.{ℕ, ◌+◌, List, [], ◌∷◌, set, refl, arith, rules, SFits, w32}
use mir.ValLaws.{to_z-of_z}
use Rattle.decimal.specs.Spelling.{spelled_number, spelled, spelled_instant}
use Rattle.table.specs.declared.Row.{Row}
use Rattle.printing.specs.Listing.{row_fields, row_text}
use Rattle.printing.proofs.Fields.{Told, behind, few_bytes}
use Rattle.printing.proofs.write_row.Goals as goal

row_written : (i : ℕ) (r : Row) (l : List ℕ) (n : ℕ) {o₀ o₁ o₂ o₃ o₄ o₅ : List ℕ} {k₀ k₁ k₂ k₃ k₄ k₅ : ℕ} →
    Told (spelled_number i) l n k₀ o₀ →
    Told (9 ∷ spelled r.entry) o₀ k₀ k₁ o₁ →
    Told (9 ∷ spelled r.left) o₁ k₁ k₂ o₂ →
    Told (9 ∷ spelled r.right) o₂ k₂ k₃ o₃ →
    Told (9 ∷ spelled_instant r.start) o₃ k₃ k₄ o₄ →
    Told (9 ∷ spelled_instant r.end) o₄ k₄ k₅ o₅ →
    Told (row_text i r) l n (k₅ + 1) (set o₅ k₅ 10)
row_written i r l n a b d e f g =
    behind (row_fields i r) (10 ∷ []) _ _
    (behind (spelled_number i) _ _ _ a
    (behind (9 ∷ spelled r.entry) _ _ _ b
    (behind (9 ∷ spelled r.left) _ _ _ d
    (behind (9 ∷ spelled r.right) _ _ _ e
    (behind (9 ∷ spelled_instant r.start) (9 ∷ spelled_instant r.end) _ _ f g)))))
    (refl, refl)

-- the check finds these three alone, though near its limits
pub write_field-end-requires : goal.write_field-end-requires
write_field-end-requires c = grind (arith, few_bytes)

pub bounds-out-end : goal.bounds-out-end
bounds-out-end c = grind (arith, few_bytes)

pub overflow_add-result : goal.overflow_add-result
overflow_add-result c = grind (arith, few_bytes)

pub returns : goal.returns
returns c =
    let r = c.args.row in
    let entry : SFits w32 r.entry = search rules in
    let left : SFits w32 r.left = search rules in
    let right : SFits w32 r.right = search rules in
    let start : SFits w32 r.start = search rules in
    let end : SFits w32 r.end = search rules in
    let w = row_written c.args.i r c.args.out.now c.args.at
    c.write_at-number.ensures
    (simp (to_z-of_z, entry) at c.write_field-entry.ensures)
    (simp (to_z-of_z, left) at c.write_field-left.ensures)
    (simp (to_z-of_z, right) at c.write_field-right.ensures)
    (simp (to_z-of_z, start) at c.write_field-start.ensures)
    (simp (to_z-of_z, end) at c.write_field-end.ensures) in
    (w.0, w.1, grind (arith, few_bytes))
