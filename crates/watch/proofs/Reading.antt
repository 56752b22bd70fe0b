-- The answers of the reading calls, by the tests that lead to each of them.
use Prim.Native.Nat.{ℕ, zero, suc, ◌+◌, ◌*◌, ◌-◌, ◌≤◌, ◌<◌}
use native.Mathlib.Omega.{arith}
use mathlib.Core.Path.{◌≡◌, refl, sym, ap, ◌∙◌}
use mathlib.Core.Bool.{Bool, true, false}
use mathlib.Core.List.{List, [], ◌∷◌}
use borrow.Author.Tests.{eq-eqb, ne_eqb, eqb-true, eqb-false, le-leb, lt-leb, lt-ltb, le-ltb}
use lib.Dec.{eqb}
use lib.IntN.{ℤ}
use lib.ListN.{length, take, drop}
use lib.Seq.{slice}
use Rattle.chart.specs.declared.Chart.{Chart}
use Rattle.chart.proofs.Usable.{usable_few}
use Rattle.model.proofs.Capacity.{capacity_fits}
use Rattle.table.specs.Table.{part, rows_in}
use Rattle.table.specs.Operators.{operators_of}
use Rattle.table.specs.Ends.{ending_before, ending_by}
use Rattle.tree.specs.Tree.{tree_bytes}
use Rattle.tally.specs.Tally.{report_of, refused_report}
use Rattle.tally.proofs.Laws.{report_taken, report_entries, report_tallies, length_tallies, refused_number}
use Rattle.model.specs.Order.{Row}
use Rattle.watch.specs.Steps.{check_number, end_part, end_rows, row_part, taken_tree, tree_own, tree_step, report_step}
use Rattle.state.specs.declared.WatchState.{WatchState}
use Rattle.watch.specs.declared.Part.{Part}
use Rattle.watch.proofs.Calls.{told}
use Rattle.table.proofs.EndParts.{ends_low, ends_few}

-- a part of a slice, as the code takes it
take_none : (n : ℕ) → take {A = ℤ} n [] ≡ []
take_none zero = refl
take_none (suc n) = refl

taken_slice : (a b : ℕ) (l : List ℤ) → a ≤ b → take (b - a) (drop a l) ≡ slice a b l
taken_slice zero b l h = let e : b - 0 ≡ b = omega arith in ap (λ n. take n l) e
taken_slice (suc a) zero l h = absurd (omega arith)
taken_slice (suc a) (suc b) [] h = take_none (suc b - suc a)
taken_slice (suc a) (suc b) (x ∷ l) h = let e : suc b - suc a ≡ b - a = omega arith in ap (λ n. take n (drop a l)) e ∙ taken_slice a b l (omega arith)

module _ (chart : Chart) (w : WatchState) (t : List ℤ) where
  -- the rows in use lie in the table
  pub rows_fit : check_number chart w t ≡ 0 → w.rows * 5 ≤ length t
  rows_fit z = omega (arith, (told chart w t z).ready.fit, capacity_fits (length t))

  module _ (e : ℤ) where
    abbrev a : ℕ
    a = ending_before w.rows e t

    abbrev b : ℕ
    b = ending_by w.rows e t

    pub part_read : check_number chart w t ≡ 0 → end_part chart w t e ≡ part (a * 5) (b * 5) t
    unfolding end_part
    part_read z = rw (eq-eqb (check_number chart w t) 0 z)

    pub part_refused : (check_number chart w t ≡ 0 → ⊥) → end_part chart w t e ≡ []
    unfolding end_part
    part_refused d = rw (ne_eqb (check_number chart w t) 0 d)

    pub rows_read : check_number chart w t ≡ 0 → end_rows chart w t e ≡ row_part a (b - a)
    unfolding end_rows
    rows_read z = rw (eq-eqb (check_number chart w t) 0 z)

    pub rows_refused : (check_number chart w t ≡ 0 → ⊥) → end_rows chart w t e ≡ row_part 0 0
    unfolding end_rows
    rows_refused d = rw (ne_eqb (check_number chart w t) 0 d)

    -- the row numbers lie in the table, and the part is that of these rows
    pub record InTable (r : Part) : Type 0 where
      pub fit : r.first * 5 + r.count * 5 ≤ length t
      pub is : take (r.first * 5 + r.count * 5 - r.first * 5) (drop (r.first * 5) t) ≡ end_part chart w t e

    pub part_in_table : InTable (end_rows chart w t e)
    part_in_table = go (eqb (check_number chart w t) 0) refl
      where
        go : (c : Bool) → eqb (check_number chart w t) 0 ≡ c → InTable (end_rows chart w t e)
        go true p =
            let z = eqb-true (check_number chart w t) 0 p in
            let low = ends_low e w.rows t in
            let s : a * 5 + (b - a) * 5 ≡ b * 5 = omega arith in
            rw (rows_read z) (record { fit = omega (arith, ends_few e w.rows t, rows_fit z); is = ap (λ n. take (n - a * 5) (drop (a * 5) t)) s ∙ taken_slice (a * 5) (b * 5) t (omega arith) ∙ sym (part_read z) })
        go false p =
            let d = eqb-false (check_number chart w t) 0 p in
            rw (rows_refused d) (record { fit = omega arith; is = sym (part_refused d) })

  -- a call for a tree
  module _ (i : ℕ) (out : List ℕ) where
    abbrev bytes : List ℕ
    bytes = tree_bytes (operators_of chart) t i

    pub tree_taken : i < w.rows → length bytes ≤ length out → tree_own chart w t i out ≡ taken_tree bytes out
    unfolding tree_own
    tree_taken h g = rw (lt-leb w.rows i h, le-ltb (length out) (length bytes) g)

    pub tree_passed : check_number chart w t ≡ 0 → tree_step chart w t i out ≡ tree_own chart w t i out
    unfolding tree_step
    tree_passed z = rw (eq-eqb (check_number chart w t) 0 z)

  -- a report
  pub report_passed : check_number chart w t ≡ 0 → report_step chart w t ≡ report_of chart.count (rows_in w.rows t)
  unfolding report_step
  report_passed z = rw (eq-eqb (check_number chart w t) 0 z)

  pub report_refused : (check_number chart w t ≡ 0 → ⊥) → report_step chart w t ≡ refused_report (check_number chart w t)
  unfolding report_step
  report_refused d = rw (ne_eqb (check_number chart w t) 0 d)

  -- its number is the check's
  pub report_number : (report_step chart w t).refusal ≡ check_number chart w t
  report_number = go (eqb (check_number chart w t) 0) refl
    where
      go : (b : Bool) → eqb (check_number chart w t) 0 ≡ b → (report_step chart w t).refusal ≡ check_number chart w t
      go true p = let z = eqb-true (check_number chart w t) 0 p in ap (λ r. r.refusal) (report_passed z) ∙ report_taken chart.count (rows_in w.rows t) ∙ sym z
      go false p = ap (λ r. r.refusal) (report_refused (eqb-false (check_number chart w t) 0 p)) ∙ refused_number (check_number chart w t)

  -- it has no more entries than tallies
  pub report_few : check_number chart w t ≡ 0 → (report_of chart.count (rows_in w.rows t)).entries ≤ 32
  report_few z = rw (report_entries chart.count (rows_in w.rows t)) (usable_few chart (told chart w t z).ready.usable)

-- and as many are shown
pub report_shown : (n : ℕ) (rs : List Row) → (report_of n rs).entries ≡ length (take (report_of n rs).entries (report_of n rs).tallies)
report_shown n rs = rw (report_tallies n rs, length_tallies n rs, report_entries n rs)
