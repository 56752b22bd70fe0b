-- The statement of specs/Statements.antt.
use Prim.Native.Nat.{ℕ, ◌≤◌}
use mathlib.Core.Path.{◌≡◌, sym, ap, ◌∙◌, subst}
use mathlib.Core.List.{List}
use lib.IntN.{ℤ}
use lib.ListN.{length}
use Rattle.text.specs.Text.{lines, joined}
use Rattle.model.specs.Capacity.{capacity}
use Rattle.table.specs.Table.{room_in}
use Rattle.program.specs.Outcomes.{outcome_text, printed_for}
use Rattle.program.specs.Runs.{Progress, start_run, finished, Printable, result_of}
use Rattle.program.specs.Statements.{whole_run, bytes_for, ProgramHolds}
use Rattle.program.specs.declared.Format.{Format}
use Rattle.program.proofs.Pieces.{at_end, after_lines, pieces_joined, finished_lines}
use Rattle.program.proofs.Playing.{lines_play}
use Rattle.program.proofs.Reaching.{start_reached}
use Rattle.program.proofs.Printing.{Prints, lines_on, lines_length, end_prints, end_printable}

module _ (t : List ℤ) (pieces : List (List ℕ)) where
  abbrev p : Progress
  p = record { run = start_run; table = t }

  -- the run before its end
  abbrev q : Progress
  q = after_lines p (lines (joined pieces))

  run_is : whole_run t pieces ≡ at_end q
  run_is = ap (λ b. finished b.progress b.kept) (pieces_joined p pieces) ∙ finished_lines p (joined pieces)

  text_is : (f : Format) → outcome_text f (result_of (at_end q)) ≡ printed_for f (room_in t) (joined pieces)
  unfolding printed_for
  text_is f = ap (outcome_text f) (lines_play t (lines (joined pieces)))

  prints : (f : Format) (out : List ℕ) → bytes_for f (room_in t) ≤ length out → Prints f (whole_run t pieces) out (printed_for f (room_in t) (joined pieces))
  prints f out h =
      let size : length q.table ≡ length t = lines_length p (lines (joined pieces)) (start_reached t) in
      let room : bytes_for f (room_in q.table) ≤ length out = subst (λ n. bytes_for f (capacity n) ≤ length out) (sym size) h in
      let e : Prints f (at_end q) out (outcome_text f (result_of (at_end q))) = end_prints f q out (lines_on p (lines (joined pieces)) (start_reached t)) room in
      subst (λ x. Prints f x out (printed_for f (room_in t) (joined pieces))) (sym run_is) (subst (Prints f (at_end q) out) (text_is f) e)

  pub whole_printable : (f : Format) → Printable f (whole_run t pieces).run (whole_run t pieces).table
  whole_printable f = subst (λ x. Printable f x.run x.table) (sym run_is) (end_printable f q (lines_on p (lines (joined pieces)) (start_reached t)))

pub program_holds : ProgramHolds
program_holds f t pieces out h = let e = prints t pieces f out h in record { bytes = e.0; output = e.1 }
