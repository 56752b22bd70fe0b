-- An input in one piece: what `print_whole` answers and writes.
use Prim.Native.Nat.{ℕ, ◌-◌, ◌≤◌, ◌<◌}
use native.Mathlib.Omega.{arith}
use mathlib.Core.Path.{◌≡◌, refl, sym, ap, ◌∙◌}
use mathlib.Core.Bool.{Bool, true, false, cond}
use Rattle.std.specs.Option.{unwrap_or}
use Rattle.std.specs.Prelude.{Some, None}
use Rattle.printing.specs.Listing.{written_where}
use Rattle.text.specs.Output.{length_where}
use mathlib.Core.List.{List, [], ◌∷◌, ◌++◌, append-nil}
use borrow.Author.Tests.{le-leb, lt-leb}
use lib.IntN.{ℤ}
use lib.ListN.{length, take, drop, length-drop, length-append}
use Rattle.text.proofs.Written.{length_room, output_room, output_no_room, front_is_text}
use Rattle.table.specs.Table.{room_in}
use Rattle.program.specs.declared.Format.{Format}
use Rattle.program.specs.Outcomes.{printed_for}
use Rattle.program.specs.Runs.{Progress, start_run, after_bytes, kept_of, fed, fed_all, finished, finished_run, printed_length, printed_output}
use Rattle.text.specs.Text.{joined}
use Rattle.program.specs.Statements.{whole_run, bytes_for, has_room, whole_count, whole_length, whole_output, whole_table}
use Rattle.program.specs.declared.Run.{Run}
use Rattle.program.proofs.Pieces.{between, pieces_joined}
use Rattle.program.proofs.Reading.{finished_run_lem}
use Rattle.program.proofs.Theorems.{program_holds}

one : (input : List ℕ) → joined (input ∷ []) ≡ input
unfolding joined
one input = append-nil input

module _ (f : Format) (t : List ℤ) (out : List ℕ) where
  pub has_room_lem : bytes_for f (room_in t) ≤ length out → has_room f t out ≡ true
  unfolding has_room
  has_room_lem h = le-leb (bytes_for f (room_in t)) (length out) h

  has_no_room : length out < bytes_for f (room_in t) → has_room f t out ≡ false
  unfolding has_room
  has_no_room h = lt-leb (bytes_for f (room_in t)) (length out) h

-- pieces, and the same in one
pub one_run : (t : List ℤ) (pieces : List (List ℕ)) → whole_run t (joined pieces ∷ []) ≡ whole_run t pieces
one_run t pieces =
    let p : Progress = record { run = start_run; table = t } in
    ap (λ b. finished b.progress b.kept) (pieces_joined p (joined pieces ∷ []) ∙ ap (between p) (one (joined pieces)) ∙ sym (pieces_joined p pieces))

module _ (input : List ℕ) (t : List ℤ) where
  abbrev first : Progress
  first = record { run = start_run; table = t }

  -- the run of one piece, as the code comes to it
  pub one_piece : (f : Run) (u : List ℤ) (used : ℕ) → record { run = f; table = u } ≡ after_bytes first input → drop used input ≡ kept_of (after_bytes first input) input → whole_run t (input ∷ []) ≡ record { run = finished_run f (length input - used); table = u }
  unfolding fed_all fed
  one_piece f u used e k =
      let p = after_bytes first input in
      let n : length (kept_of p input) ≡ length input - used = ap length (sym k) ∙ length-drop used input in
      finished_run_lem p (kept_of p input) ∙ ap (λ m. record { run = finished_run p.run m; table = p.table }) n ∙ ap (λ x. record { run = finished_run x.run (length input - used); table = x.table }) (sym e)

  module _ (f : Format) (out : List ℕ) where
    abbrev text : List ℕ
    text = printed_for f (room_in t) input

    pub whole_none : length out < bytes_for f (room_in t) → (None ≡ whole_count f input t out) × (t ≡ whole_table f input t out) × (out ≡ whole_output f input t out)
    unfolding whole_count whole_table whole_output written_where
    whole_none h = let e = has_no_room f t out h in (rw e, rw e, sym (output_no_room (has_room f t out) text out e))

    pub whole_all : bytes_for f (room_in t) ≤ length out → (w : Progress) → whole_run t (input ∷ []) ≡ w → (printed_length f w.run w.table out ≡ whole_count f input t out) × (w.table ≡ whole_table f input t out) × (printed_output f w.run w.table out ≡ whole_output f input t out)
    unfolding whole_count whole_table whole_output written_where
    whole_all h w e =
        let y = has_room_lem f t out h in
        let g = program_holds f t (input ∷ []) out h in
        (ap (λ x. printed_length f x.run x.table out) (sym e) ∙ g.bytes ∙ rw (one input, y), rw y (ap (λ x. x.table) (sym e)), ap (λ x. printed_output f x.run x.table out) (sym e) ∙ g.output ∙ ap (λ x. printed_for f (room_in t) x ++ drop (length (printed_for f (room_in t) x)) out) (one input) ∙ sym (output_room (has_room f t out) text out y))

    -- as a number
    pub whole_number : unwrap_or (whole_count f input t out) 0 ≡ whole_length f input t out
    unfolding whole_count whole_length written_where length_where
    whole_number = go (has_room f t out)
      where
        go : (b : Bool) → unwrap_or (cond b (Some (length text)) None) 0 ≡ cond b (length text) 0
        go true = refl
        go false = refl

    -- what stands at the front of the output
    pub whole_front : bytes_for f (room_in t) ≤ length out → (whole_length f input t out ≤ length (whole_output f input t out)) × (take (whole_length f input t out) (whole_output f input t out) ≡ text)
    unfolding whole_length whole_output
    whole_front h =
        let y = has_room_lem f t out h in
        (rw (length_room (has_room f t out) text out y, output_room (has_room f t out) text out y) (omega (arith, length-append text (drop (length text) out))), front_is_text (has_room f t out) text out y)
