-- What a reading loop comes to, piece by piece.
use Prim.Native.Nat.{ℕ, ◌+◌, ◌≤◌, ◌<◌}
use native.Mathlib.Omega.{arith}
use mathlib.Core.Path.{◌≡◌, refl, sym, ap, ◌∙◌, subst}
use mathlib.Core.Bool.{true, false}
use mathlib.Core.List.{List, [], ◌∷◌, ◌++◌, append_assoc, append-nil}
use lib.IntN.{ℤ}
use lib.ListN.{length, take, drop, length-append}
use lib.Seq.{length-take-le, take-add, take-length, take-append_seam}
use Rattle.std.specs.Prelude.{Option, None, Some, Result, Ok, Err, IsErr, IfSome, is_ok, ⊤}
use Rattle.std.specs.declared.io.Error.{Error}
use Rattle.std.specs.Io.KnownBytes.{Appends, Consumes, IsAtEnd}
use Rattle.std.proofs.lemmas.Grind.{common_steps}
use Rattle.interval.proofs.Signed.{never}
use Rattle.text.specs.Output.{rest_length, rest_moved}
use Rattle.text.proofs.Written.{output_room}
use Rattle.text.proofs.Moved.{rest_front}
use Rattle.printing.specs.Listing.{written_where}
use Rattle.model.proofs.Capacity.{capacity_fits, capacity_all}
use Rattle.table.specs.Table.{room_in}
use Rattle.program.specs.Outcomes.{printed_for}
use Rattle.program.specs.Runs.{Progress, start_run, Between, fed, finished, finished_run, printed_length, printed_output, after_bytes, kept_of, is_refused, Printable}
use Rattle.text.specs.Text.{joined}
use Rattle.program.specs.Statements.{fed_run, whole_run, bytes_for, has_room, whole_count, whole_output}
use Rattle.program.specs.declared.Format.{Format}
use Rattle.program.specs.declared.Run.{Run}
use Rattle.program.proofs.Pieces.{Stopped, between, line_stopped, end_stopped, bytes_stopped, fed_nothing, fed_one, fed_more}
use Rattle.program.proofs.Reading.{finished_run_lem}
use Rattle.program.proofs.Theorems.{whole_printable}
use Rattle.program.proofs.Whole.{one_run, has_room_lem, whole_none, whole_all}
use Rattle.reading.specs.Readings.{Hands}
use Rattle.input.specs.Inputs.{held, OfReader, OfInput, PrintsInput, Printout}

-- pieces put together
joined_one : (x : List ℕ) → joined (x ∷ []) ≡ x
unfolding joined
joined_one x = append-nil x

joined_more : (ps : List (List ℕ)) (x : List ℕ) → joined (ps ++ (x ∷ [])) ≡ joined ps ++ x
unfolding joined
joined_more [] x = append-nil x
joined_more (p ∷ ps) x = ap (λ s. p ++ s) (joined_more ps x) ∙ sym (append_assoc p (joined ps) x)

-- the bytes that are left, where they are known
left_of : Option (List ℕ) → List ℕ
left_of None = []
left_of (Some q) = q

-- what the loop has after some pieces
pub record Fed (before after : Option (List ℕ)) (t : List ℤ) (b : Between) : Type 0 where
  pub pieces : List (List ℕ)
  pub taken : Consumes before after (joined pieces)
  pub same : b ≡ fed_run t pieces

pub fed_none : (before : Option (List ℕ)) (t : List ℤ) (r : Run) (buf : List ℕ) → r ≡ start_run → Fed before before t (held r t 0 buf)
unfolding joined
fed_none before t r buf e = record {
  pieces = [];
  taken = grind (arith, common_steps);
  same = ap (λ x. held x t 0 buf) e ∙ sym (fed_nothing _);
}

module _ {before between : Option (List ℕ)} {t : List ℤ} {b : Between} (f : Fed before between t b) (after : Option (List ℕ)) where
  -- one piece more
  pub fed_piece : (piece : List ℕ) → Consumes between after piece → Fed before after t (fed b piece)
  fed_piece piece h = record {
    pieces = f.pieces ++ (piece ∷ []);
    taken = let k = f.taken in rw (joined_more f.pieces piece) (grind (arith, common_steps));
    same = ap (λ x. fed x piece) f.same ∙ sym (fed_more _ f.pieces piece);
  }

  -- nothing came
  pub fed_end : Consumes between after [] → Fed before after t b
  fed_end h = record {
    pieces = f.pieces;
    taken = let k = f.taken in grind (arith, common_steps);
    same = f.same;
  }

-- the same in another buffer that keeps the bytes
pub fed_same : {before after : Option (List ℕ)} {t u : List ℤ} {r : Run} (kept : ℕ) (buf into : List ℕ) → take kept into ≡ take kept buf → Fed before after t (held r u kept buf) → Fed before after t (held r u kept into)
fed_same {before} {after} {t} {u} {r} kept buf into e f = subst (λ k. Fed before after t (record { progress = record { run = r; table = u }; kept = k })) (sym e) f

-- a run that was refused is what it is, whatever comes
finished_stopped : (p : Progress) (k : List ℕ) → Stopped p → finished p k ≡ p
unfolding finished
finished_stopped p [] e = end_stopped p e
finished_stopped p (b ∷ s) e = line_stopped p _ e

stopped_more : (t : List ℤ) (pieces : List (List ℕ)) (x : List ℕ) → Stopped (fed_run t pieces).progress → whole_run t (pieces ++ (x ∷ [])) ≡ whole_run t pieces
stopped_more t pieces x e =
    let b = fed_run t pieces in
    let same : (fed b x).progress ≡ b.progress = ap (λ y. y.progress) (fed_one b x) ∙ bytes_stopped b.progress (b.kept ++ x) e in
    let still : Stopped (fed b x).progress = ap (λ y. is_refused y.run.stage) same ∙ e in
    ap (λ y. finished y.progress y.kept) (fed_more _ pieces x) ∙ finished_stopped (fed b x).progress (fed b x).kept still ∙ same ∙ sym (finished_stopped b.progress b.kept e)

-- the input has ended
pub ended : {before after : Option (List ℕ)} {t u : List ℤ} {r : Run} {kept : ℕ} (buf : List ℕ) → Fed before after t (held r u kept buf) → kept ≤ length buf → IsAtEnd after → OfInput before after t (finished_run r kept) (Ok tt) u
ended {before} {after} {t} {u} {r} {kept} buf f h e = record {
  pieces = f.pieces;
  from = record { whole = λ y. let k = f.taken in grind (arith, common_steps); front = λ y. never y };
  same =
      ap (λ n. record { run = finished_run r n; table = u }) (sym (length-take-le kept buf h))
      ∙ sym (finished_run_lem (record { run = r; table = u }) (take kept buf))
      ∙ ap (λ b. finished b.progress b.kept) f.same;
}

-- the run is refused
pub refused : {before after : Option (List ℕ)} {t u : List ℤ} {r : Run} {b : Between} → Fed before after t b → record { run = r; table = u } ≡ b.progress → is_refused r.stage ≡ true → OfInput before after t r (Ok tt) u
unfolding left_of
refused {before} {after} {t} {u} {r} f d e =
    let stopped : Stopped (fed_run t f.pieces).progress = ap (λ x. is_refused x.progress.run.stage) (sym f.same) ∙ ap (λ x. is_refused x.run.stage) (sym d) ∙ e in
    record {
      pieces = f.pieces ++ (left_of after ∷ []);
      from = record {
        whole = λ y. let k = f.taken in rw (joined_more f.pieces (left_of after)) (grind (arith, common_steps));
        front = λ y. never y;
      };
      same =
          d ∙ ap (λ x. x.progress) f.same
          ∙ sym (finished_stopped (fed_run t f.pieces).progress (fed_run t f.pieces).kept stopped)
          ∙ sym (stopped_more t f.pieces (left_of after) stopped);
    }

-- a piece in a buffer, behind the bytes kept: the run over both, and what is moved to the front
module _ (p : Progress) (buf : List ℕ) (kept n end : ℕ) (same : end ≡ kept + n) where
  abbrev all : List ℕ
  all = take end buf

  both : between p all ≡ fed (record { progress = p; kept = take kept buf }) (take n (drop kept buf))
  both = ap (λ m. between p (take m buf)) same ∙ ap (between p) (take-add kept n buf) ∙ sym (fed_one (record { progress = p; kept = take kept buf }) (take n (drop kept buf)))

  pub piece_fed : after_bytes p all ≡ (fed (record { progress = p; kept = take kept buf }) (take n (drop kept buf))).progress
  piece_fed = ap (λ b. b.progress) both

  pub piece_kept : end ≤ length buf → (f : Run) (u : List ℤ) (used : ℕ) (rest out : List ℕ) → record { run = f; table = u } ≡ after_bytes p all → used ≤ length all → drop used all ≡ kept_of (after_bytes p all) all → rest ≡ take (rest_length used end buf) out → out ≡ rest_moved used end buf → record { progress = record { run = f; table = u }; kept = rest } ≡ fed (record { progress = p; kept = take kept buf }) (take n (drop kept buf))
  piece_kept h f u used rest out e g k d o =
      ap (λ x. record { progress = x; kept = rest }) e
      ∙ ap (λ x. record { progress = after_bytes p all; kept = x }) (d ∙ ap (take (rest_length used end buf)) o ∙ rest_front buf end h used g ∙ k)
      ∙ both

-- a run that was played to the end can be printed
pub played_printable : (f : Format) (before after : Option (List ℕ)) (t u : List ℤ) (r : Run) (a : Result ⊤ Error) → OfInput before after t r a u → is_ok a ≡ true → Printable f r u
played_printable f before after t u r (Ok n) q e = subst (λ x. Printable f x.run x.table) (sym q.same) (whole_printable t q.pieces f)
played_printable f before after t u r (Err x) q e = never e

-- what is printed for an input
module _ (f : Format) (before after : Option (List ℕ)) (t : List ℤ) (out : List ℕ) where
  pub no_room : length out < bytes_for f (room_in t) → PrintsInput f before after t out (Ok None) t out
  unfolding joined
  no_room h = let g = whole_none (joined (known before)) t f out h in record { pieces = known before; from = of_known before; room = λ z. never z; length = g.0; table = g.1; output = g.2 }
    where
      known : Option (List ℕ) → List (List ℕ)
      known None = []
      known (Some s) = s ∷ []

      of_known : (k : Option (List ℕ)) → OfReader k after false (known k)
      of_known None = record { whole = λ z. tt; front = λ z. never z }
      of_known (Some s) = record { whole = λ z. sym (joined_one s); front = λ z. never z }

  module _ (room : bytes_for f (room_in t) ≤ length out) (u : List ℤ) where
    pub not_printed : (v : Run) (a : Result ⊤ Error) (r : Result (Option ℕ) Error) → OfInput before after t v a u → is_ok a ≡ false → IsErr r → PrintsInput f before after t out r u out
    not_printed v (Err y) (Err x) q e h = record { pieces = q.pieces; from = q.from; room = λ z. has_room_lem f t out room; length = tt; table = ap (λ p. p.table) q.same; output = refl }
    not_printed v (Ok k) r q e h = never (sym e)
    not_printed v (Err y) (Ok n) q e h = never h

    pub is_printed : (r : Run) (a : Result ⊤ Error) (n : Option ℕ) (written : List ℕ) → OfInput before after t r a u → is_ok a ≡ true → n ≡ printed_length f r u out → written ≡ printed_output f r u out → PrintsInput f before after t out (Ok n) u written
    is_printed r (Err x) n written q h e o = never h
    is_printed r (Ok k) n written q h e o =
        let g = whole_all (joined q.pieces) t f out room _ (one_run t q.pieces ∙ sym q.same) in
        record { pieces = q.pieces; from = q.from; room = λ y. never y; length = e ∙ g.0; table = g.1; output = o ∙ g.2 }

  -- What stands at the front of the output, with the 3,000 rows that the programs have.
  module _ (m : Option ℕ) (u : List ℤ) (written : List ℕ) (q : PrintsInput f before after t out (Ok m) u written) (e : length t ≡ 15000) (h : bytes_for f 3000 ≤ length out) where
    abbrev text : List ℕ
    text = printed_for f 3000 (joined q.pieces)

    rows_3000 : room_in t ≡ 3000
    rows_3000 = omega (arith, e, capacity_fits (length t), capacity_all (length t) 3000 (omega (arith, e)) (omega arith))

    room : has_room f t out ≡ true
    room = has_room_lem f t out (rw rows_3000 h)

    pub counted_3000 : m ≡ Some (length text)
    unfolding whole_count written_where
    counted_3000 = q.length ∙ rw (room, rows_3000)

    written_3000 : written ≡ text ++ drop (length text) out
    unfolding whole_output
    written_3000 = q.output ∙ output_room (has_room f t out) _ out room ∙ rw rows_3000

    module _ (n : ℕ) (size : n ≡ length text) where
      shown : take n written ≡ text
      shown = rw (size, written_3000) (take-append_seam text (drop (length text) out))

      pub shown_3000 : (n ≤ length written) × Printout f 3000 (take n written)
      shown_3000 = (omega (arith, size, ap length written_3000, length-append text (drop (length text) out)), record { pieces = q.pieces; same = shown })

      -- and where all of it is handed over, that is what is printed for the reader's bytes
      pub handed_3000 : (a b : Option (List ℕ)) → Hands a b (take n written) true → IfSome before (λ s. Appends a b (printed_for f 3000 s))
      handed_3000 a b d = go before (q.from.whole refl)
        where
          all_handed : Appends a b (take n written)
          all_handed = subst (λ x. Appends a b x) (ap (λ m. take m (take n written)) (d.all refl) ∙ take-length (take n written)) d.front

          go : (k : Option (List ℕ)) → IfSome k (λ s. s ≡ joined q.pieces) → IfSome k (λ s. Appends a b (printed_for f 3000 s))
          go None w = tt
          go (Some s) w = subst (λ x. Appends a b x) (shown ∙ ap (λ x. printed_for f 3000 x) (sym w)) all_handed
