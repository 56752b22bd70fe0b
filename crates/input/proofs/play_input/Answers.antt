-- `play_input` meets its contract: what it has after each reading is what some pieces come to.
use Rattle.std.proofs.Common.{◌≡◌, false, ◌+◌, ◌*◌, ◌^◌, ◌≤◌, ◌<◌, ℕ, List, [], length, take, refl, sym, ap, ◌∙◌, subst, arith, length-take, length-drop}
use Rattle.std.proofs.lemmas.Grind.{common_steps}
use Rattle.std.specs.Prelude.{Ok}
use Rattle.program.specs.Runs.{Progress, Reached, HasLines, after_bytes, is_refused}
use Rattle.program.specs.declared.Run.{Run}
use Rattle.program.proofs.Reaching.{start_reached, start_goes, start_line, reached_few, bytes_on, bytes_counted}
use Rattle.program.proofs.Reading.{lines_of, rest_few}
use Rattle.input.proofs.Laws.{Fed, fed_none, fed_same, fed_piece, fed_end, ended, refused, piece_fed, piece_kept}
use Rattle.input.proofs.play_input.Goals.{After-feed-fed}
use Rattle.input.proofs.play_input.Goals as goal

pub loop-init : goal.loop-init
loop-init g c = record {
  whole = refl;
  reached = subst (λ r. Reached (record { run = r; table = c.args.table.now })) (sym c.start.ensures) (start_reached _);
  goes = ap (λ r. is_refused r.stage) c.start.ensures ∙ start_goes;
  lines = omega (arith, ap (λ r. r.line) c.start.ensures, start_line);
  few = omega arith;
  fed = fed_none _ _ _ [] c.start.ensures;
}

pub finish-requires : goal.finish-requires
finish-requires g c =
    let v = c.loop.invariant in
    (lines_of _ _ (λ z. omega (arith, v.lines, c.loop-test.true)), reached_few _ v.reached)

pub returns-then-n-eq0 : goal.returns-then-n-eq0
returns-then-n-eq0 g c =
    let v = c.loop.invariant in
    let into = c.read_more.new.buf in
    let got : c.read_more.result ≡ Ok c.in_ok-n.n = grind (arith, common_steps) in
    let came = rw got at c.read_more.ensures.bytes in
    let size : length into ≡ 65536 = omega (arith, c.read_more.auto.buf, v.whole) in
    let end = came.1 c.if-n-eq0.true (omega (arith, length-drop c.loop.kept into, size, v.few)) in
    let f = fed_end (fed_same c.loop.kept c.loop.buf into c.read_more.ensures.same v.fed) _ (rw c.if-n-eq0.true at came.0) in
    rw c.finish.ensures (ended into f (omega (arith, size, v.few)) end)

-- there is a line number for each byte of a front of the buffer
numbered : (r : Run) (counter end : ℕ) (buf : List ℕ) → r.line ≤ counter * 65536 → counter < 2 ^ 47 → length buf ≡ 65536 → HasLines r (length (take end buf) + 1)
numbered r counter end buf l h e = lines_of r _ (λ z. omega (arith, l, h, e, length-take end buf))

-- and a front of it adds no more lines than it has bytes
counted : (p : Progress) (end : ℕ) (buf : List ℕ) → is_refused (after_bytes p (take end buf)).run.stage ≡ false → (after_bytes p (take end buf)).run.line ≤ p.run.line + length buf
counted p end buf h = omega (arith, bytes_counted p (take end buf) h, length-take end buf)

pub feed-fed-requires : goal.feed-fed-requires
feed-fed-requires g c =
    let v = c.loop.invariant in
    (v.reached, numbered _ _ _ _ v.lines c.loop-test.true (omega (arith, c.read_more.auto.buf, v.whole)))

pub returns-then-is_refused : goal.returns-then-is_refused
returns-then-is_refused g c =
    let v = c.loop.invariant in
    let into = c.read_more.new.buf in
    let got : c.read_more.result ≡ Ok c.in_ok-n.n = grind (arith, common_steps) in
    let came = rw got at c.read_more.ensures.bytes in
    let f = fed_piece (fed_same c.loop.kept c.loop.buf into c.read_more.ensures.same v.fed) _ _ came.0 in
    refused f (c.feed-fed.ensures.0 ∙ piece_fed _ into c.loop.kept c.in_ok-n.n _ (omega arith)) (sym c.if-is_refused.ensures)

pub loop-preserved : goal.loop-preserved
loop-preserved g c =
    let v = c.loop.invariant in
    let into = c.read_more.new.buf in
    let got : c.read_more.result ≡ Ok c.in_ok-n.n = grind (arith, common_steps) in
    let came = rw got at c.read_more.ensures.bytes in
    let within : c.loop.kept + c.in_ok-n.n ≤ length into = omega (arith, rw got at c.read_more.ensures.inside, c.read_more.auto.buf) in
    let e = c.feed-fed.ensures in
    let k = c.keep_rest-kept.ensures in
    let going : is_refused c.feed-fed.result.run.stage ≡ false = sym c.if-is_refused.ensures in
    let lines = counted _ _ _ (ap (λ x. is_refused x.run.stage) (sym e.0) ∙ going) in
    let few = rest_few _ into _ _ e.2 (omega (arith, within)) in
    let f = fed_piece (fed_same c.loop.kept c.loop.buf into c.read_more.ensures.same v.fed) _ _ came.0 in
    record {
      whole = omega (arith, c.keep_rest-kept.auto.buf, c.read_more.auto.buf, v.whole);
      reached = subst Reached (sym e.0) (bytes_on _ _ v.reached);
      goes = going;
      lines = omega (arith, ap (λ x. x.run.line) e.0, lines, c.read_more.auto.buf, v.whole, v.lines);
      few = omega (arith, k.0, few);
      fed = subst (Fed _ _ _) (sym (piece_kept _ into c.loop.kept c.in_ok-n.n _ (omega arith) (omega (arith, within)) _ _ _ _ _ e.0 e.1 e.2 (grind (arith, k.0)) k.1)) f;
    }
