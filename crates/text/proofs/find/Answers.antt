-- `find` meets its contract: the search of what is left, added to what was passed, is the search of the whole; `position` searches a piece.
use Rattle.std.proofs.Common.{rules, tests, arith, ◌≡◌, ◌+◌, ◌*◌, ◌/◌, ◌-◌, ◌≤◌, length, ℕ, List, refl, Some, None, [], sym, ◌∙◌, ap}
use lib.Dec.{eqb}
use lib.ListN.{take, drop, get_or, length-drop}
use lib.Seq.{take_all}
use Rattle.std.proofs.lemmas.Iterator.Search.{position_from_yields_List}
use Rattle.std.proofs.lemmas.Iterator.{YieldsList-from_slice}
use Rattle.std.specs.List.{position}
use Rattle.text.specs.Text.{index_of, found_at}
use Rattle.text.proofs.Laws.{piece_some, piece_none, piece_last}
use Rattle.text.proofs.Chunks.{chunk_at}
use Rattle.text.proofs.find.Goals.{After-position, After-position-2}
use Rattle.text.proofs.find.Goals as goal

-- the four bytes of a turn
module _ (c : After-position) where
  four : c.iter.result.rest.now ≡ take 4 (drop (c.loop-i.i * 4) c.args.s.now)
  four =
      c.iter.ensures.rest ∙ ap (λ l. get_or l c.loop-i.i []) c.as_chunks.ensures.front ∙ chunk_at 4 (length c.args.s.now / 4) c.args.s.now c.loop-i.i [] (omega (arith, c.as_chunks.ensures.front_len, c.loop-i-test.true))

  inside : c.loop-i.i * 4 + 4 ≤ length c.args.s.now
  inside = omega (arith, c.as_chunks.ensures.front_len, c.loop-i-test.true)

  found : c.position.result ≡ position (λ b. eqb b c.args.b) c.iter.result.rest.now
  found = position_from_yields_List _ _ _ _ c.position.ensures.ran (YieldsList-from_slice _ refl) (λ x b q k. search (rules, tests))

-- what is left behind them
module _ (c : After-position-2) where
  abbrev s : List ℕ
  s = c.args.s.now

  abbrev at : ℕ
  at = length s / 4 * 4

  left : c.iter-2.result.rest.now ≡ take (length s - at) (drop at s)
  left = c.iter-2.ensures.rest ∙ c.as_chunks.ensures.back ∙ sym (take_all (length s - at) (drop at s) (omega (arith, length-drop at s)))

  found_last : c.position-2.result ≡ position (λ b. eqb b c.args.b) c.iter-2.result.rest.now
  found_last = position_from_yields_List _ _ _ _ c.position-2.ensures.ran (YieldsList-from_slice _ refl) (λ x b q k. search (rules, tests))

  passed : at + index_of c.args.b (drop at s) ≡ index_of c.args.b s
  passed =
      let e : c.loop-i.i ≡ length s / 4 = omega (arith, c.as_chunks.ensures.front_len, c.loop-i-test.false, c.loop-i.auto.i-end) in
      rw e at c.loop-i.invariant

  some_left : (k : ℕ) → c.position-2.result ≡ Some k → Some (at + k) ≡ found_at c.args.b s
  some_left = piece_some c.args.b s at (length s - at) passed (omega arith) left found_last

  none_left : c.position-2.result ≡ None → None ≡ found_at c.args.b s
  none_left = piece_last c.args.b s at (length s - at) passed (omega arith) left found_last (omega arith)

pub returns-in-Some : goal.returns-in-Some
returns-in-Some c = let p = (goal.at.returns-in-Some c).After-position in piece_some _ _ _ 4 c.loop-i.invariant (inside p) (four p) (found p) _ c.in-Some.is

pub loop-i-preserved : goal.loop-i-preserved
loop-i-preserved c =
    let p = (goal.at.loop-i-preserved c).After-position in
    let next : c.loop-i.i * 4 + 4 ≡ (c.loop-i.i + 1) * 4 = omega arith in
    rw next at (piece_none _ _ _ 4 c.loop-i.invariant (inside p) (four p) (found p) c.in_default.is)

pub returns-in_err-k : goal.returns-in_err-k
returns-in_err-k c = c.from_residual.ensures ∙ none_left (goal.at.returns-in_err-k c).After-position-2 c.in_err-k.was

pub returns : goal.returns
returns c =
    let p = (goal.at.returns c).After-position-2 in
    rw c.as_chunks.ensures.front_len (some_left p c.in_ok-k.k c.in_ok-k.was)
