-- `is_rising` meets its contract: one instant more, one that falls, and none left.
use Rattle.std.proofs.Common.{rules, ◌≡◌, ◌∙◌, sym, ℕ, ◌+◌, ◌<◌, ◌&&◌, true, false, List, length, get_or, drop, ℤ, pos, arith, w32, to_z, of_z}
use Rattle.std.specs.Int.Signed.{le_z}
use Rattle.std.proofs.Math.Numerals.{add-one}
use Rattle.std.proofs.Math.Seq.{drop-cons, drop-length}
use Rattle.interval.proofs.Signed.{signed}
use Rattle.model.specs.Consistency.{is_rising}
use Rattle.consistency.proofs.is_rising.Goals as goal

module _ (a o : ℤ) (l : List ℤ) (i : ℕ) where
  one_more : i < length l → is_rising a o (drop i l) ≡ (le_z a (get_or l i (pos 0)) && is_rising (get_or l i (pos 0)) o (drop (i + 1) l))
  unfolding is_rising
  one_more h = rw (add-one, drop-cons l i (pos 0))

  none_left : i ≡ length l → is_rising a o (drop i l) ≡ le_z a o
  unfolding is_rising
  none_left e = rw (e, drop-length l)

pub returns-then-x-last : goal.returns-then-x-last
returns-then-x-last c =
    let l = c.args.instants.now in
    let x = get_or l c.loop-x.x-index (pos 0) in
    let read : to_z w32 (of_z w32 x) ≡ x = search rules in
    let falls : le_z c.loop-x.last x ≡ false = let h = rw (read, c.loop-x.last-is) at c.if-x-last.true in omega (arith, signed) in
    sym (search (rules, c.loop-x.invariant) ∙ one_more c.loop-x.last c.args.end l c.loop-x.x-index c.loop-x-test.true ∙ rw falls)

pub loop-x-preserved : goal.loop-x-preserved
loop-x-preserved c =
    let l = c.args.instants.now in
    let x = get_or l c.loop-x.x-index (pos 0) in
    let read : to_z w32 (of_z w32 x) ≡ x = search rules in
    let rises : le_z c.loop-x.last x ≡ true = let h = rw (read, c.loop-x.last-is) at c.if-x-last.false in omega (arith, signed) in
    let whole : is_rising c.loop-x.last c.args.end (drop c.loop-x.x-index l) ≡ is_rising c.args.first c.args.end l = search (rules, c.loop-x.invariant) in
    let next : is_rising x c.args.end (drop (c.loop-x.x-index + 1) l) ≡ is_rising c.args.first c.args.end l = sym (sym whole ∙ one_more c.loop-x.last c.args.end l c.loop-x.x-index c.loop-x-test.true ∙ rw rises) in
    search (rules, next)

pub returns : goal.returns
returns c =
    let l = c.args.instants.now in
    let whole : is_rising c.loop-x.last c.args.end (drop c.loop-x.x-index l) ≡ is_rising c.args.first c.args.end l = search (rules, c.loop-x.invariant) in
    let left : is_rising c.args.first c.args.end l ≡ le_z c.loop-x.last c.args.end = sym whole ∙ none_left c.loop-x.last c.args.end l c.loop-x.x-index (omega arith) in
    search (rules, sym left)
