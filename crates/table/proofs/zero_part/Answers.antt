-- `zero_part` meets its contract: zeros are put in the place of as many.
use Rattle.std.proofs.Common.{◌≡◌, arith, ap, ◌∙◌, ◌++◌, ◌-◌, ◌+◌, pos, replicate}
use lib.ListN.{take, drop, length-drop}
use lib.Seq.{drop-drop, length-take-le}
use Rattle.table.specs.Table.{zeroed}
use Rattle.table.proofs.zero_part.Goals as goal

pub returns : goal.returns
unfolding zeroed
returns c =
    let t = c.args.t.now in
    let n = c.args.e - c.args.a in
    let zeros : c.fill.new.self ≡ replicate n (pos 0) = c.fill.ensures.after (λ y e. e) ∙ ap (λ k. replicate k (pos 0)) (length-take-le n (drop c.args.a t) (omega (arith, length-drop c.args.a t))) in
    let end : c.args.a + n ≡ c.args.e = omega arith in
    rw zeros (ap (λ l. take c.args.a t ++ (replicate n (pos 0) ++ l)) (drop-drop n c.args.a t ∙ ap (λ k. drop k t) end))
