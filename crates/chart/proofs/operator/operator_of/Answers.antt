-- `operator_of` meets its contract: the place of the word among the table's, which are those of the definition.
use Rattle.std.proofs.Common.{rules, ◌≡◌, ℕ, length, Bool, cond, ltb, List, map, refl}
use borrow.Author.Tests.{tests}
use denote.Ref.{Bor}
use Rattle.std.specs.Prelude.{Some, None}
use Rattle.std.specs.List.{position_or_len}
use Rattle.std.proofs.lemmas.Iterator.{YieldsList-from_slice}
use Rattle.std.proofs.lemmas.Iterator.Search.{position_from_yields_List}
use Rattle.chart.specs.Operators.{words, same_bytes}
use Rattle.chart.proofs.Words.{code_is}
use Rattle.chart.proofs.operator.operator_of.Goals as goal

pub returns : goal.returns
unfolding words
returns c =
    let ws : List (Bor (List ℕ)) = c.iter.result.rest.now in
    let test : Bor (List ℕ) → Bool = λ w. same_bytes c.args.s.now w.now in
    let same : c.map.result ≡ c.position.result = search rules in
    let n : ℕ = position_or_len test ws in
    let p : c.position.result ≡ cond (ltb n (length ws)) (Some n) None = position_from_yields_List test _ _ c.position.result c.position.ensures.ran (YieldsList-from_slice ws refl) (λ x b q k. search (rules, tests)) in
    let table : map (λ w. w.now) ws ≡ words = search rules in
    rw (same, p) (code_is (λ w. w.now) c.args.s.now ws table)
