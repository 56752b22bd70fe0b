-- `is_usable` meets its contract: all entries up to the count are looked at, each with its number.
use Rattle.std.proofs.Common.{rules, ◌≡◌, ℕ, List, take, refl, ◌∙◌, arith}
use borrow.Author.Tests.{tests}
use Rattle.std.specs.List.{list_all, enumerate_from}
use Rattle.std.proofs.lemmas.Iterator.{YieldsList-from_slice}
use Rattle.std.proofs.lemmas.Iterator.Consumers.{YieldsList-at, YieldsList-from_enumerate}
use Rattle.std.proofs.lemmas.Iterator.Search.{all_from_yields_List}
use Rattle.chart.specs.Charts.{entry_fits}
use Rattle.chart.specs.declared.Entry.{Entry}
use Rattle.chart.specs.Records.{entry}
use Rattle.chart.proofs.Below.{test}
use Rattle.chart.proofs.Charts.{usable_listed}
use Rattle.chart.proofs.is_usable.Goals as goal

pub returns : goal.returns
returns c =
    let n : ℕ = c.args.chart.count in
    let es : List Entry = take n c.args.chart.entries in
    let listed = YieldsList-from_enumerate (YieldsList-at c.enumerate.ensures.source (YieldsList-from_slice es c.iter.ensures.rest)) c.enumerate.ensures.count in
    let all : c.all.result ≡ list_all (test entry_fits es (entry 0 0 0)) (enumerate_from 0 es) = all_from_yields_List (test entry_fits es (entry 0 0 0)) _ _ _ c.all.ensures.ran listed (λ x b q k. search (rules, tests)) in
    all ∙ usable_listed c.args.chart es refl (omega arith) (omega arith) (search rules)
