-- `read_call` meets its contract: the word in front says what is read behind it, and no word in front is no call.
use Rattle.std.proofs.Common.{rules, ◌≡◌, sym, ap, ◌∙◌, arith}
use Rattle.std.proofs.lemmas.Grind.{common_steps}
use borrow.Author.Tests.{le-leb, lt-leb}
use Rattle.decimal.specs.Spelling.{instant_of}
use Rattle.log_line.specs.declared.Call.{Call}
use Rattle.log_line.specs.Log.{open_word, event_word, clock_word, forget_word, event_call, instant_call, word_call}
use Rattle.log_line.proofs.Laws.{answered, word_found, word_missed, instant_mapped, no_call, open_word_lem, event_word_lem, clock_word_lem, forget_word_lem}
use Rattle.log_line.proofs.read_call.Goals as goal

pub returns-in_err-code : goal.returns-in_err-code
unfolding event_call word_call
returns-in_err-code c =
    let d = c.in-Some.ensures.cases in
    answered _ _ (word_found event_word_lem _ _ d.0 d.1 ∙ ap event_call (sym (c.in_err-code.ensures)) ∙ sym c.from_residual.ensures)

pub returns-in-Some : goal.returns-in-Some
unfolding event_call word_call
returns-in-Some c =
    let d = c.in-Some.ensures.cases in
    answered _ _ (word_found event_word_lem _ _ d.0 d.1 ∙ ap event_call (sym c.in_ok-code.ensures) ∙ grind (arith, common_steps, le-leb, lt-leb))

pub returns-in-Some-strip_prefix : goal.returns-in-Some-strip_prefix
unfolding word_call
returns-in-Some-strip_prefix c =
    let d = c.in-Some-strip_prefix.ensures.cases in
    let i : c.read_instant.result ≡ instant_of c.in-Some-strip_prefix.instant.now = search rules in
    answered _ _ (word_found clock_word_lem _ _ d.0 d.1 ∙ ap (instant_call Call.Clock) (sym i) ∙ instant_mapped Call.Clock _ c.map-in-Some-strip_prefix.ensures.cases)

pub returns-in-Some-strip_prefix-2 : goal.returns-in-Some-strip_prefix-2
unfolding word_call
returns-in-Some-strip_prefix-2 c =
    let d = c.in-Some-strip_prefix-2.ensures.cases in
    let i = c.read_instant-in-Some-strip_prefix-2.ensures in
    answered _ _ (word_found forget_word_lem _ _ d.0 d.1 ∙ ap (instant_call Call.Forget) (sym i) ∙ instant_mapped Call.Forget _ c.map-in-Some-strip_prefix-2.ensures.cases)

pub returns-in-Some-strip_prefix-3 : goal.returns-in-Some-strip_prefix-3
unfolding word_call
returns-in-Some-strip_prefix-3 c =
    let d = c.in-Some-strip_prefix-3.ensures.cases in
    let i = c.read_instant-in-Some-strip_prefix-3.ensures in
    answered _ _ (word_found open_word_lem _ _ d.0 d.1 ∙ ap (instant_call Call.Open) (sym i) ∙ instant_mapped Call.Open _ c.map-in-Some-strip_prefix-3.ensures.cases)

pub returns : goal.returns
returns c =
    answered _ _ (no_call _ (word_missed _ open_word c.in_default-strip_prefix-3.ensures.cases) (word_missed _ event_word c.in_default.ensures.cases) (word_missed _ clock_word c.in_default-strip_prefix.ensures.cases) (word_missed _ forget_word c.in_default-strip_prefix-2.ensures.cases))
