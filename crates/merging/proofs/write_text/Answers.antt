-- `write_text` writes the line of the call, if there is one.
use borrow.Author.Rules.{rules}
use Rattle.merging.proofs.Writing.{IsByte, text_written}
use Rattle.merging.proofs.write_text.Goals as goal

pub returns : goal.returns
returns c =
    let byte : IsByte c.args.call = λ k e. search rules in
    text_written c.args.call c.args.out.now byte c.requires c.write_call.auto.out c.write_call.ensures c.unwrap_or.ensures
