-- `spans_parts` meets its contract: the results are the least start and the greatest end.
use Rattle.std.proofs.Common.{rules, ◌≡◌, w32}
use Rattle.interval.specs.Instants.{least, greatest}
use Rattle.interval.proofs.Machine.{eq_bits}
use Rattle.consistency.proofs.spans_parts.Goals as goal

pub returns : goal.returns
returns c =
    let start : c.least_start.result ≡ least c.args.p.start c.args.q.start = rw c.least_start.ensures (search rules) in
    let end : c.greatest_end.result ≡ greatest c.args.p.end c.args.q.end = rw c.greatest_end.ensures (search rules) in
    rw (eq_bits w32 c.args.row.start c.least_start.result (search rules) (search rules), eq_bits w32 c.args.row.end c.greatest_end.result (search rules) (search rules), start, end)
