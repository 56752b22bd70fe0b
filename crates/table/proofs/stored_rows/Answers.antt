-- `stored_rows` meets its contract: as many numbers are lent in pieces of five.
use Rattle.std.proofs.Common.{◌≡◌, ◌∙◌, ap, arith, length, ◌*◌, ◌/◌}
use lib.ListN.{take}
use lib.Seq.{length-take-le}
use native.Mathlib.Nat.{mul-div_cancel}
use Rattle.std.specs.Simd.{first_chunks}
use Rattle.text.proofs.Chunks.{chunks_front}
use Rattle.table.proofs.stored_rows.Goals as goal

pub returns : goal.returns
returns c =
    let n = c.args.rows in
    let t = c.args.table.now in
    let e : length (take (n * 5) t) / 5 ≡ n = ap (λ m. m / 5) (length-take-le (n * 5) t c.requires) ∙ mul-div_cancel n (omega arith) in
    c.as_chunks.ensures.front ∙ ap (λ k. first_chunks 5 k (take (n * 5) t)) e ∙ chunks_front 5 n t
