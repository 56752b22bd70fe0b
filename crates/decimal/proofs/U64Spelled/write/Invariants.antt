use Rattle.std.proofs.Common.{◌≡◌, ◌++◌, length, drop}
use Rattle.decimal.specs.Spelling.{spelled_number}
use Rattle.decimal.proofs.U64Spelled.write.Given as goal

abbrev pub invariant-loop-k : goal.invariant-loop-k
invariant-loop-k l =
    (l.k ≡ length (spelled_number l.rest)) ×
    (spelled_number l.rest ++ drop l.k l.out ≡ spelled_number l.self ++ drop l.n l.initial.out)
