-- What is claimed of the check of a log; proofs/Pieces.antt proves it. No proof stands here.
use Rattle.std.specs.Prelude.{◌≡◌, true, List, [], ℕ, Some, is_ok}
use Rattle.text.specs.Text.{joined}
use Rattle.log_line.specs.Log.{calls_of}
use Rattle.logs.specs.Logs.{log_refusal, opened_in}
use Rattle.checking.specs.Checks.{start_check, fed_all, verdict_of, opened_of}

-- However a log is cut into pieces: it is turned away as the definition says, or else its opening instant is found.
pub record ChecksLog (pieces : List (List ℕ)) : Type 0 where
  pub verdict : verdict_of (fed_all start_check [] pieces) ≡ log_refusal (calls_of (joined pieces))
  pub opened : is_ok (fed_all start_check [] pieces).state ≡ true → opened_of (fed_all start_check [] pieces).state ≡ Some (opened_in (calls_of (joined pieces)))

abbrev pub ChecksHold : Type 0
ChecksHold = (pieces : List (List ℕ)) → ChecksLog pieces
