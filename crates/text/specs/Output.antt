-- Bytes in a buffer that is lent: a text written at its front, and what is left of an input kept for later.
use Rattle.std.specs.Prelude.{ℕ, ◌-◌, Bool, cond, List, ◌++◌, leb, length, take, drop}

-- How many bytes are answered for a text that is written where there is room, and the output then: the text at its front and the rest as
-- before, or all as before.
unfoldable pub length_where : Bool → List ℕ → ℕ
length_where room s = cond room (length s) 0

unfoldable pub output_where : Bool → List ℕ → List ℕ → List ℕ
output_where room s out = cond room (s ++ drop (length s) out) out

-- the bytes from one place of a buffer up to another, at its front
unfoldable pub rest_length : ℕ → ℕ → List ℕ → ℕ
rest_length from to s = cond (leb to (length s)) (to - from) 0

unfoldable pub rest_moved : ℕ → ℕ → List ℕ → List ℕ
rest_moved from to s = cond (leb to (length s)) (take (to - from) (drop from s) ++ drop (to - from) s) s
