-- How many rows a table holds. Document 01, "Instants, events, rows". Other files go by the laws of proofs/Capacity.antt.
use Rattle.std.specs.Prelude.{ℕ, ◌/◌, min}

-- "The caller's table holds length divided by 5 rows, rounded down, and never more than 65,535."
unfoldable pub capacity : ℕ → ℕ
capacity n = min (n / 5) 65535
