-- The bytes of a tree. Document 01, "Reading": "A tree is written `e` and serial for an event; `<L,R>` for two; `<L,_>` or `<_,R>`
-- for or; `<L>` for one."
-- `length_within` alone serves the proofs.
use Rattle.std.specs.Prelude.{ℕ, zero, suc, ◌<◌, ◌≡◌, cond, Option, Some, None, List, [], ◌∷◌, ◌++◌, map, leb, ℤ, pos, negsuc, nat_abs, length, get_or}
use Rattle.decimal.specs.Spelling.{spelled}
use Rattle.model.specs.Recognitions.{Event, Operator, only, left, right, delayed, Recognition, of_event, of_one, of_two}
use Rattle.model.specs.Statements.{IsRecognition, Reads}
use Rattle.table.specs.Table.{cell, rows_in}
use Rattle.table.specs.Operators.{arity_of}

-- The bytes of a recognition. 101 is `e`, 60 `<`, 62 `>`, 44 the comma and 95 `_`.
unfoldable pub recognition_bytes : Recognition → List ℕ
recognition_bytes (of_event n s i) = 101 ∷ spelled (pos s)
recognition_bytes (of_one n only r) = 60 ∷ recognition_bytes r ++ 62 ∷ []
recognition_bytes (of_one n left r) = 60 ∷ recognition_bytes r ++ 44 ∷ 95 ∷ 62 ∷ []
recognition_bytes (of_one n right r) = 60 ∷ 95 ∷ 44 ∷ recognition_bytes r ++ 62 ∷ []
recognition_bytes (of_one n (delayed d) r) = 60 ∷ recognition_bytes r ++ 62 ∷ []
recognition_bytes (of_two n r s) = 60 ∷ recognition_bytes r ++ (44 ∷ recognition_bytes s ++ 62 ∷ [])

-- The same on the flat table: a row from its arity, its number left and the bytes of its references
unfoldable pub row_bytes : ℕ → ℤ → List ℕ → List ℕ → List ℕ
row_bytes zero s l r = 101 ∷ spelled s
row_bytes (suc zero) s l r = 60 ∷ l ++ 62 ∷ []
row_bytes (suc (suc n)) s l r = 60 ∷ l ++ (44 ∷ r ++ 62 ∷ [])

-- a reference, from the bytes of each row's tree: `_` for -1
unfoldable pub reference_bytes : (ℕ → List ℕ) → ℤ → List ℕ
reference_bytes tree (pos i) = tree i
reference_bytes tree (negsuc n) = 95 ∷ []

-- the arity of row i, from that of each entry
abbrev pub arity_at : List ℕ → List ℤ → ℕ → ℕ
arity_at arities t i = get_or arities (nat_abs (cell t i 0)) 0

-- the bytes of row i's tree, its references followed down, from the arity of each entry. They are lower rows, so that a number f
-- above i bounds how deep they go
unfoldable pub tree_within : List ℕ → List ℤ → ℕ → ℕ → List ℕ
tree_within arities t zero i = []
tree_within arities t (suc f) i =
    row_bytes (arity_at arities t i) (cell t i 1) (reference_bytes (tree_within arities t f) (cell t i 1)) (reference_bytes (tree_within arities t f) (cell t i 2))

-- with such a number
abbrev pub tree_over : List ℕ → List ℤ → ℕ → List ℕ
tree_over arities t i = tree_within arities t (suc i) i

-- from the chart's operators
unfoldable pub tree_bytes : List Operator → List ℤ → ℕ → List ℕ
tree_bytes ops t i = tree_over (map arity_of ops) t i

-- how many bytes there are, where they are no more than the limit
unfoldable pub length_within : ℕ → List ℕ → Option ℕ
length_within limit s = cond (leb (length s) limit) (Some (length s)) None

-- "A row's references, followed down, give its recognition's own tree", and the bytes of the row are those of that recognition.
abbrev pub TreeHolds : Type 0
TreeHolds = (ops : List Operator) (es : List Event) (rows : ℕ) (t : List ℤ) (i : ℕ) (u : Recognition) → i < rows → IsRecognition ops es u → Reads (rows_in rows t) i u → tree_bytes ops t i ≡ recognition_bytes u
