-- The operators of a chart. Document 01, "Operators of a chart"; `after` by request N1, `cut` and `change` by request N5.
use Rattle.std.specs.Prelude.{ℕ, suc, Bool, true, false, cond, ◌&&◌, List, [], ◌∷◌, eqb, ltb, leb, length, Option, None, Some}
use Rattle.std.specs.Str.{bytes_eq}
use Rattle.interval.specs.Instants.{is_length}
use Rattle.interval.specs.declared.Relation.{Relation}
use Rattle.interval.specs.declared.Relation.TheVariants.{Seq, And, Meets, Overlaps, Starts, During, Finishes, Equals}
use Rattle.interval.specs.declared.Edges.{Edges}
use Rattle.interval.specs.declared.Edges.TheVariants.{ClosedClosed, OpenOpen, ClosedOpen, OpenClosed}
use Rattle.interval.specs.declared.LengthTest.{LengthTest}
use Rattle.interval.specs.declared.LengthTest.TheVariants.{Lasts, AtMost, AtLeast}
use Rattle.interval.specs.declared.Nearest.TheVariants.{Cut, Change}
use Rattle.chart.specs.declared.operator.Kind.{Kind}
use Rattle.chart.specs.declared.operator.Kind.TheVariants.{Event, Or, Pair, Absence, Length, After, Nearest, Unknown}
use Rattle.chart.specs.declared.operator.Shape.{Shape}
use Rattle.chart.specs.declared.operator.Shape.TheVariants.{Leaf, Single, Arms, Double, Delayed}

unfoldable pub words : List (List ℕ)
words =
    (101 ∷ 118 ∷ 101 ∷ 110 ∷ 116 ∷ []) ∷  -- 0 event
    (115 ∷ 101 ∷ 113 ∷ []) ∷  -- 1 seq
    (111 ∷ 114 ∷ []) ∷  -- 2 or
    (97 ∷ 110 ∷ 100 ∷ []) ∷  -- 3 and
    (45 ∷ 91 ∷ 93 ∷ []) ∷  -- 4 -[]
    (45 ∷ 93 ∷ 91 ∷ []) ∷  -- 5 -][
    (45 ∷ 91 ∷ 91 ∷ []) ∷  -- 6 -[[
    (45 ∷ 93 ∷ 93 ∷ []) ∷  -- 7 -]]
    (109 ∷ 101 ∷ 101 ∷ 116 ∷ 115 ∷ []) ∷  -- 8 meets
    (111 ∷ 118 ∷ 101 ∷ 114 ∷ 108 ∷ 97 ∷ 112 ∷ 115 ∷ []) ∷  -- 9 overlaps
    (115 ∷ 116 ∷ 97 ∷ 114 ∷ 116 ∷ 115 ∷ []) ∷  -- 10 starts
    (100 ∷ 117 ∷ 114 ∷ 105 ∷ 110 ∷ 103 ∷ []) ∷  -- 11 during
    (102 ∷ 105 ∷ 110 ∷ 105 ∷ 115 ∷ 104 ∷ 101 ∷ 115 ∷ []) ∷  -- 12 finishes
    (101 ∷ 113 ∷ 117 ∷ 97 ∷ 108 ∷ 115 ∷ []) ∷  -- 13 equals
    (108 ∷ 97 ∷ 115 ∷ 116 ∷ 115 ∷ []) ∷  -- 14 lasts
    (97 ∷ 116 ∷ 109 ∷ 111 ∷ 115 ∷ 116 ∷ []) ∷  -- 15 atmost
    (97 ∷ 116 ∷ 108 ∷ 101 ∷ 97 ∷ 115 ∷ 116 ∷ []) ∷  -- 16 atleast
    (97 ∷ 102 ∷ 116 ∷ 101 ∷ 114 ∷ []) ∷  -- 17 after
    (99 ∷ 117 ∷ 116 ∷ []) ∷  -- 18 cut
    (99 ∷ 104 ∷ 97 ∷ 110 ∷ 103 ∷ 101 ∷ []) ∷  -- 19 change
    []

abbrev pub same_bytes : List ℕ → List ℕ → Bool
same_bytes s t = bytes_eq s t

-- the place of a word in a list of words, or the list's length where it is not there
unfoldable pub place_of : List ℕ → List (List ℕ) → ℕ
place_of s [] = 0
place_of s (w ∷ ws) = cond (same_bytes s w) 0 (suc (place_of s ws))

-- the code of the operator with this word
unfoldable pub operator_of : List ℕ → Option ℕ
operator_of s = cond (ltb (place_of s words) (length words)) (Some (place_of s words)) None

-- the absences: -[] -][ -[[ -]]
unfoldable pub edges_of : ℕ → Edges
edges_of op = cond (eqb op 4) ClosedClosed (cond (eqb op 5) OpenOpen (cond (eqb op 6) ClosedOpen OpenClosed))

unfoldable pub relation_of : ℕ → Relation
relation_of op =
    cond (eqb op 8) Meets
    (cond (eqb op 9) Overlaps
    (cond (eqb op 10) Starts
    (cond (eqb op 11) During
    (cond (eqb op 12) Finishes Equals))))

unfoldable pub length_test_of : ℕ → LengthTest
length_test_of op = cond (eqb op 14) Lasts (cond (eqb op 15) AtMost AtLeast)

-- what a code behind the operator table stands for: 17 after (request N1); 18 cut, 19 change (request N5)
abbrev pub later_kind_of : ℕ → Kind
later_kind_of op = cond (eqb op 17) After (cond (eqb op 18) (Nearest Cut) (cond (eqb op 19) (Nearest Change) Unknown))

-- what a code stands for, in the order of the operator table: event, seq, or, and; 4 to 7 absences; 8 to 13 interval relations;
-- 14 to 16 length tests; then those behind it
unfoldable pub kind_of : ℕ → Kind
kind_of op =
    cond (eqb op 0) Event
    (cond (eqb op 1) (Pair Seq)
    (cond (eqb op 2) Or
    (cond (eqb op 3) (Pair And)
    (cond (ltb op 8) (Absence (edges_of op))
    (cond (ltb op 14) (Pair (relation_of op))
    (cond (ltb op 17) (Length (length_test_of op))
    (later_kind_of op)))))))

-- The column "left, right" of the operator table: "serial, -1" of an event; "r, -1; or -1, s" of or; "r, s" of seq, and, meets to equals;
-- "r, -1" of the absences and the length tests; "left r, right -1" of after, whose row ends later than r (request N1); "Left and right are r and s"
-- of cut and change (request N5). An unknown code stands in no chart that a watch may use; it has a shape only to have one
abbrev pub shape_of : Kind → Shape
shape_of Event = Leaf
shape_of Or = Arms
shape_of (Pair c) = Double
shape_of (Absence e) = Single
shape_of (Length t) = Single
shape_of After = Delayed
shape_of (Nearest c) = Double
shape_of Unknown = Delayed

-- whether the second operand is a length: "d is a length", also of after (request N1)
abbrev pub takes_length : Kind → Bool
takes_length Event = false
takes_length Or = false
takes_length (Pair c) = false
takes_length (Absence e) = false
takes_length (Length t) = true
takes_length After = true
takes_length (Nearest c) = false
takes_length Unknown = false

-- "An event has a code 0 to 255"; "d is a length", also of after (request N1). An event's second operand is none, written 0
unfoldable pub in_range : Kind → ℕ → ℕ → Bool
in_range Event a b = leb a 255 && eqb b 0
in_range Or a b = true
in_range (Pair c) a b = true
in_range (Absence e) a b = true
in_range (Length t) a b = is_length b
in_range After a b = is_length b
in_range (Nearest c) a b = true
in_range Unknown a b = false

-- "operands a and b are lower entry numbers and may be equal"
unfoldable pub are_lower : Kind → ℕ → ℕ → ℕ → Bool
are_lower Event n a b = true
are_lower Or n a b = ltb a n && ltb b n
are_lower (Pair c) n a b = ltb a n && ltb b n
are_lower (Absence e) n a b = ltb a n && ltb b n
are_lower (Length t) n a b = ltb a n
are_lower After n a b = ltb a n
are_lower (Nearest c) n a b = ltb a n && ltb b n
are_lower Unknown n a b = false
