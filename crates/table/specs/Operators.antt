-- A chart value's operators, as the reference model has them.
-- `arities_of` alone serves the proofs.
use Rattle.std.specs.Prelude.{ℕ, ◌-◌, List, ◌++◌, map, replicate}
use Rattle.chart.specs.Operators.{kind_of}
use Rattle.text.specs.Text.{lines}
use Rattle.chart.specs.Charts.{entry_at, entries_of, added_verdict}
use Rattle.chart.specs.declared.Chart.{Chart}
use Rattle.chart.specs.declared.Entry.{Entry}
use Rattle.chart.specs.declared.operator.Kind.{Kind}
use Rattle.chart.specs.declared.operator.Kind.TheVariants.{Event, Or, Pair, Absence, Length, After, Nearest, Unknown}
use Rattle.model.specs.Lists.{numbers}
use Rattle.model.specs.Reference.{Reading}
use Rattle.model.specs.Recognitions.{Operator, event, related, or, absence, lasting, after, nearest}

-- An unknown code stands in no chart that a watch may use; it is read as a delay here only to have a value.
unfoldable pub operator_by : Kind → ℕ → ℕ → Operator
operator_by Event a b = event a
operator_by Or a b = or a b
operator_by (Pair c) a b = related c a b
operator_by (Absence e) a b = absence e a b
operator_by (Length t) a b = lasting t a b
operator_by After a b = after a b
operator_by (Nearest c) a b = nearest c a b
operator_by Unknown a b = after a b

abbrev pub entry_operator : Entry → Operator
entry_operator e = operator_by (kind_of e.op) e.a e.b

-- "A chart has 1 to 32 entries, numbered from 0"
unfoldable pub operators_of : Chart → List Operator
operators_of c = map (λ n. entry_operator (entry_at c n)) (numbers 0 c.count)

-- What the chart reader says of added lines, the first of which asks for entry n, as the reference model has it (request N13): its number, and the operators
-- that the lines have
unfoldable pub reading_of : ℕ → List ℕ → Reading
reading_of n s = record { number = (added_verdict n (lines s)).refusal; operators = map entry_operator (entries_of n (lines s)) }

-- The column "left, right" of the operator table: how many references a row of an operator is written with; of the two of an `or` one is none.
-- A row of `after` has "left r, right -1" (request N1); of cut and change "Left and right are r and s" (request N5)
unfoldable pub arity_of : Operator → ℕ
arity_of (event k) = 0
arity_of (related c a b) = 2
arity_of (or a b) = 2
arity_of (absence c a b) = 1
arity_of (lasting c a d) = 1
arity_of (after a d) = 1
arity_of (nearest c a b) = 2

-- the arities of the chart's operators, in an array of 32: zeros follow
unfoldable pub arities_of : Chart → List ℕ
arities_of chart = map arity_of (operators_of chart) ++ replicate (32 - chart.count) 0
