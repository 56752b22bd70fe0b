-- What the theorems say of a chart that is read whole and in parts, and of the limit of a line; proofs/Parts.antt and proofs/Fitting.antt prove each
-- statement. No proof stands here.
use Rattle.std.specs.Prelude.{ℕ, ◌+◌, ◌<◌, ◌≡◌, cond, List, [], ◌∷◌, ◌++◌, eqb, length, None}
use Rattle.text.specs.Text.{lines, fields}
use Rattle.chart.specs.Charts.{no_entries, read_chart, read_added}
use Rattle.chart.specs.Records.{parsed_line}
use Rattle.chart.specs.declared.Chart.{Chart}
use Rattle.chart.specs.declared.ChartAnswer.{ChartAnswer}

-- A chart on paper is its lines added to a chart of no entries: one reader, which goes on from a number.
abbrev pub ReadWhole : Type 0
ReadWhole = (s : List ℕ) → read_chart s ≡ read_added no_entries s

-- The lines of p added to a chart, then those of q: refused as p is; or as q is, with the line counted from the first of p and the chart as it was
-- before p; or the chart with both.
unfoldable pub in_parts : Chart → List ℕ → List ℕ → ChartAnswer
in_parts c p q =
    let a = read_added c p in
    let b = read_added a.chart q in
    let refused : ChartAnswer = record { refusal = b.refusal; line = length (lines p) + b.line; chart = c } in
    cond (eqb a.refusal 0) (cond (eqb b.refusal 0) b refused) a

-- Added at once or in two parts is the same, for every chart and each way of cutting at a line: the first part ends with byte 10, and a second one
-- follows.
abbrev pub ReadInParts : Type 0
ReadInParts = (c : Chart) (p q : List ℕ) → 0 < length q → read_added c ((p ++ 10 ∷ []) ++ q) ≡ in_parts c (p ++ 10 ∷ []) q

-- "at most 64 bytes with it": every line that is of the form has less, with its byte 10
abbrev pub LinesFit : Type 0
LinesFit = (s : List ℕ) → (parsed_line (fields s) ≡ None → ⊥) → length s + 1 < 64
