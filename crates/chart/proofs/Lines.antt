-- Laws of the reader of a chart's lines that other crates go by.
use Rattle.std.proofs.Common.{ℕ, ◌+◌, ◌≤◌, ◌≡◌, refl, ap, Bool, true, false, cond, leb, List, [], ◌∷◌, ◌++◌, arith}
use borrow.Author.Tests.{leb-true}
use Rattle.text.specs.Text.{Line, whole, is_record}
use Rattle.chart.specs.Records.{answer_to}
use Rattle.chart.specs.Charts.{no_entries, with_entry, by_answer, refused_chart, taken_chart, read_lines, add_line, or_no_line}
use Rattle.chart.specs.declared.Entry.{Entry}
use Rattle.chart.specs.declared.Chart.{Chart}
use Rattle.chart.proofs.Charts.{all_taken, taken_first, lines_kept}
use Rattle.chart.proofs.Usable.{Good, good_line}

pub no_entries_count : no_entries.count ≡ 0
unfolding no_entries
no_entries_count = refl

pub with_entry_count : (c : Chart) (e : Entry) → (with_entry c e).count ≡ c.count + 1
unfolding with_entry
with_entry_count c e = refl

module _ (n line : ℕ) where
  pub refused_number : (refused_chart n line).refusal ≡ n
  unfolding refused_chart
  refused_number = refl

  pub refused_line : (refused_chart n line).line ≡ line
  unfolding refused_chart
  refused_line = refl

-- "1 no line"
pub or_none : or_no_line [] ≡ refused_chart 1 1
unfolding or_no_line
or_none = refl

pub or_some : (l : Line) (ls : List Line) → or_no_line (l ∷ ls) ≡ read_lines no_entries (l ∷ ls)
unfolding or_no_line
or_some l ls = refl

-- no line, and one line and the rest
pub read_none : (c : Chart) → read_lines c [] ≡ taken_chart c
unfolding read_lines
read_none c = refl

module _ (c : Chart) (l : Line) where
  pub read_more : (ls : List Line) → read_lines c (l ∷ ls) ≡ by_answer (answer_to c.count l) (λ e. read_lines (with_entry c e) ls) (λ n. refused_chart n (c.count + 1))
  unfolding read_lines
  read_more ls = refl

  -- a line that lacks its byte 10 or has over 64 bytes
  pub read_unformed : (ls : List Line) → is_record l ≡ false → read_lines c (l ∷ ls) ≡ refused_chart (cond (leb 32 c.count) 2 3) (c.count + 1)
  unfolding read_lines answer_to
  read_unformed ls e = go (leb 32 c.count) refl
    where
      go : (b : Bool) → leb 32 c.count ≡ b → read_lines c (l ∷ ls) ≡ refused_chart (cond b 2 3) (c.count + 1)
      go true d = rw (e, d)
      go false d = rw (e, d)

  -- an answer with number 0 is a chart taken
  pub read_taken : (read_lines c (l ∷ [])).refusal ≡ 0 → read_lines c (l ∷ []) ≡ taken_chart (read_lines c (l ∷ [])).chart
  read_taken z = all_taken c (l ∷ []) z

-- a chart read from lines is one whose entries fit so far
pub lines_good : (c d : Chart) (ls : List Line) → Good c → read_lines c ls ≡ taken_chart d → Good d
lines_good c d ls g e = lines_kept Good good_line c d ls e g

-- one line more
pub lines_more : (c d : Chart) (ls : List Line) (l : Line) → read_lines c ls ≡ taken_chart d → read_lines c (ls ++ l ∷ []) ≡ read_lines d (l ∷ [])
unfolding read_lines
lines_more c d [] l e = ap (λ a. read_lines a.chart (l ∷ [])) e
lines_more c d (k ∷ ls) l e =
    let h = taken_first c d k ls e in
    rw h.1 (lines_more (with_entry c h.0) d ls l h.2)

-- the chart takes or refuses a 33rd line and every earlier one as the reader of lines does
pub line_added : (c : Chart) (s : List ℕ) → c.count ≤ 32 → add_line c s ≡ read_lines c (whole s ∷ [])
unfolding add_line read_lines answer_to
line_added c s h = go (leb 32 c.count) refl
  where
    go : (b : Bool) → leb 32 c.count ≡ b → cond b (refused_chart 2 33) (read_lines c (whole s ∷ [])) ≡ read_lines c (whole s ∷ [])
    go true e =
        let k = leb-true 32 c.count e in
        let n : c.count ≡ 32 = omega arith in
        rw n
    go false e = refl
