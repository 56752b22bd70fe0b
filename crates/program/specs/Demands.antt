-- Demand 1 of the request for the whole product, and what a report has to do with a listing; no proof stands here. proofs/Demands.antt proves them.
use Rattle.std.specs.Prelude.{ℕ, ◌≤◌, ◌≡◌, ◌⊎◌, List, ℤ, length}
use Rattle.model.specs.Order.{Row}
use Rattle.watch.specs.Demands as watch
use Rattle.log_line.specs.Demands as log
use Rattle.chart.specs.declared.Chart.{Chart}
use Rattle.state.specs.declared.WatchState.{WatchState}
use Rattle.table.specs.Table.{room_in}
use Rattle.tally.specs.Tally.{tallies, sum}
use Rattle.watch.specs.Steps.{check_number, report_step}
use Rattle.printing.specs.Listing.{listing_text, table_text, rows_listed, refusal_text}
use Rattle.printing.specs.Report.{report_text}
use Rattle.program.specs.declared.Format.{Format}
use Rattle.program.specs.declared.Format.TheVariants.{Listing, Report}
use Rattle.program.specs.Outcomes.{printed_for}

-- the listing of some rows
pub record Lists (printed : List ℕ) : Type 0 where
  pub rows : List Row
  pub text : printed ≡ listing_text rows

-- the report on some rows, of a chart of so many entries
pub record Reports (printed : List ℕ) : Type 0 where
  pub entries : ℕ
  pub rows : List Row
  pub text : printed ≡ report_text (tallies entries rows) (length rows)

abbrev pub Shows : Format → List ℕ → Type 0
Shows Listing printed = Lists printed
Shows Report printed = Reports printed

-- "A refusal prints only one line": by a number from 1 to 12. The program hands its watch on as it got it, and asks for no tree, so that 13 to 16 have
-- no cause.
pub record Refuses (printed : List ℕ) : Type 0 where
  pub number : ℕ
  pub line : ℕ
  pub least : 1 ≤ number
  pub greatest : number ≤ 12
  pub text : printed ≡ refusal_text number line

-- Demand 1: "every call ... refuses by a listed number what it cannot take; a refused event, mark or forget hands back the watch it got, and no refusal
-- alters a lent byte", for the chart reader and the calls on a watch, for a line of the log, and for the listing program and the report program.
pub record Demand1 : Type 0 where
  pub watch : watch.Demand1
  pub log : log.Demand1
  pub printed : (f : Format) (room : ℕ) (input : List ℕ) → Shows f (printed_for f room input) ⊎ Refuses (printed_for f room input)

-- "The total equals both the sum of the lines and the rows that a listing prints." (request N3): of the library's report, for every watch that is not refused. Crate
-- watch has the sum (ReportHolds)
abbrev pub ReportTotals : Type 0
ReportTotals = (chart : Chart) (w : WatchState) (t : List ℤ) → check_number chart w t ≡ 0 → rows_listed (table_text w.rows t) ≡ (report_step chart w t).rows

-- and of what the two programs print for one input
pub record Agree (listing report : List ℕ) : Type 0 where
  pub tallies : List ℕ
  pub total : ℕ
  pub text : report ≡ report_text tallies total
  pub sum : sum tallies ≡ total
  pub rows : rows_listed listing ≡ total

-- "with the listing program's input, table and refusals": for every input and table both are refused alike, or they agree
abbrev pub ReportAgrees : Type 0
ReportAgrees = (t : List ℤ) (input : List ℕ) → (Refuses (printed_for Listing (room_in t) input) × (printed_for Report (room_in t) input ≡ printed_for Listing (room_in t) input)) ⊎ Agree (printed_for Listing (room_in t) input) (printed_for Report (room_in t) input)
