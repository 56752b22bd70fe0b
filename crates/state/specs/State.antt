-- What a watch holds. Document 01, "Instants, events, rows": "A watch has an open instant, a floor (at first -1,000,000,000), a count of events, a
-- count of rows and the events of the open instant, at most 64." Request N13: "The watch now holds, for each entry, the instant from which it counts".
use Rattle.std.specs.Prelude.{ℕ, ◌+◌, ℤ, pos, List, take, set, replicate}
use Rattle.std.proofs.lemmas.List.Edits.{sets}
use Rattle.interval.specs.Instants.{first_floor}
use Rattle.state.specs.declared.WatchState.{WatchState}

-- "floor -1,000,000,000, counts 0, no events"; "an empty watch has none" of the entries (request N13)
abbrev pub empty_state : ℤ → WatchState
empty_state o = record { instant = o; floor = first_floor; events = 0; rows = 0; pending = 0; codes = replicate 64 0; entries = 0; since = replicate 32 (pos 0) }

-- k entries more, which count from x
abbrev pub with_entries : WatchState → ℕ → ℤ → WatchState
with_entries w k x = record { instant = w.instant; floor = w.floor; events = w.events; rows = w.rows; pending = w.pending; codes = w.codes; entries = w.entries + k; since = sets w.since w.entries (replicate k x) }

-- "the opening floor for old ones", n of them
abbrev pub open_state : ℕ → ℤ → WatchState
open_state n o = with_entries (empty_state o) n first_floor

-- "the open instant for added ones"
abbrev pub extended : WatchState → ℕ → WatchState
extended w n = with_entries w n w.instant

-- the instants from which the entries count, without what stands behind them
abbrev pub entry_since : WatchState → List ℤ
entry_since w = take w.entries w.since

-- "An event ... happens at the open instant"
abbrev pub with_event : WatchState → ℕ → WatchState
with_event w k = record { instant = w.instant; floor = w.floor; events = w.events + 1; rows = w.rows; pending = w.pending + 1; codes = set w.codes w.pending k; entries = w.entries; since = w.since }

-- "A clock mark t closes the open instant and opens t", with n rows
abbrev pub marked : WatchState → ℤ → ℕ → WatchState
marked w x n = record { instant = x; floor = w.floor; events = w.events; rows = n; pending = 0; codes = replicate 64 0; entries = w.entries; since = w.since }

-- "A forget f raises the floor to f", with n rows
abbrev pub raised : WatchState → ℤ → ℕ → WatchState
raised w f n = record { instant = w.instant; floor = f; events = w.events; rows = n; pending = w.pending; codes = w.codes; entries = w.entries; since = w.since }
