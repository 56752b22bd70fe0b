-- Merging as the code does it: item by item, with no more to remember than the instant reached. Of two logs that are taken it gives the merged log
-- (`PrintsMerged`); of any others it still gives the lines of a log (`AlwaysTaken`): a mark that may not follow ends its log.
use Rattle.std.specs.Prelude.{ℕ, cond, List, [], ◌∷◌, map, ℤ, pos}
use Rattle.std.specs.Int.Signed.{lt_z}
use Rattle.interval.specs.Instants.{is_mark_refused}
use Rattle.log_line.specs.Log.{calls_of}
use Rattle.logs.specs.Logs.{Item, code, mark, items_of, call_for, text_of}

-- the number past the instants
abbrev pub no_instant : ℤ
no_instant = pos 1000000001

-- where a mark at t stops its log: at t, or past all instants where it may not follow
unfoldable pub stop_of : ℤ → ℤ → ℤ
stop_of now t = cond (is_mark_refused now t) no_instant t

-- the second log alone
unfoldable pub second_items : ℤ → List Item → List Item
second_items now [] = []
second_items now (code k ∷ is) = code k ∷ second_items now is
second_items now (mark t ∷ is) = cond (lt_z (stop_of now t) no_instant) (mark t ∷ second_items t is) []

-- the first log stopped at a mark s; rest goes on behind it, from an instant and with what is left of the second log
unfoldable pub items_at_mark : ℤ → (ℤ → List Item → List Item) → ℤ → List Item → List Item
items_at_mark s rest now [] = cond (lt_z (stop_of now s) no_instant) (mark s ∷ rest s []) []
items_at_mark s rest now (code k ∷ is) = code k ∷ items_at_mark s rest now is
items_at_mark s rest now (mark t ∷ is) =
    cond (lt_z (stop_of now s) (stop_of now t)) (mark s ∷ rest s (mark t ∷ is))
    (cond (lt_z (stop_of now t) (stop_of now s)) (mark t ∷ items_at_mark s rest t is)
    (cond (lt_z (stop_of now s) no_instant) (mark s ∷ rest s is) []))

unfoldable pub merge_items : List Item → ℤ → List Item → List Item
merge_items [] now js = second_items now js
merge_items (code k ∷ is) now js = code k ∷ merge_items is now js
merge_items (mark s ∷ is) now js = items_at_mark s (merge_items is) now js

-- what is printed from instant now on for what is left of two logs
unfoldable pub rest_for : ℤ → List ℕ → List ℕ → List ℕ
rest_for now x y = text_of (map call_for (merge_items (items_of (calls_of x)) now (items_of (calls_of y))))
