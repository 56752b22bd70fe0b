-- Each condition at its boundaries, computed by the checker: which of fifteen intervals s are related to r, or forbid it, which are rivals, which lengths a
-- length test takes, and which instants, lengths, clock marks and forgets are taken. What must come out was found by hand from document 01.
-- No law and no contract says as much, since the code and its contract share the conditions.
use Prim.Native.Nat.{ℕ}
use mathlib.Core.Path.{◌≡◌, refl}
use mathlib.Core.Bool.{Bool, true, false, cond, not, ◌&&◌}
use mathlib.Core.List.{List, [], ◌∷◌, ◌++◌, map}
use lib.IntN.{ℤ, pos, negsuc}
use lib.Signed.{lt_z}
use Rattle.interval.specs.Instants.{is_instant, is_length, first_floor, is_mark_refused, is_forget_refused, least, greatest}
use Rattle.interval.specs.Conditions.{is_related, ending_of, is_forbidding, has_length, is_rival_of_second, is_rival_of_first}
use Rattle.interval.specs.declared.Relation.{Relation}
use Rattle.interval.specs.declared.Relation.TheVariants.{Seq, And, Meets, Overlaps, Starts, During, Finishes, Equals}
use Rattle.interval.specs.declared.Ending.{Ending}
use Rattle.interval.specs.declared.Ending.TheVariants.{Before, Within, Together, Either}
use Rattle.interval.specs.declared.Edges.{Edges}
use Rattle.interval.specs.declared.Edges.TheVariants.{ClosedClosed, OpenOpen, ClosedOpen, OpenClosed}
use Rattle.interval.specs.declared.Nearest.{Nearest}
use Rattle.interval.specs.declared.Nearest.TheVariants.{Cut, Change}
use Rattle.interval.specs.declared.LengthTest.{LengthTest}
use Rattle.interval.specs.declared.LengthTest.TheVariants.{Lasts, AtMost, AtLeast}

record Interval : Type 0 where
  start : ℤ
  end : ℤ

abbrev keep : {A : Type 0} → (A → Bool) → List A → List A
keep p [] = []
keep p (s ∷ ss) = cond (p s) (s ∷ keep p ss) (keep p ss)

abbrev some : {A : Type 0} → (A → Bool) → List A → Bool
some p [] = false
some p (s ∷ ss) = cond (p s) true (some p ss)

abbrev from_to : ℤ → ℤ → Interval
from_to a b = record { start = a; end = b }

abbrev minus2 : ℤ
minus2 = negsuc 1

abbrev minus1 : ℤ
minus1 = negsuc 0

abbrev zero : ℤ
zero = pos 0

abbrev one : ℤ
one = pos 1

abbrev two : ℤ
two = pos 2

-- all intervals with start and end from -2 to 2
abbrev intervals : List Interval
intervals = from_to minus2 minus2 ∷ from_to minus2 minus1 ∷ from_to minus2 zero ∷ from_to minus2 one ∷ from_to minus2 two ∷ from_to minus1 minus1 ∷ from_to minus1 zero ∷ from_to minus1 one ∷ from_to minus1 two ∷ from_to zero zero ∷ from_to zero one ∷ from_to zero two ∷ from_to one one ∷ from_to one two ∷ from_to two two ∷ []

-- r is an interval with a length, and one of length 0
abbrev long : Interval
long = from_to minus1 one

abbrev point : Interval
point = from_to zero zero

abbrev related_to : Interval → Relation → List Interval
related_to r relation = keep (λ s. is_related relation r.start r.end s.start s.end) intervals

abbrev all_relations : List Relation
all_relations = Seq ∷ And ∷ Meets ∷ Overlaps ∷ Starts ∷ During ∷ Finishes ∷ Equals ∷ []

relations : map (related_to long) all_relations ≡
    (from_to two two ∷ []) ∷
    intervals ∷
    (from_to one one ∷ from_to one two ∷ []) ∷
    (from_to zero two ∷ []) ∷
    (from_to minus1 two ∷ []) ∷
    (from_to minus2 two ∷ []) ∷
    (from_to minus2 one ∷ []) ∷
    (from_to minus1 one ∷ []) ∷ []
unfolding is_related
relations = refl

point_relations : map (related_to point) all_relations ≡
    (from_to one one ∷ from_to one two ∷ from_to two two ∷ []) ∷
    intervals ∷
    (from_to zero zero ∷ from_to zero one ∷ from_to zero two ∷ []) ∷
    [] ∷
    (from_to zero one ∷ from_to zero two ∷ []) ∷
    (from_to minus2 one ∷ from_to minus2 two ∷ from_to minus1 one ∷ from_to minus1 two ∷ []) ∷
    (from_to minus2 zero ∷ from_to minus1 zero ∷ []) ∷
    (from_to zero zero ∷ []) ∷ []
unfolding is_related
point_relations = refl

-- how two of the intervals end that are related: with an s that ends first; else with an r that ends before s starts; else with an r that ends
-- after that and before s does; else only together
abbrev some_related : Relation → (Interval → Interval → Bool) → Bool
some_related c p = some (λ r. some (λ s. is_related c r.start r.end s.start s.end && p r s) intervals) intervals

abbrev ending_found : Relation → Ending
ending_found c =
    cond (some_related c (λ r s. lt_z s.end r.end)) Either
    (cond (some_related c (λ r s. lt_z r.end s.start)) Before
    (cond (some_related c (λ r s. lt_z r.end s.end)) Within Together))

endings : map ending_of all_relations ≡ map ending_found all_relations
unfolding is_related ending_of
endings = refl

abbrev forbidding : Interval → Edges → List Interval
forbidding r edges = keep (λ s. is_forbidding edges r.start r.end s.start s.end) intervals

absences : map (forbidding long) (ClosedClosed ∷ OpenOpen ∷ ClosedOpen ∷ OpenClosed ∷ []) ≡
    (from_to minus1 minus1 ∷ from_to minus1 zero ∷ from_to minus1 one ∷ from_to zero zero ∷ from_to zero one ∷ from_to one one ∷ []) ∷
    (from_to zero zero ∷ []) ∷
    (from_to minus1 minus1 ∷ from_to minus1 zero ∷ from_to zero zero ∷ []) ∷
    (from_to zero zero ∷ from_to zero one ∷ from_to one one ∷ []) ∷ []
unfolding is_forbidding
absences = refl

point_absences : map (forbidding point) (ClosedClosed ∷ OpenOpen ∷ ClosedOpen ∷ OpenClosed ∷ []) ≡ (from_to zero zero ∷ []) ∷ [] ∷ [] ∷ [] ∷ []
unfolding is_forbidding
point_absences = refl

abbrev lasting : ℕ → List Interval → LengthTest → List Interval
lasting d rs test = keep (λ r. has_length test d r.start r.end) rs

-- 5, on lengths 4, 5 and 6
lengths : map (lasting 5 (from_to minus2 (pos 2) ∷ from_to minus2 (pos 3) ∷ from_to minus2 (pos 4) ∷ [])) (Lasts ∷ AtMost ∷ AtLeast ∷ []) ≡
    (from_to minus2 (pos 3) ∷ []) ∷
    (from_to minus2 (pos 2) ∷ from_to minus2 (pos 3) ∷ []) ∷
    (from_to minus2 (pos 3) ∷ from_to minus2 (pos 4) ∷ []) ∷ []
unfolding has_length
lengths = refl

-- 0, on lengths 0 and 1; and the greatest length, on one less and on itself
abbrev longest : Interval
longest = from_to (negsuc 999999999) (pos 1000000000)

abbrev one_shorter : Interval
one_shorter = from_to (negsuc 999999999) (pos 999999999)

extreme_lengths : map (lasting 0 (point ∷ from_to zero one ∷ [])) (Lasts ∷ AtMost ∷ AtLeast ∷ []) ++ map (lasting 2000000000 (one_shorter ∷ longest ∷ [])) (Lasts ∷ AtMost ∷ AtLeast ∷ []) ≡
    (point ∷ []) ∷ (point ∷ []) ∷ (point ∷ from_to zero one ∷ []) ∷
    (longest ∷ []) ∷ (one_shorter ∷ longest ∷ []) ∷ (longest ∷ []) ∷ []
unfolding has_length
extreme_lengths = refl

-- rivals of an s that ends at 2, behind an r that ends at -1: none that starts at -1, none that ends at 2
second_rivals : keep (λ s. is_rival_of_second minus1 two s.start s.end) intervals ≡ from_to zero zero ∷ from_to zero one ∷ from_to one one ∷ []
unfolding is_rival_of_second
second_rivals = refl

-- rivals of an r from -1 to 0, before an s that starts at 2: one that starts at -1 too, none that starts at -2, none that ends at 0 or at 2
abbrev first_rivals : Nearest → List Interval
first_rivals nearest = keep (λ s. is_rival_of_first nearest minus1 zero two s.start s.end) intervals

first_rivals_lem : map first_rivals (Cut ∷ Change ∷ []) ≡ [] ∷ (from_to minus1 one ∷ from_to zero one ∷ from_to one one ∷ []) ∷ []
unfolding is_rival_of_first
first_rivals_lem = refl

-- "a signed whole number from -1,000,000,000 to 1,000,000,000"; "A length is 0 to 2,000,000,000."
instants : map is_instant (negsuc 1000000000 ∷ negsuc 999999999 ∷ minus1 ∷ zero ∷ pos 1000000000 ∷ pos 1000000001 ∷ []) ≡ false ∷ true ∷ true ∷ true ∷ true ∷ false ∷ []
unfolding is_instant
instants = refl

length_range : map is_length (0 ∷ 2000000000 ∷ 2000000001 ∷ []) ≡ true ∷ true ∷ false ∷ []
unfolding is_length
length_range = refl

first : first_floor ≡ negsuc 999999999
unfolding first_floor
first = refl

-- marks while -1 is open, and while the last instant is
abbrev marks_taken : ℤ → List ℤ → List ℤ
marks_taken opened xs = keep (λ x. not (is_mark_refused opened x)) xs

marks : marks_taken minus1 (negsuc 1000000000 ∷ minus2 ∷ minus1 ∷ zero ∷ pos 1000000000 ∷ pos 1000000001 ∷ []) ≡ zero ∷ pos 1000000000 ∷ []
unfolding is_mark_refused is_instant
marks = refl

marks_last : marks_taken (pos 1000000000) (pos 1000000000 ∷ pos 1000000001 ∷ []) ≡ []
unfolding is_mark_refused is_instant
marks_last = refl

-- forgets with floor -1 and open instant 1, and where only the range refuses
abbrev forgets_taken : ℤ → ℤ → List ℤ → List ℤ
forgets_taken floor opened fs = keep (λ f. not (is_forget_refused floor opened f)) fs

forgets : forgets_taken minus1 one (minus2 ∷ minus1 ∷ zero ∷ one ∷ two ∷ []) ≡ minus1 ∷ zero ∷ one ∷ []
unfolding is_forget_refused is_instant
forgets = refl

forgets_range : forgets_taken (negsuc 1000000000) (pos 1000000001) (negsuc 1000000000 ∷ negsuc 999999999 ∷ pos 1000000000 ∷ pos 1000000001 ∷ []) ≡ negsuc 999999999 ∷ pos 1000000000 ∷ []
unfolding is_forget_refused is_instant
forgets_range = refl

-- "the least start and the greatest end"
spans : least minus1 one ∷ least one minus1 ∷ greatest minus1 one ∷ greatest one minus1 ∷ [] ≡ minus1 ∷ minus1 ∷ one ∷ one ∷ []
spans = refl
