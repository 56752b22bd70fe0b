-- What one step does, whatever bytes come later.
use Prim.Native.Nat.{ℕ, ◌+◌, ◌-◌, ◌≤◌, ◌<◌}
use native.Mathlib.Omega.{arith}
use mathlib.Core.Path.{◌≡◌, refl, sym, ap, ap₂, ◌∙◌, subst}
use mathlib.Core.Bool.{Bool, true, false, cond}
use mathlib.Core.List.{List, [], ◌∷◌, ◌++◌, append-nil, map}
use borrow.Author.Tests.{leb-true, leb-false}
use lib.Dec.{leb}
use lib.IntN.{ℤ}
use lib.ListN.{length, take, drop}
use lib.Signed.{lt_z}
use Rattle.std.specs.Prelude.{Option, Some, None, Result, Err}
use Rattle.std.specs.Option.{option_map}
use Rattle.interval.specs.Instants.{is_mark_refused}
use Rattle.interval.proofs.Signed.{signed, not_lt}
use Rattle.text.specs.Text.{line_size}
use Rattle.text.proofs.Laws.{lines_none, first_part}
use Rattle.log_line.specs.Log.{call_of, call_in, calls_of}
use Rattle.log_line.specs.declared.Call.{Call}
use Rattle.log_line.specs.declared.Call.TheVariants as log
use Rattle.log_line.proofs.ReadBack.{calls_first, calls_long, calls_last}
use Rattle.logs.specs.Logs.{Item, code, mark, items_of, call_for, text_of}
use Rattle.merging.specs.Merging.{no_instant, second_items, items_at_mark, merge_items, rest_for}
use Rattle.merging.specs.Turns.{end_stop, call_next, no_next_of, next_of, step_to, step_marks, step_second, step_first, step_of, call_text}
use Rattle.merging.specs.Statements.{Comes}
use Rattle.merging.specs.declared.Ended.{Ended}
use Rattle.merging.specs.declared.Mark.{Mark}
use Rattle.merging.specs.declared.Next.{Next}
use Rattle.merging.specs.declared.Step.{Step}
use Rattle.merging.specs.declared.Want.{Want}
use Rattle.merging.proofs.Items.{stop_fresh, stop_stale, fresh_below}

abbrev pub items_in : List ℕ → List Item
items_in s = items_of (calls_of s)

-- the size of a line that is there
pub record Sized (s : List ℕ) (n : ℕ) : Type 0 where
  pub some : 0 < n
  pub inside : n ≤ length s

-- nothing is to come of a log at instant now
pub data Over (now : ℤ) : List Item → Type 0 where
  done : Over now []
  stale : (u : ℤ) {is : List Item} → is_mark_refused now u ≡ true → Over now (mark u ∷ is)

-- a mark that may follow is next
pub record MarkWell (now : ℤ) (s : List ℕ) (m : Mark) : Type 0 where
  pub sized : Sized s m.size
  pub fresh : is_mark_refused now m.instant ≡ false
  pub items : (later : List ℕ) → items_in (s ++ later) ≡ mark m.instant ∷ items_in (drop m.size s ++ later)

abbrev pub StopWell : ℤ → List ℕ → Bool → Option Mark → Type 0
StopWell now s ended None = (later : List ℕ) → Comes ended later → Over now (items_in (s ++ later))
StopWell now s ended (Some m) = MarkWell now s m

-- an event, or a line passed over
abbrev pub codes_of : Option ℕ → List Item → List Item
codes_of None is = is
codes_of (Some k) is = code k ∷ is

-- what the next line tells
abbrev pub NextWell : ℤ → List ℕ → Bool → Option Next → Type 0
NextWell now s ended None = (ended ≡ false) × (length s < 64)
NextWell now s ended (Some (Next.Line n k)) = Sized s n × ((later : List ℕ) → items_in (s ++ later) ≡ codes_of k (items_in (drop n s ++ later)))
NextWell now s ended (Some (Next.Stop m)) = StopWell now s ended m

module _ (now : ℤ) (s : List ℕ) (ended : Bool) where
  module _ (z : line_size s ≡ None) where
    ended_over : ended ≡ true → StopWell now s ended None
    unfolding items_of
    ended_over e = λ later h. rw (h e, append-nil s) (go s z)
      where
        go : (s : List ℕ) → line_size s ≡ None → Over now (items_in s)
        go [] y = subst (λ l. Over now (items_of (map call_in l))) (sym lines_none) done
        go (b ∷ r) y = let k = calls_last (b ∷ r) y (omega arith) in subst (λ l. Over now (items_of l)) (sym k.calls) done

    long_over : 64 ≤ length s → StopWell now s ended None
    unfolding items_of
    long_over h = λ later g. let k = calls_long s later z h in subst (λ l. Over now (items_of l)) (sym k.calls) done

    none_well : NextWell now s ended (no_next_of (length s) ended)
    none_well = go ended refl (leb 64 (length s)) refl
      where
        go : (b : Bool) → ended ≡ b → (c : Bool) → leb 64 (length s) ≡ c → NextWell now s ended (cond b end_stop (cond c end_stop None))
        go true e c d = ended_over e
        go false e true d = long_over (leb-true 64 (length s) d)
        go false e false d = (e, leb-false 64 (length s) d)

  module _ (n : ℕ) (is : line_size s ≡ Some n) where
    sized : Sized s n
    sized = let f = first_part s n is in record { some = f.some; inside = f.inside }

    items_line : (d : Option Call) → call_of (take (n - 1) s) ≡ d → (later : List ℕ) → items_in (s ++ later) ≡ items_of (d ∷ calls_of (drop n s ++ later))
    items_line d e later = ap items_of (calls_first s later n is ∙ ap (λ x. x ∷ calls_of (drop n s ++ later)) e)

    call_well : (d : Option Call) → call_of (take (n - 1) s) ≡ d → NextWell now s ended (call_next now n d)
    unfolding items_of
    call_well (Some (log.Open o)) e = (sized, λ later. items_line (Some (log.Open o)) e later)
    call_well (Some (log.Event k)) e = (sized, λ later. items_line (Some (log.Event k)) e later)
    call_well (Some (log.Clock t)) e = go (is_mark_refused now t) refl
      where
        go : (b : Bool) → is_mark_refused now t ≡ b → NextWell now s ended (cond b end_stop (Some (Next.Stop (Some (record { size = n; instant = t })))))
        go false d = record { sized = sized; fresh = d; items = λ later. items_line (Some (log.Clock t)) e later }
        go true d = λ later h. subst (Over now) (sym (items_line (Some (log.Clock t)) e later)) (stale t d)
    call_well (Some (log.Forget t)) e = λ later h. subst (Over now) (sym (items_line (Some (log.Forget t)) e later)) done
    call_well None e = λ later h. subst (Over now) (sym (items_line None e later)) done

  pub next_well : NextWell now s ended (next_of now s ended)
  next_well = go (line_size s) refl
    where
      go : (o : Option ℕ) → line_size s ≡ o → NextWell now s ended (next_of now s ended)
      go None e = rw e (none_well e)
      go (Some n) e = rw e (call_well n e (call_of (take (n - 1) s)) refl)

-- Merging by the next items.
pub over_over : (now : ℤ) {is js : List Item} → Over now is → Over now js → merge_items is now js ≡ []
unfolding merge_items second_items items_at_mark
over_over now done done = refl
over_over now done (stale u d) = rw (stop_stale now u d)
over_over now (stale u e) done = rw (stop_stale now u e)
over_over now (stale u e) (stale v d) = rw (stop_stale now u e, stop_stale now v d)

pub first_mark : (now s : ℤ) (is : List Item) {js : List Item} → is_mark_refused now s ≡ false → Over now js → merge_items (mark s ∷ is) now js ≡ mark s ∷ merge_items is s js
unfolding merge_items items_at_mark
first_mark now s is e done = rw (stop_fresh now s e, fresh_below now s e)
first_mark now s is e (stale v d) = rw (stop_fresh now s e, stop_stale now v d, fresh_below now s e)

pub second_mark : (now t : ℤ) (js : List Item) {is : List Item} → is_mark_refused now t ≡ false → Over now is → merge_items is now (mark t ∷ js) ≡ mark t ∷ merge_items is t js
unfolding merge_items items_at_mark second_items
second_mark now t js e done = rw (stop_fresh now t e, fresh_below now t e)
second_mark now t js e (stale u d) =
    let below = fresh_below now t e in
    let past : lt_z no_instant t ≡ false = not_lt no_instant t (omega (arith, signed, below)) in
    rw (stop_stale now u d, stop_fresh now t e, past, below)

module _ (now s t : ℤ) (is js : List Item) (e : is_mark_refused now s ≡ false) (d : is_mark_refused now t ≡ false) where
  pub earlier_first : lt_z s t ≡ true → merge_items (mark s ∷ is) now (mark t ∷ js) ≡ mark s ∷ merge_items is s (mark t ∷ js)
  unfolding merge_items items_at_mark
  earlier_first h = rw (stop_fresh now s e, stop_fresh now t d, h)

  pub earlier_second : lt_z s t ≡ false → lt_z t s ≡ true → merge_items (mark s ∷ is) now (mark t ∷ js) ≡ mark t ∷ merge_items (mark s ∷ is) t js
  unfolding merge_items items_at_mark
  earlier_second h g = rw (stop_fresh now s e, stop_fresh now t d, h, g)

  pub same_mark : lt_z s t ≡ false → lt_z t s ≡ false → merge_items (mark s ∷ is) now (mark t ∷ js) ≡ mark s ∷ merge_items is s js
  unfolding merge_items items_at_mark
  same_mark h g = rw (stop_fresh now s e, stop_fresh now t d, h, g, fresh_below now s e)

pub over_code : (now : ℤ) (k : ℕ) (js : List Item) {is : List Item} → Over now is → merge_items is now (code k ∷ js) ≡ code k ∷ merge_items is now js
unfolding merge_items second_items items_at_mark
over_code now k js done = refl
over_code now k js (stale u d) = refl

pub mark_code : (now s : ℤ) (is : List Item) (k : ℕ) (js : List Item) → merge_items (mark s ∷ is) now (code k ∷ js) ≡ code k ∷ merge_items (mark s ∷ is) now js
unfolding merge_items items_at_mark
mark_code now s is k js = refl

pub code_first : (now : ℤ) (k : ℕ) (is js : List Item) → merge_items (code k ∷ is) now js ≡ code k ∷ merge_items is now js
unfolding merge_items
code_first now k is js = refl

-- What a step does: the bytes that it uses are there, and it goes on with the rest, whatever comes later; or it says which log has no whole line, or is at the end.
module _ (now : ℤ) (ended : Ended) (a b : List ℕ) where
  abbrev pub Goes : ℕ → ℕ → List ℕ → ℤ → Type 0
  Goes f g text t = (x y : List ℕ) → Comes ended.first x → Comes ended.second y → rest_for now (a ++ x) (b ++ y) ≡ text ++ rest_for t (drop f a ++ x) (drop g b ++ y)

  pub data StepWell : Result Step Want → Type 0 where
    taken : (f g : ℕ) (c : Option Call) (t : ℤ) → f ≤ length a → g ≤ length b → 0 < f + g → Goes f g (call_text c) t → StepWell (step_to f g c t)
    lacks_first_lem : ended.first ≡ false → length a < 64 → StepWell (Err Want.First)
    lacks_second_lem : ended.second ≡ false → length b < 64 → StepWell (Err Want.Second)
    at_end : ((x y : List ℕ) → Comes ended.first x → Comes ended.second y → rest_for now (a ++ x) (b ++ y) ≡ []) → StepWell (Err Want.Nothing)

  -- one line written, or one passed over
  one_mark : (s : ℤ) (x y u v : List ℕ) → merge_items (items_in x) now (items_in y) ≡ mark s ∷ merge_items (items_in u) s (items_in v) → rest_for now x y ≡ call_text (Some (log.Clock s)) ++ rest_for s u v
  unfolding rest_for text_of call_for
  one_mark s x y u v e = ap (λ l. text_of (map call_for l)) e

  one_line : (k : Option ℕ) (x y u v : List ℕ) → merge_items (items_in x) now (items_in y) ≡ codes_of k (merge_items (items_in u) now (items_in v)) → rest_for now x y ≡ call_text (option_map log.Event k) ++ rest_for now u v
  unfolding rest_for text_of call_for
  one_line None x y u v e = ap (λ l. text_of (map call_for l)) e
  one_line (Some k) x y u v e = ap (λ l. text_of (map call_for l)) e

  nothing : (x y : List ℕ) → merge_items (items_in x) now (items_in y) ≡ [] → rest_for now x y ≡ []
  unfolding rest_for text_of
  nothing x y e = ap (λ l. text_of (map call_for l)) e

  -- both logs are stopped
  marks_well : (s t : Option Mark) → StopWell now a ended.first s → StopWell now b ended.second t → StepWell (step_marks s t)
  marks_well None None f g = at_end (λ x y u v. nothing (a ++ x) (b ++ y) (over_over now (f x u) (g y v)))
  marks_well (Some s) None k g =
      taken s.size 0 (Some (log.Clock s.instant)) s.instant k.sized.inside (omega arith) (omega (arith, k.sized.some))
      (λ x y u v. one_mark s.instant (a ++ x) (b ++ y) (drop s.size a ++ x) (b ++ y) (ap (λ l. merge_items l now (items_in (b ++ y))) (k.items x) ∙ first_mark now s.instant (items_in (drop s.size a ++ x)) k.fresh (g y v)))
  marks_well None (Some t) f k =
      taken 0 t.size (Some (log.Clock t.instant)) t.instant (omega arith) k.sized.inside (omega (arith, k.sized.some))
      (λ x y u v. one_mark t.instant (a ++ x) (b ++ y) (a ++ x) (drop t.size b ++ y) (ap (λ l. merge_items (items_in (a ++ x)) now l) (k.items y) ∙ second_mark now t.instant (items_in (drop t.size b ++ y)) k.fresh (f x u)))
  marks_well (Some s) (Some t) k j = go (lt_z s.instant t.instant) refl (lt_z t.instant s.instant) refl
    where
      items : (x y : List ℕ) → merge_items (items_in (a ++ x)) now (items_in (b ++ y)) ≡ merge_items (mark s.instant ∷ items_in (drop s.size a ++ x)) now (mark t.instant ∷ items_in (drop t.size b ++ y))
      items x y = ap₂ (λ l r. merge_items l now r) (k.items x) (j.items y)

      go : (p : Bool) → lt_z s.instant t.instant ≡ p → (q : Bool) → lt_z t.instant s.instant ≡ q → StepWell (step_marks (Some s) (Some t))
      go true h q i =
          rw h (taken s.size 0 (Some (log.Clock s.instant)) s.instant k.sized.inside (omega arith) (omega (arith, k.sized.some))
          (λ x y o r. one_mark s.instant (a ++ x) (b ++ y) (drop s.size a ++ x) (b ++ y) (items x y ∙ earlier_first now s.instant t.instant (items_in (drop s.size a ++ x)) (items_in (drop t.size b ++ y)) k.fresh j.fresh h ∙ ap (λ l. mark s.instant ∷ merge_items (items_in (drop s.size a ++ x)) s.instant l) (sym (j.items y)))))
      go false h true i =
          rw (h, i) (taken 0 t.size (Some (log.Clock t.instant)) t.instant (omega arith) j.sized.inside (omega (arith, j.sized.some))
          (λ x y o r. one_mark t.instant (a ++ x) (b ++ y) (a ++ x) (drop t.size b ++ y) (items x y ∙ earlier_second now s.instant t.instant (items_in (drop s.size a ++ x)) (items_in (drop t.size b ++ y)) k.fresh j.fresh h i ∙ ap (λ l. mark t.instant ∷ merge_items l t.instant (items_in (drop t.size b ++ y))) (sym (k.items x)))))
      go false h false i =
          rw (h, i) (taken s.size t.size (Some (log.Clock s.instant)) s.instant k.sized.inside j.sized.inside (omega (arith, k.sized.some))
          (λ x y o r. one_mark s.instant (a ++ x) (b ++ y) (drop s.size a ++ x) (drop t.size b ++ y) (items x y ∙ same_mark now s.instant t.instant (items_in (drop s.size a ++ x)) (items_in (drop t.size b ++ y)) k.fresh j.fresh h i)))

  -- the first log is stopped, a line of the second comes
  stop_line : (s : Option Mark) → StopWell now a ended.first s → (k : Option ℕ) (x : List ℕ) (js : List Item) → Comes ended.first x → merge_items (items_in (a ++ x)) now (codes_of k js) ≡ codes_of k (merge_items (items_in (a ++ x)) now js)
  stop_line s h None x js u = refl
  stop_line None f (Some k) x js u = over_code now k js (f x u)
  stop_line (Some s) j (Some k) x js u = rw (j.items x) (mark_code now s.instant (items_in (drop s.size a ++ x)) k js)

  -- a line of the first log comes
  first_line : (k : Option ℕ) (is js : List Item) → merge_items (codes_of k is) now js ≡ codes_of k (merge_items is now js)
  first_line None is js = refl
  first_line (Some k) is js = code_first now k is js

  second_well : (s : Option Mark) → StopWell now a ended.first s → (q : Option Next) → NextWell now b ended.second q → StepWell (step_second now s q)
  second_well s h None w = lacks_second_lem w.0 w.1
  second_well s h (Some (Next.Line m k)) w =
      taken 0 m (option_map log.Event k) now (omega arith) w.0.inside (omega (arith, w.0.some))
      (λ x y u v. one_line k (a ++ x) (b ++ y) (a ++ x) (drop m b ++ y) (ap (λ l. merge_items (items_in (a ++ x)) now l) (w.1 y) ∙ stop_line s h k x (items_in (drop m b ++ y)) u))
  second_well s h (Some (Next.Stop t)) w = marks_well s t h w

  first_well : (p : Option Next) → NextWell now a ended.first p → (q : Option Next) → NextWell now b ended.second q → StepWell (step_first now p q)
  first_well None w q v = lacks_first_lem w.0 w.1
  first_well (Some (Next.Line n k)) w q v =
      taken n 0 (option_map log.Event k) now w.0.inside (omega arith) (omega (arith, w.0.some))
      (λ x y u z. one_line k (a ++ x) (b ++ y) (drop n a ++ x) (b ++ y) (ap (λ l. merge_items l now (items_in (b ++ y))) (w.1 x) ∙ first_line k (items_in (drop n a ++ x)) (items_in (b ++ y))))
  first_well (Some (Next.Stop s)) w q v = second_well s w q v

  pub step_well : StepWell (step_of now ended a b)
  unfolding step_of
  step_well = first_well (next_of now a ended.first) (next_well now a ended.first) (next_of now b ended.second) (next_well now b ended.second)
