-- The statements of specs/Statements.antt.
use Prim.Native.Nat.{ℕ, zero, suc, ◌+◌, ◌≤◌, ◌<◌}
use native.Mathlib.Omega.{arith}
use mathlib.Core.Path.{◌≡◌, refl, sym, ap, ap₂, ◌∙◌, subst}
use mathlib.Core.Bool.{Bool, true, false, cond}
use mathlib.Core.List.{List, [], ◌++◌, append_assoc}
use borrow.Author.Tests.{eqb-true, eq-eqb, leb-false}
use lib.Dec.{eqb, leb}
use lib.IntN.{ℤ}
use lib.ListN.{length, drop, length-drop}
use lib.Seq.{drop-drop}
use lib.Signed.{lt_z}
use Rattle.std.specs.Prelude.{Option, Result}
use Rattle.interval.specs.Instants.{is_instant, eq_z}
use Rattle.interval.proofs.Signed.{eq_true, eq_same, not_lt}
use Rattle.log_line.specs.Log.{calls_of, line_of, line_most}
use Rattle.log_line.specs.declared.Call.{Call}
use Rattle.log_line.specs.declared.Call.TheVariants as log
use Rattle.logs.specs.Logs.{Item, items_of, groups_from, log_of, log_refusal, opened_in, merge, merge_with, text_of, log_text, outcome_of, outcome_text, merged_for}
use Rattle.logs.specs.Statements.{Together}
use Rattle.logs.proofs.Items.{Rising, bytes_coded, from_log, taken_log}
use Rattle.logs.proofs.Texts.{from_calls}
use Rattle.logs.proofs.Theorems.{text_taken}
use Rattle.merging.specs.Merging.{merge_items, rest_for}
use Rattle.merging.specs.Turns.{Steps, call_text, after_step, steps_to, steps_from, steps_of, step_of}
use Rattle.merging.specs.Statements.{Comes, TurnStops, TurnsHold, printed_for, PrintsMerged, AlwaysTaken}
use Rattle.merging.specs.declared.Ended.{Ended}
use Rattle.merging.specs.declared.Step.{Step}
use Rattle.merging.specs.declared.Want.{Want}
use Rattle.merging.proofs.Items.{merge_agrees, merge_rising}
use Rattle.merging.proofs.Windows.{StepWell, taken, lacks_first_lem, lacks_second_lem, at_end, step_well}

module _ (ended : Ended) (a b : List ℕ) (room : ℕ) where
  -- what some steps do from a place on, with this text written so far
  record FromPlace (t : ℤ) (i j : ℕ) (text : List ℕ) (r : Steps) : Type 0 where
    goes : (x y : List ℕ) → Comes ended.first x → Comes ended.second y → text ++ rest_for t (drop i a ++ x) (drop j b ++ y) ≡ r.text ++ rest_for r.instant (drop r.first a ++ x) (drop r.second b ++ y)
    stops : TurnStops ended a b room r

  module _ (t : ℤ) (i j : ℕ) (text : List ℕ) (hi : i ≤ length a) (hj : j ≤ length b) where
    stops_at : (w : Want)
        → (w ≡ Want.Nothing → (x y : List ℕ) → Comes ended.first x → Comes ended.second y → rest_for t (drop i a ++ x) (drop j b ++ y) ≡ [])
        → (w ≡ Want.First → (ended.first ≡ false) × (length (drop i a) < 64))
        → (w ≡ Want.Second → (ended.second ≡ false) × (length (drop j b) < 64))
        → (w ≡ Want.Room → room < length text + line_most)
        → FromPlace t i j text (steps_to w i j text t)
    stops_at w over first second full = record { goes = λ x y p q. refl; stops = record { over = over; lacks_first = first; lacks_second = second; full = full; in_first = hi; in_second = hj } }

    no_room : leb (length text + line_most) room ≡ false → FromPlace t i j text (steps_to Want.Room i j text t)
    no_room e = stops_at Want.Room (λ z. cc) (λ z. cc) (λ z. cc) (λ z. leb-false (length text + line_most) room e)

    -- one step, and what follows it where it is taken
    one_step : (rest : ℤ → ℕ → ℕ → List ℕ → Steps) {r : Result Step Want} → StepWell t ended (drop i a) (drop j b) r → ((f g : ℕ) (c : Option Call) (u : ℤ) → i + f ≤ length a → j + g ≤ length b → 0 < f + g → FromPlace u (i + f) (j + g) (text ++ call_text c) (rest u (i + f) (j + g) (text ++ call_text c))) → FromPlace t i j text (after_step (λ st. rest st.instant (i + st.first) (j + st.second) (text ++ call_text st.call)) (λ w. steps_to w i j text t) r)
    one_step rest (taken f g c u p q s w) next =
        let k = next f g c u (omega (arith, p, length-drop i a)) (omega (arith, q, length-drop j b)) s in
        record {
          goes = λ x y o r. ap (λ l. text ++ l) (w x y o r) ∙ sym (append_assoc text (call_text c) (rest_for u (drop f (drop i a) ++ x) (drop g (drop j b) ++ y))) ∙ ap₂ (λ l m. (text ++ call_text c) ++ rest_for u (l ++ x) (m ++ y)) (drop-drop f i a) (drop-drop g j b) ∙ k.goes x y o r;
          stops = k.stops;
        }
    one_step rest (lacks_first_lem p q) next = stops_at Want.First (λ z. cc) (λ z. (p, q)) (λ z. cc) (λ z. cc)
    one_step rest (lacks_second_lem p q) next = stops_at Want.Second (λ z. cc) (λ z. cc) (λ z. (p, q)) (λ z. cc)
    one_step rest (at_end w) next = stops_at Want.Nothing (λ z x y o r. w x y o r) (λ z. cc) (λ z. cc) (λ z. cc)

    -- with room or without
    either : (m : ℕ) → ((f g : ℕ) (c : Option Call) (u : ℤ) → i + f ≤ length a → j + g ≤ length b → 0 < f + g → FromPlace u (i + f) (j + g) (text ++ call_text c) (steps_from ended a b room m u (i + f) (j + g) (text ++ call_text c))) → FromPlace t i j text (steps_from ended a b room (suc m) t i j text)
    unfolding steps_from
    either m next = go (leb (length text + line_most) room) refl
      where
        go : (p : Bool) → leb (length text + line_most) room ≡ p → FromPlace t i j text (cond p (after_step (λ st. steps_from ended a b room m st.instant (i + st.first) (j + st.second) (text ++ call_text st.call)) (λ w. steps_to w i j text t) (step_of t ended (drop i a) (drop j b))) (steps_to Want.Room i j text t))
        go true e = one_step (steps_from ended a b room m) (step_well t ended (drop i a) (drop j b)) next
        go false e = no_room e

  steps_hold : (m : ℕ) (t : ℤ) (i j : ℕ) (text : List ℕ) → i ≤ length a → j ≤ length b → length a + length b ≤ i + j + m → FromPlace t i j text (steps_from ended a b room (suc m) t i j text)
  steps_hold zero t i j text hi hj enough = either t i j text hi hj zero (λ f g c u p q s. absurd (omega (arith, p, q, s, enough)))
  steps_hold (suc m) t i j text hi hj enough = either t i j text hi hj (suc m) (λ f g c u p q s. steps_hold m u (i + f) (j + g) (text ++ call_text c) p q (omega (arith, s, enough)))

pub turns_hold : TurnsHold
unfolding steps_of
turns_hold ended a b now room =
    let k = steps_hold ended a b room (length a + length b) now 0 0 [] (omega arith) (omega arith) (omega arith) in
    record { goes = k.goes; stops = k.stops }

-- The opening, and what is printed behind it, are the text of a log.
rest_text : (o : ℤ) (u v : List ℕ) → log_text (groups_from o (merge_items (items_of (calls_of u)) o (items_of (calls_of v)))) ≡ line_of (log.Open o) ++ rest_for o u v
unfolding rest_for text_of
rest_text o u v = ap text_of (from_calls o (merge_items (items_of (calls_of u)) o (items_of (calls_of v))))

rest_taken : (o : ℤ) (u v : List ℕ) → is_instant o ≡ true → (log_refusal (calls_of (line_of (log.Open o) ++ rest_for o u v))).number ≡ 0
rest_taken o u v e =
    let is = merge_items (items_of (calls_of u)) o (items_of (calls_of v)) in
    ap (λ s. (log_refusal (calls_of s)).number) (sym (rest_text o u v)) ∙ text_taken (groups_from o is) (from_log o is e (merge_rising (items_of (calls_of u)) o (items_of (calls_of v)) (bytes_coded u) (bytes_coded v)))

-- two logs of one opening: the merged log item by item
merged_from : (o : ℤ) (is js : List Item) → Rising o is → Rising o js → merge (groups_from o is) (groups_from o js) ≡ groups_from o (merge_items is o js)
unfolding merge merge_with
merged_from o is js f g =
    let k = merge_agrees is o js f g in
    let same : lt_z o o ≡ false = not_lt o o (omega arith) in
    rw (same, k.first, k.after)

merged_text : (x y : List ℕ) → Together x y → log_text (merge (log_of (calls_of x)) (log_of (calls_of y))) ≡ line_of (log.Open (opened_in (calls_of x))) ++ rest_for (opened_in (calls_of x)) x y
unfolding log_of
merged_text x y t =
    let o = opened_in (calls_of x) in
    let is = items_of (calls_of x) in
    let js = items_of (calls_of y) in
    let f = taken_log x t.first in
    let g = taken_log y t.second in
    ap (λ z. log_text (merge (groups_from o is) (groups_from z js))) (sym t.opened) ∙ ap log_text (merged_from o is js f.rising (subst (λ z. Rising z js) (sym t.opened) g.rising)) ∙ rest_text o x y

-- what is printed, by the tests
pub printed_log : (x y u v : List ℕ) → Together x y → printed_for x y u v ≡ line_of (log.Open (opened_in (calls_of x))) ++ rest_for (opened_in (calls_of x)) u v
unfolding printed_for
printed_log x y u v t =
    let same : eq_z (opened_in (calls_of x)) (opened_in (calls_of y)) ≡ true = ap (eq_z (opened_in (calls_of x))) (sym t.opened) ∙ eq_same (opened_in (calls_of x)) in
    rw (eq-eqb _ 0 t.first, eq-eqb _ 0 t.second, same)

pub prints_merged : PrintsMerged
unfolding printed_for merged_for outcome_of outcome_text
prints_merged x y = go (eqb (log_refusal (calls_of x)).number 0) refl (eqb (log_refusal (calls_of y)).number 0) refl (eq_z (opened_in (calls_of x)) (opened_in (calls_of y))) refl
  where
    c : List (Option Call)
    c = calls_of x

    d : List (Option Call)
    d = calls_of y

    go : (p : Bool) → eqb (log_refusal c).number 0 ≡ p → (q : Bool) → eqb (log_refusal d).number 0 ≡ q → (r : Bool) → eq_z (opened_in c) (opened_in d) ≡ r → printed_for x y x y ≡ merged_for x y
    go false e q f r g = rw e
    go true e false f r g = rw (e, f)
    go true e true f false g = rw (e, f, g)
    go true e true f true g =
        let t : Together x y = record { first = eqb-true _ 0 e; second = eqb-true _ 0 f; opened = eq_true (opened_in c) (opened_in d) g } in
        rw (e, f, g) (sym (merged_text x y t))

pub always_taken : AlwaysTaken
always_taken x y u v t = ap (λ s. (log_refusal (calls_of s)).number) (printed_log x y u v t) ∙ rest_taken (opened_in (calls_of x)) u v (taken_log x t.first).range
