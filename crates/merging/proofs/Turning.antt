-- The turns of `merge_some`: what is to do from where it has come is what was to do.
use Prim.Native.Nat.{ℕ, suc, ◌+◌, ◌-◌, ◌≤◌, ◌<◌}
use native.Mathlib.Omega.{arith}
use mathlib.Core.Path.{◌≡◌, refl, sym, ap, ap₂, ◌∙◌, subst}
use mathlib.Core.List.{List, [], ◌++◌, append_assoc}
use borrow.Author.Tests.{le-leb, lt-leb}
use lib.IntN.{ℤ}
use lib.ListN.{length, take, drop, length-append, length-drop}
use lib.Seq.{sets, sets-eq, take-append_seam, drop-append-add, drop-drop}
use Rattle.std.specs.Prelude.{Result, Ok, Err}
use Rattle.text.proofs.Laws.{part_from}
use Rattle.text.proofs.Written.{part, with_part, with_part_lem, front_written}
use Rattle.log_line.specs.Log.{line_most}
use Rattle.merging.specs.Turns.{step_of, call_text, after_step, steps_to, steps_from, steps_of, turn_of, output_of}
use Rattle.merging.specs.declared.Ended.{Ended}
use Rattle.merging.specs.declared.Step.{Step}
use Rattle.merging.specs.declared.Turn.{Turn}
use Rattle.merging.specs.declared.Want.{Want}
use Rattle.merging.proofs.Windows.{StepWell, taken, lacks_first_lem, lacks_second_lem, at_end, step_well}

-- one more text behind what is written
abbrev pub onto : List ℕ → List ℕ → List ℕ
onto text out = text ++ drop (length text) out

onto_length : (text out : List ℕ) → length text ≤ length out → length (onto text out) ≡ length out
onto_length text out h = length-append text (drop (length text) out) ∙ omega (arith, length-drop (length text) out)

onto_more : (text x out : List ℕ) → length text + length x ≤ length out → sets (onto text out) (length text) x ≡ onto (text ++ x) out
onto_more text x out h =
    let l = onto text out in
    let n : length l ≡ length out = onto_length text out (omega arith) in
    let behind : drop (length text + length x) l ≡ drop (length (text ++ x)) out = drop-append-add text (drop (length text) out) (length x) ∙ drop-drop (length x) (length text) out ∙ ap (λ k. drop k out) (sym (length-append text x)) in
    sets-eq x l (length text) (omega (arith, n)) ∙ ap₂ (λ p q. (p ++ x) ++ q) (take-append_seam text (drop (length text) out)) behind

-- what fits in that part fits behind place n
pub part_inside : (out : List ℕ) (n : ℕ) {k : ℕ} → k ≤ length (part out n) → n ≤ length out → n + k ≤ length out
part_inside out n h le = omega (arith, h, le, ap length (part_from n out), length-drop n out)

-- a text written at the front of the part of an output from place n on
pub part_written : (out x : List ℕ) (n : ℕ) {p : List ℕ} → n + length x ≤ length out → p ≡ sets (part out n) 0 x → with_part out n p ≡ sets out n x
part_written out x n {p} h e =
    let size : length (part out n) ≡ length out - n = ap length (part_from n out) ∙ length-drop n out in
    let front : p ≡ x ++ drop (length x) (part out n) = e ∙ front_written (part out n) x (omega (arith, size)) in
    let behind : drop (length x) (part out n) ≡ drop (n + length x) out = ap (drop (length x)) (part_from n out) ∙ drop-drop (length x) n out in
    with_part_lem out n p ∙ ap (λ q. take n out ++ q) (front ∙ ap (λ q. x ++ q) behind) ∙ sym (append_assoc (take n out) x (drop (n + length x) out)) ∙ sym (sets-eq x out n h)

-- a step that was taken
pub record Moves (a b : List ℕ) (st : Step) : Type 0 where
  pub first : st.first ≤ length a
  pub second : st.second ≤ length b
  pub some : 0 < st.first + st.second

step_moves : {now : ℤ} {ended : Ended} {a b : List ℕ} {r : Result Step Want} {st : Step} → StepWell now ended a b r → r ≡ Ok st → Moves a b st
step_moves {a = a} {b = b} {st = st} (taken f g c t p q s w) e =
    let same : record { first = f; second = g; call = c; instant = t } ≡ st = cc in
    subst (Moves a b) same (record { first = p; second = q; some = s })
step_moves (lacks_first_lem p q) e = cc
step_moves (lacks_second_lem p q) e = cc
step_moves (at_end w) e = cc

module _ (start : ℤ) (ended : Ended) (a b out₀ : List ℕ) where
  pub record Turning (out : List ℕ) (turn : Turn) : Type 0 where
    pub in_first : turn.first ≤ length a
    pub in_second : turn.second ≤ length b
    pub text : List ℕ
    pub is : turn ≡ turn_of (steps_to Want.Room turn.first turn.second text turn.instant)
    pub output : out ≡ onto text out₀
    pub room : turn.written ≤ length out₀
    pub fuel : ℕ
    pub enough : length a + length b ≤ turn.first + turn.second + fuel
    pub same : steps_from ended a b (length out₀) (suc fuel) turn.instant turn.first turn.second text ≡ steps_of ended a b (length out₀) start

  pub turning_start : Turning out₀ (record { want = Want.Room; first = 0; second = 0; written = 0; instant = start })
  unfolding steps_of
  turning_start =
      record { in_first = omega arith; in_second = omega arith; text = []; is = refl; output = refl; room = omega arith; fuel = length a + length b; enough = omega arith; same = refl }

  module _ (out : List ℕ) (turn : Turn) (h : Turning out turn) where
    placed : turn.written ≡ length h.text
    placed = ap (λ t. t.written) h.is

    pub turning_length : length out ≡ length out₀
    turning_length = ap length h.output ∙ onto_length h.text out₀ (omega (arith, h.room, placed))

    -- the answer
    answered : (w : Want) → steps_to w turn.first turn.second h.text turn.instant ≡ steps_of ended a b (length out₀) start → (record { want = w; first = turn.first; second = turn.second; written = turn.written; instant = turn.instant } ≡ turn_of (steps_of ended a b (length out₀) start)) × (out ≡ output_of (steps_of ended a b (length out₀) start) out₀)
    answered w e =
        (ap (λ k. record { want = w; first = turn.first; second = turn.second; written = k; instant = turn.instant }) placed ∙ ap turn_of e, h.output ∙ ap (λ r. output_of r out₀) e)

    steps_full : length out₀ < length h.text + line_most → steps_from ended a b (length out₀) (suc h.fuel) turn.instant turn.first turn.second h.text ≡ steps_to Want.Room turn.first turn.second h.text turn.instant
    unfolding steps_from
    steps_full g = rw (lt-leb (length h.text + line_most) (length out₀) g)

    pub turning_full : length out - turn.written < line_most → (turn ≡ turn_of (steps_of ended a b (length out₀) start)) × (out ≡ output_of (steps_of ended a b (length out₀) start) out₀)
    turning_full g =
        let k = answered Want.Room (sym (steps_full (omega (arith, g, turning_length, placed, h.room))) ∙ h.same) in
        (ap (λ w. record { want = w; first = turn.first; second = turn.second; written = turn.written; instant = turn.instant }) (ap (λ t. t.want) h.is) ∙ k.0, k.1)

    module _ (g : line_most ≤ length out - turn.written) where
      steps_by : (r : Result Step Want) → step_of turn.instant ended (drop turn.first a) (drop turn.second b) ≡ r → steps_from ended a b (length out₀) (suc h.fuel) turn.instant turn.first turn.second h.text ≡ after_step (λ st. steps_from ended a b (length out₀) h.fuel st.instant (turn.first + st.first) (turn.second + st.second) (h.text ++ call_text st.call)) (λ w. steps_to w turn.first turn.second h.text turn.instant) r
      unfolding steps_from
      steps_by r e = rw (le-leb (length h.text + line_most) (length out₀) (omega (arith, g, turning_length, placed, h.room)), e)

      pub turning_stop : (w : Want) → step_of turn.instant ended (drop turn.first a) (drop turn.second b) ≡ Err w → (record { want = w; first = turn.first; second = turn.second; written = turn.written; instant = turn.instant } ≡ turn_of (steps_of ended a b (length out₀) start)) × (out ≡ output_of (steps_of ended a b (length out₀) start) out₀)
      turning_stop w e = answered w (sym (steps_by (Err w) e) ∙ h.same)

      module _ (st : Step) (is : step_of turn.instant ended (drop turn.first a) (drop turn.second b) ≡ Ok st) where
        moves : Moves (drop turn.first a) (drop turn.second b) st
        moves = step_moves (step_well turn.instant ended (drop turn.first a) (drop turn.second b)) is

        pub first_there : turn.first + st.first ≤ length a
        first_there = omega (arith, moves.first, length-drop turn.first a, h.in_first)

        pub second_there : turn.second + st.second ≤ length b
        second_there = omega (arith, moves.second, length-drop turn.second b, h.in_second)

        pub turning_next : (u : List ℕ) (n : ℕ) → n ≡ length (call_text st.call) → turn.written + n ≤ length out → u ≡ sets out turn.written (call_text st.call) → Turning u (record { want = turn.want; first = turn.first + st.first; second = turn.second + st.second; written = turn.written + n; instant = st.instant })
        turning_next u n d f e =
            let line = call_text st.call in
            let size = turning_length in
            let more : length (h.text ++ line) ≡ length h.text + length line = length-append h.text line in
            let one : h.fuel ≡ suc (h.fuel - 1) = omega (arith, moves.some, first_there, second_there, h.enough) in
            let all : turn.written + n ≡ length (h.text ++ line) = omega (arith, more, d, placed) in
            record {
              in_first = first_there;
              in_second = second_there;
              text = h.text ++ line;
              is = ap₂ (λ w k. record { want = w; first = turn.first + st.first; second = turn.second + st.second; written = k; instant = st.instant }) (ap (λ t. t.want) h.is) all;
              output = e ∙ ap₂ (λ o p. sets o p line) h.output placed ∙ onto_more h.text line out₀ (omega (arith, f, d, size, placed));
              room = omega (arith, f, size);
              fuel = h.fuel - 1;
              enough = omega (arith, moves.some, h.enough);
              same = ap (λ m. steps_from ended a b (length out₀) m st.instant (turn.first + st.first) (turn.second + st.second) (h.text ++ line)) (sym one) ∙ sym (steps_by (Ok st) is) ∙ h.same;
            }

        pub turning_less : (length a - (turn.first + st.first)) + (length b - (turn.second + st.second)) < (length a - turn.first) + (length b - turn.second)
        turning_less = omega (arith, moves.some, first_there, second_there)
