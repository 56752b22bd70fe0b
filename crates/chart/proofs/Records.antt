-- The fields of a line as `split` hands them out, and the size of the operands that pass.
use Rattle.std.proofs.Common.{ℕ, ◌+◌, ◌≤◌, ◌<◌, ◌^◌, ◌≡◌, refl, sym, ap, subst, ◌∙◌, Bool, true, false, ◌&&◌, cond, eqb, ltb, List, [], ◌∷◌, ◌++◌, length, get_or, take, drop, arith, add-one}
use borrow.Author.Tests.{leb-true, ltb-true, eqb-true, ne_eqb}
use denote.Param.Members.{Mut}
use denote.Ref.{Bor}
use Rattle.std.specs.Prelude.{Option, None, Some}
use Rattle.std.specs.Option.{is_some}
use Rattle.std.specs.Bool.{MatchBool}
use Rattle.std.specs.Fn.{CalledAt, ComputesKey}
use Rattle.std.specs.List.{All, slice_split, IsFirstMatchOrLen}
use Rattle.std.specs.Slice.Iter.{split_steps, split_rest, split_done, split_callee}
use Rattle.std.proofs.lemmas.Bool.{and_parts}
use Rattle.std.proofs.lemmas.Fn.{always_returns_same}
use Rattle.std.proofs.lemmas.Grind.{common_steps}
use Rattle.std.proofs.lemmas.List.Splits.{slice_split_none, slice_split_at}
use Rattle.interval.specs.Instants.{is_length}
use Rattle.interval.proofs.Laws.{length_told}
use Rattle.text.specs.Text.{fields, split, index_of}
use Rattle.text.proofs.Laws.{split_cut, split_none, split_some, index_le}
use Rattle.decimal.specs.Spelling.{number_of}
use Rattle.chart.specs.Operators.{operator_of, kind_of, in_range, are_lower}
use Rattle.chart.specs.Records.{line_of, with_code, event_line, with_operands, second_of, second_operand, operands_line, by_operator, operator_line, numbered, parsed_line}
use Rattle.chart.specs.declared.record.Fields.{Fields}
use Rattle.chart.specs.declared.operator.Kind.{Kind}
use Rattle.chart.specs.declared.operator.Kind.TheVariants.{Event, Or, Pair, Absence, Length, After, Nearest, Unknown}

-- a text with no tab is one field; with one, its first field and the rest
pub one_field : (s : List ℕ) → index_of 9 s ≡ length s → fields s ≡ s ∷ []
one_field s h = split_none 9 s h

pub cut_field : (s : List ℕ) → (index_of 9 s ≡ length s → ⊥) → fields s ≡ take (index_of 9 s) s ∷ fields (drop (index_of 9 s + 1) s)
cut_field s d = let p = index_le 9 s in rw add-one (split_cut 9 s (omega arith))

-- the parts by std's words
parts_are : (x : ℕ) (s : List ℕ) → slice_split (λ b. eqb b x) s ≡ split x s
unfolding split
parts_are x [] = refl
parts_are x (b ∷ s) = let q = split_some x s in rw (parts_are x s, q.2)

-- what is left of the fields once `split` has handed out some
abbrev pub left : Bool → List ℕ → List (List ℕ)
left done rest = cond done [] (fields rest)

-- the part that `split` hands out next
part_cut : (p : ℕ → Bool) (xs x rest : List ℕ) (done : Bool) → MatchBool done (xs ≡ x) ((y : ℕ) × (xs ≡ x ++ (y ∷ rest))) → IsFirstMatchOrLen p xs (length x) → slice_split p xs ≡ x ∷ cond done [] (slice_split p rest)
part_cut p xs x rest true e h = ap (slice_split p) e ∙ slice_split_none p x (λ k d l. subst (λ ys. p (get_or ys k d) ≡ false) e (h.0 k d (omega arith) l))
part_cut p xs x rest false e h =
    let front : All (λ z. p z ≡ false) x = λ k d l. let a = h.0 k d (omega arith) l in let b = e.1 in grind (arith, common_steps) in
    let hit : p e.0 ≡ true = let b = e.1 in let a = h.1 (grind (arith, common_steps)) e.0 in grind (arith, common_steps) in
    ap (slice_split p) e.1 ∙ slice_split_at p x e.0 rest front hit

module _ {F : Type 0} (g : Mut F (Bor ℕ × Unit {0}) Bool) (s t : _) (r : Option (Bor (List ℕ))) (k : split_steps g s r t) where
  pub none_left : r ≡ None → left (split_done s) (split_rest s) ≡ []
  none_left e = let h = rw e at k in ap (λ b. left b (split_rest s)) h.0

  pub some_left : (x : Bor (List ℕ)) → r ≡ Some x → ((x : ℕ) (b : Bool) (q : F) → CalledAt g (split_callee s) x b q → (q ≡ split_callee s) × (b ≡ eqb x 9)) → left (split_done s) (split_rest s) ≡ x.now ∷ left (split_done t) (split_rest t)
  some_left x e tests =
      let h = rw e at k in
      let computes : ComputesKey g (λ b. eqb b 9) (split_callee s) = always_returns_same g (λ a r. r ≡ eqb a.0.now 9) (split_callee s) (λ a r q k. let m = tests a.0.now r q (record { shown = a.0; shows = refl; called = k }) in (m.1, m.0)) in
      ap (λ b. left b (split_rest s)) h.0 ∙ sym (parts_are 9 (split_rest s)) ∙ part_cut (λ b. eqb b 9) _ x.now (split_rest t) (split_done t) h.1 (h.2 (λ b. eqb b 9) computes).1 ∙ ap (λ l. x.now ∷ cond (split_done t) [] l) (parts_are 9 (split_rest t))

  -- the same where it is only told whether there is one more
  pub ended : is_some r ≡ false → left (split_done s) (split_rest s) ≡ []
  ended e = none_left (go r e)
    where
      go : (o : Option (Bor (List ℕ))) → is_some o ≡ false → o ≡ None
      go None d = refl
      go (Some x) d = absurd (cc)

  pub one_more : is_some r ≡ true → ((x : ℕ) (b : Bool) (q : F) → CalledAt g (split_callee s) x b q → (q ≡ split_callee s) × (b ≡ eqb x 9)) → (y : List ℕ) × (fs : List (List ℕ)) × (left (split_done s) (split_rest s) ≡ y ∷ fs)
  one_more e tests = let x = go r e in (x.0.now, left (split_done t) (split_rest t), some_left x.0 x.1 tests)
    where
      go : (o : Option (Bor (List ℕ))) → is_some o ≡ true → (x : Bor (List ℕ)) × (o ≡ Some x)
      go None d = absurd (cc)
      go (Some x) d = (x, refl)

-- what the fields behind an entry number and an operator are read as: where one is missing or one too many, and where all are read
module _ (n w : List ℕ) {e op : ℕ} (number : Some e ≡ number_of n) (code : Some op ≡ operator_of w) where
  pub no_operand : parsed_line (n ∷ w ∷ []) ≡ None
  unfolding parsed_line numbered operator_line by_operator event_line operands_line
  no_operand = rw (← number, ← code) (go (eqb op 0))
    where
      go : (t : Bool) → cond {A = Option Fields} t None None ≡ None
      go true = refl
      go false = refl

  pub no_first : (x : List ℕ) (fs : List (List ℕ)) → None ≡ number_of x → parsed_line (n ∷ w ∷ x ∷ fs) ≡ None
  unfolding parsed_line numbered operator_line by_operator event_line with_code operands_line second_operand with_operands
  no_first x fs bad = rw (← number, ← code, ← bad) (go (eqb op 0) fs)
    where
      go : (t : Bool) (gs : List (List ℕ)) → cond t (event_line e (x ∷ gs)) (second_operand e op None gs) ≡ None
      go true [] = rw (← bad)
      go true (g ∷ gs) = refl
      go false [] = refl
      go false (g ∷ []) = refl
      go false (g ∷ h ∷ gs) = refl

  module _ (x : List ℕ) {a : ℕ} (first : Some a ≡ number_of x) where
    pub event_read : op ≡ 0 → parsed_line (n ∷ w ∷ x ∷ []) ≡ Some (line_of e op a 0)
    unfolding parsed_line numbered operator_line by_operator event_line with_code
    event_read z = rw (← number, ← code, z, ← first)

    pub event_more : (y : List ℕ) (fs : List (List ℕ)) → op ≡ 0 → parsed_line (n ∷ w ∷ x ∷ y ∷ fs) ≡ None
    unfolding parsed_line numbered operator_line by_operator event_line
    event_more y fs z = rw (← number, ← code, z)

    module _ (d : op ≡ 0 → ⊥) where
      pub no_second : parsed_line (n ∷ w ∷ x ∷ []) ≡ None
      unfolding parsed_line numbered operator_line by_operator operands_line second_operand
      no_second = rw (← number, ← code, ne_eqb op 0 d)

      pub second_bad : (y : List ℕ) (fs : List (List ℕ)) → None ≡ second_of (kind_of op) y → parsed_line (n ∷ w ∷ x ∷ y ∷ fs) ≡ None
      unfolding parsed_line numbered operator_line by_operator operands_line second_operand with_operands
      second_bad y [] bad = rw (← number, ← code, ne_eqb op 0 d, ← first, ← bad)
      second_bad y (z ∷ fs) bad = rw (← number, ← code, ne_eqb op 0 d)

      pub both_read : (y : List ℕ) {b : ℕ} → Some b ≡ second_of (kind_of op) y → parsed_line (n ∷ w ∷ x ∷ y ∷ []) ≡ Some (line_of e op a b)
      unfolding parsed_line numbered operator_line by_operator operands_line second_operand with_operands
      both_read y second = rw (← number, ← code, ne_eqb op 0 d, ← first, ← second)

      pub both_more : (y z : List ℕ) (fs : List (List ℕ)) → parsed_line (n ∷ w ∷ x ∷ y ∷ z ∷ fs) ≡ None
      unfolding parsed_line numbered operator_line by_operator operands_line second_operand
      both_more y z fs = rw (← number, ← code, ne_eqb op 0 d)

-- operands that are in range and lower fit 32 bits
pub record Small (a b : ℕ) : Type 0 where
  pub first : a < 2 ^ 32
  pub second : b < 2 ^ 32

both_small : (n a b : ℕ) → n ≤ 32 → (ltb a n && ltb b n) ≡ true → Small a b
both_small n a b h e =
    let p = and_parts _ _ e in
    let q = ltb-true a n p.0 in
    let r = ltb-true b n p.1 in
    record { first = omega arith; second = omega arith }

length_small : (n a b : ℕ) → n ≤ 32 → is_length b ≡ true → ltb a n ≡ true → Small a b
length_small n a b h r l =
    let p = ltb-true a n l in
    let q = length_told b r in
    record { first = omega arith; second = omega arith }

pub small : (k : Kind) (n a b : ℕ) → n ≤ 32 → in_range k a b ≡ true → are_lower k n a b ≡ true → Small a b
unfolding in_range are_lower
small Event n a b h r l =
    let p = and_parts _ _ r in
    let q = leb-true a 255 p.0 in
    let t = eqb-true b 0 p.1 in
    record { first = omega arith; second = omega arith }
small Or n a b h r l = both_small n a b h l
small (Pair c) n a b h r l = both_small n a b h l
small (Absence c) n a b h r l = both_small n a b h l
small (Length t) n a b h r l = length_small n a b h r l
small After n a b h r l = length_small n a b h r l
small (Nearest c) n a b h r l = both_small n a b h l
small Unknown n a b h r l = absurd (cc)
