-- Laws of closing instants one after another, and of the next due one, that other crates go by.
use Prim.Native.Nat.{ℕ, zero, suc, ◌+◌, ◌≤◌, ◌<◌}
use native.Mathlib.Omega.{arith}
use mathlib.Core.Path.{◌≡◌, refl, sym, ap, ap₂, ◌∙◌, subst}
use mathlib.Core.Logic.{inl, inr}
use mathlib.Core.Bool.{Bool, true, false, ◌&&◌}
use mathlib.Core.List.Memᴰ
use mathlib.Core.List.{List, [], ◌∷◌, ◌++◌, map, append_assoc, append-nil, Memᴰ}
use borrow.Author.Tests.{eqb-true, ltb-true}
use lib.Dec.{T, eqb}
use lib.IntN.{ℤ, pos, ◌+ℤ◌}
use lib.ListN.{length}
use lib.Signed.{lt_z, le_z}
use Rattle.interval.specs.Instants.{eq_z}
use Rattle.interval.proofs.Signed.{◌≤ᶻ◌, ◌<ᶻ◌, eq_fact, lt_z→, le_z→, →le_z, lt_false, holds→, →holds, add_fact, antisym}
use Rattle.model.specs.Lists.{keep}
use Rattle.model.specs.Recognitions.{Event, Operator, event, related, or, absence, lasting, after, nearest, is_lower}
use Rattle.model.specs.Order.{since_of, Row}
use Rattle.model.specs.RowSteps.{rules, extend_rows, ends_at, close_rows, close_instants, instants_to, is_waiting, delayed_ends, delays_from, due_ends}
use Rattle.model.specs.Statements.{NextDue}
use Rattle.model.proofs.Sorted.{T_and, keep_append}
use Rattle.model.proofs.Place.{keep_none}
use Rattle.model.proofs.Steps.{close_more}
use Rattle.model.proofs.History.{instants_to_lem}
use Rattle.model.proofs.Jump.{EndBefore, close_without, skip}

-- how many instants there are from o to before t
pub none_between : (o : ℤ) → instants_to o o ≡ 0
none_between o = let w = instants_to_lem o o (omega arith) in omega (arith, eq_fact w, add_fact o (pos (instants_to o o)))

pub one_between : (o t : ℤ) → o <ᶻ t → instants_to o t ≡ suc (instants_to (o +ℤ pos 1) t)
one_between o t h =
    let w = instants_to_lem o t (omega arith) in
    let v = instants_to_lem (o +ℤ pos 1) t (omega (arith, add_fact o (pos 1))) in
    omega (arith, eq_fact w, eq_fact v, add_fact o (pos (instants_to o t)), add_fact o (pos 1), add_fact (o +ℤ pos 1) (pos (instants_to (o +ℤ pos 1) t)))

module _ (chart : List Operator) (since : List ℤ) (es : List Event) where
  pub instants_none : (o : ℤ) (rs : List Row) → close_instants (instants_to o o) o es chart since rs ≡ rs
  unfolding close_instants
  instants_none o rs = ap (λ n. close_instants n o es chart since rs) (none_between o)

  pub instants_on : (o t : ℤ) (rs : List Row) → o <ᶻ t → close_instants (instants_to o t) o es chart since rs ≡ close_instants (instants_to (o +ℤ pos 1) t) (o +ℤ pos 1) es chart since (close_rows o es chart since rs)
  unfolding close_instants
  instants_on o t rs h = ap (λ n. close_instants n o es chart since rs) (one_between o t h)

  -- they only append
  pub instants_more : (n : ℕ) (o : ℤ) (rs : List Row) → (ys : List Row) × (close_instants n o es chart since rs ≡ rs ++ ys)
  unfolding close_instants
  instants_more zero o rs = ([], sym (append-nil rs))
  instants_more (suc n) o rs =
      let p = close_more o es chart since rs in
      let q = instants_more n (o +ℤ pos 1) (close_rows o es chart since rs) in
      (p.0 ++ q.0, q.1 ∙ ap (λ z. z ++ q.0) p.1 ∙ append_assoc rs p.0 q.0)

  -- events before these instants do not count
  pub instants_without : (n : ℕ) (o : ℤ) (rs : List Row) → ((e : Event) → Memᴰ e es → e.instant <ᶻ o) → close_instants n o es chart since rs ≡ close_instants n o [] chart since rs
  unfolding close_instants
  instants_without zero o rs h = refl
  instants_without (suc n) o rs h =
      instants_without n (o +ℤ pos 1) (close_rows o es chart since rs) (λ e m. omega (arith, h e m, add_fact o (pos 1)))
      ∙ ap (close_instants n (o +ℤ pos 1) [] chart since) (close_without chart since es rs o (λ e m i. omega (arith, h e m, eq_fact i)))

  -- those before the next due one are closed already
  pub instants_skip : (o t e : ℤ) (rs : List Row) → EndBefore o rs → NextDue (due_ends es chart since rs) o t e → close_instants (instants_to o t) o es chart since rs ≡ close_instants (instants_to e t) e es chart since rs
  instants_skip o t e rs h d =
      let l = le_z→ o e d.from in
      let m = le_z→ e t d.most in
      let a = instants_to_lem o e l in
      let b = instants_to_lem e t m in
      let c = instants_to_lem o t (omega arith) in
      let size : instants_to o t ≡ instants_to o e + instants_to e t = omega (arith, eq_fact a, eq_fact b, eq_fact c, add_fact o (pos (instants_to o e)), add_fact e (pos (instants_to e t)), add_fact o (pos (instants_to o t))) in
      skip chart since es rs (instants_to o e) (instants_to e t) (instants_to o t) o size h (λ x k p q. omega (arith, eq_fact a, le_z→ e x (d.none x k (→le_z o x p))))
      ∙ ap (λ z. close_instants (instants_to e t) z es chart since rs) a

-- of the instants from which entries count only those of the chart's entries matter
rules_since : (a b : List ℤ) (o : ℤ) (n : ℕ) (ops : List Operator) → ((k : ℕ) → n ≤ k → k < n + length ops → since_of a k ≡ since_of b k) → rules (ends_at a o) n ops ≡ rules (ends_at b o) n ops
rules_since a b o n [] h = refl
rules_since a b o n (op ∷ ops) h = ap₂ (λ x js. record { entry = n; operator = op; test = λ s e. le_z x s && eq_z e o } ∷ js) (h n (omega arith) (omega arith)) (rules_since a b o (suc n) ops (λ k p q. h k (omega arith) (omega arith)))

pub instants_since : (chart : List Operator) (a b : List ℤ) → ((k : ℕ) → k < length chart → since_of a k ≡ since_of b k) → (es : List Event) (n : ℕ) (o : ℤ) (rs : List Row) → close_instants n o es chart a rs ≡ close_instants n o es chart b rs
unfolding close_instants close_rows
instants_since chart a b h es zero o rs = refl
instants_since chart a b h es (suc n) o rs =
    ap (λ js. close_instants n (o +ℤ pos 1) es chart a (extend_rows es js rs)) (rules_since a b o 0 chart (λ k p q. h k (omega arith)))
    ∙ instants_since chart a b h es n (o +ℤ pos 1) (close_rows o es chart b rs)

-- without events, the due ends are those of the delays
pub due_delayed : (chart : List Operator) (since : List ℤ) (rs : List Row) → due_ends [] chart since rs ≡ delays_from 0 chart since rs
unfolding due_ends
due_delayed chart since rs = refl

-- rows of an entry are no part of what a lower one, or the entry itself, delays
pub delayed_kept : (x : ℤ) (rs news : List Row) (i j : ℕ) (op : Operator) → is_lower j op ≡ true → j ≤ i → ((r : Row) → Memᴰ r news → r.entry ≡ i) → delayed_ends x (rs ++ news) op ≡ delayed_ends x rs op
delayed_kept x rs news i j (event k) l h e = refl
delayed_kept x rs news i j (related c a b) l h e = refl
delayed_kept x rs news i j (or a b) l h e = refl
delayed_kept x rs news i j (absence c a b) l h e = refl
delayed_kept x rs news i j (lasting c a d) l h e = refl
delayed_kept x rs news i j (nearest c a b) l h e = refl
delayed_kept x rs news i j (after a d) l h e =
    let none : keep (is_waiting x a) news ≡ [] = keep_none (is_waiting x a) news (λ r m t. omega (arith, e r m, ltb-true a j l, eqb-true r.entry a (holds→ _ (T_and (eqb r.entry a) (le_z x r.start) t).0))) in
    ap (map (λ r. r.end +ℤ pos d)) (keep_append (is_waiting x a) rs news ∙ ap (λ z. keep (is_waiting x a) rs ++ z) none ∙ append-nil (keep (is_waiting x a) rs))

-- the next due one of no ends; and of more ends, for which it is the limit
pub next_none : (o t : ℤ) → o ≤ᶻ t → NextDue [] o t t
next_none o t h = record {
  from = →le_z o t h;
  most = →le_z t t (omega arith);
  none = λ d m. absurd (Memᴰ.not-nil m);
  due = λ l. absurd (let p : t <ᶻ t = lt_z→ t t l in omega arith);
}

pub next_more : (xs ys : List ℤ) (o t e x : ℤ) → NextDue xs o t e → NextDue ys o e x → NextDue (xs ++ ys) o t x
next_more xs ys o t e x p q = record {
  from = q.from;
  most = →le_z x t (omega (arith, le_z→ x e q.most, le_z→ e t p.most));
  none = λ d m l. elim (Memᴰ.append_cases xs m) as (λ z. T (le_z x d)) [ inl k ↦ →le_z x d (omega (arith, le_z→ x e q.most, le_z→ e d (p.none d k l))) | inr k ↦ q.none d k l ];
  due = λ l. go (lt_z x e) refl l;
}
  where
    go : (b : Bool) → lt_z x e ≡ b → T (lt_z x t) → Memᴰ x (xs ++ ys)
    go true w l = Memᴰ.append_right xs (q.due (→holds (lt_z x e) w))
    go false w l =
        let same : x ≡ e = antisym x e (le_z→ x e q.most) (lt_false x e w) in
        Memᴰ.append_left ys (Memᴰ.cast same (p.due (subst (λ z. T (lt_z z t)) same l)))
