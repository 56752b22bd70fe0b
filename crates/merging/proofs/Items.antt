-- Merging item by item gives the merged groups, and always ascending marks.
use native.Mathlib.Omega.{arith}
use mathlib.Core.Path.{◌≡◌, refl, sym, ap, ap₂, ◌∙◌, subst}
use mathlib.Core.Bool.{Bool, true, false, cond}
use mathlib.Core.List.{List, [], ◌∷◌, ◌++◌, append-nil}
use lib.IntN.{ℤ}
use lib.Signed.{lt_z}
use Rattle.interval.specs.Instants.{is_mark_refused}
use Rattle.interval.proofs.Signed.{signed, never, antisym, lt_false, is_lt}
use Rattle.logs.specs.Logs.{Item, code, mark, codes_first, groups_after, merge, merge_with}
use Rattle.logs.proofs.Groups.{next_in, next_of}
use Rattle.logs.proofs.Items.{Rising, Coded}
use Rattle.merging.specs.Merging.{no_instant, stop_of, second_items, items_at_mark, merge_items}

-- where marks stop
pub stop_fresh : (now t : ℤ) → is_mark_refused now t ≡ false → stop_of now t ≡ t
unfolding stop_of
stop_fresh now t e = rw e

pub stop_stale : (now t : ℤ) → is_mark_refused now t ≡ true → stop_of now t ≡ no_instant
unfolding stop_of
stop_stale now t e = rw e

pub fresh_below : (now t : ℤ) → is_mark_refused now t ≡ false → lt_z t no_instant ≡ true
fresh_below now t e = let k = next_in now t e in is_lt t no_instant (omega (arith, signed, k))

pub below_fresh : (now t : ℤ) → lt_z (stop_of now t) no_instant ≡ true → is_mark_refused now t ≡ false
below_fresh now t e = go (is_mark_refused now t) refl
  where
    go : (b : Bool) → is_mark_refused now t ≡ b → b ≡ false
    go false d = refl
    go true d = never (ap (λ z. lt_z z no_instant) (sym (stop_stale now t d)) ∙ e)

-- a mark that stops before another is one that may follow
pub before_fresh : (now s t : ℤ) → lt_z (stop_of now s) (stop_of now t) ≡ true → is_mark_refused now s ≡ false
before_fresh now s t e = go (is_mark_refused now s) refl (is_mark_refused now t) refl
  where
    go : (b : Bool) → is_mark_refused now s ≡ b → (c : Bool) → is_mark_refused now t ≡ c → b ≡ false
    go false d c f = refl
    go true d false f = absurd (let k : lt_z no_instant t ≡ true = sym (ap₂ lt_z (stop_stale now s d) (stop_fresh now t f)) ∙ e in let j = fresh_below now t f in omega (arith, signed, k, j))
    go true d true f = never (sym (ap₂ lt_z (stop_stale now s d) (stop_stale now t f)) ∙ e)

rising_at : (t u s : ℤ) (is : List Item) → lt_z u s ≡ true → Rising t (mark s ∷ is) → Rising u (mark s ∷ is)
unfolding Rising
rising_at t u s is e f = (next_of u s (next_in t s f.0) e, f.1)

-- the groups of merged items are the merged groups
pub record Agrees (is js ms : List Item) : Type 0 where
  pub first : codes_first ms ≡ codes_first is ++ codes_first js
  pub after : groups_after ms ≡ merge (groups_after is) (groups_after js)

second_all : (now : ℤ) (js : List Item) → Rising now js → second_items now js ≡ js
unfolding Rising second_items
second_all now [] f = refl
second_all now (code k ∷ js) f = ap (λ l. code k ∷ l) (second_all now js f.1)
second_all now (mark t ∷ js) f = rw (stop_fresh now t f.0, fresh_below now t f.0, second_all t js f.1)

module _ (s : ℤ) (is : List Item) (rising : Rising s is) (h : (t : ℤ) (js : List Item) → Rising t is → Rising t js → Agrees is js (merge_items is t js)) where
  at_mark : (now : ℤ) (js : List Item) → is_mark_refused now s ≡ false → Rising now js → Agrees (mark s ∷ is) js (items_at_mark s (merge_items is) now js)
  unfolding Rising items_at_mark codes_first groups_after merge merge_with
  at_mark now [] e g =
      let k = h s [] rising tt in
      rw (stop_fresh now s e, fresh_below now s e) (record { first = refl; after = rw (k.first, k.after, append-nil (codes_first is)) })
  at_mark now (code c ∷ js) e g =
      let k = at_mark now js e g.1 in
      record { first = ap (λ l. c ∷ l) k.first; after = k.after }
  at_mark now (mark t ∷ js) e g = rw (stop_fresh now s e, stop_fresh now t g.0, fresh_below now s e) (go (λ a. at_mark t js a g.1) (lt_z s t) refl (lt_z t s) refl)
    where
      go : (is_mark_refused t s ≡ false → Agrees (mark s ∷ is) js (items_at_mark s (merge_items is) t js)) → (p : Bool) → lt_z s t ≡ p → (q : Bool) → lt_z t s ≡ q → Agrees (mark s ∷ is) (mark t ∷ js) (cond p (mark s ∷ merge_items is s (mark t ∷ js)) (cond q (mark t ∷ items_at_mark s (merge_items is) t js) (mark s ∷ merge_items is s js)))
      go w true d q f =
          let k = h s (mark t ∷ js) rising (rising_at now s t js d g) in
          record { first = refl; after = rw (d, k.first, k.after, append-nil (codes_first is)) }
      go w false d true f =
          let k = w (next_of t s (next_in now s e) f) in
          record { first = refl; after = rw (d, f, k.first, k.after) }
      go w false d false f =
          let same : s ≡ t = antisym s t (lt_false t s f) (lt_false s t d) in
          let k = h s js rising (subst (λ z. Rising z js) (sym same) g.1) in
          record { first = refl; after = rw (d, f, k.first, k.after) }

pub merge_agrees : (is : List Item) (now : ℤ) (js : List Item) → Rising now is → Rising now js → Agrees is js (merge_items is now js)
unfolding Rising merge_items codes_first groups_after merge
merge_agrees [] now js f g = rw (second_all now js g) (record { first = refl; after = refl })
merge_agrees (code k ∷ is) now js f g =
    let m = merge_agrees is now js f.1 g in
    record { first = ap (λ l. k ∷ l) m.first; after = m.after }
merge_agrees (mark s ∷ is) now js f g = at_mark s is f.1 (λ t ks a b. merge_agrees is t ks a b) now js f.0 g

-- whatever the items are, merged marks ascend
second_rising : (now : ℤ) (js : List Item) → Coded js → Rising now (second_items now js)
unfolding Rising Coded second_items
second_rising now [] f = tt
second_rising now (code k ∷ js) f = (f.0, second_rising now js f.1)
second_rising now (mark t ∷ js) f = go (second_rising t js f) (lt_z (stop_of now t) no_instant) refl
  where
    go : Rising t (second_items t js) → (b : Bool) → lt_z (stop_of now t) no_instant ≡ b → Rising now (cond b (mark t ∷ second_items t js) [])
    go r true e = (below_fresh now t e, r)
    go r false e = tt

module _ (s : ℤ) (is : List Item) (h : (t : ℤ) (js : List Item) → Coded js → Rising t (merge_items is t js)) where
  mark_rising : (now : ℤ) (js : List Item) → Coded js → Rising now (items_at_mark s (merge_items is) now js)
  unfolding Rising Coded items_at_mark
  mark_rising now [] g = go (lt_z (stop_of now s) no_instant) refl
    where
      go : (b : Bool) → lt_z (stop_of now s) no_instant ≡ b → Rising now (cond b (mark s ∷ merge_items is s []) [])
      go true e = (below_fresh now s e, h s [] tt)
      go false e = tt
  mark_rising now (code c ∷ js) g = (g.0, mark_rising now js g.1)
  mark_rising now (mark t ∷ js) g = go (mark_rising t js g) (lt_z (stop_of now s) (stop_of now t)) refl (lt_z (stop_of now t) (stop_of now s)) refl (lt_z (stop_of now s) no_instant) refl
    where
      go : Rising t (items_at_mark s (merge_items is) t js) → (p : Bool) → lt_z (stop_of now s) (stop_of now t) ≡ p → (q : Bool) → lt_z (stop_of now t) (stop_of now s) ≡ q → (b : Bool) → lt_z (stop_of now s) no_instant ≡ b → Rising now (cond p (mark s ∷ merge_items is s (mark t ∷ js)) (cond q (mark t ∷ items_at_mark s (merge_items is) t js) (cond b (mark s ∷ merge_items is s js) [])))
      go r true d q f b e = (before_fresh now s t d, h s (mark t ∷ js) g)
      go r false d true f b e = (before_fresh now t s f, r)
      go r false d false f true e = (below_fresh now s e, h s js g)
      go r false d false f false e = tt

pub merge_rising : (is : List Item) (now : ℤ) (js : List Item) → Coded is → Coded js → Rising now (merge_items is now js)
unfolding Rising Coded merge_items
merge_rising [] now js f g = second_rising now js g
merge_rising (code k ∷ is) now js f g = (f.0, merge_rising is now js f.1 g)
merge_rising (mark s ∷ is) now js f g = mark_rising s is (λ t ks b. merge_rising is t ks f b) now js g
