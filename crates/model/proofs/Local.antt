-- What an operator makes inside a window of time depends only on the parts and events inside the window.
use Prim.Native.Nat.{ℕ, suc, ◌+◌, ◌<◌}
use native.Mathlib.Omega.{arith}
use mathlib.Core.Path.{◌≡◌, subst}
use mathlib.Core.Logic.{inl, inr}
use mathlib.Core.Bool.{Bool, ◌&&◌}
use mathlib.Core.List.{List, [], ◌∷◌, ◌++◌, Memᴰ}
use lib.Dec.{T, ltb, ltb→lt, lt→ltb}
use lib.ListN.{length}
use Rattle.interval.specs.Conditions.{is_forbidding}
use Rattle.interval.specs.declared.Edges.{Edges}
use Rattle.interval.specs.declared.Nearest.{Nearest}
use Rattle.interval.proofs.Signed.{◌≤ᶻ◌}
use Rattle.model.specs.Recognitions.{Event, Operator, event, related, or, absence, lasting, after, nearest, Arm, only, Recognition, of_one, of_two, entry_of, start_of, end_of, is_lower, are_lower, rivals_second, rivals_first}
use Rattle.model.specs.RowSteps.{Node, leaves}
use Rattle.model.proofs.Made.{Has, One, Two, Made}
use Rattle.model.proofs.Trees.{tree, trees}
use Rattle.model.proofs.Sorted.{T_and, and_T}

-- the operands are lower entries
abbrev pub Lower : ℕ → Operator → Type 0
Lower n (event k) = Unit {0}
Lower n (related c a b) = (a < n) × (b < n)
Lower n (or a b) = (a < n) × (b < n)
Lower n (absence c a b) = (a < n) × (b < n)
Lower n (lasting c a d) = a < n
Lower n (after a d) = a < n
Lower n (nearest c a b) = (a < n) × (b < n)

abbrev pub Chart : ℕ → List Operator → Type 0
Chart n [] = Unit {0}
Chart n (o ∷ os) = Lower n o × Chart (suc n) os

two_lower : (a b n : ℕ) → T (ltb a n && ltb b n) → (a < n) × (b < n)
two_lower a b n h = let p = T_and (ltb a n) (ltb b n) h in (ltb→lt a n p.0, ltb→lt b n p.1)

lower : (n : ℕ) (op : Operator) → T (is_lower n op) → Lower n op
lower n (event k) h = tt
lower n (related c a b) h = two_lower a b n h
lower n (or a b) h = two_lower a b n h
lower n (absence c a b) h = two_lower a b n h
lower n (lasting c a d) h = ltb→lt a n h
lower n (after a d) h = ltb→lt a n h
lower n (nearest c a b) h = two_lower a b n h

pub chart_lower : (n : ℕ) (ops : List Operator) → T (are_lower n ops) → Chart n ops
chart_lower n [] h = tt
chart_lower n (op ∷ ops) h = let p = T_and (is_lower n op) (are_lower (suc n) ops) h in (lower n op p.0, chart_lower (suc n) ops p.1)

lower_two : (a b n : ℕ) → (a < n) × (b < n) → T (ltb a n && ltb b n)
lower_two a b n h = and_T (ltb a n) (ltb b n) (lt→ltb a n h.0) (lt→ltb b n h.1)

is_lower_lem : (n : ℕ) (op : Operator) → Lower n op → T (is_lower n op)
is_lower_lem n (event k) h = tt
is_lower_lem n (related c a b) h = lower_two a b n h
is_lower_lem n (or a b) h = lower_two a b n h
is_lower_lem n (absence c a b) h = lower_two a b n h
is_lower_lem n (lasting c a d) h = lt→ltb a n h
is_lower_lem n (after a d) h = lt→ltb a n h
is_lower_lem n (nearest c a b) h = lower_two a b n h

pub lower_chart : (n : ℕ) (ops : List Operator) → Chart n ops → T (are_lower n ops)
lower_chart n [] c = tt
lower_chart n (op ∷ ops) c = and_T (is_lower n op) (are_lower (suc n) ops) (is_lower_lem n op c.0) (lower_chart (suc n) ops c.1)

pub chart_append : (n : ℕ) (ops new : List Operator) → Chart n ops → Chart (n + length ops) new → Chart n (ops ++ new)
chart_append n [] new c d = subst (λ i. Chart i new) (omega arith) d
chart_append n (op ∷ ops) new c d = (c.0, chart_append (suc n) ops new c.1 (subst (λ i. Chart i new) (omega arith) d))

-- it starts no later than it ends
abbrev pub Proper : Recognition → Type 0
Proper t = start_of t ≤ᶻ end_of t

-- a set W that holds with a recognition its parts, whatever could forbid them, and their rivals; P is known of the parts
pub record Window (P W : Recognition → Type 0) : Type 0 where
  pub one : (n : ℕ) (m : Arm) (t : Recognition) → W (of_one n m t) → W t
  pub fst : (n : ℕ) (l r : Recognition) → W (of_two n l r) → W l
  pub snd : (n : ℕ) (l r : Recognition) → W (of_two n l r) → W r
  pub bar : (c : Edges) (r s : Recognition) → T (is_forbidding c (start_of r) (end_of r) (start_of s) (end_of s)) → W r → W s
  pub second_rival : (n : ℕ) (r s u : Recognition) → P r → T (rivals_second r s u) → W (of_two n r s) → W u
  pub first_rival : (c : Nearest) (n : ℕ) (r s u : Recognition) → P s → T (rivals_first c r s u) → W (of_two n r s) → W u

module _ {P W : Recognition → Type 0} (w : Window P W) (n : ℕ) (es es' : List Event) (ts us : List Recognition) (f : (t : Recognition) → entry_of t < n → W t → Memᴰ t ts → Memᴰ t us) (g : (t : Recognition) → entry_of t < n → W t → Memᴰ t us → Memᴰ t ts) (known : (t : Recognition) → Memᴰ t ts → P t) where
  moved : {a : ℕ} {r : Recognition} → a < n → W r → Has trees ts a r → Has trees us a r
  moved {a} {r} l h k =
      let e : entry_of r ≡ a = k.entry in
      record { there = f r (omega arith) h k.there; entry = e }

  back : {a : ℕ} {r : Recognition} → a < n → W r → Has trees us a r → Has trees ts a r
  back {a} {r} l h k =
      let e : entry_of r ≡ a = k.entry in
      record { there = g r (omega arith) h k.there; entry = e }

  in_one : {m : Arm} {a : ℕ} {x : Node Recognition} → a < n → W (tree n x) → One trees m a ts x → One trees m a us x
  in_one {m} {a} {x} l h k = record { r = k.r; is = k.is; hasr = moved l (w.one n m k.r (subst (λ z. W (tree n z)) k.is h)) k.hasr }

  in_two : {p : Recognition → Recognition → Bool} {a b : ℕ} {x : Node Recognition} → a < n → b < n → W (tree n x) → Two trees p a b ts x → Two trees p a b us x
  in_two la lb h m =
      let h' : W (of_two n m.l m.r) = subst (λ z. W (tree n z)) m.is h in
      record { l = m.l; r = m.r; is = m.is; hasl = moved la (w.fst n m.l m.r h') m.hasl; hasr = moved lb (w.snd n m.l m.r h') m.hasr; ok = m.ok }

  pub local : (op : Operator) → Lower n op → (x : Node Recognition) → W (tree n x) → ((k : ℕ) → Memᴰ x (leaves k es) → Memᴰ x (leaves k es')) → Made trees op es ts x → Made trees op es' us x
  unfolding in_two
  local (event k) lo x h e m = e k m
  local (related c a b) lo x h e m = in_two lo.0 lo.1 h m
  local (or a b) lo x h e (inl m) = inl (in_one lo.0 h m)
  local (or a b) lo x h e (inr m) = inr (in_one lo.1 h m)
  local (absence c a b) lo x h e m =
      let h' : W m.r = w.one n only m.r (subst (λ z. W (tree n z)) m.is h) in
      record { r = m.r; is = m.is; hasr = moved lo.0 h' m.hasr; ok = λ u k t. m.ok u (back lo.1 (w.bar c m.r u t h') k) t }
  local (lasting c a d) lo x h e m = record { r = m.r; is = m.is; hasr = moved lo (w.one n only m.r (subst (λ z. W (tree n z)) m.is h)) m.hasr; ok = m.ok }
  local (after a d) lo x h e m = in_one lo h m
  local (nearest c a b) lo x h e m =
      let l = m.two.l in
      let r = m.two.r in
      let h' : W (of_two n l r) = subst (λ z. W (tree n z)) m.two.is h in
      record {
        two = in_two lo.0 lo.1 h m.two;
        first = λ u k t. m.first u (back lo.1 (w.second_rival n l r u (known l m.two.hasl.there) t h') k) t;
        last = λ u k t. m.last u (back lo.0 (w.first_rival c n l r u (known r m.two.hasr.there) t h') k) t;
      }
