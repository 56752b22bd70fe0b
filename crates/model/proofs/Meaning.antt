-- The recognitions are those trees that the table's line for their entry asks of recognitions, and no other set of trees is so.
use Prim.Native.Nat.{ℕ, zero, suc, ◌+◌, ◌<◌}
use native.Mathlib.Omega.{arith}
use mathlib.Core.Path.{◌≡◌, refl, ap, ◌∙◌, subst}
use mathlib.Core.Logic.{inl, inr, ◌↔◌}
use mathlib.Core.List.{List, [], ◌∷◌, Memᴰ}
use lib.ListN.{length}
use Rattle.model.specs.Recognitions.{Event, Operator, event, related, or, absence, lasting, after, nearest, only, left, right, delayed, Recognition, entry_of, recognitions}
use Rattle.model.specs.RowSteps.{Node, leaf, part, pair}
use Rattle.model.specs.Statements.{OperatorAt, Of, Asks, Line, IsWithin, IsRecognition}
use Rattle.model.proofs.Trees.{tree, trees}
use Rattle.model.proofs.Made.{Made}
use Rattle.model.proofs.Local.{Lower, Chart}
use Rattle.model.proofs.Extend.{op_low, recs_from, from_recs}
use Rattle.model.proofs.Leaves.{leaves_mem, mem_leaves}

-- what a line asks depends only on the recognitions of lower entries
module _ (n : ℕ) (es : List Event) (R S : Recognition → Type 0) (f : (u : Recognition) → entry_of u < n → R u → S u) (g : (u : Recognition) → entry_of u < n → S u → R u) where
  to : (a : ℕ) (r : Recognition) → a < n → Of R a r → Of S a r
  to a r l h = let e : entry_of r ≡ a = h.1 in (f r (omega arith) h.0, e)

  fro : (a : ℕ) (r : Recognition) → a < n → Of S a r → Of R a r
  fro a r l h = let e : entry_of r ≡ a = h.1 in (g r (omega arith) h.0, e)

  asks_same : (op : Operator) → Lower n op → (t : Recognition) → Asks op es R t → Asks op es S t
  asks_same (event k) lo t h = h
  asks_same (related c a b) lo t h = (h.0, h.1, to a h.0 lo.0 h.2, to b h.1 lo.1 h.3, h.4, h.5)
  asks_same (or a b) lo t (inl h) = inl (h.0, to a h.0 lo.0 h.1, h.2)
  asks_same (or a b) lo t (inr h) = inr (h.0, to b h.0 lo.1 h.1, h.2)
  asks_same (absence c a b) lo t h = (h.0, to a h.0 lo.0 h.1, λ s k. h.2 s (fro b s lo.1 k), h.3)
  asks_same (lasting c a d) lo t h = (h.0, to a h.0 lo h.1, h.2, h.3)
  asks_same (after a d) lo t h = (h.0, to a h.0 lo h.1, h.2)
  asks_same (nearest c a b) lo t h = (h.0, h.1, to a h.0 lo.0 h.2, to b h.1 lo.1 h.3, h.4, λ u k. h.5 u (fro b u lo.1 k), λ u k. h.6 u (fro a u lo.0 k), h.7)

chart_at : (ops : List Operator) (n k : ℕ) (op : Operator) → Chart n ops → OperatorAt ops k op → Lower (n + k) op
chart_at [] n k op c a = absurd a
chart_at (o ∷ ops) n zero op c a = subst (λ z. Lower (n + 0) z) a (subst (λ i. Lower i o) (omega arith) c.0)
chart_at (o ∷ ops) n (suc k) op c a = subst (λ i. Lower i op) (omega arith) (chart_at ops (suc n) k op c.1 a)

-- in a list of recognitions: what a line asks, and what its operator makes
module _ (es : List Event) (all : List Recognition) where
  abbrev In : Recognition → Type 0
  In r = Memᴰ r all

  asked : (op : Operator) (x : Node Recognition) → Made trees op es all x → (t : Recognition) → t ≡ tree (entry_of t) x → Asks op es In t
  asked (event k) x m t e = let q = leaves_mem k es x m in (q.e, q.there, q.code, e ∙ ap (tree (entry_of t)) q.is)
  asked (related c a b) x m t e = (m.l, m.r, (m.hasl.there, m.hasl.entry), (m.hasr.there, m.hasr.entry), m.ok, e ∙ ap (tree (entry_of t)) m.is)
  asked (or a b) x (inl m) t e = inl (m.r, (m.hasr.there, m.hasr.entry), e ∙ ap (tree (entry_of t)) m.is)
  asked (or a b) x (inr m) t e = inr (m.r, (m.hasr.there, m.hasr.entry), e ∙ ap (tree (entry_of t)) m.is)
  asked (absence c a b) x m t e = (m.r, (m.hasr.there, m.hasr.entry), λ s h. m.ok s (record { there = h.0; entry = h.1 }), e ∙ ap (tree (entry_of t)) m.is)
  asked (nearest c a b) x m t e = (m.two.l, m.two.r, (m.two.hasl.there, m.two.hasl.entry), (m.two.hasr.there, m.two.hasr.entry), m.two.ok, λ u h. m.first u (record { there = h.0; entry = h.1 }), λ u h. m.last u (record { there = h.0; entry = h.1 }), e ∙ ap (tree (entry_of t)) m.two.is)
  asked (after a d) x m t e = (m.r, (m.hasr.there, m.hasr.entry), e ∙ ap (tree (entry_of t)) m.is)
  asked (lasting c a d) x m t e = (m.r, (m.hasr.there, m.hasr.entry), m.ok, e ∙ ap (tree (entry_of t)) m.is)

  made : (op : Operator) (t : Recognition) → Asks op es In t → (x : Node Recognition) × (t ≡ tree (entry_of t) x) × Made trees op es all x
  made (event k) t h = (leaf h.0.serial h.0.instant, h.3, mem_leaves k es _ (record { e = h.0; is = refl; code = h.2; there = h.1 }))
  made (related c a b) t h = (pair h.0 h.1, h.5, record { l = h.0; r = h.1; is = refl; hasl = record { there = h.2.0; entry = h.2.1 }; hasr = record { there = h.3.0; entry = h.3.1 }; ok = h.4 })
  made (or a b) t (inl h) = (part left h.0, h.2, inl (record { r = h.0; is = refl; hasr = record { there = h.1.0; entry = h.1.1 } }))
  made (or a b) t (inr h) = (part right h.0, h.2, inr (record { r = h.0; is = refl; hasr = record { there = h.1.0; entry = h.1.1 } }))
  made (absence c a b) t h = (part only h.0, h.3, record { r = h.0; is = refl; hasr = record { there = h.1.0; entry = h.1.1 }; ok = λ s k. h.2 s (k.there, k.entry) })
  made (nearest c a b) t h = (pair h.0 h.1, h.7, record { two = record { l = h.0; r = h.1; is = refl; hasl = record { there = h.2.0; entry = h.2.1 }; hasr = record { there = h.3.0; entry = h.3.1 }; ok = h.4 }; first = λ u k. h.5 u (k.there, k.entry); last = λ u k. h.6 u (k.there, k.entry) })
  made (after a d) t h = (part (delayed d) h.0, h.2, record { r = h.0; is = refl; hasr = record { there = h.1.0; entry = h.1.1 } })
  made (lasting c a d) t h = (part only h.0, h.3, record { r = h.0; is = refl; hasr = record { there = h.1.0; entry = h.1.1 }; ok = h.2 })

module _ (chart : List Operator) (c : Chart 0 chart) (es : List Event) where
  abbrev Listed : Recognition → Type 0
  Listed t = Memᴰ t (recognitions chart es)

  lower_at : (t : Recognition) (op : Operator) → OperatorAt chart (entry_of t) op → Lower (entry_of t) op
  lower_at t op a = subst (λ i. Lower i op) (omega arith) (chart_at chart 0 (entry_of t) op c a)

  line_same : (R S : Recognition → Type 0) (t : Recognition) → ((u : Recognition) → entry_of u < entry_of t → R u → S u) → ((u : Recognition) → entry_of u < entry_of t → S u → R u) → Line chart es R t → Line chart es S t
  line_same R S t f g h = (h.0, h.1, asks_same (entry_of t) es R S f g h.0 (lower_at t h.0 h.1) t h.2)

  listed_line : (t : Recognition) → Listed t ↔ Line chart es Listed t
  listed_line t = (λ m. let q = recs_from chart c es t m in (q.operator, q.at, asked es (recognitions chart es) q.operator q.x q.made t q.is), λ h. let q = made es (recognitions chart es) h.0 t h.2 in from_recs chart c es t (record { operator = h.0; at = h.1; lower = lower_at t h.0 h.1; x = q.0; is = q.1; made = q.2 }))

  -- two sets of trees that are as their lines ask are the same
  lines_same : (R S : Recognition → Type 0) → ((t : Recognition) → R t ↔ Line chart es R t) → ((t : Recognition) → S t ↔ Line chart es S t) → (n : ℕ) (t : Recognition) → entry_of t < n → R t ↔ S t
  lines_same R S f g zero t l = absurd (omega arith)
  lines_same R S f g (suc n) t l = (λ h. (g t).1 (line_same R S t (λ u k. (lines_same R S f g n u (omega arith)).0) (λ u k. (lines_same R S f g n u (omega arith)).1) ((f t).0 h)), λ h. (f t).1 (line_same S R t (λ u k. (lines_same R S f g n u (omega arith)).1) (λ u k. (lines_same R S f g n u (omega arith)).0) ((g t).0 h)))

  within_listed : (m : ℕ) (t : Recognition) → entry_of t < m → IsWithin m chart es t ↔ Listed t
  within_listed zero t l = absurd (omega arith)
  within_listed (suc m) t l = (λ h. (listed_line t).1 (line_same (IsWithin m chart es) Listed t (λ u k. (within_listed m u (omega arith)).0) (λ u k. (within_listed m u (omega arith)).1) h), λ h. line_same Listed (IsWithin m chart es) t (λ u k. (within_listed m u (omega arith)).1) (λ u k. (within_listed m u (omega arith)).0) ((listed_line t).0 h))

  within_entry : (m : ℕ) (t : Recognition) → IsWithin m chart es t → entry_of t < length chart
  within_entry zero t h = absurd h
  within_entry (suc m) t h = op_low chart (entry_of t) h.0 h.1

  pub recognition_listed : (t : Recognition) → IsRecognition chart es t ↔ Listed t
  recognition_listed t = (λ h. (within_listed (length chart) t (within_entry (length chart) t h)).0 h, λ h. (within_listed (length chart) t (op_low chart (entry_of t) ((listed_line t).0 h).0 ((listed_line t).0 h).1)).1 h)

  pub recognition_line : (t : Recognition) → IsRecognition chart es t ↔ Line chart es (IsRecognition chart es) t
  recognition_line t = (λ h. line_same Listed (IsRecognition chart es) t (λ u k. (recognition_listed u).1) (λ u k. (recognition_listed u).0) ((listed_line t).0 ((recognition_listed t).0 h)), λ h. (recognition_listed t).1 ((listed_line t).1 (line_same (IsRecognition chart es) Listed t (λ u k. (recognition_listed u).0) (λ u k. (recognition_listed u).1) h)))

  pub recognition_only : (R : Recognition → Type 0) → ((t : Recognition) → R t ↔ Line chart es R t) → (t : Recognition) → R t ↔ IsRecognition chart es t
  recognition_only R f t = lines_same R (IsRecognition chart es) f recognition_line (suc (entry_of t)) t (omega arith)
