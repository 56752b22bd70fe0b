-- The laws of instants and of the conditions that other crates go by; none of them opens a definition of `specs/` itself.
-- No law depends on whether a length test includes its limit, so that a change of it moves none of them.
use Prim.Native.Nat.{ℕ, ◌≤◌}
use native.Mathlib.Omega.{arith}
use mathlib.Core.Path.{◌≡◌, refl, sym, ◌∙◌}
use mathlib.Core.Logic.{◌⊎◌, inl, inr}
use mathlib.Core.Bool.{Bool, true, false, not, ◌&&◌, ◌||◌, or-true}
use borrow.Author.Tests.{leb-true, le-leb}
use lib.IntN.{ℤ}
use lib.Signed.{lt_z, le_z}
use Rattle.interval.specs.Instants.{is_instant, is_length, first_floor, is_mark_refused, is_forget_refused, eq_z, least, greatest}
use Rattle.interval.specs.Conditions.{is_related, ending_of, is_forbidding, is_rival_of_second, is_rival_of_first}
use Rattle.interval.specs.declared.Relation.{Relation}
use Rattle.interval.specs.declared.Relation.TheVariants.{Seq, And, Meets, Overlaps, Starts, During, Finishes, Equals}
use Rattle.interval.specs.declared.Ending.{Ending}
use Rattle.interval.specs.declared.Ending.TheVariants.{Before, Within, Together, Either}
use Rattle.interval.specs.declared.Nearest.{Nearest}
use Rattle.interval.specs.declared.Nearest.TheVariants.{Cut, Change}
use Rattle.interval.specs.declared.Edges.{Edges}
use Rattle.interval.specs.declared.Edges.TheVariants.{ClosedClosed, OpenOpen, ClosedOpen, OpenClosed}
use Rattle.interval.proofs.Signed.{◌≤ᶻ◌, ◌<ᶻ◌, signed, never, and_first, and_second, antisym, least_is, greatest_is, lt_true, lt_false, le_true, le_false, is_lt, not_lt, is_le, not_le, instant_told, is_instant_lem, eq_true, eq_told, eq_fact}

-- the order of instants
pub lt_irrefl : (a : ℤ) → lt_z a a ≡ true → ⊥
lt_irrefl a p = omega (arith, signed)

pub lt_trans : (a b c : ℤ) → lt_z a b ≡ true → lt_z b c ≡ true → lt_z a c ≡ true
lt_trans a b c p q = omega (arith, signed)

pub le_trans : (a b c : ℤ) → le_z a b ≡ true → le_z b c ≡ true → le_z a c ≡ true
le_trans a b c p q = omega (arith, signed)

pub lt_total : (a b : ℤ) → lt_z a b ≡ false → lt_z b a ≡ false → a ≡ b
lt_total a b p q = antisym a b (omega (arith, signed)) (omega (arith, signed))

-- the lengths
pub length_told : (d : ℕ) → is_length d ≡ true → d ≤ 2000000000
unfolding is_length
length_told d e = leb-true d 2000000000 e

pub is_length_lem : (d : ℕ) → d ≤ 2000000000 → is_length d ≡ true
unfolding is_length
is_length_lem d h = le-leb d 2000000000 h

-- the first floor is the least instant
pub floor_instant : is_instant first_floor ≡ true
unfolding first_floor
floor_instant = is_instant_lem first_floor (omega arith)

pub floor_least : (x : ℤ) → is_instant x ≡ true → first_floor ≤ᶻ x
unfolding first_floor
floor_least x e = omega (arith, instant_told x e)

-- what a clock mark that is taken is, and one that is refused
pub record MarkTaken (opened x : ℤ) : Type 0 where
  pub in_range : is_instant x ≡ true
  pub later : opened <ᶻ x

module _ (opened x : ℤ) where
  pub mark_taken : is_mark_refused opened x ≡ false → MarkTaken opened x
  unfolding is_mark_refused
  mark_taken e = go (is_instant x) refl e
    where
      go : (b : Bool) → is_instant x ≡ b → (not b || le_z x opened) ≡ false → MarkTaken opened x
      go true i h = record { in_range = i; later = le_false x opened h }
      go false i h = never (sym h)

  pub mark_refused : is_mark_refused opened x ≡ true → (is_instant x ≡ false) ⊎ (x ≤ᶻ opened)
  unfolding is_mark_refused
  mark_refused e = go (is_instant x) refl e
    where
      go : (b : Bool) → is_instant x ≡ b → (not b || le_z x opened) ≡ true → (is_instant x ≡ false) ⊎ (x ≤ᶻ opened)
      go true i h = inr (le_true x opened h)
      go false i h = inl i

  pub takes_mark : MarkTaken opened x → is_mark_refused opened x ≡ false
  unfolding is_mark_refused
  takes_mark h = rw h.in_range (not_le x opened h.later)

  pub refuses_mark : (is_instant x ≡ false) ⊎ (x ≤ᶻ opened) → is_mark_refused opened x ≡ true
  unfolding is_mark_refused
  refuses_mark (inl i) = rw i
  refuses_mark (inr h) = rw (is_le x opened h) (or-true (not (is_instant x)))

-- what a forget that is taken is, and one that is refused
pub record ForgetTaken (floor opened f : ℤ) : Type 0 where
  pub in_range : is_instant f ≡ true
  pub above : floor ≤ᶻ f
  pub below : f ≤ᶻ opened

pub data ForgetRefused (floor opened f : ℤ) : Type 0 where
  below_floor : f <ᶻ floor → ForgetRefused floor opened f
  above_open : opened <ᶻ f → ForgetRefused floor opened f
  out_of_range : is_instant f ≡ false → ForgetRefused floor opened f

module _ (floor opened f : ℤ) where
  pub forget_taken : is_forget_refused floor opened f ≡ false → ForgetTaken floor opened f
  unfolding is_forget_refused
  forget_taken e = go (lt_z f floor) refl (lt_z opened f) refl (is_instant f) refl e
    where
      go : (a : Bool) → lt_z f floor ≡ a → (b : Bool) → lt_z opened f ≡ b → (c : Bool) → is_instant f ≡ c → (a || (b || not c)) ≡ false → ForgetTaken floor opened f
      go false p false q true i h = record { in_range = i; above = lt_false f floor p; below = lt_false opened f q }
      go false p false q false i h = never (sym h)
      go false p true q c i h = never (sym h)
      go true p b q c i h = never (sym h)

  pub forget_refused : is_forget_refused floor opened f ≡ true → ForgetRefused floor opened f
  unfolding is_forget_refused
  forget_refused e = go (lt_z f floor) refl (lt_z opened f) refl (is_instant f) refl e
    where
      go : (a : Bool) → lt_z f floor ≡ a → (b : Bool) → lt_z opened f ≡ b → (c : Bool) → is_instant f ≡ c → (a || (b || not c)) ≡ true → ForgetRefused floor opened f
      go false p false q true i h = never h
      go false p false q false i h = out_of_range i
      go false p true q c i h = above_open (lt_true opened f q)
      go true p b q c i h = below_floor (lt_true f floor p)

  pub takes_forget : ForgetTaken floor opened f → is_forget_refused floor opened f ≡ false
  unfolding is_forget_refused
  takes_forget h = rw (not_lt f floor h.above, not_lt opened f h.below, h.in_range)

  pub refuses_forget : ForgetRefused floor opened f → is_forget_refused floor opened f ≡ true
  unfolding is_forget_refused
  refuses_forget (below_floor h) = rw (is_lt f floor h)
  refuses_forget (above_open h) = rw (is_lt opened f h) (or-true (lt_z f floor))
  refuses_forget (out_of_range i) = rw (i, or-true (lt_z opened f)) (or-true (lt_z f floor))

-- the whole of two intervals starts no later than it ends
pub start_le_end : (rs re ss se : ℤ) → rs ≤ᶻ re → ss ≤ᶻ se → least rs ss ≤ᶻ greatest re se
start_le_end rs re ss se p q = omega (arith, least_is rs ss, greatest_is re se)

greatest_at : (a b : ℤ) (t : Bool) → le_z a b ≡ t → a ≤ᶻ b → greatest a b ≡ b
greatest_at a b true e h = rw e
greatest_at a b false e h = absurd (omega (arith, signed))

-- the later of two ends
pub greatest_later : (a b : ℤ) → a ≤ᶻ b → greatest a b ≡ b
greatest_later a b h = greatest_at a b (le_z a b) refl h

either_at : (a b : ℤ) (t : Bool) → le_z a b ≡ t → (a ≡ greatest a b) ⊎ (b ≡ greatest a b)
either_at a b true e = inr (rw e)
either_at a b false e = inl (rw e)

later_end : (re se e : ℤ) → greatest re se ≡ e → re ≤ᶻ se → se ≡ e
later_end re se e g h = sym (greatest_later re se h) ∙ g

-- e is where the whole of r and s ends
abbrev pub Ends : Ending → (re ss se e : ℤ) → Type 0
Ends Before re ss se e = (se ≡ e) × (re <ᶻ ss)
Ends Within re ss se e = (se ≡ e) × (ss ≤ᶻ re)
Ends Together re ss se e = (re ≡ e) × (se ≡ e)
Ends Either re ss se e = (re ≡ e) ⊎ (se ≡ e)

within : (re ss se e : ℤ) → greatest re se ≡ e → ss ≤ᶻ re → re ≤ᶻ se → Ends Within re ss se e
within re ss se e g p q = (later_end re se e g q, p)

together : (re ss se e : ℤ) → greatest re se ≡ e → re ≡ se → Ends Together re ss se e
together re ss se e g h =
    let l : se ≡ e = later_end re se e g (omega (arith, eq_fact h)) in
    (h ∙ l, l)

pub seq_ends : (rs re ss se e : ℤ) → ss ≤ᶻ se → is_related Seq rs re ss se ≡ true → greatest re se ≡ e → Ends Before re ss se e
unfolding is_related
seq_ends rs re ss se e q h g = (later_end re se e g (omega (arith, lt_true re ss h)), lt_true re ss h)

-- where two related intervals end
pub related_ends : (c : Relation) (rs re ss se e : ℤ) → rs ≤ᶻ re → ss ≤ᶻ se → is_related c rs re ss se ≡ true → greatest re se ≡ e → Ends (ending_of c) re ss se e
unfolding is_related ending_of
related_ends Seq rs re ss se e p q h g = seq_ends rs re ss se e q h g
related_ends And rs re ss se e p q h g = rw g at (either_at re se (le_z re se) refl)
related_ends Meets rs re ss se e p q h g = within re ss se e g (omega (arith, eq_told re ss h)) (omega (arith, eq_told re ss h))
related_ends Overlaps rs re ss se e p q h g =
    let i = and_second (lt_z rs ss) (lt_z ss re && lt_z re se) h in
    within re ss se e g (omega (arith, lt_true ss re (and_first (lt_z ss re) (lt_z re se) i))) (omega (arith, lt_true re se (and_second (lt_z ss re) (lt_z re se) i)))
related_ends Starts rs re ss se e p q h g =
    within re ss se e g (omega (arith, eq_told rs ss (and_first (eq_z rs ss) (lt_z re se) h))) (omega (arith, lt_true re se (and_second (eq_z rs ss) (lt_z re se) h)))
related_ends During rs re ss se e p q h g =
    within re ss se e g (omega (arith, lt_true ss rs (and_first (lt_z ss rs) (lt_z re se) h))) (omega (arith, lt_true re se (and_second (lt_z ss rs) (lt_z re se) h)))
related_ends Finishes rs re ss se e p q h g = together re ss se e g (eq_true re se (and_second (lt_z ss rs) (eq_z re se) h))
related_ends Equals rs re ss se e p q h g = together re ss se e g (eq_true re se (and_second (eq_z rs ss) (eq_z re se) h))

-- a forbidding s starts no earlier and ends no later than r
pub record Inside (rs re ss se : ℤ) : Type 0 where
  pub start : rs ≤ᶻ ss
  pub end : se ≤ᶻ re

-- the two edges, each strict or not
abbrev edge : Bool → ℤ → ℤ → Bool
edge true a b = lt_z a b
edge false a b = le_z a b

edge_le : (strict : Bool) (a b : ℤ) → edge strict a b ≡ true → a ≤ᶻ b
edge_le true a b h = omega (arith, lt_true a b h)
edge_le false a b h = le_true a b h

edges_inside : (p q : Bool) (rs re ss se : ℤ) → (edge p rs ss && edge q se re) ≡ true → Inside rs re ss se
edges_inside p q rs re ss se h = record {
  start = edge_le p rs ss (and_first (edge p rs ss) (edge q se re) h);
  end = edge_le q se re (and_second (edge p rs ss) (edge q se re) h);
}

pub forbidding_inside : (e : Edges) (rs re ss se : ℤ) → is_forbidding e rs re ss se ≡ true → Inside rs re ss se
unfolding is_forbidding
forbidding_inside ClosedClosed rs re ss se h = edges_inside false false rs re ss se h
forbidding_inside OpenOpen rs re ss se h = edges_inside true true rs re ss se h
forbidding_inside ClosedOpen rs re ss se h = edges_inside false true rs re ss se h
forbidding_inside OpenClosed rs re ss se h = edges_inside true false rs re ss se h

-- what a rival of s is, and one of r
pub record SecondRival (re se ts te : ℤ) : Type 0 where
  pub after : re <ᶻ ts
  pub sooner : te <ᶻ se

pub record FirstRival (rs re ss ts te : ℤ) : Type 0 where
  pub from : rs ≤ᶻ ts
  pub later : re <ᶻ te
  pub before : te <ᶻ ss

module _ (re se ts te : ℤ) where
  pub second_told : is_rival_of_second re se ts te ≡ true → SecondRival re se ts te
  unfolding is_rival_of_second
  second_told h = record { after = lt_true re ts (and_first (lt_z re ts) (lt_z te se) h); sooner = lt_true te se (and_second (lt_z re ts) (lt_z te se) h) }

  pub is_second : SecondRival re se ts te → is_rival_of_second re se ts te ≡ true
  unfolding is_rival_of_second
  is_second k = rw (is_lt re ts k.after) (is_lt te se k.sooner)

module _ (rs re ss ts te : ℤ) where
  pub first_told : is_rival_of_first Change rs re ss ts te ≡ true → FirstRival rs re ss ts te
  unfolding is_rival_of_first
  first_told h =
      let k = and_second (le_z rs ts) (lt_z re te && lt_z te ss) h in
      record { from = le_true rs ts (and_first (le_z rs ts) (lt_z re te && lt_z te ss) h); later = lt_true re te (and_first (lt_z re te) (lt_z te ss) k); before = lt_true te ss (and_second (lt_z re te) (lt_z te ss) k) }

  pub is_first : FirstRival rs re ss ts te → is_rival_of_first Change rs re ss ts te ≡ true
  unfolding is_rival_of_first
  is_first k = rw (is_le rs ts k.from, is_lt re te k.later) (is_lt te ss k.before)

  -- cut looks at no r'
  pub none_first : is_rival_of_first Cut rs re ss ts te ≡ false
  unfolding is_rival_of_first
  none_first = refl

-- a rival starts no earlier than r and ends before s does
pub record Between (rs se ts te : ℤ) : Type 0 where
  pub start : rs ≤ᶻ ts
  pub end : te <ᶻ se

pub second_between : (rs re se ts te : ℤ) → rs ≤ᶻ re → is_rival_of_second re se ts te ≡ true → Between rs se ts te
second_between rs re se ts te p h =
    let k = second_told re se ts te h in
    let a = k.after in
    record { start = omega arith; end = k.sooner }

pub first_between : (c : Nearest) (rs re ss se ts te : ℤ) → ss ≤ᶻ se → is_rival_of_first c rs re ss ts te ≡ true → Between rs se ts te
first_between Cut rs re ss se ts te p h = never (sym (none_first rs re ss ts te) ∙ h)
first_between Change rs re ss se ts te p h =
    let k = first_told rs re ss ts te h in
    let b = k.before in
    record { start = k.from; end = omega arith }
