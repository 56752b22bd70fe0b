-- Laws of merging groups, each by the way two lists of groups go into one.
use Prim.Native.Nat.{ℕ}
use native.Mathlib.Omega.{arith}
use mathlib.Core.Path.{◌≡◌, refl, sym, ap, ◌∙◌, subst}
use mathlib.Core.Bool.{Bool, true, false, cond, ◌||◌, or_assoc}
use mathlib.Core.List.{List, [], ◌∷◌, ◌++◌, append_assoc, append-nil}
use lib.IntN.{ℤ}
use lib.Signed.{lt_z}
use Rattle.interval.specs.Instants.{is_instant, is_mark_refused, eq_z}
use Rattle.interval.proofs.Laws.{mark_taken, takes_mark}
use Rattle.interval.proofs.Signed.{signed, ◌≤ᶻ◌, ◌<ᶻ◌, antisym, lt_true, lt_false, is_lt}
use Rattle.logs.specs.Logs.{Group, group, merge, merge_with}
use Rattle.logs.specs.Statements.{AreCodes, Follow, codes_at, has_instant, Timed, timed_at, events_in, Mingled, none, left, right}

-- how two lists of groups go into one
pub data Merged : List Group → List Group → List Group → Type 0 where
  second_only : {ys : List Group} → Merged [] ys ys
  first_only : {a : Group} {xs ms : List Group} → Merged xs [] ms → Merged (a ∷ xs) [] (a ∷ ms)
  first : {a b : Group} {xs ys ms : List Group} → lt_z a.instant b.instant ≡ true → Merged xs (b ∷ ys) ms → Merged (a ∷ xs) (b ∷ ys) (a ∷ ms)
  second : {a b : Group} {xs ys ms : List Group} → lt_z b.instant a.instant ≡ true → Merged (a ∷ xs) ys ms → Merged (a ∷ xs) (b ∷ ys) (b ∷ ms)
  both : {a b : Group} {xs ys ms : List Group} → a.instant ≡ b.instant → Merged xs ys ms → Merged (a ∷ xs) (b ∷ ys) (group a.instant (a.codes ++ b.codes) ∷ ms)

merge_with_lem : (a : Group) (rest bs : List Group) → ((cs : List Group) → Merged rest cs (merge rest cs)) → Merged (a ∷ rest) bs (merge_with a (merge rest) bs)
unfolding merge_with
merge_with_lem a rest [] h = first_only (h [])
merge_with_lem a rest (b ∷ bs) h = go (lt_z a.instant b.instant) refl (lt_z b.instant a.instant) refl (merge_with_lem a rest bs h)
  where
    go : (p : Bool) → lt_z a.instant b.instant ≡ p → (q : Bool) → lt_z b.instant a.instant ≡ q → Merged (a ∷ rest) bs (merge_with a (merge rest) bs) → Merged (a ∷ rest) (b ∷ bs) (cond p (a ∷ merge rest (b ∷ bs)) (cond q (b ∷ merge_with a (merge rest) bs) (group a.instant (a.codes ++ b.codes) ∷ merge rest bs)))
    go true e q d f = first e (h (b ∷ bs))
    go false e true d f = second d f
    go false e false d f = both (antisym a.instant b.instant (lt_false b.instant a.instant d) (lt_false a.instant b.instant e)) (h bs)

pub merge_is : (as₀ bs : List Group) → Merged as₀ bs (merge as₀ bs)
unfolding merge
merge_is [] bs = second_only
merge_is (a ∷ rest) bs = merge_with_lem a rest bs (λ cs. merge_is rest cs)

-- codes put together
pub codes_append : (ks ls : List ℕ) → AreCodes ks → AreCodes ls → AreCodes (ks ++ ls)
unfolding AreCodes
codes_append [] ls f g = g
codes_append (k ∷ ks) ls f g = (f.0, codes_append ks ls f.1 g)

-- the merged groups ascend
pub next_of : (t u : ℤ) → is_instant u ≡ true → lt_z t u ≡ true → is_mark_refused t u ≡ false
next_of t u e d = takes_mark t u (record { in_range = e; later = lt_true t u d })

pub next_lt : (t u : ℤ) → is_mark_refused t u ≡ false → lt_z t u ≡ true
next_lt t u e = is_lt t u (mark_taken t u e).later

pub next_in : (t u : ℤ) → is_mark_refused t u ≡ false → is_instant u ≡ true
next_in t u e = (mark_taken t u e).in_range

follow_at : (t u : ℤ) (g : Group) (gs : List Group) → lt_z u g.instant ≡ true → Follow t (g ∷ gs) → Follow u (g ∷ gs)
unfolding Follow
follow_at t u g gs e f = (next_of u g.instant (next_in t g.instant f.0) e, f.1, f.2)

pub merged_follow : (t : ℤ) {xs ys ms : List Group} → Merged xs ys ms → Follow t xs → Follow t ys → Follow t ms
unfolding Follow
merged_follow t second_only f g = g
merged_follow t (first_only {a} {xs} {ms} m) f g = (f.0, f.1, merged_follow a.instant m f.2 tt)
merged_follow t (first {a} {b} {xs} {ys} {ms} e m) f g = (f.0, f.1, merged_follow a.instant m f.2 (follow_at t a.instant b ys e g))
merged_follow t (second {a} {b} {xs} {ys} {ms} e m) f g = (g.0, g.1, merged_follow b.instant m (follow_at t b.instant a xs e f) g.2)
merged_follow t (both {a} {b} {xs} {ys} {ms} e m) f g = (f.0, codes_append a.codes b.codes f.1 g.1, merged_follow a.instant m f.2 (subst (λ z. Follow z ys) (sym e) g.2))

-- none of the later groups is at an earlier instant
differ : (a b : ℤ) → b <ᶻ a → eq_z a b ≡ false
differ a b h = go (eq_z a b) refl
  where
    go : (c : Bool) → eq_z a b ≡ c → c ≡ false
    go true e = absurd (omega (arith, signed))
    go false e = refl

pub none_later : (t u : ℤ) (gs : List Group) → t ≤ᶻ u → Follow u gs → (codes_at t gs ≡ []) × (has_instant t gs ≡ false)
unfolding Follow codes_at has_instant
none_later t u [] h f = (refl, refl)
none_later t u (g ∷ gs) h f =
    let later = lt_true u g.instant (next_lt u g.instant f.0) in
    let k = none_later t g.instant gs (omega (arith, later)) f.2 in
    let other = differ g.instant t (omega (arith, later)) in
    (rw (other, k.0), rw (other, k.1))

-- what a group has at t
abbrev codes_here : ℤ → Group → List ℕ
codes_here t g = cond (eq_z g.instant t) g.codes []

-- the group b comes before the group a and those behind it
put_codes : (t : ℤ) (a b : Group) (xs : List Group) (c : List ℕ) → lt_z b.instant a.instant ≡ true → Follow a.instant xs → codes_here t b ++ ((codes_here t a ++ codes_at t xs) ++ c) ≡ (codes_here t a ++ codes_at t xs) ++ (codes_here t b ++ c)
put_codes t a b xs c e f = go (eq_z b.instant t) refl
  where
    go : (p : Bool) → eq_z b.instant t ≡ p → cond p b.codes [] ++ ((codes_here t a ++ codes_at t xs) ++ c) ≡ (codes_here t a ++ codes_at t xs) ++ (cond p b.codes [] ++ c)
    go true d =
        let k = none_later t a.instant xs (omega (arith, signed)) f in
        rw (differ a.instant t (omega (arith, signed)), k.0)
    go false d = refl

or_left : (p q r : Bool) → (p || (q || r)) ≡ (q || (p || r))
or_left true true r = refl
or_left true false r = refl
or_left false q r = refl

join_codes : (t : ℤ) (a b : Group) (xs : List Group) (c : List ℕ) → a.instant ≡ b.instant → Follow a.instant xs → cond (eq_z a.instant t) (a.codes ++ b.codes) [] ++ (codes_at t xs ++ c) ≡ (codes_here t a ++ codes_at t xs) ++ (codes_here t b ++ c)
join_codes t a b xs c e f = rw (← e) (go (eq_z a.instant t) refl)
  where
    go : (p : Bool) → eq_z a.instant t ≡ p → cond p (a.codes ++ b.codes) [] ++ (codes_at t xs ++ c) ≡ (cond p a.codes [] ++ codes_at t xs) ++ (cond p b.codes [] ++ c)
    go true d =
        let k = none_later t a.instant xs (omega (arith, signed)) f in
        rw (k.0, append-nil a.codes) (append_assoc a.codes b.codes c)
    go false d = refl

pub merged_codes : (t u : ℤ) {xs ys ms : List Group} → Merged xs ys ms → Follow u xs → codes_at t ms ≡ codes_at t xs ++ codes_at t ys
unfolding Follow codes_at
merged_codes t u second_only f = refl
merged_codes t u (first_only {a} {xs} {ms} m) f = ap (λ l. codes_here t a ++ l) (merged_codes t a.instant m f.2) ∙ sym (append_assoc (codes_here t a) (codes_at t xs) [])
merged_codes t u (first {a} {b} {xs} {ys} {ms} e m) f = ap (λ l. codes_here t a ++ l) (merged_codes t a.instant m f.2) ∙ sym (append_assoc (codes_here t a) (codes_at t xs) (codes_at t (b ∷ ys)))
merged_codes t u (second {a} {b} {xs} {ys} {ms} e m) f = ap (λ l. codes_here t b ++ l) (merged_codes t u m f) ∙ put_codes t a b xs (codes_at t ys) e f.2
merged_codes t u (both {a} {b} {xs} {ys} {ms} e m) f = ap (λ l. cond (eq_z a.instant t) (a.codes ++ b.codes) [] ++ l) (merged_codes t a.instant m f.2) ∙ join_codes t a b xs (codes_at t ys) e f.2

or_same : (p q r : Bool) → (p || (q || r)) ≡ ((p || q) || (p || r))
or_same true q r = refl
or_same false q r = refl

pub merged_instants : (t : ℤ) {xs ys ms : List Group} → Merged xs ys ms → has_instant t ms ≡ (has_instant t xs || has_instant t ys)
unfolding has_instant
merged_instants t second_only = refl
merged_instants t (first_only {a} {xs} {ms} m) = ap (λ l. eq_z a.instant t || l) (merged_instants t m) ∙ sym (or_assoc (eq_z a.instant t) (has_instant t xs) false)
merged_instants t (first {a} {b} {xs} {ys} {ms} e m) = ap (λ l. eq_z a.instant t || l) (merged_instants t m) ∙ sym (or_assoc (eq_z a.instant t) (has_instant t xs) (has_instant t (b ∷ ys)))
merged_instants t (second {a} {b} {xs} {ys} {ms} e m) = ap (λ l. eq_z b.instant t || l) (merged_instants t m) ∙ or_left (eq_z b.instant t) (has_instant t (a ∷ xs)) (has_instant t ys)
merged_instants t (both {a} {b} {xs} {ys} {ms} e m) = ap (λ l. eq_z a.instant t || l) (merged_instants t m) ∙ or_same (eq_z a.instant t) (has_instant t xs) (has_instant t ys) ∙ ap (λ z. (eq_z a.instant t || has_instant t xs) || (eq_z z t || has_instant t ys)) e

-- events
lefts : (es : List Timed) {xs ys zs : List Timed} → Mingled xs ys zs → Mingled (es ++ xs) ys (es ++ zs)
lefts [] m = m
lefts (e ∷ es) m = left (lefts es m)

rights : (es : List Timed) {xs ys zs : List Timed} → Mingled xs ys zs → Mingled xs (es ++ ys) (es ++ zs)
rights [] m = m
rights (e ∷ es) m = right (rights es m)

all_right : (ys : List Timed) → Mingled [] ys ys
all_right [] = none
all_right (e ∷ ys) = right (all_right ys)

timed_append : (t : ℤ) (ks ls : List ℕ) → timed_at t (ks ++ ls) ≡ timed_at t ks ++ timed_at t ls
unfolding timed_at
timed_append t [] ls = refl
timed_append t (k ∷ ks) ls = ap (λ l. record { code = k; instant = t } ∷ l) (timed_append t ks ls)

pub merged_events : {xs ys ms : List Group} → Merged xs ys ms → Mingled (events_in xs) (events_in ys) (events_in ms)
unfolding events_in
merged_events (second_only {ys}) = all_right (events_in ys)
merged_events (first_only {a} {xs} {ms} m) = lefts (timed_at a.instant a.codes) (merged_events m)
merged_events (first {a} {b} {xs} {ys} {ms} e m) = lefts (timed_at a.instant a.codes) (merged_events m)
merged_events (second {a} {b} {xs} {ys} {ms} e m) = rights (timed_at b.instant b.codes) (merged_events m)
merged_events (both {a} {b} {xs} {ys} {ms} e m) =
    let k = rights (timed_at a.instant b.codes) (merged_events m) in
    let f = lefts (timed_at a.instant a.codes) k in
    rw (timed_append a.instant a.codes b.codes, append_assoc (timed_at a.instant a.codes) (timed_at a.instant b.codes) (events_in ms)) (subst (λ z. Mingled (timed_at a.instant a.codes ++ events_in xs) (timed_at z b.codes ++ events_in ys) (timed_at a.instant a.codes ++ (timed_at a.instant b.codes ++ events_in ms))) e f)
