-- Laws of a chart with entries behind its own: how many it has and what stands where, for every chart; and where its list has room, that they may
-- be put in one by one.
use Prim.Native.Nat.{ℕ, zero, suc, ◌+◌, ◌≤◌, ◌<◌}
use native.Mathlib.Omega.{arith}
use native.Mathlib.Nat.{add-zero}
use native.Mathlib.Numerals.{add-one}
use mathlib.Core.Path.{◌≡◌, refl, sym, ap, ap₂, ◌∙◌}
use mathlib.Core.List.{List, [], ◌∷◌, ◌++◌, append-nil, append_assoc}
use lib.ListN.{length, get_or, take, drop, replicate, length-append, length-drop, length-replicate, take-append-drop, get_or-replicate, get_or-append}
use lib.Seq.{length-take-le, take-append-le, take_at, append_snoc, drop-append-add, get_or-append-add, get_or-take, drop-drop, set_split}
use Rattle.chart.specs.Records.{entry}
use Rattle.chart.specs.Charts.{with_entry, with_entries, entry_at}
use Rattle.chart.specs.declared.Entry.{Entry}
use Rattle.chart.specs.declared.Chart.{Chart}

abbrev chart : ℕ → List Entry → Chart
chart n es = record { count = n; entries = es }

-- the chart's own entries, blank where its list is too short
abbrev own_entries : Chart → List Entry
own_entries c = take c.count (c.entries ++ replicate c.count (entry 0 0 0))

padded_at : (es : List Entry) (n i : ℕ) → i < n → get_or (es ++ replicate n (entry 0 0 0)) i (entry 0 0 0) ≡ get_or es i (entry 0 0 0)
padded_at [] n i h = get_or-replicate n i (entry 0 0 0) (entry 0 0 0) h
padded_at (e ∷ es) n zero h = refl
padded_at (e ∷ es) n (suc i) h = padded_at es n i (omega arith)

module _ (c : Chart) where
  own_length : length (own_entries c) ≡ c.count
  own_length = length-take-le c.count _ (omega (arith, length-append c.entries (replicate c.count (entry 0 0 0)), length-replicate c.count (entry 0 0 0)))

  own_within : c.count ≤ length c.entries → own_entries c ≡ take c.count c.entries
  own_within h = take-append-le c.count c.entries _ h

module _ (c : Chart) (es : List Entry) where
  front_length : length (own_entries c ++ es) ≡ c.count + length es
  front_length = length-append (own_entries c) es ∙ ap (λ n. n + length es) (own_length c)

  pub added_count : (with_entries c es).count ≡ c.count + length es
  unfolding with_entries
  added_count = refl

  -- the chart's entries stay, and the added ones follow them
  pub entry_kept : (i : ℕ) → i < c.count → entry_at (with_entries c es) i ≡ entry_at c i
  unfolding with_entries
  entry_kept i h =
      get_or-append (own_entries c ++ es) _ _ i (omega (arith, front_length))
      ∙ get_or-append (own_entries c) es _ i (omega (arith, own_length c))
      ∙ get_or-take c.count _ i _ h
      ∙ padded_at c.entries c.count i h

  pub entry_added : (i : ℕ) → i < length es → entry_at (with_entries c es) (c.count + i) ≡ get_or es i (entry 0 0 0)
  unfolding with_entries
  entry_added i h =
      get_or-append (own_entries c ++ es) _ _ (c.count + i) (omega (arith, front_length))
      ∙ ap (λ n. get_or (own_entries c ++ es) (n + i) (entry 0 0 0)) (sym (own_length c))
      ∙ get_or-append-add (own_entries c) es i (entry 0 0 0)

  -- a list of 32 keeps its length
  pub added_size : length c.entries ≡ 32 → c.count + length es ≤ 32 → length (with_entries c es).entries ≡ 32
  unfolding with_entries
  added_size h g =
      let rest = drop (c.count + length es) c.entries in
      omega (arith, length-append (own_entries c ++ es) rest, front_length, length-drop (c.count + length es) c.entries)

  -- added twice is added once
  pub added_twice : (fs : List Entry) → with_entries (with_entries c es) fs ≡ with_entries c (es ++ fs)
  unfolding with_entries
  added_twice fs =
      let own = own_entries c in
      let n = c.count + length es in
      let rest = drop n c.entries in
      let count : n + length fs ≡ c.count + length (es ++ fs) = omega (arith, length-append es fs) in
      let front : take n (own ++ es ++ rest ++ replicate n (entry 0 0 0)) ≡ own ++ es = ap (take n) (append_assoc (own ++ es) rest (replicate n (entry 0 0 0))) ∙ take_at (own ++ es) _ n front_length in
      let back : drop (n + length fs) (own ++ es ++ rest) ≡ drop (c.count + length (es ++ fs)) c.entries = ap (λ k. drop (k + length fs) (own ++ es ++ rest)) (sym front_length) ∙ drop-append-add (own ++ es) rest (length fs) ∙ drop-drop (length fs) n c.entries ∙ ap (λ k. drop k c.entries) count in
      ap₂ chart count (ap₂ (λ f b. f ++ fs ++ b) front back ∙ ap (λ f. f ++ drop (c.count + length (es ++ fs)) c.entries) (append_assoc own es fs))

-- where the list has room
pub added_none : (c : Chart) → c.count ≤ length c.entries → with_entries c [] ≡ c
unfolding with_entries
added_none c h =
    let n = add-zero c.count in
    let own = append-nil (own_entries c) ∙ own_within c h in
    ap₂ chart n (ap₂ (λ f k. f ++ drop k c.entries) own n ∙ take-append-drop c.count c.entries)

pub added_one : (c : Chart) (e : Entry) → c.count < length c.entries → with_entries c (e ∷ []) ≡ with_entry c e
unfolding with_entries with_entry
added_one c e h =
    let own = own_within c (omega arith) in
    let split = set_split c.entries c.count e h in
    ap (chart (c.count + 1)) (ap₂ (λ f k. f ++ e ∷ [] ++ drop k c.entries) own (add-one c.count) ∙ append_snoc (take c.count c.entries) e _ ∙ sym split)
