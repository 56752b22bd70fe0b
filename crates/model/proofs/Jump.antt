-- Closing an instant at which nothing is due changes nothing; closing only the due ones closes all.
use Prim.Native.Nat.{ℕ, zero, suc, ◌+◌, ◌<◌, ◌≤◌}
use native.Mathlib.Omega.{arith}
use mathlib.Core.Path.{◌≡◌, refl, sym, ap, ◌∙◌, subst}
use mathlib.Core.Logic.{◌⊎◌, inl, inr}
use mathlib.Core.Bool.{Bool, true, false, cond, not, ◌&&◌}
use mathlib.Core.List.Memᴰ
use mathlib.Core.List.{List, [], ◌∷◌, ◌++◌, map, append-nil, Memᴰ}
use lib.Dec.{T, eqb, eqb→eq, eqb_refl}
use lib.IntN.{ℤ, pos, ◌+ℤ◌}
use lib.ListN.{length, length-append}
use lib.Signed.{lt_z, le_z}
use Rattle.interval.specs.Instants.{eq_z, least}
use Rattle.interval.proofs.Signed.{◌≤ᶻ◌, ◌<ᶻ◌, eq_fact, eq_z→, eq_z_refl, lt_z→, le_z→, →le_z, nle_z→, lt_false, lt_true, least_is, least_most, greatest_most, add_fact, add_none, add_one_more}
use Rattle.model.specs.Lists.{keep, numbers, sort_stably}
use Rattle.model.specs.Recognitions.{Event, Operator, event, related, or, absence, lasting, after, nearest, delayed}
use Rattle.model.specs.Order.{since_of, Row, row}
use Rattle.model.specs.RowSteps.{Node, leaf, part, pair, leaves, make, node_start, node_end, Rule, rules, row_at, places, node_row, starts_later, made_rows, derived_rows, extend_rows, ends_at, close_rows, close_instants, instants_to, is_waiting, delayed_ends, delays_from, due_ends, first_from, next_due, close_due}
use Rattle.model.specs.Statements.{NextDue}
use Rattle.model.proofs.Sorted.{T_and, and_T, keep_mem, mem_keep, keep_append, stably_mem, mem_stably}
use Rattle.model.proofs.Made.{Two, Made, make_made, made_make}
use Rattle.model.proofs.Place.{keep_none, get_d_mem, mem_get_d}
use Rattle.model.proofs.Rows.{map_numbers, numbers_mem}
use Rattle.model.proofs.Steps.{extend_more}
use Rattle.model.proofs.Leaves.{leaves_mem}
use Rattle.model.proofs.History.{instants_to_lem}

-- no row ends at o
abbrev NoneAt : ℤ → List Row → Type 0
NoneAt o rs = (r : Row) → Memᴰ r rs → r.end ≡ o → ⊥

abbrev pub EndBefore : ℤ → List Row → Type 0
EndBefore o rs = (r : Row) → Memᴰ r rs → r.end <ᶻ o

ends : (since : List ℤ) (o : ℤ) (r : Row) (n : ℕ) → T (ends_at since o n r.start r.end) → r.end ≡ o
ends since o r n t = eq_z→ r.end o (T_and (le_z (since_of since n) r.start) (eq_z r.end o) t).1

counts : (since : List ℤ) (o : ℤ) (r : Row) (n : ℕ) → T (ends_at since o n r.start r.end) → T (le_z (since_of since n) r.start)
counts since o r n t = (T_and (le_z (since_of since n) r.start) (eq_z r.end o) t).0

node_start_lem : (rs : List Row) (n : ℕ) (x : Node ℕ) → (node_row rs n x).start ≡ node_start (places rs) x
node_start_lem rs n (leaf s i) = refl
node_start_lem rs n (part m i) = refl
node_start_lem rs n (pair i j) = refl

node_end_lem : (rs : List Row) (n : ℕ) (x : Node ℕ) → (node_row rs n x).end ≡ node_end (places rs) x
node_end_lem rs n (leaf s i) = refl
node_end_lem rs n (part m i) = refl
node_end_lem rs n (pair i j) = refl

module _ (since : List ℤ) (o : ℤ) (es : List Event) (rs : List Row) (none : NoneAt o rs) (still : (e : Event) → Memᴰ e es → e.instant ≡ o → ⊥) where
  abbrev nums : List ℕ
  nums = numbers 0 (length rs)

  row_there : (i : ℕ) → Memᴰ i nums → Memᴰ (row_at rs i) rs
  row_there i m = get_d_mem (row 0 (pos 0) (pos 0) (pos 0) (pos 0)) rs i (let l : i < 0 + length rs = numbers_mem 0 (length rs) i m in omega arith)

  abbrev Off : Node ℕ → Type 0
  Off x = node_end (places rs) x ≡ o → ⊥

  off_two : {p : ℕ → ℕ → Bool} {a b : ℕ} {x : Node ℕ} → Two (places rs) p a b nums x → Off x
  off_two m = subst Off (sym m.is) (greatest_most (λ z. z ≡ o → ⊥) (row_at rs m.l).end (row_at rs m.r).end (none (row_at rs m.l) (row_there m.l m.hasl.there)) (none (row_at rs m.r) (row_there m.r m.hasr.there)))

  -- an operator makes nothing that starts at x or later and ends at o
  off : (x : ℤ) (op : Operator) → (Memᴰ o (delayed_ends x rs op) → ⊥) → (y : Node ℕ) → T (le_z x (node_start (places rs) y)) → Made (places rs) op es nums y → Off y
  off x (event k) d y l m = let q = leaves_mem k es y m in subst Off (sym q.is) (still q.e q.there)
  off x (related c a b) d y l m = off_two m
  off x (nearest c a b) d y l m = off_two m.two
  off x (or a b) d y l (inl m) = subst Off (sym m.is) (none (row_at rs m.r) (row_there m.r m.hasr.there))
  off x (or a b) d y l (inr m) = subst Off (sym m.is) (none (row_at rs m.r) (row_there m.r m.hasr.there))
  off x (absence c a b) d y l m = subst Off (sym m.is) (none (row_at rs m.r) (row_there m.r m.hasr.there))
  off x (lasting c a k) d y l m = subst Off (sym m.is) (none (row_at rs m.r) (row_there m.r m.hasr.there))
  off x (after a k) d y l m = subst Off (sym m.is) (λ e. d (Memᴰ.cast (sym e) (Memᴰ.map (λ r. r.end +ℤ pos k) (mem_keep (is_waiting x a) rs (row_there m.r m.hasr.there) waits))))
    where
      q : Row
      q = row_at rs m.r

      waits : T (is_waiting x a q)
      waits = and_T (eqb q.entry a) (le_z x q.start) (subst (λ z. T (eqb q.entry z)) m.hasr.entry (eqb_refl q.entry)) (subst (λ z. T (le_z x (node_start (places rs) z))) m.is l)

  nothing : (n : ℕ) (op : Operator) → (Memᴰ o (delayed_ends (since_of since n) rs op) → ⊥) → derived_rows (record { entry = n; operator = op; test = ends_at since o n }) es rs ≡ []
  nothing n op d = ap (sort_stably starts_later) (keep_none (λ r. ends_at since o n r.start r.end) (map (node_row rs n) (make (places rs) op es nums)) (λ r m t.
      let p = Memᴰ.of_map (node_row rs n) (make (places rs) op es nums) m in
      off (since_of since n) op d p.0 (subst (λ z. T (le_z (since_of since n) z)) (sym (ap (λ z. z.start) p.2) ∙ node_start_lem rs n p.0) (counts since o r n t)) (make_made (places rs) op es nums p.0 p.1) (sym (node_end_lem rs n p.0) ∙ ap (λ z. z.end) p.2 ∙ ends since o r n t)))

  idle_from : (ops : List Operator) (n : ℕ) → (Memᴰ o (delays_from n ops since rs) → ⊥) → extend_rows es (rules (ends_at since o) n ops) rs ≡ rs
  unfolding extend_rows
  idle_from [] n d = refl
  idle_from (op ∷ ops) n d =
      ap (λ z. extend_rows es (rules (ends_at since o) (suc n) ops) (rs ++ z)) (nothing n op (λ m. d (Memᴰ.append_left (delays_from (suc n) ops since rs) m)))
      ∙ ap (extend_rows es (rules (ends_at since o) (suc n) ops)) (append-nil rs)
      ∙ idle_from ops (suc n) (λ m. d (Memᴰ.append_right (delayed_ends (since_of since n) rs op) m))

pub idle : (chart : List Operator) (since : List ℤ) (es : List Event) (rs : List Row) (o : ℤ) → (Memᴰ o (due_ends es chart since rs) → ⊥) → NoneAt o rs → close_rows o es chart since rs ≡ rs
unfolding close_rows due_ends
idle chart since es rs o due none = idle_from since o es rs none (λ e m i. due (Memᴰ.append_left (delays_from 0 chart since rs) (Memᴰ.cast (sym i) (Memᴰ.map (λ e. e.instant) m)))) chart 0 (λ d. due (Memᴰ.append_right (map (λ e. e.instant) es) d))

-- events at other instants do not count
module _ (since : List ℤ) (o : ℤ) (es : List Event) (still : (e : Event) → Memᴰ e es → e.instant ≡ o → ⊥) where
  no_event : (n : ℕ) (op : Operator) (rs : List Row) → derived_rows (record { entry = n; operator = op; test = ends_at since o n }) es rs ≡ derived_rows (record { entry = n; operator = op; test = ends_at since o n }) [] rs
  no_event n (event k) rs = ap (sort_stably starts_later) (keep_none (λ r. ends_at since o n r.start r.end) (map (node_row rs n) (leaves k es)) (λ r m t.
      let p = Memᴰ.of_map (node_row rs n) (leaves k es) m in
      let q = leaves_mem k es p.0 p.1 in
      still q.e q.there (sym (ap (λ z. (node_row rs n z).end) q.is) ∙ ap (λ z. z.end) p.2 ∙ ends since o r n t)))
  no_event n (related c a b) rs = refl
  no_event n (or a b) rs = refl
  no_event n (absence c a b) rs = refl
  no_event n (lasting c a d) rs = refl
  no_event n (after a d) rs = refl
  no_event n (nearest c a b) rs = refl

  no_events : (ops : List Operator) (n : ℕ) (rs : List Row) → extend_rows es (rules (ends_at since o) n ops) rs ≡ extend_rows [] (rules (ends_at since o) n ops) rs
  unfolding extend_rows
  no_events [] n rs = refl
  no_events (op ∷ ops) n rs = ap (λ z. extend_rows es (rules (ends_at since o) (suc n) ops) (rs ++ z)) (no_event n op rs) ∙ no_events ops (suc n) (rs ++ derived_rows (record { entry = n; operator = op; test = ends_at since o n }) [] rs)

pub close_without : (chart : List Operator) (since : List ℤ) (es : List Event) (rs : List Row) (o : ℤ) → ((e : Event) → Memᴰ e es → e.instant ≡ o → ⊥) → close_rows o es chart since rs ≡ close_rows o [] chart since rs
unfolding close_rows
close_without chart since es rs o still = no_events since o es still chart 0 rs

-- what is closed at o ends at o
close_ends : (since : List ℤ) (o : ℤ) (es : List Event) (ops : List Operator) (n : ℕ) (rs : List Row) (r : Row) → Memᴰ r (extend_rows es (rules (ends_at since o) n ops) rs) → Memᴰ r rs ⊎ (r.end ≡ o)
unfolding extend_rows
close_ends since o es [] n rs r m = inl m
close_ends since o es (op ∷ ops) n rs r m = elim (close_ends since o es ops (suc n) (rs ++ derived_rows j es rs) r m) as (λ z. Memᴰ r rs ⊎ (r.end ≡ o)) [ inl k ↦ first (Memᴰ.append_cases rs k) | inr k ↦ inr k ]
  where
    j : Rule
    j = record { entry = n; operator = op; test = ends_at since o n }

    first : Memᴰ r rs ⊎ Memᴰ r (derived_rows j es rs) → Memᴰ r rs ⊎ (r.end ≡ o)
    first (inl k) = inl k
    first (inr k) = inr (ends since o r n (keep_mem (λ r. ends_at since o n r.start r.end) (map (node_row rs n) (make (places rs) op es (numbers 0 (length rs)))) (stably_mem starts_later (keep (λ r. ends_at since o n r.start r.end) (map (node_row rs n) (make (places rs) op es (numbers 0 (length rs))))) k)).1)

pub closed_ends : (chart : List Operator) (since : List ℤ) (es : List Event) (rs : List Row) (o : ℤ) → EndBefore o rs → EndBefore (o +ℤ pos 1) (close_rows o es chart since rs)
unfolding close_rows
closed_ends chart since es rs o h r m = elim (close_ends since o es chart 0 rs r m) as (λ z. r.end <ᶻ (o +ℤ pos 1)) [ inl k ↦ omega (arith, h r k, add_fact o (pos 1)) | inr k ↦ omega (arith, eq_fact k, add_fact o (pos 1)) ]

-- a delayed end brings a row
module _ (since : List ℤ) (e : ℤ) (es : List Event) where
  abbrev rule : ℕ → Operator → Rule
  rule n op = record { entry = n; operator = op; test = ends_at since e n }

  -- the delayed row of row i
  brought_by : (n a d : ℕ) (rs : List Row) (i : ℕ) → Memᴰ i (numbers 0 (length rs)) → T (is_waiting (since_of since n) a (row_at rs i)) → (row_at rs i).end +ℤ pos d ≡ e → 0 < length (derived_rows (rule n (after a d)) es rs)
  brought_by n a d rs i there waits due =
      let q = T_and (eqb (row_at rs i).entry a) (le_z (since_of since n) (row_at rs i).start) waits in
      let made = made_make (places rs) (after a d) es (numbers 0 (length rs)) (part (delayed d) i) (record { r = i; is = refl; hasr = record { there = there; entry = eqb→eq (row_at rs i).entry a q.0 } }) in
      let ended = subst (λ z. T (eq_z ((row_at rs i).end +ℤ pos d) z)) due (eq_z_refl ((row_at rs i).end +ℤ pos d)) in
      let kept = mem_keep (λ r. ends_at since e n r.start r.end) (map (node_row rs n) (make (places rs) (after a d) es (numbers 0 (length rs)))) (Memᴰ.map (node_row rs n) made) (and_T (le_z (since_of since n) (row_at rs i).start) (eq_z ((row_at rs i).end +ℤ pos d) e) q.1 ended) in
      let at = mem_get_d (row_at rs i) (derived_rows (rule n (after a d)) es rs) (node_row rs n (part (delayed d) i)) (mem_stably starts_later (made_rows (rule n (after a d)) es rs) kept) in
      omega (arith, at.low)

  brought : (n : ℕ) (op : Operator) (rs : List Row) → Memᴰ e (delayed_ends (since_of since n) rs op) → 0 < length (derived_rows (rule n op) es rs)
  brought n (event k) rs m = absurd (Memᴰ.not-nil m)
  brought n (related c a b) rs m = absurd (Memᴰ.not-nil m)
  brought n (or a b) rs m = absurd (Memᴰ.not-nil m)
  brought n (absence c a b) rs m = absurd (Memᴰ.not-nil m)
  brought n (lasting c a d) rs m = absurd (Memᴰ.not-nil m)
  brought n (nearest c a b) rs m = absurd (Memᴰ.not-nil m)
  brought n (after a d) rs m =
      let p = Memᴰ.of_map (λ r. r.end +ℤ pos d) (keep (is_waiting (since_of since n) a) rs) m in
      let k = keep_mem (is_waiting (since_of since n) a) rs p.1 in
      let q = Memᴰ.of_map (row_at rs) (numbers 0 (length rs)) (subst (Memᴰ p.0) (sym (map_numbers (row 0 (pos 0) (pos 0) (pos 0) (pos 0)) rs)) k.0) in
      brought_by n a d rs q.0 q.1 (subst (λ r. T (is_waiting (since_of since n) a r)) (sym q.2) k.1) (subst (λ r. r.end +ℤ pos d ≡ e) (sym q.2) p.2)

  -- more rows have these ends too
  delayed_more : (x : ℤ) (op : Operator) (rs news : List Row) → Memᴰ e (delayed_ends x rs op) → Memᴰ e (delayed_ends x (rs ++ news) op)
  delayed_more x (event k) rs news m = m
  delayed_more x (related c a b) rs news m = m
  delayed_more x (or a b) rs news m = m
  delayed_more x (absence c a b) rs news m = m
  delayed_more x (lasting c a d) rs news m = m
  delayed_more x (nearest c a b) rs news m = m
  delayed_more x (after a d) rs news m =
      let p = Memᴰ.of_map (λ r. r.end +ℤ pos d) (keep (is_waiting x a) rs) m in
      Memᴰ.cast (sym p.2) (Memᴰ.map (λ r. r.end +ℤ pos d) (subst (Memᴰ p.0) (sym (keep_append (is_waiting x a) rs news)) (Memᴰ.append_left (keep (is_waiting x a) news) p.1)))

  delays_more : (n : ℕ) (ops : List Operator) (rs news : List Row) → Memᴰ e (delays_from n ops since rs) → Memᴰ e (delays_from n ops since (rs ++ news))
  delays_more n [] rs news m = m
  delays_more n (op ∷ ops) rs news m = elim (Memᴰ.append_cases (delayed_ends (since_of since n) rs op) m) as (λ z. Memᴰ e (delays_from n (op ∷ ops) since (rs ++ news))) [
    | inl k ↦ Memᴰ.append_left (delays_from (suc n) ops since (rs ++ news)) (delayed_more (since_of since n) op rs news k)
    | inr k ↦ Memᴰ.append_right (delayed_ends (since_of since n) (rs ++ news) op) (delays_more (suc n) ops rs news k)
  ]

  grown_from : (ops : List Operator) (n : ℕ) (rs : List Row) → Memᴰ e (delays_from n ops since rs) → length rs < length (extend_rows es (rules (ends_at since e) n ops) rs)
  unfolding extend_rows
  grown_from [] n rs m = absurd (Memᴰ.not-nil m)
  grown_from (op ∷ ops) n rs m = go (grown_from ops (suc n) (rs ++ news)) (Memᴰ.append_cases (delayed_ends (since_of since n) rs op) m)
    where
      news : List Row
      news = derived_rows (rule n op) es rs

      size : length (rs ++ news) ≡ length rs + length news
      size = length-append rs news

      go : (Memᴰ e (delays_from (suc n) ops since (rs ++ news)) → length (rs ++ news) < length (extend_rows es (rules (ends_at since e) (suc n) ops) (rs ++ news))) → Memᴰ e (delayed_ends (since_of since n) rs op) ⊎ Memᴰ e (delays_from (suc n) ops since rs) → length rs < length (extend_rows es (rules (ends_at since e) (suc n) ops) (rs ++ news))
      go ih (inl d) =
          let p = extend_more es (rules (ends_at since e) (suc n) ops) (rs ++ news) in
          let some : 0 < length news = brought n op rs d in
          omega (arith, size, ap length p.1, length-append (rs ++ news) p.0)
      go ih (inr k) = omega (arith, size, ih (delays_more (suc n) ops rs news k))

pub grown : (chart : List Operator) (since : List ℤ) (es : List Event) (rs : List Row) (e : ℤ) → Memᴰ e (due_ends [] chart since rs) → length rs < length (close_rows e es chart since rs)
unfolding close_rows due_ends
grown chart since es rs e m = grown_from since e es chart 0 rs m

-- the first instant of a list
module _ (o t : ℤ) (ot : o ≤ᶻ t) where
  record First (ds : List ℤ) (e : ℤ) : Type 0 where
    from : o ≤ᶻ e
    most : e ≤ᶻ t
    none : (d : ℤ) → Memᴰ d ds → o ≤ᶻ d → e ≤ᶻ d
    due : (e ≡ t) ⊎ Memᴰ e ds

  first_from_lem : (ds : List ℤ) → First ds (first_from o t ds)
  first_from_lem [] = record { from = ot; most = omega arith; none = λ d m. absurd (Memᴰ.not-nil m); due = inl refl }
  first_from_lem (d ∷ ds) = go (le_z o d) (λ h. le_z→ o d h) (λ h. nle_z→ o d h) (first_from_lem ds)
    where
      go : (b : Bool) → (T b → o ≤ᶻ d) → (T (not b) → d <ᶻ o) → First ds (first_from o t ds) → First (d ∷ ds) (cond b (least d (first_from o t ds)) (first_from o t ds))
      go true y n ih =
          let i = ih.from in
          let m = ih.most in
          let l = least_is d (first_from o t ds) in
          record {
            from = least_most (λ z. o ≤ᶻ z) d (first_from o t ds) (y tt) i;
            most = omega arith;
            none = λ x k h. elim (Memᴰ.cases_cons k) as (λ z. least d (first_from o t ds) ≤ᶻ x) [ inl q ↦ omega (arith, eq_fact q) | inr q ↦ omega (arith, ih.none x q h) ];
            due = least_most (λ z. (z ≡ t) ⊎ Memᴰ z (d ∷ ds)) d (first_from o t ds) (inr (Memᴰ.head refl)) (elim ih.due as (λ z. (first_from o t ds ≡ t) ⊎ Memᴰ (first_from o t ds) (d ∷ ds)) [ inl q ↦ inl q | inr q ↦ inr (Memᴰ.tail q) ]);
          }
      go false y n ih = record {
        from = ih.from;
        most = ih.most;
        none = λ x k h. elim (Memᴰ.cases_cons k) as (λ z. first_from o t ds ≤ᶻ x) [ inl q ↦ absurd (omega (arith, eq_fact q, n tt)) | inr q ↦ ih.none x q h ];
        due = elim ih.due as (λ z. (first_from o t ds ≡ t) ⊎ Memᴰ (first_from o t ds) (d ∷ ds)) [ inl q ↦ inl q | inr q ↦ inr (Memᴰ.tail q) ];
      }

module _ (chart : List Operator) (since : List ℤ) (es : List Event) where
  pub next_due_lem : (rs : List Row) (o t : ℤ) → o ≤ᶻ t → NextDue (due_ends es chart since rs) o t (next_due o t es chart since rs)
  unfolding next_due
  next_due_lem rs o t ot =
      let ds : List ℤ = due_ends es chart since rs in
      let e : ℤ = first_from o t ds in
      let f : First o t ot ds e = first_from_lem o t ot ds in
      record {
        from = →le_z o e f.from;
        most = →le_z e t f.most;
        none = λ d m h. →le_z e d (f.none d m (le_z→ o d h));
        due = λ l. elim f.due [ inl q ↦ absurd (omega (arith, eq_fact q, lt_z→ e t l)) | inr q ↦ q ];
      }

module _ (chart : List Operator) (since : List ℤ) (es : List Event) where
  -- of a instants the first k, at which nothing is due, before m others
  pub skip : (rs : List Row) (k m a : ℕ) (o : ℤ) → a ≡ k + m → EndBefore o rs → ((d : ℤ) → Memᴰ d (due_ends es chart since rs) → o ≤ᶻ d → d <ᶻ (o +ℤ pos k) → ⊥) → close_instants a o es chart since rs ≡ close_instants m (o +ℤ pos k) es chart since rs
  unfolding close_instants
  skip rs zero m a o size h none = ap (λ z. close_instants z o es chart since rs) (let s : a ≡ m = omega arith in s) ∙ ap (λ z. close_instants m z es chart since rs) (sym (add_none o))
  skip rs (suc k) m zero o size h none = absurd (omega arith)
  skip rs (suc k) m (suc a) o size h none =
      ap (close_instants a (o +ℤ pos 1) es chart since) (idle chart since es rs o (λ d. none o d (omega arith) (omega (arith, add_fact o (pos (suc k))))) (λ r n e. omega (arith, h r n, eq_fact e)))
      ∙ skip rs k m a (o +ℤ pos 1) (omega arith) (λ r n. omega (arith, h r n, add_fact o (pos 1))) (λ d n l u. none d n (omega (arith, add_fact o (pos 1))) (omega (arith, eq_fact (add_one_more o k)))) ∙ ap (λ z. close_instants m z es chart since rs) (add_one_more o k)

  pub jump : (n k : ℕ) (rs : List Row) (o t : ℤ) → EndBefore o rs → o +ℤ pos k ≡ t → k ≤ n → close_due n o t es chart since rs ≡ close_instants k o es chart since rs
  unfolding close_due close_instants
  jump zero zero rs o t h e l = refl
  jump zero (suc k) rs o t h e l = absurd (omega arith)
  jump (suc n) k rs o t h e l = go (jump n) (lt_z i t) refl
    where
      ot : o ≤ᶻ t
      ot = omega (arith, eq_fact e, add_fact o (pos k))

      i : ℤ
      i = next_due o t es chart since rs

      f : NextDue (due_ends es chart since rs) o t i
      f = next_due_lem chart since es rs o t ot

      j : ℕ
      j = instants_to o i

      is_i : o +ℤ pos j ≡ i
      is_i = instants_to_lem o i (le_z→ o i f.from)

      quiet : (d : ℤ) → Memᴰ d (due_ends es chart since rs) → o ≤ᶻ d → d <ᶻ i → ⊥
      quiet d m p q = let z : i ≤ᶻ d = le_z→ i d (f.none d m (→le_z o d p)) in omega arith

      go : ((k : ℕ) (rs : List Row) (o t : ℤ) → EndBefore o rs → o +ℤ pos k ≡ t → k ≤ n → close_due n o t es chart since rs ≡ close_instants k o es chart since rs) → (b : Bool) → lt_z i t ≡ b → cond b (close_due n (i +ℤ pos 1) t es chart since (close_rows i es chart since rs)) rs ≡ close_instants k o es chart since rs
      go ih true b =
          let q : ℕ = instants_to (i +ℤ pos 1) t in
          let it : i <ᶻ t = lt_true i t b in
          let w : i +ℤ pos 1 +ℤ pos q ≡ t = instants_to_lem (i +ℤ pos 1) t (omega (arith, add_fact i (pos 1))) in
          let size : k ≡ j + suc q = omega (arith, eq_fact w, eq_fact e, eq_fact is_i, add_fact o (pos k), add_fact o (pos j), add_fact i (pos 1), add_fact (i +ℤ pos 1) (pos q)) in
          ih q (close_rows i es chart since rs) (i +ℤ pos 1) t (closed_ends chart since es rs i (λ r m. omega (arith, h r m, le_z→ o i f.from))) w (omega arith)
          ∙ sym (skip rs j (suc q) k o size h (λ d m p u. quiet d m p (omega (arith, eq_fact is_i))) ∙ ap (λ z. close_instants (suc q) z es chart since rs) is_i)
      go ih false b = sym (skip rs k 0 k o (omega arith) h (λ d m p u. quiet d m p (omega (arith, eq_fact e, lt_false i t b))))
