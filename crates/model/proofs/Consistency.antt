-- The rows of a listing, and the watch of every history, are consistent.
use Prim.Native.Nat.{ℕ, zero, suc, ◌+◌, ◌<◌, ◌≤◌}
use native.Mathlib.Omega.{arith}
use mathlib.Core.Path.{◌≡◌, refl, sym, ap, ap₂, ◌∙◌, subst, subst₂}
use mathlib.Core.Logic.{inl, inr}
use mathlib.Core.Bool.{Bool, true, false, ◌&&◌, ◌||◌}
use mathlib.Core.List.{List, [], ◌∷◌, map, Memᴰ}
use borrow.Author.Tests.{lt-ltb, le-leb, eq-eqb}
use lib.Dec.{T}
use lib.IntN.{ℤ, pos}
use lib.ListN.{length, length-map}
use lib.Signed.{le_z}
use Rattle.interval.specs.Instants.{is_instant, first_floor, eq_z, least, greatest}
use Rattle.interval.specs.Conditions.{is_related, has_length}
use Rattle.interval.specs.declared.Relation.{Relation}
use Rattle.interval.specs.declared.Relation.TheVariants.{Seq}
use Rattle.interval.proofs.Signed.{◌≤ᶻ◌, eq_fact, is_lt, is_le, eq_same, holds→}
use Rattle.model.specs.Lists.{every, keep, numbers}
use Rattle.model.specs.Recognitions.{Event, Operator, event, related, or, absence, lasting, after, nearest, Arm, only, left, right, delayed, Recognition, of_one, of_two, entry_of, start_of, end_by, end_of, recognitions}
use Rattle.model.specs.Order.{before, since_of, listing, Row, row, place, as_row, as_rows}
use Rattle.model.specs.Reference.{Model, is_at}
use Rattle.model.specs.RowSteps.{Node, fits, row_at, shown}
use Rattle.model.specs.Consistency.{refers, spans_one, spans_two, agrees, agrees_at, is_ordered, is_row_consistent, are_rows_consistent, is_rising, is_consistent}
use Rattle.model.specs.Statements.{OperatorAt}
use Rattle.model.proofs.Order.{lex, lex_cases, before→lex}
use Rattle.model.proofs.Trees.{tree, trees}
use Rattle.model.proofs.Made.{Two, Made}
use Rattle.model.proofs.Local.{Chart}
use Rattle.model.proofs.Extend.{recs_from}
use Rattle.model.proofs.Leaves.{leaves_mem}
use Rattle.model.proofs.Place.{place_at, get_d_mem}
use Rattle.model.proofs.Rows.{nil, nth, numbers_mem, row_entry, row_start, row_end}
use Rattle.model.proofs.Closing.{Lists, Due, Rises, listing_lists, key_front}
use Rattle.model.proofs.Follow.{row_at_lem, sorted_at, map_at, parts_earlier}
use Rattle.model.proofs.History.{Good, good_rises, pending_is, count_is}

both : {a b : Bool} → a ≡ true → b ≡ true → (a && b) ≡ true
both p q = ap₂ ◌&&◌ p q

first : {a : Bool} (b : Bool) → a ≡ true → (a || b) ≡ true
first b p = ap (λ z. z || b) p

every_all : {A : Type 0} (p : A → Bool) (xs : List A) → ((x : A) → Memᴰ x xs → p x ≡ true) → every p xs ≡ true
every_all p [] h = refl
every_all p (x ∷ xs) h = both (h x (mathlib.Core.List.Memᴰ.head refl)) (every_all p xs (λ y m. h y (mathlib.Core.List.Memᴰ.tail m)))

equal : {a b : ℤ} → a ≡ b → eq_z a b ≡ true
equal {a} e = subst (λ z. eq_z a z ≡ true) e (eq_same a)

before_end : (t u : Recognition) → T (before t u) → end_of t ≤ᶻ end_of u
before_end t u h = elim (lex_cases (end_of t) (end_of u) (pos (entry_of t) ∷ (key_front t).0) (pos (entry_of u) ∷ (key_front u).0) (subst₂ (λ a b. T (lex a b)) (key_front t).1 (key_front u).1 (before→lex t u h))) [ inl l ↦ omega arith | inr l ↦ omega (arith, eq_fact l.0) ]

module _ (ops : List Operator) (c : Chart 0 ops) (since : List ℤ) (rises : Rises ops since) (es : List Event) (count : ℕ) (serials : (e : Event) → Memᴰ e es → (1 ≤ e.serial) × (e.serial ≤ count)) (f o : ℤ) where
  abbrev L : List Recognition
  L = listing ops since es f o

  abbrev R : List Row
  R = as_rows L

  l : Lists (Due since f o) L (recognitions ops es)
  l = listing_lists ops since es f o

  -- a reference to a part
  refer : (i : ℕ) (r : Row) (u : Recognition) (a : ℕ) (p : Row → Bool) → Memᴰ u L × (place L u < i) → entry_of u ≡ a → p (as_row L u) ≡ true → refers count R i r (pos (place L u)) a p ≡ true
  refer i r u a p k e q =
      let w : row_at R (place L u) ≡ as_row L u = row_at_lem ops c since rises es f o u k.0 in
      both (lt-ltb (place L u) i k.1) (both (eq-eqb (row_at R (place L u)).entry a (ap (λ z. z.entry) w ∙ row_entry L u ∙ e)) (subst (λ z. p z ≡ true) (sym w) q))

  spans_one_lem : (i n : ℕ) (m : Arm) (u : Recognition) → spans_one count R i (as_row L (of_one n m u)) m (as_row L u) ≡ true
  spans_one_lem i n m u = both (equal (sym (row_start L u))) (equal (ap (end_by m) (sym (row_end L u))))

  spans_two_lem : (k : Relation) (i n : ℕ) (u v : Recognition) → T (is_related k (start_of u) (end_of u) (start_of v) (end_of v)) → spans_two count R i (as_row L (of_two n u v)) k (as_row L u) (as_row L v) ≡ true
  spans_two_lem k i n u v h =
      both (equal (ap₂ least (sym (row_start L u)) (sym (row_start L v)))) (both (equal (ap₂ greatest (sym (row_end L u)) (sym (row_end L v))))
      (subst₂ (λ z w. is_related k z w (as_row L v).start (as_row L v).end ≡ true) (sym (row_start L u)) (sym (row_end L u)) (subst₂ (λ z w. is_related k (start_of u) (end_of u) z w ≡ true) (sym (row_start L v)) (sym (row_end L v)) (holds→ _ h))))

  single : (n : ℕ) (m : Arm) (a : ℕ) (u : Recognition) (p : Row → Bool) → entry_of u ≡ a → (k : Memᴰ (of_one n m u) L) → p (as_row L u) ≡ true → refers count R (place L (of_one n m u)) (as_row L (of_one n m u)) (pos (place L u)) a p ≡ true
  single n m a u p e k q = refer (place L (of_one n m u)) (as_row L (of_one n m u)) u a p (parts_earlier ops c since rises es f o (of_one n m u) k) e q

  abbrev Agrees : ℕ → Operator → Node Recognition → Type 0
  Agrees n op x = Memᴰ (tree n x) L → agrees count R (place L (tree n x)) (as_row L (tree n x)) op ≡ true

  agree_two : (n : ℕ) (k : Relation) (a b : ℕ) (x : Node Recognition) → Two trees (fits trees k) a b (recognitions ops es) x → Agrees n (related k a b) x
  agree_two n k a b x q = subst (Agrees n (related k a b)) (sym q.is) (λ m.
      let i = place L (of_two n q.l q.r) in
      let w = as_row L (of_two n q.l q.r) in
      let p = parts_earlier ops c since rises es f o (of_two n q.l q.r) m in
      refer i w q.l a (λ z. refers count R i w (pos (place L q.r)) b (spans_two count R i w k z)) p.0 q.hasl.entry
      (refer i w q.r b (spans_two count R i w k (as_row L q.l)) p.1 q.hasr.entry (spans_two_lem k i n q.l q.r q.ok)))

  agree : (n : ℕ) (op : Operator) (x : Node Recognition) → Made trees op es (recognitions ops es) x → Agrees n op x
  agree n (event k) x q =
      let w = leaves_mem k es x q in
      let h = serials w.e w.there in
      subst (Agrees n (event k)) (sym w.is) (λ m. both (both (le-leb 1 w.e.serial h.0) (le-leb w.e.serial count h.1)) (eq_same w.e.instant))
  agree n (related k a b) x q = agree_two n k a b x q
  agree n (nearest k a b) x q = agree_two n Seq a b x q.two
  agree n (or a b) x (inl q) = subst (Agrees n (or a b)) (sym q.is) (λ m. first false (both (single n left a q.r (spans_one count R (place L (of_one n left q.r)) (as_row L (of_one n left q.r)) left) q.hasr.entry m (spans_one_lem (place L (of_one n left q.r)) n left q.r)) refl))
  agree n (or a b) x (inr q) = subst (Agrees n (or a b)) (sym q.is) (λ m. single n right b q.r (spans_one count R (place L (of_one n right q.r)) (as_row L (of_one n right q.r)) right) q.hasr.entry m (spans_one_lem (place L (of_one n right q.r)) n right q.r))
  agree n (absence k a b) x q = subst (Agrees n (absence k a b)) (sym q.is) (λ m. both (single n only a q.r (spans_one count R (place L (of_one n only q.r)) (as_row L (of_one n only q.r)) only) q.hasr.entry m (spans_one_lem (place L (of_one n only q.r)) n only q.r)) refl)
  agree n (after a d) x q = subst (Agrees n (after a d)) (sym q.is) (λ m. both (single n (delayed d) a q.r (spans_one count R (place L (of_one n (delayed d) q.r)) (as_row L (of_one n (delayed d) q.r)) (delayed d)) q.hasr.entry m (spans_one_lem (place L (of_one n (delayed d) q.r)) n (delayed d) q.r)) refl)
  agree n (lasting k a d) x q = subst (Agrees n (lasting k a d)) (sym q.is) (λ m. both
      (single n only a q.r (λ z. spans_one count R (place L (of_one n only q.r)) (as_row L (of_one n only q.r)) only z && has_length k d z.start z.end) q.hasr.entry m
      (both (spans_one_lem (place L (of_one n only q.r)) n only q.r) (subst₂ (λ z w. has_length k d z w ≡ true) (sym (row_start L q.r)) (sym (row_end L q.r)) (holds→ _ q.ok)))) refl)

  agrees_at_lem : (os : List Operator) (n : ℕ) (op : Operator) (i : ℕ) (r : Row) → OperatorAt os n op → agrees count R i r op ≡ true → agrees_at count R i r os n ≡ true
  agrees_at_lem [] n op i r a h = absurd a
  agrees_at_lem (p ∷ os) zero op i r a h = subst (λ z. agrees count R i r z ≡ true) (sym a) h
  agrees_at_lem (p ∷ os) (suc n) op i r a h = agrees_at_lem os n op i r a h

  row_consistent : (t : Recognition) → Memᴰ t L → agrees_at count R (place L t) (row_at R (place L t)) ops (row_at R (place L t)).entry ≡ true
  row_consistent t m =
      let q = recs_from ops c es t (l.sound t m) in
      let w : row_at R (place L t) ≡ as_row L t = row_at_lem ops c since rises es f o t m in
      subst (λ z. agrees_at count R (place L t) z ops z.entry ≡ true) (sym w) (subst (λ z. agrees_at count R (place L t) (as_row L t) ops z ≡ true) (sym (row_entry L t))
      (agrees_at_lem ops (entry_of t) q.operator (place L t) (as_row L t) q.at (subst (λ z. agrees count R (place L z) (as_row L z) q.operator ≡ true) (sym q.is) (agree (entry_of t) q.operator q.x q.made (subst (λ z. Memᴰ z L) q.is m)))))

  pub rows_consistent : are_rows_consistent ops since f o count R ≡ true
  unfolding are_rows_consistent
  rows_consistent = every_all (is_row_consistent ops since f o count R) (numbers 0 (length R)) (λ i m. one i (let p : i < 0 + length R = numbers_mem 0 (length R) i m in let q : length R ≡ length L = length-map L (as_row L) in omega arith))
    where
      row_of : (i : ℕ) → i < length L → row_at R i ≡ as_row L (nth L i)
      row_of i h = map_at (as_row L) (row 0 (pos 0) (pos 0) (pos 0) (pos 0)) nil L i h

      in_order : (i : ℕ) → i < length L → is_ordered R i ≡ true
      in_order zero h = refl
      in_order (suc i) h =
          let p : i < length L = omega arith in
          is_le (row_at R i).end (row_at R (suc i)).end (omega (arith, eq_fact (ap (λ z. z.end) (row_of i p) ∙ row_end L (nth L i)), eq_fact (ap (λ z. z.end) (row_of (suc i) h) ∙ row_end L (nth L (suc i))), before_end (nth L i) (nth L (suc i)) (sorted_at nil L i (suc i) l.sorted (omega arith) h)))

      counts : (i : ℕ) → i < length L → Due since f o (nth L i) → le_z (since_of since (row_at R i).entry) (row_at R i).start ≡ true
      counts i h d = subst₂ (λ n z. le_z (since_of since n) z ≡ true) (sym (ap (λ z. z.entry) (row_of i h) ∙ row_entry L (nth L i))) (sym (ap (λ z. z.start) (row_of i h) ∙ row_start L (nth L i))) (is_le (since_of since (entry_of (nth L i))) (start_of (nth L i)) d.1)

      one : (i : ℕ) → i < length L → is_row_consistent ops since f o count R i ≡ true
      one i h =
          let t : Recognition = nth L i in
          let m : Memᴰ t L = get_d_mem nil L i h in
          let d = l.holds t m in
          both (is_le f (row_at R i).start (omega (arith, eq_fact (ap (λ z. z.start) (row_of i h) ∙ row_start L t), d.0))) (both (counts i h d) (both (is_lt (row_at R i).end o (omega (arith, eq_fact (ap (λ z. z.end) (row_of i h) ∙ row_end L t), d.2))) (both (in_order i h)
          (subst (λ k. agrees_at count R k (row_at R k) ops (row_at R k).entry ≡ true) (place_at nil L i l.sorted h) (row_consistent t m)))))

numbers_low : (a n i : ℕ) → Memᴰ i (numbers a n) → a ≤ i
numbers_low a zero i m = absurd (mathlib.Core.List.Memᴰ.not-nil m)
numbers_low a (suc n) i m = elim (mathlib.Core.List.Memᴰ.cases_cons m) [ inl e ↦ omega arith | inr k ↦ (let l : suc a ≤ i = numbers_low (suc a) n i k in omega arith) ]

-- the serials of a history are 1 to the count
pub good_serials : {capacity : ℕ} {m : Model} → Good capacity m → (e : Event) → Memᴰ e m.events → (1 ≤ e.serial) × (e.serial ≤ length m.events)
good_serials {m = m} g e k =
    let p : Memᴰ e.serial (numbers 1 (length m.events)) = subst (Memᴰ e.serial) g.serials (mathlib.Core.List.Memᴰ.map (λ z. z.serial) k) in
    let q : e.serial < 1 + length m.events = numbers_mem 1 (length m.events) e.serial p in
    (numbers_low 1 (length m.events) e.serial p, omega arith)

pub good_consistent : (capacity : ℕ) (m : Model) → Good capacity m → is_consistent capacity (shown m) ≡ true
unfolding is_consistent shown
good_consistent capacity m g =
    both (holds→ (is_instant m.open_instant) g.open_range) (both (holds→ (is_instant m.floor) g.floor_range) (both (is_le m.floor m.open_instant g.low)
    (both (eq-eqb _ _ g.entries) (both (holds→ (is_rising first_floor m.open_instant m.since) g.rising)
    (both (le-leb _ 64 few) (both (le-leb _ (length m.events) fewer) (both (le-leb (length m.events) 1000000 g.count)
    (both (le-leb _ capacity fits) (rows_consistent m.chart g.lower m.since (good_rises g) m.events (length m.events) (good_serials g) m.floor m.open_instant)))))))))
  where
    ks : List ℕ
    ks = map (λ e. e.code) (keep (is_at m.open_instant) m.events)

    few : length ks ≤ 64
    few =
        let p : length ks ≡ length (keep (is_at m.open_instant) m.events) = length-map (keep (is_at m.open_instant) m.events) (λ e. e.code) in
        let q : length (keep (is_at m.open_instant) m.events) ≤ 64 = g.few in
        omega arith

    fewer : length ks ≤ length m.events
    fewer =
        let p : length ks ≡ length g.pending = ap length (pending_is g) in
        let q = count_is g in
        omega arith

    ts : List Recognition
    ts = listing m.chart m.since m.events m.floor m.open_instant

    fits : length (as_rows ts) ≤ capacity
    fits =
        let p : length (as_rows ts) ≡ length ts = length-map ts (as_row ts) in
        let q : length ts ≤ capacity = g.fits in
        omega arith
