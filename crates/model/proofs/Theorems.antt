-- The statements of specs/Statements.antt, proved.
use Prim.Native.Nat.{suc, ◌+◌, ◌<◌}
use native.Mathlib.Omega.{arith}
use mathlib.Core.Path.{◌≡◌, refl, sym, ap, ◌∙◌, subst}
use mathlib.Core.Logic.{◌⊎◌, inl, inr}
use mathlib.Core.Bool.{not}
use mathlib.Core.List.Memᴰ
use mathlib.Core.List.{List, [], ◌∷◌, ◌++◌, Memᴰ}
use lib.Dec.{T}
use lib.ListN.{length, get_or, length-append}
use lib.Seq.{get_or-append_seam}
use Rattle.interval.specs.Instants.{first_floor}
use Rattle.interval.proofs.Signed.{lt_z→, →lt_z, le_z→, →le_z, →holds}
use Rattle.model.specs.Recognitions.{Recognition, entry_of, start_of, end_of}
use Rattle.model.specs.Order.{before, since_of, listing, place, as_rows}
use Rattle.model.specs.Reference.{opening, run, numbers_of}
use Rattle.model.specs.RowSteps.{instants_to, watch_step}
use Rattle.model.specs.Consistency.{is_consistent}
use Rattle.model.specs.Statements.{Reads, IsRecognition, RecognitionHolds, RecognitionUnique, StrictOrder, ListingHolds, ListingUnique, FloorHolds, AdditionHolds, LaterEventHolds, RivalsHold, Played, model_of, EntriesHold, ReferencesHold, SerialsHold, HistoryHolds, IdleHolds, NextDueHolds, JumpHolds, GrowthHolds, ConsistencyHolds}
use Rattle.model.proofs.Sorted.{same, T-em}
use Rattle.model.proofs.Order.{before_irrefl, before_trans, before_total}
use Rattle.model.proofs.Local.{Chart, Proper, chart_lower, lower_chart}
use Rattle.model.proofs.Extend.{recs_proper}
use Rattle.model.proofs.Windows.{event_same}
use Rattle.model.proofs.Meaning.{recognition_listed, recognition_line, recognition_only}
use Rattle.model.proofs.Place.{place_at}
use Rattle.model.proofs.Rows.{nil}
use Rattle.model.proofs.Closing.{listing_lists}
use Rattle.model.proofs.Rivals.{rivals_held}
use Rattle.model.proofs.Listing.{listing_floor, listing_add}
use Rattle.model.proofs.Since.{rising_at}
use Rattle.model.proofs.History.{Good, good_run, good_opening, opening_shown, history_from, instants_to_lem}
use Rattle.model.proofs.Jump.{idle, next_due_lem, jump, grown}
use Rattle.model.proofs.Follow.{reads}
use Rattle.model.proofs.Consistency.{good_consistent}

pub recognition_is : RecognitionHolds
recognition_is chart h = recognition_line chart (chart_lower 0 chart h)

pub recognition_unique : RecognitionUnique
recognition_unique chart h = recognition_only chart (chart_lower 0 chart h)

pub order_strict : StrictOrder before
order_strict = record { irreflexive = before_irrefl; transitive = before_trans; total = λ t u. one_of t u (T-em (before t u)) (T-em (before u t)) }
  where
    one_of : (t u : Recognition) → T (before t u) ⊎ T (not (before t u)) → T (before u t) ⊎ T (not (before u t)) → T (before t u) ⊎ (t ≡ u) ⊎ T (before u t)
    one_of t u (inl h) k = inl h
    one_of t u (inr h) (inl k) = inr (inr k)
    one_of t u (inr h) (inr k) = inr (inl (before_total t u h k))

pub listing_is : ListingHolds
listing_is chart h since es f o =
    let l = listing_lists chart since es f o in
    let r = recognition_listed chart (chart_lower 0 chart h) es in
    record {
      increasing = l.sorted;
      members = λ t. (λ m. ((r t).1 (l.sound t m), →le_z f (start_of t) (l.holds t m).0, →le_z (since_of since (entry_of t)) (start_of t) (l.holds t m).1, →lt_z (end_of t) o (l.holds t m).2), λ k. l.full t ((r t).0 k.0) (le_z→ f (start_of t) k.1, le_z→ (since_of since (entry_of t)) (start_of t) k.2, lt_z→ (end_of t) o k.3));
    }

pub listing_unique : ListingUnique
listing_unique chart since es f o ts us h k = same before before_irrefl before_trans ts us h.increasing k.increasing (λ t m. (k.members t).1 ((h.members t).0 m)) (λ t m. (h.members t).1 ((k.members t).0 m))

pub floor_leaves_out : FloorHolds
floor_leaves_out chart h = listing_floor chart (chart_lower 0 chart h)

pub addition : AdditionHolds
addition = listing_add

pub later_event : LaterEventHolds
later_event chart h es e o late t end =
    let c : Chart 0 chart = chart_lower 0 chart h in
    let q = event_same chart c es e o (le_z→ o e.instant late) t (lt_z→ (end_of t) o end) in
    (λ r. (recognition_listed chart c es t).1 (q.1 ((recognition_listed chart c (es ++ e ∷ []) t).0 r)), λ r. (recognition_listed chart c (es ++ e ∷ []) t).1 (q.0 ((recognition_listed chart c es t).0 r)))

pub rivals : RivalsHold
rivals chart h since es f c a b r s hr hs above ha hb =
    let proper : (t : Recognition) → IsRecognition chart es t → Proper t = λ t k. recs_proper chart es t ((recognition_listed chart (chart_lower 0 chart h) es t).0 k) in
    rivals_held chart since es f r s (proper r hr) (proper s hs) (le_z→ f (start_of r) above) c a b (le_z→ (since_of since a) (start_of r) ha) (le_z→ (since_of since b) (start_of r) hb)

pub references : ReferencesHold
references chart h since n es f o w us vs t e = subst (λ i. Reads (as_rows ts) i t) place_is (reads chart (chart_lower 0 chart h) since (λ a k l m. rising_at first_floor o since w a k l (omega arith)) es f o t (subst (Memᴰ t) (sym e) (Memᴰ.append_right us (Memᴰ.head refl))))
  where
    ts : List Recognition
    ts = listing chart since es f o

    low : length us < length ts
    low = let p : length ts ≡ length us + suc (length vs) = ap length e ∙ length-append us (t ∷ vs) in omega arith

    place_is : place ts t ≡ length us
    place_is = subst (λ u. place ts u ≡ length us) (ap (λ ts. get_or ts (length us) nil) e ∙ get_or-append_seam us t vs nil) (place_at nil ts (length us) (listing_lists chart since es f o).sorted low)

-- the reference model of a history is as it must be
good : (p : Played) → Good p.capacity (model_of p)
good p = good_run p.read p.reader p.capacity p.calls (opening p.chart p.open_at).state (good_opening p.capacity p.chart (chart_lower 0 p.chart p.lower) p.open_at)

pub entries : EntriesHold
entries p = let g = good p in record { lower = lower_chart 0 (model_of p).chart g.lower; many = g.entries; rising = g.rising }

pub serials : SerialsHold
serials p = (good p).serials

pub history : HistoryHolds
history p =
    let e = opening_shown p.chart p.open_at in
    let r = history_from p.read p.reader p.capacity p.calls (opening p.chart p.open_at).state (good_opening p.capacity p.chart (chart_lower 0 p.chart p.lower) p.open_at) in
    record { opened = ap (λ a. a.number) e; state = ap (λ a. run (watch_step p.read p.capacity) a.state p.calls) e ∙ r.0; answers = ap (λ a. numbers_of (watch_step p.read p.capacity) a.state p.calls) e ∙ r.1 }

pub idle_instant : IdleHolds
idle_instant = idle

pub next_due_instant : NextDueHolds
next_due_instant chart since es rs o t h = next_due_lem chart since es rs o t (le_z→ o t h)

pub jumps : JumpHolds
jumps chart since es rs o t h ot n l = jump chart since es n (instants_to o t) rs o t (λ r m. lt_z→ r.end o (h r m)) (instants_to_lem o t (le_z→ o t ot)) l

pub delayed_end_grows : GrowthHolds
delayed_end_grows = grown

pub consistent : ConsistencyHolds
consistent p = →holds _ (ap (is_consistent p.capacity) (history p).state ∙ good_consistent p.capacity (model_of p) (good p))
