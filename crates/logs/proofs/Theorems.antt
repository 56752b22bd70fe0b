-- The statement of specs/Statements.antt.
use native.Mathlib.Omega.{arith}
use mathlib.Core.Path.{◌≡◌, sym, ap, ◌∙◌, subst}
use mathlib.Core.Bool.{false}
use mathlib.Core.List.{List, [], ◌∷◌}
use lib.IntN.{ℤ, negsuc}
use lib.Signed.{lt_z}
use Rattle.interval.proofs.Signed.{signed, not_lt, is_lt}
use Rattle.log_line.specs.Log.{calls_of}
use Rattle.logs.specs.Logs.{Group, merge, merge_with, log_refusal, log_of, log_text}
use Rattle.logs.specs.Statements.{Follow, IsLog, MergesLogs, MergeHolds}
use Rattle.logs.proofs.Groups.{merge_is, merged_follow, merged_codes, merged_instants, merged_events, codes_append, next_of}
use Rattle.logs.proofs.Items.{taken_log, taken_is_log}
use Rattle.logs.proofs.Texts.{log_read, calls_log, calls_taken}

-- an instant below all
abbrev below : ℤ
below = negsuc 1000000000

log_follows : (gs : List Group) → IsLog gs → Follow below gs
unfolding IsLog Follow
log_follows [] f = absurd f
log_follows (g ∷ gs) f = (next_of below g.instant f.0 (is_lt below g.instant (omega (arith, signed, f.0))), f.1, f.2)

-- the text of a log
pub text_taken : (gs : List Group) → IsLog gs → (log_refusal (calls_of (log_text gs))).number ≡ 0
text_taken gs f = ap (λ cs. (log_refusal cs).number) (log_read gs f) ∙ calls_taken gs f

pub text_log : (gs : List Group) → IsLog gs → log_of (calls_of (log_text gs)) ≡ gs
text_log gs f = ap log_of (log_read gs f) ∙ calls_log gs f

-- two logs of one opening
pub merged_log : (a b : Group) (as₀ bs : List Group) → IsLog (a ∷ as₀) → IsLog (b ∷ bs) → a.instant ≡ b.instant → IsLog (merge (a ∷ as₀) (b ∷ bs))
unfolding IsLog merge merge_with
merged_log a b as₀ bs f g e =
    let same : lt_z a.instant b.instant ≡ false = ap (lt_z a.instant) (sym e) ∙ not_lt a.instant a.instant (omega arith) in
    let back : lt_z b.instant a.instant ≡ false = ap (λ z. lt_z z a.instant) (sym e) ∙ not_lt a.instant a.instant (omega arith) in
    rw (same, back) (f.0, codes_append a.codes b.codes f.1 g.1, merged_follow a.instant (merge_is as₀ bs) f.2 (subst (λ z. Follow z bs) (sym e) g.2))

pub merges_logs : (a b : Group) (as₀ bs : List Group) → IsLog (a ∷ as₀) → IsLog (b ∷ bs) → a.instant ≡ b.instant → MergesLogs (a ∷ as₀) (b ∷ bs) (merge (a ∷ as₀) (b ∷ bs))
merges_logs a b as₀ bs f g e =
    let m = merge_is (a ∷ as₀) (b ∷ bs) in
    let l = merged_log a b as₀ bs f g e in
    record {
      log = l;
      codes = λ t. merged_codes t below m (log_follows (a ∷ as₀) f);
      instants = λ t. merged_instants t m;
      events = merged_events m;
      taken = text_taken (merge (a ∷ as₀) (b ∷ bs)) l;
      read = text_log (merge (a ∷ as₀) (b ∷ bs)) l;
    }

pub merge_holds : MergeHolds
unfolding log_of
merge_holds x y t =
    let f = taken_log x t.first in
    let g = taken_log y t.second in
    merges_logs _ _ _ _ (taken_is_log x f) (taken_is_log y g) t.opened
