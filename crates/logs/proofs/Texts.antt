-- The text of a log, and that text read back.
use Prim.Native.Nat.{ℕ, suc}
use mathlib.Core.Path.{◌≡◌, refl, sym, ap, ◌∙◌}
use mathlib.Core.Bool.{true}
use mathlib.Core.List.{List, [], ◌∷◌, ◌++◌, map}
use lib.IntN.{ℤ}
use Rattle.std.specs.Prelude.{Some}
use Rattle.text.proofs.Laws.{lines_none}
use Rattle.log_line.specs.Log.{call_in, calls_of, has_line}
use Rattle.log_line.specs.declared.Call.{Call}
use Rattle.log_line.specs.declared.Call.TheVariants as log
use Rattle.log_line.proofs.ReadBack.{lines_read_back}
use Rattle.logs.specs.Logs.{Item, code, mark, Group, items_of, opening_refusal, opened_by, opened_in, line_refusal, instant_after, lines_refusal, log_refusal, call_for, codes_first, groups_after, groups_from, log_of, marks_calls, log_calls, text_of, log_text}
use Rattle.logs.specs.Statements.{AreCodes, Follow, IsLog}
use Rattle.logs.proofs.Groups.{next_in}

-- calls that have lines
unfoldable pub HaveLines : List Call → Type 0
HaveLines [] = Unit {0}
HaveLines (c ∷ cs) = (has_line c ≡ true) × HaveLines cs

pub text_read : (cs : List Call) → HaveLines cs → calls_of (text_of cs) ≡ map Some cs
unfolding HaveLines text_of
text_read [] f = ap (map call_in) lines_none
text_read (c ∷ cs) f = lines_read_back c f.0 (text_of cs) ∙ ap (λ l. Some c ∷ l) (text_read cs f.1)

codes_have : (ks : List ℕ) (cs : List Call) → AreCodes ks → HaveLines cs → HaveLines (map log.Event ks ++ cs)
unfolding AreCodes HaveLines has_line
codes_have [] cs f g = g
codes_have (k ∷ ks) cs f g = (f.0, codes_have ks cs f.1 g)

marks_have : (t : ℤ) (gs : List Group) → Follow t gs → HaveLines (marks_calls gs)
unfolding Follow marks_calls HaveLines has_line
marks_have t [] f = tt
marks_have t (g ∷ gs) f = (next_in t g.instant f.0, codes_have g.codes (marks_calls gs) f.1 (marks_have g.instant gs f.2))

log_has : (gs : List Group) → IsLog gs → HaveLines (log_calls gs)
unfolding IsLog log_calls HaveLines has_line
log_has [] f = absurd f
log_has (g ∷ gs) f = (f.0, codes_have g.codes (marks_calls gs) f.1 (marks_have g.instant gs f.2))

pub log_read : (gs : List Group) → IsLog gs → calls_of (log_text gs) ≡ map Some (log_calls gs)
log_read gs f = text_read (log_calls gs) (log_has gs f)

-- the groups of the calls that a log is
codes_first_lem : (ks : List ℕ) (gs : List Group) → codes_first (items_of (map Some (map log.Event ks ++ marks_calls gs))) ≡ ks
unfolding items_of codes_first marks_calls
codes_first_lem [] [] = refl
codes_first_lem [] (g ∷ gs) = refl
codes_first_lem (k ∷ ks) gs = ap (λ l. k ∷ l) (codes_first_lem ks gs)

codes_after : (ks : List ℕ) (cs : List Call) → groups_after (items_of (map Some (map log.Event ks ++ cs))) ≡ groups_after (items_of (map Some cs))
unfolding items_of groups_after
codes_after [] cs = refl
codes_after (k ∷ ks) cs = codes_after ks cs

marks_after : (gs : List Group) → groups_after (items_of (map Some (marks_calls gs))) ≡ gs
unfolding items_of groups_after marks_calls
marks_after [] = refl
marks_after (g ∷ gs) = rw (codes_first_lem g.codes gs, codes_after g.codes (marks_calls gs), marks_after gs)

pub calls_log : (gs : List Group) → IsLog gs → log_of (map Some (log_calls gs)) ≡ gs
unfolding IsLog log_of log_calls opened_in opened_by items_of
calls_log [] f = absurd f
calls_log (g ∷ gs) f = rw (codes_first_lem g.codes gs, codes_after g.codes (marks_calls gs), marks_after gs)

-- they are taken
codes_taken : (t : ℤ) (n : ℕ) (ks : List ℕ) (cs : List Call) → ((m : ℕ) → (lines_refusal t m (map Some cs)).number ≡ 0) → (lines_refusal t n (map Some (map log.Event ks ++ cs))).number ≡ 0
unfolding lines_refusal line_refusal instant_after
codes_taken t n [] cs f = f n
codes_taken t n (k ∷ ks) cs f = codes_taken t (suc n) ks cs f

marks_taken : (t : ℤ) (gs : List Group) → Follow t gs → (n : ℕ) → (lines_refusal t n (map Some (marks_calls gs))).number ≡ 0
unfolding Follow marks_calls lines_refusal line_refusal instant_after
marks_taken t [] f n = refl
marks_taken t (g ∷ gs) f n = rw f.0 (codes_taken g.instant (suc n) g.codes (marks_calls gs) (marks_taken g.instant gs f.2))

pub calls_taken : (gs : List Group) → IsLog gs → (log_refusal (map Some (log_calls gs))).number ≡ 0
unfolding IsLog log_calls log_refusal opening_refusal opened_by
calls_taken [] f = absurd f
calls_taken (g ∷ gs) f = rw f.0 (codes_taken g.instant 2 g.codes (marks_calls gs) (marks_taken g.instant gs f.2))

-- the calls of the groups of items are those of the items
pub items_calls : (is : List Item) → map call_for is ≡ map log.Event (codes_first is) ++ marks_calls (groups_after is)
unfolding call_for codes_first groups_after marks_calls
items_calls [] = refl
items_calls (code k ∷ is) = ap (λ l. log.Event k ∷ l) (items_calls is)
items_calls (mark t ∷ is) = ap (λ l. log.Clock t ∷ l) (items_calls is)

pub from_calls : (o : ℤ) (is : List Item) → log_calls (groups_from o is) ≡ log.Open o ∷ map call_for is
unfolding log_calls
from_calls o is = ap (λ l. log.Open o ∷ l) (sym (items_calls is))
