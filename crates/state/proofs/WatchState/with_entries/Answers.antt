-- `with_entries` meets its contract: the instants are put in the place of as many.
use Prim.Native.Nat.{ℕ, ◌+◌, ◌-◌, ◌≤◌}
use native.Mathlib.Omega.{arith}
use mathlib.Core.Path.{◌≡◌, sym, ap, ◌∙◌}
use mathlib.Core.List.{List, ◌++◌, append_assoc}
use mir.Syntax.{w32}
use mir.Val.{SFits}
use lib.IntN.{ℤ}
use lib.ListN.{length, take, drop, replicate, length-drop, length-replicate}
use lib.Seq.{sets, sets-eq, length-take-le}
use borrow.Author.Rules.{rules}
use borrow.Rule.Slice.PartMut.{put_mid}
use Rattle.std.proofs.lemmas.Slice.{put_mid-paste}
use Rattle.std.proofs.lemmas.List.Edits.{paste_all}
use Rattle.interval.proofs.Machine.{same32}
use Rattle.state.proofs.WatchState.with_entries.Goals as goal

filled : (since part : List ℤ) (at n : ℕ) (x : ℤ) → at + n ≤ length since → part ≡ replicate (length (take (at + n - at) (drop at since))) x → put_mid at (at + n - at) since part ≡ sets since at (replicate n x)
filled since part at n x room e =
    let new = replicate n x in
    let more : at + n - at ≡ n = omega arith in
    let size : length new ≡ n = length-replicate n x in
    let all : part ≡ new = e ∙ ap (λ m. replicate m x) (length-take-le (at + n - at) (drop at since) (omega (arith, length-drop at since)) ∙ more) in
    let end : at + n ≡ at + length new = omega arith in
    put_mid-paste at (at + n - at) since part new n all (sym more) (sym size)
    ∙ paste_all since at new n (sym size)
    ∙ ap (λ m. take at since ++ (new ++ drop m since)) end
    ∙ sym (append_assoc (take at since) new (drop (at + length new) since))
    ∙ sym (sets-eq new since at (omega arith))

pub returns : goal.returns
returns c =
    let w = c.args.self in
    let instant : SFits w32 w.instant = search rules in
    let floor : SFits w32 w.floor = search rules in
    let room : w.entries + c.args.n ≤ length w.since = search rules in
    let part = rw (same32 _ c.ranges.x) at (c.fill.ensures.after (λ y e. e)) in
    simp (filled w.since c.fill.new.self w.entries c.args.n c.args.x room part, same32 _ instant, same32 _ floor)
