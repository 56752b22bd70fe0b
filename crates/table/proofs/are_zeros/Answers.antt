-- `are_zeros` meets its contract: the fold is the test of each number.
use Rattle.std.proofs.Common.{◌≡◌, ◌∙◌, ◌&&◌, refl, sym, Bool, ℤ, pos, rules, tests, ap}
use Rattle.std.proofs.lemmas.Fn.{fold_over, slice_gives, fronts}
use Rattle.std.proofs.lemmas.List.Recursion.{and_push}
use Rattle.std.proofs.lemmas.Slice.{between_is}
use Rattle.interval.specs.Instants.{eq_z}
use Rattle.model.specs.Lists.{every}
use Rattle.table.specs.Table.{are_zeros}
use Rattle.table.proofs.are_zeros.Goals as goal

abbrev is_zero : ℤ → Bool
is_zero z = eq_z z (pos 0)

pub returns : goal.returns
unfolding are_zeros
returns c =
    let all : c.fold.result ≡ every is_zero c.iter.result.rest.now =
    fold_over fronts (λ (y : _). y.now) _ (λ xs b. b ≡ every is_zero xs) _
    (λ xs a x b f h k.
    let one : b ≡ (a && is_zero x.now) = search (rules, tests) in
    (one ∙ ap (λ w. w && is_zero x.now) h ∙ sym (and_push (every is_zero) is_zero refl (λ y ys. refl) xs x.now), search rules))
    c.iter.result _ _ _ (slice_gives c.iter.result) refl c.fold.ensures.ran in
    all ∙ ap (every is_zero) (c.iter.ensures.rest ∙ between_is c.args.t.now c.args.a c.args.e)
