-- The rivals of a pair that starts at the floor or later are in the listing of the instant at which its second part ends.
use Prim.Native.Nat.{ℕ}
use native.Mathlib.Omega.{arith}
use mathlib.Core.Path.{◌≡◌, ap₂, sym, subst}
use mathlib.Core.Bool.{Bool, not, ◌&&◌}
use mathlib.Core.List.{List}
use lib.Dec.{T, eqb, eqb→eq}
use lib.IntN.{ℤ}
use Rattle.interval.specs.declared.Relation.TheVariants.{Seq}
use Rattle.interval.specs.declared.Nearest.{Nearest}
use Rattle.interval.proofs.Signed.{◌≤ᶻ◌, holds→}
use Rattle.interval.proofs.Laws.{Between, second_between, first_between}
use Rattle.model.specs.Lists.{some}
use Rattle.model.specs.Recognitions.{Event, Operator, Recognition, entry_of, start_of, end_of, are_related, rivals_second, rivals_first, are_nearest, of_entry, recognitions}
use Rattle.model.specs.Order.{since_of, listing}
use Rattle.model.proofs.Sorted.{T-eq, keep_mem, mem_keep, some_mem, mem_some}
use Rattle.model.proofs.Local.{Proper}
use Rattle.model.proofs.Closing.{listing_lists}

module _ (chart : List Operator) (since : List ℤ) (es : List Event) (floor : ℤ) (r s : Recognition) (hr : Proper r) (hs : Proper s) (above : floor ≤ᶻ start_of r) where
  held : List Recognition
  held = listing chart since es floor (end_of s)

  all : List Recognition
  all = recognitions chart es

  -- one of all that lies between r and s is held
  some_held : (p : Recognition → Bool) → ((u : Recognition) → T (p u) → Between (start_of r) (end_of s) (start_of u) (end_of u)) → (a : ℕ) → since_of since a ≤ᶻ start_of r → some p (of_entry a held) ≡ some p (of_entry a all)
  unfolding held all
  some_held p f a counts = T-eq (some p (of_entry a held)) (some p (of_entry a all)) there back
    where
      there : T (some p (of_entry a held)) → T (some p (of_entry a all))
      there h =
          let w = some_mem p (of_entry a held) h in
          let k = keep_mem (λ t. eqb (entry_of t) a) held w.1 in
          mem_some p (of_entry a all) (mem_keep (λ t. eqb (entry_of t) a) all ((listing_lists chart since es floor (end_of s)).sound w.0 k.0) k.1) w.2

      back : T (some p (of_entry a all)) → T (some p (of_entry a held))
      back h =
          let w = some_mem p (of_entry a all) h in
          let k = keep_mem (λ t. eqb (entry_of t) a) all w.1 in
          let q = f w.0 w.2 in
          mem_some p (of_entry a held) (mem_keep (λ t. eqb (entry_of t) a) held ((listing_lists chart since es floor (end_of s)).full w.0 k.0 (omega (arith, q.start), subst (λ n. since_of since n ≤ᶻ start_of w.0) (sym (eqb→eq (entry_of w.0) a k.1)) (omega (arith, q.start)), q.end)) k.1) w.2

  pub rivals_held : (c : Nearest) (a b : ℕ) → since_of since a ≤ᶻ start_of r → since_of since b ≤ᶻ start_of r → are_nearest c (of_entry a (listing chart since es floor (end_of s))) (of_entry b (listing chart since es floor (end_of s))) r s ≡ are_nearest c (of_entry a (recognitions chart es)) (of_entry b (recognitions chart es)) r s
  unfolding held all
  rivals_held c a b ha hb =
      ap₂ (λ p q. are_related Seq r s && (not p && not q))
      (some_held (rivals_second r s) (λ u t. second_between (start_of r) (end_of r) (end_of s) (start_of u) (end_of u) hr (holds→ _ t)) b hb)
      (some_held (rivals_first c r s) (λ u t. first_between c (start_of r) (end_of r) (start_of s) (end_of s) (start_of u) (end_of u) hs (holds→ _ t)) a ha)
