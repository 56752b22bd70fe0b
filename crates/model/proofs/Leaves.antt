-- The events of a code, as leaves.
use Prim.Native.Nat.{ℕ}
use mathlib.Core.Path.{◌≡◌, sym, ap, ◌∙◌, subst}
use mathlib.Core.List.Memᴰ
use mathlib.Core.List.{List, ◌++◌, map, map-append, Memᴰ}
use lib.Dec.{T, eqb, eqb→eq, eqb_refl}
use Rattle.model.specs.Lists.{keep}
use Rattle.model.specs.Recognitions.{Event}
use Rattle.model.specs.RowSteps.{Node, leaf, leaves}
use Rattle.model.proofs.Sorted.{keep_mem, mem_keep, keep_append}

module _ {A : Type 0} where
  abbrev leaf_of : Event → Node A
  leaf_of e = leaf e.serial e.instant

  pub leaves_append : (k : ℕ) (es fs : List Event) → leaves {A = A} k (es ++ fs) ≡ leaves k es ++ leaves k fs
  leaves_append k es fs = ap (map leaf_of) (keep_append (λ e. eqb e.code k) es fs) ∙ map-append leaf_of (keep (λ e. eqb e.code k) es) (keep (λ e. eqb e.code k) fs)

  pub record IsLeaf (k : ℕ) (es : List Event) (x : Node A) : Type 0 where
    pub e : Event
    pub is : x ≡ leaf e.serial e.instant
    pub code : e.code ≡ k
    pub there : Memᴰ e es

  pub leaves_mem : (k : ℕ) (es : List Event) (x : Node A) → Memᴰ x (leaves k es) → IsLeaf k es x
  leaves_mem k es x m =
      let p = Memᴰ.of_map leaf_of (keep (λ e. eqb e.code k) es) m in
      let q = keep_mem (λ e. eqb e.code k) es p.1 in
      record { e = p.0; is = sym p.2; code = eqb→eq p.0.code k q.1; there = q.0 }

  pub mem_leaves : (k : ℕ) (es : List Event) (x : Node A) → IsLeaf k es x → Memᴰ x (leaves k es)
  mem_leaves k es x h = Memᴰ.cast h.is (Memᴰ.map leaf_of (mem_keep (λ e. eqb e.code k) es h.there (subst (λ z. T (eqb h.e.code z)) h.code (eqb_refl h.e.code))))
