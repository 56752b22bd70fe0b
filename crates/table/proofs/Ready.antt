-- What a table that is ready tells of a row: its entry is among the 32, and a reference is to a lower row.
use Prim.Native.Nat.{ℕ, ◌<◌}
use native.Mathlib.Omega.{arith}
use mathlib.Core.Path.{◌≡◌, sym}
use mathlib.Core.Logic.{inl, inr}
use mathlib.Core.Bool.{false}
use mathlib.Core.List.{List}
use lib.IntN.{ℤ, pos, negsuc, nat_abs}
use lib.Signed.{lt_z}
use Rattle.interval.proofs.Signed.{never}
use Rattle.chart.specs.declared.Chart.{Chart}
use Rattle.chart.proofs.Usable.{usable_few}
use Rattle.table.specs.Table.{cell}
use Rattle.table.specs.Ready.{Ready, Refers}

pub entry_low : {chart : Chart} {rows : ℕ} {t : List ℤ} → Ready chart rows t → (i : ℕ) → i < rows → nat_abs (cell t i 0) < 32
entry_low {chart} ready i h = omega (arith, ready.entry_below i h, usable_few chart ready.usable)

pub refers_below : (n : ℕ) (z : ℤ) → Refers n z → lt_z z (pos 0) ≡ false → nat_abs z < n
refers_below n (pos k) (inl p) e = let z : ◌≡◌ {A = ℕ} 0 1 = cc in absurd (omega arith)
refers_below n (pos k) (inr p) e = p.1
refers_below n (negsuc k) p e = never (sym e)
