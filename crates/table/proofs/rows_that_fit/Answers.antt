-- `rows_that_fit` meets its contract: the rows taken and what is left make the whole, and what is left is never enough for 2^k rows more.
use Prim.Native.Nat.{ℕ, suc, ◌-◌, ◌*◌, ◌%◌, ◌^◌, ◌<◌, ◌≤◌}
use native.Mathlib.Omega.{arith}
use native.Mathlib.Nat.{pow-suc}
use mathlib.Core.Path.{◌≡◌}
use lib.Pow.{shl_exact}
use Rattle.model.proofs.Capacity.{capacity_most, capacity_fits, capacity_all}
use Rattle.table.proofs.rows_that_fit.Goals as goal

-- a shift loses no bit
shifted : (a k : ℕ) → a < 2 ^ 3 → k ≤ 15 → (a * 2 ^ k) % 2 ^ 64 ≡ a * 2 ^ k
shifted a k h g = shl_exact 3 k 64 h (omega arith)

-- the rows of a turn are half of those of the turn before
halved : (k : ℕ) → 0 < k → 2 ^ k ≡ 2 ^ (k - 1) * 2
halved k h =
    let e : suc (k - 1) ≡ k = omega arith in
    rw e at (pow-suc 2 (k - 1))

pub returns-then-len : goal.returns-then-len
returns-then-len c =
    let n = c.args.len in
    omega (arith, capacity_most n, capacity_all n 65535 (omega arith) (omega arith))

pub loop-k-preserved-then-numbers-left : goal.loop-k-preserved-then-numbers-left
loop-k-preserved-then-numbers-left c =
    let l = c.loop-k in
    let one = shifted 1 (l.k - 1) (omega arith) (omega arith) in
    let five = shifted 5 (l.k - 1) (omega arith) (omega arith) in
    let two = halved l.k (omega arith) in
    (omega arith, omega arith)

pub returns : goal.returns
returns c =
    let l = c.loop-k in
    let n = c.args.len in
    let none : l.k ≡ 0 = omega arith in
    let rest : l.left < 5 = rw none at l.invariant.1 in
    omega (arith, capacity_fits n, capacity_all n l.rows (omega arith) (omega arith))
