-- The laws of the number of rows that a table holds, by which other files go.
use Prim.Native.Nat.{ℕ, ◌*◌, ◌<◌, ◌≤◌}
use native.Mathlib.Omega.{arith}
use native.Mathlib.Nat.{div-add-mod', mod-lt}
use Rattle.model.specs.Capacity.{capacity}

-- never more than 65,535
pub capacity_most : (n : ℕ) → capacity n ≤ 65535
unfolding capacity
capacity_most n = omega arith

-- so many rows fit
pub capacity_fits : (n : ℕ) → capacity n * 5 ≤ n
unfolding capacity
capacity_fits n = omega (arith, div-add-mod' n 5)

-- and no more do
pub capacity_all : (n rows : ℕ) → rows * 5 ≤ n → rows ≤ 65535 → rows ≤ capacity n
unfolding capacity
capacity_all n rows h k =
    let positive : 0 < 5 = omega arith in
    omega (arith, div-add-mod' n 5, mod-lt n positive)
