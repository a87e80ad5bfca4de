-- An entry less a multiple of another one, in 64 bits.
use Rattle.std.specs.Prelude.{◌≡◌, ℕ, ◌*◌, ◌≤◌, ℤ, pos, ◌-ℤ◌, ◌*ℤ◌, unsigned_abs}
use Rattle.std.proofs.Common.{arith, w64, ◌∙◌, FitsSigned}
use mir.Val.{to_z, of_z}
use Rattle.std.proofs.Math.Nat.{mul-le-mul_left}
use Rattle.std.proofs.lemmas.Int.{ints, unsigned_abs-mul, to_z-of_z}
use Rattle.tv_lattice.proofs.Sums.{small-fits}

pub read_entry : (y : ℤ) → unsigned_abs y ≤ 2500000000000 → to_z w64 (of_z w64 y) ≡ y
read_entry y h = to_z-of_z w64 y (small-fits y (omega arith))

pub read_size : (n : ℕ) (f : ℤ) → f ≡ pos n → n ≤ 24 → to_z w64 (of_z w64 f) ≡ pos n
read_size n f is few = to_z-of_z w64 f (small-fits f (omega (arith, ints))) ∙ is

product-small : (n : ℕ) (x : ℤ) → n ≤ 24 → unsigned_abs x ≤ 100000000000 → unsigned_abs (pos n *ℤ x) ≤ 2400000000000
product-small n x few small =
    let size : unsigned_abs (pos n *ℤ x) ≡ n * unsigned_abs x = unsigned_abs-mul (pos n) x in
    let most : n * unsigned_abs x ≤ n * 100000000000 = mul-le-mul_left n small in
    omega arith

pub read_product : (n : ℕ) (x : ℤ) → n ≤ 24 → unsigned_abs x ≤ 100000000000 → to_z w64 (of_z w64 (pos n *ℤ x)) ≡ pos n *ℤ x
read_product n x few small = to_z-of_z w64 (pos n *ℤ x) (small-fits (pos n *ℤ x) (let h = product-small n x few small in omega arith))

difference : (a b : ℤ) → unsigned_abs a ≤ 2500000000000 → unsigned_abs b ≤ 2400000000000 → unsigned_abs (a -ℤ b) ≤ 6400000000000
difference a b h k = omega (arith, ints)

pub less-bound : (n : ℕ) (y x : ℤ) → n ≤ 24 → unsigned_abs y ≤ 2500000000000 → unsigned_abs x ≤ 100000000000 → unsigned_abs (y -ℤ (pos n *ℤ x)) ≤ 6400000000000
less-bound n y x few small entry = difference y (pos n *ℤ x) small (product-small n x few entry)

pub less-fits : (n : ℕ) (y x : ℤ) → n ≤ 24 → unsigned_abs y ≤ 2500000000000 → unsigned_abs x ≤ 100000000000 → FitsSigned w64 (y -ℤ (pos n *ℤ x))
less-fits n y x few small entry = small-fits (y -ℤ (pos n *ℤ x)) (let h = less-bound n y x few small entry in omega arith)

pub read_less : (n : ℕ) (y x : ℤ) → n ≤ 24 → unsigned_abs y ≤ 2500000000000 → unsigned_abs x ≤ 100000000000 → to_z w64 (of_z w64 (y -ℤ (pos n *ℤ x))) ≡ y -ℤ (pos n *ℤ x)
read_less n y x few small entry = to_z-of_z w64 (y -ℤ (pos n *ℤ x)) (less-fits n y x few small entry)
