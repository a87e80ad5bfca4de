-- What holds of the full family, of the order and of the divisor, with the last exponent as the program keeps it.
use Rattle.std.proofs.Common.{◌≡◌, ℕ, ◌≤◌, to_z, of_z, w64, ◌∙◌, arith}
use Rattle.std.specs.Prelude.{ℤ, pos, negsuc, ◌-ℤ◌, ◌≤ℤ◌, unsigned_abs}
use Rattle.std.specs.Int.{int_max}
use Rattle.std.specs.List.{AllByRecursion}
use Rattle.std.proofs.lemmas.Int.{ints, clamps}
use Rattle.tv_ring.specs.Operations.{Operations}
use Rattle.tv_laws_series.specs.Terms.{Terms, upto}
use Rattle.tv_spec_plane.specs.Web.{Web}
use Rattle.tv_spec_boxes.specs.Assignments.{no_legs}
use Rattle.tv_spec_boxes.specs.Numbers.{lowest}
use Rattle.tv_spec_series.specs.Families.{Family}
use Rattle.tv_spec_series.specs.Full.{IsFull}
use Rattle.tv_laws_families.proofs.ReducedFamilies.{Reaches}
use Rattle.tv_reduced.specs.Orders.{IsOrder}
use Rattle.tv_reduced.proofs.Divisions.{order_most, rows_reached}

same_exponent : (n : ℤ) → unsigned_abs n ≤ 64 → to_z w64 (of_z w64 n) ≡ n
same_exponent n small = omega (arith, ints)

module _ {A : Type 0} (r : Operations A) (w : Web) (d : ℕ) (n : ℤ) (f : Family A) (small : unsigned_abs n ≤ 64) (told : IsFull r w (no_legs w) d (to_z w64 (of_z w64 n)) f) where
  pub full_through : IsFull r w (no_legs w) d n f
  full_through = rw (same_exponent n small) at told

  module _ (k : ℤ) (order : IsOrder (to_z w64 (of_z w64 n)) f.rows k) where
    order_bound : k ≤ℤ int_max (pos 0) (n -ℤ lowest w (no_legs w) d)
    order_bound = order_most r w d n (to_z w64 (of_z w64 n)) k f.rows (same_exponent n small) full_through.rows order

    module _ (low : negsuc 9999999 ≤ℤ lowest w (no_legs w) d) where
      pub order_range : (pos 0 ≤ℤ k) × (k ≤ℤ pos 100000000)
      order_range = let most = order_bound in (order.least, omega (arith, ints, clamps))

      -- the order as the program keeps it
      order_kept : pos (unsigned_abs (to_z w64 (of_z w64 k))) ≡ k
      order_kept = let least = order_range.0 in let most = order_range.1 in omega (arith, ints)

      pub kept_bound : pos (unsigned_abs (to_z w64 (of_z w64 k))) ≤ℤ int_max (pos 0) (n -ℤ lowest w (no_legs w) d)
      kept_bound = rw order_kept order_bound

      pub reached_through : (b : Terms A) → upto b ≡ pos (unsigned_abs (to_z w64 (of_z w64 k))) → AllByRecursion (Reaches n b) f.rows
      reached_through b known = rows_reached n (to_z w64 (of_z w64 n)) k b f.rows (same_exponent n small) (known ∙ order_kept) order.reaches
