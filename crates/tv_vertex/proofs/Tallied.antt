-- Totals that are multiples of one in a ring, as they are counted up.
use Rattle.std.proofs.Common.{◌≡◌, ℕ, ◌+◌, ◌*◌, ◌<◌, ◌≤◌, Bool, true, false, refl, sym, ◌∙◌, arith, add-mul}
use Rattle.std.specs.Prelude.{cond}
use Rattle.std.proofs.lemmas.Nat.{mul-le}
use Rattle.tv_ring.specs.Operations.{Operations, RingLaws, SizeLaws, limit}
use Rattle.tv_ring.specs.Sums.{times}
use Rattle.tv_ring.proofs.Times.{times-none, times-one, times-add}
use Rattle.tv_ring.proofs.Sizes.{size-times}
use Rattle.tv_vertex.proofs.Steps.{IsSoFar}

pub one-if : {A : Type 0} {IsValue : A → Type 0} {r : Operations A} → RingLaws IsValue r → (b : Bool) → b ≡ true → r.unit ≡ times r (cond b 1 0)
one-if {r = r} laws b e = rw e (sym (times-one laws))

pub zero-if : {A : Type 0} (r : Operations A) (b : Bool) → b ≡ false → r.nought ≡ times r (cond b 1 0)
zero-if r b e = rw e (sym (times-none r))

pub so_far-none : {A : Type 0} (r : Operations A) (total : A) (whole : ℕ) → total ≡ times r 0 → IsSoFar r total whole whole
so_far-none r total whole e = record { counted = 0; is = e; sum = omega arith }

module _ {A : Type 0} {IsValue : A → Type 0} {r : Operations A} (laws : RingLaws IsValue r) where
  pub times-sum : (k m : ℕ) (total with sum : A) → total ≡ times r k → with ≡ times r m → sum ≡ r.add total with → sum ≡ times r (k + m)
  times-sum k m total with sum a b e = e ∙ (rw (a, b) refl ∙ sym (times-add laws k m))

  -- a part that is too wide makes the whole too wide
  pub part-wide : (m whole : ℕ) → m ≤ whole → limit < m * r.size r.unit → limit < whole * r.size r.unit
  part-wide m whole l h = let grown : m * r.size r.unit ≤ whole * r.size r.unit = mul-le m (r.size r.unit) whole (r.size r.unit) l (omega arith) in omega arith

  pub sum-wide : (k m whole : ℕ) (total with : A) → SizeLaws IsValue r → total ≡ times r k → with ≡ times r m → k + m ≤ whole → limit < r.size total + r.size with → limit < whole * r.size r.unit
  sum-wide k m whole total with sizes a b l h =
      let first : r.size total ≤ k * r.size r.unit = rw a (size-times laws sizes k) in
      let second : r.size with ≤ m * r.size r.unit = rw b (size-times laws sizes m) in
      let both : (k + m) * r.size r.unit ≡ k * r.size r.unit + m * r.size r.unit = add-mul k m (r.size r.unit) in
      part-wide (k + m) whole l (omega arith)
