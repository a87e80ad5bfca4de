-- A crowd that is too wide in degree 0 is one of the whole series.
use Rattle.std.proofs.Common.{◌≡◌, ℕ, ◌*◌, ◌<◌, refl, sym, ap, ◌∙◌, arith}
use Rattle.std.specs.Prelude.{Bool, true, false, cond, ◌&&◌, ℤ, pos, negsuc, ◌≤ℤ◌, ◌-ℤ◌, int_le, List, [], length, filter}
use Rattle.std.specs.Int.{int_max}
use Rattle.std.proofs.lemmas.Int.{ints}
use Rattle.std.proofs.lemmas.Nat.{mul-le}
use Rattle.std.proofs.lemmas.Bool.{and_parts}
use Rattle.tv_lemmas.specs.Naturals.{as_natural}
use Rattle.tv_lemmas.specs.Sums.{sum_of}
use Rattle.tv_ring.specs.Operations.{Operations, limit}
use Rattle.tv_spec_plane.specs.Web.{Web, compact, degree_of}
use Rattle.tv_spec_boxes.specs.Assignments.{no_legs, all_legs, zeros, class_of, assignments, same_vector, assignments_of}
use Rattle.tv_spec_boxes.specs.Numbers.{lowest, box_bound, crowd_on, crowd}
use Rattle.tv_spec_boxes.proofs.Vectors.{same_vector_tells}
use Rattle.tv_laws_families.proofs.ZeroClass.{nothing, assignments-none, class_on-nothing}
use Rattle.tv_laws_families.proofs.ZeroCrowd.{zero_crowd}
use Rattle.tv_assigned_series.specs.FamilyFaults.{IsCrowded}

-- of another class than zero there is none in degree 0
other_none : (w : Web) (v : List ℤ) (b : Bool) → as_natural (degree_of w.heights v) ≡ 0 → same_vector (class_of w (nothing (compact w))) v ≡ false → assignments_of w v ≡ []
other_none w v b low off = ap (λ d. filter (λ a. same_vector (class_of w a) v) (assignments w d)) low ∙ (ap (filter (λ a. same_vector (class_of w a) v)) (assignments-none w) ∙ rw off refl)

as_natural-none : (z : ℤ) → (int_le (pos 0) z && int_le z (pos 0)) ≡ true → as_natural z ≡ 0
as_natural-none (pos n) h = let both = and_parts (int_le (pos 0) (pos n)) (int_le (pos n) (pos 0)) h in at_most n both.1
  where
    at_most : (n : ℕ) → int_le (pos n) (pos 0) ≡ true → n ≡ 0
    at_most n e = grind (arith, ints)
as_natural-none (negsuc n) h = refl

other_crowd : (w : Web) (m : ℤ) (v : List ℤ) → same_vector (class_of w (nothing (compact w))) v ≡ false → crowd w (no_legs w) 0 m v ≡ 0
unfolding crowd
other_crowd w m v off = step (int_le (pos 0) (degree_of w.heights v) && int_le (degree_of w.heights v) (pos 0)) refl
  where
    step : (b : Bool) → (int_le (pos 0) (degree_of w.heights v) && int_le (degree_of w.heights v) (pos 0)) ≡ b → cond b (sum_of (λ a. crowd_on (all_legs w a (no_legs w)) (box_bound m (lowest w (no_legs w) 0))) (assignments_of w v)) 0 ≡ 0
    step true e = rw (other_none w v true (as_natural-none (degree_of w.heights v) e) off) refl
    step false e = refl

pub crowded_later : {A : Type 0} (r : Operations A) (w : Web) (d : ℕ) (n m : ℤ) (v : List ℤ) → m ≤ℤ int_max (pos 0) (n -ℤ lowest w (no_legs w) d) → IsCrowded r w 0 m v → IsCrowded r w d n v
crowded_later r w d n m v h wide = step (same_vector (class_of w (nothing (compact w))) v) refl
  where
    step : (b : Bool) → same_vector (class_of w (nothing (compact w))) v ≡ b → limit < crowd w (no_legs w) d n v * r.size r.unit
    step true e =
        let zero_class : v ≡ zeros (length w.points) = sym (same_vector_tells (class_of w (nothing (compact w))) v e) ∙ class_on-nothing w (compact w) in
        let less = zero_crowd w d n m h in
        let at_zero : limit < crowd w (no_legs w) 0 m (zeros (length w.points)) * r.size r.unit = rw zero_class at wide in
        let grown = mul-le (crowd w (no_legs w) 0 m (zeros (length w.points))) (r.size r.unit) (crowd w (no_legs w) d n (zeros (length w.points))) (r.size r.unit) less (omega arith) in
        rw zero_class (omega arith)
    step false e = absurd (let none = other_crowd w m v e in let wide' = rw none at wide in omega arith)
