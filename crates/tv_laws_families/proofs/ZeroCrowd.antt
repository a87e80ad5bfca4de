-- The configurations of class zero that the division takes are among those that the crowd of class zero counts.
use Rattle.std.proofs.Common.{◌≡◌, ℕ, suc, ◌+◌, ◌-◌, ◌≤◌, refl, ap, ◌∙◌, arith}
use Rattle.std.specs.Prelude.{ℤ, pos, negsuc, ◌-ℤ◌, ◌≤ℤ◌, List, [], ◌∷◌, length, cond, ◌&&◌, int_le, true}
use Rattle.std.specs.Int.{int_max}
use Rattle.std.proofs.lemmas.Int.{ints, clamps}
use Rattle.tv_lemmas.specs.Naturals.{as_natural}
use Rattle.tv_lemmas.specs.Sums.{sum_of}
use Rattle.tv_lemmas.proofs.Sums.{sum_of-≤, sum_of-more}
use Rattle.tv_lemmas.proofs.Members.{all-any}
use Rattle.tv_spec_plane.specs.declared.records.CompactEdge.{CompactEdge}
use Rattle.tv_spec_plane.specs.Web.{Web, compact, corners}
use Rattle.tv_cells.specs.declared.legs.Legs.{Legs}
use Rattle.tv_cells.specs.Costs.{rows_cost}
use Rattle.tv_spec_boxes.specs.Assignments.{sum_on, no_legs, all_legs, zeros, assignments_of}
use Rattle.tv_spec_boxes.specs.Configurations.{fillings}
use Rattle.tv_spec_boxes.specs.Numbers.{fall_by, low_of, least, lowest, box_bound, crowd_on, crowd_at, crowd}
use Rattle.tv_laws_counts.proofs.Bounds.{lowest-none}
use Rattle.tv_laws_families.proofs.ZeroClass.{nothing, assignments-none, overlaps-nothing, degree-zeros}

falls-nothing : (w : Web) (es : List CompactEdge) → sum_on (fall_by w) es (nothing es) ≡ pos 0
unfolding rows_cost
falls-nothing w [] = refl
falls-nothing w (e ∷ es) = rw (falls-nothing w es) refl

pub lowest-zero : (w : Web) → lowest w (no_legs w) 0 ≡ pos 0
unfolding lowest least
lowest-zero w =
    ap (least (low_of w (no_legs w))) (assignments-none w)
    ∙ rw (falls-nothing w (compact w), overlaps-nothing w (corners w)) refl

crowd_on-≤ : (legs : List Legs) (m n : ℕ) → m ≤ n → crowd_on legs m ≤ crowd_on legs n
crowd_on-≤ legs m n h =
    let e : suc m + (n - m) ≡ suc n = omega arith in
    let more = sum_of-more (λ i. length (fillings legs i i)) 0 (suc m) (n - m) in
    rw e at more

crowd-zero : (w : Web) (d : ℕ) (n : ℤ) → crowd w (no_legs w) d n (zeros (length w.points)) ≡ sum_of (crowd_at w (no_legs w) d n) (assignments_of w (zeros (length w.points)))
unfolding crowd
crowd-zero w d n = rw (degree-zeros w.heights (length w.points)) (passes (int_le (pos 0) (pos d)) _ (is_within d))
  where
    is_within : (d : ℕ) → int_le (pos 0) (pos d) ≡ true
    is_within d = grind (arith, ints)

    passes : (b : _) (k : ℕ) → b ≡ true → cond (true && b) k 0 ≡ k
    passes b k e = rw e refl

as_natural-≤ : (x y : ℤ) → x ≤ℤ int_max (pos 0) y → as_natural x ≤ as_natural y
as_natural-≤ (pos a) (pos b) h = omega (arith, ints, clamps)
as_natural-≤ (pos a) (negsuc b) h = omega (arith, ints, clamps)
as_natural-≤ (negsuc a) y h = omega arith

bound_less : (n m low : ℤ) → low ≤ℤ pos 0 → m ≤ℤ int_max (pos 0) (n -ℤ low) → box_bound m (pos 0) ≤ box_bound n low
bound_less n m low l h = as_natural-≤ ((m -ℤ pos 0) -ℤ pos 0) ((n -ℤ low) -ℤ low) (omega (arith, ints, clamps))

pub zero_crowd : (w : Web) (d : ℕ) (n m : ℤ) → m ≤ℤ int_max (pos 0) (n -ℤ lowest w (no_legs w) d) → crowd w (no_legs w) 0 m (zeros (length w.points)) ≤ crowd w (no_legs w) d n (zeros (length w.points))
zero_crowd w d n m h =
    let less = bound_less n m (lowest w (no_legs w) d) (lowest-none w (no_legs w) d) h in
    let fewer : box_bound m (lowest w (no_legs w) 0) ≤ box_bound n (lowest w (no_legs w) d) = rw (lowest-zero w) less in
    rw (crowd-zero w 0 m, crowd-zero w d n) (sum_of-≤ (crowd_at w (no_legs w) 0 m) (crowd_at w (no_legs w) d n) (assignments_of w (zeros (length w.points))) (all-any (λ a. crowd_at w (no_legs w) 0 m a ≤ crowd_at w (no_legs w) d n a) (λ a. crowd_on-≤ (all_legs w a (no_legs w)) (box_bound m (lowest w (no_legs w) 0)) (box_bound n (lowest w (no_legs w) d)) fewer) (assignments_of w (zeros (length w.points)))))
