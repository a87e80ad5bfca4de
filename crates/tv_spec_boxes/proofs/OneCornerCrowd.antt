-- A corner's count is at most the crowd of the class zero of its web.
use Rattle.std.proofs.Common.{◌≡◌, ℕ, zero, suc, ◌+◌, ◌≤◌, ℤ, pos, List, [], ◌∷◌, length, refl, ap, sym, ◌∙◌, arith, add-zero}
use Rattle.std.proofs.lemmas.Int.{ints}
use Rattle.std.proofs.lemmas.List.{length-map}
use Rattle.tv_spec_plane.specs.Web.{Web, degree_of}
use Rattle.tv_cells.specs.Extras.{count, empty_legs}
use Rattle.tv_cells.specs.Costs.{overlap_cost, overlaps}
use Rattle.tv_cells.specs.Cells.{cube}
use Rattle.tv_spec_boxes.specs.Assignments.{no_legs, zeros}
use Rattle.tv_spec_boxes.specs.Configurations.{fillings}
use Rattle.tv_spec_boxes.specs.Numbers.{least, lowest, box_bound, crowd_on, crowd}
use Rattle.tv_spec_boxes.proofs.OneCorner.{IsOneCorner}
use Rattle.tv_spec_boxes.proofs.OneCornerWeb.{IsBare, one_corner_bare}
use Rattle.tv_spec_boxes.proofs.OneCornerCount.{only_assignment, only_of_class, fillings-one, alone}
use Rattle.tv_lemmas.proofs.Sums.{sum_of-term}

lowest_is : (w : Web) → IsBare w → (d : ℕ) → lowest w (no_legs w) d ≡ pos 0
unfolding lowest least overlap_cost overlaps cube
lowest_is w h d = rw (only_assignment w h d, h.edges, h.legs) refl

pub degree_zero : (hs : List ℤ) (n : ℕ) → degree_of hs (zeros n) ≡ pos 0
degree_zero [] n = refl
degree_zero (h ∷ hs) zero = refl
degree_zero (h ∷ hs) (suc n) = rw (degree_zero hs n) (omega (arith, ints))

bound_is : (n : ℕ) → box_bound (pos n) (pos 0) ≡ n
bound_is n = simp add-zero

count_is : (i : ℕ) → count empty_legs i ≡ length (fillings (empty_legs ∷ []) i i)
unfolding count
count_is i = sym (ap length (fillings-one empty_legs i) ∙ length-map _ alone)

crowd_is : (w : Web) → IsBare w → (n : ℕ) → crowd w (no_legs w) 0 (pos n) (zeros 3) ≡ crowd_on (empty_legs ∷ []) n + 0
unfolding crowd
crowd_is w h n = rw (only_of_class w h, degree_zero w.heights 3, lowest_is w h 0, bound_is n) (ap (λ ls. crowd_on ls n + 0) h.legs)

pub one_corner_crowd : (w : Web) → IsOneCorner w → (n i : ℕ) → i ≤ n → count empty_legs i ≤ crowd w (no_legs w) 0 (pos n) (zeros 3)
one_corner_crowd w one n i p = let h = one_corner_bare w one in
    let at_i : length (fillings (empty_legs ∷ []) i i) ≤ crowd_on (empty_legs ∷ []) n = sum_of-term (λ k. length (fillings (empty_legs ∷ []) k k)) 0 (suc n) i (omega arith) (omega arith) in
    rw (crowd_is w h n, count_is i) (omega arith)
