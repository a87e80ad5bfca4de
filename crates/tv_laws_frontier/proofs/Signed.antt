-- The sign of a state's sums, and where a state has nothing.
use Rattle.std.specs.Prelude.{◌≡◌, ◌⊎◌, Contains, ℕ, zero, suc, ◌+◌, false, int_le, ℤ, pos, negsuc, ◌+ℤ◌, ◌-ℤ◌, ◌*ℤ◌, ◌<ℤ◌, List, [], ◌∷◌}
use Rattle.std.specs.List.{AllByRecursion}
use Rattle.std.proofs.Common.{refl, sym, ap, ◌∙◌, arith, inl, inr}
use Rattle.std.proofs.lemmas.Int.{ints}
use Rattle.tv_lemmas.specs.Sums.{total, sum_of}
use Rattle.tv_lemmas.proofs.Integers.{mul-add}
use Rattle.tv_lemmas.proofs.Members.{all-filter, all-members}
use Rattle.tv_lemmas.proofs.Sums.{total-same}
use Rattle.tv_spec_plane.specs.Web.{Web, even_sum, class_sign}
use Rattle.tv_laws_edges.specs.Rule.{HasEdgeRule}
use Rattle.tv_laws_edges.proofs.Parity.{is_even, eqv, sign_by, is_even-add}
use Rattle.tv_laws_signs.proofs.EvenSums.{class_of-even}
use Rattle.tv_cells.specs.Extras.{count}
use Rattle.tv_spec_boxes.specs.Assignments.{Rows, Assignment, class_of, edge_twist, assignments}
use Rattle.tv_spec_boxes.specs.Numbers.{lowest}
use Rattle.tv_spec_boxes.proofs.Vectors.{same_vector_tells}
use Rattle.tv_laws_counts.specs.Ways.{convolved, ways, assignment_sign}
use Rattle.tv_laws_frontier.specs.Frontier.{start_after, corner_legs, through, kept_ways, at_number, kept_at, is_of_state, of_state, state_number, state_sum}
use Rattle.tv_laws_frontier.specs.Laws.{SignOfState}
use Rattle.tv_laws_frontier.specs.Bounds.{StateWithin}
use Rattle.tv_laws_frontier.proofs.Convolved.{at-below}
use Rattle.tv_laws_frontier.proofs.Crowded.{starts-above, state-class}
use Rattle.tv_laws_frontier.proofs.Filters.{sum_of-same}
use Rattle.tv_laws_frontier.proofs.Parted.{sum_of-zero}

sign-same : (w : Web) (a : Assignment) (i : ℤ) → HasEdgeRule w → assignment_sign w a i ≡ class_sign w.points (class_of w a) i
sign-same w a i rules =
    let left = is_even-add i (edge_twist w a) in
    let right = is_even-add i (even_sum w.points (class_of w a)) in
    let same = ap (eqv (is_even i)) (sym (class_of-even w a rules)) in
    ap sign_by (left ∙ (same ∙ sym right))

total-signed : {A : Type 0} (s : ℤ) (f : A → ℕ) (xs : List A) → total (λ x. s *ℤ pos (f x)) xs ≡ s *ℤ pos (sum_of f xs)
total-signed s f [] = omega (arith, ints)
total-signed s f (x ∷ xs) =
    let both : pos (f x + sum_of f xs) ≡ pos (f x) +ℤ pos (sum_of f xs) = omega (arith, ints) in
    ap (λ z. (s *ℤ pos (f x)) +ℤ z) (total-signed s f xs) ∙ (sym (mul-add s (pos (f x)) (pos (sum_of f xs))) ∙ ap (λ z. s *ℤ z) (sym both))

pub sign_of_state : SignOfState
unfolding state_sum state_number
sign_of_state w fixed d m t k v i rules =
    total-same (λ a. assignment_sign w a i *ℤ pos (kept_at w fixed m t a i)) (λ a. class_sign w.points v i *ℤ pos (kept_at w fixed m t a i)) (of_state w d t k v)
    (all-filter (Contains (assignments w d)) (λ a. assignment_sign w a i *ℤ pos (kept_at w fixed m t a i) ≡ class_sign w.points v i *ℤ pos (kept_at w fixed m t a i)) (is_of_state w t k v)
    (λ a among on. let class : class_of w a ≡ v = same_vector_tells (class_of w a) v (state-class w t k v a on) in
    ap (λ s. s *ℤ pos (kept_at w fixed m t a i)) (sign-same w a i rules ∙ ap (λ u. class_sign w.points u i) class))
    (assignments w d) (all-members (assignments w d)))
    ∙ total-signed (class_sign w.points v i) (λ a. kept_at w fixed m t a i) (of_state w d t k v)

through-beyond : (m i : ℤ) (k : ℕ) → m <ℤ i → through m i k ≡ 0
through-beyond m i k h = let no : int_le i m ≡ false = grind (arith, ints) in rw no refl

beyond : (w : Web) (fixed : List Rows) (m : ℤ) (t : ℕ) (a : Assignment) (i z : ℤ) → m <ℤ i → i ≡ start_after w fixed t a +ℤ z → at_number (kept_ways w fixed m t a) z ≡ 0
unfolding kept_ways
beyond w fixed m zero a i (pos b) h e = through-beyond m (start_after w fixed 0 a +ℤ pos b) (ways [] b) (omega (arith, ints))
beyond w fixed m (suc t) a i (pos b) h e = through-beyond m (start_after w fixed (suc t) a +ℤ pos b) (convolved (kept_ways w fixed m t a) (count (corner_legs w fixed t a)) b) (omega (arith, ints))
beyond w fixed m zero a i (negsuc b) h e = refl
beyond w fixed m (suc t) a i (negsuc b) h e = refl

all-zero : {A : Type 0} (f : A → ℕ) (xs : List A) → AllByRecursion (λ x. f x ≡ 0) xs → sum_of f xs ≡ 0
all-zero f xs all = sum_of-same f (λ x. 0) xs all ∙ sum_of-zero xs

pub state_within : StateWithin
unfolding state_number
state_within w fixed d m t k v i out =
    all-zero (λ a. kept_at w fixed m t a i) (of_state w d t k v)
    (all-filter (Contains (assignments w d)) (λ a. kept_at w fixed m t a i ≡ 0) (is_of_state w t k v) (λ a among on. here a among out) (assignments w d) (all-members (assignments w d)))
  where
    here : (a : Assignment) → Contains (assignments w d) a → (m <ℤ i) ⊎ (i <ℤ lowest w fixed d) → kept_at w fixed m t a i ≡ 0
    here a among (inl above) = beyond w fixed m t a i (i -ℤ start_after w fixed t a) above (omega (arith, ints))
    here a among (inr under) = at-below (kept_ways w fixed m t a) (i -ℤ start_after w fixed t a) (omega (arith, ints, starts-above w fixed d t a among))
