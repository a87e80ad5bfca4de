-- All classes of a state, joined, are the joins: through the greatest exponent kept the addends of one state and one choice on the
-- new edges add up to the number that is joined.
use Rattle.std.specs.Prelude.{◌≡◌, Contains, ℕ, zero, suc, ◌+◌, ◌*◌, Bool, true, false, cond, int_le, ℤ, pos, ◌+ℤ◌, ◌-ℤ◌, ◌≤ℤ◌, List, [], ◌∷◌, length}
use Rattle.std.specs.List.{AllByRecursion, IsDistinct}
use Rattle.std.proofs.Common.{refl, sym, ap, subst, ◌∙◌, arith}
use Rattle.std.proofs.lemmas.Int.{ints}
use Rattle.tv_lemmas.specs.Sums.{plus, sum_of}
use Rattle.tv_lemmas.proofs.Members.{all-onto, all-any}
use Rattle.tv_lemmas.proofs.Permuted.{IsEquality}
use Rattle.tv_ring.specs.Operations.{Operations}
use Rattle.tv_ring.specs.Sums.{total_below}
use Rattle.tv_ring.proofs.Sums.{total_below-none, total_below-more}
use Rattle.tv_spec_plane.specs.Web.{Web, degree_of}
use Rattle.tv_cells.specs.Extras.{count}
use Rattle.tv_spec_boxes.specs.Assignments.{Rows, Assignment, no_legs, class_of, class_difference, same_vector}
use Rattle.tv_spec_boxes.specs.Numbers.{lowest, box_bound}
use Rattle.tv_spec_boxes.specs.Classes.{IsBefore, ClassesRise}
use Rattle.tv_spec_boxes.proofs.Vectors.{same_vector-same, same_vector_tells, length-class_of}
use Rattle.tv_spec_series.specs.Families.{Family, classes}
use Rattle.tv_spec_series.proofs.Order.{same_vector-equal, same_vector-other, rise_tail, first_before, before_apart}
use Rattle.tv_laws_frontier.specs.Frontier.{kept_at, of_state, state_number, kept_upto}
use Rattle.tv_laws_frontier.specs.Steps.{new_part, near_legs, before}
use Rattle.tv_laws_frontier.specs.StateClasses.{HasClass}
use Rattle.tv_laws_frontier.proofs.Filters.{sum_of-same}
use Rattle.tv_laws_frontier.proofs.Parted.{once, sum_of-zero}
use Rattle.tv_frontier.specs.Joining.{join_number}
use Rattle.tv_frontier.specs.Sums.{Addend, added_up}
use Rattle.tv_frontier.specs.Rows.{target, addend_of, row_addends, IsPart}
use Rattle.tv_frontier.proofs.Classes.{class-listed, difference-plus}

vector_equality : IsEquality same_vector
vector_equality = record { own = same_vector-same; tells = same_vector_tells }

distinct-rises : (hs : List ℤ) (vs : List (List ℤ)) → ClassesRise hs vs → IsDistinct same_vector vs
unfolding IsDistinct
distinct-rises hs [] rises = tt
distinct-rises hs (v ∷ vs) rises =
    (all-onto (IsBefore hs v) (λ u. same_vector v u ≡ false) (λ u h. same_vector-other v u (before_apart hs v u h)) vs (first_before hs v vs rises), distinct-rises hs vs (rise_tail hs v vs rises))

pub plus-difference : (v c : List ℤ) → length v ≡ length c → plus (class_difference v c) c ≡ v
plus-difference [] [] e = refl
plus-difference [] (y ∷ c) e = absurd (omega arith)
plus-difference (x ∷ v) [] e = absurd (omega arith)
plus-difference (x ∷ v) (y ∷ c) e = let first : (x -ℤ y) +ℤ y ≡ x = omega (arith, ints) in ap (λ z. z ∷ plus (class_difference v c) c) first ∙ ap (λ z. x ∷ z) (plus-difference v c (omega arith))

-- u and c make v exactly where u is what is left of v
same-left : (u c v : List ℤ) → length u ≡ length c → length v ≡ length c → same_vector (plus u c) v ≡ same_vector (class_difference v c) u
same-left u c v long also = by_test (same_vector (plus u c) v) (same_vector (class_difference v c) u) refl refl
  where
    by_test : (a b : Bool) → same_vector (plus u c) v ≡ a → same_vector (class_difference v c) u ≡ b → a ≡ b
    by_test true true p q = refl
    by_test false false p q = refl
    by_test true false p q = absurd (let e = same_vector_tells (plus u c) v p in let is = same_vector-equal (class_difference v c) u (ap (λ z. class_difference z c) (sym e) ∙ difference-plus u c long) in let no : true ≡ false = sym is ∙ q in cc)
    by_test false true p q = absurd (let e = same_vector_tells (class_difference v c) u q in let is = same_vector-equal (plus u c) v (ap (λ z. plus z c) (sym e) ∙ plus-difference v c also) in let no : true ≡ false = sym is ∙ p in cc)

module _ (w : Web) (d : ℕ) (n : ℤ) (t : ℕ) (h g : List Rows) (v : List ℤ) (i : ℤ) (most : degree_of w.heights v ≤ℤ pos d) where
  abbrev number : ℕ
  number = join_number w d n t h g v i

  abbrev added : List ℤ
  added = class_of w (new_part w t g)

  abbrev here : List ℤ → ℕ
  here u = cond (same_vector (target w t g u) v) number 0

  adds : (z : ℤ) (m k : ℕ) → z ≡ pos k → pos m +ℤ z ≡ pos (m + k)
  adds z m k e = omega (arith, ints)

  one-row : (u : List ℤ) (rest : List Addend) (k : ℕ) (a b : Bool) → int_le (degree_of w.heights (target w t g u)) (pos d) ≡ a → same_vector (target w t g u) v ≡ b → added_up rest v i ≡ pos k →
      added_up (cond a (addend_of w d n t h g (target w t g u) ∷ rest) rest) v i ≡ pos (cond b number 0 + k)
  unfolding added_up
  one-row u rest k true true p q e =
      let same : target w t g u ≡ v = same_vector_tells (target w t g u) v q in
      ap (λ x. cond x (pos (join_number w d n t h g (target w t g u) i)) (pos 0) +ℤ added_up rest v i) q
      ∙ (ap (λ x. pos (join_number w d n t h g x i) +ℤ added_up rest v i) same ∙ adds (added_up rest v i) number k e)
  one-row u rest k true false p q e = ap (λ x. cond x (pos (join_number w d n t h g (target w t g u) i)) (pos 0) +ℤ added_up rest v i) q ∙ adds (added_up rest v i) 0 k e
  one-row u rest k false true p q e = absurd (let same : target w t g u ≡ v = same_vector_tells (target w t g u) v q in let low : degree_of w.heights (target w t g u) ≤ℤ pos d = rw same most in let on : int_le (degree_of w.heights (target w t g u)) (pos d) ≡ true = grind (arith, ints) in let no : true ≡ false = sym on ∙ p in cc)
  one-row u rest k false false p q e = e ∙ ap pos (let none : k ≡ 0 + k = omega arith in none)

  rows-sum : (us : List (List ℤ)) → added_up (row_addends w d n t h g us) v i ≡ pos (sum_of here us)
  unfolding row_addends added_up
  rows-sum [] = refl
  rows-sum (u ∷ us) = one-row u (row_addends w d n t h g us) (sum_of here us) (int_le (degree_of w.heights (target w t g u)) (pos d)) (same_vector (target w t g u) v) refl refl (rows-sum us)

  zero-terms : (c f : ℕ → ℕ) → ((j : ℕ) → f j ≡ 0) → (m : ℕ) → total_below (λ j. c j * f j) m ≡ 0
  zero-terms c f none zero = total_below-none (λ j. c j * f j)
  zero-terms c f none (suc m) =
      let rest = zero-terms c f none m in
      let more = total_below-more (λ j. c j * f j) m in
      let last : c m * f m ≡ 0 = ap (λ x. c m * x) (none m) ∙ omega arith in
      omega arith

  no-number : of_state w d t h (class_difference v added) ≡ [] → (x : ℤ) → state_number w (no_legs w) d (kept_upto w (no_legs w) d n) t h (class_difference v added) x ≡ 0
  unfolding state_number
  no-number none x = ap (sum_of (λ a. kept_at w (no_legs w) (kept_upto w (no_legs w) d n) t a x)) none

  empty-state : of_state w d t h (class_difference v added) ≡ [] → number ≡ 0
  empty-state none =
      zero-terms (count (near_legs w (no_legs w) t h g)) (λ j. state_number w (no_legs w) d (kept_upto w (no_legs w) d n) t h (class_difference v added) (before w (no_legs w) t h g i -ℤ pos j))
      (λ j. no-number none (before w (no_legs w) t h g i -ℤ pos j)) (suc (box_bound n (lowest w (no_legs w) d)))

  module _ {A : Type 0} {IsValue : A → Type 0} (r : Operations A) (f : Family A) (part : IsPart IsValue r w d n t h f) (long : length v ≡ length w.points) where
    class-long : (u : List ℤ) → HasClass w d t h u → length u ≡ length added
    class-long u has = let of = class-listed w d t h u has in ap length (sym of.class) ∙ (length-class_of w has.witness ∙ sym (length-class_of w (new_part w t g)))

    turned : (us : List (List ℤ)) → AllByRecursion (HasClass w d t h) us → sum_of here us ≡ sum_of (λ u. cond (same_vector (class_difference v added) u) number 0) us
    turned us each =
        sum_of-same here (λ u. cond (same_vector (class_difference v added) u) number 0) us
        (all-onto (HasClass w d t h) (λ u. here u ≡ cond (same_vector (class_difference v added) u) number 0) (λ u has. ap (λ b. cond b number 0) (same-left u added v (class-long u has) (long ∙ sym (length-class_of w (new_part w t g))))) us each)

    by-state : (xs : List Assignment) → of_state w d t h (class_difference v added) ≡ xs → sum_of (λ u. cond (same_vector (class_difference v added) u) number 0) (classes f.rows) ≡ number
    by-state [] e = let none = empty-state e in rw none (nothing-left (classes f.rows))
      where
        nothing-left : (us : List (List ℤ)) → sum_of (λ u. cond (same_vector (class_difference v added) u) 0 0) us ≡ 0
        nothing-left us = sum_of-same (λ u. cond (same_vector (class_difference v added) u) 0 0) (λ (u : List ℤ). 0) us (all-any (λ u. cond (same_vector (class_difference v added) u) 0 0 ≡ 0) (λ u. no-matter (same_vector (class_difference v added) u)) us) ∙ sum_of-zero us
          where
            no-matter : (b : Bool) → cond {A = ℕ} b 0 0 ≡ 0
            no-matter true = refl
            no-matter false = refl
    by-state (a ∷ rest) e =
        let has : HasClass w d t h (class_difference v added) = record { witness = a; listed = subst (λ (xs : List Assignment). Contains xs a) (sym e) (0, omega arith, refl) } in
        once same_vector vector_equality number (class_difference v added) (classes f.rows) (distinct-rises f.heights (classes f.rows) part.family.rises) (part.whole (class_difference v added) has)

    pub rows-joined : added_up (row_addends w d n t h g (classes f.rows)) v i ≡ pos (join_number w d n t h g v i)
    rows-joined = rows-sum (classes f.rows) ∙ ap pos (turned (classes f.rows) part.each ∙ by-state (of_state w d t h (class_difference v added)) refl)
