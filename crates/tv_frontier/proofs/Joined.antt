-- One series of a state and one corner: their product has the joins as its coefficients.
use Rattle.std.specs.Prelude.{◌≡◌, ℕ, zero, suc, ◌+◌, ◌-◌, ◌*◌, ◌<◌, ◌≤◌, ◌^◌, min, ◌⊎◌, ℤ, pos, negsuc, ◌+ℤ◌, ◌-ℤ◌, ◌≤ℤ◌, ◌<ℤ◌, List, length, unsigned_abs}
use Rattle.std.proofs.Common.{refl, sym, ap, subst, ◌∙◌, arith, le_trans, inl, inr}
use Rattle.std.proofs.Math.Nat.{mul-le-mul_right}
use Rattle.std.proofs.lemmas.Int.{ints, clamps}
use Rattle.tv_lemmas.specs.Naturals.{as_natural}
use Rattle.tv_ring.specs.Operations.{Operations, RingLaws, SizeLaws, limit}
use Rattle.tv_ring.specs.Sums.{at, total_below, times, convolution, size_convolution}
use Rattle.tv_ring.proofs.Sums.{total_below-none, total_below-more, total_below-same}
use Rattle.tv_ring.proofs.Rings.{mul-nought}
use Rattle.tv_ring.proofs.Products.{convolution-same}
use Rattle.tv_ring.proofs.Times.{times-none, times-add, times-mul, value_times}
use Rattle.tv_ring.proofs.Sizes.{reach-times}
use Rattle.tv_laws_series.specs.Terms.{Terms, terms, above, upto, listed, IsBounded}
use Rattle.tv_laws_series.specs.Series.{series_product, product_upto}
use Rattle.tv_laws_series.proofs.Exponents.{above_adds, above_is}
use Rattle.tv_laws_series.proofs.Listed.{length-listed, at-listed}
use Rattle.tv_laws_series.proofs.Coefficients.{coefficient_below, coefficient_at}
use Rattle.tv_laurent.specs.SeriesCalls.{ReachesAddUp, IsProductWide}
use Rattle.tv_spec_plane.specs.Web.{Web, compact, degree_of}
use Rattle.tv_spec_plane.specs.Graded.{IsGraded}
use Rattle.tv_cells.specs.declared.legs.Legs.{Legs}
use Rattle.tv_cells.specs.Extras.{count}
use Rattle.tv_vertex.specs.Corners.{extras_times, corner_terms}
use Rattle.tv_vertex.proofs.Corners.{extras_times-is}
use Rattle.tv_spec_boxes.specs.Assignments.{Rows, no_legs, class_of, class_difference}
use Rattle.tv_spec_boxes.specs.Numbers.{lowest, box_bound, crowd}
use Rattle.tv_spec_series.specs.Families.{coefficient}
use Rattle.tv_laws_counts.specs.Ways.{split, convolved}
use Rattle.tv_laws_counts.proofs.Convolutions.{split_is, convolved_is, total_below-term}
use Rattle.tv_laws_counts.proofs.Larger.{no_extras}
use Rattle.tv_laws_counts.proofs.InRings.{multiples, convolution-multiples}
use Rattle.tv_laws_frontier.specs.Frontier.{state_number, kept_upto}
use Rattle.tv_laws_frontier.specs.Steps.{new_part, near_part, near_legs, before}
use Rattle.tv_laws_frontier.proofs.PartialSums.{no_diagrams}
use Rattle.tv_laws_frontier.proofs.Joins.{join-below, crowd_of_join, crowd_of_near}
use Rattle.tv_laws_frontier.proofs.Step.{step_of_state}
use Rattle.tv_laws_frontier.proofs.Signed.{state_within}
use Rattle.tv_spec_partial.specs.Partial.{chosen}
use Rattle.tv_assigned_series.specs.Terms.{IsCornerFrom}
use Rattle.tv_assigned_series.proofs.Fronts.{size_convolution-multiples}
use Rattle.tv_assigned_series.specs.FamilyFaults.{IsCrowded}
use Rattle.tv_frontier.specs.Joining.{IsStage, IsJoin, moved_low, moved_at, moved_terms, IsOfState, join_number, IsJoined}

pub moved_at-is : {A : Type 0} (r : Operations A) (s : Terms A) (k low : ℤ) (i : ℕ) → moved_at r s k low i ≡ coefficient r s ((low +ℤ pos i) -ℤ k)
unfolding moved_at
moved_at-is r s k low i = refl

-- a sum of multiples of one stops where the multiples are nought
module _ {A : Type 0} {IsValue : A → Type 0} {r : Operations A} (laws : RingLaws IsValue r) where
  sum-stops : (f : ℕ → ℕ) (p n k : ℕ) → n ≡ p + k → ((j : ℕ) → p ≤ j → times r (f j) ≡ r.nought) → times r (total_below f n) ≡ times r (total_below f p)
  sum-stops f p n zero e none = let same : n ≡ p = omega arith in ap (λ x. times r (total_below f x)) same
  sum-stops f p n (suc k) e none =
      let m = p + k in
      let next : n ≡ suc m = omega arith in
      let last : times r (f m) ≡ r.nought = none m (omega arith) in
      ap (λ x. times r (total_below f x)) next
      ∙ (ap (times r) (total_below-more f m)
      ∙ (times-add laws (total_below f m) (f m)
      ∙ (ap (λ x. r.add (times r (total_below f m)) x) last
      ∙ (laws.add-nought (times r (total_below f m)) (value_times laws (total_below f m)) ∙ sum-stops f p m k refl none))))

  no-term : (c x : ℕ) → times r x ≡ r.nought → times r (c * x) ≡ r.nought
  no-term c x none = times-mul laws c x ∙ (ap (r.mul (times r c)) none ∙ mul-nought laws (times r c) (value_times laws c))

total-fewer : (f : ℕ → ℕ) (p n k : ℕ) → n ≡ p + k → total_below f p ≤ total_below f n
total-fewer f p n zero e = let same : n ≡ p = omega arith in rw same (omega arith)
total-fewer f p n (suc k) e =
    let m = p + k in
    let next : n ≡ suc m = omega arith in
    let rest = total-fewer f p m k refl in
    let more = total_below-more f m in
    rw next (omega arith)

-- ---- where the moved series begins and ends

module _ {A : Type 0} (r : Operations A) (floor m : ℤ) (s : Terms A) (k : ℤ) where
  abbrev low : ℤ
  low = moved_low floor m s.low k

  moved-length : length (moved_terms r floor m s k).coefficients ≡ above low (m +ℤ pos 1)
  moved-length = length-listed (moved_at r s k low) (above low (m +ℤ pos 1))

  pub moved-floor : floor ≤ℤ low
  moved-floor = omega (arith, ints, clamps)

  pub moved-known : m ≤ℤ upto (moved_terms r floor m s k)
  moved-known = let l = moved-length in let a = above_is low (m +ℤ pos 1) in omega (arith, ints)

  moved-coefficient : (p : ℕ) → p < above low (m +ℤ pos 1) → at r (moved_terms r floor m s k).coefficients p ≡ coefficient r s ((low +ℤ pos p) -ℤ k)
  moved-coefficient p h = at-listed r (moved_at r s k low) (above low (m +ℤ pos 1)) p h ∙ moved_at-is r s k low p

  -- below where it begins it is nought, or below the floor
  moved-below : (i : ℤ) → i ≤ℤ m → i <ℤ low → (i <ℤ floor) ⊎ ((i -ℤ k) <ℤ s.low)
  moved-below i h l = by_floor (i -ℤ floor) refl
    where
      by_floor : (z : ℤ) → i -ℤ floor ≡ z → (i <ℤ floor) ⊎ ((i -ℤ k) <ℤ s.low)
      by_floor (pos n) e = inr (omega (arith, ints, clamps))
      by_floor (negsuc n) e = inl (omega (arith, ints))

-- the moved series, read: where it has no coefficient, what would be there is nought
pub moved-read : {A : Type 0} (r : Operations A) (floor m : ℤ) (s : Terms A) (k i : ℤ) → i ≤ℤ m → (i <ℤ floor → coefficient r s (i -ℤ k) ≡ r.nought) → coefficient r (moved_terms r floor m s k) i ≡ coefficient r s (i -ℤ k)
moved-read r floor m s k i within none = by_place (i -ℤ moved_low floor m s.low k) refl
  where
    by_place : (z : ℤ) → i -ℤ moved_low floor m s.low k ≡ z → coefficient r (moved_terms r floor m s k) i ≡ coefficient r s (i -ℤ k)
    by_place (pos p) e =
        let low = moved_low floor m s.low k in
        let here = above_adds low i (omega (arith, ints)) in
        let same : above low i ≡ p = omega (arith, ints) in
        let last = above_is low (m +ℤ pos 1) in
        coefficient_at r (moved_terms r floor m s k) i (omega (arith, ints))
        ∙ (moved-coefficient r floor m s k (above low i) (omega (arith, ints)) ∙ ap (λ x. coefficient r s (x -ℤ k)) here)
    by_place (negsuc p) e =
        coefficient_below r (moved_terms r floor m s k) i (omega (arith, ints))
        ∙ elim (moved-below r floor m s k i within (omega (arith, ints))) [ inl under ↦ sym (none under) | inr early ↦ sym (coefficient_below r s (i -ℤ k) early) ]

pub moved-between : (f m l k x : ℤ) → x ≡ l +ℤ k → f ≤ℤ x → x <ℤ (m +ℤ pos 1) → x ≡ moved_low f m l k
moved-between f m l k x e low high = omega (arith, ints, clamps)

pub moved-end : (f m l k x : ℤ) → x ≡ m +ℤ pos 1 → f ≤ℤ x → x ≤ℤ (l +ℤ k) → x ≡ moved_low f m l k
moved-end f m l k x e low high = omega (arith, ints, clamps)

pub moved_low-read : (x f f' m m' l l' k k' : ℤ) → x ≡ moved_low f m l k → f ≡ f' → m ≡ m' → l ≡ l' → k ≡ k' → x ≡ moved_low f' m' l' k'
moved_low-read x f f' m m' l l' k k' e ef em el ek = e ∙ rw (ef, em, el, ek) refl

-- the series as it is written
pub moved-is : {A : Type 0} (r : Operations A) (s t : Terms A) (floor m shift by first : ℤ) (count : ℕ) (items : List A) → by ≡ shift → first ≡ moved_low floor m s.low shift → count ≡ above first (m +ℤ pos 1) → items ≡ listed (moved_at r s by first) count → t ≡ terms first items → t ≡ moved_terms r floor m s shift
moved-is r s t floor m shift by first count items eb ef ec ei et = et ∙ rw (ei, ec, eb, ef) refl

pub written-bounded : {A : Type 0} (first m : ℤ) (count : ℕ) (items : List A) → unsigned_abs first ≤ 200000001 → unsigned_abs m ≤ 200000000 → first +ℤ pos count ≡ m +ℤ pos 1 → length items ≡ count → IsBounded (terms first items)
written-bounded first m count items hf hm e l = record { low = omega (arith, ints); upto = omega (arith, ints) }

-- ---- the numbers

before-moves : (i cost shift : ℤ) (overlap j : ℕ) → shift ≡ cost -ℤ pos overlap → ((i -ℤ cost) +ℤ pos overlap) -ℤ pos j ≡ (i -ℤ shift) -ℤ pos j
before-moves i cost shift overlap j e = omega (arith, ints)

-- what stands over is what is left
term-place : (low i k : ℤ) (p j : ℕ) → i ≡ low +ℤ pos p → j ≤ p → (low +ℤ pos (p - j)) -ℤ k ≡ (i -ℤ k) -ℤ pos j
term-place low i k p j e h = omega (arith, ints)

abbrev pub numbers : Web → ℕ → ℤ → ℕ → List Rows → List ℤ → ℤ → ℕ
numbers w d n t h u i = state_number w (no_legs w) d (kept_upto w (no_legs w) d n) t h u i

natural-most : (z : ℤ) (k : ℕ) → pos k ≤ℤ z → k ≤ as_natural z
natural-most (pos n) k h = omega (arith, ints)
natural-most (negsuc n) k h = absurd (omega (arith, ints))

module _ {A : Type 0} {IsValue : A → Type 0} {r : Operations A} (laws : RingLaws IsValue r) {w : Web} {d : ℕ} {n floor m : ℤ} {t : ℕ} {h g : List Rows} {legs : Legs} {class near : List ℤ} {shift : ℤ} (graded : IsGraded w) (stage : IsStage w d n floor m t) (join : IsJoin w d t h g legs class near shift) (v u : List ℤ) (s : Terms A) (most : degree_of w.heights v ≤ℤ pos d) (left : class_difference v class ≡ u) (of : IsOfState r w d n t h u (m -ℤ shift) s) where
  abbrev lowest_at : ℤ
  lowest_at = lowest w (no_legs w) d

  abbrev boxes : ℕ
  boxes = box_bound n lowest_at

  abbrev start : ℤ
  start = moved_low floor m s.low shift

  abbrev number : ℤ → ℕ
  number x = numbers w d n t h u x

  abbrev factor : ℤ → ℕ → ℕ
  factor i j = count legs j * number ((i -ℤ shift) -ℤ pos j)

  term-is : (i : ℤ) (j : ℕ) → count (near_legs w (no_legs w) t h g) j * state_number w (no_legs w) d (kept_upto w (no_legs w) d n) t h (class_difference v (class_of w (new_part w t g))) (before w (no_legs w) t h g i -ℤ pos j) ≡ factor i j
  term-is i j =
      let class_is : class_difference v (class_of w (new_part w t g)) ≡ u = ap (class_difference v) (sym join.class) ∙ left in
      ap (λ l. count l j * state_number w (no_legs w) d (kept_upto w (no_legs w) d n) t h (class_difference v (class_of w (new_part w t g))) (before w (no_legs w) t h g i -ℤ pos j)) (sym join.legs)
      ∙ (ap (λ c. count legs j * state_number w (no_legs w) d (kept_upto w (no_legs w) d n) t h c (before w (no_legs w) t h g i -ℤ pos j)) class_is
      ∙ ap (λ z. count legs j * number z) (before-moves i _ shift _ j join.shift))

  number-is : (i : ℤ) → join_number w d n t h g v i ≡ total_below (factor i) (suc boxes)
  number-is i = total_below-same (λ j. count (near_legs w (no_legs w) t h g) j * state_number w (no_legs w) d (kept_upto w (no_legs w) d n) t h (class_difference v (class_of w (new_part w t g))) (before w (no_legs w) t h g i -ℤ pos j)) (factor i) (suc boxes) (λ j l. term-is i j)

  -- nothing is joined below the lowest
  none-joined : (i : ℤ) → i ≤ℤ m → i <ℤ lowest_at → join_number w d n t h g v i ≡ 0
  none-joined i l below =
      let k = chosen (suc t) (compact w) (near_part w t h g) in
      let within : i ≤ℤ kept_upto w (no_legs w) d n = let e = stage.upto in omega (arith, ints) in
      let less = join-below w (no_legs w) d t h g v i n join.first join.new in
      let step = step_of_state w (no_legs w) d t k v i n graded most stage.corner within in
      let none = state_within w (no_legs w) d (kept_upto w (no_legs w) d n) (suc t) k v i (inr below) in
      omega arith

  none-before : (i : ℤ) → i ≤ℤ m → i <ℤ lowest_at → number (i -ℤ shift) ≡ 0
  none-before i l below =
      let none = none-joined i l below in
      let whole = number-is i in
      let first = total_below-term (factor i) (suc boxes) 0 (omega arith) in
      let one : count legs 0 ≡ 1 = no_extras legs in
      let place : (i -ℤ shift) -ℤ pos 0 ≡ i -ℤ shift = omega (arith, ints) in
      let here : factor i 0 ≡ number (i -ℤ shift) = ap (λ c. c * number ((i -ℤ shift) -ℤ pos 0)) one ∙ (ap (λ z. 1 * number z) place ∙ omega arith) in
      omega arith

  none-at : (i : ℤ) → i ≤ℤ m → i <ℤ start → times r (number (i -ℤ shift)) ≡ r.nought
  none-at i l below = elim (moved-below r floor m s shift i l below) [
    | inl low ↦ (let e = stage.floor in ap (times r) (none-before i l (omega (arith, ints, clamps))) ∙ times-none r)
    | inr low ↦ sym (of (i -ℤ shift) (omega (arith, ints))) ∙ coefficient_below r s (i -ℤ shift) low
  ]

  none-term : (i : ℤ) (j : ℕ) → i ≤ℤ m → (i -ℤ pos j) <ℤ start → times r (factor i j) ≡ r.nought
  none-term i j l below =
      let place : (i -ℤ shift) -ℤ pos j ≡ (i -ℤ pos j) -ℤ shift = omega (arith, ints) in
      no-term laws (count legs j) (number ((i -ℤ shift) -ℤ pos j)) (ap (λ z. times r (number z)) place ∙ none-at (i -ℤ pos j) (omega (arith, ints)) below)

  stops : (i : ℤ) (p k : ℕ) → suc boxes ≡ p + k → i ≤ℤ m → ((j : ℕ) → p ≤ j → (i -ℤ pos j) <ℤ start) → times r (join_number w d n t h g v i) ≡ times r (total_below (factor i) p)
  stops i p k e l below = ap (times r) (number-is i) ∙ sum-stops laws (factor i) p (suc boxes) k e (λ j over. none-term i j l (below j over))

  number-below : (i : ℤ) → i ≤ℤ m → i <ℤ start → r.nought ≡ times r (join_number w d n t h g v i)
  number-below i l below =
      sym (stops i 0 (suc boxes) (omega arith) l (λ j over. omega (arith, ints))
      ∙ (ap (times r) (total_below-none (factor i)) ∙ times-none r))

  few : (k : ℕ) → start +ℤ pos k ≡ m → k ≤ boxes
  few k long =
      let e = stage.floor in let f = stage.upto in
      let floor_is = moved-floor r floor m s shift in
      natural-most ((n -ℤ lowest_at) -ℤ lowest_at) k (omega (arith, ints, clamps))

  corner-wide : (k : ℕ) → start +ℤ pos k ≡ m → (i : ℕ) → i ≤ k → limit < count legs i * r.size r.unit → IsCrowded r w d n near
  corner-wide k long i l beyond =
      let room = few k long in
      let bound : count legs i ≤ crowd w (no_legs w) d n near =
      rw (join.legs, join.near) (crowd_of_near w (no_legs w) d t h g n i graded (no_diagrams w) stage.corner join.first join.new join.within (omega arith)) in
      let all : count legs i * r.size r.unit ≤ crowd w (no_legs w) d n near * r.size r.unit = mul-le-mul_right (r.size r.unit) bound in
      le_trans beyond all

  -- ---- the product with the corner

  module _ (k j : ℕ) (b : Terms A) (long : start +ℤ pos k ≡ m) (more : k ≤ j) (corner : b ≡ corner_terms r legs j) where
    abbrev moved : Terms A
    moved = moved_terms r floor m s shift

    abbrev product : Terms A
    product = series_product r b moved

    abbrev counted : ℕ → ℕ
    counted q = number ((start +ℤ pos q) -ℤ shift)

    length-moved : length moved.coefficients ≡ suc k
    length-moved = let l = moved-length r floor m s shift in let a = above_is start (m +ℤ pos 1) in omega (arith, ints)

    length-corner : length b.coefficients ≡ suc j
    length-corner = ap (λ (x : Terms A). length x.coefficients) corner ∙ length-listed (extras_times r legs) (suc j)

    low-corner : b.low ≡ pos 0
    low-corner = ap (λ (x : Terms A). x.low) corner

    lengths : min (length b.coefficients) (length moved.coefficients) ≡ suc k
    lengths = let x = length-moved in let y = length-corner in omega arith

    length-product : length product.coefficients ≡ suc k
    length-product = length-listed (convolution r (at r b.coefficients) (at r moved.coefficients)) (min (length b.coefficients) (length moved.coefficients)) ∙ lengths

    corner-at : (i : ℕ) → i ≤ j → at r b.coefficients i ≡ times r (count legs i)
    corner-at i l = ap (λ (x : Terms A). at r x.coefficients i) corner ∙ (at-listed r (extras_times r legs) (suc j) i (omega arith) ∙ extras_times-is r legs i)

    moved-at : (q : ℕ) → q ≤ k → at r moved.coefficients q ≡ times r (counted q)
    moved-at q l =
        let a = above_is start (m +ℤ pos 1) in
        moved-coefficient r floor m s shift q (omega (arith, ints)) ∙ of ((start +ℤ pos q) -ℤ shift) (omega (arith, ints))

    split-at : (i : ℤ) (p q : ℕ) → i ≡ start +ℤ pos p → q ≤ p → split (count legs) counted p q ≡ factor i q
    split-at i p q e l = split_is (count legs) counted p q ∙ ap (λ z. count legs q * number z) (term-place start i shift p q e l)

    convolved-at : (i : ℤ) (p : ℕ) → i ≡ start +ℤ pos p → convolved (count legs) counted p ≡ total_below (factor i) (suc p)
    convolved-at i p e = convolved_is (count legs) counted p ∙ total_below-same (split (count legs) counted p) (factor i) (suc p) (λ q l. split-at i p q e (omega arith))

    product-at : (i : ℤ) (p : ℕ) → i ≡ start +ℤ pos p → p ≤ k → convolution r (at r b.coefficients) (at r moved.coefficients) p ≡ times r (join_number w d n t h g v i)
    product-at i p e l =
        let room = few k long in
        convolution-same r (at r b.coefficients) (multiples r (count legs)) (at r moved.coefficients) (multiples r counted) p (λ q a. corner-at q (omega arith)) (λ q a. moved-at q (omega arith))
        ∙ (convolution-multiples laws (count legs) counted p
        ∙ (ap (times r) (convolved-at i p e)
        ∙ sym (stops i (suc p) (boxes - p) (omega arith) (omega (arith, ints)) (λ q over. omega (arith, ints)))))

    product-low : product.low ≡ start
    product-low = let e = low-corner in omega (arith, ints)

    product-number : (i : ℤ) → i ≤ℤ m → coefficient r product i ≡ times r (join_number w d n t h g v i)
    product-number i l = by_place (i -ℤ start) refl
      where
        by_place : (z : ℤ) → i -ℤ start ≡ z → coefficient r product i ≡ times r (join_number w d n t h g v i)
        by_place (negsuc x) e =
            let low = product-low in
            coefficient_below r product i (omega (arith, ints)) ∙ number-below i l (omega (arith, ints))
        by_place (pos p) e =
            let low = product-low in
            let first : product.low ≤ℤ i = omega (arith, ints) in
            let adds = above_adds product.low i first in
            let place : above product.low i ≡ p = omega (arith, ints) in
            let total = lengths in
            coefficient_at r product i first
            ∙ (ap (at r product.coefficients) place
            ∙ (at-listed r (convolution r (at r b.coefficients) (at r moved.coefficients)) (min (length b.coefficients) (length moved.coefficients)) p (omega (arith, ints))
            ∙ product-at i p (omega (arith, ints)) (omega (arith, ints))))

    product-joined : IsJoined r w d n t h g v m product
    product-joined =
        let low = product-low in let l = length-product in let e = stage.upto in let f = stage.floor in
        let floor_is = moved-floor r floor m s shift in
        record {
          known = omega (arith, ints);
          low = omega (arith, ints);
          numbers = λ i within. product-number i (omega (arith, ints));
        }

    product-within : unsigned_abs (product_upto b moved) ≤ 2 ^ 60
    product-within =
        let x = length-moved in let y = length-corner in let z = low-corner in
        let e = stage.upto in let o = stage.order in let q = stage.lowest in
        omega (arith, ints, clamps)

    module _ (sizes : SizeLaws IsValue r) where
      product-reaches : ReachesAddUp r b.coefficients moved.coefficients
      product-reaches i l a c =
          let x = length-moved in let y = length-corner in
          rw (corner-at i (omega arith), moved-at l (omega arith), reach-times laws sizes (count legs i), reach-times laws sizes (counted l)) (omega arith)

      product-wide : (i : ℤ) → IsProductWide r b moved i → IsCrowded r w d n v
      product-wide i wide =
          let p = wide.place in
          let within : p ≤ k = let x = wide.within in let y = lengths in omega arith in
          let at_exponent : i ≡ start +ℤ pos p = let x = wide.exponent in let y = low-corner in omega (arith, ints) in
          let room = few k long in
          let size : size_convolution r (at r b.coefficients) (at r moved.coefficients) p ≤ convolved (count legs) counted p * r.size r.unit =
          size_convolution-multiples laws sizes (at r b.coefficients) (at r moved.coefficients) (count legs) counted p (λ q a. corner-at q (omega arith)) (λ q a. moved-at q (omega arith)) in
          let some : convolved (count legs) counted p ≤ join_number w d n t h g v i =
          rw (convolved-at i p at_exponent, number-is i) (total-fewer (factor i) (suc p) (suc boxes) (boxes - p) (omega arith)) in
          let bound : join_number w d n t h g v i ≤ crowd w (no_legs w) d n v =
          crowd_of_join w (no_legs w) d t h g v i n graded (no_diagrams w) most stage.corner (let e = stage.upto in omega (arith, ints)) join.first join.new in
          let all : convolved (count legs) counted p * r.size r.unit ≤ crowd w (no_legs w) d n v * r.size r.unit = mul-le-mul_right (r.size r.unit) (le_trans some bound) in
          le_trans wide.wide (le_trans size all)

  -- ---- nothing stands through the greatest exponent kept

  empty-joined : m <ℤ start → IsJoined r w d n t h g v m (moved_terms r floor m s shift)
  empty-joined none =
      let e = stage.upto in let f = stage.floor in
      let floor_is = moved-floor r floor m s shift in
      let known_is = moved-known r floor m s shift in
      record {
        known = omega (arith, ints);
        low = omega (arith, ints);
        numbers = λ i within.
            coefficient_below r (moved_terms r floor m s shift) i (omega (arith, ints))
            ∙ number-below i (omega (arith, ints)) (omega (arith, ints));
      }

  -- ---- the series that the call has

  module _ (a : Terms A) (is : a ≡ moved_terms r floor m s shift) where
    starts : a.low ≡ start
    starts = ap (λ (x : Terms A). x.low) is

    pub moved-small : unsigned_abs a.low ≤ 200000001
    moved-small =
        let low = starts in let f = stage.small_low in let e = stage.small_upto in let o = stage.rises in
        omega (arith, ints, clamps)

    pub moved-joined : m <ℤ a.low → IsJoined r w d n t h g v m a
    moved-joined past = let low = starts in rw is (empty-joined (omega (arith, ints)))

    module _ (k : ℕ) (long : a.low +ℤ pos k ≡ m) where
      to-end : start +ℤ pos k ≡ m
      to-end = let low = starts in omega (arith, ints)

      pub corner-crowded : (i : ℕ) → i ≤ k → limit < count legs i * r.size r.unit → IsCrowded r w d n near
      corner-crowded i l beyond = corner-wide k to-end i l beyond

      module _ (b : Terms A) (corner : IsCornerFrom r legs k b) where
        pub mul-within : unsigned_abs (product_upto b a) ≤ 2 ^ 60
        mul-within = rw is (product-within k corner.0 b to-end corner.1 corner.2)

        pub mul-joined : (p : Terms A) → p ≡ series_product r b a → IsJoined r w d n t h g v m p
        mul-joined p e = rw (e, is) (product-joined k corner.0 b to-end corner.1 corner.2)

        pub mul-reaches : SizeLaws IsValue r → ReachesAddUp r b.coefficients a.coefficients
        mul-reaches sizes = rw is (product-reaches k corner.0 b to-end corner.1 corner.2 sizes)

        pub mul-crowded : SizeLaws IsValue r → (i : ℤ) → IsProductWide r b a i → IsCrowded r w d n v
        mul-crowded sizes i wide =
            let P : Terms A → Type 0 = λ x. IsProductWide r b x i in
            product-wide k corner.0 b to-end corner.1 corner.2 sizes i (subst P is wide)
