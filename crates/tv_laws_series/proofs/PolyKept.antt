-- What a bounded reach says of the exponents and coefficients of a polynomial.
use Rattle.std.proofs.Common.{◌≡◌, ℕ, ◌+◌, ◌-◌, ◌<◌, ◌≤◌, ℤ, pos, ◌+ℤ◌, unsigned_abs, ◌≤ℤ◌, false, List, [], ◌∷◌, length, sym, ◌∙◌, ap, subst, arith, inl, inr}
use Rattle.std.specs.Int.{int_min}
use Rattle.std.proofs.lemmas.Int.{ints, clamps}
use Rattle.std.proofs.lemmas.Bool.{cases_lt}
use Rattle.tv_ring.specs.Operations.{Operations, RingLaws, SizeLaws, reach_limit}
use Rattle.tv_ring.specs.Sums.{AreValues, at}
use Rattle.tv_laws_series.specs.Terms.{Terms, terms, above, padded, from, upto, IsBounded}
use Rattle.tv_laws_series.specs.Polynomials.{trimmed, normal, IsPoly, IsKept, reach_at, greatest_below, poly_reach, poly_zero}
use Rattle.tv_laws_series.proofs.Exponents.{above_is}
use Rattle.tv_laws_series.proofs.Listed.{at_past, values_all}
use Rattle.tv_laws_series.proofs.Padded.{padded-same, padded_before, padded_after}
use Rattle.tv_laws_series.proofs.SeriesFrom.{from_is, from_lower}
use Rattle.tv_laws_series.proofs.NormalForm.{at-first, trimmed-nil, normal-nil, normal-nought, normal-here, bool_cases, nil_is_poly, from_nil, from-normal, normal_is_poly, normal_low, same_poly}
use Rattle.tv_laws_series.proofs.PolyRing.{value_single}
use Rattle.tv_laws_series.proofs.PolyReach.{reach-poly_zero, at_reaches, greatest_least, greatest_bounds, reach_at_nought, reach_at_here, poly_reach_is}

module _ {A : Type 0} {IsValue : A → Type 0} {r : Operations A} (laws : RingLaws IsValue r) (size_laws : SizeLaws IsValue r) where
  -- the ends of a polynomial that is not zero
  ends : (p : Terms A) → IsPoly IsValue r p → 0 < length p.coefficients → (unsigned_abs p.low ≤ poly_reach r p) × (unsigned_abs (upto p) ≤ poly_reach r p)
  ends p np h =
      let n = length p.coefficients - 1 in
      let first = at_reaches laws size_laws p 0 h (np.first h) in let last = at_reaches laws size_laws p n (omega arith) (np.last h) in
      (omega (arith, ints), omega (arith, ints))

  -- the exponents of a polynomial are within its reach
  pub low_within : (p : Terms A) → IsPoly IsValue r p → unsigned_abs p.low ≤ poly_reach r p
  low_within p np = elim (cases_lt 0 (length p.coefficients)) as (λ _. unsigned_abs p.low ≤ poly_reach r p) [
    | inl some ↦ let e = ends p np some in e.0
    | inr none ↦ let low = np.none (omega arith) in omega (arith, ints)
  ]

  pub length_within : (p : Terms A) → IsPoly IsValue r p → length p.coefficients ≤ poly_reach r p + poly_reach r p + 1
  length_within p np = elim (cases_lt 0 (length p.coefficients)) as (λ _. length p.coefficients ≤ poly_reach r p + poly_reach r p + 1) [
    | inl some ↦ let e = ends p np some in let a = e.0 in let b = e.1 in omega (arith, ints)
    | inr none ↦ omega arith
  ]

  poly_is_bounded : (p : Terms A) → IsPoly IsValue r p → poly_reach r p ≤ reach_limit → IsBounded p
  poly_is_bounded p np most = elim (cases_lt 0 (length p.coefficients)) as (λ _. IsBounded p) [
    | inl some ↦ let e = ends p np some in let a = e.0 in let b = e.1 in record { low = omega (arith, ints); upto = omega (arith, ints) }
    | inr none ↦ let z : length p.coefficients ≡ 0 = omega arith in let low = np.none z in record { low = omega (arith, ints); upto = omega (arith, ints) }
  ]

  kept : (p : Terms A) → IsPoly IsValue r p → poly_reach r p ≤ reach_limit → IsKept IsValue r p
  kept p np most = record { normal_form = np; reach = most; bounded = poly_is_bounded p np most }

  pub zero_kept : IsKept IsValue r poly_zero
  zero_kept = kept poly_zero (nil_is_poly laws) (let z = reach-poly_zero laws size_laws in omega arith)

  pub normal_kept : (low : ℤ) (xs : List A) → AreValues IsValue (at r xs) → poly_reach r (normal r low xs) ≤ reach_limit → IsKept IsValue r (normal r low xs)
  normal_kept low xs v most = kept (normal r low xs) (normal_is_poly laws low xs v) most

  pub same_kept : (p q : Terms A) → p ≡ q → IsKept IsValue r q → IsKept IsValue r p
  same_kept p q e k = subst (IsKept IsValue r) (sym e) k

  -- a single coefficient
  pub value_single_row : (x : A) (xs : List A) → xs ≡ x ∷ [] → IsValue x → AreValues IsValue (at r xs)
  value_single_row x xs e v = rw e (value_single laws x v)

  pub term_reach : (n : ℤ) (x : A) → IsValue x → poly_reach r (normal r n (x ∷ [])) ≤ unsigned_abs n + r.reach x
  term_reach n x v = bool_cases (r.is_nought x)
      (λ e. let z = reach-poly_zero laws size_laws in rw (normal-nought r n x [] e, normal-nil r (n +ℤ pos 1)) (omega arith))
      (λ e. let row : trimmed r [] ≡ [] = trimmed-nil r in
      rw (normal-here r n x [] e, row, poly_reach_is r (terms n (x ∷ [])))
      (greatest_least (reach_at r n (at r (x ∷ []))) 1 (unsigned_abs n + r.reach x) (λ k h.
      let z : k ≡ 0 = omega arith in let f : at r (x ∷ []) 0 ≡ x = at-first r x [] in let e' : r.is_nought (at r (x ∷ []) 0) ≡ false = rw f e in
      rw (z, reach_at_here r n (at r (x ∷ [])) 0 e', f) (omega (arith, ints)))))

  -- each coefficient with its exponent is within the reach, a nought in between too
  pub outward_within : (p : Terms A) (k : ℕ) → IsPoly IsValue r p → k < length p.coefficients → unsigned_abs (p.low +ℤ pos k) + r.reach (at r p.coefficients k) ≤ poly_reach r p
  outward_within p k np h = bool_cases (r.is_nought (at r p.coefficients k))
      (λ e.
      let z : r.reach (at r p.coefficients k) ≡ 0 = ap r.reach (laws.only_nought (at r p.coefficients k) (np.values k) e) ∙ size_laws.reach-nought in
      let both = ends p np (omega arith) in let a = both.0 in let b = both.1 in omega (arith, ints))
      (λ e. at_reaches laws size_laws p k h e)

  pub coefficient_reach : (p : Terms A) (k : ℕ) → IsPoly IsValue r p → k < length p.coefficients → r.reach (at r p.coefficients k) ≤ poly_reach r p
  coefficient_reach p k np h = let most = outward_within p k np h in omega arith

  -- the greatest of all of these is the reach
  pub greatest_is_reach : (p : Terms A) (f : ℕ → ℕ) → IsPoly IsValue r p → ((k : ℕ) → f k ≡ unsigned_abs (p.low +ℤ pos k) + r.reach (at r p.coefficients k)) → greatest_below f (length p.coefficients) ≡ poly_reach r p
  greatest_is_reach p f np e =
      let n = length p.coefficients in let g = reach_at r p.low (at r p.coefficients) in
      let at_most = greatest_least f n (poly_reach r p) (λ k h. rw (e k) (outward_within p k np h)) in
      let at_least : greatest_below g n ≤ greatest_below f n = greatest_least g n (greatest_below f n) (λ k h. bool_cases (r.is_nought (at r p.coefficients k))
      (λ b. let z = reach_at_nought r p.low (at r p.coefficients) k b in omega arith)
      (λ b. let here = reach_at_here r p.low (at r p.coefficients) k b in let same = e k in let bound = greatest_bounds f n k h in omega arith)) in
      let i = poly_reach_is r p in omega arith

  -- ---- from a row without the noughts at its ends to the normal form

  pub all_nought : (low : ℤ) (xs : List A) → AreValues IsValue (at r xs) → ((i : ℕ) → i < length xs → at r xs i ≡ r.nought) → poly_zero ≡ normal r low xs
  all_nought low xs v z =
      let m = int_min low (pos 0) in let l : m ≤ℤ low = omega (arith, ints, clamps) in let o : m ≤ℤ pos 0 = omega (arith, ints, clamps) in
      same_poly laws m poly_zero (normal r low xs) (nil_is_poly laws) (normal_is_poly laws low xs v) o (normal_low laws m low xs l o)
      (λ k. from_nil laws m (pos 0) k ∙ sym (from-normal laws m low xs k l v ∙ from_is r m (terms low xs) k ∙ nowhere (above m low) k)) where
        everywhere : (i : ℕ) → at r xs i ≡ r.nought
        everywhere i = elim (cases_lt i (length xs)) as (λ _. at r xs i ≡ r.nought) [ inl h ↦ z i h | inr h ↦ at_past r xs i h ]

        nowhere : (d k : ℕ) → padded r d (at r xs) k ≡ r.nought
        nowhere d k = elim (cases_lt k d) as (λ _. padded r d (at r xs) k ≡ r.nought) [
          | inl below ↦ padded_before r d (at r xs) k below
          | inr fine ↦ padded_after r d (at r xs) k fine ∙ everywhere (k - d)
        ]

  -- ys is what is left of xs after the noughts before front and from end on
  pub normal_between : (low : ℤ) (xs ys : List A) (front end : ℕ) → AreValues IsValue (at r xs) → front < length xs → end ≤ length xs
      → ((i : ℕ) → i < front → at r xs i ≡ r.nought) → ((i : ℕ) → end ≤ i → at r xs i ≡ r.nought)
      → (at r xs front ≡ r.nought → ⊥) → (0 < end → at r xs (end - 1) ≡ r.nought → ⊥)
      → length ys ≡ end - front → ((i : ℕ) → i < end - front → at r ys i ≡ at r xs (front + i))
      → terms (low +ℤ pos front) ys ≡ normal r low xs
  normal_between low xs ys front end v inside within before after first last n each =
      let m = int_min low (pos 0) in let l : m ≤ℤ low = omega (arith, ints, clamps) in let o : m ≤ℤ pos 0 = omega (arith, ints, clamps) in
      let p = terms (low +ℤ pos front) ys in let l' : m ≤ℤ (low +ℤ pos front) = omega (arith, ints) in
      same_poly laws m p (normal r low xs) between_is_poly (normal_is_poly laws low xs v) l' (normal_low laws m low xs l o)
      (λ k. sym (from_lower r m low p k l (omega (arith, ints))) ∙ padded-same r (above m low) (from r low p) (at r xs) k (λ i _. same_places i) ∙ sym (from-normal laws m low xs k l v ∙ from_is r m (terms low xs) k)) where
        some : front < end
        some = elim (cases_lt front end) as (λ _. front < end) [ inl h ↦ h | inr h ↦ absurd (first (after front h)) ]

        values : AreValues IsValue (at r ys)
        values = values_all laws ys (λ k h. let e = each k (let z = n in omega arith) in rw e (v (front + k)))

        false_at : (x : A) → IsValue x → (x ≡ r.nought → ⊥) → r.is_nought x ≡ false
        false_at x w h = bool_cases (r.is_nought x) (λ b. absurd (h (laws.only_nought x w b))) (λ b. b)

        between_is_poly : IsPoly IsValue r (terms (low +ℤ pos front) ys)
        between_is_poly = record {
          values = values;
          none = λ z. let s = some in let z' = n in absurd (omega arith);
          first = λ h. let e = each 0 (let z' = n in omega arith) in let f : front + 0 ≡ front = omega arith in rw (e, f) (false_at (at r xs front) (v front) first);
          last = λ h. let s = some in
              let e = each (end - front - 1) (omega arith) in let f : front + (end - front - 1) ≡ end - 1 = omega arith in
              rw (n, e, f) (false_at (at r xs (end - 1)) (v (end - 1)) (last (omega arith)));
        }

        inside_or_past : (j i : ℕ) → front + j ≡ i → at r ys j ≡ at r xs i
        inside_or_past j i e = elim (cases_lt j (end - front)) as (λ _. at r ys j ≡ at r xs i) [
          | inl h ↦ each j h ∙ ap (at r xs) e
          | inr h ↦ at_past r ys j (let z = n in omega arith) ∙ sym (after i (let s = some in omega arith))
        ]

        same_places : (i : ℕ) → from r low (terms (low +ℤ pos front) ys) i ≡ at r xs i
        same_places i =
            let d : above low (low +ℤ pos front) ≡ front = omega (arith, ints, above_is low (low +ℤ pos front)) in
            from_is r low (terms (low +ℤ pos front) ys) i ∙ rw d (elim (cases_lt i front) as (λ _. padded r front (at r ys) i ≡ at r xs i) [
              | inl below ↦ padded_before r front (at r ys) i below ∙ sym (before i below)
              | inr fine ↦ padded_after r front (at r ys) i fine ∙ inside_or_past (i - front) i (omega arith)
            ])
