-- What the calls of a polynomial put together is the sum, the product or the negative, and stays within reach.
use Rattle.std.proofs.Common.{◌≡◌, ℕ, ◌+◌, ◌-◌, ◌*◌, ◌<◌, ◌≤◌, ◌^◌, max, ℤ, pos, true, ◌∷◌, ◌+ℤ◌, unsigned_abs, List, [], ◌++◌, length, take, drop, Err, refl, sym, ◌∙◌, ap, arith, inl, inr}
use Rattle.std.specs.Int.{int_min}
use Rattle.std.proofs.lemmas.Int.{ints}
use Rattle.std.proofs.lemmas.Bool.{cases_lt}
use Rattle.std.specs.Result.{IsErrOf}
use Rattle.tv_ring.specs.Operations.{Operations, RingLaws, SizeLaws, limit, reach_limit}
use Rattle.tv_ring.specs.Sums.{AreValues, at, convolution, size_convolution}
use Rattle.tv_ring.specs.declared.fault.RingFault.{RingFault}
use Rattle.tv_ring.specs.declared.fault.RingFault.TheVariants as ring
use Rattle.tv_laws_series.specs.Terms.{Terms, terms, above, padded, from, known, listed, plus, IsWithin}
use Rattle.tv_laws_series.specs.Polynomials.{normal, negatives, row_size, is_empty, IsPoly, IsKept, poly_reach, poly_sum, poly_product, poly_negative}
use Rattle.tv_laws_series.proofs.Listed.{length-listed, length-between, at-between}
use Rattle.tv_laws_series.proofs.SeriesFrom.{value_listed}
use Rattle.tv_laws_series.proofs.PolyFrom.{value_sum_row, value_product_row, value_negatives}
use Rattle.tv_laws_series.proofs.PolyRing.{poly_laws}
use Rattle.tv_laws_series.proofs.PolySizes.{size-padded, size_convolution-row}
use Rattle.tv_laws_series.proofs.PolyReach.{reach-poly_sum, reach-poly_product, reach-poly_negative}
use Rattle.tv_laws_series.proofs.PolyKept.{low_within, length_within, coefficient_reach, all_nought, normal_between}
use Rattle.tv_laurent.specs.SeriesCalls.{IsWideAt, OnWide, ReachesAddUp, sum_size}
use Rattle.tv_laurent.specs.Faults.{IsWithoutExponent}
use Rattle.tv_laurent.specs.PolyCalls.{outward}
use Rattle.tv_laurent.specs.declared.fault.SeriesFault.{SeriesFault}
use Rattle.tv_laurent.specs.declared.fault.SeriesFault.TheVariants.{Wide, Memory}
use Rattle.tv_laurent.proofs.SeriesCalls.{sum_size_is}
use Rattle.tv_laurent.proofs.SeriesResults.{from_padded}

-- a fault whose exponent is left out is Wide where that of the series is
pub wide_without : {P : ℤ → Type 0} {Q : Type 0} (fault : SeriesFault) (result : RingFault) → IsWithoutExponent fault result → OnWide fault P → ((n : ℤ) → P n → Q) → result ≡ ring.Wide → Q
wide_without (Wide n) result e w f is = f n w
wide_without Memory result e w f is = let z : ring.Memory ≡ ring.Wide = sym e ∙ is in cc

is_empty-none : {A : Type 0} (xs : List A) → length xs ≡ 0 → is_empty xs ≡ true
is_empty-none [] e = refl
is_empty-none (x ∷ xs) e = absurd (omega arith)

-- a sum where one side is zero
module _ {A : Type 0} {IsValue : A → Type 0} {r : Operations A} (laws : RingLaws IsValue r) (a b : Terms A) (na : IsPoly IsValue r a) (nb : IsPoly IsValue r b) where
  pub sum-zero : length b.coefficients ≡ 0 → poly_sum r a b ≡ a
  sum-zero none = ap (poly_sum r a) ((poly_laws laws).only_nought b nb (is_empty-none b.coefficients none)) ∙ (poly_laws laws).add-nought a na

-- the row whose normal form is p
pub record IsRowOf {A : Type 0} (IsValue : A → Type 0) (r : Operations A) (low : ℤ) (items : List A) (p : Terms A) : Type 0 where
  pub same : normal r low items ≡ p
  pub values : AreValues IsValue (at r items)
  pub reach : poly_reach r (normal r low items) ≤ reach_limit

module _ {A : Type 0} {IsValue : A → Type 0} {r : Operations A} (laws : RingLaws IsValue r) (size_laws : SizeLaws IsValue r) where
  row_of : (low l : ℤ) (items row : List A) (p : Terms A) → low ≡ l → items ≡ row → normal r l row ≡ p → AreValues IsValue (at r row) → poly_reach r p ≤ reach_limit → IsRowOf IsValue r low items p
  row_of low l items row p el ei e v most =
      let same : normal r low items ≡ p = rw (el, ei) e in
      record { same = same; values = rw ei v; reach = rw same most }

  pub sum_row : (a b : Terms A) (low : ℤ) (d e count : ℕ) (xs ys items : List A) → IsKept IsValue r a → IsKept IsValue r b → xs ≡ a.coefficients → ys ≡ b.coefficients → low ≡ int_min a.low b.low → d ≡ above (int_min a.low b.low) a.low → e ≡ above (int_min a.low b.low) b.low → count ≡ max (d + length xs) (e + length ys)
      → items ≡ listed (plus r (padded r d (at r xs)) (padded r e (at r ys))) count → IsRowOf IsValue r low items (poly_sum r a b)
  sum_row a b low d e count xs ys items ka kb ex ey el ed ee ec ei =
      let m = int_min a.low b.low in let n = max (known m a) (known m b) in
      let c' : count ≡ n = ec ∙ rw (ed, ee, ex, ey) refl in
      let most : poly_reach r (poly_sum r a b) ≤ reach_limit = let s = reach-poly_sum laws size_laws a b ka.normal_form kb.normal_form in let p = ka.reach in let q = kb.reach in omega arith in
      row_of low m items (listed (plus r (from r m a) (from r m b)) n) (poly_sum r a b) el (ei ∙ rw (ex, ey, ed, ee, c', from_padded r m a, from_padded r m b) refl) refl
      (value_sum_row laws m a b n ka.normal_form.values kb.normal_form.values) most

  pub product_row : (a b : Terms A) (low : ℤ) (count : ℕ) (xs ys items : List A) → IsKept IsValue r a → IsKept IsValue r b → poly_reach r a + poly_reach r b ≤ reach_limit → xs ≡ a.coefficients → ys ≡ b.coefficients → low ≡ a.low +ℤ b.low → count ≡ length xs + length ys - 1
      → items ≡ listed (convolution r (at r xs) (at r ys)) count → IsRowOf IsValue r low items (poly_product r a b)
  product_row a b low count xs ys items ka kb add ex ey el ec ei =
      let n = length a.coefficients + length b.coefficients - 1 in
      let c' : count ≡ n = ec ∙ rw (ex, ey) refl in
      let most : poly_reach r (poly_product r a b) ≤ reach_limit = let s = reach-poly_product laws size_laws a b ka.normal_form kb.normal_form in omega arith in
      row_of low (a.low +ℤ b.low) items (listed (convolution r (at r a.coefficients) (at r b.coefficients)) n) (poly_product r a b) el (ei ∙ rw (c', ex, ey) refl) refl
      (value_product_row laws a b n ka.normal_form.values kb.normal_form.values) most

  pub negative_row : (a : Terms A) (low : ℤ) (xs items : List A) → IsKept IsValue r a → xs ≡ a.coefficients → low ≡ a.low → items ≡ listed (negatives r (at r xs)) (length xs) → IsRowOf IsValue r low items (poly_negative r a)
  negative_row a low xs items ka ex el ei =
      let most : poly_reach r (poly_negative r a) ≤ reach_limit = let s = reach-poly_negative laws size_laws a ka.normal_form in let p = ka.reach in omega arith in
      row_of low a.low items (listed (negatives r (at r a.coefficients)) (length a.coefficients)) (poly_negative r a) el (ei ∙ rw ex refl) refl
      (value_listed laws (negatives r (at r a.coefficients)) (length a.coefficients) (value_negatives laws (at r a.coefficients) ka.normal_form.values)) most

  -- ---- what the calls ask

  pub product_low : (a b : Terms A) → IsKept IsValue r a → IsKept IsValue r b → poly_reach r a + poly_reach r b ≤ reach_limit → IsWithin (a.low +ℤ b.low)
  product_low a b ka kb add = let p = low_within laws size_laws a ka.normal_form in let q = low_within laws size_laws b kb.normal_form in omega (arith, ints)

  pub product_count : (a b : Terms A) → IsKept IsValue r a → IsKept IsValue r b → poly_reach r a + poly_reach r b ≤ reach_limit → length a.coefficients + length b.coefficients ≤ 2 ^ 62
  product_count a b ka kb add = let p = length_within laws size_laws a ka.normal_form in let q = length_within laws size_laws b kb.normal_form in omega arith

  pub product_reaches : (a b : Terms A) (xs ys : List A) → xs ≡ a.coefficients → ys ≡ b.coefficients → IsKept IsValue r a → IsKept IsValue r b → poly_reach r a + poly_reach r b ≤ reach_limit → ReachesAddUp r xs ys
  product_reaches a b xs ys ex ey ka kb add = rw (ex, ey) (λ i j hi hj.
      let p = coefficient_reach laws size_laws a i ka.normal_form hi in let q = coefficient_reach laws size_laws b j kb.normal_form hj in omega arith)

  -- ---- a coefficient that is too wide

  pub sum_sizes_wide : (d e k : ℕ) (xs ys : List A) → limit < sum_size r (padded r d (at r xs)) (padded r e (at r ys)) k → limit < row_size r xs + row_size r ys
  sum_sizes_wide d e k xs ys wide =
      let a = size-padded laws size_laws d xs k in let b = size-padded laws size_laws e ys k in let s = sum_size_is r (padded r d (at r xs)) (padded r e (at r ys)) k in omega arith

  pub product_sizes_wide : (k : ℕ) (xs ys : List A) → limit < size_convolution r (at r xs) (at r ys) k → limit < row_size r xs * row_size r ys
  product_sizes_wide k xs ys wide = let a = size_convolution-row laws size_laws xs ys k in omega arith

  -- ---- the zeros at both ends

  pub nothing_left : (low : ℤ) (xs row none : List A) (front : ℕ) → row ≡ xs → none ≡ [] → AreValues IsValue (at r xs) → front ≡ length xs → ((i : ℕ) → i < front → at r row i ≡ r.nought) → terms (pos 0) none ≡ normal r low xs
  nothing_left low xs row none front er en v ef zeros =
      ap (terms (pos 0)) en ∙ all_nought laws size_laws low xs v (λ i h. rw (← er) (zeros i (omega arith)))

  pub something_before : (xs row row' : List A) (front end : ℕ) → row ≡ xs → row' ≡ xs → front < length xs → (front < length row → at r row front ≡ r.nought → ⊥) → ((i : ℕ) → end ≤ i → at r row' i ≡ r.nought) → front < end
  something_before xs row row' front end er er' inside first after = elim (cases_lt front end) as (λ _. front < end) [
    | inl h ↦ h
    | inr h ↦ let n = ap length er in absurd (first (omega arith) (rw er (let z = after front h in rw er' at z)))
  ]

  pub what_is_left : (low l : ℤ) (xs row row' ys zs us : List A) (front end : ℕ) → row ≡ xs → row' ≡ xs → l ≡ low +ℤ pos front → AreValues IsValue (at r xs) → front < length xs → end ≤ length row'
      → ((i : ℕ) → i < front → at r row i ≡ r.nought) → (front < length row → at r row front ≡ r.nought → ⊥) → ((i : ℕ) → end ≤ i → at r row' i ≡ r.nought) → (0 < end → at r row' (end - 1) ≡ r.nought → ⊥)
      → ys ≡ take end xs → zs ≡ drop front ys ++ take front ys → us ≡ take (end - front) zs → terms l us ≡ normal r low xs
  what_is_left low l xs row row' ys zs us front end er er' el v inside within before first after last ey ez eu =
      let n = ap length er in let n' = ap length er' in let h : end ≤ length xs = omega arith in
      ap (λ m. terms m us) el ∙ normal_between laws size_laws low xs us front end v inside h (λ i b. rw (← er) (before i b)) (λ i b. rw (← er') (after i b)) (λ z. first (omega arith) (rw er z)) (λ b z. last b (rw er' z))
      (length-between xs ys zs us front end h ey ez eu) (λ i b. at-between r xs ys zs us front end i h ey ez eu b)

pub outward_is : {A : Type 0} (r : Operations A) (low : ℤ) (f : ℕ → A) (k : ℕ) → outward r low f k ≡ unsigned_abs (low +ℤ pos k) + r.reach (f k)
unfolding outward
outward_is r low f k = refl

pub length_is : {A : Type 0} (f : ℕ → A) (n : ℕ) (items : List A) → items ≡ listed f n → length items ≡ n
length_is f n items e = ap length e ∙ length-listed f n

module _ {A : Type 0} {IsValue : A → Type 0} {r : Operations A} (laws : RingLaws IsValue r) (size_laws : SizeLaws IsValue r) where
  -- a sum that is too wide, as a ring's fault
  pub sum_fault : {T : Type 0} (a b : Terms A) (low : ℤ) (d e count : ℕ) (xs ys : List A) (fault : SeriesFault) (result : RingFault) → xs ≡ a.coefficients → ys ≡ b.coefficients → IsWithoutExponent fault result
      → OnWide fault (λ n. IsWideAt low n count (sum_size r (padded r d (at r xs)) (padded r e (at r ys)))) → IsErrOf {T = T} (Err result) ring.Wide → limit < row_size r a.coefficients + row_size r b.coefficients
  sum_fault a b low d e count xs ys fault result ex ey without wide h =
      let is : result ≡ ring.Wide = cc in
      rw (← ex, ← ey) (wide_without fault result without wide (λ n w. sum_sizes_wide laws size_laws d e w.place xs ys w.wide) is)

  pub product_fault : {T : Type 0} (a b : Terms A) (low : ℤ) (count : ℕ) (xs ys : List A) (fault : SeriesFault) (result : RingFault) → xs ≡ a.coefficients → ys ≡ b.coefficients → IsWithoutExponent fault result
      → OnWide fault (λ n. IsWideAt low n count (size_convolution r (at r xs) (at r ys))) → IsErrOf {T = T} (Err result) ring.Wide → limit < row_size r a.coefficients * row_size r b.coefficients
  product_fault a b low count xs ys fault result ex ey without wide h =
      let is : result ≡ ring.Wide = cc in
      rw (← ex, ← ey) (wide_without fault result without wide (λ n w. product_sizes_wide laws size_laws w.place xs ys w.wide) is)
