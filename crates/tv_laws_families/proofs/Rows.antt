-- A series of multiples of one, divided by another one that begins with one, has the multiples of the quotient.
use Rattle.std.proofs.Common.{◌≡◌, ℕ, suc, ◌-◌, ◌<◌, ◌≤◌, min, length, refl, sym, ap, ◌∙◌, arith}
use Rattle.std.specs.Prelude.{ℤ, pos, ◌+ℤ◌, ◌≤ℤ◌, ◌<ℤ◌, int_lt, if◌then◌else◌}
use Rattle.std.specs.Int.{int_min}
use Rattle.std.proofs.lemmas.Int.{ints, by_lt_z, clamps}
use Rattle.tv_ring.specs.Operations.{Operations, RingLaws}
use Rattle.tv_ring.specs.Whole.{wholes}
use Rattle.tv_ring.specs.WholeLaws.{whole_laws}
use Rattle.tv_ring.specs.Sums.{at, term, convolution, whole_times}
use Rattle.tv_ring.proofs.Rings.{nought-mul}
use Rattle.tv_ring.proofs.Sums.{sum_below-same, sum-nought}
use Rattle.tv_ring.proofs.Products.{term_is, convolution_is, convolution-same}
use Rattle.tv_ring.proofs.Times.{times-none, times-one, whole_times-pos, value_whole_times}
use Rattle.tv_laws_series.specs.Terms.{Terms, above, upto}
use Rattle.tv_laws_series.specs.Series.{series_product}
use Rattle.tv_laws_series.specs.SeriesLaws.{HasValues}
use Rattle.tv_laws_series.specs.Quotients.{quotient_upto, series_quotient, IsUnitSeries}
use Rattle.tv_laws_series.proofs.Exponents.{above_is, above_same, above_adds}
use Rattle.tv_laws_series.proofs.Quotients.{quotient, quotient-convolution, only_quotient, length-quotients}
use Rattle.tv_laws_series.proofs.SeriesQuotients.{value_series_quotient, quotient-product}
use Rattle.tv_spec_series.specs.Families.{coefficient}
use Rattle.tv_spec_series.specs.Reduced.{product_at, IsQuotient}
use Rattle.tv_spec_series.proofs.Products.{from, product-below, product-at}
use Rattle.tv_spec_series.proofs.Order.{int_lt-true, int_lt-false}
use Rattle.tv_laws_series.proofs.Coefficients.{coefficient_below, coefficient_at, coefficient-cut, coefficient-product, upto-cut, value_coefficient}
use Rattle.tv_laws_families.proofs.Products.{multiples, convolution-multiples}

-- what is known of dividend and divisor
pub record IsGiven {A : Type 0} (IsValue : A → Type 0) (r : Operations A) (n : ℤ) (z g : ℤ → ℤ) (a b : Terms A) : Type 0 where
  pub dividend_values : HasValues IsValue r a
  pub divisor_values : HasValues IsValue r b
  pub unit : IsUnitSeries r b
  pub known : upto a ≡ n
  pub reaches : n ≤ℤ (a.low +ℤ upto b)
  pub dividend : (i : ℤ) → i ≤ℤ n → coefficient r a i ≡ whole_times r (z i)
  pub divisor : (j : ℤ) → j ≤ℤ upto b → coefficient r b j ≡ whole_times r (g j)
  pub one : g (pos 0) ≡ pos 1
  pub begins : (j : ℤ) → j <ℤ pos 0 → g j ≡ pos 0
  pub least : ℤ
  pub none : (i : ℤ) → i <ℤ least → z i ≡ pos 0

-- the quotient from an exponent on
abbrev pub quotient_from : (ℤ → ℤ) → (ℤ → ℤ) → ℤ → ℤ → ℤ
quotient_from z g low i = if int_lt i low then pos 0 else quotient wholes (from z low) (from g (pos 0)) (above low i)

pub quotient_from-below : (z g : ℤ → ℤ) (low i : ℤ) → i <ℤ low → quotient_from z g low i ≡ pos 0
quotient_from-below z g low i h = rw (int_lt-true i low h) refl

pub quotient_from-at : (z g : ℤ → ℤ) (low : ℤ) (k : ℕ) → quotient_from z g low (low +ℤ pos k) ≡ quotient wholes (from z low) (from g (pos 0)) k
quotient_from-at z g low k =
    let e : above low (low +ℤ pos k) ≡ k = omega (arith, ints, above_is low (low +ℤ pos k)) in
    rw (int_lt-false (low +ℤ pos k) low (omega (arith, ints)), e) refl

unfoldable pub quotient_is : (n : ℤ) (z g : ℤ → ℤ) (low : ℤ) → g (pos 0) ≡ pos 1 → ((j : ℤ) → j <ℤ pos 0 → g j ≡ pos 0) → ((i : ℤ) → i <ℤ low → z i ≡ pos 0) → IsQuotient n z g (quotient_from z g low)
quotient_is n z g low one begins none = record {
  low = low;
  first = pos 0;
  none = quotient_from-below z g low;
  begins = record { none = begins; some = λ e. omega (arith, ints) };
  product = λ m h. by_lt_z m low
      (λ below. product-below low (pos 0) (quotient_from z g low) g m (omega (arith, ints)) ∙ sym (none m below))
      (λ reached. let e : low +ℤ pos (above low m) ≡ m = above_adds low m reached in
      let at : (low +ℤ pos 0) +ℤ pos (above low m) ≡ m = omega (arith, ints) in
      ap (product_at low (pos 0) (quotient_from z g low) g) (sym at)
      ∙ (product-at low (pos 0) (quotient_from z g low) g (above low m)
      ∙ (convolution-same wholes (from (quotient_from z g low) low) (quotient wholes (from z low) (from g (pos 0))) (from g (pos 0)) (from g (pos 0)) (above low m) (λ i _. quotient_from-at z g low i) (λ i _. refl)
      ∙ (quotient-convolution whole_laws (from z low) (from g (pos 0)) (above low m) (λ i. tt) (λ i. tt) one ∙ ap z e))));
}

module _ {A : Type 0} {IsValue : A → Type 0} {r : Operations A} (laws : RingLaws IsValue r) where
  whole_times-none : whole_times r (pos 0) ≡ r.nought
  whole_times-none = whole_times-pos r 0 ∙ times-none r

  convolution-nought : (f g : ℕ → A) (k : ℕ) → ((i : ℕ) → i ≤ k → f i ≡ r.nought) → ((i : ℕ) → IsValue (g i)) → convolution r f g k ≡ r.nought
  convolution-nought f g k none values = convolution_is r f g k ∙ sum-nought laws (term r f g k) (suc k) (λ i h. rw (term_is r f g k i, none i (omega arith)) (nought-mul laws (g (k - i)) (values (k - i))))

  -- where the dividend is nought at first, so is the quotient
  quotient-nought : (F G : ℕ → ℤ) (d k : ℕ) → G 0 ≡ pos 1 → r.unit ≡ whole_times r (pos 1) → ((i : ℕ) → i < d → whole_times r (F i) ≡ r.nought) → k < d → whole_times r (quotient wholes F G k) ≡ r.nought
  quotient-nought F G d k one unit none h =
      let wF = multiples r F in let wG = multiples r G in let q = quotient wholes F G in
      let starts : wG 0 ≡ r.unit = ap (whole_times r) one ∙ sym unit in
      only_quotient laws wF wG (multiples r q) d k (λ i. value_whole_times laws (q i)) (λ i. value_whole_times laws (G i)) starts
      (λ i l. convolution-multiples laws q G i ∙ ap (whole_times r) (quotient-convolution whole_laws F G i (λ j. tt) (λ j. tt) one)) h
      ∙ sym (only_quotient laws wF wG (λ i. r.nought) d k (λ i. laws.value_nought) (λ i. value_whole_times laws (G i)) starts
      (λ i l. convolution-nought (λ j. r.nought) wG i (λ j m. refl) (λ j. value_whole_times laws (G j)) ∙ sym (none i l)) h)

  module _ (n : ℤ) (z g : ℤ → ℤ) (a b : Terms A) (given : IsGiven IsValue r n z g a b) where
    abbrev quotients_at : ℕ → A
    quotients_at k = coefficient r (series_quotient r a b) (int_min a.low given.least +ℤ pos k)

    abbrev divisor_at : ℕ → A
    divisor_at k = coefficient r b (pos 0 +ℤ pos k)

    abbrev wholes_at : ℕ → ℤ
    wholes_at = quotient wholes (from z (int_min a.low given.least)) (from g (pos 0))

    unit_is : r.unit ≡ whole_times r (pos 1)
    unit_is = sym (whole_times-pos r 1 ∙ times-one laws)

    divisor_one : divisor_at 0 ≡ r.unit
    divisor_one = let l = given.unit.low in coefficient_at r b (pos 0) (omega (arith, ints)) ∙ (ap (λ (m : ℤ). at r b.coefficients (above m (pos 0))) given.unit.low ∙ (ap (at r b.coefficients) (above_same (pos 0)) ∙ given.unit.unit))

    known_through : quotient_upto a b ≡ n
    known_through = let k = given.known in let h = given.reaches in omega (arith, ints, clamps)

    product_known : upto (series_product r (series_quotient r a b) b) ≡ n
    product_known = ap upto (quotient-product laws a b given.dividend_values given.divisor_values given.unit) ∙ (upto-cut (quotient_upto a b) a ∙ (let k = given.known in let h = known_through in omega (arith, ints, clamps)))

    -- the series' quotient, convolved with the divisor
    series_product_at : (j : ℕ) → (int_min a.low given.least +ℤ pos j) ≤ℤ n → convolution r quotients_at divisor_at j ≡ whole_times r (from z (int_min a.low given.least) j)
    series_product_at j h =
        let m = int_min a.low given.least in
        let at_j : (m +ℤ pos 0) +ℤ pos j ≡ m +ℤ pos j = omega (arith, ints) in
        sym (coefficient-product laws m (pos 0) (series_quotient r a b) b j (value_series_quotient laws a b given.dividend_values given.divisor_values) given.divisor_values (omega (arith, ints, clamps)) (let l = given.unit.low in omega (arith, ints)) (let k = product_known in omega (arith, ints)))
        ∙ (ap (coefficient r (series_product r (series_quotient r a b) b)) at_j
        ∙ (ap (λ (s : Terms A). coefficient r s (m +ℤ pos j)) (quotient-product laws a b given.dividend_values given.divisor_values given.unit)
        ∙ (coefficient-cut r (quotient_upto a b) a (m +ℤ pos j) (let k = known_through in omega (arith, ints))
        ∙ given.dividend (m +ℤ pos j) h)))

    -- the whole quotient's multiples, convolved with the divisor: where the divisor isn't known they are nought
    term_same : (j i : ℕ) → (int_min a.low given.least +ℤ pos j) ≤ℤ n → i ≤ j → term r (multiples r wholes_at) divisor_at j i ≡ term r (multiples r wholes_at) (multiples r (from g (pos 0))) j i
    term_same j i h l = by_lt_z (int_min a.low given.least +ℤ pos i) a.low
        (λ early. let none : whole_times r (wholes_at i) ≡ r.nought = quotient-nought (from z (int_min a.low given.least)) (from g (pos 0)) (above (int_min a.low given.least) a.low) i given.one unit_is
        (λ k within. sym (given.dividend (int_min a.low given.least +ℤ pos k) (omega (arith, ints, above_is (int_min a.low given.least) a.low))) ∙ coefficient_below r a (int_min a.low given.least +ℤ pos k) (omega (arith, ints, above_is (int_min a.low given.least) a.low)))
        (omega (arith, ints, above_is (int_min a.low given.least) a.low)) in
        rw (term_is r (multiples r wholes_at) divisor_at j i, term_is r (multiples r wholes_at) (multiples r (from g (pos 0))) j i, none)
        (nought-mul laws (divisor_at (j - i)) (value_coefficient laws b (pos 0 +ℤ pos (j - i)) given.divisor_values) ∙ sym (nought-mul laws (multiples r (from g (pos 0)) (j - i)) (value_whole_times laws (g (pos 0 +ℤ pos (j - i)))))))
        (λ late. rw (term_is r (multiples r wholes_at) divisor_at j i, term_is r (multiples r wholes_at) (multiples r (from g (pos 0))) j i)
        (ap (r.mul (whole_times r (wholes_at i))) (given.divisor (pos 0 +ℤ pos (j - i)) (let k = given.reaches in omega (arith, ints)))))

    wholes_product_at : (j : ℕ) → (int_min a.low given.least +ℤ pos j) ≤ℤ n → convolution r (multiples r wholes_at) divisor_at j ≡ whole_times r (from z (int_min a.low given.least) j)
    wholes_product_at j h =
        convolution_is r (multiples r wholes_at) divisor_at j
        ∙ (sum_below-same r (term r (multiples r wholes_at) divisor_at j) (term r (multiples r wholes_at) (multiples r (from g (pos 0))) j) (suc j) (λ i l. term_same j i h (omega arith))
        ∙ (sym (convolution_is r (multiples r wholes_at) (multiples r (from g (pos 0))) j)
        ∙ (convolution-multiples laws wholes_at (from g (pos 0)) j
        ∙ ap (whole_times r) (quotient-convolution whole_laws (from z (int_min a.low given.least)) (from g (pos 0)) j (λ i. tt) (λ i. tt) given.one))))

    at_place : (k : ℕ) → (int_min a.low given.least +ℤ pos k) ≤ℤ n → quotients_at k ≡ whole_times r (wholes_at k)
    at_place k h =
        let F = λ (j : ℕ). whole_times r (from z (int_min a.low given.least) j) in
        let values = λ (j : ℕ). value_coefficient laws b (pos 0 +ℤ pos j) given.divisor_values in
        only_quotient laws F divisor_at quotients_at (suc k) k (λ j. value_coefficient laws (series_quotient r a b) (int_min a.low given.least +ℤ pos j) (value_series_quotient laws a b given.dividend_values given.divisor_values)) values divisor_one
        (λ j l. series_product_at j (omega (arith, ints))) (omega arith)
        ∙ sym (only_quotient laws F divisor_at (multiples r wholes_at) (suc k) k (λ j. value_whole_times laws (wholes_at j)) values divisor_one
        (λ j l. wholes_product_at j (omega (arith, ints))) (omega arith))

    pub quotient_value : (i : ℤ) → i ≤ℤ n → coefficient r (series_quotient r a b) i ≡ whole_times r (quotient_from z g (int_min a.low given.least) i)
    quotient_value i h = by_lt_z i (int_min a.low given.least)
        (λ below. coefficient_below r (series_quotient r a b) i (omega (arith, ints, clamps)) ∙ (sym whole_times-none ∙ ap (whole_times r) (sym (quotient_from-below z g (int_min a.low given.least) i below))))
        (λ reached. let e : int_min a.low given.least +ℤ pos (above (int_min a.low given.least) i) ≡ i = above_adds (int_min a.low given.least) i reached in
        ap (coefficient r (series_quotient r a b)) (sym e)
        ∙ (at_place (above (int_min a.low given.least) i) (omega (arith, ints))
        ∙ ap (whole_times r) (sym (quotient_from-at z g (int_min a.low given.least) (above (int_min a.low given.least) i)) ∙ ap (quotient_from z g (int_min a.low given.least)) e)))

    unfoldable pub given_quotient : IsQuotient n z g (quotient_from z g (int_min a.low given.least))
    given_quotient = quotient_is n z g (int_min a.low given.least) given.one given.begins (λ i h. given.none i (omega (arith, ints, clamps)))

    pub given_quotient-low : given_quotient.low ≡ int_min a.low given.least
    unfolding given_quotient quotient_is
    given_quotient-low = refl

    pub given_quotient-first : given_quotient.first ≡ pos 0
    unfolding given_quotient quotient_is
    given_quotient-first = refl

    pub quotient_known : upto (series_quotient r a b) ≡ n
    quotient_known =
        let l = length-quotients r (at r a.coefficients) (at r b.coefficients) (min (length a.coefficients) (length b.coefficients)) in
        let k = given.known in let h = given.reaches in let u = given.unit.low in let v = given.unit.known in
        omega (arith, ints)
