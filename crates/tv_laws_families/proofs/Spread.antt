-- The sizes that meet in a division are at most the spread, times the size of one.
use Rattle.std.proofs.Common.{◌≡◌, ℕ, zero, suc, ◌+◌, ◌-◌, ◌*◌, ◌<◌, ◌≤◌, min, length, refl, sym, ap, ◌∙◌, arith, add-mul, mul_comm, mul_assoc}
use Rattle.std.specs.Prelude.{ℤ, pos, ◌+ℤ◌, ◌-ℤ◌, unsigned_abs}
use Rattle.std.specs.Int.{int_min}
use Rattle.std.proofs.lemmas.Int.{ints, clamps}
use Rattle.std.proofs.lemmas.Nat.{mul-le}
use Rattle.tv_ring.specs.Operations.{Operations, RingLaws, SizeLaws, limit}
use Rattle.tv_ring.specs.Sums.{at, total_below, size_term, whole_times}
use Rattle.tv_ring.proofs.Sums.{total_below-none, total_below-more, total_below-same, total_below-≤, total_below-fewer}
use Rattle.tv_ring.proofs.Products.{size_term_is}
use Rattle.tv_ring.proofs.Sizes.{size-whole_times}
use Rattle.tv_laws_series.specs.Terms.{Terms, above}
use Rattle.tv_laws_series.specs.Quotients.{series_quotient}
use Rattle.tv_laws_series.proofs.Exponents.{above_is}
use Rattle.tv_laws_counts.proofs.Convolutions.{after_first, total_below-front, total_below-times}
use Rattle.tv_spec_series.specs.Reduced.{quotient_size}
use Rattle.tv_laws_series.proofs.Coefficients.{coefficient_at}
use Rattle.tv_spec_series.proofs.Products.{quotient_size_is}
use Rattle.tv_laws_families.proofs.Rows.{IsGiven, quotient_from, quotient_value}

-- a sum from its last term on
abbrev backwards : (ℕ → ℕ) → ℕ → ℕ → ℕ
backwards f n j = f ((n - 1) - j)

total_below-back : (f : ℕ → ℕ) (n : ℕ) → total_below f n ≡ total_below (backwards f n) n
total_below-back f zero = total_below-none f ∙ sym (total_below-none (backwards f zero))
total_below-back f (suc n) =
    let rest : total_below (after_first (backwards f (suc n))) n ≡ total_below (backwards f n) n = total_below-same (after_first (backwards f (suc n))) (backwards f n) n (λ j h. ap f (omega arith)) in
    let first : backwards f (suc n) 0 ≡ f n = ap f (omega arith) in
    let front = total_below-front (backwards f (suc n)) n in let more = total_below-more f n in let back = total_below-back f n in
    omega arith

-- with the size of one at most 1
small_product : (x y f g s : ℕ) → s ≤ 1 → x ≤ f * s → y ≤ g * s → x * y ≤ (f * g) * s
small_product x y f g s one a b =
    let first : f * s ≤ f * 1 = mul-le f s f 1 (omega arith) one in
    let both : x * y ≤ f * (g * s) = mul-le x y f (g * s) (omega arith) b in
    rw (mul_assoc f g s) both

module _ {A : Type 0} {IsValue : A → Type 0} {r : Operations A} (laws : RingLaws IsValue r) (sizes : SizeLaws IsValue r) (n : ℤ) (z g : ℤ → ℤ) (a b : Terms A) (given : IsGiven IsValue r n z g a b) where
  abbrev reduced : ℤ → ℤ
  reduced = quotient_from z g (int_min a.low given.least)

  -- the term with i, and the same from the divisor's side
  abbrev piece : ℤ → ℕ → ℕ → ℕ
  piece m place i = unsigned_abs (reduced (a.low +ℤ pos i)) * unsigned_abs (g (pos (place - i)))

  abbrev turned : ℤ → ℕ → ℕ
  turned m j = unsigned_abs (g (pos (suc j))) * unsigned_abs (reduced (m -ℤ pos (suc j)))

  first_size : (place : ℕ) (m : ℤ) → m ≡ a.low +ℤ pos place → place < length a.coefficients → r.size (at r a.coefficients place) ≤ unsigned_abs (z m) * r.size r.unit
  first_size place m e h =
      let k = given.known in
      let here : at r a.coefficients place ≡ whole_times r (z m) = ap (at r a.coefficients) (let p : place ≡ above a.low m = omega (arith, ints, above_is a.low m) in p) ∙ (sym (coefficient_at r a m (omega (arith, ints))) ∙ given.dividend m (omega (arith, ints))) in
      rw here (size-whole_times laws sizes (z m))

  piece_size : (place : ℕ) (m : ℤ) → m ≡ a.low +ℤ pos place → place < min (length a.coefficients) (length b.coefficients) → (i : ℕ) → i < place → size_term r (at r (series_quotient r a b).coefficients) (at r b.coefficients) place i ≤ piece m place i * r.size r.unit
  piece_size place m e h i l =
      let k = given.known in let low = given.unit.low in
      let left : at r (series_quotient r a b).coefficients i ≡ whole_times r (reduced (a.low +ℤ pos i)) =
      ap (at r (series_quotient r a b).coefficients) (let p : i ≡ above a.low (a.low +ℤ pos i) = omega (arith, ints, above_is a.low (a.low +ℤ pos i)) in p) ∙ (sym (coefficient_at r (series_quotient r a b) (a.low +ℤ pos i) (omega (arith, ints))) ∙ quotient_value laws n z g a b given (a.low +ℤ pos i) (omega (arith, ints))) in
      let right : at r b.coefficients (place - i) ≡ whole_times r (g (pos (place - i))) =
      ap (at r b.coefficients) (let p : place - i ≡ above b.low (pos (place - i)) = omega (arith, ints, above_is b.low (pos (place - i))) in p) ∙ (sym (coefficient_at r b (pos (place - i)) (omega (arith, ints))) ∙ given.divisor (pos (place - i)) (omega (arith, ints))) in
      rw (size_term_is r (at r (series_quotient r a b).coefficients) (at r b.coefficients) place i)
      (small_product _ _ (unsigned_abs (reduced (a.low +ℤ pos i))) (unsigned_abs (g (pos (place - i)))) (r.size r.unit) sizes.size-unit (rw left (size-whole_times laws sizes (reduced (a.low +ℤ pos i)))) (rw right (size-whole_times laws sizes (g (pos (place - i))))))

  pieces_turned : (place : ℕ) (m : ℤ) → m ≡ a.low +ℤ pos place → total_below (piece m place) place ≡ total_below (turned m) place
  pieces_turned place m e =
      total_below-back (piece m place) place
      ∙ total_below-same (backwards (piece m place) place) (turned m) place (λ j h.
      let back : a.low +ℤ pos ((place - 1) - j) ≡ m -ℤ pos (suc j) = omega (arith, ints) in
      let across : place - ((place - 1) - j) ≡ suc j = omega arith in
      ap (λ (x : ℤ). unsigned_abs (reduced x) * unsigned_abs (g (pos (place - ((place - 1) - j))))) back
      ∙ (ap (λ k. unsigned_abs (reduced (m -ℤ pos (suc j))) * unsigned_abs (g (pos k))) across
      ∙ mul_comm (unsigned_abs (reduced (m -ℤ pos (suc j)))) (unsigned_abs (g (pos (suc j))))))

  step_size : (low m : ℤ) → quotient_size z g reduced low (pos 0) m ≡ unsigned_abs (z m) + total_below (turned m) (above low m)
  step_size low m =
      let at : pos 0 +ℤ m ≡ m = omega (arith, ints) in
      let terms = total_below-same (λ j. unsigned_abs (g (pos 0 +ℤ pos (suc j))) * unsigned_abs (reduced (m -ℤ pos (suc j)))) (turned m) (above low m) (λ j h. ap (λ (i : ℤ). unsigned_abs (g i) * unsigned_abs (reduced (m -ℤ pos (suc j)))) (omega (arith, ints))) in
      quotient_size_is z g reduced low (pos 0) m
      ∙ (ap (λ (i : ℤ). unsigned_abs (z i) + total_below (λ j. unsigned_abs (g (pos 0 +ℤ pos (suc j))) * unsigned_abs (reduced (m -ℤ pos (suc j)))) (above low m)) at ∙ ap (λ t. unsigned_abs (z m) + t) terms)

  pub spread-wide : (place : ℕ) (m : ℤ) → m ≡ a.low +ℤ pos place → place < min (length a.coefficients) (length b.coefficients) → limit < r.size (at r a.coefficients place) + total_below (size_term r (at r (series_quotient r a b).coefficients) (at r b.coefficients) place) place → limit < quotient_size z g reduced (int_min a.low given.least) (pos 0) m * r.size r.unit
  spread-wide place m e h wide =
      let s = r.size r.unit in let low = int_min a.low given.least in
      let first = first_size place m e (omega arith) in
      let terms = total_below-≤ (size_term r (at r (series_quotient r a b).coefficients) (at r b.coefficients) place) (λ i. piece m place i * s) place (piece_size place m e h) in
      let out = total_below-times (piece m place) s place in
      let more : place + (above low m - place) ≡ above low m = omega (arith, ints, clamps, above_is low m) in
      let longer : total_below (turned m) place ≤ total_below (turned m) (above low m) = rw more at (total_below-fewer (turned m) place (above low m - place)) in
      let whole : total_below (piece m place) place ≤ total_below (turned m) (above low m) = rw (pieces_turned place m e) longer in
      let grown : total_below (piece m place) place * s ≤ total_below (turned m) (above low m) * s = mul-le (total_below (piece m place) place) s (total_below (turned m) (above low m)) s whole (omega arith) in
      let split = add-mul (unsigned_abs (z m)) (total_below (turned m) (above low m)) s in
      rw (step_size low m, split) (omega arith)
