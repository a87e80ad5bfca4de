-- The sizes of polynomials: of a normal form, and of sums, products and negatives.
use Rattle.std.proofs.Common.{◌≡◌, ℕ, zero, suc, ◌+◌, ◌-◌, ◌*◌, ◌<◌, ◌≤◌, max, ℤ, pos, ◌+ℤ◌, true, List, [], ◌∷◌, ◌++◌, length, refl, sym, ◌∙◌, ap, arith, le_trans, mul-add, add-mul}
use Rattle.std.specs.Int.{int_min}
use Rattle.std.proofs.lemmas.Nat.{mul-le}
use Rattle.tv_ring.specs.Operations.{Operations, RingLaws, SizeLaws}
use Rattle.tv_ring.specs.Sums.{AreValues, at, convolution, total_below, size_term, size_convolution}
use Rattle.tv_ring.proofs.Sums.{total_below-none, total_below-more, total_below-same, total_below-≤}
use Rattle.tv_ring.proofs.Products.{size_term_is, size_convolution_is}
use Rattle.tv_ring.proofs.Sizes.{size-convolution}
use Rattle.tv_laws_series.specs.Terms.{Terms, above, padded, from, known, listed, plus}
use Rattle.tv_laws_series.specs.Polynomials.{onto, trimmed, normal, negatives, row_size, poly_one, poly_sum, poly_product, poly_negative}
use Rattle.tv_laws_series.proofs.Listed.{listed-none, listed-more, listed_all}
use Rattle.tv_laws_series.proofs.Padded.{padded_zero, padded_first, padded_next, plus_is}
use Rattle.tv_laws_series.proofs.SeriesFrom.{from_is, value_from, value_listed}
use Rattle.tv_laws_series.proofs.NormalForm.{at-nil, at-first, at-next, bool_cases, trimmed-nil, trimmed-cons, normal-nil, normal-nought, normal-here, heads, tails}
use Rattle.tv_laws_series.proofs.PolyFrom.{negatives_is, value_sum_row, value_product_row, value_negatives}

-- the sizes of a sequence
sizes : {A : Type 0} → Operations A → (ℕ → A) → ℕ → ℕ
sizes r f k = r.size (f k)

sizes_is : {A : Type 0} (r : Operations A) (f : ℕ → A) (k : ℕ) → sizes r f k ≡ r.size (f k)
unfolding sizes
sizes_is r f k = refl

pub row_size-nil : {A : Type 0} (r : Operations A) → row_size r [] ≡ 0
unfolding row_size
row_size-nil r = refl

row_size-cons : {A : Type 0} (r : Operations A) (x : A) (xs : List A) → row_size r (x ∷ xs) ≡ r.size x + row_size r xs
unfolding row_size
row_size-cons r x xs = refl

row_size-append : {A : Type 0} (r : Operations A) (xs : List A) (y : A) → row_size r (xs ++ y ∷ []) ≡ row_size r xs + r.size y
row_size-append r [] y = rw (row_size-cons r y [], row_size-nil r) (omega arith)
row_size-append r (x ∷ xs) y = rw (row_size-cons r x (xs ++ y ∷ []), row_size-cons r x xs, row_size-append r xs y) (omega arith)

row_size-listed : {A : Type 0} (r : Operations A) (f : ℕ → A) (n : ℕ) → row_size r (listed f n) ≡ total_below (sizes r f) n
row_size-listed r f zero = rw (listed-none f, row_size-nil r, total_below-none (sizes r f)) refl
row_size-listed r f (suc n) = let e : suc n ≡ n + 1 = omega arith in let rest = row_size-listed r f n in
    rw (total_below-more (sizes r f) n, e, listed-more f n, row_size-append r (listed f n) (f n), rest, sizes_is r f n) refl

-- ---- totals of numbers

total-front : (a : ℕ → ℕ) (n : ℕ) → total_below a (suc n) ≡ a 0 + total_below (λ k. a (suc k)) n
total-front a zero = rw (total_below-more a 0, total_below-none a, total_below-none (λ k. a (suc k))) (omega arith)
total-front a (suc n) = let rest = total-front a n in rw (total_below-more a (suc n), rest, total_below-more (λ k. a (suc k)) n) (omega arith)

total-line : (c : ℕ) (b e : ℕ → ℕ) (n : ℕ) → total_below (λ k. c * b k + e k) n ≡ c * total_below b n + total_below e n
total-line c b e zero = rw (total_below-none (λ k. c * b k + e k), total_below-none b, total_below-none e) (omega arith)
total-line c b e (suc n) = let rest = total-line c b e n in
    rw (total_below-more (λ k. c * b k + e k) n, total_below-more b n, total_below-more e n, rest, mul-add c (total_below b n) (b n)) (omega arith)

total-single : (a : ℕ → ℕ) (k : ℕ) → a k ≤ total_below a (suc k)
total-single a k = rw (total_below-more a k) (omega arith)

size_convolution-front : {A : Type 0} (r : Operations A) (f g : ℕ → A) (k : ℕ) → size_convolution r f g (suc k) ≡ r.size (f 0) * r.size (g (suc k)) + size_convolution r (λ i. f (suc i)) g k
size_convolution-front r f g k =
    let e : suc k - 0 ≡ suc k = omega arith in
    rw (
      size_convolution_is r f g (suc k),
      total-front (size_term r f g (suc k)) (suc k),
      size_term_is r f g (suc k) 0,
      e,
      size_convolution_is r (λ i. f (suc i)) g k,
      total_below-same (λ i. size_term r f g (suc k) (suc i)) (size_term r (λ i. f (suc i)) g k) (suc k) each,
    ) refl where
      each : (i : ℕ) → i < suc k → size_term r f g (suc k) (suc i) ≡ size_term r (λ i. f (suc i)) g k i
      each i h = let e : suc k - suc i ≡ k - i = omega arith in rw (size_term_is r f g (suc k) (suc i), e, size_term_is r (λ i. f (suc i)) g k i) refl

size_convolution-first : {A : Type 0} (r : Operations A) (f g : ℕ → A) → size_convolution r f g 0 ≡ r.size (f 0) * r.size (g 0)
size_convolution-first r f g = rw (size_convolution_is r f g 0, total_below-more (size_term r f g 0) 0, total_below-none (size_term r f g 0), size_term_is r f g 0 0) (omega arith)

-- the sizes of all the terms of a product, added up, are at most the product of both sums
total-convolution : {A : Type 0} (r : Operations A) (f g : ℕ → A) (n : ℕ) → total_below (size_convolution r f g) n ≤ total_below (sizes r f) n * total_below (sizes r g) n
total-convolution r f g zero = rw (total_below-none (size_convolution r f g)) (omega arith)
total-convolution r f g (suc n) =
    let f' = λ (i : ℕ). f (suc i) in let c = r.size (f 0) in let b = λ (k : ℕ). r.size (g (suc k)) in
    let rest = total-convolution r f' g n in
    let tf = total_below (sizes r f') n in let tg = total_below (sizes r g) (suc n) in
    let less : total_below (sizes r g) n ≤ tg = rw (total_below-more (sizes r g) n) (omega arith) in
    let wider : tf * total_below (sizes r g) n ≤ tf * tg = mul-le tf (total_below (sizes r g) n) tf tg (omega arith) less in
    let spread : total_below (λ k. size_convolution r f g (suc k)) n ≡ c * total_below b n + total_below (size_convolution r f' g) n =
    total_below-same (λ k. size_convolution r f g (suc k)) (λ k. c * b k + size_convolution r f' g k) n (λ k _. size_convolution-front r f g k) ∙ total-line c b (size_convolution r f' g) n in
    let front : tg ≡ r.size (g 0) + total_below b n = total-front (sizes r g) n ∙ rw (sizes_is r g 0, total_below-same (λ k. sizes r g (suc k)) b n (λ k _. sizes_is r g (suc k))) refl in
    let both : total_below (sizes r f) (suc n) ≡ c + tf = total-front (sizes r f) n ∙ rw (sizes_is r f 0, total_below-same (λ k. sizes r f (suc k)) (sizes r f') n (λ k _. sizes_is r f (suc k) ∙ sym (sizes_is r f' k))) refl in
    let line : c * tg ≡ c * r.size (g 0) + c * total_below b n = ap (λ t. c * t) front ∙ mul-add c (r.size (g 0)) (total_below b n) in
    rw (total-front (size_convolution r f g) n, spread, size_convolution-first r f g, both, add-mul c tf tg) (omega arith)

module _ {A : Type 0} {IsValue : A → Type 0} {r : Operations A} (laws : RingLaws IsValue r) (size_laws : SizeLaws IsValue r) where
  -- ---- a normal form

  size_zero : (x : A) → IsValue x → r.is_nought x ≡ true → r.size x ≡ 0
  size_zero x v e = ap r.size (laws.only_nought x v e) ∙ size_laws.size-nought

  row_size-onto : (x : A) (ys : List A) → IsValue x → row_size r (onto r x ys) ≡ r.size x + row_size r ys
  row_size-onto x (y ∷ ys) v = row_size-cons r x (y ∷ ys)
  row_size-onto x [] v = bool_cases (r.is_nought x) (λ e. let z = size_zero x v e in let n = row_size-nil r in rw e (omega arith)) (λ e. rw e (row_size-cons r x []))

  row_size-trimmed : (xs : List A) → AreValues IsValue (at r xs) → row_size r (trimmed r xs) ≡ row_size r xs
  row_size-trimmed [] v = rw (trimmed-nil r) refl
  row_size-trimmed (x ∷ xs) v = rw (trimmed-cons r x xs, row_size-onto x (trimmed r xs) (heads laws x xs v), row_size-trimmed xs (tails laws x xs v), row_size-cons r x xs) refl

  pub row_size-normal : (low : ℤ) (xs : List A) → AreValues IsValue (at r xs) → row_size r (normal r low xs).coefficients ≡ row_size r xs
  row_size-normal low [] v = rw (normal-nil r low) refl
  row_size-normal low (x ∷ xs) v = bool_cases (r.is_nought x)
      (λ e. let z = size_zero x (heads laws x xs v) e in let rest = row_size-normal (low +ℤ pos 1) xs (tails laws x xs v) in rw (normal-nought r low x xs e, rest, row_size-cons r x xs) (omega arith))
      (λ e. let rest = row_size-trimmed xs (tails laws x xs v) in rw (normal-here r low x xs e, row_size-cons r x (trimmed r xs), row_size-cons r x xs, rest) refl)

  -- ---- a row and its sequence

  total-at : (xs : List A) (n : ℕ) → total_below (sizes r (at r xs)) n ≤ row_size r xs
  total-at xs zero = rw (total_below-none (sizes r (at r xs))) (omega arith)
  total-at [] (suc n) = let rest = total-at [] n in let z : sizes r (at r []) n ≡ 0 = sizes_is r (at r []) n ∙ ap r.size (at-nil r n) ∙ size_laws.size-nought in rw (total_below-more (sizes r (at r [])) n) (omega arith)
  total-at (x ∷ xs) (suc n) =
      let rest = total-at xs n in
      let moved : total_below (λ k. sizes r (at r (x ∷ xs)) (suc k)) n ≡ total_below (sizes r (at r xs)) n =
      total_below-same (λ k. sizes r (at r (x ∷ xs)) (suc k)) (sizes r (at r xs)) n (λ k _. sizes_is r (at r (x ∷ xs)) (suc k) ∙ ap r.size (at-next r x xs k) ∙ sym (sizes_is r (at r xs) k)) in
      let first : sizes r (at r (x ∷ xs)) 0 ≡ r.size x = sizes_is r (at r (x ∷ xs)) 0 ∙ ap r.size (at-first r x xs) in
      rw (total-front (sizes r (at r (x ∷ xs))) n, moved, first, row_size-cons r x xs) (omega arith)

  total-padded : (d : ℕ) (f : ℕ → A) (n : ℕ) → total_below (sizes r (padded r d f)) n ≤ total_below (sizes r f) n
  total-padded d f zero = rw (total_below-none (sizes r (padded r d f)), total_below-none (sizes r f)) (omega arith)
  total-padded zero f (suc n) = let e = total_below-same (sizes r (padded r 0 f)) (sizes r f) (suc n) (λ k _. sizes_is r (padded r 0 f) k ∙ ap r.size (padded_zero r f k) ∙ sym (sizes_is r f k)) in rw e (omega arith)
  total-padded (suc d) f (suc n) =
      let rest = total-padded d f n in
      let moved : total_below (λ k. sizes r (padded r (suc d) f) (suc k)) n ≡ total_below (sizes r (padded r d f)) n =
      total_below-same (λ k. sizes r (padded r (suc d) f) (suc k)) (sizes r (padded r d f)) n (λ k _. sizes_is r (padded r (suc d) f) (suc k) ∙ ap r.size (padded_next r d f k) ∙ sym (sizes_is r (padded r d f) k)) in
      let first : sizes r (padded r (suc d) f) 0 ≡ 0 = sizes_is r (padded r (suc d) f) 0 ∙ ap r.size (padded_first r d f) ∙ size_laws.size-nought in
      rw (total-front (sizes r (padded r (suc d) f)) n, moved, first, total_below-more (sizes r f) n) (omega arith)

  total-from : (m : ℤ) (p : Terms A) (n : ℕ) → total_below (sizes r (from r m p)) n ≤ row_size r p.coefficients
  total-from m p n =
      let e = total_below-same (sizes r (from r m p)) (sizes r (padded r (above m p.low) (at r p.coefficients))) n (λ k _. sizes_is r (from r m p) k ∙ ap r.size (from_is r m p k) ∙ sym (sizes_is r (padded r (above m p.low) (at r p.coefficients)) k)) in
      rw e (le_trans (total-padded (above m p.low) (at r p.coefficients) n) (total-at p.coefficients n))

  -- a coefficient is no greater than the polynomial
  pub size-from : (m : ℤ) (p : Terms A) (k : ℕ) → r.size (from r m p k) ≤ row_size r p.coefficients
  size-from m p k = let one = total-single (sizes r (from r m p)) k in let all = total-from m p (suc k) in let e = sizes_is r (from r m p) k in omega arith

  pub size-padded : (d : ℕ) (xs : List A) (k : ℕ) → r.size (padded r d (at r xs) k) ≤ row_size r xs
  size-padded d xs k =
      let f = padded r d (at r xs) in
      let one = total-single (sizes r f) k in let e = sizes_is r f k in let all = total-padded d (at r xs) (suc k) in let whole = total-at xs (suc k) in omega arith

  -- nor are the terms of a coefficient of a product
  pub size_convolution-row : (xs ys : List A) (k : ℕ) → size_convolution r (at r xs) (at r ys) k ≤ row_size r xs * row_size r ys
  size_convolution-row xs ys k =
      let one = total-single (size_convolution r (at r xs) (at r ys)) k in let all = total-convolution r (at r xs) (at r ys) (suc k) in
      le_trans one (le_trans all (mul-le (total_below (sizes r (at r xs)) (suc k)) (total_below (sizes r (at r ys)) (suc k)) (row_size r xs) (row_size r ys) (total-at xs (suc k)) (total-at ys (suc k))))

  -- ---- sums, products, negatives

  total-plus : (f g : ℕ → A) (n : ℕ) → AreValues IsValue f → AreValues IsValue g → total_below (sizes r (plus r f g)) n ≤ total_below (sizes r f) n + total_below (sizes r g) n
  total-plus f g zero v w = rw (total_below-none (sizes r (plus r f g))) (omega arith)
  total-plus f g (suc n) v w =
      let rest = total-plus f g n v w in let here = size_laws.size-add (f n) (g n) (v n) (w n) in
      rw (total_below-more (sizes r (plus r f g)) n, total_below-more (sizes r f) n, total_below-more (sizes r g) n, sizes_is r (plus r f g) n, plus_is r f g n, sizes_is r f n, sizes_is r g n) (omega arith)

  pub size-poly_sum : (p q : Terms A) → AreValues IsValue (at r p.coefficients) → AreValues IsValue (at r q.coefficients) → row_size r (poly_sum r p q).coefficients ≤ row_size r p.coefficients + row_size r q.coefficients
  size-poly_sum p q vp vq =
      let m = int_min p.low q.low in let n = max (known m p) (known m q) in
      let both = total-plus (from r m p) (from r m q) n (value_from laws m p vp) (value_from laws m q vq) in let a = total-from m p n in let b = total-from m q n in
      rw (row_size-normal m (listed (plus r (from r m p) (from r m q)) n) (value_sum_row laws m p q n vp vq), row_size-listed r (plus r (from r m p) (from r m q)) n) (omega arith)

  pub size-poly_product : (p q : Terms A) → AreValues IsValue (at r p.coefficients) → AreValues IsValue (at r q.coefficients) → row_size r (poly_product r p q).coefficients ≤ row_size r p.coefficients * row_size r q.coefficients
  size-poly_product p q vp vq =
      let f = at r p.coefficients in let g = at r q.coefficients in let n = length p.coefficients + length q.coefficients - 1 in
      let each = total_below-≤ (sizes r (convolution r f g)) (size_convolution r f g) n (λ k _. rw (sizes_is r (convolution r f g) k) (size-convolution laws size_laws f g k vp vq)) in
      rw (row_size-normal (p.low +ℤ q.low) (listed (convolution r f g) n) (value_product_row laws p q n vp vq), row_size-listed r (convolution r f g) n)
      (le_trans each (le_trans (total-convolution r f g n) (mul-le (total_below (sizes r f) n) (total_below (sizes r g) n) (row_size r p.coefficients) (row_size r q.coefficients) (total-at p.coefficients n) (total-at q.coefficients n))))

  pub size-poly_negative : (p : Terms A) → AreValues IsValue (at r p.coefficients) → row_size r (poly_negative r p).coefficients ≡ row_size r p.coefficients
  size-poly_negative p v =
      let xs = p.coefficients in let f = negatives r (at r xs) in let n = length xs in
      let whole : row_size r xs ≡ total_below (sizes r (at r xs)) n = ap (row_size r) (listed_all r (at r xs) xs n refl (λ k _. refl)) ∙ row_size-listed r (at r xs) n in
      rw (row_size-normal p.low (listed f n) (value_listed laws f n (value_negatives laws (at r xs) v)), row_size-listed r f n, whole)
      (total_below-same (sizes r f) (sizes r (at r xs)) n (λ k _. sizes_is r f k ∙ ap r.size (negatives_is r (at r xs) k) ∙ size_laws.size-neg (at r xs k) (v k) ∙ sym (sizes_is r (at r xs) k)))

  pub size-poly_one : row_size r (poly_one r).coefficients ≤ 1
  size-poly_one =
      let one = size_laws.size-unit in let n = row_size-nil r in
      rw (row_size-normal (pos 0) (r.unit ∷ []) single, row_size-cons r r.unit []) (omega arith) where
        single : AreValues IsValue (at r (r.unit ∷ []))
        single zero = rw (at-first r r.unit []) laws.value_unit
        single (suc k) = rw (at-next r r.unit [] k, at-nil r k) laws.value_nought
