-- Sums and products of series are commutative, associative and distributive to the order that both sides know.
use Rattle.std.proofs.Common.{◌≡◌, ℤ, ◌+ℤ◌, ◌≤ℤ◌, refl, sym, ◌∙◌, ap, arith}
use Rattle.std.specs.Int.{int_min}
use Rattle.std.proofs.lemmas.Int.{ints, clamps}
use Rattle.tv_ring.specs.Operations.{Operations, RingLaws}
use Rattle.tv_ring.specs.Sums.{convolution}
use Rattle.tv_ring.proofs.Products.{convolution-same, convolution_comm, convolution_assoc, convolution-add}
use Rattle.tv_laws_series.specs.Terms.{Terms, from}
use Rattle.tv_laws_series.specs.Series.{series_sum, series_product}
use Rattle.tv_laws_series.specs.SeriesLaws.{SeriesLaws, HasValues}
use Rattle.tv_laws_series.proofs.Exponents.{above_is, above_same}
use Rattle.tv_laws_series.proofs.SeriesFrom.{same_terms, value_from, known-sum, from-sum, known-product_at, from-product_at, value_series_sum, value_series_product}

≤ℤ_refl : (n : ℤ) → n ≤ℤ n
≤ℤ_refl n = omega (arith, ints)

module _ {A : Type 0} {IsValue : A → Type 0} {r : Operations A} (laws : RingLaws IsValue r) where
  sum_comm : (a b : Terms A) → HasValues IsValue r a → HasValues IsValue r b → series_sum r a b ≡ series_sum r b a
  sum_comm a b va vb =
      let m = int_min a.low b.low in
      let la : m ≤ℤ a.low = omega (arith, ints, clamps) in let lb : m ≤ℤ b.low = omega (arith, ints, clamps) in
      let turned : int_min b.low a.low ≡ m = omega (arith, ints, clamps) in
      let p = known-sum laws m a b la lb in let q = known-sum laws m b a lb la in
      same_terms r m (series_sum r a b) (series_sum r b a) refl turned (omega arith)
      (λ k h. from-sum laws m a b k va vb la lb h ∙ laws.add_comm (from r m a k) (from r m b k) (value_from laws m a va k) (value_from laws m b vb k) ∙ sym (from-sum laws m b a k vb va lb la (omega arith)))

  sum_assoc : (a b c : Terms A) → HasValues IsValue r a → HasValues IsValue r b → HasValues IsValue r c → series_sum r (series_sum r a b) c ≡ series_sum r a (series_sum r b c)
  sum_assoc a b c va vb vc =
      let ab = series_sum r a b in let bc = series_sum r b c in let m = int_min ab.low c.low in
      let vab = value_series_sum laws a b va vb in let vbc = value_series_sum laws b c vb vc in
      let la : m ≤ℤ a.low = omega (arith, ints, clamps) in let lb : m ≤ℤ b.low = omega (arith, ints, clamps) in let lc : m ≤ℤ c.low = omega (arith, ints, clamps) in
      let lab : m ≤ℤ ab.low = omega (arith, ints, clamps) in let lbc : m ≤ℤ bc.low = omega (arith, ints, clamps) in
      let turned : int_min a.low bc.low ≡ m = omega (arith, ints, clamps) in
      let p = known-sum laws m a b la lb in let q = known-sum laws m b c lb lc in let p' = known-sum laws m ab c lab lc in let q' = known-sum laws m a bc la lbc in
      same_terms r m (series_sum r ab c) (series_sum r a bc) refl turned (omega arith)
      (λ k h. from-sum laws m ab c k vab vc lab lc h
      ∙ ap (λ x. r.add x (from r m c k)) (from-sum laws m a b k va vb la lb (omega arith))
      ∙ laws.add_assoc (from r m a k) (from r m b k) (from r m c k) (value_from laws m a va k) (value_from laws m b vb k) (value_from laws m c vc k)
      ∙ ap (r.add (from r m a k)) (sym (from-sum laws m b c k vb vc lb lc (omega arith)))
      ∙ sym (from-sum laws m a bc k va vbc la lbc (omega arith)))

  product_comm : (a b : Terms A) → HasValues IsValue r a → HasValues IsValue r b → series_product r a b ≡ series_product r b a
  product_comm a b va vb =
      let n = a.low +ℤ b.low in let ha = ≤ℤ_refl a.low in let hb = ≤ℤ_refl b.low in
      let turned : b.low +ℤ a.low ≡ n = omega (arith, ints) in
      let za = above_same a.low in let zb = above_same b.low in
      let p = known-product_at laws n a.low b.low a b refl ha hb in let q = known-product_at laws n b.low a.low b a (sym turned) hb ha in
      same_terms r n (series_product r a b) (series_product r b a) refl turned (omega arith)
      (λ k h. from-product_at laws n a.low b.low a b k refl va vb ha hb h
      ∙ convolution_comm laws (from r a.low a) (from r b.low b) k (value_from laws a.low a va) (value_from laws b.low b vb)
      ∙ sym (from-product_at laws n b.low a.low b a k (sym turned) vb va hb ha (omega arith)))

  product_assoc : (a b c : Terms A) → HasValues IsValue r a → HasValues IsValue r b → HasValues IsValue r c → series_product r (series_product r a b) c ≡ series_product r a (series_product r b c)
  product_assoc a b c va vb vc =
      let ab = series_product r a b in let bc = series_product r b c in let n = ab.low +ℤ c.low in
      let vab = value_series_product laws a b va vb in let vbc = value_series_product laws b c vb vc in
      let ha = ≤ℤ_refl a.low in let hb = ≤ℤ_refl b.low in let hc = ≤ℤ_refl c.low in let hab = ≤ℤ_refl ab.low in let hbc = ≤ℤ_refl bc.low in
      let turned : a.low +ℤ bc.low ≡ n = omega (arith, ints) in
      let za = above_same a.low in let zb = above_same b.low in let zc = above_same c.low in let zab = above_same ab.low in let zbc = above_same bc.low in
      let p = known-product_at laws ab.low a.low b.low a b refl ha hb in let q = known-product_at laws bc.low b.low c.low b c refl hb hc in
      let p' = known-product_at laws n ab.low c.low ab c refl hab hc in let q' = known-product_at laws n a.low bc.low a bc (sym turned) ha hbc in
      let fa = from r a.low a in let fb = from r b.low b in let fc = from r c.low c in
      same_terms r n (series_product r ab c) (series_product r a bc) refl turned (omega arith)
      (λ k h. from-product_at laws n ab.low c.low ab c k refl vab vc hab hc h
      ∙ convolution-same r (from r ab.low ab) (convolution r fa fb) fc fc k (λ i within. from-product_at laws ab.low a.low b.low a b i refl va vb ha hb (omega arith)) (λ i _. refl)
      ∙ convolution_assoc laws fa fb fc k (value_from laws a.low a va) (value_from laws b.low b vb) (value_from laws c.low c vc)
      ∙ sym (convolution-same r fa fa (from r bc.low bc) (convolution r fb fc) k (λ i _. refl) (λ i within. from-product_at laws bc.low b.low c.low b c i refl vb vc hb hc (omega arith)))
      ∙ sym (from-product_at laws n a.low bc.low a bc k (sym turned) va vbc ha hbc (omega arith)))

  product-sum : (a b c : Terms A) → HasValues IsValue r a → HasValues IsValue r b → HasValues IsValue r c → series_product r a (series_sum r b c) ≡ series_sum r (series_product r a b) (series_product r a c)
  product-sum a b c va vb vc =
      let m = int_min b.low c.low in let n = a.low +ℤ m in
      let bc = series_sum r b c in let ab = series_product r a b in let ac = series_product r a c in
      let vbc = value_series_sum laws b c vb vc in let vab = value_series_product laws a b va vb in let vac = value_series_product laws a c va vc in
      let ha = ≤ℤ_refl a.low in let hm = ≤ℤ_refl m in
      let hb : m ≤ℤ b.low = omega (arith, ints, clamps) in let hc : m ≤ℤ c.low = omega (arith, ints, clamps) in
      let hab : n ≤ℤ ab.low = omega (arith, ints, clamps) in let hac : n ≤ℤ ac.low = omega (arith, ints, clamps) in
      let turned : int_min ab.low ac.low ≡ n = omega (arith, ints, clamps) in
      let za = above_same a.low in let zm = above_same m in let ob = above_is m b.low in let oc = above_is m c.low in
      let p = known-sum laws m b c hb hc in let q = known-product_at laws n a.low m a bc refl ha hm in
      let pb = known-product_at laws n a.low m a b refl ha hb in let pc = known-product_at laws n a.low m a c refl ha hc in let s = known-sum laws n ab ac hab hac in
      let fa = from r a.low a in let fb = from r m b in let fc = from r m c in
      let wa = value_from laws a.low a va in let wb = value_from laws m b vb in let wc = value_from laws m c vc in
      same_terms r n (series_product r a bc) (series_sum r ab ac) refl turned (omega (arith, ints, clamps))
      (λ k h. from-product_at laws n a.low m a bc k refl va vbc ha hm h
      ∙ convolution-same r fa fa (from r m bc) (λ i. r.add (fb i) (fc i)) k (λ i _. refl) (λ i within. from-sum laws m b c i vb vc hb hc (omega arith))
      ∙ convolution-add laws fa fb fc k wa wb wc
      ∙ rw (← from-product_at laws n a.low m a b k refl va vb ha hb (omega (arith, ints, clamps)), ← from-product_at laws n a.low m a c k refl va vc ha hc (omega (arith, ints, clamps))) (sym (from-sum laws n ab ac k vab vac hab hac (omega (arith, ints, clamps)))))

  pub series_laws : SeriesLaws IsValue r
  series_laws = record { sum_comm = sum_comm; sum_assoc = sum_assoc; product_comm = product_comm; product_assoc = product_assoc; product-sum = product-sum }
