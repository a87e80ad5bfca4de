-- The product of the series of some corners: its coefficients, its sizes and its reaches, and one corner more.
use Rattle.std.proofs.Common.{◌≡◌, ℕ, zero, suc, ◌-◌, ◌*◌, ◌^◌, ◌<◌, ◌≤◌, min, cond, List, [], ◌∷◌, ◌++◌, map, length, refl, sym, ◌∙◌, ap, arith, le_trans, inl, inr}
use Rattle.std.specs.Prelude.{ℤ, pos, ◌+ℤ◌, ◌-ℤ◌, unsigned_abs, nat_eq}
use Rattle.std.specs.Int.{int_min}
use Rattle.std.proofs.lemmas.Int.{ints}
use Rattle.std.proofs.lemmas.Nat.{mul-le}
use Rattle.std.proofs.lemmas.List.{map-append}
use Rattle.std.proofs.lemmas.Bool.Decides.{nat_tests}
use Rattle.tv_ring.specs.Operations.{Operations, RingLaws, SizeLaws, limit}
use Rattle.tv_ring.specs.Sums.{at, convolution, size_term, size_convolution, times}
use Rattle.tv_ring.proofs.Sums.{total_below-≤}
use Rattle.tv_ring.proofs.Products.{convolution-same, size_term_is, size_convolution_is}
use Rattle.tv_ring.proofs.Times.{times-none, times-one}
use Rattle.tv_ring.proofs.Sizes.{size-times, reach-times}
use Rattle.tv_lemmas.proofs.Members.{all-contains}
use Rattle.tv_laws_series.specs.Terms.{Terms, listed, IsWithin}
use Rattle.tv_laws_series.specs.Series.{series_product, product_upto}
use Rattle.tv_laws_series.proofs.Listed.{length-listed, at-listed, listed_all}
use Rattle.tv_laws_series.proofs.SeriesFrom.{terms-same}
use Rattle.tv_laurent.specs.SeriesCalls.{ReachesAddUp, IsProductWide}
use Rattle.tv_cells.specs.declared.legs.Legs.{Legs}
use Rattle.tv_cells.specs.Extras.{count}
use Rattle.tv_vertex.specs.Corners.{extras_times, corner_terms}
use Rattle.tv_vertex.proofs.Corners.{extras_times-is}
use Rattle.tv_laws_counts.specs.Ways.{split, convolved, ways, corner_ways}
use Rattle.tv_laws_counts.proofs.Convolutions.{split_is, convolved_is, total_below-times, ways_last}
use Rattle.tv_laws_counts.proofs.InRings.{multiples, convolution-multiples}
use Rattle.tv_laws_counts.proofs.CornerWays.{front-none, front-all, ways-front, ways-each}
use Rattle.tv_assigned_series.specs.Terms.{front_times, front_terms, IsBeyond}

pub front_times-is : {A : Type 0} (r : Operations A) (legs : List Legs) (i : ℕ) → front_times r legs i ≡ times r (corner_ways legs i)
unfolding front_times
front_times-is r legs i = refl

-- over no corner there is one way to split no boxes
module _ {A : Type 0} {IsValue : A → Type 0} {r : Operations A} (laws : RingLaws IsValue r) where
  pub unit-first : (one : A) → one ≡ r.unit → one ≡ front_times r [] 0
  unit-first one e = e ∙ sym (front_times-is r [] 0 ∙ (ap (times r) (front-none [] 0) ∙ times-one laws))

pub unit-later : {A : Type 0} (r : Operations A) (i : ℕ) (none : A) → 0 < i → none ≡ r.nought → none ≡ front_times r [] i
unit-later r i none h e = e ∙ sym (front_times-is r [] i ∙ (ap (times r) (front-none [] i ∙ past i h) ∙ times-none r))
  where
    past : (i : ℕ) → 0 < i → cond {A = ℕ} (nat_eq i 0) 1 0 ≡ 0
    past zero h = absurd (omega arith)
    past (suc i) h = grind (arith, nat_tests)

-- one corner more, at the end
next-ways : (front : List Legs) (corner : Legs) (i : ℕ) → corner_ways (front ++ corner ∷ []) i ≡ convolved (corner_ways front) (count corner) i
next-ways front corner i = ap (λ cs. ways cs i) (map-append count front (corner ∷ [])) ∙ ways_last (map count front) (count corner) i

-- too many over all of some corners
all-beyond : {A : Type 0} (r : Operations A) (legs : List Legs) (k boxes : ℕ) → boxes ≤ k → limit < corner_ways legs boxes * r.size r.unit → IsBeyond r legs k
all-beyond r legs k boxes within beyond =
    inl (record { corners = length legs; boxes = boxes; within = within; beyond = rw (front-all legs (length legs) boxes (omega arith)) beyond })

-- fewer ways to split boxes are beyond the limit only where more are
pub still-beyond : {A : Type 0} (r : Operations A) (legs more : List Legs) (k : ℕ) → ((i : ℕ) → corner_ways legs i ≤ corner_ways more i) → IsBeyond r legs k → IsBeyond r more k
still-beyond r legs more k fewer (inl front) =
    let first = ways-front front.corners legs front.boxes in let all = fewer front.boxes in
    all-beyond r more k front.boxes front.within (le_trans front.beyond (mul-le _ (r.size r.unit) _ (r.size r.unit) (le_trans first all) (omega arith)))
still-beyond r legs more k fewer (inr one) =
    let first = all-contains (λ l. count l one.boxes ≤ corner_ways legs one.boxes) legs one.corner (ways-each legs one.boxes) one.listed in let all = fewer one.boxes in
    all-beyond r more k one.boxes one.within (le_trans one.beyond (mul-le _ (r.size r.unit) _ (r.size r.unit) (le_trans first all) (omega arith)))

-- the sum of products of multiples
term-small : (x y m n u : ℕ) → x ≤ m * u → y ≤ n * u → u ≤ 1 → x * y ≤ (m * n) * u
term-small x y m n zero hx hy h = let none : x ≡ 0 = omega arith in rw none (omega arith)
term-small x y m n (suc zero) hx hy h = let both = mul-le x y m n (omega arith) (omega arith) in omega arith
term-small x y m n (suc (suc u)) hx hy h = absurd (omega arith)

module _ {A : Type 0} {IsValue : A → Type 0} {r : Operations A} (laws : RingLaws IsValue r) (sizes : SizeLaws IsValue r) where
  size-multiples : (F G : ℕ → A) (f g : ℕ → ℕ) (k i : ℕ) → i ≤ k → ((j : ℕ) → j ≤ k → F j ≡ times r (f j)) → ((j : ℕ) → j ≤ k → G j ≡ times r (g j)) → size_term r F G k i ≤ split f g k i * r.size r.unit
  size-multiples F G f g k i h ef eg =
      let x = size-times laws sizes (f i) in let y = size-times laws sizes (g (k - i)) in
      rw (size_term_is r F G k i, ef i h, eg (k - i) (omega arith), split_is f g k i) (term-small (r.size (times r (f i))) (r.size (times r (g (k - i)))) (f i) (g (k - i)) (r.size r.unit) x y sizes.size-unit)

  pub size_convolution-multiples : (F G : ℕ → A) (f g : ℕ → ℕ) (k : ℕ) → ((j : ℕ) → j ≤ k → F j ≡ times r (f j)) → ((j : ℕ) → j ≤ k → G j ≡ times r (g j)) → size_convolution r F G k ≤ convolved f g k * r.size r.unit
  size_convolution-multiples F G f g k ef eg =
      rw (size_convolution_is r F G k, convolved_is f g k, ← total_below-times (split f g k) (r.size r.unit) (suc k))
      (total_below-≤ (size_term r F G k) (λ i. split f g k i * r.size r.unit) (suc k) (λ i h. size-multiples F G f g k i (omega arith) ef eg))

  -- the coefficients of both factors
  module _ (front : List Legs) (k j : ℕ) (corner : Legs) (a b : Terms A) (within : k ≤ j) (ea : a ≡ front_terms r front k) (eb : b ≡ corner_terms r corner j) where
    front-length : length a.coefficients ≡ suc k
    front-length = ap (λ (s : Terms A). length s.coefficients) ea ∙ length-listed (front_times r front) (suc k)

    corner-length : length b.coefficients ≡ suc j
    corner-length = ap (λ (s : Terms A). length s.coefficients) eb ∙ length-listed (extras_times r corner) (suc j)

    lengths : min (length a.coefficients) (length b.coefficients) ≡ suc k
    lengths = let x = front-length in let y = corner-length in omega arith

    front-at : (i : ℕ) → i ≤ k → at r a.coefficients i ≡ times r (corner_ways front i)
    front-at i h = ap (λ (s : Terms A). at r s.coefficients i) ea ∙ (at-listed r (front_times r front) (suc k) i (omega arith) ∙ front_times-is r front i)

    corner-at : (i : ℕ) → i ≤ j → at r b.coefficients i ≡ times r (count corner i)
    corner-at i h = ap (λ (s : Terms A). at r s.coefficients i) eb ∙ (at-listed r (extras_times r corner) (suc j) i (omega arith) ∙ extras_times-is r corner i)

    pub product-within : k < 2 ^ 29 → IsWithin (product_upto a b)
    product-within h = rw (front-length, corner-length, ap (λ (s : Terms A). s.low) ea, ap (λ (s : Terms A). s.low) eb) (near k j h within)
      where
        near : (k j : ℕ) → k < 2 ^ 29 → k ≤ j → unsigned_abs (int_min (pos 0 +ℤ ((pos 0 +ℤ pos (suc j)) -ℤ pos 1)) (pos 0 +ℤ ((pos 0 +ℤ pos (suc k)) -ℤ pos 1))) ≤ 2 ^ 60
        near k j h l = grind (arith, ints)

    pub product-reaches : ReachesAddUp r a.coefficients b.coefficients
    product-reaches i l h m =
        let x = front-length in let y = corner-length in
        rw (front-at i (omega arith), corner-at l (omega arith), reach-times laws sizes (corner_ways front i), reach-times laws sizes (count corner l)) (omega arith)

    product-at : (i : ℕ) → i ≤ k → convolution r (at r a.coefficients) (at r b.coefficients) i ≡ front_times r (front ++ corner ∷ []) i
    product-at i h =
        convolution-same r (at r a.coefficients) (multiples r (corner_ways front)) (at r b.coefficients) (multiples r (count corner)) i (λ m l. front-at m (omega arith)) (λ m l. corner-at m (omega arith))
        ∙ (convolution-multiples laws (corner_ways front) (count corner) i
        ∙ (ap (times r) (sym (next-ways front corner i)) ∙ sym (front_times-is r (front ++ corner ∷ []) i)))

    pub product-is : series_product r a b ≡ front_terms r (front ++ corner ∷ []) k
    product-is = terms-same (a.low +ℤ b.low) (pos 0) (listed (convolution r (at r a.coefficients) (at r b.coefficients)) (min (length a.coefficients) (length b.coefficients))) (listed (front_times r (front ++ corner ∷ [])) (suc k))
        (rw (ap (λ (s : Terms A). s.low) ea, ap (λ (s : Terms A). s.low) eb) refl)
        (rw lengths (listed_all r (front_times r (front ++ corner ∷ [])) (listed (convolution r (at r a.coefficients) (at r b.coefficients)) (suc k)) (suc k) (length-listed (convolution r (at r a.coefficients) (at r b.coefficients)) (suc k))
        (λ i h. at-listed r (convolution r (at r a.coefficients) (at r b.coefficients)) (suc k) i h ∙ product-at i (omega arith))))

    pub product-wide : (n : ℤ) → IsProductWide r a b n → IsBeyond r (front ++ corner ∷ []) k
    product-wide n wide =
        let place : wide.place ≤ k = let x = wide.within in let y = lengths in omega arith in
        let size : size_convolution r (at r a.coefficients) (at r b.coefficients) wide.place ≤ corner_ways (front ++ corner ∷ []) wide.place * r.size r.unit =
        rw (next-ways front corner wide.place) (size_convolution-multiples (at r a.coefficients) (at r b.coefficients) (corner_ways front) (count corner) wide.place (λ m l. front-at m (omega arith)) (λ m l. corner-at m (omega arith))) in
        all-beyond r (front ++ corner ∷ []) k wide.place place (le_trans wide.wide size)
