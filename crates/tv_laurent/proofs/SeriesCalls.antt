-- The results of the calls of a series are series again.
use Rattle.std.proofs.Common.{◌≡◌, ℕ, ◌+◌, min, ℤ, pos, ◌+ℤ◌, ◌≤ℤ◌, List, length, take, sym, ◌∙◌, ap, subst, arith, refl, ◌*◌}
use Rattle.std.proofs.lemmas.Int.{ints, clamps}
use Rattle.std.proofs.lemmas.List.{length-take}
use Rattle.tv_ring.specs.Operations.{Operations, RingLaws}
use Rattle.tv_ring.specs.Sums.{at}
use Rattle.tv_laws_series.specs.Terms.{Terms, above, upto, IsWithin, IsBounded}
use Rattle.tv_laws_series.specs.Series.{series_shift, series_cut, IsSeries}
use Rattle.tv_laws_series.specs.Quotients.{IsUnitSeries}
use Rattle.tv_laurent.specs.SeriesCalls.{sum_size, scale_size}
use Rattle.tv_laws_series.proofs.Exponents.{above_is}
use Rattle.tv_laws_series.proofs.Listed.{at-take, values_all}

pub same_series : {A : Type 0} {IsValue : A → Type 0} {r : Operations A} (a b : Terms A) → a ≡ b → IsSeries IsValue r b → IsSeries IsValue r a
same_series {IsValue} {r} a b e s = subst (IsSeries IsValue r) (sym e) s

pub shift_is_series : {A : Type 0} {IsValue : A → Type 0} {r : Operations A} (k : ℤ) (a : Terms A) → IsBounded (series_shift k a) → IsSeries IsValue r a → IsSeries IsValue r (series_shift k a)
shift_is_series k a b s = record { bounded = b; values = s.values }

length-cut : {A : Type 0} (xs : List A) (n : ℕ) → length (take n xs) ≡ min n (length xs)
length-cut xs n = length-take n xs

pub cut_is_series : {A : Type 0} {IsValue : A → Type 0} {r : Operations A} (laws : RingLaws IsValue r) (n : ℤ) (a : Terms A) → IsWithin n → IsSeries IsValue r a → IsSeries IsValue r (series_cut n a)
cut_is_series {r} laws n a within s =
    let cut = series_cut n a in let count = above a.low (n +ℤ pos 1) in
    let e = length-cut a.coefficients count in let o = above_is a.low (n +ℤ pos 1) in let low = s.bounded.low in let last = s.bounded.upto in
    record {
      bounded = record { low = omega (arith, ints, clamps); upto = omega (arith, ints, clamps) };
      values = values_all laws cut.coefficients (λ k h. rw (at-take r a.coefficients count k (omega arith)) (s.values k));
    }

pub sum_size_is : {A : Type 0} (r : Operations A) (f g : ℕ → A) (k : ℕ) → sum_size r f g k ≡ r.size (f k) + r.size (g k)
unfolding sum_size
sum_size_is r f g k = refl

pub scale_size_is : {A : Type 0} (r : Operations A) (c : A) (f : ℕ → A) (k : ℕ) → scale_size r c f k ≡ r.size c * r.size (f k)
unfolding scale_size
scale_size_is r c f k = refl

-- what is told of the exponent 0 of a series that begins with one there
pub tells_unit : {A : Type 0} (r : Operations A) (b : Terms A) (x : A) → b.low ≡ pos 0 → pos 0 ≤ℤ upto b → x ≡ at r b.coefficients (above b.low (pos 0)) → x ≡ r.unit → IsUnitSeries r b
tells_unit r b x low known told one =
    let e : above b.low (pos 0) ≡ 0 = omega (arith, ints, above_is b.low (pos 0)) in
    record { low = low; known = known; unit = ap (at r b.coefficients) (sym e) ∙ sym told ∙ one }
