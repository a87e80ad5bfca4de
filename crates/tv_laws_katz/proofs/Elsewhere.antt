-- Katz's product is 0 at classes outside a set that has class zero and is closed under adding the integers' classes.
--
-- degree-difference  the degree of a difference of classes
-- AddsTo hs D S i    == as IsSumClosed, of any set S of classes
-- elsewhere          outside such a set the product is 0
-- unit_below_one     at degrees of at most 0 it is the unit
use Rattle.std.specs.Prelude.{◌≡◌, ℕ, zero, suc, ℤ, pos, negsuc, ◌-ℤ◌, ◌*ℤ◌, ◌≤ℤ◌, unsigned_abs, true, List, [], ◌∷◌, length}
use Rattle.std.specs.List.{AllByRecursion}
use Rattle.std.proofs.Common.{refl, ap, arith, ◌∙◌}
use Rattle.std.proofs.Math.IntN.{*ℤ-zero}
use Rattle.std.proofs.lemmas.Int.{ints}
use Rattle.tv_lemmas.proofs.Members.{all-onto, all-flat_map}
use Rattle.tv_lemmas.proofs.Integers.{mul-sub}
use Rattle.tv_spec_plane.specs.Web.{degree_of}
use Rattle.tv_spec_katz.specs.Binomials.{power_sign}
use Rattle.tv_spec_katz.specs.Places.{Place, place, class_difference, is_zero_class, unit}
use Rattle.tv_spec_katz.specs.Product.{Factor}
use Rattle.tv_spec_katz.specs.Katz.{Integer, factors_by, factors, factor_bound, katz}
use Rattle.tv_laws_katz.specs.Further.{IsPositive}
use Rattle.tv_laws_katz.specs.Weights.{IsSumClosed, UnitBelowOne, VanishesElsewhere}
use Rattle.tv_laws_katz.proofs.FurtherInteger.{IsFactorOf, factors-are}
use Rattle.tv_lemmas.proofs.Multiplied.{one-mul}
use Rattle.tv_laws_katz.proofs.Units.{unit-none, product-low}
use Rattle.tv_laws_katz.proofs.Outside.{IsClosed, outside}
use Rattle.tv_spec_boxes.proofs.Vectors.{length-difference}

pub degree-difference : (hs u v : List ℤ) → length u ≡ length hs → length v ≡ length hs →
    degree_of hs (class_difference u v) ≡ degree_of hs u -ℤ degree_of hs v
degree-difference [] u v e f = refl
degree-difference (h ∷ hs) [] v e f = absurd (omega (arith, e))
degree-difference (h ∷ hs) (x ∷ u) [] e f = absurd (omega (arith, f))
degree-difference (h ∷ hs) (x ∷ u) (y ∷ v) e f =
    omega (arith, ints, mul-sub h x y, degree-difference hs u v (omega arith) (omega arith))

pub record AddsTo (hs : List ℤ) (D : ℕ) (S : List ℤ → Type 0) (i : Integer) : Type 0 where
  pub entries : length i.class ≡ length hs
  pub positive : IsPositive hs i
  pub sums : (v : List ℤ) → length v ≡ length hs → degree_of hs v ≤ℤ pos D → S (class_difference v i.class) → S v

abbrev InSet : List ℤ → ℕ → (List ℤ → Type 0) → Place → Type 0
InSet hs D S p = length p.class ≡ length hs → degree_of hs p.class ≤ℤ pos D → S p.class

-- the class of the factor is that of its integer
stays-in : (hs : List ℤ) (D : ℕ) (S : List ℤ → Type 0) (i : Integer) → AddsTo hs D S i → (f : Factor) → f.at.class ≡ i.class →
    IsClosed (InSet hs D S) f
stays-in hs D S i adds f same p left entries most =
    let shorter : length (class_difference p.class f.at.class) ≡ length hs = length-difference p.class f.at.class ∙ entries in
    let lower : degree_of hs (class_difference p.class i.class) ≡ degree_of hs p.class -ℤ degree_of hs i.class = degree-difference hs p.class i.class entries adds.entries in
    let here : degree_of hs (class_difference p.class f.at.class) ≤ℤ pos D = rw same (omega (arith, ints, adds.positive)) in
    adds.sums p.class entries most (rw same at (left shorter here))

factors-stay : (hs : List ℤ) (D : ℕ) (S : List ℤ → Type 0) (J : ℕ) (is : List Integer) → AllByRecursion (AddsTo hs D S) is →
    AllByRecursion (IsClosed (InSet hs D S)) (factors hs J is)
factors-stay hs D S J is adds = all-flat_map (AddsTo hs D S) (IsClosed (InSet hs D S)) (λ i. factors_by hs i.genus J i)
    (λ i add. all-onto (IsFactorOf hs i) (IsClosed (InSet hs D S)) (λ f of. stays-in hs D S i add f (ap (λ (x : Factor). x.at.class) of.is)) (factors_by hs i.genus J i) (factors-are hs i.genus J i refl)) is adds

pub elsewhere : (hs : List ℤ) (D : ℕ) (S : List ℤ → Type 0) (is : List Integer) (v : List ℤ) (n : ℤ) →
    ((u : List ℤ) → length u ≡ length hs → is_zero_class u ≡ true → S u) → AllByRecursion (AddsTo hs D S) is →
    length v ≡ length hs → degree_of hs v ≤ℤ pos D → (S v → ⊥) → katz hs is v n ≡ pos 0
unfolding katz
elsewhere hs D S is v n none adds entries most out =
    ap (λ z. power_sign (unsigned_abs n) *ℤ z) (outside (InSet hs D S) (λ p one e l. none p.class e one.class) (factors hs (factor_bound hs is v n) is) (factors-stay hs D S (factor_bound hs is v n) is adds) (place hs v n) (λ s. out (s entries most))) ∙
    *ℤ-zero (power_sign (unsigned_abs n))

pub vanishes_elsewhere : VanishesElsewhere
vanishes_elsewhere hs D S is v n none closed entries most fails = elsewhere hs D (λ u. S u ≡ true) is v n none
    (all-onto (IsSumClosed hs D S) (AddsTo hs D (λ u. S u ≡ true)) (λ i c. record { entries = c.entries; positive = c.positive; sums = c.sums }) is closed) entries most (λ e. absurd (cc))

signed-unit : (hs : List ℤ) (v : List ℤ) (n : ℤ) → power_sign (unsigned_abs n) *ℤ unit (place hs v n) ≡ unit (place hs v n)
signed-unit hs v (pos zero) = one-mul (unit (place hs v (pos 0)))
signed-unit hs v (pos (suc n)) =
    let none = unit-none (place hs v (pos (suc n))) (λ is. absurd (omega (arith, ints, is.exponent))) in
    rw none (*ℤ-zero (power_sign (suc n)))
signed-unit hs v (negsuc n) =
    let none = unit-none (place hs v (negsuc n)) (λ is. absurd (omega (arith, ints, is.exponent))) in
    rw none (*ℤ-zero (power_sign (suc n)))

pub unit_below_one : UnitBelowOne
unfolding katz
unit_below_one hs is v n low =
    ap (λ z. power_sign (unsigned_abs n) *ℤ z) (product-low (factors hs (factor_bound hs is v n) is) (place hs v n) low) ∙
    signed-unit hs v n
