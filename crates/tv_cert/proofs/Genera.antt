-- The slope of a report's integers, class by class.
--
-- IsSlopeTo k n w   == w is at least the slope of the first n classes of integers, and at most the greatest slope of the integers
-- AreLowTo k n      == the first n of these classes have no genus of least_wide_genus or more
-- genus-next        the greatest genus with one value more
-- genus-most, genus-there  it is at least that of each integer of the class, and that of one of them, where it is not 0
-- slope-none, slope-more, slope-all  the slope of no class, of one more, and of all
-- low-all, wide-there  no class has a great genus, or one has
-- listed-class      each integer has one of the classes
use Rattle.std.specs.Prelude.{◌≡◌, ◌≢◌, ◌⊎◌, Contains, ℕ, zero, suc, ◌+◌, ◌-◌, ◌*◌, ◌/◌, ◌<◌, ◌≤◌, ℤ, pos, ◌*ℤ◌, max, List, [], ◌∷◌, ◌++◌, length, map, take, slice_index_or, true, false}
use Rattle.std.specs.List.{AllByRecursion}
use Rattle.std.specs.Ordering.{int_eq}
use Rattle.std.proofs.Common.{refl, sym, ap, arith, ◌∙◌, inl, inr, drop, get_or, mul_comm}
use Rattle.std.proofs.Math.Nat.{div-eq_of_lt}
use Rattle.std.proofs.lemmas.Nat.{mul-le}
use Rattle.std.proofs.Math.Seq.{drop-cons, take-suc}
use Rattle.std.proofs.lemmas.List.{take_all}
use Rattle.std.proofs.lemmas.Int.{ints}
use Rattle.std.proofs.lemmas.Bool.{cases_Bool, cases_lt}
use Rattle.std.proofs.lemmas.Bool.Decides.{Decides-int_eq}
use Rattle.tv_lemmas.specs.Naturals.{as_natural}
use Rattle.tv_lemmas.proofs.Naturals.{as_natural-is}
use Rattle.tv_lemmas.proofs.Members.{all-onto, all-both, all-contains, all-append, all-members, all-at, all-map, contains-head, contains-later, contains-cases, contains-map}
use Rattle.tv_spec_plane.specs.Web.{degree_of}
use Rattle.tv_spec_boxes.specs.Assignments.{same_vector}
use Rattle.tv_spec_boxes.proofs.Vectors.{same_vector_tells}
use Rattle.tv_spec_series.proofs.Order.{same_vector-equal}
use Rattle.tv_spec_katz.specs.Katz.{Integer}
use Rattle.tv_spec_katz.specs.Majorant.{rounded_up, slope_of, greatest_slope}
use Rattle.tv_spec_katz.specs.Relations.{IsPositiveClass}
use Rattle.tv_laws_katz.specs.Weights.{IsWithinSlope}
use Rattle.tv_laws_majorant.specs.Laws.{least_wide_genus}
use Rattle.tv_laws_integers.proofs.Sorted.{all_sorted, contains_sorted}
use Rattle.tv_integers.specs.declared.genus_value.GenusValue.{GenusValue}
use Rattle.tv_integers.specs.Kept.{Kept, AreKept, classes_of}
use Rattle.tv_cert.specs.Slopes.{values_genus, class_number, class_genus, class_slope, IsSlopeOf, IsWideClass}

-- ---- the greatest genus of a class

pub genus-next : (gs : List GenusValue) (i : ℕ) (g : GenusValue) (a b : ℕ) → g ≡ get_or gs i g → i < length gs →
    values_genus gs ≡ max a (values_genus (drop i gs)) → b ≡ max g.genus a → values_genus gs ≡ max b (values_genus (drop (i + 1) gs))
genus-next gs i g a b read within was e =
    let one : i + 1 ≡ suc i = omega arith in
    let left : drop i gs ≡ g ∷ drop (i + 1) gs = rw one (drop-cons gs i g within ∙ ap (λ y. y ∷ drop (suc i) gs) (sym read)) in
    let split : values_genus (drop i gs) ≡ max g.genus (values_genus (drop (i + 1) gs)) = ap values_genus left in
    grind arith

max-first : (a b : ℕ) → a ≤ max a b
max-first a b = omega arith

max-later : (a b c : ℕ) → a ≤ c → a ≤ max b c
max-later a b c h = omega arith

max-left : (a b : ℕ) → b ≤ a → a ≡ max a b
max-left a b h = omega arith

max-right : (a b : ℕ) → a ≤ b → b ≡ max a b
max-right a b h = omega arith

genus-on : (v : List ℤ) (j : Integer) (is : List Integer) → same_vector j.class v ≡ true →
    class_genus (j ∷ is) v ≡ max j.genus (class_genus is v)
genus-on v j is on = rw on refl

genus-off : (v : List ℤ) (j : Integer) (is : List Integer) → same_vector j.class v ≡ false → class_genus (j ∷ is) v ≡ class_genus is v
genus-off v j is off = rw off refl

pub genus-most : (is : List Integer) (i : Integer) → Contains is i → i.genus ≤ class_genus is i.class
genus-most [] i there = let none = there.1 in absurd (omega arith)
genus-most (j ∷ is) i there = elim (contains-cases i j is there) as (λ _. i.genus ≤ class_genus (j ∷ is) i.class) [
  | inl same ↦ rw same (own i is)
  | inr later ↦ rest (genus-most is i later)
]
  where
    own : (k : Integer) (ks : List Integer) → k.genus ≤ class_genus (k ∷ ks) k.class
    own k ks =
        let on = same_vector-equal k.class k.class refl in
        rw (genus-on k.class k ks on) (max-first k.genus (class_genus ks k.class))

    rest : i.genus ≤ class_genus is i.class → i.genus ≤ class_genus (j ∷ is) i.class
    rest h = elim (cases_Bool (same_vector j.class i.class)) as (λ _. i.genus ≤ class_genus (j ∷ is) i.class) [
      | inl on ↦ rw (genus-on i.class j is on) (max-later i.genus j.genus (class_genus is i.class) h)
      | inr off ↦ rw (genus-off i.class j is off) h
    ]

pub record IsGenusOf (is : List Integer) (v : List ℤ) : Type 0 where
  pub integer : Integer
  pub among : Contains is integer
  pub class : integer.class ≡ v
  pub genus : integer.genus ≡ class_genus is v

module _ (v : List ℤ) (j : Integer) (is : List Integer) (further : 1 ≤ class_genus is v → IsGenusOf is v) where
  later : 1 ≤ class_genus is v → class_genus is v ≡ class_genus (j ∷ is) v → IsGenusOf (j ∷ is) v
  later one e =
      let found = further one in
      record {
        integer = found.integer;
        among = contains-later found.integer j is found.among;
        class = found.class;
        genus = found.genus ∙ e;
      }

  first-or-later : 1 ≤ class_genus (j ∷ is) v → IsGenusOf (j ∷ is) v
  first-or-later up = elim (cases_Bool (same_vector j.class v)) as (λ _. IsGenusOf (j ∷ is) v) [
    | inl on ↦ elim (cases_lt j.genus (class_genus is v)) as (λ _. IsGenusOf (j ∷ is) v) [
      | inl less ↦
          later (omega (arith, less)) (max-right j.genus (class_genus is v) (omega (arith, less)) ∙ sym (genus-on v j is on))
      | inr more ↦ record {
        integer = j;
        among = contains-head j j is refl;
        class = same_vector_tells j.class v on;
        genus = max-left j.genus (class_genus is v) more ∙ sym (genus-on v j is on);
      }
    ]
    | inr off ↦ later (rw (genus-off v j is off) at up) (sym (genus-off v j is off))
  ]

pub genus-there : (is : List Integer) (v : List ℤ) → 1 ≤ class_genus is v → IsGenusOf is v
genus-there [] v up = absurd (omega arith)
genus-there (j ∷ is) v up = first-or-later v j is (genus-there is v) up

-- ---- the classes of integers

abbrev pub numbered : Kept → List (List ℤ)
numbered k = classes_of k.heights k.integers

pub class-positive : (hs : List ℤ) (is : List Integer) → AreKept hs is → AllByRecursion (λ i. IsPositiveClass hs i.class) is
class-positive hs [] kept = tt
class-positive hs (i ∷ is) kept = (kept.0.0, class-positive hs is kept.1.1)

pub classes-positive : (k : Kept) → AreKept k.heights k.integers → AllByRecursion (IsPositiveClass k.heights) (numbered k)
classes-positive k kept =
    all_sorted k.heights (IsPositiveClass k.heights) (map (λ (i : Integer). i.class) k.integers)
    (all-map (λ (i : Integer). IsPositiveClass k.heights i.class) (IsPositiveClass k.heights) (λ i. i.class) (λ i h. h) k.integers
    (class-positive k.heights k.integers kept))

pub number-positive : (k : Kept) (n : ℕ) → AreKept k.heights k.integers → n < length (numbered k) →
    IsPositiveClass k.heights (class_number k n)
number-positive k n kept h = all-at (IsPositiveClass k.heights) (numbered k) [] (classes-positive k kept) n h

pub listed-class : (k : Kept) (i : Integer) → Contains k.integers i → Contains (numbered k) i.class
listed-class k i there =
    contains_sorted k.heights i.class (map (λ (j : Integer). j.class) k.integers)
    (contains-map (λ (j : Integer). j.class) i k.integers there)

pub take-next : {A : Type 0} (vs : List A) (n : ℕ) (d : A) → n < length vs → take (n + 1) vs ≡ take n vs ++ slice_index_or vs n d ∷ []
take-next vs n d h = let one : n + 1 ≡ suc n = omega arith in rw one (take-suc vs n d h)

pub all-next : (P : List ℤ → Type 0) (vs : List (List ℤ)) (n : ℕ) → n < length vs → AllByRecursion P (take n vs) →
    P (slice_index_or vs n []) → AllByRecursion P (take (n + 1) vs)
all-next P vs n h all here =
    rw (take-next vs n [] h) (all-append P (take n vs) (slice_index_or vs n [] ∷ []) all (here, tt))

pub all-taken : (P : List ℤ → Type 0) (vs : List (List ℤ)) (n : ℕ) → length vs ≤ n → AllByRecursion P (take n vs) → AllByRecursion P vs
all-taken P vs n past all = rw (take_all n vs past) at all

-- ---- no great genus

pub record AreLowTo (k : Kept) (n : ℕ) : Type 0 where
  pub low : AllByRecursion (λ v. class_genus k.integers v < least_wide_genus) (take n (numbered k))

pub low-next : (k : Kept) (n x : ℕ) → n < length (numbered k) → AreLowTo k n → x ≡ class_genus k.integers (class_number k n) →
    x < 66 → AreLowTo k (n + 1)
low-next k n x h was e less =
    record { low = all-next (λ v. class_genus k.integers v < least_wide_genus) (numbered k) n h was.low (rw (sym e) less) }

pub low-all : (k : Kept) (n : ℕ) → length (numbered k) ≤ n → AreLowTo k n →
    AllByRecursion (λ (i : Integer). i.genus < least_wide_genus) k.integers
low-all k n past was =
    let all = all-taken (λ v. class_genus k.integers v < least_wide_genus) (numbered k) n past was.low in
    all-onto (Contains k.integers) (λ (i : Integer). i.genus < least_wide_genus)
    (λ i there.
    let low = all-contains (λ v. class_genus k.integers v < least_wide_genus) (numbered k) i.class all (listed-class k i there) in
    let most = genus-most k.integers i there in omega (arith, low, most)) k.integers (all-members k.integers)

pub wide-there : (k : Kept) (v : List ℤ) (x : ℕ) → x ≡ class_genus k.integers v → 66 ≤ x → IsWideClass k.integers v
wide-there k v x e h =
    let found = genus-there k.integers v (omega arith) in
    record { integer = found.integer; among = found.among; class = found.class; genus = omega (arith, found.genus) }

-- ---- the slope

pub record IsSlopeTo (k : Kept) (n w : ℕ) : Type 0 where
  pub above : AllByRecursion (λ v. class_slope k.heights k.integers v ≤ w) (take n (numbered k))
  pub least : w ≤ greatest_slope k.heights k.integers

greatest-first : (hs : List ℤ) (i : Integer) (is : List Integer) → i.value ≢ pos 0 →
    greatest_slope hs (i ∷ is) ≡ max (slope_of hs i) (greatest_slope hs is)
greatest-first hs i is some = elim (cases_Bool (int_eq i.value (pos 0))) as
    (λ _. greatest_slope hs (i ∷ is) ≡ max (slope_of hs i) (greatest_slope hs is)) [
      | inl on ↦ absurd (some ((Decides-int_eq i.value (pos 0)).0 on))
      | inr off ↦ rw off refl
    ]

greatest-member : (hs : List ℤ) (is : List Integer) (i : Integer) → AreKept hs is → Contains is i →
    slope_of hs i ≤ greatest_slope hs is
greatest-member hs [] i kept there = let none = there.1 in absurd (omega arith)
greatest-member hs (j ∷ is) i kept there =
    let first = greatest-first hs j is kept.0.1 in
    elim (contains-cases i j is there) as (λ _. slope_of hs i ≤ greatest_slope hs (j ∷ is)) [
      | inl same ↦ let e : slope_of hs j ≡ slope_of hs i = ap (slope_of hs) same in omega (arith, first, e)
      | inr later ↦ omega (arith, first, greatest-member hs is i kept.1.1 later)
    ]

slope-class : (k : Kept) (v : List ℤ) → AreKept k.heights k.integers → 1 ≤ as_natural (degree_of k.heights v) →
    class_slope k.heights k.integers v ≤ greatest_slope k.heights k.integers
slope-class k v kept up = elim (cases_zero (class_genus k.integers v)) as
    (λ _. class_slope k.heights k.integers v ≤ greatest_slope k.heights k.integers) [
      | inl none ↦
          let d = as_natural (degree_of k.heights v) in
          let e : class_slope k.heights k.integers v ≡ (0 + (d - 1)) / d = ap (λ g. ((g - 1) + (d - 1)) / d) none in
          let zero_is : (0 + (d - 1)) / d ≡ 0 = div-eq_of_lt (omega arith) in
          omega (arith, e, zero_is)
      | inr some ↦
          let found = genus-there k.integers v some in
          let member = greatest-member k.heights k.integers found.integer kept found.among in
          let e : slope_of k.heights found.integer ≡ class_slope k.heights k.integers v =
          ap (λ u. rounded_up (found.integer.genus - 1) (as_natural (degree_of k.heights u))) found.class ∙
          ap (λ g. rounded_up (g - 1) (as_natural (degree_of k.heights v))) found.genus in
          omega (arith, member, e)
    ]
  where
    cases_zero : (a : ℕ) → (a ≡ 0) ⊎ (1 ≤ a)
    cases_zero zero = inl refl
    cases_zero (suc a) = inr (omega arith)

number-degree : (k : Kept) (n : ℕ) → AreKept k.heights k.integers → n < length (numbered k) →
    1 ≤ as_natural (degree_of k.heights (class_number k n))
number-degree k n kept h =
    let up = (number-positive k n kept h).degree in
    omega (arith, ints, as_natural-is (degree_of k.heights (class_number k n)) (omega (arith, ints)))

pub slope-none : (k : Kept) → IsSlopeTo k 0 0
slope-none k = record { above = tt; least = omega arith }

pub slope-more : (k : Kept) (n w x y : ℕ) → AreKept k.heights k.integers → n < length (numbered k) → IsSlopeTo k n w →
    x ≡ class_slope k.heights k.integers (class_number k n) → y ≡ max x w → IsSlopeTo k (n + 1) y
slope-more k n w x y kept h was e greater = record {
  above = all-next (λ v. class_slope k.heights k.integers v ≤ y) (numbered k) n h
      (all-onto (λ v. class_slope k.heights k.integers v ≤ w) (λ v. class_slope k.heights k.integers v ≤ y)
      (λ v less. omega (arith, less, greater)) (take n (numbered k)) was.above) (omega (arith, e, greater));
  least = omega (arith, e, greater, was.least, slope-class k (class_number k n) kept (number-degree k n kept h));
}

within-slope : (k : Kept) (w : ℕ) (i : Integer) → IsPositiveClass k.heights i.class → i.genus ≤ class_genus k.integers i.class →
    class_slope k.heights k.integers i.class ≤ w → IsWithinSlope k.heights w i
within-slope k w i positive most less =
    let up = positive.degree in
    let d = as_natural (degree_of k.heights i.class) in
    let degree = as_natural-is (degree_of k.heights i.class) (omega (arith, ints)) in
    let a = class_genus k.integers i.class - 1 in
    let turned = mul_comm (rounded_up a d) d in
    let least : a ≤ rounded_up a d * d = rounded_up-least a d (omega (arith, ints, degree)) in
    let more : rounded_up a d * d ≤ w * d = mul-le (rounded_up a d) d w d less (omega arith) in
    let product : pos w *ℤ degree_of k.heights i.class ≡ pos (w * d) = ap (λ z. pos w *ℤ z) degree in
    record { positive = omega (arith, ints); slope = omega (arith, ints, product, most, least, more) }
  where
    rounded_up-least : (a d : ℕ) → 1 ≤ d → a ≤ rounded_up a d * d
    rounded_up-least a d up = let turned = mul_comm (rounded_up a d) d in omega arith

pub slope-all : (k : Kept) (n w : ℕ) → AreKept k.heights k.integers → length (numbered k) ≤ n → IsSlopeTo k n w →
    IsSlopeOf k.heights k.integers w
slope-all k n w kept past was =
    let all = all-taken (λ v. class_slope k.heights k.integers v ≤ w) (numbered k) n past was.above in
    record {
      within = all-both (Contains k.integers) (λ i. IsPositiveClass k.heights i.class) (IsWithinSlope k.heights w)
          (λ i there positive. within-slope k w i positive (genus-most k.integers i there)
          (all-contains (λ v. class_slope k.heights k.integers v ≤ w) (numbered k) i.class all (listed-class k i there)))
          k.integers (all-members k.integers) (class-positive k.heights k.integers kept);
      least = was.least;
    }
