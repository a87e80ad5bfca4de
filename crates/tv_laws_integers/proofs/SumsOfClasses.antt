-- Sums of n classes: their degrees, and that a sum of n and one of m classes is one of n + m classes.
--
-- IsSum n hs v   == v has an entry for each height, and a degree of at least n
-- Many n         == the sums of n of the classes
-- AddsUp m n u   == with any sum of m of the classes u is a sum of n + m of them
use Rattle.std.proofs.Common.{◌≡◌, Contains, ℕ, zero, suc, ◌+◌, ℤ, pos, ◌+ℤ◌, ◌≤ℤ◌, List, [], ◌∷◌, map, length, refl, sym, ◌∙◌, arith}
use Rattle.std.proofs.lemmas.Int.{ints}
use Rattle.std.specs.List.{AllByRecursion}
use Rattle.tv_lemmas.proofs.Members.{all-map, all-flat_map, all-contains, all-members, contains-head, contains-map, contains-flat_map}
use Rattle.tv_spec_plane.specs.Web.{degree_of}
use Rattle.tv_spec_boxes.specs.Assignments.{zeros, plus}
use Rattle.tv_spec_boxes.proofs.Vectors.{length-zeros, length-plus}
use Rattle.tv_spec_boxes.proofs.OneCornerCrowd.{degree_zero}
use Rattle.tv_laws_counts.proofs.Degrees.{degree_of-plus}
use Rattle.tv_spec_katz.specs.Integers.{sums}
use Rattle.tv_spec_katz.specs.Relations.{IsPositiveClass}

-- ---- sums of vectors

plus-none : (v : List ℤ) (n : ℕ) → length v ≡ n → plus v (zeros n) ≡ v
plus-none [] zero e = refl
plus-none [] (suc n) e = absurd (omega arith)
plus-none (x ∷ v) zero e = absurd (omega arith)
plus-none (x ∷ v) (suc n) e =
    let first : x +ℤ pos 0 ≡ x = omega (arith, ints) in
    rw (first, plus-none v n (omega arith)) refl

none-plus : (v : List ℤ) (n : ℕ) → length v ≡ n → plus (zeros n) v ≡ v
none-plus [] zero e = refl
none-plus [] (suc n) e = absurd (omega arith)
none-plus (x ∷ v) zero e = absurd (omega arith)
none-plus (x ∷ v) (suc n) e =
    let first : pos 0 +ℤ x ≡ x = omega (arith, ints) in
    rw (first, none-plus v n (omega arith)) refl

pub plus_assoc : (u v w : List ℤ) → plus (plus u v) w ≡ plus u (plus v w)
plus_assoc [] v w = refl
plus_assoc (x ∷ u) [] w = refl
plus_assoc (x ∷ u) (y ∷ v) [] = refl
plus_assoc (x ∷ u) (y ∷ v) (z ∷ w) =
    let first : (x +ℤ y) +ℤ z ≡ x +ℤ (y +ℤ z) = omega (arith, ints) in
    rw (first, plus_assoc u v w) refl

-- ---- sums of n classes

pub record IsSum (n : ℕ) (hs v : List ℤ) : Type 0 where
  pub entries : length v ≡ length hs
  pub degree : pos n ≤ℤ degree_of hs v

module _ (hs : List ℤ) (vs : List (List ℤ)) (each : AllByRecursion (IsPositiveClass hs) vs) where
  abbrev Many : ℕ → List (List ℤ)
  Many n = sums n vs hs

  one_more : (n : ℕ) (u v : List ℤ) → IsPositiveClass hs u → IsSum n hs v → IsSum (suc n) hs (plus u v)
  one_more n u v positive is = record {
    entries = length-plus u v (positive.entries ∙ sym is.entries) ∙ is.entries;
    degree = let up = positive.degree in let least = is.degree in let sum = degree_of-plus hs u v in omega (arith, ints);
  }

  with_each : (n : ℕ) → AllByRecursion (IsSum n hs) (Many n) → (u : List ℤ) → IsPositiveClass hs u
      → AllByRecursion (IsSum (suc n) hs) (map (plus u) (Many n))
  with_each n are u positive = all-map (IsSum n hs) (IsSum (suc n) hs) (plus u) (λ v is. one_more n u v positive is) (Many n) are

  pub sums_are : (n : ℕ) → AllByRecursion (IsSum n hs) (sums n vs hs)
  sums_are zero = (
    record {
      entries = length-zeros (length hs);
      degree = let e = degree_zero hs (length hs) in
          omega (arith, ints);
    },
    tt,
  )
  sums_are (suc n) = all-flat_map (IsPositiveClass hs) (IsSum (suc n) hs) (λ u. map (plus u) (Many n))
      (with_each n (sums_are n)) vs each

  pub sum_is : (n : ℕ) (v : List ℤ) → Contains (sums n vs hs) v → IsSum n hs v
  sum_is n v there = all-contains (IsSum n hs) (Many n) v (sums_are n) there

  more_sum : (n : ℕ) (u v : List ℤ) → Contains vs u → Contains (Many n) v → Contains (Many (suc n)) (plus u v)
  more_sum n u v listed there = contains-flat_map (λ t. map (plus t) (Many n)) u (plus u v) vs listed
      (contains-map (plus u) v (Many n) there)

  pub sum_of_one : (v : List ℤ) → Contains vs v → Contains (sums 1 vs hs) v
  sum_of_one v listed =
      let entries = (all-contains (IsPositiveClass hs) vs v each listed).entries in
      rw (plus-none v (length hs) entries) at
      (more_sum 0 v (zeros (length hs)) listed (contains-head (zeros (length hs)) (zeros (length hs)) [] refl))

  abbrev AddsUp : ℕ → ℕ → List ℤ → Type 0
  AddsUp m n u = (v : List ℤ) → Contains (Many m) v → Contains (Many (n + m)) (plus u v)

  adds_none : (m : ℕ) → AddsUp m 0 (zeros (length hs))
  adds_none m v there =
      let none : 0 + m ≡ m = omega arith in
      rw (none, none-plus v (length hs) (sum_is m v there).entries) there

  adds_more : (m n : ℕ) (u : List ℤ) → Contains vs u → (w : List ℤ) → AddsUp m n w → AddsUp m (suc n) (plus u w)
  adds_more m n u listed w adds v there =
      let one : suc n + m ≡ suc (n + m) = omega arith in
      rw (one, plus_assoc u w v) (more_sum (n + m) u (plus w v) listed (adds v there))

  add_each : (m n : ℕ) → AllByRecursion (AddsUp m n) (Many n) → (u : List ℤ) → Contains vs u
      → AllByRecursion (AddsUp m (suc n)) (map (plus u) (Many n))
  add_each m n all u listed = all-map (AddsUp m n) (AddsUp m (suc n)) (plus u) (adds_more m n u listed) (Many n) all

  all_add : (m n : ℕ) → AllByRecursion (AddsUp m n) (Many n)
  all_add m zero = (adds_none m, tt)
  all_add m (suc n) = all-flat_map (Contains vs) (AddsUp m (suc n)) (λ u. map (plus u) (Many n)) (add_each m n (all_add m n)) vs
      (all-members vs)

  pub sums_add : (m n : ℕ) (u v : List ℤ) → Contains (sums n vs hs) u → Contains (sums m vs hs) v → Contains
      (sums (n + m) vs hs) (plus u v)
  sums_add m n u v first second = all-contains (AddsUp m n) (Many n) u (all_add m n) first v second
