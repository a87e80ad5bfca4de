-- The legs along a diagonal: the heights of those along x and y fall, and the places in the leg along z are the first ones.
--
-- base-further     at a further place the legs are no higher; base-past, past the extent they have no height
-- endless-further  where a place is in the leg along z, each earlier one is; endless-inside, it is inside the extent
-- endless-first    the places in the leg along z are exactly the first ones, as many as are counted
use Rattle.std.specs.Prelude.{◌≡◌, ℕ, zero, suc, ◌+◌, ◌-◌, ◌<◌, ◌≤◌, ℤ, max, Bool, true, false, cond, ◌&&◌, nat_lt, slice_index, List, length}
use Rattle.std.proofs.Common.{refl, sym, ap, ◌∙◌, arith, inl, inr}
use Rattle.std.proofs.lemmas.Bool.{cases_eq, cases_lt, lt-ltb}
use Rattle.std.proofs.lemmas.Bool.Decides.{nat_tests}
use Rattle.tv_partition.specs.Rows.{IsDiagram, has, reach}
use Rattle.tv_partition.proofs.Shapes.{rows-descend, row-past, has-lower_row, has-lower, has-below}
use Rattle.tv_cells.specs.declared.legs.Legs.{Legs}
use Rattle.tv_cells.specs.Cells.{x_from, y_from}
use Rattle.tv_cells.specs.Extras.{extent, AreDiagrams}
use Rattle.tv_spec_slices.specs.Slices.{base_at, is_endless}
use Rattle.tv_spec_slices.specs.Paths.{full_of}
use Rattle.tv_lemmas.proofs.Naturals.{first-max, second-max, third-max}

row-further : (rows : List ℕ) (d k : ℕ) → IsDiagram rows → slice_index rows (suc d + k) ≤ slice_index rows (d + k)
row-further rows d k is = let e : suc d + k ≡ suc (d + k) = omega arith in rw e (rows-descend rows (d + k) is)

both-less : (a b c e : ℕ) → a ≤ c → b ≤ e → max a b ≤ max c e
both-less a b c e l m = omega arith

pub base-next : (legs : Legs) (t : ℤ) (d : ℕ) → AreDiagrams legs → base_at legs t (suc d) ≤ base_at legs t d
base-next legs t d are =
    both-less _ _ _ _ (row-further legs.along_x d (y_from t) are.along_x) (row-further legs.along_y d (x_from t) are.along_y)

pub base-further : (legs : Legs) (t : ℤ) → AreDiagrams legs → (d i : ℕ) → base_at legs t (d + i) ≤ base_at legs t d
base-further legs t are d zero = let e : d + 0 ≡ d = omega arith in rw e (own (base_at legs t d))
  where
    own : (k : ℕ) → k ≤ k
    own k = omega arith
base-further legs t are d (suc i) =
    let e : d + suc i ≡ suc (d + i) = omega arith in
    rw e (through (base_at legs t (suc (d + i))) (base_at legs t (d + i)) (base_at legs t d) (base-next legs t (d + i) are) (base-further legs t are d i))
  where
    through : (a b c : ℕ) → a ≤ b → b ≤ c → a ≤ c
    through a b c l m = omega arith

row-none : (rows : List ℕ) (n d k : ℕ) → reach rows ≤ n → n ≤ d → slice_index rows (d + k) ≡ 0
row-none rows n d k l m = row-past rows (d + k) (far (length rows) (slice_index rows 0) l)
  where
    far : (a b : ℕ) → max a b ≤ n → a ≤ d + k
    far a b h = omega arith

pub base-past : (legs : Legs) (t : ℤ) (d : ℕ) → extent legs ≤ d → base_at legs t d ≡ 0
base-past legs t d l =
    both-none _ _
    (row-none legs.along_x (extent legs) d (y_from t) (first-max (reach legs.along_x) (reach legs.along_y) (reach legs.along_z)) l)
    (row-none legs.along_y (extent legs) d (x_from t) (second-max (reach legs.along_x) (reach legs.along_y) (reach legs.along_z)) l)
  where
    both-none : (a b : ℕ) → a ≡ 0 → b ≡ 0 → max a b ≡ 0
    both-none a b e f = omega arith

pub endless-next : (legs : Legs) (t : ℤ) (d : ℕ) → AreDiagrams legs → is_endless legs t (suc d) ≡ true → is_endless legs t d ≡ true
endless-next legs t d are h =
    let e : suc d + x_from t ≡ suc (d + x_from t) = omega arith in
    let f : suc d + y_from t ≡ suc (d + y_from t) = omega arith in
    let both : has legs.along_z (suc (d + x_from t)) (suc (d + y_from t)) ≡ true = rw (← e, ← f) h in
    has-lower legs.along_z (d + x_from t) (d + y_from t) (has-lower_row legs.along_z (d + x_from t) (suc (d + y_from t)) are.along_z both)

pub endless-further : (legs : Legs) (t : ℤ) → AreDiagrams legs → (d i : ℕ) → is_endless legs t (d + i) ≡ true → is_endless legs t d ≡ true
endless-further legs t are d zero h = let e : d + 0 ≡ d = omega arith in ap (is_endless legs t) (sym e) ∙ h
endless-further legs t are d (suc i) h =
    let e : d + suc i ≡ suc (d + i) = omega arith in
    endless-further legs t are d i (endless-next legs t (d + i) are (ap (is_endless legs t) (sym e) ∙ h))

pub endless-inside : (legs : Legs) (t : ℤ) (d : ℕ) → AreDiagrams legs → is_endless legs t d ≡ true → d < extent legs
endless-inside legs t d are h =
    inside (reach legs.along_z) (extent legs) (d + x_from t) (x_from t) refl
    (third-max (reach legs.along_x) (reach legs.along_y) (reach legs.along_z))
    (has-below legs.along_z are.along_z (d + x_from t) (d + y_from t) h).0
  where
    inside : (r n e k : ℕ) → d + k ≡ e → r ≤ n → e < r → d < n
    inside r n e k s l m = omega arith

full-tells : (legs : Legs) (t : ℤ) (d n : ℕ) → AreDiagrams legs → nat_lt d (full_of legs t n) ≡ (is_endless legs t d && nat_lt d n)
full-tells legs t d zero are = never d (is_endless legs t d)
  where
    never : (d : ℕ) (q : Bool) → nat_lt d 0 ≡ (q && nat_lt d 0)
    never d q = grind (arith, nat_tests)
full-tells legs t d (suc n) are = by_test (is_endless legs t n) refl (full-tells legs t d n are)
  where
    apart : (f : ℕ) (q : Bool) → nat_lt d f ≡ (q && nat_lt d n) → (d ≡ n → q ≡ false) → nat_lt d f ≡ (q && nat_lt d (suc n))
    apart f q e none = elim (cases_eq d n) [
      | inl same ↦ let off = none same in grind (arith, nat_tests)
      | inr ne ↦ grind (arith, nat_tests)
    ]

    up_to : (q : Bool) → (d ≤ n → q ≡ true) → nat_lt d (suc n) ≡ (q && nat_lt d (suc n))
    up_to true on = refl
    up_to false on = elim (cases_lt n d) [
      | inl l ↦ grind (arith, nat_tests)
      | inr l ↦ absurd (let f = on l in cc)
    ]

    by_test : (c : Bool) → is_endless legs t n ≡ c → nat_lt d (full_of legs t n) ≡ (is_endless legs t d && nat_lt d n) →
        nat_lt d (cond c (suc n) (full_of legs t n)) ≡ (is_endless legs t d && nat_lt d (suc n))
    by_test true e before =
        up_to (is_endless legs t d) (λ l. let s : d + (n - d) ≡ n = omega arith in endless-further legs t are d (n - d) (ap (is_endless legs t) s ∙ e))
    by_test false e before = apart (full_of legs t n) (is_endless legs t d) before (λ same. ap (is_endless legs t) same ∙ e)

pub endless-first : (legs : Legs) (t : ℤ) (d : ℕ) → AreDiagrams legs → is_endless legs t d ≡ nat_lt d (full_of legs t (extent legs))
endless-first legs t d are =
    inside (is_endless legs t d) (endless-inside legs t d are) ∙ sym (full-tells legs t d (extent legs) are)
  where
    inside : (q : Bool) → (q ≡ true → d < extent legs) → q ≡ (q && nat_lt d (extent legs))
    inside true l = sym (lt-ltb d (extent legs) (l refl))
    inside false l = refl
