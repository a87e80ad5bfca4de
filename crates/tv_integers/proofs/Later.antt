-- The order of integers: what its tests tell.
use Rattle.std.proofs.Common.{◌≡◌, inl, inr, ℕ, ◌<◌, ℤ, Bool, true, false, ◌&&◌, ◌||◌, nat_lt, List, refl, sym, ◌∙◌, arith}
use Rattle.tv_laws_series.proofs.NormalForm.{bool_cases}
use Rattle.tv_spec_boxes.specs.Assignments.{same_vector}
use Rattle.tv_spec_boxes.specs.Classes.{IsBefore}
use Rattle.tv_spec_series.specs.Families.{comes_before}
use Rattle.tv_spec_series.proofs.Order.{same_vector-equal, same_vector-other, comes_before-true, comes_before_tells, before_apart, before_strict, before_trans}
use Rattle.tv_spec_katz.specs.Katz.{Integer}
use Rattle.tv_spec_katz.specs.Relations.{ComesLater}
use Rattle.tv_integers.specs.declared.genus_value.GenusValue.{GenusValue}
use Rattle.tv_integers.specs.Kept.{comes_later, has_place, integer_at}

-- neither later than j nor at its place
abbrev pub Passes : List ℤ → Integer → Integer → Type 0
Passes hs i j = (comes_later hs i j ≡ false) × (has_place i j ≡ false)

pub not_before : (hs u v : List ℤ) → IsBefore hs u v → comes_before hs v u ≡ false
not_before hs u v h = bool_cases (comes_before hs v u) (λ t. absurd (before_strict hs u (before_trans hs u v u h (comes_before_tells hs v u t)))) (λ f. f)

pub itself_not_before : (hs v : List ℤ) → comes_before hs v v ≡ false
itself_not_before hs v = bool_cases (comes_before hs v v) (λ t. absurd (before_strict hs v (comes_before_tells hs v v t))) (λ f. f)

or_true : (b : Bool) → (b || true) ≡ true
or_true true = refl
or_true false = refl

nat_lt-true : (m n : ℕ) → m < n → nat_lt m n ≡ true
nat_lt-true m n h = grind arith

pub later-true : (hs : List ℤ) (i j : Integer) → ComesLater hs i j → comes_later hs i j ≡ true
later-true hs i j (inl before) = rw (comes_before-true hs j.class i.class before) refl
later-true hs i j (inr h) = rw (same_vector-equal i.class j.class h.0, nat_lt-true i.genus j.genus h.1) (or_true (comes_before hs j.class i.class))

pub passes : (hs v : List ℤ) (g : GenusValue) (j : Integer) → IsBefore hs v j.class → Passes hs (integer_at v g) j
passes hs v g j before =
    let s = same_vector-other v j.class (before_apart hs v j.class before) in
    let c = not_before hs v j.class before in
    (rw (c, s) refl, rw s refl)
