-- The order of classes: what its tests tell, and that it is strict, transitive and total among vectors of one length.
use Rattle.std.proofs.Common.{◌≡◌, ℤ, ◌<ℤ◌, ◌≤ℤ◌, int_lt, Bool, true, false, ◌&&◌, ◌||◌, List, [], ◌∷◌, length, refl, sym, ◌∙◌, ap, ◌⊎◌, inl, inr, arith}
use Rattle.std.proofs.lemmas.Int.{ints, by_lt_z}
use Rattle.std.proofs.lemmas.Bool.Decides.{Decides-int_eq}
use Rattle.std.specs.List.{AllByRecursion}
use Rattle.std.specs.Ordering.{int_eq}
use Rattle.tv_laws_series.proofs.NormalForm.{bool_cases}
use Rattle.tv_spec_plane.specs.Web.{degree_of}
use Rattle.tv_spec_boxes.specs.Assignments.{same_vector}
use Rattle.tv_spec_boxes.proofs.Vectors.{same_vector-same, same_vector_tells}
use Rattle.tv_spec_boxes.specs.Classes.{EntriesBefore, IsBefore, ClassesRise}
use Rattle.tv_spec_series.specs.Families.{entries_before, comes_before}

-- ---- whole numbers

pub int_lt-true : (a b : ℤ) → a <ℤ b → int_lt a b ≡ true
int_lt-true a b h = grind (arith, ints)

pub int_lt-false : (a b : ℤ) → b ≤ℤ a → int_lt a b ≡ false
int_lt-false a b h = grind (arith, ints)

pub int_lt_tells : (a b : ℤ) → int_lt a b ≡ true → a <ℤ b
int_lt_tells a b h = grind (arith, ints)

int_eq-true : (a b : ℤ) → a ≡ b → int_eq a b ≡ true
int_eq-true a b e = (Decides-int_eq a b).1 e

int_eq_tells : (a b : ℤ) → int_eq a b ≡ true → a ≡ b
int_eq_tells a b h = (Decides-int_eq a b).0 h

int_cases : (a b : ℤ) → (a <ℤ b) ⊎ ((a ≡ b) ⊎ (b <ℤ a))
int_cases a b = by_lt_z a b inl (λ h. by_lt_z b a (λ k. inr (inr k)) (λ k. let e : a ≡ b = omega (arith, ints) in inr (inl e)))

or_tells : (a b c : Bool) → (a || (b && c)) ≡ true → (a ≡ true) ⊎ ((b ≡ true) × (c ≡ true))
or_tells true b c h = inl refl
or_tells false true true h = inr (refl, refl)
or_tells false true false h = absurd (cc)
or_tells false false c h = absurd (cc)

or-left : (a b c : Bool) → a ≡ true → (a || (b && c)) ≡ true
or-left a b c e = rw e refl

or-right : (a b c : Bool) → b ≡ true → c ≡ true → (a || (b && c)) ≡ true
or-right true b c e e' = refl
or-right false b c e e' = rw (e, e') refl

-- ---- equal vectors

pub same_vector-equal : (u v : List ℤ) → u ≡ v → same_vector u v ≡ true
same_vector-equal u v e = rw e (same_vector-same v)

pub same_vector-other : (u v : List ℤ) → (u ≡ v → ⊥) → same_vector u v ≡ false
same_vector-other u v apart = bool_cases (same_vector u v) (λ h. absurd (apart (same_vector_tells u v h))) (λ h. h)

-- ---- the tests

entries_before-true : (u v : List ℤ) → EntriesBefore u v → entries_before u v ≡ true
entries_before-true [] v h = absurd h
entries_before-true (x ∷ u) [] h = absurd h
entries_before-true (x ∷ u) (y ∷ v) (inl h) = or-left (int_lt x y) (int_eq x y) (entries_before u v) (int_lt-true x y h)
entries_before-true (x ∷ u) (y ∷ v) (inr h) = or-right (int_lt x y) (int_eq x y) (entries_before u v) (int_eq-true x y h.0) (entries_before-true u v h.1)

entries_before_tells : (u v : List ℤ) → entries_before u v ≡ true → EntriesBefore u v
entries_before_tells [] v h = absurd (cc)
entries_before_tells (x ∷ u) [] h = absurd (cc)
entries_before_tells (x ∷ u) (y ∷ v) h = elim (or_tells (int_lt x y) (int_eq x y) (entries_before u v) h) as (λ _. EntriesBefore (x ∷ u) (y ∷ v)) [
  | inl e ↦ inl (int_lt_tells x y e)
  | inr p ↦ inr (int_eq_tells x y p.0, entries_before_tells u v p.1)
]

pub comes_before_is : (hs u v : List ℤ) → comes_before hs u v ≡ (int_lt (degree_of hs u) (degree_of hs v) || (int_eq (degree_of hs u) (degree_of hs v) && entries_before u v))
unfolding comes_before
comes_before_is hs u v = refl

pub comes_before-true : (hs u v : List ℤ) → IsBefore hs u v → comes_before hs u v ≡ true
comes_before-true hs u v (inl h) = comes_before_is hs u v ∙ or-left (int_lt (degree_of hs u) (degree_of hs v)) (int_eq (degree_of hs u) (degree_of hs v)) (entries_before u v) (int_lt-true (degree_of hs u) (degree_of hs v) h)
comes_before-true hs u v (inr h) = comes_before_is hs u v ∙ or-right (int_lt (degree_of hs u) (degree_of hs v)) (int_eq (degree_of hs u) (degree_of hs v)) (entries_before u v) (int_eq-true (degree_of hs u) (degree_of hs v) h.0) (entries_before-true u v h.1)

pub comes_before_tells : (hs u v : List ℤ) → comes_before hs u v ≡ true → IsBefore hs u v
comes_before_tells hs u v h = elim (or_tells (int_lt (degree_of hs u) (degree_of hs v)) (int_eq (degree_of hs u) (degree_of hs v)) (entries_before u v) (sym (comes_before_is hs u v) ∙ h)) as (λ _. IsBefore hs u v) [
  | inl e ↦ inl (int_lt_tells (degree_of hs u) (degree_of hs v) e)
  | inr p ↦ inr (int_eq_tells (degree_of hs u) (degree_of hs v) p.0, entries_before_tells u v p.1)
]

-- ---- strict, transitive, total

entries_strict : (v : List ℤ) → EntriesBefore v v → ⊥
entries_strict [] h = h
entries_strict (x ∷ v) (inl h) = omega (arith, ints)
entries_strict (x ∷ v) (inr h) = entries_strict v h.1

pub before_strict : (hs v : List ℤ) → IsBefore hs v v → ⊥
before_strict hs v (inl h) = omega (arith, ints)
before_strict hs v (inr h) = entries_strict v h.1

pub before_apart : (hs u v : List ℤ) → IsBefore hs u v → u ≡ v → ⊥
before_apart hs u v h e = before_strict hs v (rw e at h)

entries_trans : (u v w : List ℤ) → EntriesBefore u v → EntriesBefore v w → EntriesBefore u w
entries_trans [] v w h k = absurd h
entries_trans (x ∷ u) [] w h k = absurd h
entries_trans (x ∷ u) (y ∷ v) [] h k = absurd k
entries_trans (x ∷ u) (y ∷ v) (z ∷ w) (inl h) (inl k) = let l : x <ℤ z = omega (arith, ints) in inl l
entries_trans (x ∷ u) (y ∷ v) (z ∷ w) (inl h) (inr k) = let e = k.0 in let l : x <ℤ z = omega (arith, ints) in inl l
entries_trans (x ∷ u) (y ∷ v) (z ∷ w) (inr h) (inl k) = let e = h.0 in let l : x <ℤ z = omega (arith, ints) in inl l
entries_trans (x ∷ u) (y ∷ v) (z ∷ w) (inr h) (inr k) = inr (h.0 ∙ k.0, entries_trans u v w h.1 k.1)

pub before_trans : (hs u v w : List ℤ) → IsBefore hs u v → IsBefore hs v w → IsBefore hs u w
before_trans hs u v w (inl h) (inl k) = let l : degree_of hs u <ℤ degree_of hs w = omega (arith, ints) in inl l
before_trans hs u v w (inl h) (inr k) = let e = k.0 in let l : degree_of hs u <ℤ degree_of hs w = omega (arith, ints) in inl l
before_trans hs u v w (inr h) (inl k) = let e = h.0 in let l : degree_of hs u <ℤ degree_of hs w = omega (arith, ints) in inl l
before_trans hs u v w (inr h) (inr k) = inr (h.0 ∙ k.0, entries_trans u v w h.1 k.1)

entries_total : (u v : List ℤ) → length u ≡ length v → EntriesBefore u v ⊎ ((u ≡ v) ⊎ EntriesBefore v u)
entries_total [] [] e = inr (inl refl)
entries_total [] (y ∷ v) e = absurd (omega arith)
entries_total (x ∷ u) [] e = absurd (omega arith)
entries_total (x ∷ u) (y ∷ v) e = elim (int_cases x y) as (λ _. EntriesBefore (x ∷ u) (y ∷ v) ⊎ (((x ∷ u) ≡ (y ∷ v)) ⊎ EntriesBefore (y ∷ v) (x ∷ u))) [
  | inl h ↦ inl (inl h)
  | inr (inl s) ↦ elim (entries_total u v (omega arith)) as (λ _. EntriesBefore (x ∷ u) (y ∷ v) ⊎ (((x ∷ u) ≡ (y ∷ v)) ⊎ EntriesBefore (y ∷ v) (x ∷ u))) [
    | inl h ↦ inl (inr (s, h))
    | inr (inl t) ↦ inr (inl (ap (λ z. z ∷ u) s ∙ ap (λ w. y ∷ w) t))
    | inr (inr h) ↦ inr (inr (inr (sym s, h)))
  ]
  | inr (inr h) ↦ inr (inr (inl h))
]

pub before_total : (hs u v : List ℤ) → length u ≡ length v → IsBefore hs u v ⊎ ((u ≡ v) ⊎ IsBefore hs v u)
before_total hs u v e = elim (int_cases (degree_of hs u) (degree_of hs v)) as (λ _. IsBefore hs u v ⊎ ((u ≡ v) ⊎ IsBefore hs v u)) [
  | inl h ↦ inl (inl h)
  | inr (inl s) ↦ elim (entries_total u v e) as (λ _. IsBefore hs u v ⊎ ((u ≡ v) ⊎ IsBefore hs v u)) [
    | inl h ↦ inl (inr (s, h))
    | inr (inl t) ↦ inr (inl t)
    | inr (inr h) ↦ inr (inr (inr (sym s, h)))
  ]
  | inr (inr h) ↦ inr (inr (inl h))
]

-- not before it and not the same: after it
pub after_from : (hs u v : List ℤ) → length u ≡ length v → comes_before hs u v ≡ false → same_vector u v ≡ false → IsBefore hs v u
after_from hs u v e not_before not_same = elim (before_total hs u v e) as (λ _. IsBefore hs v u) [
  | inl h ↦ let t = comes_before-true hs u v h in absurd (cc)
  | inr (inl s) ↦ let t = same_vector-equal u v s in absurd (cc)
  | inr (inr h) ↦ h
]

-- ---- rising lists

pub rise_tail : (hs u : List ℤ) (vs : List (List ℤ)) → ClassesRise hs (u ∷ vs) → ClassesRise hs vs
rise_tail hs u [] h = tt
rise_tail hs u (v ∷ vs) h = h.1

pub all_after : (hs u v : List ℤ) (vs : List (List ℤ)) → IsBefore hs u v → AllByRecursion (IsBefore hs v) vs → AllByRecursion (IsBefore hs u) vs
all_after hs u v [] h k = tt
all_after hs u v (w ∷ vs) h k = (before_trans hs u v w h k.0, all_after hs u v vs h k.1)

-- the first comes before all others
pub first_before : (hs u : List ℤ) (vs : List (List ℤ)) → ClassesRise hs (u ∷ vs) → AllByRecursion (IsBefore hs u) vs
first_before hs u [] h = tt
first_before hs u (v ∷ vs) h = (h.0, all_after hs u v vs h.0 (first_before hs v vs h.1))

pub rise_onto : (hs u : List ℤ) (vs : List (List ℤ)) → AllByRecursion (IsBefore hs u) vs → ClassesRise hs vs → ClassesRise hs (u ∷ vs)
rise_onto hs u [] h k = tt
rise_onto hs u (v ∷ vs) h k = (h.0, k)
