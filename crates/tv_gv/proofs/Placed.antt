-- The integers of a class, put in front of those of earlier classes.
--
-- last-onto         an integer of a lesser genus comes later than those that were put
-- put-in-front      so it stands in front
use Rattle.std.specs.Prelude.{◌≡◌, ◌≢◌, ◌⊎◌, ℕ, ◌+◌, ◌≤◌, ◌<◌, ℤ, pos, List, [], ◌∷◌, length}
use Rattle.std.specs.List.{AllByRecursion}
use Rattle.std.proofs.Common.{refl, sym, arith, ◌∙◌, inl, inr}
use Rattle.tv_lemmas.proofs.Members.{all-onto}
use Rattle.tv_spec_boxes.specs.Classes.{IsBefore}
use Rattle.tv_spec_katz.specs.Katz.{Integer}
use Rattle.tv_spec_katz.specs.Integers.{with_integer}
use Rattle.tv_spec_katz.specs.Relations.{IsPositiveClass}
use Rattle.tv_integers.specs.Kept.{AreKept, set_in}
use Rattle.tv_integers.proofs.Putting.{set_in_front}
use Rattle.tv_class_integers.specs.Readings.{genus_at}
use Rattle.tv_class_integers.specs.ClassIntegers.{onto}
use Rattle.tv_class_integers.proofs.FirstOrder.{onto-none, onto-one, zero-cases}
use Rattle.tv_gv.specs.Progress.{IsLastPlace, IsLastClass}

all-with : (P : Integer → Type 0) (v : List ℤ) (g : ℕ) (x : ℤ) (js : List Integer) →
    P (record { class = v; genus = g; value = x }) → AllByRecursion P js → AllByRecursion P (with_integer v g x js)
all-with P v g x js here rest = elim (zero-cases x) as (λ _. AllByRecursion P (with_integer v g x js)) [
  | inl none ↦ rw (onto-none v g x js none) rest
  | inr off ↦ rw (onto-one v g x js off) (here, rest)
]

pub last-onto : (hs v : List ℤ) (base : ℕ) (xs : List ℤ) (is : List Integer) (g : ℕ) → g + length xs ≤ base + 1 →
    IsLastClass hs v is → IsLastPlace hs v g (onto v base xs is)
last-onto hs v base [] is g h last =
    all-onto (λ (i : Integer). IsBefore hs i.class v) (λ (i : Integer). IsBefore hs i.class v ⊎ ((v ≡ i.class) × (g < i.genus)))
    (λ i before. inl before) is last
last-onto hs v base (x ∷ xs) is g h last =
    all-with (λ (i : Integer). IsBefore hs i.class v ⊎ ((v ≡ i.class) × (g < i.genus))) v (genus_at base (length xs)) x
    (onto v base xs is) (inr (refl, omega arith)) (last-onto hs v base xs is g (omega arith) last)

pub put-in-front : (hs v : List ℤ) (g : ℕ) (x : ℤ) (is : List Integer) → IsPositiveClass hs v → AreKept hs is →
    IsLastPlace hs v g is → x ≢ pos 0 →
    set_in hs (record { class = v; genus = g; value = x }) is ≡ with_integer v g x is
put-in-front hs v g x is positive kept last other = elim (zero-cases x)
    as (λ _. set_in hs (record { class = v; genus = g; value = x }) is ≡ with_integer v g x is) [
      | inl none ↦ absurd (other none)
      | inr off ↦
          set_in_front hs (record { class = v; genus = g; value = x }) is ((positive, other), (last, kept)) ∙
          sym (onto-one v g x is off)
    ]
