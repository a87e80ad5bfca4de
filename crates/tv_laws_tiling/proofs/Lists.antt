-- Members of joined lists by the places of the pieces, and a place of a negative value.
use Rattle.std.specs.Prelude.{◌≡◌, ◌⊎◌, ℕ, zero, suc, ◌<◌, ℤ, pos, ◌≤ℤ◌, ◌<ℤ◌, List, [], ◌∷◌, length, slice_index_or}
use Rattle.std.specs.List.{flat_map}
use Rattle.std.proofs.Common.{arith, inl, inr}
use Rattle.tv_laws_tiling.specs.Members.{Among, Once}
use Rattle.std.proofs.lemmas.Int.{ints}
use Rattle.tv_lemmas.proofs.Signs.{sign}
use Rattle.tv_laws_tiling.proofs.Members.{among-append, append-among_left, append-among_right, once-append, append-once_apart, append-once_right}

pub flat_map-among : {A B : Type 0} (f : A → List B) (d : A) (s : B) (xs : List A) → Among s (flat_map f xs) → (i : ℕ) × (i < length xs) × Among s (f (slice_index_or xs i d))
flat_map-among f d s [] m = elim m [ ]
flat_map-among f d s (x ∷ xs) m = elim (among-append s (f x) (flat_map f xs) m) [
  | inl h ↦ (0, omega arith, h)
  | inr h ↦ let later = flat_map-among f d s xs h in (suc later.0, omega (arith, later.1), later.2)
]

pub among-flat_map : {A B : Type 0} (f : A → List B) (d : A) (s : B) (xs : List A) (i : ℕ) → i < length xs → Among s (f (slice_index_or xs i d)) → Among s (flat_map f xs)
among-flat_map f d s [] i h m = absurd (omega arith)
among-flat_map f d s (x ∷ xs) zero h m = append-among_left s (f x) (flat_map f xs) m
among-flat_map f d s (x ∷ xs) (suc i) h m = append-among_right s (f x) (flat_map f xs) (among-flat_map f d s xs i (omega arith) m)

pub once-flat_map : {A B : Type 0} (f : A → List B) (d : A) (xs : List A) → ((i : ℕ) → i < length xs → Once (f (slice_index_or xs i d))) → ((s : B) (i j : ℕ) → i < length xs → j < length xs → Among s (f (slice_index_or xs i d)) → Among s (f (slice_index_or xs j d)) → i ≡ j) → Once (flat_map f xs)
once-flat_map f d [] once one = tt
once-flat_map f d (x ∷ xs) once one = once-append (f x) (flat_map f xs) (once 0 (omega arith))
    (once-flat_map f d xs (λ i h. once (suc i) (omega arith)) (λ s i j hi hj mi mj. let e : suc i ≡ suc j = one s (suc i) (suc j) (omega arith) (omega arith) mi mj in omega arith))
    (λ s here m. let place = flat_map-among f d s xs m in let e : 0 ≡ suc place.0 = one s 0 (suc place.0) (omega arith) (omega (arith, place.1)) here place.2 in omega arith)

-- where no member stands twice, two pieces share none
pub flat_map-once_apart : {A B : Type 0} (f : A → List B) (d : A) (s : B) (xs : List A) → Once (flat_map f xs) → (i j : ℕ) → i < j → j < length xs → Among s (f (slice_index_or xs i d)) → Among s (f (slice_index_or xs j d)) → ⊥
flat_map-once_apart f d s [] once i j l m p q = absurd (omega arith)
flat_map-once_apart f d s (x ∷ xs) once zero zero l m p q = absurd (omega arith)
flat_map-once_apart f d s (x ∷ xs) once zero (suc j) l m p q = append-once_apart s (f x) (flat_map f xs) once p (among-flat_map f d s xs j (omega arith) q)
flat_map-once_apart f d s (x ∷ xs) once (suc i) zero l m p q = absurd (omega arith)
flat_map-once_apart f d s (x ∷ xs) once (suc i) (suc j) l m p q = flat_map-once_apart f d s xs (append-once_right (f x) (flat_map f xs) once) i j (omega arith) (omega arith) p q

-- all values are at least 0, or some is not
none_before : {A : Type 0} (f : A → ℤ) (d : A) (x : A) (xs : List A) → pos 0 ≤ℤ f x → ((k : ℕ) → k < length xs → pos 0 ≤ℤ f (slice_index_or xs k d)) → (k : ℕ) → k < length (x ∷ xs) → pos 0 ≤ℤ f (slice_index_or (x ∷ xs) k d)
none_before f d x xs here rest zero h = here
none_before f d x xs here rest (suc k) h = rest k (omega arith)

find-later : {A : Type 0} (f : A → ℤ) (d : A) (x : A) (xs : List A) → pos 0 ≤ℤ f x → ((k : ℕ) → k < length xs → pos 0 ≤ℤ f (slice_index_or xs k d)) ⊎ ((k : ℕ) × (k < length xs) × (f (slice_index_or xs k d) <ℤ pos 0)) → ((k : ℕ) → k < length (x ∷ xs) → pos 0 ≤ℤ f (slice_index_or (x ∷ xs) k d)) ⊎ ((k : ℕ) × (k < length (x ∷ xs)) × (f (slice_index_or (x ∷ xs) k d) <ℤ pos 0))
find-later f d x xs here (inl none) = inl (none_before f d x xs here none)
find-later f d x xs here (inr some) = inr (suc some.0, omega (arith, some.1), some.2)

pub find-negative : {A : Type 0} (f : A → ℤ) (d : A) (xs : List A) → ((k : ℕ) → k < length xs → pos 0 ≤ℤ f (slice_index_or xs k d)) ⊎ ((k : ℕ) × (k < length xs) × (f (slice_index_or xs k d) <ℤ pos 0))
find-negative f d [] = inl (λ k h. absurd (omega arith))
find-negative f d (x ∷ xs) = elim (sign (f x)) [
  | inl less ↦ inr (0, omega arith, less)
  | inr (inl same) ↦ find-later f d x xs (omega (arith, ints)) (find-negative f d xs)
  | inr (inr more) ↦ find-later f d x xs (omega (arith, ints)) (find-negative f d xs)
]
