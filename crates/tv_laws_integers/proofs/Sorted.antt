-- A sorted list of classes rises, and has exactly the classes of the list.
use Rattle.std.proofs.Common.{◌≡◌, ◌⊎◌, inl, inr, Contains, ℕ, ℤ, true, false, List, [], ◌∷◌, length, sym, ◌∙◌}
use Rattle.std.specs.List.{AllByRecursion}
use Rattle.tv_lemmas.proofs.Members.{all-onto, contains-head, contains-later, contains-cases}
use Rattle.tv_laws_series.proofs.NormalForm.{bool_cases}
use Rattle.tv_spec_boxes.specs.Assignments.{same_vector}
use Rattle.tv_spec_boxes.specs.Classes.{IsBefore, ClassesRise}
use Rattle.tv_spec_boxes.proofs.Vectors.{same_vector_tells}
use Rattle.tv_spec_series.specs.Families.{comes_before}
use Rattle.tv_spec_series.proofs.Order.{comes_before_tells, after_from, rise_tail, first_before, rise_onto}
use Rattle.tv_spec_katz.specs.Integers.{insert_class, sorted}

module _ (hs v : List ℤ) where
  -- what an insertion does is shown at no class, at an earlier one, at the class itself, and at a later one
  insert_cases : (P : List (List ℤ) → List (List ℤ) → Type 0) →
      P [] (v ∷ []) →
      ((u : List ℤ) (us : List (List ℤ)) → comes_before hs u v ≡ true → P us (insert_class hs v us) → P (u ∷ us)
      (u ∷ insert_class hs v us)) →
      ((u : List ℤ) (us : List (List ℤ)) → u ≡ v → P (u ∷ us) (u ∷ us)) →
      ((u : List ℤ) (us : List (List ℤ)) → comes_before hs u v ≡ false → same_vector u v ≡ false → P (u ∷ us) (v ∷ u ∷ us)) →
      (us : List (List ℤ)) → P us (insert_class hs v us)
  insert_cases P none earlier here later [] = none
  insert_cases P none earlier here later (u ∷ us) = bool_cases (comes_before hs u v)
      (λ b. rw b (earlier u us b (insert_cases P none earlier here later us)))
      (λ b. bool_cases (same_vector u v)
      (λ e. rw (b, e) (here u us (same_vector_tells u v e)))
      (λ e. rw (b, e) (later u us b e)))

  pub all_insert : (P : List ℤ → Type 0) → P v → (us : List (List ℤ)) → AllByRecursion P us → AllByRecursion P (insert_class hs v us)
  all_insert P p = insert_cases (λ us more. AllByRecursion P us → AllByRecursion P more)
      (λ all. (p, tt))
      (λ u us b rest all. (all.0, rest all.1))
      (λ u us e all. all)
      (λ u us b e all. (p, all))

  pub contains_insert : (w : List ℤ) (us : List (List ℤ)) → (w ≡ v) ⊎ Contains us w → Contains (insert_class hs v us) w
  contains_insert w = insert_cases (λ us more. (w ≡ v) ⊎ Contains us w → Contains more w)
      (λ h. elim h as (λ _. Contains (v ∷ []) w) [ inl e ↦ contains-head w v [] (sym e) | inr k ↦ contains-later w v [] k ])
      (λ u us b rest h. elim h as (λ _. Contains (u ∷ insert_class hs v us) w) [
        | inl e ↦ contains-later w u (insert_class hs v us) (rest (inl e))
        | inr k ↦ elim (contains-cases w u us k) as (λ _. Contains (u ∷ insert_class hs v us) w) [
          | inl e ↦ contains-head w u (insert_class hs v us) e
          | inr m ↦ contains-later w u (insert_class hs v us) (rest (inr m))
        ]
      ])
      (λ u us e h. elim h as (λ _. Contains (u ∷ us) w) [ inl s ↦ contains-head w u us (e ∙ sym s) | inr k ↦ k ])
      (λ u us b e h. elim h as (λ _. Contains (v ∷ u ∷ us) w)
      [ inl s ↦ contains-head w v (u ∷ us) (sym s) | inr k ↦ contains-later w v (u ∷ us) k ])

  pub insert_rises : (us : List (List ℤ)) → AllByRecursion (λ u. length u ≡ length v) us → ClassesRise hs us
      → ClassesRise hs (insert_class hs v us)
  insert_rises = insert_cases (λ us more. AllByRecursion (λ u. length u ≡ length v) us → ClassesRise hs us → ClassesRise hs more)
      (λ each rises. tt)
      (λ u us b rest each rises. rise_onto hs u (insert_class hs v us)
      (all_insert (IsBefore hs u) (comes_before_tells hs u v b) us (first_before hs u us rises))
      (rest each.1 (rise_tail hs u us rises)))
      (λ u us e each rises. rises)
      (λ u us b e each rises. (after_from hs u v each.0 b e, rises))

pub all_sorted : (hs : List ℤ) (P : List ℤ → Type 0) (vs : List (List ℤ)) → AllByRecursion P vs → AllByRecursion P (sorted hs vs)
all_sorted hs P [] all = tt
all_sorted hs P (v ∷ vs) all = all_insert hs v P all.0 (sorted hs vs) (all_sorted hs P vs all.1)

pub contains_sorted : (hs w : List ℤ) (vs : List (List ℤ)) → Contains vs w → Contains (sorted hs vs) w
contains_sorted hs w [] h = h
contains_sorted hs w (v ∷ vs) h = elim (contains-cases w v vs h) as (λ _. Contains (sorted hs (v ∷ vs)) w) [
  | inl e ↦ contains_insert hs v w (sorted hs vs) (inl (sym e))
  | inr k ↦ contains_insert hs v w (sorted hs vs) (inr (contains_sorted hs w vs k))
]

pub sorted_rises : (hs : List ℤ) (n : ℕ) (vs : List (List ℤ)) → AllByRecursion (λ v. length v ≡ n) vs
    → ClassesRise hs (sorted hs vs)
sorted_rises hs n [] each = tt
sorted_rises hs n (v ∷ vs) each = insert_rises hs v (sorted hs vs)
    (all_sorted hs (λ u. length u ≡ length v) vs
    (all-onto (λ u. length u ≡ n) (λ u. length u ≡ length v) (λ u e. e ∙ sym each.0) vs each.1)) (sorted_rises hs n vs each.1)
