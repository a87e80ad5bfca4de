-- The classes after a sum into a class: those before it, and that class. Each row is what is found of its class.
use Rattle.std.proofs.Common.{◌≡◌, ℤ, List, [], ◌∷◌, Some, sym, ◌∙◌, subst, ◌⊎◌, inl, inr, Contains, arith}
use Rattle.std.specs.List.{AllByRecursion}
use Rattle.tv_lemmas.proofs.Members.{contains-head, contains-later, contains-cases}
use Rattle.tv_ring.specs.Operations.{Operations}
use Rattle.tv_laws_series.specs.Terms.{Terms}
use Rattle.tv_spec_boxes.specs.Classes.{IsBefore, ClassesRise}
use Rattle.tv_spec_series.specs.Families.{Row, classes, find, put}
use Rattle.tv_spec_series.proofs.Order.{same_vector-other, before_apart, rise_tail, first_before}
use Rattle.tv_spec_series.proofs.Rows.{put_cases, find-class, find-next}

-- ---- elements of a list

none_within : {X : Type 0} (x : X) → Contains [] x → ⊥
none_within x h = let l = h.1 in omega arith

-- ---- the classes after a sum

module _ {A : Type 0} (r : Operations A) (hs : List ℤ) (n : ℤ) (v : List ℤ) (s : Terms A) (u : List ℤ) where
  pub put_members : (rows : List (Row A)) → Contains (classes (put r hs n v s rows)) u → (u ≡ v) ⊎ Contains (classes rows) u
  put_members rows = put_cases r hs n v s (λ xs ys. Contains (classes ys) u → (u ≡ v) ⊎ Contains (classes xs) u)
      (λ h. elim (contains-cases u v [] h) as (λ _. (u ≡ v) ⊎ Contains [] u) [ inl e ↦ inl (sym e) | inr k ↦ absurd (none_within u k) ])
      (λ x xs _ rest h. elim (contains-cases u x.class (classes (put r hs n v s xs)) h) as (λ _. (u ≡ v) ⊎ Contains (classes (x ∷ xs)) u) [
        | inl e ↦ inr (contains-head u x.class (classes xs) e)
        | inr k ↦ elim (rest k) as (λ _. (u ≡ v) ⊎ Contains (classes (x ∷ xs)) u) [ inl e ↦ inl e | inr m ↦ inr (contains-later u x.class (classes xs) m) ]
      ])
      (λ x xs e h. elim (contains-cases u v (classes xs) h) as (λ _. (u ≡ v) ⊎ Contains (classes (x ∷ xs)) u) [
        | inl same ↦ inl (sym same)
        | inr k ↦ inr (contains-later u x.class (classes xs) k)
      ])
      (λ x xs _ _ h. elim (contains-cases u v (classes (x ∷ xs)) h) as (λ _. (u ≡ v) ⊎ Contains (classes (x ∷ xs)) u) [ inl e ↦ inl (sym e) | inr k ↦ inr k ])
      rows

  pub members_put : (rows : List (Row A)) → (u ≡ v) ⊎ Contains (classes rows) u → Contains (classes (put r hs n v s rows)) u
  members_put rows = put_cases r hs n v s (λ xs ys. (u ≡ v) ⊎ Contains (classes xs) u → Contains (classes ys) u)
      (λ h. elim h as (λ _. Contains (v ∷ []) u) [ inl e ↦ contains-head u v [] (sym e) | inr k ↦ absurd (none_within u k) ])
      (λ x xs _ rest h. elim h as (λ _. Contains (x.class ∷ classes (put r hs n v s xs)) u) [
        | inl e ↦ contains-later u x.class (classes (put r hs n v s xs)) (rest (inl e))
        | inr k ↦ elim (contains-cases u x.class (classes xs) k) as (λ _. Contains (x.class ∷ classes (put r hs n v s xs)) u) [
          | inl e ↦ contains-head u x.class (classes (put r hs n v s xs)) e
          | inr m ↦ contains-later u x.class (classes (put r hs n v s xs)) (rest (inr m))
        ]
      ])
      (λ x xs e h. elim h as (λ _. Contains (v ∷ classes xs) u) [
        | inl same ↦ contains-head u v (classes xs) (sym same)
        | inr k ↦ elim (contains-cases u x.class (classes xs) k) as (λ _. Contains (v ∷ classes xs) u) [
          | inl same ↦ contains-head u v (classes xs) (sym e ∙ same)
          | inr m ↦ contains-later u v (classes xs) m
        ]
      ])
      (λ x xs _ _ h. elim h as (λ _. Contains (v ∷ classes (x ∷ xs)) u) [ inl e ↦ contains-head u v (classes (x ∷ xs)) (sym e) | inr k ↦ contains-later u v (classes (x ∷ xs)) k ])
      rows

-- ---- each row is found

pub row_found : {A : Type 0} (hs : List ℤ) (rows : List (Row A)) (x : Row A) → ClassesRise hs (classes rows) → Contains rows x → find x.class rows ≡ Some x
row_found hs [] x rises h = absurd (none_within x h)
row_found {A} hs (y ∷ rows) x rises h = elim (contains-cases x y rows h) as (λ _. find x.class (y ∷ rows) ≡ Some x) [
  | inl e ↦ let P : Row A → Type 0 = λ z. find z.class (y ∷ rows) ≡ Some z in subst P e (find-class y rows)
  | inr k ↦
      let after = first_before hs y.class (classes rows) rises in
      let later = within_after hs y.class rows x k after in
      find-next x.class y rows (same_vector-other y.class x.class (before_apart hs y.class x.class later))
      ∙ row_found hs rows x (rise_tail hs y.class (classes rows) rises) k
]
  where
    within_after : (hs u : List ℤ) (rows : List (Row A)) (x : Row A) → Contains rows x → AllByRecursion (IsBefore hs u) (classes rows) → IsBefore hs u x.class
    within_after hs u [] x k all = absurd (none_within x k)
    within_after hs u (z ∷ rows) x k all = elim (contains-cases x z rows k) as (λ _. IsBefore hs u x.class) [
      | inl e ↦ let P : Row A → Type 0 = λ y. IsBefore hs u y.class in subst P e all.0
      | inr m ↦ within_after hs u rows x m all.1
    ]
