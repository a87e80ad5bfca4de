-- A list in a strict order is told by its members.
use Rattle.std.specs.Prelude.{◌≡◌, Contains, suc, Bool, true, false, List, [], ◌∷◌}
use Rattle.std.proofs.Common.{refl, sym, ap, ◌∙◌, arith, inl, inr}
use Rattle.std.proofs.lemmas.Bool.{both_ways}
use Rattle.std.proofs.lemmas.Map.Views.{Contains-from_any}
use Rattle.tv_lemmas.proofs.Members.{all-contains, contains-head, contains-later, contains-cases}
use Rattle.tv_partition.specs.Rows.{diagrams}
use Rattle.tv_partition.proofs.Members.{diagrams-are-all, same_lists}
use Rattle.tv_laws_counts.proofs.Choices.{HasSize, diagrams_are}
use Rattle.tv_laws_orders.proofs.Diagrams.{diagrams_in_order}
use Rattle.tv_laws_orders.specs.Orders.{diagram_before, set_before, assignment_before, configuration_before, IsInOrder, IsStrict}
use Rattle.tv_laws_orders.specs.Laws.{OrderTellsList, OrdersTellLists, DiagramsTold, AssignmentsTold, ConfigurationsTold}
use Rattle.tv_laws_counts.proofs.Assigned.{assignments_are_all}
use Rattle.tv_laws_counts.proofs.Configured.{configurations_are_all}
use Rattle.tv_spec_boxes.specs.Assignments.{assignments}
use Rattle.tv_spec_boxes.specs.Configurations.{configurations}
use Rattle.tv_laws_orders.proofs.Chosen.{assignments_in_order, configurations_in_order}
use Rattle.tv_laws_orders.proofs.Strict.{not_itself, orders_are_strict}

module _ {A : Type 0} (before : A → A → Bool) (strict : IsStrict before) where
  rest_in_order : (x : A) (xs : List A) → IsInOrder before (x ∷ xs) → IsInOrder before xs
  rest_in_order x xs o i j d h k = o (suc i) (suc j) d (omega arith) (omega arith)

  -- the first comes before each of the rest
  first_before : (x y : A) (xs : List A) → IsInOrder before (x ∷ xs) → Contains xs y → before x y ≡ true
  first_before x y xs o (k, h, e) = ap (before x) (sym e) ∙ o 0 (suc k) y (omega arith) (omega arith)

  no_member : (x : A) → Contains [] x → ⊥
  no_member x (k, h, e) = absurd (omega arith)

  firsts-equal : (x y : A) (xs ys : List A) → IsInOrder before (x ∷ xs) → IsInOrder before (y ∷ ys) → Contains (y ∷ ys) x →
      Contains (x ∷ xs) y → x ≡ y
  firsts-equal x y xs ys o p m n = elim (contains-cases x y ys m) [
    | inl here ↦ sym here
    | inr later ↦ elim (contains-cases y x xs n) [
      | inl there ↦ there
      | inr behind ↦ absurd (both_ways (before y x) (strict x y (first_before x y xs o behind)) (first_before y x ys p later))
    ]
  ]

  -- a member of the rest of one list is one of the rest of the other
  rest-member : (x y z : A) (xs ys : List A) → x ≡ y → IsInOrder before (x ∷ xs) → Contains xs z → Contains (y ∷ ys) z →
      Contains ys z
  rest-member x y z xs ys e o m n = elim (contains-cases z y ys n) [
    | inl here ↦
        let never : before x z ≡ false = ap (before x) (sym (e ∙ here)) ∙ not_itself before strict x in
        absurd (both_ways (before x z) never (first_before x z xs o m))
    | inr later ↦ later
  ]

  pub order_tells : OrderTellsList before
  order_tells [] [] o p m = refl
  order_tells [] (y ∷ ys) o p m = absurd (no_member y ((m y).1 (contains-head y y ys refl)))
  order_tells (x ∷ xs) [] o p m = absurd (no_member x ((m x).0 (contains-head x x xs refl)))
  order_tells (x ∷ xs) (y ∷ ys) o p m =
      let e = firsts-equal x y xs ys o p ((m x).0 (contains-head x x xs refl)) ((m y).1 (contains-head y y ys refl)) in
      let there : (z : A) → Contains xs z → Contains ys z = λ z a. rest-member x y z xs ys e o a ((m z).0 (contains-later z x xs a)) in
      let back : (z : A) → Contains ys z → Contains xs z =
      λ z b. rest-member y x z ys xs (sym e) p b ((m z).1 (contains-later z y ys b)) in
      let rest = order_tells xs ys (rest_in_order x xs o) (rest_in_order y ys p) (λ z. (there z, back z)) in
      ap (λ z. z ∷ xs) e ∙ ap (λ zs. y ∷ zs) rest

pub orders_tell_lists : OrdersTellLists
orders_tell_lists = record {
  diagrams = order_tells diagram_before orders_are_strict.diagrams;
  extras = order_tells set_before orders_are_strict.extras;
  assignments = order_tells assignment_before orders_are_strict.assignments;
  configurations = order_tells configuration_before orders_are_strict.configurations;
}

pub diagrams_told : DiagramsTold
diagrams_told n xs o all =
    orders_tell_lists.diagrams xs (diagrams n) o (diagrams_in_order n)
    (λ rows. let of = all rows in (
      λ m. Contains-from_any same_lists rows (diagrams n) ((diagrams-are-all n rows).1 (of.0 m)),
      λ m. of.1 (all-contains (HasSize n) (diagrams n) rows (diagrams_are n) m),
    ))

pub assignments_told : AssignmentsTold
assignments_told w d xs graded o all =
    orders_tell_lists.assignments xs (assignments w d) o (assignments_in_order w d)
    (λ a. let of = all a in let listed = assignments_are_all w d a graded in (λ m. listed.1 (of.0 m), λ m. of.1 (listed.0 m)))

pub configurations_told : ConfigurationsTold
configurations_told w fixed v n xs graded also o all =
    orders_tell_lists.configurations xs (configurations w fixed v n) o (configurations_in_order w fixed v n)
    (λ c. let of = all c in
    let listed = configurations_are_all w fixed v n c graded also in
    (λ m. listed.1 (of.0 m), λ m. of.1 (listed.0 m)))
