-- The diagrams of a size are in their order.
use Rattle.std.specs.Prelude.{◌≡◌, ℕ, true, false, List, [], ◌∷◌}
use Rattle.std.specs.List.{AllByRecursion, IsDistinct}
use Rattle.std.proofs.Common.{refl, arith}
use Rattle.std.proofs.lemmas.Bool.{not-false, not_from_true, and_parts}
use Rattle.std.proofs.lemmas.Bool.Decides.{nat_tests}
use Rattle.tv_lemmas.proofs.Members.{all-onto}
use Rattle.tv_partition.specs.Rows.{size, diagrams}
use Rattle.tv_partition.specs.Laws.{greater, descends}
use Rattle.tv_partition.proofs.Descending.{diagrams-descend}
use Rattle.tv_spec_boxes.specs.Assignments.{Rows}
use Rattle.tv_laws_counts.proofs.Choices.{HasSize, diagrams_are}
use Rattle.tv_laws_orders.specs.Orders.{diagram_before}
use Rattle.tv_laws_orders.specs.Laws.{DiagramsInOrder}
use Rattle.tv_laws_orders.proofs.Ordered.{wrong, Ordered, in_order, of_one_number}

greater-trans : (a b c : Rows) → greater a b ≡ true → greater b c ≡ true → greater a c ≡ true
greater-trans [] b c p q = cc
greater-trans (row ∷ a) [] c p q = cc
greater-trans (row ∷ a) (other ∷ b) [] p q = refl
greater-trans (row ∷ a) (other ∷ b) (third ∷ c) p q = let rest = greater-trans a b c in grind (arith, nat_tests, rest)

ordered-descending : (lists : List Rows) → descends lists ≡ true → Ordered greater lists
unfolding IsDistinct
ordered-descending [] d = tt
ordered-descending (a ∷ []) d = (tt, tt)
ordered-descending (a ∷ b ∷ lists) d =
    let parts = and_parts (greater a b) (descends (b ∷ lists)) d in
    let rest = ordered-descending (b ∷ lists) parts.1 in
    let further : (c : Rows) → wrong greater b c ≡ false → wrong greater a c ≡ false =
    λ c e. not_from_true (greater a c) (greater-trans a b c parts.0 (not-false (greater b c) e)) in
    let first = not_from_true (greater a b) parts.0 in
    ((first, all-onto (λ c. wrong greater b c ≡ false) (λ c. wrong greater a c ≡ false) further lists rest.0), rest)

pub diagrams-size : (n : ℕ) → AllByRecursion (λ rows. size rows ≡ n) (diagrams n)
diagrams-size n = all-onto (HasSize n) (λ rows. size rows ≡ n) (λ rows is. is.1) (diagrams n) (diagrams_are n)

pub diagrams-ordered : (n : ℕ) → Ordered diagram_before (diagrams n)
diagrams-ordered n =
    of_one_number size greater n (diagrams n) (diagrams-size n) (ordered-descending (diagrams n) (diagrams-descend n))

pub diagrams_in_order : DiagramsInOrder
diagrams_in_order n = in_order diagram_before (diagrams n) (diagrams-ordered n)
