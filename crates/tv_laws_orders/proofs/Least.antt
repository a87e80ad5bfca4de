-- Of two sets of as many cells the one with the least cell that only one of them has comes first.
use Rattle.std.specs.Prelude.{◌≡◌, Bool, true, false, ◌&&◌, ◌||◌, nat_eq, nat_lt, List, [], ◌∷◌, length}
use Rattle.std.specs.List.{list_any}
use Rattle.std.proofs.Common.{refl, sym, ap, subst, ◌∙◌, arith, inl, inr}
use Rattle.std.proofs.lemmas.Bool.{both_ways, false_from_ne_true, or_cases, or_left, or_right, or_parts, or_from, and_parts, and_from}
use Rattle.std.proofs.lemmas.Bool.Decides.{nat_tests}
use Rattle.tv_cells.specs.declared.cell.Cell.{Cell}
use Rattle.tv_cells.specs.Cells.{same, precedes, rises}
use Rattle.tv_cells.proofs.Rising.{Before, before_earlier, before_rising, rises-tail, absent, follows_differs, precedes-trans, same_itself}
use Rattle.tv_laws_counts.proofs.Rises.{same_cell, behind}
use Rattle.tv_laws_orders.specs.Orders.{set_before}
use Rattle.tv_laws_orders.specs.Laws.{HasLeast, SetsByLeastCell}
use Rattle.tv_laws_orders.proofs.Sets.{earlier}

-- what precedes the first cell precedes all
before_all : (e c : Cell) (s : List Cell) → rises (c ∷ s) ≡ true → precedes e c ≡ true → Before e (c ∷ s)
before_all e c s r p = (p, before_earlier e c s p (before_rising c s r))

least-first : (c d : Cell) (s t : List Cell) → rises (c ∷ s) ≡ true → rises (d ∷ t) ≡ true → precedes c d ≡ true →
    HasLeast (c ∷ s) (d ∷ t)
least-first c d s t r q p = record {
  least = c;
  inside = or_left (same c c) (list_any (same c) s) (same_itself c);
  outside = absent c (d ∷ t) (before_all c d t q p);
  alike = λ e h. absent e (c ∷ s) (before_all e c s r h) ∙ sym (absent e (d ∷ t) (before_all e d t q (precedes-trans e c d h p)));
}

least-behind : (c : Cell) (s t : List Cell) → rises (c ∷ s) ≡ true → HasLeast s t → HasLeast (c ∷ s) (c ∷ t)
least-behind c s t r h = record {
  least = h.least;
  inside = or_right (same h.least c) (list_any (same h.least) s) h.inside;
  outside = or_from (same h.least c) (list_any (same h.least) t) behind_first h.outside;
  alike = λ e p. ap (λ b. same e c || b) (h.alike e p);
}
  where
    behind_first : same h.least c ≡ false
    behind_first = follows_differs c h.least (behind h.least c s (before_rising c s r) h.inside)

has_least : (s t : List Cell) → rises s ≡ true → rises t ≡ true → earlier s t ≡ true → HasLeast s t
has_least [] t r q e = cc
has_least (c ∷ s) [] r q e = cc
has_least (c ∷ s) (d ∷ t) r q e = elim (or_cases (precedes c d) (same c d && earlier s t) e) [
  | inl first ↦ least-first c d s t r q first
  | inr later ↦
      let parts = and_parts (same c d) (earlier s t) later in
      subst (λ z. HasLeast (c ∷ s) (z ∷ t)) (same_cell c d parts.0)
      (least-behind c s t r (has_least s t (rises-tail c s r) (rises-tail d t q) parts.1))
]

-- ---- and back

-- behind one first cell
least-rest : (c : Cell) (s t : List Cell) → rises (c ∷ s) ≡ true → rises (c ∷ t) ≡ true → HasLeast (c ∷ s) (c ∷ t) → HasLeast s t
least-rest c s t r q h = record {
  least = h.least;
  inside = elim (or_cases (same h.least c) (list_any (same h.least) s) h.inside) [
    | inl here ↦ absurd (both_ways (same h.least c) apart.0 here)
    | inr later ↦ later
  ];
  outside = apart.1;
  alike = λ e p. by_test e (precedes c e) refl (h.alike e p);
}
  where
    apart : (same h.least c ≡ false) × (list_any (same h.least) t ≡ false)
    apart = or_parts (same h.least c) (list_any (same h.least) t) h.outside

    none : (e : Cell) (u : List Cell) → rises (c ∷ u) ≡ true → precedes c e ≡ false → list_any (same e) u ≡ false
    none e u o f =
        false_from_ne_true (list_any (same e) u) (λ m. both_ways (precedes c e) f (behind e c u (before_rising c u o) m))

    by_test : (e : Cell) (b : Bool) → precedes c e ≡ b → list_any (same e) (c ∷ s) ≡ list_any (same e) (c ∷ t) →
        list_any (same e) s ≡ list_any (same e) t
    by_test e true p h =
        let f = follows_differs c e p in
        sym (ap (λ b. b || list_any (same e) s) f) ∙ (h ∙ ap (λ b. b || list_any (same e) t) f)
    by_test e false p h = none e s r p ∙ sym (none e t q p)

-- where the second begins with an earlier cell, the first lacks it
not-later : (c d : Cell) (s t : List Cell) → rises (c ∷ s) ≡ true → precedes d c ≡ true → HasLeast (c ∷ s) (d ∷ t) → ⊥
not-later c d s t r p h =
    let before = before_all d c s r p in
    both_ways (list_any (same d) (d ∷ t))
    (sym (h.alike d (behind h.least d (c ∷ s) before h.inside)) ∙ absent d (c ∷ s) before)
    (or_left (same d d) (list_any (same d) t) (same_itself d))

one_of_three : (c d : Cell) → precedes c d ≡ false → same c d ≡ false → precedes d c ≡ true
one_of_three c d p e = grind (arith, nat_tests)

comes_first : (s t : List Cell) → rises s ≡ true → rises t ≡ true → length s ≡ length t → HasLeast s t → earlier s t ≡ true
comes_first [] t r q e h = absurd (both_ways false refl h.inside)
comes_first (c ∷ s) [] r q e h = absurd (omega arith)
comes_first (c ∷ s) (d ∷ t) r q e h =
    by_tests (precedes c d) (same c d) refl refl (comes_first s t (rises-tail c s r) (rises-tail d t q) (omega arith))
  where
    by_tests : (a b : Bool) → precedes c d ≡ a → same c d ≡ b → (HasLeast s t → earlier s t ≡ true) →
        (a || (b && earlier s t)) ≡ true
    by_tests true b p m rest = refl
    by_tests false true p m rest =
        let is = same_cell c d m in
        rest (least-rest c s t r (ap (λ z. rises (z ∷ t)) is ∙ q) (subst (λ z. HasLeast (c ∷ s) (z ∷ t)) (sym is) h))
    by_tests false false p m rest = absurd (not-later c d s t r (one_of_three c d p m) h)

pub sets_by_least_cell : SetsByLeastCell
sets_by_least_cell s t r q e = (onto, from)
  where
    onto : set_before s t ≡ true → HasLeast s t
    onto h = elim (or_cases (nat_lt (length s) (length t)) (nat_eq (length s) (length t) && earlier s t) h) [
      | inl fewer ↦ absurd (let f : ⊥ = grind (arith, nat_tests) in f)
      | inr later ↦ has_least s t r q (and_parts (nat_eq (length s) (length t)) (earlier s t) later).1
    ]

    from : HasLeast s t → set_before s t ≡ true
    from h =
        let equal : nat_eq (length s) (length t) ≡ true = grind (arith, nat_tests) in
        or_right (nat_lt (length s) (length t)) (nat_eq (length s) (length t) && earlier s t)
        (and_from (nat_eq (length s) (length t)) (earlier s t) equal (comes_first s t r q e h))
