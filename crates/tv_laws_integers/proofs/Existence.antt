-- What is read of a closed list of classes are the integers of a normalized family, and no other list is.
use Rattle.std.proofs.Common.{◌≡◌, ◌⊎◌, inl, inr, Contains, ℕ, ℤ, pos, List, [], ◌∷◌, ◌++◌, sym, ◌∙◌, arith}
use Rattle.std.proofs.lemmas.Int.{ints}
use Rattle.std.proofs.lemmas.List.Elements.{Contains-append_left}
use Rattle.std.specs.List.{AllByRecursion}
use Rattle.tv_lemmas.proofs.Members.{all-onto, all-both, all-contains, all-members, all-append, all-back, contains-head, contains-later, contains-cases}
use Rattle.tv_laws_series.proofs.NormalForm.{bool_cases}
use Rattle.tv_spec_boxes.specs.Assignments.{same_vector}
use Rattle.tv_spec_boxes.specs.Classes.{IsBefore, ClassesRise}
use Rattle.tv_spec_boxes.proofs.Vectors.{same_vector_tells}
use Rattle.tv_spec_series.specs.Families.{Family}
use Rattle.tv_spec_series.proofs.Order.{same_vector-equal, rise_tail, first_before}
use Rattle.tv_spec_katz.specs.Katz.{Integer, katz}
use Rattle.tv_spec_katz.specs.Integers.{Agrees, IsCompared, read_classes}
use Rattle.tv_spec_katz.specs.Relations.{IsInteger, AreOrdered, AreIntegers, IsNormalized}
use Rattle.tv_laws_katz.specs.Further.{own_exponent}
use Rattle.tv_laws_integers.specs.Closed.{IsClassTo, IsClosedList, IsListed}
use Rattle.tv_laws_integers.specs.Reading.{AgreeAt, AgreesThrough, IsBegun}
use Rattle.tv_laws_integers.proofs.Only.{only_at}
use Rattle.tv_laws_integers.proofs.Classes.{AreReadOf, read_all, read_classes_of}
use Rattle.tv_laws_integers.proofs.Elsewhere.{agrees_elsewhere}

-- ---- no other list

pub each_integer : (D : ℕ) (hs : List ℤ) (is : List Integer) → AreOrdered D hs is → AllByRecursion (IsInteger D hs) is
each_integer D hs [] order = tt
each_integer D hs (i ∷ is) order = (order.0, each_integer D hs is order.1.1)

pub own_place : (D : ℕ) (f : Family ℤ) (i : Integer) → IsInteger D f.heights i → IsCompared D (pos 1) f i.class (own_exponent i)
own_place D f i is = record { entries = is.positive.entries; degree = is.within; exponent = omega (arith, ints) }

pub only : (D : ℕ) (f : Family ℤ) (is js : List Integer) → AreIntegers D f is → AreIntegers D f js → is ≡ js
only D f is js first second = only_at f.heights D is js first.ordered second.ordered (agree is first.ordered)
    (agree js second.ordered)
  where
    agree : (ks : List Integer) → AreOrdered D f.heights ks → AllByRecursion (AgreeAt f.heights is js) ks
    agree ks order = all-onto (IsInteger D f.heights) (AgreeAt f.heights is js)
        (λ k is. first.agrees k.class (own_exponent k) (own_place D f k is)
        ∙ sym (second.agrees k.class (own_exponent k) (own_place D f k is))) ks (each_integer D f.heights ks order)

-- ---- rising lists in two parts

pub before_back : (hs : List ℤ) (us vs : List (List ℤ)) → ClassesRise hs (us ++ vs)
    → AllByRecursion (λ u. AllByRecursion (IsBefore hs u) vs) us
before_back hs [] vs rises = tt
before_back hs (u ∷ us) vs rises =
    (all-back (IsBefore hs u) us vs (first_before hs u (us ++ vs) rises), before_back hs us vs (rise_tail hs u (us ++ vs) rises))

pub back_rises : (hs : List ℤ) (us vs : List (List ℤ)) → ClassesRise hs (us ++ vs) → ClassesRise hs vs
back_rises hs [] vs rises = rises
back_rises hs (u ∷ us) vs rises = back_rises hs us vs (rise_tail hs u (us ++ vs) rises)

pub listed_or_not : (vs : List (List ℤ)) (v : List ℤ) → Contains vs v ⊎ (Contains vs v → ⊥)
listed_or_not [] v = inr (λ h. let none = h.1 in omega arith)
listed_or_not (u ∷ vs) v = bool_cases (same_vector u v)
    (λ b. inl (contains-head v u vs (same_vector_tells u v b)))
    (λ b. elim (listed_or_not vs v) as (λ _. Contains (u ∷ vs) v ⊎ (Contains (u ∷ vs) v → ⊥)) [
      | inl there ↦ inl (contains-later v u vs there)
      | inr none ↦ inr (λ h. elim (contains-cases v u vs h) as (λ _. ⊥) [
        | inl same ↦ let t = same_vector-equal u v same in cc
        | inr there ↦ none there
      ])
    ])

-- ---- what is read

module _ (D : ℕ) (f : Family ℤ) where
  -- integers of listed classes that agree at the list agree everywhere
  pub agrees_through : (N : ℤ) (vs : List (List ℤ)) (is : List Integer) → IsClosedList D f vs → IsNormalized N f
      → AllByRecursion (IsListed vs) is →
      AllByRecursion (AgreesThrough N f is) vs → (v : List ℤ) (n : ℤ) → IsCompared D N f v n → Agrees f is v n
  agrees_through N vs is closed normal listed all v n compared = elim (listed_or_not vs v) as (λ _. Agrees f is v n) [
    | inl there ↦ all-contains (AgreesThrough N f is) vs v all there n compared.exponent
    | inr none ↦ agrees_elsewhere D f vs closed N is v n normal listed compared none
  ]

  module _ (front back : List (List ℤ)) (closed : IsClosedList D f (front ++ back))
      (is : List Integer) (begun : IsBegun D f front is) where
    rest : AreReadOf D f back is (read_classes f is back)
    rest = read_all D f back is (all-back (IsClassTo D f.heights) front back closed.each)
        (back_rises f.heights front back closed.rises) begun.ordered
        (all-onto (IsListed front) (λ i. AllByRecursion (IsBefore f.heights i.class) back)
        (λ i there. all-contains (λ u. AllByRecursion (IsBefore f.heights u) back) front i.class
        (before_back f.heights front back closed.rises) there) is begun.listed)

    -- the classes of the front keep their product
    pub kept : (u : List ℤ) → Contains front u → (n : ℤ) → katz f.heights (read_classes f is back) u n ≡ katz f.heights is u n
    kept u there n = rest.same u n (all-contains (λ u. AllByRecursion (IsBefore f.heights u) back) front u
        (before_back f.heights front back closed.rises) there)

    pub all_listed : AllByRecursion (IsListed (front ++ back)) (read_classes f is back)
    all_listed = read_classes_of f (Contains (front ++ back)) back is
        (all-back (Contains (front ++ back)) front back (all-members (front ++ back)))
        (all-onto (IsListed front) (IsListed (front ++ back)) (λ i there. Contains-append_left front back i.class there)
        is begun.listed)

    -- what is read of the back makes them the integers of the family
    pub extends : IsNormalized (pos 1) f → AreIntegers D f (read_classes f is back)
    extends normal = record {
      ordered = rest.ordered;
      agrees = agrees_through (pos 1) (front ++ back) (read_classes f is back)
          closed normal all_listed at_most_one;
    }
      where
        at_most_one : AllByRecursion (AgreesThrough (pos 1) f (read_classes f is back)) (front ++ back)
        at_most_one = all-append (AgreesThrough (pos 1) f (read_classes f is back)) front back
            (all-both (Contains front) (AgreesThrough (pos 1) f is) (AgreesThrough (pos 1) f (read_classes f is back))
            (λ u there e n h. kept u there n ∙ e n h) front (all-members front) begun.agrees)
            rest.agrees

  pub are_integers : (vs : List (List ℤ)) → IsClosedList D f vs → IsNormalized (pos 1) f → AreIntegers D f (read_classes f [] vs)
  are_integers vs closed normal = extends [] vs closed [] (record { ordered = tt; listed = tt; agrees = tt }) normal

  -- the integers stand at classes of each closed list alone
  pub integers_listed : (vs : List (List ℤ)) → IsClosedList D f vs → IsNormalized (pos 1) f → (is : List Integer)
      → AreIntegers D f is → AllByRecursion (IsListed vs) is
  integers_listed vs closed normal is are =
      rw (only D f is (read_classes f [] vs) are (are_integers vs closed normal))
      (all_listed [] vs closed [] (record { ordered = tt; listed = tt; agrees = tt }))
