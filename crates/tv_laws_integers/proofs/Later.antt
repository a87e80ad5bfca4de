-- The order of integers: transitive and total, and what it says of the places where they begin.
use Rattle.std.proofs.Common.{◌≡◌, ◌⊎◌, inl, inr, ℕ, ℤ, List, [], ◌∷◌, length, sym, ◌∙◌, arith}
use Rattle.std.proofs.lemmas.Int.{ints}
use Rattle.std.proofs.lemmas.Bool.{cases_lt}
use Rattle.std.specs.List.{AllByRecursion}
use Rattle.tv_lemmas.proofs.Members.{all-onto}
use Rattle.tv_spec_series.proofs.Order.{before_trans, before_total}
use Rattle.tv_spec_katz.specs.Katz.{Integer}
use Rattle.tv_spec_katz.specs.Relations.{ComesLater, AreOrdered}
use Rattle.tv_laws_katz.specs.Further.{IsPositive, own_exponent, IsEarlier}

pub later_trans : (hs : List ℤ) (i j k : Integer) → ComesLater hs i j → ComesLater hs j k → ComesLater hs i k
later_trans hs i j k (inl a) (inl b) = inl (before_trans hs k.class j.class i.class b a)
later_trans hs i j k (inl a) (inr b) = inl (rw b.0 at a)
later_trans hs i j k (inr a) (inl b) = inl (rw (a.0) b)
later_trans hs i j k (inr a) (inr b) = let first = a.1 in let second = b.1 in inr (a.0 ∙ b.0, omega arith)

by_genus : (hs : List ℤ) (i j : Integer) → i.class ≡ j.class
    → ComesLater hs i j ⊎ (((i.class ≡ j.class) × (i.genus ≡ j.genus)) ⊎ ComesLater hs j i)
by_genus hs i j e = elim (cases_lt i.genus j.genus) as
    (λ _. ComesLater hs i j ⊎ (((i.class ≡ j.class) × (i.genus ≡ j.genus)) ⊎ ComesLater hs j i)) [
      | inl less ↦ inl (inr (e, less))
      | inr more ↦ elim (cases_lt j.genus i.genus) as
          (λ _. ComesLater hs i j ⊎ (((i.class ≡ j.class) × (i.genus ≡ j.genus)) ⊎ ComesLater hs j i)) [
            | inl less ↦ inr (inr (inr (sym e, less)))
            | inr also ↦ inr (inl (e, omega arith))
          ]
    ]

pub later_total : (hs : List ℤ) (i j : Integer) → length i.class ≡ length j.class
    → ComesLater hs i j ⊎ (((i.class ≡ j.class) × (i.genus ≡ j.genus)) ⊎ ComesLater hs j i)
later_total hs i j e = elim (before_total hs i.class j.class e) as
    (λ _. ComesLater hs i j ⊎ (((i.class ≡ j.class) × (i.genus ≡ j.genus)) ⊎ ComesLater hs j i)) [
      | inl before ↦ inr (inr (inl before))
      | inr (inl same) ↦ by_genus hs i j same
      | inr (inr after) ↦ inl (inl after)
    ]

pub later_all : (hs : List ℤ) (i j : Integer) (is : List Integer) → ComesLater hs i j → AllByRecursion (ComesLater hs j) is
    → AllByRecursion (ComesLater hs i) is
later_all hs i j is h all = all-onto (ComesLater hs j) (ComesLater hs i) (λ k b. later_trans hs i j k h b) is all

pub later_alike : (hs : List ℤ) (i j : Integer) → i.class ≡ j.class → i.genus ≡ j.genus → (ks : List Integer)
    → AllByRecursion (ComesLater hs i) ks → AllByRecursion (ComesLater hs j) ks
later_alike hs i j c g ks all = all-onto (ComesLater hs i) (ComesLater hs j) (one i j c g) ks all
  where
    one : (i j : Integer) → i.class ≡ j.class → i.genus ≡ j.genus → (k : Integer) → ComesLater hs i k → ComesLater hs j k
    one i j c g k (inl a) = inl (rw c at a)
    one i j c g k (inr a) = inr (sym c ∙ a.0, rw g at a.1)

pub earlier_place : (hs : List ℤ) (i k : Integer) → ComesLater hs i k → IsEarlier hs i k.class (own_exponent k)
earlier_place hs i k (inl a) = inl a
earlier_place hs i k (inr a) = let less = a.1 in inr (sym a.0, omega (arith, ints))

pub positives : (D : ℕ) (hs : List ℤ) (is : List Integer) → AreOrdered D hs is → AllByRecursion (IsPositive hs) is
positives D hs [] h = tt
positives D hs (i ∷ is) h = (let up = h.0.positive.degree in omega (arith, ints), positives D hs is h.1.1)
