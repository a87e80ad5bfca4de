-- How a search narrows the place of a class among sorted rows.
use Rattle.std.proofs.Common.{◌≡◌, ℕ, zero, suc, ◌+◌, ◌<◌, ◌≤◌, ℤ, true, false, List, [], ◌∷◌, length, get_or, refl, ap, inl, inr, arith}
use Rattle.std.proofs.lemmas.Bool.{cases_lt}
use Rattle.tv_lemmas.proofs.Members.{all-at}
use Rattle.tv_laws_series.proofs.NormalForm.{bool_cases}
use Rattle.tv_spec_boxes.specs.Classes.{IsBefore, ClassesRise}
use Rattle.tv_spec_series.specs.Families.{comes_before}
use Rattle.tv_spec_series.proofs.Order.{comes_before-true, comes_before_tells, before_trans, rise_tail, first_before}
use Rattle.tv_integers.specs.Rows.{ClassRow, classes, class_at}

pub length-classes : (rows : List ClassRow) → length (classes rows) ≡ length rows
length-classes [] = refl
length-classes (r ∷ rows) = let e = length-classes rows in omega arith

-- what a read of a row gives
pub class_read : (rows : List ClassRow) (i : ℕ) (r : ClassRow) → r ≡ get_or rows i r → i < length rows → r.class ≡ class_at rows i
class_read [] i r read h = absurd (omega arith)
class_read (y ∷ rows) zero r read h = ap (λ z. z.class) read
class_read (y ∷ rows) (suc i) r read h = class_read rows i r read (omega arith)

rise_at : (hs : List ℤ) (vs : List (List ℤ)) (i j : ℕ) → ClassesRise hs vs → i < j → j < length vs → IsBefore hs (get_or vs i []) (get_or vs j [])
rise_at hs [] i j rises h k = absurd (omega arith)
rise_at hs (v ∷ vs) i zero rises h k = absurd (omega arith)
rise_at hs (v ∷ vs) zero (suc j) rises h k = all-at (IsBefore hs v) vs [] (first_before hs v vs rises) j (omega arith)
rise_at hs (v ∷ vs) (suc i) (suc j) rises h k = rise_at hs vs i j (rise_tail hs v vs rises) (omega arith) (omega arith)

-- the place is at least low and at most high
pub record IsBracket (hs v : List ℤ) (rows : List ClassRow) (low high : ℕ) : Type 0 where
  pub ordered : low ≤ high
  pub within : high ≤ length rows
  pub earlier : (k : ℕ) → k < low → comes_before hs (class_at rows k) v ≡ true
  pub later : (k : ℕ) → high ≤ k → k < length rows → comes_before hs (class_at rows k) v ≡ false

module _ (hs v : List ℤ) (rows : List ClassRow) (low high middle : ℕ) (rises : ClassesRise hs (classes rows)) (b : IsBracket hs v rows low high) where
  -- the row in the middle comes before the class: the place is after it
  pub bracket_up : middle < high → comes_before hs (class_at rows middle) v ≡ true → IsBracket hs v rows (middle + 1) high
  bracket_up h e = record {
    ordered = omega arith;
    within = b.within;
    earlier = λ k l. elim (cases_lt k middle) as (λ _. comes_before hs (class_at rows k) v ≡ true) [
      | inl less ↦ let w = b.within in let n = length-classes rows in comes_before-true hs (class_at rows k) v
          (before_trans hs (class_at rows k) (class_at rows middle) v (rise_at hs (classes rows) k middle rises less (omega arith)) (comes_before_tells hs (class_at rows middle) v e))
      | inr not_less ↦ let same : k ≡ middle = omega arith in rw same e
    ];
    later = b.later;
  }

  -- it does not: the place is not after it
  pub bracket_down : low ≤ middle → middle < high → comes_before hs (class_at rows middle) v ≡ false → IsBracket hs v rows low middle
  bracket_down l h e = record {
    ordered = l;
    within = let w = b.within in omega arith;
    earlier = b.earlier;
    later = λ k m w. elim (cases_lt middle k) as (λ _. comes_before hs (class_at rows k) v ≡ false) [
      | inl more ↦ let n = length-classes rows in bool_cases (comes_before hs (class_at rows k) v)
          (λ t. let up = comes_before-true hs (class_at rows middle) v
          (before_trans hs (class_at rows middle) (class_at rows k) v (rise_at hs (classes rows) middle k rises more (omega arith)) (comes_before_tells hs (class_at rows k) v t)) in cc)
          (λ f. f)
      | inr not_more ↦ let same : k ≡ middle = omega arith in rw same e
    ];
  }
