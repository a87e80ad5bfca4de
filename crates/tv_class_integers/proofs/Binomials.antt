-- Rows of Pascal's triangle.
--
-- length-pair_sums     sums of pairs are as many as the entries
-- row-next, row-next_at  the sums of pairs of one row are the next row
-- wide-later, fault-later  an entry that is too wide makes that of each later row so
-- IsSummed row i before sums == the first i sums, where the entry before stands at their end
-- sum-here             the sum at the next entry
-- summed-none, summed-more, summed-all  no sum yet, one more, and all; summed-wide, where one more is too wide
use Rattle.std.specs.Prelude.{◌≡◌, ℕ, zero, suc, ◌+◌, ◌<◌, ◌≤◌, ℤ, pos, ◌+ℤ◌, List, [], ◌∷◌, ◌++◌, length, unsigned_abs}
use Rattle.std.proofs.Common.{refl, sym, ap, arith, ◌∙◌, get_or, drop, append_assoc, append-nil, length-append}
use Rattle.std.proofs.Math.Seq.{drop-cons}
use Rattle.std.proofs.lemmas.Int.{ints}
use Rattle.std.proofs.lemmas.List.{drop_all}
use Rattle.tv_ring.specs.Operations.{limit}
use Rattle.tv_ring.specs.Whole.{wholes}
use Rattle.tv_ring.specs.Sums.{at}
use Rattle.tv_spec_katz.specs.Binomials.{choose}
use Rattle.tv_laws_katz.proofs.Powers.{choose-more}
use Rattle.tv_recurrence.specs.declared.fault.RowFault.{RowFault}
use Rattle.tv_recurrence.specs.declared.fault.RowFault.TheVariants.{Wide, Memory}
use Rattle.tv_class_integers.specs.Rows.{pair_sums, IsRow, IsTooWideAt}
use Rattle.tv_class_integers.proofs.RowSteps.{at-seam}

pub length-pair_sums : (x : ℤ) (row : List ℤ) → length (pair_sums x row) ≡ length row
length-pair_sums x [] = refl
length-pair_sums x (y ∷ row) = ap suc (length-pair_sums y row)

at-first : (x y : ℤ) (row : List ℤ) → at wholes (pair_sums x (y ∷ row)) 0 ≡ x +ℤ at wholes (y ∷ row) 0
unfolding at
at-first x y row = refl

at-later : (x y : ℤ) (row : List ℤ) (j : ℕ) → suc j < length (y ∷ row) →
    at wholes (pair_sums x (y ∷ row)) (suc j) ≡ at wholes (y ∷ row) j +ℤ at wholes (y ∷ row) (suc j)
unfolding at
at-later x y [] j h = absurd (omega arith)
at-later x y (z ∷ row) zero h = refl
at-later x y (z ∷ row) (suc j) h = at-later y z row j (omega arith)

entry-next : (n w : ℕ) (row : List ℤ) → IsRow w (λ j. pos (choose n j)) row → (j : ℕ) → j < w →
    at wholes (pair_sums (pos 0) row) j ≡ pos (choose (suc n) j)
unfolding choose
entry-next n w [] was j h = let count = was.count in absurd (omega arith)
entry-next n w (y ∷ row) was zero h = let e = was.each 0 h in omega (arith, ints, at-first (pos 0) y row)
entry-next n w (y ∷ row) was (suc j) h =
    let count = was.count in
    let more : j < w = omega arith in
    let e = was.each j more in let d = was.each (suc j) h in
    at-later (pos 0) y row j (omega arith) ∙ omega (arith, ints)

pub row-next : (n w : ℕ) (row : List ℤ) → IsRow w (λ j. pos (choose n j)) row →
    IsRow w (λ j. pos (choose (suc n) j)) (pair_sums (pos 0) row)
row-next n w row was = record { count = length-pair_sums (pos 0) row ∙ was.count; each = entry-next n w row was }

pub row-next_at : (n w : ℕ) (row next : List ℤ) → IsRow w (λ j. pos (choose n j)) row → next ≡ pair_sums (pos 0) row →
    IsRow w (λ j. pos (choose (n + 1) j)) next
row-next_at n w row next was e =
    let one : n + 1 ≡ suc n = omega arith in rw (one, e) (row-next n w row was)

-- an entry that is too wide makes that of each later row so
pub wide-later : (m n w j : ℕ) (row : List ℤ) → IsRow w (λ j. pos (choose m j)) row → m < n →
    (j < length row) × (limit < unsigned_abs (at wholes (pair_sums (pos 0) row) j)) → (j < w) × (limit < choose n j)
wide-later m n w j row was h wide =
    let first = wide.0 in let second = wide.1 in let count = was.count in
    let within : j < w = omega arith in
    (within, omega (arith, ints, ap unsigned_abs (entry-next m w row was j within), choose-more (suc m) n j h))

pub fault-later : (m n w : ℕ) (row : List ℤ) → IsRow w (λ j. pos (choose m j)) row → m < n → (fault : RowFault) →
    IsTooWideAt (length row) (λ j. unsigned_abs (at wholes (pair_sums (pos 0) row) j)) fault → IsTooWideAt w (choose n) fault
fault-later m n w row was h (Wide j) wide = wide-later m n w j row was h wide
fault-later m n w row was h Memory wide = tt

-- the sums that a loop has made, with those that are left
pub record IsSummed (row : List ℤ) (i : ℕ) (before : ℤ) (sums : List ℤ) : Type 0 where
  pub whole : sums ++ pair_sums before (drop i row) ≡ pair_sums (pos 0) row
  pub count : length sums ≡ i

module _ (row : List ℤ) (i : ℕ) (before x : ℤ) (sums : List ℤ) (was : IsSummed row i before sums) (read : x ≡ get_or row i x)
    (within : i < length row) where
  here : sums ++ (before +ℤ x) ∷ pair_sums x (drop (suc i) row) ≡ pair_sums (pos 0) row
  here =
      let rest : drop i row ≡ x ∷ drop (suc i) row = drop-cons row i x within ∙ ap (λ y. y ∷ drop (suc i) row) (sym read) in
      ap (λ r. sums ++ pair_sums before r) (sym rest) ∙ was.whole

  pub sum-here : at wholes (pair_sums (pos 0) row) i ≡ before +ℤ x
  sum-here =
      ap (λ r. at wholes r i) (sym here) ∙
      (ap (λ k. at wholes (sums ++ (before +ℤ x) ∷ pair_sums x (drop (suc i) row)) k) (sym was.count) ∙
      at-seam sums (pair_sums x (drop (suc i) row)) (before +ℤ x))

  pub summed-more : (next : List ℤ) → next ≡ sums ++ (before +ℤ x) ∷ [] → IsSummed row (i + 1) x next
  summed-more next e =
      let one : i + 1 ≡ suc i = omega arith in
      record {
        whole =
            rw (e, one) (append_assoc sums ((before +ℤ x) ∷ []) (pair_sums x (drop (suc i) row)) ∙ here);
        count = ap length e ∙ omega (arith, length-append sums ((before +ℤ x) ∷ []), was.count);
      }

  pub summed-wide : (k : ℕ) → k ≡ length sums → limit < unsigned_abs (before +ℤ x) →
      (k < length row) × (limit < unsigned_abs (at wholes (pair_sums (pos 0) row) k))
  summed-wide k e wide =
      let same : k ≡ i = e ∙ was.count in
      rw same (within, omega (arith, ap unsigned_abs sum-here))

pub summed-none : (row sums : List ℤ) (before : ℤ) → sums ≡ [] → before ≡ pos 0 → IsSummed row 0 before sums
summed-none row sums before e d = rw (e, d) (record { whole = refl; count = refl })

pub summed-all : (row : List ℤ) (i : ℕ) (before : ℤ) (sums : List ℤ) → IsSummed row i before sums → length row ≤ i →
    sums ≡ pair_sums (pos 0) row
summed-all row i before sums was all =
    let none : sums ++ pair_sums before (drop i row) ≡ sums ++ [] = ap (λ r. sums ++ pair_sums before r) (drop_all i row all) in
    sym (append-nil sums) ∙ (sym none ∙ was.whole)
