-- The integers of a class as they are read.
--
-- length-readings    one number a weight
-- power_sum-size     powers together are at most as large as their sizes add up to
-- size-more          the sizes of all powers at a weight grow with each integer
-- IsReadTo base S R n s values powers == the values and powers after the integers at the weights below s
-- read-none, read-more, read-all  no integer yet, one integer more, and all
-- value-is           the next integer from numbers that were read
-- wide-value, fault-power  a number that is too wide on the way to an integer, or to a power with it, is so by the sizes
use Rattle.std.specs.Prelude.{◌≡◌, ℕ, zero, suc, ◌+◌, ◌-◌, ◌<◌, ◌≤◌, ℤ, pos, ◌+ℤ◌, ◌-ℤ◌, ◌*ℤ◌, unsigned_abs, List, [], ◌∷◌, ◌++◌, length, reverse}
use Rattle.std.proofs.Common.{refl, sym, ap, arith, ◌∙◌}
use Rattle.std.proofs.lemmas.Int.{ints}
use Rattle.std.proofs.lemmas.List.{reverse-append}
use Rattle.tv_ring.specs.Operations.{limit}
use Rattle.tv_ring.specs.Whole.{wholes}
use Rattle.tv_ring.specs.Sums.{at}
use Rattle.tv_recurrence.specs.declared.fault.RowFault.{RowFault}
use Rattle.tv_recurrence.specs.declared.fault.RowFault.TheVariants.{Wide, Memory}
use Rattle.tv_class_integers.specs.Powers.{added}
use Rattle.tv_class_integers.specs.Rows.{IsRow, IsTooWideAt}
use Rattle.tv_class_integers.specs.Readings.{genus_at, power_sum, power_size, sign_at, next_value, readings, all_readings, size_at, IsReading}

pub length-readings : (base : ℕ) (S R : ℕ → ℤ) (n : ℕ) → length (readings base S R n) ≡ n
unfolding readings
length-readings base S R zero = refl
length-readings base S R (suc n) = ap suc (length-readings base S R n)

pub power_sum-size : (base : ℕ) (xs : List ℤ) (t : ℕ) → unsigned_abs (power_sum base xs t) ≤ power_size base xs t
power_sum-size base [] t = omega (arith, ints)
power_sum-size base (x ∷ xs) t = omega (arith, ints, power_sum-size base xs t)

module _ (base : ℕ) (S R : ℕ → ℤ) where
  abbrev Read : ℕ → List ℤ
  Read n = readings base S R n

  one-more : (n : ℕ) → Read (suc n) ≡ next_value base S R (Read n) ∷ Read n
  unfolding readings
  one-more n = refl

  pub size-step : (n t : ℕ) → power_size base (Read (suc n)) t ≡ power_size base (Read n) t + unsigned_abs (added n
      (genus_at base n) (next_value base S R (Read n)) t)
  size-step n t =
      let count = length-readings base S R n in
      ap (λ xs. power_size base xs t) (one-more n) ∙
      ap (λ k. power_size base (Read n) t + unsigned_abs (added k (genus_at base k) (next_value base S R (Read n)) t)) count

  pub sum-step : (n t : ℕ) → power_sum base (Read (suc n)) t ≡ power_sum base (Read n) t +ℤ added n (genus_at base n)
      (next_value base S R (Read n)) t
  sum-step n t =
      let count = length-readings base S R n in
      ap (λ xs. power_sum base xs t) (one-more n) ∙
      ap (λ k. power_sum base (Read n) t +ℤ added k (genus_at base k) (next_value base S R (Read n)) t) count

  size-by : (d n m t : ℕ) → m ≡ d + n → power_size base (Read n) t ≤ power_size base (Read m) t
  size-by zero n m t e = let same : m ≡ n = omega arith in rw same (omega arith)
  size-by (suc d) n zero t e = absurd (omega arith)
  size-by (suc d) n (suc m) t e = omega (arith, size-by d n m t (omega arith), size-step m t)

  pub size-more : (n m t : ℕ) → n ≤ m → power_size base (Read n) t ≤ power_size base (Read m) t
  size-more n m t h = size-by (m - n) n m t (omega arith)

  pub value-is : (s : ℕ) (x a b p : ℤ) → a ≡ S s → b ≡ R s → p ≡ power_sum base (Read s) s →
      x ≡ a -ℤ (sign_at base s *ℤ (b -ℤ p)) → x ≡ next_value base S R (Read s)
  value-is s x a b p ea eb ep e =
      let count = length-readings base S R s in
      e ∙ rw (ea, eb, ep, count) refl

  pub record IsReadTo (n s : ℕ) (values powers : List ℤ) : Type 0 where
    pub read : values ≡ reverse (Read s)
    pub gathered : IsRow n (power_sum base (Read s)) powers

  pub read-none : (n : ℕ) (values powers : List ℤ) → values ≡ [] → IsRow n (λ t. pos 0) powers → IsReadTo n 0 values powers
  unfolding readings
  read-none n values powers e row = record { read = e; gathered = record { count = row.count; each = row.each } }

  pub read-more : (n s : ℕ) (values next powers raised : List ℤ) (x : ℤ) → IsReadTo n s values powers →
      next ≡ values ++ x ∷ [] → x ≡ next_value base S R (Read s) →
      IsRow n (λ t. at wholes powers t +ℤ added s (genus_at base s) x t) raised → IsReadTo n (s + 1) next raised
  read-more n s values next powers raised x was e ex row =
      let one : s + 1 ≡ suc s = omega arith in
      rw one (record {
        read =
            e ∙ (ap (λ v. v ++ x ∷ []) was.read ∙
            (ap (λ y. reverse (Read s) ++ y ∷ []) ex ∙
            (sym (reverse-append (next_value base S R (Read s) ∷ []) (Read s)) ∙ ap reverse (sym (one-more s)))));
        gathered = record {
          count = row.count;
          each = λ t h.
              row.each t h ∙
              (ap (λ z. z +ℤ added s (genus_at base s) x t) (was.gathered.each t h) ∙
              (ap (λ y. power_sum base (Read s) t +ℤ added s (genus_at base s) y t) ex ∙ sym (sum-step s t)));
        };
      })

  pub read-all : (n s : ℕ) (values powers : List ℤ) → IsReadTo n s values powers → s ≡ base + 2 →
      IsReading base n S R values powers
  read-all n s values powers was e =
      record {
        read = was.read ∙ ap (λ k. reverse (Read k)) e;
        gathered = record {
          count = was.gathered.count;
          each = λ t h. was.gathered.each t h ∙
              ap (λ k. power_sum base (Read k) t) e;
        };
      }

  pub wide-value : (n s : ℕ) (a b p : ℤ) → a ≡ S s → b ≡ R s → p ≡ power_sum base (Read s) s → s < base + 2 → s < n →
      limit < (unsigned_abs a + unsigned_abs b) + unsigned_abs p →
      (s < n) × (limit < size_at base S R (all_readings base S R) s)
  wide-value n s a b p ea eb ep h within wide =
      let more = size-more s (base + 2) s (omega arith) in
      let small = power_sum-size base (Read s) s in
      (within, omega (arith, ap unsigned_abs ea, ap unsigned_abs eb, ap unsigned_abs ep))

  pub fault-power : (n s : ℕ) (powers : List ℤ) (x : ℤ) → IsRow n (power_sum base (Read s)) powers →
      x ≡ next_value base S R (Read s) → s < base + 2 → (fault : RowFault) →
      IsTooWideAt (length powers) (λ t. unsigned_abs (at wholes powers t) + unsigned_abs (added s (genus_at base s) x t)) fault →
      IsTooWideAt n (size_at base S R (all_readings base S R)) fault
  fault-power n s powers x row ex h (Wide t) wide =
      let count = row.count in let first = wide.0 in
      let within : t < n = omega arith in
      let more = size-more (suc s) (base + 2) t (omega arith) in
      let small = power_sum-size base (Read s) t in
      let step = size-step s t in
      let value = ap (λ y. unsigned_abs (added s (genus_at base s) y t)) ex in
      (within, omega (arith, ap unsigned_abs (row.each t within), wide.1))
  fault-power n s powers x row ex h Memory wide = tt
