-- Sums into classes: the family stays one, the order of two sums does not count, and coefficients add up.
use Rattle.std.proofs.Common.{◌≡◌, ℤ, pos, ◌+ℤ◌, ◌≤ℤ◌, List, length, take, Option, Some, None, refl, sym, ◌∙◌, ap, subst, arith}
use Rattle.std.specs.Bool.{⊤}
use Rattle.std.specs.List.{AllByRecursion}
use Rattle.std.proofs.lemmas.Int.{ints, clamps}
use Rattle.std.proofs.lemmas.List.{length-take}
use Rattle.tv_ring.specs.Operations.{Operations, RingLaws}
use Rattle.tv_ring.proofs.Rings.{nought-add}
use Rattle.tv_laws_series.specs.Terms.{Terms, above, upto, IsWithin}
use Rattle.tv_laws_series.specs.Series.{series_sum, series_cut, IsSeries}
use Rattle.tv_laws_series.specs.SeriesLaws.{HasValues}
use Rattle.tv_laws_series.proofs.Exponents.{above_is}
use Rattle.tv_laws_series.proofs.Listed.{at-take, values_all}
use Rattle.tv_laws_series.proofs.NormalForm.{bool_cases}
use Rattle.tv_laws_series.proofs.SeriesFrom.{value_series_sum}
use Rattle.tv_spec_boxes.specs.Assignments.{same_vector}
use Rattle.tv_spec_series.specs.Families.{Row, Family, row, classes, coefficient, find, added, with_series, series_coefficient, coefficient_of, without_rows, IsRow, IsFamily, IsAddend}
use Rattle.tv_spec_boxes.proofs.Vectors.{same_vector_tells}
use Rattle.tv_spec_series.proofs.Order.{same_vector-equal}
use Rattle.tv_laws_series.proofs.Coefficients.{same_series, upto-sum, upto-cut, coefficient-cut, coefficient-sum, value_coefficient}
use Rattle.tv_spec_series.proofs.Rows.{find-nil, found_all, classes_all, all_rows, put_all, put_rises, find-put, find-put_other, same_rows}

-- a row that was found has a series that is known through n, and one that was not may have any
abbrev IsFound : {A : Type 0} → (A → Type 0) → Operations A → ℤ → Option (Row A) → Type 0
IsFound IsValue r n None = ⊤
IsFound IsValue r n (Some x) = (upto x.series ≡ n) × IsSeries IsValue r x.series

with_low : {A : Type 0} (r : Operations A) (n : ℤ) (s t : Terms A) (found : Option (Row A)) (v : List ℤ) → (with_series r n s (Some (row v (with_series r n t found)))).low ≡ (with_series r n t (Some (row v (with_series r n s found)))).low
with_low r n s t None v = omega (arith, ints, clamps)
with_low r n s t (Some x) v = omega (arith, ints, clamps)

with_upto : {A : Type 0} (IsValue : A → Type 0) (r : Operations A) (n : ℤ) (s : Terms A) (found : Option (Row A)) → n ≤ℤ upto s → IsFound IsValue r n found → upto (with_series r n s found) ≡ n
with_upto IsValue r n s None h f = upto-cut n s ∙ omega (arith, ints, clamps)
with_upto IsValue r n s (Some x) h f = let e = f.0 in upto-cut n (series_sum r x.series s) ∙ rw (upto-sum r x.series s) (omega (arith, ints, clamps))

-- the rows of a family
module _ {A : Type 0} {IsValue : A → Type 0} {r : Operations A} where
  pub row_lengths : (f : Family A) (v : List ℤ) → IsFamily IsValue r f → length v ≡ length f.heights → AllByRecursion (λ u. length u ≡ length v) (classes f.rows)
  row_lengths f v family e = classes_all (λ u. length u ≡ length v) f.rows
      (all_rows (IsRow IsValue r f.heights f.top f.upto) (λ x. length x.class ≡ length v) f.rows (λ x is. is.place.entries ∙ sym e) family.rows)

  is_found : (f : Family A) (v : List ℤ) → IsFamily IsValue r f → IsFound IsValue r f.upto (find v f.rows)
  is_found f v family = by_option (find v f.rows) (λ x e.
      let is : IsRow IsValue r f.heights f.top f.upto x = found_all (IsRow IsValue r f.heights f.top f.upto) v f.rows x family.rows e in (is.known, is.series))
    where
      by_option : (found : Option (Row A)) → ((x : Row A) → found ≡ Some x → (upto x.series ≡ f.upto) × IsSeries IsValue r x.series) → IsFound IsValue r f.upto found
      by_option None h = tt
      by_option (Some x) h = h x refl

  -- an addend of a family is one after another sum
  pub still_addend : (f : Family A) (v w : List ℤ) (s t : Terms A) → IsAddend IsValue r f v s → IsAddend IsValue r (added r w t f) v s
  still_addend f v w s t h = record { place = h.place; known = h.known; series = h.series }

module _ {A : Type 0} {IsValue : A → Type 0} {r : Operations A} (laws : RingLaws IsValue r) where
  cut_series : (n : ℤ) (a : Terms A) → IsWithin n → IsSeries IsValue r a → IsSeries IsValue r (series_cut n a)
  cut_series n a within s =
      let count = above a.low (n +ℤ pos 1) in let l = length-take count a.coefficients in let o = above_is a.low (n +ℤ pos 1) in
      let low = s.bounded.low in let last = s.bounded.upto in
      record {
        bounded = record { low = omega (arith, ints, clamps); upto = omega (arith, ints, clamps) };
        values = values_all laws (take count a.coefficients) (λ k h. rw (at-take r a.coefficients count k (omega arith)) (s.values k));
      }

  sum_series : (a b : Terms A) → IsSeries IsValue r a → IsSeries IsValue r b → IsSeries IsValue r (series_sum r a b)
  sum_series a b sa sb =
      let la = sa.bounded.low in let lb = sb.bounded.low in let ua = sa.bounded.upto in let ub = sb.bounded.upto in
      let e = upto-sum r a b in
      record { bounded = record { low = omega (arith, ints, clamps); upto = rw e (omega (arith, ints, clamps)) }; values = value_series_sum laws a b sa.values sb.values }

  pub with_is_series : (n : ℤ) (s : Terms A) (found : Option (Row A)) → IsWithin n → IsSeries IsValue r s → IsFound IsValue r n found → IsSeries IsValue r (with_series r n s found)
  with_is_series n s None within is f = cut_series n s within is
  with_is_series n s (Some x) within is f = cut_series n (series_sum r x.series s) within (sum_series x.series s f.1 is)

  pub value_found : (n i : ℤ) (found : Option (Row A)) → IsFound IsValue r n found → IsValue (series_coefficient r i found)
  value_found n i None f = laws.value_nought
  value_found n i (Some x) f = value_coefficient laws x.series i f.1.values

  -- each coefficient that is known is a sum
  pub coefficient-with : (n : ℤ) (s : Terms A) (found : Option (Row A)) (i : ℤ) → i ≤ℤ n → n ≤ℤ upto s → HasValues IsValue r s → IsFound IsValue r n found → coefficient r (with_series r n s found) i ≡ r.add (series_coefficient r i found) (coefficient r s i)
  coefficient-with n s None i h known v f = coefficient-cut r n s i h ∙ sym (nought-add laws (coefficient r s i) (value_coefficient laws s i v))
  coefficient-with n s (Some x) i h known v f =
      let e = f.0 in
      coefficient-cut r n (series_sum r x.series s) i h ∙ coefficient-sum laws x.series s i f.1.values v (omega (arith, ints)) (omega (arith, ints))

  add_swap : (x y z : A) → IsValue x → IsValue y → IsValue z → r.add (r.add x y) z ≡ r.add (r.add x z) y
  add_swap x y z vx vy vz = laws.add_assoc x y z vx vy vz ∙ ap (r.add x) (laws.add_comm y z vy vz) ∙ sym (laws.add_assoc x z y vx vz vy)

  with_swap : (n : ℤ) (v : List ℤ) (s t : Terms A) (found : Option (Row A)) → IsWithin n → n ≤ℤ upto s → n ≤ℤ upto t → IsSeries IsValue r s → IsSeries IsValue r t → IsFound IsValue r n found →
      with_series r n s (Some (row v (with_series r n t found))) ≡ with_series r n t (Some (row v (with_series r n s found)))
  with_swap n v s t found within ks kt is it f =
      let by_s = Some (row v (with_series r n s found)) in let by_t = Some (row v (with_series r n t found)) in
      let fs : IsFound IsValue r n by_s = (with_upto IsValue r n s found ks f, with_is_series n s found within is f) in
      let ft : IsFound IsValue r n by_t = (with_upto IsValue r n t found kt f, with_is_series n t found within it f) in
      let last : upto (with_series r n s by_t) ≡ n = with_upto IsValue r n s by_t ks ft in let last' : upto (with_series r n t by_s) ≡ n = with_upto IsValue r n t by_s kt fs in
      same_series r (with_series r n s by_t) (with_series r n t by_s) (with_low r n s t found v) (last ∙ sym last') (λ i h.
      let within_n : i ≤ℤ n = rw last at h in
      coefficient-with n s by_t i within_n ks is.values ft
      ∙ ap (λ x. r.add x (coefficient r s i)) (coefficient-with n t found i within_n kt it.values f)
      ∙ add_swap (series_coefficient r i found) (coefficient r t i) (coefficient r s i) (value_found n i found f) (value_coefficient laws t i it.values) (value_coefficient laws s i is.values)
      ∙ ap (λ x. r.add x (coefficient r t i)) (sym (coefficient-with n s found i within_n ks is.values f))
      ∙ sym (coefficient-with n t by_s i within_n kt it.values fs))

  -- ---- families

  pub added_is_family : (f : Family A) (v : List ℤ) (s : Terms A) → IsFamily IsValue r f → IsAddend IsValue r f v s → IsFamily IsValue r (added r v s f)
  added_is_family f v s family addend = record {
    within = family.within;
    rises = put_rises r f.heights f.upto v s f.rows (row_lengths f v family addend.place.entries) family.rises;
    rows = put_all r f.heights f.upto v s (IsRow IsValue r f.heights f.top f.upto) f.rows
        (record { place = addend.place; known = with_upto IsValue r f.upto s None addend.known tt; series = cut_series f.upto s family.within addend.series })
        (λ x is e. record { place = addend.place; known = with_upto IsValue r f.upto s (Some x) addend.known (is.known, is.series); series = with_is_series f.upto s (Some x) family.within addend.series (is.known, is.series) })
        family.rows;
  }

  pub find-added : (f : Family A) (v : List ℤ) (s : Terms A) → IsFamily IsValue r f → IsAddend IsValue r f v s → find v (added r v s f).rows ≡ Some (row v (with_series r f.upto s (find v f.rows)))
  find-added f v s family addend = find-put r f.heights f.upto v s f.rows (row_lengths f v family addend.place.entries) family.rises

  pub coefficient_of-added : (f : Family A) (v : List ℤ) (s : Terms A) (n : ℤ) → IsFamily IsValue r f → IsAddend IsValue r f v s → n ≤ℤ f.upto → coefficient_of r (added r v s f) v n ≡ r.add (coefficient_of r f v n) (coefficient r s n)
  coefficient_of-added f v s n family addend h =
      ap (series_coefficient r n) (find-added f v s family addend) ∙ (coefficient-with f.upto s (find v f.rows) n h addend.known addend.series.values (is_found f v family))

  -- two sums into one class
  found_twice : (f : Family A) (v : List ℤ) (s t : Terms A) → IsFamily IsValue r f → IsAddend IsValue r f v s → IsAddend IsValue r f v t → find v (added r v s (added r v t f)).rows ≡ find v (added r v t (added r v s f)).rows
  found_twice f v s t family as' at' =
      let left = added_is_family f v t family at' in let right = added_is_family f v s family as' in
      find-added (added r v t f) v s left (still_addend f v v s t as')
      ∙ ap (λ found. Some (row v (with_series r f.upto s found))) (find-added f v t family at')
      ∙ ap (λ series. Some (row v series)) (with_swap f.upto v s t (find v f.rows) family.within as'.known at'.known as'.series at'.series (is_found f v family))
      ∙ sym (find-added (added r v s f) v t right (still_addend f v v t s at')
      ∙ ap (λ found. Some (row v (with_series r f.upto t found))) (find-added f v s family as'))

  -- a sum into the class and one into another
  found_once : (f : Family A) (v w : List ℤ) (s t : Terms A) → IsFamily IsValue r f → IsAddend IsValue r f v s → IsAddend IsValue r f w t → (v ≡ w → ⊥) → find v (added r v s (added r w t f)).rows ≡ find v (added r w t (added r v s f)).rows
  found_once f v w s t family av aw apart =
      let left = added_is_family f w t family aw in let fs = added r v s f in
      find-added (added r w t f) v s left (still_addend f v w s t av)
      ∙ ap (λ found. Some (row v (with_series r f.upto s found))) (find-put_other r f.heights f.upto w t v f.rows apart)
      ∙ sym (find-put_other r f.heights f.upto w t v fs.rows apart ∙ find-added f v s family av)

  same_found : (f : Family A) (v w u : List ℤ) (s t : Terms A) → IsFamily IsValue r f → IsAddend IsValue r f v s → IsAddend IsValue r f w t → find u (added r v s (added r w t f)).rows ≡ find u (added r w t (added r v s f)).rows
  same_found f v w u s t family av aw =
      let fs = added r v s f in let ft = added r w t f in
      bool_cases (same_vector v u)
      (λ b. bool_cases (same_vector w u)
      (λ e. both (same_vector_tells v u b) (same_vector_tells w u e))
      (λ e. let P : List ℤ → Type 0 = λ z. find z (added r v s ft).rows ≡ find z (added r w t fs).rows in
      subst P (same_vector_tells v u b) (found_once f v w s t family av aw (λ same. let k = same_vector-equal w u (sym same ∙ same_vector_tells v u b) in cc))))
      (λ b. bool_cases (same_vector w u)
      (λ e. let P : List ℤ → Type 0 = λ z. find z (added r v s ft).rows ≡ find z (added r w t fs).rows in
      subst P (same_vector_tells w u e) (sym (found_once f w v t s family aw av (λ same. let k = same_vector-equal v u (sym same ∙ same_vector_tells w u e) in cc))))
      (λ e.
      let not_v : u ≡ v → ⊥ = λ same. let k = same_vector-equal v u (sym same) in cc in
      let not_w : u ≡ w → ⊥ = λ same. let k = same_vector-equal w u (sym same) in cc in
      find-put_other r f.heights f.upto v s u ft.rows not_v ∙ find-put_other r f.heights f.upto w t u f.rows not_w
      ∙ sym (find-put_other r f.heights f.upto w t u fs.rows not_w ∙ find-put_other r f.heights f.upto v s u f.rows not_v)))
    where
      both : v ≡ u → w ≡ u → find u (added r v s (added r w t f)).rows ≡ find u (added r w t (added r v s f)).rows
      both ev ew =
          let P : List ℤ → Type 0 = λ z. find u (added r z s (added r w t f)).rows ≡ find u (added r w t (added r z s f)).rows in
          let Q : List ℤ → Type 0 = λ z. find u (added r u s (added r z t f)).rows ≡ find u (added r z t (added r u s f)).rows in
          let S : List ℤ → Type 0 = λ z. IsAddend IsValue r f z s in let T : List ℤ → Type 0 = λ z. IsAddend IsValue r f z t in
          subst P (sym ev) (subst Q (sym ew) (found_twice f u s t family (subst S ev av) (subst T ew aw)))

  pub sums_commute : (f : Family A) (v w : List ℤ) (s t : Terms A) → IsFamily IsValue r f → IsAddend IsValue r f v s → IsAddend IsValue r f w t → added r v s (added r w t f) ≡ added r w t (added r v s f)
  sums_commute f v w s t family av aw =
      let left = added_is_family (added r w t f) v s (added_is_family f w t family aw) (still_addend f v w s t av) in
      let right = added_is_family (added r v s f) w t (added_is_family f v s family av) (still_addend f w v t s aw) in
      ap (λ rows. record f { rows = rows }) (same_rows f.heights _ _ left.rises right.rises (λ u. same_found f v w u s t family av aw))

pub coefficient_of-added_other : {A : Type 0} (r : Operations A) (f : Family A) (u v : List ℤ) (s : Terms A) (n : ℤ) → (u ≡ v → ⊥) → coefficient_of r (added r v s f) u n ≡ coefficient_of r f u n
coefficient_of-added_other r f u v s n apart = ap (series_coefficient r n) (find-put_other r f.heights f.upto v s u f.rows apart)

pub coefficient_of-without_rows : {A : Type 0} (r : Operations A) (hs : List ℤ) (top upto : ℤ) (v : List ℤ) (n : ℤ) → coefficient_of r (without_rows hs top upto) v n ≡ r.nought
coefficient_of-without_rows {A} r hs top upto v n = ap (series_coefficient r n) (find-nil {A = A} v)

-- a family without rows is one
pub without_rows_is_family : {A : Type 0} {IsValue : A → Type 0} {r : Operations A} (hs : List ℤ) (top n : ℤ) → IsWithin n → IsFamily IsValue r (without_rows hs top n)
without_rows_is_family hs top n within = record { within = within; rises = tt; rows = tt }
