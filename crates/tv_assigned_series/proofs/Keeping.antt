-- Series that are kept by the legs of their corners: what is found and what is put in.
use Rattle.std.proofs.Common.{◌≡◌, ℕ, zero, suc, ◌+◌, ◌<◌, ◌≤◌, Bool, true, false, cond, not, List, [], ◌∷◌, length, get_or, position, Some, Result, Ok, Err, refl, sym, ◌∙◌, ap, subst, arith, w64, to_z, of_z}
use Rattle.std.specs.Int.Signed.{le_z}
use Rattle.std.specs.Prelude.{ℤ, pos, negsuc, ◌+ℤ◌, ◌-ℤ◌, ◌≤ℤ◌, ◌<ℤ◌, slice_get, unsigned_abs, IsSomeAnd, IfOk, is_some}
use Rattle.std.specs.List.{position_or_len}
use Rattle.std.proofs.lemmas.Int.{ints}
use Rattle.std.proofs.lemmas.List.Quantifiers.{position-Some}
use Rattle.std.proofs.lemmas.List.{length-map}
use Rattle.indexmap.specs.IndexMap.{insert_entry}
use Rattle.std.specs.Map.{keys_of, values_of, lookup}
use Rattle.tv_ring.specs.Operations.{Operations}
use Rattle.tv_ring.specs.Sums.{times}
use Rattle.tv_laws_series.specs.Terms.{Terms, terms, listed, upto}
use Rattle.tv_laws_series.proofs.Listed.{length-listed}
use Rattle.tv_cells.specs.declared.legs.Legs.{Legs}
use Rattle.tv_vertex.specs.Corners.{extras_times, corner_terms}
use Rattle.tv_images.specs.Least.{HasCountsOf}
use Rattle.tv_assigned_series.specs.Terms.{IsCornerFrom}
use Rattle.tv_assigned_series.specs.Kept.{same, IsKept, AreKept, IsPlaceOf, Keeps, KeepsMore}
use Rattle.tv_assigned_series.proofs.Inserted.{same-legs, each-insert, still-found}

module _ {A : Type 0} (r : Operations A) where
  upto-corner : (legs : Legs) (j : ℕ) → upto (corner_terms r legs j) ≡ pos j
  upto-corner legs j = ap (λ n. (pos 0 +ℤ pos n) -ℤ pos 1) (length-listed (extras_times r legs) (suc j)) ∙ last j
    where
      last : (j : ℕ) → (pos 0 +ℤ pos (suc j)) -ℤ pos 1 ≡ pos j
      last j = omega (arith, ints)

  -- a series is known as far as it says
  far-enough : (legs : Legs) (k : ℕ) (s : Terms A) → IsCornerFrom r legs 0 s → pos k ≤ℤ upto s → IsCornerFrom r legs k s
  far-enough legs k s from h =
      let last : upto s ≡ pos from.0 = ap upto from.2 ∙ upto-corner legs from.0 in
      (from.0, (let l : pos k ≤ℤ pos from.0 = rw last at h in omega (arith, ints)), from.2)

  -- what stands where legs are found
  kept-at : (es : List (Legs × Terms A)) (legs : Legs) (i : ℕ) → i < length es → same legs (get_or (keys_of es) i legs) ≡ true → AreKept r es → IsPlaceOf r legs 0 es i
  kept-at [] legs i h found kept = absurd (omega arith)
  kept-at (e ∷ es) legs zero h found kept = (e.1, refl, subst (λ ls. IsCornerFrom r ls 0 e.1) (sym (same-legs legs e.0 found)) kept.0)
  kept-at (e ∷ es) legs (suc i) h found kept = kept-at es legs i (omega arith) found kept.1

  pub found-place : (es : List (Legs × Terms A)) (legs : Legs) (k i : ℕ) (s : Terms A) → Some i ≡ position (same legs) (keys_of es) → AreKept r es → slice_get (values_of es) i ≡ Some s → pos k ≤ℤ upto s → IsPlaceOf r legs k es i
  found-place es legs k i s found kept read far =
      let place = position-Some (same legs) (keys_of es) i legs (sym found) in
      let within : i < length es = let number = length-map es (λ e. e.0) in omega (arith, place.0) in
      let at = kept-at es legs i within place.1 kept in
      let one : at.0 ≡ s = let both : Some at.0 ≡ Some s = sym at.1 ∙ read in cc in
      (s, read, far-enough legs k s (subst (λ t. IsCornerFrom r legs 0 t) one at.2) far)

  computed : (copy legs : Legs) (k : ℕ) (s : Terms A) → copy ≡ legs → s ≡ corner_terms r legs k → IsKept r (copy, s)
  computed copy legs k s of is = (k, omega arith, is ∙ ap (λ l. corner_terms r l k) (sym of))

  -- a series that was put in
  pub still-kept : (es new : List (Legs × Terms A)) (copy legs : Legs) (k : ℕ) (s : Terms A) → copy ≡ legs → s ≡ corner_terms r legs k → new ≡ insert_entry same es copy s → AreKept r es → AreKept r new
  still-kept es new copy legs k s of is put kept = subst (AreKept r) (sym put) (each-insert (λ of s. IsCornerFrom r of 0 s) es copy s (computed copy legs k s of is) kept)

  inserted-onto : (b : Bool) (e : Legs × Terms A) (es new : List (Legs × Terms A)) (s : Terms A) (i : ℕ) → slice_get (values_of new) i ≡ Some s → slice_get (values_of (cond b ((e.0, s) ∷ es) (e ∷ new))) (cond (not b) (1 + i) 0) ≡ Some s
  inserted-onto true e es new s i rest = refl
  inserted-onto false e es new s i rest = let up : 1 + i ≡ suc i = omega arith in rw up rest

  inserted-at : (es : List (Legs × Terms A)) (legs : Legs) (s : Terms A) → slice_get (values_of (insert_entry same es legs s)) (position_or_len (same legs) (keys_of es)) ≡ Some s
  inserted-at [] legs s = refl
  inserted-at (e ∷ es) legs s = inserted-onto (same legs e.0) e es (insert_entry same es legs s) s (position_or_len (same legs) (keys_of es)) (inserted-at es legs s)

  pub put-place : (es new : List (Legs × Terms A)) (copy legs : Legs) (k i : ℕ) (s : Terms A) → s ≡ corner_terms r legs k → new ≡ insert_entry same es copy s → i ≡ position_or_len (same copy) (keys_of es) → IsPlaceOf r legs k new i
  put-place es new copy legs k i s is put at = (s, rw (put, at) (inserted-at es copy s), (k, omega arith, is))

  -- what stands at the place of a series
  pub read-place : (legs : Legs) (k : ℕ) (es : List (Legs × Terms A)) (i : ℕ) (s : Terms A) → IsPlaceOf r legs k es i → slice_get (values_of es) i ≡ Some s → IsCornerFrom r legs k s
  read-place legs k es i s place read = let one : place.0 ≡ s = let both : Some place.0 ≡ Some s = sym place.1 ∙ read in cc in subst (IsCornerFrom r legs k) one place.2

  -- what is found at the place of the legs
  pub found-kept : (es : List (Legs × Terms A)) (legs : Legs) (k i : ℕ) → IsPlaceOf r legs k es i → slice_get (values_of es) i ≡ lookup (same legs) es → Keeps r legs k es
  found-kept es legs k i place at = subst (λ o. IsSomeAnd o (IsCornerFrom r legs k)) (sym place.1 ∙ at) place.2

  -- a series that was put in where less was known
  pub keeps-more : (es new : List (Legs × Terms A)) (copy legs : Legs) (k : ℕ) (s : Terms A) → copy ≡ legs → s ≡ corner_terms r legs k → ((q : Legs) → lookup (same q) new ≡ cond (same copy q) (Some s) (lookup (same q) es)) → ((t : Terms A) → lookup (same legs) es ≡ Some t → upto t <ℤ pos k) → KeepsMore r es new
  keeps-more es new copy legs k s of is put short q m had = still-found (λ l t. IsCornerFrom r l m t) es new copy q s (put q) farther had
    where
      within : (m j : ℕ) → m ≤ j → pos j <ℤ pos k → m ≤ k
      within m j h l = omega (arith, ints)

      farther : (t : Terms A) → lookup (same copy) es ≡ Some t → IsCornerFrom r copy m t → IsCornerFrom r copy m s
      farther t at from =
          let less : upto t <ℤ pos k = short t (ap (λ l. lookup (same l) es) (sym of) ∙ at) in
          let last : upto t ≡ pos from.0 = ap upto from.2 ∙ upto-corner copy from.0 in
          (k, within m from.0 from.1 (rw last at less), is ∙ ap (λ l. corner_terms r l k) (sym of))

  -- less is known under legs where the series at their place is short, and nothing where there is none
  pub short-there : (es : List (Legs × Terms A)) (legs : Legs) (k i : ℕ) (s t : Terms A) → slice_get (values_of es) i ≡ lookup (same legs) es → slice_get (values_of es) i ≡ Some s → upto s <ℤ pos k → lookup (same legs) es ≡ Some t → upto t <ℤ pos k
  short-there es legs k i s t place read short at =
      let one : s ≡ t = let both : Some s ≡ Some t = sym read ∙ (place ∙ at) in cc in
      subst (λ (u : Terms A). upto u <ℤ pos k) one short

  pub none-there : (es : List (Legs × Terms A)) (legs : Legs) (k : ℕ) (t : Terms A) → false ≡ is_some (lookup (same legs) es) → lookup (same legs) es ≡ Some t → upto t <ℤ pos k
  none-there es legs k t none at = absurd (let e : false ≡ true = none ∙ ap is_some at in cc)

-- an image with the counts of the legs has their series
pub counted-terms : {A : Type 0} (r : Operations A) (legs image : Legs) (k : ℕ) → HasCountsOf legs image → corner_terms r image k ≡ corner_terms r legs k
unfolding extras_times
counted-terms r legs image k counts = λ i. terms (pos 0) (listed (λ n. times r (counts n i)) (suc k))

pub place-counted : {A E : Type 0} (r : Operations A) (legs image : Legs) (k : ℕ) (es : List (Legs × Terms A)) (result : Result ℕ E) → HasCountsOf legs image → IfOk result (IsPlaceOf r image k es) → IfOk result (IsPlaceOf r legs k es)
place-counted r legs image k es (Err fault) counts place = place
place-counted r legs image k es (Ok i) counts place = (place.0, place.1, (place.2.0, place.2.1, place.2.2 ∙ counted-terms r legs image place.2.0 counts))

pub read_back : (z : ℤ) → unsigned_abs z < 9223372036854775808 → to_z w64 (of_z w64 z) ≡ z
read_back z h = omega (arith, ints)

pub read_low : (z : ℤ) → negsuc 9223372036854775807 ≤ℤ z → z ≤ℤ pos 9223372036854775807 → to_z w64 (of_z w64 z) ≡ z
read_low z l h = omega (arith, ints)

pub read_far : (from upto-it last : ℤ) (k : ℕ) → to_z w64 (of_z w64 from) ≡ from → to_z w64 (of_z w64 upto-it) ≡ upto-it → from ≡ pos k → upto-it ≡ last → le_z (to_z w64 (of_z w64 from)) (to_z w64 (of_z w64 upto-it)) ≡ true → pos k ≤ℤ last
read_far from upto-it last k ef eu is ends h = let g : le_z (pos k) last ≡ true = rw (ef, eu, is, ends) at h in grind (arith, ints)

pub read_near : (from upto-it last : ℤ) (k : ℕ) → to_z w64 (of_z w64 from) ≡ from → to_z w64 (of_z w64 upto-it) ≡ upto-it → from ≡ pos k → upto-it ≡ last → le_z (to_z w64 (of_z w64 from)) (to_z w64 (of_z w64 upto-it)) ≡ false → last <ℤ pos k
read_near from upto-it last k ef eu is ends h = let g : le_z (pos k) last ≡ false = rw (ef, eu, is, ends) at h in grind (arith, ints)
