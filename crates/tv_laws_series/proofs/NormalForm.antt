-- The normal form of a row of coefficients: it is one, it keeps each coefficient, and only one row has it.
use Rattle.std.proofs.Common.{◌≡◌, ℕ, zero, suc, ◌+◌, ◌-◌, ◌<◌, ◌≤◌, ℤ, pos, ◌+ℤ◌, ◌≤ℤ◌, Bool, true, false, if◌then◌else◌, List, [], ◌∷◌, length, refl, sym, ◌∙◌, ap, subst, arith, inl, inr}
use Rattle.std.proofs.lemmas.Int.{ints}
use Rattle.std.proofs.lemmas.Bool.{cases_lt, cases_order}
use Rattle.tv_ring.specs.Operations.{Operations, RingLaws}
use Rattle.tv_ring.specs.Sums.{AreValues, at}
use Rattle.tv_laws_series.specs.Terms.{Terms, terms, above, padded, from, known}
use Rattle.tv_laws_series.specs.Polynomials.{trimmed, normal, onto, IsPoly}
use Rattle.tv_laws_series.proofs.Exponents.{above_is}
use Rattle.tv_laws_series.proofs.Listed.{at_past, same_listed}
use Rattle.tv_laws_series.proofs.Padded.{padded_before, padded_after, padded-same}
use Rattle.tv_laws_series.proofs.SeriesFrom.{from_is, terms-same}

-- ---- elements of a list

pub at-nil : {A : Type 0} (r : Operations A) (k : ℕ) → at r [] k ≡ r.nought
unfolding at
at-nil r k = refl

pub at-first : {A : Type 0} (r : Operations A) (x : A) (xs : List A) → at r (x ∷ xs) 0 ≡ x
unfolding at
at-first r x xs = refl

pub at-next : {A : Type 0} (r : Operations A) (x : A) (xs : List A) (k : ℕ) → at r (x ∷ xs) (suc k) ≡ at r xs k
unfolding at
at-next r x xs k = refl

-- ---- the equations of the normal form

pub trimmed-cons : {A : Type 0} (r : Operations A) (x : A) (xs : List A) → trimmed r (x ∷ xs) ≡ onto r x (trimmed r xs)
unfolding trimmed
trimmed-cons r x xs = refl

pub trimmed-nil : {A : Type 0} (r : Operations A) → trimmed r [] ≡ []
unfolding trimmed
trimmed-nil r = refl

pub normal-nil : {A : Type 0} (r : Operations A) (low : ℤ) → normal r low [] ≡ terms (pos 0) []
unfolding normal
normal-nil r low = refl

normal-cons : {A : Type 0} (r : Operations A) (low : ℤ) (x : A) (xs : List A) → normal r low (x ∷ xs) ≡ (if r.is_nought x then normal r (low +ℤ pos 1) xs else terms low (x ∷ trimmed r xs))
unfolding normal
normal-cons r low x xs = refl

pub normal-nought : {A : Type 0} (r : Operations A) (low : ℤ) (x : A) (xs : List A) → r.is_nought x ≡ true → normal r low (x ∷ xs) ≡ normal r (low +ℤ pos 1) xs
normal-nought r low x xs e = rw (normal-cons r low x xs, e) refl

pub normal-here : {A : Type 0} (r : Operations A) (low : ℤ) (x : A) (xs : List A) → r.is_nought x ≡ false → normal r low (x ∷ xs) ≡ terms low (x ∷ trimmed r xs)
normal-here r low x xs e = rw (normal-cons r low x xs, e) refl

-- a row that does not end in nought
abbrev EndsWell : {A : Type 0} → Operations A → List A → Type 0
EndsWell r ys = 0 < length ys → r.is_nought (at r ys (length ys - 1)) ≡ false

pub bool_cases : {P : Type 0} (b : Bool) → (b ≡ true → P) → (b ≡ false → P) → P
bool_cases true f g = f refl
bool_cases false f g = g refl

module _ {A : Type 0} {IsValue : A → Type 0} {r : Operations A} (laws : RingLaws IsValue r) where
  -- a nought is one for the test
  pub nought_is : (x : A) → x ≡ r.nought → r.is_nought x ≡ true
  nought_is x e = ap r.is_nought e ∙ laws.is_nought-nought

  pub not_nought : (x : A) → x ≡ r.nought → r.is_nought x ≡ false → ⊥
  not_nought x e f = let t = nought_is x e in cc

  -- the end is trimmed, and no coefficient changes
  at_single : (x : A) (k : ℕ) → x ≡ r.nought → at r (x ∷ []) k ≡ r.nought
  at_single x zero z = at-first r x [] ∙ z
  at_single x (suc k) z = at-next r x [] k ∙ at-nil r k

  at_cons : (x : A) (xs ys : List A) (k : ℕ) → ((j : ℕ) → at r xs j ≡ at r ys j) → at r (x ∷ xs) k ≡ at r (x ∷ ys) k
  at_cons x xs ys zero e = at-first r x xs ∙ sym (at-first r x ys)
  at_cons x xs ys (suc k) e = at-next r x xs k ∙ e k ∙ sym (at-next r x ys k)

  onto_at : (x : A) (ys : List A) (k : ℕ) → IsValue x → at r (onto r x ys) k ≡ at r (x ∷ ys) k
  onto_at x (y ∷ ys) k v = refl
  onto_at x [] k v = bool_cases (r.is_nought x) (λ e. let z = laws.only_nought x v e in rw e (at-nil r k ∙ sym (at_single x k z))) (λ e. rw e refl)

  pub tails : (x : A) (xs : List A) → AreValues IsValue (at r (x ∷ xs)) → AreValues IsValue (at r xs)
  tails x xs v k = rw (← at-next r x xs k) (v (suc k))

  pub heads : (x : A) (xs : List A) → AreValues IsValue (at r (x ∷ xs)) → IsValue x
  heads x xs v = rw (← at-first r x xs) (v 0)

  pub at-trimmed : (xs : List A) (k : ℕ) → AreValues IsValue (at r xs) → at r (trimmed r xs) k ≡ at r xs k
  at-trimmed [] k v = rw (trimmed-nil r) refl
  at-trimmed (x ∷ xs) k v = rw (trimmed-cons r x xs) (onto_at x (trimmed r xs) k (heads x xs v) ∙ at_cons x (trimmed r xs) xs k (λ j. at-trimmed xs j (tails x xs v)))

  -- ---- the ends

  onto_here : (x : A) (ys : List A) → r.is_nought x ≡ false → onto r x ys ≡ x ∷ ys
  onto_here x [] e = rw e refl
  onto_here x (y ∷ ys) e = refl

  onto_ends : (x : A) (ys : List A) → EndsWell r ys → EndsWell r (onto r x ys)
  onto_ends x (y ∷ ys) e = λ h.
      let n : length (x ∷ y ∷ ys) - 1 ≡ suc (length (y ∷ ys) - 1) = omega arith in
      rw (n, at-next r x (y ∷ ys) (length (y ∷ ys) - 1)) (e (omega arith))
  onto_ends x [] e = bool_cases (r.is_nought x) (λ b. rw b (λ h. absurd (omega arith))) (λ b. rw b (λ h. rw (at-first r x []) b))

  trimmed_ends : (xs : List A) → EndsWell r (trimmed r xs)
  trimmed_ends [] = rw (trimmed-nil r) (λ h. absurd (omega arith))
  trimmed_ends (x ∷ xs) = rw (trimmed-cons r x xs) (onto_ends x (trimmed r xs) (trimmed_ends xs))

  pub nil_is_poly : IsPoly IsValue r (terms (pos 0) [])
  nil_is_poly = record { values = λ k. rw (at-nil r k) laws.value_nought; none = λ _. refl; first = λ h. absurd (omega arith); last = λ h. absurd (omega arith) }

  here_is_poly : (low : ℤ) (x : A) (xs : List A) → r.is_nought x ≡ false → AreValues IsValue (at r (x ∷ xs)) → IsPoly IsValue r (terms low (x ∷ trimmed r xs))
  here_is_poly low x xs e v = record {
    values = λ k. rw (at_cons x (trimmed r xs) xs k (λ j. at-trimmed xs j (tails x xs v))) (v k);
    none = λ h. absurd (omega arith);
    first = λ h. rw (at-first r x (trimmed r xs)) e;
    last = subst (EndsWell r) (onto_here x (trimmed r xs) e) (onto_ends x (trimmed r xs) (trimmed_ends xs));
  }

  pub normal_is_poly : (low : ℤ) (xs : List A) → AreValues IsValue (at r xs) → IsPoly IsValue r (normal r low xs)
  normal_is_poly low [] v = rw (normal-nil r low) nil_is_poly
  normal_is_poly low (x ∷ xs) v = bool_cases (r.is_nought x)
      (λ e. rw (normal-nought r low x xs e) (normal_is_poly (low +ℤ pos 1) xs (tails x xs v)))
      (λ e. rw (normal-here r low x xs e) (here_is_poly low x xs e v))

  -- ---- from an exponent on

  pub from_nil : (m low : ℤ) (k : ℕ) → from r m (terms low []) k ≡ r.nought
  from_nil m low k = from_is r m (terms low []) k ∙ elim (cases_lt k (above m low)) as (λ _. padded r (above m low) (at r []) k ≡ r.nought) [
    | inl h ↦ padded_before r (above m low) (at r []) k h
    | inr h ↦ padded_after r (above m low) (at r []) k h ∙ at-nil r (k - above m low)
  ]

  padded_cons : (d : ℕ) (x : A) (xs : List A) (k : ℕ) → x ≡ r.nought → padded r (suc d) (at r xs) k ≡ padded r d (at r (x ∷ xs)) k
  padded_cons d x xs k z = elim (cases_order k d) as (λ _. padded r (suc d) (at r xs) k ≡ padded r d (at r (x ∷ xs)) k) [
    | inl e ↦ let n : k - d ≡ 0 = omega arith in padded_before r (suc d) (at r xs) k (omega arith) ∙ sym (padded_after r d (at r (x ∷ xs)) k (omega arith) ∙ rw n (at-first r x xs ∙ z))
    | inr (inl h) ↦ padded_before r (suc d) (at r xs) k (omega arith) ∙ sym (padded_before r d (at r (x ∷ xs)) k h)
    | inr (inr h) ↦ let n : k - d ≡ suc (k - suc d) = omega arith in padded_after r (suc d) (at r xs) k (omega arith) ∙ sym (padded_after r d (at r (x ∷ xs)) k (omega arith) ∙ rw n (at-next r x xs (k - suc d)))
  ]

  from_cons : (m low : ℤ) (x : A) (xs : List A) (k : ℕ) → m ≤ℤ low → x ≡ r.nought → from r m (terms (low +ℤ pos 1) xs) k ≡ from r m (terms low (x ∷ xs)) k
  from_cons m low x xs k h z =
      let n : above m (low +ℤ pos 1) ≡ suc (above m low) = omega (arith, ints, above_is m (low +ℤ pos 1), above_is m low) in
      from_is r m (terms (low +ℤ pos 1) xs) k ∙ rw n (padded_cons (above m low) x xs k z) ∙ sym (from_is r m (terms low (x ∷ xs)) k)

  -- no coefficient changes
  pub from-normal : (m low : ℤ) (xs : List A) (k : ℕ) → m ≤ℤ low → AreValues IsValue (at r xs) → from r m (normal r low xs) k ≡ from r m (terms low xs) k
  from-normal m low [] k h v = rw (normal-nil r low) (from_nil m (pos 0) k ∙ sym (from_nil m low k))
  from-normal m low (x ∷ xs) k h v = bool_cases (r.is_nought x)
      (λ e. rw (normal-nought r low x xs e) (from-normal m (low +ℤ pos 1) xs k (omega (arith, ints)) (tails x xs v) ∙ from_cons m low x xs k h (laws.only_nought x (heads x xs v) e)))
      (λ e. rw (normal-here r low x xs e) (from_is r m (terms low (x ∷ trimmed r xs)) k
      ∙ padded-same r (above m low) (at r (x ∷ trimmed r xs)) (at r (x ∷ xs)) k (λ i _. at_cons x (trimmed r xs) xs i (λ j. at-trimmed xs j (tails x xs v)))
      ∙ sym (from_is r m (terms low (x ∷ xs)) k)))

  -- it begins at the row's low, above it, or at 0
  pub normal_low : (m low : ℤ) (xs : List A) → m ≤ℤ low → m ≤ℤ pos 0 → m ≤ℤ (normal r low xs).low
  normal_low m low [] h z = rw (normal-nil r low) z
  normal_low m low (x ∷ xs) h z = bool_cases (r.is_nought x)
      (λ e. rw (normal-nought r low x xs e) (normal_low m (low +ℤ pos 1) xs (omega (arith, ints)) z))
      (λ e. rw (normal-here r low x xs e) h)

  -- ---- only one row in normal form has given coefficients

  pub from_place : (m : ℤ) (p : Terms A) (k : ℕ) → from r m p (above m p.low + k) ≡ at r p.coefficients k
  from_place m p k = let d = above m p.low in let n : d + k - d ≡ k = omega arith in
      from_is r m p (d + k) ∙ padded_after r d (at r p.coefficients) (d + k) (omega arith) ∙ ap (at r p.coefficients) n

  pub from_below : (m : ℤ) (p : Terms A) (k : ℕ) → k < above m p.low → from r m p k ≡ r.nought
  from_below m p k h = from_is r m p k ∙ padded_before r (above m p.low) (at r p.coefficients) k h

  pub from_past : (m : ℤ) (p : Terms A) (k : ℕ) → known m p ≤ k → from r m p k ≡ r.nought
  from_past m p k h = let d = above m p.low in
      from_is r m p k ∙ padded_after r d (at r p.coefficients) k (omega arith) ∙ at_past r p.coefficients (k - d) (omega arith)

  -- the first coefficient of q is one of p
  first_within : (m : ℤ) (p q : Terms A) → IsPoly IsValue r q → ((k : ℕ) → from r m p k ≡ from r m q k) → 0 < length q.coefficients → (above m p.low ≤ above m q.low) × (0 < length p.coefficients)
  first_within m p q nq e h =
      let d = above m q.low in let n : d + 0 ≡ d = omega arith in
      let here : from r m p d ≡ at r q.coefficients 0 = e d ∙ rw (← n) (from_place m q 0) in
      (at_least here, at_all here) where
        at_least : from r m p (above m q.low) ≡ at r q.coefficients 0 → above m p.low ≤ above m q.low
        at_least here = elim (cases_lt (above m q.low) (above m p.low)) as (λ _. above m p.low ≤ above m q.low) [
          | inl less ↦ absurd (not_nought (at r q.coefficients 0) (sym here ∙ from_below m p (above m q.low) less) (nq.first h))
          | inr fine ↦ fine
        ]

        at_all : from r m p (above m q.low) ≡ at r q.coefficients 0 → 0 < length p.coefficients
        at_all here = elim (cases_lt 0 (length p.coefficients)) as (λ _. 0 < length p.coefficients) [
          | inl fine ↦ fine
          | inr none ↦ absurd (not_nought (at r q.coefficients 0) (sym here ∙ from_past m p (above m q.low) (let z = at_least here in omega arith)) (nq.first h))
        ]

  -- so is the last one
  last_within : (m : ℤ) (p q : Terms A) → IsPoly IsValue r q → ((k : ℕ) → from r m p k ≡ from r m q k) → 0 < length q.coefficients → known m q ≤ known m p
  last_within m p q nq e h =
      let d = above m q.low in let n = length q.coefficients - 1 in
      let here : from r m p (d + n) ≡ at r q.coefficients n = e (d + n) ∙ from_place m q n in
      elim (cases_lt (d + n) (known m p)) as (λ _. known m q ≤ known m p) [
        | inl fine ↦ omega arith
        | inr past ↦ absurd (not_nought (at r q.coefficients n) (sym here ∙ from_past m p (d + n) past) (nq.last h))
      ]

  same_both : (m : ℤ) (p q : Terms A) → IsPoly IsValue r p → IsPoly IsValue r q → m ≤ℤ p.low → m ≤ℤ q.low → ((k : ℕ) → from r m p k ≡ from r m q k) → 0 < length p.coefficients → 0 < length q.coefficients → p ≡ q
  same_both m p q np nq lp lq e hp hq =
      let e' = λ (k : ℕ). sym (e k) in
      let a = first_within m p q nq e hq in let b = first_within m q p np e' hp in let c = last_within m p q nq e hq in let d = last_within m q p np e' hp in
      let a' = a.0 in let b' = b.0 in
      let lows : p.low ≡ q.low = omega (arith, ints, above_is m p.low, above_is m q.low) in
      let lengths : length p.coefficients ≡ length q.coefficients = omega arith in
      let starts : above m p.low ≡ above m q.low = omega arith in
      terms-same p.low q.low p.coefficients q.coefficients lows (same_listed r p.coefficients q.coefficients lengths (λ k _. sym (from_place m p k) ∙ e (above m p.low + k) ∙ ap (λ s. from r m q (s + k)) starts ∙ from_place m q k))

  pub same_poly : (m : ℤ) (p q : Terms A) → IsPoly IsValue r p → IsPoly IsValue r q → m ≤ℤ p.low → m ≤ℤ q.low → ((k : ℕ) → from r m p k ≡ from r m q k) → p ≡ q
  same_poly m p q np nq lp lq e = elim (cases_lt 0 (length p.coefficients)) as (λ _. p ≡ q) [
    | inl hp ↦ let b = first_within m q p np (λ k. sym (e k)) hp in same_both m p q np nq lp lq e hp b.1
    | inr zp ↦ elim (cases_lt 0 (length q.coefficients)) as (λ _. p ≡ q) [
      | inl hq ↦ let a = first_within m p q nq e hq in let a' = a.1 in absurd (omega arith)
      | inr zq ↦ let lows : p.low ≡ q.low = np.none (omega arith) ∙ sym (nq.none (omega arith)) in
          terms-same p.low q.low p.coefficients q.coefficients lows (same_listed r p.coefficients q.coefficients (omega arith) (λ k h. absurd (omega arith)))
    ]
  ]
