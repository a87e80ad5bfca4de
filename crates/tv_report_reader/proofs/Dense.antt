-- The coefficients of a series, one exponent after another, along rising terms.
use Rattle.std.proofs.Common.{◌≡◌, ℕ, ℤ, pos, negsuc, zero, suc, ◌+◌, ◌≤◌, ◌≤ℤ◌, ◌+ℤ◌, ◌-ℤ◌, List, [], ◌∷◌, ◌++◌, length, take, drop, refl, sym, ◌∙◌, ap, subst, arith, unsigned_abs}
use Rattle.std.proofs.lemmas.Int.{ints, clamps}
use Rattle.std.proofs.lemmas.Bool.Decides.{Decides-int_eq}
use Rattle.std.specs.List.{AllByRecursion}
use Rattle.std.specs.Ordering.{int_eq}
use Rattle.tv_lemmas.proofs.Members.{all-onto}
use Rattle.tv_laws_series.specs.Terms.{terms, above, upto, listed, IsBounded}
use Rattle.tv_laws_series.specs.Series.{series_cut}
use Rattle.tv_laws_series.proofs.Exponents.{above_adds}
use Rattle.std.specs.Int.{int_min}
use Rattle.std.proofs.lemmas.List.{take_all}
use Rattle.tv_laws_series.proofs.NormalForm.{bool_cases}
use Rattle.tv_laws_series.proofs.Listed.{length-listed, listed-none, listed_push}
use Rattle.tv_spec_text.specs.Reports.{Term, Rises}
use Rattle.tv_spec_text.specs.Lines.{IsNumber}
use Rattle.tv_report_reader.specs.Told.{value_at, lowest, HasExponent, AreSeriesTerms, Cursor, series_of}

pub value-here : (t : Term) (ts : List Term) (n : ℤ) → t.exponent ≡ n → value_at (t ∷ ts) n ≡ t.coefficient
unfolding value_at
value-here t ts n e = rw ((Decides-int_eq t.exponent n).1 e) refl

pub value-apart : (t : Term) (ts : List Term) (n : ℤ) → (t.exponent ≡ n → ⊥) → value_at (t ∷ ts) n ≡ value_at ts n
unfolding value_at
value-apart t ts n apart = bool_cases (int_eq t.exponent n) (λ h. absurd (apart ((Decides-int_eq t.exponent n).0 h))) (λ h. rw h refl)

pub value-nil : (n : ℤ) → value_at [] n ≡ pos 0
unfolding value_at
value-nil n = refl

pub value-none : (ts : List Term) (n : ℤ) → AllByRecursion (λ (t : Term). (n +ℤ pos 1) ≤ℤ t.exponent) ts → value_at ts n ≡ pos 0
value-none [] n all = value-nil n
value-none (t ∷ ts) n all = let h = all.0 in value-apart t ts n (λ e. omega (arith, ints)) ∙ value-none ts n all.1

-- the terms behind one are above it
rises-above : (t : Term) (ts : List Term) (n : ℤ) → n ≤ℤ t.exponent → Rises (t ∷ ts) → AllByRecursion (λ (u : Term). (n +ℤ pos 1) ≤ℤ u.exponent) ts
rises-above t [] n h r = tt
rises-above t (u ∷ us) n h r = let k = r.0 in let l : (n +ℤ pos 1) ≤ℤ u.exponent = omega (arith, ints) in let m : n ≤ℤ u.exponent = omega (arith, ints) in (l, rises-above u us n m r.1)

rises-behind : (t : Term) (ts : List Term) → Rises (t ∷ ts) → Rises ts
rises-behind t [] r = tt
rises-behind t (u ∷ us) r = r.1

pub cursor-start : (ts : List Term) (n : ℤ) → Rises ts → Cursor ts ts (lowest n ts)
cursor-start [] n r = record { values = λ m h. refl; above = tt; rises = tt }
cursor-start (t ∷ ts) n r = record { values = λ m h. refl; above = (omega (arith, ints), all-onto (λ (u : Term). (t.exponent +ℤ pos 1) ≤ℤ u.exponent) (λ (u : Term). t.exponent ≤ℤ u.exponent) (λ u h. omega (arith, ints)) ts (rises-above t ts t.exponent (omega (arith, ints)) r)); rises = r }

pub cursor-value : (ts rest us : List Term) (t : Term) (n : ℤ) → Cursor ts rest n → rest ≡ t ∷ us → t.exponent ≡ n → value_at ts n ≡ t.coefficient
cursor-value ts rest us t n c e same = c.values n (omega (arith, ints)) ∙ ap (λ xs. value_at xs n) e ∙ value-here t us n same

pub cursor-further : (ts rest us : List Term) (t : Term) (n : ℤ) → Cursor ts rest n → rest ≡ t ∷ us → t.exponent ≡ n → Cursor ts us (n +ℤ pos 1)
cursor-further ts rest us t n c e same =
    let rises : Rises (t ∷ us) = subst Rises e c.rises in record {
      values = λ m h. c.values m (omega (arith, ints)) ∙ ap (λ xs. value_at xs m) e ∙ value-apart t us m (λ f. omega (arith, ints));
      above = rises-above t us n (omega (arith, ints)) rises;
      rises = rises-behind t us rises;
    }

gap-above : (rest : List Term) (n : ℤ) → AllByRecursion (λ (t : Term). n ≤ℤ t.exponent) rest → Rises rest → (HasExponent rest n → ⊥) → AllByRecursion (λ (t : Term). (n +ℤ pos 1) ≤ℤ t.exponent) rest
gap-above [] n all r apart = tt
gap-above (t ∷ ts) n all r apart = let h = all.0 in (above_apart t.exponent n h apart, rises-above t ts n h r) where
  above_apart : (m n : ℤ) → n ≤ℤ m → (m ≡ n → ⊥) → (n +ℤ pos 1) ≤ℤ m
  above_apart m n h apart = grind (arith, ints)

pub cursor-gap : (ts rest : List Term) (n : ℤ) → Cursor ts rest n → (HasExponent rest n → ⊥) → (value_at ts n ≡ pos 0) × Cursor ts rest (n +ℤ pos 1)
cursor-gap ts rest n c apart =
    let all = gap-above rest n c.above c.rises apart in
    (c.values n (omega (arith, ints)) ∙ value-none rest n all, record { values = λ m h. c.values m (omega (arith, ints)); above = all; rises = c.rises })

-- bounds

number-bound : (z : ℤ) → IsNumber z → unsigned_abs z ≤ 1000000000
number-bound (pos n) h = omega arith
number-bound (negsuc n) h = omega arith

pub lowest-bound : (N : ℤ) (ts : List Term) → AreSeriesTerms N ts → (unsigned_abs (lowest N ts) ≤ 1000000000) × (lowest N ts ≤ℤ (N +ℤ pos 1))
lowest-bound N [] f = let a = f.order.least in let b = f.order.greatest in (omega (arith, ints), omega (arith, ints))
lowest-bound N (t ∷ ts) f = let h = f.each.0 in let w = h.within in (number-bound t.exponent h.exponent, omega (arith, ints))

pub order-bound : (N : ℤ) (ts : List Term) → AreSeriesTerms N ts → (pos 1 ≤ℤ N) × (N ≤ℤ pos 64)
order-bound N ts f = (f.order.least, f.order.greatest)

pub drop-behind : {A : Type 0} (k : ℕ) (xs : List A) (x : A) (ys : List A) → drop k xs ≡ x ∷ ys → drop (k + 1) xs ≡ ys
drop-behind zero xs x ys e = ap (drop 1) e
drop-behind (suc k) [] x ys e = absurd (cc)
drop-behind (suc k) (z ∷ xs) x ys e = let n : suc k + 1 ≡ suc (k + 1) = omega arith in ap (λ j. drop j (z ∷ xs)) n ∙ drop-behind k xs x ys e

-- the coefficients at the first exponents, and the terms that are left
abbrev pub Filled : List Term → ℤ → List ℤ → ℕ → ℕ → Type 0
Filled ts low xs next k = (xs ≡ listed (λ j. value_at ts (low +ℤ pos j)) k) × Cursor ts (drop next ts) (low +ℤ pos k) × (next ≤ k)

pub filled-start : (N low : ℤ) (ts : List Term) (xs : List ℤ) → AreSeriesTerms N ts → low ≡ lowest N ts → xs ≡ [] → Filled ts low xs 0 0
filled-start N low ts xs f e none =
    let same : lowest N ts ≡ low +ℤ pos 0 = omega (arith, ints) in
    (none ∙ sym (listed-none (λ j. value_at ts (low +ℤ pos j))), subst (Cursor ts ts) same (cursor-start ts N f.rises), omega arith)

pub filled-more : (ts : List Term) (low : ℤ) (xs ys : List ℤ) (next k after : ℕ) (x : ℤ) → Filled ts low xs next k → (Cursor ts (drop next ts) (low +ℤ pos k) → (x ≡ value_at ts (low +ℤ pos k)) × Cursor ts (drop after ts) ((low +ℤ pos k) +ℤ pos 1)) → after ≤ next + 1 → ys ≡ xs ++ x ∷ [] → Filled ts low ys after (k + 1)
filled-more ts low xs ys next k after x f step h e =
    let told = step f.1 in
    let same : (low +ℤ pos k) +ℤ pos 1 ≡ low +ℤ pos (k + 1) = omega (arith, ints) in
    (listed_push (λ j. value_at ts (low +ℤ pos j)) k xs ys x f.0 e told.0, subst (Cursor ts (drop after ts)) same told.1, omega (arith, f.2))

pub filled-bounded : (ts : List Term) (low : ℤ) (xs : List ℤ) (k : ℕ) → unsigned_abs low ≤ 1000000000 → k ≤ 1048576 → xs ≡ listed (λ j. value_at ts (low +ℤ pos j)) k → IsBounded (terms low xs)
filled-bounded ts low xs k h small e =
    let n : length xs ≡ k = ap length e ∙ length-listed (λ j. value_at ts (low +ℤ pos j)) k in
    record { low = omega (arith, ints); upto = omega (arith, ints) }

pub filled-series : (N low : ℤ) (ts : List Term) (xs : List ℤ) (k : ℕ) → low ≡ lowest N ts → k ≡ above low (N +ℤ pos 1) → xs ≡ listed (λ j. value_at ts (low +ℤ pos j)) k → terms low xs ≡ series_of N ts
unfolding series_of
filled-series N low ts xs k e f same =
    ap (terms low) (same ∙ ap (listed (λ j. value_at ts (low +ℤ pos j))) f)
    ∙ ap (λ (m : ℤ). terms m (listed (λ j. value_at ts (m +ℤ pos j)) (above m (N +ℤ pos 1)))) e

to-65 : (z : ℤ) → pos 0 ≤ℤ z → z ≤ℤ pos 65 → IsNumber z
to-65 (pos n) h k = omega (arith, ints)
to-65 (negsuc n) h k = absurd (omega (arith, ints))

pub next-number : (N : ℤ) (ts : List Term) → AreSeriesTerms N ts → IsNumber (N +ℤ pos 1)
next-number N ts f = let a = f.order.least in let b = f.order.greatest in to-65 (N +ℤ pos 1) (omega (arith, ints)) (omega (arith, ints))

-- a series that is known through N is not cut there

pub lowest-within : (N : ℤ) (ts : List Term) → AreSeriesTerms N ts → lowest N ts ≤ℤ (N +ℤ pos 1)
lowest-within N ts f = (lowest-bound N ts f).1

pub series-upto : (N : ℤ) (ts : List Term) → AreSeriesTerms N ts → upto (series_of N ts) ≡ N
unfolding series_of
series-upto N ts f =
    let n = length-listed (λ k. value_at ts (lowest N ts +ℤ pos k)) (above (lowest N ts) (N +ℤ pos 1)) in
    let e = above_adds (lowest N ts) (N +ℤ pos 1) (lowest-within N ts f) in
    ap (λ k. (lowest N ts +ℤ pos k) -ℤ pos 1) n ∙ ap (λ z. z -ℤ pos 1) e ∙ (let same : (N +ℤ pos 1) -ℤ pos 1 ≡ N = omega (arith, ints) in same)

pub series-cut : (N : ℤ) (ts : List Term) → AreSeriesTerms N ts → series_cut N (series_of N ts) ≡ series_of N ts
unfolding series_of
series-cut N ts f =
    let n = length-listed (λ k. value_at ts (lowest N ts +ℤ pos k)) (above (lowest N ts) (N +ℤ pos 1)) in
    let within = lowest-within N ts f in
    let least : int_min (lowest N ts) (N +ℤ pos 1) ≡ lowest N ts = omega (arith, ints, clamps) in
    ap (λ (m : ℤ). terms m (take (above (lowest N ts) (N +ℤ pos 1)) (series_of N ts).coefficients)) least
    ∙ ap (terms (lowest N ts)) (take_all (above (lowest N ts) (N +ℤ pos 1)) (series_of N ts).coefficients (omega (arith, n)))
